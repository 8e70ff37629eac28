-- More letters are sent, whatever was answered.
use Rattle.std.proofs.Common.{◌≡◌, List, [], ◌++◌, ap, sym, ◌∙◌, append_assoc, append-nil}
use Rattle.coco_net.specs.declared.letter.Posted.{Posted}
use Rattle.coco_letters.specs.Telling.{Adds}
use Rattle.coco_letters.specs.Turns.{AreFresh, SendsMore}

pub sends_none : (sent sent_new : List Posted) → sent_new ≡ sent → SendsMore sent sent_new
sends_none sent sent_new is = ([], is ∙ sym (append-nil sent))

pub sends_then : (s t u : List Posted) → SendsMore s t → SendsMore t u → SendsMore s u
sends_then s t u one two = (one.0 ++ two.0, two.1 ∙ ap (λ (ps : List Posted). ps ++ two.0) one.1 ∙ append_assoc s one.0 two.0)

pub sends_fresh : (sent fresh sent_new fresh_new : List Posted) → AreFresh sent fresh sent_new fresh_new → SendsMore sent sent_new
sends_fresh sent fresh sent_new fresh_new are = (are.posts, are.sent_is)

pub sends_such : {Such : Posted → Type 0} (sent sent_new : List Posted) → Adds Such sent sent_new → SendsMore sent sent_new
sends_such sent sent_new adds = (adds.posts, adds.sent_is)

-- nothing was sent
pub fresh_same : (sent fresh sent_new fresh_new : List Posted) → sent_new ≡ sent → fresh_new ≡ fresh → AreFresh sent fresh sent_new fresh_new
fresh_same sent fresh sent_new fresh_new a b = record { posts = []; sent_is = a ∙ sym (append-nil sent); fresh_is = b ∙ sym (append-nil fresh) }
