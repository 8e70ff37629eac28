use Rattle.std.proofs.Common.{◌≡◌, List, [], ◌∷◌, Option, Some, None, subst, sym}
use Rattle.std.specs.Prelude.{IfSome, MatchOption}
use Rattle.std.specs.List.{Contains}
use Rattle.coco_net.specs.declared.letter.Letter.{Letter}
use Rattle.coco_net.specs.declared.letter.Posted.{Posted}
use Rattle.coco_node_tests.proofs.letters.take.Goals as goal

some_of : {X : Type 0} (A : Type 0) (B P : X → Type 0) (o : Option X) → ((x : X) → B x → P x) → MatchOption o A B → IfSome o P
some_of A B P None f m = tt
some_of A B P (Some x) f m = f x m

pub returns : goal.returns
returns g c =
    let before : List Letter = g.N.Net.waiting c.args.net.now c.args.place in
    let after : List Letter = g.N.Net.waiting c.next.new.self c.args.place in
    some_of ((before ≡ []) × (after ≡ [])) (λ l. before ≡ l ∷ after) (λ l. Contains (g.N.Net.sent c.next.new.self) (record { to = c.args.place; letter = l })) c.next.result
    (λ l is. subst (λ (ps : List Posted). Contains ps (record { to = c.args.place; letter = l })) (sym c.next.ensures.sent)
    (c.waiting_letters_were_sent.ensures.letter (g.N.Net.sent c.args.net.now) (g.N.Net.waiting c.args.net.now) (g.N.Net.waiting c.next.new.self) c.args.place l c.requires.place c.requires.sent is))
    c.next.ensures.first
