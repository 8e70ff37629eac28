-- Letters that a place takes one behind another.
use Rattle.std.proofs.Common.{◌≡◌, ℕ, ◌≤◌, List, ◌++◌, sym, ap, subst, ◌∙◌, append_assoc}
use Rattle.std.specs.List.{Contains}
use Rattle.std.proofs.lemmas.List.Elements.{Contains-append_left}
use Rattle.coco_net.specs.declared.letter.Letter.{Letter}
use Rattle.coco_net.specs.declared.letter.Posted.{Posted}
use Rattle.coco_letters.specs.Turns.{AreFresh, AreSent}

pub fresh_then : (s f t g u h : List Posted) → AreFresh s f t g → AreFresh t g u h → AreFresh s f u h
fresh_then s f t g u h one two = record {
  posts = one.posts ++ two.posts;
  sent_is = two.sent_is ∙ ap (λ (ps : List Posted). ps ++ two.posts) one.sent_is ∙ append_assoc s one.posts two.posts;
  fresh_is = two.fresh_is ∙ ap (λ (ps : List Posted). ps ++ two.posts) one.fresh_is ∙ append_assoc f one.posts two.posts;
}

-- more letters are sent
pub sent_more : (sent sent_new : List Posted) (posts : List Posted) (waiting later : ℕ → List Letter) → sent_new ≡ sent ++ posts → ((p : ℕ) → later p ≡ waiting p) → AreSent sent waiting → AreSent sent_new later
sent_more sent sent_new posts waiting later is still are place l within among =
    subst (λ (ps : List Posted). Contains ps (record { to = place; letter = l })) (sym is)
    (Contains-append_left sent posts (record { to = place; letter = l }) (are place l within (subst (λ (ls : List Letter). Contains ls l) (still place) among)))
