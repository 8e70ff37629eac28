-- Stops that were told, one after another, and letters that wait meanwhile.
use Rattle.std.proofs.Common.{◌≡◌, ℕ, true, false, List, refl, sym, subst, ◌∙◌, arith}
use Rattle.std.specs.List.{Contains}
use Rattle.std.proofs.lemmas.List.Elements.{Contains-append_left}
use Rattle.coco_net.specs.declared.letter.Letter.{Letter}
use Rattle.coco_net.specs.declared.letter.Posted.{Posted}
use Rattle.coco_letters.specs.Turns.{AreFresh, AreSent}
use Rattle.coco_vote.specs.declared.step.Stops.{Stops}
use Rattle.coco_vote.specs.declared.step.Stops.TheVariants.{Never, Late, Early}
use Rattle.coco_vote.specs.Taking.{both_of, has_lost, CountsStops, UnlessLost}

pub counts_both : (a b : Stops) (s e t f u g : ℕ) → CountsStops a s e t f → CountsStops b t f u g → CountsStops (both_of a b) s e u g
counts_both Never Never s e t f u g one two = (two.0 ∙ one.0, two.1 ∙ one.1)
counts_both Never Late s e t f u g one two = (omega (arith, one.0, two.0), two.1 ∙ one.1)
counts_both Never Early s e t f u g one two = (omega (arith, one.0, two.0), omega (arith, one.1, two.1))
counts_both Late Never s e t f u g one two = (omega (arith, one.0, two.0), two.1 ∙ one.1)
counts_both Late Late s e t f u g one two = (omega (arith, one.0, two.0), two.1 ∙ one.1)
counts_both Late Early s e t f u g one two = (omega (arith, one.0, two.0), omega (arith, one.1, two.1))
counts_both Early Never s e t f u g one two = (omega (arith, one.0, two.0), omega (arith, one.1, two.1))
counts_both Early Late s e t f u g one two = (omega (arith, one.0, two.0), omega (arith, one.1, two.1))
counts_both Early Early s e t f u g one two = (omega (arith, one.0, two.0), omega (arith, one.1, two.1))

pub never_both : (a b : Stops) → both_of a b ≡ Never → (a ≡ Never) × (b ≡ Never)
never_both Never b is = (refl, is)
never_both Late Never is = absurd cc
never_both Late Late is = absurd cc
never_both Late Early is = absurd cc
never_both Early b is = absurd cc

pub kept_both : (a b : Stops) → has_lost (both_of a b) ≡ false → (has_lost a ≡ false) × (has_lost b ≡ false)
kept_both Never b is = (refl, is)
kept_both Late Never is = (refl, refl)
kept_both Late Late is = (refl, refl)
kept_both Late Early is = absurd cc
kept_both Early b is = absurd cc

pub unless_lost : (stops : Stops) (Fact : Type 0) → has_lost stops ≡ true → UnlessLost stops Fact
unless_lost Never Fact is = absurd cc
unless_lost Late Fact is = absurd cc
unless_lost Early Fact is = tt

pub unless_kept : (stops : Stops) (Fact : Type 0) → has_lost stops ≡ false → UnlessLost stops Fact → Fact
unless_kept Never Fact is fact = fact
unless_kept Late Fact is fact = fact
unless_kept Early Fact is fact = absurd cc

pub unless_both : (a b : Stops) (Fact : Type 0) → has_lost a ≡ false → UnlessLost b Fact → UnlessLost (both_of a b) Fact
unless_both Never b Fact is fact = fact
unless_both Late Never Fact is fact = fact
unless_both Late Late Fact is fact = fact
unless_both Late Early Fact is fact = tt
unless_both Early b Fact is fact = absurd cc

-- what holds of stops that are both of these
pub stops_at : (stops a b : Stops) (P : Stops → Type 0) → stops ≡ both_of a b → P (both_of a b) → P stops
stops_at stops a b P is holds = subst P (sym is) holds

-- more was sent, and no more waits
pub sent_more : (sent fresh after fresh_new : List Posted) (waiting rest : ℕ → List Letter) → AreFresh sent fresh after fresh_new → ((p : ℕ) → rest p ≡ waiting p) → AreSent sent waiting → AreSent after rest
sent_more sent fresh after fresh_new waiting rest new same are place letter le among =
    let p : Posted = record { to = place; letter = letter } in
    subst (λ (ps : List Posted). Contains ps p) (sym new.sent_is)
    (Contains-append_left sent new.posts p (are place letter le (subst (λ (ls : List Letter). Contains ls letter) (same place) among)))

pub never_lost : (stops : Stops) → stops ≡ Never → has_lost stops ≡ true → ⊥
never_lost Never is lost = cc
never_lost Late is lost = cc
never_lost Early is lost = cc
