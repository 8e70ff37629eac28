-- What a power and a net were asked for in an epoch, from call to call.
use Rattle.std.proofs.Common.{◌≡◌, inl, inr, ⊎_elim, ℕ, ◌+◌, ◌<◌, ◌≤◌, ◌==◌, ◌&&◌, ◌||◌, Bool, true, false, nat_lt, List, ◌++◌, length, refl, sym, ap, ◌∙◌, subst, arith}
use Rattle.std.specs.List.{Contains}
use Rattle.std.proofs.Math.Seq.{drop-append_seam}
use Rattle.std.proofs.lemmas.Bool.{cases_lt, eq-eqb, lt-ltb}
use Rattle.std.proofs.lemmas.List.{append_assoc}
use Rattle.std.proofs.lemmas.List.Elements.{Contains-append_left, Contains-append_right}
use Rattle.coco_chief.specs.Chief.{Chief}
use Rattle.coco_entry.specs.declared.layout.Layout.{Layout}
use Rattle.coco_letters.specs.Around.{Around, IsLater}
use Rattle.coco_letters.specs.GivingUp.{since}
use Rattle.coco_lost.specs.Stopping.{AreAsked, AsksFirst}
use Rattle.coco_net.specs.declared.letter.Posted.{Posted}
use Rattle.coco_node.specs.Node.{Node}
use Rattle.coco_ship.specs.Letters.{all_of}
use Rattle.coco_ship.specs.Shipping.{HaveAnswered}
use Rattle.coco_ship.specs.declared.ring.Ring.{Ring}
use Rattle.coco_trial.specs.Running.{ring_of}
use Rattle.coco_trial.specs.Voting.{ComesOf}
use Rattle.coco_cluster.specs.Stepping.{AsksForAll, HasAsked, HasBegun, IsVotedFor, MayHaveBegun, VotedForBy, VotedForIf}
use Rattle.coco_cluster.specs.declared.trying.Tried.{Tried}
use Rattle.coco_cluster.specs.declared.trying.Tried.TheVariants.{Voted, GivenUp}
use Rattle.coco_cluster.proofs.StepLemmas.{begun_then}

-- ---- letters that were given

-- what came behind a moment, where more has come since
since_seam : (xs ys : List Posted) (zs : List Posted) → zs ≡ xs ++ ys → since xs zs ≡ ys
since_seam xs ys zs is = ap (λ (l : List Posted). since xs l) is ∙ drop-append_seam xs ys

answered_until : (ring : Ring) (epoch : ℕ) (a m b : Around) → IsLater a m → IsLater m b → HaveAnswered ring epoch (since a.given m.given) → HaveAnswered ring epoch (since a.given b.given)
answered_until ring epoch a m b one two have p j is =
    let whole : b.given ≡ a.given ++ (one.given.0 ++ two.given.0) = two.given.1 ∙ ap (λ (l : List Posted). l ++ two.given.0) one.given.1 ∙ append_assoc a.given one.given.0 two.given.0 in
    subst (λ (l : List Posted). Contains l (all_of ring epoch p j)) (sym (since_seam a.given (one.given.0 ++ two.given.0) b.given whole))
    (Contains-append_left one.given.0 two.given.0 (all_of ring epoch p j) (subst (λ (l : List Posted). Contains l (all_of ring epoch p j)) (since_seam a.given one.given.0 m.given one.given.1) (have p j is)))

answered_from : (ring : Ring) (epoch : ℕ) (a m b : Around) → IsLater a m → IsLater m b → HaveAnswered ring epoch (since m.given b.given) → HaveAnswered ring epoch (since a.given b.given)
answered_from ring epoch a m b one two have p j is =
    let whole : b.given ≡ a.given ++ (one.given.0 ++ two.given.0) = two.given.1 ∙ ap (λ (l : List Posted). l ++ two.given.0) one.given.1 ∙ append_assoc a.given one.given.0 two.given.0 in
    subst (λ (l : List Posted). Contains l (all_of ring epoch p j)) (sym (since_seam a.given (one.given.0 ++ two.given.0) b.given whole))
    (Contains-append_right one.given.0 two.given.0 (all_of ring epoch p j) (subst (λ (l : List Posted). Contains l (all_of ring epoch p j)) (since_seam m.given two.given.0 b.given two.given.1) (have p j is)))

-- ---- questions at points

-- each node was asked at a point at which none stopped
asked_there : (count point : ℕ) (asked asked_new : ℕ → ℕ → Bool) → count ≤ 8 → point ≤ 6 → AreAsked count point asked asked_new → (n : ℕ) → n < count → asked_new n point ≡ true
asked_there count point asked asked_new few six are n lt =
    are n point (omega (arith, few, lt)) six ∙ so (nat_lt n count) (point == point) (lt-ltb n count lt) (eq-eqb point point refl) _
  where
    so : (a b : Bool) → a ≡ true → b ≡ true → (c : Bool) → ((a && b) || c) ≡ true
    so a b is also c = rw is (rw also refl)

pub asked_none : (stops : Bool) (count point : ℕ) (stopped stopped_new : ℕ → ℕ) (asked asked_new : ℕ → ℕ → Bool) → stops ≡ false → count ≤ 8 → point ≤ 6
    → AsksFirst stops point count stopped stopped_new asked asked_new → (n : ℕ) → n < count → asked_new n point ≡ true
asked_none true count point stopped stopped_new asked asked_new is few six asks n lt = absurd cc
asked_none false count point stopped stopped_new asked asked_new is few six asks n lt = asked_there count point asked asked_new few six asks n lt

-- what was asked stays asked
abbrev pub Stay : Around → Around → Type 0
Stay a b = (n p : ℕ) → n < 8 → p ≤ 6 → a.asked n p ≡ true → b.asked n p ≡ true

-- at three points
three_points : (asked : ℕ → Bool) → asked 3 ≡ true → asked 4 ≡ true → asked 5 ≡ true → (p : ℕ) → 3 ≤ p → p ≤ 5 → asked p ≡ true
three_points asked three four five p low high = ⊎_elim
    (λ below. (let is : 3 ≡ p = omega (arith, low, below) in subst (λ q. asked q ≡ true) is three))
    (λ up. ⊎_elim (λ below. (let is : 4 ≡ p = omega (arith, up, below) in subst (λ q. asked q ≡ true) is four)) (λ top. (let is : 5 ≡ p = omega (arith, top, high) in subst (λ q. asked q ≡ true) is five)) (cases_lt p 5))
    (cases_lt p 4)

-- ---- an epoch that all voted for

-- as the vote says it, behind the ship phase
pub voted_shipped : (all : Bool) (layout : Layout) (epoch : ℕ) (cores : List Node) (chief : Chief) (a m b : Around) → layout.nodes ≡ length cores → IsLater a m → IsLater m b → m.early ≡ a.early
    → HaveAnswered (ring_of layout) epoch (since a.given m.given) → ComesOf all epoch cores chief m b → VotedForIf all layout epoch 3 a b
voted_shipped true layout epoch cores chief a m b nodes one two same answered comes = record {
  early = comes.early ∙ same;
  asked = λ n p lt low high. (let points = comes.points n (omega (arith, lt, nodes)) in three_points (λ q. b.asked n q) points.0 points.1 points.2 p low high);
  answered = answered_until (ring_of layout) epoch a m b one two answered;
}
voted_shipped false layout epoch cores chief a m b nodes one two same answered comes = tt

-- one point before
point_before : (layout : Layout) (epoch first last : ℕ) (a m b : Around) → layout.nodes ≤ 8 → first ≤ 6 → IsLater a m → IsLater m b → m.early ≡ a.early → Stay m b
    → ((n : ℕ) → n < layout.nodes → m.asked n first ≡ true) → IsVotedFor layout epoch (first + 1) last m b → IsVotedFor layout epoch first last a b
point_before layout epoch first last a m b few six one two same stay asked voted = record {
  early = voted.early ∙ same;
  asked = λ n p lt low high. ⊎_elim
      (λ more. voted.asked n p lt (omega (arith, more)) high)
      (λ top. (let is : first ≡ p = omega (arith, low, top) in subst (λ q. b.asked n q ≡ true) is (stay n first (omega (arith, lt, few)) six (asked n lt)))) (cases_lt first p);
  answered = answered_from (ring_of layout) epoch a m b one two voted.answered;
}

pub voted_before : (all : Bool) (layout : Layout) (epoch first : ℕ) (a m b : Around) → layout.nodes ≤ 8 → first ≤ 6 → IsLater a m → IsLater m b → m.early ≡ a.early → Stay m b
    → ((n : ℕ) → n < layout.nodes → m.asked n first ≡ true) → VotedForIf all layout epoch (first + 1) m b → VotedForIf all layout epoch first a b
voted_before true layout epoch first a m b few six one two same stay asked voted = point_before layout epoch first 5 a m b few six one two same stay asked voted
voted_before false layout epoch first a m b few six one two same stay asked voted = tt

pub voted_by_before : (tried : Tried) (layout : Layout) (epoch first : ℕ) (a m b : Around) → layout.nodes ≤ 8 → first ≤ 6 → IsLater a m → IsLater m b → m.early ≡ a.early → Stay m b
    → ((n : ℕ) → n < layout.nodes → m.asked n first ≡ true) → VotedForBy tried layout epoch (first + 1) m b → VotedForBy tried layout epoch first a b
voted_by_before (Voted dones trace) layout epoch first a m b few six one two same stay asked voted = point_before layout epoch first 5 a m b few six one two same stay asked voted
voted_by_before (GivenUp again) layout epoch first a m b few six one two same stay asked voted = tt

-- and the last point, from an earlier moment on at which the power was the same
pub voted_whole : (layout : Layout) (epoch : ℕ) (a r t b : Around) → layout.nodes ≤ 8 → IsLater a r → IsLater r t → IsLater t b → r.early ≡ a.early → b.early ≡ t.early → Stay t b
    → ((n : ℕ) → n < layout.nodes → b.asked n 6 ≡ true) → IsVotedFor layout epoch 1 5 r t → IsVotedFor layout epoch 1 6 a b
voted_whole layout epoch a r t b few one two three same still stay last voted = record {
  early = still ∙ voted.early ∙ same;
  asked = λ n p lt low high. ⊎_elim
      (λ below. stay n p (omega (arith, lt, few)) high (voted.asked n p lt low (omega (arith, below))))
      (λ top. (let is : 6 ≡ p = omega (arith, top, high) in subst (λ q. b.asked n q ≡ true) is (last n lt))) (cases_lt p 6);
  answered = answered_until (ring_of layout) epoch a t b (later_both a r t one two) three (answered_from (ring_of layout) epoch a r t one two voted.answered);
}
  where
    later_both : (a m b : Around) → IsLater a m → IsLater m b → IsLater a b
    later_both a m b one two = record {
      sent = (one.sent.0 ++ two.sent.0, two.sent.1 ∙ ap (λ (l : List Posted). l ++ two.sent.0) one.sent.1 ∙ append_assoc a.sent one.sent.0 two.sent.0);
      given = (one.given.0 ++ two.given.0, two.given.1 ∙ ap (λ (l : List Posted). l ++ two.given.0) one.given.1 ∙ append_assoc a.given one.given.0 two.given.0);
      faults = (let x = one.faults in let y = two.faults in omega (arith, x, y));
      early = (let x = one.early in let y = two.early in omega (arith, x, y));
      seed = two.seed ∙ one.seed;
    }

-- ---- attempts, one behind the other

pub begins_same : (next : ℕ) (a b : Around) → b.begun ≡ a.begun → b.early ≡ a.early → MayHaveBegun next next a b
begins_same next a b begun early = record { begun = inl begun; used = λ less. absurd (omega (arith, less, early)) }

pub begins_one : (next : ℕ) (a b : Around) → HasBegun a.begun b.begun → MayHaveBegun next (next + 1) a b
begins_one next a b begun = record { begun = inr begun; used = λ less. omega arith }

pub begins_then : (n m o : ℕ) (a b c : Around) → n ≤ m → m ≤ o → MayHaveBegun n m a b → MayHaveBegun m o b c → MayHaveBegun n o a c
begins_then n m o a b c low high one two = record {
  begun = ⊎_elim (λ same. ⊎_elim (λ was. inl (same ∙ was)) (λ rose. inr (subst (HasBegun a.begun) (sym same) rose)) one.begun) (λ rose. inr (begun_then a.begun b.begun c.begun one.begun rose)) two.begun;
  used = λ less. ⊎_elim (λ first. (let up = one.used first in omega (arith, up, high))) (λ le. (let up = two.used (omega (arith, less, le)) in omega (arith, up, low))) (cases_lt a.early b.early);
}

pub asks_all : (layout : Layout) (n m o : ℕ) (a b c : Around) → n ≤ m → o ≡ m + 1 → IsLater a b → IsLater b c → MayHaveBegun n m a b → AsksForAll layout m b c → HasAsked layout n o a c
asks_all layout n m o a b c low next one two before last = record {
  epoch = m;
  number = next;
  begun = begun_then a.begun b.begun c.begun before.begun last.begun;
  asked = last.all.asked;
  answered = answered_from (ring_of layout) m a b c one two last.all.answered;
  used = λ less. (let same = last.all.early in let up = before.used (omega (arith, less, same)) in omega (arith, up, next));
}
