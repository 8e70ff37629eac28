-- What is ahead of nodes gets less.
use Rattle.std.proofs.Common.{◌≡◌, ◌≢◌, ℕ, zero, suc, ◌+◌, ◌<◌, ◌≤◌, Bool, true, false, eqb, List, Option, Some, refl, sym, ap, subst, ◌∙◌, arith}
use Rattle.std.specs.Prelude.{unwrap_or}
use Rattle.std.specs.List.{slice_get}
use Rattle.std.specs.Option.{option_map}
use Rattle.std.proofs.Math.ListN.{set}
use Rattle.std.proofs.lemmas.Bool.{eqb-true, eqb-false}
use Rattle.std.proofs.lemmas.Option.{slice_get_within}
use Rattle.coco_node.specs.Node.{Node}
use Rattle.coco_letters.specs.declared.voter.Voter.{Voter}
use Rattle.coco_vote.specs.declared.step.Stops.{Stops}
use Rattle.coco_vote.specs.declared.step.Stops.TheVariants.{Never, Late, Early}
use Rattle.coco_vote.specs.Nearing.{ahead_of, all_ahead, lacks, Nears}
use Rattle.coco_vote.specs.Preparing.{durable_at}
use Rattle.coco_vote.specs.Taking.{both_of}
use Rattle.coco_vote.proofs.PlaceLemmas.{get_set_other, get_set_same}

pub nears_both : (a b : Stops) (x y z : ℕ) → Nears a x y → Nears b y z → Nears (both_of a b) x z
nears_both Never Never x y z one two = omega (arith, one, two)
nears_both Never Late x y z one two = omega (arith, one, two)
nears_both Never Early x y z one two = tt
nears_both Late Never x y z one two = omega (arith, one, two)
nears_both Late Late x y z one two = omega (arith, one, two)
nears_both Late Early x y z one two = tt
nears_both Early b x y z one two = tt

pub nears_any : (stops : Stops) (x y : ℕ) → y < x → Nears stops x y
nears_any Never x y less = omega (arith, less)
nears_any Late x y less = less
nears_any Early x y less = tt

-- what is ahead of one
abbrev at : ℕ → List Node → List Voter → ℕ → ℕ
at epoch cores voters n = unwrap_or (option_map (ahead_of epoch cores n) (slice_get voters n)) 0

-- one node gets nearer, and the others stay
module _ (e : ℕ) (cores new : List Node) (voters voters_new : List Voter) (k : ℕ) (others : (m : ℕ) → m ≢ k → at e new voters_new m ≡ at e cores voters m) where
  stays_below : (n : ℕ) → n ≤ k → all_ahead e new voters_new n ≡ all_ahead e cores voters n
  stays_below zero le = refl
  stays_below (suc n) le =
      let below : all_ahead e new voters_new n ≡ all_ahead e cores voters n = stays_below n (omega arith) in
      let here : at e new voters_new n ≡ at e cores voters n = others n (λ same. omega (arith, same, le)) in
      omega (arith, below, here)

  moves : (n : ℕ) → k < n → all_ahead e new voters_new n + at e cores voters k ≡ all_ahead e cores voters n + at e new voters_new k
  moves zero less = absurd (omega (arith, less))
  moves (suc n) less = by_place (moves n) (eqb k n) refl
    where
      by_place : (k < n → all_ahead e new voters_new n + at e cores voters k ≡ all_ahead e cores voters n + at e new voters_new k) → (b : Bool) → eqb k n ≡ b → all_ahead e new voters_new (suc n) + at e cores voters k ≡ all_ahead e cores voters (suc n) + at e new voters_new k
      by_place rest true is =
          let same : k ≡ n = eqb-true k n is in
          let below : all_ahead e new voters_new n ≡ all_ahead e cores voters n = stays_below n (omega (arith, same)) in
          let was : at e cores voters k ≡ at e cores voters n = ap (at e cores voters) same in
          let now : at e new voters_new k ≡ at e new voters_new n = ap (at e new voters_new) same in
          omega (arith, below, was, now)
      by_place rest false is =
          let other : k ≢ n = eqb-false k n is in
          let below : all_ahead e new voters_new n + at e cores voters k ≡ all_ahead e cores voters n + at e new voters_new k = rest (omega (arith, less, other)) in
          let here : at e new voters_new n ≡ at e cores voters n = others n (λ same. other (sym same)) in
          omega (arith, below, here)

  pub nears_all : (stops : Stops) (count : ℕ) → k < count → Nears stops (at e cores voters k) (at e new voters_new k) → Nears stops (all_ahead e cores voters count) (all_ahead e new voters_new count)
  nears_all Never count less near = let moved = moves count less in omega (arith, moved, near)
  nears_all Late count less near = let moved = moves count less in omega (arith, moved, near)
  nears_all Early count less near = tt

pub nears_same : (x y : ℕ) → y ≡ x → Nears Never x y
nears_same x y same = omega (arith, same)

-- so it is where one node's core and what is in hand of it are others
pub near_one : (e : ℕ) (cores new : List Node) (voters : List Voter) (k : ℕ) (voter now : Voter) → slice_get voters k ≡ Some voter → ((m : ℕ) → m ≢ k → durable_at new m ≡ durable_at cores m)
    → (stops : Stops) (count : ℕ) → k < count → Nears stops (ahead_of e cores k voter) (ahead_of e new k now) → Nears stops (all_ahead e cores voters count) (all_ahead e new (set voters k now) count)
near_one e cores new voters k voter now there elsewhere stops count less near =
    nears_all e cores new voters (set voters k now) k others stops count less
    (subst (λ (x : ℕ). Nears stops x (at e new (set voters k now) k)) (sym was) (subst (λ (x : ℕ). Nears stops (ahead_of e cores k voter) x) (sym is) near))
  where
    was : at e cores voters k ≡ ahead_of e cores k voter
    was = ap (λ (o : Option Voter). unwrap_or (option_map (ahead_of e cores k) o) 0) there

    is : at e new (set voters k now) k ≡ ahead_of e new k now
    is = ap (λ (o : Option Voter). unwrap_or (option_map (ahead_of e new k) o) 0) (get_set_same voters k now (slice_get_within voters k voter there))

    others : (m : ℕ) → m ≢ k → at e new (set voters k now) m ≡ at e cores voters m
    others m other =
        ap (λ (o : Option Voter). unwrap_or (option_map (ahead_of e new m) o) 0) (get_set_other voters k m now other)
        ∙ ap (λ (d : ℕ). unwrap_or (option_map (λ (x : Voter). lacks (eqb d e) + lacks x.asked_after_vote) (slice_get voters m)) 0) (elsewhere m other)
