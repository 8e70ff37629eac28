-- From passes to notes and back.
use Rattle.std.proofs.Common.{◌≡◌, ℕ, suc, ◌<◌, List, [], ◌∷◌, map, length, false, Some, refl, sym, ap, ◌∙◌, subst, arith, All}
use Rattle.std.specs.Prelude.{slice_get, slice_index_or, sum_by}
use Rattle.std.proofs.lemmas.List.Elements.{All-head, All-tail, All-cons, All-nil, All-map}
use Rattle.std.proofs.lemmas.List.Sums.{sum_by-cons}
use Rattle.coco_seen.specs.Notes.{TableId, Known, fresh}
use Rattle.coco_seen.specs.Rules.{how_often}
use Rattle.coco_journaled.specs.declared.entry.Entry.{Entry}
use Rattle.coco_journaled.specs.declared.entry.Placed.{Placed}
use Rattle.coco_journaled.specs.Passes.{Passing, Rises, entry_of, noted, called, places, new_pass, pass_at, IsPassOf}
use Rattle.coco_journaled.specs.Replay.{after, Replays}

all_from_map : {X Y : Type 0} (P : Y → Type 0) (f : X → Y) (xs : List X) → All P (map f xs) → All (λ x. P (f x)) xs
all_from_map P f [] h = All-nil (λ x. P (f x))
all_from_map P f (x ∷ xs) h = All-cons (λ y. P (f y)) x xs (All-head P (f x) (map f xs) h) (all_from_map P f xs (All-tail P (f x) (map f xs) h))

sum_of_same : {X : Type 0} (f h : X → ℕ) → ((x : X) → f x ≡ h x) → (xs : List X) → sum_by f xs ≡ sum_by h xs
sum_of_same f h same [] = refl
sum_of_same f h same (x ∷ xs) = omega (arith, sum_by-cons f x xs, sum_by-cons h x xs, same x, sum_of_same f h same xs)

module _ {Q A : Type 0} where
  places_of : (number : ℕ) (calls : List (Placed Q A)) → map (λ (c : ℕ × Entry Q A). c.0) (map (noted number) calls) ≡ places calls
  places_of number [] = refl
  places_of number (c ∷ cs) = ap (λ l. c.place ∷ l) (places_of number cs)

  length_of : (number : ℕ) (calls : List (Placed Q A)) → length (map (noted number) calls) ≡ length calls
  length_of number [] = refl
  length_of number (c ∷ cs) = ap suc (length_of number cs)

module _ {M Q A : Type 0} where
  pub new_passes : (lock : TableId) (machine root : M) (ks : List ℕ) (notes : List (Known (Entry Q A) M)) (passes : List (Passing M Q A)) → machine ≡ root → notes ≡ map (fresh lock (Some root)) ks → passes ≡ map pass_at notes → passes ≡ map (new_pass lock machine) ks
  new_passes lock machine root ks notes passes same are list = list ∙ (ap (map pass_at) are ∙ (each ks ∙ ap (λ m. map (new_pass lock m) ks) (sym same)))
    where
      each : (js : List ℕ) → map (pass_at {M = M} {Q = Q} {A = A}) (map (fresh lock (Some root)) js) ≡ map (new_pass lock root) js
      each [] = refl
      each (j ∷ js) = ap (λ l. new_pass lock root j ∷ l) (each js)

  pub all_new : (lock : TableId) (root : M) (ks : List ℕ) (notes : List (Known (Entry Q A) M)) → notes ≡ map (fresh lock (Some root)) ks → All (λ (n : Known (Entry Q A) M). (n.calls ≡ []) × (n.holds ≡ false)) notes
  all_new lock root ks notes are = subst (All (λ (n : Known (Entry Q A) M). (n.calls ≡ []) × (n.holds ≡ false))) (sym are) (All-map (λ (n : Known (Entry Q A) M). (n.calls ≡ []) × (n.holds ≡ false)) (fresh lock (Some root)) ks (λ k d below. (refl, refl)))

  -- the calls of the notes are the passes' calls
  pub all_placed : (journal : List (Entry Q A)) (passes : List (Passing M Q A)) → All (λ (p : Passing M Q A). All (λ (c : ℕ × Entry Q A). slice_get journal c.0 ≡ Some c.1) (map (noted p.number) p.calls)) passes
      → All (λ (p : Passing M Q A). All (λ (c : Placed Q A). slice_get journal c.place ≡ Some (entry_of p.number c)) p.calls) passes
  all_placed journal passes h = λ k d below. all_from_map (λ (c : ℕ × Entry Q A). slice_get journal c.0 ≡ Some c.1) (noted (slice_index_or passes k d).number) (slice_index_or passes k d).calls (h k d below)

  pub sum_of_places : (place : ℕ) (passes : List (Passing M Q A))
      → sum_by (λ (p : Passing M Q A). how_often place (map (λ (c : ℕ × Entry Q A). c.0) (map (noted p.number) p.calls))) passes ≡ sum_by (λ (p : Passing M Q A). how_often place (places p.calls)) passes
  sum_of_places place passes = sum_of_same _ _ (λ p. ap (how_often place) (places_of p.number p.calls)) passes

  pub sum_of_lengths : (passes : List (Passing M Q A)) → sum_by (λ (p : Passing M Q A). length (map (noted p.number) p.calls)) passes ≡ sum_by (λ (p : Passing M Q A). length p.calls) passes
  sum_of_lengths passes = sum_of_same _ _ (λ p. length_of p.number p.calls) passes

  -- a pass that has done nothing
  pub begins : (note : Known (Entry Q A) M) (own : List ℕ) → (note.calls ≡ []) × (note.holds ≡ false) → own ≡ [] → IsPassOf note.number note own
  begins note own is none = record {
    number_is = refl;
    calls_are = is.0 ∙ ap (λ cs. map (noted note.number) (called cs)) (sym is.0);
    places_are = none ∙ ap (λ cs. places (called cs)) (sym is.0);
    before = subst (λ cs. All (λ (c : Placed Q A). c.place < length note.list) (called cs)) (sym is.0) (All-nil (λ (c : Placed Q A). c.place < length note.list));
    rises = subst (λ cs. Rises (called cs)) (sym is.0) (λ i j d less below. absurd (omega arith));
  }

-- a machine comes from itself by an empty journal
pub from_itself : {M Q A : Type 0} (answer_to : M → Q → A) (state_after : M → Q → M) (machine : M) (journal : List (Entry Q A)) → journal ≡ [] → Replays answer_to state_after machine journal machine
from_itself answer_to state_after machine journal none = subst (λ j. Replays answer_to state_after machine j machine) (sym none) record { machine_is = refl; answered = λ place e at. absurd cc }

pub same_root : {M Q A : Type 0} (answer_to : M → Q → A) (state_after : M → Q → M) (root machine : M) (journal : List (Entry Q A)) → journal ≡ [] → Replays answer_to state_after root journal machine → machine ≡ root
same_root answer_to state_after root machine journal none run = run.machine_is ∙ ap (after state_after root) none
