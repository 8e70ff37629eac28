-- One more entry in a journal, and one more call of a pass.
use Rattle.std.proofs.Common.{◌≡◌, ℕ, zero, suc, ◌+◌, ◌<◌, ◌≤◌, ◌⊎◌, inl, inr, ⊎_elim, List, [], ◌∷◌, ◌++◌, map, length, take, Bool, true, All, Some, refl, sym, ap, ◌∙◌, subst, arith, length-append}
use Rattle.std.specs.Prelude.{slice_get}
use mathlib.Core.List.{IsPrefix}
use Rattle.std.proofs.lemmas.List.{take-append-le, map_push}
use Rattle.std.proofs.lemmas.List.Elements.{All-push}
use Rattle.std.proofs.lemmas.List.Quantifiers.{all_pairs_push}
use Rattle.std.proofs.lemmas.List.Sums.{fold_push}
use Rattle.coco_seen.specs.Notes.{Known}
use Rattle.coco_journaled.specs.declared.entry.Entry.{Entry}
use Rattle.coco_journaled.specs.declared.entry.Placed.{Placed}
use Rattle.std.specs.List.{AllPairs}
use Rattle.coco_journaled.specs.Passes.{entry, placed, noted, called, places, passing, Rises, Steps, IsPassOf}
use Rattle.coco_journaled.specs.Replay.{after, Replays}

-- an entry of a longer journal stood there before, or is the last one
old_or_last : {X : Type 0} (xs : List X) (x : X) (k : ℕ) (y : X) → slice_get (xs ++ x ∷ []) k ≡ Some y → ((k < length xs) × (slice_get xs k ≡ Some y)) ⊎ ((k ≡ length xs) × (x ≡ y))
old_or_last [] x zero y e = inr (refl, cc)
old_or_last [] x (suc k) y e = absurd cc
old_or_last (z ∷ xs) x zero y e = inl (omega arith, e)
old_or_last (z ∷ xs) x (suc k) y e = ⊎_elim (λ (h : (k < length xs) × (slice_get xs k ≡ Some y)). inl (omega arith, h.1)) (λ (h : (k ≡ length xs) × (x ≡ y)). inr (ap suc h.0, h.1)) (old_or_last xs x k y e)

front_of : {X : Type 0} (xs : List X) (x : X) (k : ℕ) → k ≤ length xs → take k (xs ++ x ∷ []) ≡ take k xs
front_of xs x k h = rw take-append-le refl

all_of : {X : Type 0} (xs : List X) (x : X) → take (length xs) (xs ++ x ∷ []) ≡ xs
all_of [] x = refl
all_of (y ∷ xs) x = ap (λ l. y ∷ l) (all_of xs x)

module _ {M Q A : Type 0} (answer_to : M → Q → A) (state_after : M → Q → M) where
  pub replays_more : (root : M) (journal : List (Entry Q A)) (machine now : M) (number : ℕ) (ask : Q) (answer : A) → Replays answer_to state_after root journal machine → answer ≡ answer_to machine ask → now ≡ state_after machine ask
      → Replays answer_to state_after root (journal ++ entry number ask answer ∷ []) now
  replays_more root journal machine now number ask answer old says goes =
      let e : Entry Q A = entry number ask answer in record {
        machine_is = goes ∙ (ap (λ m. state_after m ask) old.machine_is ∙ sym (fold_push (λ (m : M) (x : Entry Q A). state_after m x.ask) root journal e));
        answered = λ place x at. ⊎_elim
            (λ (h : (place < length journal) × (slice_get journal place ≡ Some x)). let short : place ≤ length journal = omega arith in
            old.answered place x h.1 ∙ ap (λ l. answer_to (after state_after root l) x.ask) (sym (front_of journal e place short)))
            (λ (h : (place ≡ length journal) × (e ≡ x)).
            let whole : take place (journal ++ e ∷ []) ≡ journal = ap (λ k. take k (journal ++ e ∷ [])) h.0 ∙ all_of journal e in
            let its : e.answer ≡ answer_to (after state_after root (take place (journal ++ e ∷ []))) e.ask = says ∙ (ap (λ m. answer_to m ask) old.machine_is ∙ ap (λ l. answer_to (after state_after root l) ask) (sym whole)) in
            subst (λ (y : Entry Q A). y.answer ≡ answer_to (after state_after root (take place (journal ++ e ∷ []))) y.ask) h.1 its)
            (old_or_last journal e place x at);
      }

module _ {M Q A : Type 0} where
  -- a pass whose note took the value, entered a call, and let the value go or kept it
  pub pass_entered : (b : Bool) (number : ℕ) (old taken gave : Known (Entry Q A) M) (own kept now : List ℕ) (found : List (Entry Q A)) (ask : Q) (answer : A) → IsPassOf number old own → taken ≡ record old { list = found; holds = true } → IsPrefix old.list found
      → gave ≡ record taken { list = taken.list ++ entry number ask answer ∷ []; calls = taken.calls ++ (length taken.list, entry number ask answer) ∷ []; holds = b } → kept ≡ own → now ≡ kept ++ length taken.list ∷ []
      → IsPassOf number gave now
  pass_entered b number old taken gave own kept now found ask answer is takes begins gives same more =
      let e : Entry Q A = entry number ask answer in
      let c : Placed Q A = placed (length found) ask answer in
      let calls : List (Placed Q A) = called old.calls in
      let go : Known (Entry Q A) M → Known (Entry Q A) M = λ k. record k { list = k.list ++ e ∷ []; calls = k.calls ++ (length k.list, e) ∷ []; holds = b } in
      let note : record old { list = found ++ e ∷ []; calls = old.calls ++ (length found, e) ∷ []; holds = b } ≡ gave = ap go (sym takes) ∙ sym gives in
      let size : length taken.list ≡ length found = ap (λ (k : Known (Entry Q A) M). length k.list) takes in
      let grown : own ++ length found ∷ [] ≡ now = ap (λ l. l ++ length found ∷ []) (sym same) ∙ (ap (λ n. kept ++ n ∷ []) (sym size) ∙ sym more) in
      let longer : length old.list ≤ length found = omega (arith, length-append old.list begins.0, ap length begins.1) in
      let all : length (found ++ e ∷ []) ≡ length found + 1 = length-append found (e ∷ []) in
      let one_more : called (old.calls ++ (length found, e) ∷ []) ≡ calls ++ c ∷ [] = map_push (λ (x : ℕ × Entry Q A). placed x.0 x.1.ask x.1.answer) old.calls (length found, e) in
      let rising : AllPairs (λ (x y : Placed Q A). x.place < y.place) (calls ++ c ∷ []) = all_pairs_push (λ (x y : Placed Q A). x.place < y.place) calls c is.rises (λ k d below. omega (arith, is.before k d below, longer)) in
      let below : All (λ (x : Placed Q A). x.place < length (found ++ e ∷ [])) (calls ++ c ∷ []) = All-push (λ (x : Placed Q A). x.place < length (found ++ e ∷ [])) calls c (λ k d below. omega (arith, is.before k d below, longer, all)) (omega (arith, all)) in
      subst (λ (p : Known (Entry Q A) M × List ℕ). IsPassOf number p.0 p.1) (λ i. (note i, grown i)) record {
        number_is = is.number_is;
        calls_are = ap (λ l. l ++ (length found, e) ∷ []) is.calls_are ∙ (sym (map_push (noted number) calls c) ∙ ap (map (noted number)) (sym one_more));
        places_are = ap (λ l. l ++ length found ∷ []) is.places_are ∙ (sym (map_push (λ (x : Placed Q A). x.place) calls c) ∙ ap places (sym one_more));
        before = subst (All (λ (x : Placed Q A). x.place < length (found ++ e ∷ []))) (sym one_more) below;
        rises = subst Rises (sym one_more) rising;
      }

  -- what it tells of the step
  pub pass_steps : (answer_to : M → Q → A) (state_after : M → Q → M) (b : Bool) (number : ℕ) (old taken gave : Known (Entry Q A) M) (root machine : M) (found : List (Entry Q A)) (ask : Q) (answer : A) → taken ≡ record old { list = found; holds = true } → IsPrefix old.list found
      → old.root ≡ Some root → Replays answer_to state_after root found machine → answer ≡ answer_to machine ask
      → gave ≡ record taken { list = taken.list ++ entry number ask answer ∷ []; calls = taken.calls ++ (length taken.list, entry number ask answer) ∷ []; holds = b }
      → Steps answer_to state_after (passing number old) ask answer (passing number gave)
  pass_steps answer_to state_after b number old taken gave root machine found ask answer takes begins rooted run says gives =
      let e : Entry Q A = entry number ask answer in
      let seen : List (Entry Q A) = old.list ++ begins.0 in
      let from : List (Entry Q A) → Known (Entry Q A) M = λ l. record old { list = l ++ e ∷ []; calls = old.calls ++ (length l, e) ∷ []; holds = b } in
      let go : Known (Entry Q A) M → Known (Entry Q A) M = λ k. record k { list = k.list ++ e ∷ []; calls = k.calls ++ (length k.list, e) ∷ []; holds = b } in
      let note : gave ≡ from seen = gives ∙ (ap go takes ∙ ap from (sym begins.1)) in
      let one_more : called (old.calls ++ (length seen, e) ∷ []) ≡ called old.calls ++ placed (length seen) ask answer ∷ [] = map_push (λ (x : ℕ × Entry Q A). placed x.0 x.1.ask x.1.answer) old.calls (length seen, e) in (
        root,
        begins.0,
        rooted,
        says ∙ ap (λ m. answer_to m ask) (run.machine_is ∙ ap (after state_after root) (sym begins.1)),
        ap (passing number) note ∙ ap (λ cs. record (passing number old) { list = seen ++ e ∷ []; calls = cs }) one_more,
      )
