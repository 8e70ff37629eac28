-- The steps of a note's seat.
use Rattle.std.proofs.Common.{◌≡◌, ◌≢◌, ℕ, ◌+◌, ◌-◌, ◌%◌, ◌^◌, ◌<◌, List, [], ◌∷◌, length, true, false, Option, Some, None, refl, sym, ap, ◌∙◌, subst, arith, eqb}
use Rattle.std.specs.Prelude.{slice_get}
use mathlib.Core.Option as opt
use prog.Atomic.{either}
use Rattle.atomic_table.specs.Table.{Me, Step, step, Allows, rest}
use Rattle.coco_seen.specs.declared.view.View.{View}
use Rattle.coco_seen.specs.Notes.{ComesFrom, carried, IsSeatOf}
use Rattle.coco_seen.specs.Rules.{Kept}
use Rattle.coco_seen.specs.Steps.{with_entry, taken, appended, gave}
use Rattle.coco_seen.proofs.Keeping.{takes_it, appends_it, gives_it}

module _ {S E R : Type 0} (entries : S → List E) (comes : R → S → Type 0) where
  -- what these steps tell does not depend on the step's numbers
  abbrev any_step : Step (Option S)
  any_step = step 0 0 0 0 opt.none

  marked : (number : ℕ) (me : Me (Option S) (View E R)) → IsSeatOf number me → me.0.marks ≢ []
  marked number me is = λ e. let one : me.0.marks ≡ number ∷ [] = is.marks in absurd cc

  rooted : (number : ℕ) (me : Me (Option S) (View E R)) (is : IsSeatOf number me) → slice_get me.0.roots 0 ≡ Some is.root
  rooted number me is = ap (λ rs. slice_get rs 0) is.roots

  pub note_takes : (notes slots id number : ℕ) (me : Me (Option S) (View E R)) → IsSeatOf number me → me.0.holds ≡ false
      → Allows (Kept entries comes notes) slots id me 9 (λ n. either (eqb n 2) 1 n) (taken entries comes any_step me)
  note_takes notes slots id number me is free =
      let empty : me.1 ≡ [] = is.slot ∙ ap carried free in
      subst (λ (m : Me (Option S) (View E R)). Allows (Kept entries comes notes) slots id m 9 (λ n. either (eqb n 2) 1 n) (taken entries comes any_step m)) (λ i. (me.0, sym empty i))
      (takes_it entries comes notes slots id me.0 is.root any_step (marked number me is) (rooted number me is) free)

  pub note_appends : (notes slots id number : ℕ) (me : Me (Option S) (View E R)) (said : Option E) (entry : E) → IsSeatOf number me → said ≡ Some entry → me.0.holds ≡ true → length me.0.list < 2 ^ 63 - 1
      → Allows (Kept entries comes notes) slots id me 8 (λ n. (n + 1) % 2 ^ 64) (appended said any_step me)
  note_appends notes slots id number me said entry is says has room = appends_it entries comes notes slots id me.0 me.1 any_step said entry says (marked number me is) has (omega arith)

  pub note_gives : (notes slots id number : ℕ) (me now : Me (Option S) (View E R)) (value : S) → IsSeatOf number me → me.0.holds ≡ true → now ≡ (me.0, (0, Some value) ∷ rest me.1) → ComesFrom comes (slice_get me.0.roots 0) value → entries value ≡ me.0.list
      → Allows (Kept entries comes notes) slots id now 9 (λ _. 2) (λ _. gave any_step now 2)
  note_gives notes slots id number me now value is has now_is from list =
      let empty : rest me.1 ≡ [] = ap rest (is.slot ∙ ap carried has) in
      let same : (me.0, (0, Some value) ∷ []) ≡ now = (λ i. (me.0, (0, Some value) ∷ sym empty i)) ∙ sym now_is in
      subst (λ (m : Me (Option S) (View E R)). Allows (Kept entries comes notes) slots id m 9 (λ _. 2) (λ _. gave any_step m 2)) same
      (gives_it entries comes notes slots id me.0 value from.0 any_step (marked number me is) has from.1 from.2 list)

module _ {S E R : Type 0} where
  -- the slot that was taken last
  pub took : (x : Option S) (now : Me (Option S) (View E R)) (v : View E R) (others : List (ℕ × Option S)) → now ≡ (v, (0, x) ∷ others) → now.1 ≡ (0, x) ∷ rest now.1
  took x now v others e = ap (λ m. m.1) e ∙ ap (λ m. (0, x) ∷ rest m.1) (sym e)

  -- a note after an entry of its own
  pub seat_appended : (number : ℕ) (me now : Me (Option S) (View E R)) (entry : E) → IsSeatOf number me → now ≡ (with_entry me.0 entry, me.1) → IsSeatOf number now
  seat_appended number me now entry is e = subst (IsSeatOf number) (sym e) record { root = is.root; marks = is.marks; roots = is.roots; full = is.full; slot = is.slot }

  -- a note that took the value out of the slot
  pub seat_took : (number : ℕ) (me now : Me (Option S) (View E R)) (list : List E) → IsSeatOf number me → now ≡ (record me.0 { list = list; holds = true }, (0, None) ∷ []) → IsSeatOf number now
  seat_took number me now list is e = subst (IsSeatOf number) (sym e) record { root = is.root; marks = is.marks; roots = is.roots; full = is.full; slot = refl }

  -- a note that gave the value back
  pub seat_gave : (number : ℕ) (me now : Me (Option S) (View E R)) → IsSeatOf number me → now ≡ (record me.0 { holds = false }, []) → IsSeatOf number now
  seat_gave number me now is e = subst (IsSeatOf number) (sym e) record { root = is.root; marks = is.marks; roots = is.roots; full = is.full; slot = refl }
