-- What the seats' views become, and what each step tells its caller.
use Rattle.std.specs.Prelude.{◌≡◌, ◌≢◌, ℕ, nat_lt, if◌then◌else◌, List, [], ◌∷◌, ◌++◌, length, true, false, Option, Some, None, slice_get}
use mathlib.Core.Option as opt
use mathlib.Core.List.{IsPrefix}
use Rattle.atomic_table.specs.Table.{Me, Step, rest}
use Rattle.coco_seen.specs.declared.view.View.{View}

abbrev pub head_of : List ℕ → List ℕ
head_of [] = []
head_of (m ∷ ms) = m ∷ []

abbrev pub tail_of : List ℕ → List ℕ
tail_of [] = []
tail_of (m ∷ ms) = ms

abbrev pub longer : {E : Type 0} → List E → List E → List E
longer xs ys = if nat_lt (length xs) (length ys) then ys else xs

module _ {E R : Type 0} where
  -- the seat keeps all its marks but the first
  abbrev pub without_first : View E R → View E R
  without_first v = record v { marks = tail_of v.marks }

  -- the new seat has the first mark and the same list, and has made no call
  abbrev pub only_first : View E R → View E R
  only_first v = record { roots = v.roots; marks = head_of v.marks; list = v.list; calls = []; holds = false; fills = false }

  -- a seat takes in another's marks and calls, and has the longer list
  abbrev pub joined : View E R → View E R → View E R
  joined v w = record v { roots = v.roots ++ w.roots; marks = v.marks ++ w.marks; list = longer v.list w.list; calls = v.calls ++ w.calls }

  abbrev pub spent : View E R
  spent = record { roots = []; marks = []; list = []; calls = []; holds = false; fills = false }

  abbrev pub with_entry : View E R → E → View E R
  with_entry v entry = record v { list = v.list ++ entry ∷ []; calls = v.calls ++ (length v.list, entry) ∷ [] }

  -- a seat that has these marks and has seen and done nothing
  abbrev pub started : R → List ℕ → View E R
  started root marks = record { roots = root ∷ []; marks = marks; list = []; calls = []; holds = false; fills = false }

module _ {S E R : Type 0} where
  -- the seat has the empty slot, and holds the value that was said
  abbrev pub filled : (R → S → Type 0) → Step (Option S) → Me (Option S) (View E R) → ℕ → Me (Option S) (View E R) → Type 0
  filled comes step me found after =
      (value : S) → step.said ≡ opt.some (Some value) → (root : R) × comes root value × (after ≡ (record me.0 { roots = root ∷ []; holds = true; fills = false }, (0, None) ∷ me.1))

  -- where the value was at home the seat has it, and its list. Else nothing changed
  abbrev pub taken : (S → List E) → (R → S → Type 0) → Step (Option S) → Me (Option S) (View E R) → ℕ → Me (Option S) (View E R) → Type 0
  taken entries comes step me found after =
      (found ≡ 2 → (value : S) × (root : R) × (slice_get me.0.roots 0 ≡ Some root) × comes root value × IsPrefix me.0.list (entries value)
      × (after ≡ (record me.0 { list = entries value; holds = true }, (0, Some value) ∷ me.1)))
      × (found ≢ 2 → after ≡ me)

  abbrev pub appended : Option E → Step (Option S) → Me (Option S) (View E R) → ℕ → Me (Option S) (View E R) → Type 0
  appended said step me found after =
      (entry : E) → said ≡ Some entry → (found ≡ length me.0.list) × (after ≡ (with_entry me.0 entry, me.1))

  abbrev pub gave : Step (Option S) → Me (Option S) (View E R) → ℕ → Me (Option S) (View E R) → Type 0
  gave step me found after = after ≡ (record me.0 { holds = false }, rest me.1)
