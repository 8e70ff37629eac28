-- The rule of the lock's table.
-- Word 8 is the length of the log, and word 9 says where the value is: 0 where it has still to be put into its slot, 2 where it is at home, 1 where a seat holds it. The words around these two are never written.
use Rattle.std.specs.Prelude.{◌≡◌, ◌⊎◌, ℕ, zero, suc, ◌==◌, nat_lt, if◌then◌else◌, List, [], ◌∷◌, map, length, Bool, true, false, All, Option, Some, None, slice_get, sum_by, count_by}
use mathlib.Core.Option as opt
use mathlib.Core.List.{IsPrefix}
use lib.ListN.{get_elem?}
use Rattle.atomic_table.specs.Table.{State}
use Rattle.coco_seen.specs.declared.view.View.{View}

-- how often a number stands in a list
abbrev pub how_often : ℕ → List ℕ → ℕ
how_often x xs = count_by (λ y. y == x) xs

-- 1 for a number below n, and 0 for another
abbrev pub once_below : ℕ → ℕ → ℕ
once_below x n = if nat_lt x n then 1 else 0

-- the numbers from k on, n of them
abbrev pub numbers : ℕ → ℕ → List ℕ
numbers k zero = []
numbers k (suc n) = k ∷ numbers (suc k) n

-- the words, of which two are used
abbrev pub words_of : ℕ → ℕ → List ℕ
words_of size place = 0 ∷ 0 ∷ 0 ∷ 0 ∷ 0 ∷ 0 ∷ 0 ∷ 0 ∷ size ∷ place ∷ 0 ∷ 0 ∷ 0 ∷ 0 ∷ 0 ∷ 0 ∷ 0 ∷ []

abbrev pub as_one : Bool → ℕ
as_one b = if b then 1 else 0

module _ {E R : Type 0} where
  abbrev pub places : View E R → List ℕ
  places v = map (λ (c : ℕ × E). c.0) v.calls

  -- the first seat stands for all notes, and has to put the value into its slot
  abbrev pub beginner : ℕ → View E R
  beginner n = record { roots = []; marks = numbers 0 n; list = []; calls = []; holds = false; fills = true }

  -- what the rule says of one view, where the log is this, and the value comes from this root
  pub record Fits (root : Option R) (log : List E) (v : View E R) : Type 0 where
    pub rooted : All (λ (r : R). root ≡ Some r) v.roots
    pub begun : IsPrefix v.list log
    pub whole : v.holds ≡ true → v.list ≡ log
    pub placed : All (λ (c : ℕ × E). slice_get log c.0 ≡ Some c.1) v.calls
    pub spent : v.marks ≡ [] → (v.calls ≡ []) × (v.holds ≡ false) × (v.fills ≡ false)

module _ {S E R : Type 0} (entries : S → List E) (comes : R → S → Type 0) where
  -- the value has still to be put into its slot
  pub record ToFill (place : ℕ) (homes : List (opt.Option (Option S))) (views : List (View E R)) (log : List E) (root : Option R) : Type 0 where
    pub word : place ≡ 0
    pub slot : homes ≡ opt.some None ∷ []
    pub log_is : log ≡ []
    pub root_is : root ≡ None
    pub holders : sum_by (λ (v : View E R). as_one v.holds) views ≡ 0
    pub fillers : sum_by (λ (v : View E R). as_one v.fills) views ≡ 1

  -- the value is at home
  pub record AtHome (place : ℕ) (homes : List (opt.Option (Option S))) (views : List (View E R)) (log : List E) (root : Option R) : Type 0 where
    pub value : S
    pub from : R
    pub word : place ≡ 2
    pub slot : homes ≡ opt.some (Some value) ∷ []
    pub log_is : entries value ≡ log
    pub root_is : root ≡ Some from
    pub comes_from : comes from value
    pub holders : sum_by (λ (v : View E R). as_one v.holds) views ≡ 0
    pub fillers : sum_by (λ (v : View E R). as_one v.fills) views ≡ 0

  -- a seat holds the value
  pub record Held (place : ℕ) (homes : List (opt.Option (Option S))) (views : List (View E R)) (root : Option R) : Type 0 where
    pub from : R
    pub word : place ≡ 1
    pub slot : homes ≡ opt.none ∷ []
    pub root_is : root ≡ Some from
    pub holders : sum_by (λ (v : View E R). as_one v.holds) views ≡ 1
    pub fillers : sum_by (λ (v : View E R). as_one v.fills) views ≡ 0

  pub record Kept (notes : ℕ) (s : State (Option S) (View E R)) : Type 0 where
    pub log : List E
    pub root : Option R
    pub place : ℕ
    pub words : s.words ≡ words_of (length log) place
    pub lies : ToFill place s.homes s.views log root ⊎ (AtHome place s.homes s.views log root ⊎ Held place s.homes s.views root)
    pub each : (i : ℕ) (v : View E R) → get_elem? s.views i ≡ opt.some v → Fits root log v
    pub marked : (m : ℕ) → sum_by (λ (v : View E R). how_often m v.marks) s.views ≡ once_below m notes
    pub all_marked : sum_by (λ (v : View E R). length v.marks) s.views ≡ notes
    pub called : (p : ℕ) → sum_by (λ (v : View E R). how_often p (places v)) s.views ≡ once_below p (length log)
    pub all_called : sum_by (λ (v : View E R). length v.calls) s.views ≡ length log
