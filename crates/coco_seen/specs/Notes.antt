-- Notes and locks as contracts see them.
use Rattle.std.specs.Prelude.{◌≡◌, ℕ, List, [], ◌∷◌, Bool, true, false, Option, Some, None, slice_get}
pub use Rattle.atomic_table.specs.Seated.{TableId}
use Rattle.atomic_table.specs.Table.{Me}
use Rattle.coco_seen.specs.declared.view.View.{View}

-- which lock it is, and how many notes it has
pub record Lock : Type 0 where
  pub id : TableId
  pub notes : ℕ

-- a note of the lock `lock`: its number, the root that the value comes from, the entries that it has seen, its own calls with their places, and whether it holds the value
pub record Known (E R : Type 0) : Type 0 where
  pub lock : TableId
  pub number : ℕ
  pub root : Option R
  pub list : List E
  pub calls : List (ℕ × E)
  pub holds : Bool

module _ {E R : Type 0} where
  -- a note that has seen nothing and done nothing
  abbrev pub fresh : TableId → Option R → ℕ → Known E R
  fresh lock root number = record { lock = lock; number = number; root = root; list = []; calls = []; holds = false }

  -- what a note knows, by its seat
  abbrev pub known : TableId → ℕ → View E R → Known E R
  known lock number v = record { lock = lock; number = number; root = slice_get v.roots 0; list = v.list; calls = v.calls; holds = v.holds }

-- the value comes from this root
abbrev pub ComesFrom : {R S : Type 0} → (R → S → Type 0) → Option R → S → Type 0
ComesFrom {R = R} comes root value = (from : R) × (root ≡ Some from) × comes from value

-- while its note holds the value, a seat has the empty slot
abbrev pub carried : {S : Type 0} → Bool → List (ℕ × Option S)
carried true = (0, None) ∷ []
carried false = []

-- what is true of the seat of every note
pub record IsSeatOf {S E R : Type 0} (number : ℕ) (me : Me (Option S) (View E R)) : Type 0 where
  pub root : R
  pub marks : me.0.marks ≡ number ∷ []
  pub roots : me.0.roots ≡ root ∷ []
  pub full : me.0.fills ≡ false
  pub slot : me.1 ≡ carried me.0.holds
