-- The passes of locks, dealt to workers and back.
use Rattle.std.specs.Prelude.{◌≡◌, ℕ, ◌<◌, ◌≤◌, List, [], length, slice_index_or, vec_len, vec_capacity, All}
use Rattle.std.specs.Global.{Vec}
use Rattle.coco_journaled.specs.declared.entry.Entry.{Entry}
use Rattle.coco_journaled.specs.Passes.{Passing}
use Rattle.coco_seen.specs.Notes.{Lock}
use Rattle.coco_desks.specs.Locking.{AreEnded, AreStarted}
use Rattle.coco_desks.specs.Rows.{column}

-- a list without items, with room for so many
abbrev pub HasRoom : {X : Type 0} → ℕ → Vec X → Type 0
HasRoom count list = (list.items ≡ []) × (count ≤ vec_capacity list)

module _ {M Q A : Type 0} where
  -- the machines are behind these locks, and each worker has a row with a new pass of each
  pub record AreDealt (workers : ℕ) (machines : List M) (locks : List Lock) (rows : List (Vec (Passing M Q A))) : Type 0 where
    pub trays : List (Vec (Passing M Q A))
    pub started : AreStarted workers machines locks trays
    pub count : length rows ≡ workers
    pub rows_are : (worker : ℕ) (d : Vec (Passing M Q A)) → worker < workers → (slice_index_or rows worker d).items ≡ column worker trays

  -- trays without passes, each with room for so many
  abbrev pub AreEmpty : ℕ → List (Vec (Passing M Q A)) → Type 0
  AreEmpty room trays = All (λ (tray : Vec (Passing M Q A)). (tray.items ≡ []) × (room ≤ vec_capacity tray)) trays

  -- what the workers begin with, and room for all that comes back
  pub record IsOpen (workers : ℕ) (machines : List M) (locks : Vec Lock) (trays back : Vec (Vec (Passing M Q A))) (last : Vec M) (journals : Vec (List (Entry Q A))) (rows : List (Vec (Passing M Q A))) : Type 0 where
    pub dealt : AreDealt workers machines locks.items rows
    pub empty : AreEmpty workers trays.items
    pub trays_are : vec_len trays ≡ length machines
    pub back_room : HasRoom workers back
    pub last_room : HasRoom (length machines) last
    pub journals_room : HasRoom (length machines) journals

module _ {M Q A : Type 0} (answer_to : M → Q → A) (state_after : M → Q → M) where
  -- what so many locks left whose passes came back in these rows
  pub record AreBackBy (rows : List (Vec (Passing M Q A))) (count : ℕ) (machines : List M) (journals : List (List (Entry Q A))) : Type 0 where
    pub trays : List (Vec (Passing M Q A))
    pub trays_are : length trays ≡ count
    pub passes : (lock : ℕ) (d : Vec (Passing M Q A)) → lock < count → (slice_index_or trays lock d).items ≡ column lock rows
    pub ended : AreEnded answer_to state_after trays [] [] machines journals
