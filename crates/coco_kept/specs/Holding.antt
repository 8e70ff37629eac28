-- How the Dones are held: a number goes with each place, and an index from each id to its Done's number.
use Rattle.std.specs.Prelude.{◌≡◌, ⊤, ℕ, ◌+◌, ◌<◌, ◌≤◌, ◌%◌, ◌^◌, Bool, false, not, nat_eq, if◌then◌else◌, List, [], ◌∷◌, ◌++◌, map, Option, None, Some}
use Rattle.std.specs.List.{filter, AllByRecursion}
use Rattle.std.specs.Set.{distinct_count, is_member}
use Rattle.coco_types.specs.declared.call.Done.{Done}
use Rattle.coco_ast.specs.History.{kept_of, floor_of, done_of}
use Rattle.coco_kept.specs.Keeping.{Keeping, HasDistinctIds}

-- the number of an id's Done, where the first has this one; behind the greatest number of 64 bits comes 0
abbrev pub number_of : ℕ → ℕ → List Done → Option ℕ
number_of id first [] = None
number_of id first (d ∷ ds) = if nat_eq id d.id then Some (first % 2 ^ 64) else number_of id (first + 1) ds

-- no epoch of the Dones is above this one
abbrev pub AreUpTo : ℕ → List Done → Type 0
AreUpTo n dones = AllByRecursion (λ d. d.epoch ≤ n) dones

abbrev pub epochs_of : List Done → List ℕ
epochs_of dones = map (λ d. d.epoch) dones

-- whether a Done is of the epoch
abbrev pub has_epoch : ℕ → List Done → Bool
has_epoch epoch dones = is_member nat_eq (epochs_of dones) epoch

-- how many epochs stand in the Dones
abbrev pub epoch_count : List Done → ℕ
epoch_count dones = distinct_count nat_eq (epochs_of dones)

-- no Done is of an earlier epoch than one before it
abbrev pub NeverFall : List Done → Type 0
NeverFall [] = ⊤
NeverFall (d ∷ ds) = AllByRecursion (λ e. d.epoch ≤ e.epoch) ds × NeverFall ds

pub record AreHeld (dones : List Done) (numbered : ℕ → Option ℕ) (first epochs : ℕ) (keep : Option ℕ) : Type 0 where
  pub numbers : (id : ℕ) → numbered id ≡ number_of id first dones
  pub once : HasDistinctIds dones
  pub rising : NeverFall dones
  pub counted : epochs ≡ epoch_count dones
  pub within : (n : ℕ) → keep ≡ Some n → (0 < n) × (epochs ≤ n)

abbrev pub first_is : ℕ → List Done → Bool
first_is epoch [] = false
first_is epoch (d ∷ ds) = nat_eq d.epoch epoch

-- the Dones of the first one's epoch, and the others
abbrev pub least_of : List Done → List Done
least_of [] = []
least_of (d ∷ ds) = filter (λ e. nat_eq e.epoch d.epoch) (d ∷ ds)

abbrev pub behind_least : List Done → List Done
behind_least [] = []
behind_least (d ∷ ds) = filter (λ e. not (nat_eq e.epoch d.epoch)) (d ∷ ds)

-- room is made for Dones of an epoch: with one more of it there are those that are to be kept
pub record MakesPlace (epoch : ℕ) (old new : Keeping) : Type 0 where
  pub kept : (d : Done) → d.epoch ≡ epoch → new.dones ++ d ∷ [] ≡ kept_of old.keep (old.dones ++ d ∷ [])
  pub floor : (d : Done) → d.epoch ≡ epoch → new.floor ≡ floor_of old.keep old.floor (old.dones ++ d ∷ [])
  pub keep : new.keep ≡ old.keep
  pub room : old.room ≤ new.room
  pub some : (n : ℕ) → old.keep ≡ Some n → 0 < n
  pub within : (n : ℕ) → new.keep ≡ Some n → (d : Done) → d.epoch ≡ epoch → epoch_count (new.dones ++ d ∷ []) ≤ n
  pub absent : (id : ℕ) → done_of id old.dones ≡ None → done_of id new.dones ≡ None
  pub up_to : AreUpTo epoch new.dones

-- Dones that may be added: behind those that are kept no id stands twice, and no epoch is below an earlier one
pub record MayFollow (k : Keeping) (dones : List Done) : Type 0 where
  pub once : HasDistinctIds (k.dones ++ dones)
  pub rising : NeverFall (k.dones ++ dones)
