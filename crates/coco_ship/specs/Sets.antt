-- Sets and lists of places, which are seen as lists.
use Rattle.std.specs.Prelude.{◌≡◌, ℕ, Bool, true, false, List, ◌⊎◌}
use Rattle.std.specs.List.{list_any}
use Rattle.std.specs.Ordering.{nat_cmp}
use Rattle.std.specs.BTreeMap.{is_at}

-- whether a place is in a list
abbrev pub is_in : List ℕ → ℕ → Bool
is_in places place = list_any (is_at (nat_cmp place)) places

-- the same places, whatever their order, and however often
abbrev pub HasSame : List ℕ → List ℕ → Type 0
HasSame old new = (q : ℕ) → is_in new q ≡ is_in old q

-- the place is in the new list, and any other where it was in the old one
pub record Adds (old new : List ℕ) (place : ℕ) : Type 0 where
  pub there : is_in new place ≡ true
  pub stay : (q : ℕ) → is_in old q ≡ true → is_in new q ≡ true
  pub only : (q : ℕ) → is_in new q ≡ true → (q ≡ place) ⊎ (is_in old q ≡ true)

-- the set has those of the places that are in the old set
pub record Keeps (old places new : List ℕ) : Type 0 where
  pub both : (q : ℕ) → is_in old q ≡ true → is_in places q ≡ true → is_in new q ≡ true
  pub only : (q : ℕ) → is_in new q ≡ true → (is_in old q ≡ true) × (is_in places q ≡ true)

-- the set has those of the places that are not there
pub record Misses (there places missing : List ℕ) : Type 0 where
  pub each : (q : ℕ) → is_in places q ≡ true → (is_in there q ≡ true) ⊎ (is_in missing q ≡ true)
  pub only : (q : ℕ) → is_in missing q ≡ true → (is_in there q ≡ false) × (is_in places q ≡ true)
