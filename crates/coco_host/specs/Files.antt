-- A store's numbered files, and what a crash may make of a write.
use Rattle.std.specs.Prelude.{◌≡◌, ◌≢◌, ℕ, ◌+◌, ◌≤◌, max, List, ◌++◌, length, take, drop, Option, Some, None, if◌then◌else◌, ◌==◌}

-- the bytes of each file by its number: one that was never written has none
abbrev pub Files : Type 0
Files = ℕ → List ℕ

-- a file with these bytes at this place, which isn't behind its end
abbrev pub put : ℕ → List ℕ → List ℕ → List ℕ
put at bytes file = take at file ++ (bytes ++ drop (at + length bytes) file)

-- the files with these bytes in one of them
abbrev pub put_into : ℕ → ℕ → List ℕ → Files → Files
put_into number at bytes files = λ n. if n == number then put at bytes (files n) else files n

-- what a write that a crash cuts short may make of a file: any bytes in its range and past the old end, the same elsewhere
pub record Torn (at count : ℕ) (old new : List ℕ) : Type 0 where
  pub before : take at new ≡ take at old
  pub after : drop (at + count) new ≡ drop (at + count) old
  pub no_shorter : length old ≤ length new
  pub no_longer : length new ≤ max (length old) (at + count)

-- the same in one of the files
pub record TornIn (number at count : ℕ) (old new : Files) : Type 0 where
  pub inside : Torn at count (old number) (new number)
  pub elsewhere : (n : ℕ) → n ≢ number → new n ≡ old n

-- where the files were told they still are, and they went on so; where they weren't, they aren't
abbrev pub Become : (Files → Files → Type 0) → Option Files → Option Files → Type 0
Become goes None new = new ≡ None
Become goes (Some old) new = (files : Files) × (new ≡ Some files) × goes old files

-- what a crash may leave now comes, by this step, from what one might have left before
abbrev pub Follows : (Files → Files → Type 0) → (Files → Type 0) → (Files → Type 0) → Type 0
Follows step old new = (c : Files) → new c → (d : Files) × old d × step d c

-- nothing that a crash may leave now is new
abbrev pub NoMore : (Files → Type 0) → (Files → Type 0) → Type 0
NoMore old new = (c : Files) → new c → old c

-- a crash leaves one file as it reads
abbrev pub IsDurable : ℕ → Option Files → (Files → Type 0) → Type 0
IsDurable number reads may_leave = (files : Files) → reads ≡ Some files → (c : Files) → may_leave c → c number ≡ files number
