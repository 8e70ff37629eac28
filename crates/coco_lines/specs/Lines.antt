-- The lines of a text.
use Rattle.std.specs.Prelude.{ℕ, List, [], ◌∷◌, length, ◌==◌, if◌then◌else◌}
use Rattle.std.specs.List.{slice_split}

abbrev pub Line : Type 0
Line = List ℕ

-- the parts between line feeds; an empty part behind the last one is no line
abbrev pub without_empty_last : List (List ℕ) → List (List ℕ)
without_empty_last [] = []
without_empty_last (x ∷ []) = if length x == 0 then [] else x ∷ []
without_empty_last (x ∷ y ∷ more) = x ∷ without_empty_last (y ∷ more)

-- a line ends before a byte 10 or at the end of the text; an end right behind a byte 10, or at once, begins no line
unfoldable pub lines_of : List ℕ → List (List ℕ)
lines_of bytes = without_empty_last (slice_split (λ b. b == 10) bytes)

-- the parts but the last, behind which no line feed stands
abbrev pub without_last : List Line → List Line
without_last [] = []
without_last (x ∷ []) = []
without_last (x ∷ y ∷ more) = x ∷ without_last (y ∷ more)

-- the lines that each end in a byte 10
unfoldable pub ended_lines_of : List ℕ → List Line
ended_lines_of bytes = without_last (slice_split (λ b. b == 10) bytes)
