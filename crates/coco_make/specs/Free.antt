-- Numbers of files that a layout doesn't name.
use Rattle.std.specs.Prelude.{ℕ, ◌+◌, List, length, take, not}
use Rattle.std.specs.List.{filter, range_with_len}
use Rattle.coco_entry.specs.Layouts.{is_named}

-- the first so many numbers from 1 on that aren't among those named; as many are tried as that needs at most
abbrev pub free_files : List ℕ → ℕ → List ℕ
free_files named count = take count (filter (λ f. not (is_named named f)) (range_with_len 1 (count + length named)))
