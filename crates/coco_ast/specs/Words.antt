-- The words that may be names.
use Rattle.std.specs.Prelude.{ℕ, Bool, false, ◌&&◌, ◌||◌, ◌==◌, nat_le, List, [], ◌∷◌, length}
use Rattle.std.specs.List.{list_all}
use Rattle.std.specs.Char.{is_ascii_alphabetic, is_ascii_digit}
use Rattle.coco_ast.specs.declared.name.TheConstants.{MOST_NAME_BYTES}

-- a letter or `_`
abbrev pub is_word_start : ℕ → Bool
is_word_start b = is_ascii_alphabetic b || b == 95

abbrev pub is_word_byte : ℕ → Bool
is_word_byte b = is_word_start b || is_ascii_digit b

abbrev pub is_spelled_as_word : List ℕ → Bool
is_spelled_as_word [] = false
is_spelled_as_word (b ∷ bs) = is_word_start b && list_all is_word_byte bs

-- no longer than a name may be
abbrev pub is_word : List ℕ → Bool
is_word bytes = nat_le (length bytes) MOST_NAME_BYTES && is_spelled_as_word bytes
