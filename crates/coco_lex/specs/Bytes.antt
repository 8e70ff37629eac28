-- The classes of bytes of a procedure text, but for those of words.
use Rattle.std.specs.Prelude.{ℕ, Bool, ◌||◌, ◌==◌}

abbrev pub quote : ℕ
quote = 34

abbrev pub backslash : ℕ
backslash = 92

abbrev pub number_sign : ℕ
number_sign = 35

abbrev pub line_feed : ℕ
line_feed = 10

-- a space, a tab, a line feed or a carriage return
abbrev pub is_blank : ℕ → Bool
is_blank b = b == 32 || b == 9 || b == line_feed || b == 13

abbrev pub is_backslash : ℕ → Bool
is_backslash b = b == backslash
