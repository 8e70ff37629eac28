-- What a text in quotes says.
use Rattle.std.specs.Prelude.{ℕ, ◌-◌, ◌==◌, if◌then◌else◌, List, [], ◌∷◌, length, take, drop}

-- a text's content, its escapes read
abbrev pub unescaped : List ℕ → List ℕ
unescaped [] = []
unescaped (b ∷ []) = b ∷ []
unescaped (b ∷ c ∷ bs) = if b == 92 then c ∷ unescaped bs else b ∷ unescaped (c ∷ bs)

-- without its quotes
abbrev pub content : List ℕ → List ℕ
content bytes = unescaped (take (length bytes - 2) (drop 1 bytes))
