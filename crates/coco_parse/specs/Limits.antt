-- What is counted in a procedure text, and how far it may go.
use Rattle.std.specs.Prelude.{◌≡◌, ℕ, ◌+◌, ◌-◌, ◌<◌, ◌⊎◌, Bool, true, false, if◌then◌else◌, List, [], ◌∷◌, ◌++◌, length, IsTrue}
use Rattle.std.specs.List.{filter, list_any}
use Rattle.coco_parse.specs.declared.error.ParseKind.{ParseKind}
use Rattle.coco_parse.specs.declared.error.ParseKind.TheVariants.{Unexpected, TooDeep, TooMany, Range}
use Rattle.coco_types.specs.declared.limits.TheConstants.{MOST_ARGUMENTS}
use Rattle.coco_parse.specs.declared.limits.TheConstants.{MOST_OPEN, MOST_OPERATORS, MOST_CODE}
use Rattle.coco_parse.specs.declared.word.Word.{Word}
use Rattle.coco_parse.specs.declared.word.Word.TheVariants.{Proc, If, Refuse, Reply, Not, Name, Number, Two, OpenParen, CloseParen, OpenBrace, CloseBrace, OpenBracket, Assign}

abbrev pub is_proc : Word → Bool
is_proc Proc = true
is_proc _ = false

abbrev pub is_name : Word → Bool
is_name (Name name) = true
is_name _ = false

abbrev pub opens : Word → Bool
opens OpenParen = true
opens OpenBrace = true
opens _ = false

abbrev pub closes_list : Word → Bool
closes_list CloseParen = true
closes_list _ = false

abbrev pub closes : Word → Bool
closes CloseParen = true
closes CloseBrace = true
closes _ = false

-- `not`, a minus before one operand, and each operator between two
abbrev pub is_operator : Word → Bool
is_operator Not = true
is_operator (Two op) = true
is_operator _ = false

-- what an expression stands behind
abbrev pub begins_expression : Word → Bool
begins_expression Assign = true
begins_expression OpenBracket = true
begins_expression If = true
begins_expression Reply = true
begins_expression _ = false

-- the words behind the last one of these, and none where there is none
abbrev pub since : (Word → Bool) → List Word → List Word
since is [] = []
since is (w ∷ ws) = if list_any is ws then since is ws else (if is w then ws else [])

abbrev pub count : (Word → Bool) → List Word → ℕ
count is ws = length (filter is ws)

-- how many blocks and parentheses of the procedure are open behind these words
abbrev pub depth : List Word → ℕ
depth ws = count opens (since is_proc ws) - count closes (since is_proc ws)

-- how many operators the expression has so far
abbrev pub operators : List Word → ℕ
operators ws = count is_operator (since begins_expression ws)

-- the procedure's name, and then its parameters so far
abbrev pub header_names : List Word → ℕ
header_names ws = if list_any closes_list (since is_proc ws) then 0 else count is_name (since is_proc ws)

abbrev pub EndsIn : (Word → Bool) → List Word → Type 0
EndsIn is ws = (front : List Word) × (w : Word) × (ws ≡ front ++ w ∷ []) × IsTrue (is w)

-- the last of the words goes beyond this limit
abbrev pub Passes : ParseKind → List Word → Type 0
Passes Unexpected ws = ⊥
Passes TooDeep ws = EndsIn opens ws × (MOST_OPEN < depth ws)
Passes TooMany ws = (EndsIn is_operator ws × (MOST_OPERATORS < operators ws)) ⊎ (EndsIn is_name ws × (MOST_ARGUMENTS + 1 < header_names ws))
Passes Range ws = (front : List Word) × (n : ℕ) × (ws ≡ front ++ Refuse ∷ Number n ∷ []) × (MOST_CODE < n)
