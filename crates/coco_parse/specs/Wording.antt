-- What the tokens of a text stand for, without their places.
use Rattle.std.specs.Prelude.{ℕ, ◌-◌, if◌then◌else◌, nat_eq, List, [], ◌∷◌, length, take, drop, map, codes}
use Rattle.std.specs.Cmp.Lexicographic.{pointwise}
use Rattle.std.specs.Str.Parse.{digits_value}
use Rattle.coco_ast.specs.declared.tree.TwoOp.TheVariants.{Add, Subtract, Multiply, Divide, Remainder, Equal, NotEqual, Less, AtMost, Greater, AtLeast, And, Or}
use Rattle.coco_lex.specs.declared.token.Token.{Token}
use Rattle.coco_lex.specs.declared.token.TokenKind.{TokenKind}
use Rattle.coco_lex.specs.declared.token.TokenKind.TheVariants as kind
use Rattle.coco_parse.specs.Escapes.{content}
use Rattle.coco_parse.specs.declared.word.Word.{Word}
use Rattle.coco_parse.specs.declared.word.Word.TheVariants.{Table, Proc, Let, Get, Put, Delete, If, Else, Repeat, As, Refuse, Reply, None, Not, Name, Number, Text, Two, OpenParen, CloseParen, OpenBrace, CloseBrace, OpenBracket, CloseBracket, Comma, Semicolon, Assign}

-- the keywords, each with its word
abbrev pub keyword_words : List (List ℕ × Word)
keyword_words =
    (codes "table", Table) ∷ (codes "proc", Proc) ∷ (codes "let", Let) ∷ (codes "get", Get) ∷ (codes "put", Put) ∷ (codes "delete", Delete)
    ∷ (codes "if", If) ∷ (codes "else", Else) ∷ (codes "repeat", Repeat) ∷ (codes "as", As) ∷ (codes "refuse", Refuse) ∷ (codes "reply", Reply)
    ∷ (codes "none", None) ∷ (codes "not", Not) ∷ (codes "and", Two And) ∷ (codes "or", Two Or) ∷ []

-- the symbols
abbrev pub symbol_words : List (List ℕ × Word)
symbol_words =
    (codes "(", OpenParen) ∷ (codes ")", CloseParen) ∷ (codes "{", OpenBrace) ∷ (codes "}", CloseBrace) ∷ (codes "[", OpenBracket) ∷ (codes "]", CloseBracket)
    ∷ (codes ",", Comma) ∷ (codes ";", Semicolon) ∷ (codes "=", Assign) ∷ (codes "==", Two Equal) ∷ (codes "!=", Two NotEqual) ∷ (codes "<", Two Less)
    ∷ (codes "<=", Two AtMost) ∷ (codes ">", Two Greater) ∷ (codes ">=", Two AtLeast) ∷ (codes "+", Two Add) ∷ (codes "-", Two Subtract) ∷ (codes "*", Two Multiply)
    ∷ (codes "/", Two Divide) ∷ (codes "%", Two Remainder) ∷ []

abbrev pub spelled_by : List (List ℕ × Word) → List ℕ → Word
spelled_by [] bytes = None
spelled_by (row ∷ rows) bytes = if pointwise nat_eq row.0 bytes then row.1 else spelled_by rows bytes

-- those with so many bytes
abbrev pub of_length : ℕ → List (List ℕ × Word) → List (List ℕ × Word)
of_length n [] = []
of_length n (row ∷ rows) = if nat_eq (length row.0) n then row ∷ of_length n rows else of_length n rows

abbrev pub word_in : TokenKind → List ℕ → Word
word_in kind.Keyword bytes = spelled_by keyword_words bytes
word_in kind.Name bytes = Name bytes
word_in kind.Number bytes = Number (digits_value 10 bytes)
word_in kind.Text bytes = Text (content bytes)
word_in kind.Symbol bytes = spelled_by symbol_words bytes

abbrev pub word_of : List ℕ → Token → Word
word_of text t = word_in t.kind (take (t.end - t.start) (drop t.start text))

abbrev pub words_of : List ℕ → List Token → List Word
words_of text ts = map (word_of text) ts
