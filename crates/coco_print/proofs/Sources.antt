-- A tree that some text gave can be read back: its names, numbers and texts were tokens.
use Rattle.std.proofs.Common.{◌≡◌, ℕ, ◌-◌, ◌≤◌, nat_eq, ⊎_elim, List, [], ◌∷◌, ◌++◌, length, take, drop, sym, ap, ◌∙◌, subst, rules}
use Rattle.std.specs.Cmp.Lexicographic.{pointwise}
use Rattle.std.proofs.lemmas.Bool.{cases_Bool}
use Rattle.coco_ast.specs.Tree.{Expression, RowPlace, Statement, Statements, Procedure, Procedures}
use Rattle.coco_lex.specs.Lexeme.{IsQuoted}
use Rattle.coco_lex.specs.Tokens.{IsOfKind, KeepsLimits, Follow}
use Rattle.coco_lex.specs.declared.token.Token.{Token}
use Rattle.coco_lex.specs.declared.token.TokenKind.{TokenKind}
use Rattle.coco_lex.specs.declared.token.TokenKind.TheVariants as kind
use Rattle.coco_parse.specs.Grammar as grammar
use Rattle.coco_parse.specs.Grammar.{Level, IsExpression, IsPlace, IsStatement, IsBlock, AreStatements, AreListed, AreParams, IsProcedure, IsFile, IsText}
use Rattle.coco_parse.specs.Escapes.{content}
use Rattle.coco_parse.specs.Wording.{keyword_words, symbol_words, spelled_by, word_in, words_of}
use Rattle.coco_parse.specs.declared.word.Word.{Word}
use Rattle.coco_parse.specs.declared.word.Word.TheVariants as word
use Rattle.coco_print.specs.ReadsBack.{IsTree}
use Rattle.coco_print.proofs.Parts.{IsName, content_quoted}
use Rattle.coco_print.proofs.Readable.{IsCount, IsQuotable, IsReadable, IsReadablePlace, IsReadableStatement, AreReadable, AreNames, IsReadableProcedure, AreReadableProcedures, IsReadableTree}

-- ---- words that tokens gave

abbrev IsSource : Word → Type 0
IsSource (word.Name name) = IsName name
IsSource (word.Number n) = IsCount n
IsSource (word.Text bytes) = IsQuotable bytes
IsSource _ = Unit {0}

abbrev AreSources : List Word → Type 0
AreSources [] = Unit {0}
AreSources (w ∷ ws) = IsSource w × AreSources ws

abbrev AreFixed : List (List ℕ × Word) → Type 0
AreFixed [] = Unit {0}
AreFixed (row ∷ rows) = IsSource row.1 × AreFixed rows

fixed_source : (rows : List (List ℕ × Word)) → AreFixed rows → (bytes : List ℕ) → IsSource (spelled_by rows bytes)
fixed_source [] h bytes = tt
fixed_source (row ∷ rows) h bytes =
    ⊎_elim
    (λ e. rw e h.0)
    (λ e. rw e (fixed_source rows h.1 bytes))
    (cases_Bool (pointwise nat_eq row.0 bytes))

keyword_source : (bytes : List ℕ) → IsSource (spelled_by keyword_words bytes)
keyword_source bytes = fixed_source keyword_words (search rules) bytes

symbol_source : (bytes : List ℕ) → IsSource (spelled_by symbol_words bytes)
symbol_source bytes = fixed_source symbol_words (search rules) bytes

text_source : (c bytes : List ℕ) → IsQuoted c bytes → length c ≤ 256 → IsQuotable (content bytes)
text_source c bytes q short =
    let same : content bytes ≡ c = ap content q.spelling ∙ content_quoted c in
    subst IsQuotable (sym same) (record { printable = q.printable; short = short })

word_source : (k : TokenKind) (bytes : List ℕ) → IsOfKind k bytes → KeepsLimits bytes → IsSource (word_in k bytes)
word_source kind.Keyword bytes h l = keyword_source bytes
word_source kind.Name bytes h l = record { spelling = h.0; short = l.word h.0; no_keyword = h.1 }
word_source kind.Number bytes h l = l.number h
word_source kind.Text bytes h l = text_source h.0 bytes h.1 (l.text h.0 h.1)
word_source kind.Symbol bytes h l = symbol_source bytes

token_sources : (text : List ℕ) (from : ℕ) (ts : List Token) (to : ℕ) → Follow text from ts to → AreSources (words_of text ts)
token_sources text from [] to h = tt
token_sources text from (t ∷ ts) to h = (word_source t.kind (take (t.end - t.start) (drop t.start text)) h.1.front.kind_fits h.1.front.limits, token_sources text t.end ts to h.2)

-- ---- what is made of such words

split : (us vs : List Word) → AreSources (us ++ vs) → AreSources us × AreSources vs
split [] vs h = (tt, h)
split (u ∷ us) vs h = let rest = split us vs h.1 in ((h.0, rest.0), rest.1)

expression_source : {l : Level} {ws : List Word} {e : Expression} → IsExpression l ws e → AreSources ws → IsReadable e
expression_source (grammar.plain w h) s = expression_source h s
expression_source (grammar.joined {us = us} {vs = vs} j w g h) s = let both = split us _ s in (expression_source g both.0, expression_source h both.1.1)
expression_source (grammar.compared {us = us} {vs = vs} c g h) s = let both = split us _ s in (expression_source g both.0, expression_source h both.1.1)
expression_source (grammar.inverted h) s = expression_source h s.1
expression_source (grammar.negated h) s = expression_source h s.1
expression_source grammar.number s = s.0
expression_source grammar.text s = s.0
expression_source grammar.none s = tt
expression_source grammar.variable s = s.0
expression_source (grammar.enclosed {ws = ws} h) s = expression_source h (split ws (word.CloseParen ∷ []) s.1).0

place_source : {ws : List Word} {p : RowPlace} → IsPlace ws p → AreSources ws → IsReadablePlace p
place_source (grammar.row {ws = ws} h) s = (s.0, expression_source h (split ws (word.CloseBracket ∷ []) s.1.1).0)

mutual
  statement_source : {ws : List Word} {t : Statement} → IsStatement ws t → AreSources ws → IsReadableStatement t
  statement_source (grammar.sets {ws = ws} h) s = (s.1.0, expression_source h (split ws (word.Semicolon ∷ []) s.1.1.1).0)
  statement_source (grammar.gets {ws = ws} h) s = (s.1.0, place_source h (split ws (word.Semicolon ∷ []) s.1.1.1.1).0)
  statement_source (grammar.puts {us = us} {vs = vs} g h) s =
      let behind = split (us ++ word.Assign ∷ vs) (word.Semicolon ∷ []) s.1 in
      let both = split us (word.Assign ∷ vs) behind.0 in
      (place_source g both.0, expression_source h both.1.1)
  statement_source (grammar.deletes {ws = ws} h) s = place_source h (split ws (word.Semicolon ∷ []) s.1).0
  statement_source (grammar.tests {us = us} {vs = vs} g h) s = let both = split us vs s.1 in (expression_source g both.0, block_source h both.1)
  statement_source (grammar.chooses {us = us} {vs = vs} {ws = ws} f g h) s =
      let behind = split (us ++ vs) (word.Else ∷ ws) s.1 in
      let both = split us vs behind.0 in
      (expression_source f both.0, block_source g both.1, block_source h behind.1.1)
  statement_source (grammar.repeats h) s = (s.1.0, s.1.1.1.0, block_source h s.1.1.1.1)
  statement_source grammar.refuses s = s.1.0
  statement_source (grammar.replies {ws = ws} h) s = expression_source h (split ws (word.Semicolon ∷ []) s.1).0

  block_source : {ws : List Word} {body : Statements} → IsBlock ws body → AreSources ws → AreReadable body
  block_source (grammar.braces {ws = ws} h) s = statements_source h (split ws (word.CloseBrace ∷ []) s.1).0

  statements_source : {ws : List Word} {body : Statements} → AreStatements ws body → AreSources ws → AreReadable body
  statements_source grammar.end s = tt
  statements_source (grammar.next {us = us} {vs = vs} g h) s = let both = split us vs s in (statement_source g both.0, statements_source h both.1)

listed_source : {ws : List Word} {names : List (List ℕ)} → AreListed ws names → AreSources ws → AreNames names
listed_source grammar.last s = (s.0, tt)
listed_source (grammar.listed h) s = (s.0, listed_source h s.1.1)

params_source : {ws : List Word} {names : List (List ℕ)} → AreParams ws names → AreSources ws → AreNames names
params_source grammar.none s = tt
params_source (grammar.some h) s = listed_source h s

procedure_source : {ws : List Word} {p : Procedure} → IsProcedure ws p → AreSources ws → IsReadableProcedure p
procedure_source (grammar.procedure {us = us} {vs = vs} g h) s =
    let both = split us (word.CloseParen ∷ vs) s.1.1.1 in
    record { name = s.1.0; params = params_source g both.0; body = block_source h both.1.1 }

tables_source : {ws : List Word} {tables : List (List ℕ)} {ps : List Procedure} → IsFile ws tables ps → AreSources ws → AreNames tables
tables_source grammar.nothing s = tt
tables_source (grammar.table h) s = (s.1.0, tables_source h s.1.1.1)
tables_source (grammar.proc {us = us} {vs = vs} g h) s = tables_source h (split us vs s).1

procedures_source : {ws : List Word} {tables : List (List ℕ)} {ps : List Procedure} → IsFile ws tables ps → AreSources ws → AreReadableProcedures ps
procedures_source grammar.nothing s = tt
procedures_source (grammar.table h) s = procedures_source h s.1.1.1
procedures_source (grammar.proc {us = us} {vs = vs} g h) s = let both = split us vs s in (procedure_source g both.0, procedures_source h both.1)

pub tree_source : (t : Procedures) → IsTree t → IsReadableTree t
tree_source t (text, ts, lexed, written) =
    let s = token_sources text 0 ts (length text) lexed.follow in
    record { tables = tables_source written s; procs = procedures_source written s }
