-- The printed text of statements is read as these statements.
use Rattle.std.proofs.Common.{ℕ, List, [], ◌∷◌, ◌++◌, codes, sym, refl, subst, arith, append_assoc, append-nil}
use Rattle.coco_ast.specs.Tree.{Expression, RowPlace, Statement, Let, Get, Put, Delete, If, IfElse, Repeat, Refuse, Reply, Statements, End, Then}
use Rattle.coco_parse.specs.Grammar as grammar
use Rattle.coco_parse.specs.Grammar.{Disjunction, IsPlace, IsStatement, IsBlock, AreStatements}
use Rattle.coco_parse.specs.declared.word.Word.{Word}
use Rattle.coco_parse.specs.declared.word.Word.TheVariants as word
use Rattle.coco_print.specs.Printed.{expression_text, place_text, deeper, statement_text, lines_text, block_text}
use Rattle.coco_print.proofs.Parts.{Open, Tight, open_open, open_tight, tight_open, nothing, one_blank, keyword_piece, name_piece, number_piece, lone_symbol, single_symbol}
use Rattle.coco_print.proofs.Readable.{IsReadable, IsReadablePlace, IsReadableStatement, AreReadable}
use Rattle.coco_print.proofs.Expressions.{Reads, reads}

-- ---- fixed pieces

space : Open (32 ∷ []) []
space = one_blank 32 refl

let_piece : Open (codes "let ") (word.Let ∷ [])
let_piece = tight_open (keyword_piece (codes "let") (2, omega arith, refl) (omega arith)) (λ rest. refl) space

get_piece : Open (codes "get ") (word.Get ∷ [])
get_piece = tight_open (keyword_piece (codes "get") (3, omega arith, refl) (omega arith)) (λ rest. refl) space

put_piece : Open (codes "put ") (word.Put ∷ [])
put_piece = tight_open (keyword_piece (codes "put") (4, omega arith, refl) (omega arith)) (λ rest. refl) space

delete_piece : Open (codes "delete ") (word.Delete ∷ [])
delete_piece = tight_open (keyword_piece (codes "delete") (5, omega arith, refl) (omega arith)) (λ rest. refl) space

if_piece : Open (codes "if ") (word.If ∷ [])
if_piece = tight_open (keyword_piece (codes "if") (6, omega arith, refl) (omega arith)) (λ rest. refl) space

else_piece : Open (codes " else ") (word.Else ∷ [])
else_piece = tight_open (open_tight space (keyword_piece (codes "else") (7, omega arith, refl) (omega arith))) (λ rest. refl) space

repeat_piece : Open (codes "repeat ") (word.Repeat ∷ [])
repeat_piece = tight_open (keyword_piece (codes "repeat") (8, omega arith, refl) (omega arith)) (λ rest. refl) space

as_piece : Open (codes " as ") (word.As ∷ [])
as_piece = tight_open (open_tight space (keyword_piece (codes "as") (9, omega arith, refl) (omega arith))) (λ rest. refl) space

refuse_piece : Open (codes "refuse ") (word.Refuse ∷ [])
refuse_piece = tight_open (keyword_piece (codes "refuse") (10, omega arith, refl) (omega arith)) (λ rest. refl) space

reply_piece : Open (codes "reply ") (word.Reply ∷ [])
reply_piece = tight_open (keyword_piece (codes "reply") (11, omega arith, refl) (omega arith)) (λ rest. refl) space

assign_piece : Open (codes " = ") (word.Assign ∷ [])
assign_piece = tight_open (open_tight space (single_symbol 61 refl)) (λ rest. refl) space

semicolon_piece : Open (codes ";") (word.Semicolon ∷ [])
semicolon_piece = lone_symbol 59 refl refl

open_brace_piece : Open (codes "{\n") (word.OpenBrace ∷ [])
open_brace_piece = open_open (lone_symbol 123 refl refl) (one_blank 10 refl)

-- ---- blanks behind a piece

pub with_blanks : {a b : List ℕ} {us : List Word} → Open a us → Open b [] → Open (a ++ b) us
with_blanks {a} {b} {us} p q = subst (Open (a ++ b)) (append-nil us) (open_open p q)

spaced : {a : List ℕ} {us : List Word} → Tight a us → Open (a ++ codes " ") us
spaced {a} {us} p = subst (Open (a ++ codes " ")) (append-nil us) (tight_open p (λ rest. refl) space)

deeper_blank : {margin : List ℕ} → Open margin [] → Open (deeper margin) []
deeper_blank m = open_open m (open_open space space)

-- ---- statements

pub record Lays (text : List ℕ) (P : List Word → Type 0) : Type 0 where
  pub words : List Word
  pub laid : Open text words
  pub is : P words

whole : (e : Expression) → IsReadable e → Reads (expression_text e) Disjunction e
whole e h = (reads e h).whole

place_reads : (p : RowPlace) → IsReadablePlace p → Lays (place_text p) (λ ws. IsPlace ws p)
place_reads p h =
    let r = whole p.row h.1 in
    record {
      words = word.Name p.table ∷ word.OpenBracket ∷ r.words ++ word.CloseBracket ∷ [];
      laid = tight_open (open_tight (tight_open (name_piece p.table h.0) (λ rest. refl) (lone_symbol 91 refl refl)) r.laid) (λ rest. refl) (lone_symbol 93 refl refl);
      is = grammar.row r.is;
    }

let_reads : (margin x : List ℕ) (e : Expression) → IsReadableStatement (Let x e) → Lays (statement_text margin (Let x e)) (λ ws. IsStatement ws (Let x e))
let_reads margin x e h =
    let r = whole e h.1 in
    record {
      words = word.Let ∷ word.Name x ∷ word.Assign ∷ r.words ++ word.Semicolon ∷ [];
      laid = tight_open (open_tight (tight_open (open_tight let_piece (name_piece x h.0)) (λ rest. refl) assign_piece) r.laid) (λ rest. refl) semicolon_piece;
      is = grammar.sets r.is;
    }

get_reads : (margin x : List ℕ) (p : RowPlace) → IsReadableStatement (Get x p) → Lays (statement_text margin (Get x p)) (λ ws. IsStatement ws (Get x p))
get_reads margin x p h =
    let r = place_reads p h.1 in
    record {
      words = word.Let ∷ word.Name x ∷ word.Assign ∷ word.Get ∷ r.words ++ word.Semicolon ∷ [];
      laid = open_open (open_open (tight_open (open_tight let_piece (name_piece x h.0)) (λ rest. refl) (open_open assign_piece get_piece)) r.laid) semicolon_piece;
      is = grammar.gets r.is;
    }

put_reads : (margin : List ℕ) (p : RowPlace) (e : Expression) → IsReadableStatement (Put p e) → Lays (statement_text margin (Put p e)) (λ ws. IsStatement ws (Put p e))
put_reads margin p e h =
    let q = place_reads p h.0 in
    let r = whole e h.1 in
    record {
      words = (((word.Put ∷ q.words) ++ word.Assign ∷ []) ++ r.words) ++ word.Semicolon ∷ [];
      laid = tight_open (open_tight (open_open (open_open put_piece q.laid) assign_piece) r.laid) (λ rest. refl) semicolon_piece;
      is = subst (λ ws. IsStatement (ws ++ word.Semicolon ∷ []) (Put p e)) (sym (append_assoc (word.Put ∷ q.words) (word.Assign ∷ []) r.words)) (grammar.puts q.is r.is);
    }

delete_reads : (margin : List ℕ) (p : RowPlace) → IsReadableStatement (Delete p) → Lays (statement_text margin (Delete p)) (λ ws. IsStatement ws (Delete p))
delete_reads margin p h =
    let r = place_reads p h in
    record {
      words = word.Delete ∷ r.words ++ word.Semicolon ∷ [];
      laid = open_open (open_open delete_piece r.laid) semicolon_piece;
      is = grammar.deletes r.is;
    }

refuse_reads : (margin : List ℕ) (n : ℕ) → IsReadableStatement (Refuse n) → Lays (statement_text margin (Refuse n)) (λ ws. IsStatement ws (Refuse n))
refuse_reads margin n h = record {
  words = word.Refuse ∷ word.Number n ∷ word.Semicolon ∷ [];
  laid = tight_open (open_tight refuse_piece (number_piece n h)) (λ rest. refl) semicolon_piece;
  is = grammar.refuses;
}

reply_reads : (margin : List ℕ) (e : Expression) → IsReadableStatement (Reply e) → Lays (statement_text margin (Reply e)) (λ ws. IsStatement ws (Reply e))
reply_reads margin e h =
    let r = whole e h in
    record {
      words = word.Reply ∷ r.words ++ word.Semicolon ∷ [];
      laid = tight_open (open_tight reply_piece r.laid) (λ rest. refl) semicolon_piece;
      is = grammar.replies r.is;
    }

-- a block, from its lines
pub braces_read : (margin : List ℕ) (body : Statements) → Open margin [] → Lays (lines_text (deeper margin) body) (λ ws. AreStatements ws body) → Lays (block_text margin body) (λ ws. IsBlock ws body)
braces_read margin body m r = record {
  words = word.OpenBrace ∷ r.words ++ word.CloseBrace ∷ [];
  laid = open_open (with_blanks (open_open open_brace_piece r.laid) m) (lone_symbol 125 refl refl);
  is = grammar.braces r.is;
}

test_reads : (margin : List ℕ) (e : Expression) (body : Statements) → IsReadable e → Lays (block_text margin body) (λ ws. IsBlock ws body) → Lays (statement_text margin (If e body)) (λ ws. IsStatement ws (If e body))
test_reads margin e body h b =
    let r = whole e h in
    record {
      words = word.If ∷ r.words ++ b.words;
      laid = open_open (spaced (open_tight if_piece r.laid)) b.laid;
      is = grammar.tests r.is b.is;
    }

choice_reads : (margin : List ℕ) (e : Expression) (body other : Statements) → IsReadable e → Lays (block_text margin body) (λ ws. IsBlock ws body) → Lays (block_text margin other) (λ ws. IsBlock ws other)
    → Lays (statement_text margin (IfElse e body other)) (λ ws. IsStatement ws (IfElse e body other))
choice_reads margin e body other h b o =
    let r = whole e h in
    record {
      words = ((word.If ∷ r.words ++ b.words) ++ word.Else ∷ []) ++ o.words;
      laid = open_open (open_open (open_open (spaced (open_tight if_piece r.laid)) b.laid) else_piece) o.laid;
      is = subst (λ ws. IsStatement ws (IfElse e body other)) (sym (append_assoc (word.If ∷ r.words ++ b.words) (word.Else ∷ []) o.words)) (grammar.chooses r.is b.is o.is);
    }

repeat_reads : (margin : List ℕ) (n : ℕ) (x : List ℕ) (body : Statements) → IsReadableStatement (Repeat n x body) → Lays (block_text margin body) (λ ws. IsBlock ws body) → Lays (statement_text margin (Repeat n x body)) (λ ws. IsStatement ws (Repeat n x body))
repeat_reads margin n x body h b = record {
  words = word.Repeat ∷ word.Number n ∷ word.As ∷ word.Name x ∷ b.words;
  laid = open_open (spaced (open_tight (tight_open (open_tight repeat_piece (number_piece n h.0)) (λ rest. refl) as_piece) (name_piece x h.1))) b.laid;
  is = grammar.repeats b.is;
}

line_reads : (margin : List ℕ) (first : Statement) (rest : Statements) → Open margin [] → Lays (statement_text margin first) (λ ws. IsStatement ws first) → Lays (lines_text margin rest) (λ ws. AreStatements ws rest)
    → Lays (lines_text margin (Then first rest)) (λ ws. AreStatements ws (Then first rest))
line_reads margin first rest m s r = record {
  words = s.words ++ r.words;
  laid = open_open (with_blanks (open_open m s.laid) (one_blank 10 refl)) r.laid;
  is = grammar.next s.is r.is;
}

mutual
  pub statement_reads : (s : Statement) → IsReadableStatement s → (margin : List ℕ) → Open margin [] → Lays (statement_text margin s) (λ ws. IsStatement ws s)
  statement_reads (Let x e) h margin m = let_reads margin x e h
  statement_reads (Get x p) h margin m = get_reads margin x p h
  statement_reads (Put p e) h margin m = put_reads margin p e h
  statement_reads (Delete p) h margin m = delete_reads margin p h
  statement_reads (If e body) h margin m = test_reads margin e body h.0 (braces_read margin body m (lines_read body h.1 (deeper margin) (deeper_blank m)))
  statement_reads (IfElse e body other) h margin m =
      choice_reads margin e body other h.0 (braces_read margin body m (lines_read body h.1 (deeper margin) (deeper_blank m))) (braces_read margin other m (lines_read other h.2 (deeper margin) (deeper_blank m)))
  statement_reads (Repeat n x body) h margin m = repeat_reads margin n x body h (braces_read margin body m (lines_read body h.2 (deeper margin) (deeper_blank m)))
  statement_reads (Refuse n) h margin m = refuse_reads margin n h
  statement_reads (Reply e) h margin m = reply_reads margin e h

  pub lines_read : (ss : Statements) → AreReadable ss → (margin : List ℕ) → Open margin [] → Lays (lines_text margin ss) (λ ws. AreStatements ws ss)
  lines_read End h margin m = record { words = []; laid = nothing; is = grammar.end }
  lines_read (Then first rest) h margin m = line_reads margin first rest m (statement_reads first h.0 margin m) (lines_read rest h.1 margin m)

pub block_reads : (margin : List ℕ) (body : Statements) → Open margin [] → AreReadable body → Lays (block_text margin body) (λ ws. IsBlock ws body)
block_reads margin body m h = braces_read margin body m (lines_read body h (deeper margin) (deeper_blank m))
