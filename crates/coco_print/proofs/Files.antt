-- The printed text of a tree is read as that tree.
use Rattle.std.proofs.Common.{◌≡◌, ℕ, List, [], ◌∷◌, ◌++◌, codes, IsUtf8, sym, refl, subst, arith, append_assoc, append-nil}
use Rattle.std.specs.List.{flat_map}
use Rattle.coco_ast.specs.Tree.{Procedure, Procedures}
use Rattle.coco_parse.specs.Grammar as grammar
use Rattle.coco_parse.specs.Grammar.{AreListed, AreParams, IsProcedure, IsFile, IsText}
use Rattle.coco_parse.specs.Wording.{words_of}
use Rattle.coco_parse.specs.declared.word.Word.{Word}
use Rattle.coco_parse.specs.declared.word.Word.TheVariants as word
use Rattle.coco_print.specs.Printed.{further_param, params_text, procedure_text, table_text, printed}
use Rattle.coco_print.specs.ReadsBack.{ReadsBack}
use Rattle.coco_print.proofs.Laid as laid
use Rattle.coco_print.proofs.Laid.{Laid, tokenized}
use Rattle.coco_print.proofs.Parts.{Open, Tight, open_open, open_tight, tight_open, open_is_tight, nothing, one_blank, keyword_piece, name_piece, lone_symbol}
use Rattle.coco_print.proofs.Readable.{AreNames, IsReadableProcedure, AreReadableProcedures, IsReadableTree}
use Rattle.coco_print.proofs.Statements.{Lays, with_blanks, block_reads}

space : Open (32 ∷ []) []
space = one_blank 32 refl

table_piece : Open (codes "table ") (word.Table ∷ [])
table_piece = tight_open (keyword_piece (codes "table") (0, omega arith, refl) (omega arith)) (λ rest. refl) space

proc_piece : Open (codes "proc ") (word.Proc ∷ [])
proc_piece = tight_open (keyword_piece (codes "proc") (1, omega arith, refl) (omega arith)) (λ rest. refl) space

comma_piece : Open (codes ", ") (word.Comma ∷ [])
comma_piece = open_open (lone_symbol 44 refl refl) space

end_params_piece : Open (codes ") ") (word.CloseParen ∷ [])
end_params_piece = open_open (lone_symbol 41 refl refl) space

end_line_piece : Open (codes ";\n") (word.Semicolon ∷ [])
end_line_piece = open_open (lone_symbol 59 refl refl) (one_blank 10 refl)

-- ---- parameters

pub record Lists (text : List ℕ) (P : List Word → Type 0) : Type 0 where
  pub words : List Word
  pub laid : Tight text words
  pub is : P words

listed_reads : (names : List (List ℕ)) → AreNames names → (name : List ℕ) → Tight name (word.Name name ∷ []) → Lists (name ++ flat_map further_param names) (λ ws. AreListed ws (name ∷ names))
listed_reads [] h name n = record {
  words = word.Name name ∷ [];
  laid = subst (λ text. Tight text (word.Name name ∷ [])) (sym (append-nil name)) n;
  is = grammar.last;
}
listed_reads (other ∷ names) h name n =
    let r = listed_reads names h.1 other (name_piece other h.0) in
    record {
      words = word.Name name ∷ word.Comma ∷ r.words;
      laid = subst (λ text. Tight text (word.Name name ∷ word.Comma ∷ r.words)) (append_assoc name (codes ", ") (other ++ flat_map further_param names)) (open_tight (tight_open n (λ rest. refl) comma_piece) r.laid);
      is = grammar.listed r.is;
    }

params_read : (names : List (List ℕ)) → AreNames names → Lists (params_text names) (λ ws. AreParams ws names)
params_read [] h = record { words = []; laid = open_is_tight nothing; is = grammar.none }
params_read (name ∷ names) h =
    let r = listed_reads names h.1 name (name_piece name h.0) in
    record { words = r.words; laid = r.laid; is = grammar.some r.is }

-- ---- procedures and files

procedure_reads : (p : Procedure) → IsReadableProcedure p → Lays (procedure_text p) (λ ws. IsProcedure ws p)
procedure_reads p h =
    let q = params_read p.params h.params in
    let b = block_reads [] p.body nothing h.body in
    record {
      words = ((word.Proc ∷ word.Name p.name ∷ word.OpenParen ∷ q.words) ++ word.CloseParen ∷ []) ++ b.words;
      laid = with_blanks (open_open (tight_open (open_tight (tight_open (open_tight proc_piece (name_piece p.name h.name)) (λ rest. refl) (lone_symbol 40 refl refl)) q.laid) (λ rest. refl) end_params_piece) b.laid) (one_blank 10 refl);
      is = subst (λ ws. IsProcedure ws p) (sym (append_assoc (word.Proc ∷ word.Name p.name ∷ word.OpenParen ∷ q.words) (word.CloseParen ∷ []) b.words)) (grammar.procedure q.is b.is);
    }

procedures_read : (ps : List Procedure) → AreReadableProcedures ps → Lays (flat_map procedure_text ps) (λ ws. IsFile ws [] ps)
procedures_read [] h = record { words = []; laid = nothing; is = grammar.nothing }
procedures_read (p ∷ ps) h =
    let first = procedure_reads p h.0 in
    let others = procedures_read ps h.1 in
    record { words = first.words ++ others.words; laid = open_open first.laid others.laid; is = grammar.proc first.is others.is }

table_reads : (name : List ℕ) → Tight name (word.Name name ∷ []) → Open (table_text name) (word.Table ∷ word.Name name ∷ word.Semicolon ∷ [])
table_reads name n = tight_open (open_tight table_piece n) (λ rest. refl) end_line_piece

file_reads : (tables : List (List ℕ)) → AreNames tables → (ps : List Procedure) → Lays (flat_map procedure_text ps) (λ ws. IsFile ws [] ps) → Lays (flat_map table_text tables ++ flat_map procedure_text ps) (λ ws. IsFile ws tables ps)
file_reads [] h ps r = r
file_reads (name ∷ tables) h ps r =
    let others = file_reads tables h.1 ps r in
    record {
      words = word.Table ∷ word.Name name ∷ word.Semicolon ∷ others.words;
      laid = subst (λ text. Open text (word.Table ∷ word.Name name ∷ word.Semicolon ∷ others.words)) (sym (append_assoc (table_text name) (flat_map table_text tables) (flat_map procedure_text ps))) (open_open (table_reads name (name_piece name h.0)) others.laid);
      is = grammar.table others.is;
    }

whole_laid : {text : List ℕ} {ws : List Word} → Open text ws → Laid text ws
whole_laid {text} {ws} p = subst (λ t. Laid t ws) (append-nil text) (subst (λ us. Laid (text ++ []) us) (append-nil ws) (p.lay [] [] laid.end))

pub reads_back : (text : List ℕ) (t : Procedures) → text ≡ printed t → IsUtf8 text → IsReadableTree t → ReadsBack text t
reads_back text t e utf8 h =
    let r = file_reads t.tables h.tables t.procs (procedures_read t.procs h.procs) in
    let found = tokenized text r.words utf8 (subst (λ s. Laid s r.words) (sym e) (whole_laid r.laid)) in
    let written : IsText (words_of text found.tokens) t = subst (λ ws. IsText ws t) (sym found.words) r.is in
    record { tokens = found.tokens; lexed = found.lexed; written = written; parsed = λ limits. record { text = written; limits = limits } }
