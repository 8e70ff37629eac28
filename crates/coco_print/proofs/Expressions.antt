-- The printed text of an expression is read as that expression.
use Rattle.std.proofs.Common.{ℕ, pos, negsuc, List, [], ◌∷◌, ◌++◌, codes, decimal, sym, refl, subst, arith, append_assoc}
use Rattle.coco_ast.specs.Tree.{TwoSign, Add, Subtract, Multiply, Divide, Remainder, Equal, NotEqual, Less, AtMost, Greater, AtLeast, And, Or, Expression, Number, Quoted, None, Variable, Not, Negate, Two}
use Rattle.coco_ast.specs.declared.tree.TwoOp.{TwoOp}
use Rattle.coco_ast.specs.declared.tree.TwoOp.TheVariants as op
use Rattle.coco_parse.specs.Grammar as grammar
use Rattle.coco_parse.specs.Grammar.{Level, Disjunction, Conjunction, Inversion, Comparison, Sum, Product, Negation, Atom, IsExpression, IsWhole}
use Rattle.coco_parse.specs.declared.word.Word.{Word}
use Rattle.coco_parse.specs.declared.word.Word.TheVariants as word
use Rattle.coco_print.specs.Printed.{operator_text, operand_text, expression_text}
use Rattle.coco_print.proofs.Parts.{Open, Tight, Begins, open_open, open_tight, tight_open, open_is_tight, one_blank, keyword_piece, name_piece, number_piece, text_piece, lone_symbol, single_symbol, double_symbol}
use Rattle.coco_print.proofs.Readable.{IsReadable}

-- ---- levels of the grammar

to_negation : {ws : List Word} {e : Expression} → IsExpression Atom ws e → IsExpression Negation ws e
to_negation h = grammar.plain grammar.negation h

to_product : {ws : List Word} {e : Expression} → IsExpression Negation ws e → IsExpression Product ws e
to_product h = grammar.plain grammar.product h

to_sum : {ws : List Word} {e : Expression} → IsExpression Product ws e → IsExpression Sum ws e
to_sum h = grammar.plain grammar.sum h

to_comparison : {ws : List Word} {e : Expression} → IsExpression Sum ws e → IsExpression Comparison ws e
to_comparison h = grammar.plain grammar.comparison h

to_inversion : {ws : List Word} {e : Expression} → IsExpression Comparison ws e → IsExpression Inversion ws e
to_inversion h = grammar.plain grammar.inversion h

to_conjunction : {ws : List Word} {e : Expression} → IsExpression Inversion ws e → IsExpression Conjunction ws e
to_conjunction h = grammar.plain grammar.conjunction h

to_whole : {ws : List Word} {e : Expression} → IsExpression Conjunction ws e → IsWhole ws e
to_whole h = grammar.plain grammar.disjunction h

inversion_whole : {ws : List Word} {e : Expression} → IsExpression Inversion ws e → IsWhole ws e
inversion_whole h = to_whole (to_conjunction h)

comparison_whole : {ws : List Word} {e : Expression} → IsExpression Comparison ws e → IsWhole ws e
comparison_whole h = inversion_whole (to_inversion h)

sum_whole : {ws : List Word} {e : Expression} → IsExpression Sum ws e → IsWhole ws e
sum_whole h = comparison_whole (to_comparison h)

product_whole : {ws : List Word} {e : Expression} → IsExpression Product ws e → IsWhole ws e
product_whole h = sum_whole (to_sum h)

negation_whole : {ws : List Word} {e : Expression} → IsExpression Negation ws e → IsWhole ws e
negation_whole h = product_whole (to_product h)

atom_product : {ws : List Word} {e : Expression} → IsExpression Atom ws e → IsExpression Product ws e
atom_product h = to_product (to_negation h)

atom_sum : {ws : List Word} {e : Expression} → IsExpression Atom ws e → IsExpression Sum ws e
atom_sum h = to_sum (atom_product h)

atom_inversion : {ws : List Word} {e : Expression} → IsExpression Atom ws e → IsExpression Inversion ws e
atom_inversion h = to_inversion (to_comparison (atom_sum h))

atom_conjunction : {ws : List Word} {e : Expression} → IsExpression Atom ws e → IsExpression Conjunction ws e
atom_conjunction h = to_conjunction (atom_inversion h)

-- ---- operators

abbrev pub op_of : TwoSign → TwoOp
op_of Add = op.Add
op_of Subtract = op.Subtract
op_of Multiply = op.Multiply
op_of Divide = op.Divide
op_of Remainder = op.Remainder
op_of Equal = op.Equal
op_of NotEqual = op.NotEqual
op_of Less = op.Less
op_of AtMost = op.AtMost
op_of Greater = op.Greater
op_of AtLeast = op.AtLeast
op_of And = op.And
op_of Or = op.Or

-- between two operands that are atoms each operator makes an expression
combined : (sign : TwoSign) {us vs : List Word} {d e : Expression} → IsExpression Atom us d → IsExpression Atom vs e → IsWhole (us ++ word.Two (op_of sign) ∷ vs) (Two sign d e)
combined Add g h = sum_whole (grammar.joined grammar.add grammar.sum (atom_sum g) (atom_product h))
combined Subtract g h = sum_whole (grammar.joined grammar.subtract grammar.sum (atom_sum g) (atom_product h))
combined Multiply g h = product_whole (grammar.joined grammar.multiply grammar.product (atom_product g) (to_negation h))
combined Divide g h = product_whole (grammar.joined grammar.divide grammar.product (atom_product g) (to_negation h))
combined Remainder g h = product_whole (grammar.joined grammar.remainder grammar.product (atom_product g) (to_negation h))
combined Equal g h = comparison_whole (grammar.compared grammar.equal (atom_sum g) (atom_sum h))
combined NotEqual g h = comparison_whole (grammar.compared grammar.not_equal (atom_sum g) (atom_sum h))
combined Less g h = comparison_whole (grammar.compared grammar.less (atom_sum g) (atom_sum h))
combined AtMost g h = comparison_whole (grammar.compared grammar.at_most (atom_sum g) (atom_sum h))
combined Greater g h = comparison_whole (grammar.compared grammar.greater (atom_sum g) (atom_sum h))
combined AtLeast g h = comparison_whole (grammar.compared grammar.at_least (atom_sum g) (atom_sum h))
combined And g h = to_whole (grammar.joined grammar.and grammar.conjunction (atom_conjunction g) (atom_inversion h))
combined Or g h = grammar.joined grammar.or grammar.disjunction (to_whole (atom_conjunction g)) (atom_conjunction h)

space : Open (32 ∷ []) []
space = one_blank 32 refl

operator_piece : (sign : TwoSign) → Open (operator_text sign) (word.Two (op_of sign) ∷ [])
operator_piece Add = open_open (open_open space (lone_symbol 43 refl refl)) space
operator_piece Subtract = open_open (open_open space (lone_symbol 45 refl refl)) space
operator_piece Multiply = open_open (open_open space (lone_symbol 42 refl refl)) space
operator_piece Divide = open_open (open_open space (lone_symbol 47 refl refl)) space
operator_piece Remainder = open_open (open_open space (lone_symbol 37 refl refl)) space
operator_piece Equal = open_open (open_open space (double_symbol 61 refl)) space
operator_piece NotEqual = open_open (open_open space (double_symbol 33 refl)) space
operator_piece Less = tight_open (open_tight space (single_symbol 60 refl)) (λ rest. refl) space
operator_piece AtMost = open_open (open_open space (double_symbol 60 refl)) space
operator_piece Greater = tight_open (open_tight space (single_symbol 62 refl)) (λ rest. refl) space
operator_piece AtLeast = open_open (open_open space (double_symbol 62 refl)) space
operator_piece And = tight_open (open_tight space (keyword_piece (codes "and") (14, omega arith, refl) (omega arith))) (λ rest. refl) space
operator_piece Or = tight_open (open_tight space (keyword_piece (codes "or") (15, omega arith, refl) (omega arith))) (λ rest. refl) space

operator_begins : (sign : TwoSign) → Begins (operator_text sign)
operator_begins Add = λ rest. refl
operator_begins Subtract = λ rest. refl
operator_begins Multiply = λ rest. refl
operator_begins Divide = λ rest. refl
operator_begins Remainder = λ rest. refl
operator_begins Equal = λ rest. refl
operator_begins NotEqual = λ rest. refl
operator_begins Less = λ rest. refl
operator_begins AtMost = λ rest. refl
operator_begins Greater = λ rest. refl
operator_begins AtLeast = λ rest. refl
operator_begins And = λ rest. refl
operator_begins Or = λ rest. refl

-- ---- expressions

pub record Reads (text : List ℕ) (level : Level) (e : Expression) : Type 0 where
  pub words : List Word
  pub laid : Tight text words
  pub is : IsExpression level words e

-- an expression by itself, and as an operand
pub record ReadsBoth (e : Expression) : Type 0 where
  pub whole : Reads (expression_text e) Disjunction e
  pub operand : Reads (operand_text e (expression_text e)) Atom e

atom_whole : {text : List ℕ} {e : Expression} → Reads text Atom e → Reads text Disjunction e
atom_whole r = record { words = r.words; laid = r.laid; is = to_whole (atom_conjunction r.is) }

in_parentheses : {text : List ℕ} {e : Expression} → Reads text Disjunction e → Reads (codes "(" ++ text ++ codes ")") Atom e
in_parentheses r = record {
  words = word.OpenParen ∷ r.words ++ word.CloseParen ∷ [];
  laid = open_is_tight (tight_open (open_tight (lone_symbol 40 refl refl) r.laid) (λ rest. refl) (lone_symbol 41 refl refl));
  is = grammar.enclosed r.is;
}

not_piece : Open (codes "not ") (word.Not ∷ [])
not_piece = tight_open (keyword_piece (codes "not") (13, omega arith, refl) (omega arith)) (λ rest. refl) space

inverted_reads : (e : Expression) → Reads (operand_text e (expression_text e)) Atom e → Reads (expression_text (Not e)) Disjunction (Not e)
inverted_reads e r = record { words = word.Not ∷ r.words; laid = open_tight not_piece r.laid; is = inversion_whole (grammar.inverted (atom_inversion r.is)) }

negated_reads : (e : Expression) → Reads (operand_text e (expression_text e)) Atom e → Reads (expression_text (Negate e)) Disjunction (Negate e)
negated_reads e r = record { words = word.Two op.Subtract ∷ r.words; laid = open_tight (lone_symbol 45 refl refl) r.laid; is = negation_whole (grammar.negated (to_negation r.is)) }

two_reads : (sign : TwoSign) (d e : Expression) → Reads (operand_text d (expression_text d)) Atom d → Reads (operand_text e (expression_text e)) Atom e → Reads (expression_text (Two sign d e)) Disjunction (Two sign d e)
two_reads sign d e q r = record {
  words = (q.words ++ word.Two (op_of sign) ∷ []) ++ r.words;
  laid = open_tight (tight_open q.laid (operator_begins sign) (operator_piece sign)) r.laid;
  is = subst (λ ws. IsWhole ws (Two sign d e)) (sym (append_assoc q.words (word.Two (op_of sign) ∷ []) r.words)) (combined sign q.is r.is);
}

pub reads : (e : Expression) → IsReadable e → ReadsBoth e
reads (Number (pos n)) h =
    let r : Reads (decimal n) Atom (Number (pos n)) = record { words = word.Number n ∷ []; laid = number_piece n h; is = grammar.number } in
    record { whole = atom_whole r; operand = r }
reads (Number (negsuc n)) h = absurd h
reads (Quoted content) h =
    let r : Reads (expression_text (Quoted content)) Atom (Quoted content) = record { words = word.Text content ∷ []; laid = open_is_tight (text_piece content h.printable h.short); is = grammar.text } in
    record { whole = atom_whole r; operand = r }
reads None h =
    let r : Reads (codes "none") Atom None = record { words = word.None ∷ []; laid = keyword_piece (codes "none") (12, omega arith, refl) (omega arith); is = grammar.none } in
    record { whole = atom_whole r; operand = r }
reads (Variable name) h =
    let r : Reads name Atom (Variable name) = record { words = word.Name name ∷ []; laid = name_piece name h; is = grammar.variable } in
    record { whole = atom_whole r; operand = r }
reads (Not e) h =
    let w = inverted_reads e (reads e h).operand in
    record { whole = w; operand = in_parentheses w }
reads (Negate e) h =
    let w = negated_reads e (reads e h).operand in
    record { whole = w; operand = in_parentheses w }
reads (Two sign d e) h =
    let w = two_reads sign d e (reads d h.0).operand (reads e h.1).operand in
    record { whole = w; operand = in_parentheses w }
