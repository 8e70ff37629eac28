-- What the machine does with expressions.
use Rattle.std.proofs.Common.{◌≡◌, ◌≢◌, ℕ, suc, ◌≤◌, Bool, false, if◌then◌else◌, nat_eq, nat_le, ◌&&◌, ◌⊎◌, inl, inr, ⊎_elim, List, [], ◌∷◌, ◌++◌, Some, None, option_map, option_and_then, refl, sym, ap, ◌∙◌, subst, append_assoc, arith, le-leb, leb-true, leb-false, ne_eqb, eq-eqb}
use Rattle.std.proofs.lemmas.Bool.{lt-leb, cases_Bool}
use Rattle.coco_ast.specs.Tree.{Expression}
use Rattle.coco_ast.specs.Tree as tree
use Rattle.coco_ast.specs.Views.{sign_of}
use Rattle.coco_ast.specs.declared.tree.TwoOp.{TwoOp}
use Rattle.coco_ast.specs.declared.tree.TwoOp.TheVariants.{Add, Subtract, Multiply, Divide, Remainder, Equal, NotEqual, Less, AtMost, Greater, AtLeast, And, Or}
use Rattle.coco_parse.specs.Grammar.{Level, Disjunction, Conjunction, Inversion, Comparison, Sum, Product, Negation, Atom, Joins, or, and, add, subtract, multiply, divide, remainder, Compares, equal, not_equal, less, at_most, greater, at_least, Within, disjunction, conjunction, inversion, comparison, sum, product, IsExpression, plain, joined, compared, number, text, variable, enclosed, IsWhole}
use Rattle.coco_parse.specs.Grammar as grammar
use Rattle.coco_parse.specs.Machine as machine
use Rattle.coco_parse.specs.Machine.{Frame, Opened, Inverted, Left, binding, wants, operate, enclose, conclude, Mark, ParenMark, mark_word, marks, Goal, Operand, Operator, operator_step, after}
use Rattle.coco_parse.specs.declared.word.Word.{Word}
use Rattle.coco_parse.specs.declared.word.Word.TheVariants as word
use Rattle.coco_parse.specs.declared.word.Word.TheVariants.{Two, OpenParen, CloseParen}

abbrev pub level_number : Level → ℕ
level_number Disjunction = 0
level_number Conjunction = 1
level_number Inversion = 2
level_number Comparison = 3
level_number Sum = 4
level_number Product = 5
level_number Negation = 6
level_number Atom = 7

-- the least level of what stands on an operator's left
abbrev pub left_least : TwoOp → ℕ
left_least Or = 0
left_least And = 1
left_least Equal = 4
left_least NotEqual = 4
left_least Less = 4
left_least AtMost = 4
left_least Greater = 4
left_least AtLeast = 4
left_least Add = 4
left_least Subtract = 4
left_least Multiply = 5
left_least Divide = 5
left_least Remainder = 5

-- an expression of some level, this or a higher one
abbrev pub IsAt : ℕ → List Word → Expression → Type 0
IsAt n ws e = (l : Level) × (n ≤ level_number l) × IsExpression l ws e

-- the words that have been read up to an operand
pub data Spells : List Frame → List Word → Type 0 where
  none : Spells [] []
  opened : {fs : List Frame} {ws : List Word} → Spells fs ws → Spells (Opened ∷ fs) (ws ++ OpenParen ∷ [])
  inverted : {fs : List Frame} {ws : List Word} → Spells fs ws → wants fs ≤ 2 → Spells (Inverted ∷ fs) (ws ++ word.Not ∷ [])
  negated : {fs : List Frame} {ws : List Word} → Spells fs ws → Spells (machine.Negated ∷ fs) (ws ++ Two Subtract ∷ [])
  left : {fs : List Frame} {ws us : List Word} {op : TwoOp} {d : Expression} → Spells fs ws → wants fs ≤ binding op → IsAt (left_least op) us d → Spells (Left op d ∷ fs) (ws ++ us ++ Two op ∷ [])

-- ---- levels

-- how tightly an operator behind an expression of a level may bind
abbrev bound : Level → ℕ
bound Disjunction = 0
bound Conjunction = 1
bound Inversion = 1
bound Comparison = 2
bound Sum = 4
bound Product = 5
bound Negation = 5
bound Atom = 5

abbrev Follows : ℕ → Word → Type 0
Follows n (Two op) = binding op ≤ n
Follows n _ = Unit {0}

follows_more : (w : Word) (m n : ℕ) → m ≤ n → Follows m w → Follows n w
follows_more (Two op) m n h f = omega arith
follows_more _ m n h f = tt

binding_most : (op : TwoOp) → binding op ≤ 5
binding_most Or = omega arith
binding_most _ = omega arith

within_number : {l k : Level} → Within l k → level_number k ≡ suc (level_number l)
within_number disjunction = refl
within_number conjunction = refl
within_number inversion = refl
within_number comparison = refl
within_number sum = refl
within_number product = refl
within_number grammar.negation = refl

within_bound : {l k : Level} → Within l k → bound l ≤ bound k
within_bound disjunction = omega arith
within_bound conjunction = omega arith
within_bound inversion = omega arith
within_bound comparison = omega arith
within_bound sum = omega arith
within_bound product = omega arith
within_bound grammar.negation = omega arith

-- ---- the machine on what the grammar allows

pushed : (e : Expression) (fs : List Frame) (op : TwoOp) → wants fs ≤ binding op → operate e fs op ≡ Some (Left op e ∷ fs)
pushed e [] op h = refl
pushed e (Opened ∷ fs) op h = refl
pushed e (Inverted ∷ fs) op h = rw (le-leb 2 (binding op) h)
pushed e (machine.Negated ∷ fs) op h = absurd (omega (arith, binding_most op))
pushed e (Left o d ∷ fs) op h = rw (le-leb (suc (binding o)) (binding op) h)

taken_left : (o op : TwoOp) (d e : Expression) (fs : List Frame) → binding op ≤ binding o → (nat_eq (binding o) 3 && nat_eq (binding op) 3) ≡ false → operate e (Left o d ∷ fs) op ≡ operate (tree.Two (sign_of o) d e) fs op
taken_left o op d e fs h one = rw (lt-leb (suc (binding o)) (binding op) (omega arith), one)

taken_joined : {l : Level} {o : TwoOp} → Joins l o → (op : TwoOp) (d e : Expression) (fs : List Frame) → binding op ≤ bound l → operate e (Left o d ∷ fs) op ≡ operate (tree.Two (sign_of o) d e) fs op
taken_joined or op d e fs h = taken_left Or op d e fs h refl
taken_joined and op d e fs h = taken_left And op d e fs h refl
taken_joined add op d e fs h = taken_left Add op d e fs h refl
taken_joined subtract op d e fs h = taken_left Subtract op d e fs h refl
taken_joined multiply op d e fs h = taken_left Multiply op d e fs h refl
taken_joined divide op d e fs h = taken_left Divide op d e fs h refl
taken_joined remainder op d e fs h = taken_left Remainder op d e fs h refl

compares_binding : {o : TwoOp} → Compares o → binding o ≡ 3
compares_binding equal = refl
compares_binding not_equal = refl
compares_binding less = refl
compares_binding at_most = refl
compares_binding greater = refl
compares_binding at_least = refl

joins_binding : {l : Level} {o : TwoOp} → Joins l o → binding o ≡ level_number l
joins_binding or = refl
joins_binding and = refl
joins_binding add = refl
joins_binding subtract = refl
joins_binding multiply = refl
joins_binding divide = refl
joins_binding remainder = refl

joins_bound : {l : Level} {o : TwoOp} → Joins l o → binding o ≡ bound l
joins_bound or = refl
joins_bound and = refl
joins_bound add = refl
joins_bound subtract = refl
joins_bound multiply = refl
joins_bound divide = refl
joins_bound remainder = refl

not_three : (n : ℕ) → n ≤ 2 → nat_eq n 3 ≡ false
not_three n h = ne_eqb n 3 (λ same. omega arith)

taken_compared : (o op : TwoOp) (d e : Expression) (fs : List Frame) → binding o ≡ 3 → binding op ≤ 2 → operate e (Left o d ∷ fs) op ≡ operate (tree.Two (sign_of o) d e) fs op
taken_compared o op d e fs same h = taken_left o op d e fs (omega arith) (rw (same, not_three (binding op) h))

-- two operands in frames do the same where each operator, parenthesis and end does
alike : (e d : Expression) (fs gs : List Frame) (n : ℕ) → ((op : TwoOp) → binding op ≤ n → operate e fs op ≡ operate d gs op) → enclose e fs ≡ enclose d gs → conclude e fs ≡ conclude d gs
    → (m : Mark) (k : Expression → Goal) (w : Word) → Follows n w → operator_step e fs m k w ≡ operator_step d gs m k w
alike e d fs gs n operates encloses concludes m k (Two op) h = ap (option_map (λ hs. Operand hs m k)) (operates op h)
alike e d fs gs n operates encloses concludes m k CloseParen h = ap (option_map (λ (p : Expression × List Frame). Operator p.0 p.1 m k)) encloses
alike e d fs gs n operates encloses concludes m k w h = ap (λ c. if marks m w then option_map k c else None) concludes

-- the machine reads an operand into frames that want no more, and what follows it comes to the whole operand
abbrev Reads : List Word → Expression → List Frame → Mark → (Expression → Goal) → Word → List Word → Type 0
Reads ws e fs m k w v = after (Operand fs m k) (ws ++ w ∷ v) ≡ after (Operator e fs m k) (w ∷ v)

reads_two : (us vs : List Word) (op : TwoOp) (d e : Expression) (fs : List Frame) (m : Mark) (k : Expression → Goal) (w : Word) (v : List Word) → wants fs ≤ binding op
    → Reads us d fs m k (Two op) (vs ++ w ∷ v) → Reads vs e (Left op d ∷ fs) m k w v
    → operator_step e (Left op d ∷ fs) m k w ≡ operator_step (tree.Two (sign_of op) d e) fs m k w
    → Reads (us ++ Two op ∷ vs) (tree.Two (sign_of op) d e) fs m k w v
reads_two us vs op d e fs m k w v h first second taken =
    ap (after (Operand fs m k)) (append_assoc us (Two op ∷ vs) (w ∷ v)) ∙ first
    ∙ ap (λ o. option_and_then (λ g. after g (vs ++ w ∷ v)) (option_map (λ gs. Operand gs m k) o)) (pushed d fs op h)
    ∙ second ∙ ap (option_and_then (λ g. after g v)) taken

reads_not : (ws : List Word) (e : Expression) (fs : List Frame) (m : Mark) (k : Expression → Goal) (w : Word) (v : List Word) → wants fs ≤ 2
    → Reads ws e (Inverted ∷ fs) m k w v → operator_step e (Inverted ∷ fs) m k w ≡ operator_step (tree.Not e) fs m k w → Reads (word.Not ∷ ws) (tree.Not e) fs m k w v
reads_not ws e fs m k w v h inner taken =
    ap (λ (b : Bool). option_and_then (λ g. after g (ws ++ w ∷ v)) (if b then Some (Operand (Inverted ∷ fs) m k) else None)) (le-leb (wants fs) 2 h)
    ∙ inner ∙ ap (option_and_then (λ g. after g v)) taken

reads_enclosed : (ws : List Word) (e : Expression) (fs : List Frame) (m : Mark) (k : Expression → Goal) (w : Word) (v : List Word) → Reads ws e (Opened ∷ fs) m k CloseParen (w ∷ v) → Reads (OpenParen ∷ ws ++ CloseParen ∷ []) e fs m k w v
reads_enclosed ws e fs m k w v inner = ap (after (Operand (Opened ∷ fs) m k)) (append_assoc ws (CloseParen ∷ []) (w ∷ v)) ∙ inner

taken_not : (op : TwoOp) (e : Expression) (fs : List Frame) → binding op ≤ 1 → operate e (Inverted ∷ fs) op ≡ operate (tree.Not e) fs op
taken_not op e fs h = rw (lt-leb 2 (binding op) (omega arith))

reads : {l : Level} {ws : List Word} {e : Expression} → IsExpression l ws e → (fs : List Frame) (m : Mark) (k : Expression → Goal) (w : Word) (v : List Word) → wants fs ≤ level_number l → Follows (bound l) w → Reads ws e fs m k w v
reads (plain {l = l} {k = n} inside h) fs m k w v wanted follows = reads h fs m k w v (omega (arith, within_number inside)) (follows_more w (bound l) (bound n) (within_bound inside) follows)
reads (joined {l = l} {k = n} {op = op} {us = us} {vs = vs} {d = d} {e = e} joins inside first second) fs m k w v wanted follows =
    reads_two us vs op d e fs m k w v (omega (arith, joins_binding joins))
    (reads first fs m k (Two op) (vs ++ w ∷ v) wanted (omega (arith, joins_bound joins)))
    (reads second (Left op d ∷ fs) m k w v (omega (arith, joins_binding joins, within_number inside)) (follows_more w (bound l) (bound n) (within_bound inside) follows))
    (alike e (tree.Two (sign_of op) d e) (Left op d ∷ fs) fs (bound l) (λ o h. taken_joined joins o d e fs h) refl refl m k w follows)
reads (compared {op = op} {us = us} {vs = vs} {d = d} {e = e} compares first second) fs m k w v wanted follows =
    reads_two us vs op d e fs m k w v (omega (arith, compares_binding compares))
    (reads first fs m k (Two op) (vs ++ w ∷ v) (omega arith) (omega (arith, compares_binding compares)))
    (reads second (Left op d ∷ fs) m k w v (omega (arith, compares_binding compares)) (follows_more w 2 4 (omega arith) follows))
    (alike e (tree.Two (sign_of op) d e) (Left op d ∷ fs) fs 2 (λ o h. taken_compared op o d e fs (compares_binding compares) h) refl refl m k w follows)
reads (grammar.inverted {ws = ws} {e = e} h) fs m k w v wanted follows =
    reads_not ws e fs m k w v wanted (reads h (Inverted ∷ fs) m k w v (omega arith) follows)
    (alike e (tree.Not e) (Inverted ∷ fs) fs 1 (λ o lower. taken_not o e fs lower) refl refl m k w follows)
reads (grammar.negated {ws = ws} {e = e} h) fs m k w v wanted follows =
    reads h (machine.Negated ∷ fs) m k w v (omega arith) follows
    ∙ ap (option_and_then (λ g. after g v)) (alike e (tree.Negate e) (machine.Negated ∷ fs) fs 5 (λ o lower. refl) refl refl m k w follows)
reads number fs m k w v wanted follows = refl
reads text fs m k w v wanted follows = refl
reads grammar.none fs m k w v wanted follows = refl
reads variable fs m k w v wanted follows = refl
reads (enclosed {ws = ws} {e = e} h) fs m k w v wanted follows = reads_enclosed ws e fs m k w v (reads h (Opened ∷ fs) m k CloseParen (w ∷ v) (omega arith) tt)

mark_follows : (m : Mark) → Follows 0 (mark_word m)
mark_follows ParenMark = tt
mark_follows _ = tt

mark_ends : (m : Mark) (k : Expression → Goal) (e : Expression) → operator_step e [] m k (mark_word m) ≡ Some (k e)
mark_ends ParenMark k e = refl
mark_ends _ k e = refl

pub whole-complete : {ws : List Word} {e : Expression} → IsWhole ws e → (m : Mark) (k : Expression → Goal) (v : List Word) → after (Operand [] m k) (ws ++ mark_word m ∷ v) ≡ after (k e) v
whole-complete {e = e} h m k v = reads h [] m k (mark_word m) v (omega arith) (mark_follows m) ∙ ap (option_and_then (λ g. after g v)) (mark_ends m k e)

-- ---- an expression stands at every level below its own

at_atom : (l : Level) {ws : List Word} {e : Expression} → 7 ≤ level_number l → IsExpression l ws e → IsExpression Atom ws e
at_atom Atom h x = x
at_atom _ h x = absurd (omega arith)

at_negation : (l : Level) {ws : List Word} {e : Expression} → 6 ≤ level_number l → IsExpression l ws e → IsExpression Negation ws e
at_negation Negation h x = x
at_negation l h x = plain grammar.negation (at_atom l (omega arith) x)

at_product : (l : Level) {ws : List Word} {e : Expression} → 5 ≤ level_number l → IsExpression l ws e → IsExpression Product ws e
at_product Product h x = x
at_product l h x = plain product (at_negation l (omega arith) x)

at_sum : (l : Level) {ws : List Word} {e : Expression} → 4 ≤ level_number l → IsExpression l ws e → IsExpression Sum ws e
at_sum Sum h x = x
at_sum l h x = plain sum (at_product l (omega arith) x)

at_comparison : (l : Level) {ws : List Word} {e : Expression} → 3 ≤ level_number l → IsExpression l ws e → IsExpression Comparison ws e
at_comparison Comparison h x = x
at_comparison l h x = plain comparison (at_sum l (omega arith) x)

at_inversion : (l : Level) {ws : List Word} {e : Expression} → 2 ≤ level_number l → IsExpression l ws e → IsExpression Inversion ws e
at_inversion Inversion h x = x
at_inversion l h x = plain inversion (at_comparison l (omega arith) x)

at_conjunction : (l : Level) {ws : List Word} {e : Expression} → 1 ≤ level_number l → IsExpression l ws e → IsExpression Conjunction ws e
at_conjunction Conjunction h x = x
at_conjunction l h x = plain conjunction (at_inversion l (omega arith) x)

at_disjunction : (l : Level) {ws : List Word} {e : Expression} → 0 ≤ level_number l → IsExpression l ws e → IsExpression Disjunction ws e
at_disjunction Disjunction h x = x
at_disjunction l h x = plain disjunction (at_conjunction l (omega arith) x)

-- the level of an operator's expression
abbrev level_at : TwoOp → Level
level_at Or = Disjunction
level_at And = Conjunction
level_at Add = Sum
level_at Subtract = Sum
level_at Multiply = Product
level_at Divide = Product
level_at Remainder = Product
level_at _ = Comparison

level_binding : (op : TwoOp) → level_number (level_at op) ≡ binding op
level_binding Or = refl
level_binding _ = refl

left_binding : (op : TwoOp) → (left_least op ≡ binding op) ⊎ ((binding op ≡ 3) × (left_least op ≡ 4))
left_binding Equal = inr (refl, refl)
left_binding NotEqual = inr (refl, refl)
left_binding Less = inr (refl, refl)
left_binding AtMost = inr (refl, refl)
left_binding Greater = inr (refl, refl)
left_binding AtLeast = inr (refl, refl)
left_binding _ = inl refl

two_at : (op : TwoOp) {us vs : List Word} {d e : Expression} → IsAt (left_least op) us d → IsAt (suc (binding op)) vs e → IsExpression (level_at op) (us ++ Two op ∷ vs) (tree.Two (sign_of op) d e)
two_at Or a b = joined or disjunction (at_disjunction a.0 a.1 a.2) (at_conjunction b.0 b.1 b.2)
two_at And a b = joined and conjunction (at_conjunction a.0 a.1 a.2) (at_inversion b.0 b.1 b.2)
two_at Equal a b = compared equal (at_sum a.0 a.1 a.2) (at_sum b.0 b.1 b.2)
two_at NotEqual a b = compared not_equal (at_sum a.0 a.1 a.2) (at_sum b.0 b.1 b.2)
two_at Less a b = compared less (at_sum a.0 a.1 a.2) (at_sum b.0 b.1 b.2)
two_at AtMost a b = compared at_most (at_sum a.0 a.1 a.2) (at_sum b.0 b.1 b.2)
two_at Greater a b = compared greater (at_sum a.0 a.1 a.2) (at_sum b.0 b.1 b.2)
two_at AtLeast a b = compared at_least (at_sum a.0 a.1 a.2) (at_sum b.0 b.1 b.2)
two_at Add a b = joined add sum (at_sum a.0 a.1 a.2) (at_product b.0 b.1 b.2)
two_at Subtract a b = joined subtract sum (at_sum a.0 a.1 a.2) (at_product b.0 b.1 b.2)
two_at Multiply a b = joined multiply product (at_product a.0 a.1 a.2) (at_negation b.0 b.1 b.2)
two_at Divide a b = joined divide product (at_product a.0 a.1 a.2) (at_negation b.0 b.1 b.2)
two_at Remainder a b = joined remainder product (at_product a.0 a.1 a.2) (at_negation b.0 b.1 b.2)

two_within : (n : ℕ) (op : TwoOp) {us vs : List Word} {d e : Expression} → n ≤ binding op → IsAt (left_least op) us d → IsAt (suc (binding op)) vs e → IsAt n (us ++ Two op ∷ vs) (tree.Two (sign_of op) d e)
two_within n op h a b = (level_at op, omega (arith, level_binding op), two_at op a b)

not_within : (n : ℕ) {us : List Word} {e : Expression} → n ≤ 2 → IsAt 2 us e → IsAt n (word.Not ∷ us) (tree.Not e)
not_within n h a = (Inversion, h, grammar.inverted (at_inversion a.0 a.1 a.2))

minus_within : (n : ℕ) {us : List Word} {e : Expression} → n ≤ 6 → IsAt 6 us e → IsAt n (Two Subtract ∷ us) (tree.Negate e)
minus_within n h a = (Negation, h, grammar.negated (at_negation a.0 a.1 a.2))

wants_most : (fs : List Frame) → wants fs ≤ 6
wants_most [] = omega arith
wants_most (Opened ∷ fs) = omega arith
wants_most (Inverted ∷ fs) = omega arith
wants_most (machine.Negated ∷ fs) = omega arith
wants_most (Left op e ∷ fs) = omega (arith, binding_most op)

left_most : (op : TwoOp) → left_least op ≤ 5
left_most Or = omega arith
left_most _ = omega arith

-- ---- frames behind an operator

pushed_spells : (e : Expression) (fs gs : List Frame) (op : TwoOp) (ws us : List Word) → Some (Left op e ∷ fs) ≡ Some gs → Spells fs ws → wants fs ≤ binding op → IsAt (left_least op) us e → Spells gs (ws ++ us ++ Two op ∷ [])
pushed_spells e fs gs op ws us h s wanted a =
    let same : (Left op e ∷ fs) ≡ gs = cc in
    subst (λ hs. Spells hs (ws ++ us ++ Two op ∷ [])) same (left s wanted a)

operated_not : (e : Expression) (fs gs : List Frame) (op : TwoOp) (ws us : List Word) → operate e (Inverted ∷ fs) op ≡ Some gs → Spells fs ws → wants fs ≤ 2 → IsAt 2 us e → IsAt (left_least op) us e
    → (operate (tree.Not e) fs op ≡ Some gs → IsAt (wants fs) (word.Not ∷ us) (tree.Not e) → IsAt (left_least op) (word.Not ∷ us) (tree.Not e) → Spells gs (ws ++ (word.Not ∷ us) ++ Two op ∷ []))
    → Spells gs (ws ++ word.Not ∷ [] ++ us ++ Two op ∷ [])
operated_not e fs gs op ws us h s wanted a b further =
    ⊎_elim
    (λ binds. pushed_spells e (Inverted ∷ fs) gs op (ws ++ word.Not ∷ []) us (rw binds at h) (inverted s wanted) (leb-true 2 (binding op) binds) b)
    (λ frees. rw (append_assoc ws (word.Not ∷ []) us) (further (rw frees at h) (not_within (wants fs) wanted a) (not_within (left_least op) (omega (arith, leb-false 2 (binding op) frees, left_binding op)) a)))
    (cases_Bool (nat_le 2 (binding op)))

one_compares : (o op : TwoOp) → nat_le (suc (binding o)) (binding op) ≡ false → (nat_eq (binding o) 3 && nat_eq (binding op) 3) ≡ false → left_least op ≤ binding o
one_compares o op frees one =
    let h : binding op ≤ binding o = omega (arith, leb-false (suc (binding o)) (binding op) frees) in
    ⊎_elim
    (λ same. omega arith)
    (λ both. let differ : binding o ≢ 3 = λ three. absurd (cc (rw (eq-eqb (binding o) 3 three, eq-eqb (binding op) 3 both.0) at one)) in omega arith)
    (left_binding op)

regrouped : (ws us vs : List Word) (w : Word) → (ws ++ us ++ w ∷ []) ++ vs ≡ ws ++ (us ++ w ∷ vs)
regrouped ws us vs w = append_assoc (ws ++ us) (w ∷ []) vs ∙ append_assoc ws us (w ∷ vs)

operated_left : (e d : Expression) (fs gs : List Frame) (o op : TwoOp) (ws us vs : List Word) → operate e (Left o d ∷ fs) op ≡ Some gs → Spells fs ws → wants fs ≤ binding o → IsAt (left_least o) us d → IsAt (suc (binding o)) vs e → IsAt (left_least op) vs e
    → (operate (tree.Two (sign_of o) d e) fs op ≡ Some gs → IsAt (wants fs) (us ++ Two o ∷ vs) (tree.Two (sign_of o) d e) → IsAt (left_least op) (us ++ Two o ∷ vs) (tree.Two (sign_of o) d e)
    → Spells gs (ws ++ (us ++ Two o ∷ vs) ++ Two op ∷ []))
    → Spells gs ((ws ++ us ++ Two o ∷ []) ++ vs ++ Two op ∷ [])
operated_left e d fs gs o op ws us vs h s wanted c a b further =
    ⊎_elim
    (λ binds. pushed_spells e (Left o d ∷ fs) gs op (ws ++ us ++ Two o ∷ []) vs (rw binds at h) (left s wanted c) (leb-true (suc (binding o)) (binding op) binds) b)
    (λ frees. ⊎_elim
    (λ two. let none_left : None ≡ Some gs = rw two at (rw frees at h) in absurd (cc))
    (λ one. let went_on : operate (tree.Two (sign_of o) d e) fs op ≡ Some gs = rw one at (rw frees at h) in
    rw (regrouped ws us vs (Two o)) (further went_on (two_within (wants fs) o wanted c a) (two_within (left_least op) o (one_compares o op frees one) c a)))
    (cases_Bool (nat_eq (binding o) 3 && nat_eq (binding op) 3)))
    (cases_Bool (nat_le (suc (binding o)) (binding op)))

operated : {fs : List Frame} {ws : List Word} → Spells fs ws → (e : Expression) (gs : List Frame) (op : TwoOp) (us : List Word) → operate e fs op ≡ Some gs → IsAt (wants fs) us e → IsAt (left_least op) us e → Spells gs (ws ++ us ++ Two op ∷ [])
operated none e gs op us h a b = pushed_spells e [] gs op [] us h none (omega arith) b
operated (opened {fs = fs} {ws = ws} s) e gs op us h a b = pushed_spells e (Opened ∷ fs) gs op (ws ++ OpenParen ∷ []) us h (opened s) (omega arith) b
operated (inverted {fs = fs} {ws = ws} s wanted) e gs op us h a b = operated_not e fs gs op ws us h s wanted a b (operated s (tree.Not e) gs op (word.Not ∷ us))
operated (negated {fs = fs} {ws = ws} s) e gs op us h a b =
    rw (append_assoc ws (Two Subtract ∷ []) us) (operated s (tree.Negate e) gs op (Two Subtract ∷ us) h (minus_within (wants fs) (wants_most fs) a) (minus_within (left_least op) (omega (arith, left_most op)) a))
operated (left {fs = fs} {ws = ws} {us = us} {op = o} {d = d} s wanted c) e gs op vs h a b = operated_left e d fs gs o op ws us vs h s wanted c a b (operated s (tree.Two (sign_of o) d e) gs op (us ++ Two o ∷ vs))

pub operate-spells : (e : Expression) (fs gs : List Frame) (op : TwoOp) (ws us : List Word) → operate e fs op ≡ Some gs → Spells fs ws → IsExpression Atom us e → Spells gs (ws ++ us ++ Two op ∷ [])
operate-spells e fs gs op ws us h s a = operated s e gs op us h (Atom, omega (arith, wants_most fs), a) (Atom, omega (arith, left_most op), a)

-- ---- frames behind a closing parenthesis, and none at the end

abbrev EndsInside : Expression → List Frame → List Word → Type 0
EndsInside d gs ws = (vs xs : List Word) × (ws ≡ vs ++ xs) × Spells gs vs × IsExpression Atom xs d

closed : (e d : Expression) (fs gs : List Frame) (ws us : List Word) → enclose e (Opened ∷ fs) ≡ Some (d, gs) → Spells fs ws → IsAt 0 us e → EndsInside d gs (ws ++ OpenParen ∷ [] ++ us ++ CloseParen ∷ [])
closed e d fs gs ws us h s a =
    let pair : ◌≡◌ {A = Expression × List Frame} (e, fs) (d, gs) = cc in
    let same : e ≡ d = ap (λ (p : Expression × List Frame). p.0) pair in
    let around : fs ≡ gs = ap (λ (p : Expression × List Frame). p.1) pair in (
      ws,
      (OpenParen ∷ us ++ CloseParen ∷ []),
      append_assoc (ws ++ OpenParen ∷ []) us (CloseParen ∷ []) ∙ append_assoc ws (OpenParen ∷ []) (us ++ CloseParen ∷ []),
      subst (λ hs. Spells hs ws) around s,
      subst (λ x. IsExpression Atom (OpenParen ∷ us ++ CloseParen ∷ []) x) same (enclosed (at_disjunction a.0 a.1 a.2)),
    )

closing : {fs : List Frame} {ws : List Word} → Spells fs ws → (e d : Expression) (gs : List Frame) (us : List Word) → enclose e fs ≡ Some (d, gs) → IsAt (wants fs) us e → EndsInside d gs (ws ++ us ++ CloseParen ∷ [])
closing none e d gs us h a = absurd (cc)
closing (opened {fs = fs} {ws = ws} s) e d gs us h a = closed e d fs gs ws us h s a
closing (inverted {fs = fs} {ws = ws} s wanted) e d gs us h a =
    subst (λ l. EndsInside d gs (l ++ CloseParen ∷ [])) (sym (append_assoc ws (word.Not ∷ []) us)) (closing s (tree.Not e) d gs (word.Not ∷ us) h (not_within (wants fs) wanted a))
closing (negated {fs = fs} {ws = ws} s) e d gs us h a =
    subst (λ l. EndsInside d gs (l ++ CloseParen ∷ [])) (sym (append_assoc ws (Two Subtract ∷ []) us)) (closing s (tree.Negate e) d gs (Two Subtract ∷ us) h (minus_within (wants fs) (wants_most fs) a))
closing (left {fs = fs} {ws = ws} {us = us} {op = o} {d = c} s wanted b) e d gs vs h a =
    subst (λ l. EndsInside d gs (l ++ CloseParen ∷ [])) (sym (regrouped ws us vs (Two o))) (closing s (tree.Two (sign_of o) c e) d gs (us ++ Two o ∷ vs) h (two_within (wants fs) o wanted b a))

pub enclose-spells : (e d : Expression) (fs gs : List Frame) (ws us : List Word) → enclose e fs ≡ Some (d, gs) → Spells fs ws → IsExpression Atom us e
    → (vs xs : List Word) × (ws ++ us ++ CloseParen ∷ [] ≡ vs ++ xs) × Spells gs vs × IsExpression Atom xs d
enclose-spells e d fs gs ws us h s a = closing s e d gs us h (Atom, omega (arith, wants_most fs), a)

concluded : {fs : List Frame} {ws : List Word} → Spells fs ws → (e d : Expression) (us : List Word) → conclude e fs ≡ Some d → IsAt (wants fs) us e → IsWhole (ws ++ us) d
concluded none e d us h a = let same : e ≡ d = cc in subst (λ x. IsWhole us x) same (at_disjunction a.0 a.1 a.2)
concluded (opened s) e d us h a = absurd (cc)
concluded (inverted {fs = fs} {ws = ws} s wanted) e d us h a = rw (append_assoc ws (word.Not ∷ []) us) (concluded s (tree.Not e) d (word.Not ∷ us) h (not_within (wants fs) wanted a))
concluded (negated {fs = fs} {ws = ws} s) e d us h a = rw (append_assoc ws (Two Subtract ∷ []) us) (concluded s (tree.Negate e) d (Two Subtract ∷ us) h (minus_within (wants fs) (wants_most fs) a))
concluded (left {fs = fs} {ws = ws} {us = us} {op = o} {d = c} s wanted b) e d vs h a =
    rw (regrouped ws us vs (Two o)) (concluded s (tree.Two (sign_of o) c e) d (us ++ Two o ∷ vs) h (two_within (wants fs) o wanted b a))

pub conclude-spells : (e d : Expression) (fs : List Frame) (ws us : List Word) → conclude e fs ≡ Some d → Spells fs ws → IsExpression Atom us e → IsWhole (ws ++ us) d
conclude-spells e d fs ws us h s a = concluded s e d us h (Atom, omega (arith, wants_most fs), a)
