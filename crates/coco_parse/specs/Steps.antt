-- How far a parser's cursor has come, and what the machine does next there. Only contracts of private functions and proofs
-- name it.
use Rattle.std.specs.Prelude.{◌≡◌, ℕ, ◌-◌, ◌<◌, ◌≤◌, Bool, true, false, List, [], ◌∷◌, ◌++◌, length, take, slice_get, Option, None, Some, map, reverse, option_map, pos, Result, OnOk, MatchResult}
use Rattle.coco_ast.specs.Tree.{Expression, Variable, Quoted, Negate, RowPlace, Statement, Statements, Procedure}
use Rattle.coco_ast.specs.Tree as tree
use Rattle.coco_ast.specs.Views.{expression_of, sign_of, statement_of, statements_from}
use Rattle.coco_parse.specs.Counting.{Counts}
use Rattle.coco_parse.specs.Machine.{Goal, Items, Fixed, Named, Numbered, Operand, Valued, Within, BraceMark, BracketMark, EndBracketMark, SemicolonMark, AssignMark, AsMark, ParenMark, Operator, Params, Listed, Frame, Opened, Inverted, Negated, Left, operate, enclose, conclude, at_place, in_braces, with_statement, operand_step, within_step, Tested, after, start, step}
use Rattle.coco_parse.specs.Machine as machine
use Rattle.coco_parse.specs.Refusal.{KeepLimits, IsRefused, OnRefused}
use Rattle.coco_parse.specs.Wording.{words_of}
use Rattle.coco_parse.specs.declared.error.ParseError.{ParseError}
use Rattle.coco_parse.specs.declared.error.ParseFault.{ParseFault}
use Rattle.coco_parse.specs.declared.state.Parser.{Parser}
use Rattle.coco_parse.specs.declared.state.Cursor.{Cursor}
use Rattle.coco_parse.specs.declared.state.Mark.{Mark}
use Rattle.coco_parse.specs.declared.state.Mark.TheVariants as sign
use Rattle.coco_ast.specs.declared.tree.Stmt.{Stmt}
use Rattle.coco_ast.specs.declared.tree.TwoOp.{TwoOp}
use Rattle.coco_parse.specs.declared.frames.Frame.{Frame as RustFrame}
use Rattle.coco_parse.specs.declared.frames.Frame.TheVariants as frame
use Rattle.coco_parse.specs.declared.frames.Fit.{Fit}
use Rattle.coco_parse.specs.declared.frames.Fit.TheVariants as fit
use Rattle.coco_parse.specs.declared.statement.Head.{Head}
use Rattle.coco_parse.specs.declared.statement.Head.TheVariants as head
use Rattle.coco_parse.specs.declared.file.Item.{Item}
use Rattle.coco_parse.specs.declared.file.Item.TheVariants as item
use Rattle.coco_parse.specs.declared.choice.Optional.{Optional}
use Rattle.coco_parse.specs.declared.choice.Optional.TheVariants as optional
use Rattle.coco_parse.specs.declared.word.Word.{Word}
use Rattle.coco_parse.specs.declared.word.Word.TheVariants as word
use Rattle.coco_parse.specs.declared.word.Word.TheVariants.{Get, Else, CloseParen, CloseBrace}

abbrev pub words : Parser → List Word
words p = words_of p.text.now p.tokens.now

abbrev pub next_word : Parser → Cursor → Option Word
next_word p c = slice_get (words p) c.at

-- how many words are left
abbrev pub left : Parser → Cursor → ℕ
left p c = length p.tokens.now - c.at

-- nothing but tables and procedures may follow
abbrev pub IsItems : Goal → Type 0
IsItems g = (ts : List (List ℕ)) × (ps : List Procedure) × (g ≡ Items ts ps)

-- behind n words the machine has this goal, or one that goes on alike from the next word
pub data Reaches (ws : List Word) (n : ℕ) (g : Goal) : Type 0 where
  whole : after start (take n ws) ≡ Some g → Reaches ws n g
  alike : (h : Goal) → after start (take n ws) ≡ Some h → ¬ (IsItems h) → ¬ (IsItems g) → ((w : Word) → slice_get ws n ≡ Some w → step h w ≡ step g w) → Reaches ws n g

pub record Stands (p : Parser) (c : Cursor) (g : Goal) : Type 0 where
  pub within : c.at ≤ length p.tokens.now
  pub counts : Counts c.counter (take c.at (words p))
  pub kept : KeepLimits (words p) c.at
  pub reaches : Reaches (words p) c.at g

-- what comes next can't
abbrev pub Stops : Goal → Option Word → Type 0
Stops g None = ¬ (IsItems g)
Stops g (Some w) = step g w ≡ None

abbrev pub IsRefusal : Parser → ParseError → Type 0
IsRefusal p e = IsRefused p.text.now p.tokens.now e

abbrev pub IsFault : Parser → ParseFault → Type 0
IsFault p fault = OnRefused fault (IsRefusal p)

-- a word at least was read, unless it failed
abbrev pub GoesOn : {A E : Type 0} → Parser → Cursor → Cursor → Result A E → Type 0
GoesOn p old new r = OnOk r (left p new < left p old)

-- from the goal g the words are read up to the goal that the result gives, or they are refused
abbrev pub Reads : {A : Type 0} → Parser → Cursor → Cursor → Goal → Result A ParseFault → (A → Goal) → Type 0
Reads p old new g r behind = Stands p old g → MatchResult r (λ x. Stands p new (behind x)) (IsFault p)

-- the same, by what takes no memory
abbrev pub ReadsWords : {A : Type 0} → Parser → Cursor → Cursor → Goal → Result A ParseError → (A → Goal) → Type 0
ReadsWords p old new g r behind = Stands p old g → MatchResult r (λ x. Stands p new (behind x)) (IsRefusal p)

abbrev pub mark_of : Mark → machine.Mark
mark_of sign.Paren = ParenMark
mark_of sign.Brace = BraceMark
mark_of sign.Bracket = BracketMark
mark_of sign.EndBracket = EndBracketMark
mark_of sign.Semicolon = SemicolonMark
mark_of sign.Assign = AssignMark
mark_of sign.As = AsMark

-- an operand with the frame around it that ends behind it
abbrev pub around : Frame → Expression → Expression
around Opened e = e
around Inverted e = tree.Not e
around Negated e = Negate e
around (Left op d) e = tree.Two (sign_of op) d e

abbrev pub frame_of : RustFrame → Frame
frame_of frame.Opened = Opened
frame_of frame.Inverted = Inverted
frame_of frame.Negated = Negated
frame_of (frame.Left op d) = Left op (expression_of d.value)

-- the last one is the innermost
abbrev pub frames_of : List RustFrame → List Frame
frames_of fs = map frame_of (reverse fs)

-- what an operator does to the frame around the operand before it
abbrev pub Fits : Fit → Frame → TwoOp → Type 0
Fits fit.Within f op = (e : Expression) (fs : List Frame) → operate e (f ∷ fs) op ≡ Some (Left op e ∷ f ∷ fs)
Fits fit.Apart f op = (e : Expression) (fs : List Frame) → operate e (f ∷ fs) op ≡ None
Fits fit.Around f op = (e : Expression) (fs : List Frame) → operate e (f ∷ fs) op ≡ operate (around f e) fs op

-- the operand that a word is
abbrev pub atom_in : Word → Option Expression
atom_in (word.Number n) = Some (tree.Number (pos n))
atom_in (word.Text bytes) = Some (Quoted bytes)
atom_in word.None = Some tree.None
atom_in (word.Name name) = Some (Variable name)
atom_in _ = None

-- the frame that a word opens before an operand
abbrev pub Opens : Option RustFrame → List Frame → Word → Type 0
Opens None fs w = (m : machine.Mark) (k : Expression → Goal) → operand_step fs m k w ≡ option_map (λ e. Operator e fs m k) (atom_in w)
Opens (Some f) fs w = (m : machine.Mark) (k : Expression → Goal) → operand_step fs m k w ≡ Some (Operand (frame_of f ∷ fs) m k)

abbrev pub closes_block : Word → Bool
closes_block CloseBrace = true
closes_block _ = false

-- what a name is set to: an expression, or what stands at a place
abbrev pub set_or_get : List ℕ → List Statement → (Statements → Goal) → Goal
set_or_get x ss k = Valued (λ e. with_statement ss k (tree.Let x e)) (λ p. with_statement ss k (tree.Get x p))

-- what follows a statement's first word, or the brace behind the last one
abbrev pub behind_head : Option Head → List Statement → (Statements → Goal) → Goal
behind_head None ss k = k (statements_from ss)
behind_head (Some head.Let) ss k = Named (λ x. Fixed AssignMark (set_or_get x ss k))
behind_head (Some head.Put) ss k = at_place (λ p. Fixed AssignMark (Operand [] SemicolonMark (λ e. with_statement ss k (tree.Put p e))))
behind_head (Some head.Delete) ss k = at_place (λ p. Fixed SemicolonMark (with_statement ss k (tree.Delete p)))
behind_head (Some head.If) ss k = Operand [] BraceMark (λ e. Within [] (λ body. Tested e body ss k))
behind_head (Some head.Repeat) ss k = Numbered (λ n. Fixed AsMark (Named (λ x. in_braces (λ body. with_statement ss k (tree.Repeat n x body)))))
behind_head (Some head.Refuse) ss k = Numbered (λ n. Fixed SemicolonMark (with_statement ss k (tree.Refuse n)))
behind_head (Some head.Reply) ss k = Operand [] SemicolonMark (λ e. with_statement ss k (tree.Reply e))

-- a statement is read behind its first word
abbrev pub ReadsStatement : Parser → Cursor → Cursor → Head → Result Stmt ParseFault → Type 0
ReadsStatement p old new head r = (ss : List Statement) (k : Statements → Goal) → Reads p old new (behind_head (Some head) ss k) r (λ s. with_statement ss k (statement_of s))

-- what a word that isn't that brace says as a statement's first
abbrev pub Heads : Option Head → Word → Type 0
Heads None w = (ss : List Statement) (k : Statements → Goal) → within_step ss k w ≡ None
Heads (Some h) w = (ss : List Statement) (k : Statements → Goal) → within_step ss k w ≡ Some (behind_head (Some h) ss k)

-- what follows an item's first word
abbrev pub behind_item : Item → List (List ℕ) → List Procedure → Goal
behind_item item.Table ts ps = Named (λ name. Fixed SemicolonMark (Items (ts ++ name ∷ []) ps))
behind_item item.Proc ts ps = Named (λ name. Fixed ParenMark (Params (λ params. in_braces (λ body. Items ts (ps ++ record { name = name; params = params; body = body } ∷ [])))))

abbrev pub StartsItem : Option Item → Word → Type 0
StartsItem None w = (ts : List (List ℕ)) (ps : List Procedure) → step (Items ts ps) w ≡ None
StartsItem (Some i) w = (ts : List (List ℕ)) (ps : List Procedure) → step (Items ts ps) w ≡ Some (behind_item i ts ps)

-- a word that may stand at a place and may be missing there
abbrev pub is_optional : Optional → Word → Bool
is_optional optional.Get Get = true
is_optional optional.Else Else = true
is_optional optional.CloseParen CloseParen = true
is_optional _ _ = false

-- with the word the goal g goes on as h does, and without it as the goal o
pub record Chooses (optional : Optional) (g h o : Goal) : Type 0 where
  pub taken : (w : Word) → is_optional optional w ≡ true → step g w ≡ Some h
  pub missing : (w : Word) → is_optional optional w ≡ false → step g w ≡ step o w
  pub within : ¬ (IsItems g)
  pub unfinished : ¬ (IsItems o)

abbrev pub chosen : Bool → Goal → Goal → Goal
chosen true h o = h
chosen false h o = o

abbrev pub is_opened : Frame → Bool
is_opened Opened = true
is_opened _ = false

-- the frames behind an operator, where it may follow
abbrev pub Operates : Bool → Option (List Frame) → List Frame → Type 0
Operates true o fs = o ≡ Some fs
Operates false o fs = o ≡ None

-- the operand d that the operand e and the frames around it make: up to a parenthesis that was open, or to their end
abbrev pub Collapses : Bool → Expression → Expression → List Frame → List Frame → Type 0
Collapses true d e fs gs = (enclose e fs ≡ Some (d, gs)) × (conclude e fs ≡ None)
Collapses false d e fs gs = (enclose e fs ≡ None) × (conclude e fs ≡ Some d)
