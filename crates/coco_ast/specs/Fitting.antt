-- Which calls a list of procedures takes.
use Rattle.std.specs.Prelude.{◌≡◌, Bool, true, false, not, ◌&&◌, ◌||◌, nat_eq, length, Option, None, Some}
use Rattle.coco_types.specs.declared.call.Call.{Call}
use Rattle.coco_ast.specs.Tree.{Statement, Let, Get, Put, Delete, If, IfElse, Repeat, Refuse, Reply, Statements, End, Then, Procedure, Procedures}
use Rattle.coco_ast.specs.Meaning.{procedure_at}

-- a `put` or a `delete` stands somewhere in it
abbrev mutual
  pub writes_in : Statement → Bool
  writes_in (Let x e) = false
  writes_in (Get x p) = false
  writes_in (Put p e) = true
  writes_in (Delete p) = true
  writes_in (If e then_part) = any_writes then_part
  writes_in (IfElse e then_part else_part) = any_writes then_part || any_writes else_part
  writes_in (Repeat n x body) = any_writes body
  writes_in (Refuse n) = false
  writes_in (Reply e) = false

  pub any_writes : Statements → Bool
  any_writes End = false
  any_writes (Then first rest) = writes_in first || any_writes rest

-- as many arguments as parameters, and no snapshot call of a procedure that writes
abbrev pub is_taken : Option Procedure → Call → Bool
is_taken None call = false
is_taken (Some p) call = nat_eq (length call.args) (length p.params) && not (call.snapshot && any_writes p.body)

-- the call fits: its procedure is there and takes it
abbrev pub Fits : Procedures → Call → Type 0
Fits ps call = is_taken (procedure_at ps.procs call.proc_no) call ≡ true
