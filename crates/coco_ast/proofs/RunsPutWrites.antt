-- A run's map is the one that it began with, with its writes put over it.
use Rattle.std.proofs.Common.{◌≡◌, refl, sym, ap, ◌∙◌, [], List, Option, None, Some, ℕ}
use Rattle.coco_types.specs.declared.call.Call.{Call}
use Rattle.coco_ast.specs.Checks.{key_weight}
use Rattle.coco_ast.specs.Keyed.{Rows, put_over}
use Rattle.coco_ast.specs.Meaning.{Datum, State, Variables, Flow, bound, writes_after, Goes, Ends, Refuses, run, run_of, flow_of, opened, procedure_at}
use Rattle.coco_ast.specs.RunLaws.{IsPutOver}
use Rattle.coco_ast.specs.Tree.{Procedure, Procedures}
use Rattle.coco_ast.proofs.Leading.{rows_by, Leads, LeadsTo, statements_lead}
use Rattle.coco_ast.proofs.Writing.{put_over_writes}

state_puts : (w : ℕ) (m : Rows) (t : State) → Leads w m [] t → t.rows ≡ put_over m (writes_after [] t.accesses)
state_puts w m t l = l.rows ∙ ap (rows_by m) (sym l.accesses) ∙ sym (put_over_writes m [] t.accesses tt)

flow_puts : (w : ℕ) (m : Rows) (vs : Variables) (f : Flow) → LeadsTo w (record { variables = vs; rows = m; accesses = [] }) f → IsPutOver m (run_of m f)
flow_puts w m vs (Goes t) l = state_puts w m t l
flow_puts w m vs (Ends t v) l = state_puts w m t l
flow_puts w m vs (Refuses t c) l = refl

found_puts : (ps : Procedures) (m : Rows) (p : Option Procedure) (args : List Datum) → IsPutOver m (run_of m (flow_of ps m p args))
found_puts ps m None args = refl
found_puts ps m (Some p) args = flow_puts (key_weight p.body) m (bound p.params args) _ (statements_lead ps.tables p.body (opened m p args))

pub run_puts_writes : (ps : Procedures) (call : Call) (m : Rows) → IsPutOver m (run ps call m)
unfolding run
run_puts_writes ps call m = found_puts ps m (procedure_at ps.procs call.proc_no) call.args
