-- What holds of the run of every call, whatever its tree and whatever the map.
use Rattle.std.specs.Prelude.{◌≡◌, ⊤, ◌+◌, ◌≤◌, List, length}
use Rattle.coco_types.specs.declared.call.Call.{Call}
use Rattle.coco_types.specs.Limits.{most_keys}
use Rattle.coco_ast.specs.Keyed.{Rows, put_over, AgreeOn}
use Rattle.coco_ast.specs.Meaning.{Access, Flow, Goes, Ends, Refuses, Run, run, flow_of, procedure_at}
use Rattle.coco_ast.specs.Tree.{Procedures}

-- a run's map is the one that it began with, with its writes put over it
abbrev pub IsPutOver : Rows → Run → Type 0
IsPutOver m r = r.rows ≡ put_over m r.writes

-- of two runs, all but their maps is alike
pub record RunAlike (r s : Run) : Type 0 where
  pub reply : r.reply ≡ s.reply
  pub needs : r.needs ≡ s.needs
  pub writes : r.writes ≡ s.writes

-- a run depends on the call and on what the map has at the keys that it needs, and on nothing else
abbrev pub DependsOnNeeds : Procedures → Call → Type 0
DependsOnNeeds ps call = (m n : Rows) → AgreeOn (run ps call m).needs m n → RunAlike (run ps call m) (run ps call n)

-- what the statements of a call lead to
abbrev pub flow : Procedures → Call → Rows → Flow
flow ps call m = flow_of ps m (procedure_at ps.procs call.proc_no) call.args

-- it ended by a reply or by a refusal, and doesn't go on
abbrev pub HasEnded : Flow → Type 0
HasEnded (Goes s) = ⊥
HasEnded (Ends s v) = ⊤
HasEnded (Refuses s c) = ⊤

abbrev pub accesses_of : Flow → List Access
accesses_of (Goes s) = s.accesses
accesses_of (Ends s v) = s.accesses
accesses_of (Refuses s c) = s.accesses

-- a call ends, and reads and writes few keys in all, one that is refused later too
pub record EndsSoon (ps : Procedures) (call : Call) (m : Rows) : Type 0 where
  pub ends : HasEnded (flow ps call m)
  pub accesses : length (accesses_of (flow ps call m)) ≤ most_keys
  pub keys : length (run ps call m).needs + length (run ps call m).writes ≤ most_keys
