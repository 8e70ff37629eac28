use Rattle.std.proofs.Common.{◌≡◌, List, map, ◌∙◌, ap, subst}
use Rattle.std.specs.Option.{option_map}
use Rattle.coco_ast.specs.Checks.{IsAccepted}
use Rattle.coco_ast.specs.Meaning.{procedure_at}
use Rattle.coco_ast.specs.Tree.{Procedures}
use Rattle.coco_ast.specs.Views.{procedure_of}
use Rattle.coco_ast.specs.declared.tree.Proc.{Proc}
use Rattle.coco_ast.proofs.Accepted.{looked_up, few_found}
use Rattle.coco_ast.proofs.checked.Checked.proc_at.Goals as goal
use Rattle.coco_ast.proofs.checked.Checked.proc_at.Goals.{After-get}

found : (c : After-get) → option_map (λ p. procedure_of p.now) c.get.result ≡ procedure_at c.args.self.now.procs c.args.proc_no
found c =
    looked_up c.as_slice.result.now c.args.proc_no c.get.result c.get.ensures.lookup.3
    ∙ ap (λ (ps : List Proc). procedure_at (map procedure_of ps) c.args.proc_no) c.as_slice.ensures
    ∙ ap (λ (t : Procedures). procedure_at t.procs c.args.proc_no) c.self.view_is

pub returns-clause-value : goal.returns-clause-value
returns-clause-value c = found c

pub returns-clause-params : goal.returns-clause-params
returns-clause-params c = few_found c.args.self.now (subst IsAccepted c.self.view_is c.self.invariant.0) c.args.proc_no c.get.result (found c)
