use Rattle.std.proofs.Common.{◌≡◌, ◌<◌, ◌^◌, List, [], Ok, length, map, sym, ap, ◌∙◌}
use Rattle.coco_ast.specs.Checks.{statements_in}
use Rattle.coco_ast.specs.declared.tree.Proc.{Proc}
use Rattle.coco_ast.specs.Views.{procedure_of, procedures_of}
use Rattle.coco_check.specs.Search.{adding, built_in_names, built_in_tables, with_names}
use Rattle.coco_check.proofs.Answering.{all_mapped, built_in_set}
use Rattle.coco_check.proofs.checker.find_error.Goals as goal

pub check_procs-requires-clause-statements : goal.check_procs-requires-clause-statements
check_procs-requires-clause-statements c =
    rw c.as_slice-4.ensures (all_mapped (λ p. length (statements_in p) < 2 ^ 32) procedure_of c.args.procs.now.procs c.requires.statements)

pub returns-clause-error : goal.returns-clause-error
returns-clause-error c =
    let t = procedures_of c.args.procs.now in
    let tables = c.in_ok-tables.tables.keys in
    let added : adding built_in_tables 0 t.tables ≡ Ok tables = sym (ap (adding built_in_tables 0) c.as_slice-2.ensures) ∙ c.in_ok-tables.ensures in
    let names : c.in_ok-names.names.keys ≡ built_in_names =
    c.in_ok-names.ensures ∙ ap (λ (ps : List Proc). with_names [] (map (λ p. p.name) ps)) c.as_slice-3.ensures ∙ built_in_set c.args.first.now c.requires.first in
    let found = rw (names, c.len.ensures, c.as_slice-4.ensures) at c.check_procs.ensures.error in
    rw added found
