-- The meaning computes each example.
use Rattle.std.proofs.Common.{refl}
use Rattle.coco_types.proofs.Keys.{keys_total}
use Rattle.std.specs.FinMap.{get-insert, get-remove}
use Rattle.coco_ast.specs.Keyed.{Rows}
use Rattle.coco_ast.specs.Meaning.{run}
use Rattle.coco_ast.specs.Examples.{HaveValues, HaveAnswers, ends, quotients, refusals, comparisons, connectives, statements, OnAMap, Examples}

ends_hold : HaveValues ends
unfolding run
ends_hold = refl

quotients_hold : HaveValues quotients
unfolding run
quotients_hold = refl

refusals_hold : HaveValues refusals
unfolding run
refusals_hold = refl

comparisons_hold : HaveValues comparisons
unfolding run
comparisons_hold = refl

connectives_hold : HaveValues connectives
unfolding run
connectives_hold = refl

statements_hold : HaveAnswers statements
unfolding run
statements_hold = refl

on_a_map : (m : Rows) → OnAMap m
unfolding run
on_a_map m = record {
  reads_its_writes = rw (get-insert keys_total) refl;
  put_of_none = rw (get-remove keys_total) refl;
  delete = rw (get-remove keys_total) refl;
  refused_after_put = refl;
  needs_in_order = refl;
  need_before_put = refl;
  writes_ascend = refl;
}

pub examples : Examples
examples = record {
  ends = ends_hold;
  quotients = quotients_hold;
  refusals = refusals_hold;
  comparisons = comparisons_hold;
  connectives = connectives_hold;
  statements = statements_hold;
  on_a_map = on_a_map;
}
