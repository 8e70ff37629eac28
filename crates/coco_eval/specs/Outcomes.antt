-- The run that a run's state comes to on a map.
use Rattle.std.specs.Prelude.{[], None}
use Rattle.coco_types.specs.declared.call.Reply.TheVariants.{Ok as Answers, Refused}
use Rattle.coco_ast.specs.Keyed.{Rows, put_over}
use Rattle.coco_ast.specs.Meaning.{Run}
use Rattle.coco_eval.specs.Places.{Onward, Goes, Ends}
use Rattle.coco_eval.specs.Standing.{keys_of}

abbrev pub outcome : Rows → Onward → Run
outcome m (Goes c) = record { reply = Answers None; rows = put_over m c.writes; needs = keys_of c.given; writes = c.writes }
outcome m (Ends c (Answers v)) = record { reply = Answers v; rows = put_over m c.writes; needs = keys_of c.given; writes = c.writes }
outcome m (Ends c (Refused e)) = record { reply = Refused e; rows = m; needs = keys_of c.given; writes = [] }
