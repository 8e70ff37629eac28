-- What an executor holds as data, for its model.
use Rattle.std.specs.Prelude.{List, refl}
use Rattle.std.specs.Coded.{Coded, code_by, coded×, coded_list}
use Rattle.std.specs.FinMap.{code}
use Rattle.coco_types.specs.Codes.{key_code, value_code}
use Rattle.coco_types.specs.declared.call.Write.{Write}
use Rattle.coco_ast.specs.Keyed.{Rows}
use Rattle.coco_eval.specs.EvaluationCode.{write_code}
use Rattle.coco_serial.specs.Applied.{Applied}

abbrev pub applied_code : Coded Applied
applied_code = code_by (Rows × List Write) (coded× (code key_code value_code) (coded_list write_code)) (λ a. (a.rows, a.writes)) (λ p. record { rows = p.0; writes = p.1 }) (λ _. refl)
