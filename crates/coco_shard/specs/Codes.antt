-- How a shard's state is told apart from another.
use Rattle.std.specs.Prelude.{ℕ, Option, refl}
use Rattle.std.specs.Coded.{Coded, code_by, coded×, coded_ℕ, coded_option}
use Rattle.coco_types.specs.Codes.{value_code, attempt_code}
use Rattle.coco_types.specs.declared.value.Value.{Value}
use Rattle.coco_types.specs.declared.call.AttemptId.{AttemptId}
use Rattle.coco_shard.specs.RowState.{RowState}

abbrev pub row_code : Coded RowState
row_code =
    code_by (Option Value × (ℕ × (ℕ × (Option AttemptId × Option Value))))
    (coded× (coded_option value_code) (coded× coded_ℕ (coded× coded_ℕ (coded× (coded_option attempt_code) (coded_option value_code)))))
    (λ r. (r.newest, (r.wts, (r.rts, (r.mark, r.stable)))))
    (λ p. record { newest = p.0; wts = p.1.0; rts = p.1.1.0; mark = p.1.1.1.0; stable = p.1.1.1.1 })
    (λ _. refl)
