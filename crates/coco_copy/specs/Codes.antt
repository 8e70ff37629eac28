-- How a copy's state is told apart from another.
use Rattle.std.specs.Prelude.{ℕ, Option, refl}
use Rattle.std.specs.Coded.{Coded, code_by, coded×, coded_ℕ, coded_option}
use Rattle.std.specs.FinMap as map
use Rattle.coco_types.specs.RowKey.{key_cmp}
use Rattle.coco_types.specs.Codes.{key_code, value_code}
use Rattle.coco_types.specs.declared.value.Value.{Value}
use Rattle.coco_copy.specs.CopyState.{CopyState}

abbrev pub copy_code : Coded CopyState
copy_code =
    code_by (ℕ × (map.FinMap key_cmp Value × map.FinMap key_cmp (ℕ × Option Value)))
    (coded× coded_ℕ (coded× (map.code key_code value_code) (map.code key_code (coded× coded_ℕ (coded_option value_code)))))
    (λ s. (s.epoch, (s.stable, s.pending))) (λ p. record { epoch = p.0; stable = p.1.0; pending = p.1.1 }) (λ _. refl)
