-- Keys, values and attempts as data, for maps that are a model's value.
use Rattle.std.specs.Prelude.{◌≡◌, ◌⊎◌, ℕ, ℤ, List, refl}
use Rattle.std.proofs.Common.{inl, inr}
use Rattle.std.specs.Coded.{Coded, code_by, coded×, coded⊎, coded_ℕ, coded_ℤ, coded_list}
use Rattle.coco_types.specs.RowKey.{RowKey}
use Rattle.coco_types.specs.declared.value.Value.{Value}
use Rattle.coco_types.specs.declared.value.Value.TheVariants.{Int, Text}
use Rattle.coco_types.specs.declared.call.AttemptId.{AttemptId}

abbrev pub key_code : Coded RowKey
key_code = code_by (ℕ × ℕ) (coded× coded_ℕ coded_ℕ) (λ k. (k.table, k.row)) (λ p. record { table = p.0; row = p.1 }) (λ _. refl)

abbrev pub parts_of : Value → ℤ ⊎ List ℕ
parts_of (Int n) = inl n
parts_of (Text bytes) = inr bytes

abbrev pub of_parts : ℤ ⊎ List ℕ → Value
of_parts (inl n) = Int n
of_parts (inr bytes) = Text bytes

pub of_parts-parts_of : (v : Value) → of_parts (parts_of v) ≡ v
of_parts-parts_of (Int n) = refl
of_parts-parts_of (Text bytes) = refl

abbrev pub value_code : Coded Value
value_code = code_by (ℤ ⊎ List ℕ) (coded⊎ coded_ℤ (coded_list coded_ℕ)) parts_of of_parts of_parts-parts_of

abbrev pub attempt_code : Coded AttemptId
attempt_code = code_by (ℕ × ℕ) (coded× coded_ℕ coded_ℕ) (λ a. (a.worker, a.number)) (λ p. record { worker = p.0; number = p.1 }) (λ _. refl)
