-- What the members of a plain line have said, beside the object that they make.
use Rattle.std.specs.Prelude.{◌≡◌, ℕ, List, length, true, Option, Some, IfSome, option_and_then, codes}
use Rattle.json.specs.Json.{value}
use Rattle.json.specs.Token.{Token}
use Rattle.serde_json.specs.Data.{Data, Members, put}
use Rattle.serde_json.specs.Find.{get_member, as_array, as_number, as_str, as_u64}
use Rattle.serde_json.specs.Read.{of_json, converted}
use Rattle.coco_types.specs.declared.value.Value.{Value}
use Rattle.coco_lines.specs.Reading.{only_members, snapshot_of, args_of}
use Rattle.coco_lines.specs.declared.plain.Parts.{Parts}

abbrev pub args_in : Data → Option (List (Option Value))
args_in value = option_and_then args_of (as_array value)

abbrev pub u64_in : Data → Option ℕ
u64_in value = option_and_then as_u64 (as_number value)

-- each part that is there is what the object has under its name
pub record Holds (parts : Parts) (ms : Members) : Type 0 where
  pub only : only_members ms ≡ true
  pub args : IfSome parts.args (λ args. option_and_then args_in (get_member (codes "args") ms) ≡ Some args)
  pub count : IfSome parts.args (λ args. length args ≡ parts.count)
  pub call : IfSome parts.call (λ call. option_and_then as_str (get_member (codes "call") ms) ≡ Some call.now)
  pub id : IfSome parts.id (λ id. option_and_then u64_in (get_member (codes "id") ms) ≡ Some id)
  pub snapshot : snapshot_of (get_member (codes "snapshot") ms) ≡ Some parts.snapshot

-- the first of the tokens are the value of a member of this name, the others are left, and the parts hold with it
abbrev pub Taken : Parts → List ℕ → List Token → Parts → List Token → Type 0
Taken old name tokens new others = (ms : Members) → Holds old ms → (d : Data) × (converted of_json (value 126 tokens) ≡ Some (d, others)) × Holds new (put name d ms)
