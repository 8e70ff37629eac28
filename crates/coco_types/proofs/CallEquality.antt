-- `==` on values, on arguments and on calls decides whether they are the same.
use Rattle.std.proofs.Common.{◌≡◌, Bool, true, false, ◌&&◌, List, Option, None, Some, refl, ap}
use Rattle.std.specs.Bool.{Decides}
use Rattle.std.specs.Cmp.{signed_Decides, unsigned_Decides, booleans_Decides}
use Rattle.std.specs.Cmp.Lexicographic.{pointwise, pointwise_decides, bytes_decides}
use Rattle.std.specs.Option.{option_eq}
use Rattle.coco_types.specs.declared.value.Value.{Value}
use Rattle.coco_types.specs.declared.value.Value.TheVariants.{Int, Text}
use Rattle.coco_types.specs.declared.call.Call.{Call}
use Rattle.coco_types.specs.contracts.value.ValuePartialEq.TheImpl as value
use Rattle.coco_types.specs.contracts.call.CallPartialEq.TheImpl as call

pub value_Decides : (x y : Value) → Decides (value.ghosts.eq x y) (x ≡ y)
value_Decides (Int a) (Int b) = (λ h. ap Int ((signed_Decides a b).0 h), λ e. (signed_Decides a b).1 (cc))
value_Decides (Int a) (Text t) = (λ h. cc, λ e. cc)
value_Decides (Text s) (Int b) = (λ h. cc, λ e. cc)
value_Decides (Text s) (Text t) = (λ h. ap Text ((bytes_decides s t).0 h), λ e. (bytes_decides s t).1 (cc))

pub optional_value_Decides : (x y : Option Value) → Decides (option_eq value.ghosts.eq x y) (x ≡ y)
optional_value_Decides None None = (λ h. refl, λ e. refl)
optional_value_Decides None (Some y) = (λ h. cc, λ e. cc)
optional_value_Decides (Some x) None = (λ h. cc, λ e. cc)
optional_value_Decides (Some x) (Some y) = (λ h. ap Some ((value_Decides x y).0 h), λ e. (value_Decides x y).1 (cc))

pub args_Decides : (xs ys : List (Option Value)) → Decides (pointwise (option_eq value.ghosts.eq) xs ys) (xs ≡ ys)
args_Decides = pointwise_decides optional_value_Decides

-- both tests say yes
both : (a b : Bool) → a && b ≡ true → (a ≡ true) × (b ≡ true)
both true b h = (refl, h)
both false b h = (h, cc)

all : (a b c : Bool) → a ≡ true → b ≡ true → c ≡ true → a && (b && c) ≡ true
all a b c p q r = cc

pub call_Decides : (x y : Call) → Decides (call.ghosts.eq x y) (x ≡ y)
call_Decides x y = (
  λ h. let p = both _ _ h in let q = both _ _ p.1 in λ i. record {
    proc_no = (unsigned_Decides x.proc_no y.proc_no).0 p.0 i;
    snapshot = (booleans_Decides x.snapshot y.snapshot).0 q.0 i;
    args = (args_Decides x.args y.args).0 q.1 i;
  },
  λ e. all _ _ _
      ((unsigned_Decides x.proc_no y.proc_no).1 (ap (λ c. c.proc_no) e))
      ((booleans_Decides x.snapshot y.snapshot).1 (ap (λ c. c.snapshot) e))
      ((args_Decides x.args y.args).1 (ap (λ c. c.args) e)),
)
