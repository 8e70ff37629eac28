-- A `Vec` that is given the elements that it has.
use Rattle.std.proofs.Common.{◌≡◌, ◌≤◌, List, length}
use Rattle.std.proofs.Props.{props}
use Rattle.std.specs.Global.{Vec}
use Rattle.std.specs.Vec.{with_items}
use mathlib.Core.HLevel.{is_prop→PathP}

-- it is what it was
pub with_same_items : {X : Type 0} (v : Vec X) (ws : List X) → (with_items v ws).items ≡ v.items → with_items v ws ≡ v
with_same_items v ws e = λ i. record {
  ptr = v.ptr;
  len = v.len;
  cap = v.cap;
  alloc = v.alloc;
  items = e i;
  ok = is_prop→PathP (λ j. (v.len ≡ length (e j)) × (v.len ≤ v.cap)) (λ j. hlevel props) (with_items v ws).ok v.ok i;
  small = v.small;
}
