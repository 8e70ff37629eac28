-- What the one seat at the end stands for.
use Rattle.std.specs.Prelude.{◌≡◌, ◌≢◌, ℕ, List, [], map, length, false, All, Some, slice_get, sum_by}
use Rattle.coco_seen.specs.declared.view.View.{View}
use Rattle.coco_seen.specs.Notes.{Known}
use Rattle.coco_seen.specs.Rules.{how_often, places}

-- the seat has the marks, the roots and the calls of these notes
pub record StandsFor {E R : Type 0} (notes : List (Known E R)) (v : View E R) : Type 0 where
  pub some : v.marks ≢ []
  pub all : length v.marks ≡ length notes
  pub free : v.holds ≡ false
  pub root : R
  pub known : slice_get v.roots 0 ≡ Some root
  pub rooted : (from : R) → All (λ (r : R). from ≡ r) v.roots → All (λ (n : Known E R). n.root ≡ Some from) notes
  pub placed : (log : List E) → All (λ (c : ℕ × E). slice_get log c.0 ≡ Some c.1) v.calls → All (λ (n : Known E R). All (λ (c : ℕ × E). slice_get log c.0 ≡ Some c.1) n.calls) notes
  pub once : (p : ℕ) → how_often p (places v) ≡ sum_by (λ (n : Known E R). how_often p (map (λ (c : ℕ × E). c.0) n.calls)) notes
  pub sized : length v.calls ≡ sum_by (λ (n : Known E R). length n.calls) notes
