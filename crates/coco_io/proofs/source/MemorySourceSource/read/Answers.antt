use Rattle.std.proofs.Common.{◌≡◌, ℕ, ◌+◌, ◌-◌, ◌≤◌, List, ◌++◌, length, take, drop, arith, ap, sym, ◌∙◌}
use Rattle.std.proofs.lemmas.List.{drop-drop, take-append-drop, length-take-le}
use Rattle.std.proofs.Math.Seq.{take-add, take-append_seam}
use Rattle.coco_io.proofs.KnownLemmas.{range_from}
use Rattle.coco_io.proofs.source.MemorySourceSource.read.Goals as goal

-- a buffer begins with the first k bytes that are left
front_is : (xs ys into rest : List ℕ) (at k : ℕ) → ys ≡ xs → into ≡ take k (take (length ys - at) (drop at ys)) ++ rest → k ≤ length (take (length ys - at) (drop at ys))
    → take k into ≡ take k (drop at xs)
front_is xs ys into rest at k same written within =
    let whole = range_from ys at in
    let front : take k (take k (drop at ys) ++ rest) ≡ take k (drop at ys) = grind (arith, whole, length-take-le k (drop at ys), take-append_seam (take k (drop at ys)) rest) in
    grind (arith, whole, front, written, same)

-- the bytes that are left, when k of them are at the front of a buffer
left_is : (xs into : List ℕ) (at k : ℕ) → take k into ≡ take k (drop at xs) → drop at xs ≡ take k into ++ drop (at + k) xs
left_is xs into at k front = grind (arith, front, drop-drop k at xs, take-append-drop k (drop at xs))

pub returns-clause-bytes : goal.returns-clause-bytes
returns-clause-bytes c =
    let front = front_is _ _ _ _ c.self.inside.at c.min-count.result c.as_slice-bytes.ensures.value c.put_front.ensures (omega (arith, c.min.ensures, c.min-count.ensures)) in
    ap (λ s. s.left) (sym c.self.view_is) ∙ left_is c.self.inside.bytes.items c.put_front.new.into c.self.inside.at c.min-count.result front

pub returns-clause-gives : goal.returns-clause-gives
returns-clause-gives c =
    let front = front_is _ _ _ _ c.self.inside.at c.min-count.result c.as_slice-bytes.ensures.value c.put_front.ensures (omega (arith, c.min.ensures, c.min-count.ensures)) in
    take-add c.self.inside.at c.min-count.result c.self.inside.bytes.items ∙ ap (λ ys. take c.self.inside.at c.self.inside.bytes.items ++ ys) (sym front)
    ∙ ap (λ s. s.given ++ take c.min-count.result c.put_front.new.into) c.self.view_is
