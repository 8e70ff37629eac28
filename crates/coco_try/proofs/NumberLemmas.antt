-- Requests that could each have a number of its own use no number up.
use Rattle.std.proofs.Common.{◌≡◌, ℕ, zero, suc, ◌+◌, ◌*◌, ◌<◌, ◌≤◌, List, [], ◌∷◌, drop, length, ap, ◌∙◌, arith, length-append}
use Rattle.std.proofs.lemmas.List.{length-drop, length-take}
use Rattle.coco_serve.proofs.RunLemmas.{few_epochs}
use Rattle.coco_types.specs.Limits.{epochs_end}
use Rattle.coco_types.specs.declared.call.Request.{Request}
use Rattle.coco_ast.specs.History.{History}
use Rattle.coco_cluster.specs.Turning.{epochs_of}
use Rattle.coco_lines.specs.Classes.{Known, known_in, new_of}
use Rattle.coco_lines.specs.declared.class.Class.{Class}
use Rattle.coco_serve.specs.Growth.{Manner}
use Rattle.coco_serve.proofs.NumberLemmas.{added_by}
use Rattle.coco_try.specs.Growth.{GrowsByParts, part_at, parts_of}
use Rattle.coco_try.specs.Trying.{AreUsedUp, TriedSoFar}
use Rattle.coco_try.specs.Work.{HasNew}
use Rattle.coco_try.proofs.GrowthLemmas.{parts-length}

-- a history has no more epochs more than there are batches
gains_few : (m : Manner) (h : History) (parts : List (List Request)) (classes : List (List Class)) (g : History) → GrowsByParts m h parts classes g → length g.epochs ≤ length h.epochs + length parts
gains_few m h [] classes g all = (let same = ap (λ (x : History). length x.epochs) all.1 in omega (arith, same))
gains_few m h (p ∷ parts) [] g all = absurd all
gains_few m h (p ∷ parts) (cs ∷ classes) g all =
    let gained = added_by h (new_of cs) all.0 all.2.0 in
    let more = ap length gained.1 ∙ length-append h.epochs gained.0 in
    let one = few_epochs (new_of cs) in
    let rest = gains_few m all.0 parts classes g all.3 in
    omega (arith, gained.2, more, one, rest)

-- a batch that has a new request isn't empty
some_in : (k : Known) (part : List Request) → HasNew k part → 0 < length part
some_in k [] new = (let none = ap (λ (cs : List Class). length (new_of cs)) new.are in let some = new.some in absurd (omega (arith, none, some)))
some_in k (r ∷ rs) new = omega arith

-- and so there are more requests than batches before it
some_left : (size : ℕ) (requests : List Request) (count : ℕ) → 0 < length (part_at size requests count) → count < length requests
some_left zero requests count some = (let cut = length-take 0 (drop (count * 0) requests) in absurd (omega (arith, some, cut)))
some_left (suc n) requests count some =
    let cut = length-take (suc n) (drop (count * suc n) requests) in
    let left = length-drop (count * suc n) requests in
    let most : count * suc n ≡ count * n + count = grind arith in
    omega (arith, some, cut, left, most)

pub few_have_numbers : (m : Manner) (opening : History) (next size : ℕ) (requests : List Request) → next + length requests ≤ epochs_end → (p : TriedSoFar m opening next 0 size requests)
    → ¬ (AreUsedUp m opening next 0 size requests p)
few_have_numbers m opening next size requests few p used =
    let gained = gains_few m opening (parts_of size requests p.count) p.classes p.history p.grown in
    let parts = parts-length size requests p.count in
    let more = ap length p.numbers.epochs ∙ length-append opening.epochs p.numbers.added in
    let some = some_left size requests p.count (some_in (known_in p.history) (part_at size requests p.count) used.has_next) in
    let end = used.end in
    omega (arith, few, gained, parts, more, some, end)
