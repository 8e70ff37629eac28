-- Epochs that are added to a history, and their numbers.
use Rattle.std.proofs.Common.{◌≡◌, inl, ⊎_elim, ℕ, ◌+◌, ◌≤◌, List, [], ◌∷◌, ◌++◌, length, map, refl, sym, ap, ◌∙◌, arith, append_assoc, append-nil, length-append}
use Rattle.std.proofs.lemmas.Bool.{cases_lt}
use Rattle.std.specs.List.{range_with_len}
use Rattle.coco_types.specs.declared.call.Request.{Request}
use Rattle.coco_ast.specs.Growth.{GrowsBy}
use Rattle.coco_ast.specs.History.{Epoch, History}
use Rattle.coco_cluster.specs.Around.{Around, IsTaken, spare}
use Rattle.coco_cluster.specs.Turning.{epochs_of}
use Rattle.coco_io.specs.Counts.{Rose}
use Rattle.coco_serve.specs.Growth.{AddsWithin, AreNumberedFrom, AreNumberedWithin}

-- how many epochs a history gained
pub added_by : (h : History) (rs : List Request) (g : History) → GrowsBy h rs g → (added : List Epoch) × (g.epochs ≡ h.epochs ++ added) × (length added ≡ epochs_of rs)
added_by h [] g same = ([], ap (λ (x : History). x.epochs) same ∙ sym (append-nil h.epochs), refl)
added_by h (r ∷ rs) g grows = (grows.0 ∷ [], ap (λ (x : History). x.epochs) grows.3, refl)

-- ---- numbers

within_lower : (low next end : ℕ) (es : List Epoch) → low ≤ next → AreNumberedWithin next end es → AreNumberedWithin low end es
within_lower low next end [] le within = omega (arith, le, within)
within_lower low next end (e ∷ es) le within = (let first = within.0 in omega (arith, le, first), within.1)

pub within-append : (next mid end : ℕ) (xs ys : List Epoch) → AreNumberedWithin next mid xs → AreNumberedWithin mid end ys → AreNumberedWithin next end (xs ++ ys)
within-append next mid end [] ys first behind = within_lower next mid end ys first behind
within-append next mid end (x ∷ xs) ys first behind = (first.0, within-append (x.number + 1) mid end xs ys first.1 behind)

-- as many numbers as epochs are used
pub within_count : (next end : ℕ) (es : List Epoch) → AreNumberedWithin next end es → next + length es ≤ end
within_count next end [] within = omega (arith, within)
within_count next end (e ∷ es) within = (let first = within.0 in let rest = within_count (e.number + 1) end es within.1 in omega (arith, first, rest))

-- and where no others are, there is no gap
pub without_gap : (next end : ℕ) (es : List Epoch) → AreNumberedWithin next end es → end ≤ next + length es → AreNumberedFrom next es
without_gap next end [] within few = refl
without_gap next end (e ∷ es) within few =
    let first = within.0 in
    let rest = within_count (e.number + 1) end es within.1 in
    let here : e.number ≡ next = omega (arith, first, rest, few) in
    let tight : end ≤ (e.number + 1) + length es = omega (arith, here, few) in
    ap (λ k. k ∷ map (λ (x : Epoch). x.number) es) here
    ∙ ap (λ l. next ∷ l) (without_gap (e.number + 1) end es within.1 tight ∙ ap (λ k. range_with_len (k + 1) (length es)) here)

-- ---- growth

-- a number is tried, and no epoch is added
abbrev pub adds_none : (next number spare : ℕ) (h : History) → IsTaken next number spare → AddsWithin next number spare h h
adds_none next number spare h taken = record { added = []; epochs = sym (append-nil h.epochs); numbered = taken.low; few = taken.few }

abbrev pub adds_more : (next mid end spare more : ℕ) (f h g : History) → AddsWithin next mid spare f h → AddsWithin mid end more h g → AddsWithin next end (spare + more) f g
adds_more next mid end spare more f h g a b = record {
  added = a.added ++ b.added;
  epochs = b.epochs ∙ ap (λ es. es ++ b.added) a.epochs ∙ append_assoc f.epochs a.added b.added;
  numbered = within-append next mid end a.added b.added a.numbered b.numbered;
  few = (let first = a.few in let second = b.few in omega (arith, first, second, length-append a.added b.added));
}

-- where more may be skipped
abbrev pub adds_later : (next end spare more : ℕ) (f h : History) → spare ≤ more → AddsWithin next end spare f h → AddsWithin next end more f h
adds_later next end spare more f h le a = record { added = a.added; epochs = a.epochs; numbered = a.numbered; few = (let few = a.few in omega (arith, few, le)) }

not_risen : (old new : ℕ) → ¬ (Rose old new) → new ≤ old
not_risen old new still = ⊎_elim (λ less. absurd (still (inl less))) (λ le. le) (cases_lt old new)

-- where neither count rose, no number may be skipped
pub none_spare : (before after : Around) → ¬ (Rose before.faults after.faults) → ¬ (Rose before.early after.early) → spare before after ≡ 0
none_spare before after faultless steady =
    let faults = not_risen before.faults after.faults faultless in
    let early = not_risen before.early after.early steady in
    omega (arith, faults, early)

pub none_skipped : (before after : Around) (next end : ℕ) (opening history : History) → ¬ (Rose before.faults after.faults) → ¬ (Rose before.early after.early)
    → (adds : AddsWithin next end (spare before after) opening history) → AreNumberedFrom next adds.added × (end ≡ next + length adds.added)
none_skipped before after next end opening history faultless steady adds =
    let none = none_spare before after faultless steady in
    let few = adds.few in
    let used = within_count next end adds.added adds.numbered in
    let tight : end ≤ next + length adds.added = omega (arith, none, few) in
    (without_gap next end adds.added adds.numbered tight, omega (arith, used, tight))
