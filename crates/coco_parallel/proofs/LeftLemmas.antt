-- Each entry of an execution's tail is a request that no attempt committed, and each attempt at it conflicted.
use Rattle.std.proofs.Common.{◌≡◌, inl, inr, ℕ, suc, ◌+◌, ◌*◌, ◌<◌, ◌≤◌, ◌^◌, false, cond, List, [], ◌∷◌, length, Some, refl, sym, ap, ◌∙◌, subst, arith}
use Rattle.std.specs.List.{AllByRecursion, slice_get}
use Rattle.std.proofs.lemmas.Nat.{mul-le}
use Rattle.std.proofs.lemmas.Option.{slice_get_within}
use Rattle.coco_types.specs.Limits.{most_batch_lines, most_time}
use Rattle.coco_types.specs.declared.call.Request.{Request}
use Rattle.coco_occ.specs.declared.outcome.Outcome.TheVariants.{OverTime}
use Rattle.coco_occ.specs.declared.outcome.Tailed.{Tailed}
use Rattle.coco_occ.specs.declared.outcome.Tried.{Tried}
use Rattle.coco_order.specs.Conflicts.{TailsConflicted}
use Rattle.coco_order.specs.Execution.{Beginning, Execution, InEachExecution, IsExecution, concat}
use Rattle.coco_order.specs.Laws.{ScriptsAreFew, TimesAreFew}
use Rattle.coco_order.specs.OneKey.{Among}
use Rattle.coco_order.specs.Outcome.{is_committed}
use Rattle.coco_parallel.specs.Tails.{AreLeftOver, IsLeftOver, TailsAreLeft, entry_at, tail_from}
use Rattle.coco_parallel.proofs.SlotLemmas.{by_bool}

all_from : (P : Tried → Type 0) (ts : List Tried) → ((t : Tried) → Among ts t → P t) → AllByRecursion P ts
all_from P [] each = tt
all_from P (t ∷ ts) each = (each t (inl refl), all_from P ts (λ u among. each u (inr among)))

module _ (conflict : InEachExecution TailsConflicted) (scripts : InEachExecution ScriptsAreFew) (times : InEachExecution TimesAreFew) (b : Beginning) (x : Execution) (is : IsExecution b x) (few : length b.requests ≤ most_batch_lines) (attempts : b.attempts < 2 ^ 8) where
  few_scripts : length (concat x.transcripts) ≤ most_time
  few_scripts =
      let most = scripts b x is in
      let all : b.attempts * length b.requests ≤ 255 * 1024 = mul-le b.attempts (length b.requests) 255 1024 (omega (arith, attempts)) few in
      omega (arith, most, all)

  left : (place : ℕ) (r : Request) → slice_get b.requests place ≡ Some r → is_committed x place ≡ false → IsLeftOver b x (entry_at x place r)
  left place r there none = record {
    place = place;
    request = r;
    placed = there;
    none = none;
    is = refl;
    conflicted = (conflict b x is few_scripts).places place (slice_get_within b.requests place r there) none;
  }

  all_left : (place : ℕ) (rs : List Request) → ((k : ℕ) → slice_get b.requests (place + k) ≡ slice_get rs k) → AllByRecursion (IsLeftOver b x) (tail_from x place rs)
  all_left place [] there = tt
  all_left place (r ∷ rs) there =
      let here : place ≡ place + 0 = omega arith in
      let next : (k : ℕ) → suc place + k ≡ place + suc k = λ k. omega arith in
      let rest = all_left (suc place) rs (λ k. ap (slice_get b.requests) (next k) ∙ there (suc k)) in
      by_bool (λ t. AllByRecursion (IsLeftOver b x) (cond t (tail_from x (suc place) rs) (entry_at x place r ∷ tail_from x (suc place) rs))) (is_committed x place) (λ _. rest) (λ none. (left place r (ap (slice_get b.requests) here ∙ there 0) none, rest))

  are_left : (tail : List Tailed) → tail ≡ tail_from x 0 b.requests → AreLeftOver b x tail
  are_left tail same = record {
    each = subst (AllByRecursion (IsLeftOver b x)) (sym same) (all_left 0 b.requests (λ k. (let none : 0 + k ≡ k = omega arith in ap (slice_get b.requests) none)));
    in_time = all_from (λ (t : Tried). t.outcome ≡ OverTime → ⊥) (concat x.transcripts)
        (λ t among over. absurd (let late : most_time < length (concat x.transcripts) = (times b x is).over t among over in omega (arith, late, few_scripts)));
  }

pub tails_are_left : InEachExecution TailsConflicted → InEachExecution ScriptsAreFew → InEachExecution TimesAreFew → TailsAreLeft
tails_are_left conflict scripts times b x tail is same few attempts = are_left conflict scripts times b x is few attempts tail same
