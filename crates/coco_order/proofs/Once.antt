-- No request commits twice.
use Rattle.std.proofs.Common.{◌≡◌, ℕ, suc, ◌<◌, ◌≤◌, Bool, true, false, cond, eqb, List, [], ◌∷◌, length, None, Some, refl, ap, ◌∙◌, subst, arith}
use Rattle.std.specs.List.{filter, cons_option, AllByRecursion}
use Rattle.std.proofs.lemmas.Bool.{eq-eqb}
use Rattle.std.proofs.lemmas.Option.{slice_get_within}
use Rattle.coco_occ.specs.declared.outcome.Tried.{Tried}
use Rattle.coco_order.specs.Execution.{IsTried, InEachExecution, concat}
use Rattle.coco_order.specs.Laws.{CommitsAreOnce}
use Rattle.coco_order.specs.Outcome.{AreOnce, has_commit, is_commit}
use Rattle.coco_order.proofs.Acts.{all_tried}
use Rattle.coco_order.proofs.Attempts.{by_bool}
use Rattle.coco_order.proofs.Epochs.{commits_once, committed_has, count, counts_none, places}
use Rattle.coco_order.proofs.Passes.{all_weaker}

-- one place more is counted once, at itself
count_itself : (ps : List ℕ) (place : ℕ) → count (place ∷ ps) place ≡ suc (count ps place)
count_itself ps place = ap (λ (z : Bool). length (cond z (place ∷ filter (λ p. eqb p place) ps) (filter (λ p. eqb p place) ps))) (eq-eqb place place refl)

count_behind : (p : ℕ) (ps : List ℕ) (place : ℕ) → count ps place ≤ count (p ∷ ps) place
count_behind p ps place = by_bool (λ z. count ps place ≤ length (cond z (p ∷ filter (λ q. eqb q place) ps) (filter (λ q. eqb q place) ps))) (eqb p place) (λ _. omega arith) (λ _. omega arith)

-- scripts of places at each of which at most one committed
once_each : (n : ℕ) (ts : List Tried) → AllByRecursion (λ t. t.place < n) ts → ((place : ℕ) → place < n → count (places ts) place ≤ 1) → AreOnce ts
once_each n [] within few = tt
once_each n (t ∷ ts) within few = (first, once_each n ts within.1 (λ place lt. behind place (is_commit t.outcome) (few place lt)))
  where
    first : is_commit t.outcome ≡ true → has_commit ts t.place ≡ false
    first committed =
        let most : count (t.place ∷ places ts) t.place ≤ 1 = subst (λ (z : Bool). count (cons_option (cond z (Some t.place) None) (places ts)) t.place ≤ 1) committed (few t.place within.0) in
        committed_has ts t.place ∙ counts_none (places ts) t.place (omega (arith, most, count_itself (places ts) t.place))

    behind : (place : ℕ) (z : Bool) → count (cons_option (cond z (Some t.place) None) (places ts)) place ≤ 1 → count (places ts) place ≤ 1
    behind place true most = omega (arith, most, count_behind t.place (places ts) place)
    behind place false most = most

pub commits_are_once : InEachExecution CommitsAreOnce
commits_are_once b x is =
    once_each (length b.requests) (concat x.transcripts)
    (all_weaker (IsTried b) (λ t. t.place < length b.requests) (concat x.transcripts) (λ t tried. slice_get_within b.requests t.place tried.request tried.placed) (all_tried b x is))
    (commits_once b x is.worked_off)
