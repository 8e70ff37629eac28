-- The lemmas on one key.
use Rattle.std.proofs.Common.{◌≡◌, ◌⊎◌, inl, inr, ℕ, ◌<◌, ◌≤◌, ◌==◌, Bool, true, false, cond, eqb, List, [], ◌∷◌, ◌++◌, Option, None, Some, refl, sym, ap, ◌∙◌, subst, arith}
use Rattle.std.proofs.lemmas.Bool.{eqb-true}
use Rattle.coco_types.proofs.Keys.{is_key}
use Rattle.coco_types.specs.RowKey.{RowKey}
use Rattle.coco_types.specs.declared.value.Value.{Value}
use Rattle.coco_types.specs.declared.call.AttemptId.{AttemptId}
use Rattle.coco_shard.specs.declared.ops.Op.{Op}
use Rattle.coco_shard.specs.declared.ops.Op.TheVariants.{Read, Lock, Extend, Install, Release, Past}
use Rattle.coco_shard.specs.declared.ops.Answer.{Answer}
use Rattle.coco_shard.specs.declared.ops.Answer.TheVariants.{Got, Locked, Marked, Changed, Extended, Installed, Released, NotMine, Stood}
use Rattle.coco_shard.specs.RowState.{RowState, resting}
use Rattle.coco_shard.specs.Table.{key_of, answer_at, left_by, is_mark_of, unless_marked}
use Rattle.coco_shard.specs.Law.{Entry, law_row, read_time, IsLawful}
use Rattle.coco_order.specs.OneKey.{Among, is_attempt, own, on, left, walk, AreTold, Shown, IsTidy, Installs, IsLastBelow, IsOrderly, MarksAreOwn, WriteTimesRise, Validates, ReadsTheLast, ValidatedReadsAreLast, OnEachKey, step}
use Rattle.coco_order.proofs.Attempts.{one_attempt, attempt_itself, by_bool, not_both, none_some, same_some, Among-append, Among-left, Among-right}
use Rattle.coco_order.proofs.Walking.{Holds, Stands, holds_next, Step}
use Rattle.coco_order.proofs.LawRows.{law_walk, told_walk, lawful_told, ToldFrom}
use Rattle.coco_order.specs.Laws.{ApartInTime}
use Rattle.coco_order.proofs.Chains.{Good, one_install, good_at, good_front, end_clear, all_mine, installs_above, walk_append}

-- at the start nobody holds anything
abbrev pub nobody : Holds
nobody a = None

pub good_start : (opening : RowKey → Option Value) (k : RowKey) (journal : List Entry) → IsOrderly opening k journal → Good (resting (opening k)) nobody (on k journal)
good_start opening k journal orderly = record {
  times = omega arith;
  stands = λ a. refl;
  told = told_walk opening k [] journal (lawful_told opening journal orderly.lawful);
  may = λ a. (orderly.tidy a).steps;
}

pub marks_own : OnEachKey (λ opening k journal. MarksAreOwn k journal)
marks_own opening k journal orderly =
    let good : Good (resting (opening k)) nobody (on k journal) = good_start opening k journal orderly in
    record {
      mine = all_mine (resting (opening k)) nobody (on k journal) good;
      none_stands = ap (λ (r : RowState). r.mark) (law_walk opening k [] journal (lawful_told opening journal orderly.lawful)) ∙ end_clear (resting (opening k)) nobody (on k journal) good (λ a. (orderly.tidy a).ends);
    }

on_append : (k : RowKey) (pre post : List Entry) → on k (pre ++ post) ≡ on k pre ++ on k post
on_append k [] post = refl
on_append k (e ∷ pre) post =
    by_bool (λ b. cond b (e ∷ on k (pre ++ post)) (on k (pre ++ post)) ≡ cond b (e ∷ on k pre) (on k pre) ++ on k post) (is_key k (key_of e.ask.op))
    (λ _. ap (λ (es : List Entry). e ∷ es) (on_append k pre post)) (λ _. on_append k pre post)

told_front : (opening : RowKey → Option Value) (es pre post : List Entry) → ToldFrom opening es (pre ++ post) → ToldFrom opening es pre
told_front opening es [] post told = tt
told_front opening es (e ∷ pre) post told = (told.0, told_front opening (es ++ e ∷ []) pre post told.1)

one_on : (k : RowKey) (e : Entry) (post : List Entry) → Among (on k (e ∷ [])) e → Among (on k (e ∷ post)) e
one_on k e post = from (is_key k (key_of e.ask.op))
  where
    from : (b : Bool) → Among (cond b (e ∷ []) []) e → Among (cond b (e ∷ on k post) (on k post)) e
    from true h = inl refl
    from false h = absurd h

pub times_rise : OnEachKey (λ opening k journal. WriteTimesRise k journal)
times_rise opening k journal orderly before after e time value is here installs =
    let good : Good (resting (opening k)) nobody (on k journal) = good_start opening k journal orderly in
    let parts : on k journal ≡ on k before ++ on k (e ∷ after) = ap (on k) is ∙ on_append k before (e ∷ after) in
    let split : Good (resting (opening k)) nobody (on k before ++ on k (e ∷ after)) = subst (λ (es : List Entry). Good (resting (opening k)) nobody es) parts good in
    let told : ToldFrom opening [] (before ++ e ∷ after) = subst (λ (es : List Entry). ToldFrom opening [] es) is (lawful_told opening journal orderly.lawful) in
    let row : law_row opening k before ≡ walk (resting (opening k)) (on k before) = law_walk opening k [] before (told_front opening [] before (e ∷ after) told) in
    let above = installs_above (walk (resting (opening k)) (on k before)) _ (on k (e ∷ after)) (good_at (resting (opening k)) nobody (on k before) (on k (e ∷ after)) split) e time value (one_on k e after here) installs in
    subst (λ (r : RowState). r.rts < time) (sym row) above

pub installs_apart : OnEachKey (λ opening k journal. ApartInTime k journal)
installs_apart opening k journal orderly e d time v w in_e in_d i j = one_install (resting (opening k)) nobody (on k journal) (good_start opening k journal orderly) e d time v w in_e in_d i j
