-- The law of a lawful journal, key by key, is a walk along the steps on that key.
use Rattle.std.proofs.Common.{◌≡◌, ◌⊎◌, inl, inr, ℕ, zero, suc, Bool, true, false, cond, ◌==◌, max, List, [], ◌∷◌, ◌++◌, take, Option, None, Some, refl, sym, ap, ◌∙◌, subst, arith, append_assoc}
use Rattle.std.proofs.lemmas.List.{append-nil}
use Rattle.std.specs.Option.{option_or, option_map, option_flatten, option_to_list, unwrap_or, is_some}
use Rattle.std.specs.List.{slice_get}
use Rattle.coco_types.specs.RowKey.{RowKey}
use Rattle.coco_types.specs.declared.value.Value.{Value}
use Rattle.coco_types.specs.declared.call.AttemptId.{AttemptId}
use Rattle.coco_shard.specs.declared.ops.Op.{Op}
use Rattle.coco_shard.specs.declared.ops.Op.TheVariants.{Read, Lock, Extend, Install, Release, Past}
use Rattle.coco_shard.specs.declared.ops.Answer.{Answer}
use Rattle.coco_shard.specs.declared.ops.Answer.TheVariants.{Locked, Marked, Changed, Extended, Installed, Released, NotMine}
use Rattle.coco_shard.specs.RowState.{RowState, resting}
use Rattle.coco_shard.specs.Table.{key_of, answer_at, left_by, unless_marked, where_mine, is_mark_of}
use Rattle.coco_shard.specs.Law.{Entry, installed_by, extended_by, marked_by, install_of, extension_of, mark_of, last_found, extensions_since, greatest, law_row, IsLawful}
use Rattle.coco_types.proofs.Keys.{is_key, one_key}
use Rattle.coco_shard.proofs.LawLemmas.{grown, Grows, grows, law_more}
use Rattle.coco_order.specs.OneKey.{left, walk, AreTold, on}
use Rattle.coco_order.proofs.Attempts.{by_bool, none_some, same_some}

-- ---- the walk

-- an entry's answer is the table's at the law of the entries before it
abbrev ToldAt : (RowKey → Option Value) → List Entry → Entry → Type 0
ToldAt opening es e = e.answer ≡ answer_at (law_row opening (key_of e.ask.op) es) e.ask.by e.ask.op

abbrev pub ToldFrom : (RowKey → Option Value) → List Entry → List Entry → Type 0
ToldFrom opening es [] = Unit {0}
ToldFrom opening es (e ∷ rest) = ToldAt opening es e × ToldFrom opening (es ++ e ∷ []) rest

told_here : (opening : RowKey → Option Value) (k : RowKey) (es : List Entry) (e : Entry) → ToldAt opening es e → is_key k (key_of e.ask.op) ≡ true → e.answer ≡ answer_at (law_row opening k es) e.ask.by e.ask.op
told_here opening k es e told t = told ∙ ap (λ (q : RowKey). answer_at (law_row opening q es) e.ask.by e.ask.op) (sym (one_key k (key_of e.ask.op) t))

law_next : (opening : RowKey → Option Value) (k : RowKey) (es : List Entry) (e : Entry) → ToldAt opening es e
    → law_row opening k (es ++ e ∷ []) ≡ cond (is_key k (key_of e.ask.op)) (left e (law_row opening k es)) (law_row opening k es)
law_next opening k es e told =
    law_more opening k es e
    ∙ by_bool (λ b. grown (law_row opening k es) (cond b (install_of e.ask.op e.answer) None) (cond b (extension_of e.ask.op e.answer) None) (cond b (mark_of e.ask.by e.answer) None) ≡ cond b (left e (law_row opening k es)) (law_row opening k es))
    (is_key k (key_of e.ask.op))
    (λ t. subst (λ (a : Answer). Grows (law_row opening k es) e.ask.by e.ask.op a) (sym (told_here opening k es e told t)) (grows (law_row opening k es) e.ask.by e.ask.op))
    (λ _. refl)

pub law_walk : (opening : RowKey → Option Value) (k : RowKey) (es rest : List Entry) → ToldFrom opening es rest → law_row opening k (es ++ rest) ≡ walk (law_row opening k es) (on k rest)
law_walk opening k es [] told = ap (law_row opening k) (append-nil es)
law_walk opening k es (e ∷ rest) told =
    ap (law_row opening k) (sym (append_assoc es (e ∷ []) rest))
    ∙ law_walk opening k (es ++ e ∷ []) rest told.1
    ∙ ap (λ (row : RowState). walk row (on k rest)) (law_next opening k es e told.0)
    ∙ by_bool (λ b. walk (cond b (left e (law_row opening k es)) (law_row opening k es)) (on k rest) ≡ walk (law_row opening k es) (cond b (e ∷ on k rest) (on k rest))) (is_key k (key_of e.ask.op)) (λ _. refl) (λ _. refl)

pub told_walk : (opening : RowKey → Option Value) (k : RowKey) (es rest : List Entry) → ToldFrom opening es rest → AreTold (law_row opening k es) (on k rest)
told_walk opening k es [] told = tt
told_walk opening k es (e ∷ rest) told =
    let next : AreTold (law_row opening k (es ++ e ∷ [])) (on k rest) = told_walk opening k (es ++ e ∷ []) rest told.1 in
    let row : AreTold (cond (is_key k (key_of e.ask.op)) (left e (law_row opening k es)) (law_row opening k es)) (on k rest) = subst (λ (r : RowState). AreTold r (on k rest)) (law_next opening k es e told.0) next in
    from (is_key k (key_of e.ask.op)) refl row
  where
    from : (b : Bool) → is_key k (key_of e.ask.op) ≡ b → AreTold (cond b (left e (law_row opening k es)) (law_row opening k es)) (on k rest) → AreTold (law_row opening k es) (cond b (e ∷ on k rest) (on k rest))
    from true t row = (told_here opening k es e told.0 t, row)
    from false t row = row

told_from : (opening : RowKey → Option Value) (es rest : List Entry)
    → ((place : ℕ) (e : Entry) → slice_get rest place ≡ Some e → ToldAt opening (es ++ take place rest) e) → ToldFrom opening es rest
told_from opening es [] each = tt
told_from opening es (e ∷ rest) each = (
  subst (λ (xs : List Entry). ToldAt opening xs e) (append-nil es) (each 0 e refl),
  told_from opening (es ++ e ∷ []) rest (λ place d h. subst (λ (xs : List Entry). ToldAt opening xs d) (sym (append_assoc es (e ∷ []) (take place rest))) (each (suc place) d h)),
)

pub lawful_told : (opening : RowKey → Option Value) (journal : List Entry) → IsLawful opening journal → ToldFrom opening [] journal
lawful_told opening journal lawful = told_from opening [] journal lawful

pub told_lawful : (opening : RowKey → Option Value) (es rest : List Entry) → ToldFrom opening es rest
    → (place : ℕ) (e : Entry) → slice_get rest place ≡ Some e → ToldAt opening (es ++ take place rest) e
told_lawful opening es [] told place e h = absurd (none_some h)
told_lawful opening es (d ∷ rest) told zero e h = subst (ToldAt opening (es ++ [])) (same_some h) (subst (λ (xs : List Entry). ToldAt opening xs d) (sym (append-nil es)) told.0)
told_lawful opening es (d ∷ rest) told (suc place) e h = subst (λ (xs : List Entry). ToldAt opening xs e) (append_assoc es (d ∷ []) (take place rest)) (told_lawful opening (es ++ d ∷ []) rest told.1 place e h)
