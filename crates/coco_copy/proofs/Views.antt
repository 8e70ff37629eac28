-- What contracts see of a copy, after one row is changed and at an epoch's end.
use Rattle.std.proofs.Common.{◌≡◌, ℕ, Bool, true, false, cond, List, Option, None, Some, refl, sym, ap, ◌∙◌, eq-eqb, Result, Ok, Err, OnErr, OnOk}
use Rattle.std.specs.Option.{is_some, option_and_then, option_map, unwrap_or}
use Rattle.std.specs.FinMap.{from_entries, get, insert, empty, get-empty}
use Rattle.coco_types.specs.RowKey.{RowKey, key_cmp}
use Rattle.coco_types.specs.declared.value.Value.{Value}
use Rattle.coco_types.specs.declared.call.Write.{Write}
use Rattle.coco_types.proofs.Keys.{is_key, one_key}
use Rattle.coco_types.proofs.KeyMaps.{same_keyed}
use Rattle.coco_rows.specs.Listing.{IsRising}
use Rattle.coco_rows.proofs.Parts.{get_part, part_same, part_put, part_taken}
use Rattle.coco_ast.specs.Keyed.{write_at}
use Rattle.coco_copy.specs.declared.kept.Kept.{Kept}
use Rattle.coco_copy.specs.declared.ops.CopyAnswer.{CopyAnswer}
use Rattle.coco_copy.specs.declared.ops.CopyAnswer.TheVariants.{Applied, Older, OtherEpoch}
use Rattle.coco_copy.specs.declared.ops.CopyAsk.TheVariants.{Put}
use Rattle.coco_copy.specs.CopyState.{begun, promoted_at}
use Rattle.coco_copy.specs.Puts.{HasNothing, answer_in, after_ask, by_time, left_by}
use Rattle.coco_copy.specs.Kept.{kept_at, part_of, stable_of, pending_of, view_of, version_of, settled, rested}

-- the later entries have this row under the key, or none, and the others' rows elsewhere
abbrev pub Sets : List (RowKey × Kept) → List (RowKey × Kept) → RowKey → Option Kept → Type 0
Sets es fs k after = (q : RowKey) → kept_at fs q ≡ cond (is_key k q) after (kept_at es q)

-- a part that the change of a row leaves as it is
same_part : {X : Type 0} (part : Kept → Option X) (es fs : List (RowKey × Kept)) (k : RowKey) (after : Option Kept) → Sets es fs k after
    → option_and_then part after ≡ option_and_then part (kept_at es k) → (q : RowKey) → option_and_then part (kept_at fs q) ≡ option_and_then part (kept_at es q)
same_part part es fs k after sets is q = ap (option_and_then part) (sets q) ∙ elim (is_key k q) as (λ b. is_key k q ≡ b → option_and_then part (cond b after (kept_at es q)) ≡ option_and_then part (kept_at es q)) [
  | true ↦ λ t. is ∙ ap (λ z. option_and_then part (kept_at es z)) (one_key k q t)
  | false ↦ λ _. refl
] refl

-- a part that it sets
set_part : {X : Type 0} (part : Kept → Option X) (es fs : List (RowKey × Kept)) (k : RowKey) (after : Option Kept) (x : Option X) → Sets es fs k after
    → option_and_then part after ≡ x → (q : RowKey) → option_and_then part (kept_at fs q) ≡ cond (is_key k q) x (option_and_then part (kept_at es q))
set_part part es fs k after x sets is q = ap (option_and_then part) (sets q) ∙ elim (is_key k q) as (λ b. option_and_then part (cond b after (kept_at es q)) ≡ cond b x (option_and_then part (kept_at es q))) [
  | true ↦ is
  | false ↦ refl
]

module _ (es fs : List (RowKey × Kept)) (rising : IsRising es) (rises : IsRising fs) (k : RowKey) (after : Option Kept) (sets : Sets es fs k after) where
  unchanged_view : (epoch : ℕ) → after ≡ kept_at es k → view_of epoch fs ≡ view_of epoch es
  unchanged_view epoch same i = record {
    epoch = epoch;
    stable = part_same stable_of es fs rising rises (same_part stable_of es fs k after sets (ap (option_and_then stable_of) same)) i;
    pending = part_same pending_of es fs rising rises (same_part pending_of es fs k after sets (ap (option_and_then pending_of) same)) i;
  }

  -- a put that was applied
  pub applied_view : (epoch time : ℕ) (value : Option Value) → option_and_then stable_of after ≡ option_and_then stable_of (kept_at es k) → option_and_then pending_of after ≡ Some (time, value)
      → view_of epoch fs ≡ record (view_of epoch es) { pending = insert (view_of epoch es).pending k (time, value) }
  applied_view epoch time value stable pending i = record {
    epoch = epoch;
    stable = part_same stable_of es fs rising rises (same_part stable_of es fs k after sets stable) i;
    pending = part_put pending_of es fs k (time, value) rising rises (set_part pending_of es fs k after (Some (time, value)) sets pending) i;
  }

  stable_map : (value : Option Value) → option_and_then stable_of after ≡ value → from_entries {R = key_cmp} (part_of stable_of fs) ≡ write_at (from_entries (part_of stable_of es)) k value
  stable_map None stable = part_taken stable_of es fs k rising rises (set_part stable_of es fs k after None sets stable)
  stable_map (Some value) stable = part_put stable_of es fs k value rising rises (set_part stable_of es fs k after (Some value) sets stable)

  pub loaded_view : (value : Option Value) → option_and_then stable_of after ≡ value → option_and_then pending_of after ≡ option_and_then pending_of (kept_at es k)
      → (epoch : ℕ) → view_of epoch fs ≡ record (view_of epoch es) { stable = write_at (view_of epoch es).stable k value }
  loaded_view value stable pending epoch i = record {
    epoch = epoch;
    stable = stable_map value stable i;
    pending = part_same pending_of es fs rising rises (same_part pending_of es fs k after sets pending) i;
  }

no_pending : (o : Option (ℕ × Option Value)) → is_some o ≡ false → None ≡ o
no_pending None h = refl
no_pending (Some p) h = cc

-- a row in which nothing stands is taken out
pub dropped_view : (es fs : List (RowKey × Kept)) (rising : IsRising es) (rises : IsRising fs) (k : RowKey) (value : Option Value) → Sets es fs k None
    → value ≡ None → is_some (option_and_then pending_of (kept_at es k)) ≡ false → (epoch : ℕ) → view_of epoch fs ≡ record (view_of epoch es) { stable = write_at (view_of epoch es).stable k value }
dropped_view es fs rising rises k value sets none pends = loaded_view es fs rising rises k None sets value (sym none) (no_pending _ pends)

-- a row is made for a stable value
pub added_view : {T E : Type 0} (r : Result T E) (es fs : List (RowKey × Kept)) (rising : IsRising es) (rises : IsRising fs) (k : RowKey) (value : Option Value) → kept_at es k ≡ None
    → OnOk r (Sets es fs k (Some (record { stable = value; pending = None }))) → OnOk r ((epoch : ℕ) → view_of epoch fs ≡ record (view_of epoch es) { stable = write_at (view_of epoch es).stable k value })
added_view (Ok x) es fs rising rises k value none sets = loaded_view es fs rising rises k _ sets value refl (sym (ap (option_and_then pending_of) none))
added_view (Err e) es fs rising rises k value none sets = tt

abbrev pub written : RowKey → Option Value → Write
written k value = record { key = k; value = value }

-- the answer to a put of the current epoch
pub answer_view : (es : List (RowKey × Kept)) (epoch time : ℕ) (write : Write) → IsRising es
    → by_time (option_and_then pending_of (kept_at es write.key)) time ≡ answer_in (view_of epoch es) (Put epoch time write)
answer_view es epoch time write rising =
    ap (λ p. by_time p time) (sym (get_part pending_of es write.key rising))
    ∙ ap (λ b. cond b (by_time (get (from_entries {R = key_cmp} (part_of pending_of es)) write.key) time) (OtherEpoch epoch)) (sym (eq-eqb epoch epoch refl))

pub put_view : (es fs : List (RowKey × Kept)) (rising : IsRising es) (rises : IsRising fs) (epoch time : ℕ) (write : Write) (after : Kept) (answer : CopyAnswer) → Sets es fs write.key (Some after)
    → answer ≡ by_time (option_and_then pending_of (kept_at es write.key)) time
    → option_and_then stable_of (Some after) ≡ option_and_then stable_of (kept_at es write.key)
    → (answer ≡ Applied → after.pending ≡ Some (time, write.value))
    → ((answer ≡ Applied → ⊥) → Some after ≡ kept_at es write.key)
    → view_of epoch fs ≡ after_ask (view_of epoch es) (Put epoch time write)
put_view es fs rising rises epoch time write after answer sets told stable applied same =
    by_answer answer applied same ∙ ap (λ a. left_by a (Put epoch time write) (view_of epoch es)) (told ∙ answer_view es epoch time write rising)
  where
    by_answer : (answer : CopyAnswer) → (answer ≡ Applied → after.pending ≡ Some (time, write.value)) → ((answer ≡ Applied → ⊥) → Some after ≡ kept_at es write.key) → view_of epoch fs ≡ left_by answer (Put epoch time write) (view_of epoch es)
    by_answer Applied applied same = applied_view es fs rising rises write.key (Some after) sets epoch time write.value stable (applied refl)
    by_answer (Older t) applied same = unchanged_view es fs rising rises write.key (Some after) sets epoch (same (λ h. cc))
    by_answer (OtherEpoch t) applied same = unchanged_view es fs rising rises write.key (Some after) sets epoch (same (λ h. cc))

-- a put of a key without a row
pub made_view : (es fs : List (RowKey × Kept)) (rising : IsRising es) (rises : IsRising fs) (epoch time : ℕ) (write : Write) → kept_at es write.key ≡ None
    → Sets es fs write.key (Some (record { stable = None; pending = Some (time, write.value) }))
    → view_of epoch fs ≡ after_ask (view_of epoch es) (Put epoch time write)
made_view es fs rising rises epoch time write none sets =
    applied_view es fs rising rises write.key _ sets epoch time write.value (sym (ap (option_and_then stable_of) none)) refl
    ∙ ap (λ a. left_by a (Put epoch time write) (view_of epoch es)) (ap (λ o. by_time (option_and_then pending_of o) time) (sym none) ∙ answer_view es epoch time write rising)

pub made_answer : (es : List (RowKey × Kept)) (rising : IsRising es) (epoch time : ℕ) (write : Write) → kept_at es write.key ≡ None → Applied ≡ answer_in (view_of epoch es) (Put epoch time write)
made_answer es rising epoch time write none = ap (λ o. by_time (option_and_then pending_of o) time) (sym none) ∙ answer_view es epoch time write rising

-- no row under the key
pub none_there : (es : List (RowKey × Kept)) (k : RowKey) → IsRising es → kept_at es k ≡ None → (epoch : ℕ) → HasNothing (view_of epoch es) k
none_there es k rising h epoch = (get_part stable_of es k rising ∙ ap (option_and_then stable_of) h, get_part pending_of es k rising ∙ ap (option_and_then pending_of) h)

pub on_err_of : {T E P : Type 0} (r : Result T E) → P → OnErr r P
on_err_of (Ok x) h = tt
on_err_of (Err e) h = h

-- ---- an epoch's end

settled_stable : (promotes : Bool) (o : Option Kept) → option_and_then stable_of (settled promotes o) ≡ option_and_then (version_of promotes) o
settled_stable promotes None = refl
settled_stable promotes (Some kept) = elim (version_of promotes kept) as (λ v. option_and_then stable_of (option_map (λ value. rested (Some value)) v) ≡ v) [ None ↦ refl | Some v ↦ refl ]

settled_pending : (promotes : Bool) (o : Option Kept) → option_and_then pending_of (settled promotes o) ≡ None
settled_pending promotes None = refl
settled_pending promotes (Some kept) = elim (version_of promotes kept) as (λ v. option_and_then pending_of (option_map (λ value. rested (Some value)) v) ≡ None) [ None ↦ refl | Some v ↦ refl ]

module _ (promotes : Bool) (es fs : List (RowKey × Kept)) (rising : IsRising es) (rises : IsRising fs) (rows : (q : RowKey) → kept_at fs q ≡ settled promotes (kept_at es q)) where
  pub nothing_pends : from_entries {R = key_cmp} (part_of pending_of fs) ≡ empty
  nothing_pends = same_keyed _ _ (λ q. get_part pending_of fs q rises ∙ ap (option_and_then pending_of) (rows q) ∙ settled_pending promotes (kept_at es q) ∙ sym (get-empty key_cmp q))

  pub version_at : (q : RowKey) → get (from_entries {R = key_cmp} (part_of stable_of fs)) q ≡ option_and_then (version_of promotes) (kept_at es q)
  version_at q = get_part stable_of fs q rises ∙ ap (option_and_then stable_of) (rows q) ∙ settled_stable promotes (kept_at es q)

pub reverted_view : (epoch : ℕ) (es fs : List (RowKey × Kept)) → IsRising es → IsRising fs → ((q : RowKey) → kept_at fs q ≡ settled false (kept_at es q)) → view_of epoch fs ≡ begun epoch (from_entries (part_of stable_of es))
reverted_view epoch es fs rising rises rows i = record {
  epoch = epoch;
  stable = same_keyed _ _ (λ q. version_at false es fs rising rises rows q ∙ sym (get_part stable_of es q rising)) i;
  pending = nothing_pends false es fs rising rises rows i;
}

pub promoted_view : (epoch : ℕ) (es fs : List (RowKey × Kept)) → IsRising es → IsRising fs → ((q : RowKey) → kept_at fs q ≡ settled true (kept_at es q)) → (q : RowKey) → get (from_entries {R = key_cmp} (part_of stable_of fs)) q ≡ promoted_at (view_of epoch es) q
promoted_view epoch es fs rising rises rows q =
    version_at true es fs rising rises rows q ∙ by_row (kept_at es q)
    ∙ ap (λ p. unwrap_or (option_map (λ p. p.1) p) (option_and_then stable_of (kept_at es q))) (sym (get_part pending_of es q rising))
    ∙ ap (λ v. unwrap_or (option_map (λ p. p.1) (get (view_of epoch es).pending q)) v) (sym (get_part stable_of es q rising))
  where
    by_row : (o : Option Kept) → option_and_then (version_of true) o ≡ unwrap_or (option_map (λ p. p.1) (option_and_then pending_of o)) (option_and_then stable_of o)
    by_row None = refl
    by_row (Some kept) = refl
