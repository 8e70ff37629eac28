-- A shard's entries, and the state that contracts see.
use Rattle.std.proofs.Common.{◌≡◌, ℕ, Bool, true, false, cond, ◌==◌, List, [], ◌∷◌, ◌⊎◌, inl, inr, Option, None, Some, refl, sym, ap, ◌∙◌, map, OnOk, OnErr, IsErr, Result, Ok, Err}
use Rattle.std.specs.Option.{option_map, unwrap_or, is_some}
use Rattle.std.specs.Map.{lookup, set_value}
use Rattle.std.specs.BTreeMap.{is_at}
use Rattle.std.specs.FinMap.{get, insert, remove}
use Rattle.coco_types.specs.RowKey.{RowKey, key_cmp}
use Rattle.coco_rows.specs.declared.Row.{Row}
use Rattle.coco_rows.proofs.Parts.{set_at}
use Rattle.coco_types.specs.declared.call.AttemptId.{AttemptId}
use Rattle.coco_types.specs.declared.error.NoMemory.{NoMemory}
use Rattle.coco_shard.specs.declared.ops.Ask.{Ask}
use Rattle.coco_shard.specs.declared.ops.Op.{Op}
use Rattle.coco_shard.specs.declared.ops.Op.TheVariants.{Read, Lock, Extend, Install, Release, Past}
use Rattle.coco_shard.specs.declared.ops.Answer.{Answer}
use Rattle.coco_shard.specs.declared.ops.Answer.TheVariants.{Got, Locked, Marked, Changed, Extended, Installed, Released, NotMine, Stood}
use Rattle.coco_shard.specs.Memory.{is_lock}
use Rattle.coco_shard.specs.RowState.{RowState, resting, row_at, with_row}
use Rattle.coco_shard.specs.Table.{answer_in, answer_at, after_ask, left_by, key_of, leaves_row, may_make_row}
use Rattle.coco_shard.specs.Kept.{Acts, Changes, Follows, state_of, kept_at, shown, view_of}
use Rattle.coco_types.proofs.Keys.{is_key, one_key}
use Rattle.coco_types.proofs.KeyMaps.{get_key, get_put, get_taken, same_keyed}

-- what a row says, where there is one
abbrev pub state_in : Option Row → Option RowState
state_in kept = option_map state_of kept

shown_at : (es : List (RowKey × Row)) (q : RowKey) → lookup (is_at (key_cmp q)) (map shown es) ≡ state_in (kept_at es q)
shown_at [] q = refl
shown_at (e ∷ es) q =
    elim (is_at (key_cmp q) e.0) as (λ b. cond b (Some (state_of e.1)) (lookup (is_at (key_cmp q)) (map shown es)) ≡ state_in (cond b (Some e.1) (kept_at es q))) [
      | true ↦ refl
      | false ↦ shown_at es q
    ]

pub get_view : (es : List (RowKey × Row)) (q : RowKey) → get (view_of es) q ≡ state_in (kept_at es q)
get_view es q = get_key (map shown es) q ∙ shown_at es q

pub same_view : (es fs : List (RowKey × Row)) → ((q : RowKey) → state_in (kept_at fs q) ≡ state_in (kept_at es q)) → view_of fs ≡ view_of es
same_view es fs h = same_keyed _ _ (λ q. get_view fs q ∙ h q ∙ sym (get_view es q))

pub written_view : (es fs : List (RowKey × Row)) (k : RowKey) (row : RowState) → ((q : RowKey) → state_in (kept_at fs q) ≡ cond (is_key k q) (Some row) (state_in (kept_at es q))) → view_of fs ≡ insert (view_of es) k row
written_view es fs k row h = same_keyed _ _ (λ q. get_view fs q ∙ h q ∙ ap (cond (is_key k q) (Some row)) (sym (get_view es q)) ∙ sym (get_put (view_of es) k row q))

-- what the state says of the row of a key
pub row_in : (es : List (RowKey × Row)) (k : RowKey) (kept : Row) → kept_at es k ≡ Some kept → row_at (view_of es) k ≡ state_of kept
row_in es k kept is = ap (λ o. unwrap_or o (resting None)) (get_view es k ∙ ap state_in is)

pub no_row_in : (es : List (RowKey × Row)) (k : RowKey) → kept_at es k ≡ None → row_at (view_of es) k ≡ resting None
no_row_in es k none = ap (λ o. unwrap_or o (resting None)) (get_view es k ∙ ap state_in none)

-- the state after the row of a key is put back
pub put_back_view : (es : List (RowKey × Row)) (k : RowKey) (before after : Row) (left : Option RowState) → kept_at es k ≡ Some before → state_of after ≡ unwrap_or left (state_of before)
    → view_of (set_value (is_at (key_cmp k)) es after) ≡ with_row (view_of es) k left
put_back_view es k before after None was is = same_view es (set_value (is_at (key_cmp k)) es after) (λ q.
    ap state_in (set_at es k before after q was) ∙ elim (is_key k q) as (λ b. is_key k q ≡ b → state_in (cond b (Some after) (kept_at es q)) ≡ state_in (kept_at es q)) [
      | true ↦ λ t. ap Some is ∙ sym (ap state_in was) ∙ ap (λ z. state_in (kept_at es z)) (one_key k q t)
      | false ↦ λ _. refl
    ] refl)
put_back_view es k before after (Some row) was is = written_view es (set_value (is_at (key_cmp k)) es after) k row (λ q.
    ap state_in (set_at es k before after q was) ∙ elim (is_key k q) as (λ b. state_in (cond b (Some after) (kept_at es q)) ≡ cond b (Some row) (state_in (kept_at es q))) [
      | true ↦ ap Some is
      | false ↦ refl
    ])

-- an ask on a key that has a row
pub acted_answer : (es : List (RowKey × Row)) (ask : Ask) (answer : Answer) (before : Row) (row : Row) → kept_at es (key_of ask.op) ≡ Some before → Follows before row ask.by ask.op answer → answer ≡ answer_in (view_of es) ask
acted_answer es ask answer before row was did = did.told ∙ ap (λ row. answer_at row ask.by ask.op) (sym (row_in es (key_of ask.op) before was))

pub acted_view : (es : List (RowKey × Row)) (ask : Ask) (answer : Answer) (before after : Row) (row : Row) → kept_at es (key_of ask.op) ≡ Some before → state_of after ≡ state_of row → Follows before row ask.by ask.op answer
    → view_of (set_value (is_at (key_cmp (key_of ask.op))) es after) ≡ after_ask (view_of es) ask
acted_view es ask answer before after row was same did =
    put_back_view es (key_of ask.op) before after _ was (same ∙ did.left)
    ∙ ap (λ answer. with_row (view_of es) (key_of ask.op) (left_by answer ask.by ask.op (state_of before))) did.told
    ∙ ap (λ row. with_row (view_of es) (key_of ask.op) (left_by (answer_at row ask.by ask.op) ask.by ask.op row)) (sym (row_in es (key_of ask.op) before was))

-- a read of a key that has a row
pub read_answer : (es : List (RowKey × Row)) (ask : Ask) (key : RowKey) (kept : Row) → ask.op ≡ Read key → kept_at es (key_of ask.op) ≡ Some kept → answer_at (state_of kept) ask.by (Read key) ≡ answer_in (view_of es) ask
read_answer es ask key kept is was =
    ap (λ row. answer_at row ask.by (Read key)) (sym (row_in es (key_of ask.op) kept was)) ∙ ap (answer_at (row_at (view_of es) (key_of ask.op)) ask.by) (sym is)

pub read_view : (es : List (RowKey × Row)) (ask : Ask) (key : RowKey) (kept : Row) → ask.op ≡ Read key → kept_at es (key_of ask.op) ≡ Some kept → view_of es ≡ after_ask (view_of es) ask
read_view es ask key kept is was =
    let k = key_of ask.op in
    let row = row_at (view_of es) k in
    written_view es es k (state_of kept) (λ q. elim (is_key k q) as (λ b. is_key k q ≡ b → state_in (kept_at es q) ≡ cond b (Some (state_of kept)) (state_in (kept_at es q))) [
      | true ↦ λ t. ap (λ z. state_in (kept_at es z)) (sym (one_key k q t)) ∙ ap state_in was
      | false ↦ λ _. refl
    ] refl)
    ∙ ap (insert (view_of es) k) (sym (row_in es k kept was))
    ∙ ap (λ op. with_row (view_of es) k (left_by (answer_at row ask.by op) ask.by op row)) (sym is)

-- ---- an ask on a key without a row

two_sides : true ≡ false → ⊥
two_sides h = cc

pub nothing_left : (answer : Answer) (by : AttemptId) (op : Op) (row : RowState) → leaves_row answer ≡ false → left_by answer by op row ≡ None
nothing_left (Got wts rts value) by op row h = absurd (two_sides h)
nothing_left (Locked wts rts) by op row h = absurd (two_sides h)
nothing_left Extended by op row h = absurd (two_sides h)
nothing_left Installed by op row h = absurd (two_sides h)
nothing_left Released by op row h = absurd (two_sides h)
nothing_left (Marked holder) by op row h = refl
nothing_left (Changed wts) by op row h = refl
nothing_left (NotMine mark) by op row h = refl
nothing_left (Stood value) by op row h = refl

extend_made : (same : Bool) (key : RowKey) (wts time : ℕ) (by : AttemptId) → let answer = cond same Extended (Changed 0) in leaves_row answer ≡ true → is_some (left_by answer by (Extend key wts time) (resting None)) ≡ true
extend_made true key wts time by h = refl
extend_made false key wts time by h = h

-- the answer that leaves a row, at a row without a value, makes it
pub row_made : (by : AttemptId) (op : Op) → let answer = answer_at (resting None) by op in leaves_row answer ≡ true → is_some (left_by answer by op (resting None)) ≡ true
row_made by (Read key) h = refl
row_made by (Lock key) h = refl
row_made by (Extend key wts time) h = extend_made (0 == wts) key wts time by h
row_made by (Install key time value) h = h
row_made by (Release key) h = h
row_made by (Past key) h = h

pub added_view : (es fs : List (RowKey × Row)) (k : RowKey) (kept : Row) → ((q : RowKey) → kept_at fs q ≡ cond (is_key k q) (Some kept) (kept_at es q)) → view_of fs ≡ insert (view_of es) k (state_of kept)
added_view es fs k kept at = written_view es fs k (state_of kept) (λ q. ap state_in (at q) ∙ elim (is_key k q) as (λ b. state_in (cond b (Some kept) (kept_at es q)) ≡ cond b (Some (state_of kept)) (state_in (kept_at es q))) [
  | true ↦ refl
  | false ↦ refl
])

-- the state after an ask on a key without a row, where the row is made
pub made_view : (es fs : List (RowKey × Row)) (ask : Ask) (answer : Answer) (kept : Row)
    → kept_at es (key_of ask.op) ≡ None → answer ≡ answer_at (resting None) ask.by ask.op → leaves_row answer ≡ true
    → state_of kept ≡ unwrap_or (left_by answer ask.by ask.op (resting None)) (resting None)
    → ((q : RowKey) → kept_at fs q ≡ cond (is_key (key_of ask.op) q) (Some kept) (kept_at es q))
    → view_of fs ≡ after_ask (view_of es) ask
made_view es fs ask answer kept none told leaves left at =
    added_view es fs (key_of ask.op) kept at
    ∙ as_left (left_by answer ask.by ask.op (resting None)) (ap (λ a. is_some (left_by a ask.by ask.op (resting None))) told ∙ row_made ask.by ask.op (sym (ap leaves_row told) ∙ leaves)) left
    ∙ ap (λ a. with_row (view_of es) (key_of ask.op) (left_by a ask.by ask.op (resting None))) told
    ∙ ap (λ row. with_row (view_of es) (key_of ask.op) (left_by (answer_at row ask.by ask.op) ask.by ask.op row)) (sym (no_row_in es (key_of ask.op) none))
  where
    as_left : (o : Option RowState) → is_some o ≡ true → state_of kept ≡ unwrap_or o (resting None) → insert (view_of es) (key_of ask.op) (state_of kept) ≡ with_row (view_of es) (key_of ask.op) o
    as_left None h is = absurd (two_sides (sym h))
    as_left (Some row) h is = ap (insert (view_of es) (key_of ask.op)) is

-- the same, where no row is made
pub unmade_view : (es : List (RowKey × Row)) (ask : Ask) (answer : Answer)
    → kept_at es (key_of ask.op) ≡ None → answer ≡ answer_at (resting None) ask.by ask.op → leaves_row answer ≡ false
    → view_of es ≡ after_ask (view_of es) ask
unmade_view es ask answer none told leaves =
    ap (with_row (view_of es) (key_of ask.op)) (sym (nothing_left answer ask.by ask.op (resting None) leaves))
    ∙ ap (λ a. with_row (view_of es) (key_of ask.op) (left_by a ask.by ask.op (resting None))) told
    ∙ ap (λ row. with_row (view_of es) (key_of ask.op) (left_by (answer_at row ask.by ask.op) ask.by ask.op row)) (sym (no_row_in es (key_of ask.op) none))

pub missing_answer : (es : List (RowKey × Row)) (ask : Ask) (answer : Answer) → kept_at es (key_of ask.op) ≡ None → answer ≡ answer_at (resting None) ask.by ask.op → answer ≡ answer_in (view_of es) ask
missing_answer es ask answer none told = told ∙ ap (λ row. answer_at row ask.by ask.op) (sym (no_row_in es (key_of ask.op) none))

-- an answer that leaves a row comes of an operation that may make one
pub leaves_made : (by : AttemptId) (op : Op) → leaves_row (answer_at (resting None) by op) ≡ true → may_make_row op ≡ true
leaves_made by (Read key) h = refl
leaves_made by (Lock key) h = refl
leaves_made by (Extend key wts time) h = refl
leaves_made by (Install key time value) h = absurd (two_sides (sym h))
leaves_made by (Release key) h = absurd (two_sides (sym h))
leaves_made by (Past key) h = absurd (two_sides (sym h))

-- an ask that is refused memory
pub acts_refused : {T : Type 0} (es fs : List (RowKey × Row)) (ask : Ask) (answer : Answer) (r : Result T NoMemory) → IsErr r → fs ≡ es → kept_at es (key_of ask.op) ≡ None → may_make_row ask.op ≡ true → Acts es fs ask answer r
acts_refused es fs ask answer (Ok x) is same none makes = absurd (two_sides (sym is))
acts_refused es fs ask answer (Err e) is same none makes = record { answer = tt; state = tt; err = same; missing = inl none; makes = makes }

lock_makes : (op : Op) → is_lock op ≡ true → may_make_row op ≡ true
lock_makes (Read key) h = refl
lock_makes (Lock key) h = refl
lock_makes (Extend key wts time) h = refl
lock_makes (Install key time value) h = absurd (two_sides (sym h))
lock_makes (Release key) h = absurd (two_sides (sym h))
lock_makes (Past key) h = absurd (two_sides (sym h))

-- a lock that is refused its room
pub acts_roomless : {T : Type 0} (es : List (RowKey × Row)) (ask : Ask) (answer : Answer) (r : Result T NoMemory) → IsErr r → is_lock ask.op ≡ true → Acts es es ask answer r
acts_roomless es ask answer (Ok x) is locks = absurd (two_sides (sym is))
acts_roomless es ask answer (Err e) is locks = record { answer = tt; state = tt; err = refl; missing = inr locks; makes = lock_makes ask.op locks }

-- the state after the row of a key is taken away
pub dropped_view : (es fs : List (RowKey × Row)) (k : RowKey) → ((q : RowKey) → kept_at fs q ≡ cond (is_key k q) None (kept_at es q)) → view_of fs ≡ remove (view_of es) k
dropped_view es fs k at = same_keyed _ _ (λ q.
    get_view fs q ∙ ap state_in (at q) ∙ taken (is_key k q) (kept_at es q) ∙ ap (cond (is_key k q) None) (sym (get_view es q)) ∙ sym (get_taken (view_of es) k q))
  where
    taken : (b : Bool) (o : Option Row) → state_in (cond b None o) ≡ cond b None (state_in o)
    taken true o = refl
    taken false o = refl

pub missing_on_err : {T E : Type 0} (r : Result T E) (es : List (RowKey × Row)) (k : RowKey) → OnErr r (kept_at es k ≡ None) → OnErr r (get (view_of es) k ≡ None)
missing_on_err (Ok x) es k h = tt
missing_on_err (Err e) es k h = get_view es k ∙ ap state_in h

pub missing_or_on_err : {T E : Type 0} (P : Type 0) (r : Result T E) (es : List (RowKey × Row)) (k : RowKey) → OnErr r ((kept_at es k ≡ None) ⊎ P) → OnErr r ((get (view_of es) k ≡ None) ⊎ P)
missing_or_on_err P (Ok x) es k h = tt
missing_or_on_err P (Err e) es k (inl none) = inl (get_view es k ∙ ap state_in none)
missing_or_on_err P (Err e) es k (inr other) = inr other

pub said_on_err : {T E P : Type 0} (r : Result T E) → P → OnErr r P
said_on_err (Ok x) says = tt
said_on_err (Err e) says = says

pub added_on_ok : {T E : Type 0} (r : Result T E) (es fs : List (RowKey × Row)) (k : RowKey) (kept : Row) (row : RowState) → state_of kept ≡ row
    → OnOk r ((q : RowKey) → kept_at fs q ≡ cond (is_key k q) (Some kept) (kept_at es q)) → OnOk r (view_of fs ≡ insert (view_of es) k row)
added_on_ok (Ok x) es fs k kept row is at = added_view es fs k kept at ∙ ap (insert (view_of es) k) is
added_on_ok (Err e) es fs k kept row is at = tt

-- ---- a row that is changed, or made where it is missing

pub changed_view : (es : List (RowKey × Row)) (k : RowKey) (before after : Row) (change : RowState → RowState) → kept_at es k ≡ Some before → state_of after ≡ change (state_of before)
    → view_of (set_value (is_at (key_cmp k)) es after) ≡ insert (view_of es) k (change (row_at (view_of es) k))
changed_view es k before after change was is = put_back_view es k before after (Some (change (row_at (view_of es) k))) was (is ∙ ap change (sym (row_in es k before was)))

pub made_changes : {T : Type 0} (r : Result T NoMemory) (es fs : List (RowKey × Row)) (k : RowKey) (kept : Row) (change : RowState → RowState) → kept_at es k ≡ None → state_of kept ≡ change (resting None)
    → OnOk r ((q : RowKey) → kept_at fs q ≡ cond (is_key k q) (Some kept) (kept_at es q)) → OnErr r (fs ≡ es) → Changes es fs k change r
made_changes (Ok x) es fs k kept change none is at same = record { ok = added_view es fs k kept at ∙ ap (insert (view_of es) k) (is ∙ ap change (sym (no_row_in es k none))); err = tt }
made_changes (Err e) es fs k kept change none is at same = record { ok = tt; err = same }
