-- A row along the steps on its key: whose mark stands, and that write times rise.
use Rattle.std.proofs.Common.{◌≡◌, ◌⊎◌, inl, inr, ℕ, ◌<◌, ◌≤◌, ◌==◌, max, Bool, true, false, cond, List, [], ◌∷◌, ◌++◌, Option, None, Some, refl, sym, ap, ◌∙◌, subst, arith}
use Rattle.std.specs.Option.{unwrap_or}
use Rattle.coco_types.specs.RowKey.{RowKey}
use Rattle.coco_types.specs.declared.value.Value.{Value}
use Rattle.coco_types.specs.declared.call.AttemptId.{AttemptId}
use Rattle.coco_shard.specs.declared.ops.Op.{Op}
use Rattle.coco_shard.specs.declared.ops.Op.TheVariants.{Read, Lock, Extend, Install, Release, Past}
use Rattle.coco_shard.specs.declared.ops.Answer.{Answer}
use Rattle.coco_shard.specs.declared.ops.Answer.TheVariants.{Got, Locked, Marked, Changed, Extended, Installed, Released, NotMine, Stood}
use Rattle.coco_shard.specs.RowState.{RowState}
use Rattle.coco_shard.specs.Table.{answer_at, left_by, is_mark_of, unless_marked, where_mine, extended, installed}
use Rattle.coco_shard.specs.Law.{Entry}
use Rattle.coco_order.specs.OneKey.{Among, is_attempt, own, left, walk, AreTold, Shown, holds_after, May, Installs, IsMine}
use Rattle.coco_order.proofs.Attempts.{one_attempt, attempt_itself, by_bool, not_both, none_some, same_some, and_both}

-- ---- what stands of each attempt

abbrev pub Holds : Type 0
Holds = AttemptId → Shown

abbrev pub Stands : RowState → AttemptId → Shown → Type 0
Stands row a None = is_mark_of a row.mark ≡ false
Stands row a (Some shown) = (is_mark_of a row.mark ≡ true) × (row.wts ≡ shown.0) × (row.rts ≡ shown.1)

abbrev pub holds_next : AttemptId → Op → Answer → Holds → Holds
holds_next by op answer h a = cond (is_attempt by a) (holds_after (h a) op answer) (h a)

one_mark : (mark : Option AttemptId) (by a : AttemptId) → is_mark_of by mark ≡ true → is_mark_of a mark ≡ true → by ≡ a
one_mark None by a f g = let h : false ≡ true = f in cc
one_mark (Some holder) by a f g = sym (one_attempt holder by f) ∙ one_attempt holder a g

no_mark : (mark : Option AttemptId) (by : AttemptId) → is_mark_of by mark ≡ false → ((mark ≡ None) ⊎ (is_mark_of by mark ≡ true)) → mark ≡ None
no_mark mark by f (inl e) = e
no_mark mark by f (inr t) = absurd (not_both (is_mark_of by mark) t f)

held_none : (row : RowState) (a : AttemptId) (x : Shown) → x ≡ None → Stands row a x → is_mark_of a row.mark ≡ false
held_none row a None e s = s
held_none row a (Some p) e s = absurd (none_some (sym e))

pub held_some : (row : RowState) (a : AttemptId) (x : Shown) (p : ℕ × ℕ) → x ≡ Some p → Stands row a x → (is_mark_of a row.mark ≡ true) × (row.wts ≡ p.0) × (row.rts ≡ p.1)
held_some row a x p e s = let t : Stands row a (Some p) = subst (λ (y : Shown). Stands row a y) e s in t

unmarked : (row : RowState) (a : AttemptId) (x : Shown) → row.mark ≡ None → Stands row a x → x ≡ None
unmarked row a None e s = refl
unmarked row a (Some p) e s = let f : is_mark_of a None ≡ true = subst (λ (m : Option AttemptId). is_mark_of a m ≡ true) e s.0 in let g : false ≡ true = f in cc

stands_none : (row : RowState) (a : AttemptId) (x : Shown) → x ≡ None → is_mark_of a row.mark ≡ false → Stands row a x
stands_none row a x e f = subst (λ (y : Shown). Stands row a y) (sym e) f

unless_split : (P : Answer → Type 0) (mark : Option AttemptId) (by : AttemptId) (answer : Answer) → (((mark ≡ None) ⊎ (is_mark_of by mark ≡ true)) → P answer) → ((holder : AttemptId) → P (Marked holder)) → P (unless_marked mark by answer)
unless_split P None by answer free marked = free (inl refl)
unless_split P (Some holder) by answer free marked = by_bool (λ b. P (cond b answer (Marked holder))) (is_mark_of by (Some holder)) (λ t. free (inr t)) (λ _. marked holder)

mine_is : (mark : Option AttemptId) (by : AttemptId) (answer : Answer) → is_mark_of by mark ≡ true → where_mine mark by answer ≡ answer
mine_is mark by answer t = ap (λ b. cond b answer (NotMine mark)) t

-- ---- one step

abbrev pub InstallsBy : Op → Answer → ℕ → Option Value → Type 0
InstallsBy op answer time value = (key : RowKey) × (op ≡ Install key time value) × (answer ≡ Installed)

abbrev pub after : Answer → AttemptId → Op → RowState → RowState
after answer by op row = unwrap_or (left_by answer by op row) row

-- a step installs, at a time above all before, or leaves the version
pub record Wrote (row next : RowState) (op : Op) (answer : Answer) : Type 0 where
  pub time : ℕ
  pub value : Option Value
  pub installs : InstallsBy op answer time value
  pub above : row.rts < time
  pub is : next ≡ installed time value row

pub record Kept (row next : RowState) (op : Op) (answer : Answer) : Type 0 where
  pub no : (t : ℕ) (v : Option Value) → InstallsBy op answer t v → ⊥
  pub wts : next.wts ≡ row.wts
  pub newest : next.newest ≡ row.newest
  pub stable : next.stable ≡ row.stable
  pub rts : row.rts ≤ next.rts

pub record Step (row : RowState) (h : Holds) (by : AttemptId) (op : Op) (answer : Answer) : Type 0 where
  pub stands : (a : AttemptId) → Stands (after answer by op row) a (holds_next by op answer h a)
  pub is : Wrote row (after answer by op row) op answer ⊎ Kept row (after answer by op row) op answer
  pub mine : IsMine op answer

same_held : (row : RowState) (b : Bool) (a : AttemptId) (x : Shown) → Stands row a x → Stands row a (cond b x x)
same_held row true a x s = s
same_held row false a x s = s

kept_row : (row : RowState) (op : Op) (answer : Answer) → ((t : ℕ) (v : Option Value) → InstallsBy op answer t v → ⊥) → Kept row row op answer
kept_row row op answer never = record { no = never; wts = refl; newest = refl; stable = refl; rts = omega arith }

module _ (row : RowState) (h : Holds) (by : AttemptId) (all : (a : AttemptId) → Stands row a (h a)) where
  free : h by ≡ None → ((row.mark ≡ None) ⊎ (is_mark_of by row.mark ≡ true)) → row.mark ≡ None
  free none which = no_mark row.mark by (held_none row by (h by) none (all by)) which

  read_step : (key : RowKey) → Step row h by (Read key) (answer_at row by (Read key))
  read_step key = record {
    stands = λ a. same_held row (is_attempt by a) a (h a) (all a);
    is = inr (kept_row row (Read key) (Got row.wts row.rts row.newest) (λ t v i. (let e : Read key ≡ Install i.0 t v = i.1 in cc)));
    mine = tt;
  }

  past_step : (key : RowKey) → Step row h by (Past key) (answer_at row by (Past key))
  past_step key = record {
    stands = λ a. same_held row (is_attempt by a) a (h a) (all a);
    is = inr (kept_row row (Past key) (Stood row.stable) (λ t v i. (let e : Past key ≡ Install i.0 t v = i.1 in cc)));
    mine = tt;
  }

  locked_stands : (key : RowKey) → row.mark ≡ None → (a : AttemptId) → Stands (record row { mark = Some by }) a (holds_next by (Lock key) (Locked row.wts row.rts) h a)
  locked_stands key clear a =
      by_bool (λ b. Stands (record row { mark = Some by }) a (cond b (Some (row.wts, row.rts)) (h a))) (is_attempt by a)
      (λ t. (t, refl, refl))
      (λ f. stands_none (record row { mark = Some by }) a (h a) (unmarked row a (h a) clear (all a)) f)

  lock_step : (key : RowKey) → May (h by) (Lock key) (answer_at row by (Lock key)) → Step row h by (Lock key) (answer_at row by (Lock key))
  lock_step key =
      unless_split (λ answer. May (h by) (Lock key) answer → Step row h by (Lock key) answer) row.mark by (Locked row.wts row.rts)
      (λ which none. record {
        stands = locked_stands key (free none which);
        is = inr (record { no = λ t v i. (let e : Lock key ≡ Install i.0 t v = i.1 in cc); wts = refl; newest = refl; stable = refl; rts = omega arith });
        mine = tt;
      })
      (λ holder _. record {
        stands = λ a. same_held row (is_attempt by a) a (h a) (all a);
        is = inr (kept_row row (Lock key) (Marked holder) (λ t v i. (let e : Lock key ≡ Install i.0 t v = i.1 in cc)));
        mine = tt;
      })

  extend_kept : (key : RowKey) (wts time : ℕ) (answer : Answer) → after answer by (Extend key wts time) row ≡ row → Step row h by (Extend key wts time) answer
  extend_kept key wts time answer same =
      let never : (t : ℕ) (v : Option Value) → InstallsBy (Extend key wts time) answer t v → ⊥ = λ t v i. (let e : Extend key wts time ≡ Install i.0 t v = i.1 in cc) in
      record {
        stands = λ a. subst (λ (r : RowState). Stands r a (cond (is_attempt by a) (h a) (h a))) (sym same) (same_held row (is_attempt by a) a (h a) (all a));
        is = inr (subst (λ (r : RowState). Kept row r (Extend key wts time) answer) (sym same) (kept_row row (Extend key wts time) answer never));
        mine = tt;
      }

  extend_step : (key : RowKey) (wts time : ℕ) → h by ≡ None → Step row h by (Extend key wts time) (answer_at row by (Extend key wts time))
  extend_step key wts time none =
      by_bool (λ b. Step row h by (Extend key wts time) (cond b (unless_marked row.mark by Extended) (Changed row.wts))) (row.wts == wts)
      (λ _. unless_split (λ answer. Step row h by (Extend key wts time) answer) row.mark by Extended
      (λ which.
      let clear : row.mark ≡ None = free none which in
      record {
        stands = λ a. same_held (extended time row) (is_attempt by a) a (h a)
            (stands_none (extended time row) a (h a) (unmarked row a (h a) clear (all a)) (ap (is_mark_of a) clear));
        is = inr (record { no = λ t v i. (let e : Extend key wts time ≡ Install i.0 t v = i.1 in cc); wts = refl; newest = refl; stable = refl; rts = omega arith });
        mine = tt;
      })
      (λ holder. extend_kept key wts time (Marked holder) refl))
      (λ _. extend_kept key wts time (Changed row.wts) refl)

  cleared : (next : RowState) → next.mark ≡ None → (p : ℕ × ℕ) → h by ≡ Some p → (a : AttemptId) → Stands next a (cond (is_attempt by a) None (h a))
  cleared next clear p some a =
      by_bool (λ b. Stands next a (cond b None (h a))) (is_attempt by a)
      (λ t. ap (is_mark_of a) clear)
      (λ f. stands_none next a (h a) (other (h a) (all a) f) (ap (is_mark_of a) clear))
    where
      other : (x : Shown) → Stands row a x → is_attempt by a ≡ false → x ≡ None
      other None s f = refl
      other (Some q) s f =
          let same : by ≡ a = one_mark row.mark by a (held_some row by (h by) p some (all by)).0 s.0 in
          absurd (not_both (is_attempt by a) (subst (λ (c : AttemptId). is_attempt by c ≡ true) same (attempt_itself by)) f)

  install_step : (key : RowKey) (time : ℕ) (value : Option Value) → May (h by) (Install key time value) Installed → Step row h by (Install key time value) (answer_at row by (Install key time value))
  install_step key time value may =
      let stood = held_some row by (h by) may.0 may.1 (all by) in
      let is : where_mine row.mark by Installed ≡ Installed = mine_is row.mark by Installed stood.0 in
      let above : row.rts < time = omega (arith, stood.2, may.2) in
      subst (λ (answer : Answer). Step row h by (Install key time value) answer) (sym is) (record {
        stands = cleared (installed time value row) refl may.0 may.1;
        is = inl (record { time = time; value = value; installs = (key, refl, refl); above = above; is = refl });
        mine = refl;
      })

  release_step : (key : RowKey) → May (h by) (Release key) Released → Step row h by (Release key) (answer_at row by (Release key))
  release_step key may =
      let stood = held_some row by (h by) may.0 may.1 (all by) in
      let is : where_mine row.mark by Released ≡ Released = mine_is row.mark by Released stood.0 in
      subst (λ (answer : Answer). Step row h by (Release key) answer) (sym is) (record {
        stands = cleared (record row { mark = None }) refl may.0 may.1;
        is = inr (record { no = λ t v i. (let e : Release key ≡ Install i.0 t v = i.1 in cc); wts = refl; newest = refl; stable = refl; rts = omega arith });
        mine = refl;
      })

  step_at : (op : Op) → May (h by) op (answer_at row by op) → Step row h by op (answer_at row by op)
  step_at (Read key) may = read_step key
  step_at (Lock key) may = lock_step key may
  step_at (Extend key wts time) may = extend_step key wts time may
  step_at (Install key time value) may = install_step key time value may
  step_at (Release key) may = release_step key may
  step_at (Past key) may = past_step key

  pub step_is : (op : Op) (answer : Answer) → answer ≡ answer_at row by op → May (h by) op answer → Step row h by op answer
  step_is op answer told may = subst (λ (x : Answer). Step row h by op x) (sym told) (step_at op (subst (λ (x : Answer). May (h by) op x) told may))
