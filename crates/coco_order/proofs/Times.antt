-- No time is above the number of scripts.
use Rattle.std.proofs.Common.{◌≡◌, ◌⊎◌, inl, inr, ℕ, zero, suc, ◌<◌, ◌≤◌, ◌==◌, max, Bool, true, false, cond, leb, List, [], ◌∷◌, ◌++◌, map, length, get_or, Option, None, Some, refl, sym, ap, ◌∙◌, subst, arith}
use Rattle.std.proofs.lemmas.Bool.{leb-true, leb-false}
use Rattle.std.specs.Option.{option_or, unwrap_or}
use Rattle.std.specs.List.{filter, filter_map, cons_option, AllByRecursion}
use Rattle.coco_types.proofs.Keys.{is_key, key_itself}
use Rattle.coco_types.specs.Limits.{most_time}
use Rattle.coco_types.specs.RowKey.{RowKey}
use Rattle.coco_types.specs.declared.value.Value.{Value}
use Rattle.coco_types.specs.declared.call.AttemptId.{AttemptId}
use Rattle.coco_types.specs.declared.call.Reply.{Reply}
use Rattle.coco_types.specs.declared.call.Write.{Write}
use Rattle.coco_ast.specs.Keyed.{Rows, value_at}
use Rattle.coco_ast.specs.Meaning.{Run, run}
use Rattle.coco_eval.specs.declared.machine.Given.{Given}
use Rattle.coco_shard.specs.declared.ops.Op.{Op}
use Rattle.coco_shard.specs.declared.ops.Op.TheVariants.{Read, Lock, Extend, Install, Release, Past}
use Rattle.coco_shard.specs.declared.ops.Answer.{Answer}
use Rattle.coco_shard.specs.declared.ops.Answer.TheVariants.{Got, Locked, Marked, Changed, Extended, Installed, Released, NotMine, Stood}
use Rattle.coco_shard.specs.RowState.{RowState, resting}
use Rattle.coco_shard.specs.Table.{answer_at, left_by, unless_marked, where_mine, is_mark_of, key_of}
use Rattle.coco_shard.specs.Law.{Entry, greatest}
use Rattle.coco_occ.specs.Exchange.{Exchange, Found, read, shown_by, ops_of}
use Rattle.coco_occ.specs.Script.{IsTry, IsAsked, AskedUpTo, time_of, outcome_of, past}
use Rattle.coco_occ.specs.declared.outcome.Why.{Why}
use Rattle.coco_occ.specs.declared.outcome.Outcome.{Outcome}
use Rattle.coco_occ.specs.declared.outcome.Outcome.TheVariants.{Committed, Conflict, OverTime}
use Rattle.coco_order.specs.OneKey.{Among, own, on, left, walk, Installs}
use Rattle.coco_occ.specs.declared.outcome.Tried.{Tried}
use Rattle.coco_occ.specs.Steps.{taken}
use Rattle.coco_order.specs.Execution.{Beginning, Execution, IsTried, IsExecution, journal_on, transcript_of, concat}
use Rattle.coco_order.specs.Laws.{TimesAreFew}
use Rattle.coco_order.proofs.Attempts.{by_bool, none_some, same_some, Among-append, Among-left, Among-right}
use Rattle.coco_order.proofs.Walking.{Holds, Step, Wrote, Kept}
use Rattle.coco_order.proofs.Chains.{Good, good_at, good_front, good_step, good_next, next_holds, walk_holds, last_written}
use Rattle.coco_order.proofs.OneKey.{nobody, good_start}
use Rattle.coco_order.proofs.Needs.{needs_apart, writes_apart}
use Rattle.coco_order.proofs.Passes.{key_steps, all_among}
use Rattle.coco_order.proofs.Shapes.{keyed}
use Rattle.coco_order.proofs.Tidying.{entry_by, entries, extend_is}
use Rattle.coco_order.proofs.Orderly.{sent, orderly, tried_entries, tried_answered}
use Rattle.coco_order.proofs.Acts.{all_tried, in_transcript}
use Rattle.coco_order.proofs.CommitReads.{own_among, map_among, among_filter, filter_among, script_among, installed_by, among_map}
use Rattle.coco_order.proofs.Commits.{to_concat, outcome_reply}

-- ---- as many numbers as the greatest

record Without (ns : List ℕ) (x : ℕ) : Type 0 where
  rest : List ℕ
  one_less : length ns ≡ suc (length rest)
  others : (m : ℕ) → (m ≡ x → ⊥) → Among ns m → Among rest m

without : (ns : List ℕ) (x : ℕ) → Among ns x → Without ns x
without [] x h = absurd h
without (n ∷ ns) x (inl same) = record { rest = ns; one_less = refl; others = λ m ne h. elim h [ inl e ↦ absurd (ne (sym e ∙ same)) | inr more ↦ more ] }
without (n ∷ ns) x (inr more) =
    let w : Without ns x = without ns x more in
    record { rest = n ∷ w.rest; one_less = ap suc w.one_less; others = λ m ne h. elim h [ inl e ↦ inl e | inr later ↦ inr (w.others m ne later) ] }

enough : (n : ℕ) (ns : List ℕ) → ((m : ℕ) → 1 ≤ m → m ≤ n → Among ns m) → n ≤ length ns
enough zero ns each = omega arith
enough (suc n) ns each =
    let w : Without ns (suc n) = without ns (suc n) (each (suc n) (omega arith) (omega arith)) in
    let rest : n ≤ length w.rest = enough n w.rest (λ m one le. w.others m (λ e. omega arith) (each m one (omega arith))) in
    let less : length ns ≡ suc (length w.rest) = w.one_less in omega arith

all_below : (ns : List ℕ) → ((m : ℕ) → 1 ≤ m → Among ns (suc m) → Among ns m) → (n : ℕ) → Among ns n → (m : ℕ) → 1 ≤ m → m ≤ n → Among ns m
all_below ns down zero h m one le = absurd (omega arith)
all_below ns down (suc n) h m one le = elim (cases m n) [
  | inl lower ↦ all_below ns down n (down n (omega (arith, lower)) h) m one lower
  | inr same ↦ subst (λ (p : ℕ). Among ns p) (sym (upper same)) h
]
  where
    cases : (p q : ℕ) → (p ≤ q) ⊎ (q < p)
    cases p q = grind arith

    upper : n < m → m ≡ suc n
    upper lt = omega arith

-- ---- where a time comes from

greatest_from : (n : ℕ) (ts : List ℕ) → (greatest n ts ≡ n) ⊎ Among ts (greatest n ts)
greatest_from n [] = inl refl
greatest_from n (t ∷ ts) = from (cases t (greatest n ts)) (greatest_from n ts)
  where
    cases : (p q : ℕ) → ((max p q ≡ p)) ⊎ (max p q ≡ q)
    cases p q = grind arith

    from : ((max t (greatest n ts) ≡ t) ⊎ (max t (greatest n ts) ≡ greatest n ts)) → ((greatest n ts ≡ n) ⊎ Among ts (greatest n ts)) → (max t (greatest n ts) ≡ n) ⊎ ((t ≡ max t (greatest n ts)) ⊎ Among ts (max t (greatest n ts)))
    from (inl here) rest = inr (inl (sym here))
    from (inr later) (inl first) = inl (later ∙ first)
    from (inr later) (inr among) = inr (inr (subst (λ (p : ℕ). Among ts p) (sym later) among))

max_of : (p q : ℕ) → (max p q ≡ p) ⊎ (max p q ≡ q)
max_of p q = grind arith

abbrev pub RaisedBy : Op → Answer → ℕ → Type 0
RaisedBy op answer n = ((v : Option Value) × ((key : RowKey) × (op ≡ Install key n v) × (answer ≡ Installed))) ⊎ ((key : RowKey) × (wts : ℕ) × (op ≡ Extend key wts n))

rts_step : (r : RowState) (by : AttemptId) (answer : Answer) (op : Op) → ((unwrap_or (left_by answer by op r) r).rts ≡ r.rts) ⊎ RaisedBy op answer (unwrap_or (left_by answer by op r) r).rts
rts_step r by (Got wts rts value) op = inl refl
rts_step r by (Locked wts rts) op = inl refl
rts_step r by Extended (Extend key wts time) = elim (max_of r.rts time) [ inl e ↦ inl e | inr e ↦ inr (inr (key, wts, ap (λ (n : ℕ). Extend key wts n) (sym e))) ]
rts_step r by Extended op = inl refl
rts_step r by Installed (Install key time value) = inr (inl (value, (key, refl, refl)))
rts_step r by Installed op = inl refl
rts_step r by Released op = inl refl
rts_step r by (Marked holder) op = inl refl
rts_step r by (Changed wts) op = inl refl
rts_step r by (NotMine mark) op = inl refl
rts_step r by (Stood value) op = inl refl

-- a read time is that of the first row, or of an install, or of an extension
pub rts_from : (row : RowState) (es : List Entry) → ((walk row es).rts ≡ row.rts) ⊎ ((e : Entry) × Among es e × RaisedBy e.ask.op e.answer (walk row es).rts)
rts_from row [] = inl refl
rts_from row (d ∷ es) = elim (rts_from (left d row) es) [
  | inr found ↦ inr (found.0, inr found.1, found.2)
  | inl same ↦ elim (rts_step row d.ask.by d.answer d.ask.op) [
    | inl kept ↦ inl (same ∙ kept)
    | inr raised ↦ inr (d, inl refl, subst (λ (p : ℕ). RaisedBy d.ask.op d.answer p) (sym same) raised)
  ]
]

wts_step : (r : RowState) (by : AttemptId) (answer : Answer) (op : Op) → ((unwrap_or (left_by answer by op r) r).wts ≡ r.wts) ⊎ ((v : Option Value) × ((key : RowKey) × (op ≡ Install key (unwrap_or (left_by answer by op r) r).wts v) × (answer ≡ Installed)))
wts_step r by (Got wts rts value) op = inl refl
wts_step r by (Locked wts rts) op = inl refl
wts_step r by Extended (Extend key wts time) = inl refl
wts_step r by Extended op = inl refl
wts_step r by Installed (Install key time value) = inr (value, (key, refl, refl))
wts_step r by Installed op = inl refl
wts_step r by Released op = inl refl
wts_step r by (Marked holder) op = inl refl
wts_step r by (Changed wts) op = inl refl
wts_step r by (NotMine mark) op = inl refl
wts_step r by (Stood value) op = inl refl

-- and a write time is that of the first row, or of an install
wts_from : (row : RowState) (es : List Entry) → ((walk row es).wts ≡ row.wts) ⊎ ((e : Entry) × Among es e × ((v : Option Value) × Installs e (walk row es).wts v))
wts_from row [] = inl refl
wts_from row (d ∷ es) = elim (wts_from (left d row) es) [
  | inr found ↦ inr (found.0, inr found.1, found.2)
  | inl same ↦ elim (wts_step row d.ask.by d.answer d.ask.op) [
    | inl kept ↦ inl (same ∙ kept)
    | inr wrote ↦ inr (d, inl refl, (wrote.0, subst (λ (p : ℕ). Installs d p wrote.0) (sym same) wrote.1))
  ]
]

-- what a lock showed
no_locked : (row : RowState) (by : AttemptId) (answer : Answer) (w n : ℕ) → (Locked w n ≡ answer → ⊥) → ((holder : AttemptId) → Locked w n ≡ Marked holder → ⊥) → (mark : Option AttemptId) → Locked w n ≡ unless_marked mark by answer → ⊥
no_locked row by answer w n free marked None h = free h
no_locked row by answer w n free marked (Some holder) h = by_bool (λ z. Locked w n ≡ cond z answer (Marked holder) → ⊥) (is_mark_of by (Some holder)) (λ _ g. free g) (λ _ g. marked holder g) h

no_mine : (by : AttemptId) (mark : Option AttemptId) (answer : Answer) (w n : ℕ) → (Locked w n ≡ answer → ⊥) → (Locked w n ≡ NotMine mark → ⊥) → Locked w n ≡ where_mine mark by answer → ⊥
no_mine by mark answer w n free other h = by_bool (λ z. Locked w n ≡ cond z answer (NotMine mark) → ⊥) (is_mark_of by mark) (λ _ g. free g) (λ _ g. other g) h

marked_apart : (w n : ℕ) (holder : AttemptId) → Locked w n ≡ Marked holder → ⊥
marked_apart w n holder h = cc

not_mine_apart : (w n : ℕ) (mark : Option AttemptId) → Locked w n ≡ NotMine mark → ⊥
not_mine_apart w n mark h = cc

extended_apart : (w n : ℕ) → Locked w n ≡ Extended → ⊥
extended_apart w n h = cc

changed_apart : (w n m : ℕ) → Locked w n ≡ Changed m → ⊥
changed_apart w n m h = cc

installed_apart : (w n : ℕ) → Locked w n ≡ Installed → ⊥
installed_apart w n h = cc

released_apart : (w n : ℕ) → Locked w n ≡ Released → ⊥
released_apart w n h = cc

locked_told : (row : RowState) (by : AttemptId) (op : Op) (w n : ℕ) → Locked w n ≡ answer_at row by op → row.rts ≡ n
locked_told row by (Read key) w n h = absurd (apart h)
  where
    apart : Locked w n ≡ Got row.wts row.rts row.newest → ⊥
    apart g = cc
locked_told row by (Lock key) w n h = from row.mark h
  where
    same : Locked w n ≡ Locked row.wts row.rts → row.rts ≡ n
    same g = let e : n ≡ row.rts = cc in sym e

    from : (mark : Option AttemptId) → Locked w n ≡ unless_marked mark by (Locked row.wts row.rts) → row.rts ≡ n
    from None g = same g
    from (Some holder) g = by_bool (λ z. Locked w n ≡ cond z (Locked row.wts row.rts) (Marked holder) → row.rts ≡ n) (is_mark_of by (Some holder)) (λ _ f. same f) (λ _ f. absurd (marked_apart w n holder f)) g
locked_told row by (Extend key wts time) w n h =
    by_bool (λ z. Locked w n ≡ cond z (unless_marked row.mark by Extended) (Changed row.wts) → row.rts ≡ n) (row.wts == wts)
    (λ _ g. absurd (no_locked row by Extended w n (extended_apart w n) (marked_apart w n) row.mark g)) (λ _ g. absurd (changed_apart w n row.wts g)) h
locked_told row by (Install key time value) w n h = absurd (no_mine by row.mark Installed w n (installed_apart w n) (not_mine_apart w n row.mark) h)
locked_told row by (Release key) w n h = absurd (no_mine by row.mark Released w n (released_apart w n) (not_mine_apart w n row.mark) h)
locked_told row by (Past key) w n h = absurd (apart h)
  where
    apart : Locked w n ≡ Stood row.stable → ⊥
    apart g = cc

among_split : (es : List Entry) (e : Entry) → Among es e → (pre : List Entry) × (post : List Entry) × (es ≡ pre ++ e ∷ post)
among_split [] e h = absurd h
among_split (d ∷ es) e (inl same) = ([], es, ap (λ (y : Entry). y ∷ es) same)
among_split (d ∷ es) e (inr more) = let rest = among_split es e more in (d ∷ rest.0, rest.1, ap (λ (ys : List Entry). d ∷ ys) rest.2)

filter_map_among : {X Y : Type 0} (f : X → Option Y) (xs : List X) (y : Y) → Among (filter_map f xs) y → (x : X) × Among xs x × (f x ≡ Some y)
filter_map_among f [] y h = absurd h
filter_map_among f (x ∷ xs) y h = from (f x) refl h (filter_map_among f xs y)
  where
    from : (o : Option _) → f x ≡ o → Among (cons_option o (filter_map f xs)) y → (Among (filter_map f xs) y → (z : _) × Among xs z × (f z ≡ Some y)) → (z : _) × Among (x ∷ xs) z × (f z ≡ Some y)
    from None is g rest = let found = rest g in (found.0, inr found.1, found.2)
    from (Some u) is (inl same) rest = (x, inl refl, is ∙ ap Some same)
    from (Some u) is (inr more) rest = let found = rest more in (found.0, inr found.1, found.2)

-- ---- the times of scripts

abbrev course_time : (snapshot : Bool) (r : Run) (m : Rows) (asked : List Exchange) (outcome : Outcome) → IsAsked snapshot r m asked outcome → ℕ
course_time true r m asked outcome s = 0
course_time false r m asked outcome s = time_of s.reads s.locks

module _ (b : Beginning) where
  abbrev time_by : (t : Tried) → IsTried b t → ℕ
  time_by t tried = course_time tried.request.call.snapshot (run b.procs tried.request.call tried.script.rows) tried.script.rows tried.script.asked t.outcome tried.script.course

  abbrev times : (ts : List Tried) → AllByRecursion (IsTried b) ts → List ℕ
  times [] all = []
  times (t ∷ ts) all = time_by t all.0 ∷ times ts all.1

  times_count : (ts : List Tried) (all : AllByRecursion (IsTried b) ts) → length (times ts all) ≡ length ts
  times_count [] all = refl
  times_count (t ∷ ts) all = ap suc (times_count ts all.1)

  time_from : (ts : List Tried) (all : AllByRecursion (IsTried b) ts) (n : ℕ) → Among (times ts all) n → (t : Tried) × Among ts t × (tried : IsTried b t) × (time_by t tried ≡ n)
  time_from [] all n h = absurd h
  time_from (t ∷ ts) all n (inl same) = (t, inl refl, all.0, same)
  time_from (t ∷ ts) all n (inr more) = let rest = time_from ts all.1 n more in (rest.0, inr rest.1, rest.2, rest.3)

  time_to : (ts : List Tried) (all : AllByRecursion (IsTried b) ts) (t : Tried) → Among ts t → (tried : IsTried b t) × Among (times ts all) (time_by t tried)
  time_to [] all t h = absurd h
  time_to (u ∷ ts) all t (inl same) = subst (λ (v : Tried). (tried : IsTried b v) × Among (times (u ∷ ts) all) (time_by v tried)) same (all.0, inl refl)
  time_to (u ∷ ts) all t (inr more) = let rest = time_to ts all.1 t more in (rest.0, inr rest.1)

  commit_time : (t : Tried) (tried : IsTried b t) (n : ℕ) (reply : Reply) → t.outcome ≡ Committed n reply → time_by t tried ≡ n
  commit_time t tried n reply out = from tried.request.call.snapshot tried.script.course
    where
      from : (snapshot : Bool) (s : IsAsked snapshot (run b.procs tried.request.call tried.script.rows) tried.script.rows tried.script.asked t.outcome)
          → course_time snapshot (run b.procs tried.request.call tried.script.rows) tried.script.rows tried.script.asked t.outcome s ≡ n
      from true s = let both : Committed 0 (run b.procs tried.request.call tried.script.rows).reply ≡ Committed n reply = sym s.outcome_is ∙ out in let now : 0 ≡ n = cc in now
      from false s = (outcome_reply _ _ _ n reply (sym s.outcome_is ∙ out)).1

  over_time : (t : Tried) (tried : IsTried b t) → t.outcome ≡ OverTime → most_time < time_by t tried
  over_time t tried out = from tried.request.call.snapshot tried.script.course
    where
      from : (snapshot : Bool) (s : IsAsked snapshot (run b.procs tried.request.call tried.script.rows) tried.script.rows tried.script.asked t.outcome)
          → most_time < course_time snapshot (run b.procs tried.request.call tried.script.rows) tried.script.rows tried.script.asked t.outcome s
      from true s = absurd (apart (sym s.outcome_is ∙ out))
        where
          apart : {reply : Reply} → Committed 0 reply ≡ OverTime → ⊥
          apart h = cc
      from false s = by_conflict (option_or s.locking_conflict s.extending_conflict) (sym s.outcome_is ∙ out)
        where
          by_conflict : (c : Option Why) → outcome_of c (time_of s.reads s.locks) (run b.procs tried.request.call tried.script.rows).reply ≡ OverTime → most_time < time_of s.reads s.locks
          by_conflict (Some why) h = absurd (apart h)
            where
              apart : Conflict why ≡ OverTime → ⊥
              apart g = cc
          by_conflict None h =
              by_bool (λ z. leb (time_of s.reads s.locks) most_time ≡ z → cond z (Committed (time_of s.reads s.locks) (run b.procs tried.request.call tried.script.rows).reply) OverTime ≡ OverTime → most_time < time_of s.reads s.locks)
              (leb (time_of s.reads s.locks) most_time) (λ _ _ g. absurd (apart g)) (λ _ late _. leb-false (time_of s.reads s.locks) most_time late) refl h
            where
              apart : {n : ℕ} {reply : Reply} → Committed n reply ≡ OverTime → ⊥
              apart g = cc

module _ (b : Beginning) (x : Execution) (is : IsExecution b x) where
  all : AllByRecursion (IsTried b) (concat x.transcripts)
  all = all_tried b x is

  abbrev ns : List ℕ
  ns = times b (concat x.transcripts) all

  good : (k : RowKey) → Good (resting (value_at b.opening k)) nobody (on k (journal_on b x k))
  good k = good_start (value_at b.opening) k (journal_on b x k) (orderly b x is k)

  in_ts : (worker : ℕ) (t : Tried) → worker < b.workers → Among (transcript_of x worker) t → Among (concat x.transcripts) t
  in_ts worker t lt among = let count : length x.transcripts ≡ b.workers = is.workers in to_concat x.transcripts worker t (omega arith) among

  past_extends : (given : List Given) (k : RowKey) (e : Exchange) (key : RowKey) (wts n : ℕ) → Among (keyed k (map past given)) e → e.op ≡ Extend key wts n → ⊥
  past_extends given k e key wts n among op =
      let found = map_among past given e (among_filter _ (map past given) e among).0 in
      apart found.0 (ap (λ (y : Exchange). y.op) found.2 ∙ op)
    where
      apart : (g : Given) → Past g.key ≡ Extend key wts n → ⊥
      apart g h = cc

  install_time : (k : RowKey) (e : Entry) (n : ℕ) (v : Option Value) → Among (on k (journal_on b x k)) e → Installs e n v → Among ns n
  install_time k e n v among i =
      let found = installed_by b x is k e n v among i in
      let there : Among (concat x.transcripts) found.0 = in_ts found.1 found.0 found.2 found.3 in
      let timed = time_to b (concat x.transcripts) all found.0 there in
      let w = found.5 timed.0 in
      subst (λ (p : ℕ). Among ns p) (commit_time b found.0 timed.0 n w.reply w.outcome_is) timed.1

  extend_time : (k : RowKey) (e : Entry) (key : RowKey) (wts n : ℕ) → Among (on k (journal_on b x k)) e → e.ask.op ≡ Extend key wts n → Among ns n
  extend_time k e key wts n among op = from (key_steps b x is (sent b x is) k e.ask.by) (own_among (on k (journal_on b x k)) e among)
    where
      by_course : (t : Tried) (tried : IsTried b t) (y : Exchange) → Among (keyed k tried.script.asked) y → y.op ≡ Extend key wts n → (snapshot : Bool)
          (s : IsAsked snapshot (run b.procs tried.request.call tried.script.rows) tried.script.rows tried.script.asked t.outcome) → n ≡ course_time snapshot (run b.procs tried.request.call tried.script.rows) tried.script.rows tried.script.asked t.outcome s
      by_course t tried y in_asked is_extend true s = absurd (past_extends s.given k y key wts n (subst (λ (ys : List Exchange). Among (keyed k ys) y) s.parts in_asked) is_extend)
      by_course t tried y in_asked is_extend false s =
          extend_is (run b.procs tried.request.call tried.script.rows) tried.script.rows tried.script.asked t.outcome s (needs_apart b.procs tried.request.call tried.script.rows) (writes_apart b.procs tried.request.call tried.script.rows) k t.by (tried_answered b t tried) y key wts n in_asked is_extend

      from : (own e.ask.by (on k (journal_on b x k)) ≡ []) ⊎ ((t : Tried) × (e.ask.by.worker < b.workers) × Among (transcript_of x e.ask.by.worker) t × (t.by ≡ e.ask.by) × (own e.ask.by (on k (journal_on b x k)) ≡ on k (map taken t.script)))
          → Among (own e.ask.by (on k (journal_on b x k))) e → Among ns n
      from (inl none) h = absurd (subst (λ (es : List Entry). Among es e) none h)
      from (inr some) h =
          let timed = time_to b (concat x.transcripts) all some.0 (in_ts e.ask.by.worker some.0 some.1 some.2) in
          let tried : IsTried b some.0 = timed.0 in
          let found = map_among (entry_by some.0.by) (keyed k tried.script.asked) e (subst (λ (es : List Entry). Among es e) (some.4 ∙ tried_entries b some.0 tried k) h) in
          subst (λ (p : ℕ). Among ns p) (sym (by_course some.0 tried found.0 found.1 (ap (λ (y : Entry). y.ask.op) found.2 ∙ op) tried.request.call.snapshot tried.script.course)) timed.1

  -- a time that raises a read time is a script's
  raised_time : (k : RowKey) (e : Entry) (p : ℕ) → Among (on k (journal_on b x k)) e → RaisedBy e.ask.op e.answer p → Among ns p
  raised_time k e p among (inl wrote) = install_time k e p wrote.0 among wrote.1
  raised_time k e p among (inr extends) = extend_time k e extends.0 extends.1 p among extends.2

  -- a shown time is that of another script
  shown_wts : (t : Tried) (tried : IsTried b t) (f : Found) → Among (concat x.transcripts) t → Among tried.script.asked (read f) → 1 ≤ f.wts → Among ns f.wts
  shown_wts t tried f in_t in_asked one =
      let k : RowKey = f.key in
      let e : Entry = entry_by t.by (read f) in
      let in_journal : Among (on k (journal_on b x k)) e = script_among b x is t tried k in_t (read f) (filter_among (λ y. is_key k (key_of y.op)) tried.script.asked (read f) in_asked (key_itself k)) in
      let parts = among_split (on k (journal_on b x k)) e in_journal in
      let whole : Good (resting (value_at b.opening k)) nobody (parts.0 ++ e ∷ parts.1) = subst (λ (es : List Entry). Good (resting (value_at b.opening k)) nobody es) parts.2 (good k) in
      let row : RowState = walk (resting (value_at b.opening k)) parts.0 in
      let told : Got f.wts f.rts f.value ≡ Got row.wts row.rts row.newest = (good_at (resting (value_at b.opening k)) nobody parts.0 (e ∷ parts.1) whole).told.0 in
      let same : f.wts ≡ row.wts = got told in
      elim (wts_from (resting (value_at b.opening k)) parts.0) [
        | inl first ↦ absurd (let none : row.wts ≡ 0 = first in omega arith)
        | inr found ↦
            let here : Among (on k (journal_on b x k)) found.0 = subst (λ (es : List Entry). Among es found.0) (sym parts.2) (Among-left parts.0 (e ∷ parts.1) found.0 found.1) in
            subst (λ (p : ℕ). Among ns p) (sym same) (install_time k found.0 row.wts found.2.0 here found.2.1)
      ]
    where
      got : {w r w' r' : ℕ} {v v' : Option Value} → Got w r v ≡ Got w' r' v' → w ≡ w'
      got h = cc

  shown_rts : (t : Tried) (tried : IsTried b t) (y : Exchange) (w n : ℕ) → Among (concat x.transcripts) t → Among tried.script.asked y → y.answer ≡ Locked w n → 1 ≤ n → Among ns n
  shown_rts t tried y w n in_t in_asked shown one =
      let k : RowKey = key_of y.op in
      let e : Entry = entry_by t.by y in
      let in_journal : Among (on k (journal_on b x k)) e = script_among b x is t tried k in_t y (filter_among (λ z. is_key k (key_of z.op)) tried.script.asked y in_asked (key_itself k)) in
      let parts = among_split (on k (journal_on b x k)) e in_journal in
      let whole : Good (resting (value_at b.opening k)) nobody (parts.0 ++ e ∷ parts.1) = subst (λ (es : List Entry). Good (resting (value_at b.opening k)) nobody es) parts.2 (good k) in
      let row : RowState = walk (resting (value_at b.opening k)) parts.0 in
      let told : y.answer ≡ answer_at row t.by y.op = (good_at (resting (value_at b.opening k)) nobody parts.0 (e ∷ parts.1) whole).told.0 in
      let same : row.rts ≡ n = locked_told row t.by y.op w n (sym shown ∙ told) in
      elim (rts_from (resting (value_at b.opening k)) parts.0) [
        | inl first ↦ absurd (let none : row.rts ≡ 0 = first in omega arith)
        | inr found ↦
            let here : Among (on k (journal_on b x k)) found.0 = subst (λ (es : List Entry). Among es found.0) (sym parts.2) (Among-left parts.0 (e ∷ parts.1) found.0 found.1) in
            subst (λ (p : ℕ). Among ns p) same (raised_time k found.0 row.rts here found.2)
      ]

  shown_locked : (e : Exchange) (n : ℕ) → shown_by e ≡ Some n → (w : ℕ) × (e.answer ≡ Locked w n)
  shown_locked e n h = from e.answer h
    where
      from : (a : Answer) → shown_by (record { op = e.op; answer = a }) ≡ Some n → (w : ℕ) × (a ≡ Locked w n)
      from (Locked w m) g = (w, ap (Locked w) (same_some g))
      from (Got w m v) g = absurd (none_some g)
      from (Marked holder) g = absurd (none_some g)
      from (Changed w) g = absurd (none_some g)
      from Extended g = absurd (none_some g)
      from Installed g = absurd (none_some g)
      from Released g = absurd (none_some g)
      from (NotMine mark) g = absurd (none_some g)
      from (Stood v) g = absurd (none_some g)

  down : (m : ℕ) → 1 ≤ m → Among ns (suc m) → Among ns m
  down m one among =
      let found = time_from b (concat x.transcripts) all (suc m) among in
      by_course found.0 found.1 found.2 found.2.request.call.snapshot found.2.script.course found.3
    where
      by_course : (t : Tried) → Among (concat x.transcripts) t → (tried : IsTried b t) → (snapshot : Bool) (s : IsAsked snapshot (run b.procs tried.request.call tried.script.rows) tried.script.rows tried.script.asked t.outcome)
          → course_time snapshot (run b.procs tried.request.call tried.script.rows) tried.script.rows tried.script.asked t.outcome s ≡ suc m → Among ns m
      by_course t in_t tried true s h = absurd (apart h)
        where
          apart : 0 ≡ suc m → ⊥
          apart g = omega arith
      by_course t in_t tried false s h =
          let shown : List ℕ = filter_map shown_by s.locks in
          let wts : List ℕ = map (λ (f : Found). f.wts) s.reads in
          let top : greatest (greatest 0 wts) shown ≡ m = omega (arith, h) in
          elim (greatest_from (greatest 0 wts) shown) [
            | inl first ↦ elim (greatest_from 0 wts) [
              | inl none ↦ absurd (omega (arith, first, none))
              | inr in_wts ↦
                  let is_m : greatest 0 wts ≡ m = sym first ∙ top in
                  let f = map_among (λ (g : Found). g.wts) s.reads m (subst (λ (p : ℕ). Among wts p) is_m in_wts) in
                  let asked : Among tried.script.asked (read f.0) = subst (λ (ys : List Exchange). Among ys (read f.0)) (sym s.parts)
                  (Among-left ((map read s.reads ++ s.locks) ++ s.extensions) s.ends (read f.0) (Among-left (map read s.reads ++ s.locks) s.extensions (read f.0) (Among-left (map read s.reads) s.locks (read f.0) (among_map read s.reads f.0 f.1)))) in
                  subst (λ (p : ℕ). Among ns p) f.2 (shown_wts t tried f.0 in_t asked (subst (λ (p : ℕ). 1 ≤ p) (sym f.2) one))
            ]
            | inr in_shown ↦
                let e = filter_map_among shown_by s.locks m (subst (λ (p : ℕ). Among shown p) top in_shown) in
                let locked = shown_locked e.0 m e.2 in
                let asked : Among tried.script.asked e.0 = subst (λ (ys : List Exchange). Among ys e.0) (sym s.parts)
                (Among-left ((map read s.reads ++ s.locks) ++ s.extensions) s.ends e.0 (Among-left (map read s.reads ++ s.locks) s.extensions e.0 (Among-right (map read s.reads) s.locks e.0 e.1))) in
                shown_rts t tried e.0 locked.0 m in_t asked locked.1 one
          ]

  within : (n : ℕ) → Among ns n → n ≤ length (concat x.transcripts)
  within n among =
      let count : length ns ≡ length (concat x.transcripts) = times_count b (concat x.transcripts) all in
      let le : n ≤ length ns = enough n ns (all_below ns down n among) in
      omega arith

  few : (t : Tried) → Among (concat x.transcripts) t → (tried : IsTried b t) × (time_by b t tried ≤ length (concat x.transcripts))
  few t among = let timed = time_to b (concat x.transcripts) all t among in (timed.0, within (time_by b t timed.0) timed.1)

  pub raised_few : (k : RowKey) (e : Entry) (p : ℕ) → Among (on k (journal_on b x k)) e → RaisedBy e.ask.op e.answer p → p ≤ length (concat x.transcripts)
  raised_few k e p among raised = within p (raised_time k e p among raised)

  pub times_are_few : TimesAreFew b x
  times_are_few = record {
    commits = λ t n reply among out. (let f = few t among in let same : time_by b t f.0 ≡ n = commit_time b t f.0 n reply out in let le : time_by b t f.0 ≤ length (concat x.transcripts) = f.1 in omega arith);
    over = λ t among out. (let f = few t among in let lt : most_time < time_by b t f.0 = over_time b t f.0 out in let le : time_by b t f.0 ≤ length (concat x.transcripts) = f.1 in omega arith);
  }
