-- Whatever an attempt has asked by the rules goes on to a whole script.
use Rattle.std.proofs.Common.{◌≡◌, ℕ, true, false, cond, nat_eq, nat_le, List, [], ◌∷◌, ◌++◌, map, filter, Option, None, Some, refl, sym, ap, ◌∙◌, subst, eq-eqb}
use Rattle.std.specs.Bool.{⊤}
use Rattle.std.specs.List.{filter_map, AllByRecursion}
use Rattle.std.proofs.lemmas.List.{map-append, append_assoc, append-nil}
use Rattle.std.proofs.lemmas.List.Elements.{filter-append}
use Rattle.coco_types.specs.Limits.{most_time}
use Rattle.coco_types.specs.RowKey.{RowKey}
use Rattle.coco_types.specs.declared.call.AttemptId.{AttemptId}
use Rattle.coco_types.specs.declared.call.Reply.{Reply}
use Rattle.coco_types.specs.declared.call.Write.{Write}
use Rattle.coco_ast.specs.Keyed.{Rows, value_at}
use Rattle.coco_ast.specs.Meaning.{Run, Datum}
use Rattle.coco_ast.proofs.Lists.{all_append, all_right, all_map}
use Rattle.coco_shard.specs.RowState.{RowState}
use Rattle.coco_shard.specs.declared.ops.Op.{Op}
use Rattle.coco_shard.specs.declared.ops.Op.TheVariants.{Read, Lock, Install, Release}
use Rattle.coco_shard.specs.declared.ops.Answer.{Answer}
use Rattle.coco_shard.specs.declared.ops.Answer.TheVariants.{Got, Locked, Changed, Extended, NotMine}
use Rattle.coco_occ.specs.Exchange.{Exchange, Found, ops_of, read, read_of, changed_since, conflict_of, locked_by, MayAnswer}
use Rattle.coco_occ.specs.Script.{AskedAll, Reads, Locks, IsTry, time_of, needs_extension, extension, extensions_due, outcome_of, ends_of}
use Rattle.coco_occ.specs.Course.{lock, IsDue, IsDueFor, IsEnding}
use Rattle.coco_occ.specs.declared.outcome.Why.TheVariants as why
use Rattle.coco_occ.specs.declared.outcome.Outcome.{Outcome}
use Rattle.coco_occ.specs.declared.outcome.Outcome.TheVariants.{Committed, Conflict, OverTime}

-- an answer that the attempt may have to an operation
abbrev pub Fits : AttemptId → Exchange → Type 0
Fits by e = MayAnswer (record { by = by; op = e.op }) e.answer

-- the first of the exchanges is on the operation that is due
abbrev pub StartsWith : Option Op → List Exchange → Type 0
StartsWith None asked = ⊤
StartsWith (Some op) asked = (answer : Answer) × (more : List Exchange) × (asked ≡ record { op = op; answer = answer } ∷ more)

-- what was asked goes on to a whole try
pub record GoesOn (r : Run) (m : Rows) (by : AttemptId) (asked : List Exchange) (due : Option Op) : Type 0 where
  pub rest : List Exchange
  pub outcome : Outcome
  pub fit : AllByRecursion (Fits by) rest
  pub starts : StartsWith due rest
  pub whole : IsTry r m (asked ++ rest) outcome

abbrev exchange : Op → Answer → Exchange
exchange op answer = record { op = op; answer = answer }

abbrev row : ℕ → ℕ → Datum → RowState
row wts rts value = record { newest = value; wts = wts; rts = rts; mark = None; stable = value }

all_hold : {X : Type 0} (P : X → Type 0) → ((x : X) → P x) → (xs : List X) → AllByRecursion P xs
all_hold P h [] = tt
all_hold P h (x ∷ xs) = (h x, all_hold P h xs)

pub ops_append : (xs ys : List Exchange) → ops_of (xs ++ ys) ≡ ops_of xs ++ ops_of ys
ops_append [] ys = refl
ops_append (x ∷ xs) ys = ap (λ l. x.op ∷ l) (ops_append xs ys)

-- with more exchanges in between
due_more : (due : Option Op) (xs ys : List Exchange) → StartsWith due xs → StartsWith due (xs ++ ys)
due_more None xs ys s = tt
due_more (Some op) xs ys s = (s.0, s.1 ++ ys, ap (λ l. l ++ ys) s.2)

on_from : (r : Run) (m : Rows) (by : AttemptId) (asked more : List Exchange) (due : Option Op) → AllByRecursion (Fits by) more → StartsWith due more → GoesOn r m by (asked ++ more) None → GoesOn r m by asked due
on_from r m by asked more due fit starts g = record {
  rest = more ++ g.rest;
  outcome = g.outcome;
  fit = all_append (Fits by) more g.rest fit g.fit;
  starts = due_more due more g.rest starts;
  whole = subst (λ (l : List Exchange). IsTry r m l g.outcome) (append_assoc asked more g.rest) g.whole;
}

-- ---- installs and releases

abbrev not_mine : Op → Exchange
not_mine op = exchange op (NotMine None)

ends_fit : (by : AttemptId) (outcome : Outcome) (writes : List Write) (locks : List Exchange) → AllByRecursion (λ op. Fits by (not_mine op)) (ends_of outcome writes locks)
ends_fit by (Committed time reply) writes locks = all_map (λ w. Install w.key time w.value) (λ op. Fits by (not_mine op)) writes (all_hold _ (λ w. (row 0 0 None, refl)) writes)
ends_fit by (Conflict why) writes locks = all_map (λ k. Release k) (λ op. Fits by (not_mine op)) (filter_map locked_by locks) (all_hold _ (λ k. (row 0 0 None, refl)) (filter_map locked_by locks))
ends_fit by OverTime writes locks = all_map (λ k. Release k) (λ op. Fits by (not_mine op)) (filter_map locked_by locks) (all_hold _ (λ k. (row 0 0 None, refl)) (filter_map locked_by locks))

ops_answered : (f : Op → Answer) (ops : List Op) → ops_of (map (λ op. exchange op (f op)) ops) ≡ ops
ops_answered f [] = refl
ops_answered f (op ∷ ops) = ap (λ l. op ∷ l) (ops_answered f ops)

due_answered : (f : Op → Answer) (due : Option Op) (left : List Op) → IsDue due left → StartsWith due (map (λ op. exchange op (f op)) left)
due_answered f None left is = tt
due_answered f (Some op) left is = (f op, map (λ op. exchange op (f op)) is.0, ap (map (λ op. exchange op (f op))) is.1)

pub ending_goes_on : (r : Run) (m : Rows) (by : AttemptId) (asked : List Exchange) (outcome : Outcome) (left : List Op) (due : Option Op) → IsDue due left → IsEnding r m asked outcome left → GoesOn r m by asked due
ending_goes_on r m by asked outcome left due is e =
    let rest = map not_mine left in
    let all : AllByRecursion (λ op. Fits by (not_mine op)) (ops_of e.ends ++ left) = subst (AllByRecursion (λ op. Fits by (not_mine op))) (sym e.ending) (ends_fit by outcome r.writes e.locks) in
    record {
      rest = rest;
      outcome = outcome;
      fit = all_map not_mine (Fits by) left (all_right (λ op. Fits by (not_mine op)) (ops_of e.ends) left all);
      starts = due_answered (λ op. NotMine None) due left is;
      whole = record {
        reads = e.reads;
        locks = e.locks;
        locking_conflict = e.locking_conflict;
        extensions = e.extensions;
        extending_conflict = e.extending_conflict;
        ends = e.ends ++ rest;
        parts = ap (λ l. l ++ rest) e.parts ∙ append_assoc (map read e.reads ++ e.locks ++ e.extensions) e.ends rest;
        reading = e.reading;
        locking = e.locking;
        extending = e.extending;
        ending = ops_append e.ends rest ∙ ap (λ l. ops_of e.ends ++ l) (ops_answered (λ op. NotMine None) left) ∙ e.ending;
        outcome_is = e.outcome_is;
      };
    }

-- ---- extensions

extended : ℕ → Found → Exchange
extended time f = exchange (extension time f) Extended

same_number : (n : ℕ) → nat_eq n n ≡ true
same_number n = eq-eqb n n refl

extended_fits : (by : AttemptId) (time : ℕ) (f : Found) → Fits by (exchange (extension time f) Extended)
extended_fits by time f = (row f.wts 0 None, sym (ap (λ b. cond b Extended (Changed f.wts)) (same_number f.wts)))

-- what is due of two parts
due_split : (time : ℕ) (writes : List Write) (done left : List Found) →
    map (extension time) (filter (needs_extension time writes) (done ++ left)) ≡ map (extension time) (filter (needs_extension time writes) done) ++ map (extension time) (filter (needs_extension time writes) left)
due_split time writes done left = ap (map (extension time)) (filter-append (needs_extension time writes) done left) ∙ map-append (extension time) (filter (needs_extension time writes) done) (filter (needs_extension time writes) left)

pub due_in_time : (time : ℕ) (writes : List Write) (reads : List Found) → nat_le time most_time ≡ true → extensions_due None time writes reads ≡ map (extension time) (filter (needs_extension time writes) reads)
due_in_time time writes reads fits = ap (λ b. cond b (map (extension time) (filter (needs_extension time writes) reads)) []) fits

pub committed_in_time : (time : ℕ) (reply : Reply) → nat_le time most_time ≡ true → outcome_of None time reply ≡ Committed time reply
committed_in_time time reply fits = ap (λ b. cond b (Committed time reply) OverTime) fits

due_extended : (time : ℕ) (writes : List Write) (due : Option Op) (left : List Found) → IsDueFor time writes due left → IsDue due (map (extension time) (filter (needs_extension time writes) left))
due_extended time writes None left is = tt
due_extended time writes (Some op) left is =
    let f = is.0 in let more = is.1 in (
      map (extension time) (filter (needs_extension time writes) more),
      ap (λ l. map (extension time) (filter (needs_extension time writes) l)) is.2
          ∙ ap (λ b. map (extension time) (cond b (f ∷ filter (needs_extension time writes) more) (filter (needs_extension time writes) more))) is.3
          ∙ ap (λ o. o ∷ map (extension time) (filter (needs_extension time writes) more)) (sym is.4),
    )

extended_clear : (reads : List Found) (time : ℕ) (fs : List Found) → AllByRecursion (λ e. conflict_of reads e ≡ None) (map (λ op. exchange op Extended) (map (extension time) fs))
extended_clear reads time [] = tt
extended_clear reads time (f ∷ fs) = (refl, extended_clear reads time fs)

extended_all_fit : (by : AttemptId) (time : ℕ) (fs : List Found) → AllByRecursion (Fits by) (map (λ op. exchange op Extended) (map (extension time) fs))
extended_all_fit by time [] = tt
extended_all_fit by time (f ∷ fs) = (extended_fits by time f, extended_all_fit by time fs)

pub extending_goes_on : (r : Run) (m : Rows) (by : AttemptId) (asked : List Exchange) (due : Option Op) (reads done left : List Found) (locks extensions : List Exchange) →
    asked ≡ map read reads ++ locks ++ extensions →
    Reads r m reads →
    Locks reads r.writes locks None →
    nat_le (time_of reads locks) most_time ≡ true →
    reads ≡ done ++ left →
    AskedAll (conflict_of reads) (map (extension (time_of reads locks)) (filter (needs_extension (time_of reads locks) r.writes) done)) extensions →
    IsDueFor (time_of reads locks) r.writes due left →
    GoesOn r m by asked due
extending_goes_on r m by asked due reads done left locks extensions parts reading locking fits split all is =
    let time = time_of reads locks in
    let fs = filter (needs_extension time r.writes) left in
    let more = map (λ op. exchange op Extended) (map (extension time) fs) in
    on_from r m by asked more due (extended_all_fit by time fs) (due_answered (λ op. Extended) due (map (extension time) fs) (due_extended time r.writes due left is))
    (ending_goes_on r m by (asked ++ more) (Committed time r.reply) (map (λ w. Install w.key time w.value) r.writes) None tt (record {
      reads = reads;
      locks = locks;
      locking_conflict = None;
      extensions = extensions ++ more;
      extending_conflict = None;
      ends = [];
      parts = ap (λ l. l ++ more) parts ∙ append_assoc (map read reads ++ locks) extensions more ∙ sym (append-nil (map read reads ++ locks ++ (extensions ++ more)));
      reading = reading;
      locking = locking;
      extending = record {
        all = ops_append extensions more ∙ ap (λ l. l ++ ops_of more) all.all ∙ ap (λ l. map (extension time) (filter (needs_extension time r.writes) done) ++ l) (ops_answered (λ op. Extended) (map (extension time) fs))
            ∙ sym (due_split time r.writes done left) ∙ ap (λ l. map (extension time) (filter (needs_extension time r.writes) l)) (sym split) ∙ sym (due_in_time time r.writes reads fits);
        clear = all_append (λ e. conflict_of reads e ≡ None) extensions more all.clear (extended_clear reads time fs);
      };
      ending = refl;
      outcome_is = sym (committed_in_time time r.reply fits);
    }))

-- ---- locks

wts_of : Option Found → ℕ
wts_of None = 0
wts_of (Some f) = f.wts

-- a lock that shows what was read
as_read : List Found → Op → Answer
as_read reads (Lock key) = Locked (wts_of (read_of reads key)) 0
as_read reads op = Extended

unchanged : (f : Option Found) (key : RowKey) → changed_since f key (wts_of f) ≡ None
unfolding wts_of
unchanged None key = refl
unchanged (Some f) key = ap (λ b. cond b None (Some (why.Changed key f.wts f.wts))) (same_number f.wts)

abbrev lock_read : List Found → Op → Exchange
lock_read reads op = exchange op (as_read reads op)

locks_clear : (reads : List Found) (ws : List Write) → AllByRecursion (λ e. conflict_of reads e ≡ None) (map (lock_read reads) (map lock ws))
unfolding as_read
locks_clear reads [] = tt
locks_clear reads (w ∷ ws) = (unchanged (read_of reads w.key) w.key, locks_clear reads ws)

locks_fit : (by : AttemptId) (reads : List Found) (ws : List Write) → AllByRecursion (Fits by) (map (lock_read reads) (map lock ws))
unfolding as_read
locks_fit by reads [] = tt
locks_fit by reads (w ∷ ws) = ((row (wts_of (read_of reads w.key)) 0 None, refl), locks_fit by reads ws)

over_time_ending : (r : Run) (m : Rows) (asked : List Exchange) (reads : List Found) (locks : List Exchange) →
    asked ≡ map read reads ++ locks → Reads r m reads → Locks reads r.writes locks None → nat_le (time_of reads locks) most_time ≡ false →
    IsEnding r m asked OverTime (map (λ k. Release k) (filter_map locked_by locks))
over_time_ending r m asked reads locks parts reading locking over = record {
  reads = reads;
  locks = locks;
  locking_conflict = None;
  extensions = [];
  extending_conflict = None;
  ends = [];
  parts = parts ∙ sym (append-nil (map read reads ++ locks)) ∙ sym (append-nil (map read reads ++ locks ++ []));
  reading = reading;
  locking = locking;
  extending = record { all = sym (ap (λ b. cond b (map (extension (time_of reads locks)) (filter (needs_extension (time_of reads locks) r.writes) reads)) []) over); clear = tt };
  ending = refl;
  outcome_is = sym (ap (λ b. cond b (Committed (time_of reads locks) r.reply) OverTime) over);
}

-- behind all locks
pub locked_goes_on : (r : Run) (m : Rows) (by : AttemptId) (asked : List Exchange) (reads : List Found) (locks : List Exchange) →
    asked ≡ map read reads ++ locks → Reads r m reads → Locks reads r.writes locks None → GoesOn r m by asked None
locked_goes_on r m by asked reads locks parts reading locking =
    elim (nat_le (time_of reads locks) most_time) as (λ b. nat_le (time_of reads locks) most_time ≡ b → GoesOn r m by asked None) [
      | true ↦ λ fits. extending_goes_on r m by asked None reads [] reads locks [] (parts ∙ sym (append-nil (map read reads ++ locks))) reading locking fits refl (record { all = refl; clear = tt }) tt
      | false ↦ λ over. ending_goes_on r m by asked OverTime (map (λ k. Release k) (filter_map locked_by locks)) None tt (over_time_ending r m asked reads locks parts reading locking over)
    ] refl

pub locking_goes_on : (r : Run) (m : Rows) (by : AttemptId) (asked : List Exchange) (due : Option Op) (reads : List Found) (locks : List Exchange) (done left : List Write) →
    asked ≡ map read reads ++ locks → Reads r m reads → AskedAll (conflict_of reads) (map lock done) locks → r.writes ≡ done ++ left → IsDue due (map lock left) → GoesOn r m by asked due
locking_goes_on r m by asked due reads locks done left parts reading all split is =
    let more = map (lock_read reads) (map lock left) in
    on_from r m by asked more due (locks_fit by reads left) (due_answered (as_read reads) due (map lock left) is)
    (locked_goes_on r m by (asked ++ more) reads (locks ++ more)
    (ap (λ l. l ++ more) parts ∙ append_assoc (map read reads) locks more)
    reading
    (record {
      all = ops_append locks more ∙ ap (λ l. l ++ ops_of more) all.all ∙ ap (λ l. map lock done ++ l) (ops_answered (as_read reads) (map lock left)) ∙ sym (map-append lock done left) ∙ ap (map lock) (sym split);
      clear = all_append (λ e. conflict_of reads e ≡ None) locks more all.clear (locks_clear reads left);
    }))

-- ---- reads

found_in : Rows → RowKey → Found
found_in m key = record { key = key; wts = 0; rts = 0; value = value_at m key }

found_keys : (m : Rows) (ks : List RowKey) → map (λ f. f.key) (map (found_in m) ks) ≡ ks
unfolding found_in
found_keys m [] = refl
found_keys m (k ∷ ks) = ap (λ l. k ∷ l) (found_keys m ks)

found_values : (m : Rows) (ks : List RowKey) → AllByRecursion (λ f. value_at m f.key ≡ f.value) (map (found_in m) ks)
unfolding found_in
found_values m [] = tt
found_values m (k ∷ ks) = (refl, found_values m ks)

reads_fit : (by : AttemptId) (fs : List Found) → AllByRecursion (Fits by) (map read fs)
reads_fit by [] = tt
reads_fit by (f ∷ fs) = ((row f.wts f.rts f.value, refl), reads_fit by fs)

-- what is due of the keys that are still to be read
abbrev pub IsRead : Option Op → List RowKey → Type 0
IsRead None ks = ⊤
IsRead (Some op) ks = (k : RowKey) × (more : List RowKey) × (ks ≡ k ∷ more) × (op ≡ Read k)

due_read : (m : Rows) (due : Option Op) (ks : List RowKey) → IsRead due ks → StartsWith due (map read (map (found_in m) ks))
unfolding found_in
due_read m None ks is = tt
due_read m (Some op) ks is =
    subst (λ (o : Op). StartsWith (Some o) (map read (map (found_in m) ks))) (sym is.3)
    (Got 0 0 (value_at m is.0), map read (map (found_in m) is.1), ap (λ l. map read (map (found_in m) l)) is.2)

pub reading_goes_on : (r : Run) (m : Rows) (by : AttemptId) (asked : List Exchange) (due : Option Op) (reads : List Found) (left : List RowKey) →
    asked ≡ map read reads → map (λ f. f.key) reads ++ left ≡ r.needs → AllByRecursion (λ f. value_at m f.key ≡ f.value) reads → IsRead due left → GoesOn r m by asked due
reading_goes_on r m by asked due reads left parts keys values is =
    let more = map (found_in m) left in
    on_from r m by asked (map read more) due (reads_fit by more) (due_read m due left is)
    (locking_goes_on r m by (asked ++ map read more) None (reads ++ more) [] [] r.writes
    (ap (λ l. l ++ map read more) parts ∙ sym (map-append read reads more) ∙ sym (append-nil (map read (reads ++ more))))
    (record {
      keys = map-append (λ f. f.key) reads more ∙ ap (λ l. map (λ f. f.key) reads ++ l) (found_keys m left) ∙ keys;
      values = all_append (λ f. value_at m f.key ≡ f.value) reads more values (found_values m left);
    })
    (record { all = refl; clear = tt }) refl tt)
