-- The commits of an execution, by time and id, are serial.
use Rattle.std.proofs.Common.{◌≡◌, ◌⊎◌, inl, inr, ℕ, zero, suc, ◌+◌, ◌<◌, ◌≤◌, Bool, true, false, cond, leb, ltb, eqb, List, [], ◌∷◌, ◌++◌, map, length, get_or, set, Option, None, Some, refl, sym, ap, ◌∙◌, subst, arith}
use Rattle.std.proofs.lemmas.Bool.{cases_lt, lt-ltb}
use Rattle.std.proofs.lemmas.List.{map-set, get_or-map}
use Rattle.std.proofs.lemmas.List.Sorted.{IsPermutation-refl, IsPermutation-trans, IsPermutation-swap, IsPermutation-map, IsPermutation-sym, IsPermutation-keeps, Contains-permutation}
use Rattle.std.proofs.lemmas.Map.Keys.{IsDistinct-IsPermutation}
use Rattle.std.specs.Option.{option_or}
use Rattle.std.specs.List.{filter, filter_map, cons_option, swap, slice_get, AllByRecursion, IsDistinct, Contains}
use Rattle.std.specs.List.Sorted.{IsPermutation}
use Rattle.coco_types.specs.RowKey.{RowKey}
use Rattle.coco_types.specs.declared.value.Value.{Value}
use Rattle.coco_types.specs.declared.call.AttemptId.{AttemptId}
use Rattle.coco_types.specs.declared.call.Reply.{Reply}
use Rattle.coco_types.specs.declared.call.Request.{Request}
use Rattle.coco_types.specs.declared.call.Done.{Done}
use Rattle.coco_ast.specs.Keyed.{Rows, value_at}
use Rattle.coco_ast.specs.Meaning.{Datum, Run, run}
use Rattle.coco_ast.specs.History.{RepliesAreRuns, AreTimed, is_timed, rows_after, IsBefore}
use Rattle.coco_shard.specs.RowState.{RowState, resting}
use Rattle.coco_shard.specs.Law.{Entry, law_row}
use Rattle.coco_occ.specs.Script.{IsTry, IsSnapshot, IsAsked, outcome_of, time_of}
use Rattle.coco_occ.specs.declared.outcome.Why.{Why}
use Rattle.coco_occ.specs.declared.outcome.Outcome.{Outcome}
use Rattle.coco_occ.specs.declared.outcome.Outcome.TheVariants.{Committed, Conflict, OverTime}
use Rattle.coco_types.specs.Limits.{most_time}
use Rattle.coco_order.specs.OneKey.{Among, is_attempt, on, walk, Installs, IsLastBelow, ReadsTheLast}
use Rattle.coco_order.specs.Order.{AreInOrder}
use Rattle.coco_occ.specs.declared.outcome.Tried.{Tried}
use Rattle.coco_order.specs.Execution.{Beginning, Execution, IsTried, AreOf, RiseByNumber, IsExecution, journal_on, transcript_of, concat}
use Rattle.coco_order.specs.Outcome.{commits, commit_of, AreCommits, newest_at_end}
use Rattle.coco_order.specs.Laws.{AreSerial, CommitsAreSerial}
use Rattle.coco_order.proofs.Attempts.{by_bool, not_both, one_attempt, attempt_itself, none_some, same_some, Among-append, Among-left, Among-right}
use Rattle.coco_order.proofs.Chains.{Good, one_install, last_written, installs_within}
use Rattle.coco_order.proofs.LawRows.{law_walk, lawful_told}
use Rattle.coco_order.proofs.OneKey.{nobody, good_start}
use Rattle.coco_order.proofs.Passes.{all_among, all_append}
use Rattle.coco_order.proofs.Orderly.{orderly}
use Rattle.coco_order.proofs.Acts.{act, act_of, acts, acts_dones, Committing, act_from, act_to, all_tried, in_transcript}
use Rattle.coco_order.proofs.CommitReads.{ran, Writes, write_installed, installed_by, ReadsWell, reads_right}
use Rattle.coco_order.proofs.Serial.{Act, dones, writes_at, LastBelow, IsRight, ApartInTime, RiseInTime, Serial, serial, written}

-- ---- lists

pub to_concat : {X : Type 0} (xss : List (List X)) (n : ℕ) (x : X) → n < length xss → Among (get_or xss n []) x → Among (concat xss) x
to_concat [] n x lt h = absurd (omega arith)
to_concat (xs ∷ xss) zero x lt h = Among-left xs (concat xss) x h
to_concat (xs ∷ xss) (suc n) x lt h = Among-right xs (concat xss) x (to_concat xss n x (omega arith) h)

pub all_from : {X : Type 0} (P : X → Type 0) (xs : List X) → ((x : X) → Among xs x → P x) → AllByRecursion P xs
all_from P [] each = tt
all_from P (x ∷ xs) each = (each x (inl refl), all_from P xs (λ y among. each y (inr among)))

pub among_contains : {X : Type 0} (xs : List X) (x : X) → Among xs x → Contains xs x
among_contains [] x h = absurd h
among_contains (y ∷ xs) x (inl same) = (0, omega arith, same)
among_contains (y ∷ xs) x (inr more) = let rest = among_contains xs x more in (suc rest.0, omega (arith, rest.1), rest.2)

pub contains_among : {X : Type 0} (xs : List X) (x : X) → Contains xs x → Among xs x
contains_among [] x h = absurd (omega (arith, h.1))
contains_among (y ∷ xs) x (zero, lt, same) = inl same
contains_among (y ∷ xs) x (suc n, lt, same) = inr (contains_among xs x (n, omega arith, same))

-- ---- a permutation of what is made of items is made of a permutation of these

map_swap : {X Y : Type 0} (f : X → Y) (xs : List X) (i j : ℕ) → i < length xs → j < length xs → map f (swap xs i j) ≡ swap (map f xs) i j
map_swap f [] i j p q = refl
map_swap f (d ∷ xs) i j p q =
    map-set f (set (d ∷ xs) i (get_or (d ∷ xs) j d)) j (get_or (d ∷ xs) i d)
    ∙ ap (λ ys. set ys j (f (get_or (d ∷ xs) i d))) (map-set f (d ∷ xs) i (get_or (d ∷ xs) j d))
    ∙ ap (λ y. set (set (map f (d ∷ xs)) i y) j (f (get_or (d ∷ xs) i d))) (sym (get_or-map f (d ∷ xs) j d (f d) q))
    ∙ ap (λ y. set (set (map f (d ∷ xs)) i (get_or (map f (d ∷ xs)) j (f d))) j y) (sym (get_or-map f (d ∷ xs) i d (f d) p))

pub record Lifted {X Y : Type 0} (f : X → Y) (xs : List X) (ys : List Y) : Type 0 where
  pub items : List X
  pub same : IsPermutation xs items
  pub made : map f items ≡ ys

length_map : {X Y : Type 0} (f : X → Y) (xs : List X) → length (map f xs) ≡ length xs
length_map f [] = refl
length_map f (x ∷ xs) = ap suc (length_map f xs)

pub lifted : {X Y : Type 0} (f : X → Y) (xs : List X) (ys : List Y) → IsPermutation (map f xs) ys → Lifted f xs ys
lifted f xs ys perm =
    IsPermutation-keeps (map f xs) (Lifted f xs) (record { items = xs; same = IsPermutation-refl xs; made = refl })
    (λ l i j p q now.
    let count : length now.items ≡ length l = sym (length_map f now.items) ∙ ap length now.made in
    let pi : i < length now.items = omega arith in
    let qj : j < length now.items = omega arith in
    record {
      items = swap now.items i j;
      same = IsPermutation-trans xs now.items (swap now.items i j) now.same (IsPermutation-swap now.items (swap now.items i j) i j pi qj refl);
      made = map_swap f now.items i j pi qj ∙ ap (λ zs. swap zs i j) now.made;
    }) ys perm

pub dones_map : (acs : List Act) → dones acs ≡ map (λ (a : Act). a.done) acs
dones_map [] = refl
dones_map (a ∷ acs) = ap (λ (ds : List Done). a.done ∷ ds) (dones_map acs)

-- ---- attempts are apart

abbrev Apart : List Tried → Type 0
Apart [] = Unit {0}
Apart (t ∷ ts) = AllByRecursion (λ u. is_attempt t.by u.by ≡ false) ts × Apart ts

pub differ : (a c : AttemptId) → (a ≡ c → ⊥) → is_attempt a c ≡ false
differ a c ne = by_bool (λ z. is_attempt a c ≡ z → z ≡ false) (is_attempt a c) (λ _ h. absurd (ne (one_attempt a c h))) (λ _ _. refl) refl

apart_within : (ts : List Tried) → RiseByNumber ts → Apart ts
apart_within [] rise = tt
apart_within (t ∷ ts) rise = (later ts rise.0, apart_within ts rise.1)
  where
    later : (us : List Tried) → AllByRecursion (λ u. t.by.number < u.by.number) us → AllByRecursion (λ u. is_attempt t.by u.by ≡ false) us
    later [] all = tt
    later (u ∷ us) all = (differ t.by u.by (λ same. (let lt : t.by.number < u.by.number = all.0 in let e : t.by.number ≡ u.by.number = ap (λ (c : AttemptId). c.number) same in omega arith)), later us all.1)

apart_append : (ts us : List Tried) → Apart ts → Apart us → AllByRecursion (λ t. AllByRecursion (λ u. is_attempt t.by u.by ≡ false) us) ts → Apart (ts ++ us)
apart_append [] us a c cross = c
apart_append (t ∷ ts) us a c cross = (all_append (λ u. is_attempt t.by u.by ≡ false) ts us a.0 cross.0, apart_append ts us a.1 c cross.1)

pub record ApartFrom (n : ℕ) (ts : List Tried) : Type 0 where
  pub apart : Apart ts
  pub from : AllByRecursion (λ t. n ≤ t.by.worker) ts

apart_all : (xss : List (List Tried)) (n : ℕ) → ((i : ℕ) → i < length xss → AreOf (n + i) (get_or xss i [])) → ApartFrom n (concat xss)
apart_all [] n each = record { apart = tt; from = tt }
apart_all (ts ∷ xss) n each =
    let rest : ApartFrom (suc n) (concat xss) = apart_all xss (suc n) (λ i lt. subst (λ (m : ℕ). AreOf m (get_or xss i [])) (shift i) (each (suc i) (omega arith))) in
    let here : AllByRecursion (λ t. t.by.worker ≡ n) ts = subst (λ (m : ℕ). AllByRecursion (λ t. t.by.worker ≡ m) ts) (nothing_more n) (each 0 (omega arith)).by_worker in
    record {
      apart = apart_append ts (concat xss) (apart_within ts (each 0 (omega arith)).rising) rest.apart (cross ts here (concat xss) rest.from);
      from = all_append (λ t. n ≤ t.by.worker) ts (concat xss) (equal ts here) (weaker (concat xss) rest.from);
    }
  where
    shift : (i : ℕ) → n + suc i ≡ suc n + i
    shift i = omega arith

    nothing_more : (m : ℕ) → m + 0 ≡ m
    nothing_more m = omega arith

    equal : (us : List Tried) → AllByRecursion (λ t. t.by.worker ≡ n) us → AllByRecursion (λ t. n ≤ t.by.worker) us
    equal [] all = tt
    equal (u ∷ us) all = (let e : u.by.worker ≡ n = all.0 in omega arith, equal us all.1)

    weaker : (us : List Tried) → AllByRecursion (λ t. suc n ≤ t.by.worker) us → AllByRecursion (λ t. n ≤ t.by.worker) us
    weaker [] all = tt
    weaker (u ∷ us) all = (let e : suc n ≤ u.by.worker = all.0 in omega arith, weaker us all.1)

    against : (t : Tried) → t.by.worker ≡ n → (us : List Tried) → AllByRecursion (λ u. suc n ≤ u.by.worker) us → AllByRecursion (λ u. is_attempt t.by u.by ≡ false) us
    against t e [] all = tt
    against t e (u ∷ us) all = (differ t.by u.by (λ same. (let le : suc n ≤ u.by.worker = all.0 in let w : t.by.worker ≡ u.by.worker = ap (λ (c : AttemptId). c.worker) same in omega arith)), against t e us all.1)

    cross : (us : List Tried) → AllByRecursion (λ t. t.by.worker ≡ n) us → (vs : List Tried) → AllByRecursion (λ u. suc n ≤ u.by.worker) vs → AllByRecursion (λ t. AllByRecursion (λ u. is_attempt t.by u.by ≡ false) vs) us
    cross [] all vs more = tt
    cross (u ∷ us) all vs more = (against u all.0 vs more, cross us all.1 vs more)

module _ (b : Beginning) (epoch : ℕ) where
  act_others : (c : AttemptId) (ts : List Tried) (all : AllByRecursion (IsTried b) ts) → AllByRecursion (λ u. is_attempt c u.by ≡ false) ts → AllByRecursion (λ d. is_attempt c d ≡ false) (map (λ (a : Act). a.by) (acts b epoch ts all))
  act_others c [] all other = tt
  act_others c (t ∷ ts) all other = from t.outcome (act_others c ts all.1 other.1)
    where
      from : (o : Outcome) → AllByRecursion (λ d. is_attempt c d ≡ false) (map (λ (a : Act). a.by) (acts b epoch ts all.1)) → AllByRecursion (λ d. is_attempt c d ≡ false) (map (λ (a : Act). a.by) (cons_option (act_of b epoch t all.0 o) (acts b epoch ts all.1)))
      from (Committed n reply) rest = (other.0, rest)
      from (Conflict why) rest = rest
      from OverTime rest = rest

  acts_distinct : (ts : List Tried) (all : AllByRecursion (IsTried b) ts) → Apart ts → IsDistinct is_attempt (map (λ (a : Act). a.by) (acts b epoch ts all))
  unfolding IsDistinct
  acts_distinct [] all apart = tt
  acts_distinct (t ∷ ts) all apart = from t.outcome (acts_distinct ts all.1 apart.1)
    where
      from : (o : Outcome) → IsDistinct is_attempt (map (λ (a : Act). a.by) (acts b epoch ts all.1)) → IsDistinct is_attempt (map (λ (a : Act). a.by) (cons_option (act_of b epoch t all.0 o) (acts b epoch ts all.1)))
      from (Committed n reply) rest = (act_others t.by ts all.1 apart.0, rest)
      from (Conflict why) rest = rest
      from OverTime rest = rest

-- ---- by time

pub flips : (c d : AttemptId) → is_attempt c d ≡ is_attempt d c
flips c d = by_bool (λ z. is_attempt c d ≡ z → z ≡ is_attempt d c) (is_attempt c d)
    (λ _ h. sym (subst (λ (e : AttemptId). is_attempt e c ≡ true) (one_attempt c d h) (attempt_itself c)))
    (λ _ h. sym (differ d c (λ same. not_both (is_attempt c d) (subst (λ (e : AttemptId). is_attempt c e ≡ true) (sym same) (attempt_itself c)) h))) refl

in_time : (d e : Done) → d.epoch ≡ e.epoch → (IsBefore e d → ⊥) → d.time ≤ e.time
in_time d e same not_before = elim (cases_lt e.time d.time) [ inl lt ↦ absurd (not_before (inr (sym same, inl lt))) | inr le ↦ le ]

pub rise_of : (epoch : ℕ) (acs : List Act) → AllByRecursion (λ (a : Act). a.done.epoch ≡ epoch) acs → AreInOrder (dones acs) → IsDistinct is_attempt (map (λ (a : Act). a.by) acs) → RiseInTime acs
unfolding IsDistinct
rise_of epoch [] same order distinct = tt
rise_of epoch (a ∷ acs) same order distinct = (later acs same.1 order.0 distinct.0, rise_of epoch acs same.1 order.1 distinct.1)
  where
    later : (bs : List Act) → AllByRecursion (λ (c : Act). c.done.epoch ≡ epoch) bs → AllByRecursion (λ e. IsBefore e a.done → ⊥) (dones bs) → AllByRecursion (λ c. is_attempt a.by c ≡ false) (map (λ (c : Act). c.by) bs)
        → (c : Act) → Among bs c → (a.done.time ≤ c.done.time) × (c.by ≡ a.by → ⊥)
    later [] epochs befores others c among = absurd among
    later (d ∷ bs) epochs befores others c (inl is) = subst (λ (z : Act). (a.done.time ≤ z.done.time) × (z.by ≡ a.by → ⊥)) is
        (in_time a.done d.done (same.0 ∙ sym epochs.0) befores.0, λ e. not_both (is_attempt a.by d.by) (subst (λ (z : AttemptId). is_attempt a.by z ≡ true) (sym e) (attempt_itself a.by)) others.0)
    later (d ∷ bs) epochs befores others c (inr more) = later bs epochs.1 befores.1 others.1 c more

-- ---- the commits of an execution

pub outcome_reply : (c : Option Why) (at : ℕ) (given : Reply) (n : ℕ) (reply : Reply) → outcome_of c at given ≡ Committed n reply → (given ≡ reply) × (at ≡ n)
outcome_reply (Some why) at given n reply h = absurd (apart h)
  where
    apart : Conflict why ≡ Committed n reply → ⊥
    apart g = cc
outcome_reply None at given n reply h =
    by_bool (λ b. cond b (Committed at given) OverTime ≡ Committed n reply → (given ≡ reply) × (at ≡ n)) (leb at most_time)
    (λ _ g. (let e : given ≡ reply = cc in e, let e : at ≡ n = cc in e)) (λ _ g. absurd (apart g)) h
  where
    apart : OverTime ≡ Committed n reply → ⊥
    apart g = cc

module _ (b : Beginning) (x : Execution) (is : IsExecution b x) (epoch : ℕ) where
  abbrev pub ts : List Tried
  ts = concat x.transcripts

  abbrev pub all : AllByRecursion (IsTried b) (concat x.transcripts)
  all = all_tried b x is

  abbrev pub every : List Act
  every = acts b epoch (concat x.transcripts) all

  -- ---- what acts write is what was installed

  pub act_installs : (a : Act) → Among every a → (k : RowKey) (v : Datum) → writes_at b.procs b.opening a k ≡ Some v → (e : Entry) × Among (on k (journal_on b x k)) e × Installs e a.done.time v × (e.ask.by ≡ a.by)
  act_installs a among k v wrote =
      let c : Committing b epoch ts a = act_from b epoch ts all a among in
      subst (λ (z : Act). (e : Entry) × Among (on k (journal_on b x k)) e × Installs e z.done.time v × (e.ask.by ≡ z.by)) (sym c.act_is)
      (write_installed b x is c.t c.tried k c.time c.reply v c.among c.outcome_is (subst (λ (z : Act). writes_at b.procs b.opening z k ≡ Some v) c.act_is wrote))

  pub install_acts : (k : RowKey) (e : Entry) (n : ℕ) (v : Datum) → Among (on k (journal_on b x k)) e → Installs e n v
      → (a : Act) × Among every a × (a.done.time ≡ n) × (writes_at b.procs b.opening a k ≡ Some v) × (a.by ≡ e.ask.by)
  install_acts k e n v among i =
      let found = installed_by b x is k e n v among i in
      let count : length x.transcripts ≡ b.workers = is.workers in
      let in_ts : Among (concat x.transcripts) found.0 = to_concat x.transcripts found.1 found.0 (let lt : found.1 < b.workers = found.2 in omega arith) found.3 in
      let w0 = found.5 (all_among (IsTried b) (concat x.transcripts) found.0 all in_ts) in
      let there = act_to b epoch (concat x.transcripts) all found.0 n w0.reply in_ts w0.outcome_is in
      (act b epoch found.0 there.0 n w0.reply, there.1, refl {a = n}, (found.5 there.0).write_is, found.4)

  good : (k : RowKey) → Good (resting (value_at b.opening k)) nobody (on k (journal_on b x k))
  good k = good_start (value_at b.opening) k (journal_on b x k) (orderly b x is k)

  -- ---- acts in some order

  module _ (acs : List Act) (to : (a : Act) → Among acs a → Among every a) (back : (a : Act) → Among every a → Among acs a) where
    last_below : (k : RowKey) (by : AttemptId) (n : ℕ) (v : Datum) → ReadsTheLast (value_at b.opening k) by n v (on k (journal_on b x k)) → LastBelow b.procs b.opening acs k n v
    last_below k by n v reads = from reads.last
      where
        none : ((e : Entry) (t : ℕ) (u : Option Value) → Among (on k (journal_on b x k)) e → Installs e t u → t < n → ⊥) → (a : Act) → Among acs a → a.done.time < n → (o : Option Datum) → writes_at b.procs b.opening a k ≡ o → o ≡ None
        none never a among lt None w = refl
        none never a among lt (Some u) w = let e = act_installs a (to a among) k u w in absurd (never e.0 a.done.time u e.1 e.2 lt)

        from : IsLastBelow (value_at b.opening k) (on k (journal_on b x k)) n v → LastBelow b.procs b.opening acs k n v
        from (inl (is_opening, never)) = inl (is_opening, λ a among lt. none never a among lt (writes_at b.procs b.opening a k) refl)
        from (inr (last, at, in_journal, installs, below, greatest)) =
            let a = install_acts k last at v in_journal installs in
            inr (
              a.0,
              back a.0 a.1,
              a.3,
              subst (λ (m : ℕ). m < n) (sym a.2) below,
              λ c u among lt w.
                  (let e = act_installs c (to c among) k u w in subst (λ (m : ℕ). c.done.time ≤ m) (sym a.2) (greatest e.0 c.done.time u e.1 e.2 lt)),
            )

    alone_at : (k : RowKey) (by : AttemptId) (n : ℕ) (v : Datum) → ReadsTheLast (value_at b.opening k) by n v (on k (journal_on b x k))
        → (c : Act) (u : Datum) → Among acs c → c.done.time ≡ n → writes_at b.procs b.opening c k ≡ Some u → c.by ≡ by
    alone_at k by n v reads c u among same w =
        let e = act_installs c (to c among) k u w in
        sym e.3 ∙ reads.alone e.0 u e.1 (subst (λ (m : ℕ). Installs e.0 m u) same e.2)

    reply_is : (t : Tried) (tried : IsTried b t) (n : ℕ) (reply : Reply) → t.outcome ≡ Committed n reply → reply ≡ (run b.procs tried.request.call tried.script.rows).reply
    reply_is t tried n reply out = from tried.request.call.snapshot tried.script.course
      where
        from : (snapshot : Bool) → IsAsked snapshot (run b.procs tried.request.call tried.script.rows) tried.script.rows tried.script.asked t.outcome → reply ≡ (run b.procs tried.request.call tried.script.rows).reply
        from true s = let both : Committed 0 (run b.procs tried.request.call tried.script.rows).reply ≡ Committed n reply = sym s.outcome_is ∙ out in let e : (run b.procs tried.request.call tried.script.rows).reply ≡ reply = cc in sym e
        from false s = sym (outcome_reply (option_or s.locking_conflict s.extending_conflict) (time_of s.reads s.locks) (run b.procs tried.request.call tried.script.rows).reply n reply (sym s.outcome_is ∙ out)).0

    pub right_of : (a : Act) → Committing b epoch ts a → IsRight b.procs b.opening acs a
    right_of a c =
        let reads : (k : RowKey) → Among (run b.procs c.tried.request.call c.tried.script.rows).needs k → ReadsWell b x is k c.t.by c.time (value_at c.tried.script.rows k) =
        reads_right b x is c.t c.tried c.time c.reply c.among c.outcome_is in
        subst (IsRight b.procs b.opening acs) (sym c.act_is) (record {
          reply = reply_is c.t c.tried c.time c.reply c.outcome_is;
          last = all_from _ (run b.procs c.tried.request.call c.tried.script.rows).needs (λ k needed. last_below k c.t.by c.time (value_at c.tried.script.rows k) (reads k needed).last);
          alone = all_from _ (run b.procs c.tried.request.call c.tried.script.rows).needs (λ k needed d u in_as same w. alone_at k c.t.by c.time (value_at c.tried.script.rows k) (reads k needed).last d u in_as same w);
        })

    pub right : (a : Act) → Among acs a → IsRight b.procs b.opening acs a
    right a among = right_of a (act_from b epoch ts all a (to a among))

    pub apart : ApartInTime b.procs b.opening acs
    apart a c k v w in_a in_c same wrote_a wrote_c =
        let e = act_installs a (to a in_a) k v wrote_a in
        let d = act_installs c (to c in_c) k w wrote_c in
        let one : e.0 ≡ d.0 = one_install (resting (value_at b.opening k)) nobody (on k (journal_on b x k)) (good k) e.0 d.0 a.done.time v w e.1 d.1 e.2 (subst (λ (m : ℕ). Installs d.0 m w) (sym same) d.2) in
        values e.0 d.0 e.2 d.2 one
      where
        values : (y z : Entry) → Installs y a.done.time v → Installs z c.done.time w → y ≡ z → v ≡ w
        values y z i j one = let ops = sym i.1 ∙ ap (λ (u : Entry). u.ask.op) one ∙ j.1 in cc

    pub serial_acts : RiseInTime acs → Serial b.procs b.opening b.opening [] acs
    serial_acts rise = serial b.procs b.opening acs right apart rise

    -- the map that the run leaves has the newest values
    pub newest_is : (s : Serial b.procs b.opening b.opening [] acs) (k : RowKey) → value_at (rows_after b.procs b.opening (dones acs)) k ≡ newest_at_end b x k
    newest_is s k =
        from (s.latest k) (last_written (resting (value_at b.opening k)) nobody (on k (journal_on b x k)) (good k))
        ∙ sym (ap (λ (r : RowState). r.newest) (law_walk (value_at b.opening) k [] (journal_on b x k) (lawful_told (value_at b.opening) (journal_on b x k) (orderly b x is k).lawful)))
      where
        from : ((value_at (rows_after b.procs b.opening (dones acs)) k ≡ value_at b.opening k) × ((a : Act) → Among acs a → writes_at b.procs b.opening a k ≡ None))
            ⊎ ((last : Act) × Among acs last × (writes_at b.procs b.opening last k ≡ Some (value_at (rows_after b.procs b.opening (dones acs)) k)) × ((a : Act) (v : Datum) → Among acs a → writes_at b.procs b.opening a k ≡ Some v → a.done.time ≤ last.done.time))
            → (((e : Entry) (t : ℕ) (v : Option Value) → Among (on k (journal_on b x k)) e → Installs e t v → ⊥) × ((walk (resting (value_at b.opening k)) (on k (journal_on b x k))).newest ≡ value_at b.opening k))
            ⊎ ((last : Entry) × Among (on k (journal_on b x k)) last × Installs last (walk (resting (value_at b.opening k)) (on k (journal_on b x k))).wts (walk (resting (value_at b.opening k)) (on k (journal_on b x k))).newest)
            → value_at (rows_after b.procs b.opening (dones acs)) k ≡ (walk (resting (value_at b.opening k)) (on k (journal_on b x k))).newest
        from (inl (is_opening, none)) (inl nothing) = is_opening ∙ sym nothing.1
        from (inl (is_opening, none)) (inr (last, in_journal, installs)) =
            let a = install_acts k last _ _ in_journal installs in absurd (none_some (sym (none a.0 (back a.0 a.1)) ∙ a.3))
        from (inr (last, in_as, wrote, greatest)) (inl nothing) =
            let e = act_installs last (to last in_as) k _ wrote in absurd (nothing.0 e.0 last.done.time _ e.1 e.2)
        from (inr (last, in_as, wrote, greatest)) (inr (entry, in_journal, installs)) =
            let a = install_acts k entry _ _ in_journal installs in
            let e = act_installs last (to last in_as) k _ wrote in
            let w : ℕ = (walk (resting (value_at b.opening k)) (on k (journal_on b x k))).wts in
            let within : last.done.time ≤ w = installs_within (resting (value_at b.opening k)) nobody (on k (journal_on b x k)) (good k) e.0 last.done.time _ e.1 e.2 in
            let at : a.0.done.time ≡ w = a.2 in
            let le : a.0.done.time ≤ last.done.time = greatest a.0 _ (back a.0 a.1) a.3 in
            let same : last.done.time ≡ a.0.done.time = omega arith in
            apart last a.0 k _ _ in_as (back a.0 a.1) same wrote a.3

  -- ---- these Dones

  pub every_epoch : (acs : List Act) → ((a : Act) → Among acs a → Among every a) → AllByRecursion (λ (a : Act). a.done.epoch ≡ epoch) acs
  every_epoch acs to = all_from _ acs (λ a among. (let c : Committing b epoch ts a = act_from b epoch ts all a (to a among) in ap (λ (z : Act). z.done.epoch) c.act_is))

  pub every_distinct : IsDistinct is_attempt (map (λ (a : Act). a.by) every)
  every_distinct = acts_distinct b epoch (concat x.transcripts) all (apart_all x.transcripts 0 (λ i lt. subst (λ (m : ℕ). AreOf m (get_or x.transcripts i [])) (from_zero i) (let count : length x.transcripts ≡ b.workers = is.workers in is.attempts i (omega arith)))).apart
    where
      from_zero : (i : ℕ) → i ≡ 0 + i
      from_zero i = omega arith

  pub timed_at : (a : Act) → Among every a → is_timed a.done.call.snapshot a.done.time ≡ true
  timed_at a among =
      let c : Committing b epoch ts a = act_from b epoch ts all a among in
      subst (λ (z : Act). is_timed z.done.call.snapshot z.done.time ≡ true) (sym c.act_is) (from c.t c.tried c.time c.reply c.outcome_is c.tried.request.call.snapshot c.tried.script.course)
    where
      from : (t : Tried) (tried : IsTried b t) (n : ℕ) (reply : Reply) → t.outcome ≡ Committed n reply → (snapshot : Bool) → IsAsked snapshot (run b.procs tried.request.call tried.script.rows) tried.script.rows tried.script.asked t.outcome → is_timed snapshot n ≡ true
      from t tried n reply out true s = let both : Committed 0 (run b.procs tried.request.call tried.script.rows).reply ≡ Committed n reply = sym s.outcome_is ∙ out in let now : 0 ≡ n = cc in ap (λ (m : ℕ). eqb m 0) (sym now)
      from t tried n reply out false s = ap (λ (m : ℕ). ltb 0 m) (sym (outcome_reply (option_or s.locking_conflict s.extending_conflict) (time_of s.reads s.locks) (run b.procs tried.request.call tried.script.rows).reply n reply (sym s.outcome_is ∙ out)).1) ∙ lt-ltb 0 (time_of s.reads s.locks) (omega arith)

  timed : (acs : List Act) → ((a : Act) → Among acs a → Among every a) → AreTimed (dones acs)
  timed [] to = tt
  timed (a ∷ acs) to = (timed_at a (to a (inl refl)), timed acs (λ c among. to c (inr among)))

  serial_of : (ds : List Done) → AreCommits b epoch x ds → Lifted (λ (a : Act). a.done) every ds → AreSerial b x ds
  serial_of ds of_it l =
      let is_ds : dones l.items ≡ ds = dones_map l.items ∙ l.made in
      let to : (a : Act) → Among l.items a → Among every a = λ a among. contains_among every a (Contains-permutation l.items every a (IsPermutation-sym every l.items l.same) (among_contains l.items a among)) in
      let back : (a : Act) → Among every a → Among l.items a = λ a among. contains_among l.items a (Contains-permutation every l.items a l.same (among_contains every a among)) in
      let distinct : IsDistinct is_attempt (map (λ (a : Act). a.by) l.items) =
      IsDistinct-IsPermutation is_attempt flips (map (λ (a : Act). a.by) every) (map (λ (a : Act). a.by) l.items) (IsPermutation-map (λ (a : Act). a.by) every l.items l.same) every_distinct in
      let rise : RiseInTime l.items = rise_of epoch l.items (every_epoch l.items to) (subst AreInOrder (sym is_ds) of_it.order) distinct in
      let s : Serial b.procs b.opening b.opening [] l.items = serial_acts l.items to back rise in
      subst (AreSerial b x) is_ds (record { replies = s.replies; times = timed l.items to; newest = newest_is l.items to back s })

  pub commits_serial : (ds : List Done) → AreCommits b epoch x ds → AreSerial b x ds
  commits_serial ds of_it =
      let given : commits b epoch x ≡ map (λ (a : Act). a.done) every = sym (acts_dones b epoch (concat x.transcripts) all) ∙ dones_map every in
      serial_of ds of_it (lifted (λ (a : Act). a.done) every ds (subst (λ (zs : List Done). IsPermutation zs ds) given of_it.same))

pub commits_are_serial : (b : Beginning) (x : Execution) → IsExecution b x → CommitsAreSerial b x
commits_are_serial b x is epoch ds of_it = commits_serial b x is epoch ds of_it
