-- The steps of an attempt's script on one key.
use Rattle.std.proofs.Common.{◌≡◌, ◌⊎◌, inl, inr, ℕ, suc, ◌<◌, ◌≤◌, ◌%◌, max, Bool, true, false, not, ◌&&◌, ◌||◌, cond, eqb, ltb, leb, List, [], ◌∷◌, ◌++◌, map, Option, None, Some, refl, sym, ap, ◌∙◌, subst, arith, append_assoc}
use Rattle.std.proofs.lemmas.List.{append-nil}
use Rattle.std.proofs.lemmas.Bool.{eqb-true, ltb-true, ltb-false}
use Rattle.std.specs.Option.{option_or}
use Rattle.std.specs.List.{filter, filter_map, cons_option, find, list_any, AllByRecursion}
use Rattle.coco_types.proofs.Keys.{is_key, one_key, key_itself}
use Rattle.coco_types.specs.Limits.{most_time}
use Rattle.coco_types.specs.RowKey.{RowKey}
use Rattle.coco_types.specs.declared.value.Value.{Value}
use Rattle.coco_types.specs.declared.call.AttemptId.{AttemptId}
use Rattle.coco_types.specs.declared.call.Write.{Write}
use Rattle.coco_types.specs.declared.call.Reply.{Reply}
use Rattle.coco_ast.specs.Keyed.{Rows, value_at}
use Rattle.coco_ast.specs.Meaning.{Run}
use Rattle.coco_shard.specs.declared.ops.Op.{Op}
use Rattle.coco_shard.specs.declared.ops.Op.TheVariants.{Read, Lock, Extend, Install, Release, Past}
use Rattle.coco_shard.specs.declared.ops.Ask.{Ask}
use Rattle.coco_shard.specs.declared.ops.Answer.{Answer}
use Rattle.coco_shard.specs.declared.ops.Answer.TheVariants.{Got, Locked, Marked, Changed, Extended, Installed, Released, NotMine, Stood}
use Rattle.coco_shard.specs.RowState.{RowState}
use Rattle.coco_shard.specs.Table.{key_of, answer_at, unless_marked, is_mark_of}
use Rattle.coco_shard.specs.Law.{greatest}
use Rattle.coco_occ.specs.Exchange.{Exchange, Found, ops_of, read, read_of, conflict_of, changed_since, shown_by, locked_by, MayAnswer}
use Rattle.coco_occ.specs.Script.{AskedAll, AskedTo, AskedUpTo, Reads as AreReads, Locks, time_of, needs_extension, extension, extensions_due, Extends, outcome_of, ends_of, IsTry}
use Rattle.coco_occ.specs.declared.outcome.Why.{Why}
use Rattle.coco_occ.specs.declared.outcome.Outcome.{Outcome}
use Rattle.coco_occ.specs.declared.outcome.Outcome.TheVariants.{Committed, Conflict, OverTime}
use Rattle.coco_order.proofs.Attempts.{by_bool, not_both, none_some, same_some}
use Rattle.coco_order.proofs.Needs.{Apart, at_most_one}

-- the exchanges on a key
abbrev pub keyed : RowKey → List Exchange → List Exchange
keyed k = filter (λ e. is_key k (key_of e.op))

abbrev pub exchange : Op → Answer → Exchange
exchange op answer = record { op = op; answer = answer }

-- ---- lists

pub filter_append : {X : Type 0} (p : X → Bool) (xs ys : List X) → filter p (xs ++ ys) ≡ filter p xs ++ filter p ys
filter_append p [] ys = refl
filter_append p (x ∷ xs) ys = by_bool (λ b. cond b (x ∷ filter p (xs ++ ys)) (filter p (xs ++ ys)) ≡ cond b (x ∷ filter p xs) (filter p xs) ++ filter p ys) (p x) (λ _. ap (λ zs. x ∷ zs) (filter_append p xs ys)) (λ _. filter_append p xs ys)

pub map_filter : {X Y : Type 0} (f : X → Y) (p : Y → Bool) (xs : List X) → map f (filter (λ x. p (f x)) xs) ≡ filter p (map f xs)
map_filter f p [] = refl
map_filter f p (x ∷ xs) = by_bool (λ b. map f (cond b (x ∷ filter (λ y. p (f y)) xs) (filter (λ y. p (f y)) xs)) ≡ cond b (f x ∷ filter p (map f xs)) (filter p (map f xs))) (p (f x)) (λ _. ap (λ zs. f x ∷ zs) (map_filter f p xs)) (λ _. map_filter f p xs)

pub swap_filters : {X : Type 0} (p q : X → Bool) (xs : List X) → filter p (filter q xs) ≡ filter q (filter p xs)
swap_filters p q [] = refl
swap_filters p q (x ∷ xs) = from (p x) (q x) refl refl (swap_filters p q xs)
  where
    from : (b c : Bool) → p x ≡ b → q x ≡ c → filter p (filter q xs) ≡ filter q (filter p xs) → filter p (cond c (x ∷ filter q xs) (filter q xs)) ≡ filter q (cond b (x ∷ filter p xs) (filter p xs))
    from true true t u rest = ap (λ z. cond z (x ∷ filter p (filter q xs)) (filter p (filter q xs))) t ∙ ap (λ ys. x ∷ ys) rest ∙ sym (ap (λ z. cond z (x ∷ filter q (filter p xs)) (filter q (filter p xs))) u)
    from true false t u rest = rest ∙ sym (ap (λ z. cond z (x ∷ filter q (filter p xs)) (filter q (filter p xs))) u)
    from false true t u rest = ap (λ z. cond z (x ∷ filter p (filter q xs)) (filter p (filter q xs))) t ∙ rest
    from false false t u rest = rest

pub all_kept : {X : Type 0} (P : X → Type 0) (p : X → Bool) (xs : List X) → AllByRecursion P xs → AllByRecursion P (filter p xs)
all_kept P p [] all = tt
all_kept P p (x ∷ xs) all = by_bool (λ b. AllByRecursion P (cond b (x ∷ filter p xs) (filter p xs))) (p x) (λ _. (all.0, all_kept P p xs all.1)) (λ _. all_kept P p xs all.1)

pub find_kept : {X : Type 0} (p : X → Bool) (xs : List X) (x : X) → filter p xs ≡ x ∷ [] → find p xs ≡ Some x
find_kept p [] x h = absurd (apart h)
  where
    apart : {X : Type 0} {x : X} → [] ≡ x ∷ [] → ⊥
    apart g = cc
find_kept p (y ∷ xs) x h =
    by_bool (λ b. cond b (y ∷ filter p xs) (filter p xs) ≡ x ∷ [] → cond b (Some y) (find p xs) ≡ Some x) (p y) (λ _ g. (let e : y ≡ x = cc in ap Some e)) (λ _ g. find_kept p xs x g) h

-- ---- asked, by the operations

pub ops_keyed : (k : RowKey) (xs : List Exchange) → ops_of (keyed k xs) ≡ filter (λ o. is_key k (key_of o)) (ops_of xs)
ops_keyed k xs = map_filter (λ (e : Exchange). e.op) (λ o. is_key k (key_of o)) xs

pub nothing_asked : (xs : List Exchange) → ops_of xs ≡ [] → xs ≡ []
nothing_asked [] h = refl
nothing_asked (x ∷ xs) h = absurd (apart h)
  where
    apart : x.op ∷ ops_of xs ≡ [] → ⊥
    apart g = cc

pub one_asked : (xs : List Exchange) (op : Op) → ops_of xs ≡ op ∷ [] → (answer : Answer) × (xs ≡ exchange op answer ∷ [])
one_asked [] op h = absurd (apart h)
  where
    apart : [] ≡ op ∷ [] → ⊥
    apart g = cc
one_asked (x ∷ xs) op h =
    let same : x.op ≡ op = cc in
    let none : ops_of xs ≡ [] = cc in
    (x.answer, ap (λ (ys : List Exchange). x ∷ ys) (nothing_asked xs none) ∙ ap (λ (o : Op). exchange o x.answer ∷ []) same)

up_to_none : (xs : List Exchange) (rest : List Op) → [] ≡ ops_of xs ++ rest → xs ≡ []
up_to_none [] rest h = refl
up_to_none (x ∷ xs) rest h = absurd (apart h)
  where
    apart : [] ≡ x.op ∷ (ops_of xs ++ rest) → ⊥
    apart g = cc

up_to_one : (xs : List Exchange) (op : Op) (rest : List Op) → op ∷ [] ≡ ops_of xs ++ rest → (xs ≡ []) ⊎ ((answer : Answer) × (xs ≡ exchange op answer ∷ []))
up_to_one [] op rest h = inl refl
up_to_one (x ∷ xs) op rest h =
    let same : x.op ≡ op = cc in
    let none : [] ≡ ops_of xs ++ rest = cc in
    inr (x.answer, ap (λ (ys : List Exchange). x ∷ ys) (up_to_none xs rest none) ∙ ap (λ (o : Op). exchange o x.answer ∷ []) same)

asked_first : (conflict_of : Exchange → Option Why) (ops : List Op) (asked : List Exchange) (why : Option Why) → AskedUpTo conflict_of ops asked why → (rest : List Op) × (ops ≡ ops_of asked ++ rest)
asked_first c ops asked None h = ([], sym h.all ∙ sym (append-nil (ops_of asked)))
asked_first c ops asked (Some why) h = (h.unasked, h.first)

-- ---- the time

greatest_first : (n : ℕ) (ts : List ℕ) → n ≤ greatest n ts
greatest_first n [] = omega arith
greatest_first n (t ∷ ts) = let le : n ≤ greatest n ts = greatest_first n ts in omega arith

read_below : (n : ℕ) (reads : List Found) → AllByRecursion (λ f. f.wts ≤ greatest n (map (λ g. g.wts) reads)) reads
read_below n [] = tt
read_below n (f ∷ reads) = (omega arith, weaker reads (read_below n reads))
  where
    weaker : (fs : List Found) → AllByRecursion (λ g. g.wts ≤ greatest n (map (λ h. h.wts) reads)) fs → AllByRecursion (λ g. g.wts ≤ max f.wts (greatest n (map (λ h. h.wts) reads))) fs
    weaker [] all = tt
    weaker (g ∷ fs) all = (let le : g.wts ≤ greatest n (map (λ h. h.wts) reads) = all.0 in omega arith, weaker fs all.1)

abbrev pub ShownBelow : ℕ → Exchange → Type 0
ShownBelow n e = (r : ℕ) → shown_by e ≡ Some r → r ≤ n

shown_below : (n : ℕ) (locks : List Exchange) → AllByRecursion (ShownBelow (greatest n (filter_map shown_by locks))) locks
shown_below n [] = tt
shown_below n (e ∷ locks) = (here (shown_by e), weaker (shown_by e) locks (shown_below n locks))
  where
    here : (o : Option ℕ) (r : ℕ) → o ≡ Some r → r ≤ greatest n (cons_option o (filter_map shown_by locks))
    here None r h = absurd (none_some h)
    here (Some u) r h = let same : u ≡ r = same_some h in omega arith

    weaker : (o : Option ℕ) (ds : List Exchange) → AllByRecursion (ShownBelow (greatest n (filter_map shown_by locks))) ds → AllByRecursion (ShownBelow (greatest n (cons_option o (filter_map shown_by locks)))) ds
    weaker None ds all = all
    weaker (Some u) [] all = tt
    weaker (Some u) (d ∷ ds) all = ((λ r h. (let le : r ≤ greatest n (filter_map shown_by locks) = all.0 r h in omega arith)), weaker (Some u) ds all.1)

-- ---- answers

pub lock_answers : (key : RowKey) (by : AttemptId) (answer : Answer) → MayAnswer (record { by = by; op = Lock key }) answer → ((wts : ℕ) × (rts : ℕ) × (answer ≡ Locked wts rts)) ⊎ ((holder : AttemptId) × (answer ≡ Marked holder))
lock_answers key by answer may = from may.0.mark may.1
  where
    from : (mark : Option AttemptId) → answer ≡ unless_marked mark by (Locked may.0.wts may.0.rts) → ((wts : ℕ) × (rts : ℕ) × (answer ≡ Locked wts rts)) ⊎ ((holder : AttemptId) × (answer ≡ Marked holder))
    from None h = inl (may.0.wts, may.0.rts, h)
    from (Some holder) h = by_bool (λ b. answer ≡ cond b (Locked may.0.wts may.0.rts) (Marked holder) → ((wts : ℕ) × (rts : ℕ) × (answer ≡ Locked wts rts)) ⊎ ((holder : AttemptId) × (answer ≡ Marked holder))) (is_mark_of by (Some holder))
        (λ _ g. inl (may.0.wts, may.0.rts, g)) (λ _ g. inr (holder, g)) h

locked_cases : (op : Op) (answer : Answer) → (locked_by (exchange op answer) ≡ None) ⊎ (locked_by (exchange op answer) ≡ Some (key_of op))
locked_cases op (Locked wts rts) = inr refl
locked_cases op (Got wts rts value) = inl refl
locked_cases op (Marked holder) = inl refl
locked_cases op (Changed wts) = inl refl
locked_cases op Extended = inl refl
locked_cases op Installed = inl refl
locked_cases op Released = inl refl
locked_cases op (NotMine mark) = inl refl
locked_cases op (Stood value) = inl refl

pub locked_keyed : (k : RowKey) (locks : List Exchange) → filter (is_key k) (filter_map locked_by locks) ≡ filter_map locked_by (keyed k locks)
locked_keyed k [] = refl
locked_keyed k (e ∷ locks) =
    elim (locked_cases e.op e.answer) [
      | inl none ↦
          ap (λ (o : Option RowKey). filter (is_key k) (cons_option o (filter_map locked_by locks))) none ∙ locked_keyed k locks
          ∙ by_bool (λ b. filter_map locked_by (keyed k locks) ≡ filter_map locked_by (cond b (e ∷ keyed k locks) (keyed k locks))) (is_key k (key_of e.op))
          (λ _. sym (ap (λ (o : Option RowKey). cons_option o (filter_map locked_by (keyed k locks))) none)) (λ _. refl)
      | inr some ↦
          ap (λ (o : Option RowKey). filter (is_key k) (cons_option o (filter_map locked_by locks))) some
          ∙ by_bool (λ b. cond b (key_of e.op ∷ filter (is_key k) (filter_map locked_by locks)) (filter (is_key k) (filter_map locked_by locks)) ≡ filter_map locked_by (cond b (e ∷ keyed k locks) (keyed k locks))) (is_key k (key_of e.op))
          (λ _. ap (λ (ks : List RowKey). key_of e.op ∷ ks) (locked_keyed k locks) ∙ sym (ap (λ (o : Option RowKey). cons_option o (filter_map locked_by (keyed k locks))) some)) (λ _. locked_keyed k locks)
    ]

-- ---- a try, on a key

module _ (r : Run) (m : Rows) (asked : List Exchange) (outcome : Outcome) (t : IsTry r m asked outcome) (needs : Apart r.needs) (writes : Apart (map (λ w. w.key) r.writes)) (k : RowKey) where
  abbrev pub time : ℕ
  time = time_of t.reads t.locks

  abbrev pub finds : List Found
  finds = filter (λ f. is_key k f.key) t.reads

  abbrev pub written : List Write
  written = filter (λ w. is_key k w.key) r.writes

  pub whole : keyed k asked ≡ map read finds ++ (keyed k t.locks ++ (keyed k t.extensions ++ keyed k t.ends))
  whole =
      let p : Exchange → Bool = λ e. is_key k (key_of e.op) in
      let rs : List Exchange = map read t.reads in
      let grouped : asked ≡ rs ++ (t.locks ++ (t.extensions ++ t.ends)) = t.parts ∙ append_assoc (rs ++ t.locks) t.extensions t.ends ∙ append_assoc rs t.locks (t.extensions ++ t.ends) in
      let first : keyed k asked ≡ keyed k rs ++ keyed k (t.locks ++ (t.extensions ++ t.ends)) = ap (keyed k) grouped ∙ filter_append p rs (t.locks ++ (t.extensions ++ t.ends)) in
      let second : keyed k (t.locks ++ (t.extensions ++ t.ends)) ≡ keyed k t.locks ++ keyed k (t.extensions ++ t.ends) = filter_append p t.locks (t.extensions ++ t.ends) in
      let third : keyed k (t.extensions ++ t.ends) ≡ keyed k t.extensions ++ keyed k t.ends = filter_append p t.extensions t.ends in
      let reads : keyed k rs ≡ map read finds = sym (map_filter read p t.reads) in
      first ∙ ap (λ (xs : List Exchange). xs ++ keyed k (t.locks ++ (t.extensions ++ t.ends))) reads
      ∙ ap (λ (xs : List Exchange). map read finds ++ xs) (second ∙ ap (λ (xs : List Exchange). keyed k t.locks ++ xs) third)

  pub find_cases : (finds ≡ []) ⊎ ((f : Found) × (finds ≡ f ∷ []) × (k ≡ f.key))
  find_cases = at_most_one (λ (f : Found). f.key) k t.reads (subst Apart (sym t.reading.keys) needs)

  pub write_cases : (written ≡ []) ⊎ ((w : Write) × (written ≡ w ∷ []) × (k ≡ w.key))
  write_cases = at_most_one (λ (w : Write). w.key) k r.writes writes

  -- ---- locks

  pub locks_first : (rest : List Op) × (map (λ w. Lock w.key) written ≡ ops_of (keyed k t.locks) ++ rest)
  locks_first =
      let first = asked_first (conflict_of t.reads) (map (λ w. Lock w.key) r.writes) t.locks t.locking_conflict t.locking in (
        filter (λ o. is_key k (key_of o)) first.0,
        map_filter (λ (w : Write). Lock w.key) (λ o. is_key k (key_of o)) r.writes ∙ ap (filter (λ o. is_key k (key_of o))) first.1
            ∙ filter_append _ (ops_of t.locks) first.0 ∙ ap (λ (os : List Op). os ++ filter (λ o. is_key k (key_of o)) first.0) (sym (ops_keyed k t.locks)),
      )

  pub no_lock : written ≡ [] → keyed k t.locks ≡ []
  no_lock none = up_to_none (keyed k t.locks) locks_first.0 (sym (ap (map (λ (w : Write). Lock w.key)) none) ∙ locks_first.1)

  pub a_lock : (w : Write) → written ≡ w ∷ [] → (keyed k t.locks ≡ []) ⊎ ((answer : Answer) × (keyed k t.locks ≡ exchange (Lock w.key) answer ∷ []))
  a_lock w one = up_to_one (keyed k t.locks) (Lock w.key) locks_first.0 (sym (ap (map (λ (v : Write). Lock v.key)) one) ∙ locks_first.1)

  pub the_lock : t.locking_conflict ≡ None → (w : Write) → written ≡ w ∷ [] → (answer : Answer) × (keyed k t.locks ≡ exchange (Lock w.key) answer ∷ []) × (conflict_of t.reads (exchange (Lock w.key) answer) ≡ None)
  the_lock none w one =
      let all : AskedAll (conflict_of t.reads) (map (λ w. Lock w.key) r.writes) t.locks = subst (λ (c : Option Why). AskedUpTo (conflict_of t.reads) (map (λ w. Lock w.key) r.writes) t.locks c) none t.locking in
      let ops : ops_of (keyed k t.locks) ≡ Lock w.key ∷ [] =
      ops_keyed k t.locks ∙ ap (filter (λ o. is_key k (key_of o))) all.all ∙ sym (map_filter (λ (v : Write). Lock v.key) (λ o. is_key k (key_of o)) r.writes) ∙ ap (map (λ (v : Write). Lock v.key)) one in
      let found = one_asked (keyed k t.locks) (Lock w.key) ops in
      let clear : AllByRecursion (λ e. conflict_of t.reads e ≡ None) (exchange (Lock w.key) found.0 ∷ []) =
      subst (λ (xs : List Exchange). AllByRecursion (λ e. conflict_of t.reads e ≡ None) xs) found.1 (all_kept _ (λ e. is_key k (key_of e.op)) t.locks all.clear) in
      (found.0, found.1, clear.0)

  pub shown_at : (op : Op) (answer : Answer) → keyed k t.locks ≡ exchange op answer ∷ [] → (n : ℕ) → shown_by (exchange op answer) ≡ Some n → n < time
  shown_at op answer is n shown =
      let all : AllByRecursion (ShownBelow (greatest (greatest 0 (map (λ f. f.wts) t.reads)) (filter_map shown_by t.locks))) (exchange op answer ∷ []) =
      subst (λ (xs : List Exchange). AllByRecursion (ShownBelow (greatest (greatest 0 (map (λ f. f.wts) t.reads)) (filter_map shown_by t.locks))) xs) is
      (all_kept _ (λ e. is_key k (key_of e.op)) t.locks (shown_below (greatest 0 (map (λ f. f.wts) t.reads)) t.locks)) in
      let le : n ≤ greatest (greatest 0 (map (λ f. f.wts) t.reads)) (filter_map shown_by t.locks) = all.0 n shown in omega arith

  pub read_at : (f : Found) → finds ≡ f ∷ [] → f.wts < time
  read_at f is =
      let all : AllByRecursion (λ g. g.wts ≤ greatest 0 (map (λ h. h.wts) t.reads)) (f ∷ []) =
      subst (λ (fs : List Found). AllByRecursion (λ g. g.wts ≤ greatest 0 (map (λ h. h.wts) t.reads)) fs) is (all_kept _ (λ g. is_key k g.key) t.reads (read_below 0 t.reads)) in
      let le : f.wts ≤ greatest 0 (map (λ h. h.wts) t.reads) = all.0 in
      let more : greatest 0 (map (λ h. h.wts) t.reads) ≤ greatest (greatest 0 (map (λ h. h.wts) t.reads)) (filter_map shown_by t.locks) = greatest_first (greatest 0 (map (λ h. h.wts) t.reads)) (filter_map shown_by t.locks) in
      omega arith

  -- ---- extensions

  abbrev due : List Found
  due = filter (needs_extension time r.writes) t.reads

  pub due_keyed : filter (λ o. is_key k (key_of o)) (map (extension time) due) ≡ map (extension time) (filter (needs_extension time r.writes) finds)
  due_keyed =
      sym (map_filter (extension time) (λ o. is_key k (key_of o)) due)
      ∙ ap (map (extension time)) (swap_filters (λ f. is_key k f.key) (needs_extension time r.writes) t.reads)

  pub no_extension : filter (needs_extension time r.writes) finds ≡ [] → keyed k t.extensions ≡ []
  no_extension none =
      let first = asked_first (conflict_of t.reads) (extensions_due t.locking_conflict time r.writes t.reads) t.extensions t.extending_conflict t.extending in
      up_to_none (keyed k t.extensions) (filter (λ o. is_key k (key_of o)) first.0)
      (sym (nothing_due t.locking_conflict) ∙ ap (filter (λ o. is_key k (key_of o))) first.1 ∙ filter_append _ (ops_of t.extensions) first.0
      ∙ ap (λ (os : List Op). os ++ filter (λ o. is_key k (key_of o)) first.0) (sym (ops_keyed k t.extensions)))
    where
      nothing_due : (c : Option Why) → filter (λ o. is_key k (key_of o)) (extensions_due c time r.writes t.reads) ≡ []
      nothing_due (Some why) = refl
      nothing_due None = by_bool (λ b. filter (λ o. is_key k (key_of o)) (cond b (map (extension time) due) []) ≡ []) (leb time most_time) (λ _. due_keyed ∙ ap (map (extension time)) none) (λ _. refl)
