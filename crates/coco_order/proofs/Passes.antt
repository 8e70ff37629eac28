-- The steps of an attempt on a key, in the journal of the key's shard, are those of its script.
use Rattle.std.proofs.Common.{◌≡◌, ◌⊎◌, inl, inr, ℕ, ◌<◌, ◌≤◌, ◌%◌, Bool, true, false, cond, eqb, List, [], ◌∷◌, ◌++◌, map, Option, None, Some, refl, sym, ap, ◌∙◌, subst, arith}
use Rattle.std.proofs.lemmas.List.{append-nil}
use Rattle.std.proofs.lemmas.Bool.{eqb-true, eq-eqb, ne_eqb}
use Rattle.std.specs.List.{filter, AllByRecursion}
use Rattle.coco_types.proofs.Keys.{is_key, one_key}
use Rattle.coco_types.specs.RowKey.{RowKey}
use Rattle.coco_types.specs.declared.call.AttemptId.{AttemptId}
use Rattle.coco_shard.specs.declared.ops.Ask.{Ask}
use Rattle.coco_shard.specs.declared.ops.Answer.{Answer}
use Rattle.coco_shard.specs.Table.{key_of}
use Rattle.coco_shard.specs.Law.{Entry}
use Rattle.coco_journaled.specs.declared.entry.Entry.{Entry as Logged}
use Rattle.coco_occ.specs.declared.script.Step.{Step}
use Rattle.coco_order.specs.OneKey.{Among, is_attempt, own, on}
use Rattle.coco_occ.specs.declared.outcome.Tried.{Tried}
use Rattle.coco_occ.specs.Steps.{at_shard, taken}
use Rattle.coco_order.specs.Execution.{Beginning, Execution, Journal, Transcript, IsTried, AreOf, RiseByNumber, IsExecution, journal_of, journal_on, transcript_of, logged, steps_of, of_pass, all_at_shard}
use Rattle.coco_order.proofs.Attempts.{one_attempt, attempt_itself, by_bool, not_both}
use Rattle.coco_order.proofs.Chains.{own_append}
use Rattle.std.proofs.lemmas.Nat.{mod_below}

-- ---- a pass is a worker's

all_mapped : {X Y : Type 0} (P : Y → Type 0) (f : X → Y) (xs : List X) → AllByRecursion (λ x. P (f x)) xs → AllByRecursion P (map f xs)
all_mapped P f [] all = tt
all_mapped P f (x ∷ xs) all = (all.0, all_mapped P f xs all.1)

pub all_append : {X : Type 0} (P : X → Type 0) (xs ys : List X) → AllByRecursion P xs → AllByRecursion P ys → AllByRecursion P (xs ++ ys)
all_append P [] ys all more = more
all_append P (x ∷ xs) ys all more = (all.0, all_append P xs ys all.1 more)

pub all_filtered : {X : Type 0} (P : X → Type 0) (p : X → Bool) (xs : List X) → AllByRecursion P xs → AllByRecursion P (filter p xs)
all_filtered P p [] all = tt
all_filtered P p (x ∷ xs) all = by_bool (λ b. AllByRecursion P (cond b (x ∷ filter p xs) (filter p xs))) (p x) (λ _. (all.0, all_filtered P p xs all.1)) (λ _. all_filtered P p xs all.1)

pub all_weaker : {X : Type 0} (P Q : X → Type 0) (xs : List X) → ((x : X) → P x → Q x) → AllByRecursion P xs → AllByRecursion Q xs
all_weaker P Q [] weaker all = tt
all_weaker P Q (x ∷ xs) weaker all = (weaker x all.0, all_weaker P Q xs weaker all.1)

pub all_among : {X : Type 0} (P : X → Type 0) (xs : List X) (x : X) → AllByRecursion P xs → Among xs x → P x
all_among P [] x all h = absurd h
all_among P (y ∷ ys) x all (inl e) = subst P e all.0
all_among P (y ∷ ys) x all (inr h) = all_among P ys x all.1 h

-- each ask of a script is by its attempt, and is sent to its key's shard
pub record IsSent (partitions : ℕ) (by : AttemptId) (s : Step) : Type 0 where
  pub by_attempt : s.ask.by ≡ by
  pub to_shard : s.shard ≡ (key_of s.ask.op).row % partitions

abbrev pub AreSent : ℕ → Tried → Type 0
AreSent partitions t = AllByRecursion (IsSent partitions t.by) t.script

by_attempt_at : (partitions shard : ℕ) (by : AttemptId) (script : List Step) → AllByRecursion (IsSent partitions by) script → AllByRecursion (λ e. e.ask.by ≡ by) (at_shard shard script)
by_attempt_at partitions shard by script sent =
    all_mapped (λ e. e.ask.by ≡ by) taken (filter (λ s. eqb s.shard shard) script)
    (all_filtered (λ s. s.ask.by ≡ by) (λ s. eqb s.shard shard) script (all_weaker (IsSent partitions by) (λ s. s.ask.by ≡ by) script (λ s is. is.by_attempt) sent))

by_worker_at : (partitions shard worker : ℕ) (ts : Transcript) → AllByRecursion (AreSent partitions) ts → AllByRecursion (λ t. t.by.worker ≡ worker) ts → AllByRecursion (λ e. e.ask.by.worker ≡ worker) (all_at_shard shard ts)
by_worker_at partitions shard worker [] sent all = tt
by_worker_at partitions shard worker (t ∷ ts) sent all =
    all_append (λ e. e.ask.by.worker ≡ worker) (at_shard shard t.script) (all_at_shard shard ts)
    (all_weaker (λ e. e.ask.by ≡ t.by) (λ e. e.ask.by.worker ≡ worker) (at_shard shard t.script) (λ e is. ap (λ (a : AttemptId). a.worker) is ∙ all.0) (by_attempt_at partitions shard t.by t.script sent.0))
    (by_worker_at partitions shard worker ts sent.1 all.1)

abbrev OfWorker : ℕ → List Entry → Type 0
OfWorker worker es = AllByRecursion (λ e. e.ask.by.worker ≡ worker) es

pass_head : (e : Logged Ask Answer) (rest : Journal) → OfWorker e.pass (of_pass e.pass (e ∷ rest)) → e.ask.by.worker ≡ e.pass
pass_head e rest h =
    let t : OfWorker e.pass (steps_of (e ∷ filter (λ d. eqb d.pass e.pass) rest)) =
    subst (λ (b : Bool). OfWorker e.pass (steps_of (cond b (e ∷ filter (λ d. eqb d.pass e.pass) rest) (filter (λ d. eqb d.pass e.pass) rest)))) (eq-eqb e.pass e.pass refl) h in
    t.0

pass_tail : (worker : ℕ) (e : Logged Ask Answer) (rest : Journal) → OfWorker worker (of_pass worker (e ∷ rest)) → OfWorker worker (of_pass worker rest)
pass_tail worker e rest h =
    by_bool (λ b. OfWorker worker (steps_of (cond b (e ∷ filter (λ d. eqb d.pass worker) rest) (filter (λ d. eqb d.pass worker) rest))) → OfWorker worker (of_pass worker rest)) (eqb e.pass worker) (λ _ t. t.1) (λ _ t. t) h

pass_is_worker : (workers : ℕ) (journal : Journal) → ((worker : ℕ) → worker < workers → OfWorker worker (of_pass worker journal)) → AllByRecursion (λ e. e.pass < workers) journal
    → AllByRecursion (λ e. e.pass ≡ e.ask.by.worker) journal
pass_is_worker workers [] each below = tt
pass_is_worker workers (e ∷ rest) each below =
    (sym (pass_head e rest (each e.pass below.0)), pass_is_worker workers rest (λ worker lt. pass_tail worker e rest (each worker lt)) below.1)

own_of_pass : (a : AttemptId) (journal : Journal) → AllByRecursion (λ e. e.pass ≡ e.ask.by.worker) journal → own a (steps_of journal) ≡ own a (of_pass a.worker journal)
own_of_pass a [] all = refl
own_of_pass a (e ∷ rest) all =
    by_bool (λ b. eqb e.pass a.worker ≡ b → cond (is_attempt e.ask.by a) (logged e ∷ own a (steps_of rest)) (own a (steps_of rest)) ≡ own a (steps_of (cond b (e ∷ filter (λ d. eqb d.pass a.worker) rest) (filter (λ d. eqb d.pass a.worker) rest))))
    (eqb e.pass a.worker)
    (λ _ _. ap (λ (es : List Entry). cond (is_attempt e.ask.by a) (logged e ∷ es) es) (own_of_pass a rest all.1))
    (λ _ f. ap (λ (b : Bool). cond b (logged e ∷ own a (steps_of rest)) (own a (steps_of rest))) (other f) ∙ own_of_pass a rest all.1)
    refl
  where
    other : eqb e.pass a.worker ≡ false → is_attempt e.ask.by a ≡ false
    other f = by_bool (λ b. is_attempt e.ask.by a ≡ b → b ≡ false) (is_attempt e.ask.by a)
        (λ _ t. absurd (not_both (eqb e.pass a.worker) (eq-eqb e.pass a.worker (all.0 ∙ ap (λ (c : AttemptId). c.worker) (one_attempt e.ask.by a t))) f)) (λ _ _. refl) refl

pub no_pass : (workers worker : ℕ) (journal : Journal) → AllByRecursion (λ e. e.pass < workers) journal → workers ≤ worker → of_pass worker journal ≡ []
no_pass workers worker [] below le = refl
no_pass workers worker (e ∷ rest) below le =
    let other : eqb e.pass worker ≡ false = ne_eqb e.pass worker (λ same. (let lt : e.pass < workers = below.0 in omega arith)) in
    ap (λ (b : Bool). steps_of (cond b (e ∷ filter (λ d. eqb d.pass worker) rest) (filter (λ d. eqb d.pass worker) rest))) other ∙ no_pass workers worker rest below.1 le

-- ---- one attempt's steps are its script's

abbrev pub script_of : AttemptId → Transcript → List Step
script_of a [] = []
script_of a (t ∷ ts) = cond (is_attempt t.by a) t.script (script_of a ts)

own_uniform : (a c : AttemptId) (es : List Entry) → AllByRecursion (λ e. e.ask.by ≡ c) es → own a es ≡ cond (is_attempt c a) es []
own_uniform a c [] all = nothing (is_attempt c a)
  where
    nothing : (b : Bool) → ◌≡◌ {A = List Entry} [] (cond b [] [])
    nothing true = refl
    nothing false = refl
own_uniform a c (e ∷ es) all =
    ap (λ (d : AttemptId). cond (is_attempt d a) (e ∷ own a es) (own a es)) all.0 ∙ ap (λ (xs : List Entry). cond (is_attempt c a) (e ∷ xs) xs) (own_uniform a c es all.1)
    ∙ by_bool (λ b. cond b (e ∷ cond b es []) (cond b es []) ≡ cond b (e ∷ es) []) (is_attempt c a) (λ _. refl) (λ _. refl)

own_nothing : (partitions shard : ℕ) (a : AttemptId) (ts : Transcript) → AllByRecursion (AreSent partitions) ts → AllByRecursion (λ t. is_attempt t.by a ≡ false) ts → own a (all_at_shard shard ts) ≡ []
own_nothing partitions shard a [] sent all = refl
own_nothing partitions shard a (t ∷ ts) sent all =
    own_append a (at_shard shard t.script) (all_at_shard shard ts)
    ∙ ap (λ (xs : List Entry). xs ++ own a (all_at_shard shard ts)) (own_uniform a t.by (at_shard shard t.script) (by_attempt_at partitions shard t.by t.script sent.0) ∙ ap (λ (b : Bool). cond b (at_shard shard t.script) []) all.0)
    ∙ own_nothing partitions shard a ts sent.1 all.1

later_others : (t : Tried) (ts : Transcript) (a : AttemptId) → is_attempt t.by a ≡ true → AllByRecursion (λ u. t.by.number < u.by.number) ts → AllByRecursion (λ u. is_attempt u.by a ≡ false) ts
later_others t ts a mine all = all_weaker (λ u. t.by.number < u.by.number) (λ u. is_attempt u.by a ≡ false) ts other all
  where
    other : (u : Tried) → t.by.number < u.by.number → is_attempt u.by a ≡ false
    other u lt = by_bool (λ b. is_attempt u.by a ≡ b → b ≡ false) (is_attempt u.by a)
        (λ _ h. absurd (let e : t.by.number ≡ u.by.number = ap (λ (c : AttemptId). c.number) (one_attempt t.by a mine ∙ sym (one_attempt u.by a h)) in omega arith)) (λ _ _. refl) refl

own_script : (partitions shard : ℕ) (a : AttemptId) (ts : Transcript) → AllByRecursion (AreSent partitions) ts → RiseByNumber ts → own a (all_at_shard shard ts) ≡ at_shard shard (script_of a ts)
own_script partitions shard a [] sent rising = refl
own_script partitions shard a (t ∷ ts) sent rising =
    own_append a (at_shard shard t.script) (all_at_shard shard ts)
    ∙ ap (λ (xs : List Entry). xs ++ own a (all_at_shard shard ts)) (own_uniform a t.by (at_shard shard t.script) (by_attempt_at partitions shard t.by t.script sent.0))
    ∙ by_bool (λ b. is_attempt t.by a ≡ b → cond b (at_shard shard t.script) [] ++ own a (all_at_shard shard ts) ≡ at_shard shard (cond b t.script (script_of a ts))) (is_attempt t.by a)
    (λ _ mine. ap (λ (xs : List Entry). at_shard shard t.script ++ xs) (own_nothing partitions shard a ts sent.1 (later_others t ts a mine rising.0)) ∙ append-nil (at_shard shard t.script))
    (λ _ _. own_script partitions shard a ts sent.1 rising.1) refl

pub script_found : (ts : Transcript) (t : Tried) → RiseByNumber ts → Among ts t → script_of t.by ts ≡ t.script
script_found [] t rising h = absurd h
script_found (u ∷ ts) t rising (inl same) = subst (λ (x : Tried). cond (is_attempt u.by x.by) u.script (script_of x.by ts) ≡ x.script) same (ap (λ (b : Bool). cond b u.script (script_of u.by ts)) (attempt_itself u.by))
script_found (u ∷ ts) t rising (inr more) =
    by_bool (λ b. is_attempt u.by t.by ≡ b → cond b u.script (script_of t.by ts) ≡ t.script) (is_attempt u.by t.by)
    (λ _ mine. absurd (let lt : u.by.number < t.by.number = all_among (λ v. u.by.number < v.by.number) ts t rising.0 more in let e : u.by.number ≡ t.by.number = ap (λ (c : AttemptId). c.number) (one_attempt u.by t.by mine) in omega arith))
    (λ _ _. script_found ts t rising.1 more) refl

pub script_cases : (a : AttemptId) (ts : Transcript) → (script_of a ts ≡ []) ⊎ ((t : Tried) × Among ts t × (t.by ≡ a) × (script_of a ts ≡ t.script))
script_cases a [] = inl refl
script_cases a (t ∷ ts) =
    by_bool (λ b. is_attempt t.by a ≡ b → (cond b t.script (script_of a ts) ≡ []) ⊎ ((u : Tried) × Among (t ∷ ts) u × (u.by ≡ a) × (cond b t.script (script_of a ts) ≡ u.script))) (is_attempt t.by a)
    (λ _ mine. inr (t, inl refl, one_attempt t.by a mine, refl))
    (λ _ _. elim (script_cases a ts) [ inl none ↦ inl none | inr some ↦ inr (some.0, inr some.1, some.2, some.3) ]) refl

-- ---- on a key

on_shard : (partitions : ℕ) (by : AttemptId) (k : RowKey) (script : List Step) → AllByRecursion (IsSent partitions by) script → on k (at_shard (k.row % partitions) script) ≡ on k (map taken script)
on_shard partitions by k [] sent = refl
on_shard partitions by k (s ∷ script) sent =
    by_bool (λ b. eqb s.shard (k.row % partitions) ≡ b → on k (map taken (cond b (s ∷ filter (λ x. eqb x.shard (k.row % partitions)) script) (filter (λ x. eqb x.shard (k.row % partitions)) script))) ≡ on k (taken s ∷ map taken script))
    (eqb s.shard (k.row % partitions))
    (λ _ _. ap (λ (es : List Entry). cond (is_key k (key_of s.ask.op)) (taken s ∷ es) es) (on_shard partitions by k script sent.1))
    (λ _ f. on_shard partitions by k script sent.1 ∙ sym (ap (λ (b : Bool). cond b (taken s ∷ on k (map taken script)) (on k (map taken script))) (other f)))
    refl
  where
    other : eqb s.shard (k.row % partitions) ≡ false → is_key k (key_of s.ask.op) ≡ false
    other f = by_bool (λ b. is_key k (key_of s.ask.op) ≡ b → b ≡ false) (is_key k (key_of s.ask.op))
        (λ _ t. absurd (not_both (eqb s.shard (k.row % partitions)) (eq-eqb s.shard (k.row % partitions) (sent.0.to_shard ∙ ap (λ (q : RowKey). q.row % partitions) (sym (one_key k (key_of s.ask.op) t)))) f)) (λ _ _. refl) refl

both_filters : {X : Type 0} (p q : X → Bool) (xs : List X) → filter p (filter q xs) ≡ filter q (filter p xs)
both_filters p q [] = refl
both_filters p q (x ∷ xs) = from (p x) (q x) refl refl (both_filters p q xs)
  where
    from : (b c : Bool) → p x ≡ b → q x ≡ c → filter p (filter q xs) ≡ filter q (filter p xs) → filter p (cond c (x ∷ filter q xs) (filter q xs)) ≡ filter q (cond b (x ∷ filter p xs) (filter p xs))
    from true true t u rest = ap (λ z. cond z (x ∷ filter p (filter q xs)) (filter p (filter q xs))) t ∙ ap (λ ys. x ∷ ys) rest ∙ sym (ap (λ z. cond z (x ∷ filter q (filter p xs)) (filter q (filter p xs))) u)
    from true false t u rest = rest ∙ sym (ap (λ z. cond z (x ∷ filter q (filter p xs)) (filter q (filter p xs))) u)
    from false true t u rest = ap (λ z. cond z (x ∷ filter p (filter q xs)) (filter p (filter q xs))) t ∙ rest
    from false false t u rest = rest

own_on : (a : AttemptId) (k : RowKey) (es : List Entry) → own a (on k es) ≡ on k (own a es)
own_on a k es = both_filters (λ e. is_attempt e.ask.by a) (λ e. is_key k (key_of e.ask.op)) es

-- ---- of an execution

module _ (b : Beginning) (x : Execution) (is : IsExecution b x) (sent : (worker : ℕ) → worker < b.workers → AllByRecursion (AreSent b.partitions) (transcript_of x worker)) (shard : ℕ) (within : shard < b.partitions) where
  worker_of_pass : AllByRecursion (λ e. e.pass ≡ e.ask.by.worker) (journal_of x shard)
  worker_of_pass = pass_is_worker b.workers (journal_of x shard)
      (λ worker lt. subst (OfWorker worker) (sym (is.passes shard worker within lt)) (by_worker_at b.partitions shard worker (transcript_of x worker) (sent worker lt) (is.attempts worker lt).by_worker))
      (is.no_other_pass shard within)

  pub own_steps : (a : AttemptId) → a.worker < b.workers → own a (steps_of (journal_of x shard)) ≡ at_shard shard (script_of a (transcript_of x a.worker))
  own_steps a lt =
      own_of_pass a (journal_of x shard) worker_of_pass ∙ ap (own a) (is.passes shard a.worker within lt)
      ∙ own_script b.partitions shard a (transcript_of x a.worker) (sent a.worker lt) (is.attempts a.worker lt).rising

  pub no_steps : (a : AttemptId) → b.workers ≤ a.worker → own a (steps_of (journal_of x shard)) ≡ []
  no_steps a le = own_of_pass a (journal_of x shard) worker_of_pass ∙ ap (own a) (no_pass b.workers a.worker (journal_of x shard) (is.no_other_pass shard within) le)

module _ (b : Beginning) (x : Execution) (is : IsExecution b x) (sent : (worker : ℕ) → worker < b.workers → AllByRecursion (AreSent b.partitions) (transcript_of x worker)) (k : RowKey) where
  -- an attempt's steps on the key: none, or those of its script
  pub key_steps : (a : AttemptId) → (own a (on k (journal_on b x k)) ≡ []) ⊎ ((t : Tried) × (a.worker < b.workers) × Among (transcript_of x a.worker) t × (t.by ≡ a) × (own a (on k (journal_on b x k)) ≡ on k (map taken t.script)))
  key_steps a = from (cases a.worker b.workers)
    where
      cases : (m n : ℕ) → (m < n) ⊎ (n ≤ m)
      cases m n = grind arith

      from : ((a.worker < b.workers) ⊎ (b.workers ≤ a.worker)) → (own a (on k (journal_on b x k)) ≡ []) ⊎ ((t : Tried) × (a.worker < b.workers) × Among (transcript_of x a.worker) t × (t.by ≡ a) × (own a (on k (journal_on b x k)) ≡ on k (map taken t.script)))
      from (inr le) = inl (own_on a k (journal_on b x k) ∙ ap (on k) (no_steps b x is sent (k.row % b.partitions) (mod_below k.row b.partitions is.some_partitions) a le))
      from (inl lt) =
          let steps : own a (on k (journal_on b x k)) ≡ on k (at_shard (k.row % b.partitions) (script_of a (transcript_of x a.worker))) =
          own_on a k (journal_on b x k) ∙ ap (on k) (own_steps b x is sent (k.row % b.partitions) (mod_below k.row b.partitions is.some_partitions) a lt) in
          elim (script_cases a (transcript_of x a.worker)) [
            | inl none ↦ inl (steps ∙ ap (λ (s : List Step). on k (at_shard (k.row % b.partitions) s)) none)
            | inr some ↦ inr (
              some.0,
              lt,
              some.1,
              some.2,
              steps ∙ ap (λ (s : List Step). on k (at_shard (k.row % b.partitions) s)) some.3
                  ∙ on_shard b.partitions some.0.by k some.0.script (all_among (AreSent b.partitions) (transcript_of x a.worker) some.0 (sent a.worker lt) some.1),
            )
          ]

  -- and a script's steps on the key are those of its attempt
  pub script_steps : (worker : ℕ) (t : Tried) → worker < b.workers → Among (transcript_of x worker) t → own t.by (on k (journal_on b x k)) ≡ on k (map taken t.script)
  script_steps worker t lt among =
      let of_worker : t.by.worker ≡ worker = all_among (λ u. u.by.worker ≡ worker) (transcript_of x worker) t (is.attempts worker lt).by_worker among in
      let here : t.by.worker < b.workers = subst (λ (n : ℕ). n < b.workers) (sym of_worker) lt in
      let in_it : Among (transcript_of x t.by.worker) t = subst (λ (n : ℕ). Among (transcript_of x n) t) (sym of_worker) among in
      own_on t.by k (journal_on b x k) ∙ ap (on k) (own_steps b x is sent (k.row % b.partitions) (mod_below k.row b.partitions is.some_partitions) t.by here)
      ∙ ap (λ (s : List Step). on k (at_shard (k.row % b.partitions) s)) (script_found (transcript_of x t.by.worker) t (is.attempts t.by.worker here).rising in_it)
      ∙ on_shard b.partitions t.by k t.script (all_among (AreSent b.partitions) (transcript_of x t.by.worker) t (sent t.by.worker here) in_it)
