-- With the tail behind the commits, the Dones of an epoch are serial.
use Rattle.std.proofs.Common.{◌≡◌, ◌⊎◌, inl, inr, ℕ, zero, suc, ◌+◌, ◌<◌, ◌≤◌, Bool, true, false, ◌&&◌, ◌||◌, cond, eqb, List, [], ◌∷◌, ◌++◌, map, length, Option, None, Some, refl, sym, ap, ◌∙◌, subst, arith, append_assoc}
use Rattle.std.proofs.lemmas.Bool.{lt-ltb, eqb-true, eq-eqb}
use Rattle.std.proofs.lemmas.List.{append-nil}
use Rattle.std.proofs.lemmas.List.Sorted.{IsPermutation-map, IsPermutation-sym, Contains-permutation}
use Rattle.std.proofs.lemmas.Map.Keys.{IsDistinct-IsPermutation}
use Rattle.std.specs.Option.{unwrap_or}
use Rattle.std.specs.List.{filter, list_any, slice_get, AllByRecursion, IsDistinct}
use Rattle.std.specs.List.Sorted.{IsPermutation}
use Rattle.coco_types.specs.RowKey.{RowKey}
use Rattle.coco_types.specs.declared.value.Value.{Value}
use Rattle.coco_types.specs.declared.call.AttemptId.{AttemptId}
use Rattle.coco_types.specs.declared.call.Request.{Request}
use Rattle.coco_types.specs.declared.call.Done.{Done}
use Rattle.coco_ast.specs.Tree.{Procedures}
use Rattle.coco_ast.specs.Keyed.{Rows, value_at, put_over}
use Rattle.coco_ast.specs.Meaning.{Datum, run}
use Rattle.coco_ast.specs.History.{AreTimed, is_timed, rows_after}
use Rattle.coco_shard.specs.RowState.{RowState, resting}
use Rattle.coco_shard.specs.Law.{Entry, law_row}
use Rattle.coco_occ.specs.Script.{IsAsked}
use Rattle.coco_order.specs.OneKey.{Among, is_attempt, on, left, walk, Installs}
use Rattle.coco_order.specs.Order.{AreInOrder}
use Rattle.coco_occ.specs.declared.outcome.Tried.{Tried}
use Rattle.coco_order.specs.Execution.{Beginning, Execution, IsTried, Tries, AreTries, all_tries, concat_tries, how_many_at, IsExecution, journal_on, transcript_of, concat}
use Rattle.coco_order.specs.Outcome.{commits, IsOutcome, is_commit, is_committed, uncommitted, tail_requests, tail_dones, tail_rows}
use Rattle.coco_order.specs.Laws.{OutcomeIsSerial, OutcomesAreSerial}
use Rattle.coco_order.proofs.Attempts.{by_bool, not_both, none_some, same_some, Among-append, Among-left, Among-right}
use Rattle.coco_order.proofs.Walking.{Holds}
use Rattle.coco_order.proofs.Chains.{Good, good_next, next_holds, last_written, installs_within}
use Rattle.coco_order.proofs.LawRows.{law_walk, lawful_told}
use Rattle.coco_order.proofs.OneKey.{nobody, good_start}
use Rattle.coco_order.proofs.Passes.{all_among, all_append}
use Rattle.coco_order.proofs.Orderly.{orderly}
use Rattle.coco_order.proofs.Acts.{act, acts, acts_dones, Committing, act_from, all_tried, in_transcript}
use Rattle.coco_order.proofs.CommitReads.{reads_right}
use Rattle.coco_order.proofs.Serial.{Act, dones, writes_at, LastBelow, IsRight, ApartInTime, RiseInTime, Latest, Serial, serial, written, value_over}
use Rattle.coco_order.proofs.Commits.{all_from, among_contains, contains_among, Lifted, lifted, dones_map, differ, rise_of, every, act_installs, install_acts, right_of, apart, every_epoch, every_distinct, timed_at, flips}

-- ---- lists of acts

module _ (ps : Procedures) (opening : Rows) where
  -- what is right in a list of acts is right in any that has the same ones
  pub right_again : (xs ys : List Act) → ((a : Act) → Among xs a → Among ys a) → ((a : Act) → Among ys a → Among xs a) → (a : Act) → IsRight ps opening xs a → IsRight ps opening ys a
  right_again xs ys to back a right = record {
    reply = right.reply;
    last = each (run ps a.done.call a.seen).needs right.last;
    alone = alone_each (run ps a.done.call a.seen).needs right.alone;
  }
    where
      again : (k : RowKey) (n : ℕ) (v : Datum) → LastBelow ps opening xs k n v → LastBelow ps opening ys k n v
      again k n v (inl (is_opening, none)) = inl (is_opening, λ c among lt. none c (back c among) lt)
      again k n v (inr (last, among, wrote, lt, most)) = inr (last, to last among, wrote, lt, λ c u in_ys below w. most c u (back c in_ys) below w)

      each : (ks : List RowKey) → AllByRecursion (λ k. LastBelow ps opening xs k a.done.time (value_at a.seen k)) ks → AllByRecursion (λ k. LastBelow ps opening ys k a.done.time (value_at a.seen k)) ks
      each [] all = tt
      each (k ∷ ks) all = (again k a.done.time (value_at a.seen k) all.0, each ks all.1)

      alone_each : (ks : List RowKey) → AllByRecursion (λ k. (c : Act) (v : Datum) → Among xs c → c.done.time ≡ a.done.time → writes_at ps opening c k ≡ Some v → c.by ≡ a.by) ks
          → AllByRecursion (λ k. (c : Act) (v : Datum) → Among ys c → c.done.time ≡ a.done.time → writes_at ps opening c k ≡ Some v → c.by ≡ a.by) ks
      alone_each [] all = tt
      alone_each (k ∷ ks) all = ((λ c v in_ys same w. all.0 c v (back c in_ys) same w), alone_each ks all.1)

  -- two maps with the latest writes of the same acts are alike
  latest_alike : (xs ys : List Act) → ((a : Act) → Among xs a → Among ys a) → ((a : Act) → Among ys a → Among xs a) → ApartInTime ps opening xs → (m n : Rows) → Latest ps opening xs m → Latest ps opening ys n → (k : RowKey) → value_at m k ≡ value_at n k
  latest_alike xs ys to back apart m n first second k = from (first k) (second k)
    where
      from : ((value_at m k ≡ value_at opening k) × ((a : Act) → Among xs a → writes_at ps opening a k ≡ None)) ⊎ ((last : Act) × Among xs last × (writes_at ps opening last k ≡ Some (value_at m k)) × ((a : Act) (v : Datum) → Among xs a → writes_at ps opening a k ≡ Some v → a.done.time ≤ last.done.time))
          → ((value_at n k ≡ value_at opening k) × ((a : Act) → Among ys a → writes_at ps opening a k ≡ None)) ⊎ ((last : Act) × Among ys last × (writes_at ps opening last k ≡ Some (value_at n k)) × ((a : Act) (v : Datum) → Among ys a → writes_at ps opening a k ≡ Some v → a.done.time ≤ last.done.time))
          → value_at m k ≡ value_at n k
      from (inl a) (inl c) = a.0 ∙ sym c.0
      from (inl a) (inr c) = absurd (none_some (sym (a.1 c.0 (back c.0 c.1)) ∙ c.2))
      from (inr a) (inl c) = absurd (none_some (sym (c.1 a.0 (to a.0 a.1)) ∙ a.2))
      from (inr a) (inr c) =
          let le : a.0.done.time ≤ c.0.done.time = c.3 a.0 (value_at m k) (to a.0 a.1) a.2 in
          let ge : c.0.done.time ≤ a.0.done.time = a.3 c.0 (value_at n k) (back c.0 c.1) c.2 in
          apart a.0 c.0 k (value_at m k) (value_at n k) a.1 (back c.0 c.1) (omega arith) a.2 c.2

-- ---- the acts of the tail

module _ (b : Beginning) (epoch : ℕ) where
  abbrev pub tail_act : Rows → ℕ → Request → Act
  tail_act rows time r = record {
    by = record { worker = b.workers; number = suc time };
    done = record { id = r.id; call = r.call; epoch = epoch; time = suc time; reply = (run b.procs r.call rows).reply };
    seen = rows;
  }

  abbrev pub after_request : Rows → Request → Rows
  after_request rows r = put_over rows (run b.procs r.call rows).writes

  abbrev pub tail_acts : Rows → ℕ → List Request → List Act
  tail_acts rows time [] = []
  tail_acts rows time (r ∷ rs) = tail_act rows time r ∷ tail_acts (after_request rows r) (suc time) rs

  tail_acts_dones : (rows : Rows) (time : ℕ) (rs : List Request) → dones (tail_acts rows time rs) ≡ tail_dones b.procs epoch rows time rs
  tail_acts_dones rows time [] = refl
  tail_acts_dones rows time (r ∷ rs) = ap (λ (ds : List Done). (tail_act rows time r).done ∷ ds) (tail_acts_dones (after_request rows r) (suc time) rs)

  pub record OfTail (rows : Rows) (time : ℕ) (rs : List Request) (c : Act) : Type 0 where
    pub later : time < c.done.time
    pub by_is : c.by ≡ record { worker = b.workers; number = c.done.time }
    pub reply_is : c.done.reply ≡ (run b.procs c.done.call c.seen).reply
    pub epoch_is : c.done.epoch ≡ epoch

  of_tail : (rows : Rows) (time : ℕ) (rs : List Request) (c : Act) → Among (tail_acts rows time rs) c → OfTail rows time rs c
  of_tail rows time [] c h = absurd h
  of_tail rows time (r ∷ rs) c (inl same) = subst (OfTail rows time (r ∷ rs)) same (record { later = omega arith; by_is = refl; reply_is = refl; epoch_is = refl })
  of_tail rows time (r ∷ rs) c (inr more) =
      let o : OfTail (after_request rows r) (suc time) rs c = of_tail (after_request rows r) (suc time) rs c more in
      record { later = (let lt : suc time < c.done.time = o.later in omega arith); by_is = o.by_is; reply_is = o.reply_is; epoch_is = o.epoch_is }

  -- one act at a time
  pub tail_one : (rows : Rows) (time : ℕ) (rs : List Request) (c d : Act) → Among (tail_acts rows time rs) c → Among (tail_acts rows time rs) d → c.done.time ≡ d.done.time → c ≡ d
  tail_one rows time [] c d h g e = absurd h
  tail_one rows time (r ∷ rs) c d (inl p) (inl q) e = sym p ∙ q
  tail_one rows time (r ∷ rs) c d (inl p) (inr q) e =
      let at : suc time ≡ c.done.time = ap (λ (z : Act). z.done.time) p in
      let lt : suc time < d.done.time = (of_tail (after_request rows r) (suc time) rs d q).later in absurd (omega arith)
  tail_one rows time (r ∷ rs) c d (inr p) (inl q) e =
      let at : suc time ≡ d.done.time = ap (λ (z : Act). z.done.time) q in
      let lt : suc time < c.done.time = (of_tail (after_request rows r) (suc time) rs c p).later in absurd (omega arith)
  tail_one rows time (r ∷ rs) c d (inr p) (inr q) e = tail_one (after_request rows r) (suc time) rs c d p q e

  tail_distinct : (rows : Rows) (time : ℕ) (rs : List Request) → IsDistinct is_attempt (map (λ (a : Act). a.by) (tail_acts rows time rs))
  unfolding IsDistinct
  tail_distinct rows time [] = tt
  tail_distinct rows time (r ∷ rs) = (others (after_request rows r) (suc time) rs (omega arith), tail_distinct (after_request rows r) (suc time) rs)
    where
      others : (m : Rows) (n : ℕ) (qs : List Request) → time < n → AllByRecursion (λ c. is_attempt (tail_act rows time r).by c ≡ false) (map (λ (a : Act). a.by) (tail_acts m n qs))
      others m n [] lt = tt
      others m n (q ∷ qs) lt = (differ (tail_act rows time r).by (tail_act m n q).by (λ same. (let e : suc time ≡ suc n = ap (λ (c : AttemptId). c.number) same in omega arith)), others (after_request m q) (suc n) qs (omega arith))

  -- the requests before, and the map that they left
  module _ (opening : Rows) where
    -- writes before are at most at this time
    abbrev pub Early : List Act → ℕ → Type 0
    Early before time = (a : Act) (k : RowKey) (v : Datum) → Among before a → writes_at b.procs opening a k ≡ Some v → a.done.time ≤ time

    latest_more : (before : List Act) (rows : Rows) (time : ℕ) (r : Request) → Latest b.procs opening before rows → Early before time → Latest b.procs opening (before ++ tail_act rows time r ∷ []) (after_request rows r)
    latest_more before rows time r latest early k = from (written k (run b.procs r.call rows).writes) refl (latest k)
      where
        over : value_at (after_request rows r) k ≡ unwrap_or (written k (run b.procs r.call rows).writes) (value_at rows k)
        over = value_over rows (run b.procs r.call rows).writes k

        from : (o : Option Datum) → written k (run b.procs r.call rows).writes ≡ o
            → ((value_at rows k ≡ value_at opening k) × ((a : Act) → Among before a → writes_at b.procs opening a k ≡ None)) ⊎ ((last : Act) × Among before last × (writes_at b.procs opening last k ≡ Some (value_at rows k)) × ((a : Act) (v : Datum) → Among before a → writes_at b.procs opening a k ≡ Some v → a.done.time ≤ last.done.time))
            → ((value_at (after_request rows r) k ≡ value_at opening k) × ((a : Act) → Among (before ++ tail_act rows time r ∷ []) a → writes_at b.procs opening a k ≡ None))
            ⊎ ((last : Act) × Among (before ++ tail_act rows time r ∷ []) last × (writes_at b.procs opening last k ≡ Some (value_at (after_request rows r) k)) × ((a : Act) (v : Datum) → Among (before ++ tail_act rows time r ∷ []) a → writes_at b.procs opening a k ≡ Some v → a.done.time ≤ last.done.time))
        from (Some v) is old =
            let now : value_at (after_request rows r) k ≡ v = over ∙ ap (λ (o : Option Datum). unwrap_or o (value_at rows k)) is in
            inr (
              tail_act rows time r,
              Among-right before (tail_act rows time r ∷ []) (tail_act rows time r) (inl refl),
              is ∙ ap Some (sym now),
              λ a u among w. elim (Among-append before (tail_act rows time r ∷ []) a among) [
                | inl before_it ↦ (let le : a.done.time ≤ time = early a k u before_it w in omega arith)
                | inr (inl same) ↦ (let e : suc time ≡ a.done.time = ap (λ (z : Act). z.done.time) same in omega arith)
                | inr (inr more) ↦ absurd more
              ],
            )
        from None is (inl nothing) =
            let now : value_at (after_request rows r) k ≡ value_at rows k = over ∙ ap (λ (o : Option Datum). unwrap_or o (value_at rows k)) is in
            inl (
              now ∙ nothing.0,
              λ a among. elim (Among-append before (tail_act rows time r ∷ []) a among) [
                | inl before_it ↦ nothing.1 a before_it
                | inr (inl same) ↦ subst (λ (z : Act). writes_at b.procs opening z k ≡ None) same is
                | inr (inr more) ↦ absurd more
              ],
            )
        from None is (inr some) =
            let now : value_at (after_request rows r) k ≡ value_at rows k = over ∙ ap (λ (o : Option Datum). unwrap_or o (value_at rows k)) is in
            inr (
              some.0,
              Among-left before (tail_act rows time r ∷ []) some.0 some.1,
              some.2 ∙ ap Some (sym now),
              λ a u among w. elim (Among-append before (tail_act rows time r ∷ []) a among) [
                | inl before_it ↦ some.3 a u before_it w
                | inr (inl same) ↦ absurd (none_some (sym (subst (λ (z : Act). writes_at b.procs opening z k ≡ None) same is) ∙ w))
                | inr (inr more) ↦ absurd more
              ],
            )

    early_more : (before : List Act) (rows : Rows) (time : ℕ) (r : Request) → Early before time → Early (before ++ tail_act rows time r ∷ []) (suc time)
    early_more before rows time r early a k v among w = elim (Among-append before (tail_act rows time r ∷ []) a among) [
      | inl before_it ↦ (let le : a.done.time ≤ time = early a k v before_it w in omega arith)
      | inr (inl same) ↦ (let e : suc time ≡ a.done.time = ap (λ (z : Act). z.done.time) same in omega arith)
      | inr (inr more) ↦ absurd more
    ]

    latest_all : (before : List Act) (rows : Rows) (time : ℕ) (rs : List Request) → Latest b.procs opening before rows → Early before time → Latest b.procs opening (before ++ tail_acts rows time rs) (tail_rows b.procs rows rs)
    latest_all before rows time [] latest early = subst (λ (acs : List Act). Latest b.procs opening acs rows) (sym (append-nil before)) latest
    latest_all before rows time (r ∷ rs) latest early =
        subst (λ (acs : List Act). Latest b.procs opening acs (tail_rows b.procs (after_request rows r) rs)) (append_assoc before (tail_act rows time r ∷ []) (tail_acts (after_request rows r) (suc time) rs))
        (latest_all (before ++ tail_act rows time r ∷ []) (after_request rows r) (suc time) rs (latest_more before rows time r latest early) (early_more before rows time r early))

    -- the map so far has the last writes below the next time
    last_at : (before : List Act) (rows : Rows) (time : ℕ) (rest : List Act) → Latest b.procs opening before rows → Early before time → ((a : Act) → Among rest a → time < a.done.time) → (k : RowKey) → LastBelow b.procs opening (before ++ rest) k (suc time) (value_at rows k)
    last_at before rows time rest latest early late k = from (latest k)
      where
        in_before : (a : Act) → Among (before ++ rest) a → a.done.time < suc time → Among before a
        in_before a among lt = elim (Among-append before rest a among) [ inl before_it ↦ before_it | inr after ↦ absurd (let more : time < a.done.time = late a after in omega arith) ]

        from : ((value_at rows k ≡ value_at opening k) × ((a : Act) → Among before a → writes_at b.procs opening a k ≡ None)) ⊎ ((last : Act) × Among before last × (writes_at b.procs opening last k ≡ Some (value_at rows k)) × ((a : Act) (v : Datum) → Among before a → writes_at b.procs opening a k ≡ Some v → a.done.time ≤ last.done.time))
            → LastBelow b.procs opening (before ++ rest) k (suc time) (value_at rows k)
        from (inl nothing) = inl (nothing.0, λ a among lt. nothing.1 a (in_before a among lt))
        from (inr some) =
            let le : some.0.done.time ≤ time = early some.0 k (value_at rows k) some.1 some.2 in
            inr (some.0, Among-left before rest some.0 some.1, some.2, omega arith, λ a u among lt w. some.3 a u (in_before a among lt) w)

    alone_at : (before : List Act) (rows : Rows) (time : ℕ) (rs : List Request) → Early before time → (c : Act) → Among (tail_acts rows time rs) c → (k : RowKey) (d : Act) (v : Datum) → Among (before ++ tail_acts rows time rs) d → d.done.time ≡ c.done.time → writes_at b.procs opening d k ≡ Some v → d.by ≡ c.by
    alone_at before rows time rs early c in_tail k d v among same w = elim (Among-append before (tail_acts rows time rs) d among) [
      | inl before_it ↦ absurd (let le : d.done.time ≤ time = early d k v before_it w in let lt : time < c.done.time = (of_tail rows time rs c in_tail).later in omega arith)
      | inr after ↦ (of_tail rows time rs d after).by_is ∙ ap (λ (n : ℕ). record { worker = b.workers; number = n }) same ∙ sym (of_tail rows time rs c in_tail).by_is
    ]

    tail_right : (before : List Act) (rows : Rows) (time : ℕ) (rs : List Request) → Latest b.procs opening before rows → Early before time → (c : Act) → Among (tail_acts rows time rs) c → IsRight b.procs opening (before ++ tail_acts rows time rs) c
    tail_right before rows time [] latest early c h = absurd h
    tail_right before rows time (r ∷ rs) latest early c (inl same) =
        subst (IsRight b.procs opening (before ++ tail_acts rows time (r ∷ rs))) same (record {
          reply = refl;
          last = all_from _ (run b.procs r.call rows).needs (λ k needed. last_at before rows time (tail_acts rows time (r ∷ rs)) latest early (λ a among. (of_tail rows time (r ∷ rs) a among).later) k);
          alone = all_from _ (run b.procs r.call rows).needs (λ k needed d v among at w. alone_at before rows time (r ∷ rs) early (tail_act rows time r) (inl refl) k d v among at w);
        })
    tail_right before rows time (r ∷ rs) latest early c (inr more) =
        subst (λ (acs : List Act). IsRight b.procs opening acs c) (append_assoc before (tail_act rows time r ∷ []) (tail_acts (after_request rows r) (suc time) rs))
        (tail_right (before ++ tail_act rows time r ∷ []) (after_request rows r) (suc time) rs (latest_more before rows time r latest early) (early_more before rows time r early) c more)

-- ---- the tail holds no snapshot call

tries_in : (rs : List Tries) (r : Tries) (t : Tried) → Among rs r → Among (all_tries r) t → Among (concat_tries rs) t
tries_in [] r t h g = absurd h
tries_in (q ∷ rs) r t (inl same) g = Among-left (all_tries q) (concat_tries rs) t (subst (λ (z : Tries). Among (all_tries z) t) (sym same) g)
tries_in (q ∷ rs) r t (inr more) g = Among-right (all_tries q) (concat_tries rs) t (tries_in rs r t more g)

all_tries_in : (rss : List (List Tries)) (r : Tries) (t : Tried) → Among (concat rss) r → Among (all_tries r) t → Among (concat (map concat_tries rss)) t
all_tries_in [] r t h g = absurd h
all_tries_in (rs ∷ rss) r t h g = elim (Among-append rs (concat rss) r h) [
  | inl here ↦ Among-left (concat_tries rs) (concat (map concat_tries rss)) t (tries_in rs r t here g)
  | inr more ↦ Among-right (concat_tries rs) (concat (map concat_tries rss)) t (all_tries_in rss r t more g)
]

some_at : (place : ℕ) (rs : List Tries) → 1 ≤ how_many_at place rs → (r : Tries) × Among rs r × (r.place ≡ place)
some_at place [] h = absurd (omega arith)
some_at place (r ∷ rs) h =
    by_bool (λ z. eqb r.place place ≡ z → 1 ≤ length (cond z (r ∷ filter (λ (q : Tries). eqb q.place place) rs) (filter (λ (q : Tries). eqb q.place place) rs)) → (q : Tries) × Among (r ∷ rs) q × (q.place ≡ place)) (eqb r.place place)
    (λ _ t _. (r, inl refl, eqb-true r.place place t))
    (λ _ _ g. (let rest = some_at place rs g in (rest.0, inr rest.1, rest.2))) refl h

pub all_of_tries : (attempts : ℕ) (rss : List (List Tries)) (r : Tries) → AllByRecursion (AllByRecursion (AreTries attempts)) rss → Among (concat rss) r → AreTries attempts r
all_of_tries attempts [] r all h = absurd h
all_of_tries attempts (rs ∷ rss) r all h = elim (Among-append rs (concat rss) r h) [ inl here ↦ all_among (AreTries attempts) rs r all.0 here | inr more ↦ all_of_tries attempts rss r all.1 more ]

pub committed_at : (place : ℕ) (ts : List Tried) (t : Tried) → Among ts t → t.place ≡ place → is_commit t.outcome ≡ true → list_any (λ u. eqb u.place place && is_commit u.outcome) ts ≡ true
committed_at place [] t h at commit = absurd h
committed_at place (u ∷ ts) t (inl same) at commit =
    let here : (eqb u.place place && is_commit u.outcome) ≡ true = subst (λ (v : Tried). (eqb v.place place && is_commit v.outcome) ≡ true) (sym same) (ap (λ (z : Bool). z && is_commit t.outcome) (eq-eqb t.place place at) ∙ commit) in
    ap (λ (z : Bool). z || list_any (λ v. eqb v.place place && is_commit v.outcome) ts) here
committed_at place (u ∷ ts) t (inr more) at commit =
    by_bool (λ z. z || list_any (λ v. eqb v.place place && is_commit v.outcome) ts ≡ true) (eqb u.place place && is_commit u.outcome) (λ _. refl) (λ _. committed_at place ts t more at commit)

pub get_short : {X : Type 0} (xs : List X) (n : ℕ) (x : X) → slice_get xs n ≡ Some x → n < length xs
get_short [] n x h = absurd (none_some h)
get_short (y ∷ xs) zero x h = omega arith
get_short (y ∷ xs) (suc n) x h = let lt : n < length xs = get_short xs n x h in omega arith

module _ (b : Beginning) (x : Execution) (is : IsExecution b x) where
  no_snapshot : (place : ℕ) (r : Request) → slice_get b.requests place ≡ Some r → is_committed x place ≡ false → r.call.snapshot ≡ false
  no_snapshot place r placed uncommitted_at =
      let w = is.worked_off in
      let some = some_at place (concat w.tries) (let one : how_many_at place (concat w.tries) ≡ 1 = w.once place (get_short b.requests place r placed) in omega arith) in
      let t : Tried = some.0.last in
      let in_tries : Among (all_tries some.0) t = Among-right some.0.conflicts (t ∷ []) t (inl refl) in
      let in_x : Among (concat x.transcripts) t = subst (λ (tss : List (List Tried)). Among (concat tss) t) (sym w.transcripts_are) (all_tries_in w.tries some.0 t some.1 in_tries) in
      let at : t.place ≡ place = all_among (λ (u : Tried). u.place ≡ some.0.place) (all_tries some.0) t (all_of_tries b.attempts w.tries some.0 w.each some.1).placed in_tries ∙ some.2 in
      of_try t (all_among (IsTried b) (concat x.transcripts) t (all_tried b x is) in_x) in_x at
    where
      from : (t : Tried) (tried : IsTried b t) → Among (concat x.transcripts) t → t.place ≡ place → (snapshot : Bool) → tried.request.call.snapshot ≡ snapshot → IsAsked snapshot (run b.procs tried.request.call tried.script.rows) tried.script.rows tried.script.asked t.outcome → tried.request.call.snapshot ≡ false
      from t tried in_x at true snap s = absurd (not_both (is_committed x place) (committed_at place (concat x.transcripts) t in_x at (ap is_commit s.outcome_is)) uncommitted_at)
      from t tried in_x at false snap s = snap

      of_try : (t : Tried) → IsTried b t → Among (concat x.transcripts) t → t.place ≡ place → r.call.snapshot ≡ false
      of_try t tried in_x at =
          let same : tried.request ≡ r = same_some (sym tried.placed ∙ ap (slice_get b.requests) at ∙ placed) in
          subst (λ (q : Request). q.call.snapshot ≡ false) same (from t tried in_x at tried.request.call.snapshot refl tried.script.course)

  tail_timed : (epoch : ℕ) (rows : Rows) (time place : ℕ) (rs : List Request) → ((i : ℕ) → slice_get rs i ≡ slice_get b.requests (i + place)) → AreTimed (tail_dones b.procs epoch rows time (uncommitted x place rs))
  tail_timed epoch rows time place [] at = tt
  tail_timed epoch rows time place (r ∷ rs) at =
      by_bool (λ z. is_committed x place ≡ z → AreTimed (tail_dones b.procs epoch rows time (cond z (uncommitted x (suc place) rs) (r ∷ uncommitted x (suc place) rs)))) (is_committed x place)
      (λ _ _. tail_timed epoch rows time (suc place) rs next)
      (λ _ none. (
        ap (λ (s : Bool). is_timed s (suc time)) (no_snapshot place r (sym (at 0 ∙ ap (slice_get b.requests) zero_on)) none) ∙ lt-ltb 0 (suc time) (omega arith),
        tail_timed epoch (put_over rows (run b.procs r.call rows).writes) (suc time) (suc place) rs next,
      ))
      refl
    where
      zero_on : 0 + place ≡ place
      zero_on = omega arith

      shift : (i : ℕ) → suc i + place ≡ i + suc place
      shift i = omega arith

      next : (i : ℕ) → slice_get rs i ≡ slice_get b.requests (i + suc place)
      next i = at (suc i) ∙ ap (slice_get b.requests) (shift i)

-- ---- the outcome

distinct_join : (xs ys : List AttemptId) → IsDistinct is_attempt xs → IsDistinct is_attempt ys → AllByRecursion (λ c. AllByRecursion (λ d. is_attempt c d ≡ false) ys) xs → IsDistinct is_attempt (xs ++ ys)
unfolding IsDistinct
distinct_join [] ys a c cross = c
distinct_join (x ∷ xs) ys a c cross = (all_append (λ d. is_attempt x d ≡ false) xs ys a.0 cross.0, distinct_join xs ys a.1 c cross.1)

map_append : {X Y : Type 0} (f : X → Y) (xs ys : List X) → map f (xs ++ ys) ≡ map f xs ++ map f ys
map_append f [] ys = refl
map_append f (x ∷ xs) ys = ap (λ zs. f x ∷ zs) (map_append f xs ys)

dones_append : (acs cs : List Act) → dones (acs ++ cs) ≡ dones acs ++ dones cs
dones_append [] cs = refl
dones_append (a ∷ acs) cs = ap (λ (ds : List Done). a.done ∷ ds) (dones_append acs cs)

timed_among : (acs : List Act) → AreTimed (dones acs) → (a : Act) → Among acs a → is_timed a.done.call.snapshot a.done.time ≡ true
timed_among [] all a h = absurd h
timed_among (c ∷ acs) all a (inl same) = subst (λ (z : Act). is_timed z.done.call.snapshot z.done.time ≡ true) same all.0
timed_among (c ∷ acs) all a (inr more) = timed_among acs all.1 a more

timed_all : (acs : List Act) → ((a : Act) → Among acs a → is_timed a.done.call.snapshot a.done.time ≡ true) → AreTimed (dones acs)
timed_all [] each = tt
timed_all (a ∷ acs) each = (each a (inl refl), timed_all acs (λ c among. each c (inr among)))

wts_below : (row : RowState) (h : Holds) (es : List Entry) → Good row h es → (walk row es).wts ≤ (walk row es).rts
wts_below row h [] good = good.times
wts_below row h (e ∷ es) good = wts_below (left e row) (next_holds e h) es (good_next row h e es good)

module _ (b : Beginning) (x : Execution) (is : IsExecution b x) (epoch : ℕ) (ds : List Done) (o : IsOutcome b epoch x ds) where
  abbrev pub commits_of : List Act
  commits_of = every b x is epoch

  abbrev pub tail_of : List Act
  tail_of = tail_acts b epoch o.rows o.most (tail_requests b x)

  abbrev pub whole : List Act
  whole = every b x is epoch ++ tail_acts b epoch o.rows o.most (tail_requests b x)

  row_is : (k : RowKey) → law_row (value_at b.opening) k (journal_on b x k) ≡ walk (resting (value_at b.opening k)) (on k (journal_on b x k))
  row_is k = law_walk (value_at b.opening) k [] (journal_on b x k) (lawful_told (value_at b.opening) (journal_on b x k) (orderly b x is k).lawful)

  good : (k : RowKey) → Good (resting (value_at b.opening k)) nobody (on k (journal_on b x k))
  good k = good_start (value_at b.opening) k (journal_on b x k) (orderly b x is k)

  read_most : (k : RowKey) → (walk (resting (value_at b.opening k)) (on k (journal_on b x k))).rts ≤ o.most
  read_most k = subst (λ (r : RowState). r.rts ≤ o.most) (row_is k) (o.greatest.bounds k)

  early : Early b epoch b.opening commits_of o.most
  early a k v among w =
      let e = act_installs b x is epoch a among k v w in
      let within : a.done.time ≤ (walk (resting (value_at b.opening k)) (on k (journal_on b x k))).wts = installs_within (resting (value_at b.opening k)) nobody (on k (journal_on b x k)) (good k) e.0 a.done.time v e.1 e.2 in
      let le : (walk (resting (value_at b.opening k)) (on k (journal_on b x k))).wts ≤ (walk (resting (value_at b.opening k)) (on k (journal_on b x k))).rts = wts_below (resting (value_at b.opening k)) nobody (on k (journal_on b x k)) (good k) in
      let most : (walk (resting (value_at b.opening k)) (on k (journal_on b x k))).rts ≤ o.most = read_most k in
      omega arith

  latest : Latest b.procs b.opening commits_of o.rows
  latest k = from (last_written (resting (value_at b.opening k)) nobody (on k (journal_on b x k)) (good k))
    where
      newest : value_at o.rows k ≡ (walk (resting (value_at b.opening k)) (on k (journal_on b x k))).newest
      newest = o.newest k ∙ ap (λ (r : RowState). r.newest) (row_is k)

      none : (a : Act) → Among commits_of a → ((e : Entry) (t : ℕ) (v : Option Value) → Among (on k (journal_on b x k)) e → Installs e t v → ⊥) → (w : Option Datum) → writes_at b.procs b.opening a k ≡ w → w ≡ None
      none a among nothing None h = refl
      none a among nothing (Some v) h = let e = act_installs b x is epoch a among k v h in absurd (nothing e.0 a.done.time v e.1 e.2)

      from : (((e : Entry) (t : ℕ) (v : Option Value) → Among (on k (journal_on b x k)) e → Installs e t v → ⊥) × ((walk (resting (value_at b.opening k)) (on k (journal_on b x k))).newest ≡ value_at b.opening k))
          ⊎ ((last : Entry) × Among (on k (journal_on b x k)) last × Installs last (walk (resting (value_at b.opening k)) (on k (journal_on b x k))).wts (walk (resting (value_at b.opening k)) (on k (journal_on b x k))).newest)
          → ((value_at o.rows k ≡ value_at b.opening k) × ((a : Act) → Among commits_of a → writes_at b.procs b.opening a k ≡ None))
          ⊎ ((last : Act) × Among commits_of last × (writes_at b.procs b.opening last k ≡ Some (value_at o.rows k)) × ((a : Act) (v : Datum) → Among commits_of a → writes_at b.procs b.opening a k ≡ Some v → a.done.time ≤ last.done.time))
      from (inl nothing) = inl (newest ∙ nothing.1, λ a among. none a among nothing.0 (writes_at b.procs b.opening a k) refl)
      from (inr (entry, in_journal, installs)) =
          let a = install_acts b x is epoch k entry _ _ in_journal installs in
          inr (
            a.0,
            a.1,
            a.3 ∙ ap Some (sym newest),
            λ c u among w. (
                let e = act_installs b x is epoch c among k u w in
                let within : c.done.time ≤ (walk (resting (value_at b.opening k)) (on k (journal_on b x k))).wts = installs_within (resting (value_at b.opening k)) nobody (on k (journal_on b x k)) (good k) e.0 c.done.time u e.1 e.2 in
                subst (λ (n : ℕ). c.done.time ≤ n) (sym a.2) within),
          )

  later : (c : Act) → Among tail_of c → o.most < c.done.time
  later c among = (of_tail b epoch o.rows o.most (tail_requests b x) c among).later

  -- a commit reads the same with the tail behind it
  pub commit_right : (a : Act) → Committing b epoch (concat x.transcripts) a → IsRight b.procs b.opening whole a
  commit_right a made = record {
    reply = base.reply;
    last = last_each (run b.procs a.done.call a.seen).needs reached base.last;
    alone = alone_each (run b.procs a.done.call a.seen).needs reached base.alone;
  }
    where
      base : IsRight b.procs b.opening commits_of a
      base = right_of b x is epoch commits_of (λ c h. h) (λ c h. h) a made

      reached : AllByRecursion (λ k. a.done.time ≤ o.most) (run b.procs a.done.call a.seen).needs
      reached =
          subst (λ (z : Act). AllByRecursion (λ k. z.done.time ≤ o.most) (run b.procs z.done.call z.seen).needs) (sym made.act_is)
          (all_from _ (run b.procs made.tried.request.call made.tried.script.rows).needs (λ k needed. (
          let reach : made.time ≤ (walk (resting (value_at b.opening k)) (on k (journal_on b x k))).rts = (reads_right b x is made.t made.tried made.time made.reply made.among made.outcome_is k needed).reach in
          let most : (walk (resting (value_at b.opening k)) (on k (journal_on b x k))).rts ≤ o.most = read_most k in omega arith)))

      wider : (k : RowKey) → a.done.time ≤ o.most → LastBelow b.procs b.opening commits_of k a.done.time (value_at a.seen k) → LastBelow b.procs b.opening whole k a.done.time (value_at a.seen k)
      wider k le (inl (is_opening, none)) = inl (is_opening, λ c in_whole lt. elim (Among-append commits_of tail_of c in_whole) [ inl here ↦ none c here lt | inr behind ↦ absurd (let more : o.most < c.done.time = later c behind in omega arith) ])
      wider k le (inr (last, in_commits, wrote, lt, most)) =
          inr (last, Among-left commits_of tail_of last in_commits, wrote, lt, λ c u in_whole below w. elim (Among-append commits_of tail_of c in_whole) [ inl here ↦ most c u here below w | inr behind ↦ absurd (let more : o.most < c.done.time = later c behind in omega arith) ])

      last_each : (ks : List RowKey) → AllByRecursion (λ k. a.done.time ≤ o.most) ks → AllByRecursion (λ k. LastBelow b.procs b.opening commits_of k a.done.time (value_at a.seen k)) ks → AllByRecursion (λ k. LastBelow b.procs b.opening whole k a.done.time (value_at a.seen k)) ks
      last_each [] le all = tt
      last_each (k ∷ ks) le all = (wider k le.0 all.0, last_each ks le.1 all.1)

      alone_each : (ks : List RowKey) → AllByRecursion (λ k. a.done.time ≤ o.most) ks → AllByRecursion (λ k. (c : Act) (v : Datum) → Among commits_of c → c.done.time ≡ a.done.time → writes_at b.procs b.opening c k ≡ Some v → c.by ≡ a.by) ks
          → AllByRecursion (λ k. (c : Act) (v : Datum) → Among whole c → c.done.time ≡ a.done.time → writes_at b.procs b.opening c k ≡ Some v → c.by ≡ a.by) ks
      alone_each [] le all = tt
      alone_each (k ∷ ks) le all =
          ((λ c v in_whole same w. elim (Among-append commits_of tail_of c in_whole) [ inl here ↦ all.0 c v here same w | inr behind ↦ absurd (let more : o.most < c.done.time = later c behind in let at : a.done.time ≤ o.most = le.0 in omega arith) ]), alone_each ks le.1 all.1)

  pub whole_right : (a : Act) → Among whole a → IsRight b.procs b.opening whole a
  whole_right a among = elim (Among-append commits_of tail_of a among) [
    | inl here ↦ commit_right a (act_from b epoch (concat x.transcripts) (all_tried b x is) a here)
    | inr behind ↦ tail_right b epoch b.opening commits_of o.rows o.most (tail_requests b x) latest early a behind
  ]

  whole_apart : ApartInTime b.procs b.opening whole
  whole_apart a c k v w in_a in_c same wrote_a wrote_c = from (Among-append commits_of tail_of a in_a) (Among-append commits_of tail_of c in_c)
    where
      from : (Among commits_of a ⊎ Among tail_of a) → (Among commits_of c ⊎ Among tail_of c) → v ≡ w
      from (inl p) (inl q) = apart b x is epoch commits_of (λ z h. h) (λ z h. h) a c k v w p q same wrote_a wrote_c
      from (inl p) (inr q) = absurd (let le : a.done.time ≤ o.most = early a k v p wrote_a in let lt : o.most < c.done.time = later c q in omega arith)
      from (inr p) (inl q) = absurd (let le : c.done.time ≤ o.most = early c k w q wrote_c in let lt : o.most < a.done.time = later a p in omega arith)
      from (inr p) (inr q) =
          let one : a ≡ c = tail_one b epoch o.rows o.most (tail_requests b x) a c p q same in
          same_some (sym wrote_a ∙ ap (λ (z : Act). writes_at b.procs b.opening z k) one ∙ wrote_c)

  worker_below : (a : Act) → Among commits_of a → a.by.worker < b.workers
  worker_below a among =
      let c : Committing b epoch (concat x.transcripts) a = act_from b epoch (concat x.transcripts) (all_tried b x is) a among in
      let place = in_transcript b x is c.t c.among in
      let of_worker : c.t.by.worker ≡ place.0 = all_among (λ (u : Tried). u.by.worker ≡ place.0) (transcript_of x place.0) c.t (is.attempts place.0 place.1).by_worker place.2 in
      let by_is : a.by.worker ≡ c.t.by.worker = ap (λ (z : Act). z.by.worker) c.act_is in
      let lt : place.0 < b.workers = place.1 in
      omega arith

  cross_all : (acs cs : List Act) → ((a : Act) → Among acs a → a.by.worker < b.workers) → ((c : Act) → Among cs c → c.by.worker ≡ b.workers) → AllByRecursion (λ p. AllByRecursion (λ q. is_attempt p q ≡ false) (map (λ (a : Act). a.by) cs)) (map (λ (a : Act). a.by) acs)
  cross_all [] cs below at = tt
  cross_all (a ∷ acs) cs below at = (against cs at, cross_all acs cs (λ c among. below c (inr among)) at)
    where
      against : (es : List Act) → ((c : Act) → Among es c → c.by.worker ≡ b.workers) → AllByRecursion (λ q. is_attempt a.by q ≡ false) (map (λ (c : Act). c.by) es)
      against [] each = tt
      against (e ∷ es) each = (differ a.by e.by (λ same. (let lt : a.by.worker < b.workers = below a (inl refl) in let w : e.by.worker ≡ b.workers = each e (inl refl) in let s : a.by.worker ≡ e.by.worker = ap (λ (c : AttemptId). c.worker) same in omega arith)), against es (λ c among. each c (inr among)))

  whole_distinct : IsDistinct is_attempt (map (λ (a : Act). a.by) whole)
  whole_distinct =
      subst (IsDistinct is_attempt) (sym (map_append (λ (a : Act). a.by) commits_of tail_of))
      (distinct_join (map (λ (a : Act). a.by) commits_of) (map (λ (a : Act). a.by) tail_of) (every_distinct b x is epoch) (tail_distinct b epoch o.rows o.most (tail_requests b x))
      (cross_all commits_of tail_of worker_below (λ c among. ap (λ (p : AttemptId). p.worker) (of_tail b epoch o.rows o.most (tail_requests b x) c among).by_is)))

  whole_epoch : (a : Act) → Among whole a → a.done.epoch ≡ epoch
  whole_epoch a among = elim (Among-append commits_of tail_of a among) [
    | inl here ↦ all_among (λ (z : Act). z.done.epoch ≡ epoch) commits_of a (every_epoch b x is epoch commits_of (λ z h. h)) here
    | inr behind ↦ (of_tail b epoch o.rows o.most (tail_requests b x) a behind).epoch_is
  ]

  whole_timed : (a : Act) → Among whole a → is_timed a.done.call.snapshot a.done.time ≡ true
  whole_timed a among = elim (Among-append commits_of tail_of a among) [
    | inl here ↦ timed_at b x is epoch a here
    | inr behind ↦ timed_among tail_of (subst AreTimed (sym (tail_acts_dones b epoch o.rows o.most (tail_requests b x))) (tail_timed b x is epoch o.rows o.most 0 b.requests (λ i. ap (slice_get b.requests) (nothing_more i)))) a behind
  ]
    where
      nothing_more : (i : ℕ) → i ≡ i + 0
      nothing_more i = omega arith

  -- the acts in the order of the Dones
  pub record InOrder : Type 0 where
    pub items : List Act
    pub are : dones items ≡ ds
    pub to : (a : Act) → Among items a → Among whole a
    pub back : (a : Act) → Among whole a → Among items a
    pub serial : Serial b.procs b.opening b.opening [] items

  of_lifted : Lifted (λ (a : Act). a.done) whole ds → InOrder
  of_lifted l =
      let is_ds : dones l.items ≡ ds = dones_map l.items ∙ l.made in
      let to : (a : Act) → Among l.items a → Among whole a = λ a among. contains_among whole a (Contains-permutation l.items whole a (IsPermutation-sym whole l.items l.same) (among_contains l.items a among)) in
      let back : (a : Act) → Among whole a → Among l.items a = λ a among. contains_among l.items a (Contains-permutation whole l.items a l.same (among_contains whole a among)) in
      let distinct : IsDistinct is_attempt (map (λ (a : Act). a.by) l.items) =
      IsDistinct-IsPermutation is_attempt flips (map (λ (a : Act). a.by) whole) (map (λ (a : Act). a.by) l.items) (IsPermutation-map (λ (a : Act). a.by) whole l.items l.same) whole_distinct in
      let epochs : AllByRecursion (λ (a : Act). a.done.epoch ≡ epoch) l.items = all_from _ l.items (λ a among. whole_epoch a (to a among)) in
      let rise : RiseInTime l.items = rise_of epoch l.items epochs (subst AreInOrder (sym is_ds) o.order) distinct in
      let s : Serial b.procs b.opening b.opening [] l.items = serial b.procs b.opening l.items (λ a among. right_again b.procs b.opening whole l.items back to a (whole_right a (to a among)))
      (λ a c k v w in_a in_c same wa wc. whole_apart a c k v w (to a in_a) (to c in_c) same wa wc) rise in
      record { items = l.items; are = is_ds; to = to; back = back; serial = s }

  pub in_order : InOrder
  in_order =
      let given : commits b epoch x ++ tail_dones b.procs epoch o.rows o.most (tail_requests b x) ≡ map (λ (a : Act). a.done) whole =
      ap (λ (zs : List Done). zs ++ tail_dones b.procs epoch o.rows o.most (tail_requests b x)) (sym (acts_dones b epoch (concat x.transcripts) (all_tried b x is)))
      ∙ ap (λ (zs : List Done). dones commits_of ++ zs) (sym (tail_acts_dones b epoch o.rows o.most (tail_requests b x))) ∙ sym (dones_append commits_of tail_of) ∙ dones_map whole in
      of_lifted (lifted (λ (a : Act). a.done) whole ds (subst (λ (zs : List Done). IsPermutation zs ds) given o.same))

  pub outcome_serial : OutcomeIsSerial b ds (tail_rows b.procs o.rows (tail_requests b x))
  outcome_serial =
      let l : InOrder = in_order in
      let left : Latest b.procs b.opening whole (tail_rows b.procs o.rows (tail_requests b x)) = latest_all b epoch b.opening commits_of o.rows o.most (tail_requests b x) latest early in
      let rows : (k : RowKey) → value_at (rows_after b.procs b.opening (dones l.items)) k ≡ value_at (tail_rows b.procs o.rows (tail_requests b x)) k =
      latest_alike b.procs b.opening l.items whole l.to l.back (λ a c k v w in_a in_c same wa wc. whole_apart a c k v w (l.to a in_a) (l.to c in_c) same wa wc) (rows_after b.procs b.opening (dones l.items)) (tail_rows b.procs o.rows (tail_requests b x)) l.serial.latest left in
      subst (λ (zs : List Done). OutcomeIsSerial b zs (tail_rows b.procs o.rows (tail_requests b x))) l.are (record { replies = l.serial.replies; times = timed_all l.items (λ a among. whole_timed a (l.to a among)); rows = rows })

pub outcomes_are_serial : (b : Beginning) (x : Execution) → IsExecution b x → OutcomesAreSerial b x
outcomes_are_serial b x is epoch ds o = outcome_serial b x is epoch ds o
