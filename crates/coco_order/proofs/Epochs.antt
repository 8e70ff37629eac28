-- The Dones of an outcome are an epoch of the requests: one for each of them, by time and id.
use Rattle.std.proofs.Common.{◌≡◌, ◌⊎◌, inl, inr, ℕ, zero, suc, ◌+◌, ◌<◌, ◌≤◌, Bool, true, false, ◌&&◌, ◌||◌, cond, eqb, nat_eq, List, [], ◌∷◌, ◌++◌, map, length, Option, None, Some, refl, sym, ap, ◌∙◌, subst, arith, append_assoc, length-append}
use Rattle.std.specs.Cmp.{nat_eq_equiv}
use Rattle.std.specs.List.{filter, filter_map, cons_option, list_any, slice_get, AllByRecursion, IsDistinct}
use Rattle.std.specs.List.Sorted.{IsPermutation}
use Rattle.std.proofs.Math.Bool.{and-true, and-false}
use Rattle.std.proofs.Math.Dec.{eqb-suc-suc, eqb-suc-zero, eqb-zero-suc}
use Rattle.std.proofs.lemmas.Bool.{cases_lt, eqb-false}
use Rattle.std.proofs.lemmas.List.{map-append}
use Rattle.std.proofs.lemmas.List.Elements.{filter-append, filter_map-append, All-from_recursion, recursion_from_All}
use Rattle.std.proofs.lemmas.List.Sorted.{IsPermutation-refl, IsPermutation-sym, IsPermutation-trans, IsPermutation-cons, IsPermutation-map, IsPermutation-append_left, IsPermutation-middle, All-permutation}
use Rattle.std.proofs.lemmas.Map.Keys.{IsDistinct-IsPermutation}
use Rattle.std.proofs.lemmas.Simd.{map-map}
use Rattle.coco_types.specs.declared.call.Request.{Request}
use Rattle.coco_types.specs.declared.call.Done.{Done}
use Rattle.coco_ast.specs.History.{IsBefore, IsRising, request_of}
use Rattle.coco_ast.specs.Keyed.{Rows, put_over}
use Rattle.coco_ast.specs.Meaning.{run}
use Rattle.coco_ast.specs.Tree.{Procedures}
use Rattle.coco_occ.specs.declared.outcome.Outcome.{Outcome}
use Rattle.coco_occ.specs.declared.outcome.Outcome.TheVariants.{Committed, Conflict, OverTime}
use Rattle.coco_occ.specs.declared.outcome.Tried.{Tried}
use Rattle.coco_order.specs.Order.{AreInOrder}
use Rattle.coco_order.specs.Execution.{Beginning, Execution, Tries, AreTries, AreWorkedOff, IsExecution, all_tries, concat, concat_tries, how_many_at, is_conflict}
use Rattle.coco_order.specs.Outcome.{IsOutcome, commit_of, commits, done_of, is_commit, is_committed, tail_dones, tail_requests, uncommitted}
use Rattle.coco_order.specs.Laws.{OutcomesAreEpochs}
use Rattle.coco_order.proofs.Attempts.{by_bool}
use Rattle.coco_order.proofs.Passes.{all_append}

-- ---- numbers among places

abbrev pub has : List ℕ → ℕ → Bool
has ps place = list_any (λ p. eqb p place) ps

abbrev pub count : List ℕ → ℕ → ℕ
count ps place = length (filter (λ p. eqb p place) ps)

count_append : (ps qs : List ℕ) (place : ℕ) → count (ps ++ qs) place ≡ count ps place + count qs place
count_append ps qs place = ap length (filter-append (λ p. eqb p place) ps qs) ∙ length-append (filter (λ p. eqb p place) ps) (filter (λ p. eqb p place) qs)

-- what is counted none is not there, and what is there is counted
pub counts_none : (ps : List ℕ) (place : ℕ) → count ps place ≡ 0 → has ps place ≡ false
counts_none [] place none = refl
counts_none (p ∷ ps) place none =
    by_bool (λ z. length (cond z (p ∷ filter (λ q. eqb q place) ps) (filter (λ q. eqb q place) ps)) ≡ 0 → z || has ps place ≡ false) (eqb p place)
    (λ _ h. absurd (omega arith))
    (λ _ h. counts_none ps place h) none

counts_some : (ps : List ℕ) (place : ℕ) → has ps place ≡ true → 1 ≤ count ps place
counts_some [] place some = let apart : false ≡ true = some in cc
counts_some (p ∷ ps) place some =
    by_bool (λ z. z || has ps place ≡ true → 1 ≤ length (cond z (p ∷ filter (λ q. eqb q place) ps) (filter (λ q. eqb q place) ps))) (eqb p place)
    (λ _ _. omega arith)
    (λ _ h. counts_some ps place h) some

-- ---- the places behind the first, counted from there

abbrev lower : List ℕ → List ℕ
lower [] = []
lower (zero ∷ ps) = lower ps
lower (suc p ∷ ps) = p ∷ lower ps

lower_has : (ps : List ℕ) (place : ℕ) → has ps (suc place) ≡ has (lower ps) place
lower_has [] place = refl
lower_has (zero ∷ ps) place = ap (λ z. z || has ps (suc place)) (eqb-zero-suc place) ∙ lower_has ps place
lower_has (suc p ∷ ps) place = ap (λ z. z || has ps (suc place)) (eqb-suc-suc p place) ∙ ap (λ z. eqb p place || z) (lower_has ps place)

lower_count : (ps : List ℕ) (place : ℕ) → count ps (suc place) ≡ count (lower ps) place
lower_count [] place = refl
lower_count (zero ∷ ps) place = ap (λ z. length (cond z (zero ∷ filter (λ q. eqb q (suc place)) ps) (filter (λ q. eqb q (suc place)) ps))) (eqb-zero-suc place) ∙ lower_count ps place
lower_count (suc p ∷ ps) place =
    ap (λ z. length (cond z (suc p ∷ filter (λ q. eqb q (suc place)) ps) (filter (λ q. eqb q (suc place)) ps))) (eqb-suc-suc p place)
    ∙ by_bool (λ z. length (cond z (suc p ∷ filter (λ q. eqb q (suc place)) ps) (filter (λ q. eqb q (suc place)) ps)) ≡ length (cond z (p ∷ filter (λ q. eqb q place) (lower ps)) (filter (λ q. eqb q place) (lower ps)))) (eqb p place)
    (λ _. ap suc (lower_count ps place))
    (λ _. lower_count ps place)

-- ---- the requests at places

abbrev named : List Request → List ℕ → List Request
named rs ps = filter_map (slice_get rs) ps

named_none : (ps : List ℕ) → named [] ps ≡ []
named_none [] = refl
named_none (p ∷ ps) = named_none ps

-- where the first place is not among them
named_behind : (r : Request) (rs : List Request) (ps : List ℕ) → has ps 0 ≡ false → named (r ∷ rs) ps ≡ named rs (lower ps)
named_behind r rs [] none = refl
named_behind r rs (zero ∷ ps) none = absurd (let apart : true ≡ false = none in cc)
named_behind r rs (suc p ∷ ps) none = ap (cons_option (slice_get rs p)) (named_behind r rs ps (ap (λ z. z || has ps 0) (sym (eqb-suc-zero p)) ∙ none))

-- where it is there once
named_first : (r : Request) (rs : List Request) (ps : List ℕ) → count ps 0 ≡ 1 → IsPermutation (r ∷ named rs (lower ps)) (named (r ∷ rs) ps)
named_first r rs [] once = absurd (omega arith)
named_first r rs (zero ∷ ps) once =
    let rest : suc (count ps 0) ≡ 1 = once in
    subst (λ (l : List Request). IsPermutation (r ∷ named rs (lower ps)) (r ∷ l)) (sym (named_behind r rs ps (counts_none ps 0 (omega arith)))) (IsPermutation-refl (r ∷ named rs (lower ps)))
named_first r rs (suc p ∷ ps) once =
    behind (named_first r rs ps (ap (λ z. length (cond z (suc p ∷ filter (λ q. eqb q 0) ps) (filter (λ q. eqb q 0) ps))) (sym (eqb-suc-zero p)) ∙ once)) (slice_get rs p)
  where
    behind : IsPermutation (r ∷ named rs (lower ps)) (named (r ∷ rs) ps) → (o : Option Request) → IsPermutation (r ∷ cons_option o (named rs (lower ps))) (cons_option o (named (r ∷ rs) ps))
    behind rest None = rest
    behind rest (Some q) =
        IsPermutation-trans (r ∷ q ∷ named rs (lower ps)) (q ∷ r ∷ named rs (lower ps)) (q ∷ named (r ∷ rs) ps)
        (IsPermutation-sym (q ∷ r ∷ named rs (lower ps)) (r ∷ q ∷ named rs (lower ps)) (IsPermutation-middle (q ∷ []) r (named rs (lower ps))))
        (IsPermutation-cons q (r ∷ named rs (lower ps)) (named (r ∷ rs) ps) rest)

-- each request is at a place where one committed, or among those that none committed
parted : (x : Execution) (place : ℕ) (rs : List Request) (ps : List ℕ) → ((i : ℕ) → is_committed x (i + place) ≡ has ps i) → ((i : ℕ) → i < length rs → count ps i ≤ 1) → IsPermutation rs (named rs ps ++ uncommitted x place rs)
parted x place [] ps known once = subst (λ (l : List Request). IsPermutation [] (l ++ [])) (sym (named_none ps)) (IsPermutation-refl [])
parted x place (r ∷ rs) ps known once =
    let rest = parted x (suc place) rs (lower ps) (λ i. ap (is_committed x) (shift i) ∙ known (suc i) ∙ lower_has ps i) (λ i lt. subst (λ (n : ℕ). n ≤ 1) (lower_count ps i) (once (suc i) (omega arith))) in
    by_bool (λ z. is_committed x place ≡ z → IsPermutation (r ∷ rs) (named (r ∷ rs) ps ++ cond z (uncommitted x (suc place) rs) (r ∷ uncommitted x (suc place) rs))) (is_committed x place)
    (λ _. first (IsPermutation-cons r rs (named rs (lower ps) ++ uncommitted x (suc place) rs) rest))
    (λ _. left (IsPermutation-cons r rs (named rs (lower ps) ++ uncommitted x (suc place) rs) rest)) refl
  where
    shift : (i : ℕ) → i + suc place ≡ suc i + place
    shift i = omega arith

    here : is_committed x place ≡ has ps 0
    here = let from_place : place ≡ 0 + place = omega arith in ap (is_committed x) from_place ∙ known 0

    first : IsPermutation (r ∷ rs) (r ∷ (named rs (lower ps) ++ uncommitted x (suc place) rs)) → is_committed x place ≡ true → IsPermutation (r ∷ rs) (named (r ∷ rs) ps ++ uncommitted x (suc place) rs)
    first rest is =
        let most : count ps 0 ≤ 1 = once 0 (omega arith) in
        let least : 1 ≤ count ps 0 = counts_some ps 0 (sym here ∙ is) in
        IsPermutation-trans (r ∷ rs) (r ∷ (named rs (lower ps) ++ uncommitted x (suc place) rs)) (named (r ∷ rs) ps ++ uncommitted x (suc place) rs) rest
        (IsPermutation-append_left (uncommitted x (suc place) rs) (r ∷ named rs (lower ps)) (named (r ∷ rs) ps) (named_first r rs ps (omega arith)))

    left : IsPermutation (r ∷ rs) (r ∷ (named rs (lower ps) ++ uncommitted x (suc place) rs)) → is_committed x place ≡ false → IsPermutation (r ∷ rs) (named (r ∷ rs) ps ++ r ∷ uncommitted x (suc place) rs)
    left rest is =
        subst (λ (l : List Request). IsPermutation (r ∷ rs) (l ++ r ∷ uncommitted x (suc place) rs)) (sym (named_behind r rs ps (sym here ∙ is)))
        (IsPermutation-trans (r ∷ rs) (r ∷ (named rs (lower ps) ++ uncommitted x (suc place) rs)) (named rs (lower ps) ++ r ∷ uncommitted x (suc place) rs) rest
        (IsPermutation-sym (named rs (lower ps) ++ r ∷ uncommitted x (suc place) rs) (r ∷ (named rs (lower ps) ++ uncommitted x (suc place) rs)) (IsPermutation-middle (named rs (lower ps)) r (uncommitted x (suc place) rs))))

-- ---- the places of the commits

abbrev committed_place : Tried → Option ℕ
committed_place t = cond (is_commit t.outcome) (Some t.place) None

abbrev pub places : List Tried → List ℕ
places ts = filter_map committed_place ts

pub committed_has : (ts : List Tried) (place : ℕ) → list_any (λ t. eqb t.place place && is_commit t.outcome) ts ≡ has (places ts) place
committed_has [] place = refl
committed_has (t ∷ ts) place =
    by_bool (λ z. (eqb t.place place && z) || list_any (λ u. eqb u.place place && is_commit u.outcome) ts ≡ has (cons_option (cond z (Some t.place) None) (places ts)) place) (is_commit t.outcome)
    (λ _. ap (λ z. z || list_any (λ u. eqb u.place place && is_commit u.outcome) ts) (and-true (eqb t.place place)) ∙ ap (λ z. eqb t.place place || z) (committed_has ts place))
    (λ _. ap (λ z. z || list_any (λ u. eqb u.place place && is_commit u.outcome) ts) (and-false (eqb t.place place)) ∙ committed_has ts place)

pub no_commit : (o : Outcome) → is_conflict o ≡ true → is_commit o ≡ false
no_commit (Committed time reply) conflict = let apart : false ≡ true = conflict in cc
no_commit (Conflict why) conflict = refl
no_commit OverTime conflict = refl

conflicts_none : (ts : List Tried) → AllByRecursion (λ t. is_conflict t.outcome ≡ true) ts → places ts ≡ []
conflicts_none [] all = refl
conflicts_none (t ∷ ts) all = ap (λ (z : Bool). cons_option (cond z (Some t.place) None) (places ts)) (no_commit t.outcome all.0) ∙ conflicts_none ts all.1

tries_places : (r : Tries) (attempts : ℕ) → AreTries attempts r → places (all_tries r) ≡ cons_option (cond (is_commit r.last.outcome) (Some r.place) None) []
tries_places r attempts are =
    filter_map-append committed_place r.conflicts (r.last ∷ [])
    ∙ ap (λ (ps : List ℕ). ps ++ places (r.last ∷ [])) (conflicts_none r.conflicts are.conflicts)
    ∙ ap (λ (p : ℕ). cons_option (cond (is_commit r.last.outcome) (Some p) None) []) (last_placed r.conflicts are.placed)
  where
    last_placed : (ts : List Tried) → AllByRecursion (λ t. t.place ≡ r.place) (ts ++ r.last ∷ []) → r.last.place ≡ r.place
    last_placed [] all = all.0
    last_placed (t ∷ ts) all = last_placed ts all.1

-- the tries of a place have at most one commit
commits_few : (rs : List Tries) (attempts place : ℕ) → AllByRecursion (AreTries attempts) rs → count (places (concat_tries rs)) place ≤ how_many_at place rs
commits_few [] attempts place all = omega arith
commits_few (r ∷ rs) attempts place all =
    subst (λ (n : ℕ). n ≤ how_many_at place (r ∷ rs)) (sym split) (from (commits_few rs attempts place all.1) (is_commit r.last.outcome))
  where
    split : count (places (concat_tries (r ∷ rs))) place ≡ count (cons_option (cond (is_commit r.last.outcome) (Some r.place) None) []) place + count (places (concat_tries rs)) place
    split =
        ap (λ (ps : List ℕ). count ps place) (filter_map-append committed_place (all_tries r) (concat_tries rs))
        ∙ count_append (places (all_tries r)) (places (concat_tries rs)) place
        ∙ ap (λ (ps : List ℕ). count ps place + count (places (concat_tries rs)) place) (tries_places r attempts all.0)

    from : count (places (concat_tries rs)) place ≤ how_many_at place rs → (committed : Bool) → count (cons_option (cond committed (Some r.place) None) []) place + count (places (concat_tries rs)) place ≤ how_many_at place (r ∷ rs)
    from few true =
        by_bool (λ z. length (cond z (r.place ∷ []) []) + count (places (concat_tries rs)) place ≤ length (cond z (r ∷ filter (λ q. eqb q.place place) rs) (filter (λ q. eqb q.place place) rs))) (eqb r.place place)
        (λ _. omega arith) (λ _. omega arith)
    from few false =
        by_bool (λ z. 0 + count (places (concat_tries rs)) place ≤ length (cond z (r ∷ filter (λ q. eqb q.place place) rs) (filter (λ q. eqb q.place place) rs))) (eqb r.place place)
        (λ _. omega arith) (λ _. omega arith)

tries_append : (rs qs : List Tries) → concat_tries (rs ++ qs) ≡ concat_tries rs ++ concat_tries qs
tries_append [] qs = refl
tries_append (r ∷ rs) qs = ap (λ (ts : List Tried). all_tries r ++ ts) (tries_append rs qs) ∙ sym (append_assoc (all_tries r) (concat_tries rs) (concat_tries qs))

tries_joined : (rss : List (List Tries)) → concat (map concat_tries rss) ≡ concat_tries (concat rss)
tries_joined [] = refl
tries_joined (rs ∷ rss) = ap (λ (ts : List Tried). concat_tries rs ++ ts) (tries_joined rss) ∙ sym (tries_append rs (concat rss))

all_joined : {X : Type 0} (P : X → Type 0) (xss : List (List X)) → AllByRecursion (AllByRecursion P) xss → AllByRecursion P (concat xss)
all_joined P [] all = tt
all_joined P (xs ∷ xss) all = all_append P xs (concat xss) all.0 (all_joined P xss all.1)

pub commits_once : (b : Beginning) (x : Execution) → AreWorkedOff b x.transcripts → (place : ℕ) → place < length b.requests → count (places (concat x.transcripts)) place ≤ 1
commits_once b x w place lt =
    subst (λ (ts : List Tried). count (places ts) place ≤ 1) (sym (ap concat w.transcripts_are ∙ tries_joined w.tries))
    (let few = commits_few (concat w.tries) b.attempts place (all_joined (AreTries b.attempts) w.tries w.each) in let one = w.once place lt in omega arith)

-- ---- the Dones' requests

commits_named : (b : Beginning) (epoch : ℕ) (ts : List Tried) → map request_of (filter_map (commit_of b epoch) ts) ≡ named b.requests (places ts)
commits_named b epoch [] = refl
commits_named b epoch (t ∷ ts) = from (commits_named b epoch ts) (slice_get b.requests t.place) refl t.outcome
  where
    from : map request_of (filter_map (commit_of b epoch) ts) ≡ named b.requests (places ts) → (o : Option Request) → slice_get b.requests t.place ≡ o → (outcome : Outcome)
        → map request_of (cons_option (done_of epoch o outcome) (filter_map (commit_of b epoch) ts)) ≡ named b.requests (cons_option (cond (is_commit outcome) (Some t.place) None) (places ts))
    from rest (Some r) is (Committed time reply) = ap (λ (rs : List Request). r ∷ rs) rest ∙ ap (λ (o : Option Request). cons_option o (named b.requests (places ts))) (sym is)
    from rest (Some r) is (Conflict why) = rest
    from rest (Some r) is OverTime = rest
    from rest None is (Committed time reply) = rest ∙ ap (λ (o : Option Request). cons_option o (named b.requests (places ts))) (sym is)
    from rest None is (Conflict why) = rest
    from rest None is OverTime = rest

commits_numbered : (b : Beginning) (epoch : ℕ) (ts : List Tried) → AllByRecursion (λ d. d.epoch ≡ epoch) (filter_map (commit_of b epoch) ts)
commits_numbered b epoch [] = tt
commits_numbered b epoch (t ∷ ts) = from (commits_numbered b epoch ts) (slice_get b.requests t.place) t.outcome
  where
    from : AllByRecursion (λ d. d.epoch ≡ epoch) (filter_map (commit_of b epoch) ts) → (o : Option Request) (outcome : Outcome) → AllByRecursion (λ d. d.epoch ≡ epoch) (cons_option (done_of epoch o outcome) (filter_map (commit_of b epoch) ts))
    from rest (Some r) (Committed time reply) = (refl, rest)
    from rest (Some r) (Conflict why) = rest
    from rest (Some r) OverTime = rest
    from rest None outcome = rest

module _ (ps : Procedures) (epoch : ℕ) where
  tail_named : (rows : Rows) (time : ℕ) (rs : List Request) → map request_of (tail_dones ps epoch rows time rs) ≡ rs
  tail_named rows time [] = refl
  tail_named rows time (r ∷ rs) = ap (λ (qs : List Request). r ∷ qs) (tail_named (put_over rows (run ps r.call rows).writes) (suc time) rs)

  tail_numbered : (rows : Rows) (time : ℕ) (rs : List Request) → AllByRecursion (λ d. d.epoch ≡ epoch) (tail_dones ps epoch rows time rs)
  tail_numbered rows time [] = tt
  tail_numbered rows time (r ∷ rs) = (refl, tail_numbered (put_over rows (run ps r.call rows).writes) (suc time) rs)

-- ---- in order, with ids of their own, they rise

comes_before : (d e : Done) → d.epoch ≡ e.epoch → (IsBefore e d → ⊥) → eqb d.id e.id ≡ false → IsBefore d e
comes_before d e same not_before apart = elim (cases_lt d.time e.time) [
  | inl earlier ↦ inr (same, inl earlier)
  | inr late ↦ elim (cases_lt e.time d.time) [
    | inl later ↦ absurd (not_before (inr (sym same, inl later)))
    | inr early ↦ (let at : d.time ≡ e.time = omega arith in by_id at (cases_lt d.id e.id) (cases_lt e.id d.id))
  ]
]
  where
    by_id : d.time ≡ e.time → ((d.id < e.id) ⊎ (e.id ≤ d.id)) → ((e.id < d.id) ⊎ (d.id ≤ e.id)) → IsBefore d e
    by_id at (inl below) other = inr (same, inr (at, below))
    by_id at (inr above) (inl back) = absurd (not_before (inr (sym same, inr (sym at, back))))
    by_id at (inr above) (inr below) = absurd (eqb-false d.id e.id apart (omega arith))

rises : (epoch : ℕ) (ds : List Done) → AllByRecursion (λ d. d.epoch ≡ epoch) ds → AreInOrder ds → IsDistinct nat_eq (map (λ (d : Done). d.id) ds) → IsRising ds
unfolding IsDistinct
rises epoch [] numbers order distinct = tt
rises epoch (d ∷ ds) numbers order distinct = (before ds numbers.1 order.0 distinct.0, rises epoch ds numbers.1 order.1 distinct.1)
  where
    before : (es : List Done) → AllByRecursion (λ e. e.epoch ≡ epoch) es → AllByRecursion (λ e. IsBefore e d → ⊥) es → AllByRecursion (λ id. eqb d.id id ≡ false) (map (λ (e : Done). e.id) es) → AllByRecursion (λ e. IsBefore d e) es
    before [] same none apart = tt
    before (e ∷ es) same none apart = (comes_before d e (numbers.0 ∙ sym same.0) none.0 apart.0, before es same.1 none.1 apart.1)

-- ---- the epoch

module _ (b : Beginning) (x : Execution) (is : IsExecution b x) (epoch : ℕ) (dones : List Done) (o : IsOutcome b epoch x dones) where
  abbrev tail_of : List Done
  tail_of = tail_dones b.procs epoch o.rows o.most (tail_requests b x)

  all_named : map request_of (commits b epoch x ++ tail_of) ≡ named b.requests (places (concat x.transcripts)) ++ tail_requests b x
  all_named =
      map-append request_of (commits b epoch x) tail_of
      ∙ ap (λ (rs : List Request). rs ++ map request_of tail_of) (commits_named b epoch (concat x.transcripts))
      ∙ ap (λ (rs : List Request). named b.requests (places (concat x.transcripts)) ++ rs) (tail_named b.procs epoch o.rows o.most (tail_requests b x))

  each : IsPermutation b.requests (map request_of dones)
  each =
      IsPermutation-trans b.requests (map request_of (commits b epoch x ++ tail_of)) (map request_of dones)
      (subst (IsPermutation b.requests) (sym all_named)
      (parted x 0 b.requests (places (concat x.transcripts)) (λ i. ap (is_committed x) (no_more i) ∙ committed_has (concat x.transcripts) i) (commits_once b x is.worked_off)))
      (IsPermutation-map request_of (commits b epoch x ++ tail_of) dones o.same)
    where
      no_more : (i : ℕ) → i + 0 ≡ i
      no_more i = omega arith

  numbered : AllByRecursion (λ d. d.epoch ≡ epoch) dones
  numbered =
      let all = all_append (λ (d : Done). d.epoch ≡ epoch) (commits b epoch x) tail_of (commits_numbered b epoch (concat x.transcripts)) (tail_numbered b.procs epoch o.rows o.most (tail_requests b x)) in
      recursion_from_All (λ (d : Done). d.epoch ≡ epoch) dones (All-permutation (λ (d : Done). d.epoch ≡ epoch) (commits b epoch x ++ tail_of) dones o.same (All-from_recursion (λ (d : Done). d.epoch ≡ epoch) (commits b epoch x ++ tail_of) all))

  own_ids : IsDistinct nat_eq (map (λ (r : Request). r.id) b.requests) → IsDistinct nat_eq (map (λ (d : Done). d.id) dones)
  own_ids distinct =
      subst (IsDistinct nat_eq) (map-map (λ (r : Request). r.id) request_of dones)
      (IsDistinct-IsPermutation nat_eq nat_eq_equiv.symm (map (λ (r : Request). r.id) b.requests) (map (λ (r : Request). r.id) (map request_of dones)) (IsPermutation-map (λ (r : Request). r.id) b.requests (map request_of dones) each) distinct)

pub outcomes_are_epochs : (b : Beginning) (x : Execution) → IsExecution b x → OutcomesAreEpochs b x
outcomes_are_epochs b x is epoch dones o distinct = record {
  each = each b x is epoch dones o;
  numbered = numbered b x is epoch dones o;
  rising = rises epoch dones (numbered b x is epoch dones o) o.order (own_ids b x is epoch dones o distinct);
}
