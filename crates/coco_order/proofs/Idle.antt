-- Workers may be idle: the lists of some, with empty transcripts of others behind them, are an execution of all.
use Rattle.std.proofs.Common.{◌≡◌, ℕ, zero, suc, ◌+◌, ◌<◌, ◌≤◌, nat_eq, nat_le, Bool, true, false, ◌&&◌, cond, List, [], ◌∷◌, ◌++◌, map, length, replicate, slice_index_or, refl, sym, ap, ◌∙◌, subst, arith}
use Rattle.std.specs.List.{AllByRecursion, filter_map, list_any}
use Rattle.std.specs.List.Sorted.{IsPermutation}
use Rattle.std.proofs.lemmas.Bool.{leb-false, leb-true}
use Rattle.std.proofs.lemmas.List.{length-replicate}
use Rattle.coco_types.specs.declared.call.Done.{Done}
use Rattle.coco_types.specs.declared.call.Request.{Request}
use Rattle.coco_ast.proofs.Lists.{all_weaker}
use Rattle.coco_occ.specs.declared.outcome.Tried.{Tried}
use Rattle.coco_order.specs.Execution.{AreOf, AreTries, AreWorkedOff, Beginning, Execution, InEachExecution, IsExecution, IsTried, Transcript, Tries, all_at_shard, concat, concat_tries, how_many_at, journal_of, of_pass, transcript_of}
use Rattle.coco_order.specs.Laws.{IdleWorkersFit, wider, with_idle}
use Rattle.coco_order.specs.Outcome.{IsOutcome, commit_of, commits, is_commit, tail_dones, tail_requests, uncommitted}
use Rattle.coco_order.proofs.Passes.{all_append, no_pass}

-- ---- lists with nothing behind them

pub count_more : {X : Type 0} (xss : List (List X)) (n : ℕ) → length (xss ++ replicate n []) ≡ length xss + n
count_more {X = X} [] n = let e : length (replicate {A = List X} n []) ≡ n = length-replicate n [] in omega arith
count_more (xs ∷ xss) n = let e : length (xss ++ replicate n []) ≡ length xss + n = count_more xss n in omega arith

pub concat_more : {X : Type 0} (xss : List (List X)) (n : ℕ) → concat (xss ++ replicate n []) ≡ concat xss
concat_more [] zero = refl
concat_more [] (suc n) = concat_more [] n
concat_more (xs ∷ xss) n = ap (λ ys. xs ++ ys) (concat_more xss n)

pub front_stays : {X : Type 0} (xss : List (List X)) (n k : ℕ) → k < length xss → slice_index_or (xss ++ replicate n []) k [] ≡ slice_index_or xss k []
front_stays [] n k lt = absurd (omega (arith, lt))
front_stays (xs ∷ xss) n zero lt = refl
front_stays (xs ∷ xss) n (suc k) lt = front_stays xss n k (omega (arith, lt))

pub nothing_behind : {X : Type 0} (xss : List (List X)) (n k : ℕ) → length xss ≤ k → slice_index_or (xss ++ replicate n []) k [] ≡ []
nothing_behind [] zero k le = refl
nothing_behind [] (suc n) zero le = refl
nothing_behind [] (suc n) (suc k) le = nothing_behind [] n k (omega (arith, le))
nothing_behind (xs ∷ xss) n zero le = absurd (omega (arith, le))
nothing_behind (xs ∷ xss) n (suc k) le = nothing_behind xss n k (omega (arith, le))

all_nothings : {X : Type 0} (P : List X → Type 0) → P [] → (n : ℕ) → AllByRecursion P (replicate n [])
all_nothings P p zero = tt
all_nothings P p (suc n) = (p, all_nothings P p n)

-- ---- tries

no_tries : (rss : List (List Tries)) (n : ℕ) → map concat_tries rss ++ replicate n [] ≡ map concat_tries (rss ++ replicate n [])
no_tries [] zero = refl
no_tries [] (suc n) = ap (λ (ts : List Transcript). [] ∷ ts) (no_tries [] n)
no_tries (rs ∷ rss) n = ap (λ (ts : List Transcript). concat_tries rs ∷ ts) (no_tries rss n)

-- the requests without a commit are told by all scripts together
same_left : (x y : Execution) → concat x.transcripts ≡ concat y.transcripts → (place : ℕ) (rs : List Request) → uncommitted x place rs ≡ uncommitted y place rs
same_left x y same place [] = refl
same_left x y same place (r ∷ rs) =
    ap (λ (ts : List Tried). cond (list_any (λ (t : Tried). nat_eq t.place place && is_commit t.outcome) ts) (uncommitted x (suc place) rs) (r ∷ uncommitted x (suc place) rs)) same
    ∙ ap (λ (left : List Request). cond (list_any (λ (t : Tried). nat_eq t.place place && is_commit t.outcome) (concat y.transcripts)) left (r ∷ left)) (same_left x y same (suc place) rs)

-- ---- more workers

module _ (b : Beginning) (x : Execution) (is : IsExecution b x) (idle : ℕ) where
  abbrev c : Beginning
  c = wider b idle

  abbrev y : Execution
  y = with_idle x idle

  -- a worker is one of those who ran, or did nothing
  by_worker : (P : ℕ → Transcript → Type 0) → ((worker : ℕ) → worker < b.workers → P worker (transcript_of x worker)) → ((worker : ℕ) → b.workers ≤ worker → P worker [])
      → (worker : ℕ) → P worker (transcript_of y worker)
  by_worker P ran rest worker = choose (nat_le b.workers worker) refl
    where
      choose : (t : Bool) → nat_le b.workers worker ≡ t → P worker (transcript_of y worker)
      choose true t =
          let le : b.workers ≤ worker = leb-true b.workers worker t in
          subst (P worker) (sym (nothing_behind x.transcripts idle worker (let e : length x.transcripts ≡ b.workers = is.workers in omega arith))) (rest worker le)
      choose false f =
          let lt : worker < b.workers = leb-false b.workers worker f in
          subst (P worker) (sym (front_stays x.transcripts idle worker (let e : length x.transcripts ≡ b.workers = is.workers in omega arith))) (ran worker lt)

  tried_still : (t : Tried) → IsTried b t → IsTried c t
  tried_still t at = record {
    request = at.request;
    writes = at.writes;
    placed = at.placed;
    script = at.script;
  }

  worked_still : AreWorkedOff c y.transcripts
  worked_still =
      let off = is.worked_off in
      let n : ℕ = idle in
      record {
        tries = off.tries ++ replicate n [];
        transcripts_are = ap (λ (ts : List Transcript). ts ++ replicate n []) off.transcripts_are ∙ no_tries off.tries n;
        each = all_append (AllByRecursion (AreTries b.attempts)) off.tries (replicate n []) off.each (all_nothings (AllByRecursion (AreTries b.attempts)) tt n);
        once = λ place lt. ap (how_many_at place) (concat_more off.tries n) ∙ off.once place lt;
      }

  wider_is : IsExecution c y
  wider_is = record {
    some_partitions = is.some_partitions;
    fitting = is.fitting;
    shards = is.shards;
    workers = count_more x.transcripts idle ∙ (let e : length x.transcripts ≡ b.workers = is.workers in omega arith);
    lawful = is.lawful;
    scripts = λ worker lt. by_worker (λ _ ts. AllByRecursion (IsTried c) ts) (λ w small. all_weaker (IsTried b) (IsTried c) tried_still (transcript_of x w) (is.scripts w small)) (λ w le. tt) worker;
    attempts = λ worker lt. by_worker (λ w ts. AreOf w ts) is.attempts (λ w le. record { by_worker = tt; rising = tt }) worker;
    passes = λ shard worker small lt. by_worker (λ w ts. of_pass w (journal_of x shard) ≡ all_at_shard shard ts) (λ w ran. is.passes shard w small ran)
        (λ w le. no_pass b.workers w (journal_of x shard) (is.no_other_pass shard small) le) worker;
    no_other_pass = λ shard small. all_weaker (λ e. e.pass < b.workers) (λ e. e.pass < b.workers + idle) (λ e lt. omega arith) (journal_of x shard) (is.no_other_pass shard small);
    worked_off = worked_still;
  }

  same_concat : concat y.transcripts ≡ concat x.transcripts
  same_concat = concat_more x.transcripts idle

  wider_outcome : (epoch : ℕ) (dones : List Done) → IsOutcome b epoch x dones → IsOutcome c epoch y dones
  wider_outcome epoch dones out = record {
    rows = out.rows;
    most = out.most;
    newest = out.newest;
    greatest = record { bounds = out.greatest.bounds; at = out.greatest.at; attained = out.greatest.attained };
    same = subst (λ (ds : List Done). IsPermutation ds dones) (sym all_same) out.same;
    order = out.order;
  }
    where
      all_same : commits c epoch y ++ tail_dones b.procs epoch out.rows out.most (tail_requests c y) ≡ commits b epoch x ++ tail_dones b.procs epoch out.rows out.most (tail_requests b x)
      all_same =
          ap (λ (ts : List Tried). filter_map (commit_of b epoch) ts ++ tail_dones b.procs epoch out.rows out.most (tail_requests c y)) same_concat
          ∙ ap (λ (rs : List Request). commits b epoch x ++ tail_dones b.procs epoch out.rows out.most rs) (same_left y x same_concat 0 b.requests)

pub idle_workers_fit : InEachExecution IdleWorkersFit
idle_workers_fit b x is = record { execution = wider_is b x is; outcome = wider_outcome b x is }
