-- The trace of an epoch of some workers, with those behind them who weren't started.
use Rattle.std.proofs.Common.{◌≡◌, ℕ, zero, suc, ◌+◌, ◌-◌, ◌<◌, ◌≤◌, ◌^◌, Bool, true, false, ◌&&◌, cond, nat_eq, nat_le, List, [], ◌∷◌, ◌++◌, map, length, replicate, slice_index_or, refl, sym, ap, ◌∙◌, subst, arith}
use Rattle.std.specs.List.{AllByRecursion, filter, list_any}
use Rattle.std.proofs.lemmas.Bool.{eqb-true, leb-false, leb-true}
use Rattle.std.proofs.lemmas.List.Elements.{All-from_recursion, recursion_from_All}
use Rattle.coco_types.specs.Limits.{most_batch_lines}
use Rattle.coco_types.specs.declared.call.Done.{Done}
use Rattle.coco_types.specs.declared.call.Request.{Request}
use Rattle.coco_ast.proofs.Lists.{all_weaker}
use Rattle.coco_copy.specs.declared.ops.CopyAnswer.{CopyAnswer}
use Rattle.coco_copy.specs.declared.ops.CopyAsk.{CopyAsk}
use Rattle.coco_journaled.specs.declared.entry.Entry.{Entry}
use Rattle.coco_journaled.specs.Passes.{entries_of}
use Rattle.coco_occ.specs.declared.outcome.Ended.{Ended}
use Rattle.coco_occ.specs.declared.outcome.Tailed.{Tailed}
use Rattle.coco_occ.specs.declared.outcome.Tried.{Tried}
use Rattle.coco_order.specs.Execution.{Beginning, Execution, InEachExecution, IsExecution, Transcript, concat}
use Rattle.coco_order.specs.Laws.{IdleWorkersFit, wider}
use Rattle.coco_order.specs.Outcome.{IsOutcome, is_commit, is_committed}
use Rattle.coco_worker.specs.Trying.{ends_of}
use Rattle.coco_parallel.specs.Ending.{Start, job_of}
use Rattle.coco_parallel.specs.Tails.{TailsAreLeft, entry_at, tail_from}
use Rattle.coco_parallel.specs.Traces.{IsTraceOf, Traced, execution_in}
use Rattle.coco_parallel.specs.Worked.{CopyJournal, HaveCommits, PutsItsCommits}
use Rattle.coco_parallel.proofs.SlotLemmas.{by_bool}

-- ---- lists with nothing behind them

concat_more : {X : Type 0} (xss : List (List X)) (n : ℕ) → concat (xss ++ replicate n []) ≡ concat xss
concat_more [] zero = refl
concat_more [] (suc n) = concat_more [] n
concat_more (xs ∷ xss) n = ap (λ ys. xs ++ ys) (concat_more xss n)

front_stays : {X : Type 0} (xss : List (List X)) (n k : ℕ) → k < length xss → slice_index_or (xss ++ replicate n []) k [] ≡ slice_index_or xss k []
front_stays [] n k lt = absurd (omega (arith, lt))
front_stays (xs ∷ xss) n zero lt = refl
front_stays (xs ∷ xss) n (suc k) lt = front_stays xss n k (omega (arith, lt))

nothing_behind : {X : Type 0} (xss : List (List X)) (n k : ℕ) → length xss ≤ k → slice_index_or (xss ++ replicate n []) k [] ≡ []
nothing_behind [] zero k le = refl
nothing_behind [] (suc n) zero le = refl
nothing_behind [] (suc n) (suc k) le = nothing_behind [] n k (omega (arith, le))
nothing_behind (xs ∷ xss) n zero le = absurd (omega (arith, le))
nothing_behind (xs ∷ xss) n (suc k) le = nothing_behind xss n k (omega (arith, le))

-- ---- the tail

abbrev with_ends : Request → List Ended → Tailed
with_ends r ends = record { id = r.id; ends = ends }

-- it is told by all scripts together
same_tail : (x y : Execution) → concat x.transcripts ≡ concat y.transcripts → (place : ℕ) (rs : List Request) → tail_from x place rs ≡ tail_from y place rs
same_tail x y same place [] = refl
same_tail x y same place (r ∷ rs) =
    ap (λ (ts : List Tried).
    cond (list_any (λ (t : Tried). nat_eq t.place place && is_commit t.outcome) ts) (tail_from x (suc place) rs) (with_ends r (ends_of (filter (λ (t : Tried). nat_eq t.place place) ts)) ∷ tail_from x (suc place) rs)) same
    ∙ ap (λ (ds : List Tailed). cond (is_committed y place) ds (entry_at y place r ∷ ds)) (same_tail x y same (suc place) rs)

-- ---- the whole trace

module _ (b : Beginning) (workers epoch : ℕ) (dones : List Done) (t : Traced) (transcripts : List Transcript) (more : b.workers ≤ workers) (behind : t.transcripts ≡ transcripts ++ replicate (workers - b.workers) []) where
  abbrev x : Execution
  x = record { journals = t.journals; transcripts = transcripts }

  abbrev all : Beginning
  all = record b { workers = workers }

  abbrev idle : ℕ
  idle = workers - b.workers

  is_whole : InEachExecution IdleWorkersFit → IsExecution b x → IsOutcome b epoch x dones → IsExecution all (execution_in t) × IsOutcome all epoch (execution_in t) dones
  is_whole fit is outcome =
      let fits = fit b x is in
      let sum : b.workers + idle ≡ workers = omega (arith, more) in
      subst (λ (n : ℕ). IsExecution (record b { workers = n }) (execution_in t) × IsOutcome (record b { workers = n }) epoch (execution_in t) dones) sum
      (subst (λ (ts : List Transcript). IsExecution (wider b idle) (record { journals = t.journals; transcripts = ts }) × IsOutcome (wider b idle) epoch (record { journals = t.journals; transcripts = ts }) dones) (sym behind)
      (fits.execution idle, fits.outcome idle epoch dones outcome))

  tail_is : t.tail ≡ tail_from x 0 b.requests → t.tail ≡ tail_from (execution_in t) 0 b.requests
  tail_is same = same ∙ same_tail x (execution_in t) (sym (ap concat behind ∙ concat_more transcripts idle)) 0 b.requests

  pub whole_trace : InEachExecution IdleWorkersFit → TailsAreLeft → IsExecution b x → IsOutcome b epoch x dones → t.tail ≡ tail_from x 0 b.requests → length b.requests ≤ most_batch_lines → b.attempts < 2 ^ 8 → IsTraceOf all epoch dones t
  whole_trace fit left is outcome same few attempts =
      let whole = is_whole fit is outcome in
      record { execution = whole.0; outcome = whole.1; tail = tail_is same; left = left all (execution_in t) t.tail whole.0 (tail_is same) few attempts }

-- who wasn't started did nothing
pub none_behind : (transcripts all : List Transcript) (started idle : ℕ) → all ≡ transcripts ++ replicate idle [] → length transcripts ≡ started → (worker : ℕ) → started ≤ worker → slice_index_or all worker [] ≡ []
none_behind transcripts all started idle behind count worker le = ap (λ (ts : List Transcript). slice_index_or ts worker []) behind ∙ nothing_behind transcripts idle worker (omega (arith, count, le))

-- ---- the copies

none_of : (pass : ℕ) (journal : CopyJournal) → AllByRecursion (λ (e : Entry CopyAsk CopyAnswer). e.pass < pass) journal → entries_of pass journal ≡ []
none_of pass [] all = refl
none_of pass (e ∷ es) all = by_bool (λ t. nat_eq e.pass pass ≡ t → cond t (e ∷ entries_of pass es) (entries_of pass es) ≡ []) (nat_eq e.pass pass) (λ _ same. absurd (let at : e.pass ≡ pass = eqb-true e.pass pass same in omega (arith, at, all.0))) (λ _ _. none_of pass es all.1) refl

module _ (s : Start) (started workers tables : ℕ) (journals : List CopyJournal) (transcripts all : List Transcript) (have : HaveCommits s started tables journals transcripts) (count : length transcripts ≡ started) (more : started ≤ workers)
    (behind : all ≡ transcripts ++ replicate (workers - started) []) where
  nothing : (worker : ℕ) → started ≤ worker → PutsItsCommits (job_of s worker) tables journals []
  nothing worker le = record {
    worked = [];
    each = tt;
    scripts = refl;
    puts = λ table within. ap (map (λ (e : Entry CopyAsk CopyAnswer). e.ask))
        (none_of worker (slice_index_or journals table [])
        (all_weaker (λ (e : Entry CopyAsk CopyAnswer). e.pass < started) (λ (e : Entry CopyAsk CopyAnswer). e.pass < worker) (λ e lt. omega (arith, lt, le)) (slice_index_or journals table []) (recursion_from_All (λ (e : Entry CopyAsk CopyAnswer). e.pass < started) (slice_index_or journals table []) (have.no_other table within))));
  }

  puts : (worker : ℕ) (t : Bool) → nat_le started worker ≡ t → PutsItsCommits (job_of s worker) tables journals (slice_index_or (transcripts ++ replicate (workers - started) []) worker [])
  puts worker true t =
      let le : started ≤ worker = leb-true started worker t in
      subst (PutsItsCommits (job_of s worker) tables journals) (sym (nothing_behind transcripts (workers - started) worker (omega (arith, count, le)))) (nothing worker le)
  puts worker false f =
      let lt : worker < started = leb-false started worker f in
      subst (PutsItsCommits (job_of s worker) tables journals) (sym (front_stays transcripts (workers - started) worker (omega (arith, count, lt)))) (have.puts worker lt)

  pub whole_commits : HaveCommits s workers tables journals all
  whole_commits = subst (HaveCommits s workers tables journals) (sym behind) (record {
    count = have.count;
    puts = λ worker lt. puts worker (nat_le started worker) refl;
    no_other = λ table within. All-from_recursion (λ (e : Entry CopyAsk CopyAnswer). e.pass < workers) (slice_index_or journals table [])
        (all_weaker (λ (e : Entry CopyAsk CopyAnswer). e.pass < started) (λ (e : Entry CopyAsk CopyAnswer). e.pass < workers) (λ e lt. omega (arith, lt, more)) (slice_index_or journals table []) (recursion_from_All (λ (e : Entry CopyAsk CopyAnswer). e.pass < started) (slice_index_or journals table []) (have.no_other table within)));
  })
