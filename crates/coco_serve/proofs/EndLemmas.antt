-- A run from batch to batch, for each store that its cluster may stand at, and how it ends.
use Rattle.std.proofs.Common.{◌≡◌, false, ℕ, ◌+◌, ◌<◌, ◌≤◌, ◌⊎◌, ⊎_elim, Ok, Err, List, [], ◌∷◌, ◌++◌, length, refl, sym, ap, subst, ◌∙◌, arith, append_assoc, length-append}
use Rattle.std.specs.Prelude.{Result}
use Rattle.coco_types.specs.Limits.{epochs_end}
use Rattle.coco_append.specs.Gaining.{RestsOn}
use Rattle.coco_batches.specs.BatchReading.{BreaksOff, IsCutOff, ReadsBatch, TakesLines}
use Rattle.coco_batches.specs.declared.batch.Batch.{Batch}
use Rattle.coco_batches.proofs.BatchLemmas.{takes_both, takes_none}
use Rattle.coco_cluster.specs.Around.{Around, IsLater, SkipsFew, spare}
use Rattle.coco_cluster.specs.Standing.{StandsAt}
use Rattle.coco_cluster.specs.declared.cluster.Cluster.{Cluster}
use Rattle.coco_cluster.specs.Turning.{epochs_of}
use Rattle.coco_cluster.proofs.AroundLemmas.{spare_then}
use Rattle.coco_host.specs.declared.host.Host.{Ghosts as HostGhosts}
use Rattle.coco_io.specs.Counts.{Rose}
use Rattle.coco_lines.specs.Lines.{Line, lines_of}
use Rattle.coco_lines.specs.ReaderState.{ReaderState}
use Rattle.coco_lines.specs.Reads.{Gives, HasNoFeed, SourceMoment}
use Rattle.coco_lines.specs.declared.error.LineFault.{LineFault}
use Rattle.coco_lines.specs.declared.error.LineFault.TheVariants as line
use Rattle.coco_lines.proofs.LinesLemmas.{ended-first, lines_of-first, lines_of-nil}
use Rattle.coco_store.specs.Contents.{Contents}
use Rattle.coco_serve.specs.Faults.{Counts, CountsBatch}
use Rattle.coco_serve.specs.OneBatch.{IsRefused, WorksOffBatch}
use Rattle.coco_serve.specs.Serving.{HasCause, Outside, Serves}
use Rattle.coco_cluster.specs.declared.stop.Stop.{Stop}
use Rattle.coco_cluster.specs.declared.stop.Stop.TheVariants as stop
use Rattle.coco_serve.specs.declared.bounds.RunBounds.{RunBounds}
use Rattle.coco_serve.proofs.NextLemmas.{answers_failed, finished_short, served_more}
use Rattle.coco_serve.proofs.RefusedLemmas.{HasReason, refused_ends}
use Rattle.coco_serve.proofs.RunLemmas.{AreServed, AreTaken, OnlyNow, SeenNow, few_epochs, finished, memory_ran_out, new_reader, read_failed, served_new}

-- ---- causes

pub reason_of : (f : Stop) (next requests : ℕ) (was now : Around) (before after : Counts) → CountsBatch {T = Unit {0}} (Err f) next was now requests before after → HasReason next (spare was now) requests f
reason_of stop.Read next requests was now before after counts = tt
reason_of stop.Say next requests was now before after counts = tt
reason_of stop.Disk next requests was now before after counts = tt
reason_of (stop.NotAStore file at) next requests was now before after counts = tt
reason_of stop.Unreachable next requests was now before after counts = counts.1
reason_of stop.EpochsUsedUp next requests was now before after counts = counts
reason_of stop.NoMemory next requests was now before after counts = tt

-- the cause of a batch's fault is the run's, since no count of faults of the host moved before
pub cause_of : (f : Stop) (next now requests : ℕ) (bytes : List ℕ) (start end : Outside) (was : Around) (before : Counts) → before.say ≡ start.say_faults → before.disk ≡ start.disk_faults
    → SkipsFew next now (length (lines_of bytes)) (spare start.around was) → IsLater start.around was → IsLater was end.around
    → CountsBatch {T = Unit {0}} (Err f) now was end.around requests before (record { say = end.say_faults; disk = end.disk_faults }) → HasCause next bytes start end (Err f)
cause_of stop.Read next now requests bytes start end was before says disks low first second counts = absurd counts
cause_of stop.Say next now requests bytes start end was before says disks low first second counts = subst (λ n. Rose n end.say_faults) says counts
cause_of stop.Disk next now requests bytes start end was before says disks low first second counts = subst (λ n. Rose n end.disk_faults) disks counts
cause_of (stop.NotAStore file at) next now requests bytes start end was before says disks low first second counts = ((λ i. (counts i).say) ∙ says, (λ i. (counts i).disk) ∙ disks)
cause_of stop.Unreachable next now requests bytes start end was before says disks low first second counts = (was, first, counts.0)
cause_of stop.EpochsUsedUp next now requests bytes start end was before says disks low first second counts =
    (let used = counts.0 in let adds = spare_then start.around was end.around first second in subst (SkipsFew next epochs_end (length (lines_of bytes))) (sym adds) (omega (arith, used, low)))
cause_of stop.NoMemory next now requests bytes start end was before says disks low first second counts = tt

-- ---- batches

module _ {H : Type 0} (frame : HostGhosts H) where
  -- between two batches
  pub record IsRunning (next spare : ℕ) (bounds : RunBounds) (reader : ReaderState) (before now : SourceMoment) (start k : Cluster) (first host : H) : Type 0 where
    pub taken : AreTaken next spare reader before now k
    pub served : (c : Contents) → RestsOn c (frame.reads first) (frame.may_leave first) → StandsAt c start → AreServed frame c next spare bounds taken.lines k first host

  -- at the end, where more may be skipped than did so far
  pub record RunsTo (next spare total : ℕ) (bounds : RunBounds) (reader : ReaderState) (before now : SourceMoment) (start k : Cluster) (e : Result (Unit {0}) Stop) (first host : H) : Type 0 where
    pub bytes : List ℕ
    pub gives : Gives before now bytes
    pub count : reader.taken ≡ length bytes
    pub low : SkipsFew next k.next_epoch (length (lines_of bytes)) spare
    pub serves : (c : Contents) → RestsOn c (frame.reads first) (frame.may_leave first) → StandsAt c start → Serves frame c next total bounds bytes e first host

  pub running_new : OnlyNow frame → (bounds : RunBounds) (s : ReaderState) (m : SourceMoment) (k : Cluster) (host : H) (spare : ℕ) → s ≡ new_reader → IsRunning k.next_epoch spare bounds s m m k k host host
  running_new only_now bounds s m k host spare fresh = subst (λ r. IsRunning k.next_epoch spare bounds r m m k k host host) (sym fresh) (record {
    taken = record { lines = []; takes = takes_none new_reader m; given = refl; low = omega arith };
    served = λ c rests stands. served_new frame only_now c spare bounds k host rests stands;
  })

  module _ (next spare : ℕ) (bounds : RunBounds) (reader reader' : ReaderState) (before m n : SourceMoment) (start k : Cluster) (first mid : H) (run : IsRunning next spare bounds reader before m start k first mid) where
    -- with further lines
    takes_on : (more : List Line) (behind : List ℕ) → TakesLines reader reader' m n more behind → TakesLines new_reader reader' before n (run.taken.lines ++ more) behind
    takes_on more behind takes = takes_both new_reader reader reader' before m n run.taken.lines more behind run.taken.takes takes

    lines_so : (more : List Line) (behind : List ℕ) → (takes : TakesLines reader reader' m n more behind) → lines_of (takes_on more behind takes).bytes ≡ (run.taken.lines ++ more) ++ lines_of behind
    lines_so more behind takes = let t = takes_on more behind takes in lines_of-first (run.taken.lines ++ more) t.bytes behind reader'.ended t.text

    low_so : (more : List Line) (behind : List ℕ) → (takes : TakesLines reader reader' m n more behind) → SkipsFew next k.next_epoch (length (lines_of (takes_on more behind takes).bytes)) spare
    low_so more behind takes =
        let all = ap (length {A = Line}) (lines_so more behind takes) in
        let low = run.taken.low in
        omega (arith, all, low, length-append (run.taken.lines ++ more) (lines_of behind), length-append run.taken.lines more)

    -- ends without a turn
    ends_here : (e : Result (Unit {0}) Stop) (more : List Line) (behind : List ℕ) → (takes : TakesLines reader reader' m n more behind)
        → ((c : Contents) → AreServed frame c next spare bounds run.taken.lines k first mid → Serves frame c next spare bounds (takes_on more behind takes).bytes e first mid)
        → RunsTo next spare spare bounds reader' before n start k e first mid
    ends_here e more behind takes ends =
        let t = takes_on more behind takes in
        record {
          bytes = t.bytes;
          gives = t.gives;
          count = omega (arith, t.taken);
          low = low_so more behind takes;
          serves = λ c rests stands. ends c (run.served c rests stands);
        }

    module _ (seen_now : SeenNow frame) where
      others_so : (more : List Line) (behind : List ℕ) → (takes : TakesLines reader reader' m n more behind) → lines_of (takes_on more behind takes).bytes ≡ run.taken.lines ++ (more ++ lines_of behind)
      others_so more behind takes = lines_so more behind takes ∙ append_assoc run.taken.lines more (lines_of behind)

      -- ---- a batch that isn't read whole

      pub broken_memory : (f : LineFault) → BreaksOff reader reader' m n bounds.size f → RunsTo next spare spare bounds reader' before n start k (Err stop.NoMemory) first mid
      broken_memory f b = ends_here (Err stop.NoMemory) b.lines b.rest b.takes (λ c a.
          memory_ran_out frame seen_now c next spare bounds run.taken.lines k first mid a (takes_on b.lines b.rest b.takes).bytes (b.lines ++ lines_of b.rest) (others_so b.lines b.rest b.takes))

      broken_read : (f : LineFault) → (b : BreaksOff reader reader' m n bounds.size f) → (length b.lines < bounds.size) × HasNoFeed b.rest × (reader'.ended ≡ false) → RunsTo next spare spare bounds reader' before n start k (Err stop.Read) first mid
      broken_read f b cut = ends_here (Err stop.Read) b.lines b.rest b.takes (λ c a.
          let t = takes_on b.lines b.rest b.takes in
          read_failed frame seen_now c next spare bounds run.taken.lines k first mid a t.bytes (b.lines ++ lines_of b.rest) (others_so b.lines b.rest b.takes)
          b.lines (ended-first (run.taken.lines ++ b.lines) t.bytes b.rest reader'.ended t.text cut.2 cut.1) cut.0)

      pub broken_failed : (f : LineFault) → BreaksOff reader reader' m n bounds.size f → f ≡ line.Failed → RunsTo next spare spare bounds reader' before n start k (Err stop.Read) first mid
      broken_failed f b is = broken_read f b (subst (λ x. IsCutOff x bounds.size b.lines b.rest reader'.ended) is b.cut_off)

      pub broken_much : (f : LineFault) → BreaksOff reader reader' m n bounds.size f → f ≡ line.TooMuch → RunsTo next spare spare bounds reader' before n start k (Err stop.Read) first mid
      broken_much f b is = broken_read f b (subst (λ x. IsCutOff x bounds.size b.lines b.rest reader'.ended) is b.cut_off)

      -- ---- a batch that is read

      module _ (batch : Batch) (r : ReadsBatch k.procs k.kept reader reader' m n bounds.size batch) where
        abbrev more : List Line
        more = r.taking.lines

        abbrev took : TakesLines new_reader reader' before n (run.taken.lines ++ more) reader'.pending
        took = takes_on more reader'.pending r.taking.takes

        -- without a line
        pub finished_empty : length batch.answers.items ≡ 0 → 0 < bounds.size → RunsTo next spare spare bounds reader' before n start k (Ok tt) first mid
        finished_empty none some = ends_here (Ok tt) more reader'.pending r.taking.takes (λ c a.
            let end = r.ends (omega (arith, none, some)) in
            let no_lines : more ≡ [] = nothing more (omega (arith, r.taking.as_many, none)) in
            finished frame seen_now c next spare bounds run.taken.lines k first mid a took.bytes (more ++ lines_of reader'.pending) (others_so more reader'.pending r.taking.takes)
            (ap (λ ls. ls ++ lines_of reader'.pending) no_lines ∙ ap lines_of end.1 ∙ lines_of-nil) some)
          where
            nothing : (ls : List Line) → length ls ≡ 0 → ls ≡ []
            nothing [] e = refl
            nothing (l ∷ ls) e = absurd (omega arith)

        abbrev Tries : ℕ → Result (Unit {0}) Stop → Cluster → H → Type 0
        Tries later result k' host =
            (d : Contents) → RestsOn d (frame.reads mid) (frame.may_leave mid) → StandsAt d k
            → IsRefused frame result d k.next_epoch later mid host ⊎ WorksOffBatch frame result batch bounds d k.next_epoch later k' mid host

        answered : (later : ℕ) (k' : Cluster) (host : H) → Tries later (Ok tt) k' host → (d : Contents) → RestsOn d (frame.reads mid) (frame.may_leave mid) → StandsAt d k
            → WorksOffBatch frame (Ok tt) batch bounds d k.next_epoch later k' mid host
        answered later k' host tries d rests stands = ⊎_elim (λ none. absurd none.ends) (λ yes. yes) (tries d rests stands)

        -- it was whole, and there are more
        pub running_more : (later total : ℕ) (result : Result (Unit {0}) Stop) (k' : Cluster) (host : H) → total ≡ spare + later → result ≡ Ok tt → Tries later result k' host → bounds.size ≤ length batch.answers.items
            → 0 < length batch.answers.items → reader'.given ≡ reader.given + length batch.answers.items → SkipsFew k.next_epoch k'.next_epoch (epochs_of batch.fresh) later
            → IsRunning next total bounds reader' before n start k' first host
        running_more later total result k' host adds ok tries full some given numbers =
            let good = subst (λ x. Tries later x k' host) ok tries in
            subst (λ t. IsRunning next t bounds reader' before n start k' first host) (sym adds) (record {
              taken = record {
                lines = run.taken.lines ++ more;
                takes = took;
                given = omega (arith, given, run.taken.given, r.taking.as_many, length-append run.taken.lines more);
                low = (let few = few_epochs batch.fresh in let low = run.taken.low in omega (arith, numbers, few, low, some, r.taking.as_many, length-append run.taken.lines more));
              };
              served = λ c rests stands.
                  let a = run.served c rests stands in
                  let x = answered later k' host good a.d a.rests a.stands in
                  served_more frame c next spare later bounds run.taken.lines k k' first mid host reader reader' m n batch (Ok tt) a run.taken.given r x x.ends full x.next_is;
            })

        -- it was the last one
        pub finished_last : (later total : ℕ) (result : Result (Unit {0}) Stop) (k' : Cluster) (host : H) → total ≡ spare + later → result ≡ Ok tt → Tries later result k' host → length batch.answers.items < bounds.size
            → 0 < length batch.answers.items → RunsTo next spare total bounds reader' before n start k (Ok tt) first host
        finished_last later total result k' host adds ok tries short some =
            let good = subst (λ x. Tries later x k' host) ok tries in
            subst (λ t. RunsTo next spare t bounds reader' before n start k (Ok tt) first host) (sym adds) (record {
              bytes = took.bytes;
              gives = took.gives;
              count = omega (arith, took.taken);
              low = low_so more reader'.pending r.taking.takes;
              serves = λ c rests stands.
                  let a = run.served c rests stands in
                  let x = answered later k' host good a.d a.rests a.stands in
                  finished_short frame c next spare later bounds run.taken.lines k k' first mid host reader reader' m n batch (Ok tt) a run.taken.given r x seen_now took.bytes
                  (lines_so more reader'.pending r.taking.takes) some x.ends short;
            })

        -- it broke off
        pub batch_broke : (later total : ℕ) (result : Result (Unit {0}) Stop) (f : Stop) (k' : Cluster) (host : H) → total ≡ spare + later → result ≡ Err f → Tries later result k' host
            → HasReason k.next_epoch later (length batch.fresh) f → 0 < length batch.answers.items → RunsTo next spare total bounds reader' before n start k (Err f) first host
        batch_broke later total result f k' host adds is tries reason some = subst (λ t. RunsTo next spare t bounds reader' before n start k (Err f) first host) (sym adds) (record {
          bytes = took.bytes;
          gives = took.gives;
          count = omega (arith, took.taken);
          low = low_so more reader'.pending r.taking.takes;
          serves = λ c rests stands.
              let a = run.served c rests stands in
              ⊎_elim (λ x. refused_ends frame c next spare later bounds run.taken.lines k first mid host reader reader' m n batch result a r took.bytes
              (lines_so more reader'.pending r.taking.takes) some x seen_now f is reason)
              (λ x. answers_failed frame c next spare later bounds run.taken.lines k k' first mid host reader reader' m n batch result a run.taken.given r x seen_now took.bytes
              (lines_so more reader'.pending r.taking.takes) some f is) (tries a.d a.rests a.stands);
        })
