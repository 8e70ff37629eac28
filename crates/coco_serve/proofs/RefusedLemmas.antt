-- A batch that isn't committed: how a run ends with it.
use Rattle.std.proofs.Common.{◌≡◌, ℕ, ◌+◌, ◌-◌, ◌<◌, inl, Err, List, [], ◌++◌, length, length-append, take, refl, sym, ap, subst, ◌∙◌, arith, append_assoc}
use Rattle.std.specs.Prelude.{⊤, Result}
use Rattle.std.proofs.Math.Seq.{take-length, take_all}
use Rattle.std.specs.Io.KnownBytes.{append_known}
use Rattle.coco_cluster.proofs.SeeingLemmas.{same_history}
use Rattle.coco_types.specs.Limits.{epochs_end}
use Rattle.coco_types.specs.declared.call.Request.{Request}
use Rattle.coco_ast.specs.History.{History}
use Rattle.coco_batches.specs.BatchReading.{ReadsBatch}
use Rattle.coco_batches.specs.declared.batch.Batch.{Batch}
use Rattle.coco_cluster.specs.Around.{SkipsFew}
use Rattle.coco_cluster.specs.declared.cluster.Cluster.{Cluster}
use Rattle.coco_cluster.specs.Turning.{RestsWithout, ShowsHistory}
use Rattle.coco_cluster.specs.Writing.{WritesLogs}
use Rattle.coco_cluster.proofs.WriteLemmas.{writes_then}
use Rattle.coco_host.specs.Moments.{Observation, SeesOnly}
use Rattle.coco_host.specs.declared.host.Host.{Ghosts as HostGhosts}
use Rattle.coco_lines.specs.Lines.{Line, lines_of}
use Rattle.coco_lines.specs.ReaderState.{ReaderState}
use Rattle.coco_lines.specs.Reads.{SourceMoment}
use Rattle.coco_lines.specs.declared.class.Class.{Class}
use Rattle.coco_log.proofs.OnlyRead.{sees_then, sees_weaker}
use Rattle.coco_store.specs.Contents.{Contents, history_of}
use Rattle.coco_serve.specs.Growth.{AddsWithin, IsGrown, Manner, answers_of, manner_of}
use Rattle.coco_serve.specs.OneBatch.{IsRefused, RefusedEnds}
use Rattle.coco_serve.specs.Seen.{IsServed}
use Rattle.coco_serve.specs.Serving.{HasNext, LeavesLast, ServedSoFar, RestsAt, RunEnds, SaysAll, SaysUpTo, Serves}
use Rattle.coco_serve.specs.declared.bounds.RunBounds.{RunBounds}
use Rattle.coco_cluster.specs.declared.stop.Stop.{Stop}
use Rattle.coco_cluster.specs.declared.stop.Stop.TheVariants as stop
use Rattle.coco_serve.proofs.NextLemmas.{read_next}
use Rattle.coco_serve.proofs.NumberLemmas.{adds_more, adds_none}
use Rattle.coco_serve.proofs.RunLemmas.{AreServed, SeenNow, all_served, classes_at, later_served, left_by, moved, paired}

-- why a batch of so many requests broke off, where no store says it
abbrev pub HasReason : ℕ → ℕ → ℕ → Stop → Type 0
HasReason next spare requests stop.Read = ⊤
HasReason next spare requests stop.Say = ⊤
HasReason next spare requests stop.Disk = ⊤
HasReason next spare requests (stop.NotAStore file at) = ⊤
HasReason next spare requests stop.Unreachable = 0 < requests
HasReason next spare requests stop.EpochsUsedUp = SkipsFew next epochs_end 0 spare × (0 < requests)
HasReason next spare requests stop.NoMemory = ⊤

module _ {H : Type 0} (frame : HostGhosts H) where
  module _ (c : Contents) (next spare more_spare : ℕ) (bounds : RunBounds) (lines : List Line) (k : Cluster) (first mid host : H) (reader reader' : ReaderState) (m n : SourceMoment) (batch : Batch) (result : Result (Unit {0}) Stop)
      (a : AreServed frame c next spare bounds lines k first mid) (r : ReadsBatch k.procs k.kept reader reader' m n bounds.size batch) (bytes : List ℕ)
      (lines_are : lines_of bytes ≡ (lines ++ r.taking.lines) ++ lines_of reader'.pending) (some : 0 < length batch.answers.items)
      (x : IsRefused frame result a.d k.next_epoch more_spare mid host) (seen_now : SeenNow frame) where
    abbrev manner : Manner
    manner = manner_of c.setting bounds

    abbrev opening : History
    opening = history_of c

    abbrev h : History
    h = history_of a.d

    abbrev total : ℕ
    total = spare + more_spare

    abbrev numbers : AddsWithin next x.number total opening h
    numbers = adds_more next k.next_epoch x.number spare more_spare opening h h a.numbers (adds_none k.next_epoch x.number more_spare h x.taken)

    abbrev Shows : Observation → Type 0
    Shows = IsServed c.setting bounds opening next total a.batches a.classes h (frame.said first)

    still_shows : (seen : Observation) → ShowsHistory a.d.setting h (x.number + 1) (frame.said mid) seen → Shows seen
    still_shows seen shows = all_served c.setting bounds opening next total a.batches a.classes h (frame.said first) a.grown x.number numbers seen
        (moved a.d.setting c.setting h (x.number + 1) (x.number + 1) seen.image a.setting (omega arith) shows.0) (length (answers_of h a.classes))
        (sym shows.1 ∙ a.says ∙ ap (append_known (frame.said first)) (sym (take-length (answers_of h a.classes))))

    moments : SeesOnly frame.moment frame.observed first host Shows
    moments = sees_then frame.moment frame.observed first mid host Shows (ShowsHistory a.d.setting h (x.number + 1) (frame.said mid))
        (sees_weaker frame.moment frame.observed first mid (IsServed c.setting bounds opening next spare a.batches a.classes h (frame.said first)) Shows
        (later_served c.setting bounds opening next spare a.batches a.classes h (frame.said first) total (omega arith)) a.moments) x.moments still_shows

    others : WritesLogs c.setting (frame.reads first) (frame.reads host) (frame.may_leave first) (frame.may_leave host)
    others = writes_then c.setting (frame.reads first) (frame.reads mid) (frame.reads host) (frame.may_leave first) (frame.may_leave mid) (frame.may_leave host) a.others
        (subst (λ s. WritesLogs s (frame.reads mid) (frame.reads host) (frame.may_leave mid) (frame.may_leave host)) a.setting x.others)

    abbrev progress : ServedSoFar manner opening next total bounds.size bytes
    progress = record {
      batches = a.batches;
      classes = a.classes;
      history = h;
      grown = a.grown;
      end = x.number;
      numbers = numbers;
      first = record {
        others = r.taking.lines ++ lines_of reader'.pending;
        lines = lines_are ∙ append_assoc lines r.taking.lines (lines_of reader'.pending) ∙ ap (λ ls. ls ++ (r.taking.lines ++ lines_of reader'.pending)) a.lines_are;
        cut = inl a.whole;
      };
    }

    ends_so : (e : Result (Unit {0}) Stop) → RunEnds c next total bounds bytes progress (frame.said first) (frame.said host) (frame.reads host) (frame.may_leave host) e → Serves frame c next total bounds bytes e first host
    ends_so e ends = record { progress = progress; moments = moments; left = left_by frame seen_now first host Shows moments; others = others; ends = ends }

    -- ---- what is said and left

    says : frame.said host ≡ append_known (frame.said first) (answers_of h a.classes)
    says = x.quiet ∙ a.says

    says_whole : SaysUpTo (frame.said first) (frame.said host) h a.classes
    says_whole =
        let whole = answers_of h a.classes in
        let front = answers_of h (take (length a.classes - 1) a.classes) in
        record {
          part = length whole + length front;
          says = says ∙ ap (append_known (frame.said first)) (sym (take_all (length whole + length front) whole (omega arith)));
          most = omega arith;
        }

    all_classes : take (length a.batches) a.classes ≡ a.classes
    all_classes = ap (λ i. take i a.classes) (sym (paired c.setting.tree opening a.batches a.classes h a.grown.grown)) ∙ take-length a.classes

    leaves : (Says : History → List (List Class) → Type 0) → Says h a.classes → LeavesLast c.setting bounds opening next total a.batches a.classes h Says (frame.said host) (frame.may_leave host)
    leaves Says is = record {
      count = length a.batches;
      last = inl refl;
      history = h;
      grown = subst (λ bs. IsGrown manner opening bs (take (length a.batches) a.classes) h) (sym (take-length a.batches)) (subst (λ cs. IsGrown manner opening a.batches cs h) (sym all_classes) a.grown);
      number = x.number;
      numbers = numbers;
      says = subst (Says h) (sym all_classes) is;
      left = λ bytes spoke image left. inl (moved a.d.setting c.setting h (x.number + 1) (x.number + 1) image a.setting (omega arith) (x.left bytes (sym x.quiet ∙ spoke) image left));
    }

    rests : RestsWithout a.d x.number (frame.reads host) (frame.may_leave host) → RestsAt c.setting h x.number (frame.reads host) (frame.may_leave host)
    rests w = (w.0, w.1.setting ∙ a.setting, same_history a.d w.0 w.1, w.2, w.3)

    has_next : 0 < length batch.fresh → HasNext manner opening next total bounds.size bytes progress
    has_next fresh =
        let same = ap (length {A = Request}) r.taking.fresh in
        record {
          batch = r.taking.lines;
          classes = r.taking.classes;
          first = read_next frame c next spare bounds lines k first mid reader reader' m n batch a r bytes lines_are some;
          are = classes_at c a.d k r.taking.lines r.taking.classes a.stands a.setting r.taking.are;
          some = omega (arith, same, fresh);
        }

    ends : (f : Stop) → HasReason k.next_epoch more_spare (length batch.fresh) f → RefusedEnds a.d x.number (frame.reads host) (frame.may_leave host) (Err f) → Serves frame c next total bounds bytes (Err f) first host
    ends stop.Read reason left = absurd left
    ends stop.Say reason left = absurd left
    ends stop.Disk reason left = ends_so (Err stop.Disk) (leaves (SaysAll (frame.said first) (frame.said host)) says)
    ends (stop.NotAStore file at) reason left = absurd left
    ends stop.Unreachable reason left = ends_so (Err stop.Unreachable) (rests left, says, has_next reason)
    ends stop.EpochsUsedUp reason left =
        let few = a.numbers.few in
        let end = reason.0 in
        let no_more = length-append a.numbers.added [] in
        ends_so (Err stop.EpochsUsedUp) (rests left, says, record { end = omega (arith, few, end, no_more); has_next = has_next reason.1 })
    ends stop.NoMemory reason left = ends_so (Err stop.NoMemory) (leaves (SaysUpTo (frame.said first) (frame.said host)) says_whole)

    pub refused_ends : (f : Stop) → result ≡ Err f → HasReason k.next_epoch more_spare (length batch.fresh) f → Serves frame c next total bounds bytes (Err f) first host
    refused_ends f is reason = ends f reason (subst (RefusedEnds a.d x.number (frame.reads host) (frame.may_leave host)) is x.ends)
