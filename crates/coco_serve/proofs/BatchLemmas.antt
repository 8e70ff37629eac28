-- One batch: what its turn and the saying of its answers make of the store.
use Rattle.std.proofs.Common.{◌≡◌, ◌≢◌, ℕ, ◌+◌, ◌≤◌, inl, inr, ◌⊎◌, ⊎_elim, List, [], ◌∷◌, ◌++◌, length, take, drop, Option, Some, None, Result, Ok, Err, refl, sym, ap, subst, ◌∙◌, arith, append_assoc, length-append, take-append-drop}
use Rattle.std.specs.Prelude.{OnOk, OnErr}
use Rattle.std.specs.Option.{option_map}
use Rattle.std.proofs.Math.Seq.{take-append_seam, take-length}
use Rattle.std.proofs.lemmas.List.{append_cancel_left}
use Rattle.std.specs.Io.KnownBytes.{append_known}
use Rattle.coco_types.specs.Limits.{most_kept}
use Rattle.coco_types.specs.declared.call.Done.{Done}
use Rattle.coco_types.specs.declared.call.Request.{Request}
use Rattle.coco_types.specs.declared.error.OutFault.{OutFault}
use Rattle.coco_types.specs.declared.error.OutFault.TheVariants as out
use Rattle.coco_append.specs.Gaining.{RestsOn}
use Rattle.coco_ast.specs.History.{Epoch, History, all_dones, kept}
use Rattle.coco_ast.proofs.KeptLemmas.{keeps_all}
use Rattle.coco_batches.specs.Answering.{held_texts}
use Rattle.coco_batches.specs.declared.answer.LineAnswer.{LineAnswer}
use Rattle.coco_batches.specs.declared.batch.Batch.{Batch}
use Rattle.coco_cluster.specs.Around.{IsTaken}
use Rattle.coco_cluster.specs.Standing.{AllStand, IsBehindAll, StandsAt}
use Rattle.coco_cluster.specs.declared.cluster.Cluster.{Cluster}
use Rattle.coco_cluster.proofs.SeeingLemmas.{keeps_same}
use Rattle.coco_cluster.proofs.TurnLemmas.{SameStore, same_stands}
use Rattle.coco_cluster.specs.Faults.{MayHaveCommitted}
use Rattle.coco_recover.proofs.Resting.{stands_still}
use Rattle.coco_parallel.specs.Traces.{IsTraceOf, Traced, execution_in, traced}
use Rattle.coco_cluster.specs.Turning.{EndsWithout, Grown, HasRoom, KeepsHistory, ShowsHistory, ShowsStore, Turns, IsUntraced, beginning_on, epochs_of}
use Rattle.coco_cluster.specs.Faults.{stop_of_saying}
use Rattle.coco_cluster.specs.declared.stop.Stop.{Stop}
use Rattle.coco_cluster.specs.declared.stop.Stop.TheVariants as stop
use Rattle.coco_cluster.specs.Writing.{WritesLogs}
use Rattle.coco_cluster.proofs.BehindLemmas.{behind_later}
use Rattle.coco_cluster.proofs.WriteLemmas.{writes_none, writes_then}
use Rattle.coco_log.proofs.OnlyRead.{sees_then, sees_weaker}
use Rattle.coco_append.specs.EpochEntries.{HasRoomFor}
use Rattle.coco_host.specs.Files.{Files, NoMore}
use Rattle.coco_host.specs.Moments.{IsNew, IsSaidBetween, Observation, SeesOnly}
use Rattle.coco_host.specs.Record.{known}
use Rattle.coco_host.specs.declared.host.Host.{Ghosts as HostGhosts}
use Rattle.coco_io.proofs.KnownLemmas.{append_known-nil}
use Rattle.coco_order.specs.Execution.{Beginning}
use Rattle.coco_order.specs.Outcome.{ComeOfExecution}
use Rattle.coco_store.specs.Contents.{Contents, history_of}
use Rattle.coco_store.specs.Rules.{Setting}
use Rattle.coco_serve.specs.Growth.{AddsWithin, GrowsByExecution, HasExecution, Manner, manner_of}
use Rattle.coco_serve.specs.OneBatch.{BatchEnds, IsRefused, RefusedEnds, SaysPart, WorksOffBatch, batch_texts}
use Rattle.coco_serve.specs.Seen.{ShowsBatch}
use Rattle.coco_serve.specs.declared.bounds.RunBounds.{RunBounds}
use Rattle.coco_serve.proofs.NumberLemmas.{added_by, adds_none}

-- ---- room

room_by : (keep : Option ℕ) (h : History) (ds : List Done) (n : ℕ) → h.keep ≡ keep → ds ≡ kept h → length ds + n ≤ most_kept → HasRoomFor keep (length (all_dones h) + n)
room_by None h ds n none is few = let same : length ds ≡ length (all_dones h) = ap (length {A = Done}) (is ∙ (keeps_all h none).held) in omega (arith, few, same)
room_by (Some k) h ds n some is few = tt

-- without a keep number all Dones are kept
pub has_room : (c : Contents) (k : Cluster) (requests : List Request) → StandsAt c k → length k.kept.dones + length requests ≤ most_kept → HasRoom c requests
has_room c k requests stands few = room_by c.setting.entry.keep (history_of c) k.kept.dones (length requests) refl stands.belongs.dones few

-- ---- what is said

-- bytes that lie between what was said before a front of a piece and behind it are a front of the piece
pub said_between : (before now : Option (List ℕ)) (piece said : List ℕ) (n : ℕ) → now ≡ append_known before (take n piece) → IsSaidBetween before now said
    → (k : ℕ) × (Some said ≡ append_known before (take k piece))
said_between before now piece said n grown b =
    let whole : b.to ≡ b.from ++ take n piece = ap (known []) (sym b.is ∙ grown ∙ ap (λ o. append_known o (take n piece)) b.was) in
    let rest : b.begun.0 ++ b.ended.0 ≡ take n piece =
    append_cancel_left b.from (b.begun.0 ++ b.ended.0) (take n piece) (sym (append_assoc b.from b.begun.0 b.ended.0) ∙ ap (λ l. l ++ b.ended.0) (sym b.begun.1) ∙ sym b.ended.1 ∙ whole) in
    let front : piece ≡ b.begun.0 ++ (b.ended.0 ++ drop n piece) =
    sym (take-append-drop n piece) ∙ ap (λ l. l ++ drop n piece) (sym rest) ∙ append_assoc b.begun.0 b.ended.0 (drop n piece) in
    let first : take (length b.begun.0) piece ≡ b.begun.0 = ap (take (length b.begun.0)) front ∙ take-append_seam b.begun.0 (b.ended.0 ++ drop n piece) in
    (length b.begun.0, ap Some (b.begun.1 ∙ ap (λ l. b.from ++ l) (sym first)) ∙ ap (λ o. append_known o (take (length b.begun.0) piece)) (sym b.was))

nothing_said : (before : Option (List ℕ)) (said : List ℕ) (piece : List ℕ) → before ≡ Some said → SaysPart piece before (Some said)
nothing_said before said piece is = (0, sym (append_known-nil before ∙ is))

-- a piece that was said, or the front of it
pub says_part : {E : Type 0} (r : Result (Unit {0}) E) (piece : List ℕ) (before now : Option (List ℕ)) → OnOk r (now ≡ append_known before piece)
    → OnErr r ((k : ℕ) × (k ≤ length piece) × (now ≡ append_known before (take k piece))) → SaysPart piece before now
says_part (Ok x) piece before now ok err = (length piece, ok ∙ ap (append_known before) (sym (take-length piece)))
says_part (Err e) piece before now ok err = (err.0, err.2)

-- ---- growth

comes_of : (b : Beginning) (epoch : ℕ) (dones : List Done) (trace : Traced) → IsTraceOf b epoch dones trace → ComeOfExecution b epoch dones
comes_of b epoch dones trace of = record { execution = execution_in trace; is = of.execution; outcome = of.outcome }

execution_of : (requests : List Request) (bounds : RunBounds) (epoch : ℕ) (trace : Traced) (c d : Contents) → Grown requests bounds.workers bounds.attempts epoch trace c d
    → HasExecution (manner_of c.setting bounds) (history_of c) requests (history_of d)
execution_of [] bounds epoch trace c d g = tt
execution_of (r ∷ rs) bounds epoch trace c d g =
    let b = beginning_on c (r ∷ rs) bounds.workers bounds.attempts in
    (g.e, subst (λ n. ComeOfExecution b n g.e.dones) (sym g.number) (comes_of b epoch g.e.dones trace g.traced), g.history)

pub grows_by_execution : (requests : List Request) (bounds : RunBounds) (epoch : ℕ) (trace : Traced) (c d : Contents) → Grown requests bounds.workers bounds.attempts epoch trace c d
    → GrowsByExecution (manner_of c.setting bounds) (history_of c) requests (history_of d)
grows_by_execution requests bounds epoch trace c d g = (g.grows, execution_of requests bounds epoch trace c d g)

-- they make one epoch
pub one_epoch : (requests : List Request) (workers attempts epoch : ℕ) (trace : Traced) (c d : Contents) → Grown requests workers attempts epoch trace c d → epochs_of requests ≡ 1
one_epoch requests workers attempts epoch trace c d g =
    let gained = added_by (history_of c) requests (history_of d) g.grows in
    let before = (history_of c).epochs in
    let by_count = ap (length {A = Epoch}) gained.1 in
    let by_one = ap (λ (h : History). length h.epochs) g.history in
    omega (arith, by_count, by_one, gained.2, length-append before gained.0, length-append before (g.e ∷ []))

abbrev pub adds_one : (requests : List Request) (workers attempts next epoch spare : ℕ) (trace : Traced) (c d : Contents) → Grown requests workers attempts epoch trace c d → IsTaken next epoch spare
    → AddsWithin next (epoch + epochs_of requests) spare (history_of c) (history_of d)
adds_one requests workers attempts next epoch spare trace c d g taken =
    let one = one_epoch requests workers attempts epoch trace c d g in
    let number = g.number in
    let low = taken.low in
    let few = taken.few in
    record { added = g.e ∷ []; epochs = ap (λ (h : History). h.epochs) g.history; numbered = (omega (arith, low, number), omega (arith, one, number)); few = omega (arith, one, few) }

-- so behind it no entry is of a later one
pub below_one : (requests : List Request) (workers attempts epoch : ℕ) (trace : Traced) (c d : Contents) → Grown requests workers attempts epoch trace c d → IsBehindAll d (epoch + epochs_of requests)
below_one requests workers attempts epoch trace c d g =
    let one = one_epoch requests workers attempts epoch trace c d g in behind_later d (epoch + 1) (epoch + epochs_of requests) (omega (arith, one)) g.below

no_growth : (requests : List Request) (m : Manner) (h : History) → requests ≡ [] → GrowsByExecution m h requests h
no_growth requests m h none = subst (λ rs. GrowsByExecution m h rs h) (sym none) (refl, tt)

-- ---- between two turns

-- a turn without requests leaves what belongs to the store
same_store : (before after : Cluster) → IsUntraced before after → SameStore before after
same_store before after same = record { procs = same.procs; kept = same.kept; members = same.members; base = same.base; next = same.next }

-- the logs stand where no file has changed
pub all_stand_still : (k : Cluster) (was now : Option Files) (might may : Files → Type 0) → now ≡ was → NoMore might may → AllStand k was might → AllStand k now may
all_stand_still k was now might may same fewer stand = record {
  chief = stands_still k.members.log was now might may same fewer stand.chief;
  nodes = λ n voter there. let ready = stand.nodes n voter there in (ready.0, stands_still voter.log was now might may same fewer ready.1);
}

-- a fault that refuses no file
abbrev pub RefusesNone : Stop → Type 0
RefusesNone f = (file at : ℕ) → f ≢ stop.NotAStore file at

-- ---- moments

module _ {H : Type 0} (frame : HostGhosts H) where
  -- what a turn made of the store, where it succeeded
  pub record Committed (c : Contents) (requests : List Request) (bounds : RunBounds) (next spare : ℕ) (after : Cluster) (old mid : H) : Type 0 where
    pub d : Contents
    pub setting : d.setting ≡ c.setting
    pub grows : GrowsByExecution (manner_of c.setting bounds) (history_of c) requests (history_of d)
    pub number : ℕ
    pub taken : IsTaken next number spare
    pub numbers : AddsWithin next (number + epochs_of requests) spare (history_of c) (history_of d)
    pub below : IsBehindAll d (number + epochs_of requests)
    pub last : IsBehindAll d (number + 1)
    pub next_is : after.next_epoch ≡ number + epochs_of requests
    pub rests : RestsOn d (frame.reads mid) (frame.may_leave mid)
    pub stands : StandsAt d after
    pub moments : SeesOnly frame.moment frame.observed old mid (ShowsStore c.setting (history_of c) (history_of d) (number + 1) (frame.said old))
    pub others : WritesLogs c.setting (frame.reads old) (frame.reads mid) (frame.may_leave old) (frame.may_leave mid)

  abbrev pub OnlyNow : Type 0
  OnlyNow = (host : H) (seen : Observation) → frame.observed host (frame.moment host) seen → frame.may_leave host seen.image × (frame.said host ≡ Some seen.said)

  unmoved : OnlyNow → (c : Contents) (end : ℕ) (host : H) → RestsOn c (frame.reads host) (frame.may_leave host) → IsBehindAll c end → SeesOnly frame.moment frame.observed host host (ShowsHistory c.setting (history_of c) end (frame.said host))
  unmoved only_now c end host rests below = (keeps_same frame only_now c end host rests below).moments

  unmoved_so : OnlyNow → (c : Contents) (end : ℕ) (host : H) → RestsOn c (frame.reads host) (frame.may_leave host) → IsBehindAll c end → SeesOnly frame.moment frame.observed host host (ShowsStore c.setting (history_of c) (history_of c) end (frame.said host))
  unmoved_so only_now c end host rests below = sees_weaker frame.moment frame.observed host host (ShowsHistory c.setting (history_of c) end (frame.said host)) (ShowsStore c.setting (history_of c) (history_of c) end (frame.said host))
      (λ seen shows. record { store = inl shows.0; said = shows.1 }) (unmoved only_now c end host rests below)

  pub committed : OnlyNow → (result : Result (Unit {0}) Stop) (x : Unit {0}) (requests : List Request) (bounds : RunBounds) (spare : ℕ) (c : Contents) (before after : Cluster) (old mid : H) → result ≡ Ok x
      → (requests ≡ [] → (mid ≡ old) × IsUntraced before after) → RestsOn c (frame.reads old) (frame.may_leave old) → StandsAt c before
      → KeepsHistory frame result requests before.next_epoch spare c old mid ⊎ Turns frame result requests bounds.workers bounds.attempts spare c before after old mid
      → Committed c requests bounds before.next_epoch spare after old mid
  committed only_now result x requests bounds spare c before after old mid ok still rests stands (inl none) =
      let empty : requests ≡ [] = subst (λ (r : Result _ _). OnOk r (requests ≡ [])) ok none.ok in
      let nothing = still empty in
      let no_epoch : epochs_of requests ≡ 0 = ap epochs_of empty in
      let same_next = nothing.1.next in
      record {
        d = c;
        setting = refl;
        grows = no_growth requests (manner_of c.setting bounds) (history_of c) empty;
        number = before.next_epoch;
        taken = record { low = omega arith; few = omega arith };
        numbers = adds_none before.next_epoch (before.next_epoch + epochs_of requests) spare (history_of c) (record { low = omega arith; few = omega (arith, no_epoch) });
        below = behind_later c before.next_epoch (before.next_epoch + epochs_of requests) (omega arith) stands.next;
        next_is = omega (arith, no_epoch, same_next);
        last = behind_later c before.next_epoch (before.next_epoch + 1) (omega arith) stands.next;
        rests = subst (λ h. RestsOn c (frame.reads h) (frame.may_leave h)) (sym nothing.0) rests;
        stands = same_stands c before after (same_store before after nothing.1) stands;
        moments = subst (λ h. SeesOnly frame.moment frame.observed old h (ShowsStore c.setting (history_of c) (history_of c) (before.next_epoch + 1) (frame.said old))) (sym nothing.0)
            (unmoved_so only_now c (before.next_epoch + 1) old rests (behind_later c before.next_epoch (before.next_epoch + 1) (omega arith) stands.next));
        others = writes_none c.setting (frame.reads old) (frame.reads mid) (frame.may_leave old) (frame.may_leave mid) (ap frame.reads nothing.0) (λ image left. subst (λ h. frame.may_leave h image) nothing.0 left);
      }
  committed only_now result x requests bounds spare c before after old mid ok still rests stands (inr t) =
      let done : RestsOn t.d (frame.reads mid) (frame.may_leave mid) × StandsAt t.d after × (option_map traced after.trace ≡ Some t.trace) × (after.next_epoch ≡ t.number + 1) =
      subst (λ (r : Result _ _). OnOk r (RestsOn t.d (frame.reads mid) (frame.may_leave mid) × StandsAt t.d after × (option_map traced after.trace ≡ Some t.trace) × (after.next_epoch ≡ t.number + 1))) ok t.ok in
      let one = one_epoch requests bounds.workers bounds.attempts t.number t.trace c t.d t.grown in
      let next_then = done.3 in
      record {
        d = t.d;
        setting = t.grown.setting;
        grows = grows_by_execution requests bounds t.number t.trace c t.d t.grown;
        number = t.number;
        taken = t.taken;
        numbers = adds_one requests bounds.workers bounds.attempts before.next_epoch t.number spare t.trace c t.d t.grown t.taken;
        below = below_one requests bounds.workers bounds.attempts t.number t.trace c t.d t.grown;
        last = t.grown.below;
        next_is = omega (arith, one, next_then);
        rests = done.0;
        stands = done.1;
        moments = t.moments;
        others = t.others;
      }

  -- ---- a turn that failed

  refused_so : (f : Stop) (c : Contents) (end : ℕ) (host : H) → RefusesNone f → EndsWithout c end (frame.reads host) (frame.may_leave host) (Err f) → RefusedEnds c end (frame.reads host) (frame.may_leave host) (Err f)
  refused_so stop.Read c end host none ends = absurd ends
  refused_so stop.Say c end host none ends = absurd ends
  refused_so stop.Disk c end host none ends = tt
  refused_so (stop.NotAStore file at) c end host none ends = absurd (none file at refl)
  refused_so stop.Unreachable c end host none ends = ends
  refused_so stop.EpochsUsedUp c end host none ends = ends
  refused_so stop.NoMemory c end host none ends = tt

  pub refused : (f : Stop) (turned : Result (Unit {0}) Stop) (requests : List Request) (spare : ℕ) (c : Contents) (before : Cluster) (old new : H) → turned ≡ Err f → RefusesNone f → frame.said new ≡ frame.said old
      → KeepsHistory frame turned requests before.next_epoch spare c old new → IsRefused frame (Err f) c before.next_epoch spare old new
  refused f turned requests spare c before old new was none quiet k = record {
    number = k.number;
    taken = k.taken;
    moments = k.moments;
    left = k.left;
    others = k.others;
    quiet = quiet;
    ends = refused_so f c k.number new none (subst (EndsWithout c k.number (frame.reads new) (frame.may_leave new)) was k.ends);
  }

  -- out of memory before the turn
  pub refused_early : OnlyNow → (result : Result (Unit {0}) Stop) (c : Contents) (k : Cluster) (spare : ℕ) (host : H) → result ≡ Err stop.NoMemory → RestsOn c (frame.reads host) (frame.may_leave host) → StandsAt c k
      → IsRefused frame result c k.next_epoch spare host host
  refused_early only_now result c k spare host is rests stands =
      let later = behind_later c k.next_epoch (k.next_epoch + 1) (omega arith) stands.next in
      subst (λ r. IsRefused frame r c k.next_epoch spare host host) (sym is) (record {
        number = k.next_epoch;
        taken = record { low = omega arith; few = omega arith };
        moments = unmoved only_now c (k.next_epoch + 1) host rests later;
        left = λ bytes spoke image leaves. record { contents = c; setting = refl; good = rests.left image leaves; history = refl; below = later };
        others = writes_none c.setting (frame.reads host) (frame.reads host) (frame.may_leave host) (frame.may_leave host) refl (λ image leaves. leaves);
        quiet = refl;
        ends = tt;
      })

  turn_shows : (s : Setting) (before after : History) (end : ℕ) (bytes : Option (List ℕ)) (texts : List ℕ) (seen : Observation) → ShowsStore s before after end bytes seen → ShowsBatch s before after end bytes texts seen
  turn_shows s before after end bytes texts seen shows =
      ⊎_elim (λ was. inl (was, shows.said)) (λ grown. inr (grown, nothing_said bytes seen.said texts shows.said)) shows.store

  turn_ends : (f : Stop) (result : Result (Unit {0}) Stop) (batch : Batch) (requests : List Request) (bounds : RunBounds) (spare : ℕ) (c : Contents) (before after : Cluster) (old new : H) → result ≡ Err f → RefusesNone f → requests ≡ batch.fresh → frame.said new ≡ frame.said old
      → Turns frame result requests bounds.workers bounds.attempts spare c before after old new
      → WorksOffBatch frame (Err f) batch bounds c before.next_epoch spare after old new
  turn_ends f result batch requests bounds spare c before after old new was none same quiet t = by f none (subst MayHaveCommitted was t.may)
    where
      numbers : AddsWithin before.next_epoch (t.number + epochs_of batch.fresh) spare (history_of c) (history_of t.d)
      numbers = subst (λ rs. AddsWithin before.next_epoch (t.number + epochs_of rs) spare (history_of c) (history_of t.d)) same
          (adds_one requests bounds.workers bounds.attempts before.next_epoch t.number spare t.trace c t.d t.grown t.taken)

      below : IsBehindAll t.d (t.number + epochs_of batch.fresh)
      below = subst (λ rs. IsBehindAll t.d (t.number + epochs_of rs)) same (below_one requests bounds.workers bounds.attempts t.number t.trace c t.d t.grown)

      grows : GrowsByExecution (manner_of c.setting bounds) (history_of c) batch.fresh (history_of t.d)
      grows = subst (λ rs. GrowsByExecution (manner_of c.setting bounds) (history_of c) rs (history_of t.d)) same (grows_by_execution requests bounds t.number t.trace c t.d t.grown)

      moments : SeesOnly frame.moment frame.observed old new (ShowsBatch c.setting (history_of c) (history_of t.d) (t.number + 1) (frame.said old) (batch_texts t.d batch))
      moments = sees_weaker frame.moment frame.observed old new (ShowsStore c.setting (history_of c) (history_of t.d) (t.number + 1) (frame.said old))
          (ShowsBatch c.setting (history_of c) (history_of t.d) (t.number + 1) (frame.said old) (batch_texts t.d batch))
          (turn_shows c.setting (history_of c) (history_of t.d) (t.number + 1) (frame.said old) (batch_texts t.d batch)) t.moments

      by : (f : Stop) → RefusesNone f → MayHaveCommitted {T = Unit {0}} (Err f) → WorksOffBatch frame (Err f) batch bounds c before.next_epoch spare after old new
      by stop.Read none may = absurd may
      by stop.Say none may = absurd may
      by stop.Disk none may = record { d = t.d; setting = t.grown.setting; grows = grows; number = t.number; taken = t.taken; numbers = numbers; below = below; next_is = tt; moments = moments; others = t.others; ends = (t.left, quiet) }
      by (stop.NotAStore file at) none may = absurd (none file at refl)
      by stop.Unreachable none may = absurd may
      by stop.EpochsUsedUp none may = absurd may
      by stop.NoMemory none may = record { d = t.d; setting = t.grown.setting; grows = grows; number = t.number; taken = t.taken; numbers = numbers; below = below; next_is = tt; moments = moments; others = t.others; ends = inl (t.left, quiet) }

  pub turn_failed : (f : Stop) (turned : Result (Unit {0}) Stop) (result : Result (Unit {0}) Stop) (batch : Batch) (requests : List Request) (bounds : RunBounds) (spare : ℕ) (c : Contents) (before after : Cluster) (old new : H)
      → turned ≡ Err f → ((file at : ℕ) → turned ≢ Err (stop.NotAStore file at)) → result ≡ Err f → requests ≡ batch.fresh → frame.said new ≡ frame.said old
      → KeepsHistory frame turned requests before.next_epoch spare c old new ⊎ Turns frame turned requests bounds.workers bounds.attempts spare c before after old new
      → IsRefused frame result c before.next_epoch spare old new ⊎ WorksOffBatch frame result batch bounds c before.next_epoch spare after old new
  turn_failed f turned result batch requests bounds spare c before after old new was never is same quiet turns =
      let none : RefusesNone f = λ file at same. never file at (was ∙ ap Err same) in
      subst (λ r. IsRefused frame r c before.next_epoch spare old new ⊎ WorksOffBatch frame r batch bounds c before.next_epoch spare after old new) (sym is)
      (⊎_elim (λ keeps. inl (refused f turned requests spare c before old new was none quiet keeps)) (λ t. inr (turn_ends f turned batch requests bounds spare c before after old new was none same quiet t)) turns)

  -- ---- a turn that committed, and what is said behind it

  module _ (batch : Batch) (requests : List Request) (bounds : RunBounds) (c : Contents) (next spare : ℕ) (after : Cluster) (old mid : H) (same : requests ≡ batch.fresh) (quiet : frame.said mid ≡ frame.said old)
      (done : Committed c requests bounds next spare after old mid) where
    abbrev texts : List ℕ
    texts = batch_texts done.d batch

    abbrev Shows : Observation → Type 0
    Shows = ShowsBatch c.setting (history_of c) (history_of done.d) (done.number + 1) (frame.said old) texts

    numbers_so : AddsWithin next (done.number + epochs_of batch.fresh) spare (history_of c) (history_of done.d)
    numbers_so = subst (λ rs. AddsWithin next (done.number + epochs_of rs) spare (history_of c) (history_of done.d)) same done.numbers

    below_so : IsBehindAll done.d (done.number + epochs_of batch.fresh)
    below_so = subst (λ rs. IsBehindAll done.d (done.number + epochs_of rs)) same done.below

    next_so : after.next_epoch ≡ done.number + epochs_of batch.fresh
    next_so = subst (λ rs. after.next_epoch ≡ done.number + epochs_of rs) same done.next_is

    grows_so : GrowsByExecution (manner_of c.setting bounds) (history_of c) batch.fresh (history_of done.d)
    grows_so = subst (λ rs. GrowsByExecution (manner_of c.setting bounds) (history_of c) rs (history_of done.d)) same done.grows

    shown : SeesOnly frame.moment frame.observed old mid Shows
    shown = sees_weaker frame.moment frame.observed old mid (ShowsStore c.setting (history_of c) (history_of done.d) (done.number + 1) (frame.said old)) Shows (turn_shows c.setting (history_of c) (history_of done.d) (done.number + 1) (frame.said old) texts) done.moments

    -- out of memory before anything is said
    pub unsaid : (result : Result (Unit {0}) Stop) → result ≡ Err stop.NoMemory → WorksOffBatch frame result batch bounds c next spare after old mid
    unsaid result is = subst (λ r. WorksOffBatch frame r batch bounds c next spare after old mid) (sym is) (record {
      d = done.d;
      setting = done.setting;
      grows = grows_so;
      number = done.number;
      taken = done.taken;
      numbers = numbers_so;
      below = below_so;
      next_is = tt;
      moments = shown;
      others = done.others;
      ends = inr (done.rests, (0, quiet ∙ sym (append_known-nil (frame.said old))));
    })

    module _ (new : H) (piece : List ℕ) (are : piece ≡ texts) (unread : frame.reads new ≡ frame.reads mid) (crash : NoMore (frame.may_leave mid) (frame.may_leave new))
        (sees : SeesOnly frame.moment frame.observed mid new (IsNew (frame.may_leave mid) (frame.said mid) (frame.said new))) (part : SaysPart piece (frame.said mid) (frame.said new)) where
      said_part : SaysPart texts (frame.said old) (frame.said new)
      said_part = (part.0, part.1 ∙ ap (λ o. append_known o (take part.0 piece)) quiet ∙ ap (λ l. append_known (frame.said old) (take part.0 l)) are)

      saying_shows : (seen : Observation) → IsNew (frame.may_leave mid) (frame.said mid) (frame.said new) seen → Shows seen
      saying_shows seen is_new =
          let between : IsSaidBetween (frame.said old) (frame.said new) seen.said = subst (λ o. IsSaidBetween o (frame.said new) seen.said) quiet is_new.said in
          inr (
            record { contents = done.d; setting = done.setting; good = done.rests.left seen.image is_new.image; history = refl; below = done.last },
            said_between (frame.said old) (frame.said new) texts seen.said said_part.0 said_part.1 between,
          )

      pub rests_still : RestsOn done.d (frame.reads new) (frame.may_leave new)
      rests_still = record {
        files = done.rests.files;
        are = unread ∙ done.rests.are;
        good = done.rests.good;
        left = λ image leaves. done.rests.left image (crash image leaves);
      }

      answered : (result : Result (Unit {0}) Stop) → OnOk result (after.next_epoch ≡ done.number + epochs_of batch.fresh)
          → BatchEnds c done.d (done.number + 1) after texts (frame.said old) (frame.said new) (frame.reads new) (frame.may_leave new) result → WorksOffBatch frame result batch bounds c next spare after old new
      answered result next_is ends = record {
        d = done.d;
        setting = done.setting;
        grows = grows_so;
        number = done.number;
        taken = done.taken;
        numbers = numbers_so;
        below = below_so;
        next_is = next_is;
        moments = sees_then frame.moment frame.observed old mid new Shows (IsNew (frame.may_leave mid) (frame.said mid) (frame.said new)) shown sees saying_shows;
        others = writes_then c.setting (frame.reads old) (frame.reads mid) (frame.reads new) (frame.may_leave old) (frame.may_leave mid) (frame.may_leave new) done.others
            (writes_none c.setting (frame.reads mid) (frame.reads new) (frame.may_leave mid) (frame.may_leave new) unread crash);
        ends = ends;
      }

      -- the piece is said whole
      pub all_said : frame.said new ≡ append_known (frame.said mid) piece → WorksOffBatch frame (Ok tt) batch bounds c next spare after old new
      all_said whole = answered (Ok tt) next_so (rests_still, done.stands, whole ∙ ap (λ o. append_known o piece) quiet ∙ ap (append_known (frame.said old)) are)

      by_fault : (f : OutFault) → WorksOffBatch frame (Err (stop_of_saying f)) batch bounds c next spare after old new
      by_fault out.Failed = answered (Err stop.Say) tt (rests_still, said_part)
      by_fault out.NoMemory = answered (Err stop.NoMemory) tt (inr (rests_still, said_part))

      -- the saying broke off
      pub partly_said : (f : OutFault) (result : Result (Unit {0}) Stop) → result ≡ Err (stop_of_saying f) → WorksOffBatch frame result batch bounds c next spare after old new
      partly_said f result is = subst (λ r. WorksOffBatch frame r batch bounds c next spare after old new) (sym is) (by_fault f)

-- ---- texts

-- the texts by what is kept after the batch are those of its answers in the store
pub texts_are : (d : Contents) (after : Cluster) (batch : Batch) (answers : List LineAnswer) (piece : List ℕ) → StandsAt d after → answers ≡ batch.answers.items → piece ≡ held_texts after.kept.dones answers → piece ≡ batch_texts d batch
texts_are d after batch answers piece stands same is = is ∙ ap (λ ds. held_texts ds answers) stands.belongs.dones ∙ ap (held_texts (kept (history_of d))) same
