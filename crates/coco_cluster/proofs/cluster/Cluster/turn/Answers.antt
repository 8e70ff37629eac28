use Rattle.std.proofs.Common.{◌≡◌, ◌<◌, ◌≤◌, ℕ, List, [], Option, Some, None, Result, Ok, Err, length, inl, refl, sym, ap, ◌∙◌, subst, arith}
use Rattle.std.proofs.lemmas.Result.{err_from_is_err_and}
use Rattle.std.specs.Global.{Vec}
use Rattle.std.specs.Prelude.{OnErr}
use Rattle.coco_entry.specs.declared.layout.Layout.{Layout}
use Rattle.coco_kept.specs.Keeping.{Keeping}
use Rattle.coco_letters.specs.Around.{around}
use Rattle.coco_letters.specs.GivingUp.{AreGivenUp}
use Rattle.coco_members.specs.AtRest.{scene_of}
use Rattle.coco_types.specs.Limits.{epochs_end}
use Rattle.coco_types.specs.declared.call.Request.{Request}
use Rattle.coco_cluster.specs.Attempts.{Attempts, AttemptsOn, HasCause, HasCommittedOne, IsGivenBack, KeepsMap}
use Rattle.coco_cluster.specs.Entries.{StepsOn}
use Rattle.coco_cluster.specs.Faults.{CountsAttempt}
use Rattle.coco_cluster.specs.Stepping.{AsksBy, AsksForAll, HasCommittedBy}
use Rattle.coco_cluster.specs.Trying.{GivesUp}
use Rattle.coco_cluster.specs.Turning.{HasRoom}
use Rattle.coco_cluster.specs.declared.cluster.Cluster.{Cluster}
use Rattle.coco_cluster.specs.declared.stop.Stop.{Stop}
use Rattle.coco_cluster.specs.declared.stop.Stop.TheVariants.{EpochsUsedUp, NotAStore, Unreachable}
use Rattle.coco_cluster.proofs.AskLemmas.{asks_all, begins_same, begins_then}
use Rattle.coco_cluster.proofs.AroundLemmas.{all_later, all_until, later_same, later_then}
use Rattle.coco_cluster.proofs.EntryLemmas.{none_committed_on, on_after, on_none, on_rests, turn_committed_on, unrefused}
use Rattle.coco_cluster.proofs.StepLemmas.{attempt_failed, none_committed, steps_after, steps_none, turn_committed}
use Rattle.coco_cluster.proofs.TurnLemmas.{counts_failed, ends_committed, ends_failed, ends_without, few_more, few_until, goes_first, goes_more, may_still, more_given, none_left, none_of, room_as, same_sound, skips_few, some_left, turned_first}
use Rattle.coco_cluster.proofs.cluster.Cluster.turn.Goals as goal

pub loop-attempt-init : goal.loop-attempt-init
loop-attempt-init g c =
    let k : Cluster = c.args.self.now in
    let now : Cluster = record k { trace = c.keep.new.trace; room = c.keep.new.self } in
    record {
      sound = same_sound (g.N.Net.sent c.args.net.now) k now (record { procs = refl; kept = refl; members = refl; base = refl; next = refl }) c.requires.sound;
      stand = record { chief = c.requires.stand.chief; nodes = c.requires.stand.nodes };
      same = refl;
      given = later_same (around g.N.Net g.P.Power c.args.net.now c.args.power.now);
      begun = λ some. absurd (omega (arith, some));
      low = omega arith;
      high = omega arith;
      few = omega arith;
      kept = refl;
      procs = refl;
      layout = refl;
      seen = omega arith;
      map = λ is m had. had;
      steps = steps_none (g.P.Power.stopped c.args.power.now) k.next_epoch (scene_of k.members (g.N.Net.sent c.args.net.now));
      asks = begins_same k.next_epoch (around g.N.Net g.P.Power c.args.net.now c.args.power.now) (around g.N.Net g.P.Power c.args.net.now c.args.power.now) refl refl;
      begins = omega arith;
      untraced = c.keep.ensures;
      unused = λ used. refl;
      told = λ d on stands room. goes_first g.H.Host g.met.H.Host.only_now d k now c.args.host.now (record { procs = refl; kept = refl; members = refl; base = refl; next = refl }) on stands;
      entries = λ d e on stands room behind.
          let i = g.P.Power.stopped c.args.power.now in
          let a = scene_of k.members (g.N.Net.sent c.args.net.now) in
          on_rests d d e i i k.next_epoch k.next_epoch [] a a (g.H.Host.reads c.args.host.now) (g.H.Host.may_leave c.args.host.now) on behind (on_none d i k.next_epoch a);
      said = refl;
      disk = refl;
      stream = refl;
    }

pub attempt-requires-clause-may : goal.attempt-requires-clause-may
attempt-requires-clause-may g c _ _ =
    let before = c.loop-attempt.invariant in
    may_still c.args.self.now c.loop-attempt.self c.args.requests.items c.loop-attempt.requests.items before.same before.procs before.kept c.requires.may

pub attempt-requires-clause-some : goal.attempt-requires-clause-some
attempt-requires-clause-some g c _ _ =
    let before = c.loop-attempt.invariant in
    let some : 0 < length c.args.requests.items = some_left c.args.requests.items c.args.requests.len (sym c.is_empty.ensures ∙ c.if-is_empty.false) c.args.requests.ok.0 in
    subst (λ rs. 0 < length rs) (sym before.same) some

pub loop-attempt-preserved : goal.loop-attempt-preserved
loop-attempt-preserved g c =
    let before = c.loop-attempt.invariant in
    let did = c.attempt.ensures in
    let ok = c.in_ok-attempt.ensures in
    let back : IsGivenBack c.loop-attempt.requests.items c.in-Some.again.items c.loop-attempt.self c.attempt.new.self = subst (λ (x : Option (Vec Request)). Attempts x c.loop-attempt.requests.items c.args.workers c.args.attempts c.loop-attempt.self c.attempt.new.self) c.in-Some.is ok.attempts in
    let cause : GivesUp (around g.N.Net g.P.Power c.loop-attempt.net c.loop-attempt.power) (around g.N.Net g.P.Power c.attempt.new.net c.attempt.new.power) = subst (λ (x : Option (Vec Request)). HasCause x (around g.N.Net g.P.Power c.loop-attempt.net c.loop-attempt.power) (around g.N.Net g.P.Power c.attempt.new.net c.attempt.new.power)) c.in-Some.is ok.cause in
    let low = before.low in let below : c.loop-attempt.self.next_epoch < epochs_end = c.if-self-ge-EPOCHS_END.false in
    record {
      sound = ok.sound;
      stand = ok.stand;
      same = back.same ∙ before.same;
      given = more_given c.loop-attempt._attempt (around g.N.Net g.P.Power c.args.net.now c.args.power.now) (around g.N.Net g.P.Power c.loop-attempt.net c.loop-attempt.power) (around g.N.Net g.P.Power c.attempt.new.net c.attempt.new.power) before.given cause;
      begun = λ some. omega (arith, low, below);
      low = (let up = back.low in omega (arith, low, up));
      high = (let first = before.high in let up = back.high in omega (arith, first, up));
      few = few_more c.loop-attempt.self.next_epoch c.attempt.new.self.next_epoch c.args.self.now.next_epoch (around g.N.Net g.P.Power c.args.net.now c.args.power.now) (around g.N.Net g.P.Power c.loop-attempt.net c.loop-attempt.power) (around g.N.Net g.P.Power c.attempt.new.net c.attempt.new.power) before.few (all_later c.loop-attempt._attempt (around g.N.Net g.P.Power c.args.net.now c.args.power.now) (around g.N.Net g.P.Power c.loop-attempt.net c.loop-attempt.power) before.given) cause back.high;
      kept = back.kept ∙ ap (λ (n : Keeping). record n { room = c.attempt.new.self.kept.room }) before.kept;
      procs = back.procs ∙ before.procs;
      layout = back.layout ∙ before.layout;
      seen = (let first = before.seen in let more = ok.seen in omega (arith, first, more));
      map = λ is m had.
          let first = before.seen in
          let more = ok.seen in
          let keeps : KeepsMap (Some c.in-Some.again) c.loop-attempt.self c.attempt.new.self = subst (λ (x : Option (Vec Request)). KeepsMap x c.loop-attempt.self c.attempt.new.self) c.in-Some.is (ok.map (omega (arith, first, more, is))) in
          keeps m (before.map (omega (arith, first, more, is)) m had);
      steps = (steps_after (g.P.Power.stopped c.args.power.now) (g.P.Power.stopped c.loop-attempt.power) (g.P.Power.stopped c.attempt.new.power) c.args.self.now.next_epoch c.loop-attempt.self.next_epoch c.attempt.new.self.next_epoch [] (scene_of c.args.self.now.members (g.N.Net.sent c.args.net.now)) (scene_of c.loop-attempt.self.members (g.N.Net.sent c.loop-attempt.net)) (scene_of c.attempt.new.self.members (g.N.Net.sent c.attempt.new.net)) before.steps
          (none_committed c.in_ok-attempt.field-0 c.in-Some.again c.attempt.new.self.next_epoch (scene_of c.loop-attempt.self.members (g.N.Net.sent c.loop-attempt.net)) (scene_of c.attempt.new.self.members (g.N.Net.sent c.attempt.new.net)) c.in-Some.is ok.world));
      asks = begins_then c.args.self.now.next_epoch c.loop-attempt.self.next_epoch c.attempt.new.self.next_epoch (around g.N.Net g.P.Power c.args.net.now c.args.power.now) (around g.N.Net g.P.Power c.loop-attempt.net c.loop-attempt.power) (around g.N.Net g.P.Power c.attempt.new.net c.attempt.new.power) before.low back.low before.asks
          (subst (λ (x : Option (Vec Request)). AsksBy x c.loop-attempt.self.members.tables.layout c.loop-attempt.self.next_epoch c.attempt.new.self.next_epoch (around g.N.Net g.P.Power c.loop-attempt.net c.loop-attempt.power) (around g.N.Net g.P.Power c.attempt.new.net c.attempt.new.power)) c.in-Some.is ok.asks);
      begins = (let first = before.begins in let more = did.begins in omega (arith, first, more));
      untraced = back.trace ∙ before.untraced;
      unused = λ used. absurd (omega (arith, used, low, below));
      told = λ d on stands room.
          let goes = before.told d on stands room in
          goes_more g.H.Host d c.loop-attempt.self c.attempt.new.self c.args.host.now c.loop-attempt.host c.attempt.new.host goes c.loop-attempt.requests.items c.args.workers c.args.attempts (Ok c.in_ok-attempt.field-0) c.in-Some.again (ap Ok c.in-Some.is) back.low
          (ok.files goes.on.d goes.on.rests goes.on.stands (room_as d goes.on.d c.args.requests.items c.loop-attempt.requests.items goes.on.only before.same room));
      entries = λ d e on stands room behind.
          let goes = before.told d on stands room in
          let first : HasRoom goes.on.d c.loop-attempt.requests.items = room_as d goes.on.d c.args.requests.items c.loop-attempt.requests.items goes.on.only before.same room in
          let j = g.P.Power.stopped c.loop-attempt.power in
          let l = g.P.Power.stopped c.attempt.new.power in
          let m = c.loop-attempt.self.next_epoch in
          let o = c.attempt.new.self.next_epoch in
          let y = scene_of c.loop-attempt.self.members (g.N.Net.sent c.loop-attempt.net) in
          let z = scene_of c.attempt.new.self.members (g.N.Net.sent c.attempt.new.net) in
          on_after d goes.on.d e (g.P.Power.stopped c.args.power.now) j l c.args.self.now.next_epoch m o [] (scene_of c.args.self.now.members (g.N.Net.sent c.args.net.now)) y z (before.entries d goes.on.d on stands room goes.on.rests)
          (none_committed_on goes.on.d e c.in_ok-attempt.field-0 c.in-Some.again j l m o y z c.in-Some.is (ok.entries goes.on.d e goes.on.rests goes.on.stands first behind));
      said = did.said ∙ before.said;
      disk = ok.disk ∙ before.disk;
      stream = did.stream ∙ before.stream;
    }

-- ---- there is nothing to do

pub returns-then-is_empty-clause-turns : goal.returns-then-is_empty-clause-turns
returns-then-is_empty-clause-turns g c d on stands room =
    let k : Cluster = c.args.self.now in
    let now : Cluster = record k { trace = c.keep.new.trace; room = c.keep.new.self } in
    let none : c.args.requests.items ≡ [] = none_of c.args.requests.items c.args.requests.len (sym c.is_empty.ensures ∙ c.if-is_empty.true) c.args.requests.ok.0 in
    inl (ends_without g.H.Host d now k c.args.host.now c.args.host.now _ c.args.requests.items (goes_first g.H.Host g.met.H.Host.only_now d k now c.args.host.now (record { procs = refl; kept = refl; members = refl; base = refl; next = refl }) on stands) (omega arith) (omega arith) (Ok tt) none (λ rests. tt))

pub returns-then-is_empty-clause-nothing : goal.returns-then-is_empty-clause-nothing
returns-then-is_empty-clause-nothing g c empty =
    (refl, refl, refl, record { procs = refl; kept = refl; members = refl; base = refl; next = refl; trace = c.keep.ensures }, refl)

pub returns-then-is_empty-clause-sound : goal.returns-then-is_empty-clause-sound
returns-then-is_empty-clause-sound g c =
    let k : Cluster = c.args.self.now in
    let now : Cluster = record k { trace = c.keep.new.trace; room = c.keep.new.self } in
    same_sound (g.N.Net.sent c.args.net.now) k now (record { procs = refl; kept = refl; members = refl; base = refl; next = refl }) c.requires.sound

pub returns-then-is_empty-clause-next : goal.returns-then-is_empty-clause-next
returns-then-is_empty-clause-next g c some =
    let none : c.args.requests.items ≡ [] = none_of c.args.requests.items c.args.requests.len (sym c.is_empty.ensures ∙ c.if-is_empty.true) c.args.requests.ok.0 in
    absurd (none_left c.args.requests.items some none)

pub returns-then-is_empty-clause-turned : goal.returns-then-is_empty-clause-turned
returns-then-is_empty-clause-turned g c some =
    let none : c.args.requests.items ≡ [] = none_of c.args.requests.items c.args.requests.len (sym c.is_empty.ensures ∙ c.if-is_empty.true) c.args.requests.ok.0 in
    absurd (none_left c.args.requests.items some none)

pub returns-then-is_empty-clause-from : goal.returns-then-is_empty-clause-from
returns-then-is_empty-clause-from g c some =
    let none : c.args.requests.items ≡ [] = none_of c.args.requests.items c.args.requests.len (sym c.is_empty.ensures ∙ c.if-is_empty.true) c.args.requests.ok.0 in
    absurd (none_left c.args.requests.items some none)

pub returns-then-is_empty-clause-used_up : goal.returns-then-is_empty-clause-used_up
returns-then-is_empty-clause-used_up g c some =
    let none : c.args.requests.items ≡ [] = none_of c.args.requests.items c.args.requests.len (sym c.is_empty.ensures ∙ c.if-is_empty.true) c.args.requests.ok.0 in
    absurd (none_left c.args.requests.items some none)

pub returns-then-is_empty-clause-few : goal.returns-then-is_empty-clause-few
returns-then-is_empty-clause-few g c =
    omega arith

pub returns-then-is_empty-clause-later : goal.returns-then-is_empty-clause-later
returns-then-is_empty-clause-later g c =
    later_same (around g.N.Net g.P.Power c.args.net.now c.args.power.now)

-- ---- no number is left

pub returns-then-self-ge-EPOCHS_END-clause-turns : goal.returns-then-self-ge-EPOCHS_END-clause-turns
returns-then-self-ge-EPOCHS_END-clause-turns g c d on stands room =
    let before = c.loop-attempt.invariant in
    let goes = before.told d on stands room in
    inl (ends_without g.H.Host d c.loop-attempt.self c.args.self.now c.args.host.now c.loop-attempt.host _ c.args.requests.items goes before.low before.few (Err EpochsUsedUp) tt (λ rests. rests))

pub returns-then-self-ge-EPOCHS_END-clause-nothing : goal.returns-then-self-ge-EPOCHS_END-clause-nothing
returns-then-self-ge-EPOCHS_END-clause-nothing g c empty =
    let some : 0 < length c.args.requests.items = some_left c.args.requests.items c.args.requests.len (sym c.is_empty.ensures ∙ c.if-is_empty.false) c.args.requests.ok.0 in
    absurd (none_left c.args.requests.items some empty)

pub returns-then-self-ge-EPOCHS_END-clause-counts : goal.returns-then-self-ge-EPOCHS_END-clause-counts
returns-then-self-ge-EPOCHS_END-clause-counts g c =
    let before = c.loop-attempt.invariant in
    (before.disk, (let few = before.few in let used : epochs_end ≤ c.loop-attempt.self.next_epoch = c.if-self-ge-EPOCHS_END.true in omega (arith, few, used)))

pub returns-then-self-ge-EPOCHS_END-clause-later : goal.returns-then-self-ge-EPOCHS_END-clause-later
returns-then-self-ge-EPOCHS_END-clause-later g c =
    let before = c.loop-attempt.invariant in
    all_later c.loop-attempt._attempt (around g.N.Net g.P.Power c.args.net.now c.args.power.now) (around g.N.Net g.P.Power c.loop-attempt.net c.loop-attempt.power) before.given

pub returns-then-self-ge-EPOCHS_END-clause-unused : goal.returns-then-self-ge-EPOCHS_END-clause-unused
returns-then-self-ge-EPOCHS_END-clause-unused g c is used =
    let before = c.loop-attempt.invariant in
    before.unused used

-- ---- an attempt failed

pub returns-in_err-attempt-clause-turns : goal.returns-in_err-attempt-clause-turns
returns-in_err-attempt-clause-turns g c d on stands room =
    let before = c.loop-attempt.invariant in
    let goes = before.told d on stands room in
    let there : HasRoom goes.on.d c.loop-attempt.requests.items = room_as d goes.on.d c.args.requests.items c.loop-attempt.requests.items goes.on.only before.same room in
    let p = err_from_is_err_and c.from_residual.result c.from_residual.ensures.1 in
    ends_failed g.H.Host d c.loop-attempt.self c.attempt.new.self c.args.host.now c.loop-attempt.host c.attempt.new.host goes c.args.requests.items c.args.workers c.args.attempts (Err c.in_err-attempt.field-0.0) c.args.self.now _ before.low (few_until c.loop-attempt.self.next_epoch c.args.self.now.next_epoch (around g.N.Net g.P.Power c.args.net.now c.args.power.now) (around g.N.Net g.P.Power c.loop-attempt.net c.loop-attempt.power) (around g.N.Net g.P.Power c.attempt.new.net c.attempt.new.power) before.few (all_later c.loop-attempt._attempt (around g.N.Net g.P.Power c.args.net.now c.args.power.now) (around g.N.Net g.P.Power c.loop-attempt.net c.loop-attempt.power) before.given) c.attempt.ensures.later) c.from_residual.result c.in_err-attempt.field-0.0 (g.H.Host.disk_faults c.loop-attempt.host) (g.H.Host.disk_faults c.attempt.new.host) (p.1 ∙ ap Err p.2) c.in_err-attempt.ensures.disk (subst (λ rs. AttemptsOn g.H.Host (Err c.in_err-attempt.field-0.0) rs c.args.workers c.args.attempts goes.on.d c.loop-attempt.self c.attempt.new.self c.loop-attempt.host c.attempt.new.host) before.same (c.in_err-attempt.ensures.files goes.on.d goes.on.rests goes.on.stands there))

pub returns-in_err-attempt-clause-never : goal.returns-in_err-attempt-clause-never
returns-in_err-attempt-clause-never g c file at d on stands room is =
    let before = c.loop-attempt.invariant in
    let goes = before.told d on stands room in
    let there : HasRoom goes.on.d c.loop-attempt.requests.items = room_as d goes.on.d c.args.requests.items c.loop-attempt.requests.items goes.on.only before.same room in
    let p = err_from_is_err_and c.from_residual.result c.from_residual.ensures.1 in
    let named : c.in_err-attempt.field-0.0 ≡ NotAStore file at = cc (p.1, p.2, is) in c.in_err-attempt.ensures.never file at goes.on.d goes.on.rests goes.on.stands there (ap Err named)

pub returns-in_err-attempt-clause-nothing : goal.returns-in_err-attempt-clause-nothing
returns-in_err-attempt-clause-nothing g c empty =
    let some : 0 < length c.args.requests.items = some_left c.args.requests.items c.args.requests.len (sym c.is_empty.ensures ∙ c.if-is_empty.false) c.args.requests.ok.0 in
    absurd (none_left c.args.requests.items some empty)

pub returns-in_err-attempt-clause-used_up : goal.returns-in_err-attempt-clause-used_up
returns-in_err-attempt-clause-used_up g c some used =
    let before = c.loop-attempt.invariant in
    let low = before.low in let below : c.loop-attempt.self.next_epoch < epochs_end = c.if-self-ge-EPOCHS_END.false in
    absurd (omega (arith, low, below, used))

pub returns-in_err-attempt-clause-untraced : goal.returns-in_err-attempt-clause-untraced
returns-in_err-attempt-clause-untraced g c =
    let before = c.loop-attempt.invariant in
    let p = err_from_is_err_and c.from_residual.result c.from_residual.ensures.1 in
    subst (λ (r : Result (Unit {0}) Stop). OnErr r (c.attempt.new.self.trace ≡ None)) (sym p.1) (c.in_err-attempt.ensures.trace before.untraced)

pub returns-in_err-attempt-clause-counts : goal.returns-in_err-attempt-clause-counts
returns-in_err-attempt-clause-counts g c =
    let before = c.loop-attempt.invariant in
    let p = err_from_is_err_and c.from_residual.result c.from_residual.ensures.1 in
    counts_failed c.from_residual.result c.in_err-attempt.field-0.0 c.args.self.now.next_epoch (around g.N.Net g.P.Power c.args.net.now c.args.power.now) (around g.N.Net g.P.Power c.attempt.new.net c.attempt.new.power) (g.H.Host.disk_faults c.args.host.now) (g.H.Host.disk_faults c.loop-attempt.host) (g.H.Host.disk_faults c.attempt.new.host) (p.1 ∙ ap Err p.2) before.disk c.in_err-attempt.ensures.disk

pub returns-in_err-attempt-clause-later : goal.returns-in_err-attempt-clause-later
returns-in_err-attempt-clause-later g c =
    let before = c.loop-attempt.invariant in
    later_then (around g.N.Net g.P.Power c.args.net.now c.args.power.now) (around g.N.Net g.P.Power c.loop-attempt.net c.loop-attempt.power) (around g.N.Net g.P.Power c.attempt.new.net c.attempt.new.power) (all_later c.loop-attempt._attempt (around g.N.Net g.P.Power c.args.net.now c.args.power.now) (around g.N.Net g.P.Power c.loop-attempt.net c.loop-attempt.power) before.given) c.attempt.ensures.later

pub returns-in_err-attempt-clause-unused : goal.returns-in_err-attempt-clause-unused
returns-in_err-attempt-clause-unused g c is used =
    let before = c.loop-attempt.invariant in
    let low = before.low in let below : c.loop-attempt.self.next_epoch < epochs_end = c.if-self-ge-EPOCHS_END.false in
    absurd (omega (arith, low, below, used))

-- ---- the epoch was committed

pub returns-in-None-clause-turns : goal.returns-in-None-clause-turns
returns-in-None-clause-turns g c d on stands room =
    let before = c.loop-attempt.invariant in
    let ok = c.in_ok-attempt.ensures in
    let goes = before.told d on stands room in
    let there : HasRoom goes.on.d c.loop-attempt.requests.items = room_as d goes.on.d c.args.requests.items c.loop-attempt.requests.items goes.on.only before.same room in
    ends_committed g.H.Host d c.loop-attempt.self c.attempt.new.self c.args.host.now c.loop-attempt.host c.attempt.new.host goes c.args.requests.items c.args.workers c.args.attempts (Ok c.in_ok-attempt.field-0) c.args.self.now _ before.low (few_until c.loop-attempt.self.next_epoch c.args.self.now.next_epoch (around g.N.Net g.P.Power c.args.net.now c.args.power.now) (around g.N.Net g.P.Power c.loop-attempt.net c.loop-attempt.power) (around g.N.Net g.P.Power c.attempt.new.net c.attempt.new.power) before.few (all_later c.loop-attempt._attempt (around g.N.Net g.P.Power c.args.net.now c.args.power.now) (around g.N.Net g.P.Power c.loop-attempt.net c.loop-attempt.power) before.given) c.attempt.ensures.later) (ap Ok c.in-None.is) (subst (λ rs. AttemptsOn g.H.Host (Ok c.in_ok-attempt.field-0) rs c.args.workers c.args.attempts goes.on.d c.loop-attempt.self c.attempt.new.self c.loop-attempt.host c.attempt.new.host) before.same (ok.files goes.on.d goes.on.rests goes.on.stands there))

pub returns-in-None-clause-nothing : goal.returns-in-None-clause-nothing
returns-in-None-clause-nothing g c empty =
    let some : 0 < length c.args.requests.items = some_left c.args.requests.items c.args.requests.len (sym c.is_empty.ensures ∙ c.if-is_empty.false) c.args.requests.ok.0 in
    absurd (none_left c.args.requests.items some empty)

pub returns-in-None-clause-next : goal.returns-in-None-clause-next
returns-in-None-clause-next g c some =
    let before = c.loop-attempt.invariant in
    let ok = c.in_ok-attempt.ensures in
    let done : HasCommittedOne c.loop-attempt.requests.items c.args.workers c.args.attempts c.loop-attempt.self c.attempt.new.self = subst (λ (x : Option (Vec Request)). Attempts x c.loop-attempt.requests.items c.args.workers c.args.attempts c.loop-attempt.self c.attempt.new.self) c.in-None.is ok.attempts in
    let low = before.low in let up = done.next in omega (arith, low, up)

pub returns-in-None-clause-few : goal.returns-in-None-clause-few
returns-in-None-clause-few g c =
    let before = c.loop-attempt.invariant in
    let ok = c.in_ok-attempt.ensures in
    let done : HasCommittedOne c.loop-attempt.requests.items c.args.workers c.args.attempts c.loop-attempt.self c.attempt.new.self = subst (λ (x : Option (Vec Request)). Attempts x c.loop-attempt.requests.items c.args.workers c.args.attempts c.loop-attempt.self c.attempt.new.self) c.in-None.is ok.attempts in
    let some : 0 < length c.args.requests.items = some_left c.args.requests.items c.args.requests.len (sym c.is_empty.ensures ∙ c.if-is_empty.false) c.args.requests.ok.0 in
    skips_few c.args.requests.items c.loop-attempt.self.next_epoch c.attempt.new.self.next_epoch c.args.self.now.next_epoch (around g.N.Net g.P.Power c.args.net.now c.args.power.now) (around g.N.Net g.P.Power c.attempt.new.net c.attempt.new.power) some (few_until c.loop-attempt.self.next_epoch c.args.self.now.next_epoch (around g.N.Net g.P.Power c.args.net.now c.args.power.now) (around g.N.Net g.P.Power c.loop-attempt.net c.loop-attempt.power) (around g.N.Net g.P.Power c.attempt.new.net c.attempt.new.power) before.few (all_later c.loop-attempt._attempt (around g.N.Net g.P.Power c.args.net.now c.args.power.now) (around g.N.Net g.P.Power c.loop-attempt.net c.loop-attempt.power) before.given) c.attempt.ensures.later) done.next

pub returns-in-None-clause-turned : goal.returns-in-None-clause-turned
returns-in-None-clause-turned g c some =
    let before = c.loop-attempt.invariant in
    let ok = c.in_ok-attempt.ensures in
    let done : HasCommittedOne c.loop-attempt.requests.items c.args.workers c.args.attempts c.loop-attempt.self c.attempt.new.self = subst (λ (x : Option (Vec Request)). Attempts x c.loop-attempt.requests.items c.args.workers c.args.attempts c.loop-attempt.self c.attempt.new.self) c.in-None.is ok.attempts in
    (done.m, turned_first c.args.self.now c.loop-attempt.self c.attempt.new.self c.args.requests.items c.loop-attempt.requests.items c.args.workers c.args.attempts done.m before.same before.procs before.layout before.kept (done.turned done.m done.had))

pub returns-in-None-clause-from : goal.returns-in-None-clause-from
returns-in-None-clause-from g c some is m had =
    let before = c.loop-attempt.invariant in
    let ok = c.in_ok-attempt.ensures in
    let first = before.seen in
    let more = ok.seen in
    let done : HasCommittedOne c.loop-attempt.requests.items c.args.workers c.args.attempts c.loop-attempt.self c.attempt.new.self = subst (λ (x : Option (Vec Request)). Attempts x c.loop-attempt.requests.items c.args.workers c.args.attempts c.loop-attempt.self c.attempt.new.self) c.in-None.is ok.attempts in
    turned_first c.args.self.now c.loop-attempt.self c.attempt.new.self c.args.requests.items c.loop-attempt.requests.items c.args.workers c.args.attempts m before.same before.procs before.layout before.kept (done.turned m (before.map (omega (arith, first, more, is)) m had))

pub returns-in-None-clause-used_up : goal.returns-in-None-clause-used_up
returns-in-None-clause-used_up g c some used =
    let before = c.loop-attempt.invariant in
    let low = before.low in let below : c.loop-attempt.self.next_epoch < epochs_end = c.if-self-ge-EPOCHS_END.false in
    absurd (omega (arith, low, below, used))

pub returns-in-None-clause-counts : goal.returns-in-None-clause-counts
returns-in-None-clause-counts g c =
    let before = c.loop-attempt.invariant in
    let ok = c.in_ok-attempt.ensures in
    ok.disk ∙ before.disk

pub returns-in-None-clause-later : goal.returns-in-None-clause-later
returns-in-None-clause-later g c =
    let before = c.loop-attempt.invariant in
    later_then (around g.N.Net g.P.Power c.args.net.now c.args.power.now) (around g.N.Net g.P.Power c.loop-attempt.net c.loop-attempt.power) (around g.N.Net g.P.Power c.attempt.new.net c.attempt.new.power) (all_later c.loop-attempt._attempt (around g.N.Net g.P.Power c.args.net.now c.args.power.now) (around g.N.Net g.P.Power c.loop-attempt.net c.loop-attempt.power) before.given) c.attempt.ensures.later

pub returns-in-None-clause-kept : goal.returns-in-None-clause-kept
returns-in-None-clause-kept g c =
    let before = c.loop-attempt.invariant in
    let ok = c.in_ok-attempt.ensures in
    let done : HasCommittedOne c.loop-attempt.requests.items c.args.workers c.args.attempts c.loop-attempt.self c.attempt.new.self = subst (λ (x : Option (Vec Request)). Attempts x c.loop-attempt.requests.items c.args.workers c.args.attempts c.loop-attempt.self c.attempt.new.self) c.in-None.is ok.attempts in
    let few = done.few in omega (arith, few, ap (λ (n : Keeping). length n.dones) before.kept, ap (length {A = Request}) before.same)

-- ---- the nodes are unreachable

pub returns-clause-turns : goal.returns-clause-turns
returns-clause-turns g c d on stands room =
    let before = c.loop-attempt.invariant in
    let goes = before.told d on stands room in
    inl (ends_without g.H.Host d c.loop-attempt.self c.args.self.now c.args.host.now c.loop-attempt.host _ c.args.requests.items goes before.low before.few (Err Unreachable) tt (λ rests. rests))

pub returns-clause-nothing : goal.returns-clause-nothing
returns-clause-nothing g c empty =
    let some : 0 < length c.args.requests.items = some_left c.args.requests.items c.args.requests.len (sym c.is_empty.ensures ∙ c.if-is_empty.false) c.args.requests.ok.0 in
    absurd (none_left c.args.requests.items some empty)

pub returns-clause-used_up : goal.returns-clause-used_up
returns-clause-used_up g c some used =
    let before = c.loop-attempt.invariant in
    let begun = before.begun (omega (arith, c.loop-attempt-test.false)) in absurd (omega (arith, begun, used))

pub returns-clause-counts : goal.returns-clause-counts
returns-clause-counts g c =
    let before = c.loop-attempt.invariant in
    (before.disk, subst (λ (n : ℕ). AreGivenUp n (around g.N.Net g.P.Power c.args.net.now c.args.power.now) (around g.N.Net g.P.Power c.loop-attempt.net c.loop-attempt.power)) (let all : c.loop-attempt._attempt ≡ 4 = omega arith in all) before.given)

pub returns-clause-later : goal.returns-clause-later
returns-clause-later g c =
    let before = c.loop-attempt.invariant in
    all_later c.loop-attempt._attempt (around g.N.Net g.P.Power c.args.net.now c.args.power.now) (around g.N.Net g.P.Power c.loop-attempt.net c.loop-attempt.power) before.given

-- ---- the steps of nodes and coordinator, and what was asked

pub returns-then-is_empty-clause-world : goal.returns-then-is_empty-clause-world
returns-then-is_empty-clause-world g c =
    let none : c.args.requests.items ≡ [] = none_of c.args.requests.items c.args.requests.len (sym c.is_empty.ensures ∙ c.if-is_empty.true) c.args.requests.ok.0 in
    ([], subst (λ rs. HasCommittedBy (Ok tt) rs c.args.self.now.next_epoch []) (sym none) refl, steps_none (g.P.Power.stopped c.args.power.now) c.args.self.now.next_epoch (scene_of c.args.self.now.members (g.N.Net.sent c.args.net.now)))

pub returns-then-is_empty-clause-asks : goal.returns-then-is_empty-clause-asks
returns-then-is_empty-clause-asks g c some =
    let none : c.args.requests.items ≡ [] = none_of c.args.requests.items c.args.requests.len (sym c.is_empty.ensures ∙ c.if-is_empty.true) c.args.requests.ok.0 in
    absurd (none_left c.args.requests.items some none)

pub returns-then-is_empty-clause-begins : goal.returns-then-is_empty-clause-begins
returns-then-is_empty-clause-begins g c =
    omega arith

pub returns-then-is_empty-clause-given_up : goal.returns-then-is_empty-clause-given_up
returns-then-is_empty-clause-given_up g c =
    (0, omega arith, omega arith, later_same (around g.N.Net g.P.Power c.args.net.now c.args.power.now))

pub returns-then-self-ge-EPOCHS_END-clause-world : goal.returns-then-self-ge-EPOCHS_END-clause-world
returns-then-self-ge-EPOCHS_END-clause-world g c =
    let before = c.loop-attempt.invariant in
    ([], refl, before.steps)

pub returns-then-self-ge-EPOCHS_END-clause-begins : goal.returns-then-self-ge-EPOCHS_END-clause-begins
returns-then-self-ge-EPOCHS_END-clause-begins g c =
    let before = c.loop-attempt.invariant in
    (let first = before.begins in omega (arith, first, c.loop-attempt-test.true))

pub returns-in_err-attempt-clause-world : goal.returns-in_err-attempt-clause-world
returns-in_err-attempt-clause-world g c =
    let before = c.loop-attempt.invariant in
    let p = err_from_is_err_and c.from_residual.result c.from_residual.ensures.1 in
    attempt_failed c.from_residual.result c.in_err-attempt.field-0.0 c.args.requests.items (g.P.Power.stopped c.args.power.now) (g.P.Power.stopped c.loop-attempt.power) (g.P.Power.stopped c.attempt.new.power) c.args.self.now.next_epoch c.loop-attempt.self.next_epoch c.attempt.new.self.next_epoch (scene_of c.args.self.now.members (g.N.Net.sent c.args.net.now)) (scene_of c.loop-attempt.self.members (g.N.Net.sent c.loop-attempt.net)) (scene_of c.attempt.new.self.members (g.N.Net.sent c.attempt.new.net)) (g.H.Host.disk_faults c.loop-attempt.host) (g.H.Host.disk_faults c.attempt.new.host) (p.1 ∙ ap Err p.2) before.steps c.in_err-attempt.ensures.disk c.in_err-attempt.ensures.world

pub returns-in_err-attempt-clause-begins : goal.returns-in_err-attempt-clause-begins
returns-in_err-attempt-clause-begins g c =
    let before = c.loop-attempt.invariant in
    (let first = before.begins in let more = c.attempt.ensures.begins in omega (arith, first, more, c.loop-attempt-test.true))

pub returns-in-None-clause-world : goal.returns-in-None-clause-world
returns-in-None-clause-world g c =
    let before = c.loop-attempt.invariant in
    let some : 0 < length c.args.requests.items = some_left c.args.requests.items c.args.requests.len (sym c.is_empty.ensures ∙ c.if-is_empty.false) c.args.requests.ok.0 in
    let ok = c.in_ok-attempt.ensures in
    turn_committed c.in_ok-attempt.field-0 c.args.requests.items (g.P.Power.stopped c.args.power.now) (g.P.Power.stopped c.loop-attempt.power) (g.P.Power.stopped c.attempt.new.power) c.args.self.now.next_epoch c.loop-attempt.self.next_epoch c.attempt.new.self.next_epoch (scene_of c.args.self.now.members (g.N.Net.sent c.args.net.now)) (scene_of c.loop-attempt.self.members (g.N.Net.sent c.loop-attempt.net)) (scene_of c.attempt.new.self.members (g.N.Net.sent c.attempt.new.net)) some c.in-None.is before.steps ok.world

pub returns-in-None-clause-asks : goal.returns-in-None-clause-asks
returns-in-None-clause-asks g c some =
    let before = c.loop-attempt.invariant in
    let ok = c.in_ok-attempt.ensures in
    let done : HasCommittedOne c.loop-attempt.requests.items c.args.workers c.args.attempts c.loop-attempt.self c.attempt.new.self = subst (λ (x : Option (Vec Request)). Attempts x c.loop-attempt.requests.items c.args.workers c.args.attempts c.loop-attempt.self c.attempt.new.self) c.in-None.is ok.attempts in
    asks_all c.args.self.now.members.tables.layout c.args.self.now.next_epoch c.loop-attempt.self.next_epoch c.attempt.new.self.next_epoch (around g.N.Net g.P.Power c.args.net.now c.args.power.now) (around g.N.Net g.P.Power c.loop-attempt.net c.loop-attempt.power) (around g.N.Net g.P.Power c.attempt.new.net c.attempt.new.power) before.low done.next (all_later c.loop-attempt._attempt (around g.N.Net g.P.Power c.args.net.now c.args.power.now) (around g.N.Net g.P.Power c.loop-attempt.net c.loop-attempt.power) before.given) c.attempt.ensures.later before.asks
    (subst (λ (l : Layout). AsksForAll l c.loop-attempt.self.next_epoch (around g.N.Net g.P.Power c.loop-attempt.net c.loop-attempt.power) (around g.N.Net g.P.Power c.attempt.new.net c.attempt.new.power)) before.layout (subst (λ (x : Option (Vec Request)). AsksBy x c.loop-attempt.self.members.tables.layout c.loop-attempt.self.next_epoch c.attempt.new.self.next_epoch (around g.N.Net g.P.Power c.loop-attempt.net c.loop-attempt.power) (around g.N.Net g.P.Power c.attempt.new.net c.attempt.new.power)) c.in-None.is ok.asks))

pub returns-in-None-clause-begins : goal.returns-in-None-clause-begins
returns-in-None-clause-begins g c =
    let before = c.loop-attempt.invariant in
    (let first = before.begins in let more = c.attempt.ensures.begins in omega (arith, first, more, c.loop-attempt-test.true))

pub returns-in-None-clause-given_up : goal.returns-in-None-clause-given_up
returns-in-None-clause-given_up g c =
    let before = c.loop-attempt.invariant in
    let ok = c.in_ok-attempt.ensures in
    let done : HasCommittedOne c.loop-attempt.requests.items c.args.workers c.args.attempts c.loop-attempt.self c.attempt.new.self = subst (λ (x : Option (Vec Request)). Attempts x c.loop-attempt.requests.items c.args.workers c.args.attempts c.loop-attempt.self c.attempt.new.self) c.in-None.is ok.attempts in
    (c.loop-attempt._attempt, omega (arith, c.loop-attempt-test.true), (let high = before.high in let up = done.next in omega (arith, high, up)), all_until c.loop-attempt._attempt (around g.N.Net g.P.Power c.args.net.now c.args.power.now) (around g.N.Net g.P.Power c.loop-attempt.net c.loop-attempt.power) (around g.N.Net g.P.Power c.attempt.new.net c.attempt.new.power) before.given c.attempt.ensures.later)

pub returns-clause-world : goal.returns-clause-world
returns-clause-world g c =
    let before = c.loop-attempt.invariant in
    ([], refl, before.steps)

pub returns-clause-begins : goal.returns-clause-begins
returns-clause-begins g c =
    let before = c.loop-attempt.invariant in
    (let all : c.loop-attempt._attempt ≡ 4 = omega arith in let first = before.begins in omega (arith, first, all))

pub returns-in_err-attempt-clause-refused : goal.returns-in_err-attempt-clause-refused
returns-in_err-attempt-clause-refused g c file at is =
    let before = c.loop-attempt.invariant in
    let p = err_from_is_err_and c.from_residual.result c.from_residual.ensures.1 in
    let named : c.in_err-attempt.field-0.0 ≡ NotAStore file at = cc (p.1, p.2, is) in
    let first = before.seen in
    let rose = c.attempt.ensures.refused file at (c.in_err-attempt.was ∙ ap Err named) in omega (arith, first, rose)

pub returns-in_err-attempt-clause-ended : goal.returns-in_err-attempt-clause-ended
returns-in_err-attempt-clause-ended g c is =
    let p = err_from_is_err_and c.from_residual.result c.from_residual.ensures.1 in
    let named : c.in_err-attempt.field-0.0 ≡ EpochsUsedUp = cc (p.1, p.2, is) in
    absurd (subst (λ (f : Stop). CountsAttempt {T = Unit {0}} (Err f) (g.H.Host.disk_faults c.loop-attempt.host) (g.H.Host.disk_faults c.attempt.new.host)) named c.in_err-attempt.ensures.disk)

pub returns-then-self-ge-EPOCHS_END-clause-ended : goal.returns-then-self-ge-EPOCHS_END-clause-ended
returns-then-self-ge-EPOCHS_END-clause-ended g c is = (c.if-self-ge-EPOCHS_END.true, (c.loop-attempt._attempt, omega (arith, c.loop-attempt-test.true), c.loop-attempt.invariant.high, c.loop-attempt.invariant.given))

-- ---- with the entries of the files

pub returns-then-is_empty-clause-entries : goal.returns-then-is_empty-clause-entries
returns-then-is_empty-clause-entries g c d e on stands room behind =
    let none : c.args.requests.items ≡ [] = none_of c.args.requests.items c.args.requests.len (sym c.is_empty.ensures ∙ c.if-is_empty.true) c.args.requests.ok.0 in
    let i = g.P.Power.stopped c.args.power.now in
    let n = c.args.self.now.next_epoch in
    let a = scene_of c.args.self.now.members (g.N.Net.sent c.args.net.now) in
    ([], subst (λ rs. HasCommittedBy (Ok tt) rs n []) (sym none) refl, on_rests d d e i i n n [] a a (g.H.Host.reads c.args.host.now) (g.H.Host.may_leave c.args.host.now) on behind (on_none d i n a))

pub returns-then-self-ge-EPOCHS_END-clause-entries : goal.returns-then-self-ge-EPOCHS_END-clause-entries
returns-then-self-ge-EPOCHS_END-clause-entries g c d e on stands room behind = ([], refl, c.loop-attempt.invariant.entries d e on stands room behind)

pub returns-in_err-attempt-clause-entries : goal.returns-in_err-attempt-clause-entries
returns-in_err-attempt-clause-entries g c d e on stands room behind =
    let p = err_from_is_err_and c.from_residual.result c.from_residual.ensures.1 in
    unrefused (Option (Vec Request)) (Unit {0}) ((commits : List ℕ) × HasCommittedBy c.from_residual.result c.args.requests.items c.attempt.new.self.next_epoch commits
    × StepsOn d e (g.P.Power.stopped c.args.power.now) (g.P.Power.stopped c.attempt.new.power) c.args.self.now.next_epoch c.attempt.new.self.next_epoch commits (scene_of c.args.self.now.members (g.N.Net.sent c.args.net.now)) (scene_of c.attempt.new.self.members (g.N.Net.sent c.attempt.new.net)))
    c.from_residual.result c.in_err-attempt.field-0.0 (g.H.Host.disk_faults c.loop-attempt.host) (g.H.Host.disk_faults c.attempt.new.host) (p.1 ∙ ap Err p.2) c.in_err-attempt.ensures.disk (λ file place is. returns-in_err-attempt-clause-never g c file place d on stands room is)

pub returns-in-None-clause-entries : goal.returns-in-None-clause-entries
returns-in-None-clause-entries g c d e on stands room behind =
    let before = c.loop-attempt.invariant in
    let some : 0 < length c.args.requests.items = some_left c.args.requests.items c.args.requests.len (sym c.is_empty.ensures ∙ c.if-is_empty.false) c.args.requests.ok.0 in
    let goes = before.told d on stands room in
    let first : HasRoom goes.on.d c.loop-attempt.requests.items = room_as d goes.on.d c.args.requests.items c.loop-attempt.requests.items goes.on.only before.same room in
    turn_committed_on d goes.on.d e c.in_ok-attempt.field-0 c.args.requests.items (g.P.Power.stopped c.args.power.now) (g.P.Power.stopped c.loop-attempt.power) (g.P.Power.stopped c.attempt.new.power) c.args.self.now.next_epoch c.loop-attempt.self.next_epoch c.attempt.new.self.next_epoch
    (scene_of c.args.self.now.members (g.N.Net.sent c.args.net.now)) (scene_of c.loop-attempt.self.members (g.N.Net.sent c.loop-attempt.net)) (scene_of c.attempt.new.self.members (g.N.Net.sent c.attempt.new.net)) some c.in-None.is (before.entries d goes.on.d on stands room goes.on.rests)
    (c.in_ok-attempt.ensures.entries goes.on.d e goes.on.rests goes.on.stands first behind)

pub returns-clause-entries : goal.returns-clause-entries
returns-clause-entries g c d e on stands room behind = ([], refl, c.loop-attempt.invariant.entries d e on stands room behind)
