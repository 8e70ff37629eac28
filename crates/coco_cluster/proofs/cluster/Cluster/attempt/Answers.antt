use Rattle.std.proofs.Common.{◌≡◌, true≢false, ◌+◌, ◌<◌, ◌≤◌, ℕ, List, [], ◌∷◌, length, Option, Some, None, Result, Ok, Err, inl, inr, refl, sym, ap, ◌∙◌, subst, arith}
use Rattle.std.proofs.lemmas.Result.{err_from_is_err_and}
use Rattle.std.specs.Global.{Vec}
use Rattle.std.specs.Option.{option_map}
use Rattle.std.specs.Prelude.{IsOk, OnErr}
use Rattle.coco_chief.specs.Shown.{chief_of}
use Rattle.coco_ast.specs.Keyed.{Rows}
use Rattle.coco_append.specs.Gaining.{Stands}
use Rattle.coco_ast.specs.History.{rows_after}
use Rattle.coco_entry.specs.declared.layout.Layout.{Layout}
use Rattle.coco_letters.specs.Around.{Around, IsLater, around}
use Rattle.coco_log.specs.LogState.{LogState}
use Rattle.coco_members.specs.AtRest.{AreAtRest, NoneBehind, scene_of}
use Rattle.coco_members.specs.Voted.{HaveVoted}
use Rattle.coco_parallel.specs.Traces.{traced}
use Rattle.coco_store.specs.Contents.{map_in}
use Rattle.coco_store.specs.Laws.{with_commit}
use Rattle.coco_types.specs.Limits.{epochs_end}
use Rattle.coco_types.specs.declared.call.Request.{Request}
use Rattle.coco_cluster.specs.Ending.{Commits, HasEnded, IsForgotten}
use Rattle.coco_cluster.specs.Entries.{StepsOn}
use Rattle.coco_cluster.specs.Faults.{CountsAttempt, CountsPart}
use Rattle.coco_cluster.specs.Standing.{IsSound, Rests}
use Rattle.coco_cluster.specs.Stepping.{HaveCommitted, IsVotedFor, MayHaveBegun, OnEnd, StepsTo, VotedForBy}
use Rattle.coco_cluster.specs.Trying.{ComesOf, ComesOn, HasGivenUp, HasVoted, IsGivenUpIf, LoseIfTold, MayCommitOn, MayGoOn, StaysInPlace, commit_of}
use Rattle.coco_cluster.specs.declared.cluster.Cluster.{Cluster}
use Rattle.coco_cluster.specs.declared.stop.Stop.{Stop}
use Rattle.coco_cluster.specs.declared.stop.Stop.TheVariants.{NoMemory, NotAStore}
use Rattle.coco_cluster.specs.declared.trying.Tried.{Tried}
use Rattle.coco_cluster.proofs.AskLemmas.{begins_one, begins_same, voted_whole}
use Rattle.coco_cluster.proofs.AroundLemmas.{gives_from, later_then, later_used}
use Rattle.coco_cluster.proofs.AttemptLemmas.{are_few, are_of_epoch, committed_one, given_back, kept_forgotten, layout_forgotten, may_be_kept, next_forgotten, procs_forgotten, rests_ended, rests_gone, stand_gone, shards_gone, stands_ended, stands_gone, trace_forgotten}
use Rattle.coco_cluster.proofs.BehindLemmas.{behind_later}
use Rattle.coco_cluster.proofs.CommitLemmas.{commits_so}
use Rattle.coco_cluster.proofs.EntryLemmas.{committed_on, forgotten_on, on_number, on_rests, on_same, unrefused}
use Rattle.coco_cluster.proofs.RemindLemmas.{all_finished, chief_elsewhere, may_reminded, one_silent, reminded, sound_reminded, stand_reminded, stands_reminded}
use Rattle.coco_cluster.proofs.SeeingLemmas.{adds_none, keeps_same, rests_read}
use Rattle.coco_cluster.proofs.StepLemmas.{committed_steps, forgotten_steps, has_begun, on_end, one_begun, part_ends, reminded_steps, same_nodes, steps_number}
use Rattle.coco_cluster.proofs.StopLemmas.{lose_then, lost_if_told}
use Rattle.coco_cluster.proofs.ToldLemmas.{commit_failed, committed_then, counts_later, counts_wider, failed_none, keeps_failed, keeps_given, keeps_reading}
use Rattle.coco_cluster.proofs.cluster.Cluster.attempt.Goals as goal

-- ---- out of memory while nodes were reminded

pub returns-in_err-remind-clause-files : goal.returns-in_err-remind-clause-files
returns-in_err-remind-clause-files g c d on stands room =
    let p = err_from_is_err_and c.from_residual.result c.from_residual.ensures.1 in
    inl (keeps_failed g.H.Host c.from_residual.result p.0 d c.args.self.now (reminded c.args.self.now c.remind.new.members) c.args.host.now c.args.host.now p.1 (keeps_same g.H.Host g.met.H.Host.only_now d (c.args.self.now.next_epoch + 1) c.args.host.now on (behind_later d c.args.self.now.next_epoch (c.args.self.now.next_epoch + 1) (omega arith) stands.next)))

pub returns-in_err-remind-clause-never : goal.returns-in_err-remind-clause-never
returns-in_err-remind-clause-never g c file at d on stands room is =
    let p = err_from_is_err_and c.from_residual.result c.from_residual.ensures.1 in
    let never_so : NoMemory ≡ NotAStore file at = cc (p.1, p.2, is) in absurd (cc)

pub returns-in_err-remind-clause-disk : goal.returns-in_err-remind-clause-disk
returns-in_err-remind-clause-disk g c =
    let p = err_from_is_err_and c.from_residual.result c.from_residual.ensures.1 in
    subst (λ (r : Result (Option (Vec Request)) Stop). CountsAttempt r (g.H.Host.disk_faults c.args.host.now) (g.H.Host.disk_faults c.args.host.now)) (sym (p.1 ∙ ap Err p.2)) refl

pub returns-in_err-remind-clause-later : goal.returns-in_err-remind-clause-later
returns-in_err-remind-clause-later g c =
    later_used (around g.N.Net g.P.Power c.args.net.now c.args.power.now) (around g.N.Net g.P.Power c.remind.new.net c.args.power.now) c.remind.ensures.letters.sends c.remind.ensures.letters.gives (omega arith)

pub returns-in_err-remind-clause-world : goal.returns-in_err-remind-clause-world
returns-in_err-remind-clause-world g c =
    let p = err_from_is_err_and c.from_residual.result c.from_residual.ensures.1 in
    subst (λ (r : Result (Option (Vec Request)) Stop). OnEnd r ((commits : List ℕ) × HaveCommitted r c.args.self.now.next_epoch commits × StepsTo (g.P.Power.stopped c.args.power.now) (g.P.Power.stopped c.args.power.now) c.args.self.now.next_epoch c.args.self.now.next_epoch commits (scene_of c.args.self.now.members (g.N.Net.sent c.args.net.now)) (scene_of c.remind.new.members (g.N.Net.sent c.remind.new.net)))) (sym (p.1 ∙ ap Err p.2)) tt

pub returns-in_err-remind-clause-entries : goal.returns-in_err-remind-clause-entries
returns-in_err-remind-clause-entries g c d e on stands room behind =
    let p = err_from_is_err_and c.from_residual.result c.from_residual.ensures.1 in
    subst (λ (r : Result (Option (Vec Request)) Stop). OnEnd r ((commits : List ℕ) × HaveCommitted r c.args.self.now.next_epoch commits × StepsOn d e (g.P.Power.stopped c.args.power.now) (g.P.Power.stopped c.args.power.now) c.args.self.now.next_epoch c.args.self.now.next_epoch commits (scene_of c.args.self.now.members (g.N.Net.sent c.args.net.now)) (scene_of c.remind.new.members (g.N.Net.sent c.remind.new.net)))) (sym (p.1 ∙ ap Err p.2)) tt

pub returns-in_err-remind-clause-begins : goal.returns-in_err-remind-clause-begins
returns-in_err-remind-clause-begins g c = omega arith

pub returns-in_err-remind-clause-refused : goal.returns-in_err-remind-clause-refused
returns-in_err-remind-clause-refused g c file at is =
    let p = err_from_is_err_and c.from_residual.result c.from_residual.ensures.1 in
    let never_so : NoMemory ≡ NotAStore file at = cc (p.1, p.2, is) in absurd (cc)

-- ---- one node was silent

pub returns-then-not-branch-clause-sound : goal.returns-then-not-branch-clause-sound
returns-then-not-branch-clause-sound g c =
    let k : Cluster = c.args.self.now in
    let told = c.in_ok-remind.ensures in
    let rest : AreAtRest k.next_epoch (g.N.Net.sent c.remind.new.net) c.remind.new.members = told.rest k.next_epoch c.requires.sound.rests.rest in
    sound_reminded k c.remind.new.members c.remind.ensures.stays told.finish.layout told.committed (g.N.Net.sent c.args.net.now) (g.N.Net.sent c.remind.new.net) rest c.requires.sound

pub returns-then-not-branch-clause-attempts : goal.returns-then-not-branch-clause-attempts
returns-then-not-branch-clause-attempts g c =
    record { same = refl; low = omega arith; high = omega arith; kept = refl; procs = refl; layout = c.in_ok-remind.ensures.finish.layout; trace = refl }

pub returns-then-not-branch-clause-cause : goal.returns-then-not-branch-clause-cause
returns-then-not-branch-clause-cause g c =
    let told = c.in_ok-remind.ensures in
    one_silent c.in_ok-remind.field-0 _ _ (around g.N.Net g.P.Power c.args.net.now c.args.power.now) (around g.N.Net g.P.Power c.remind.new.net c.args.power.now) c.if-not-branch.true told.all told.awaits (later_used (around g.N.Net g.P.Power c.args.net.now c.args.power.now) (around g.N.Net g.P.Power c.remind.new.net c.args.power.now) c.remind.ensures.letters.sends c.remind.ensures.letters.gives (omega arith))

pub returns-then-not-branch-clause-files : goal.returns-then-not-branch-clause-files
returns-then-not-branch-clause-files g c d on stands room =
    let k : Cluster = c.args.self.now in
    let now : Cluster = reminded k c.remind.new.members in
    let told = c.in_ok-remind.ensures in
    let at = stands_reminded k c.remind.new.members c.remind.ensures.stays told.finish.layout told.committed d (c.remind.ensures.map (map_in d)) stands in
    inl (keeps_given g.H.Host (Ok (Some c.args.requests)) c.args.requests d k now c.args.host.now c.args.host.now refl (keeps_same g.H.Host g.met.H.Host.only_now d (c.args.self.now.next_epoch + 1) c.args.host.now on (behind_later d c.args.self.now.next_epoch (c.args.self.now.next_epoch + 1) (omega arith) stands.next)) (record { d = d; only = adds_none d; rests = on; stands = at }))

pub returns-then-not-branch-clause-never : goal.returns-then-not-branch-clause-never
returns-then-not-branch-clause-never g c file at d on stands room is =
    absurd (cc (is))

pub returns-then-not-branch-clause-stand : goal.returns-then-not-branch-clause-stand
returns-then-not-branch-clause-stand g c =
    let k : Cluster = c.args.self.now in
    stand_reminded k c.remind.new.members c.remind.ensures.stays (g.H.Host.reads c.args.host.now) (g.H.Host.may_leave c.args.host.now) c.requires.stand

pub returns-then-not-branch-clause-later : goal.returns-then-not-branch-clause-later
returns-then-not-branch-clause-later g c =
    later_used (around g.N.Net g.P.Power c.args.net.now c.args.power.now) (around g.N.Net g.P.Power c.remind.new.net c.args.power.now) c.remind.ensures.letters.sends c.remind.ensures.letters.gives (omega arith)

pub returns-then-not-branch-clause-map : goal.returns-then-not-branch-clause-map
returns-then-not-branch-clause-map g c is m had = c.in_ok-remind.ensures.shards m had

pub returns-then-not-branch-clause-world : goal.returns-then-not-branch-clause-world
returns-then-not-branch-clause-world g c =
    let k : Cluster = c.args.self.now in
    let told = c.in_ok-remind.ensures in
    let rest : AreAtRest k.next_epoch (g.N.Net.sent c.remind.new.net) c.remind.new.members = told.rest k.next_epoch c.requires.sound.rests.rest in
    let i = g.P.Power.stopped c.args.power.now in
    let first : StepsTo i i k.next_epoch k.next_epoch [] (scene_of k.members (g.N.Net.sent c.args.net.now)) (scene_of c.remind.new.members (g.N.Net.sent c.remind.new.net)) =
    reminded_steps i k.next_epoch k.members c.remind.new.members (g.N.Net.sent c.args.net.now) (g.N.Net.sent c.remind.new.net) (same_nodes k.members c.remind.new.members c.requires.sound.rests.rest.are rest.are told.finish.layout) told.world in
    ([], refl, first)

pub returns-then-not-branch-clause-entries : goal.returns-then-not-branch-clause-entries
returns-then-not-branch-clause-entries g c d e on stands room behind =
    let k : Cluster = c.args.self.now in
    let told = c.in_ok-remind.ensures in
    let rest : AreAtRest k.next_epoch (g.N.Net.sent c.remind.new.net) c.remind.new.members = told.rest k.next_epoch c.requires.sound.rests.rest in
    let i = g.P.Power.stopped c.args.power.now in
    let first : StepsOn d d i i k.next_epoch k.next_epoch [] (scene_of k.members (g.N.Net.sent c.args.net.now)) (scene_of c.remind.new.members (g.N.Net.sent c.remind.new.net)) =
    on_same d i i k.next_epoch (scene_of k.members (g.N.Net.sent c.args.net.now)) (scene_of c.remind.new.members (g.N.Net.sent c.remind.new.net)) (same_nodes k.members c.remind.new.members c.requires.sound.rests.rest.are rest.are told.finish.layout) (told.world i) in
    ([], refl, on_rests d d e i i k.next_epoch k.next_epoch [] (scene_of k.members (g.N.Net.sent c.args.net.now)) (scene_of c.remind.new.members (g.N.Net.sent c.remind.new.net)) (g.H.Host.reads c.args.host.now) (g.H.Host.may_leave c.args.host.now) on behind first)

pub returns-then-not-branch-clause-asks : goal.returns-then-not-branch-clause-asks
returns-then-not-branch-clause-asks g c =
    let a : Around = around g.N.Net g.P.Power c.args.net.now c.args.power.now in
    let r : Around = around g.N.Net g.P.Power c.remind.new.net c.args.power.now in
    begins_same c.args.self.now.next_epoch a r refl refl

pub returns-then-not-branch-clause-begins : goal.returns-then-not-branch-clause-begins
returns-then-not-branch-clause-begins g c = omega arith

-- ---- the next epoch is tried

pub try_epoch-requires-clause-sound : goal.try_epoch-requires-clause-sound
try_epoch-requires-clause-sound g c _ _ =
    let k : Cluster = c.args.self.now in
    let told = c.in_ok-remind.ensures in
    let rest : AreAtRest k.next_epoch (g.N.Net.sent c.remind.new.net) c.remind.new.members = told.rest k.next_epoch c.requires.sound.rests.rest in
    sound_reminded k c.remind.new.members c.remind.ensures.stays told.finish.layout told.committed (g.N.Net.sent c.args.net.now) (g.N.Net.sent c.remind.new.net) rest c.requires.sound

pub try_epoch-requires-clause-up : goal.try_epoch-requires-clause-up
try_epoch-requires-clause-up g c _ _ =
    let k : Cluster = c.args.self.now in
    let told = c.in_ok-remind.ensures in
    let rest : AreAtRest k.next_epoch (g.N.Net.sent c.remind.new.net) c.remind.new.members = told.rest k.next_epoch c.requires.sound.rests.rest in
    c.finished_nodes_are_not_behind.ensures.none k.next_epoch (g.N.Net.sent c.remind.new.net) c.remind.new.members rest (all_finished c.in_ok-remind.field-0 (chief_of c.remind.new.members.chief) _ c.if-not-branch.false told.all)

pub try_epoch-requires-clause-ready : goal.try_epoch-requires-clause-ready
try_epoch-requires-clause-ready g c _ _ =
    let k : Cluster = c.args.self.now in
    (stand_reminded k c.remind.new.members c.remind.ensures.stays (g.H.Host.reads c.args.host.now) (g.H.Host.may_leave c.args.host.now) c.requires.stand).nodes

pub returns-in_err-dones-clause-files : goal.returns-in_err-dones-clause-files
returns-in_err-dones-clause-files g c d on stands room =
    let k : Cluster = c.args.self.now in
    let now : Cluster = reminded k c.remind.new.members in
    let told = c.in_ok-remind.ensures in
    let at = stands_reminded k c.remind.new.members c.remind.ensures.stays told.finish.layout told.committed d (c.remind.ensures.map (map_in d)) stands in
    let p = err_from_is_err_and c.from_residual-in_err-dones.result c.from_residual-in_err-dones.ensures.1 in
    inl (keeps_failed g.H.Host c.from_residual-in_err-dones.result p.0 d k c.try_epoch.new.self c.args.host.now c.try_epoch.new.host p.1 (c.in_err-dones.ensures.files d on at room).0)

pub returns-in_err-dones-clause-never : goal.returns-in_err-dones-clause-never
returns-in_err-dones-clause-never g c file at d on stands room is =
    let p = err_from_is_err_and c.from_residual-in_err-dones.result c.from_residual-in_err-dones.ensures.1 in
    let named : c.in_err-dones.field-0.0 ≡ NotAStore file at = cc (p.1, p.2, is) in subst (λ (f : Stop). CountsPart {T = Unit {0}} (Err f) (g.H.Host.disk_faults c.args.host.now) (g.H.Host.disk_faults c.try_epoch.new.host)) named c.in_err-dones.ensures.disk

pub returns-in_err-dones-clause-disk : goal.returns-in_err-dones-clause-disk
returns-in_err-dones-clause-disk g c =
    let p = err_from_is_err_and c.from_residual-in_err-dones.result c.from_residual-in_err-dones.ensures.1 in
    counts_wider c.from_residual-in_err-dones.result c.in_err-dones.field-0.0 (g.H.Host.disk_faults c.args.host.now) (g.H.Host.disk_faults c.args.host.now) (g.H.Host.disk_faults c.try_epoch.new.host) (p.1 ∙ ap Err p.2) refl c.in_err-dones.ensures.disk

pub returns-in_err-dones-clause-later : goal.returns-in_err-dones-clause-later
returns-in_err-dones-clause-later g c =
    later_then (around g.N.Net g.P.Power c.args.net.now c.args.power.now) (around g.N.Net g.P.Power c.remind.new.net c.args.power.now) (around g.N.Net g.P.Power c.try_epoch.new.net c.try_epoch.new.power) (later_used (around g.N.Net g.P.Power c.args.net.now c.args.power.now) (around g.N.Net g.P.Power c.remind.new.net c.args.power.now) c.remind.ensures.letters.sends c.remind.ensures.letters.gives (omega arith)) c.try_epoch.ensures.rest.later

pub returns-in_err-dones-clause-world : goal.returns-in_err-dones-clause-world
returns-in_err-dones-clause-world g c =
    let p = err_from_is_err_and c.from_residual-in_err-dones.result c.from_residual-in_err-dones.ensures.1 in
    part_ends Tried (Option (Vec Request)) ((commits : List ℕ) × HaveCommitted c.from_residual-in_err-dones.result c.try_epoch.new.self.next_epoch commits × StepsTo (g.P.Power.stopped c.args.power.now) (g.P.Power.stopped c.try_epoch.new.power) c.args.self.now.next_epoch c.try_epoch.new.self.next_epoch commits (scene_of c.args.self.now.members (g.N.Net.sent c.args.net.now)) (scene_of c.try_epoch.new.self.members (g.N.Net.sent c.try_epoch.new.net))) c.from_residual-in_err-dones.result c.in_err-dones.field-0.0 (g.H.Host.disk_faults c.args.host.now) (g.H.Host.disk_faults c.try_epoch.new.host) (p.1 ∙ ap Err p.2) c.in_err-dones.ensures.disk

pub returns-in_err-dones-clause-entries : goal.returns-in_err-dones-clause-entries
returns-in_err-dones-clause-entries g c d e on stands room behind =
    let p = err_from_is_err_and c.from_residual-in_err-dones.result c.from_residual-in_err-dones.ensures.1 in
    part_ends Tried (Option (Vec Request)) ((commits : List ℕ) × HaveCommitted c.from_residual-in_err-dones.result c.try_epoch.new.self.next_epoch commits × StepsOn d e (g.P.Power.stopped c.args.power.now) (g.P.Power.stopped c.try_epoch.new.power) c.args.self.now.next_epoch c.try_epoch.new.self.next_epoch commits (scene_of c.args.self.now.members (g.N.Net.sent c.args.net.now)) (scene_of c.try_epoch.new.self.members (g.N.Net.sent c.try_epoch.new.net))) c.from_residual-in_err-dones.result c.in_err-dones.field-0.0 (g.H.Host.disk_faults c.args.host.now) (g.H.Host.disk_faults c.try_epoch.new.host) (p.1 ∙ ap Err p.2) c.in_err-dones.ensures.disk

pub returns-in_err-dones-clause-begins : goal.returns-in_err-dones-clause-begins
returns-in_err-dones-clause-begins g c = one_begun (g.P.Power.begun c.args.power.now) (g.P.Power.begun c.try_epoch.new.power) c.try_epoch.ensures.begun

pub returns-in_err-dones-clause-refused : goal.returns-in_err-dones-clause-refused
returns-in_err-dones-clause-refused g c file at is =
    let p = err_from_is_err_and c.from_residual-in_err-dones.result c.from_residual-in_err-dones.ensures.1 in
    let named : c.in_err-dones.field-0.0 ≡ NotAStore file at = cc (p.1, p.2, is) in absurd (subst (λ (f : Stop). CountsPart {T = Unit {0}} (Err f) (g.H.Host.disk_faults c.args.host.now) (g.H.Host.disk_faults c.try_epoch.new.host)) named c.in_err-dones.ensures.disk)

-- ---- all voted: the epoch is committed

pub commit_epoch-requires : goal.commit_epoch-requires
commit_epoch-requires g c =
    let k : Cluster = c.args.self.now in
    let now : Cluster = reminded k c.remind.new.members in
    let told = c.in_ok-remind.ensures in
    let sound : IsSound now (g.N.Net.sent c.remind.new.net) = sound_reminded k c.remind.new.members c.remind.ensures.stays told.finish.layout told.committed (g.N.Net.sent c.args.net.now) (g.N.Net.sent c.remind.new.net) (told.rest k.next_epoch c.requires.sound.rests.rest) c.requires.sound in
    let map = c.requires.sound.rests.rest.map in
    let stays : StaysInPlace now c.try_epoch.new.self = c.in_ok-dones.ensures.tried.stays in
    let voted : HasVoted c.args.requests.items c.args.workers c.args.attempts map.0 c.in-Voted.dones (traced c.in-Voted.trace) (g.N.Net.sent c.try_epoch.new.net) now c.try_epoch.new.self =
    subst (λ (tried : Tried). ComesOf tried c.args.requests.items c.args.workers c.args.attempts map.0 (g.N.Net.sent c.try_epoch.new.net) now c.try_epoch.new.self) c.in-Voted.is (c.in_ok-dones.ensures.tried.comes map.0 (told.shards map.0 map.1)) in
    let may_run = may_reminded k c.remind.new.members c.args.requests.items c.requires.may in
    let chief : Stands c.remind.new.members.log (g.H.Host.reads c.try_epoch.new.host) (g.H.Host.may_leave c.try_epoch.new.host) =
    c.try_epoch.ensures.rest.others c.remind.new.members.log (chief_elsewhere c.remind.new.members sound.rests.rest.are) (stand_reminded k c.remind.new.members c.remind.ensures.stays (g.H.Host.reads c.args.host.now) (g.H.Host.may_leave c.args.host.now) c.requires.stand).chief in
    record {
      below = subst (λ n. n < epochs_end) (sym stays.next) c.requires.below;
      voted = (rows_after now.procs map.0 c.in-Voted.dones, subst (λ n. HaveVoted n (rows_after now.procs map.0 c.in-Voted.dones) (g.N.Net.sent c.try_epoch.new.net) c.try_epoch.new.self.members) (sym stays.next) voted.voted);
      unspent = ap (λ (l : LogState). l.spent) (stays.members.log ∙ c.remind.ensures.stays.log) ∙ c.requires.sound.rests.unspent;
      stands = subst (λ (l : LogState). Stands l (g.H.Host.reads c.try_epoch.new.host) (g.H.Host.may_leave c.try_epoch.new.host)) (sym stays.members.log) chief;
      follow = may_be_kept c.args.requests.items now c.try_epoch.new.self c.in-Voted.dones (g.N.Net.sent c.remind.new.net) sound.rests may_run stays voted.each;
      room = voted.room;
      count = are_few c.args.requests.items now c.try_epoch.new.self c.in-Voted.dones (g.N.Net.sent c.remind.new.net) sound.rests may_run stays voted.each;
      epochs = are_of_epoch c.args.requests.items now c.try_epoch.new.self c.in-Voted.dones (g.N.Net.sent c.remind.new.net) sound.rests may_run stays voted.each;
    }

pub returns-in_err-commit_epoch-in-Voted-clause-files : goal.returns-in_err-commit_epoch-in-Voted-clause-files
returns-in_err-commit_epoch-in-Voted-clause-files g c d on stands room =
    let k : Cluster = c.args.self.now in
    let now : Cluster = reminded k c.remind.new.members in
    let told = c.in_ok-remind.ensures in
    let at = stands_reminded k c.remind.new.members c.remind.ensures.stays told.finish.layout told.committed d (c.remind.ensures.map (map_in d)) stands in
    let files = c.in_ok-dones.ensures.files d on at room in
    let may : MayCommitOn d c.args.requests.items c.args.workers c.args.attempts k.next_epoch c.in-Voted.dones (traced c.in-Voted.trace) c.try_epoch.new.self.members.tables (g.H.Host.reads c.try_epoch.new.host) (g.H.Host.may_leave c.try_epoch.new.host) =
    subst (λ (tried : Tried). ComesOn tried d c.args.requests.items c.args.workers c.args.attempts k.next_epoch c.try_epoch.new.self.members.tables (g.H.Host.reads c.try_epoch.new.host) (g.H.Host.may_leave c.try_epoch.new.host)) c.in-Voted.is files.1 in
    let stays : StaysInPlace now c.try_epoch.new.self = c.in_ok-dones.ensures.tried.stays in
    let commits : Commits {T = Unit {0}} {E = Stop} g.H.Host (Err c.in_err-commit_epoch-in-Voted.field-0.0) may.d (commit_of k.next_epoch c.in-Voted.dones) c.try_epoch.new.host c.commit_epoch.new.host =
    commits_so g.H.Host (Err c.in_err-commit_epoch-in-Voted.field-0.0) c.args.requests.items c.args.workers c.args.attempts d now c.try_epoch.new.self c.in-Voted.dones (traced c.in-Voted.trace) c.try_epoch.new.self.members.tables c.try_epoch.new.host c.commit_epoch.new.host stays may at.belongs c.in_err-commit_epoch-in-Voted.ensures.files in
    let p = err_from_is_err_and c.from_residual-in_err-commit_epoch-in-Voted.result c.from_residual-in_err-commit_epoch-in-Voted.ensures.1 in
    inr (commit_failed g.H.Host d c.args.requests.items c.args.workers c.args.attempts k.next_epoch c.in-Voted.dones (traced c.in-Voted.trace) c.try_epoch.new.self.members.tables c.args.host.now c.try_epoch.new.host files.0 may (Err c.in_err-commit_epoch-in-Voted.field-0.0) c.commit_epoch.new.host commits
    c.from_residual-in_err-commit_epoch-in-Voted.result p.0 k c.commit_epoch.new.self p.1 refl)

pub returns-in_err-commit_epoch-in-Voted-clause-never : goal.returns-in_err-commit_epoch-in-Voted-clause-never
returns-in_err-commit_epoch-in-Voted-clause-never g c file at d on stands room is =
    let p = err_from_is_err_and c.from_residual-in_err-commit_epoch-in-Voted.result c.from_residual-in_err-commit_epoch-in-Voted.ensures.1 in
    let named : c.in_err-commit_epoch-in-Voted.field-0.0 ≡ NotAStore file at = cc (p.1, p.2, is) in subst (λ (f : Stop). CountsPart {T = Unit {0}} (Err f) (g.H.Host.disk_faults c.try_epoch.new.host) (g.H.Host.disk_faults c.commit_epoch.new.host)) named c.in_err-commit_epoch-in-Voted.ensures.disk

pub returns-in_err-commit_epoch-in-Voted-clause-disk : goal.returns-in_err-commit_epoch-in-Voted-clause-disk
returns-in_err-commit_epoch-in-Voted-clause-disk g c =
    let p = err_from_is_err_and c.from_residual-in_err-commit_epoch-in-Voted.result c.from_residual-in_err-commit_epoch-in-Voted.ensures.1 in
    counts_wider c.from_residual-in_err-commit_epoch-in-Voted.result c.in_err-commit_epoch-in-Voted.field-0.0 (g.H.Host.disk_faults c.args.host.now) (g.H.Host.disk_faults c.try_epoch.new.host) (g.H.Host.disk_faults c.commit_epoch.new.host) (p.1 ∙ ap Err p.2) c.in_ok-dones.ensures.disk c.in_err-commit_epoch-in-Voted.ensures.disk

pub returns-in_err-commit_epoch-in-Voted-clause-later : goal.returns-in_err-commit_epoch-in-Voted-clause-later
returns-in_err-commit_epoch-in-Voted-clause-later g c =
    later_then (around g.N.Net g.P.Power c.args.net.now c.args.power.now) (around g.N.Net g.P.Power c.try_epoch.new.net c.try_epoch.new.power) (around g.N.Net g.P.Power c.commit_epoch.new.net c.commit_epoch.new.power) (later_then (around g.N.Net g.P.Power c.args.net.now c.args.power.now) (around g.N.Net g.P.Power c.remind.new.net c.args.power.now) (around g.N.Net g.P.Power c.try_epoch.new.net c.try_epoch.new.power) (later_used (around g.N.Net g.P.Power c.args.net.now c.args.power.now) (around g.N.Net g.P.Power c.remind.new.net c.args.power.now) c.remind.ensures.letters.sends c.remind.ensures.letters.gives (omega arith)) c.try_epoch.ensures.rest.later) c.commit_epoch.ensures.later

pub returns-in_err-commit_epoch-in-Voted-clause-procs : goal.returns-in_err-commit_epoch-in-Voted-clause-procs
returns-in_err-commit_epoch-in-Voted-clause-procs g c = c.commit_epoch.ensures.procs ∙ c.try_epoch.ensures.rest.procs

pub returns-in_err-commit_epoch-in-Voted-clause-trace : goal.returns-in_err-commit_epoch-in-Voted-clause-trace
returns-in_err-commit_epoch-in-Voted-clause-trace g c =
    let p = err_from_is_err_and c.from_residual-in_err-commit_epoch-in-Voted.result c.from_residual-in_err-commit_epoch-in-Voted.ensures.1 in
    subst (λ (r : Result (Option (Vec Request)) Stop). OnErr r (c.args.self.now.trace ≡ None → c.commit_epoch.new.self.trace ≡ None)) (sym p.1) (λ was. c.in_err-commit_epoch-in-Voted.ensures.trace ∙ c.try_epoch.ensures.rest.trace ∙ was)

pub returns-in_err-commit_epoch-in-Voted-clause-world : goal.returns-in_err-commit_epoch-in-Voted-clause-world
returns-in_err-commit_epoch-in-Voted-clause-world g c =
    let p = err_from_is_err_and c.from_residual-in_err-commit_epoch-in-Voted.result c.from_residual-in_err-commit_epoch-in-Voted.ensures.1 in
    part_ends (Unit {0}) (Option (Vec Request)) ((commits : List ℕ) × HaveCommitted c.from_residual-in_err-commit_epoch-in-Voted.result c.commit_epoch.new.self.next_epoch commits × StepsTo (g.P.Power.stopped c.args.power.now) (g.P.Power.stopped c.commit_epoch.new.power) c.args.self.now.next_epoch c.commit_epoch.new.self.next_epoch commits (scene_of c.args.self.now.members (g.N.Net.sent c.args.net.now)) (scene_of c.commit_epoch.new.self.members (g.N.Net.sent c.commit_epoch.new.net))) c.from_residual-in_err-commit_epoch-in-Voted.result c.in_err-commit_epoch-in-Voted.field-0.0 (g.H.Host.disk_faults c.try_epoch.new.host) (g.H.Host.disk_faults c.commit_epoch.new.host) (p.1 ∙ ap Err p.2) c.in_err-commit_epoch-in-Voted.ensures.disk

pub returns-in_err-commit_epoch-in-Voted-clause-entries : goal.returns-in_err-commit_epoch-in-Voted-clause-entries
returns-in_err-commit_epoch-in-Voted-clause-entries g c d e on stands room behind =
    let p = err_from_is_err_and c.from_residual-in_err-commit_epoch-in-Voted.result c.from_residual-in_err-commit_epoch-in-Voted.ensures.1 in
    part_ends (Unit {0}) (Option (Vec Request)) ((commits : List ℕ) × HaveCommitted c.from_residual-in_err-commit_epoch-in-Voted.result c.commit_epoch.new.self.next_epoch commits × StepsOn d e (g.P.Power.stopped c.args.power.now) (g.P.Power.stopped c.commit_epoch.new.power) c.args.self.now.next_epoch c.commit_epoch.new.self.next_epoch commits (scene_of c.args.self.now.members (g.N.Net.sent c.args.net.now)) (scene_of c.commit_epoch.new.self.members (g.N.Net.sent c.commit_epoch.new.net))) c.from_residual-in_err-commit_epoch-in-Voted.result c.in_err-commit_epoch-in-Voted.field-0.0 (g.H.Host.disk_faults c.try_epoch.new.host) (g.H.Host.disk_faults c.commit_epoch.new.host) (p.1 ∙ ap Err p.2) c.in_err-commit_epoch-in-Voted.ensures.disk

pub returns-in_err-commit_epoch-in-Voted-clause-begins : goal.returns-in_err-commit_epoch-in-Voted-clause-begins
returns-in_err-commit_epoch-in-Voted-clause-begins g c = one_begun (g.P.Power.begun c.args.power.now) (g.P.Power.begun c.commit_epoch.new.power) (c.commit_epoch.ensures.power.begun_stays ∙ c.try_epoch.ensures.begun)

pub returns-in_err-commit_epoch-in-Voted-clause-refused : goal.returns-in_err-commit_epoch-in-Voted-clause-refused
returns-in_err-commit_epoch-in-Voted-clause-refused g c file at is =
    let p = err_from_is_err_and c.from_residual-in_err-commit_epoch-in-Voted.result c.from_residual-in_err-commit_epoch-in-Voted.ensures.1 in
    let named : c.in_err-commit_epoch-in-Voted.field-0.0 ≡ NotAStore file at = cc (p.1, p.2, is) in absurd (subst (λ (f : Stop). CountsPart {T = Unit {0}} (Err f) (g.H.Host.disk_faults c.try_epoch.new.host) (g.H.Host.disk_faults c.commit_epoch.new.host)) named c.in_err-commit_epoch-in-Voted.ensures.disk)

pub read_stopped-requires : goal.read_stopped-requires
read_stopped-requires g c =
    let k : Cluster = c.args.self.now in
    let now : Cluster = reminded k c.remind.new.members in
    let told = c.in_ok-remind.ensures in
    let sound : IsSound now (g.N.Net.sent c.remind.new.net) = sound_reminded k c.remind.new.members c.remind.ensures.stays told.finish.layout told.committed (g.N.Net.sent c.args.net.now) (g.N.Net.sent c.remind.new.net) (told.rest k.next_epoch c.requires.sound.rests.rest) c.requires.sound in
    let map = c.requires.sound.rests.rest.map in
    let stays : StaysInPlace now c.try_epoch.new.self = c.in_ok-dones.ensures.tried.stays in
    let voted : HasVoted c.args.requests.items c.args.workers c.args.attempts map.0 c.in-Voted.dones (traced c.in-Voted.trace) (g.N.Net.sent c.try_epoch.new.net) now c.try_epoch.new.self =
    subst (λ (tried : Tried). ComesOf tried c.args.requests.items c.args.workers c.args.attempts map.0 (g.N.Net.sent c.try_epoch.new.net) now c.try_epoch.new.self) c.in-Voted.is (c.in_ok-dones.ensures.tried.comes map.0 (told.shards map.0 map.1)) in
    let may_run = may_reminded k c.remind.new.members c.args.requests.items c.requires.may in
    let ended : HasEnded c.in-Voted.dones (traced c.in-Voted.trace) c.try_epoch.new.self c.commit_epoch.new.self = c.in_ok-commit_epoch-in-Voted.ensures.ended in
    let rests : Rests c.commit_epoch.new.self (g.N.Net.sent c.commit_epoch.new.net) = rests_ended c.args.requests.items now c.try_epoch.new.self c.commit_epoch.new.self c.in-Voted.dones (traced c.in-Voted.trace) (g.N.Net.sent c.remind.new.net) (g.N.Net.sent c.commit_epoch.new.net) sound.rests may_run c.requires.below stays voted.each ended c.in_ok-commit_epoch-in-Voted.ensures.kept c.in_ok-commit_epoch-in-Voted.ensures.rest in
    record { are = c.in_ok-commit_epoch-in-Voted.ensures.rest.are; stops = rests.stops }

pub returns-in_err-read_stopped-in-Voted-clause-files : goal.returns-in_err-read_stopped-in-Voted-clause-files
returns-in_err-read_stopped-in-Voted-clause-files g c d on stands room =
    let k : Cluster = c.args.self.now in
    let now : Cluster = reminded k c.remind.new.members in
    let told = c.in_ok-remind.ensures in
    let at = stands_reminded k c.remind.new.members c.remind.ensures.stays told.finish.layout told.committed d (c.remind.ensures.map (map_in d)) stands in
    let files = c.in_ok-dones.ensures.files d on at room in
    let may : MayCommitOn d c.args.requests.items c.args.workers c.args.attempts k.next_epoch c.in-Voted.dones (traced c.in-Voted.trace) c.try_epoch.new.self.members.tables (g.H.Host.reads c.try_epoch.new.host) (g.H.Host.may_leave c.try_epoch.new.host) =
    subst (λ (tried : Tried). ComesOn tried d c.args.requests.items c.args.workers c.args.attempts k.next_epoch c.try_epoch.new.self.members.tables (g.H.Host.reads c.try_epoch.new.host) (g.H.Host.may_leave c.try_epoch.new.host)) c.in-Voted.is files.1 in
    let stays : StaysInPlace now c.try_epoch.new.self = c.in_ok-dones.ensures.tried.stays in
    let commits : Commits {T = Unit {0}} {E = Stop} g.H.Host (Ok tt) may.d (commit_of k.next_epoch c.in-Voted.dones) c.try_epoch.new.host c.commit_epoch.new.host =
    commits_so g.H.Host (Ok tt) c.args.requests.items c.args.workers c.args.attempts d now c.try_epoch.new.self c.in-Voted.dones (traced c.in-Voted.trace) c.try_epoch.new.self.members.tables c.try_epoch.new.host c.commit_epoch.new.host stays may at.belongs c.in_ok-commit_epoch-in-Voted.ensures.files in
    let p = err_from_is_err_and c.from_residual-in_err-read_stopped-in-Voted.result c.from_residual-in_err-read_stopped-in-Voted.ensures.1 in
    inr (committed_then g.H.Host d c.args.requests.items c.args.workers c.args.attempts k.next_epoch c.in-Voted.dones (traced c.in-Voted.trace) c.try_epoch.new.self.members.tables c.args.host.now c.try_epoch.new.host files.0 may (Ok tt) c.commit_epoch.new.host commits commits.ok c.commit_epoch.ensures.said c.read_stopped.new.host c.read_stopped.ensures.read c.from_residual-in_err-read_stopped-in-Voted.result k c.read_stopped.new.self refl
    (λ x is. failed_none c.from_residual-in_err-read_stopped-in-Voted.result p.0 p.1 x is))

pub returns-in_err-read_stopped-in-Voted-clause-never : goal.returns-in_err-read_stopped-in-Voted-clause-never
returns-in_err-read_stopped-in-Voted-clause-never g c file place d on stands room is =
    let k : Cluster = c.args.self.now in
    let now : Cluster = reminded k c.remind.new.members in
    let told = c.in_ok-remind.ensures in
    let sound : IsSound now (g.N.Net.sent c.remind.new.net) = sound_reminded k c.remind.new.members c.remind.ensures.stays told.finish.layout told.committed (g.N.Net.sent c.args.net.now) (g.N.Net.sent c.remind.new.net) (told.rest k.next_epoch c.requires.sound.rests.rest) c.requires.sound in
    let map = c.requires.sound.rests.rest.map in
    let stays : StaysInPlace now c.try_epoch.new.self = c.in_ok-dones.ensures.tried.stays in
    let voted : HasVoted c.args.requests.items c.args.workers c.args.attempts map.0 c.in-Voted.dones (traced c.in-Voted.trace) (g.N.Net.sent c.try_epoch.new.net) now c.try_epoch.new.self =
    subst (λ (tried : Tried). ComesOf tried c.args.requests.items c.args.workers c.args.attempts map.0 (g.N.Net.sent c.try_epoch.new.net) now c.try_epoch.new.self) c.in-Voted.is (c.in_ok-dones.ensures.tried.comes map.0 (told.shards map.0 map.1)) in
    let may_run = may_reminded k c.remind.new.members c.args.requests.items c.requires.may in
    let ended : HasEnded c.in-Voted.dones (traced c.in-Voted.trace) c.try_epoch.new.self c.commit_epoch.new.self = c.in_ok-commit_epoch-in-Voted.ensures.ended in
    let at = stands_reminded k c.remind.new.members c.remind.ensures.stays told.finish.layout told.committed d (c.remind.ensures.map (map_in d)) stands in
    let files = c.in_ok-dones.ensures.files d on at room in
    let may : MayCommitOn d c.args.requests.items c.args.workers c.args.attempts k.next_epoch c.in-Voted.dones (traced c.in-Voted.trace) c.try_epoch.new.self.members.tables (g.H.Host.reads c.try_epoch.new.host) (g.H.Host.may_leave c.try_epoch.new.host) =
    subst (λ (tried : Tried). ComesOn tried d c.args.requests.items c.args.workers c.args.attempts k.next_epoch c.try_epoch.new.self.members.tables (g.H.Host.reads c.try_epoch.new.host) (g.H.Host.may_leave c.try_epoch.new.host)) c.in-Voted.is files.1 in
    let commits : Commits {T = Unit {0}} {E = Stop} g.H.Host (Ok tt) may.d (commit_of k.next_epoch c.in-Voted.dones) c.try_epoch.new.host c.commit_epoch.new.host =
    commits_so g.H.Host (Ok tt) c.args.requests.items c.args.workers c.args.attempts d now c.try_epoch.new.self c.in-Voted.dones (traced c.in-Voted.trace) c.try_epoch.new.self.members.tables c.try_epoch.new.host c.commit_epoch.new.host stays may at.belongs c.in_ok-commit_epoch-in-Voted.ensures.files in
    let p = err_from_is_err_and c.from_residual-in_err-read_stopped-in-Voted.result c.from_residual-in_err-read_stopped-in-Voted.ensures.1 in
    let named : c.in_err-read_stopped-in-Voted.field-0.0 ≡ NotAStore file place = cc (p.1, p.2, is) in
    c.in_err-read_stopped-in-Voted.ensures.never file place _ commits.ok (stands_ended c.args.requests.items now c.try_epoch.new.self c.commit_epoch.new.self c.in-Voted.dones (traced c.in-Voted.trace) (g.N.Net.sent c.remind.new.net) (g.N.Net.sent c.commit_epoch.new.net) sound.rests may_run c.requires.below stays voted.each ended c.in_ok-commit_epoch-in-Voted.ensures.kept d may.d at may.only may.below (c.in_ok-commit_epoch-in-Voted.ensures.map _ may.gives)) (ap Err named)

pub returns-in_err-read_stopped-in-Voted-clause-disk : goal.returns-in_err-read_stopped-in-Voted-clause-disk
returns-in_err-read_stopped-in-Voted-clause-disk g c =
    let p = err_from_is_err_and c.from_residual-in_err-read_stopped-in-Voted.result c.from_residual-in_err-read_stopped-in-Voted.ensures.1 in
    counts_later c.from_residual-in_err-read_stopped-in-Voted.result c.in_err-read_stopped-in-Voted.field-0.0 (g.H.Host.disk_faults c.args.host.now) (g.H.Host.disk_faults c.commit_epoch.new.host) (g.H.Host.disk_faults c.read_stopped.new.host) (p.1 ∙ ap Err p.2) (c.in_ok-commit_epoch-in-Voted.ensures.disk ∙ c.in_ok-dones.ensures.disk) c.in_err-read_stopped-in-Voted.ensures.disk

pub returns-in_err-read_stopped-in-Voted-clause-later : goal.returns-in_err-read_stopped-in-Voted-clause-later
returns-in_err-read_stopped-in-Voted-clause-later g c =
    later_then (around g.N.Net g.P.Power c.args.net.now c.args.power.now) (around g.N.Net g.P.Power c.try_epoch.new.net c.try_epoch.new.power) (around g.N.Net g.P.Power c.commit_epoch.new.net c.commit_epoch.new.power) (later_then (around g.N.Net g.P.Power c.args.net.now c.args.power.now) (around g.N.Net g.P.Power c.remind.new.net c.args.power.now) (around g.N.Net g.P.Power c.try_epoch.new.net c.try_epoch.new.power) (later_used (around g.N.Net g.P.Power c.args.net.now c.args.power.now) (around g.N.Net g.P.Power c.remind.new.net c.args.power.now) c.remind.ensures.letters.sends c.remind.ensures.letters.gives (omega arith)) c.try_epoch.ensures.rest.later) c.commit_epoch.ensures.later

pub returns-in_err-read_stopped-in-Voted-clause-trace : goal.returns-in_err-read_stopped-in-Voted-clause-trace
returns-in_err-read_stopped-in-Voted-clause-trace g c =
    let p = err_from_is_err_and c.from_residual-in_err-read_stopped-in-Voted.result c.from_residual-in_err-read_stopped-in-Voted.ensures.1 in
    subst (λ (r : Result (Option (Vec Request)) Stop). OnErr r (c.args.self.now.trace ≡ None → c.read_stopped.new.self.trace ≡ None)) (sym p.1) (λ was. c.in_err-read_stopped-in-Voted.ensures.untraced)

pub returns-in_err-read_stopped-in-Voted-clause-world : goal.returns-in_err-read_stopped-in-Voted-clause-world
returns-in_err-read_stopped-in-Voted-clause-world g c =
    let k : Cluster = c.args.self.now in
    let told = c.in_ok-remind.ensures in
    let rest : AreAtRest k.next_epoch (g.N.Net.sent c.remind.new.net) c.remind.new.members = told.rest k.next_epoch c.requires.sound.rests.rest in
    let i = g.P.Power.stopped c.args.power.now in
    let first : StepsTo i i k.next_epoch k.next_epoch [] (scene_of k.members (g.N.Net.sent c.args.net.now)) (scene_of c.remind.new.members (g.N.Net.sent c.remind.new.net)) =
    reminded_steps i k.next_epoch k.members c.remind.new.members (g.N.Net.sent c.args.net.now) (g.N.Net.sent c.remind.new.net) (same_nodes k.members c.remind.new.members c.requires.sound.rests.rest.are rest.are told.finish.layout) told.world in
    let now : Cluster = reminded k c.remind.new.members in
    let stays : StaysInPlace now c.try_epoch.new.self = c.in_ok-dones.ensures.tried.stays in
    let map = c.requires.sound.rests.rest.map in
    let voted : HasVoted c.args.requests.items c.args.workers c.args.attempts map.0 c.in-Voted.dones (traced c.in-Voted.trace) (g.N.Net.sent c.try_epoch.new.net) now c.try_epoch.new.self = subst (λ (tried : Tried). ComesOf tried c.args.requests.items c.args.workers c.args.attempts map.0 (g.N.Net.sent c.try_epoch.new.net) now c.try_epoch.new.self) c.in-Voted.is (c.in_ok-dones.ensures.tried.comes map.0 (told.shards map.0 map.1)) in
    let ended : HasEnded c.in-Voted.dones (traced c.in-Voted.trace) c.try_epoch.new.self c.commit_epoch.new.self = c.in_ok-commit_epoch-in-Voted.ensures.ended in
    let number : c.read_stopped.new.self.next_epoch ≡ k.next_epoch + 1 = c.read_stopped.ensures.next ∙ ended.next ∙ ap (λ n. n + 1) stays.next in
    let steps = committed_steps i (g.P.Power.stopped c.try_epoch.new.power) (g.P.Power.stopped c.commit_epoch.new.power) c.try_epoch.new.self.next_epoch k.next_epoch k.members c.remind.new.members c.try_epoch.new.self.members c.commit_epoch.new.self.members c.read_stopped.new.self.members (g.N.Net.sent c.args.net.now) (g.N.Net.sent c.remind.new.net) (g.N.Net.sent c.try_epoch.new.net) (g.N.Net.sent c.commit_epoch.new.net)
    stays.next first c.in_ok-dones.ensures.tried.steps (same_nodes c.try_epoch.new.self.members c.commit_epoch.new.self.members voted.voted.are c.in_ok-commit_epoch-in-Voted.ensures.rest.are ended.layout) c.in_ok-commit_epoch-in-Voted.ensures.world c.read_stopped.ensures.cores c.read_stopped.ensures.chief in
    let p = err_from_is_err_and c.from_residual-in_err-read_stopped-in-Voted.result c.from_residual-in_err-read_stopped-in-Voted.ensures.1 in
    on_end ((commits : List ℕ) × HaveCommitted c.from_residual-in_err-read_stopped-in-Voted.result c.read_stopped.new.self.next_epoch commits × StepsTo (g.P.Power.stopped c.args.power.now) (g.P.Power.stopped c.commit_epoch.new.power) c.args.self.now.next_epoch c.read_stopped.new.self.next_epoch commits (scene_of c.args.self.now.members (g.N.Net.sent c.args.net.now)) (scene_of c.read_stopped.new.self.members (g.N.Net.sent c.commit_epoch.new.net))) c.from_residual-in_err-read_stopped-in-Voted.result
    (k.next_epoch ∷ [], subst (λ (r : Result (Option (Vec Request)) Stop). HaveCommitted r c.read_stopped.new.self.next_epoch (k.next_epoch ∷ [])) (sym p.1) (inr (k.next_epoch, number, refl)), steps_number _ _ _ _ _ _ _ _ (sym number) steps)

pub returns-in_err-read_stopped-in-Voted-clause-entries : goal.returns-in_err-read_stopped-in-Voted-clause-entries
returns-in_err-read_stopped-in-Voted-clause-entries g c d e on stands room behind =
    let p = err_from_is_err_and c.from_residual-in_err-read_stopped-in-Voted.result c.from_residual-in_err-read_stopped-in-Voted.ensures.1 in
    unrefused (Unit {0}) (Option (Vec Request)) ((commits : List ℕ) × HaveCommitted c.from_residual-in_err-read_stopped-in-Voted.result c.read_stopped.new.self.next_epoch commits × StepsOn d e (g.P.Power.stopped c.args.power.now) (g.P.Power.stopped c.commit_epoch.new.power) c.args.self.now.next_epoch c.read_stopped.new.self.next_epoch commits (scene_of c.args.self.now.members (g.N.Net.sent c.args.net.now)) (scene_of c.read_stopped.new.self.members (g.N.Net.sent c.commit_epoch.new.net))) c.from_residual-in_err-read_stopped-in-Voted.result c.in_err-read_stopped-in-Voted.field-0.0 (g.H.Host.disk_faults c.commit_epoch.new.host) (g.H.Host.disk_faults c.read_stopped.new.host) (p.1 ∙ ap Err p.2) c.in_err-read_stopped-in-Voted.ensures.disk
    (λ file place is. returns-in_err-read_stopped-in-Voted-clause-never g c file place d on stands room is)

pub returns-in_err-read_stopped-in-Voted-clause-begins : goal.returns-in_err-read_stopped-in-Voted-clause-begins
returns-in_err-read_stopped-in-Voted-clause-begins g c = one_begun (g.P.Power.begun c.args.power.now) (g.P.Power.begun c.commit_epoch.new.power) (c.commit_epoch.ensures.power.begun_stays ∙ c.try_epoch.ensures.begun)

pub returns-in_err-read_stopped-in-Voted-clause-refused : goal.returns-in_err-read_stopped-in-Voted-clause-refused
returns-in_err-read_stopped-in-Voted-clause-refused g c file at is =
    let k : Cluster = c.args.self.now in
    let told = c.in_ok-remind.ensures in
    let rest : AreAtRest k.next_epoch (g.N.Net.sent c.remind.new.net) c.remind.new.members = told.rest k.next_epoch c.requires.sound.rests.rest in
    let sound : IsSound (reminded k c.remind.new.members) (g.N.Net.sent c.remind.new.net) = sound_reminded k c.remind.new.members c.remind.ensures.stays told.finish.layout told.committed (g.N.Net.sent c.args.net.now) (g.N.Net.sent c.remind.new.net) rest c.requires.sound in
    lost_if_told (g.P.Power.stops_seen c.args.power.now) (g.P.Power.stops_seen c.commit_epoch.new.power) c.remind.new.members.voters.items c.commit_epoch.new.self.members.voters.items
    (lose_then (g.P.Power.stops_seen c.args.power.now) (g.P.Power.stops_seen c.try_epoch.new.power) (g.P.Power.stops_seen c.commit_epoch.new.power) c.remind.new.members.voters.items c.try_epoch.new.self.members.voters.items c.commit_epoch.new.self.members.voters.items c.in_ok-dones.ensures.tried.whole c.in_ok-commit_epoch-in-Voted.ensures.whole)
    sound.whole (λ none. true≢false (sym (subst IsOk c.in_err-read_stopped-in-Voted.was (c.read_stopped.ensures.none none))))

-- ---- and the nodes that stopped are read anew

pub returns-in_ok-read_stopped-in-Voted : goal.returns-in_ok-read_stopped-in-Voted
returns-in_ok-read_stopped-in-Voted g c =
    let k : Cluster = c.args.self.now in
    let now : Cluster = reminded k c.remind.new.members in
    let told = c.in_ok-remind.ensures in
    let sound : IsSound now (g.N.Net.sent c.remind.new.net) = sound_reminded k c.remind.new.members c.remind.ensures.stays told.finish.layout told.committed (g.N.Net.sent c.args.net.now) (g.N.Net.sent c.remind.new.net) (told.rest k.next_epoch c.requires.sound.rests.rest) c.requires.sound in
    let map = c.requires.sound.rests.rest.map in
    let stays : StaysInPlace now c.try_epoch.new.self = c.in_ok-dones.ensures.tried.stays in
    let voted : HasVoted c.args.requests.items c.args.workers c.args.attempts map.0 c.in-Voted.dones (traced c.in-Voted.trace) (g.N.Net.sent c.try_epoch.new.net) now c.try_epoch.new.self =
    subst (λ (tried : Tried). ComesOf tried c.args.requests.items c.args.workers c.args.attempts map.0 (g.N.Net.sent c.try_epoch.new.net) now c.try_epoch.new.self) c.in-Voted.is (c.in_ok-dones.ensures.tried.comes map.0 (told.shards map.0 map.1)) in
    let may_run = may_reminded k c.remind.new.members c.args.requests.items c.requires.may in
    let ended : HasEnded c.in-Voted.dones (traced c.in-Voted.trace) c.try_epoch.new.self c.commit_epoch.new.self = c.in_ok-commit_epoch-in-Voted.ensures.ended in
    let rests : Rests c.commit_epoch.new.self (g.N.Net.sent c.commit_epoch.new.net) = rests_ended c.args.requests.items now c.try_epoch.new.self c.commit_epoch.new.self c.in-Voted.dones (traced c.in-Voted.trace) (g.N.Net.sent c.remind.new.net) (g.N.Net.sent c.commit_epoch.new.net) sound.rests may_run c.requires.below stays voted.each ended c.in_ok-commit_epoch-in-Voted.ensures.kept c.in_ok-commit_epoch-in-Voted.ensures.rest in
    let i = g.P.Power.stopped c.args.power.now in
    let j = g.P.Power.stopped c.try_epoch.new.power in
    let l = g.P.Power.stopped c.commit_epoch.new.power in
    let x = scene_of k.members (g.N.Net.sent c.args.net.now) in
    let y = scene_of c.remind.new.members (g.N.Net.sent c.remind.new.net) in
    let z = scene_of c.read_stopped.new.self.members (g.N.Net.sent c.commit_epoch.new.net) in
    let nodes = same_nodes k.members c.remind.new.members c.requires.sound.rests.rest.are sound.rests.rest.are told.finish.layout in
    let ends = same_nodes c.try_epoch.new.self.members c.commit_epoch.new.self.members voted.voted.are c.in_ok-commit_epoch-in-Voted.ensures.rest.are ended.layout in
    let number : c.read_stopped.new.self.next_epoch ≡ k.next_epoch + 1 = c.read_stopped.ensures.next ∙ ended.next ∙ ap (λ n. n + 1) stays.next in
    let a : Around = around g.N.Net g.P.Power c.args.net.now c.args.power.now in
    let r : Around = around g.N.Net g.P.Power c.remind.new.net c.args.power.now in
    let t : Around = around g.N.Net g.P.Power c.try_epoch.new.net c.try_epoch.new.power in
    let b : Around = around g.N.Net g.P.Power c.commit_epoch.new.net c.commit_epoch.new.power in
    let heard : IsLater a r = later_used a r c.remind.ensures.letters.sends c.remind.ensures.letters.gives (omega arith) in
    let are = c.requires.sound.rests.rest.are in
    let layout_nodes : k.members.tables.layout.nodes ≡ length c.try_epoch.new.self.members.cores.items = sym (ap (λ (q : Layout). q.nodes) (stays.members.tables.layout ∙ told.finish.layout)) ∙ voted.voted.are.layout in
    let few : k.members.tables.layout.nodes ≤ 8 = (let most = are.few in omega (arith, most, are.layout)) in
    let for_all : IsVotedFor k.members.tables.layout k.next_epoch 1 5 r t = subst (λ (q : Layout). IsVotedFor q k.next_epoch 1 5 r t) told.finish.layout
    (subst (λ (tried : Tried). VotedForBy tried c.remind.new.members.tables.layout k.next_epoch 1 r t) c.in-Voted.is c.in_ok-dones.ensures.tried.voted) in
    let trace_so : (rows : Rows) → ComesOf c.in_ok-dones.field-0 c.args.requests.items c.args.workers c.args.attempts rows (g.N.Net.sent c.try_epoch.new.net) now c.try_epoch.new.self → HasVoted c.args.requests.items c.args.workers c.args.attempts rows c.in-Voted.dones (traced c.in-Voted.trace) (g.N.Net.sent c.try_epoch.new.net) now c.try_epoch.new.self
    = λ rows. subst (λ (tried : Tried). ComesOf tried c.args.requests.items c.args.workers c.args.attempts rows (g.N.Net.sent c.try_epoch.new.net) now c.try_epoch.new.self) c.in-Voted.is in
    record {
      sound = c.in_ok-read_stopped-in-Voted.ensures.rests (g.N.Net.sent c.commit_epoch.new.net) rests;
      attempts = committed_one c.args.requests.items now c.try_epoch.new.self c.commit_epoch.new.self c.in-Voted.dones (traced c.in-Voted.trace) (g.N.Net.sent c.remind.new.net) (g.N.Net.sent c.commit_epoch.new.net) sound.rests may_run c.requires.below stays voted.each ended c.in_ok-commit_epoch-in-Voted.ensures.kept
          k c.read_stopped.new.self c.args.workers c.args.attempts map.0 refl told.finish.layout map.1 c.in_ok-read_stopped-in-Voted.ensures.members (λ rows has. (trace_so rows (c.in_ok-dones.ensures.tried.comes rows (told.shards rows has))).traced);
      cause = tt;
      asks = record {
        begun = has_begun a.begun b.begun (c.commit_epoch.ensures.power.begun_stays ∙ c.try_epoch.ensures.begun);
        all = voted_whole k.members.tables.layout k.next_epoch a r t b few heard c.try_epoch.ensures.rest.later c.commit_epoch.ensures.later refl c.commit_epoch.ensures.early c.commit_epoch.ensures.power.asked_stays
            (λ n lt. c.in_ok-commit_epoch-in-Voted.ensures.asked n (omega (arith, lt, layout_nodes))) for_all;
      };
      world = (
        k.next_epoch ∷ [],
        (k.next_epoch, number, refl),
        steps_number i l k.next_epoch (k.next_epoch + 1) c.read_stopped.new.self.next_epoch (k.next_epoch ∷ []) x z (sym number)
            (committed_steps i j l c.try_epoch.new.self.next_epoch k.next_epoch k.members c.remind.new.members c.try_epoch.new.self.members c.commit_epoch.new.self.members c.read_stopped.new.self.members (g.N.Net.sent c.args.net.now) (g.N.Net.sent c.remind.new.net) (g.N.Net.sent c.try_epoch.new.net) (g.N.Net.sent c.commit_epoch.new.net)
            stays.next (reminded_steps i k.next_epoch k.members c.remind.new.members (g.N.Net.sent c.args.net.now) (g.N.Net.sent c.remind.new.net) nodes told.world) c.in_ok-dones.ensures.tried.steps ends c.in_ok-commit_epoch-in-Voted.ensures.world c.read_stopped.ensures.cores c.read_stopped.ensures.chief),
      );
      entries = λ d e on stands room behind.
          let at = stands_reminded k c.remind.new.members c.remind.ensures.stays told.finish.layout told.committed d (c.remind.ensures.map (map_in d)) stands in
          let files = c.in_ok-dones.ensures.files d on at room in
          let may : MayCommitOn d c.args.requests.items c.args.workers c.args.attempts k.next_epoch c.in-Voted.dones (traced c.in-Voted.trace) c.try_epoch.new.self.members.tables (g.H.Host.reads c.try_epoch.new.host) (g.H.Host.may_leave c.try_epoch.new.host) =
          subst (λ (tried : Tried). ComesOn tried d c.args.requests.items c.args.workers c.args.attempts k.next_epoch c.try_epoch.new.self.members.tables (g.H.Host.reads c.try_epoch.new.host) (g.H.Host.may_leave c.try_epoch.new.host)) c.in-Voted.is files.1 in
          let commits : Commits {T = Unit {0}} {E = Stop} g.H.Host (Ok tt) may.d (commit_of k.next_epoch c.in-Voted.dones) c.try_epoch.new.host c.commit_epoch.new.host =
          commits_so g.H.Host (Ok tt) c.args.requests.items c.args.workers c.args.attempts d now c.try_epoch.new.self c.in-Voted.dones (traced c.in-Voted.trace) c.try_epoch.new.self.members.tables c.try_epoch.new.host c.commit_epoch.new.host stays may at.belongs c.in_ok-commit_epoch-in-Voted.ensures.files in
          let end = with_commit (commit_of k.next_epoch c.in-Voted.dones) may.d in
          let steps : StepsOn d end i l k.next_epoch (k.next_epoch + 1) (k.next_epoch ∷ []) x z = committed_on d may.d c.in-Voted.dones i j l c.try_epoch.new.self.next_epoch k.next_epoch k.members c.remind.new.members c.try_epoch.new.self.members c.commit_epoch.new.self.members c.read_stopped.new.self.members (g.N.Net.sent c.args.net.now) (g.N.Net.sent c.remind.new.net) (g.N.Net.sent c.try_epoch.new.net) (g.N.Net.sent c.commit_epoch.new.net)
          stays.next (on_same d i i k.next_epoch x y nodes (told.world i)) (c.in_ok-dones.ensures.tried.entries d may.d on at room may.rests) ends c.in_ok-commit_epoch-in-Voted.ensures.world c.read_stopped.ensures.cores c.read_stopped.ensures.chief in (
            k.next_epoch ∷ [],
            (k.next_epoch, number, refl),
            on_number d e i l k.next_epoch (k.next_epoch + 1) c.read_stopped.new.self.next_epoch (k.next_epoch ∷ []) x z (sym number)
                (on_rests d end e i l k.next_epoch (k.next_epoch + 1) (k.next_epoch ∷ []) x z (g.H.Host.reads c.read_stopped.new.host) (g.H.Host.may_leave c.read_stopped.new.host)
                (rests_read g.H.Host end c.commit_epoch.new.host c.read_stopped.new.host c.read_stopped.ensures.read commits.ok) behind steps),
          );
      map = λ is. tt;
      procs = c.read_stopped.ensures.procs ∙ c.commit_epoch.ensures.procs ∙ c.try_epoch.ensures.rest.procs;
      trace = tt;
      files = λ d on stands room.
          let at = stands_reminded k c.remind.new.members c.remind.ensures.stays told.finish.layout told.committed d (c.remind.ensures.map (map_in d)) stands in
          let files = c.in_ok-dones.ensures.files d on at room in
          let may : MayCommitOn d c.args.requests.items c.args.workers c.args.attempts k.next_epoch c.in-Voted.dones (traced c.in-Voted.trace) c.try_epoch.new.self.members.tables (g.H.Host.reads c.try_epoch.new.host) (g.H.Host.may_leave c.try_epoch.new.host) =
          subst (λ (tried : Tried). ComesOn tried d c.args.requests.items c.args.workers c.args.attempts k.next_epoch c.try_epoch.new.self.members.tables (g.H.Host.reads c.try_epoch.new.host) (g.H.Host.may_leave c.try_epoch.new.host)) c.in-Voted.is files.1 in
          let commits : Commits {T = Unit {0}} {E = Stop} g.H.Host (Ok tt) may.d (commit_of k.next_epoch c.in-Voted.dones) c.try_epoch.new.host c.commit_epoch.new.host =
          commits_so g.H.Host (Ok tt) c.args.requests.items c.args.workers c.args.attempts d now c.try_epoch.new.self c.in-Voted.dones (traced c.in-Voted.trace) c.try_epoch.new.self.members.tables c.try_epoch.new.host c.commit_epoch.new.host stays may at.belongs c.in_ok-commit_epoch-in-Voted.ensures.files in
          inr (committed_then g.H.Host d c.args.requests.items c.args.workers c.args.attempts k.next_epoch c.in-Voted.dones (traced c.in-Voted.trace) c.try_epoch.new.self.members.tables c.args.host.now c.try_epoch.new.host files.0 may (Ok tt) c.commit_epoch.new.host commits commits.ok c.commit_epoch.ensures.said c.read_stopped.new.host c.read_stopped.ensures.read (Ok None) k c.read_stopped.new.self refl
          (λ answer is. (
            (let none : answer ≡ None = cc in none),
            c.in_ok-read_stopped-in-Voted.ensures.files _ commits.ok (stands_ended c.args.requests.items now c.try_epoch.new.self c.commit_epoch.new.self c.in-Voted.dones (traced c.in-Voted.trace) (g.N.Net.sent c.remind.new.net) (g.N.Net.sent c.commit_epoch.new.net) sound.rests may_run c.requires.below stays voted.each ended c.in_ok-commit_epoch-in-Voted.ensures.kept d may.d at may.only may.below (c.in_ok-commit_epoch-in-Voted.ensures.map _ may.gives)),
            ap (λ (q : Cluster). option_map traced q.trace) c.in_ok-read_stopped-in-Voted.ensures.members ∙ ended.trace_is,
            ap (λ (q : Cluster). q.next_epoch) c.in_ok-read_stopped-in-Voted.ensures.members ∙ ended.next ∙ ap (λ n. n + 1) stays.next,
          )));
      never = λ file at d on stands room is. absurd (cc (is));
      stand = c.in_ok-read_stopped-in-Voted.ensures.stand (c.in_ok-commit_epoch-in-Voted.ensures.stand c.in_ok-dones.ensures.tried.ready);
      said = c.read_stopped.ensures.read.quiet ∙ c.commit_epoch.ensures.said ∙ c.try_epoch.ensures.rest.said;
      disk = c.in_ok-read_stopped-in-Voted.ensures.disk ∙ c.in_ok-commit_epoch-in-Voted.ensures.disk ∙ c.in_ok-dones.ensures.disk;
      stream = c.read_stopped.ensures.read.stream ∙ c.commit_epoch.ensures.stream ∙ c.try_epoch.ensures.rest.stream;
      refused = λ file at is. absurd (cc (is));
      begins = one_begun a.begun b.begun (c.commit_epoch.ensures.power.begun_stays ∙ c.try_epoch.ensures.begun);
      seen = (let first = c.in_ok-dones.ensures.tried.whole.rises in let then = c.commit_epoch.ensures.seen in omega (arith, first, then));
      later = later_then a t b (later_then a r t heard c.try_epoch.ensures.rest.later) c.commit_epoch.ensures.later;
    }

-- ---- it was given up

pub forget_epoch-requires : goal.forget_epoch-requires
forget_epoch-requires g c =
    record { below = subst (λ n. n < epochs_end) (sym c.in_ok-dones.ensures.tried.stays.next) c.requires.below }

pub read_stopped-requires-in-GivenUp : goal.read_stopped-requires-in-GivenUp
read_stopped-requires-in-GivenUp g c =
    let k : Cluster = c.args.self.now in
    let now : Cluster = reminded k c.remind.new.members in
    let told = c.in_ok-remind.ensures in
    let sound : IsSound now (g.N.Net.sent c.remind.new.net) = sound_reminded k c.remind.new.members c.remind.ensures.stays told.finish.layout told.committed (g.N.Net.sent c.args.net.now) (g.N.Net.sent c.remind.new.net) (told.rest k.next_epoch c.requires.sound.rests.rest) c.requires.sound in
    let up : NoneBehind c.remind.new.members.tables = c.finished_nodes_are_not_behind.ensures.none k.next_epoch (g.N.Net.sent c.remind.new.net) c.remind.new.members sound.rests.rest (all_finished c.in_ok-remind.field-0 (chief_of c.remind.new.members.chief) _ c.if-not-branch.false told.all) in
    let map = c.requires.sound.rests.rest.map in
    let stays : StaysInPlace now c.try_epoch.new.self = c.in_ok-dones.ensures.tried.stays in
    let given : HasGivenUp c.args.requests.items c.in-GivenUp.requests.items map.0 (g.N.Net.sent c.try_epoch.new.net) now c.try_epoch.new.self =
    subst (λ (tried : Tried). ComesOf tried c.args.requests.items c.args.workers c.args.attempts map.0 (g.N.Net.sent c.try_epoch.new.net) now c.try_epoch.new.self) c.in-GivenUp.is (c.in_ok-dones.ensures.tried.comes map.0 (told.shards map.0 map.1)) in
    let gone : IsForgotten c.try_epoch.new.self c.forget_epoch.new.self = c.forget_epoch.ensures.forgotten in
    let rests : Rests c.forget_epoch.new.self (g.N.Net.sent c.try_epoch.new.net) = rests_gone now c.try_epoch.new.self c.forget_epoch.new.self stays gone up (g.N.Net.sent c.remind.new.net) (g.N.Net.sent c.try_epoch.new.net) c.args.requests.items c.in-GivenUp.requests.items map.0 sound c.requires.below given c.forget_epoch.ensures.rest in
    record { are = rests.rest.are; stops = rests.stops }

pub returns-in_err-read_stopped-in-GivenUp-clause-files : goal.returns-in_err-read_stopped-in-GivenUp-clause-files
returns-in_err-read_stopped-in-GivenUp-clause-files g c d on stands room =
    let k : Cluster = c.args.self.now in
    let now : Cluster = reminded k c.remind.new.members in
    let told = c.in_ok-remind.ensures in
    let stays : StaysInPlace now c.try_epoch.new.self = c.in_ok-dones.ensures.tried.stays in
    let at = stands_reminded k c.remind.new.members c.remind.ensures.stays told.finish.layout told.committed d (c.remind.ensures.map (map_in d)) stands in
    let files = c.in_ok-dones.ensures.files d on at room in
    let may : MayGoOn d k.next_epoch c.try_epoch.new.self.members.tables (g.H.Host.reads c.try_epoch.new.host) (g.H.Host.may_leave c.try_epoch.new.host) = subst (λ (tried : Tried). ComesOn tried d c.args.requests.items c.args.workers c.args.attempts k.next_epoch c.try_epoch.new.self.members.tables (g.H.Host.reads c.try_epoch.new.host) (g.H.Host.may_leave c.try_epoch.new.host)) c.in-GivenUp.is files.1 in
    let p = err_from_is_err_and c.from_residual-in_err-read_stopped-in-GivenUp.result c.from_residual-in_err-read_stopped-in-GivenUp.ensures.1 in
    inl (keeps_failed g.H.Host c.from_residual-in_err-read_stopped-in-GivenUp.result p.0 d k c.read_stopped-in-GivenUp.new.self c.args.host.now c.read_stopped-in-GivenUp.new.host p.1 (keeps_reading g.H.Host d may.rests.0 (k.next_epoch + 1) c.args.host.now c.try_epoch.new.host c.read_stopped-in-GivenUp.new.host may.rests.1 may.rests.2 may.rests.3 files.0 c.read_stopped-in-GivenUp.ensures.read))

pub returns-in_err-read_stopped-in-GivenUp-clause-never : goal.returns-in_err-read_stopped-in-GivenUp-clause-never
returns-in_err-read_stopped-in-GivenUp-clause-never g c file place d on stands room is =
    let k : Cluster = c.args.self.now in
    let now : Cluster = reminded k c.remind.new.members in
    let told = c.in_ok-remind.ensures in
    let rest : AreAtRest k.next_epoch (g.N.Net.sent c.remind.new.net) c.remind.new.members = told.rest k.next_epoch c.requires.sound.rests.rest in
    let up : NoneBehind c.remind.new.members.tables = c.finished_nodes_are_not_behind.ensures.none k.next_epoch (g.N.Net.sent c.remind.new.net) c.remind.new.members rest (all_finished c.in_ok-remind.field-0 (chief_of c.remind.new.members.chief) _ c.if-not-branch.false told.all) in
    let stays : StaysInPlace now c.try_epoch.new.self = c.in_ok-dones.ensures.tried.stays in
    let gone : IsForgotten c.try_epoch.new.self c.forget_epoch.new.self = c.forget_epoch.ensures.forgotten in
    let at = stands_reminded k c.remind.new.members c.remind.ensures.stays told.finish.layout told.committed d (c.remind.ensures.map (map_in d)) stands in
    let files = c.in_ok-dones.ensures.files d on at room in
    let may : MayGoOn d k.next_epoch c.try_epoch.new.self.members.tables (g.H.Host.reads c.try_epoch.new.host) (g.H.Host.may_leave c.try_epoch.new.host) = subst (λ (tried : Tried). ComesOn tried d c.args.requests.items c.args.workers c.args.attempts k.next_epoch c.try_epoch.new.self.members.tables (g.H.Host.reads c.try_epoch.new.host) (g.H.Host.may_leave c.try_epoch.new.host)) c.in-GivenUp.is files.1 in
    let p = err_from_is_err_and c.from_residual-in_err-read_stopped-in-GivenUp.result c.from_residual-in_err-read_stopped-in-GivenUp.ensures.1 in
    let named : c.in_err-read_stopped-in-GivenUp.field-0.0 ≡ NotAStore file place = cc (p.1, p.2, is) in c.in_err-read_stopped-in-GivenUp.ensures.never file place may.rests.0 may.rests.3 (stands_gone now c.try_epoch.new.self c.forget_epoch.new.self stays gone up d may.rests.0 may.rests.1 may.rests.2 may.keeps c.forget_epoch.ensures.map at) (ap Err named)

pub returns-in_err-read_stopped-in-GivenUp-clause-disk : goal.returns-in_err-read_stopped-in-GivenUp-clause-disk
returns-in_err-read_stopped-in-GivenUp-clause-disk g c =
    let p = err_from_is_err_and c.from_residual-in_err-read_stopped-in-GivenUp.result c.from_residual-in_err-read_stopped-in-GivenUp.ensures.1 in
    counts_later c.from_residual-in_err-read_stopped-in-GivenUp.result c.in_err-read_stopped-in-GivenUp.field-0.0 (g.H.Host.disk_faults c.args.host.now) (g.H.Host.disk_faults c.try_epoch.new.host) (g.H.Host.disk_faults c.read_stopped-in-GivenUp.new.host) (p.1 ∙ ap Err p.2) c.in_ok-dones.ensures.disk c.in_err-read_stopped-in-GivenUp.ensures.disk

pub returns-in_err-read_stopped-in-GivenUp-clause-later : goal.returns-in_err-read_stopped-in-GivenUp-clause-later
returns-in_err-read_stopped-in-GivenUp-clause-later g c =
    later_then (around g.N.Net g.P.Power c.args.net.now c.args.power.now) (around g.N.Net g.P.Power c.remind.new.net c.args.power.now) (around g.N.Net g.P.Power c.try_epoch.new.net c.try_epoch.new.power) (later_used (around g.N.Net g.P.Power c.args.net.now c.args.power.now) (around g.N.Net g.P.Power c.remind.new.net c.args.power.now) c.remind.ensures.letters.sends c.remind.ensures.letters.gives (omega arith)) c.try_epoch.ensures.rest.later

pub returns-in_err-read_stopped-in-GivenUp-clause-world : goal.returns-in_err-read_stopped-in-GivenUp-clause-world
returns-in_err-read_stopped-in-GivenUp-clause-world g c =
    let k : Cluster = c.args.self.now in
    let told = c.in_ok-remind.ensures in
    let rest : AreAtRest k.next_epoch (g.N.Net.sent c.remind.new.net) c.remind.new.members = told.rest k.next_epoch c.requires.sound.rests.rest in
    let i = g.P.Power.stopped c.args.power.now in
    let first : StepsTo i i k.next_epoch k.next_epoch [] (scene_of k.members (g.N.Net.sent c.args.net.now)) (scene_of c.remind.new.members (g.N.Net.sent c.remind.new.net)) =
    reminded_steps i k.next_epoch k.members c.remind.new.members (g.N.Net.sent c.args.net.now) (g.N.Net.sent c.remind.new.net) (same_nodes k.members c.remind.new.members c.requires.sound.rests.rest.are rest.are told.finish.layout) told.world in
    let up : NoneBehind c.remind.new.members.tables = c.finished_nodes_are_not_behind.ensures.none k.next_epoch (g.N.Net.sent c.remind.new.net) c.remind.new.members rest (all_finished c.in_ok-remind.field-0 (chief_of c.remind.new.members.chief) _ c.if-not-branch.false told.all) in
    let gone : IsForgotten c.try_epoch.new.self c.forget_epoch.new.self = c.forget_epoch.ensures.forgotten in
    let number : c.read_stopped-in-GivenUp.new.self.next_epoch ≡ k.next_epoch + 1 = c.read_stopped-in-GivenUp.ensures.next ∙ next_forgotten (reminded k c.remind.new.members) c.try_epoch.new.self c.forget_epoch.new.self c.in_ok-dones.ensures.tried.stays gone up in
    let steps = forgotten_steps i (g.P.Power.stopped c.try_epoch.new.power) k.next_epoch k.members c.remind.new.members c.try_epoch.new.self.members c.read_stopped-in-GivenUp.new.self.members (g.N.Net.sent c.args.net.now) (g.N.Net.sent c.remind.new.net) (g.N.Net.sent c.try_epoch.new.net)
    first c.in_ok-dones.ensures.tried.steps (c.read_stopped-in-GivenUp.ensures.cores ∙ ap (λ (x : Cluster). x.members.cores) gone.same) (c.read_stopped-in-GivenUp.ensures.chief ∙ ap (λ (x : Cluster). x.members.chief) gone.same) in
    let p = err_from_is_err_and c.from_residual-in_err-read_stopped-in-GivenUp.result c.from_residual-in_err-read_stopped-in-GivenUp.ensures.1 in
    on_end ((commits : List ℕ) × HaveCommitted c.from_residual-in_err-read_stopped-in-GivenUp.result c.read_stopped-in-GivenUp.new.self.next_epoch commits × StepsTo (g.P.Power.stopped c.args.power.now) (g.P.Power.stopped c.try_epoch.new.power) c.args.self.now.next_epoch c.read_stopped-in-GivenUp.new.self.next_epoch commits (scene_of c.args.self.now.members (g.N.Net.sent c.args.net.now)) (scene_of c.read_stopped-in-GivenUp.new.self.members (g.N.Net.sent c.try_epoch.new.net))) c.from_residual-in_err-read_stopped-in-GivenUp.result
    ([], subst (λ (r : Result (Option (Vec Request)) Stop). HaveCommitted r c.read_stopped-in-GivenUp.new.self.next_epoch []) (sym p.1) (inl refl), steps_number _ _ _ _ _ _ _ _ (sym number) steps)

pub returns-in_err-read_stopped-in-GivenUp-clause-entries : goal.returns-in_err-read_stopped-in-GivenUp-clause-entries
returns-in_err-read_stopped-in-GivenUp-clause-entries g c d e on stands room behind =
    let p = err_from_is_err_and c.from_residual-in_err-read_stopped-in-GivenUp.result c.from_residual-in_err-read_stopped-in-GivenUp.ensures.1 in
    unrefused (Unit {0}) (Option (Vec Request)) ((commits : List ℕ) × HaveCommitted c.from_residual-in_err-read_stopped-in-GivenUp.result c.read_stopped-in-GivenUp.new.self.next_epoch commits × StepsOn d e (g.P.Power.stopped c.args.power.now) (g.P.Power.stopped c.try_epoch.new.power) c.args.self.now.next_epoch c.read_stopped-in-GivenUp.new.self.next_epoch commits (scene_of c.args.self.now.members (g.N.Net.sent c.args.net.now)) (scene_of c.read_stopped-in-GivenUp.new.self.members (g.N.Net.sent c.try_epoch.new.net))) c.from_residual-in_err-read_stopped-in-GivenUp.result c.in_err-read_stopped-in-GivenUp.field-0.0 (g.H.Host.disk_faults c.try_epoch.new.host) (g.H.Host.disk_faults c.read_stopped-in-GivenUp.new.host) (p.1 ∙ ap Err p.2) c.in_err-read_stopped-in-GivenUp.ensures.disk
    (λ file place is. returns-in_err-read_stopped-in-GivenUp-clause-never g c file place d on stands room is)

pub returns-in_err-read_stopped-in-GivenUp-clause-begins : goal.returns-in_err-read_stopped-in-GivenUp-clause-begins
returns-in_err-read_stopped-in-GivenUp-clause-begins g c = one_begun (g.P.Power.begun c.args.power.now) (g.P.Power.begun c.try_epoch.new.power) c.try_epoch.ensures.begun

pub returns-in_err-read_stopped-in-GivenUp-clause-refused : goal.returns-in_err-read_stopped-in-GivenUp-clause-refused
returns-in_err-read_stopped-in-GivenUp-clause-refused g c file at is =
    let k : Cluster = c.args.self.now in
    let told = c.in_ok-remind.ensures in
    let rest : AreAtRest k.next_epoch (g.N.Net.sent c.remind.new.net) c.remind.new.members = told.rest k.next_epoch c.requires.sound.rests.rest in
    let sound : IsSound (reminded k c.remind.new.members) (g.N.Net.sent c.remind.new.net) = sound_reminded k c.remind.new.members c.remind.ensures.stays told.finish.layout told.committed (g.N.Net.sent c.args.net.now) (g.N.Net.sent c.remind.new.net) rest c.requires.sound in
    let gone : IsForgotten c.try_epoch.new.self c.forget_epoch.new.self = c.forget_epoch.ensures.forgotten in
    lost_if_told (g.P.Power.stops_seen c.args.power.now) (g.P.Power.stops_seen c.try_epoch.new.power) c.remind.new.members.voters.items c.forget_epoch.new.self.members.voters.items
    (subst (λ vs. LoseIfTold (g.P.Power.stops_seen c.args.power.now) (g.P.Power.stops_seen c.try_epoch.new.power) c.remind.new.members.voters.items vs) (sym (ap (λ (x : Cluster). x.members.voters.items) gone.same)) c.in_ok-dones.ensures.tried.whole)
    sound.whole (λ none. true≢false (sym (subst IsOk c.in_err-read_stopped-in-GivenUp.was (c.read_stopped-in-GivenUp.ensures.none none))))

pub returns-in_ok-read_stopped-in-GivenUp : goal.returns-in_ok-read_stopped-in-GivenUp
returns-in_ok-read_stopped-in-GivenUp g c =
    let k : Cluster = c.args.self.now in
    let now : Cluster = reminded k c.remind.new.members in
    let told = c.in_ok-remind.ensures in
    let sound : IsSound now (g.N.Net.sent c.remind.new.net) = sound_reminded k c.remind.new.members c.remind.ensures.stays told.finish.layout told.committed (g.N.Net.sent c.args.net.now) (g.N.Net.sent c.remind.new.net) (told.rest k.next_epoch c.requires.sound.rests.rest) c.requires.sound in
    let up : NoneBehind c.remind.new.members.tables = c.finished_nodes_are_not_behind.ensures.none k.next_epoch (g.N.Net.sent c.remind.new.net) c.remind.new.members sound.rests.rest (all_finished c.in_ok-remind.field-0 (chief_of c.remind.new.members.chief) _ c.if-not-branch.false told.all) in
    let map = c.requires.sound.rests.rest.map in
    let stays : StaysInPlace now c.try_epoch.new.self = c.in_ok-dones.ensures.tried.stays in
    let given : HasGivenUp c.args.requests.items c.in-GivenUp.requests.items map.0 (g.N.Net.sent c.try_epoch.new.net) now c.try_epoch.new.self =
    subst (λ (tried : Tried). ComesOf tried c.args.requests.items c.args.workers c.args.attempts map.0 (g.N.Net.sent c.try_epoch.new.net) now c.try_epoch.new.self) c.in-GivenUp.is (c.in_ok-dones.ensures.tried.comes map.0 (told.shards map.0 map.1)) in
    let gone : IsForgotten c.try_epoch.new.self c.forget_epoch.new.self = c.forget_epoch.ensures.forgotten in
    let i = g.P.Power.stopped c.args.power.now in
    let j = g.P.Power.stopped c.try_epoch.new.power in
    let x = scene_of k.members (g.N.Net.sent c.args.net.now) in
    let y = scene_of c.remind.new.members (g.N.Net.sent c.remind.new.net) in
    let z = scene_of c.read_stopped-in-GivenUp.new.self.members (g.N.Net.sent c.try_epoch.new.net) in
    let nodes = same_nodes k.members c.remind.new.members c.requires.sound.rests.rest.are sound.rests.rest.are told.finish.layout in
    let cores = c.read_stopped-in-GivenUp.ensures.cores ∙ ap (λ (q : Cluster). q.members.cores) gone.same in
    let chief = c.read_stopped-in-GivenUp.ensures.chief ∙ ap (λ (q : Cluster). q.members.chief) gone.same in
    let number : c.read_stopped-in-GivenUp.new.self.next_epoch ≡ k.next_epoch + 1 = c.read_stopped-in-GivenUp.ensures.next ∙ next_forgotten now c.try_epoch.new.self c.forget_epoch.new.self stays gone up in
    let a : Around = around g.N.Net g.P.Power c.args.net.now c.args.power.now in
    let r : Around = around g.N.Net g.P.Power c.remind.new.net c.args.power.now in
    let t : Around = around g.N.Net g.P.Power c.try_epoch.new.net c.try_epoch.new.power in
    let heard : IsLater a r = later_used a r c.remind.ensures.letters.sends c.remind.ensures.letters.gives (omega arith) in
    let log : Stands c.remind.new.members.log (g.H.Host.reads c.try_epoch.new.host) (g.H.Host.may_leave c.try_epoch.new.host) =
    c.try_epoch.ensures.rest.others c.remind.new.members.log (chief_elsewhere c.remind.new.members sound.rests.rest.are) (stand_reminded k c.remind.new.members c.remind.ensures.stays (g.H.Host.reads c.args.host.now) (g.H.Host.may_leave c.args.host.now) c.requires.stand).chief in
    record {
      sound = c.in_ok-read_stopped-in-GivenUp.ensures.rests (g.N.Net.sent c.try_epoch.new.net)
          (rests_gone now c.try_epoch.new.self c.forget_epoch.new.self stays gone up (g.N.Net.sent c.remind.new.net) (g.N.Net.sent c.try_epoch.new.net) c.args.requests.items c.in-GivenUp.requests.items map.0 sound c.requires.below given c.forget_epoch.ensures.rest);
      attempts = given_back k now c.forget_epoch.new.self c.read_stopped-in-GivenUp.new.self c.args.requests.items c.in-GivenUp.requests.items refl told.finish.layout (next_forgotten now c.try_epoch.new.self c.forget_epoch.new.self stays gone up) (kept_forgotten now c.try_epoch.new.self c.forget_epoch.new.self stays gone up) (procs_forgotten now c.try_epoch.new.self c.forget_epoch.new.self stays gone up) (layout_forgotten now c.try_epoch.new.self c.forget_epoch.new.self stays gone up)
          (trace_forgotten now c.try_epoch.new.self c.forget_epoch.new.self stays gone up) c.in_ok-read_stopped-in-GivenUp.ensures.members c.read_stopped-in-GivenUp.ensures.layout given.same;
      cause = gives_from a r t heard (subst (λ (tried : Tried). IsGivenUpIf tried r t) c.in-GivenUp.is c.in_ok-dones.ensures.tried.cause);
      asks = subst (λ n. MayHaveBegun k.next_epoch n a t) (sym number) (begins_one k.next_epoch a t (has_begun a.begun t.begun c.try_epoch.ensures.begun));
      world = (
        [],
        refl,
        steps_number i j k.next_epoch (k.next_epoch + 1) c.read_stopped-in-GivenUp.new.self.next_epoch [] x z (sym number)
            (forgotten_steps i j k.next_epoch k.members c.remind.new.members c.try_epoch.new.self.members c.read_stopped-in-GivenUp.new.self.members (g.N.Net.sent c.args.net.now) (g.N.Net.sent c.remind.new.net) (g.N.Net.sent c.try_epoch.new.net)
            (reminded_steps i k.next_epoch k.members c.remind.new.members (g.N.Net.sent c.args.net.now) (g.N.Net.sent c.remind.new.net) nodes told.world) c.in_ok-dones.ensures.tried.steps cores chief),
      );
      entries = λ d e on stands room behind.
          let at = stands_reminded k c.remind.new.members c.remind.ensures.stays told.finish.layout told.committed d (c.remind.ensures.map (map_in d)) stands in
          let files = c.in_ok-dones.ensures.files d on at room in
          let may : MayGoOn d k.next_epoch c.try_epoch.new.self.members.tables (g.H.Host.reads c.try_epoch.new.host) (g.H.Host.may_leave c.try_epoch.new.host) =
          subst (λ (tried : Tried). ComesOn tried d c.args.requests.items c.args.workers c.args.attempts k.next_epoch c.try_epoch.new.self.members.tables (g.H.Host.reads c.try_epoch.new.host) (g.H.Host.may_leave c.try_epoch.new.host)) c.in-GivenUp.is files.1 in
          let steps : StepsOn d may.rests.0 i j k.next_epoch (k.next_epoch + 1) [] x z = forgotten_on d may.rests.0 i j k.next_epoch k.members c.remind.new.members c.try_epoch.new.self.members c.read_stopped-in-GivenUp.new.self.members (g.N.Net.sent c.args.net.now) (g.N.Net.sent c.remind.new.net) (g.N.Net.sent c.try_epoch.new.net)
          (on_same d i i k.next_epoch x y nodes (told.world i)) (c.in_ok-dones.ensures.tried.entries d may.rests.0 on at room may.rests.3) cores chief in (
            [],
            refl,
            on_number d e i j k.next_epoch (k.next_epoch + 1) c.read_stopped-in-GivenUp.new.self.next_epoch [] x z (sym number)
                (on_rests d may.rests.0 e i j k.next_epoch (k.next_epoch + 1) [] x z (g.H.Host.reads c.read_stopped-in-GivenUp.new.host) (g.H.Host.may_leave c.read_stopped-in-GivenUp.new.host)
                (rests_read g.H.Host may.rests.0 c.try_epoch.new.host c.read_stopped-in-GivenUp.new.host c.read_stopped-in-GivenUp.ensures.read may.rests.3) behind steps),
          );
      map = λ is m had.
          let back : HasGivenUp c.args.requests.items c.in-GivenUp.requests.items m (g.N.Net.sent c.try_epoch.new.net) now c.try_epoch.new.self =
          subst (λ (tried : Tried). ComesOf tried c.args.requests.items c.args.workers c.args.attempts m (g.N.Net.sent c.try_epoch.new.net) now c.try_epoch.new.self) c.in-GivenUp.is (c.in_ok-dones.ensures.tried.comes m (told.shards m had)) in
          shards_gone now c.try_epoch.new.self c.forget_epoch.new.self stays gone up m back.keeps c.forget_epoch.ensures.shards (g.P.Power.stops_seen c.args.power.now) (g.P.Power.stops_seen c.try_epoch.new.power) c.in_ok-dones.ensures.tried.whole is sound.whole c.read_stopped-in-GivenUp.new.self c.in_ok-read_stopped-in-GivenUp.ensures.untouched;
      procs = c.read_stopped-in-GivenUp.ensures.procs ∙ procs_forgotten now c.try_epoch.new.self c.forget_epoch.new.self stays gone up;
      trace = tt;
      files = λ d on stands room.
          let at = stands_reminded k c.remind.new.members c.remind.ensures.stays told.finish.layout told.committed d (c.remind.ensures.map (map_in d)) stands in
          let files = c.in_ok-dones.ensures.files d on at room in
          let may : MayGoOn d k.next_epoch c.try_epoch.new.self.members.tables (g.H.Host.reads c.try_epoch.new.host) (g.H.Host.may_leave c.try_epoch.new.host) =
          subst (λ (tried : Tried). ComesOn tried d c.args.requests.items c.args.workers c.args.attempts k.next_epoch c.try_epoch.new.self.members.tables (g.H.Host.reads c.try_epoch.new.host) (g.H.Host.may_leave c.try_epoch.new.host)) c.in-GivenUp.is files.1 in
          inl (keeps_given g.H.Host (Ok (Some c.in-GivenUp.requests)) c.in-GivenUp.requests d k c.read_stopped-in-GivenUp.new.self c.args.host.now c.read_stopped-in-GivenUp.new.host refl
          (keeps_reading g.H.Host d may.rests.0 (k.next_epoch + 1) c.args.host.now c.try_epoch.new.host c.read_stopped-in-GivenUp.new.host may.rests.1 may.rests.2 may.rests.3 files.0 c.read_stopped-in-GivenUp.ensures.read)
          (record {
            d = may.rests.0;
            only = may.rests.1;
            rests = rests_read g.H.Host may.rests.0 c.try_epoch.new.host c.read_stopped-in-GivenUp.new.host c.read_stopped-in-GivenUp.ensures.read may.rests.3;
            stands = c.in_ok-read_stopped-in-GivenUp.ensures.files may.rests.0 may.rests.3 (stands_gone now c.try_epoch.new.self c.forget_epoch.new.self stays gone up d may.rests.0 may.rests.1 may.rests.2 may.keeps c.forget_epoch.ensures.map at);
          }));
      never = λ file at d on stands room is. absurd (cc (is));
      stand = c.in_ok-read_stopped-in-GivenUp.ensures.stand (stand_gone now c.try_epoch.new.self c.forget_epoch.new.self (g.H.Host.reads c.try_epoch.new.host) (g.H.Host.may_leave c.try_epoch.new.host) stays gone log c.in_ok-dones.ensures.tried.ready);
      said = c.read_stopped-in-GivenUp.ensures.read.quiet ∙ c.try_epoch.ensures.rest.said;
      disk = c.in_ok-read_stopped-in-GivenUp.ensures.disk ∙ c.in_ok-dones.ensures.disk;
      stream = c.read_stopped-in-GivenUp.ensures.read.stream ∙ c.try_epoch.ensures.rest.stream;
      refused = λ file at is. absurd (cc (is));
      begins = one_begun a.begun t.begun c.try_epoch.ensures.begun;
      seen = c.in_ok-dones.ensures.tried.whole.rises;
      later = later_then a r t heard c.try_epoch.ensures.rest.later;
    }
