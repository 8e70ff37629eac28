use Rattle.std.proofs.Common.{List, Ok, Err, refl, ap, subst}
use Rattle.std.proofs.lemmas.Result.{err_from_is_err_and}
use Rattle.coco_append.specs.Gaining.{Gains}
use Rattle.coco_entry.specs.Commits.{IsCommit}
use Rattle.coco_log.specs.LogState.{LogState}
use Rattle.coco_log.specs.declared.fault.LogFault.{LogFault}
use Rattle.coco_members.specs.declared.members.Members.{Members}
use Rattle.coco_store.specs.Laws.{MayCommit, with_commit}
use Rattle.coco_types.specs.declared.call.Done.{Done}
use Rattle.coco_cluster.specs.Trying.{commit_of}
use Rattle.coco_cluster.proofs.EndLemmas.{commits_done, commits_failed, many_voters, marked_places}
use Rattle.coco_cluster.proofs.WriteLemmas.{writes_chief}
use Rattle.coco_cluster.proofs.cluster.Cluster.commit_epoch.Goals as goal

pub returns-in_err-settle-clause-files : goal.returns-in_err-settle-clause-files
returns-in_err-settle-clause-files g c k rests belongs may =
    let p = err_from_is_err_and c.from_residual.result c.from_residual.ensures.1 in
    let e = c.args.self.now.next_epoch in
    commits_failed g.H.Host (Err c.in_err-settle.field-0.0) c.from_residual.result p.0 k (commit_of e c.args.dones) c.args.host.now c.settle.new.host p.1
    (subst (λ (ds : List Done). (IsCommit (commit_of e ds) → MayCommit k (commit_of e ds))
    → Gains {T = Unit {0}} {E = LogFault} g.H.Host (Err c.in_err-settle.field-0.0) k (with_commit (commit_of e ds) k) c.args.host.now c.settle.new.host) c.as_slice.ensures
    (c.in_err-settle.ensures.files k rests belongs.chief) may)
    (writes_chief k.setting c.args.self.now.members.log.file (g.H.Host.reads c.args.host.now) (g.H.Host.reads c.settle.new.host) (g.H.Host.may_leave c.args.host.now) (g.H.Host.may_leave c.settle.new.host) belongs.chief.file
    c.settle.ensures.read c.settle.ensures.crash)

pub returns-clause-ended : goal.returns-clause-ended
returns-clause-ended g c =
    let k : Members = c.args.self.now.members in
    let log = c.in_ok-settle.ensures.log in
    record {
      next = refl;
      trace_is = refl;
      procs = refl;
      base = refl;
      keep = c.add_dones.ensures.keep;
      layout = c.in_ok-settle.ensures.layout;
      log_file = ap (λ (l : LogState). l.file) log;
      log_kind = ap (λ (l : LogState). l.kind) log;
      log_unspent = ap (λ (l : LogState). l.spent) log;
      places = marked_places (g.P.Power.stopped c.args.power.now) (g.P.Power.stopped c.settle.new.power) k.voters.items c.settle.new.members.voters.items
          (many_voters k c.settle.new.members c.requires.voted.1.are c.in_ok-settle.ensures.rest.are c.in_ok-settle.ensures.layout) c.in_ok-settle.ensures.stops;
      committed = c.in_ok-settle.ensures.committed;
    }

pub returns-clause-files : goal.returns-clause-files
returns-clause-files g c k rests belongs may =
    let e = c.args.self.now.next_epoch in
    commits_done g.H.Host (Ok tt) (Ok tt) k (commit_of e c.args.dones) c.args.host.now c.settle.new.host refl refl
    (subst (λ (ds : List Done). (IsCommit (commit_of e ds) → MayCommit k (commit_of e ds))
    → Gains {T = Unit {0}} {E = LogFault} g.H.Host (Ok tt) k (with_commit (commit_of e ds) k) c.args.host.now c.settle.new.host) c.as_slice.ensures
    (c.in_ok-settle.ensures.files k rests belongs.chief) may)
    (writes_chief k.setting c.args.self.now.members.log.file (g.H.Host.reads c.args.host.now) (g.H.Host.reads c.settle.new.host) (g.H.Host.may_leave c.args.host.now) (g.H.Host.may_leave c.settle.new.host) belongs.chief.file
    c.settle.ensures.read c.settle.ensures.crash)

pub returns-clause-stand : goal.returns-clause-stand
returns-clause-stand g c ready = record { chief = c.in_ok-settle.ensures.stands; nodes = c.in_ok-settle.ensures.ready ready }

pub returns-clause-whole : goal.returns-clause-whole
returns-clause-whole g c = record { rises = c.settle.ensures.later.seen_rises; whole = c.in_ok-settle.ensures.whole }
