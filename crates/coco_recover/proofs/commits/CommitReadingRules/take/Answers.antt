use Rattle.std.proofs.Common.{refl}
use Rattle.coco_load.proofs.Adding.{committed_dones_follow}
use Rattle.coco_store.specs.Rules.{floor_in}
use Rattle.coco_recover.specs.Bases.{entries_of}
use Rattle.coco_recover.specs.Commits.{commit_rules}
use Rattle.coco_recover.specs.Layouts.{setting_of}
use Rattle.coco_recover.proofs.Committing.{history_grows}
use Rattle.coco_recover.proofs.Judged.{broken, unread}
use Rattle.coco_recover.proofs.Places.{commit_keeps, commit_place}
use Rattle.coco_recover.proofs.Within.{commit_fault}
use Rattle.coco_recover.proofs.commits.CommitReadingRules.take.Goals as goal

pub returns-in-Err-clause-takes : goal.returns-in-Err-clause-takes
returns-in-Err-clause-takes c =
    rw c.refused.ensures
    (unread (commit_rules c.args.self.now.under) c.args.self.now.taken c.args.body.now c.args.self.now.taken c.in-Err.fault c.in-Err.ensures.read (commit_fault c.args.body.now))

pub returns-in-Some-clause-takes : goal.returns-in-Some-clause-takes
returns-in-Some-clause-takes c =
    let r = c.self.inside in
    let s = setting_of r.last.now in
    let base = entries_of r.committed.base.items in
    let before = r.committed.commits.items in
    let judged = c.in_ok-at.ensures s base before refl (c.self.invariant c.if-self.false).rules in
    let first = rw c.in-Some.is at judged in
    rw (← c.self.view_is, c.if-self.false)
    (broken (commit_rules (record { setting = s; base = base; keep = r.committed.kept.keep })) before c.args.body.now before c.in-Ok.commit c.in-Some.at
    c.in-Ok.ensures.found.0 c.in-Ok.ensures.found.1 first (commit_place s base before c.in-Ok.commit c.in-Some.at first.refused))

pub next_epoch-self-inside-requires : goal.next_epoch-self-inside-requires
next_epoch-self-inside-requires c =
    let r = c.self.inside in
    let judged = c.in_ok-at.ensures (setting_of r.last.now) (entries_of r.committed.base.items) r.committed.commits.items refl (c.self.invariant c.if-self.false).rules in
    let good = rw c.in_default.is at judged in
    good.0.epoch.below_end

pub keep_dones-requires : goal.keep_dones-requires
keep_dones-requires c =
    let r = c.self.inside in
    let base = entries_of r.committed.base.items in
    let history = c.self.invariant c.if-self.false in
    let judged = c.in_ok-at.ensures (setting_of r.last.now) base r.committed.commits.items refl history.rules in
    let good = rw c.in_default.is at judged in
    (committed_dones_follow (setting_of r.last.now) r.committed.kept (floor_in base) base r.committed.commits.items c.in-Ok.commit
    history.remembered.base history.remembered.each good.0 history.remembered.kept).0

pub invariant_of-self-2 : goal.invariant_of-self-2
invariant_of-self-2 c =
    let r = c.self.inside in
    let base = entries_of r.committed.base.items in
    let history = c.self.invariant c.if-self.false in
    let judged = c.in_ok-at.ensures (setting_of r.last.now) base r.committed.commits.items refl history.rules in
    let good = rw c.in_default.is at judged in
    let follows = committed_dones_follow (setting_of r.last.now) r.committed.kept (floor_in base) base r.committed.commits.items c.in-Ok.commit
    history.remembered.base history.remembered.each good.0 history.remembered.kept in
    λ _. history_grows (setting_of r.last.now) r.rules c.next.new.self r.committed _ c.in-Ok.commit history c.in-Ok.ensures.found.0 good refl c.keep_dones.ensures.keep
    (cc (c.add.ensures, c.from_ref.ensures.value)) c.in_ok-push.ensures.items c.in_ok-keep_dones.ensures.kept follows.1 c.next_epoch-self-inside.ensures

pub returns-clause-takes : goal.returns-clause-takes
returns-clause-takes c =
    let r = c.self.inside in
    let s = setting_of r.last.now in
    let base = entries_of r.committed.base.items in
    let before = r.committed.commits.items in
    let judged = c.in_ok-at.ensures s base before refl (c.self.invariant c.if-self.false).rules in
    let good = rw c.in_default.is at judged in
    rw (← c.self.view_is, c.if-self.false)
    (record {
      entry = c.in-Ok.commit;
      is = c.in-Ok.ensures.found.0;
      bytes = c.in-Ok.ensures.found.1;
      keeps = commit_keeps s base before c.in-Ok.commit good.0;
      last = cc (c.add.ensures, c.from_ref.ensures.value);
    })
