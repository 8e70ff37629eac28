use Rattle.std.proofs.Common.{refl}
use Rattle.coco_recover.specs.Nodes.{node_basis, node_rules, setting_with}
use Rattle.coco_recover.proofs.Judged.{broken, unread}
use Rattle.coco_recover.proofs.Loading.{taken_goes_on}
use Rattle.coco_recover.proofs.Places.{prepared_keeps, prepared_place}
use Rattle.coco_recover.proofs.Within.{prepared_fault}
use Rattle.coco_recover.proofs.nodes.NodeReadingRules.take.Goals as goal

pub returns-in-Err-clause-takes : goal.returns-in-Err-clause-takes
returns-in-Err-clause-takes c =
    rw c.refused.ensures
    (unread (node_rules c.args.self.now.under) c.args.self.now.taken c.args.body.now c.args.self.now.taken c.in-Err.fault c.in-Err.ensures.read (prepared_fault c.args.body.now))

pub returns-in-Err-next-clause-takes : goal.returns-in-Err-next-clause-takes
returns-in-Err-next-clause-takes c =
    let r = c.self.inside in
    let s = setting_with r.layout.now r.procs.now in
    let b = node_basis r.layout.now r.procs.now r.epochs.now r.node r.shards.items r.copies.items in
    let taken = c.self.invariant.1 c.if-self.false in
    let first = rw taken.is_node at (c.in-Err-next.ensures.judges s r.epochs.now r.taken.items refl refl taken.behind) in
    rw (← c.self.view_is, c.if-self.false)
    (broken (node_rules b) r.taken.items c.args.body.now r.taken.items c.in-Ok.prepared c.in-Err-next.at c.in-Ok.ensures.found.0 c.in-Ok.ensures.found.1 first
    (prepared_place s r.node r.taken.items c.in-Ok.prepared c.in-Err-next.at first.refused))

pub invariant_of-self-2 : goal.invariant_of-self-2
invariant_of-self-2 c =
    let r = c.self.inside in
    let s = setting_with r.layout.now r.procs.now in
    let b = node_basis r.layout.now r.procs.now r.epochs.now r.node r.shards.items r.copies.items in
    let taken = c.self.invariant.1 c.if-self.false in
    let judged = rw taken.is_node at (c.in-Ok-next.ensures.judges s r.epochs.now r.taken.items refl refl taken.behind) in (
      c.self.invariant.0,
      λ _. taken_goes_on b r.taken.items c.add.new.self.items c.in-Ok.prepared r.rules c.next.new.self r.tables c.load.new.tables r.greatest c.max-self-inside.result taken
          (cc (c.add.ensures, c.from_ref.ensures.value)) c.in-Ok-next.ensures.node judged.0 judged.1 c.in_ok-load.ensures.tables
          (λ base read held. c.in_ok-load.ensures.ok s base r.epochs.now read refl judged.2 held) c.max-self-inside.ensures,
    )

pub returns-clause-takes : goal.returns-clause-takes
returns-clause-takes c =
    let r = c.self.inside in
    let s = setting_with r.layout.now r.procs.now in
    let taken = c.self.invariant.1 c.if-self.false in
    let next = (rw taken.is_node at (c.in-Ok-next.ensures.judges s r.epochs.now r.taken.items refl refl taken.behind)).0 in
    rw (← c.self.view_is, c.if-self.false)
    (record {
      entry = c.in-Ok.prepared;
      is = c.in-Ok.ensures.found.0;
      bytes = c.in-Ok.ensures.found.1;
      keeps = prepared_keeps s r.node r.taken.items c.in-Ok.prepared next;
      last = cc (c.add.ensures, c.from_ref.ensures.value);
    })
