use Rattle.std.proofs.Common.{◌≡◌, ℕ, Err, ap, arith, subst, sym, ◌∙◌}
use Rattle.coco_log.proofs.OnlyRead.{read_then}
use Rattle.coco_store.specs.Refusals.{IsFirstRefusal}
use Rattle.coco_recover.specs.Nodes.{nodes_of}
use Rattle.coco_recover.specs.Steps.{AreHeld}
use Rattle.coco_recover.proofs.Held.{handed_on, refused_node}
use Rattle.coco_recover.proofs.Loading.{node_prepared}
use Rattle.coco_recover.proofs.Reading.{node_held, node_read}
use Rattle.coco_recover.proofs.files.read_nodes.Goals as goal

pub loop-node-preserved : goal.loop-node-preserved
loop-node-preserved g c =
    let last = c.args.last.now in
    let committed = c.args.committed.now in
    let old = c.loop-node.loaded in
    let logs = c.loop-node.logs.items in
    let n = c.loop-node.node in
    let was = c.loop-node.invariant in
    let next = c.in_ok-more.ensures in
    let more = next.ok in
    record {
      read = node_read last committed old c.in_ok-more.more more.0 logs c.add.new.items.items c.in_ok-more.log n was.read more.1 more.4 next.log c.in_ok-add.ensures;
      only = read_then g.H.Host g.met.H.Host.only_now _ _ _ was.only next.read;
      counts = next.counts ∙ was.counts;
      held = λ files told.
          let found = more.2 files (was.only.same ∙ told) in
          node_held last committed files (g.H.Host.may_leave c.loop-node.host) (g.H.Host.may_leave c.read_next_node.new.host) (nodes_of old) (nodes_of c.in_ok-more.more) more.0 logs c.add.new.items.items
          c.in_ok-more.log n (was.held files told) next.read.crash was.read.nodes was.read.as_many found.0 found.1 more.1.more c.in_ok-add.ensures;
      prepared = node_prepared (nodes_of old) (nodes_of c.in_ok-more.more) more.0 c.loop-node.prepared.items c.add-in-loop-node.new.items.items c.in_ok-more.greatest was.prepared more.1.more more.3 c.in_ok-add-2.ensures;
    }

pub returns-in_err-more-clause-refused : goal.returns-in_err-more-clause-refused
returns-in_err-more-clause-refused g c file at files is told held parts commits =
    let last = c.args.last.now in
    let committed = c.args.committed.now in
    let was = c.loop-node.invariant in
    let n = c.loop-node.node in
    let same = handed_on c.from_residual.result _ _ c.from_residual.ensures.1 is in
    let refused = c.in_err-more.ensures.refused file at files (ap Err same) (was.only.same ∙ told) in
    let first = rw refused.0 at refused.1 in
    subst (λ (f : ℕ). IsFirstRefusal files f at) (sym refused.0)
    (refused_node files last committed (nodes_of c.loop-node.loaded) held parts commits n at c.loop-node-test.true (was.held files told).each first)

pub returns-clause-ok : goal.returns-clause-ok
returns-clause-ok g c files told =
    let end : c.loop-node.node ≡ c.args.last.now.entry.layout.nodes = omega arith in
    subst (λ (n : ℕ). AreHeld files (g.H.Host.may_leave c.loop-node.host) c.args.last.now c.args.committed.now (nodes_of c.loop-node.loaded) c.loop-node.logs.items n) end
    (c.loop-node.invariant.held files told)
