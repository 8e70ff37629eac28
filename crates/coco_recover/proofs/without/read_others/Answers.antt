use Rattle.std.proofs.Common.{◌≡◌, ℕ, Err, ap, arith, subst, sym, ◌∙◌}
use Rattle.coco_log.proofs.OnlyRead.{read_then}
use Rattle.coco_recover.specs.Nodes.{nodes_of}
use Rattle.coco_recover.specs.Without.{AreOthersHeld, IsFirstRefusalBut}
use Rattle.coco_recover.proofs.Held.{handed_on, refused_other}
use Rattle.coco_recover.proofs.LeftOut.{other_held, other_read}
use Rattle.coco_recover.proofs.without.read_others.Goals as goal

pub loop-node-preserved : goal.loop-node-preserved
loop-node-preserved g c =
    let last = c.args.last.now in
    let committed = c.args.committed.now in
    let old = c.loop-node.loaded in
    let logs = c.loop-node.logs.items in
    let n = c.loop-node.node in
    let was = c.loop-node.invariant in
    let next = c.in_ok-more.ensures in
    let more = next.ok in
    record {
      read = other_read last committed c.args.left_out old c.in_ok-more.more more.0 logs c.add.new.items.items c.in_ok-more.log n was.read more.1 next.log c.in_ok-add.ensures;
      only = read_then g.H.Host g.met.H.Host.only_now _ _ _ was.only next.read;
      counts = next.counts ∙ was.counts;
      held = λ files told.
          let found = more.2 files (was.only.same ∙ told) in
          other_held last committed c.args.left_out files (g.H.Host.may_leave c.loop-node.host) (g.H.Host.may_leave c.read_other.new.host) (nodes_of old) (nodes_of c.in_ok-more.more) more.0 logs c.add.new.items.items
          c.in_ok-more.log n (was.held files told) next.read.crash was.read.nodes was.read.as_many found.0 found.1 more.1.more c.in_ok-add.ensures;
    }

pub returns-in_err-more-clause-refused : goal.returns-in_err-more-clause-refused
returns-in_err-more-clause-refused g c file at files is told held parts commits =
    let last = c.args.last.now in
    let committed = c.args.committed.now in
    let was = c.loop-node.invariant in
    let n = c.loop-node.node in
    let same = handed_on c.from_residual.result _ _ c.from_residual.ensures.1 is in
    let refused = c.in_err-more.ensures.refused file at files (ap Err same) (was.only.same ∙ told) in
    let first = rw refused.1 at refused.2 in
    subst (λ (f : ℕ). IsFirstRefusalBut c.args.left_out files f at) (sym refused.1)
    (refused_other files last committed (nodes_of c.loop-node.loaded) held parts commits c.args.left_out n at c.loop-node-test.true refused.0 (was.held files told).each first)

pub returns-clause-ok : goal.returns-clause-ok
returns-clause-ok g c = (
  nodes_of c.loop-node.loaded,
  λ files told.
      let end : c.loop-node.node ≡ c.args.last.now.entry.layout.nodes = omega arith in
      subst (λ (n : ℕ). AreOthersHeld files (g.H.Host.may_leave c.loop-node.host) c.args.last.now c.args.committed.now c.args.left_out (nodes_of c.loop-node.loaded) c.loop-node.logs.items n) end
      (c.loop-node.invariant.held files told),
)
