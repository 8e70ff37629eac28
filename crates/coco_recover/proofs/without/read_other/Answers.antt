use Rattle.std.proofs.Common.{[], Err, ap}
use Rattle.coco_log.proofs.OnlyRead.{read_first}
use Rattle.coco_recover.specs.Commits.{basis_of_committed}
use Rattle.coco_recover.specs.Layouts.{setting_of}
use Rattle.coco_recover.proofs.Held.{handed_on}
use Rattle.coco_recover.proofs.without.read_other.Goals as goal

pub returns-then-node-left_out-clause-read : goal.returns-then-node-left_out-clause-read
returns-then-node-left_out-clause-read g c = read_first g.H.Host g.met.H.Host.only_now _

pub returns-then-node-left_out-clause-ok : goal.returns-then-node-left_out-clause-ok
returns-then-node-left_out-clause-ok g c =
    let last = c.args.last.now in
    let committed = c.args.committed.now in (
      [],
      record {
        loaded = c.passed.ensures.loaded (basis_of_committed (setting_of last) committed) committed.commits.items c.requires.loaded;
        each = tt;
        more = c.passed.ensures.nodes;
      },
      λ files told. (λ other. absurd (other c.if-node-left_out.true), tt),
    )

pub returns-in_err-loaded-clause-refused : goal.returns-in_err-loaded-clause-refused
returns-in_err-loaded-clause-refused g c file at files is told =
    let same = handed_on c.from_residual.result _ _ c.from_residual.ensures.1 is in
    let refused = c.in_err-loaded.ensures.refused file at files (ap Err same) told in
    (c.if-node-left_out.false, refused.0, refused.1)

pub returns-clause-ok : goal.returns-clause-ok
returns-clause-ok g c =
    let read = c.in_ok-loaded.ensures.ok in
    (read.0, read.1, λ files told. let held = read.2 files told in (λ other. held.0, held.1))
