use Rattle.std.proofs.Common.{◌≡◌, Some, Err, ap, arith, refl, sym, ◌∙◌}
use Rattle.coco_host.specs.Files.{Files}
use Rattle.coco_log.proofs.OnlyRead.{read_then}
use Rattle.coco_recover.specs.Bases.{entries_of}
use Rattle.coco_recover.specs.Layouts.{setting_of}
use Rattle.coco_recover.specs.Without.{before_nodes}
use Rattle.coco_recover.proofs.Held.{contents_of, handed_on, held_but}
use Rattle.coco_recover.proofs.LeftOut.{are_parts, held_or_refused, left_other, rests_but, some_stands}
use Rattle.coco_recover.proofs.Resting.{held_still, stands_so}
use Rattle.coco_recover.proofs.Sounding.{commits_below}
use Rattle.coco_recover.proofs.without.read_without.Goals as goal

-- what is refused

pub returns-in_err-history-clause-refused : goal.returns-in_err-history-clause-refused
returns-in_err-history-clause-refused g c file at files is told =
    let same = handed_on c.from_residual.result _ _ c.from_residual.ensures.1 is in
    before_nodes (c.in_err-history.ensures.refused file at files (ap Err same) told)

pub returns-in_err-nodes-clause-refused : goal.returns-in_err-nodes-clause-refused
returns-in_err-nodes-clause-refused g c file at files is told =
    let same = handed_on c.from_residual-in_err-nodes.result _ _ c.from_residual-in_err-nodes.ensures.1 is in
    let history = c.in_ok-history.ensures in
    let held = history.ok files told in
    c.in_err-nodes.ensures.refused file at files (ap Err same) (history.read.same ∙ told) held.last held.base held.commits

-- files that hold a store but for this node's are not refused

pub returns-in_err-history-clause-kept : goal.returns-in_err-history-clause-kept
returns-in_err-history-clause-kept g c file at files d told held is = held_or_refused c.args.node files file at (returns-in_err-history-clause-refused g c file at files is told) d held

pub returns-in_err-nodes-clause-kept : goal.returns-in_err-nodes-clause-kept
returns-in_err-nodes-clause-kept g c file at files d told held is = held_or_refused c.args.node files file at (returns-in_err-nodes-clause-refused g c file at files is told) d held

-- what is had

pub returns-in_err-nodes-clause-read : goal.returns-in_err-nodes-clause-read
returns-in_err-nodes-clause-read g c = read_then g.H.Host g.met.H.Host.only_now _ _ _ c.in_ok-history.ensures.read c.in_err-nodes.ensures.only

pub returns-clause-read : goal.returns-clause-read
returns-clause-read g c = read_then g.H.Host g.met.H.Host.only_now _ _ _ c.in_ok-history.ensures.read c.in_ok-nodes.ensures.only

pub returns-clause-ok : goal.returns-clause-ok
returns-clause-ok g c files told =
    let h = c.in_ok-history.history in
    let history = c.in_ok-history.ensures in
    let others = c.in_ok-nodes.ensures.ok in
    let held = history.ok files told in
    let holds = held_but files h.last h.committed others.0 held.last held.base held.commits c.args.node (others.1 files (history.read.same ∙ told)).each in
    are_parts c.args.node files (contents_of held.last.earlier h.last h.committed others.0) _ holds (record { layout = refl; epochs = history.had.committed.remembered.epochs })

pub returns-clause-sound : goal.returns-clause-sound
returns-clause-sound g c =
    let h = c.in_ok-history.history in
    let had = c.in_ok-history.ensures.had in
    let remembered = had.committed.remembered in
    record {
      is = had.good.is;
      limits = had.good.limits;
      tree = h.last.procs;
      accepted = had.good.tree;
      rises = had.committed.rises;
      end = rw remembered.epochs (commits_below (setting_of h.last) (entries_of h.committed.base.items) h.committed.commits.items remembered.each);
      root = had.root;
      chief = had.chief;
      count = c.in_ok-nodes.ensures.count;
      nodes = c.in_ok-nodes.ensures.logs;
    }

pub returns-clause-stand : goal.returns-clause-stand
returns-clause-stand g c =
    let reads = g.H.Host.reads c.read_others.new.host in
    let may = g.H.Host.may_leave in
    let h = c.in_ok-history.history in
    let history = c.in_ok-history.ensures in
    let others = c.in_ok-nodes.ensures in
    let still = λ (files : Files) (told : reads ≡ Some files).
    let before = sym others.only.same ∙ told in
    held_still files (may c.read_history.new.host) (may c.read_others.new.host) h others.only.crash (history.ok files (sym history.read.same ∙ before)) in
    record {
      root = stands_so h.root reads (may c.read_others.new.host) (λ files told. (still files told).root);
      chief = stands_so h.chief reads (may c.read_others.new.host) (λ files told. (still files told).chief);
      nodes = λ n less.
          some_stands _ reads (may c.read_others.new.host)
          (λ files told. (others.ok.1 files (sym others.only.same ∙ told)).opened n (omega (arith, less, others.count)));
    }

pub returns-clause-rests : goal.returns-clause-rests
returns-clause-rests g c files d told good =
    let may = g.H.Host.may_leave in
    let h = c.in_ok-history.history in
    let history = c.in_ok-history.ensures in
    let others = c.in_ok-nodes.ensures in
    let second = history.read.same ∙ told in
    rests_but c.args.node files h d (g.H.Host.reads c.read_others.new.host) (may c.read_others.new.host) history.had
    (held_still files (may c.read_history.new.host) (may c.read_others.new.host) h others.only.crash (history.ok files told)) (others.only.same ∙ second) good
    (λ n less other. left_other _ files (may c.read_others.new.host) _ ((others.logs n less).other other) ((others.ok.1 files second).opened n less))
