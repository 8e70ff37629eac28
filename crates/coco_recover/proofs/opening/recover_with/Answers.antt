use Rattle.std.proofs.Common.{◌≡◌, ◌<◌, Some, Err, ap, arith, sym, ◌∙◌}
use Rattle.coco_host.specs.Files.{Files}
use Rattle.coco_log.proofs.OnlyRead.{read_then}
use Rattle.coco_recover.specs.Layouts.{setting_of}
use Rattle.coco_recover.specs.Nodes.{nodes_of}
use Rattle.coco_recover.proofs.Having.{is_opening}
use Rattle.coco_recover.proofs.Held.{handed_on, store_held}
use Rattle.coco_recover.proofs.Keeping.{keeps_few}
use Rattle.coco_recover.proofs.LeftOut.{history_first}
use Rattle.coco_recover.proofs.Resting.{held_still, left_opened, rests, stands_so}
use Rattle.coco_recover.proofs.Sounding.{is_sound}
use Rattle.coco_recover.proofs.opening.recover_with.Goals as goal

pub returns-in_err-history-clause-refused : goal.returns-in_err-history-clause-refused
returns-in_err-history-clause-refused g c file at files is told =
    let same = handed_on c.from_residual.result _ _ c.from_residual.ensures.1 is in
    history_first files file at (c.in_err-history.ensures.refused file at files (ap Err same) told)

pub returns-in_err-loaded-clause-refused : goal.returns-in_err-loaded-clause-refused
returns-in_err-loaded-clause-refused g c file at files is told =
    let same = handed_on c.from_residual-in_err-loaded.result _ _ c.from_residual-in_err-loaded.ensures.1 is in
    let history = c.in_ok-history.ensures in
    let held = history.ok files told in
    c.in_err-loaded.ensures.refused file at files (ap Err same) (history.read.same ∙ told) held.last held.base held.commits

pub returns-in_err-loaded-clause-read : goal.returns-in_err-loaded-clause-read
returns-in_err-loaded-clause-read g c = read_then g.H.Host g.met.H.Host.only_now _ _ _ c.in_ok-history.ensures.read c.in_err-loaded.ensures.only

pub returns-clause-read : goal.returns-clause-read
returns-clause-read g c = read_then g.H.Host g.met.H.Host.only_now _ _ _ c.in_ok-history.ensures.read c.in_ok-loaded.ensures.only

pub returns-clause-ok : goal.returns-clause-ok
returns-clause-ok g c files told =
    let h = c.in_ok-history.history in
    let history = c.in_ok-history.ensures in
    let loaded = c.in_ok-loaded.ensures in
    let held = history.ok files told in
    is_opening h c.in_ok-loaded.loaded c.in_ok-loaded.nodes c.in_ok-loaded.prepared history.had loaded.read loaded.prepared c.args.is_whole files history.keep held.last
    (store_held files h.last h.committed (nodes_of c.in_ok-loaded.loaded) held.last held.base held.commits (loaded.ok files (history.read.same ∙ told)).each)

pub returns-clause-sound : goal.returns-clause-sound
returns-clause-sound g c =
    let loaded = c.in_ok-loaded.ensures in
    is_sound c.in_ok-history.history c.in_ok-loaded.loaded c.in_ok-loaded.nodes c.in_ok-loaded.prepared c.in_ok-history.ensures.had loaded.read loaded.prepared

pub returns-clause-few : goal.returns-clause-few
returns-clause-few g c is =
    let h = c.in_ok-history.history in
    let history = c.in_ok-history.ensures in
    keeps_few (setting_of h.last) h.committed history.had.committed.remembered history.had.good.limits.keep (rw is at history.keep)

pub returns-clause-stand : goal.returns-clause-stand
returns-clause-stand g c =
    let reads = g.H.Host.reads c.read_nodes.new.host in
    let may = g.H.Host.may_leave in
    let h = c.in_ok-history.history in
    let history = c.in_ok-history.ensures in
    let loaded = c.in_ok-loaded.ensures in
    let still = λ (files : Files) (told : reads ≡ Some files).
    let before = sym loaded.only.same ∙ told in
    held_still files (may c.read_history.new.host) (may c.read_nodes.new.host) h loaded.only.crash (history.ok files (sym history.read.same ∙ before)) in
    record {
      root = stands_so h.root reads (may c.read_nodes.new.host) (λ files told. (still files told).root);
      chief = stands_so h.chief reads (may c.read_nodes.new.host) (λ files told. (still files told).chief);
      nodes = λ n less.
          stands_so _ reads (may c.read_nodes.new.host)
          (λ files told. (loaded.ok files (sym loaded.only.same ∙ told)).opened h.root n (omega (arith, less, loaded.read.as_many)));
    }

pub returns-clause-rests : goal.returns-clause-rests
returns-clause-rests g c files d told good =
    let may = g.H.Host.may_leave in
    let h = c.in_ok-history.history in
    let history = c.in_ok-history.ensures in
    let loaded = c.in_ok-loaded.ensures in
    let second = history.read.same ∙ told in
    let count = history.had.good.is.fields.count in
    rests files h d (g.H.Host.reads c.read_nodes.new.host) (may c.read_nodes.new.host) history.had
    (held_still files (may c.read_history.new.host) (may c.read_nodes.new.host) h loaded.only.crash (history.ok files told)) (loaded.only.same ∙ second) good
    (λ i less.
    let within : i < h.last.entry.layout.nodes = omega (arith, less, count) in
    left_opened _ files (may c.read_nodes.new.host) _ 2 (loaded.read.fresh h.root i within) ((loaded.ok files second).opened h.root i within))
