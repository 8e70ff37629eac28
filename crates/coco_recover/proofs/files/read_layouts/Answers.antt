use Rattle.std.proofs.Common.{◌≡◌, ℕ, Err, ap, subst, sym}
use Rattle.coco_recover.specs.Layouts.{layout_rules}
use Rattle.coco_recover.specs.Without.{IsHistoryRefusal}
use Rattle.coco_recover.proofs.Held.{file_is, handed_on, holds_last, is_opened, refused_layouts}
use Rattle.coco_recover.proofs.files.read_layouts.Goals as goal

pub returns-in_err-log-clause-refused : goal.returns-in_err-log-clause-refused
returns-in_err-log-clause-refused g c file at files is told =
    let same = handed_on c.from_residual.result _ _ c.from_residual.ensures.1 is in
    let here : file ≡ 0 = c.in_err-log.ensures.here file at (ap Err same) in
    subst (λ (f : ℕ). IsHistoryRefusal files f at) (sym here) (refused_layouts files at (c.in_err-log.ensures.refused file at files (ap Err same) told))

pub returns-in-Some-clause-ok : goal.returns-in-Some-clause-ok
returns-in-Some-clause-ok g c files told =
    let may = g.H.Host.may_leave c.read_file.new.host in
    let entries = c.read_file.new.rules in
    let log = c.in_ok-log.log in
    let fresh = c.in_ok-log.ensures.log in
    let read = c.in_ok-log.ensures.ok files told in (
      holds_last entries c.in-Some.last files c.in-Some.ensures (file_is layout_rules entries log files may 0 0 fresh read),
      is_opened layout_rules entries log files may 0 0 fresh read,
    )

pub returns-in-None-clause-refused : goal.returns-in-None-clause-refused
returns-in-None-clause-refused g c file at files is told =
    absurd ((c.in_ok-log.ensures.ok files told).is.whole c.in-None.ensures)
