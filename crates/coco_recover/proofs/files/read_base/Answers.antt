use Rattle.std.proofs.Common.{◌≡◌, ℕ, Err, ap, subst, sym, ◌∙◌}
use Rattle.coco_read.specs.EntryRules.{IsFirstIn, IsReadLog}
use Rattle.coco_store.specs.Rules.{Setting}
use Rattle.coco_recover.specs.Bases.{IsBased, base_rules}
use Rattle.coco_recover.specs.Layouts.{setting_of}
use Rattle.coco_recover.specs.Without.{IsHistoryRefusal}
use Rattle.coco_recover.proofs.Held.{file_is, file_left, handed_on, holds_parts, refused_base}
use Rattle.coco_recover.proofs.files.read_base.Goals as goal

pub returns-in_err-_log-clause-refused : goal.returns-in_err-_log-clause-refused
returns-in_err-_log-clause-refused g c file at files is told held =
    let last = c.args.last.now in
    let same = handed_on c.from_residual-in_err-_log.result _ _ c.from_residual-in_err-_log.ensures.1 is in
    let here : file ≡ c.in-Some.file = c.in_err-_log.ensures.here file at (ap Err same) in
    let under : c.in_ok-reading.reading.under.setting ≡ setting_of last = ap (λ r. r.under.setting) c.in_ok-reading.ensures in
    let first = subst (λ (s : Setting). IsFirstIn (base_rules s) 3 (files c.in-Some.file) at) under (c.in_err-_log.ensures.refused file at files (ap Err same) told) in
    subst (λ (f : ℕ). IsHistoryRefusal files f at) (sym here) (refused_base files last c.in-Some.file at held c.in-Some.is first)

pub returns-clause-ok : goal.returns-clause-ok
returns-clause-ok g c files told =
    let last = c.args.last.now in
    let s = setting_of last in
    let may = g.H.Host.may_leave c.read_file.new.host in
    let entries = c.read_file.new.rules.taken in
    let log = c.in_ok-_log._log in
    let fresh = c.in_ok-_log.ensures.log in
    let under : c.in_ok-reading.reading.under.setting ≡ s = ap (λ r. r.under.setting) c.in_ok-reading.ensures in
    let read = subst (λ (s : Setting). IsReadLog (base_rules s) entries log files may) under (c.in_ok-_log.ensures.ok files told) in
    let based = subst (λ (s : Setting). IsBased s c.in_ok-into_based.field-0) (ap (λ u. u.setting) c.in_ok-_log.ensures.setting ∙ under) c.in_ok-into_based.ensures.based in (
      holds_parts files last c.in_ok-into_based.field-0 c.in-Some.file entries c.in-Some.is based c.in_ok-into_based.ensures.entries (file_is (base_rules s) entries log files may c.in-Some.file 3 fresh read),
      rw c.in-Some.is (file_left (base_rules s) entries log files may c.in-Some.file 3 fresh read),
    )
