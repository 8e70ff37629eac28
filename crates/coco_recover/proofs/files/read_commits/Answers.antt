use Rattle.std.proofs.Common.{◌≡◌, ℕ, List, Err, ap, subst, sym, ◌∙◌}
use Rattle.coco_entry.specs.declared.commit.Commit.{Commit}
use Rattle.coco_read.specs.EntryRules.{IsFile}
use Rattle.coco_store.specs.Contents.{chief_of}
use Rattle.coco_store.specs.Entries.{commits_kind}
use Rattle.coco_store.specs.Rules.{Setting}
use Rattle.coco_recover.specs.Commits.{AreCommitted, commit_rules}
use Rattle.coco_recover.specs.Layouts.{setting_of}
use Rattle.coco_recover.specs.Without.{IsHistoryRefusal}
use Rattle.coco_recover.proofs.Held.{file_is, handed_on, holds_committed, is_opened, refused_commits}
use Rattle.coco_recover.proofs.files.read_commits.Goals as goal

pub returns-in_err-log-clause-refused : goal.returns-in_err-log-clause-refused
returns-in_err-log-clause-refused g c file at files is told held parts =
    let last = c.args.last.now in
    let same = handed_on c.from_residual.result _ _ c.from_residual.ensures.1 is in
    let here : file ≡ chief_of (setting_of last) = c.in_err-log.ensures.here file at (ap Err same) in
    let under = c.new-reading.result.under in
    subst (λ (f : ℕ). IsHistoryRefusal files f at) (sym here)
    (refused_commits files last c.args.base.entries.items under at (ap (λ r. r.under.setting) c.new-reading.ensures) (ap (λ r. r.under.base) c.new-reading.ensures) held parts
    (c.in_err-log.ensures.refused file at files (ap Err same) told))

pub returns-clause-ok : goal.returns-clause-ok
returns-clause-ok g c files told =
    let last = c.args.last.now in
    let s = setting_of last in
    let under = c.new-reading.result.under in
    let may = g.H.Host.may_leave c.read_file.new.host in
    let entries = c.read_file.new.rules.taken in
    let committed = c.in_ok-into_committed.field-0 in
    let log = c.in_ok-log.log in
    let fresh = c.in_ok-log.ensures.log in
    let read = c.in_ok-log.ensures.ok files told in
    let set = ap (λ u. u.setting) c.in_ok-log.ensures.setting ∙ ap (λ r. r.under.setting) c.new-reading.ensures in
    let are = subst (λ (s : Setting). AreCommitted s committed) set c.in_ok-into_committed.ensures.committed in
    let file = subst (λ (cs : List Commit). IsFile (commit_rules under) commits_kind cs (files (chief_of s))) (sym c.in_ok-into_committed.ensures.commits)
    (file_is (commit_rules under) entries log files may (chief_of s) commits_kind fresh read) in (
      holds_committed files last committed under are file,
      is_opened (commit_rules under) entries log files may (chief_of s) commits_kind fresh read,
    )
