use Rattle.std.proofs.Common.{List, Err, ap, subst, sym, ◌∙◌}
use Rattle.coco_load.specs.Tables.{HoldMap}
use Rattle.coco_log.proofs.OnlyRead.{read_then}
use Rattle.coco_store.specs.Contents.{HoldsBase}
use Rattle.coco_store.specs.Entries.{BaseEntry}
use Rattle.coco_store.specs.Rules.{base_of, base_values}
use Rattle.coco_recover.specs.Layouts.{setting_of}
use Rattle.coco_recover.proofs.Held.{handed_on}
use Rattle.coco_recover.proofs.Reading.{still_opened}
use Rattle.coco_recover.proofs.Resting.{left_still}
use Rattle.coco_recover.proofs.history.read_history.Goals as goal

-- what is refused

pub returns-in_err-last-clause-refused : goal.returns-in_err-last-clause-refused
returns-in_err-last-clause-refused g c file at files is told =
    let same = handed_on c.from_residual.result _ _ c.from_residual.ensures.1 is in
    c.in_err-last.ensures.refused file at files (ap Err same) told

pub returns-in_err-based-clause-refused : goal.returns-in_err-based-clause-refused
returns-in_err-based-clause-refused g c file at files is told =
    let same = handed_on c.from_residual-in_err-based.result _ _ c.from_residual-in_err-based.ensures.1 is in
    let root = c.in_ok-last.ensures in
    c.in_err-based.ensures.refused file at files (ap Err same) (root.read.same ∙ told) (root.ok files told).0

pub returns-in_err-committed-clause-refused : goal.returns-in_err-committed-clause-refused
returns-in_err-committed-clause-refused g c file at files is told =
    let same = handed_on c.from_residual-in_err-committed.result _ _ c.from_residual-in_err-committed.ensures.1 is in
    let root = c.in_ok-last.ensures in
    let based = c.in_ok-based.ensures in
    let second = root.read.same ∙ told in
    c.in_err-committed.ensures.refused file at files (ap Err same) (based.read.same ∙ second) (root.ok files told).0 (based.ok files second).0

-- what is had

pub returns-in_err-based-clause-read : goal.returns-in_err-based-clause-read
returns-in_err-based-clause-read g c = read_then g.H.Host g.met.H.Host.only_now _ _ _ c.in_ok-last.ensures.read c.in_err-based.ensures.read

pub returns-in_err-committed-clause-read : goal.returns-in_err-committed-clause-read
returns-in_err-committed-clause-read g c =
    read_then g.H.Host g.met.H.Host.only_now _ _ _
    (read_then g.H.Host g.met.H.Host.only_now _ _ _ c.in_ok-last.ensures.read c.in_ok-based.ensures.read) c.in_err-committed.ensures.read

pub returns-clause-read : goal.returns-clause-read
returns-clause-read g c =
    read_then g.H.Host g.met.H.Host.only_now _ _ _
    (read_then g.H.Host g.met.H.Host.only_now _ _ _ c.in_ok-last.ensures.read c.in_ok-based.ensures.read) c.in_ok-committed.ensures.read

pub returns-clause-had : goal.returns-clause-had
returns-clause-had g c =
    let committed = c.in_ok-committed.ensures in
    record {
      good = c.in_ok-last.ensures.good;
      committed = committed.committed;
      values = c.in_ok-based.ensures.based.values ∙ ap (λ b. base_values b.base) (sym committed.basis);
      root = c.in_ok-last.ensures.log;
      chief = committed.log;
    }

pub returns-clause-base : goal.returns-clause-base
returns-clause-base g c =
    let s = setting_of c.in_ok-last.last in
    let tables = c.in_ok-based.based.tables in
    subst (λ (es : List BaseEntry). HoldMap s.entry.layout (base_of s es).rows tables.shards.items tables.copies.items) (sym (ap (λ b. b.base) c.in_ok-committed.ensures.basis)) c.in_ok-based.ensures.based.maps

pub returns-clause-ok : goal.returns-clause-ok
returns-clause-ok g c files told =
    let may = g.H.Host.may_leave in
    let last = c.in_ok-last.last in
    let root = c.in_ok-last.ensures in
    let based = c.in_ok-based.ensures in
    let committed = c.in_ok-committed.ensures in
    let second = root.read.same ∙ told in
    let layouts = root.ok files told in
    let base = based.ok files second in
    let commits = committed.ok files (based.read.same ∙ second) in
    record {
      last = layouts.0;
      base = subst (λ (es : List BaseEntry). HoldsBase files (setting_of last) es last.entry.base_file) (sym (ap (λ b. b.base) committed.basis)) base.0;
      commits = commits.0;
      root = still_opened files (may c.read_layouts.new.host) (may c.read_commits.new.host) c.in_ok-last.root (λ image left. based.read.crash image (committed.read.crash image left)) layouts.1;
      chief = commits.1;
      base_left = left_still last.entry.base_file files (may c.read_base.new.host) (may c.read_commits.new.host) committed.read.crash base.1;
    }
