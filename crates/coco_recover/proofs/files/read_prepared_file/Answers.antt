use Rattle.std.proofs.Common.{◌≡◌, ℕ, List, [], get_or, Err, ap, sym, subst, ◌∙◌}
use Rattle.std.specs.Prelude.{slice_index}
use Rattle.coco_entry.specs.declared.prepared.Prepared.{Prepared}
use Rattle.coco_read.specs.EntryRules.{IsFile, IsFirstIn}
use Rattle.coco_rules.specs.Readying.{AreAmong}
use Rattle.coco_store.specs.Contents.{HoldsNode}
use Rattle.coco_store.specs.Entries.{prepared_kind}
use Rattle.coco_store.specs.Rules.{EachBehind, IsNextPrepared, Setting, prepared_epochs}
use Rattle.coco_recover.specs.Nodes.{IsNodeRead, NodeBasis, node_basis, node_rules}
use Rattle.coco_recover.proofs.Held.{file_is, handed_on, is_opened}
use Rattle.coco_recover.proofs.NodeFiles.{among_so, node_file, node_held, node_refused}
use Rattle.coco_recover.proofs.files.read_prepared_file.Goals as goal

-- ---- a refused file

pub returns-in_err-log-clause-here : goal.returns-in_err-log-clause-here
returns-in_err-log-clause-here g c file at is =
    let number = get_or c.as_slice.result.now c.from.result 0 in
    let stands : number ≡ slice_index c.args.layout.now.node_files c.args.node = cc (c.as_slice.ensures, c.from.ensures) in
    let same = handed_on c.from_residual.result _ _ c.from_residual.ensures.1 is in
    c.in_err-log.ensures.here file at (ap Err same) ∙ stands

pub returns-in_err-log-clause-refused : goal.returns-in_err-log-clause-refused
returns-in_err-log-clause-refused g c file at files is told s commits layout tree numbers =
    let b = node_basis c.args.layout.now c.args.procs.now c.args.epochs.now c.args.node c.args.tables.shards.items c.args.tables.copies.items in
    let number = get_or c.as_slice.result.now c.from.result 0 in
    let same = handed_on c.from_residual.result _ _ c.from_residual.ensures.1 is in
    let first : IsFirstIn (node_rules b) prepared_kind (files number) at =
    subst (λ (b : NodeBasis). IsFirstIn (node_rules b) prepared_kind (files number) at) c.new-reading.ensures.under (c.in_err-log.ensures.refused file at files (ap Err same) told) in
    node_refused b s commits layout tree numbers (files file) at
    (subst (λ (f : ℕ). IsFirstIn (node_rules b) prepared_kind (files f) at) (sym (c.in_err-log.ensures.here file at (ap Err same))) first)

pub returns-in_err-log-clause-kept : goal.returns-in_err-log-clause-kept
returns-in_err-log-clause-kept g c file at files s commits entries told layout tree numbers held is =
    let b = node_basis c.args.layout.now c.args.procs.now c.args.epochs.now c.args.node c.args.tables.shards.items c.args.tables.copies.items in
    let number = get_or c.as_slice.result.now c.from.result 0 in
    let stands : number ≡ slice_index c.args.layout.now.node_files c.args.node = cc (c.as_slice.ensures, c.from.ensures) in
    let same = handed_on c.from_residual.result _ _ c.from_residual.ensures.1 is in
    let good : IsFile (node_rules b) prepared_kind entries (files number) =
    subst (λ (f : ℕ). IsFile (node_rules b) prepared_kind entries (files f)) (sym stands) (node_file b s commits layout tree numbers entries (files (slice_index c.args.layout.now.node_files c.args.node)) held) in
    c.in_err-log.ensures.kept file at files entries told (subst (λ (b : NodeBasis). IsFile (node_rules b) prepared_kind entries (files number)) (sym c.new-reading.ensures.under) good) (ap Err same)

-- ---- what was read

pub returns-clause-ok : goal.returns-clause-ok
returns-clause-ok g c =
    subst (λ (b : NodeBasis). (s : Setting) → s.entry.layout ≡ b.layout → s.tree ≡ b.tree → IsNodeRead s b.epochs b.node b.shards b.copies c.in_ok-read.read) (c.in_ok-log.ensures.setting ∙ c.new-reading.ensures.under) c.in_ok-read.ensures.read

pub returns-clause-whole : goal.returns-clause-whole
returns-clause-whole g c =
    let taken = c.read_file.new.rules.taken in
    subst (λ (es : List Prepared). AreAmong (prepared_epochs es) c.args.epochs.now) (sym c.in_ok-read.ensures.entries)
    (among_so (prepared_epochs taken) c.args.epochs.now
    (subst (λ (b : NodeBasis). ¬ (¬ (AreAmong (prepared_epochs taken) b.epochs))) c.new-reading.ensures.under c.in_ok-log.ensures.whole))

pub returns-clause-opened : goal.returns-clause-opened
returns-clause-opened g c files told =
    is_opened (node_rules c.new-reading.result.under) c.read_file.new.rules.taken c.in_ok-log.log files (g.H.Host.may_leave c.read_file.new.host) (get_or c.as_slice.result.now c.from.result 0) prepared_kind
    c.in_ok-log.ensures.log (c.in_ok-log.ensures.ok files told)

pub returns-clause-held : goal.returns-clause-held
returns-clause-held g c files told s commits layout tree numbers =
    let b = node_basis c.args.layout.now c.args.procs.now c.args.epochs.now c.args.node c.args.tables.shards.items c.args.tables.copies.items in
    let node = c.args.node in
    let taken = c.read_file.new.rules.taken in
    let number = get_or c.as_slice.result.now c.from.result 0 in
    let stands : number ≡ slice_index c.args.layout.now.node_files node = cc (c.as_slice.ensures, c.from.ensures) in
    let own = slice_index c.args.layout.now.node_files node in
    let file : IsFile (node_rules b) prepared_kind taken (files own) = subst (λ (f : ℕ). IsFile (node_rules b) prepared_kind taken (files f)) stands
    (subst (λ (b : NodeBasis). IsFile (node_rules b) prepared_kind taken (files number)) c.new-reading.ensures.under
    (file_is (node_rules c.new-reading.result.under) taken c.in_ok-log.log files (g.H.Host.may_leave c.read_file.new.host) number prepared_kind c.in_ok-log.ensures.log (c.in_ok-log.ensures.ok files told))) in
    let each : EachBehind (IsNextPrepared s node) [] taken = subst (EachBehind (IsNextPrepared s node) []) c.in_ok-read.ensures.entries (returns-clause-ok g c s layout tree).each in
    subst (λ (es : List Prepared). HoldsNode s commits node es (files own)) (sym c.in_ok-read.ensures.entries) (node_held b s commits layout tree numbers taken (files own) each file)
