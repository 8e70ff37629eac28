use Rattle.std.proofs.Common.{◌<◌, [], Err, ap, refl, sym, subst, ◌∙◌}
use Rattle.std.specs.Prelude.{slice_index}
use Rattle.coco_entry.specs.declared.layout.Layout.{Layout}
use Rattle.coco_load.specs.Reading.{maps_read}
use Rattle.coco_load.specs.RowMaps.{joined, map_with}
use Rattle.coco_load.proofs.Following.{reading_begins}
use Rattle.coco_log.proofs.OnlyRead.{read_first}
use Rattle.coco_store.specs.Contents.{HoldsNode}
use Rattle.coco_recover.specs.Nodes.{setting_with, with_entries}
use Rattle.coco_recover.proofs.Held.{handed_on}
use Rattle.coco_recover.proofs.Anew.{base_known, node_stands}
use Rattle.coco_recover.proofs.Resting.{stands_so}
use Rattle.coco_recover.proofs.lost.read_node.Goals as goal

-- ---- out of memory

pub returns-in_err-tables-clause-read : goal.returns-in_err-tables-clause-read
returns-in_err-tables-clause-read g c = read_first g.H.Host g.met.H.Host.only_now _

-- ---- a refused file

pub returns-in_err-read-clause-here : goal.returns-in_err-read-clause-here
returns-in_err-read-clause-here g c file at is =
    let same = handed_on c.from_residual-in_err-read.result _ _ c.from_residual-in_err-read.ensures.1 is in
    c.in_err-read.ensures.here file at (ap Err same)

pub returns-in_err-read-clause-refused : goal.returns-in_err-read-clause-refused
returns-in_err-read-clause-refused g c file at files is told =
    let same = handed_on c.from_residual-in_err-read.result _ _ c.from_residual-in_err-read.ensures.1 is in
    c.in_err-read.ensures.refused file at files (ap Err same) told

pub returns-in_err-read-clause-kept : goal.returns-in_err-read-clause-kept
returns-in_err-read-clause-kept g c file at files d told holds known is =
    let node = c.args.node in
    let same = handed_on c.from_residual-in_err-read.result _ _ c.from_residual-in_err-read.ensures.1 is in
    let within : node < d.setting.entry.layout.nodes = subst (λ (l : Layout). node < l.nodes) (sym known.layout) c.requires.node in
    c.in_err-read.ensures.kept file at files d.setting d.commits (d.prepared node) told known.layout known.tree known.epochs
    (subst (λ (l : Layout). HoldsNode d.setting d.commits node (d.prepared node) (files (slice_index l.node_files node))) known.layout (holds.nodes node within)) (ap Err same)

-- ---- what was read

pub returns-clause-ok : goal.returns-clause-ok
returns-clause-ok g c files d told good known =
    let node = c.args.node in
    let entries = c.in_ok-read.read.entries.items in
    let old = c.in_ok-tables.tables in
    let new = c.in_ok-read.read.tables in
    let read = c.in_ok-read.ensures in
    let within : node < d.setting.entry.layout.nodes = subst (λ (l : Layout). node < l.nodes) (sym known.layout) c.requires.node in
    let file = subst (λ (l : Layout). HoldsNode d.setting d.commits node entries (files (slice_index l.node_files node))) (sym known.layout)
    (read.held files told d.setting d.commits known.layout known.tree known.epochs) in (
      node_stands files d node entries c.args.layout.now c.args.epochs.now (old.shards.items, old.copies.items) (new.shards.items, new.copies.items) (map_with (joined c.args.base.now))
          good within file known.layout known.epochs (base_known d c.args.layout.now c.args.procs.now c.args.epochs.now c.args.base.now known) c.in_ok-tables.ensures (read.ok d.setting known.layout known.tree).loads,
      record { file = read.log.in_file ∙ sym (ap (λ (l : Layout). slice_index l.node_files node) known.layout); kind = read.log.of_kind },
    )

pub returns-clause-tables : goal.returns-clause-tables
returns-clause-tables g c =
    let s = setting_with c.args.layout.now c.args.procs.now in
    let rows = map_with (joined c.args.base.now) in
    let epochs = c.args.epochs.now in
    let old = c.in_ok-tables.tables in (
      maps_read s rows epochs (with_entries c.args.node c.in_ok-read.read.entries.items (λ _. [])),
      (c.in_ok-read.ensures.ok s refl refl).loads rows (λ _. []) (reading_begins s rows epochs old.shards.items old.copies.items c.in_ok-tables.ensures),
    )

pub returns-clause-stand : goal.returns-clause-stand
returns-clause-stand g c =
    stands_so c.in_ok-read.log (g.H.Host.reads c.read_prepared_file.new.host) (g.H.Host.may_leave c.read_prepared_file.new.host)
    (λ files told. c.in_ok-read.ensures.opened files (sym c.in_ok-read.ensures.read.same ∙ told))
