use Rattle.std.proofs.Common.{refl}
use Rattle.coco_load.proofs.Following.{reading_begins}
use Rattle.coco_store.specs.Rules.{base_of, commit_epochs}
use Rattle.coco_recover.specs.Bases.{entries_of}
use Rattle.coco_recover.proofs.Loading.{none_loaded}
use Rattle.coco_recover.proofs.nodes.Loaded.new.Goals as goal

pub returns-clause-loaded : goal.returns-clause-loaded
returns-clause-loaded c = λ s are held.
    let committed = c.args.committed.now in
    none_loaded s committed _ c.new.ensures refl are
    (reading_begins s (base_of s (entries_of committed.base.items)).rows (commit_epochs committed.commits.items)
    c.args.tables.shards.items c.args.tables.copies.items held)
