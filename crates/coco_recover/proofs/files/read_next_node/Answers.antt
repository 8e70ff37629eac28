use Rattle.std.proofs.Common.{◌≡◌, ℕ, List, [], ◌∷◌, ◌++◌, map, Err, arith, refl, sym, ap, subst, ◌∙◌}
use Rattle.std.proofs.lemmas.List.{map-append}
use Rattle.coco_entry.specs.declared.prepared.Prepared.{Prepared}
use Rattle.coco_rules.specs.Readying.{AreAmong}
use Rattle.coco_store.specs.Rules.{commit_epochs, prepared_epochs}
use Rattle.coco_recover.specs.Commits.{basis_of_committed}
use Rattle.coco_recover.specs.Layouts.{setting_of}
use Rattle.coco_recover.specs.Nodes.{HoldsNodes, Loads, nodes_of}
use Rattle.coco_recover.specs.declared.nodes.Loaded.{Loaded}
use Rattle.coco_recover.proofs.Held.{handed_on}
use Rattle.coco_recover.proofs.Loading.{greatest_early, node_added}
use Rattle.coco_recover.proofs.files.read_next_node.Goals as goal

pub returns-in_err-read-clause-refused : goal.returns-in_err-read-clause-refused
returns-in_err-read-clause-refused g c file at files is told =
    let s = setting_of c.args.last.now in
    let committed = c.args.committed.now in
    let numbers = sym (c.as_slice-epochs.ensures.value ∙ c.requires.node.behind.remembered.epochs) in
    let same = handed_on c.from_residual.result _ _ c.from_residual.ensures.1 is in
    (c.in_err-read.ensures.here file at (ap Err same), c.in_err-read.ensures.refused file at files (ap Err same) told s committed.commits.items refl refl numbers)

pub overflow_add-greatest : goal.overflow_add-greatest
overflow_add-greatest g c =
    let s = setting_of c.args.last.now in
    let read = c.in_ok-read.ensures.ok s refl refl in
    omega (arith, greatest_early s c.args.node c.in_ok-read.read.entries.items c.in_ok-read.read.greatest read.each read.greatest)

pub returns-clause-ok : goal.returns-clause-ok
returns-clause-ok g c =
    let s = setting_of c.args.last.now in
    let committed = c.args.committed.now in
    let commits = committed.commits.items in
    let old = c.args.loaded in
    let read = c.in_ok-read.read in
    let new : Loaded = record { tables = read.tables; next = c.max-next.result; nodes = c.add.new.self } in
    let entries = read.entries.items in
    let value = c.as_slice-epochs.ensures.value in
    let numbers = value ∙ c.requires.node.behind.remembered.epochs in
    let is = c.in_ok-read.ensures.ok s refl refl in
    let more : nodes_of new ≡ nodes_of old ++ entries ∷ [] =
    ap (map (λ t. t.items)) (c.add.ensures ∙ ap (λ ts. old.nodes.items ++ ts) c.from_ref.ensures.value) ∙ map-append (λ t. t.items) old.nodes.items (read.entries ∷ []) in
    let loads : Loads s (commit_epochs commits) c.args.node entries old.tables.shards.items old.tables.copies.items read.tables.shards.items read.tables.copies.items =
    subst (λ (es : List ℕ). Loads s es c.args.node entries old.tables.shards.items old.tables.copies.items read.tables.shards.items read.tables.copies.items) numbers is.loads in (
      entries,
      record {
        loaded = subst (λ (ns : List (List Prepared)). HoldsNodes (basis_of_committed s committed) commits ns new) (sym more)
            (node_added (basis_of_committed s committed) commits (nodes_of old) entries c.args.node read.greatest old new
            c.requires.node.next c.requires.loaded loads is.greatest c.max-next.ensures);
        each = is.each;
        more = more;
      },
      λ files told. (c.in_ok-read.ensures.held files told s commits refl refl (sym numbers), c.in_ok-read.ensures.opened files told),
      is.greatest,
      subst (AreAmong (prepared_epochs entries)) value c.in_ok-read.ensures.whole,
    )
