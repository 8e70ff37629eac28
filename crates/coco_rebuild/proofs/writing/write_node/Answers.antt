use Rattle.std.proofs.Common.{◌≡◌, ℕ, ◌+◌, ◌-◌, ◌<◌, List, [], ◌∷◌, Option, Some, Result, Err, false, drop, sym, ap, subst, ◌∙◌, arith}
use Rattle.std.specs.Prelude.{OnOk, slice_index}
use Rattle.std.proofs.lemmas.List.{drop_all, drop_more}
use Rattle.std.proofs.lemmas.Nat.{mod_below}
use Rattle.std.proofs.lemmas.Result.{err_from_is_err_and}
use Rattle.coco_host.specs.Files.{Become, Files}
use Rattle.coco_append.proofs.GainLemmas.{on_ok}
use Rattle.coco_entry.specs.Layouts.{is_named}
use Rattle.coco_log.specs.Changes.{ChangesOnly, SameBesides}
use Rattle.coco_log.specs.Drafts.{Drafts, HasLog}
use Rattle.coco_log.proofs.Changing.{changes_then}
use Rattle.coco_read.specs.declared.fault.OpenFault.{OpenFault}
use Rattle.coco_read.specs.declared.fault.OpenFault.TheVariants.{NotAStore}
use Rattle.coco_store.specs.Contents.{Contents}
use Rattle.coco_rebuild.specs.Sources.{AreOthers, HasNode}
use Rattle.coco_rebuild.proofs.Epochs.{above_last, answered, changes_read, is_there, written_all, written_more, written_none}
use Rattle.coco_rebuild.proofs.writing.write_node.Goals as goal

-- ---- epoch by epoch

pub loop-epoch-init : goal.loop-epoch-init
loop-epoch-init g c =
    let begun = c.in_ok-sources.ensures in
    let draft = c.in_ok-draft.draft in
    record {
      sources = begun.are;
      file = ap (λ d. d.file) c.in_ok-draft.ensures.draft;
      kind = ap (λ d. d.kind) c.in_ok-draft.ensures.draft;
      drafts = ([], c.in_ok-draft.ensures.none (g.H.Host.reads c.open.new.host));
      written = λ files d told others.
          written_none c.args.layout.now c.args.node c.args.epochs.now d draft c.in_ok-sources.sources (g.H.Host.reads c.open.new.host) files (begun.read.same ∙ told) others c.args.layout.now.base_epoch
          (begun.begun c.args.epochs.now files d told others c.args.layout.now.base_epoch) c.requires.rise (c.in_ok-draft.ensures.none (g.H.Host.reads c.open.new.host));
      changes = changes_read g.H.Host (c.args.file ∷ []) c.args.host.now c.open.new.host begun.read;
      counts = begun.counts;
      stream = begun.read.stream;
    }

pub loop-epoch-preserved : goal.loop-epoch-preserved
loop-epoch-preserved g c =
    let R = g.H.Host.reads in
    let layout = c.args.layout.now in
    let node = c.args.node in
    let less = c.requires.node in
    let file = c.args.file in
    let epochs = c.args.epochs.now in
    let i = c.loop-epoch.epoch-index in
    let epoch : ℕ = slice_index epochs i in
    let inv = c.loop-epoch.invariant in
    let add = c.in_ok-add_epoch.ensures in
    let next : drop i epochs ≡ epoch ∷ drop (i + 1) epochs = drop_more epochs i 0 c.loop-epoch-test.true in
    let some : 0 < layout.nodes = omega (arith, less) in
    let mid = c.loop-epoch.host in
    let new = c.add_epoch.new.host in
    record {
      sources = c.add_epoch.ensures.sources;
      file = add.of.0 ∙ inv.file;
      kind = add.of.1 ∙ inv.kind;
      drafts = (let more = add.added inv.drafts.0 inv.drafts.1 in (_, more.drafts));
      written = λ files d told others.
          (let was = inv.written files d told others in
          let after : Become (SameBesides (c.loop-epoch.draft.file ∷ [])) (Some was.files) (R new) = subst (λ (o : Option Files). Become (SameBesides (c.loop-epoch.draft.file ∷ [])) o (R new)) was.are c.add_epoch.ensures.changes.files in
          written_more layout node epochs d i epoch c.loop-epoch.draft c.loop-epoch.sources (R mid) was next c.add_epoch.new.draft c.add_epoch.new.sources (R new) after.0 after.1 after.2 c.requires.count
          (subst (λ (f : ℕ). is_named layout.node_files f ≡ false) (sym inv.file) c.requires.apart) (mod_below (node + 1) layout.nodes some) (mod_below (node + layout.nodes - layout.copies) layout.nodes some)
          (add.added _ was.drafts));
      changes = changes_then g.H.Host (file ∷ []) c.args.host.now mid new inv.changes (subst (λ (f : ℕ). ChangesOnly g.H.Host (f ∷ []) mid new) inv.file c.add_epoch.ensures.changes);
      counts = add.counts ∙ inv.counts;
      stream = add.stream ∙ inv.stream;
    }

pub returns-in_err-add_epoch-clause-kept : goal.returns-in_err-add_epoch-clause-kept
returns-in_err-add_epoch-clause-kept g c other at files d told others is =
    let layout = c.args.layout.now in
    let epochs = c.args.epochs.now in
    let i = c.loop-epoch.epoch-index in
    let epoch : ℕ = slice_index epochs i in
    let inv = c.loop-epoch.invariant in
    let next : drop i epochs ≡ epoch ∷ drop (i + 1) epochs = drop_more epochs i 0 c.loop-epoch-test.true in
    let was = inv.written files d told others in
    let p = err_from_is_err_and c.from_residual-in_err-add_epoch.result c.from_residual-in_err-add_epoch.ensures.1 in
    let same : c.in_err-add_epoch.field-0.0 ≡ NotAStore other at = cc (p.1, p.2, is) in
    c.in_err-add_epoch.ensures.kept other at was.last epochs was.files d was.are was.others was.read
    (above_last layout c.args.node epochs d i epoch c.loop-epoch.draft c.loop-epoch.sources (g.H.Host.reads c.loop-epoch.host) was next)
    (is_there layout c.args.node epochs d i epoch c.loop-epoch.draft c.loop-epoch.sources (g.H.Host.reads c.loop-epoch.host) was next) (ap Err same)

pub returns-in_err-add_epoch-clause-changes : goal.returns-in_err-add_epoch-clause-changes
returns-in_err-add_epoch-clause-changes g c =
    let inv = c.loop-epoch.invariant in
    changes_then g.H.Host (c.args.file ∷ []) c.args.host.now c.loop-epoch.host c.add_epoch.new.host inv.changes
    (subst (λ (f : ℕ). ChangesOnly g.H.Host (f ∷ []) c.loop-epoch.host c.add_epoch.new.host) inv.file c.add_epoch.ensures.changes)

-- ---- the draft is finished

pub returns-clause-made : goal.returns-clause-made
returns-clause-made g c =
    let R = g.H.Host.reads in
    let L = g.H.Host.may_leave in
    let layout = c.args.layout.now in
    let node = c.args.node in
    let epochs = c.args.epochs.now in
    let inv = c.loop-epoch.invariant in
    let new = c.finish.new.host in
    let Made : Type 0 = (files : Files) (d : Contents) → R c.args.host.now ≡ Some files → AreOthers layout node epochs files d → HasNode node d c.args.file (R new) (L new) in
    let Log : Type 0 = (bodies : List (List ℕ)) → Drafts c.loop-epoch.draft bodies (R c.loop-epoch.host) → HasLog c.loop-epoch.draft.kind bodies c.loop-epoch.draft.file (R new) (L new) in
    let made : OnOk c.finish.result Made = on_ok c.finish.result Log Made (λ log files d told others.
    written_all layout node epochs d c.loop-epoch.epoch-index c.loop-epoch.draft c.loop-epoch.sources (R c.loop-epoch.host) (R new) (L new) c.args.file (inv.written files d told others)
    (drop_all c.loop-epoch.epoch-index epochs c.loop-epoch-test.false) inv.file inv.kind log) c.finish.ensures.log in
    subst (λ (r : Result (Unit {0}) OpenFault). OnOk r Made) (sym c.answer_to.ensures) (answered c.finish.result Made made)

pub returns-clause-changes : goal.returns-clause-changes
returns-clause-changes g c =
    let inv = c.loop-epoch.invariant in
    changes_then g.H.Host (c.args.file ∷ []) c.args.host.now c.loop-epoch.host c.finish.new.host inv.changes
    (subst (λ (f : ℕ). ChangesOnly g.H.Host (f ∷ []) c.loop-epoch.host c.finish.new.host) inv.file c.finish.ensures.changes)
