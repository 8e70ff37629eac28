use Rattle.std.proofs.Common.{◌≡◌, inl, inr, Result, Ok, Err, refl, sym, ap, subst, ◌∙◌}
use Rattle.std.specs.Prelude.{IsErr}
use Rattle.std.proofs.lemmas.Result.{err_from_is_err_and}
use Rattle.coco_entry.specs.declared.layout.LayoutEntry.{LayoutEntry}
use Rattle.coco_recover.specs.Without.{IsGoodBut, entry_of_parts}
use Rattle.coco_rebuild.specs.Answers.{AnswersFor, MayMake, MayWrite, rebuild_fault_of}
use Rattle.coco_rebuild.specs.Rebuilding.{HasRebuilt, rebuild_files}
use Rattle.coco_rebuild.specs.declared.fault.RebuildFault.{RebuildFault}
use Rattle.coco_rebuild.specs.declared.fault.RebuildFault.TheVariants as fault
use Rattle.coco_rebuild.proofs.Answering.{answers_fault, fault_back, gains_done, gains_failed, writes_fault}
use Rattle.coco_rebuild.proofs.rebuilding.rebuild.Goals as goal

-- ---- the reading fails

pub returns-in_err-parts-clause-refused : goal.returns-in_err-parts-clause-refused
returns-in_err-parts-clause-refused g c file at files is told =
    let p = err_from_is_err_and c.from_residual.result c.from_residual.ensures.1 in
    let same : rebuild_fault_of c.in_err-parts.field-0.0 ≡ fault.NotAStore file at = cc (p.1, p.2, is) in
    c.in_err-parts.ensures.refused file at files (ap Err (fault_back c.in_err-parts.field-0.0 file at same)) told

pub returns-in_err-parts-clause-answers : goal.returns-in_err-parts-clause-answers
returns-in_err-parts-clause-answers g c files d told holds =
    let p = err_from_is_err_and c.from_residual.result c.from_residual.ensures.1 in
    let layout = d.setting.entry.layout in
    subst (λ (r : Result (Unit {0}) RebuildFault). AnswersFor c.args.node layout r) (sym p.1)
    (subst (λ (e : RebuildFault). AnswersFor c.args.node layout (Err e)) (sym p.2)
    (answers_fault c.args.node layout c.in_err-parts.field-0.0 (λ file at is. c.in_err-parts.ensures.kept file at files d told holds (ap Err is))))

pub returns-in_err-parts-clause-seen : goal.returns-in_err-parts-clause-seen
returns-in_err-parts-clause-seen g c =
    let p = err_from_is_err_and c.from_residual.result c.from_residual.ensures.1 in
    inl (record { read = c.in_err-parts.ensures.read; failed = subst (λ (r : Result (Unit {0}) RebuildFault). IsErr r) (sym p.1) refl })

-- ---- the node's file is made again

pub returns-in_err-rebuild_store-clause-seen : goal.returns-in_err-rebuild_store-clause-seen
returns-in_err-rebuild_store-clause-seen g c =
    let node = c.args.node in
    let mid = c.read_without.new.host in
    let new = c.rebuild_store.new.host in
    let p = err_from_is_err_and c.from_residual-in_err-rebuild_store.result c.from_residual-in_err-rebuild_store.ensures.1 in
    inr (record {
      opened = mid;
      opening = c.in_ok-parts.ensures.read;
      may = subst (λ (r : Result (Unit {0}) RebuildFault). MayWrite r) (sym p.1) (subst (λ (e : RebuildFault). MayWrite (Err e)) (sym p.2) (writes_fault c.in_err-rebuild_store.field-0.0));
      holds = λ files told. (let parts = c.in_ok-parts.ensures.ok files told in (parts.contents, parts.holds));
      makes = λ files d told holds.
          subst (λ (e : LayoutEntry). MayMake c.args.node e.layout) ((c.in_ok-parts.ensures.ok files told).has d holds).layout (record { there = c.if-node-layout.false; held = c.in_default.ensures });
      named = rebuild_files (entry_of_parts c.in_ok-parts.parts);
      are_new = λ files d told holds. ap rebuild_files ((c.in_ok-parts.ensures.ok files told).has d holds).layout;
      files = c.rebuild_store.ensures.files;
      crash = c.rebuild_store.ensures.crash;
      gains = λ files d told good.
          gains_failed g.H.Host c.rebuild_store.result p.0 (λ image. IsGoodBut node image d) (HasRebuilt node d) mid new
          (c.rebuild_store.ensures.gains d ((c.in_ok-parts.ensures.ok files told).has d good.holds) (c.in_ok-parts.ensures.rests files d told good)) c.from_residual-in_err-rebuild_store.result p.1;
    })

pub returns-clause-seen : goal.returns-clause-seen
returns-clause-seen g c =
    let node = c.args.node in
    let mid = c.read_without.new.host in
    let new = c.rebuild_store.new.host in
    inr (record {
      opened = mid;
      opening = c.in_ok-parts.ensures.read;
      may = tt;
      holds = λ files told. (let parts = c.in_ok-parts.ensures.ok files told in (parts.contents, parts.holds));
      makes = λ files d told holds.
          subst (λ (e : LayoutEntry). MayMake c.args.node e.layout) ((c.in_ok-parts.ensures.ok files told).has d holds).layout (record { there = c.if-node-layout.false; held = c.in_default.ensures });
      named = rebuild_files (entry_of_parts c.in_ok-parts.parts);
      are_new = λ files d told holds. ap rebuild_files ((c.in_ok-parts.ensures.ok files told).has d holds).layout;
      files = c.rebuild_store.ensures.files;
      crash = c.rebuild_store.ensures.crash;
      gains = λ files d told good.
          gains_done g.H.Host c.rebuild_store.result c.in_ok-rebuild_store.field-0 tt (λ image. IsGoodBut node image d) (HasRebuilt node d) mid new c.in_ok-rebuild_store.was
          (c.rebuild_store.ensures.gains d ((c.in_ok-parts.ensures.ok files told).has d good.holds) (c.in_ok-parts.ensures.rests files d told good));
    })

pub returns-clause-holds : goal.returns-clause-holds
returns-clause-holds g c files told = (let parts = c.in_ok-parts.ensures.ok files told in (parts.contents, parts.holds))

pub returns-clause-answers : goal.returns-clause-answers
returns-clause-answers g c files d told holds =
    subst (λ (e : LayoutEntry). AnswersFor c.args.node e.layout (Ok tt)) ((c.in_ok-parts.ensures.ok files told).has d holds).layout (record { there = c.if-node-layout.false; held = c.in_default.ensures })

pub returns-in_err-rebuild_store-clause-refused : goal.returns-in_err-rebuild_store-clause-refused
returns-in_err-rebuild_store-clause-refused g c file at files is told =
    let p = err_from_is_err_and c.from_residual-in_err-rebuild_store.result c.from_residual-in_err-rebuild_store.ensures.1 in
    let same : rebuild_fault_of c.in_err-rebuild_store.field-0.0 ≡ fault.NotAStore file at = cc (p.1, p.2, is) in
    let parts = c.in_ok-parts.ensures.ok files told in
    absurd (c.in_err-rebuild_store.ensures.kept file at files parts.contents (c.in_ok-parts.ensures.read.same ∙ told) parts.holds (parts.has parts.contents parts.holds)
    (ap Err (fault_back c.in_err-rebuild_store.field-0.0 file at same)))

pub returns-in_err-rebuild_store-clause-answers : goal.returns-in_err-rebuild_store-clause-answers
returns-in_err-rebuild_store-clause-answers g c files d told holds =
    let p = err_from_is_err_and c.from_residual-in_err-rebuild_store.result c.from_residual-in_err-rebuild_store.ensures.1 in
    let layout = d.setting.entry.layout in
    subst (λ (r : Result (Unit {0}) RebuildFault). AnswersFor c.args.node layout r) (sym p.1)
    (subst (λ (e : RebuildFault). AnswersFor c.args.node layout (Err e)) (sym p.2)
    (answers_fault c.args.node layout c.in_err-rebuild_store.field-0.0
    (λ file at is. c.in_err-rebuild_store.ensures.kept file at files d (c.in_ok-parts.ensures.read.same ∙ told) holds ((c.in_ok-parts.ensures.ok files told).has d holds) (ap Err is))))

-- ---- there is no such node, or no other holder

pub returns-then-node-layout-clause-holds : goal.returns-then-node-layout-clause-holds
returns-then-node-layout-clause-holds g c files told = (let parts = c.in_ok-parts.ensures.ok files told in (parts.contents, parts.holds))

pub returns-then-node-layout-clause-answers : goal.returns-then-node-layout-clause-answers
returns-then-node-layout-clause-answers g c files d told holds =
    subst (λ (e : LayoutEntry). AnswersFor c.args.node e.layout (Err (fault.NoNode c.in_ok-parts.parts.layout.nodes))) ((c.in_ok-parts.ensures.ok files told).has d holds).layout (c.if-node-layout.true, refl)

pub returns-in-Some-clause-holds : goal.returns-in-Some-clause-holds
returns-in-Some-clause-holds g c files told = (let parts = c.in_ok-parts.ensures.ok files told in (parts.contents, parts.holds))

pub returns-in-Some-clause-answers : goal.returns-in-Some-clause-answers
returns-in-Some-clause-answers g c files d told holds =
    subst (λ (e : LayoutEntry). AnswersFor c.args.node e.layout (Err (fault.NoHolder c.in-Some.partition))) ((c.in_ok-parts.ensures.ok files told).has d holds).layout (c.if-node-layout.false, c.in-Some.ensures)
