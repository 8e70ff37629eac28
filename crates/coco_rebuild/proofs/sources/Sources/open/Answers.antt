use Rattle.std.proofs.Common.{◌≡◌, ◌≢◌, ◌∙◌, ℕ, ◌<◌, [], Option, Err, sym, ap, subst}
use Rattle.std.proofs.lemmas.Result.{err_from_is_err_and}
use Rattle.coco_log.specs.Reading.{IsReading, Reading}
use Rattle.coco_read.specs.declared.fault.OpenFault.TheVariants.{NotAStore}
use Rattle.coco_rebuild.specs.Sources.{IsReadIn, file_at, node_after, node_first}
use Rattle.coco_rebuild.proofs.Sourcing.{after_is_other, are_there, begun_at, first_is_other, not_none}
use Rattle.coco_rebuild.proofs.sources.Sources.open.Goals as goal
use Rattle.coco_rebuild.proofs.sources.Sources.open.Goals.{then-first-after, else-first-after+in_ok-begin}

pub returns-in_err-one-clause-kept : goal.returns-in_err-one-clause-kept
returns-in_err-one-clause-kept g c file at epochs files d told others is =
    let layout = c.args.layout.now in
    let node = c.args.node in
    let p = err_from_is_err_and c.from_residual.result c.from_residual.ensures.1 in
    let same : c.in_err-one.field-0.0 ≡ NotAStore file at = cc (p.1, p.2, is) in
    let some : 0 < layout.copies = not_none layout.copies c.if-layout-eq0.false in
    let n = c.node_after-after.result in
    let other : n ≢ node = subst (λ (m : ℕ). m ≢ node) (sym c.node_after-after.ensures.is) (after_is_other layout node c.requires.node c.requires.around some) in
    c.in_err-one.ensures.kept file at (d.prepared n) files told (are_there layout node epochs files d others n c.node_after-after.ensures.within other) (ap Err same)

pub returns-in_err-begin-clause-kept : goal.returns-in_err-begin-clause-kept
returns-in_err-begin-clause-kept g c file at epochs files d told others is =
    let layout = c.args.layout.now in
    let node = c.args.node in
    let p = err_from_is_err_and c.from_residual-in_err-begin.result c.from_residual-in_err-begin.ensures.1 in
    let same : c.in_err-begin.field-0.0 ≡ NotAStore file at = cc (p.1, p.2, is) in
    let some : 0 < layout.copies = not_none layout.copies c.if-layout-eq0.false in
    let n = c.node_first-first.result in
    let other : n ≢ node = subst (λ (m : ℕ). m ≢ node) (sym c.node_first-first.ensures.is) (first_is_other layout node c.requires.node c.requires.around some) in
    c.in_err-begin.ensures.kept file at (d.prepared n) files (c.in_ok-one.ensures.read.same ∙ told) (are_there layout node epochs files d others n c.node_first-first.ensures.within other) (ap Err same)

pub returns-clause-begun : goal.returns-clause-begun
returns-clause-begun g c epochs files d told others base =
    let layout = c.args.layout.now in
    let node = c.args.node in
    let after : ℕ = node_after layout node in
    let first : ℕ = node_first layout node in
    let one : Reading = c.in_ok-one.one in
    record {
      after = begun_at one (d.prepared after) base (files (file_at layout after))
          (subst (λ (n : ℕ). IsReading one [] (files (file_at layout n))) c.node_after-after.ensures.is (c.in_ok-one.ensures.ok files told));
      first = elim c.if-first-after.branch [
        | then-first-after w ↦ subst (λ (s : Option Reading). IsReadIn s (d.prepared first) base (files (file_at layout first))) (sym w.other-is) tt
        | else-first-after+in_ok-begin w ↦
            subst (λ (s : Option Reading). IsReadIn s (d.prepared first) base (files (file_at layout first))) (sym w.other-is)
            (begun_at w.in_ok-begin.field-0 (d.prepared first) base (files (file_at layout first))
            (subst (λ (n : ℕ). IsReading w.in_ok-begin.field-0 [] (files (file_at layout n))) c.node_first-first.ensures.is (w.in_ok-begin.ensures.ok files (c.in_ok-one.ensures.read.same ∙ told))))
      ];
    }
