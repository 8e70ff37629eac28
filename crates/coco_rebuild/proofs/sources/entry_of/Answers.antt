use Rattle.std.proofs.Common.{◌≡◌, ◌<◌, ◌∷◌, [], ◌++◌, Result, Err, sym, subst, ◌∙◌, arith, append_assoc}
use Rattle.std.proofs.lemmas.Result.{err_from_is_err_and}
use Rattle.coco_entry.specs.declared.prepared.Prepared.{Prepared}
use Rattle.coco_log.proofs.OnlyRead.{read_then}
use Rattle.coco_read.specs.declared.fault.OpenFault.{OpenFault}
use Rattle.coco_rebuild.specs.Sources.{IsFoundAt}
use Rattle.coco_rebuild.proofs.Reading.{at_first, at_next, first_failed, found, next_failed, not_above}
use Rattle.coco_rebuild.proofs.sources.entry_of.Goals as goal

pub returns-in_err-prepared-clause-found : goal.returns-in_err-prepared-clause-found
returns-in_err-prepared-clause-found g c all last files told has less upto =
    let file = files c.args.file in
    let failed = c.in_err-prepared.field-0.0 in
    let r = c.next_entry.new.entries in
    let p = err_from_is_err_and c.from_residual.result c.from_residual.ensures.1 in
    let same : c.from_residual.result ≡ Err failed = cc (p.1, p.2) in
    subst (λ (x : Result Prepared OpenFault). IsFoundAt x r all c.args.epoch file) (sym same)
    (first_failed all c.args.epoch file has failed c.args.entries.now r last less upto (c.in_err-prepared.ensures.next all upto.done upto.rest files told has.are upto.are upto.reading))

pub loop-prepared-init : goal.loop-prepared-init
loop-prepared-init g c =
    let next = c.in_ok-prepared.ensures in
    record {
      of = next.of;
      is = next.is;
      at = λ all last files told has less upto.
          at_first all c.args.epoch (files c.args.file) has c.args.entries.now c.next_entry.new.entries last c.in_ok-prepared.prepared less upto (next.next all upto.done upto.rest files told has.are upto.are upto.reading);
      read = next.read;
      counts = next.counts;
    }

pub returns-in_err-prepared-2-clause-found : goal.returns-in_err-prepared-2-clause-found
returns-in_err-prepared-2-clause-found g c all last files told has less upto =
    let file = files c.args.file in
    let inv = c.loop-prepared.invariant in
    let was = c.loop-prepared.prepared in
    let at = inv.at all last files told has less upto in
    let failed = c.in_err-prepared-2.field-0.0 in
    let r = c.next_entry-in-loop-prepared.new.entries in
    let p = err_from_is_err_and c.from_residual-in_err-prepared-2.result c.from_residual-in_err-prepared-2.ensures.1 in
    let same : c.from_residual-in_err-prepared-2.result ≡ Err failed = cc (p.1, p.2) in
    subst (λ (x : Result Prepared OpenFault). IsFoundAt x r all c.args.epoch file) (sym same)
    (next_failed all c.args.epoch file has failed c.loop-prepared.entries r was c.loop-prepared-test.true at
    (c.in_err-prepared-2.ensures.next all (at.done ++ was ∷ []) at.rest files (inv.read.same ∙ told) has.are (at.are ∙ sym (append_assoc at.done (was ∷ []) at.rest)) at.reading))

pub loop-prepared-preserved : goal.loop-prepared-preserved
loop-prepared-preserved g c =
    let inv = c.loop-prepared.invariant in
    let was = c.loop-prepared.prepared in
    let next = c.in_ok-prepared-2.ensures in
    record {
      of = next.of;
      is = next.is;
      at = λ all last files told has less upto.
          (let at = inv.at all last files told has less upto in
          at_next all c.args.epoch (files c.args.file) has c.loop-prepared.entries c.next_entry-in-loop-prepared.new.entries was c.in_ok-prepared-2.prepared c.loop-prepared-test.true at
          (next.next all (at.done ++ was ∷ []) at.rest files (inv.read.same ∙ told) has.are (at.are ∙ sym (append_assoc at.done (was ∷ []) at.rest)) at.reading));
      read = read_then g.H.Host g.met.H.Host.only_now c.args.host.now c.loop-prepared.host c.next_entry-in-loop-prepared.new.host inv.read next.read;
      counts = next.counts ∙ inv.counts;
    }

pub returns-then-prepared-epoch-clause-found : goal.returns-then-prepared-epoch-clause-found
returns-then-prepared-epoch-clause-found g c all last files told has less upto =
    found all c.args.epoch (files c.args.file) has c.loop-prepared.entries c.loop-prepared.prepared (c.loop-prepared.invariant.at all last files told has less upto) c.if-prepared-epoch.true

pub returns-else-prepared-epoch-clause-found : goal.returns-else-prepared-epoch-clause-found
returns-else-prepared-epoch-clause-found g c all last files told has less upto =
    let e = c.loop-prepared.prepared in
    let not_below = c.loop-prepared-test.false in
    let other = c.if-prepared-epoch.false in
    let above : c.args.epoch < e.epoch = omega (arith, not_below, other) in
    absurd (not_above all c.args.epoch (files c.args.file) has c.loop-prepared.entries e (c.loop-prepared.invariant.at all last files told has less upto) above)
