use Rattle.std.proofs.Common.{◌-◌, nat_le, ap, arith}
use Rattle.std.specs.Prelude.{Result, Ok, Err, IfOk}
use Rattle.coco_load.specs.RowMaps.{joined}
use Rattle.std.proofs.lemmas.List.Sums.{prefix_len-le-length}
use Rattle.coco_types.specs.declared.call.Done.{Done}
use Rattle.coco_ast.specs.Fitting.{Fits}
use Rattle.coco_audit.proofs.Fitting.{all_drop}
use Rattle.coco_commands.proofs.VerdictLemmas.{serial_told, unlike_told}
use Rattle.coco_commands.proofs.verifying.verdict_of.Goals as goal

if_ok : {T E : Type 0} (r : Result T E) (P Q : T → Type 0) → IfOk r P → ((x : T) → P x → Q x) → IfOk r Q
if_ok (Ok x) P Q is then = then x is
if_ok (Err e) P Q is then = tt

pub verify_of-requires : goal.verify_of-requires
verify_of-requires c = all_drop (λ (d : Done). Fits c.args.store.now.procs d.call) c.count_until-first.result c.args.store.now.kept.dones c.requires.keeps.fit

pub overflow_sub-len : goal.overflow_sub-len
overflow_sub-len c =
    let least = prefix_len-le-length (λ (d : Done). nat_le d.epoch c.args.store.now.layout.base_epoch) c.args.store.now.kept.dones in
    omega (arith, least, c.count_until-first.ensures, c.len.ensures.len)

pub returns-in-Ok-None-clause-verdict : goal.returns-in-Ok-None-clause-verdict
returns-in-Ok-None-clause-verdict c = if_ok c.serial_verdict.result _ _ c.serial_verdict.ensures (λ v is files d holds has.
    let runs = rw c.in-Ok-None.field-0-is at c.in-Ok-None.ensures.serial in
    serial_told files d holds c.args.store.now has c.count_until-first.result c.count_until-first.ensures (joined c.as_slice.result.now) (ap joined c.as_slice.ensures.value) v.ending v.text.items _ is.0 is.1
    (ap (λ n. n - c.count_until-first.result) c.len.ensures.len) runs)

pub returns-in-Ok-Some-clause-verdict : goal.returns-in-Ok-Some-clause-verdict
returns-in-Ok-Some-clause-verdict c = if_ok c.not_serial_verdict.result _ _ c.not_serial_verdict.ensures (λ v is files d holds has.
    let unlike = rw c.in-Ok-Some.field-0-is at c.in-Ok-Some.ensures.unlike in
    unlike_told files d holds c.args.store.now has c.count_until-first.result c.count_until-first.ensures (joined c.as_slice.result.now) (ap joined c.as_slice.ensures.value) v.ending v.text.items c.in-Ok-Some.found is.0 is.1 unlike)
