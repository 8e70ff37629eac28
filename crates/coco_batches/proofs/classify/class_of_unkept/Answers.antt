use Rattle.std.proofs.Common.{◌∙◌, ◌+◌, ◌≤◌, ◌<◌, None, Some, ap, sym, arith, length, true≢false}
use Rattle.std.specs.Option.{option_copied}
use Rattle.coco_types.specs.Limits.{most_kept}
use Rattle.coco_types.proofs.CallEquality.{call_Decides}
use Rattle.coco_batches.specs.Asking.{request_under}
use Rattle.coco_batches.proofs.ClassLemmas.{fresh_known, full_class, known_once, new_class, none_under, old_class, reused_class, same_class, some_under}
use Rattle.coco_batches.proofs.classify.class_of_unkept.Goals as goal

pub returns-in-Some-clause-class : goal.returns-in-Some-clause-class
returns-in-Some-clause-class c =
    let k = c.args.kept.now in
    let there = some_under (request_under c.args.request.id c.args.fresh.now) c.in-Some.call.now (sym c.call_of.ensures ∙ ap option_copied c.in-Some.is) in
    same_class k c.args.fresh.now c.args.request there.0 (fresh_known c.args.request.id k.dones c.args.fresh.now (Some there.0) c.requires.unkept there.1)
    (there.2 ∙ (call_Decides c.in-Some.call.now c.args.request.call).0 (sym c.eq.ensures ∙ c.if-eq.true))

pub returns-in-Some-2-clause-class : goal.returns-in-Some-2-clause-class
returns-in-Some-2-clause-class c =
    let k = c.args.kept.now in
    let there = some_under (request_under c.args.request.id c.args.fresh.now) c.in-Some.call.now (sym c.call_of.ensures ∙ ap option_copied c.in-Some.is) in
    reused_class k c.args.fresh.now c.args.request there.0 (known_once k c.args.fresh.now c.len-held.ensures.distinct c.requires.new)
    (fresh_known c.args.request.id k.dones c.args.fresh.now (Some there.0) c.requires.unkept there.1)
    (λ same. true≢false (sym ((call_Decides c.in-Some.call.now c.args.request.call).1 (sym there.2 ∙ same)) ∙ sym c.eq.ensures ∙ c.if-eq.false))

pub returns-in-None-clause-class : goal.returns-in-None-clause-class
returns-in-None-clause-class c =
    let k = c.args.kept.now in
    let none = none_under (request_under c.args.request.id c.args.fresh.now) (sym c.call_of.ensures ∙ ap option_copied c.in-None.is) in
    old_class k c.args.fresh.now c.args.request (fresh_known c.args.request.id k.dones c.args.fresh.now None c.requires.unkept none) (c.requires.old ∙ c.if-old.true)

pub returns-in-None-2-clause-class : goal.returns-in-None-2-clause-class
returns-in-None-2-clause-class c =
    let k = c.args.kept.now in
    let none = none_under (request_under c.args.request.id c.args.fresh.now) (sym c.call_of.ensures ∙ ap option_copied c.in-None-2.is) in
    let many : most_kept ≤ length k.dones + length c.args.fresh.now = omega (arith, c.if-len-held.true, c.len.ensures.len, c.len-held.ensures.len, c.requires.new.few) in
    full_class k c.args.fresh.now c.args.request (fresh_known c.args.request.id k.dones c.args.fresh.now None c.requires.unkept none) (c.requires.old ∙ c.if-old.false) many

pub returns-clause-class : goal.returns-clause-class
returns-clause-class c =
    let k = c.args.kept.now in
    let none = none_under (request_under c.args.request.id c.args.fresh.now) (sym c.call_of.ensures ∙ ap option_copied c.in-None-3.is) in
    let room : length k.dones + length c.args.fresh.now < most_kept = omega (arith, c.if-len-held.false, c.len.ensures.len, c.len-held.ensures.len, c.requires.new.few) in
    new_class k c.args.fresh.now c.args.request (fresh_known c.args.request.id k.dones c.args.fresh.now None c.requires.unkept none) (c.requires.old ∙ c.if-old.false) room
