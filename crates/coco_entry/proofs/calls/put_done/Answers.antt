use Rattle.std.proofs.Common.{◌≡◌, ℕ, List, ◌++◌, ap, ◌∙◌, append_assoc}
use Rattle.std.proofs.lemmas.Result.{on_ok_weaker}
use Rattle.coco_bytes.specs.Fields.{u64_bytes}
use Rattle.coco_entry.specs.Calls.{call_bytes, reply_bytes, timed_bytes}
use Rattle.coco_entry.proofs.FitLemmas.{three_put}
use Rattle.coco_entry.proofs.calls.put_done.Goals as goal

pub returns-clause-ok : goal.returns-clause-ok
returns-clause-ok c =
    let d = c.args.done.now in
    let old = c.args.out.now.items in
    let timed : c.put_u64-2.new.out.items ≡ old ++ timed_bytes d.id d.call d.time =
    three_put old (u64_bytes d.id) (call_bytes d.call) (u64_bytes d.time) c.put_u64.new.out.items c.put_call.new.out.items c.put_u64-2.new.out.items c.in_ok-put_u64.ensures.ok c.in_ok-put_call.ensures.ok c.in_ok-put_u64-2.ensures.ok in
    on_ok_weaker c.put_reply.result
    (λ put. put ∙ ap (λ (z : List ℕ). z ++ reply_bytes d.reply) timed ∙ append_assoc old (timed_bytes d.id d.call d.time) (reply_bytes d.reply))
    c.put_reply.ensures.ok
