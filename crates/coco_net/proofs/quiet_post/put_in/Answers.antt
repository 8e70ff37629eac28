use Rattle.std.proofs.Common.{◌<◌, length, rules}
use Rattle.std.proofs.lemmas.Result.{on_err_weaker, on_ok_weaker}
use Rattle.coco_net.proofs.MailLemmas.{few_at, few_set}
use Rattle.coco_net.proofs.PassingLemmas.{box_more, box_stays}
use Rattle.coco_net.proofs.quiet_post.put_in.Goals as goal

pub put_behind-requires : goal.put_behind-requires
put_behind-requires c =
    let within : c.args.posted.to < length c.args.coming.now.items = search rules in
    few_at (λ q. q.items) c.args.coming.now.items c.args.posted.to c.in-Some.letters.now c.requires c.in-Some.ensures.value within

pub returns-in-Some-clause-few : goal.returns-in-Some-clause-few
returns-in-Some-clause-few c = few_set (λ q. q.items) c.args.coming.now.items c.args.posted.to c.put_behind.new.letters c.requires c.put_behind.ensures.few

pub returns-in-Some-clause-ok : goal.returns-in-Some-clause-ok
returns-in-Some-clause-ok c =
    let within : c.args.posted.to < length c.args.coming.now.items = search rules in
    on_ok_weaker c.put_behind.result
    (λ is. λ these were. box_more (λ q. q.items) c.args.coming.now.items c.in-Some.letters.now c.put_behind.new.letters these c.args.posted within c.in-Some.ensures.value is were)
    c.put_behind.ensures.ok

pub returns-in-Some-clause-err : goal.returns-in-Some-clause-err
returns-in-Some-clause-err c =
    let within : c.args.posted.to < length c.args.coming.now.items = search rules in
    on_err_weaker c.put_behind.result
    (λ same. (same.0, box_stays (λ q. q.items) c.args.coming.now.items c.args.posted.to c.in-Some.letters.now c.put_behind.new.letters within c.in-Some.ensures.value same.1))
    c.put_behind.ensures.err
