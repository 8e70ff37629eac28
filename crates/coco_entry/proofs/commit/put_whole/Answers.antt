use Rattle.std.proofs.Common.{◌≡◌, None, arith}
use Rattle.std.proofs.lemmas.Result.{on_ok_weaker}
use Rattle.coco_bytes.specs.Fields.{u8_bytes, u64_bytes}
use Rattle.coco_bytes.specs.Lists.{counted}
use Rattle.coco_entry.specs.Calls.{done_bytes, IsDone}
use Rattle.coco_entry.proofs.FitLemmas.{fit_both, three_put}
use Rattle.coco_entry.proofs.commit.put_whole.Goals as goal

pub returns-clause-ok : goal.returns-clause-ok
returns-clause-ok c =
    on_ok_weaker c.put_dones.result
    (λ put. three_put c.args.out.now.items (u8_bytes 2) (u64_bytes c.args.epoch) (counted done_bytes c.args.dones.now) c.put_u8.new.out.items c.put_u64.new.out.items c.put_dones.new.out.items c.in_ok-put_u8.ensures.ok c.in_ok-put_u64.ensures.ok put)
    c.put_dones.ensures.ok

pub returns-clause-entry : goal.returns-clause-entry
returns-clause-entry c =
    on_ok_weaker c.put_dones.result
    (λ all. record { epoch = omega (arith, c.ranges.epoch.fits); count = c.requires.count; dones = fit_both (λ _ done. done.epoch ≡ c.args.epoch) IsDone None c.args.dones.now c.requires.epochs all })
    c.put_dones.ensures.fit
