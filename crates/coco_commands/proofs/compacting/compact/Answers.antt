use Rattle.std.proofs.Common.{ℕ, ap, inr, subst, ◌∙◌}
use Rattle.coco_log.specs.Faults.{CountsFault}
use Rattle.coco_recover.specs.Opening.{entry_in}
use Rattle.coco_ckpt.specs.Compacting.{compact_files}
use Rattle.coco_commands.proofs.compacting.compact.Goals as goal

pub compact_store-requires-clause-sound : goal.compact_store-requires-clause-sound
compact_store-requires-clause-sound g c = c.in-Ok.ensures.sound

pub compact_store-requires-clause-stands : goal.compact_store-requires-clause-stands
compact_store-requires-clause-stands g c = c.in-Ok.ensures.stand.root

pub returns : goal.returns
returns g c =
    let mid = c.recover.new.host in
    let new = c.compact_store.new.host in
    inr (record {
      opened = mid;
      opening = c.in-Ok.ensures.read;
      holds = λ files are. (let opening = c.in-Ok.ensures.ok files are in (opening.contents, opening.holds));
      added = c.compact_store.result;
      ends = c.ending_of_adding.ensures;
      cause = subst (λ (n : ℕ). CountsFault c.compact_store.result n (g.H.Host.disk_faults new)) c.in-Ok.ensures.counts c.compact_store.ensures.counts;
      quiet = c.compact_store.ensures.said ∙ c.in-Ok.ensures.read.quiet;
      named = compact_files (entry_in c.in-Ok.store);
      are_new = λ files d are holds. ap compact_files ((c.in-Ok.ensures.ok files are).has d holds).layout;
      files = c.compact_store.ensures.files;
      crash = c.compact_store.ensures.crash;
      gains = λ files d are good. c.compact_store.ensures.gains d ((c.in-Ok.ensures.ok files are).has d good.holds) (c.in-Ok.ensures.rests files d are good);
    })
