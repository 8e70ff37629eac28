use Rattle.std.proofs.Common.{ℕ, ap, inr, subst, sym, ◌∙◌}
use Rattle.coco_append.specs.Gaining.{HasLogsOf, HasStore}
use Rattle.coco_append.proofs.PastLemmas.{gains_weaker, such_of_logs}
use Rattle.coco_log.specs.Faults.{CountsFault}
use Rattle.coco_commands.specs.Keeping.{contents_keeping, entry_keeping}
use Rattle.coco_commands.proofs.KeepLemmas.{keep_rests, keep_switches, store_still}
use Rattle.coco_commands.proofs.migrating.migrate.Goals as goal

pub returns : goal.returns
returns g c =
    let R = g.H.Host.reads in
    let L = g.H.Host.may_leave in
    let keep = c.args.keep in
    let mid = c.recover.new.host in
    let new = c.add_layout.new.host in
    inr (record {
      opened = mid;
      opening = c.in-Ok.ensures.read;
      holds = λ files are. (let opening = c.in-Ok.ensures.ok files are in (opening.contents, opening.holds));
      added = c.add_layout.result;
      ends = c.ending_of_adding.ensures;
      cause = subst (λ (n : ℕ). CountsFault c.add_layout.result n (g.H.Host.disk_faults new)) c.in-Ok.ensures.counts c.add_layout.ensures.counts;
      stream = c.add_layout.ensures.stream ∙ c.in-Ok.ensures.read.stream;
      quiet = c.add_layout.ensures.said ∙ c.in-Ok.ensures.read.quiet;
      files = c.add_layout.ensures.files;
      crash = c.add_layout.ensures.crash;
      gains = λ files d are good.
          let rests = c.in-Ok.ensures.rests files d are good in
          let gains = c.add_layout.ensures.gains d (contents_keeping keep d) (keep_switches files d keep good c.requires) (sym (ap (entry_keeping keep) ((c.in-Ok.ensures.ok files are).has d good.holds).layout)) (keep_rests d keep (R mid) (L mid) rests) in
          gains_weaker g.H.Host c.add_layout.result (HasLogsOf (L mid)) (HasStore (contents_keeping keep d)) (HasStore d) (HasStore (contents_keeping keep d)) mid new
          (such_of_logs (HasStore d) (L mid) (store_still d) rests.left) (λ image now. now) gains;
    })
