use Rattle.std.proofs.Common.{ℕ, [], refl, sym, subst, ◌∙◌}
use Rattle.coco_log.specs.Reading.{IsReading}
use Rattle.coco_log.proofs.OnlyRead.{read_first}
use Rattle.coco_log.proofs.log.Log.reopen.Goals as goal

pub loop-entries-init : goal.loop-entries-init
loop-entries-init g c =
    let begins = c.in_ok-entries.ensures in
    record {
      of = begins.of;
      read = read_first g.H.Host g.met.H.Host.only_now _;
      counts = refl;
      told = λ files told.
          let begun = begins.ok files (sym begins.read.same ∙ told) in
          ([], subst (λ (n : ℕ). IsReading c.in_ok-entries.entries [] (files n)) begins.of.in_file begun.reading);
    }
