use Rattle.std.proofs.Common.{inr, refl, subst, sym, ◌∙◌}
use Rattle.coco_audit.specs.Dumping.{HaveValues, text_of}
use Rattle.coco_ending.specs.declared.ending.Ending.TheVariants as ending
use Rattle.coco_recover.specs.Opening.{HaveRows}
use Rattle.coco_store.specs.Contents.{map_in}
use Rattle.coco_commands.specs.Telling.{EndsDump, IsDump}
use Rattle.coco_commands.proofs.StoreTexts.{text_with_map}
use Rattle.coco_commands.proofs.TellLemmas.{tells}
use Rattle.coco_commands.proofs.dumping.dump.Goals as goal

pub returns-in-Ok-new : goal.returns-in-Ok-new
returns-in-Ok-new g c =
    let said = c.say_pieces.ensures in
    inr (tells g.H.Host g.H.Host.say_faults g.H.Host.disk_faults HaveRows IsDump EndsDump
    c.args.host.now c.recover_whole.new.host c.in-Ok.ensures.read c.in-Ok.ensures.read.stream c.in-Ok.ensures.counts (λ files told. let opening = c.in-Ok.ensures.ok files told in (opening.contents, opening.holds))
    (text_of c.in-Ok-new.dump) ending.Finished refl
    (λ files d told holds rows.
    let has = (c.in-Ok.ensures.ok files told).has d holds in
    c.in-Ok-new.ensures (map_in d) (subst (HaveValues (map_in d)) (sym c.as_slice-shards.ensures.value) (has.primaries rows).values) ∙ text_with_map d _ has)
    c.say_pieces.result c.say_pieces.new.host said.says said.same said.crash said.sees said.disk)
