use Rattle.std.proofs.Common.{◌∙◌, ap, refl}
use Rattle.coco_recover.specs.Bases.{entries_of}
use Rattle.coco_recover.specs.Layouts.{setting_of}
use Rattle.coco_recover.proofs.Basing.{based_on_none}
use Rattle.coco_recover.proofs.base.Based.without_file.Goals as goal

pub returns : goal.returns
returns c =
    let s = setting_of c.args.last.now in
    let made = c.in_ok-gathered.ensures in
    rw c.into_based.ensures
    (record {
      based = based_on_none s c.in_ok-gathered.gathered c.new-2.result made.gathered made.entries (c.new-2.ensures s refl);
      none = ap entries_of made.entries;
      keep = made.gathered.its_keep ∙ made.keep;
    })
