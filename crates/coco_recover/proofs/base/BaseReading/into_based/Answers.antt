use Rattle.std.proofs.Common.{refl}
use Rattle.coco_recover.specs.Bases.{entries_of}
use Rattle.coco_recover.specs.Layouts.{setting_of}
use Rattle.coco_recover.proofs.base.BaseReading.into_based.Goals as goal

pub returns : goal.returns
returns c =
    let r = c.self.inside in
    let basing = c.self.invariant c.if-self.false in
    rw (← c.self.view_is, c.if-self.false, c.into_based.ensures)
    (record {
      based = record {
        behind = record {
          each = basing.each;
          rules = c.into_history.ensures (setting_of r.last.now) (entries_of r.gathered.entries.items) basing.behind;
          kept = basing.gathered.replies;
        };
        maps = basing.gathered.maps;
        values = basing.gathered.values;
      };
      entries = refl;
      keep = basing.gathered.its_keep;
      err = tt;
    })
