use Rattle.std.proofs.Common.{[], List, ap, refl, subst, sym}
use Rattle.coco_store.specs.Entries.{BaseEntry}
use Rattle.coco_store.specs.Rules.{EachBehind, IsNextBase}
use Rattle.coco_rules.specs.Basing.{IsBehindBase}
use Rattle.coco_recover.specs.Bases.{entries_of}
use Rattle.coco_recover.specs.Layouts.{setting_of}
use Rattle.coco_recover.proofs.base.BaseReading.new.Goals as goal

pub invariant_of-result : goal.invariant_of-result
invariant_of-result c =
    let s = setting_of c.args.last.now in
    let none = ap entries_of c.in_ok-gathered.ensures.entries in
    λ _. record {
      each = subst (λ (l : List BaseEntry). EachBehind (IsNextBase s) [] l) (sym none) tt;
      behind = subst (λ (l : List BaseEntry). IsBehindBase s l c.new-2.result) (sym none) (c.new-2.ensures s refl);
      gathered = c.in_ok-gathered.ensures.gathered;
    }
