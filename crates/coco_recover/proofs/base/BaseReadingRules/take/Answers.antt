use Rattle.std.proofs.Common.{◌≡◌, [], ◌∷◌, ◌++◌, ◌∙◌, ap, refl}
use Rattle.coco_rules.proofs.JudgedLemmas.{each_more}
use Rattle.coco_store.specs.Rules.{IsNextBase}
use Rattle.coco_recover.specs.Bases.{base_rules, entries_of, entry_of}
use Rattle.coco_recover.specs.Layouts.{setting_of}
use Rattle.coco_recover.proofs.Basing.{more_entries}
use Rattle.coco_recover.proofs.Judged.{broken, unread}
use Rattle.coco_recover.proofs.Places.{base_keeps, base_place}
use Rattle.coco_recover.proofs.Within.{base_fault}
use Rattle.coco_recover.proofs.base.BaseReadingRules.take.Goals as goal

pub returns-in-Err-clause-takes : goal.returns-in-Err-clause-takes
returns-in-Err-clause-takes c =
    let r = c.self.inside in
    let s = setting_of r.last.now in
    let before = entries_of r.gathered.entries.items in
    rw (← c.self.view_is, c.if-self.false, c.refused.ensures)
    (unread (base_rules s) before c.args.body.now before c.first_bad.result (c.first_bad.ensures s before (c.self.invariant c.if-self.false).behind c.in-Err.ensures.fault) (base_fault before c.args.body.now))

pub returns-in-Some-clause-takes : goal.returns-in-Some-clause-takes
returns-in-Some-clause-takes c =
    let r = c.self.inside in
    let s = setting_of r.last.now in
    let before = entries_of r.gathered.entries.items in
    let e = entry_of c.in-Ok.part in
    let first = rw c.in-Some.is at (c.in_ok-at.ensures s before refl (c.self.invariant c.if-self.false).behind) in
    rw (← c.self.view_is, c.if-self.false)
    (broken (base_rules s) before c.args.body.now before e c.in-Some.at c.in-Ok.ensures.found.0 c.in-Ok.ensures.found.1 first (base_place s before e c.in-Some.at first.refused))

pub gather-requires-clause-next : goal.gather-requires-clause-next
gather-requires-clause-next c =
    let r = c.self.inside in
    (rw c.in_default.is at (c.in_ok-at.ensures (setting_of r.last.now) (entries_of r.gathered.entries.items) refl (c.self.invariant c.if-self.false).behind)).0

pub invariant_of-self-2 : goal.invariant_of-self-2
invariant_of-self-2 c =
    let r = c.self.inside in
    let s = setting_of r.last.now in
    let before = entries_of r.gathered.entries.items in
    let e = entry_of c.in-Ok.part in
    let basing = c.self.invariant c.if-self.false in
    let good = rw c.in_default.is at (c.in_ok-at.ensures s before refl basing.behind) in
    let longer : entries_of c.gather.new.self.entries.items ≡ before ++ e ∷ [] = ap entries_of c.gather.ensures.entries ∙ more_entries r.gathered.entries.items c.in-Ok.part in
    λ _. record {
      each = rw longer (each_more (IsNextBase s) [] before e basing.each good.0);
      behind = rw longer good.1;
      gathered = c.in_ok-gather.ensures.gathered;
    }

pub returns-clause-takes : goal.returns-clause-takes
returns-clause-takes c =
    let r = c.self.inside in
    let s = setting_of r.last.now in
    let before = entries_of r.gathered.entries.items in
    let e = entry_of c.in-Ok.part in
    let good = rw c.in_default.is at (c.in_ok-at.ensures s before refl (c.self.invariant c.if-self.false).behind) in
    rw (← c.self.view_is, c.if-self.false)
    (record {
      entry = e;
      is = c.in-Ok.ensures.found.0;
      bytes = c.in-Ok.ensures.found.1;
      keeps = base_keeps s before e good.0;
      last = ap entries_of c.gather.ensures.entries ∙ more_entries r.gathered.entries.items c.in-Ok.part;
    })
