use Rattle.std.proofs.Common.{◌≡◌, ◌+◌, ◌-◌, ◌≤◌, ◌<◌, ◌%◌, ◌^◌, length, ap, sym, ◌∙◌, Some, None, arith}
use Rattle.std.specs.Option.{option_copied}
use Rattle.coco_ast.specs.History.{done_of}
use Rattle.coco_kept.specs.Holding.{number_of}
use Rattle.coco_kept.proofs.Numbers.{no_done, found, item_copied}
use Rattle.coco_kept.proofs.kept.Kept.get.Goals as goal

pub returns-in-Some : goal.returns-in-Some
returns-in-Some c =
    let number : number_of c.args.id c.self.inside.first c.self.inside.dones.items ≡ Some c.in-Some.number.now = sym (c.self.invariant.numbers c.args.id) ∙ sym c.get.ensures.value ∙ ap option_copied c.in-Some.is in
    let few : length c.self.inside.dones.items ≤ 2 ^ 64 = omega arith in
    let low : c.self.inside.first < 2 ^ 64 = omega arith in
    item_copied c.self.inside.dones.items ((c.in-Some.number.now + (2 ^ 64 - c.self.inside.first)) % 2 ^ 64) c.get-in-Some.result c.get-in-Some.ensures.item
    ∙ found c.args.id c.self.inside.first c.in-Some.number.now c.self.inside.dones.items low few number ∙ ap (λ k. done_of c.args.id k.dones) c.self.view_is

pub returns-in-None : goal.returns-in-None
returns-in-None c =
    let none : number_of c.args.id c.self.inside.first c.self.inside.dones.items ≡ None = sym (c.self.invariant.numbers c.args.id) ∙ sym c.get.ensures.value ∙ ap option_copied c.in-None.is in
    sym (no_done c.args.id c.self.inside.first c.self.inside.dones.items none) ∙ ap (λ k. done_of c.args.id k.dones) c.self.view_is
