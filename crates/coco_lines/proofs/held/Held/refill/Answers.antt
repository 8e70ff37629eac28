use Rattle.std.proofs.Common.{◌≡◌, ◌-◌, ◌∙◌, ap, sym, subst, take, arith}
use Rattle.std.proofs.lemmas.List.{with_items_is}
use Rattle.std.specs.Vec.{with_items}
use Rattle.coco_lines.specs.Reads.{Gives, source_moment}
use Rattle.coco_lines.proofs.held.Held.refill.Goals as goal

pub returns-clause-gives : goal.returns-clause-gives
returns-clause-gives g c =
    let count = c.in_ok-count.count in
    let same : count ≡ count - 0 = omega arith in
    let items = with_items_is c.if-is_empty.self-inside.buffer c.read_front.new.into (c.read_front.auto.into ∙ c.as_mut_slice.ensures.len) in
    let bytes = ap (λ xs. take count xs) (sym items) ∙ ap (λ n. take n (with_items c.if-is_empty.self-inside.buffer c.read_front.new.into).items) same in
    subst (λ xs. Gives (source_moment g.S.Source c.args.source.now) (source_moment g.S.Source c.read_front.new.source) xs) bytes c.in_ok-count.ensures.gives
