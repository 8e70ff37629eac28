use Rattle.std.proofs.Common.{ℕ, ◌-◌, List, take, drop, ap, subst, ◌∙◌}
use Rattle.coco_log.specs.Gates.{IsHead}
use Rattle.coco_log.proofs.Walks.{part_from, head_of_all}
use Rattle.coco_log.proofs.gates.head_at.Goals as goal

pub returns-clause-head : goal.returns-clause-head
returns-clause-head g c files told part =
    let seen = c.reach.new.self in
    let file = files c.args.window.now.file in
    let skip = c.in_ok-skip.skip in
    let shown = ap (λ (l : List ℕ). take (c.reach.new.self.count - c.in_ok-skip.skip) (drop c.in_ok-skip.skip l)) c.deref.ensures.value ∙ part_from seen.from seen.count skip seen.bytes.items file (c.in_ok-skip.ensures.part files told part) c.in_ok-skip.ensures.within
    ∙ ap (λ (n : ℕ). take (seen.count - skip) (drop n file)) c.in_ok-skip.ensures.place in
    head_of_all (drop c.args.at file) (seen.count - skip) c.head_of.result (c.in_ok-skip.ensures.enough files told)
    (subst (λ (l : List ℕ). IsHead l c.head_of.result) shown c.head_of.ensures)
