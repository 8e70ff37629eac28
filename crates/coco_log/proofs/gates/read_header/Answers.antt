use Rattle.std.proofs.Common.{◌≡◌, ℕ, ◌+◌, ◌-◌, List, take, drop, refl, sym, ap, subst, ◌∙◌}
use Rattle.std.specs.Prelude.{slice_range}
use Rattle.coco_log.specs.Grammar.{IsNoHeader}
use Rattle.coco_log.proofs.Walks.{part_from, no_header, same_place}
use Rattle.coco_log.proofs.gates.read_header.Goals as goal

pub returns-in-Some-clause-refused : goal.returns-in-Some-clause-refused
returns-in-Some-clause-refused g c at files e told part =
    let seen = c.reach.new.self in
    let file = files c.args.window.now.file in
    let skip = c.in_ok-skip.skip in
    let shown : slice_range c.deref.result.now skip seen.count ≡ take (seen.count - skip) (files c.args.window.now.file) =
    ap (λ (l : List ℕ). slice_range l skip seen.count) c.deref.ensures.value
    ∙ part_from seen.from seen.count skip seen.bytes.items file (c.in_ok-skip.ensures.part files told part) c.in_ok-skip.ensures.within
    ∙ ap (λ (n : ℕ). take (seen.count - skip) (drop n file)) c.in_ok-skip.ensures.place in
    let found = c.in-Some.ensures.differs c.in-Some.at refl in
    subst (IsNoHeader c.args.kind file) (same_place _ _ at e)
    (no_header c.args.kind (seen.count - skip) c.in-Some.at file (c.in_ok-skip.ensures.enough files told) found.0
    (ap (λ (l : List ℕ). take c.in-Some.at l) (sym shown) ∙ found.1)
    (λ same. found.2 (ap (λ (l : List ℕ). take (c.in-Some.at + 1) l) shown ∙ same)))
