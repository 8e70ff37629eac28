use Rattle.std.proofs.Common.{◌≡◌, ℕ, [], ◌∷◌, ◌++◌, length, sym, ap, ◌∙◌, arith}
use Rattle.std.proofs.lemmas.List.Sums.{sum_by_push}
use Rattle.coco_claim.specs.declared.hand.Plan.{Plan}
use Rattle.coco_claim.specs.Numbers.{times}
use Rattle.coco_claim.specs.Seats.{Round, Drawer, times_drawn}
use Rattle.coco_claim.proofs.Closing.{closes, late_among}
use Rattle.coco_claim.proofs.claims.Claims.close.Goals as goal

pub free-requires : goal.free-requires
free-requires c = λ k inside. let a = c.close_with.ensures.counts.1 in let b = c.self.invariant.1 in absurd (omega arith)

pub returns : goal.returns
returns c = λ x below.
    let v = c.join_all.new.all.me.0 in
    let key = c.self.invariant.2 in
    let n : c.self.inside.table.shared.key.n ≡ c.args.self.n = ap (λ (p : Plan). p.n) key ∙ ap (λ (r : Round). r.n) c.self.view_is in
    let seats : c.self.inside.table.shared.key.seats ≡ c.args.self.seats = ap (λ (p : Plan). p.seats) key ∙ ap (λ (r : Round). r.seats) c.self.view_is in
    let one : length c.last.inside.seat.me.0.marks ≡ 1 = ap length c.last.invariant.one in
    let marks = c.join_all.ensures.marks in
    let had = c.requires.all.0 in
    let left = c.in-Some.ensures.len in
    let last : c.last.inside.seat.me.0.drawn ≡ c.in-Some.last.drawn = ap (λ (s : Drawer). s.drawn) c.last.view_is in
    let sums : (y : ℕ) → times y v.drawn ≡ times_drawn y c.args.seats.items = λ y.
    let a = c.join_all.ensures.drawn y in
    let b = sum_by_push (λ (s : Drawer). times y s.drawn) c.pop.new.self.items c.in-Some.last in
    let d : times y c.last.inside.seat.me.0.drawn ≡ times y c.in-Some.last.drawn = ap (times y) last in
    let e : times_drawn y c.args.seats.items ≡ times_drawn y (c.pop.new.self.items ++ c.in-Some.last ∷ []) = ap (times_drawn y) c.in-Some.ensures.items in
    omega arith
    in
    let late = late_among c.args.self c.args.seats.items c.requires.all.1 c.requires.ended in
    let above = late.1 in
    let some = late.2 in
    let same = sums late.0 in
    sym (sums x) ∙ closes c.self.inside.table.shared.key _ _ _ v c.close_with.ensures.values.2 (omega arith) late.0 (omega arith) (omega arith) x (omega arith)
