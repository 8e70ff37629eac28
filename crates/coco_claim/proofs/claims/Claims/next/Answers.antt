use Rattle.std.proofs.Common.{◌≡◌, ℕ, leb, length, sym, ap, ◌∙◌, arith}
use Rattle.coco_claim.specs.declared.hand.Plan.{Plan}
use Rattle.coco_claim.specs.Numbers.{late}
use Rattle.coco_claim.specs.Seats.{Round, Drawer}
use Rattle.coco_claim.proofs.Counts.{count-none}
use Rattle.coco_claim.proofs.Keeping.{draws}
use Rattle.coco_claim.proofs.claims.Claims.next.Goals as goal

pub fetch_add-number-requires : goal.fetch_add-number-requires
fetch_add-number-requires c =
    let v = c.seat.inside.seat.me.0 in
    let two = c.self.invariant.0 in
    let key = c.self.invariant.2 in
    let table : c.seat.inside.seat.table_id ≡ c.self.inside.table.shared.table_id =
    ap (λ (d : Drawer). d.claims.table) c.seat.view_is ∙ ap (λ (r : Round). r.table) (c.requires ∙ sym c.self.view_is) in
    let n : v.plan.n ≡ c.self.inside.plan.n = ap (λ (d : Drawer). d.claims.n) c.seat.view_is ∙ ap (λ (r : Round). r.n) (c.requires ∙ sym c.self.view_is) in
    let key_n : c.self.inside.table.shared.key.n ≡ c.self.inside.plan.n = ap (λ (p : Plan). p.n) key in
    let key_seats : c.self.inside.table.shared.key.seats ≡ c.self.inside.plan.seats = ap (λ (p : Plan). p.seats) key in
    let n_fits = c.self.invariant.3 in
    let seats_fit = c.self.invariant.4 in
    let none_late : late v.plan.n v.drawn ≡ 0 = count-none (λ x. leb v.plan.n x) v.drawn (sym c.seat.invariant.flag ∙ c.if-seat.false) in
    let marks : length v.marks ≡ 1 = ap length c.seat.invariant.one in (
      table,
      omega (arith, two),
      draws _ _ _ _ (ap (λ (m : ℕ). late m v.drawn) (key_n ∙ sym n) ∙ none_late) (omega arith) (omega arith) (omega arith),
    )
