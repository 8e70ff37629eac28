use Rattle.std.proofs.Common.{◌≡◌, ℕ, ◌+◌, ◌-◌, ◌≤◌, [], map, sym, ap, ◌∙◌, subst, arith}
use Rattle.std.specs.List.{range_with_len}
use Rattle.coco_claim.specs.Drawing.{Sat}
use Rattle.coco_claim.proofs.Keeping.{opens, splits}
use Rattle.coco_claim.proofs.Making.{marked, new_seat, kept, given, sits, drawer_made, joined_row}
use Rattle.coco_claim.proofs.claims.Claims.make.Goals as goal

pub of_words-requires : goal.of_words-requires
of_words-requires c = opens _

pub loop-init : goal.loop-init
loop-init c = record {
  table = c.in_ok-table.ensures.2;
  hand = let e : c.args.seats ≡ c.args.seats - 0 = omega arith in c.in_ok-table.ensures.4 ∙ ap (λ (n : ℕ). (marked (record { n = c.args.n; seats = c.args.seats }) 0 n, [])) e;
  row = c.in_ok-row.ensures.items;
  room = (c.in_ok-row.ensures.len, c.in_ok-row.ensures.capacity);
}

pub split_seat-seat-requires : goal.split_seat-seat-requires
split_seat-seat-requires c =
    let i = c.loop.invariant in
    let two = c.in_ok-table.ensures.0 in
    (i.table, omega (arith, two), splits _ _ _ (ap (λ (m : Sat). m.0.drawn) i.hand))

pub invariant_of-push_reserved : goal.invariant_of-push_reserved
invariant_of-push_reserved c =
    let i = c.loop.invariant in
    let e = c.split_seat-seat.ensures.4 in
    sits _ _ _ (ap (λ (m : Sat). m.0) e ∙ given _ _ _ _ c.loop-test.true i.hand) (ap (λ (m : Sat). m.1) e)

pub push_reserved-requires : goal.push_reserved-requires
push_reserved-requires c = let r = c.loop.invariant.room in omega arith

pub loop-preserved : goal.loop-preserved
loop-preserved c =
    let i = c.loop.invariant in
    let s = c.split_seat-seat.ensures in
    let p = c.push_reserved.ensures in
    record {
      table = s.0 ∙ i.table;
      hand = s.2 ∙ kept _ _ _ _ c.loop-test.true i.hand;
      row = p.items ∙ joined_row _ _ _ _ _ i.row (drawer_made c.split_seat-seat.result _ _ _ (s.3 ∙ i.table) (ap (λ (m : Sat). m.0) s.4 ∙ given _ _ _ _ c.loop-test.true i.hand));
      room = (p.len ∙ ap (λ (n : ℕ). n + 1) i.room.0, subst (λ (n : ℕ). c.args.seats ≤ n) (sym p.capacity) i.room.1);
    }

pub returns-clause-seats : goal.returns-clause-seats
returns-clause-seats c =
    let e : c.loop.counter ≡ c.args.seats = omega arith in
    c.loop.invariant.row ∙ ap (λ (n : ℕ). map (new_seat c.in_ok-table.table.shared.table_id (record { n = c.args.n; seats = c.args.seats })) (range_with_len 0 n)) e
