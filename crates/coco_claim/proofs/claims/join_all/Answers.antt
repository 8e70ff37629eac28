use Rattle.std.proofs.Common.{◌≡◌, suc, ◌∷◌, ◌++◌, length, refl, sym, ap, ◌∙◌, subst, arith, length-append}
use Rattle.std.proofs.lemmas.List.Sums.{sum_by-cons}
use Rattle.std.specs.Prelude.{All}
use Rattle.coco_claim.specs.Numbers.{times}
use Rattle.coco_claim.specs.Seats.{Drawer, times_drawn}
use Rattle.coco_claim.specs.Drawing.{Sat}
use Rattle.coco_claim.proofs.Counts.{times-append}
use Rattle.coco_claim.proofs.Keeping.{joins}
use Rattle.coco_claim.proofs.Closing.{none_drawn}
use Rattle.coco_claim.proofs.claims.join_all.Goals as goal

pub loop-seat-init : goal.loop-seat-init
loop-seat-init c =
    let e = c.into_iter-seat-iterator.ensures.into_iter_gives.0 in
    record {
      table = refl;
      seats = subst (All (λ (s : Drawer). s.claims.table ≡ c.args.shared.now.table_id)) (sym e) c.requires.seats;
      marks = refl;
      drawn = λ x. refl;
    }

pub join_seat-requires : goal.join_seat-requires
join_seat-requires c =
    let i = c.loop-seat.invariant in
    let two = c.requires.table.1 in
    let items = c.in-Some.ensures.steps.0 in
    let mine : c.in-Some.seat.claims.table ≡ c.args.shared.now.table_id = subst (All (λ (s : Drawer). s.claims.table ≡ c.args.shared.now.table_id)) items i.seats 0 c.in-Some.seat (omega arith) in
    (i.table ∙ c.requires.table.0, ap (λ (s : Drawer). s.claims.table) c.seat.view_is ∙ mine, c.seat.invariant.free, omega (arith, two), joins _ _ _ _ _)

pub loop-seat-preserved : goal.loop-seat-preserved
loop-seat-preserved c =
    let i = c.loop-seat.invariant in
    let j = c.join_seat.ensures in
    let items = c.in-Some.ensures.steps.0 in
    let v = c.loop-seat.all.me.0 in
    let w = c.seat.inside.seat.me.0 in
    let rest = c.next.new.self.rest.items in
    let one : length w.marks ≡ 1 = ap length c.seat.invariant.one in
    let theirs : w.drawn ≡ c.in-Some.seat.drawn = ap (λ (s : Drawer). s.drawn) c.seat.view_is in
    record {
      table = j.0 ∙ i.table;
      seats = λ k d inside. subst (All (λ (s : Drawer). s.claims.table ≡ c.args.shared.now.table_id)) items i.seats (suc k) d (omega arith);
      marks =
          let a : length c.join_seat.new.seat.me.0.marks ≡ length (v.marks ++ w.marks) = ap (λ (m : Sat). length m.0.marks) j.2 in
          let b = length-append v.marks w.marks in
          let n : length c.loop-seat.seat-iterator.rest.items ≡ suc (length rest) = ap length items in
          let m = i.marks in
          omega arith;
      drawn = λ x.
          let a : times x c.join_seat.new.seat.me.0.drawn ≡ times x (v.drawn ++ w.drawn) = ap (λ (m : Sat). times x m.0.drawn) j.2 in
          let b = times-append x v.drawn w.drawn in
          let t : times x w.drawn ≡ times x c.in-Some.seat.drawn = ap (times x) theirs in
          let n : times_drawn x c.loop-seat.seat-iterator.rest.items ≡ times_drawn x (c.in-Some.seat ∷ rest) = ap (times_drawn x) items in
          let e = sum_by-cons (λ (s : Drawer). times x s.drawn) c.in-Some.seat rest in
          let m = i.drawn x in
          omega arith;
    }

pub returns-clause-same : goal.returns-clause-same
returns-clause-same c = c.loop-seat.invariant.table

pub returns-clause-marks : goal.returns-clause-marks
returns-clause-marks c =
    let m = c.loop-seat.invariant.marks in
    let none_left = c.in-None.ensures.steps.0 in
    let is : length c.into_iter-seat-iterator.result.rest.items ≡ length c.args.seats.items = ap length c.into_iter-seat-iterator.ensures.into_iter_gives.0 in
    let a = c.loop-seat.seat-iterator.rest.ok in
    let b = c.args.seats.ok in
    omega arith

pub returns-clause-drawn : goal.returns-clause-drawn
returns-clause-drawn c = λ x.
    let m = c.loop-seat.invariant.drawn x in
    let none_left : length c.loop-seat.seat-iterator.rest.items ≡ 0 = sym c.loop-seat.seat-iterator.rest.ok.0 ∙ c.in-None.ensures.steps.0 in
    let empty = none_drawn x c.loop-seat.seat-iterator.rest.items none_left in
    let is : times_drawn x c.into_iter-seat-iterator.result.rest.items ≡ times_drawn x c.args.seats.items = ap (times_drawn x) c.into_iter-seat-iterator.ensures.into_iter_gives.0 in
    omega arith
