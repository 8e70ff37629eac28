use Rattle.std.proofs.Common.{◌≡◌, ◌<◌, ◌-◌, length, take, vec_len, vec_capacity, refl, sym, ap, ◌∙◌, subst, arith}
use Rattle.std.proofs.lemmas.List.{take_all}
use Rattle.coco_desks.proofs.RowLemmas.{handed_more, handed_none, last_at, one_less}
use Rattle.coco_desks.proofs.rows.hand_out.Goals as goal

pub loop-left-init : goal.loop-left-init
loop-left-init g c = record {
  len = c.requires.count;
  items = sym (take_all (length c.args.columns.now) c.args.row.now.items (let n = c.args.row.now.ok.0 in omega (arith, n, c.requires.count)));
  room = refl;
  most = omega arith;
  handed = handed_none c.args.row.now.items c.args.columns.now;
}

pub unreachable-requires : goal.unreachable-requires
unreachable-requires g c = let none = c.in_default.ensures.cases in let len = c.loop-left.invariant.len in let some = c.loop-left-test.true in omega (arith, none.0, len, some)

pub push_reserved-requires : goal.push_reserved-requires
push_reserved-requires g c =
    let at = c.loop-left.invariant.handed.below (c.loop-left.left - 1) c.index-columns-left.result (let some = c.loop-left-test.true in omega arith) in
    let most = c.loop-left.invariant.most in
    let some = c.loop-left-test.true in
    subst (λ v. vec_len v < vec_capacity v) (sym at) (c.requires.room (c.loop-left.left - 1) c.index-columns-left.result (omega (arith, most, some)))

pub loop-left-preserved : goal.loop-left-preserved
loop-left-preserved g c =
    let inv = c.loop-left.invariant in
    let some = c.loop-left-test.true in
    let count = c.loop-left.auto.columns in
    record {
      len = omega (arith, c.in-Some.ensures.cases, inv.len);
      items = one_less (vec_len c.loop-left.row) c.loop-left.left c.args.row.now.items c.loop-left.row.items c.pop.new.self.items inv.len some inv.items c.pop.ensures.rest;
      room = omega (arith, c.pop.ensures.capacity, inv.room);
      most = omega (arith, inv.most);
      handed = handed_more c.args.row.now.items c.args.columns.now c.loop-left.left c.loop-left.columns c.in-Some.item c.push_reserved.new.self some inv.most count
          (last_at (vec_len c.loop-left.row) c.loop-left.left c.args.row.now.items c.loop-left.row.items c.in-Some.item inv.len some inv.items (λ d. sym c.in-Some.is ∙ c.pop.ensures.value d (omega (arith, some, inv.len))))
          c.index-columns-left.result (record { items = c.push_reserved.ensures.items; room = c.push_reserved.ensures.capacity }) inv.handed;
    }

pub returns-clause-empty : goal.returns-clause-empty
returns-clause-empty g c = c.loop-left.invariant.items ∙ ap (λ n. take n c.args.row.now.items) (let n : c.loop-left.left ≡ 0 = omega (arith, c.loop-left-test.false) in n)

pub returns-clause-kept : goal.returns-clause-kept
returns-clause-kept g c = c.loop-left.invariant.room

pub returns-clause-each : goal.returns-clause-each
returns-clause-each g c = λ place d x lt. c.loop-left.invariant.handed.from place d x (omega (arith, c.loop-left-test.false)) lt
