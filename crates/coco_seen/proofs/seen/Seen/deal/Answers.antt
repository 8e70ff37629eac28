use Rattle.std.proofs.Common.{rules, ◌≡◌, ◌-◌, arith, ◌∙◌}
use Rattle.coco_seen.proofs.Dealt.{splits_off, goes_on, deals_note, deals_last}
use Rattle.coco_seen.proofs.seen.Seen.deal.Goals as goal

pub split_seat-other-requires : goal.split_seat-other-requires
split_seat-other-requires g c =
    let i = c.loop-number.invariant in
    (search rules, search rules, splits_off g.S.Stores.entries g.S.Stores.comes_from _ _ c.loop-number.number c.args.notes c.loop-number.seat.me i.root (omega arith) i.view)

pub loop-number-preserved : goal.loop-number-preserved
loop-number-preserved g c =
    let i = c.loop-number.invariant in
    let e = c.split_seat-other.ensures in
    record {
      lock = search rules;
      root = i.root;
      root_is = i.root_is;
      view = goes_on _ _ c.loop-number.seat.me _ i.root (omega arith) i.view e.2;
      items = rw c.push_reserved.ensures.items (deals_note _ _ _ c.args.notes c.loop-number.seat.me c.split_seat-other.result.me i.root _ (e.3 ∙ i.lock) (omega arith) i.view e.4 i.items);
      count = search rules;
      room = search rules;
    }

pub returns-clause-notes : goal.returns-clause-notes
returns-clause-notes g c =
    let i = c.loop-number.invariant in
    let end : c.loop-number.number ≡ c.args.notes - 1 = omega arith in
    rw (c.push_reserved-2.ensures.items, i.root_is) (deals_last _ _ _ c.args.notes c.loop-number.seat.me i.root _ i.lock c.requires.some end i.view i.items)
