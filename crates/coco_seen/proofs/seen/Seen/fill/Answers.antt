use Rattle.std.proofs.Common.{rules, ap, sym, Some, None, refl}
use Rattle.coco_seen.proofs.Noted.{took}
use Rattle.coco_seen.proofs.Dealt.{first_fills, first_gives, after_fill, after_put, after_give, not_both}
use Rattle.coco_seen.proofs.seen.Seen.fill.Goals as goal

pub compare_exchange_with-requires : goal.compare_exchange_with-requires
compare_exchange_with-requires g c = (
  search rules,
  search rules,
  first_fills g.S.Stores.entries g.S.Stores.comes_from _ _ _ c.args.self.now.notes c.args.seat.me c.args.value c.requires.from.0 c.requires.first c.requires.from.1,
)

pub exchange-requires : goal.exchange-requires
exchange-requires g c =
    let t = c.compare_exchange_with.ensures.2 c.args.value refl in
    (search rules, (None, took _ _ _ _ t.2))

pub unreachable-requires : goal.unreachable-requires
unreachable-requires g c =
    let t = c.compare_exchange_with.ensures.2 c.args.value refl in
    not_both c.in-Some.field-0 c.compare_exchange_with.new.seat.me _ _ (after_fill _ c.args.seat.me c.compare_exchange_with.new.seat.me t.0 c.requires.first t.2) c.in-Some.ensures.2

pub store-requires : goal.store-requires
store-requires g c =
    let t = c.compare_exchange_with.ensures.2 c.args.value refl in
    let e1 = after_fill _ c.args.seat.me c.compare_exchange_with.new.seat.me t.0 c.requires.first t.2 in
    let e2 = after_put c.compare_exchange_with.new.seat.me c.exchange.new.seat.me _ (Some c.args.value) e1 c.exchange.ensures.3 in (
      search rules,
      search rules,
      first_gives g.S.Stores.entries g.S.Stores.comes_from _ _ _ c.args.self.now.notes c.exchange.new.seat.me c.args.value t.0 (rw (sym (ap (λ k. k.notes) c.self.view_is)) c.self.invariant.2) t.1 c.requires.empty e2,
    )

pub returns-clause-view : goal.returns-clause-view
returns-clause-view g c =
    let t = c.compare_exchange_with.ensures.2 c.args.value refl in
    let e1 = after_fill _ c.args.seat.me c.compare_exchange_with.new.seat.me t.0 c.requires.first t.2 in
    let e2 = after_put c.compare_exchange_with.new.seat.me c.exchange.new.seat.me _ (Some c.args.value) e1 c.exchange.ensures.3 in
    (t.0, t.1, after_give _ _ _ _ e2 c.store.ensures.2)
