use Rattle.std.proofs.Common.{rules, true, ap, Some, ◌∙◌}
use Rattle.coco_seen.proofs.Noted.{note_takes, took}
use Rattle.coco_seen.proofs.seen.Seen.try_take.Goals as goal

pub compare_exchange-requires : goal.compare_exchange-requires
compare_exchange-requires g c = (
  search rules,
  search rules,
  note_takes g.S.Stores.entries g.S.Stores.comes_from _ _ _ _ c.note.inside.seat.me c.note.invariant (ap (λ k. k.holds) c.note.view_is ∙ c.requires.free),
)

pub exchange-requires : goal.exchange-requires
exchange-requires g c =
    let me = c.note.inside.seat.me in
    let t = c.compare_exchange.ensures.2.0 c.if-compare_exchange-eq-HOME.true in
    (search rules, (Some t.0, took (Some t.0) c.compare_exchange.new.seat.me (record me.0 { list = g.S.Stores.entries t.0; holds = true }) me.1 t.5))
