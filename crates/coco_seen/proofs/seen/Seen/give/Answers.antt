use Rattle.std.proofs.Common.{rules, ap, sym, ◌∙◌}
use Rattle.coco_seen.proofs.Noted.{note_gives}
use Rattle.coco_seen.proofs.seen.Seen.give.Goals as goal

pub store-requires : goal.store-requires
store-requires g c =
    let from = c.requires.from in (
      search rules,
      search rules,
      note_gives g.S.Stores.entries g.S.Stores.comes_from _ _ _ _ c.note.inside.seat.me c.exchange.new.seat.me c.args.value c.note.invariant (ap (λ k. k.holds) c.note.view_is ∙ c.requires.holds) c.exchange.ensures.3 (from.0, ap (λ k. k.root) c.note.view_is ∙ from.1, from.2)
          (c.requires.list ∙ sym (ap (λ k. k.list) c.note.view_is)),
    )
