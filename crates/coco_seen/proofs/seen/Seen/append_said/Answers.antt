use Rattle.std.proofs.Common.{rules, ap, length, ◌∙◌}
use Rattle.coco_seen.proofs.Noted.{note_appends, seat_appended}
use Rattle.coco_seen.proofs.seen.Seen.append_said.Goals as goal

pub fetch_add-requires : goal.fetch_add-requires
fetch_add-requires g c = (
  search rules,
  search rules,
  note_appends g.S.Stores.entries g.S.Stores.comes_from _ _ _ _ c.note.inside.seat.me _ c.args.entry c.note.invariant c.requires.said (ap (λ k. k.holds) c.note.view_is ∙ c.requires.holds) (rw (ap (λ k. length k.list) c.note.view_is) c.requires.room),
)

pub invariant_of-note : goal.invariant_of-note
invariant_of-note g c = let t = c.fetch_add.ensures.2 c.args.entry c.requires.said in seat_appended _ _ _ c.args.entry c.note.invariant t.1

pub returns-clause-place : goal.returns-clause-place
returns-clause-place g c = let t = c.fetch_add.ensures.2 c.args.entry c.requires.said in t.0 ∙ ap (λ k. length k.list) c.note.view_is
