use Rattle.std.proofs.Common.{◌≡◌, map, length, Some, ap, sym, ◌∙◌, All}
use Rattle.std.specs.Prelude.{slice_get}
use Rattle.coco_seen.specs.Notes.{ComesFrom}
use Rattle.coco_seen.specs.Rules.{how_often}
use Rattle.coco_seen.proofs.Closing.{is_closed, not_empty, all_from_map, sum_over_map, length_of_map}
use Rattle.coco_seen.proofs.seen.Seen.close_of.Goals as goal

pub unreachable-requires : goal.unreachable-requires
unreachable-requires g c =
    let count : length (map g.H.HoldsNote.note c.args.holders.items) ≡ c.self.inside.table.shared.key = length_of_map g.H.HoldsNote.note c.args.holders.items ∙ (sym c.args.holders.ok.0 ∙ (c.requires.all ∙ sym (ap (λ s. s.notes) c.self.view_is))) in
    not_empty g.S.Stores.entries g.S.Stores.comes_from _ _ c.gather-seat.result.me.0 _ _ (map g.H.HoldsNote.note c.args.holders.items) c.gather-seat.ensures.notes count c.close_with-closed.ensures.values.2 c.take-value.result c.take-value.ensures.value c.in-None.is

pub returns : goal.returns
returns g c =
    let note = g.H.HoldsNote.note in
    let all = c.args.holders.items in
    let count : length (map g.H.HoldsNote.note c.args.holders.items) ≡ c.self.inside.table.shared.key = length_of_map g.H.HoldsNote.note c.args.holders.items ∙ (sym c.args.holders.ok.0 ∙ (c.requires.all ∙ sym (ap (λ s. s.notes) c.self.view_is))) in
    let end = is_closed g.S.Stores.entries g.S.Stores.comes_from _ _ c.gather-seat.result.me.0 _ _ (map g.H.HoldsNote.note c.args.holders.items) c.gather-seat.ensures.notes count c.close_with-closed.ensures.values.2 c.take-value.result c.in-Some.value c.take-value.ensures.value c.in-Some.is in
    record {
      from = all_from_map (λ n. ComesFrom g.S.Stores.comes_from n.root c.in-Some.value) note all end.from;
      placed = all_from_map (λ n. All (λ call. slice_get (g.S.Stores.entries c.in-Some.value) call.0 ≡ Some call.1) n.calls) note all end.placed;
      once = λ place. sym (sum_over_map (λ n. how_often place (map (λ call. call.0) n.calls)) note all) ∙ end.once place;
      sized = end.sized ∙ sum_over_map (λ n. length n.calls) note all;
      facts = c.gather-seat.ensures.facts;
    }
