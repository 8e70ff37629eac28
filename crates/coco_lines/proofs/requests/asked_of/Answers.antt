use Rattle.std.proofs.Common.{◌∙◌, ap, sym, Some}
use Rattle.serde_json.specs.View.{view, items_view, members_view}
use Rattle.coco_lines.specs.Reading.{snapshot_of}
use Rattle.coco_lines.proofs.ReadingLemmas.{only_members-members_view, asked_of-others, asked_of-all}
use Rattle.coco_lines.proofs.requests.asked_of.Goals as goal

pub returns-then-not-only_members : goal.returns-then-not-only_members
returns-then-not-only_members c =
    asked_of-others (view c.args.value.now) (members_view c.in_ok-members.members.now.entries) c.in_ok-members.ensures
    (c.if-not-only_members.ensures ∙ only_members-members_view c.in_ok-members.members.now.entries)

pub returns : goal.returns
returns c =
    asked_of-all (view c.args.value.now) (members_view c.in_ok-members.members.now.entries) _ _ _ _ c.in_ok-members.ensures
    (c.if-not-only_members.ensures ∙ only_members-members_view c.in_ok-members.members.now.entries)
    (sym c.in_ok-args.ensures ∙ ap (λ vs. Some (items_view vs)) (sym c.as_slice.ensures.value)) (sym c.in_ok-call.ensures) (sym c.in_ok-id.ensures) (sym (c.in_ok-snapshot.ensures ∙ ap snapshot_of c.get.ensures))
