use Rattle.std.proofs.Common.{◌≡◌, ◌||◌, Bool, true, false, Option, Some, OnOk, IsSome, refl, ap, sym, ◌∙◌, inl, inr, subst, vec_capacity, arith}
use Rattle.std.specs.FinMap.{insert}
use Rattle.coco_types.specs.declared.value.Value.{Value}
use Rattle.coco_rows.specs.Versions.{at_rest, is_touched, row_kind}
use Rattle.coco_rows.specs.declared.Row.{Row}
use Rattle.coco_rows.proofs.Listing.{changed_whole}
use Rattle.coco_shard.specs.RowState.{resting}
use Rattle.coco_shard.specs.Kept.{IsSound, SetsRow, noted, state_of, view_of}
use Rattle.coco_shard.proofs.Entries.{put_back_view, added_on_ok, said_on_err}
use Rattle.coco_shard.proofs.table.load_row.Goals as goal

noted_touch : (b : Bool) (row : Row) → is_touched row ≡ false → is_touched (noted b row) ≡ b || false
noted_touch true row h = refl
noted_touch false row h = h

noted_state : (b : Bool) (stable : Option Value) → state_of (noted b (at_rest stable)) ≡ resting stable
noted_state true stable = refl
noted_state false stable = refl

noted_sound : (b : Bool) (value : Value) → IsSound (noted b (at_rest (Some value)))
noted_sound true value = λ h. cc
noted_sound false value = λ _. (refl, refl)

pub returns-in_err-room-clause-missing : goal.returns-in_err-room-clause-missing
returns-in_err-room-clause-missing c = said_on_err c.from_residual.result (inr c.in_err-room.ensures.missing)

pub returns-in-None-clause-whole : goal.returns-in-None-clause-whole
returns-in-None-clause-whole c =
    let set = subst (SetsRow c.args.rows.now.entries c.load_at.new.rows.entries c.args.key) (c.at_rest-row.ensures ∙ ap at_rest c.of.ensures) c.in-None.ensures.set in
    let after : Row = noted (is_touched set.before) (at_rest (Some c.args.value)) in
    changed_whole row_kind c.args.rows.now.entries c.load_at.new.rows.entries c.args.touched.now.items c.args.touched.now.items (vec_capacity c.args.touched.now) (vec_capacity c.args.touched.now) c.args.key set.before after false
    c.requires set.was (noted_sound (is_touched set.before) c.args.value) (noted_touch (is_touched set.before) (at_rest (Some c.args.value)) refl) (λ h. cc) (omega arith)
    set.put refl

pub returns-in-None-clause-state : goal.returns-in-None-clause-state
returns-in-None-clause-state c =
    let set = subst (SetsRow c.args.rows.now.entries c.load_at.new.rows.entries c.args.key) (c.at_rest-row.ensures ∙ ap at_rest c.of.ensures) c.in-None.ensures.set in
    let after : Row = noted (is_touched set.before) (at_rest (Some c.args.value)) in
    ap view_of set.put ∙ put_back_view c.args.rows.now.entries c.args.key set.before after (Some (resting (Some c.args.value))) set.was (noted_state (is_touched set.before) (Some c.args.value))

pub add_row-requires-clause-sound : goal.add_row-requires-clause-sound
add_row-requires-clause-sound c =
    let row : c.in-Some.row ≡ at_rest (Some c.args.value) = c.in-Some.ensures.missing.0 ∙ c.at_rest-row.ensures ∙ ap at_rest c.of.ensures in
    let stable : c.in-Some.row.stable ≡ Some c.args.value = ap (λ r. r.stable) row in
    λ _. (row ∙ ap at_rest (sym stable), subst (λ o. IsSome o) (sym stable) refl)

pub returns-in-Some-clause-state : goal.returns-in-Some-clause-state
returns-in-Some-clause-state c =
    let row : c.in-Some.row ≡ at_rest (Some c.args.value) = c.in-Some.ensures.missing.0 ∙ c.at_rest-row.ensures ∙ ap at_rest c.of.ensures in
    subst (λ es. OnOk c.add_row.result (view_of c.add_row.new.rows.entries ≡ insert (view_of es) c.args.key (resting (Some c.args.value)))) c.in-Some.ensures.missing.2
    (added_on_ok c.add_row.result c.load_at.new.rows.entries c.add_row.new.rows.entries c.args.key c.in-Some.row (resting (Some c.args.value)) (ap state_of row) c.add_row.ensures.ok)

pub returns-in-Some-clause-missing : goal.returns-in-Some-clause-missing
returns-in-Some-clause-missing c = said_on_err c.add_row.result (inl c.in-Some.ensures.missing.1)
