use Rattle.std.proofs.Common.{◌≡◌, ◌∙◌, ◌+◌, ◌≤◌, ap, sym, refl, Some, None, length, not, true, arith, rules, vec_capacity}
use Rattle.std.specs.Option.{option_and_then}
use Rattle.std.specs.BTreeMap.{insert_entry}
use Rattle.coco_types.specs.RowKey.{key_cmp}
use Rattle.coco_copy.specs.declared.kept.Kept.{Kept}
use Rattle.coco_rows.specs.Listing.{IsRising}
use Rattle.coco_rows.proofs.Listing.{added_whole, entered_whole, room_left, whole_kept, with_key}
use Rattle.coco_copy.specs.Kept.{kept_at, pending_of, row_kind, stable_of}
use Rattle.coco_copy.specs.Puts.{by_time}
use Rattle.coco_copy.proofs.Views.{answer_view, made_answer, made_view, none_there, on_err_of, put_view, written}
use Rattle.coco_copy.proofs.Whole.{on_ok_there}
use Rattle.coco_copy.proofs.rows.put.Goals as goal

pub returns-in_err-entry-clause-missing : goal.returns-in_err-entry-clause-missing
returns-in_err-entry-clause-missing c = on_err_of c.from_residual.result (none_there c.args.rows.now.entries c.args.key c.requires.rising c.in_err-entry.ensures.absent)

pub list_key-requires : goal.list_key-requires
list_key-requires c = λ first.
    let was : kept_at c.args.rows.now.entries c.args.key ≡ Some c.into_mut-kept.result.now = search rules in
    let left = room_left row_kind c.args.rows.now.entries c.args.listed.now.items (vec_capacity c.args.listed.now) c.args.key c.into_mut-kept.result.now c.requires was (c.is_none-first.ensures ∙ ap not first) in
    omega (arith, left, c.make_room.ensures.capacity, ap length c.make_room.ensures.items)

pub returns-then-not-has_room-clause-missing : goal.returns-then-not-has_room-clause-missing
returns-then-not-has_room-clause-missing c epoch =
    let none : kept_at c.args.rows.now.entries c.args.key ≡ None = search rules in
    none_there c.args.rows.now.entries c.args.key c.requires.rising none epoch

pub returns-in-Occupied-clause-whole : goal.returns-in-Occupied-clause-whole
returns-in-Occupied-clause-whole c =
    let es = c.args.rows.now.entries in
    let key = c.args.key in
    let before = c.into_mut-kept.result.now in
    let after = c.put-answer.new.self in
    let was : kept_at es key ≡ Some before = search rules in
    let put : c.rows-in-Occupied-2-1.given.0.entries ≡ insert_entry key_cmp es key after = search rules in
    let more : vec_capacity c.args.listed.now ≤ vec_capacity c.list_key.new.listed = omega (arith, c.make_room.ensures.capacity, c.list_key.ensures.capacity) in
    whole_kept row_kind _ _ (with_key c.is_none-first.result c.args.listed.now.items key) c.list_key.new.listed.items _ _
    (entered_whole row_kind es _ c.args.listed.now.items (vec_capacity c.args.listed.now) (vec_capacity c.list_key.new.listed) key before after c.is_none-first.result
    c.requires was c.put-answer.ensures.pends c.is_none-first.ensures more (search rules) put
    (λ q. ap (λ z. kept_at z q) (put ∙ sym (c.in_ok-entry.ensures.update.1 after)) ∙ (c.in_ok-entry.ensures.update.0 after).0 q) (search rules))
    refl (c.list_key.ensures.items ∙ ap (λ ks. with_key c.is_none-first.result ks key) c.make_room.ensures.items) (omega arith)

pub returns-in-Occupied-clause-answer : goal.returns-in-Occupied-clause-answer
returns-in-Occupied-clause-answer c epoch =
    let was : kept_at c.args.rows.now.entries c.args.key ≡ Some c.into_mut-kept.result.now = search rules in
    c.put-answer.ensures.answer ∙ ap (λ o. by_time (option_and_then pending_of o) c.args.time) (sym was) ∙ answer_view c.args.rows.now.entries epoch c.args.time (written c.args.key c.args.value) c.requires.rising

pub returns-in-Occupied-clause-state : goal.returns-in-Occupied-clause-state
returns-in-Occupied-clause-state c epoch =
    let was : kept_at c.args.rows.now.entries c.args.key ≡ Some c.into_mut-kept.result.now = search rules in
    let es = c.args.rows.now.entries in
    let after = c.put-answer.new.self in
    let put : c.rows-in-Occupied-2-1.given.0.entries ≡ insert_entry key_cmp es c.args.key after = search rules in
    let rises : IsRising c.rows-in-Occupied-2-1.given.0.entries = search rules in
    put_view es c.rows-in-Occupied-2-1.given.0.entries c.requires.rising rises epoch c.args.time (written c.args.key c.args.value) after c.put-answer.result
    (λ q. ap (λ z. kept_at z q) (put ∙ sym (c.in_ok-entry.ensures.update.1 after)) ∙ (c.in_ok-entry.ensures.update.0 after).0 q)
    (c.put-answer.ensures.answer ∙ ap (λ o. by_time (option_and_then pending_of o) c.args.time) (sym was))
    (c.put-answer.ensures.stable ∙ ap (option_and_then stable_of) (sym was))
    c.put-answer.ensures.applied (λ h. ap (λ k. Some k) (c.put-answer.ensures.unchanged h) ∙ sym was)

pub returns-else-not-has_room-clause-whole : goal.returns-else-not-has_room-clause-whole
returns-else-not-has_room-clause-whole c =
    let es = c.args.rows.now.entries in
    let key = c.args.key in
    let made : Kept = record { stable = None; pending = Some (c.args.time, c.args.value) } in
    let none : kept_at es key ≡ None = search rules in
    let put : c.rows-in-Vacant-2-1.given.0.entries ≡ insert_entry key_cmp es key made = search rules in
    let enough : length es + 1 ≤ vec_capacity c.make_room.new.listed = rw (← c.len.ensures.len) (on_ok_there c.make_room.result (sym c.is_ok-has_room.ensures.value ∙ c.if-not-has_room.false) c.make_room.ensures.ok) in
    whole_kept row_kind _ _ (with_key true c.make_room.new.listed.items key) c.list_key-in-Vacant.new.listed.items (vec_capacity c.make_room.new.listed) _
    (added_whole row_kind es c.make_room.new.listed.items (vec_capacity c.args.listed.now) (vec_capacity c.make_room.new.listed) key made _
    (whole_kept row_kind es es c.args.listed.now.items c.make_room.new.listed.items (vec_capacity c.args.listed.now) (vec_capacity c.args.listed.now) c.requires refl c.make_room.ensures.items (omega arith))
    none (λ h. cc) (search rules) put
    (λ q. ap (λ z. kept_at z q) (put ∙ sym (c.in_ok-entry.ensures.update.1 made)) ∙ (c.in_ok-entry.ensures.update.0 made).0 q) (search rules) enough)
    refl c.list_key-in-Vacant.ensures.items c.list_key-in-Vacant.ensures.capacity

pub returns-else-not-has_room-clause-answer : goal.returns-else-not-has_room-clause-answer
returns-else-not-has_room-clause-answer c epoch =
    let none : kept_at c.args.rows.now.entries c.args.key ≡ None = search rules in
    made_answer c.args.rows.now.entries c.requires.rising epoch c.args.time (written c.args.key c.args.value) none

pub returns-else-not-has_room-clause-state : goal.returns-else-not-has_room-clause-state
returns-else-not-has_room-clause-state c epoch =
    let none : kept_at c.args.rows.now.entries c.args.key ≡ None = search rules in
    let es = c.args.rows.now.entries in
    let made : Kept = record { stable = None; pending = Some (c.args.time, c.args.value) } in
    let put : c.rows-in-Vacant-2-1.given.0.entries ≡ insert_entry key_cmp es c.args.key made = search rules in
    let rises : IsRising c.rows-in-Vacant-2-1.given.0.entries = search rules in
    made_view es c.rows-in-Vacant-2-1.given.0.entries c.requires.rising rises epoch c.args.time (written c.args.key c.args.value) none
    (λ q. ap (λ z. kept_at z q) (put ∙ sym (c.in_ok-entry.ensures.update.1 made)) ∙ (c.in_ok-entry.ensures.update.0 made).0 q)
