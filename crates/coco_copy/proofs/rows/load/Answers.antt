use Rattle.std.proofs.Common.{◌≡◌, ◌∙◌, ap, sym, List, Option, Some, None, IsSome, cond, refl, subst, vec_capacity, inl, inr, OnOk}
use Rattle.std.specs.Option.{is_some, option_and_then}
use Rattle.std.specs.BTreeMap.{is_at}
use Rattle.coco_types.specs.RowKey.{RowKey, key_cmp}
use Rattle.coco_copy.specs.declared.kept.Kept.{Kept}
use Rattle.coco_types.specs.declared.value.Value.{Value}
use Rattle.coco_rows.proofs.Listing.{dropped_whole, set_rises}
use Rattle.coco_rows.proofs.Parts.{set_at}
use Rattle.coco_copy.specs.Kept.{kept_at, pending_of, row_kind, view_of, SetsStable}
use Rattle.coco_copy.proofs.Views.{added_view, dropped_view, loaded_view, none_there, on_err_of}
use Rattle.coco_copy.proofs.Whole.{loaded_whole, nothing_kept, stands_alone}
use Rattle.coco_copy.proofs.rows.load.Goals as goal

pub returns-then-not-keeps_row-clause-whole : goal.returns-then-not-keeps_row-clause-whole
returns-then-not-keeps_row-clause-whole c =
    let nothing = nothing_kept c.args.value.now (kept_at c.args.rows.now.entries c.args.key) (sym c.keeps_row.ensures ∙ c.if-not-keeps_row.true) in
    dropped_whole row_kind c.args.rows.now.entries c.drop_row.new.rows.entries c.args.listed.now.items (vec_capacity c.args.listed.now) c.args.key c.requires
    (λ kept is. sym (ap (λ o. is_some (option_and_then pending_of o)) is) ∙ nothing.1)
    c.drop_row.ensures.rising c.drop_row.ensures.entries c.drop_row.ensures.at c.drop_row.ensures.len

pub returns-then-not-keeps_row-clause-state : goal.returns-then-not-keeps_row-clause-state
returns-then-not-keeps_row-clause-state c =
    let nothing = nothing_kept c.args.value.now (kept_at c.args.rows.now.entries c.args.key) (sym c.keeps_row.ensures ∙ c.if-not-keeps_row.true) in
    dropped_view c.args.rows.now.entries c.drop_row.new.rows.entries c.requires.rising c.drop_row.ensures.rising c.args.key c.args.value.now c.drop_row.ensures.at nothing.0 nothing.1

pub returns-in_err-packed-clause-missing : goal.returns-in_err-packed-clause-missing
returns-in_err-packed-clause-missing c = on_err_of c.from_residual.result (λ _. inr c.in_err-packed.ensures.missing)

pub returns-in-None-clause-whole : goal.returns-in-None-clause-whole
returns-in-None-clause-whole c =
    let set = subst (SetsStable c.args.rows.now.entries c.load_at.new.rows.entries c.args.key) c.in_ok-packed.ensures.packed c.in-None.ensures.set in
    loaded_whole c.args.rows.now.entries c.load_at.new.rows.entries c.args.listed.now.items (vec_capacity c.args.listed.now) c.args.key c.args.value.now set.before c.requires set.was (sym c.keeps_row.ensures ∙ c.if-not-keeps_row.false) set.put

pub returns-in-None-clause-state : goal.returns-in-None-clause-state
returns-in-None-clause-state c = λ epoch.
    let set = subst (SetsStable c.args.rows.now.entries c.load_at.new.rows.entries c.args.key) c.in_ok-packed.ensures.packed c.in-None.ensures.set in
    let after : Kept = record set.before { stable = c.args.value.now } in
    ap (view_of epoch) set.put
    ∙ loaded_view c.args.rows.now.entries _ c.requires.rising (set_rises c.args.rows.now.entries c.args.key after c.requires.rising) c.args.key (Some after)
    (λ q. set_at c.args.rows.now.entries c.args.key set.before after q set.was) c.args.value.now refl (ap (option_and_then pending_of) (sym set.was)) epoch

pub add_row-requires-clause-sound : goal.add_row-requires-clause-sound
add_row-requires-clause-sound c = λ _.
    let missing = c.in-Some.ensures.missing in (
      refl,
      subst (λ o. IsSome o) (sym (missing.0 ∙ c.in_ok-packed.ensures.packed))
          (stands_alone c.args.value.now (kept_at c.args.rows.now.entries c.args.key) (sym c.keeps_row.ensures ∙ c.if-not-keeps_row.false) missing.1),
    )

pub returns-in-Some-clause-state : goal.returns-in-Some-clause-state
returns-in-Some-clause-state c =
    let missing = c.in-Some.ensures.missing in
    let Made : Option Value → List (RowKey × Kept) → Type 0 = λ v es.
    OnOk c.add_row.result ((q : RowKey) → kept_at c.add_row.new.rows.entries q ≡ cond (is_at (key_cmp c.args.key) q) (Some (record { stable = v; pending = None })) (kept_at es q)) in
    added_view c.add_row.result c.args.rows.now.entries c.add_row.new.rows.entries c.requires.rising c.add_row.ensures.whole.rising c.args.key c.args.value.now missing.1
    (subst (λ v. Made v c.args.rows.now.entries) (missing.0 ∙ c.in_ok-packed.ensures.packed) (subst (Made c.in-Some.stable) missing.2 c.add_row.ensures.ok))

pub returns-in-Some-clause-missing : goal.returns-in-Some-clause-missing
returns-in-Some-clause-missing c =
    on_err_of c.add_row.result (λ epoch. inl (none_there c.args.rows.now.entries c.args.key c.requires.rising c.in-Some.ensures.missing.1 epoch))
