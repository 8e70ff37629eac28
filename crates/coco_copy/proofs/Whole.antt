-- The rows of a copy, as they are put back beside the list of keys for which something pends.
use Rattle.std.proofs.Common.{◌≡◌, ℕ, Bool, true, false, ◌||◌, List, Option, None, Some, refl, sym, ap, ◌∙◌, arith, Result, Ok, Err, OnOk, is_ok}
use Rattle.std.specs.Option.{option_and_then, is_some, IsSome}
use Rattle.std.specs.Map.{set_value}
use Rattle.std.specs.BTreeMap.{is_at}
use Rattle.coco_types.specs.RowKey.{RowKey, key_cmp}
use Rattle.coco_types.specs.declared.value.Value.{Value}
use Rattle.coco_rows.specs.Listing.{IsSound}
use Rattle.coco_rows.proofs.Listing.{changed_whole}
use Rattle.coco_copy.specs.declared.kept.Kept.{Kept}
use Rattle.coco_copy.specs.Kept.{IsWhole, kept_at, pending_of, pends, rested, row_kind}

two_sides : true ≡ false → ⊥
two_sides h = cc

-- a row for which nothing pends is at rest
pub sound_row : (kept : Kept) → (pends kept ≡ false → IsSome kept.stable) → IsSound row_kind kept
sound_row kept stands none = (at_rest kept.pending refl none, stands none)
  where
    at_rest : (p : Option (ℕ × Option Value)) → kept.pending ≡ p → is_some p ≡ false → kept ≡ rested kept.stable
    at_rest None is h = λ i. record { stable = kept.stable; pending = is i }
    at_rest (Some q) is h = absurd (two_sides h)

or_last : (a b : Bool) → (a || b) ≡ true → b ≡ false → a ≡ true
or_last true b h f = refl
or_last false b h f = absurd (two_sides (sym h ∙ f))

or_false : (b : Bool) → b ≡ (b || false)
or_false true = refl
or_false false = refl

-- the stable value of a row is set, in which something stands then
pub loaded_whole : (es fs : List (RowKey × Kept)) (ks : List RowKey) (room : ℕ) (k : RowKey) (value : Option Value) (before : Kept)
    → IsWhole es ks room → kept_at es k ≡ Some before → (is_some value || is_some (option_and_then pending_of (kept_at es k))) ≡ true
    → fs ≡ set_value (is_at (key_cmp k)) es (record before { stable = value }) → IsWhole fs ks room
loaded_whole es fs ks room k value before whole was keeps put =
    changed_whole row_kind es fs ks ks room room k before (record before { stable = value }) false whole was
    (sound_row (record before { stable = value }) (or_last (is_some value) (pends before) (sym (ap (λ o. is_some value || is_some (option_and_then pending_of o)) was) ∙ keeps)))
    (or_false (pends before)) (λ h. cc) (omega arith) put refl

-- what it means that nothing is kept in a row with this stable value, or that something is
pub nothing_kept : (value : Option Value) (o : Option Kept) → (is_some value || is_some (option_and_then pending_of o)) ≡ false
    → (value ≡ None) × (is_some (option_and_then pending_of o) ≡ false)
nothing_kept None o h = (refl, h)
nothing_kept (Some v) o h = absurd (two_sides h)

pub stands_alone : (value : Option Value) (o : Option Kept) → (is_some value || is_some (option_and_then pending_of o)) ≡ true → o ≡ None → IsSome value
stands_alone (Some v) o h none = refl
stands_alone None o h none = ap (λ o. is_some (option_and_then pending_of o)) (sym none) ∙ h

-- what holds of an Ok
pub on_ok_there : {A E P : Type 0} (r : Result A E) → is_ok r ≡ true → OnOk r P → P
on_ok_there (Ok x) is h = h
on_ok_there (Err e) is h = cc
