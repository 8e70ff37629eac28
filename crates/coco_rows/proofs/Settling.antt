-- The walk along the listed keys at an epoch's end.
use Rattle.std.proofs.Common.{◌≡◌, ℕ, ◌+◌, ◌≤◌, Bool, true, false, cond, ◌||◌, List, [], ◌∷◌, ◌++◌, length, length-append, sum_by, Option, None, Some, IsSome, refl, sym, ap, ◌∙◌, subst, arith, inl, inr, ◌⊎◌}
use Rattle.std.specs.Option.{option_map, unwrap_or, is_some}
use Rattle.std.specs.List.{list_any}
use Rattle.std.specs.Map.{set_value, remove_entry, values_of}
use Rattle.std.specs.BTreeMap.{is_at}
use Rattle.std.proofs.lemmas.List.Folds.{list_any-append}
use Rattle.std.proofs.lemmas.Map.{length-set_value}
use Rattle.std.proofs.lemmas.Map.Entries.{sum_by-set_value, sum_by-remove_entry}
use Rattle.coco_types.specs.RowKey.{RowKey, key_cmp}
use Rattle.coco_types.specs.declared.value.Value.{Value}
use Rattle.coco_types.proofs.Keys.{is_key, one_key, key_itself, key_swap}
use Rattle.coco_rows.specs.Listing.{RowKind, kept_at, settled, waits, IsListing, IsRising, Settles}
use Rattle.coco_rows.proofs.Listing.{set_rises}
use Rattle.coco_rows.proofs.Parts.{set_at}

two_sides : true ≡ false → ⊥
two_sides h = cc

some_none : {X : Type 0} {x : X} → Some x ≡ None → ⊥
some_none h = cc

some_same : {X : Type 0} (x y : X) → Some x ≡ Some y → x ≡ y
some_same x y h = cc

twice_put : {X : Type 0} (b : Bool) (x : X) (o : Option X) → cond b None (cond b (Some x) o) ≡ cond b None o
twice_put true x o = refl
twice_put false x o = refl

or_none : (b : Bool) → b ≡ (b || false)
or_none true = refl
or_none false = refl

not_last : (ks : List RowKey) (k q : RowKey) → is_key q k ≡ false → list_any (is_at (key_cmp q)) (ks ++ k ∷ []) ≡ true → list_any (is_at (key_cmp q)) ks ≡ true
not_last ks k q apart h =
    or_none (list_any (is_at (key_cmp q)) ks) ∙ ap (λ b. list_any (is_at (key_cmp q)) ks || (b || false)) (sym apart) ∙ sym (list_any-append (is_at (key_cmp q)) ks (k ∷ [])) ∙ h

pub no_items : {X : Type 0} (xs : List X) → length xs ≡ 0 → xs ≡ []
no_items [] h = refl
no_items (x ∷ xs) h = absurd (omega arith)

-- from the entries `first` on, with the keys ks still to come
pub record IsSettling {R : Type 0} (kind : RowKind R) (first es : List (RowKey × R)) (ks : List RowKey) (promotes : Bool) (room : ℕ) : Type 0 where
  pub each : (q : RowKey) → (kept_at es q ≡ settled kind promotes (kept_at first q)) ⊎ ((list_any (is_at (key_cmp q)) ks ≡ true) × (kept_at es q ≡ kept_at first q))
  pub once : length ks + sum_by (waits kind) (values_of es) ≤ length es
  pub enough : length es ≤ room
  pub rises : IsRising es

module _ {R : Type 0} (kind : RowKind R) where
  abbrev rest_value : Value → R
  rest_value value = kind.at_rest (Some value)

  value_left : (o : Option Value) (v : Value) → o ≡ Some v → option_map rest_value o ≡ Some (kind.at_rest o)
  value_left (Some w) v h = refl
  value_left None v h = absurd (some_none (sym h))

  -- ---- one row

  -- the look-up of a missing row says nothing else
  settles_missing : (es : List (RowKey × R)) (k : RowKey) (promotes : Bool) → kept_at es k ≡ None → Settles kind promotes k es es
  settles_missing es k promotes none = record {
    at = λ q. elim (is_key k q) as (λ b. is_key k q ≡ b → kept_at es q ≡ cond b (settled kind promotes (kept_at es k)) (kept_at es q)) [
      | true ↦ λ t. ap (kept_at es) (sym (one_key k q t)) ∙ none ∙ sym (ap (settled kind promotes) none)
      | false ↦ λ _. refl
    ] refl;
    count = omega arith;
    fewer = omega arith;
    rising = λ r. r;
  }

  settles_kept : (es : List (RowKey × R)) (k : RowKey) (promotes : Bool) (before : R) (v : Value) → kept_at es k ≡ Some before → kind.version_of promotes before ≡ Some v
      → Settles kind promotes k es (set_value (is_at (key_cmp k)) es (kind.at_rest (kind.version_of promotes before)))
  settles_kept es k promotes before v was is =
      let after : R = kind.at_rest (kind.version_of promotes before) in
      let waiting : waits kind after ≡ 1 = ap (λ b. cond b 0 1) (kind.unnoted (kind.version_of promotes before)) in
      let same : length (set_value (is_at (key_cmp k)) es after) ≡ length es = length-set_value (is_at (key_cmp k)) es after in
      record {
        at = λ q. set_at es k before after q was ∙ ap (λ o. cond (is_key k q) o (kept_at es q)) (sym (ap (settled kind promotes) was ∙ value_left (kind.version_of promotes before) v is));
        count = omega (arith, sum_by-set_value (waits kind) (is_at (key_cmp k)) es before after was, same, waiting);
        fewer = omega (arith, same);
        rising = set_rises es k after;
      }

  settles_dropped : (es fs : List (RowKey × R)) (k : RowKey) (promotes : Bool) (before : R) → kept_at es k ≡ Some before → kind.version_of promotes before ≡ None
      → IsRising fs → let mid = set_value (is_at (key_cmp k)) es (kind.at_rest (kind.version_of promotes before)) in
      fs ≡ remove_entry (is_at (key_cmp k)) mid → ((q : RowKey) → kept_at fs q ≡ cond (is_key k q) None (kept_at mid q)) → length fs + cond (is_some (kept_at mid k)) 1 0 ≡ length mid
      → Settles kind promotes k es fs
  settles_dropped es fs k promotes before was without rises gone at len =
      let after : R = kind.at_rest (kind.version_of promotes before) in
      let mid : List (RowKey × R) = set_value (is_at (key_cmp k)) es after in
      let waiting : waits kind after ≡ 1 = ap (λ b. cond b 0 1) (kind.unnoted (kind.version_of promotes before)) in
      let there : kept_at mid k ≡ Some after = set_at es k before after k was ∙ ap (λ b. cond b (Some after) (kept_at es k)) (key_itself k) in
      let sum_mid : sum_by (waits kind) (values_of mid) + waits kind before ≡ sum_by (waits kind) (values_of es) + waits kind after = sum_by-set_value (waits kind) (is_at (key_cmp k)) es before after was in
      let sum_gone : sum_by (waits kind) (values_of (remove_entry (is_at (key_cmp k)) mid)) + unwrap_or (option_map (waits kind) (kept_at mid k)) 0 ≡ sum_by (waits kind) (values_of mid) = sum_by-remove_entry (waits kind) (is_at (key_cmp k)) mid in
      let one_gone : unwrap_or (option_map (waits kind) (kept_at mid k)) 0 ≡ 1 = ap (λ o. unwrap_or (option_map (waits kind) o) 0) there ∙ waiting in
      let sum_left : sum_by (waits kind) (values_of fs) ≡ sum_by (waits kind) (values_of (remove_entry (is_at (key_cmp k)) mid)) = ap (λ z. sum_by (waits kind) (values_of z)) gone in
      let len_mid : length mid ≡ length es = length-set_value (is_at (key_cmp k)) es after in
      let one_less : cond (is_some (kept_at mid k)) 1 0 ≡ 1 = ap (λ o. cond (is_some o) 1 0) there in
      record {
        at = λ q. at q ∙ ap (cond (is_key k q) None) (set_at es k before after q was) ∙ twice_put (is_key k q) after (kept_at es q)
            ∙ ap (λ o. cond (is_key k q) o (kept_at es q)) (sym (ap (settled kind promotes) was ∙ ap (option_map rest_value) without));
        count = counted (sum_by (waits kind) (values_of fs)) _ (sum_by (waits kind) (values_of mid)) (sum_by (waits kind) (values_of es)) (waits kind before) (waits kind after) _ (length fs) _ (length mid) (length es) sum_left sum_gone one_gone sum_mid waiting len one_less len_mid;
        fewer = shorter (length fs) _ (length mid) (length es) len len_mid;
        rising = λ _. rises;
      }
    where
      counted : (left gone mid all w v o fs d ms es : ℕ) → left ≡ gone → gone + o ≡ mid → o ≡ 1 → mid + w ≡ all + v → v ≡ 1 → fs + d ≡ ms → d ≡ 1 → ms ≡ es → left + es ≤ all + fs + 1
      counted left gone mid all w v o fs d ms es a b c e one f g h = omega arith

      shorter : (fs d ms es : ℕ) → fs + d ≡ ms → ms ≡ es → fs ≤ es
      shorter fs d ms es a b = omega arith

  -- where the row of the key stands, or there was none
  pub settles_standing : (es mid : List (RowKey × R)) (k : RowKey) (promotes stands : Bool)
      → (kept_at es k ≡ None → (mid ≡ es) × (stands ≡ true))
      → ((row : R) → kept_at es k ≡ Some row → (mid ≡ set_value (is_at (key_cmp k)) es (kind.at_rest (kind.version_of promotes row))) × (stands ≡ is_some (kind.version_of promotes row)))
      → stands ≡ true → Settles kind promotes k es mid
  settles_standing es mid k promotes stands missing found up =
      elim (kept_at es k) as (λ o. kept_at es k ≡ o → Settles kind promotes k es mid) [
        | None ↦ λ e. subst (Settles kind promotes k es) (sym (missing e).0) (settles_missing es k promotes e)
        | Some before ↦ λ e. elim (kind.version_of promotes before) as (λ v. kind.version_of promotes before ≡ v → Settles kind promotes k es mid) [
          | None ↦ λ v. absurd (two_sides (sym up ∙ (found before e).1 ∙ ap is_some v))
          | Some w ↦ λ v. subst (Settles kind promotes k es) (sym (found before e).0) (settles_kept es k promotes before w e v)
        ] refl
      ] refl

  -- where it has no value and is dropped
  pub settles_fallen : (es mid fs : List (RowKey × R)) (k : RowKey) (promotes stands : Bool)
      → (kept_at es k ≡ None → (mid ≡ es) × (stands ≡ true))
      → ((row : R) → kept_at es k ≡ Some row → (mid ≡ set_value (is_at (key_cmp k)) es (kind.at_rest (kind.version_of promotes row))) × (stands ≡ is_some (kind.version_of promotes row)))
      → stands ≡ false → IsRising fs
      → fs ≡ remove_entry (is_at (key_cmp k)) mid → ((q : RowKey) → kept_at fs q ≡ cond (is_key k q) None (kept_at mid q)) → length fs + cond (is_some (kept_at mid k)) 1 0 ≡ length mid
      → Settles kind promotes k es fs
  settles_fallen es mid fs k promotes stands missing found down rises gone at len =
      elim (kept_at es k) as (λ o. kept_at es k ≡ o → Settles kind promotes k es fs) [
        | None ↦ λ e. absurd (two_sides (sym (missing e).1 ∙ down))
        | Some before ↦ λ e. elim (kind.version_of promotes before) as (λ v. kind.version_of promotes before ≡ v → Settles kind promotes k es fs) [
          | None ↦ λ v.
              let Dropped : List (RowKey × R) → Type 0 = λ m. fs ≡ remove_entry (is_at (key_cmp k)) m → ((q : RowKey) → kept_at fs q ≡ cond (is_key k q) None (kept_at m q)) → length fs + cond (is_some (kept_at m k)) 1 0 ≡ length m → Settles kind promotes k es fs in
              subst Dropped (sym (found before e).0) (settles_dropped es fs k promotes before e v rises) gone at len
          | Some w ↦ λ v. absurd (two_sides (sym (ap is_some v) ∙ sym (found before e).1 ∙ down))
        ] refl
      ] refl

  -- ---- all of them

  rest_stays : (promotes : Bool) (v : Value) → settled kind promotes (Some (rest_value v)) ≡ Some (rest_value v)
  rest_stays promotes v = ap (option_map rest_value) (kind.stays promotes (Some v))

  settled_twice : (promotes : Bool) (o : Option R) → settled kind promotes (settled kind promotes o) ≡ settled kind promotes o
  settled_twice promotes None = refl
  settled_twice promotes (Some row) =
      elim (kind.version_of promotes row) as (λ v. settled kind promotes (option_map rest_value v) ≡ option_map rest_value v) [
        | None ↦ refl
        | Some v ↦ rest_stays promotes v
      ]

  -- a row at rest that has a value is settled
  rested_settled : (promotes : Bool) (row : R) → row ≡ kind.at_rest (kind.version_of false row) → IsSome (kind.version_of false row) → settled kind promotes (Some row) ≡ Some row
  rested_settled promotes row rest stands =
      elim (kind.version_of false row) as (λ o. kind.version_of false row ≡ o → is_some o ≡ true → settled kind promotes (Some row) ≡ Some row) [
        | None ↦ λ e h. absurd (two_sides (sym h))
        | Some v ↦ λ e h.
            let is : row ≡ rest_value v = rest ∙ ap kind.at_rest e in
            subst (λ r. settled kind promotes (Some r) ≡ Some r) (sym is) (rest_stays promotes v)
      ] refl stands

  pub settling_start : (es : List (RowKey × R)) (ks : List RowKey) (promotes : Bool) (room : ℕ) → IsListing kind es ks room → IsSettling kind es es ks promotes room
  settling_start es ks promotes room whole = record {
    each = λ q.
        elim (kept_at es q) as (λ o. kept_at es q ≡ o → (o ≡ settled kind promotes o) ⊎ ((list_any (is_at (key_cmp q)) ks ≡ true) × (o ≡ o))) [
          | None ↦ λ e. inl refl
          | Some row ↦ λ e. elim (kind.is_noted row) as (λ t. kind.is_noted row ≡ t → (Some row ≡ settled kind promotes (Some row)) ⊎ ((list_any (is_at (key_cmp q)) ks ≡ true) × (Some row ≡ Some row))) [
            | true ↦ λ t. inr (whole.listed q row e t, refl)
            | false ↦ λ t. inl (sym (rested_settled promotes row (whole.sound q row e t).0 (whole.sound q row e t).1))
          ] refl
        ] refl;
    once = whole.once;
    enough = whole.room;
    rises = whole.rising;
  }

  pub settling_step : (first es fs : List (RowKey × R)) (ks : List RowKey) (k : RowKey) (promotes : Bool) (room : ℕ)
      → IsSettling kind first es (ks ++ k ∷ []) promotes room → Settles kind promotes k es fs → IsSettling kind first fs ks promotes room
  settling_step first es fs ks k promotes room was did = record {
    each = λ q.
        elim (is_key k q) as (λ b. is_key k q ≡ b → (kept_at fs q ≡ settled kind promotes (kept_at first q)) ⊎ ((list_any (is_at (key_cmp q)) ks ≡ true) × (kept_at fs q ≡ kept_at first q))) [
          | true ↦ λ t.
              let here : kept_at fs q ≡ settled kind promotes (kept_at es q) = did.at q ∙ ap (λ b. cond b (settled kind promotes (kept_at es k)) (kept_at es q)) t ∙ ap (λ z. settled kind promotes (kept_at es z)) (one_key k q t) in
              elim (was.each q) [
                | inl done ↦ inl (here ∙ ap (settled kind promotes) done ∙ settled_twice promotes (kept_at first q))
                | inr still ↦ inl (here ∙ ap (settled kind promotes) still.1)
              ]
          | false ↦ λ f.
              let here : kept_at fs q ≡ kept_at es q = did.at q ∙ ap (λ b. cond b (settled kind promotes (kept_at es k)) (kept_at es q)) f in
              elim (was.each q) [
                | inl done ↦ inl (here ∙ done)
                | inr still ↦ inr (not_last ks k q (key_swap q k ∙ f) still.0, here ∙ still.1)
              ]
        ] refl;
    once = let longer : length (ks ++ k ∷ []) ≡ length ks + 1 = length-append ks (k ∷ []) in omega (arith, was.once, did.count);
    enough = omega (arith, was.enough, did.fewer);
    rises = did.rising was.rises;
  }

  pub settled_at_end : (first es : List (RowKey × R)) (promotes : Bool) (room : ℕ) → IsSettling kind first es [] promotes room → (q : RowKey) → kept_at es q ≡ settled kind promotes (kept_at first q)
  settled_at_end first es promotes room was q = elim (was.each q) [ inl done ↦ done | inr still ↦ absurd (two_sides (sym still.0)) ]

  abbrev IsRested : R → Type 0
  IsRested row = (kind.is_noted row ≡ false) × (row ≡ kind.at_rest (kind.version_of false row)) × IsSome (kind.version_of false row)

  settled_rests : (promotes : Bool) (o : Option R) (row : R) → settled kind promotes o ≡ Some row → IsRested row
  settled_rests promotes None row h = absurd (some_none (sym h))
  settled_rests promotes (Some before) row h =
      elim (kind.version_of promotes before) as (λ v. option_map rest_value v ≡ Some row → IsRested row) [
        | None ↦ λ h. absurd (some_none (sym h))
        | Some v ↦ λ h. subst IsRested (some_same (rest_value v) row h)
            (kind.unnoted (Some v), ap kind.at_rest (sym (kind.stays false (Some v))), subst (λ o. IsSome o) (sym (kind.stays false (Some v))) refl)
      ] h

  pub whole_at_end : (first es : List (RowKey × R)) (promotes : Bool) (room : ℕ) → IsSettling kind first es [] promotes room → IsListing kind es [] room
  whole_at_end first es promotes room was =
      let rests : (q : RowKey) (row : R) → kept_at es q ≡ Some row → IsRested row = λ q row is. settled_rests promotes (kept_at first q) row (sym (settled_at_end first es promotes room was q) ∙ is) in
      record {
        rising = was.rises;
        sound = λ q row is _. ((rests q row is).1, (rests q row is).2);
        listed = λ q row is t. absurd (two_sides (sym t ∙ (rests q row is).0));
        once = was.once;
        room = was.enough;
      }
