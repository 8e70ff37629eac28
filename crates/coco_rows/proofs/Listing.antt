-- The list of the keys of noted rows, as rows are put back, added and taken out.
use Rattle.std.proofs.Common.{◌≡◌, ℕ, ◌+◌, ◌≤◌, ◌<◌, Bool, true, false, cond, ◌||◌, not, List, [], ◌∷◌, ◌++◌, length, Option, None, Some, refl, sym, ap, ◌∙◌, subst, arith, sum_by, inl, inr, ◌⊎◌, length-append}
use Rattle.std.specs.Option.{unwrap_or, option_map, is_some}
use Rattle.std.specs.List.{list_any}
use Rattle.std.specs.Map.{set_value, remove_entry, values_of}
use Rattle.std.specs.BTreeMap.{is_at, insert_entry}
use Rattle.std.proofs.lemmas.Map.{length-set_value, keys-set_value}
use Rattle.std.proofs.lemmas.Map.Entries.{sum_by-set_value, sum_by-insert_entry, sum_by-remove_entry}
use Rattle.std.proofs.lemmas.List.Folds.{list_any-append}
use Rattle.coco_types.specs.RowKey.{RowKey, key_cmp}
use Rattle.coco_types.proofs.Keys.{is_key, one_key, key_itself, keys_total}
use Rattle.coco_rows.specs.Listing.{RowKind, kept_at, waits, IsListing, IsRising, IsSound}
use Rattle.coco_rows.proofs.Parts.{set_at}

-- the list with a key at its end, where its row is noted for the first time
abbrev pub with_key : Bool → List RowKey → RowKey → List RowKey
with_key first ks k = cond first (ks ++ k ∷ []) ks

any_more : (first : Bool) (ks : List RowKey) (k q : RowKey) → list_any (is_at (key_cmp q)) ks ≡ true → list_any (is_at (key_cmp q)) (with_key first ks k) ≡ true
any_more false ks k q h = h
any_more true ks k q h = list_any-append (is_at (key_cmp q)) ks (k ∷ []) ∙ ap (λ b. b || list_any (is_at (key_cmp q)) (k ∷ [])) h

or_true : (b : Bool) → (b || true) ≡ true
or_true true = refl
or_true false = refl

any_last : (ks : List RowKey) (k q : RowKey) → is_key q k ≡ true → list_any (is_at (key_cmp q)) (ks ++ k ∷ []) ≡ true
any_last ks k q h = list_any-append (is_at (key_cmp q)) ks (k ∷ []) ∙ ap (λ b. list_any (is_at (key_cmp q)) ks || (b || false)) h ∙ or_true (list_any (is_at (key_cmp q)) ks)

or_cases : (a b : Bool) → (a || b) ≡ true → (b ≡ true) ⊎ (a ≡ true)
or_cases true b h = inr refl
or_cases false b h = inl h

two_sides : true ≡ false → ⊥
two_sides h = cc

counts : (before after first : Bool) (n sum sum' len : ℕ) → after ≡ before || first → (first ≡ true → before ≡ false) → n + sum ≤ len → sum' + cond before 0 1 ≡ sum + cond after 0 1 → cond first (n + 1) n + sum' ≤ len
counts true true true n sum sum' len is once few same = absurd (two_sides (once refl))
counts true false true n sum sum' len is once few same = absurd (two_sides (once refl))
counts true true false n sum sum' len is once few same = omega arith
counts true false false n sum sum' len is once few same = absurd (two_sides (sym is))
counts false true true n sum sum' len is once few same = omega arith
counts false false true n sum sum' len is once few same = absurd (two_sides (sym is))
counts false true false n sum sum' len is once few same = absurd (two_sides is)
counts false false false n sum sum' len is once few same = omega arith

added_counts : (first : Bool) (n sum sum' len len' : ℕ) → sum' ≡ sum + cond first 0 1 → n + sum ≤ len → len' ≡ len + 1 → cond first (n + 1) n + sum' ≤ len'
added_counts true n sum sum' len len' is few more = omega arith
added_counts false n sum sum' len len' is few more = omega arith

firsts : (before first : Bool) → before ≡ not first → true ≡ before || first
firsts true first h = refl
firsts false true h = refl
firsts false false h = sym h

once : (before first : Bool) → before ≡ not first → first ≡ true → before ≡ false
once before first is h = is ∙ ap not h

length-with_key : (first : Bool) (ks : List RowKey) (k : RowKey) → length (with_key first ks k) ≡ cond first (length ks + 1) (length ks)
length-with_key true ks k = length-append ks (k ∷ [])
length-with_key false ks k = refl

module _ {R : Type 0} where
  -- what a look-up found after a write: the row that was written, or one from before
  put_cases : (b : Bool) (after : R) (old : Option R) (row : R) → cond b (Some after) old ≡ Some row → ((b ≡ true) × (after ≡ row)) ⊎ ((b ≡ false) × (old ≡ Some row))
  put_cases true after old row h = inl (refl, cc)
  put_cases false after old row h = inr (refl, h)

  -- after a removal it was there before
  still : (b : Bool) (old : Option R) (row : R) → cond b None old ≡ Some row → old ≡ Some row
  still true old row h = cc
  still false old row h = h

  pub set_rises : (es : List (RowKey × R)) (k : RowKey) (after : R) → IsRising es → IsRising (set_value (is_at (key_cmp k)) es after)
  set_rises es k after rising = rw (keys-set_value (is_at (key_cmp k)) es after) rising

module _ {R : Type 0} (kind : RowKind R) where
  pub whole_after : (es fs : List (RowKey × R)) (ks : List RowKey) (room more : ℕ) (k : RowKey) (after : R) (first : Bool)
      → IsListing kind es ks room
      → IsRising fs
      → ((q : RowKey) → kept_at fs q ≡ cond (is_key k q) (Some after) (kept_at es q))
      → IsSound kind after
      → (kind.is_noted after ≡ true → (first ≡ true) ⊎ (list_any (is_at (key_cmp k)) ks ≡ true))
      → length (with_key first ks k) + sum_by (waits kind) (values_of fs) ≤ length fs
      → length fs ≤ more
      → IsListing kind fs (with_key first ks k) more
  whole_after es fs ks room more k after first whole rising at sound stands once enough = record {
    rising = rising;
    sound = λ q row is.
        elim (put_cases (is_key k q) after (kept_at es q) row (sym (at q) ∙ is)) [
          | inl h ↦ subst (IsSound kind) h.1 sound
          | inr h ↦ whole.sound q row h.1
        ];
    listed = λ q row is t.
        elim (put_cases (is_key k q) after (kept_at es q) row (sym (at q) ∙ is)) [
          | inl h ↦ subst (λ z. list_any (is_at (key_cmp z)) (with_key first ks k) ≡ true) (one_key k q h.0)
              (elim (stands (ap kind.is_noted h.1 ∙ t)) [
                | inl now ↦ ap (λ b. list_any (is_at (key_cmp k)) (with_key b ks k)) now ∙ any_last ks k k (key_itself k)
                | inr before ↦ any_more first ks k k before
              ])
          | inr h ↦ any_more first ks k q (whole.listed q row h.1 t)
        ];
    once = once;
    room = enough;
  }

  -- the same rows and keys, with as much room or more
  pub whole_kept : (es fs : List (RowKey × R)) (ks ls : List RowKey) (room more : ℕ) → IsListing kind es ks room → fs ≡ es → ls ≡ ks → room ≤ more → IsListing kind fs ls more
  whole_kept es fs ks ls room more whole rows keys enough =
      subst (λ z. IsListing kind z ls more) (sym rows) (subst (λ z. IsListing kind es z more) (sym keys) (record {
        rising = whole.rising;
        sound = whole.sound;
        listed = whole.listed;
        once = whole.once;
        room = omega (arith, whole.room);
      }))

  -- the rows after one is changed in its place, with the list that has its key where it is noted for the first time
  pub changed_whole : (es fs : List (RowKey × R)) (ks ls : List RowKey) (room more : ℕ) (k : RowKey) (before after : R) (first : Bool)
      → IsListing kind es ks room → kept_at es k ≡ Some before → IsSound kind after → kind.is_noted after ≡ kind.is_noted before || first → (first ≡ true → kind.is_noted before ≡ false) → room ≤ more
      → fs ≡ set_value (is_at (key_cmp k)) es after → ls ≡ with_key first ks k → IsListing kind fs ls more
  changed_whole es fs ks ls room more k before after first whole was sound is once le put items =
      let new : List (RowKey × R) = set_value (is_at (key_cmp k)) es after in
      let same : length new ≡ length es = length-set_value (is_at (key_cmp k)) es after in
      let sums : sum_by (waits kind) (values_of new) + waits kind before ≡ sum_by (waits kind) (values_of es) + waits kind after = sum_by-set_value (waits kind) (is_at (key_cmp k)) es before after was in
      let few : cond first (length ks + 1) (length ks) + sum_by (waits kind) (values_of new) ≤ length es = counts (kind.is_noted before) (kind.is_noted after) first (length ks) _ _ (length es) is once whole.once sums in
      whole_kept new fs (with_key first ks k) ls more more
      (whole_after es new ks room more k after first whole (set_rises es k after whole.rising) (λ q. set_at es k before after q was) sound
      (λ t. elim (or_cases (kind.is_noted before) first (sym is ∙ t)) [ inl now ↦ inl now | inr old ↦ inr (whole.listed k before was old) ])
      (rw (length-with_key first ks k, same) few)
      (omega (arith, same, whole.room, le)))
      put items (omega arith)

  -- the same, where an entry put a noted row back
  pub entered_whole : (es fs : List (RowKey × R)) (ks : List RowKey) (room more : ℕ) (k : RowKey) (before after : R) (first : Bool)
      → IsListing kind es ks room → kept_at es k ≡ Some before → kind.is_noted after ≡ true → kind.is_noted before ≡ not first → room ≤ more
      → IsRising fs → fs ≡ insert_entry key_cmp es k after → ((q : RowKey) → kept_at fs q ≡ cond (is_key k q) (Some after) (kept_at es q)) → length fs ≡ length es
      → IsListing kind fs (with_key first ks k) more
  entered_whole es fs ks room more k before after first whole was now is le rising put at len =
      let sums : sum_by (waits kind) (values_of (insert_entry key_cmp es k after)) + unwrap_or (option_map (waits kind) (kept_at es k)) 0 ≡ sum_by (waits kind) (values_of es) + waits kind after = sum_by-insert_entry (waits kind) keys_total es k after whole.rising in
      let notes : kind.is_noted after ≡ kind.is_noted before || first = now ∙ firsts (kind.is_noted before) first is in
      let old : unwrap_or (option_map (waits kind) (kept_at es k)) 0 ≡ waits kind before = ap (λ o. unwrap_or (option_map (waits kind) o) 0) was in
      let here : sum_by (waits kind) (values_of fs) ≡ sum_by (waits kind) (values_of (insert_entry key_cmp es k after)) = ap (λ z. sum_by (waits kind) (values_of z)) put in
      let few : cond first (length ks + 1) (length ks) + sum_by (waits kind) (values_of fs) ≤ length es =
      counts (kind.is_noted before) (kind.is_noted after) first (length ks) (sum_by (waits kind) (values_of es)) (sum_by (waits kind) (values_of fs)) (length es) notes (once (kind.is_noted before) first is) whole.once (omega (arith, sums, old, here)) in
      whole_after es fs ks room more k after first whole rising at (λ h. absurd (two_sides (sym now ∙ h)))
      (λ t. elim (or_cases (kind.is_noted before) first (sym notes ∙ t)) [ inl now ↦ inl now | inr old ↦ inr (whole.listed k before was old) ])
      (rw (length-with_key first ks k) (omega (arith, few, len)))
      (omega (arith, len, whole.room, le))

  -- the list has room for one more key
  pub room_left : (es : List (RowKey × R)) (ks : List RowKey) (room : ℕ) (k : RowKey) (before : R) → IsListing kind es ks room → kept_at es k ≡ Some before → kind.is_noted before ≡ false → length ks < room
  room_left es ks room k before whole was not =
      let one : unwrap_or (option_map (waits kind) (kept_at es k)) 0 ≡ 1 = ap (λ o. unwrap_or (option_map (waits kind) o) 0) was ∙ ap (λ b. cond b 0 1) not in
      omega (arith, one, sum_by-remove_entry (waits kind) (is_at (key_cmp k)) es, whole.once, whole.room)

  pub added_whole : (es : List (RowKey × R)) (ks : List RowKey) (room more : ℕ) (k : RowKey) (row : R) (fs : List (RowKey × R))
      → IsListing kind es ks room → kept_at es k ≡ None → IsSound kind row → IsRising fs → fs ≡ insert_entry key_cmp es k row
      → ((q : RowKey) → kept_at fs q ≡ cond (is_key k q) (Some row) (kept_at es q)) → length fs ≡ length es + 1 → length es + 1 ≤ more
      → IsListing kind fs (with_key (kind.is_noted row) ks k) more
  added_whole es ks room more k row fs whole none sound rising put at len enough =
      let sums : sum_by (waits kind) (values_of (insert_entry key_cmp es k row)) + unwrap_or (option_map (waits kind) (kept_at es k)) 0 ≡ sum_by (waits kind) (values_of es) + waits kind row = sum_by-insert_entry (waits kind) keys_total es k row whole.rising in
      let zero : unwrap_or (option_map (waits kind) (kept_at es k)) 0 ≡ 0 = ap (λ o. unwrap_or (option_map (waits kind) o) 0) none in
      let here : sum_by (waits kind) (values_of fs) ≡ sum_by (waits kind) (values_of (insert_entry key_cmp es k row)) = ap (λ z. sum_by (waits kind) (values_of z)) put in
      whole_after es fs ks room more k row (kind.is_noted row) whole rising at sound (λ t. inl t)
      (rw (length-with_key (kind.is_noted row) ks k) (added_counts (kind.is_noted row) (length ks) _ _ (length es) _ (omega (arith, sums, zero, here)) whole.once len))
      (omega (arith, len, enough))

  -- where the list is empty, no row is noted
  pub none_noted : (es : List (RowKey × R)) (room : ℕ) → IsListing kind es [] room → (k : RowKey) (row : R) → kept_at es k ≡ Some row → kind.is_noted row ≡ false
  none_noted es room whole k row is = elim (kind.is_noted row) as (λ t. kind.is_noted row ≡ t → t ≡ false) [
    | true ↦ λ t. sym (whole.listed k row is t)
    | false ↦ λ _. refl
  ] refl

  -- a row that isn't noted is taken out, where there is one
  pub dropped_whole : (es fs : List (RowKey × R)) (ks : List RowKey) (room : ℕ) (k : RowKey)
      → IsListing kind es ks room → ((row : R) → kept_at es k ≡ Some row → kind.is_noted row ≡ false) → IsRising fs
      → fs ≡ remove_entry (is_at (key_cmp k)) es → ((q : RowKey) → kept_at fs q ≡ cond (is_key k q) None (kept_at es q)) → length fs + cond (is_some (kept_at es k)) 1 0 ≡ length es
      → IsListing kind fs ks room
  dropped_whole es fs ks room k whole none rising gone at len =
      let sums : sum_by (waits kind) (values_of (remove_entry (is_at (key_cmp k)) es)) + unwrap_or (option_map (waits kind) (kept_at es k)) 0 ≡ sum_by (waits kind) (values_of es) = sum_by-remove_entry (waits kind) (is_at (key_cmp k)) es in
      let here : sum_by (waits kind) (values_of fs) ≡ sum_by (waits kind) (values_of (remove_entry (is_at (key_cmp k)) es)) = ap (λ z. sum_by (waits kind) (values_of z)) gone in
      let one : unwrap_or (option_map (waits kind) (kept_at es k)) 0 ≡ cond (is_some (kept_at es k)) 1 0 = weighed (kept_at es k) none in
      record {
        rising = rising;
        sound = λ q row is. whole.sound q row (still (is_key k q) (kept_at es q) row (sym (at q) ∙ is));
        listed = λ q row is. whole.listed q row (still (is_key k q) (kept_at es q) row (sym (at q) ∙ is));
        once = omega (arith, whole.once, sums, here, one, len);
        room = omega (arith, whole.room, len);
      }
    where
      weighed : (o : Option R) → ((row : R) → o ≡ Some row → kind.is_noted row ≡ false) → unwrap_or (option_map (waits kind) o) 0 ≡ cond (is_some o) 1 0
      weighed None h = refl
      weighed (Some row) h = ap (λ b. cond b 0 1) (h row refl)
