-- Items that are handed out to columns, from the last column on.
use Rattle.std.proofs.Common.{◌≡◌, ◌⊎◌, inl, inr, ℕ, zero, suc, Option, None, Some, append_assoc, vec_len, vec_capacity, ◌-◌, ◌+◌, ◌<◌, ◌≤◌, List, [], ◌∷◌, ◌++◌, length, take, slice_index_or, slice_set, refl, sym, ap, ◌∙◌, subst, arith}
use Rattle.std.specs.Global.{Vec}
use Rattle.std.proofs.lemmas.List.Elements.{filter_map-append}
use Rattle.std.specs.List.{AllByRecursion, cons_option, slice_get}
use Rattle.std.proofs.lemmas.List.{append-nil, get_or-set_other, get_or-set_same, get_or-take, length-append, length-take, take_more}
use Rattle.std.proofs.lemmas.Option.{get_or_from_slice_get, same_Some, slice_get-get_or}
use Rattle.coco_desks.specs.Rows.{GainsOne, column}

-- the columns from this one on have their items
pub record HandedFrom {T : Type 0} (items : List T) (left : ℕ) (before after : List (Vec T)) : Type 0 where
  pub from : (place : ℕ) (d : Vec T) (x : T) → left ≤ place → place < length before → GainsOne (slice_index_or items place x) (slice_index_or before place d) (slice_index_or after place d)
  pub below : (place : ℕ) (d : Vec T) → place < left → slice_index_or after place d ≡ slice_index_or before place d

pub any_default : {X : Type 0} (xs : List X) (i : ℕ) (d e : X) → i < length xs → slice_index_or xs i d ≡ slice_index_or xs i e
any_default xs i d e lt = same_Some (slice_index_or xs i d) (slice_index_or xs i e) (sym (slice_get-get_or xs i d lt) ∙ slice_get-get_or xs i e lt)

same_or_above : (n m : ℕ) → n - 1 ≤ m → 0 < n → (m ≡ n - 1) ⊎ (n ≤ m)
same_or_above n m le some = grind arith

module _ {T : Type 0} (items : List T) (before : List (Vec T)) where
  pub handed_none : HandedFrom items (length before) before before
  handed_none = record { from = λ place d x le lt. absurd (omega arith); below = λ place d lt. refl }

  pub handed_more : (left : ℕ) (after : List (Vec T)) (item : T) (column : Vec T) → 0 < left → left ≤ length before → length after ≡ length before → ((x : T) → item ≡ slice_index_or items (left - 1) x)
      → (e : Vec T) → GainsOne item (slice_index_or after (left - 1) e) column → HandedFrom items left before after → HandedFrom items (left - 1) before (slice_set after (left - 1) column)
  handed_more left after item column some le count is e gains handed = record {
    from = λ place d x from lt. by_place place d x lt (same_or_above left place from some);
    below = λ place d lt. get_or-set_other after (left - 1) place column d (λ same. omega (arith, same)) ∙ handed.below place d (omega arith);
  }
    where
      by_place : (place : ℕ) (d : Vec T) (x : T) → place < length before → (place ≡ left - 1) ⊎ (left ≤ place) → GainsOne (slice_index_or items place x) (slice_index_or before place d) (slice_index_or (slice_set after (left - 1) column) place d)
      by_place place d x lt (inl same) =
          subst (λ (n : ℕ). GainsOne (slice_index_or items n x) (slice_index_or before n d) (slice_index_or (slice_set after (left - 1) column) n d)) (sym same)
          (subst (λ (c : Vec T). GainsOne (slice_index_or items (left - 1) x) (slice_index_or before (left - 1) d) c) (sym (get_or-set_same after (left - 1) column d (omega arith)))
          (subst (λ (y : T). GainsOne y (slice_index_or before (left - 1) d) column) (is x) (subst (λ (c : Vec T). GainsOne item c column) (any_default after (left - 1) e d (omega arith) ∙ handed.below (left - 1) d (omega arith)) gains)))
      by_place place d x lt (inr above) =
          subst (λ (c : Vec T). GainsOne (slice_index_or items place x) (slice_index_or before place d) c) (sym (get_or-set_other after (left - 1) place column d (λ same. omega (arith, same)))) (handed.from place d x above lt)

take_less : {T : Type 0} (n : ℕ) (xs : List T) → take n (take (suc n) xs) ≡ take n xs
take_less zero xs = refl
take_less (suc n) [] = refl
take_less (suc n) (x ∷ xs) = ap (λ ys. x ∷ ys) (take_less n xs)

-- all but the last of the first items
pub one_less : {T : Type 0} (n left : ℕ) (xs ys zs : List T) → n ≡ left → 0 < left → ys ≡ take left xs → zs ≡ take (n - 1) ys → zs ≡ take (left - 1) xs
one_less n left xs ys zs same some are rest =
    rest ∙ ap (λ k. take (k - 1) ys) same ∙ ap (take (left - 1)) (are ∙ ap (λ k. take k xs) (let h : left ≡ suc (left - 1) = omega arith in h)) ∙ take_less (left - 1) xs

-- the last of the first items is the one at its place
pub last_at : {T : Type 0} (n left : ℕ) (xs ys : List T) (item : T) → n ≡ left → 0 < left → ys ≡ take left xs → ((d : T) → Some item ≡ Some (slice_index_or ys (n - 1) d)) → (d : T) → item ≡ slice_index_or xs (left - 1) d
last_at n left xs ys item same some are last d =
    same_Some item (slice_index_or ys (n - 1) d) (last d) ∙ ap (λ k. slice_index_or ys (k - 1) d) same ∙ ap (λ zs. slice_index_or zs (left - 1) d) are ∙ get_or-take left xs (left - 1) d (omega arith)

-- ---- row after row

-- so many rows are turned
pub record Turned {T : Type 0} (turned : ℕ) (first now before after : List (Vec T)) : Type 0 where
  pub emptied : (place : ℕ) (d : Vec T) → place < turned → place < length first → ((slice_index_or now place d).items ≡ []) × (vec_capacity (slice_index_or now place d) ≡ vec_capacity (slice_index_or first place d))
  pub rest : (place : ℕ) (d : Vec T) → turned ≤ place → slice_index_or now place d ≡ slice_index_or first place d
  pub gained : (place : ℕ) (d : Vec T) → place < length before → (slice_index_or after place d).items ≡ (slice_index_or before place d).items ++ column place (take turned first)
  pub room : (place : ℕ) (d : Vec T) → place < length before → vec_capacity (slice_index_or after place d) ≡ vec_capacity (slice_index_or before place d)

column_append : {T : Type 0} (place : ℕ) (xs ys : List (Vec T)) → column place (xs ++ ys) ≡ column place xs ++ column place ys
column_append place xs ys = filter_map-append (λ (row : Vec _). slice_get row.items place) xs ys

one_more : {T : Type 0} (o : Option T) (ys : List T) (n : ℕ) → length ys ≤ n → length (cons_option o ys) ≤ suc n
one_more None ys n le = omega (arith, le)
one_more (Some y) ys n le = omega (arith, le)

column_short : {T : Type 0} (place : ℕ) (xs : List (Vec T)) → length (column place xs) ≤ length xs
column_short place [] = omega arith
column_short place (x ∷ xs) = one_more (slice_get x.items place) (column place xs) (length xs) (column_short place xs)

pub some_at : {T : Type 0} (xs : List T) (n : ℕ) → n < length xs → (x : T) × (slice_get xs n ≡ Some x)
some_at [] n lt = absurd (omega arith)
some_at (x ∷ xs) zero lt = (x, refl)
some_at (x ∷ xs) (suc n) lt = some_at xs n (omega arith)

index_or_below : (p q : ℕ) → p < q + 1 → (p ≡ q) ⊎ (p < q)
index_or_below p q lt = grind arith

module _ {T : Type 0} (first before : List (Vec T)) where
  pub turned_none : Turned 0 first first before before
  turned_none = record {
    emptied = λ place d lt. absurd (omega arith);
    rest = λ place d le. refl;
    gained = λ place d lt. sym (append-nil (slice_index_or before place d).items);
    room = λ place d lt. refl;
  }

  -- there is room for one item more
  pub has_room : (turned : ℕ) (now after : List (Vec T)) → Turned turned first now before after → turned < length first → ((place : ℕ) (d : Vec T) → place < length before → vec_len (slice_index_or before place d) + length first ≤ vec_capacity (slice_index_or before place d))
      → (place : ℕ) (d : Vec T) → place < length before → vec_len (slice_index_or after place d) < vec_capacity (slice_index_or after place d)
  has_room turned now after is more room place d lt =
      let old : Vec T = slice_index_or before place d in
      let new : Vec T = slice_index_or after place d in
      let here : length new.items ≡ length old.items + length (column place (take turned first)) = ap length (is.gained place d lt) ∙ length-append old.items (column place (take turned first)) in
      let few : length (column place (take turned first)) ≤ length (take turned first) = column_short place (take turned first) in
      omega (arith, here, few, length-take turned first, old.ok.0, new.ok.0, room place d lt, is.room place d lt, more)

  pub turned_more : (turned : ℕ) (now after last : List (Vec T)) (row : Vec T) → Turned turned first now before after → turned < length first → length now ≡ length first → length after ≡ length before
      → ((place : ℕ) (d : Vec T) → place < length first → vec_len (slice_index_or first place d) ≡ length before) → (e : Vec T) → row.items ≡ [] → vec_capacity row ≡ vec_capacity (slice_index_or now turned e)
      → ((place : ℕ) (d : Vec T) (x : T) → place < length after → GainsOne (slice_index_or (slice_index_or now turned e).items place x) (slice_index_or after place d) (slice_index_or last place d))
      → Turned (turned + 1) first (slice_set now turned row) before last
  turned_more turned now after last row is more count columns counts e empty kept gains = record {
    emptied = λ place d lt within. by_emptied place d within (index_or_below place turned lt);
    rest = λ place d le. get_or-set_other now turned place row d (λ same. omega (arith, same, le)) ∙ is.rest place d (omega (arith, le));
    gained = λ place d lt. gained place d lt;
    room = λ place d lt. (gains place d (item place lt).0 (omega (arith, lt, columns))).room ∙ is.room place d lt;
  }
    where
      by_emptied : (place : ℕ) (d : Vec T) → place < length first → (place ≡ turned) ⊎ (place < turned) → ((slice_index_or (slice_set now turned row) place d).items ≡ []) × (vec_capacity (slice_index_or (slice_set now turned row) place d) ≡ vec_capacity (slice_index_or first place d))
      by_emptied place d within (inl same) = subst (λ (n : ℕ). ((slice_index_or (slice_set now turned row) n d).items ≡ []) × (vec_capacity (slice_index_or (slice_set now turned row) n d) ≡ vec_capacity (slice_index_or first n d))) (sym same)
          (subst (λ (v : Vec T). (v.items ≡ []) × (vec_capacity v ≡ vec_capacity (slice_index_or first turned d))) (sym (get_or-set_same now turned row d (omega (arith, more, count))))
          (empty, kept ∙ ap vec_capacity (is.rest turned e (omega arith) ∙ any_default first turned e d more)))
      by_emptied place d within (inr below) = subst (λ (v : Vec T). (v.items ≡ []) × (vec_capacity v ≡ vec_capacity (slice_index_or first place d))) (sym (get_or-set_other now turned place row d (λ same. omega (arith, same, below)))) (is.emptied place d below within)

      item : (place : ℕ) → place < length before → (x : T) × (slice_get (slice_index_or first turned e).items place ≡ Some x)
      item place lt = let len = counts turned e more in let ok = (slice_index_or first turned e).ok.0 in some_at (slice_index_or first turned e).items place (omega (arith, lt, len, ok))

      gained : (place : ℕ) (d : Vec T) → place < length before → (slice_index_or last place d).items ≡ (slice_index_or before place d).items ++ column place (take (turned + 1) first)
      gained place d lt =
          let x : T = (item place lt).0 in
          let here : slice_index_or (slice_index_or now turned e).items place x ≡ x =
          ap (λ (v : Vec T). slice_index_or v.items place x) (is.rest turned e (omega arith)) ∙ get_or_from_slice_get (slice_index_or first turned e).items place x x (item place lt).1 in
          (gains place d x (omega (arith, lt, columns))).items ∙ ap (λ (y : T). (slice_index_or after place d).items ++ y ∷ []) here ∙ ap (λ (ys : List T). ys ++ x ∷ []) (is.gained place d lt)
          ∙ append_assoc (slice_index_or before place d).items (column place (take turned first)) (x ∷ [])
          ∙ ap (λ (ys : List T). (slice_index_or before place d).items ++ ys)
          (ap (λ (o : Option T). column place (take turned first) ++ cons_option o []) (sym (item place lt).1)
          ∙ sym (column_append place (take turned first) (slice_index_or first turned e ∷ [])) ∙ ap (column place) (sym (take_more first turned e more)))

-- ---- an item of a column

module _ {T : Type 0} (P : T → Type 0) (place : ℕ) where
  all_behind : (o : Option T) (ps : List T) → AllByRecursion P (cons_option o ps) → AllByRecursion P ps
  all_behind None ps all = all
  all_behind (Some p) ps all = all.1

  -- what holds of each item of a column holds of that of each row
  pub in_column : (rows : List (Vec T)) → AllByRecursion P (column place rows) → (n : ℕ) (d : Vec T) → n < length rows → (p : T) → slice_get (slice_index_or rows n d).items place ≡ Some p → P p
  in_column [] all n d lt p at = absurd (omega (arith, lt))
  in_column (row ∷ rows) all zero d lt p at = (subst (λ (o : Option T). AllByRecursion P (cons_option o (column place rows))) at all).0
  in_column (row ∷ rows) all (suc n) d lt p at = in_column rows (all_behind (slice_get row.items place) (column place rows) all) n d (omega (arith, lt)) p at
