-- The last row of the list that ends with the greater key.
use Rattle.std.proofs.Common.{◌≡◌, ◌≢◌, ◌⊎◌, inl, inr, ℕ, suc, ◌+◌, ◌-◌, ◌==◌, true, false, List, [], ◌∷◌, ◌++◌, length, Option, Some, None, refl, sym, ap, subst, ◌∙◌, arith}
use Rattle.std.specs.Prelude.{MatchOption, option_to_list, slice_get}
use Rattle.std.specs.List.{AllByRecursion}
use Rattle.std.specs.Ordering.{ordering_index, ordering_reverse}
use Rattle.std.specs.declared.cmp.Ordering.{Ordering}
use Rattle.std.specs.declared.cmp.Ordering.TheVariants.{Less, Equal, Greater}
use Rattle.coco_types.specs.RowKey.{RowKey, key_cmp}
use Rattle.coco_types.proofs.Keys.{keys_exact, keys_total}
use Rattle.coco_bytes.specs.Lists.{last_item}
use Rattle.coco_bytes.proofs.ListLemmas.{last_item-push}
use Rattle.coco_entry.specs.declared.prepared.Row.{Row}
use Rattle.coco_rebuild.specs.Sources.{EndsBelow, HaveOtherKeys}

-- ---- last items

pub last_got : {A : Type 0} (xs : List A) → last_item xs ≡ slice_get xs (length xs - 1)
last_got [] = refl
last_got (x ∷ []) = refl
last_got (x ∷ y ∷ ys) =
    let here : length (y ∷ ys) - 1 ≡ length ys = omega arith in
    let more : length (x ∷ y ∷ ys) - 1 ≡ suc (length ys) = omega arith in
    last_got (y ∷ ys) ∙ ap (slice_get (y ∷ ys)) here ∙ sym (ap (slice_get (x ∷ y ∷ ys)) more)

none_last : {A : Type 0} (xs : List A) → last_item xs ≡ None → xs ≡ []
none_last [] e = refl
none_last (x ∷ []) e = let no : Some x ≡ None = e in cc
none_last (x ∷ y ∷ ys) e = let no : ◌≡◌ {A = List _} (y ∷ ys) [] = none_last (y ∷ ys) e in cc

of_last : {A : Type 0} (P : A → Type 0) (xs : List A) (x : A) → last_item xs ≡ Some x → AllByRecursion P xs → P x
of_last P [] x e all = let no : None ≡ Some x = e in cc
of_last P (y ∷ []) x e all = let one : Some y ≡ Some x = e in let same : y ≡ x = cc in subst P same all.0
of_last P (y ∷ z ∷ ys) x e all = of_last P (z ∷ ys) x e all.1

no_items : {A : Type 0} (xs : List A) → length xs ≡ 0 → xs ≡ []
no_items [] e = refl
no_items (x ∷ xs) e = absurd (omega (arith, e))

-- ---- keys

turned : (j k : RowKey) → key_cmp j k ≢ Less → j ≢ k → key_cmp k j ≡ Less
turned j k not_less other =
    elim (key_cmp j k) as (λ o. key_cmp j k ≡ o → key_cmp k j ≡ Less) [
      | Less ↦ λ e. absurd (not_less e)
      | Equal ↦ λ e. absurd (other (keys_exact j k e))
      | Greater ↦ λ e. keys_total.antisymm k j ∙ ap ordering_reverse e
    ] refl

-- ---- what is taken

-- a row was taken of one of two lists, or both are empty
abbrev pub IsTaken : List Row → List Row → List Row → List Row → Option Row → Type 0
IsTaken rows others rest more taken =
    MatchOption taken ((rows ≡ []) × (others ≡ []))
    (λ row. ((rows ≡ rest ++ row ∷ []) × (more ≡ others) × EndsBelow others row) ⊎ ((others ≡ more ++ row ∷ []) × (rest ≡ rows) × EndsBelow rows row))

-- a list gave up its last item, if it has one
pub record IsPopped (old new : List Row) (taken : Option Row) : Type 0 where
  pub items : old ≡ new ++ option_to_list taken
  pub none : MatchOption taken (length old ≡ 0) (λ _. Unit {0})

pub popped : (old new : List Row) (taken : Option Row) (n m : ℕ) → old ≡ new ++ option_to_list taken → n ≡ length old → MatchOption taken ((n ≡ 0) × (m ≡ 0)) (λ _. m + 1 ≡ n) → IsPopped old new taken
popped old new None n m items same cases = record { items = items; none = sym same ∙ cases.0 }
popped old new (Some row) n m items same cases = record { items = items; none = tt }

first_taken : (rows others rest : List Row) (taken : Option Row) → IsPopped rows rest taken → (rows ≡ [] → others ≡ []) → ((row : Row) → last_item rows ≡ Some row → EndsBelow others row)
    → IsTaken rows others rest others taken
first_taken rows others rest None pop empty below = let no = no_items rows pop.none in (no, empty no)
first_taken rows others rest (Some row) pop empty below = inl (pop.items, refl, below row (ap last_item pop.items ∙ last_item-push rest row))

second_taken : (rows others more : List Row) (taken : Option Row) → IsPopped others more taken → (others ≡ [] → rows ≡ []) → ((row : Row) → last_item others ≡ Some row → EndsBelow rows row)
    → IsTaken rows others rows more taken
second_taken rows others more None pop empty below = let no = no_items others pop.none in (empty no, no)
second_taken rows others more (Some row) pop empty below = inr (pop.items, refl, below row (ap last_item pop.items ∙ last_item-push more row))

-- both lists have a last row
ends_below : (rows : List Row) (last row : Row) → last_item rows ≡ Some last → key_cmp last.key row.key ≡ Less → EndsBelow rows row
ends_below rows last row is less = subst (λ (o : Option Row). MatchOption o (Unit {0}) (λ x. key_cmp x.key row.key ≡ Less)) (sym is) less

not_empty : (xs : List Row) (x : Row) → last_item xs ≡ Some x → xs ≡ [] → ⊥
not_empty xs x is none = let no : None ≡ Some x = sym (ap last_item none) ∙ is in cc

one_last : (xs : List Row) (x y : Row) → last_item xs ≡ Some x → last_item xs ≡ Some y → x ≡ y
one_last xs x y e f = let same : Some x ≡ Some y = sym e ∙ f in cc

module _ (rows others : List Row) (row other : Row) (ends : last_item rows ≡ Some row) (ends_too : last_item others ≡ Some other) where
  pub second_of_both : (more : List Row) (taken : Option Row) → IsPopped others more taken → key_cmp row.key other.key ≡ Less → IsTaken rows others rows more taken
  second_of_both more taken pop less =
      second_taken rows others more taken pop (λ none. absurd (not_empty others other ends_too none))
      (λ x is. subst (EndsBelow rows) (one_last others other x ends_too is) (ends_below rows row other ends less))

  pub first_of_both : (rest : List Row) (taken : Option Row) → IsPopped rows rest taken → HaveOtherKeys rows others → key_cmp row.key other.key ≢ Less → IsTaken rows others rest others taken
  first_of_both rest taken pop apart not_less =
      let differ : row.key ≢ other.key = of_last (λ (y : Row). row.key ≢ y.key) others other ends_too (of_last (λ (x : Row). AllByRecursion (λ (y : Row). x.key ≢ y.key) others) rows row ends apart) in
      first_taken rows others rest taken pop (λ none. absurd (not_empty rows row ends none))
      (λ x is. subst (EndsBelow others) (one_last rows row x ends is) (ends_below others other row ends_too (turned row.key other.key not_less differ)))

-- one of them has none
pub second_alone_left : (rows others more : List Row) (taken : Option Row) → last_item rows ≡ None → IsPopped others more taken → IsTaken rows others rows more taken
second_alone_left rows others more taken none pop =
    let no : rows ≡ [] = none_last rows none in
    second_taken rows others more taken pop (λ _. no) (λ x is. subst (λ (l : List Row). EndsBelow l x) (sym no) tt)

pub first_alone_left : (rows others rest : List Row) (taken : Option Row) → last_item others ≡ None → IsPopped rows rest taken → IsTaken rows others rest others taken
first_alone_left rows others rest taken none pop =
    let no : others ≡ [] = none_last others none in
    first_taken rows others rest taken pop (λ _. no) (λ x is. subst (λ (l : List Row). EndsBelow l x) (sym no) tt)

-- the test
pub is_less : (o : Ordering) → (ordering_index o == 0) ≡ true → o ≡ Less
is_less Less e = refl
is_less Equal e = let no : false ≡ true = e in cc
is_less Greater e = let no : false ≡ true = e in cc

pub is_not_less : (o : Ordering) → (ordering_index o == 0) ≡ false → o ≢ Less
is_not_less o e is = let no : true ≡ false = sym (ap (λ (p : Ordering). ordering_index p == 0) is) ∙ e in cc
