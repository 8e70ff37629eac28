-- The first broken item of a list, and its place among bytes.
use Rattle.std.proofs.Common.{◌≡◌, ◌⊎◌, inl, inr, ℕ, ◌+◌, ◌<◌, ◌≤◌, List, [], ◌∷◌, ◌++◌, length, take, drop, get_or, Option, None, Some, refl, sym, ap, subst, ◌∙◌, arith, append_assoc, append-nil, length-append, take-append-drop}
use Rattle.std.specs.List.{flat_map, sum_by}
use Rattle.std.proofs.lemmas.List.{drop_more, length-take-le, take_all, take_at, take_more}
use Rattle.std.proofs.lemmas.List.Concat.{flat_map-append, length-flat_map}
use Rattle.std.proofs.lemmas.List.Sums.{sum_by-take-drop}
use Rattle.coco_store.specs.Refusals.{IsFirst, ItemBreaks}
use Rattle.coco_store.specs.Rules.{EachBehind}
use Rattle.coco_rules.specs.Judged.{FindsBroken, IsFirstBroken}

module _ {A : Type 0} (Rule : List A → A → Type 0) where
  pub each_more : (before xs : List A) (x : A) → EachBehind Rule before xs → Rule (before ++ xs) x → EachBehind Rule before (xs ++ x ∷ [])
  each_more before [] x each next = (subst (λ (l : List A). Rule l x) (append-nil before) next, tt)
  each_more before (y ∷ xs) x each next = (each.0, each_more (before ++ y ∷ []) xs x each.1 (subst (λ (l : List A). Rule l x) (sym (append_assoc before (y ∷ []) xs)) next))

  pub each_at : (before xs : List A) (x : A) (ys : List A) → EachBehind Rule before (xs ++ x ∷ ys) → Rule (before ++ xs) x
  each_at before [] x ys each = subst (λ (l : List A). Rule l x) (sym (append-nil before)) each.0
  each_at before (y ∷ xs) x ys each =
      subst (λ (l : List A). Rule l x) (append_assoc before (y ∷ []) xs) (each_at (before ++ y ∷ []) xs x ys each.1)

-- two ways to cut a list: one front goes on with the other's item, or begins with the other front
record IsLonger {A : Type 0} (front : List A) (x : A) (longer : List A) : Type 0 where
  more : List A
  is : longer ≡ front ++ x ∷ more

cuts : {A : Type 0} (xs : List A) (x : A) (ys us : List A) (u : A) (vs : List A) → xs ++ x ∷ ys ≡ us ++ u ∷ vs → IsLonger us u xs ⊎ ((more : List A) × (us ≡ xs ++ more))
cuts [] x ys us u vs e = inr (us, refl)
cuts {A} (y ∷ xs) x ys [] u vs e =
    let two : ◌≡◌ {A = List A} (y ∷ (xs ++ x ∷ ys)) (u ∷ vs) = e in
    let same : y ≡ u = cc in
    inl (record { more = xs; is = ap (λ (z : A). z ∷ xs) same })
cuts {A} (y ∷ xs) x ys (w ∷ us) u vs e =
    let two : ◌≡◌ {A = List A} (y ∷ (xs ++ x ∷ ys)) (w ∷ (us ++ u ∷ vs)) = e in
    let head : y ≡ w = cc in
    let tail : xs ++ x ∷ ys ≡ us ++ u ∷ vs = cc in
    elim (cuts xs x ys us u vs tail) [
      | inl longer ↦ inl (record { more = longer.more; is = ap (λ (z : A). z ∷ xs) head ∙ ap (λ (l : List A). w ∷ l) longer.is })
      | inr (more, is) ↦ inr (more, ap (λ (z : A). z ∷ us) (sym head) ∙ ap (λ (l : List A). y ∷ l) is)
    ]

-- the first broken item's first byte is the least place at which an item breaks the rule
pub first_place : {A : Type 0} (Rule : List A → A → Type 0) (bytes_of : A → List ℕ) (before items : List A) (i : ℕ) (b : IsFirstBroken Rule before items i)
    → IsFirst (ItemBreaks Rule bytes_of before items) (length (flat_map bytes_of b.ahead))
first_place {A} Rule bytes_of before items i b = record {
  refused = record { ahead = b.ahead; item = b.item; behind = b.behind; is = b.is; broken = b.broken; here = refl };
  least = λ at other. least at other;
}
  where
    least : (at : ℕ) → ItemBreaks Rule bytes_of before items at → length (flat_map bytes_of b.ahead) ≤ at
    least at other =
        elim (cuts b.ahead b.item b.behind other.ahead other.item other.behind (sym b.is ∙ other.is)) [
          | inl longer ↦ absurd (other.broken (each_at Rule before other.ahead other.item longer.more (subst (λ (l : List A). EachBehind Rule before l) longer.is b.each)))
          | inr (more, is) ↦
              omega (arith, other.here, ap (λ (l : List A). length (flat_map bytes_of l)) is, ap length (flat_map-append bytes_of b.ahead more), length-append (flat_map bytes_of b.ahead) (flat_map bytes_of more))
        ]

-- ---- a loop over the items

module _ {A : Type 0} (Rule : List A → A → Type 0) (After : List A → Type 0) where
  pub one_further : (before items : List A) (i : ℕ) (x : A) → i < length items → x ≡ get_or items i x → EachBehind Rule before (take i items)
      → Rule (before ++ take i items) x × After ((before ++ take i items) ++ x ∷ []) → EachBehind Rule before (take (i + 1) items) × After (before ++ take (i + 1) items)
  one_further before items i x lt is each next =
      let longer : take (i + 1) items ≡ take i items ++ x ∷ [] = take_more items i x lt ∙ ap (λ (y : A). take i items ++ y ∷ []) (sym is) in (
        subst (EachBehind Rule before) (sym longer) (each_more Rule before (take i items) x each next.0),
        subst After (append_assoc before (take i items) (x ∷ []) ∙ ap (λ (l : List A). before ++ l) (sym longer)) next.1,
      )

  pub all_gone : (before items : List A) (i : ℕ) → length items ≤ i → EachBehind Rule before (take i items) × After (before ++ take i items) → EachBehind Rule before items × After (before ++ items)
  all_gone before items i le both = subst (λ (l : List A). EachBehind Rule before l × After (before ++ l)) (take_all i items le) both

pub broken_here : {A : Type 0} (Rule : List A → A → Type 0) (before items : List A) (i : ℕ) (x : A) → i < length items → x ≡ get_or items i x → EachBehind Rule before (take i items)
    → ¬ (Rule (before ++ take i items) x) → IsFirstBroken Rule before items i
broken_here {A} Rule before items i x lt is each broken = record {
  ahead = take i items;
  item = x;
  behind = drop (i + 1) items;
  is =
      sym (take-append-drop i items)
      ∙ ap (λ (l : List A). take i items ++ l) (drop_more items i x lt ∙ ap (λ (y : A). y ∷ drop (i + 1) items) (sym is));
  place = sym (length-take-le i items (omega (arith, lt)));
  each = each;
  broken = broken;
}

-- ---- the bytes ahead of a broken item

pub len_ahead : {A : Type 0} (Rule : List A → A → Type 0) (bytes_of : A → List ℕ) (before items : List A) (i : ℕ) (b : IsFirstBroken Rule before items i)
    → length (flat_map bytes_of b.ahead) ≡ sum_by (λ x. length (bytes_of x)) (take i items)
len_ahead {A} Rule bytes_of before items i b =
    let front : take i items ≡ b.ahead = ap (λ (l : List A). take i l) b.is ∙ take_at b.ahead (b.item ∷ b.behind) i (sym b.place) in
    length-flat_map bytes_of b.ahead ∙ ap (sum_by (λ x. length (bytes_of x))) (sym front)

pub len_front : {A : Type 0} (bytes_of : A → List ℕ) (items : List A) (i : ℕ) → sum_by (λ x. length (bytes_of x)) (take i items) ≤ length (flat_map bytes_of items)
len_front bytes_of items i = omega (arith, length-flat_map bytes_of items, sum_by-take-drop (λ x. length (bytes_of x)) items i)

-- a place is known where a list is told to have a broken item
pub found_at : {A : Type 0} (place : Option ℕ) (i : ℕ) (Rule : List A → A → Type 0) (before items : List A) (After : Type 0) → place ≡ Some i → FindsBroken place Rule before items After
    → IsFirstBroken Rule before items i
found_at place i Rule before items After is found = subst (λ p. FindsBroken p Rule before items After) is found

pub found_none : {A : Type 0} (place : Option ℕ) (Rule : List A → A → Type 0) (before items : List A) (After : Type 0) → place ≡ None → FindsBroken place Rule before items After
    → EachBehind Rule before items × After
found_none place Rule before items After is found = subst (λ p. FindsBroken p Rule before items After) is found
