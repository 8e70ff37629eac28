-- The pieces and tables of the tests are such as can be shipped.
use Rattle.std.proofs.Common.{◌≡◌, ℕ, zero, suc, ◌+◌, ◌*◌, ◌/◌, ◌<◌, ◌≤◌, List, [], ◌∷◌, ◌++◌, length, get_or, Option, Some, None, refl, sym, ap, ◌∙◌, subst, arith, inl, inr}
use Rattle.std.specs.FinMap.{get, get-empty, FinMap}
use Rattle.std.specs.List.{slice_get, Contains}
use Rattle.std.specs.Option.{IfSome}
use Rattle.std.proofs.lemmas.Bool.{cases_lt}
use Rattle.std.proofs.lemmas.Nat.{div-mul-add}
use Rattle.std.proofs.lemmas.Option.{slice_get-get_or}
use Rattle.coco_types.specs.RowKey.{RowKey, key_cmp}
use Rattle.coco_types.specs.declared.value.Value.{Value}
use Rattle.coco_types.specs.declared.call.Piece.{Piece}
use Rattle.coco_types.specs.declared.call.Write.{Write}
use Rattle.coco_net.specs.declared.letter.Posted.{Posted}
use Rattle.coco_copy.specs.CopyState.{begun, CopyState}
use Rattle.coco_ship.specs.Pieces.{AreShippable, IsOf, IsWritten}
use Rattle.coco_ship.specs.Letters.{AreOther}
use Rattle.coco_ship.specs.Shipping.{AreBegun}
use Rattle.coco_ship.specs.Taking.{Puts}
use Rattle.coco_ship.specs.Examples.{alone, three, AreNumbered, IsNumber}
use Rattle.coco_ship.proofs.RoundLemmas.{same_write}
use Rattle.coco_ship.proofs.Tables.{one_read}

pub same_place : {X : Type 0} (xs : List X) (x y : X) (i j : ℕ) → i < length xs → j < length xs → get_or xs i x ≡ x → get_or xs j y ≡ y → i ≡ j → x ≡ y
same_place xs x y i j within within' is_x is_y same =
    one_read (slice_get xs i) x y (slice_get-get_or xs i x within ∙ ap Some is_x) (ap (slice_get xs) same ∙ slice_get-get_or xs j y within' ∙ ap Some is_y)

number_of : (pieces : List Piece) → AreNumbered pieces → (x : Piece) → (has : Contains pieces x) → IsNumber has.0 x
number_of pieces numbered x has = subst (IsNumber has.0) has.2 (numbered has.0 x has.1)

one_row : (ws : List Write) → length ws ≡ 1 → (w v : Write) → Contains ws w → Contains ws v → w ≡ v
one_row ws one w v a b =
    let first : a.0 < length ws = a.1 in
    let second : b.0 < length ws = b.1 in
    same_place ws w v a.0 b.0 first second a.2 b.2 (omega (arith, first, second, one))

pub numbered_shippable : (pieces : List Piece) → AreNumbered pieces → AreShippable three pieces
numbered_shippable pieces numbered = record {
  partitions = λ k d h. (numbered k d h).partition;
  one_piece = λ p x y of_x of_y same.
      let a = of_x.among in
      let b = of_y.among in
      let here : a.0 ≡ b.0 = sym (number_of pieces numbered x a).place ∙ same ∙ (number_of pieces numbered y b).place in
      same_place pieces x y a.0 b.0 a.1 b.1 a.2 b.2 here;
  one_write = λ p x y of_x of_y same w v in_x in_y key.
      let a = of_x.among in
      let b = of_y.among in
      let n = number_of pieces numbered x a in
      let m = number_of pieces numbered y b in
      let here : a.0 ≡ b.0 = (let t : x.time ≡ a.0 + 1 = n.time in let u : y.time ≡ b.0 + 1 = m.time in omega (arith, t, u, same)) in
      let one : x ≡ y = same_place pieces x y a.0 b.0 a.1 b.1 a.2 b.2 here in
      one_row x.writes n.row w v in_x (subst (λ (z : Piece). Contains z.writes v) (sym one) in_y);
}

-- with copies or without
pub numbered_alone : (pieces : List Piece) → AreNumbered pieces → AreShippable alone pieces
numbered_alone pieces numbered =
    let fit = numbered_shippable pieces numbered in
    record { partitions = fit.partitions; one_piece = fit.one_piece; one_write = fit.one_write }

pub alone_begun : (epoch : ℕ) (pieces : List Piece) → AreBegun alone epoch pieces []
alone_begun epoch pieces = record {
  count = refl;
  begun = λ i d h. absurd (omega (arith, h));
  written = λ p j copy. absurd (let less : j < 0 = copy.copy in omega (arith, less));
}

-- one item more, of which this holds as of the others
pub pushed_each : {X : Type 0} (P : ℕ → X → Type 0) (xs : List X) (n : ℕ) (x : X) → length xs ≡ n → ((k : ℕ) (d : X) → k < length xs → P k (get_or xs k d)) → P n x → (k : ℕ) (d : X) → k < length (xs ++ x ∷ []) → P k (get_or (xs ++ x ∷ []) k d)
pushed_each {X = X} P xs n x count all is k d h =
    let more : length (xs ++ x ∷ []) ≡ length xs + 1 = longer xs in
    elim (cases_lt k (length xs)) [
      | inl before ↦ subst (P k) (sym (at xs k d before)) (all k d before)
      | inr past ↦
          let here : length xs ≡ k = omega (arith, h, more, past) in
          subst (λ i. P i (get_or (xs ++ x ∷ []) i d)) here (subst (P (length xs)) (sym (last xs d)) (subst (λ i. P i x) (sym count) is))
    ]
  where
    at : (zs : List X) (k : ℕ) (d : X) → k < length zs → get_or (zs ++ x ∷ []) k d ≡ get_or zs k d
    at [] k d h = absurd (omega (arith, h))
    at (z ∷ zs) zero d h = refl
    at (z ∷ zs) (suc k) d h = at zs k d (omega (arith, h))

    last : (zs : List X) (d : X) → get_or (zs ++ x ∷ []) (length zs) d ≡ x
    last [] d = refl
    last (z ∷ zs) d = last zs d

    longer : (zs : List X) → length (zs ++ x ∷ []) ≡ length zs + 1
    longer [] = refl
    longer (z ∷ zs) = let more : length (zs ++ x ∷ []) ≡ length zs + 1 = longer zs in omega (arith, more)

pub numbered_push : (pieces : List Piece) (n : ℕ) (x : Piece) → length pieces ≡ n → AreNumbered pieces → IsNumber n x → AreNumbered (pieces ++ x ∷ [])
numbered_push pieces n x count all is = pushed_each IsNumber pieces n x count all is

-- ---- tables

pub written_none : (pieces : List Piece) (p : ℕ) (t : CopyState) → ((k : RowKey) → get t.pending k ≡ None) → IsWritten pieces p t
written_none pieces p t none k time value is = absurd (apart (sym (none k) ∙ is))
  where
    apart : ◌≡◌ {A = Option (ℕ × Option Value)} None (Some (time, value)) → ⊥
    apart e = cc

pub written_begun : (pieces : List Piece) (p : ℕ) (t : CopyState) (epoch : ℕ) (stable : FinMap key_cmp Value) → t ≡ begun epoch stable → IsWritten pieces p t
written_begun pieces p t epoch stable is = written_none pieces p t (λ k. ap (λ (z : CopyState). get z.pending k) is ∙ get-empty key_cmp k)

pub written_put : (pieces : List Piece) (p : ℕ) (x : Piece) (t u : CopyState) → IsOf pieces p x → Puts x.time x.writes t u → IsWritten pieces p t → IsWritten pieces p u
written_put pieces p x t u of puts before k time value is = elim (puts.pending k) [
  | inl same ↦ before k time value (sym same ∙ is)
  | inr by ↦
      let w : Write = by.0 in
      let row : (time, value) ≡ (x.time, w.value) = one_read (get u.pending k) (time, value) (x.time, w.value) is by.3 in
      (x, of, sym (ap (λ (q : ℕ × Option Value). q.0) row), subst (Contains x.writes) (same_write w k value by.2 (sym (ap (λ (q : ℕ × Option Value). q.1) row))) by.1)
]

-- the tables of the partitions in turn, two for each
abbrev pub AreEarly : List Piece → List CopyState → Type 0
AreEarly pieces ts = (i : ℕ) (d : CopyState) → i < length ts → ((get_or ts i d).epoch ≡ 1) × IsWritten pieces (i / 2) (get_or ts i d)

pub early_push : (pieces : List Piece) (ts : List CopyState) (n : ℕ) (t : CopyState) → length ts ≡ n → AreEarly pieces ts → t.epoch ≡ 1 → IsWritten pieces (n / 2) t → AreEarly pieces (ts ++ t ∷ [])
early_push pieces ts n t count early epoch written = pushed_each (λ i (z : CopyState). (z.epoch ≡ 1) × IsWritten pieces (i / 2) z) ts n t count early (epoch, written)

pub early_begun : (pieces : List Piece) (ts : List CopyState) → length ts ≡ 6 → AreEarly pieces ts → AreBegun three 1 pieces ts
early_begun pieces ts count early = record {
  count = count;
  begun = λ i d h. (early i d h).0;
  written = λ p j copy. by p j copy.copy (slice_get ts (p * 2 + j)) refl;
}
  where
    outside : (xs : List CopyState) (i : ℕ) (t : CopyState) → length xs ≤ i → slice_get xs i ≡ Some t → ⊥
    outside [] i t h is = cc
    outside (x ∷ xs) zero t h is = absurd (omega (arith, h))
    outside (x ∷ xs) (suc i) t h is = outside xs i t (omega (arith, h)) is

    by : (p j : ℕ) → j < 2 → (o : Option CopyState) → slice_get ts (p * 2 + j) ≡ o → IfSome o (IsWritten pieces p)
    by p j less None is = tt
    by p j less (Some t) is = elim (cases_lt (p * 2 + j) (length ts)) [
      | inl within ↦
          let here : get_or ts (p * 2 + j) t ≡ t = one_read (slice_get ts (p * 2 + j)) (get_or ts (p * 2 + j) t) t (slice_get-get_or ts (p * 2 + j) t within) is in
          subst (λ q. IsWritten pieces q t) (div-mul-add p 2 j less) (subst (IsWritten pieces ((p * 2 + j) / 2)) here (early (p * 2 + j) t within).1)
      | inr past ↦ absurd (outside ts (p * 2 + j) t past is)
    ]

-- nothing was sent yet
pub none_other : (epoch : ℕ) (sent : List Posted) → sent ≡ [] → AreOther epoch sent
none_other epoch sent none s m has' is bytes = absurd (empty (subst (λ (ps : List Posted). Contains ps s) none has'))
  where
    empty : Contains [] s → ⊥
    empty h = omega (arith, h.1)
