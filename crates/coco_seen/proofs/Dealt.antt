-- The steps of the first seat, and the marks that it deals out.
use Rattle.std.proofs.Common.{◌≡◌, ◌≢◌, ℕ, zero, suc, ◌+◌, ◌-◌, ◌<◌, List, [], ◌∷◌, ◌++◌, map, length, true, false, Option, Some, None, refl, sym, ap, ◌∙◌, subst, arith, eqb}
use Rattle.std.specs.Prelude.{slice_get}
use mathlib.Core.Option as opt
use prog.Atomic.{either}
use Rattle.std.proofs.lemmas.List.{map-append}
use Rattle.atomic_table.specs.Seated.{TableId}
use Rattle.atomic_table.specs.Table.{Me, Step, step, Allows, Splits, rest}
use Rattle.coco_seen.specs.declared.view.View.{View}
use Rattle.coco_seen.specs.Notes.{Known, fresh, known, IsSeatOf}
use Rattle.coco_seen.specs.Rules.{Kept, numbers, beginner}
use Rattle.coco_seen.specs.Steps.{head_of, tail_of, without_first, only_first, started, filled, gave}
use Rattle.coco_seen.proofs.Lists.{length_numbers}
use Rattle.coco_seen.proofs.Keeping.{fills_it, gives_it, splits_it}

pub numbers_step : (k n : ℕ) → k < n → numbers k (n - k) ≡ k ∷ numbers (k + 1) (n - (k + 1))
numbers_step k n h =
    let one : n - k ≡ suc (n - (k + 1)) = omega arith in
    let next : suc k ≡ k + 1 = omega arith in
    ap (numbers k) one ∙ ap (λ j. k ∷ numbers j (n - (k + 1))) next

pub numbers_push : (j n : ℕ) → numbers j (n + 1) ≡ numbers j n ++ (j + n) ∷ []
numbers_push j zero = let same : j ≡ j + 0 = omega arith in ap (λ x. x ∷ []) same
numbers_push j (suc n) =
    let more : suc n + 1 ≡ suc (n + 1) = omega arith in
    let same : suc j + n ≡ j + suc n = omega arith in
    ap (numbers j) more ∙ (ap (λ l. j ∷ l) (numbers_push (suc j) n) ∙ ap (λ x. j ∷ (numbers (suc j) n ++ x ∷ [])) same)

pub one_more : {A : Type 0} (f : ℕ → A) (xs : List A) (x : A) (n : ℕ) → xs ≡ map f (numbers 0 n) → x ≡ f n → xs ++ x ∷ [] ≡ map f (numbers 0 (n + 1))
one_more f xs x n e is =
    let same : 0 + n ≡ n = omega arith in
    let last : numbers 0 (n + 1) ≡ numbers 0 n ++ n ∷ [] = numbers_push 0 n ∙ ap (λ k. numbers 0 n ++ k ∷ []) same in
    let parts : map f (numbers 0 n ++ n ∷ []) ≡ map f (numbers 0 n) ++ f n ∷ [] = map-append f (numbers 0 n) (n ∷ []) in
    (λ i. e i ++ is i ∷ []) ∙ (sym parts ∙ ap (map f) (sym last))

module _ {S E R : Type 0} (entries : S → List E) (comes : R → S → Type 0) where
  pub first_fills : (notes slots id count : ℕ) (me : Me (Option S) (View E R)) (value : S) (root : R) → me ≡ (beginner count, []) → comes root value
      → Allows (Kept entries comes notes) slots id me 9 (λ n. either (eqb n 0) 1 n) (filled comes (step 0 0 0 0 (opt.some (Some value))) me)
  first_fills notes slots id count me value root is from =
      let st : Step (Option S) = step 0 0 0 0 (opt.some (Some value)) in
      subst (λ (m : Me (Option S) (View E R)). Allows (Kept entries comes notes) slots id m 9 (λ n. either (eqb n 0) 1 n) (filled comes st m)) (sym is)
      (fills_it entries comes notes slots id (beginner count) value root st from refl refl refl)

  pub first_gives : (notes slots id count : ℕ) (me : Me (Option S) (View E R)) (value : S) (root : R) → 0 < count → comes root value → entries value ≡ []
      → me ≡ (record { roots = root ∷ []; marks = numbers 0 count; list = []; calls = []; holds = true; fills = false }, (0, Some value) ∷ [])
      → Allows (Kept entries comes notes) slots id me 9 (λ _. 2) (λ _. gave (step 0 0 0 0 opt.none) me 2)
  first_gives notes slots id count me value root some from empty is =
      let st : Step (Option S) = step 0 0 0 0 opt.none in
      let v : View E R = record { roots = root ∷ []; marks = numbers 0 count; list = []; calls = []; holds = true; fills = false } in
      let size : length (numbers 0 count) ≡ count = length_numbers 0 count in
      let marked : v.marks ≢ [] = λ e. absurd (omega (arith, some, size, ap length e)) in
      subst (λ (m : Me (Option S) (View E R)). Allows (Kept entries comes notes) slots id m 9 (λ _. 2) (λ _. gave st m 2)) (sym is)
      (gives_it entries comes notes slots id v value root st marked refl refl from empty)

  pub splits_off : (notes id k n : ℕ) (me : Me (Option S) (View E R)) (root : R) → k + 1 < n → me ≡ (started root (numbers k (n - k)), []) → Splits (Kept entries comes notes) id me.0 (without_first me.0) (only_first me.0)
  splits_off notes id k n me root less is =
      let marks : tail_of me.0.marks ≡ numbers (k + 1) (n - (k + 1)) = ap (λ m. tail_of m.0.marks) is ∙ ap tail_of (numbers_step k n (omega arith)) in
      let size : length (numbers (k + 1) (n - (k + 1))) ≡ n - (k + 1) = length_numbers (k + 1) (n - (k + 1)) in
      splits_it entries comes notes id me.0 root (λ e. absurd (omega (arith, less, size, ap length (sym marks ∙ e)))) (ap (λ m. slice_get m.0.roots 0) is)

module _ {S E R : Type 0} where
  -- what the first seat is after each of its steps
  pub after_fill : (count : ℕ) (m0 m1 : Me (Option S) (View E R)) (root : R) → m0 ≡ (beginner count, []) → m1 ≡ (record m0.0 { roots = root ∷ []; holds = true; fills = false }, (0, None) ∷ m0.1)
      → m1 ≡ (record { roots = root ∷ []; marks = numbers 0 count; list = []; calls = []; holds = true; fills = false }, (0, None) ∷ [])
  after_fill count m0 m1 root e0 e1 = let go : Me (Option S) (View E R) → Me (Option S) (View E R) = λ m. (record m.0 { roots = root ∷ []; holds = true; fills = false }, (0, None) ∷ m.1) in e1 ∙ ap go e0

  pub after_put : (m1 m2 : Me (Option S) (View E R)) (v : View E R) (x : Option S) → m1 ≡ (v, (0, None) ∷ []) → m2 ≡ (m1.0, (0, x) ∷ rest m1.1) → m2 ≡ (v, (0, x) ∷ [])
  after_put m1 m2 v x e1 e2 = let go : Me (Option S) (View E R) → Me (Option S) (View E R) = λ m. (m.0, (0, x) ∷ rest m.1) in e2 ∙ ap go e1

  pub after_give : (m2 m3 : Me (Option S) (View E R)) (v : View E R) (x : Option S) → m2 ≡ (v, (0, x) ∷ []) → m3 ≡ (record m2.0 { holds = false }, rest m2.1) → m3 ≡ (record v { holds = false }, [])
  after_give m2 m3 v x e2 e3 = let go : Me (Option S) (View E R) → Me (Option S) (View E R) = λ m. (record m.0 { holds = false }, rest m.1) in e3 ∙ ap go e2

  -- the seat that goes on, and the seat that is dealt out
  pub goes_on : (k n : ℕ) (me now : Me (Option S) (View E R)) (root : R) → k < n → me ≡ (started root (numbers k (n - k)), []) → now ≡ (without_first me.0, me.1) → now ≡ (started root (numbers (k + 1) (n - (k + 1))), [])
  goes_on k n me now root less is e =
      let go : Me (Option S) (View E R) → Me (Option S) (View E R) = λ m. (without_first m.0, m.1) in
      let to : List ℕ → Me (Option S) (View E R) = λ ms. (started root (tail_of ms), []) in
      e ∙ (ap go is ∙ ap to (numbers_step k n less))

  pub deals_out : (k n : ℕ) (me now : Me (Option S) (View E R)) (root : R) → k < n → me ≡ (started root (numbers k (n - k)), []) → now ≡ (only_first me.0, []) → now ≡ (started root (k ∷ []), [])
  deals_out k n me now root less is e =
      let go : Me (Option S) (View E R) → Me (Option S) (View E R) = λ m. (only_first m.0, []) in
      let to : List ℕ → Me (Option S) (View E R) = λ ms. (started root (head_of ms), []) in
      e ∙ (ap go is ∙ ap to (numbers_step k n less))

  pub last_mark : (k n : ℕ) (me : Me (Option S) (View E R)) (root : R) → k + 1 ≡ n → me ≡ (started root (numbers k (n - k)), []) → me ≡ (started root (k ∷ []), [])
  last_mark k n me root last is =
      let to : List ℕ → Me (Option S) (View E R) = λ ms. (started root ms, []) in
      let none : n - (k + 1) ≡ 0 = omega arith in
      is ∙ (ap to (numbers_step k n (omega arith)) ∙ ap (λ j. to (k ∷ numbers (k + 1) j)) none)

  pub is_note : (k : ℕ) (me : Me (Option S) (View E R)) (root : R) → me ≡ (started root (k ∷ []), []) → IsSeatOf k me
  is_note k me root is = subst (IsSeatOf k) (sym is) record { root = root; marks = refl; roots = refl; full = refl; slot = refl }

  pub is_fresh : (lock now : TableId) (k : ℕ) (me : Me (Option S) (View E R)) (root : R) → now ≡ lock → me ≡ (started root (k ∷ []), []) → known now k me.0 ≡ fresh lock (Some root) k
  is_fresh lock now k me root same is = (λ i. known (same i) k me.0) ∙ ap (λ m. known lock k m.0) is

  -- the list of notes grows by the note that was dealt out
  pub deals_note : (lock now : TableId) (k n : ℕ) (me new : Me (Option S) (View E R)) (root : R) (items : List (Known E R)) → now ≡ lock → k < n → me ≡ (started root (numbers k (n - k)), []) → new ≡ (only_first me.0, []) → items ≡ map (fresh lock (Some root)) (numbers 0 k)
      → items ++ known now k new.0 ∷ [] ≡ map (fresh lock (Some root)) (numbers 0 (k + 1))
  deals_note lock now k n me new root items same less is out all = one_more (fresh lock (Some root)) items (known now k new.0) k all (is_fresh lock now k new root same (deals_out k n me new root less is out))

  -- and by the last one, which has the first seat
  pub deals_last : (lock now : TableId) (k n : ℕ) (me : Me (Option S) (View E R)) (root : R) (items : List (Known E R)) → now ≡ lock → 0 < n → k ≡ n - 1 → me ≡ (started root (numbers k (n - k)), []) → items ≡ map (fresh lock (Some root)) (numbers 0 k)
      → items ++ known now (n - 1) me.0 ∷ [] ≡ map (fresh lock (Some root)) (numbers 0 n)
  deals_last lock now k n me root items same some last is all =
      let end : k + 1 ≡ n = omega arith in
      let grown = one_more (fresh lock (Some root)) items (known now k me.0) k all (is_fresh lock now k me root same (last_mark k n me root end is)) in
      ap (λ j. items ++ known now j me.0 ∷ []) (sym last) ∙ (grown ∙ ap (λ j. map (fresh lock (Some root)) (numbers 0 j)) end)

  pub last_note : (k n : ℕ) (me : Me (Option S) (View E R)) (root : R) → 0 < n → k ≡ n - 1 → me ≡ (started root (numbers k (n - k)), []) → IsSeatOf (n - 1) me
  last_note k n me root some last is = subst (λ j. IsSeatOf j me) last (is_note k me root (last_mark k n me root (omega arith) is))

  pub not_both : (x : S) (me : Me (Option S) (View E R)) (v : View E R) (others : List (ℕ × Option S)) → me ≡ (v, (0, None) ∷ []) → me.1 ≡ (0, Some x) ∷ others → ⊥
  not_both x me v others none some = let is : None ≡ Some x = ap first_slot (sym (ap (λ m. m.1) none) ∙ some) in cc
    where
      first_slot : List (ℕ × Option S) → Option S
      first_slot [] = None
      first_slot (p ∷ ps) = p.1
