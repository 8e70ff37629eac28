-- The numbers of copies, and lists that are read and written by them.
use Rattle.std.proofs.Common.{◌≡◌, ℕ, zero, suc, ◌+◌, ◌*◌, ◌/◌, ◌%◌, ◌<◌, ◌≤◌, List, [], ◌∷◌, length, Option, Some, refl, sym, ap, ◌∙◌, subst, arith, inl, inr}
use Rattle.std.proofs.Math.ListN.{set, length-set}
use Rattle.std.proofs.Math.Nat.{div-add-mod, mul-le-mul_left, mul-le-mul_right, mul-suc, suc-mul}
use Rattle.std.proofs.lemmas.Nat.{mod-mul-add, div-mul-add}
use Rattle.std.proofs.lemmas.Bool.{cases_eq, cases_lt}
use Rattle.std.proofs.lemmas.List.{get_or-set_same}
use Rattle.std.proofs.lemmas.Option.{slice_get-get_or}
use Rattle.std.specs.List.{slice_get}
use Rattle.coco_copy.specs.CopyState.{CopyState}
use Rattle.coco_ship.specs.declared.line.Line.{Line}
use Rattle.coco_ship.specs.declared.ring.Ring.{Ring}
use Rattle.coco_ship.specs.Placing.{holder_of, table_of, IsCopy, IsRing}
use Rattle.coco_ship.specs.Taking.{OfBoth, OfTables}

pub tables_apart : (c p j q i : ℕ) → j < c → i < c → p * c + j ≡ q * c + i → (p ≡ q) × (j ≡ i)
tables_apart c p j q i less less' is =
    (sym (div-mul-add p c j less) ∙ ap (λ n. n / c) is ∙ div-mul-add q c i less', sym (mod-mul-add p c j less) ∙ ap (λ n. n % c) is ∙ mod-mul-add q c i less')

pub below_all : (n c p j : ℕ) → p < n → j < c → p * c + j < n * c
below_all n c p j within less =
    let rows : suc p * c ≤ n * c = mul-le-mul_right c (omega arith) in
    let one : suc p * c ≡ p * c + c = suc-mul p c in
    omega (arith, rows, one, less)

pub set_same : {X : Type 0} (xs : List X) (i : ℕ) (v : X) → i < length xs → slice_get (set xs i v) i ≡ Some v
set_same {X = X} xs i v h = slice_get-get_or (set xs i v) i v (omega (arith, length-set {A = X})) ∙ ap Some (get_or-set_same xs i v v h)

pub set_other : {X : Type 0} (xs : List X) (i k : ℕ) (v : X) → (k ≡ i → ⊥) → slice_get (set xs i v) k ≡ slice_get xs k
set_other [] i k v apart = refl
set_other (x ∷ xs) zero zero v apart = absurd (apart refl)
set_other (x ∷ xs) zero (suc k) v apart = refl
set_other (x ∷ xs) (suc i) zero v apart = refl
set_other (x ∷ xs) (suc i) (suc k) v apart = set_other xs i k v (λ e. apart (ap suc e))

pub one_read : {X : Type 0} (o : Option X) (x y : X) → o ≡ Some x → o ≡ Some y → x ≡ y
one_read o x y a b = let e : Some x ≡ Some y = sym a ∙ b in cc

-- numbers that are near one another differ by less than a whole turn
near : (n a b : ℕ) → a ≤ b → b < a + n → a % n ≡ b % n → a ≡ b
near n a b less most same =
    let low : n * (a / n) + a % n ≡ a = div-add-mod a n in
    let high : n * (b / n) + b % n ≡ b = div-add-mod b n in
    elim (cases_lt (a / n) (b / n)) [
      | inl below ↦
          let rows : n * suc (a / n) ≤ n * (b / n) = mul-le-mul_left n (omega arith) in
          let one : n * suc (a / n) ≡ n * (a / n) + n = mul-suc n (a / n) in
          absurd (omega (arith, low, high, rows, one, same, most))
      | inr above ↦
          let rows : n * (b / n) ≤ n * (a / n) = mul-le-mul_left n above in
          omega (arith, low, high, rows, same, less)
    ]

-- the copies of a partition are on different nodes
pub holders_apart : (ring : Ring) (p j i : ℕ) → IsRing ring → j < ring.copies → i < ring.copies → holder_of ring p j ≡ holder_of ring p i → j ≡ i
holders_apart ring p j i fit less less' same =
    let few : ring.copies < ring.nodes = fit.copies in
    elim (cases_lt j i) [
      | inl below ↦ let e : p + j + 1 ≡ p + i + 1 = near ring.nodes (p + j + 1) (p + i + 1) (omega (arith, below)) (omega (arith, less', few)) same in omega (arith, e)
      | inr above ↦ let e : p + i + 1 ≡ p + j + 1 = near ring.nodes (p + i + 1) (p + j + 1) (omega (arith, above)) (omega (arith, less, few)) (sym same) in omega (arith, e)
    ]

-- ---- relations of lines and tables, one of them changed

module _ (ring : Ring) (R : ℕ → ℕ → Line → CopyState → Line → CopyState → Type 0) where
  pub same_both : (ls : List Line) (ts : List CopyState) → ((p j : ℕ) → IsCopy ring p j → (l : Line) (t : CopyState) → R p j l t l t) → OfBoth ring R ls ts ls ts
  same_both ls ts stay p j copy l t m u l_is t_is m_is u_is =
      subst (λ z. R p j l t z u) (one_read (slice_get ls (table_of ring p j)) l m l_is m_is)
      (subst (λ z. R p j l t l z) (one_read (slice_get ts (table_of ring p j)) t u t_is u_is) (stay p j copy l t))

  pub set_both : (ls : List Line) (ts : List CopyState) (q i : ℕ) (n : Line) (v : CopyState) → IsCopy ring q i → length ls ≡ ring.partitions * ring.copies → length ts ≡ ring.partitions * ring.copies
      → ((l : Line) (t : CopyState) → slice_get ls (table_of ring q i) ≡ Some l → slice_get ts (table_of ring q i) ≡ Some t → R q i l t n v)
      → ((p j : ℕ) → IsCopy ring p j → (p ≡ q → j ≡ i → ⊥) → (l : Line) (t : CopyState) → R p j l t l t)
      → OfBoth ring R ls ts (set ls (table_of ring q i) n) (set ts (table_of ring q i) v)
  set_both ls ts q i n v here lines tables new stay p j copy l t m u l_is t_is m_is u_is =
      elim (cases_eq (table_of ring p j) (table_of ring q i)) [
        | inl same ↦
            let both = tables_apart ring.copies p j q i copy.copy here.copy same in
            let inside : table_of ring q i < ring.partitions * ring.copies = below_all ring.partitions ring.copies q i here.partition here.copy in
            let m_new : n ≡ m = one_read (slice_get (set ls (table_of ring q i) n) (table_of ring q i)) n m (set_same ls (table_of ring q i) n (omega (arith, inside, lines))) (ap (slice_get (set ls (table_of ring q i) n)) (sym same) ∙ m_is) in
            let u_new : v ≡ u = one_read (slice_get (set ts (table_of ring q i) v) (table_of ring q i)) v u (set_same ts (table_of ring q i) v (omega (arith, inside, tables))) (ap (slice_get (set ts (table_of ring q i) v)) (sym same) ∙ u_is) in
            subst (λ z. R z j l t m u) (sym both.0) (subst (λ z. R q z l t m u) (sym both.1)
            (subst (λ z. R q i l t z u) m_new (subst (λ z. R q i l t n z) u_new (new l t (ap (slice_get ls) (sym same) ∙ l_is) (ap (slice_get ts) (sym same) ∙ t_is)))))
        | inr apart ↦
            let m_old : l ≡ m = one_read (slice_get ls (table_of ring p j)) l m l_is (sym (set_other ls (table_of ring q i) (table_of ring p j) n apart) ∙ m_is) in
            let u_old : t ≡ u = one_read (slice_get ts (table_of ring p j)) t u t_is (sym (set_other ts (table_of ring q i) (table_of ring p j) v apart) ∙ u_is) in
            subst (λ z. R p j l t z u) m_old (subst (λ z. R p j l t l z) u_old (stay p j copy (λ e f. apart (ap (λ z. table_of ring z j) e ∙ ap (table_of ring q) f)) l t))
      ]

  -- where the line alone is changed
  pub set_line : (ls : List Line) (ts : List CopyState) (q i : ℕ) (n : Line) → IsCopy ring q i → length ls ≡ ring.partitions * ring.copies
      → ((l : Line) (t : CopyState) → slice_get ls (table_of ring q i) ≡ Some l → slice_get ts (table_of ring q i) ≡ Some t → R q i l t n t)
      → ((p j : ℕ) → IsCopy ring p j → (p ≡ q → j ≡ i → ⊥) → (l : Line) (t : CopyState) → R p j l t l t)
      → OfBoth ring R ls ts (set ls (table_of ring q i) n) ts
  set_line ls ts q i n here lines new stay p j copy l t m u l_is t_is m_is u_is =
      elim (cases_eq (table_of ring p j) (table_of ring q i)) [
        | inl same ↦
            let both = tables_apart ring.copies p j q i copy.copy here.copy same in
            let inside : table_of ring q i < ring.partitions * ring.copies = below_all ring.partitions ring.copies q i here.partition here.copy in
            let m_new : n ≡ m = one_read (slice_get (set ls (table_of ring q i) n) (table_of ring q i)) n m (set_same ls (table_of ring q i) n (omega (arith, inside, lines))) (ap (slice_get (set ls (table_of ring q i) n)) (sym same) ∙ m_is) in
            let u_old : t ≡ u = one_read (slice_get ts (table_of ring p j)) t u t_is u_is in
            subst (λ z. R z j l t m u) (sym both.0) (subst (λ z. R q z l t m u) (sym both.1)
            (subst (λ z. R q i l t z u) m_new (subst (λ z. R q i l t n z) u_old (new l t (ap (slice_get ls) (sym same) ∙ l_is) (ap (slice_get ts) (sym same) ∙ t_is)))))
        | inr apart ↦
            let m_old : l ≡ m = one_read (slice_get ls (table_of ring p j)) l m l_is (sym (set_other ls (table_of ring q i) (table_of ring p j) n apart) ∙ m_is) in
            let u_old : t ≡ u = one_read (slice_get ts (table_of ring p j)) t u t_is u_is in
            subst (λ z. R p j l t z u) m_old (subst (λ z. R p j l t l z) u_old (stay p j copy (λ e f. apart (ap (λ z. table_of ring z j) e ∙ ap (table_of ring q) f)) l t))
      ]

module _ (ring : Ring) (R : ℕ → ℕ → CopyState → CopyState → Type 0) where
  pub same_tables : (ts : List CopyState) → ((p j : ℕ) → IsCopy ring p j → (t : CopyState) → R p j t t) → OfTables ring R ts ts
  same_tables ts stay p j copy t u t_is u_is = subst (λ z. R p j t z) (one_read (slice_get ts (table_of ring p j)) t u t_is u_is) (stay p j copy t)

  pub set_table : (ts : List CopyState) (q i : ℕ) (v : CopyState) → IsCopy ring q i → length ts ≡ ring.partitions * ring.copies
      → ((t : CopyState) → slice_get ts (table_of ring q i) ≡ Some t → R q i t v)
      → ((p j : ℕ) → IsCopy ring p j → (t : CopyState) → R p j t t)
      → OfTables ring R ts (set ts (table_of ring q i) v)
  set_table ts q i v here tables new stay p j copy t u t_is u_is =
      elim (cases_eq (table_of ring p j) (table_of ring q i)) [
        | inl same ↦
            let both = tables_apart ring.copies p j q i copy.copy here.copy same in
            let inside : table_of ring q i < ring.partitions * ring.copies = below_all ring.partitions ring.copies q i here.partition here.copy in
            let u_new : v ≡ u = one_read (slice_get (set ts (table_of ring q i) v) (table_of ring q i)) v u (set_same ts (table_of ring q i) v (omega (arith, inside, tables))) (ap (slice_get (set ts (table_of ring q i) v)) (sym same) ∙ u_is) in
            subst (λ z. R z j t u) (sym both.0) (subst (λ z. R q z t u) (sym both.1) (subst (λ z. R q i t z) u_new (new t (ap (slice_get ts) (sym same) ∙ t_is))))
        | inr apart ↦ subst (λ z. R p j t z) (one_read (slice_get ts (table_of ring p j)) t u t_is (sym (set_other ts (table_of ring q i) (table_of ring p j) v apart) ∙ u_is)) (stay p j copy t)
      ]
