-- Places round the ring, and those of copies.
use Rattle.std.proofs.Common.{◌≡◌, ℕ, ◌+◌, ◌-◌, ◌*◌, ◌/◌, ◌%◌, ◌<◌, ◌≤◌, sym, ap, ◌∙◌, arith}
use Rattle.std.proofs.Math.Nat.{eq_of_mul-eq-mul_right, mod-add-div', mul-le-mul_right}
use Rattle.std.proofs.lemmas.Nat.{mod-mul-add}

-- what is left over so many times a number decides
left_over : (w a b i j : ℕ) → i < w → j < w → a * w + i ≡ b * w + j → i ≡ j
left_over w a b i j below under same = sym (mod-mul-add a w i below) ∙ ap (λ (n : ℕ). n % w) same ∙ mod-mul-add b w j under

crossed : (p i j r q a b : ℕ) → r + a ≡ p + i → q + b ≡ p + j → r ≡ q → b + i ≡ a + j
crossed p i j r q a b one two same = omega arith

-- of less than a round one step alone leads to a place
pub one_round : (w p i j : ℕ) → i < w → j < w → (p + i) % w ≡ (p + j) % w → i ≡ j
one_round w p i j below under same =
    left_over w ((p + j) / w) ((p + i) / w) i j below under
    (crossed p i j ((p + i) % w) ((p + j) % w) ((p + i) / w * w) ((p + j) / w * w) (mod-add-div' (p + i) w) (mod-add-div' (p + j) w) same)

split_above : (p n r a : ℕ) → r + a ≡ p → r ≤ n → p + (n - r) ≡ a + n
split_above p n r a whole le = omega arith

pub behind_above : (p n w : ℕ) → n < w → p % w ≤ n → (p + (n - p % w)) % w ≡ n
behind_above p n w below le = ap (λ (x : ℕ). x % w) (split_above p n (p % w) (p / w * w) (mod-add-div' p w) le) ∙ mod-mul-add (p / w) w n below

split_below : (p n w r a : ℕ) → r + a * w ≡ p → n < r → r < w → p + (n + w - r) ≡ (a + 1) * w + n
split_below p n w r a whole less within = omega arith

pub behind_below : (p n w : ℕ) → n < p % w → p % w < w → (p + (n + w - p % w)) % w ≡ n
behind_below p n w less within = ap (λ (x : ℕ). x % w) (split_below p n w (p % w) (p / w) (mod-add-div' p w) less within) ∙ mod-mul-add (p / w + 1) w n (omega arith)

-- ---- copies

one_less : (a b i j : ℕ) → 1 ≤ i → 1 ≤ j → a + i - 1 ≡ b + j - 1 → a + (i - 1) ≡ b + (j - 1)
one_less a b i j from since same = omega arith

left_same : (a b i j : ℕ) → 1 ≤ i → 1 ≤ j → a + i - 1 ≡ b + j - 1 → i - 1 ≡ j - 1 → a ≡ b
left_same a b i j from since same left = omega arith

-- each copy of each partition has its own place
pub one_place : (w p q i j : ℕ) → 1 ≤ i → i ≤ w → 1 ≤ j → j ≤ w → p * w + i - 1 ≡ q * w + j - 1 → (p ≡ q) × (i ≡ j)
one_place w p q i j from to since until same =
    let left : i - 1 ≡ j - 1 = left_over w p q (i - 1) (j - 1) (omega arith) (omega arith) (one_less (p * w) (q * w) i j from since same) in
    (eq_of_mul-eq-mul_right w (omega arith) p q (left_same (p * w) (q * w) i j from since same left), omega arith)

pub place_within : (w count p i : ℕ) → p < count → 1 ≤ i → i ≤ w → p * w + i - 1 < count * w
place_within w count p i below from to = let all : (p + 1) * w ≤ count * w = mul-le-mul_right {m = p + 1} {n = count} w (omega arith) in omega arith
