-- Items that all fit, each behind the one before it.
use Rattle.std.proofs.Common.{◌≡◌, ℕ, suc, ◌+◌, ◌<◌, ◌≤◌, List, [], ◌∷◌, ◌++◌, length, get_or, take, Option, Some, sym, ap, subst, ◌∙◌, append_assoc, arith}
use Rattle.std.specs.List.{All, flat_map}
use Rattle.std.proofs.lemmas.Grind.{flat_map-append}
use Rattle.std.proofs.lemmas.List.{append-nil, take_all, take_more}
use Rattle.std.proofs.lemmas.List.Concat.{flat_map-cons}
use Rattle.std.proofs.lemmas.List.Elements.{All-more}
use Rattle.coco_bytes.specs.Lists.{FitInTurn}

All-rest : {A : Type 0} (P : A → Type 0) (x : A) (xs : List A) → All P (x ∷ xs) → All P xs
All-rest P x xs all k d lt = all (suc k) d (omega (arith, lt))

-- what holds of each holds of each in turn, beside what holds of it and the one before it
pub fit_both : {A : Type 0} (R : Option A → A → Type 0) (P : A → Type 0) (before : Option A) (xs : List A) → FitInTurn R before xs → All P xs → FitInTurn (λ b x. R b x × P x) before xs
fit_both R P before [] h all = tt
fit_both R P before (x ∷ xs) h all = ((h.0, all 0 x (omega arith)), fit_both R P (Some x) xs h.1 (All-rest P x xs all))

pub fit_all : {A : Type 0} (P : A → Type 0) (before : Option A) (xs : List A) → All P xs → FitInTurn (λ _. P) before xs
fit_all P before [] all = tt
fit_all P before (x ∷ xs) all = (all 0 x (omega arith), fit_all P (Some x) xs (All-rest P x xs all))

-- ---- a loop that puts one item after another

-- what is put so far: the bytes of the items behind those in front of them, and each item fits
pub record IsPut {A : Type 0} (bytes_of : A → List ℕ) (P : A → Type 0) (old front : List ℕ) (xs : List A) (i : ℕ) (out : List ℕ) : Type 0 where
  pub bytes : out ≡ old ++ (front ++ flat_map bytes_of (take i xs))
  pub fit : All P (take i xs)

-- the bytes after one more item
more_bytes : {A : Type 0} (bytes : A → List ℕ) (old front : List ℕ) (xs : List A) (i : ℕ) (x : A) (so_far after : List ℕ) → i < length xs → x ≡ get_or xs i x
    → so_far ≡ old ++ (front ++ flat_map bytes (take i xs)) → after ≡ so_far ++ bytes x → after ≡ old ++ (front ++ flat_map bytes (take (i + 1) xs))
more_bytes {A} bytes old front xs i x so_far after lt is before step =
    let done : List ℕ = flat_map bytes (take i xs) in
    let one : flat_map bytes (x ∷ []) ≡ bytes x = flat_map-cons bytes x [] ∙ append-nil (bytes x) in
    let longer : take (i + 1) xs ≡ take i xs ++ x ∷ [] = take_more xs i x lt ∙ ap (λ (y : A). take i xs ++ y ∷ []) (sym is) in
    let all : flat_map bytes (take (i + 1) xs) ≡ done ++ bytes x = ap (flat_map bytes) longer ∙ flat_map-append bytes (take i xs) (x ∷ []) ∙ ap (λ (z : List ℕ). done ++ z) one in
    step ∙ ap (λ (z : List ℕ). z ++ bytes x) before ∙ append_assoc old (front ++ done) (bytes x) ∙ ap (λ (z : List ℕ). old ++ z) (append_assoc front done (bytes x) ∙ ap (λ (z : List ℕ). front ++ z) (sym all))

pub put_more : {A : Type 0} {bytes_of : A → List ℕ} {P : A → Type 0} {old front : List ℕ} {xs : List A} {i : ℕ} {so_far after : List ℕ} {x : A} → IsPut bytes_of P old front xs i so_far
    → i < length xs → x ≡ get_or xs i x → after ≡ so_far ++ bytes_of x → P x → IsPut bytes_of P old front xs (i + 1) after
put_more {A} {bytes_of} {P} {old} {front} {xs} {i} {so_far} {after} {x} before lt is step fits = record {
  bytes = more_bytes bytes_of old front xs i x so_far after lt is before.bytes step;
  fit = All-more P xs i x lt before.fit (subst P is fits);
}

-- all of them
pub put_all : {A : Type 0} {bytes_of : A → List ℕ} {P : A → Type 0} {old front : List ℕ} {xs : List A} {i : ℕ} {out : List ℕ} → IsPut bytes_of P old front xs i out
    → length xs ≤ i → (out ≡ old ++ (front ++ flat_map bytes_of xs)) × All P xs
put_all {A} {bytes_of} {P} {old} {front} {xs} {i} {out} put le =
    let all = take_all i xs le in
    (subst (λ (ys : List A). out ≡ old ++ (front ++ flat_map bytes_of ys)) all put.bytes, subst (λ (ys : List A). All P ys) all put.fit)

-- pieces, put one after another
pub three_put : (old a b c one two all : List ℕ) → one ≡ old ++ a → two ≡ one ++ b → all ≡ two ++ c → all ≡ old ++ (a ++ (b ++ c))
three_put old a b c one two all e1 e2 e3 =
    e3 ∙ ap (λ (z : List ℕ). z ++ c) (e2 ∙ ap (λ (z : List ℕ). z ++ b) e1) ∙ append_assoc (old ++ a) b c ∙ append_assoc old a (b ++ c)

pub four_put : (old a b c d one two three all : List ℕ) → one ≡ old ++ a → two ≡ one ++ b → three ≡ two ++ c → all ≡ three ++ d → all ≡ old ++ (a ++ (b ++ (c ++ d)))
four_put old a b c d one two three all e1 e2 e3 e4 = three_put old a b (c ++ d) one two all e1 e2 (e4 ∙ ap (λ (z : List ℕ). z ++ d) e3 ∙ append_assoc two c d)
