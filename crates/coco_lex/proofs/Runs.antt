-- The longest word, and the longest run of digits, at the front.
use Rattle.std.proofs.Common.{◌≡◌, ℕ, zero, suc, ◌<◌, ◌≤◌, Bool, true, List, [], ◌∷◌, length, take, get_or, sym, refl, ap, ◌∙◌, arith, length-take, get_or-take}
use Rattle.std.specs.List.{prefix_len}
use Rattle.std.specs.Char.{is_ascii_digit}
use Rattle.std.specs.Int.{IsInRange}
use Rattle.std.specs.Str.Parse.{AllDigits}
use Rattle.std.proofs.lemmas.Bool.{and_parts, leb-true}
use Rattle.std.proofs.lemmas.Bool.Decides.{nat_tests}
use Rattle.std.proofs.lemmas.List.Elements.{All-from_get_or}
use Rattle.std.proofs.lemmas.List.Sums.{prefix_len_passes, prefix_len_stops, prefix_len-le-length}
use Rattle.std.proofs.lemmas.Str.{digit_value_digit}
use Rattle.std.proofs.lemmas.Str.Parse.{digit_at}
use Rattle.coco_ast.specs.Words.{is_word_start, is_word_byte}
use Rattle.coco_lex.specs.Lexeme.{IsWord, IsDigits, IsLongest, of_word, of_digits}
use Rattle.coco_lex.proofs.Heads.{class_of_start, class_of_digit, only_word, only_digits}

word_front : (rest : List ℕ) (n : ℕ) → 0 < n → n ≤ length rest → is_word_start (get_or rest 0 0) ≡ true → ((k : ℕ) → k < n → is_word_byte (get_or rest k 0) ≡ true) → IsWord (take n rest)
word_front rest zero p w s all = absurd (omega arith)
word_front [] (suc n) p w s all = absurd (omega arith)
word_front (b ∷ bs) (suc n) p w s all = (
  s,
  All-from_get_or (λ x. is_word_byte x ≡ true) (take n bs) 0 (λ i h.
      let below : i < n = omega (arith, length-take n bs) in
      rw get_or-take (all (suc i) (omega arith))),
)

word_goes_on : (rest : List ℕ) (n m : ℕ) → 0 < n → n < m → m ≤ length rest → IsWord (take m rest) → is_word_byte (get_or rest n 0) ≡ true
word_goes_on rest n zero p b w h = absurd (omega arith)
word_goes_on rest zero (suc m) p b w h = absurd (omega arith)
word_goes_on [] (suc n) (suc m) p b w h = absurd h
word_goes_on (c ∷ bs) (suc n) (suc m) p b w h =
    let below : n < m = omega arith in
    sym (ap is_word_byte (get_or-take m bs n 0 below)) ∙ h.1 n 0 (omega (arith, length-take m bs))

start_passes : (b : ℕ) → is_word_start b ≡ true → is_word_byte b ≡ true
start_passes b h = rw h refl

-- a front that passes a test that the first byte passes isn't empty
positive : (p : ℕ → Bool) (rest : List ℕ) → 0 < length rest → p (get_or rest 0 0) ≡ true → 0 < prefix_len p rest
positive p [] w h = absurd (omega arith)
positive p (b ∷ bs) w h = rw h (omega arith)

nonempty_word : (rest : List ℕ) → is_word_start (get_or rest 0 0) ≡ true → 0 < length rest
nonempty_word [] h = absurd (cc h)
nonempty_word (b ∷ bs) h = omega arith

pub word_len_positive : (rest : List ℕ) → is_word_start (get_or rest 0 0) ≡ true → 0 < prefix_len is_word_byte rest
word_len_positive rest h = positive is_word_byte rest (nonempty_word rest h) (start_passes (get_or rest 0 0) h)

pub word_is : (rest : List ℕ) → is_word_start (get_or rest 0 0) ≡ true → IsWord (take (prefix_len is_word_byte rest) rest)
word_is rest h = word_front rest (prefix_len is_word_byte rest) (word_len_positive rest h) (prefix_len-le-length is_word_byte rest) h (λ k b. prefix_len_passes is_word_byte rest k 0 b)

pub word_longest : (rest : List ℕ) → is_word_start (get_or rest 0 0) ≡ true → IsLongest rest (prefix_len is_word_byte rest)
word_longest rest h = record {
  within = prefix_len-le-length is_word_byte rest;
  lexeme = of_word (word_is rest h);
  longest = λ m above within l.
      let goes_on = word_goes_on rest (prefix_len is_word_byte rest) m (word_len_positive rest h) above within (only_word rest m (class_of_start (get_or rest 0 0) h) l) in
      let stops = prefix_len_stops is_word_byte rest 0 (omega arith) in
      cc (goes_on, stops);
}

digit_fits : (c : ℕ) → is_ascii_digit c ≡ true → IsInRange 48 57 c
digit_fits c h = let parts = and_parts _ _ h in (leb-true 48 c parts.0, leb-true c 57 parts.1)

digits_from : (xs : List ℕ) → ((i : ℕ) → i < length xs → is_ascii_digit (get_or xs i 0) ≡ true) → AllDigits 10 xs
digits_from [] all = tt
digits_from (c ∷ cs) all =
    let fits = digit_fits c (all 0 (omega arith)) in
    (omega (arith, digit_value_digit c fits), digits_from cs (λ i h. all (suc i) (omega arith)))

nonempty_digits : (rest : List ℕ) → is_ascii_digit (get_or rest 0 0) ≡ true → 0 < length rest
nonempty_digits [] h = absurd (cc h)
nonempty_digits (b ∷ bs) h = omega arith

pub digits_len_positive : (rest : List ℕ) → is_ascii_digit (get_or rest 0 0) ≡ true → 0 < prefix_len is_ascii_digit rest
digits_len_positive rest h = positive is_ascii_digit rest (nonempty_digits rest h) h

pub digits_are : (rest : List ℕ) → is_ascii_digit (get_or rest 0 0) ≡ true → IsDigits (take (prefix_len is_ascii_digit rest) rest)
digits_are rest h =
    let n = prefix_len is_ascii_digit rest in
    let within = prefix_len-le-length is_ascii_digit rest in
    let p = digits_len_positive rest h in
    let len = length-take n rest in (
      omega arith,
      digits_from (take n rest) (λ i b.
          let below : i < n = omega arith in
          rw get_or-take (prefix_len_passes is_ascii_digit rest i 0 below)),
    )

digit_test : (c : ℕ) → IsInRange 48 57 c → is_ascii_digit c ≡ true
digit_test c h = grind (arith, nat_tests)

pub digits_longest : (rest : List ℕ) → is_ascii_digit (get_or rest 0 0) ≡ true → IsLongest rest (prefix_len is_ascii_digit rest)
digits_longest rest h = record {
  within = prefix_len-le-length is_ascii_digit rest;
  lexeme = of_digits (digits_are rest h);
  longest = λ m above within l.
      let n = prefix_len is_ascii_digit rest in
      let digits = only_digits rest m (class_of_digit (get_or rest 0 0) (digit_fits (get_or rest 0 0) h)) l in
      let fits = digit_at (take m rest) n digits.1 (omega (arith, length-take m rest)) in
      let goes_on = sym (ap is_ascii_digit (get_or-take m rest n 0 above)) ∙ digit_test (get_or (take m rest) n 0) fits in
      let stops = prefix_len_stops is_ascii_digit rest 0 (omega arith) in
      cc (goes_on, stops);
}
