-- How the characters of a text are written in quotes.
use Rattle.std.proofs.Common.{◌≡◌, ℕ, suc, ◌<◌, ◌≤◌, true, false, ◌||◌, ◌==◌, List, [], ◌∷◌, ◌++◌, length, get_or, ⊎_elim, sym, refl, ap, ap₂, ◌∙◌, arith, append-nil}
use Rattle.std.specs.Char.{encode_utf8}
use Rattle.std.specs.Str.{encode_utf8_all}
use Rattle.std.proofs.lemmas.Bool.{cases_lt, or_cases, eqb-true, ne_eqb}
use Rattle.std.proofs.lemmas.Str.{encode_ascii, inside_one, encodes-append}
use Rattle.std.proofs.lemmas.List.Concat.{flat_map-append}
use Rattle.coco_lex.specs.Bytes.{quote, backslash}
use Rattle.coco_lex.specs.Lexeme.{escaped, spelled}

spelled_high : (xs : List ℕ) → ((k : ℕ) → k < length xs → 128 ≤ get_or xs k 0) → spelled xs ≡ xs
spelled_high [] high = refl
spelled_high (x ∷ xs) high =
    let big : 128 ≤ x = high 0 (omega arith) in
    let no_quote = ne_eqb x quote (λ e. omega arith) in
    let no_backslash = ne_eqb x backslash (λ e. omega arith) in
    let here : escaped x ≡ x ∷ [] = rw (no_quote, no_backslash) refl in
    ap₂ (λ (a b : List ℕ). a ++ b) here (spelled_high xs (λ k below. high (suc k) (omega arith)))

char_high : (c : ℕ) → 128 ≤ c → (k : ℕ) → k < length (encode_utf8 c) → 128 ≤ get_or (encode_utf8 c) k 0
char_high c big k below =
    ⊎_elim
    (λ low. absurd (omega (arith, inside_one c [] (encode_utf8 c) k (sym (append-nil _)) below low)))
    (λ h. h)
    (cases_lt (get_or (encode_utf8 c) k 0) 128)

pub spelled_special : (c : ℕ) → (c == quote || c == backslash) ≡ true → spelled (encode_utf8 c) ≡ (backslash ∷ []) ++ encode_utf8 c
spelled_special c h =
    let small : c < 128 = ⊎_elim (λ e. let f = eqb-true c quote e in omega arith) (λ e. let f = eqb-true c backslash e in omega arith) (or_cases _ _ h) in
    rw (encode_ascii c small, h) refl

pub spelled_plain : (c : ℕ) → (c == quote || c == backslash) ≡ false → spelled (encode_utf8 c) ≡ encode_utf8 c
spelled_plain c h =
    ⊎_elim
    (λ small. rw (encode_ascii c small, h) refl)
    (λ big. spelled_high (encode_utf8 c) (char_high c big))
    (cases_lt c 128)

pub spelled_more : (cs : List ℕ) (c : ℕ) → spelled (encode_utf8_all (cs ++ c ∷ [])) ≡ spelled (encode_utf8_all cs) ++ spelled (encode_utf8 c)
spelled_more cs c =
    let one : encode_utf8_all (c ∷ []) ≡ encode_utf8 c = append-nil (encode_utf8 c) in
    ap spelled (encodes-append cs (c ∷ []) ∙ ap (λ l. encode_utf8_all cs ++ l) one) ∙ flat_map-append escaped (encode_utf8_all cs) (encode_utf8 c)
