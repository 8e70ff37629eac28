-- The first byte of a lexeme tells what lexeme it is.
use Rattle.std.proofs.Common.{◌≡◌, ℕ, zero, suc, Bool, true, false, not, ◌&&◌, ◌==◌, if◌then◌else◌, List, [], ◌∷◌, take, get_or, codes, sym, refl, subst, arith}
use Rattle.std.specs.Char.{is_ascii_digit}
use Rattle.std.specs.Int.{IsInRange}
use Rattle.std.proofs.lemmas.Bool.{and_parts, not-true}
use Rattle.std.proofs.lemmas.Bool.Decides.{nat_tests}
use Rattle.std.proofs.lemmas.List.Elements.{All-contains}
use Rattle.std.proofs.lemmas.List.Sums.{AllPass-from_list_all}
use Rattle.std.proofs.lemmas.Str.Parse.{digit_from_value}
use Rattle.coco_ast.specs.Words.{is_word_start}
use Rattle.coco_lex.specs.Bytes.{quote}
use Rattle.coco_lex.specs.Lexeme.{IsWord, IsDigits, IsText, IsSymbol, IsLexeme, of_word, of_digits, of_text, of_symbol}

pub data Class : Type 0 where
  word_class : Class
  digit_class : Class
  quote_class : Class
  symbol_class : Class

abbrev pub class_of : ℕ → Class
class_of b = if is_word_start b then word_class else (if is_ascii_digit b then digit_class else (if b == quote then quote_class else symbol_class))

pub class_of_start : (b : ℕ) → is_word_start b ≡ true → class_of b ≡ word_class
class_of_start b h = rw h refl

pub class_of_digit : (b : ℕ) → IsInRange 48 57 b → class_of b ≡ digit_class
class_of_digit b h =
    let no_start : is_word_start b ≡ false = grind (arith, nat_tests) in
    let digit : is_ascii_digit b ≡ true = grind (arith, nat_tests) in
    rw (no_start, digit) refl

abbrev is_other : ℕ → Bool
is_other b = not (is_word_start b) && (not (is_ascii_digit b) && not (b == quote))

class_of_other : (b : ℕ) → is_other b ≡ true → class_of b ≡ symbol_class
class_of_other b h =
    let parts = and_parts (not (is_word_start b)) (not (is_ascii_digit b) && not (b == quote)) h in
    let more = and_parts (not (is_ascii_digit b)) (not (b == quote)) parts.1 in
    let no_start = not-true (is_word_start b) parts.0 in
    let no_digit = not-true (is_ascii_digit b) more.0 in
    let no_quote = not-true (b == quote) more.1 in
    rw (no_start, no_digit, no_quote) refl

pub class_of_symbol : (b : ℕ) (bs : List ℕ) → IsSymbol (b ∷ bs) → class_of b ≡ symbol_class
class_of_symbol b [] h = class_of_other b (All-contains (λ x. is_other x ≡ true) (codes "(){}[],;=<>+-*/%") b (AllPass-from_list_all is_other (codes "(){}[],;=<>+-*/%") refl) h)
class_of_symbol b (c ∷ []) h = class_of_other b (All-contains (λ x. is_other x ≡ true) (codes "=!<>") b (AllPass-from_list_all is_other (codes "=!<>") refl) h.0)
class_of_symbol b (c ∷ d ∷ bs) h = absurd h

pub class_of_text : (b : ℕ) (bs : List ℕ) → IsText (b ∷ bs) → class_of b ≡ quote_class
class_of_text b bs (content, q) =
    let e : b ≡ quote = cc (q.spelling) in
    subst (λ x. class_of x ≡ quote_class) (sym e) refl

pub class_of_digits : (b : ℕ) (bs : List ℕ) → IsDigits (b ∷ bs) → class_of b ≡ digit_class
class_of_digits b bs h = class_of_digit b (digit_from_value b h.1.0)

-- nothing is no lexeme
pub no_empty : IsLexeme [] → ⊥
no_empty (of_word h) = h
no_empty (of_digits h) = omega (arith, h.0)
no_empty (of_text (content, q)) = cc (q.spelling)
no_empty (of_symbol h) = h

pub only_word : (rest : List ℕ) (m : ℕ) → class_of (get_or rest 0 0) ≡ word_class → IsLexeme (take m rest) → IsWord (take m rest)
only_word rest zero c l = absurd (no_empty l)
only_word [] (suc m) c l = absurd (no_empty l)
only_word (b ∷ bs) (suc m) c (of_word h) = h
only_word (b ∷ bs) (suc m) c (of_digits h) = absurd (cc (class_of_digits b (take m bs) h))
only_word (b ∷ bs) (suc m) c (of_text h) = absurd (cc (class_of_text b (take m bs) h))
only_word (b ∷ bs) (suc m) c (of_symbol h) = absurd (cc (class_of_symbol b (take m bs) h))

pub only_digits : (rest : List ℕ) (m : ℕ) → class_of (get_or rest 0 0) ≡ digit_class → IsLexeme (take m rest) → IsDigits (take m rest)
only_digits rest zero c l = absurd (no_empty l)
only_digits [] (suc m) c l = absurd (no_empty l)
only_digits (b ∷ bs) (suc m) c (of_word h) = absurd (cc (class_of_start b h.0))
only_digits (b ∷ bs) (suc m) c (of_digits h) = h
only_digits (b ∷ bs) (suc m) c (of_text h) = absurd (cc (class_of_text b (take m bs) h))
only_digits (b ∷ bs) (suc m) c (of_symbol h) = absurd (cc (class_of_symbol b (take m bs) h))

pub only_text : (rest : List ℕ) (m : ℕ) → class_of (get_or rest 0 0) ≡ quote_class → IsLexeme (take m rest) → IsText (take m rest)
only_text rest zero c l = absurd (no_empty l)
only_text [] (suc m) c l = absurd (no_empty l)
only_text (b ∷ bs) (suc m) c (of_word h) = absurd (cc (class_of_start b h.0))
only_text (b ∷ bs) (suc m) c (of_digits h) = absurd (cc (class_of_digits b (take m bs) h))
only_text (b ∷ bs) (suc m) c (of_text h) = h
only_text (b ∷ bs) (suc m) c (of_symbol h) = absurd (cc (class_of_symbol b (take m bs) h))

pub only_symbol : (rest : List ℕ) (m : ℕ) → class_of (get_or rest 0 0) ≡ symbol_class → IsLexeme (take m rest) → IsSymbol (take m rest)
only_symbol rest zero c l = absurd (no_empty l)
only_symbol [] (suc m) c l = absurd (no_empty l)
only_symbol (b ∷ bs) (suc m) c (of_word h) = absurd (cc (class_of_start b h.0))
only_symbol (b ∷ bs) (suc m) c (of_digits h) = absurd (cc (class_of_digits b (take m bs) h))
only_symbol (b ∷ bs) (suc m) c (of_text h) = absurd (cc (class_of_text b (take m bs) h))
only_symbol (b ∷ bs) (suc m) c (of_symbol h) = h
