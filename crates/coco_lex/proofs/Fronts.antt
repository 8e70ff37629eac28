-- What stands at the front, from what the small functions found there.
use Rattle.std.proofs.Common.{◌≡◌, ℕ, zero, suc, ◌<◌, ◌≤◌, true, false, ◌↔◌, List, [], ◌∷◌, length, take, min, get_or, Contains, codes, sym, refl, subst, arith, ⊎_elim, length-take, leb-true}
use Rattle.std.specs.Cmp.Lexicographic.{pointwise, unequal}
use Rattle.std.specs.Prelude.{nat_eq, nat_le}
use Rattle.std.specs.List.{list_all, list_any, prefix_len}
use Rattle.std.proofs.lemmas.Bool.{and_parts, or_cases}
use Rattle.std.proofs.Math.Bool.{or-true}
use Rattle.std.proofs.lemmas.Slice.Eq.{bytes_eq-Decides}
use Rattle.std.proofs.lemmas.List.Elements.{All-contains, All-from_recursion}
use Rattle.std.proofs.lemmas.List.{take_min}
use Rattle.std.proofs.lemmas.List.Sums.{AllPass-from_list_all}
use Rattle.std.specs.Char.{is_ascii_digit}
use Rattle.std.specs.Str.Parse.{digits_value}
use Rattle.std.proofs.lemmas.Bool.{ne_eqb, cases_lt, eq-eqb, eqb-true}
use Rattle.coco_ast.specs.Words.{is_word_start, is_word_byte}
use Rattle.coco_lex.specs.Bytes.{quote}
use Rattle.coco_lex.specs.Lexeme.{IsWord, IsDigits, IsQuoted, IsSymbol, IsLexeme, IsLongest, of_symbol, keywords}
use Rattle.coco_lex.specs.Tokens.{IsFront, KeepsLimits}
use Rattle.coco_lex.specs.Refusal.{IsFault}
use Rattle.coco_lex.specs.declared.token.TokenKind.TheVariants.{Keyword, Name, Number, Symbol}
use Rattle.coco_lex.specs.declared.error.LexKind.TheVariants.{Stray, LongName, WideNumber}
use Rattle.coco_lex.proofs.Heads.{class_of, word_class, digit_class, quote_class, symbol_class, class_of_start, class_of_digits, class_of_text, class_of_symbol, only_symbol, no_empty}
use Rattle.coco_lex.proofs.Runs.{word_longest, word_is, digits_longest, digits_are}

-- a word is neither a number nor a text
pub word_class_of : (bytes : List ℕ) → IsWord bytes → class_of (get_or bytes 0 0) ≡ word_class
word_class_of [] w = absurd w
word_class_of (b ∷ bs) w = class_of_start b w.0

pub digits_class_of : (bytes : List ℕ) → IsDigits bytes → class_of (get_or bytes 0 0) ≡ digit_class
digits_class_of [] d = absurd (omega (arith, d.0))
digits_class_of (b ∷ bs) d = class_of_digits b bs d

pub text_class_of : (content bytes : List ℕ) → IsQuoted content bytes → class_of (get_or bytes 0 0) ≡ quote_class
text_class_of content [] q = absurd (cc (q.spelling))
text_class_of content (b ∷ bs) q = class_of_text b bs (content, q)

word_limits : (bytes : List ℕ) → IsWord bytes → length bytes ≤ 32 → KeepsLimits bytes
word_limits bytes w short = record {
  word = λ _. short;
  number = λ d. absurd (cc (word_class_of bytes w, digits_class_of bytes d));
  text = λ content q. absurd (cc (word_class_of bytes w, text_class_of content bytes q));
}

pub long_word : (rest : List ℕ) (n : ℕ) → is_word_start (get_or rest 0 0) ≡ true → n ≡ prefix_len is_word_byte rest → 32 < n → IsFault rest LongName 0
long_word rest n s e long = (refl, (prefix_len is_word_byte rest, word_longest rest s, word_is rest s, omega arith))

any_at : (k : List ℕ) (ks : List (List ℕ)) (w : List ℕ) → (k ≡ w → pointwise nat_eq k w ≡ true) → (Contains ks w → list_any (λ y. pointwise nat_eq y w) ks ≡ true) → (i : ℕ) → i < length (k ∷ ks) → get_or (k ∷ ks) i w ≡ w → list_any (λ y. pointwise nat_eq y w) (k ∷ ks) ≡ true
any_at k ks w same rest zero b e = rw (same e) refl
any_at k ks w same rest (suc i) b e = let found = rest (i, omega arith, e) in rw (found, or-true) refl

-- a search of a table of words
pub any_contains : (ks : List (List ℕ)) (w : List ℕ) → (list_any (λ k. pointwise nat_eq k w) ks ≡ true) ↔ Contains ks w
any_contains [] w = (λ h. cc h, λ h. absurd (omega (arith, h.1)))
any_contains (k ∷ ks) w =
    let same = bytes_eq-Decides k w in
    let rest = any_contains ks w in (
      λ h. ⊎_elim (λ t. (0, omega arith, same.0 t)) (λ t. let found = rest.0 t in (suc found.0, omega (arith, found.1), found.2)) (or_cases (pointwise nat_eq k w) (list_any (λ y. pointwise nat_eq y w) ks) h),
      λ h. any_at k ks w same.1 rest.1 h.0 h.1 h.2,
    )

-- a word is none of those that are all shorter
pub longer_than_all : (ks : List (List ℕ)) (w : List ℕ) (n : ℕ) → list_all (λ k. nat_le (length k) n) ks ≡ true → n < length w → list_any (λ k. pointwise nat_eq k w) ks ≡ false
longer_than_all [] w n all lt = refl
longer_than_all (k ∷ ks) w n all lt =
    let parts = and_parts (nat_le (length k) n) (list_all (λ y. nat_le (length y) n) ks) all in
    let short = leb-true (length k) n parts.0 in
    rw (unequal nat_eq k w (λ e. absurd (omega (arith, e, short, lt))), longer_than_all ks w n parts.1 lt) refl

number_at : (x : ℕ) (xs : List ℕ) (b : ℕ) → (Contains xs b → list_any (λ y. nat_eq y b) xs ≡ true) → (i : ℕ) → i < length (x ∷ xs) → get_or (x ∷ xs) i b ≡ b → list_any (λ y. nat_eq y b) (x ∷ xs) ≡ true
number_at x xs b rest zero l e = let same = eq-eqb x b e in rw (same) refl
number_at x xs b rest (suc i) l e = let found = rest (i, omega arith, e) in rw (found, or-true) refl

-- a search of a table of bytes
pub any_contains_byte : (xs : List ℕ) (b : ℕ) → (list_any (λ y. nat_eq y b) xs ≡ true) ↔ Contains xs b
any_contains_byte [] b = (λ h. cc h, λ h. absurd (omega (arith, h.1)))
any_contains_byte (x ∷ xs) b =
    let rest = any_contains_byte xs b in (
      λ h. ⊎_elim (λ t. (0, omega arith, eqb-true x b t)) (λ t. let found = rest.0 t in (suc found.0, omega (arith, found.1), found.2)) (or_cases (nat_eq x b) (list_any (λ y. nat_eq y b) xs) h),
      λ h. number_at x xs b rest.1 h.0 h.1 h.2,
    )

-- each keyword is a word
pub keywords_are_words : (w : List ℕ) → Contains keywords w → IsWord w
keywords_are_words w h = All-contains IsWord keywords w (All-from_recursion IsWord keywords ((refl, AllPass-from_list_all is_word_byte (codes "able") refl), ((refl, AllPass-from_list_all is_word_byte (codes "roc") refl), ((refl, AllPass-from_list_all is_word_byte (codes "et") refl), ((refl, AllPass-from_list_all is_word_byte (codes "et") refl), ((refl, AllPass-from_list_all is_word_byte (codes "ut") refl), ((refl, AllPass-from_list_all is_word_byte (codes "elete") refl), ((refl, AllPass-from_list_all is_word_byte (codes "f") refl), ((refl, AllPass-from_list_all is_word_byte (codes "lse") refl), ((refl, AllPass-from_list_all is_word_byte (codes "epeat") refl), ((refl, AllPass-from_list_all is_word_byte (codes "s") refl), ((refl, AllPass-from_list_all is_word_byte (codes "efuse") refl), ((refl, AllPass-from_list_all is_word_byte (codes "eply") refl), ((refl, AllPass-from_list_all is_word_byte (codes "one") refl), ((refl, AllPass-from_list_all is_word_byte (codes "ot") refl), ((refl, AllPass-from_list_all is_word_byte (codes "nd") refl), ((refl, AllPass-from_list_all is_word_byte (codes "r") refl), tt))))))))))))))))) h

word_front : (rest : List ℕ) (n : ℕ) → is_word_start (get_or rest 0 0) ≡ true → n ≡ prefix_len is_word_byte rest → n ≤ 32 → IsLongest rest n × IsWord (take n rest) × KeepsLimits (take n rest)
word_front rest n s e short =
    let w : IsWord (take n rest) = subst (λ k. IsWord (take k rest)) (sym e) (word_is rest s) in
    (subst (IsLongest rest) (sym e) (word_longest rest s), w, word_limits (take n rest) w (omega (arith, length-take n rest)))

pub keyword_front : (rest : List ℕ) (n : ℕ) → is_word_start (get_or rest 0 0) ≡ true → n ≡ prefix_len is_word_byte rest → n ≤ 32 → Contains keywords (take n rest) → IsFront rest Keyword n
keyword_front rest n s e short k =
    let f = word_front rest n s e short in
    record { longest = f.0; limits = f.2; kind_fits = k }

pub name_front : (rest : List ℕ) (n : ℕ) → is_word_start (get_or rest 0 0) ≡ true → n ≡ prefix_len is_word_byte rest → n ≤ 32 → (Contains keywords (take n rest) → ⊥) → IsFront rest Name n
name_front rest n s e short k =
    let f = word_front rest n s e short in
    record { longest = f.0; limits = f.2; kind_fits = (f.1, k) }

digits_limits : (bytes : List ℕ) → IsDigits bytes → digits_value 10 bytes ≤ 9223372036854775807 → KeepsLimits bytes
digits_limits bytes d small = record {
  word = λ w. absurd (cc (word_class_of bytes w, digits_class_of bytes d));
  number = λ _. small;
  text = λ content q. absurd (cc (digits_class_of bytes d, text_class_of content bytes q));
}

pub wide_number : (rest : List ℕ) (n : ℕ) → is_ascii_digit (get_or rest 0 0) ≡ true → n ≡ prefix_len is_ascii_digit rest → 9223372036854775807 < digits_value 10 (take n rest) → IsFault rest WideNumber 0
wide_number rest n s e wide = (refl, (n, subst (IsLongest rest) (sym e) (digits_longest rest s), subst (λ k. IsDigits (take k rest)) (sym e) (digits_are rest s), wide))

pub digits_front : (rest : List ℕ) (n : ℕ) → is_ascii_digit (get_or rest 0 0) ≡ true → n ≡ prefix_len is_ascii_digit rest → IsDigits (take n rest)
digits_front rest n s e = subst (λ k. IsDigits (take k rest)) (sym e) (digits_are rest s)

pub number_front : (rest : List ℕ) (n : ℕ) → is_ascii_digit (get_or rest 0 0) ≡ true → n ≡ prefix_len is_ascii_digit rest → (9223372036854775807 < digits_value 10 (take n rest) → ⊥) → IsFront rest Number n
number_front rest n s e not_wide =
    let small : digits_value 10 (take n rest) ≤ 9223372036854775807 = omega arith in
    let d : IsDigits (take n rest) = subst (λ k. IsDigits (take k rest)) (sym e) (digits_are rest s) in
    record {
      longest = subst (IsLongest rest) (sym e) (digits_longest rest s);
      limits = digits_limits (take n rest) d small;
      kind_fits = d;
    }

pub symbol_class_of : (b : ℕ) → is_word_start b ≡ false → is_ascii_digit b ≡ false → (b ≡ quote → ⊥) → class_of b ≡ symbol_class
symbol_class_of b w d q = let no_quote = ne_eqb b quote q in rw (w, d, no_quote) refl

pub stray : (rest : List ℕ) → class_of (get_or rest 0 0) ≡ symbol_class → (get_or rest 0 0 ≡ quote → ⊥) → ((m : ℕ) → 0 < m → m ≤ length rest → IsSymbol (take m rest) → ⊥) → IsFault rest Stray 0
stray rest c q none = (
  refl,
  q,
  λ m l.
      let k = min m (length rest) in
      let short : IsLexeme (take k rest) = subst IsLexeme (sym (take_min m rest)) l in
      ⊎_elim
      (λ positive. none k positive (omega arith) (only_symbol rest k c short))
      (λ at_most_zero. let is_zero : k ≡ 0 = omega arith in no_empty (subst (λ j. IsLexeme (take j rest)) is_zero short))
      (cases_lt 0 k),
)

symbol_limits : (b : ℕ) (bs : List ℕ) → IsSymbol (b ∷ bs) → KeepsLimits (b ∷ bs)
symbol_limits b bs h = record {
  word = λ w. absurd (cc (class_of_symbol b bs h, word_class_of (b ∷ bs) w));
  number = λ d. absurd (cc (class_of_symbol b bs h, digits_class_of (b ∷ bs) d));
  text = λ content q. absurd (cc (class_of_symbol b bs h, text_class_of content (b ∷ bs) q));
}

pub symbol_front : (rest : List ℕ) (n : ℕ) → class_of (get_or rest 0 0) ≡ symbol_class → 0 < n → n ≤ length rest → IsSymbol (take n rest) → ((m : ℕ) → n < m → m ≤ length rest → IsSymbol (take m rest) → ⊥) → IsFront rest Symbol n
symbol_front rest zero c p w h none = absurd (omega arith)
symbol_front [] (suc n) c p w h none = absurd (omega arith)
symbol_front (b ∷ bs) (suc n) c p w h none = record {
  longest = record { within = w; lexeme = of_symbol h; longest = λ m above within l. none m above within (only_symbol (b ∷ bs) m c l) };
  limits = symbol_limits b (take n bs) h;
  kind_fits = h;
}

-- what the tests of a symbol's bytes say
pub one_symbol : (rest : List ℕ) → 0 < length rest → Contains (codes "(){}[],;=<>+-*/%") (get_or rest 0 0) → IsSymbol (take 1 rest)
one_symbol [] w h = absurd (omega arith)
one_symbol (b ∷ bs) w h = h

pub two_symbol : (rest : List ℕ) → 1 < length rest → Contains (codes "=!<>") (get_or rest 0 0) → get_or rest 1 0 ≡ 61 → IsSymbol (take 2 rest)
two_symbol [] w h e = absurd (omega arith)
two_symbol (b ∷ []) w h e = absurd (omega arith)
two_symbol (b ∷ c ∷ bs) w h e = (h, e)

pub symbol_is_two : (rest : List ℕ) (m : ℕ) → 1 < m → m ≤ length rest → IsSymbol (take m rest) → (m ≡ 2) × (Contains (codes "=!<>") (get_or rest 0 0)) × (get_or rest 1 0 ≡ 61)
symbol_is_two rest zero p w h = absurd (omega arith)
symbol_is_two rest (suc zero) p w h = absurd (omega arith)
symbol_is_two [] (suc (suc m)) p w h = absurd (omega arith)
symbol_is_two (b ∷ []) (suc (suc m)) p w h = absurd (omega arith)
symbol_is_two (b ∷ c ∷ bs) (suc (suc zero)) p w h = (refl, h.0, h.1)
symbol_is_two (b ∷ c ∷ []) (suc (suc (suc m))) p w h = absurd (omega arith)
symbol_is_two (b ∷ c ∷ d ∷ bs) (suc (suc (suc m))) p w h = absurd h

pub symbol_is_one : (rest : List ℕ) → 0 < length rest → IsSymbol (take 1 rest) → Contains (codes "(){}[],;=<>+-*/%") (get_or rest 0 0)
symbol_is_one [] w h = absurd (omega arith)
symbol_is_one (b ∷ bs) w h = h
