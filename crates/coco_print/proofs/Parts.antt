-- Pieces of a printed text, and what they are read as, whatever stands behind them.
use Rattle.std.proofs.Common.{◌≡◌, ℕ, ◌+◌, ◌-◌, ◌<◌, ◌≤◌, Bool, true, false, not, ◌||◌, ◌==◌, nat_eq, inl, ⊎_elim, List, [], ◌∷◌, ◌++◌, length, take, get_or, All, Contains, codes, decimal, sym, refl, ap, ◌∙◌, subst, arith, append_assoc, length-append}
use Rattle.std.proofs.Math.Seq.{take-append_seam, get_or-append_seam}
use Rattle.std.specs.Char.{is_ascii_digit}
use Rattle.std.specs.Int.{IsInRange}
use Rattle.std.specs.List.{list_all, list_any, prefix_len}
use Rattle.std.specs.Str.Parse.{AllDigits, digits_value}
use Rattle.std.proofs.lemmas.Bool.{not-true, or_parts, and_parts, cases_Bool}
use Rattle.std.proofs.lemmas.Bool.Decides.{nat_tests}
use Rattle.std.proofs.lemmas.Fmt.{decimal_is_IsNumeral}
use Rattle.std.proofs.lemmas.List.Sums.{list_all-from_AllPass}
use Rattle.std.proofs.lemmas.Str.Parse.{digit_from_value}
use Rattle.coco_ast.specs.Words.{is_word_start, is_word_byte}
use Rattle.coco_lex.specs.Bytes.{quote, backslash, is_blank}
use Rattle.coco_lex.specs.Lexeme.{IsWord, IsDigits, IsSymbol, escaped, spelled, keywords}
use Rattle.coco_lex.specs.Refusal.{Opens}
use Rattle.coco_lex.specs.Tokens.{IsFront}
use Rattle.coco_lex.specs.declared.token.TokenKind.TheVariants as kind
use Rattle.coco_lex.proofs.Fronts.{any_contains_byte, keywords_are_words, keyword_front, name_front, number_front, symbol_front, symbol_is_two}
use Rattle.coco_lex.proofs.Heads.{class_of, symbol_class, class_of_symbol}
use Rattle.coco_lex.proofs.Texts.{text_front}
use Rattle.coco_parse.specs.Escapes.{unescaped, content}
use Rattle.coco_parse.specs.Wording.{word_in}
use Rattle.coco_parse.specs.declared.word.Word.{Word}
use Rattle.coco_parse.specs.declared.word.Word.TheVariants as word
use Rattle.coco_print.specs.Printed.{quoted}
use Rattle.coco_print.proofs.Laid.{Laid, blank, token}

-- ---- pieces and what stands behind them

-- no byte that could go on with a word, a number or a symbol
abbrev pub parts : List ℕ → Bool
parts [] = true
parts (b ∷ bs) = not (is_word_byte b || b == 61)

-- these words, whatever follows
pub record Open (text : List ℕ) (ws : List Word) : Type 0 where
  pub lay : (rest : List ℕ) (us : List Word) → Laid rest us → Laid (text ++ rest) (ws ++ us)

-- these words, where what follows does not go on with the last one
pub record Tight (text : List ℕ) (ws : List Word) : Type 0 where
  pub lay : (rest : List ℕ) (us : List Word) → parts rest ≡ true → Laid rest us → Laid (text ++ rest) (ws ++ us)

abbrev pub Begins : List ℕ → Type 0
Begins text = (rest : List ℕ) → parts (text ++ rest) ≡ true

regroup : (a b rest : List ℕ) (us vs ws : List Word) → Laid (a ++ (b ++ rest)) (us ++ (vs ++ ws)) → Laid ((a ++ b) ++ rest) ((us ++ vs) ++ ws)
regroup a b rest us vs ws l =
    subst (λ t. Laid t ((us ++ vs) ++ ws)) (sym (append_assoc a b rest)) (subst (λ xs. Laid (a ++ (b ++ rest)) xs) (sym (append_assoc us vs ws)) l)

pub open_open : {a b : List ℕ} {us vs : List Word} → Open a us → Open b vs → Open (a ++ b) (us ++ vs)
open_open {a} {b} {us} {vs} p q = record { lay = λ rest ws l. regroup a b rest us vs ws (p.lay (b ++ rest) (vs ++ ws) (q.lay rest ws l)) }

pub open_tight : {a b : List ℕ} {us vs : List Word} → Open a us → Tight b vs → Tight (a ++ b) (us ++ vs)
open_tight {a} {b} {us} {vs} p q = record { lay = λ rest ws h l. regroup a b rest us vs ws (p.lay (b ++ rest) (vs ++ ws) (q.lay rest ws h l)) }

pub tight_open : {a b : List ℕ} {us vs : List Word} → Tight a us → Begins b → Open b vs → Open (a ++ b) (us ++ vs)
tight_open {a} {b} {us} {vs} p h q = record { lay = λ rest ws l. regroup a b rest us vs ws (p.lay (b ++ rest) (vs ++ ws) (h rest) (q.lay rest ws l)) }

pub open_is_tight : {a : List ℕ} {us : List Word} → Open a us → Tight a us
open_is_tight p = record { lay = λ rest ws h l. p.lay rest ws l }

pub nothing : Open [] []
nothing = record { lay = λ rest ws l. l }

pub one_blank : (b : ℕ) → is_blank b ≡ true → Open (b ∷ []) []
one_blank b h = record { lay = λ rest ws l. blank b h l }

-- ---- words and numbers

prefix_front : (p : ℕ → Bool) (bytes rest : List ℕ) → list_all p bytes ≡ true → prefix_len p rest ≡ 0 → prefix_len p (bytes ++ rest) ≡ length bytes
prefix_front p [] rest all none = none
prefix_front p (b ∷ bs) rest all none =
    let both = and_parts (p b) (list_all p bs) all in
    let more = prefix_front p bs rest both.1 none in
    rw (both.0) (omega arith)

no_word_byte : (rest : List ℕ) → parts rest ≡ true → prefix_len is_word_byte rest ≡ 0
no_word_byte [] h = refl
no_word_byte (b ∷ bs) h =
    let other = or_parts (is_word_byte b) (b == 61) (not-true (is_word_byte b || b == 61) h) in
    rw (other.0) refl

no_digit : (rest : List ℕ) → parts rest ≡ true → prefix_len is_ascii_digit rest ≡ 0
no_digit [] h = refl
no_digit (b ∷ bs) h =
    let other = or_parts (is_word_byte b) (b == 61) (not-true (is_word_byte b || b == 61) h) in
    let digit = or_parts (is_word_start b) (is_ascii_digit b) other.0 in
    rw (digit.1) refl

word_begins : (bytes rest : List ℕ) → IsWord bytes → is_word_start (get_or (bytes ++ rest) 0 0) ≡ true
word_begins [] rest w = absurd w
word_begins (b ∷ bs) rest w = w.0

word_all : (bytes : List ℕ) → IsWord bytes → list_all is_word_byte bytes ≡ true
word_all [] w = absurd w
word_all (b ∷ bs) w =
    let first = w.0 in
    let others = list_all-from_AllPass is_word_byte bs w.1 in
    rw (first, others) refl

word_length : (bytes rest : List ℕ) → IsWord bytes → parts rest ≡ true → length bytes ≡ prefix_len is_word_byte (bytes ++ rest)
word_length bytes rest w h = sym (prefix_front is_word_byte bytes rest (word_all bytes w) (no_word_byte rest h))

pub keyword_piece : (bytes : List ℕ) → Contains keywords bytes → length bytes ≤ 32 → Tight bytes (word_in kind.Keyword bytes ∷ [])
keyword_piece bytes k short = record {
  lay = λ rest us h l.
      let w = keywords_are_words bytes k in
      token kind.Keyword bytes (keyword_front (bytes ++ rest) (length bytes) (word_begins bytes rest w) (word_length bytes rest w h) short (subst (Contains keywords) (sym (take-append_seam bytes rest)) k)) l;
}

-- a word that may be a name
pub record IsName (bytes : List ℕ) : Type 0 where
  pub spelling : IsWord bytes
  pub short : length bytes ≤ 32
  pub no_keyword : Contains keywords bytes → ⊥

pub name_piece : (bytes : List ℕ) → IsName bytes → Tight bytes (word.Name bytes ∷ [])
name_piece bytes n = record {
  lay = λ rest us h l.
      token kind.Name bytes (name_front (bytes ++ rest) (length bytes) (word_begins bytes rest n.spelling) (word_length bytes rest n.spelling h) n.short (λ k. n.no_keyword (subst (Contains keywords) (take-append_seam bytes rest) k))) l;
}

digit_test : (c : ℕ) → IsInRange 48 57 c → is_ascii_digit c ≡ true
digit_test c h = grind (arith, nat_tests)

digits_all : (bytes : List ℕ) → AllDigits 10 bytes → list_all is_ascii_digit bytes ≡ true
digits_all [] d = refl
digits_all (b ∷ bs) d =
    let first = digit_test b (digit_from_value b d.0) in
    let others = digits_all bs d.1 in
    rw (first, others) refl

digits_begin : (bytes rest : List ℕ) → IsDigits bytes → is_ascii_digit (get_or (bytes ++ rest) 0 0) ≡ true
digits_begin [] rest d = absurd (omega (arith, d.0))
digits_begin (b ∷ bs) rest d = digit_test b (digit_from_value b d.1.0)

digits_piece : (bytes : List ℕ) → IsDigits bytes → digits_value 10 bytes ≤ 9223372036854775807 → Tight bytes (word_in kind.Number bytes ∷ [])
digits_piece bytes d small = record {
  lay = λ rest us h l.
      token kind.Number bytes (number_front (bytes ++ rest) (length bytes) (digits_begin bytes rest d) (sym (prefix_front is_ascii_digit bytes rest (digits_all bytes d.1) (no_digit rest h)))
      (λ wide. let same = ap (digits_value 10) (take-append_seam bytes rest) in omega arith)) l;
}

pub number_piece : (n : ℕ) → n ≤ 9223372036854775807 → Tight (decimal n) (word.Number n ∷ [])
number_piece n small =
    let numeral = decimal_is_IsNumeral n (omega arith) in
    subst (λ v. Tight (decimal n) (word.Number v ∷ [])) numeral.1 (digits_piece (decimal n) numeral.0 (omega (arith, numeral.1)))

-- ---- symbols

abbrev pub SingleSymbols : List ℕ
SingleSymbols = codes "(){}[],;=<>+-*/%"

abbrev pub BeforeEquals : List ℕ
BeforeEquals = codes "=!<>"

symbol_begins : (bytes rest : List ℕ) → IsSymbol bytes → class_of (get_or (bytes ++ rest) 0 0) ≡ symbol_class
symbol_begins [] rest h = absurd h
symbol_begins (b ∷ bs) rest h = class_of_symbol b bs h

symbol_token : (bytes rest : List ℕ) → IsSymbol bytes → 0 < length bytes → ((m : ℕ) → length bytes < m → m ≤ length (bytes ++ rest) → IsSymbol (take m (bytes ++ rest)) → ⊥) → IsFront (bytes ++ rest) kind.Symbol (length bytes)
symbol_token bytes rest h p none =
    symbol_front (bytes ++ rest) (length bytes) (symbol_begins bytes rest h) p (omega (arith, length-append bytes rest)) (subst IsSymbol (sym (take-append_seam bytes rest)) h) none

-- a symbol that no equals sign goes on with
pub lone_symbol : (b : ℕ) → list_any (λ y. nat_eq y b) SingleSymbols ≡ true → list_any (λ y. nat_eq y b) BeforeEquals ≡ false → Open (b ∷ []) (word_in kind.Symbol (b ∷ []) ∷ [])
lone_symbol b single alone = record {
  lay = λ rest us l.
      token kind.Symbol (b ∷ []) (symbol_token (b ∷ []) rest ((any_contains_byte SingleSymbols b).0 single) (omega arith) (λ m above within h.
      let two = symbol_is_two (b ∷ rest) m above within h in
      let found = (any_contains_byte BeforeEquals b).1 two.1 in
      cc)) l;
}

not_equals : (rest : List ℕ) → parts rest ≡ true → get_or rest 0 0 ≡ 61 → ⊥
not_equals [] h e = omega (arith, e)
not_equals (b ∷ bs) h e = cc (subst (λ x. not (is_word_byte x || x == 61) ≡ true) e h)

-- a symbol that one could go on with
pub single_symbol : (b : ℕ) → list_any (λ y. nat_eq y b) SingleSymbols ≡ true → Tight (b ∷ []) (word_in kind.Symbol (b ∷ []) ∷ [])
single_symbol b single = record {
  lay = λ rest us p l.
      token kind.Symbol (b ∷ []) (symbol_token (b ∷ []) rest ((any_contains_byte SingleSymbols b).0 single) (omega arith) (λ m above within h.
      let two = symbol_is_two (b ∷ rest) m above within h in
      not_equals rest p two.2)) l;
}

pub double_symbol : (b : ℕ) → list_any (λ y. nat_eq y b) BeforeEquals ≡ true → Open (b ∷ 61 ∷ []) (word_in kind.Symbol (b ∷ 61 ∷ []) ∷ [])
double_symbol b before = record {
  lay = λ rest us l.
      token kind.Symbol (b ∷ 61 ∷ []) (symbol_token (b ∷ 61 ∷ []) rest ((any_contains_byte BeforeEquals b).0 before, refl) (omega arith) (λ m above within h.
      let two = symbol_is_two (b ∷ 61 ∷ rest) m (omega arith) within h in
      omega (arith, two.0))) l;
}

-- ---- texts

escaped_special : (b : ℕ) (xs : List ℕ) → (b == quote || b == backslash) ≡ true → unescaped (escaped b ++ xs) ≡ b ∷ unescaped xs
escaped_special b xs h = rw h refl

unescaped_plain : (b : ℕ) (xs : List ℕ) → (b == backslash) ≡ false → unescaped (b ∷ xs) ≡ b ∷ unescaped xs
unescaped_plain b [] h = refl
unescaped_plain b (x ∷ xs) h = rw h refl

escaped_plain : (b : ℕ) (xs : List ℕ) → (b == quote || b == backslash) ≡ false → unescaped (escaped b ++ xs) ≡ b ∷ unescaped xs
escaped_plain b xs h = let other = or_parts (b == quote) (b == backslash) h in rw h (unescaped_plain b xs other.1)

escaped_once : (b : ℕ) (xs : List ℕ) → unescaped (escaped b ++ xs) ≡ b ∷ unescaped xs
escaped_once b xs = ⊎_elim (escaped_special b xs) (escaped_plain b xs) (cases_Bool (b == quote || b == backslash))

unescaped_spelled : (c : List ℕ) → unescaped (spelled c) ≡ c
unescaped_spelled [] = refl
unescaped_spelled (b ∷ c) = escaped_once b (spelled c) ∙ ap (λ l. b ∷ l) (unescaped_spelled c)

pub content_quoted : (c : List ℕ) → content (quoted c) ≡ c
content_quoted c =
    let len : length (spelled c ++ quote ∷ []) ≡ length (spelled c) + 1 = length-append (spelled c) (quote ∷ []) in
    let short : length (quoted c) - 2 ≡ length (spelled c) = omega arith in
    ap (λ n. unescaped (take n (spelled c ++ quote ∷ []))) short ∙ ap unescaped (take-append_seam (spelled c) (quote ∷ [])) ∙ unescaped_spelled c

-- a text's bytes up to its closing quote, and what stands behind them
quoted_split : (c rest : List ℕ) → quoted c ++ rest ≡ (quote ∷ spelled c) ++ quote ∷ rest
quoted_split c rest = append_assoc (quote ∷ spelled c) (quote ∷ []) rest

quoted_opens : (c rest : List ℕ) → All (λ b. 32 ≤ b) c → Opens ((quote ∷ spelled c) ++ quote ∷ rest) (length (quote ∷ spelled c)) c
quoted_opens c rest printable = record {
  within = omega (arith, length-append (quote ∷ spelled c) (quote ∷ rest));
  printable = printable;
  spelling = take-append_seam (quote ∷ spelled c) (quote ∷ rest);
}

quoted_front : (c rest : List ℕ) → All (λ b. 32 ≤ b) c → length c ≤ 256 → IsFront ((quote ∷ spelled c) ++ quote ∷ rest) kind.Text (length (quote ∷ spelled c) + 1)
quoted_front c rest printable short =
    let closing : get_or ((quote ∷ spelled c) ++ quote ∷ rest) (length (quote ∷ spelled c)) 0 ≡ quote = get_or-append_seam (quote ∷ spelled c) quote rest 0 in
    text_front ((quote ∷ spelled c) ++ quote ∷ rest) (length (quote ∷ spelled c)) (length c) refl
    (record { content = c; opens = quoted_opens c rest printable; counts = refl; stops = λ more. inl closing })
    (omega (arith, length-append (quote ∷ spelled c) (quote ∷ rest))) closing short

pub text_piece : (c : List ℕ) → All (λ b. 32 ≤ b) c → length c ≤ 256 → Open (quoted c) (word.Text c ∷ [])
text_piece c printable short = record {
  lay = λ rest us l.
      let len : length (quote ∷ spelled c) + 1 ≡ length (quoted c) = omega (arith, length-append (quote ∷ spelled c) (quote ∷ [])) in
      let front = subst (λ t. IsFront t kind.Text (length (quote ∷ spelled c) + 1)) (sym (quoted_split c rest)) (quoted_front c rest printable short) in
      let laid = token kind.Text (quoted c) (subst (λ n. IsFront (quoted c ++ rest) kind.Text n) len front) l in
      subst (λ v. Laid (quoted c ++ rest) (word.Text v ∷ us)) (content_quoted c) laid;
}
