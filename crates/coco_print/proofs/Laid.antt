-- A text that is put together of tokens and blanks has just these tokens.
use Rattle.std.proofs.Common.{◌≡◌, ℕ, zero, suc, ◌-◌, ◌<◌, ◌≤◌, Bool, true, false, not, ◌||◌, ◌==◌, inl, inr, ⊎_elim, List, [], ◌∷◌, ◌++◌, length, take, get_or, IsUtf8, codes, sym, refl, ap, ◌∙◌, subst, arith, append_assoc, append-nil, length-append, add-zero}
use Rattle.std.proofs.Math.Seq.{take-append_seam, drop-append_seam}
use Rattle.std.proofs.lemmas.Bool.{not-true, or_cases, eqb-true, cases_lt}
use Rattle.std.proofs.lemmas.List.{get_or_append_left, get_or-append-add, get_or_at}
use Rattle.std.proofs.lemmas.List.Elements.{All-contains}
use Rattle.std.proofs.lemmas.List.Sums.{AllPass-from_list_all}
use Rattle.coco_lex.specs.Bytes.{is_blank, number_sign}
use Rattle.coco_lex.specs.Gap.{Separates, IsGap}
use Rattle.coco_lex.specs.Lexeme.{IsLexeme, IsSymbol}
use Rattle.coco_lex.specs.Tokens.{IsFront, IsToken, Follow, AreTokens}
use Rattle.coco_lex.specs.declared.token.Token.{Token}
use Rattle.coco_lex.specs.declared.token.TokenKind.{TokenKind}
use Rattle.coco_lex.proofs.Faults.{front_positive}
use Rattle.coco_lex.proofs.Heads.{class_of, symbol_class, only_symbol}
use Rattle.coco_parse.specs.Wording.{word_in, word_of, words_of}
use Rattle.coco_parse.specs.declared.word.Word.{Word}

pub data Laid : List ℕ → List Word → Type 0 where
  end : Laid [] []
  blank : {rest : List ℕ} {ws : List Word} → (b : ℕ) → is_blank b ≡ true → Laid rest ws → Laid (b ∷ rest) ws
  token : {rest : List ℕ} {ws : List Word} → (k : TokenKind) (bytes : List ℕ) → IsFront (bytes ++ rest) k (length bytes) → Laid rest ws → Laid (bytes ++ rest) (word_in k bytes ∷ ws)

-- ---- no token begins with what separates tokens

abbrev separator : ℕ → Bool
separator b = is_blank b || b == number_sign

no_symbol : (b : ℕ) (bs : List ℕ) → IsSymbol (b ∷ bs) → separator b ≡ false
no_symbol b [] h = not-true (separator b) (All-contains (λ x. not (separator x) ≡ true) (codes "(){}[],;=<>+-*/%") b (AllPass-from_list_all (λ x. not (separator x)) (codes "(){}[],;=<>+-*/%") refl) h)
no_symbol b (c ∷ []) h = not-true (separator b) (All-contains (λ x. not (separator x) ≡ true) (codes "=!<>") b (AllPass-from_list_all (λ x. not (separator x)) (codes "=!<>") refl) h.0)
no_symbol b (c ∷ d ∷ bs) h = absurd h

at_byte : (b x : ℕ) → (b == x) ≡ true → class_of x ≡ symbol_class → class_of b ≡ symbol_class
at_byte b x e h = subst (λ c. class_of c ≡ symbol_class) (sym (eqb-true b x e)) h

separator_class : (b : ℕ) → separator b ≡ true → class_of b ≡ symbol_class
separator_class b h =
    ⊎_elim
    (λ blank. ⊎_elim
    (λ some. ⊎_elim
    (λ more. ⊎_elim (λ e. at_byte b 32 e refl) (λ e. at_byte b 9 e refl) (or_cases (b == 32) (b == 9) more))
    (λ e. at_byte b 10 e refl)
    (or_cases (b == 32 || b == 9) (b == 10) some))
    (λ e. at_byte b 13 e refl)
    (or_cases (b == 32 || b == 9 || b == 10) (b == 13) blank))
    (λ e. at_byte b 35 e refl)
    (or_cases (is_blank b) (b == number_sign) h)

begins_symbol : (rest : List ℕ) (n : ℕ) → IsSymbol (take n rest) → separator (get_or rest 0 0) ≡ false
begins_symbol rest zero h = absurd h
begins_symbol [] (suc n) h = absurd h
begins_symbol (b ∷ bs) (suc n) h = no_symbol b (take n bs) h

begins : (rest : List ℕ) (n : ℕ) → IsLexeme (take n rest) → separator (get_or rest 0 0) ≡ true → ⊥
begins rest n l s = let no = begins_symbol rest n (only_symbol rest n (separator_class (get_or rest 0 0) s) l) in cc

-- ---- the tokens behind a front

pub record TokensFrom (text : List ℕ) (from : ℕ) (ws : List Word) : Type 0 where
  pub tokens : List Token
  pub follow : Follow text from tokens (length text)
  pub words : words_of text tokens ≡ ws

-- each byte of the front from a place on
abbrev AreBlank : List ℕ → ℕ → Type 0
AreBlank front from = (i : ℕ) → from ≤ i → i < length front → is_blank (get_or front i 0) ≡ true

blank_separator : (b : ℕ) → is_blank b ≡ true → separator b ≡ true
blank_separator b h = rw h refl

mark_separator : (b : ℕ) → b ≡ number_sign → separator b ≡ true
mark_separator b e = subst (λ x. separator x ≡ true) (sym e) refl

seam : (front rest : List ℕ) → get_or (front ++ rest) (length front) 0 ≡ get_or rest 0 0
seam front rest = ap (λ i. get_or (front ++ rest) i 0) (sym (add-zero (length front))) ∙ get_or-append-add front rest 0 0

blank_no_mark : (b : ℕ) → is_blank b ≡ true → b ≡ number_sign → ⊥
blank_no_mark b h e = cc (subst (λ x. is_blank x ≡ true) e h)

not_separated : (front rest : List ℕ) (from : ℕ) → AreBlank front from → (separator (get_or rest 0 0) ≡ true → ⊥) → Separates (front ++ rest) from (length front) → ⊥
not_separated front rest from blanks begun (inl h) = begun (blank_separator (get_or rest 0 0) (subst (λ b. is_blank b ≡ true) (seam front rest) h))
not_separated front rest from blanks begun (inr h) =
    ⊎_elim
    (λ before. blank_no_mark (get_or front h.0 0) (blanks h.0 h.1 before) (sym (get_or_append_left front rest 0 h.0 before) ∙ h.3))
    (λ here.
    let same : h.0 ≡ length front = omega (arith, h.2) in
    begun (mark_separator (get_or rest 0 0) (sym (seam front rest) ∙ ap (λ i. get_or (front ++ rest) i 0) (sym same) ∙ h.3)))
    (cases_lt h.0 (length front))

front_gap : (front rest : List ℕ) (from : ℕ) → from ≤ length front → AreBlank front from → (length front < length (front ++ rest) → separator (get_or rest 0 0) ≡ true → ⊥) → IsGap (front ++ rest) from (length front)
front_gap front rest from ordered blanks begun = record {
  ordered = ordered;
  within = omega (arith, length-append front rest);
  separates = λ i low high. inl (subst (λ b. is_blank b ≡ true) (sym (get_or_append_left front rest 0 i high)) (blanks i low high));
  ends = λ more separates. not_separated front rest from blanks (begun more) separates;
}

more_blank : (front : List ℕ) (b from : ℕ) → AreBlank front from → is_blank b ≡ true → AreBlank (front ++ b ∷ []) from
more_blank front b from blanks h i low high =
    ⊎_elim
    (λ before. subst (λ x. is_blank x ≡ true) (sym (get_or_append_left front (b ∷ []) 0 i before)) (blanks i low before))
    (λ here.
    let same : length front ≡ i = omega (arith, length-append front (b ∷ [])) in
    subst (λ x. is_blank x ≡ true) (sym (get_or_at front b [] 0 i same)) h)
    (cases_lt i (length front))

none_blank : (front : List ℕ) → AreBlank front (length front)
none_blank front i low high = absurd (omega arith)

abbrev placed : List ℕ → List ℕ → TokenKind → Token
placed front bytes k = record { start = length front; end = length (front ++ bytes); kind = k }

placed_length : (front bytes : List ℕ) → length (front ++ bytes) - length front ≡ length bytes
placed_length front bytes = omega (arith, length-append front bytes)

token_there : (front bytes rest : List ℕ) (k : TokenKind) → IsFront (bytes ++ rest) k (length bytes) → IsToken (front ++ (bytes ++ rest)) (placed front bytes k)
token_there front bytes rest k h = record {
  ordered = omega (arith, length-append front bytes, front_positive (bytes ++ rest) (length bytes) h.longest);
  front =
      subst (λ xs. IsFront xs k (length (front ++ bytes) - length front)) (sym (drop-append_seam front (bytes ++ rest)))
      (subst (λ n. IsFront (bytes ++ rest) k n) (sym (placed_length front bytes)) h);
}

word_there : (front bytes rest : List ℕ) (k : TokenKind) → word_of (front ++ (bytes ++ rest)) (placed front bytes k) ≡ word_in k bytes
word_there front bytes rest k =
    ap (λ xs. word_in k (take (length (front ++ bytes) - length front) xs)) (drop-append_seam front (bytes ++ rest))
    ∙ ap (λ n. word_in k (take n (bytes ++ rest))) (placed_length front bytes)
    ∙ ap (word_in k) (take-append_seam bytes rest)

behind_token : (front bytes rest : List ℕ) (k : TokenKind) (from : ℕ) (ws : List Word) → IsFront (bytes ++ rest) k (length bytes) → from ≤ length front → AreBlank front from
    → TokensFrom (front ++ (bytes ++ rest)) (length (front ++ bytes)) ws → TokensFrom (front ++ (bytes ++ rest)) from (word_in k bytes ∷ ws)
behind_token front bytes rest k from ws h ordered blanks then = record {
  tokens = placed front bytes k ∷ then.tokens;
  follow = (
    front_gap front (bytes ++ rest) from ordered blanks (λ more s. begins (bytes ++ rest) (length bytes) h.longest.lexeme s),
    token_there front bytes rest k h,
    then.follow,
  );
  words = λ i. word_there front bytes rest k i ∷ then.words i;
}

tokens_from : {rest : List ℕ} {ws : List Word} → Laid rest ws → (front : List ℕ) (from : ℕ) → from ≤ length front → AreBlank front from → TokensFrom (front ++ rest) from ws
tokens_from end front from ordered blanks =
    let same : length (front ++ []) ≡ length front = ap length (append-nil front) in
    record {
      tokens = [];
      follow = subst (IsGap (front ++ []) from) (sym same) (front_gap front [] from ordered blanks (λ more. absurd (omega arith)));
      words = refl;
    }
tokens_from (blank {rest} {ws} b h l) front from ordered blanks =
    subst (λ text. TokensFrom text from ws) (append_assoc front (b ∷ []) rest)
    (tokens_from l (front ++ b ∷ []) from (omega (arith, length-append front (b ∷ []))) (more_blank front b from blanks h))
tokens_from (token {rest} {ws} k bytes h l) front from ordered blanks =
    behind_token front bytes rest k from ws h ordered blanks
    (subst (λ text. TokensFrom text (length (front ++ bytes)) ws) (append_assoc front bytes rest)
    (tokens_from l (front ++ bytes) (length (front ++ bytes)) (omega arith) (none_blank (front ++ bytes))))

pub record Tokenized (text : List ℕ) (ws : List Word) : Type 0 where
  pub tokens : List Token
  pub lexed : AreTokens text tokens
  pub words : words_of text tokens ≡ ws

pub tokenized : (text : List ℕ) (ws : List Word) → IsUtf8 text → Laid text ws → Tokenized text ws
tokenized text ws utf8 l =
    let found = tokens_from l [] 0 (omega arith) (λ i low high. absurd (omega arith)) in
    record { tokens = found.tokens; lexed = record { utf8 = utf8; follow = found.follow }; words = found.words }
