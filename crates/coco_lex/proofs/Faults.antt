-- At the front of a rest stands one token, or one thing is wrong, and never both.
use Rattle.std.proofs.Common.{◌≡◌, ℕ, zero, suc, ◌+◌, ◌<◌, ◌≤◌, ⊎_elim, List, [], ◌∷◌, length, take, get_or, sym, refl, ap, ◌∙◌, subst, arith, add-one, length-take-le}
use Rattle.std.specs.Str.Parse.{digits_value}
use Rattle.std.proofs.lemmas.Bool.{cases_order}
use Rattle.coco_lex.specs.Bytes.{quote}
use Rattle.coco_lex.specs.Lexeme.{IsWord, IsDigits, IsQuoted, IsSymbol, IsLexeme, IsLongest}
use Rattle.coco_lex.specs.Tokens.{IsFront, IsOfKind, KeepsLimits}
use Rattle.coco_lex.specs.Refusal.{IsFault, IsClosed, IsBadAt, Opens}
use Rattle.coco_lex.specs.declared.token.TokenKind.{TokenKind}
use Rattle.coco_lex.specs.declared.token.TokenKind.TheVariants.{Keyword, Name, Number, Text, Symbol}
use Rattle.coco_lex.specs.declared.error.LexKind.{LexKind}
use Rattle.coco_lex.specs.declared.error.LexKind.TheVariants.{Utf8, Stray, LongName, WideNumber, OpenText, BadText, LongText}
use Rattle.coco_lex.proofs.Heads.{Class, class_of, word_class, digit_class, quote_class, symbol_class, class_of_symbol, only_text, no_empty}
use Rattle.coco_lex.proofs.Fronts.{word_class_of, digits_class_of, text_class_of, keywords_are_words}
use Rattle.coco_lex.proofs.Texts.{quoted_opens, quoted_closes, opens_rest, same_opens, no_more_at, no_more_bad_at}

pub longest_only : (rest : List ℕ) (m n : ℕ) → IsLongest rest m → IsLongest rest n → m ≡ n
longest_only rest m n p q =
    ⊎_elim
    (λ same. same)
    (λ other. ⊎_elim
    (λ less. absurd (p.longest n less q.within q.lexeme))
    (λ more. absurd (q.longest m more p.within p.lexeme))
    other)
    (cases_order m n)

abbrev class_for : TokenKind → Class
class_for Keyword = word_class
class_for Name = word_class
class_for Number = digit_class
class_for Text = quote_class
class_for Symbol = symbol_class

symbol_class_at : (bytes : List ℕ) → IsSymbol bytes → class_of (get_or bytes 0 0) ≡ symbol_class
symbol_class_at [] h = absurd h
symbol_class_at (b ∷ bs) h = class_of_symbol b bs h

kind_class : (bytes : List ℕ) (k : TokenKind) → IsOfKind k bytes → class_of (get_or bytes 0 0) ≡ class_for k
kind_class bytes Keyword h = word_class_of bytes (keywords_are_words bytes h)
kind_class bytes Name h = word_class_of bytes h.0
kind_class bytes Number h = digits_class_of bytes h
kind_class bytes Text h = text_class_of h.0 bytes h.1
kind_class bytes Symbol h = symbol_class_at bytes h

kind_only : (bytes : List ℕ) (k l : TokenKind) → IsOfKind k bytes → IsOfKind l bytes → k ≡ l
kind_only bytes Keyword Keyword g h = refl
kind_only bytes Keyword Name g h = absurd (h.1 g)
kind_only bytes Keyword Number g h = absurd (cc (kind_class bytes Keyword g, kind_class bytes Number h))
kind_only bytes Keyword Text g h = absurd (cc (kind_class bytes Keyword g, kind_class bytes Text h))
kind_only bytes Keyword Symbol g h = absurd (cc (kind_class bytes Keyword g, kind_class bytes Symbol h))
kind_only bytes Name Keyword g h = absurd (g.1 h)
kind_only bytes Name Name g h = refl
kind_only bytes Name Number g h = absurd (cc (kind_class bytes Name g, kind_class bytes Number h))
kind_only bytes Name Text g h = absurd (cc (kind_class bytes Name g, kind_class bytes Text h))
kind_only bytes Name Symbol g h = absurd (cc (kind_class bytes Name g, kind_class bytes Symbol h))
kind_only bytes Number Keyword g h = absurd (cc (kind_class bytes Number g, kind_class bytes Keyword h))
kind_only bytes Number Name g h = absurd (cc (kind_class bytes Number g, kind_class bytes Name h))
kind_only bytes Number Number g h = refl
kind_only bytes Number Text g h = absurd (cc (kind_class bytes Number g, kind_class bytes Text h))
kind_only bytes Number Symbol g h = absurd (cc (kind_class bytes Number g, kind_class bytes Symbol h))
kind_only bytes Text Keyword g h = absurd (cc (kind_class bytes Text g, kind_class bytes Keyword h))
kind_only bytes Text Name g h = absurd (cc (kind_class bytes Text g, kind_class bytes Name h))
kind_only bytes Text Number g h = absurd (cc (kind_class bytes Text g, kind_class bytes Number h))
kind_only bytes Text Text g h = refl
kind_only bytes Text Symbol g h = absurd (cc (kind_class bytes Text g, kind_class bytes Symbol h))
kind_only bytes Symbol Keyword g h = absurd (cc (kind_class bytes Symbol g, kind_class bytes Keyword h))
kind_only bytes Symbol Name g h = absurd (cc (kind_class bytes Symbol g, kind_class bytes Name h))
kind_only bytes Symbol Number g h = absurd (cc (kind_class bytes Symbol g, kind_class bytes Number h))
kind_only bytes Symbol Text g h = absurd (cc (kind_class bytes Symbol g, kind_class bytes Text h))
kind_only bytes Symbol Symbol g h = refl

pub front_only : (rest : List ℕ) (k l : TokenKind) (m n : ℕ) → IsFront rest k m → IsFront rest l n → (k ≡ l) × (m ≡ n)
front_only rest k l m n p q =
    let same = longest_only rest m n p.longest q.longest in
    (kind_only (take n rest) k l (subst (λ j. IsOfKind k (take j rest)) same p.kind_fits) q.kind_fits, same)

-- a lexeme behind a quote is a text with a closing quote
pub record TextAt (rest : List ℕ) (n : ℕ) : Type 0 where
  pub last : ℕ
  pub content : List ℕ
  pub len : n ≡ last + 1
  pub within : last < length rest
  pub opens : Opens rest last content
  pub at_quote : get_or rest last 0 ≡ quote

text_at : (rest : List ℕ) (n : ℕ) (c : List ℕ) → n ≤ length rest → IsQuoted c (take n rest) → TextAt rest n
text_at rest zero c w q = absurd (cc (q.spelling))
text_at rest (suc n) c w q =
    let o = quoted_opens rest n c w (rw add-one q) in
    record { last = n; content = c; len = sym (add-one n); within = w; opens = o.0; at_quote = o.1 }

text_of_lexeme : (rest : List ℕ) (n : ℕ) → get_or rest 0 0 ≡ quote → n ≤ length rest → IsLexeme (take n rest) → TextAt rest n
text_of_lexeme rest n q w l = let t = only_text rest n (ap class_of q) l in text_at rest n t.0 w t.1

text_closed : (rest : List ℕ) (n : ℕ) → TextAt rest n → IsClosed rest
text_closed rest n t = quoted_closes rest t.last t.content t.within t.opens t.at_quote

opens_quote : (rest : List ℕ) (n : ℕ) (c : List ℕ) → Opens rest n c → get_or rest 0 0 ≡ quote
opens_quote rest n c o = ap (λ l. get_or l 0 0) (opens_rest rest n c o)

quote_not_bad : (rest : List ℕ) (n : ℕ) → get_or rest n 0 ≡ quote → IsBadAt rest n → ⊥
quote_not_bad rest n q bad = ⊎_elim (λ control. omega arith) (λ wrong. omega (arith, wrong.0)) bad

text_not_bad : (rest : List ℕ) (n m : ℕ) (c : List ℕ) → TextAt rest n → Opens rest m c → IsBadAt rest m → ⊥
text_not_bad rest n m c t o bad =
    let same = same_opens rest t.last m t.content c t.opens o (no_more_at rest t.last t.at_quote) (no_more_bad_at rest m bad) in
    quote_not_bad rest m (sym (ap (λ j. get_or rest j 0) same.1) ∙ t.at_quote) bad

-- a lexeme at the front keeps no limit that the longest one breaks
short_word : (rest : List ℕ) (m n : ℕ) → IsLongest rest n → KeepsLimits (take n rest) → IsLongest rest m → IsWord (take m rest) → m ≤ 32
short_word rest m n p limits q w =
    let same = longest_only rest m n q p in
    omega (arith, limits.word (subst (λ j. IsWord (take j rest)) same w), length-take-le n rest p.within)

small_number : (rest : List ℕ) (m n : ℕ) → IsLongest rest n → KeepsLimits (take n rest) → IsLongest rest m → IsDigits (take m rest) → digits_value 10 (take m rest) ≤ 9223372036854775807
small_number rest m n p limits q d =
    let same = longest_only rest m n q p in
    subst (λ j. digits_value 10 (take j rest) ≤ 9223372036854775807) (sym same) (limits.number (subst (λ j. IsDigits (take j rest)) same d))

short_text : (rest : List ℕ) (m n : ℕ) (c : List ℕ) → IsLongest rest n → KeepsLimits (take n rest) → IsLongest rest m → IsQuoted c (take m rest) → length c ≤ 256
short_text rest m n c p limits q t =
    let same = longest_only rest m n q p in
    limits.text c (subst (λ j. IsQuoted c (take j rest)) same t)

pub front_no_fault : (rest : List ℕ) (k : TokenKind) (n : ℕ) (f : LexKind) (m : ℕ) → IsFront rest k n → IsFault rest f m → ⊥
front_no_fault rest k n Utf8 m p h = h
front_no_fault rest k n Stray m p h = h.2 n p.longest.lexeme
front_no_fault rest k n LongName m p h = omega (arith, short_word rest h.1.0 n p.longest p.limits h.1.1 h.1.2, h.1.3)
front_no_fault rest k n WideNumber m p h = omega (arith, small_number rest h.1.0 n p.longest p.limits h.1.1 h.1.2, h.1.3)
front_no_fault rest k n OpenText m p h = h.2 (text_closed rest n (text_of_lexeme rest n h.1 p.longest.within p.longest.lexeme))
front_no_fault rest k n BadText m p h = text_not_bad rest n m h.3.0 (text_of_lexeme rest n (opens_quote rest m h.3.0 h.3.1) p.longest.within p.longest.lexeme) h.3.1 h.2
front_no_fault rest k n LongText m p h = omega (arith, short_text rest h.1.0 n h.1.1 p.longest p.limits h.1.2 h.1.3, h.1.4)

first_taken : (rest : List ℕ) (m : ℕ) (c : Class) → class_of (get_or (take m rest) 0 0) ≡ c → IsLexeme (take m rest) → class_of (get_or rest 0 0) ≡ c
first_taken rest zero c h l = absurd (no_empty l)
first_taken [] (suc m) c h l = h
first_taken (b ∷ bs) (suc m) c h l = h

long_name_class : (rest : List ℕ) (n : ℕ) → IsFault rest LongName n → class_of (get_or rest 0 0) ≡ word_class
long_name_class rest n h = first_taken rest h.1.0 word_class (word_class_of (take h.1.0 rest) h.1.2) h.1.1.lexeme

wide_number_class : (rest : List ℕ) (n : ℕ) → IsFault rest WideNumber n → class_of (get_or rest 0 0) ≡ digit_class
wide_number_class rest n h = first_taken rest h.1.0 digit_class (digits_class_of (take h.1.0 rest) h.1.2) h.1.1.lexeme

open_text_class : (rest : List ℕ) (n : ℕ) → IsFault rest OpenText n → class_of (get_or rest 0 0) ≡ quote_class
open_text_class rest n h = ap class_of h.1

bad_text_class : (rest : List ℕ) (n : ℕ) → IsFault rest BadText n → class_of (get_or rest 0 0) ≡ quote_class
bad_text_class rest n h = ap class_of (opens_quote rest n h.3.0 h.3.1)

long_text_class : (rest : List ℕ) (n : ℕ) → IsFault rest LongText n → class_of (get_or rest 0 0) ≡ quote_class
long_text_class rest n h = first_taken rest h.1.0 quote_class (text_class_of h.1.1 (take h.1.0 rest) h.1.3) h.1.2.lexeme

open_not_long : (rest : List ℕ) (m n : ℕ) → IsFault rest OpenText m → IsFault rest LongText n → ⊥
open_not_long rest m n g h = g.2 (text_closed rest h.1.0 (text_at rest h.1.0 h.1.1 h.1.2.within h.1.3))

bad_not_long : (rest : List ℕ) (m n : ℕ) → IsFault rest BadText m → IsFault rest LongText n → ⊥
bad_not_long rest m n g h = text_not_bad rest h.1.0 m g.3.0 (text_at rest h.1.0 h.1.1 h.1.2.within h.1.3) g.3.1 g.2

one_bad_place : (rest : List ℕ) (m n : ℕ) → IsFault rest BadText m → IsFault rest BadText n → m ≡ n
one_bad_place rest m n g h = (same_opens rest m n g.3.0 h.3.0 g.3.1 h.3.1 (no_more_bad_at rest m g.2) (no_more_bad_at rest n h.2)).1

both_zero : (m n : ℕ) → m ≡ 0 → n ≡ 0 → m ≡ n
both_zero m n g h = g ∙ sym h

pub fault_only : (rest : List ℕ) (k l : LexKind) (m n : ℕ) → IsFault rest k m → IsFault rest l n → (k ≡ l) × (m ≡ n)
fault_only rest Utf8 Utf8 m n g h = absurd g
fault_only rest Utf8 Stray m n g h = absurd g
fault_only rest Utf8 LongName m n g h = absurd g
fault_only rest Utf8 WideNumber m n g h = absurd g
fault_only rest Utf8 OpenText m n g h = absurd g
fault_only rest Utf8 BadText m n g h = absurd g
fault_only rest Utf8 LongText m n g h = absurd g
fault_only rest Stray Utf8 m n g h = absurd h
fault_only rest Stray Stray m n g h = (refl, both_zero m n g.0 h.0)
fault_only rest Stray LongName m n g h = absurd (g.2 h.1.0 h.1.1.lexeme)
fault_only rest Stray WideNumber m n g h = absurd (g.2 h.1.0 h.1.1.lexeme)
fault_only rest Stray OpenText m n g h = absurd (g.1 h.1)
fault_only rest Stray BadText m n g h = absurd (g.1 (opens_quote rest n h.3.0 h.3.1))
fault_only rest Stray LongText m n g h = absurd (g.2 h.1.0 h.1.2.lexeme)
fault_only rest LongName Utf8 m n g h = absurd h
fault_only rest LongName Stray m n g h = absurd (h.2 g.1.0 g.1.1.lexeme)
fault_only rest LongName LongName m n g h = (refl, both_zero m n g.0 h.0)
fault_only rest LongName WideNumber m n g h = absurd (cc (long_name_class rest m g, wide_number_class rest n h))
fault_only rest LongName OpenText m n g h = absurd (cc (long_name_class rest m g, open_text_class rest n h))
fault_only rest LongName BadText m n g h = absurd (cc (long_name_class rest m g, bad_text_class rest n h))
fault_only rest LongName LongText m n g h = absurd (cc (long_name_class rest m g, long_text_class rest n h))
fault_only rest WideNumber Utf8 m n g h = absurd h
fault_only rest WideNumber Stray m n g h = absurd (h.2 g.1.0 g.1.1.lexeme)
fault_only rest WideNumber LongName m n g h = absurd (cc (wide_number_class rest m g, long_name_class rest n h))
fault_only rest WideNumber WideNumber m n g h = (refl, both_zero m n g.0 h.0)
fault_only rest WideNumber OpenText m n g h = absurd (cc (wide_number_class rest m g, open_text_class rest n h))
fault_only rest WideNumber BadText m n g h = absurd (cc (wide_number_class rest m g, bad_text_class rest n h))
fault_only rest WideNumber LongText m n g h = absurd (cc (wide_number_class rest m g, long_text_class rest n h))
fault_only rest OpenText Utf8 m n g h = absurd h
fault_only rest OpenText Stray m n g h = absurd (h.1 g.1)
fault_only rest OpenText LongName m n g h = absurd (cc (open_text_class rest m g, long_name_class rest n h))
fault_only rest OpenText WideNumber m n g h = absurd (cc (open_text_class rest m g, wide_number_class rest n h))
fault_only rest OpenText OpenText m n g h = (refl, both_zero m n g.0 h.0)
fault_only rest OpenText BadText m n g h = absurd (g.2 h.0)
fault_only rest OpenText LongText m n g h = absurd (open_not_long rest m n g h)
fault_only rest BadText Utf8 m n g h = absurd h
fault_only rest BadText Stray m n g h = absurd (h.1 (opens_quote rest m g.3.0 g.3.1))
fault_only rest BadText LongName m n g h = absurd (cc (bad_text_class rest m g, long_name_class rest n h))
fault_only rest BadText WideNumber m n g h = absurd (cc (bad_text_class rest m g, wide_number_class rest n h))
fault_only rest BadText OpenText m n g h = absurd (h.2 g.0)
fault_only rest BadText BadText m n g h = (refl, one_bad_place rest m n g h)
fault_only rest BadText LongText m n g h = absurd (bad_not_long rest m n g h)
fault_only rest LongText Utf8 m n g h = absurd h
fault_only rest LongText Stray m n g h = absurd (h.2 g.1.0 g.1.2.lexeme)
fault_only rest LongText LongName m n g h = absurd (cc (long_text_class rest m g, long_name_class rest n h))
fault_only rest LongText WideNumber m n g h = absurd (cc (long_text_class rest m g, wide_number_class rest n h))
fault_only rest LongText OpenText m n g h = absurd (open_not_long rest n m h g)
fault_only rest LongText BadText m n g h = absurd (bad_not_long rest n m h g)
fault_only rest LongText LongText m n g h = (refl, both_zero m n g.0 h.0)

pub front_positive : (rest : List ℕ) (n : ℕ) → IsLongest rest n → 0 < n
front_positive rest zero p = absurd (no_empty p.lexeme)
front_positive rest (suc n) p = omega arith
