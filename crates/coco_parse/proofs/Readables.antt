-- What is known of each token of a text.
use Rattle.std.proofs.Common.{◌≡◌, ℕ, zero, suc, ◌+◌, ◌-◌, ◌<◌, ◌≤◌, Bool, true, false, List, [], ◌∷◌, ◌++◌, inl, inr, length, take, drop, get_or, Some, IsUtf8, sym, refl, ap, ◌∙◌, subst, arith, append_assoc, length-append, length-drop, take-append-drop}
use Rattle.std.specs.Prelude.{slice_get}
use Rattle.std.proofs.Common.{◌&&◌, ◌||◌, ◌==◌, cond, ◌⊎◌, ⊎_elim}
use Rattle.std.proofs.Math.Bool.{Bool-set}
use Rattle.std.proofs.Math.Bridge.{le_prop}
use Rattle.std.proofs.Math.Logic.{∥∥₁_elim, ∥∥₁_map}
use Rattle.std.specs.Str.Parse.{AllDigits}
use Rattle.std.proofs.lemmas.Bool.{cases_Bool, le-leb, eqb-true, or_cases, and_from}
use Rattle.std.proofs.lemmas.List.{drop_more, take_at, drop_at, get_or_at}
use Rattle.std.proofs.lemmas.List.Sums.{list_all-from_AllPass}
use Rattle.std.proofs.lemmas.Str.{IsUtf8-append, IsUtf8-drop, IsUtf8-take, IsUtf8-had, IsUtf8-from_ascii, IsCharBoundary-before_ascii, IsCharBoundary-after_ascii}
use Rattle.std.specs.Str.{IsAscii}
use Rattle.coco_ast.specs.Words.{is_word, is_word_byte}
use Rattle.coco_lex.specs.Lexeme.{IsWord, IsQuoted, spelled}
use Rattle.coco_lex.specs.Tokens.{IsFront}
use Rattle.coco_lex.specs.declared.token.TokenKind.{TokenKind}
use Rattle.coco_lex.specs.declared.token.TokenKind.TheVariants as kind
use Rattle.coco_parse.specs.Readable.{Spells, IsReadable}
use Rattle.coco_parse.specs.Escapes.{unescaped, content}
use Rattle.coco_parse.proofs.Spellings.{unescape_escape, unescape_plain}
use Rattle.coco_lex.specs.Tokens.{Follow, IsToken, AreTokens}
use Rattle.coco_lex.specs.declared.token.Token.{Token}

follow_few : (text : List ℕ) (from : ℕ) (ts : List Token) (to : ℕ) → Follow text from ts to → from + length ts ≤ to
follow_few text from [] to f = omega (arith, f.ordered)
follow_few text from (t ∷ ts) to f = omega (arith, f.0.ordered, f.1.ordered, follow_few text t.end ts to f.2)

pub tokens_few : (text : List ℕ) (ts : List Token) → AreTokens text ts → length ts ≤ length text
tokens_few text ts h = omega (arith, follow_few text 0 ts (length text) h.follow)

token_in : (text : List ℕ) (from : ℕ) (ts : List Token) (to n : ℕ) (t : Token) → Follow text from ts to → slice_get ts n ≡ Some t → IsToken text t
token_in text from [] to n t f h = absurd (cc h)
token_in text from (u ∷ ts) to zero t f h = let e : u ≡ t = cc h in subst (IsToken text) e f.1
token_in text from (u ∷ ts) to (suc n) t f h = token_in text u.end ts to n t f.2 h

pub token_at : (text : List ℕ) (ts : List Token) (n : ℕ) (t : Token) → AreTokens text ts → slice_get ts n ≡ Some t → IsToken text t
token_at text ts n t h e = token_in text 0 ts (length text) n t h.follow e

-- ---- names

word_is : (bytes : List ℕ) → IsWord bytes → length bytes ≤ 32 → is_word bytes ≡ true
word_is [] h l = absurd h
word_is (b ∷ bs) h l = and_from _ _ (le-leb _ _ l) (and_from _ _ h.0 (list_all-from_AllPass is_word_byte bs h.1))

-- ---- numbers

digits_had : (ds : List ℕ) → ∥ AllDigits 10 ds ∥₁ → AllDigits 10 ds
digits_had [] h = tt
digits_had (d ∷ ds) h = (∥∥₁_elim h le_prop (λ a. a.0), digits_had ds (∥∥₁_map h (λ a. a.1)))

-- ---- texts

special_cases : (b : ℕ) → (b == 34 || b == 92) ≡ true → (b ≡ 34) ⊎ (b ≡ 92)
special_cases b h = ⊎_elim (λ e. inl (eqb-true b 34 e)) (λ e. inr (eqb-true b 92 e)) (or_cases _ _ h)

not_backslash : (b : ℕ) → (b == 34 || b == 92) ≡ false → b ≡ 92 → ⊥
not_backslash b h e = cc (subst (λ x. (x == 34 || x == 92) ≡ false) e h)

cons_tail : {x y : ℕ} {xs ys : List ℕ} → x ∷ xs ≡ y ∷ ys → xs ≡ ys
cons_tail e = cc e

drop_past : (plain : List ℕ) (b : ℕ) (bs : List ℕ) → drop (length plain + 1) (plain ++ b ∷ bs) ≡ bs
drop_past plain b bs = ap (λ l. drop (length plain + 1) l) (sym (append_assoc plain (b ∷ []) bs)) ∙ drop_at (plain ++ b ∷ []) bs (length plain + 1) (length-append plain (b ∷ []))

ascii_one : (b : ℕ) → b < 128 → IsAscii (b ∷ [])
ascii_one b h zero = h
ascii_one b h (suc i) = omega arith

unescaped_spelled : (c : List ℕ) → unescaped (spelled c) ≡ c
unescaped_spelled [] = refl
unescaped_spelled (b ∷ c) =
    ⊎_elim
    (λ s. let e : spelled (b ∷ c) ≡ 92 ∷ b ∷ spelled c = ap (λ t. cond t (92 ∷ b ∷ []) (b ∷ []) ++ spelled c) s in
    ap unescaped e ∙ unescape_escape 92 b (spelled c) refl ∙ ap (λ l. b ∷ l) (unescaped_spelled c))
    (λ p. let e : spelled (b ∷ c) ≡ b ∷ spelled c = ap (λ t. cond t (92 ∷ b ∷ []) (b ∷ []) ++ spelled c) p in
    ap unescaped e ∙ unescape_plain b (spelled c) (not_backslash b p) ∙ ap (λ l. b ∷ l) (unescaped_spelled c))
    (cases_Bool (b == 34 || b == 92))

pub quoted_content : (c bytes : List ℕ) → IsQuoted c bytes → content bytes ≡ c
quoted_content c bytes q =
    let sp = spelled c in
    let len : length bytes ≡ length sp + 2 = omega (arith, ap length q.spelling, length-append sp (34 ∷ [])) in
    let inner : take (length bytes - 2) (drop 1 bytes) ≡ sp = ap (λ l. take (length bytes - 2) (drop 1 l)) q.spelling ∙ take_at sp (34 ∷ []) (length bytes - 2) (omega (arith, len)) in
    ap unescaped inner ∙ unescaped_spelled c

pub quoted_long : (c bytes : List ℕ) → IsQuoted c bytes → 2 ≤ length bytes
quoted_long c bytes q = omega (arith, ap length q.spelling, length-append (spelled c) (34 ∷ []))

utf8_plain : (plain c : List ℕ) → IsUtf8 (plain ++ spelled c) → IsUtf8 (plain ++ c)
utf8_plain plain [] h = h
utf8_plain plain (b ∷ c) h =
    ⊎_elim
    (λ s.
    let e : plain ++ spelled (b ∷ c) ≡ plain ++ 92 ∷ b ∷ spelled c = ap (λ t. plain ++ (cond t (92 ∷ b ∷ []) (b ∷ []) ++ spelled c)) s in
    let whole = subst IsUtf8 e h in
    let all = plain ++ 92 ∷ b ∷ spelled c in
    let n = length plain in
    let at : get_or all n 0 ≡ 92 = get_or_at plain 92 (b ∷ spelled c) 0 n refl in
    let long : length all ≡ n + suc (suc (length (spelled c))) = length-append plain (92 ∷ b ∷ spelled c) in
    let front = subst IsUtf8 (take_at plain (92 ∷ b ∷ spelled c) n refl) (IsUtf8-take all n whole (IsCharBoundary-before_ascii all n (omega (arith, long)) (omega (arith, at)))) in
    let after : IsUtf8 (b ∷ spelled c) = subst IsUtf8 (drop_past plain 92 (b ∷ spelled c)) (IsUtf8-drop all (n + 1) whole (IsCharBoundary-after_ascii all n whole (omega (arith, long)) (omega (arith, at)))) in
    let small : b < 128 = ⊎_elim (λ q. omega (arith, q)) (λ k. omega (arith, k)) (special_cases b s) in
    let rest : IsUtf8 (spelled c) = IsUtf8-drop (b ∷ spelled c) 1 after (IsCharBoundary-after_ascii (b ∷ spelled c) 0 after (omega arith) small) in
    IsUtf8-append plain (b ∷ c) front (IsUtf8-append (b ∷ []) c (IsUtf8-from_ascii (b ∷ []) (ascii_one b small)) (utf8_plain [] c rest)))
    (λ p.
    let e : plain ++ spelled (b ∷ c) ≡ (plain ++ b ∷ []) ++ spelled c = ap (λ t. plain ++ (cond t (92 ∷ b ∷ []) (b ∷ []) ++ spelled c)) p ∙ sym (append_assoc plain (b ∷ []) (spelled c)) in
    subst IsUtf8 (append_assoc plain (b ∷ []) c) (utf8_plain (plain ++ b ∷ []) c (subst IsUtf8 e h)))
    (cases_Bool (b == 34 || b == 92))

spelled_utf8 : (c rest : List ℕ) → IsUtf8 (spelled c ++ 34 ∷ rest) → IsUtf8 c
spelled_utf8 c rest h =
    let sp = spelled c in
    let all = sp ++ 34 ∷ rest in
    let at : get_or all (length sp) 0 ≡ 34 = get_or_at sp 34 rest 0 (length sp) refl in
    let long : length all ≡ length sp + suc (length rest) = length-append sp (34 ∷ rest) in
    utf8_plain [] c (subst IsUtf8 (take_at sp (34 ∷ rest) (length sp) refl) (IsUtf8-take all (length sp) h (IsCharBoundary-before_ascii all (length sp) (omega (arith, long)) (omega (arith, at)))))

-- what is quoted within UTF-8 is UTF-8
pub quoted_utf8 : (text : List ℕ) (from n : ℕ) (c : List ℕ) → IsUtf8 text → from < length text → IsQuoted c (take n (drop from text)) → IsUtf8 c
quoted_utf8 text from n c u w q =
    let sp = spelled c in
    let rest = drop n (drop from text) in
    let here : drop from text ≡ 34 ∷ (sp ++ 34 ∷ rest) = sym (take-append-drop n (drop from text)) ∙ ap (λ l. l ++ rest) q.spelling ∙ ap (λ l. 34 ∷ l) (append_assoc sp (34 ∷ []) rest) in
    let first : get_or text from 0 ≡ 34 = ap (λ l. get_or l 0 0) (sym (drop_more text from 0 w) ∙ here) in
    let behind : IsUtf8 (drop (from + 1) text) = IsUtf8-drop text (from + 1) u (IsCharBoundary-after_ascii text from u w (omega (arith, first))) in
    spelled_utf8 c rest (subst IsUtf8 (cons_tail (sym (drop_more text from 0 w) ∙ here)) behind)

-- ---- tokens

kind_spells : (k : TokenKind) (text : List ℕ) (from n : ℕ) → IsUtf8 text → ∥ (from < length text) × IsFront (drop from text) k n ∥₁ → Spells k (take n (drop from text))
kind_spells kind.Keyword text from n u h = tt
kind_spells kind.Symbol text from n u h = tt
kind_spells kind.Name text from n u h = ∥∥₁_elim h (Bool-set _ _) (λ f. word_is _ f.1.kind_fits.0 (f.1.limits.word f.1.kind_fits.0))
kind_spells kind.Number text from n u h = (
  (∥∥₁_elim h le_prop (λ f. f.1.kind_fits.0), digits_had _ (∥∥₁_map h (λ f. f.1.kind_fits.1))),
  ∥∥₁_elim h le_prop (λ f. f.1.limits.number f.1.kind_fits),
)
kind_spells kind.Text text from n u h = (
  ∥∥₁_elim h le_prop (λ f. quoted_long f.1.kind_fits.0 _ f.1.kind_fits.1),
  ∥∥₁_elim h le_prop (λ f. omega (arith, f.1.limits.text f.1.kind_fits.0 f.1.kind_fits.1, ap length (quoted_content f.1.kind_fits.0 _ f.1.kind_fits.1))),
  IsUtf8-had _ (∥∥₁_map h (λ f. subst IsUtf8 (sym (quoted_content f.1.kind_fits.0 _ f.1.kind_fits.1)) (quoted_utf8 text from n f.1.kind_fits.0 u f.0 f.1.kind_fits.1))),
)

token_within : (text : List ℕ) (t : Token) → IsToken text t → t.end ≤ length text
token_within text t h = omega (arith, h.ordered, h.front.longest.within, length-drop t.start text)

pub readable : (text : List ℕ) (ts : List Token) (n : ℕ) (t : Token) → ∥ AreTokens text ts ∥₁ → slice_get ts n ≡ Some t → IsReadable text t
readable text ts n t h e =
    let token : ∥ IsToken text t ∥₁ = ∥∥₁_map h (λ a. token_at text ts n t a e) in
    record {
      ordered = ∥∥₁_elim token le_prop (λ a. omega (arith, a.ordered));
      within = ∥∥₁_elim token le_prop (λ a. token_within text t a);
      spells = kind_spells t.kind text t.start (t.end - t.start) (IsUtf8-had text (∥∥₁_map h (λ a. a.utf8))) (∥∥₁_map token (λ a. (omega (arith, a.ordered, token_within text t a), a.front)));
    }
