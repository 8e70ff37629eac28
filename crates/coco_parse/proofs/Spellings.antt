-- What tokens stand for.
use Rattle.std.proofs.Common.{◌≡◌, ℕ, ◌+◌, ◌<◌, ◌≤◌, Bool, true, false, cond, nat_eq, ◌==◌, List, [], ◌∷◌, length, drop, get_or, sym, refl, ap, ◌∙◌, arith}
use Rattle.std.proofs.lemmas.Bool.{ne_eqb, eq-eqb, eqb-false}
use Rattle.std.proofs.lemmas.List.{drop_more, drop_all}
use Rattle.std.specs.Cmp.Lexicographic.{pointwise, bytes_decides}
use Rattle.coco_parse.specs.Escapes.{unescaped}
use Rattle.coco_parse.specs.Wording.{keyword_words, spelled_by, of_length}
use Rattle.coco_parse.specs.declared.word.Word.{Word}
use Rattle.coco_parse.specs.declared.word.Word.TheVariants.{None}

-- ---- escapes

pub unescape_escape : (b c : ℕ) (bs : List ℕ) → b ≡ 92 → unescaped (b ∷ c ∷ bs) ≡ c ∷ unescaped bs
unescape_escape b c bs h = let e : (b == 92) ≡ true = eq-eqb b 92 h in rw e refl

pub unescape_plain : (b : ℕ) (bs : List ℕ) → (b ≡ 92 → ⊥) → unescaped (b ∷ bs) ≡ b ∷ unescaped bs
unescape_plain b [] h = refl
unescape_plain b (c ∷ bs) h = let e : (b == 92) ≡ false = ne_eqb b 92 h in rw e refl

pub unescaped_escape : (bytes : List ℕ) (n : ℕ) → n + 1 < length bytes → get_or bytes n 0 ≡ 92 → unescaped (drop n bytes) ≡ get_or bytes (n + 1) 0 ∷ unescaped (drop (n + 1 + 1) bytes)
unescaped_escape bytes n h b =
    let first = drop_more bytes n 0 (omega arith) in
    let second = drop_more bytes (n + 1) 0 h in
    ap unescaped (first ∙ ap (λ l. get_or bytes n 0 ∷ l) second) ∙ unescape_escape (get_or bytes n 0) (get_or bytes (n + 1) 0) (drop (n + 1 + 1) bytes) b

pub unescaped_plain : (bytes : List ℕ) (n : ℕ) → n < length bytes → (get_or bytes n 0 ≡ 92 → ⊥) → unescaped (drop n bytes) ≡ get_or bytes n 0 ∷ unescaped (drop (n + 1) bytes)
unescaped_plain bytes n h b = ap unescaped (drop_more bytes n 0 h) ∙ unescape_plain (get_or bytes n 0) (drop (n + 1) bytes) b

pub unescaped_last : (bytes : List ℕ) (n : ℕ) → n < length bytes → length bytes ≤ n + 1 → unescaped (drop n bytes) ≡ get_or bytes n 0 ∷ unescaped (drop (n + 1) bytes)
unescaped_last bytes n h l =
    let none = drop_all (n + 1) bytes l in
    ap unescaped (drop_more bytes n 0 h ∙ ap (λ t. get_or bytes n 0 ∷ t) none) ∙ ap (λ t. get_or bytes n 0 ∷ unescaped t) (sym none)

-- ---- spellings of one length

same_length : (xs ys : List ℕ) (b : Bool) → pointwise nat_eq xs ys ≡ b → (length xs ≡ length ys → ⊥) → b ≡ false
same_length xs ys true e h = absurd (h (ap length ((bytes_decides xs ys).0 e)))
same_length xs ys false e h = refl

-- only the rows of its length tell how bytes are spelled
pub spelled_length : (rows : List (List ℕ × Word)) (bytes : List ℕ) (n : ℕ) → length bytes ≡ n → spelled_by rows bytes ≡ spelled_by (of_length n rows) bytes
spelled_length [] bytes n e = refl
spelled_length (row ∷ rows) bytes n e = by_case (nat_eq (length row.0) n) refl (spelled_length rows bytes n e)
  where
    by_case : (b : Bool) → nat_eq (length row.0) n ≡ b → spelled_by rows bytes ≡ spelled_by (of_length n rows) bytes → spelled_by (row ∷ rows) bytes ≡ spelled_by (cond b (row ∷ of_length n rows) (of_length n rows)) bytes
    by_case true h later = ap (cond (pointwise nat_eq row.0 bytes) row.1) later
    by_case false h later =
        let other = same_length row.0 bytes (pointwise nat_eq row.0 bytes) refl (λ k. eqb-false (length row.0) n h (k ∙ e)) in
        ap (λ b. cond b row.1 (spelled_by rows bytes)) other ∙ later

-- a keyword has two to six bytes
pub no_keyword : (bytes : List ℕ) → (length bytes ≡ 2 → ⊥) → (length bytes ≡ 3 → ⊥) → (length bytes ≡ 4 → ⊥) → (length bytes ≡ 5 → ⊥) → (length bytes ≡ 6 → ⊥) → spelled_by keyword_words bytes ≡ None
no_keyword bytes two three four five six =
    let n = length bytes in
    let a : nat_eq 2 n ≡ false = ne_eqb 2 n (λ e. two (sym e)) in
    let b : nat_eq 3 n ≡ false = ne_eqb 3 n (λ e. three (sym e)) in
    let c : nat_eq 4 n ≡ false = ne_eqb 4 n (λ e. four (sym e)) in
    let d : nat_eq 5 n ≡ false = ne_eqb 5 n (λ e. five (sym e)) in
    let f : nat_eq 6 n ≡ false = ne_eqb 6 n (λ e. six (sym e)) in
    spelled_length keyword_words bytes n refl ∙ ap (λ rows. spelled_by rows bytes) (none_left n a b c d f)
  where
    none_left : (n : ℕ) → nat_eq 2 n ≡ false → nat_eq 3 n ≡ false → nat_eq 4 n ≡ false → nat_eq 5 n ≡ false → nat_eq 6 n ≡ false → of_length n keyword_words ≡ []
    none_left n a b c d f = rw a (rw b (rw c (rw d (rw f refl))))
