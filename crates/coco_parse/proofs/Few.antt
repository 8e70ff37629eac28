-- A text's length bounds how many tables, procedures and statements its tree has, and the limits its parameters.
use Rattle.std.proofs.Common.{◌≡◌, ℕ, suc, ◌+◌, ◌-◌, ◌*◌, ◌^◌, ◌<◌, ◌≤◌, inr, Bool, true, false, if◌then◌else◌, nat_le, nat_eq, List, [], ◌∷◌, ◌++◌, length, take, drop, refl, sym, ap, ◌∙◌, subst, arith, append_assoc, length-append, length-take, leb-true, ⊎_elim}
use Rattle.std.specs.List.{list_all, list_any, filter, All}
use Rattle.std.specs.Cmp.Lexicographic.{pointwise, bytes_decides}
use Rattle.std.proofs.lemmas.Bool.{and_parts, or_from, or_left, or_right, cases_lt, cond-true, cond-false}
use Rattle.std.proofs.lemmas.List.Elements.{All-nil, All-cons, filter-append}
use Rattle.std.proofs.lemmas.List.Folds.{list_any-append}
use Rattle.coco_ast.specs.Checks.{IsWithinLimits, and_within, in_order, statements_in}
use Rattle.coco_ast.specs.Tree.{Statement, Statements, Procedure, Procedures}
use Rattle.coco_lex.specs.Tokens.{Follow, AreTokens, IsToken}
use Rattle.coco_lex.specs.declared.token.Token.{Token}
use Rattle.coco_lex.specs.declared.token.TokenKind.{TokenKind}
use Rattle.coco_lex.specs.declared.token.TokenKind.TheVariants as kind
use Rattle.coco_parse.specs.Grammar as grammar
use Rattle.coco_parse.specs.Grammar.{IsStatement, sets, gets, puts, deletes, tests, chooses, repeats, refuses, replies, IsBlock, braces, AreStatements, end, next, AreListed, last, listed, AreParams, none, some, IsProcedure, procedure, IsFile, table, proc}
use Rattle.coco_parse.specs.Limits.{is_proc, is_name, closes_list, since, count, header_names}
use Rattle.coco_parse.specs.Refusal.{KeepLimits, IsTreeOf}
use Rattle.coco_parse.specs.Wording.{keyword_words, symbol_words, spelled_by, word_in, word_of, words_of}
use Rattle.coco_parse.specs.declared.error.ParseKind.TheVariants.{TooMany}
use Rattle.coco_parse.specs.declared.word.Word.{Word}
use Rattle.coco_parse.specs.declared.word.Word.TheVariants as word
use Rattle.coco_parse.specs.declared.word.Word.TheVariants.{OpenParen, CloseParen, OpenBrace, CloseBrace, Comma, Semicolon}

-- ---- the bytes that words take

-- how many bytes a word takes at least
abbrev bytes_of : Word → ℕ
bytes_of word.Table = 5
bytes_of _ = 1

abbrev bytes_in : List Word → ℕ
bytes_in [] = 0
bytes_in (w ∷ ws) = bytes_of w + bytes_in ws

bytes_in-append : (us vs : List Word) → bytes_in (us ++ vs) ≡ bytes_in us + bytes_in vs
bytes_in-append [] vs = omega arith
bytes_in-append (u ∷ us) vs = omega (arith, bytes_in-append us vs)

word_bytes : (w : Word) → 1 ≤ bytes_of w
word_bytes word.Table = omega arith
word_bytes _ = omega arith

length-le-bytes_in : (ws : List Word) → length ws ≤ bytes_in ws
length-le-bytes_in [] = omega arith
length-le-bytes_in (w ∷ ws) = omega (arith, word_bytes w, length-le-bytes_in ws)

-- ---- the bytes of tokens

-- a fixed word's spelling has that many
abbrev is_long : List ℕ × Word → Bool
is_long row = nat_le (bytes_of row.1) (length row.0)

row_bytes : (row : List ℕ × Word) (w : Word) (bytes : List ℕ) → is_long row ≡ true → bytes_of w ≤ length bytes → (b : Bool) → pointwise nat_eq row.0 bytes ≡ b
    → bytes_of (if b then row.1 else w) ≤ length bytes
row_bytes row w bytes long rest true same = omega (arith, leb-true (bytes_of row.1) (length row.0) long, ap length ((bytes_decides row.0 bytes).0 same))
row_bytes row w bytes long rest false other = rest

spelled_bytes : (rows : List (List ℕ × Word)) (bytes : List ℕ) → list_all is_long rows ≡ true → 1 ≤ length bytes → bytes_of (spelled_by rows bytes) ≤ length bytes
spelled_bytes [] bytes long h = h
spelled_bytes (row ∷ rows) bytes long h =
    let parts = and_parts (is_long row) (list_all is_long rows) long in
    row_bytes row (spelled_by rows bytes) bytes parts.0 (spelled_bytes rows bytes parts.1 h) (pointwise nat_eq row.0 bytes) refl

slice_bytes : (k : TokenKind) (bytes : List ℕ) → 1 ≤ length bytes → bytes_of (word_in k bytes) ≤ length bytes
slice_bytes kind.Keyword bytes h = spelled_bytes keyword_words bytes refl h
slice_bytes kind.Name bytes h = h
slice_bytes kind.Number bytes h = h
slice_bytes kind.Text bytes h = h
slice_bytes kind.Symbol bytes h = spelled_bytes symbol_words bytes refl h

token_bytes : (text : List ℕ) (t : Token) → IsToken text t → t.start + bytes_of (word_of text t) ≤ t.end
token_bytes text t is =
    let slice = take (t.end - t.start) (drop t.start text) in
    let size : length slice ≡ t.end - t.start = omega (arith, length-take (t.end - t.start) (drop t.start text), is.front.longest.within) in
    let most : bytes_of (word_of text t) ≤ length slice = slice_bytes t.kind slice (omega (arith, is.ordered)) in
    omega (arith, is.ordered)

follow_bytes : (text : List ℕ) (from to : ℕ) (ts : List Token) → Follow text from ts to → from + bytes_in (words_of text ts) ≤ to
follow_bytes text from to [] gap = omega (arith, gap.ordered)
follow_bytes text from to (t ∷ ts) f = omega (arith, f.0.ordered, token_bytes text t f.1, follow_bytes text t.end to ts f.2)

-- ---- statements

mutual
  statement_few : {us : List Word} {s : Statement} → IsStatement us s → (n : ℕ) → length (and_within n s) ≤ length us
  statement_few (sets h) n = omega arith
  statement_few (gets h) n = omega arith
  statement_few (puts h i) n = omega arith
  statement_few (deletes h) n = omega arith
  statement_few (tests {us = us} {vs = vs} h b) n = omega (arith, length-append us vs, block_few b n)
  statement_few (chooses {us = us} {vs = vs} {ws = ws} {yes = first} {no = other} h b c) n =
      omega (arith, length-append (us ++ vs) (word.Else ∷ ws), length-append us vs, length-append (in_order n first) (in_order n other), block_few b n, block_few c n)
  statement_few (repeats {n = m} b) n = omega (arith, block_few b (n * m))
  statement_few refuses n = omega arith
  statement_few (replies h) n = omega arith

  block_few : {ws : List Word} {body : Statements} → IsBlock ws body → (n : ℕ) → length (in_order n body) ≤ length ws
  block_few (braces {ws = ws} h) n = omega (arith, length-append ws (CloseBrace ∷ []), statements_few h n)

  statements_few : {ws : List Word} {body : Statements} → AreStatements ws body → (n : ℕ) → length (in_order n body) ≤ length ws
  statements_few end n = omega arith
  statements_few (next {us = us} {vs = vs} {first = first} {rest = rest} h t) n =
      omega (arith, length-append us vs, length-append (and_within n first) (in_order n rest), statement_few h n, statements_few t n)

procedure_statements : {us : List Word} {p : Procedure} → IsProcedure us p → length (statements_in p) ≤ length us
procedure_statements (procedure {us = us} {vs = vs} h b) = omega (arith, length-append (us ++ CloseParen ∷ []) vs, length-append us (CloseParen ∷ vs), block_few b 1)

file_statements : {ws : List Word} {tables : List (List ℕ)} {procs : List Procedure} → IsFile ws tables procs → (n : ℕ) → length ws < n → All (λ p. length (statements_in p) < n) procs
file_statements grammar.IsFile.nothing n h = All-nil (λ (p : Procedure). length (statements_in p) < n)
file_statements (table f) n h = file_statements f n (omega arith)
file_statements (proc {p = p} {us = us} {vs = vs} {procs = procs} i f) n h =
    All-cons (λ (q : Procedure). length (statements_in q) < n) p procs (omega (arith, length-append us vs, procedure_statements i)) (file_statements f n (omega (arith, length-append us vs)))

-- ---- tables and procedures

block_bytes : {ws : List Word} {body : Statements} → IsBlock ws body → 2 ≤ bytes_in ws
block_bytes (braces {ws = ws} h) = omega (arith, bytes_in-append ws (CloseBrace ∷ []))

procedure_bytes : {us : List Word} {p : Procedure} → IsProcedure us p → 6 ≤ bytes_in us
procedure_bytes (procedure {us = us} {vs = vs} h b) = omega (arith, bytes_in-append us (CloseParen ∷ vs), block_bytes b)

file_bytes : {ws : List Word} {tables : List (List ℕ)} {procs : List Procedure} → IsFile ws tables procs → 7 * length tables + 6 * length procs ≤ bytes_in ws
file_bytes grammar.IsFile.nothing = omega arith
file_bytes (table f) = omega (arith, file_bytes f)
file_bytes (proc {us = us} {vs = vs} i f) = omega (arith, bytes_in-append us vs, procedure_bytes i, file_bytes f)

-- ---- parameters

any_behind : (is : Word → Bool) (front : List Word) (w : Word) (vs : List Word) → is w ≡ true → list_any is (front ++ w ∷ vs) ≡ true
any_behind is [] w vs h = or_left (is w) (list_any is vs) h
any_behind is (v ∷ front) w vs h = or_right (is v) (list_any is (front ++ w ∷ vs)) (any_behind is front w vs h)

since_behind : (is : Word → Bool) (front : List Word) (w : Word) (vs : List Word) → is w ≡ true → list_any is vs ≡ false → since is (front ++ w ∷ vs) ≡ vs
since_behind is [] w vs h later = cond-false _ _ _ later ∙ cond-true _ _ _ h
since_behind is (v ∷ front) w vs h later = cond-true _ _ _ (any_behind is front w vs h) ∙ since_behind is front w vs h later

-- the words behind a `proc` whose list of parameters isn't closed yet, with so many names
record IsHeader (vs : List Word) (n : ℕ) : Type 0 where
  one : list_any is_proc vs ≡ false
  unclosed : list_any closes_list vs ≡ false
  names : count is_name vs ≡ n

joined : (us vs : List Word) (m n : ℕ) → IsHeader us m → IsHeader vs n → IsHeader (us ++ vs) (m + n)
joined us vs m n h i = record {
  one = list_any-append is_proc us vs ∙ or_from _ _ h.one i.one;
  unclosed = list_any-append closes_list us vs ∙ or_from _ _ h.unclosed i.unclosed;
  names = ap length (filter-append is_name us vs) ∙ omega (arith, length-append (filter is_name us) (filter is_name vs), h.names, i.names);
}

header_count : (front vs : List Word) (n : ℕ) → IsHeader vs n → header_names (front ++ word.Proc ∷ vs) ≡ n
header_count front vs n h =
    ap (λ us. if list_any closes_list us then 0 else count is_name us) (since_behind is_proc front word.Proc vs refl h.one)
    ∙ cond-false _ _ _ h.unclosed ∙ h.names

take_front : (front : List Word) (w : Word) (rest : List Word) → take (suc (length front)) (front ++ w ∷ rest) ≡ front ++ w ∷ []
take_front [] w rest = refl
take_front (v ∷ front) w rest = ap (λ us. v ∷ us) (take_front front w rest)

module _ (ws : List Word) (limits : KeepLimits ws (length ws)) where
  -- at each name the header has no more than 17 names
  few_names : (front : List Word) (name : List ℕ) (rest : List Word) → ws ≡ front ++ word.Name name ∷ rest → header_names (front ++ word.Name name ∷ []) ≤ 17
  few_names front name rest e =
      let within : length front < length ws = omega (arith, ap length e, length-append front (word.Name name ∷ rest)) in
      let so_far : take (suc (length front)) ws ≡ front ++ word.Name name ∷ [] = ap (take (suc (length front))) e ∙ take_front front (word.Name name) rest in
      ⊎_elim
      (λ less. absurd (limits (length front) within TooMany (inr ((front, word.Name name, so_far, refl), subst (λ us. 17 < header_names us) (sym so_far) less))))
      (λ few. few)
      (cases_lt 17 (header_names (front ++ word.Name name ∷ [])))

  module _ (front : List Word) where
    one_more : (vs : List Word) (n : ℕ) → IsHeader vs n → (name : List ℕ) (rest : List Word) → ws ≡ front ++ word.Proc ∷ (vs ++ word.Name name ∷ rest) → n + 1 ≤ 17
    one_more vs n h name rest e =
        let header : IsHeader (vs ++ word.Name name ∷ []) (n + 1) = joined vs (word.Name name ∷ []) n 1 h (record { one = refl; unclosed = refl; names = refl }) in
        subst (λ k. k ≤ 17)
        (ap header_names (append_assoc front (word.Proc ∷ vs) (word.Name name ∷ [])) ∙ header_count front (vs ++ word.Name name ∷ []) (n + 1) header)
        (few_names (front ++ word.Proc ∷ vs) name rest (e ∙ sym (append_assoc front (word.Proc ∷ vs) (word.Name name ∷ rest))))

    listed_few : {us : List Word} {names : List (List ℕ)} → AreListed us names → (vs : List Word) (n : ℕ) → IsHeader vs n → (rest : List Word)
        → ws ≡ front ++ word.Proc ∷ (vs ++ (us ++ rest)) → n + length names ≤ 17
    listed_few (last {name = name}) vs n h rest e = one_more vs n h name rest e
    listed_few (listed {name = name} {ws = us} {names = names} l) vs n h rest e =
        let header : IsHeader (vs ++ word.Name name ∷ Comma ∷ []) (n + 1) = joined vs (word.Name name ∷ Comma ∷ []) n 1 h (record { one = refl; unclosed = refl; names = refl }) in
        omega (arith, listed_few l (vs ++ word.Name name ∷ Comma ∷ []) (n + 1) header rest (e ∙ ap (λ r. front ++ word.Proc ∷ r) (sym (append_assoc vs (word.Name name ∷ Comma ∷ []) (us ++ rest)))))

    params_few : {us : List Word} {p : Procedure} → IsProcedure us p → (rest : List Word) → ws ≡ front ++ (us ++ rest) → length p.params ≤ 16
    params_few (procedure none b) rest e = omega arith
    params_few (procedure {name = name} {us = us} {vs = vs} (some l) b) rest e =
        omega (
          arith,
          listed_few l (word.Name name ∷ OpenParen ∷ []) 1 (record { one = refl; unclosed = refl; names = refl }) (CloseParen ∷ vs ++ rest)
              (e ∙ ap (λ r. front ++ word.Proc ∷ word.Name name ∷ OpenParen ∷ r) (append_assoc us (CloseParen ∷ vs) rest)),
        )

  file_params : {us : List Word} {tables : List (List ℕ)} {procs : List Procedure} → IsFile us tables procs → (front : List Word) → ws ≡ front ++ us
      → All (λ p. length p.params ≤ 16) procs
  file_params grammar.IsFile.nothing front e = All-nil (λ (p : Procedure). length p.params ≤ 16)
  file_params (table {name = name} {ws = us} f) front e =
      let before = word.Table ∷ word.Name name ∷ Semicolon ∷ [] in
      file_params f (front ++ before) (e ∙ sym (append_assoc front before us))
  file_params (proc {p = p} {us = us} {vs = vs} {procs = procs} i f) front e =
      All-cons (λ (q : Procedure). length q.params ≤ 16) p procs (params_few front i vs e) (file_params f (front ++ us) (e ∙ sym (append_assoc front us vs)))

-- ---- trees

pub few : (text : List ℕ) (ts : List Token) (t : Procedures) → length text ≤ 262144 → AreTokens text ts → IsTreeOf (words_of text ts) t
    → IsWithinLimits t × All (λ p. length (statements_in p) < 2 ^ 32) t.procs
few text ts t small tokens is =
    let ws = words_of text ts in
    let most : bytes_in ws ≤ length text = omega (arith, follow_bytes text 0 (length text) ts tokens.follow) in
    let items : 7 * length t.tables + 6 * length t.procs ≤ bytes_in ws = file_bytes is.text in
    let words : length ws < 2 ^ 32 = omega (arith, length-le-bytes_in ws) in
    (record { tables = omega arith; procs = omega arith; params = file_params ws is.limits is.text [] refl }, file_statements is.text (2 ^ 32) words)
