-- What a text's content is, and where its closing quote stands, are fixed by its bytes.
use Rattle.std.proofs.Common.{◌≡◌, ℕ, zero, suc, ◌+◌, ◌-◌, ◌%◌, ◌<◌, ◌≤◌, Bool, true, false, not, ◌&&◌, ◌||◌, ◌==◌, nat_eq, ◌⊎◌, inl, inr, ⊎_elim, List, [], ◌∷◌, ◌++◌, length, take, drop, get_or, sym, refl, ap, ◌∙◌, subst, arith, add-one, add-zero, add_comm, append_assoc, append-nil, length-append, length-take, length-take-le, length-drop, take-append-drop, get_or-take, get_or-drop, take-take, take_all}
use Rattle.std.specs.Prelude.{All}
use Rattle.std.specs.List.{suffix_len}
use Rattle.std.proofs.lemmas.Bool.{cases_Bool, or_cases, eqb-true, ne_eqb, eq-eqb, cases_lt, cases_eq}
use Rattle.std.proofs.lemmas.List.{take_more, same_from_push, reverse-append, get_or_append_left, take-append-le, get_or_at, take_at, flat_map_more}
use Rattle.std.proofs.lemmas.List.Elements.{All-head, All-tail, All-nil, All-push}
use Rattle.coco_lex.specs.Bytes.{quote, backslash, is_backslash}
use Rattle.coco_lex.specs.Lexeme.{escaped, spelled, IsQuoted, IsLongest, of_text}
use Rattle.coco_lex.specs.declared.error.LexKind.TheVariants.{BadText, LongText}
use Rattle.coco_lex.proofs.Heads.{class_of, quote_class, only_text}
use Rattle.coco_lex.proofs.Fronts.{word_class_of, digits_class_of, text_class_of}
use Rattle.coco_lex.specs.Tokens.{IsFront, KeepsLimits}
use Rattle.coco_lex.specs.declared.token.TokenKind.TheVariants.{Text}
use Rattle.coco_lex.specs.Refusal.{Opens, IsBadAt, ClosesAt, IsClosed, IsFault, backslashes_before}
use Rattle.coco_lex.specs.Steps.{IsPart, IsContent}

-- a byte that is written behind a backslash
abbrev special : ℕ → Bool
special b = b == quote || b == backslash

escaped_special : (b : ℕ) → special b ≡ true → escaped b ≡ backslash ∷ b ∷ []
escaped_special b h = rw h refl

escaped_plain : (b : ℕ) → special b ≡ false → escaped b ≡ b ∷ []
escaped_plain b h = rw h refl

not_quote : (b : ℕ) → special b ≡ false → b ≡ quote → ⊥
not_quote b h e = cc (subst (λ x. special x ≡ false) e h)

not_backslash : (b : ℕ) → special b ≡ false → b ≡ backslash → ⊥
not_backslash b h e = cc (subst (λ x. special x ≡ false) e h)

special_cases : (b : ℕ) → special b ≡ true → (b ≡ quote) ⊎ (b ≡ backslash)
special_cases b h = ⊎_elim (λ e. inl (eqb-true b quote e)) (λ e. inr (eqb-true b backslash e)) (or_cases _ _ h)

-- one byte of the content can be read in one way
escaped_cancel : (a b : ℕ) (s t : List ℕ) → escaped a ++ s ≡ escaped b ++ t → (a ≡ b) × (s ≡ t)
escaped_cancel a b s t e =
    ⊎_elim
    (λ sa. ⊎_elim
    (λ sb. let f : backslash ∷ a ∷ s ≡ backslash ∷ b ∷ t = rw (escaped_special a sa, escaped_special b sb) at e in (cc f, cc f))
    (λ pb. let f : backslash ∷ a ∷ s ≡ b ∷ t = rw (escaped_special a sa, escaped_plain b pb) at e in absurd (not_backslash b pb (cc f)))
    (cases_Bool (special b)))
    (λ pa. ⊎_elim
    (λ sb. let f : a ∷ s ≡ backslash ∷ b ∷ t = rw (escaped_plain a pa, escaped_special b sb) at e in absurd (not_backslash a pa (cc f)))
    (λ pb. let f : a ∷ s ≡ b ∷ t = rw (escaped_plain a pa, escaped_plain b pb) at e in (cc f, cc f))
    (cases_Bool (special b)))
    (cases_Bool (special a))

-- no further byte of a content is spelled at the front
abbrev pub NoMore : List ℕ → Type 0
NoMore xs = (b : ℕ) (zs : List ℕ) → 32 ≤ b → xs ≡ escaped b ++ zs → ⊥

pub no_more_quote : (xs : List ℕ) → get_or xs 0 0 ≡ quote → NoMore xs
no_more_quote xs q b zs w e =
    ⊎_elim
    (λ sb. let f : xs ≡ backslash ∷ b ∷ zs = rw (escaped_special b sb) at e in let g = ap (λ l. get_or l 0 0) f in omega arith)
    (λ pb. let f : xs ≡ b ∷ zs = rw (escaped_plain b pb) at e in let g = ap (λ l. get_or l 0 0) f in not_quote b pb (omega arith))
    (cases_Bool (special b))

pub no_more_bad : (xs : List ℕ) → IsBadAt xs 0 → NoMore xs
no_more_bad xs bad b zs w e =
    ⊎_elim
    (λ sb.
    let f : xs ≡ backslash ∷ b ∷ zs = rw (escaped_special b sb) at e in
    let g = ap (λ l. get_or l 0 0) f in
    let h = ap (λ l. get_or l 1 0) f in
    ⊎_elim (λ control. omega arith) (λ wrong. ⊎_elim (λ q. wrong.1 (h ∙ q)) (λ k. wrong.2 (h ∙ k)) (special_cases b sb)) bad)
    (λ pb.
    let f : xs ≡ b ∷ zs = rw (escaped_plain b pb) at e in
    let g = ap (λ l. get_or l 0 0) f in
    ⊎_elim (λ control. omega arith) (λ wrong. not_backslash b pb (sym g ∙ wrong.0)) bad)
    (cases_Bool (special b))

-- bytes spell one content
pub same_content : (c d xs ys : List ℕ) → All (λ b. 32 ≤ b) c → All (λ b. 32 ≤ b) d → NoMore xs → NoMore ys → spelled c ++ xs ≡ spelled d ++ ys → (c ≡ d) × (xs ≡ ys)
same_content [] [] xs ys pc pd nx ny e = (refl, e)
same_content [] (b ∷ d) xs ys pc pd nx ny e = absurd (nx b (spelled d ++ ys) (All-head (λ x. 32 ≤ x) b d pd) (e ∙ append_assoc (escaped b) (spelled d) ys))
same_content (a ∷ c) [] xs ys pc pd nx ny e = absurd (ny a (spelled c ++ xs) (All-head (λ x. 32 ≤ x) a c pc) (sym e ∙ append_assoc (escaped a) (spelled c) xs))
same_content (a ∷ c) (b ∷ d) xs ys pc pd nx ny e =
    let r = escaped_cancel a b (spelled c ++ xs) (spelled d ++ ys) (sym (append_assoc (escaped a) (spelled c) xs) ∙ e ∙ append_assoc (escaped b) (spelled d) ys) in
    let q = same_content c d xs ys (All-tail (λ x. 32 ≤ x) a c pc) (All-tail (λ x. 32 ≤ x) b d pd) nx ny r.1 in
    ((λ i. r.0 i ∷ q.0 i), q.1)

pub opens_rest : (rest : List ℕ) (n : ℕ) (c : List ℕ) → Opens rest n c → rest ≡ quote ∷ (spelled c ++ drop n rest)
opens_rest rest n c o = sym (take-append-drop n rest) ∙ ap (λ l. l ++ drop n rest) o.spelling

pub same_opens : (rest : List ℕ) (m n : ℕ) (c d : List ℕ) → Opens rest m c → Opens rest n d → NoMore (drop m rest) → NoMore (drop n rest) → (c ≡ d) × (m ≡ n)
same_opens rest m n c d o p no_m no_n =
    let e = sym (opens_rest rest m c o) ∙ opens_rest rest n d p in
    let tails : spelled c ++ drop m rest ≡ spelled d ++ drop n rest = cc e in
    let r = same_content c d (drop m rest) (drop n rest) o.printable p.printable no_m no_n tails in
    (r.0, omega (arith, ap length r.1, length-drop m rest, length-drop n rest, o.within, p.within))

pub no_more_at : (rest : List ℕ) (n : ℕ) → get_or rest n 0 ≡ quote → NoMore (drop n rest)
no_more_at rest n q = no_more_quote (drop n rest) (get_or-drop n rest 0 0 ∙ ap (λ i. get_or rest i 0) (add-zero n) ∙ q)

pub no_more_bad_at : (rest : List ℕ) (n : ℕ) → IsBadAt rest n → NoMore (drop n rest)
no_more_bad_at rest n bad =
    let here = get_or-drop n rest 0 0 ∙ ap (λ i. get_or rest i 0) (add-zero n) in
    let next = get_or-drop n rest 1 0 in
    no_more_bad (drop n rest) (⊎_elim (λ control. inl (omega arith)) (λ wrong. inr (here ∙ wrong.0, λ q. wrong.1 (sym next ∙ q), λ k. wrong.2 (sym next ∙ k))) bad)

pub opens_positive : (rest : List ℕ) (n : ℕ) (c : List ℕ) → Opens rest n c → 0 < n
opens_positive rest zero c o = absurd (cc (o.spelling))
opens_positive rest (suc n) c o = omega arith

pub quoted_opens : (rest : List ℕ) (n : ℕ) (c : List ℕ) → n < length rest → IsQuoted c (take (n + 1) rest) → Opens rest n c × (get_or rest n 0 ≡ quote)
quoted_opens rest n c w q =
    let e = same_from_push (take n rest) (quote ∷ spelled c) (get_or rest n 0) quote (sym (take_more rest n 0 w) ∙ q.spelling) in
    (record { within = omega arith; printable = q.printable; spelling = e.0 }, e.1)

pub opens_quoted : (rest : List ℕ) (n : ℕ) (c : List ℕ) → n < length rest → Opens rest n c → get_or rest n 0 ≡ quote → IsQuoted c (take (n + 1) rest)
opens_quoted rest n c w o q = record {
  printable = o.printable;
  spelling = take_more rest n 0 w ∙ (λ i. o.spelling i ++ q i ∷ []);
}

-- how many backslashes stand at the end
abbrev par : List ℕ → ℕ
par xs = suffix_len is_backslash xs

par_push : (xs : List ℕ) (b : ℕ) → is_backslash b ≡ true → par (xs ++ b ∷ []) ≡ 1 + par xs
par_push xs b h = rw (reverse-append xs (b ∷ []), h) refl

par_push_other : (xs : List ℕ) (b : ℕ) → is_backslash b ≡ false → par (xs ++ b ∷ []) ≡ 0
par_push_other xs b h = rw (reverse-append xs (b ∷ []), h) refl

-- each quote from the end of xs on, up to the end of ys, has an odd number of backslashes before it
abbrev Inner : List ℕ → List ℕ → Type 0
Inner xs ys = (i : ℕ) → length xs ≤ i → i < length (xs ++ ys) → get_or (xs ++ ys) i 0 ≡ quote → par (take i (xs ++ ys)) % 2 ≡ 1

is_backslash_false : (b : ℕ) → (b ≡ backslash → ⊥) → is_backslash b ≡ false
is_backslash_false b h = ne_eqb b backslash h

plain_even : (xs : List ℕ) (b : ℕ) → special b ≡ false → par (xs ++ escaped b) % 2 ≡ 0
plain_even xs b plain =
    let none = par_push_other xs b (is_backslash_false b (not_backslash b plain)) in
    rw (escaped_plain b plain, none) refl

plain_inner : (xs : List ℕ) (b : ℕ) → special b ≡ false → Inner xs (escaped b)
plain_inner xs b plain =
    rw (escaped_plain b plain) (λ i low high q.
    let here : length xs ≡ i = omega (arith, length-append xs (b ∷ [])) in
    absurd (not_quote b plain (sym (get_or_at xs b [] 0 i here) ∙ q)))

special_even : (xs : List ℕ) (b : ℕ) → par xs % 2 ≡ 0 → special b ≡ true → par (xs ++ escaped b) % 2 ≡ 0
special_even xs b even s =
    let split : xs ++ escaped b ≡ (xs ++ backslash ∷ []) ++ b ∷ [] = ap (λ l. xs ++ l) (escaped_special b s) ∙ sym (append_assoc xs (backslash ∷ []) (b ∷ [])) in
    let one = par_push xs backslash refl in
    subst (λ l. par l % 2 ≡ 0) (sym split) (⊎_elim
    (λ is. let two = par_push (xs ++ backslash ∷ []) b is in omega arith)
    (λ other. let none = par_push_other (xs ++ backslash ∷ []) b other in omega arith)
    (cases_Bool (is_backslash b)))

special_inner : (xs : List ℕ) (b : ℕ) → par xs % 2 ≡ 0 → special b ≡ true → Inner xs (escaped b)
special_inner xs b even s =
    rw (escaped_special b s) (λ i low high q.
    let len = length-append xs (backslash ∷ b ∷ []) in
    let one = par_push xs backslash refl in
    ⊎_elim
    (λ here. let at_backslash = get_or_at xs backslash (b ∷ []) 0 i here in absurd (omega arith))
    (λ behind.
    let next : length (xs ++ backslash ∷ []) ≡ i = omega (arith, length-append xs (backslash ∷ [])) in
    let front : take i (xs ++ backslash ∷ b ∷ []) ≡ xs ++ backslash ∷ [] = ap (take i) (sym (append_assoc xs (backslash ∷ []) (b ∷ []))) ∙ take_at (xs ++ backslash ∷ []) (b ∷ []) i next in
    let same = ap par front in
    omega arith)
    (cases_eq (length xs) i))

escaped_even : (xs : List ℕ) (b : ℕ) → par xs % 2 ≡ 0 → par (xs ++ escaped b) % 2 ≡ 0
escaped_even xs b even = ⊎_elim (special_even xs b even) (plain_even xs b) (cases_Bool (special b))

escaped_inner : (xs : List ℕ) (b : ℕ) → par xs % 2 ≡ 0 → Inner xs (escaped b)
escaped_inner xs b even = ⊎_elim (special_inner xs b even) (plain_inner xs b) (cases_Bool (special b))

inner_more : (xs ys zs : List ℕ) → Inner xs ys → Inner (xs ++ ys) zs → Inner xs (ys ++ zs)
inner_more xs ys zs first then =
    subst (λ l. (i : ℕ) → length xs ≤ i → i < length l → get_or l i 0 ≡ quote → par (take i l) % 2 ≡ 1) (append_assoc xs ys zs) (λ i low high q.
    ⊎_elim
    (λ inside.
    let same = get_or_append_left (xs ++ ys) zs 0 i inside in
    let cut = take-append-le i (xs ++ ys) zs (omega arith) in
    subst (λ l. par l % 2 ≡ 1) (sym cut) (first i low inside (sym same ∙ q)))
    (λ behind. then i behind high q)
    (cases_lt i (length (xs ++ ys))))

spelled_even : (xs c : List ℕ) → par xs % 2 ≡ 0 → par (xs ++ spelled c) % 2 ≡ 0
spelled_even xs [] even = subst (λ l. par l % 2 ≡ 0) (sym (append-nil xs)) even
spelled_even xs (b ∷ c) even = subst (λ l. par l % 2 ≡ 0) (append_assoc xs (escaped b) (spelled c)) (spelled_even (xs ++ escaped b) c (escaped_even xs b even))

spelled_inner : (xs c : List ℕ) → par xs % 2 ≡ 0 → Inner xs (spelled c)
spelled_inner xs [] even = λ i low high q. absurd (omega (arith, ap length (append-nil xs)))
spelled_inner xs (b ∷ c) even = inner_more xs (escaped b) (spelled c) (escaped_inner xs b even) (spelled_inner (xs ++ escaped b) c (escaped_even xs b even))

pub opens_even : (rest : List ℕ) (n : ℕ) (c : List ℕ) → Opens rest n c → backslashes_before rest n % 2 ≡ 0
opens_even rest n c o = subst (λ l. par l % 2 ≡ 0) (sym o.spelling) (spelled_even (quote ∷ []) c refl)

-- no quote of an opened content closes the text
pub opens_inner : (rest : List ℕ) (n : ℕ) (c : List ℕ) → Opens rest n c → (i : ℕ) → 0 < i → i < n → get_or rest i 0 ≡ quote → backslashes_before rest i % 2 ≡ 1
opens_inner rest n c o i low high q =
    let len = length-take-le n rest o.within in
    let inner = subst (λ l. (j : ℕ) → 1 ≤ j → j < length l → get_or l j 0 ≡ quote → par (take j l) % 2 ≡ 1) (sym o.spelling) (spelled_inner (quote ∷ []) c refl) in
    let odd = inner i low (omega arith) (get_or-take n rest i 0 high ∙ q) in
    subst (λ l. par l % 2 ≡ 1) (take-take i n rest (omega arith)) odd

pub no_close_inside : (rest : List ℕ) (n : ℕ) (c : List ℕ) → Opens rest n c → (i : ℕ) → ClosesAt rest i → n ≤ i
no_close_inside rest n c o i k =
    ⊎_elim
    (λ inside. absurd (omega (arith, opens_inner rest n c o i k.behind inside k.at_quote, k.even)))
    (λ behind. behind)
    (cases_lt i n)

pub quoted_closes : (rest : List ℕ) (n : ℕ) (c : List ℕ) → n < length rest → Opens rest n c → get_or rest n 0 ≡ quote → IsClosed rest
quoted_closes rest n c w o q = (n, record { behind = opens_positive rest n c o; within = w; at_quote = q; even = opens_even rest n c o })

pub record OpensCounted (rest : List ℕ) (end count : ℕ) : Type 0 where
  pub content : List ℕ
  pub opens : Opens rest end content
  pub counts : length content ≡ count
  pub few : count ≤ end

pub opens_first : (rest : List ℕ) → get_or rest 0 0 ≡ quote → OpensCounted rest 1 0
opens_first [] q = absurd (omega (arith, q))
opens_first (b ∷ bs) q = record {
  content = [];
  opens = record { within = omega arith; printable = All-nil (λ x. 32 ≤ x); spelling = λ i. q i ∷ [] };
  counts = refl;
  few = omega arith;
}

pub opens_more : (rest : List ℕ) (end count n : ℕ) → OpensCounted rest end count → 0 < n → IsPart rest end n → OpensCounted rest (end + n) (count + 1)
opens_more rest end count n o p part =
    let b = part.part p in
    record {
      content = o.content ++ b.0 ∷ [];
      opens = record {
        within = part.within;
        printable = All-push (λ x. 32 ≤ x) o.content b.0 o.opens.printable b.1;
        spelling = b.2 ∙ ap (λ l. l ++ escaped b.0) o.opens.spelling ∙ ap (λ l. quote ∷ l) (flat_map_more escaped [] o.content b.0);
      };
      counts = omega (arith, length-append o.content (b.0 ∷ []), o.counts);
      few = omega (arith, o.few);
    }

-- where the content stops before the end and no quote stands, what stands there is bad
pub stops_bad : (rest : List ℕ) (n : ℕ) → (n < length rest → (get_or rest n 0 ≡ quote) ⊎ IsBadAt rest n) → n < length rest → (get_or rest n 0 ≡ quote → ⊥) → IsBadAt rest n
stops_bad rest n stops w unquoted = ⊎_elim (λ q. absurd (unquoted q)) (λ bad. bad) (stops w)

pub closed_behind : (rest : List ℕ) (n : ℕ) (c : List ℕ) → Opens rest n c → IsClosed rest → n < length rest
closed_behind rest n c o (i, k) = omega (arith, no_close_inside rest n c o i k, k.within)

pub bad_text : (rest : List ℕ) (n count : ℕ) → IsContent rest n count → IsClosed rest → (n < length rest → get_or rest n 0 ≡ quote → ⊥) → IsFault rest BadText n
bad_text rest n count content closed unquoted =
    let within = closed_behind rest n content.content content.opens closed in
    (closed, within, stops_bad rest n content.stops within (unquoted within), (content.content, content.opens))

quote_class_of : (rest : List ℕ) → get_or rest 0 0 ≡ quote → class_of (get_or rest 0 0) ≡ quote_class
quote_class_of rest q = ap class_of q

-- two texts at one place have one content and one end
pub same_quoted : (rest : List ℕ) (m n : ℕ) (c d : List ℕ) → m ≤ length rest → n ≤ length rest → IsQuoted c (take m rest) → IsQuoted d (take n rest) → (c ≡ d) × (m ≡ n)
same_quoted rest zero n c d v w p q = absurd (cc (p.spelling))
same_quoted rest (suc m) zero c d v w p q = absurd (cc (q.spelling))
same_quoted rest (suc m) (suc n) c d v w p q =
    let o = quoted_opens rest m c v (rw add-one p) in
    let r = quoted_opens rest n d w (rw add-one q) in
    let same = same_opens rest m n c d o.0 r.0 (no_more_at rest m o.1) (no_more_at rest n r.1) in
    (same.0, ap suc same.1)

pub quoted_longest : (rest : List ℕ) (n : ℕ) (c : List ℕ) → n < length rest → Opens rest n c → get_or rest 0 0 ≡ quote → get_or rest n 0 ≡ quote → IsLongest rest (n + 1)
quoted_longest rest n c w o first q = record {
  within = omega arith;
  lexeme = of_text (c, opens_quoted rest n c w o q);
  longest = λ m above within l.
      let other = only_text rest m (quote_class_of rest first) l in
      omega (arith, (same_quoted rest (n + 1) m c other.0 (omega arith) within (opens_quoted rest n c w o q) other.1).1);
}

-- how far a text was searched for its closing quote: up to byte k there is none, and e says whether byte k is escaped
pub record SearchedTo (rest : List ℕ) (k : ℕ) (e : Bool) : Type 0 where
  pub parity : e ≡ nat_eq (backslashes_before rest k % 2) 1
  pub none : (i : ℕ) → 0 < i → i < k → get_or rest i 0 ≡ quote → backslashes_before rest i % 2 ≡ 1

pub searched_first : (rest : List ℕ) → get_or rest 0 0 ≡ quote → SearchedTo rest 1 false
searched_first [] q = absurd (omega (arith, q))
searched_first (b ∷ bs) q = record {
  parity = subst (λ x. false ≡ nat_eq (par (x ∷ []) % 2) 1) (sym q) refl;
  none = λ i low high at_quote. absurd (omega arith);
}

odd_or_even : (n : ℕ) (e : Bool) → e ≡ nat_eq (n % 2) 1 → ((e ≡ true) × (n % 2 ≡ 1)) ⊎ ((e ≡ false) × (n % 2 ≡ 0))
odd_or_even n e h =
    ⊎_elim
    (λ odd. inl (h ∙ eq-eqb (n % 2) 1 odd, odd))
    (λ even. inr (h ∙ ne_eqb (n % 2) 1 even, omega arith))
    (cases_eq (n % 2) 1)

pub searched_more : (rest : List ℕ) (k : ℕ) (e : Bool) → k < length rest → SearchedTo rest k e → (get_or rest k 0 ≡ quote → e ≡ true) → SearchedTo rest (k + 1) (is_backslash (get_or rest k 0) && not e)
searched_more rest k e w s unclosed =
    let more = take_more rest k 0 w in
    record {
      parity = ⊎_elim
          (λ is.
          let count = ap par more ∙ par_push (take k rest) (get_or rest k 0) is in
          ⊎_elim
          (λ odd. let even : backslashes_before rest (k + 1) % 2 ≡ 0 = omega (arith, odd.1) in rw (is, odd.0, even) refl)
          (λ even. let odd : backslashes_before rest (k + 1) % 2 ≡ 1 = omega (arith, even.1) in rw (is, even.0, odd) refl)
          (odd_or_even (backslashes_before rest k) e s.parity))
          (λ other.
          let count = ap par more ∙ par_push_other (take k rest) (get_or rest k 0) other in
          rw (other, count) refl)
          (cases_Bool (is_backslash (get_or rest k 0)));
      none = λ i low high q.
          ⊎_elim
          (λ before. s.none i low before q)
          (λ here.
          let same : k ≡ i = omega arith in
          let is_escaped = unclosed (ap (λ j. get_or rest j 0) same ∙ q) in
          subst (λ j. backslashes_before rest j % 2 ≡ 1) same (⊎_elim (λ odd. odd.1) (λ even. absurd (cc (even.0, is_escaped))) (odd_or_even (backslashes_before rest k) e s.parity)))
          (cases_lt i k);
    }

pub searched_found : (rest : List ℕ) (k : ℕ) → 0 < k → k < length rest → SearchedTo rest k false → get_or rest k 0 ≡ quote → IsClosed rest
searched_found rest k p w s q = (
  k,
  record {
    behind = p;
    within = w;
    at_quote = q;
    even = ⊎_elim (λ odd. absurd (cc (odd.0))) (λ even. even.1) (odd_or_even (backslashes_before rest k) false s.parity);
  },
)

pub searched_all : (rest : List ℕ) (k : ℕ) (e : Bool) → length rest ≤ k → SearchedTo rest k e → IsClosed rest → ⊥
searched_all rest k e all s (i, closes) = omega (arith, s.none i closes.behind (omega (arith, closes.within)) closes.at_quote, closes.even)

-- the bytes behind the first, as a loop over them reads them
abbrev pub tail : List ℕ → List ℕ
tail rest = take (length rest - 1) (drop 1 rest)

tail_within : (rest : List ℕ) (i : ℕ) → i < length (tail rest) → i + 1 < length rest
tail_within rest i h = omega (arith, length-take (length rest - 1) (drop 1 rest), length-drop 1 rest)

tail_at : (rest : List ℕ) (i : ℕ) → i < length (tail rest) → get_or (tail rest) i 0 ≡ get_or rest (i + 1) 0
tail_at rest i h =
    let w = tail_within rest i h in
    get_or-take (length rest - 1) (drop 1 rest) i 0 (omega arith) ∙ get_or-drop 1 rest i 0 ∙ ap (λ j. get_or rest j 0) (add_comm 1 i)

pub tail_found : (rest : List ℕ) (i : ℕ) (e : Bool) → i < length (tail rest) → SearchedTo rest (i + 1) e → e ≡ false → get_or (tail rest) i 0 ≡ quote → IsClosed rest
tail_found rest i e h s escaped_not q = searched_found rest (i + 1) (omega arith) (tail_within rest i h) (subst (SearchedTo rest (i + 1)) escaped_not s) (sym (tail_at rest i h) ∙ q)

pub tail_more : (rest : List ℕ) (i : ℕ) (e f : Bool) → i < length (tail rest) → SearchedTo rest (i + 1) e → (get_or (tail rest) i 0 ≡ quote → e ≡ true) → f ≡ (is_backslash (get_or (tail rest) i 0) && not e) → SearchedTo rest (i + 1 + 1) f
tail_more rest i e f h s unclosed is =
    let same = tail_at rest i h in
    subst (SearchedTo rest (i + 1 + 1)) (sym (is ∙ ap (λ b. is_backslash b && not e) same)) (searched_more rest (i + 1) e (tail_within rest i h) s (λ q. unclosed (same ∙ q)))

pub at_backslash : (b : ℕ) (e f : Bool) → f ≡ not e → b ≡ backslash → f ≡ (is_backslash b && not e)
at_backslash b e f h is = let test = eq-eqb b backslash is in rw (test) h

pub not_at_backslash : (b : ℕ) (e f : Bool) → f ≡ nat_eq b backslash → (b ≡ backslash → ⊥) → f ≡ (is_backslash b && not e)
not_at_backslash b e f h other = let test = ne_eqb b backslash other in rw (test) (h ∙ test)

text_limits : (bytes content : List ℕ) → IsQuoted content bytes → length content ≤ 256 → KeepsLimits bytes
text_limits bytes content q short = record {
  word = λ w. absurd (cc (text_class_of content bytes q, word_class_of bytes w));
  number = λ d. absurd (cc (text_class_of content bytes q, digits_class_of bytes d));
  text = λ other p.
      let all = take_all (length bytes) bytes (omega arith) in
      let same = same_quoted bytes (length bytes) (length bytes) other content (omega arith) (omega arith) (subst (IsQuoted other) (sym all) p) (subst (IsQuoted content) (sym all) q) in
      omega (arith, ap length same.0);
}

pub text_front : (rest : List ℕ) (n count : ℕ) → get_or rest 0 0 ≡ quote → IsContent rest n count → n < length rest → get_or rest n 0 ≡ quote → count ≤ 256 → IsFront rest Text (n + 1)
text_front rest n count first content w q short =
    let quoted = opens_quoted rest n content.content w content.opens q in
    record {
      longest = quoted_longest rest n content.content w content.opens first q;
      limits = text_limits (take (n + 1) rest) content.content quoted (omega (arith, content.counts));
      kind_fits = (content.content, quoted);
    }

pub long_text : (rest : List ℕ) (n count : ℕ) → get_or rest 0 0 ≡ quote → IsContent rest n count → n < length rest → get_or rest n 0 ≡ quote → 256 < count → IsFault rest LongText 0
long_text rest n count first content w q long =
    (refl, (n + 1, content.content, quoted_longest rest n content.content w content.opens first q, opens_quoted rest n content.content w content.opens q, omega (arith, content.counts)))
