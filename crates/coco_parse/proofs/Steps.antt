-- What a word does to a cursor.
use Rattle.std.proofs.Common.{◌≡◌, ℕ, zero, suc, ◌+◌, ◌<◌, ◌≤◌, ⊎_elim, List, [], ◌∷◌, ◌++◌, length, take, Option, None, Some, Result, Ok, Err, IsErrAnd, MatchResult, sym, refl, ap, ◌∙◌, subst, arith, add-one, take_all, length-take}
use Rattle.std.proofs.lemmas.List.{length-map}
use Rattle.std.specs.Prelude.{slice_get, option_and_then}
use Rattle.std.proofs.lemmas.Bool.{cases_lt}
use Rattle.std.proofs.lemmas.Option.{slice_get_within}
use Rattle.coco_lex.specs.declared.token.Token.{Token}
use Rattle.coco_parse.specs.Counting.{Counts}
use Rattle.coco_parse.specs.Limits.{Passes}
use Rattle.coco_ast.specs.Tree.{Procedure, Statement, Statements}
use Rattle.coco_parse.specs.Machine.{Goal, Items, after, start, step}
use Rattle.coco_parse.specs.Refusal.{KeepLimits, IsTreeOf, IsRefusedAt, place_of}
use Rattle.std.proofs.Common.{Bool, true, false, not}
use Rattle.coco_parse.specs.declared.choice.Optional.{Optional}
use Rattle.coco_parse.specs.declared.statement.Head.{Head}
use Rattle.coco_parse.specs.Steps.{behind_head, Chooses, chosen, is_optional, words, next_word, IsItems, Reaches, whole, alike, Stands, Stops, IsRefusal, IsFault}
use Rattle.coco_parse.specs.declared.counter.Counter.{Counter}
use Rattle.coco_parse.specs.declared.error.ParseError.{ParseError}
use Rattle.coco_parse.specs.declared.error.ParseFault.{ParseFault}
use Rattle.coco_parse.specs.declared.error.ParseFault.TheVariants.{Refused, NoMemory}
use Rattle.coco_parse.specs.declared.error.ParseKind.{ParseKind}
use Rattle.coco_parse.specs.declared.error.ParseKind.TheVariants.{Unexpected}
use Rattle.coco_parse.specs.declared.state.Cursor.{Cursor}
use Rattle.coco_parse.specs.declared.state.Parser.{Parser}
use Rattle.coco_parse.specs.declared.word.Word.{Word}
use Rattle.coco_parse.proofs.Verdicts.{tree-of, unexpected-word, unexpected-end, too-much}

and_then_some : (o : Option Goal) → option_and_then (λ h. Some h) o ≡ o
and_then_some None = refl
and_then_some (Some g) = refl

after_more : (ws : List Word) (w : Word) → ((g : Goal) (w : Word) → after g (ws ++ w ∷ []) ≡ option_and_then (λ h. step h w) (after g ws)) → (o : Option Goal)
    → option_and_then (λ h. after h (ws ++ w ∷ [])) o ≡ option_and_then (λ h. step h w) (option_and_then (λ h. after h ws) o)
after_more ws w more None = refl
after_more ws w more (Some g) = more g w

after_push : (ws : List Word) (g : Goal) (w : Word) → after g (ws ++ w ∷ []) ≡ option_and_then (λ h. step h w) (after g ws)
after_push [] g w = and_then_some (step g w)
after_push (v ∷ ws) g w = after_more ws w (after_push ws) (step g v)

take_next : (ws : List Word) (n : ℕ) (w : Word) → slice_get ws n ≡ Some w → take (suc n) ws ≡ take n ws ++ w ∷ []
take_next [] n w h = absurd (cc h)
take_next (v ∷ ws) zero w h = let e : v ≡ w = cc h in ap (λ u. u ∷ []) e
take_next (v ∷ ws) (suc n) w h = ap (λ l. v ∷ l) (take_next ws n w h)

past : (ws : List Word) (n : ℕ) → slice_get ws n ≡ None → length ws ≤ n
past [] n h = omega arith
past (v ∷ ws) zero h = absurd (cc h)
past (v ∷ ws) (suc n) h = omega (arith, past ws n h)

-- the goal that has been reached, and what it does with the next word
held : (ws : List Word) (n : ℕ) (g : Goal) → Reaches ws n g → (h : Goal) × (after start (take n ws) ≡ Some h) × (¬ (IsItems g) → ¬ (IsItems h)) × ((w : Word) → slice_get ws n ≡ Some w → step h w ≡ step g w)
held ws n g (whole r) = (g, r, λ i. i, λ w e. refl)
held ws n g (alike h r i j same) = (h, r, λ k. i, same)

stepped : (ws : List Word) (n : ℕ) (g : Goal) (w : Word) → Reaches ws n g → slice_get ws n ≡ Some w → after start (take (suc n) ws) ≡ step g w
stepped ws n g w r e =
    let h = held ws n g r in
    ap (after start) (take_next ws n w e) ∙ after_push (take n ws) start w ∙ ap (option_and_then (λ k. step k w)) h.1 ∙ h.3 w e

items_whole : (ws : List Word) (n : ℕ) (ts : List (List ℕ)) (ps : List Procedure) → Reaches ws n (Items ts ps) → after start (take n ws) ≡ Some (Items ts ps)
items_whole ws n ts ps (whole r) = r
items_whole ws n ts ps (alike h r i j same) = absurd (j (ts, ps, refl))

kept_on : (ws : List Word) (n : ℕ) (w : Word) → KeepLimits ws n → slice_get ws n ≡ Some w → ((k : ParseKind) → ¬ (Passes k (take n ws ++ w ∷ []))) → KeepLimits ws (suc n)
kept_on ws n w kept e none m l k p =
    ⊎_elim
    (λ lt. kept m lt k p)
    (λ ge. let same : m ≡ n = omega arith in none k (subst (Passes k) (ap (λ i. take (suc i) ws) same ∙ take_next ws n w e) p))
    (cases_lt m n)

words_length : (p : Parser) → length (words p) ≡ length p.tokens.now
words_length p = length-map p.tokens.now _

next_within : (p : Parser) (c : Cursor) (w : Word) → next_word p c ≡ Some w → c.at < length (words p)
next_within p c w e = slice_get_within (words p) c.at w e

pub onward : (p : Parser) (c : Cursor) (w : Word) → next_word p c ≡ Some w → c.at < length p.tokens.now
onward p c w e = omega (arith, words_length p, next_within p c w e)

-- what the counter counts over one word more
pub counts_small : (p : Parser) (c : Cursor) (w : Word) → next_word p c ≡ Some w → length p.tokens.now ≤ 262144 → length (take c.at (words p)) + 1 < 18446744073709551616
counts_small p c w e s = omega (arith, onward p c w e, length-take c.at (words p))

pub stands_on : (p : Parser) (c : Cursor) (next : Counter) (g h : Goal) (w : Word) → Stands p c g → next_word p c ≡ Some w → step g w ≡ Some h → Counts next (take c.at (words p) ++ w ∷ [])
    → ((k : ParseKind) → ¬ (Passes k (take c.at (words p) ++ w ∷ []))) → Stands p (record { at = c.at + 1; counter = next }) h
stands_on p c next g h w s e st counts none =
    let more : take (c.at + 1) (words p) ≡ take c.at (words p) ++ w ∷ [] = ap (λ n. take n (words p)) (add-one c.at) ∙ take_next (words p) c.at w e in
    record {
      within = omega (arith, onward p c w e);
      counts = subst (Counts next) (sym more) counts;
      kept = subst (KeepLimits (words p)) (sym (add-one c.at)) (kept_on (words p) c.at w s.kept e none);
      reaches = whole (ap (λ n. after start (take n (words p))) (add-one c.at) ∙ stepped (words p) c.at g w s.reaches e ∙ st);
    }

pub limit_refused : (p : Parser) (c : Cursor) (k : ParseKind) (g h : Goal) (w : Word) (e : ParseError) → Stands p c g → next_word p c ≡ Some w → step g w ≡ Some h → Passes k (take c.at (words p) ++ w ∷ [])
    → e.at ≡ place_of p.text.now p.tokens.now c.at → e.kind ≡ k → IsRefusal p e
limit_refused p c k g h w e s next st passes place kind = record {
  count = c.at;
  place = place;
  refused = subst (IsRefusedAt (words p) c.at) (sym kind) (too-much (words p) c.at k h (next_within p c w next) s.kept (stepped (words p) c.at g w s.reaches next ∙ st) (subst (Passes k) (sym (take_next (words p) c.at w next)) passes));
}

stop_at : (p : Parser) (c : Cursor) (g : Goal) (o : Option Word) → Stands p c g → next_word p c ≡ o → Stops g o → IsRefusedAt (words p) c.at Unexpected
stop_at p c g None s next stops =
    let h = held (words p) c.at g s.reaches in
    let all : c.at ≡ length (words p) = omega (arith, past (words p) c.at next, s.within, words_length p) in
    let reached : after start (words p) ≡ Some h.0 = ap (after start) (sym (take_all c.at (words p) (omega (arith, all)))) ∙ h.1 in
    subst (λ n. IsRefusedAt (words p) n Unexpected) (sym all) (unexpected-end (words p) h.0 (subst (KeepLimits (words p)) all s.kept) reached (h.2 stops))
stop_at p c g (Some w) s next stops =
    let h = held (words p) c.at g s.reaches in
    unexpected-word (words p) c.at h.0 (next_within p c w next) s.kept h.1 (stepped (words p) c.at g w s.reaches next ∙ stops)

pub stop_refused : (p : Parser) (c : Cursor) (g : Goal) (e : ParseError) → Stands p c g → Stops g (next_word p c) → e.at ≡ place_of p.text.now p.tokens.now c.at → e.kind ≡ Unexpected → IsRefusal p e
stop_refused p c g e s stops place kind = record {
  count = c.at;
  place = place;
  refused = subst (IsRefusedAt (words p) c.at) (sym kind) (stop_at p c g (next_word p c) s refl stops);
}

pub stops_end : (g : Goal) (o : Option Word) → o ≡ None → ¬ (IsItems g) → Stops g o
stops_end g o e i = subst (Stops g) (sym e) i

pub stops_word : (g : Goal) (o : Option Word) (w : Word) → o ≡ Some w → step g w ≡ None → Stops g o
stops_word g o w e s = subst (Stops g) (sym e) s

-- where a word doesn't tell the two goals apart, or the text ends
pub stands_alike : (p : Parser) (c : Cursor) (g o : Goal) → Stands p c g → ¬ (IsItems g) → ¬ (IsItems o) → ((w : Word) → next_word p c ≡ Some w → step g w ≡ step o w) → Stands p c o
stands_alike p c g o s i j same =
    let h = held (words p) c.at g s.reaches in
    record {
      within = s.within;
      counts = s.counts;
      kept = s.kept;
      reaches = alike h.0 h.1 (h.2 i) j (λ w e. h.3 w e ∙ same w e);
    }

pub place_at : (text : List ℕ) (ts : List Token) (n : ℕ) (t : Token) → slice_get ts n ≡ Some t → t.start ≡ place_of text ts n
place_at text [] n t h = absurd (cc h)
place_at text (u ∷ ts) zero t h = let e : t ≡ u = cc h in ap (λ (v : Token). v.start) e
place_at text (u ∷ ts) (suc n) t h = place_at text ts n t h

pub place_end : (text : List ℕ) (ts : List Token) (n : ℕ) → slice_get ts n ≡ None → length text ≡ place_of text ts n
place_end text [] n h = refl
place_end text (u ∷ ts) zero h = absurd (cc h)
place_end text (u ∷ ts) (suc n) h = place_end text ts n h

-- a refusal as a fault
pub faulty : (p : Parser) (e : ParseError) (fault : ParseFault) → fault ≡ Refused e → IsRefusal p e → IsFault p fault
faulty p e fault same h = subst (IsFault p) (sym same) h

pub no_memory : (p : Parser) (fault : ParseFault) → fault ≡ NoMemory → IsFault p fault
no_memory p fault same = subst (IsFault p) (sym same) tt

-- ---- the exits of a `?`

pub exit_same : {A E : Type 0} (r : Result A E) (P : A → Type 0) (F : E → Type 0) (e : E) → IsErrAnd r (λ d. d ≡ e) → F e → MatchResult r P F
exit_same (Ok x) P F e h f = absurd h
exit_same (Err d) P F e h f = subst F (sym h) f

pub exit_refused : {A : Type 0} (r : Result A ParseFault) (P : A → Type 0) (p : Parser) (e : ParseError) → IsErrAnd r (λ d. d ≡ Refused e) → IsRefusal p e → MatchResult r P (IsFault p)
exit_refused (Ok x) P p e h f = absurd h
exit_refused (Err d) P p e h f = faulty p e d h f

-- where an optional word is missing
pub stands_missing : (p : Parser) (c : Cursor) (optional : Optional) (g h o : Goal) → Chooses optional g h o → Stands p c g → ((w : Word) → next_word p c ≡ Some w → is_optional optional w ≡ false) → Stands p c o
stands_missing p c optional g h o ch s missing = stands_alike p c g o s ch.within ch.unfinished (λ w e. ch.missing w (missing w e))

pub chosen_true : (p : Parser) (c : Cursor) (b : Bool) (h o : Goal) → b ≡ true → Stands p c (chosen b h o) → Stands p c h
chosen_true p c b h o e s = subst (λ t. Stands p c (chosen t h o)) e s

pub chosen_false : (p : Parser) (c : Cursor) (b : Bool) (h o : Goal) → b ≡ false → Stands p c (chosen b h o) → Stands p c o
chosen_false p c b h o e s = subst (λ t. Stands p c (chosen t h o)) e s

pub chosen_not : (p : Parser) (c : Cursor) (b : Bool) (h o : Goal) → Stands p c (chosen b h o) → Stands p c (chosen (not b) o h)
chosen_not p c true h o s = s
chosen_not p c false h o s = s

-- before the first word
pub stands_start : (p : Parser) (c : Cursor) → c.at ≡ 0 → Counts c.counter [] → Stands p c start
stands_start p c at counts = record {
  within = omega (arith, at);
  counts = subst (λ n. Counts c.counter (take n (words p))) (sym at) counts;
  kept = λ m l k h. absurd (omega (arith, at, l));
  reaches = whole (ap (λ n. after start (take n (words p))) at);
}

-- behind the last word
pub stands_end : (p : Parser) (c : Cursor) (ts : List (List ℕ)) (ps : List Procedure) → Stands p c (Items ts ps) → next_word p c ≡ None → IsTreeOf (words p) (record { tables = ts; procs = ps })
stands_end p c ts ps s next =
    let all : c.at ≡ length (words p) = omega (arith, past (words p) c.at next, s.within, words_length p) in
    let reached = items_whole (words p) c.at ts ps s.reaches in
    tree-of (words p) ts ps (ap (after start) (sym (take_all c.at (words p) (omega (arith, all)))) ∙ reached) (subst (KeepLimits (words p)) all s.kept)

-- behind a statement's first word
pub headed : {p : Parser} {c : Cursor} {h i : Head} (ss : List Statement) (k : Statements → Goal) → h ≡ i → Stands p c (behind_head (Some h) ss k) → Stands p c (behind_head (Some i) ss k)
headed {p} {c} ss k e s = subst (λ h. Stands p c (behind_head (Some h) ss k)) e s
