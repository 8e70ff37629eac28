-- From an opening map, a shard's answers are a lawful journal.
use Rattle.std.proofs.Common.{◌≡◌, ℕ, zero, suc, Bool, true, false, cond, ◌==◌, max, List, [], ◌∷◌, ◌++◌, take, Option, None, Some, refl, sym, ap, ◌∙◌, subst, arith, append_assoc}
use Rattle.std.proofs.lemmas.List.{append-nil}
use Rattle.std.specs.Option.{option_or, option_map, option_flatten, option_to_list, unwrap_or, is_some}
use Rattle.std.specs.List.{AllByRecursion, slice_get}
use Rattle.std.proofs.lemmas.Option.{same_Some}
use Rattle.std.specs.FinMap.{get, get-insert}
use Rattle.coco_types.specs.RowKey.{RowKey}
use Rattle.coco_types.specs.declared.value.Value.{Value}
use Rattle.coco_types.specs.declared.call.AttemptId.{AttemptId}
use Rattle.coco_shard.specs.declared.ops.Op.{Op}
use Rattle.coco_shard.specs.declared.ops.Op.TheVariants.{Read, Lock, Extend, Install, Release, Past}
use Rattle.coco_shard.specs.declared.ops.Ask.{Ask}
use Rattle.coco_shard.specs.declared.ops.Answer.{Answer}
use Rattle.coco_shard.specs.declared.ops.Answer.TheVariants.{Locked, Marked, Changed, Extended, Installed, Released, NotMine}
use Rattle.coco_shard.specs.RowState.{RowState, ShardState, resting, row_at, with_row, Holds}
use Rattle.coco_shard.specs.Table.{key_of, answer_at, answer_in, after_ask, left_by, unless_marked, where_mine, is_mark_of}
use Rattle.coco_shard.specs.Law.{Entry, installed_by, extended_by, marked_by, install_of, extension_of, mark_of, last_found, extensions_since, greatest, law_row, IsLawful, IsAnswered, asks_of, after_asks, write_time, read_time, standing_mark}
use Rattle.coco_types.proofs.Keys.{is_key, one_key, keys_total}

-- ---- one entry more

or_nothing : {X : Type 0} (o : Option X) → o ≡ option_or o None
or_nothing None = refl
or_nothing (Some x) = refl

or_assoc : {X : Type 0} (a b c : Option X) → option_or (option_or a b) c ≡ option_or a (option_or b c)
or_assoc None b c = refl
or_assoc (Some x) b c = refl

last_more : {X : Type 0} (f : Entry → Option X) (es : List Entry) (e : Entry) → last_found f (es ++ e ∷ []) ≡ option_or (f e) (last_found f es)
last_more f [] e = or_nothing (f e)
last_more f (d ∷ es) e = ap (λ o. option_or o (f d)) (last_more f es e) ∙ or_assoc (f e) (last_found f es) (f d)

-- the extensions since the last install, with one entry more
since_more : RowKey → List ℕ → Entry → List ℕ
since_more k ts e = cond (is_some (installed_by k e)) (option_to_list (extended_by k e)) (ts ++ option_to_list (extended_by k e))

one_step : {X : Type 0} (i : Option X) (last : Option X) (x old rest : List ℕ)
    → cond (is_some (option_or i last)) (cond (is_some i) x (rest ++ x)) (old ++ cond (is_some i) x (rest ++ x)) ≡ cond (is_some i) x (cond (is_some last) rest (old ++ rest) ++ x)
one_step (Some y) last x old rest = refl
one_step None (Some y) x old rest = refl
one_step None None x old rest = sym (append_assoc old rest x)

first_step : (b : Bool) (x : List ℕ) → x ++ [] ≡ cond b x x
first_step true x = append-nil x
first_step false x = append-nil x

extensions_more : (k : RowKey) (es : List Entry) (e : Entry) → extensions_since k (es ++ e ∷ []) ≡ cond (is_some (installed_by k e)) (option_to_list (extended_by k e)) (extensions_since k es ++ option_to_list (extended_by k e))
extensions_more k [] e = first_step (is_some (installed_by k e)) (option_to_list (extended_by k e))
extensions_more k (d ∷ es) e =
    ap (λ o. cond (is_some o) (extensions_since k (es ++ e ∷ [])) (option_to_list (extended_by k d) ++ extensions_since k (es ++ e ∷ []))) (last_more (installed_by k) es e)
    ∙ ap (λ ts. cond (is_some (option_or (installed_by k e) (last_found (installed_by k) es))) ts (option_to_list (extended_by k d) ++ ts)) (extensions_more k es e)
    ∙ one_step (installed_by k e) (last_found (installed_by k) es) (option_to_list (extended_by k e)) (option_to_list (extended_by k d)) (extensions_since k es)

greatest_more : (n : ℕ) (ts : List ℕ) (t : ℕ) → greatest n (ts ++ t ∷ []) ≡ max (greatest n ts) t
greatest_more n [] t = omega arith
greatest_more n (u ∷ ts) t = let e : greatest n (ts ++ t ∷ []) ≡ max (greatest n ts) t = greatest_more n ts t in omega arith

-- what a row is after an entry that says so much of its key
abbrev pub grown_rts : RowState → Option (ℕ × Option Value) → Option ℕ → ℕ
grown_rts row (Some p) x = greatest p.0 (option_to_list x)
grown_rts row None None = row.rts
grown_rts row None (Some t) = max row.rts t

abbrev pub grown : RowState → Option (ℕ × Option Value) → Option ℕ → Option (Option AttemptId) → RowState
grown row i x m = record {
  newest = unwrap_or (option_map (λ p. p.1) i) row.newest;
  wts = unwrap_or (option_map (λ p. p.0) i) row.wts;
  rts = grown_rts row i x;
  mark = unwrap_or m row.mark;
  stable = row.stable;
}

or_value : {X Y : Type 0} (f : X → Y) (i last : Option X) (y : Y) → unwrap_or (option_map f (option_or i last)) y ≡ unwrap_or (option_map f i) (unwrap_or (option_map f last) y)
or_value f None last y = refl
or_value f (Some x) last y = refl

or_flat : {X : Type 0} (m last : Option (Option X)) → option_flatten (option_or m last) ≡ unwrap_or m (option_flatten last)
or_flat None last = refl
or_flat (Some x) last = refl

rts_more : (i last : Option (ℕ × Option Value)) (x : Option ℕ) (ts : List ℕ) (row : RowState) → row.rts ≡ greatest (unwrap_or (option_map (λ p. p.0) last) 0) ts
    → greatest (unwrap_or (option_map (λ p. p.0) (option_or i last)) 0) (cond (is_some i) (option_to_list x) (ts ++ option_to_list x)) ≡ grown_rts row i x
rts_more (Some p) last x ts row is = refl
rts_more None last None ts row is = ap (greatest (unwrap_or (option_map (λ p. p.0) last) 0)) (append-nil ts) ∙ sym is
rts_more None last (Some t) ts row is = greatest_more (unwrap_or (option_map (λ p. p.0) last) 0) ts t ∙ ap (λ n. max n t) (sym is)

pub law_more : (opening : RowKey → Option Value) (k : RowKey) (es : List Entry) (e : Entry)
    → law_row opening k (es ++ e ∷ []) ≡ grown (law_row opening k es) (installed_by k e) (extended_by k e) (marked_by k e)
law_more opening k es e =
    let last : last_found (installed_by k) (es ++ e ∷ []) ≡ option_or (installed_by k e) (last_found (installed_by k) es) = last_more (installed_by k) es e in
    let newest : (law_row opening k (es ++ e ∷ [])).newest ≡ (grown (law_row opening k es) (installed_by k e) (extended_by k e) (marked_by k e)).newest =
    ap (λ o. unwrap_or (option_map (λ p. p.1) o) (opening k)) last ∙ or_value (λ p. p.1) (installed_by k e) (last_found (installed_by k) es) (opening k) in
    let wts : (law_row opening k (es ++ e ∷ [])).wts ≡ (grown (law_row opening k es) (installed_by k e) (extended_by k e) (marked_by k e)).wts =
    ap (λ o. unwrap_or (option_map (λ p. p.0) o) 0) last ∙ or_value (λ p. p.0) (installed_by k e) (last_found (installed_by k) es) 0 in
    let rts : (law_row opening k (es ++ e ∷ [])).rts ≡ grown_rts (law_row opening k es) (installed_by k e) (extended_by k e) =
    ap (λ o. greatest (unwrap_or (option_map (λ p. p.0) o) 0) (extensions_since k (es ++ e ∷ []))) last
    ∙ ap (greatest (unwrap_or (option_map (λ p. p.0) (option_or (installed_by k e) (last_found (installed_by k) es))) 0)) (extensions_more k es e)
    ∙ rts_more (installed_by k e) (last_found (installed_by k) es) (extended_by k e) (extensions_since k es) (law_row opening k es) refl in
    let mark : (law_row opening k (es ++ e ∷ [])).mark ≡ unwrap_or (marked_by k e) (law_row opening k es).mark =
    ap option_flatten (last_more (marked_by k) es e) ∙ or_flat (marked_by k e) (last_found (marked_by k) es) in
    λ i. record { newest = newest i; wts = wts i; rts = rts i; mark = mark i; stable = opening k }

-- ---- the law from another opening map

-- what the law says of a key depends on that key's opening value alone
pub law_same : (f g : RowKey → Option Value) (k : RowKey) (es : List Entry) → f k ≡ g k → law_row f k es ≡ law_row g k es
law_same f g k es same =
    ap (λ (v : Option Value). (let row : RowState = record { newest = unwrap_or (option_map (λ (p : ℕ × Option Value). p.1) (last_found (installed_by k) es)) v; wts = write_time k es; rts = read_time k es; mark = standing_mark k es; stable = v } in row)) same

all_get : {X : Type 0} (P : X → Type 0) (xs : List X) (n : ℕ) (x : X) → AllByRecursion P xs → slice_get xs n ≡ Some x → P x
all_get P [] n x all at = absurd cc
all_get P (y ∷ ys) zero x all at = subst P (same_Some y x at) all.0
all_get P (y ∷ ys) (suc n) x all at = all_get P ys n x all.1 at

pub lawful_as : (f g : RowKey → Option Value) (journal : List Entry) → AllByRecursion (λ e. f (key_of e.ask.op) ≡ g (key_of e.ask.op)) journal → IsLawful f journal → IsLawful g journal
lawful_as f g journal same lawful place e at =
    lawful place e at ∙ ap (λ (row : RowState). answer_at row e.ask.by e.ask.op) (law_same f g (key_of e.ask.op) (take place journal) (all_get (λ (d : Entry). f (key_of d.ask.op) ≡ g (key_of d.ask.op)) journal place e same at))

-- ---- one step of the shard

unless_cases : (P : Answer → Type 0) (mark : Option AttemptId) (by : AttemptId) (answer : Answer) → P answer → ((holder : AttemptId) → P (Marked holder)) → P (unless_marked mark by answer)
unless_cases P None by answer free marked = free
unless_cases P (Some holder) by answer free marked = elim (is_mark_of by (Some holder)) as (λ b. P (cond b answer (Marked holder))) [ true ↦ free | false ↦ marked holder ]

mine_cases : (P : Answer → Type 0) (mark : Option AttemptId) (by : AttemptId) (answer : Answer) → P answer → P (NotMine mark) → P (where_mine mark by answer)
mine_cases P mark by answer mine other = elim (is_mark_of by mark) as (λ b. P (cond b answer (NotMine mark))) [ true ↦ mine | false ↦ other ]

-- the row that an answer leaves is what the law makes of the entry
abbrev pub Grows : RowState → AttemptId → Op → Answer → Type 0
Grows row by op answer = grown row (install_of op answer) (extension_of op answer) (mark_of by answer) ≡ unwrap_or (left_by answer by op row) row

pub grows : (row : RowState) (by : AttemptId) (op : Op) → Grows row by op (answer_at row by op)
grows row by (Read key) = refl
grows row by (Lock key) = unless_cases (Grows row by (Lock key)) row.mark by (Locked row.wts row.rts) refl (λ _. refl)
grows row by (Extend key wts time) =
    elim (row.wts == wts) as (λ b. Grows row by (Extend key wts time) (cond b (unless_marked row.mark by Extended) (Changed row.wts))) [
      | true ↦ unless_cases (Grows row by (Extend key wts time)) row.mark by Extended refl (λ _. refl)
      | false ↦ refl
    ]
grows row by (Install key time value) = mine_cases (Grows row by (Install key time value)) row.mark by Installed refl refl
grows row by (Release key) = mine_cases (Grows row by (Release key)) row.mark by Released refl refl
grows row by (Past key) = refl

row_with : (s : ShardState) (k : RowKey) (left : Option RowState) (q : RowKey) → row_at (with_row s k left) q ≡ cond (is_key q k) (unwrap_or left (row_at s q)) (row_at s q)
row_with s k None q = elim (is_key q k) as (λ b. row_at s q ≡ cond b (row_at s q) (row_at s q)) [ true ↦ refl | false ↦ refl ]
row_with s k (Some row) q = ap (λ o. unwrap_or o (resting None)) (get-insert keys_total s k row q)
    ∙ elim (is_key q k) as (λ b. unwrap_or (cond b (Some row) (get s q)) (resting None) ≡ cond b row (row_at s q)) [ true ↦ refl | false ↦ refl ]

-- the shard's rows are those of the law
abbrev pub Agrees : (RowKey → Option Value) → ShardState → List Entry → Type 0
Agrees opening s es = (k : RowKey) → row_at s k ≡ law_row opening k es

agrees_step : (opening : RowKey → Option Value) (s : ShardState) (es : List Entry) (a : Ask) → Agrees opening s es
    → Agrees opening (after_ask s a) (es ++ record { ask = a; answer = answer_in s a } ∷ [])
agrees_step opening s es a agrees q =
    let row : RowState = row_at s (key_of a.op) in
    let answer : Answer = answer_at row a.by a.op in
    let e : Entry = record { ask = a; answer = answer } in
    row_with s (key_of a.op) (left_by answer a.by a.op row) q
    ∙ elim (is_key q (key_of a.op)) as (λ b. is_key q (key_of a.op) ≡ b → cond b (unwrap_or (left_by answer a.by a.op row) (row_at s q)) (row_at s q)
    ≡ grown (law_row opening q es) (cond b (install_of a.op answer) None) (cond b (extension_of a.op answer) None) (cond b (mark_of a.by answer) None)) [
      | true ↦ λ t.
          let here : row_at s q ≡ row = ap (row_at s) (one_key q (key_of a.op) t) in
          ap (unwrap_or (left_by answer a.by a.op row)) here ∙ sym (grows row a.by a.op)
          ∙ ap (λ r. grown r (install_of a.op answer) (extension_of a.op answer) (mark_of a.by answer)) (sym here ∙ agrees q)
      | false ↦ λ _. agrees q
    ] refl
    ∙ sym (law_more opening q es e)

agrees_first : (opening : RowKey → Option Value) (s : ShardState) → Holds opening s → Agrees opening s []
agrees_first opening s holds k = ap (λ o. unwrap_or o (resting None)) (holds k)
    ∙ elim (opening k) as (λ o. unwrap_or (option_map (λ value. resting (Some value)) o) (resting None) ≡ resting o) [ None ↦ refl | Some v ↦ refl ]

-- ---- runs

two_entries : {X : Type 0} (x y : X) → Some x ≡ Some y → x ≡ y
two_entries x y h = cc

-- an entry with the shard's answer is the one that the step adds
agrees_entry : (opening : RowKey → Option Value) (s : ShardState) (es : List Entry) (d : Entry) → d.answer ≡ answer_in s d.ask → Agrees opening s es → Agrees opening (after_ask s d.ask) (es ++ d ∷ [])
agrees_entry opening s es d told agrees =
    let same : ◌≡◌ {A = Entry} (record { ask = d.ask; answer = answer_in s d.ask }) d = λ i. record { ask = d.ask; answer = sym told i } in
    subst (λ x. Agrees opening (after_ask s d.ask) (es ++ x ∷ [])) same (agrees_step opening s es d.ask agrees)

later_answered : (s : ShardState) (d : Entry) (journal : List Entry) → IsAnswered s (d ∷ journal) → IsAnswered (after_ask s d.ask) journal
later_answered s d journal answered place e h = answered (suc place) e h

lawful_from : (opening : RowKey → Option Value) (s : ShardState) (es journal : List Entry) → Agrees opening s es → IsAnswered s journal
    → (place : ℕ) (e : Entry) → slice_get journal place ≡ Some e → e.answer ≡ answer_at (law_row opening (key_of e.ask.op) (es ++ take place journal)) e.ask.by e.ask.op
lawful_from opening s es [] agrees answered place e h = absurd (none_some h)
  where
    none_some : {X : Type 0} {x : X} → None ≡ Some x → ⊥
    none_some h = cc
lawful_from opening s es (d ∷ journal) agrees answered zero e h =
    let Told : Entry → Type 0 = λ d. d.answer ≡ answer_at (law_row opening (key_of d.ask.op) (es ++ [])) d.ask.by d.ask.op in
    subst Told (two_entries d e h)
    (answered zero d refl ∙ ap (λ row. answer_at row d.ask.by d.ask.op) (agrees (key_of d.ask.op) ∙ ap (law_row opening (key_of d.ask.op)) (sym (append-nil es))))
lawful_from opening s es (d ∷ journal) agrees answered (suc place) e h =
    lawful_from opening (after_ask s d.ask) (es ++ d ∷ []) journal (agrees_entry opening s es d (answered zero d refl) agrees) (later_answered s d journal answered) place e h
    ∙ ap (λ z. answer_at (law_row opening (key_of e.ask.op) z) e.ask.by e.ask.op) (append_assoc es (d ∷ []) (take place journal))

agrees_after : (opening : RowKey → Option Value) (s : ShardState) (es journal : List Entry) → Agrees opening s es → IsAnswered s journal → Agrees opening (after_asks s (asks_of journal)) (es ++ journal)
agrees_after opening s es [] agrees answered = λ k. agrees k ∙ ap (law_row opening k) (sym (append-nil es))
agrees_after opening s es (d ∷ journal) agrees answered = λ k.
    agrees_after opening (after_ask s d.ask) (es ++ d ∷ []) journal (agrees_entry opening s es d (answered zero d refl) agrees) (later_answered s d journal answered) k
    ∙ ap (law_row opening k) (append_assoc es (d ∷ []) journal)

pub answers_lawful : (opening : RowKey → Option Value) (s : ShardState) (journal : List Entry) → Holds opening s → IsAnswered s journal → IsLawful opening journal
answers_lawful opening s journal holds answered = lawful_from opening s [] journal (agrees_first opening s holds) answered

pub answers_rows : (opening : RowKey → Option Value) (s : ShardState) (journal : List Entry) → Holds opening s → IsAnswered s journal → (k : RowKey) → row_at (after_asks s (asks_of journal)) k ≡ law_row opening k journal
answers_rows opening s journal holds answered = agrees_after opening s [] journal (agrees_first opening s holds) answered
