-- The puts of an epoch, taken one by one, leave the first with the greatest time.
use Rattle.std.proofs.Common.{◌≡◌, ℕ, ◌≤◌, ◌<◌, Bool, true, false, cond, ◌==◌, ◌&&◌, nat_le, max, List, [], ◌∷◌, ◌++◌, Option, None, Some, refl, sym, ap, ◌∙◌, arith, append_assoc, inl, inr, ◌⊎◌, subst}
use Rattle.std.specs.Option.{option_or, option_to_list}
use Rattle.std.specs.List.{find, cons_option}
use Rattle.std.specs.FinMap.{FinMap, get, insert, empty, get-empty}
use Rattle.std.proofs.lemmas.List.Folds.{find-append}
use Rattle.std.proofs.lemmas.List.{append-nil}
use Rattle.std.proofs.lemmas.Bool.{cases_lt, eq-eqb, ne_eqb, le-leb, lt-leb, eqb-true, eqb-false}
use Rattle.coco_types.specs.RowKey.{RowKey, key_cmp}
use Rattle.coco_types.specs.declared.value.Value.{Value}
use Rattle.coco_types.specs.declared.call.Write.{Write}
use Rattle.coco_types.proofs.Keys.{is_key, one_key, key_itself, key_swap}
use Rattle.coco_types.proofs.KeyMaps.{get_put}
use Rattle.coco_copy.specs.declared.ops.CopyAsk.{CopyAsk}
use Rattle.coco_copy.specs.declared.ops.CopyAsk.TheVariants.{Put}
use Rattle.coco_copy.specs.declared.ops.CopyAnswer.{CopyAnswer}
use Rattle.coco_copy.specs.declared.ops.CopyAnswer.TheVariants.{Applied, Older, OtherEpoch}
use Rattle.coco_copy.specs.CopyState.{CopyState}
use Rattle.coco_copy.specs.Puts.{after_ask, after_asks, answer_by, answer_in, by_time, key_of, left_by}
use Rattle.coco_copy.specs.Greatest.{greatest_put, greatest_time, put_on, puts_on}

abbrev Pair : Type 0
Pair = ℕ × Option Value

-- what pends after one put more
abbrev newer : Option Pair → Pair → Option Pair
newer None p = Some p
newer (Some q) p = cond (nat_le p.0 q.0) (Some q) (Some p)

abbrev at_time : ℕ → Pair → Bool
at_time t p = p.0 == t

time_more : (ps : List Pair) (p : Pair) → greatest_time (ps ++ p ∷ []) ≡ max (greatest_time ps) p.0
time_more [] p = omega arith
time_more (q ∷ ps) p = let e : greatest_time (ps ++ p ∷ []) ≡ max (greatest_time ps) p.0 = time_more ps p in omega arith

-- no put has a time above the greatest
none_later : (ps : List Pair) (t : ℕ) → greatest_time ps < t → find (at_time t) ps ≡ None
none_later [] t h = refl
none_later (p ∷ ps) t h =
    ap (λ b. cond b (Some p) (find (at_time t) ps)) (ne_eqb p.0 t (λ e. absurd (omega arith))) ∙ none_later ps t (omega arith)

-- some put has the greatest time
record Attains (ps : List Pair) (t : ℕ) : Type 0 where
  put : Pair
  found : find (at_time t) ps ≡ Some put
  time : put.0 ≡ t

first_attains : (p : Pair) (ps : List Pair) (t : ℕ) → (p.0 == t) ≡ true → Attains (p ∷ ps) t
first_attains p ps t h = record { put = p; found = ap (λ b. cond b (Some p) (find (at_time t) ps)) h; time = eqb-true p.0 t h }

later_attains : (p : Pair) (ps : List Pair) (t : ℕ) → (p.0 == t) ≡ false → Attains ps t → Attains (p ∷ ps) t
later_attains p ps t h later = record { put = later.put; found = ap (λ b. cond b (Some p) (find (at_time t) ps)) h ∙ later.found; time = later.time }

attains : (ps : List Pair) (t : ℕ) → greatest_time ps ≡ t → (ps ≡ []) ⊎ Attains ps t
attains [] t h = inl refl
attains (p ∷ ps) t h = elim (p.0 == t) as (λ b. (p.0 == t) ≡ b → (p ∷ ps ≡ []) ⊎ Attains (p ∷ ps) t) [
  | true ↦ λ e. inr (first_attains p ps t e)
  | false ↦ λ e.
      let apart : p.0 ≡ t → ⊥ = eqb-false p.0 t e in
      elim (attains ps t (omega arith)) [
        | inl none ↦ let zero : greatest_time ps ≡ 0 = ap greatest_time none in absurd (apart (omega arith))
        | inr later ↦ inr (later_attains p ps t e later)
      ]
] refl

alone : (p : Pair) → greatest_put (p ∷ []) ≡ Some p
alone p = ap (λ b. cond b (Some p) None) (eq-eqb p.0 (max p.0 0) (omega arith))

no_later : (ps : List Pair) (p : Pair) (t : ℕ) → greatest_time ps ≡ t → p.0 ≤ t → greatest_put (ps ++ p ∷ []) ≡ newer (greatest_put ps) p
no_later ps p t is le =
    let same : greatest_time (ps ++ p ∷ []) ≡ greatest_time ps = let e : greatest_time (ps ++ p ∷ []) ≡ max (greatest_time ps) p.0 = time_more ps p in omega arith in
    elim (attains ps (greatest_time ps) refl) [
      | inl none ↦ subst (λ ps. greatest_put (ps ++ p ∷ []) ≡ newer (greatest_put ps) p) (sym none) (alone p)
      | inr at ↦
          let below : p.0 ≤ at.put.0 = let e : at.put.0 ≡ greatest_time ps = at.time in omega arith in
          ap (λ t. find (at_time t) (ps ++ p ∷ [])) same ∙ find-append (at_time (greatest_time ps)) ps (p ∷ []) ∙ ap (λ o. option_or o (find (at_time (greatest_time ps)) (p ∷ []))) at.found
          ∙ sym (ap (λ o. newer o p) at.found ∙ ap (λ b. cond b (Some at.put) (Some p)) (le-leb p.0 at.put.0 below))
    ]

the_latest : (ps : List Pair) (p : Pair) → greatest_time ps < p.0 → greatest_put (ps ++ p ∷ []) ≡ newer (greatest_put ps) p
the_latest ps p less =
    let now : greatest_time (ps ++ p ∷ []) ≡ p.0 = let e : greatest_time (ps ++ p ∷ []) ≡ max (greatest_time ps) p.0 = time_more ps p in omega arith in
    ap (λ t. find (at_time t) (ps ++ p ∷ [])) now ∙ find-append (at_time p.0) ps (p ∷ []) ∙ ap (λ o. option_or o (find (at_time p.0) (p ∷ []))) (none_later ps p.0 less)
    ∙ ap (λ b. cond b (Some p) None) (eq-eqb p.0 p.0 refl)
    ∙ elim (attains ps (greatest_time ps) refl) [
      | inl none ↦ sym (ap (λ ps. newer (greatest_put ps) p) none)
      | inr at ↦
          let above : at.put.0 < p.0 = let e : at.put.0 ≡ greatest_time ps = at.time in omega arith in
          sym (ap (λ o. newer o p) at.found ∙ ap (λ b. cond b (Some at.put) (Some p)) (lt-leb p.0 at.put.0 above))
    ]

greatest_more : (ps : List Pair) (p : Pair) → greatest_put (ps ++ p ∷ []) ≡ newer (greatest_put ps) p
greatest_more ps p = elim (cases_lt (greatest_time ps) p.0) [
  | inl less ↦ the_latest ps p less
  | inr le ↦ no_later ps p (greatest_time ps) refl le
]

-- ---- one put on a table

abbrev next : Option Pair → Option Pair → Option Pair
next pending None = pending
next pending (Some p) = newer pending p

applied_at : (s : CopyState) (time : ℕ) (epoch : ℕ) (k : RowKey) (write : Write) → k ≡ write.key
    → get (left_by (by_time (get s.pending write.key) time) (Put epoch time write) s).pending k ≡ newer (get s.pending k) (time, write.value)
applied_at s time epoch k write same =
    let Left : CopyAnswer → Option Pair → Type 0 = λ a o. get (left_by a (Put epoch time write) s).pending k ≡ o in
    elim (get s.pending write.key) as (λ o. get s.pending write.key ≡ o → Left (by_time o time) (newer o (time, write.value))) [
      | None ↦ λ _. put
      | Some q ↦ λ is. elim (nat_le time q.0) as (λ b. Left (cond b (Older q.0) Applied) (cond b (Some q) (Some (time, write.value)))) [
        | true ↦ ap (get s.pending) same ∙ is
        | false ↦ put
      ]
    ] refl ∙ ap (λ z. newer (get s.pending z) (time, write.value)) (sym same)
  where
    put : get (insert s.pending write.key (time, write.value)) k ≡ Some (time, write.value)
    put = get_put s.pending write.key (time, write.value) k ∙ ap (λ b. cond b (Some (time, write.value)) (get s.pending k)) (ap (is_key write.key) same ∙ key_itself write.key)

elsewhere : (s : CopyState) (time : ℕ) (epoch : ℕ) (k : RowKey) (write : Write) → is_key k write.key ≡ false
    → get (left_by (by_time (get s.pending write.key) time) (Put epoch time write) s).pending k ≡ get s.pending k
elsewhere s time epoch k write apart =
    let Left : CopyAnswer → Type 0 = λ a. get (left_by a (Put epoch time write) s).pending k ≡ get s.pending k in
    elim (get s.pending write.key) as (λ o. Left (by_time o time)) [
      | None ↦ put
      | Some q ↦ elim (nat_le time q.0) as (λ b. Left (cond b (Older q.0) Applied)) [ true ↦ refl | false ↦ put ]
    ]
  where
    put : get (insert s.pending write.key (time, write.value)) k ≡ get s.pending k
    put = get_put s.pending write.key (time, write.value) k ∙ ap (λ b. cond b (Some (time, write.value)) (get s.pending k)) (key_swap write.key k ∙ apart)

put_step : (s : CopyState) (ask : CopyAsk) (k : RowKey) → get (after_ask s ask).pending k ≡ next (get s.pending k) (put_on s.epoch k ask)
put_step s (Put epoch time write) k =
    let ask : CopyAsk = Put epoch time write in
    elim (epoch == s.epoch) as (λ b. get (left_by (cond b (by_time (get s.pending write.key) time) (OtherEpoch s.epoch)) ask s).pending k ≡ next (get s.pending k) (cond (b && is_key k write.key) (Some (time, write.value)) None)) [
      | false ↦ refl
      | true ↦ elim (is_key k write.key) as (λ b. is_key k write.key ≡ b → get (left_by (by_time (get s.pending write.key) time) ask s).pending k ≡ next (get s.pending k) (cond b (Some (time, write.value)) None)) [
        | true ↦ λ t. applied_at s time epoch k write (one_key k write.key t)
        | false ↦ λ f. elsewhere s time epoch k write f
      ] refl
    ]

answer_cases : (P : CopyState → Type 0) (s : CopyState) (ask : CopyAsk) → ((m : FinMap key_cmp Pair) → P (record s { pending = m })) → P (after_ask s ask)
answer_cases P s (Put epoch time write) all = by_answer (answer_in s (Put epoch time write))
  where
    by_answer : (a : CopyAnswer) → P (left_by a (Put epoch time write) s)
    by_answer Applied = all (insert s.pending write.key (time, write.value))
    by_answer (Older t) = all s.pending
    by_answer (OtherEpoch t) = all s.pending

epoch_stays : (s : CopyState) (ask : CopyAsk) → (after_ask s ask).epoch ≡ s.epoch
epoch_stays s ask = answer_cases (λ t. t.epoch ≡ s.epoch) s ask (λ m. refl)

stable_stays : (s : CopyState) (ask : CopyAsk) → (after_ask s ask).stable ≡ s.stable
stable_stays s ask = answer_cases (λ t. t.stable ≡ s.stable) s ask (λ m. refl)

pub same_epoch : (s : CopyState) (asks : List CopyAsk) → (after_asks s asks).epoch ≡ s.epoch
same_epoch s [] = refl
same_epoch s (ask ∷ asks) = same_epoch (after_ask s ask) asks ∙ epoch_stays s ask

pub same_stable : (s : CopyState) (asks : List CopyAsk) → (after_asks s asks).stable ≡ s.stable
same_stable s [] = refl
same_stable s (ask ∷ asks) = same_stable (after_ask s ask) asks ∙ stable_stays s ask

-- ---- many puts

one_more : (ps : List Pair) (o : Option Pair) → next (greatest_put ps) o ≡ greatest_put (ps ++ option_to_list o)
one_more ps None = ap greatest_put (sym (append-nil ps))
one_more ps (Some p) = sym (greatest_more ps p)

joined : (ps qs : List Pair) (o : Option Pair) → (ps ++ option_to_list o) ++ qs ≡ ps ++ cons_option o qs
joined ps qs None = ap (λ z. z ++ qs) (append-nil ps)
joined ps qs (Some p) = append_assoc ps (p ∷ []) qs

pending_from : (s : CopyState) (asks : List CopyAsk) (ps : List Pair) (k : RowKey) → get s.pending k ≡ greatest_put ps → get (after_asks s asks).pending k ≡ greatest_put (ps ++ puts_on s.epoch k asks)
pending_from s [] ps k is = is ∙ ap greatest_put (sym (append-nil ps))
pending_from s (ask ∷ asks) ps k is =
    let o : Option Pair = put_on s.epoch k ask in
    pending_from (after_ask s ask) asks (ps ++ option_to_list o) k (put_step s ask k ∙ ap (λ q. next q o) is ∙ one_more ps o)
    ∙ ap (λ e. greatest_put ((ps ++ option_to_list o) ++ puts_on e k asks)) (epoch_stays s ask) ∙ ap greatest_put (joined ps (puts_on s.epoch k asks) o)

pub greatest_pends : (s : CopyState) (asks : List CopyAsk) (k : RowKey) → s.pending ≡ empty → get (after_asks s asks).pending k ≡ greatest_put (puts_on s.epoch k asks)
greatest_pends s asks k none = pending_from s asks [] k (ap (λ m. get m k) none ∙ get-empty key_cmp k)

pub greatest_answers : (s : CopyState) (asks : List CopyAsk) (ask : CopyAsk) → s.pending ≡ empty → answer_in (after_asks s asks) ask ≡ answer_by s.epoch (greatest_put (puts_on s.epoch (key_of ask) asks)) ask
greatest_answers s asks ask none =
    ap (λ e. answer_by e (get (after_asks s asks).pending (key_of ask)) ask) (same_epoch s asks) ∙ ap (λ p. answer_by s.epoch p ask) (greatest_pends s asks (key_of ask) none)
