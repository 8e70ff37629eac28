-- What is left of requests whose calls went into Dones, and what that leaves as it was.
use Rattle.std.proofs.Common.{◌≡◌, ◌⊎◌, inl, inr, ℕ, zero, suc, ◌<◌, ◌≤◌, ◌%◌, Bool, true, false, nat_eq, ◌&&◌, ◌||◌, List, [], ◌∷◌, ◌++◌, map, length, take, drop, Option, None, Some, refl, sym, ap, ◌∙◌, subst, arith}
use Rattle.std.specs.FinMap.{contains_key-keys, empty, get, get-empty, keys}
use Rattle.std.specs.List.{cons_option, flat_map, list_any, slice_get}
use Rattle.std.specs.Option.{is_some, option_map, unwrap_or}
use Rattle.std.proofs.lemmas.Bool.{and_from, and_parts, cases_lt, eq-eqb, eqb-true, or_parts}
use Rattle.std.proofs.lemmas.List.{take-append-drop}
use Rattle.std.proofs.lemmas.Option.{same_Some, slice_get-map}
use Rattle.coco_types.specs.RowKey.{RowKey, key_cmp}
use Rattle.coco_types.specs.declared.call.Done.{Done}
use Rattle.coco_types.specs.declared.call.Piece.{Piece}
use Rattle.coco_types.specs.declared.call.Request.{Request}
use Rattle.coco_types.proofs.Keys.{is_key, one_key}
use Rattle.coco_ast.proofs.Lists.{all_weaker}
use Rattle.coco_tail.specs.Shards.{row_in, shard_of}
use Rattle.coco_occ.specs.declared.outcome.Outcome.{Outcome}
use Rattle.coco_occ.specs.declared.outcome.Outcome.TheVariants.{Committed, Conflict, OverTime}
use Rattle.coco_occ.specs.declared.outcome.Tried.{Tried}
use Rattle.coco_order.specs.Execution.{concat}
use Rattle.coco_order.specs.OneKey.{Among}
use Rattle.coco_order.specs.Outcome.{AreOnce, done_of, is_commit}
use Rattle.coco_shard.specs.RowState.{RowState, ShardState, resting}
use Rattle.coco_parallel.specs.Ends.{AreLeft, dones_of, has_commit}
use Rattle.coco_parallel.specs.Laws.{IsGreatestIn}
use Rattle.coco_parallel.specs.PieceOrder.{ArePiecesInOrder, IsEarlier, id_at, id_of}
use Rattle.coco_parallel.proofs.EndsLemmas.{commit_append, concat_append}
use Rattle.coco_parallel.proofs.PieceOrderLemmas.{in_flat}
use Rattle.coco_parallel.proofs.SlotLemmas.{by_bool}
use Rattle.coco_parallel.proofs.TailLemmas.{ids_of}

two_sides : true ≡ false → ⊥
two_sides h = cc

-- ---- scripts one behind another

no_commit : (ts us : List Tried) (place : ℕ) → has_commit (ts ++ us) place ≡ false → (has_commit ts place ≡ false) × (has_commit us place ≡ false)
no_commit ts us place none = or_parts (has_commit ts place) (has_commit us place) (sym (commit_append ts us place) ∙ none)

pub left_none : (rs : List Request) → AreLeft [] rs rs
left_none rs = record { ids = refl; others = λ place none. refl }

pub left_more : (ts us : List Tried) (a b c : List Request) → AreLeft ts a b → AreLeft us b c → AreLeft (ts ++ us) a c
left_more ts us a b c first more = record {
  ids = more.ids ∙ first.ids;
  others = λ place none. (let parts = no_commit ts us place none in more.others place parts.1 ∙ first.others place parts.0);
}

pub once_front : (ts us : List Tried) → AreOnce (ts ++ us) → AreOnce ts
once_front [] us once = tt
once_front (t ∷ ts) us once = (λ is. (no_commit ts us t.place (once.0 is)).0, once_front ts us once.1)

pub once_behind : (ts us : List Tried) → AreOnce (ts ++ us) → AreOnce us
once_behind [] us once = once
once_behind (t ∷ ts) us once = once_behind ts us once.1

pub once_until : (n : ℕ) (ts : List Tried) → AreOnce ts → AreOnce (take n ts)
once_until n ts once = once_front (take n ts) (drop n ts) (subst AreOnce (sym (take-append-drop n ts)) once)

-- of transcripts, whose scripts are these in all, too
pub once_until_all : (n : ℕ) (tss : List (List Tried)) → AreOnce (concat tss) → AreOnce (concat (take n tss))
once_until_all n tss once = once_front (concat (take n tss)) (concat (drop n tss)) (subst AreOnce (sym (ap concat (take-append-drop n tss)) ∙ concat_append (take n tss) (drop n tss)) once)

-- ---- Dones

commit_there : (ts : List Tried) (t : Tried) → Among ts t → is_commit t.outcome ≡ true → has_commit ts t.place ≡ true
commit_there [] t among is = absurd among
commit_there (u ∷ ts) t (inl same) is = ap (λ (b : Bool). b || has_commit ts t.place) (and_from (nat_eq u.place t.place) (is_commit u.outcome) (eq-eqb u.place t.place (ap (λ (v : Tried). v.place) same)) (ap (λ (v : Tried). is_commit v.outcome) same ∙ is))
commit_there (u ∷ ts) t (inr more) is = or_true (nat_eq u.place t.place && is_commit u.outcome) (commit_there ts t more is)
  where
    or_true : (b : Bool) → has_commit ts t.place ≡ true → (b || has_commit ts t.place) ≡ true
    or_true true there = refl
    or_true false there = there

-- behind scripts none of which is of its place and committed
apart : (seen ts : List Tried) → AreOnce (seen ++ ts) → (t : Tried) → Among ts t → is_commit t.outcome ≡ true → has_commit seen t.place ≡ false
apart [] ts once t among is = refl
apart (s ∷ seen) ts once t among is =
    by_bool (λ b. (nat_eq s.place t.place && is_commit s.outcome) ≡ b → (b || has_commit seen t.place) ≡ false) (nat_eq s.place t.place && is_commit s.outcome)
    (λ _ e. (
    let both = and_parts (nat_eq s.place t.place) (is_commit s.outcome) e in
    let none : has_commit ts s.place ≡ false = (no_commit seen ts s.place (once.0 both.1)).1 in
    absurd (two_sides (sym (commit_there ts t among is) ∙ ap (has_commit ts) (sym (eqb-true s.place t.place both.0)) ∙ none))
    ))
    (λ _ _. apart seen ts once.1 t among is) refl

module _ (epoch : ℕ) where
  no_done : (o : Option Request) (outcome : Outcome) → is_commit outcome ≡ false → done_of epoch o outcome ≡ None
  no_done None outcome none = refl
  no_done (Some r) (Committed time reply) none = absurd (two_sides none)
  no_done (Some r) (Conflict why) none = refl
  no_done (Some r) OverTime none = refl

  same_done : (o p : Option Request) (outcome : Outcome) → (is_commit outcome ≡ true → o ≡ p) → done_of epoch o outcome ≡ done_of epoch p outcome
  same_done o p outcome same =
      by_bool (λ b. is_commit outcome ≡ b → done_of epoch o outcome ≡ done_of epoch p outcome) (is_commit outcome)
      (λ _ t. ap (λ (q : Option Request). done_of epoch q outcome) (same t))
      (λ _ f. no_done o outcome f ∙ sym (no_done p outcome f)) refl

  pub dones_left : (seen ts : List Tried) (before after : List Request) → AreOnce (seen ++ ts) → AreLeft seen before after → dones_of epoch after ts ≡ dones_of epoch before ts
  dones_left seen ts before after once left = each ts (apart seen ts once)
    where
      each : (us : List Tried) → ((t : Tried) → Among us t → is_commit t.outcome ≡ true → has_commit seen t.place ≡ false) → dones_of epoch after us ≡ dones_of epoch before us
      each [] free = refl
      each (t ∷ us) free =
          ap (λ (d : Option Done). cons_option d (dones_of epoch after us)) (same_done (slice_get after t.place) (slice_get before t.place) t.outcome (λ is. left.others t.place (free t (inl refl) is)))
          ∙ ap (cons_option (done_of epoch (slice_get before t.place) t.outcome)) (each us (λ u among. free u (inr among)))

-- ---- order goes by ids

id_there : (rs : List Request) (place : ℕ) → id_at rs place ≡ unwrap_or (slice_get (ids_of rs) place) 0
id_there rs place = of_option (slice_get rs place) ∙ ap (λ (o : Option ℕ). unwrap_or o 0) (sym (slice_get-map (λ (r : Request). r.id) rs place))
  where
    of_option : (o : Option Request) → id_of o ≡ unwrap_or (option_map (λ (r : Request). r.id) o) 0
    of_option None = refl
    of_option (Some r) = refl

abbrev IsEarlierBy : (ℕ → ℕ) → Piece → Piece → Type 0
IsEarlierBy id p q = (p.time < q.time) ⊎ (p.time ≡ q.time) × ((id p.place < id q.place) ⊎ (id p.place ≡ id q.place) × (p.partition < q.partition))

pub order_left : (before after : List Request) (ps : List Piece) → map (λ (r : Request). r.id) after ≡ map (λ (r : Request). r.id) before → ArePiecesInOrder after ps → ArePiecesInOrder before ps
order_left before after [] ids order = tt
order_left before after (p ∷ ps) ids order =
    (all_weaker (λ q. IsEarlier after q p → ⊥) (λ q. IsEarlier before q p → ⊥) (λ q not earlier. not (subst (λ (id : ℕ → ℕ). IsEarlierBy id q p) same earlier)) ps order.0, order_left before after ps ids order.1)
  where
    same_at : (place : ℕ) → id_at before place ≡ id_at after place
    same_at place = id_there before place ∙ ap (λ (ns : List ℕ). unwrap_or (slice_get ns place) 0) (sym ids) ∙ sym (id_there after place)

    same : id_at before ≡ id_at after
    same = λ i place. same_at place i

-- ---- the greatest read time

-- a key at which a number is the greatest of those at these keys
greatest_at : (g : RowKey → ℕ) (ks : List RowKey) → (at : RowKey) × ((k : RowKey) → Among ks k → g k ≤ g at)
greatest_at g [] = (record { table = 0; row = 0 }, λ k among. absurd among)
greatest_at g (q ∷ ks) =
    let rest : (at : RowKey) × ((k : RowKey) → Among ks k → g k ≤ g at) = greatest_at g ks in
    elim (cases_lt (g q) (g rest.0)) [
      | inl less ↦ (
        rest.0,
        λ k among. elim among [
          | inl same ↦ (let e : g q ≡ g k = ap g same in omega (arith, e, less))
          | inr more ↦ rest.1 k more
        ],
      )
      | inr most ↦ (
        q,
        λ k among. elim among [
          | inl same ↦ (let e : g q ≡ g k = ap g same in omega (arith, e))
          | inr more ↦ (let le : g k ≤ g rest.0 = rest.1 k more in omega (arith, le, most))
        ],
      )
    ]

among_at : {X : Type 0} (xs : List X) (i : ℕ) (x : X) → slice_get xs i ≡ Some x → Among xs x
among_at [] i x at = absurd (let e : None ≡ Some x = at in cc)
among_at (y ∷ xs) zero x at = inl (same_Some y x at)
among_at (y ∷ xs) (suc i) x at = inr (among_at xs i x at)

among_keys : (ks : List RowKey) (k : RowKey) → list_any (is_key k) ks ≡ true → Among ks k
among_keys [] k any = absurd (two_sides (sym any))
among_keys (q ∷ ks) k any =
    by_bool (λ b. is_key k q ≡ b → (b || list_any (is_key k) ks) ≡ true → Among (q ∷ ks) k) (is_key k q)
    (λ _ here _. inl (sym (one_key k q here)))
    (λ _ _ there. inr (among_keys ks k there)) refl any

-- a row with a read time is there, under one of the shards' keys
pub some_greatest : (shards : List ShardState) → (most : ℕ) × IsGreatestIn shards most
some_greatest shards = (time_at found.0, record { bounds = λ k. of_row k (get (shard_of shards k) k) refl; at = found.0; attained = refl })
  where
    time_at : RowKey → ℕ
    time_at k = (row_in shards k).rts

    found : (at : RowKey) × ((k : RowKey) → Among (flat_map keys shards) k → time_at k ≤ time_at at)
    found = greatest_at time_at (flat_map keys shards)

    listed : (k : RowKey) (o : Option ShardState) → slice_get shards (k.row % length shards) ≡ o → is_some (get (unwrap_or o empty) k) ≡ true → Among (flat_map keys shards) k
    listed k None at there = absurd (two_sides (sym there ∙ ap (λ (o : Option RowState). is_some o) (get-empty key_cmp k)))
    listed k (Some s) at there = in_flat keys shards s k (among_at shards (k.row % length shards) s at) (among_keys (keys s) k (sym (contains_key-keys s k) ∙ there))

    of_row : (k : RowKey) (o : Option RowState) → get (shard_of shards k) k ≡ o → (unwrap_or o (resting None)).rts ≤ time_at found.0
    of_row k None there = omega arith
    of_row k (Some row) there =
        let time : time_at k ≡ row.rts = ap (λ (o : Option RowState). (unwrap_or o (resting None)).rts) there in
        let le : time_at k ≤ time_at found.0 = found.1 k (listed k (slice_get shards (k.row % length shards)) refl (ap (λ (o : Option RowState). is_some o) there)) in
        omega (arith, time, le)
