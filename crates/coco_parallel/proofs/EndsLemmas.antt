-- Transcripts script by script: the Dones of commits, and the places that committed; and the greatest read time shard by shard.
use Rattle.std.proofs.Common.{◌≡◌, ◌⊎◌, inl, inr, ℕ, zero, suc, ◌+◌, ◌<◌, ◌≤◌, ◌%◌, max, Bool, true, false, nat_eq, ◌&&◌, ◌||◌, List, [], ◌∷◌, ◌++◌, map, length, take, Option, None, Some, slice_index_or, slice_set, append_assoc, refl, sym, ap, ◌∙◌, subst, arith}
use Rattle.std.specs.List.{cons_option, list_any, slice_get}
use Rattle.std.specs.Option.{is_some, unwrap_or}
use Rattle.std.specs.FinMap.{get}
use Rattle.std.proofs.lemmas.Bool.{eqb-true, eq-eqb, false≢true}
use Rattle.std.proofs.lemmas.List.{append-nil, get_or-set_other, get_or-set_same, take_more}
use Rattle.std.proofs.lemmas.List.Elements.{filter_map-append}
use Rattle.coco_types.specs.RowKey.{RowKey}
use Rattle.coco_types.specs.declared.call.Done.{Done}
use Rattle.coco_types.specs.declared.call.Request.{Request}
use Rattle.coco_tail.specs.Shards.{AreOfPartitions, row_in, shard_at}
use Rattle.coco_occ.specs.declared.outcome.Tried.{Tried}
use Rattle.coco_order.specs.Execution.{concat}
use Rattle.coco_order.specs.Outcome.{done_of, is_commit}
use Rattle.coco_shard.specs.RowState.{IsGreatestTime, RowState, ShardState, resting, row_at}
use Rattle.coco_parallel.specs.Ends.{AreLeft, dones_of, has_commit}
use Rattle.coco_parallel.specs.Laws.{IsGreatestIn}
use Rattle.coco_parallel.proofs.SlotLemmas.{by_bool}

-- ---- lists of lists

pub concat_append : {X : Type 0} (xss yss : List (List X)) → concat (xss ++ yss) ≡ concat xss ++ concat yss
concat_append [] yss = refl
concat_append (xs ∷ xss) yss = ap (λ (zs : List _). xs ++ zs) (concat_append xss yss) ∙ sym (append_assoc xs (concat xss) (concat yss))

pub concat_more : {X : Type 0} (xss : List (List X)) (i : ℕ) (xs : List X) → i < length xss → xs ≡ slice_index_or xss i xs → concat (take (i + 1) xss) ≡ concat (take i xss) ++ xs
concat_more xss i xs lt there =
    ap concat (take_more xss i xs lt ∙ ap (λ (ys : List _). take i xss ++ ys ∷ []) (sym there)) ∙ concat_append (take i xss) (xs ∷ []) ∙ ap (λ (ys : List _). concat (take i xss) ++ ys) (append-nil xs)

-- ---- Dones

module _ (epoch : ℕ) (requests : List Request) where
  abbrev done_by : Tried → Option Done
  done_by t = done_of epoch (slice_get requests t.place) t.outcome

  pub dones_append : (ts us : List Tried) → dones_of epoch requests (ts ++ us) ≡ dones_of epoch requests ts ++ dones_of epoch requests us
  dones_append ts us = filter_map-append done_by ts us

  pub dones_more : (first old new : List Done) (seen more all : List Tried) → old ≡ first ++ dones_of epoch requests seen → new ≡ old ++ dones_of epoch requests more → all ≡ seen ++ more → new ≡ first ++ dones_of epoch requests all
  dones_more first old new seen more all was is both =
      is ∙ ap (λ (ds : List Done). ds ++ dones_of epoch requests more) was ∙ append_assoc first (dones_of epoch requests seen) (dones_of epoch requests more)
      ∙ ap (λ (ds : List Done). first ++ ds) (sym (ap (dones_of epoch requests) both ∙ dones_append seen more))

pub take_one : {X : Type 0} (xs : List X) (i : ℕ) (x : X) → i < length xs → x ≡ slice_index_or xs i x → take (i + 1) xs ≡ take i xs ++ x ∷ []
take_one xs i x lt there = take_more xs i x lt ∙ ap (λ (y : _). take i xs ++ y ∷ []) (sym there)

-- ---- places that committed

any_append : {X : Type 0} (p : X → Bool) (xs ys : List X) → list_any p (xs ++ ys) ≡ (list_any p xs || list_any p ys)
any_append p [] ys = refl
any_append p (x ∷ xs) ys = or_assoc (p x) (list_any p xs) (list_any p ys) (any_append p xs ys)
  where
    or_assoc : (a b c : Bool) → list_any p (xs ++ ys) ≡ (b || c) → (a || list_any p (xs ++ ys)) ≡ ((a || b) || c)
    or_assoc true b c is = refl
    or_assoc false b c is = is

or_none : (b : Bool) → (b || false) ≡ b
or_none true = refl
or_none false = refl

or_same : (a b c : Bool) → ((a || b) || c) ≡ (a || (b || c))
or_same true b c = refl
or_same false b c = refl

one_commit : (t : Tried) (place : ℕ) → has_commit (t ∷ []) place ≡ (nat_eq t.place place && is_commit t.outcome)
one_commit t place = or_none (nat_eq t.place place && is_commit t.outcome)

pub commit_append : (ts us : List Tried) (place : ℕ) → has_commit (ts ++ us) place ≡ (has_commit ts place || has_commit us place)
commit_append ts us place = any_append (λ (t : Tried). nat_eq t.place place && is_commit t.outcome) ts us

module _ (first old : List Bool) (seen : List Tried) (t : Tried) (same : length old ≡ length first) (was : (place : ℕ) → place < length first → slice_index_or old place false ≡ (slice_index_or first place false || has_commit seen place)) where
  more : (place : ℕ) (b : Bool) → place < length first → (nat_eq t.place place && is_commit t.outcome) ≡ b → (slice_index_or old place false || b) ≡ (slice_index_or first place false || has_commit (seen ++ t ∷ []) place)
  more place b lt is =
      ap (λ (a : Bool). a || b) (was place lt) ∙ or_same (slice_index_or first place false) (has_commit seen place) b
      ∙ ap (λ (c : Bool). slice_index_or first place false || c) (ap (λ (c : Bool). has_commit seen place || c) (sym (one_commit t place ∙ is)) ∙ sym (commit_append seen (t ∷ []) place))

  -- a commit is marked
  pub marked : is_commit t.outcome ≡ true → t.place < length first → (place : ℕ) → place < length first → slice_index_or (slice_set old t.place true) place false ≡ (slice_index_or first place false || has_commit (seen ++ t ∷ []) place)
  marked committed here place lt =
      by_bool (λ b. nat_eq t.place place ≡ b → slice_index_or (slice_set old t.place true) place false ≡ (slice_index_or first place false || has_commit (seen ++ t ∷ []) place)) (nat_eq t.place place)
      (λ e _. (
      let at : t.place ≡ place = eqb-true t.place place e in
      subst (λ (n : ℕ). slice_index_or (slice_set old t.place true) n false ≡ true) at (get_or-set_same old t.place true false (omega (arith, here, same))) ∙ sym (or_true (slice_index_or old place false)) ∙ more place true lt (ap (λ b. b && is_commit t.outcome) e ∙ committed)
      ))
      (λ f _. get_or-set_other old t.place place true false (λ e. absurd (two_sides (sym (eq-eqb t.place place (sym e)) ∙ f))) ∙ sym (or_none (slice_index_or old place false)) ∙ more place false lt (ap (λ b. b && is_commit t.outcome) f)) refl
    where
      two_sides : true ≡ false → ⊥
      two_sides h = cc

      or_true : (b : Bool) → (b || true) ≡ true
      or_true true = refl
      or_true false = refl

  -- another script marks nothing
  pub unmarked : is_commit t.outcome ≡ false → (place : ℕ) → place < length first → slice_index_or old place false ≡ (slice_index_or first place false || has_commit (seen ++ t ∷ []) place)
  unmarked none place lt = sym (or_none (slice_index_or old place false)) ∙ more place false lt (ap (λ b. nat_eq t.place place && b) none ∙ and_none (nat_eq t.place place))
    where
      and_none : (b : Bool) → (b && false) ≡ false
      and_none true = refl
      and_none false = refl

  pub outside : length first ≤ t.place → (place : ℕ) → place < length first → slice_index_or old place false ≡ (slice_index_or first place false || has_commit (seen ++ t ∷ []) place)
  outside past place lt =
      by_bool (λ b. nat_eq t.place place ≡ b → slice_index_or old place false ≡ (slice_index_or first place false || has_commit (seen ++ t ∷ []) place)) (nat_eq t.place place)
      (λ e _. absurd (let at : t.place ≡ place = eqb-true t.place place e in omega (arith, at, past, lt)))
      (λ f _. sym (or_none (slice_index_or old place false)) ∙ more place false lt (ap (λ b. b && is_commit t.outcome) f)) refl

-- ---- read times

max_of : (a b : ℕ) → (max a b ≡ a) ⊎ (max a b ≡ b)
max_of a b = grind arith

some_key : RowKey
some_key = record { table = 0; row = 0 }

module _ (shards : List ShardState) where
  abbrev pub Bounds : ℕ → ℕ → Type 0
  Bounds count most = (p : ℕ) (k : RowKey) → p < count → (row_at (shard_at shards p) k).rts ≤ most

  abbrev pub Attained : ℕ → Type 0
  Attained most = (most ≡ 0) ⊎ ((p : ℕ) × (k : RowKey) × (p < length shards) × ((row_at (shard_at shards p) k).rts ≡ most))

  pub bounds_more : (count most time : ℕ) → Bounds count most → IsGreatestTime (shard_at shards count) time → Bounds (count + 1) (max most time)
  bounds_more count most time bounds greatest p k lt = elim (at_or_below p count lt) [
    | inl same ↦ (let le = greatest.bounds k in subst (λ (n : ℕ). (row_at (shard_at shards n) k).rts ≤ max most time) (sym same) (omega (arith, le)))
    | inr below ↦ (let le = bounds p k below in omega (arith, le))
  ]
    where
      at_or_below : (p q : ℕ) → p < q + 1 → (p ≡ q) ⊎ (p < q)
      at_or_below p q lt = grind arith

  pub attained_more : (count most time : ℕ) → count < length shards → Attained most → IsGreatestTime (shard_at shards count) time → Attained (max most time)
  attained_more count most time lt was greatest = elim (max_of most time) [
    | inl same ↦ subst Attained (sym same) was
    | inr same ↦ subst Attained (sym same) (inr (count, greatest.at, lt, greatest.attained))
  ]

  -- the shard of a row with a read time is that of its key's partition
  pub greatest_in : (most : ℕ) → 0 < length shards → AreOfPartitions shards → Bounds (length shards) most → Attained most → IsGreatestIn shards most
  greatest_in most some of bounds attained = record { bounds = within; at = (found attained).0; attained = (found attained).1 }
    where
      within : (k : RowKey) → (row_in shards k).rts ≤ most
      within k = bounds (k.row % length shards) k (omega (arith, some))

      at_key : (p : ℕ) (k : RowKey) → 0 < most → (row_at (shard_at shards p) k).rts ≡ most → (o : Option RowState) → get (shard_at shards p) k ≡ o → k.row % length shards ≡ p
      at_key p k some_time is None none = absurd (let zero_time : (unwrap_or (get (shard_at shards p) k) (resting None)).rts ≡ 0 = ap (λ (o : Option RowState). (unwrap_or o (resting None)).rts) none in omega (arith, zero_time, is, some_time))
      at_key p k some_time is (Some row) there = of p k (ap (λ (o : Option RowState). is_some o) there)

      found : Attained most → (k : RowKey) × ((row_in shards k).rts ≡ most)
      found (inl none) = (some_key, (let le = within some_key in omega (arith, le, none)))
      found (inr at) = elim (zero_or most) [
        | inl none ↦ (some_key, (let le = within some_key in omega (arith, le, none)))
        | inr more ↦ (at.1, subst (λ (n : ℕ). (row_at (shard_at shards n) at.1).rts ≡ most) (sym (at_key at.0 at.1 more at.3 (get (shard_at shards at.0) at.1) refl)) at.3)
      ]
        where
          zero_or : (n : ℕ) → (n ≡ 0) ⊎ (0 < n)
          zero_or n = grind arith

-- ---- one script

get_set_other : {X : Type 0} (xs : List X) (i j : ℕ) (x : X) → (i ≡ j → ⊥) → slice_get (slice_set xs i x) j ≡ slice_get xs j
get_set_other [] i j x other = refl
get_set_other (y ∷ ys) zero zero x other = absurd (other refl)
get_set_other (y ∷ ys) zero (suc j) x other = refl
get_set_other (y ∷ ys) (suc i) zero x other = refl
get_set_other (y ∷ ys) (suc i) (suc j) x other = get_set_other ys i j x (λ e. other (ap suc e))

map_set : {X Y : Type 0} (f : X → Y) (xs : List X) (i : ℕ) (x d : X) → f x ≡ f (slice_index_or xs i d) → i < length xs → map f (slice_set xs i x) ≡ map f xs
map_set f [] i x d same lt = refl
map_set f (y ∷ ys) zero x d same lt = ap (λ z. z ∷ map f ys) same
map_set f (y ∷ ys) (suc i) x d same lt = ap (λ zs. f y ∷ zs) (map_set f ys i x d same (omega (arith, lt)))

-- a request whose call is taken keeps its id, and it is the one that a script committed
pub left_at : (t : Tried) (rs : List Request) (r d : Request) → t.place < length rs → r.id ≡ (slice_index_or rs t.place d).id → is_commit t.outcome ≡ true → AreLeft (t ∷ []) rs (slice_set rs t.place r)
left_at t rs r d lt same commits = record {
  ids = map_set (λ (q : Request). q.id) rs t.place r d same lt;
  others = λ place none. get_set_other rs t.place place r (λ e. false≢true (sym (elsewhere (nat_eq t.place place) none) ∙ eq-eqb t.place place e));
}
  where
    elsewhere : (b : Bool) → ((b && is_commit t.outcome) || false) ≡ false → b ≡ false
    elsewhere true none = absurd (let e : is_commit t.outcome ≡ false = sym (or_false (is_commit t.outcome)) ∙ none in false≢true (sym e ∙ commits))
      where
        or_false : (c : Bool) → (c || false) ≡ c
        or_false true = refl
        or_false false = refl
    elsewhere false none = refl

pub none_added : {X : Type 0} (o : Option X) (xs : List X) → o ≡ None → xs ≡ xs ++ cons_option o []
none_added o xs none = sym (append-nil xs) ∙ ap (λ (p : Option _). xs ++ cons_option p []) (sym none)
