-- Variables in slots, and writes in their places.
use Rattle.std.proofs.Common.{◌≡◌, ℕ, suc, ◌+◌, ◌<◌, ◌≤◌, Bool, true, false, cond, None, List, [], ◌∷◌, ◌++◌, length, min, take, drop, get_or, nat_eq, ap, sym, subst, refl, ◌∙◌, add-one, take-append-drop, drop-cons, arith}
use Rattle.std.proofs.Math.ListN.{set}
use Rattle.std.proofs.Math.Seq.{take-set-lt}
use Rattle.std.proofs.lemmas.List.{take-set, drop-set, get_or-take, get_or_past, set_past, length-take}
use Rattle.std.specs.Cmp.Lexicographic.{pointwise}
use Rattle.std.specs.Ordering.{match_ordering}
use Rattle.std.specs.declared.cmp.Ordering.{Ordering}
use Rattle.std.specs.declared.cmp.Ordering.TheVariants.{Equal}
use Rattle.coco_types.specs.RowKey.{RowKey, key_cmp}
use Rattle.coco_types.specs.declared.call.Write.{Write}
use Rattle.coco_ast.specs.Meaning.{Datum, Variables, variable_at, bound, place_of, put_write}
use Rattle.coco_ast.specs.Plans.{name_at}
use Rattle.coco_eval.specs.Slots.{names_in, paired, set_at, AreInSlots, HasValues, AreAlike}

pub set_whole : {A : Type 0} (xs : List A) (i : ℕ) (y : A) → i < length xs → set xs i y ≡ take i xs ++ (y ∷ drop (i + 1) xs)
set_whole {A} xs i y lt = sym (take-append-drop i (set xs i y)) ∙ ap (λ (f : List A). f ++ drop i (set xs i y)) (take-set xs i y) ∙ ap (λ (b : List A). take i xs ++ b) (drop-set xs i y lt)

pub drop_first : {A : Type 0} (xs : List A) (i : ℕ) (d : A) → i < length xs → drop i xs ≡ get_or xs i d ∷ drop (i + 1) xs
drop_first xs i d lt = drop-cons xs i d lt ∙ ap (λ (n : ℕ). get_or xs i d ∷ drop n xs) (sym (add-one i))

pub same_item : {A : Type 0} (xs : List A) (i : ℕ) (d e : A) → i < length xs → get_or xs i d ≡ get_or xs i e
same_item xs i d e lt = cc (drop_first xs i d lt, drop_first xs i e lt)

-- ---- variables

pub names_paired : (ns : List (List ℕ)) (vs : List Datum) → names_in (paired ns vs) ≡ ns
names_paired [] vs = refl
names_paired (n ∷ ns) [] = ap (λ (ms : List (List ℕ)). n ∷ ms) (names_paired ns [])
names_paired (n ∷ ns) (v ∷ vs) = ap (λ (ms : List (List ℕ)). n ∷ ms) (names_paired ns vs)

pub names_set : (vs : Variables) (x : List ℕ) (d : Datum) → names_in (set_at vs x d) ≡ names_in vs
names_set [] x d = refl
names_set (v ∷ vs) x d = step (names_set vs x d) (pointwise nat_eq v.0 x)
  where
    step : names_in (set_at vs x d) ≡ names_in vs → (b : Bool) → names_in (cond b ((v.0, d) ∷ vs) (v ∷ set_at vs x d)) ≡ v.0 ∷ names_in vs
    step rest true = refl
    step rest false = ap (λ (ms : List (List ℕ)). v.0 ∷ ms) rest

-- a variable's value stands at its place
pub value_paired : (ns : List (List ℕ)) (vs : List Datum) (x : List ℕ) → length vs ≤ length ns → variable_at (paired ns vs) x ≡ get_or vs (place_of ns x) None
value_paired [] [] x le = refl
value_paired [] (v ∷ vs) x le = absurd (omega arith)
value_paired (n ∷ ns) [] x le = step (pointwise nat_eq n x) (value_paired ns [] x (omega arith))
  where
    step : (b : Bool) → variable_at (paired ns []) x ≡ None → cond b None (variable_at (paired ns []) x) ≡ None
    step true rest = refl
    step false rest = rest
value_paired (n ∷ ns) (v ∷ vs) x le = step (pointwise nat_eq n x) (value_paired ns vs x (omega arith))
  where
    step : (b : Bool) → variable_at (paired ns vs) x ≡ get_or vs (place_of ns x) None → cond b v (variable_at (paired ns vs) x) ≡ get_or (v ∷ vs) (cond b 0 (suc (place_of ns x))) None
    step true rest = refl
    step false rest = rest

-- it is set at its place
pub set_paired : (ns : List (List ℕ)) (vs : List Datum) (x : List ℕ) (d : Datum) → length vs ≡ length ns → set_at (paired ns vs) x d ≡ paired ns (set vs (place_of ns x) d)
set_paired [] [] x d same = refl
set_paired [] (v ∷ vs) x d same = absurd (omega arith)
set_paired (n ∷ ns) [] x d same = absurd (omega arith)
set_paired (n ∷ ns) (v ∷ vs) x d same = step (pointwise nat_eq n x) (set_paired ns vs x d (omega arith))
  where
    step : (b : Bool) → set_at (paired ns vs) x d ≡ paired ns (set vs (place_of ns x) d) → cond b ((n, d) ∷ paired ns vs) ((n, v) ∷ set_at (paired ns vs) x d) ≡ paired (n ∷ ns) (set (v ∷ vs) (cond b 0 (suc (place_of ns x))) d)
    step true rest = refl
    step false rest = ap (λ (us : Variables). (n, v) ∷ us) rest

-- names have the same values in lists that begin alike
pub paired_by : (ns : List (List ℕ)) (us vs : List Datum) → ((i : ℕ) → i < length ns → get_or us i None ≡ get_or vs i None) → paired ns us ≡ paired ns vs
paired_by [] us vs same = refl
paired_by (n ∷ ns) [] [] same = refl
paired_by (n ∷ ns) [] (v ∷ vs) same = joined (same 0 (omega arith)) (paired_by ns [] vs (λ i lt. same (suc i) (omega arith)))
  where
    joined : None ≡ v → paired ns [] ≡ paired ns vs → (n, None) ∷ paired ns [] ≡ (n, v) ∷ paired ns vs
    joined one others = cc
paired_by (n ∷ ns) (u ∷ us) [] same = joined (same 0 (omega arith)) (paired_by ns us [] (λ i lt. same (suc i) (omega arith)))
  where
    joined : u ≡ None → paired ns us ≡ paired ns [] → (n, u) ∷ paired ns us ≡ (n, None) ∷ paired ns []
    joined one others = cc
paired_by (n ∷ ns) (u ∷ us) (v ∷ vs) same = joined (same 0 (omega arith)) (paired_by ns us vs (λ i lt. same (suc i) (omega arith)))
  where
    joined : u ≡ v → paired ns us ≡ paired ns vs → (n, u) ∷ paired ns us ≡ (n, v) ∷ paired ns vs
    joined one others = cc

nothing_paired : (ns : List (List ℕ)) (x : List ℕ) → variable_at (paired ns []) x ≡ None
nothing_paired [] x = refl
nothing_paired (n ∷ ns) x = step (pointwise nat_eq n x) (nothing_paired ns x)
  where
    step : (b : Bool) → variable_at (paired ns []) x ≡ None → cond b None (variable_at (paired ns []) x) ≡ None
    step true rest = refl
    step false rest = rest

-- parameters have their arguments, and variables behind them none
alike_more : (ps more : List (List ℕ)) (args : List Datum) → length args ≡ length ps → AreAlike (bound ps args) (paired (ps ++ more) args)
alike_more [] more [] same x = nothing_paired more x
alike_more [] more (a ∷ args) same x = absurd (omega arith)
alike_more (p ∷ ps) more [] same x = absurd (omega arith)
alike_more (p ∷ ps) more (a ∷ args) same x = ap (cond (pointwise nat_eq p x) a) (alike_more ps more args (omega arith) x)

pub alike_bound : (ns ps : List (List ℕ)) (args : List Datum) → take (length ps) ns ≡ ps → length args ≡ length ps → AreAlike (bound ps args) (paired ns args)
alike_bound ns ps args front same =
    subst (λ (ms : List (List ℕ)). AreAlike (bound ps args) (paired ms args)) (ap (λ (f : List (List ℕ)). f ++ drop (length ps) ns) (sym front) ∙ take-append-drop (length ps) ns)
    (alike_more ps (drop (length ps) ns) args same)

-- ---- slots

module _ (ns : List (List ℕ)) (list : List Datum) (count : ℕ) (vars : Variables) (in_slots : AreInSlots ns list count) (view : paired ns (take count list) ≡ vars) where
  length_front : length (take count list) ≡ count
  length_front = omega (arith, length-take count list, in_slots.enough)

  named_so : names_in vars ≡ ns
  named_so = ap names_in (sym view) ∙ names_paired ns (take count list)

  slot_of : (slot : ℕ) → place_of ns (name_at (names_in vars) slot) ≡ min slot count
  slot_of slot = ap (λ (ms : List (List ℕ)). place_of ns (name_at ms slot)) named_so ∙ in_slots.slots slot ∙ ap (λ (n : ℕ). min slot n) (sym in_slots.as_many)

  found : (slot : ℕ) → variable_at vars (name_at (names_in vars) slot) ≡ get_or (take count list) (min slot count) None
  found slot = ap (λ (us : Variables). variable_at us (name_at (names_in vars) slot)) (sym view)
      ∙ value_paired ns (take count list) (name_at (names_in vars) slot) (omega (arith, length_front, in_slots.as_many)) ∙ ap (λ (n : ℕ). get_or (take count list) n None) (slot_of slot)

  put_in : (slot : ℕ) (d : Datum) → set_at vars (name_at (names_in vars) slot) d ≡ paired ns (set (take count list) (min slot count) d)
  put_in slot d = ap (λ (us : Variables). set_at us (name_at (names_in vars) slot) d) (sym view)
      ∙ set_paired ns (take count list) (name_at (names_in vars) slot) d (omega (arith, length_front, in_slots.as_many)) ∙ ap (λ (n : ℕ). paired ns (set (take count list) n d)) (slot_of slot)

  -- a value is read in its slot, and beyond the last one there is none
  pub read_slot : (slot : ℕ) (d : Datum) → slot < count → d ≡ get_or list slot d → d ≡ variable_at vars (name_at (names_in vars) slot)
  read_slot slot d lt is =
      let at : min slot count ≡ slot = omega arith in
      let within : slot < length list = omega (arith, in_slots.enough) in
      sym (found slot ∙ ap (λ (n : ℕ). get_or (take count list) n None) at ∙ get_or-take count list slot None lt ∙ same_item list slot None d within ∙ sym is)

  pub no_slot : (slot : ℕ) → count ≤ slot → None ≡ variable_at vars (name_at (names_in vars) slot)
  no_slot slot le = sym (found slot ∙ get_or_past (take count list) (min slot count) None (omega (arith, length_front)))

  -- it is set there, and beyond the last one nothing is
  pub set_slot : (slot : ℕ) (d e : Datum) → slot < count → d ≡ e → paired ns (take count (set list slot d)) ≡ set_at vars (name_at (names_in vars) slot) e
  set_slot slot d e lt same =
      let at : min slot count ≡ slot = omega arith in
      ap (paired ns) (take-set-lt count list slot d lt) ∙ ap (λ (n : ℕ). paired ns (set (take count list) n d)) (sym at) ∙ sym (put_in slot d) ∙ ap (set_at vars (name_at (names_in vars) slot)) same

  pub set_nothing : (slot : ℕ) (d : Datum) → count ≤ slot → vars ≡ set_at vars (name_at (names_in vars) slot) d
  set_nothing slot d le = sym (put_in slot d ∙ ap (paired ns) (set_past (take count list) (min slot count) d (omega (arith, length_front))) ∙ view)

-- the first values of a list are those that it was given
pub begun_with : (ns : List (List ℕ)) (values these : List Datum) (count : ℕ) → count ≡ length ns → HasValues count these values → paired ns (take count values) ≡ paired ns these
begun_with ns values these count many has =
    paired_by ns (take count values) these (λ i lt. let within : i < count = omega arith in get_or-take count values i None within ∙ has.each i within)

-- ---- writes

put_equal : (k : RowKey) (d : Datum) (w : Write) (ws : List Write) → key_cmp k w.key ≡ Equal → put_write k d (w ∷ ws) ≡ record { key = k; value = d } ∷ ws
put_equal k d w ws e = ap (λ (o : Ordering). match_ordering o (record { key = k; value = d } ∷ w ∷ ws) (record { key = k; value = d } ∷ ws) (w ∷ put_write k d ws)) e

pub put_write-found : (k : RowKey) (d : Datum) (ws : List Write) (i : ℕ) (r : Write) → i < length ws → key_cmp k (get_or ws i r).key ≡ Equal
    → put_write k d ws ≡ take i ws ++ put_write k d (drop i ws) → put_write k d ws ≡ set ws i (record { key = k; value = d })
put_write-found k d ws i r lt e left =
    left ∙ ap (λ (b : List Write). take i ws ++ put_write k d b) (drop_first ws i r lt) ∙ ap (λ (b : List Write). take i ws ++ b) (put_equal k d (get_or ws i r) (drop (i + 1) ws) e)
    ∙ sym (set_whole ws i (record { key = k; value = d }) lt)
