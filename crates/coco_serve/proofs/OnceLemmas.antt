-- What a history grows by is new to it: each id runs once.
use Rattle.std.proofs.Common.{◌≡◌, refl, sym, ap, subst, ◌∙◌, ℕ, ◌<◌, Bool, true, false, ◌||◌, cond, max, nat_eq, List, [], ◌∷◌, ◌++◌, map, Option, None, Some, append-nil, arith, filter, IsPermutation}
use Rattle.std.specs.Cmp.{nat_eq_equiv}
use Rattle.std.specs.List.{AllByRecursion, IsDistinct}
use Rattle.std.specs.Option.{option_or}
use Rattle.std.proofs.lemmas.List.{map-append}
use Rattle.std.proofs.lemmas.List.Folds.{list_any-append}
use Rattle.std.proofs.lemmas.List.Sorted.{IsPermutation-refl, list_any-IsPermutation}
use Rattle.std.proofs.lemmas.Bool.{or_left, or_right}
use Rattle.coco_types.specs.declared.call.Done.{Done}
use Rattle.coco_types.specs.declared.call.Request.{Request}
use Rattle.coco_ast.specs.Growth.{AreNew, GrowsBy}
use Rattle.coco_ast.specs.History.{History, AreAbove, all_dones, done_of, floor, forgotten_of, greatest_with, ids_of, is_held, kept, request_of}
use Rattle.coco_ast.specs.Tree.{Procedures}
use Rattle.coco_ast.proofs.GrowthLemmas.{dones_behind, done_of-append, new_have_no_done}
use Rattle.coco_ast.proofs.KeptLemmas.{follows}
use Rattle.coco_ast.proofs.Lists.{all_append, all_map, all_weaker, distinct_append}
use Rattle.coco_lines.specs.Batches.{Batch, joined}
use Rattle.coco_lines.specs.Classes.{new_of}
use Rattle.coco_lines.specs.Growing.{GrowsByBatches}
use Rattle.coco_lines.specs.declared.class.Class.{Class}
use Rattle.coco_serve.proofs.AgainLemmas.{apart_by, has, new_append}
use Rattle.coco_lines.proofs.ReplyLemmas.{are_new}

-- ---- ids with and without a Done

none_first : (a b : Option Done) → option_or a b ≡ None → a ≡ None
none_first None b h = refl
none_first (Some d) b h = h

none_of_cond : (b : Bool) (d : Done) (o : Option Done) → cond b (Some d) o ≡ None → (b ≡ false) × (o ≡ None)
none_of_cond true d o h = let e : Some d ≡ None = h in cc
none_of_cond false d o h = (refl, h)

pub has_none : (id : ℕ) (ds : List Done) → done_of id ds ≡ None → has id (map request_of ds) ≡ false
has_none id [] h = refl
has_none id (d ∷ ds) h = let s = none_of_cond (nat_eq id d.id) d (done_of id ds) h in ap (λ b. b || has id (map request_of ds)) s.0 ∙ has_none id ds s.1

none_passing : (p : Done → Bool) (id : ℕ) (ds : List Done) → done_of id ds ≡ None → done_of id (filter p ds) ≡ None
none_passing p id [] h = h
none_passing p id (d ∷ ds) h = by (p d) (none_of_cond (nat_eq id d.id) d (done_of id ds) h) (none_passing p id ds)
  where
    by : (b : Bool) → (nat_eq id d.id ≡ false) × (done_of id ds ≡ None) → (done_of id ds ≡ None → done_of id (filter p ds) ≡ None) → done_of id (cond b (d ∷ filter p ds) (filter p ds)) ≡ None
    by true s rest = ap (λ c. cond c (Some d) (done_of id (filter p ds))) s.0 ∙ rest s.1
    by false s rest = rest s.1

-- ---- what a history grows to

-- its Dones, and those of the requests
pub record Gains (h : History) (rs : List Request) (m : History) : Type 0 where
  pub more : List Done
  pub dones : all_dones m ≡ all_dones h ++ more
  pub each : IsPermutation rs (map request_of more)
  pub below : (ids : List ℕ) → AreAbove (floor m) ids → AreAbove (floor h) ids

above_less : (f : Option ℕ) (xs ids : List ℕ) → AreAbove (greatest_with f xs) ids → AreAbove f ids
above_less f [] ids above = above
above_less None (x ∷ xs) ids above = tt
above_less (Some n) (x ∷ xs) ids above = all_weaker (λ id. max n x < id) (λ id. n < id) (λ id h. omega (arith, h)) ids (above_less (Some (max n x)) xs ids above)

pub gains : (procs : Procedures) (h : History) (rs : List Request) (m : History) → GrowsBy h rs m → Gains h rs m
gains procs h [] m same = record {
  more = [];
  dones = ap all_dones same ∙ sym (append-nil (all_dones h));
  each = IsPermutation-refl [];
  below = λ ids above. subst (λ x. AreAbove (floor x) ids) same above;
}
gains procs h (r ∷ rs) m grows =
    let e = grows.0 in
    record {
      more = e.dones;
      dones = ap all_dones grows.3 ∙ dones_behind h e;
      each = grows.2.each;
      below = λ ids above. above_less (floor h) (ids_of (forgotten_of h.keep (kept h ++ e.dones))) ids
          (subst (λ f. AreAbove f ids) ((follows procs h e).forgotten) (subst (λ x. AreAbove (floor x) ids) grows.3 above));
    }

-- each request of a list is in it
all_here : (rs : List Request) → AllByRecursion (λ r. has r.id rs ≡ true) rs
all_here [] = tt
all_here (r ∷ rs) = (
  or_left (nat_eq r.id r.id) (has r.id rs) (nat_eq_equiv.refl r.id),
  all_weaker (λ (q : Request). has q.id rs ≡ true) (λ q. has q.id (r ∷ rs) ≡ true) (λ q h. or_right (nat_eq q.id r.id) (has q.id rs) h) rs (all_here rs),
)

all_gained : (h : History) (rs : List Request) (m : History) → Gains h rs m → AllByRecursion (λ r. has r.id (map request_of (all_dones m)) ≡ true) rs
all_gained h rs m g =
    all_weaker (λ (r : Request). has r.id rs ≡ true) (λ r. has r.id (map request_of (all_dones m)) ≡ true)
    (λ r here. ap (λ l. has r.id (map request_of l)) g.dones ∙ ap (has r.id) (map-append request_of (all_dones h) g.more)
    ∙ list_any-append (λ (q : Request). nat_eq r.id q.id) (map request_of (all_dones h)) (map request_of g.more)
    ∙ or_right (has r.id (map request_of (all_dones h))) (has r.id (map request_of g.more))
    (sym (list_any-IsPermutation (λ (q : Request). nat_eq r.id q.id) rs (map request_of g.more) g.each) ∙ here)) rs (all_here rs)

above_append : (f : Option ℕ) (xs ys : List ℕ) → AreAbove f xs → AreAbove f ys → AreAbove f (xs ++ ys)
above_append None xs ys here there = tt
above_append (Some n) xs ys here there = all_append (λ id. n < id) xs ys here there

abbrev ids_asked : List Request → List ℕ
ids_asked rs = map (λ (r : Request). r.id) rs

abbrev HaveNone : History → List Request → Type 0
HaveNone h rs = AllByRecursion (λ r. done_of r.id (all_dones h) ≡ None) rs

apart_from : (m : History) (r : Request) (qs : List Request) → has r.id (map request_of (all_dones m)) ≡ true → HaveNone m qs → AllByRecursion (λ id. nat_eq r.id id ≡ false) (ids_asked qs)
apart_from m r [] here none = tt
apart_from m r (q ∷ qs) here none =
    (apart_by r q (λ n. has n (map request_of (all_dones m))) here (has_none q.id (all_dones m) none.0) (nat_eq r.id q.id) refl, apart_from m r qs here none.1)

-- requests, and others that are new behind them, are new
new_with : (h : History) (rs qs : List Request) (m : History) → Gains h rs m → AreNew h rs → AreNew m qs → AreNew h (rs ++ qs)
new_with h rs qs m g one two =
    let none : HaveNone m qs = new_have_no_done m qs two in
    let ids : ids_asked (rs ++ qs) ≡ ids_asked rs ++ ids_asked qs = map-append (λ (r : Request). r.id) rs qs in
    record {
      distinct = subst (IsDistinct nat_eq) (sym ids) (distinct_append (ids_asked rs) (ids_asked qs) one.distinct two.distinct
          (all_map (λ (r : Request). r.id) (λ x. AllByRecursion (λ y. nat_eq x y ≡ false) (ids_asked qs)) rs
          (all_weaker (λ (r : Request). has r.id (map request_of (all_dones m)) ≡ true) (λ r. AllByRecursion (λ y. nat_eq r.id y ≡ false) (ids_asked qs)) (λ r here. apart_from m r qs here none) rs (all_gained h rs m g))));
      unkept = all_append (λ r. done_of r.id (kept h) ≡ None) rs qs one.unkept
          (all_weaker (λ (r : Request). done_of r.id (all_dones m) ≡ None) (λ r. done_of r.id (kept h) ≡ None)
          (λ r gone. none_passing (is_held h.keep (all_dones h)) r.id (all_dones h)
          (none_first (done_of r.id (all_dones h)) (done_of r.id g.more) (sym (done_of-append r.id (all_dones h) g.more) ∙ sym (ap (done_of r.id) g.dones) ∙ gone))) qs none);
      above = subst (AreAbove (floor h)) (sym ids) (above_append (floor h) (ids_asked rs) (ids_asked qs) one.above (g.below (ids_asked qs) two.above));
    }

none_is_new : (h : History) → AreNew h []
unfolding IsDistinct
none_is_new h = record { distinct = tt; unkept = tt; above = above_none (floor h) }
  where
    above_none : (f : Option ℕ) → AreAbove f []
    above_none None = tt
    above_none (Some n) = tt

pub all_new : (procs : Procedures) (h : History) (bs : List Batch) (cs : List (List Class)) (g : History) → GrowsByBatches procs h bs cs g → AreNew h (new_of (joined cs))
all_new procs h [] cs g grows = subst (λ l. AreNew h (new_of (joined l))) (sym grows.0) (none_is_new h)
all_new procs h (b ∷ bs) [] g grows = absurd grows
all_new procs h (b ∷ bs) (c ∷ cs) g grows =
    subst (AreNew h) (sym (new_append c (joined cs)))
    (new_with h (new_of c) (new_of (joined cs)) grows.0 (gains procs h (new_of c) grows.0 grows.1.grows) (are_new procs h b c grows.1.are) (all_new procs grows.0 bs cs g grows.2))

-- ---- nothing new

none_of_both : (xs ys : List Request) → xs ++ ys ≡ [] → (xs ≡ []) × (ys ≡ [])
none_of_both [] ys h = (refl, h)
none_of_both (x ∷ xs) ys h = let e : ◌≡◌ {A = List Request} (x ∷ xs ++ ys) [] = h in absurd (cc)

-- where no line is new the history stays
pub stays : (procs : Procedures) (h : History) (bs : List Batch) (cs : List (List Class)) (g : History) → GrowsByBatches procs h bs cs g → new_of (joined cs) ≡ [] → g ≡ h
stays procs h [] cs g grows none = grows.1
stays procs h (b ∷ bs) [] g grows none = absurd grows
stays procs h (b ∷ bs) (c ∷ cs) g grows none =
    let parts = none_of_both (new_of c) (new_of (joined cs)) (sym (new_append c (joined cs)) ∙ none) in
    stays procs grows.0 bs cs g grows.2 parts.1 ∙ subst (λ l. GrowsBy h l grows.0) parts.0 grows.1.grows
