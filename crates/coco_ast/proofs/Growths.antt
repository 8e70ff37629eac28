-- Growth by one list of requests after another, and the compacted history.
use Rattle.std.proofs.Common.{◌≡◌, refl, sym, ap, ◌∙◌, subst, append-nil, append_assoc, ◌↔◌, ℕ, Bool, true, false, cond, nat_eq, filter, List, [], ◌∷◌, ◌++◌, None, Some, arith}
use Rattle.std.specs.List.{AllByRecursion, IsDistinct}
use Rattle.std.proofs.lemmas.Bool.Decides.{nat_tests}
use Rattle.coco_types.specs.declared.call.Done.{Done}
use Rattle.coco_types.specs.declared.call.Request.{Request}
use Rattle.coco_ast.specs.Growth.{GrowsBy, GrowsByAll, GrowsInTurn}
use Rattle.coco_ast.specs.GrowthLaws.{GrowsThrough, KeepsOn, KeptAreDones}
use Rattle.coco_ast.specs.History.{Epoch, History, IsPrefixOf, StayAlike, all_dones, compacted, done_of, dones_in, epoch_dones, floor_of, followed_by_all, ids_of, is_held, kept_of, rows_after}
use Rattle.coco_ast.specs.Tree.{Procedures}
use Rattle.coco_ast.proofs.GrowthLemmas.{growth_keeps, rows_after-append}
use Rattle.coco_ast.proofs.KeptLemmas.{floor_behind, kept_behind}

-- ---- in turn

itself : (h : History) → KeepsOn h h
itself h = record { prefix = (refl, refl, ([], sym (append-nil h.epochs))); stays = λ id d found. found }

pub prefix_trans : (f g h : History) → IsPrefixOf f g → IsPrefixOf g h → IsPrefixOf f h
prefix_trans f g h first second =
    (first.0 ∙ second.0, first.1 ∙ second.1, (first.2.0 ++ second.2.0, second.2.1 ∙ ap (λ es. es ++ second.2.0) first.2.1 ∙ append_assoc f.epochs first.2.0 second.2.0))

pub growths_keep : (h : History) (lists : List (List Request)) (g : History) → GrowsByAll h lists g → KeepsOn h g
growths_keep h [] g same = subst (λ x. KeepsOn h x) (sym same) (itself h)
growths_keep h (rs ∷ more) g grows =
    let one = growth_keeps h rs grows.0 grows.1 in
    let rest = growths_keep grows.0 more g grows.2 in
    record { prefix = prefix_trans h grows.0 g one.prefix rest.prefix; stays = λ id d found. rest.stays id d (one.stays id d found) }

module _ (Grows : History → List Request → History → Type 0) where
  pub turns_split : (h : History) (first more : List (List Request)) (g : History) → GrowsInTurn Grows h (first ++ more) g → (between : History) × GrowsInTurn Grows h first between × GrowsInTurn Grows between more g
  turns_split h [] more g grows = (h, refl, grows)
  turns_split h (rs ∷ first) more g grows =
      let rest = turns_split grows.0 first more g grows.2 in
      (rest.0, (grows.0, grows.1, rest.1), rest.2)

  pub turns_joined : (h : History) (first more : List (List Request)) (between g : History) → GrowsInTurn Grows h first between → GrowsInTurn Grows between more g → GrowsInTurn Grows h (first ++ more) g
  turns_joined h [] more between g same then_more = subst (λ x. GrowsInTurn Grows x more g) same then_more
  turns_joined h (rs ∷ first) more between g grows then_more = (grows.0, grows.1, turns_joined grows.0 first more between g grows.2 then_more)

pub growths_split : (h : History) (first more : List (List Request)) (g : History) → GrowsByAll h (first ++ more) g ↔ GrowsThrough h first more g
growths_split h first more g = (turns_split GrowsBy h first more g, λ through. turns_joined GrowsBy h first more through.0 g through.1 through.2)

-- ---- kept Dones

nobody : (id : ℕ) (ds : List Done) → AllByRecursion (λ x. nat_eq id x ≡ false) (ids_of ds) → done_of id ds ≡ None
nobody id [] apart = refl
nobody id (d ∷ ds) apart = ap (λ b. cond b (Some d) (done_of id ds)) apart.0 ∙ nobody id ds apart.1

passing_apart : (p : Done → Bool) (id : ℕ) (ds : List Done) → AllByRecursion (λ x. nat_eq id x ≡ false) (ids_of ds) → AllByRecursion (λ x. nat_eq id x ≡ false) (ids_of (filter p ds))
passing_apart p id [] apart = tt
passing_apart p id (d ∷ ds) apart =
    elim (p d) as (λ b. AllByRecursion (λ x. nat_eq id x ≡ false) (ids_of (cond b (d ∷ filter p ds) (filter p ds)))) [
      | true ↦ (apart.0, passing_apart p id ds apart.1)
      | false ↦ passing_apart p id ds apart.1
    ]

same_id : (m n : ℕ) → nat_eq m n ≡ true → m ≡ n
same_id m n h = grind (arith, nat_tests)

one_more_passing : (p : Done → Bool) (id : ℕ) (d x : Done) (xs : List Done) → AllByRecursion (λ y. nat_eq x.id y ≡ false) (ids_of xs) → (done_of id (filter p xs) ≡ Some d → done_of id xs ≡ Some d)
    → (b c : Bool) → nat_eq id x.id ≡ c → done_of id (cond b (x ∷ filter p xs) (filter p xs)) ≡ Some d → cond c (Some x) (done_of id xs) ≡ Some d
one_more_passing p id d x xs apart rest true true e found = sym (ap (λ c. cond c (Some x) (done_of id (filter p xs))) e) ∙ found
one_more_passing p id d x xs apart rest true false e found = rest (sym (ap (λ c. cond c (Some x) (done_of id (filter p xs))) e) ∙ found)
one_more_passing p id d x xs apart rest false true e found =
    let gone = nobody x.id (filter p xs) (passing_apart p x.id xs apart) in
    let none : None ≡ Some d = sym gone ∙ ap (λ i. done_of i (filter p xs)) (sym (same_id id x.id e)) ∙ found in
    cc
one_more_passing p id d x xs apart rest false false e found = rest found

-- what is found among those that pass is found among all, where ids are distinct
passing_found : (p : Done → Bool) (id : ℕ) (d : Done) (ds : List Done) → IsDistinct nat_eq (ids_of ds) → done_of id (filter p ds) ≡ Some d → done_of id ds ≡ Some d
unfolding IsDistinct
passing_found p id d [] once found = found
passing_found p id d (x ∷ xs) once found = one_more_passing p id d x xs once.0 (passing_found p id d xs once.1) (p x) (nat_eq id x.id) refl found

pub kept_are_dones : (h : History) → KeptAreDones h
kept_are_dones h ordered id d found = passing_found (is_held h.keep (all_dones h)) id d (all_dones h) ordered.once found

-- ---- compacted

dones_in-append : (es fs : List Epoch) → dones_in (es ++ fs) ≡ dones_in es ++ dones_in fs
dones_in-append [] fs = refl
dones_in-append (e ∷ es) fs = ap (λ l. e.dones ++ l) (dones_in-append es fs) ∙ sym (append_assoc e.dones (dones_in es) (dones_in fs))

dones_then : (h : History) (es : List Epoch) → all_dones (followed_by_all h es) ≡ all_dones h ++ dones_in es
dones_then h es = ap (λ l. h.base.kept ++ l) (dones_in-append h.epochs es) ∙ sym (append_assoc h.base.kept (epoch_dones h) (dones_in es))

pub compacted_alike : (ps : Procedures) (h : History) (n : ℕ) → StayAlike ps h (compacted ps n h)
compacted_alike ps h n es _ _ = record {
  kept = ap (kept_of h.keep) (dones_then h es) ∙ kept_behind h.keep (all_dones h) (dones_in es);
  floor = ap (floor_of h.keep h.base.floor) (dones_then h es) ∙ floor_behind h.keep h.base.floor (all_dones h) (dones_in es);
  rows = ap (rows_after ps h.base.rows) (dones_in-append h.epochs es) ∙ rows_after-append ps h.base.rows (epoch_dones h) (dones_in es);
}
