-- The tail as it is told: the ends of attempts by their places, and the entries place by place.
use Rattle.std.proofs.Common.{◌≡◌, ℕ, ◌+◌, ◌<◌, ◌≤◌, Bool, true, false, cond, nat_eq, List, [], ◌∷◌, ◌++◌, All, length, take, slice_index_or, slice_set, vec_len, append_assoc, refl, sym, ap, ◌∙◌, subst, arith}
use Rattle.std.specs.Global.{Vec}
use Rattle.std.specs.List.{filter}
use Rattle.std.proofs.lemmas.Bool.{eq-eqb, eqb-true}
use Rattle.std.proofs.lemmas.List.{append-nil, get_or-set_other, get_or-set_same}
use Rattle.std.proofs.lemmas.List.Elements.{filter-append, filter_map-append}
use Rattle.coco_types.specs.declared.call.Request.{Request}
use Rattle.coco_occ.specs.declared.outcome.Ended.{Ended}
use Rattle.coco_occ.specs.declared.outcome.Tailed.{Tailed}
use Rattle.coco_occ.specs.declared.outcome.Tried.{Tried}
use Rattle.coco_order.specs.Execution.{Execution, Journal, Transcript, concat}
use Rattle.coco_order.specs.Outcome.{is_committed}
use Rattle.coco_worker.specs.Trying.{ends_of, unmade_of}
use Rattle.coco_parallel.specs.Ends.{AreCommitted, ends_at, has_commit}
use Rattle.coco_parallel.specs.Epochs.{execution_with}
use Rattle.coco_parallel.specs.Tails.{entry_at, tail_from}
use Rattle.coco_parallel.proofs.SlotLemmas.{by_bool}
use Rattle.coco_parallel.proofs.TailLemmas.{none_told, not_told, told}

-- ---- the ends at places

pub ends_append : (place : ℕ) (ts us : List Tried) → ends_at place (ts ++ us) ≡ ends_at place ts ++ ends_at place us
ends_append place ts us =
    ap ends_of (filter-append (λ (t : Tried). nat_eq t.place place) ts us)
    ∙ filter_map-append (λ (t : Tried). unmade_of t.outcome) (filter (λ (t : Tried). nat_eq t.place place) ts) (filter (λ (t : Tried). nat_eq t.place place) us)

module _ (first old : List (List Ended)) (seen : List Tried) (t : Tried) (same : length old ≡ length first) (was : (place : ℕ) → place < length first → slice_index_or old place [] ≡ slice_index_or first place [] ++ ends_at place seen) where
  more : (place : ℕ) (es : List Ended) → place < length first → es ≡ ends_at place (t ∷ []) → slice_index_or old place [] ++ es ≡ slice_index_or first place [] ++ ends_at place (seen ++ t ∷ [])
  more place es lt is =
      ap (λ (xs : List Ended). xs ++ es) (was place lt) ∙ append_assoc (slice_index_or first place []) (ends_at place seen) es
      ∙ ap (λ (xs : List Ended). slice_index_or first place [] ++ xs) (ap (λ (xs : List Ended). ends_at place seen ++ xs) is ∙ sym (ends_append place seen (t ∷ [])))

  elsewhere : (place : ℕ) → place < length first → nat_eq t.place place ≡ false → slice_index_or old place [] ≡ slice_index_or first place [] ++ ends_at place (seen ++ t ∷ [])
  elsewhere place lt other = sym (append-nil (slice_index_or old place [])) ∙ more place [] lt (ap (λ (z : Bool). ends_of (cond z (t ∷ []) [])) (sym other))

  -- the end of an attempt goes to those of its place
  pub end_added : (new : List Ended) → t.place < length first → new ≡ slice_index_or old t.place [] ++ ends_of (t ∷ [])
      → (place : ℕ) → place < length first → slice_index_or (slice_set old t.place new) place [] ≡ slice_index_or first place [] ++ ends_at place (seen ++ t ∷ [])
  end_added new here is place lt =
      by_bool (λ z. nat_eq t.place place ≡ z → slice_index_or (slice_set old t.place new) place [] ≡ slice_index_or first place [] ++ ends_at place (seen ++ t ∷ [])) (nat_eq t.place place)
      (λ e _. (
      let at : t.place ≡ place = eqb-true t.place place e in
      subst (λ (n : ℕ). slice_index_or (slice_set old t.place new) n [] ≡ new) at (get_or-set_same old t.place new [] (omega (arith, here, same)))
      ∙ is ∙ ap (λ (n : ℕ). slice_index_or old n [] ++ ends_of (t ∷ [])) at ∙ more place (ends_of (t ∷ [])) lt (ap (λ (z : Bool). ends_of (cond z (t ∷ []) [])) (sym e))
      ))
      (λ f _. get_or-set_other old t.place place new [] (λ e. absurd (two_sides (sym (eq-eqb t.place place (sym e)) ∙ f))) ∙ elsewhere place lt f) refl
    where
      two_sides : true ≡ false → ⊥
      two_sides h = cc

  pub end_past : length first ≤ t.place → (place : ℕ) → place < length first → slice_index_or old place [] ≡ slice_index_or first place [] ++ ends_at place (seen ++ t ∷ [])
  end_past past place lt =
      by_bool (λ z. nat_eq t.place place ≡ z → slice_index_or old place [] ≡ slice_index_or first place [] ++ ends_at place (seen ++ t ∷ [])) (nat_eq t.place place)
      (λ e _. absurd (let at : t.place ≡ place = eqb-true t.place place e in omega (arith, at, past, lt)))
      (λ f _. elsewhere place lt f) refl

-- ---- the entries

module _ (x : Execution) where
  abbrev with_ends : Request → List Ended → Tailed
  with_ends r ends = record { id = r.id; ends = ends }

  -- where all places committed nothing is told
  pub told_nothing : (rs : List Request) (flags : List Bool) → length flags ≡ length rs → All (λ (flag : Bool). flag ≡ true) flags → AreCommitted x flags → [] ≡ tail_from x 0 rs
  told_nothing rs flags count set are = sym (none_told x (entry_at x) (tail_from x) (λ _. refl) (λ _ _ _. refl) 0 rs
      (λ k lt. (let none : 0 + k ≡ k = omega arith in ap (is_committed x) none) ∙ sym (are k (omega (arith, count, lt))) ∙ set k false (omega (arith, count, lt))))

  pub told_skip : (tail : List Tailed) (rs : List Request) (place : ℕ) → place < length rs → is_committed x place ≡ true → tail ≡ tail_from x 0 (take place rs) → tail ≡ tail_from x 0 (take (place + 1) rs)
  told_skip tail rs place lt is was = was ∙ not_told x (entry_at x) (tail_from x) (λ _. refl) (λ _ _ _. refl) rs place lt is

  pub told_one : (tail : List Tailed) (rs : List Request) (place : ℕ) (r : Request) (ends : List Ended) → place < length rs → is_committed x place ≡ false → r ≡ slice_index_or rs place r → ends ≡ ends_at place (concat x.transcripts) → tail ≡ tail_from x 0 (take place rs)
      → tail ++ with_ends r ends ∷ [] ≡ tail_from x 0 (take (place + 1) rs)
  told_one tail rs place r ends lt none there is was =
      ap (λ (ds : List Tailed). ds ++ with_ends r ends ∷ []) was
      ∙ ap (λ (es : List Ended). tail_from x 0 (take place rs) ++ with_ends r es ∷ []) is
      ∙ ap (λ (q : Request). tail_from x 0 (take place rs) ++ entry_at x place q ∷ []) there
      ∙ told x (entry_at x) (tail_from x) (λ _. refl) (λ _ _ _. refl) rs place r lt none

-- the ends at the places that come are still those of their attempts
pub ends_still : (ends : List (List Ended)) (ts : List Tried) (count place : ℕ) (new : List Ended) → ((q : ℕ) → place ≤ q → q < count → slice_index_or ends q [] ≡ ends_at q ts)
    → (q : ℕ) → place + 1 ≤ q → q < count → slice_index_or (slice_set ends place new) q [] ≡ ends_at q ts
ends_still ends ts count place new are q le lt = get_or-set_other ends place q new [] (λ e. absurd (omega (arith, e, le))) ∙ are q (omega (arith, le)) lt

-- the flags of committed places, as the list that is lent
pub flags_are : (transcripts : List Transcript) (flags : Vec Bool) (lent : List Bool) (count : ℕ) → lent ≡ flags.items → vec_len flags ≡ count → ((place : ℕ) → place < count → slice_index_or flags.items place false ≡ has_commit (concat transcripts) place)
    → (length lent ≡ count) × ((journals : List Journal) → AreCommitted (execution_with journals transcripts) lent)
flags_are transcripts flags lent count same many each =
    let all : length lent ≡ count = ap length same ∙ sym flags.ok.0 ∙ many in
    (all, λ journals place lt. ap (λ (bs : List Bool). slice_index_or bs place false) same ∙ each place (omega (arith, lt, all)))
