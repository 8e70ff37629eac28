-- The same lines again, where none was refused for want of room: each comes on the history that they left.
use Rattle.std.proofs.Common.{◌≡◌, refl, sym, ap, subst, ◌∙◌, ℕ, zero, suc, ◌+◌, ◌<◌, ◌≤◌, List, [], ◌∷◌, ◌++◌, length, Option, None, Some, append_assoc, arith, inl, inr, ◌⊎◌}
use Rattle.std.specs.Prelude.{slice_get}
use Rattle.std.specs.List.{AllByRecursion}
use Rattle.std.proofs.lemmas.List.{length-append}
use Rattle.coco_ast.specs.History.{History, IsOrdered}
use Rattle.coco_ast.specs.Tree.{Procedures}
use Rattle.coco_lines.specs.Batches.{Batch, joined}
use Rattle.coco_lines.specs.Classes.{Known, and_known, known_in, new_in, AreClasses}
use Rattle.coco_lines.specs.Growing.{GrowsByBatches}
use Rattle.coco_lines.specs.Lines.{Line}
use Rattle.coco_lines.specs.declared.class.Class.{Class}
use Rattle.coco_serve.specs.Again.{ComesAgain, IsNotFull, StandsAt}
use Rattle.coco_serve.proofs.ReturnLemmas.{comes_again}
use Rattle.coco_serve.proofs.SpentLemmas.{IsSpent, all_spent, spent_stay}

-- ---- places in lists

within : {X : Type 0} (i : ℕ) (xs : List X) (x : X) → slice_get xs i ≡ Some x → i < length xs
within i [] x h = let e : None ≡ Some x = h in absurd (cc)
within zero (y ∷ xs) x h = omega arith
within (suc i) (y ∷ xs) x h = let rest = within i xs x h in omega (arith, rest)

at_front : {X : Type 0} (i : ℕ) (xs ys : List X) (x : X) → slice_get xs i ≡ Some x → slice_get (xs ++ ys) i ≡ Some x
at_front i [] ys x h = let e : None ≡ Some x = h in absurd (cc)
at_front zero (y ∷ xs) ys x h = h
at_front (suc i) (y ∷ xs) ys x h = at_front i xs ys x h

heads : {X : Type 0} (x y : X) (xs ys : List X) → x ∷ xs ≡ y ∷ ys → (x ≡ y) × (xs ≡ ys)
heads x y xs ys h = (cc, cc)

-- of two fronts of a list the shorter one is a front of the other
front_of : {X : Type 0} (P : X → Type 0) (xs ys us vs : List X) → xs ++ ys ≡ us ++ vs → length xs ≤ length us → AllByRecursion P us → AllByRecursion P xs
front_of P [] ys us vs same fewer all = tt
front_of P (x ∷ xs) ys [] vs same fewer all = absurd (omega (arith, fewer))
front_of P (x ∷ xs) ys (u ∷ us) vs same fewer all =
    let parts = heads x u (xs ++ ys) (us ++ vs) same in
    (subst P (sym parts.0) all.0, front_of P xs ys us vs parts.1 (omega (arith, fewer)) all.1)

-- ---- the batch of a line

abbrev StandsBehind : ℕ → List Line → List Line → List Class → Line → Class → Type 0
StandsBehind j xs ys ds line c = (i : ℕ) × (j ≡ length xs + i) × StandsAt i ys ds line c

in_one : (procs : Procedures) (k : Known) (j : ℕ) (xs ys : List Line) (cs ds : List Class) (line : Line) (c : Class) → AreClasses procs k xs cs → StandsAt j (xs ++ ys) (cs ++ ds) line c
    → StandsAt j xs cs line c ⊎ StandsBehind j xs ys ds line c
in_one procs k j [] ys cs ds line c are stands = inr (j, omega arith, subst (λ l. StandsAt j ys (l ++ ds) line c) are stands)
in_one procs k j (x ∷ xs) ys [] ds line c are stands = absurd are
in_one procs k zero (x ∷ xs) ys (d ∷ cs) ds line c are stands = inl stands
in_one procs k (suc j) (x ∷ xs) ys (d ∷ cs) ds line c are stands =
    elim (in_one procs (and_known k (new_in d)) j xs ys cs ds line c are.1 stands) [
      | inl here ↦ inl here
      | inr there ↦ inr (there.0, (let e = there.1 in omega (arith, e)), there.2)
    ]

-- the batches around it, and the history before it
record StandsIn (procs : Procedures) (h : History) (bs : List Batch) (k : History) (j : ℕ) (line : Line) (c : Class) : Type 0 where
  pub earlier : List Batch
  pub own : Batch
  pub later : List Batch
  pub es : List (List Class)
  pub now : List Class
  pub fs : List (List Class)
  pub m : History
  pub place : ℕ
  pub rest : List Line
  pub lines : joined bs ≡ joined earlier ++ rest
  pub behind : length (joined earlier) ≤ j
  pub grown : GrowsByBatches procs h earlier es m
  pub grows : GrowsByBatches procs m (own ∷ later) (now ∷ fs) k
  pub stands : StandsAt place own now line c

stands_in : (procs : Procedures) (h : History) (bs : List Batch) (cs : List (List Class)) (k : History) (j : ℕ) (line : Line) (c : Class) → GrowsByBatches procs h bs cs k
    → StandsAt j (joined bs) (joined cs) line c → StandsIn procs h bs k j line c
stands_in procs h [] cs k j line c grows stands = let e : ◌≡◌ {A = Option Line} None (Some line) = stands.0 in absurd (cc)
stands_in procs h (b ∷ bs) [] k j line c grows stands = absurd grows
stands_in procs h (b ∷ bs) (d ∷ cs) k j line c grows stands =
    elim (in_one procs (known_in h) j b (joined bs) d (joined cs) line c grows.1.are stands) [
      | inl here ↦ record {
        earlier = [];
        own = b;
        later = bs;
        es = [];
        now = d;
        fs = cs;
        m = h;
        place = j;
        rest = b ++ joined bs;
        lines = refl;
        behind = omega arith;
        grown = (refl, refl);
        grows = grows;
        stands = here;
      }
      | inr there ↦ (
          let in_rest = stands_in procs grows.0 bs cs k there.0 line c grows.2 there.2 in
          let at = there.1 in
          let deep = in_rest.behind in
          let long = length-append b (joined in_rest.earlier) in
          record {
            earlier = b ∷ in_rest.earlier;
            own = in_rest.own;
            later = in_rest.later;
            es = d ∷ in_rest.es;
            now = in_rest.now;
            fs = in_rest.fs;
            m = in_rest.m;
            place = in_rest.place;
            rest = in_rest.rest;
            lines = ap (λ l. b ++ l) in_rest.lines ∙ sym (append_assoc b (joined in_rest.earlier) in_rest.rest);
            behind = omega (arith, at, deep, long);
            grown = (grows.0, grows.1, in_rest.grown);
            grows = in_rest.grows;
            stands = in_rest.stands;
          })
    ]

-- ---- the same lines

pub each_again : (procs : Procedures) (before g k : History) (batches repeated : List Batch) (cs ds : List (List Class)) (others : List Line) (i : ℕ) (line : Line) (first second : Class)
    → IsOrdered before → AllByRecursion IsNotFull (joined cs) → joined repeated ≡ joined batches ++ others → GrowsByBatches procs before batches cs g → GrowsByBatches procs g repeated ds k
    → StandsAt i (joined batches) (joined cs) line first → slice_get (joined ds) i ≡ Some second → ComesAgain procs g g k line first second
each_again procs before g k batches repeated cs ds others i line first second ordered fit lines grew grows was now =
    let there = stands_in procs g repeated ds k i line second grows (ap (λ l. slice_get l i) lines ∙ at_front i (joined batches) others line was.0, now) in
    let deep = there.behind in
    let inside = within i (joined batches) line was.0 in
    let spent = front_of (IsSpent procs g) (joined there.earlier) there.rest (joined batches) others (sym there.lines ∙ lines) (omega (arith, deep, inside)) (all_spent procs before batches cs g grew fit) in
    let same : there.m ≡ g = spent_stay procs g g there.earlier there.es there.m refl spent there.grown in
    subst (λ m. ComesAgain procs g m k line first second) same
    (comes_again procs before g there.m k batches there.earlier there.later there.own cs there.es there.fs there.now i there.place line first second ordered grew there.grown there.grows was there.stands)
