-- The seats of all notes are joined into one.
use Rattle.std.proofs.Common.{◌≡◌, ℕ, suc, ◌+◌, List, [], ◌∷◌, ◌++◌, map, length, false, Option, Some, None, refl, sym, ap, ◌∙◌, subst, arith, length-append, All}
use Rattle.std.specs.Prelude.{slice_get, sum_by}
use mathlib.Core.Option as opt
use lib.ListN.{get_elem?}
use Rattle.std.proofs.lemmas.List.{map-append}
use Rattle.std.proofs.lemmas.List.Elements.{All-head, All-tail, All-cons, All-nil}
use Rattle.std.proofs.lemmas.List.Sums.{sum_by-cons}
use Rattle.atomic_table.specs.Seated.{TableId}
use Rattle.atomic_table.specs.Table.{Me, Joins, Final, Seen}
use Rattle.coco_seen.specs.declared.view.View.{View}
use Rattle.coco_seen.specs.Closes.{StandsFor}
use Rattle.coco_seen.specs.Notes.{Known, known, carried, ComesFrom, IsSeatOf}
use Rattle.coco_seen.specs.Rules.{Kept, how_often, once_below, places}
use Rattle.coco_seen.specs.Steps.{joined, spent}
use Rattle.coco_seen.proofs.Lists.{often_append}
use Rattle.coco_seen.proofs.Keeping.{joins_it, Ends, ends_so}

module _ {A : Type 0} where
  pub holds_of : (P : A → Type 0) (xs : List A) (x : A) (rest : List A) → All P (xs ++ x ∷ rest) → P x
  holds_of P [] x rest h = All-head P x rest h
  holds_of P (y ∷ ys) x rest h = holds_of P ys x rest (All-tail P y (ys ++ x ∷ rest) h)

  pub All-front : (P : A → Type 0) (xs ys : List A) → All P (xs ++ ys) → All P xs
  All-front P [] ys h = All-nil P
  All-front P (x ∷ xs) ys h = All-cons P x xs (All-head P x (xs ++ ys) h) (All-front P xs ys (All-tail P x (xs ++ ys) h))

  pub All-back : (P : A → Type 0) (xs ys : List A) → All P (xs ++ ys) → All P ys
  All-back P [] ys h = h
  All-back P (x ∷ xs) ys h = All-back P xs ys (All-tail P x (xs ++ ys) h)

abbrev calls_of : {E R : Type 0} → Known E R → List ℕ
calls_of n = map (λ c. c.0) n.calls

module _ {S E R : Type 0} where
  -- the seat of the first note stands for it
  pub stands_first : (lock : TableId) (number : ℕ) (me : Me (Option S) (View E R)) (note : Known E R) → IsSeatOf number me → known lock number me.0 ≡ note → note.holds ≡ false → StandsFor (note ∷ []) me.0
  stands_first lock number me note is same free = subst (λ (n : Known E R). StandsFor (n ∷ []) me.0) same record {
    some = λ e. let one : me.0.marks ≡ number ∷ [] = is.marks in absurd cc;
    all = ap length is.marks;
    free = ap (λ n. n.holds) same ∙ free;
    root = is.root;
    known = ap (λ rs. slice_get rs 0) is.roots;
    rooted = λ from all. All-cons (λ (n : Known E R). n.root ≡ Some from) (known lock number me.0) []
        (ap (λ rs. slice_get rs 0) is.roots ∙ ap Some (sym (All-head (λ (r : R). from ≡ r) is.root [] (subst (All (λ (r : R). from ≡ r)) is.roots all))))
        (All-nil (λ (n : Known E R). n.root ≡ Some from));
    placed = λ log all. All-cons (λ (n : Known E R). All (λ (c : ℕ × E). slice_get log c.0 ≡ Some c.1) n.calls) (known lock number me.0) [] all (All-nil (λ (n : Known E R). All (λ (c : ℕ × E). slice_get log c.0 ≡ Some c.1) n.calls));
    once = λ p. omega (arith, sum_by-cons (λ (n : Known E R). how_often p (calls_of n)) (known lock number me.0) []);
    sized = omega (arith, sum_by-cons (λ (n : Known E R). length n.calls) (known lock number me.0) []);
  }

  -- and after a join it stands for one note more
  pub stands_more : (lock : TableId) (number : ℕ) (v : View E R) (me : Me (Option S) (View E R)) (note : Known E R) (notes : List (Known E R)) → StandsFor notes v → IsSeatOf number me → known lock number me.0 ≡ note → StandsFor (note ∷ notes) (joined v me.0)
  stands_more lock number v me note notes old is same = subst (λ (n : Known E R). StandsFor (n ∷ notes) (joined v me.0)) same record {
    some = λ e. absurd (omega (arith, length-append v.marks me.0.marks, ap length e, ap length is.marks));
    all = omega (arith, length-append v.marks me.0.marks, old.all, ap length is.marks);
    free = old.free;
    root = old.root;
    known = first v.roots me.0.roots old.root old.known;
    rooted = λ from all. All-cons (λ (n : Known E R). n.root ≡ Some from) (known lock number me.0) notes
        (ap (λ rs. slice_get rs 0) is.roots ∙ ap Some (sym (All-head (λ (r : R). from ≡ r) is.root [] (subst (All (λ (r : R). from ≡ r)) is.roots (All-back (λ (r : R). from ≡ r) v.roots me.0.roots all)))))
        (old.rooted from (All-front (λ (r : R). from ≡ r) v.roots me.0.roots all));
    placed = λ log all. All-cons (λ (n : Known E R). All (λ (c : ℕ × E). slice_get log c.0 ≡ Some c.1) n.calls) (known lock number me.0) notes
        (All-back (λ (c : ℕ × E). slice_get log c.0 ≡ Some c.1) v.calls me.0.calls all)
        (old.placed log (All-front (λ (c : ℕ × E). slice_get log c.0 ≡ Some c.1) v.calls me.0.calls all));
    once = λ p.
        let both : how_often p (places (joined v me.0)) ≡ how_often p (places v) + how_often p (places me.0) = ap (how_often p) (map-append (λ (x : ℕ × E). x.0) v.calls me.0.calls) ∙ often_append p (places v) (places me.0) in
        omega (arith, sum_by-cons (λ (n : Known E R). how_often p (calls_of n)) (known lock number me.0) notes, both, old.once p);
    sized = omega (arith, sum_by-cons (λ (n : Known E R). length n.calls) (known lock number me.0) notes, length-append v.calls me.0.calls, old.sized);
  }
    where
      first : (xs ys : List R) (x : R) → slice_get xs 0 ≡ Some x → slice_get (xs ++ ys) 0 ≡ Some x
      first [] ys x e = absurd cc
      first (y ∷ xs) ys x e = e

  pub nothing_held : (number : ℕ) (me : Me (Option S) (View E R)) → IsSeatOf number me → me.0.holds ≡ false → me.1 ≡ []
  nothing_held number me is free = is.slot ∙ ap carried free

module _ {S E R : Type 0} (entries : S → List E) (comes : R → S → Type 0) where
  pub joins_note : (notes id other number : ℕ) (v : View E R) (me : Me (Option S) (View E R)) (stood : List (Known E R)) → StandsFor stood v → IsSeatOf number me → me.0.holds ≡ false → Joins (Kept entries comes notes) id v other me.0 (joined v me.0) spent
  joins_note notes id other number v me stood old is free = joins_it entries comes notes id v old.root other me.0 old.some old.known old.free free is.full

  -- what `close` promises of the value
  pub record IsClosed (notes : List (Known E R)) (value : S) : Type 0 where
    pub from : All (λ (n : Known E R). ComesFrom comes n.root value) notes
    pub placed : All (λ (n : Known E R). All (λ (c : ℕ × E). slice_get (entries value) c.0 ≡ Some c.1) n.calls) notes
    pub once : (p : ℕ) → sum_by (λ (n : Known E R). how_often p (map (λ (c : ℕ × E). c.0) n.calls)) notes ≡ once_below p (length (entries value))
    pub sized : length (entries value) ≡ sum_by (λ (n : Known E R). length n.calls) notes

  ends_closed : (notes : List (Known E R)) (v : View E R) (slots : List (Option S)) → StandsFor notes v → (e : Ends entries comes v slots) → IsClosed notes e.value
  ends_closed notes v slots stands e = record {
    from = λ k d below. (e.from, stands.rooted e.from e.rooted k d below, e.comes_from);
    placed = stands.placed (entries e.value) e.placed;
    once = λ p. sym (stands.once p) ∙ e.once p;
    sized = e.sized ∙ stands.sized;
  }

  ends_at : (notes id : ℕ) (v : View E R) (words : List ℕ) (slots : List (Option S)) (all : List (Known E R)) → StandsFor all v → length all ≡ notes → Final (Seen (Kept entries comes notes) id v) words slots → Ends entries comes v slots
  ends_at notes id v words slots all stands count final = ends_so entries comes notes id v stands.root words slots (stands.all ∙ count) stands.known stands.free final

  pub is_closed : (notes id : ℕ) (v : View E R) (words : List ℕ) (slots : List (Option S)) (all : List (Known E R)) → StandsFor all v → length all ≡ notes → Final (Seen (Kept entries comes notes) id v) words slots
      → (found : Option S) (value : S) → get_elem? slots 0 ≡ opt.some found → found ≡ Some value → IsClosed all value
  is_closed notes id v words slots all stands count final found value there is =
      let e = ends_at notes id v words slots all stands count final in
      let its : get_elem? slots 0 ≡ opt.some (Some e.value) = e.slot in
      let same : e.value ≡ value = cc in
      subst (IsClosed all) same (ends_closed all v slots stands e)

  pub not_empty : (notes id : ℕ) (v : View E R) (words : List ℕ) (slots : List (Option S)) (all : List (Known E R)) → StandsFor all v → length all ≡ notes → Final (Seen (Kept entries comes notes) id v) words slots
      → (found : Option S) → get_elem? slots 0 ≡ opt.some found → found ≡ None → ⊥
  not_empty notes id v words slots all stands count final found there is =
      let e = ends_at notes id v words slots all stands count final in
      let its : get_elem? slots 0 ≡ opt.some (Some e.value) = e.slot in
      cc

pub all_from_map : {X Y : Type 0} (P : Y → Type 0) (f : X → Y) (xs : List X) → All P (map f xs) → All (λ x. P (f x)) xs
all_from_map P f [] h = All-nil (λ x. P (f x))
all_from_map P f (x ∷ xs) h = All-cons (λ y. P (f y)) x xs (All-head P (f x) (map f xs) h) (all_from_map P f xs (All-tail P (f x) (map f xs) h))

pub sum_over_map : {X Y : Type 0} (f : Y → ℕ) (g : X → Y) (xs : List X) → sum_by f (map g xs) ≡ sum_by (λ x. f (g x)) xs
sum_over_map f g [] = refl
sum_over_map f g (x ∷ xs) = omega (arith, sum_by-cons f (g x) (map g xs), sum_by-cons (λ y. f (g y)) x xs, sum_over_map f g xs)

pub length_of_map : {X Y : Type 0} (f : X → Y) (xs : List X) → length (map f xs) ≡ length xs
length_of_map f [] = refl
length_of_map f (x ∷ xs) = ap suc (length_of_map f xs)
