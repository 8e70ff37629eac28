-- The index of the names of the first procedures.
use Rattle.std.proofs.Common.{◌≡◌, ℕ, ◌+◌, ◌<◌, ◌≤◌, Bool, true, false, cond, List, length, Option, None, Some, slice_get, refl, sym, ap, ◌∙◌, arith, ⊎_elim, is_eq, Ordering, Less, Equal, Greater}
use Rattle.std.specs.BTreeMap.{BTreeMap, get, is_at, Updates}
use Rattle.std.specs.Cmp.Lexicographic.{slice_cmp, nat_list_cmp_total}
use Rattle.std.specs.FinMap.{nat_cmp-IsAntisymmetric, slice_cmp-IsAntisymmetric}
use Rattle.std.specs.Ordering.{nat_cmp}
use Rattle.std.proofs.lemmas.Bool.{cases_lt}
use Rattle.std.proofs.lemmas.Cmp.{tied_itself}
use Rattle.std.proofs.lemmas.Option.{slice_get_within}
use Rattle.coco_ast.specs.Numbering.{IsIndexOf, IsNumberOf}
use Rattle.coco_ast.specs.Words.{is_word}
use Rattle.coco_ast.specs.declared.tree.Proc.{Proc}

-- of the first n procedures
abbrev pub IsNumberBelow : ℕ → List Proc → List ℕ → Option ℕ → Type 0
IsNumberBelow n ps x None = (k : ℕ) (p : Proc) → k < n → slice_get ps k ≡ Some p → p.name ≡ x → ⊥
IsNumberBelow n ps x (Some i) = (p : Proc) × (slice_get ps i ≡ Some p) × (p.name ≡ x)

pub record IsIndexBelow (n : ℕ) (ps : List Proc) (numbers : BTreeMap (List ℕ) ℕ) : Type 0 where
  pub numbered : (x : List ℕ) → IsNumberBelow n ps x (get (slice_cmp nat_cmp) numbers x)
  pub words : (k : ℕ) (p : Proc) → k < n → slice_get ps k ≡ Some p → is_word p.name ≡ true

same_name : (x y : List ℕ) (b : Bool) → is_at (slice_cmp nat_cmp x) y ≡ b → b ≡ true → x ≡ y
same_name x y b e is = slice_cmp-IsAntisymmetric nat_cmp-IsAntisymmetric x y (tied (slice_cmp nat_cmp x y) (e ∙ is))
  where
    tied : (o : Ordering) → is_eq o ≡ true → o ≡ Equal
    tied Less h = let f : false ≡ true = h in cc
    tied Equal h = refl
    tied Greater h = let f : false ≡ true = h in cc

module _ (ps : List Proc) (i : ℕ) (p : Proc) (there : slice_get ps i ≡ Some p) where
  one_named : (x : List ℕ) (b : Bool) (r : Option ℕ) → is_at (slice_cmp nat_cmp p.name) x ≡ b → IsNumberBelow i ps x r → IsNumberBelow (i + 1) ps x (cond b (Some i) r)
  one_named x true r e old = (p, there, same_name p.name x true e refl)
  one_named x false (Some n) e old = old
  one_named x false None e old = λ k q below at same.
      ⊎_elim (λ less. old k q less at same) (λ le.
      let here : k ≡ i = omega (arith, below, le) in
      let one : q ≡ p = cc in
      let name : p.name ≡ x = ap (λ (r : Proc). r.name) (sym one) ∙ same in
      let both : true ≡ false = sym (ap is_eq (tied_itself nat_list_cmp_total x)) ∙ ap (λ y. is_at (slice_cmp nat_cmp y) x) (sym name) ∙ e in
      cc) (cases_lt k i)

  pub index_more : (old new : BTreeMap (List ℕ) ℕ) → IsIndexBelow i ps old → is_word p.name ≡ true → Updates (slice_cmp nat_cmp) old new p.name (Some i) → IsIndexBelow (i + 1) ps new
  index_more old new index word updates = record {
    numbered = λ x. rw (updates.0 x) (one_named x _ _ refl (index.numbered x));
    words = λ k q below at. ⊎_elim (λ less. index.words k q less at) (λ le.
        let here : k ≡ i = omega (arith, below, le) in
        let one : q ≡ p = cc in
        ap (λ (r : Proc). is_word r.name) one ∙ word) (cases_lt k i);
  }

pub index_whole : (ps : List Proc) (n : ℕ) (numbers : BTreeMap (List ℕ) ℕ) → length ps ≤ n → IsIndexBelow n ps numbers → IsIndexOf ps numbers
index_whole ps n numbers long index = record {
  numbered = λ x. whole (get (slice_cmp nat_cmp) numbers x) x (index.numbered x);
  words = λ k p there. index.words k p (let h = slice_get_within ps k p there in omega (arith, h, long)) there;
}
  where
    whole : (r : Option ℕ) (x : List ℕ) → IsNumberBelow n ps x r → IsNumberOf ps x r
    whole (Some i) x h = h
    whole None x h = λ k p there same. h k p (let w = slice_get_within ps k p there in omega (arith, w, long)) there same
