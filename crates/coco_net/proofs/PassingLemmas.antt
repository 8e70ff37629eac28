-- A letter more in the boxes of the next round.
use Rattle.std.proofs.Common.{◌≡◌, ℕ, ◌<◌, false, cond, List, [], ◌∷◌, ◌++◌, map, length, get_or, refl, sym, ap, ◌∙◌, arith, inl, inr}
use Rattle.std.proofs.Math.ListN.{set}
use Rattle.std.proofs.lemmas.Bool.Decides.{eqb_tells}
use Rattle.std.proofs.lemmas.List.{append-nil, ext_get_or, get_or-set_same, get_or-set_other, length-map, length-set, map-set, set-get_or}
use Rattle.coco_net.specs.declared.letter.Letter.{Letter}
use Rattle.coco_net.specs.declared.letter.Posted.{Posted}
use Rattle.coco_net.specs.Mail.{below, boxed, letters_to, turned}
use Rattle.coco_net.proofs.MailLemmas.{at_place, box_at, length-below, letters_to-append}

nine : (ps : List Posted) → length (boxed [] ps) ≡ 9
nine ps = length-map (below 9) (λ place. turned (get_or [] place false) (letters_to place ps)) ∙ length-below 9

one_there : (place : ℕ) (p : Posted) → p.to ≡ place → letters_to place (p ∷ []) ≡ p.letter ∷ []
one_there place p is = elim (eqb_tells p.to place) [
  | inl same ↦ ap (λ b. cond b (p.letter ∷ []) []) same.0
  | inr other ↦ absurd (other.1 is)
]

none_there : (place : ℕ) (p : Posted) → (p.to ≡ place → ⊥) → letters_to place (p ∷ []) ≡ []
none_there place p apart = elim (eqb_tells p.to place) [
  | inl same ↦ absurd (apart same.1)
  | inr other ↦ ap (λ b. cond b (p.letter ∷ []) []) other.0
]

-- the box of a letter's place has it behind what it had
boxed_more : (these : List Posted) (p : Posted) (ls : List Letter) → p.to < 9 → ls ≡ letters_to p.to these ++ p.letter ∷ [] → set (boxed [] these) p.to ls ≡ boxed [] (these ++ p ∷ [])
boxed_more these p ls inside is = ext_get_or [] (set (boxed [] these) p.to ls) (boxed [] (these ++ p ∷ [])) (length-set (boxed [] these) p.to ls ∙ nine these ∙ sym (nine (these ++ p ∷ []))) each
  where
    each : (i : ℕ) → i < length (set (boxed [] these) p.to ls) → get_or (set (boxed [] these) p.to ls) i [] ≡ get_or (boxed [] (these ++ p ∷ [])) i []
    each i h =
        let len : length (set (boxed [] these) p.to ls) ≡ 9 = length-set (boxed [] these) p.to ls ∙ nine these in
        let old : length (boxed [] these) ≡ 9 = nine these in
        elim (eqb_tells p.to i) [
          | inl same ↦
              ap (λ j. get_or (set (boxed [] these) p.to ls) j []) (sym same.1) ∙ get_or-set_same (boxed [] these) p.to ls [] (omega (arith, inside, old)) ∙ is
              ∙ sym (letters_to-append p.to these (p ∷ []) ∙ ap (λ xs. letters_to p.to these ++ xs) (one_there p.to p refl))
              ∙ ap (λ j. letters_to j (these ++ p ∷ [])) same.1 ∙ sym (at_place [] (these ++ p ∷ []) i (omega (arith, h, len)))
          | inr apart ↦
              get_or-set_other (boxed [] these) p.to i ls [] (λ e. apart.1 (sym e)) ∙ at_place [] these i (omega (arith, h, len))
              ∙ sym (letters_to-append i these (p ∷ []) ∙ ap (λ xs. letters_to i these ++ xs) (none_there i p apart.1) ∙ append-nil (letters_to i these))
              ∙ sym (at_place [] (these ++ p ∷ []) i (omega (arith, h, len)))
        ]

module _ {B : Type 0} (f : B → List Letter) (bs : List B) where
  -- one box has a letter more
  pub box_more : (b new : B) (these : List Posted) (p : Posted) → p.to < length bs → b ≡ get_or bs p.to b → f new ≡ f b ++ p.letter ∷ [] → map f bs ≡ boxed [] these → map f (set bs p.to new) ≡ boxed [] (these ++ p ∷ [])
  box_more b new these p within is now were =
      let len : length bs ≡ 9 = sym (length-map bs f) ∙ ap length were ∙ nine these in
      let inside : p.to < 9 = omega (arith, within, len) in
      map-set f bs p.to new ∙ ap (λ ls. set ls p.to (f new)) were
      ∙ boxed_more these p (f new) inside (now ∙ ap (λ ls. ls ++ p.letter ∷ []) (sym (box_at f bs p.to b is within) ∙ ap (λ ls. get_or ls p.to []) were ∙ at_place [] these p.to inside))

  -- or it is as before
  pub box_stays : (i : ℕ) (b new : B) → i < length bs → b ≡ get_or bs i b → f new ≡ f b → map f (set bs i new) ≡ map f bs
  box_stays i b new within is same =
      map-set f bs i new ∙ ap (λ l. set (map f bs) i l) (same ∙ sym (box_at f bs i b is within)) ∙ set-get_or (map f bs) i []
