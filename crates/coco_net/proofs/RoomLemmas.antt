-- Letters that move into boxes with room for them.
use Rattle.std.proofs.Common.{◌≡◌, ℕ, suc, ◌+◌, ◌^◌, ◌<◌, ◌≤◌, ◌==◌, ◌≢◌, true, false, cond, List, [], ◌∷◌, ◌++◌, map, length, take, append_assoc, get_or, refl, sym, ap, ◌∙◌, subst, arith, inl, inr}
use Rattle.std.proofs.Math.ListN.{set}
use Rattle.std.proofs.lemmas.Bool.Decides.{eqb_tells}
use Rattle.std.proofs.lemmas.List.{append-nil, ext_get_or, get_or-map, get_or-set_same, get_or-set_other, get_or_default, length-append, length-map, length-set, map-set, set-get_or, take_more}
use Rattle.coco_net.specs.declared.letter.Letter.{Letter}
use Rattle.coco_net.specs.declared.letter.Posted.{Posted}
use Rattle.coco_net.specs.Mail.{below, boxed, IsFew, letters_to, turned}
use Rattle.coco_net.specs.Room.{HasRoom}
use Rattle.coco_net.proofs.MailLemmas.{at_place, length-below, letters_to-append}

-- ---- how many letters are to a place

pub count_most : (place : ℕ) (ps : List Posted) → length (letters_to place ps) ≤ length ps
count_most place [] = omega arith
count_most place (p ∷ ps) =
    let fewer : length (letters_to place ps) ≤ length ps = count_most place ps in
    elim (p.to == place) as (λ b. length (cond b (p.letter ∷ letters_to place ps) (letters_to place ps)) ≤ suc (length ps)) [
      | true ↦ omega (arith, fewer)
      | false ↦ omega (arith, fewer)
    ]

pub count_more : (place : ℕ) (ps : List Posted) (i : ℕ) (p : Posted) (old one : ℕ) → i < length ps → p ≡ get_or ps i p
    → old ≡ length (letters_to place (take i ps)) → one ≡ cond (p.to == place) 1 0 → old + one ≡ length (letters_to place (take (i + 1) ps))
count_more place ps i p old one h is before more =
    ap (λ n. n + one) before ∙ ap (λ n. length (letters_to place (take i ps)) + n) (more ∙ single)
    ∙ sym (ap (λ qs. length (letters_to place qs)) (take_more ps i p h) ∙ ap (λ q. length (letters_to place (take i ps ++ q ∷ []))) (sym is)
    ∙ ap length (letters_to-append place (take i ps) (p ∷ [])) ∙ length-append (letters_to place (take i ps)) (letters_to place (p ∷ [])))
  where
    single : cond (p.to == place) 1 0 ≡ length (letters_to place (p ∷ []))
    single = elim (p.to == place) as (λ b. cond b 1 0 ≡ length (cond b (p.letter ∷ []) [])) [
      | true ↦ refl
      | false ↦ refl
    ]

-- ---- one box of many

module _ {B Y : Type 0} (f : B → Y) (bs : List B) (i : ℕ) where
  pub set_here : (b : B) (d : Y) → i < length bs → get_or (map f (set bs i b)) i d ≡ f b
  set_here b d h =
      let len : length (map f bs) ≡ length bs = length-map bs f in
      ap (λ ys. get_or ys i d) (map-set f bs i b) ∙ get_or-set_same (map f bs) i (f b) d (omega (arith, len, h))

  pub set_apart : (b : B) (p : ℕ) (d : Y) → p ≢ i → get_or (map f (set bs i b)) p d ≡ get_or (map f bs) p d
  set_apart b p d apart = ap (λ ys. get_or ys p d) (map-set f bs i b) ∙ get_or-set_other (map f bs) i p (f b) d apart

  pub was_here : (b : B) (d : Y) → i < length bs → b ≡ get_or bs i b → get_or (map f bs) i d ≡ f b
  was_here b d h is = get_or-map f bs i b d h ∙ ap f (sym is)

  -- what is the same of the new box is the same of all
  pub set_stays : (b new : B) → i < length bs → b ≡ get_or bs i b → f new ≡ f b → map f (set bs i new) ≡ map f bs
  set_stays b new h is same = map-set f bs i new ∙ ap (λ y. set (map f bs) i y) (same ∙ sym (was_here b (f b) h is)) ∙ set-get_or (map f bs) i (f b)

take_none : {X : Type 0} (ys : List X) → take 0 ys ≡ []
take_none [] = refl
take_none (y ∷ ys) = refl

front : {X : Type 0} (xs ys : List X) → take (length xs) (xs ++ ys) ≡ xs
front [] ys = take_none ys
front (x ∷ xs) ys = ap (λ zs. x ∷ zs) (front xs ys)

pub front_of : {X : Type 0} (n : ℕ) (xs ys : List X) → length xs ≡ n → take n (xs ++ ys) ≡ xs
front_of n xs ys is = ap (λ m. take m (xs ++ ys)) (sym is) ∙ front xs ys

-- a box that grows, and none that shrinks
pub grown : {B : Type 0} (f : B → ℕ) (bs : List B) (i : ℕ) (b new : B) → i < length bs → b ≡ get_or bs i b → f b ≤ f new → (p : ℕ) → get_or (map f bs) p 0 ≤ get_or (map f (set bs i new)) p 0
grown f bs i b new h is more p = elim (eqb_tells p i) [
  | inl same ↦ subst (λ q. get_or (map f bs) q 0 ≤ get_or (map f (set bs i new)) q 0) (sym same.1)
      (let old : get_or (map f bs) i 0 ≡ f b = was_here f bs i b 0 h is in let now : get_or (map f (set bs i new)) i 0 ≡ f new = set_here f bs i new 0 h in omega (arith, old, now, more))
  | inr apart ↦ let same : get_or (map f (set bs i new)) p 0 ≡ get_or (map f bs) p 0 = set_apart f bs i new p 0 apart.1 in omega (arith, same)
]

-- ---- the nine boxes

nine : (ps : List Posted) → length (boxed [] ps) ≡ 9
nine ps = length-map (below 9) (λ place. turned (get_or [] place false) (letters_to place ps)) ∙ length-below 9

abbrev pub none_of : List Letter → List Letter
none_of ls = []

pub emptied : (bs : List (List Letter)) → length bs ≡ 9 → map none_of bs ≡ boxed [] []
emptied bs is = ext_get_or [] (map none_of bs) (boxed [] []) (length-map bs none_of ∙ is ∙ sym (nine [])) each
  where
    each : (i : ℕ) → i < length (map none_of bs) → get_or (map none_of bs) i [] ≡ get_or (boxed [] []) i []
    each i h =
        let len : length (map none_of bs) ≡ length bs = length-map bs none_of in
        get_or-map none_of bs i [] [] (omega (arith, h, len)) ∙ sym (at_place [] [] i (omega (arith, h, len, is)))

there : (p : Posted) (place : ℕ) (ps : List Posted) → p.to ≡ place → letters_to place (p ∷ ps) ≡ p.letter ∷ letters_to place ps
there p place ps is = elim (eqb_tells p.to place) [
  | inl same ↦ ap (λ b. cond b (p.letter ∷ letters_to place ps) (letters_to place ps)) same.0
  | inr apart ↦ absurd (apart.1 is)
]

elsewhere : (p : Posted) (place : ℕ) (ps : List Posted) → p.to ≢ place → letters_to place (p ∷ ps) ≡ letters_to place ps
elsewhere p place ps apart = elim (eqb_tells p.to place) [
  | inl same ↦ absurd (apart same.1)
  | inr other ↦ ap (λ b. cond b (p.letter ∷ letters_to place ps) (letters_to place ps)) other.0
]

-- a letter in front of those at its place
boxed_first : (these : List Posted) (p : Posted) → p.to < 9 → set (boxed [] these) p.to (p.letter ∷ letters_to p.to these) ≡ boxed [] (p ∷ these)
boxed_first these p inside =
    ext_get_or [] (set (boxed [] these) p.to now) (boxed [] (p ∷ these)) (length-set (boxed [] these) p.to now ∙ nine these ∙ sym (nine (p ∷ these))) each
  where
    now : List Letter
    now = p.letter ∷ letters_to p.to these

    each : (i : ℕ) → i < length (set (boxed [] these) p.to now) → get_or (set (boxed [] these) p.to now) i [] ≡ get_or (boxed [] (p ∷ these)) i []
    each i h =
        let len : length (set (boxed [] these) p.to now) ≡ 9 = length-set (boxed [] these) p.to now ∙ nine these in
        let old : length (boxed [] these) ≡ 9 = nine these in
        elim (eqb_tells p.to i) [
          | inl same ↦
              ap (λ j. get_or (set (boxed [] these) p.to now) j []) (sym same.1) ∙ get_or-set_same (boxed [] these) p.to now [] (omega (arith, inside, old))
              ∙ sym (there p p.to these refl) ∙ ap (λ j. letters_to j (p ∷ these)) same.1 ∙ sym (at_place [] (p ∷ these) i (omega (arith, h, len)))
          | inr apart ↦
              get_or-set_other (boxed [] these) p.to i now [] (λ e. apart.1 (sym e)) ∙ at_place [] these i (omega (arith, h, len))
              ∙ sym (elsewhere p i these apart.1) ∙ sym (at_place [] (p ∷ these) i (omega (arith, h, len)))
        ]

-- a letter to no place changes none
boxed_none : (these : List Posted) (p : Posted) → 9 ≤ p.to → boxed [] these ≡ boxed [] (p ∷ these)
boxed_none these p out = ext_get_or [] (boxed [] these) (boxed [] (p ∷ these)) (nine these ∙ sym (nine (p ∷ these))) each
  where
    each : (i : ℕ) → i < length (boxed [] these) → get_or (boxed [] these) i [] ≡ get_or (boxed [] (p ∷ these)) i []
    each i h =
        let len : length (boxed [] these) ≡ 9 = nine these in
        let below : i < 9 = omega (arith, h, len) in
        at_place [] these i below ∙ sym (elsewhere p i these (λ e. absurd (omega (arith, e, below, out)))) ∙ sym (at_place [] (p ∷ these) i below)

module _ {B : Type 0} (f : B → List Letter) (bs : List B) where
  pub first_in : (b new : B) (these : List Posted) (p : Posted) → p.to < length bs → b ≡ get_or bs p.to b → f new ≡ p.letter ∷ f b → map f bs ≡ boxed [] these → map f (set bs p.to new) ≡ boxed [] (p ∷ these)
  first_in b new these p h is now were =
      let len : length bs ≡ 9 = sym (length-map bs f) ∙ ap length were ∙ nine these in
      let inside : p.to < 9 = omega (arith, h, len) in
      map-set f bs p.to new ∙ ap (λ ls. set ls p.to (f new)) were
      ∙ ap (λ ls. set (boxed [] these) p.to ls) (now ∙ ap (λ ls. p.letter ∷ ls) (sym (was_here f bs p.to b [] h is) ∙ ap (λ ls. get_or ls p.to []) were ∙ at_place [] these p.to inside))
      ∙ boxed_first these p inside

  pub none_in : (these : List Posted) (p : Posted) → length bs ≤ p.to → map f bs ≡ boxed [] these → map f bs ≡ boxed [] (p ∷ these)
  none_in these p out were =
      let len : length bs ≡ 9 = sym (length-map bs f) ∙ ap length were ∙ nine these in
      were ∙ boxed_none these p (omega (arith, out, len))

-- ---- letters that move

-- some are in their boxes, those at the end first
abbrev pub IsMoving : List Posted → List Posted → List (List Letter) → Type 0
IsMoving all rest boxes = (moved : List Posted) × (all ≡ rest ++ moved) × (boxes ≡ boxed [] moved)

pub moving_start : (all : List Posted) (boxes : List (List Letter)) → boxes ≡ boxed [] [] → IsMoving all all boxes
moving_start all boxes is = ([], sym (append-nil all), is)

pub moving_step : (all rest new : List Posted) (p : Posted) (old boxes : List (List Letter)) → rest ≡ new ++ p ∷ [] → ((these : List Posted) → old ≡ boxed [] these → boxes ≡ boxed [] (p ∷ these)) → IsMoving all rest old → IsMoving all new boxes
moving_step all rest new p old boxes is more moving =
    let moved : List Posted = moving.0 in
    (p ∷ moved, moving.1 ∙ ap (λ ps. ps ++ moved) is ∙ append_assoc new (p ∷ []) moved, more moved moving.2)

pub moving_fits : (all rest new : List Posted) (p : Posted) (boxes : List (List Letter)) (rooms : List ℕ) → rest ≡ new ++ p ∷ [] → length rooms ≡ 9 → HasRoom all rooms → IsMoving all rest boxes → p.to < 9 → length (get_or boxes p.to []) < get_or rooms p.to 0
moving_fits all rest new p boxes rooms is len room moving inside =
    let moved : List Posted = moving.0 in
    let whole : all ≡ new ++ (p ∷ moved) = moving.1 ∙ ap (λ ps. ps ++ moved) is ∙ append_assoc new (p ∷ []) moved in
    let here : get_or boxes p.to [] ≡ letters_to p.to moved = ap (λ ls. get_or ls p.to []) moving.2 ∙ at_place [] moved p.to inside in
    let count : length (get_or boxes p.to []) ≡ length (letters_to p.to moved) = ap length here in
    let more : length (letters_to p.to (p ∷ moved)) ≡ suc (length (letters_to p.to moved)) = ap length (there p p.to moved refl) in
    let sum : length (letters_to p.to all) ≡ length (letters_to p.to new) + length (letters_to p.to (p ∷ moved)) =
    ap (λ ps. length (letters_to p.to ps)) whole ∙ ap length (letters_to-append p.to new (p ∷ moved)) ∙ length-append (letters_to p.to new) (letters_to p.to (p ∷ moved)) in
    let fits : length (letters_to p.to all) ≤ get_or rooms p.to 0 = (room p.to (omega (arith, inside, len))).0 in
    omega (arith, count, more, sum, fits)

pub moving_done : (all rest : List Posted) (boxes : List (List Letter)) → rest ≡ [] → IsMoving all rest boxes → boxes ≡ boxed [] all
moving_done all rest boxes none moving = moving.2 ∙ ap (boxed []) (sym (moving.1 ∙ ap (λ ps. ps ++ moving.0) none))

pub few_boxes : (these : List Posted) (rooms : List ℕ) (boxes : List (List Letter)) → length rooms ≡ 9 → HasRoom these rooms → boxes ≡ boxed [] these → IsFew boxes
few_boxes these rooms boxes len room is = λ i d h.
    let inside : i < 9 = let nines : length boxes ≡ 9 = ap length is ∙ nine these in omega (arith, h, nines) in
    let here : get_or boxes i d ≡ letters_to i these = get_or_default boxes i d [] h ∙ ap (λ ls. get_or ls i []) is ∙ at_place [] these i inside in
    subst (λ ls. length ls < 2 ^ 32) (sym here) (room i (omega (arith, inside, len))).1
