-- Nets that have given more.
use Rattle.std.proofs.Common.{◌≡◌, ◌⊎◌, inl, inr, ℕ, ◌+◌, ◌≤◌, Bool, true, false, eqb, List, [], ◌∷◌, ◌++◌, Option, Result, Ok, Err, refl, sym, ap, subst, ◌∙◌, arith, append_assoc, append-nil}
use Rattle.std.specs.Prelude.{if◌then◌else◌, OnErr, OnOk}
use Rattle.std.specs.List.{Contains}
use Rattle.std.proofs.lemmas.Bool.{eqb-true, eq-eqb}
use Rattle.std.proofs.lemmas.List.Elements.{All-contains, Contains-append_left}
use Rattle.std.proofs.lemmas.List.Sorted.{Contains-permutation, IsPermutation-sym}
use Rattle.coco_net.specs.declared.letter.Letter.{Letter}
use Rattle.coco_net.specs.declared.letter.Posted.{Posted}
use Rattle.coco_net.specs.Giving.{Gives, GivesMore}
use Rattle.coco_net.specs.Mail.{letters_to}
use Rattle.coco_letters.specs.Turns.{AreFresh, Counts}
use Rattle.coco_letters.proofs.WorldLemmas.{contains_behind, contains_cases, contains_here}
use Rattle.coco_vote.specs.Counting.{GivesOn}

pub gives_same : (given : List Posted) (faults : ℕ) (seed : Option ℕ) → GivesOn given faults seed given faults seed
gives_same given faults seed = record { more = []; gives = sym (append-nil given); faults_rise = omega arith; seed_stays = refl }

pub gives_then : (g : List Posted) (f : ℕ) (s : Option ℕ) (h : List Posted) (d : ℕ) (t : Option ℕ) (k : List Posted) (e : ℕ) (u : Option ℕ) → GivesOn g f s h d t → GivesOn h d t k e u → GivesOn g f s k e u
gives_then g f s h d t k e u one two = record {
  more = one.more ++ two.more;
  gives = two.gives ∙ ap (λ (ps : List Posted). ps ++ two.more) one.gives ∙ append_assoc g one.more two.more;
  faults_rise = omega (arith, one.faults_rise, two.faults_rise);
  seed_stays = two.seed_stays ∙ one.seed_stays;
}

-- nothing was given
pub gives_counts : (g : List Posted) (f : ℕ) (s : Option ℕ) (h : List Posted) (d : ℕ) (t : Option ℕ) → Counts g f s h d t → GivesOn g f s h d t
gives_counts g f s h d t counts = record { more = []; gives = counts.given_stays ∙ sym (append-nil g); faults_rise = omega (arith, counts.faults_stay); seed_stays = counts.seed_stays }

-- a round
pub gives_round : {T E : Type 0} (r : Result T E) (sent fresh : List Posted) (waiting : ℕ → List Letter) (g : List Posted) (f : ℕ) (s : Option ℕ) (h : List Posted) (d : ℕ) (t : Option ℕ) (k : List Posted) → OnOk r (GivesMore sent fresh f d waiting g h) → OnOk r ((d ≡ f) ⊎ (d ≡ f + 1))
    → OnErr r ((h ≡ g) × (k ≡ fresh) × (d ≡ f)) → t ≡ s → GivesOn g f s h d t
gives_round (Ok x) sent fresh waiting g f s h d t k gives faults err seed = record { more = gives.0; gives = gives.1; faults_rise = elim faults [ inl same ↦ omega (arith, same) | inr more ↦ omega (arith, more) ]; seed_stays = seed }
gives_round (Err e) sent fresh waiting g f s h d t k gives faults err seed = record { more = []; gives = err.0 ∙ sym (append-nil g); faults_rise = omega (arith, err.2); seed_stays = seed }

-- ---- what a round gives to a place

not_at : false ≡ true → ⊥
not_at is = cc

letters_of : (place : ℕ) (ps : List Posted) (l : Letter) → Contains ps (record { to = place; letter = l }) → Contains (letters_to place ps) l
letters_of place [] l among = absurd (omega (arith, among.1))
letters_of place (p ∷ ps) l among = by_place (letters_of place ps l) (eqb p.to place) refl
  where
    by_place : (Contains ps (record { to = place; letter = l }) → Contains (letters_to place ps) l) → (b : Bool) → eqb p.to place ≡ b → Contains (if b then p.letter ∷ letters_to place ps else letters_to place ps) l
    by_place rest true at = elim (contains_cases p (record { to = place; letter = l }) ps among) [
      | inl here ↦ subst (Contains (p.letter ∷ letters_to place ps)) (ap (λ (x : Posted). x.letter) here) (contains_here p.letter (letters_to place ps))
      | inr behind ↦ contains_behind p.letter l (letters_to place ps) (rest behind)
    ]
    by_place rest false at = elim (contains_cases p (record { to = place; letter = l }) ps among) [
      | inl here ↦ absurd (not_at (sym at ∙ eq-eqb p.to place (ap (λ (x : Posted). x.to) here)))
      | inr behind ↦ rest behind
    ]

letters_in : (place : ℕ) (ps : List Posted) (l : Letter) → Contains (letters_to place ps) l → Contains ps (record { to = place; letter = l })
letters_in place [] l h = absurd (omega (arith, h.1))
letters_in place (p ∷ ps) l h = by_place (letters_in place ps l) (eqb p.to place) refl h
  where
    by_place : (Contains (letters_to place ps) l → Contains ps (record { to = place; letter = l })) → (b : Bool) → eqb p.to place ≡ b → Contains (if b then p.letter ∷ letters_to place ps else letters_to place ps) l → Contains (p ∷ ps) (record { to = place; letter = l })
    by_place rest true at h = elim (contains_cases p.letter l (letters_to place ps) h) [
      | inl here ↦ (let same : p ≡ record { to = place; letter = l } = λ i. record { to = (eqb-true p.to place at) i; letter = here i } in subst (Contains (p ∷ ps)) same (contains_here p ps))
      | inr behind ↦ contains_behind p (record { to = place; letter = l }) ps (rest behind)
    ]
    by_place rest false at h = contains_behind p (record { to = place; letter = l }) ps (rest h)

module _ (sent fresh : List Posted) (f d : ℕ) (waiting : ℕ → List Letter) (these : List Posted) (gives : Gives sent fresh f d waiting these) (place : ℕ) (le : place ≤ 8) (l : Letter) where
  -- it waits there
  pub given_waits : Contains these (record { to = place; letter = l }) → Contains (waiting place) l
  given_waits among = Contains-permutation (letters_to place these) (waiting place) l (gives.wait place le) (letters_of place these l among)

  -- and nothing else does
  pub waits_given : Contains (waiting place) l → Contains these (record { to = place; letter = l })
  waits_given among = letters_in place these l (Contains-permutation (waiting place) (letters_to place these) l (IsPermutation-sym (letters_to place these) (waiting place) (gives.wait place le)) among)

-- a fresh letter is given, where no fault came
pub fresh_given : (sent fresh : List Posted) (f d : ℕ) (waiting : ℕ → List Letter) (these : List Posted) (p : Posted) → Gives sent fresh f d waiting these → d ≡ f → Contains fresh p → Contains these p
fresh_given sent fresh f d waiting these p gives same among = All-contains (Contains these) fresh p (gives.new_ones same) among

-- ---- what was given since

same_tail : {X : Type 0} (x : X) (ys zs : List X) → x ∷ ys ≡ x ∷ zs → ys ≡ zs
same_tail x ys zs is = cc

-- a list has one rest only
pub same_more : {X : Type 0} (xs ys zs : List X) → xs ++ ys ≡ xs ++ zs → ys ≡ zs
same_more [] ys zs is = is
same_more (x ∷ xs) ys zs is = same_more xs ys zs (same_tail x (xs ++ ys) (xs ++ zs) is)

-- what was given since, where nothing was before the round and behind it
pub given_since : (first before mid last these more : List Posted) → before ≡ first → mid ≡ before ++ these → last ≡ mid → last ≡ first ++ more → more ≡ these
given_since first before mid last these more stays gives still all = same_more first more these (sym all ∙ still ∙ gives ∙ ap (λ (ps : List Posted). ps ++ these) stays)

-- what was given in two turns
pub since_both : (first mid last m n more : List Posted) → mid ≡ first ++ m → last ≡ mid ++ n → last ≡ first ++ more → more ≡ m ++ n
since_both first mid last m n more one two all =
    sym (same_more first (m ++ n) more (sym (append_assoc first m n) ∙ ap (λ (ps : List Posted). ps ++ n) (sym one) ∙ sym two ∙ all))

-- what was sent before a call was sent behind it
pub sent_still : (before sent fresh after fresh_new : List Posted) (p : Posted) → sent ≡ before → AreFresh sent fresh after fresh_new → Contains before p → Contains after p
sent_still before sent fresh after fresh_new p same new among =
    subst (λ (ps : List Posted). Contains ps p) (sym new.sent_is) (Contains-append_left sent new.posts p (subst (λ (ps : List Posted). Contains ps p) (sym same) among))

-- nothing was given yet
pub nothing_given : {X : Type 0} (first given : List Posted) (p : Posted) → first ≡ first ++ given → Contains given p → X
nothing_given first given p is among =
    let none : [] ≡ given = same_more first [] given (append-nil first ∙ is) in
    let empty : Contains [] p = subst (λ (ps : List Posted). Contains ps p) (sym none) among in
    absurd (omega (arith, empty.1))
