-- Letters that wait were sent.
use Rattle.std.proofs.Common.{◌≡◌, ◌⊎◌, inl, inr, ℕ, ◌≤◌, Bool, true, false, eqb, List, [], ◌∷◌, Option, Some, None, refl, sym, ap, subst, arith}
use Rattle.std.specs.Prelude.{◌≢◌, if◌then◌else◌, MatchOption}
use Rattle.std.specs.List.{Contains}
use Rattle.std.specs.List.Sorted.{IsPermutation}
use Rattle.std.proofs.lemmas.Bool.{eqb-true, eqb-false}
use Rattle.std.proofs.lemmas.List.Elements.{All-contains}
use Rattle.std.proofs.lemmas.List.Sorted.{Contains-permutation, IsPermutation-sym}
use Rattle.coco_net.specs.declared.letter.Letter.{Letter}
use Rattle.coco_net.specs.declared.letter.Posted.{Posted}
use Rattle.coco_net.specs.Giving.{Gives, GivesMore}
use Rattle.coco_net.specs.Mail.{letters_to}
use Rattle.coco_letters.specs.Turns.{AreSent}
use Rattle.coco_letters.proofs.WorldLemmas.{contains_behind, contains_cases, contains_here}

none_in : {X : Type 0} {Y : Type 0} (x : X) → Contains [] x → Y
none_in x h = absurd (omega (arith, h.1))

letters_in : (place : ℕ) (ps : List Posted) (l : Letter) → Contains (letters_to place ps) l → Contains ps (record { to = place; letter = l })
letters_in place [] l h = none_in l h
letters_in place (p ∷ ps) l h = by_place (letters_in place ps l) (eqb p.to place) refl h
  where
    by_place : (Contains (letters_to place ps) l → Contains ps (record { to = place; letter = l })) → (b : Bool) → eqb p.to place ≡ b → Contains (if b then p.letter ∷ letters_to place ps else letters_to place ps) l
        → Contains (p ∷ ps) (record { to = place; letter = l })
    by_place rest true at h = elim (contains_cases p.letter l (letters_to place ps) h) [
      | inl here ↦ (let same : p ≡ record { to = place; letter = l } = λ i. record { to = (eqb-true p.to place at) i; letter = here i } in subst (Contains (p ∷ ps)) same (contains_here p ps))
      | inr behind ↦ contains_behind p (record { to = place; letter = l }) ps (rest behind)
    ]
    by_place rest false at h = contains_behind p (record { to = place; letter = l }) ps (rest h)

letters_of : (place : ℕ) (ps : List Posted) (l : Letter) → Contains ps (record { to = place; letter = l }) → Contains (letters_to place ps) l
letters_of place [] l h = none_in (record { to = place; letter = l }) h
letters_of place (p ∷ ps) l h = by_place (letters_of place ps l) (eqb p.to place) refl (contains_cases p (record { to = place; letter = l }) ps h)
  where
    by_place : (Contains ps (record { to = place; letter = l }) → Contains (letters_to place ps) l) → (b : Bool) → eqb p.to place ≡ b → (◌≡◌ {A = Posted} p (record { to = place; letter = l })) ⊎ Contains ps (record { to = place; letter = l })
        → Contains (if b then p.letter ∷ letters_to place ps else letters_to place ps) l
    by_place rest true at (inl here) = subst (λ (x : Letter). Contains (x ∷ letters_to place ps) l) (sym (ap (λ (q : Posted). q.letter) here)) (contains_here l (letters_to place ps))
    by_place rest true at (inr behind) = contains_behind p.letter l (letters_to place ps) (rest behind)
    by_place rest false at (inl here) = absurd (eqb-false p.to place at (ap (λ (q : Posted). q.to) here))
    by_place rest false at (inr behind) = rest behind

-- what a round gives waits, and nothing else
pub given_waits : (sent fresh : List Posted) (faults_old faults_new : ℕ) (waiting : ℕ → List Letter) (these : List Posted) (place : ℕ) (l : Letter) → Gives sent fresh faults_old faults_new waiting these → place ≤ 8
    → Contains these (record { to = place; letter = l }) → Contains (waiting place) l
given_waits sent fresh faults_old faults_new waiting these place l gives le among = Contains-permutation (letters_to place these) (waiting place) l (gives.wait place le) (letters_of place these l among)

pub waits_given : (sent fresh : List Posted) (faults_old faults_new : ℕ) (waiting : ℕ → List Letter) (these : List Posted) (place : ℕ) (l : Letter) → Gives sent fresh faults_old faults_new waiting these → place ≤ 8
    → Contains (waiting place) l → Contains these (record { to = place; letter = l })
waits_given sent fresh faults_old faults_new waiting these place l gives le among =
    letters_in place these l (Contains-permutation (waiting place) (letters_to place these) l (IsPermutation-sym (letters_to place these) (waiting place) (gives.wait place le)) among)

-- what waits behind a round was sent
pub round_sent : (sent fresh : List Posted) (faults_old faults_new : ℕ) (waiting : ℕ → List Letter) (old new : List Posted) → GivesMore sent fresh faults_old faults_new waiting old new → AreSent sent waiting
round_sent sent fresh faults_old faults_new waiting old new gives place l le h =
    let these : List Posted = gives.0 in
    All-contains (Contains sent) these (record { to = place; letter = l }) gives.2.were_sent
    (letters_in place these l (Contains-permutation (waiting place) (letters_to place these) l (IsPermutation-sym (letters_to place these) (waiting place) (gives.2.wait place le)) h))

-- and so was what waits behind a letter that was taken
pub taken_sent : (sent : List Posted) (waiting waiting_new : ℕ → List Letter) (place : ℕ) (taken : Option Letter) → AreSent sent waiting
    → MatchOption taken ((waiting place ≡ []) × (waiting_new place ≡ [])) (λ letter. waiting place ≡ letter ∷ waiting_new place) → ((p : ℕ) → p ≢ place → waiting_new p ≡ waiting p)
    → AreSent sent waiting_new
taken_sent sent waiting waiting_new place taken are first others p l le h = by_place (eqb p place) refl
  where
    here : (o : Option Letter) → MatchOption o ((waiting place ≡ []) × (waiting_new place ≡ [])) (λ letter. waiting place ≡ letter ∷ waiting_new place) → Contains (waiting_new place) l → Contains (waiting place) l
    here None none h = none_in l (subst (λ (ls : List Letter). Contains ls l) none.1 h)
    here (Some letter) is h = subst (λ (ls : List Letter). Contains ls l) (sym is) (contains_behind letter l (waiting_new place) h)

    by_place : (b : Bool) → eqb p place ≡ b → Contains sent (record { to = p; letter = l })
    by_place true at =
        let same : p ≡ place = eqb-true p place at in
        are p l le (subst (λ (k : ℕ). Contains (waiting k) l) (sym same) (here taken first (subst (λ (k : ℕ). Contains (waiting_new k) l) same h)))
    by_place false at = are p l le (subst (λ (ls : List Letter). Contains ls l) (others p (eqb-false p place at)) h)

-- the letter that was taken was sent
pub letter_sent : (sent : List Posted) (waiting rest : ℕ → List Letter) (place : ℕ) (letter : Letter) → place ≤ 8 → AreSent sent waiting → waiting place ≡ letter ∷ rest place → Contains sent (record { to = place; letter = letter })
letter_sent sent waiting rest place letter le are is = are place letter le (subst (λ (ls : List Letter). Contains ls letter) (sym is) (contains_here letter (rest place)))
