-- Letters that a node takes one behind another.
use Rattle.std.proofs.Common.{◌≡◌, ◌≢◌, ◌⊎◌, inl, inr, ℕ, ◌+◌, ◌<◌, Bool, true, false, eqb, List, [], ◌∷◌, refl, sym, subst, ◌∙◌, arith}
use Rattle.std.specs.List.{Contains}
use Rattle.std.proofs.lemmas.Bool.{eqb-true, eqb-false}
use Rattle.std.proofs.lemmas.List.Elements.{Contains-append_left}
use Rattle.coco_net.specs.declared.letter.Letter.{Letter}
use Rattle.coco_net.specs.declared.letter.Posted.{Posted}
use Rattle.coco_node.specs.Node.{Node}
use Rattle.coco_letters.specs.Telling.{Adds, IsOfFinish}
use Rattle.coco_letters.specs.Turns.{AreFresh}
use Rattle.coco_letters.proofs.TellingLemmas.{adds_none, adds_one}
use Rattle.coco_letters.proofs.WorldLemmas.{contains_cases}
use Rattle.coco_finish.specs.Finishing.{finished_of, FinishesSo, TellsCommitted}

-- each letter that waited at first waits still, or has its answer
pub answered_next : (Told : Letter → Type 0) (answer : Posted) (q letter : Letter) (before after rest : List Letter) (sent fresh sent_new fresh_new : List Posted) → before ≡ letter ∷ rest → after ≡ rest → AreFresh sent fresh sent_new fresh_new
    → (Told letter → Contains fresh_new answer) → Contains before q ⊎ (Told q → Contains fresh answer) → Contains after q ⊎ (Told q → Contains fresh_new answer)
answered_next Told answer q letter before after rest sent fresh sent_new fresh_new first same are answers (inr had) =
    inr (λ told. subst (λ (ps : List Posted). Contains ps answer) (sym are.fresh_is) (Contains-append_left fresh are.posts answer (had told)))
answered_next Told answer q letter before after rest sent fresh sent_new fresh_new first same are answers (inl waits) =
    elim (contains_cases letter q rest (subst (λ (ls : List Letter). Contains ls q) first waits)) [
      | inl here ↦ inr (λ told. answers (subst Told (sym here) told))
      | inr behind ↦ inl (subst (λ (ls : List Letter). Contains ls q) (sym same) behind)
    ]

-- ---- what is sent

of_finish : (e n : ℕ) → n < 8 → IsOfFinish e (finished_of n e)
of_finish e n few = inr (record { node = n; few = few; is = refl })

-- a letter that one node takes
pub says_by_one : (first : Bool) (e n : ℕ) (letter : Letter) (cores : List Node) (sent : List Posted) (cores_new : List Node) (sent_new : List Posted) → n < 8 → FinishesSo first e n letter cores sent cores_new sent_new
    → Adds (IsOfFinish e) sent sent_new
says_by_one true e n letter cores sent cores_new sent_new few so = adds_one sent sent_new (finished_of n e) so.2 (of_finish e n few)
says_by_one false e n letter cores sent cores_new sent_new few (inl again) = adds_one sent sent_new (finished_of n e) again.2 (of_finish e n few)
says_by_one false e n letter cores sent cores_new sent_new few (inr none) = adds_none sent sent_new none.2

-- ---- nodes one after another

pub answers_more : (e node : ℕ) (first waiting : ℕ → List Letter) (sent fresh sent_new fresh_new : List Posted) → AreFresh sent fresh sent_new fresh_new → waiting node ≡ first node
    → ((n : ℕ) (q : Letter) → n < node → Contains (first n) q → TellsCommitted e q → Contains fresh (finished_of n e)) → ((q : Letter) → Contains (waiting node) q → TellsCommitted e q → Contains fresh_new (finished_of node e))
    → (n : ℕ) (q : Letter) → n < node + 1 → Contains (first n) q → TellsCommitted e q → Contains fresh_new (finished_of n e)
answers_more e node first waiting sent fresh sent_new fresh_new are still before here n q less waits tells = by_place (eqb n node) refl
  where
    by_place : (b : Bool) → eqb n node ≡ b → Contains fresh_new (finished_of n e)
    by_place true at =
        let same : n ≡ node = eqb-true n node at in
        subst (λ (k : ℕ). Contains fresh_new (finished_of k e)) (sym same)
        (here q (subst (λ (ls : List Letter). Contains ls q) (sym still) (subst (λ (k : ℕ). Contains (first k) q) same waits)) tells)
    by_place false at =
        let other : n ≢ node = eqb-false n node at in
        subst (λ (ps : List Posted). Contains ps (finished_of n e)) (sym are.fresh_is) (Contains-append_left fresh are.posts (finished_of n e) (before n q (omega (arith, less, other)) waits tells))

pub taken_more : (node : ℕ) (waiting later : ℕ → List Letter) → ((n : ℕ) → n < node → waiting n ≡ []) → later node ≡ [] → ((p : ℕ) → p ≢ node → later p ≡ waiting p) → (n : ℕ) → n < node + 1 → later n ≡ []
taken_more node waiting later before here others n less = by_place (eqb n node) refl
  where
    by_place : (b : Bool) → eqb n node ≡ b → later n ≡ []
    by_place true at = subst (λ (k : ℕ). later k ≡ []) (sym (eqb-true n node at)) here
    by_place false at = let other : n ≢ node = eqb-false n node at in others n other ∙ before n (omega (arith, less, other))
