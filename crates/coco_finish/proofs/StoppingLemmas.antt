-- Nodes that stop behind a commit entry, one after another.
use Rattle.std.proofs.Common.{◌≡◌, ◌≢◌, inl, inr, ℕ, ◌+◌, ◌<◌, ◌≤◌, ◌^◌, Bool, true, false, eqb, List, [], ◌∷◌, ◌++◌, length, Some, None, refl, sym, ap, subst, ◌∙◌, arith, append_assoc, append-nil}
use Rattle.std.specs.List.{slice_get, All, Contains}
use Rattle.std.proofs.Math.ListN.{set}
use Rattle.std.proofs.lemmas.Bool.{eqb-true, eqb-false}
use Rattle.std.proofs.lemmas.List.Elements.{All-append, All-cons, All-nil, Contains-append_cases, Contains-append_left, Contains-append_right}
use Rattle.std.proofs.lemmas.Option.{same_Some}
use Rattle.coco_vote.proofs.StepLemmas.{max_none}
use Rattle.coco_chief.specs.Chief.{Chief}
use Rattle.coco_msg.specs.declared.message.Message.{Message}
use Rattle.coco_msg.specs.declared.message.Message.TheVariants.{Finished, Query}
use Rattle.coco_net.specs.declared.letter.Posted.{Posted}
use Rattle.coco_node.specs.declared.machine.Decision.{Decision}
use Rattle.coco_node.specs.declared.machine.Decision.TheVariants.{Unknown, Aborted}
use Rattle.coco_node.specs.Node.{restarted, Node}
use Rattle.coco_letters.specs.declared.voter.Voter.{Voter}
use Rattle.coco_letters.proofs.SayingLemmas.{same_message}
use Rattle.coco_letters.specs.Telling.{Adds, IsOfSettling}
use Rattle.coco_letters.proofs.TellingLemmas.{adds_none, adds_one}
use Rattle.coco_letters.proofs.WorldLemmas.{contains_cases, contains_here}
use Rattle.coco_finish.specs.Exchanges.{AreInStep}
use Rattle.coco_finish.specs.Finishing.{finished_of, is_behind, AllCanFinish, AreTold, CanFinish, HasYetToHear}
use Rattle.coco_finish.specs.Stopping.{query_of, AllHaveNewest, StopSome, StopsHere, StopsOrNot}
use Rattle.coco_finish.proofs.FinishLemmas.{get_set_other, get_set_same}
use Rattle.coco_finish.proofs.HearLemmas.{none_in}

unknown_not : ◌≡◌ {A = Decision} Unknown Aborted → ⊥
unknown_not is = absurd cc

-- a node asks, and doesn't say that it has finished
query_is_not : (n k e : ℕ) → e < 2 ^ 64 → query_of k e ≡ finished_of n e → ⊥
query_is_not n k e fits is =
    let same : ◌≡◌ {A = Message} (Query e) (Finished e) = same_message (Query e) (Finished e) fits fits (ap (λ (p : Posted). p.letter.bytes) is) in
    cc

module _ (epoch k : ℕ) (stopped stopped_new : ℕ → ℕ) (cores : List Node) (voter : Voter) (sent : List Posted) (cores_new : List Node) (voter_new : Voter) (sent_new : List Posted)
    (within : k < length cores) (here : StopsHere epoch k stopped stopped_new cores voter sent cores_new voter_new sent_new) where
  -- what holds of each core
  each_core : (P : ℕ → Node → Type 0) → P k (restarted k (epoch ∷ []) None) → ((n : ℕ) (core : Node) → slice_get cores n ≡ Some core → P n core) → (n : ℕ) (core : Node) → slice_get cores_new n ≡ Some core → P n core
  each_core P anew was n core at = elim here [
    | inl stops ↦ by_place (eqb n k) refl (subst (λ (cs : List Node). slice_get cs n ≡ Some core) stops.1 at)
    | inr goes ↦ was n core (subst (λ (cs : List Node). slice_get cs n ≡ Some core) goes.1 at)
  ]
    where
      by_place : (b : Bool) → eqb n k ≡ b → slice_get (set cores k (restarted k (epoch ∷ []) None)) n ≡ Some core → P n core
      by_place true is there =
          let same : n ≡ k = eqb-true n k is in
          let found : slice_get (set cores k (restarted k (epoch ∷ []) None)) k ≡ Some core = subst (λ (m : ℕ). slice_get (set cores k (restarted k (epoch ∷ []) None)) m ≡ Some core) same there in
          subst (λ (m : ℕ). P m core) (sym same)
          (subst (P k) (same_Some (restarted k (epoch ∷ []) None) core (sym (get_set_same cores k (restarted k (epoch ∷ []) None) within) ∙ found)) anew)
      by_place false is there = was n core (sym (get_set_other cores k n (restarted k (epoch ∷ []) None) (eqb-false n k is)) ∙ there)

  other_core : (n : ℕ) → n ≢ k → slice_get cores_new n ≡ slice_get cores n
  other_core n other = elim here [
    | inl stops ↦ ap (λ (cs : List Node). slice_get cs n) stops.1 ∙ get_set_other cores k n (restarted k (epoch ∷ []) None) other
    | inr goes ↦ ap (λ (cs : List Node). slice_get cs n) goes.1
  ]

  -- those that are still to come
  pub waits_step : (voters : List Voter) (n : ℕ) → k + 1 ≤ n → (slice_get cores_new n ≡ slice_get cores n) × (slice_get (set voters k voter_new) n ≡ slice_get voters n)
  waits_step voters n le = let other : n ≢ k = λ is. omega (arith, is, le) in (other_core n other, get_set_other voters k n voter_new other)

  pub newest_step : AllHaveNewest epoch cores → AllHaveNewest epoch cores_new
  newest_step = each_core (λ n core. core.durable ≡ epoch) (max_none epoch)

  pub can_step : AllCanFinish epoch cores → AllCanFinish epoch cores_new
  can_step = each_core (λ n core. CanFinish epoch core) (record { has = omega (arith, max_none epoch); stands = λ _. unknown_not })

  -- it asks, or says nothing
  pub says_step : k < 8 → Adds (IsOfSettling epoch) sent sent_new
  says_step eight = elim here [
    | inl stops ↦ adds_one sent sent_new (query_of k epoch) stops.3 (inr (record { node = k; few = eight; is = refl }))
    | inr goes ↦ adds_none sent sent_new goes.3
  ]

  told_step : (marks : List Bool) → epoch < 2 ^ 64 → AreTold epoch sent marks → AreTold epoch sent_new marks
  told_step marks fits told n among = elim here [
    | inl stops ↦ elim (Contains-append_cases sent (query_of k epoch ∷ []) (finished_of n epoch) (subst (λ (ps : List Posted). Contains ps (finished_of n epoch)) stops.3 among)) [
      | inl was ↦ told n was
      | inr now ↦ elim (contains_cases (query_of k epoch) (finished_of n epoch) [] now) [
        | inl is ↦ absurd (query_is_not n k epoch fits is)
        | inr none ↦ none_in (finished_of n epoch) none
      ]
    ]
    | inr goes ↦ told n (subst (λ (ps : List Posted). Contains ps (finished_of n epoch)) goes.3 among)
  ]

  pub in_step_step : (chief : Chief) (marks : List Bool) → epoch < 2 ^ 64 → AreInStep epoch cores chief sent marks → AreInStep epoch cores_new chief sent_new marks
  in_step_step chief marks fits step = record {
    behind = each_core (λ n core. is_behind marks n ≡ true → HasYetToHear epoch core) (λ _. record { newest = max_none epoch; unknown = refl }) step.behind;
    told = told_step marks fits step.told;
    up = step.up;
  }

  -- what is sent
  record Sends : Type 0 where
    posts : List Posted
    sent_is : sent_new ≡ sent ++ posts
    only : All (λ p. (n : ℕ) × (p ≡ query_of n epoch)) posts
    asks : stopped k < stopped_new k → Contains posts (query_of k epoch)

  sends : Sends
  sends = elim here [
    | inl stops ↦ record {
      posts = query_of k epoch ∷ [];
      sent_is = stops.3;
      only = All-cons (λ p. (n : ℕ) × (p ≡ query_of n epoch)) (query_of k epoch) [] (k, refl) (All-nil (λ p. (n : ℕ) × (p ≡ query_of n epoch)));
      asks = λ _. contains_here (query_of k epoch) [];
    }
    | inr goes ↦ record {
      posts = [];
      sent_is = goes.3 ∙ sym (append-nil sent);
      only = All-nil (λ p. (n : ℕ) × (p ≡ query_of n epoch));
      asks = λ rose. absurd (omega (arith, rose, goes.0));
    }
  ]

  -- of the nodes from the first on
  module _ (first : ℕ → ℕ) (cores_first : List Node) (voters_first : List Voter) (sent_first : List Posted) (voters : List Voter) (holds : slice_get voters k ≡ Some voter)
      (elsewhere : (n : ℕ) → n ≢ k → n ≤ k → stopped_new n ≡ stopped n) (before : StopSome epoch k first stopped cores_first voters_first sent_first cores voters sent)
      (core_waits : slice_get cores k ≡ slice_get cores_first k) (voter_waits : slice_get voters k ≡ slice_get voters_first k) (stop_waits : stopped k ≡ first k) (inside : k < length voters) where
    at_place : (core : Node) (v : Voter) (posts : List Posted) → ((p : Posted) → Contains sends.posts p → Contains posts p) → slice_get cores_first k ≡ Some core → slice_get voters_first k ≡ Some v
        → StopsOrNot epoch k first stopped_new core v cores_new (set voters k voter_new) posts
    at_place core v posts wider at v_at =
        let same : voter ≡ v = same_Some voter v (sym holds ∙ voter_waits ∙ v_at) in
        elim here [
          | inl stops ↦ inl (
            omega (arith, stops.0, stop_waits),
            record {
              core_is = ap (λ (cs : List Node). slice_get cs k) stops.1 ∙ get_set_same cores k (restarted k (epoch ∷ []) None) within;
              voter_is = get_set_same voters k voter_new inside ∙ ap (λ (x : Voter). Some x) (stops.2 ∙ ap (λ (x : Voter). record x { is_lost = true }) same);
              asks = wider (query_of k epoch) (sends.asks stops.0);
            },
          )
          | inr goes ↦ inr (
            goes.0 ∙ stop_waits,
            record {
              core_is = ap (λ (cs : List Node). slice_get cs k) goes.1 ∙ core_waits ∙ at;
              voter_is = get_set_same voters k voter_new inside ∙ ap (λ (x : Voter). Some x) (goes.2 ∙ same);
            },
          )
        ]

    other_place : (n : ℕ) (core : Node) (v : Voter) (posts posts_new : List Posted) → ((p : Posted) → Contains posts p → Contains posts_new p) → n < k → StopsOrNot epoch n first stopped core v cores voters posts
        → StopsOrNot epoch n first stopped_new core v cores_new (set voters k voter_new) posts_new
    other_place n core v posts posts_new wider less so =
        let other : n ≢ k = λ is. omega (arith, is, less) in
        let count : stopped_new n ≡ stopped n = elsewhere n other (omega (arith, less)) in
        elim so [
          | inl stops ↦ inl (
            omega (arith, stops.0, count),
            record {
              core_is = other_core n other ∙ stops.1.core_is;
              voter_is = get_set_other voters k n voter_new other ∙ stops.1.voter_is;
              asks = wider (query_of n epoch) stops.1.asks;
            },
          )
          | inr goes ↦ inr (count ∙ goes.0, record { core_is = other_core n other ∙ goes.1.core_is; voter_is = get_set_other voters k n voter_new other ∙ goes.1.voter_is })
        ]

    pub some_step : StopSome epoch (k + 1) first stopped_new cores_first voters_first sent_first cores_new (set voters k voter_new) sent_new
    some_step = record {
      posts = before.posts ++ sends.posts;
      sent_is = sends.sent_is ∙ ap (λ (ps : List Posted). ps ++ sends.posts) before.sent_is ∙ append_assoc sent_first before.posts sends.posts;
      only = All-append (λ p. (n : ℕ) × (p ≡ query_of n epoch)) before.posts sends.posts before.only sends.only;
      nodes = λ n core v lt at v_at. by_place n core v lt at v_at (eqb n k) refl;
    }
      where
        by_place : (n : ℕ) (core : Node) (v : Voter) → n < k + 1 → slice_get cores_first n ≡ Some core → slice_get voters_first n ≡ Some v → (b : Bool) → eqb n k ≡ b
            → StopsOrNot epoch n first stopped_new core v cores_new (set voters k voter_new) (before.posts ++ sends.posts)
        by_place n core v lt at v_at true is =
            let same : n ≡ k = eqb-true n k is in
            subst (λ (m : ℕ). StopsOrNot epoch m first stopped_new core v cores_new (set voters k voter_new) (before.posts ++ sends.posts)) (sym same)
            (at_place core v (before.posts ++ sends.posts) (λ p among. Contains-append_right before.posts sends.posts p among) (subst (λ (m : ℕ). slice_get cores_first m ≡ Some core) same at) (subst (λ (m : ℕ). slice_get voters_first m ≡ Some v) same v_at))
        by_place n core v lt at v_at false is =
            let other : n ≢ k = eqb-false n k is in
            let less : n < k = omega (arith, lt, other) in
            other_place n core v before.posts (before.posts ++ sends.posts) (λ p among. Contains-append_left before.posts sends.posts p among) less (before.nodes n core v less at v_at)

pub some_none : (epoch : ℕ) (stopped : ℕ → ℕ) (cores : List Node) (voters : List Voter) (sent : List Posted) → StopSome epoch 0 stopped stopped cores voters sent cores voters sent
some_none epoch stopped cores voters sent = record {
  posts = [];
  sent_is = sym (append-nil sent);
  only = All-nil (λ p. (n : ℕ) × (p ≡ query_of n epoch));
  nodes = λ n core v lt. absurd (omega (arith, lt));
}

pub asked_more : (k : ℕ) (asked asked_new : ℕ → ℕ → Bool) → k < 8 → ((n : ℕ) → n < 8 → asked n 6 ≡ true → asked_new n 6 ≡ true) → ((n : ℕ) → n < k → asked n 6 ≡ true) → asked_new k 6 ≡ true → (n : ℕ) → n < k + 1 → asked_new n 6 ≡ true
asked_more k asked asked_new eight stays before here n lt = by_place (eqb n k) refl
  where
    by_place : (b : Bool) → eqb n k ≡ b → asked_new n 6 ≡ true
    by_place true is = subst (λ (m : ℕ). asked_new m 6 ≡ true) (sym (eqb-true n k is)) here
    by_place false is = let other : n ≢ k = eqb-false n k is in let less : n < k = omega (arith, lt, other) in stays n (omega (arith, less, eight)) (before n less)
