-- What nodes say while they vote.
use Rattle.std.proofs.Common.{inl, inr, ℕ, ◌<◌, true, false, List, [], ◌∷◌, refl, subst, arith}
use Rattle.std.specs.List.{Contains}
use Rattle.coco_msg.specs.declared.message.Message.TheVariants.{Query}
use Rattle.coco_net.specs.declared.letter.Letter.{Letter}
use Rattle.coco_net.specs.declared.letter.Posted.{Posted}
use Rattle.coco_node.specs.Node.{Node}
use Rattle.coco_letters.specs.declared.nodes.Heard.{Heard}
use Rattle.coco_letters.specs.declared.nodes.Heard.TheVariants.{Nothing, Voted, Forces}
use Rattle.coco_letters.specs.Saying.{posted}
use Rattle.coco_letters.specs.Telling.{Adds, IsOfVote}
use Rattle.coco_letters.proofs.TellingLemmas.{adds_none, adds_one}
use Rattle.coco_letters.proofs.WorldLemmas.{contains_cases, one_is}
use Rattle.coco_vote.specs.declared.step.Step.{Step}
use Rattle.coco_vote.specs.declared.step.Step.TheVariants as steps
use Rattle.coco_vote.specs.Steps.{letters_in, EndsVote, Steps}
use Rattle.coco_vote.specs.Taking.{vote_of, HeardSo}

of_vote : (n e : ℕ) → n < 8 → IsOfVote e (vote_of n e true)
of_vote n e few = inr (inl (record { node = n; few = few; is = refl }))

of_query : (n e : ℕ) → n < 8 → IsOfVote e (posted n 8 (Query e))
of_query n e few = inr (inr (record { node = n; few = few; is = refl }))

-- in a step
in_step : (step : Step) (n e : ℕ) (p : Posted) → n < 8 → Contains (letters_in step n e) p → IsOfVote e p
in_step steps.Voted n e p few among = subst (IsOfVote e) (one_is (vote_of n e true) p among) (of_vote n e few)
in_step (steps.Restarted true) n e p few among = elim (contains_cases (vote_of n e true) p (posted n 8 (Query e) ∷ []) among) [
  | inl here ↦ subst (IsOfVote e) here (of_vote n e few)
  | inr behind ↦ subst (IsOfVote e) (one_is (posted n 8 (Query e)) p behind) (of_query n e few)
]
in_step (steps.Restarted false) n e p few among = subst (IsOfVote e) (one_is (posted n 8 (Query e)) p among) (of_query n e few)
in_step steps.Stopped n e p few among = absurd (omega (arith, among.1))

pub steps_say : (step : Step) (n e : ℕ) (cores : List Node) (sent : List Posted) (cores_new : List Node) (sent_new : List Posted) → n < 8 → Steps step n e cores sent cores_new sent_new → Adds (IsOfVote e) sent sent_new
steps_say step n e cores sent cores_new sent_new few does = record { posts = letters_in step n e; sent_is = does.sent_is; such = λ p among. in_step step n e p few among }

-- behind a vote that is given again
pub ends_say : (step : Step) (n e : ℕ) (cores : List Node) (sent : List Posted) (cores_new : List Node) (sent_new : List Posted) → n < 8 → EndsVote step n e cores sent cores_new sent_new → Adds (IsOfVote e) sent sent_new
ends_say steps.Voted n e cores sent cores_new sent_new few ends = adds_none sent sent_new ends.1
ends_say (steps.Restarted true) n e cores sent cores_new sent_new few ends = adds_one sent sent_new (posted n 8 (Query e)) ends.1 (of_query n e few)
ends_say (steps.Restarted false) n e cores sent cores_new sent_new few ends = absurd ends
ends_say steps.Stopped n e cores sent cores_new sent_new few ends = absurd ends

-- at a letter
pub heard_say : (heard : Heard) (n e : ℕ) (letter : Letter) (cores : List Node) (sent : List Posted) (cores_new : List Node) (sent_new : List Posted) → n < 8 → HeardSo heard n e letter cores sent cores_new sent_new → Adds (IsOfVote e) sent sent_new
heard_say Nothing n e letter cores sent cores_new sent_new few so = adds_none sent sent_new so.1
heard_say Voted n e letter cores sent cores_new sent_new few so = adds_one sent sent_new (vote_of n e true) so.2 (of_vote n e few)
heard_say (Forces of) n e letter cores sent cores_new sent_new few so = adds_none sent sent_new so.1
