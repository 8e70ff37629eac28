-- What places say between the beginning of an epoch and its end.
use Rattle.std.specs.Prelude.{◌≡◌, ◌⊎◌, ℕ, ◌<◌, ◌≤◌, ◌^◌, Bool, true, List, ◌++◌, Contains}
use Rattle.coco_msg.specs.declared.message.Message.{Message}
use Rattle.coco_msg.specs.declared.message.Message.TheVariants.{Vote, Finished, Query}
use Rattle.coco_net.specs.declared.letter.Posted.{Posted}
use Rattle.coco_node.specs.declared.machine.TheConstants.{COORDINATOR}
use Rattle.coco_letters.specs.Saying.{posted, IsToSay}

-- the coordinator says something of a commit to a node
pub record IsOfChief (p : Posted) : Type 0 where
  pub to : p.to < 8
  pub message : Message
  pub say : IsToSay message
  pub is : p ≡ posted COORDINATOR p.to message

-- a node says this to the coordinator
pub record IsOfNode (message : Message) (p : Posted) : Type 0 where
  pub node : ℕ
  pub few : node < 8
  pub is : p ≡ posted node COORDINATOR message

-- what is said while nodes vote on an epoch: a node votes yes, or it began anew with its entry and asks what became of it
abbrev pub IsOfVote : ℕ → Posted → Type 0
IsOfVote epoch p = IsOfChief p ⊎ (IsOfNode (Vote epoch true) p ⊎ IsOfNode (Query epoch) p)

-- while an epoch is finished: a node has finished it
abbrev pub IsOfFinish : ℕ → Posted → Type 0
IsOfFinish epoch p = IsOfChief p ⊎ IsOfNode (Finished epoch) p

-- while an epoch is settled a node may begin anew behind its commit entry, too, and asks what became of it
abbrev pub IsOfSettling : ℕ → Posted → Type 0
IsOfSettling epoch p = IsOfFinish epoch p ⊎ IsOfNode (Query epoch) p

-- only such letters were sent
pub record Adds (Such : Posted → Type 0) (sent sent_new : List Posted) : Type 0 where
  pub posts : List Posted
  pub sent_is : sent_new ≡ sent ++ posts
  pub such : (p : Posted) → Contains posts p → Such p

-- ---- what is told as sent before an epoch

-- no vote on an epoch from this one on
abbrev pub VotesBelow : ℕ → List Posted → Type 0
VotesBelow next sent = (n e : ℕ) (yes : Bool) → next ≤ e → e < 2 ^ 64 → Contains sent (posted n COORDINATOR (Vote e yes)) → ⊥

-- no word of a node that it has finished one
abbrev pub FinishedBelow : ℕ → List Posted → Type 0
FinishedBelow next sent = (n e : ℕ) → next ≤ e → e < 2 ^ 64 → Contains sent (posted n COORDINATOR (Finished e)) → ⊥
