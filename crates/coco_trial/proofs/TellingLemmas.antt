-- Letters of the ship phase, where only those of a vote are added.
use Rattle.std.proofs.Common.{◌≡◌, ◌⊎◌, inl, inr, ℕ, ◌≤◌, ◌<◌, ◌^◌, true, false, List, refl, sym, ap, subst, ◌∙◌}
use Rattle.std.specs.List.{Contains}
use Rattle.coco_msg.specs.Bytes.{bytes_of, IsMessage}
use Rattle.coco_msg.specs.declared.message.Message.{Message}
use Rattle.coco_msg.specs.declared.message.Message.TheVariants.{Ship, Total, Missing, All, Prepare, Vote, Commit, Finished, Abort, Query, Tell}
use Rattle.coco_net.specs.declared.letter.Posted.{Posted}
use Rattle.coco_letters.specs.Saying.{IsToSay}
use Rattle.coco_letters.specs.Telling.{Adds, IsOfVote}
use Rattle.coco_letters.proofs.SayingLemmas.{same_message}
use Rattle.coco_letters.proofs.TellingLemmas.{adds_cases}
use Rattle.coco_ship.specs.Letters.{IsOther}
use Rattle.coco_members.specs.AtRest.{ShipsBelow}

two_sides : {X : Type 0} → false ≡ true → X
two_sides h = absurd cc

-- a message of a commit is none of a ship phase
commit_other : (e : ℕ) (m : Message) → IsToSay m → IsOther e m
commit_other e (Ship epoch partition place time writes) say = two_sides say.commit
commit_other e (Total epoch partition places) say = two_sides say.commit
commit_other e (Missing epoch partition places) say = two_sides say.commit
commit_other e (All epoch partition) say = two_sides say.commit
commit_other e (Prepare epoch) say = tt
commit_other e (Vote epoch vote) say = tt
commit_other e (Commit epoch) say = tt
commit_other e (Finished epoch) say = tt
commit_other e (Abort epoch) say = tt
commit_other e (Query epoch) say = tt
commit_other e (Tell epoch committed) say = tt

said_other : (e : ℕ) (s : Posted) (m k : Message) → IsMessage m → s.letter.bytes ≡ bytes_of m → IsToSay k → s.letter.bytes ≡ bytes_of k → IsOther e m
said_other e s m k is bytes say is_k = subst (λ (x : Message). IsOther e x) (sym (same_message m k is say.is (sym bytes ∙ is_k))) (commit_other e k say)

ship_below : (epoch next : ℕ) (a : List Posted) (e : ℕ) (s : Posted) (m : Message) → epoch < 2 ^ 64 → ShipsBelow next a → next ≤ e → IsMessage m → s.letter.bytes ≡ bytes_of m → Contains a s ⊎ IsOfVote epoch s → IsOther e m
ship_below epoch next a e s m fits below from is bytes (inl was) = below e from s m was is bytes
ship_below epoch next a e s m fits below from is bytes (inr (inl chief)) = said_other e s m chief.message is bytes chief.say (ap (λ (p : Posted). p.letter.bytes) chief.is)
ship_below epoch next a e s m fits below from is bytes (inr (inr (inl vote))) = said_other e s m (Vote epoch true) is bytes (record { is = fits; commit = refl }) (ap (λ (p : Posted). p.letter.bytes) vote.is)
ship_below epoch next a e s m fits below from is bytes (inr (inr (inr query))) = said_other e s m (Query epoch) is bytes (record { is = fits; commit = refl }) (ap (λ (p : Posted). p.letter.bytes) query.is)

pub ships_voted : (epoch next : ℕ) (a b : List Posted) → epoch < 2 ^ 64 → Adds (IsOfVote epoch) a b → ShipsBelow next a → ShipsBelow next b
ships_voted epoch next a b fits adds below e from s m among is bytes = ship_below epoch next a e s m fits below from is bytes (adds_cases a b s adds among)
