-- What is told as sent behind the ship phase of an epoch.
use Rattle.std.proofs.Common.{◌≡◌, ◌==◌, ◌⊎◌, inl, inr, ⊎_elim, ℕ, ◌+◌, ◌<◌, ◌≤◌, Bool, true, false, List, [], ◌++◌, length, if◌then◌else◌, refl, sym, ap, ◌∙◌, subst, arith}
use Rattle.std.specs.List.{Contains}
use Rattle.std.proofs.lemmas.List.Elements.{All-contains, Contains-append_cases, Contains-append_left}
use Rattle.coco_copy.specs.CopyState.{CopyState}
use Rattle.coco_entry.specs.declared.layout.Layout.{Layout}
use Rattle.coco_finish.specs.Finishing.{AreWhole}
use Rattle.coco_finish.specs.declared.tables.NodeTables.{NodeTables}
use Rattle.coco_letters.proofs.SayingLemmas.{same_message}
use Rattle.coco_letters.specs.Saying.{is_of_commit, posted}
use Rattle.coco_letters.specs.Telling.{FinishedBelow, VotesBelow}
use Rattle.coco_letters.specs.Worlds.{GoesOn, IsSaid}
use Rattle.coco_members.specs.AtRest.{ShipsBelow, scene_of}
use Rattle.coco_members.specs.declared.members.Members.{Members}
use Rattle.coco_msg.specs.Bytes.{bytes_of, IsMessage}
use Rattle.coco_msg.specs.declared.message.Message.{Message}
use Rattle.coco_msg.specs.declared.message.Message.TheVariants.{Ship, Total, Missing, All, Prepare, Vote, Commit, Finished, Abort, Query, Tell}
use Rattle.coco_net.specs.declared.letter.Posted.{Posted}
use Rattle.coco_ship.specs.Letters.{ship_of, IsOther}
use Rattle.coco_ship.specs.Sending.{answer_of}
use Rattle.coco_ship.specs.Shipping.{IsPhase}
use Rattle.coco_ship.specs.There.{AreRight, IsRight}
use Rattle.coco_ship.specs.declared.ring.Ring.{Ring}
use Rattle.coco_standing.specs.Standing.{AreCounted}
use Rattle.coco_trial.specs.Running.{SamePlaces}
use Rattle.coco_trial.specs.Voting.{MayVote}
use Rattle.coco_types.specs.declared.call.Piece.{Piece}
use Rattle.coco_world.specs.World.{Letter}
use Rattle.coco_cluster.specs.Trying.{AreQuiet}
use Rattle.coco_cluster.proofs.TryLemmas.{quiet_run}

-- a letter of the ship phase of an epoch
pub record IsShipping (epoch : ℕ) (s : Posted) : Type 0 where
  pub message : Message
  pub is : IsMessage message
  pub phase : IsPhase epoch message
  pub bytes : s.letter.bytes ≡ bytes_of message

answer_phase : (epoch p : ℕ) (missing : List ℕ) (none : Bool) → IsPhase epoch (if none then All epoch p else Missing epoch p missing)
answer_phase epoch p missing true = refl
answer_phase epoch p missing false = refl

right_ships : (ring : Ring) (epoch : ℕ) (pieces : List Piece) (starts : List CopyState) (given : List Posted) (s : Posted) → IsRight ring epoch pieces starts given s → IsShipping epoch s
right_ships ring epoch pieces starts given s right = ⊎_elim
    (λ asks. ⊎_elim
    (λ ship. record { message = ship_of epoch ship.0; is = ship.3; phase = refl; bytes = ap (λ (p : Posted). p.letter.bytes) ship.2 })
    (λ total. record { message = Total epoch right.0 total.0; is = total.3; phase = refl; bytes = ap (λ (p : Posted). p.letter.bytes) total.2 }) asks)
    (λ replies.
    let reply = replies.2 in
    record { message = answer_of epoch right.0 reply.0; is = reply.3; phase = answer_phase epoch right.0 reply.0 (length reply.0 == 0); bytes = ap (λ (p : Posted). p.letter.bytes) reply.2 }) right.3

abbrev tag_of : Message → ℕ
tag_of (Ship epoch partition place time writes) = 1
tag_of (Total epoch partition places) = 2
tag_of (Missing epoch partition places) = 3
tag_of (All epoch partition) = 4
tag_of (Prepare epoch) = 5
tag_of (Vote epoch vote) = 6
tag_of (Commit epoch) = 7
tag_of (Finished epoch) = 8
tag_of (Abort epoch) = 9
tag_of (Query epoch) = 10
tag_of (Tell epoch committed) = 11

early_tag : (epoch : ℕ) (m : Message) → IsPhase epoch m → tag_of m < 5
early_tag epoch (Ship of partition place time writes) phase = omega arith
early_tag epoch (Total of partition places) phase = omega arith
early_tag epoch (Missing of partition places) phase = omega arith
early_tag epoch (All of partition) phase = omega arith
early_tag epoch (Prepare of) phase = absurd phase
early_tag epoch (Vote of vote) phase = absurd phase
early_tag epoch (Commit of) phase = absurd phase
early_tag epoch (Finished of) phase = absurd phase
early_tag epoch (Abort of) phase = absurd phase
early_tag epoch (Query of) phase = absurd phase
early_tag epoch (Tell of committed) phase = absurd phase

-- so it is none of a vote
no_commit : (epoch : ℕ) (s : Posted) (m : Message) → IsShipping epoch s → IsMessage m → s.letter.bytes ≡ bytes_of m → 5 ≤ tag_of m → ⊥
no_commit epoch s m ships is bytes late =
    let same : m ≡ ships.message = same_message m ships.message is ships.is (sym bytes ∙ ships.bytes) in
    let early = early_tag epoch ships.message ships.phase in
    absurd (omega (arith, late, early, ap tag_of same))

-- and of no other epoch
other_epoch : (epoch e : ℕ) (m : Message) → epoch < e → IsPhase epoch m → IsOther e m
other_epoch epoch e (Ship of partition place time writes) less phase = λ same. omega (arith, less, phase, same)
other_epoch epoch e (Total of partition places) less phase = λ same. omega (arith, less, phase, same)
other_epoch epoch e (Missing of partition places) less phase = λ same. omega (arith, less, phase, same)
other_epoch epoch e (All of partition) less phase = λ same. omega (arith, less, phase, same)
other_epoch epoch e (Prepare of) less phase = tt
other_epoch epoch e (Vote of vote) less phase = tt
other_epoch epoch e (Commit of) less phase = tt
other_epoch epoch e (Finished of) less phase = tt
other_epoch epoch e (Abort of) less phase = tt
other_epoch epoch e (Query of) less phase = tt
other_epoch epoch e (Tell of committed) less phase = tt

whole_still : (old new : NodeTables) → new.layout ≡ old.layout → length new.shards.items ≡ length old.shards.items → length new.copies.items ≡ length old.copies.items → AreWhole old → AreWhole new
whole_still old new layout shards copies whole = subst (λ (l : Layout). AreCounted l new.shards.items new.copies.items) (sym layout)
    (record { ring = whole.ring; shard_count = shards ∙ whole.shard_count; copy_count = copies ∙ whole.copy_count })

-- a message of a commit is none of the ship phase
commit_tag : (m : Message) → is_of_commit m ≡ true → 5 ≤ tag_of m
commit_tag (Ship of partition place time writes) is = absurd cc
commit_tag (Total of partition places) is = absurd cc
commit_tag (Missing of partition places) is = absurd cc
commit_tag (All of partition) is = absurd cc
commit_tag (Prepare of) is = omega arith
commit_tag (Vote of vote) is = omega arith
commit_tag (Commit of) is = omega arith
commit_tag (Finished of) is = omega arith
commit_tag (Abort of) is = omega arith
commit_tag (Query of) is = omega arith
commit_tag (Tell of committed) is = omega arith

module _ (ring : Ring) (epoch : ℕ) (pieces : List Piece) (starts : List CopyState) (given sent posts sent_new : List Posted) (adds : sent_new ≡ sent ++ posts)
    (right : AreRight ring epoch pieces starts given posts) where
  split : (s : Posted) → Contains sent_new s → Contains sent s ⊎ IsShipping epoch s
  split s among = ⊎_elim (λ was. inl was) (λ now. inr (right_ships ring epoch pieces starts given s (All-contains (IsRight ring epoch pieces starts given) posts s right now)))
      (Contains-append_cases sent posts s (subst (λ (ps : List Posted). Contains ps s) adds among))

  pub ships_shipped : ShipsBelow epoch sent → ShipsBelow (epoch + 1) sent_new
  ships_shipped below e from s m among is bytes = ⊎_elim (λ was. below e (omega (arith, from)) s m was is bytes)
      (λ ships. subst (IsOther e) (sym (same_message m ships.message is ships.is (sym bytes ∙ ships.bytes))) (other_epoch epoch e ships.message (omega (arith, from)) ships.phase)) (split s among)

  pub votes_shipped : VotesBelow epoch sent → VotesBelow epoch sent_new
  votes_shipped below n e aye from few among = ⊎_elim (λ was. below n e aye from few was)
      (λ ships. no_commit epoch _ (Vote e aye) ships few refl (omega arith)) (split _ among)

  pub finished_shipped : FinishedBelow epoch sent → FinishedBelow epoch sent_new
  finished_shipped below n e from few among = ⊎_elim (λ was. below n e from few was)
      (λ ships. no_commit epoch _ (Finished e) ships few refl (omega arith)) (split _ among)

  -- so nodes and coordinator may vote on it
  pub may_vote : (old new : Members) → new ≡ record old { tables = new.tables } → SamePlaces old.tables new.tables → length new.tables.shards.items ≡ length old.tables.shards.items
      → length new.tables.copies.items ≡ length old.tables.copies.items → AreQuiet epoch sent old → MayVote epoch sent_new new
  may_vote old new same places shards copies quiet =
      let now = quiet_run epoch sent old new same places.layout places.behind (whole_still old.tables new.tables places.layout shards copies quiet.are.whole) quiet in
      record {
        are = now.are;
        rest = now.rest;
        ships = ships_shipped quiet.letters.ships;
        votes = votes_shipped quiet.letters.votes;
        finished = finished_shipped quiet.letters.finished;
      }

  said_before : (l : Letter) → IsSaid sent_new l → IsSaid sent l
  said_before l said = ⊎_elim (λ was. record { among = was; say = said.say })
      (λ ships. absurd (no_commit epoch _ l.message ships said.say.is refl (commit_tag l.message said.say.commit))) (split _ said.among)

  -- the world of nodes and coordinator has no part in it
  pub shipped_goes : (old new : Members) → new ≡ record old { tables = new.tables } → GoesOn (scene_of old sent) (scene_of new sent_new)
  shipped_goes old new same = subst (λ (k : Members). GoesOn (scene_of old sent) (scene_of k sent_new)) (sym same)
      (λ counts w is. record {
        after = w;
        goes = record { events = []; can = tt; to = refl; told = tt; rises = λ k lt. omega arith };
        is = record { count = is.count; nodes = is.nodes; chief_is = is.chief_is; told = λ l said. is.told l (said_before l said); durable = is.durable };
        only = λ only l among. (let said = only l among in record { among = subst (λ (ps : List Posted). Contains ps (posted l.from l.to l.message)) (sym adds) (Contains-append_left sent posts (posted l.from l.to l.message) said.among); say = said.say });
        made = record { prepared = refl; commits = refl; begun = refl };
      })
