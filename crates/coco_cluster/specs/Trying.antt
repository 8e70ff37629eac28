-- An epoch that is tried: what is asked of nodes and coordinator for it, and what becomes of it.
use Rattle.std.specs.Prelude.{◌≡◌, ⊤, ℕ, ◌+◌, ◌<◌, ◌≤◌, Bool, true, false, List, [], length, Option, Some, Result, IfOk}
use Rattle.std.specs.List.{slice_get}
use Rattle.coco_append.specs.Gaining.{RestsOn}
use Rattle.coco_ast.specs.Growth.{GrowsBy, IsEpochOf}
use Rattle.coco_ast.specs.History.{followed_by, rows_after}
use Rattle.coco_ast.specs.Keyed.{Rows}
use Rattle.coco_chief.specs.Shown.{chief_of}
use Rattle.coco_early.specs.Runs.{HasRun}
use Rattle.coco_entry.specs.Commits.{IsCommit}
use Rattle.coco_entry.specs.declared.commit.Commit.{Commit}
use Rattle.coco_finish.specs.declared.tables.NodeTables.{NodeTables}
use Rattle.coco_host.specs.Files.{Files}
use Rattle.coco_host.specs.Moments.{Observation, SeesOnly}
use Rattle.coco_host.specs.declared.host.Host.{Ghosts as HostGhosts}
use Rattle.coco_letters.specs.Around.{Around, IsLater}
use Rattle.coco_letters.specs.GivingUp.{since, Awaits, IsGivenUp}
use Rattle.coco_letters.specs.declared.voter.Voter.{Voter}
use Rattle.coco_members.specs.AtRest.{primaries_of, AreMembers, LettersBelow}
use Rattle.coco_members.specs.Voted.{HaveVoted}
use Rattle.coco_members.specs.declared.members.Members.{Members}
use Rattle.coco_net.specs.declared.letter.Posted.{Posted}
use Rattle.coco_parallel.specs.Ending.{Start}
use Rattle.coco_parallel.specs.Traces.{IsTraceOf, Traced, traced}
use Rattle.coco_standing.specs.Standing.{TablesKeep}
use Rattle.coco_store.specs.Contents.{Contents, history_of, map_in}
use Rattle.coco_store.specs.Laws.{MayCommit}
use Rattle.coco_trial.specs.Running.{GiveAll, GiveShards, KeepAll, SamePlaces}
use Rattle.coco_trial.specs.Voting.{CoresRest}
use Rattle.coco_types.specs.declared.call.Done.{Done}
use Rattle.coco_types.specs.declared.call.Piece.{Piece}
use Rattle.coco_types.specs.declared.call.Request.{Request}
use Rattle.coco_vote.specs.Preparing.{Ballot, HavePrepared, MayForce}
use Rattle.coco_vote.specs.Taking.{AreHeld, HaveLogs, KeepPlaces, StayWhole}
use Rattle.coco_cluster.specs.Standing.{IsBehindAll, StandsAt}
use Rattle.coco_cluster.specs.Turning.{AddsOnlyPrepared, HasRoom, IsStoreOf, RestsWithout, ShowsHistory, beginning_at, beginning_on}
use Rattle.coco_cluster.specs.Writing.{WritesLogs}
use Rattle.coco_cluster.specs.declared.cluster.Cluster.{Cluster}
use Rattle.coco_cluster.specs.declared.trying.Tried.{Tried}
use Rattle.coco_cluster.specs.declared.trying.Tried.TheVariants.{Voted, GivenUp}

-- ---- what is seen meanwhile

-- At each moment between two, and behind the second, all that a crash may leave is a good store with the history of these contents, in which no entry is of
-- this epoch or a later one; no more is said, and the other files are as they were.
pub record Keeps {H : Type 0} (frame : HostGhosts H)
    (c : Contents) (end : ℕ) (old new : H) : Type 0 where
  pub moments : SeesOnly frame.moment frame.observed old new (ShowsHistory c.setting (history_of c) end (frame.said old))
  pub left : (bytes : List ℕ) → frame.said old ≡ Some bytes → (image : Files) → frame.may_leave new image → IsStoreOf c.setting (history_of c) end image
  pub others : WritesLogs c.setting (frame.reads old) (frame.reads new) (frame.may_leave old) (frame.may_leave new)
  pub quiet : frame.said new ≡ frame.said old

-- ---- nodes and coordinator

-- No epoch is voted on, and nothing of one from this number on is told as sent, whatever pends in the tables.
pub record AreQuiet (next : ℕ) (sent : List Posted) (k : Members) : Type 0 where
  pub are : AreMembers k
  pub rest : CoresRest next (chief_of k.chief) k.cores.items
  pub letters : LettersBelow next sent

-- The tables are laid out alike, the coordinator's log and the committed epochs are as they were, and each node's entries lie where they lay.
pub record StayInPlace (old new : Members) : Type 0 where
  pub log : new.log ≡ old.log
  pub tables : SamePlaces old.tables new.tables
  pub places : KeepPlaces old.voters.items new.voters.items
  pub committed : (chief_of new.chief).committed ≡ (chief_of old.chief).committed

-- to revert the shards gives this map, whatever the copies have
abbrev pub KeepShards : Rows → NodeTables → Type 0
KeepShards m t = TablesKeep (primaries_of t.layout) m t.shards.items []

-- Sixteen rounds have lost letters, behind which an answer to what was asked is still missing.
pub record IsSilentSince (sent given : List Posted) (faults : ℕ) (sent_new given_new : List Posted) (faults_new : ℕ) : Type 0 where
  pub lost : faults + 16 ≤ faults_new
  pub awaits : Awaits (since sent sent_new) (since given given_new)

-- all have voted, whatever map to promote the shards gives, or the epoch was given up
abbrev pub DecidesOn : Bool → ℕ → List Posted → Members → Members → Type 0
DecidesOn true epoch sent old k = (after : Rows) → GiveShards after old.tables → HaveVoted epoch after sent k
DecidesOn false epoch sent old k = AreQuiet (epoch + 1) sent k

-- a node's log is what it was, and so is what the node holds
abbrev pub SameLog : Voter → Voter → Type 0
SameLog voter voter_new = (voter_new.log ≡ voter.log) × (voter_new.held ≡ voter.held)

-- so it is with each
abbrev pub SameLogs : List Voter → List Voter → Type 0
SameLogs voters voters_new = (n : ℕ) (now : Voter) → slice_get voters_new n ≡ Some now → (was : Voter) × (slice_get voters n ≡ Some was) × SameLog was now

-- no count of stops that were told falls, and where it stays a node has lost its tables only if it had before
pub record LoseIfTold (seen seen_new : ℕ) (voters voters_new : List Voter) : Type 0 where
  pub rises : seen ≤ seen_new
  pub whole : StayWhole seen seen_new voters voters_new

-- the number is used where a node stops
abbrev pub next_if : Bool → ℕ → ℕ
next_if true epoch = epoch + 1
next_if false epoch = epoch

-- from a moment between two on it was given up for its cause
pub record GivesUp (a b : Around) : Type 0 where
  pub from : Around
  pub later : IsLater a from
  pub given_up : IsGivenUp from b

abbrev pub GivenUpIfNot : Bool → Around → Around → Type 0
GivenUpIfNot true a b = ⊤
GivenUpIfNot false a b = GivesUp a b

-- a host rests on contents in which each node has prepared the epoch, or on ones in which some may have
pub record RestsReady (c : Contents) (b : Ballot) (reads : Option Files) (may_leave : Files → Type 0) : Type 0 where
  pub contents : Contents
  pub has : ℕ → Bool
  pub voted : HavePrepared c b has contents
  pub all : (n : ℕ) → n < c.setting.entry.layout.nodes → has n ≡ true
  pub rests : RestsOn contents reads may_leave

abbrev pub RestsDecided : Bool → Contents → Ballot → Option Files → (Files → Type 0) → Type 0
RestsDecided true c b reads may_leave = RestsReady c b reads may_leave
RestsDecided false c b reads may_leave = RestsWithout c (b.epoch + 1) reads may_leave

-- what nodes that hold these partitions vote on
abbrev pub ballot_on : ℕ → List Piece → (ℕ → List Bool) → Ballot
ballot_on epoch pieces hold = record { epoch = epoch; pieces = pieces; held = hold }

-- On a store of these nodes, on which each may prepare an epoch that was run, the history stays up to the decision; and behind it the host rests by what was decided.
abbrev pub DecidesFiles : {H E : Type 0} → HostGhosts H
    → Result Bool E → ℕ → List Piece → Members → H → H → Type 0
DecidesFiles frame result epoch pieces k old new = (c : Contents) (hold : ℕ → List Bool) (after : Rows) → GiveShards after k.tables
    → AreHeld hold k.voters.items → MayForce c (ballot_on epoch pieces hold) → c.setting.entry.layout.nodes ≡ length k.cores.items → HaveLogs c k.voters.items
    → RestsOn c (frame.reads old) (frame.may_leave old) → IsBehindAll c epoch
    → Keeps frame c (epoch + 1) old new
    × IfOk result (λ all. RestsDecided all c (ballot_on epoch pieces hold) (frame.reads new) (frame.may_leave new))

-- where this is true, to promote all tables gives the map that the Dones leave of whichever run of the epoch left these pieces
abbrev pub GiveIf : Bool → ℕ → List Piece → NodeTables → NodeTables → Type 0
GiveIf all epoch pieces old new = all ≡ true → (s : Start) (dones : List Done) (trace : Traced) → s.config.epoch ≡ epoch → HasRun s old.shards.items dones pieces trace
    → KeepAll s.opening old → GiveAll (rows_after s.procs s.opening dones) new

-- ---- the cluster

abbrev pub commit_of : ℕ → List Done → Commit
commit_of epoch dones = record { epoch = epoch; dones = dones }

-- Of the store a cluster has what it had, but for room; and its tables and entries lie where they lay.
pub record StaysInPlace (old new : Cluster) : Type 0 where
  pub procs : new.procs ≡ old.procs
  pub kept : new.kept ≡ record old.kept { room = new.kept.room }
  pub base : new.base ≡ old.base
  pub next : new.next_epoch ≡ old.next_epoch
  pub trace : new.trace ≡ old.trace
  pub members : StayInPlace old.members new.members

-- All nodes have voted for an epoch that was run from this map, as the trace has it: to promote the shards gives the map that the Dones leave.
pub record HasVoted (requests : List Request) (workers attempts : ℕ) (m : Rows) (dones : List Done) (trace : Traced) (sent : List Posted) (old new : Cluster) : Type 0 where
  pub each : IsEpochOf requests (record { number = old.next_epoch; dones = dones })
  pub traced : IsTraceOf (beginning_at old m requests workers attempts) old.next_epoch dones trace
  pub voted : HaveVoted old.next_epoch (rows_after old.procs m dones) sent new.members
  pub room : length dones ≤ new.kept.room

-- it was given up: its requests are there again, and to revert the shards gives the map
pub record HasGivenUp (requests again : List Request) (m : Rows) (sent : List Posted) (old new : Cluster) : Type 0 where
  pub same : again ≡ requests
  pub quiet : AreQuiet (old.next_epoch + 1) sent new.members
  pub keeps : KeepShards m new.members.tables

-- so it is, by the answer, whatever map the shards had
abbrev pub ComesOf : Tried → List Request → ℕ → ℕ → Rows → List Posted → Cluster → Cluster → Type 0
ComesOf (Voted dones trace) requests workers attempts m sent old new = HasVoted requests workers attempts m dones (traced trace) sent old new
ComesOf (GivenUp again) requests workers attempts m sent old new = HasGivenUp requests again.items m sent old new

abbrev pub IsGivenUpIf : Tried → Around → Around → Type 0
IsGivenUpIf (Voted dones trace) a b = ⊤
IsGivenUpIf (GivenUp again) a b = GivesUp a b

-- ---- the store

-- A host rests on contents on which the epoch may be committed: the history then grows by these requests, as the trace has them from the map before, and to
-- promote the tables gives the map behind them.
pub record MayCommitOn (c : Contents) (requests : List Request) (workers attempts epoch : ℕ) (dones : List Done) (trace : Traced) (tables : NodeTables) (reads : Option Files) (may_leave : Files → Type 0) : Type 0 where
  pub d : Contents
  pub only : AddsOnlyPrepared c d
  pub below : IsBehindAll d (epoch + 1)
  pub rests : RestsOn d reads may_leave
  pub commit : IsCommit (commit_of epoch dones) → MayCommit d (commit_of epoch dones)
  pub traced : IsTraceOf (beginning_on c requests workers attempts) epoch dones trace
  pub grows : GrowsBy (history_of c) requests (followed_by (history_of c) (record { number = epoch; dones = dones }))
  pub gives : GiveAll (rows_after c.setting.tree (map_in c) dones) tables

-- it rests on contents that may have prepared entries of the epoch more, and to revert the tables gives their map
pub record MayGoOn (c : Contents) (epoch : ℕ) (tables : NodeTables) (reads : Option Files) (may_leave : Files → Type 0) : Type 0 where
  pub rests : RestsWithout c (epoch + 1) reads may_leave
  pub keeps : KeepAll (map_in c) tables

abbrev pub ComesOn : Tried → Contents → List Request → ℕ → ℕ → ℕ → NodeTables → Option Files → (Files → Type 0) → Type 0
ComesOn (Voted dones trace) c requests workers attempts epoch tables reads may_leave = MayCommitOn c requests workers attempts epoch dones (traced trace) tables reads may_leave
ComesOn (GivenUp again) c requests workers attempts epoch tables reads may_leave = MayGoOn c epoch tables reads may_leave

-- Where files are told, the history stays while the epoch is tried; and behind it the host rests by what came of that.
abbrev pub TriesFiles : {H E : Type 0} → HostGhosts H
    → Result Tried E → List Request → ℕ → ℕ → Cluster → Cluster → H → H → Type 0
TriesFiles frame result requests workers attempts old new host host_new = (c : Contents) → RestsOn c (frame.reads host) (frame.may_leave host) → StandsAt c old → HasRoom c requests
    → Keeps frame c (old.next_epoch + 1) host host_new
    × IfOk result (λ tried. ComesOn tried c requests workers attempts old.next_epoch new.members.tables (frame.reads host_new) (frame.may_leave host_new))
