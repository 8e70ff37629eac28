-- An epoch that was run, up to the decision on it.
use Rattle.std.specs.Global.{Vec}
use Rattle.std.proofs.Common.{◌≡◌, ℕ, ◌+◌, ◌≤◌, Bool, true, false, List, [], ◌∷◌, length, Option, Some, Result, IsErr, refl, sym, ap, ◌∙◌, subst, arith}
use Rattle.std.specs.List.{slice_get}
use Rattle.std.proofs.lemmas.Bool.Decides.{nat_tests}
use Rattle.std.proofs.lemmas.Result.{IfOk-from_err}
use Rattle.coco_append.specs.Gaining.{RestsOn}
use Rattle.coco_ast.proofs.Lists.{all_right}
use Rattle.coco_ast.specs.Keyed.{Rows}
use Rattle.coco_chief.specs.Shown.{chief_of}
use Rattle.coco_host.specs.Files.{Files, Become, Follows}
use Rattle.coco_host.specs.Moments.{Observation}
use Rattle.coco_host.specs.declared.host.Host.{Ghosts as HostGhosts}
use Rattle.coco_letters.specs.Around.{Around, IsLater}
use Rattle.coco_members.specs.AtRest.{primaries_of, AreMembers}
use Rattle.coco_members.specs.declared.members.Members.{Members}
use Rattle.coco_net.specs.declared.letter.Posted.{Posted}
use Rattle.coco_node.specs.Node.{Node}
use Rattle.coco_chief.specs.Chief.{Chief}
use Rattle.coco_shard.specs.RowState.{ShardState}
use Rattle.coco_entry.specs.Layouts.{IsLayout}
use Rattle.coco_entry.specs.declared.layout.Layout.{Layout}
use Rattle.coco_finish.specs.declared.tables.NodeTables.{NodeTables}
use Rattle.coco_standing.specs.Standing.{TablesStand, all_behind}
use Rattle.coco_store.specs.Contents.{Contents, IsGoodStore}
use Rattle.coco_trial.specs.Running as trial
use Rattle.coco_trial.specs.Voting.{ComesOf, Decided, HaveGivenUp, KeepsTables, MayVote}
use Rattle.coco_types.specs.declared.call.Piece.{Piece}
use Rattle.coco_vote.specs.Preparing.{Ballot, RestsVoted, have_durable}
use Rattle.coco_vote.specs.Taking.{HaveLogs, KeepPlaces, SameElsewhere}
use Rattle.coco_cluster.specs.Standing.{IsBehindAll}
use Rattle.coco_cluster.specs.Trying.{ballot_on, AreQuiet, DecidesFiles, DecidesOn, GivenUpIfNot, Keeps, RestsDecided, SameLogs, StayInPlace}
use Rattle.coco_cluster.specs.Turning.{RestsWithout}
use Rattle.coco_cluster.specs.Writing.{WritesLogs}
use Rattle.coco_cluster.proofs.BehindLemmas.{behind_later}
use Rattle.coco_cluster.proofs.RestLemmas.{cores_later}
use Rattle.coco_cluster.proofs.SeeingLemmas.{adds_none, keeps_same, rests_without, OnlyNow}
use Rattle.coco_cluster.proofs.StopLemmas.{logs_places}
use Rattle.coco_cluster.proofs.WriteLemmas.{writes_nodes}

-- where a copy doesn't answer, the epoch's number is used
pub silent_quiet : (epoch : ℕ) (sent : List Posted) (k : Members) → MayVote epoch sent k → AreQuiet (epoch + 1) sent k
silent_quiet epoch sent k may = record {
  are = may.are;
  rest = cores_later epoch (epoch + 1) (chief_of k.chief) k.cores.items (omega arith) may.rest;
  letters = record {
    ships = may.ships;
    votes = λ n e yes from. may.votes n e yes (omega (arith, from));
    finished = λ n e from. may.finished n e (omega (arith, from));
  };
}

-- so it is where the vote was given up
pub voted_quiet : (epoch : ℕ) (sent : List Posted) (k : Members) → HaveGivenUp epoch sent k → AreQuiet (epoch + 1) sent k
voted_quiet epoch sent k gone = record { are = gone.are; rest = gone.rest; letters = gone.letters }

pub decides_so : (all : Bool) (epoch : ℕ) (sent : List Posted) (old mid new : Members) → mid.tables.layout ≡ old.tables.layout → mid.tables.shards ≡ old.tables.shards → Decided all epoch sent mid new → DecidesOn all epoch sent old new
decides_so true epoch sent old mid new layout shards decided = λ after gives.
    decided after (subst (λ (l : Layout). TablesStand (primaries_of l) after all_behind mid.tables.shards.items []) (sym layout) (subst (λ (ss : List ShardState). TablesStand (primaries_of old.tables.layout) after all_behind ss []) (sym (ap (λ (s : Vec ShardState). s.items) shards)) gives))
decides_so false epoch sent old mid new layout shards decided = voted_quiet epoch sent new decided

pub cause_so : (all : Bool) (epoch : ℕ) (cores : List Node) (chief : Chief) (a b c : Around) → IsLater a b → IsLater b c → ComesOf all epoch cores chief b c → GivenUpIfNot all a c
cause_so true epoch cores chief a b c first second comes = tt
cause_so false epoch cores chief a b c first second comes = record { from = b; later = first; given_up = comes.cause }

-- ---- the store

pub rests_now : (c : Contents) (epoch : ℕ) (reads : Option Files) (may_leave : Files → Type 0) → RestsOn c reads may_leave → IsBehindAll c epoch → RestsWithout c (epoch + 1) reads may_leave
rests_now c epoch reads may_leave rests behind = (c, adds_none c, behind_later c epoch (epoch + 1) (omega arith) behind, rests)

pub rests_decided : (all : Bool) (c : Contents) (b : Ballot) (sent : List Posted) (old new : Members) (after : Rows) (x y : Around) (reads : Option Files) (may_leave : Files → Type 0) → IsBehindAll c b.epoch
    → c.setting.entry.layout.nodes ≡ length new.cores.items → trial.GiveShards after old.tables → DecidesOn all b.epoch sent old new → ComesOf all b.epoch new.cores.items (chief_of new.chief) x y
    → RestsVoted c b (have_durable b.epoch new.cores.items) reads may_leave → RestsDecided all c b reads may_leave
rests_decided true c b sent old new after x y reads may_leave behind nodes gives decides comes rests =
    let count = (decides after gives).are.chief in
    record {
      contents = rests.contents;
      has = have_durable b.epoch new.cores.items;
      voted = rests.voted;
      all = λ n less. (let durable = comes.all.durable n (omega (arith, less, nodes, count)) in grind (arith, nat_tests));
      rests = rests.rests;
    }
rests_decided false c b sent old new after x y reads may_leave behind nodes gives decides comes rests = rests_without c b behind (have_durable b.epoch new.cores.items) reads may_leave rests

-- where nothing was written meanwhile
module _ {H : Type 0} (frame : HostGhosts H)
    (only_now : OnlyNow frame) where
  pub idle_keeps : (c : Contents) (epoch : ℕ) (host : H) → RestsOn c (frame.reads host) (frame.may_leave host) → IsBehindAll c epoch → Keeps frame c (epoch + 1) host host
  idle_keeps c epoch host rests behind = keeps_same frame only_now c (epoch + 1) host rests (behind_later c epoch (epoch + 1) (omega arith) behind)

  pub failed_files : {E : Type 0} (r : Result Bool E) (epoch : ℕ) (pieces : List Piece) (k : Members) (host : H) → IsErr r → DecidesFiles frame r epoch pieces k host host
  failed_files r epoch pieces k host failed c hold after gives held may nodes logs rests behind = (idle_keeps c epoch host rests behind, IfOk-from_err r (λ all. RestsDecided all c (ballot_on epoch pieces hold) (frame.reads host) (frame.may_leave host)) failed)

-- a good store has a file for each node
files_count : (files : Files) (c : Contents) → IsGoodStore files c → length c.setting.entry.layout.node_files ≡ c.setting.entry.layout.nodes
files_count files c good = (all_right IsLayout c.earlier (c.setting.entry ∷ []) good.holds.history.layouts.are.are).0.fields.count

-- what a vote writes is in the logs of the nodes
pub writes_voted : (c : Contents) (k : Members) (was reads : Option Files) (might leaves : Files → Type 0) → RestsOn c was might → AreMembers k → c.setting.entry.layout.nodes ≡ length k.cores.items → HaveLogs c k.voters.items
    → Become (SameElsewhere k.voters.items) was reads → Follows (SameElsewhere k.voters.items) might leaves → WritesLogs c.setting was reads might leaves
writes_voted c k was reads might leaves rests are nodes logs files crash = writes_nodes c.setting c k.voters.items refl logs few was reads might leaves files crash
  where
    few : length k.voters.items ≤ length c.setting.entry.layout.node_files
    few = (let count = files_count rests.files c rests.good in let voters = are.voters in omega (arith, count, voters, nodes))

-- ---- places

pub stay_stopped : (old mid : Members) → mid ≡ record old { cores = mid.cores; voters = mid.voters } → SameLogs old.voters.items mid.voters.items → StayInPlace old mid
stay_stopped old mid same logs = record {
  log = ap (λ (k : Members). k.log) same;
  tables = record { layout = ap (λ (k : Members). k.tables.layout) same; behind = ap (λ (k : Members). k.tables.behind) same };
  places = logs_places old.voters.items mid.voters.items logs;
  committed = ap (λ (k : Members). (chief_of k.chief).committed) same;
}

pub stay_voted : (old mid new : Members) → mid ≡ record old { tables = mid.tables } → trial.SamePlaces old.tables mid.tables → KeepsTables mid new → (chief_of new.chief).committed ≡ (chief_of mid.chief).committed → StayInPlace old new
stay_voted old mid new same tables keeps committed = record {
  log = keeps.log ∙ ap (λ (k : Members). k.log) same;
  tables = record { layout = ap (λ (t : NodeTables). t.layout) keeps.tables ∙ tables.layout; behind = ap (λ (t : NodeTables). t.behind) keeps.tables ∙ tables.behind };
  places = subst (λ (k : Members). KeepPlaces k.voters.items new.voters.items) same keeps.places;
  committed = committed ∙ ap (λ (k : Members). (chief_of k.chief).committed) same;
}

pub stay_shipped : (old mid : Members) → mid ≡ record old { tables = mid.tables } → trial.SamePlaces old.tables mid.tables → StayInPlace old mid
stay_shipped old mid same tables = record {
  log = ap (λ (k : Members). k.log) same;
  tables = tables;
  places = λ n now there. (now, subst (λ (k : Members). slice_get k.voters.items n ≡ Some now) same there, record { held = refl; file = refl; kind = refl });
  committed = ap (λ (k : Members). (chief_of k.chief).committed) same;
}
