-- Nodes and coordinator at rest behind stops and exchanges.
use Rattle.std.proofs.Common.{◌≡◌, ℕ, ◌+◌, ◌<◌, List, length, Some, sym, ap, subst, ◌∙◌, arith}
use Rattle.std.specs.List.{slice_get}
use Rattle.coco_ast.specs.Keyed.{Rows}
use Rattle.coco_chief.specs.Chief.{Chief}
use Rattle.coco_chief.specs.Shown.{chief_of}
use Rattle.coco_chief.specs.Table.{is_voting}
use Rattle.coco_entry.specs.declared.layout.Layout.{Layout}
use Rattle.coco_finish.specs.Exchanges.{AreInStep, HearsGiven}
use Rattle.coco_finish.specs.Finishing.{AllCanFinish, AreWhole, Finish}
use Rattle.coco_finish.specs.Stopping.{StopSome}
use Rattle.coco_letters.specs.Telling.{Adds, IsOfChief, IsOfFinish, IsOfSettling}
use Rattle.coco_letters.specs.Worlds.{Commits, SameEntries}
use Rattle.coco_letters.specs.declared.voter.Voter.{Voter}
use Rattle.coco_members.specs.AtRest.{AreAtRest, AreMembers, LettersBelow, ShardsHaveMap}
use Rattle.coco_members.specs.declared.members.Members.{Members}
use Rattle.coco_net.specs.declared.letter.Posted.{Posted}
use Rattle.coco_node.specs.Node.{Node}
use Rattle.coco_vote.specs.Beginning.{AreNew}
use Rattle.coco_vote.specs.Taking.{AreApart}
use Rattle.coco_world.specs.World.{World}
use Rattle.coco_settle.specs.Settling.{AreToFinish, MarkStops}
use Rattle.coco_letters.proofs.TellingLemmas.{adds_finish, adds_then, finished_by_finish, finished_weaker, votes_by_finish, finished_by_settling, votes_by_settling}
use Rattle.coco_members.proofs.LetterLemmas.{ships_below_finish, ships_below_settling}
use Rattle.coco_settle.proofs.NodeLemmas.{apart_stopped, elsewhere_stopped, marks_stopped, new_finish, new_stopped, new_voted}
use Rattle.coco_settle.proofs.RestLemmas.{shards_finish, told_chief}

-- ---- exchanges

module _ (next e : ℕ) (k after : Members) (sent between sent_new given given_new : List Posted) (cores cores_new : List Node) (was : cores ≡ k.cores.items) (now : after.cores.items ≡ cores_new) (many : length cores_new ≡ length cores)
    (rest : AreAtRest next sent k) (last : e ≡ (chief_of k.chief).last) (file : after.log.file ≡ k.log.file) (voters : after.voters.items ≡ k.voters.items)
    (finish : Finish e cores cores_new k.tables after.tables) (whole : AreWhole after.tables) (marks : length after.tables.behind.items ≡ length k.tables.behind.items) (can : AllCanFinish e cores_new)
    (in_step : AreInStep e cores (chief_of k.chief) between k.tables.behind.items → AreInStep e cores_new (chief_of after.chief) sent_new after.tables.behind.items)
    (hears : HearsGiven (chief_of k.chief) given (chief_of after.chief) given_new) (first : Adds IsOfChief sent between) (later : Adds (IsOfFinish e) between sent_new) where
  counts : length after.cores.items ≡ length k.cores.items
  counts = ap (λ (cs : List Node). length cs) now ∙ many ∙ ap (λ (cs : List Node). length cs) was

  added : Adds (IsOfFinish e) sent sent_new
  added = adds_then sent between sent_new (adds_finish e sent between first) later

  lower : e < next
  lower = let below : (chief_of k.chief).last < next = rest.committed in omega (arith, below, last)

  still_members : AreMembers after
  still_members = record {
    some = (let some = rest.are.some in omega (arith, some, counts));
    few = (let few = rest.are.few in omega (arith, few, counts));
    layout = ap (λ (l : Layout). l.nodes) finish.layout ∙ rest.are.layout ∙ sym counts;
    chief = hears.nodes ∙ rest.are.chief ∙ sym counts;
    voters = ap (λ (vs : List Voter). length vs) voters ∙ rest.are.voters ∙ sym counts;
    behind = marks ∙ rest.are.behind ∙ sym counts;
    whole = whole;
    apart = subst AreApart (sym voters) rest.are.apart;
    chief_apart = λ n voter at same. rest.are.chief_apart n voter (subst (λ (vs : List Voter). slice_get vs n ≡ Some voter) voters at) (same ∙ file);
  }

  -- they were in step when the coordinator had said its own
  step_before : AreInStep e cores (chief_of k.chief) between k.tables.behind.items
  step_before =
      told_chief e cores (chief_of k.chief) sent between k.tables.behind.items first
      (subst (λ (cs : List Node). AreInStep e cs (chief_of k.chief) sent k.tables.behind.items) (sym was)
      (subst (λ (n : ℕ). AreInStep n k.cores.items (chief_of k.chief) sent k.tables.behind.items) (sym last) rest.in_step))

  still_letters : LettersBelow next sent_new
  still_letters = record {
    ships = ships_below_finish e next sent sent_new added rest.letters.ships;
    votes = votes_by_finish next e sent sent_new rest.letters.votes added;
    finished = finished_by_finish next e sent sent_new rest.letters.finished added lower;
  }

  pub rest_finish : AreAtRest next sent_new after
  rest_finish = record {
    are = still_members;
    phase = hears.phase (ap is_voting rest.phase) ∙ rest.phase;
    begun = (let below = rest.begun in let same : (chief_of after.chief).current ≡ (chief_of k.chief).current = hears.current in omega (arith, below, same));
    committed = (let below = rest.committed in let same : (chief_of after.chief).last ≡ (chief_of k.chief).last = hears.last in omega (arith, below, same));
    new = subst (AreNew next) (sym now) (new_finish e next cores cores_new k.tables after.tables finish (subst (AreNew next) (sym was) rest.new));
    can = subst (λ (cs : List Node). AllCanFinish (chief_of after.chief).last cs) (sym now) (subst (λ (n : ℕ). AllCanFinish n cores_new) (last ∙ sym hears.last) can);
    in_step = subst (λ (cs : List Node). AreInStep (chief_of after.chief).last cs (chief_of after.chief) sent_new after.tables.behind.items) (sym now)
        (subst (λ (n : ℕ). AreInStep n cores_new (chief_of after.chief) sent_new after.tables.behind.items) (last ∙ sym hears.last) (in_step step_before));
    map = (rest.map.0, shards_finish e cores cores_new k.tables after.tables finish rest.map.0 whole rest.map.1);
    letters = still_letters;
  }

-- ---- stops behind a commit

module _ (e : ℕ) (k mid : Members) (sent between : List Posted) (m : Rows) (cores cores_new : List Node) (voters voters_new : List Voter) (stopped stopped_new : ℕ → ℕ)
    (was : cores ≡ k.cores.items) (held : voters ≡ k.voters.items) (now : mid.cores.items ≡ cores_new) (holds : mid.voters.items ≡ voters_new) (cores_many : length cores_new ≡ length cores) (voters_many : length voters_new ≡ length voters)
    (to : AreToFinish e sent k) (chief : chief_of mid.chief ≡ chief_of k.chief) (file : mid.log.file ≡ k.log.file) (layout : mid.tables.layout ≡ k.tables.layout)
    (marked : length mid.tables.behind.items ≡ length k.tables.behind.items) (whole : AreWhole mid.tables) (stops : StopSome e (length cores) stopped stopped_new cores voters sent cores_new voters_new between)
    (can : AllCanFinish e cores_new) (in_step : AreInStep e cores_new (chief_of k.chief) between mid.tables.behind.items) (stand : ShardsHaveMap m mid.tables) (asked : Adds (IsOfSettling e) sent between) where
  node_count : length mid.cores.items ≡ length k.cores.items
  node_count = ap (λ (cs : List Node). length cs) now ∙ cores_many ∙ ap (λ (cs : List Node). length cs) was

  many : length voters ≡ length cores
  many = ap (λ (vs : List Voter). length vs) held ∙ to.are.voters ∙ sym (ap (λ (cs : List Node). length cs) was)

  marks : MarkStops stopped stopped_new voters voters_new
  marks = marks_stopped e stopped stopped_new cores voters sent cores_new voters_new between stops many cores_many voters_many

  stopped_members : AreMembers mid
  stopped_members = record {
    some = (let some = to.are.some in omega (arith, some, node_count));
    few = (let few = to.are.few in omega (arith, few, node_count));
    layout = ap (λ (l : Layout). l.nodes) layout ∙ to.are.layout ∙ sym node_count;
    chief = ap (λ (c : Chief). c.nodes) chief ∙ to.are.chief ∙ sym node_count;
    voters = ap (λ (vs : List Voter). length vs) holds ∙ voters_many ∙ ap (λ (vs : List Voter). length vs) held ∙ to.are.voters ∙ sym node_count;
    behind = marked ∙ to.are.behind ∙ sym node_count;
    whole = whole;
    apart = subst AreApart (sym holds) (apart_stopped stopped stopped_new voters voters_new marks voters_many (subst AreApart (sym held) to.are.apart));
    chief_apart = λ n voter at same.
        elsewhere_stopped stopped stopped_new voters voters_new marks voters_many k.log.file (λ i v there. to.are.chief_apart i v (subst (λ (vs : List Voter). slice_get vs i ≡ Some v) held there)) n voter
        (subst (λ (vs : List Voter). slice_get vs n ≡ Some voter) holds at) (same ∙ file);
  }

  last_is : (chief_of mid.chief).last ≡ e
  last_is = ap (λ (c : Chief). c.last) chief ∙ to.last

  pub rest_stopped : AreAtRest (e + 1) between mid
  rest_stopped = record {
    are = stopped_members;
    phase = ap (λ (c : Chief). c.phase) chief ∙ to.phase;
    begun = (let is : (chief_of mid.chief).current ≡ e = ap (λ (c : Chief). c.current) chief ∙ to.current in omega (arith, is));
    committed = omega (arith, last_is);
    new = subst (AreNew (e + 1)) (sym now)
        (new_stopped e stopped stopped_new cores voters sent cores_new voters_new between stops many cores_many voters_many (subst (AreNew (e + 1)) (sym was) (new_voted e k.cores.items to.voting to.newest)));
    can = subst (λ (cs : List Node). AllCanFinish (chief_of mid.chief).last cs) (sym now) (subst (λ (n : ℕ). AllCanFinish n cores_new) (sym last_is) can);
    in_step = subst (λ (cs : List Node). AreInStep (chief_of mid.chief).last cs (chief_of mid.chief) between mid.tables.behind.items) (sym now)
        (subst (λ (n : ℕ). AreInStep n cores_new (chief_of mid.chief) between mid.tables.behind.items) (sym last_is)
        (subst (λ (c : Chief). AreInStep e cores_new c between mid.tables.behind.items) (sym chief) in_step));
    map = (m, stand);
    letters = record {
      ships = ships_below_settling e (e + 1) sent between asked to.ships;
      votes = votes_by_settling (e + 1) e sent between to.votes asked;
      finished = finished_by_settling (e + 1) e sent between (finished_weaker e (e + 1) sent (omega arith) to.finished) asked (omega arith);
    };
  }

-- ---- the world

pub commits_then : (e : ℕ) (w v u : World) → Commits e w v → SameEntries v u → Commits e w u
commits_then e w v u one two = record { prepared = two.prepared ∙ one.prepared; commits = two.commits ∙ one.commits; begun = two.begun ∙ one.begun }
