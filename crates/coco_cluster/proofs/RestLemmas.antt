-- Nodes and coordinator between epochs, from call to call.
use Rattle.std.proofs.Common.{◌≡◌, ℕ, ◌≤◌, true, false, List, sym, ◌∙◌, arith}
use Rattle.coco_chief.specs.Chief.{Chief}
use Rattle.coco_finish.specs.Finishing.{is_behind}
use Rattle.coco_members.specs.AtRest.{AreAtRest, LettersBelow, NoneBehind, ShardsHaveMap}
use Rattle.coco_members.specs.declared.members.Members.{Members}
use Rattle.coco_net.specs.declared.letter.Posted.{Posted}
use Rattle.coco_node.specs.Node.{Node}
use Rattle.coco_trial.specs.Voting.{CoresRest}
use Rattle.coco_vote.specs.Beginning.{AreNew}
use Rattle.coco_vote.proofs.VoterLemmas.{places_then}
use Rattle.coco_ast.specs.Keyed.{Rows}
use Rattle.coco_cluster.specs.Trying.{AreQuiet, StayInPlace}

pub letters_later : (next later : ℕ) (sent : List Posted) → next ≤ later → LettersBelow next sent → LettersBelow later sent
letters_later next later sent le below = record {
  ships = λ e from. below.ships e (omega (arith, le, from));
  votes = λ n e yes from. below.votes n e yes (omega (arith, le, from));
  finished = λ n e from. below.finished n e (omega (arith, le, from));
}

pub new_later : (next later : ℕ) (cores : List Node) → next ≤ later → AreNew next cores → AreNew later cores
new_later next later cores le new n core there =
    let was = new n core there in
    let kept = was.kept in
    let older = was.older in
    record { idle = was.idle; kept = omega (arith, kept, le); older = omega (arith, older, le) }

pub cores_later : (next later : ℕ) (chief : Chief) (cores : List Node) → next ≤ later → CoresRest next chief cores → CoresRest later chief cores
cores_later next later chief cores le rest =
    let begun = rest.begun in
    let committed = rest.committed in
    record { phase = rest.phase; begun = omega (arith, begun, le); committed = omega (arith, committed, le); new = new_later next later cores le rest.new; can = rest.can }

-- between two epochs nodes and coordinator are quiet
pub rest_is_quiet : (next : ℕ) (sent : List Posted) (k : Members) → AreAtRest next sent k → AreQuiet next sent k
rest_is_quiet next sent k rest = record {
  are = rest.are;
  rest = record { phase = rest.phase; begun = rest.begun; committed = rest.committed; new = rest.new; can = rest.can };
  letters = rest.letters;
}

-- and where no node is behind they rest again once their shards have a map
pub quiet_rests : (next : ℕ) (sent : List Posted) (k : Members) (m : Rows) → AreQuiet next sent k → NoneBehind k.tables → ShardsHaveMap m k.tables → AreAtRest next sent k
quiet_rests next sent k m quiet none map = record {
  are = quiet.are;
  phase = quiet.rest.phase;
  begun = quiet.rest.begun;
  committed = quiet.rest.committed;
  new = quiet.rest.new;
  can = quiet.rest.can;
  in_step = record {
    behind = λ n core there is. absurd (not_both n is);
    told = λ n among. none n;
    up = λ n finished. none n;
  };
  map = (m, map);
  letters = quiet.letters;
}
  where
    not_both : (n : ℕ) → is_behind k.tables.behind.items n ≡ true → ⊥
    not_both n is = let both : true ≡ false = sym is ∙ none n in absurd (cc)

-- ---- where entries lie

pub stay_then : (a b c : Members) → StayInPlace a b → StayInPlace b c → StayInPlace a c
stay_then a b c one two = record {
  log = two.log ∙ one.log;
  tables = record { layout = two.tables.layout ∙ one.tables.layout; behind = two.tables.behind ∙ one.tables.behind };
  places = places_then a.voters.items b.voters.items c.voters.items one.places two.places;
  committed = two.committed ∙ one.committed;
}
