-- Exchanges of a vote, one behind another.
use Rattle.std.proofs.Common.{◌≡◌, ℕ, ◌+◌, ◌-◌, ◌<◌, ◌≤◌, Bool, true, false, eqb, ◌≢◌, List, ◌++◌, refl, sym, subst, arith}
use Rattle.std.specs.List.{list_all, Contains}
use Rattle.std.proofs.lemmas.Bool.{eqb-false, eqb-true}
use Rattle.std.proofs.lemmas.List.Elements.{Contains-append_left, Contains-append_right}
use Rattle.coco_chief.specs.Chief.{Chief}
use Rattle.coco_chief.specs.Table.{has_voted, is_open}
use Rattle.coco_chief.specs.declared.machine.Phase.{Phase}
use Rattle.coco_chief.specs.declared.machine.Phase.TheVariants.{Rest, Voting, Forcing}
use Rattle.coco_net.specs.declared.letter.Posted.{Posted}
use Rattle.coco_node.specs.Node.{Node}
use Rattle.coco_world.proofs.Tools.{not_both}
use Rattle.coco_vote.specs.declared.step.Stops.{Stops}
use Rattle.coco_vote.specs.declared.step.Stops.TheVariants.{Never, Late, Early}
use Rattle.coco_vote.specs.Counting.{prepare_of, FitsPhase, HasCounted, IsAye}
use Rattle.coco_vote.specs.Nearing.{Nears}
use Rattle.coco_vote.specs.Outcomes.{exchanges_in, Comes, Settles}
use Rattle.coco_vote.specs.declared.phase.Votes.{Votes}
use Rattle.coco_vote.specs.declared.phase.Votes.TheVariants.{All, Stopped, Silent}
use Rattle.coco_vote.specs.Taking.{has_lost, vote_of, AreTold, AreVoting, CountsStops}
use Rattle.coco_vote.proofs.CountingLemmas.{all_up, up_all}

-- ---- what the coordinator has counted

forcing_by : (p : Phase) (v : List Bool) → FitsPhase p v → list_all (λ counted. counted) v ≡ true → p ≡ Forcing
forcing_by Rest v fits all = absurd fits
forcing_by Voting v fits all = absurd (not_both (list_all (λ counted. counted) v) all fits)
forcing_by Forcing v fits all = refl

voting_by : (p : Phase) (v : List Bool) → FitsPhase p v → (list_all (λ counted. counted) v ≡ true → ⊥) → p ≡ Voting
voting_by Rest v fits some = absurd fits
voting_by Voting v fits some = refl
voting_by Forcing v fits some = absurd (some fits)

pub open_by : (p : Phase) (v : List Bool) → FitsPhase p v → is_open p ≡ true
open_by Rest v fits = absurd fits
open_by Voting v fits = refl
open_by Forcing v fits = refl

module _ (e : ℕ) (Given : ℕ → Type 0) (chief : Chief) (counted : HasCounted e Given chief) where
  -- with all votes it is forcing
  pub forcing_all : ((n : ℕ) → n < chief.nodes → has_voted n chief ≡ true) → chief.phase ≡ Forcing
  forcing_all each = forcing_by chief.phase chief.voted counted.phase (up_all chief.voted (λ n less. each n (omega (arith, less, counted.flags))))

  -- and while one is missing it waits
  pub voting_still : (node : ℕ) → node < chief.nodes → has_voted node chief ≡ false → chief.phase ≡ Voting
  voting_still node less missing = voting_by chief.phase chief.voted counted.phase (λ all. not_both (has_voted node chief) (all_up chief.voted node all (omega (arith, less, counted.flags))) missing)

  -- a vote that isn't counted wasn't given
  pub not_given : (node : ℕ) → node < chief.nodes → has_voted node chief ≡ false → Given node → ⊥
  not_given node less missing given = not_both (has_voted node chief) (counted.all node less given) missing

-- a vote that isn't counted behind an exchange wasn't before, and wasn't given in it
module _ (e : ℕ) (given more : List Posted) (chief new : Chief) (was : HasCounted e (IsAye e given) chief) (now : HasCounted e (IsAye e (given ++ more)) new) (node : ℕ) (less : node < new.nodes) (missing : has_voted node new ≡ false) where
  pub not_more : IsAye e more node → ⊥
  not_more aye = not_given e (IsAye e (given ++ more)) new now node less missing (Contains-append_right given more (vote_of node e true) aye)

  pub was_missing : has_voted node chief ≡ false
  was_missing = by_flag (has_voted node chief) refl
    where
      by_flag : (b : Bool) → has_voted node chief ≡ b → has_voted node chief ≡ false
      by_flag true is = absurd (not_given e (IsAye e (given ++ more)) new now node less missing (Contains-append_left given more (vote_of node e true) (was.only node is)))
      by_flag false is = is

-- ---- counts

pub early_same : (stops : Stops) (s e t f : ℕ) → has_lost stops ≡ false → CountsStops stops s e t f → f ≡ e
early_same Never s e t f kept counts = counts.1
early_same Late s e t f kept counts = counts.1
early_same Early s e t f kept counts = absurd cc

pub early_more : (stops : Stops) (s e t f : ℕ) → has_lost stops ≡ true → CountsStops stops s e t f → e < f
early_more Never s e t f lost counts = absurd cc
early_more Late s e t f lost counts = absurd cc
early_more Early s e t f lost counts = counts.1

-- in each exchange that is counted a letter was lost
pub lost_more : (stops : Stops) (first counted before after : ℕ) → first + counted ≤ before → before ≤ after → (stops ≡ Never → after ≡ before → ⊥) → first + (counted + exchanges_in stops) ≤ after
lost_more Never first counted before after were rise rose = let other : after ≡ before → ⊥ = rose refl in omega (arith, were, rise, other)
lost_more Late first counted before after were rise rose = omega (arith, were, rise)
lost_more Early first counted before after were rise rose = omega (arith, were, rise)

-- what is left gets less
pub less_left : (stops : Stops) (counted ahead left : ℕ) → counted < 16 → has_lost stops ≡ false → Nears stops ahead left → (16 - (counted + exchanges_in stops)) + left < (16 - counted) + ahead
less_left Never counted ahead left few kept near = omega (arith, few, near)
less_left Late counted ahead left few kept near = omega (arith, few, near)
less_left Early counted ahead left few kept near = absurd cc

-- ---- answers

-- what has settled the vote has come of it
pub comes_by : (votes : Votes) (e count counted : ℕ) (cores : List Node) (sent given : List Posted) (asked : ℕ → ℕ → Bool) (chief : Chief) (faults faults_new early early_new : ℕ) → Settles votes count counted chief → chief.nodes ≡ count → HasCounted e (IsAye e given) chief
    → AreVoting e cores → AreTold e cores sent asked → ((n : ℕ) → IsAye e given n → Contains sent (vote_of n e true)) → ((node : ℕ) → node < count → has_voted node chief ≡ false → faults + counted ≤ faults_new) → early_new ≡ early → Comes votes e cores chief given faults faults_new early early_new
comes_by All e count counted cores sent given asked chief faults faults_new early early_new settles nodes has voting told were lost same = (
  record {
    durable = λ n less. told.ayes n (were n (has.only n (settles n (omega (arith, less, nodes)))));
    ayes = λ n less. has.only n (settles n (omega (arith, less, nodes)));
    voting = voting;
    current = has.current;
    phase = forcing_all e (IsAye e given) chief has (λ n less. settles n (omega (arith, less, nodes)));
  },
  same,
)
comes_by Stopped e count counted cores sent given asked chief faults faults_new early early_new settles nodes has voting told were lost same = absurd settles
comes_by (Silent node) e count counted cores sent given asked chief faults faults_new early early_new settles nodes has voting told were lost same =
    let less : node < chief.nodes = omega (arith, settles.1, nodes) in (
      record {
        lost = omega (arith, settles.0, lost node settles.1 settles.2);
        within = less;
        owes = not_given e (IsAye e given) chief has node less settles.2;
        least = λ n smaller. has.only n (settles.3 n smaller);
        voting = voting;
        current = has.current;
        phase = voting_still e (IsAye e given) chief has node less settles.2;
      },
      same,
    )

-- fewer than all are counted, where the coordinator asks again
pub few_more : (stops : Stops) (counted more now : ℕ) → counted < 16 → more ≡ exchanges_in stops → now ≡ counted + more → (now ≡ 16 → ⊥) → now < 16
few_more Never counted more now few is sum other = omega (arith, few, is, sum, other)
few_more Late counted more now few is sum other = omega (arith, few, is, sum, other)
few_more Early counted more now few is sum other = omega (arith, few, is, sum, other)

-- one node more is asked again
pub asked_more : (node e : ℕ) (chief : Chief) (fresh fresh_new : List Posted) → ((n : ℕ) → n < node → has_voted n chief ≡ false → Contains fresh (prepare_of n e)) → (has_voted node chief ≡ false → Contains fresh_new (prepare_of node e)) → ((p : Posted) → Contains fresh p → Contains fresh_new p)
    → (n : ℕ) → n < node + 1 → has_voted n chief ≡ false → Contains fresh_new (prepare_of n e)
asked_more node e chief fresh fresh_new before here still n less missing = by_place (eqb n node) refl
  where
    by_place : (b : Bool) → eqb n node ≡ b → Contains fresh_new (prepare_of n e)
    by_place true at =
        let same : n ≡ node = eqb-true n node at in
        subst (λ (k : ℕ). Contains fresh_new (prepare_of k e)) (sym same) (here (subst (λ (k : ℕ). has_voted k chief ≡ false) same missing))
    by_place false at = let other : n ≢ node = eqb-false n node at in still (prepare_of n e) (before n (omega (arith, less, other)) missing)

pub at_most_one : (stops : Stops) → exchanges_in stops ≤ 1
at_most_one Never = omega arith
at_most_one Late = omega arith
at_most_one Early = omega arith
