-- What comes of a vote on an epoch.
use Rattle.std.proofs.Common.{◌≡◌, ◌≢◌, ◌⊎◌, inl, inr, ℕ, zero, suc, ◌+◌, ◌<◌, ◌≤◌, ◌^◌, Bool, true, false, eqb, List, [], ◌∷◌, ◌++◌, drop, map, length, Option, None, Some, refl, sym, ap, subst, ◌∙◌, arith}
use Rattle.std.specs.List.{slice_get, Contains}
use Rattle.std.proofs.Math.Seq.{drop-append_seam}
use Rattle.std.specs.Option.{option_map, unwrap_or}
use Rattle.std.proofs.lemmas.Option.{same_Some}
use Rattle.coco_host.specs.Files.{Files}
use Rattle.coco_host.specs.declared.host.Host.{Ghosts as HostGhosts}
use Rattle.coco_net.specs.declared.net.Net.{Ghosts as NetGhosts}
use Rattle.coco_power.specs.declared.power.Power.{Ghosts as PowerGhosts}
use Rattle.coco_chief.specs.Chief.{Chief}
use Rattle.coco_chief.specs.Table.{is_open}
use Rattle.coco_msg.specs.declared.message.Message.TheVariants.{Prepare, Vote}
use Rattle.coco_net.specs.declared.letter.Posted.{Posted}
use Rattle.coco_node.specs.Node.{Node}
use Rattle.coco_node.specs.declared.machine.Decision.{Decision}
use Rattle.coco_node.specs.declared.machine.Decision.TheVariants.{Aborted, Unknown}
use Rattle.coco_append.specs.Gaining.{Stands}
use Rattle.coco_ast.specs.Keyed.{Rows}
use Rattle.coco_chief.specs.Shown.{chief_of}
use Rattle.coco_finish.specs.Finishing.{AllCanFinish, AreWhole, CanFinish}
use Rattle.coco_finish.specs.declared.tables.NodeTables.{NodeTables}
use Rattle.coco_letters.specs.Telling.{Adds, FinishedBelow, IsOfVote, VotesBelow}
use Rattle.coco_letters.specs.Around.{Around, IsLater}
use Rattle.coco_letters.specs.GivingUp.{since, IsGivenUp}
use Rattle.coco_letters.specs.Worlds.{Arrives, GoesOn, SameEntries, Scene}
use Rattle.coco_letters.specs.declared.voter.Voter.{Voter}
use Rattle.coco_letters.proofs.AroundLemmas.{later_then}
use Rattle.coco_letters.proofs.WorldLemmas.{goes_then}
use Rattle.coco_log.specs.LogState.{LogState}
use Rattle.coco_store.specs.Contents.{Contents}
use Rattle.coco_vote.specs.Beginning.{AreNew, GoesOnVoted, StartsVote}
use Rattle.coco_vote.specs.Counting.{prepare_of, GivesOn}
use Rattle.coco_vote.specs.Ending.{GiveUp}
use Rattle.coco_vote.specs.Keeping.{KeepsRest}
use Rattle.coco_vote.specs.Outcomes.{Comes}
use Rattle.coco_vote.specs.Preparing.{durable_at, have_durable, Ballot, HavePrepared, RestsVoted}
use Rattle.coco_vote.specs.Taking.{vote_of, AreMarked, AreReady, AreTold, KeepPlaces, KeepsCores, KeepsPlace, StayWhole}
use Rattle.coco_vote.specs.Voting.{GainsNewest}
use Rattle.coco_vote.specs.declared.phase.Votes.{Votes}
use Rattle.coco_vote.specs.declared.phase.Votes.TheVariants.{All, Stopped, Silent}
use Rattle.coco_vote.proofs.KeepingLemmas.{rest_places}
use Rattle.coco_vote.proofs.PlaceLemmas.{durable_here}
use Rattle.coco_vote.proofs.VoterLemmas.{apart_still}
use Rattle.coco_members.specs.AtRest.{AreMembers, ShipsBelow}
use Rattle.coco_members.specs.Voted.{HaveVoted}
use Rattle.coco_members.specs.declared.members.Members.{Members}
use Rattle.coco_trial.specs.Running.{GiveShards}
use Rattle.coco_trial.specs.Voting.{unmarked, AllVote, ComesOf, Decided, GivesUpVote, HaveGivenUp, KeepsTables, MayVote}
use Rattle.coco_letters.proofs.TellingLemmas.{finished_by_vote, votes_by_vote, votes_weaker}
use Rattle.coco_trial.proofs.TellingLemmas.{ships_voted}

two_sides : {X : Type 0} → false ≡ true → X
two_sides h = absurd cc

other_decision : {X : Type 0} → Unknown ≡ Aborted → X
other_decision h = absurd cc

none_some : {X : Type 0} {x : X} → None ≡ Some x → ⊥
none_some h = cc

-- ---- voters of whom nobody was asked yet

unmarked_at : (vs : List Voter) (n : ℕ) (now : Voter) → slice_get (map unmarked vs) n ≡ Some now → (was : Voter) × (slice_get vs n ≡ Some was) × (unmarked was ≡ now)
unmarked_at [] n now there = absurd (none_some there)
unmarked_at (v ∷ vs) zero now there = (v, refl, same_Some (unmarked v) now there)
unmarked_at (v ∷ vs) (suc n) now there = unmarked_at vs n now there

pub unmarked_places : (vs : List Voter) → KeepPlaces vs (map unmarked vs)
unmarked_places vs n now there =
    let was = unmarked_at vs n now there in
    (was.0, was.1, subst (λ (v : Voter). KeepsPlace was.0 v) was.2 (record { held = refl; file = refl; kind = refl }))

pub rest_unmarked : {H N P : Type 0} {frame : HostGhosts H} {nets : NetGhosts N} {powers : PowerGhosts P} (vs now : List Voter) (host : H) (net : N) (power : P) → now ≡ map unmarked vs → KeepsRest frame nets powers vs now host host net net power power
rest_unmarked vs now host net power is = rest_places vs now host net power (subst (KeepPlaces vs) (sym is) (unmarked_places vs))

pub unmarked_whole : (seen : ℕ) (vs : List Voter) → StayWhole seen seen vs (map unmarked vs)
unmarked_whole seen vs same n now there =
    let was = unmarked_at vs n now there in
    (was.0, was.1, ap (λ (v : Voter). v.is_lost) (sym was.2))

pub unmarked_ready : (vs : List Voter) (reads : Option Files) (may_leave : Files → Type 0) → AreReady vs reads may_leave → AreReady (map unmarked vs) reads may_leave
unmarked_ready vs reads may_leave ready n now there =
    let was = unmarked_at vs n now there in
    subst (λ (v : Voter). (v.log.spent ≡ false) × Stands v.log reads may_leave) was.2 (ready n was.0 was.1)

pub unmarked_marked : (vs : List Voter) (asked : ℕ → ℕ → Bool) → AreMarked (map unmarked vs) asked
unmarked_marked vs asked n now there marked =
    let was = unmarked_at vs n now there in
    two_sides (ap (λ (v : Voter). v.asked_after_vote) was.2 ∙ marked)

-- ---- cores behind the vote

there_is : {X : Type 0} (xs : List X) (n : ℕ) → n < length xs → (x : X) × (slice_get xs n ≡ Some x)
there_is [] n lt = absurd (omega (arith, lt))
there_is (x ∷ xs) zero lt = (x, refl)
there_is (x ∷ xs) (suc n) lt = there_is xs n (omega (arith, lt))

within_of : {X : Type 0} (xs : List X) (n : ℕ) (x : X) → slice_get xs n ≡ Some x → n < length xs
within_of [] n x there = absurd (none_some there)
within_of (y ∷ xs) zero x there = omega arith
within_of (y ∷ xs) (suc n) x there = (let h : n < length xs = within_of xs n x there in omega (arith, h))

unknown_aborted : {X : Type 0} (d : Decision) → d ≡ Unknown → d ≡ Aborted → X
unknown_aborted d one two = other_decision (sym one ∙ two)

-- who could finish an epoch before this one still can
pub can_voted : (e epoch : ℕ) (a b : List Node) → e < epoch → length b ≡ length a → KeepsCores epoch a b → AllCanFinish e a → AllCanFinish e b
can_voted e epoch a b less many keeps can n core there =
    let was = there_is a n (let h : n < length b = within_of b n core there in omega (arith, h, many)) in
    let could : CanFinish e was.0 = can n was.0 was.1 in
    let now : durable_at b n ≡ core.durable = durable_here b n core there in
    let then : durable_at a n ≡ was.0.durable = durable_here a n was.0 was.1 in
    record {
      has = elim (keeps.entries n) [
        | inl same ↦ (let h : core.durable ≡ was.0.durable = sym now ∙ same ∙ then in omega (arith, h, could.has))
        | inr newest ↦ (let h : core.durable ≡ epoch = sym now ∙ newest in omega (arith, h, less))
      ];
      stands = λ is aborted. elim (keeps.decided n core there) [
        | inl unknown ↦ unknown_aborted core.decision unknown aborted
        | inr old ↦ (let h : CanFinish e old.0 = can n old.0 old.1 in h.stands (old.2 ∙ is) (old.3 ∙ aborted))
      ];
    }

-- and so it is where the epoch is given up
pub can_given_up : (e epoch : ℕ) (b c : List Node) → e < epoch → GiveUp epoch b c → AllCanFinish e b → AllCanFinish e c
can_given_up e epoch b c less gives can n now there =
    let was = gives.each n now there in
    let could : CanFinish e was.0 = can n was.0 was.1 in
    let same : now.durable ≡ was.0.durable = was.2.durable in
    record {
      has = omega (arith, same, could.has);
      stands = λ is aborted. elim was.2.decision [
        | inl kept ↦ could.stands (sym same ∙ is) (sym kept ∙ aborted)
        | inr over ↦ absurd (let h : was.0.durable ≡ epoch = over.0 in omega (arith, h, same, is, less))
      ];
    }

-- each is new to the next epoch
pub new_given_up : (epoch : ℕ) (a b c : List Node) → KeepsCores epoch a b → GiveUp epoch b c → AreNew (epoch + 1) c
new_given_up epoch a b c keeps gives n now there =
    let was = gives.each n now there in
    let settled = keeps.settled n was.0 was.1 in
    record {
      idle = elim was.2.forcing [ inl same ↦ same ∙ settled.idle | inr ended ↦ ended.1 ];
      kept = (let h : now.lost ≡ was.0.lost = was.2.lost in omega (arith, h, settled.lost));
      older = (let h : now.durable ≡ was.0.durable = was.2.durable in omega (arith, h, settled.durable));
    }

-- ---- their entries

durable_none : (cores : List Node) (n : ℕ) → slice_get cores n ≡ None → durable_at cores n ≡ 0
durable_none cores n none = ap (λ (o : Option Node). unwrap_or (option_map (λ (core : Node). core.durable) o) 0) none

pub durable_given_up : (epoch : ℕ) (b c : List Node) → GiveUp epoch b c → (n : ℕ) → have_durable epoch b n ≡ have_durable epoch c n
durable_given_up epoch b c gives n = ap (λ (d : ℕ). eqb d epoch) (by_place (slice_get c n) refl)
  where
    by_place : (o : Option Node) → slice_get c n ≡ o → durable_at b n ≡ durable_at c n
    by_place (Some now) there = (let was = gives.each n now there in durable_here b n was.0 was.1 ∙ sym was.2.durable ∙ sym (durable_here c n now there))
    by_place None none = durable_none b n (no_more (slice_get b n) refl) ∙ sym (durable_none c n none)
      where
        no_more : (o : Option Node) → slice_get b n ≡ o → slice_get b n ≡ None
        no_more None there = there
        no_more (Some core) there = absurd (let more = there_is c n (let h : n < length b = within_of b n core there in omega (arith, h, gives.many)) in none_some (sym none ∙ more.1))

-- whichever nodes have prepared, told in another way
pub rests_told : (c : Contents) (b : Ballot) (has now : ℕ → Bool) (reads : Option Files) (may_leave : Files → Type 0) → ((n : ℕ) → has n ≡ now n) → RestsVoted c b has reads may_leave → RestsVoted c b now reads may_leave
rests_told c b has now reads may_leave same rests =
    let voted : HavePrepared c b has rests.contents = rests.voted in
    record {
      contents = rests.contents;
      voted = record {
        earlier = voted.earlier;
        setting = voted.setting;
        base = voted.base;
        commits = voted.commits;
        others = λ n is. voted.others n (same n ∙ is);
        prepared = λ n is. voted.prepared n (same n ∙ is);
      };
      rests = rests.rests;
    }

-- ---- the world

pub voted_then : (epoch : ℕ) (i j : ℕ → ℕ) (a b c : Scene) → GoesOnVoted epoch i j a b → GoesOn b c → GoesOnVoted epoch i j a c
voted_then epoch i j a b c first next w is above =
    let one : Arrives i j (StartsVote epoch) a b w = first w is above in
    let two : Arrives j j SameEntries b c one.after = next j one.after one.is in
    record {
      after = two.after;
      goes = goes_then i j j w one.after two.after one.goes two.goes;
      is = two.is;
      only = λ only. two.only (one.only only);
      made = record {
        prepared = λ n. subst (λ (f : ℕ → List ℕ). (f n ≡ w.prepared n) ⊎ GainsNewest epoch (w.prepared n) (f n)) (sym two.made.prepared) (one.made.prepared n);
        commits = two.made.commits ∙ one.made.commits;
        begun = two.made.begun ∙ one.made.begun;
      };
    }

-- ---- what came of it

pub since_is : (old new more : List Posted) → new ≡ old ++ more → since old new ≡ more
since_is old new more is = ap (drop (length old)) is ∙ drop-append_seam old more

-- an epoch for which not all have voted is open still
pub record IsOpen (epoch : ℕ) (chief : Chief) : Type 0 where
  pub current : chief.current ≡ epoch
  pub undecided : is_open chief.phase ≡ true

pub open_still : (votes : Votes) (epoch : ℕ) (cores : List Node) (chief : Chief) (given : List Posted) (faults faults_new early early_new : ℕ) → votes ≢ All → Comes votes epoch cores chief given faults faults_new early early_new → IsOpen epoch chief
open_still All epoch cores chief given faults faults_new early early_new not comes = absurd (not refl)
open_still Stopped epoch cores chief given faults faults_new early early_new not comes = record { current = comes.1; undecided = comes.2 }
open_still (Silent node) epoch cores chief given faults faults_new early early_new not comes = record { current = comes.0.current; undecided = ap is_open comes.0.phase }

-- and it is given up for its cause
pub cause_is : (votes : Votes) (epoch : ℕ) (cores : List Node) (chief : Chief) (a m b : Around) (posts : List Posted) → epoch < 2 ^ 64 → votes ≢ All → IsLater a m → IsLater m b → m.sent ≡ a.sent ++ posts
    → ((n : ℕ) → n < chief.nodes → Contains posts (prepare_of n epoch)) → Comes votes epoch cores chief (since a.given m.given) a.faults m.faults a.early m.early → IsGivenUp a b
cause_is All epoch cores chief a m b posts fits not one two sent told comes = absurd (not refl)
cause_is Stopped epoch cores chief a m b posts fits not one two sent told comes = inl (later_then a m b one two, (let risen : a.early < m.early = comes.0 in let rises : m.early ≤ b.early = two.early in omega (arith, risen, rises)))
cause_is (Silent node) epoch cores chief a m b posts fits not one two sent told comes = inr (
  m,
  one,
  comes.0.lost,
  record {
    asker = 8;
    asked = node;
    question = Prepare epoch;
    answer = Vote epoch true;
    waits = refl;
    is = fits;
    was_sent = subst (λ (ps : List Posted). Contains ps (prepare_of node epoch)) (sym (since_is a.sent m.sent posts sent)) (told node comes.0.within);
    missing = comes.0.owes;
  },
  two,
)

-- all have voted, and were asked for what comes before and behind a vote
pub all_vote : (epoch : ℕ) (cores : List Node) (chief : Chief) (a b : Around) (early early_new faults faults_new : ℕ) → length cores ≤ 8 → chief.nodes ≡ length cores → a.early ≡ early → b.early ≡ early_new
    → Comes All epoch cores chief (since a.given b.given) faults faults_new early early_new → AreTold epoch cores b.sent b.asked → ((p : Posted) → Contains (since a.given b.given) p → Contains b.sent p) → AllVote epoch cores chief a b
all_vote epoch cores chief a b early early_new faults faults_new few nodes was now comes told were_sent = record {
  all = comes.0;
  early = now ∙ comes.1 ∙ sym was;
  points = λ n less.
      let small : n < 8 = omega (arith, less, few) in
      let within : n < chief.nodes = omega (arith, less, nodes) in
      let before = told.before n small (comes.0.durable n within) in
      (before.0, before.1, told.behind n small (were_sent (vote_of n epoch true) (comes.0.ayes n within)));
}

pub given_is : (g : List Posted) (f : ℕ) (s : Option ℕ) (h : List Posted) (d : ℕ) (t : Option ℕ) → GivesOn g f s h d t → h ≡ g ++ since g h
given_is g f s h d t gives = gives.gives ∙ ap (λ (ps : List Posted). g ++ ps) (sym (since_is g h gives.more gives.gives))

-- ---- members behind a vote

pub members_still : (old new : Members) → AreMembers old → KeepsTables old new → (chief_of new.chief).nodes ≡ (chief_of old.chief).nodes → length new.voters.items ≡ length old.voters.items → AreMembers new
members_still old new are keeps nodes voters =
    let count : length new.cores.items ≡ length old.cores.items = keeps.count in
    record {
      some = omega (arith, count, are.some);
      few = omega (arith, count, are.few);
      layout = ap (λ (t : NodeTables). t.layout.nodes) keeps.tables ∙ are.layout ∙ sym count;
      chief = nodes ∙ are.chief ∙ sym count;
      voters = voters ∙ are.voters ∙ sym count;
      behind = ap (λ (t : NodeTables). length t.behind.items) keeps.tables ∙ are.behind ∙ sym count;
      whole = subst (λ (t : NodeTables). AreWhole t) (sym keeps.tables) are.whole;
      apart = apart_still old.voters.items new.voters.items keeps.places are.apart;
      chief_apart = λ n voter there same. let was = keeps.places n voter there in are.chief_apart n was.0 was.1 (sym was.2.file ∙ same ∙ ap (λ (log : LogState). log.file) keeps.log);
    }

-- where all have voted
pub voted_so : (epoch : ℕ) (sent : List Posted) (old new : Members) (a b : Around) → (chief_of old.chief).last < epoch → (chief_of new.chief).last ≡ (chief_of old.chief).last → KeepsTables old new → AreMembers new
    → AllVote epoch new.cores.items (chief_of new.chief) a b → ShipsBelow (epoch + 1) sent → VotesBelow (epoch + 1) sent → FinishedBelow epoch sent
    → (after : Rows) → GiveShards after old.tables → HaveVoted epoch after sent new
voted_so epoch sent old new a b above last keeps are votes ships below finished after give = record {
  are = are;
  phase = votes.all.phase;
  current = votes.all.current;
  last = omega (arith, above, last);
  voting = votes.all.voting;
  newest = λ n core there. sym (durable_here new.cores.items n core there) ∙ votes.all.durable n (let within : n < length new.cores.items = within_of new.cores.items n core there in let nodes : (chief_of new.chief).nodes ≡ length new.cores.items = are.chief in omega (arith, within, nodes));
  tables = subst (λ (t : NodeTables). GiveShards after t) (sym keeps.tables) give;
  ships = ships;
  votes = below;
  finished = finished;
}

-- and where the epoch was given up
pub given_up_so : (epoch : ℕ) (sent : List Posted) (old new : Members) (a b : Around) → (chief_of old.chief).last < epoch → (chief_of new.chief).last ≡ (chief_of old.chief).last → AreMembers new → AllCanFinish (chief_of old.chief).last new.cores.items
    → GivesUpVote epoch new.cores.items (chief_of new.chief) a b → ShipsBelow (epoch + 1) sent → VotesBelow (epoch + 1) sent → FinishedBelow epoch sent → HaveGivenUp epoch sent new
given_up_so epoch sent old new a b above last are can gives ships below finished = record {
  are = are;
  rest = record {
    phase = gives.phase;
    begun = (let is : (chief_of new.chief).current ≡ epoch = gives.current in omega (arith, is));
    committed = omega (arith, above, last);
    new = gives.new;
    can = subst (λ (e : ℕ). AllCanFinish e new.cores.items) (sym last) can;
  };
  letters = record { ships = ships; votes = below; finished = λ n e from. finished n e (omega (arith, from)) };
}

-- what is decided of them
pub decided_so : (all : Bool) (epoch : ℕ) (sent sent_new : List Posted) (old new : Members) (a b : Around) → epoch < 2 ^ 64 → MayVote epoch sent old → AreMembers new → KeepsTables old new → (chief_of new.chief).last ≡ (chief_of old.chief).last
    → AllCanFinish (chief_of old.chief).last new.cores.items → Adds (IsOfVote epoch) sent sent_new → ComesOf all epoch new.cores.items (chief_of new.chief) a b → Decided all epoch sent_new old new
decided_so true epoch sent sent_new old new a b fits may are keeps last can adds comes =
    voted_so epoch sent_new old new a b may.rest.committed last keeps are comes (ships_voted epoch (epoch + 1) sent sent_new fits adds may.ships) (votes_by_vote (epoch + 1) epoch sent sent_new (votes_weaker epoch (epoch + 1) sent (omega arith) may.votes) adds (omega arith)) (finished_by_vote epoch epoch sent sent_new may.finished adds)
decided_so false epoch sent sent_new old new a b fits may are keeps last can adds comes =
    given_up_so epoch sent_new old new a b may.rest.committed last are can comes (ships_voted epoch (epoch + 1) sent sent_new fits adds may.ships) (votes_by_vote (epoch + 1) epoch sent sent_new (votes_weaker epoch (epoch + 1) sent (omega arith) may.votes) adds (omega arith)) (finished_by_vote epoch epoch sent sent_new may.finished adds)

pub decided_by : {new : Members} (all : Bool) (epoch : ℕ) (sent sent_new : List Posted) (old : Members) (a b : Around) → epoch < 2 ^ 64 → MayVote epoch sent old → KeepsTables old new → (chief_of new.chief).nodes ≡ (chief_of old.chief).nodes → length new.voters.items ≡ length old.voters.items
    → (chief_of new.chief).last ≡ (chief_of old.chief).last → AllCanFinish (chief_of old.chief).last new.cores.items → Adds (IsOfVote epoch) sent sent_new → ComesOf all epoch new.cores.items (chief_of new.chief) a b → Decided all epoch sent_new old new
decided_by all epoch sent sent_new old a b fits may keeps nodes voters last can adds comes = decided_so all epoch sent sent_new old _ a b fits may (members_still old _ may.are keeps nodes voters) keeps last can adds comes
