-- Nodes and coordinator where a node may have stopped before its entry.
use Rattle.std.proofs.Common.{◌≡◌, ⊎_elim, ℕ, ◌+◌, ◌<◌, ◌≤◌, Bool, true, false, List, length, length-set, Option, Some, Result, Ok, Err, refl, sym, ap, ◌∙◌, subst, arith, true≢false}
use Rattle.std.specs.Prelude.{IfOk, OnOk}
use Rattle.std.specs.List.{slice_get}
use Rattle.std.specs.Vec.{with_items}
use Rattle.std.proofs.lemmas.Bool.{cases_lt}
use Rattle.std.proofs.lemmas.Option.{slice_get_within}
use Rattle.coco_append.specs.Gaining.{Stands}
use Rattle.coco_chief.specs.Chief.{Chief}
use Rattle.coco_chief.specs.Shown.{chief_of}
use Rattle.coco_finish.specs.Finishing.{AllCanFinish, AreWhole}
use Rattle.coco_host.specs.Files.{Files}
use Rattle.coco_letters.specs.Worlds.{GoesBetween, SameEntries}
use Rattle.coco_letters.specs.declared.voter.Voter.{Voter}
use Rattle.coco_log.specs.LogState.{LogState}
use Rattle.coco_lost.specs.Stopping.{Stops, StopsOne}
use Rattle.coco_lost.proofs.Places.{each_set}
use Rattle.coco_members.specs.declared.members.Members.{Members}
use Rattle.coco_net.specs.declared.letter.Posted.{Posted}
use Rattle.coco_node.specs.Node.{Node}
use Rattle.coco_types.specs.declared.error.NoMemory.{NoMemory}
use Rattle.coco_vote.specs.Beginning.{AreNew}
use Rattle.coco_vote.specs.Taking.{AreReady, KeepPlaces, StayWhole}
use Rattle.coco_vote.proofs.VoterLemmas.{apart_still, places_same, places_set}
use Rattle.coco_cluster.specs.Trying.{next_if, AreQuiet, SameLog, SameLogs, LoseIfTold}
use Rattle.coco_cluster.proofs.RestLemmas.{letters_later}
use Rattle.coco_vote.specs.Asking.{RisesIf}
use Rattle.coco_vote.proofs.WholeLemmas.{all_whole_then}
use Rattle.coco_members.specs.AtRest.{NoneLost, scene_of}
use Rattle.coco_cluster.proofs.VecLemmas.{with_same_items}

-- what may change of members where a node stops: a core and the marks of a node
abbrev pub ChangesStopped : Members → Members → Type 0
ChangesStopped old new = new ≡ record old { cores = new.cores; voters = new.voters }

-- nodes and coordinator are quiet still
quiet_still : (next later : ℕ) (old new : Members) (sent : List Posted) → next ≤ later → ChangesStopped old new → length new.cores.items ≡ length old.cores.items → length new.voters.items ≡ length old.voters.items
    → KeepPlaces old.voters.items new.voters.items → AreNew later new.cores.items → AllCanFinish (chief_of old.chief).last new.cores.items → AreQuiet next sent old → AreQuiet later sent new
quiet_still next later old new sent le same cores voters places now can quiet = record {
  are = record {
    some = (let s = quiet.are.some in omega (arith, s, cores));
    few = (let f = quiet.are.few in omega (arith, f, cores));
    layout = ap (λ (k : Members). k.tables.layout.nodes) same ∙ quiet.are.layout ∙ sym cores;
    chief = ap (λ (k : Members). (chief_of k.chief).nodes) same ∙ quiet.are.chief ∙ sym cores;
    voters = voters ∙ quiet.are.voters ∙ sym cores;
    behind = ap (λ (k : Members). length k.tables.behind.items) same ∙ quiet.are.behind ∙ sym cores;
    whole = subst AreWhole (sym (ap (λ (k : Members). k.tables) same)) quiet.are.whole;
    apart = apart_still old.voters.items new.voters.items places quiet.are.apart;
    chief_apart = λ k voter there is.
        let was = places k voter there in
        quiet.are.chief_apart k was.0 was.1 (sym was.2.file ∙ is ∙ ap (λ (m : Members). m.log.file) same);
  };
  rest = record {
    phase = ap (λ (k : Members). (chief_of k.chief).phase) same ∙ quiet.rest.phase;
    begun = (let b = quiet.rest.begun in let e = ap (λ (k : Members). (chief_of k.chief).current) same in omega (arith, b, e, le));
    committed = (let b = quiet.rest.committed in let e = ap (λ (k : Members). (chief_of k.chief).last) same in omega (arith, b, e, le));
    new = now;
    can = subst (λ (last : ℕ). AllCanFinish last new.cores.items) (sym (ap (λ (k : Members). (chief_of k.chief).last) same)) can;
  };
  letters = letters_later next later sent le quiet.letters;
}

module _ (epoch : ℕ) (old new : Members) (stopped stopped_new : ℕ → ℕ) (same : ChangesStopped old new) where
  abbrev Stopping : Bool → Type 0
  Stopping stops = StopsOne stops epoch stopped stopped_new old.cores.items old.voters.items new.cores.items new.voters.items

  places_stop : (n : ℕ) → Stops epoch n stopped stopped_new old.cores.items old.voters.items new.cores.items new.voters.items → KeepPlaces old.voters.items new.voters.items
  places_stop n stop = subst (KeepPlaces old.voters.items) (sym stop.voters_are)
      (places_set old.voters.items n stop.voter (record stop.voter { is_lost = true }) stop.voter_there (record { held = refl; file = refl; kind = refl }))

  pub quiet_after : (stops : Bool) → Stopping stops → (AreNew epoch old.cores.items → AreNew (epoch + 1) new.cores.items)
      → ((last : ℕ) → AllCanFinish last old.cores.items → AllCanFinish last new.cores.items) → (sent : List Posted) → AreQuiet epoch sent old → AreQuiet (next_if stops epoch) sent new
  quiet_after true stop next can sent quiet = quiet_still epoch (epoch + 1) old new sent (omega arith) same
      (ap (length {A = Node}) stop.1.cores_are ∙ length-set old.cores.items stop.0 _) (ap (length {A = Voter}) stop.1.voters_are ∙ length-set old.voters.items stop.0 _)
      (places_stop stop.0 stop.1) (next quiet.rest.new) (can (chief_of old.chief).last quiet.rest.can) quiet
  quiet_after false none next can sent quiet = quiet_still epoch epoch old new sent (omega arith) same (ap (length {A = Node}) none.cores_stay) (ap (length {A = Voter}) none.voters_stay)
      (subst (KeepPlaces old.voters.items) (sym none.voters_stay) (places_same old.voters.items)) (subst (AreNew epoch) (sym none.cores_stay) quiet.rest.new)
      (subst (AllCanFinish (chief_of old.chief).last) (sym none.cores_stay) quiet.rest.can) quiet

  -- nothing has changed where cores and voters are as they were
  pub none_after : (new.cores.items ≡ old.cores.items → new.voters.items ≡ old.voters.items → new ≡ old) → (stops : Bool) → Stopping stops → stops ≡ false → new ≡ old
  none_after back true stop is = absurd (true≢false is)
  none_after back false none is = back none.cores_stay none.voters_stay

  pub logs_after : (stops : Bool) → Stopping stops → SameLogs old.voters.items new.voters.items
  logs_after true stop = subst (SameLogs old.voters.items) (sym stop.1.voters_are)
      (each_set old.voters.items stop.0 (record stop.1.voter { is_lost = true }) (slice_get_within old.voters.items stop.0 stop.1.voter stop.1.voter_there)
      (λ k (now : Voter). (was : Voter) × (slice_get old.voters.items k ≡ Some was) × SameLog was now)
      (stop.1.voter, stop.1.voter_there, (refl, refl)) (λ k voter other there. (voter, there, (refl, refl))))
  logs_after false none = subst (SameLogs old.voters.items) (sym none.voters_stay) (λ n now there. (now, there, (refl, refl)))

  pub lose_after : (seen seen_new : ℕ) → seen ≤ seen_new → (stops : Bool) → Stopping stops → RisesIf stops seen seen_new → LoseIfTold seen seen_new old.voters.items new.voters.items
  lose_after seen seen_new up true stop told = record { rises = up; whole = λ is n now there. absurd (omega (arith, told, is)) }
  lose_after seen seen_new up false none told = record { rises = up; whole = subst (StayWhole seen seen_new old.voters.items) (sym none.voters_stay) (λ is n now there. (now, there, refl)) }

-- members whose cores and voters are given back as they were
pub given_back : (k : Members) (cores : List Node) (voters : List Voter) → (with_items k.cores cores).items ≡ k.cores.items → (with_items k.voters voters).items ≡ k.voters.items
    → record k { cores = with_items k.cores cores; voters = with_items k.voters voters } ≡ k
given_back k cores voters cores_stay voters_stay = λ i. record k { cores = with_same_items k.cores cores cores_stay i; voters = with_same_items k.voters voters voters_stay i }

-- ---- by the answer, where the lists were handed in by reference

module _ (r : Result Bool NoMemory) (epoch : ℕ) (old new : Members) (stopped stopped_new : ℕ → ℕ) (same : ChangesStopped old new) (cs cs_new : List Node) (vs vs_new : List Voter)
    (cs_are : cs ≡ old.cores.items) (vs_are : vs ≡ old.voters.items) (cs_now : new.cores.items ≡ cs_new) (vs_now : new.voters.items ≡ vs_new)
    (given : IfOk r (λ stops. StopsOne stops epoch stopped stopped_new cs vs cs_new vs_new)) where
  stops : IfOk r (λ stops. StopsOne stops epoch stopped stopped_new old.cores.items old.voters.items new.cores.items new.voters.items)
  stops = subst (λ a. IfOk r (λ stops. StopsOne stops epoch stopped stopped_new a old.voters.items new.cores.items new.voters.items)) cs_are
      (subst (λ a. IfOk r (λ stops. StopsOne stops epoch stopped stopped_new cs a new.cores.items new.voters.items)) vs_are
      (subst (λ a. IfOk r (λ stops. StopsOne stops epoch stopped stopped_new cs vs a new.voters.items)) (sym cs_now)
      (subst (λ a. IfOk r (λ stops. StopsOne stops epoch stopped stopped_new cs vs cs_new a)) (sym vs_now) given)))

  pub stop_quiet : OnOk r (AreNew epoch cs → AreNew (epoch + 1) cs_new) → OnOk r ((last : ℕ) → AllCanFinish last cs → AllCanFinish last cs_new)
      → IfOk r (λ stops. (sent : List Posted) → AreQuiet epoch sent old → AreQuiet (next_if stops epoch) sent new)
  stop_quiet next can = elim r as (λ q. IfOk q (λ stops. StopsOne stops epoch stopped stopped_new old.cores.items old.voters.items new.cores.items new.voters.items) → OnOk q (AreNew epoch cs → AreNew (epoch + 1) cs_new)
      → OnOk q ((last : ℕ) → AllCanFinish last cs → AllCanFinish last cs_new) → IfOk q (λ stops. (sent : List Posted) → AreQuiet epoch sent old → AreQuiet (next_if stops epoch) sent new)) [
        | Ok x ↦ λ s n c. quiet_after epoch old new stopped stopped_new same x s (λ was. subst (AreNew (epoch + 1)) (sym cs_now) (n (subst (AreNew epoch) (sym cs_are) was)))
            (λ last was. subst (AllCanFinish last) (sym cs_now) (c last (subst (AllCanFinish last) (sym cs_are) was)))
        | Err e ↦ λ s n c. tt
      ] stops next can

  pub stop_none : (new.cores.items ≡ old.cores.items → new.voters.items ≡ old.voters.items → new ≡ old) → IfOk r (λ stops. stops ≡ false → new ≡ old)
  stop_none back = elim r as (λ q. IfOk q (λ stops. StopsOne stops epoch stopped stopped_new old.cores.items old.voters.items new.cores.items new.voters.items) → IfOk q (λ stops. stops ≡ false → new ≡ old)) [
    | Ok x ↦ λ s. none_after epoch old new stopped stopped_new same back x s
    | Err e ↦ λ s. tt
  ] stops

  pub stop_logs : OnOk r (SameLogs old.voters.items new.voters.items)
  stop_logs = elim r as (λ q. IfOk q (λ stops. StopsOne stops epoch stopped stopped_new old.cores.items old.voters.items new.cores.items new.voters.items) → OnOk q (SameLogs old.voters.items new.voters.items)) [
    | Ok x ↦ λ s. logs_after epoch old new stopped stopped_new same x s
    | Err e ↦ λ s. tt
  ] stops

  pub stop_whole : (seen early seen_new early_new : ℕ) → seen ≤ seen_new → IfOk r (λ stops. RisesIf stops seen seen_new × RisesIf stops early early_new) → OnOk r (LoseIfTold seen seen_new old.voters.items new.voters.items)
  stop_whole seen early seen_new early_new up told = elim r as (λ q. IfOk q (λ stops. StopsOne stops epoch stopped stopped_new old.cores.items old.voters.items new.cores.items new.voters.items)
      → IfOk q (λ stops. RisesIf stops seen seen_new × RisesIf stops early early_new) → OnOk q (LoseIfTold seen seen_new old.voters.items new.voters.items)) [
        | Ok x ↦ λ s t. lose_after epoch old new stopped stopped_new same seen seen_new up x s t.0
        | Err e ↦ λ s t. tt
      ] stops told

  -- the world goes on by a stop alone
  pub stop_goes : OnOk r ((chief : Chief) (sent : List Posted) → GoesBetween stopped stopped_new SameEntries (record { cores = cs; chief = chief; sent = sent }) (record { cores = cs_new; chief = chief; sent = sent }))
      → OnOk r ((sent : List Posted) → GoesBetween stopped stopped_new SameEntries (scene_of old sent) (scene_of new sent))
  stop_goes goes = elim r as (λ q. OnOk q ((chief : Chief) (sent : List Posted) → GoesBetween stopped stopped_new SameEntries (record { cores = cs; chief = chief; sent = sent }) (record { cores = cs_new; chief = chief; sent = sent }))
      → OnOk q ((sent : List Posted) → GoesBetween stopped stopped_new SameEntries (scene_of old sent) (scene_of new sent))) [
        | Ok x ↦ λ g sent. subst (λ (c : Chief). GoesBetween stopped stopped_new SameEntries (scene_of old sent) (record { cores = new.cores.items; chief = c; sent = sent })) (sym (ap (λ (k : Members). chief_of k.chief) same))
            (subst (λ a. GoesBetween stopped stopped_new SameEntries (record { cores = a; chief = chief_of old.chief; sent = sent }) (record { cores = new.cores.items; chief = chief_of old.chief; sent = sent })) cs_are
            (subst (λ a. GoesBetween stopped stopped_new SameEntries (record { cores = cs; chief = chief_of old.chief; sent = sent }) (record { cores = a; chief = chief_of old.chief; sent = sent })) (sym cs_now) (g (chief_of old.chief) sent)))
        | Err e ↦ λ g. tt
      ] goes

  pub stop_nodes : length cs_new ≡ length cs → length new.cores.items ≡ length old.cores.items
  stop_nodes len = ap (length {A = Node}) cs_now ∙ len ∙ ap (length {A = Node}) cs_are

-- ---- nodes that lost their tables, from call to call

pub lose_none : (seen : ℕ) (a b : List Voter) → b ≡ a → LoseIfTold seen seen a b
lose_none seen a b same = record { rises = omega arith; whole = subst (StayWhole seen seen a) (sym same) (λ is n now there. (now, there, refl)) }

pub lose_then : (s t u : ℕ) (a b c : List Voter) → LoseIfTold s t a b → LoseIfTold t u b c → LoseIfTold s u a c
lose_then s t u a b c one two = record {
  rises = (let x = one.rises in let y = two.rises in omega (arith, x, y));
  whole = all_whole_then s t u a b c one.rises two.rises one.whole two.whole;
}

-- where no stop was told none has lost its tables
pub none_lost : (seen seen_new : ℕ) (a b : List Voter) → LoseIfTold seen seen_new a b → seen_new ≡ seen → NoneLost a → NoneLost b
none_lost seen seen_new a b lose is none n voter there = let was = lose.whole is n voter there in was.2 ∙ none n was.0 was.1

-- so where one has lost them, against what none of them would be, a stop was told
pub lost_if_told : (seen seen_new : ℕ) (a b : List Voter) → LoseIfTold seen seen_new a b → NoneLost a → (NoneLost b → ⊥) → seen < seen_new
lost_if_told seen seen_new a b lose none some = ⊎_elim (λ rose. rose)
    (λ le. (let up = lose.rises in absurd (some (none_lost seen seen_new a b lose (omega (arith, up, le)) none)))) (cases_lt seen seen_new)

-- ---- logs that are what they were

pub logs_places : (a b : List Voter) → SameLogs a b → KeepPlaces a b
logs_places a b same n now there =
    let was = same n now there in
    (was.0, was.1, record { held = was.2.1; file = ap (λ (l : LogState). l.file) was.2.0; kind = ap (λ (l : LogState). l.kind) was.2.0 })

pub logs_ready : (a b : List Voter) (reads : Option Files) (may_leave : Files → Type 0) → SameLogs a b → AreReady a reads may_leave → AreReady b reads may_leave
logs_ready a b reads may_leave same ready n now there =
    let was = same n now there in
    let so = ready n was.0 was.1 in
    (ap (λ (l : LogState). l.spent) was.2.0 ∙ so.0, subst (λ (l : LogState). Stands l reads may_leave) (sym was.2.0) so.1)
