-- What holds in every world that can be reached, and what it comes to.
use Rattle.std.proofs.Common.{◌≡◌, ◌⊎◌, inl, inr, ℕ, zero, suc, ◌+◌, ◌<◌, ◌≤◌, Bool, true, false, eqb, ltb, List, [], ◌∷◌, ◌++◌, refl, sym, ap, subst, ◌∙◌, arith}
use Rattle.std.specs.Prelude.{◌&&◌, ◌||◌, Option, Some, None, slice_index_or, slice_set, replicate, if◌then◌else◌}
use Rattle.std.proofs.Math.ListN.{length-replicate}
use Rattle.std.specs.List.{list_all}
use Rattle.std.proofs.lemmas.Bool.{and_parts, eq-eqb, eqb-true, cases_lt}
use Rattle.coco_msg.specs.declared.action.Action.{Action}
use Rattle.coco_msg.specs.declared.action.Action.TheVariants.{Send, Force, Promote, Revert}
use Rattle.coco_msg.specs.declared.message.Message.{Message}
use Rattle.coco_msg.specs.declared.message.Message.TheVariants.{Ship, Total, Missing, All, Prepare, Vote, Commit, Finished, Abort, Query, Tell}
use Rattle.coco_msg.specs.Bytes.{epoch_of}
use Rattle.coco_node.specs.Node.{Node, greatest, restarted, is_unknown}
use Rattle.coco_node.specs.Table.{handled, forced, asks}
use Rattle.coco_chief.specs.Chief.{Chief, has, last_of}
use Rattle.coco_chief.specs.declared.machine.Phase.TheVariants.{Rest, Voting, Forcing}
use Rattle.coco_chief.specs.Table.{Turn, is_open, is_voting, on_vote, on_message, has_finished, handled as chief_handled}
use Rattle.coco_world.specs.World.{World, Letter, Among, put, sent, began_anew}
use Rattle.coco_world.specs.Steps.{Event, NodeTakes, ChiefTakes, NodeForces, ChiefForces, Begins, Aborts, Stops, Asks, Reminds, Crashes, May, Answers, happens, run, CanRun, AreGood}
use Rattle.coco_world.specs.Agreement.{IsKnown, IsDead, LetterHolds, NodeHolds, ChiefHolds, Holds, HasFinished}
use Rattle.coco_world.specs.Laws.{InEachWorld, PromotesOnlyCommitted, NeverRevertedLater, NeverRevertedEarlier, CommittedStays, DurableGrows, FinishedHasSaid, SaysOnlyFinished}
use Rattle.coco_world.proofs.Tools.{by_test, or_cases, not_both, has-other, has-more, has-le, has-greatest, All-among, put_one}
use Rattle.coco_world.proofs.NodeTurns.{told, Because, handled_holds}
use Rattle.coco_world.proofs.NodeSteps.{durable_is, told_committed, told_aborted, grown, takes_keeps, forces_keeps, stops_keeps, stops_durable_keeps, asks_keeps}
use Rattle.coco_world.proofs.ChiefSteps.{none_up, voting_open, aborts_keeps, chief_takes_keeps, commits_keeps, begins_keeps, reminds_keeps}

-- the last epoch is among those of the list
last_is : (xs : List ℕ) → last_of xs ≡ greatest xs
last_is [] = refl
last_is (x ∷ xs) = rw (last_is xs) refl

pub start_holds : (count : ℕ) (prepared : ℕ → List ℕ) (commits : List ℕ) → AreGood count prepared commits → Holds (began_anew count prepared commits)
start_holds count prepared commits good = record {
  nodes = λ n lt. record { durable = refl; forcing = λ none. absurd (omega (arith, none)) };
  chief = record {
    nodes = refl;
    voters = length-replicate count false;
    committed = λ e. refl;
    last = λ some. (let is = last_is commits in subst (λ (k : ℕ). has commits k ≡ true) (sym is) (has-greatest commits (omega (arith, is))));
    begun-is = λ no. absurd cc;
    undecided = λ no. absurd cc;
    counted = λ no n lt up. absurd cc;
    all-voted = λ no. absurd cc;
  };
  letters = λ l none. absurd none;
  entries = good;
  finishers = λ n up. none_up count n up;
}

-- what holds is kept by every step
pub step_keeps : (w : World) (event : Event) → Holds w → May w event → Holds (happens w event)
step_keeps w (NodeTakes n from m) holds may = takes_keeps w n from m holds may.0 may.1
step_keeps w (ChiefTakes from m) holds may = chief_takes_keeps w from m holds may
step_keeps w (NodeForces n) holds may = forces_keeps w n holds may.0 may.1
step_keeps w ChiefForces holds may = commits_keeps w holds may
step_keeps w (Begins e) holds may = begins_keeps w e holds may.2
step_keeps w Aborts holds may = aborts_keeps w holds may
step_keeps w (Stops n true lost) holds may = stops_durable_keeps w n lost holds
step_keeps w (Stops n false lost) holds may = stops_keeps w n lost holds
step_keeps w (Asks n) holds may = asks_keeps w n holds may
step_keeps w Reminds holds may = reminds_keeps w holds
step_keeps w Crashes holds may = start_holds w.count w.prepared w.commits holds.entries

pub run_keeps : (w : World) (events : List Event) → Holds w → CanRun w events → Holds (run w events)
run_keeps w [] holds can = holds
run_keeps w (event ∷ events) holds can = run_keeps (happens w event) events (step_keeps w event holds can.0) can.1

-- the number of nodes stays
pub same_count : (w : World) (event : Event) → (happens w event).count ≡ w.count
same_count w (NodeTakes n from m) = refl
same_count w (ChiefTakes from m) = refl
same_count w (NodeForces n) = refl
same_count w ChiefForces = refl
same_count w (Begins e) = refl
same_count w Aborts = refl
same_count w (Stops n true lost) = refl
same_count w (Stops n false lost) = refl
same_count w (Asks n) = refl
same_count w Reminds = refl
same_count w Crashes = refl

-- durable entries stay
pub commits_stay : (w : World) (event : Event) (e : ℕ) → has w.commits e ≡ true → has (happens w event).commits e ≡ true
commits_stay w (NodeTakes n from m) e h = h
commits_stay w (ChiefTakes from m) e h = h
commits_stay w (NodeForces n) e h = h
commits_stay w ChiefForces e h = has-more w.commits w.chief.current e h
commits_stay w (Begins x) e h = h
commits_stay w Aborts e h = h
commits_stay w (Stops n true lost) e h = h
commits_stay w (Stops n false lost) e h = h
commits_stay w (Asks n) e h = h
commits_stay w Reminds e h = h
commits_stay w Crashes e h = h

pub prepared_stay : (w : World) (event : Event) (n e : ℕ) → has (w.prepared n) e ≡ true → has ((happens w event).prepared n) e ≡ true
prepared_stay w (NodeTakes k from m) n e h = h
prepared_stay w (ChiefTakes from m) n e h = h
prepared_stay w (NodeForces k) n e h = grown w k (w.cores k).forcing n e h
prepared_stay w ChiefForces n e h = h
prepared_stay w (Begins x) n e h = h
prepared_stay w Aborts n e h = h
prepared_stay w (Stops k true lost) n e h = grown w k (w.cores k).forcing n e h
prepared_stay w (Stops k false lost) n e h = h
prepared_stay w (Asks k) n e h = h
prepared_stay w Reminds n e h = h
prepared_stay w Crashes n e h = h

pub commits_stay_on : (w : World) (events : List Event) (e : ℕ) → has w.commits e ≡ true → has (run w events).commits e ≡ true
commits_stay_on w [] e h = h
commits_stay_on w (event ∷ events) e h = commits_stay_on (happens w event) events e (commits_stay w event e h)

pub prepared_stay_on : (w : World) (events : List Event) (n e : ℕ) → has (w.prepared n) e ≡ true → has ((run w events).prepared n) e ≡ true
prepared_stay_on w [] n e h = h
prepared_stay_on w (event ∷ events) n e h = prepared_stay_on (happens w event) events n e (prepared_stay w event n e h)

pub same_count_on : (w : World) (events : List Event) → (run w events).count ≡ w.count
same_count_on w [] = refl
same_count_on w (event ∷ events) = same_count_on (happens w event) events ∙ same_count w event

-- ---- an epoch that a node has taken back

-- it stands in a node's entry, has no commit entry, and the coordinator has given it up
pub record IsTakenBack (w : World) (e : ℕ) : Type 0 where
  pub node : ℕ
  pub is-node : node < w.count
  pub entry : has (w.prepared node) e ≡ true
  pub uncommitted : has w.commits e ≡ false
  pub given_up : is_open w.chief.phase ≡ true → w.chief.current ≡ e → ⊥

-- an action other than these is no answer to this
first_only : {G : Type 0} (a b : Action) → Among (a ∷ []) b → (a ≡ b → G) → G
first_only a b (inl same) go = go same
first_only a b (inr none) go = absurd none

asks_say : {G : Type 0} (core : Node) (a : Action) → Among (asks core) a → ((e : ℕ) → ◌≡◌ {A = Action} (Send 8 (Query e)) a → G) → G
asks_say {G} core a = by_test (λ (actions : List Action). Among actions a → ((e : ℕ) → ◌≡◌ {A = Action} (Send 8 (Query e)) a → G) → G) (ltb 0 core.durable && is_unknown core.decision) _ _
    (λ _ here go. first_only (Send 8 (Query core.durable)) a here (go core.durable))
    (λ _ none go. absurd none)

-- where a node promotes an epoch, it is committed
pub promoted_is : (w : World) (event : Event) (n e : ℕ) → Holds w → May w event → Answers w event n (Promote e) → has w.commits e ≡ true
promoted_is w (NodeTakes k from m) n e holds may answer =
    let core = w.cores k in
    let because = All-among (Because core (handled from m core).1 m) (handled from m core).0 (Promote e) (handled_holds from m core).actions answer.1 in
    told_committed w from m e (holds.letters _ may.1) because.0
promoted_is w (NodeForces k) n e holds may answer = first_only (Send 8 (Vote (w.cores k).forcing true)) (Promote e) answer.1 (λ same. absurd cc)
promoted_is w (Asks k) n e holds may answer = asks_say (w.cores k) (Promote e) answer.1 (λ x same. absurd cc)
promoted_is w (ChiefTakes from m) n e holds may answer = absurd answer
promoted_is w ChiefForces n e holds may answer = absurd answer
promoted_is w (Begins x) n e holds may answer = absurd answer
promoted_is w Aborts n e holds may answer = absurd answer
promoted_is w (Stops k durable lost) n e holds may answer = absurd answer
promoted_is w Reminds n e holds may answer = absurd answer
promoted_is w Crashes n e holds may answer = absurd answer

-- where a node takes an epoch back, it will never be committed
pub reverted_is : (w : World) (event : Event) (n e : ℕ) → Holds w → May w event → Answers w event n (Revert e) → IsTakenBack w e
reverted_is w (NodeTakes k from m) n e holds may answer =
    let core = w.cores k in
    let because = All-among (Because core (handled from m core).1 m) (handled from m core).0 (Revert e) (handled_holds from m core).actions answer.1 in
    let dead = told_aborted w from m e (holds.letters _ may.1) because.0 in
    record { node = k; is-node = may.0; entry = durable_is core (w.prepared k) e (holds.nodes k may.0) because.1 because.2; uncommitted = dead.uncommitted; given_up = dead.given_up }
reverted_is w (NodeForces k) n e holds may answer = first_only (Send 8 (Vote (w.cores k).forcing true)) (Revert e) answer.1 (λ same. absurd cc)
reverted_is w (Asks k) n e holds may answer = asks_say (w.cores k) (Revert e) answer.1 (λ x same. absurd cc)
reverted_is w (ChiefTakes from m) n e holds may answer = absurd answer
reverted_is w ChiefForces n e holds may answer = absurd answer
reverted_is w (Begins x) n e holds may answer = absurd answer
reverted_is w Aborts n e holds may answer = absurd answer
reverted_is w (Stops k durable lost) n e holds may answer = absurd answer
reverted_is w Reminds n e holds may answer = absurd answer
reverted_is w Crashes n e holds may answer = absurd answer

-- ---- it stays so

-- a turn of the coordinator that leaves an epoch open had it open before
StaysOpen : Chief → Turn → Type 0
StaysOpen core turn = is_open turn.1.phase ≡ true → (is_open core.phase ≡ true) × (turn.1.current ≡ core.current)

vote_open : (from e : ℕ) (vote : Bool) (core : Chief) → StaysOpen core (on_vote from e vote core)
unfolding StaysOpen
vote_open from e vote core =
    by_test (λ (turn : Turn). is_open turn.1.phase ≡ true → (is_open core.phase ≡ true) × (turn.1.current ≡ core.current)) (eqb e core.current && is_voting core.phase) _ _
    (λ both. let was : is_open core.phase ≡ true = voting_open core.phase (and_parts (eqb e core.current) (is_voting core.phase) both).1 in
    by_test (λ (turn : Turn). is_open turn.1.phase ≡ true → (is_open core.phase ≡ true) × (turn.1.current ≡ core.current)) vote _ _
    (λ _. by_test (λ (turn : Turn). is_open turn.1.phase ≡ true → (is_open core.phase ≡ true) × (turn.1.current ≡ core.current)) (list_all (λ counted. counted) (slice_set core.voted from true)) _ _
    (λ _ now. (was, refl)) (λ _ now. (was, refl)))
    (λ _ now. (was, refl)))
    (λ _ now. (now, refl))

message_open : (from : ℕ) (m : Message) (core : Chief) → is_open (on_message from m core).1.phase ≡ true → (is_open core.phase ≡ true) × ((on_message from m core).1.current ≡ core.current)
unfolding StaysOpen
message_open from (Vote e vote) core = vote_open from e vote core
message_open from (Finished e) core = by_test (λ (turn : Turn). is_open turn.1.phase ≡ true → (is_open core.phase ≡ true) × (turn.1.current ≡ core.current)) (eqb e core.last) _ _ (λ _ now. (now, refl)) (λ _ now. (now, refl))
message_open from (Query e) core =
    by_test (λ (turn : Turn). is_open turn.1.phase ≡ true → (is_open core.phase ≡ true) × (turn.1.current ≡ core.current)) (core.committed e) _ _ (λ _ now. (now, refl))
    (λ _. by_test (λ (turn : Turn). is_open turn.1.phase ≡ true → (is_open core.phase ≡ true) × (turn.1.current ≡ core.current)) (eqb e core.current && is_open core.phase) _ _ (λ _ now. (now, refl)) (λ _ now. (now, refl)))
message_open from (Ship e partition place time writes) core = λ now. (now, refl)
message_open from (Total e partition places) core = λ now. (now, refl)
message_open from (Missing e partition places) core = λ now. (now, refl)
message_open from (All e partition) core = λ now. (now, refl)
message_open from (Prepare e) core = λ now. (now, refl)
message_open from (Commit e) core = λ now. (now, refl)
message_open from (Abort e) core = λ now. (now, refl)
message_open from (Tell e committed) core = λ now. (now, refl)

handled_open : (from : ℕ) (m : Message) (core : Chief) → StaysOpen core (chief_handled from m core)
unfolding StaysOpen
handled_open from m core =
    by_test (λ (turn : Turn). is_open turn.1.phase ≡ true → (is_open core.phase ≡ true) × (turn.1.current ≡ core.current)) (ltb from core.nodes && ltb 0 (epoch_of m)) _ _
    (λ _. message_open from m core) (λ _ now. (now, refl))

taken_back_stays : (w : World) (event : Event) (e : ℕ) → May w event → IsTakenBack w e → IsTakenBack (happens w event) e
unfolding StaysOpen
taken_back_stays w (NodeTakes n from m) e may t = record { node = t.node; is-node = t.is-node; entry = t.entry; uncommitted = t.uncommitted; given_up = t.given_up }
taken_back_stays w (ChiefTakes from m) e may t = record {
  node = t.node;
  is-node = t.is-node;
  entry = t.entry;
  uncommitted = t.uncommitted;
  given_up = λ now same. (let was = handled_open from m w.chief now in t.given_up was.0 (sym was.1 ∙ same));
}
taken_back_stays w (NodeForces n) e may t = record { node = t.node; is-node = t.is-node; entry = grown w n (w.cores n).forcing t.node e t.entry; uncommitted = t.uncommitted; given_up = t.given_up }
taken_back_stays w ChiefForces e may t = record {
  node = t.node;
  is-node = t.is-node;
  entry = t.entry;
  uncommitted = has-other w.commits w.chief.current e (t.given_up (ap is_open may)) t.uncommitted;
  given_up = λ no same. absurd cc;
}
taken_back_stays w (Begins x) e may t = record {
  node = t.node;
  is-node = t.is-node;
  entry = t.entry;
  uncommitted = t.uncommitted;
  given_up = λ now same. (let lt : e < x = may.2.prepared t.node e t.is-node t.entry in omega (arith, lt, same));
}
taken_back_stays w Aborts e may t = record { node = t.node; is-node = t.is-node; entry = t.entry; uncommitted = t.uncommitted; given_up = λ no same. absurd cc }
taken_back_stays w (Stops n true lost) e may t = record { node = t.node; is-node = t.is-node; entry = grown w n (w.cores n).forcing t.node e t.entry; uncommitted = t.uncommitted; given_up = t.given_up }
taken_back_stays w (Stops n false lost) e may t = record { node = t.node; is-node = t.is-node; entry = t.entry; uncommitted = t.uncommitted; given_up = t.given_up }
taken_back_stays w (Asks n) e may t = record { node = t.node; is-node = t.is-node; entry = t.entry; uncommitted = t.uncommitted; given_up = t.given_up }
taken_back_stays w Reminds e may t = record { node = t.node; is-node = t.is-node; entry = t.entry; uncommitted = t.uncommitted; given_up = t.given_up }
taken_back_stays w Crashes e may t = record { node = t.node; is-node = t.is-node; entry = t.entry; uncommitted = t.uncommitted; given_up = λ no same. absurd cc }

taken_back_stays_on : (w : World) (events : List Event) (e : ℕ) → CanRun w events → IsTakenBack w e → IsTakenBack (run w events) e
taken_back_stays_on w [] e can t = t
taken_back_stays_on w (event ∷ events) e can t = taken_back_stays_on (happens w event) events e can.1 (taken_back_stays w event e can.0 t)

-- ---- the laws

pub world_holds : InEachWorld Holds
world_holds count prepared commits events good can = run_keeps (began_anew count prepared commits) events (start_holds count prepared commits good) can

pub promotes_committed : InEachWorld PromotesOnlyCommitted
promotes_committed count prepared commits events good can event n e may answer =
    let w = run (began_anew count prepared commits) events in
    let holds = world_holds count prepared commits events good can in
    let committed = promoted_is w event n e holds may answer in
    record { committed = committed; prepared = λ m lt. holds.entries e m committed lt }

pub never_later : InEachWorld NeverRevertedLater
never_later count prepared commits events good can e both =
    let w = run (began_anew count prepared commits) events in
    let holds = world_holds count prepared commits events good can in
    let next = happens w both.0 in
    let far = run next both.4 in
    let committed = commits_stay_on next both.4 e (commits_stay w both.0 e (promoted_is w both.0 both.1 e holds both.2 both.3)) in
    let far-holds = run_keeps next both.4 (step_keeps w both.0 holds both.2) both.5 in
    not_both (has far.commits e) committed (reverted_is far both.6 both.7 e far-holds both.8 both.9).uncommitted

pub never_earlier : InEachWorld NeverRevertedEarlier
never_earlier count prepared commits events good can e both =
    let w = run (began_anew count prepared commits) events in
    let holds = world_holds count prepared commits events good can in
    let next = happens w both.0 in
    let far = run next both.4 in
    let taken = taken_back_stays_on next both.4 e both.5 (taken_back_stays w both.0 e both.2 (reverted_is w both.0 both.1 e holds both.2 both.3)) in
    let far-holds = run_keeps next both.4 (step_keeps w both.0 holds both.2) both.5 in
    not_both (has far.commits e) (promoted_is far both.6 both.7 e far-holds both.8 both.9) taken.uncommitted

pub committed_stays : InEachWorld CommittedStays
committed_stays count prepared commits events good can between e more committed =
    let w = run (began_anew count prepared commits) events in
    let holds = world_holds count prepared commits events good can in
    let far-holds = run_keeps w between holds more in
    far-holds.chief.committed e ∙ commits_stay_on w between e (sym (holds.chief.committed e) ∙ committed)

greatest_grows : (xs ys : List ℕ) → ((e : ℕ) → has xs e ≡ true → has ys e ≡ true) → greatest xs ≤ greatest ys
greatest_grows xs ys grows =
    elim (cases_lt 0 (greatest xs)) [ inl some ↦ has-le ys (greatest xs) (grows (greatest xs) (has-greatest xs some)) | inr none ↦ omega arith ]

pub durable_grows : InEachWorld DurableGrows
durable_grows count prepared commits events good can between n more lt =
    let w = run (began_anew count prepared commits) events in
    let holds = world_holds count prepared commits events good can in
    let far = run w between in
    let far-holds = run_keeps w between holds more in
    let grows = prepared_stay_on w between n in
    let before = (holds.nodes n lt).durable in
    let after = (far-holds.nodes n (omega (arith, same_count_on w between, lt))).durable in
    (omega (arith, before, after, greatest_grows (w.prepared n) (far.prepared n) grows), grows)

pub finished_said : InEachWorld FinishedHasSaid
finished_said count prepared commits events good can n finished =
    let w = run (began_anew count prepared commits) events in
    let holds = world_holds count prepared commits events good can in
    elim (or_cases (eqb w.chief.last 0) (slice_index_or w.chief.finished n false) finished) [ inl none ↦ inl (eqb-true w.chief.last 0 none) | inr up ↦ inr (holds.finishers n up) ]

finished_is : (w : World) (event : Event) (n e : ℕ) → Holds w → May w event → Answers w event n (Send 8 (Finished e)) → HasFinished ((happens w event).cores n) e × (has w.commits e ≡ true)
finished_is w (NodeTakes k from m) n e holds may answer =
    let core = w.cores k in
    let turn = handled from m core in
    let because = All-among (Because core turn.1 m) turn.0 (Send 8 (Finished e)) (handled_holds from m core).actions answer.1 in
    let here : put w.cores k turn.1 n ≡ turn.1 = rw (eq-eqb n k answer.0) refl in
    (subst (λ (c : Node). HasFinished c e) (sym here) because.1, told_committed w from m e (holds.letters _ may.1) because.0)
finished_is w (NodeForces k) n e holds may answer = first_only (Send 8 (Vote (w.cores k).forcing true)) (Send 8 (Finished e)) answer.1 (λ same. absurd cc)
finished_is w (Asks k) n e holds may answer = asks_say (w.cores k) (Send 8 (Finished e)) answer.1 (λ x same. absurd cc)
finished_is w (ChiefTakes from m) n e holds may answer = absurd answer
finished_is w ChiefForces n e holds may answer = absurd answer
finished_is w (Begins x) n e holds may answer = absurd answer
finished_is w Aborts n e holds may answer = absurd answer
finished_is w (Stops k durable lost) n e holds may answer = absurd answer
finished_is w Reminds n e holds may answer = absurd answer
finished_is w Crashes n e holds may answer = absurd answer

pub says_finished : InEachWorld SaysOnlyFinished
says_finished count prepared commits events good can event n e may answer =
    let w = run (began_anew count prepared commits) events in
    let holds = world_holds count prepared commits events good can in
    let is = finished_is w event n e holds may answer in
    (is.0, record { committed = is.1; prepared = λ m lt. holds.entries e m is.1 lt })
