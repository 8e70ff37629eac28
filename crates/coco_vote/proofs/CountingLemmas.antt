-- Letters that the coordinator takes while nodes vote: what it counts of them, and what it says.
use Rattle.std.proofs.Common.{◌≡◌, ◌⊎◌, inl, inr, ℕ, zero, suc, ◌^◌, ◌<◌, ◌≤◌, Bool, true, false, eqb, ltb, List, [], ◌∷◌, ◌++◌, length, get_or, refl, sym, ap, subst, ◌∙◌, arith}
use Rattle.std.specs.Prelude.{◌&&◌, if◌then◌else◌, ◌==◌}
use Rattle.std.specs.List.{Contains, list_all}
use Rattle.std.proofs.Math.ListN.{set, length-set}
use Rattle.std.proofs.lemmas.Bool.{and_parts, eqb-true, eqb-false, ltb-true, lt-ltb, and_from}
use Rattle.std.proofs.lemmas.List.{get_or-set_same, get_or-set_other}
use Rattle.std.proofs.lemmas.List.Elements.{Contains-append_cases, Contains-append_left, Contains-append_right}
use Rattle.coco_chief.specs.Chief.{Chief}
use Rattle.coco_chief.specs.Table.{aborted, counts, handled, has_voted, is_open, is_voting, nothing, on_message, on_query, Turn}
use Rattle.coco_chief.specs.declared.machine.Phase.{Phase}
use Rattle.coco_chief.specs.declared.machine.Phase.TheVariants.{Rest, Voting, Forcing}
use Rattle.coco_msg.specs.declared.action.Action.TheVariants.{Send, Force}
use Rattle.coco_msg.specs.declared.message.Message.{Message}
use Rattle.coco_msg.specs.declared.message.Message.TheVariants.{Ship, Total, Missing, All, Prepare, Vote, Commit, Finished, Abort, Query, Tell}
use Rattle.coco_msg.specs.Bytes.{epoch_of}
use Rattle.coco_net.specs.declared.letter.Letter.{Letter}
use Rattle.coco_net.specs.declared.letter.Posted.{Posted}
use Rattle.coco_node.specs.Node.{Node}
use Rattle.coco_world.proofs.Tools.{by_test, not_both}
use Rattle.coco_letters.specs.Taking.{ChiefTakes}
use Rattle.coco_letters.specs.Telling.{Adds, IsOfChief}
use Rattle.coco_letters.specs.Turns.{ChiefHears, IsFrom}
use Rattle.coco_letters.proofs.HearingLemmas.{posted_is, same_heard}
use Rattle.coco_letters.proofs.TellingLemmas.{adds_cases, hears_nodes, hears_says, not_chief}
use Rattle.coco_letters.proofs.WorldLemmas.{contains_behind, contains_cases, contains_here}
use Rattle.coco_vote.specs.Counting.{prepare_of, FitsPhase, HasCounted, IsAye}
use Rattle.coco_vote.specs.Taking.{vote_of, AreTold}

-- ---- flags

-- all flags are up, so each is
pub all_up : (flags : List Bool) (n : ℕ) → list_all (λ counted. counted) flags ≡ true → n < length flags → get_or flags n false ≡ true
all_up [] n all less = absurd (omega arith)
all_up (true ∷ flags) zero all less = refl
all_up (true ∷ flags) (suc n) all less = all_up flags n all (omega arith)
all_up (false ∷ flags) n all less = absurd cc

-- and where each is, all are
pub up_all : (flags : List Bool) → ((n : ℕ) → n < length flags → get_or flags n false ≡ true) → list_all (λ counted. counted) flags ≡ true
up_all [] each = refl
up_all (true ∷ flags) each = up_all flags (λ n less. each (suc n) (omega arith))
up_all (false ∷ flags) each = absurd (not_both false (each zero (omega arith)) refl)

-- ---- a letter more

-- the coordinator's votes are as they were
record StaysAs (chief new : Chief) : Type 0 where
  current : new.current ≡ chief.current
  phase : new.phase ≡ chief.phase
  voted : new.voted ≡ chief.voted
  nodes : new.nodes ≡ chief.nodes

stays_same : (chief : Chief) → StaysAs chief chief
stays_same chief = record { current = refl; phase = refl; voted = refl; nodes = refl }

phase_by : (p q : Phase) (v w : List Bool) → q ≡ p → w ≡ v → FitsPhase p v → FitsPhase q w
phase_by p q v w phase voted fits = subst (λ (x : Phase). FitsPhase x w) (sym phase) (subst (FitsPhase p) (sym voted) fits)

-- it has counted as many, where the letter tells nothing new
counted_stays : (e : ℕ) (Given New : ℕ → Type 0) (chief new : Chief) → StaysAs chief new → HasCounted e Given chief → ((n : ℕ) → n < chief.nodes → New n → has_voted n chief ≡ true) → HasCounted e (λ n. Given n ⊎ New n) new
counted_stays e Given New chief new stays counted news = record {
  current = stays.current ∙ counted.current;
  phase = phase_by chief.phase new.phase chief.voted new.voted stays.phase stays.voted counted.phase;
  flags = ap (λ (v : List Bool). length v) stays.voted ∙ counted.flags ∙ sym stays.nodes;
  only = λ n up. inl (counted.only n (sym (ap (λ (v : List Bool). get_or v n false) stays.voted) ∙ up));
  all = λ n less given.
      let up : get_or chief.voted n false ≡ true = elim given [ inl was ↦ counted.all n (omega (arith, less, stays.nodes)) was | inr now ↦ news n (omega (arith, less, stays.nodes)) now ] in
      ap (λ (v : List Bool). get_or v n false) stays.voted ∙ up;
}

-- a yes is counted
module _ (e : ℕ) (Given New : ℕ → Type 0) (chief : Chief) (from : ℕ) (voting : chief.phase ≡ Voting) (within : from < chief.nodes) (counted : HasCounted e Given chief) (here : New from) (only_here : (n : ℕ) → New n → n ≡ from) where
  up_only : (n : ℕ) → get_or (set chief.voted from true) n false ≡ true → Given n ⊎ New n
  up_only n up = by_place (eqb n from) refl
    where
      by_place : (b : Bool) → eqb n from ≡ b → Given n ⊎ New n
      by_place true at = inr (subst New (sym (eqb-true n from at)) here)
      by_place false at = inl (counted.only n (sym (get_or-set_other chief.voted from n true false (eqb-false n from at)) ∙ up))

  up_here : get_or (set chief.voted from true) from false ≡ true
  up_here = get_or-set_same chief.voted from true false (omega (arith, within, counted.flags))

  up_all_given : (n : ℕ) → n < chief.nodes → Given n ⊎ New n → get_or (set chief.voted from true) n false ≡ true
  up_all_given n less given = by_place (eqb n from) refl
    where
      by_place : (b : Bool) → eqb n from ≡ b → get_or (set chief.voted from true) n false ≡ true
      by_place true at = ap (λ (k : ℕ). get_or (set chief.voted from true) k false) (eqb-true n from at) ∙ up_here
      by_place false at =
          let up : get_or chief.voted n false ≡ true = elim given [ inl was ↦ counted.all n less was | inr now ↦ absurd (eqb-false n from at (only_here n now)) ] in
          get_or-set_other chief.voted from n true false (eqb-false n from at) ∙ up

  many : length (set chief.voted from true) ≡ chief.nodes
  many = length-set chief.voted from true ∙ counted.flags

  counted_more : HasCounted e (λ n. Given n ⊎ New n) (counts (set chief.voted from true) chief).1
  counted_more = by_test (λ (turn : Turn). HasCounted e (λ n. Given n ⊎ New n) turn.1) (list_all (λ c. c) (set chief.voted from true)) (Force chief.current ∷ [], record chief { voted = set chief.voted from true; phase = Forcing }) ([], record chief { voted = set chief.voted from true })
      (λ all. record { current = counted.current; phase = all; flags = many; only = up_only; all = up_all_given })
      (λ some. record { current = counted.current; phase = subst (λ (p : Phase). FitsPhase p (set chief.voted from true)) (sym voting) some; flags = many; only = up_only; all = up_all_given })

-- ---- by message

same_yes : (a b : ℕ) → ◌≡◌ {A = Message} (Vote a true) (Vote b true) → a ≡ b
same_yes a b is = cc

query_stays : (from of : ℕ) (chief : Chief) → (on_query from of chief).1 ≡ chief
query_stays from of chief = by_test (λ (turn : Turn). turn.1 ≡ chief) (chief.committed of) (Send from (Tell of true) ∷ [], chief) (if of == chief.current && is_open chief.phase then ([], chief) else (Send from (Tell of false) ∷ [], chief))
    (λ _. refl) (λ _. by_test (λ (turn : Turn). turn.1 ≡ chief) (of == chief.current && is_open chief.phase) ([], chief) (Send from (Tell of false) ∷ [], chief) (λ _. refl) (λ _. refl))

is_voting_phase : (p : Phase) → is_voting p ≡ true → p ≡ Voting
is_voting_phase Rest is = absurd cc
is_voting_phase Voting is = refl
is_voting_phase Forcing is = absurd cc

not_voting_phase : (p : Phase) (v : List Bool) → is_voting p ≡ false → FitsPhase p v → list_all (λ counted. counted) v ≡ true
not_voting_phase Rest v is fits = absurd fits
not_voting_phase Voting v is fits = absurd cc
not_voting_phase Forcing v is fits = fits

abbrev letter_vote : ℕ → ℕ → Letter
letter_vote n e = (vote_of n e true).letter

-- such a letter is a vote
is_vote : (n e : ℕ) (l : Letter) → e < 2 ^ 64 → l ≡ letter_vote n e → IsFrom l.from l (Vote e true)
is_vote n e l fits is = record { from = refl; say = record { is = fits; commit = refl }; bytes = ap (λ (x : Letter). x.bytes) is }

module _ (e : ℕ) (some : 0 < e) (fits : e < 2 ^ 64) (Given : ℕ → Type 0) (chief : Chief) (counted : HasCounted e Given chief) (sent : List Posted) (noes : (n : ℕ) → Contains sent (vote_of n e false) → ⊥) (l : Letter) (among : Contains sent (record { to = 8; letter = l })) where
  abbrev New : ℕ → Type 0
  New n = l ≡ letter_vote n e

  abbrev Counts : Chief → Type 0
  Counts new = HasCounted e (λ n. Given n ⊎ New n) new

  -- a message that is no yes to the epoch
  other : (m : Message) → IsFrom l.from l m → (m ≡ Vote e true → ⊥) → (new : Chief) → StaysAs chief new → Counts new
  other m from not new stays = counted_stays e Given New chief new stays counted (λ n less is. absurd (not (same_heard l.from l m (Vote e true) from (is_vote n e l fits is))))

  -- the yes of this node, where all votes are counted already
  enough : list_all (λ c. c) chief.voted ≡ true → (new : Chief) → StaysAs chief new → Counts new
  enough all new stays = counted_stays e Given New chief new stays counted (λ n less is. all_up chief.voted n all (omega (arith, less, counted.flags)))

  from_node : (n : ℕ) → New n → n ≡ l.from
  from_node n is = sym (ap (λ (x : Letter). x.from) is)

  letter_is : IsFrom l.from l (Vote e true) → New l.from
  letter_is from = λ i. record { from = l.from; bytes = from.bytes i }

  yes_heard : (of : ℕ) → IsFrom l.from l (Vote of true) → l.from < chief.nodes → (b : Bool) → (of == chief.current && is_voting chief.phase) ≡ b → Counts (if b then counts (set chief.voted l.from true) chief else nothing chief).1
  yes_heard of from within true both =
      let parts = and_parts (of == chief.current) (is_voting chief.phase) both in
      let same : of ≡ e = eqb-true of chief.current parts.0 ∙ counted.current in
      counted_more e Given New chief l.from (is_voting_phase chief.phase parts.1) within counted (letter_is (subst (λ (k : ℕ). IsFrom l.from l (Vote k true)) same from)) from_node
  yes_heard of from within false not = by_epoch (eqb of chief.current) refl
    where
      by_epoch : (b : Bool) → eqb of chief.current ≡ b → Counts chief
      by_epoch true at = enough (not_voting_phase chief.phase chief.voted (sym (ap (λ (b : Bool). b && is_voting chief.phase) at) ∙ not) counted.phase) chief (stays_same chief)
      by_epoch false at = other (Vote of true) from (λ is. eqb-false of chief.current at (same_yes of e is ∙ sym counted.current)) chief (stays_same chief)

  no_heard : (of : ℕ) → IsFrom l.from l (Vote of false) → (b : Bool) → (of == chief.current && is_voting chief.phase) ≡ b → Counts (if b then aborted chief else nothing chief).1
  no_heard of from true both =
      let same : of ≡ e = eqb-true of chief.current (and_parts (of == chief.current) (is_voting chief.phase) both).0 ∙ counted.current in
      absurd (noes l.from (subst (λ (k : ℕ). Contains sent (vote_of l.from k false)) same (posted_is l.from 8 l (Vote of false) sent from among)))
  no_heard of from false not = other (Vote of false) from (λ is. absurd cc) chief (stays_same chief)

  finished_heard : (of : ℕ) → IsFrom l.from l (Finished of) → (b : Bool) → Counts (if b then nothing (record chief { finished = set chief.finished l.from true }) else nothing chief).1
  finished_heard of from true = other (Finished of) from (λ is. absurd cc) (record chief { finished = set chief.finished l.from true }) (record { current = refl; phase = refl; voted = refl; nodes = refl })
  finished_heard of from false = other (Finished of) from (λ is. absurd cc) chief (stays_same chief)

  message_heard : (m : Message) → IsFrom l.from l m → l.from < chief.nodes → Counts (on_message l.from m chief).1
  message_heard (Vote of true) from within = yes_heard of from within (of == chief.current && is_voting chief.phase) refl
  message_heard (Vote of false) from within = no_heard of from (of == chief.current && is_voting chief.phase) refl
  message_heard (Finished of) from within = finished_heard of from (of == chief.last)
  message_heard (Query of) from within = subst Counts (sym (query_stays l.from of chief)) (other (Query of) from (λ is. absurd cc) chief (stays_same chief))
  message_heard (Ship of p place time writes) from within = other (Ship of p place time writes) from (λ is. absurd cc) chief (stays_same chief)
  message_heard (Total of p places) from within = other (Total of p places) from (λ is. absurd cc) chief (stays_same chief)
  message_heard (Missing of p places) from within = other (Missing of p places) from (λ is. absurd cc) chief (stays_same chief)
  message_heard (All of p) from within = other (All of p) from (λ is. absurd cc) chief (stays_same chief)
  message_heard (Prepare of) from within = other (Prepare of) from (λ is. absurd cc) chief (stays_same chief)
  message_heard (Commit of) from within = other (Commit of) from (λ is. absurd cc) chief (stays_same chief)
  message_heard (Abort of) from within = other (Abort of) from (λ is. absurd cc) chief (stays_same chief)
  message_heard (Tell of committed) from within = other (Tell of committed) from (λ is. absurd cc) chief (stays_same chief)

  -- only nodes are heard
  unheard : (m : Message) → IsFrom l.from l m → (ltb l.from chief.nodes && ltb 0 (epoch_of m)) ≡ false → Counts chief
  unheard m from not = counted_stays e Given New chief chief (stays_same chief) counted (λ n less is. absurd (not_both (ltb l.from chief.nodes && ltb 0 (epoch_of m)) (heard n less is) not))
    where
      heard : (n : ℕ) → n < chief.nodes → New n → (ltb l.from chief.nodes && ltb 0 (epoch_of m)) ≡ true
      heard n less is =
          let same : m ≡ Vote e true = same_heard l.from l m (Vote e true) from (is_vote n e l fits is) in
          and_from (ltb l.from chief.nodes) (ltb 0 (epoch_of m)) (lt-ltb l.from chief.nodes (subst (λ (k : ℕ). k < chief.nodes) (from_node n is) less)) (ap (λ (x : Message). ltb 0 (epoch_of x)) same ∙ lt-ltb 0 e some)

  taken : (m : Message) → IsFrom l.from l m → Counts (handled l.from m chief).1
  taken m from = by_test (λ (turn : Turn). Counts turn.1) (ltb l.from chief.nodes && ltb 0 (epoch_of m)) (on_message l.from m chief) ([], chief)
      (λ both. message_heard m from (ltb-true l.from chief.nodes (and_parts (ltb l.from chief.nodes) (ltb 0 (epoch_of m)) both).0))
      (unheard m from)

  -- it has counted the vote that the letter is, if it is one
  counted_heard : (new : Chief) (after : List Posted) → ChiefHears l chief sent new after → Counts new
  counted_heard new after hears = elim hears.either [
    | inl such ↦ subst Counts (sym (hears.takes such.0 such.1).0) (taken such.0 such.1)
    | inr none ↦ subst Counts (sym (hears.drops (λ m from. none m from from.say.commit)).0)
        (counted_stays e Given New chief chief (stays_same chief) counted (λ n less is. absurd (none (Vote e true) (is_vote n e l fits is) refl)))
  ]

-- ---- what is told of votes

none_in : {X : Type 0} {Y : Type 0} (x : X) → Contains [] x → Y
none_in x h = absurd (omega (arith, h.1))

-- is told still where the coordinator says more
pub told_still : (e : ℕ) (cores : List Node) (sent after : List Posted) (asked : ℕ → ℕ → Bool) → Adds IsOfChief sent after → AreTold e cores sent asked → AreTold e cores after asked
told_still e cores sent after asked adds told = record {
  ayes = λ n among. told.ayes n (was n true among);
  noes = λ n among. told.noes n (was n false among);
  before = told.before;
  behind = λ n eight among. told.behind n eight (was n true among);
}
  where
    was : (n : ℕ) (v : Bool) → Contains after (vote_of n e v) → Contains sent (vote_of n e v)
    was n v among = elim (adds_cases sent after (vote_of n e v) adds among) [ inl before ↦ before | inr now ↦ not_chief n (Vote e v) now ]

pub noes_still : (e : ℕ) (sent after : List Posted) → Adds IsOfChief sent after → ((n : ℕ) → Contains sent (vote_of n e false) → ⊥) → (n : ℕ) → Contains after (vote_of n e false) → ⊥
noes_still e sent after adds noes n among = elim (adds_cases sent after (vote_of n e false) adds among) [ inl before ↦ noes n before | inr now ↦ not_chief n (Vote e false) now ]

-- ---- all letters

pub counted_same : (e : ℕ) (G H : ℕ → Type 0) (chief : Chief) → ((n : ℕ) → G n → H n) → ((n : ℕ) → H n → G n) → HasCounted e G chief → HasCounted e H chief
counted_same e G H chief wider back counted = record {
  current = counted.current;
  phase = counted.phase;
  flags = counted.flags;
  only = λ n up. wider n (counted.only n up);
  all = λ n less given. counted.all n less (back n given);
}

-- it has counted the votes among the letters
pub takes_counted : (e : ℕ) (Given : ℕ → Type 0) (letters : List Letter) (chief new : Chief) (sent after : List Posted) → chief.nodes ≤ 8 → 0 < e → e < 2 ^ 64 → HasCounted e Given chief → ((n : ℕ) → Contains sent (vote_of n e false) → ⊥)
    → ((l : Letter) → Contains letters l → Contains sent (record { to = 8; letter = l })) → ChiefTakes letters chief sent new after → HasCounted e (λ n. Given n ⊎ Contains letters (vote_of n e true).letter) new
takes_counted e Given [] chief new sent after few some fits counted noes were takes =
    subst (HasCounted e (λ n. Given n ⊎ Contains [] (letter_vote n e))) (sym takes.0)
    (counted_same e Given (λ n. Given n ⊎ Contains [] (letter_vote n e)) chief (λ n given. inl given) (λ n either. elim either [ inl given ↦ given | inr none ↦ none_in (letter_vote n e) none ]) counted)
takes_counted e Given (l ∷ ls) chief new sent after few some fits counted noes were takes =
    let next : Chief = takes.0 in
    let said : List Posted = takes.1 in
    let adds : Adds IsOfChief sent said = hears_says l chief next sent said few takes.2 in
    let same : takes.0.nodes ≡ chief.nodes = hears_nodes l chief next sent said takes.2 in
    let one : HasCounted e (λ n. Given n ⊎ (l ≡ letter_vote n e)) next = counted_heard e some fits Given chief counted sent noes l (were l (contains_here l ls)) next said takes.2 in
    let rest = takes_counted e (λ n. Given n ⊎ (l ≡ letter_vote n e)) ls next new said after (omega (arith, same, few)) some fits one (noes_still e sent said adds noes)
    (λ k among. subst (λ (ps : List Posted). Contains ps (record { to = 8; letter = k })) (sym adds.sent_is) (Contains-append_left sent adds.posts (record { to = 8; letter = k }) (were k (contains_behind l k ls among)))) takes.3 in
    counted_same e (λ n. (Given n ⊎ (l ≡ letter_vote n e)) ⊎ Contains ls (letter_vote n e)) (λ n. Given n ⊎ Contains (l ∷ ls) (letter_vote n e)) new
    (λ n either. elim either [
      | inl before ↦ elim before [
        | inl given ↦ inl given
        | inr here ↦ inr (subst (Contains (l ∷ ls)) here (contains_here l ls))
      ]
      | inr behind ↦ inr (contains_behind l (letter_vote n e) ls behind)
    ])
    (λ n either. elim either [
      | inl given ↦ inl (inl given)
      | inr among ↦ elim (contains_cases l (letter_vote n e) ls among) [
        | inl here ↦ inl (inr here)
        | inr behind ↦ inr behind
      ]
    ])
    rest

-- what an exchange gives
pub exchange_counted : (e : ℕ) (given these more all : List Posted) (waiting : List Letter) (chief : Chief) → all ≡ these ++ more → ((n : ℕ) → Contains waiting (vote_of n e true).letter → IsAye e these n) → ((n : ℕ) → IsAye e these n → Contains waiting (vote_of n e true).letter)
    → HasCounted e (λ n. (IsAye e given n ⊎ Contains waiting (vote_of n e true).letter) ⊎ IsAye e more n) chief → HasCounted e (IsAye e (given ++ all)) chief
exchange_counted e given these more all waiting chief is waits gave counted =
    subst (λ (ps : List Posted). HasCounted e (IsAye e (given ++ ps)) chief) (sym is)
    (counted_same e (λ n. (IsAye e given n ⊎ Contains waiting (vote_of n e true).letter) ⊎ IsAye e more n) (IsAye e (given ++ (these ++ more))) chief
    (λ n either. elim either [
      | inl first ↦ elim first [
        | inl before ↦ Contains-append_left given (these ++ more) (vote_of n e true) before
        | inr here ↦ Contains-append_right given (these ++ more) (vote_of n e true) (Contains-append_left these more (vote_of n e true) (waits n here))
      ]
      | inr second ↦ Contains-append_right given (these ++ more) (vote_of n e true) (Contains-append_right these more (vote_of n e true) second)
    ])
    (λ n among. elim (Contains-append_cases given (these ++ more) (vote_of n e true) among) [
      | inl before ↦ inl (inl before)
      | inr now ↦ elim (Contains-append_cases these more (vote_of n e true) now) [
        | inl first ↦ inl (inr (gave n first))
        | inr second ↦ inr second
      ]
    ])
    counted)

-- what a round gives
pub round_counted : (e : ℕ) (Given : ℕ → Type 0) (waiting : List Letter) (these more : List Posted) (chief : Chief) → more ≡ these → ((n : ℕ) → Contains waiting (vote_of n e true).letter → IsAye e these n) → ((n : ℕ) → IsAye e these n → Contains waiting (vote_of n e true).letter)
    → HasCounted e (λ n. Given n ⊎ Contains waiting (vote_of n e true).letter) chief → HasCounted e (λ n. Given n ⊎ IsAye e more n) chief
round_counted e Given waiting these more chief is waits gave counted =
    subst (λ (ps : List Posted). HasCounted e (λ n. Given n ⊎ IsAye e ps n) chief) (sym is)
    (counted_same e (λ n. Given n ⊎ Contains waiting (vote_of n e true).letter) (λ n. Given n ⊎ IsAye e these n) chief
    (λ n either. elim either [ inl before ↦ inl before | inr here ↦ inr (waits n here) ])
    (λ n either. elim either [ inl before ↦ inl before | inr among ↦ inr (gave n among) ])
    counted)

-- a letter that asks for a vote
pub asked_from : (n e : ℕ) → e < 2 ^ 64 → IsFrom 8 (prepare_of n e).letter (Prepare e)
asked_from n e fits = record { from = refl; say = record { is = fits; commit = refl }; bytes = refl }

-- ---- asking

fresh_end : {X : Type 0} (xs : List X) (x : X) → Contains (xs ++ x ∷ []) x
fresh_end xs x = Contains-append_right xs (x ∷ []) x (contains_here x [])

pub fresh_new : (fresh after : List Posted) (p : Posted) → after ≡ fresh ++ p ∷ [] → Contains after p
fresh_new fresh after p is = subst (λ (ps : List Posted). Contains ps p) (sym is) (fresh_end fresh p)
