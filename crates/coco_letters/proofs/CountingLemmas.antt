-- What the coordinator keeps of letters, one by one and of many.
use Rattle.std.proofs.Common.{◌≡◌, ◌≢◌, ◌⊎◌, inl, inr, ℕ, zero, suc, ◌<◌, Bool, true, false, eqb, ltb, List, [], ◌∷◌, ◌++◌, length, get_or, refl, sym, ap, subst, ◌∙◌, arith, length-set, append_assoc, append-nil}
use Rattle.std.specs.Prelude.{◌&&◌, ◌||◌, if◌then◌else◌}
use Rattle.std.specs.List.{list_all, Contains}
use Rattle.std.proofs.Math.ListN.{set}
use Rattle.std.proofs.lemmas.Bool.{and_parts, eq-eqb, eqb-true, eqb-false, lt-ltb, ltb-true, or_left, or_right}
use Rattle.std.proofs.lemmas.List.{get_or-set_same, get_or-set_other}
use Rattle.std.proofs.lemmas.List.Elements.{Contains-append_cases, Contains-append_left, Contains-append_right}
use Rattle.coco_msg.specs.declared.action.Action.TheVariants.{Force, Send, Promote, Revert}
use Rattle.coco_msg.specs.declared.message.Message.{Message}
use Rattle.coco_msg.specs.declared.message.Message.TheVariants.{Ship, Total, Missing, All, Prepare, Vote, Commit, Finished, Abort, Query, Tell}
use Rattle.coco_msg.specs.Bytes.{epoch_of}
use Rattle.coco_net.specs.declared.letter.Letter.{Letter}
use Rattle.coco_net.specs.declared.letter.Posted.{Posted}
use Rattle.coco_chief.specs.Chief.{Chief}
use Rattle.coco_chief.specs.Table as chiefs
use Rattle.coco_chief.specs.Table.{handled, has_finished, has_voted, is_voting, Turn}
use Rattle.coco_chief.specs.declared.machine.Phase.{Phase}
use Rattle.coco_chief.specs.declared.machine.Phase.TheVariants.{Rest, Voting, Forcing}
use Rattle.coco_world.proofs.Tools.{by_test, or_cases}
use Rattle.coco_msg.specs.declared.action.Action.{Action}
use Rattle.coco_letters.specs.Saying.{posted, posts_of}
use Rattle.coco_letters.specs.Counting.{CountsFinished, CountsVotes, IsSaidBy, IsWaiting, VotesSo}
use Rattle.coco_letters.specs.Taking.{ChiefTakes}
use Rattle.coco_letters.specs.Turns.{ChiefHears, IsFrom}
use Rattle.coco_letters.proofs.WorldLemmas.{contains_cases, contains_here}

-- ---- what a message does to the core

record IsFinished (from : ℕ) (m : Message) (chief next : Chief) : Type 0 where
  lt : from < chief.nodes
  is : m ≡ Finished chief.last
  to : next ≡ record chief { finished = set chief.finished from true }

record IsYes (from : ℕ) (m : Message) (chief next : Chief) : Type 0 where
  lt : from < chief.nodes
  is : m ≡ Vote chief.current true
  voting : chief.phase ≡ Voting
  to : next ≡ (chiefs.counts (set chief.voted from true) chief).1

record IsNo (m : Message) (chief next : Chief) : Type 0 where
  is : m ≡ Vote chief.current false
  voting : chief.phase ≡ Voting
  to : next ≡ record chief { phase = Rest }

abbrev Does : ℕ → Message → Chief → Chief → Type 0
Does from m chief next = (next ≡ chief) ⊎ (IsFinished from m chief next ⊎ (IsYes from m chief next ⊎ IsNo m chief next))

voting_is : (p : Phase) → is_voting p ≡ true → p ≡ Voting
voting_is Voting h = refl
voting_is Rest h = absurd cc
voting_is Forcing h = absurd cc

does : (from : ℕ) (m : Message) (chief : Chief) → Does from m chief (handled from m chief).1
does from m chief =
    by_test (λ (turn : Turn). Does from m chief turn.1) (ltb from chief.nodes && ltb 0 (epoch_of m)) _ _
    (λ both. by_message m (ltb-true from chief.nodes (and_parts (ltb from chief.nodes) (ltb 0 (epoch_of m)) both).0)) (λ _. inl refl)
  where
    by_message : (m : Message) → from < chief.nodes → Does from m chief (chiefs.on_message from m chief).1
    by_message (Vote e true) lt =
        by_test (λ (turn : Turn). Does from (Vote e true) chief turn.1) (eqb e chief.current && is_voting chief.phase) _ _
        (λ both. let parts = and_parts (eqb e chief.current) (is_voting chief.phase) both in
        inr (inr (inl (record { lt = lt; is = ap (λ (k : ℕ). Vote k true) (eqb-true e chief.current parts.0); voting = voting_is chief.phase parts.1; to = refl }))))
        (λ _. inl refl)
    by_message (Vote e false) lt =
        by_test (λ (turn : Turn). Does from (Vote e false) chief turn.1) (eqb e chief.current && is_voting chief.phase) _ _
        (λ both. let parts = and_parts (eqb e chief.current) (is_voting chief.phase) both in
        inr (inr (inr (record { is = ap (λ (k : ℕ). Vote k false) (eqb-true e chief.current parts.0); voting = voting_is chief.phase parts.1; to = refl }))))
        (λ _. inl refl)
    by_message (Finished e) lt =
        by_test (λ (turn : Turn). Does from (Finished e) chief turn.1) (eqb e chief.last) _ _
        (λ is. inr (inl (record { lt = lt; is = ap (λ (k : ℕ). Finished k) (eqb-true e chief.last is); to = refl }))) (λ _. inl refl)
    by_message (Query e) lt =
        by_test (λ (turn : Turn). Does from (Query e) chief turn.1) (chief.committed e) _ _ (λ _. inl refl)
        (λ _. by_test (λ (turn : Turn). Does from (Query e) chief turn.1) (eqb e chief.current && chiefs.is_open chief.phase) _ _ (λ _. inl refl) (λ _. inl refl))
    by_message (Ship e p place time writes) lt = inl refl
    by_message (Total e p places) lt = inl refl
    by_message (Missing e p places) lt = inl refl
    by_message (All e p) lt = inl refl
    by_message (Prepare e) lt = inl refl
    by_message (Commit e) lt = inl refl
    by_message (Abort e) lt = inl refl
    by_message (Tell e committed) lt = inl refl

-- that a node has finished, and its yes, do so
finished_does : (from : ℕ) (chief : Chief) → from < chief.nodes → 0 < chief.last → (handled from (Finished chief.last) chief).1 ≡ record chief { finished = set chief.finished from true }
finished_does from chief lt some =
    λ i. (if lt-ltb from chief.nodes lt i && lt-ltb 0 chief.last some i
    then (if eq-eqb chief.last chief.last refl i then chiefs.nothing (record chief { finished = set chief.finished from true }) else chiefs.nothing chief) else chiefs.nothing chief).1

yes_does : (from : ℕ) (chief : Chief) → from < chief.nodes → 0 < chief.current → chief.phase ≡ Voting → (handled from (Vote chief.current true) chief).1 ≡ (chiefs.counts (set chief.voted from true) chief).1
yes_does from chief lt some voting =
    λ i. (if lt-ltb from chief.nodes lt i && lt-ltb 0 chief.current some i
    then (if eq-eqb chief.current chief.current refl i && is_voting (voting i) then chiefs.counts (set chief.voted from true) chief else chiefs.nothing chief) else chiefs.nothing chief).1

-- ---- flags

-- a flag that is up stays so
up_stays : (flags : List Bool) (i n : ℕ) → get_or flags n false ≡ true → get_or (set flags i true) n false ≡ true
up_stays [] i n up = up
up_stays (b ∷ flags) zero zero up = refl
up_stays (b ∷ flags) zero (suc n) up = up
up_stays (b ∷ flags) (suc i) zero up = up
up_stays (b ∷ flags) (suc i) (suc n) up = up_stays flags i n up

-- one that is up now was, or is the one that was put up
up_was : (flags : List Bool) (i n : ℕ) → get_or (set flags i true) n false ≡ true → (get_or flags n false ≡ true) ⊎ (n ≡ i)
up_was [] i n up = inl up
up_was (b ∷ flags) zero zero up = inr refl
up_was (b ∷ flags) zero (suc n) up = inl up
up_was (b ∷ flags) (suc i) zero up = inl up
up_was (b ∷ flags) (suc i) (suc n) up = elim (up_was flags i n up) [ inl was ↦ inl was | inr here ↦ inr (ap suc here) ]

-- all are up
all_up : (flags : List Bool) → list_all (λ counted. counted) flags ≡ true → (n : ℕ) → n < length flags → get_or flags n false ≡ true
all_up [] all n lt = absurd (omega (arith, lt))
all_up (b ∷ flags) all zero lt = (and_parts b (list_all (λ counted. counted) flags) all).0
all_up (b ∷ flags) all (suc n) lt = all_up flags (and_parts b (list_all (λ counted. counted) flags) all).1 n (omega (arith, lt))

-- ---- one letter

-- what is said in one letter
said_here : (n : ℕ) (m : Message) (letter : Letter) → IsFrom n letter m → IsSaidBy n m (letter ∷ [])
said_here n m letter from = (letter, contains_here letter [], from)

none_here : {X : Type 0} (x : X) → Contains [] x → ⊥
none_here x h = absurd (omega (arith, h.1))

said_is : (n : ℕ) (m : Message) (letter : Letter) → IsSaidBy n m (letter ∷ []) → IsFrom n letter m
said_is n m letter said = elim (contains_cases letter said.0 [] said.1) [
  | inl here ↦ subst (λ (l : Letter). IsFrom n l m) (sym here) said.2
  | inr none ↦ absurd (none_here said.0 none)
]

-- the core does nothing, or what a message says
record Takes (letter : Letter) (chief next : Chief) : Type 0 where
  m : Message
  from : IsFrom letter.from letter m
  to : next ≡ (handled letter.from m chief).1

takes_of : (letter : Letter) (chief next : Chief) (sent said : List Posted) → ChiefHears letter chief sent next said → Takes letter chief next ⊎ (next ≡ chief)
takes_of letter chief next sent said hears = elim hears.either [
  | inl such ↦ inl (record { m = such.0; from = such.1; to = (hears.takes such.0 such.1).0 })
  | inr none ↦ inr (hears.drops (λ m from. none m from from.say.commit)).0
]

-- what the letter does
record Did (letter : Letter) (chief next : Chief) : Type 0 where
  m : Message
  from : IsFrom letter.from letter m
  does : IsFinished letter.from m chief next ⊎ (IsYes letter.from m chief next ⊎ IsNo m chief next)

did : (letter : Letter) (chief next : Chief) (sent said : List Posted) → ChiefHears letter chief sent next said → (next ≡ chief) ⊎ Did letter chief next
did letter chief next sent said hears = elim (takes_of letter chief next sent said hears) [
  | inl takes ↦ elim (subst (λ (x : Chief). Does letter.from takes.m chief x) (sym takes.to) (does letter.from takes.m chief)) [
    | inl same ↦ inl same
    | inr more ↦ inr (record { m = takes.m; from = takes.from; does = more })
  ]
  | inr same ↦ inl same
]

-- a message that a node says is heard
hears_it : (n : ℕ) (m : Message) (letter : Letter) (chief next : Chief) (sent said : List Posted) → ChiefHears letter chief sent next said → IsFrom n letter m → next ≡ (handled n m chief).1
hears_it n m letter chief next sent said hears from =
    subst (λ (k : ℕ). next ≡ (handled k m chief).1) from.from (hears.takes m (record { from = λ i. letter.from; say = from.say; bytes = from.bytes })).0

-- ---- who has finished

finished_same : (letters : List Letter) (chief : Chief) → ((n : ℕ) → n < chief.nodes → IsSaidBy n (Finished chief.last) letters → has_finished n chief ≡ true) → CountsFinished letters chief chief
finished_same letters chief heard = record { nodes = refl; last = refl; committed = refl; stays = λ n is. is; heard = heard; only = λ n is. inl is }

-- a core of which these parts are the same
record AlikeFinished (chief next : Chief) : Type 0 where
  nodes : next.nodes ≡ chief.nodes
  last : next.last ≡ chief.last
  committed : next.committed ≡ chief.committed
  finished : next.finished ≡ chief.finished

alike_finished : (chief next : Chief) → AlikeFinished chief next → (n : ℕ) → has_finished n next ≡ has_finished n chief
alike_finished chief next alike n = λ i. eqb (alike.last i) 0 || get_or (alike.finished i) n false

counted_alike : (from : ℕ) (m : Message) (chief next : Chief) → IsYes from m chief next ⊎ IsNo m chief next → AlikeFinished chief next
counted_alike from m chief next (inl vote) = subst (AlikeFinished chief) (sym vote.to)
    (by_test (λ (turn : Turn). AlikeFinished chief turn.1) (list_all (λ counted. counted) (set chief.voted from true)) _ _
    (λ _. record { nodes = refl; last = refl; committed = refl; finished = refl }) (λ _. record { nodes = refl; last = refl; committed = refl; finished = refl }))
counted_alike from m chief next (inr refusal) = subst (AlikeFinished chief) (sym refusal.to) (record { nodes = refl; last = refl; committed = refl; finished = refl })

has_some : (last : ℕ) (b : Bool) → (0 < last → b ≡ true) → (eqb last 0 || b) ≡ true
has_some last b up = by_last (eqb last 0) refl
  where
    by_last : (none : Bool) → eqb last 0 ≡ none → (none || b) ≡ true
    by_last true at = refl
    by_last false at = up (let some : last ≢ 0 = eqb-false last 0 at in omega (arith, some))

module _ (letter : Letter) (chief next : Chief) (sent said : List Posted) (hears : ChiefHears letter chief sent next said) where
  -- a node that says so has finished
  finished_now : length chief.finished ≡ chief.nodes → next.last ≡ chief.last → (n : ℕ) → n < chief.nodes → IsSaidBy n (Finished chief.last) (letter ∷ []) → has_finished n next ≡ true
  finished_now long last n lt is = has_some next.last (get_or next.finished n false) (λ some.
      let does_so : next ≡ record chief { finished = set chief.finished n true } =
      hears_it n (Finished chief.last) letter chief next sent said hears (said_is n (Finished chief.last) letter is) ∙ finished_does n chief lt (omega (arith, some, last)) in
      ap (λ (c : Chief). get_or c.finished n false) does_so ∙ get_or-set_same chief.finished n true false (omega (arith, long, lt)))

  pub finished_step : length chief.finished ≡ chief.nodes → CountsFinished (letter ∷ []) chief next × (length next.finished ≡ next.nodes)
  finished_step long = elim (did letter chief next sent said hears) [
    | inl same ↦ (
      record {
        nodes = ap (λ (c : Chief). c.nodes) same;
        last = ap (λ (c : Chief). c.last) same;
        committed = ap (λ (c : Chief). c.committed) same;
        stays = λ n is. ap (λ (c : Chief). has_finished n c) same ∙ is;
        heard = finished_now long (ap (λ (c : Chief). c.last) same);
        only = λ n is. inl (sym (ap (λ (c : Chief). has_finished n c) same) ∙ is);
      },
      ap (λ (c : Chief). length c.finished) same ∙ long ∙ sym (ap (λ (c : Chief). c.nodes) same),
    )
    | inr some ↦ elim some.does [
      | inl done ↦ (
        record {
          nodes = ap (λ (c : Chief). c.nodes) done.to;
          last = ap (λ (c : Chief). c.last) done.to;
          committed = ap (λ (c : Chief). c.committed) done.to;
          stays = λ n is. ap (λ (c : Chief). has_finished n c) done.to ∙ still_up n is;
          heard = finished_now long (ap (λ (c : Chief). c.last) done.to);
          only = λ n is. was_up n some.from done.is (sym (ap (λ (c : Chief). has_finished n c) done.to) ∙ is);
        },
        ap (λ (c : Chief). length c.finished) done.to ∙ length-set chief.finished letter.from true ∙ long ∙ sym (ap (λ (c : Chief). c.nodes) done.to),
      )
      | inr other ↦ (let alike = counted_alike letter.from some.m chief next other in (
        record {
          nodes = alike.nodes;
          last = alike.last;
          committed = alike.committed;
          stays = λ n is. alike_finished chief next alike n ∙ is;
          heard = finished_now long alike.last;
          only = λ n is. inl (sym (alike_finished chief next alike n) ∙ is);
        },
        ap (λ (fs : List Bool). length fs) alike.finished ∙ long ∙ sym alike.nodes,
      ))
    ]
  ]
    where
      still_up : (n : ℕ) → has_finished n chief ≡ true → (eqb chief.last 0 || get_or (set chief.finished letter.from true) n false) ≡ true
      still_up n is = elim (or_cases (eqb chief.last 0) (get_or chief.finished n false) is) [
        | inl none ↦ or_left (eqb chief.last 0) _ none
        | inr up ↦ or_right (eqb chief.last 0) _ (up_stays chief.finished letter.from n up)
      ]

      was_up : (n : ℕ) {m : Message} → IsFrom letter.from letter m → m ≡ Finished chief.last → (eqb chief.last 0 || get_or (set chief.finished letter.from true) n false) ≡ true
          → (has_finished n chief ≡ true) ⊎ IsSaidBy n (Finished chief.last) (letter ∷ [])
      was_up n from is up = elim (or_cases (eqb chief.last 0) (get_or (set chief.finished letter.from true) n false) up) [
        | inl none ↦ inl (or_left (eqb chief.last 0) _ none)
        | inr now ↦ elim (up_was chief.finished letter.from n now) [
          | inl was ↦ inl (or_right (eqb chief.last 0) _ was)
          | inr here ↦ inr (said_here n (Finished chief.last) letter (subst (λ (k : ℕ). IsFrom k letter (Finished chief.last)) (sym here) (subst (λ (x : Message). IsFrom letter.from letter x) is from)))
        ]
      ]

-- ---- of more letters

said_left : (n : ℕ) (m : Message) (xs ys : List Letter) → IsSaidBy n m xs → IsSaidBy n m (xs ++ ys)
said_left n m xs ys said = (said.0, Contains-append_left xs ys said.0 said.1, said.2)

said_right : (n : ℕ) (m : Message) (xs ys : List Letter) → IsSaidBy n m ys → IsSaidBy n m (xs ++ ys)
said_right n m xs ys said = (said.0, Contains-append_right xs ys said.0 said.1, said.2)

said_cases : (n : ℕ) (m : Message) (xs ys : List Letter) → IsSaidBy n m (xs ++ ys) → IsSaidBy n m xs ⊎ IsSaidBy n m ys
said_cases n m xs ys said = elim (Contains-append_cases xs ys said.0 said.1) [ inl left ↦ inl (said.0, left, said.2) | inr right ↦ inr (said.0, right, said.2) ]

pub finished_then : (xs ys : List Letter) (a b c : Chief) → CountsFinished xs a b → CountsFinished ys b c → CountsFinished (xs ++ ys) a c
finished_then xs ys a b c one two = record {
  nodes = two.nodes ∙ one.nodes;
  last = two.last ∙ one.last;
  committed = two.committed ∙ one.committed;
  stays = λ n is. two.stays n (one.stays n is);
  heard = λ n lt said. elim (said_cases n (Finished a.last) xs ys said) [
    | inl left ↦ two.stays n (one.heard n lt left)
    | inr right ↦ two.heard n (omega (arith, lt, one.nodes)) (subst (λ (e : ℕ). IsSaidBy n (Finished e) ys) (sym one.last) right)
  ];
  only = λ n is. elim (two.only n is) [
    | inl was ↦ elim (one.only n was) [ inl first ↦ inl first | inr left ↦ inr (said_left n (Finished a.last) xs ys left) ]
    | inr right ↦ inr (said_right n (Finished a.last) xs ys (subst (λ (e : ℕ). IsSaidBy n (Finished e) ys) one.last right))
  ];
}

pub takes_finished : (letters : List Letter) (a c : Chief) (sent said : List Posted) → length a.finished ≡ a.nodes → ChiefTakes letters a sent c said → CountsFinished letters a c
takes_finished [] a c sent said long takes =
    subst (λ (x : Chief). CountsFinished [] a x) (sym takes.0) (finished_same [] a (λ n lt none. absurd (none_here none.0 none.1)))
takes_finished (letter ∷ letters) a c sent said long (b, middle, hears, rest) =
    let step = finished_step letter a b sent middle hears long in
    finished_then (letter ∷ []) letters a b c step.0 (takes_finished letters b c middle said step.1 rest)

-- ---- votes

-- what is the same of a core where no yes is counted
record AlikeVotes (chief next : Chief) : Type 0 where
  nodes : next.nodes ≡ chief.nodes
  current : next.current ≡ chief.current
  phase : next.phase ≡ chief.phase
  voted : next.voted ≡ chief.voted

waiting_not : {X : Type 0} (p : Phase) → p ≡ Voting → is_voting p ≡ false → X
waiting_not p is not = absurd (let no : ◌≡◌ {A = Bool} true false = sym (ap is_voting is) ∙ not in cc)

module _ (letter : Letter) (chief next : Chief) (sent said : List Posted) (hears : ChiefHears letter chief sent next said) where
  abbrev Heard : Type 0
  Heard = IsWaiting chief → (n : ℕ) → n < chief.nodes → IsSaidBy n (Vote chief.current true) (letter ∷ []) → (has_voted n next ≡ true) ⊎ (next.phase ≡ Rest)

  -- a node's yes is counted
  voted_now : length chief.voted ≡ chief.nodes → 0 < chief.current → Heard
  voted_now long some waits n lt is = inl (
      ap (λ (c : Chief). has_voted n c) (hears_it n (Vote chief.current true) letter chief next sent said hears (said_is n (Vote chief.current true) letter is) ∙ yes_does n chief lt some waits.voting)
      ∙ by_test (λ (turn : Turn). has_voted n turn.1 ≡ true) (list_all (λ counted. counted) (set chief.voted n true)) _ _
      (λ _. get_or-set_same chief.voted n true false (omega (arith, long, lt))) (λ _. get_or-set_same chief.voted n true false (omega (arith, long, lt))))

  votes_alike : Heard → AlikeVotes chief next → length chief.voted ≡ chief.nodes → CountsVotes (letter ∷ []) chief next × (length next.voted ≡ next.nodes)
  votes_alike heard alike long = (
    record {
      nodes = alike.nodes;
      current = alike.current;
      stays = λ n is. ap (λ (fs : List Bool). get_or fs n false) alike.voted ∙ is;
      only = λ n is. inl (sym (ap (λ (fs : List Bool). get_or fs n false) alike.voted) ∙ is);
      rests = λ _. alike.phase;
      heard = heard;
      comes = λ waits. subst (λ (p : Phase). VotesSo p (letter ∷ []) chief next) (sym (alike.phase ∙ waits.voting)) (ap (λ (fs : List Bool). list_all (λ counted. counted) fs) alike.voted ∙ waits.missing);
    },
    ap (λ (fs : List Bool). length fs) alike.voted ∙ long ∙ sym alike.nodes,
  )

  abbrev flags : List Bool
  flags = set chief.voted letter.from true

  votes_yes : Heard → length chief.voted ≡ chief.nodes → (m : Message) → IsFrom letter.from letter m → IsYes letter.from m chief next → CountsVotes (letter ∷ []) chief next × (length next.voted ≡ next.nodes)
  votes_yes heard long m from vote = by_all (list_all (λ counted. counted) (set chief.voted letter.from true)) refl
    where
      only : next.voted ≡ flags → (n : ℕ) → has_voted n next ≡ true → (has_voted n chief ≡ true) ⊎ IsSaidBy n (Vote chief.current true) (letter ∷ [])
      only are n is = elim (up_was chief.voted letter.from n (sym (ap (λ (fs : List Bool). get_or fs n false) are) ∙ is)) [
        | inl was ↦ inl was
        | inr here ↦ inr (said_here n (Vote chief.current true) letter (subst (λ (k : ℕ). IsFrom k letter (Vote chief.current true)) (sym here) (subst (λ (x : Message). IsFrom letter.from letter x) vote.is from)))
      ]

      made : (p : Phase) → next ≡ record chief { voted = flags; phase = p } → (IsWaiting chief → VotesSo p (letter ∷ []) chief next) → CountsVotes (letter ∷ []) chief next × (length next.voted ≡ next.nodes)
      made p to comes = (
        record {
          nodes = ap (λ (c : Chief). c.nodes) to;
          current = ap (λ (c : Chief). c.current) to;
          stays = λ n is. ap (λ (c : Chief). has_voted n c) to ∙ up_stays chief.voted letter.from n is;
          only = only (ap (λ (c : Chief). c.voted) to);
          rests = λ not. waiting_not chief.phase vote.voting not;
          heard = heard;
          comes = λ waits. subst (λ (q : Phase). VotesSo q (letter ∷ []) chief next) (sym (ap (λ (c : Chief). c.phase) to)) (comes waits);
        },
        ap (λ (c : Chief). length c.voted) to ∙ length-set chief.voted letter.from true ∙ long ∙ sym (ap (λ (c : Chief). c.nodes) to),
      )

      turned : (b : Bool) → list_all (λ counted. counted) flags ≡ b → next ≡ (if b then (Force chief.current ∷ [], record chief { voted = flags; phase = Forcing }) else chiefs.nothing (record chief { voted = flags })).1
      turned b is = vote.to ∙ (λ i. (if is i then (Force chief.current ∷ [], record chief { voted = set chief.voted letter.from true; phase = Forcing }) else chiefs.nothing (record chief { voted = set chief.voted letter.from true })).1)

      by_all : (b : Bool) → list_all (λ counted. counted) flags ≡ b → CountsVotes (letter ∷ []) chief next × (length next.voted ≡ next.nodes)
      by_all true is = made Forcing (turned true is) (λ _. λ n lt.
          ap (λ (c : Chief). has_voted n c) (turned true is) ∙ all_up (set chief.voted letter.from true) is n (omega (arith, lt, long, length-set chief.voted letter.from true)))
      by_all false is = made Voting (turned false is ∙ (λ i. record chief { voted = set chief.voted letter.from true; phase = vote.voting i })) (λ _. ap (λ (c : Chief). list_all (λ counted. counted) c.voted) (turned false is) ∙ is)

  votes_no : Heard → length chief.voted ≡ chief.nodes → (m : Message) → IsFrom letter.from letter m → IsNo m chief next → CountsVotes (letter ∷ []) chief next × (length next.voted ≡ next.nodes)
  votes_no heard long m from refusal = (
    record {
      nodes = ap (λ (c : Chief). c.nodes) refusal.to;
      current = ap (λ (c : Chief). c.current) refusal.to;
      stays = λ n is. ap (λ (c : Chief). has_voted n c) refusal.to ∙ is;
      only = λ n is. inl (sym (ap (λ (c : Chief). has_voted n c) refusal.to) ∙ is);
      rests = λ not. waiting_not chief.phase refusal.voting not;
      heard = heard;
      comes = λ waits. subst (λ (q : Phase). VotesSo q (letter ∷ []) chief next) (sym (ap (λ (c : Chief). c.phase) refusal.to))
          (letter.from, said_here letter.from (Vote chief.current false) letter (subst (λ (x : Message). IsFrom letter.from letter x) refusal.is from));
    },
    ap (λ (c : Chief). length c.voted) refusal.to ∙ long ∙ sym (ap (λ (c : Chief). c.nodes) refusal.to),
  )

  pub votes_step : length chief.voted ≡ chief.nodes → 0 < chief.current ⊎ (is_voting chief.phase ≡ false) → CountsVotes (letter ∷ []) chief next × (length next.voted ≡ next.nodes)
  votes_step long some = elim (did letter chief next sent said hears) [
    | inl same ↦ votes_alike heard (record { nodes = ap (λ (c : Chief). c.nodes) same; current = ap (λ (c : Chief). c.current) same; phase = ap (λ (c : Chief). c.phase) same; voted = ap (λ (c : Chief). c.voted) same }) long
    | inr it ↦ elim it.does [
      | inl done ↦ votes_alike heard (record { nodes = ap (λ (c : Chief). c.nodes) done.to; current = ap (λ (c : Chief). c.current) done.to; phase = ap (λ (c : Chief). c.phase) done.to; voted = ap (λ (c : Chief). c.voted) done.to }) long
      | inr (inl vote) ↦ votes_yes heard long it.m it.from vote
      | inr (inr refusal) ↦ votes_no heard long it.m it.from refusal
    ]
  ]
    where
      heard : Heard
      heard waits = elim some [ inl positive ↦ voted_now long positive waits | inr not ↦ waiting_not chief.phase waits.voting not ]

module _ (xs ys : List Letter) (a b c : Chief) (one : CountsVotes xs a b) (two : CountsVotes ys b c) where
  wider : (p : Phase) → VotesSo p ys b c → VotesSo p (xs ++ ys) a c
  wider Voting so = so
  wider Forcing so = λ n lt. so n (omega (arith, lt, one.nodes))
  wider Rest so = (so.0, said_right so.0 (Vote a.current false) xs ys (subst (λ (e : ℕ). IsSaidBy so.0 (Vote e false) ys) one.current so.1))

  heard_later : (n : ℕ) → n < a.nodes → IsSaidBy n (Vote b.current true) ys → (p : Phase) → b.phase ≡ p → VotesSo p xs a b → (has_voted n c ≡ true) ⊎ (c.phase ≡ Rest)
  heard_later n lt said Voting is so = two.heard (record { voting = is; missing = so }) n (omega (arith, lt, one.nodes)) said
  heard_later n lt said Forcing is so = inl (two.stays n (so n lt))
  heard_later n lt said Rest is so = inr (two.rests (ap is_voting is) ∙ is)

  comes_later : (p : Phase) → b.phase ≡ p → VotesSo p xs a b → VotesSo c.phase (xs ++ ys) a c
  comes_later Voting is so = wider c.phase (two.comes (record { voting = is; missing = so }))
  comes_later Forcing is so = subst (λ (p : Phase). VotesSo p (xs ++ ys) a c) (sym (two.rests (ap is_voting is) ∙ is)) (λ n lt. two.stays n (so n lt))
  comes_later Rest is so =
      subst (λ (p : Phase). VotesSo p (xs ++ ys) a c) (sym (two.rests (ap is_voting is) ∙ is)) (so.0, said_left so.0 (Vote a.current false) xs ys so.1)

  pub votes_then : CountsVotes (xs ++ ys) a c
  votes_then = record {
    nodes = two.nodes ∙ one.nodes;
    current = two.current ∙ one.current;
    stays = λ n is. two.stays n (one.stays n is);
    only = λ n is. elim (two.only n is) [
      | inl was ↦ elim (one.only n was) [ inl first ↦ inl first | inr left ↦ inr (said_left n (Vote a.current true) xs ys left) ]
      | inr right ↦ inr (said_right n (Vote a.current true) xs ys (subst (λ (e : ℕ). IsSaidBy n (Vote e true) ys) one.current right))
    ];
    rests = λ not. two.rests (ap is_voting (one.rests not) ∙ not) ∙ one.rests not;
    heard = λ waits n lt said. elim (said_cases n (Vote a.current true) xs ys said) [
      | inl left ↦ elim (one.heard waits n lt left) [ inl up ↦ inl (two.stays n up) | inr rest ↦ inr (two.rests (ap is_voting rest) ∙ rest) ]
      | inr right ↦ heard_later n lt (subst (λ (e : ℕ). IsSaidBy n (Vote e true) ys) (sym one.current) right) b.phase refl (one.comes waits)
    ];
    comes = λ waits. comes_later b.phase refl (one.comes waits);
  }

votes_same : (chief : Chief) → CountsVotes [] chief chief
votes_same chief = record {
  nodes = refl;
  current = refl;
  stays = λ n is. is;
  only = λ n is. inl is;
  rests = λ _. refl;
  heard = λ waits n lt none. absurd (none_here none.0 none.1);
  comes = λ waits. subst (λ (p : Phase). VotesSo p [] chief chief) (sym waits.voting) waits.missing;
}

pub takes_votes : (letters : List Letter) (a c : Chief) (sent said : List Posted) → length a.voted ≡ a.nodes → 0 < a.current ⊎ (is_voting a.phase ≡ false) → ChiefTakes letters a sent c said → CountsVotes letters a c
takes_votes [] a c sent said long some takes = subst (λ (x : Chief). CountsVotes [] a x) (sym takes.0) (votes_same a)
takes_votes (letter ∷ letters) a c sent said long some (b, middle, hears, rest) =
    let step = votes_step letter a b sent middle hears long some in
    votes_then (letter ∷ []) letters a b c step.0 (takes_votes letters b c middle said step.1 (later step.0 some) rest)
  where
    later : CountsVotes (letter ∷ []) a b → 0 < a.current ⊎ (is_voting a.phase ≡ false) → 0 < b.current ⊎ (is_voting b.phase ≡ false)
    later counts (inl positive) = inl (omega (arith, positive, counts.current))
    later counts (inr not) = inr (ap is_voting (counts.rests not) ∙ not)

-- an epoch that is voting is one
pub some_or_not : (p : Phase) (last current : ℕ) → (chiefs.is_open p ≡ true → last < current) → 0 < current ⊎ (is_voting p ≡ false)
some_or_not Rest last current behind = inr refl
some_or_not Voting last current behind = inl (let below : last < current = behind refl in omega (arith, below))
some_or_not Forcing last current behind = inr refl
