-- What rounds of letters come to, one behind another.
use Rattle.std.proofs.Common.{◌≡◌, ◌≢◌, ◌⊎◌, inl, inr, ℕ, zero, suc, ◌+◌, ◌<◌, ◌≤◌, ◌^◌, Bool, true, false, eqb, List, [], ◌∷◌, ◌++◌, get_or, refl, sym, ap, subst, ◌∙◌, arith, append_assoc, append-nil}
use Rattle.std.specs.Prelude.{◌||◌, if◌then◌else◌, replicate}
use Rattle.std.specs.Bool.{MatchBool}
use Rattle.std.specs.List.{Contains}
use Rattle.std.proofs.lemmas.Bool.{eq-eqb, eqb-true, eqb-false, ne_eqb}
use Rattle.std.proofs.lemmas.List.{append_cancel_left}
use Rattle.std.proofs.lemmas.List.Elements.{All-contains, Contains-append_cases, Contains-append_left, Contains-append_right}
use Rattle.coco_chief.specs.Chief.{Chief}
use Rattle.coco_chief.specs.Table.{forced, has_finished, is_voting, reminds, to_each, to_unfinished}
use Rattle.coco_msg.specs.declared.action.Action.TheVariants.{Send}
use Rattle.coco_msg.specs.declared.message.Message.{Message}
use Rattle.coco_msg.specs.declared.message.Message.TheVariants.{Commit, Finished}
use Rattle.coco_net.specs.declared.letter.Letter.{Letter}
use Rattle.coco_net.specs.declared.letter.Posted.{Posted}
use Rattle.coco_net.specs.Giving.{Gives}
use Rattle.coco_node.specs.Node.{Node}
use Rattle.coco_letters.specs.Counting.{CountsFinished, CountsVotes, IsSaidBy}
use Rattle.coco_letters.specs.Turns.{AreFresh, AreSent, ChiefTurns}
use Rattle.coco_letters.specs.Saying.{posted, posts_of}
use Rattle.coco_letters.specs.Telling.{Adds, IsOfChief, IsOfFinish}
use Rattle.coco_letters.proofs.TellingLemmas.{adds_cases, not_chief}
use Rattle.coco_letters.proofs.SayingLemmas.{posts_append}
use Rattle.coco_letters.proofs.WaitingLemmas.{given_waits, waits_given}
use Rattle.coco_finish.specs.declared.tables.NodeTables.{NodeTables}
use Rattle.coco_finish.specs.Exchanges.{commit_of, AreReminded, AreUp, AsksAll, HaveAllFinished, HearsGiven, IsSilent, OneHasNot, StaysSilent, UnlessFault}
use Rattle.coco_finish.specs.Finishing.{finished_of, AreTold, Finish, TellsCommitted}
use Rattle.coco_finish.proofs.HearLemmas.{none_in}

-- ---- letters

-- what is new to the next round still is
pub fresh_more : (sent fresh sent_new fresh_new : List Posted) → AreFresh sent fresh sent_new fresh_new → (p : Posted) → Contains fresh p → Contains fresh_new p
fresh_more sent fresh sent_new fresh_new are p among = subst (λ (ps : List Posted). Contains ps p) (sym are.fresh_is) (Contains-append_left fresh are.posts p among)

by_flag : (P : Type 0) (b : Bool) → (b ≡ true → P) → (b ≡ false → P) → P
by_flag P true up down = up refl
by_flag P false up down = down refl

-- what the coordinator says tells of no node that it has finished
pub told_by_chief : (e : ℕ) (sent sent_new : List Posted) (behind : List Bool) → Adds IsOfChief sent sent_new → AreTold e sent behind → AreTold e sent_new behind
told_by_chief e sent sent_new behind says told n among = elim (adds_cases sent sent_new (finished_of n e) says among) [
  | inl was ↦ told n was
  | inr now ↦ not_chief n (Finished e) now
]

-- those that have finished aren't behind, where no letter tells so of one that is
pub up_so : (e : ℕ) (chief chief_new : Chief) (marks : List Bool) (sent : List Posted) (waiting : ℕ → List Letter) → chief.last ≡ e → AreSent sent waiting → CountsFinished (waiting 8) chief chief_new → AreTold e sent marks → AreUp chief marks → AreUp chief_new marks
up_so e chief chief_new marks sent waiting last are finished told up n is = elim (finished.only n is) [
  | inl was ↦ up n was
  | inr said ↦ (
      let same : ◌≡◌ {A = Posted} (record { to = 8; letter = said.0 }) (finished_of n chief.last) = λ i. record { to = 8; letter = record { from = said.2.from i; bytes = said.2.bytes i } } in
      told n (subst (λ (k : ℕ). Contains sent (finished_of n k)) last (subst (Contains sent) same (are 8 said.0 (omega arith) said.1))))
]

-- nor are they where more nodes finish
pub up_still : (e : ℕ) (chief : Chief) (cores cores_new : List Node) (old new : NodeTables) → Finish e cores cores_new old new → AreUp chief old.behind.items → AreUp chief new.behind.items
up_still e chief cores cores_new old new finish up n is = elim (finish.nodes n) [ inl stays ↦ stays.behind ∙ up n is | inr promotes ↦ promotes.behind ]

-- ---- what a round gave the coordinator

module _ (chief chief_new : Chief) (sent fresh : List Posted) (faults faults_new : ℕ) (waiting : ℕ → List Letter) (these given given_new : List Posted)
    (fits : chief.last < 2 ^ 64) (is : given_new ≡ given ++ these) (gives : Gives sent fresh faults faults_new waiting these) (finished : CountsFinished (waiting 8) chief chief_new) (votes : CountsVotes (waiting 8) chief chief_new) where
  said_in : (n : ℕ) → Contains these (finished_of n chief.last) → IsSaidBy n (Finished chief.last) (waiting 8)
  said_in n among =
      let letter : Letter = (finished_of n chief.last).letter in
      (letter, given_waits sent fresh faults faults_new waiting these 8 letter gives (omega arith) among, record { from = refl; say = record { is = fits; commit = refl }; bytes = refl })

  said_from : (n : ℕ) → IsSaidBy n (Finished chief.last) (waiting 8) → Contains these (finished_of n chief.last)
  said_from n said =
      let same : ◌≡◌ {A = Posted} (record { to = 8; letter = said.0 }) (finished_of n chief.last) = λ i. record { to = 8; letter = record { from = said.2.from i; bytes = said.2.bytes i } } in
      subst (Contains these) same (waits_given sent fresh faults faults_new waiting these 8 said.0 gives (omega arith) said.1)

  pub hears_given : HearsGiven chief given chief_new given_new
  hears_given = record {
    more = these;
    given_is = is;
    nodes = finished.nodes;
    last = finished.last;
    committed = finished.committed;
    current = votes.current;
    phase = votes.rests;
    stays = finished.stays;
    heard = λ n lt among. finished.heard n lt (said_in n among);
    only = λ n up. elim (finished.only n up) [ inl was ↦ inl was | inr said ↦ inr (said_from n said) ];
  }

  -- a round without a fault gives all that was sent since the last
  pub came_all : (faults_new ≡ faults) ⊎ (faults_new ≡ faults + 1) → UnlessFault faults faults_new ((n : ℕ) → n < chief.nodes → Contains fresh (finished_of n chief.last) → has_finished n chief_new ≡ true)
  came_all (inl same) = inr (λ n lt among. finished.heard n lt (said_in n (All-contains (Contains these) fresh (finished_of n chief.last) (gives.new_ones same) among)))
  came_all (inr more) = inl (omega (arith, more))

-- and so it gives the nodes what they were told
pub told_all : (e cores : ℕ) (sent fresh : List Posted) (faults faults_new : ℕ) (waiting : ℕ → List Letter) (these fresh_new : List Posted) → e < 2 ^ 64 → cores ≤ 8 → Gives sent fresh faults faults_new waiting these
    → (faults_new ≡ faults) ⊎ (faults_new ≡ faults + 1) → ((n : ℕ) (l : Letter) → n < cores → Contains (waiting n) l → TellsCommitted e l → Contains fresh_new (finished_of n e))
    → UnlessFault faults faults_new ((n : ℕ) → n < cores → Contains fresh (commit_of n e) → Contains fresh_new (finished_of n e))
told_all e cores sent fresh faults faults_new waiting these fresh_new fits few gives (inr more) answers = inl (omega (arith, more))
told_all e cores sent fresh faults faults_new waiting these fresh_new fits few gives (inl same) answers = inr (λ n lt among.
    let letter : Letter = (commit_of n e).letter in
    answers n letter lt (given_waits sent fresh faults faults_new waiting these n letter gives (omega (arith, lt, few)) (All-contains (Contains these) fresh (commit_of n e) (gives.new_ones same) among))
    (Commit e, record { from = refl; say = record { is = fits; commit = refl }; bytes = refl }, eq-eqb e e refl))

-- ---- of two rounds

pub hears_then : (a b c : Chief) (f g h : List Posted) → HearsGiven a f b g → HearsGiven b g c h → HearsGiven a f c h
hears_then a b c f g h one two = record {
  more = one.more ++ two.more;
  given_is = two.given_is ∙ ap (λ (ps : List Posted). ps ++ two.more) one.given_is ∙ append_assoc f one.more two.more;
  nodes = two.nodes ∙ one.nodes;
  last = two.last ∙ one.last;
  committed = two.committed ∙ one.committed;
  current = two.current ∙ one.current;
  phase = λ not. two.phase (ap is_voting (one.phase not) ∙ not) ∙ one.phase not;
  stays = λ n up. two.stays n (one.stays n up);
  heard = λ n lt among. elim (Contains-append_cases one.more two.more (finished_of n a.last) among) [
    | inl first ↦ two.stays n (one.heard n lt first)
    | inr next ↦ two.heard n (omega (arith, lt, one.nodes)) (subst (λ (e : ℕ). Contains two.more (finished_of n e)) (sym one.last) next)
  ];
  only = λ n up. elim (two.only n up) [
    | inl was ↦ elim (one.only n was) [ inl first ↦ inl first | inr given ↦ inr (Contains-append_left one.more two.more (finished_of n a.last) given) ]
    | inr given ↦ inr (Contains-append_right one.more two.more (finished_of n a.last) (subst (λ (e : ℕ). Contains two.more (finished_of n e)) one.last given))
  ];
}

-- an exchange in which all come
pub ends_so : (e cores : ℕ) (a b c : Chief) (given given_new : List Posted) (fresh between : List Posted) (f g h : ℕ) → a.nodes ≡ cores → f ≤ g → g ≤ h → HearsGiven a given b given_new
    → ((n : ℕ) → has_finished n b ≡ true → has_finished n c ≡ true)
    → UnlessFault f g ((n : ℕ) → n < cores → Contains fresh (commit_of n e) → Contains between (finished_of n e)) → UnlessFault g h ((n : ℕ) → n < b.nodes → Contains between (finished_of n e) → has_finished n c ≡ true)
    → c.nodes ≡ a.nodes → AreReminded e a fresh → UnlessFault f h (HaveAllFinished c)
ends_so e cores a b c given given_new fresh between f g h count one two hears stays (inl lost) came same reminded = inl (omega (arith, lost, two))
ends_so e cores a b c given given_new fresh between f g h count one two hears stays (inr told) (inl lost) same reminded = inl (omega (arith, lost, one))
ends_so e cores a b c given given_new fresh between f g h count one two hears stays (inr told) (inr came) same reminded = inr (λ n lt.
    let of_a : n < a.nodes = omega (arith, lt, same) in
    by_flag (has_finished n c ≡ true) (has_finished n a)
    (λ up. stays n (hears.stays n up))
    (λ down. came n (omega (arith, of_a, hears.nodes)) (told n (omega (arith, of_a, count)) (reminded n of_a down))))

-- ---- reminding

unfinished_are : (e : ℕ) (finished : List Bool) (count n : ℕ) → n < count → get_or finished n false ≡ false → Contains (posts_of 8 (to_unfinished count finished (Commit e))) (commit_of n e)
unfinished_are e finished zero n lt down = absurd (omega (arith, lt))
unfinished_are e finished (suc count) n lt down =
    subst (λ (ps : List Posted). Contains ps (commit_of n e)) (sym (posts_append 8 (to_unfinished count finished (Commit e)) (if get_or finished count false then [] else Send count (Commit e) ∷ [])))
    (by_place (λ less. unfinished_are e finished count n less down) (eqb n count) refl)
  where
    by_place : (n < count → Contains (posts_of 8 (to_unfinished count finished (Commit e))) (commit_of n e)) → (b : Bool) → eqb n count ≡ b
        → Contains (posts_of 8 (to_unfinished count finished (Commit e)) ++ posts_of 8 (if get_or finished count false then [] else Send count (Commit e) ∷ [])) (commit_of n e)
    by_place before true at =
        let same : n ≡ count = eqb-true n count at in
        let off : get_or finished count false ≡ false = subst (λ (k : ℕ). get_or finished k false ≡ false) same down in
        Contains-append_right (posts_of 8 (to_unfinished count finished (Commit e))) (posts_of 8 (if get_or finished count false then [] else Send count (Commit e) ∷ [])) (commit_of n e)
        (subst (λ (b : Bool). Contains (posts_of 8 (if b then [] else Send count (Commit e) ∷ [])) (commit_of n e)) (sym off) (0, omega arith, ap (λ (k : ℕ). commit_of k e) (sym same)))
    by_place before false at =
        let other : n ≢ count = eqb-false n count at in
        Contains-append_left (posts_of 8 (to_unfinished count finished (Commit e))) (posts_of 8 (if get_or finished count false then [] else Send count (Commit e) ∷ [])) (commit_of n e) (before (omega (arith, lt, other)))

-- each that hasn't finished is told
pub reminds_each : (e : ℕ) (chief : Chief) → 0 < e → chief.last ≡ e → AreReminded e chief (posts_of 8 (reminds chief))
reminds_each e chief some last n lt down = by_last (eqb chief.last 0) refl
  where
    by_last : (b : Bool) → eqb chief.last 0 ≡ b → Contains (posts_of 8 (reminds chief)) (commit_of n e)
    by_last true at = absurd (let none : chief.last ≡ 0 = eqb-true chief.last 0 at in omega (arith, none, last, some))
    by_last false at =
        let off : get_or chief.finished n false ≡ false = sym (ap (λ (b : Bool). b || get_or chief.finished n false) at) ∙ down in
        subst (λ (b : Bool). Contains (posts_of 8 (if b then [] else to_unfinished chief.nodes chief.finished (Commit chief.last))) (commit_of n e)) (sym at)
        (subst (λ (k : ℕ). Contains (posts_of 8 (to_unfinished chief.nodes chief.finished (Commit k))) (commit_of n e)) (sym last) (unfinished_are e chief.finished chief.nodes n lt off))

module _ (e : ℕ) (chief : Chief) (sent sent_new : List Posted) (some : 0 < e) (last : chief.last ≡ e) (turns : ChiefTurns (reminds chief, chief) sent chief sent_new) where
  -- by letters that are new to the next round
  pub reminded_fresh : (fresh fresh_new : List Posted) → AreFresh sent fresh sent_new fresh_new → AreReminded e chief fresh_new
  reminded_fresh fresh fresh_new are n lt down =
      let same : are.posts ≡ posts_of 8 (reminds chief) = append_cancel_left sent are.posts (posts_of 8 (reminds chief)) (sym are.sent_is ∙ turns.sent_is) in
      subst (λ (ps : List Posted). Contains ps (commit_of n e)) (sym (are.fresh_is ∙ ap (λ (ps : List Posted). fresh ++ ps) same))
      (Contains-append_right fresh (posts_of 8 (reminds chief)) (commit_of n e) (reminds_each e chief some last n lt down))

  pub reminded_asks : (later : List Posted) → Adds (IsOfFinish e) sent_new later → AsksAll e chief sent later
  reminded_asks later says = record {
    posts = posts_of 8 (reminds chief) ++ says.posts;
    sent_is = says.sent_is ∙ ap (λ (ps : List Posted). ps ++ says.posts) turns.sent_is ∙ append_assoc sent (posts_of 8 (reminds chief)) says.posts;
    asked = λ n lt down. Contains-append_left (posts_of 8 (reminds chief)) says.posts (commit_of n e) (reminds_each e chief some last n lt down);
  }

-- a node that hasn't finished hadn't before
not_before : (a b : Chief) (n : ℕ) → ((k : ℕ) → has_finished k a ≡ true → has_finished k b ≡ true) → has_finished n b ≡ false → has_finished n a ≡ false
not_before a b n stays down = by_flag (has_finished n a ≡ false) (has_finished n a) (λ up. both_ways_up (sym (stays n up) ∙ down)) (λ is. is)
  where
    both_ways_up : ◌≡◌ {A = Bool} true false → has_finished n a ≡ false
    both_ways_up both = absurd cc

pub asks_later : (e : ℕ) (a b : Chief) (r s t : List Posted) → Adds (IsOfFinish e) r s → AsksAll e a s t → b.nodes ≡ a.nodes → ((k : ℕ) → has_finished k a ≡ true → has_finished k b ≡ true) → AsksAll e b r t
asks_later e a b r s t says asks nodes stays = record {
  posts = says.posts ++ asks.posts;
  sent_is = asks.sent_is ∙ ap (λ (ps : List Posted). ps ++ asks.posts) says.sent_is ∙ append_assoc r says.posts asks.posts;
  asked = λ n lt down. Contains-append_right says.posts asks.posts (commit_of n e) (asks.asked n (omega (arith, lt, nodes)) (not_before a b n stays down));
}

-- not all have finished where one hasn't
pub not_all : {X : Type 0} (chief : Chief) → OneHasNot chief → HaveAllFinished chief → X
not_all chief one all = absurd (let no : ◌≡◌ {A = Bool} true false = sym (all one.node one.within) ∙ one.yet in cc)

pub lost_more : (count f g h : ℕ) (chief chief_new : Chief) → OneHasNot chief → (f + count ≤ g + 1) ⊎ HaveAllFinished chief → UnlessFault g h (HaveAllFinished chief_new) → (f + (count + 1) ≤ h + 1) ⊎ HaveAllFinished chief_new
lost_more count f g h chief chief_new one (inr all) more = not_all chief one all
lost_more count f g h chief chief_new one (inl lost) (inr all) = inr all
lost_more count f g h chief chief_new one (inl lost) (inl more) = inl (omega (arith, lost, more))

-- after the first exchange, and those behind it
pub silent_so : (e : ℕ) (a b c : Chief) (r s t : List Posted) (given middle given_new : List Posted) (f g h : ℕ) → a.last ≡ e → Adds (IsOfFinish e) r s → UnlessFault f g (HaveAllFinished b) → HearsGiven b middle c given_new → HearsGiven a given c given_new
    → StaysSilent 15 e c s t g h → IsSilent e c r given t given_new f h
silent_so e a b c r s t given middle given_new f g h last says (inr all) second whole stays = not_all c stays.one (λ n lt. second.stays n (all n (omega (arith, lt, second.nodes))))
silent_so e a b c r s t given middle given_new f g h last says (inl lost) second whole stays = record {
  silent = record {
    one = stays.one;
    asks = asks_later e c c r s t says stays.asks refl (λ k up. up);
    lost = omega (arith, lost, stays.lost);
  };
  more = whole.more;
  given_is = whole.given_is;
  not_given = λ among.
      let within : stays.one.node < a.nodes = omega (arith, stays.one.within, whole.nodes) in
      let up : has_finished stays.one.node c ≡ true = whole.heard stays.one.node within (subst (λ (k : ℕ). Contains whole.more (finished_of stays.one.node k)) (sym last) among) in
      not_up c stays.one up;
}
  where
    not_up : (chief : Chief) (one : OneHasNot chief) → has_finished one.node chief ≡ true → ⊥
    not_up chief one up = let no : ◌≡◌ {A = Bool} true false = sym up ∙ one.yet in cc

pub all_or_silent : (all : Bool) (e : ℕ) (a b c : Chief) (r s t : List Posted) (given middle given_new : List Posted) (f g h : ℕ) → a.last ≡ e → Adds (IsOfFinish e) r s → UnlessFault f g (HaveAllFinished b) → HearsGiven b middle c given_new → HearsGiven a given c given_new
    → MatchBool all (HaveAllFinished c) (StaysSilent 15 e c s t g h) → MatchBool all (HaveAllFinished c) (IsSilent e c r given t given_new f h)
all_or_silent true e a b c r s t given middle given_new f g h last says ends second whole so = so
all_or_silent false e a b c r s t given middle given_new f g h last says ends second whole so = silent_so e a b c r s t given middle given_new f g h last says ends second whole so

pub hears_same : (chief : Chief) (given : List Posted) → HearsGiven chief given chief given
hears_same chief given = record {
  more = [];
  given_is = sym (append-nil given);
  nodes = refl;
  last = refl;
  committed = refl;
  current = refl;
  phase = λ _. refl;
  stays = λ n up. up;
  heard = λ n lt none. none_in (finished_of n chief.last) none;
  only = λ n up. inl up;
}

-- behind the last exchange
pub lost_all : (all : Bool) (e count : ℕ) (chief : Chief) (sent sent_new : List Posted) (f g : ℕ) → 16 ≤ count → (f + count ≤ g + 1) ⊎ HaveAllFinished chief → (1 < count → AsksAll e chief sent sent_new)
    → MatchBool all (HaveAllFinished chief) (OneHasNot chief) → MatchBool all (HaveAllFinished chief) (StaysSilent 15 e chief sent sent_new f g)
lost_all true e count chief sent sent_new f g most lost asks so = so
lost_all false e count chief sent sent_new f g most (inr all) asks so = not_all chief so all
lost_all false e count chief sent sent_new f g most (inl lost) asks so = record { one = so; asks = asks (omega (arith, most)); lost = omega (arith, lost, most) }

-- ---- behind a commit

none_up : (count n : ℕ) → get_or (replicate count false) n false ≡ false
none_up zero n = refl
none_up (suc count) zero = refl
none_up (suc count) (suc n) = none_up count n

pub none_finished : (e n : ℕ) (chief : Chief) → 0 < e → has_finished n (forced e chief).1 ≡ false
none_finished e n chief some = ap (λ (b : Bool). b || get_or (replicate chief.nodes false) n false) (ne_eqb e 0 (λ none. omega (arith, none, some))) ∙ none_up chief.nodes n

each_told : (m : Message) (count n : ℕ) → n < count → Contains (posts_of 8 (to_each count m)) (posted 8 n m)
each_told m zero n lt = absurd (omega (arith, lt))
each_told m (suc count) n lt =
    subst (λ (ps : List Posted). Contains ps (posted 8 n m)) (sym (posts_append 8 (to_each count m) (Send count m ∷ [])))
    (by_place (λ less. each_told m count n less) (eqb n count) refl)
  where
    by_place : (n < count → Contains (posts_of 8 (to_each count m)) (posted 8 n m)) → (b : Bool) → eqb n count ≡ b → Contains (posts_of 8 (to_each count m) ++ posted 8 count m ∷ []) (posted 8 n m)
    by_place before true at =
        Contains-append_right (posts_of 8 (to_each count m)) (posted 8 count m ∷ []) (posted 8 n m) (0, omega arith, ap (λ (k : ℕ). posted 8 k m) (sym (eqb-true n count at)))
    by_place before false at =
        let other : n ≢ count = eqb-false n count at in
        Contains-append_left (posts_of 8 (to_each count m)) (posted 8 count m ∷ []) (posted 8 n m) (before (omega (arith, lt, other)))

-- each node is told
pub committed_told : (e : ℕ) (chief chief_new : Chief) (sent fresh sent_new fresh_new : List Posted) → ChiefTurns (forced e chief) sent chief_new sent_new → AreFresh sent fresh sent_new fresh_new → AreReminded e chief_new fresh_new
committed_told e chief chief_new sent fresh sent_new fresh_new turns are n lt down =
    let posts : List Posted = posts_of 8 (to_each chief.nodes (Commit e)) in
    let same : are.posts ≡ posts_of 8 (to_each chief.nodes (Commit e)) = append_cancel_left sent are.posts (posts_of 8 (to_each chief.nodes (Commit e))) (sym are.sent_is ∙ turns.sent_is) in
    let nodes : chief_new.nodes ≡ chief.nodes = ap (λ (x : Chief). x.nodes) turns.chief_is in
    subst (λ (ps : List Posted). Contains ps (commit_of n e)) (sym (are.fresh_is ∙ ap (λ (ps : List Posted). fresh ++ ps) same))
    (Contains-append_right fresh posts (commit_of n e) (each_told (Commit e) chief.nodes n (omega (arith, lt, nodes))))
