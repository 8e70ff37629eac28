-- What places say: letters that only such are added to, and those of the coordinator's turns.
use Rattle.std.proofs.Common.{◌≡◌, ◌⊎◌, inl, inr, ℕ, ◌<◌, ◌≤◌, ◌^◌, Bool, true, List, [], ◌∷◌, ◌++◌, refl, sym, ap, subst, ◌∙◌, arith, append_assoc, append-nil}
use Rattle.std.specs.List.{Contains}
use Rattle.std.proofs.lemmas.List.Elements.{Contains-append_cases, Contains-append_left}
use Rattle.coco_msg.specs.declared.action.Action.{Action}
use Rattle.coco_msg.specs.declared.action.Action.TheVariants.{Send, Force, Promote, Revert}
use Rattle.coco_msg.specs.declared.message.Message.{Message}
use Rattle.coco_msg.specs.declared.message.Message.TheVariants.{Abort, Commit, Finished, Prepare, Query, Vote}
use Rattle.coco_msg.specs.Bytes.{bytes_of, epoch_of}
use Rattle.coco_net.specs.declared.letter.Letter.{Letter}
use Rattle.coco_net.specs.declared.letter.Posted.{Posted}
use Rattle.coco_chief.specs.Chief.{Chief}
use Rattle.coco_chief.specs.Table.{aborted, begun, forced, handled, reminds}
use Rattle.coco_letters.specs.Saying.{posted, posts_of, IsToSay}
use Rattle.coco_letters.specs.Taking.{ChiefTakes}
use Rattle.coco_letters.specs.Telling.{Adds, FinishedBelow, IsOfChief, IsOfFinish, IsOfNode, IsOfSettling, IsOfVote, VotesBelow}
use Rattle.coco_letters.specs.Turns.{ChiefHears, ChiefTurns}
use Rattle.coco_letters.proofs.SayingLemmas.{chief_for, each_for, nodes_stay, reminds_for, same_message, AreForNodes}
use Rattle.coco_letters.proofs.WorldLemmas.{contains_cases, one_is}

none_here : {X : Type 0} {Y : Type 0} (x : X) → Contains [] x → Y
none_here x h = absurd (omega (arith, h.1))

-- ---- lists that grow

module _ {Such : Posted → Type 0} where
  pub adds_none : (sent sent_new : List Posted) → sent_new ≡ sent → Adds Such sent sent_new
  adds_none sent sent_new is = record { posts = []; sent_is = is ∙ sym (append-nil sent); such = λ p none. none_here p none }

  pub adds_same : (sent : List Posted) → Adds Such sent sent
  adds_same sent = adds_none sent sent refl

  pub adds_one : (sent sent_new : List Posted) (p : Posted) → sent_new ≡ sent ++ p ∷ [] → Such p → Adds Such sent sent_new
  adds_one sent sent_new p is such = record { posts = p ∷ []; sent_is = is; such = λ q among. subst Such (one_is p q among) such }

  pub adds_then : (a b c : List Posted) → Adds Such a b → Adds Such b c → Adds Such a c
  adds_then a b c one two = record {
    posts = one.posts ++ two.posts;
    sent_is = two.sent_is ∙ ap (λ (ps : List Posted). ps ++ two.posts) one.sent_is ∙ append_assoc a one.posts two.posts;
    such = λ p among. elim (Contains-append_cases one.posts two.posts p among) [ inl first ↦ one.such p first | inr next ↦ two.such p next ];
  }

pub adds_more : {Such More : Posted → Type 0} (sent sent_new : List Posted) → ((p : Posted) → Such p → More p) → Adds Such sent sent_new → Adds More sent sent_new
adds_more sent sent_new more adds = record { posts = adds.posts; sent_is = adds.sent_is; such = λ p among. more p (adds.such p among) }

-- what was sent is sent still
pub adds_left : {Such : Posted → Type 0} (sent sent_new : List Posted) (p : Posted) → Adds Such sent sent_new → Contains sent p → Contains sent_new p
adds_left sent sent_new p adds among = subst (λ (ps : List Posted). Contains ps p) (sym adds.sent_is) (Contains-append_left sent adds.posts p among)

-- what the coordinator says is said in each phase
pub adds_vote : (epoch : ℕ) (sent sent_new : List Posted) → Adds IsOfChief sent sent_new → Adds (IsOfVote epoch) sent sent_new
adds_vote epoch sent sent_new adds = adds_more sent sent_new (λ p of. inl of) adds

pub adds_finish : (epoch : ℕ) (sent sent_new : List Posted) → Adds IsOfChief sent sent_new → Adds (IsOfFinish epoch) sent sent_new
adds_finish epoch sent sent_new adds = adds_more sent sent_new (λ p of. inl of) adds

-- what is said where an epoch is finished is where it is settled
pub adds_settling : (epoch : ℕ) (sent sent_new : List Posted) → Adds (IsOfFinish epoch) sent sent_new → Adds (IsOfSettling epoch) sent sent_new
adds_settling epoch sent sent_new adds = adds_more sent sent_new (λ p of. inl of) adds

-- ---- what the coordinator says

pub of_chief : (to : ℕ) (m : Message) → to < 8 → IsToSay m → IsOfChief (posted 8 to m)
of_chief to m lt say = record { to = lt; message = m; say = say; is = refl }

chief_posts : (actions : List Action) → AreForNodes actions → (p : Posted) → Contains (posts_of 8 actions) p → IsOfChief p
chief_posts [] all p among = none_here p among
chief_posts (Send to m ∷ actions) all p among = elim (contains_cases (posted 8 to m) p (posts_of 8 actions) among) [
  | inl here ↦ subst IsOfChief here (of_chief to m all.0 all.1)
  | inr behind ↦ chief_posts actions all.2 p behind
]
chief_posts (Force e ∷ actions) all p among = chief_posts actions all p among
chief_posts (Promote e ∷ actions) all p among = chief_posts actions all p among
chief_posts (Revert e ∷ actions) all p among = chief_posts actions all p among

chief_adds : (actions : List Action) (sent sent_new : List Posted) → AreForNodes actions → sent_new ≡ sent ++ posts_of 8 actions → Adds IsOfChief sent sent_new
chief_adds actions sent sent_new all is = record { posts = posts_of 8 actions; sent_is = is; such = chief_posts actions all }

-- at a letter, and at many
pub hears_says : (letter : Letter) (chief next : Chief) (sent said : List Posted) → chief.nodes ≤ 8 → ChiefHears letter chief sent next said → Adds IsOfChief sent said
hears_says letter chief next sent said few hears = elim hears.either [
  | inl such ↦ chief_adds (handled letter.from such.0 chief).0 sent said (chief_for letter.from such.0 chief few such.1.say) (hears.takes such.0 such.1).1
  | inr none ↦ adds_none sent said (hears.drops (λ m from. none m from from.say.commit)).1
]

pub hears_nodes : (letter : Letter) (chief next : Chief) (sent said : List Posted) → ChiefHears letter chief sent next said → next.nodes ≡ chief.nodes
hears_nodes letter chief next sent said hears = elim hears.either [
  | inl such ↦ ap (λ (c : Chief). c.nodes) (hears.takes such.0 such.1).0 ∙ nodes_stay letter.from such.0 chief
  | inr none ↦ ap (λ (c : Chief). c.nodes) (hears.drops (λ m from. none m from from.say.commit)).0
]

pub takes_says : (letters : List Letter) (a c : Chief) (sent said : List Posted) → a.nodes ≤ 8 → ChiefTakes letters a sent c said → Adds IsOfChief sent said
takes_says [] a c sent said few takes = adds_none sent said takes.1
takes_says (letter ∷ letters) a c sent said few (b, middle, hears, rest) =
    let same : b.nodes ≡ a.nodes = hears_nodes letter a b sent middle hears in
    adds_then sent middle said (hears_says letter a b sent middle few hears) (takes_says letters b c middle said (omega (arith, same, few)) rest)

-- and in the turns that it takes of itself
module _ (chief chief_new : Chief) (sent sent_new : List Posted) (few : chief.nodes ≤ 8) where
  pub begun_says : (epoch : ℕ) → epoch < 2 ^ 64 → ChiefTurns (begun epoch chief) sent chief_new sent_new → Adds IsOfChief sent sent_new
  begun_says epoch fits turns = chief_adds (begun epoch chief).0 sent sent_new (each_for chief.nodes (Prepare epoch) few (record { is = fits; commit = refl })) turns.sent_is

  pub forced_says : (epoch : ℕ) → epoch < 2 ^ 64 → ChiefTurns (forced epoch chief) sent chief_new sent_new → Adds IsOfChief sent sent_new
  forced_says epoch fits turns = chief_adds (forced epoch chief).0 sent sent_new (each_for chief.nodes (Commit epoch) few (record { is = fits; commit = refl })) turns.sent_is

  pub aborted_says : chief.current < 2 ^ 64 → ChiefTurns (aborted chief) sent chief_new sent_new → Adds IsOfChief sent sent_new
  aborted_says fits turns = chief_adds (aborted chief).0 sent sent_new (each_for chief.nodes (Abort chief.current) few (record { is = fits; commit = refl })) turns.sent_is

  pub reminds_says : chief.last < 2 ^ 64 → ChiefTurns (reminds chief, chief) sent chief_new sent_new → Adds IsOfChief sent sent_new
  reminds_says fits turns = chief_adds (reminds chief) sent sent_new (reminds_for chief few fits) turns.sent_is

-- ---- votes and words of nodes that have finished stay below

-- a letter to a node is none to the coordinator
pub not_chief : {X : Type 0} (n : ℕ) (m : Message) → IsOfChief (posted n 8 m) → X
not_chief n m of = absurd (let lt : 8 < 8 = of.to in omega (arith, lt))

head_is : (x y : ℕ) (xs ys : List ℕ) → ◌≡◌ {A = List ℕ} (x ∷ xs) (y ∷ ys) → x ≡ y
head_is x y xs ys is = cc

same_bytes : (n : ℕ) (m k : Message) → IsOfNode k (posted n 8 m) → bytes_of m ≡ bytes_of k
same_bytes n m k of = ap (λ (p : Posted). p.letter.bytes) of.is

vote_is : (n e epoch : ℕ) (vote : Bool) → e < 2 ^ 64 → epoch < 2 ^ 64 → IsOfVote epoch (posted n 8 (Vote e vote)) → e ≡ epoch
vote_is n e epoch vote fits fit (inl of) = not_chief n (Vote e vote) of
vote_is n e epoch vote fits fit (inr (inl of)) = ap (λ (m : Message). epoch_of m) (same_message (Vote e vote) (Vote epoch true) fits fit (same_bytes n (Vote e vote) (Vote epoch true) of))
vote_is n e epoch vote fits fit (inr (inr of)) = absurd (let is : 6 ≡ 10 = head_is 6 10 _ _ (same_bytes n (Vote e vote) (Query epoch) of) in omega (arith, is))

no_vote : {X : Type 0} (n e epoch : ℕ) (vote : Bool) → IsOfSettling epoch (posted n 8 (Vote e vote)) → X
no_vote n e epoch vote (inl (inl of)) = not_chief n (Vote e vote) of
no_vote n e epoch vote (inl (inr of)) = absurd (let is : 6 ≡ 8 = head_is 6 8 _ _ (same_bytes n (Vote e vote) (Finished epoch) of) in omega (arith, is))
no_vote n e epoch vote (inr of) = absurd (let is : 6 ≡ 10 = head_is 6 10 _ _ (same_bytes n (Vote e vote) (Query epoch) of) in omega (arith, is))

finished_is : (n e epoch : ℕ) → e < 2 ^ 64 → epoch < 2 ^ 64 → IsOfSettling epoch (posted n 8 (Finished e)) → e ≡ epoch
finished_is n e epoch fits fit (inl (inl of)) = not_chief n (Finished e) of
finished_is n e epoch fits fit (inl (inr of)) = ap (λ (m : Message). epoch_of m) (same_message (Finished e) (Finished epoch) fits fit (same_bytes n (Finished e) (Finished epoch) of))
finished_is n e epoch fits fit (inr of) = absurd (let is : 8 ≡ 10 = head_is 8 10 _ _ (same_bytes n (Finished e) (Query epoch) of) in omega (arith, is))

not_finished : {X : Type 0} (n e epoch : ℕ) → IsOfVote epoch (posted n 8 (Finished e)) → X
not_finished n e epoch (inl of) = not_chief n (Finished e) of
not_finished n e epoch (inr (inl of)) = absurd (let is : 8 ≡ 6 = head_is 8 6 _ _ (same_bytes n (Finished e) (Vote epoch true) of) in omega (arith, is))
not_finished n e epoch (inr (inr of)) = absurd (let is : 8 ≡ 10 = head_is 8 10 _ _ (same_bytes n (Finished e) (Query epoch) of) in omega (arith, is))

-- what is told as sent was before, or is of those added
pub adds_cases : {Such : Posted → Type 0} (sent sent_new : List Posted) (p : Posted) → Adds Such sent sent_new → Contains sent_new p → Contains sent p ⊎ Such p
adds_cases sent sent_new p adds among = elim (Contains-append_cases sent adds.posts p (subst (λ (ps : List Posted). Contains ps p) adds.sent_is among)) [
  | inl old ↦ inl old
  | inr new ↦ inr (adds.such p new)
]

pub votes_by_vote : (next epoch : ℕ) (sent sent_new : List Posted) → VotesBelow next sent → Adds (IsOfVote epoch) sent sent_new → epoch < next → VotesBelow next sent_new
votes_by_vote next epoch sent sent_new below adds lt n e vote le fits among = elim (adds_cases sent sent_new (posted n 8 (Vote e vote)) adds among) [
  | inl old ↦ below n e vote le fits old
  | inr new ↦ (let is : e ≡ epoch = vote_is n e epoch vote fits (omega (arith, lt, le, fits)) new in omega (arith, is, lt, le))
]

pub votes_by_settling : (next epoch : ℕ) (sent sent_new : List Posted) → VotesBelow next sent → Adds (IsOfSettling epoch) sent sent_new → VotesBelow next sent_new
votes_by_settling next epoch sent sent_new below adds n e vote le fits among = elim (adds_cases sent sent_new (posted n 8 (Vote e vote)) adds among) [
  | inl old ↦ below n e vote le fits old
  | inr new ↦ no_vote n e epoch vote new
]

pub votes_by_finish : (next epoch : ℕ) (sent sent_new : List Posted) → VotesBelow next sent → Adds (IsOfFinish epoch) sent sent_new → VotesBelow next sent_new
votes_by_finish next epoch sent sent_new below adds = votes_by_settling next epoch sent sent_new below (adds_settling epoch sent sent_new adds)

pub votes_by_chief : (next : ℕ) (sent sent_new : List Posted) → VotesBelow next sent → Adds IsOfChief sent sent_new → VotesBelow next sent_new
votes_by_chief next sent sent_new below adds n e vote le fits among = elim (adds_cases sent sent_new (posted n 8 (Vote e vote)) adds among) [
  | inl old ↦ below n e vote le fits old
  | inr new ↦ not_chief n (Vote e vote) new
]

pub finished_by_vote : (next epoch : ℕ) (sent sent_new : List Posted) → FinishedBelow next sent → Adds (IsOfVote epoch) sent sent_new → FinishedBelow next sent_new
finished_by_vote next epoch sent sent_new below adds n e le fits among = elim (adds_cases sent sent_new (posted n 8 (Finished e)) adds among) [
  | inl old ↦ below n e le fits old
  | inr new ↦ not_finished n e epoch new
]

pub finished_by_settling : (next epoch : ℕ) (sent sent_new : List Posted) → FinishedBelow next sent → Adds (IsOfSettling epoch) sent sent_new → epoch < next → FinishedBelow next sent_new
finished_by_settling next epoch sent sent_new below adds lt n e le fits among = elim (adds_cases sent sent_new (posted n 8 (Finished e)) adds among) [
  | inl old ↦ below n e le fits old
  | inr new ↦ (let is : e ≡ epoch = finished_is n e epoch fits (omega (arith, lt, le, fits)) new in omega (arith, is, lt, le))
]

pub finished_by_finish : (next epoch : ℕ) (sent sent_new : List Posted) → FinishedBelow next sent → Adds (IsOfFinish epoch) sent sent_new → epoch < next → FinishedBelow next sent_new
finished_by_finish next epoch sent sent_new below adds = finished_by_settling next epoch sent sent_new below (adds_settling epoch sent sent_new adds)

pub finished_by_chief : (next : ℕ) (sent sent_new : List Posted) → FinishedBelow next sent → Adds IsOfChief sent sent_new → FinishedBelow next sent_new
finished_by_chief next sent sent_new below adds n e le fits among = elim (adds_cases sent sent_new (posted n 8 (Finished e)) adds among) [
  | inl old ↦ below n e le fits old
  | inr new ↦ not_chief n (Finished e) new
]

-- they stay below a greater number
pub votes_weaker : (next later : ℕ) (sent : List Posted) → next ≤ later → VotesBelow next sent → VotesBelow later sent
votes_weaker next later sent le below n e vote low fits among = below n e vote (omega (arith, le, low)) fits among

pub finished_weaker : (next later : ℕ) (sent : List Posted) → next ≤ later → FinishedBelow next sent → FinishedBelow later sent
finished_weaker next later sent le below n e low fits among = below n e (omega (arith, le, low)) fits among
