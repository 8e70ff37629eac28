-- Messages that places say, and the letters that they are.
use Rattle.std.proofs.Common.{◌≡◌, ℕ, zero, suc, ◌+◌, ◌<◌, ◌≤◌, ◌^◌, Bool, true, false, eqb, ltb, List, [], ◌∷◌, ◌++◌, length, take, drop, get_or, Result, Ok, refl, sym, ap, subst, ◌∙◌, arith, append_assoc, ◌⊎◌, inl, inr, Err, append-nil}
use Rattle.std.specs.Prelude.{⊤, ◌&&◌, ◌||◌, if◌then◌else◌, slice_index_or, slice_set}
use Rattle.std.specs.List.{list_all, Contains}
use Rattle.std.proofs.lemmas.Bool.{and_parts, eqb-true, ltb-true}
use Rattle.std.proofs.lemmas.List.{take_more, take_all, take-append-drop}
use Rattle.coco_msg.specs.declared.action.Action.{Action}
use Rattle.coco_msg.specs.declared.action.Action.TheVariants.{Send, Force, Promote, Revert}
use Rattle.coco_msg.specs.declared.message.Message.{Message}
use Rattle.coco_msg.specs.declared.message.Message.TheVariants.{Ship, Total, Missing, All, Prepare, Vote, Commit, Finished, Abort, Query, Tell}
use Rattle.coco_msg.specs.Bytes.{bytes_of, epoch_of, HasBytes, IsMessage}
use Rattle.coco_msg.proofs.MessageLemmas.{message_again}
use Rattle.coco_net.specs.declared.letter.Posted.{Posted}
use Rattle.coco_node.specs.Node.{Node, is_committed, is_unknown}
use Rattle.coco_node.specs.Table as nodes
use Rattle.coco_chief.specs.Chief.{Chief}
use Rattle.coco_chief.specs.Table as chiefs
use Rattle.coco_world.proofs.Tools.{by_test}
use Rattle.coco_world.specs.World.{Letter, Among, sent}
use Rattle.coco_letters.specs.Saying.{posted, posts_of, AreToSay, IsToSay, is_of_commit}

-- ---- messages

same_ok : {E : Type 0} (a b : Message) → ◌≡◌ {A = Result Message E} (Ok a) (Ok b) → a ≡ b
same_ok a b is = cc

-- the bytes of messages tell them apart
pub same_message : (a b : Message) → IsMessage a → IsMessage b → bytes_of a ≡ bytes_of b → a ≡ b
same_message a b is_a is_b same = same_ok a b (sym (message_again (bytes_of a) a is_a refl) ∙ message_again (bytes_of a) b is_b same)

not_true : {X : Type 0} → false ≡ true → X
not_true h = absurd cc

pub has_bytes : (m : Message) → IsToSay m → HasBytes m
has_bytes (Ship e p place time writes) say = not_true say.commit
has_bytes (Total e p places) say = not_true say.commit
has_bytes (Missing e p places) say = not_true say.commit
has_bytes (All e p) say = tt
has_bytes (Prepare e) say = tt
has_bytes (Vote e vote) say = tt
has_bytes (Commit e) say = tt
has_bytes (Finished e) say = tt
has_bytes (Abort e) say = tt
has_bytes (Query e) say = tt
has_bytes (Tell e committed) say = tt

-- its epoch is a number of 64 bits
epoch_fits : (m : Message) → IsToSay m → epoch_of m < 2 ^ 64
epoch_fits (Ship e p place time writes) say = not_true say.commit
epoch_fits (Total e p places) say = not_true say.commit
epoch_fits (Missing e p places) say = not_true say.commit
epoch_fits (All e p) say = not_true say.commit
epoch_fits (Prepare e) say = say.is
epoch_fits (Vote e vote) say = say.is
epoch_fits (Commit e) say = say.is
epoch_fits (Finished e) say = say.is
epoch_fits (Abort e) say = say.is
epoch_fits (Query e) say = say.is
epoch_fits (Tell e committed) say = say.is

-- ---- letters of actions

pub posts_append : (from : ℕ) (xs ys : List Action) → posts_of from (xs ++ ys) ≡ posts_of from xs ++ posts_of from ys
posts_append from [] ys = refl
posts_append from (Send to m ∷ xs) ys = ap (λ ps. posted from to m ∷ ps) (posts_append from xs ys)
posts_append from (Force e ∷ xs) ys = posts_append from xs ys
posts_append from (Promote e ∷ xs) ys = posts_append from xs ys
posts_append from (Revert e ∷ xs) ys = posts_append from xs ys

-- one action more
pub posts_more : (from : ℕ) (actions : List Action) (i : ℕ) (a : Action) (before old new : List Posted) → i < length actions → a ≡ get_or actions i a → old ≡ before ++ posts_of from (take i actions) → new ≡ old ++ posts_of from (a ∷ [])
    → new ≡ before ++ posts_of from (take (i + 1) actions)
posts_more from actions i a before old new lt is was now =
    now ∙ ap (λ ps. ps ++ posts_of from (a ∷ [])) was ∙ append_assoc before (posts_of from (take i actions)) (posts_of from (a ∷ []))
    ∙ ap (λ (b : Action). before ++ (posts_of from (take i actions) ++ posts_of from (b ∷ []))) is
    ∙ ap (λ ps. before ++ ps) (sym (posts_append from (take i actions) (get_or actions i a ∷ [])) ∙ ap (posts_of from) (sym (take_more actions i a lt)))

-- all of them
pub posts_all : (from : ℕ) (actions : List Action) (i : ℕ) (before new : List Posted) → length actions ≤ i → new ≡ before ++ posts_of from (take i actions) → new ≡ before ++ posts_of from actions
posts_all from actions i before new le is = is ∙ ap (λ more. before ++ posts_of from more) (take_all i actions le)

-- the first of them
pub posts_first : (from : ℕ) (actions : List Action) (i : ℕ) → posts_of from (take i actions) ++ posts_of from (drop i actions) ≡ posts_of from actions
posts_first from actions i = sym (posts_append from (take i actions) (drop i actions)) ∙ ap (posts_of from) (take-append-drop i actions)

say_append : (xs ys : List Action) → AreToSay xs → AreToSay ys → AreToSay (xs ++ ys)
say_append [] ys first next = next
say_append (Send to m ∷ xs) ys first next = (first.0, first.1, say_append xs ys first.2 next)
say_append (Force e ∷ xs) ys first next = say_append xs ys first next
say_append (Promote e ∷ xs) ys first next = say_append xs ys first next
say_append (Revert e ∷ xs) ys first next = say_append xs ys first next

one_to_say : (a : Action) (more : List Action) → AreToSay (a ∷ more) → AreToSay (a ∷ []) × AreToSay more
one_to_say (Send to m) more all = ((all.0, all.1, tt), all.2)
one_to_say (Force e) more all = (tt, all)
one_to_say (Promote e) more all = (tt, all)
one_to_say (Revert e) more all = (tt, all)

-- each of them may be said
pub say_at : (actions : List Action) (i : ℕ) (a : Action) → AreToSay actions → i < length actions → a ≡ get_or actions i a → AreToSay (a ∷ [])
say_at actions i a all lt is = subst (λ (b : Action). AreToSay (b ∷ [])) (sym is) (at actions i a all lt)
  where
    at : (actions : List Action) (i : ℕ) (d : Action) → AreToSay actions → i < length actions → AreToSay (get_or actions i d ∷ [])
    at [] i d all lt = absurd (omega arith)
    at (x ∷ xs) zero d all lt = (one_to_say x xs all).0
    at (x ∷ xs) (suc i) d all lt = at xs i d (one_to_say x xs all).1 (omega arith)

-- ---- what a node says

pub vote_says : (vote : Bool) (e : ℕ) → e < 2 ^ 64 → AreToSay (nodes.votes vote e ∷ [])
vote_says vote e fits = (omega arith, record { is = fits; commit = refl }, tt)

finished_says : (e : ℕ) → e < 2 ^ 64 → AreToSay (nodes.has_finished e ∷ [])
finished_says e fits = (omega arith, record { is = fits; commit = refl }, tt)

prepare_says : (e : ℕ) (core : Node) → e < 2 ^ 64 → AreToSay (nodes.on_prepare e core).0
prepare_says e core fits =
    by_test (λ (turn : nodes.Turn). AreToSay turn.0) (eqb e core.lost) _ _ (λ _. vote_says false e fits)
    (λ _. by_test (λ (turn : nodes.Turn). AreToSay turn.0) (ltb core.durable e && ltb core.forcing e && ltb core.lost e) _ _ (λ _. tt)
    (λ _. by_test (λ (turn : nodes.Turn). AreToSay turn.0) (nodes.awaits e core) _ _ (λ _. vote_says true e fits) (λ _. tt)))

committed_says : (e : ℕ) (core : Node) → e < 2 ^ 64 → AreToSay (nodes.on_committed e core).0
committed_says e core fits =
    by_test (λ (turn : nodes.Turn). AreToSay turn.0) (nodes.awaits e core) _ _ (λ _. finished_says e fits)
    (λ _. by_test (λ (turn : nodes.Turn). AreToSay turn.0) (ltb e core.durable || (eqb e core.durable && is_committed core.decision)) _ _ (λ _. finished_says e fits) (λ _. tt))

aborted_says : (e : ℕ) (core : Node) → AreToSay (nodes.on_aborted e core).0
aborted_says e core = by_test (λ (turn : nodes.Turn). AreToSay turn.0) (nodes.awaits e core) _ _ (λ _. tt) (λ _. tt)

abort_says : (e : ℕ) (core : Node) → AreToSay (nodes.on_abort e core).0
abort_says e core =
    by_test (λ (turn : nodes.Turn). AreToSay turn.0) (nodes.awaits e core) _ _ (λ _. tt)
    (λ _. by_test (λ (turn : nodes.Turn). AreToSay turn.0) (eqb e core.forcing) _ _ (λ _. tt) (λ _. tt))

message_says : (m : Message) (core : Node) → epoch_of m < 2 ^ 64 → AreToSay (nodes.on_message m core).0
message_says (Prepare e) core fits = prepare_says e core fits
message_says (Commit e) core fits = committed_says e core fits
message_says (Tell e true) core fits = committed_says e core fits
message_says (Tell e false) core fits = aborted_says e core
message_says (Abort e) core fits = abort_says e core
message_says (Ship e p place time writes) core fits = tt
message_says (Total e p places) core fits = tt
message_says (Missing e p places) core fits = tt
message_says (All e p) core fits = tt
message_says (Vote e vote) core fits = tt
message_says (Finished e) core fits = tt
message_says (Query e) core fits = tt

pub node_says : (from : ℕ) (m : Message) (core : Node) → IsToSay m → AreToSay (nodes.handled from m core).0
node_says from m core say =
    by_test (λ (turn : nodes.Turn). AreToSay turn.0) (eqb from 8 && ltb 0 (epoch_of m)) _ _ (λ _. message_says m core (epoch_fits m say)) (λ _. tt)

pub asks_says : (core : Node) → core.durable < 2 ^ 64 → AreToSay (nodes.asks core)
asks_says core fits =
    by_test AreToSay (ltb 0 core.durable && is_unknown core.decision) (Send 8 (Query core.durable) ∷ []) [] (λ _. (omega arith, record { is = fits; commit = refl }, tt)) (λ _. tt)

-- ---- what the coordinator says

-- what its actions send are messages of a commit to nodes
abbrev pub AreForNodes : List Action → Type 0
AreForNodes [] = ⊤
AreForNodes (Send to m ∷ actions) = (to < 8) × IsToSay m × AreForNodes actions
AreForNodes (Force e ∷ actions) = AreForNodes actions
AreForNodes (Promote e ∷ actions) = AreForNodes actions
AreForNodes (Revert e ∷ actions) = AreForNodes actions

for_nodes : (actions : List Action) → AreForNodes actions → AreToSay actions
for_nodes [] all = tt
for_nodes (Send to m ∷ actions) all = (let lt : to < 8 = all.0 in omega (arith, lt), all.1, for_nodes actions all.2)
for_nodes (Force e ∷ actions) all = for_nodes actions all
for_nodes (Promote e ∷ actions) all = for_nodes actions all
for_nodes (Revert e ∷ actions) all = for_nodes actions all

for_append : (xs ys : List Action) → AreForNodes xs → AreForNodes ys → AreForNodes (xs ++ ys)
for_append [] ys first next = next
for_append (Send to m ∷ xs) ys first next = (first.0, first.1, for_append xs ys first.2 next)
for_append (Force e ∷ xs) ys first next = for_append xs ys first next
for_append (Promote e ∷ xs) ys first next = for_append xs ys first next
for_append (Revert e ∷ xs) ys first next = for_append xs ys first next

pub each_for : (n : ℕ) (m : Message) → n ≤ 8 → IsToSay m → AreForNodes (chiefs.to_each n m)
each_for zero m le say = tt
each_for (suc n) m le say = for_append (chiefs.to_each n m) (Send n m ∷ []) (each_for n m (omega arith) say) (omega arith, say, tt)

pub each_says : (n : ℕ) (m : Message) → n ≤ 8 → IsToSay m → AreToSay (chiefs.to_each n m)
each_says n m le say = for_nodes (chiefs.to_each n m) (each_for n m le say)

unfinished_for : (n : ℕ) (finished : List Bool) (m : Message) → n ≤ 8 → IsToSay m → AreForNodes (chiefs.to_unfinished n finished m)
unfinished_for zero finished m le say = tt
unfinished_for (suc n) finished m le say =
    for_append (chiefs.to_unfinished n finished m) (if slice_index_or finished n false then [] else Send n m ∷ []) (unfinished_for n finished m (omega arith) say)
    (by_test AreForNodes (slice_index_or finished n false) [] (Send n m ∷ []) (λ _. tt) (λ _. (omega arith, say, tt)))

pub reminds_for : (core : Chief) → core.nodes ≤ 8 → core.last < 2 ^ 64 → AreForNodes (chiefs.reminds core)
reminds_for core few fits =
    by_test AreForNodes (eqb core.last 0) [] (chiefs.to_unfinished core.nodes core.finished (Commit core.last)) (λ _. tt)
    (λ _. unfinished_for core.nodes core.finished (Commit core.last) few (record { is = fits; commit = refl }))

pub reminds_says : (core : Chief) → core.nodes ≤ 8 → core.last < 2 ^ 64 → AreToSay (chiefs.reminds core)
reminds_says core few fits = for_nodes (chiefs.reminds core) (reminds_for core few fits)

counts_for : (voted : List Bool) (core : Chief) → AreForNodes (chiefs.counts voted core).0
counts_for voted core = by_test (λ (turn : chiefs.Turn). AreForNodes turn.0) (list_all (λ counted. counted) voted) _ _ (λ _. tt) (λ _. tt)

on_vote_for : (from e : ℕ) (vote : Bool) (core : Chief) → core.nodes ≤ 8 → e < 2 ^ 64 → AreForNodes (chiefs.on_vote from e vote core).0
on_vote_for from e vote core few fits =
    by_test (λ (turn : chiefs.Turn). AreForNodes turn.0) (eqb e core.current && chiefs.is_voting core.phase) _ _
    (λ both. by_test (λ (turn : chiefs.Turn). AreForNodes turn.0) vote _ _ (λ _. counts_for (slice_set core.voted from true) core)
    (λ _. let same : e ≡ core.current = eqb-true e core.current (and_parts (eqb e core.current) (chiefs.is_voting core.phase) both).0 in
    each_for core.nodes (Abort core.current) few (record { is = omega (arith, same, fits); commit = refl })))
    (λ _. tt)

on_finished_for : (from e : ℕ) (core : Chief) → AreForNodes (chiefs.on_finished from e core).0
on_finished_for from e core = by_test (λ (turn : chiefs.Turn). AreForNodes turn.0) (eqb e core.last) _ _ (λ _. tt) (λ _. tt)

on_query_for : (from e : ℕ) (core : Chief) → from < 8 → e < 2 ^ 64 → AreForNodes (chiefs.on_query from e core).0
on_query_for from e core lt fits =
    by_test (λ (turn : chiefs.Turn). AreForNodes turn.0) (core.committed e) _ _ (λ _. (lt, record { is = fits; commit = refl }, tt))
    (λ _. by_test (λ (turn : chiefs.Turn). AreForNodes turn.0) (eqb e core.current && chiefs.is_open core.phase) _ _ (λ _. tt) (λ _. (lt, record { is = fits; commit = refl }, tt)))

chief_message_for : (from : ℕ) (m : Message) (core : Chief) → from < 8 → core.nodes ≤ 8 → epoch_of m < 2 ^ 64 → AreForNodes (chiefs.on_message from m core).0
chief_message_for from (Vote e vote) core lt few fits = on_vote_for from e vote core few fits
chief_message_for from (Finished e) core lt few fits = on_finished_for from e core
chief_message_for from (Query e) core lt few fits = on_query_for from e core lt fits
chief_message_for from (Ship e p place time writes) core lt few fits = tt
chief_message_for from (Total e p places) core lt few fits = tt
chief_message_for from (Missing e p places) core lt few fits = tt
chief_message_for from (All e p) core lt few fits = tt
chief_message_for from (Prepare e) core lt few fits = tt
chief_message_for from (Commit e) core lt few fits = tt
chief_message_for from (Abort e) core lt few fits = tt
chief_message_for from (Tell e committed) core lt few fits = tt

pub chief_for : (from : ℕ) (m : Message) (core : Chief) → core.nodes ≤ 8 → IsToSay m → AreForNodes (chiefs.handled from m core).0
chief_for from m core few say =
    by_test (λ (turn : chiefs.Turn). AreForNodes turn.0) (ltb from core.nodes && ltb 0 (epoch_of m)) _ _
    (λ both. let lt : from < core.nodes = ltb-true from core.nodes (and_parts (ltb from core.nodes) (ltb 0 (epoch_of m)) both).0 in chief_message_for from m core (omega (arith, lt, few)) few (epoch_fits m say))
    (λ _. tt)

pub chief_says : (from : ℕ) (m : Message) (core : Chief) → core.nodes ≤ 8 → IsToSay m → AreToSay (chiefs.handled from m core).0
chief_says from m core few say = for_nodes (chiefs.handled from m core).0 (chief_for from m core few say)

-- the coordinator's nodes stay as many
pub nodes_stay : (from : ℕ) (m : Message) (core : Chief) → (chiefs.handled from m core).1.nodes ≡ core.nodes
nodes_stay from m core = by_test (λ (turn : chiefs.Turn). turn.1.nodes ≡ core.nodes) (ltb from core.nodes && ltb 0 (epoch_of m)) _ _ (λ _. by_message m) (λ _. refl)
  where
    by_message : (m : Message) → (chiefs.on_message from m core).1.nodes ≡ core.nodes
    by_message (Vote e vote) =
        by_test (λ (turn : chiefs.Turn). turn.1.nodes ≡ core.nodes) (eqb e core.current && chiefs.is_voting core.phase) _ _
        (λ _. by_test (λ (turn : chiefs.Turn). turn.1.nodes ≡ core.nodes) vote _ _
        (λ _. by_test (λ (turn : chiefs.Turn). turn.1.nodes ≡ core.nodes) (list_all (λ counted. counted) (slice_set core.voted from true)) _ _ (λ _. refl) (λ _. refl)) (λ _. refl))
        (λ _. refl)
    by_message (Finished e) = by_test (λ (turn : chiefs.Turn). turn.1.nodes ≡ core.nodes) (eqb e core.last) _ _ (λ _. refl) (λ _. refl)
    by_message (Query e) =
        by_test (λ (turn : chiefs.Turn). turn.1.nodes ≡ core.nodes) (core.committed e) _ _ (λ _. refl)
        (λ _. by_test (λ (turn : chiefs.Turn). turn.1.nodes ≡ core.nodes) (eqb e core.current && chiefs.is_open core.phase) _ _ (λ _. refl) (λ _. refl))
    by_message (Ship e p place time writes) = refl
    by_message (Total e p places) = refl
    by_message (Missing e p places) = refl
    by_message (All e p) = refl
    by_message (Prepare e) = refl
    by_message (Commit e) = refl
    by_message (Abort e) = refl
    by_message (Tell e committed) = refl
