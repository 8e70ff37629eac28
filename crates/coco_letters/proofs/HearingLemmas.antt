-- What places hear in letters, and what they do then.
use Rattle.std.proofs.Common.{◌≡◌, inl, inr, ℕ, ◌<◌, true, List, [], ◌++◌, length, get_or, Option, Some, None, Result, Ok, Err, sym, ap, subst, ◌∙◌, append-nil}
use Rattle.std.specs.Prelude.{IfSome, OnOk}
use Rattle.std.specs.List.{Contains}
use Rattle.std.proofs.Math.ListN.{set}
use Rattle.std.proofs.lemmas.Option.{slice_get-get_or}
use Rattle.coco_msg.specs.declared.action.Action.{Action}
use Rattle.coco_msg.specs.declared.message.Message.{Message}
use Rattle.coco_msg.specs.Bytes.{bytes_of}
use Rattle.coco_net.specs.declared.letter.Letter.{Letter}
use Rattle.coco_net.specs.declared.letter.Posted.{Posted}
use Rattle.coco_node.specs.Node.{Node}
use Rattle.coco_node.specs.Table as nodes
use Rattle.coco_chief.specs.Chief.{Chief}
use Rattle.coco_chief.specs.Table.{handled}
use Rattle.coco_letters.specs.declared.hearing.Phase.{Phase}
use Rattle.coco_letters.specs.Saying.{posted, posts_of, AreToSay, IsToSay}
use Rattle.coco_letters.specs.Turns.{is_awaited, AreFresh, ChiefHears, Counts, Hears, IsFrom, NodeAsks, NodeTurns, Takes}
use Rattle.coco_letters.proofs.SayingLemmas.{node_says, same_message}

none_some : {X : Type 0} (x : X) → ◌≡◌ {A = Option X} None (Some x) → ⊥
none_some x is = cc

-- what is heard in a letter
pub heard_awaited : (phase : Phase) (e : ℕ) (letter : Letter) (o : Option Message) (m : Message) → o ≡ Some m → IfSome o (λ k. IsFrom 8 letter k × (is_awaited phase e k ≡ true)) → IsFrom 8 letter m × (is_awaited phase e m ≡ true)
heard_awaited phase e letter o m is found = subst (λ (x : Option Message). IfSome x (λ k. IsFrom 8 letter k × (is_awaited phase e k ≡ true))) is found

pub heard_from : (letter : Letter) (o : Option Message) (m : Message) → o ≡ Some m → IfSome o (λ k. IsToSay k × (letter.bytes ≡ bytes_of k)) → IsFrom letter.from letter m
heard_from letter o m is found =
    let says : IsToSay m × (letter.bytes ≡ bytes_of m) = subst (λ (x : Option Message). IfSome x (λ k. IsToSay k × (letter.bytes ≡ bytes_of k))) is found in
    record { from = λ i. letter.from; say = says.0; bytes = says.1 }

-- a letter is one message at most
pub same_heard : (place : ℕ) (letter : Letter) (a b : Message) → IsFrom place letter a → IsFrom place letter b → a ≡ b
same_heard place letter a b is_a is_b = same_message a b is_a.say.is is_b.say.is (sym is_a.bytes ∙ is_b.bytes)

-- a letter that was sent is that message
pub posted_is : (place to : ℕ) (letter : Letter) (m : Message) (sent : List Posted) → IsFrom place letter m → Contains sent (record { to = to; letter = letter }) → Contains sent (posted place to m)
posted_is place to letter m sent is there =
    let same : ◌≡◌ {A = Posted} (record { to = to; letter = letter }) (posted place to m) = λ i. record { to = to; letter = record { from = is.from i; bytes = is.bytes i } } in
    subst (Contains sent) same there

-- what a core does that stands at a place of a list
module _ (n : ℕ) (m : Message) (cores : List Node) (core new : Node) (actions said : List Action) (here : core ≡ get_or cores n core) (turn : ◌≡◌ {A = nodes.Turn} (actions, new) (nodes.handled 8 m (get_or cores n core))) (same : said ≡ actions) where
  pub turn_is : ◌≡◌ {A = nodes.Turn} (actions, new) (nodes.handled 8 m core)
  turn_is = turn ∙ ap (λ (x : Node). nodes.handled 8 m x) (sym here)

  pub says_by : IsToSay m → AreToSay said
  says_by say = subst AreToSay (sym (same ∙ ap (λ (t : nodes.Turn). t.0) turn_is)) (node_says 8 m core say)

  pub takes_by : (sent sent_new : List Posted) → n < length cores → sent_new ≡ sent ++ posts_of n said → Takes n m cores sent (set cores n new) sent_new actions
  takes_by sent sent_new within sent_is = record {
    core = core;
    there = slice_get-get_or cores n core within ∙ ap (λ (x : Node). Some x) (sym here);
    answered = ap (λ (t : nodes.Turn). t.0) turn_is;
    cores_are = ap (λ (t : nodes.Turn). set cores n t.1) turn_is;
    sent_is = sent_is ∙ ap (λ (some : List Action). sent ++ posts_of n some) same;
  }

-- the same of a turn that it takes of itself
pub turns_by : (n : ℕ) (turn : Node → nodes.Turn) (cores : List Node) (core new : Node) (actions said : List Action) → core ≡ get_or cores n core → ◌≡◌ {A = nodes.Turn} (actions, new) (turn (get_or cores n core)) → said ≡ actions
    → (sent sent_new : List Posted) → n < length cores → sent_new ≡ sent ++ posts_of n said → NodeTurns n turn cores sent (set cores n new) sent_new
turns_by n turn cores core new actions said here is same sent sent_new within sent_is =
    let turned : ◌≡◌ {A = nodes.Turn} (actions, new) (turn core) = is ∙ ap turn (sym here) in
    record {
      core = core;
      there = slice_get-get_or cores n core within ∙ ap (λ (x : Node). Some x) (sym here);
      cores_are = ap (λ (t : nodes.Turn). set cores n t.1) turned;
      sent_is = sent_is ∙ ap (λ (some : List Action). sent ++ posts_of n some) (same ∙ ap (λ (t : nodes.Turn). t.0) turned);
    }

pub asks_by : (n : ℕ) (cores : List Node) (core : Node) (said : List Action) → core ≡ get_or cores n core → said ≡ nodes.asks core → (sent sent_new : List Posted) → n < length cores → sent_new ≡ sent ++ posts_of n said → NodeAsks n cores sent sent_new
asks_by n cores core said here is sent sent_new within sent_is = record {
  core = core;
  there = slice_get-get_or cores n core within ∙ ap (λ (x : Node). Some x) (sym here);
  sent_is = sent_is ∙ ap (λ (some : List Action). sent ++ posts_of n some) is;
}

pub hears_takes : (phase : Phase) (e n : ℕ) (letter : Letter) (m : Message) (cores : List Node) (sent : List Posted) (cores_new : List Node) (sent_new : List Posted) (actions : List Action)
    → IsFrom 8 letter m → is_awaited phase e m ≡ true → Takes n m cores sent cores_new sent_new actions → Hears phase e n letter cores sent cores_new sent_new actions
hears_takes phase e n letter m cores sent cores_new sent_new actions from awaited takes = record {
  takes = λ k from_k _. subst (λ (x : Message). Takes n x cores sent cores_new sent_new actions) (same_heard 8 letter m k from from_k) takes;
  drops = λ none. absurd (none m from awaited);
  either = inl (m, from, awaited);
}

pub hears_drops : (phase : Phase) (e n : ℕ) (letter : Letter) (cores : List Node) (sent : List Posted) (cores_new : List Node) (sent_new : List Posted) (actions : List Action)
    → ((m : Message) → IsFrom 8 letter m → is_awaited phase e m ≡ true → ◌≡◌ {A = Option Message} None (Some m)) → cores_new ≡ cores → sent_new ≡ sent → actions ≡ []
    → Hears phase e n letter cores sent cores_new sent_new actions
hears_drops phase e n letter cores sent cores_new sent_new actions none cores_stay sent_stays nothing = record {
  takes = λ m from awaited. absurd (none_some m (none m from awaited));
  drops = λ _. (cores_stay, sent_stays, nothing);
  either = inr (λ m from awaited. none_some m (none m from awaited));
}

pub chief_takes : (letter : Letter) (m : Message) (chief : Chief) (sent : List Posted) (chief_new : Chief) (sent_new : List Posted)
    → IsFrom letter.from letter m → chief_new ≡ (handled letter.from m chief).1 → sent_new ≡ sent ++ posts_of 8 (handled letter.from m chief).0
    → ChiefHears letter chief sent chief_new sent_new
chief_takes letter m chief sent chief_new sent_new from chief_is sent_is = record {
  takes = λ k from_k. subst (λ (x : Message). (chief_new ≡ (handled letter.from x chief).1) × (sent_new ≡ sent ++ posts_of 8 (handled letter.from x chief).0)) (same_heard letter.from letter m k from from_k) (chief_is, sent_is);
  drops = λ none. absurd (none m from);
  either = inl (m, from, from.say.commit);
}

pub chief_drops : (letter : Letter) (chief : Chief) (sent : List Posted) (chief_new : Chief) (sent_new : List Posted)
    → ((m : Message) → IsFrom letter.from letter m → ◌≡◌ {A = Option Message} None (Some m)) → chief_new ≡ chief → sent_new ≡ sent
    → ChiefHears letter chief sent chief_new sent_new
chief_drops letter chief sent chief_new sent_new none chief_stays sent_stays = record {
  takes = λ m from. absurd (none_some m (none m from));
  drops = λ _. (chief_stays, sent_stays);
  either = inr (λ m from _. none_some m (none m from));
}

-- nothing was sent
pub fresh_none : (sent fresh : List Posted) → AreFresh sent fresh sent fresh
fresh_none sent fresh = record { posts = []; sent_is = sym (append-nil sent); fresh_is = sym (append-nil fresh) }

-- what was sent is fresh
pub fresh_ok : {T E : Type 0} (r : Result T E) (sent fresh sent_new fresh_new posts : List Posted) → OnOk r (sent_new ≡ sent ++ posts) → OnOk r (fresh_new ≡ fresh ++ posts) → OnOk r (AreFresh sent fresh sent_new fresh_new)
fresh_ok (Ok x) sent fresh sent_new fresh_new posts a b = record { posts = posts; sent_is = a; fresh_is = b }
fresh_ok (Err e) sent fresh sent_new fresh_new posts a b = tt

pub fresh_by : (sent fresh sent_new fresh_new posts : List Posted) → sent_new ≡ sent ++ posts → fresh_new ≡ fresh ++ posts → AreFresh sent fresh sent_new fresh_new
fresh_by sent fresh sent_new fresh_new posts a b = record { posts = posts; sent_is = a; fresh_is = b }

pub counts_then : (g : List Posted) (f : ℕ) (s : Option ℕ) (h : List Posted) (d : ℕ) (t : Option ℕ) (k : List Posted) (e : ℕ) (u : Option ℕ) → Counts g f s h d t → Counts h d t k e u → Counts g f s k e u
counts_then g f s h d t k e u first next = record {
  given_stays = next.given_stays ∙ first.given_stays;
  faults_stay = next.faults_stay ∙ first.faults_stay;
  seed_stays = next.seed_stays ∙ first.seed_stays;
}
