-- Steps of a node that votes: its core and letters, and the ways of the world.
use Rattle.std.proofs.Common.{◌≡◌, ◌⊎◌, inl, inr, ℕ, ◌<◌, ◌≤◌, max, Bool, true, false, eqb, ltb, List, [], ◌∷◌, ◌++◌, length, None, refl, sym, ap, subst, ◌∙◌, arith, append_assoc}
use Rattle.std.specs.Prelude.{◌&&◌, if◌then◌else◌}
use Rattle.std.specs.List.{slice_get}
use Rattle.std.proofs.Math.ListN.{set}
use Rattle.std.proofs.lemmas.Bool.{eqb-true, lt-ltb}
use Rattle.std.proofs.lemmas.Option.{same_Some}
use Rattle.coco_msg.specs.declared.action.Action.{Action}
use Rattle.coco_msg.specs.declared.action.Action.TheVariants.{Send}
use Rattle.coco_msg.specs.declared.message.Message.TheVariants.{Query, Vote}
use Rattle.coco_net.specs.declared.letter.Posted.{Posted}
use Rattle.coco_node.specs.Node.{Node, greatest, restarted}
use Rattle.coco_node.specs.Table.{asks, forced}
use Rattle.coco_world.specs.World.{World, put}
use Rattle.coco_world.proofs.Tools.{by_test, not_both}
use Rattle.coco_letters.specs.Saying.{posted, posts_of}
use Rattle.coco_letters.specs.Turns.{AreFresh, IsForcing, NodeAsks, NodeTurns}
use Rattle.coco_letters.specs.Worlds.{Arrives, GoesBetween, GoesOn, GoesOnStopped, GoesOnWith, IsWorld, Prepares, SameEntries, Scene}
use Rattle.coco_letters.proofs.WorldLemmas.{between_on, between_stopped, between_then, goes_then, nothing_goes}
use Rattle.coco_vote.specs.declared.step.Step.{Step}
use Rattle.coco_vote.specs.declared.step.Step.TheVariants.{Voted, Restarted, Stopped}
use Rattle.coco_vote.specs.Preparing.{have_durable}
use Rattle.coco_vote.specs.Steps.{core_behind, is_early, EndsVote, HasNewest, Steps}
use Rattle.coco_vote.specs.Asking.{AreAsked}
use Rattle.coco_vote.specs.Voting.{GainsNewest, PreparesOnly}
use Rattle.coco_vote.proofs.PlaceLemmas.{get_set_same, have_one_more, set_again}

-- ---- letters

pub fresh_then : (s f t g u h : List Posted) → AreFresh s f t g → AreFresh t g u h → AreFresh s f u h
fresh_then s f t g u h one two = record {
  posts = one.posts ++ two.posts;
  sent_is = two.sent_is ∙ ap (λ (ps : List Posted). ps ++ two.posts) one.sent_is ∙ append_assoc s one.posts two.posts;
  fresh_is = two.fresh_is ∙ ap (λ (ps : List Posted). ps ++ two.posts) one.fresh_is ∙ append_assoc f one.posts two.posts;
}

pub max_none : (e : ℕ) → max e 0 ≡ e
max_none e = omega arith

-- a node that has begun anew with an epoch asks what became of it
asks_anew : (n epoch : ℕ) → 0 < epoch → posts_of n (asks (restarted n (epoch ∷ []) None)) ≡ posted n 8 (Query epoch) ∷ []
asks_anew n epoch some = by_test (λ (actions : List Action). posts_of n actions ≡ posted n 8 (Query epoch) ∷ []) (ltb 0 (max epoch 0) && true) (Send 8 (Query (max epoch 0)) ∷ []) []
    (λ _. ap (λ (e : ℕ). posted n 8 (Query e) ∷ []) (max_none epoch))
    (λ other. absurd (not_both (ltb 0 (max epoch 0) && true) (ap (λ (b : Bool). b && true) (lt-ltb 0 (max epoch 0) (let more : 0 < max epoch 0 = omega arith in more))) other))

pub asked_anew : (n epoch : ℕ) (cores : List Node) (sent sent_new : List Posted) → n < length cores → 0 < epoch → NodeAsks n (set cores n (restarted n (epoch ∷ []) None)) sent sent_new → sent_new ≡ sent ++ posted n 8 (Query epoch) ∷ []
asked_anew n epoch cores sent sent_new within some asked =
    let core : Node = restarted n (epoch ∷ []) None in
    let is : asked.core ≡ core = same_Some asked.core core (sym asked.there ∙ get_set_same cores n core within) in
    asked.sent_is ∙ ap (λ (c : Node). sent ++ posts_of n (asks c)) is ∙ ap (λ (ps : List Posted). sent ++ ps) (asks_anew n epoch some)

-- ---- entries of a world

pub same_then : (w v u : World) → SameEntries w v → SameEntries v u → SameEntries w u
same_then w v u one two = record { prepared = two.prepared ∙ one.prepared; commits = two.commits ∙ one.commits; begun = two.begun ∙ one.begun }

pub one_then : (n epoch : ℕ) (w v u : World) → Prepares n epoch w v → SameEntries v u → Prepares n epoch w u
one_then n epoch w v u one two = record { prepared = two.prepared ∙ one.prepared; commits = two.commits ∙ one.commits; begun = two.begun ∙ one.begun }

pub only_same : (epoch : ℕ) (w v : World) → SameEntries w v → PreparesOnly epoch w v
only_same epoch w v same = record { prepared = λ k. inl (ap (λ (f : ℕ → List ℕ). f k) same.prepared); commits = same.commits; begun = same.begun }

pub only_one : (n epoch : ℕ) (w v : World) → greatest (w.prepared n) < epoch → Prepares n epoch w v → PreparesOnly epoch w v
only_one n epoch w v older one = record {
  prepared = λ k. by_place k (eqb k n) refl (ap (λ (f : ℕ → List ℕ). f k) one.prepared);
  commits = one.commits;
  begun = one.begun;
}
  where
    by_place : (k : ℕ) (b : Bool) → eqb k n ≡ b → v.prepared k ≡ (if b then epoch ∷ w.prepared n else w.prepared k) → (v.prepared k ≡ w.prepared k) ⊎ GainsNewest epoch (w.prepared k) (v.prepared k)
    by_place k true at is = let same : k ≡ n = eqb-true k n at in inr (record {
      newest = subst (λ (m : ℕ). greatest (w.prepared m) < epoch) (sym same) older;
      gained = is ∙ ap (λ (m : ℕ). epoch ∷ w.prepared m) (sym same);
    })
    by_place k false at is = inl is

only_twice : {X : Type 0} (epoch : ℕ) (a b : List ℕ) → b ≡ epoch ∷ a → greatest b < epoch → X
only_twice epoch a b is less = absurd (let most : greatest b ≡ max epoch (greatest a) = ap greatest is in omega (arith, most, less))

pub only_then : (epoch : ℕ) (w v u : World) → PreparesOnly epoch w v → PreparesOnly epoch v u → PreparesOnly epoch w u
only_then epoch w v u one two = record {
  prepared = λ k. joined (w.prepared k) (v.prepared k) (u.prepared k) (one.prepared k) (two.prepared k);
  commits = two.commits ∙ one.commits;
  begun = two.begun ∙ one.begun;
}
  where
    joined : (a b c : List ℕ) → (b ≡ a) ⊎ GainsNewest epoch a b → (c ≡ b) ⊎ GainsNewest epoch b c → (c ≡ a) ⊎ GainsNewest epoch a c
    joined a b c (inl same) (inl still) = inl (still ∙ same)
    joined a b c (inl same) (inr gains) = inr (record { newest = subst (λ (l : List ℕ). greatest l < epoch) same gains.newest; gained = gains.gained ∙ ap (λ (l : List ℕ). epoch ∷ l) same })
    joined a b c (inr gains) (inl still) = inr (record { newest = gains.newest; gained = still ∙ gains.gained })
    joined a b c (inr gains) (inr more) = only_twice epoch a b gains.gained more.newest

-- what a node forces is newer than its entries in the world
pub older_in : (n epoch : ℕ) (w : World) (a : Scene) → n < length a.cores → IsForcing epoch n a.cores → IsWorld w a → greatest (w.prepared n) < epoch
older_in n epoch w a within forces is =
    let lt : n < w.count = omega (arith, is.count, within) in
    let core : forces.core ≡ w.cores n = same_Some forces.core (w.cores n) (sym forces.there ∙ is.nodes n lt) in
    subst (λ (c : Node). c.durable < epoch → greatest (w.prepared n) < epoch) (sym core) (λ less. omega (arith, is.durable n lt, less)) forces.newer

-- ---- ways

-- a way behind one on which a node stops
pub stopped_then : (M : World → World → Type 0) (n : ℕ) (a b c : Scene) → ((w v u : World) → M w v → SameEntries v u → M w u) → GoesOnStopped n M a b → GoesOn b c → GoesOnStopped n M a c
stopped_then M n a b c joins first next old new w eight rises rose is =
    let one : Arrives old new M a b w = first old new w eight rises rose is in
    let two : Arrives new new SameEntries b c one.after = next new one.after one.is in
    record {
      after = two.after;
      goes = goes_then old new new w one.after two.after one.goes two.goes;
      is = two.is;
      only = λ only. two.only (one.only only);
      made = joins w one.after two.after one.made two.made;
    }

module _ (i j : ℕ → ℕ) (rises : (n : ℕ) → n < 8 → i n ≤ j n) where
  -- nothing has happened, but that counts rose
  pub between_none : (M : World → World → Type 0) (a : Scene) → ((w v : World) → SameEntries w v → M w v) → GoesBetween i j M a a
  between_none M a wider = between_on SameEntries M i j a a (λ w v _ same. wider w v same) rises (nothing_goes a)

  -- a node stops before its entry, or behind its vote
  pub between_lost : (M : World → World → Type 0) (n : ℕ) (a b : Scene) → ((w v : World) → SameEntries w v → M w v) → n < 8 → i n < j n → GoesOnStopped n SameEntries a b → GoesBetween i j M a b
  between_lost M n a b wider eight rose goes = between_stopped SameEntries M n i j a b (λ w v _ same. wider w v same) eight rises rose goes

  -- it stops behind its entry
  pub between_anew : (n epoch : ℕ) (a b : Scene) → n < length a.cores → n < 8 → i n < j n → IsForcing epoch n a.cores → GoesOnStopped n (Prepares n epoch) a b → GoesBetween i j (PreparesOnly epoch) a b
  between_anew n epoch a b within eight rose forces goes =
      between_stopped (Prepares n epoch) (PreparesOnly epoch) n i j a b (λ w v is one. only_one n epoch w v (older_in n epoch w a within forces is) one) eight rises rose goes

  -- it votes, and goes on or stops behind that
  pub between_voted : (k : ℕ → ℕ) (n epoch : ℕ) (a b c : Scene) → n < length a.cores → IsForcing epoch n a.cores → GoesOnWith (Prepares n epoch) a b → GoesBetween j k SameEntries b c → GoesBetween i k (PreparesOnly epoch) a c
  between_voted k n epoch a b c within forces first next =
      between_then (PreparesOnly epoch) SameEntries (PreparesOnly epoch) (λ w v u one two. only_then epoch w v u one (only_same epoch v u two)) i j k a b c
      (between_on (Prepares n epoch) (PreparesOnly epoch) i j a b (λ w v is one. only_one n epoch w v (older_in n epoch w a within forces is) one) rises first)
      next

  -- a vote begins later
  pub between_later : (k : ℕ → ℕ) (epoch : ℕ) (a b : Scene) → GoesBetween j k (PreparesOnly epoch) a b → GoesBetween i k (PreparesOnly epoch) a b
  between_later k epoch a b next =
      between_then (PreparesOnly epoch) (PreparesOnly epoch) (PreparesOnly epoch) (only_then epoch) i j k a a b (between_none (PreparesOnly epoch) a (only_same epoch)) next

-- ---- steps

pub newest_forced : (n epoch : ℕ) (cores cores_new : List Node) (sent sent_new : List Posted) → n < length cores → NodeTurns n (forced epoch) cores sent cores_new sent_new → HasNewest epoch n cores_new
newest_forced n epoch cores cores_new sent sent_new within turns = record {
  core = (forced epoch turns.core).1;
  there = ap (λ (cs : List Node). slice_get cs n) turns.cores_are ∙ get_set_same cores n (forced epoch turns.core).1 within;
  newest = refl;
}

-- a vote and what comes behind it is a step
pub step_voted : (step : Step) (n epoch : ℕ) (cores mid new : List Node) (sent between after : List Posted) → NodeTurns n (forced epoch) cores sent mid between → EndsVote step n epoch mid between new after → Steps step n epoch cores sent new after
step_voted Voted n epoch cores mid new sent between after turns ends = record {
  core = turns.core;
  there = turns.there;
  cores_are = ends.0 ∙ turns.cores_are;
  sent_is = ends.1 ∙ turns.sent_is;
}
step_voted (Restarted true) n epoch cores mid new sent between after turns ends = record {
  core = turns.core;
  there = turns.there;
  cores_are = ends.0 ∙ ap (λ (cs : List Node). set cs n (restarted n (epoch ∷ []) None)) turns.cores_are ∙ set_again cores n (forced epoch turns.core).1 (restarted n (epoch ∷ []) None);
  sent_is = ends.1 ∙ ap (λ (ps : List Posted). ps ++ posted n 8 (Query epoch) ∷ []) turns.sent_is ∙ append_assoc sent (posted n 8 (Vote epoch true) ∷ []) (posted n 8 (Query epoch) ∷ []);
}
step_voted (Restarted false) n epoch cores mid new sent between after turns ends = absurd ends
step_voted Stopped n epoch cores mid new sent between after turns ends = absurd ends

pub ends_late : (step : Step) (n epoch : ℕ) (cores new : List Node) (sent after : List Posted) → EndsVote step n epoch cores sent new after → is_early step ≡ false
ends_late Voted n epoch cores new sent after ends = refl
ends_late (Restarted voted) n epoch cores new sent after ends = refl
ends_late Stopped n epoch cores new sent after ends = absurd ends

-- the nodes that have the epoch durable behind a step
pub have_behind : (step : Step) (n epoch : ℕ) (cores new : List Node) (sent after : List Posted) → n < length cores → is_early step ≡ false → Steps step n epoch cores sent new after → (k : ℕ) → have_durable epoch new k ≡ put (have_durable epoch cores) n true k
have_behind step n epoch cores new sent after within late steps k =
    ap (λ (cs : List Node). have_durable epoch cs k) steps.cores_are ∙ have_one_more epoch cores n (core_behind step n epoch steps.core) within (is_durable step late) k
  where
    is_durable : (s : Step) → is_early s ≡ false → (core_behind s n epoch steps.core).durable ≡ epoch
    is_durable Voted late = refl
    is_durable (Restarted voted) late = max_none epoch
    is_durable Stopped late = absurd cc

pub asked_all : (step : Step) (n epoch : ℕ) (cores new : List Node) (sent after : List Posted) (asked : ℕ → Bool) → EndsVote step n epoch cores sent new after → asked 3 ≡ true → asked 4 ≡ true → asked 5 ≡ true → AreAsked step asked
asked_all Voted n epoch cores new sent after asked ends three four five = (three, four, five)
asked_all (Restarted true) n epoch cores new sent after asked ends three four five = (three, four, five)
asked_all (Restarted false) n epoch cores new sent after asked ends three four five = absurd ends
asked_all Stopped n epoch cores new sent after asked ends three four five = absurd ends
