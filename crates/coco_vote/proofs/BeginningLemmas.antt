-- The beginning of a vote: nodes to which the epoch is new, and a coordinator that asks each.
use Rattle.std.proofs.Common.{◌≡◌, ◌≢◌, ◌⊎◌, inl, ℕ, zero, suc, ◌<◌, Bool, true, false, eqb, List, [], ◌∷◌, ◌++◌, length, get_or, Option, Some, None, refl, sym, ap, subst, ◌∙◌, arith}
use Rattle.std.specs.Prelude.{replicate, unwrap_or}
use Rattle.std.specs.List.{slice_get, list_all, Contains}
use Rattle.std.specs.Option.{option_map}
use Rattle.std.proofs.lemmas.Bool.{eqb-true, eqb-false}
use Rattle.std.proofs.lemmas.List.Elements.{Contains-append_left, Contains-append_right}
use Rattle.coco_chief.specs.Chief.{Chief}
use Rattle.coco_chief.specs.Table.{begun, to_each}
use Rattle.coco_host.specs.Files.{Files}
use Rattle.coco_msg.specs.declared.action.Action.TheVariants.{Send}
use Rattle.coco_msg.specs.declared.message.Message.{Message}
use Rattle.coco_msg.specs.declared.message.Message.TheVariants.{Prepare}
use Rattle.coco_net.specs.declared.letter.Posted.{Posted}
use Rattle.coco_node.specs.Node.{Node}
use Rattle.coco_store.specs.Contents.{Contents}
use Rattle.coco_append.specs.Gaining.{RestsOn}
use Rattle.coco_world.proofs.Tools.{not_both}
use Rattle.coco_letters.specs.Saying.{posted, posts_of}
use Rattle.coco_letters.specs.Worlds.{Arrives, GoesBetween, GoesOnAbove, Scene, Starts}
use Rattle.coco_letters.proofs.SayingLemmas.{posts_append}
use Rattle.coco_letters.proofs.WorldLemmas.{contains_here, goes_then}
use Rattle.coco_vote.specs.Beginning.{AreNew, GoesOnVoted}
use Rattle.coco_vote.specs.Counting.{prepare_of, HasCounted, IsAye}
use Rattle.coco_vote.specs.Preparing.{durable_at, have_durable, Ballot, RestsVoted}
use Rattle.coco_vote.specs.Taking.{vote_of, AreTold, AreVoting}
use Rattle.coco_vote.specs.Voting.{GainsNewest, PreparesOnly}

-- ---- nodes

-- none has an entry of the epoch
pub durable_new : (e : ℕ) (cores : List Node) (n : ℕ) → 0 < e → AreNew e cores → durable_at cores n ≡ e → ⊥
durable_new e cores n some new is = by_slot (slice_get cores n) refl is
  where
    by_slot : (o : Option Node) → slice_get cores n ≡ o → unwrap_or (option_map (λ (core : Node). core.durable) o) 0 ≡ e → ⊥
    by_slot None there is = omega (arith, some, is)
    by_slot (Some core) there is = let older : core.durable < e = (new n core there).older in omega (arith, older, is)

pub voting_new : (e : ℕ) (cores : List Node) → AreNew e cores → AreVoting e cores
voting_new e cores new n core there = let is = new n core there in record { idle = is.idle; kept = is.kept; stands = inl is.older }

pub told_new : (e : ℕ) (cores : List Node) (sent : List Posted) (asked : ℕ → ℕ → Bool) → 0 < e → AreNew e cores → ((n : ℕ) (yes : Bool) → Contains sent (vote_of n e yes) → ⊥) → AreTold e cores sent asked
told_new e cores sent asked some new unsaid = record {
  ayes = λ n among. absurd (unsaid n true among);
  noes = λ n among. unsaid n false among;
  before = λ n eight is. absurd (durable_new e cores n some new is);
  behind = λ n eight among. absurd (unsaid n true among);
}

-- a host that rests on contents which none has prepared the epoch on
pub rests_new : (c : Contents) (b : Ballot) (cores : List Node) (reads : Option Files) (may_leave : Files → Type 0) → 0 < b.epoch → AreNew b.epoch cores → RestsOn c reads may_leave → RestsVoted c b (have_durable b.epoch cores) reads may_leave
rests_new c b cores reads may_leave some new rests = record {
  contents = c;
  voted = record {
    earlier = refl;
    setting = refl;
    base = refl;
    commits = refl;
    others = λ n _. refl;
    prepared = λ n has. absurd (durable_new b.epoch cores n some new (eqb-true (durable_at cores n) b.epoch has));
  };
  rests = rests;
}

-- ---- the coordinator

none_counted : (n : ℕ) → 0 < n → list_all (λ counted. counted) (replicate n false) ≡ false
none_counted zero some = absurd (omega (arith, some))
none_counted (suc n) some = refl

many_flags : (n : ℕ) → length (replicate n false) ≡ n
many_flags zero = refl
many_flags (suc n) = ap suc (many_flags n)

none_up : (n k : ℕ) → get_or (replicate n false) k false ≡ true → ⊥
none_up zero k up = not_both false up refl
none_up (suc n) zero up = not_both false up refl
none_up (suc n) (suc k) up = none_up n k up

-- it has counted none
pub counted_begun : (e : ℕ) (chief : Chief) → 0 < chief.nodes → HasCounted e (IsAye e []) (begun e chief).1
counted_begun e chief some = record {
  current = refl;
  phase = none_counted chief.nodes some;
  flags = many_flags chief.nodes;
  only = λ n up. absurd (none_up chief.nodes n up);
  all = λ n less among. absurd (omega (arith, among.1));
}

-- it tells each node, and asks without a vote
pub tells_each : (n k : ℕ) (m : Message) → k < n → Contains (posts_of 8 (to_each n m)) (posted 8 k m)
tells_each zero k m less = absurd (omega (arith, less))
tells_each (suc n) k m less = subst (λ (ps : List Posted). Contains ps (posted 8 k m)) (sym (posts_append 8 (to_each n m) (Send n m ∷ []))) (by_place (tells_each n k m) (eqb k n) refl)
  where
    by_place : (k < n → Contains (posts_of 8 (to_each n m)) (posted 8 k m)) → (b : Bool) → eqb k n ≡ b → Contains (posts_of 8 (to_each n m) ++ posted 8 n m ∷ []) (posted 8 k m)
    by_place rest true at =
        let same : k ≡ n = eqb-true k n at in
        Contains-append_right (posts_of 8 (to_each n m)) (posted 8 n m ∷ []) (posted 8 k m) (subst (λ (to : ℕ). Contains (posted 8 to m ∷ []) (posted 8 k m)) same (contains_here (posted 8 k m) []))
    by_place rest false at = let other : k ≢ n = eqb-false k n at in Contains-append_left (posts_of 8 (to_each n m)) (posted 8 n m ∷ []) (posted 8 k m) (rest (omega (arith, less, other)))

pub asks_each : (n k e : ℕ) → k < n → Contains (posts_of 8 (to_each n (Prepare e))) (prepare_of k e)
asks_each n k e less = tells_each n k (Prepare e) less

-- ---- the world

pub begun_then : (i j : ℕ → ℕ) (e : ℕ) (a b c : Scene) → GoesOnAbove e a b → GoesBetween i j (PreparesOnly e) b c → GoesOnVoted e i j a c
begun_then i j e a b c first next w is above =
    let one : Arrives i i (Starts e) a b w = first i w is above in
    let two : Arrives i j (PreparesOnly e) b c one.after = next one.after one.is in
    record {
      after = two.after;
      goes = goes_then i i j w one.after two.after one.goes two.goes;
      is = two.is;
      only = λ only. two.only (one.only only);
      made = record {
        prepared = λ n. subst (λ (f : ℕ → List ℕ). (two.after.prepared n ≡ f n) ⊎ GainsNewest e (f n) (two.after.prepared n)) one.made.prepared (two.made.prepared n);
        commits = two.made.commits ∙ one.made.commits;
        begun = two.made.begun ∙ one.made.begun;
      };
    }
