-- What holds is kept where a node, or the coordinator, does something.
use Rattle.std.proofs.Common.{◌≡◌, ◌⊎◌, inl, inr, ℕ, zero, suc, ◌+◌, ◌<◌, ◌≤◌, Bool, true, false, eqb, ltb, List, [], ◌∷◌, ◌++◌, refl, sym, ap, subst, ◌∙◌, arith}
use Rattle.std.specs.Prelude.{slice_index_or}
use Rattle.std.specs.List.{AllByRecursion}
use Rattle.coco_msg.specs.declared.action.Action.{Action}
use Rattle.coco_msg.specs.declared.action.Action.TheVariants.{Send, Force, Promote, Revert}
use Rattle.coco_msg.specs.declared.message.Message.{Message}
use Rattle.coco_msg.specs.declared.message.Message.TheVariants.{Ship, Total, Missing, All, Prepare, Vote, Commit, Finished, Abort, Query, Tell}
use Rattle.coco_node.specs.Node.{Node}
use Rattle.coco_chief.specs.Chief.{Chief, has}
use Rattle.coco_world.specs.World.{World, Letter, Among, put, sent}
use Rattle.coco_world.specs.Agreement.{IsKnown, IsDead, LetterHolds, NodeHolds, ChiefHolds, Holds}
use Rattle.coco_world.proofs.Tools.{Among-append, Among-right}

pub record Kept (w after : World) : Type 0 where
  pub prepared : (n e : ℕ) → has (w.prepared n) e ≡ true → has (after.prepared n) e ≡ true
  pub commits : (e : ℕ) → has w.commits e ≡ true → has after.commits e ≡ true
  pub dead : (e : ℕ) → IsDead w e → IsDead after e

letter_kept : (w after : World) → Kept w after → (from : ℕ) (m : Message) → LetterHolds w from m → LetterHolds after from m
letter_kept w after kept from (Vote e true) h = kept.prepared from e h
letter_kept w after kept from (Vote e false) h = tt
letter_kept w after kept from (Commit e) h = kept.commits e h
letter_kept w after kept from (Tell e true) h = kept.commits e h
letter_kept w after kept from (Tell e false) h = kept.dead e h
letter_kept w after kept from (Abort e) h = kept.dead e h
letter_kept w after kept from (Query e) h = kept.prepared from e h
letter_kept w after kept from (Finished e) h = kept.commits e h
letter_kept w after kept from (Prepare e) h = tt
letter_kept w after kept from (Ship e partition place time writes) h = tt
letter_kept w after kept from (Total e partition places) h = tt
letter_kept w after kept from (Missing e partition places) h = tt
letter_kept w after kept from (All e partition) h = tt

-- what holds of an action's letter
abbrev pub SendHolds : World → ℕ → Action → Type 0
SendHolds w place (Send to m) = LetterHolds w place m
SendHolds w place (Force e) = Unit {0}
SendHolds w place (Promote e) = Unit {0}
SendHolds w place (Revert e) = Unit {0}

sent_holds : (w : World) (place : ℕ) (actions : List Action) → AllByRecursion (SendHolds w place) actions → (l : Letter) → Among (sent place actions) l → LetterHolds w l.from l.message
sent_holds w place [] all l h = absurd h
sent_holds w place (Send to m ∷ actions) all l (inl e) = subst (λ (x : Letter). LetterHolds w x.from x.message) e all.0
sent_holds w place (Send to m ∷ actions) all l (inr h) = sent_holds w place actions all.1 l h
sent_holds w place (Force e ∷ actions) all l h = sent_holds w place actions all.1 l h
sent_holds w place (Promote e ∷ actions) all l h = sent_holds w place actions all.1 l h
sent_holds w place (Revert e ∷ actions) all l h = sent_holds w place actions all.1 l h

letters_hold : (w after : World) (place : ℕ) (actions : List Action) → Kept w after → ((l : Letter) → Among w.letters l → LetterHolds w l.from l.message) → AllByRecursion (SendHolds after place) actions
    → (l : Letter) → Among (sent place actions ++ w.letters) l → LetterHolds after l.from l.message
letters_hold w after place actions kept before all l h =
    elim (Among-append (sent place actions) w.letters l h) [
      | inl new ↦ sent_holds after place actions all l new
      | inr old ↦ letter_kept w after kept l.from l.message (before l old)
    ]

-- a world in which a node has another core and entries, and has sent something
abbrev pub with_node : World → ℕ → Node → (ℕ → List ℕ) → List Action → World
with_node w n core prepared actions = record w { cores = put w.cores n core; prepared = prepared; letters = sent n actions ++ w.letters }

pub node_keeps : (w : World) (n : ℕ) (core : Node) (prepared : ℕ → List ℕ) (actions : List Action) → Holds w
    → ((m e : ℕ) → has (w.prepared m) e ≡ true → has (prepared m) e ≡ true)
    → ((m : ℕ) → m < w.count → NodeHolds (put w.cores n core m) (prepared m))
    → AllByRecursion (SendHolds (with_node w n core prepared actions) n) actions
    → Holds (with_node w n core prepared actions)
node_keeps w n core prepared actions holds grows nodes all =
    let after = with_node w n core prepared actions in
    let dead : (e : ℕ) → IsDead w e → IsDead after e = λ e d. record {
      known = elim d.known [ inl b ↦ inl b | inr p ↦ inr (p.0, p.1, grows p.0 e p.2) ];
      uncommitted = d.uncommitted;
      given_up = d.given_up;
    } in
    let kept : Kept w after = record { prepared = grows; commits = λ e h. h; dead = dead } in
    let chief = holds.chief in
    record {
      nodes = nodes;
      chief = record {
        nodes = chief.nodes;
        voters = chief.voters;
        committed = chief.committed;
        last = chief.last;
        begun-is = chief.begun-is;
        undecided = chief.undecided;
        counted = λ is-open m lt up. grows m w.chief.current (chief.counted is-open m lt up);
        all-voted = chief.all-voted;
      };
      letters = letters_hold w after n actions kept holds.letters all;
      entries = λ e m committed lt. grows m e (holds.entries e m committed lt);
      finishers = λ m up. Among-right (sent n actions) w.letters _ (holds.finishers m up);
    }

-- a world in which the coordinator has another core and entries, and has sent something
abbrev pub with_chief : World → Chief → List ℕ → List ℕ → List Action → World
with_chief w core commits begun actions = record w { chief = core; commits = commits; begun = begun; letters = sent 8 actions ++ w.letters }

pub chief_keeps : (w : World) (core : Chief) (commits begun : List ℕ) (actions : List Action) → Holds w
    → ChiefHolds w.count w.prepared commits begun core
    → ((e : ℕ) → has w.commits e ≡ true → has commits e ≡ true)
    → ((e : ℕ) → IsDead w e → IsDead (with_chief w core commits begun actions) e)
    → ((e n : ℕ) → has commits e ≡ true → n < w.count → has (w.prepared n) e ≡ true)
    → ((n : ℕ) → slice_index_or core.finished n false ≡ true → Among w.letters (record { from = n; to = 8; message = Finished core.last }))
    → AllByRecursion (SendHolds (with_chief w core commits begun actions) 8) actions
    → Holds (with_chief w core commits begun actions)
chief_keeps w core commits begun actions holds chief grows dead entries finishers all =
    let after = with_chief w core commits begun actions in
    let kept : Kept w after = record { prepared = λ n e h. h; commits = grows; dead = dead } in
    record {
      nodes = holds.nodes;
      chief = chief;
      letters = letters_hold w after 8 actions kept holds.letters all;
      entries = entries;
      finishers = λ n up. Among-right (sent 8 actions) w.letters _ (finishers n up);
    }
