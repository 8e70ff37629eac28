-- Worlds of scenes: what letters and stops do to them, and one way behind another.
use Rattle.std.proofs.Common.{◌≡◌, ◌⊎◌, inl, inr, ℕ, zero, suc, ◌+◌, ◌^◌, ◌<◌, ◌≤◌, max, Bool, true, false, eqb, List, [], ◌∷◌, ◌++◌, length, get_or, Option, Some, refl, sym, ap, subst, ◌∙◌, arith, None}
use Rattle.std.specs.Prelude.{if◌then◌else◌, slice_set}
use Rattle.std.specs.List.{slice_get, AllByRecursion, Contains}
use Rattle.std.proofs.Math.ListN.{set, length-set}
use Rattle.std.proofs.lemmas.Bool.{eq-eqb, eqb-true, eqb-false, cases_lt}
use Rattle.std.proofs.lemmas.List.{get_or-set_same, get_or-set_other}
use Rattle.std.proofs.lemmas.List.Elements.{Contains-append_cases, Contains-append_left, Contains-append_right}
use Rattle.std.proofs.lemmas.Option.{get_or_from_slice_get, same_Some, slice_get-get_or}
use Rattle.coco_msg.specs.declared.action.Action.{Action}
use Rattle.coco_msg.specs.declared.action.Action.TheVariants.{Send, Force, Promote, Revert}
use Rattle.coco_msg.specs.declared.message.Message.{Message}
use Rattle.coco_msg.specs.declared.message.Message.TheVariants.{Abort, Commit, Prepare}
use Rattle.coco_net.specs.declared.letter.Posted.{Posted}
use Rattle.coco_node.specs.Node.{Node, greatest, restarted}
use Rattle.coco_node.specs.Table as nodes
use Rattle.coco_chief.specs.Chief.{Chief}
use Rattle.coco_chief.specs.Table as chiefs
use Rattle.coco_chief.specs.declared.machine.Phase.TheVariants.{Rest, Forcing}
use Rattle.coco_world.specs.World.{World, Letter, Among, began_anew, put, sent}
use Rattle.coco_world.specs.Steps.{Event, NodeTakes, ChiefTakes, NodeForces, ChiefForces, Begins, Aborts, Stops, Asks, Reminds, Crashes, CanRun, after_chief, happens, run, IsAbove, after_node}
use Rattle.coco_world.proofs.NodeTurns.{handled_holds}
use Rattle.coco_world.proofs.Tools.{put_both, put_one, Among-append, Among-right}
use Rattle.coco_msg.specs.Bytes.{bytes_of}
use Rattle.coco_letters.specs.Saying.{posted, posts_of, AreToSay, IsToSay}
use Rattle.coco_letters.specs.Turns.{ChiefTurns, IsForcing, NodeAsks, NodeTurns, Takes}
use Rattle.coco_letters.specs.Worlds.{Arrives, Commits, Goes, GoesBetween, GoesOn, GoesOnAbove, GoesOnStopped, GoesOnWith, IsOnlySaid, IsReached, IsSaid, IsWorld, Prepares, SameEntries, Scene, StopIsTold, Starts}
use Rattle.coco_letters.proofs.SayingLemmas.{asks_says, chief_says, each_says, node_says, reminds_says, same_message, vote_says}

-- ---- elements

pub contains_here : {X : Type 0} (x : X) (xs : List X) → Contains (x ∷ xs) x
contains_here x xs = (0, omega arith, refl)

pub contains_behind : {X : Type 0} (x y : X) (xs : List X) → Contains xs y → Contains (x ∷ xs) y
contains_behind x y xs h = Contains-append_right (x ∷ []) xs y h

pub one_is : {X : Type 0} (x y : X) → Contains (x ∷ []) y → x ≡ y
one_is x y (zero, lt, is) = is
one_is x y (suc k, lt, is) = absurd (omega arith)

pub contains_cases : {X : Type 0} (x y : X) (xs : List X) → Contains (x ∷ xs) y → (x ≡ y) ⊎ Contains xs y
contains_cases x y xs h = elim (Contains-append_cases (x ∷ []) xs y h) [ inl here ↦ inl (one_is x y here) | inr behind ↦ inr behind ]

among_left : {X : Type 0} (xs ys : List X) (x : X) → Among xs x → Among (xs ++ ys) x
among_left [] ys x h = absurd h
among_left (y ∷ xs) ys x (inl e) = inl e
among_left (y ∷ xs) ys x (inr h) = inr (among_left xs ys x h)

-- ---- letters of actions, in the world and in the net

same_letter : (n to : ℕ) (m : Message) (l : Letter) → IsToSay m → IsToSay l.message → posted n to m ≡ posted l.from l.to l.message → ◌≡◌ {A = Letter} (record { from = n; to = to; message = m }) l
same_letter n to m l say_m say_l is =
    let message : m ≡ l.message = same_message m l.message say_m.is say_l.is (ap (λ (s : Posted). s.letter.bytes) is) in
    λ i. record { from = (ap (λ (s : Posted). s.letter.from) is) i; to = (ap (λ (s : Posted). s.to) is) i; message = message i }

said_new : (n : ℕ) (actions : List Action) (l : Letter) → AreToSay actions → IsToSay l.message → Contains (posts_of n actions) (posted l.from l.to l.message) → Among (sent n actions) l
said_new n [] l all say h = absurd (omega (arith, h.1))
said_new n (Send to m ∷ actions) l all say h = elim (contains_cases (posted n to m) (posted l.from l.to l.message) (posts_of n actions) h) [
  | inl here ↦ inl (same_letter n to m l all.1 say here)
  | inr behind ↦ inr (said_new n actions l all.2 say behind)
]
said_new n (Force e ∷ actions) l all say h = said_new n actions l all say h
said_new n (Promote e ∷ actions) l all say h = said_new n actions l all say h
said_new n (Revert e ∷ actions) l all say h = said_new n actions l all say h

only_new : (n : ℕ) (actions : List Action) (l : Letter) → AreToSay actions → Among (sent n actions) l → IsSaid (posts_of n actions) l
only_new n [] l all h = absurd h
only_new n (Send to m ∷ actions) l all (inl is) =
    subst (IsSaid (posted n to m ∷ posts_of n actions)) is (record { among = contains_here (posted n to m) (posts_of n actions); say = all.1 })
only_new n (Send to m ∷ actions) l all (inr h) =
    let behind : IsSaid (posts_of n actions) l = only_new n actions l all.2 h in
    record { among = contains_behind (posted n to m) (posted l.from l.to l.message) (posts_of n actions) behind.among; say = behind.say }
only_new n (Force e ∷ actions) l all h = only_new n actions l all h
only_new n (Promote e ∷ actions) l all h = only_new n actions l all h
only_new n (Revert e ∷ actions) l all h = only_new n actions l all h

-- a place has said more: the world has those letters too
module _ (n : ℕ) (actions : List Action) (before after : List Posted) (letters : List Letter) (all : AreToSay actions) (is : after ≡ before ++ posts_of n actions) where
  told_more : ((l : Letter) → IsSaid before l → Among letters l) → (l : Letter) → IsSaid after l → Among (sent n actions ++ letters) l
  told_more told l said =
      elim (Contains-append_cases before (posts_of n actions) (posted l.from l.to l.message) (subst (λ (ps : List Posted). Contains ps (posted l.from l.to l.message)) is said.among)) [
        | inl old ↦ Among-right (sent n actions) letters l (told l (record { among = old; say = said.say }))
        | inr new ↦ among_left (sent n actions) letters l (said_new n actions l all said.say new)
      ]

  only_more : ((l : Letter) → Among letters l → IsSaid before l) → (l : Letter) → Among (sent n actions ++ letters) l → IsSaid after l
  only_more only l h = subst (λ (ps : List Posted). IsSaid ps l) (sym is) (elim (Among-append (sent n actions) letters l h) [
    | inl new ↦ (let here : IsSaid (posts_of n actions) l = only_new n actions l all new in record { among = Contains-append_right before (posts_of n actions) (posted l.from l.to l.message) here.among; say = here.say })
    | inr old ↦ (let there : IsSaid before l = only l old in record { among = Contains-append_left before (posts_of n actions) (posted l.from l.to l.message) there.among; say = there.say })
  ])

-- ---- cores at places

core_put : (cores : List Node) (f : ℕ → Node) (n : ℕ) (x : Node) → ((k : ℕ) → k < length cores → slice_get cores k ≡ Some (f k)) → (k : ℕ) → k < length cores → slice_get (set cores n x) k ≡ Some (put f n x k)
core_put cores f n x are k lt =
    let within : k < length (set cores n x) = omega (arith, length-set cores n x, lt) in
    by_place (eqb k n) refl (slice_get-get_or (set cores n x) k x within)
  where
    by_place : (b : Bool) → eqb k n ≡ b → slice_get (set cores n x) k ≡ Some (get_or (set cores n x) k x) → slice_get (set cores n x) k ≡ Some (if b then x else f k)
    by_place true is read = let same : k ≡ n = eqb-true k n is in read ∙ ap (λ (c : Node). Some c) (ap (λ (m : ℕ). get_or (set cores n x) m x) same ∙ get_or-set_same cores n x x (omega (arith, same, lt)))
    by_place false is read = read ∙ ap (λ (c : Node). Some c) (get_or-set_other cores n k x x (eqb-false k n is) ∙ get_or_from_slice_get cores k (f k) x (are k lt))

-- ---- steps

none_told : (counts : ℕ → ℕ) (k : ℕ) → k < 8 → counts k ≤ counts k
none_told counts k lt = omega arith

-- a node takes a letter that was sent to it
pub node_goes : (n : ℕ) (m : Message) (cores cores_new : List Node) (before after : List Posted) (actions : List Action) (chief : Chief) → IsToSay m → n < length cores → Contains before (posted 8 n m) → Takes n m cores before cores_new after actions
    → GoesOn (record { cores = cores; chief = chief; sent = before }) (record { cores = cores_new; chief = chief; sent = after })
node_goes n m cores cores_new before after actions chief say within there takes counts w is =
    let lt : n < w.count = omega (arith, is.count, within) in
    let core : takes.core ≡ w.cores n = same_Some takes.core (w.cores n) (sym takes.there ∙ is.nodes n lt) in
    let turn : nodes.Turn = nodes.handled 8 m (w.cores n) in
    let cores_are : cores_new ≡ set cores n turn.1 = takes.cores_are ∙ ap (λ (c : Node). set cores n (nodes.handled 8 m c).1) core in
    let actions_are : actions ≡ turn.0 = takes.answered ∙ ap (λ (c : Node). (nodes.handled 8 m c).0) core in
    let sent_is : after ≡ before ++ posts_of n turn.0 = takes.sent_is ∙ ap (λ (more : List Action). before ++ posts_of n more) actions_are in
    let all : AreToSay turn.0 = node_says 8 m (w.cores n) say in
    record {
      after = happens w (NodeTakes n 8 m);
      goes = record {
        events = NodeTakes n 8 m ∷ [];
        can = ((lt, is.told (record { from = 8; to = n; message = m }) (record { among = there; say = say })), tt);
        to = refl;
        told = (tt, tt);
        rises = none_told counts;
      };
      is = record {
        count = is.count ∙ sym (ap length cores_are ∙ length-set cores n turn.1);
        nodes = λ k less. ap (λ (cs : List Node). slice_get cs k) cores_are ∙ core_put cores w.cores n turn.1 (λ j h. is.nodes j (omega (arith, is.count, h))) k (omega (arith, is.count, less));
        chief_is = is.chief_is;
        told = told_more n turn.0 before after w.letters all sent_is is.told;
        durable = put_one (λ (k : ℕ) (c : Node). k < w.count → c.durable ≡ greatest (w.prepared k)) w.cores n turn.1 is.durable (λ less. (handled_holds 8 m (w.cores n)).durable ∙ is.durable n less);
      };
      only = only_more n turn.0 before after w.letters all sent_is;
      made = record { prepared = refl; commits = refl; begun = refl };
    }

-- nothing happens
pub nothing_goes : (a : Scene) → GoesOn a a
nothing_goes a counts w is = record {
  after = w;
  goes = record { events = []; can = tt; to = refl; told = tt; rises = none_told counts };
  is = is;
  only = λ only. only;
  made = record { prepared = refl; commits = refl; begun = refl };
}

-- the coordinator takes a letter that was sent to it
pub chief_goes : (from : ℕ) (m : Message) (cores : List Node) (chief chief_new : Chief) (before after : List Posted) → chief.nodes ≤ 8 → IsToSay m → Contains before (posted from 8 m)
    → chief_new ≡ (chiefs.handled from m chief).1 → after ≡ before ++ posts_of 8 (chiefs.handled from m chief).0
    → GoesOn (record { cores = cores; chief = chief; sent = before }) (record { cores = cores; chief = chief_new; sent = after })
chief_goes from m cores chief chief_new before after few say there chief_is sent_is counts w is =
    let turn : chiefs.Turn = chiefs.handled from m w.chief in
    let new : chief_new ≡ turn.1 = chief_is ∙ ap (λ (c : Chief). (chiefs.handled from m c).1) (sym is.chief_is) in
    let posts : after ≡ before ++ posts_of 8 turn.0 = sent_is ∙ ap (λ (c : Chief). before ++ posts_of 8 (chiefs.handled from m c).0) (sym is.chief_is) in
    let nodes_few : w.chief.nodes ≤ 8 = subst (λ (c : Chief). c.nodes ≤ 8) (sym is.chief_is) few in
    let all : AreToSay turn.0 = chief_says from m w.chief nodes_few say in
    record {
      after = happens w (ChiefTakes from m);
      goes = record {
        events = ChiefTakes from m ∷ [];
        can = (is.told (record { from = from; to = 8; message = m }) (record { among = there; say = say }), tt);
        to = refl;
        told = (tt, tt);
        rises = none_told counts;
      };
      is = record {
        count = is.count;
        nodes = is.nodes;
        chief_is = sym new;
        told = told_more 8 turn.0 before after w.letters all posts is.told;
        durable = is.durable;
      };
      only = only_more 8 turn.0 before after w.letters all posts;
      made = record { prepared = refl; commits = refl; begun = refl };
    }

-- ---- turns that the coordinator takes of itself

-- its core and its letters are the world's behind a turn
module _ (turn : chiefs.Turn) (cores : List Node) (chief chief_new : Chief) (before after : List Posted) (all : AreToSay turn.0) (turns : ChiefTurns turn before chief_new after) (w : World) where
  chief_world : IsWorld w (record { cores = cores; chief = chief; sent = before }) → IsWorld (after_chief w turn) (record { cores = cores; chief = chief_new; sent = after })
  chief_world is = record {
    count = is.count;
    nodes = is.nodes;
    chief_is = sym turns.chief_is;
    told = told_more 8 turn.0 before after w.letters all turns.sent_is is.told;
    durable = is.durable;
  }

  chief_only : IsOnlySaid w before → IsOnlySaid (after_chief w turn) after
  chief_only only = only_more 8 turn.0 before after w.letters all turns.sent_is only

-- a world in which other entries are durable, or other epochs begun, has the same cores and letters
chief_like : (w : World) (commits begun : List ℕ) (a : Scene) → IsWorld w a → IsWorld (record w { commits = commits; begun = begun }) a
chief_like w commits begun a is = record { count = is.count; nodes = is.nodes; chief_is = is.chief_is; told = is.told; durable = is.durable }

module _ (cores : List Node) (chief chief_new : Chief) (before after : List Posted) (few : chief.nodes ≤ 8) where
  pub begin_goes : (e : ℕ) → e < 2 ^ 64 → 0 < e → chief.phase ≡ Rest → ChiefTurns (chiefs.begun e chief) before chief_new after
      → GoesOnAbove e (record { cores = cores; chief = chief; sent = before }) (record { cores = cores; chief = chief_new; sent = after })
  begin_goes e fits some rest turns counts w is above =
      let turn : chiefs.Turn = chiefs.begun e w.chief in
      let here : ChiefTurns turn before chief_new after = subst (λ (c : Chief). ChiefTurns (chiefs.begun e c) before chief_new after) (sym is.chief_is) turns in
      let nodes_few : w.chief.nodes ≤ 8 = subst (λ (c : Chief). c.nodes ≤ 8) (sym is.chief_is) few in
      let all : AreToSay turn.0 = each_says w.chief.nodes (Prepare e) nodes_few (record { is = fits; commit = refl }) in
      let begun : World = record w { begun = e ∷ w.begun } in
      record {
        after = happens w (Begins e);
        goes = record { events = Begins e ∷ []; can = ((ap (λ (c : Chief). c.phase) is.chief_is ∙ rest, some, above), tt); to = refl; told = (tt, tt); rises = none_told counts };
        is = chief_world turn cores chief chief_new before after all here begun (chief_like w w.commits (e ∷ w.begun) (record { cores = cores; chief = chief; sent = before }) is);
        only = chief_only turn cores chief chief_new before after all here begun;
        made = record { prepared = refl; commits = refl; begun = refl };
      }

  pub commit_goes : (e : ℕ) → e < 2 ^ 64 → chief.phase ≡ Forcing → chief.current ≡ e → ChiefTurns (chiefs.forced e chief) before chief_new after
      → GoesOnWith (Commits e) (record { cores = cores; chief = chief; sent = before }) (record { cores = cores; chief = chief_new; sent = after })
  commit_goes e fits forcing current turns counts w is =
      let now : w.chief.current ≡ e = ap (λ (c : Chief). c.current) is.chief_is ∙ current in
      let turn : chiefs.Turn = chiefs.forced w.chief.current w.chief in
      let here : ChiefTurns turn before chief_new after =
      subst (λ (k : ℕ). ChiefTurns (chiefs.forced k w.chief) before chief_new after) (sym now) (subst (λ (c : Chief). ChiefTurns (chiefs.forced e c) before chief_new after) (sym is.chief_is) turns) in
      let nodes_few : w.chief.nodes ≤ 8 = subst (λ (c : Chief). c.nodes ≤ 8) (sym is.chief_is) few in
      let all : AreToSay turn.0 = each_says w.chief.nodes (Commit w.chief.current) nodes_few (record { is = (let fit : w.chief.current < 2 ^ 64 = omega (arith, now, fits) in fit); commit = refl }) in
      let committed : World = record w { commits = w.chief.current ∷ w.commits } in
      record {
        after = happens w ChiefForces;
        goes = record { events = ChiefForces ∷ []; can = (ap (λ (c : Chief). c.phase) is.chief_is ∙ forcing, tt); to = refl; told = (tt, tt); rises = none_told counts };
        is = chief_world turn cores chief chief_new before after all here committed (chief_like w (w.chief.current ∷ w.commits) w.begun (record { cores = cores; chief = chief; sent = before }) is);
        only = chief_only turn cores chief chief_new before after all here committed;
        made = record { prepared = refl; commits = ap (λ (k : ℕ). k ∷ w.commits) now; begun = refl };
      }

  pub abort_goes : chief.current < 2 ^ 64 → chiefs.is_open chief.phase ≡ true → ChiefTurns (chiefs.aborted chief) before chief_new after
      → GoesOn (record { cores = cores; chief = chief; sent = before }) (record { cores = cores; chief = chief_new; sent = after })
  abort_goes fits undecided turns counts w is =
      let turn : chiefs.Turn = chiefs.aborted w.chief in
      let here : ChiefTurns turn before chief_new after = subst (λ (c : Chief). ChiefTurns (chiefs.aborted c) before chief_new after) (sym is.chief_is) turns in
      let nodes_few : w.chief.nodes ≤ 8 = subst (λ (c : Chief). c.nodes ≤ 8) (sym is.chief_is) few in
      let fit : w.chief.current < 2 ^ 64 = subst (λ (c : Chief). c.current < 2 ^ 64) (sym is.chief_is) fits in
      let all : AreToSay turn.0 = each_says w.chief.nodes (Abort w.chief.current) nodes_few (record { is = fit; commit = refl }) in
      record {
        after = happens w Aborts;
        goes = record { events = Aborts ∷ []; can = (ap (λ (c : Chief). chiefs.is_open c.phase) is.chief_is ∙ undecided, tt); to = refl; told = (tt, tt); rises = none_told counts };
        is = chief_world turn cores chief chief_new before after all here w is;
        only = chief_only turn cores chief chief_new before after all here w;
        made = record { prepared = refl; commits = refl; begun = refl };
      }

  pub remind_goes : chief.last < 2 ^ 64 → ChiefTurns (chiefs.reminds chief, chief) before chief_new after
      → GoesOn (record { cores = cores; chief = chief; sent = before }) (record { cores = cores; chief = chief_new; sent = after })
  remind_goes fits turns counts w is =
      let turn : chiefs.Turn = (chiefs.reminds w.chief, w.chief) in
      let here : ChiefTurns turn before chief_new after = subst (λ (c : Chief). ChiefTurns (chiefs.reminds c, c) before chief_new after) (sym is.chief_is) turns in
      let nodes_few : w.chief.nodes ≤ 8 = subst (λ (c : Chief). c.nodes ≤ 8) (sym is.chief_is) few in
      let fit : w.chief.last < 2 ^ 64 = subst (λ (c : Chief). c.last < 2 ^ 64) (sym is.chief_is) fits in
      let all : AreToSay turn.0 = reminds_says w.chief nodes_few fit in
      record {
        after = happens w Reminds;
        goes = record { events = Reminds ∷ []; can = (tt, tt); to = refl; told = (tt, tt); rises = none_told counts };
        is = chief_world turn cores chief chief_new before after all here w is;
        only = chief_only turn cores chief chief_new before after all here w;
        made = record { prepared = refl; commits = refl; begun = refl };
      }

-- ---- and a node

pub force_goes : (n e : ℕ) (cores cores_new : List Node) (chief : Chief) (before after : List Posted) → n < length cores → e < 2 ^ 64 → IsForcing e n cores → NodeTurns n (nodes.forced e) cores before cores_new after
    → GoesOnWith (Prepares n e) (record { cores = cores; chief = chief; sent = before }) (record { cores = cores_new; chief = chief; sent = after })
force_goes n e cores cores_new chief before after within fits forces turns counts w is =
    let lt : n < w.count = omega (arith, is.count, within) in
    let forcer : forces.core ≡ w.cores n = same_Some forces.core (w.cores n) (sym forces.there ∙ is.nodes n lt) in
    let core : turns.core ≡ w.cores n = same_Some turns.core (w.cores n) (sym turns.there ∙ is.nodes n lt) in
    let forced : (w.cores n).forcing ≡ e = ap (λ (c : Node). c.forcing) (sym forcer) ∙ forces.forcing in
    let older : greatest (w.prepared n) < e = subst (λ (c : Node). c.durable < e → greatest (w.prepared n) < e) (sym forcer) (λ less. omega (arith, is.durable n lt, less)) forces.newer in
    let f : ℕ = (w.cores n).forcing in
    let turn : nodes.Turn = nodes.forced f (w.cores n) in
    let cores_are : cores_new ≡ set cores n turn.1 = turns.cores_are ∙ ap (λ (c : Node). set cores n (nodes.forced e c).1) core ∙ ap (λ (k : ℕ). set cores n (nodes.forced k (w.cores n)).1) (sym forced) in
    let sent_is : after ≡ before ++ posts_of n turn.0 = turns.sent_is ∙ ap (λ (k : ℕ). before ++ posts_of n (nodes.votes true k ∷ [])) (sym forced) in
    let all : AreToSay turn.0 = vote_says true f (let fit : f < 2 ^ 64 = omega (arith, forced, fits) in fit) in
    let epochs : List ℕ = f ∷ w.prepared n in
    let newest : f ≡ greatest epochs = omega (arith, forced, older) in
    record {
      after = happens w (NodeForces n);
      goes = record { events = NodeForces n ∷ []; can = ((lt, (let some : 0 < f = omega (arith, forced, forces.some) in some)), tt); to = refl; told = (tt, tt); rises = none_told counts };
      is = record {
        count = is.count ∙ sym (ap length cores_are ∙ length-set cores n turn.1);
        nodes = λ k less. ap (λ (cs : List Node). slice_get cs k) cores_are ∙ core_put cores w.cores n turn.1 (λ j h. is.nodes j (omega (arith, is.count, h))) k (omega (arith, is.count, less));
        chief_is = is.chief_is;
        told = told_more n turn.0 before after w.letters all sent_is is.told;
        durable = put_both (λ (k : ℕ) (c : Node) (es : List ℕ). k < w.count → c.durable ≡ greatest es) w.cores w.prepared n turn.1 epochs is.durable (λ less. newest);
      };
      only = only_more n turn.0 before after w.letters all sent_is;
      made = record { prepared = ap (λ (k : ℕ). put w.prepared n (k ∷ w.prepared n)) forced; commits = refl; begun = refl };
    }

pub ask_goes : (n : ℕ) (cores : List Node) (core : Node) (chief : Chief) (before after : List Posted) → n < length cores → slice_get cores n ≡ Some core → core.durable < 2 ^ 64 → NodeAsks n cores before after
    → GoesOn (record { cores = cores; chief = chief; sent = before }) (record { cores = cores; chief = chief; sent = after })
ask_goes n cores core chief before after within there fits asks counts w is =
    let lt : n < w.count = omega (arith, is.count, within) in
    let here : core ≡ w.cores n = same_Some core (w.cores n) (sym there ∙ is.nodes n lt) in
    let asker : asks.core ≡ w.cores n = same_Some asks.core (w.cores n) (sym asks.there ∙ is.nodes n lt) in
    let said : List Action = nodes.asks (w.cores n) in
    let sent_is : after ≡ before ++ posts_of n said = asks.sent_is ∙ ap (λ (c : Node). before ++ posts_of n (nodes.asks c)) asker in
    let all : AreToSay said = asks_says (w.cores n) (subst (λ (c : Node). c.durable < 2 ^ 64) here fits) in
    record {
      after = happens w (Asks n);
      goes = record { events = Asks n ∷ []; can = (lt, tt); to = refl; told = (tt, tt); rises = none_told counts };
      is = record {
        count = is.count;
        nodes = put_one (λ (k : ℕ) (c : Node). k < w.count → slice_get cores k ≡ Some c) w.cores n (w.cores n) is.nodes (is.nodes n);
        chief_is = is.chief_is;
        told = told_more n said before after w.letters all sent_is is.told;
        durable = put_one (λ (k : ℕ) (c : Node). k < w.count → c.durable ≡ greatest (w.prepared k)) w.cores n (w.cores n) is.durable (is.durable n);
      };
      only = only_more n said before after w.letters all sent_is;
      made = record { prepared = refl; commits = refl; begun = refl };
    }

-- a letter is sent once more
pub again_goes : (from to : ℕ) (m : Message) (cores : List Node) (chief : Chief) (before after : List Posted) → IsToSay m → Contains before (posted from to m) → after ≡ before ++ posted from to m ∷ []
    → GoesOn (record { cores = cores; chief = chief; sent = before }) (record { cores = cores; chief = chief; sent = after })
again_goes from to m cores chief before after say there sent_is counts w is = record {
  after = w;
  goes = record { events = []; can = tt; to = refl; told = tt; rises = none_told counts };
  is = record {
    count = is.count;
    nodes = is.nodes;
    chief_is = is.chief_is;
    told = λ l said. is.told l (record { among = old l said; say = said.say });
    durable = is.durable;
  };
  only = λ only l h. let was : IsSaid before l = only l h in
      record { among = subst (λ (ps : List Posted). Contains ps (posted l.from l.to l.message)) (sym sent_is) (Contains-append_left before (posted from to m ∷ []) (posted l.from l.to l.message) was.among); say = was.say };
  made = record { prepared = refl; commits = refl; begun = refl };
}
  where
    old : (l : Letter) → IsSaid after l → Contains before (posted l.from l.to l.message)
    old l said =
        elim (Contains-append_cases before (posted from to m ∷ []) (posted l.from l.to l.message) (subst (λ (ps : List Posted). Contains ps (posted l.from l.to l.message)) sent_is said.among)) [
          | inl was ↦ was
          | inr new ↦ subst (Contains before) (one_is (posted from to m) (posted l.from l.to l.message) new) there
        ]

-- ---- stops

-- a node begins anew from the epochs of its entries
restarted_is : (n : ℕ) (epochs : List ℕ) (lost : Option ℕ) (durable : ℕ) → durable ≡ greatest epochs → restarted n (durable ∷ []) lost ≡ restarted n epochs lost
restarted_is n epochs lost durable is = let same : max durable 0 ≡ greatest epochs = omega (arith, is) in ap (λ (e : ℕ). record (restarted n epochs lost) { durable = e }) same

pub stop_goes : (n durable : ℕ) (lost : Option ℕ) (cores cores_new : List Node) (core : Node) (chief : Chief) (posts : List Posted) → n < length cores → cores_new ≡ set cores n (restarted n (durable ∷ []) lost) → slice_get cores n ≡ Some core → durable ≡ core.durable
    → GoesOnStopped n SameEntries (record { cores = cores; chief = chief; sent = posts }) (record { cores = cores_new; chief = chief; sent = posts })
stop_goes n durable lost cores cores_new core chief posts within cores_are there same old new w eight rises rose is =
    let lt : n < w.count = omega (arith, is.count, within) in
    let core_is : core ≡ w.cores n = same_Some core (w.cores n) (sym there ∙ is.nodes n lt) in
    let newest : durable ≡ greatest (w.prepared n) = same ∙ ap (λ (c : Node). c.durable) core_is ∙ is.durable n lt in
    let fresh : Node = restarted n (w.prepared n) lost in
    let are : cores_new ≡ set cores n fresh = cores_are ∙ ap (set cores n) (restarted_is n (w.prepared n) lost durable newest) in
    record {
      after = happens w (Stops n false lost);
      goes = record { events = Stops n false lost ∷ []; can = (lt, tt); to = refl; told = ((eight, rose), tt); rises = rises };
      is = record {
        count = is.count ∙ sym (ap length are ∙ length-set cores n fresh);
        nodes = λ k less. ap (λ (cs : List Node). slice_get cs k) are ∙ core_put cores w.cores n fresh (λ j h. is.nodes j (omega (arith, is.count, h))) k (omega (arith, is.count, less));
        chief_is = is.chief_is;
        told = is.told;
        durable = put_one (λ (k : ℕ) (c : Node). k < w.count → c.durable ≡ greatest (w.prepared k)) w.cores n fresh is.durable (λ less. refl);
      };
      only = λ only. only;
      made = record { prepared = refl; commits = refl; begun = refl };
    }

put_here : {X : Type 0} (f : ℕ → X) (n : ℕ) (x : X) → put f n x n ≡ x
put_here f n x = ap (λ (b : Bool). if b then x else f n) (eq-eqb n n refl)

-- with the entry that it was forcing
pub stop_prepares : (n durable : ℕ) (lost : Option ℕ) (cores cores_new : List Node) (core : Node) (chief : Chief) (posts : List Posted) → n < length cores → cores_new ≡ set cores n (restarted n (durable ∷ []) lost) → slice_get cores n ≡ Some core → durable ≡ core.forcing → core.durable < core.forcing
    → GoesOnStopped n (Prepares n durable) (record { cores = cores; chief = chief; sent = posts }) (record { cores = cores_new; chief = chief; sent = posts })
stop_prepares n durable lost cores cores_new core chief posts within cores_are there same above old new w eight rises rose is =
    let lt : n < w.count = omega (arith, is.count, within) in
    let core_is : core ≡ w.cores n = same_Some core (w.cores n) (sym there ∙ is.nodes n lt) in
    let forced : durable ≡ (w.cores n).forcing = same ∙ ap (λ (c : Node). c.forcing) core_is in
    let older : greatest (w.prepared n) < durable = subst (λ (c : Node). c.durable < c.forcing → greatest (w.prepared n) < durable) (sym core_is) (λ less. omega (arith, forced, is.durable n lt, less)) above in
    let epochs : List ℕ = (w.cores n).forcing ∷ w.prepared n in
    let here : put w.prepared n epochs n ≡ epochs = put_here w.prepared n epochs in
    let newest : durable ≡ greatest (put w.prepared n epochs n) = (let most : durable ≡ greatest epochs = omega (arith, forced, older) in most) ∙ ap greatest (sym here) in
    let fresh : Node = restarted n (put w.prepared n epochs n) lost in
    let are : cores_new ≡ set cores n fresh = cores_are ∙ ap (set cores n) (restarted_is n (put w.prepared n epochs n) lost durable newest) in
    record {
      after = happens w (Stops n true lost);
      goes = record { events = Stops n true lost ∷ []; can = ((lt, omega (arith, forced, older)), tt); to = refl; told = ((eight, rose), tt); rises = rises };
      is = record {
        count = is.count ∙ sym (ap length are ∙ length-set cores n fresh);
        nodes = λ k less. ap (λ (cs : List Node). slice_get cs k) are ∙ core_put cores w.cores n fresh (λ j h. is.nodes j (omega (arith, is.count, h))) k (omega (arith, is.count, less));
        chief_is = is.chief_is;
        told = is.told;
        durable = put_both (λ (k : ℕ) (c : Node) (es : List ℕ). k < w.count → c.durable ≡ greatest es) w.cores w.prepared n fresh epochs is.durable (λ less. ap greatest here);
      };
      only = λ only. only;
      made = record { prepared = ap (λ (e : ℕ). put w.prepared n (e ∷ w.prepared n)) (sym forced); commits = refl; begun = refl };
    }

-- ---- one way behind another

told_wider : (a b c d : ℕ → ℕ) (event : Event) → ((n : ℕ) → n < 8 → a n ≤ b n) → ((n : ℕ) → n < 8 → c n ≤ d n) → StopIsTold b c event → StopIsTold a d event
told_wider a b c d (Stops n durable lost) first last told = (told.0, let low : a n ≤ b n = first n told.0 in let high : c n ≤ d n = last n told.0 in omega (arith, low, told.1, high))
told_wider a b c d Crashes first last told = absurd told
told_wider a b c d (NodeTakes n from m) first last told = tt
told_wider a b c d (ChiefTakes from m) first last told = tt
told_wider a b c d (NodeForces n) first last told = tt
told_wider a b c d ChiefForces first last told = tt
told_wider a b c d (Begins e) first last told = tt
told_wider a b c d Aborts first last told = tt
told_wider a b c d (Asks n) first last told = tt
told_wider a b c d Reminds first last told = tt

all_told : (P Q : Event → Type 0) → ((event : Event) → P event → Q event) → (events : List Event) → AllByRecursion P events → AllByRecursion Q events
all_told P Q wider [] all = tt
all_told P Q wider (event ∷ events) all = (wider event all.0, all_told P Q wider events all.1)

all_both : (P : Event → Type 0) (xs ys : List Event) → AllByRecursion P xs → AllByRecursion P ys → AllByRecursion P (xs ++ ys)
all_both P [] ys first next = next
all_both P (x ∷ xs) ys first next = (first.0, all_both P xs ys first.1 next)

run_both : (w : World) (xs ys : List Event) → run w (xs ++ ys) ≡ run (run w xs) ys
run_both w [] ys = refl
run_both w (x ∷ xs) ys = run_both (happens w x) xs ys

can_both : (w : World) (xs ys : List Event) → CanRun w xs → CanRun (run w xs) ys → CanRun w (xs ++ ys)
can_both w [] ys first next = next
can_both w (x ∷ xs) ys first next = (first.0, can_both (happens w x) xs ys first.1 next)

pub goes_then : (a b c : ℕ → ℕ) (w v u : World) → Goes a b w v → Goes b c v u → Goes a c w u
goes_then a b c w v u first next = record {
  events = first.events ++ next.events;
  can = can_both w first.events next.events first.can (subst (λ (x : World). CanRun x next.events) (sym first.to) next.can);
  to = run_both w first.events next.events ∙ ap (λ (x : World). run x next.events) first.to ∙ next.to;
  told = all_both (StopIsTold a c) first.events next.events
      (all_told (StopIsTold a b) (StopIsTold a c) (λ event. told_wider a a b c event (none_told a) next.rises) first.events first.told)
      (all_told (StopIsTold b c) (StopIsTold a c) (λ event. told_wider a b c c event first.rises (none_told c)) next.events next.told);
  rises = λ n lt. let low : a n ≤ b n = first.rises n lt in let high : b n ≤ c n = next.rises n lt in omega (arith, low, high);
}

-- and a world that good entries lead to stays one
pub reached_on : (i j : ℕ → ℕ) (w v : World) → IsReached w → Goes i j w v → IsReached v
reached_on i j w v reached goes =
    let start : World = began_anew reached.count reached.prepared reached.commits in
    record {
      count = reached.count;
      prepared = reached.prepared;
      commits = reached.commits;
      events = reached.events ++ goes.events;
      good = reached.good;
      can = can_both start reached.events goes.events reached.can (subst (λ (x : World). CanRun x goes.events) reached.is goes.can);
      is = sym goes.to ∙ ap (λ (x : World). run x goes.events) reached.is ∙ sym (run_both start reached.events goes.events);
    }

pub goes_on_then : (a b c : Scene) → GoesOn a b → GoesOn b c → GoesOn a c
goes_on_then a b c first next counts w is =
    let one : Arrives counts counts SameEntries a b w = first counts w is in
    let two : Arrives counts counts SameEntries b c one.after = next counts one.after one.is in
    record {
      after = two.after;
      goes = goes_then counts counts counts w one.after two.after one.goes two.goes;
      is = two.is;
      only = λ only. two.only (one.only only);
      made = record { prepared = two.made.prepared ∙ one.made.prepared; commits = two.made.commits ∙ one.made.commits; begun = two.made.begun ∙ one.made.begun };
    }

-- ---- between counts of stops

module _ (M N O : World → World → Type 0) (joins : (w v u : World) → M w v → N v u → O w u) where
  pub between_then : (i j k : ℕ → ℕ) (a b c : Scene) → GoesBetween i j M a b → GoesBetween j k N b c → GoesBetween i k O a c
  between_then i j k a b c first next w is =
      let one : Arrives i j M a b w = first w is in
      let two : Arrives j k N b c one.after = next one.after one.is in
      record {
        after = two.after;
        goes = goes_then i j k w one.after two.after one.goes two.goes;
        is = two.is;
        only = λ only. two.only (one.only only);
        made = joins w one.after two.after one.made two.made;
      }

pub between_on : (M N : World → World → Type 0) (i j : ℕ → ℕ) (a b : Scene) → ((w v : World) → IsWorld w a → M w v → N w v) → ((n : ℕ) → n < 8 → i n ≤ j n) → GoesOnWith M a b → GoesBetween i j N a b
between_on M N i j a b wider rises goes w is =
    let one : Arrives i i M a b w = goes i w is in
    record {
      after = one.after;
      goes = goes_then i i j w one.after one.after one.goes (record { events = []; can = tt; to = refl; told = tt; rises = rises });
      is = one.is;
      only = one.only;
      made = wider w one.after is one.made;
    }

pub between_stopped : (M N : World → World → Type 0) (n : ℕ) (i j : ℕ → ℕ) (a b : Scene) → ((w v : World) → IsWorld w a → M w v → N w v) → n < 8 → ((k : ℕ) → k < 8 → i k ≤ j k) → i n < j n → GoesOnStopped n M a b → GoesBetween i j N a b
between_stopped M N n i j a b wider eight rises rose goes w is =
    let one : Arrives i j M a b w = goes i j w eight rises rose is in
    record { after = one.after; goes = one.goes; is = one.is; only = one.only; made = wider w one.after is one.made }
