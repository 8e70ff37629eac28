-- What holds is kept by every step of a node.
use Rattle.std.proofs.Common.{◌≡◌, ◌⊎◌, inl, inr, ℕ, zero, suc, ◌+◌, ◌<◌, ◌≤◌, max, Bool, true, false, eqb, ltb, List, [], ◌∷◌, ◌++◌, refl, sym, ap, subst, ◌∙◌, arith}
use Rattle.std.specs.Prelude.{◌&&◌, Option, Some, None, if◌then◌else◌}
use Rattle.std.specs.List.{AllByRecursion}
use Rattle.std.proofs.lemmas.Bool.{eq-eqb, and_parts, ltb-true}
use Rattle.coco_msg.specs.declared.action.Action.{Action}
use Rattle.coco_msg.specs.declared.action.Action.TheVariants.{Send, Force, Promote, Revert}
use Rattle.coco_msg.specs.declared.message.Message.{Message}
use Rattle.coco_msg.specs.declared.message.Message.TheVariants.{Ship, Total, Missing, All, Prepare, Vote, Commit, Finished, Abort, Query, Tell}
use Rattle.coco_node.specs.Node.{Node, greatest, restarted, is_unknown}
use Rattle.coco_node.specs.Table.{handled, forced, asks}
use Rattle.coco_chief.specs.Chief.{has}
use Rattle.coco_world.specs.World.{World, Letter, Among, put, sent}
use Rattle.coco_world.specs.Agreement.{IsDead, LetterHolds, NodeHolds, Holds, HasFinished}
use Rattle.coco_world.proofs.Tools.{by_test, has-new, has-more, has-greatest, put_one, put_both}
use Rattle.coco_world.proofs.NodeTurns.{told, Because, TurnHolds, handled_holds}
use Rattle.coco_world.proofs.Keeping.{SendHolds, with_node, node_keeps}

-- a node's newest durable epoch is in its entries
pub durable_is : (core : Node) (prepared : List ℕ) (e : ℕ) → NodeHolds core prepared → 0 < e → e ≡ core.durable → has prepared e ≡ true
durable_is core prepared e holds some same =
    let is : greatest prepared ≡ e = sym holds.durable ∙ sym same in
    subst (λ (k : ℕ). has prepared k ≡ true) is (has-greatest prepared (omega (arith, is)))

-- the epoch and the decision that are told
epoch_in : Option (ℕ × Bool) → ℕ
epoch_in None = 0
epoch_in (Some p) = p.0

decision_in : Option (ℕ × Bool) → Bool
decision_in None = false
decision_in (Some p) = p.1

epoch_same : (x e : ℕ) (b c : Bool) → ◌≡◌ {A = Option (ℕ × Bool)} (Some (x, b)) (Some (e, c)) → x ≡ e
unfolding epoch_in
epoch_same x e b c is = ap epoch_in is

other_decision : {G : Type 0} (x e : ℕ) (b c : Bool) → ◌≡◌ {A = Option (ℕ × Bool)} (Some (x, b)) (Some (e, c)) → (b ≡ c → ⊥) → G
unfolding decision_in
other_decision x e b c is other = absurd (other (ap decision_in is))

-- what a letter says of an epoch is so
pub told_committed : (w : World) (from : ℕ) (m : Message) (e : ℕ) → LetterHolds w from m → told m ≡ Some (e, true) → has w.commits e ≡ true
told_committed w from (Commit x) e h is = subst (λ (k : ℕ). has w.commits k ≡ true) (epoch_same x e true true is) h
told_committed w from (Tell x true) e h is = subst (λ (k : ℕ). has w.commits k ≡ true) (epoch_same x e true true is) h
told_committed w from (Tell x false) e h is = other_decision x e false true is (λ same. cc)
told_committed w from (Abort x) e h is = other_decision x e false true is (λ same. cc)
told_committed w from (Vote x vote) e h is = absurd cc
told_committed w from (Query x) e h is = absurd cc
told_committed w from (Finished x) e h is = absurd cc
told_committed w from (Prepare x) e h is = absurd cc
told_committed w from (Ship x partition place time writes) e h is = absurd cc
told_committed w from (Total x partition places) e h is = absurd cc
told_committed w from (Missing x partition places) e h is = absurd cc
told_committed w from (All x partition) e h is = absurd cc

pub told_aborted : (w : World) (from : ℕ) (m : Message) (e : ℕ) → LetterHolds w from m → told m ≡ Some (e, false) → IsDead w e
told_aborted w from (Abort x) e h is = subst (IsDead w) (epoch_same x e false false is) h
told_aborted w from (Tell x false) e h is = subst (IsDead w) (epoch_same x e false false is) h
told_aborted w from (Tell x true) e h is = other_decision x e true false is (λ same. cc)
told_aborted w from (Commit x) e h is = other_decision x e true false is (λ same. cc)
told_aborted w from (Vote x vote) e h is = absurd cc
told_aborted w from (Query x) e h is = absurd cc
told_aborted w from (Finished x) e h is = absurd cc
told_aborted w from (Prepare x) e h is = absurd cc
told_aborted w from (Ship x partition place time writes) e h is = absurd cc
told_aborted w from (Total x partition places) e h is = absurd cc
told_aborted w from (Missing x partition places) e h is = absurd cc
told_aborted w from (All x partition) e h is = absurd cc

-- an action that has its reason says what is so
because_says : (w after : World) (n : ℕ) (core next : Node) (from : ℕ) (m : Message) → LetterHolds w from m → NodeHolds core (after.prepared n) → after.commits ≡ w.commits → (a : Action) → Because core next m a → SendHolds after n a
because_says w after n core next from m heard holds same (Send to (Vote e true)) b = durable_is core (after.prepared n) e holds b.0 b.1
because_says w after n core next from m heard holds same (Send to (Vote e false)) b = tt
because_says w after n core next from m heard holds same (Send to (Finished e)) b = rw same (told_committed w from m e heard b.0)
because_says w after n core next from m heard holds same (Send to (Prepare e)) b = tt
because_says w after n core next from m heard holds same (Send to (Commit e)) b = absurd b
because_says w after n core next from m heard holds same (Send to (Abort e)) b = absurd b
because_says w after n core next from m heard holds same (Send to (Query e)) b = absurd b
because_says w after n core next from m heard holds same (Send to (Tell e committed)) b = absurd b
because_says w after n core next from m heard holds same (Send to (Ship e partition place time writes)) b = tt
because_says w after n core next from m heard holds same (Send to (Total e partition places)) b = tt
because_says w after n core next from m heard holds same (Send to (Missing e partition places)) b = tt
because_says w after n core next from m heard holds same (Send to (All e partition)) b = tt
because_says w after n core next from m heard holds same (Force e) b = tt
because_says w after n core next from m heard holds same (Promote e) b = tt
because_says w after n core next from m heard holds same (Revert e) b = tt

All-map : {X : Type 0} (P Q : X → Type 0) → ((x : X) → P x → Q x) → (xs : List X) → AllByRecursion P xs → AllByRecursion Q xs
All-map P Q f [] h = tt
All-map P Q f (x ∷ xs) h = (f x h.0, All-map P Q f xs h.1)

-- a node takes a letter
pub takes_keeps : (w : World) (n from : ℕ) (m : Message) → Holds w → n < w.count → Among w.letters (record { from = from; to = n; message = m })
    → Holds (with_node w n (handled from m (w.cores n)).1 w.prepared (handled from m (w.cores n)).0)
takes_keeps w n from m holds lt here =
    let core = w.cores n in
    let turn = handled from m core in
    let after = with_node w n turn.1 w.prepared turn.0 in
    let old = holds.nodes n lt in
    let says = handled_holds from m core in
    let heard : LetterHolds w from m = holds.letters (record { from = from; to = n; message = m }) here in
    let here-now : NodeHolds turn.1 (w.prepared n) = record { durable = says.durable ∙ old.durable; forcing = λ some. omega (arith, says.durable, says.forcing old.forcing some) } in
    node_keeps w n turn.1 w.prepared turn.0 holds (λ k e h. h)
    (put_one (λ k c. k < w.count → NodeHolds c (w.prepared k)) w.cores n turn.1 holds.nodes (λ _. here-now))
    (All-map (Because core turn.1 m) (SendHolds after n) (because_says w after n core turn.1 from m heard old refl) turn.0 says.actions)

-- a node's entries with one more
pub grown : (w : World) (n e k x : ℕ) → has (w.prepared k) x ≡ true → has (put w.prepared n (e ∷ w.prepared n) k) x ≡ true
grown w n e k x h = put_one (λ j p. has (w.prepared j) x ≡ true → has p x ≡ true) w.prepared n (e ∷ w.prepared n) (λ j h. h) (λ h. has-more (w.prepared n) e x h) k h

-- a node's entry is durable
pub forces_keeps : (w : World) (n : ℕ) → Holds w → n < w.count → 0 < (w.cores n).forcing
    → Holds (with_node w n (forced (w.cores n).forcing (w.cores n)).1 (put w.prepared n ((w.cores n).forcing ∷ w.prepared n)) (forced (w.cores n).forcing (w.cores n)).0)
forces_keeps w n holds lt some =
    let core = w.cores n in
    let e = core.forcing in
    let next = (forced e core).1 in
    let prepared = put w.prepared n (e ∷ w.prepared n) in
    let old = holds.nodes n lt in
    let here-now : NodeHolds next (e ∷ w.prepared n) = record { durable = omega (arith, old.durable, old.forcing some); forcing = λ none. absurd (omega (arith, none)) } in
    let voted : has (prepared n) e ≡ true = rw (eq-eqb n n refl) (has-new (w.prepared n) e) in
    node_keeps w n next prepared (forced e core).0 holds (grown w n e)
    (put_both (λ k c p. k < w.count → NodeHolds c p) w.cores w.prepared n next (e ∷ w.prepared n) holds.nodes (λ _. here-now))
    (voted, tt)

-- a node begins anew
pub stops_keeps : (w : World) (n : ℕ) (lost : Option ℕ) → Holds w → Holds (with_node w n (restarted n (w.prepared n) lost) w.prepared [])
stops_keeps w n lost holds =
    let next = restarted n (w.prepared n) lost in
    node_keeps w n next w.prepared [] holds (λ k e h. h)
    (put_one (λ k c. k < w.count → NodeHolds c (w.prepared k)) w.cores n next holds.nodes (λ _. record { durable = refl; forcing = λ none. absurd (omega (arith, none)) }))
    tt

-- and with the entry that it forced
pub stops_durable_keeps : (w : World) (n : ℕ) (lost : Option ℕ) → Holds w
    → Holds (with_node w n (restarted n (put w.prepared n ((w.cores n).forcing ∷ w.prepared n) n) lost) (put w.prepared n ((w.cores n).forcing ∷ w.prepared n)) [])
stops_durable_keeps w n lost holds =
    let e = (w.cores n).forcing in
    let prepared = put w.prepared n (e ∷ w.prepared n) in
    let next = restarted n (prepared n) lost in
    let is : prepared n ≡ e ∷ w.prepared n = rw (eq-eqb n n refl) refl in
    let here-now : NodeHolds next (e ∷ w.prepared n) = record { durable = ap greatest is; forcing = λ none. absurd (omega (arith, none)) } in
    node_keeps w n next prepared [] holds (grown w n e)
    (put_both (λ k c p. k < w.count → NodeHolds c p) w.cores w.prepared n next (e ∷ w.prepared n) holds.nodes (λ _. here-now))
    tt

-- a node asks
pub asks_keeps : (w : World) (n : ℕ) → Holds w → n < w.count → Holds (with_node w n (w.cores n) w.prepared (asks (w.cores n)))
asks_keeps w n holds lt =
    let core = w.cores n in
    let after = with_node w n core w.prepared (asks core) in
    node_keeps w n core w.prepared (asks core) holds (λ k e h. h)
    (put_one (λ k c. k < w.count → NodeHolds c (w.prepared k)) w.cores n core holds.nodes (holds.nodes n))
    (by_test (AllByRecursion (SendHolds after n)) (ltb 0 core.durable && is_unknown core.decision) _ _
    (λ both. (durable_is core (w.prepared n) core.durable (holds.nodes n lt) (ltb-true 0 core.durable (and_parts (ltb 0 core.durable) (is_unknown core.decision) both).0) refl, tt))
    (λ _. tt))
