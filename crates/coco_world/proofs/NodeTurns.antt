-- Why a node's core does what it does, and what its turns leave.
use Rattle.std.proofs.Common.{◌≡◌, ◌⊎◌, inl, inr, ℕ, zero, suc, ◌+◌, ◌<◌, ◌≤◌, Bool, true, false, eqb, ltb, List, [], ◌∷◌, refl, sym, ap, subst, ◌∙◌, arith}
use Rattle.std.specs.Prelude.{◌&&◌, ◌||◌, if◌then◌else◌, Option, Some, None}
use Rattle.std.specs.List.{AllByRecursion}
use Rattle.std.proofs.lemmas.Bool.{eqb-true, and_parts, ltb-true}
use Rattle.coco_msg.specs.declared.action.Action.{Action}
use Rattle.coco_msg.specs.declared.action.Action.TheVariants.{Send, Force, Promote, Revert}
use Rattle.coco_msg.specs.declared.message.Message.{Message}
use Rattle.coco_msg.specs.declared.message.Message.TheVariants.{Ship, Total, Missing, All, Prepare, Vote, Commit, Finished, Abort, Query, Tell}
use Rattle.coco_msg.specs.Bytes.{epoch_of}
use Rattle.coco_node.specs.declared.machine.Decision.{Decision}
use Rattle.coco_node.specs.declared.machine.Decision.TheVariants.{Unknown, Committed, Aborted}
use Rattle.coco_node.specs.Node.{Node, is_unknown, is_committed}
use Rattle.coco_node.specs.Table.{Turn, nothing, does, votes, has_finished, awaits, on_prepare, on_committed, reverts, on_abort, on_aborted, on_message, handled}
use Rattle.coco_world.specs.Agreement.{HasFinished}
use Rattle.coco_world.proofs.Tools.{by_test, or_cases}

-- what a message says of an epoch
abbrev pub told : Message → Option (ℕ × Bool)
told (Commit e) = Some (e, true)
told (Tell e committed) = Some (e, committed)
told (Abort e) = Some (e, false)
told _ = None

abbrev pub Because : Node → Node → Message → Action → Type 0
Because core after m (Send to (Vote e true)) = (0 < e) × (e ≡ core.durable)
Because core after m (Send to (Vote e false)) = Unit {0}
Because core after m (Send to (Finished e)) = (told m ≡ Some (e, true)) × HasFinished after e
Because core after m (Send to (Prepare e)) = ⊥
Because core after m (Send to (Commit e)) = ⊥
Because core after m (Send to (Abort e)) = ⊥
Because core after m (Send to (Query e)) = ⊥
Because core after m (Send to (Tell e committed)) = ⊥
Because core after m (Send to (Ship e partition place time writes)) = ⊥
Because core after m (Send to (Total e partition places)) = ⊥
Because core after m (Send to (Missing e partition places)) = ⊥
Because core after m (Send to (All e partition)) = ⊥
Because core after m (Force e) = Unit {0}
Because core after m (Promote e) = (told m ≡ Some (e, true)) × (0 < e) × (e ≡ core.durable)
Because core after m (Revert e) = (told m ≡ Some (e, false)) × (0 < e) × (e ≡ core.durable)

pub record TurnHolds (core : Node) (m : Message) (turn : Turn) : Type 0 where
  pub durable : turn.1.durable ≡ core.durable
  pub forcing : (0 < core.forcing → core.durable < core.forcing) → 0 < turn.1.forcing → core.durable < turn.1.forcing
  pub actions : AllByRecursion (Because core turn.1 m) turn.0

nothing_holds : (core : Node) (m : Message) → TurnHolds core m (nothing core)
nothing_holds core m = record { durable = refl; forcing = λ h. h; actions = tt }

awaits_is : (e : ℕ) (core : Node) → awaits e core ≡ true → e ≡ core.durable
awaits_is e core h = eqb-true e core.durable (and_parts (eqb e core.durable) (is_unknown core.decision) h).0

is_committed_is : (d : Decision) → is_committed d ≡ true → d ≡ Committed
is_committed_is Unknown h = absurd cc
is_committed_is Committed h = refl
is_committed_is Aborted h = absurd cc

prepare_holds : (e : ℕ) (core : Node) → 0 < e → TurnHolds core (Prepare e) (on_prepare e core)
prepare_holds e core some =
    by_test (TurnHolds core (Prepare e)) (eqb e core.lost) _ _
    (λ _. record { durable = refl; forcing = λ h. h; actions = (tt, tt) })
    (λ _. by_test (TurnHolds core (Prepare e)) (ltb core.durable e && ltb core.forcing e && ltb core.lost e) _ _
    (λ above. let first = (and_parts (ltb core.durable e && ltb core.forcing e) (ltb core.lost e) above).0 in
    let lt : core.durable < e = ltb-true core.durable e (and_parts (ltb core.durable e) (ltb core.forcing e) first).0 in
    record { durable = refl; forcing = λ h some. lt; actions = (tt, tt) })
    (λ _. by_test (TurnHolds core (Prepare e)) (awaits e core) _ _
    (λ is. record { durable = refl; forcing = λ h. h; actions = ((some, awaits_is e core is), tt) })
    (λ _. nothing_holds core (Prepare e))))

committed_holds : (e : ℕ) (core : Node) (m : Message) → 0 < e → told m ≡ Some (e, true) → TurnHolds core m (on_committed e core)
committed_holds e core m some says =
    by_test (TurnHolds core m) (awaits e core) _ _
    (λ is. let same = awaits_is e core is in record { durable = refl; forcing = λ h. h; actions = ((says, some, same), ((says, inr (same, refl)), tt)) })
    (λ _. by_test (TurnHolds core m) (ltb e core.durable || (eqb e core.durable && is_committed core.decision)) _ _
    (λ done. record {
      durable = refl;
      forcing = λ h. h;
      actions = (
        (
          says,
          elim (or_cases (ltb e core.durable) (eqb e core.durable && is_committed core.decision) done) [
            | inl lt ↦ inl (ltb-true e core.durable lt)
            | inr both ↦ (let parts = and_parts (eqb e core.durable) (is_committed core.decision) both in inr (eqb-true e core.durable parts.0, is_committed_is core.decision parts.1))
          ],
        ),
        tt,
      );
    })
    (λ _. nothing_holds core m))

reverts_holds : (e : ℕ) (core : Node) (m : Message) → 0 < e → told m ≡ Some (e, false) → awaits e core ≡ true → TurnHolds core m (reverts e core)
reverts_holds e core m some says is = record { durable = refl; forcing = λ h. h; actions = ((says, some, awaits_is e core is), tt) }

abort_holds : (e : ℕ) (core : Node) → 0 < e → TurnHolds core (Abort e) (on_abort e core)
abort_holds e core some =
    by_test (TurnHolds core (Abort e)) (awaits e core) _ _ (reverts_holds e core (Abort e) some refl)
    (λ _. by_test (TurnHolds core (Abort e)) (eqb e core.forcing) _ _
    (λ _. record { durable = refl; forcing = λ h none. absurd (omega (arith, none)); actions = tt })
    (λ _. nothing_holds core (Abort e)))

aborted_holds : (e : ℕ) (core : Node) → 0 < e → TurnHolds core (Tell e false) (on_aborted e core)
aborted_holds e core some = by_test (TurnHolds core (Tell e false)) (awaits e core) _ _ (reverts_holds e core (Tell e false) some refl) (λ _. nothing_holds core (Tell e false))

message_holds : (m : Message) (core : Node) → 0 < epoch_of m → TurnHolds core m (on_message m core)
message_holds (Prepare e) core some = prepare_holds e core some
message_holds (Commit e) core some = committed_holds e core (Commit e) some refl
message_holds (Tell e true) core some = committed_holds e core (Tell e true) some refl
message_holds (Tell e false) core some = aborted_holds e core some
message_holds (Abort e) core some = abort_holds e core some
message_holds (Ship e partition place time writes) core some = nothing_holds core _
message_holds (Total e partition places) core some = nothing_holds core _
message_holds (Missing e partition places) core some = nothing_holds core _
message_holds (All e partition) core some = nothing_holds core _
message_holds (Vote e vote) core some = nothing_holds core _
message_holds (Finished e) core some = nothing_holds core _
message_holds (Query e) core some = nothing_holds core _

pub handled_holds : (from : ℕ) (m : Message) (core : Node) → TurnHolds core m (handled from m core)
handled_holds from m core =
    by_test (TurnHolds core m) (eqb from 8 && ltb 0 (epoch_of m)) _ _
    (λ both. message_holds m core (ltb-true 0 (epoch_of m) (and_parts (eqb from 8) (ltb 0 (epoch_of m)) both).1))
    (λ _. nothing_holds core m)
