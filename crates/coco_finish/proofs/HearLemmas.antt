-- What a node does that hears that an epoch is committed.
use Rattle.std.proofs.Common.{◌≡◌, ◌≢◌, ◌⊎◌, inl, inr, ℕ, zero, suc, ◌<◌, Bool, true, false, eqb, ltb, List, [], ◌∷◌, ◌++◌, Some, refl, sym, ap, subst, ◌∙◌, arith}
use Rattle.std.specs.Prelude.{◌&&◌, ◌||◌, if◌then◌else◌}
use Rattle.std.specs.List.{slice_get, Contains}
use Rattle.std.proofs.Math.ListN.{set}
use Rattle.std.proofs.lemmas.Bool.{eqb-true, eqb-false, lt-ltb, or_left, or_right}
use Rattle.std.proofs.lemmas.List.{append_cancel_left}
use Rattle.std.proofs.lemmas.List.Elements.{Contains-append_cases, Contains-append_right}
use Rattle.std.proofs.lemmas.Option.{same_Some}
use Rattle.coco_msg.specs.declared.action.Action.{Action}
use Rattle.coco_msg.specs.declared.action.Action.TheVariants.{Promote}
use Rattle.coco_msg.specs.declared.message.Message.{Message}
use Rattle.coco_msg.specs.declared.message.Message.TheVariants.{Commit, Tell}
use Rattle.coco_net.specs.declared.letter.Letter.{Letter}
use Rattle.coco_net.specs.declared.letter.Posted.{Posted}
use Rattle.coco_node.specs.declared.machine.Decision.{Decision}
use Rattle.coco_node.specs.declared.machine.Decision.TheVariants.{Unknown, Committed, Aborted}
use Rattle.coco_node.specs.Node.{Node, is_committed, is_unknown}
use Rattle.coco_node.specs.Table.{handled, has_finished, nothing, on_committed, Turn}
use Rattle.coco_letters.specs.declared.hearing.Phase.TheVariants.{Finishing}
use Rattle.coco_letters.specs.Saying.{posts_of}
use Rattle.coco_letters.specs.Turns.{is_awaited, promotes, AreFresh, Hears, IsFrom, Takes}
use Rattle.coco_letters.proofs.WorldLemmas.{contains_cases, contains_here}
use Rattle.coco_finish.specs.Finishing.{finished_of, is_behind, AllCanFinish, AreBehind, AreTold, CanFinish, FinishesSo, HasYetToHear, HeardBefore, TellsCommitted}

pub none_in : {X P : Type 0} (x : P) → Contains [] x → X
none_in x among = absurd (let no : among.0 < 0 = among.1 in omega (arith, no))

-- ---- the core

pub known_not : {X : Type 0} → ◌≡◌ {A = Decision} Committed Unknown → X
known_not is = absurd cc

-- a value that is written where it stands
set_here : {X : Type 0} (xs : List X) (i : ℕ) (x : X) → slice_get xs i ≡ Some x → set xs i x ≡ xs
set_here [] i x there = refl
set_here (y ∷ xs) zero x there = ap (λ z. z ∷ xs) (sym (same_Some y x there))
set_here (y ∷ xs) (suc i) x there = ap (λ ys. y ∷ ys) (set_here xs i x there)

abbrev hears_first : ℕ → Node → Turn
hears_first e core = (Promote e ∷ has_finished e ∷ [], record core { decision = Committed })

abbrev hears_again : ℕ → Node → Turn
hears_again e core = (has_finished e ∷ [], core)

-- by whether the epoch is its newest, and what it knows of it
abbrev by_tests : ℕ → Node → Bool → Decision → Bool → Turn
by_tests e core newest decision older =
    if newest && is_unknown decision then hears_first e core else (if older || (newest && is_committed decision) then hears_again e core else nothing core)

-- a node that can finish says so: the first time it promotes
committed_turn : (e : ℕ) (core : Node) → CanFinish e core
    → (HasYetToHear e core × (◌≡◌ {A = Turn} (on_committed e core) (hears_first e core))) ⊎ ((HasYetToHear e core → ⊥) × (◌≡◌ {A = Turn} (on_committed e core) (hears_again e core)))
committed_turn e core can = by_newest (eqb e core.durable) refl core.decision refl
  where
    tested : (b : Bool) (d : Decision) → eqb e core.durable ≡ b → core.decision ≡ d → ◌≡◌ {A = Turn} (on_committed e core) (by_tests e core b d (ltb e core.durable))
    tested b d at is = λ i. by_tests e core (at i) (is i) (ltb e core.durable)

    by_newest : (b : Bool) → eqb e core.durable ≡ b → (d : Decision) → core.decision ≡ d
        → (HasYetToHear e core × (◌≡◌ {A = Turn} (on_committed e core) (hears_first e core))) ⊎ ((HasYetToHear e core → ⊥) × (◌≡◌ {A = Turn} (on_committed e core) (hears_again e core)))
    by_newest true at Unknown is = inl (record { newest = sym (eqb-true e core.durable at); unknown = is }, tested true Unknown at is)
    by_newest true at Committed is =
        inr (λ yet. known_not (sym is ∙ yet.unknown), tested true Committed at is ∙ ap (λ (b : Bool). if b then hears_again e core else nothing core) (or_right (ltb e core.durable) true refl))
    by_newest true at Aborted is = absurd (can.stands (sym (eqb-true e core.durable at)) is)
    by_newest false at d is =
        let other : e ≢ core.durable = eqb-false e core.durable at in
        let older : e < core.durable = omega (arith, can.has, other) in
        inr (λ yet. other (sym yet.newest), tested false d at is ∙ ap (λ (b : Bool). if b then hears_again e core else nothing core) (or_left (ltb e core.durable) false (lt-ltb e core.durable older)))

-- ---- letters

module _ (n e : ℕ) (letter : Letter) (cores : List Node) (sent : List Posted) (some : 0 < e) (can : AllCanFinish e cores) where
  told_so : (m : Message) → ((core : Node) → ◌≡◌ {A = Turn} (handled 8 m core) (on_committed e core)) → TellsCommitted e letter → (cores_new : List Node) (sent_new : List Posted) (actions : List Action)
      → Takes n m cores sent cores_new sent_new actions → FinishesSo (promotes actions) e n letter cores sent cores_new sent_new
  told_so m turns tells cores_new sent_new actions takes =
      let core : Node = takes.core in
      elim (committed_turn e core (can n core takes.there)) [
        | inl first ↦
            (let turn : ◌≡◌ {A = Turn} (handled 8 m core) (hears_first e core) = turns core ∙ first.1 in
            let said : actions ≡ Promote e ∷ has_finished e ∷ [] = takes.answered ∙ ap (λ (t : Turn). t.0) turn in
            subst (λ (acts : List Action). FinishesSo (promotes acts) e n letter cores sent cores_new sent_new) (sym said) (
              tells,
              record { core = core; there = takes.there; yet = first.0; cores_are = takes.cores_are ∙ ap (λ (t : Turn). set cores n t.1) turn },
              takes.sent_is ∙ ap (λ (acts : List Action). sent ++ posts_of n acts) said,
            ))
        | inr again ↦
            (let turn : ◌≡◌ {A = Turn} (handled 8 m core) (hears_again e core) = turns core ∙ again.1 in
            let said : actions ≡ has_finished e ∷ [] = takes.answered ∙ ap (λ (t : Turn). t.0) turn in
            subst (λ (acts : List Action). FinishesSo (promotes acts) e n letter cores sent cores_new sent_new) (sym said)
            (inl (
              tells,
              record { core = core; there = takes.there; before = again.0; cores_stay = takes.cores_are ∙ ap (λ (t : Turn). set cores n t.1) turn ∙ set_here cores n core takes.there },
              takes.sent_is ∙ ap (λ (acts : List Action). sent ++ posts_of n acts) said,
            )))
      ]

  -- of a message of this epoch
  turn_of : (core : Node) → ◌≡◌ {A = Turn} (if ltb 0 e then on_committed e core else nothing core) (on_committed e core)
  turn_of core = λ i. if lt-ltb 0 e some i then on_committed e core else nothing core

  heard_message : (cores_new : List Node) (sent_new : List Posted) (actions : List Action) (m : Message) → IsFrom 8 letter m → is_awaited Finishing e m ≡ true → Hears Finishing e n letter cores sent cores_new sent_new actions
      → FinishesSo (promotes actions) e n letter cores sent cores_new sent_new
  heard_message cores_new sent_new actions (Commit of) from awaited hears =
      let same : of ≡ e = eqb-true of e awaited in
      told_so (Commit e) turn_of (Commit of, from, awaited) cores_new sent_new actions
      (subst (λ (k : ℕ). Takes n (Commit k) cores sent cores_new sent_new actions) same (hears.takes (Commit of) from awaited))
  heard_message cores_new sent_new actions (Tell of true) from awaited hears =
      let same : of ≡ e = eqb-true of e awaited in
      told_so (Tell e true) turn_of (Tell of true, from, awaited) cores_new sent_new actions
      (subst (λ (k : ℕ). Takes n (Tell k true) cores sent cores_new sent_new actions) same (hears.takes (Tell of true) from awaited))
  heard_message cores_new sent_new actions (Tell of false) from awaited hears = absurd cc
  heard_message cores_new sent_new actions _ from awaited hears = absurd cc

  pub finishes_so : (cores_new : List Node) (sent_new : List Posted) (actions : List Action) (first : Bool) → first ≡ promotes actions → Hears Finishing e n letter cores sent cores_new sent_new actions
      → FinishesSo first e n letter cores sent cores_new sent_new
  finishes_so cores_new sent_new actions first is hears =
      subst (λ (b : Bool). FinishesSo b e n letter cores sent cores_new sent_new) (sym is) (elim hears.either [
        | inl such ↦ heard_message cores_new sent_new actions such.0 such.1 such.2 hears
        | inr none ↦ (let dropped = hears.drops none in
            subst (λ (acts : List Action). FinishesSo (promotes acts) e n letter cores sent cores_new sent_new) (sym dropped.2)
            (inr (λ tells. none tells.0 tells.1 tells.2, dropped.0, dropped.1)))
      ])

-- ---- what is told as sent

module _ (n e : ℕ) (letter : Letter) (cores : List Node) (sent : List Posted) (cores_new : List Node) (sent_new : List Posted) where
  says_one : (fresh fresh_new : List Posted) → AreFresh sent fresh sent_new fresh_new → sent_new ≡ sent ++ finished_of n e ∷ [] → Contains fresh_new (finished_of n e)
  says_one fresh fresh_new are is =
      let posts : are.posts ≡ finished_of n e ∷ [] = append_cancel_left sent are.posts (finished_of n e ∷ []) (sym are.sent_is ∙ is) in
      subst (λ (ps : List Posted). Contains ps (finished_of n e)) (sym (are.fresh_is ∙ ap (λ (ps : List Posted). fresh ++ ps) posts))
      (Contains-append_right fresh (finished_of n e ∷ []) (finished_of n e) (contains_here (finished_of n e) []))

  -- told, it answers
  pub answers : (first : Bool) (fresh fresh_new : List Posted) → FinishesSo first e n letter cores sent cores_new sent_new → AreFresh sent fresh sent_new fresh_new → TellsCommitted e letter → Contains fresh_new (finished_of n e)
  answers true fresh fresh_new so are tells = says_one fresh fresh_new are so.2
  answers false fresh fresh_new (inl told) are tells = says_one fresh fresh_new are told.2
  answers false fresh fresh_new (inr not) are tells = absurd (not.0 tells)

  -- a node that says so again isn't behind
  not_behind : (behind : List Bool) → AreBehind e cores behind → HeardBefore e n cores cores_new → (b : Bool) → is_behind behind n ≡ b → is_behind behind n ≡ false
  not_behind behind are heard true is = absurd (heard.before (are n heard.core heard.there is))
  not_behind behind are heard false is = is

  pub told_again : (first : Bool) → first ≡ false → FinishesSo first e n letter cores sent cores_new sent_new → (behind : List Bool) → AreBehind e cores behind → AreTold e sent behind → AreTold e sent_new behind
  told_again true not so behind are told = absurd cc
  told_again false not (inr none) behind are told = λ m among. told m (subst (λ (ps : List Posted). Contains ps (finished_of m e)) none.2 among)
  told_again false not (inl again) behind are told = λ m among.
      elim (Contains-append_cases sent (finished_of n e ∷ []) (finished_of m e) (subst (λ (ps : List Posted). Contains ps (finished_of m e)) again.2 among)) [
        | inl was ↦ told m was
        | inr now ↦ elim (contains_cases (finished_of n e) (finished_of m e) [] now) [
          | inl here ↦ ap (is_behind behind) (sym (ap (λ (s : Posted). s.letter.from) here)) ∙ not_behind behind are again.1 (is_behind behind n) refl
          | inr none ↦ none_in (finished_of m e) none
        ]
      ]
