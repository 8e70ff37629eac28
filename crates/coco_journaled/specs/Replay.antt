-- A journal as a run of its machine.
use Rattle.std.specs.Prelude.{◌≡◌, ℕ, List, take, fold, Some, slice_get}
use Rattle.coco_journaled.specs.declared.entry.Entry.{Entry}

-- the machine after the asks of a journal
abbrev pub after : {M Q A : Type 0} → (M → Q → M) → M → List (Entry Q A) → M
after state_after machine journal = fold (λ m e. state_after m e.ask) machine journal

module _ {M Q A : Type 0} (answer_to : M → Q → A) (state_after : M → Q → M) where
  -- the machine is the one at the start after the journal's asks, and each answer is the trait's at the state that the machine then had
  pub record Replays (root : M) (journal : List (Entry Q A)) (machine : M) : Type 0 where
    pub machine_is : machine ≡ after state_after root journal
    pub answered : (place : ℕ) (e : Entry Q A) → slice_get journal place ≡ Some e → e.answer ≡ answer_to (after state_after root (take place journal)) e.ask
