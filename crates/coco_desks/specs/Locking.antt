-- Locks with the passes that are back, and what they leave.
use Rattle.std.specs.Prelude.{◌≡◌, ⊤, ℕ, List, [], ◌∷◌, ◌++◌, map, length, sum_by, vec_len, All, Some}
use Rattle.std.specs.Global.{Vec}
use Rattle.coco_seen.specs.Notes.{Lock}
use Rattle.coco_seen.specs.Rules.{numbers}
use Rattle.coco_journaled.specs.declared.entry.Entry.{Entry}
use Rattle.coco_journaled.specs.Passes.{HasPasses, Passing, new_pass}
use Rattle.coco_journaled.specs.Replay.{Replays}

module _ {M Q A : Type 0} where
  -- a lock that this machine was put behind, with a new pass for each of so many workers
  pub record IsStarted (workers : ℕ) (machine : M) (lock : Lock) (tray : Vec (Passing M Q A)) : Type 0 where
    pub notes : lock.notes ≡ workers
    pub passes : tray.items ≡ map (new_pass lock.id machine) (numbers 0 workers)

  abbrev pub AreStarted : ℕ → List M → List Lock → List (Vec (Passing M Q A)) → Type 0
  AreStarted workers [] [] [] = ⊤
  AreStarted workers (m ∷ ms) (l ∷ ls) (t ∷ ts) = IsStarted workers m l t × AreStarted workers ms ls ts
  AreStarted workers ms ls ts = ⊥

  -- all passes of the lock
  pub record IsBack (lock : Lock) (tray : Vec (Passing M Q A)) : Type 0 where
    pub locks : All (λ (p : Passing M Q A). p.lock ≡ lock.id) tray.items
    pub all : vec_len tray ≡ lock.notes

  abbrev pub AreBack : List Lock → List (Vec (Passing M Q A)) → Type 0
  AreBack [] [] = ⊤
  AreBack (l ∷ ls) (t ∷ ts) = IsBack l t × AreBack ls ts
  AreBack ls ts = ⊥

module _ {M Q A : Type 0} (answer_to : M → Q → A) (state_after : M → Q → M) where
  -- what a lock left whose passes were these
  pub record IsEnded (tray : Vec (Passing M Q A)) (machine : M) (journal : List (Entry Q A)) : Type 0 where
    pub replays : All (λ (p : Passing M Q A). (root : M) × (p.root ≡ Some root) × Replays answer_to state_after root journal machine) tray.items
    pub passes : map (λ (p : Passing M Q A). p.number) tray.items ≡ numbers 0 (length tray.items) → HasPasses tray.items journal
    pub sized : length journal ≡ sum_by (λ (p : Passing M Q A). length p.calls) tray.items

  -- what locks left, behind what stood there before
  abbrev pub AreEnded : List (Vec (Passing M Q A)) → List M → List (List (Entry Q A)) → List M → List (List (Entry Q A)) → Type 0
  AreEnded [] machines journals new_machines new_journals = (new_machines ≡ machines) × (new_journals ≡ journals)
  AreEnded (t ∷ ts) machines journals new_machines new_journals =
      (machine : M) × (journal : List (Entry Q A)) × IsEnded t machine journal × AreEnded ts (machines ++ machine ∷ []) (journals ++ journal ∷ []) new_machines new_journals
