-- What passes have gained: for each place the calls that its pass made.
use Rattle.std.specs.Prelude.{◌≡◌, ℕ, ◌<◌, List, [], ◌++◌, map, length, Option, Some, None}
use Rattle.std.specs.List.{slice_get}
use Rattle.coco_seen.specs.Notes.{Lock}
use Rattle.coco_journaled.specs.declared.entry.Placed.{Placed}
use Rattle.coco_journaled.specs.Passes.{Passing}

module _ {M Q A : Type 0} where
  -- a pass, whatever it did
  abbrev pub undone : Passing M Q A → Passing M Q A
  undone p = record p { list = []; calls = [] }

  -- a pass of each of these locks, in their order
  abbrev pub AreOf : List Lock → List (Passing M Q A) → Type 0
  AreOf locks passes = map (λ (p : Passing M Q A). p.lock) passes ≡ map (λ (l : Lock). l.id) locks

  -- they are the same passes, whatever they did
  abbrev pub AreSame : List (Passing M Q A) → List (Passing M Q A) → Type 0
  AreSame before after = map undone after ≡ map undone before

  -- what a pass did, if there is one
  abbrev pub done_by : {X : Type 0} → (Placed Q A → X) → Option (Passing M Q A) → List X
  done_by seen None = []
  done_by seen (Some p) = map seen p.calls

  -- what the pass at a place did
  abbrev pub done_at : {X : Type 0} → (Placed Q A → X) → List (Passing M Q A) → ℕ → List X
  done_at seen passes place = done_by seen (slice_get passes place)

  -- each pass did this behind what it had done
  abbrev pub Gain : {X : Type 0} → (Placed Q A → X) → List (Passing M Q A) → List (Passing M Q A) → (ℕ → List X) → Type 0
  Gain seen before after more = (place : ℕ) → place < length before → done_at seen after place ≡ done_at seen before place ++ more place
