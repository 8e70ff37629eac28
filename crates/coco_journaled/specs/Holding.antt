-- A note that holds the machine.
use Rattle.std.specs.Prelude.{◌≡◌, ℕ, ◌<◌, ◌-◌, ◌^◌, List, [], ◌∷◌, ◌++◌, length, true, false, Option, None, Some, vec_len, vec_capacity}
use mathlib.Core.List.{IsPrefix}
use Rattle.coco_seen.specs.Notes.{Known, ComesFrom}
use Rattle.coco_journaled.specs.declared.entry.Entry.{Entry}
use Rattle.coco_journaled.specs.declared.guarded.Guarded.{Guarded}
use Rattle.coco_journaled.specs.Packing.{unpacked}
use Rattle.coco_journaled.specs.Passes.{entry}
use Rattle.coco_journaled.specs.Replay.{Replays}

-- a note that has seen entries more, whatever it holds
abbrev pub SeesMore : {M Q A : Type 0} → Known (Entry Q A) M → Known (Entry Q A) M → Type 0
SeesMore {Q = Q} {A = A} old new = (between : List (Entry Q A)) × (new ≡ record old { list = old.list ++ between; holds = new.holds })

-- a machine is held whose journal has room for one more entry
abbrev pub HasRoom : {M P B X Y Z : Type 0} → Option (Guarded M P B X Y Z) → Type 0
HasRoom {M = M} {P = P} {B = B} {X = X} {Y = Y} {Z = Z} held = (g : Guarded M P B X Y Z) × (held ≡ Some g) × (vec_len g.journal < vec_capacity g.journal)

-- the entries of the machine's journal
abbrev pub entries_in : {M Q A P B X Y Z : Type 0} → (P → Q) → (B → A) → Guarded M P B X Y Z → List (Entry Q A)
entries_in ask_of answer_of g = unpacked ask_of answer_of g.journal.items

module _ {M Q A P B X Y Z : Type 0} (ask_of : P → Q) (answer_of : B → A) (answer_to : M → Q → A) (state_after : M → Q → M) where
  -- the note holds this machine, and has seen its whole journal; or it holds none
  abbrev pub IsHeld : Known (Entry Q A) M → Option (Guarded M P B X Y Z) → Type 0
  IsHeld note None = note.holds ≡ false
  IsHeld note (Some g) = (note.holds ≡ true) × (entries_in ask_of answer_of g ≡ note.list) × ComesFrom (λ root (h : Guarded M P B X Y Z). Replays answer_to state_after root (entries_in ask_of answer_of h) h.machine) note.root g

  -- a note has come to hold this machine, or held it
  pub record HasTaken (old new : Known (Entry Q A) M) (g : Guarded M P B X Y Z) : Type 0 where
    pub note : new ≡ record old { list = entries_in ask_of answer_of g; holds = true }
    pub seen : IsPrefix old.list (entries_in ask_of answer_of g)
    pub root : M
    pub rooted : old.root ≡ Some root
    pub run : Replays answer_to state_after root (entries_in ask_of answer_of g) g.machine

  abbrev pub Holds : Known (Entry Q A) M → Known (Entry Q A) M → Option (Guarded M P B X Y Z) → Type 0
  Holds old new held = (g : Guarded M P B X Y Z) × (held ≡ Some g) × HasTaken old new g

  -- the machine has answered an ask of a pass, and its journal has the entry
  pub record HasAnswered (number : ℕ) (ask : Q) (answer : A) (old new : Guarded M P B X Y Z) : Type 0 where
    pub answer_is : answer ≡ answer_to old.machine ask
    pub machine_is : new.machine ≡ state_after old.machine ask
    pub entries : entries_in ask_of answer_of new ≡ entries_in ask_of answer_of old ++ entry number ask answer ∷ []
    pub few : length (entries_in ask_of answer_of old) < 2 ^ 63 - 1

  -- the machine that a note holds has this entry more in its journal than the note has seen
  pub record HasStepped (e : Entry Q A) (note : Known (Entry Q A) M) (held : Option (Guarded M P B X Y Z)) : Type 0 where
    pub guarded : Guarded M P B X Y Z
    pub is : held ≡ Some guarded
    pub holds : note.holds ≡ true
    pub entries : entries_in ask_of answer_of guarded ≡ note.list ++ e ∷ []
    pub root : M
    pub rooted : note.root ≡ Some root
    pub run : Replays answer_to state_after root (entries_in ask_of answer_of guarded) guarded.machine
    pub few : length note.list < 2 ^ 63 - 1
