-- Passes as contracts see them.
use Rattle.std.specs.Prelude.{◌≡◌, ℕ, ◌<◌, nat_eq, List, [], ◌∷◌, ◌++◌, map, length, false, All, Option, Some}
use Rattle.std.specs.List.{AllPairs, filter}
use Rattle.coco_seen.specs.Notes.{TableId, Known}
use Rattle.coco_journaled.specs.declared.entry.Entry.{Entry}
use Rattle.coco_journaled.specs.declared.entry.Placed.{Placed}
use Rattle.coco_journaled.specs.Replay.{after}

-- a pass of the lock `lock`: its number, the machine at the start, the entries that it has seen, and its own calls
pub record Passing (M Q A : Type 0) : Type 0 where
  pub lock : TableId
  pub number : ℕ
  pub root : Option M
  pub list : List (Entry Q A)
  pub calls : List (Placed Q A)

module _ {Q A : Type 0} where
  abbrev pub entry : ℕ → Q → A → Entry Q A
  entry number ask answer = record { pass = number; ask = ask; answer = answer }

  abbrev pub placed : ℕ → Q → A → Placed Q A
  placed place ask answer = record { place = place; ask = ask; answer = answer }

  -- the entry that a call has in the journal
  abbrev pub entry_of : ℕ → Placed Q A → Entry Q A
  entry_of number c = entry number c.ask c.answer

  -- a call as the pass's note has it
  abbrev pub noted : ℕ → Placed Q A → ℕ × Entry Q A
  noted number c = (c.place, entry_of number c)

  -- the calls that a note has
  abbrev pub called : List (ℕ × Entry Q A) → List (Placed Q A)
  called calls = map (λ (c : ℕ × Entry Q A). placed c.0 c.1.ask c.1.answer) calls

  abbrev pub places : List (Placed Q A) → List ℕ
  places calls = map (λ (c : Placed Q A). c.place) calls

  -- each call stands further on than the one before it
  abbrev pub Rises : List (Placed Q A) → Type 0
  Rises calls = AllPairs (λ (c d : Placed Q A). c.place < d.place) calls

  -- the entries of a pass, in order
  abbrev pub entries_of : ℕ → List (Entry Q A) → List (Entry Q A)
  entries_of number journal = filter (λ (e : Entry Q A). nat_eq e.pass number) journal

module _ {M Q A : Type 0} where
  -- a pass that has seen nothing and done nothing
  abbrev pub new_pass : TableId → M → ℕ → Passing M Q A
  new_pass lock machine number = record { lock = lock; number = number; root = Some machine; list = []; calls = [] }

  -- a pass, by its note
  abbrev pub passing : ℕ → Known (Entry Q A) M → Passing M Q A
  passing number note = record { lock = note.lock; number = number; root = note.root; list = note.list; calls = called note.calls }

  -- the pass of a new note
  abbrev pub pass_at : Known (Entry Q A) M → Passing M Q A
  pass_at note = passing note.number note

  -- the note of a pass
  abbrev pub note_of : Passing M Q A → Known (Entry Q A) M
  note_of p = record { lock = p.lock; number = p.number; root = p.root; list = p.list; calls = map (noted p.number) p.calls; holds = false }

  -- what is true of every pass: its note's calls are entered under its number and rise, and it has their places
  pub record IsPassOf (number : ℕ) (note : Known (Entry Q A) M) (own : List ℕ) : Type 0 where
    pub number_is : note.number ≡ number
    pub calls_are : note.calls ≡ map (noted number) (called note.calls)
    pub places_are : own ≡ places (called note.calls)
    pub before : All (λ (c : Placed Q A). c.place < length note.list) (called note.calls)
    pub rises : Rises (called note.calls)

-- what a pass sees of a step that entered nothing: entries of other passes
abbrev pub Looks : {M Q A : Type 0} → Passing M Q A → Passing M Q A → Type 0
Looks {Q = Q} {A = A} p q = (between : List (Entry Q A)) × (q ≡ record p { list = p.list ++ between })

-- each pass's entries are its calls, in order, and no entry is of another pass
pub record HasPasses {M Q A : Type 0} (passes : List (Passing M Q A)) (journal : List (Entry Q A)) : Type 0 where
  pub own : All (λ (p : Passing M Q A). entries_of p.number journal ≡ map (entry_of p.number) p.calls) passes
  pub no_other : All (λ (e : Entry Q A). e.pass < length passes) journal

module _ {M Q A : Type 0} (answer_to : M → Q → A) (state_after : M → Q → M) where
  -- a step: the answer is the trait's at the state after all entries so far, and the call stands behind them
  abbrev pub Steps : Passing M Q A → Q → A → Passing M Q A → Type 0
  Steps p ask answer q =
      (root : M) × (between : List (Entry Q A)) × (p.root ≡ Some root) × (answer ≡ answer_to (after state_after root (p.list ++ between)) ask)
      × (q ≡ record p { list = (p.list ++ between) ++ entry p.number ask answer ∷ []; calls = p.calls ++ placed (length (p.list ++ between)) ask answer ∷ [] })
