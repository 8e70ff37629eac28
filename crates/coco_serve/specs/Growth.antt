-- How a history grows by batches of lines, and which batches are the first ones of a text.
use Rattle.std.specs.Prelude.{◌≡◌, ◌⊎◌, ⊤, ℕ, ◌+◌, ◌≤◌, List, [], ◌∷◌, ◌++◌, length, map}
use Rattle.std.specs.List.{AllByRecursion, range_with_len}
use Rattle.coco_types.specs.declared.call.Request.{Request}
use Rattle.coco_ast.specs.Growth.{GrowsBy, GrowsInTurn}
use Rattle.coco_ast.specs.History.{Epoch, History, followed_by, map_of}
use Rattle.coco_ast.specs.Tree.{Procedures}
use Rattle.coco_cluster.specs.Around.{SkipsFew}
use Rattle.coco_lines.specs.Answers.{answers_in}
use Rattle.coco_lines.specs.Batches.{AreBatches, Batch, joined}
use Rattle.coco_lines.specs.Classes.{new_of}
use Rattle.coco_lines.specs.Growing.{GrowsByBatches}
use Rattle.coco_lines.specs.Lines.{Line, lines_of}
use Rattle.coco_lines.specs.declared.class.Class.{Class}
use Rattle.coco_order.specs.Execution.{Beginning}
use Rattle.coco_order.specs.Outcome.{ComeOfExecution}
use Rattle.coco_store.specs.Rules.{Setting}
use Rattle.coco_serve.specs.declared.bounds.RunBounds.{RunBounds}

-- how epochs are run: on which procedures, over how many partitions, by how many workers, and with how many attempts at each request
pub record Manner : Type 0 where
  pub procs : Procedures
  pub partitions : ℕ
  pub workers : ℕ
  pub attempts : ℕ

abbrev pub manner_of : Setting → RunBounds → Manner
manner_of s bounds = record { procs = s.tree; partitions = s.entry.layout.partitions; workers = bounds.workers; attempts = bounds.attempts }

-- what an epoch of these requests begins with behind a history
abbrev pub beginning_behind : Manner → History → List Request → Beginning
beginning_behind m h requests =
    record { procs = m.procs; opening = map_of m.procs h; requests = requests; partitions = m.partitions; workers = m.workers; attempts = m.attempts }

-- the Dones of an epoch are those of an execution from the map of the history before it
abbrev pub HasExecution : Manner → History → List Request → History → Type 0
HasExecution m h [] g = ⊤
HasExecution m h (r ∷ rs) g = (e : Epoch) × ComeOfExecution (beginning_behind m h (r ∷ rs)) e.number e.dones × (g ≡ followed_by h e)

-- grown by one epoch of these requests, as an execution has their Dones. Nothing is said here of its number but that it is greater
abbrev pub GrowsByExecution : Manner → History → List Request → History → Type 0
GrowsByExecution m h requests g = GrowsBy h requests g × HasExecution m h requests g

-- the numbers of these epochs rise, from `next` on and below `end`
abbrev pub AreNumberedWithin : ℕ → ℕ → List Epoch → Type 0
AreNumberedWithin next end [] = next ≤ end
AreNumberedWithin next end (e ∷ epochs) = (next ≤ e.number) × AreNumberedWithin (e.number + 1) end epochs

-- a history has the epochs of another, and behind them these, numbered so; few numbers below `end` are no epoch's
pub record AddsWithin (next end spare : ℕ) (opening history : History) : Type 0 where
  pub added : List Epoch
  pub epochs : history.epochs ≡ opening.epochs ++ added
  pub numbered : AreNumberedWithin next end added
  pub few : SkipsFew next end (length added) spare

-- these epochs are numbered next, next + 1 and so on, without a gap
abbrev pub AreNumberedFrom : ℕ → List Epoch → Type 0
AreNumberedFrom next epochs = map (λ (e : Epoch). e.number) epochs ≡ range_with_len next (length epochs)

-- the history that the opening one has grown to by these batches, whose lines have these classes
pub record IsGrown (m : Manner) (opening : History) (batches : List Batch) (classes : List (List Class)) (history : History) : Type 0 where
  pub grown : GrowsByBatches m.procs opening batches classes history
  pub executed : GrowsInTurn (GrowsByExecution m) opening (map new_of classes) history

-- what the lines of these batches are answered in a history, from line 1 on
abbrev pub answers_of : History → List (List Class) → List ℕ
answers_of h classes = answers_in h 1 (joined classes)

abbrev pub HaveSize : ℕ → List Batch → Type 0
HaveSize size = AllByRecursion (λ (b : Batch). length b ≡ size)

-- the first batches of the lines of these bytes: each of so many lines, but for the last one where no line is behind it
pub record AreFirstBatches (size : ℕ) (bytes : List ℕ) (batches : List Batch) : Type 0 where
  pub others : List Line
  pub lines : lines_of bytes ≡ joined batches ++ others
  pub cut : HaveSize size batches ⊎ ((others ≡ []) × AreBatches size batches)
