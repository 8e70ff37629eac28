-- What a worker's pass has in the journal of a copy table.
use Rattle.std.specs.Prelude.{◌≡◌, ℕ, ◌<◌, List, [], map, length, Some}
use Rattle.std.specs.List.{flat_map, slice_get}
use Rattle.coco_copy.specs.CopyState.{CopyState}
use Rattle.coco_copy.specs.declared.ops.CopyAnswer.{CopyAnswer}
use Rattle.coco_copy.specs.declared.ops.CopyAsk.{CopyAsk}
use Rattle.coco_journaled.specs.declared.entry.Entry.{Entry}
use Rattle.coco_journaled.specs.Passes.{Passing, entries_of, entry_of}
use Rattle.coco_worker.specs.Working.{Job, Worked, Works, copied}
use Rattle.coco_worker.specs.declared.slot.Slot.{Slot}

abbrev pub CopyPass : Type 0
CopyPass = Passing CopyState CopyAsk CopyAnswer

-- the worker's pass of a table, by which nothing was done before, with its entries in the table's journal
pub record HasEntries (before after : Slot) (table : ℕ) (journal : List (Entry CopyAsk CopyAnswer)) : Type 0 where
  pub first : CopyPass
  pub pass : CopyPass
  pub within : table < length before.copy_passes.items
  pub first_is : slice_get before.copy_passes.items table ≡ Some first
  pub undone : first.calls ≡ []
  pub pass_is : slice_get after.copy_passes.items table ≡ Some pass
  pub entries : entries_of pass.number journal ≡ map (entry_of pass.number) pass.calls

-- They are the writes of the worker's commits on the table's partition, where the net carries them to the table's
-- node, in the order of the commits.
abbrev pub CopiesAreOfCommits : Type 0
CopiesAreOfCommits = (j : Job) (before after : Slot) (ws : List Worked) (table : ℕ) (journal : List (Entry CopyAsk CopyAnswer)) → Works j before after ws → (has : HasEntries before after table journal)
    → map (λ (e : Entry CopyAsk CopyAnswer). e.ask) (entries_of has.pass.number journal) ≡ flat_map (copied j table) ws
