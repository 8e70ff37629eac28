-- Where a command can't fail but for want of memory, and what it leaves then.
use Rattle.std.specs.Prelude.{◌≡◌, ◌⊎◌, ℕ, ◌+◌, ◌<◌, ◌≤◌, List, [], length, Option, Some, Ok}
use Rattle.std.specs.Io.KnownBytes.{append_known}
use Rattle.coco_types.specs.Limits.{epochs_end, most_input_bytes}
use Rattle.coco_types.specs.declared.call.Request.{Request}
use Rattle.coco_append.specs.Gaining.{RestsAs, RestsOn}
use Rattle.coco_asks.specs.Asking.{answers_from}
use Rattle.coco_ast.specs.History.{epoch_dones}
use Rattle.coco_ast.specs.Tree.{Procedures}
use Rattle.coco_audit.specs.Texts.{serial_text}
use Rattle.coco_host.specs.Files.{Files}
use Rattle.coco_host.specs.declared.host.Host.{Ghosts as HostGhosts}
use Rattle.coco_io.specs.Counts.{Rose}
use Rattle.coco_ckpt.specs.Compacting.{HasCompacted}
use Rattle.coco_ending.specs.declared.ending.Ending.{Ending}
use Rattle.coco_ending.specs.declared.ending.Ending.TheVariants as ending
use Rattle.coco_init.specs.Initiating.{Initiates}
use Rattle.coco_lines.specs.Lines.{lines_of}
use Rattle.coco_lines.specs.Reads.{Gives, IsSpent}
use Rattle.coco_load.specs.Epochs.{IsNextOf}
use Rattle.coco_log.specs.LogState.{IsOnlyRead}
use Rattle.coco_make.specs.NewStore.{new_layout}
use Rattle.coco_commands.specs.Keeping.{contents_keeping}
use Rattle.coco_rebuild.specs.Rebuilding.{HasRebuilt, IsHeldAlone}
use Rattle.coco_recover.specs.Without.{IsGoodBut}
use Rattle.coco_store.specs.Contents.{Contents, IsGoodStore, history_of}
use Rattle.coco_store.specs.Texts.{IsAcceptedText}
use Rattle.coco_commands.specs.Querying.{MayBeAsked, past_at}
use Rattle.coco_commands.specs.Telling.{dump_in}
use Rattle.coco_commands.specs.Workloads as workloads
use Rattle.coco_commands.specs.Serving.{AreUsedUp, manner_of, Outside, ServedSoFar, RunBounds, Serves}
use Rattle.coco_words.specs.Commands.{IsCommand}
use Rattle.coco_words.specs.declared.Command.{Command}
use Rattle.coco_words.specs.declared.Command.TheVariants.{Init, Run, Dump, Verify, Migrate, Compact, Rebuild, Query, Try}
use Rattle.coco_words.specs.declared.RunOptions.{RunOptions}
use Rattle.coco.specs.Commands.{Obeys, bounds_of}

-- ---- premises

-- no count of faults rose, neither the source's, nor that of the reply stream, that of the files or the net's; and no node stopped before its entry
pub record NoneRose (before after : Outside) : Type 0 where
  pub source : ¬ (Rose before.source_faults after.source_faults)
  pub stream : ¬ (Rose before.say_faults after.say_faults)
  pub disk : ¬ (Rose before.disk_faults after.disk_faults)
  pub net : ¬ (Rose before.around.faults after.around.faults)
  pub power : ¬ (Rose before.around.early after.around.early)

-- the files read as a good store with these contents
pub record ReadsAs (c : Contents) (reads : Option Files) : Type 0 where
  pub files : Files
  pub are : reads ≡ Some files
  pub good : IsGoodStore files c

-- the files read as a store with these contents that is good but for this node's file; there is such a node, and it holds no partition alone
pub record ReadsWithout (node : ℕ) (c : Contents) (reads : Option Files) : Type 0 where
  pub files : Files
  pub are : reads ≡ Some files
  pub good : IsGoodBut node files c
  pub there : node < c.setting.entry.layout.nodes
  pub held : (p : ℕ) → ¬ (IsHeldAlone c.setting.entry.layout node p)

-- the files hold no store yet: the first one is empty
pub record ReadsEmpty (reads : Option Files) : Type 0 where
  pub files : Files
  pub are : reads ≡ Some files
  pub empty : files 0 ≡ []

-- behind whichever first batches of these bytes a next one has a new request, there is a number for its epoch, where none is skipped
abbrev pub HaveNumbers : Contents → ℕ → RunBounds → List ℕ → Type 0
HaveNumbers c next bounds bytes = (p : ServedSoFar (manner_of c.setting bounds) (history_of c) next 0 bounds.size bytes)
    → ¬ (AreUsedUp (manner_of c.setting bounds) (history_of c) next 0 bounds.size bytes p)

-- so it is where each line could have a number of its own
abbrev pub FewLinesHaveNumbers : Type 0
FewLinesHaveNumbers = (c : Contents) (next : ℕ) (bounds : RunBounds) (bytes : List ℕ) → next + length (lines_of bytes) ≤ epochs_end → HaveNumbers c next bounds bytes

-- so it is where requests are worked off
abbrev pub HaveNumbersFor : Contents → ℕ → RunBounds → List Request → Type 0
HaveNumbersFor c next bounds requests = (p : workloads.TriedSoFar (manner_of c.setting bounds) (history_of c) next 0 bounds.size requests)
    → ¬ (workloads.AreUsedUp (manner_of c.setting bounds) (history_of c) next 0 bounds.size requests p)

-- so it is where each request could have a number of its own
abbrev pub FewRequestsHaveNumbers : Type 0
FewRequestsHaveNumbers = (c : Contents) (next : ℕ) (bounds : RunBounds) (requests : List Request) → next + length requests ≤ epochs_end → HaveNumbersFor c next bounds requests

-- a store may take all lines of these bytes
pub record MayTake (c : Contents) (bounds : RunBounds) (bytes : List ℕ) : Type 0 where
  pub few : length bytes < most_input_bytes
  pub numbers : (next : ℕ) → IsNextOf c next → HaveNumbers c next bounds bytes

-- ---- what is left

-- the call is done, with this left behind it, or memory ran out
abbrev pub DoneOrNoMemory : Ending → Type 0 → Type 0
DoneOrNoMemory how Left = ((how ≡ ending.Finished) × Left) ⊎ (how ≡ ending.NoMemory)

module _ {H : Type 0} (frame : HostGhosts H) where
  -- the words are this command and were obeyed, and no count of faults rose
  pub record IsFaultless (command : Command) (how : Ending) (before after : Outside) (old new : H) : Type 0 where
    pub words : List (List ℕ)
    pub is : IsCommand words command
    pub obeyed : Obeys frame words how before after old new
    pub none_rose : NoneRose before after

  -- the input was read to its end, and all its lines are committed and answered; no number was skipped
  pub record AllAreAnswered (c : Contents) (bounds : RunBounds) (bytes : List ℕ) (after : Outside) (old new : H) : Type 0 where
    pub opened : H
    pub opening : IsOnlyRead frame old opened
    pub next : ℕ
    pub is_next : IsNextOf c next
    pub spent : IsSpent after.source
    pub serves : Serves frame c next 0 bounds bytes (Ok tt) opened new

  -- all requests are committed and told of; no number was skipped
  pub record AllAreTold (c : Contents) (bounds : RunBounds) (requests : List Request) (old new : H) : Type 0 where
    pub opened : H
    pub opening : IsOnlyRead frame old opened
    pub next : ℕ
    pub is_next : IsNextOf c next
    pub tries : workloads.Tries frame c next 0 bounds requests (Ok tt) opened new

  -- this text was said
  abbrev pub Says : List ℕ → H → H → Type 0
  Says text old new = frame.said new ≡ append_known (frame.said old) text

  -- ---- each command

  -- `run` on a good store that may take all lines of the bytes given
  abbrev pub RunSucceeds : Type 0
  RunSucceeds = (run : RunOptions) (how : Ending) (before after : Outside) (old new : H) (c : Contents) (bytes : List ℕ)
      → IsFaultless (Run run) how before after old new → ReadsAs c (frame.reads old) → Gives before.source after.source bytes → MayTake c (bounds_of run) bytes
      → DoneOrNoMemory how (AllAreAnswered c (bounds_of run) bytes after old new)

  -- `try` on a good store that has a number for each epoch of the workload
  abbrev pub TrySucceeds : Type 0
  TrySucceeds = (calls seed : ℕ) (run : RunOptions) (how : Ending) (before after : Outside) (old new : H) (c : Contents)
      → IsFaultless (Try calls seed run) how before after old new → ReadsAs c (frame.reads old)
      → ((next : ℕ) → IsNextOf c next → HaveNumbersFor c next (bounds_of run) (workloads.workload_of calls seed))
      → DoneOrNoMemory how (AllAreTold c (bounds_of run) (workloads.workload_of calls seed) old new)

  -- `init` where no store is, with an accepted text given
  abbrev pub InitSucceeds : Type 0
  InitSucceeds = (nodes partitions copies : ℕ) (how : Ending) (before after : Outside) (old new : H) (text : List ℕ) (tree : Procedures)
      → IsFaultless (Init nodes partitions copies) how before after old new → ReadsEmpty (frame.reads old) → Gives before.source after.source text → IsAcceptedText text tree
      → DoneOrNoMemory how (Initiates frame (Ok tt) (new_layout nodes partitions copies text) text after.source old new)

  -- `dump` of a good store
  abbrev pub DumpSucceeds : Type 0
  DumpSucceeds = (how : Ending) (before after : Outside) (old new : H) (c : Contents) → IsFaultless Dump how before after old new → ReadsAs c (frame.reads old) → DoneOrNoMemory how (Says (dump_in c) old new)

  -- `verify` of a good store, whose history is serial
  abbrev pub VerifySucceeds : Type 0
  VerifySucceeds = (how : Ending) (before after : Outside) (old new : H) (c : Contents) → IsFaultless Verify how before after old new → ReadsAs c (frame.reads old)
      → DoneOrNoMemory how (Says (serial_text (length (epoch_dones (history_of c)))) old new)

  -- `migrate` of a good store
  abbrev pub MigrateSucceeds : Type 0
  MigrateSucceeds = (keep : ℕ) (how : Ending) (before after : Outside) (old new : H) (c : Contents) → IsFaultless (Migrate keep) how before after old new → ReadsAs c (frame.reads old)
      → DoneOrNoMemory how (RestsOn (contents_keeping keep c) (frame.reads new) (frame.may_leave new))

  -- `compact` of a good store
  abbrev pub CompactSucceeds : Type 0
  CompactSucceeds = (how : Ending) (before after : Outside) (old new : H) (c : Contents) → IsFaultless Compact how before after old new → ReadsAs c (frame.reads old)
      → DoneOrNoMemory how (RestsAs (HasCompacted c) (frame.reads new) (frame.may_leave new))

  -- `rebuild` of a node that is there, of a store that is good but for its file, where each of its partitions has another holder
  abbrev pub RebuildSucceeds : Type 0
  RebuildSucceeds = (node : ℕ) (how : Ending) (before after : Outside) (old new : H) (c : Contents) → IsFaultless (Rebuild node) how before after old new → ReadsWithout node c (frame.reads old)
      → DoneOrNoMemory how (RestsAs (HasRebuilt node c) (frame.reads new) (frame.may_leave new))

  -- `query` of a good store, at one of its epochs, by fewer than 2^62 bytes: each line is answered by its rows at the end of that epoch
  abbrev pub QuerySucceeds : Type 0
  QuerySucceeds = (at readers : ℕ) (how : Ending) (before after : Outside) (old new : H) (c : Contents) (bytes : List ℕ) → IsFaultless (Query at readers) how before after old new → ReadsAs c (frame.reads old)
      → Gives before.source after.source bytes → length bytes < most_input_bytes → MayBeAsked (history_of c) at
      → DoneOrNoMemory how (Says (answers_from (past_at c at) 1 (lines_of bytes)) old new)
