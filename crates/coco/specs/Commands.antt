-- What a call does for its words: each command by itself.
use Rattle.std.specs.Prelude.{◌≡◌, ◌≢◌, ◌⊎◌, ⊤, ℕ, List, [], length, Option, None, Some, Result, Ok, Err}
use Rattle.coco_host.specs.Files.{Files}
use Rattle.coco_host.specs.Moments.{Observation}
use Rattle.coco_host.specs.declared.host.Host.{Ghosts as HostGhosts}
use Rattle.coco_ending.specs.declared.ending.Ending.{Ending}
use Rattle.coco_ending.specs.declared.ending.Ending.TheVariants as ending
use Rattle.coco_init.specs.Counts.{CountsDisk, CountsReads}
use Rattle.coco_init.specs.Initiating.{Initiates}
use Rattle.coco_lines.specs.Reads.{Gives}
use Rattle.coco_make.specs.NewStore.{new_layout}
use Rattle.coco_commands.specs.Compacting.{Compacts}
use Rattle.coco_commands.specs.Migrating.{Migrates}
use Rattle.coco_commands.specs.Querying.{Queries}
use Rattle.coco_commands.specs.Rebuilding.{Rebuilds}
use Rattle.coco_commands.specs.Running.{RunsOn}
use Rattle.coco_commands.specs.Telling.{Dumps, Verifies}
use Rattle.coco_commands.specs.Trying.{TriesOn}
use Rattle.coco_commands.specs.Serving.{Counts, Outside, RunBounds}
use Rattle.coco_commands.specs.Workloads.{workload_of}
use Rattle.coco_words.specs.Commands.{IsCommand, IsOnlyCommand}
use Rattle.coco_words.specs.declared.Command.{Command}
use Rattle.coco_words.specs.declared.Command.TheVariants.{Init, Run, Dump, Verify, Migrate, Compact, Rebuild, Query, Try}
use Rattle.coco_words.specs.declared.RunOptions.{RunOptions}

-- the ending of a call that succeeded, or that came to this one
abbrev pub ending_in : Result (Unit {0}) Ending → Ending
ending_in (Ok u) = ending.Finished
ending_in (Err e) = e

-- as many lines in a batch, as many workers and as many attempts as the words have
abbrev pub bounds_of : RunOptions → RunBounds
bounds_of run = record { size = run.epoch; workers = run.workers; attempts = run.attempts }

-- the seed of the net's disturbances, behind words that may have one
abbrev pub seed_from : Option ℕ → Option ℕ → Option ℕ
seed_from None before = before
seed_from (Some seed) before = Some seed

-- the net was asked for the disturbances of that seed, if there is one
abbrev pub disturbed : Option ℕ → Outside → Outside
disturbed seed o = record o { around = record o.around { seed = seed_from seed o.around.seed } }

-- a command takes nothing of its input
pub record KeepsSource (before after : Outside) : Type 0 where
  pub source : after.source ≡ before.source
  pub faults : after.source_faults ≡ before.source_faults

-- a command takes nothing of its input, and leaves net and power as they are
pub record KeepsInput (before after : Outside) : Type 0 where
  pub source : after.source ≡ before.source
  pub faults : after.source_faults ≡ before.source_faults
  pub around : after.around ≡ before.around

abbrev pub counts_of : Outside → Counts
counts_of o = record { say = o.say_faults; disk = o.disk_faults }

-- words that are a command need not be obeyed where memory runs out; then nothing is done
abbrev pub NeedsCommand : Ending → Type 0 → Type 0
NeedsCommand ending.BadCommandLine is = ⊤
NeedsCommand ending.NoMemory is = ⊤
NeedsCommand _ is = is

module _ {H : Type 0} (frame : HostGhosts H) where
  -- `init`: a store of these sizes, with the procedures of the text that the source gave
  pub record Inits (nodes partitions copies : ℕ) (how : Ending) (before after : Outside) (old new : H) : Type 0 where
    pub result : Result (Unit {0}) Ending
    pub ends : how ≡ ending_in result
    pub text : List ℕ
    pub gives : Gives before.source after.source text
    pub initiates : Initiates frame result (new_layout nodes partitions copies text) text after.source old new
    pub only_there : (files : Files) → frame.reads old ≡ Some files → files 0 ≢ [] → (result ≡ Err (ending.AlreadyThere (length (files 0)))) ⊎ (result ≡ Err ending.DiskFault)
    pub reading : CountsReads result before.source_faults after.source_faults
    pub disk : CountsDisk result before.disk_faults after.disk_faults
    pub around : after.around ≡ before.around

  abbrev pub Does : Command → Ending → Outside → Outside → H → H → Type 0
  Does (Init nodes partitions copies) how before after old new = Inits nodes partitions copies how before after old new
  Does (Run run) how before after old new = RunsOn frame (bounds_of run) how (disturbed run.disturb before) after old new
  Does Dump how before after old new = KeepsInput before after × Dumps frame how (counts_of before) (counts_of after) old new
  Does Verify how before after old new = KeepsInput before after × Verifies frame how (counts_of before) (counts_of after) old new
  Does (Migrate keep) how before after old new = KeepsInput before after × Migrates frame keep how (counts_of before) (counts_of after) old new
  Does Compact how before after old new = KeepsInput before after × Compacts frame how (counts_of before) (counts_of after) old new
  Does (Rebuild node) how before after old new = KeepsInput before after × Rebuilds frame node how (counts_of before) (counts_of after) old new
  Does (Query at readers) how before after old new = Queries frame at how before after old new
  Does (Try calls seed run) how before after old new = KeepsSource before after
      × TriesOn frame (bounds_of run) (workload_of calls seed) how (disturbed run.disturb before).around after.around (counts_of before) (counts_of after) old new

  -- nothing is done, for want of memory
  abbrev pub LacksMemory : Ending → Outside → Outside → H → H → Type 0
  LacksMemory how before after old new = (how ≡ ending.NoMemory) × (after ≡ before) × (new ≡ old)

  -- words that are a command are obeyed; other words are a bad command line, or memory ran out, and nothing is done
  pub record Obeys (words : List (List ℕ)) (how : Ending) (before after : Outside) (old new : H) : Type 0 where
    pub command : (command : Command) → IsCommand words command → Does command how before after old new ⊎ LacksMemory how before after old new
    pub only : NeedsCommand how ((command : Command) × IsOnlyCommand words command)
    pub none : ((command : Command) → ¬ (IsCommand words command)) → (after ≡ before) × (new ≡ old)
