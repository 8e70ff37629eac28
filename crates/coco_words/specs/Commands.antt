-- The commands of the program.
use Rattle.std.specs.Prelude.{◌≡◌, ⊤, ◌<◌, ◌-◌, ◌^◌, ℕ, Bool, true, false, List, [], ◌∷◌, Option, Some, codes}
use Rattle.coco_types.specs.Limits.{epochs_end, most_attempts, most_batch_lines, most_copies, most_keep, most_nodes, most_partitions, most_workers}
use Rattle.coco_words.specs.Options.{Text, NumberOption, GivesNumbers, Left, Refused, Taken}
use Rattle.coco_words.specs.declared.Command.{Command}
use Rattle.coco_words.specs.declared.Command.TheVariants.{Init, Run, Dump, Verify, Migrate, Compact, Rebuild, Query, Try}
use Rattle.coco_words.specs.declared.Kind.{Kind}
use Rattle.coco_words.specs.declared.Kind.TheVariants as kind
use Rattle.coco_words.specs.declared.RunOptions.{RunOptions}

abbrev pub kind_of : Command → Kind
kind_of (Init nodes partitions copies) = kind.Init
kind_of (Run run) = kind.Run
kind_of Dump = kind.Dump
kind_of Verify = kind.Verify
kind_of (Migrate keep) = kind.Migrate
kind_of Compact = kind.Compact
kind_of (Rebuild node) = kind.Rebuild
kind_of (Query at readers) = kind.Query
kind_of (Try calls seed run) = kind.Try

-- the word that a command begins with
abbrev pub name_of : Kind → Text
name_of kind.Init = codes "init"
name_of kind.Run = codes "run"
name_of kind.Dump = codes "dump"
name_of kind.Verify = codes "verify"
name_of kind.Migrate = codes "migrate"
name_of kind.Compact = codes "compact"
name_of kind.Rebuild = codes "rebuild"
name_of kind.Query = codes "query"
name_of kind.Try = codes "try"

-- whether a command only reads its store
abbrev pub reads_alone : Kind → Bool
reads_alone kind.Init = false
reads_alone kind.Run = false
reads_alone kind.Dump = true
reads_alone kind.Verify = true
reads_alone kind.Migrate = false
reads_alone kind.Compact = false
reads_alone kind.Rebuild = false
reads_alone kind.Query = true
reads_alone kind.Try = false

-- an option that needn't be given
abbrev pub optional : Text → ℕ → ℕ → ℕ → NumberOption
optional name default least most = record { name = name; missing = Taken default; least = least; most = most }

-- an option that has to be given
abbrev pub wanted : Text → ℕ → ℕ → NumberOption
wanted name least most = record { name = name; missing = Refused; least = least; most = most }

-- an option that may be left out
abbrev pub left_out : Text → ℕ → ℕ → NumberOption
left_out name least most = record { name = name; missing = Left; least = least; most = most }

-- the options of `run`: how many lines make an epoch, how many workers run it, how often they try a request, and the seed of the net's disturbances
abbrev pub run_options : List NumberOption
run_options =
    optional (codes "epoch") 100 1 most_batch_lines ∷ optional (codes "workers") 1 1 most_workers ∷ optional (codes "attempts") 3 1 most_attempts ∷ left_out (codes "disturb") 0 (2 ^ 63 - 1) ∷ []

-- the options of a command. As many readers may read as workers may run an epoch
abbrev pub options_for : Kind → List NumberOption
options_for kind.Init = optional (codes "nodes") 1 1 most_nodes ∷ optional (codes "partitions") 1 1 most_partitions ∷ optional (codes "copies") 0 0 most_copies ∷ []
options_for kind.Run = run_options
options_for kind.Dump = []
options_for kind.Verify = []
options_for kind.Migrate = wanted (codes "keep") 1 most_keep ∷ []
options_for kind.Compact = []
options_for kind.Rebuild = wanted (codes "node") 0 (most_nodes - 1) ∷ []
options_for kind.Query = wanted (codes "at") 0 (epochs_end - 1) ∷ optional (codes "readers") 1 1 most_workers ∷ []
options_for kind.Try = wanted (codes "calls") 1 1000000 ∷ wanted (codes "seed") 0 (2 ^ 43 - 1) ∷ run_options

abbrev pub options_of : Command → List NumberOption
options_of command = options_for (kind_of command)

abbrev pub run_numbers : RunOptions → List (Option ℕ)
run_numbers run = Some run.epoch ∷ Some run.workers ∷ Some run.attempts ∷ run.disturb ∷ []

-- the numbers of its options
abbrev pub numbers_of : Command → List (Option ℕ)
numbers_of (Init nodes partitions copies) = Some nodes ∷ Some partitions ∷ Some copies ∷ []
numbers_of (Run run) = run_numbers run
numbers_of Dump = []
numbers_of Verify = []
numbers_of (Migrate keep) = Some keep ∷ []
numbers_of Compact = []
numbers_of (Rebuild node) = Some node ∷ []
numbers_of (Query at readers) = Some at ∷ Some readers ∷ []
numbers_of (Try calls seed run) = Some calls ∷ Some seed ∷ run_numbers run

-- the numbers go together: a copy stands on each other node at most
abbrev pub Agree : Kind → List (Option ℕ) → Type 0
Agree kind.Init (Some nodes ∷ partitions ∷ Some copies ∷ []) = copies < nodes
Agree kind numbers = ⊤

-- the words are the command: its name first, and then its options, whose numbers go together
abbrev pub IsCommand : List Text → Command → Type 0
IsCommand words command = (others : List Text) × (words ≡ name_of (kind_of command) ∷ others) × GivesNumbers (options_of command) others (numbers_of command)
    × Agree (kind_of command) (numbers_of command)

-- the words are this command and no other
pub record IsOnlyCommand (words : List Text) (command : Command) : Type 0 where
  pub is : IsCommand words command
  pub only : (other : Command) → IsCommand words other → other ≡ command
