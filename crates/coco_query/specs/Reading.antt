-- What a reader asks of tables and is answered, and what that says of its call.
use Rattle.std.specs.Prelude.{◌≡◌, ℕ, nat_eq, List, filter, Option, None, Some}
use Rattle.std.specs.List.{AllByRecursion, slice_get}
use Rattle.coco_types.specs.RowKey.{RowKey, partition_of}
use Rattle.coco_types.specs.declared.call.Call.{Call}
use Rattle.coco_types.specs.declared.call.Reply.{Reply}
use Rattle.coco_ast.specs.Keyed.{Rows}
use Rattle.coco_ast.specs.Meaning.{run}
use Rattle.coco_ast.specs.Tree.{Procedures}
use Rattle.coco_desks.specs.Gains.{Gain}
use Rattle.coco_eval.specs.Standing.{HasGiven, keys_of}
use Rattle.coco_eval.specs.declared.machine.Given.{Given}
use Rattle.coco_journaled.specs.Passes.{Passing}
use Rattle.coco_journaled.specs.declared.entry.Placed.{Placed}
use Rattle.coco_query.specs.Frozen.{had}
use Rattle.coco_query.specs.declared.frozen.Frozen.{Frozen}
use Rattle.coco_query.specs.declared.frozen.FrozenAnswer.{FrozenAnswer}
use Rattle.coco_query.specs.declared.frozen.FrozenAnswer.TheVariants.{Had}
use Rattle.coco_query.specs.declared.frozen.FrozenAsk.{FrozenAsk}
use Rattle.coco_query.specs.declared.frozen.FrozenAsk.TheVariants.{Get}

-- a pass of a table
abbrev pub FrozenPass : Type 0
FrozenPass = Passing Frozen FrozenAsk FrozenAnswer

-- ---- what was asked and answered

-- the key with the value that it had
abbrev pub given_by : RowKey → FrozenAnswer → Given
given_by key (Had value) = record { key = key; value = value }

abbrev pub given_in : FrozenAsk → FrozenAnswer → Given
given_in (Get key) answer = given_by key answer

-- what a call of a table asked for and got
abbrev pub got : Placed FrozenAsk FrozenAnswer → Given
got c = given_in c.ask c.answer

-- those of them whose keys are on the table at a place, of so many
abbrev pub gets_at : ℕ → ℕ → List Given → List Given
gets_at count p gs = filter (λ (g : Given). nat_eq (partition_of count g.key) p) gs

-- the table that a pass found at its start
abbrev pub root_of : Option FrozenPass → Option Frozen
root_of None = None
root_of (Some p) = p.root

-- the value is the one that the key has in its table, by the pass of that
abbrev pub IsAnswered : ℕ → List FrozenPass → Given → Type 0
IsAnswered count passes g = (table : Frozen) × (root_of (slice_get passes (partition_of count g.key)) ≡ Some table) × (g.value ≡ had table g.key)

-- each key was asked for at its table and nowhere else, in order, and answered with the value that it has there
pub record Reads (count : ℕ) (before after : List FrozenPass) (gs : List Given) : Type 0 where
  pub gets : Gain got before after (λ p. gets_at count p gs)
  pub answered : AllByRecursion (IsAnswered count before) gs

-- ---- what that says of a call

-- on every map that has these values at their keys, the call's run needs these keys alone, and has this reply
abbrev pub EndsOn : Procedures → Call → List Given → Reply → Type 0
EndsOn procs call gs reply = (m : Rows) → HasGiven gs m → ((run procs call m).reply ≡ reply) × ((run procs call m).needs ≡ keys_of gs)
