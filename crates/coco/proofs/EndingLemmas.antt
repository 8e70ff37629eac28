-- How much of an ending's line is written, and which endings need a command.
use Rattle.std.proofs.Common.{ℕ, Result, Ok, Err, OnErr}
use Rattle.coco_ending.specs.declared.ending.Ending.{Ending}
use Rattle.coco_ending.specs.declared.ending.Ending.TheVariants as ending
use Rattle.coco.specs.Commands.{NeedsCommand}

-- what was written is a front
pub front_of : {T E : Type 0} (P Q : ℕ → Type 0) (result : Result T E) → OnErr result ((k : ℕ) × P k × Q k) → OnErr result ((k : ℕ) × Q k)
front_of P Q (Ok x) err = tt
front_of P Q (Err e) err = (err.0, err.2)

pub needs : (e : Ending) (X : Type 0) → X → NeedsCommand e X
needs ending.Finished X x = x
needs ending.BadCommandLine X x = tt
needs ending.ReadFault X x = x
needs ending.SayFault X x = x
needs ending.DiskFault X x = x
needs ending.Unreachable X x = x
needs ending.NoMemory X x = tt
needs (ending.NotAStore file at) X x = x
needs ending.EpochsUsedUp X x = x
needs (ending.Refused error) X x = x
needs (ending.AlreadyThere bytes) X x = x
needs (ending.NotSerial place) X x = x
needs (ending.NoHolder partition) X x = x
needs (ending.NoNode node nodes) X x = x
needs (ending.NotWithin epoch first last) X x = x
