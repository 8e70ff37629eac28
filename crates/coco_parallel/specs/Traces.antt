-- What an epoch's trace tells.
use Rattle.std.specs.Prelude.{ℕ, List}
use Rattle.coco_types.specs.declared.call.Done.{Done}
use Rattle.coco_occ.specs.declared.outcome.Tailed.{Tailed}
use Rattle.coco_order.specs.Execution.{Beginning, Execution, IsExecution, Journal, Transcript}
use Rattle.coco_order.specs.Outcome.{IsOutcome}
use Rattle.coco_parallel.specs.Tails.{AreLeftOver, IsTail}
use Rattle.coco_parallel.specs.declared.trace.Trace.{Trace}

-- a trace as contracts see it
pub record Traced : Type 0 where
  pub journals : List Journal
  pub transcripts : List Transcript
  pub tail : List Tailed

abbrev pub traced : Trace → Traced
traced t = record { journals = t.journals.items; transcripts = t.transcripts.items; tail = t.tail }

abbrev pub execution_in : Traced → Execution
execution_in t = record { journals = t.journals; transcripts = t.transcripts }

-- Journals and transcripts are an execution, whose outcome the epoch's Dones are. Its tail is the trace's: the requests that
-- no attempt committed, each of which conflicted in as many attempts as are allowed; and no attempt was over time.
pub record IsTraceOf (b : Beginning) (epoch : ℕ) (dones : List Done) (t : Traced) : Type 0 where
  pub execution : IsExecution b (execution_in t)
  pub outcome : IsOutcome b epoch (execution_in t) dones
  pub tail : IsTail b (execution_in t) t.tail
  pub left : AreLeftOver b (execution_in t) t.tail
