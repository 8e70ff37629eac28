use Rattle.std.proofs.Common.{◌≡◌, ◌+◌, ◌-◌, ◌≤◌, true}
use Rattle.coco_types.specs.Limits.{most_input_bytes}
use Rattle.coco_lines.specs.Reads.{IsSpent, source_moment}
use Rattle.coco_asks.proofs.EndLemmas.{IsAsking}
use Rattle.coco_asks.proofs.input.answer_asks.Given as goal

abbrev pub invariant-batches : goal.invariant-batches
invariant-batches g l = record {
  asking : IsAsking g.H.Host l.procs l.fn.tables.items l.bounds.epoch l.reader
      (source_moment g.S.Source l.fn.input) (source_moment g.S.Source l.input) l.fn.host l.host;
  tables : l.tables.items ≡ l.fn.tables.items;
  within : l.reader.given ≤ most_input_bytes;
  end : l.reader.ended ≡ true → IsSpent (source_moment g.S.Source l.input);
  reads : g.S.Source.faults l.input ≡ g.S.Source.faults l.fn.input;
  says : g.H.Host.say_faults l.host ≡ g.H.Host.say_faults l.fn.host;
  disks : g.H.Host.disk_faults l.host ≡ g.H.Host.disk_faults l.fn.host;
}

abbrev pub decreases-batches : goal.decreases-batches
decreases-batches g l = most_input_bytes + 1 - l.reader.given
