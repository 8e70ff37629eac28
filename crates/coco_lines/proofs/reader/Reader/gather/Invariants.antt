use Rattle.std.proofs.Common.{◌≡◌}
use Rattle.coco_lines.specs.Gathering.{Gathering, reads_left}
use Rattle.coco_lines.specs.ReaderState.{IsReaderState}
use Rattle.coco_lines.specs.Reads.{source_moment}
use Rattle.coco_lines.proofs.reader.Reader.gather.Given as goal

abbrev pub decreases-loop-longer : goal.decreases-loop-longer
decreases-loop-longer g l = reads_left l.self

abbrev pub invariant-loop-longer : goal.invariant-loop-longer
invariant-loop-longer g l = record {
  gathering : Gathering l.fn.self l.self (source_moment g.S.Source l.fn.source) (source_moment g.S.Source l.source) l.body l.self.pending;
  faults : g.S.Source.faults l.source ≡ g.S.Source.faults l.fn.source;
  was_state : IsReaderState l.fn.self;
  is_state : IsReaderState l.self;
}
