use Rattle.coco_commands.proofs.rebuilding.rebuild.Goals as goal

pub returns : goal.returns
returns g c = record {
  result = c.rebuild.result;
  ends = c.ending_of_rebuilding.ensures;
  refused = c.rebuild.ensures.refused;
  holds = c.rebuild.ensures.holds;
  answers = c.rebuild.ensures.answers;
  seen = c.rebuild.ensures.seen;
  quiet = c.rebuild.ensures.said;
  cause = c.rebuild.ensures.counts;
  stream = c.rebuild.ensures.stream;
}
