use Rattle.std.proofs.Common.{◌≡◌, ◌*◌, map}
use Rattle.std.specs.List.{range_with_len}
use Rattle.coco_gen.specs.Workload.{generator_of, request_at, words_from}
use Rattle.coco_gen.proofs.workload.Given as goal

-- the requests of the pairs so far, and the generator behind their words
abbrev pub invariant-loop-pair : goal.invariant-loop-pair
invariant-loop-pair l = record {
  made : l.requests.items ≡ map (request_at l.seed) (range_with_len 0 (2 * l.pair));
  drawn : l.generator ≡ words_from (3 * l.pair) (generator_of l.seed);
}
