use Rattle.std.proofs.Common.{◌≡◌, ◌++◌, ◌-◌, ◌%◌, ◌==◌, map}
use Rattle.coco_net.specs.Rounds.{after_places, after_words, place_words, words}
use Rattle.coco_net.proofs.seeded.turns.Given as goal

-- the places so far, and those to come by the words to come
abbrev pub invariant-loop-place : goal.invariant-loop-place
invariant-loop-place l = record {
  turns : l.turns.items ++ map (λ w. w % 2 == 1) (words (9 - l._place) l.generator) ≡ map (λ w. w % 2 == 1) (place_words l.initial.generator);
  after : after_words (9 - l._place) l.generator ≡ after_places l.initial.generator;
}
