use Rattle.std.proofs.Common.{length, ◌-◌, ◌≤◌}
use Rattle.coco_lex.specs.Tokens.{Follow}
use Rattle.coco_lex.proofs.lexer.tokens_of.Given as goal

abbrev pub invariant-loop-at : goal.invariant-loop-at
invariant-loop-at l = record { follow : Follow l.text 0 l.tokens.items l.at; within : l.at ≤ length l.text }

abbrev pub decreases-loop-at : goal.decreases-loop-at
decreases-loop-at l = length l.text - l.at
