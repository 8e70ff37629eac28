use Rattle.std.proofs.Common.{◌≡◌, ◌++◌, drop}
use Rattle.coco_audit.proofs.Tokens.{args_tokens}
use Rattle.coco_audit.proofs.dump.put_args.Given as goal

-- the tokens so far, and those of the arguments to come
abbrev pub invariant-loop-place : goal.invariant-loop-place
invariant-loop-place l = record {
  tokens : l.writer.tokens ++ args_tokens (drop l.place l.args) ≡ l.initial.writer.tokens ++ args_tokens l.args;
  before : l.writer.before ≡ l.initial.writer.before;
}
