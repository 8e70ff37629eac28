use Rattle.std.proofs.Common.{inl, sym, subst}
use Rattle.std.specs.Str.{IsValidUpTo}
use Rattle.coco_lex.proofs.Readings.{only_tokens, only_refusal, bad_byte_first}
use Rattle.coco_lex.proofs.lexer.lex.Goals as goal

pub returns-in-Ok-clause-only_tokens : goal.returns-in-Ok-clause-only_tokens
returns-in-Ok-clause-only_tokens c = only_tokens c.args.text.now (λ v. v.items) c.tokens_of.result c.tokens_of.ensures.tokens c.tokens_of.ensures.refused

pub returns-in-Ok-clause-only_refusal : goal.returns-in-Ok-clause-only_refusal
returns-in-Ok-clause-only_refusal c = only_refusal c.args.text.now (λ v. v.items) c.tokens_of.result c.tokens_of.ensures.tokens c.tokens_of.ensures.refused

pub returns-in-Err-clause-only_refusal : goal.returns-in-Err-clause-only_refusal
returns-in-Err-clause-only_refusal c e h = inl (bad_byte_first c.args.text.now c.valid_up_to.result (subst (IsValidUpTo c.args.text.now) (sym c.valid_up_to.ensures) c.in-Err.ensures.cases.1) e h)
