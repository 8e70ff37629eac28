use Rattle.std.proofs.Common.{List, ℕ, ◌++◌, sym, ap, ◌∙◌, append_assoc}
use Rattle.std.specs.Char.{encode_utf8}
use Rattle.std.specs.Str.{encode_utf8_all}
use Rattle.std.specs.String.{string_bytes}
use Rattle.coco_lex.specs.Lexeme.{spelled}
use Rattle.coco_print.proofs.Escapes.{spelled_more}
use Rattle.coco_print.proofs.pieces.push_spelled.Goals as goal

pub loop-c-preserved : goal.loop-c-preserved
loop-c-preserved c =
    c.in_ok-push_char.ensures ∙ ap (λ (l : List ℕ). l ++ spelled (encode_utf8 c.in-Some.c)) c.loop-c.invariant
    ∙ append_assoc (string_bytes c.args.out.now) (spelled (encode_utf8_all c.loop-c.yielded)) (spelled (encode_utf8 c.in-Some.c))
    ∙ ap (λ (l : List ℕ). string_bytes c.args.out.now ++ l) (sym (spelled_more c.loop-c.yielded c.in-Some.c))
