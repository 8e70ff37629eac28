use Rattle.std.proofs.Common.{◌≡◌, ◌∙◌, ap, map, sym, subst, inl, inr}
use Rattle.std.specs.Str.{bytes_eq}
use Rattle.std.specs.String.{string_bytes}
use Rattle.clap.specs.Words.{IsAmong, fault_of, is_simple, is_simple_and_free, kind_of, matches_of}
use Rattle.coco_words.specs.declared.WordsFault.TheVariants.{Usage}
use Rattle.coco_words.proofs.ClapOptions.{dash}
use Rattle.coco_words.proofs.CommandWords.{any_text, dashes-refused, fault-refused, is_free, is_plain_parser, words-found, words-only}
use Rattle.coco_words.proofs.reading.options_in.Goals as goal

pub returns-then-has_dashes-clause-usage : goal.returns-then-has_dashes-clause-usage
returns-then-has_dashes-clause-usage c = λ e.
    dashes-refused c.args.kind (map string_bytes c.args.words.now)
    (sym (any_text string_bytes (λ word. bytes_eq word dash) c.args.words.now) ∙ sym c.has_dashes.ensures ∙ c.if-has_dashes.true)

pub returns-in-Ok-clause-reads : goal.returns-in-Ok-clause-reads
returns-in-Ok-clause-reads c =
    let texts = map string_bytes c.args.words.now in
    words-found c.args.kind c.in-Ok.matches texts
    ((c.in-Ok.ensures.matches (ap is_simple c.in_ok-command.ensures ∙ is_plain_parser c.args.kind)).0 ∙ ap (λ a. matches_of a texts) c.in_ok-command.ensures)
    (sym (any_text string_bytes (λ word. bytes_eq word dash) c.args.words.now) ∙ sym c.has_dashes.ensures ∙ c.if-has_dashes.false)
    (sym (ap (λ a. fault_of a texts) c.in_ok-command.ensures) ∙ c.in-Ok.ensures.kinds (ap is_simple_and_free c.in_ok-command.ensures ∙ is_free c.args.kind))

pub returns-in-Ok-clause-only : goal.returns-in-Ok-clause-only
returns-in-Ok-clause-only c =
    let texts = map string_bytes c.args.words.now in
    words-only c.args.kind c.in-Ok.matches texts
    ((c.in-Ok.ensures.matches (ap is_simple c.in_ok-command.ensures ∙ is_plain_parser c.args.kind)).0 ∙ ap (λ a. matches_of a texts) c.in_ok-command.ensures)

pub returns-in-Err-clause-usage : goal.returns-in-Err-clause-usage
returns-in-Err-clause-usage c = λ e numbers gives.
    let texts = map string_bytes c.args.words.now in
    let none = ap (λ a. fault_of a texts) c.in_ok-command.ensures ∙ fault-refused c.args.kind texts numbers gives in
    let usage : c.from.result ≡ Usage = cc in
    elim (c.in-Err.ensures.kinds (ap is_simple_and_free c.in_ok-command.ensures ∙ is_free c.args.kind)) [
      | inl memory ↦ c.from.ensures usage memory
      | inr among ↦ subst (IsAmong (kind_of c.in-Err.error)) none among
    ]
