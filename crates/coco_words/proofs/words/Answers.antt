use Rattle.std.proofs.Common.{ap, map, sym, ◌∙◌, ◌∷◌, Err}
use Rattle.std.specs.String.{string_bytes}
use Rattle.coco_words.proofs.CommandWords.{no_command, none_found, only_command}
use Rattle.coco_words.proofs.words.Goals as goal

pub returns-in_err-matches-clause-usage : goal.returns-in_err-matches-clause-usage
returns-in_err-matches-clause-usage c = λ e.
    let same = rw e at c.from_residual.ensures.1 in
    let words_are = ap (map string_bytes) c.in-Some.ensures.cases.0 ∙ ap (λ t. t ∷ map string_bytes c.in-Some.options.now) (sym c.as_str.ensures.value ∙ c.in-Some-kind_named.ensures) in
    no_command (map string_bytes c.args.words.now) (map string_bytes c.in-Some.options.now) c.in-Some-kind_named.kind words_are
    (λ numbers gives agree. c.in_err-matches.ensures.usage (ap Err (sym same)) numbers gives)

pub returns-in-Some-command_with-clause-ok : goal.returns-in-Some-command_with-clause-ok
returns-in-Some-command_with-clause-ok c =
    let words_are = ap (map string_bytes) c.in-Some.ensures.cases.0 ∙ ap (λ t. t ∷ map string_bytes c.in-Some.options.now) (sym c.as_str.ensures.value ∙ c.in-Some-kind_named.ensures) in
    only_command (map string_bytes c.args.words.now) (map string_bytes c.in-Some.options.now) c.in-Some-kind_named.kind words_are c.in_ok-matches.matches
    c.in_ok-matches.ensures.reads c.in_ok-matches.ensures.only c.in-Some-command_with.command c.in-Some-command_with.ensures.0 c.in-Some-command_with.ensures.1 c.in-Some-command_with.ensures.3

pub returns-clause-usage : goal.returns-clause-usage
returns-clause-usage c = λ e.
    let words_are = ap (map string_bytes) c.in-Some.ensures.cases.0 ∙ ap (λ t. t ∷ map string_bytes c.in-Some.options.now) (sym c.as_str.ensures.value ∙ c.in-Some-kind_named.ensures) in
    no_command (map string_bytes c.args.words.now) (map string_bytes c.in-Some.options.now) c.in-Some-kind_named.kind words_are
    (none_found (map string_bytes c.in-Some.options.now) c.in-Some-kind_named.kind c.in_ok-matches.matches c.in_ok-matches.ensures.only c.in-None.ensures)
