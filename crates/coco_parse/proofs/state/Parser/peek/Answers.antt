use Rattle.std.proofs.Common.{refl, sym, ap, ◌∙◌, Some}
use Rattle.std.specs.Prelude.{option_map}
use Rattle.std.proofs.lemmas.Option.{slice_get_read, slice_get_past, slice_get-map}
use Rattle.coco_parse.specs.Wording.{word_of}
use Rattle.coco_parse.proofs.Readables.{readable}
use Rattle.coco_parse.proofs.state.Parser.peek.Goals as goal

pub word_of-requires : goal.word_of-requires
word_of-requires c =
    let p = c.args.self.now in
    let found = c.in-Some.ensures.lookup in
    readable p.text.now p.tokens.now c.args.cursor.now.at c.in-Some.token.now p.are_tokens (slice_get_read p.tokens.now _ c.args.cursor.now.at c.in-Some.token.now refl found.3.0 found.1)

pub returns-in-Some-clause-word : goal.returns-in-Some-clause-word
returns-in-Some-clause-word c =
    let p = c.args.self.now in
    let found = c.in-Some.ensures.lookup in
    let here = slice_get_read p.tokens.now _ c.args.cursor.now.at c.in-Some.token.now refl found.3.0 found.1 in
    ap Some c.word_of.ensures.word ∙ sym (slice_get-map (word_of p.text.now) p.tokens.now c.args.cursor.now.at ∙ ap (option_map (word_of p.text.now)) here)

pub returns-in-None-clause-word : goal.returns-in-None-clause-word
returns-in-None-clause-word c =
    let p = c.args.self.now in
    let none = slice_get_past p.tokens.now c.args.cursor.now.at c.in-None.ensures.lookup.3 in
    sym (slice_get-map (word_of p.text.now) p.tokens.now c.args.cursor.now.at ∙ ap (option_map (word_of p.text.now)) none)
