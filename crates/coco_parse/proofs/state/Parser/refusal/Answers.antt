use Rattle.std.proofs.Common.{refl}
use Rattle.std.proofs.lemmas.Option.{slice_get_read, slice_get_past}
use Rattle.coco_parse.proofs.Steps.{place_at, place_end}
use Rattle.coco_parse.proofs.state.Parser.refusal.Goals as goal

pub returns-in-Some-clause-place : goal.returns-in-Some-clause-place
returns-in-Some-clause-place c =
    let p = c.args.self.now in
    let found = c.in-Some.ensures.lookup in
    place_at p.text.now p.tokens.now c.args.cursor.now.at c.in-Some.token.now (slice_get_read p.tokens.now _ c.args.cursor.now.at c.in-Some.token.now refl found.3.0 found.1)

pub returns-in-None-clause-place : goal.returns-in-None-clause-place
returns-in-None-clause-place c =
    let p = c.args.self.now in
    place_end p.text.now p.tokens.now c.args.cursor.now.at (slice_get_past p.tokens.now c.args.cursor.now.at c.in-None.ensures.lookup.3)
