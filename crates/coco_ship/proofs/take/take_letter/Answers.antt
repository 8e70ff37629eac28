use Rattle.std.proofs.Common.{◌∷◌, [], subst, sym}
use Rattle.std.proofs.lemmas.Result.{on_ok_weaker}
use Rattle.coco_ship.specs.Rounds.{FitRing}
use Rattle.coco_ship.specs.Taking.{at_node}
use Rattle.coco_ship.proofs.TakeLemmas.{brings_letter, brings_none, hears_letter, not_said, said, unheard}
use Rattle.coco_ship.proofs.take.take_letter.Goals as goal

pub take_message-requires-clause-readable : goal.take_message-requires-clause-readable
take_message-requires-clause-readable c =
    let says = said c.args.epoch c.args.letter.now.bytes c.in_ok-message.field-0 c.in-Some.message c.in-Some.is c.in_ok-message.ensures.found in
    says.0

pub take_message-requires-clause-fit : goal.take_message-requires-clause-fit
take_message-requires-clause-fit c =
    let says = said c.args.epoch c.args.letter.now.bytes c.in_ok-message.field-0 c.in-Some.message c.in-Some.is c.in_ok-message.ensures.found in
    subst (λ e. FitRing c.args.ring e c.args.lines.now c.args.copies.now) (sym says.2) c.requires.fit

pub returns-in-Some-clause-ok : goal.returns-in-Some-clause-ok
returns-in-Some-clause-ok c =
    let says = said c.args.epoch c.args.letter.now.bytes c.in_ok-message.field-0 c.in-Some.message c.in-Some.is c.in_ok-message.ensures.found in
    on_ok_weaker c.take_message.result (λ takes. hears_letter c.args.ring c.args.epoch c.args.node c.args.letter.now c.in-Some.message c.args.lines.now c.args.copies.now c.take_message.new.lines c.take_message.new.copies says.0 says.1 says.2 takes) c.take_message.ensures.ok

pub returns-in-Some-clause-tables : goal.returns-in-Some-clause-tables
returns-in-Some-clause-tables c =
    let says = said c.args.epoch c.args.letter.now.bytes c.in_ok-message.field-0 c.in-Some.message c.in-Some.is c.in_ok-message.ensures.found in
    brings_letter c.args.ring c.args.epoch c.args.node c.args.letter.now c.in-Some.message c.args.copies.now c.take_message.new.copies says.1 says.2 c.take_message.ensures.tables

pub returns-in-Some-clause-fit : goal.returns-in-Some-clause-fit
returns-in-Some-clause-fit c =
    let says = said c.args.epoch c.args.letter.now.bytes c.in_ok-message.field-0 c.in-Some.message c.in-Some.is c.in_ok-message.ensures.found in
    subst (λ e. FitRing c.args.ring e c.take_message.new.lines c.take_message.new.copies) says.2 c.take_message.ensures.fit

pub returns-in-None-clause-ok : goal.returns-in-None-clause-ok
returns-in-None-clause-ok c =
    unheard c.args.ring c.args.epoch c.args.node c.args.letter.now c.args.lines.now c.args.copies.now (not_said c.args.epoch c.args.letter.now.bytes c.in_ok-message.field-0 c.in-None.is c.in_ok-message.ensures.only)

pub returns-in-None-clause-tables : goal.returns-in-None-clause-tables
returns-in-None-clause-tables c = brings_none c.args.ring c.args.epoch (at_node c.args.node (c.args.letter.now ∷ [])) c.args.copies.now

pub returns-in_err-message-clause-tables : goal.returns-in_err-message-clause-tables
returns-in_err-message-clause-tables c = brings_none c.args.ring c.args.epoch (at_node c.args.node (c.args.letter.now ∷ [])) c.args.copies.now
