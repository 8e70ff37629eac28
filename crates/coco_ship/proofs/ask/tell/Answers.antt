use Rattle.std.proofs.Common.{◌≡◌, ◌∙◌, ◌++◌, ◌∷◌, [], List, ℕ, ap, arith, subst, sym}
use Rattle.std.proofs.lemmas.Result.{on_ok_weaker}
use Rattle.coco_msg.specs.Bytes.{ArePlaces, IsMessage}
use Rattle.coco_msg.specs.declared.message.Message.TheVariants.{Total}
use Rattle.coco_ship.specs.Letters.{posted_of}
use Rattle.coco_ship.specs.Placing.{primary_of}
use Rattle.coco_ship.specs.Sending.{ask_of}
use Rattle.coco_ship.proofs.ask.tell.Goals as goal

pub write_letter-requires : goal.write_letter-requires
write_letter-requires c = (omega arith, omega arith, subst ArePlaces (sym c.from_vec-places.ensures) c.in_ok-listed.ensures.readable)

pub returns-clause-readable : goal.returns-clause-readable
returns-clause-readable c =
    let readable : ArePlaces c.args.line.now.all = subst ArePlaces c.in_ok-listed.ensures.places c.in_ok-listed.ensures.readable in
    let is : IsMessage (Total c.args.epoch c.args.partition c.args.line.now.all) = (omega arith, omega arith, readable) in
    on_ok_weaker c.write_letter.result (λ _. is) c.write_letter.ensures

pub returns-clause-letters : goal.returns-clause-letters
returns-clause-letters c =
    let ring = c.args.ring in
    let p = c.args.partition in
    let e = c.args.epoch in
    let old = c.args.letters.now.items in
    let places : c.from_vec-places.result ≡ c.args.line.now.all = c.from_vec-places.ensures ∙ c.in_ok-listed.ensures.places in
    let named : old ++ posted_of c.primary.result c.holder-to.result (Total e p c.from_vec-places.result) ∷ [] ≡ old ++ ask_of ring p c.args.copy (Total e p c.args.line.now.all) ∷ [] =
    ap (λ (ps : List ℕ). old ++ posted_of c.primary.result c.holder-to.result (Total e p ps) ∷ []) places
    ∙ ap (λ (f : ℕ). old ++ posted_of f c.holder-to.result (Total e p c.args.line.now.all) ∷ []) c.primary.ensures.value
    ∙ ap (λ (t : ℕ). old ++ posted_of (primary_of ring p) t (Total e p c.args.line.now.all) ∷ []) c.holder-to.ensures.value in
    on_ok_weaker c.write_letter.result (λ is. is ∙ named) c.write_letter.ensures
