use Rattle.std.proofs.Common.{◌≡◌, ◌∙◌, ◌++◌, ◌∷◌, [], List, ℕ, ap, inl, inr}
use Rattle.std.proofs.lemmas.Result.{on_ok_weaker}
use Rattle.coco_msg.specs.Bytes.{bytes_of}
use Rattle.coco_net.specs.declared.letter.Posted.{Posted}
use Rattle.coco_ship.specs.Letters.{ship_of}
use Rattle.coco_ship.specs.Placing.{primary_of}
use Rattle.coco_ship.specs.Sending.{ask_of, AreNoneOr}
use Rattle.coco_ship.proofs.ask.ship.Goals as goal

pub returns-clause-letters : goal.returns-clause-letters
returns-clause-letters c =
    let ring = c.args.ring in
    let x = c.args.piece.now in
    let old = c.args.letters.now.items in
    let letter : ℕ → ℕ → List ℕ → Posted = λ from to bytes. record { to = to; letter = record { from = from; bytes = bytes } } in
    let named : old ++ letter c.primary-from.result c.holder-to.result c.in_ok-taken.taken.items ∷ [] ≡ old ++ ask_of ring x.partition c.args.copy (ship_of c.args.epoch x) ∷ [] =
    ap (λ (bs : List ℕ). old ++ letter c.primary-from.result c.holder-to.result bs ∷ []) (c.in_ok-taken.ensures.taken ∙ c.in_ok-write_ship.ensures)
    ∙ ap (λ (f : ℕ). old ++ letter f c.holder-to.result (bytes_of (ship_of c.args.epoch x)) ∷ []) c.primary-from.ensures.value
    ∙ ap (λ (t : ℕ). old ++ letter (primary_of ring x.partition) t (bytes_of (ship_of c.args.epoch x)) ∷ []) c.holder-to.ensures.value in
    on_ok_weaker c.add_letter.result (λ is. is ∙ named) c.add_letter.ensures

pub returns-clause-bytes : goal.returns-clause-bytes
returns-clause-bytes c =
    let left : AreNoneOr (ship_of c.args.epoch c.args.piece.now) c.taken_or_copied.new.bytes.items = elim c.taken_or_copied.ensures.left [
      | inl none ↦ inl none
      | inr same ↦ inr (same ∙ c.in_ok-write_ship.ensures)
    ] in
    on_ok_weaker c.add_letter.result (λ _. left) c.add_letter.ensures
