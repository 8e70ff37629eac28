use Rattle.std.proofs.Common.{◌∙◌, ◌++◌, ◌∷◌, [], List, ℕ, ap}
use Rattle.std.proofs.lemmas.Result.{on_ok_weaker}
use Rattle.coco_net.specs.declared.letter.Posted.{Posted}
use Rattle.coco_ship.proofs.MessageLemmas.{has_bytes}
use Rattle.coco_ship.proofs.mail.write_letter.Goals as goal

pub message_bytes-requires : goal.message_bytes-requires
message_bytes-requires c = has_bytes c.args.message.now c.requires

pub returns : goal.returns
returns c =
    let old : List Posted = c.args.letters.now.items in
    on_ok_weaker c.add_letter.result
    (λ is. is ∙ ap (λ (bs : List ℕ). old ++ record { to = c.args.to; letter = record { from = c.args.from; bytes = bs } } ∷ []) c.in_ok-bytes.ensures)
    c.add_letter.ensures
