use Rattle.std.proofs.Common.{ℕ, List, [], ◌∷◌, ◌++◌, ap, ◌∙◌}
use Rattle.std.proofs.lemmas.Result.{on_ok_weaker}
use Rattle.coco_net.specs.declared.letter.Posted.{Posted}
use Rattle.coco_letters.proofs.WorldLemmas.{again_goes}
use Rattle.coco_letters.proofs.sending.resend.Goals as goal

pub returns-clause-world : goal.returns-clause-world
returns-clause-world g c =
    let before : List Posted = g.N.Net.sent c.args.net.now in
    on_ok_weaker c.send.result
    (λ is. λ cores chief. again_goes c.args.from c.args.to c.args.message.now cores chief before (g.N.Net.sent c.send.new.self) c.requires.message c.requires.sent
    (is ∙ ap (λ (bytes : List ℕ). before ++ record { to = c.args.to; letter = record { from = c.args.from; bytes = bytes } } ∷ []) c.in_ok-bytes.ensures))
    c.send.ensures.ok
