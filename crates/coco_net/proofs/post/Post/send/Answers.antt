use Rattle.std.proofs.Common.{◌≡◌, ◌∙◌, ap, ◌∷◌, [], ◌++◌, drop, rules}
use Rattle.std.proofs.lemmas.List.{drop-append-le}
use Rattle.coco_net.specs.Mail.{MailState}
use Rattle.coco_net.specs.declared.letter.Posted.{Posted}
use Rattle.coco_net.proofs.post.Post.send.Goals as goal

pub returns-clause-fresh : goal.returns-clause-fresh
returns-clause-fresh c =
    let one : Posted = record { to = c.args.to; letter = record { from = c.args.from; bytes = c.args.bytes.items } } in
    let since = c.self.inside.since in
    let sent = c.self.inside.sent.items in
    let grown : c.push.new.self.items ≡ sent ++ one ∷ [] = search rules in
    ap (drop since) grown ∙ drop-append-le since sent (one ∷ []) c.self.invariant.passed ∙ ap (λ (s : MailState). drop s.since s.sent ++ one ∷ []) c.self.view_is
