use Rattle.std.proofs.Common.{◌≡◌, ◌∙◌, ap, ◌∷◌, [], ◌++◌, append_assoc, refl, sym, rules}
use Rattle.std.proofs.Math.Seq.{drop-append_seam}
use Rattle.coco_net.specs.Mail.{MailState, fresh}
use Rattle.coco_net.specs.declared.letter.Posted.{Posted}
use Rattle.coco_net.proofs.MailLemmas.{same_state}
use Rattle.coco_net.proofs.fresh_post.FreshPost.send.Goals as goal

pub returns-clause-ok : goal.returns-clause-ok
returns-clause-ok c =
    let one : Posted = record { to = c.args.to; letter = record { from = c.args.from; bytes = c.args.bytes.items } } in
    let before = c.self.inside.before.items in
    let more : c.push.new.self.items ≡ c.self.inside.fresh.items ++ one ∷ [] = search rules in
    same_state _ _ (ap (λ ps. before ++ ps) more ∙ sym (append_assoc before c.self.inside.fresh.items (one ∷ []))) refl refl refl refl refl
    ∙ ap (λ (s : MailState). record s { sent = s.sent ++ one ∷ [] }) c.self.view_is

pub returns-clause-fresh : goal.returns-clause-fresh
returns-clause-fresh c =
    let one : Posted = record { to = c.args.to; letter = record { from = c.args.from; bytes = c.args.bytes.items } } in
    let before = c.self.inside.before.items in
    let more : c.push.new.self.items ≡ c.self.inside.fresh.items ++ one ∷ [] = search rules in
    drop-append_seam before c.push.new.self.items ∙ more ∙ ap (λ ps. ps ++ one ∷ []) (sym (drop-append_seam before c.self.inside.fresh.items))
    ∙ ap (λ (s : MailState). fresh s ++ one ∷ []) c.self.view_is
