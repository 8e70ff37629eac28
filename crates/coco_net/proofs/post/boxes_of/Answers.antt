use Rattle.std.proofs.Common.{◌≡◌, ap, ◌∙◌, get_or, false, rules, ◌++◌, ◌∷◌, []}
use Rattle.coco_net.specs.Mail.{letters_to, picked, turned}
use Rattle.coco_net.proofs.MailLemmas.{few_more, one_box_more}
use Rattle.coco_net.proofs.post.boxes_of.Goals as goal

pub loop-place-preserved : goal.loop-place-preserved
loop-place-preserved c =
    let these = picked c.args.sent.now c.args.chosen.now in
    let more : c.push.new.self.items ≡ c.loop-place.boxes.items ++ c.in_a_box.result ∷ [] = search rules in
    record {
      letters = one_box_more (λ q. q.items) (λ p. turned (get_or c.args.turns.now p false) (letters_to p these)) c.loop-place.place c.loop-place.boxes.items c.push.new.self.items c.in_a_box.result more
          (c.in_a_box.ensures ∙ ap (turned c.turns_at.result) c.in_ok-letters.ensures.letters ∙ ap (λ b. turned b (letters_to c.loop-place.place these)) c.turns_at.ensures) c.loop-place.invariant.letters;
      few = few_more (λ q. q.items) c.loop-place.boxes.items c.push.new.self.items c.in_a_box.result c.turns_at.result c.in_ok-letters.letters.items more c.in_a_box.ensures c.in_ok-letters.ensures.few c.loop-place.invariant.few;
    }
