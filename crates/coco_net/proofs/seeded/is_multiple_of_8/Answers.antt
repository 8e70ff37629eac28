use Rattle.std.proofs.Common.{◌≡◌, ◌∙◌, ◌==◌, ◌%◌, ◌+◌, ◌^◌, ℕ, ap, rules}
use Rattle.coco_net.proofs.ChoiceLemmas.{wrapped_sum}
use Rattle.coco_net.proofs.seeded.is_multiple_of_8.Goals as goal

pub returns : goal.returns
returns c =
    let worker : c.from.result ≡ c.args.worker = search rules in
    let place : c.from-2.result ≡ c.args.place = search rules in
    let to : c.from-3.result ≡ c.args.to = search rules in
    let sum = λ (a : ℕ) (b : ℕ) (d : ℕ). ((((c.args.seed + c.args.epoch) % 2 ^ 64 + a) % 2 ^ 64 + b) % 2 ^ 64 + d) % 2 ^ 64 in
    ap (λ n. n % 8 == 0)
    (ap (λ a. sum a c.from-2.result c.from-3.result) worker ∙ ap (λ b. sum c.args.worker b c.from-3.result) place ∙ ap (sum c.args.worker c.args.place) to
    ∙ wrapped_sum (2 ^ 64) c.args.seed c.args.epoch c.args.worker c.args.place c.args.to)
