use Rattle.std.proofs.Common.{ℕ, length, ◌++◌, ap, ◌∙◌}
use Rattle.std.proofs.lemmas.List.{drop-replicate}
use Rattle.coco_types.proofs.padding.padded.Goals as goal

pub returns : goal.returns
returns g c = c.put_front.ensures ∙ ap (λ zs. c.args.from.now ++ zs) (drop-replicate {X = ℕ} (length c.args.from.now) _ 0)
