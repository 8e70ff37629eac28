-- How the machine goes on.
use Rattle.std.proofs.Common.{◌≡◌, List, [], ◌∷◌, ◌++◌, Option, Some, None, option_and_then, refl}
use Rattle.coco_parse.specs.Machine.{Goal, step, after}
use Rattle.coco_parse.specs.declared.word.Word.{Word}

after_step : (o : Option Goal) (us vs : List Word) → ((h : Goal) → after h (us ++ vs) ≡ option_and_then (λ k. after k vs) (after h us))
    → option_and_then (λ h. after h (us ++ vs)) o ≡ option_and_then (λ k. after k vs) (option_and_then (λ h. after h us) o)
after_step None us vs more = refl
after_step (Some h) us vs more = more h

pub after-append : (g : Goal) (us vs : List Word) → after g (us ++ vs) ≡ option_and_then (λ h. after h vs) (after g us)
after-append g [] vs = refl
after-append g (u ∷ us) vs = after_step (step g u) us vs (λ h. after-append h us vs)
