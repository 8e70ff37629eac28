use Rattle.std.proofs.Common.{◌≡◌, ◌<◌, ◌+◌, ℕ, List, [], ◌∷◌, ◌++◌, length, take, get_or, ap, sym, ◌∙◌, append-nil, append_assoc}
use Rattle.std.proofs.lemmas.List.{take_more}
use Rattle.coco_types.specs.declared.call.Done.{Done}
use Rattle.coco_batches.specs.Answering.{held_text, held_texts}
use Rattle.coco_batches.specs.declared.answer.LineAnswer.{LineAnswer}

texts-append : (dones : List Done) (xs : List LineAnswer) (y : LineAnswer) → held_texts dones (xs ++ y ∷ []) ≡ held_texts dones xs ++ held_text dones y
texts-append dones [] y = append-nil (held_text dones y)
texts-append dones (x ∷ xs) y =
    ap (λ (t : List ℕ). held_text dones x ++ t) (texts-append dones xs y) ∙ sym (append_assoc (held_text dones x) (held_texts dones xs) (held_text dones y))

-- the texts of the first answers go on with the next answer's
pub texts-more : (dones : List Done) (answers : List LineAnswer) (n : ℕ) (d : LineAnswer) (so_far now : List ℕ) → n < length answers → so_far ≡ held_texts dones (take n answers)
    → now ≡ so_far ++ held_text dones (get_or answers n d) → now ≡ held_texts dones (take (n + 1) answers)
texts-more dones answers n d so_far now below is grown =
    grown ∙ ap (λ (t : List ℕ). t ++ held_text dones (get_or answers n d)) is ∙ sym (texts-append dones (take n answers) (get_or answers n d)) ∙ ap (held_texts dones) (sym (take_more answers n d below))
