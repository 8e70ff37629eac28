-- A worker's entries in the journal of a copy table.
use Rattle.std.proofs.Common.{◌≡◌, ℕ, zero, suc, ◌<◌, List, [], ◌∷◌, ◌++◌, map, length, Some, refl, sym, ap, ◌∙◌, arith}
use Rattle.std.specs.List.{flat_map, slice_get}
use Rattle.coco_copy.specs.declared.ops.CopyAnswer.{CopyAnswer}
use Rattle.coco_copy.specs.declared.ops.CopyAsk.{CopyAsk}
use Rattle.coco_desks.specs.Gains.{done_by}
use Rattle.coco_journaled.specs.declared.entry.Entry.{Entry}
use Rattle.coco_journaled.specs.declared.entry.Placed.{Placed}
use Rattle.coco_journaled.specs.Passes.{entry_of}
use Rattle.coco_worker.specs.Copying.{asked}
use Rattle.coco_worker.specs.Working.{copied}
use Rattle.coco_parallel.specs.Copies.{CopiesAreOfCommits}

asked_calls : (number : ℕ) (calls : List (Placed CopyAsk CopyAnswer)) → map (λ (e : Entry CopyAsk CopyAnswer). e.ask) (map (entry_of number) calls) ≡ map asked calls
asked_calls number [] = refl
asked_calls number (c ∷ calls) = ap (λ (asks : List CopyAsk). asked c ∷ asks) (asked_calls number calls)

pub copies_are_of_commits : CopiesAreOfCommits
copies_are_of_commits j before after ws table journal works has =
    ap (map (λ (e : Entry CopyAsk CopyAnswer). e.ask)) has.entries ∙ asked_calls has.pass.number has.pass.calls ∙ sym (ap (done_by asked) has.pass_is) ∙ works.copies table has.within
    ∙ ap (λ (asks : List CopyAsk). asks ++ flat_map (copied j table) ws) (ap (done_by asked) has.first_is ∙ ap (map asked) has.undone)

-- ---- a place in a list

pub within_list : {X : Type 0} (xs : List X) (i : ℕ) (x : X) → slice_get xs i ≡ Some x → i < length xs
within_list [] i x at = absurd cc
within_list (y ∷ xs) zero x at = omega arith
within_list (y ∷ xs) (suc i) x at = let rest = within_list xs i x at in omega (arith, rest)
