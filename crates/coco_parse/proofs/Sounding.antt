-- What is reached is the grammar's.
use Rattle.std.proofs.Common.{◌≡◌, ℕ, List, [], ◌++◌, Some, option_and_then, ap, ◌∙◌, append-nil}
use Rattle.coco_ast.specs.Tree.{Procedure}
use Rattle.coco_parse.specs.Grammar.{IsFile, IsFront}
use Rattle.coco_parse.specs.Machine.{Goal, Items, after, start}
use Rattle.coco_parse.specs.declared.word.Word.{Word}
use Rattle.coco_parse.proofs.Following.{after-append}
use Rattle.coco_parse.proofs.Holding.{hold_behind, after_holds}
use Rattle.coco_parse.proofs.Meeting.{met}

pub file-sound : (ws : List Word) (ts : List (List ℕ)) (ps : List Procedure) → after start ws ≡ Some (Items ts ps) → IsFile ws ts ps
file-sound ws ts ps h = simp append-nil at (hold_behind (after start ws) ws (Items ts ps) (after_holds ws start [] (λ u a b file. file)) h [] [] [] IsFile.nothing)

-- every goal can be met
pub reached-front : (ws : List Word) (g : Goal) → after start ws ≡ Some g → IsFront ws
reached-front ws g h =
    let m = met g in
    (m.0, record { tables = m.1; procs = m.2 }, file-sound (ws ++ m.0) m.1 m.2 (after-append start ws m.0 ∙ (ap (option_and_then (λ k. after k m.0)) h ∙ m.3)))
