use Rattle.std.proofs.Common.{◌≡◌, ◌⊎◌, ◌<◌, List, [], ◌∷◌, ◌++◌, ℕ, length}
use Rattle.coco_audit.specs.Dumping.{piece_bytes, text_of}
use Rattle.coco_audit.proofs.pieces.Dump.next.Given as goal

-- the piece so far, and the lines to come
abbrev pub invariant-loop-self : goal.invariant-loop-self
invariant-loop-self l = record {
  given : text_of l.initial.self ≡ l.piece.items ++ text_of l.self;
  lines : (lines : List (List ℕ)) × (l.initial.self ≡ lines ++ l.self) × (l.piece.items ≡ text_of lines)
      × ((lines ≡ []) ⊎ ((front : List (List ℕ)) × (last : List ℕ) × (lines ≡ front ++ last ∷ []) × (length (text_of front) < piece_bytes)));
}

abbrev pub decreases-loop-self : goal.decreases-loop-self
decreases-loop-self l = length l.self
