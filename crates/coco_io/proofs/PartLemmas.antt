-- A piece that is handed on part by part.
use Rattle.std.proofs.Common.{◌≡◌, ℕ, ◌+◌, ◌-◌, ◌≤◌, List, Option, length, take, drop, arith, ap, ◌∙◌, length-drop}
use Rattle.std.specs.Io.KnownBytes.{append_known}
use Rattle.coco_io.proofs.KnownLemmas.{append_known-more, range_from}

-- the first bytes of a piece, so many, were taken behind those held before, and no call failed
pub record Took (held now : Option (List ℕ)) (before faults : ℕ) (piece : List ℕ) (done : ℕ) : Type 0 where
  pub within : done ≤ length piece
  pub taken : now ≡ append_known held (take done piece)
  pub counted : faults ≡ before

-- and then some more of them
pub Took-more : (held now next : Option (List ℕ)) (before faults after : ℕ) (piece : List ℕ) (done k : ℕ) → Took held now before faults piece done
    → k ≤ length (take (length piece - done) (drop done piece)) → next ≡ append_known now (take k (take (length piece - done) (drop done piece))) → after ≡ faults
    → Took held next before after piece (done + k)
Took-more held now next before faults after piece done k took within more same = record {
  within = omega (arith, took.within, within, ap length (range_from piece done), length-drop done piece);
  taken = append_known-more held now next piece done k took.taken more;
  counted = same ∙ took.counted;
}
