-- The words of histories compute each example.
use Rattle.std.proofs.Common.{◌≡◌, ℕ, Option, refl, true, false, [], ◌∷◌, Some, inl, arith}
use Rattle.std.specs.FinMap.{get-insert}
use Rattle.std.specs.List.{IsDistinct}
use Rattle.coco_types.proofs.Keys.{keys_total}
use Rattle.coco_ast.specs.Builtins.{builtins}
use Rattle.coco_ast.specs.Growth.{GrowsBy, AreNew}
use Rattle.coco_ast.specs.History.{followed_by, with_keep, IsPrefixOf, IsOrdered, IsSerial, map_of, request_of}
use Rattle.coco_ast.specs.HistoryExamples.{HistoryExamples, two_epochs, three_epochs, compacted_two, five_is_70, epoch_of, get_done}
use Rattle.coco_ast.specs.Meaning.{run}
use Rattle.coco_ast.proofs.KeyedLemmas.{value_on_partition}

other_keep : IsPrefixOf (with_keep (Some 1) two_epochs) (with_keep (Some 2) three_epochs) → ⊥
other_keep h = let e : ◌≡◌ {A = Option ℕ} (Some 1) (Some 2) = h.1 in cc

ordered : IsOrdered (with_keep (Some 1) three_epochs)
unfolding IsDistinct
ordered = record {
  epochs_rise = (omega arith, (omega arith, (omega arith, tt)));
  numbered = ((refl, tt), ((refl, tt), ((refl, tt), tt)));
  rising = ((inl (omega arith), (inl (omega arith), tt)), ((inl (omega arith), tt), (tt, tt)));
  once = ((refl, (refl, tt)), ((refl, tt), (tt, tt)));
  above_floor = tt;
}

used : IsOrdered (with_keep (Some 1) (followed_by three_epochs (epoch_of 4 (get_done 4 1)))) → ⊥
unfolding IsDistinct
used h = let e : true ≡ false = h.once.0.1.1.0 in cc

serial : IsSerial builtins (with_keep (Some 1) three_epochs)
unfolding run
serial = record {
  replies = (refl, (rw (get-insert keys_total) refl, (rw (get-insert keys_total) refl, tt)));
  times = (refl, (refl, (refl, tt)));
}

rows : map_of builtins three_epochs ≡ five_is_70
unfolding run
rows = refl

compacted_is : compacted_two ≡ record { base = record { epoch = 2; rows = five_is_70; kept = get_done 2 2 ∷ []; floor = Some 1 }; epochs = []; keep = Some 1 }
unfolding run
compacted_is = refl

grows : GrowsBy (with_keep (Some 1) two_epochs) (request_of (get_done 3 3) ∷ []) (with_keep (Some 1) three_epochs)
grows = (epoch_of 3 (get_done 3 3), omega arith, record { each = record { moves = []; below = tt; is = refl }; numbered = (refl, tt); rising = (tt, tt) }, refl)

new : AreNew (with_keep (Some 1) two_epochs) (request_of (get_done 3 3) ∷ [])
unfolding IsDistinct
new = record { distinct = (tt, tt); unkept = (refl, tt); above = (omega arith, tt) }

old : AreNew (with_keep (Some 1) two_epochs) (request_of (get_done 3 0) ∷ []) → ⊥
old h = omega (arith, h.above.0)

pub history_examples : HistoryExamples
history_examples = record {
  two = refl;
  three = refl;
  known = refl;
  numbers = refl;
  back = refl;
  prefix = (refl, refl, (epoch_of 3 (get_done 3 3) ∷ [], refl));
  not_prefix = other_keep;
  ordered = ordered;
  used = used;
  serial = serial;
  grows = grows;
  new = new;
  old = old;
  rows = rows;
  compacted = compacted_is;
  partitions = λ m. simp value_on_partition refl;
}
