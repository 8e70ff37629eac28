-- Small histories, and what is kept, forgotten, ordered and serial in them.
use Rattle.std.specs.Prelude.{◌≡◌, ℕ, false, List, [], ◌∷◌, map, None, Some, pos, Option}
use Rattle.std.specs.FinMap.{empty, insert}
use Rattle.coco_types.specs.declared.call.Done.{Done}
use Rattle.coco_types.specs.declared.call.Reply.TheVariants.{Ok as Answers}
use Rattle.coco_types.specs.declared.value.Value.TheVariants.{Int}
use Rattle.coco_ast.specs.Builtins.{builtins}
use Rattle.coco_ast.specs.BuiltinForms.{get_call, put_call}
use Rattle.coco_ast.specs.Growth.{GrowsBy, AreNew}
use Rattle.coco_ast.specs.History.{History, Epoch, no_history, followed_by, with_keep, up_to, last_epoch, kept, floor, done_of, ids_of, IsPrefixOf, IsOrdered, IsSerial, map_of, compacted, request_of}
use Rattle.coco_ast.specs.Keyed.{Rows, value_at, on_partition}
use Rattle.coco_ast.specs.Meaning.{Datum}

-- ---- put(5, 70) as id 1 in epoch 1, then get(5) as id 2 in epoch 2, then get(5) as id 3 in epoch 3

abbrev pub number : ℕ → Datum
number n = Some (Int (pos n))

abbrev pub first_done : Done
first_done = record { epoch = 1; id = 1; time = 1; call = put_call false (number 5) (number 70); reply = Answers (number 70) }

abbrev pub get_done : ℕ → ℕ → Done
get_done epoch id = record { epoch = epoch; id = id; time = 1; call = get_call false (number 5); reply = Answers (number 70) }

abbrev pub epoch_of : ℕ → Done → Epoch
epoch_of n d = record { number = n; dones = d ∷ [] }

abbrev pub two_epochs : History
two_epochs = followed_by (followed_by no_history (epoch_of 1 first_done)) (epoch_of 2 (get_done 2 2))

abbrev pub three_epochs : History
three_epochs = followed_by two_epochs (epoch_of 3 (get_done 3 3))

-- the ids whose replies are kept, and the floor
abbrev pub kept_and_floor : History → List ℕ × Option ℕ
kept_and_floor h = (ids_of (kept h), floor h)

abbrev pub with_keeps : List (Option ℕ) → History → List (List ℕ × Option ℕ)
with_keeps ks h = map (λ k. kept_and_floor (with_keep k h)) ks

abbrev pub five_is_70 : Rows
five_is_70 = insert empty (record { table = 0; row = 5 }) (Int (pos 70))

-- the map and what is kept of two epochs, of which one is kept, as the base of no further epoch
abbrev pub compacted_two : History
compacted_two = compacted builtins 2 (with_keep (Some 1) two_epochs)

pub record HistoryExamples : Type 0 where
  -- without a keep number all is kept and nothing is old; a greater number brings replies back
  pub two : with_keeps (None ∷ Some 1 ∷ Some 2 ∷ Some 1000 ∷ []) two_epochs ≡ (1 ∷ 2 ∷ [], None) ∷ (2 ∷ [], Some 1) ∷ (1 ∷ 2 ∷ [], None) ∷ (1 ∷ 2 ∷ [], None) ∷ []
  pub three : with_keeps (None ∷ Some 1 ∷ Some 2 ∷ []) three_epochs ≡ (1 ∷ 2 ∷ 3 ∷ [], None) ∷ (3 ∷ [], Some 2) ∷ (2 ∷ 3 ∷ [], Some 1) ∷ []
  -- with one epoch kept, id 1 is old and id 2 is known behind the second epoch; behind the third both are old
  pub known : map (λ id. done_of id (kept (with_keep (Some 1) two_epochs))) (1 ∷ 2 ∷ 3 ∷ []) ≡ None ∷ Some (get_done 2 2) ∷ None ∷ []
  pub numbers : map last_epoch (no_history ∷ two_epochs ∷ three_epochs ∷ compacted_two ∷ []) ≡ 0 ∷ 2 ∷ 3 ∷ 2 ∷ []
  pub back : up_to 2 three_epochs ≡ two_epochs
  pub prefix : IsPrefixOf (with_keep (Some 1) two_epochs) (with_keep (Some 1) three_epochs)
  -- another keep number is another history
  pub not_prefix : IsPrefixOf (with_keep (Some 1) two_epochs) (with_keep (Some 2) three_epochs) → ⊥
  pub ordered : IsOrdered (with_keep (Some 1) three_epochs)
  -- an id that was used stays used, kept or not
  pub used : IsOrdered (with_keep (Some 1) (followed_by three_epochs (epoch_of 4 (get_done 4 1)))) → ⊥
  pub serial : IsSerial builtins (with_keep (Some 1) three_epochs)
  pub grows : GrowsBy (with_keep (Some 1) two_epochs) (request_of (get_done 3 3) ∷ []) (with_keep (Some 1) three_epochs)
  pub new : AreNew (with_keep (Some 1) two_epochs) (request_of (get_done 3 3) ∷ [])
  -- an id that isn't above the floor isn't new, used or not
  pub old : AreNew (with_keep (Some 1) two_epochs) (request_of (get_done 3 0) ∷ []) → ⊥
  pub rows : map_of builtins three_epochs ≡ five_is_70
  pub compacted : compacted_two ≡ record { base = record { epoch = 2; rows = five_is_70; kept = get_done 2 2 ∷ []; floor = Some 1 }; epochs = []; keep = Some 1 }
  -- of three partitions the last has row 5
  pub partitions : (m : Rows) → map (λ p. value_at (on_partition 3 p m) (record { table = 0; row = 5 })) (0 ∷ 1 ∷ 2 ∷ []) ≡ None ∷ None ∷ value_at m (record { table = 0; row = 5 }) ∷ []
