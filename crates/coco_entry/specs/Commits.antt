-- The entry of a committed epoch: its number, and its Dones behind their count.
use Rattle.std.specs.Prelude.{◌≡◌, ℕ, ◌<◌, ◌^◌, List, ◌∷◌, ◌++◌, length, None, Result}
use Rattle.coco_types.specs.declared.call.Done.{Done}
use Rattle.coco_bytes.specs.declared.fault.FieldFault.{FieldFault}
use Rattle.coco_bytes.specs.Fields.{u64_bytes}
use Rattle.coco_bytes.specs.Reads.{u32_at, u64_at}
use Rattle.coco_bytes.specs.Lists.{counted, FitInTurn}
use Rattle.coco_entry.specs.declared.commit.Commit.{Commit}
use Rattle.coco_entry.specs.Grammar.{Reader, then_by, made, listed, tagged}
use Rattle.coco_entry.specs.Calls.{done_bytes, IsDone, done_at}

abbrev pub commit_bytes : Commit → List ℕ
commit_bytes commit = 2 ∷ (u64_bytes commit.epoch ++ counted done_bytes commit.dones)

-- each Done is of the epoch
abbrev pub AreOf : ℕ → List Done → Type 0
AreOf epoch = FitInTurn (λ _ done. done.epoch ≡ epoch) None

abbrev pub IsDoneOf : ℕ → Done → Type 0
IsDoneOf epoch done = (done.epoch ≡ epoch) × IsDone done

pub record IsCommit (commit : Commit) : Type 0 where
  pub epoch : commit.epoch < 2 ^ 64
  pub count : length commit.dones < 2 ^ 32
  pub dones : FitInTurn (λ _. IsDoneOf commit.epoch) None commit.dones

unfoldable pub commit_at : Reader Commit
commit_at = made (λ c. record { epoch = c.0; dones = c.1 }) (then_by u64_at (λ epoch. listed u32_at (λ _. done_at epoch)))

abbrev pub commit_in : List ℕ → Result Commit FieldFault
commit_in = tagged 2 commit_at
