-- What is seen of a store while request lines are answered on it.
use Rattle.std.specs.Prelude.{◌≡◌, ◌⊎◌, ℕ, ◌+◌, ◌≤◌, List, length, take, Option, Some}
use Rattle.std.specs.Io.KnownBytes.{append_known}
use Rattle.coco_ast.specs.History.{History, IsPrefixOf}
use Rattle.coco_cluster.specs.Turning.{IsStoreOf}
use Rattle.coco_host.specs.Files.{Files}
use Rattle.coco_host.specs.Moments.{Observation}
use Rattle.coco_lines.specs.Batches.{Batch}
use Rattle.coco_lines.specs.declared.class.Class.{Class}
use Rattle.coco_store.specs.Rules.{Setting}
use Rattle.coco_serve.specs.Growth.{AddsWithin, IsGrown, answers_of, manner_of}
use Rattle.coco_serve.specs.declared.bounds.RunBounds.{RunBounds}

-- seen at a moment: a good store under the same layout, whose history is the opening one grown by some first batches and begins the whole one; and a front of the answers of these
-- batches' lines, behind what was said before. The epochs that were added are numbered from `next` on, few numbers are skipped, and no entry is of an epoch behind the one that is under way
pub record IsServed (s : Setting) (bounds : RunBounds) (opening : History) (next spare : ℕ) (batches : List Batch) (classes : List (List Class)) (whole : History) (said : Option (List ℕ)) (seen : Observation) : Type 0 where
  pub count : ℕ
  pub within : count ≤ length batches
  pub history : History
  pub number : ℕ
  pub numbers : AddsWithin next number spare opening history
  pub store : IsStoreOf s history (number + 1) seen.image
  pub grown : IsGrown (manner_of s bounds) opening (take count batches) (take count classes) history
  pub begins : IsPrefixOf history whole
  pub part : ℕ
  pub says : Some seen.said ≡ append_known said (take part (answers_of history (take count classes)))

-- seen at a moment of one batch: the store of before, and nothing more said; or the grown one, and a front of these texts. In neither is an entry of this epoch or a later one
abbrev pub ShowsBatch : Setting → History → History → ℕ → Option (List ℕ) → List ℕ → Observation → Type 0
ShowsBatch s before after end said texts seen =
    (IsStoreOf s before end seen.image × (said ≡ Some seen.said)) ⊎ (IsStoreOf s after end seen.image × ((k : ℕ) × (Some seen.said ≡ append_known said (take k texts))))

-- where the host tells what it said, all that a crash may leave is a store of one history or of the other, in which no entry is of this epoch or a later one
abbrev pub LeavesEither : Setting → History → History → ℕ → Option (List ℕ) → (Files → Type 0) → Type 0
LeavesEither s before after end said may_leave = (bytes : List ℕ) → said ≡ Some bytes → (image : Files) → may_leave image → IsStoreOf s before end image ⊎ IsStoreOf s after end image
