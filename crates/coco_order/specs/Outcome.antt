-- What an epoch's execution comes to: the Dones of the scripts that committed, and the tail.
use Rattle.std.specs.Prelude.{◌≡◌, ℕ, suc, ◌≤◌, Bool, true, false, ◌&&◌, nat_eq, if◌then◌else◌, List, [], ◌∷◌, ◌++◌, Option, None, Some}
use Rattle.std.specs.List.{filter_map, list_any, slice_get}
use Rattle.std.specs.List.Sorted.{IsPermutation}
use Rattle.coco_types.specs.RowKey.{RowKey}
use Rattle.coco_types.specs.declared.value.Value.{Value}
use Rattle.coco_types.specs.declared.call.Request.{Request}
use Rattle.coco_types.specs.declared.call.Done.{Done}
use Rattle.coco_ast.specs.Keyed.{Rows, value_at, put_over}
use Rattle.coco_ast.specs.Meaning.{run}
use Rattle.coco_ast.specs.Tree.{Procedures}
use Rattle.coco_shard.specs.Law.{newest_value, read_time}
use Rattle.coco_occ.specs.declared.outcome.Outcome.{Outcome}
use Rattle.coco_occ.specs.declared.outcome.Outcome.TheVariants.{Committed, Conflict, OverTime}
use Rattle.coco_occ.specs.declared.outcome.Tried.{Tried}
use Rattle.coco_order.specs.Execution.{Beginning, Execution, IsExecution, journal_on, concat}
use Rattle.coco_order.specs.Order.{AreInOrder}

-- ---- commits

abbrev pub done_of : ℕ → Option Request → Outcome → Option Done
done_of epoch (Some r) (Committed time reply) = Some (record { id = r.id; call = r.call; epoch = epoch; time = time; reply = reply })
done_of epoch (Some r) (Conflict why) = None
done_of epoch (Some r) OverTime = None
done_of epoch None outcome = None

abbrev pub commit_of : Beginning → ℕ → Tried → Option Done
commit_of b epoch t = done_of epoch (slice_get b.requests t.place) t.outcome

-- the Dones of the scripts that committed
abbrev pub commits : Beginning → ℕ → Execution → List Done
commits b epoch x = filter_map (commit_of b epoch) (concat x.transcripts)

-- these, by time and id
pub record AreCommits (b : Beginning) (epoch : ℕ) (x : Execution) (dones : List Done) : Type 0 where
  pub same : IsPermutation (commits b epoch x) dones
  pub order : AreInOrder dones

-- ---- the journals' ends

-- the newest value of a key at the journals' ends
abbrev pub newest_at_end : Beginning → Execution → RowKey → Option Value
newest_at_end b x k = newest_value (value_at b.opening) k (journal_on b x k)

-- ---- the tail

abbrev pub is_commit : Outcome → Bool
is_commit (Committed time reply) = true
is_commit (Conflict why) = false
is_commit OverTime = false

-- one of the scripts is of this place and committed
abbrev pub has_commit : List Tried → ℕ → Bool
has_commit ts place = list_any (λ (t : Tried). nat_eq t.place place && is_commit t.outcome) ts

-- no two of the scripts are of one place and committed
abbrev pub AreOnce : List Tried → Type 0
AreOnce [] = Unit {0}
AreOnce (t ∷ ts) = (is_commit t.outcome ≡ true → has_commit ts t.place ≡ false) × AreOnce ts

-- a script of this place committed
abbrev pub is_committed : Execution → ℕ → Bool
is_committed x place = list_any (λ t. nat_eq t.place place && is_commit t.outcome) (concat x.transcripts)

-- the requests from a place on that no script committed, in input order
abbrev pub uncommitted : Execution → ℕ → List Request → List Request
uncommitted x place [] = []
uncommitted x place (r ∷ rs) = if is_committed x place then uncommitted x (suc place) rs else r ∷ uncommitted x (suc place) rs

abbrev pub tail_requests : Beginning → Execution → List Request
tail_requests b x = uncommitted x 0 b.requests

-- their Dones, one after another from a map, at the times that follow this one
abbrev pub tail_dones : Procedures → ℕ → Rows → ℕ → List Request → List Done
tail_dones ps epoch rows time [] = []
tail_dones ps epoch rows time (r ∷ rs) =
    record { id = r.id; call = r.call; epoch = epoch; time = suc time; reply = (run ps r.call rows).reply }
    ∷ tail_dones ps epoch (put_over rows (run ps r.call rows).writes) (suc time) rs

-- the map that they leave
abbrev pub tail_rows : Procedures → Rows → List Request → Rows
tail_rows ps rows [] = rows
tail_rows ps rows (r ∷ rs) = tail_rows ps (put_over rows (run ps r.call rows).writes) rs

-- the greatest read time of any key at the journals' ends
pub record IsGreatestRead (b : Beginning) (x : Execution) (most : ℕ) : Type 0 where
  pub bounds : (k : RowKey) → read_time k (journal_on b x k) ≤ most
  pub at : RowKey
  pub attained : read_time at (journal_on b x at) ≡ most

-- The Dones of the epoch, by time and id: the commits, and the tail's from the newest values on, at times above each read time.
pub record IsOutcome (b : Beginning) (epoch : ℕ) (x : Execution) (dones : List Done) : Type 0 where
  pub rows : Rows
  pub most : ℕ
  pub newest : (k : RowKey) → value_at rows k ≡ newest_at_end b x k
  pub greatest : IsGreatestRead b x most
  pub same : IsPermutation (commits b epoch x ++ tail_dones b.procs epoch rows most (tail_requests b x)) dones
  pub order : AreInOrder dones

-- the Dones are those of an execution with its tail
pub record ComeOfExecution (b : Beginning) (epoch : ℕ) (dones : List Done) : Type 0 where
  pub execution : Execution
  pub is : IsExecution b execution
  pub outcome : IsOutcome b epoch execution dones
