-- Which nodes have prepared an epoch that is voted on, and what is seen of a store meanwhile.
use Rattle.std.specs.Prelude.{◌≡◌, ℕ, ◌<◌, ◌==◌, Bool, true, false, List, [], ◌∷◌, ◌++◌, Option, Some, Result, OnOk, unwrap_or}
use Rattle.std.specs.List.{slice_get}
use Rattle.std.specs.Option.{option_map}
use Rattle.coco_types.specs.declared.call.Piece.{Piece}
use Rattle.coco_host.specs.Files.{Files}
use Rattle.coco_host.specs.Moments.{Observation, SeesOnly}
use Rattle.coco_host.specs.declared.host.Host.{Ghosts as HostGhosts}
use Rattle.coco_entry.specs.Rows.{prepared_bytes, IsPrepared}
use Rattle.coco_entry.specs.declared.prepared.Prepared.{Prepared}
use Rattle.coco_entry.specs.declared.prepared.Row.{Row}
use Rattle.coco_log.specs.LogState.{LogState, with_entry}
use Rattle.coco_node.specs.Node.{Node}
use Rattle.coco_store.specs.Contents.{Contents, IsGoodStore}
use Rattle.coco_store.specs.Laws.{MayPrepare}
use Rattle.coco_append.specs.LastWrites.{AreLastWrites}
use Rattle.coco_append.specs.Gaining.{RestsOn}

-- what nodes vote on: an epoch, what it wrote, and the partitions that each node holds
pub record Ballot : Type 0 where
  pub epoch : ℕ
  pub pieces : List Piece
  pub held : ℕ → List Bool

abbrev pub prepared_of : ℕ → List Row → Prepared
prepared_of epoch rows = record { epoch = epoch; rows = rows }

-- each node may prepare the epoch, with what was written last in what it holds
abbrev pub MayForce : Contents → Ballot → Type 0
MayForce c b = (n : ℕ) → n < c.setting.entry.layout.nodes → (rows : List Row) → AreLastWrites (b.held n) b.pieces rows
    → IsPrepared (prepared_of b.epoch rows) → MayPrepare c n (prepared_of b.epoch rows)

-- it has done so: its entries have gained that one
pub record HasPrepared (b : Ballot) (n : ℕ) (before after : List Prepared) : Type 0 where
  pub rows : List Row
  pub last : AreLastWrites (b.held n) b.pieces rows
  pub entry : after ≡ before ++ prepared_of b.epoch rows ∷ []

-- a log has gained that entry
pub record AddsEntry (epoch : ℕ) (pieces : List Piece) (held : List Bool) (log log_new : LogState) : Type 0 where
  pub rows : List Row
  pub last : AreLastWrites held pieces rows
  pub added : log_new ≡ with_entry log (prepared_bytes (prepared_of epoch rows))

-- contents become others, since just these nodes have prepared the epoch
pub record HavePrepared (c : Contents) (b : Ballot) (has : ℕ → Bool) (d : Contents) : Type 0 where
  pub earlier : d.earlier ≡ c.earlier
  pub setting : d.setting ≡ c.setting
  pub base : d.base ≡ c.base
  pub commits : d.commits ≡ c.commits
  pub others : (n : ℕ) → has n ≡ false → d.prepared n ≡ c.prepared n
  pub prepared : (n : ℕ) → has n ≡ true → HasPrepared b n (c.prepared n) (d.prepared n)

-- the greatest epoch of a node's entries, as its core knows it
abbrev pub durable_at : List Node → ℕ → ℕ
durable_at cores n = unwrap_or (option_map (λ (core : Node). core.durable) (slice_get cores n)) 0

-- by the cores, the nodes that have an entry of this epoch
abbrev pub have_durable : ℕ → List Node → ℕ → Bool
have_durable epoch cores n = durable_at cores n == epoch

-- a host rests on the contents of before, which just these nodes have prepared since
pub record RestsVoted (c : Contents) (b : Ballot) (has : ℕ → Bool) (reads : Option Files) (may_leave : Files → Type 0) : Type 0 where
  pub contents : Contents
  pub voted : HavePrepared c b has contents
  pub rests : RestsOn contents reads may_leave

-- a good store with the contents of before, which some nodes may have prepared since
pub record IsVotedStore (c : Contents) (b : Ballot) (files : Files) : Type 0 where
  pub has : ℕ → Bool
  pub contents : Contents
  pub voted : HavePrepared c b has contents
  pub good : IsGoodStore files contents

-- seen at a moment: such a store, and no more said
pub record ShowsVoted (c : Contents) (b : Ballot) (bytes : Option (List ℕ)) (seen : Observation) : Type 0 where
  pub store : IsVotedStore c b seen.image
  pub said : bytes ≡ Some seen.said

-- at each moment between two, and behind the second, all that a crash may leave is such a store, and nothing is said
pub record KeepsVoted {H : Type 0} (frame : HostGhosts H) (c : Contents) (b : Ballot) (old new : H) : Type 0 where
  pub moments : SeesOnly frame.moment frame.observed old new (ShowsVoted c b (frame.said old))
  pub left : (bytes : List ℕ) → frame.said old ≡ Some bytes → (image : Files) → frame.may_leave new image → IsVotedStore c b image
  pub quiet : frame.said new ≡ frame.said old

-- so it is between two moments of a vote, whatever was answered; and where it succeeded the host rests on what just these nodes have prepared
pub record Votes {T E H : Type 0} (frame : HostGhosts H)
    (result : Result T E) (c : Contents) (b : Ballot) (has : ℕ → Bool) (old new : H) : Type 0 where
  pub keeps : KeepsVoted frame c b old new
  pub ok : OnOk result (RestsVoted c b has (frame.reads new) (frame.may_leave new))
