-- A crew that ran, as the calls tell of it: its stations before and after.
use Rattle.std.proofs.Common.{◌≡◌, ℕ, Bool, List, All, length, sym, ap, ◌∙◌, subst, arith}
use Rattle.std.specs.Global.{Vec}
use Rattle.coco_types.specs.declared.call.Request.{Request}
use Rattle.coco_ast.specs.Tree.{Procedures}
use Rattle.coco_claim.specs.Seats.{Drawer, new_seats}
use Rattle.coco_copy.specs.CopyState.{CopyState}
use Rattle.coco_desks.specs.Desks.{AreDealt, HasRoom}
use Rattle.coco_desks.proofs.DeskLemmas.{as_many_started}
use Rattle.coco_seen.specs.Notes.{Lock}
use Rattle.coco_shard.specs.RowState.{ShardState}
use Rattle.coco_worker.specs.declared.slot.EpochConfig.{EpochConfig}
use Rattle.coco_parallel.specs.Stations.{stations_of}
use Rattle.coco_parallel.specs.Working.{IsManned, LeavesEach}
use Rattle.coco_parallel.specs.declared.side_by_side.Crew.{Crew}
use Rattle.coco_parallel.specs.declared.side_by_side.Desks.{Desks}
use Rattle.coco_parallel.specs.declared.workers.Station.{Station}
use Rattle.coco_parallel.proofs.CrewLemmas.{CrewRan, Shift, all_manned, crew, crew_count}

-- the shift of a crew at its desks
abbrev pub shift_of : (procs : Procedures) (requests : List Request) (config : EpochConfig) (carries : ℕ → ℕ → ℕ → ℕ → Bool) (desks : Desks) (crew : Crew) {machines : List ShardState} {tables : List CopyState} → AreDealt config.started machines desks.shards.locks.items desks.rows.items
    → AreDealt config.started tables desks.copies.locks.items desks.copy_rows.items → crew.claims.seats ≡ config.started → Shift
shift_of procs requests config carries desks crew {machines} {tables} dealt copy_dealt count = record {
  procs = procs;
  requests = requests;
  config = config;
  carries = carries;
  machines = machines;
  tables = tables;
  locks = desks.shards.locks.items;
  copy_locks = desks.copies.locks.items;
  rows = desks.rows.items;
  copy_rows = desks.copy_rows.items;
  claims = crew.claims;
  dealt = dealt;
  copy_dealt = copy_dealt;
  count = count;
}

module _ (p : Shift) (seats : List Drawer) (before : List Station) (seats_are : seats ≡ new_seats p.claims) (start : before ≡ stations_of 0 p.rows p.copy_rows seats) where
  began : before ≡ crew p
  began = start ∙ ap (stations_of 0 p.rows p.copy_rows) seats_are

  pub begun_count : length before ≡ p.config.started
  begun_count = ap length began ∙ crew_count p

  pub begun_manned : (shards copies : List Lock) → shards ≡ p.locks → copies ≡ p.copy_locks → All (IsManned shards copies p.claims) before
  begun_manned shards copies here there =
      subst (λ (ls : List Lock). All (IsManned ls copies p.claims) before) (sym here)
      (subst (λ (ls : List Lock). All (IsManned p.locks ls p.claims) before) (sym there) (subst (All (IsManned p.locks p.copy_locks p.claims)) (sym began) (all_manned p)))

  pub have_run : (new after : List Station) (shards : List Lock) → length new ≡ length before → shards ≡ p.locks → LeavesEach p.procs p.requests (length shards) p.config p.carries before new → after ≡ new → CrewRan p after
  have_run new after shards as_many here each back = record {
    still = ap length back ∙ as_many ∙ ap length began;
    left = subst (λ (n : ℕ). LeavesEach p.procs p.requests n p.config p.carries (crew p) after) (ap length here ∙ (as_many_started p.config.started p.machines p.locks p.dealt.trays p.dealt.started).0)
        (subst (λ (ss : List Station). LeavesEach p.procs p.requests (length shards) p.config p.carries ss after) began (subst (λ (ss : List Station). LeavesEach p.procs p.requests (length shards) p.config p.carries before ss) (sym back) each));
  }

-- a list with room for the stations
pub room_for_all : {X : Type 0} (list : Vec X) (n workers : ℕ) → n ≡ workers → HasRoom workers list → HasRoom n list
room_for_all list n workers is room = (room.0, omega (arith, is, room.1))
