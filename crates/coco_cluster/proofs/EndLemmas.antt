-- The end of an epoch: tables that were reverted, and a commit entry.
use Rattle.std.proofs.Common.{◌≡◌, ⊎_elim, ℕ, Bool, true, false, List, [], length, map, Some, Result, Ok, Err, refl, sym, ap, ◌∙◌, subst, arith}
use Rattle.std.specs.Global.{Vec}
use Rattle.std.specs.Prelude.{OnOk}
use Rattle.std.proofs.lemmas.List.{length-map}
use Rattle.std.proofs.lemmas.Option.{slice_get_within}
use Rattle.coco_append.specs.Gaining.{Gains, RestsOn}
use Rattle.coco_ast.specs.Keyed.{Rows}
use Rattle.coco_copy.specs.CopyState.{CopyState}
use Rattle.coco_entry.specs.declared.commit.Commit.{Commit}
use Rattle.coco_entry.specs.declared.layout.Layout.{Layout}
use Rattle.coco_tail.specs.Shards.{SettleOn}
use Rattle.coco_finish.specs.Finishing.{is_behind, AreWhole}
use Rattle.coco_host.specs.declared.host.Host.{Ghosts as HostGhosts}
use Rattle.coco_letters.specs.declared.voter.Voter.{Voter}
use Rattle.coco_log.specs.declared.fault.LogFault.{LogFault}
use Rattle.coco_log.specs.declared.fault.LogFault.TheVariants as log
use Rattle.coco_read.specs.declared.fault.OpenFault.{OpenFault}
use Rattle.coco_read.specs.declared.fault.OpenFault.TheVariants as open_fault
use Rattle.coco_members.specs.AtRest.{primaries_of, AreAtRest, AreMembers, NoneBehind, ShardsHaveMap}
use Rattle.coco_members.specs.declared.members.Members.{Members}
use Rattle.coco_net.specs.declared.letter.Posted.{Posted}
use Rattle.coco_settle.specs.Settling.{MarkStops}
use Rattle.coco_shard.specs.RowState.{ShardState, stable_at}
use Rattle.coco_standing.proofs.AtRest.{reverted_stand}
use Rattle.coco_standing.specs.Changes.{reverted}
use Rattle.coco_standing.specs.Standing.{AreCounted, NodeStands, TablesKeep, TablesStand, none_behind}
use Rattle.coco_store.specs.Contents.{Contents}
use Rattle.coco_store.specs.Laws.{with_commit}
use Rattle.coco_vote.specs.Taking.{KeepPlaces}
use Rattle.coco_cluster.specs.Ending.{Commits}
use Rattle.coco_cluster.specs.Faults.{stop_of_opening}
use Rattle.coco_cluster.specs.declared.stop.Stop.{Stop}
use Rattle.coco_cluster.specs.declared.stop.Stop.TheVariants as stop
use Rattle.coco_cluster.specs.Trying.{AreQuiet, KeepShards}
use Rattle.coco_cluster.specs.Writing.{WritesLogs}
use Rattle.coco_cluster.proofs.RestLemmas.{quiet_rests}
use Rattle.coco_cluster.proofs.RunLemmas.{there_is}
use Rattle.coco_cluster.proofs.TryLemmas.{quiet_run}

-- ---- faults

-- a turn refuses the file that reading did
pub refused_so : (f : OpenFault) (file at : ℕ) → stop_of_opening f ≡ stop.NotAStore file at → f ≡ open_fault.NotAStore file at
refused_so open_fault.Disk file at is = (let never_so : stop.Disk ≡ stop.NotAStore file at = is in absurd (cc))
refused_so (open_fault.NotAStore named place) file at is = (let same : stop.NotAStore named place ≡ stop.NotAStore file at = is in cc)
refused_so open_fault.NoMemory file at is = (let never_so : stop.NoMemory ≡ stop.NotAStore file at = is in absurd (cc))

-- ---- tables that were reverted

pub marks_stand : (layout : Layout) (m : Rows) (marks : List Bool) (shards : List ShardState) (copies : List CopyState) → ((n : ℕ) → is_behind marks n ≡ false) → TablesStand layout m none_behind shards copies → TablesStand layout m (is_behind marks) shards copies
marks_stand layout m marks shards copies none stand = record {
  counted = stand.counted;
  nodes = λ n less. subst (λ b. NodeStands layout m n b shards copies) (sym (none n)) (stand.nodes n less);
}

-- the shards alone
pub shards_reverted : (layout : Layout) (m : Rows) (marks : List Bool) (shards shards_new : List ShardState) → SettleOn stable_at shards shards_new → ((n : ℕ) → is_behind marks n ≡ false) → TablesKeep (primaries_of layout) m shards []
    → TablesStand (primaries_of layout) m (is_behind marks) shards_new []
shards_reverted layout m marks shards shards_new settle none keep = marks_stand (primaries_of layout) m marks shards_new [] none (reverted_stand (primaries_of layout) m shards shards_new [] [] settle refl keep)

pub counted_reverted : (layout : Layout) (shards shards_new : List ShardState) (copies copies_new : List CopyState) → length shards_new ≡ length shards → copies_new ≡ map reverted copies → AreCounted layout shards copies → AreCounted layout shards_new copies_new
counted_reverted layout shards shards_new copies copies_new count same counted = record {
  ring = counted.ring;
  shard_count = count ∙ counted.shard_count;
  copy_count = ap (length {A = CopyState}) same ∙ length-map copies reverted ∙ counted.copy_count;
}

-- nodes and coordinator rest where their tables were reverted
module _ (k after : Members) (same : after ≡ record k { tables = after.tables }) (layout : after.tables.layout ≡ k.tables.layout) (behind : after.tables.behind ≡ k.tables.behind) (mid mid_new : List ShardState) (copies copies_new : List CopyState)
    (mid_is : mid ≡ k.tables.shards.items) (mid_now : after.tables.shards.items ≡ mid_new) (settle : SettleOn stable_at mid mid_new)
    (copies_are : copies ≡ k.tables.copies.items) (copies_now : after.tables.copies.items ≡ copies_new) (reverts : copies_new ≡ map reverted copies) where
  settle_so : SettleOn stable_at k.tables.shards.items after.tables.shards.items
  settle_so = subst (λ a. SettleOn stable_at a after.tables.shards.items) mid_is (subst (SettleOn stable_at mid) (sym mid_now) settle)

  whole_so : AreWhole k.tables → AreWhole after.tables
  whole_so whole = subst (λ (l : Layout). AreCounted l after.tables.shards.items after.tables.copies.items) (sym layout)
      (counted_reverted k.tables.layout k.tables.shards.items after.tables.shards.items k.tables.copies.items after.tables.copies.items settle_so.count (copies_now ∙ reverts ∙ ap (map reverted) copies_are) whole)

  -- and their shards have the map
  pub forgotten_shards : (m : Rows) → NoneBehind k.tables → KeepShards m k.tables → ShardsHaveMap m after.tables
  forgotten_shards m none keeps = subst (λ (l : Layout). TablesStand (primaries_of l) m (is_behind after.tables.behind.items) after.tables.shards.items []) (sym layout)
      (subst (λ (b : Vec Bool). TablesStand (primaries_of k.tables.layout) m (is_behind b.items) after.tables.shards.items []) (sym behind)
      (shards_reverted k.tables.layout m k.tables.behind.items k.tables.shards.items after.tables.shards.items settle_so none keeps))

  pub forgotten_rest : (next : ℕ) (sent : List Posted) (m : Rows) → AreQuiet next sent k → NoneBehind k.tables → KeepShards m k.tables → AreAtRest next sent after
  forgotten_rest next sent m quiet none keeps =
      quiet_rests next sent after m (quiet_run next sent k after same layout behind (whole_so quiet.are.whole) quiet)
      (λ n. ap (λ (b : Vec Bool). is_behind b.items n) behind ∙ none n) (forgotten_shards m none keeps)

-- ---- nodes that may have stopped behind the commit entry

pub marked_places : (stopped stopped_new : ℕ → ℕ) (voters voters_new : List Voter) → length voters_new ≡ length voters → MarkStops stopped stopped_new voters voters_new → KeepPlaces voters voters_new
marked_places stopped stopped_new voters voters_new many marks n now there =
    let within = slice_get_within voters_new n now there in
    let was = there_is voters n (omega (arith, within, many)) in (
      was.0,
      was.1,
      ⊎_elim
          (λ stops. (let is : now ≡ record was.0 { is_lost = true } = same_some now (record was.0 { is_lost = true }) (sym there ∙ stops.1) in
          record { held = ap (λ (v : Voter). v.held) is; file = ap (λ (v : Voter). v.log.file) is; kind = ap (λ (v : Voter). v.log.kind) is }))
          (λ goes_on. (let is : now ≡ was.0 = same_some now was.0 (sym there ∙ goes_on.1) in
          record { held = ap (λ (v : Voter). v.held) is; file = ap (λ (v : Voter). v.log.file) is; kind = ap (λ (v : Voter). v.log.kind) is })) (marks n was.0 was.1),
    )
  where
    same_some : (x y : Voter) → Some x ≡ Some y → x ≡ y
    same_some x y e = cc

-- they are as many
pub many_voters : (old new : Members) → AreMembers old → AreMembers new → new.tables.layout ≡ old.tables.layout → length new.voters.items ≡ length old.voters.items
many_voters old new are are_now layout = are_now.voters ∙ sym are_now.layout ∙ ap (λ (l : Layout). l.nodes) layout ∙ are.layout ∙ sym are.voters

-- ---- the store

module _ {H : Type 0} (frame : HostGhosts H) where
  pub commits_failed : (r : Result (Unit {0}) LogFault) (turned : Result (Unit {0}) Stop) (f : Stop) (c : Contents) (commit : Commit) (old new : H) → turned ≡ Err f
      → Gains frame r c (with_commit commit c) old new → WritesLogs c.setting (frame.reads old) (frame.reads new) (frame.may_leave old) (frame.may_leave new) → Commits frame turned c commit old new
  commits_failed r turned f c commit old new failed gains writes = record {
    ok = subst (λ (q : Result _ _). OnOk q (RestsOn (with_commit commit c) (frame.reads new) (frame.may_leave new))) (sym failed) tt;
    moments = gains.moments;
    left = gains.left;
    others = writes;
  }

  pub commits_done : (r : Result (Unit {0}) LogFault) (turned : Result (Unit {0}) Stop) (c : Contents) (commit : Commit) (old new : H) → r ≡ Ok tt → turned ≡ Ok tt
      → Gains frame r c (with_commit commit c) old new → WritesLogs c.setting (frame.reads old) (frame.reads new) (frame.may_leave old) (frame.may_leave new) → Commits frame turned c commit old new
  commits_done r turned c commit old new done ok gains writes = record {
    ok = subst (λ (q : Result _ _). OnOk q (RestsOn (with_commit commit c) (frame.reads new) (frame.may_leave new))) (sym ok) (subst (λ (q : Result _ _). OnOk q (RestsOn (with_commit commit c) (frame.reads new) (frame.may_leave new))) done gains.ok);
    moments = gains.moments;
    left = gains.left;
    others = writes;
  }
