-- The map that the shards of all nodes have behind a reading.
use Rattle.std.proofs.Common.{◌≡◌, ◌⊎◌, inl, inr, ℕ, ◌<◌, Bool, List, [], sym, ap, subst, ◌∙◌, arith}
use Rattle.coco_ast.specs.Keyed.{Rows, on_partition}
use Rattle.coco_entry.specs.declared.layout.Layout.{Layout}
use Rattle.coco_finish.specs.Finishing.{is_behind, AreWhole}
use Rattle.coco_finish.specs.declared.tables.NodeTables.{NodeTables}
use Rattle.coco_letters.specs.declared.voter.Voter.{Voter}
use Rattle.coco_load.specs.Tables.{shard_at}
use Rattle.coco_members.specs.AtRest.{primaries_of, ShardsHaveMap}
use Rattle.coco_standing.specs.Places.{node_of}
use Rattle.coco_standing.specs.Standing.{ShardStands, TablesStand}
use Rattle.coco_lost.specs.Reading.{IsAnew, ReadsLost, Stays}
use Rattle.coco_lost.proofs.UnionLemmas.{only_own, own_of_all, together}

module _ (voters voters_new : List Voter) (t t_new : NodeTables) (reads : ReadsLost voters t voters_new t_new) (m : Rows) (has : ShardsHaveMap m t) where
  -- the rows of a partition are those of before, or those that were read
  abbrev rows_by : (n : ℕ) → Stays n voters t voters_new t_new ⊎ IsAnew n voters t voters_new t_new → ℕ → Rows
  rows_by n (inl stays) p = on_partition t.layout.partitions p m
  rows_by n (inr anew) p = anew.maps p 0

  abbrev pub rows_after : ℕ → Rows
  rows_after p = rows_by (node_of t.layout p 0) (reads.nodes (node_of t.layout p 0)) p

  abbrev stands_with : Bool → ℕ → Rows → Type 0
  stands_with b p rows = ShardStands b t.layout.partitions p rows (shard_at t_new.shards.items p)

  by_node : (n : ℕ) (so : Stays n voters t voters_new t_new ⊎ IsAnew n voters t voters_new t_new) → n < t.layout.nodes → (p : ℕ) → p < t.layout.partitions → node_of t.layout p 0 ≡ n → stands_with (is_behind t_new.behind.items n) p (rows_by n so p)
  by_node n (inl stays) lt p below on = subst (λ (b : Bool). stands_with b p (on_partition t.layout.partitions p m)) (sym stays.behind)
      (subst (ShardStands (is_behind t.behind.items n) t.layout.partitions p (on_partition t.layout.partitions p m)) (sym (stays.tables.primaries p below on)) ((has.nodes n lt).primaries p below on))
  by_node n (inr anew) lt p below on = subst (λ (b : Bool). stands_with b p (anew.maps p 0)) (sym anew.behind) (anew.tables.primaries p below on)

  abbrev all_rows : Rows
  all_rows = together t.layout.partitions rows_after t.layout.partitions

  stands_after : (n : ℕ) → n < t.layout.nodes → (p : ℕ) → p < t.layout.partitions → node_of t.layout p 0 ≡ n → stands_with (is_behind t_new.behind.items n) p (on_partition t.layout.partitions p all_rows)
  stands_after n lt p below on =
      let own : stands_with (is_behind t_new.behind.items n) p (rows_after p) =
      subst (λ (i : ℕ). stands_with (is_behind t_new.behind.items n) p (rows_by i (reads.nodes i) p)) (sym on) (by_node n (reads.nodes n) lt p below on) in
      subst (stands_with (is_behind t_new.behind.items n) p)
      (own_of_all t.layout.partitions rows_after p below (only_own (is_behind t_new.behind.items n) t.layout.partitions p (rows_after p) (shard_at t_new.shards.items p) own)) own

  pub shards_have_after : AreWhole t_new → (rows : Rows) × ShardsHaveMap rows t_new
  shards_have_after whole = (
    all_rows,
    subst (λ (l : Layout). TablesStand (primaries_of l) all_rows (is_behind t_new.behind.items) t_new.shards.items []) (sym reads.layout) (record {
      counted = record {
        ring = has.counted.ring;
        shard_count = whole.shard_count ∙ ap (λ (l : Layout). l.partitions) reads.layout;
        copy_count = has.counted.copy_count;
      };
      nodes = λ n lt. record {
        primaries = λ p below on. stands_after n lt p below on;
        others = λ p j below some most on. absurd (omega (arith, some, most));
      };
    }),
  )
