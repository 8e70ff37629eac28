-- Nodes that are read anew, one behind another.
use Rattle.std.proofs.Common.{◌≡◌, ◌≢◌, ◌⊎◌, inl, inr, ℕ, ◌<◌, Bool, true, false, eqb, List, length, Option, Some, None, Result, Ok, Err, OnOk, OnErr, refl, sym, ap, subst, ◌∙◌}
use Rattle.std.specs.Prelude.{slice_index}
use Rattle.std.specs.List.{slice_get}
use Rattle.std.proofs.Math.ListN.{set}
use Rattle.std.proofs.lemmas.Bool.{eqb-true, eqb-false}
use Rattle.std.proofs.lemmas.List.{get_or-set_same, get_or-set_other, length-set}
use Rattle.std.proofs.lemmas.Option.{same_Some}
use Rattle.coco_recover.proofs.Resting.{stands_still}
use Rattle.coco_append.specs.Gaining.{IsNodeLog, Stands}
use Rattle.coco_ast.specs.Keyed.{Rows, on_partition}
use Rattle.coco_chief.specs.Chief.{Chief}
use Rattle.coco_copy.specs.CopyState.{CopyState, begun}
use Rattle.coco_entry.specs.declared.commit.Commit.{Commit}
use Rattle.coco_entry.specs.declared.layout.Layout.{Layout}
use Rattle.coco_finish.specs.Exchanges.{AreInStep}
use Rattle.coco_finish.specs.Finishing.{is_behind, AreWhole}
use Rattle.coco_finish.specs.declared.tables.NodeTables.{NodeTables}
use Rattle.coco_finish.proofs.FinishLemmas.{get_set_other, get_set_same}
use Rattle.coco_host.specs.Files.{Files, NoMore}
use Rattle.coco_letters.specs.declared.voter.Voter.{Voter}
use Rattle.coco_load.specs.Tables.{copy_at, shard_at, HoldMaps, IsShardOf, Maps}
use Rattle.coco_log.specs.LogState.{IsFresh, LogState}
use Rattle.coco_net.specs.declared.letter.Posted.{Posted}
use Rattle.coco_node.specs.Node.{Node}
use Rattle.coco_shard.specs.RowState.{ShardState}
use Rattle.coco_standing.specs.Places.{node_of}
use Rattle.coco_standing.specs.Standing.{AreCounted, CopyStands, NodeIsFrom, NodeStands, OthersStay, ShardStands}
use Rattle.coco_store.specs.Contents.{Contents, map_in}
use Rattle.coco_store.specs.Entries.{prepared_kind}
use Rattle.coco_store.specs.Refusals.{IsFirst, IsNodeRefused}
use Rattle.coco_store.specs.Rules.{Setting}
use Rattle.coco_lost.proofs.Places.{set_as_was}
use Rattle.coco_lost.specs.Reading.{AreInFiles, HaveMaps, IsAnew, IsLostFile, IsLostRefused, IsOf, NodeHas, ReadsAnew, ReadsLost, ReadsOne, Stays}

-- ---- the tables on one node

module _ (layout : Layout) (k : ℕ) (s : List ShardState) (c : List CopyState) (t : List ShardState) (d : List CopyState) where
  from_same : NodeIsFrom layout k s c s c
  from_same = record { primaries = λ p lt on. refl; others = λ p j lt some most on. refl }

  from_other : (n : ℕ) → k ≢ n → OthersStay layout n s c t d → NodeIsFrom layout k s c t d
  from_other n other stay = record {
    primaries = λ p lt on. stay.primaries p lt (λ here. other (sym on ∙ here));
    others = λ p j lt some most on. stay.others p j lt some most (λ here. other (sym on ∙ here));
  }

  pub has_from : (maps : Maps) (b : Bool) → NodeIsFrom layout k s c t d → NodeHas layout maps k b s c → NodeHas layout maps k b t d
  has_from maps b from has = record {
    primaries = λ p lt on. subst (ShardStands b layout.partitions p (maps p 0)) (sym (from.primaries p lt on)) (has.primaries p lt on);
    others = λ p j lt some most on. subst (CopyStands b (maps p j)) (sym (from.others p j lt some most on)) (has.others p j lt some most on);
  }

  pub stands_from : (m : Rows) (b : Bool) → NodeIsFrom layout k s c t d → NodeStands layout m k b s c → NodeStands layout m k b t d
  stands_from m b from has = record {
    primaries = λ p lt on. subst (ShardStands b layout.partitions p (on_partition layout.partitions p m)) (sym (from.primaries p lt on)) (has.primaries p lt on);
    others = λ p j lt some most on. subst (CopyStands b (on_partition layout.partitions p m)) (sym (from.others p j lt some most on)) (has.others p j lt some most on);
  }

from_then : (layout : Layout) (k : ℕ) (s : List ShardState) (c : List CopyState) (t : List ShardState) (d : List CopyState) (u : List ShardState) (e : List CopyState)
    → NodeIsFrom layout k s c t d → NodeIsFrom layout k t d u e → NodeIsFrom layout k s c u e
from_then layout k s c t d u e one two = record {
  primaries = λ p lt on. two.primaries p lt on ∙ one.primaries p lt on;
  others = λ p j lt some most on. two.others p j lt some most on ∙ one.others p j lt some most on;
}

-- ---- all nodes

stays_same : (voters : List Voter) (t : NodeTables) (n : ℕ) → Stays n voters t voters t
stays_same voters t n = record { voter = refl; tables = from_same t.layout n t.shards.items t.copies.items t.shards.items t.copies.items; behind = refl }

pub reads_same : (voters : List Voter) (t : NodeTables) → ReadsLost voters t voters t
reads_same voters t = record { layout = refl; voter_count = refl; mark_count = refl; whole = λ whole. whole; nodes = λ n. inl (stays_same voters t n) }

not_both : {X : Type 0} → true ≡ false → X
not_both is = absurd cc

module _ (a b c : List Voter) (s t u : NodeTables) (one : ReadsLost a s b t) (two : ReadsLost b t c u) where
  abbrev from_in : Layout → ℕ → Type 0
  from_in layout k = NodeIsFrom layout k t.shards.items t.copies.items u.shards.items u.copies.items

  joined : (k : ℕ) → Stays k a s b t ⊎ IsAnew k a s b t → Stays k b t c u ⊎ IsAnew k b t c u → Stays k a s c u ⊎ IsAnew k a s c u
  joined k (inl still) (inl stays) = inl (record {
    voter = stays.voter ∙ still.voter;
    tables = from_then s.layout k s.shards.items s.copies.items t.shards.items t.copies.items u.shards.items u.copies.items still.tables (subst (λ (l : Layout). from_in l k) one.layout stays.tables);
    behind = stays.behind ∙ still.behind;
  })
  joined k (inl still) (inr anew) = inr (record {
    voter = anew.voter;
    there = sym still.voter ∙ anew.there;
    lost = anew.lost;
    log = anew.log;
    in_file = subst (λ (l : Layout). anew.log.file ≡ slice_index l.node_files k) one.layout anew.in_file;
    of_kind = anew.of_kind;
    unspent = anew.unspent;
    voter_is = anew.voter_is;
    maps = anew.maps;
    tables = subst (λ (l : Layout). NodeHas l anew.maps k false u.shards.items u.copies.items) one.layout anew.tables;
    behind = anew.behind;
  })
  joined k (inr anew) (inl stays) = inr (record {
    voter = anew.voter;
    there = anew.there;
    lost = anew.lost;
    log = anew.log;
    in_file = anew.in_file;
    of_kind = anew.of_kind;
    unspent = anew.unspent;
    voter_is = stays.voter ∙ anew.voter_is;
    maps = anew.maps;
    tables = has_from s.layout k t.shards.items t.copies.items u.shards.items u.copies.items anew.maps false (subst (λ (l : Layout). from_in l k) one.layout stays.tables) anew.tables;
    behind = stays.behind ∙ anew.behind;
  })
  joined k (inr anew) (inr again) =
      let known : Voter = record anew.voter { log = anew.log; is_lost = false } in
      let same : known ≡ again.voter = same_Some known again.voter (sym anew.voter_is ∙ again.there) in
      not_both (sym again.lost ∙ sym (ap (λ (v : Voter). v.is_lost) same))

  pub reads_then : ReadsLost a s c u
  reads_then = record {
    layout = two.layout ∙ one.layout;
    voter_count = two.voter_count ∙ one.voter_count;
    mark_count = two.mark_count ∙ one.mark_count;
    whole = λ whole. two.whole (one.whole whole);
    nodes = λ k. joined k (one.nodes k) (two.nodes k);
  }

-- lists that are lent and come back
pub reads_of : (a b c d : List Voter) (t t_new : NodeTables) → a ≡ b → d ≡ c → ReadsLost a t c t_new → ReadsLost b t d t_new
reads_of a b c d t t_new was is reads = subst (λ (xs : List Voter). ReadsLost xs t d t_new) was (subst (λ (xs : List Voter). ReadsLost a t xs t_new) (sym is) reads)

-- one node that is read, or isn't
module _ (k : ℕ) (voters : List Voter) (voter : Voter) (t : NodeTables) (voter_new : Voter) (t_new : NodeTables)
    (within : k < length voters) (marked : k < length t.behind.items) (there : slice_get voters k ≡ Some voter) where
  module _ (lost : voter.is_lost ≡ true) (so : ReadsAnew k voter t voter_new t_new) where
    by_place : (n : ℕ) (here : Bool) → eqb n k ≡ here → Stays n voters t (set voters k voter_new) t_new ⊎ IsAnew n voters t (set voters k voter_new) t_new
    by_place n true at = let same : n ≡ k = eqb-true n k at in inr (subst (λ (j : ℕ). IsAnew j voters t (set voters k voter_new) t_new) (sym same) (record {
      voter = voter;
      there = there;
      lost = lost;
      log = voter_new.log;
      in_file = so.fresh.in_file;
      of_kind = so.fresh.of_kind;
      unspent = so.fresh.unspent;
      voter_is = get_set_same voters k voter_new within ∙ ap (λ (v : Voter). Some v) so.voter_is;
      maps = so.maps;
      tables = so.tables;
      behind = ap (λ (bs : List Bool). is_behind bs k) so.behind ∙ get_or-set_same t.behind.items k false false marked;
    }))
    by_place n false at = let other : n ≢ k = eqb-false n k at in inl (record {
      voter = get_set_other voters k n voter_new other;
      tables = from_other t.layout n t.shards.items t.copies.items t_new.shards.items t_new.copies.items k other so.others;
      behind = ap (λ (bs : List Bool). is_behind bs n) so.behind ∙ get_or-set_other t.behind.items k n false false other;
    })

    anew_step : ReadsLost voters t (set voters k voter_new) t_new
    anew_step = record {
      layout = so.layout;
      voter_count = length-set voters k voter_new;
      mark_count = ap (λ (bs : List Bool). length bs) so.behind ∙ length-set t.behind.items k false;
      whole = λ _. so.whole;
      nodes = λ n. by_place n (eqb n k) refl;
    }

  same_step : voter_new ≡ voter → t_new ≡ t → ReadsLost voters t (set voters k voter_new) t_new
  same_step is tables = record {
    layout = ap (λ (x : NodeTables). x.layout) tables;
    voter_count = length-set voters k voter_new;
    mark_count = ap (λ (x : NodeTables). length x.behind.items) tables;
    whole = λ whole. subst AreWhole (sym tables) whole;
    nodes = λ n. inl (subst (λ (x : NodeTables). Stays n voters t (set voters k voter_new) x) (sym tables) (record {
      voter = ap (λ (v : Voter). slice_get (set voters k v) n) is ∙ set_as_was voters k voter within there n;
      tables = (stays_same voters t n).tables;
      behind = refl;
    }));
  }

  pub one_step : ReadsOne k voter t voter_new t_new → ReadsLost voters t (set voters k voter_new) t_new
  one_step (inl same) = same_step same.0 same.1
  one_step (inr anew) = anew_step anew.0 anew.1

-- ---- maps

module _ (voters voters_new : List Voter) (t t_new : NodeTables) (reads : ReadsLost voters t voters_new t_new) where
  module _ (maps : Maps) (has : HaveMaps maps t) where
    abbrev map_by : (n : ℕ) → Stays n voters t voters_new t_new ⊎ IsAnew n voters t voters_new t_new → Maps
    map_by n (inl stays) = maps
    map_by n (inr anew) = anew.maps

    abbrev pub maps_after : Maps
    maps_after p j = map_by (node_of t.layout p j) (reads.nodes (node_of t.layout p j)) p j

    abbrev has_new : Layout → Maps → ℕ → Type 0
    has_new l ms n = NodeHas l ms n (is_behind t_new.behind.items n) t_new.shards.items t_new.copies.items

    by_node : (n : ℕ) (so : Stays n voters t voters_new t_new ⊎ IsAnew n voters t voters_new t_new) → n < t.layout.nodes → has_new t.layout (map_by n so) n
    by_node n (inl stays) lt = subst (λ (b : Bool). NodeHas t.layout maps n b t_new.shards.items t_new.copies.items) (sym stays.behind)
        (has_from t.layout n t.shards.items t.copies.items t_new.shards.items t_new.copies.items maps (is_behind t.behind.items n) stays.tables (has.nodes n lt))
    by_node n (inr anew) lt = subst (λ (b : Bool). NodeHas t.layout anew.maps n b t_new.shards.items t_new.copies.items) (sym anew.behind) anew.tables

    node_after : (n : ℕ) → n < t.layout.nodes → has_new t.layout maps_after n
    node_after n lt =
        let so = by_node n (reads.nodes n) lt in record {
          primaries = λ p below on. subst (λ (i : ℕ). ShardStands (is_behind t_new.behind.items n) t.layout.partitions p (map_by i (reads.nodes i) p 0) (shard_at t_new.shards.items p)) (sym on) (so.primaries p below on);
          others = λ p j below some most on. subst (λ (i : ℕ). CopyStands (is_behind t_new.behind.items n) (map_by i (reads.nodes i) p j) (copy_at t.layout t_new.copies.items p j)) (sym on) (so.others p j below some most on);
        }

    pub have_maps_after : HaveMaps maps_after t_new
    have_maps_after = record {
      whole = reads.whole has.whole;
      nodes = subst (λ (l : Layout). (n : ℕ) → n < l.nodes → has_new l maps_after n) (sym reads.layout) node_after;
    }

  -- ---- marks and logs

  -- a node that is behind now was so before
  marks_fall : (n : ℕ) → is_behind t_new.behind.items n ≡ true → is_behind t.behind.items n ≡ true
  marks_fall n is = elim (reads.nodes n) [ inl stays ↦ sym stays.behind ∙ is | inr anew ↦ not_both (sym is ∙ anew.behind) ]

  marks_clear : (n : ℕ) → is_behind t.behind.items n ≡ false → is_behind t_new.behind.items n ≡ false
  marks_clear n is = elim (reads.nodes n) [ inl stays ↦ stays.behind ∙ is | inr anew ↦ anew.behind ]

  pub in_step_after : (last : ℕ) (cores : List Node) (chief : Chief) (sent : List Posted) → AreInStep last cores chief sent t.behind.items → AreInStep last cores chief sent t_new.behind.items
  in_step_after last cores chief sent step = record {
    behind = λ n core there is. step.behind n core there (marks_fall n is);
    told = λ n among. marks_clear n (step.told n among);
    up = λ n finished. marks_clear n (step.up n finished);
  }

  -- each log is in the file in which that of before was
  record WasInFile (n file : ℕ) : Type 0 where
    was : Voter
    was_there : slice_get voters n ≡ Some was
    same : file ≡ was.log.file

  file_of : AreInFiles t.layout voters → (n : ℕ) (voter : Voter) → slice_get voters_new n ≡ Some voter → WasInFile n voter.log.file
  file_of files n voter there = elim (reads.nodes n) [
    | inl stays ↦ record { was = voter; was_there = sym stays.voter ∙ there; same = refl }
    | inr anew ↦ record {
      was = anew.voter;
      was_there = anew.there;
      same = ap (λ (v : Voter). v.log.file) (sym (same_Some (record anew.voter { log = anew.log; is_lost = false }) voter (sym anew.voter_is ∙ there))) ∙ anew.in_file ∙ sym (files n anew.voter anew.there);
    }
  ]

  pub apart_after : AreInFiles t.layout voters → ((n m : ℕ) (voter other : Voter) → slice_get voters n ≡ Some voter → slice_get voters m ≡ Some other → n ≢ m → voter.log.file ≢ other.log.file)
      → (n m : ℕ) (voter other : Voter) → slice_get voters_new n ≡ Some voter → slice_get voters_new m ≡ Some other → n ≢ m → voter.log.file ≢ other.log.file
  apart_after files apart n m voter other at at_too differ is =
      let one = file_of files n voter at in
      let two = file_of files m other at_too in
      apart n m one.was two.was one.was_there two.was_there differ (sym one.same ∙ is ∙ two.same)

  pub file_apart_after : (file : ℕ) → AreInFiles t.layout voters → ((n : ℕ) (voter : Voter) → slice_get voters n ≡ Some voter → voter.log.file ≢ file) → (n : ℕ) (voter : Voter) → slice_get voters_new n ≡ Some voter → voter.log.file ≢ file
  file_apart_after file files apart n voter at is = let one = file_of files n voter at in apart n one.was one.was_there (sym one.same ∙ is)

-- ---- logs that stand

-- ---- what is read

loaded_copy : (m : Rows) (s : CopyState) → s ≡ begun 0 m → s ≡ begun s.epoch m
loaded_copy m s is = is ∙ ap (λ (e : ℕ). begun e m) (sym (ap (λ (c : CopyState). c.epoch) is))

pub counted_of : (layout : Layout) (maps : Maps) (shards : List ShardState) (copies : List CopyState) → HoldMaps layout maps shards copies → AreCounted layout shards copies
counted_of layout maps shards copies hold = record { ring = hold.tables.ring; shard_count = hold.tables.shard_count; copy_count = hold.tables.copy_count }

-- the tables on a node that are those of a set of which each has a map
pub node_held : (layout : Layout) (k : ℕ) (maps : Maps) (s : List ShardState) (c : List CopyState) (t : List ShardState) (d : List CopyState) → HoldMaps layout maps s c → NodeIsFrom layout k s c t d → NodeHas layout maps k false t d
node_held layout k maps s c t d hold from = record {
  primaries = λ p lt on. subst (IsShardOf layout.partitions p (maps p 0)) (sym (from.primaries p lt on)) (hold.primaries p lt);
  others = λ p j lt some most on. subst (λ (x : CopyState). x ≡ begun x.epoch (maps p j)) (sym (from.others p j lt some most on)) (loaded_copy (maps p j) (copy_at layout c p j) (hold.others p j lt some most).holds);
}

-- a node whose log and tables are those that were read
pub is_of_read : (c : Contents) (k : ℕ) (t : NodeTables) (voter : Voter) (t_new : NodeTables) (shards : List ShardState) (copies : List CopyState) → t_new.layout ≡ t.layout → t_new.behind.items ≡ set t.behind.items k false
    → k < length t.behind.items → NodeIsFrom t.layout k shards copies t_new.shards.items t_new.copies.items → NodeStands t.layout (map_in c) k false shards copies → IsNodeLog c k voter.log → IsOf c k voter t_new
is_of_read c k t voter t_new shards copies layout behind marked from stands log = record {
  log = log;
  tables = subst (λ (l : Layout). NodeStands l (map_in c) k (is_behind t_new.behind.items k) t_new.shards.items t_new.copies.items) (sym layout)
      (subst (λ (b : Bool). NodeStands t.layout (map_in c) k b t_new.shards.items t_new.copies.items) (sym (ap (λ (bs : List Bool). is_behind bs k) behind ∙ get_or-set_same t.behind.items k false false marked))
      (stands_from t.layout k shards copies t_new.shards.items t_new.copies.items (map_in c) false from stands));
}

-- another node is as it was
pub is_of_other : (c : Contents) (k n : ℕ) (voter : Voter) (t : NodeTables) (voter_new : Voter) (t_new : NodeTables) (v : Voter) → n ≢ k → ReadsOne k voter t voter_new t_new → IsOf c n v t → IsOf c n v t_new
is_of_other c k n voter t voter_new t_new v other (inl same) is = subst (λ (x : NodeTables). IsOf c n v x) (sym same.1) is
is_of_other c k n voter t voter_new t_new v other (inr anew) is =
    let so = anew.1 in record {
      log = is.log;
      tables = subst (λ (l : Layout). NodeStands l (map_in c) n (is_behind t_new.behind.items n) t_new.shards.items t_new.copies.items) (sym so.layout)
          (subst (λ (b : Bool). NodeStands t.layout (map_in c) n b t_new.shards.items t_new.copies.items) (sym (ap (λ (bs : List Bool). is_behind bs n) so.behind ∙ get_or-set_other t.behind.items k n false false other))
          (stands_from t.layout n t.shards.items t.copies.items t_new.shards.items t_new.copies.items (map_in c) (is_behind t.behind.items n)
          (from_other t.layout n t.shards.items t.copies.items t_new.shards.items t_new.copies.items k other so.others) is.tables));
    }

-- what comes of a call, by its answer
pub either_way : {T E : Type 0} (r : Result T E) (P Q X : Type 0) → OnOk r P → OnErr r Q → (P → X) → (Q → X) → X
either_way (Ok x) P Q X p q f g = f p
either_way (Err e) P Q X p q f g = g q

-- a node that is lost now was so before
module _ (voters now : List Voter) (t t_now : NodeTables) (k : ℕ) (voter : Voter) (file : ℕ) (reads : ReadsLost voters t now t_now)
    (there : slice_get now k ≡ Some voter) (lost : voter.is_lost ≡ true) (is : file ≡ slice_index t_now.layout.node_files k) where
  lost_at : (was : IsLostFile t.layout voters file) × (was.node ≡ k)
  lost_at = elim (reads.nodes k) [
    | inl stays ↦ (record { node = k; voter = voter; there = sym stays.voter ∙ there; lost = lost; is = subst (λ (l : Layout). file ≡ slice_index l.node_files k) reads.layout is }, refl)
    | inr anew ↦ not_both (sym lost ∙ sym (ap (λ (v : Voter). v.is_lost) (same_Some (record anew.voter { log = anew.log; is_lost = false }) voter (sym anew.voter_is ∙ there))))
  ]

  pub lost_file : IsLostFile t.layout voters file
  lost_file = lost_at.0

  pub lost_refused : (s : Setting) (commits : List Commit) (bytes : List ℕ) (at : ℕ) → IsFirst (IsNodeRefused s commits k bytes) at → IsLostRefused t.layout voters s commits file bytes at
  lost_refused s commits bytes at first = (lost_at.0, subst (λ (n : ℕ). IsFirst (IsNodeRefused s commits n bytes) at) (sym lost_at.1) first)

-- so holds of an Ok what follows from what holds of it
pub ok_so : {T E P Q : Type 0} (r : Result T E) → OnOk r P → (P → Q) → OnOk r Q
ok_so (Ok x) p f = f p
ok_so (Err e) p f = tt

-- so does what follows from two facts
pub both_so : {T E P Q X : Type 0} (r : Result T E) → OnOk r P → OnOk r Q → (P → Q → X) → OnOk r X
both_so (Ok x) p q f = f p q
both_so (Err e) p q f = tt

-- what was read is put in its place
pub anew_of : (k : ℕ) (voter : Voter) (t : NodeTables) (log : LogState) (t_new : NodeTables) (maps : Maps) (shards : List ShardState) (copies : List CopyState) → HoldMaps t.layout maps shards copies → t_new.layout ≡ t.layout → AreWhole t_new
    → NodeIsFrom t.layout k shards copies t_new.shards.items t_new.copies.items → OthersStay t.layout k t.shards.items t.copies.items t_new.shards.items t_new.copies.items → t_new.behind.items ≡ set t.behind.items k false
    → IsFresh log (slice_index t.layout.node_files k) prepared_kind → ReadsAnew k voter t (record voter { log = log; is_lost = false }) t_new
anew_of k voter t log t_new maps shards copies hold layout whole from others behind fresh = record {
  layout = layout;
  whole = whole;
  maps = maps;
  tables = node_held t.layout k maps shards copies t_new.shards.items t_new.copies.items hold from;
  others = others;
  behind = behind;
  fresh = fresh;
  voter_is = refl;
}
