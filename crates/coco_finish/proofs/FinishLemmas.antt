-- Steps of nodes that finish an epoch, one behind another.
use Rattle.std.proofs.Common.{◌≡◌, ◌≢◌, ◌⊎◌, inl, inr, ℕ, zero, suc, ◌<◌, Bool, true, false, eqb, List, [], ◌∷◌, length, Some, refl, sym, ap, subst, ◌∙◌, arith}
use Rattle.std.specs.List.{slice_get}
use Rattle.std.proofs.Math.ListN.{set}
use Rattle.std.proofs.lemmas.Bool.{eqb-true, eqb-false}
use Rattle.std.proofs.lemmas.List.{get_or-set_same, get_or-set_other}
use Rattle.std.proofs.lemmas.Option.{same_Some}
use Rattle.coco_copy.specs.CopyState.{CopyState}
use Rattle.coco_entry.specs.declared.layout.Layout.{Layout}
use Rattle.coco_load.specs.Tables.{copy_at, shard_at}
use Rattle.coco_net.specs.declared.letter.Letter.{Letter}
use Rattle.coco_net.specs.declared.letter.Posted.{Posted}
use Rattle.coco_node.specs.declared.machine.Decision.TheVariants.{Committed}
use Rattle.coco_node.specs.Node.{Node}
use Rattle.coco_shard.specs.RowState.{ShardState}
use Rattle.coco_standing.specs.Changes.{PromotesCopy, PromotesShard}
use Rattle.coco_standing.specs.Standing.{NodeIsFrom, NodePromotes}
use Rattle.coco_finish.specs.declared.tables.NodeTables.{NodeTables}
use Rattle.coco_finish.specs.Finishing.{is_behind, CatchesUpIf, Finish, FinishesSo, Promotes, Stays}
use Rattle.coco_finish.proofs.HearLemmas.{known_not}

-- ---- places

module _ {X : Type 0} where
  pub get_set_same : (xs : List X) (i : ℕ) (w : X) → i < length xs → slice_get (set xs i w) i ≡ Some w
  get_set_same [] i w h = absurd (omega arith)
  get_set_same (x ∷ xs) zero w h = refl
  get_set_same (x ∷ xs) (suc i) w h = get_set_same xs i w (omega arith)

  pub get_set_other : (xs : List X) (i j : ℕ) (w : X) → j ≢ i → slice_get (set xs i w) j ≡ slice_get xs j
  get_set_other [] i j w h = refl
  get_set_other (x ∷ xs) zero zero w h = absurd (h refl)
  get_set_other (x ∷ xs) zero (suc j) w h = refl
  get_set_other (x ∷ xs) (suc i) zero w h = refl
  get_set_other (x ∷ xs) (suc i) (suc j) w h = get_set_other xs i j w (λ e. h (ap suc e))

-- ---- the tables on one node

module _ (layout : Layout) (k : ℕ) (s : List ShardState) (c : List CopyState) (t : List ShardState) (d : List CopyState) (u : List ShardState) (e : List CopyState) where
  from_then : NodeIsFrom layout k s c t d → NodeIsFrom layout k t d u e → NodeIsFrom layout k s c u e
  from_then one two = record {
    primaries = λ p lt on. two.primaries p lt on ∙ one.primaries p lt on;
    others = λ p j lt some most on. two.others p j lt some most on ∙ one.others p j lt some most on;
  }

  promotes_later : NodeIsFrom layout k s c t d → NodePromotes layout k t d u e → NodePromotes layout k s c u e
  promotes_later one two = record {
    primaries = λ p lt on. subst (λ (x : ShardState). PromotesShard x (shard_at u p)) (one.primaries p lt on) (two.primaries p lt on);
    others = λ p j lt some most on. subst (λ (x : CopyState). PromotesCopy x (copy_at layout e p j)) (one.others p j lt some most on) (two.others p j lt some most on);
  }

  promotes_before : NodePromotes layout k s c t d → NodeIsFrom layout k t d u e → NodePromotes layout k s c u e
  promotes_before one two = record {
    primaries = λ p lt on. subst (λ (x : ShardState). PromotesShard (shard_at s p) x) (sym (two.primaries p lt on)) (one.primaries p lt on);
    others = λ p j lt some most on. subst (λ (x : CopyState). PromotesCopy (copy_at layout c p j) x) (sym (two.others p j lt some most on)) (one.others p j lt some most on);
  }

from_same : (layout : Layout) (k : ℕ) (s : List ShardState) (c : List CopyState) → NodeIsFrom layout k s c s c
from_same layout k s c = record { primaries = λ p lt on. refl; others = λ p j lt some most on. refl }

-- ---- all nodes

pub finish_same : (e : ℕ) (cores : List Node) (t : NodeTables) → Finish e cores cores t t
finish_same e cores t = record { layout = refl; nodes = λ k. inl (record { core = refl; tables = from_same t.layout k t.shards.items t.copies.items; behind = refl }) }

module _ (e : ℕ) (a b c : List Node) (s t u : NodeTables) (one : Finish e a b s t) (two : Finish e b c t u) where
  abbrev from_in : Layout → ℕ → Type 0
  from_in layout k = NodeIsFrom layout k t.shards.items t.copies.items u.shards.items u.copies.items

  abbrev promotes_in : Layout → ℕ → Type 0
  promotes_in layout k = NodePromotes layout k t.shards.items t.copies.items u.shards.items u.copies.items

  joined : (k : ℕ) → Stays k a b s t ⊎ Promotes e k a b s t → Stays k b c t u ⊎ Promotes e k b c t u → Stays k a c s u ⊎ Promotes e k a c s u
  joined k (inl still) (inl stays) = inl (record {
    core = stays.core ∙ still.core;
    tables = from_then s.layout k s.shards.items s.copies.items t.shards.items t.copies.items u.shards.items u.copies.items still.tables (subst (λ (l : Layout). from_in l k) one.layout stays.tables);
    behind = stays.behind ∙ still.behind;
  })
  joined k (inl still) (inr promotes) = inr (record {
    core = promotes.core;
    there = sym still.core ∙ promotes.there;
    yet = promotes.yet;
    heard = promotes.heard;
    tables = promotes_later s.layout k s.shards.items s.copies.items t.shards.items t.copies.items u.shards.items u.copies.items still.tables (subst (λ (l : Layout). promotes_in l k) one.layout promotes.tables);
    behind = promotes.behind;
  })
  joined k (inr promotes) (inl stays) = inr (record {
    core = promotes.core;
    there = promotes.there;
    yet = promotes.yet;
    heard = stays.core ∙ promotes.heard;
    tables = promotes_before s.layout k s.shards.items s.copies.items t.shards.items t.copies.items u.shards.items u.copies.items promotes.tables (subst (λ (l : Layout). from_in l k) one.layout stays.tables);
    behind = stays.behind ∙ promotes.behind;
  })
  joined k (inr promotes) (inr again) =
      let known : Node = record promotes.core { decision = Committed } in
      let same : known ≡ again.core = same_Some known again.core (sym promotes.heard ∙ again.there) in
      known_not (ap (λ (n : Node). n.decision) same ∙ again.yet.unknown)

  pub finish_then : Finish e a c s u
  finish_then = record { layout = two.layout ∙ one.layout; nodes = λ k. joined k (one.nodes k) (two.nodes k) }

-- a letter that one node takes
pub finish_step : (first : Bool) (e n : ℕ) (letter : Letter) (cores : List Node) (sent : List Posted) (cores_new : List Node) (sent_new : List Posted) (old new : NodeTables) → n < length cores → n < length old.behind.items
    → FinishesSo first e n letter cores sent cores_new sent_new → CatchesUpIf first n old new → Finish e cores cores_new old new
finish_step false e n letter cores sent cores_new sent_new old new within marked (inl again) same =
    subst (λ (t : NodeTables). Finish e cores cores_new old t) (sym same) (subst (λ (cs : List Node). Finish e cores cs old old) (sym again.1.cores_stay) (finish_same e cores old))
finish_step false e n letter cores sent cores_new sent_new old new within marked (inr none) same =
    subst (λ (t : NodeTables). Finish e cores cores_new old t) (sym same) (subst (λ (cs : List Node). Finish e cores cs old old) (sym none.1) (finish_same e cores old))
finish_step true e n letter cores sent cores_new sent_new old new within marked so up = record { layout = up.layout; nodes = λ k. by_place k (eqb k n) refl }
  where
    by_place : (k : ℕ) (here : Bool) → eqb k n ≡ here → Stays k cores cores_new old new ⊎ Promotes e k cores cores_new old new
    by_place k true at = let same : k ≡ n = eqb-true k n at in inr (subst (λ (j : ℕ). Promotes e j cores cores_new old new) (sym same) (record {
      core = so.1.core;
      there = so.1.there;
      yet = so.1.yet;
      heard = ap (λ (cs : List Node). slice_get cs n) so.1.cores_are ∙ get_set_same cores n (record so.1.core { decision = Committed }) within;
      tables = up.promoted;
      behind = ap (λ (bs : List Bool). is_behind bs n) up.behind ∙ get_or-set_same old.behind.items n false false marked;
    }))
    by_place k false at = let other : k ≢ n = eqb-false k n at in inl (record {
      core = ap (λ (cs : List Node). slice_get cs k) so.1.cores_are ∙ get_set_other cores n k (record so.1.core { decision = Committed }) other;
      tables = record {
        primaries = λ p lt on. up.others.primaries p lt (λ here. other (sym on ∙ here));
        others = λ p j lt some most on. up.others.others p j lt some most (λ here. other (sym on ∙ here));
      };
      behind = ap (λ (bs : List Bool). is_behind bs k) up.behind ∙ get_or-set_other old.behind.items n k false false other;
    })
