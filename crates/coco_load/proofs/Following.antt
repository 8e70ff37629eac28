-- What was read of the nodes' files, and what the tables hold in the end.
use Rattle.std.proofs.Common.{◌≡◌, ℕ, ◌+◌, ◌%◌, ◌<◌, Bool, true, false, cond, nat_eq, List, [], ◌∷◌, ◌++◌, append-nil, filter, Some, refl, sym, ap, ◌∙◌, arith}
use Rattle.std.specs.List.{flat_map}
use Rattle.std.specs.Set.{is_member}
use Rattle.std.proofs.lemmas.List.{map-append}
use Rattle.std.proofs.lemmas.List.Concat.{flat_map-append}
use Rattle.std.proofs.lemmas.List.Elements.{filter-append}
use Rattle.coco_types.specs.RowKey.{RowKey}
use Rattle.coco_types.specs.declared.call.Write.{Write}
use Rattle.coco_types.specs.declared.value.Value.{Value}
use Rattle.coco_ast.specs.Keyed.{put_over}
use Rattle.coco_entry.specs.declared.prepared.Prepared.{Prepared}
use Rattle.coco_store.specs.Contents.{committed_writes, map_in, on, writes_on}
use Rattle.coco_store.specs.Rules.{Setting, base_of, base_values, values_of}
use Rattle.coco_load.specs.Laws.{AllIsRead, BaseGrows, CommittedIsRead, NodesDecide, OtherIsPassed, ReadingBegins, TablesHoldTheMap}
use Rattle.coco_load.specs.Reading.{maps_of, maps_read, puts, with_entry, with_rows}
use Rattle.coco_load.proofs.TableLemmas.{same_maps}
use Rattle.coco_load.proofs.Writes.{put_over-append}

-- ---- the base

pub base_grows : BaseGrows
base_grows s before entry =
    ap (λ (rows : List (RowKey × Value)). put_over (base_of s []).rows (puts rows)) (flat_map-append values_of before (entry ∷ []) ∙ ap (λ (rows : List (RowKey × Value)). base_values before ++ rows) (append-nil (values_of entry)))
    ∙ ap (put_over (base_of s []).rows) (map-append (λ (r : RowKey × Value). record { key = r.0; value = Some r.1 }) (base_values before) (values_of entry))
    ∙ put_over-append (base_of s []).rows (puts (base_values before)) (puts (values_of entry))

-- ---- entries

module _ (s : Setting) (p : ℕ) (epochs : List ℕ) where
  abbrev is_of : Prepared → Bool
  is_of e = is_member nat_eq epochs e.epoch

  more : (es : List Prepared) (e : Prepared) → committed_writes s p epochs (es ++ e ∷ []) ≡ committed_writes s p epochs es ++ flat_map (λ (x : Prepared). writes_on s p x.rows) (cond (is_of e) (e ∷ []) [])
  more es e = ap (flat_map (λ (x : Prepared). writes_on s p x.rows)) (filter-append is_of es (e ∷ [])) ∙ flat_map-append (λ (x : Prepared). writes_on s p x.rows) (filter is_of es) (cond (is_of e) (e ∷ []) [])

  more_committed : (es : List Prepared) (e : Prepared) → is_of e ≡ true → committed_writes s p epochs (es ++ e ∷ []) ≡ committed_writes s p epochs es ++ writes_on s p e.rows
  more_committed es e is =
      more es e ∙ ap (λ (b : Bool). committed_writes s p epochs es ++ flat_map (λ (x : Prepared). writes_on s p x.rows) (cond b (e ∷ []) [])) is
      ∙ ap (λ (ws : List Write). committed_writes s p epochs es ++ ws) (append-nil (writes_on s p e.rows))

  more_passed : (es : List Prepared) (e : Prepared) → is_of e ≡ false → committed_writes s p epochs (es ++ e ∷ []) ≡ committed_writes s p epochs es
  more_passed es e is =
      more es e ∙ ap (λ (b : Bool). committed_writes s p epochs es ++ flat_map (λ (x : Prepared). writes_on s p x.rows) (cond b (e ∷ []) [])) is
      ∙ append-nil (committed_writes s p epochs es)

pub reading_begins : ReadingBegins
reading_begins s base epochs shards copies hold = hold

pub committed_is_read : CommittedIsRead
committed_is_read s base epochs entries n e shards copies is = same_maps s.entry.layout (with_rows s n e.rows (maps_read s base epochs entries)) (maps_read s base epochs (with_entry n e entries)) shards copies
    (λ p j below to. choose p ((p + j) % s.entry.layout.nodes) (nat_eq ((p + j) % s.entry.layout.nodes) n))
  where
    choose : (p m : ℕ) (b : Bool) → cond b (put_over (put_over (on s p base) (committed_writes s p epochs (entries m))) (writes_on s p e.rows)) (put_over (on s p base) (committed_writes s p epochs (entries m)))
        ≡ put_over (on s p base) (committed_writes s p epochs (cond b (entries m ++ e ∷ []) (entries m)))
    choose p m true = sym (ap (put_over (on s p base)) (more_committed s p epochs (entries m) e is) ∙ put_over-append (on s p base) (committed_writes s p epochs (entries m)) (writes_on s p e.rows))
    choose p m false = refl

pub other_is_passed : OtherIsPassed
other_is_passed s base epochs entries n e shards copies is = same_maps s.entry.layout (maps_read s base epochs entries) (maps_read s base epochs (with_entry n e entries)) shards copies
    (λ p j below to. choose p ((p + j) % s.entry.layout.nodes) (nat_eq ((p + j) % s.entry.layout.nodes) n))
  where
    choose : (p m : ℕ) (b : Bool) → put_over (on s p base) (committed_writes s p epochs (entries m)) ≡ put_over (on s p base) (committed_writes s p epochs (cond b (entries m ++ e ∷ []) (entries m)))
    choose p m true = sym (ap (put_over (on s p base)) (more_passed s p epochs (entries m) e is))
    choose p m false = refl

left_within : (x count least : ℕ) → least < count → x % count < count
left_within x count least some = omega arith

pub nodes_decide : NodesDecide
nodes_decide s base epochs entries others shards copies same hold = same_maps s.entry.layout (maps_read s base epochs entries) (maps_read s base epochs others) shards copies
    (λ p j below to. ap (λ (es : List Prepared). put_over (on s p base) (committed_writes s p epochs es))
    (same ((p + j) % s.entry.layout.nodes) (left_within (p + j) s.entry.layout.nodes s.entry.layout.copies hold.tables.ring.around))) hold

pub all_is_read : AllIsRead
all_is_read c shards copies hold = hold

pub tables_hold_the_map : TablesHoldTheMap
tables_hold_the_map c shards copies rows hold = same_maps c.setting.entry.layout (maps_of c) (λ p j. on c.setting p (map_in c)) shards copies
    (λ p j below to. rows ((p + j) % c.setting.entry.layout.nodes) p (left_within (p + j) c.setting.entry.layout.nodes c.setting.entry.layout.copies hold.tables.ring.around) below (j, to, refl)) hold
