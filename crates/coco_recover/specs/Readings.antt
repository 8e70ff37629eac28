-- The bytes of an entry are read as that entry.
use Rattle.std.proofs.Common.{◌≡◌, refl, ap, lit<}
use Rattle.std.specs.Prelude.{List, Result, Ok, slice_index}
use Rattle.coco_bytes.specs.declared.fault.FieldFault.{FieldFault}
use Rattle.coco_bytes.specs.Lists.{last_item}
use Rattle.coco_entry.specs.declared.commit.Commit.{Commit}
use Rattle.coco_entry.specs.declared.layout.LayoutEntry.{LayoutEntry}
use Rattle.coco_entry.specs.declared.prepared.Prepared.{Prepared}
use Rattle.coco_entry.specs.Bases.{AreBaseDones, AreBaseRows, IsHead, base_dones_at, base_dones_bytes, base_rows_at, base_rows_bytes, head_at, head_bytes}
use Rattle.coco_entry.specs.Commits.{IsCommit, commit_at, commit_bytes, commit_in}
use Rattle.coco_entry.specs.Layouts.{IsLayout, layout_at, layout_bytes, layout_in}
use Rattle.coco_entry.specs.Rows.{IsPrepared, prepared_at, prepared_bytes, prepared_in}
use Rattle.coco_entry.proofs.BaseLemmas.{base_dones_agree, base_rows_agree, head_agrees}
use Rattle.coco_entry.proofs.EntryLemmas.{commit_agrees, prepared_agrees}
use Rattle.coco_entry.proofs.GrammarLemmas.{entry_again}
use Rattle.coco_entry.proofs.LayoutLemmas.{layout_agrees}
use Rattle.coco_store.specs.Entries.{BaseEntry, Dones, Head, IsBaseEntry, Values, base_bytes}
use Rattle.coco_store.specs.Refusals.{at_tag, base_behind, base_in, mapped, may_stand}

pub layout_reads : (e : LayoutEntry) → IsLayout e → layout_in (layout_bytes e) ≡ Ok e
layout_reads e is = entry_again 1 layout_at _ IsLayout layout_agrees (layout_bytes e) e (lit< tt) is refl

base_reads : (e : BaseEntry) → IsBaseEntry e → base_in (base_bytes e) ≡ Ok e
base_reads (Head head) is = ap (mapped Head) (entry_again 4 head_at _ IsHead head_agrees (head_bytes head) head (lit< tt) is refl)
base_reads (Dones dones) is = ap (mapped Dones) (entry_again 5 base_dones_at _ AreBaseDones base_dones_agree (base_dones_bytes dones) dones (lit< tt) is refl)
base_reads (Values rows) is = ap (mapped Values) (entry_again 6 base_rows_at _ AreBaseRows base_rows_agree (base_rows_bytes rows) rows (lit< tt) is refl)

pub base_stands : (before : List BaseEntry) (e : BaseEntry) → IsBaseEntry e → base_behind before (base_bytes e) ≡ Ok e
base_stands before e is = ap (λ (r : Result BaseEntry FieldFault). at_tag r (may_stand (last_item before) (slice_index (base_bytes e) 0))) (base_reads e is)

pub commit_reads : (e : Commit) → IsCommit e → commit_in (commit_bytes e) ≡ Ok e
commit_reads e is = entry_again 2 commit_at _ IsCommit commit_agrees (commit_bytes e) e (lit< tt) is refl

pub prepared_reads : (e : Prepared) → IsPrepared e → prepared_in (prepared_bytes e) ≡ Ok e
prepared_reads e is = entry_again 3 prepared_at _ IsPrepared prepared_agrees (prepared_bytes e) e (lit< tt) is refl
