use Rattle.std.proofs.Common.{◌≡◌, ℕ, List, [], ◌∷◌, ◌++◌, refl, sym, subst}
use Rattle.coco_append.proofs.GainLemmas.{on_ok}
use Rattle.coco_entry.specs.declared.prepared.Prepared.{Prepared}
use Rattle.coco_entry.specs.Rows.{prepared_bytes}
use Rattle.coco_log.specs.Drafts.{Drafts}
use Rattle.coco_rebuild.specs.Sources.{Interleaves}
use Rattle.coco_rebuild.proofs.Rebuilt.{rebuilt_of}
use Rattle.coco_rebuild.proofs.writing.add_epoch.Goals as goal

pub returns-clause-added : goal.returns-clause-added
returns-clause-added g c =
    let R = g.H.Host.reads in
    let xs = c.in_ok-rows.rows.items in
    let ys = c.in_ok-rows.others.items in
    let entry : Prepared = record { epoch = c.args.epoch; rows = c.as_slice.result.now } in
    let bytes : c.as_slice-2.result.now ≡ prepared_bytes entry = rw (c.as_slice-2.ensures.value, c.in_ok-put_prepared.ensures.ok, c.clear.ensures.items) refl in
    let both : Interleaves xs ys entry.rows = subst (Interleaves xs ys) (sym c.as_slice.ensures.value) c.in_ok-rows-2.ensures.both in
    on_ok c.add_entry.result _ _ (λ more bodies drafts. record {
      entry = entry;
      epoch_is = refl;
      is = c.in_ok-put_prepared.ensures.entry;
      drafts = subst (λ (b : List ℕ). Drafts c.add_entry.new.draft (bodies ++ b ∷ []) (R c.add_entry.new.host)) bytes (more bodies (subst (Drafts c.args.draft.now bodies) (sym c.in_ok-rows.ensures.read.same) drafts));
      told = λ last epochs files d told others read less member.
          (let got = c.in_ok-rows.ensures.rows last epochs files d told others read less member in
          (rebuilt_of c.args.layout.now c.args.node epochs files d others c.requires.node c.requires.around entry xs ys c.in_ok-put_prepared.ensures.entry got.1 both, got.0));
    }) c.add_entry.ensures.drafts
