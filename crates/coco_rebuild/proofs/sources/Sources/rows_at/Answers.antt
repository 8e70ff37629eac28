use Rattle.std.proofs.Common.{◌≡◌, ◌≢◌, ℕ, Err, true, filter, sym, ap, subst, ◌∙◌}
use Rattle.std.specs.Prelude.{IsSome}
use Rattle.std.specs.List.{AllByRecursion}
use Rattle.std.proofs.lemmas.Result.{err_from_is_err_and}
use Rattle.coco_entry.specs.declared.prepared.Row.{Row}
use Rattle.coco_read.specs.declared.fault.OpenFault.TheVariants.{NotAStore}
use Rattle.coco_rebuild.specs.Rebuilding.{rows_at}
use Rattle.coco_rebuild.specs.Sources.{IsReadIn, file_at, gets}
use Rattle.coco_rebuild.proofs.Sourcing.{after_is_other, after_some, are_got, first_is_other, first_some, got_apart, has_epoch}
use Rattle.coco_rebuild.proofs.sources.Sources.rows_at.Goals as goal

pub returns-in_err-rows-clause-kept : goal.returns-in_err-rows-clause-kept
returns-in_err-rows-clause-kept g c file at last epochs files d told others read less member is =
    let layout = c.args.layout.now in
    let node = c.args.node in
    let s = c.args.self.now in
    let p = err_from_is_err_and c.from_residual.result c.from_residual.ensures.1 in
    let same : c.in_err-rows.field-0.0 ≡ NotAStore file at = cc (p.1, p.2, is) in
    let n = c.node_after-after.result in
    let n_is = c.node_after-after.ensures.is in
    let other : IsSome s.after → n ≢ node = λ some. subst (λ (m : ℕ). m ≢ node) (sym n_is) (after_is_other layout node c.requires.node c.requires.around (after_some layout node s.after c.requires.sources.after some)) in
    c.in_err-rows.ensures.kept file at (d.prepared n) last files told (λ some. has_epoch layout node epochs files d others n c.node_after-after.ensures.within (other some) c.args.epoch member) less
    (subst (λ (m : ℕ). IsReadIn s.after (d.prepared m) last (files (file_at layout m))) (sym n_is) read.after) (ap Err same)

pub returns-in_err-others-clause-kept : goal.returns-in_err-others-clause-kept
returns-in_err-others-clause-kept g c file at last epochs files d told others read less member is =
    let layout = c.args.layout.now in
    let node = c.args.node in
    let s = c.args.self.now in
    let p = err_from_is_err_and c.from_residual-in_err-others.result c.from_residual-in_err-others.ensures.1 in
    let same : c.in_err-others.field-0.0 ≡ NotAStore file at = cc (p.1, p.2, is) in
    let n = c.node_first-first.result in
    let n_is = c.node_first-first.ensures.is in
    let other : IsSome s.first → n ≢ node = λ some. subst (λ (m : ℕ). m ≢ node) (sym n_is) (first_is_other layout node c.requires.node c.requires.around (first_some layout node s.first c.requires.sources.first some)) in
    c.in_err-others.ensures.kept file at (d.prepared n) last files (c.in_ok-rows.ensures.read.same ∙ told)
    (λ some. has_epoch layout node epochs files d others n c.node_first-first.ensures.within (other some) c.args.epoch member) less
    (subst (λ (m : ℕ). IsReadIn s.first (d.prepared m) last (files (file_at layout m))) (sym n_is) read.first) (ap Err same)

pub returns-clause-apart : goal.returns-clause-apart
returns-clause-apart g c =
    let layout = c.args.layout.now in
    let node = c.args.node in
    let xs = c.in_ok-rows.rows.items in
    let ys = c.in_ok-others.others.items in
    got_apart layout node c.args.self.now.first xs ys c.requires.sources.first c.in_ok-others.ensures.none
    (subst (λ (m : ℕ). AllByRecursion (λ (r : Row). gets layout node m r.key ≡ true) xs) c.node_after-after.ensures.is c.in_ok-rows.ensures.got)
    (subst (λ (m : ℕ). AllByRecursion (λ (r : Row). gets layout node m r.key ≡ true) ys) c.node_first-first.ensures.is c.in_ok-others.ensures.got)

pub returns-clause-rows : goal.returns-clause-rows
returns-clause-rows g c last epochs files d told others read less member =
    let layout = c.args.layout.now in
    let node = c.args.node in
    let epoch = c.args.epoch in
    let s = c.args.self.now in
    let xs = c.in_ok-rows.rows.items in
    let ys = c.in_ok-others.others.items in
    let n = c.node_after-after.result in
    let n_is = c.node_after-after.ensures.is in
    let m = c.node_first-first.result in
    let m_is = c.node_first-first.ensures.is in
    let after_other : IsSome s.after → n ≢ node = λ some. subst (λ (k : ℕ). k ≢ node) (sym n_is) (after_is_other layout node c.requires.node c.requires.around (after_some layout node s.after c.requires.sources.after some)) in
    let first_other : IsSome s.first → m ≢ node = λ some. subst (λ (k : ℕ). k ≢ node) (sym m_is) (first_is_other layout node c.requires.node c.requires.around (first_some layout node s.first c.requires.sources.first some)) in
    let one = c.in_ok-rows.ensures.rows (d.prepared n) last files told (λ some. has_epoch layout node epochs files d others n c.node_after-after.ensures.within (after_other some) epoch member) less
    (subst (λ (k : ℕ). IsReadIn s.after (d.prepared k) last (files (file_at layout k))) (sym n_is) read.after) in
    let two = c.in_ok-others.ensures.rows (d.prepared m) last files (c.in_ok-rows.ensures.read.same ∙ told) (λ some. has_epoch layout node epochs files d others m c.node_first-first.ensures.within (first_other some) epoch member) less
    (subst (λ (k : ℕ). IsReadIn s.first (d.prepared k) last (files (file_at layout k))) (sym m_is) read.first) in (
      record {
        after = subst (λ (k : ℕ). IsReadIn c.rows_of.new.source (d.prepared k) epoch (files (file_at layout k))) n_is one.0;
        first = subst (λ (k : ℕ). IsReadIn c.rows_of-2.new.source (d.prepared k) epoch (files (file_at layout k))) m_is two.0;
      },
      are_got layout node d epoch s.after s.first xs ys c.requires.sources.after c.requires.sources.first c.in_ok-rows.ensures.none c.in_ok-others.ensures.none
          (λ some. subst (λ (k : ℕ). xs ≡ filter (λ (r : Row). gets layout node k r.key) (rows_at epoch (d.prepared k))) n_is (one.1 some))
          (λ some. subst (λ (k : ℕ). ys ≡ filter (λ (r : Row). gets layout node k r.key) (rows_at epoch (d.prepared k))) m_is (two.1 some)),
    )
