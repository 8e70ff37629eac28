use Rattle.std.proofs.Common.{◌++◌, ◌&&◌, List, refl, nat_lt, sym, ap, subst, ◌∙◌, arith}
use Rattle.std.proofs.lemmas.List.{length-take-le}
use Rattle.coco_types.specs.Limits.{epochs_end}
use Rattle.coco_types.specs.declared.call.Done.{Done}
use Rattle.coco_store.specs.Rules.{EachBehind, IsCommittedDone, commit_epochs, dones_in, kept_dones}
use Rattle.coco_rules.specs.Behind.{IsBehindDones}
use Rattle.coco_rules.proofs.CommitLemmas.{behind_more, dones_within, first_done, first_epoch}
use Rattle.coco_rules.proofs.EpochLemmas.{epoch_is, no_epoch}
use Rattle.coco_rules.proofs.JudgedLemmas.{found_at, found_none}
use Rattle.coco_rules.proofs.commits.HistoryRules.next.Goals as goal

pub returns-then-not-goes_on : goal.returns-then-not-goes_on
returns-then-not-goes_on c = λ s base before same behind.
    let epoch = c.args.commit.now.epoch in
    first_epoch s base before c.args.commit.now
    (no_epoch s.entry.layout.base_epoch (commit_epochs before) epoch (ap (λ n. nat_lt n epoch && nat_lt epoch epochs_end) (sym behind.last_epoch) ∙ sym c.goes_on.ensures ∙ c.if-not-goes_on.true))

pub slice_bounds-dones_len-end : goal.slice_bounds-dones_len-end
slice_bounds-dones_len-end c =
    let within = rw c.in-Some.is at c.in_ok-place.ensures.within in
    sym (length-take-le c.in-Some.place c.as_slice-dones.result.now (omega (arith, within)))

pub dones_len-requires : goal.dones_len-requires
dones_len-requires c = omega (arith, c.requires, dones_within c.args.commit.now c.as_slice-dones.result.now c.in-Some.place c.as_slice-dones.ensures)

pub overflow_add-result : goal.overflow_add-result
overflow_add-result c = omega (arith, c.requires, c.dones_len.ensures, dones_within c.args.commit.now c.as_slice-dones.result.now c.in-Some.place c.as_slice-dones.ensures)

pub returns-in-Some : goal.returns-in-Some
returns-in-Some c = λ s base before same behind.
    let epoch = c.args.commit.now.epoch in
    let next = epoch_is s.entry.layout.base_epoch (commit_epochs before) epoch (ap (λ n. nat_lt n epoch && nat_lt epoch epochs_end) (sym behind.last_epoch) ∙ sym c.goes_on.ensures ∙ c.if-not-goes_on.false) in
    first_done s base before c.args.commit.now c.as_slice-dones.result.now c.in-Some.place c.dones_len.result c.as_slice-dones.ensures c.dones_len.ensures next
    (found_at c.in_ok-place.field-0 c.in-Some.place (IsCommittedDone s base) (kept_dones base ++ dones_in before) c.as_slice-dones.result.now
    (IsBehindDones s base ((kept_dones base ++ dones_in before) ++ c.as_slice-dones.result.now) c.first_broken.new.self) c.in-Some.is
    (c.in_ok-place.ensures.found s base (kept_dones base ++ dones_in before) same behind.dones))

pub returns : goal.returns
returns c = λ s base before same behind.
    let commit = c.args.commit.now in
    let next = epoch_is s.entry.layout.base_epoch (commit_epochs before) commit.epoch (ap (λ n. nat_lt n commit.epoch && nat_lt commit.epoch epochs_end) (sym behind.last_epoch) ∙ sym c.goes_on.ensures ∙ c.if-not-goes_on.false) in
    let found =
    subst (λ (l : List Done). EachBehind (IsCommittedDone s base) (kept_dones base ++ dones_in before) l × IsBehindDones s base ((kept_dones base ++ dones_in before) ++ l) c.first_broken.new.self) c.as_slice-dones.ensures
    (found_none c.in_ok-place.field-0 (IsCommittedDone s base) (kept_dones base ++ dones_in before) c.as_slice-dones.result.now
    (IsBehindDones s base ((kept_dones base ++ dones_in before) ++ c.as_slice-dones.result.now) c.first_broken.new.self) c.in_default.is
    (c.in_ok-place.ensures.found s base (kept_dones base ++ dones_in before) same behind.dones)) in
    (record { epoch = next; dones = found.0 }, behind_more s base before commit _ next (record { noted = found.1.noted; floor = found.1.floor }) refl)
