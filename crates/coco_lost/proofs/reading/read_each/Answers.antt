use Rattle.std.proofs.Common.{◌≡◌, ◌+◌, ◌<◌, ℕ, Some, Err, false, get_or, length, ap, arith, refl, subst, sym, ◌∙◌}
use Rattle.std.specs.List.{slice_get}
use Rattle.std.proofs.lemmas.Option.{slice_get-get_or, slice_get_within}
use Rattle.std.proofs.lemmas.Result.{err_from_is_err_and}
use Rattle.coco_recover.proofs.Resting.{stands_still}
use Rattle.coco_append.specs.Gaining.{Stands}
use Rattle.coco_ast.specs.History.{RisesAbove}
use Rattle.coco_entry.specs.declared.layout.Layout.{Layout}
use Rattle.coco_letters.specs.declared.voter.Voter.{Voter}
use Rattle.coco_log.proofs.OnlyRead.{read_first, read_then}
use Rattle.coco_read.specs.declared.fault.OpenFault.TheVariants.{NotAStore}
use Rattle.coco_recover.specs.Lost.{AreKnown}
use Rattle.coco_lost.specs.Reading.{IsOf}
use Rattle.coco_lost.proofs.Places.{each_set}
use Rattle.coco_lost.proofs.ReadingLemmas.{is_of_other, lost_file, lost_refused, one_step, reads_same, reads_then}
use Rattle.coco_lost.proofs.reading.read_each.Goals as goal

pub loop-node-init : goal.loop-node-init
loop-node-init g c = record {
  reads = reads_same c.args.voters.now c.args.tables.now;
  none = λ n voter lt. absurd (omega (arith, lt));
  files = λ files d told good known are. are;
  stand = λ stand. stand;
  read = read_first g.H.Host g.met.H.Host.only_now _;
  counts = refl;
}

pub loop-node-preserved : goal.loop-node-preserved
loop-node-preserved g c =
    let before = c.loop-node.invariant in
    let now = c.loop-node in
    let after = c.read_one.new in
    let did = c.read_one.ensures in
    let ok = c.in_ok-read_one.ensures in
    let k : ℕ = c.loop-node.node in
    let voter : Voter = get_or c.loop-node.voters c.loop-node.node c.index-voters-node.result in
    let inside : c.loop-node.node < length c.loop-node.voters = omega (arith, c.loop-node-test.true, c.loop-node.auto.voters, c.requires.few) in
    let marked : c.loop-node.node < length c.loop-node.tables.behind.items = omega (arith, inside, c.loop-node.auto.voters, before.reads.mark_count, c.requires.marks, c.requires.nodes) in
    let there : slice_get c.loop-node.voters c.loop-node.node ≡ Some voter = slice_get-get_or c.loop-node.voters c.loop-node.node c.index-voters-node.result inside in
    record {
      reads = reads_then c.args.voters.now now.voters _ c.args.tables.now now.tables after.tables before.reads (one_step k now.voters voter now.tables after.voter after.tables inside marked there did.one);
      none = λ n v lt at. each_set now.voters k after.voter inside (λ i x. i < k + 1 → x.is_lost ≡ false) (λ _. ok.none) (λ i x other found less. before.none i x (omega (arith, less, other)) found) n v at lt;
      files = λ files d told good known are.
          each_set now.voters k after.voter inside (λ i x. x.is_lost ≡ false → IsOf d i x after.tables)
          (λ _. ok.files files d (before.read.same ∙ told) good (subst (λ (l : Layout). AreKnown d l c.args.procs.now c.args.epochs.now c.args.base.now) (sym before.reads.layout) known) (before.files files d told good known are k voter there))
          (λ i x other found kept. is_of_other d k i voter now.tables after.voter after.tables x other did.one (before.files files d told good known are i x found kept));
      stand = λ stand. each_set now.voters k after.voter inside (λ i x. Stands x.log (g.H.Host.reads after.host) (g.H.Host.may_leave after.host))
          (did.stand (before.stand stand k voter there))
          (λ i x other found. stands_still x.log (g.H.Host.reads now.host) (g.H.Host.reads after.host) (g.H.Host.may_leave now.host) (g.H.Host.may_leave after.host) did.read.same did.read.crash (before.stand stand i x found));
      read = read_then g.H.Host g.met.H.Host.only_now _ _ _ before.read did.read;
      counts = ok.counts ∙ before.counts;
    }

pub returns-in_err-read_one-clause-reads : goal.returns-in_err-read_one-clause-reads
returns-in_err-read_one-clause-reads g c =
    let before = c.loop-node.invariant in
    let now = c.loop-node in
    let after = c.read_one.new in
    let voter : Voter = get_or c.loop-node.voters c.loop-node.node c.index-voters-node.result in
    let inside : c.loop-node.node < length c.loop-node.voters = omega (arith, c.loop-node-test.true, c.loop-node.auto.voters, c.requires.few) in
    let marked : c.loop-node.node < length c.loop-node.tables.behind.items = omega (arith, inside, c.loop-node.auto.voters, before.reads.mark_count, c.requires.marks, c.requires.nodes) in
    let there : slice_get c.loop-node.voters c.loop-node.node ≡ Some voter = slice_get-get_or c.loop-node.voters c.loop-node.node c.index-voters-node.result inside in
    reads_then c.args.voters.now now.voters _ c.args.tables.now now.tables after.tables before.reads (one_step c.loop-node.node now.voters voter now.tables after.voter after.tables inside marked there c.read_one.ensures.one)

pub returns-in_err-read_one-clause-stand : goal.returns-in_err-read_one-clause-stand
returns-in_err-read_one-clause-stand g c = λ stand.
    let before = c.loop-node.invariant in
    let now = c.loop-node in
    let after = c.read_one.new in
    let did = c.read_one.ensures in
    let voter : Voter = get_or c.loop-node.voters c.loop-node.node c.index-voters-node.result in
    let inside : c.loop-node.node < length c.loop-node.voters = omega (arith, c.loop-node-test.true, c.loop-node.auto.voters, c.requires.few) in
    let there : slice_get c.loop-node.voters c.loop-node.node ≡ Some voter = slice_get-get_or c.loop-node.voters c.loop-node.node c.index-voters-node.result inside in
    each_set now.voters c.loop-node.node after.voter inside (λ i x. Stands x.log (g.H.Host.reads after.host) (g.H.Host.may_leave after.host))
    (did.stand (before.stand stand c.loop-node.node voter there))
    (λ i x other found. stands_still x.log (g.H.Host.reads now.host) (g.H.Host.reads after.host) (g.H.Host.may_leave now.host) (g.H.Host.may_leave after.host) did.read.same did.read.crash (before.stand stand i x found))

pub returns-in_err-read_one-clause-here : goal.returns-in_err-read_one-clause-here
returns-in_err-read_one-clause-here g c file at is =
    let before = c.loop-node.invariant in
    let voter : Voter = get_or c.loop-node.voters c.loop-node.node c.index-voters-node.result in
    let inside : c.loop-node.node < length c.loop-node.voters = omega (arith, c.loop-node-test.true, c.loop-node.auto.voters, c.requires.few) in
    let there : slice_get c.loop-node.voters c.loop-node.node ≡ Some voter = slice_get-get_or c.loop-node.voters c.loop-node.node c.index-voters-node.result inside in
    let p = err_from_is_err_and c.from_residual.result c.from_residual.ensures.1 in
    let same : c.in_err-read_one.field-0.0 ≡ NotAStore file at = cc (p.1, p.2, is) in
    let told = c.in_err-read_one.ensures.here file at (ap Err same) in
    lost_file c.args.voters.now c.loop-node.voters c.args.tables.now c.loop-node.tables c.loop-node.node voter file before.reads there told.0 told.1

pub returns-in_err-read_one-clause-refused : goal.returns-in_err-read_one-clause-refused
returns-in_err-read_one-clause-refused g c file at files s commits is told layout tree epochs =
    let before = c.loop-node.invariant in
    let voter : Voter = get_or c.loop-node.voters c.loop-node.node c.index-voters-node.result in
    let inside : c.loop-node.node < length c.loop-node.voters = omega (arith, c.loop-node-test.true, c.loop-node.auto.voters, c.requires.few) in
    let there : slice_get c.loop-node.voters c.loop-node.node ≡ Some voter = slice_get-get_or c.loop-node.voters c.loop-node.node c.index-voters-node.result inside in
    let p = err_from_is_err_and c.from_residual.result c.from_residual.ensures.1 in
    let same : c.in_err-read_one.field-0.0 ≡ NotAStore file at = cc (p.1, p.2, is) in
    let lost = c.in_err-read_one.ensures.here file at (ap Err same) in
    lost_refused c.args.voters.now c.loop-node.voters c.args.tables.now c.loop-node.tables c.loop-node.node voter file before.reads there lost.0 lost.1 s commits (files file) at
    (c.in_err-read_one.ensures.refused file at files s commits (ap Err same) (before.read.same ∙ told) (layout ∙ sym before.reads.layout) tree epochs)

pub returns-in_err-read_one-clause-kept : goal.returns-in_err-read_one-clause-kept
returns-in_err-read_one-clause-kept g c file at files d told holds known is =
    let before = c.loop-node.invariant in
    let p = err_from_is_err_and c.from_residual.result c.from_residual.ensures.1 in
    let same : c.in_err-read_one.field-0.0 ≡ NotAStore file at = cc (p.1, p.2, is) in
    c.in_err-read_one.ensures.kept file at files d (before.read.same ∙ told) holds (subst (λ (l : Layout). AreKnown d l c.args.procs.now c.args.epochs.now c.args.base.now) (sym before.reads.layout) known) (ap Err same)

pub returns-in_err-read_one-clause-read : goal.returns-in_err-read_one-clause-read
returns-in_err-read_one-clause-read g c = read_then g.H.Host g.met.H.Host.only_now _ _ _ c.loop-node.invariant.read c.read_one.ensures.read

pub read_one-requires-clause-rises : goal.read_one-requires-clause-rises
read_one-requires-clause-rises g c = subst (λ (l : Layout). RisesAbove l.base_epoch c.args.epochs.now) (sym c.loop-node.invariant.reads.layout) c.requires.rises

pub returns-clause-none : goal.returns-clause-none
returns-clause-none g c = λ n voter at.
    let within : n < length c.loop-node.voters = slice_get_within c.loop-node.voters n voter at in
    c.loop-node.invariant.none n voter (omega (arith, within, c.loop-node-test.false, c.requires.few, c.loop-node.auto.voters)) at
