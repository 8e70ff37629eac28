use Rattle.std.proofs.Common.{◌≡◌, ℕ, [], Bool, true, false, Some, Ok, Err, refl, sym, ◌∙◌, ap, subst}
use Rattle.std.proofs.lemmas.Result.{err_from_is_err_and}
use Rattle.coco_host.specs.Files.{Files}
use Rattle.coco_log.specs.Reading.{IsReading}
use Rattle.coco_log.proofs.OnlyRead.{read_first, read_then}
use Rattle.coco_read.specs.declared.fault.OpenFault.{OpenFault}
use Rattle.coco_read.specs.declared.fault.OpenFault.TheVariants.{NotAStore}
use Rattle.coco_read.specs.EntryRules.{IsFirstIn, IsStep}
use Rattle.coco_read.proofs.Steps.{way_first, step_under, refused_off, refused_lack, not_refused, read_log}
use Rattle.coco_read.proofs.reading.read_file.Goals as goal

pub loop-entries-init : goal.loop-entries-init
loop-entries-init g c =
    let rules = g.R.Rules.rules (g.R.Rules.setting c.args.rules.now) in
    let reads = g.met.R.Rules.reads (g.R.Rules.setting c.args.rules.now) in
    let begins = c.in_ok-entries.ensures in
    record {
      of = begins.of;
      setting = refl;
      read = read_first g.H.Host g.met.H.Host.only_now _;
      counts = refl;
      told = λ files told.
          let begun = begins.ok files (sym begins.read.same ∙ told) in
          way_first rules reads c.in_ok-entries.entries (g.R.Rules.taken c.args.rules.now) (files c.args.file) c.requires
          (subst (λ (n : ℕ). IsReading c.in_ok-entries.entries [] (files n)) begins.of.in_file begun.reading);
    }

pub loop-entries-preserved : goal.loop-entries-preserved
loop-entries-preserved g c =
    let rules = g.R.Rules.rules (g.R.Rules.setting c.args.rules.now) in
    let was = c.loop-entries.invariant in
    let next = c.in_ok-read_next.ensures in
    record {
      of = record { in_file = next.of.in_file ∙ was.of.in_file; of_kind = next.of.of_kind ∙ was.of.of_kind };
      setting = next.setting ∙ was.setting;
      read = read_then g.H.Host g.met.H.Host.only_now _ _ _ was.read next.read;
      counts = next.counts ∙ was.counts;
      told = λ files told.
          subst (λ (b : Bool). IsStep rules (Ok b) c.read_next.new.entries (g.R.Rules.taken c.read_next.new.rules) (files c.args.file)) c.if-branch.true
          (step_under g.R.Rules.rules _ _ was.setting (Ok c.in_ok-read_next.field-0) _ c.read_next.new.entries _ (g.R.Rules.taken c.read_next.new.rules) _
          (next.step files (was.read.same ∙ told)) (was.told files told));
    }

pub returns-in_err-entries-clause-refused : goal.returns-in_err-entries-clause-refused
returns-in_err-entries-clause-refused g c other at files is told =
    let rules = g.R.Rules.rules (g.R.Rules.setting c.args.rules.now) in
    let reads = g.met.R.Rules.reads (g.R.Rules.setting c.args.rules.now) in
    let p = err_from_is_err_and c.from_residual.result c.from_residual.ensures.1 in
    let same : c.in_err-entries.field-0.0 ≡ NotAStore other at = cc (p.1, p.2, is) in
    refused_off rules reads c.args.kind (files c.args.file) at
    (c.in_err-entries.ensures.refused other at files (ap Err same) told)

pub returns-in_err-read_next-clause-refused : goal.returns-in_err-read_next-clause-refused
returns-in_err-read_next-clause-refused g c other at files is told =
    let rules = g.R.Rules.rules (g.R.Rules.setting c.args.rules.now) in
    let was = c.loop-entries.invariant in
    let next = c.in_err-read_next.ensures in
    let first : g.H.Host.reads c.begin.new.host ≡ Some files = c.in_ok-entries.ensures.read.same ∙ told in
    let p = err_from_is_err_and c.from_residual-in_err-read_next.result c.from_residual-in_err-read_next.ensures.1 in
    let same : c.in_err-read_next.field-0.0 ≡ NotAStore other at = cc (p.1, p.2, is) in
    subst (λ (k : ℕ). IsFirstIn rules k (files c.args.file) at) (next.of.of_kind ∙ was.of.of_kind)
    (subst (λ (e : OpenFault). IsStep rules (Err e) c.read_next.new.entries (g.R.Rules.taken c.read_next.new.rules) (files c.args.file)) same
    (step_under g.R.Rules.rules _ _ was.setting (Err c.in_err-read_next.field-0.0) _ c.read_next.new.entries _ (g.R.Rules.taken c.read_next.new.rules) _
    (next.step files (was.read.same ∙ first)) (was.told files first)))

pub returns-then-lacks-clause-refused : goal.returns-then-lacks-clause-refused
returns-then-lacks-clause-refused g c other at files is told =
    let rules = g.R.Rules.rules (g.R.Rules.setting c.args.rules.now) in
    let reads = g.met.R.Rules.reads (g.R.Rules.setting c.args.rules.now) in
    let was = c.loop-entries.invariant in
    let next = c.in_ok-read_next.ensures in
    let first : g.H.Host.reads c.begin.new.host ≡ Some files = c.in_ok-entries.ensures.read.same ∙ told in
    let ended : IsStep rules (Ok false) c.read_next.new.entries (g.R.Rules.taken c.read_next.new.rules) (files c.args.file) =
    subst (λ (b : Bool). IsStep rules (Ok b) c.read_next.new.entries (g.R.Rules.taken c.read_next.new.rules) (files c.args.file)) c.if-branch.false
    (step_under g.R.Rules.rules _ _ was.setting (Ok c.in_ok-read_next.field-0) _ c.read_next.new.entries _ (g.R.Rules.taken c.read_next.new.rules) _
    (next.step files (was.read.same ∙ first)) (was.told files first)) in
    let here : c.read_next.new.entries.at ≡ at = cc (c.gate.ensures, is) in
    subst (λ (k : ℕ). IsFirstIn rules k (files c.args.file) at) (next.of.of_kind ∙ was.of.of_kind)
    (subst (IsFirstIn rules c.read_next.new.entries.kind (files c.args.file)) here
    (refused_lack rules reads c.read_next.new.entries (g.R.Rules.taken c.read_next.new.rules) (files c.args.file) ended.0 ended.1
    (subst (λ s. (g.R.Rules.rules s).Lacks (g.R.Rules.taken c.read_next.new.rules)) (next.setting ∙ was.setting) (c.lacks.ensures.0 c.if-lacks.true))))

-- what is refused keeps no rules

pub returns-in_err-entries-clause-kept : goal.returns-in_err-entries-clause-kept
returns-in_err-entries-clause-kept g c other at files entries told kept is =
    let rules = g.R.Rules.rules (g.R.Rules.setting c.args.rules.now) in
    let reads = g.met.R.Rules.reads (g.R.Rules.setting c.args.rules.now) in
    not_refused rules reads c.args.kind entries (files c.args.file) at kept
    (returns-in_err-entries-clause-refused g c other at files is told)

pub returns-in_err-read_next-clause-kept : goal.returns-in_err-read_next-clause-kept
returns-in_err-read_next-clause-kept g c other at files entries told kept is =
    let rules = g.R.Rules.rules (g.R.Rules.setting c.args.rules.now) in
    let reads = g.met.R.Rules.reads (g.R.Rules.setting c.args.rules.now) in
    not_refused rules reads c.args.kind entries (files c.args.file) at kept
    (returns-in_err-read_next-clause-refused g c other at files is told)

pub returns-then-lacks-clause-kept : goal.returns-then-lacks-clause-kept
returns-then-lacks-clause-kept g c other at files entries told kept is =
    let rules = g.R.Rules.rules (g.R.Rules.setting c.args.rules.now) in
    let reads = g.met.R.Rules.reads (g.R.Rules.setting c.args.rules.now) in
    not_refused rules reads c.args.kind entries (files c.args.file) at kept
    (returns-then-lacks-clause-refused g c other at files is told)

pub returns-clause-whole : goal.returns-clause-whole
returns-clause-whole g c lack =
    let was = c.loop-entries.invariant in
    let next = c.in_ok-read_next.ensures in
    let told : c.lacks.result ≡ true = c.lacks.ensures.1 (subst (λ s. (g.R.Rules.rules s).Lacks (g.R.Rules.taken c.read_next.new.rules)) (sym (next.setting ∙ was.setting)) lack) in
    cc (told, c.if-lacks.false)

pub returns-clause-ok : goal.returns-clause-ok
returns-clause-ok g c files told =
    let rules = g.R.Rules.rules (g.R.Rules.setting c.args.rules.now) in
    let reads = g.met.R.Rules.reads (g.R.Rules.setting c.args.rules.now) in
    let was = c.loop-entries.invariant in
    let next = c.in_ok-read_next.ensures in
    let begins = c.in_ok-entries.ensures in
    let first : g.H.Host.reads c.begin.new.host ≡ Some files = begins.read.same ∙ told in
    let ended : IsStep rules (Ok false) c.read_next.new.entries (g.R.Rules.taken c.read_next.new.rules) (files c.args.file) =
    subst (λ (b : Bool). IsStep rules (Ok b) c.read_next.new.entries (g.R.Rules.taken c.read_next.new.rules) (files c.args.file)) c.if-branch.false
    (step_under g.R.Rules.rules _ _ was.setting (Ok c.in_ok-read_next.field-0) _ c.read_next.new.entries _ (g.R.Rules.taken c.read_next.new.rules) _
    (next.step files (was.read.same ∙ first)) (was.told files first)) in
    read_log rules reads c.read_next.new.entries (g.R.Rules.taken c.read_next.new.rules) c.args.file c.args.kind files (g.H.Host.may_leave c.read_next.new.host) c.into_log.result
    c.into_log.ensures (record { in_file = next.of.in_file ∙ was.of.in_file; of_kind = next.of.of_kind ∙ was.of.of_kind }) ended.0 ended.1
    (returns-clause-whole g c)
    (λ (left : Files) may.
    subst (λ (n : ℕ). left n ≡ files n) begins.of.in_file ((begins.ok files told).durable left (was.read.crash left (next.read.crash left may))))
