use Rattle.std.proofs.Common.{◌≡◌, ◌≢◌, ◌∙◌, ◌+◌, ◌≤◌, [], ℕ, arith, refl, subst}
use Rattle.coco_ship.specs.Taking.{waiting_below, Brings, Hears, OfBoth, OfTables}
use Rattle.coco_ship.proofs.DeliverLemmas.{brings_below, brings_more, hears_more}
use Rattle.coco_ship.proofs.TakeLemmas.{brings_none, hears_nothing}
use Rattle.coco_ship.proofs.ship.hand_out.Goals as goal

pub loop-node-init : goal.loop-node-init
loop-node-init g c = record {
  ok = hears_nothing c.args.ring c.args.epoch c.args.lines.now c.args.copies.now;
  tables = brings_none c.args.ring c.args.epoch [] c.args.copies.now;
  fit = c.requires.fit;
  waits = λ p h. refl;
  given = refl;
  sent = refl;
  faults = refl;
  seed = refl;
}

apart : (p n : ℕ) → n + 1 ≤ p → p ≢ n
apart p n more same = omega arith

pub loop-node-preserved : goal.loop-node-preserved
loop-node-preserved g c =
    let ring = c.args.ring in
    let n = c.loop-node.node in
    let w = g.N.Net.waiting c.args.net.now in
    let before = c.loop-node.invariant in
    let is : c.as_slice.result.now ≡ w n = c.as_slice.ensures.value ∙ c.in_ok-letters.ensures.letters ∙ before.waits n (omega arith) in
    record {
      ok = hears_more ring c.args.epoch w n c.as_slice.result.now c.args.lines.now c.args.copies.now c.loop-node.lines c.loop-node.copies c.take_letters.new.lines c.take_letters.new.copies is before.fit.line_count before.fit.table_count before.ok c.in_ok-take_letters.ensures.ok;
      tables = brings_more ring c.args.epoch w n c.as_slice.result.now c.args.copies.now c.loop-node.copies c.take_letters.new.copies is before.fit.table_count before.tables c.take_letters.ensures.tables;
      fit = c.take_letters.ensures.fit;
      waits = λ p h. c.take_all.ensures.others p (apart p n h) ∙ before.waits p (omega (arith, h));
      given = c.take_all.ensures.given ∙ before.given;
      sent = c.take_all.ensures.sent ∙ before.sent;
      faults = c.take_all.ensures.faults ∙ before.faults;
      seed = c.take_all.ensures.seed ∙ before.seed;
    }

pub returns-in_err-letters-clause-tables : goal.returns-in_err-letters-clause-tables
returns-in_err-letters-clause-tables g c =
    brings_below c.args.ring c.args.epoch (g.N.Net.waiting c.args.net.now) c.loop-node.node c.args.ring.nodes c.args.copies.now c.loop-node.copies (omega arith) c.loop-node.invariant.tables

pub returns-in_err-take_letters-clause-tables : goal.returns-in_err-take_letters-clause-tables
returns-in_err-take_letters-clause-tables g c =
    let ring = c.args.ring in
    let n = c.loop-node.node in
    let w = g.N.Net.waiting c.args.net.now in
    let before = c.loop-node.invariant in
    let is : c.as_slice.result.now ≡ w n = c.as_slice.ensures.value ∙ c.in_ok-letters.ensures.letters ∙ before.waits n (omega arith) in
    brings_below ring c.args.epoch w (n + 1) ring.nodes c.args.copies.now c.take_letters.new.copies (omega arith)
    (brings_more ring c.args.epoch w n c.as_slice.result.now c.args.copies.now c.loop-node.copies c.take_letters.new.copies is before.fit.table_count before.tables c.take_letters.ensures.tables)

pub returns-clause-ok : goal.returns-clause-ok
returns-clause-ok g c =
    let last : c.loop-node.node ≡ c.args.ring.nodes = omega arith in
    subst (λ n. OfBoth c.args.ring (Hears c.args.ring c.args.epoch (waiting_below (g.N.Net.waiting c.args.net.now) n)) c.args.lines.now c.args.copies.now c.loop-node.lines c.loop-node.copies) last c.loop-node.invariant.ok

pub returns-clause-tables : goal.returns-clause-tables
returns-clause-tables g c =
    let last : c.loop-node.node ≡ c.args.ring.nodes = omega arith in
    subst (λ n. OfTables c.args.ring (Brings c.args.ring c.args.epoch (waiting_below (g.N.Net.waiting c.args.net.now) n)) c.args.copies.now c.loop-node.copies) last c.loop-node.invariant.tables
