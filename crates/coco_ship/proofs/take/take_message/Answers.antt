use Rattle.std.proofs.Common.{◌≡◌, ◌∷◌, [], get_or, subst, sym}
use Rattle.std.proofs.Math.ListN.{set}
use Rattle.std.proofs.lemmas.Result.{on_ok_weaker}
use Rattle.coco_msg.specs.Bytes.{epoch_of}
use Rattle.coco_ship.specs.Letters.{letter_of}
use Rattle.coco_ship.specs.Taking.{at_node, Brings, IsPut, OfBoth, OfTables, Takes, TakesAt}
use Rattle.coco_ship.proofs.TakeLemmas.{brings_none, brings_set, copy_within, fit_set, takes_both, takes_none}
use Rattle.coco_ship.proofs.take.take_message.Goals as goal

pub bounds-lines-t : goal.bounds-lines-t
bounds-lines-t c = let found = c.in-Some.ensures in (copy_within c.requires.fit found.2 found.4).0

pub bounds-copies-t : goal.bounds-copies-t
bounds-copies-t c = let found = c.in-Some.ensures in (copy_within c.requires.fit found.2 found.4).1

pub take_at-requires : goal.take_at-requires
take_at-requires c = let found = c.in-Some.ensures in c.requires.fit.begun c.in-Some.t c.index-copies-t.result (copy_within c.requires.fit found.2 found.4).1

pub returns-in-Some-clause-ok : goal.returns-in-Some-clause-ok
returns-in-Some-clause-ok c =
    let ring = c.args.ring in
    let ls = c.args.lines.now in
    let ts = c.args.copies.now in
    let m = c.args.message in
    let l = c.index-lines-t.result in
    let t = c.index-copies-t.result in
    let n = c.take_at.new.line in
    let v = c.take_at.new.table in
    let found = c.in-Some.ensures in
    on_ok_weaker c.take_at.result
    (λ takes. subst (λ k. OfBoth ring (TakesAt ring c.args.node c.args.from m) ls ts (set ls k n) (set ts k v)) (sym found.4)
    (takes_both ring c.args.node c.args.from m found.0 found.1 ls ts l t n v c.requires.fit.is_ring found.2 found.3 c.requires.fit.line_count c.requires.fit.table_count
    (subst (λ k. l ≡ get_or ls k l) found.4 c.index-lines-t.is) (subst (λ k. t ≡ get_or ts k t) found.4 c.index-copies-t.is)
    (subst (λ z. Takes m z t n v) (sym c.index-lines-t.is) (subst (λ z. Takes m (get_or ls c.in-Some.t l) z n v) (sym c.index-copies-t.is) takes)))) c.take_at.ensures.ok

pub returns-in-Some-clause-tables : goal.returns-in-Some-clause-tables
returns-in-Some-clause-tables c =
    let ring = c.args.ring in
    let ts = c.args.copies.now in
    let m = c.args.message in
    let t = c.index-copies-t.result in
    let v = c.take_at.new.table in
    let found = c.in-Some.ensures in
    subst (λ k. OfTables ring (Brings ring (epoch_of m) (at_node c.args.node (letter_of c.args.from m ∷ []))) ts (set ts k v)) (sym found.4)
    (brings_set ring c.args.node c.args.from m found.0 found.1 ts t v c.requires.readable found.2 found.3 c.requires.fit.table_count (subst (λ k. t ≡ get_or ts k t) found.4 c.index-copies-t.is) (subst (λ z. IsPut m z v) (sym c.index-copies-t.is) c.take_at.ensures.puts))

pub returns-in-Some-clause-fit : goal.returns-in-Some-clause-fit
returns-in-Some-clause-fit c =
    let found = c.in-Some.ensures in
    fit_set c.args.message c.in-Some.t c.take_at.new.line c.index-copies-t.result c.take_at.new.table c.requires.fit (copy_within c.requires.fit found.2 found.4).1 c.index-copies-t.is
    (subst (λ z. IsPut c.args.message z c.take_at.new.table) (sym c.index-copies-t.is) c.take_at.ensures.puts)

pub returns-in-None-clause-ok : goal.returns-in-None-clause-ok
returns-in-None-clause-ok c = takes_none c.args.ring c.args.node c.args.from c.args.message c.args.lines.now c.args.copies.now c.in-None.ensures

pub returns-in-None-clause-tables : goal.returns-in-None-clause-tables
returns-in-None-clause-tables c = brings_none c.args.ring (epoch_of c.args.message) (at_node c.args.node (letter_of c.args.from c.args.message ∷ [])) c.args.copies.now
