use Rattle.std.proofs.Common.{◌≡◌, List, ◌++◌, length, refl, sym, ap, subst, ◌∙◌}
use Rattle.std.proofs.Math.ListN.{take, drop}
use Rattle.std.proofs.lemmas.Result.{on_ok_weaker}
use Rattle.coco_ast.specs.History.{rows_after}
use Rattle.coco_copy.specs.CopyState.{CopyState}
use Rattle.coco_finish.proofs.TableLemmas.{back}
use Rattle.coco_ship.specs.There.{AreAllThere, AreRight}
use Rattle.coco_ship.specs.Shipping.{news, AreBegun, AreWhole, GainOnly}
use Rattle.coco_standing.specs.Standing.{TablesKeep, TablesStand, all_behind}
use Rattle.coco_trial.specs.Running.{ring_of}
use Rattle.coco_trial.proofs.TableLemmas.{gives_shipped, keeps_shipped}
use Rattle.coco_trial.proofs.shipping.ship.Goals as goal

pub ship-requires-clause-tables : goal.ship-requires-clause-tables
ship-requires-clause-tables g c = subst (AreBegun (ring_of c.args.tables.now.layout) c.args.epoch c.args.pieces.now) (sym c.as_mut_slice.ensures.value) c.requires.begun

pub returns-clause-give : goal.returns-clause-give
returns-clause-give g c =
    let t = c.args.tables.now in
    let old : List CopyState = c.as_mut_slice.result.now in
    let new : List CopyState = c.ship.new.copies in
    let same : take t.copies.len (new ++ drop (length new) t.copies.items) ≡ new = back new t.copies.items t.copies.len (sym c.as_mut_slice.ensures.len ∙ ap length c.as_mut_slice.ensures.value) (c.ship.ensures.tables.count ∙ sym c.requires.whole.copy_count) in
    on_ok_weaker c.ship.result (λ whole s dones trace number run keep.
    subst (λ (cs : List CopyState). TablesStand t.layout (rows_after s.procs s.opening dones) all_behind t.shards.items cs) (sym same)
    (gives_shipped t.layout c.args.epoch (news (g.N.Net.given c.args.net.now) (g.N.Net.given c.ship.new.net)) s.opening t.shards.items t.copies.items new
    (subst (λ (cs : List CopyState). GainOnly (ring_of t.layout) c.args.epoch (news (g.N.Net.given c.args.net.now) (g.N.Net.given c.ship.new.net)) cs new) c.as_mut_slice.ensures.value c.ship.ensures.gains)
    (c.ship.ensures.tables.count ∙ sym c.requires.whole.copy_count) keep c.pending_is_last.ensures c.pending_stands.ensures.stands s dones c.args.pieces.now trace number refl run whole)) c.ship.ensures.whole

pub returns-clause-keep : goal.returns-clause-keep
returns-clause-keep g c m keep =
    let t = c.args.tables.now in
    let new : List CopyState = c.ship.new.copies in
    let same : take t.copies.len (new ++ drop (length new) t.copies.items) ≡ new = back new t.copies.items t.copies.len (sym c.as_mut_slice.ensures.len ∙ ap length c.as_mut_slice.ensures.value) (c.ship.ensures.tables.count ∙ sym c.requires.whole.copy_count) in
    subst (λ (cs : List CopyState). TablesKeep t.layout m t.shards.items cs) (sym same)
    (keeps_shipped t.layout c.args.epoch (news (g.N.Net.given c.args.net.now) (g.N.Net.given c.ship.new.net)) m t.shards.items t.copies.items new
    (subst (λ (cs : List CopyState). GainOnly (ring_of t.layout) c.args.epoch (news (g.N.Net.given c.args.net.now) (g.N.Net.given c.ship.new.net)) cs new) c.as_mut_slice.ensures.value c.ship.ensures.gains)
    (c.ship.ensures.tables.count ∙ sym c.requires.whole.copy_count) keep)

pub returns-clause-whole : goal.returns-clause-whole
returns-clause-whole g c =
    let t = c.args.tables.now in
    let new : List CopyState = c.ship.new.copies in
    let same : take t.copies.len (new ++ drop (length new) t.copies.items) ≡ new = back new t.copies.items t.copies.len (sym c.as_mut_slice.ensures.len ∙ ap length c.as_mut_slice.ensures.value) (c.ship.ensures.tables.count ∙ sym c.requires.whole.copy_count) in
    on_ok_weaker c.ship.result (λ whole. subst (AreWhole (ring_of t.layout) c.args.epoch c.args.pieces.now) (sym same) whole) c.ship.ensures.whole

pub returns-clause-there : goal.returns-clause-there
returns-clause-there g c =
    let t = c.args.tables.now in
    on_ok_weaker c.ship.result (λ there. subst (λ (cs : List CopyState). AreAllThere (ring_of t.layout) c.args.epoch c.args.pieces.now cs (news (g.N.Net.given c.args.net.now) (g.N.Net.given c.ship.new.net))) c.as_mut_slice.ensures.value there) c.ship.ensures.there

pub returns-clause-right : goal.returns-clause-right
returns-clause-right g c =
    let t = c.args.tables.now in
    subst (λ (cs : List CopyState). AreRight (ring_of t.layout) c.args.epoch c.args.pieces.now cs (news (g.N.Net.given c.args.net.now) (g.N.Net.given c.ship.new.net)) (news (g.N.Net.sent c.args.net.now) (g.N.Net.sent c.ship.new.net))) c.as_mut_slice.ensures.value c.ship.ensures.right

pub returns-clause-gains : goal.returns-clause-gains
returns-clause-gains g c =
    let t = c.args.tables.now in
    let new : List CopyState = c.ship.new.copies in
    let same : take t.copies.len (new ++ drop (length new) t.copies.items) ≡ new = back new t.copies.items t.copies.len (sym c.as_mut_slice.ensures.len ∙ ap length c.as_mut_slice.ensures.value) (c.ship.ensures.tables.count ∙ sym c.requires.whole.copy_count) in
    subst (λ (cs : List CopyState). GainOnly (ring_of t.layout) c.args.epoch (news (g.N.Net.given c.args.net.now) (g.N.Net.given c.ship.new.net)) t.copies.items cs) (sym same)
    (subst (λ (cs : List CopyState). GainOnly (ring_of t.layout) c.args.epoch (news (g.N.Net.given c.args.net.now) (g.N.Net.given c.ship.new.net)) cs new) c.as_mut_slice.ensures.value c.ship.ensures.gains)

pub returns-clause-places : goal.returns-clause-places
returns-clause-places g c = record { layout = refl; behind = refl }

pub returns-clause-alone : goal.returns-clause-alone
returns-clause-alone g c none = let all = c.ship.ensures.alone none in (all.0, all.1)

pub returns-clause-copies : goal.returns-clause-copies
returns-clause-copies g c =
    let t = c.args.tables.now in
    let new : List CopyState = c.ship.new.copies in
    let same : take t.copies.len (new ++ drop (length new) t.copies.items) ≡ new = back new t.copies.items t.copies.len (sym c.as_mut_slice.ensures.len ∙ ap length c.as_mut_slice.ensures.value) (c.ship.ensures.tables.count ∙ sym c.requires.whole.copy_count) in
    ap length same ∙ c.ship.ensures.tables.count ∙ sym c.requires.whole.copy_count
