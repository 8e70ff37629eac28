use Rattle.std.proofs.Common.{◌∙◌, sym, inl, inr}
use Rattle.coco_log.proofs.OnlyRead.{read_first, read_on}
use Rattle.coco_make.specs.NewStore.{new_layout}
use Rattle.coco_init.proofs.MakingLemmas.{left_empty, made_shows, made_store, not_err}
use Rattle.coco_init.proofs.making.make.Goals as goal

pub returns-then-is_err-clause-makes : goal.returns-then-is_err-clause-makes
returns-then-is_err-clause-makes g c = λ tree is.
    inl (read_on g.H.Host g.met.H.Host.only_now _ _ _ (read_first g.H.Host g.met.H.Host.only_now _) c.sync.ensures.same c.sync.ensures.said c.sync.ensures.crash c.sync.ensures.time c.sync.ensures.others)

pub returns-in-Ok-clause-makes : goal.returns-in-Ok-clause-makes
returns-in-Ok-clause-makes g c = λ tree is.
    let layout = new_layout c.args.nodes c.args.partitions c.args.copies c.args.text in
    let read = read_on g.H.Host g.met.H.Host.only_now _ _ _ (read_first g.H.Host g.met.H.Host.only_now c.args.host.now) c.sync.ensures.same c.sync.ensures.said c.sync.ensures.crash c.sync.ensures.time c.sync.ensures.others in
    let durable = not_err c.sync.result _ (sym c.is_err.ensures.value ∙ c.if-is_err.false) c.sync.ensures.durable in
    let empty = left_empty g.H.Host c.args.host.now c.sync.new.self read c.requires.empty durable in (
      made_shows g.H.Host layout c.in_ok-layout.layout c.in_ok-layout.ensures tree c.args.host.now c.sync.new.self c.make_store.new.host read empty is
          c.make_store.ensures.moments c.make_store.ensures.changes,
      made_store g.H.Host layout c.in_ok-layout.layout c.in_ok-layout.ensures tree c.args.host.now c.sync.new.self c.make_store.new.host read is c.in-Ok.ensures.ok c.in-Ok.ensures.bytes,
    )

pub returns-in-Err-Disk-clause-makes : goal.returns-in-Err-Disk-clause-makes
returns-in-Err-Disk-clause-makes g c = λ tree is.
    let layout = new_layout c.args.nodes c.args.partitions c.args.copies c.args.text in
    let read = read_on g.H.Host g.met.H.Host.only_now _ _ _ (read_first g.H.Host g.met.H.Host.only_now c.args.host.now) c.sync.ensures.same c.sync.ensures.said c.sync.ensures.crash c.sync.ensures.time c.sync.ensures.others in
    let durable = not_err c.sync.result _ (sym c.is_err.ensures.value ∙ c.if-is_err.false) c.sync.ensures.durable in
    let empty = left_empty g.H.Host c.args.host.now c.sync.new.self read c.requires.empty durable in
    inr (made_shows g.H.Host layout c.in_ok-layout.layout c.in_ok-layout.ensures tree c.args.host.now c.sync.new.self c.make_store.new.host read empty is
    c.make_store.ensures.moments c.make_store.ensures.changes)

pub returns-clause-makes : goal.returns-clause-makes
returns-clause-makes g c = λ tree is.
    let layout = new_layout c.args.nodes c.args.partitions c.args.copies c.args.text in
    let read = read_on g.H.Host g.met.H.Host.only_now _ _ _ (read_first g.H.Host g.met.H.Host.only_now c.args.host.now) c.sync.ensures.same c.sync.ensures.said c.sync.ensures.crash c.sync.ensures.time c.sync.ensures.others in
    let durable = not_err c.sync.result _ (sym c.is_err.ensures.value ∙ c.if-is_err.false) c.sync.ensures.durable in
    let empty = left_empty g.H.Host c.args.host.now c.sync.new.self read c.requires.empty durable in
    inr (made_shows g.H.Host layout c.in_ok-layout.layout c.in_ok-layout.ensures tree c.args.host.now c.sync.new.self c.make_store.new.host read empty is
    c.make_store.ensures.moments c.make_store.ensures.changes)
