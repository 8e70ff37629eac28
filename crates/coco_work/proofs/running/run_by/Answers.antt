use Rattle.std.proofs.Common.{ap}
use Rattle.coco_work.proofs.RunLemmas.{begun_so, copied_so, leaves_so, shippable_so, worked_so}
use Rattle.coco_work.proofs.running.run_by.Goals as goal

pub returns-in-Ok-clause-worked : goal.returns-in-Ok-clause-worked
returns-in-Ok-clause-worked g c m holds =
    let given = c.as_mut_slice.ensures.value in
    let in_hand = ap (λ v. v.items) c.replace-in_hand.ensures.value in
    let taken = ap (λ v. v.items) c.replace-tables.ensures.value in
    let done = c.in-Ok.done in
    let left = leaves_so c.args.procs.now c.args.config (g.N.Net.carries c.args.net.now) done.shards.items done.copies.items done.copy_journals.items done.dones done.pieces done.trace c.args.requests.items c.as_mut_slice.result.now
    c.args.shards.now.items c.replace-in_hand.result.items c.args.copies.now.items c.replace-tables.result.items given in_hand taken
    (record { count = c.in-Ok.ensures.count; serial = c.in-Ok.ensures.serial; trace_is = c.in-Ok.ensures.trace; commits = c.in-Ok.ensures.commits; replayed = c.in-Ok.ensures.replayed }) in
    worked_so c.args.procs.now c.args.config (g.N.Net.carries c.args.net.now) done.shards.items done.copies.items done.copy_journals.items done.dones done.pieces done.trace c.args.requests.items c.args.shards.now.items c.args.copies.now.items left m holds

pub returns-in-Ok-clause-early : goal.returns-in-Ok-clause-early
returns-in-Ok-clause-early g c m =
    let given = c.as_mut_slice.ensures.value in
    let in_hand = ap (λ v. v.items) c.replace-in_hand.ensures.value in
    let taken = ap (λ v. v.items) c.replace-tables.ensures.value in
    let done = c.in-Ok.done in
    let left = leaves_so c.args.procs.now c.args.config (g.N.Net.carries c.args.net.now) done.shards.items done.copies.items done.copy_journals.items done.dones done.pieces done.trace c.args.requests.items c.as_mut_slice.result.now
    c.args.shards.now.items c.replace-in_hand.result.items c.args.copies.now.items c.replace-tables.result.items given in_hand taken
    (record { count = c.in-Ok.ensures.count; serial = c.in-Ok.ensures.serial; trace_is = c.in-Ok.ensures.trace; commits = c.in-Ok.ensures.commits; replayed = c.in-Ok.ensures.replayed }) in
    copied_so c.args.procs.now c.args.config (g.N.Net.carries c.args.net.now) done.shards.items done.copies.items done.copy_journals.items done.dones done.pieces done.trace c.args.requests.items c.args.shards.now.items c.args.copies.now.items left c.requires.tables m

pub returns-in-Ok-clause-shippable : goal.returns-in-Ok-clause-shippable
returns-in-Ok-clause-shippable g c ring on =
    let given = c.as_mut_slice.ensures.value in
    let in_hand = ap (λ v. v.items) c.replace-in_hand.ensures.value in
    let taken = ap (λ v. v.items) c.replace-tables.ensures.value in
    let done = c.in-Ok.done in
    let left = leaves_so c.args.procs.now c.args.config (g.N.Net.carries c.args.net.now) done.shards.items done.copies.items done.copy_journals.items done.dones done.pieces done.trace c.args.requests.items c.as_mut_slice.result.now
    c.args.shards.now.items c.replace-in_hand.result.items c.args.copies.now.items c.replace-tables.result.items given in_hand taken
    (record { count = c.in-Ok.ensures.count; serial = c.in-Ok.ensures.serial; trace_is = c.in-Ok.ensures.trace; commits = c.in-Ok.ensures.commits; replayed = c.in-Ok.ensures.replayed }) in
    shippable_so c.args.procs.now c.args.config (g.N.Net.carries c.args.net.now) done.shards.items done.copies.items done.copy_journals.items done.dones done.pieces done.trace c.args.requests.items c.args.shards.now.items c.args.copies.now.items left c.requires.may.distinct
    c.requires.may.holds.0 c.requires.may.holds.1 ring on c.pieces_are_shippable.ensures

pub returns-in-Ok-clause-begun : goal.returns-in-Ok-clause-begun
returns-in-Ok-clause-begun g c ring on =
    let given = c.as_mut_slice.ensures.value in
    let in_hand = ap (λ v. v.items) c.replace-in_hand.ensures.value in
    let taken = ap (λ v. v.items) c.replace-tables.ensures.value in
    let done = c.in-Ok.done in
    let left = leaves_so c.args.procs.now c.args.config (g.N.Net.carries c.args.net.now) done.shards.items done.copies.items done.copy_journals.items done.dones done.pieces done.trace c.args.requests.items c.as_mut_slice.result.now
    c.args.shards.now.items c.replace-in_hand.result.items c.args.copies.now.items c.replace-tables.result.items given in_hand taken
    (record { count = c.in-Ok.ensures.count; serial = c.in-Ok.ensures.serial; trace_is = c.in-Ok.ensures.trace; commits = c.in-Ok.ensures.commits; replayed = c.in-Ok.ensures.replayed }) in
    begun_so c.args.procs.now c.args.config (g.N.Net.carries c.args.net.now) done.shards.items done.copies.items done.copy_journals.items done.dones done.pieces done.trace c.args.requests.items c.args.shards.now.items c.args.copies.now.items left c.requires.may.distinct
    c.requires.may.holds.0 c.requires.may.holds.1 ring on c.early_rows_are_of_pieces.ensures c.requires.tables
