use Rattle.std.proofs.Common.{◌≡◌, ℕ, ◌<◌, ◌-◌, false, List, ◌∷◌, length, refl, sym, ap, subst, ◌∙◌, arith}
use Rattle.std.proofs.lemmas.Result.{err_from_is_err_and}
use Rattle.coco_entry.specs.Layouts.{is_named}
use Rattle.coco_append.specs.Gaining.{HasLogsOf, HasStore}
use Rattle.coco_append.proofs.GainLemmas.{nothing_gained}
use Rattle.coco_append.proofs.PastLemmas.{gained_past, gains_weaker, nothing_gained_past, rests_past, such_of_logs}
use Rattle.coco_recover.specs.Opening.{ShardsHold, entry_in}
use Rattle.coco_shard.specs.RowState.{ShardState}
use Rattle.coco_store.specs.Contents.{map_in}
use Rattle.coco_ckpt.specs.Compacting.{HasCompacted, compact_files, compacted_with}
use Rattle.coco_ckpt.proofs.Compacts.{among_compact, base_beside, before_stays, compaction, has_epoch, is_from, ready_rests, still_logged, text_stays, unnamed}
use Rattle.coco_make.proofs.Besides.{become_more, become_one, become_still, become_then, follows_more, follows_one, follows_then, stands_besides}
use Rattle.coco_ckpt.proofs.compacting.compact_store.Goals as goal

pub returns-in_err-entry-clause-gains : goal.returns-in_err-entry-clause-gains
returns-in_err-entry-clause-gains g c d has rests =
    let p = err_from_is_err_and c.from_residual.result c.from_residual.ensures.1 in
    nothing_gained g.H.Host c.from_residual.result (HasStore d) (HasCompacted d) g.met.H.Host.only_now c.args.host.now p.0 p.1 rests

pub returns-in_err-entry-clause-files : goal.returns-in_err-entry-clause-files
returns-in_err-entry-clause-files g c = become_still (compact_files (entry_in c.args.store)) (g.H.Host.reads c.args.host.now)

pub returns-in_err-entry-clause-crash : goal.returns-in_err-entry-clause-crash
returns-in_err-entry-clause-crash g c image left = (image, left, λ n out. refl)

pub compact_entry-requires-clause-epoch : goal.compact_entry-requires-clause-epoch
compact_entry-requires-clause-epoch g c = omega (arith, c.requires.sound.first, c.requires.sound.end)

pub write_files-requires-clause-rising : goal.write_files-requires-clause-rising
write_files-requires-clause-rising g c = c.requires.sound.keeps.in_order

pub write_files-requires-clause-apart : goal.write_files-requires-clause-apart
write_files-requires-clause-apart g c =
    base_beside c.args.store c.requires.sound c.in_ok-entry.entry c.in_ok-entry.base c.in_ok-entry.ensures.compact c.in_ok-entry.ensures.base

pub returns-in_err-write_files-clause-gains : goal.returns-in_err-write_files-clause-gains
returns-in_err-write_files-clause-gains g c d has rests =
    let p = err_from_is_err_and c.from_residual-in_err-write_files.result c.from_residual-in_err-write_files.ensures.1 in
    nothing_gained_past g.H.Host (c.in_ok-entry.base ∷ c.in_ok-entry.entry.layout.chief_file ∷ c.in_ok-entry.entry.layout.node_files) (HasStore d) (before_stays c.args.store c.requires.sound c.in_ok-entry.entry c.in_ok-entry.base c.in_ok-entry.ensures.compact c.in_ok-entry.ensures.base d has)
    c.args.host.now c.write_files.new.host rests c.write_files.ensures.changes c.from_residual-in_err-write_files.result (HasCompacted d) p.0 p.1

pub returns-in_err-write_files-clause-files : goal.returns-in_err-write_files-clause-files
returns-in_err-write_files-clause-files g c =
    become_more (c.in_ok-entry.base ∷ c.in_ok-entry.entry.layout.chief_file ∷ c.in_ok-entry.entry.layout.node_files) (compact_files (entry_in c.args.store)) (among_compact c.args.store c.requires.sound c.in_ok-entry.entry c.in_ok-entry.base c.in_ok-entry.ensures.compact c.in_ok-entry.ensures.base) (g.H.Host.reads c.args.host.now) (g.H.Host.reads c.write_files.new.host) c.write_files.ensures.changes.files

pub returns-in_err-write_files-clause-crash : goal.returns-in_err-write_files-clause-crash
returns-in_err-write_files-clause-crash g c =
    follows_more (c.in_ok-entry.base ∷ c.in_ok-entry.entry.layout.chief_file ∷ c.in_ok-entry.entry.layout.node_files) (compact_files (entry_in c.args.store)) (among_compact c.args.store c.requires.sound c.in_ok-entry.entry c.in_ok-entry.base c.in_ok-entry.ensures.compact c.in_ok-entry.ensures.base) (g.H.Host.may_leave c.args.host.now) (g.H.Host.may_leave c.write_files.new.host) c.write_files.ensures.changes.crash

pub add_layout-requires-clause-stands : goal.add_layout-requires-clause-stands
add_layout-requires-clause-stands g c =
    let apart = subst (λ (f : ℕ). is_named (c.in_ok-entry.base ∷ c.in_ok-entry.entry.layout.chief_file ∷ c.in_ok-entry.entry.layout.node_files) f ≡ false) (sym c.requires.sound.logs.root.in_file) (unnamed c.args.store c.requires.sound c.in_ok-entry.entry c.in_ok-entry.base c.in_ok-entry.ensures.compact c.in_ok-entry.ensures.base 0 refl) in
    stands_besides (c.in_ok-entry.base ∷ c.in_ok-entry.entry.layout.chief_file ∷ c.in_ok-entry.entry.layout.node_files) (g.H.Host.may_leave c.args.host.now) (g.H.Host.may_leave c.write_files.new.host) c.write_files.ensures.changes.crash
    c.args.store.logs.root (g.H.Host.reads c.args.host.now) (g.H.Host.reads c.write_files.new.host) apart c.write_files.ensures.changes.files c.requires.stands

pub add_layout-requires-clause-text : goal.add_layout-requires-clause-text
add_layout-requires-clause-text g c =
    omega (arith, c.requires.sound.procs.short, ap length (text_stays c.args.store c.requires.sound c.in_ok-entry.entry c.in_ok-entry.base c.in_ok-entry.ensures.compact c.in_ok-entry.ensures.base))

pub returns-clause-gains : goal.returns-clause-gains
returns-clause-gains g c d has rests =
    let store = c.args.store in
    let sound = c.requires.sound in
    let entry = c.in_ok-entry.entry in
    let compact = c.in_ok-entry.ensures.compact in
    let first = c.args.host.now in
    let mid = c.write_files.new.host in
    let still = before_stays c.args.store c.requires.sound c.in_ok-entry.entry c.in_ok-entry.base c.in_ok-entry.ensures.compact c.in_ok-entry.ensures.base d has in
    let shards = store.shards.items in
    let some : 0 < length shards = subst (λ (n : ℕ). 0 < n) (sym has.tables.tables.shard_count) has.tables.tables.ring.some in
    let hold = subst (λ (l : List ShardState). ShardsHold (map_in d) l) (sym c.as_slice.ensures.value) (has.primaries rests.good.rows) in
    let made = c.in_ok-write_files.ensures.base (map_in d) hold (subst (λ (l : List ShardState). 0 < length l) (sym c.as_slice.ensures.value) some) in
    let law = c.a_compacted_store_is_good.ensures in
    let at_epoch = has_epoch c.args.store c.requires.sound c.in_ok-entry.entry c.in_ok-entry.base c.in_ok-entry.ensures.compact c.in_ok-entry.ensures.base in
    let into = is_from store sound d has rests.files rests.good entry compact c.in_ok-entry.ensures.is c.in_ok-entry.ensures.limits law at_epoch made.entries made.is in
    let after = compacted_with entry made.entries d in
    let past = rests_past g.H.Host (c.in_ok-entry.base ∷ c.in_ok-entry.entry.layout.chief_file ∷ c.in_ok-entry.entry.layout.node_files) (HasStore d) still first mid rests c.write_files.ensures.changes in
    let ready = ready_rests d entry made.entries c.in_ok-entry.base c.in_ok-entry.ensures.base (g.H.Host.reads mid) (g.H.Host.may_leave mid) (g.met.H.Host.reads_left mid) past made.log made.are into.base c.in_ok-write_files.ensures.empty in
    let small = compaction store sound d has rests.files rests.good entry compact c.in_ok-entry.ensures.is c.in_ok-entry.ensures.limits law at_epoch made.entries made.is c.compacted_alike.ensures c.alike_lines.ensures in
    gained_past g.H.Host (c.in_ok-entry.base ∷ c.in_ok-entry.entry.layout.chief_file ∷ c.in_ok-entry.entry.layout.node_files) (HasStore d) still first mid rests c.write_files.ensures.changes c.add_layout.result (HasCompacted d) c.add_layout.new.host
    (gains_weaker g.H.Host c.add_layout.result (HasLogsOf (g.H.Host.may_leave mid)) (HasStore after) (HasStore d) (HasCompacted d) mid c.add_layout.new.host
    (such_of_logs (HasStore d) (g.H.Host.may_leave mid) (still_logged d) past.left) (λ image now. (after, small, now)) (c.add_layout.ensures.gains d after into.switches refl ready))

pub returns-clause-files : goal.returns-clause-files
returns-clause-files g c =
    become_then (compact_files (entry_in c.args.store)) (g.H.Host.reads c.args.host.now) (g.H.Host.reads c.write_files.new.host) (g.H.Host.reads c.add_layout.new.host)
    (become_more (c.in_ok-entry.base ∷ c.in_ok-entry.entry.layout.chief_file ∷ c.in_ok-entry.entry.layout.node_files) (compact_files (entry_in c.args.store)) (among_compact c.args.store c.requires.sound c.in_ok-entry.entry c.in_ok-entry.base c.in_ok-entry.ensures.compact c.in_ok-entry.ensures.base) (g.H.Host.reads c.args.host.now) (g.H.Host.reads c.write_files.new.host) c.write_files.ensures.changes.files)
    (become_one 0 (compact_files (entry_in c.args.store)) refl (g.H.Host.reads c.write_files.new.host) (g.H.Host.reads c.add_layout.new.host) c.add_layout.ensures.files)

pub returns-clause-crash : goal.returns-clause-crash
returns-clause-crash g c =
    follows_then (compact_files (entry_in c.args.store)) (g.H.Host.may_leave c.args.host.now) (g.H.Host.may_leave c.write_files.new.host) (g.H.Host.may_leave c.add_layout.new.host)
    (follows_more (c.in_ok-entry.base ∷ c.in_ok-entry.entry.layout.chief_file ∷ c.in_ok-entry.entry.layout.node_files) (compact_files (entry_in c.args.store)) (among_compact c.args.store c.requires.sound c.in_ok-entry.entry c.in_ok-entry.base c.in_ok-entry.ensures.compact c.in_ok-entry.ensures.base) (g.H.Host.may_leave c.args.host.now) (g.H.Host.may_leave c.write_files.new.host) c.write_files.ensures.changes.crash)
    (follows_one 0 (compact_files (entry_in c.args.store)) refl (g.H.Host.may_leave c.write_files.new.host) (g.H.Host.may_leave c.add_layout.new.host) c.add_layout.ensures.crash)

pub compact_entry-requires-clause-is : goal.compact_entry-requires-clause-is
compact_entry-requires-clause-is g c = c.requires.sound.is

pub compact_entry-requires-clause-limits : goal.compact_entry-requires-clause-limits
compact_entry-requires-clause-limits g c = c.requires.sound.limits

pub write_files-requires-clause-fields : goal.write_files-requires-clause-fields
write_files-requires-clause-fields g c = c.in_ok-entry.ensures.is.fields

pub add_layout-requires-clause-log : goal.add_layout-requires-clause-log
add_layout-requires-clause-log g c = c.requires.sound.logs.root

pub add_layout-requires-clause-is : goal.add_layout-requires-clause-is
add_layout-requires-clause-is g c = c.in_ok-entry.ensures.is

pub add_layout-requires-clause-limits : goal.add_layout-requires-clause-limits
add_layout-requires-clause-limits g c = c.in_ok-entry.ensures.limits

pub returns-in_err-write_files-clause-said : goal.returns-in_err-write_files-clause-said
returns-in_err-write_files-clause-said g c = c.write_files.ensures.changes.quiet

pub returns-clause-said : goal.returns-clause-said
returns-clause-said g c = c.add_layout.ensures.said ∙ c.write_files.ensures.changes.quiet
