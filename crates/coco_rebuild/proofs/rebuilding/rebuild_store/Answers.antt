use Rattle.std.proofs.Common.{◌≡◌, ℕ, ◌<◌, ◌∷◌, [], List, map, Err, true, false, length, refl, sym, ap, subst, ◌∙◌, arith}
use Rattle.std.proofs.lemmas.Result.{err_from_is_err_and}
use Rattle.coco_host.specs.Files.{Files}
use Rattle.coco_ast.specs.History.{RisesAbove}
use Rattle.coco_entry.specs.declared.layout.LayoutEntry.{LayoutEntry}
use Rattle.coco_entry.specs.Layouts.{IsLayout, is_named}
use Rattle.coco_entry.specs.Rows.{prepared_bytes}
use Rattle.coco_log.specs.Drafts.{HasLog}
use Rattle.coco_log.specs.Faults.{CountsFault}
use Rattle.coco_read.specs.declared.fault.OpenFault.TheVariants.{NotAStore}
use Rattle.coco_append.specs.Gaining.{HasLogsOf, HasStore}
use Rattle.coco_append.proofs.GainLemmas.{nothing_gained}
use Rattle.coco_append.proofs.PastLemmas.{gained_past, gains_weaker, nothing_gained_past, rests_past, such_of_logs}
use Rattle.coco_recover.specs.Without.{IsGoodBut, entry_of_parts}
use Rattle.coco_store.specs.Entries.{files_of, prepared_kind}
use Rattle.coco_store.specs.Rules.{IsWithinLimits}
use Rattle.coco_rebuild.specs.Rebuilding.{HasRebuilt, IsHeldAlone, new_file, rebuild_files, rebuilt_with}
use Rattle.coco_rebuild.proofs.NewNode.{is_layout, none_of_old, of_nodes, within_limits}
use Rattle.coco_rebuild.proofs.Rebuilds.{gains_answered, its_switch, ready_rests, counts_answered, never_refused, rebuilt, same_entry, still_but, still_logged, wider}
use Rattle.coco_make.proofs.Besides.{become_more, become_one, become_still, become_then, follows_more, follows_one, follows_then, stands_besides}
use Rattle.coco_rebuild.proofs.rebuilding.rebuild_store.Goals as goal

-- ---- memory runs out at first

pub returns-in_err-file-clause-gains : goal.returns-in_err-file-clause-gains
returns-in_err-file-clause-gains g c d has rests =
    let p = err_from_is_err_and c.from_residual.result c.from_residual.ensures.1 in
    nothing_gained g.H.Host c.from_residual.result (λ image. IsGoodBut c.args.node image d) (HasRebuilt c.args.node d)
    g.met.H.Host.only_now c.args.host.now p.0 p.1 rests

pub returns-in_err-file-clause-files : goal.returns-in_err-file-clause-files
returns-in_err-file-clause-files g c = become_still (rebuild_files (entry_of_parts c.args.parts)) (g.H.Host.reads c.args.host.now)

pub returns-in_err-file-clause-crash : goal.returns-in_err-file-clause-crash
returns-in_err-file-clause-crash g c image left = (image, left, λ n out. refl)

-- ---- what the calls ask

pub new_file-requires : goal.new_file-requires
new_file-requires g c = (let count = c.requires.sound.is.fields.count in let nodes = c.requires.sound.is.fields.nodes in omega (arith, count, nodes))

pub write_node-requires-clause-around : goal.write_node-requires-clause-around
write_node-requires-clause-around g c = c.requires.sound.limits.copies

pub write_node-requires-clause-some : goal.write_node-requires-clause-some
write_node-requires-clause-some g c = let some = c.requires.sound.limits.partitions.0 in omega (arith, some)

pub write_node-requires-clause-count : goal.write_node-requires-clause-count
write_node-requires-clause-count g c = c.requires.sound.is.fields.count

pub write_node-requires-clause-apart : goal.write_node-requires-clause-apart
write_node-requires-clause-apart g c =
    let parts = c.args.parts in
    let sound = c.requires.sound in
    subst (λ (f : ℕ). is_named parts.layout.node_files f ≡ false) (sym c.in_ok-file.ensures) (of_nodes c.args.node (entry_of_parts parts) sound.is sound.limits)

pub write_node-requires-clause-rise : goal.write_node-requires-clause-rise
write_node-requires-clause-rise g c = subst (λ (l : List ℕ). RisesAbove c.args.parts.layout.base_epoch l) (sym c.as_slice.ensures.value) c.requires.sound.rises

pub with_file-layout-requires : goal.with_file-layout-requires
with_file-layout-requires g c = (let count = c.requires.sound.is.fields.count in let less = c.requires.node in omega (arith, count, less))

pub add_layout-requires-clause-log : goal.add_layout-requires-clause-log
add_layout-requires-clause-log g c = c.requires.sound.root

pub add_layout-requires-clause-stands : goal.add_layout-requires-clause-stands
add_layout-requires-clause-stands g c =
    let R = g.H.Host.reads in
    let L = g.H.Host.may_leave in
    let parts = c.args.parts in
    let sound = c.requires.sound in
    let file = c.in_ok-file.file in
    let first = c.args.host.now in
    let mid = c.write_node.new.host in
    let off : is_named (file ∷ []) 0 ≡ false =
    subst (λ (f : ℕ). is_named (f ∷ []) 0 ≡ false) (sym c.in_ok-file.ensures) (none_of_old c.args.node (entry_of_parts parts) sound.is sound.limits 0 refl) in
    let apart = subst (λ (f : ℕ). is_named (file ∷ []) f ≡ false) (sym sound.root.in_file) off in
    stands_besides (file ∷ []) (L first) (L mid) c.write_node.ensures.changes.crash parts.root (R first) (R mid) apart c.write_node.ensures.changes.files c.requires.stands.root

pub add_layout-requires-clause-is : goal.add_layout-requires-clause-is
add_layout-requires-clause-is g c =
    let parts = c.args.parts in
    let sound = c.requires.sound in
    let old = entry_of_parts parts in
    subst (λ (e : LayoutEntry). IsLayout e) (same_entry c.args.node c.in_ok-file.file old old c.with_file-layout.result refl c.in_ok-file.ensures c.with_file-layout.ensures) (is_layout c.args.node old sound.is sound.limits)

pub add_layout-requires-clause-limits : goal.add_layout-requires-clause-limits
add_layout-requires-clause-limits g c =
    let parts = c.args.parts in
    let sound = c.requires.sound in
    let old = entry_of_parts parts in
    subst (λ (e : LayoutEntry). IsWithinLimits e) (same_entry c.args.node c.in_ok-file.file old old c.with_file-layout.result refl c.in_ok-file.ensures c.with_file-layout.ensures) (within_limits c.args.node old sound.is sound.limits)

pub add_layout-requires-clause-text : goal.add_layout-requires-clause-text
add_layout-requires-clause-text g c = let short = c.requires.sound.accepted.short in omega (arith, short, ap (λ l. length l.text) c.with_file-layout.ensures)

-- ---- the file isn't written

pub returns-in_err-write_node-clause-gains : goal.returns-in_err-write_node-clause-gains
returns-in_err-write_node-clause-gains g c d has rests =
    let parts = c.args.parts in
    let sound = c.requires.sound in
    let old = entry_of_parts parts in
    let file = c.in_ok-file.file in
    let free : (n : ℕ) → is_named (files_of d.setting.entry) n ≡ true → is_named (file ∷ []) n ≡ false = λ n is. subst (λ (f : ℕ). is_named (f ∷ []) n ≡ false) (sym c.in_ok-file.ensures)
    (none_of_old c.args.node old sound.is sound.limits n (subst (λ (e : LayoutEntry). is_named (files_of e) n ≡ true) (sym has.layout) is)) in
    let still = still_but c.args.node (file ∷ []) d c.a_store_is_one_but_for_a_node.ensures.gates free in
    let p = err_from_is_err_and c.from_residual-in_err-write_node.result c.from_residual-in_err-write_node.ensures.1 in
    nothing_gained_past g.H.Host (file ∷ []) (λ image. IsGoodBut c.args.node image d) still c.args.host.now c.write_node.new.host rests c.write_node.ensures.changes c.from_residual-in_err-write_node.result
    (HasRebuilt c.args.node d) p.0 p.1

pub returns-in_err-write_node-clause-files : goal.returns-in_err-write_node-clause-files
returns-in_err-write_node-clause-files g c =
    let old = entry_of_parts c.args.parts in
    let file = c.in_ok-file.file in
    become_more (file ∷ []) (rebuild_files old) (wider old file c.in_ok-file.ensures) (g.H.Host.reads c.args.host.now) (g.H.Host.reads c.write_node.new.host) c.write_node.ensures.changes.files

pub returns-in_err-write_node-clause-crash : goal.returns-in_err-write_node-clause-crash
returns-in_err-write_node-clause-crash g c =
    let old = entry_of_parts c.args.parts in
    let file = c.in_ok-file.file in
    follows_more (file ∷ []) (rebuild_files old) (wider old file c.in_ok-file.ensures) (g.H.Host.may_leave c.args.host.now) (g.H.Host.may_leave c.write_node.new.host) c.write_node.ensures.changes.crash

pub returns-in_err-write_node-clause-said : goal.returns-in_err-write_node-clause-said
returns-in_err-write_node-clause-said g c = c.write_node.ensures.changes.quiet

-- ---- the layout is appended

pub returns-clause-gains : goal.returns-clause-gains
returns-clause-gains g c d has rests =
    let R = g.H.Host.reads in
    let L = g.H.Host.may_leave in
    let node = c.args.node in
    let parts = c.args.parts in
    let sound = c.requires.sound in
    let old = entry_of_parts parts in
    let file = c.in_ok-file.file in
    let first = c.args.host.now in
    let mid = c.write_node.new.host in
    let new = c.add_layout.new.host in
    let such = λ (image : Files). IsGoodBut node image d in
    let gates = c.a_store_is_one_but_for_a_node.ensures.gates in
    let law = c.a_rebuilt_store_is_good.ensures in
    let free : (n : ℕ) → is_named (files_of d.setting.entry) n ≡ true → is_named (file ∷ []) n ≡ false = λ n is. subst (λ (f : ℕ). is_named (f ∷ []) n ≡ false) (sym c.in_ok-file.ensures)
    (none_of_old node old sound.is sound.limits n (subst (λ (e : LayoutEntry). is_named (files_of e) n ≡ true) (sym has.layout) is)) in
    let still = still_but node (file ∷ []) d gates free in
    let past = rests_past g.H.Host (file ∷ []) such still first mid rests c.write_node.ensures.changes in
    let held = subst (λ (e : LayoutEntry). (p : ℕ) → ¬ (IsHeldAlone e.layout node p)) has.layout c.requires.held in
    let less : node < d.setting.entry.layout.nodes = subst (λ (e : LayoutEntry). node < e.layout.nodes) has.layout c.requires.node in
    let made = c.in_ok-write_node.ensures.made rests.files d rests.are (record {
      nodes = rests.good.holds.nodes;
      layout_is = ap (λ (e : LayoutEntry). e.layout) (sym has.layout);
      epochs_are = sym has.epochs ∙ sym c.as_slice.ensures.value;
      held = c.requires.held;
    }) in
    let is_file : file ≡ new_file d.setting.entry = c.in_ok-file.ensures ∙ ap new_file has.layout in
    let log = subst (λ (f : ℕ). HasLog prepared_kind (map prepared_bytes made.entries) f (R mid) (L mid)) is_file made.log in
    let after = rebuilt_with node made.entries d in
    let switches = its_switch node d made.entries law less held made.are (R mid) (L mid) past log in
    let ready = ready_rests node d made.entries law less held made.are (R mid) (L mid) past log in
    let same = same_entry node file old d.setting.entry c.with_file-layout.result has.layout c.in_ok-file.ensures c.with_file-layout.ensures in
    let gains = c.add_layout.ensures.gains d after switches same ready in
    gains_answered g.H.Host c.add_layout.result c.answer_to.result such (HasRebuilt node d) first new c.answer_to.ensures
    (gained_past g.H.Host (file ∷ []) such still first mid rests c.write_node.ensures.changes c.add_layout.result (HasRebuilt node d) new
    (gains_weaker g.H.Host c.add_layout.result (HasLogsOf (L mid)) (HasStore after) such (HasRebuilt node d) mid new (such_of_logs such (L mid) (still_logged node d gates) past.left)
    (rebuilt node d made.entries law less held made.are) gains))

pub returns-clause-files : goal.returns-clause-files
returns-clause-files g c =
    let R = g.H.Host.reads in
    let old = entry_of_parts c.args.parts in
    let file = c.in_ok-file.file in
    let first = c.args.host.now in
    let mid = c.write_node.new.host in
    let new = c.add_layout.new.host in
    become_then (rebuild_files old) (R first) (R mid) (R new) (become_more (file ∷ []) (rebuild_files old) (wider old file c.in_ok-file.ensures) (R first) (R mid) c.write_node.ensures.changes.files)
    (become_one 0 (rebuild_files old) refl (R mid) (R new) c.add_layout.ensures.files)

pub returns-clause-crash : goal.returns-clause-crash
returns-clause-crash g c =
    let L = g.H.Host.may_leave in
    let old = entry_of_parts c.args.parts in
    let file = c.in_ok-file.file in
    let first = c.args.host.now in
    let mid = c.write_node.new.host in
    let new = c.add_layout.new.host in
    follows_then (rebuild_files old) (L first) (L mid) (L new) (follows_more (file ∷ []) (rebuild_files old) (wider old file c.in_ok-file.ensures) (L first) (L mid) c.write_node.ensures.changes.crash)
    (follows_one 0 (rebuild_files old) refl (L mid) (L new) c.add_layout.ensures.crash)

pub returns-clause-said : goal.returns-clause-said
returns-clause-said g c = c.add_layout.ensures.said ∙ c.write_node.ensures.changes.quiet

pub returns-clause-kept : goal.returns-clause-kept
returns-clause-kept g c other at files d told holds has is = never_refused c.add_layout.result c.answer_to.result other at c.answer_to.ensures is

pub returns-clause-counts : goal.returns-clause-counts
returns-clause-counts g c =
    counts_answered c.add_layout.result c.answer_to.result (g.H.Host.disk_faults c.args.host.now) (g.H.Host.disk_faults c.add_layout.new.host) c.answer_to.ensures
    (subst (λ (n : ℕ). CountsFault c.add_layout.result n (g.H.Host.disk_faults c.add_layout.new.host)) c.in_ok-write_node.ensures.counts c.add_layout.ensures.counts)

pub returns-in_err-write_node-clause-kept : goal.returns-in_err-write_node-clause-kept
returns-in_err-write_node-clause-kept g c other at files d told holds has is =
    let p = err_from_is_err_and c.from_residual-in_err-write_node.result c.from_residual-in_err-write_node.ensures.1 in
    let same : c.in_err-write_node.field-0.0 ≡ NotAStore other at = cc (p.1, p.2, is) in
    c.in_err-write_node.ensures.kept other at files d told (record {
      nodes = holds.nodes;
      layout_is = ap (λ (e : LayoutEntry). e.layout) (sym has.layout);
      epochs_are = sym has.epochs ∙ sym c.as_slice.ensures.value;
      held = c.requires.held;
    }) (ap Err same)
