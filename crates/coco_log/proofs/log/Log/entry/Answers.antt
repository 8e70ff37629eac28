use Rattle.std.proofs.Common.{◌≡◌, ℕ, ◌-◌, min, [], length, get_or, take, drop, sym, ◌∙◌, ap, arith}
use Rattle.std.proofs.lemmas.List.{take_at, take_all}
use Rattle.coco_log.specs.LogState.{LogState}
use Rattle.coco_log.proofs.OnlyRead.{read_first, read_on}
use Rattle.coco_log.proofs.Places.{holds_entry, entry_read, of_told}
use Rattle.coco_log.proofs.Walks.{same_place}
use Rattle.coco_log.proofs.log.Log.entry.Goals as goal

pub returns-in_err-read_at-clause-read : goal.returns-in_err-read_at-clause-read
returns-in_err-read_at-clause-read g c =
    let call = c.read_at.ensures in
    read_on g.H.Host g.met.H.Host.only_now _ _ _ (read_first g.H.Host g.met.H.Host.only_now _) call.same call.said call.crash call.time call.others

pub returns-then-branch-len-clause-read : goal.returns-then-branch-len-clause-read
returns-then-branch-len-clause-read g c =
    let call = c.read_at.ensures in
    read_on g.H.Host g.met.H.Host.only_now _ _ _ (read_first g.H.Host g.met.H.Host.only_now _) call.same call.said call.crash call.time call.others

pub returns-clause-read : goal.returns-clause-read
returns-clause-read g c =
    let call = c.read_at.ensures in
    read_on g.H.Host g.met.H.Host.only_now _ _ _ (read_first g.H.Host g.met.H.Host.only_now _) call.same call.said call.crash call.time call.others

pub returns-then-branch-len-clause-refused : goal.returns-then-branch-len-clause-refused
returns-then-branch-len-clause-refused g c at e = (
  sym (same_place _ _ at e) ∙ c.gate-gate.ensures,
  λ files body told has.
      let len = c.saturating_sub-length.result in
      let next = c.gate-next.result in
      let k = c.in_ok-read_at.field-0 in
      let seen = of_told _ files _ told c.in_ok-read_at.ensures.bytes in
      let count : k ≡ min len (length (files c.args.self.now.file) - (next - len)) =
      omega (arith, seen.0, ap (λ (l : LogState). length (files l.file)) c.self.view_is, c.deref_mut.ensures.len, c.in_ok-body.ensures.len) in
      let read = entry_read c.args.self.now c.args.number c.gate-gate.result next len k body (files c.args.self.now.file) has (sym c.gate-gate.ensures) (sym c.gate-next.ensures)
      (omega (arith, c.saturating_sub.ensures, c.saturating_sub-length.ensures)) count in
      absurd (omega (arith, read.all, c.if-branch-len.true, c.len.ensures, c.in_ok-body.ensures.len)),
)

pub returns-clause-ok : goal.returns-clause-ok
returns-clause-ok g c files bodies told holds =
    let len = c.saturating_sub-length.result in
    let next = c.gate-next.result in
    let k = c.in_ok-read_at.field-0 in
    let into = c.read_at.new.into in
    let seen = of_told _ files _ told c.in_ok-read_at.ensures.bytes in
    let count : k ≡ min len (length (files c.args.self.now.file) - (next - len)) =
    omega (arith, seen.0, ap (λ (l : LogState). length (files l.file)) c.self.view_is, c.deref_mut.ensures.len, c.in_ok-body.ensures.len) in
    let has = holds_entry c.args.self.now bodies (files c.args.self.now.file) c.args.number holds c.requires in
    let read = entry_read c.args.self.now c.args.number c.gate-gate.result next len k (get_or bodies c.args.number []) (files c.args.self.now.file) has (sym c.gate-gate.ensures) (sym c.gate-next.ensures)
    (omega (arith, c.saturating_sub.ensures, c.saturating_sub-length.ensures)) count in
    let long : length into ≡ len = omega (arith, c.read_at.auto.into, c.deref_mut.ensures.len, c.in_ok-body.ensures.len) in
    take_at into (drop (length into) c.in_ok-body.body.items) c.in_ok-body.body.len (omega (arith, long, c.in_ok-body.ensures.len))
    ∙ sym (take_all len into (omega (arith, long)))
    ∙ ap (λ (n : ℕ). take n into) (sym read.all)
    ∙ seen.1
    ∙ ap (λ (n : ℕ). take n (drop (next - len) (files c.self.inside.file))) read.all
    ∙ ap (λ (l : LogState). take len (drop (next - len) (files l.file))) c.self.view_is
    ∙ read.is
