use Rattle.std.proofs.Common.{◌≡◌, false, nat_eq, sym, ap, ◌∙◌}
use Rattle.std.specs.Set.{is_member}
use Rattle.coco_rules.proofs.NotingLemmas.{not_allowed, not_there, taken, with_id}
use Rattle.coco_rules.proofs.dones.Noted.takes.Goals as goal

pub returns-then-not-allows : goal.returns-then-not-allows
returns-then-not-allows c = λ s before same are. not_allowed c.args.procs.now s before c.args.self.now c.args.done.now same are (sym c.allows.ensures ∙ c.if-not-allows.true)

pub returns : goal.returns
returns c = λ s before same are.
    let old = c.args.self.now in
    let new = c.note.new.self in
    let id = c.args.done.now.id in
    let fresh : is_member nat_eq old.ids.keys id ≡ false = not_there (is_member nat_eq old.ids.keys id) c.in_ok-insert.field-0 c.in_ok-insert.ensures.added c.if-not-branch.false in
    taken c.args.procs.now s before old new c.args.done.now same are (sym c.allows.ensures ∙ c.if-not-allows.false) fresh
    (record {
      ids = λ q.
          ap (λ s. is_member nat_eq s.keys q) c.note.ensures.ids ∙ with_id old.ids.keys c.insert.new.self.keys id c.in_ok-insert.field-0 c.in_ok-insert.ensures.keys c.if-not-branch.false q;
      last = c.note.ensures.last;
      of_epoch = c.note.ensures.of_epoch;
      room = c.note.ensures.room;
    })
