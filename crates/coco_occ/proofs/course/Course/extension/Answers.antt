use Rattle.std.proofs.Common.{◌≡◌, true, false, ◌<◌, ◌+◌, length, List, Some, sym, ap, ◌∙◌, subst, arith}
use Rattle.std.specs.List.{slice_get}
use Rattle.std.proofs.lemmas.Option.{slice_get-get_or}
use Rattle.coco_types.specs.declared.call.Write.{Write}
use Rattle.coco_occ.specs.Course.{needs_seen, Rise}
use Rattle.coco_occ.specs.declared.course.Course.{Course}
use Rattle.coco_occ.specs.declared.course.SeenKey.{SeenKey}
use Rattle.coco_occ.proofs.CourseLemmas.{extension_due, extension_passed}
use Rattle.coco_occ.proofs.course.Course.extension.Goals as goal

pub returns-then-needs_extension-clause-due : goal.returns-then-needs_extension-clause-due
returns-then-needs_extension-clause-due c r m asked is s =
    let x = c.index.result.now in
    let here : c.loop-self.self.place < length c.loop-self.self.seen.items = omega arith in
    let get : slice_get c.loop-self.self.seen.items c.loop-self.self.place ≡ Some x = slice_get-get_or c.loop-self.self.seen.items c.loop-self.self.place x here ∙ ap (λ (y : SeenKey). Some y) (sym c.index.ensures) in
    let timed : c.loop-self.self.time ≡ Some c.in_ok-time.time = ap (λ (d : Course). d.time) c.loop-self.invariant.others ∙ c.in_ok-time.was in
    let needed : needs_seen c.in_ok-time.time r.writes x ≡ true = ap (λ (ws : List Write). needs_seen c.in_ok-time.time ws x) is ∙ sym (c.needs_extension.ensures (subst Rise is (c.loop-self.invariant.stands r m asked is s).has_read.rising)) ∙ c.if-needs_extension.true in
    extension_due r m asked c.loop-self.self x.key x.wts x.rts c.in_ok-time.time (c.loop-self.invariant.stands r m asked is s) get timed needed

pub loop-self-preserved : goal.loop-self-preserved
loop-self-preserved c = record {
  others = ap (λ (d : Course). record d { place = c.loop-self.self.place + 1 }) c.loop-self.invariant.others;
  stands = λ r m asked is s.
      let x = c.index.result.now in
      let here : c.loop-self.self.place < length c.loop-self.self.seen.items = omega arith in
      let get : slice_get c.loop-self.self.seen.items c.loop-self.self.place ≡ Some x = slice_get-get_or c.loop-self.self.seen.items c.loop-self.self.place x here ∙ ap (λ (y : SeenKey). Some y) (sym c.index.ensures) in
      let timed : c.loop-self.self.time ≡ Some c.in_ok-time.time = ap (λ (d : Course). d.time) c.loop-self.invariant.others ∙ c.in_ok-time.was in
      let unneeded : needs_seen c.in_ok-time.time r.writes x ≡ false = ap (λ (ws : List Write). needs_seen c.in_ok-time.time ws x) is ∙ sym (c.needs_extension.ensures (subst Rise is (c.loop-self.invariant.stands r m asked is s).has_read.rising)) ∙ c.if-needs_extension.false in
      extension_passed r m asked c.loop-self.self x.key x.wts x.rts c.in_ok-time.time (c.loop-self.invariant.stands r m asked is s) get timed unneeded;
}
