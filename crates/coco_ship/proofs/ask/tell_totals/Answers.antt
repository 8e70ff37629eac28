use Rattle.std.proofs.Common.{◌≡◌, ◌∙◌, ◌+◌, ◌++◌, ◌∷◌, [], Some, true, arith, subst, sym}
use Rattle.std.specs.List.{slice_get}
use Rattle.coco_msg.specs.declared.message.Message.TheVariants.{Total}
use Rattle.coco_ship.specs.Placing.{table_of}
use Rattle.coco_ship.specs.Sending.{ask_of, TellsTotals}
use Rattle.coco_ship.proofs.AskLemmas.{tells_more, tells_same}
use Rattle.coco_ship.proofs.NoteLemmas.{read_at}
use Rattle.coco_ship.proofs.ask.tell_totals.Goals.{then-not-line+in_ok-tell, else-not-line}
use Rattle.coco_ship.proofs.ask.tell_totals.Goals as goal

pub loop-copy-preserved : goal.loop-copy-preserved
loop-copy-preserved c =
    let ring = c.args.ring in
    let p = c.args.partition in
    let n = c.loop-copy.copy in
    let e = c.args.epoch in
    let lines = c.args.lines.now in
    let line = c.index-lines-table.result in
    let old = c.args.letters.now.items in
    let mid = c.loop-copy.letters.items in
    let at : slice_get lines (table_of ring p n) ≡ Some line =
    subst (λ t. slice_get lines t ≡ Some line) c.table.ensures.value (read_at lines c.table.result line (omega (arith, c.table.ensures.within, c.requires.lines)) c.index-lines-table.is) in
    elim c.if-not-line.branch [
      | then-not-line+in_ok-tell w ↦
          let now : c.if-not-line.letters.items ≡ w.tell.new.letters.items = cc in
          let told : w.tell.new.letters.items ≡ mid ++ ask_of ring p n (Total e p line.all) ∷ [] = w.in_ok-tell.ensures.letters in
          tells_more ring e p lines n old mid c.if-not-line.letters.items line at (now ∙ told) w.in_ok-tell.ensures.readable c.loop-copy.invariant
      | else-not-line w ↦
          let now : c.if-not-line.letters.items ≡ mid = cc in
          let done : line.is_done ≡ true = cc in
          subst (TellsTotals ring e p lines (n + 1) old) (sym now) (tells_same ring e p lines n old mid line at done c.loop-copy.invariant)
    ]

pub returns : goal.returns
returns c =
    let last : c.loop-copy.copy ≡ c.args.ring.copies = omega arith in
    subst (λ n. TellsTotals c.args.ring c.args.epoch c.args.partition c.args.lines.now n c.args.letters.now.items c.loop-copy.letters.items) last c.loop-copy.invariant
