use Rattle.std.proofs.Common.{◌≡◌, get_or, true, refl}
use Rattle.coco_lex.specs.Bytes.{quote}
use Rattle.coco_lex.proofs.Texts.{tail, tail_found, tail_more, at_backslash, not_at_backslash}
use Rattle.coco_lex.proofs.quoted.is_closed.Goals as goal
use Rattle.coco_lex.proofs.quoted.is_closed.Goals.{else-b-eq34-via-then-b-eq34+else-not-is_escaped, else-b-eq34-via-else-b-eq34, then-b-eq92, else-b-eq92}

pub returns-then-not-is_escaped : goal.returns-then-not-is_escaped
returns-then-not-is_escaped c = (
  λ _. tail_found c.args.rest.now c.loop-b.b-index c.loop-b.is_escaped c.loop-b-test.true c.loop-b.invariant c.if-not-is_escaped.true c.if-b-eq34.true,
  λ _. refl,
)

pub loop-b-preserved : goal.loop-b-preserved
loop-b-preserved c =
    let unclosed : get_or (tail c.args.rest.now) c.loop-b.b-index 0 ≡ quote → c.loop-b.is_escaped ≡ true = λ q. elim c.else-b-eq34.branch [
      | else-b-eq34-via-then-b-eq34+else-not-is_escaped w ↦ w.if-not-is_escaped.false
      | else-b-eq34-via-else-b-eq34 w ↦ absurd (w.if-b-eq34.false q)
    ] in
    let more = tail_more c.args.rest.now c.loop-b.b-index c.loop-b.is_escaped c.if-b-eq92.is_escaped c.loop-b-test.true c.loop-b.invariant unclosed in
    elim c.if-b-eq92.branch [
      | then-b-eq92 w ↦ more (at_backslash _ c.loop-b.is_escaped c.if-b-eq92.is_escaped w.is_escaped-is w.if-b-eq92.true)
      | else-b-eq92 w ↦ more (not_at_backslash _ c.loop-b.is_escaped c.if-b-eq92.is_escaped w.is_escaped-is w.if-b-eq92.false)
    ]
