use Rattle.std.proofs.Common.{subst}
use Rattle.coco_lines.specs.Reads.{SourceMoment, source_moment}
use Rattle.coco_make.specs.NewStore.{new_layout}
use Rattle.coco_store.specs.Texts.{IsAcceptedText}
use Rattle.coco_init.proofs.InputLemmas.{gives_same}
use Rattle.coco_init.proofs.MakingLemmas.{initiates}
use Rattle.coco_init.proofs.making.init.Goals as goal

pub returns-clause-initiates : goal.returns-clause-initiates
returns-clause-initiates g c =
    let text = c.in_ok-text.text in
    let tree = c.in_ok-accepted.field-0 in
    let taken = c.in_ok-text.ensures.takes in
    let first : SourceMoment = source_moment g.S.Source c.args.input.now in
    let last : SourceMoment = source_moment g.S.Source c.read_text.new.input in
    let accepted = subst (λ l. IsAcceptedText l tree) c.as_slice.ensures c.in_ok-accepted.ensures in (
      text,
      gives_same {before = first} {after = last} taken.bytes text taken.reads.0 taken.gives,
      initiates g.H.Host g.met.H.Host.only_now c.make.result
          (new_layout c.args.nodes c.args.partitions c.args.copies text) text last tree c.args.host.now c.expect_no_store.new.host c.make.new.host taken.reads.2 accepted
          c.expect_no_store.ensures.read (c.make.ensures.makes tree accepted),
    )
