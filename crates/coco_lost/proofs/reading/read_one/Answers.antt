use Rattle.std.proofs.Common.{◌≡◌, inl, inr, ap, subst, sym}
use Rattle.coco_recover.proofs.Resting.{stands_still}
use Rattle.coco_append.specs.Gaining.{Stands}
use Rattle.coco_letters.specs.declared.voter.Voter.{Voter}
use Rattle.coco_lost.specs.Reading.{ReadsAnew, ReadsOne}
use Rattle.coco_lost.proofs.ReadingLemmas.{either_way, ok_so}
use Rattle.coco_lost.proofs.reading.read_one.Goals as goal

pub returns-clause-one : goal.returns-clause-one
returns-clause-one g c =
    let after = c.read_anew.new in
    either_way c.read_anew.result (ReadsAnew c.args.node c.args.voter.now c.args.tables.now after.voter after.tables) ((after.voter ≡ c.args.voter.now) × (after.tables ≡ c.args.tables.now))
    (ReadsOne c.args.node c.args.voter.now c.args.tables.now after.voter after.tables) c.read_anew.ensures.anew c.read_anew.ensures.err (λ anew. inr (c.if-not-voter.false, anew)) (λ same. inl same)

pub returns-clause-none : goal.returns-clause-none
returns-clause-none g c = ok_so c.read_anew.result c.read_anew.ensures.anew (λ anew. ap (λ (v : Voter). v.is_lost) anew.voter_is)

pub returns-clause-files : goal.returns-clause-files
returns-clause-files g c = ok_so c.read_anew.result c.read_anew.ensures.files (λ is files d told good known was. is files d told good known)

pub returns-clause-stand : goal.returns-clause-stand
returns-clause-stand g c = λ was.
    let after = c.read_anew.new in
    let stands : Voter → Type 0 = λ v. Stands v.log (g.H.Host.reads after.host) (g.H.Host.may_leave after.host) in
    either_way c.read_anew.result (stands after.voter) ((after.voter ≡ c.args.voter.now) × (after.tables ≡ c.args.tables.now)) (stands after.voter) c.read_anew.ensures.stand c.read_anew.ensures.err (λ now. now)
    (λ same. subst stands (sym same.0) (stands_still c.args.voter.now.log (g.H.Host.reads c.args.host.now) (g.H.Host.reads after.host) (g.H.Host.may_leave c.args.host.now) (g.H.Host.may_leave after.host)
    c.read_anew.ensures.read.same c.read_anew.ensures.read.crash was))

pub returns-clause-here : goal.returns-clause-here
returns-clause-here g c file at is = (c.if-not-voter.false, c.read_anew.ensures.here file at is)

pub returns-clause-refused : goal.returns-clause-refused
returns-clause-refused g c = λ file at files s commits is told layout tree epochs. c.read_anew.ensures.refused file at files s commits is told layout tree epochs
