use Rattle.std.proofs.Common.{◌<◌, ◌^◌, ℕ, List, refl, sym, subst, ◌∙◌, arith}
use Rattle.std.specs.Vec.{with_items}
use Rattle.std.proofs.lemmas.List.{with_items_is}
use Rattle.coco_chief.specs.Chief.{Chief}
use Rattle.coco_chief.specs.Shown.{chief_of}
use Rattle.coco_finish.specs.Exchanges.{HaveAllFinished, IsSilent}
use Rattle.coco_letters.specs.Telling.{Adds, IsOfFinish}
use Rattle.coco_letters.specs.Worlds.{GoesOn, Scene}
use Rattle.coco_letters.proofs.WorldLemmas.{goes_on_then}
use Rattle.coco_members.specs.declared.members.Members.{Members}
use Rattle.coco_net.specs.declared.letter.Posted.{Posted}
use Rattle.coco_node.specs.Node.{Node}
use Rattle.std.specs.Bool.{MatchBool}
use Rattle.coco_letters.proofs.TellingLemmas.{adds_finish, adds_then}
use Rattle.coco_settle.proofs.MemberLemmas.{rest_finish}
use Rattle.coco_settle.proofs.RestLemmas.{shards_finish}
use Rattle.coco_settle.proofs.SilentLemmas.{silent_awaits, silent_since}
use Rattle.coco_vote.proofs.LetterLemmas.{letters_sent, letters_then}
use Rattle.coco_settle.proofs.reminding.remind_all.Goals as goal

pub finish-requires-clause-told : goal.finish-requires-clause-told
finish-requires-clause-told g c =
    let chief : Chief = chief_of c.args.members.now.chief in
    let some : 0 < c.last-last.result = omega (arith, c.requires.some, c.last-last.ensures) in
    c.unfinished_nodes_are_told.ensures.reminded c.last-last.result chief (g.N.Net.sent c.args.net.now) (g.N.Net.fresh c.args.net.now) (g.N.Net.sent c.chief_reminds.new.net) (g.N.Net.fresh c.chief_reminds.new.net) some (sym c.last-last.ensures)
    c.in_ok-chief_reminds.ensures.turns c.in_ok-chief_reminds.ensures.sends.fresh

pub returns-clause-rest : goal.returns-clause-rest
returns-clause-rest g c = λ next rest.
    let k : Members = c.args.members.now in
    let after : Members = record { chief = c.finish.new.chief; log = c.args.members.now.log; cores = with_items c.args.members.now.cores c.finish.new.cores; voters = c.args.members.now.voters; tables = c.finish.new.tables } in
    rest_finish next c.last-last.result k after (g.N.Net.sent c.args.net.now) (g.N.Net.sent c.chief_reminds.new.net) (g.N.Net.sent c.finish.new.net) (g.N.Net.given c.chief_reminds.new.net) (g.N.Net.given c.finish.new.net)
    c.as_mut_slice.result.now c.finish.new.cores c.as_mut_slice.ensures.value (with_items_is c.args.members.now.cores c.finish.new.cores (c.finish.auto.cores ∙ c.as_mut_slice.ensures.len)) c.finish.auto.cores
    rest c.last-last.ensures refl refl c.in_ok-finished.ensures.done.finish c.finish.ensures.keep.whole c.finish.ensures.keep.behind c.in_ok-finished.ensures.done.can c.in_ok-finished.ensures.done.in_step c.in_ok-finished.ensures.done.hears
    c.in_ok-chief_reminds.ensures.says c.in_ok-finished.ensures.done.said

pub returns-clause-shards : goal.returns-clause-shards
returns-clause-shards g c = λ m has.
    shards_finish c.last-last.result c.as_mut_slice.result.now c.finish.new.cores c.args.members.now.tables c.finish.new.tables c.in_ok-finished.ensures.done.finish m c.finish.ensures.keep.whole has

pub returns-clause-all : goal.returns-clause-all
returns-clause-all g c =
    let new : Chief = chief_of c.finish.new.chief in
    let sent = g.N.Net.sent in
    let given = g.N.Net.given in
    let faults = g.N.Net.faults in
    subst (λ (e : ℕ). MatchBool c.in_ok-finished.finished (HaveAllFinished new) (IsSilent e new (sent c.args.net.now) (given c.args.net.now) (sent c.finish.new.net) (given c.finish.new.net) (faults c.args.net.now) (faults c.finish.new.net)))
    c.last-last.ensures
    (silent_since c.last-last.result new (sent c.args.net.now) (sent c.chief_reminds.new.net) (sent c.finish.new.net) (given c.args.net.now) (given c.chief_reminds.new.net) (given c.finish.new.net)
    (faults c.args.net.now) (faults c.chief_reminds.new.net) (faults c.finish.new.net) c.in_ok-chief_reminds.ensures.says
    c.chief_reminds.ensures.sends.counts.given_stays c.chief_reminds.ensures.sends.counts.faults_stay c.in_ok-finished.finished c.in_ok-finished.ensures.all)

pub returns-clause-awaits : goal.returns-clause-awaits
returns-clause-awaits g c =
    let chief : Chief = chief_of c.args.members.now.chief in
    let new : Chief = chief_of c.finish.new.chief in
    let sent = g.N.Net.sent in
    let given = g.N.Net.given in
    let faults = g.N.Net.faults in
    let fits : chief.last < 2 ^ 64 = omega (arith, c.last-last.ensures) in
    let last_fits : c.last-last.result < 2 ^ 64 = omega (arith, c.last-last.ensures, fits) in
    silent_awaits c.in_ok-finished.finished c.last-last.result new (sent c.args.net.now) (given c.args.net.now) (sent c.finish.new.net) (given c.finish.new.net) (faults c.args.net.now) (faults c.finish.new.net) last_fits
    (silent_since c.last-last.result new (sent c.args.net.now) (sent c.chief_reminds.new.net) (sent c.finish.new.net) (given c.args.net.now) (given c.chief_reminds.new.net) (given c.finish.new.net)
    (faults c.args.net.now) (faults c.chief_reminds.new.net) (faults c.finish.new.net) c.in_ok-chief_reminds.ensures.says
    c.chief_reminds.ensures.sends.counts.given_stays c.chief_reminds.ensures.sends.counts.faults_stay c.in_ok-finished.finished c.in_ok-finished.ensures.all)

pub returns-clause-said : goal.returns-clause-said
returns-clause-said g c =
    let sent = g.N.Net.sent in
    subst (λ (e : ℕ). Adds (IsOfFinish e) (sent c.args.net.now) (sent c.finish.new.net)) c.last-last.ensures
    (adds_then (sent c.args.net.now) (sent c.chief_reminds.new.net) (sent c.finish.new.net)
    (adds_finish c.last-last.result (sent c.args.net.now) (sent c.chief_reminds.new.net) c.in_ok-chief_reminds.ensures.says)
    c.in_ok-finished.ensures.done.said)

pub returns-clause-world : goal.returns-clause-world
returns-clause-world g c =
    let chief : Chief = chief_of c.args.members.now.chief in
    let new : Chief = chief_of c.finish.new.chief in
    let sent = g.N.Net.sent in
    let scene : List Node → Chief → List Posted → Scene = λ cores chief sent. record { cores = cores; chief = chief; sent = sent } in
    let first : Scene = scene c.args.members.now.cores.items chief (sent c.args.net.now) in
    let between : Scene = scene c.args.members.now.cores.items chief (sent c.chief_reminds.new.net) in
    let last : Scene = scene c.finish.new.cores new (sent c.finish.new.net) in
    subst (λ (cores : List Node). GoesOn first (scene cores new (sent c.finish.new.net))) (sym (with_items_is c.args.members.now.cores c.finish.new.cores (c.finish.auto.cores ∙ c.as_mut_slice.ensures.len)))
    (goes_on_then first between last (c.in_ok-chief_reminds.ensures.world c.args.members.now.cores.items)
    (subst (λ (cores : List Node). GoesOn (scene cores chief (sent c.chief_reminds.new.net)) last) c.as_mut_slice.ensures.value c.in_ok-finished.ensures.done.world))

pub returns-in_err-chief_reminds-clause-letters : goal.returns-in_err-chief_reminds-clause-letters
returns-in_err-chief_reminds-clause-letters g c =
    letters_sent c.chief_reminds.ensures.sends.fresh c.chief_reminds.ensures.sends.counts

pub returns-in_err-finished-clause-letters : goal.returns-in_err-finished-clause-letters
returns-in_err-finished-clause-letters g c =
    letters_then (letters_sent c.chief_reminds.ensures.sends.fresh c.chief_reminds.ensures.sends.counts) c.finish.ensures.letters

pub returns-clause-letters : goal.returns-clause-letters
returns-clause-letters g c =
    letters_then (letters_sent c.chief_reminds.ensures.sends.fresh c.chief_reminds.ensures.sends.counts) c.finish.ensures.letters

pub returns-clause-committed : goal.returns-clause-committed
returns-clause-committed g c = c.in_ok-finished.ensures.done.hears.committed
