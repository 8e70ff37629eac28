use Rattle.std.proofs.Common.{ℕ, [], sym, subst, ◌∙◌, ap}
use Rattle.coco_members.specs.AtRest.{AreAtRest, NoneBehind, NoneLost}
use Rattle.coco_members.specs.Opened.{AreMembersOf, AreOf, BeginsWorld}
use Rattle.coco_members.specs.declared.members.Members.{Members}
use Rattle.coco_standing.specs.Standing.{TablesStand, none_behind}
use Rattle.coco_store.specs.Contents.{map_in}
use Rattle.coco_cluster.proofs.OpenLemmas.{is_sound, stands_at}
use Rattle.coco_cluster.proofs.open.cluster_of.Goals as goal

pub returns-clause-members : goal.returns-clause-members
returns-clause-members c = subst (AreMembersOf c.args.store) (sym c.of.ensures.members) c.in_ok-reopened.ensures.members

pub returns-clause-sound : goal.returns-clause-sound
returns-clause-sound c =
    let now = c.in_ok-reopened.ensures in
    let put = sym c.of.ensures.members in
    is_sound c.args.store c.requires.sound c.of.result (subst (AreMembersOf c.args.store) put now.members) (c.of.ensures.kept ∙ now.hands_on.kept) (c.of.ensures.next ∙ now.hands_on.next)
    (subst (AreAtRest c.args.store.next_epoch []) put now.rest) (subst (λ (m : Members). NoneLost m.voters.items) put now.lost)

pub returns-clause-stands : goal.returns-clause-stands
returns-clause-stands c files d opening good =
    let now = c.in_ok-reopened.ensures in
    let put = sym c.of.ensures.members in
    let has = opening.has d good.holds in
    stands_at c.args.store c.requires.sound c.of.result (subst (AreMembersOf c.args.store) put now.members) (c.of.ensures.kept ∙ now.hands_on.kept) (c.of.ensures.next ∙ now.hands_on.next)
    d has (c.of.ensures.procs ∙ now.hands_on.procs) (ap (λ b. b.items) c.of.ensures.base ∙ now.hands_on.base) c.requires.keep
    (subst (AreOf d) put (now.of d.setting.entry.keep d has)) (subst (λ (m : Members). NoneBehind m.tables) put now.behind)
    (subst (λ (m : Members). TablesStand m.tables.layout (map_in d) none_behind m.tables.shards.items m.tables.copies.items) put (now.tables d.setting.entry.keep d has good.rows))

pub returns-clause-world : goal.returns-clause-world
returns-clause-world c =
    let now = c.in_ok-reopened.ensures in
    let begins = now.world in
    (begins.0, subst (λ (n : ℕ). BeginsWorld n c.of.result.members begins.0) (sym (c.of.ensures.next ∙ now.hands_on.next)) (subst (λ (m : Members). BeginsWorld c.args.store.next_epoch m begins.0) (sym c.of.ensures.members) begins.1))

pub returns-clause-entries : goal.returns-clause-entries
returns-clause-entries c files d opening holds =
    let now = c.in_ok-reopened.ensures in
    let begins = now.entries d.setting.entry.keep files d holds (opening.has d holds) in
    (begins.0, subst (λ (n : ℕ). BeginsWorld n c.of.result.members begins.0) (sym (c.of.ensures.next ∙ now.hands_on.next)) (subst (λ (m : Members). BeginsWorld c.args.store.next_epoch m begins.0) (sym c.of.ensures.members) begins.1), begins.2)
