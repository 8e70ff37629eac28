use Rattle.std.proofs.Common.{refl, sym, subst}
use Rattle.coco_entry.specs.declared.layout.LayoutEntry.{LayoutEntry}
use Rattle.coco_standing.specs.Standing.{TablesStand, none_behind}
use Rattle.coco_store.specs.Contents.{map_in}
use Rattle.coco_members.specs.Opened.{AreMembersOf}
use Rattle.coco_members.proofs.OpenedLemmas.{are_of, at_rest, begins, has_entries, members_are, members_with, none_is_behind, none_is_lost, stand, world}
use Rattle.coco_members.proofs.opened.members_of.Goals as goal
use Rattle.coco_members.proofs.opened.members_of.Goals.{In_ok-behind}

had : (c : In_ok-behind) → AreMembersOf c.args.store (members_with c.args.store c.in_ok-chief.chief c.in_ok-cores.cores c.in_ok-voters.voters c.in_ok-behind.behind)
had c = members_are c.args.store c.in_ok-chief.chief c.in_ok-cores.cores c.in_ok-voters.voters c.in_ok-behind.behind _
    c.in_ok-chief.ensures c.as_slice.ensures.value c.in_ok-cores.ensures c.in_ok-voters.ensures (c.in_ok-behind.ensures.items_if_clones_equal (λ y is. is))

pub returns-clause-members : goal.returns-clause-members
returns-clause-members c = had (goal.at.returns-clause-members c).In_ok-behind

pub returns-clause-rest : goal.returns-clause-rest
returns-clause-rest c = at_rest c.args.store c.requires.sound _ (had (goal.at.returns-clause-rest c).In_ok-behind)

pub returns-clause-lost : goal.returns-clause-lost
returns-clause-lost c = none_is_lost c.args.store c.requires.sound _ (had (goal.at.returns-clause-lost c).In_ok-behind)

pub returns-clause-behind : goal.returns-clause-behind
returns-clause-behind c = none_is_behind c.args.store c.requires.sound _ (had (goal.at.returns-clause-behind c).In_ok-behind)

pub returns-clause-of : goal.returns-clause-of
returns-clause-of c keep contents holds = are_of c.args.store c.requires.sound _ (had (goal.at.returns-clause-of c).In_ok-behind) keep contents holds

pub returns-clause-tables : goal.returns-clause-tables
returns-clause-tables c keep contents holds rows =
    let stands = c.an_opened_store_stands.ensures.tables keep contents c.args.store holds rows in
    stand c.args.store c.requires.sound _ (had (goal.at.returns-clause-tables c).In_ok-behind) (map_in contents)
    (subst (λ (e : LayoutEntry). TablesStand e.layout (map_in contents) none_behind c.args.store.shards.items c.args.store.copies.items) (sym holds.layout) stands)

pub returns-clause-world : goal.returns-clause-world
returns-clause-world c =
    let of = had (goal.at.returns-clause-world c).In_ok-behind in
    let begin = c.entries_begin_a_world.ensures in
    let readied = c.requires.sound.readied in
    (world c.args.store c.requires.sound _ of begin.begin begin.cores _ readied, begins c.args.store c.requires.sound _ of begin.begin begin.cores _ readied)

pub returns-clause-entries : goal.returns-clause-entries
returns-clause-entries c keep files contents held holds =
    let of = had (goal.at.returns-clause-entries c).In_ok-behind in
    let begin = c.entries_begin_a_world.ensures in
    let readied = c.an_opened_store_stands.ensures.readied keep files contents c.args.store held holds in (
      world c.args.store c.requires.sound _ of begin.begin begin.cores _ readied,
      begins c.args.store c.requires.sound _ of begin.begin begin.cores _ readied,
      has_entries c.args.store c.requires.sound _ of begin.begin begin.cores _ readied keep contents holds (λ n. refl),
    )
