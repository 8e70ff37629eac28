use Rattle.std.proofs.Common.{◌≡◌, ◌-◌, ◌∙◌, Some, length, arith, refl}
use Rattle.json.specs.Json.{read_key}
use Rattle.serde_json.specs.Data.{no_members, put}
use Rattle.coco_lines.proofs.TokenLemmas.{member_turn, members_over, member_shorter}
use Rattle.coco_lines.proofs.plain.parts_of.Goals as goal

pub members-init : goal.members-init
members-init c = (length c.args.reader.now, no_members, omega arith, refl, record { only = refl; args = tt; count = tt; call = tt; id = tt; snapshot = refl })

pub members-smaller : goal.members-smaller
members-smaller c =
    let l = c.members in
    let k = c.in-Some.name.now in
    let s = c.next_key.new.self in
    let named : read_key l.reader ≡ Some (Some k, s) = grind arith in
    let taken = c.in_ok-take.ensures l.invariant.1 l.invariant.4 in
    member_shorter k l.reader s c.take.new.reader taken.0 named taken.1

pub members-preserved : goal.members-preserved
members-preserved c =
    let l = c.members in
    let n = l.invariant.0 in
    let old = l.invariant.1 in
    let k = c.in-Some.name.now in
    let s = c.next_key.new.self in
    let r = c.take.new.reader in
    let named : read_key l.reader ≡ Some (Some k, s) = grind arith in
    let taken = c.in_ok-take.ensures old l.invariant.4 in
    let less = member_shorter k l.reader s r taken.0 named taken.1 in (
      n - 1,
      put k taken.0 old,
      omega (arith, l.invariant.2),
      l.invariant.3 ∙ member_turn old n k l.reader s r taken.0 (omega (arith, l.invariant.2)) named taken.1,
      taken.2,
    )

pub returns : goal.returns
returns c =
    let l = c.members in
    let old = l.invariant.1 in
    (old, l.invariant.3 ∙ members_over old l.invariant.0 l.reader c.next_key.new.self l.invariant.2 (grind arith), l.invariant.4)
