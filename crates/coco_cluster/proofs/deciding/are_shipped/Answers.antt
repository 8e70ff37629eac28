use Rattle.std.proofs.Common.{true≢false, arith, ap, length, refl, sym}
use Rattle.std.specs.Global.{Vec}
use Rattle.coco_shard.specs.RowState.{ShardState}
use Rattle.coco_ship.specs.Shipping.{news}
use Rattle.coco_trial.specs.Running.{ring_of}
use Rattle.coco_members.specs.declared.members.Members.{Members}
use Rattle.coco_cluster.proofs.ShipLemmas.{may_vote, shipped_goes}
use Rattle.coco_cluster.proofs.SilentLemmas.{silent_awaits}
use Rattle.coco_cluster.proofs.deciding.are_shipped.Goals as goal

pub ship-requires-clause-whole : goal.ship-requires-clause-whole
ship-requires-clause-whole g c = c.requires.quiet.are.whole

pub ship-requires-clause-fresh : goal.ship-requires-clause-fresh
ship-requires-clause-fresh g c s m among is bytes = c.requires.quiet.letters.ships c.args.epoch (omega arith) s m among is bytes

-- ---- all have come

pub returns-in-Ok-clause-give : goal.returns-in-Ok-clause-give
returns-in-Ok-clause-give g c is s dones trace number run keep = c.in-Ok.ensures.give s dones trace number run keep

pub returns-in-Ok-clause-may : goal.returns-in-Ok-clause-may
returns-in-Ok-clause-may g c =
    let k : Members = c.args.members.now in
    may_vote (ring_of k.tables.layout) c.args.epoch c.args.pieces.now k.tables.copies.items (news (g.N.Net.given c.args.net.now) (g.N.Net.given c.ship.new.net)) (g.N.Net.sent c.args.net.now)
    (news (g.N.Net.sent c.args.net.now) (g.N.Net.sent c.ship.new.net)) (g.N.Net.sent c.ship.new.net) c.ship.ensures.sent c.ship.ensures.right k (record k { tables = c.ship.new.tables }) refl c.ship.ensures.places
    (ap (λ (s : Vec ShardState). length s.items) c.ship.ensures.shards) c.ship.ensures.copies c.requires.quiet

pub returns-in-Ok-clause-silent : goal.returns-in-Ok-clause-silent
returns-in-Ok-clause-silent g c is = absurd (true≢false is)

pub returns-in-Ok-clause-sent : goal.returns-in-Ok-clause-sent
returns-in-Ok-clause-sent g c = (news (g.N.Net.sent c.args.net.now) (g.N.Net.sent c.ship.new.net), c.ship.ensures.sent)

pub returns-in-Ok-clause-net : goal.returns-in-Ok-clause-net
returns-in-Ok-clause-net g c = record { more = news (g.N.Net.given c.args.net.now) (g.N.Net.given c.ship.new.net); gives = c.ship.ensures.given; faults_rise = c.ship.ensures.faults; seed_stays = c.ship.ensures.seed }

pub returns-in-Ok-clause-world : goal.returns-in-Ok-clause-world
returns-in-Ok-clause-world g c =
    let k : Members = c.args.members.now in
    shipped_goes (ring_of k.tables.layout) c.args.epoch c.args.pieces.now k.tables.copies.items (news (g.N.Net.given c.args.net.now) (g.N.Net.given c.ship.new.net)) (g.N.Net.sent c.args.net.now)
    (news (g.N.Net.sent c.args.net.now) (g.N.Net.sent c.ship.new.net)) (g.N.Net.sent c.ship.new.net) c.ship.ensures.sent c.ship.ensures.right k (record k { tables = c.ship.new.tables }) refl

pub returns-in-Ok-clause-answered : goal.returns-in-Ok-clause-answered
returns-in-Ok-clause-answered g c is = c.in-Ok.ensures.answered

-- ---- a copy doesn't answer

pub returns-in-Err-Silent-clause-give : goal.returns-in-Err-Silent-clause-give
returns-in-Err-Silent-clause-give g c is = absurd (true≢false (sym is))

pub returns-in-Err-Silent-clause-may : goal.returns-in-Err-Silent-clause-may
returns-in-Err-Silent-clause-may g c =
    let k : Members = c.args.members.now in
    may_vote (ring_of k.tables.layout) c.args.epoch c.args.pieces.now k.tables.copies.items (news (g.N.Net.given c.args.net.now) (g.N.Net.given c.ship.new.net)) (g.N.Net.sent c.args.net.now)
    (news (g.N.Net.sent c.args.net.now) (g.N.Net.sent c.ship.new.net)) (g.N.Net.sent c.ship.new.net) c.ship.ensures.sent c.ship.ensures.right k (record k { tables = c.ship.new.tables }) refl c.ship.ensures.places
    (ap (λ (s : Vec ShardState). length s.items) c.ship.ensures.shards) c.ship.ensures.copies c.requires.quiet

pub returns-in-Err-Silent-clause-silent : goal.returns-in-Err-Silent-clause-silent
returns-in-Err-Silent-clause-silent g c _ =
    let silent = rw c.in-Err-Silent.field-0-is at c.in-Err-Silent.ensures.silent in
    record { lost = silent.faults; awaits = silent_awaits _ _ _ _ _ _ _ silent }

pub returns-in-Err-Silent-clause-sent : goal.returns-in-Err-Silent-clause-sent
returns-in-Err-Silent-clause-sent g c = (news (g.N.Net.sent c.args.net.now) (g.N.Net.sent c.ship.new.net), c.ship.ensures.sent)

pub returns-in-Err-Silent-clause-net : goal.returns-in-Err-Silent-clause-net
returns-in-Err-Silent-clause-net g c = record { more = news (g.N.Net.given c.args.net.now) (g.N.Net.given c.ship.new.net); gives = c.ship.ensures.given; faults_rise = c.ship.ensures.faults; seed_stays = c.ship.ensures.seed }

pub returns-in-Err-Silent-clause-world : goal.returns-in-Err-Silent-clause-world
returns-in-Err-Silent-clause-world g c =
    let k : Members = c.args.members.now in
    shipped_goes (ring_of k.tables.layout) c.args.epoch c.args.pieces.now k.tables.copies.items (news (g.N.Net.given c.args.net.now) (g.N.Net.given c.ship.new.net)) (g.N.Net.sent c.args.net.now)
    (news (g.N.Net.sent c.args.net.now) (g.N.Net.sent c.ship.new.net)) (g.N.Net.sent c.ship.new.net) c.ship.ensures.sent c.ship.ensures.right k (record k { tables = c.ship.new.tables }) refl

pub returns-in-Err-Silent-clause-answered : goal.returns-in-Err-Silent-clause-answered
returns-in-Err-Silent-clause-answered g c is = absurd (true≢false (sym is))

-- ---- without memory

pub returns-in-Err-NoMemory-clause-sent : goal.returns-in-Err-NoMemory-clause-sent
returns-in-Err-NoMemory-clause-sent g c = (news (g.N.Net.sent c.args.net.now) (g.N.Net.sent c.ship.new.net), c.ship.ensures.sent)

pub returns-in-Err-NoMemory-clause-net : goal.returns-in-Err-NoMemory-clause-net
returns-in-Err-NoMemory-clause-net g c = record { more = news (g.N.Net.given c.args.net.now) (g.N.Net.given c.ship.new.net); gives = c.ship.ensures.given; faults_rise = c.ship.ensures.faults; seed_stays = c.ship.ensures.seed }
