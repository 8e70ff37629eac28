use Rattle.std.proofs.Common.{◌≡◌, ◌+◌, ◌≤◌, [], ◌∷◌, length, IfSome, refl, sym, ◌∙◌, subst, arith}
use Rattle.coco_host.specs.Files.{Files, put, put_into}
use Rattle.coco_log.specs.LogState.{SameBut}
use Rattle.coco_log.specs.Making.{TearsOne}
use Rattle.coco_log.proofs.Appends.{Seen, seen_behind, seen_gate, staged, stands, told_put, room_stays}
use Rattle.coco_log.proofs.OnlyRead.{sees_then, sees_weaker}
use Rattle.coco_log.proofs.Others.{left_first, left_write, told_then}
use Rattle.coco_log.proofs.writing.write_entry.Goals as goal

pub write_and_sync-requires-2 : goal.write_and_sync-requires-2
write_and_sync-requires-2 g c =
    room_stays c.args.file (c.args.gate + 1) c.args.gate c.args.piece.now (g.H.Host.reads c.args.host.now) (g.H.Host.reads c.write_and_sync.new.host) (omega arith) c.requires.room c.in_ok-write_and_sync.ensures.written

pub returns-in_err-write_and_sync-clause-moments : goal.returns-in_err-write_and_sync-clause-moments
returns-in_err-write_and_sync-clause-moments g c files kind bodies body told ready is =
    let f = c.args.file in
    let a = c.args.gate in
    let p = c.args.piece.now in
    let s0 = c.args.host.now in
    sees_weaker g.H.Host.moment g.H.Host.observed s0 c.write_and_sync.new.host (TearsOne f (a + 1) (length p) (g.H.Host.may_leave s0) (g.H.Host.said s0))
    (Seen g.H.Host g.met.H.Host.only_now f kind a bodies body p files s0 ready is) (seen_behind g.H.Host g.met.H.Host.only_now f kind a bodies body p files s0 ready is) c.write_and_sync.ensures.moments

pub returns-in_err-write_and_sync-2-clause-moments : goal.returns-in_err-write_and_sync-2-clause-moments
returns-in_err-write_and_sync-2-clause-moments g c files kind bodies body told ready is =
    let N = g.met.H.Host.only_now in
    let f = c.args.file in
    let a = c.args.gate in
    let p = c.args.piece.now in
    let s0 = c.args.host.now in
    let s1 = c.write_and_sync.new.host in
    let s2 = c.write_and_sync-2.new.host in
    let First = TearsOne f (a + 1) (length p) (g.H.Host.may_leave s0) (g.H.Host.said s0) in
    let Second = TearsOne f a 1 (g.H.Host.may_leave s1) (g.H.Host.said s1) in
    let S = Seen g.H.Host N f kind a bodies body p files s0 ready is in
    let wrote = told_put f (a + 1) p (g.H.Host.reads s0) (g.H.Host.reads s1) files told c.in_ok-write_and_sync.ensures.written in
    let stand = staged g.H.Host N f kind a bodies body p files s0 ready is (g.H.Host.reads s1) s1 wrote c.in_ok-write_and_sync.ensures.durable in
    sees_then g.H.Host.moment g.H.Host.observed s0 s1 s2 S Second
    (sees_weaker g.H.Host.moment g.H.Host.observed s0 s1 First S (seen_behind g.H.Host N f kind a bodies body p files s0 ready is) c.write_and_sync.ensures.moments) c.write_and_sync-2.ensures.moments
    (seen_gate g.H.Host N f kind a bodies body p files s0 ready is s1 c.write_and_sync.ensures.crash stand c.write_and_sync.ensures.said)

pub returns-clause-moments : goal.returns-clause-moments
returns-clause-moments g c files kind bodies body told ready is =
    let N = g.met.H.Host.only_now in
    let f = c.args.file in
    let a = c.args.gate in
    let p = c.args.piece.now in
    let s0 = c.args.host.now in
    let s1 = c.write_and_sync.new.host in
    let s2 = c.write_and_sync-2.new.host in
    let First = TearsOne f (a + 1) (length p) (g.H.Host.may_leave s0) (g.H.Host.said s0) in
    let Second = TearsOne f a 1 (g.H.Host.may_leave s1) (g.H.Host.said s1) in
    let S = Seen g.H.Host N f kind a bodies body p files s0 ready is in
    let wrote = told_put f (a + 1) p (g.H.Host.reads s0) (g.H.Host.reads s1) files told c.in_ok-write_and_sync.ensures.written in
    let stand = staged g.H.Host N f kind a bodies body p files s0 ready is (g.H.Host.reads s1) s1 wrote c.in_ok-write_and_sync.ensures.durable in
    sees_then g.H.Host.moment g.H.Host.observed s0 s1 s2 S Second
    (sees_weaker g.H.Host.moment g.H.Host.observed s0 s1 First S (seen_behind g.H.Host N f kind a bodies body p files s0 ready is) c.write_and_sync.ensures.moments) c.write_and_sync-2.ensures.moments
    (seen_gate g.H.Host N f kind a bodies body p files s0 ready is s1 c.write_and_sync.ensures.crash stand c.write_and_sync.ensures.said)

pub returns-clause-ok : goal.returns-clause-ok
returns-clause-ok g c files kind bodies body told ready is =
    let f = c.args.file in
    let a = c.args.gate in
    let p = c.args.piece.now in
    let s0 = c.args.host.now in
    let s1 = c.write_and_sync.new.host in
    let s2 = c.write_and_sync-2.new.host in
    let r1 = told_put f (a + 1) p (g.H.Host.reads s0) (g.H.Host.reads s1) files told c.in_ok-write_and_sync.ensures.written in
    let r2 = told_put f a (1 ∷ []) (g.H.Host.reads s1) (g.H.Host.reads s2) (put_into f (a + 1) p files) r1 c.in_ok-write_and_sync-2.ensures.written in
    stands g.H.Host g.met.H.Host.only_now f kind a bodies body p files s0 ready is (g.H.Host.reads s2) s2 r2 c.in_ok-write_and_sync-2.ensures.durable (g.H.Host.reads s2) refl

pub returns-in_err-write_and_sync-clause-crash : goal.returns-in_err-write_and_sync-clause-crash
returns-in_err-write_and_sync-clause-crash g c =
    let L = g.H.Host.may_leave in
    let s0 = c.args.host.now in
    left_write c.args.file (L s0) (L s0) (L c.write_and_sync.new.host) (c.args.gate + 1) (length c.args.piece.now) (left_first c.args.file (L s0)) c.write_and_sync.ensures.crash

pub returns-in_err-write_and_sync-2-clause-crash : goal.returns-in_err-write_and_sync-2-clause-crash
returns-in_err-write_and_sync-2-clause-crash g c =
    let L = g.H.Host.may_leave in
    let f = c.args.file in
    let s0 = c.args.host.now in
    let s1 = c.write_and_sync.new.host in
    left_write f (L s0) (L s1) (L c.write_and_sync-2.new.host) c.args.gate 1
    (left_write f (L s0) (L s0) (L s1) (c.args.gate + 1) (length c.args.piece.now) (left_first f (L s0)) c.write_and_sync.ensures.crash) c.write_and_sync-2.ensures.crash

pub returns-clause-crash : goal.returns-clause-crash
returns-clause-crash g c =
    let L = g.H.Host.may_leave in
    let f = c.args.file in
    let s0 = c.args.host.now in
    let s1 = c.write_and_sync.new.host in
    left_write f (L s0) (L s1) (L c.write_and_sync-2.new.host) c.args.gate 1
    (left_write f (L s0) (L s0) (L s1) (c.args.gate + 1) (length c.args.piece.now) (left_first f (L s0)) c.write_and_sync.ensures.crash) c.write_and_sync-2.ensures.crash

pub returns-in_err-write_and_sync-2-clause-files : goal.returns-in_err-write_and_sync-2-clause-files
returns-in_err-write_and_sync-2-clause-files g c =
    let R = g.H.Host.reads in
    told_then c.args.file (R c.args.host.now) (R c.write_and_sync.new.host) (R c.write_and_sync-2.new.host) c.write_and_sync.ensures.files c.write_and_sync-2.ensures.files

pub returns-clause-files : goal.returns-clause-files
returns-clause-files g c =
    let R = g.H.Host.reads in
    told_then c.args.file (R c.args.host.now) (R c.write_and_sync.new.host) (R c.write_and_sync-2.new.host) c.write_and_sync.ensures.files c.write_and_sync-2.ensures.files
