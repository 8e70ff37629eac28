use Rattle.std.proofs.Common.{◌≡◌, length, refl, sym, subst}
use Rattle.coco_host.specs.Files.{Become, IsDurable, put_into}
use Rattle.coco_log.proofs.Appends.{tears_first, tears_on}
use Rattle.coco_log.proofs.Others.{told_first, told_write, told_torn, told_sync}
use Rattle.coco_log.proofs.writing.write_and_sync.Goals as goal

pub returns-in_err-write_at-clause-moments : goal.returns-in_err-write_at-clause-moments
returns-in_err-write_at-clause-moments g c =
    let N = g.met.H.Host.only_now in
    let n = length c.args.bytes.now in
    let s0 = c.args.host.now in
    tears_on g.H.Host N c.args.file c.args.at n s0 s0 c.write_at.new.self (tears_first g.H.Host N c.args.file c.args.at n s0) refl c.write_at.ensures.said c.write_at.ensures.time c.write_at.ensures.crash

pub returns-in_err-sync-clause-moments : goal.returns-in_err-sync-clause-moments
returns-in_err-sync-clause-moments g c =
    let N = g.met.H.Host.only_now in
    let n = length c.args.bytes.now in
    let s0 = c.args.host.now in
    let s1 = c.write_at.new.self in
    let first = tears_on g.H.Host N c.args.file c.args.at n s0 s0 s1 (tears_first g.H.Host N c.args.file c.args.at n s0) refl c.write_at.ensures.said c.write_at.ensures.time c.write_at.ensures.crash in
    tears_on g.H.Host N c.args.file c.args.at n s0 s1 c.sync.new.self first c.write_at.ensures.said c.sync.ensures.said c.sync.ensures.time (λ x left. c.write_at.ensures.crash x (c.sync.ensures.crash x left))

pub returns-clause-moments : goal.returns-clause-moments
returns-clause-moments g c =
    let N = g.met.H.Host.only_now in
    let n = length c.args.bytes.now in
    let s0 = c.args.host.now in
    let s1 = c.write_at.new.self in
    let first = tears_on g.H.Host N c.args.file c.args.at n s0 s0 s1 (tears_first g.H.Host N c.args.file c.args.at n s0) refl c.write_at.ensures.said c.write_at.ensures.time c.write_at.ensures.crash in
    tears_on g.H.Host N c.args.file c.args.at n s0 s1 c.sync.new.self first c.write_at.ensures.said c.sync.ensures.said c.sync.ensures.time (λ x left. c.write_at.ensures.crash x (c.sync.ensures.crash x left))

pub returns-clause-written : goal.returns-clause-written
returns-clause-written g c =
    subst (Become (λ old new. new ≡ put_into c.args.file c.args.at c.args.bytes.now old) (g.H.Host.reads c.args.host.now)) (sym c.sync.ensures.same) c.in_ok-write_at.ensures.written

pub returns-clause-durable : goal.returns-clause-durable
returns-clause-durable g c =
    subst (λ reads. IsDurable c.args.file reads (g.H.Host.may_leave c.sync.new.self)) (sym c.sync.ensures.same) c.in_ok-sync.ensures.durable

pub returns-in_err-sync-clause-crash : goal.returns-in_err-sync-clause-crash
returns-in_err-sync-clause-crash g c x left = c.write_at.ensures.crash x (c.sync.ensures.crash x left)

pub returns-clause-crash : goal.returns-clause-crash
returns-clause-crash g c x left = c.write_at.ensures.crash x (c.sync.ensures.crash x left)

pub returns-in_err-write_at-clause-files : goal.returns-in_err-write_at-clause-files
returns-in_err-write_at-clause-files g c =
    let R = g.H.Host.reads in
    let s0 = c.args.host.now in
    told_torn c.args.file (R s0) (R s0) (R c.write_at.new.self) c.args.at (length c.args.bytes.now) (told_first c.args.file (R s0)) c.in_err-write_at.ensures.refused

pub returns-in_err-sync-clause-files : goal.returns-in_err-sync-clause-files
returns-in_err-sync-clause-files g c =
    let R = g.H.Host.reads in
    let f = c.args.file in
    let s0 = c.args.host.now in
    let s1 = c.write_at.new.self in
    told_sync f (R s0) (R s1) (R c.sync.new.self) (told_write f (R s0) (R s0) (R s1) c.args.at c.args.bytes.now (told_first f (R s0)) c.in_ok-write_at.ensures.written) c.sync.ensures.same

pub returns-clause-files : goal.returns-clause-files
returns-clause-files g c =
    let R = g.H.Host.reads in
    let f = c.args.file in
    let s0 = c.args.host.now in
    let s1 = c.write_at.new.self in
    told_sync f (R s0) (R s1) (R c.sync.new.self) (told_write f (R s0) (R s0) (R s1) c.args.at c.args.bytes.now (told_first f (R s0)) c.in_ok-write_at.ensures.written) c.sync.ensures.same
