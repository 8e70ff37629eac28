use Rattle.std.proofs.Common.{◌≡◌, ◌<◌, ◌++◌, ℕ, List, [], refl, ap, sym, ◌∙◌, arith}
use Rattle.std.proofs.lemmas.Bool.{eqb-true}
use Rattle.std.proofs.lemmas.List.{nil_from_length}
use Rattle.coco_audit.specs.Dumping.{text_of}
use Rattle.coco_audit.proofs.DumpLemmas.{some_there}
use Rattle.coco_commands.proofs.SayingLemmas.{ends_between, ends_failed, ends_whole, ends_without, fewer, saying_new, says_piece}
use Rattle.coco_commands.proofs.dumping.say_pieces.Goals as goal

pub pieces-init : goal.pieces-init
pieces-init g c =
    saying_new g.H.Host g.H.Host.say_faults g.H.Host.disk_faults c.args.host.now (text_of c.args.dump)
    g.met.H.Host.only_now c.args.dump refl

pub returns-in-Err : goal.returns-in-Err
returns-in-Err g c =
    ends_between g.H.Host g.H.Host.say_faults g.H.Host.disk_faults c.args.host.now (text_of c.args.dump)
    c.pieces.dump c.pieces.host c.pieces.invariant

pub returns-then-is_empty : goal.returns-then-is_empty
returns-then-is_empty g c =
    let piece = c.next.new.piece in
    let count = eqb-true piece.len 0 (sym c.is_empty.ensures ∙ c.if-is_empty.true) in
    let none : piece.items ≡ [] = nil_from_length piece.items (omega (arith, count, piece.ok.0)) in
    let others : text_of c.next.new.self ≡ [] = ap text_of (c.in-Ok.ensures.end none) in
    ends_whole g.H.Host g.H.Host.say_faults g.H.Host.disk_faults c.args.host.now (text_of c.args.dump)
    c.pieces.dump c.pieces.host c.pieces.invariant (c.in-Ok.ensures.given ∙ ap (λ (p : List ℕ). p ++ text_of c.next.new.self) none ∙ others)

pub returns-in-Err-Failed : goal.returns-in-Err-Failed
returns-in-Err-Failed g c =
    let given = c.in-Ok.ensures.given ∙ ap (λ (p : List ℕ). p ++ text_of c.next.new.self) (sym c.as_slice.ensures.value) in
    let front = c.in-Err-Failed.ensures.err in
    let rose = rw c.in-Err-Failed.field-0-is at c.in-Err-Failed.ensures.counts in
    ends_failed g.H.Host g.H.Host.say_faults g.H.Host.disk_faults c.args.host.now (text_of c.args.dump)
    c.pieces.dump c.pieces.host c.pieces.invariant c.as_slice.result.now c.next.new.self given c.say_all.new.host c.say_all.ensures.same c.say_all.ensures.crash c.say_all.ensures.sees c.say_all.ensures.others
    front.0 front.2 rose

pub returns-in-Err-NoMemory : goal.returns-in-Err-NoMemory
returns-in-Err-NoMemory g c =
    let given = c.in-Ok.ensures.given ∙ ap (λ (p : List ℕ). p ++ text_of c.next.new.self) (sym c.as_slice.ensures.value) in
    let front = c.in-Err-NoMemory.ensures.err in
    ends_without g.H.Host g.H.Host.say_faults g.H.Host.disk_faults c.args.host.now (text_of c.args.dump)
    c.pieces.dump c.pieces.host c.pieces.invariant c.as_slice.result.now c.next.new.self given c.say_all.new.host c.say_all.ensures.same c.say_all.ensures.crash c.say_all.ensures.sees c.say_all.ensures.others
    front.0 front.2

pub pieces-smaller : goal.pieces-smaller
pieces-smaller g c =
    let piece = c.next.new.piece in
    let count : 0 < piece.len = some_there piece.len (sym c.is_empty.ensures ∙ c.if-is_empty.false) in
    fewer (text_of c.pieces.dump) piece.items (text_of c.next.new.self) c.in-Ok.ensures.given (omega (arith, count, piece.ok.0))

pub pieces-preserved : goal.pieces-preserved
pieces-preserved g c =
    let given = c.in-Ok.ensures.given ∙ ap (λ (p : List ℕ). p ++ text_of c.next.new.self) (sym c.as_slice.ensures.value) in
    says_piece g.H.Host g.H.Host.say_faults g.H.Host.disk_faults c.args.host.now (text_of c.args.dump)
    c.pieces.dump c.pieces.host c.pieces.invariant c.as_slice.result.now c.next.new.self given c.say_all.new.host c.say_all.ensures.same c.say_all.ensures.crash c.say_all.ensures.sees c.say_all.ensures.others
    c.in-Ok-say_all.ensures.ok c.in-Ok-say_all.ensures.counts
