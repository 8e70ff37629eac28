use Rattle.std.proofs.Common.{ℕ, List, ◌++◌, ap, ◌∙◌, arith}
use Rattle.coco_host.specs.Record.{said_of}
use Rattle.coco_host.specs.HostState.{HostState}
use Rattle.coco_host.proofs.Events.{from_those, said_grown, said_files, said_no_more, elapses_to}
use Rattle.coco_host.proofs.memory.MemoryHostHost.say.Goals as goal

pub returns-clause-bytes : goal.returns-clause-bytes
returns-clause-bytes c =
    let is = from_those c.args.self.now.events c.self.inside.past c.say.new.self _ c.in-Ok.ensures.ok (ap (λ (h : HostState). h.events) c.self.view_is) in
    said_grown c.args.self.now.events c.say.new.self _ is ∙ ap (λ (l : List ℕ). said_of c.args.self.now.events ++ l) (grind arith)

pub returns-clause-same : goal.returns-clause-same
returns-clause-same c =
    let is = from_those c.args.self.now.events c.self.inside.past c.say.new.self _ c.in-Ok.ensures.ok (ap (λ (h : HostState). h.events) c.self.view_is) in
    said_files c.args.self.now.events c.say.new.self _ is

pub returns-clause-crash : goal.returns-clause-crash
returns-clause-crash c =
    let is = from_those c.args.self.now.events c.self.inside.past c.say.new.self _ c.in-Ok.ensures.ok (ap (λ (h : HostState). h.events) c.self.view_is) in
    said_no_more c.args.self.now.events c.say.new.self _ is

pub returns-clause-time : goal.returns-clause-time
returns-clause-time c =
    let is = from_those c.args.self.now.events c.self.inside.past c.say.new.self _ c.in-Ok.ensures.ok (ap (λ (h : HostState). h.events) c.self.view_is) in
    elapses_to c.args.self.now.events c.say.new.self _ is
