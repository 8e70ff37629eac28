use Rattle.std.proofs.Common.{◌≡◌, ℕ, length, None, Some, refl, rules, sym, subst}
use Rattle.std.specs.List.{slice_get}
use Rattle.std.proofs.lemmas.List.Elements.{All-from_recursion}
use Rattle.coco_types.specs.declared.call.Request.{Request}
use Rattle.coco_ast.specs.Fitting.{Fits}
use Rattle.coco_worker.specs.Trying.{IsGated, TriesOut}
use Rattle.coco_worker.specs.Working.{Job}
use Rattle.coco_worker.specs.declared.slot.Slot.{Slot}
use Rattle.coco_worker.proofs.WorkLemmas.{WorkedAt, lands_commit, lands_tail, placed_at, tail_more, the_job, worked_by, works_one}
use Rattle.coco_worker.proofs.ScriptLemmas.{by_ok}
use Rattle.coco_worker.proofs.TryLemmas.{same_worker}
use Rattle.coco_worker.proofs.worker.work_off.Goals as goal

pub try_until-requires-clause-may : goal.try_until-requires-clause-may
try_until-requires-clause-may g c = record {
  fits = subst (λ (r : Request). Fits c.args.procs.now r.call) (sym c.index-requests-place.is)
      (All-from_recursion (λ (r : Request). Fits c.args.procs.now r.call) c.args.requests.now c.requires.fit c.args.place c.index-requests-place.result c.requires.there);
  some = c.requires.some;
  most = c.requires.most;
}

pub keep-requires-clause-may : goal.keep-requires-clause-may
keep-requires-clause-may g c = record { some = search rules; most = search rules; nodes = c.requires.nodes; tables_are = search rules }

pub returns-in-Some-clause-worked : goal.returns-in-Some-clause-worked
returns-in-Some-clause-worked g c =
    let a : Slot = c.args.slot.now in
    let b : Slot = c.try_until.new.slot in
    let d : Slot = c.keep.new.slot in
    let j : Job = the_job c.args.procs.now c.args.requests.now (length c.args.shards.now) a.worker c.args.config (g.N.Net.carries c.args.net.now) in
    let request : Request = c.index-requests-place.result in
    let place : ℕ = c.args.place in
    let time : ℕ = c.in-Some.time in
    let placed : slice_get j.requests place ≡ Some request = placed_at j.requests place request c.requires.there c.index-requests-place.is in
    let out : TriesOut j.procs request place j.partitions j.config.attempts a b c.try_until.new.ends c.try_until.new.room (Some time) =
    subst (TriesOut j.procs request place j.partitions j.config.attempts a b c.try_until.new.ends c.try_until.new.room) c.in-Some.is c.in_ok-time.ensures.tried in
    by_ok {B = WorkedAt j place a d} c.keep.result c.keep.ensures.kept
    (λ kept. (
      worked_by j request place a b d c.try_until.new.ends c.try_until.new.room (Some time) placed refl out,
      out.at,
      works_one j request place a b d c.try_until.new.ends c.try_until.new.room (Some time) placed refl out
          (lands_commit j request place time a b d out.writes c.try_until.new.ends c.in_ok-time.ensures.others c.keep.ensures.others (kept out.tries.last.outcome out.writes out.ended) (same_worker a b c.in_ok-time.ensures.others)),
    ))

pub returns-in-None-clause-worked : goal.returns-in-None-clause-worked
returns-in-None-clause-worked g c =
    let a : Slot = c.args.slot.now in
    let b : Slot = c.try_until.new.slot in
    let d : Slot = record b { tail = c.push.new.self } in
    let j : Job = the_job c.args.procs.now c.args.requests.now (length c.args.shards.now) a.worker c.args.config (g.N.Net.carries c.args.net.now) in
    let request : Request = c.index-requests-place.result in
    let place : ℕ = c.args.place in
    let placed : slice_get j.requests place ≡ Some request = placed_at j.requests place request c.requires.there c.index-requests-place.is in
    let out : TriesOut j.procs request place j.partitions j.config.attempts a b c.try_until.new.ends c.try_until.new.room None =
    subst (TriesOut j.procs request place j.partitions j.config.attempts a b c.try_until.new.ends c.try_until.new.room) c.in-None.is c.in_ok-time.ensures.tried in
    by_ok {B = WorkedAt j place a d} c.push.result c.push.ensures.ok
    (λ pushed. (
      worked_by j request place a b d c.try_until.new.ends c.try_until.new.room None placed refl out,
      out.at,
      works_one j request place a b d c.try_until.new.ends c.try_until.new.room None placed refl out
          (lands_tail j request place a b d out.writes c.try_until.new.ends c.in_ok-time.ensures.others (tail_more b c.push.new.self request c.try_until.new.ends pushed)),
    ))

pub returns-in-Some-clause-gated : goal.returns-in-Some-clause-gated
returns-in-Some-clause-gated g c = by_ok {B = IsGated (g.G.Gate.named c.args.gate.now) c.args.slot.now → IsGated (g.G.Gate.named c.args.gate.now) c.keep.new.slot} c.keep.result c.keep.ensures.kept
    (λ _ is. subst (IsGated (g.G.Gate.named c.args.gate.now)) (sym c.keep.ensures.others) (c.in_ok-time.ensures.gated is))

pub returns-in-None-clause-gated : goal.returns-in-None-clause-gated
returns-in-None-clause-gated g c = by_ok {B = IsGated (g.G.Gate.named c.args.gate.now) c.args.slot.now → IsGated (g.G.Gate.named c.args.gate.now) (record c.try_until.new.slot { tail = c.push.new.self })} c.push.result c.push.ensures.ok
    (λ _. c.in_ok-time.ensures.gated)
