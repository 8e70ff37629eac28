use Rattle.std.proofs.Common.{◌≡◌, ℕ, ◌+◌, List, [], ◌∷◌, ◌++◌, length, refl, sym, ap, subst, ◌∙◌, arith, rules}
use Rattle.coco_ast.specs.Meaning.{run}
use Rattle.coco_pieces.specs.Pieces.{request_pieces}
use Rattle.coco_tail.specs.Running.{FitAll, requests_of}
use Rattle.coco_tail.specs.declared.placed.PlacedRequest.{PlacedRequest}
use Rattle.coco_tail.proofs.ShardLemmas.{keeps_itself, keeps_on}
use Rattle.coco_tail.proofs.TailLemmas.{TailLeft, no_more, tail_begins, tail_dones_all, tail_more, tail_newest_all, tail_pieces_all}
use Rattle.coco_tail.proofs.progress.Progress.run_tail.Goals as goal

pub loop-placed-init : goal.loop-placed-init
loop-placed-init c =
    let all : c.into_iter-placed-iterator.result.rest.items ≡ c.args.tail.items = search rules in
    let self = c.args.self.now in
    record {
      fit = subst (λ (xs : List PlacedRequest). FitAll c.args.procs.now (requests_of xs)) (sym all) c.requires.fit;
      few = ap (λ (xs : List PlacedRequest). c.args.after + length xs) all;
      over = c.requires.over;
      epoch = refl;
      quiet = c.requires.quiet;
      kept = keeps_itself c.args.shards.now c.requires.partitions;
      left = λ m newest. subst (λ (xs : List PlacedRequest). TailLeft c.args.procs.now self.epoch (length c.args.shards.now) m c.args.after c.args.tail.items self.dones.items self.pieces c.args.after xs self.dones.items self.pieces c.args.shards.now)
          (sym all) (tail_begins c.args.procs.now self.epoch (length c.args.shards.now) m c.args.after c.args.tail.items self.dones.items self.pieces c.args.shards.now newest);
    }

pub loop-placed-preserved : goal.loop-placed-preserved
loop-placed-preserved c =
    let before = c.loop-placed.invariant in
    let ran = c.in_ok-run_at.ensures in
    let next = c.in-Some.ensures.steps.0 in
    let r = c.in-Some.placed.request in
    let time : ℕ = c.loop-placed.time + 1 in
    let dones = c.loop-placed.self.dones.items in
    let parts = c.loop-placed.self.pieces in
    record {
      fit = (subst (λ (xs : List PlacedRequest). FitAll c.args.procs.now (requests_of xs)) next before.fit).1;
      few = omega (arith, before.few, ap (λ (xs : List PlacedRequest). length xs) next);
      over = ran.over;
      epoch = ran.epoch ∙ before.epoch;
      quiet = ran.quiet;
      kept = keeps_on c.args.shards.now c.loop-placed.shards c.run_at.new.shards before.kept ran.kept;
      left = λ m newest. tail_more c.args.procs.now c.args.self.now.epoch (length c.args.shards.now) m c.args.after c.args.tail.items c.args.self.now.dones.items c.args.self.now.pieces
          c.loop-placed.time c.in-Some.placed c.next.new.self.rest.items dones c.run_at.new.self.dones.items parts c.run_at.new.self.pieces c.loop-placed.shards c.run_at.new.shards
          (subst (λ (xs : List PlacedRequest). TailLeft c.args.procs.now c.args.self.now.epoch (length c.args.shards.now) m c.args.after c.args.tail.items c.args.self.now.dones.items c.args.self.now.pieces c.loop-placed.time xs dones parts c.loop-placed.shards) next (before.left m newest))
          (λ n have. ran.dones n have ∙ ap (λ (e : ℕ). dones ++ record { id = r.id; call = r.call; epoch = e; time = time; reply = (run c.args.procs.now r.call n).reply } ∷ []) before.epoch)
          (λ n have. ran.pieces n have ∙ ap (λ (k : ℕ). parts ++ request_pieces k c.in-Some.placed.place time (run c.args.procs.now r.call n).writes) before.kept.count)
          ran.newest;
    }

pub returns-clause-dones : goal.returns-clause-dones
returns-clause-dones c m newest =
    let none : c.loop-placed.placed-iterator.rest.items ≡ [] = no_more c.loop-placed.placed-iterator.rest.items (sym c.loop-placed.placed-iterator.rest.ok.0 ∙ c.in-None.ensures.steps.0) in
    let self = c.args.self.now in
    tail_dones_all c.args.procs.now self.epoch (length c.args.shards.now) m c.args.after c.args.tail.items self.dones.items self.pieces c.loop-placed.time c.loop-placed.self.dones.items c.loop-placed.self.pieces c.loop-placed.shards
    (subst (λ (xs : List PlacedRequest). TailLeft c.args.procs.now self.epoch (length c.args.shards.now) m c.args.after c.args.tail.items self.dones.items self.pieces c.loop-placed.time xs c.loop-placed.self.dones.items c.loop-placed.self.pieces c.loop-placed.shards) none (c.loop-placed.invariant.left m newest))

pub returns-clause-pieces : goal.returns-clause-pieces
returns-clause-pieces c m asked newest at =
    let none : c.loop-placed.placed-iterator.rest.items ≡ [] = no_more c.loop-placed.placed-iterator.rest.items (sym c.loop-placed.placed-iterator.rest.ok.0 ∙ c.in-None.ensures.steps.0) in
    let self = c.args.self.now in
    tail_pieces_all c.args.procs.now self.epoch (length c.args.shards.now) m c.args.after c.args.tail.items self.dones.items self.pieces c.loop-placed.time c.loop-placed.self.dones.items c.loop-placed.self.pieces c.loop-placed.shards
    (subst (λ (xs : List PlacedRequest). TailLeft c.args.procs.now self.epoch (length c.args.shards.now) m c.args.after c.args.tail.items self.dones.items self.pieces c.loop-placed.time xs c.loop-placed.self.dones.items c.loop-placed.self.pieces c.loop-placed.shards) none (c.loop-placed.invariant.left m newest))
    asked at

pub returns-clause-newest : goal.returns-clause-newest
returns-clause-newest c m newest =
    let none : c.loop-placed.placed-iterator.rest.items ≡ [] = no_more c.loop-placed.placed-iterator.rest.items (sym c.loop-placed.placed-iterator.rest.ok.0 ∙ c.in-None.ensures.steps.0) in
    let self = c.args.self.now in
    tail_newest_all c.args.procs.now self.epoch (length c.args.shards.now) m c.args.after c.args.tail.items self.dones.items self.pieces c.loop-placed.time c.loop-placed.self.dones.items c.loop-placed.self.pieces c.loop-placed.shards
    (subst (λ (xs : List PlacedRequest). TailLeft c.args.procs.now self.epoch (length c.args.shards.now) m c.args.after c.args.tail.items self.dones.items self.pieces c.loop-placed.time xs c.loop-placed.self.dones.items c.loop-placed.self.pieces c.loop-placed.shards) none (c.loop-placed.invariant.left m newest))
