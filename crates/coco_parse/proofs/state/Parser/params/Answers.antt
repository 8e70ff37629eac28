use Rattle.std.proofs.Common.{[], ◌∷◌, ◌++◌, sym, subst, arith}
use Rattle.coco_parse.specs.Machine.{Params, Named, Listed}
use Rattle.coco_parse.specs.Steps.{Stands, chosen}
use Rattle.coco_parse.proofs.Choices.{chooses_close}
use Rattle.coco_parse.proofs.Steps.{exit_refused, chosen_true, chosen_false, chosen_not}
use Rattle.coco_parse.proofs.state.Parser.params.Goals as goal

pub returns-in_err-closes-clause-reads : goal.returns-in_err-closes-clause-reads
returns-in_err-closes-clause-reads c k s = exit_refused _ _ c.args.self.now _ c.from_residual.ensures.1 (c.in_err-closes.ensures.reads (Params k) (k []) (Named (λ name. Listed (name ∷ []) k)) (chooses_close k) s)

pub loop-more-init : goal.loop-more-init
loop-more-init c = record {
  onward = c.in_ok-closes.ensures.onward;
  reads = λ k s.
      let taken = c.in_ok-closes.ensures.reads (Params k) (k []) (Named (λ name. Listed (name ∷ []) k)) (chooses_close k) s in
      let empty = subst (λ names. Stands c.args.self.now c.takes.new.cursor (chosen c.in_ok-closes.closes (k names) (Named (λ name. Listed (names ++ name ∷ []) k)))) (sym c.new-names.ensures.items) taken in
      chosen_not c.args.self.now c.takes.new.cursor c.in_ok-closes.closes _ _ empty;
}

pub returns-in_err-name-clause-reads : goal.returns-in_err-name-clause-reads
returns-in_err-name-clause-reads c k s =
    let named = chosen_true c.args.self.now c.loop-more.cursor c.loop-more.more _ _ c.loop-more-test.true (c.loop-more.invariant.reads k s) in
    exit_refused _ _ c.args.self.now _ c.from_residual-in_err-name.ensures.1 (c.in_err-name.ensures.reads (λ name. Listed (c.loop-more.names.items ++ name ∷ []) k) named)

pub returns-in_err-more-clause-reads : goal.returns-in_err-more-clause-reads
returns-in_err-more-clause-reads c k s =
    let named = chosen_true c.args.self.now c.loop-more.cursor c.loop-more.more _ _ c.loop-more-test.true (c.loop-more.invariant.reads k s) in
    let listed = c.in_ok-name.ensures.reads (λ name. Listed (c.loop-more.names.items ++ name ∷ []) k) named in
    exit_refused _ _ c.args.self.now _ c.from_residual-in_err-more.ensures.1 (c.in_err-more.ensures.reads (c.loop-more.names.items ++ c.in_ok-name.name ∷ []) k listed)

pub loop-more-preserved : goal.loop-more-preserved
loop-more-preserved c = record {
  onward = let h = c.loop-more.invariant.onward in let i = c.in_ok-name.ensures.onward in let j = c.in_ok-more.ensures.onward in omega arith;
  reads = λ k s.
      let named = chosen_true c.args.self.now c.loop-more.cursor c.loop-more.more _ _ c.loop-more-test.true (c.loop-more.invariant.reads k s) in
      let listed = c.in_ok-name.ensures.reads (λ name. Listed (c.loop-more.names.items ++ name ∷ []) k) named in
      let next = c.in_ok-more.ensures.reads (c.loop-more.names.items ++ c.in_ok-name.name ∷ []) k listed in
      subst (λ names. Stands c.args.self.now c.has_more.new.cursor (chosen c.in_ok-more.more (Named (λ name. Listed (names ++ name ∷ []) k)) (k names))) (sym c.in_ok-push.ensures.items) next;
}

pub returns-clause-reads : goal.returns-clause-reads
returns-clause-reads c k s = chosen_false c.args.self.now c.loop-more.cursor c.loop-more.more _ _ c.loop-more-test.false (c.loop-more.invariant.reads k s)
