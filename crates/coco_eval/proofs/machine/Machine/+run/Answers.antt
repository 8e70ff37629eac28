use Rattle.std.proofs.Common.{rules, ◌≡◌, true, inl, inr, ◌-◌, ◌*◌, [], ◌∷◌, List, reverse, ap, sym, subst, ◌∙◌, arith}
use Rattle.coco_ast.specs.Checks.{key_weight}
use Rattle.coco_ast.specs.Tree.{Get, Put, Repeat}
use Rattle.coco_ast.specs.Plans.{name_at, depth}
use Rattle.coco_eval.specs.Planned.{expression_by, place_by, statement_by, statements_by}
use Rattle.coco_ast.specs.declared.plan.PlanStep.{PlanStep, the_lemmas}
use Rattle.coco_eval.specs.Moves.{kept_of, MovesBlock, MovesTurns, on_way}
use Rattle.coco_eval.specs.Places.{goes_on, goes_on_repeat, weight_repeat, turns, runs, from, weight_on}
use Rattle.coco_eval.specs.declared.machine.Stop.{Stop}
use Rattle.coco_eval.specs.declared.machine.Stop.TheVariants as stop
use Rattle.coco_eval.specs.declared.machine.Way.TheVariants as way
use Rattle.coco_eval.proofs.RunLemmas.{is_at, room_at, room_behind, gone, ended, asked, since, led_on, fresh_led, through, through_first, settled_put, got, is_plain, plain, repeated, room_turn, counted, turned, turn_stops}
use Rattle.coco_eval.proofs.machine.Machine.+run.Goals as goal

pub fresh-returns-in-Put : goal.fresh-returns-in-Put
fresh-returns-in-Put t c =
    let is : statement_by c.args.plan.now c.args.statement.now ≡ Put (place_by c.args.plan.now c.in-Put.spot) (expression_by c.args.plan.now c.in-Put.value) = rw c.in-Put.is (search (rules, the_lemmas)) in
    settled_put c.put.result c.args.tables.now (statement_by c.args.plan.now c.args.statement.now) _ _ way.Fresh [] c.args.self.now c.put.new.self is c.requires.room.path c.put.ensures

pub fresh-returns-in-Repeat : goal.fresh-returns-in-Repeat
fresh-returns-in-Repeat t c =
    let is : statement_by c.args.plan.now c.args.statement.now ≡ Repeat c.in-Repeat.bound (name_at c.args.plan.now.names c.in-Repeat.slot) (statements_by c.args.plan.now c.in-Repeat.block.items) = rw c.in-Repeat.is (search (rules, the_lemmas)) in
    let block = c.deref-in-Repeat.result.now in
    repeated c.repeat.result c.args.tables.now (statement_by c.args.plan.now c.args.statement.now) c.in-Repeat.bound (name_at c.args.plan.now.names c.in-Repeat.slot) (statements_by c.args.plan.now block) way.Fresh [] c.args.self.now c.repeat.new.self
    (is ∙ ap (λ (ss : List PlanStep). Repeat c.in-Repeat.bound (name_at c.args.plan.now.names c.in-Repeat.slot) (statements_by c.args.plan.now ss)) (sym c.deref-in-Repeat.ensures.value)) c.repeat.ensures

pub fresh-returns-in-Get : goal.fresh-returns-in-Get
fresh-returns-in-Get t c =
    let is : statement_by c.args.plan.now c.args.statement.now ≡ Get (name_at c.args.plan.now.names c.in-Get.slot) (place_by c.args.plan.now c.in-Get.spot) = rw c.in-Get.is (search (rules, the_lemmas)) in
    got c.ask.result c.args.tables.now (statement_by c.args.plan.now c.args.statement.now) (name_at c.args.plan.now.names c.in-Get.slot) (place_by c.args.plan.now c.in-Get.spot) c.args.self.now c.ask.new.self is c.ask.ensures

pub statement-returns-in-Let : goal.statement-returns-in-Let
statement-returns-in-Let t c =
    let alone : is_plain (statement_by c.args.plan.now c.args.statement.now) ≡ true = elim c.in-Let.is [
      | inl w ↦ rw w.2 (search (rules, the_lemmas))
      | inr u ↦ elim u [
        | inl w ↦ rw w.2 (search (rules, the_lemmas))
        | inr v ↦ elim v [
          | inl w ↦ rw w.1 (search (rules, the_lemmas))
          | inr k ↦ elim k [
            | inl w ↦ rw w.1 (search (rules, the_lemmas))
            | inr w ↦ rw w.1 (search (rules, the_lemmas))
          ]
        ]
      ]
    ] in
    plain c.fresh.result c.args.tables.now (statement_by c.args.plan.now c.args.statement.now) c.args.way (reverse c.args.inner.now) c.args.self.now c.fresh.new.self alone c.fresh.ensures

pub statement-returns-in-Repeat : goal.statement-returns-in-Repeat
statement-returns-in-Repeat t c =
    let is : statement_by c.args.plan.now c.args.statement.now ≡ Repeat c.in-Repeat.bound (name_at c.args.plan.now.names c.in-Repeat.slot) (statements_by c.args.plan.now c.in-Repeat.block.items) = rw c.in-Repeat.is (search (rules, the_lemmas)) in
    let block = c.deref-in-Repeat.result.now in
    repeated c.repeat.result c.args.tables.now (statement_by c.args.plan.now c.args.statement.now) c.in-Repeat.bound (name_at c.args.plan.now.names c.in-Repeat.slot) (statements_by c.args.plan.now block) c.args.way (reverse c.args.inner.now) c.args.self.now c.repeat.new.self
    (is ∙ ap (λ (ss : List PlanStep). Repeat c.in-Repeat.bound (name_at c.args.plan.now.names c.in-Repeat.slot) (statements_by c.args.plan.now ss)) (sym c.deref-in-Repeat.ensures.value)) c.repeat.ensures

pub within-returns-then-frame-block : goal.within-returns-then-frame-block
within-returns-then-frame-block t c = through_first c.args.tables.now c.args.plan.now c.args.block.now c.args.frame (reverse c.args.inner.now) c.args.self.now c.if-frame-block.true c.requires.room.path

pub within-statement-requires : goal.within-statement-requires
within-statement-requires t c =
    let at = is_at c.args.plan.now c.args.block.now c.args.frame.at c.index-block-frame.result c.if-frame-block.false c.index-block-frame.is in (
      search (rules, the_lemmas),
      (
        c.requires.tables,
        (
          at.bounded c.requires.bounded,
          room_at c.args.plan.now.names c.args.frame.at (statements_by c.args.plan.now c.args.block.now) (statement_by c.args.plan.now c.index-block-frame.result) c.args.frame.way (reverse c.args.inner.now) c.args.self.now at c.requires.room,
        ),
      ),
    )

pub within-behind-requires : goal.within-behind-requires
within-behind-requires t c =
    let at = is_at c.args.plan.now c.args.block.now c.args.frame.at c.index-block-frame.result c.if-frame-block.false c.index-block-frame.is in let b = statements_by c.args.plan.now c.args.block.now in (
      search (rules, the_lemmas),
      (
        c.requires.tables,
        (
          c.requires.bounded,
          (
            omega (arith, c.if-frame-block.false),
            room_behind c.args.plan.now.names _ _ _ _ (depth b) c.args.self.now c.statement.new.self
                (gone c.args.tables.now c.args.frame.at b (statement_by c.args.plan.now c.index-block-frame.result) c.args.frame.way (reverse c.args.inner.now) c.args.self.now c.statement.new.self at c.in-Goes.ensures)
                c.in-Goes.ensures.reaches.1 c.requires.room,
          ),
        ),
      ),
    )

pub within-stand-requires : goal.within-stand-requires
within-stand-requires t c =
    let at = is_at c.args.plan.now c.args.block.now c.args.frame.at c.index-block-frame.result c.if-frame-block.false c.index-block-frame.is in
    omega (arith, at.deep, c.in-Asks.ensures.within, c.in-Asks.ensures.path_room, c.requires.room.path_room)

pub within-returns-in-Goes : goal.within-returns-in-Goes
within-returns-in-Goes t c =
    let at = is_at c.args.plan.now c.args.block.now c.args.frame.at c.index-block-frame.result c.if-frame-block.false c.index-block-frame.is in let b = statements_by c.args.plan.now c.args.block.now in let ts = c.args.tables.now in
    since c.behind.result _ _ (λ w fs m. goes_on m ts fs b) _ _ (λ w fs. weight_on fs b) (depth b) c.args.self.now c.statement.new.self c.behind.new.self
    (gone ts c.args.frame.at b (statement_by c.args.plan.now c.index-block-frame.result) c.args.frame.way (reverse c.args.inner.now) c.args.self.now c.statement.new.self at c.in-Goes.ensures) c.behind.ensures

pub within-returns-in-Asks : goal.within-returns-in-Asks
within-returns-in-Asks t c =
    let at = is_at c.args.plan.now c.args.block.now c.args.frame.at c.index-block-frame.result c.if-frame-block.false c.index-block-frame.is in let b = statements_by c.args.plan.now c.args.block.now in let ts = c.args.tables.now in
    let f = c.args.frame in let fs = reverse c.args.inner.now in
    subst (λ (s : Stop). MovesBlock s ts b (λ m. goes_on m ts (f ∷ fs) b (kept_of c.args.self.now)) (weight_on (f ∷ fs) b) c.args.self.now c.stand.new.self) (sym c.stand.ensures.stop)
    (asked ts f.at b (statement_by c.args.plan.now c.index-block-frame.result) c.in-Asks.way f.way fs c.args.self.now c.statement.new.self c.stand.new.self at c.in-Asks.ensures
    (record { path = c.stand.ensures.path; room = c.stand.ensures.room; others = c.stand.ensures.others }))

pub within-returns-in-Ends : goal.within-returns-in-Ends
within-returns-in-Ends t c =
    let at = is_at c.args.plan.now c.args.block.now c.args.frame.at c.index-block-frame.result c.if-frame-block.false c.index-block-frame.is in
    ended c.args.tables.now c.args.frame.at (statements_by c.args.plan.now c.args.block.now) (statement_by c.args.plan.now c.index-block-frame.result) c.args.frame.way (reverse c.args.inner.now) c.args.self.now c.statement.new.self at c.in-Ends.ensures

pub behind-fresh-requires : goal.behind-fresh-requires
behind-fresh-requires t c =
    let at = is_at c.args.plan.now c.args.block.now c.loop-at.at c.index-block-at.result c.loop-at-test.true c.index-block-at.is in let b = statements_by c.args.plan.now c.args.block.now in let ts = c.args.tables.now in (
      search (rules, the_lemmas),
      (
        c.requires.tables,
        (
          at.bounded c.requires.bounded,
          room_at c.args.plan.now.names c.loop-at.at b (statement_by c.args.plan.now c.index-block-at.result) way.Fresh [] c.loop-at.self at
              (room_behind c.args.plan.now.names _ _ _ _ (depth b) c.args.self.now c.loop-at.self (fresh_led _ ts (from c.loop-at.at b) _ c.args.self.now c.loop-at.self c.loop-at.invariant.led) c.loop-at.invariant.path c.requires.room),
        ),
      ),
    )

pub behind-stand-requires : goal.behind-stand-requires
behind-stand-requires t c =
    let at = is_at c.args.plan.now c.args.block.now c.loop-at.at c.index-block-at.result c.loop-at-test.true c.index-block-at.is in
    omega (arith, at.deep, c.in-Asks.ensures.within, c.in-Asks.ensures.path_room, c.loop-at.invariant.led.path_room, c.requires.room.path_room)

pub behind-returns-in-Asks : goal.behind-returns-in-Asks
behind-returns-in-Asks t c =
    let at = is_at c.args.plan.now c.args.block.now c.loop-at.at c.index-block-at.result c.loop-at-test.true c.index-block-at.is in let b = statements_by c.args.plan.now c.args.block.now in let ts = c.args.tables.now in
    subst (λ (s : Stop). MovesBlock s ts b (λ m. runs m ts (from c.args.first b) (kept_of c.args.self.now)) (key_weight (from c.args.first b)) c.args.self.now c.stand.new.self) (sym c.stand.ensures.stop)
    (since (stop.Asks c.in-Asks.way) _ _ (λ w fs m. goes_on m ts fs b) _ _ (λ w fs. weight_on fs b) (depth b) c.args.self.now c.loop-at.self c.stand.new.self
    (fresh_led _ ts (from c.loop-at.at b) _ c.args.self.now c.loop-at.self c.loop-at.invariant.led)
    (asked ts c.loop-at.at b (statement_by c.args.plan.now c.index-block-at.result) c.in-Asks.way way.Fresh [] c.loop-at.self c.fresh.new.self c.stand.new.self at c.in-Asks.ensures
    (record { path = c.stand.ensures.path; room = c.stand.ensures.room; others = c.stand.ensures.others })))

pub behind-returns-in-Ends : goal.behind-returns-in-Ends
behind-returns-in-Ends t c =
    let at = is_at c.args.plan.now c.args.block.now c.loop-at.at c.index-block-at.result c.loop-at-test.true c.index-block-at.is in let b = statements_by c.args.plan.now c.args.block.now in let ts = c.args.tables.now in
    since stop.Ends _ _ (λ w fs m. goes_on m ts fs b) _ _ (λ w fs. weight_on fs b) (depth b) c.args.self.now c.loop-at.self c.fresh.new.self
    (fresh_led _ ts (from c.loop-at.at b) _ c.args.self.now c.loop-at.self c.loop-at.invariant.led)
    (ended ts c.loop-at.at b (statement_by c.args.plan.now c.index-block-at.result) way.Fresh [] c.loop-at.self c.fresh.new.self at c.in-Ends.ensures)

pub behind-loop-at-preserved : goal.behind-loop-at-preserved
behind-loop-at-preserved t c =
    let at = is_at c.args.plan.now c.args.block.now c.loop-at.at c.index-block-at.result c.loop-at-test.true c.index-block-at.is in let b = statements_by c.args.plan.now c.args.block.now in let ts = c.args.tables.now in
    record {
      path = c.in-Goes.ensures.reaches.1;
      led = led_on _ _ _ _ _ _ c.args.self.now c.loop-at.self c.fresh.new.self (fresh_led _ ts (from c.loop-at.at b) _ c.args.self.now c.loop-at.self c.loop-at.invariant.led)
          (gone ts c.loop-at.at b (statement_by c.args.plan.now c.index-block-at.result) way.Fresh [] c.loop-at.self c.fresh.new.self at c.in-Goes.ensures);
    }

pub behind-returns : goal.behind-returns
behind-returns t c = through c.args.tables.now c.args.plan.now c.args.block.now c.loop-at.at _ _ c.args.self.now c.loop-at.self c.loop-at-test.false c.loop-at.invariant.led c.loop-at.invariant.path

pub turns-block-requires : goal.turns-block-requires
turns-block-requires t c =
    let b = statements_by c.args.plan.now c.args.block.now in (
      search (rules, the_lemmas),
      (
        c.requires.tables,
        (
          c.requires.bounded,
          room_turn c.args.plan.now.names (key_weight b) (depth b) (name_at c.args.plan.now.names c.args.slot) c.args.bound c.loop-turn.turn c.loop-turn.self c.count.new.self c.loop-turn-test.true (counted c.args.plan.now.names c.args.slot c.loop-turn.turn c.loop-turn.self c.count.new.self (c.loop-turn.invariant.led.names ∙ c.requires.room.names) c.count.ensures.kept c.count.ensures.names c.count.ensures.others)
              (room_behind c.args.plan.now.names _ _ _ _ (depth b) c.args.self.now c.loop-turn.self c.loop-turn.invariant.led c.loop-turn.invariant.path c.requires.room),
        ),
      ),
    )

pub turns-returns-in_default : goal.turns-returns-in_default
turns-returns-in_default t c =
    let b = statements_by c.args.plan.now c.args.block.now in let ts = c.args.tables.now in let x = (name_at c.args.plan.now.names c.args.slot) in let n = c.args.bound in let i = c.loop-turn.turn in
    subst (λ (s : Stop). MovesTurns s ts n x b (λ m. turns (runs m ts b) x (n - c.args.first) c.args.first (kept_of c.args.self.now)) ((n - c.args.first) * key_weight b) c.args.self.now c.block.new.self) (sym c.on_way.ensures)
    (since (on_way c.block.result (way.Turn i)) _ _ (λ w fs m. goes_on_repeat w (goes_on m ts fs) (runs m ts) n x b) _ _ (λ w fs. weight_repeat w (weight_on fs) n b) (depth b) c.args.self.now c.loop-turn.self c.block.new.self c.loop-turn.invariant.led
    (turn_stops c.block.result c.in_default.not-Goes ts b x n i c.loop-turn.self c.count.new.self c.block.new.self c.loop-turn-test.true (counted c.args.plan.now.names c.args.slot c.loop-turn.turn c.loop-turn.self c.count.new.self (c.loop-turn.invariant.led.names ∙ c.requires.room.names) c.count.ensures.kept c.count.ensures.names c.count.ensures.others) c.block.ensures))

pub turns-loop-turn-preserved : goal.turns-loop-turn-preserved
turns-loop-turn-preserved t c =
    let b = statements_by c.args.plan.now c.args.block.now in let ts = c.args.tables.now in
    record {
      path = c.in-Goes.ensures.reaches.1;
      led = led_on _ _ _ _ _ _ c.args.self.now c.loop-turn.self c.block.new.self c.loop-turn.invariant.led
          (turned ts b (name_at c.args.plan.now.names c.args.slot) c.args.bound c.loop-turn.turn c.loop-turn.self c.count.new.self c.block.new.self c.loop-turn-test.true (counted c.args.plan.now.names c.args.slot c.loop-turn.turn c.loop-turn.self c.count.new.self (c.loop-turn.invariant.led.names ∙ c.requires.room.names) c.count.ensures.kept c.count.ensures.names c.count.ensures.others) c.in-Goes.ensures);
    }
