-- How what a statement of a block has come to makes what the block comes to.
use Rattle.std.proofs.Common.{◌≡◌, ℕ, zero, suc, ◌+◌, ◌-◌, ◌*◌, ◌<◌, ◌≤◌, Bool, true, false, ◌&&◌, List, [], ◌∷◌, ◌++◌, length, drop, get_or, reverse, refl, ap, sym, ◌∙◌, arith, subst, length-append, Some, pos, Vec, Global}
use Rattle.std.specs.Prelude.{vec_capacity}
use Rattle.std.proofs.lemmas.List.{reverse-append}
use Rattle.coco_types.specs.declared.value.Value.TheVariants.{Int}
use Rattle.coco_ast.specs.Checks.{key_weight, statement_weight}
use Rattle.coco_ast.specs.Keyed.{Rows, value_at}
use Rattle.coco_ast.specs.Meaning.{value_of, key_of}
use Rattle.coco_ast.specs.Tree.{Expression, RowPlace, Statement, Let, Get, Put, Delete, If, IfElse, Repeat, Refuse, Reply, Statements, End, Then}
use Rattle.coco_ast.specs.Plans.{name_at, depth_one, depth}
use Rattle.coco_ast.specs.declared.plan.Plan.{Plan}
use Rattle.coco_ast.specs.declared.plan.PlanStep.{PlanStep}
use Rattle.coco_eval.specs.Moves.{named, kept_of, Ahead, Moves, MovesBlock, MovesGet, MovesOne, MovesTurns, Settles, HasRoom, on_way}
use Rattle.coco_eval.specs.Planned.{statement_by, statements_by}
use Rattle.coco_eval.specs.Places.{Kept, Onward, Goes, behind, with, with_given, with_variable, with_write, turns, runs_one, runs, from, goes_on_first, goes_on_one, goes_on_repeat, goes_on, weight_first, weight_one, weight_repeat, weight_on, are_bounded_in, are_bounded}
use Rattle.coco_eval.specs.declared.machine.Frame.{Frame}
use Rattle.coco_eval.specs.declared.machine.Machine.{Machine}
use Rattle.coco_eval.specs.declared.machine.Stop.{Stop}
use Rattle.coco_eval.specs.declared.machine.Stop.TheVariants as stop
use Rattle.coco_eval.specs.declared.machine.Way.{Way}
use Rattle.coco_eval.specs.declared.machine.Way.TheVariants as way
use Rattle.coco_eval.proofs.SlotLemmas.{drop_first}

-- ---- the statements of a block

from-statements_by : (plan : Plan) (n : ℕ) (ss : List PlanStep) → from n (statements_by plan ss) ≡ statements_by plan (drop n ss)
from-statements_by plan zero ss = refl
from-statements_by plan (suc n) [] = refl
from-statements_by plan (suc n) (s ∷ ss) = from-statements_by plan n ss

pub first_at : (plan : Plan) (ss : List PlanStep) (n : ℕ) (s : PlanStep) → n < length ss → s ≡ get_or ss n s → from n (statements_by plan ss) ≡ Then (statement_by plan s) (from (n + 1) (statements_by plan ss))
first_at plan ss n s lt is = from-statements_by plan n ss ∙ ap (statements_by plan) (drop_first ss n s lt) ∙ ap (λ (t : PlanStep). Then (statement_by plan t) (statements_by plan (drop (n + 1) ss))) (sym is)
    ∙ ap (Then (statement_by plan s)) (sym (from-statements_by plan (n + 1) ss))

pub from-end : (plan : Plan) (ss : List PlanStep) (n : ℕ) → length ss ≤ n → from n (statements_by plan ss) ≡ End
from-end plan [] zero le = refl
from-end plan [] (suc n) le = refl
from-end plan (s ∷ ss) zero le = absurd (omega arith)
from-end plan (s ∷ ss) (suc n) le = from-end plan ss n (omega arith)

both : (a b : Bool) → (a && b) ≡ true → (a ≡ true) × (b ≡ true)
both true b h = (refl, h)
both false b h = cc

bounded_from : (n : ℕ) (b : Statements) → are_bounded b ≡ true → are_bounded (from n b) ≡ true
bounded_from zero b h = h
bounded_from (suc n) End h = refl
bounded_from (suc n) (Then s r) h = bounded_from n r (both (are_bounded_in s) (are_bounded r) h).1

depth_from : (n : ℕ) (b : Statements) → depth (from n b) ≤ depth b
depth_from zero b = omega arith
depth_from (suc n) End = omega arith
depth_from (suc n) (Then s r) = omega (arith, depth_from n r)

-- the statement at a place of a block, and those behind it
pub record IsAt (n : ℕ) (b : Statements) (s : Statement) : Type 0 where
  pub split : from n b ≡ Then s (from (n + 1) b)
  pub bounded : are_bounded b ≡ true → are_bounded_in s ≡ true
  pub deep : suc (depth_one s) ≤ depth b

pub is_at : (plan : Plan) (ss : List PlanStep) (n : ℕ) (s : PlanStep) → n < length ss → s ≡ get_or ss n s → IsAt n (statements_by plan ss) (statement_by plan s)
is_at plan ss n s lt is =
    let b = statements_by plan ss in let split = first_at plan ss n s lt is in
    record {
      split = split;
      bounded = λ h. (both _ _ (rw split at (bounded_from n b h))).0;
      deep = omega (arith, rw split at (depth_from n b));
    }

-- ---- from the start

fresh_one : (m : Rows) (ts : List (List ℕ)) (s : Statement) (c : Kept) → goes_on_one m ts way.Fresh (goes_on m ts []) s c ≡ runs_one m ts s c
fresh_one m ts (Let x e) c = refl
fresh_one m ts (Get x p) c = refl
fresh_one m ts (Put p e) c = refl
fresh_one m ts (Delete p) c = refl
fresh_one m ts (If e b) c = refl
fresh_one m ts (IfElse e b d) c = refl
fresh_one m ts (Repeat n x b) c = refl
fresh_one m ts (Refuse n) c = refl
fresh_one m ts (Reply e) c = refl

pub fresh_weight : (s : Statement) → weight_one way.Fresh (weight_on []) s ≡ statement_weight s
fresh_weight (Let x e) = refl
fresh_weight (Get x p) = refl
fresh_weight (Put p e) = refl
fresh_weight (Delete p) = refl
fresh_weight (If e b) = omega arith
fresh_weight (IfElse e b d) = refl
fresh_weight (Repeat n x b) = refl
fresh_weight (Refuse n) = refl
fresh_weight (Reply e) = refl

pub fresh_first : (m : Rows) (ts : List (List ℕ)) (b : Statements) (c : Kept) → runs m ts b c ≡ goes_on_first m ts way.Fresh (goes_on m ts []) b c
fresh_first m ts End c = refl
fresh_first m ts (Then s r) c = ap (λ (o : Onward). behind o (λ d. runs m ts r d)) (sym (fresh_one m ts s c))

pub fresh_first_weight : (b : Statements) → key_weight b ≡ weight_first way.Fresh (weight_on []) b
fresh_first_weight End = refl
fresh_first_weight (Then s r) = ap (λ (w : ℕ). w + key_weight r) (sym (fresh_weight s))

-- ---- parts

-- what comes to the same with what was led to before, and weighs no more with what was written before
pub record IsLed (part later : Rows → Onward) (weight later_weight : ℕ) (old mid : Machine) : Type 0 where
  pub same : (m : Rows) → part m ≡ later m
  pub spends : length mid.writes.items + later_weight ≤ length old.writes.items + weight
  pub given : mid.given ≡ old.given
  pub names : named mid ≡ named old
  pub writes_room : vec_capacity old.writes ≤ vec_capacity mid.writes
  pub path_room : vec_capacity old.path ≤ vec_capacity mid.path

pub since : (s : Stop) (part later : Rows → Onward) (ahead : Ahead) (weight later_weight : ℕ) (weights : Way → List Frame → ℕ) (deep : ℕ) (old mid new : Machine)
    → IsLed part later weight later_weight old mid → Moves s later ahead later_weight weights deep mid new → Moves s part ahead weight weights deep old new
since stop.Goes part later ahead weight lw weights deep old mid new led to = record {
  reaches = ((λ m. led.same m ∙ to.reaches.0 m), to.reaches.1);
  spends = omega (arith, led.spends, to.spends);
  within = to.within;
  given = to.given ∙ led.given;
  names = to.names ∙ led.names;
  writes_room = omega (arith, led.writes_room, to.writes_room);
  path_room = omega (arith, led.path_room, to.path_room);
}
since stop.Ends part later ahead weight lw weights deep old mid new led to = record {
  reaches = λ m. led.same m ∙ to.reaches m;
  spends = omega (arith, led.spends, to.spends);
  within = to.within;
  given = to.given ∙ led.given;
  names = to.names ∙ led.names;
  writes_room = omega (arith, led.writes_room, to.writes_room);
  path_room = omega (arith, led.path_room, to.path_room);
}
since (stop.Asks w) part later ahead weight lw weights deep old mid new led to = record {
  reaches = λ m. led.same m ∙ to.reaches m;
  spends = omega (arith, led.spends, to.spends);
  within = to.within;
  given = to.given ∙ led.given;
  names = to.names ∙ led.names;
  writes_room = omega (arith, led.writes_room, to.writes_room);
  path_room = omega (arith, led.path_room, to.path_room);
}

pub led_on : (p q r : Rows → Onward) (w v u : ℕ) (a b c : Machine) → IsLed p q w v a b → IsLed q r v u b c → IsLed p r w u a c
led_on p q r w v u a b c first second = record {
  same = λ m. first.same m ∙ second.same m;
  spends = omega (arith, first.spends, second.spends);
  given = second.given ∙ first.given;
  names = second.names ∙ first.names;
  writes_room = omega (arith, first.writes_room, second.writes_room);
  path_room = omega (arith, first.path_room, second.path_room);
}

pub fresh_led : (p : Rows → Onward) (ts : List (List ℕ)) (b : Statements) (w : ℕ) (old mid : Machine) → IsLed p (λ m. runs m ts b (kept_of mid)) w (key_weight b) old mid
    → IsLed p (λ m. goes_on_first m ts way.Fresh (goes_on m ts []) b (kept_of mid)) w (weight_first way.Fresh (weight_on []) b) old mid
fresh_led p ts b w old mid led = record {
  same = λ m. led.same m ∙ fresh_first m ts b (kept_of mid);
  spends = omega (arith, led.spends, fresh_first_weight b);
  given = led.given;
  names = led.names;
  writes_room = led.writes_room;
  path_room = led.path_room;
}

-- room for a block is room for the statement at a place of it
pub room_at : (ns : List (List ℕ)) (n : ℕ) (b : Statements) (s : Statement) (w : Way) (fs : List Frame) (m : Machine) → IsAt n b s → HasRoom ns (weight_first w (weight_on fs) (from n b)) (depth b) m → HasRoom ns (weight_one w (weight_on fs) s) (depth_one s) m
room_at ns n b s w fs m at room =
    let weight : weight_first w (weight_on fs) (from n b) ≡ weight_one w (weight_on fs) s + key_weight (from (n + 1) b) = ap (weight_first w (weight_on fs)) at.split in
    record {
      names = room.names;
      path = room.path;
      path_room = omega (arith, room.path_room, at.deep);
      writes = omega (arith, room.writes, weight);
      writes_room = room.writes_room;
    }

-- the statement at a place has gone, and those behind it come
pub gone : (ts : List (List ℕ)) (n : ℕ) (b : Statements) (s : Statement) (w : Way) (fs : List Frame) (old mid : Machine) → IsAt n b s → MovesOne stop.Goes ts s w fs old mid
    → IsLed (λ m. goes_on_first m ts w (goes_on m ts fs) (from n b) (kept_of old)) (λ m. runs m ts (from (n + 1) b) (kept_of mid)) (weight_first w (weight_on fs) (from n b)) (key_weight (from (n + 1) b)) old mid
gone ts n b s w fs old mid at to =
    let weight : weight_first w (weight_on fs) (from n b) ≡ weight_one w (weight_on fs) s + key_weight (from (n + 1) b) = ap (weight_first w (weight_on fs)) at.split in
    record {
      same = λ m. ap (λ (t : Statements). goes_on_first m ts w (goes_on m ts fs) t (kept_of old)) at.split ∙ ap (λ (o : Onward). behind o (λ d. runs m ts (from (n + 1) b) d)) (to.reaches.0 m);
      spends = omega (arith, to.spends, weight);
      given = to.given;
      names = to.names;
      writes_room = to.writes_room;
      path_room = to.path_room;
    }

-- the statement at a place has ended the run
pub ended : (ts : List (List ℕ)) (n : ℕ) (b : Statements) (s : Statement) (w : Way) (fs : List Frame) (old new : Machine) → IsAt n b s → MovesOne stop.Ends ts s w fs old new
    → MovesBlock stop.Ends ts b (λ m. goes_on_first m ts w (goes_on m ts fs) (from n b) (kept_of old)) (weight_first w (weight_on fs) (from n b)) old new
ended ts n b s w fs old new at to =
    let weight : weight_first w (weight_on fs) (from n b) ≡ weight_one w (weight_on fs) s + key_weight (from (n + 1) b) = ap (weight_first w (weight_on fs)) at.split in
    record {
      reaches = λ m. ap (λ (t : Statements). goes_on_first m ts w (goes_on m ts fs) t (kept_of old)) at.split ∙ ap (λ (o : Onward). behind o (λ d. runs m ts (from (n + 1) b) d)) (to.reaches m);
      spends = omega (arith, to.spends, weight);
      within = tt;
      given = to.given;
      names = to.names;
      writes_room = to.writes_room;
      path_room = to.path_room;
    }

-- what `stand` does
pub record Stands (n : ℕ) (w : Way) (mid new : Machine) : Type 0 where
  pub path : new.path.items ≡ mid.path.items ++ record { at = n; way = w } ∷ []
  pub room : vec_capacity new.path ≡ vec_capacity mid.path
  pub others : new ≡ record mid { path = new.path }

-- the statement at a place asks for a value
pub asked : (ts : List (List ℕ)) (n : ℕ) (b : Statements) (s : Statement) (v w : Way) (fs : List Frame) (old mid new : Machine) → IsAt n b s → MovesOne (stop.Asks v) ts s w fs old mid → Stands n v mid new
    → MovesBlock (stop.Asks v) ts b (λ m. goes_on_first m ts w (goes_on m ts fs) (from n b) (kept_of old)) (weight_first w (weight_on fs) (from n b)) old new
asked ts n b s v w fs old mid new at to st =
    let weight : weight_first w (weight_on fs) (from n b) ≡ weight_one w (weight_on fs) s + key_weight (from (n + 1) b) = ap (weight_first w (weight_on fs)) at.split in
    let gs : List Frame = reverse mid.path.items in let f : Frame = record { at = n; way = v } in
    let path : reverse new.path.items ≡ f ∷ gs = ap reverse st.path ∙ reverse-append mid.path.items (f ∷ []) in
    let ahead_weight : weight_on (reverse new.path.items) b ≡ weight_one v (weight_on gs) s + key_weight (from (n + 1) b) = ap (λ (p : List Frame). weight_on p b) path ∙ ap (weight_first v (λ inner. weight_on gs inner)) at.split in
    let kept : kept_of new ≡ kept_of mid = ap kept_of st.others in let key = ap (λ (x : Machine). x.asked) st.others in
    let writes = ap (λ (x : Machine). x.writes) st.others in
    record {
      reaches = λ m. ap (λ (t : Statements). goes_on_first m ts w (goes_on m ts fs) t (kept_of old)) at.split
          ∙ ap (λ (o : Onward). behind o (λ d. runs m ts (from (n + 1) b) d)) (to.reaches m)
          ∙ sym (ap (λ (p : List Frame). goes_on m ts p b (with_given (kept_of new) new.asked (value_at m new.asked))) path
          ∙ ap (λ (t : Statements). goes_on_first m ts v (λ inner d. goes_on m ts gs inner d) t (with_given (kept_of new) new.asked (value_at m new.asked))) at.split
          ∙ ap (λ (x : Machine). behind (goes_on_one m ts v (goes_on m ts gs) s (with_given (kept_of x) x.asked (value_at m x.asked))) (λ d. runs m ts (from (n + 1) b) d)) st.others);
      spends = omega (arith, to.spends, weight, ahead_weight, ap (λ (x : Machine). length x.writes.items) st.others);
      within = omega (arith, to.within, at.deep, ap length st.path, length-append mid.path.items (f ∷ []));
      given = ap (λ (x : Machine). x.given) st.others ∙ to.given;
      names = ap named st.others ∙ to.names;
      writes_room = omega (arith, to.writes_room, ap (λ (x : Machine). vec_capacity x.writes) st.others);
      path_room = omega (arith, to.path_room, st.room);
    }

-- nothing is left
pub through : (ts : List (List ℕ)) (plan : Plan) (ss : List PlanStep) (n : ℕ) (p : Rows → Onward) (w : ℕ) (old new : Machine) → length ss ≤ n → IsLed p (λ m. runs m ts (from n (statements_by plan ss)) (kept_of new)) w (key_weight (from n (statements_by plan ss))) old new
    → new.path.items ≡ [] → MovesBlock stop.Goes ts (statements_by plan ss) p w old new
through ts plan ss n p w old new out led path = record {
  reaches = ((λ m. led.same m ∙ ap (λ (b : Statements). runs m ts b (kept_of new)) (from-end plan ss n out)), path);
  spends = omega (arith, led.spends);
  within = tt;
  given = led.given;
  names = led.names;
  writes_room = led.writes_room;
  path_room = led.path_room;
}

pub through_first : (ts : List (List ℕ)) (plan : Plan) (ss : List PlanStep) (f : Frame) (fs : List Frame) (m : Machine) → length ss ≤ f.at → m.path.items ≡ []
    → MovesBlock stop.Goes ts (statements_by plan ss) (λ rows. goes_on rows ts (f ∷ fs) (statements_by plan ss) (kept_of m)) (weight_on (f ∷ fs) (statements_by plan ss)) m m
through_first ts plan ss f fs m out path = record {
  reaches = ((λ rows. ap (λ (b : Statements). goes_on_first rows ts f.way (λ inner d. goes_on rows ts fs inner d) b (kept_of m)) (from-end plan ss f.at out)), path);
  spends = omega arith;
  within = tt;
  given = refl;
  names = refl;
  writes_room = omega arith;
  path_room = omega arith;
}

-- ---- turns

-- the counter was set
pub record Counts (x : List ℕ) (i : ℕ) (old new : Machine) : Type 0 where
  pub kept : kept_of new ≡ with_variable (kept_of old) x (Some (Int (pos i)))
  pub names : named new ≡ named old
  pub others : new ≡ record old { variables = new.variables }

-- a counter is set by its slot
pub counted : (ns : List (List ℕ)) (slot i : ℕ) (start mid : Machine) → named start ≡ ns → kept_of mid ≡ with_variable (kept_of start) (name_at (named start) slot) (Some (Int (pos i))) → named mid ≡ named start
    → mid ≡ record start { variables = mid.variables } → Counts (name_at ns slot) i start mid
counted ns slot i start mid names kept same others =
    record { kept = subst (λ xs. kept_of mid ≡ with_variable (kept_of start) (name_at xs slot) (Some (Int (pos i)))) names kept; names = same; others = others }

weight_turn : (n i w : ℕ) → i < n → (n - i) * w ≡ w + (n - suc i) * w
weight_turn n i w lt = let e : n - i ≡ suc (n - suc i) = omega arith in ap (λ (k : ℕ). k * w) e ∙ omega arith

turn : (body : Kept → Onward) (x : List ℕ) (n i : ℕ) (c : Kept) → i < n → turns body x (n - i) i c ≡ behind (body (with_variable c x (Some (Int (pos i))))) (λ d. turns body x (n - suc i) (i + 1) d)
turn body x n i c lt = let e : n - i ≡ suc (n - suc i) = omega arith in ap (λ (k : ℕ). turns body x k i c) e

turn_part : (m : Rows) (ts : List (List ℕ)) (b : Statements) (x : List ℕ) (n i : ℕ) (start mid : Machine) → i < n → Counts x i start mid
    → turns (runs m ts b) x (n - i) i (kept_of start) ≡ behind (runs m ts b (kept_of mid)) (λ d. turns (runs m ts b) x (n - suc i) (i + 1) d)
turn_part m ts b x n i start mid lt set = turn (runs m ts b) x n i (kept_of start) lt ∙ ap (λ (k : Kept). behind (runs m ts b k) (λ d. turns (runs m ts b) x (n - suc i) (i + 1) d)) (sym set.kept)

pub room_turn : (ns : List (List ℕ)) (w deep : ℕ) (x : List ℕ) (n i : ℕ) (start mid : Machine) → i < n → Counts x i start mid → HasRoom ns ((n - i) * w) deep start → HasRoom ns w deep mid
room_turn ns w deep x n i start mid lt set room = record {
  names = set.names ∙ room.names;
  path = ap (λ (s : Machine). s.path.items) set.others ∙ room.path;
  path_room = omega (arith, room.path_room, ap (λ (s : Machine). vec_capacity s.path) set.others);
  writes = omega (arith, room.writes, weight_turn n i w lt, ap (λ (s : Machine). length s.writes.items) set.others);
  writes_room = omega (arith, room.writes_room, ap (λ (s : Machine). vec_capacity s.writes) set.others);
}

-- a turn has gone
pub turned : (ts : List (List ℕ)) (b : Statements) (x : List ℕ) (n i : ℕ) (start mid new : Machine) → i < n → Counts x i start mid → MovesBlock stop.Goes ts b (λ m. runs m ts b (kept_of mid)) (key_weight b) mid new
    → IsLed (λ m. turns (runs m ts b) x (n - i) i (kept_of start)) (λ m. turns (runs m ts b) x (n - (i + 1)) (i + 1) (kept_of new)) ((n - i) * key_weight b) ((n - (i + 1)) * key_weight b) start new
turned ts b x n i start mid new lt set to =
    let e : n - suc i ≡ n - (i + 1) = omega arith in
    record {
      same = λ m. turn_part m ts b x n i start mid lt set ∙ ap (λ (o : Onward). behind o (λ d. turns (runs m ts b) x (n - suc i) (i + 1) d)) (to.reaches.0 m) ∙ ap (λ (k : ℕ). turns (runs m ts b) x k (i + 1) (kept_of new)) e;
      spends = omega (arith, to.spends, weight_turn n i (key_weight b) lt, ap (λ (k : ℕ). k * key_weight b) e, ap (λ (s : Machine). length s.writes.items) set.others);
      given = to.given ∙ ap (λ (s : Machine). s.given) set.others;
      names = to.names ∙ set.names;
      writes_room = omega (arith, to.writes_room, ap (λ (s : Machine). vec_capacity s.writes) set.others);
      path_room = omega (arith, to.path_room, ap (λ (s : Machine). vec_capacity s.path) set.others);
    }

-- a turn stops the run
pub turn_stops : (s : Stop) → (s ≡ stop.Goes → ⊥) → (ts : List (List ℕ)) (b : Statements) (x : List ℕ) (n i : ℕ) (start mid new : Machine) → i < n → Counts x i start mid
    → MovesBlock s ts b (λ m. runs m ts b (kept_of mid)) (key_weight b) mid new
    → MovesTurns (on_way s (way.Turn i)) ts n x b (λ m. turns (runs m ts b) x (n - i) i (kept_of start)) ((n - i) * key_weight b) start new
turn_stops stop.Goes ended ts b x n i start mid new lt set to = absurd (ended refl)
turn_stops stop.Ends _ ts b x n i start mid new lt set to = record {
  reaches = λ m. turn_part m ts b x n i start mid lt set ∙ ap (λ (o : Onward). behind o (λ d. turns (runs m ts b) x (n - suc i) (i + 1) d)) (to.reaches m);
  spends = omega (arith, to.spends, weight_turn n i (key_weight b) lt, ap (λ (s : Machine). length s.writes.items) set.others);
  within = tt;
  given = to.given ∙ ap (λ (s : Machine). s.given) set.others;
  names = to.names ∙ set.names;
  writes_room = omega (arith, to.writes_room, ap (λ (s : Machine). vec_capacity s.writes) set.others);
  path_room = omega (arith, to.path_room, ap (λ (s : Machine). vec_capacity s.path) set.others);
}
turn_stops (stop.Asks w) _ ts b x n i start mid new lt set to = record {
  reaches = λ m. turn_part m ts b x n i start mid lt set ∙ ap (λ (o : Onward). behind o (λ d. turns (runs m ts b) x (n - suc i) (i + 1) d)) (to.reaches m);
  spends = omega (arith, to.spends, weight_turn n i (key_weight b) lt, ap (λ (s : Machine). length s.writes.items) set.others);
  within = to.within;
  given = to.given ∙ ap (λ (s : Machine). s.given) set.others;
  names = to.names ∙ set.names;
  writes_room = omega (arith, to.writes_room, ap (λ (s : Machine). vec_capacity s.writes) set.others);
  path_room = omega (arith, to.path_room, ap (λ (s : Machine). vec_capacity s.path) set.others);
}

-- ---- statements

-- room for what is behind
pub room_behind : (ns : List (List ℕ)) (part later : Rows → Onward) (weight later_weight deep : ℕ) (old mid : Machine) → IsLed part later weight later_weight old mid → mid.path.items ≡ [] → HasRoom ns weight deep old → HasRoom ns later_weight deep mid
room_behind ns part later weight later_weight deep old mid led path room = record {
  names = led.names ∙ room.names;
  path = path;
  path_room = omega (arith, room.path_room, led.path_room);
  writes = omega (arith, room.writes, led.spends);
  writes_room = omega (arith, room.writes_room, led.writes_room);
}

settled : (s : Stop) (o : Onward) (n : ℕ) (ahead : Ahead) (weights : Way → List Frame → ℕ) (deep : ℕ) (old new : Machine) → old.path.items ≡ [] → Settles s o n old new → Moves s (λ m. o) ahead n weights deep old new
settled stop.Goes o n ahead weights deep old new path to = record {
  reaches = ((λ m. to.reached), ap (λ (v : Vec Frame Global). v.items) to.path ∙ path);
  spends = to.spends;
  within = tt;
  given = to.given;
  names = to.names;
  writes_room = to.writes_room;
  path_room = omega (arith, ap (λ (v : Vec Frame Global). vec_capacity v) to.path);
}
settled stop.Ends o n ahead weights deep old new path to = record {
  reaches = λ m. to.reached;
  spends = to.spends;
  within = tt;
  given = to.given;
  names = to.names;
  writes_room = to.writes_room;
  path_room = omega (arith, ap (λ (v : Vec Frame Global). vec_capacity v) to.path);
}
settled (stop.Asks w) o n ahead weights deep old new path to = absurd to.reached

pub settled_put : (s : Stop) (ts : List (List ℕ)) (st : Statement) (p : RowPlace) (e : Expression) (w : Way) (fs : List Frame) (old new : Machine) → st ≡ Put p e → old.path.items ≡ []
    → Settles s (with (kept_of old) (key_of ts (kept_of old).variables p) (λ k. with (kept_of old) (value_of (kept_of old).variables e) (λ d. Goes (with_write (kept_of old) k d)))) 1 old new → MovesOne s ts st w fs old new
settled_put s ts st p e w fs old new is path to =
    subst (λ (t : Statement). MovesOne s ts t w fs old new) (sym is)
    (settled s _ 1 (λ v gs m. goes_on_one m ts v (goes_on m ts gs) (Put p e)) (λ v gs. weight_one v (weight_on gs) (Put p e)) 0 old new path to)

pub got : (s : Stop) (ts : List (List ℕ)) (st : Statement) (x : List ℕ) (p : RowPlace) (old new : Machine) → st ≡ Get x p → MovesGet s ts x p way.Fresh old new → MovesOne s ts st way.Fresh [] old new
got s ts st x p old new is to = subst (λ (t : Statement). MovesOne s ts t way.Fresh [] old new) (sym is) to

-- it has no block, and asks for nothing
abbrev pub is_plain : Statement → Bool
is_plain (Let x e) = true
is_plain (Get x p) = false
is_plain (Put p e) = true
is_plain (Delete p) = true
is_plain (If e b) = false
is_plain (IfElse e b d) = false
is_plain (Repeat n x b) = false
is_plain (Refuse n) = true
is_plain (Reply e) = true

-- there is no place within it
pub plain : (s : Stop) (ts : List (List ℕ)) (st : Statement) (w : Way) (fs : List Frame) (old new : Machine) → is_plain st ≡ true → MovesOne s ts st way.Fresh [] old new → MovesOne s ts st w fs old new
plain s ts (Let x e) w fs old new is to = to
plain s ts (Get x p) w fs old new is to = let e : false ≡ true = is in cc
plain s ts (Put p e) w fs old new is to = to
plain s ts (Delete p) w fs old new is to = to
plain s ts (If e b) w fs old new is to = let e : false ≡ true = is in cc
plain s ts (IfElse e b d) w fs old new is to = let e : false ≡ true = is in cc
plain s ts (Repeat n x b) w fs old new is to = let e : false ≡ true = is in cc
plain s ts (Refuse n) w fs old new is to = to
plain s ts (Reply e) w fs old new is to = to

pub repeated : (s : Stop) (ts : List (List ℕ)) (st : Statement) (n : ℕ) (x : List ℕ) (b : Statements) (w : Way) (fs : List Frame) (old new : Machine) → st ≡ Repeat n x b
    → MovesTurns s ts n x b (λ m. goes_on_repeat w (goes_on m ts fs) (runs m ts) n x b (kept_of old)) (weight_repeat w (weight_on fs) n b) old new → MovesOne s ts st w fs old new
repeated s ts st n x b w fs old new is to = subst (λ (t : Statement). MovesOne s ts t w fs old new) (sym is) to
