-- What the parts of a run keep, from its start to its end.
use Rattle.std.proofs.Common.{◌≡◌, ℕ, zero, suc, ◌+◌, ◌*◌, ◌^◌, ◌<◌, ◌≤◌, Bool, true, false, ◌&&◌, nat_le, List, [], ◌∷◌, ◌++◌, length, reverse, Option, None, Some, Bor, Vec, Global, slice_get, inl, inr, refl, ap, sym, subst, ◌∙◌, arith, append_assoc, length-append}
use Rattle.std.specs.Prelude.{vec_capacity}
use borrow.Author.Tests.{leb-false}
use Rattle.std.proofs.lemmas.Bool.{eqb-true}
use Rattle.std.specs.List.{AllByRecursion}
use Rattle.std.proofs.lemmas.List.{map-append}
use Rattle.std.proofs.lemmas.Bool.{and_parts}
use Rattle.coco_types.specs.Limits.{most_bound, most_keys}
use Rattle.coco_types.specs.RowKey.{RowKey}
use Rattle.coco_types.specs.declared.call.Call.{Call}
use Rattle.coco_types.specs.declared.call.Reply.{Reply}
use Rattle.coco_types.specs.declared.call.Reply.TheVariants.{Ok as Answers, Refused}
use Rattle.coco_types.specs.declared.call.Write.{Write}
use Rattle.coco_ast.proofs.Accepted.{procedure_at-get}
use Rattle.coco_ast.proofs.Ending.{small_found}
use Rattle.coco_ast.proofs.Lists.{all_left, all_right}
use Rattle.coco_ast.proofs.RunsPutWrites.{run_puts_writes}
use Rattle.coco_ast.specs.Builtins.{get_proc, put_proc, add_proc}
use Rattle.coco_ast.specs.Checks.{IsAccepted, HasNoError, IsBadRepeat, Placed, behind_builtins, statements_in, in_order, and_within}
use Rattle.coco_ast.specs.declared.error.CheckKind.TheVariants.{RepeatBound}
use Rattle.coco_ast.specs.Fitting.{Fits, is_taken}
use Rattle.coco_ast.specs.Keyed.{Rows, value_at, put_over}
use Rattle.coco_ast.specs.Meaning.{Datum, Run, run, run_of, flow_of, opened, bound, procedure_at, Variables, Flow, Goes, Ends, Refuses, statements_flow}
use Rattle.coco_ast.specs.Tree.{Statement, Let, Get, Put, Delete, If, IfElse, Repeat, Refuse, Reply as Replies, Statements, End, Then, Procedure, Procedures}
use Rattle.coco_ast.specs.Plans.{IsPlanFor, IsPlanOf, has_slots, depth}
use Rattle.coco_ast.specs.declared.plan.Plan.{Plan}
use Rattle.coco_eval.specs.Advance.{Advances, AdvancesIn, IsRoomy, settled_writes}
use Rattle.coco_eval.specs.Keeping.{IsReady, IsAsking, IsEnded, IsRunOf, Stands, standing_of}
use Rattle.coco_eval.specs.Moves.{kept_of, named}
use Rattle.coco_eval.specs.Outcomes.{outcome}
use Rattle.coco_eval.specs.Places.{Kept, Onward, with_given, runs, goes_on, weight_on, are_bounded_in, are_bounded}
use Rattle.coco_eval.specs.Places as on
use Rattle.coco_eval.specs.Preparing.{IsPrepared}
use Rattle.coco_eval.specs.Slots.{names_in, AreAlike}
use Rattle.coco_eval.specs.Standing.{Ready, Asks, Says, HasGiven, keys_of}
use Rattle.coco_eval.specs.declared.machine.Frame.{Frame}
use Rattle.coco_eval.specs.declared.machine.Given.{Given}
use Rattle.coco_eval.specs.declared.machine.Machine.{Machine}
use Rattle.coco_eval.specs.declared.run.Stage.{Stage}
use Rattle.coco_eval.specs.declared.run.Stage.TheVariants as stage
use Rattle.coco_eval.proofs.Bridge.{Alike, FlowsAlike, all_alike}
use Rattle.coco_eval.proofs.Growing.{needs_more}

-- ---- accepted trees

abbrev IsGood : Placed → Type 0
IsGood s = IsBadRepeat s → ⊥

both : (a b : Bool) → a ≡ true → b ≡ true → a && b ≡ true
both true b h k = k
both false b h k = let e : false ≡ true = h in cc

few_turns : (n : ℕ) (x : List ℕ) (b : Statements) (around : ℕ) → IsGood (record { statement = Repeat n x b; around = around }) → nat_le n most_bound ≡ true
few_turns n x b around good = by (nat_le n most_bound) refl
  where
    by : (c : Bool) → nat_le n most_bound ≡ c → nat_le n most_bound ≡ true
    by true e = e
    by false e = absurd (good (n, x, b, refl, inr (inl (omega (arith, leb-false n most_bound e)))))

mutual
  bounded_one : (around : ℕ) (s : Statement) → AllByRecursion IsGood (and_within around s) → are_bounded_in s ≡ true
  bounded_one around (Let x e) h = refl
  bounded_one around (Get x p) h = refl
  bounded_one around (Put p e) h = refl
  bounded_one around (Delete p) h = refl
  bounded_one around (If e b) h = bounded_all around b h.1
  bounded_one around (IfElse e b d) h = both _ _ (bounded_all around b (all_left IsGood (in_order around b) (in_order around d) h.1)) (bounded_all around d (all_right IsGood (in_order around b) (in_order around d) h.1))
  bounded_one around (Repeat n x b) h = both _ _ (few_turns n x b around h.0) (bounded_all (around * n) b h.1)
  bounded_one around (Refuse n) h = refl
  bounded_one around (Replies e) h = refl

  bounded_all : (around : ℕ) (b : Statements) → AllByRecursion IsGood (in_order around b) → are_bounded b ≡ true
  bounded_all around End h = refl
  bounded_all around (Then s r) h = both _ _ (bounded_one around s (all_left IsGood (and_within around s) (in_order around r) h)) (bounded_all around r (all_right IsGood (and_within around s) (in_order around r) h))

all_at : {X : Type 0} (P : X → Type 0) (xs : List X) → ((i : ℕ) (x : X) → slice_get xs i ≡ Some x → P x) → AllByRecursion P xs
all_at P [] h = tt
all_at P (x ∷ xs) h = (h 0 x refl, all_at P xs (λ i y e. h (suc i) y e))

bounded_in : (text : Procedures) → HasNoError text → (n : ℕ) (p : Procedure) → slice_get (behind_builtins text).procs n ≡ Some p → are_bounded p.body ≡ true
bounded_in text sound zero p there = let is : get_proc ≡ p = cc in ap (λ (q : Procedure). are_bounded q.body) (sym is)
bounded_in text sound (suc zero) p there = let is : put_proc ≡ p = cc in ap (λ (q : Procedure). are_bounded q.body) (sym is)
bounded_in text sound (suc (suc zero)) p there = let is : add_proc ≡ p = cc in ap (λ (q : Procedure). are_bounded q.body) (sym is)
bounded_in text sound (suc (suc (suc k))) p there =
    bounded_all 1 p.body (all_at IsGood (statements_in p) (λ i s at bad. sound (record { item = length text.tables + (k + 1); statement = suc i; kind = RepeatBound })
    (inr (record { place = k; procedure = p; there = there; item = refl; within = (s, at, bad) }))))

pub bounded_found : (tree : Procedures) → IsAccepted tree → (n : ℕ) (p : Procedure) → procedure_at tree.procs n ≡ Some p → are_bounded p.body ≡ true
bounded_found tree a n p there = bounded_in a.text a.sound n p (subst (λ (u : Procedures). slice_get u.procs n ≡ Some p) a.whole (sym (procedure_at-get tree.procs n) ∙ there))

pub few_tables : (tree : Procedures) → IsAccepted tree → length tree.tables < 2 ^ 16
few_tables tree a = omega (arith, ap (λ (t : Procedures). length t.tables) a.whole, a.limits.tables)

-- ---- the start

run_same : (r : Reply) (m n : Rows) (ks ls : List RowKey) (vs ws : List Write) → m ≡ n → ks ≡ ls → vs ≡ ws → ◌≡◌ {A = Run} (record { reply = r; rows = m; needs = ks; writes = vs }) (record { reply = r; rows = n; needs = ls; writes = ws })
run_same r m n ks ls vs ws a b c i = record { reply = r; rows = a i; needs = b i; writes = c i }

alike_ends : (m : Rows) (slots : Variables) (f : Flow) (o : Onward) → FlowsAlike m slots f o → (run_of m f).rows ≡ put_over m (run_of m f).writes → run_of m f ≡ outcome m o
alike_ends m slots (Goes s) (on.Goes c) a put = run_same _ _ _ _ _ _ _ (put ∙ ap (put_over m) a.writes) a.needs a.writes
alike_ends m slots (Goes s) (on.Ends c r) a put = absurd a
alike_ends m slots (Ends s v) (on.Goes c) a put = absurd a
alike_ends m slots (Ends s v) (on.Ends c r) a put = run_same _ _ _ _ _ _ _ (put ∙ ap (put_over m) a.0.writes) a.0.needs a.0.writes ∙ ap (λ (q : Reply). outcome m (on.Ends c q)) (sym a.1)
alike_ends m slots (Refuses s e) (on.Goes c) a put = absurd a
alike_ends m slots (Refuses s e) (on.Ends c r) a put = run_same _ _ _ _ _ _ _ refl a.0.needs refl ∙ ap (λ (q : Reply). outcome m (on.Ends c q)) (sym a.1)

-- a call's run comes to what its procedure's statements lead to from the start
pub run_begins : (ps : Procedures) (call : Call) (p : Procedure) → procedure_at ps.procs call.proc_no ≡ Some p → (slots : Variables) → AreAlike (bound p.params call.args) slots → has_slots (names_in slots) p.body ≡ true
    → (m : Rows) → run ps call m ≡ outcome m (runs m ps.tables p.body (record { variables = slots; given = []; writes = [] }))
unfolding run
run_begins ps call p there slots same has m =
    let c : Kept = record { variables = slots; given = []; writes = [] } in let s = opened m p call.args in
    let is = ap (λ (q : Option Procedure). run_of m (flow_of ps m q call.args)) there in
    let a : Alike m slots s c = record {
      variables = λ x. sym (same x);
      slots_stay = λ x. refl;
      rows = λ k. refl;
      needs = refl;
      writes = refl;
      seen = λ k. refl;
      given = λ k d h. cc;
    } in
    is ∙ alike_ends m slots (statements_flow ps.tables p.body s) (runs m ps.tables p.body c) (all_alike m slots ps.tables p.body s c has a)
    (subst (λ (r : Run). r.rows ≡ put_over m r.writes) is (run_puts_writes ps call m))

pub begun : (ps : Procedures) (call : Call) (p : Procedure) (m : Machine) (spare : Vec Frame Global) (ws : List Write) → (plan : Plan) → IsAccepted ps → procedure_at ps.procs call.proc_no ≡ Some p → IsPlanOf p plan → IsPrepared p plan.names call.args m spare → IsRunOf ps call call.proc_no m spare ws stage.Ready
begun ps call p m spare ws plan accepted there of is = record {
  procedure = p;
  number_is = refl;
  there = there;
  roomy = λ _. record { names = is.named ∙ of.names; bounded = bounded_found ps accepted call.proc_no p there; path = is.path_room; spare_path = is.spare_room; given = is.given_room; writes = is.writes_room };
  stands = record {
    goes = λ rows has. run_begins ps call p there m.variables is.alike (subst (λ (ns : List (List ℕ)). has_slots ns p.body ≡ true) (sym is.named) of.has_all) rows
        ∙ ap (λ (c : Kept). outcome rows (runs rows ps.tables p.body c)) kept
        ∙ ap (λ (fs : List Frame). outcome rows (goes_on rows ps.tables (reverse fs) p.body (kept_of m))) (sym is.path);
    few = omega (arith, ap (λ (gs : List Given). length gs) is.given, ap (λ (vs : List Write). length vs) is.writes, ap (λ (fs : List Frame). weight_on (reverse fs) p.body) is.path, (small_found ps accepted call.proc_no p there).weight);
  };
}
  where
    kept : ◌≡◌ {A = Kept} (record { variables = m.variables; given = []; writes = [] }) (kept_of m)
    kept i = record { variables = m.variables; given = sym is.given i; writes = sym is.writes i }

-- ---- steps

-- a step that asks
pub asks_next : (ps : Procedures) (call : Call) (p : Procedure) (old new : Machine) → new.given ≡ old.given → IsReady ps call p old → Advances true ps.tables p.body old new → IsAsking ps call p new
asks_next ps call p old new given is to =
    let gs = ap (λ (v : Vec Given Global). v.items) given in
    record {
      goes = λ rows has. is.goes rows (subst (λ (g : List Given). HasGiven g rows) gs has) ∙ ap (outcome rows) (to.0 rows);
      few = omega (arith, is.few, to.1, ap (λ (g : List Given). length g) gs);
    }

ended_outcome : (rows : Rows) (c : Kept) (r : Reply) → outcome rows (on.Ends c r) ≡ record { reply = r; rows = put_over rows (settled_writes r c.writes); needs = keys_of c.given; writes = settled_writes r c.writes }
ended_outcome rows c (Answers v) = refl
ended_outcome rows c (Refused e) = refl

settled_few : (r : Reply) (ws : List Write) → length (settled_writes r ws) ≤ length ws
settled_few (Answers v) ws = omega arith
settled_few (Refused c) ws = omega arith

-- a step that ends, and then gives up its writes
pub ends_here : (ps : Procedures) (call : Call) (p : Procedure) (old mid new : Machine) (ws : List Write) → mid.given ≡ old.given → new ≡ record mid { writes = new.writes } → ws ≡ settled_writes mid.reply mid.writes.items
    → IsReady ps call p old → Advances false ps.tables p.body old mid → IsEnded ps call new ws
ends_here ps call p old mid new ws given others settled is to =
    let gs = ap (λ (x : Machine). x.given.items) others ∙ ap (λ (v : Vec Given Global). v.items) given in
    let reply = ap (λ (x : Machine). x.reply) others in
    record {
      ends = λ rows has. is.goes rows (subst (λ (g : List Given). HasGiven g rows) gs has) ∙ to.0 rows ∙ ended_outcome rows (kept_of mid) mid.reply
          ∙ ended_same rows (sym reply) (sym settled) (ap keys_of (ap (λ (v : Vec Given Global). v.items) given ∙ sym gs));
      few = omega (arith, is.few, to.1, ap (λ (g : List Given). length g) gs, settled_few mid.reply mid.writes.items, ap (λ (v : List Write). length v) settled);
    }
  where
    ended_same : (rows : Rows) {r s : Reply} {vs us : List Write} {ks ls : List RowKey} → r ≡ s → vs ≡ us → ks ≡ ls
        → ◌≡◌ {A = Run} (record { reply = r; rows = put_over rows vs; needs = ks; writes = vs }) (record { reply = s; rows = put_over rows us; needs = ls; writes = us })
    ended_same rows a b c i = record { reply = a i; rows = put_over rows (b i); needs = c i; writes = b i }

has_more : (gs : List Given) (g : Given) (rows : Rows) → HasGiven (gs ++ g ∷ []) rows → HasGiven gs rows × (value_at rows g.key ≡ g.value)
has_more [] g rows h = (tt, h.0)
has_more (f ∷ gs) g rows h = let r = has_more gs g rows h.1 in ((h.0, r.0), r.1)

-- the value that was asked for is given
pub given_next : (ps : Procedures) (call : Call) (p : Procedure) (old new : Machine) (v : Datum) → new.given.items ≡ old.given.items ++ record { key = old.asked; value = v } ∷ [] → new ≡ record old { given = new.given }
    → IsAsking ps call p old → IsReady ps call p new
given_next ps call p old new v given others is = record {
  goes = λ rows has.
      let h = has_more old.given.items (record { key = old.asked; value = v }) rows (subst (λ (g : List Given). HasGiven g rows) given has) in
      is.goes rows h.0 ∙ ap (λ (d : Datum). outcome rows (goes_on rows ps.tables (reverse old.path.items) p.body (with_given (kept_of old) old.asked d))) h.1
      ∙ ap (λ (c : Kept). outcome rows (goes_on rows ps.tables (reverse old.path.items) p.body c)) kept
      ∙ ap (λ (x : Machine). outcome rows (goes_on rows ps.tables (reverse x.path.items) p.body (kept_of new))) (sym others);
  few = omega (arith, is.few, ap (λ (g : List Given). length g) given, length-append old.given.items (record { key = old.asked; value = v } ∷ []), ap (λ (x : Machine). length x.writes.items) others, ap (λ (x : Machine). weight_on (reverse x.path.items) p.body) others);
}
  where
    kept : with_given (kept_of old) old.asked v ≡ kept_of new
    kept i = record { variables = (sym others i).variables; given = sym given i; writes = (sym others i).writes.items }

-- ---- what is said

pub asking_says : (ps : Procedures) (call : Call) (p : Procedure) (m : Machine) (given : List Given) → given ≡ m.given.items → IsAsking ps call p m → (rows : Rows) → HasGiven given rows
    → Says (record { procs = ps; call = call; given = given; standing = Asks m.asked }) (Asks m.asked) rows
asking_says ps call p m given same is rows has =
    let n = needs_more rows ps.tables (reverse m.path.items) p.body (with_given (kept_of m) m.asked (value_at rows m.asked)) in (
      n.0,
      ap (λ (r : Run). r.needs) (is.goes rows (subst (λ (g : List Given). HasGiven g rows) same has)) ∙ n.1
          ∙ ap (λ (ks : List RowKey). ks ++ n.0) (map-append (λ (g : Given). g.key) m.given.items (record { key = m.asked; value = value_at rows m.asked } ∷ []))
          ∙ append_assoc (keys_of m.given.items) (m.asked ∷ []) n.0 ∙ ap (λ (g : List Given). keys_of g ++ m.asked ∷ n.0) (sym same),
    )

-- ---- procedures

pub same_procedure : (p q : Procedure) (o : Option Procedure) → o ≡ Some p → o ≡ Some q → p ≡ q
same_procedure p q o one other = let h : Some p ≡ Some q = sym one ∙ other in cc

-- the plan of a procedure that is there is found, and is its plan
pub is_planned : (p : Procedure) (o : Option Procedure) → o ≡ Some p → IsPlanFor o None → ⊥
is_planned p None there is = cc
is_planned p (Some q) there is = is

pub planned : (p : Procedure) (plan : Bor Plan) (o : Option Procedure) → o ≡ Some p → IsPlanFor o (Some plan) → IsPlanOf p plan.now
planned p plan None there is = cc
planned p plan (Some q) there is = let same : q ≡ p = cc in subst (λ (r : Procedure). IsPlanOf r plan.now) same is

taken_some : (o : Option Procedure) (call : Call) → is_taken o call ≡ true → (p : Procedure) × (o ≡ Some p) × (length call.args ≡ length p.params)
taken_some None call h = let f : false ≡ true = h in cc
taken_some (Some p) call h = (p, refl, eqb-true (length call.args) (length p.params) (and_parts _ _ h).0)

-- the procedure of a call that fits, with as many parameters as the call has arguments
pub called : (ps : Procedures) (call : Call) → Fits ps call → (p : Procedure) × (procedure_at ps.procs call.proc_no ≡ Some p) × (length call.args ≡ length p.params)
called ps call fits = taken_some (procedure_at ps.procs call.proc_no) call fits

pub is_ready : (s : Stage) (m : Machine) (ws : List Write) → standing_of s m ws ≡ Ready → s ≡ stage.Ready
is_ready stage.Ready m ws e = refl
is_ready stage.Asking m ws e = cc
is_ready stage.Ended m ws e = cc

pub is_asking : (s : Stage) (m : Machine) (ws : List Write) (k : RowKey) → standing_of s m ws ≡ Asks k → s ≡ stage.Asking
is_asking stage.Ready m ws k e = cc
is_asking stage.Asking m ws k e = refl
is_asking stage.Ended m ws k e = cc

not_ended : (s : Stage) → s ≡ stage.Ready → s ≡ stage.Ended → ⊥
not_ended s a b = let h : stage.Ready ≡ stage.Ended = sym a ∙ b in cc

asking_not_ended : (s : Stage) → s ≡ stage.Asking → s ≡ stage.Ended → ⊥
asking_not_ended s a b = let h : stage.Asking ≡ stage.Ended = sym a ∙ b in cc

-- ---- a run's steps

pub ready_of : (ps : Procedures) (call : Call) (n : ℕ) (m : Machine) (spare : Vec Frame Global) (ws : List Write) (at : Stage) → standing_of at m ws ≡ Ready → (r : IsRunOf ps call n m spare ws at) → IsReady ps call r.procedure m
ready_of ps call n m spare ws at is r = subst (λ (s : Stage). Stands s ps call r.procedure m ws) (is_ready at m ws is) r.stands

pub roomy_of : (ps : Procedures) (call : Call) (n : ℕ) (m : Machine) (spare : Vec Frame Global) (ws : List Write) (at : Stage) → standing_of at m ws ≡ Ready → (r : IsRunOf ps call n m spare ws at) → IsRoomy r.procedure m spare
roomy_of ps call n m spare ws at is r = r.roomy (not_ended at (is_ready at m ws is))

pub asks_of : (ps : Procedures) (call : Call) (n : ℕ) (m new : Machine) (spare left : Vec Frame Global) (ws : List Write) (at : Stage) → standing_of at m ws ≡ Ready → (r : IsRunOf ps call n m spare ws at)
    → AdvancesIn true ps.tables r.procedure m new left → IsRunOf ps call n new left ws stage.Asking
asks_of ps call n m new spare left ws at is r to = record {
  procedure = r.procedure;
  number_is = r.number_is;
  there = r.there;
  roomy = λ _. to.roomy;
  stands = asks_next ps call r.procedure m new to.given (ready_of ps call n m spare ws at is r) to.advances;
}

pub ends_of : (ps : Procedures) (call : Call) (n : ℕ) (m mid new : Machine) (spare left : Vec Frame Global) (ws vs : List Write) (at : Stage) → standing_of at m ws ≡ Ready → (r : IsRunOf ps call n m spare ws at)
    → AdvancesIn false ps.tables r.procedure m mid left → new ≡ record mid { writes = new.writes } → vs ≡ settled_writes mid.reply mid.writes.items → IsRunOf ps call n new left vs stage.Ended
ends_of ps call n m mid new spare left ws vs at is r to others settled = record {
  procedure = r.procedure;
  number_is = r.number_is;
  there = r.there;
  roomy = λ open_. absurd (open_ refl);
  stands = ends_here ps call r.procedure m mid new vs to.given others settled (ready_of ps call n m spare ws at is r) to.advances;
}

pub given_of_run : (ps : Procedures) (call : Call) (n : ℕ) (m new : Machine) (spare : Vec Frame Global) (ws : List Write) (at : Stage) (k : RowKey) (v : Datum) → standing_of at m ws ≡ Asks k → (r : IsRunOf ps call n m spare ws at)
    → new.given.items ≡ m.given.items ++ record { key = m.asked; value = v } ∷ [] → vec_capacity m.given ≤ vec_capacity new.given → new ≡ record m { given = new.given } → IsRunOf ps call n new spare ws stage.Ready
given_of_run ps call n m new spare ws at k v is r given room others =
    let roomy = r.roomy (asking_not_ended at (is_asking at m ws k is)) in
    record {
      procedure = r.procedure;
      number_is = r.number_is;
      there = r.there;
      roomy = λ _. record {
        names = ap named others ∙ roomy.names;
        bounded = roomy.bounded;
        path = omega (arith, roomy.path, ap (λ (x : Machine). vec_capacity x.path) others);
        spare_path = roomy.spare_path;
        given = omega (arith, roomy.given, room);
        writes = omega (arith, roomy.writes, ap (λ (x : Machine). vec_capacity x.writes) others);
      };
      stands = given_next ps call r.procedure m new v given others (subst (λ (s : Stage). Stands s ps call r.procedure m ws) (is_asking at m ws k is) r.stands);
    }

pub room_to_give : (ps : Procedures) (call : Call) (n : ℕ) (m : Machine) (spare : Vec Frame Global) (ws : List Write) (at : Stage) (k : RowKey) → standing_of at m ws ≡ Asks k → IsRunOf ps call n m spare ws at → length m.given.items < vec_capacity m.given
room_to_give ps call n m spare ws at k is r =
    let roomy = r.roomy (asking_not_ended at (is_asking at m ws k is)) in
    let asking : IsAsking ps call r.procedure m = subst (λ (s : Stage). Stands s ps call r.procedure m ws) (is_asking at m ws k is) r.stands in
    omega (arith, roomy.given, asking.few)

-- what going on in a body comes to is what it comes to in the procedure
pub advances_in : (asks : Bool) (ts us : List (List ℕ)) (b : Statements) (p : Procedure) (old new : Machine) (before after : Vec Frame Global) → us ≡ ts → b ≡ p.body → IsRoomy p old before → Advances asks us b old new
    → depth b ≤ vec_capacity new.path → depth b ≤ vec_capacity after → new.given ≡ old.given → most_keys ≤ vec_capacity new.writes → named new ≡ named old → AdvancesIn asks ts p old new after
advances_in asks ts us b p old new before after tables body roomy to path spare given writes names = record {
  advances = subst (λ (vs : List (List ℕ)). Advances asks vs p.body old new) tables (subst (λ (d : Statements). Advances asks us d old new) body to);
  roomy = record {
    names = names ∙ roomy.names;
    bounded = roomy.bounded;
    path = omega (arith, path, ap depth body);
    spare_path = omega (arith, spare, ap depth body);
    given = omega (arith, roomy.given, ap (λ (v : Vec Given Global). vec_capacity v) given);
    writes = writes;
  };
  given = given;
}

pub there_in : (given ps : Procedures) (call : Call) (n : ℕ) (m : Machine) (spare : Vec Frame Global) (ws : List Write) (at : Stage) → given ≡ ps → (r : IsRunOf ps call n m spare ws at) → procedure_at given.procs n ≡ Some r.procedure
there_in given ps call n m spare ws at same r = ap (λ (t : Procedures). procedure_at t.procs n) same ∙ ap (procedure_at ps.procs) r.number_is ∙ r.there

pub room_in : (given ps : Procedures) (call : Call) (n : ℕ) (m : Machine) (spare : Vec Frame Global) (ws : List Write) (at : Stage) → given ≡ ps → standing_of at m ws ≡ Ready → IsRunOf ps call n m spare ws at
    → (p : Procedure) × (procedure_at given.procs n ≡ Some p) × IsRoomy p m spare × (length m.writes.items + weight_on (reverse m.path.items) p.body ≤ most_keys)
room_in given ps call n m spare ws at same is r =
    let ready = ready_of ps call n m spare ws at is r in
    (r.procedure, there_in given ps call n m spare ws at same r, roomy_of ps call n m spare ws at is r, omega (arith, ready.few))

-- a step that asks, and one that ends, by what going on came to
pub steps_to_ask : (given ps : Procedures) (call : Call) (n : ℕ) (m new : Machine) (spare left : Vec Frame Global) (ws : List Write) (at : Stage) → given ≡ ps → standing_of at m ws ≡ Ready → IsRunOf ps call n m spare ws at
    → ((p : Procedure) → procedure_at given.procs n ≡ Some p → AdvancesIn true given.tables p m new left) → IsRunOf ps call n new left ws stage.Asking
steps_to_ask given ps call n m new spare left ws at same is r all =
    asks_of ps call n m new spare left ws at is r (subst (λ (t : Procedures). AdvancesIn true t.tables r.procedure m new left) same (all r.procedure (there_in given ps call n m spare ws at same r)))

pub steps_to_end : (given ps : Procedures) (call : Call) (n : ℕ) (m mid new : Machine) (spare left : Vec Frame Global) (ws vs : List Write) (at : Stage) → given ≡ ps → standing_of at m ws ≡ Ready → IsRunOf ps call n m spare ws at
    → ((p : Procedure) → procedure_at given.procs n ≡ Some p → AdvancesIn false given.tables p m mid left) → new ≡ record mid { writes = new.writes } → vs ≡ settled_writes mid.reply mid.writes.items → IsRunOf ps call n new left vs stage.Ended
steps_to_end given ps call n m mid new spare left ws vs at same is r all others settled =
    ends_of ps call n m mid new spare left ws vs at is r (subst (λ (t : Procedures). AdvancesIn false t.tables r.procedure m mid left) same (all r.procedure (there_in given ps call n m spare ws at same r))) others settled

pub asked_says : (ps : Procedures) (call : Call) (n : ℕ) (m : Machine) (spare : Vec Frame Global) (ws : List Write) → IsRunOf ps call n m spare ws stage.Asking → (rows : Rows) → HasGiven m.given.items rows
    → (more : List RowKey) × ((run ps call rows).needs ≡ keys_of m.given.items ++ m.asked ∷ more)
asked_says ps call n m spare ws r rows has = asking_says ps call r.procedure m m.given.items refl r.stands rows has
