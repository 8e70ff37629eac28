-- A run that is given what a map has comes to its call's run on that map.
use Rattle.std.proofs.Common.{◌≡◌, ◌-◌, ◌<◌, List, [], ◌∷◌, ◌++◌, length, Some, Result, Ok, Err, OnOk, ap, sym, subst, ◌∙◌, arith, length-append}
use Rattle.coco_types.specs.RowKey.{RowKey}
use Rattle.coco_types.specs.declared.call.Reply.{Reply}
use Rattle.coco_types.specs.declared.call.Write.{Write}
use Rattle.coco_ast.specs.Keyed.{Rows, value_at, put_over}
use Rattle.coco_ast.specs.Meaning.{Datum, Run, run}
use Rattle.coco_ast.specs.Tree.{Procedures}
use Rattle.coco_eval.specs.Needs.{HasFewKeys}
use Rattle.coco_eval.specs.Standing.{Standing, Ready, Asks, Ended, Evaluation, Says, IsSound, HasGiven, keys_of}
use Rattle.coco_eval.specs.declared.machine.Given.{Given}
use Rattle.coco_tail.specs.Running.{CameTo}

abbrev pub given_one : RowKey → Datum → Given
given_one k v = record { key = k; value = v }

-- a step that asked for a key, and was given this value
pub record IsGiven (old new : Evaluation) (k : RowKey) (v : Datum) : Type 0 where
  pub procs : new.procs ≡ old.procs
  pub call_same : new.call ≡ old.call
  pub ready : new.standing ≡ Ready
  pub given : new.given ≡ old.given ++ given_one k v ∷ []
  pub fewer : 64 - length new.given < 64 - length old.given

pub is_given : (old mid new : Evaluation) (k : RowKey) (v : Datum) → mid ≡ record old { standing = mid.standing } → mid.standing ≡ Asks k → HasFewKeys mid mid.standing
    → new ≡ record mid { given = mid.given ++ record { key = k; value = v } ∷ []; standing = Ready } → IsGiven old new k v
is_given old mid new k v others asks few next =
    let given : new.given ≡ old.given ++ given_one k v ∷ [] = ap (λ (e : Evaluation). e.given) next ∙ ap (λ (e : Evaluation). e.given ++ given_one k v ∷ []) others in
    let enough : HasFewKeys mid (Asks k) = subst (HasFewKeys mid) asks few in
    record {
      procs = ap (λ (e : Evaluation). e.procs) next ∙ ap (λ (e : Evaluation). e.procs) others;
      call_same = ap (λ (e : Evaluation). e.call) next ∙ ap (λ (e : Evaluation). e.call) others;
      ready = ap (λ (e : Evaluation). e.standing) next;
      given = given;
      fewer = omega (arith, enough, ap (λ (e : Evaluation). length e.given) others, ap (λ (gs : List Given). length gs) given, length-append old.given (given_one k v ∷ []));
    }

has_more : (gs : List Given) (g : Given) (m : Rows) → HasGiven gs m → value_at m g.key ≡ g.value → HasGiven (gs ++ g ∷ []) m
has_more [] g m h is = (is, tt)
has_more (f ∷ gs) g m h is = (h.0, has_more gs g m h.1 is)

-- on a map that has the value, too, it has been given what the map has
pub has_given : (old new : Evaluation) (k : RowKey) (v : Datum) (m : Rows) → IsGiven old new k v → v ≡ value_at m k → HasGiven old.given m → HasGiven new.given m
has_given old new k v m step is has = subst (λ (gs : List Given). HasGiven gs m) (sym step.given) (has_more old.given (given_one k v) m has (sym is))

-- a step that ended, of a run that was given what a map has
pub came_to : (old new : Evaluation) (ps : Procedures) (call : _) (m : Rows) (reply : Reply) (ws : List Write) → new ≡ record old { standing = new.standing } → new.standing ≡ Ended reply ws → IsSound new
    → old.procs ≡ ps → old.call ≡ call → HasGiven old.given m → CameTo (run ps call m) (Some new)
came_to old new ps call m reply ws others is sound procs calls has =
    let says : Says new (Ended reply ws) m = subst (λ (s : Standing). Says new s m) is (sound m (subst (λ (gs : List Given). HasGiven gs m) (sym (ap (λ (e : Evaluation). e.given) others)) has)) in
    let ran : run ps call m ≡ record { reply = reply; rows = put_over m ws; needs = keys_of new.given; writes = ws } =
    sym (ap (λ (e : Evaluation). run e.procs e.call m) others ∙ ap (λ (p : Procedures). run p old.call m) procs ∙ ap (λ c. run ps c m) calls) ∙ says in
    is ∙ sym (ap (λ (r : Run). Ended r.reply r.writes) ran)

-- ---- the last run

pub same_writes : (r s : Reply) (vs ws : List Write) (e : Standing) → e ≡ Ended r vs → e ≡ Ended s ws → vs ≡ ws
same_writes r s vs ws e one other = let h : Ended r vs ≡ Ended s ws = sym one ∙ other in cc

pub some_same : (d e : Evaluation) → Some d ≡ Some e → d ≡ e
some_same d e h = cc

-- ---- answers

pub always_ok : {T E : Type 0} (r : Result T E) (P : Type 0) → P → OnOk r P
always_ok (Ok x) P p = p
always_ok (Err e) P p = tt

pub ok_map : {T E : Type 0} (r : Result T E) (P Q : Type 0) → (P → Q) → OnOk r P → OnOk r Q
ok_map (Ok x) P Q f p = f p
ok_map (Err e) P Q f p = tt
