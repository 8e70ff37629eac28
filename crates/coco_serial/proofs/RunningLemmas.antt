-- A run that is given what a map has comes to its call's run on that map.
use Rattle.std.proofs.Common.{◌≡◌, ◌-◌, ◌<◌, List, [], ◌∷◌, ◌++◌, length, ap, sym, subst, ◌∙◌, arith, length-append}
use Rattle.coco_types.specs.RowKey.{RowKey}
use Rattle.coco_types.specs.declared.call.Reply.{Reply}
use Rattle.coco_types.specs.declared.call.Write.{Write}
use Rattle.coco_ast.specs.Keyed.{Rows, value_at, put_over}
use Rattle.coco_ast.specs.Meaning.{Datum, run}
use Rattle.coco_ast.specs.Tree.{Procedures}
use Rattle.coco_types.specs.declared.call.Call.{Call}
use Rattle.std.specs.Prelude.{Result, Ok, Err, OnErr}
use Rattle.coco_serial.specs.Applied.{Applied}
use Rattle.coco_eval.specs.Needs.{HasFewKeys}
use Rattle.coco_eval.specs.Standing.{Standing, Ready, Asks, Ended, Evaluation, Says, IsSound, HasGiven, keys_of}
use Rattle.coco_eval.specs.declared.machine.Given.{Given}

has_more : (gs : List Given) (g : Given) (m : Rows) → HasGiven gs m → value_at m g.key ≡ g.value → HasGiven (gs ++ g ∷ []) m
has_more [] g m h is = (is, tt)
has_more (f ∷ gs) g m h is = (h.0, has_more gs g m h.1 is)

-- a step that asked, and what was given then
pub record IsGiven (m : Rows) (old new : Evaluation) : Type 0 where
  pub procs : new.procs ≡ old.procs
  pub call_same : new.call ≡ old.call
  pub ready : new.standing ≡ Ready
  pub given : HasGiven old.given m → HasGiven new.given m
  pub fewer : 64 - length new.given < 64 - length old.given

pub is_given : (m : Rows) (old mid new : Evaluation) (k : RowKey) (v : Datum) → mid ≡ record old { standing = mid.standing } → mid.standing ≡ Asks k → HasFewKeys mid mid.standing → v ≡ value_at m k
    → new ≡ record mid { given = mid.given ++ record { key = k; value = v } ∷ []; standing = Ready } → IsGiven m old new
is_given m old mid new k v others asks few is next =
    let given : new.given ≡ old.given ++ record { key = k; value = v } ∷ [] = ap (λ (e : Evaluation). e.given) next ∙ ap (λ (e : Evaluation). e.given ++ record { key = k; value = v } ∷ []) others in
    let enough : HasFewKeys mid (Asks k) = subst (HasFewKeys mid) asks few in
    record {
      procs = ap (λ (e : Evaluation). e.procs) next ∙ ap (λ (e : Evaluation). e.procs) others;
      call_same = ap (λ (e : Evaluation). e.call) next ∙ ap (λ (e : Evaluation). e.call) others;
      ready = ap (λ (e : Evaluation). e.standing) next;
      given = λ has. subst (λ (gs : List Given). HasGiven gs m) (sym given) (has_more old.given (record { key = k; value = v }) m has (sym is));
      fewer = omega (arith, enough, ap (λ (e : Evaluation). length e.given) others, ap (λ (gs : List Given). length gs) given, length-append old.given (record { key = k; value = v } ∷ []));
    }

-- a step that ended
pub run_ended : (m : Rows) (old new : Evaluation) (reply : Reply) (ws : List Write) → new ≡ record old { standing = new.standing } → new.standing ≡ Ended reply ws → IsSound new → HasGiven old.given m
    → run old.procs old.call m ≡ record { reply = reply; rows = put_over m ws; needs = keys_of old.given; writes = ws }
run_ended m old new reply ws others is sound has =
    let says : Says new (Ended reply ws) m = subst (λ (s : Standing). Says new s m) is (sound m (subst (λ (gs : List Given). HasGiven gs m) (sym (ap (λ (e : Evaluation). e.given) others)) has)) in
    sym (ap (λ (e : Evaluation). run e.procs e.call m) others) ∙ says
    ∙ ap (λ (gs : List Given). record { reply = reply; rows = put_over m ws; needs = keys_of gs; writes = ws }) (ap (λ (e : Evaluation). e.given) others)

pub same_writes : (r s : Reply) (vs ws : List Write) (e : Standing) → e ≡ Ended r vs → e ≡ Ended s ws → vs ≡ ws
same_writes r s vs ws e one other = let h : Ended r vs ≡ Ended s ws = sym one ∙ other in cc

pub same_reply : (r s : Reply) (vs ws : List Write) (e : Standing) → e ≡ Ended r vs → e ≡ Ended s ws → r ≡ s
same_reply r s vs ws e one other = let h : Ended r vs ≡ Ended s ws = sym one ∙ other in cc

-- a fresh run of a call on an equal map
pub same_run : (e : Evaluation) (ps : Procedures) (call : Call) (m n : Rows) → e ≡ record { procs = ps; call = call; given = []; standing = Ready } → m ≡ n → run e.procs e.call m ≡ run ps call n
same_run e ps call m n fresh same = ap (λ (f : Evaluation). run f.procs f.call m) fresh ∙ ap (run ps call) same

pub applied_same : (m n : Rows) (vs ws : List Write) → m ≡ n → vs ≡ ws → ◌≡◌ {A = Applied} (record { rows = m; writes = vs }) (record { rows = n; writes = ws })
applied_same m n vs ws a b i = record { rows = a i; writes = b i }

pub on_err : {T E : Type 0} (r : Result T E) (P : Type 0) → P → OnErr r P
on_err (Ok x) P p = tt
on_err (Err e) P p = p

pub err_more : {T E : Type 0} (r : Result T E) (P Q : Type 0) → (P → Q) → OnErr r P → OnErr r Q
err_more (Ok x) P Q f h = tt
err_more (Err e) P Q f h = f h
