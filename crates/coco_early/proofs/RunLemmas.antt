-- What one call writes: each key once.
use Rattle.std.proofs.Common.{◌≡◌, inl, inr, List, [], ◌∷◌, sym, ap, ◌∙◌, Less, is_eq}
use Rattle.coco_types.proofs.Keys.{key_itself}
use Rattle.coco_types.specs.RowKey.{RowKey, key_cmp}
use Rattle.coco_types.specs.declared.call.Call.{Call}
use Rattle.coco_types.specs.declared.call.Write.{Write}
use Rattle.coco_ast.proofs.Writing.{Ascend, IsBelowAll, ascend_put}
use Rattle.coco_ast.specs.Keyed.{Rows}
use Rattle.coco_ast.specs.Meaning.{Access, Ends, Flow, Goes, Reads, Refuses, Writes, flow_of, procedure_at, put_write, run, run_of, writes_after}
use Rattle.coco_ast.specs.Tree.{Procedures}
use Rattle.coco_order.specs.OneKey.{Among}
use Rattle.coco_early.proofs.Members.{of_all, two_sides}

less_itself : (k : RowKey) → key_cmp k k ≡ Less → ⊥
less_itself k h = two_sides (sym (key_itself k) ∙ ap is_eq h)

below : (u v : Write) (ws : List Write) → IsBelowAll u.key ws → Among ws v → u.key ≡ v.key → ⊥
below u v ws all among same = less_itself u.key (ap (key_cmp u.key) same ∙ of_all (λ (w : Write). key_cmp u.key w.key ≡ Less) ws v all among)

one_of : (ws : List Write) → Ascend ws → (w v : Write) → Among ws w → Among ws v → w.key ≡ v.key → w ≡ v
one_of [] rise w v in_w in_v same = absurd in_w
one_of (u ∷ ws) rise w v (inl p) (inl q) same = sym p ∙ q
one_of (u ∷ ws) rise w v (inl p) (inr q) same = absurd (below u v ws rise.0 q (ap (λ (z : Write). z.key) p ∙ same))
one_of (u ∷ ws) rise w v (inr p) (inl q) same = absurd (below u w ws rise.0 p (ap (λ (z : Write). z.key) q ∙ sym same))
one_of (u ∷ ws) rise w v (inr p) (inr q) same = one_of ws rise.1 w v p q same

rise_after : (xs : List Access) (ws : List Write) → Ascend ws → Ascend (writes_after ws xs)
rise_after [] ws rise = rise
rise_after (Reads k ∷ xs) ws rise = rise_after xs ws rise
rise_after (Writes k v ∷ xs) ws rise = rise_after xs (put_write k v ws) (ascend_put k v ws rise)

flow_rises : (m : Rows) (f : Flow) → Ascend (run_of m f).writes
flow_rises m (Goes s) = rise_after s.accesses [] tt
flow_rises m (Ends s v) = rise_after s.accesses [] tt
flow_rises m (Refuses s c) = tt

run_rises : (ps : Procedures) (call : Call) (m : Rows) → Ascend (run ps call m).writes
unfolding run
run_rises ps call m = flow_rises m (flow_of ps m (procedure_at ps.procs call.proc_no) call.args)

pub writes_once : (ps : Procedures) (call : Call) (m : Rows) (w v : Write) → Among (run ps call m).writes w → Among (run ps call m).writes v → w.key ≡ v.key → w ≡ v
writes_once ps call m = one_of (run ps call m).writes (run_rises ps call m)
