-- Faults of an append as those of adding an entry.
use Rattle.std.proofs.Common.{◌≡◌, ℕ, Result, Err, OnOk, subst, sym}
use Rattle.coco_log.specs.Faults.{CountsFault}
use Rattle.coco_log.specs.declared.fault.LogFault.{LogFault}
use Rattle.coco_log.specs.declared.fault.LogFault.TheVariants.{Disk, NoMemory, NotALog, TooLong}
use Rattle.coco_append.specs.Adding.{CountsAdd, RefusesLong, add_fault_of}
use Rattle.coco_append.specs.declared.fault.AddFault.{AddFault}

pub counts_add : (T : Type 0) (f : LogFault) (old new : ℕ) → CountsFault {T = T} (Err f) old new → CountsAdd {T = T} (Err (add_fault_of f)) old new
counts_add T Disk old new counts = counts
counts_add T NoMemory old new counts = counts
counts_add T (NotALog at) old new counts = absurd counts
counts_add T TooLong old new counts = absurd counts

-- an append refuses no length
pub never_long : (T : Type 0) (f : LogFault) (count : ℕ) (Unchanged : Type 0) → RefusesLong {T = T} (Err (add_fault_of f)) count Unchanged
never_long T Disk count Unchanged = tt
never_long T NoMemory count Unchanged = tt
never_long T (NotALog at) count Unchanged = tt
never_long T TooLong count Unchanged = tt

-- what is said of an answer is said of one that is the same
pub so_counts : {T : Type 0} (r : Result T AddFault) (e : AddFault) (old new : ℕ) → r ≡ Err e → CountsAdd {T = T} (Err e) old new → CountsAdd r old new
so_counts r e old new is counts = subst (λ (o : Result _ AddFault). CountsAdd o old new) (sym is) counts

pub so_long : {T : Type 0} (r : Result T AddFault) (e : AddFault) (count : ℕ) (Unchanged : Type 0) → r ≡ Err e → RefusesLong {T = T} (Err e) count Unchanged → RefusesLong r count Unchanged
so_long r e count Unchanged is long = subst (λ (o : Result _ AddFault). RefusesLong o count Unchanged) (sym is) long

pub none_ok : {T E : Type 0} (r : Result T E) (e : E) (P : Type 0) → r ≡ Err e → OnOk r P
none_ok r e P is = subst (λ (o : Result _ _). OnOk o P) (sym is) tt
