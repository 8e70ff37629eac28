-- What the whole call answers, by what its steps did.
use Rattle.std.proofs.Common.{◌≡◌, ℕ, List, Option, Result, Ok, Err, refl, sym, subst}
use Rattle.std.specs.Prelude.{OnOk}
use Rattle.coco_host.specs.Files.{Files}
use Rattle.coco_host.specs.Moments.{Observation}
use Rattle.coco_host.specs.declared.host.Host.{Ghosts as HostGhosts}
use Rattle.coco_append.specs.Gaining.{GainsAs, RestsAs}
use Rattle.coco_entry.specs.declared.layout.Layout.{Layout}
use Rattle.coco_read.specs.declared.fault.OpenFault.{OpenFault}
use Rattle.coco_read.specs.declared.fault.OpenFault.TheVariants.{Disk, NoMemory, NotAStore}
use Rattle.coco_rebuild.specs.Answers.{AnswersFor, MayWrite, rebuild_fault_of}
use Rattle.coco_rebuild.specs.declared.fault.RebuildFault.{RebuildFault}
use Rattle.coco_rebuild.specs.declared.fault.RebuildFault.TheVariants as fault

-- a fault of the reading, or of the writing
pub answers_fault : (node : ℕ) (layout : Layout) (f : OpenFault) → ((file at : ℕ) → f ≡ NotAStore file at → ⊥) → AnswersFor node layout (Err (rebuild_fault_of f))
answers_fault node layout Disk kept = tt
answers_fault node layout (NotAStore file at) kept = kept file at refl
answers_fault node layout NoMemory kept = tt

pub writes_fault : (f : OpenFault) → MayWrite (Err (rebuild_fault_of f))
writes_fault Disk = tt
writes_fault (NotAStore file at) = tt
writes_fault NoMemory = tt

pub fault_back : (f : OpenFault) (file at : ℕ) → rebuild_fault_of f ≡ fault.NotAStore file at → f ≡ NotAStore file at
fault_back Disk file at is = cc
fault_back (NotAStore g b) file at is = cc
fault_back NoMemory file at is = cc

-- what is gained, where the last step's answer is told on
pub gains_failed : {H : Type 0} (frame : HostGhosts H)
    (inner : Result (Unit {0}) OpenFault) (e : RebuildFault) (Was Now : Files → Type 0) (old new : H) → GainsAs frame inner Was Now old new
    → (result : Result (Unit {0}) RebuildFault) → result ≡ Err e → GainsAs frame result Was Now old new
gains_failed frame inner e Was Now old new gains result is = record {
  ok = subst (λ (r : Result (Unit {0}) RebuildFault). OnOk r (RestsAs Now (frame.reads new) (frame.may_leave new))) (sym is) tt;
  moments = gains.moments;
  left = gains.left;
}

pub gains_done : {H : Type 0} (frame : HostGhosts H)
    (inner : Result (Unit {0}) OpenFault) (u v : Unit {0}) (Was Now : Files → Type 0) (old new : H) → inner ≡ Ok u → GainsAs frame inner Was Now old new
    → GainsAs {T = Unit {0}} {E = RebuildFault} frame (Ok v) Was Now old new
gains_done frame inner u v Was Now old new is gains = record {
  ok = subst (λ (r : Result (Unit {0}) OpenFault). OnOk r (RestsAs Now (frame.reads new) (frame.may_leave new))) is gains.ok;
  moments = gains.moments;
  left = gains.left;
}
