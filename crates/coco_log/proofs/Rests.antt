-- A log at rest stays so while another file changes.
use Rattle.std.proofs.Common.{◌≡◌, ◌≢◌, ℕ, List, [], ◌∷◌, ◌++◌, Option, Some, sym, ◌∙◌, ap, subst}
use Rattle.coco_host.specs.Files.{Files, Follows}
use Rattle.coco_host.specs.Record.{known}
use Rattle.coco_log.specs.LogState.{LogState, Holds, IsAtRest, IsMade, IsOpened, IsAppended, SameBut}

pub rests_on : (log : LogState) (bodies : List (List ℕ)) (file : ℕ) (before after : Files) (left leaves : Files → Type 0) → log.file ≢ file → SameBut file before after → Follows (SameBut file) left leaves → IsAtRest log bodies before left → IsAtRest log bodies after leaves
rests_on log bodies file before after left leaves other same follows rest = record {
  holds = subst (λ (bytes : List ℕ). Holds log bodies bytes) (sym (same log.file other)) rest.holds;
  durable = λ c is_left. let from = follows c is_left in from.2 log.file other ∙ rest.durable from.0 from.1 ∙ sym (same log.file other);
}

-- it rests in the files as they read after it was made
pub made_rests : (log : LogState) (file kind : ℕ) (before now : Files) (reads : Option Files) (may_leave : Files → Type 0) → IsMade log file kind before reads may_leave → reads ≡ Some now → (bodies : List (List ℕ)) × IsAtRest log bodies now may_leave
made_rests log file kind before now reads may_leave made is =
    ([], subst (λ (fs : Files). IsAtRest log [] fs may_leave) (ap (λ (o : Option Files). known now o) (sym made.are ∙ is)) made.rest)

-- and after an append
pub appended_rests : (old new : LogState) (bodies : List (List ℕ)) (body : List ℕ) (before now : Files) (reads : Option Files) (may_leave : Files → Type 0) → IsAppended old new bodies body before reads may_leave → reads ≡ Some now → (all : List (List ℕ)) × IsAtRest new all now may_leave
appended_rests old new bodies body before now reads may_leave appended is =
    (bodies ++ body ∷ [], subst (λ (fs : Files). IsAtRest new (bodies ++ body ∷ []) fs may_leave) (ap (λ (o : Option Files). known now o) (sym appended.are ∙ is)) appended.rest)

-- and after it was opened, in files that read as before
pub opened_rests : (log : LogState) (before now : Files) (may_leave : Files → Type 0) → IsOpened log before may_leave → Some now ≡ Some before → (bodies : List (List ℕ)) × IsAtRest log bodies now may_leave
opened_rests log before now may_leave opened same =
    (opened.bodies, subst (λ (fs : Files). IsAtRest log opened.bodies fs may_leave) (ap (λ (o : Option Files). known now o) (sym same)) opened.rest)
