-- How an attempt goes on, from its reads to its course.
use Rattle.std.proofs.Common.{◌≡◌, Bool, true, false, List, [], ◌∷◌, ◌++◌, Option, None, Some, refl, sym, ap, ◌∙◌, subst}
use Rattle.coco_types.specs.RowKey.{RowKey}
use Rattle.coco_types.specs.declared.call.Reply.{Reply}
use Rattle.coco_types.specs.declared.call.Write.{Write}
use Rattle.coco_ast.specs.Keyed.{Rows}
use Rattle.coco_ast.specs.Meaning.{Run, run}
use Rattle.coco_eval.specs.Needs.{HasFewKeys}
use Rattle.coco_eval.specs.Standing as eval
use Rattle.coco_shard.specs.declared.ops.Op.{Op}
use Rattle.coco_shard.specs.declared.ops.Op.TheVariants.{Read, Past}
use Rattle.coco_shard.specs.declared.ops.Answer.{Answer}
use Rattle.coco_occ.specs.Course.{exchange, outcome_by, Stands, StandsIn}
use Rattle.coco_occ.specs.Exchange.{Exchange}
use Rattle.coco_occ.specs.Keeping.{reading, reply_in, IsReading, IsBehind, GoesIn, Goes, rests_in}
use Rattle.coco_occ.specs.Trying.{Ready, Ended}
use Rattle.coco_occ.specs.declared.course.Course.{Course}
use Rattle.coco_occ.specs.declared.course.Stage.{Stage}
use Rattle.coco_occ.specs.declared.course.Stage.TheVariants as stage
use Rattle.coco_occ.proofs.AttemptLemmas.{asks, read_due, ended, snapshot_ends, Settles, reads_end, run_is}

pub goes_at : (snapshot : Bool) (e : eval.Evaluation) (asked : List Exchange) (c : Course) (reply : Reply) (due : Option Op) (at : Stage) → c.stage ≡ at → GoesIn at snapshot e asked c reply due → Goes snapshot e asked c reply due
goes_at snapshot e asked c reply due at is goes = subst (λ (a : Stage). GoesIn a snapshot e asked c reply due) (sym is) goes

behind_told : (snapshot : Bool) (e : eval.Evaluation) (asked : List Exchange) (c : Course) (reply : Reply) (due : Option Op) → IsBehind snapshot e asked c reply due → IsBehind snapshot e asked c (reply_in e.standing) due
behind_told snapshot e asked c reply due s = subst (λ (y : Reply). IsBehind snapshot e asked c y due) (sym (ap reply_in s.standing)) s

told_in : (at : Stage) (snapshot : Bool) (e : eval.Evaluation) (asked : List Exchange) (c : Course) (reply : Reply) (due : Option Op) → GoesIn at snapshot e asked c reply due → GoesIn at snapshot e asked c (reply_in e.standing) due
told_in stage.Reading snapshot e asked c reply due s = s
told_in stage.Locking snapshot e asked c reply due s = behind_told snapshot e asked c reply due s
told_in stage.Extending snapshot e asked c reply due s = behind_told snapshot e asked c reply due s
told_in stage.Installing snapshot e asked c reply due s = behind_told snapshot e asked c reply due s
told_in stage.Releasing snapshot e asked c reply due s = behind_told snapshot e asked c reply due s
told_in stage.Ended snapshot e asked c reply due s = behind_told snapshot e asked c reply due s

-- the reply is that of the run
pub goes_told : (snapshot : Bool) (e : eval.Evaluation) (asked : List Exchange) (c : Course) (reply : Reply) (due : Option Op) → Goes snapshot e asked c reply due → Goes snapshot e asked c (reply_in e.standing) due
goes_told snapshot e asked c reply due s = told_in c.stage snapshot e asked c reply due s

-- behind its reads the stage is another one
pub behind_goes : (at : Stage) (e : eval.Evaluation) (asked : List Exchange) (c : Course) (reply : Reply) (due : Option Op) → c.stage ≡ at → IsBehind false e asked c reply due → GoesIn at false e asked c reply due
behind_goes stage.Reading e asked c reply due is s = absurd (subst (λ (a : Stage). StandsIn a (run e.procs e.call s.rows) s.rows asked c due) is s.stands)
behind_goes stage.Locking e asked c reply due is s = s
behind_goes stage.Extending e asked c reply due is s = s
behind_goes stage.Installing e asked c reply due is s = s
behind_goes stage.Releasing e asked c reply due is s = s
behind_goes stage.Ended e asked c reply due is s = s

-- an operation that isn't a read is asked behind the reads
other_behind : (at : Stage) (snapshot : Bool) (e : eval.Evaluation) (asked : List Exchange) (c : Course) (reply : Reply) (op : Op) → ((key : RowKey) → op ≡ Read key → ⊥) → ((key : RowKey) → op ≡ Past key → ⊥) →
    GoesIn at snapshot e asked c reply (Some op) → IsBehind snapshot e asked c reply (Some op)
other_behind stage.Reading true e asked c reply op no_read no_past s = absurd (no_past s.waits.0 s.waits.2)
other_behind stage.Reading false e asked c reply op no_read no_past s = absurd (no_read s.waits.0 s.waits.2)
other_behind stage.Locking snapshot e asked c reply op no_read no_past s = s
other_behind stage.Extending snapshot e asked c reply op no_read no_past s = s
other_behind stage.Installing snapshot e asked c reply op no_read no_past s = s
other_behind stage.Releasing snapshot e asked c reply op no_read no_past s = s
other_behind stage.Ended snapshot e asked c reply op no_read no_past s = s

-- with its answer it goes on there
pub taken : (snapshot : Bool) (e : eval.Evaluation) (asked : List Exchange) (c d : Course) (reply : Reply) (op : Op) (answer : Answer) → ((key : RowKey) → op ≡ Read key → ⊥) → ((key : RowKey) → op ≡ Past key → ⊥) →
    Goes snapshot e asked c reply (Some op) → ((r : Run) (m : Rows) → Stands r m asked c (Some op) → Stands r m (asked ++ exchange op answer ∷ []) d None) → Goes snapshot e (asked ++ exchange op answer ∷ []) d reply None
taken true e asked c d reply op answer no_read no_past goes next =
    let s = other_behind c.stage true e asked c reply op no_read no_past goes in absurd (let g : Some op ≡ None = s.stands.nothing in cc)
taken false e asked c d reply op answer no_read no_past goes next =
    let s = other_behind c.stage false e asked c reply op no_read no_past goes in
    behind_goes d.stage e (asked ++ exchange op answer ∷ []) d reply None refl
    (record { rows = s.rows; standing = s.standing; reply_is = s.reply_is; stands = next (run e.procs e.call s.rows) s.rows s.stands })

-- ---- the steps of the run

-- a key is needed next
pub reads_next : (snapshot : Bool) (e d : eval.Evaluation) (asked : List Exchange) (c : Course) (reply : Reply) (key : RowKey) (op : Op) → c.stage ≡ stage.Reading → d ≡ asks e key → op ≡ reading snapshot key →
    IsReading snapshot e asked c None → eval.IsSound d → HasFewKeys d d.standing → Goes snapshot d asked c reply (Some op)
reads_next snapshot e d asked c reply key op at is op_is s sound few =
    goes_at snapshot d asked c reply (Some op) stage.Reading at
    (subst (λ (x : eval.Evaluation). IsReading snapshot x asked c (Some op)) (sym is)
    (subst (λ (o : Op). IsReading snapshot (asks e key) asked c (Some o)) (sym op_is)
    (read_due snapshot e asked c key s (subst eval.IsSound is sound) (subst (λ (x : eval.Evaluation). HasFewKeys x x.standing) is few))))

-- a snapshot call has read all keys
pub snapshot_next : (snapshot : Bool) (e d : eval.Evaluation) (asked : List Exchange) (c f : Course) (reply : Reply) (writes : List Write) → snapshot ≡ true → d ≡ ended e reply writes → f ≡ record c { stage = stage.Ended; time = Some 0 } →
    IsReading snapshot e asked c None → eval.IsSound d → Goes snapshot d asked f reply None
snapshot_next snapshot e d asked c f reply writes kind is f_is s sound =
    subst (λ (x : Course). Goes snapshot d asked x reply None) (sym f_is)
    (subst (λ (b : Bool). IsBehind b d asked (record c { stage = stage.Ended; time = Some 0 }) reply None) (sym kind)
    (subst (λ (x : eval.Evaluation). IsBehind true x asked (record c { stage = stage.Ended; time = Some 0 }) reply None) (sym is)
    (snapshot_ends e asked c reply writes (subst (λ (b : Bool). IsReading b e asked c None) kind s) (subst eval.IsSound is sound))))

-- any other call has, and goes on with its locks
pub course_next : (snapshot : Bool) (e d : eval.Evaluation) (asked : List Exchange) (c f g : Course) (reply : Reply) (writes : List Write) (due : Option Op) → snapshot ≡ false → d ≡ ended e reply writes → Settles c f writes →
    IsReading snapshot e asked c None → eval.IsSound d → HasFewKeys d d.standing → ((r : Run) (m : Rows) → r.writes ≡ writes → Stands r m asked f None → Stands r m asked g due) → Goes snapshot d asked g reply due
course_next snapshot e d asked c f g reply writes due kind is settled s sound few next =
    let t = subst (λ (b : Bool). IsReading b e asked c None) kind s in
    let sound_end = subst eval.IsSound is sound in
    let h = reads_end e asked c f reply writes t sound_end (subst (λ (x : eval.Evaluation). HasFewKeys x x.standing) is few) settled in
    let r = run e.procs e.call h.0 in
    let now = run_is e reply writes h.0 sound_end h.1 in
    let writes_are : r.writes ≡ writes = ap (λ (x : Run). x.writes) now.1 in
    let stands : Stands r h.0 asked f None = subst (λ (a : Stage). StandsIn a r h.0 asked f None) (sym (ap (λ (x : Course). x.stage) settled.others)) h.2 in
    subst (λ (b : Bool). Goes b d asked g reply due) (sym kind)
    (subst (λ (x : eval.Evaluation). Goes false x asked g reply due) (sym is)
    (behind_goes g.stage (ended e reply writes) asked g reply due refl (record {
      rows = h.0;
      standing = ap (λ (ws : List Write). eval.Ended reply ws) (sym writes_are);
      reply_is = ap (λ (x : Run). x.reply) now.1;
      stands = next r h.0 writes_are stands;
    })))

-- ---- behind the reads

behind_proceeds : (snapshot : Bool) (e : eval.Evaluation) (asked : List Exchange) (c d : Course) (reply : Reply) (due : Option Op) → IsBehind snapshot e asked c reply None → (c.stage ≡ stage.Ended → ⊥) →
    ((r : Run) (m : Rows) (y : Reply) (ws : List Write) → e.standing ≡ eval.Ended y ws → r.writes ≡ ws → Stands r m asked c None → Stands r m asked d due) → Goes snapshot e asked d reply due
behind_proceeds true e asked c d reply due s going next = absurd (going s.stands.ended)
behind_proceeds false e asked c d reply due s going next =
    behind_goes d.stage e asked d reply due refl (record { rows = s.rows; standing = s.standing; reply_is = s.reply_is; stands = next (run e.procs e.call s.rows) s.rows reply (run e.procs e.call s.rows).writes s.standing refl s.stands })

-- an attempt that is ready isn't at its end
pub proceeds : (at : Stage) (snapshot : Bool) (e : eval.Evaluation) (asked : List Exchange) (c d : Course) (reply : Reply) (due : Option Op) → c.stage ≡ at → (at ≡ stage.Reading → ⊥) → rests_in at c reply [] ≡ Ready → GoesIn at snapshot e asked c reply None →
    ((r : Run) (m : Rows) (y : Reply) (ws : List Write) → e.standing ≡ eval.Ended y ws → r.writes ≡ ws → Stands r m asked c None → Stands r m asked d due) → Goes snapshot e asked d reply due
proceeds stage.Reading snapshot e asked c d reply due is other ready s next = absurd (other refl)
proceeds stage.Ended snapshot e asked c d reply due is other ready s next = absurd (let g : Ended (outcome_by c.conflict c.time reply) [] ≡ Ready = ready in cc)
proceeds stage.Locking snapshot e asked c d reply due is other ready s next = behind_proceeds snapshot e asked c d reply due s (λ h. let g : stage.Locking ≡ stage.Ended = sym is ∙ h in cc) next
proceeds stage.Extending snapshot e asked c d reply due is other ready s next = behind_proceeds snapshot e asked c d reply due s (λ h. let g : stage.Extending ≡ stage.Ended = sym is ∙ h in cc) next
proceeds stage.Installing snapshot e asked c d reply due is other ready s next = behind_proceeds snapshot e asked c d reply due s (λ h. let g : stage.Installing ≡ stage.Ended = sym is ∙ h in cc) next
proceeds stage.Releasing snapshot e asked c d reply due is other ready s next = behind_proceeds snapshot e asked c d reply due s (λ h. let g : stage.Releasing ≡ stage.Ended = sym is ∙ h in cc) next
