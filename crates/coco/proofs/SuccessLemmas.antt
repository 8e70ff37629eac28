-- A command whose faults have no cause is done, or memory ran out.
use Rattle.std.proofs.Common.{◌≡◌, ◌⊎◌, ⊎_elim, inl, inr, ℕ, ◌+◌, ◌<◌, ◌≤◌, List, [], ◌∷◌, ◌++◌, length, Option, Some, Result, Ok, Err, refl, sym, ap, subst, ◌∙◌, arith, true≢false}
use Rattle.std.specs.Io.KnownBytes.{append_known}
use Rattle.std.specs.Option.{IfSome}
use Rattle.std.proofs.lemmas.List.{append_cancel_left, length-append}
use Rattle.coco_types.specs.Limits.{most_input_bytes}
use Rattle.coco_types.specs.declared.call.Done.{Done}
use Rattle.coco_types.specs.declared.call.Request.{Request}
use Rattle.coco_append.specs.Gaining.{GainsAs, HasStore, RestsAs}
use Rattle.coco_asks.specs.Answering.{SaysAnswers}
use Rattle.coco_asks.specs.Answering.{HasCause as HasCauseOfAsking}
use Rattle.coco_asks.specs.Asking.{answers_from}
use Rattle.coco_asks.specs.declared.ending.Asked.{Asked}
use Rattle.coco_asks.specs.declared.ending.Asked.TheVariants as asked
use Rattle.coco_ast.specs.History.{History, IsSerial, RepliesAreRuns, epoch_dones, rows_after}
use Rattle.coco_ast.specs.Keyed.{Rows}
use Rattle.coco_ast.specs.Meaning.{run as run_of}
use Rattle.coco_ast.specs.Tree.{Procedures}
use Rattle.coco_audit.specs.Differing.{IsFirstUnlike}
use Rattle.coco_audit.specs.Texts.{serial_text}
use Rattle.coco_audit.specs.declared.verify.NotSerial.{NotSerial}
use Rattle.coco_ckpt.specs.Compacting.{HasCompacted}
use Rattle.coco_ending.specs.declared.ending.Ending.{Ending}
use Rattle.coco_ending.specs.declared.ending.Ending.TheVariants as ending
use Rattle.coco_entry.specs.declared.layout.Layout.{Layout}
use Rattle.coco_host.specs.Files.{Files}
use Rattle.coco_host.specs.declared.host.Host.{Ghosts as HostGhosts}
use Rattle.coco_init.specs.Counts.{CountsDisk, CountsReads}
use Rattle.coco_init.specs.Initiating.{Initiates}
use Rattle.coco_init.specs.Texts.{HasOneAnswer}
use Rattle.coco_io.specs.Counts.{Rose}
use Rattle.coco_lines.specs.Batches.{Batch, joined}
use Rattle.coco_lines.specs.Classes.{known_in, new_of}
use Rattle.coco_lines.specs.Growing.{GrowsByBatches}
use Rattle.coco_lines.specs.Lines.{Line, lines_of}
use Rattle.coco_lines.specs.Reads.{Gives, SourceMoment}
use Rattle.coco_lines.specs.declared.class.Class.{Class}
use Rattle.coco_log.specs.Faults.{CountsFault}
use Rattle.coco_log.specs.declared.fault.LogFault.{LogFault}
use Rattle.coco_log.specs.declared.fault.LogFault.TheVariants as fault
use Rattle.coco_make.specs.NewStore.{new_layout}
use Rattle.coco_rebuild.specs.Answers.{AnswersFor, CountsRebuild, IsLeftAlone, MakesAgain}
use Rattle.coco_rebuild.specs.Rebuilding.{HasRebuilt}
use Rattle.coco_rebuild.specs.declared.fault.RebuildFault.{RebuildFault}
use Rattle.coco_rebuild.specs.declared.fault.RebuildFault.TheVariants as rebuilding
use Rattle.coco_commands.specs.Keeping.{contents_keeping}
use Rattle.coco_commands.specs.Migrating.{ending_of_adding}
use Rattle.coco_commands.specs.Querying.{IsNotAsked, MayBeAsked, ending_of_asking, past_at, streams_of}
use Rattle.coco_commands.specs.Rebuilding.{ending_of_rebuilding}
use Rattle.coco_commands.specs.Opening.{FailsToOpen}
use Rattle.coco_commands.specs.Running.{Opens}
use Rattle.coco_commands.specs.Stopping.{ending_of}
use Rattle.coco_lines.proofs.ClassLemmas.{classes_length}
use Rattle.coco_commands.proofs.ServingLemmas.{added_by, all_later, all_spare, few_have_numbers, few_new, joined-more, none_spare, spare_then}
use Rattle.coco_store.specs.Contents.{Contents, Holds, history_of}
use Rattle.coco_store.specs.Refusals.{IsFirstRefusal, RefusedIsNone}
use Rattle.coco_store.specs.Texts.{IsAcceptedText}
use Rattle.coco_commands.specs.Telling.{IsVerdict, SaysText}
use Rattle.coco_commands.specs.Trying.{OpensToTry}
use Rattle.coco_commands.specs.Workloads as workloads
use Rattle.coco_commands.specs.Faulted as stop
use Rattle.coco_commands.specs.Serving.{Around, Counts, epochs_of, HasCause, manner_of, Outside, RunBounds, Serves, Stop}
use Rattle.coco_words.specs.declared.Command.TheVariants.{Compact, Dump, Init, Migrate, Query, Rebuild, Run, Try, Verify}
use Rattle.coco.specs.Commands.{counts_of, disturbed, ending_in, bounds_of}
use Rattle.coco.specs.Success.{AllAreAnswered, AllAreTold, CompactSucceeds, DumpSucceeds, FewLinesHaveNumbers, FewRequestsHaveNumbers, HaveNumbers, HaveNumbersFor, InitSucceeds, DoneOrNoMemory, MigrateSucceeds, NoneRose, QuerySucceeds, ReadsEmpty, ReadsWithout, RebuildSucceeds, RunSucceeds, TrySucceeds, VerifySucceeds}

-- ---- numbers

few_epochs_of : (rs : List Request) → epochs_of rs ≤ length rs
few_epochs_of [] = omega arith
few_epochs_of (r ∷ rs) = omega arith

-- a history has no more epochs more than the batches have lines
gains_few : (procs : Procedures) (before : History) (bs : List Batch) (cs : List (List Class)) (after : History) → GrowsByBatches procs before bs cs after
    → length after.epochs ≤ length before.epochs + length (joined bs)
gains_few procs before [] cs after grows = (let same = ap (λ (h : History). length h.epochs) grows.1 in omega (arith, same))
gains_few procs before (b ∷ bs) [] after grows = absurd grows
gains_few procs before (b ∷ bs) (cs ∷ classes) after grows =
    let gained = added_by before (new_of cs) grows.0 grows.1.grows in
    let more = ap length gained.1 ∙ length-append before.epochs gained.0 in
    let epochs = few_epochs_of (new_of cs) in
    let fresh = few_new cs in
    let lines = classes_length procs (known_in before) b cs grows.1.are in
    let rest = gains_few procs grows.0 bs classes after grows.2 in
    omega (arith, gained.2, more, epochs, fresh, lines, rest, length-append b (joined bs))

pub few_lines_have_numbers : FewLinesHaveNumbers
few_lines_have_numbers c next bounds bytes few p used =
    let gained = gains_few c.setting.tree (history_of c) p.batches p.classes p.history p.grown.grown in
    let more = ap length p.numbers.epochs ∙ length-append (history_of c).epochs p.numbers.added in
    let all = ap length used.has_next.first.lines ∙ length-append (joined (p.batches ++ used.has_next.batch ∷ [])) used.has_next.first.others in
    let both = ap length (joined-more p.batches used.has_next.batch) ∙ length-append (joined p.batches) used.has_next.batch in
    let fresh = few_new used.has_next.classes in
    let lines = classes_length c.setting.tree (known_in p.history) used.has_next.batch used.has_next.classes used.has_next.are in
    let end = used.end in
    let some = used.has_next.some in
    omega (arith, few, gained, more, all, both, fresh, lines, end, some)

pub few_requests_have_numbers : FewRequestsHaveNumbers
few_requests_have_numbers c next bounds requests few = few_have_numbers (manner_of c.setting bounds) (history_of c) next bounds.size requests few

-- ---- openings and texts

-- a store that isn't refused is opened, unless memory runs out
opened_or_memory : (how : Ending) (told : Option Files) (files : Files) (before after : ℕ) → told ≡ Some files → ((file at : ℕ) → ¬ (IsFirstRefusal files file at))
    → ¬ (Rose before after) → FailsToOpen how told before after → how ≡ ending.NoMemory
opened_or_memory ending.DiskFault told files before after are sound faultless cause = absurd (faultless cause)
opened_or_memory (ending.NotAStore file at) told files before after are sound faultless cause =
    absurd (sound file at (subst (λ (r : Option Files). IfSome r (λ fs. IsFirstRefusal fs file at)) are cause.1))
opened_or_memory ending.NoMemory told files before after are sound faultless cause = refl
opened_or_memory how told files before after are sound faultless cause = absurd cause

-- a seed of disturbances moves no count
none_disturbed : (seed : Option ℕ) (before after : Outside) → NoneRose before after → NoneRose (disturbed seed before) after
none_disturbed seed before after none = record { source = none.source; stream = none.stream; disk = none.disk; net = none.net; power = none.power }

-- a text is said whole, unless memory runs out
said_or_memory : (text : List ℕ) (own how : Ending) (before now : Option (List ℕ)) (old new : Counts) → ¬ (Rose old.say new.say) → SaysText text own how before now old new
    → ((how ≡ own) × (now ≡ append_known before text)) ⊎ (how ≡ ending.NoMemory)
said_or_memory text own ending.SayFault before now old new faultless says = absurd (faultless says.0)
said_or_memory text own ending.NoMemory before now old new faultless says = inr refl
said_or_memory text own how before now old new faultless says = inl (says.1, says.2)

-- a source gave one list of bytes
one_giving : (before after : SourceMoment) (xs ys : List ℕ) → Gives before after xs → Gives before after ys → xs ≡ ys
one_giving before after xs ys some others = append_cancel_left before.given xs ys (sym some.given ∙ others.given)

-- ---- serial histories

reply_is_run : (procs : Procedures) (rows : Rows) (before : List Done) (d : Done) (behind : List Done) → RepliesAreRuns procs rows (before ++ d ∷ behind)
    → d.reply ≡ (run_of procs d.call (rows_after procs rows before)).reply
reply_is_run procs rows [] d behind runs = runs.0
reply_is_run procs rows (e ∷ before) d behind runs = reply_is_run procs (run_of procs e.call rows).rows before d behind runs.1

none_is_unlike : (procs : Procedures) (rows : Rows) (dones : List Done) (found : NotSerial) → RepliesAreRuns procs rows dones → ¬ (IsFirstUnlike procs rows dones found)
none_is_unlike procs rows dones found runs unlike =
    unlike.differ (unlike.kept ∙ reply_is_run procs rows unlike.before unlike.done unlike.behind (subst (RepliesAreRuns procs rows) unlike.whole runs) ∙ sym unlike.computed)

verdict_is_serial : (c : Contents) (text : List ℕ) (own : Ending) → IsSerial c.setting.tree (history_of c) → IsVerdict c text own
    → (own ≡ ending.Finished) × (text ≡ serial_text (length (epoch_dones (history_of c))))
verdict_is_serial c text ending.Finished serial verdict = (refl, verdict.1)
verdict_is_serial c text (ending.NotSerial place) serial verdict =
    absurd (none_is_unlike c.setting.tree (history_of c).base.rows (epoch_dones (history_of c)) verdict.0 serial.replies verdict.1)
verdict_is_serial c text own serial verdict = absurd verdict

-- ---- each command

module _ {H : Type 0} (frame : HostGhosts H) where
  served_or_memory : (c : Contents) (next : ℕ) (bounds : RunBounds) (bytes : List ℕ) (how : Ending) (before after : Outside) (old opened new : H) (s : Result (Unit {0}) Stop)
      → how ≡ ending_of s → NoneRose before after → length bytes < most_input_bytes → HaveNumbers c next bounds bytes → HasCause next bytes before after s
      → Serves frame c next 0 bounds bytes s opened new
      → DoneOrNoMemory how (HasCause next bytes before after (Ok tt) × Serves frame c next 0 bounds bytes (Ok tt) opened new)
  served_or_memory c next bounds bytes how before after old opened new (Ok done) ends faultless few numbers cause serves = inl (ends, (cause, serves))
  served_or_memory c next bounds bytes how before after old opened new (Err stop.Read) ends faultless few numbers cause serves =
      absurd (⊎_elim faultless.source (λ full. omega (arith, few, full)) cause)
  served_or_memory c next bounds bytes how before after old opened new (Err stop.Say) ends faultless few numbers cause serves = absurd (faultless.stream cause)
  served_or_memory c next bounds bytes how before after old opened new (Err stop.Disk) ends faultless few numbers cause serves = absurd (faultless.disk cause)
  served_or_memory c next bounds bytes how before after old opened new (Err (stop.NotAStore file at)) ends faultless few numbers cause serves = absurd serves.ends
  served_or_memory c next bounds bytes how before after old opened new (Err stop.Unreachable) ends faultless few numbers cause serves =
      let given_up = all_spare 4 cause.0 after.around cause.2 in
      let none = none_spare before.around after.around faultless.net faultless.power in
      let adds = spare_then before.around cause.0 after.around cause.1 (all_later 4 cause.0 after.around cause.2) in
      absurd (omega (arith, given_up, none, adds))
  served_or_memory c next bounds bytes how before after old opened new (Err stop.EpochsUsedUp) ends faultless few numbers cause serves = absurd (numbers serves.progress serves.ends.2)
  served_or_memory c next bounds bytes how before after old opened new (Err stop.NoMemory) ends faultless few numbers cause serves = inr ends

  pub run_succeeds : RefusedIsNone → RunSucceeds frame
  run_succeeds refused run how before after old new c bytes faultless store gives may =
      ⊎_elim
      (λ does. ⊎_elim (λ closed. inr (opened_or_memory how (frame.reads old) store.files before.disk_faults after.disk_faults store.are (λ file at is. refused store.files file at is c store.good.holds) faultless.none_rose.disk closed.cause)) answered does)
      (λ lacks. inr lacks.0) (faultless.obeyed.command (Run run) faultless.is)
    where
      answered : Opens frame (bounds_of run) how (disturbed run.disturb before) after old new → DoneOrNoMemory how (AllAreAnswered frame c (bounds_of run) bytes after old new)
      answered opens =
          let next = opens.is_next store.files c store.are store.good.holds in
          let same = one_giving before.source after.source opens.bytes bytes opens.gives gives in
          let cause = subst (λ (b : List ℕ). HasCause opens.next b (disturbed run.disturb before) after opens.served) same opens.cause in
          let none = none_spare (disturbed run.disturb before).around after.around faultless.none_rose.net faultless.none_rose.power in
          let serves = subst (λ (b : List ℕ). Serves frame c opens.next 0 (bounds_of run) b opens.served opens.opened new) same
          (subst (λ (n : ℕ). Serves frame c opens.next n (bounds_of run) opens.bytes opens.served opens.opened new) none (opens.serves store.files c store.are store.good)) in
          ⊎_elim
          (λ done. inl (done.0, record { opened = opens.opened; opening = opens.opening; next = opens.next; is_next = next; spent = done.1.0; serves = done.1.1 })) inr
          (served_or_memory c opens.next (bounds_of run) bytes how (disturbed run.disturb before) after old opens.opened new opens.served opens.ends (none_disturbed run.disturb before after faultless.none_rose) may.few (may.numbers opens.next next) cause serves)

  tried_or_memory : (c : Contents) (next : ℕ) (bounds : RunBounds) (requests : List Request) (how : Ending) (was now : Around) (before after : Counts) (opened new : H) (result : Result (Unit {0}) Stop)
      → how ≡ ending_of result → ¬ (Rose before.say after.say) → ¬ (Rose before.disk after.disk) → ¬ (Rose was.faults now.faults) → ¬ (Rose was.early now.early) → HaveNumbersFor c next bounds requests
      → workloads.HasCause next (length requests) was now before after result → workloads.Tries frame c next 0 bounds requests result opened new
      → DoneOrNoMemory how (workloads.Tries frame c next 0 bounds requests (Ok tt) opened new)
  tried_or_memory c next bounds requests how was now before after opened new (Ok done) ends stream disk net power numbers cause tries = inl (ends, tries)
  tried_or_memory c next bounds requests how was now before after opened new (Err stop.Read) ends stream disk net power numbers cause tries = absurd cause
  tried_or_memory c next bounds requests how was now before after opened new (Err stop.Say) ends stream disk net power numbers cause tries = absurd (stream cause)
  tried_or_memory c next bounds requests how was now before after opened new (Err stop.Disk) ends stream disk net power numbers cause tries = absurd (disk cause)
  tried_or_memory c next bounds requests how was now before after opened new (Err (stop.NotAStore file at)) ends stream disk net power numbers cause tries = absurd tries.ends
  tried_or_memory c next bounds requests how was now before after opened new (Err stop.Unreachable) ends stream disk net power numbers cause tries =
      let given_up = all_spare 4 cause.0 now cause.2 in
      let none = none_spare was now net power in
      let adds = spare_then was cause.0 now cause.1 (all_later 4 cause.0 now cause.2) in
      absurd (omega (arith, given_up, none, adds))
  tried_or_memory c next bounds requests how was now before after opened new (Err stop.EpochsUsedUp) ends stream disk net power numbers cause tries = absurd (numbers tries.progress tries.ends.2)
  tried_or_memory c next bounds requests how was now before after opened new (Err stop.NoMemory) ends stream disk net power numbers cause tries = inr ends

  pub try_succeeds : RefusedIsNone → TrySucceeds frame
  try_succeeds refused calls seed run how before after old new c faultless store numbers =
      ⊎_elim
      (λ does. ⊎_elim
      (λ closed. inr (opened_or_memory how (frame.reads old) store.files before.disk_faults after.disk_faults store.are (λ file at is. refused store.files file at is c store.good.holds) faultless.none_rose.disk closed.untold.cause))
      told does.1)
      (λ lacks. inr lacks.0) (faultless.obeyed.command (Try calls seed run) faultless.is)
    where
      told : OpensToTry frame (bounds_of run) (workloads.workload_of calls seed) how (disturbed run.disturb before).around after.around (counts_of before) (counts_of after) old new
          → DoneOrNoMemory how (AllAreTold frame c (bounds_of run) (workloads.workload_of calls seed) old new)
      told opens =
          let requests = workloads.workload_of calls seed in
          let was = (disturbed run.disturb before).around in
          let next = opens.is_next store.files c store.are store.good.holds in
          let none = none_spare was after.around faultless.none_rose.net faultless.none_rose.power in
          let tries = subst (λ (n : ℕ). workloads.Tries frame c opens.next n (bounds_of run) requests opens.result opens.opened new) none (opens.tries store.files c store.are store.good) in
          ⊎_elim (λ done. inl (done.0, record { opened = opens.opened; opening = opens.opening; next = opens.next; is_next = next; tries = done.1 })) inr
          (tried_or_memory c opens.next (bounds_of run) requests how was after.around (counts_of before) (counts_of after) opens.opened new opens.result opens.ends faultless.none_rose.stream faultless.none_rose.disk
          faultless.none_rose.net faultless.none_rose.power (numbers opens.next next) opens.cause tries)

  made_or_memory : (layout : Layout) (text : List ℕ) (tree : Procedures) (how : Ending) (before after : Outside) (old new : H) (result : Result (Unit {0}) Ending)
      → how ≡ ending_in result → HasOneAnswer text → IsAcceptedText text tree → ReadsEmpty (frame.reads old) → NoneRose before after
      → CountsReads result before.source_faults after.source_faults → CountsDisk result before.disk_faults after.disk_faults
      → Initiates frame result layout text after.source old new
      → DoneOrNoMemory how (Initiates frame (Ok tt) layout text after.source old new)
  made_or_memory layout text tree how before after old new (Ok u) ends one accepted empty faultless reading disk makes = inl (ends, makes)
  made_or_memory layout text tree how before after old new (Err ending.ReadFault) ends one accepted empty faultless reading disk makes = absurd (faultless.source reading)
  made_or_memory layout text tree how before after old new (Err ending.DiskFault) ends one accepted empty faultless reading disk makes = absurd (faultless.disk disk)
  made_or_memory layout text tree how before after old new (Err ending.NoMemory) ends one accepted empty faultless reading disk makes = inr ends
  made_or_memory layout text tree how before after old new (Err (ending.Refused e)) ends one accepted empty faultless reading disk makes =
      (let same = one (Ok tree) (Err e) accepted makes.0 in cc)
  made_or_memory layout text tree how before after old new (Err (ending.AlreadyThere bytes)) ends one accepted empty faultless reading disk makes =
      let some = makes.0 in
      let counted = subst (λ (r : Option Files). IfSome r (λ files. bytes ≡ length (files 0))) empty.are makes.1 in
      let none = ap length empty.empty in
      absurd (omega (arith, some, counted, none))
  made_or_memory layout text tree how before after old new (Err e) ends one accepted empty faultless reading disk makes = absurd makes

  pub init_succeeds : ((text : List ℕ) → HasOneAnswer text) → InitSucceeds frame
  init_succeeds one nodes partitions copies how before after old new text tree faultless empty gives accepted =
      ⊎_elim
      (λ inits.
      let same = one_giving before.source after.source inits.text text inits.gives gives in
      made_or_memory (new_layout nodes partitions copies text) text tree how before after old new inits.result inits.ends (one text) accepted empty faultless.none_rose inits.reading inits.disk
      (subst (λ (t : List ℕ). Initiates frame inits.result (new_layout nodes partitions copies t) t after.source old new) same inits.initiates))
      (λ lacks. inr lacks.0) (faultless.obeyed.command (Init nodes partitions copies) faultless.is)

  pub dump_succeeds : RefusedIsNone → DumpSucceeds frame
  dump_succeeds refused how before after old new c faultless store =
      ⊎_elim
      (λ does. ⊎_elim
      (λ closed. inr (opened_or_memory how (frame.reads old) store.files before.disk_faults after.disk_faults store.are (λ file at is. refused store.files file at is c store.good.holds) faultless.none_rose.disk closed.cause))
      (λ tells.
      let is = tells.of_store store.files c store.are store.good.holds store.good.rows in
      ⊎_elim (λ done. inl (done.0 ∙ tells.ends, done.1 ∙ ap (append_known (frame.said old)) is)) inr
      (said_or_memory tells.text tells.own how (frame.said old) (frame.said new) (counts_of before) (counts_of after) faultless.none_rose.stream tells.says)) does.1)
      (λ lacks. inr lacks.0) (faultless.obeyed.command Dump faultless.is)

  pub verify_succeeds : RefusedIsNone → VerifySucceeds frame
  verify_succeeds refused how before after old new c faultless store =
      ⊎_elim
      (λ does. ⊎_elim
      (λ closed. inr (opened_or_memory how (frame.reads old) store.files before.disk_faults after.disk_faults store.are (λ file at is. refused store.files file at is c store.good.holds) faultless.none_rose.disk closed.cause))
      (λ tells.
      let is = verdict_is_serial c tells.text tells.own store.good.serial (tells.of_store store.files c store.are store.good.holds tt) in
      ⊎_elim (λ done. inl (done.0 ∙ is.0, done.1 ∙ ap (append_known (frame.said old)) is.1)) inr
      (said_or_memory tells.text tells.own how (frame.said old) (frame.said new) (counts_of before) (counts_of after) faultless.none_rose.stream tells.says)) does.1)
      (λ lacks. inr lacks.0) (faultless.obeyed.command Verify faultless.is)

  added_or_memory : (Was Now : Files → Type 0) (how : Ending) (before after : ℕ) (opened new : H) (added : Result (Unit {0}) LogFault) → how ≡ ending_of_adding added → ¬ (Rose before after)
      → CountsFault added before after → GainsAs frame added Was Now opened new → DoneOrNoMemory how (RestsAs Now (frame.reads new) (frame.may_leave new))
  added_or_memory Was Now how before after opened new (Ok u) ends faultless cause gains = inl (ends, gains.ok)
  added_or_memory Was Now how before after opened new (Err fault.Disk) ends faultless cause gains = absurd (faultless cause)
  added_or_memory Was Now how before after opened new (Err fault.NoMemory) ends faultless cause gains = inr ends
  added_or_memory Was Now how before after opened new (Err (fault.NotALog at)) ends faultless cause gains = absurd cause
  added_or_memory Was Now how before after opened new (Err fault.TooLong) ends faultless cause gains = absurd cause

  pub migrate_succeeds : RefusedIsNone → MigrateSucceeds frame
  migrate_succeeds refused keep how before after old new c faultless store =
      ⊎_elim
      (λ does. ⊎_elim
      (λ closed. inr (opened_or_memory how (frame.reads old) store.files before.disk_faults after.disk_faults store.are (λ file at is. refused store.files file at is c store.good.holds) faultless.none_rose.disk closed.cause))
      (λ sets. added_or_memory (HasStore c) (HasStore (contents_keeping keep c)) how before.disk_faults after.disk_faults sets.opened new sets.added sets.ends faultless.none_rose.disk sets.cause (sets.gains store.files c store.are store.good)) does.1)
      (λ lacks. inr lacks.0) (faultless.obeyed.command (Migrate keep) faultless.is)

  pub compact_succeeds : RefusedIsNone → CompactSucceeds frame
  compact_succeeds refused how before after old new c faultless store =
      ⊎_elim
      (λ does. ⊎_elim
      (λ closed. inr (opened_or_memory how (frame.reads old) store.files before.disk_faults after.disk_faults store.are (λ file at is. refused store.files file at is c store.good.holds) faultless.none_rose.disk closed.cause))
      (λ makes. added_or_memory (HasStore c) (HasCompacted c) how before.disk_faults after.disk_faults makes.opened new makes.added makes.ends faultless.none_rose.disk makes.cause (makes.gains store.files c store.are store.good)) does.1)
      (λ lacks. inr lacks.0) (faultless.obeyed.command Compact faultless.is)

  rebuilt_or_memory : (node : ℕ) (c : Contents) (how : Ending) (before after : ℕ) (old new : H) (result : Result (Unit {0}) RebuildFault) → how ≡ ending_of_rebuilding node result
      → ¬ (Rose before after) → CountsRebuild result before after → (store : ReadsWithout node c (frame.reads old)) → AnswersFor node c.setting.entry.layout result
      → IsLeftAlone frame result old new ⊎ MakesAgain frame node result old new
      → DoneOrNoMemory how (RestsAs (HasRebuilt node c) (frame.reads new) (frame.may_leave new))
  rebuilt_or_memory node c how before after old new (Ok u) ends faultless cause store answers seen =
      inl (ends, ⊎_elim (λ left. absurd (true≢false (sym left.failed))) (λ makes. (makes.gains store.files c store.are store.good).ok) seen)
  rebuilt_or_memory node c how before after old new (Err rebuilding.Disk) ends faultless cause store answers seen = absurd (faultless cause)
  rebuilt_or_memory node c how before after old new (Err (rebuilding.NotAStore file at)) ends faultless cause store answers seen = absurd answers
  rebuilt_or_memory node c how before after old new (Err (rebuilding.NoNode nodes)) ends faultless cause store answers seen =
      (let less = store.there in let far = answers.0 in absurd (omega (arith, less, far)))
  rebuilt_or_memory node c how before after old new (Err (rebuilding.NoHolder p)) ends faultless cause store answers seen = absurd (store.held p answers.1.refused)
  rebuilt_or_memory node c how before after old new (Err rebuilding.NoMemory) ends faultless cause store answers seen = inr ends

  pub rebuild_succeeds : RebuildSucceeds frame
  rebuild_succeeds node how before after old new c faultless store =
      ⊎_elim
      (λ does. (let is = does.1 in
      rebuilt_or_memory node c how before.disk_faults after.disk_faults old new is.result is.ends faultless.none_rose.disk is.cause store (is.answers store.files c store.are store.good.holds) is.seen))
      (λ lacks. inr lacks.0) (faultless.obeyed.command (Rebuild node) faultless.is)

  not_asked_or_memory : (epoch : ℕ) (how : Ending) (told : Option Files) (files : Files) (c : Contents) → told ≡ Some files → Holds files c → MayBeAsked (history_of c) epoch → IsNotAsked epoch how told
      → how ≡ ending.NoMemory
  not_asked_or_memory epoch (ending.NotWithin e first last) told files c are holds may cause =
      (let range = cause.2 files c are holds in absurd (cause.1 (subst (λ (n : ℕ). n ≤ epoch) (sym range.0) may.0, subst (λ (n : ℕ). epoch ≤ n) (sym range.1) may.1)))
  not_asked_or_memory epoch ending.NoMemory told files c are holds may cause = refl
  not_asked_or_memory epoch how told files c are holds may cause = absurd cause

  asked_or_memory : (answers : List Line → List ℕ) (bytes : List ℕ) (how : Ending) (before after : Outside) (was now : Option (List ℕ)) (a : Asked) → how ≡ ending_of_asking a → NoneRose before after
      → length bytes < most_input_bytes → HasCauseOfAsking bytes (streams_of before) (streams_of after) a → SaysAnswers answers bytes was now a
      → DoneOrNoMemory how (now ≡ append_known was (answers (lines_of bytes)))
  asked_or_memory answers bytes how before after was now asked.Finished ends faultless few cause says = inl (ends, says)
  asked_or_memory answers bytes how before after was now asked.ReadFault ends faultless few cause says = absurd (⊎_elim faultless.source (λ full. omega (arith, few, full)) cause.0)
  asked_or_memory answers bytes how before after was now asked.SayFault ends faultless few cause says = absurd (faultless.stream cause.0)
  asked_or_memory answers bytes how before after was now asked.NoMemory ends faultless few cause says = inr ends

  pub query_succeeds : RefusedIsNone → QuerySucceeds frame
  query_succeeds refused at readers how before after old new c bytes faultless store gives few may =
      ⊎_elim
      (λ does. ⊎_elim
      (λ closed. inr (opened_or_memory how (frame.reads old) store.files before.disk_faults after.disk_faults store.are (λ file place is. refused store.files file place is c store.good.holds) faultless.none_rose.disk closed.cause))
      (λ found. ⊎_elim (λ unasked. inr (not_asked_or_memory at how (frame.reads old) store.files c store.are store.good.holds may unasked.cause))
      (λ asks.
      let same = one_giving before.source after.source asks.bytes bytes asks.gives gives in
      subst (λ (given : List ℕ). DoneOrNoMemory how (frame.said new ≡ append_known (frame.said old) (answers_from (past_at c at) 1 (lines_of given)))) same
      (asked_or_memory (answers_from (past_at c at) 1) asks.bytes how before after (frame.said old) (frame.said new) asks.asked asks.ends faultless.none_rose
      (subst (λ (given : List ℕ). length given < most_input_bytes) (sym same) few) asks.cause (asks.says store.files c store.are store.good))) found) does)
      (λ lacks. inr lacks.0) (faultless.obeyed.command (Query at readers) faultless.is)
