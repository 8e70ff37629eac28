-- One batch more: what it makes of a run, and how the run ends with it.
use Rattle.std.proofs.Common.{◌≡◌, true, ℕ, ◌+◌, ◌-◌, ◌<◌, ◌≤◌, inl, inr, ◌⊎◌, ⊎_elim, Ok, Err, List, [], ◌∷◌, ◌++◌, length, map, take, Option, Some, refl, sym, ap, subst, ◌∙◌, arith, append-nil, length-append}
use Rattle.std.specs.Prelude.{Result}
use Rattle.std.proofs.Math.Seq.{take-append-add, take-append_seam, take-length, take_all}
use Rattle.std.specs.Io.KnownBytes.{append_known}
use Rattle.coco_append.specs.Gaining.{RestsOn}
use Rattle.coco_ast.specs.Growth.{GrowsInTurn}
use Rattle.coco_ast.specs.GrowthLaws.{Keeps}
use Rattle.coco_ast.specs.History.{History, all_dones, kept}
use Rattle.coco_ast.specs.Tree.{Procedures}
use Rattle.coco_ast.proofs.GrowthLemmas.{growth_keeps}
use Rattle.coco_batches.specs.Answering.{answers_from, held_texts}
use Rattle.coco_batches.specs.BatchReading.{ReadsBatch}
use Rattle.coco_batches.specs.declared.batch.Batch.{Batch}
use Rattle.coco_cluster.specs.Standing.{StandsAt}
use Rattle.coco_cluster.specs.declared.cluster.Cluster.{Cluster}
use Rattle.coco_cluster.specs.Turning.{epochs_of}
use Rattle.coco_cluster.specs.Writing.{WritesLogs}
use Rattle.coco_cluster.proofs.BehindLemmas.{behind_later}
use Rattle.coco_cluster.proofs.WriteLemmas.{writes_then}
use Rattle.coco_host.specs.Moments.{Observation, SeesOnly}
use Rattle.coco_host.specs.declared.host.Host.{Ghosts as HostGhosts}
use Rattle.coco_io.proofs.KnownLemmas.{append_known-append}
use Rattle.coco_lines.specs.Answers.{answers_by}
use Rattle.coco_lines.specs.Batches.{AreBatches, Batch as Lines, joined}
use Rattle.coco_lines.specs.Classes.{AreClasses, known_in, new_of}
use Rattle.coco_lines.specs.Growing.{GrowsByBatch}
use Rattle.coco_lines.specs.Lines.{Line, lines_of}
use Rattle.coco_lines.specs.ReaderState.{ReaderState}
use Rattle.coco_lines.specs.Reads.{SourceMoment}
use Rattle.coco_lines.specs.declared.class.Class.{Class}
use Rattle.coco_lines.proofs.LinesLemmas.{lines_of-nil}
use Rattle.coco_lines.proofs.ReplyLemmas.{answers_still, are_new}
use Rattle.coco_store.specs.Contents.{Contents, history_of}
use Rattle.coco_lines.proofs.ClassLemmas.{classes_length}
use Rattle.coco_serve.specs.Growth.{AddsWithin, AreFirstBatches, GrowsByExecution, IsGrown, Manner, answers_of, manner_of}
use Rattle.coco_serve.specs.OneBatch.{BatchEnds, SaysPart, WorksOffBatch, batch_texts}
use Rattle.coco_serve.specs.Seen.{IsServed, LeavesEither, ShowsBatch}
use Rattle.coco_serve.specs.Serving.{LeavesLast, ServedSoFar, RestsAt, RunEnds, SaysAll, SaysUpTo, Serves}
use Rattle.coco_cluster.specs.declared.stop.Stop.{Stop}
use Rattle.coco_cluster.specs.declared.stop.Stop.TheVariants as stop
use Rattle.coco_serve.specs.declared.bounds.RunBounds.{RunBounds}
use Rattle.coco_log.proofs.OnlyRead.{sees_then, sees_weaker}
use Rattle.coco_serve.proofs.NumberLemmas.{adds_more, adds_none}
use Rattle.coco_serve.proofs.ReplyLemmas.{keeps_some, no_later_done, texts_are_answers}
use Rattle.coco_serve.proofs.RunLemmas.{AreServed, SeenNow, all_served, answers-append, batches_more, classes_at, cut_more, first_more, joined-more, later_served, left_by, map-more, more_served, paired, size_more, turns_more, moved}

module _ {H : Type 0} (frame : HostGhosts H) where
  -- a batch that was read is the next one
  module _ (c : Contents) (next spare : ℕ) (bounds : RunBounds) (lines : List Line) (k : Cluster) (first mid : H) (reader reader' : ReaderState) (m n : SourceMoment) (batch : Batch)
      (a : AreServed frame c next spare bounds lines k first mid) (r : ReadsBatch k.procs k.kept reader reader' m n bounds.size batch) (bytes : List ℕ)
      (all : lines_of bytes ≡ (lines ++ r.taking.lines) ++ lines_of reader'.pending) (some : 0 < length batch.answers.items) where
    pub read_next : AreFirstBatches bounds.size bytes (a.batches ++ r.taking.lines ∷ [])
    read_next = first_more bounds.size bytes lines r.taking.lines (lines_of reader'.pending) a.batches a.lines_are a.whole (omega (arith, r.taking.as_many, some)) (omega (arith, r.taking.as_many, r.few))
        (λ short. ap lines_of (r.ends (omega (arith, r.taking.as_many, short))).1 ∙ lines_of-nil) all

  module _ (c : Contents) (next spare more_spare : ℕ) (bounds : RunBounds) (lines : List Line) (k k' : Cluster) (first mid host : H) (reader reader' : ReaderState) (m n : SourceMoment) (batch : Batch) (result : Result (Unit {0}) Stop)
      (a : AreServed frame c next spare bounds lines k first mid) (given : reader.given ≡ length lines) (r : ReadsBatch k.procs k.kept reader reader' m n bounds.size batch)
      (x : WorksOffBatch frame result batch bounds a.d k.next_epoch more_spare k' mid host) where
    abbrev tree : Procedures
    tree = c.setting.tree

    abbrev manner : Manner
    manner = manner_of c.setting bounds

    abbrev opening : History
    opening = history_of c

    abbrev h : History
    h = history_of a.d

    abbrev g : History
    g = history_of x.d

    abbrev more : List Line
    more = r.taking.lines

    abbrev cs : List Class
    cs = r.taking.classes

    abbrev batches' : List Lines
    batches' = a.batches ++ more ∷ []

    abbrev classes' : List (List Class)
    classes' = a.classes ++ cs ∷ []

    abbrev texts : List ℕ
    texts = batch_texts x.d batch

    are : AreClasses tree (known_in h) more cs
    are = classes_at c a.d k more cs a.stands a.setting r.taking.are

    grows : GrowsByExecution manner h (new_of cs) g
    grows = subst (λ rs. GrowsByExecution manner h rs g) r.taking.fresh (subst (λ s. GrowsByExecution (manner_of s bounds) h batch.fresh g) a.setting x.grows)

    one_batch : GrowsByBatch tree h more cs g
    one_batch = record { are = are; grows = grows.0 }

    grown' : IsGrown manner opening batches' classes' g
    grown' = record {
      grown = batches_more tree opening a.batches a.classes h more cs g a.grown.grown one_batch;
      executed = subst (λ l. GrowsInTurn (GrowsByExecution manner) opening l g) (sym (map-more a.classes cs)) (turns_more manner opening (map new_of a.classes) h (new_of cs) g a.grown.executed grows);
    }

    abbrev all : ℕ
    all = spare + more_spare

    abbrev end' : ℕ
    end' = x.number + epochs_of batch.fresh

    numbers' : AddsWithin next end' all opening g
    numbers' = adds_more next k.next_epoch end' spare more_spare opening h g a.numbers x.numbers

    -- the number of its epoch is tried, and the history has yet to grow
    numbers_before : AddsWithin next x.number all opening h
    numbers_before = adds_more next k.next_epoch x.number spare more_spare opening h h a.numbers (adds_none k.next_epoch x.number more_spare h x.taken)

    as_many : length a.classes ≡ length a.batches
    as_many = paired tree opening a.batches a.classes h a.grown.grown

    keeps : Keeps h (new_of cs) g
    keeps = growth_keeps h (new_of cs) g grows.0

    texts_are : texts ≡ answers_by (all_dones g) (reader.given + 1) cs
    texts_are =
        ap (held_texts (kept g)) (r.taking.answers ∙ ap (λ ds. answers_from ds (reader.given + 1) cs) a.stands.belongs.dones)
        ∙ texts_are_answers tree h g more cs (reader.given + 1) are grows.0 a.rests.good.ordered (keeps.ordered a.rests.good.ordered (are_new tree h more cs are))
        (no_later_done a.rests.files a.d a.rests.good) (keeps_some a.rests.files a.d a.rests.good)

    answers_stay : answers_of g a.classes ≡ answers_of h a.classes
    answers_stay = answers_still tree opening a.batches (more ∷ []) a.classes (cs ∷ []) h g 1 a.grown.grown (g, one_batch, (refl, refl))

    -- the answers so far, and behind them the batch's
    all_answers : answers_of g classes' ≡ answers_of h a.classes ++ texts
    all_answers =
        let number : 1 + length (joined a.classes) ≡ reader.given + 1 = omega (arith, given, a.many) in
        ap (answers_by (all_dones g) 1) (joined-more a.classes cs) ∙ answers-append (all_dones g) 1 (joined a.classes) cs
        ∙ ap (λ t. t ++ answers_by (all_dones g) (1 + length (joined a.classes)) cs) answers_stay
        ∙ ap (λ i. answers_of h a.classes ++ answers_by (all_dones g) i cs) number ∙ ap (λ t. answers_of h a.classes ++ t) (sym texts_are)

    -- a front of the batch's texts, behind what was said before
    front_said : (now : Option (List ℕ)) (i : ℕ) → now ≡ append_known (frame.said mid) (take i texts) → now ≡ append_known (frame.said first) (take (length (answers_of h a.classes) + i) (answers_of g classes'))
    front_said now i is =
        is ∙ ap (λ o. append_known o (take i texts)) a.says ∙ append_known-append (frame.said first) (answers_of h a.classes) (take i texts)
        ∙ ap (append_known (frame.said first)) (sym (ap (take (length (answers_of h a.classes) + i)) all_answers ∙ take-append-add (answers_of h a.classes) texts i))

    batch_shows : (seen : Observation) → ShowsBatch a.d.setting h g (x.number + 1) (frame.said mid) texts seen → IsServed c.setting bounds opening next all batches' classes' g (frame.said first) seen
    batch_shows seen shows = ⊎_elim
        (λ was. more_served c.setting bounds opening next all a.batches a.classes h (frame.said first) as_many more cs g keeps.prefix seen
        (all_served c.setting bounds opening next all a.batches a.classes h (frame.said first) a.grown x.number numbers_before seen
        (moved a.d.setting c.setting h (x.number + 1) (x.number + 1) seen.image a.setting (omega arith) was.0) (length (answers_of h a.classes))
        (sym was.1 ∙ a.says ∙ ap (append_known (frame.said first)) (sym (take-length (answers_of h a.classes))))))
        (λ grew. all_served c.setting bounds opening next all batches' classes' g (frame.said first) grown' end' numbers' seen
        (moved a.d.setting c.setting g (x.number + 1) (end' + 1) seen.image a.setting (omega arith) grew.0) (length (answers_of h a.classes) + grew.1.0) (front_said (Some seen.said) grew.1.0 grew.1.1)) shows

    moments' : SeesOnly frame.moment frame.observed first host (IsServed c.setting bounds opening next all batches' classes' g (frame.said first))
    moments' = sees_then frame.moment frame.observed first mid host (IsServed c.setting bounds opening next all batches' classes' g (frame.said first)) (ShowsBatch a.d.setting h g (x.number + 1) (frame.said mid) texts)
        (sees_weaker frame.moment frame.observed first mid (IsServed c.setting bounds opening next spare a.batches a.classes h (frame.said first)) (IsServed c.setting bounds opening next all batches' classes' g (frame.said first))
        (λ seen s. more_served c.setting bounds opening next all a.batches a.classes h (frame.said first) as_many more cs g keeps.prefix seen
        (later_served c.setting bounds opening next spare a.batches a.classes h (frame.said first) all (omega arith) seen s)) a.moments) x.moments batch_shows

    others' : WritesLogs c.setting (frame.reads first) (frame.reads host) (frame.may_leave first) (frame.may_leave host)
    others' = writes_then c.setting (frame.reads first) (frame.reads mid) (frame.reads host) (frame.may_leave first) (frame.may_leave mid) (frame.may_leave host) a.others
        (subst (λ s. WritesLogs s (frame.reads mid) (frame.reads host) (frame.may_leave mid) (frame.may_leave host)) a.setting x.others)

    abbrev IsWhole : Type 0
    IsWhole = RestsOn x.d (frame.reads host) (frame.may_leave host) × StandsAt x.d k' × (frame.said host ≡ append_known (frame.said mid) texts)

    says_whole : IsWhole → frame.said host ≡ append_known (frame.said first) (answers_of g classes')
    says_whole done = done.2 ∙ ap (λ o. append_known o texts) a.says ∙ append_known-append (frame.said first) (answers_of h a.classes) texts ∙ ap (append_known (frame.said first)) (sym all_answers)

    -- the batch was whole, committed and said
    pub served_more : IsWhole → bounds.size ≤ length batch.answers.items → k'.next_epoch ≡ end' → AreServed frame c next all bounds (lines ++ more) k' first host
    served_more done full next_is =
        record {
          batches = batches';
          classes = classes';
          d = x.d;
          setting = x.setting ∙ a.setting;
          lines_are = ap (λ ls. ls ++ more) a.lines_are ∙ sym (joined-more a.batches more);
          grown = grown';
          whole = size_more bounds.size a.batches more a.whole (omega (arith, r.taking.as_many, r.few, full));
          many = (
              let counted = classes_length tree (known_in h) more cs are in
              omega (arith, counted, a.many, ap (length {A = Class}) (joined-more a.classes cs), length-append (joined a.classes) cs, length-append lines more));
          rests = done.0;
          stands = done.1;
          says = says_whole done;
          moments = moments';
          others = others';
          numbers = subst (λ e. AddsWithin next e all opening g) (sym next_is) numbers';
        }

    -- ---- where a run ends with the batch

    module _ (seen_now : SeenNow frame) (bytes : List ℕ) (lines_are : lines_of bytes ≡ (lines ++ more) ++ lines_of reader'.pending) (some : 0 < length batch.answers.items) where
      all_lines : lines_of bytes ≡ joined batches' ++ lines_of reader'.pending
      all_lines = lines_are ∙ ap (λ ls. ls ++ lines_of reader'.pending) (ap (λ ls. ls ++ more) a.lines_are ∙ sym (joined-more a.batches more))

      some_lines : 0 < length more
      some_lines = omega (arith, r.taking.as_many, some)

      cut_short : (reader'.ended ≡ true) × (reader'.pending ≡ []) → (lines_of reader'.pending ≡ []) × AreBatches bounds.size batches'
      cut_short end = (ap lines_of end.1 ∙ lines_of-nil, cut_more bounds.size a.batches more a.whole some_lines (omega (arith, r.few, r.taking.as_many)))

      firsts : AreFirstBatches bounds.size bytes batches'
      firsts = read_next c next spare bounds lines k first mid reader reader' m n batch a r bytes lines_are some

      abbrev progress' : ServedSoFar manner opening next all bounds.size bytes
      progress' = record { batches = batches'; classes = classes'; history = g; grown = grown'; end = end'; numbers = numbers'; first = firsts }

      ends_so : (e : Result (Unit {0}) Stop) → RunEnds c next all bounds bytes progress' (frame.said first) (frame.said host) (frame.reads host) (frame.may_leave host) e → Serves frame c next all bounds bytes e first host
      ends_so e ends = record {
        progress = progress';
        moments = moments';
        left = left_by frame seen_now first host (IsServed c.setting bounds opening next all batches' classes' g (frame.said first)) moments';
        others = others';
        ends = ends;
      }

      pub finished_short : IsWhole → length batch.answers.items < bounds.size → Serves frame c next all bounds bytes (Ok tt) first host
      finished_short done short =
          let end = cut_short (r.ends short) in
          ends_so (Ok tt) (
            (all_lines ∙ ap (λ ls. joined batches' ++ ls) end.0 ∙ append-nil (joined batches'), end.1),
            (x.d, x.setting ∙ a.setting, refl, x.below, done.0),
            says_whole done,
          )

      abbrev last : ℕ
      last = length a.batches

      one_more : length batches' ≡ last + 1
      one_more = length-append a.batches (more ∷ [])

      take_batches : take last batches' ≡ a.batches
      take_batches = take-append_seam a.batches (more ∷ [])

      take_classes : take last classes' ≡ a.classes
      take_classes = ap (λ i. take i classes') (sym as_many) ∙ take-append_seam a.classes (cs ∷ [])

      grown_before : IsGrown manner opening (take last batches') (take last classes') h
      grown_before = subst (λ bs. IsGrown manner opening bs (take last classes') h) (sym take_batches) (subst (λ l. IsGrown manner opening a.batches l h) (sym take_classes) a.grown)

      -- the batch is committed, and its answers are said in part
      says_part : SaysPart texts (frame.said mid) (frame.said host) → SaysUpTo (frame.said first) (frame.said host) g classes'
      says_part part =
          let but_last : take (length classes' - 1) classes' ≡ a.classes =
          ap (λ i. take i classes') (let e = length-append a.classes (cs ∷ []) in let l : length classes' - 1 ≡ length a.classes = omega (arith, e) in l) ∙ take-append_seam a.classes (cs ∷ []) in
          let shorter : length (answers_of g (take (length classes' - 1) classes')) ≡ length (answers_of h a.classes) = ap (length {A = ℕ}) (ap (answers_of g) but_last ∙ answers_stay) in
          record {
            part = length (answers_of h a.classes) + part.0;
            says = front_said (frame.said host) part.0 part.1;
            most = omega (arith, shorter);
          }

      rests_then : RestsOn x.d (frame.reads host) (frame.may_leave host) → RestsAt c.setting g end' (frame.reads host) (frame.may_leave host)
      rests_then rests = (x.d, x.setting ∙ a.setting, refl, x.below, rests)

      say_ends : RestsOn x.d (frame.reads host) (frame.may_leave host) × SaysPart texts (frame.said mid) (frame.said host) → Serves frame c next all bounds bytes (Err stop.Say) first host
      say_ends ends = ends_so (Err stop.Say) (rests_then ends.0, says_part ends.1)

      abbrev Leaves : (History → List (List Class) → Type 0) → Type 0
      Leaves Says = LeavesLast c.setting bounds opening next all batches' classes' g Says (frame.said host) (frame.may_leave host)

      -- the batch's turn failed
      leaves_before : (Says : History → List (List Class) → Type 0) → LeavesEither a.d.setting h g (x.number + 1) (frame.said mid) (frame.may_leave host) → frame.said host ≡ frame.said mid → Says h a.classes → Leaves Says
      leaves_before Says left same says = record {
        count = last;
        last = inr one_more;
        history = h;
        grown = grown_before;
        number = x.number;
        numbers = numbers_before;
        says = subst (Says h) (sym take_classes) says;
        left = λ bytes spoke image leaves. ⊎_elim
            (λ was. inl (moved a.d.setting c.setting h (x.number + 1) (x.number + 1) image a.setting (omega arith) was))
            (λ grew. inr (moved a.d.setting c.setting g (x.number + 1) (x.number + 1) image a.setting (omega arith) grew)) (left bytes (sym same ∙ spoke) image leaves);
      }

      says_before : frame.said host ≡ frame.said mid → frame.said host ≡ append_known (frame.said first) (answers_of h a.classes)
      says_before same = same ∙ a.says

      says_before_whole : frame.said host ≡ frame.said mid → SaysUpTo (frame.said first) (frame.said host) h a.classes
      says_before_whole same =
          let whole = answers_of h a.classes in
          let front = answers_of h (take (length a.classes - 1) a.classes) in
          record {
            part = length whole + length front;
            says = says_before same ∙ ap (append_known (frame.said first)) (sym (take_all (length whole + length front) whole (omega arith)));
            most = omega arith;
          }

      disk_ends : LeavesEither a.d.setting h g (x.number + 1) (frame.said mid) (frame.may_leave host) × (frame.said host ≡ frame.said mid) → Serves frame c next all bounds bytes (Err stop.Disk) first host
      disk_ends ends = ends_so (Err stop.Disk) (leaves_before (SaysAll (frame.said first) (frame.said host)) ends.0 ends.1 (says_before ends.1))

      -- the batch is committed
      leaves_after : (Says : History → List (List Class) → Type 0) → RestsOn x.d (frame.reads host) (frame.may_leave host) → Says g classes' → Leaves Says
      leaves_after Says rests says = record {
        count = length batches';
        last = inl refl;
        history = g;
        grown = subst (λ bs. IsGrown manner opening bs (take (length batches') classes') g) (sym (take-length batches'))
            (subst (λ l. IsGrown manner opening batches' l g) (sym all_classes) grown');
        number = end';
        numbers = numbers';
        says = subst (Says g) (sym all_classes) says;
        left = λ bytes spoke image leaves. inl (record {
          contents = x.d;
          setting = x.setting ∙ a.setting;
          good = rests.left image leaves;
          history = refl;
          below = behind_later x.d end' (end' + 1) (omega arith) x.below;
        });
      }
        where
          all_classes : take (length batches') classes' ≡ classes'
          all_classes = ap (λ i. take i classes') (sym (paired tree opening batches' classes' g grown'.grown)) ∙ take-length classes'

      memory_ends : LeavesEither a.d.setting h g (x.number + 1) (frame.said mid) (frame.may_leave host) × (frame.said host ≡ frame.said mid) ⊎ RestsOn x.d (frame.reads host) (frame.may_leave host) × SaysPart texts (frame.said mid) (frame.said host)
          → Serves frame c next all bounds bytes (Err stop.NoMemory) first host
      memory_ends ends = ends_so (Err stop.NoMemory) (⊎_elim
          (λ before. leaves_before (SaysUpTo (frame.said first) (frame.said host)) before.0 before.1 (says_before_whole before.1))
          (λ after. leaves_after (SaysUpTo (frame.said first) (frame.said host)) after.0 (says_part after.1)) ends)

      batch_fails : (f : Stop) → BatchEnds a.d x.d (x.number + 1) k' texts (frame.said mid) (frame.said host) (frame.reads host) (frame.may_leave host) (Err f) → Serves frame c next all bounds bytes (Err f) first host
      batch_fails stop.Read ends = absurd ends
      batch_fails stop.Say ends = say_ends ends
      batch_fails stop.Disk ends = disk_ends ends
      batch_fails (stop.NotAStore file at) ends = absurd ends
      batch_fails stop.Unreachable ends = absurd ends
      batch_fails stop.EpochsUsedUp ends = absurd ends
      batch_fails stop.NoMemory ends = memory_ends ends

      pub answers_failed : (f : Stop) → result ≡ Err f → Serves frame c next all bounds bytes (Err f) first host
      answers_failed f is = batch_fails f (subst (BatchEnds a.d x.d (x.number + 1) k' texts (frame.said mid) (frame.said host) (frame.reads host) (frame.may_leave host)) is x.ends)
