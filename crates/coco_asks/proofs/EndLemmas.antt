-- Answering from batch to batch, and how it ends.
use Rattle.std.proofs.Common.{◌≡◌, ◌∙◌, ◌⊎◌, inl, inr, refl, sym, ap, subst, false, ℕ, suc, ◌+◌, ◌≤◌, ◌<◌, arith, List, [], ◌∷◌, ◌++◌, length, take, drop, Option, Some, append_assoc, append-nil, length-append}
use Rattle.std.proofs.lemmas.List.{take-append-drop}
use Rattle.std.proofs.Math.Seq.{take-append_seam}
use Rattle.std.specs.Io.KnownBytes.{append_known}
use Rattle.coco_types.specs.Limits.{most_batch_lines}
use Rattle.coco_ast.specs.Keyed.{Rows}
use Rattle.coco_ast.specs.Tree.{Procedures}
use Rattle.coco_batches.specs.BatchReading.{BreaksOff, IsCutOff, ReadsLines, TakesLines, numbered}
use Rattle.coco_batches.proofs.BatchLemmas.{takes_both, takes_none}
use Rattle.coco_batches.proofs.GivenLemmas.{numbered-length}
use Rattle.coco_host.specs.Files.{Files}
use Rattle.coco_host.specs.Moments.{Begins, Observation}
use Rattle.coco_host.specs.declared.host.Host.{Ghosts as HostGhosts}
use Rattle.coco_lines.specs.Lines.{Line, lines_of}
use Rattle.coco_lines.specs.ReaderState.{ReaderState}
use Rattle.coco_lines.specs.Reads.{Gives, HasNoFeed, SourceMoment}
use Rattle.coco_lines.specs.declared.error.LineFault.{LineFault}
use Rattle.coco_lines.specs.declared.error.LineFault.TheVariants as line
use Rattle.coco_lines.specs.declared.reader.Line.{Line as Given}
use Rattle.coco_lines.proofs.LinesLemmas.{ended-first, lines_of-first, lines_of-nil}
use Rattle.coco_query.specs.Frozen.{HoldsFrozen}
use Rattle.coco_query.specs.declared.frozen.Frozen.{Frozen}
use Rattle.coco_asks.specs.Answering.{AreWhole, Answers, HasCause, SaysAnswers, Streams}
use Rattle.coco_asks.specs.Asking.{Past, answer_at, answers_from}
use Rattle.coco_asks.specs.declared.ending.Asked.{Asked}
use Rattle.coco_asks.specs.declared.ending.Asked.TheVariants as ending
use Rattle.coco_asks.proofs.HostLemmas.{OnlySays, says_nothing}

-- ---- answers and fronts of them

pub answers-append : (past : Past) (n : ℕ) (xs ys : List Line) → answers_from past n (xs ++ ys) ≡ answers_from past n xs ++ answers_from past (n + length xs) ys
answers-append past n [] ys = let e : n ≡ n + 0 = omega arith in ap (λ k. answers_from past k ys) e
answers-append past n (x ∷ xs) ys =
    let e : n + 1 + length xs ≡ n + suc (length xs) = omega arith in
    ap (λ others. answer_at past n x ++ others) (answers-append past (n + 1) xs ys ∙ ap (λ k. answers_from past (n + 1) xs ++ answers_from past k ys) e)
    ∙ sym (append_assoc (answer_at past n x) (answers_from past (n + 1) xs) (answers_from past (n + suc (length xs)) ys))

-- what begins a text is its first bytes
front_of : (before now : Option (List ℕ)) (front whole : List ℕ) → now ≡ append_known before front → Begins front whole → (k : ℕ) × (now ≡ append_known before (take k whole))
front_of before now front whole says begins =
    (length front, says ∙ ap (append_known before) (sym (ap (take (length front)) begins.1 ∙ take-append_seam front begins.0)))

-- a text is said, or its front
pub all_said : (was now : Option (List ℕ)) (piece text : List ℕ) → piece ≡ text → now ≡ append_known was piece → now ≡ append_known was text
all_said was now piece text same says = subst (λ t. now ≡ append_known was t) same says

pub part_said : (was now : Option (List ℕ)) (piece text : List ℕ) (k : ℕ) → piece ≡ text → now ≡ append_known was (take k piece) → now ≡ append_known was (take k text)
part_said was now piece text k same says = subst (λ t. now ≡ append_known was (take k t)) same says

-- ---- lines between two batches

abbrev pub new_reader : ReaderState
new_reader = record { pending = []; ended = false; taken = 0; given = 0 }

abbrev pub past_of : Procedures → ℕ → Rows → Past
past_of procs epoch m = record { procs = procs; rows = m; epoch = epoch }

module _ {H : Type 0} (frame : HostGhosts H)
    (procs : Procedures) (tables : List Frozen) (epoch : ℕ) where
  -- this text is the answers of lines, on every map that the tables hold
  abbrev pub AreTexts : ℕ → List Line → List ℕ → Type 0
  AreTexts n lines text = (m : Rows) → HoldsFrozen m tables → text ≡ answers_from (past_of procs epoch m) n lines

  -- the lines so far are whole batches, and just their answers were said
  pub record IsAsking (reader : ReaderState) (before now : SourceMoment) (first host : H) : Type 0 where
    pub lines : List Line
    pub takes : TakesLines new_reader reader before now lines reader.pending
    pub given : reader.given ≡ length lines
    pub whole : AreWhole lines
    pub text : List ℕ
    pub texts : AreTexts 1 lines text
    pub only : OnlySays frame first host text

  -- what is known at the end, by the bytes that the source gave
  pub record AsksTo (reader : ReaderState) (before now : SourceMoment) (how : Asked) (first host : H) : Type 0 where
    pub bytes : List ℕ
    pub gives : Gives before now bytes
    pub count : reader.taken ≡ length bytes
    pub says : (m : Rows) → HoldsFrozen m tables → SaysAnswers (answers_from (past_of procs epoch m) 1) bytes (frame.said first) (frame.said host) how
    pub text : List ℕ
    pub only : OnlySays frame first host text

  pub asking_new : ((host : H) (seen : Observation) → frame.observed host (frame.moment host) seen → frame.may_leave host seen.image × (frame.said host ≡ Some seen.said)) → (s : ReaderState) (m : SourceMoment) (host : H) → s ≡ new_reader
      → IsAsking s m m host host
  asking_new only_now s m host fresh = subst (λ r. IsAsking r m m host host) (sym fresh) (record {
    lines = [];
    takes = takes_none new_reader m;
    given = refl;
    whole = (0, refl);
    text = [];
    texts = λ rows holds. refl;
    only = says_nothing frame only_now host;
  })

  -- the end of a call
  pub answers_so : (reader : ReaderState) (before after : Streams) (how : Asked) (first host : H) → (to : AsksTo reader before.source after.source how first host) → HasCause to.bytes before after how
      → Answers frame procs tables epoch before after how first host
  answers_so reader before after how first host to cause =
      record { bytes = to.bytes; gives = to.gives; cause = cause; says = to.says; same = to.only.same; crash = to.only.crash; sees = to.only.sees }

  module _ (reader reader' : ReaderState) (before m n : SourceMoment) (first mid : H) (a : IsAsking reader before m first mid) where
    -- with further lines
    takes_on : (more : List Line) (behind : List ℕ) → TakesLines reader reader' m n more behind → TakesLines new_reader reader' before n (a.lines ++ more) behind
    takes_on more behind takes = takes_both new_reader reader reader' before m n a.lines more behind a.takes takes

    lines_so : (more : List Line) (behind : List ℕ) → (takes : TakesLines reader reader' m n more behind) → lines_of (takes_on more behind takes).bytes ≡ (a.lines ++ more) ++ lines_of behind
    lines_so more behind takes = let t = takes_on more behind takes in lines_of-first (a.lines ++ more) t.bytes behind reader'.ended t.text

    ends_by : (how : Asked) (more : List Line) (behind : List ℕ) → (takes : TakesLines reader reader' m n more behind) → (host : H) (text : List ℕ) → OnlySays frame first host text
        → ((m : Rows) → HoldsFrozen m tables → SaysAnswers (answers_from (past_of procs epoch m) 1) (takes_on more behind takes).bytes (frame.said first) (frame.said host) how)
        → AsksTo reader' before n how first host
    ends_by how more behind takes host text only says =
        let t = takes_on more behind takes in
        record { bytes = t.bytes; gives = t.gives; count = omega (arith, t.taken); says = says; text = text; only = only }

    -- the answers of the lines so far begin all answers
    begins_all : (more others : List Line) (part : List ℕ) → (rows : Rows) → HoldsFrozen rows tables → Begins part (answers_from (past_of procs epoch rows) (1 + length a.lines) more)
        → Begins (a.text ++ part) (answers_from (past_of procs epoch rows) 1 ((a.lines ++ more) ++ others))
    begins_all more others part rows holds begins =
        let past = past_of procs epoch rows in
        let later = answers_from past (1 + length (a.lines ++ more)) others in (
          begins.0 ++ later,
          answers-append past 1 (a.lines ++ more) others
              ∙ ap (λ text. text ++ later) (answers-append past 1 a.lines more ∙ (λ i. sym (a.texts rows holds) i ++ begins.1 i) ∙ sym (append_assoc a.text part begins.0))
              ∙ append_assoc (a.text ++ part) begins.0 later,
        )

    none_begins : (text : List ℕ) → Begins [] text
    none_begins text = (text, refl)

    -- ---- lines that aren't answered

    -- memory ran out
    pub memory_ran_out : (more : List Line) (behind : List ℕ) → TakesLines reader reader' m n more behind → AsksTo reader' before n ending.NoMemory first mid
    memory_ran_out more behind takes = ends_by ending.NoMemory more behind takes mid a.text a.only (λ rows holds.
        let whole = answers_from (past_of procs epoch rows) 1 in
        let all = takes_on more behind takes in
        front_of (frame.said first) (frame.said mid) a.text (whole (lines_of all.bytes)) a.only.says
        (subst (λ front. Begins front (whole (lines_of all.bytes))) (append-nil a.text)
        (subst (λ ls. Begins (a.text ++ []) (whole ls)) (sym (lines_so more behind takes))
        (begins_all more (lines_of behind) [] rows holds (none_begins (answers_from (past_of procs epoch rows) (1 + length a.lines) more))))))

    pub broken_memory : (f : LineFault) → BreaksOff reader reader' m n most_batch_lines f → AsksTo reader' before n ending.NoMemory first mid
    broken_memory f b = memory_ran_out b.lines b.rest b.takes

    broken_read : (f : LineFault) → (b : BreaksOff reader reader' m n most_batch_lines f) → (length b.lines < most_batch_lines) × HasNoFeed b.rest × (reader'.ended ≡ false) → AsksTo reader' before n ending.ReadFault first mid
    broken_read f b cut = ends_by ending.ReadFault b.lines b.rest b.takes mid a.text a.only (λ rows holds.
        let t = takes_on b.lines b.rest b.takes in (
          a.lines,
          record { whole = a.whole; others = b.lines; ended = ended-first (a.lines ++ b.lines) t.bytes b.rest reader'.ended t.text cut.2 cut.1; few = cut.0 },
          a.only.says ∙ ap (append_known (frame.said first)) (a.texts rows holds),
        ))

    pub broken_failed : (f : LineFault) → BreaksOff reader reader' m n most_batch_lines f → f ≡ line.Failed → AsksTo reader' before n ending.ReadFault first mid
    broken_failed f b is = broken_read f b (subst (λ x. IsCutOff x most_batch_lines b.lines b.rest reader'.ended) is b.cut_off)

    pub broken_much : (f : LineFault) → BreaksOff reader reader' m n most_batch_lines f → f ≡ line.TooMuch → AsksTo reader' before n ending.ReadFault first mid
    broken_much f b is = broken_read f b (subst (λ x. IsCutOff x most_batch_lines b.lines b.rest reader'.ended) is b.cut_off)

    -- ---- a batch that was read

    module _ (given : List Given) (r : ReadsLines reader reader' m n most_batch_lines given) where
      abbrev more : List Line
      more = r.reading.lines

      as_many : length more ≡ length given
      as_many = sym (ap (length {A = Given}) r.reading.are ∙ numbered-length (reader.given + 1) more)

      pub unanswered : AsksTo reader' before n ending.NoMemory first mid
      unanswered = memory_ran_out more reader'.pending r.reading.takes

      module _ (text : List ℕ) (texts : (rows : Rows) (k : ℕ) (of : List Line) → HoldsFrozen rows tables → given ≡ numbered k of → text ≡ answers_from (past_of procs epoch rows) k of) where
        are_texts : (rows : Rows) → HoldsFrozen rows tables → text ≡ answers_from (past_of procs epoch rows) (1 + length a.lines) more
        are_texts rows holds =
            let number : reader.given + 1 ≡ 1 + length a.lines = (let g = a.given in omega (arith, g)) in
            texts rows (reader.given + 1) more holds r.reading.are ∙ ap (λ k. answers_from (past_of procs epoch rows) k more) number

        all_texts : (rows : Rows) → HoldsFrozen rows tables → a.text ++ text ≡ answers_from (past_of procs epoch rows) 1 (a.lines ++ more)
        all_texts rows holds = (λ i. a.texts rows holds i ++ are_texts rows holds i) ∙ sym (answers-append (past_of procs epoch rows) 1 a.lines more)

        -- the saying broke off
        pub said_in_part : (how : Asked) (k : ℕ) (host : H) → OnlySays frame first host (a.text ++ take k text) → (how ≡ ending.SayFault) ⊎ (how ≡ ending.NoMemory)
            → AsksTo reader' before n how first host
        said_in_part how k host only is = ends_by how more reader'.pending r.reading.takes host (a.text ++ take k text) only (λ rows holds. by how is (answers_from (past_of procs epoch rows) 1) (takes_on more reader'.pending r.reading.takes).bytes (frame.said first) (front rows holds))
          where
            front : (rows : Rows) → HoldsFrozen rows tables → (j : ℕ) × (frame.said host ≡ append_known (frame.said first) (take j (answers_from (past_of procs epoch rows) 1 (lines_of (takes_on more reader'.pending r.reading.takes).bytes))))
            front rows holds =
                let whole = answers_from (past_of procs epoch rows) 1 in
                front_of (frame.said first) (frame.said host) (a.text ++ take k text) (whole (lines_of (takes_on more reader'.pending r.reading.takes).bytes)) only.says
                (subst (λ ls. Begins (a.text ++ take k text) (whole ls)) (sym (lines_so more reader'.pending r.reading.takes))
                (begins_all more (lines_of reader'.pending) (take k text) rows holds (drop k text, sym (are_texts rows holds) ∙ sym (take-append-drop k text))))

            by : (how : Asked) → (how ≡ ending.SayFault) ⊎ (how ≡ ending.NoMemory) → (answers : List Line → List ℕ) (bytes : List ℕ) (was : Option (List ℕ))
                → (j : ℕ) × (frame.said host ≡ append_known was (take j (answers (lines_of bytes)))) → SaysAnswers answers bytes was (frame.said host) how
            by ending.SayFault is answers bytes was j = j
            by ending.NoMemory is answers bytes was j = j
            by ending.Finished (inl is) answers bytes was j = (let e : ending.Finished ≡ ending.SayFault = is in absurd (cc))
            by ending.Finished (inr is) answers bytes was j = (let e : ending.Finished ≡ ending.NoMemory = is in absurd (cc))
            by ending.ReadFault (inl is) answers bytes was j = (let e : ending.ReadFault ≡ ending.SayFault = is in absurd (cc))
            by ending.ReadFault (inr is) answers bytes was j = (let e : ending.ReadFault ≡ ending.NoMemory = is in absurd (cc))

        -- it is said, and the input has ended
        pub finished : length given < most_batch_lines → (host : H) → OnlySays frame first host (a.text ++ text) → AsksTo reader' before n ending.Finished first host
        finished short host only = ends_by ending.Finished more reader'.pending r.reading.takes host (a.text ++ text) only (λ rows holds.
            let all : lines_of (takes_on more reader'.pending r.reading.takes).bytes ≡ a.lines ++ more =
            lines_so more reader'.pending r.reading.takes ∙ ap (λ rest. (a.lines ++ more) ++ lines_of rest) (r.ends short).1 ∙ ap (λ ls. (a.lines ++ more) ++ ls) lines_of-nil ∙ append-nil (a.lines ++ more) in
            only.says ∙ ap (append_known (frame.said first)) (all_texts rows holds ∙ sym (ap (answers_from (past_of procs epoch rows) 1) all)))

        -- it is said, and the next one is to be read
        pub asking_more : most_batch_lines ≤ length given → reader'.given ≡ reader.given + length given → (host : H) → OnlySays frame first host (a.text ++ text)
            → IsAsking reader' before n first host
        asking_more full counted host only = record {
          lines = a.lines ++ more;
          takes = takes_on more reader'.pending r.reading.takes;
          given = (let g = a.given in let l = length-append a.lines more in omega (arith, g, l, counted, as_many));
          whole = (a.whole.0 + 1, (let w = a.whole.1 in let l = length-append a.lines more in let few = r.few in omega (arith, w, l, full, few, as_many)));
          text = a.text ++ text;
          texts = all_texts;
          only = only;
        }
