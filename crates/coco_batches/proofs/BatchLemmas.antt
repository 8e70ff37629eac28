-- Reading the lines of a batch, one by one.
use Rattle.std.proofs.Common.{◌≡◌, ℕ, ◌+◌, ◌≤◌, ◌<◌, List, [], ◌∷◌, ◌++◌, length, map, true, Option, None, Some, Ok, Err, refl, sym, ap, subst, ◌∙◌, arith, append_assoc, append-nil, length-append, add-zero}
use Rattle.std.specs.List.{IsDistinct}
use Rattle.coco_types.specs.Limits.{most_kept}
use Rattle.coco_types.specs.declared.call.Done.{Done}
use Rattle.coco_types.specs.declared.call.Request.{Request}
use Rattle.coco_ast.specs.History.{AreAbove, request_of}
use Rattle.coco_ast.specs.Tree.{Procedures}
use Rattle.coco_kept.specs.Keeping.{Keeping}
use Rattle.coco_lines.specs.Classes.{AreClasses, IsClass, Known, and_known, new_in, new_of}
use Rattle.coco_lines.specs.Lines.{Line}
use Rattle.coco_lines.specs.ReaderState.{ReaderState}
use Rattle.coco_lines.specs.Reads.{AreFirstLines, HasNoFeed, Reads, SourceMoment, Stops, body_of}
use Rattle.coco_lines.specs.declared.class.Class.{Class}
use Rattle.coco_lines.specs.declared.error.LineFault.{LineFault}
use Rattle.coco_lines.specs.declared.error.LineFault.TheVariants as fault
use Rattle.coco_lines.specs.declared.reader.Line.{Line as Given}
use Rattle.coco_lines.proofs.GatheringLemmas.{gives_both, gives_none}
use Rattle.coco_lines.proofs.LinesLemmas.{first_both, none_first, one_first}
use Rattle.coco_batches.specs.declared.answer.LineAnswer.{LineAnswer}
use Rattle.coco_batches.specs.declared.batch.Batch.{Batch}
use Rattle.coco_batches.specs.Answering.{answer_of, answers_from}
use Rattle.coco_batches.specs.Asking.{MayCommit, known_of}
use Rattle.coco_batches.specs.BatchReading.{BreaksOff, IsCutOff, TakesLines, Taking}

none_above : (floor : Option ℕ) → AreAbove floor []
none_above None = tt
none_above (Some n) = tt

pub none_new : (procs : Procedures) (k : Keeping) → length k.dones ≤ most_kept → MayCommit procs k []
unfolding IsDistinct
none_new procs k few = record { fit = tt; new = record { distinct = tt; absent = tt; above = none_above k.floor; few = omega arith } }

-- ---- what a reader takes

pub takes_none : (s : ReaderState) (m : SourceMoment) → TakesLines s s m m [] s.pending
takes_none s m = record {
  bytes = [];
  gives = gives_none m;
  taken = sym (add-zero s.taken);
  none_behind = λ was. (refl, was);
  text = none_first (s.pending ++ []) s.pending s.ended (append-nil s.pending);
}

both_none : (xs ys : List ℕ) → xs ≡ [] → ys ≡ [] → xs ++ ys ≡ []
both_none xs ys p q = ap (λ l. l ++ ys) p ∙ q

-- some lines, and then more
pub takes_both : (old mid new : ReaderState) (a b c : SourceMoment) (xs ys : List Line) (behind : List ℕ) → TakesLines old mid a b xs mid.pending → TakesLines mid new b c ys behind
    → TakesLines old new a c (xs ++ ys) behind
takes_both old mid new a b c xs ys behind s t = record {
  bytes = s.bytes ++ t.bytes;
  gives = gives_both a b c s.bytes t.bytes s.gives t.gives;
  taken = omega (arith, s.taken, t.taken, length-append s.bytes t.bytes);
  none_behind = λ was. let first = s.none_behind was in let then = t.none_behind first.1 in (both_none s.bytes t.bytes first.0 then.0, then.1);
  text = subst (λ text. AreFirstLines (xs ++ ys) text behind new.ended) (append_assoc old.pending s.bytes t.bytes)
      (first_both xs ys (old.pending ++ s.bytes) mid.pending t.bytes behind mid.ended new.ended s.text t.text t.none_behind);
}

-- by one call of a reader: a line, the end, or a fault
pub takes_line : (old new : ReaderState) (a b : SourceMoment) (line : Given) (found : Option Given) → found ≡ Some line → Reads old new a b (Ok found)
    → (bytes : Line) × TakesLines old new a b (bytes ∷ []) new.pending × (line ≡ record { number = old.given + 1; body = body_of bytes })
takes_line old new a b line found is reads =
    let r : Reads old new a b (Ok (Some line)) = subst (λ (o : Option Given). Reads old new a b (Ok o)) is reads in (
      r.next.0,
      record { bytes = r.bytes; gives = r.gives; taken = r.taken; none_behind = r.none_behind; text = one_first r.next.0 (old.pending ++ r.bytes) new.pending new.ended r.next.1 },
      r.next.2,
    )

pub takes_end : (old new : ReaderState) (a b : SourceMoment) (found : Option Given) → found ≡ None → Reads old new a b (Ok found)
    → TakesLines old new a b [] new.pending × (new.ended ≡ true) × (new.pending ≡ [])
takes_end old new a b found is reads =
    let r : Reads old new a b (Ok None) = subst (λ (o : Option Given). Reads old new a b (Ok o)) is reads in (
      record { bytes = r.bytes; gives = r.gives; taken = r.taken; none_behind = r.none_behind; text = none_first (old.pending ++ r.bytes) new.pending new.ended (r.next.0 ∙ sym r.next.1) },
      r.next.2,
      r.next.1,
    )

pub takes_fault : (old new : ReaderState) (a b : SourceMoment) (e : LineFault) → (r : Reads old new a b (Err e)) → TakesLines old new a b [] (old.pending ++ r.bytes)
takes_fault old new a b e r =
    record { bytes = r.bytes; gives = r.gives; taken = r.taken; none_behind = r.none_behind; text = none_first (old.pending ++ r.bytes) (old.pending ++ r.bytes) new.ended refl }

-- some lines, and then the end
pub takes_then_ends : (old mid new : ReaderState) (a b c : SourceMoment) (lines : List Line) (found : Option Given) → found ≡ None → Reads mid new b c (Ok found) → TakesLines old mid a b lines mid.pending
    → TakesLines old new a c lines new.pending × (new.ended ≡ true) × (new.pending ≡ [])
takes_then_ends old mid new a b c lines found is reads t =
    let end = takes_end mid new b c found is reads in
    (subst (λ ls. TakesLines old new a c ls new.pending) (append-nil lines) (takes_both old mid new a b c lines [] new.pending t end.0), end.1, end.2)

-- ---- what a batch takes in

pub taking_start : (procs : Procedures) (k : Keeping) (s : ReaderState) (m : SourceMoment) (batch : Batch) → batch.answers.items ≡ [] → batch.fresh ≡ [] → Taking procs k s s m m batch
taking_start procs k s m batch answers fresh = record {
  lines = [];
  classes = [];
  takes = takes_none s m;
  as_many = sym (ap (length {A = LineAnswer}) answers);
  are = refl;
  answers = answers;
  fresh = fresh;
}

answers_from-length : (dones : List Done) (n : ℕ) (cs : List Class) → length (answers_from dones n cs) ≡ length cs
answers_from-length dones n [] = refl
answers_from-length dones n (c ∷ cs) = omega (arith, answers_from-length dones (n + 1) cs)

answers_from-more : (dones : List Done) (n : ℕ) (cs : List Class) (c : Class) → answers_from dones n (cs ++ c ∷ []) ≡ answers_from dones n cs ++ answer_of dones (n + length cs) c ∷ []
answers_from-more dones n [] c = let e : n ≡ n + 0 = omega arith in ap (λ k. answer_of dones k c ∷ []) e
answers_from-more dones n (x ∷ cs) c =
    let e : n + 1 + length cs ≡ n + length (x ∷ cs) = omega arith in
    ap (λ others. answer_of dones n x ∷ others) (answers_from-more dones (n + 1) cs c ∙ ap (λ k. answers_from dones (n + 1) cs ++ answer_of dones k c ∷ []) e)

new_of-append : (xs ys : List Class) → new_of (xs ++ ys) ≡ new_of xs ++ new_of ys
new_of-append [] ys = refl
new_of-append (x ∷ xs) ys = ap (λ rs. new_in x ++ rs) (new_of-append xs ys) ∙ sym (append_assoc (new_in x) (new_of xs) (new_of ys))

new_more : (cs : List Class) (c : Class) → new_of (cs ++ c ∷ []) ≡ new_of cs ++ new_in c
new_more cs c = new_of-append cs (c ∷ []) ∙ ap (λ rs. new_of cs ++ rs) (append-nil (new_in c))

abbrev with : Known → List Request → Known
with k rs = record k { requests = rs }

classes_more : (procs : Procedures) (k : Known) (lines : List Line) (cs : List Class) (line : Line) (c : Class) → AreClasses procs k lines cs → IsClass procs (and_known k (new_of cs)) line c
    → AreClasses procs k (lines ++ line ∷ []) (cs ++ c ∷ [])
classes_more procs k [] [] line c are is = (subst (λ rs. IsClass procs (with k rs) line c) (append-nil k.requests) is, refl)
classes_more procs k [] (d ∷ cs) line c are is = let e : d ∷ cs ≡ [] = are in cc
classes_more procs k (l ∷ lines) [] line c are is = absurd are
classes_more procs k (l ∷ lines) (d ∷ cs) line c are is =
    (are.0, classes_more procs (and_known k (new_in d)) lines cs line c are.1 (subst (λ rs. IsClass procs (with k rs) line c) (sym (append_assoc k.requests (new_in d) (new_of cs))) is))

-- what is known before the next line, with the new requests of the lines so far
known_again : (procs : Procedures) (held : Keeping) (fresh news : List Request) (line : Line) (c : Class) → fresh ≡ news → IsClass procs (known_of held fresh) line c
    → IsClass procs (and_known (known_of held []) news) line c
known_again procs held fresh news line c same is =
    subst (λ rs. IsClass procs (with (known_of held []) rs) line c) (ap (λ rs. map request_of held.dones ++ rs) same ∙ ap (λ l. l ++ news) (sym (append-nil (map request_of held.dones)))) is

-- what one line more does to a batch
pub record TakesIn (procs : Procedures) (held : Keeping) (bytes : List ℕ) (number : ℕ) (old new : Batch) : Type 0 where
  pub class : Class
  pub is : IsClass procs (known_of held old.fresh) bytes class
  pub answers : new.answers.items ≡ old.answers.items ++ answer_of held.dones number class ∷ []
  pub fresh : new.fresh ≡ old.fresh ++ new_in class

pub taking_more : (procs : Procedures) (held : Keeping) (old mid new : ReaderState) (a b c : SourceMoment) (batch grown : Batch) (line : Given) (found : Option Given) → found ≡ Some line
    → mid.given ≡ old.given + length batch.answers.items → Reads mid new b c (Ok found) → ((bytes : List ℕ) → line.body ≡ body_of bytes → TakesIn procs held bytes line.number batch grown)
    → Taking procs held old mid a b batch → Taking procs held old new a c grown
taking_more procs held old mid new a b c batch grown line found is place reads takes t =
    let read = takes_line mid new b c line found is reads in
    let bytes = read.0 in
    let took = takes bytes (ap (λ (l : Given). l.body) read.2) in
    let count = answers_from-length held.dones (old.given + 1) t.classes in
    let many : length t.classes ≡ length batch.answers.items = sym count ∙ sym (ap (length {A = LineAnswer}) t.answers) in
    let number : line.number ≡ old.given + 1 + length t.classes = omega (arith, ap (λ (l : Given). l.number) read.2, place, many) in
    record {
      lines = t.lines ++ bytes ∷ [];
      classes = t.classes ++ took.class ∷ [];
      takes = takes_both old mid new a b c t.lines (bytes ∷ []) new.pending t.takes read.1;
      as_many = omega (arith, t.as_many, length-append t.lines (bytes ∷ []), ap (length {A = LineAnswer}) took.answers, length-append batch.answers.items (answer_of held.dones line.number took.class ∷ []));
      are = classes_more procs (known_of held []) t.lines t.classes bytes took.class t.are (known_again procs held batch.fresh (new_of t.classes) bytes took.class t.fresh took.is);
      answers = took.answers ∙ ap (λ others. others ++ answer_of held.dones line.number took.class ∷ []) t.answers ∙ ap (λ k. answers_from held.dones (old.given + 1) t.classes ++ answer_of held.dones k took.class ∷ []) number
          ∙ sym (answers_from-more held.dones (old.given + 1) t.classes took.class);
      fresh = took.fresh ∙ ap (λ rs. rs ++ new_in took.class) t.fresh ∙ sym (new_more t.classes took.class);
    }

-- ---- the end of a batch

pub batch_ends : (procs : Procedures) (k : Keeping) (old mid new : ReaderState) (a b c : SourceMoment) (batch : Batch) (found : Option Given) → found ≡ None → Reads mid new b c (Ok found)
    → Taking procs k old mid a b batch → Taking procs k old new a c batch × (new.ended ≡ true) × (new.pending ≡ [])
batch_ends procs k old mid new a b c batch found is reads t =
    let end = takes_then_ends old mid new a b c t.lines found is reads t.takes in
    (record { lines = t.lines; classes = t.classes; takes = end.0; as_many = t.as_many; are = t.are; answers = t.answers; fresh = t.fresh }, end.1, end.2)

cut_off : (mid new : ReaderState) (b c : SourceMoment) (size : ℕ) (lines : List Line) (e : LineFault) → (r : Reads mid new b c (Err e)) → Stops e mid new → length lines < size
    → IsCutOff e size lines (mid.pending ++ r.bytes) new.ended
cut_off mid new b c size lines fault.Failed r stops few =
    (few, subst HasNoFeed (sym (r.next.2 ∙ ap (λ p. r.next.0 ++ p) stops.1 ∙ append-nil r.next.0)) r.next.1, stops.2)
cut_off mid new b c size lines fault.TooMuch r stops few =
    (few, subst HasNoFeed (sym (r.next.2 ∙ ap (λ p. r.next.0 ++ p) stops.1 ∙ append-nil r.next.0)) r.next.1, stops.2)
cut_off mid new b c size lines fault.NoMemory r stops few = tt

pub breaks_at_read : (old mid new : ReaderState) (a b c : SourceMoment) (lines : List Line) (size : ℕ) (e : LineFault) → Reads mid new b c (Err e) → Stops e mid new → length lines < size
    → TakesLines old mid a b lines mid.pending → BreaksOff old new a c size e
breaks_at_read old mid new a b c lines size e r stops few t = record {
  lines = lines;
  rest = mid.pending ++ r.bytes;
  takes = subst (λ ls. TakesLines old new a c ls (mid.pending ++ r.bytes)) (append-nil lines) (takes_both old mid new a b c lines [] (mid.pending ++ r.bytes) t (takes_fault mid new b c e r));
  cut_off = cut_off mid new b c size lines e r stops few;
}

pub breaks_at_line : (old mid new : ReaderState) (a b c : SourceMoment) (lines : List Line) (size : ℕ) (line : Given) (found : Option Given) → found ≡ Some line → Reads mid new b c (Ok found)
    → TakesLines old mid a b lines mid.pending → BreaksOff old new a c size fault.NoMemory
breaks_at_line old mid new a b c lines size line found is reads t =
    let read = takes_line mid new b c line found is reads in
    record { lines = lines ++ read.0 ∷ []; rest = new.pending; takes = takes_both old mid new a b c lines (read.0 ∷ []) new.pending t read.1; cut_off = tt }

pub breaks_at_start : (s : ReaderState) (m : SourceMoment) (size : ℕ) → BreaksOff s s m m size fault.NoMemory
breaks_at_start s m size = record { lines = []; rest = s.pending; takes = takes_none s m; cut_off = tt }
