-- Replies that are put at their places.
use Rattle.std.proofs.Common.{◌≡◌, ℕ, zero, suc, ◌+◌, ◌<◌, ◌≤◌, Bool, cond, eqb, All, List, [], ◌∷◌, ◌++◌, map, length, None, Some, slice_index_or, slice_set, refl, sym, ap, ◌∙◌, subst, arith}
use Rattle.std.specs.Prelude.{sum_by}
use Rattle.std.specs.List.{AllByRecursion, flat_map, slice_get}
use Rattle.std.proofs.lemmas.Bool.{eq-eqb}
use Rattle.std.proofs.lemmas.List.{length-replicate, length-set, map-append}
use Rattle.std.proofs.lemmas.List.Sums.{sum_by-cons}
use Rattle.std.proofs.lemmas.Option.{slice_get_within}
use Rattle.coco_types.specs.declared.call.Reply.{Reply}
use Rattle.coco_types.specs.declared.call.Reply.TheVariants.{Ok}
use Rattle.coco_types.specs.declared.call.Request.{Request}
use Rattle.coco_ast.proofs.Lists.{all_append}
use Rattle.coco_ast.specs.Tree.{Procedures}
use Rattle.coco_claim.specs.Numbers.{times}
use Rattle.coco_claim.proofs.Counts.{times-append, times-cons}
use Rattle.coco_desks.proofs.GainLemmas.{get_set_other, get_set_same}
use Rattle.coco_journaled.specs.declared.entry.Entry.{Entry}
use Rattle.coco_journaled.specs.Passes.{entries_of}
use Rattle.coco_query.specs.Answers.{FrozenJournal, HaveRead, IsReplied, IsTold, entered, journal_at}
use Rattle.coco_query.specs.Placing.{HaveRun, blanks, put_all, put_lists}
use Rattle.coco_query.specs.Readers.{IsServed, Served, places_of, reading_of, replied}
use Rattle.coco_query.specs.declared.answering.Answered.{Answered}
use Rattle.coco_query.specs.declared.answering.ReadersEnd.{ReadersEnd}
use Rattle.coco_query.specs.declared.frozen.Frozen.{Frozen}
use Rattle.coco_query.specs.declared.frozen.FrozenAnswer.{FrozenAnswer}
use Rattle.coco_query.specs.declared.frozen.FrozenAsk.{FrozenAsk}
use Rattle.coco_query.specs.declared.readers.Reading.{Reading}
use Rattle.coco_query.specs.declared.readers.Replied.{Replied}
use Rattle.coco_query.specs.declared.readers.Transcript.{Transcript}

-- ---- one list, and several

pub all_split : {X : Type 0} (P : X → Type 0) (xs ys : List X) → AllByRecursion P (xs ++ ys) → AllByRecursion P xs × AllByRecursion P ys
all_split P [] ys all = (tt, all)
all_split P (x ∷ xs) ys all = let rest = all_split P xs ys all.1 in ((all.0, rest.0), rest.1)

abbrev joined : {X : Type 0} → List (List X) → List X
joined lists = flat_map (λ (xs : List _). xs) lists

all_joined : {X : Type 0} (P : X → Type 0) (lists : List (List X)) → ((n : ℕ) (d : List X) → n < length lists → AllByRecursion P (slice_index_or lists n d)) → AllByRecursion P (joined lists)
all_joined P [] each = tt
all_joined P (xs ∷ lists) each = all_append P xs (joined lists) (each 0 [] (omega arith)) (all_joined P lists (λ n d lt. each (suc n) d (omega (arith, lt))))

all_at : {X : Type 0} (P : X → Type 0) (lists : List (List X)) → AllByRecursion P (joined lists) → (n : ℕ) (d : List X) → n < length lists → AllByRecursion P (slice_index_or lists n d)
all_at P [] all n d lt = absurd (omega (arith, lt))
all_at P (xs ∷ lists) all zero d lt = (all_split P xs (joined lists) all).0
all_at P (xs ∷ lists) all (suc n) d lt = all_at P lists (all_split P xs (joined lists) all).1 n d (omega (arith, lt))

put_append : (rs : List Reply) (xs ys : List Replied) → put_all rs (xs ++ ys) ≡ put_all (put_all rs xs) ys
put_append rs [] ys = refl
put_append rs (x ∷ xs) ys = put_append (slice_set rs x.place x.reply) xs ys

put_joined : (rs : List Reply) (lists : List (List Replied)) → put_lists rs lists ≡ put_all rs (joined lists)
put_joined rs [] = refl
put_joined rs (xs ∷ lists) = put_joined (put_all rs xs) lists ∙ sym (put_append rs xs (joined lists))

put_count : (rs : List Reply) (xs : List Replied) → length (put_all rs xs) ≡ length rs
put_count rs [] = refl
put_count rs (x ∷ xs) = put_count (slice_set rs x.place x.reply) xs ∙ length-set rs x.place x.reply

-- ---- what stands at a place

abbrev place_in : Replied → ℕ
place_in x = x.place

abbrev one_at : ℕ → ℕ → ℕ
one_at x place = cond (eqb x place) 1 0

same_counts : (x place : ℕ) → x ≡ place → one_at x place ≡ 1
same_counts x place same = ap (λ (b : Bool). (let n : ℕ = cond b 1 0 in n)) (eq-eqb x place same)

-- where nothing more is put there, what stood there before
put_other : (place : ℕ) (rs : List Reply) (xs : List Replied) → times place (map place_in xs) ≡ 0 → slice_get (put_all rs xs) place ≡ slice_get rs place
put_other place rs [] none = refl
put_other place rs (x ∷ xs) none =
    let cons : times place (map place_in (x ∷ xs)) ≡ one_at x.place place + times place (map place_in xs) = times-cons place x.place (map place_in xs) in
    let rest : times place (map place_in xs) ≡ 0 = omega (arith, cons, none) in
    let here : one_at x.place place ≡ 0 = omega (arith, cons, none) in
    put_other place (slice_set rs x.place x.reply) xs rest ∙ get_set_other rs x.place place x.reply (λ same. (let one = same_counts x.place place same in omega (arith, one, here)))

-- what was put there, where that was once
put_once : (rs : List Reply) (xs : List Replied) → AllByRecursion (λ (x : Replied). x.place < length rs) xs → ((place : ℕ) → place < length rs → times place (map place_in xs) ≤ 1)
    → AllByRecursion (λ (x : Replied). slice_get (put_all rs xs) x.place ≡ Some x.reply) xs
put_once rs [] below once = tt
put_once rs (x ∷ xs) below once =
    let cons : times x.place (map place_in (x ∷ xs)) ≡ one_at x.place x.place + times x.place (map place_in xs) = times-cons x.place x.place (map place_in xs) in
    let one = same_counts x.place x.place refl in
    let most = once x.place below.0 in
    let same = length-set rs x.place x.reply in (
      put_other x.place (slice_set rs x.place x.reply) xs (omega (arith, cons, one, most)) ∙ get_set_same rs x.place x.reply below.0,
      put_once (slice_set rs x.place x.reply) xs (subst (λ (n : ℕ). AllByRecursion (λ (y : Replied). y.place < n) xs) (sym same) below.1)
          (λ place lt. (let more : times place (map place_in (x ∷ xs)) ≡ one_at x.place place + times place (map place_in xs) = times-cons place x.place (map place_in xs) in let all = once place (omega (arith, same, lt)) in omega (arith, more, all))),
    )

-- ---- all of them

-- the places of a list of readings are those of its replies
same_places : (served : List Served) → map place_in (map replied served) ≡ places_of (map reading_of served)
same_places [] = refl
same_places (s ∷ served) = ap (λ (ns : List ℕ). s.reading.place ∷ ns) (same_places served)

sums_match : (place : ℕ) (ts : List Transcript) (lists : List (List Replied)) → length ts ≡ length lists
    → ((n : ℕ) (d : Transcript) (e : List Replied) → n < length ts → times place (map place_in (slice_index_or lists n e)) ≡ times place (places_of (slice_index_or ts n d).readings))
    → times place (map place_in (joined lists)) ≡ sum_by (λ (t : Transcript). times place (places_of t.readings)) ts
sums_match place [] [] count each = refl
sums_match place [] (xs ∷ lists) count each = absurd (omega (arith, count))
sums_match place (t ∷ ts) [] count each = absurd (omega (arith, count))
sums_match place (t ∷ ts) (xs ∷ lists) count each =
    let split = ap (times place) (map-append place_in xs (joined lists)) in
    let append = times-append place (map place_in xs) (map place_in (joined lists)) in
    let cons = sum_by-cons (λ (u : Transcript). times place (places_of u.readings)) t ts in
    let here = each 0 t xs (omega arith) in
    let rest = sums_match place ts lists (omega (arith, count)) (λ n d e lt. each (suc n) d e (omega (arith, lt))) in
    omega (arith, split, append, cons, here, rest)

below_all : (procs : Procedures) (requests : List Request) (served : List Served) → AllByRecursion (IsServed procs requests) served → AllByRecursion (λ (x : Replied). x.place < length requests) (map replied served)
below_all procs requests [] each = tt
below_all procs requests (s ∷ served) each = (slice_get_within requests s.reading.place each.0.request each.0.placed, below_all procs requests served each.1)

told_all : (procs : Procedures) (requests : List Request) (replies : List Reply) (served : List Served) → AllByRecursion (IsServed procs requests) served → AllByRecursion (λ (x : Replied). slice_get replies x.place ≡ Some x.reply) (map replied served)
    → AllByRecursion (IsReplied procs requests replies) (map reading_of served)
told_all procs requests replies [] each put = tt
told_all procs requests replies (s ∷ served) each put = ((s.reply, put.0, each.0), told_all procs requests replies served each.1 put.1)

module _ (procs : Procedures) (requests : List Request) (gate readers : ℕ) (tables : List Frozen) (r : ReadersEnd) (ran : HaveRun procs requests gate readers tables r) where
  abbrev all_replies : List Replied
  all_replies = joined r.replies.items

  abbrev ordered : List Reply
  ordered = put_all (blanks (length requests)) all_replies

  counted : length (blanks (length requests)) ≡ length requests
  counted = length-replicate (length requests) (Ok None)

  below : AllByRecursion (λ (x : Replied). x.place < length requests) all_replies
  below = all_joined (λ (x : Replied). x.place < length requests) r.replies.items (λ n d lt. (
      let transcript : Transcript = record { readings = []; passed = [] } in
      let has = ran.run n transcript d (omega (arith, ran.as_many, lt)) in
      subst (AllByRecursion (λ (x : Replied). x.place < length requests)) (sym has.replies) (below_all procs requests has.served has.each)
      ))

  as_often : (place : ℕ) → times place (map place_in all_replies) ≡ sum_by (λ (t : Transcript). times place (places_of t.readings)) r.transcripts.items
  as_often place = sums_match place r.transcripts.items r.replies.items (ran.count ∙ sym ran.as_many) (λ n d e lt. (
      let has = ran.run n d e (omega (arith, ran.count, lt)) in
      ap (λ (xs : List Replied). times place (map place_in xs)) has.replies ∙ ap (times place) (same_places has.served) ∙ ap (λ (rs : List Reading). times place (places_of rs)) (sym has.readings)
      ))

  put : AllByRecursion (λ (x : Replied). slice_get ordered x.place ≡ Some x.reply) all_replies
  put = put_once (blanks (length requests)) all_replies (subst (λ (n : ℕ). AllByRecursion (λ (x : Replied). x.place < n) all_replies) (sym counted) below)
      (λ place lt. (let often = as_often place in let once = ran.once place (omega (arith, counted, lt)) in omega (arith, often, once)))

  pub have_read : (a : Answered) → a.tables.items ≡ r.tables.items → a.journals.items ≡ r.journals.items → a.transcripts.items ≡ r.transcripts.items → a.replies.items ≡ put_lists (blanks (length requests)) r.replies.items → r.tables.items ≡ tables
      → HaveRead procs requests gate readers tables a
  have_read a same_tables same_journals same_transcripts replies back = record {
    back = same_tables ∙ back;
    journals = ap length same_journals ∙ ran.journals;
    replies = ap length is ∙ put_count (blanks (length requests)) all_replies ∙ counted;
    count = ap length same_transcripts ∙ ran.count;
    told = λ reader d lt. (
        let has = ran.run reader d [] lt in
        let there : reader < length r.replies.items = omega (arith, ran.as_many, lt) in
        let own = subst (AllByRecursion (λ (x : Replied). slice_get ordered x.place ≡ Some x.reply)) has.replies (all_at (λ (x : Replied). slice_get ordered x.place ≡ Some x.reply) r.replies.items put reader [] there) in
        subst (λ (ts : List Transcript). IsTold procs requests gate tables a reader (slice_index_or ts reader d)) (sym same_transcripts) (record {
          replied = subst (λ (rs : List Reply). AllByRecursion (IsReplied procs requests rs) (slice_index_or r.transcripts.items reader d).readings) (sym is)
              (subst (AllByRecursion (IsReplied procs requests ordered)) (sym has.readings) (told_all procs requests ordered has.served has.each own));
          values = has.values;
          entries = λ p within. ap (λ (js : List FrozenJournal). map entered (entries_of reader (journal_at js p))) same_journals ∙ has.entries p within;
          passed = has.passed;
        })
        );
    once = λ place lt. ap (sum_by (λ (t : Transcript). times place (places_of t.readings))) same_transcripts ∙ ran.once place lt;
    no_other = λ p lt. subst (λ (js : List FrozenJournal). All (λ (e : Entry FrozenAsk FrozenAnswer). e.pass < readers) (journal_at js p)) (sym same_journals) (ran.no_other p lt);
  }
    where
      is : a.replies.items ≡ ordered
      is = replies ∙ put_joined (blanks (length requests)) r.replies.items
