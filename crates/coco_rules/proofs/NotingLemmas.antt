-- What is remembered of Dones decides which Done may come next.
use Rattle.std.proofs.Common.{◌≡◌, ◌⊎◌, inl, inr, ℕ, ◌+◌, ◌-◌, ◌<◌, ◌≤◌, Bool, true, false, cond, not, ◌||◌, nat_eq, eqb, ltb, leb, List, [], ◌∷◌, ◌++◌, length, filter, Option, None, Some, refl, sym, ap, subst, ◌∙◌, arith, length-append}
use Rattle.std.specs.List.{AllByRecursion}
use Rattle.std.specs.Option.{option_map}
use Rattle.std.specs.Bool.{MatchBool}
use Rattle.std.specs.List.Sorted.{IsPermutation}
use Rattle.std.specs.Set.{is_member}
use Rattle.std.proofs.lemmas.Bool.{eqb-true, eq-eqb, ltb-true, lt-ltb, leb-true, le-leb, and_from, or_left, or_right}
use Rattle.std.proofs.lemmas.Bool.Decides.{nat_tests}
use Rattle.std.proofs.lemmas.List.{map-append}
use Rattle.std.proofs.lemmas.List.Elements.{filter-append}
use Rattle.std.proofs.lemmas.List.Folds.{list_any-append}
use Rattle.std.proofs.lemmas.List.Sorted.{list_any-IsPermutation}
use Rattle.coco_types.specs.Limits.{most_batch_lines, most_kept, most_time}
use Rattle.coco_types.specs.declared.call.Done.{Done}
use Rattle.coco_ast.specs.Fitting.{is_taken}
use Rattle.coco_ast.specs.History.{IsBefore, ids_of}
use Rattle.coco_ast.specs.Meaning.{procedure_at}
use Rattle.coco_ast.specs.Tree.{Procedures}
use Rattle.coco_ast.proofs.Lists.{all_append, all_right, all_weaker}
use Rattle.coco_entry.specs.Bases.{is_before, stamp_of, stamp_rises}
use Rattle.coco_entry.specs.declared.base.Stamp.{Stamp}
use Rattle.coco_entry.proofs.GrammarLemmas.{both_true}
use Rattle.coco_store.specs.Rules.{HasRoom, IsNextDone, IsTime, Setting}
use Rattle.coco_rules.specs.Noting.{AreNoted, EndsAt, count_of, has_room, has_time, is_allowed, room_behind}
use Rattle.coco_rules.specs.declared.dones.Noted.{Noted}

-- ---- times and room

time_is : (snapshot : Bool) (time : ℕ) → has_time snapshot time ≡ true → IsTime snapshot time
time_is true time e = eqb-true time 0 e
time_is false time e = let two = both_true (leb 1 time) (leb time most_time) e in (leb-true 1 time two.0, leb-true time most_time two.1)

is_time : (snapshot : Bool) (time : ℕ) → IsTime snapshot time → has_time snapshot time ≡ true
is_time true time h = eq-eqb time 0 h
is_time false time h = and_from (leb 1 time) (leb time most_time) (le-leb 1 time h.0) (le-leb time most_time h.1)

room_is : (keep : Option ℕ) (before : List Done) → has_room (room_behind keep before) ≡ true → HasRoom keep before
room_is None before e = omega (arith, ltb-true 0 (most_kept - length before) e)
room_is (Some keep) before e = tt

is_room : (keep : Option ℕ) (before : List Done) → HasRoom keep before → has_room (room_behind keep before) ≡ true
is_room None before h = lt-ltb 0 (most_kept - length before) (omega (arith, h))
is_room (Some keep) before h = refl

room_more : (keep : Option ℕ) (before : List Done) (done : Done) → option_map (λ room. room - 1) (room_behind keep before) ≡ room_behind keep (before ++ done ∷ [])
room_more None before done = ap Some (omega (arith, length-append before (done ∷ [])))
room_more (Some keep) before done = refl

-- ---- the order of Dones

either : (a b : Bool) → (a || b) ≡ true → (a ≡ true) ⊎ (b ≡ true)
either true b e = inl refl
either false b e = inr e

before_is : (d e : Done) → is_before (stamp_of d) (stamp_of e) ≡ true → IsBefore d e
before_is d e h =
    elim (either (ltb d.epoch e.epoch) _ h) [
      | inl p ↦ inl (ltb-true d.epoch e.epoch p)
      | inr p ↦
          let q = both_true (eqb d.epoch e.epoch) _ p in
          inr (
            eqb-true d.epoch e.epoch q.0,
            elim (either (ltb d.time e.time) _ q.1) [
              | inl r ↦ inl (ltb-true d.time e.time r)
              | inr r ↦ let u = both_true (eqb d.time e.time) _ r in inr (eqb-true d.time e.time u.0, ltb-true d.id e.id u.1)
            ],
          )
    ]

is_before_so : (d e : Done) → IsBefore d e → is_before (stamp_of d) (stamp_of e) ≡ true
is_before_so d e (inl p) = or_left (ltb d.epoch e.epoch) _ (lt-ltb d.epoch e.epoch p)
is_before_so d e (inr (p, inl r)) =
    or_right (ltb d.epoch e.epoch) _ (and_from (eqb d.epoch e.epoch) _ (eq-eqb d.epoch e.epoch p) (or_left (ltb d.time e.time) _ (lt-ltb d.time e.time r)))
is_before_so d e (inr (p, inr u)) =
    or_right (ltb d.epoch e.epoch) _ (and_from (eqb d.epoch e.epoch) _ (eq-eqb d.epoch e.epoch p)
    (or_right (ltb d.time e.time) _ (and_from (eqb d.time e.time) _ (eq-eqb d.time e.time u.0) (lt-ltb d.id e.id u.1))))

pub before_both : (d e f : Done) → IsBefore d e → IsBefore e f → IsBefore d f
before_both d e f (inl p) (inl q) = inl (omega (arith, p, q))
before_both d e f (inl p) (inr (q, r)) = inl (omega (arith, p, q))
before_both d e f (inr (p, r)) (inl q) = inl (omega (arith, p, q))
before_both d e f (inr (p, inl r)) (inr (q, inl u)) = inr (omega (arith, p, q), inl (omega (arith, r, u)))
before_both d e f (inr (p, inl r)) (inr (q, inr (u, v))) = inr (omega (arith, p, q), inl (omega (arith, r, u)))
before_both d e f (inr (p, inr (r, s))) (inr (q, inl u)) = inr (omega (arith, p, q), inl (omega (arith, r, u)))
before_both d e f (inr (p, inr (r, s))) (inr (q, inr (u, v))) = inr (omega (arith, p, q), inr (omega (arith, r, u), omega (arith, s, v)))

-- of those before the last one none has a greater epoch
not_later : (d e : Done) → IsBefore d e → d.epoch ≤ e.epoch
not_later d e (inl p) = omega (arith, p)
not_later d e (inr (p, r)) = omega (arith, p)

rises_is : (before : List Done) (last : Option Stamp) (done : Done) → EndsAt before last → stamp_rises last (stamp_of done) ≡ true → AllByRecursion (λ d. IsBefore d done) before
rises_is before None done ends e = subst (λ (l : List Done). AllByRecursion (λ d. IsBefore d done) l) (sym ends) tt
rises_is before (Some last) done (front, newest, is, at, all) e =
    let next : IsBefore newest done = before_is newest done (ap (λ (s : Stamp). is_before s (stamp_of done)) at ∙ e) in
    subst (λ (l : List Done). AllByRecursion (λ d. IsBefore d done) l) (sym is)
    (all_append (λ d. IsBefore d done) front (newest ∷ []) (all_weaker (λ d. IsBefore d newest) (λ d. IsBefore d done) (λ d h. before_both d newest done h next) front all) (next, tt))

is_rising : (before : List Done) (last : Option Stamp) (done : Done) → EndsAt before last → AllByRecursion (λ d. IsBefore d done) before → stamp_rises last (stamp_of done) ≡ true
is_rising before None done ends all = refl
is_rising before (Some last) done (front, newest, is, at, others) all =
    let next = all_right (λ d. IsBefore d done) front (newest ∷ []) (subst (λ (l : List Done). AllByRecursion (λ d. IsBefore d done) l) is all) in
    ap (λ (s : Stamp). is_before s (stamp_of done)) (sym at) ∙ is_before_so newest done next.0

-- ---- how many are of an epoch

abbrev of_epoch : ℕ → List Done → ℕ
of_epoch epoch dones = length (filter (λ d. nat_eq d.epoch epoch) dones)

none_of : (epoch : ℕ) (dones : List Done) → AllByRecursion (λ d. d.epoch < epoch) dones → of_epoch epoch dones ≡ 0
none_of epoch [] all = refl
none_of epoch (d ∷ dones) all =
    let no : nat_eq d.epoch epoch ≡ false = (let less : d.epoch < epoch = all.0 in grind (arith, nat_tests)) in
    ap (λ (b : Bool). length (cond b (d ∷ filter (λ x. nat_eq x.epoch epoch) dones) (filter (λ x. nat_eq x.epoch epoch) dones))) no ∙ none_of epoch dones all.1

one_more : (epoch : ℕ) (dones : List Done) (done : Done) → done.epoch ≡ epoch → of_epoch epoch (dones ++ done ∷ []) ≡ of_epoch epoch dones + 1
one_more epoch dones done is =
    let one : filter (λ (d : Done). nat_eq d.epoch epoch) (done ∷ []) ≡ done ∷ [] = ap (λ (b : Bool). cond b (done ∷ []) []) (eq-eqb done.epoch epoch is) in
    ap length (filter-append (λ (d : Done). nat_eq d.epoch epoch) dones (done ∷ []))
    ∙ length-append (filter (λ (d : Done). nat_eq d.epoch epoch) dones) (filter (λ (d : Done). nat_eq d.epoch epoch) (done ∷ []))
    ∙ ap (λ (l : List Done). of_epoch epoch dones + length l) one

counted : (keep : Option ℕ) (before : List Done) (noted : Noted) (done : Done) → AreNoted keep before noted → AllByRecursion (λ d. IsBefore d done) before
    → count_of noted.last noted.of_epoch done.epoch ≡ of_epoch done.epoch before
counted keep before noted done are rises = go noted.last refl are.last
  where
    at_last : (last : Stamp) (front : List Done) (newest : Done) → noted.last ≡ Some last → before ≡ front ++ newest ∷ [] → stamp_of newest ≡ last → AllByRecursion (λ d. IsBefore d newest) front
        → (b : Bool) → nat_eq last.epoch done.epoch ≡ b → cond b noted.of_epoch 0 ≡ of_epoch done.epoch before
    at_last last front newest has is at all true e = are.of_epoch last has ∙ ap (λ n. of_epoch n before) (eqb-true last.epoch done.epoch e)
    at_last last front newest has is at all false e =
        let next = all_right (λ d. IsBefore d done) front (newest ∷ []) (subst (λ (l : List Done). AllByRecursion (λ d. IsBefore d done) l) is rises) in
        let same : newest.epoch ≡ last.epoch = ap (λ (s : Stamp). s.epoch) at in
        let most : newest.epoch ≤ done.epoch = not_later newest done next.0 in
        let below : last.epoch < done.epoch = grind (arith, nat_tests) in
        sym (ap (of_epoch done.epoch) is ∙ none_of done.epoch (front ++ newest ∷ [])
        (all_append (λ d. d.epoch < done.epoch) front (newest ∷ []) (all_weaker (λ d. IsBefore d newest) (λ d. d.epoch < done.epoch) (λ d h. omega (arith, not_later d newest h, same, below)) front all)
        (omega (arith, same, below), tt)))

    go : (last : Option Stamp) → noted.last ≡ last → EndsAt before last → count_of last noted.of_epoch done.epoch ≡ of_epoch done.epoch before
    go None has ends = sym (ap (of_epoch done.epoch) ends)
    go (Some last) has (front, newest, is, at, all) = at_last last front newest has is at all (nat_eq last.epoch done.epoch) refl

-- ---- the next Done

pub next_allowed : (s : Setting) (before : List Done) (noted : Noted) (done : Done) → AreNoted s.entry.keep before noted → IsNextDone s before done → is_allowed s.tree noted done ≡ true
next_allowed s before noted done are next =
    and_from (is_taken (procedure_at s.tree.procs done.call.proc_no) done.call) _ next.fits
    (and_from (has_time done.call.snapshot done.time) _ (is_time done.call.snapshot done.time next.time)
    (and_from (stamp_rises noted.last (stamp_of done)) _ (is_rising before noted.last done are.last next.rises)
    (and_from (ltb (count_of noted.last noted.of_epoch done.epoch) most_batch_lines) (has_room noted.room)
    (lt-ltb _ _ (omega (arith, counted s.entry.keep before noted done are next.rises, next.few)))
    (ap has_room are.room ∙ is_room s.entry.keep before next.room))))

-- all rules but that the id is new
pub record IsAllowed (s : Setting) (before : List Done) (noted : Noted) (done : Done) : Type 0 where
  pub fits : is_taken (procedure_at s.tree.procs done.call.proc_no) done.call ≡ true
  pub time : has_time done.call.snapshot done.time ≡ true
  pub rises : stamp_rises noted.last (stamp_of done) ≡ true
  pub few : count_of noted.last noted.of_epoch done.epoch < most_batch_lines
  pub room : has_room noted.room ≡ true

pub parts_of : (tree : Procedures) (s : Setting) (before : List Done) (noted : Noted) (done : Done) → s.tree ≡ tree → is_allowed tree noted done ≡ true → IsAllowed s before noted done
parts_of tree s before noted done same allowed =
    let a = both_true (is_taken (procedure_at tree.procs done.call.proc_no) done.call) _ allowed in
    let b = both_true (has_time done.call.snapshot done.time) _ a.1 in
    let c = both_true (stamp_rises noted.last (stamp_of done)) _ b.1 in
    let d = both_true (ltb (count_of noted.last noted.of_epoch done.epoch) most_batch_lines) (has_room noted.room) c.1 in
    record {
      fits = ap (λ (t : Procedures). is_taken (procedure_at t.procs done.call.proc_no) done.call) same ∙ a.0;
      time = b.0;
      rises = c.0;
      few = ltb-true _ _ d.0;
      room = d.1;
    }

is_next : (s : Setting) (before : List Done) (noted : Noted) (done : Done) → AreNoted s.entry.keep before noted → IsAllowed s before noted done → is_member nat_eq noted.ids.keys done.id ≡ false
    → IsNextDone s before done
is_next s before noted done are allowed new =
    let rises = rises_is before noted.last done are.last allowed.rises in
    record {
      fits = allowed.fits;
      time = time_is done.call.snapshot done.time allowed.time;
      rises = rises;
      new = sym (are.ids done.id) ∙ new;
      few = omega (arith, counted s.entry.keep before noted done are rises, allowed.few);
      room = room_is s.entry.keep before (ap has_room (sym are.room) ∙ allowed.room);
    }

-- ---- what is remembered then

-- a Done is noted behind others
pub record NotesDone (done : Done) (old new : Noted) : Type 0 where
  pub ids : (id : ℕ) → is_member nat_eq new.ids.keys id ≡ (nat_eq id done.id || is_member nat_eq old.ids.keys id)
  pub last : new.last ≡ Some (stamp_of done)
  pub of_epoch : new.of_epoch ≡ count_of old.last old.of_epoch done.epoch + 1
  pub room : new.room ≡ option_map (λ room. room - 1) old.room

swapped : (a b : Bool) → (a || b) ≡ (b || (a || false))
swapped true true = refl
swapped true false = refl
swapped false true = refl
swapped false false = refl

pub noted_more : (keep : Option ℕ) (before : List Done) (old new : Noted) (done : Done) → AreNoted keep before old → AllByRecursion (λ d. IsBefore d done) before → NotesDone done old new
    → AreNoted keep (before ++ done ∷ []) new
noted_more keep before old new done are rises notes = record {
  ids = λ id.
      notes.ids id ∙ ap (λ (b : Bool). nat_eq id done.id || b) (are.ids id) ∙ swapped (nat_eq id done.id) (is_member nat_eq (ids_of before) id)
      ∙ sym (ap (λ (l : List ℕ). is_member nat_eq l id) (map-append (λ (d : Done). d.id) before (done ∷ [])) ∙ list_any-append (nat_eq id) (ids_of before) (done.id ∷ []));
  last = subst (EndsAt (before ++ done ∷ [])) (sym notes.last) (before, done, refl, refl, rises);
  of_epoch = λ last has.
      let same : ◌≡◌ {A = Option Stamp} (Some (stamp_of done)) (Some last) = sym notes.last ∙ has in
      let is : stamp_of done ≡ last = cc in
      let epoch : done.epoch ≡ last.epoch = ap (λ (s : Stamp). s.epoch) is in
      notes.of_epoch ∙ ap (λ n. n + 1) (counted keep before old done are rises ∙ ap (λ n. of_epoch n before) epoch) ∙ sym (one_more last.epoch before done epoch);
  room = notes.room ∙ ap (option_map (λ room. room - 1)) are.room ∙ room_more keep before done;
}

-- an allowed Done with a new id
pub taken : (tree : Procedures) (s : Setting) (before : List Done) (old new : Noted) (done : Done) → s.tree ≡ tree → AreNoted s.entry.keep before old → is_allowed tree old done ≡ true
    → is_member nat_eq old.ids.keys done.id ≡ false → NotesDone done old new → IsNextDone s before done × AreNoted s.entry.keep (before ++ done ∷ []) new
taken tree s before old new done same are allowed fresh notes =
    let next = is_next s before old done are (parts_of tree s before old done same allowed) fresh in
    (next, noted_more s.entry.keep before old new done are next.rises notes)

pub not_allowed : (tree : Procedures) (s : Setting) (before : List Done) (noted : Noted) (done : Done) → s.tree ≡ tree → AreNoted s.entry.keep before noted → is_allowed tree noted done ≡ false
    → ¬ (IsNextDone s before done)
not_allowed tree s before noted done same are refused next =
    let no : true ≡ false = sym (ap (λ (t : Procedures). is_allowed t noted done) (sym same) ∙ next_allowed s before noted done are next) ∙ refused in
    cc

pub not_new : (s : Setting) (before : List Done) (noted : Noted) (done : Done) → AreNoted s.entry.keep before noted → is_member nat_eq noted.ids.keys done.id ≡ true → ¬ (IsNextDone s before done)
not_new s before noted done are has next =
    let no : true ≡ false = sym has ∙ are.ids done.id ∙ next.new in
    cc

-- ---- what an insertion says

pub not_there : (b c : Bool) → c ≡ not b → c ≡ true → b ≡ false
not_there true c is so = let no : false ≡ true = sym is ∙ so in cc
not_there false c is so = refl

pub with_id : (olds news : List ℕ) (k : ℕ) (b : Bool) → MatchBool b (IsPermutation (k ∷ olds) news) (news ≡ olds) → b ≡ true → (id : ℕ) → is_member nat_eq news id ≡ (nat_eq id k || is_member nat_eq olds id)
with_id olds news k true put so id = sym (list_any-IsPermutation (nat_eq id) (k ∷ olds) news put)
with_id olds news k false put so id = let no : false ≡ true = so in cc
