-- Each kind of step keeps the rule.
use Rattle.std.proofs.Common.{◌≡◌, ◌≢◌, ℕ, zero, suc, ◌+◌, ◌%◌, ◌^◌, ◌<◌, ◌⊎◌, List, [], ◌∷◌, ◌++◌, map, length, set, true, false, true≢false, Option, Some, None, refl, sym, ap, ◌∙◌, subst, inl, inr, ⊎_elim, arith, length-append, eqb, All}
use Rattle.std.specs.Prelude.{slice_get, slice_index, slice_index_or, slice_set, sum_by}
use mathlib.Core.Option as opt
use mathlib.Core.List.{IsPrefix}
use lib.ListN.{get_elem?}
use prog.Atomic.{either}
use Rattle.std.proofs.lemmas.List.{map-append}
use Rattle.std.proofs.lemmas.List.Elements.{All-push, All-append, All-nil, All-cons}
use Rattle.atomic_table.specs.Table.{State, Me, Step, Act, keeps, takes, gives, Valid, Allows, Splits, Joins, stepped, carried_after, Final, Seen}
use Rattle.atomic_table.proofs.Lists.{set_again, exchanged, at_set, at_snoc}
use Rattle.std.proofs.lemmas.List.Sums.{sum_by_push}
use Rattle.coco_seen.specs.declared.view.View.{View}
use Rattle.coco_seen.specs.Rules.{how_often, once_below, numbers, as_one, places, words_of, beginner, Fits, ToFill, AtHome, Held, Kept}
use Rattle.coco_seen.specs.Steps.{tail_of, without_first, only_first, joined, spent, with_entry, filled, taken, appended, gave}
use Rattle.coco_seen.proofs.Lists.{each_set, sum_set, sum_same, at_most, two_at_most, only_one, prefix_self, prefix_trans, get_front, get_last, longer_begins, empty_if, often_push, often_append, often_split, length_split, once_more, often_first, none_below, length_numbers}

module _ {S E R : Type 0} (entries : S → List E) (comes : R → S → Type 0) where
  abbrev Here : Type 0
  Here = State (Option S) (View E R)

  abbrev holds_one : View E R → ℕ
  holds_one v = as_one v.holds

  abbrev fills_one : View E R → ℕ
  fills_one v = as_one v.fills

  -- the seat can go on to a state that keeps the rule
  abbrev Goes : ℕ → ℕ → ℕ → List (ℕ × Option S) → Here → ℕ → (Me (Option S) (View E R) → Type 0) → Type 0
  Goes notes id word c s m then = (w : View E R) × (a : Act (Option S)) × Valid s.homes c a × Kept entries comes notes (stepped s word m id c w a) × then (w, carried_after c a)

  first_root : (root : Option R) (roots : List R) (from : R) → All (λ (r : R). root ≡ Some r) roots → slice_get roots 0 ≡ Some from → root ≡ Some from
  first_root root [] from all e = absurd cc
  first_root root (r ∷ rs) from all e = let first : root ≡ Some r = all 0 r (omega arith) in cc

  -- a seat that knows a root finds the value at home or held
  not_to_fill : (notes id : ℕ) (v : View E R) (from : R) (s : Here) (k : Kept entries comes notes s) → get_elem? s.views id ≡ opt.some v → slice_get v.roots 0 ≡ Some from
      → AtHome entries comes k.place s.homes s.views k.log k.root ⊎ Held entries comes k.place s.homes s.views k.root
  not_to_fill notes id v from s k at known =
      let is : k.root ≡ Some from = first_root k.root v.roots from (k.each id v at).rooted known in
      ⊎_elim (λ (t : ToFill entries comes k.place s.homes s.views k.log k.root). let none : k.root ≡ None = t.root_is in absurd cc) (λ h. h) k.lies

  -- the seat that holds the value
  is_held : (notes id : ℕ) (v : View E R) (s : Here) (k : Kept entries comes notes s) → get_elem? s.views id ≡ opt.some v → v.holds ≡ true → Held entries comes k.place s.homes s.views k.root
  is_held notes id v s k at has =
      let one : as_one v.holds ≡ 1 = ap as_one has in
      let most = at_most holds_one s.views id v at in
      ⊎_elim (λ (t : ToFill entries comes k.place s.homes s.views k.log k.root). absurd (omega (arith, one, most, t.holders)))
      (λ h. ⊎_elim (λ (a : AtHome entries comes k.place s.homes s.views k.log k.root). absurd (omega (arith, one, most, a.holders))) (λ b. b) h)
      k.lies

  word_where : (notes : ℕ) (s : Here) (k : Kept entries comes notes s) → slice_index s.words 9 ≡ k.place
  word_where notes s k = ap (λ ws. slice_index ws 9) k.words

  -- a step that found another number changes nothing
  stays : (notes id : ℕ) (v : View E R) (s : Here) → Kept entries comes notes s → get_elem? s.views id ≡ opt.some v → Kept entries comes notes (stepped s 9 (slice_index s.words 9) id [] v keeps)
  stays notes id v s k at =
      let words : slice_set s.words 9 (slice_index s.words 9) ≡ s.words = ap (λ ws. slice_set ws 9 (slice_index ws 9)) k.words ∙ sym k.words in
      let views : set s.views id v ≡ s.views = set_again s.views id v at in
      subst (Kept entries comes notes) (λ i. record { words = sym words i; homes = s.homes; views = sym views i }) k

  take_home : (notes id : ℕ) (v : View E R) (from : R) (st : Step (Option S)) → v.marks ≢ [] → slice_get v.roots 0 ≡ Some from → v.holds ≡ false → (s : Here) (k : Kept entries comes notes s) → get_elem? s.views id ≡ opt.some v → (n : ℕ) → n ≡ 2
      → AtHome entries comes k.place s.homes s.views k.log k.root → Goes notes id 9 [] s 1 (taken entries comes st (v, []) n)
  take_home notes id v from st marked known free s k at n is h =
      let w : View E R = record v { list = entries h.value; holds = true } in
      let old : Fits k.root k.log v = k.each id v at in
      let mine : Fits k.root k.log w = record {
        rooted = old.rooted;
        begun = subst (λ l. IsPrefix l k.log) (sym h.log_is) (prefix_self k.log);
        whole = λ _. h.log_is;
        placed = old.placed;
        spent = λ e. absurd (marked e);
      } in
      let its_root : k.root ≡ Some from = first_root k.root v.roots from old.rooted known in
      let there : k.root ≡ Some h.from = h.root_is in
      let same_root : h.from ≡ from = cc in
      let none : as_one v.holds ≡ 0 = ap as_one free in
      let one : sum_by holds_one (set s.views id w) + as_one v.holds ≡ sum_by holds_one s.views + 1 = sum_set holds_one s.views id v w at in
      let holders : sum_by holds_one (set s.views id w) ≡ 1 = omega (arith, one, none, h.holders) in (
        w,
        takes 0 (Some h.value),
        ap (λ hs. get_elem? hs 0) h.slot,
        record {
          log = k.log;
          root = k.root;
          place = 1;
          words = ap (λ ws. slice_set ws 9 1) k.words;
          lies = inr (inr record {
            from = h.from;
            word = refl;
            slot = ap (λ hs. slice_set hs 0 opt.none) h.slot;
            root_is = h.root_is;
            holders = holders;
            fillers = sum_same fills_one s.views id v w at refl ∙ h.fillers;
          });
          each = each_set (Fits k.root k.log) s.views id w mine (λ j u _ e. k.each j u e);
          marked = λ m. sum_same (λ (u : View E R). how_often m u.marks) s.views id v w at refl ∙ k.marked m;
          all_marked = sum_same (λ (u : View E R). length u.marks) s.views id v w at refl ∙ k.all_marked;
          called = λ p. sum_same (λ (u : View E R). how_often p (places u)) s.views id v w at refl ∙ k.called p;
          all_called = sum_same (λ (u : View E R). length u.calls) s.views id v w at refl ∙ k.all_called;
        },
        ((λ _. (h.value, from, known, subst (λ r. comes r h.value) same_root h.comes_from, subst (IsPrefix v.list) (sym h.log_is) old.begun, refl)), λ no. absurd (no is)),
      )

  pub takes_it : (notes slots id : ℕ) (v : View E R) (from : R) (st : Step (Option S)) → v.marks ≢ [] → slice_get v.roots 0 ≡ Some from → v.holds ≡ false
      → Allows (Kept entries comes notes) slots id (v, []) 9 (λ n. either (eqb n 2) 1 n) (taken entries comes st (v, []))
  takes_it notes slots id v from st marked known free s k _ at _ =
      let n : ℕ = slice_index s.words 9 in
      exchanged n 2 1 (λ m. Goes notes id 9 [] s m (taken entries comes st (v, []) n))
      (λ is. ⊎_elim (take_home notes id v from st marked known free s k at n is) (λ (h : Held entries comes k.place s.homes s.views k.root). absurd (omega (arith, is, word_where notes s k, h.word))) (not_to_fill notes id v from s k at known))
      (λ no. (v, keeps, tt, stays notes id v s k at, ((λ is. absurd (no is)), λ _. refl)))

  appends_to : (notes id : ℕ) (v : View E R) (c : List (ℕ × Option S)) (st : Step (Option S)) (said : Option E) (entry : E) → said ≡ Some entry → v.marks ≢ [] → v.holds ≡ true → length v.list + 1 < 2 ^ 64
      → (s : Here) (k : Kept entries comes notes s) → get_elem? s.views id ≡ opt.some v → Held entries comes k.place s.homes s.views k.root
      → Goes notes id 8 c s ((slice_index s.words 8 + 1) % 2 ^ 64) (appended said st (v, c) (slice_index s.words 8))
  appends_to notes id v c st said entry says marked has room s k at h =
      let w : View E R = with_entry v entry in
      let old : Fits k.root k.log v = k.each id v at in
      let log : List E = k.log ++ entry ∷ [] in
      let longer_by : length log ≡ length k.log + 1 = length-append k.log (entry ∷ []) in
      let same : v.list ≡ k.log = old.whole has in
      let size : length v.list ≡ length k.log = ap length same in
      let found : slice_index s.words 8 ≡ length k.log = ap (λ ws. slice_index ws 8) k.words in
      let small : length k.log + 1 < 2 ^ 64 = omega arith in
      let next : (length k.log + 1) % 2 ^ 64 ≡ length log = omega arith in
      let grown : v.list ++ entry ∷ [] ≡ log = ap (λ l. l ++ entry ∷ []) same in
      let still : (cs : List (ℕ × E)) → All (λ (x : ℕ × E). slice_get k.log x.0 ≡ Some x.1) cs → All (λ (x : ℕ × E). slice_get log x.0 ≡ Some x.1) cs
      = λ cs all i d below. get_front k.log (entry ∷ []) _ _ (all i d below) in
      let on : (l : List E) → IsPrefix l k.log → IsPrefix l log = λ l pre. prefix_trans l k.log log pre (entry ∷ [], refl) in
      let mine : Fits k.root log w = record {
        rooted = old.rooted;
        begun = subst (λ l. IsPrefix l log) (sym grown) (prefix_self log);
        whole = λ _. grown;
        placed = All-push (λ (x : ℕ × E). slice_get log x.0 ≡ Some x.1) v.calls (length v.list, entry) (still v.calls old.placed) (get_last k.log entry (length v.list) size);
        spent = λ e. absurd (marked e);
      } in
      let one : as_one v.holds ≡ 1 = ap as_one has in
      let others : (j : ℕ) (u : View E R) → j ≢ id → get_elem? s.views j ≡ opt.some u → Fits k.root log u
      = λ j u apart there. let was : Fits k.root k.log u = k.each j u there in record {
        rooted = was.rooted;
        begun = on u.list was.begun;
        whole = λ holds. let two = two_at_most holds_one s.views id j v u at there apart in let its : as_one u.holds ≡ 1 = ap as_one holds in absurd (omega (arith, one, two, its, h.holders));
        placed = still u.calls was.placed;
        spent = was.spent;
      } in
      let said_place : (p : ℕ) → how_often p (places w) ≡ how_often p (places v) + as_one (eqb (length v.list) p)
      = λ p. ap (how_often p) (map-append (λ (x : ℕ × E). x.0) v.calls ((length v.list, entry) ∷ [])) ∙ often_push p (places v) (length v.list) in (
        w,
        keeps,
        tt,
        record {
          log = log;
          root = k.root;
          place = k.place;
          words = ap (λ ws. slice_set ws 8 ((slice_index ws 8 + 1) % 2 ^ 64)) k.words ∙ ap (λ x. words_of x k.place) next;
          lies = inr (inr record {
            from = h.from;
            word = h.word;
            slot = h.slot;
            root_is = h.root_is;
            holders = sum_same holds_one s.views id v w at refl ∙ h.holders;
            fillers = sum_same fills_one s.views id v w at refl ∙ h.fillers;
          });
          each = each_set (Fits k.root log) s.views id w mine others;
          marked = λ m. sum_same (λ (u : View E R). how_often m u.marks) s.views id v w at refl ∙ k.marked m;
          all_marked = sum_same (λ (u : View E R). length u.marks) s.views id v w at refl ∙ k.all_marked;
          called = λ p.
              let sums = sum_set (λ (u : View E R). how_often p (places u)) s.views id v w at in
              let more : once_below p (length log) ≡ once_below p (length k.log) + as_one (eqb (length k.log) p) = ap (once_below p) longer_by ∙ once_more p (length k.log) in
              let there : as_one (eqb (length v.list) p) ≡ as_one (eqb (length k.log) p) = ap (λ x. as_one (eqb x p)) size in
              omega (arith, sums, said_place p, more, there, k.called p);
          all_called =
              let sums = sum_set (λ (u : View E R). length u.calls) s.views id v w at in
              omega (arith, sums, length-append v.calls ((length v.list, entry) ∷ []), longer_by, k.all_called);
        },
        λ e is. let same_entry : entry ≡ e = cc in let after : E → Me (Option S) (View E R) = λ x. (with_entry v x, c) in (found ∙ sym size, ap after same_entry),
      )

  pub appends_it : (notes slots id : ℕ) (v : View E R) (c : List (ℕ × Option S)) (st : Step (Option S)) (said : Option E) (entry : E) → said ≡ Some entry → v.marks ≢ [] → v.holds ≡ true → length v.list + 1 < 2 ^ 64
      → Allows (Kept entries comes notes) slots id (v, c) 8 (λ n. (n + 1) % 2 ^ 64) (appended said st (v, c))
  appends_it notes slots id v c st said entry says marked has room s k _ at _ = appends_to notes id v c st said entry says marked has room s k at (is_held notes id v s k at has)

  pub gives_it : (notes slots id : ℕ) (v : View E R) (value : S) (root : R) (st : Step (Option S)) → v.marks ≢ [] → v.holds ≡ true → slice_get v.roots 0 ≡ Some root → comes root value → entries value ≡ v.list
      → Allows (Kept entries comes notes) slots id (v, (0, Some value) ∷ []) 9 (λ _. 2) (λ _. gave st (v, (0, Some value) ∷ []) 2)
  gives_it notes slots id v value root st marked has root_is from list_is s k _ at _ =
      let h = is_held notes id v s k at has in
      let w : View E R = record v { holds = false } in
      let old : Fits k.root k.log v = k.each id v at in
      let mine : Fits k.root k.log w = record {
        rooted = old.rooted;
        begun = old.begun;
        whole = λ e. absurd (true≢false (sym e));
        placed = old.placed;
        spent = λ e. absurd (marked e);
      } in
      let one : as_one v.holds ≡ 1 = ap as_one has in
      let less : sum_by holds_one (set s.views id w) + as_one v.holds ≡ sum_by holds_one s.views + 0 = sum_set holds_one s.views id v w at in
      let holders : sum_by holds_one (set s.views id w) ≡ 0 = omega (arith, less, one, h.holders) in (
        w,
        gives,
        tt,
        record {
          log = k.log;
          root = k.root;
          place = 2;
          words = ap (λ ws. slice_set ws 9 2) k.words;
          lies = inr (inl record {
            value = value;
            from = root;
            word = refl;
            slot = ap (λ hs. slice_set hs 0 (opt.some (Some value))) h.slot;
            log_is = list_is ∙ old.whole has;
            root_is = first_root k.root v.roots root old.rooted root_is;
            comes_from = from;
            holders = holders;
            fillers = sum_same fills_one s.views id v w at refl ∙ h.fillers;
          });
          each = each_set (Fits k.root k.log) s.views id w mine (λ j u _ e. k.each j u e);
          marked = λ m. sum_same (λ (u : View E R). how_often m u.marks) s.views id v w at refl ∙ k.marked m;
          all_marked = sum_same (λ (u : View E R). length u.marks) s.views id v w at refl ∙ k.all_marked;
          called = λ p. sum_same (λ (u : View E R). how_often p (places u)) s.views id v w at refl ∙ k.called p;
          all_called = sum_same (λ (u : View E R). length u.calls) s.views id v w at refl ∙ k.all_called;
        },
        refl,
      )

  filling : (notes id : ℕ) (v : View E R) (s : Here) (k : Kept entries comes notes s) → get_elem? s.views id ≡ opt.some v → v.fills ≡ true → ToFill entries comes k.place s.homes s.views k.log k.root
  filling notes id v s k at fills =
      let one : as_one v.fills ≡ 1 = ap as_one fills in
      let most = at_most fills_one s.views id v at in
      ⊎_elim (λ t. t)
      (λ h. ⊎_elim (λ (a : AtHome entries comes k.place s.homes s.views k.log k.root). absurd (omega (arith, one, most, a.fillers)))
      (λ (b : Held entries comes k.place s.homes s.views k.root). absurd (omega (arith, one, most, b.fillers))) h)
      k.lies

  fill_first : (notes id : ℕ) (v : View E R) (value : S) (root : R) (st : Step (Option S)) → comes root value → v.fills ≡ true → v.list ≡ [] → st.said ≡ opt.some (Some value)
      → (s : Here) (k : Kept entries comes notes s) → get_elem? s.views id ≡ opt.some v → ToFill entries comes k.place s.homes s.views k.log k.root → Goes notes id 9 [] s 1 (filled comes st (v, []) (slice_index s.words 9))
  fill_first notes id v value root st from fills empty said s k at t =
      let w : View E R = record v { roots = root ∷ []; holds = true; fills = false } in
      let old : Fits k.root k.log v = k.each id v at in
      let one : as_one v.fills ≡ 1 = ap as_one fills in
      let mine : Fits (Some root) k.log w = record {
        rooted = All-cons (λ (r : R). Some root ≡ Some r) root [] refl (All-nil (λ (r : R). Some root ≡ Some r));
        begun = old.begun;
        whole = λ _. empty ∙ sym t.log_is;
        placed = old.placed;
        spent = λ e. absurd (true≢false (sym fills ∙ (old.spent e).2));
      } in
      let others : (j : ℕ) (u : View E R) → j ≢ id → get_elem? s.views j ≡ opt.some u → Fits (Some root) k.log u
      = λ j u apart there.
      let was : Fits k.root k.log u = k.each j u there in
      record {
        rooted = λ i d below. let none : k.root ≡ None = t.root_is in let some : k.root ≡ Some (slice_index_or u.roots i d) = was.rooted i d below in absurd cc;
        begun = was.begun;
        whole = was.whole;
        placed = was.placed;
        spent = was.spent;
      } in
      let was_free : as_one v.holds ≡ 0 = omega (arith, at_most holds_one s.views id v at, t.holders) in
      let more : sum_by holds_one (set s.views id w) + as_one v.holds ≡ sum_by holds_one s.views + 1 = sum_set holds_one s.views id v w at in
      let less : sum_by fills_one (set s.views id w) + as_one v.fills ≡ sum_by fills_one s.views + 0 = sum_set fills_one s.views id v w at in
      let holders : sum_by holds_one (set s.views id w) ≡ 1 = omega (arith, more, was_free, t.holders) in
      let fillers : sum_by fills_one (set s.views id w) ≡ 0 = omega (arith, less, one, t.fillers) in (
        w,
        takes 0 None,
        ap (λ hs. get_elem? hs 0) t.slot,
        record {
          log = k.log;
          root = Some root;
          place = 1;
          words = ap (λ ws. slice_set ws 9 1) k.words;
          lies = inr (inr record {
            from = root;
            word = refl;
            slot = ap (λ hs. slice_set hs 0 opt.none) t.slot;
            root_is = refl;
            holders = holders;
            fillers = fillers;
          });
          each = each_set (Fits (Some root) k.log) s.views id w mine others;
          marked = λ m. sum_same (λ (u : View E R). how_often m u.marks) s.views id v w at refl ∙ k.marked m;
          all_marked = sum_same (λ (u : View E R). length u.marks) s.views id v w at refl ∙ k.all_marked;
          called = λ p. sum_same (λ (u : View E R). how_often p (places u)) s.views id v w at refl ∙ k.called p;
          all_called = sum_same (λ (u : View E R). length u.calls) s.views id v w at refl ∙ k.all_called;
        },
        λ x is. let same : value ≡ x = cc in (root, subst (comes root) same from, refl),
      )

  pub fills_it : (notes slots id : ℕ) (v : View E R) (value : S) (root : R) (st : Step (Option S)) → comes root value → v.fills ≡ true → v.list ≡ [] → st.said ≡ opt.some (Some value)
      → Allows (Kept entries comes notes) slots id (v, []) 9 (λ n. either (eqb n 0) 1 n) (filled comes st (v, []))
  fills_it notes slots id v value root st from fills empty said s k _ at _ =
      let n : ℕ = slice_index s.words 9 in
      let t = filling notes id v s k at fills in
      exchanged n 0 1 (λ m. Goes notes id 9 [] s m (filled comes st (v, []) n)) (λ _. fill_first notes id v value root st from fills empty said s k at t) (λ no. absurd (no (word_where notes s k ∙ t.word)))

  -- the value lies where it lay, where as many seats hold it and have to fill as before
  resettles : (place : ℕ) (homes : List (opt.Option (Option S))) (views now : List (View E R)) (log : List E) (root : Option R) → sum_by holds_one now ≡ sum_by holds_one views → sum_by fills_one now ≡ sum_by fills_one views
      → AtHome entries comes place homes views log root ⊎ Held entries comes place homes views root
      → ToFill entries comes place homes now log root ⊎ (AtHome entries comes place homes now log root ⊎ Held entries comes place homes now root)
  resettles place homes views now log root holders fillers =
      ⊎_elim
      (λ (a : AtHome entries comes place homes views log root). inr (inl record { value = a.value; from = a.from; word = a.word; slot = a.slot; log_is = a.log_is; root_is = a.root_is; comes_from = a.comes_from; holders = holders ∙ a.holders; fillers = fillers ∙ a.fillers }))
      (λ (h : Held entries comes place homes views root). inr (inr record { from = h.from; word = h.word; slot = h.slot; root_is = h.root_is; holders = holders ∙ h.holders; fillers = fillers ∙ h.fillers }))

  pub splits_it : (notes id : ℕ) (v : View E R) (from : R) → tail_of v.marks ≢ [] → slice_get v.roots 0 ≡ Some from → Splits (Kept entries comes notes) id v (without_first v) (only_first v)
  splits_it notes id v from left known s k at =
      let l : View E R = without_first v in
      let r : View E R = only_first v in
      let marked : v.marks ≢ [] = λ e. left (ap tail_of e) in
      let old : Fits k.root k.log v = k.each id v at in
      let vs : List (View E R) = set s.views id l in
      let mine : Fits k.root k.log l = record { rooted = old.rooted; begun = old.begun; whole = old.whole; placed = old.placed; spent = λ e. absurd (left e) } in
      let new : Fits k.root k.log r = record { rooted = old.rooted; begun = old.begun; whole = λ e. absurd (true≢false (sym e)); placed = All-nil (λ (x : ℕ × E). slice_get k.log x.0 ≡ Some x.1); spent = λ _. (refl, refl, refl) } in
      let adds : (f : View E R → ℕ) → f l + f r ≡ f v → sum_by f (vs ++ r ∷ []) ≡ sum_by f s.views
      = λ f parts. omega (arith, parts, sum_by_push f vs r, sum_set f s.views id v l at) in record {
        log = k.log;
        root = k.root;
        place = k.place;
        words = k.words;
        lies = resettles k.place s.homes s.views (vs ++ r ∷ []) k.log k.root (adds holds_one (omega arith)) (adds fills_one (omega arith)) (not_to_fill notes id v from s k at known);
        each = λ j u e. ⊎_elim (λ was. each_set (Fits k.root k.log) s.views id l mine (λ i x _ there. k.each i x there) j u was) (λ (is : r ≡ u). subst (Fits k.root k.log) is new) (at_snoc vs r u j e);
        marked = λ m. adds (λ (u : View E R). how_often m u.marks) (omega (arith, often_split m v.marks)) ∙ k.marked m;
        all_marked = adds (λ (u : View E R). length u.marks) (omega (arith, length_split v.marks)) ∙ k.all_marked;
        called = λ p. adds (λ (u : View E R). how_often p (places u)) (omega arith) ∙ k.called p;
        all_called = adds (λ (u : View E R). length u.calls) (omega arith) ∙ k.all_called;
      }

  pub joins_it : (notes id : ℕ) (v : View E R) (from : R) (other : ℕ) (w : View E R) → v.marks ≢ [] → slice_get v.roots 0 ≡ Some from → v.holds ≡ false → w.holds ≡ false → w.fills ≡ false → Joins (Kept entries comes notes) id v other w (joined v w) spent
  joins_it notes id v from other w marked known free free_too full_too s k at apart there =
      let b : View E R = joined v w in
      let vs : List (View E R) = set s.views id b in
      let now : List (View E R) = set vs other spent in
      let was : get_elem? s.views other ≡ opt.some w = ⊎_elim (λ (t : (other ≡ id) × (b ≡ w)). absurd (apart t.0)) (λ (t : (other ≢ id) × (get_elem? s.views other ≡ opt.some w)). t.1) (at_set s.views id other b w there) in
      let old : Fits k.root k.log v = k.each id v at in
      let theirs : Fits k.root k.log w = k.each other w was in
      let mine : Fits k.root k.log b = record {
        rooted = All-append (λ (r : R). k.root ≡ Some r) v.roots w.roots old.rooted theirs.rooted;
        begun = longer_begins v.list w.list k.log old.begun theirs.begun;
        whole = λ e. absurd (true≢false (sym e ∙ free));
        placed = All-append (λ (x : ℕ × E). slice_get k.log x.0 ≡ Some x.1) v.calls w.calls old.placed theirs.placed;
        spent = λ e. absurd (no_marks v.marks w.marks marked e);
      } in
      let gone : Fits k.root k.log spent = record { rooted = All-nil (λ (r : R). k.root ≡ Some r); begun = (k.log, refl); whole = λ e. absurd (true≢false (sym e)); placed = All-nil (λ (x : ℕ × E). slice_get k.log x.0 ≡ Some x.1); spent = λ _. (refl, refl, refl) } in
      let adds : (f : View E R → ℕ) → f b + f spent ≡ f v + f w → sum_by f now ≡ sum_by f s.views
      = λ f parts. omega (arith, parts, sum_set f s.views id v b at, sum_set f vs other w spent there) in
      let none : as_one w.holds ≡ 0 = ap as_one free_too in
      let idle : as_one w.fills ≡ 0 = ap as_one full_too in record {
        log = k.log;
        root = k.root;
        place = k.place;
        words = k.words;
        lies = resettles k.place s.homes s.views now k.log k.root (adds holds_one (omega (arith, none))) (adds fills_one (omega (arith, idle))) (not_to_fill notes id v from s k at known);
        each = each_set (Fits k.root k.log) vs other spent gone (λ j u _ e. each_set (Fits k.root k.log) s.views id b mine (λ i x _ at'. k.each i x at') j u e);
        marked = λ m. adds (λ (u : View E R). how_often m u.marks) (omega (arith, often_append m v.marks w.marks)) ∙ k.marked m;
        all_marked = adds (λ (u : View E R). length u.marks) (omega (arith, length-append v.marks w.marks)) ∙ k.all_marked;
        called = λ p.
            let both : how_often p (places b) ≡ how_often p (places v) + how_often p (places w) = ap (how_often p) (map-append (λ (x : ℕ × E). x.0) v.calls w.calls) ∙ often_append p (places v) (places w) in
            adds (λ (u : View E R). how_often p (places u)) (omega (arith, both)) ∙ k.called p;
        all_called = adds (λ (u : View E R). length u.calls) (omega (arith, length-append v.calls w.calls)) ∙ k.all_called;
      }
    where
      no_marks : (xs ys : List ℕ) → xs ≢ [] → xs ++ ys ≡ [] → ⊥
      no_marks [] ys some e = some refl
      no_marks (x ∷ xs) ys some e = absurd cc

  -- the table at the start: one seat stands for all notes, and the slot is empty
  pub begins_so : (notes : ℕ) → 0 < notes → Kept entries comes notes record { words = words_of 0 0; homes = opt.some None ∷ []; views = beginner notes ∷ [] }
  begins_so notes some =
      let marks : length (numbers 0 notes) ≡ notes = length_numbers 0 notes in record {
        log = [];
        root = None;
        place = 0;
        words = refl;
        lies = inl record { word = refl; slot = refl; log_is = refl; holders = refl; root_is = refl; fillers = refl };
        each = each;
        marked = λ m. omega (arith, often_first m notes);
        all_marked = omega (arith, marks);
        called = λ p. sym (none_below p);
        all_called = refl;
      }
    where
      fits : Fits {E = E} {R = R} None [] (beginner notes)
      fits = record { rooted = All-nil (λ (r : R). None ≡ Some r); begun = ([], refl); whole = λ _. refl; placed = All-nil (λ (x : ℕ × E). slice_get [] x.0 ≡ Some x.1); spent = λ e. let marks : length (numbers 0 notes) ≡ notes = length_numbers 0 notes in absurd (omega (arith, some, marks, ap length e)) }

      each : (i : ℕ) (v : View E R) → get_elem? (beginner notes ∷ []) i ≡ opt.some v → Fits {E = E} {R = R} None [] v
      each zero v e = subst (Fits {E = E} {R = R} None []) (opt.some-injective (beginner notes) v e) fits
      each (suc i) v e = absurd (opt.some-ne-none v (sym e))

  -- what the one seat that has all marks finds at the end
  pub record Ends (v : View E R) (slots : List (Option S)) : Type 0 where
    pub value : S
    pub from : R
    pub slot : get_elem? slots 0 ≡ opt.some (Some value)
    pub rooted : All (λ (r : R). from ≡ r) v.roots
    pub comes_from : comes from value
    pub placed : All (λ (x : ℕ × E). slice_get (entries value) x.0 ≡ Some x.1) v.calls
    pub once : (p : ℕ) → how_often p (places v) ≡ once_below p (length (entries value))
    pub sized : length (entries value) ≡ length v.calls

  pub ends_so : (notes id : ℕ) (v : View E R) (from : R) (words : List ℕ) (slots : List (Option S)) → length v.marks ≡ notes → slice_get v.roots 0 ≡ Some from → v.holds ≡ false
      → Final (Seen (Kept entries comes notes) id v) words slots → Ends v slots
  ends_so notes id v from words slots all known free final =
      let s : Here = final.0 in
      let k : Kept entries comes notes s = final.1.0 in
      let at : get_elem? s.views id ≡ opt.some v = final.1.1 in
      let others : (j : ℕ) (u : View E R) → j ≢ id → get_elem? s.views j ≡ opt.some u → (u.calls ≡ []) × (u.holds ≡ false) × (u.fills ≡ false)
      = λ j u apart there. (k.each j u there).spent (empty_if u.marks (omega (arith, two_at_most (λ (x : View E R). length x.marks) s.views id j v u at there apart, k.all_marked))) in
      let held : sum_by holds_one s.views ≡ as_one v.holds = only_one holds_one s.views id v at (λ j u apart there. ap as_one (others j u apart there).1) in
      let calls : sum_by (λ (u : View E R). length u.calls) s.views ≡ length v.calls = only_one (λ (u : View E R). length u.calls) s.views id v at (λ j u apart there. ap length (others j u apart there).0) in
      let called : (p : ℕ) → sum_by (λ (u : View E R). how_often p (places u)) s.views ≡ how_often p (places v)
      = λ p. only_one (λ (u : View E R). how_often p (places u)) s.views id v at (λ j u apart there. ap (λ cs. how_often p (map (λ (x : ℕ × E). x.0) cs)) (others j u apart there).0) in
      let none : as_one v.holds ≡ 0 = ap as_one free in
      let mine : Fits k.root k.log v = k.each id v at in
      ⊎_elim
      (λ (a : AtHome entries comes k.place s.homes s.views k.log k.root). let size : length (entries a.value) ≡ length k.log = ap length a.log_is in record {
        value = a.value;
        from = a.from;
        slot = final.4 0 (Some a.value) (ap (λ hs. get_elem? hs 0) a.slot);
        rooted = λ i d below. let there : k.root ≡ Some (slice_index_or v.roots i d) = mine.rooted i d below in let its : k.root ≡ Some a.from = a.root_is in cc;
        comes_from = a.comes_from;
        placed = subst (λ l. All (λ (x : ℕ × E). slice_get l x.0 ≡ Some x.1) v.calls) (sym a.log_is) mine.placed;
        once = λ p. sym (called p) ∙ k.called p ∙ ap (once_below p) (sym size);
        sized = size ∙ sym k.all_called ∙ calls;
      })
      (λ (h : Held entries comes k.place s.homes s.views k.root). absurd (omega (arith, held, none, h.holders)))
      (not_to_fill notes id v from s k at known)
