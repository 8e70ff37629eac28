-- Pieces noted one after another, and the lines for them.
use Rattle.std.proofs.Common.{◌≡◌, ℕ, ◌+◌, ◌*◌, ◌<◌, true, false, List, [], ◌∷◌, ◌++◌, length, take, get_or, Some, refl, sym, ap, ◌∙◌, subst, arith, inl, inr, length-append}
use Rattle.std.proofs.Math.ListN.{set}
use Rattle.std.specs.List.{slice_get, All, Contains}
use Rattle.std.specs.Option.{MatchOption}
use Rattle.std.proofs.lemmas.Bool.{cases_eq, cases_lt}
use Rattle.std.proofs.lemmas.List.{get_or_append_left, get_or_default, get_or_push, take_more}
use Rattle.std.proofs.lemmas.List.Elements.{Contains-append_left, Contains-get_or, Contains-push, Contains-push_cases}
use Rattle.std.proofs.lemmas.Option.{slice_get-get_or}
use Rattle.coco_types.specs.declared.call.Piece.{Piece}
use Rattle.coco_copy.specs.CopyState.{CopyState}
use Rattle.coco_ship.specs.declared.line.Line.{Line}
use Rattle.coco_ship.specs.declared.line.Noted.{Noted}
use Rattle.coco_ship.specs.declared.ring.Ring.{Ring}
use Rattle.coco_ship.specs.Placing.{table_of, IsCopy}
use Rattle.coco_ship.specs.Sets.{is_in}
use Rattle.coco_ship.specs.Pieces.{covers, AreShippable, IsOf}
use Rattle.coco_ship.specs.Lines.{none_noted, AllBegin, AreCounted, AreLines, AreNoted, ArePlacesOf, AreWaiting, Begins, IsLine, IsNoted, Notes, NotesPiece}
use Rattle.coco_ship.proofs.Tables.{below_all, one_read, set_other, set_same, tables_apart}

pub read_at : {X : Type 0} (xs : List X) (i : ℕ) (x : X) → i < length xs → x ≡ get_or xs i x → slice_get xs i ≡ Some x
read_at xs i x h is = slice_get-get_or xs i x h ∙ ap Some (sym is)

pub notes_none : (ring : Ring) (x : Piece) (old : List Noted) (tables : List CopyState) → NotesPiece ring x 0 old tables old
notes_none ring x old tables = record {
  noted = λ j less. absurd (omega (arith, less));
  later = λ j more copy. refl;
  others = λ p j copy apart. refl;
}

-- noted for one copy more
pub notes_more : (ring : Ring) (x : Piece) (n : ℕ) (old : List Noted) (tables : List CopyState) (mid : List Noted) (l m : Noted) (t : CopyState) → IsCopy ring x.partition n
    → length mid ≡ ring.partitions * ring.copies → length tables ≡ ring.partitions * ring.copies → l ≡ get_or mid (table_of ring x.partition n) l → t ≡ get_or tables (table_of ring x.partition n) t
    → Notes l t x m → NotesPiece ring x n old tables mid → NotesPiece ring x (n + 1) old tables (set mid (table_of ring x.partition n) m)
notes_more ring x n old tables mid l m t here lines copies l_is t_is notes before =
    let inside : table_of ring x.partition n < ring.partitions * ring.copies = below_all ring.partitions ring.copies x.partition n here.partition here.copy in
    let l_at : slice_get mid (table_of ring x.partition n) ≡ Some l = read_at mid (table_of ring x.partition n) l (omega (arith, inside, lines)) l_is in
    let t_at : slice_get tables (table_of ring x.partition n) ≡ Some t = read_at tables (table_of ring x.partition n) t (omega (arith, inside, copies)) t_is in
    let m_at : slice_get (set mid (table_of ring x.partition n) m) (table_of ring x.partition n) ≡ Some m = set_same mid (table_of ring x.partition n) m (omega (arith, inside, lines)) in
    record {
      noted = λ j less b a u b_is a_is u_is. elim (cases_lt j n) [
        | inl early ↦ before.noted j early b a u b_is (sym (set_other mid (table_of ring x.partition n) (table_of ring x.partition j) m (other j early)) ∙ a_is) u_is
        | inr late ↦
            let same : n ≡ j = omega (arith, less, late) in
            let old_at : slice_get old (table_of ring x.partition n) ≡ Some l = sym (before.later n (omega arith) here) ∙ l_at in
            let l_b : l ≡ b = one_read (slice_get old (table_of ring x.partition n)) l b old_at (ap (λ j. slice_get old (table_of ring x.partition j)) same ∙ b_is) in
            let m_a : m ≡ a = one_read (slice_get (set mid (table_of ring x.partition n) m) (table_of ring x.partition n)) m a m_at (ap (λ j. slice_get (set mid (table_of ring x.partition n) m) (table_of ring x.partition j)) same ∙ a_is) in
            let t_u : t ≡ u = one_read (slice_get tables (table_of ring x.partition n)) t u t_at (ap (λ j. slice_get tables (table_of ring x.partition j)) same ∙ u_is) in
            subst (λ z. Notes z u x a) l_b (subst (λ z. Notes l u x z) m_a (subst (λ z. Notes l z x m) t_u notes))
      ];
      later = λ j more copy. set_other mid (table_of ring x.partition n) (table_of ring x.partition j) m (λ e. past n j (omega (arith, more)) (sym (tables_apart ring.copies x.partition j x.partition n copy.copy here.copy e).1)) ∙ before.later j (omega (arith, more)) copy;
      others = λ p j copy apart. set_other mid (table_of ring x.partition n) (table_of ring p j) m (λ e. apart (tables_apart ring.copies p j x.partition n copy.copy here.copy e).0) ∙ before.others p j copy apart;
    }
  where
    past : (n j : ℕ) → n < j → n ≡ j → ⊥
    past n j less same = omega arith

    other : (j : ℕ) → j < n → table_of ring x.partition j ≡ table_of ring x.partition n → ⊥
    other j less e = past j n less (tables_apart ring.copies x.partition j x.partition n (let top : n < ring.copies = here.copy in omega (arith, less)) here.copy e).1

two_sides : true ≡ false → ⊥
two_sides h = cc

unnoted_at : (pieces : List Piece) (p : ℕ) (noted : Noted) (table : CopyState) → noted ≡ none_noted → IsNoted pieces [] p noted table
unnoted_at pieces p noted table is = record {
  there = λ x of h. absurd (two_sides (sym h ∙ ap (λ (z : Noted). is_in z.there x.place) is));
  counts = λ x of h. absurd (omega (arith, of.among.1));
  all = record { each = λ x of. absurd (omega (arith, of.among.1)); only = λ q h. absurd (two_sides (sym h ∙ ap (λ (z : Noted). is_in z.all q) is)) };
}

pub unnoted_all : (ring : Ring) (pieces : List Piece) (notes : List Noted) (tables : List CopyState) → length notes ≡ ring.partitions * ring.copies → All (λ noted. noted ≡ none_noted) notes → AreNoted ring pieces [] notes tables
unnoted_all ring pieces notes tables count all p j copy noted table noted_is table_is =
    let inside : table_of ring p j < ring.partitions * ring.copies = below_all ring.partitions ring.copies p j copy.partition copy.copy in
    let within : table_of ring p j < length notes = omega (arith, inside, count) in
    let one : get_or notes (table_of ring p j) noted ≡ noted = one_read (slice_get notes (table_of ring p j)) (get_or notes (table_of ring p j) noted) noted (slice_get-get_or notes (table_of ring p j) noted within) noted_is in
    unnoted_at pieces p noted table (sym one ∙ all (table_of ring p j) noted within)

pushed_of : (so_far : List Piece) (x : Piece) (p q : ℕ) → (y : Piece) × IsOf so_far p y × (y.place ≡ q) → (y : Piece) × IsOf (so_far ++ x ∷ []) p y × (y.place ≡ q)
pushed_of so_far x p q by = (by.0, record { among = Contains-append_left so_far (x ∷ []) by.0 by.1.among; partition = by.1.partition }, by.2)

-- a piece more, for a copy of its partition
more_here : (ring : Ring) (pieces so_far : List Piece) (x : Piece) (noted after : Noted) (table : CopyState) → AreShippable ring pieces → Contains pieces x → Notes noted table x after
    → IsNoted pieces so_far x.partition noted table → IsNoted pieces (so_far ++ x ∷ []) x.partition after table
more_here ring pieces so_far x noted after table fit among notes before = record {
  there = λ y of h. elim (notes.there y.place h) [
    | inl old ↦ before.there y of old
    | inr new ↦ subst (λ (z : Piece). covers table z.time z.writes ≡ true) (sym (fit.one_piece x.partition y x of (record { among = among; partition = refl }) new.0)) new.1
  ];
  counts = λ y of h. elim (Contains-push_cases so_far x y of.among) [
    | inl old ↦ notes.there_stays y.place (before.counts y (record { among = old; partition = of.partition }) h)
    | inr new ↦ ap (λ (z : Piece). is_in after.there z.place) (sym new) ∙ notes.counts (subst (λ (z : Piece). covers table z.time z.writes ≡ true) (sym new) h)
  ];
  all = record {
    each = λ y of. elim (Contains-push_cases so_far x y of.among) [
      | inl old ↦ notes.all.stay y.place (before.all.each y (record { among = old; partition = of.partition }))
      | inr new ↦ ap (λ (z : Piece). is_in after.all z.place) (sym new) ∙ notes.all.there
    ];
    only = λ q h. elim (notes.all.only q h) [
      | inl new ↦ (x, record { among = Contains-push so_far x; partition = refl }, sym new)
      | inr old ↦ pushed_of so_far x x.partition q (before.all.only q old)
    ];
  };
}

-- or for a copy of another partition
more_there : (pieces so_far : List Piece) (x : Piece) (p : ℕ) (noted : Noted) (table : CopyState) → (p ≡ x.partition → ⊥) → IsNoted pieces so_far p noted table → IsNoted pieces (so_far ++ x ∷ []) p noted table
more_there pieces so_far x p noted table apart before = record {
  there = before.there;
  counts = λ y of h. elim (Contains-push_cases so_far x y of.among) [
    | inl old ↦ before.counts y (record { among = old; partition = of.partition }) h
    | inr new ↦ absurd (apart (sym of.partition ∙ ap (λ (z : Piece). z.partition) (sym new)))
  ];
  all = record {
    each = λ y of. elim (Contains-push_cases so_far x y of.among) [
      | inl old ↦ before.all.each y (record { among = old; partition = of.partition })
      | inr new ↦ absurd (apart (sym of.partition ∙ ap (λ (z : Piece). z.partition) (sym new)))
    ];
    only = λ q h. pushed_of so_far x p q (before.all.only q h);
  };
}

read_note : (ring : Ring) (notes : List Noted) → length notes ≡ ring.partitions * ring.copies → (p j : ℕ) → IsCopy ring p j → (d : Noted) → slice_get notes (table_of ring p j) ≡ Some (get_or notes (table_of ring p j) d)
read_note ring notes count p j copy d =
    let inside : table_of ring p j < ring.partitions * ring.copies = below_all ring.partitions ring.copies p j copy.partition copy.copy in
    slice_get-get_or notes (table_of ring p j) d (omega (arith, inside, count))

noted_then : (ring : Ring) (pieces so_far : List Piece) (x : Piece) (notes after : List Noted) (tables : List CopyState) → AreShippable ring pieces → Contains pieces x → length notes ≡ ring.partitions * ring.copies
    → AreNoted ring pieces so_far notes tables → NotesPiece ring x ring.copies notes tables after → AreNoted ring pieces (so_far ++ x ∷ []) after tables
noted_then ring pieces so_far x notes after tables fit among count before adds p j copy new t new_is t_is = elim (cases_eq p x.partition) [
  | inl same ↦ here (subst (λ q. IsCopy ring q j) same copy) (ap (λ q. slice_get after (table_of ring q j)) (sym same) ∙ new_is) (ap (λ q. slice_get tables (table_of ring q j)) (sym same) ∙ t_is) same
  | inr apart ↦ more_there pieces so_far x p new t apart (before p j copy new t (sym (adds.others p j copy apart) ∙ new_is) t_is)
]
  where
    here : IsCopy ring x.partition j → slice_get after (table_of ring x.partition j) ≡ Some new → slice_get tables (table_of ring x.partition j) ≡ Some t → p ≡ x.partition → IsNoted pieces (so_far ++ x ∷ []) p new t
    here at new_at t_at same =
        let old_at = read_note ring notes count x.partition j at new in
        subst (λ q. IsNoted pieces (so_far ++ x ∷ []) q new t) (sym same)
        (more_here ring pieces so_far x (get_or notes (table_of ring x.partition j) new) new t fit among (adds.noted j at.copy (get_or notes (table_of ring x.partition j) new) new t old_at new_at t_at)
        (before x.partition j at (get_or notes (table_of ring x.partition j) new) t old_at t_at))

-- one piece more
pub noted_more : (ring : Ring) (pieces : List Piece) (i : ℕ) (x : Piece) (notes after : List Noted) (tables : List CopyState) → AreShippable ring pieces → i < length pieces → x ≡ get_or pieces i x → length notes ≡ ring.partitions * ring.copies
    → AreNoted ring pieces (take i pieces) notes tables → NotesPiece ring x ring.copies notes tables after → AreNoted ring pieces (take (i + 1) pieces) after tables
noted_more ring pieces i x notes after tables fit h is count before adds =
    subst (λ ps. AreNoted ring pieces ps after tables) (sym (take_more pieces i x h ∙ ap (λ y. take i pieces ++ y ∷ []) (sym is)))
    (noted_then ring pieces (take i pieces) x notes after tables fit (subst (Contains pieces) (sym is) (Contains-get_or pieces i x h)) count before adds)

-- ---- the lines for what was noted

pub begins_push : (notes : List Noted) (lines after : List Line) (i : ℕ) (noted : Noted) (line : Line) → length lines ≡ i → i < length notes → noted ≡ get_or notes i noted
    → after ≡ lines ++ line ∷ [] → Begins noted line → AllBegin notes lines → AllBegin notes after
begins_push notes lines after i noted line count within is pushed begins before k n l less =
    subst (λ ls. Begins (get_or notes k n) (get_or ls k l)) (sym pushed) (elim (cases_lt k i) [
      | inl early ↦ subst (λ z. Begins (get_or notes k n) z) (sym (get_or_append_left lines (line ∷ []) l k (omega (arith, early, count)))) (before k n l (omega (arith, early, count)))
      | inr late ↦
          let longer : length after ≡ length lines + 1 = ap length pushed ∙ length-append lines (line ∷ []) in
          let same : k ≡ i = omega (arith, less, late, longer, count) in
          let here : get_or (lines ++ line ∷ []) k l ≡ line = get_or_push lines line l k (count ∙ sym same) in
          let this : noted ≡ get_or notes k n = is ∙ get_or_default notes i noted n within ∙ ap (λ m. get_or notes m n) (sym same) in
          subst (λ z. Begins (get_or notes k n) z) (sym here) (subst (λ z. Begins z line) this begins)
    ])

begun_line : (pieces : List Piece) (p : ℕ) (noted : Noted) (line : Line) (table : CopyState) → IsNoted pieces pieces p noted table → Begins noted line → IsLine pieces p line table
begun_line pieces p noted line table of begins = record {
  there = λ x at h. of.there x at (sym (ap (λ ps. is_in ps x.place) begins.there) ∙ h);
  total = subst (λ o. MatchOption o (Unit {0}) (ArePlacesOf pieces p)) (sym begins.total) tt;
  all = record { each = λ x at. begins.all x.place ∙ of.all.each x at; only = λ q h. of.all.only q (sym (begins.all q) ∙ h) };
  lacking = λ x at h. absurd (two_sides (sym (begins.lacking x.place ∙ of.all.each x at) ∙ h));
  done = λ h. absurd (two_sides (sym h ∙ begins.is_done));
}

-- what is at a copy's number in both lists
begun_at : (ring : Ring) (notes : List Noted) (lines : List Line) (p j : ℕ) (line : Line) → IsCopy ring p j → length notes ≡ ring.partitions * ring.copies → length lines ≡ ring.partitions * ring.copies
    → AllBegin notes lines → slice_get lines (table_of ring p j) ≡ Some line → (noted : Noted) × (slice_get notes (table_of ring p j) ≡ Some noted) × Begins noted line
begun_at ring notes lines p j line copy count same begun line_is =
    let inside : table_of ring p j < ring.partitions * ring.copies = below_all ring.partitions ring.copies p j copy.partition copy.copy in
    let within : table_of ring p j < length lines = omega (arith, inside, same) in
    let noted : Noted = get_or notes (table_of ring p j) none_noted in
    let one : get_or lines (table_of ring p j) line ≡ line = one_read (slice_get lines (table_of ring p j)) (get_or lines (table_of ring p j) line) line (slice_get-get_or lines (table_of ring p j) line within) line_is in
    (noted, slice_get-get_or notes (table_of ring p j) none_noted (omega (arith, inside, count)), subst (λ z. Begins noted z) one (begun (table_of ring p j) none_noted line within))

pub begun_lines : (ring : Ring) (pieces : List Piece) (notes : List Noted) (lines : List Line) (tables : List CopyState) → length notes ≡ ring.partitions * ring.copies → length lines ≡ ring.partitions * ring.copies
    → AllBegin notes lines → AreNoted ring pieces pieces notes tables → AreLines ring pieces lines tables
begun_lines ring pieces notes lines tables count same begun noted p j copy line table line_is table_is =
    let at = begun_at ring notes lines p j line copy count same begun line_is in
    begun_line pieces p at.0 line table (noted p j copy at.0 table at.1 table_is) at.2

pub begun_counted : (ring : Ring) (pieces : List Piece) (notes : List Noted) (lines : List Line) (tables : List CopyState) → length notes ≡ ring.partitions * ring.copies → length lines ≡ ring.partitions * ring.copies
    → AllBegin notes lines → AreNoted ring pieces pieces notes tables → AreCounted ring pieces lines tables
begun_counted ring pieces notes lines tables count same begun noted p j copy line table line_is table_is x of h =
    let at = begun_at ring notes lines p j line copy count same begun line_is in
    ap (λ ps. is_in ps x.place) at.2.there ∙ (noted p j copy at.0 table at.1 table_is).counts x of h

pub begun_waiting : (ring : Ring) (notes : List Noted) (lines : List Line) → length notes ≡ ring.partitions * ring.copies → length lines ≡ ring.partitions * ring.copies → AllBegin notes lines → AreWaiting ring lines
begun_waiting ring notes lines count same begun p j copy line line_is = (begun_at ring notes lines p j line copy count same begun line_is).2.is_done
