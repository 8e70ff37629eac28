-- The options that `clap` reads are the ones that the words give, and it refuses only words that give none.
use Rattle.std.proofs.lemmas.List.{append-nil, map-append}
use Rattle.std.proofs.lemmas.Map.Keys.{IsDistinct-push}
use Rattle.std.proofs.lemmas.Map.Views.{Contains-from_any, list_any-from_Contains}
use Rattle.std.proofs.lemmas.Slice.Eq.{bytes_eq-Decides}
use Rattle.std.proofs.Common.{◌≡◌, Bool, true, false, ◌||◌, List, [], ◌∷◌, ◌++◌, map, fold, Option, Some, None, Contains, refl, sym, ap, subst, ◌∙◌, inl, inr, true≢false, append_assoc}
use Rattle.std.specs.Cmp.{IsEquivalence, decided}
use Rattle.std.specs.Cmp.Lexicographic.{nat_list_eq_equiv}
use Rattle.std.specs.List.{list_any, IsDistinct}
use Rattle.std.specs.Map.{keys_of}
use Rattle.std.specs.Str.{bytes_eq}
use Rattle.clap.specs.Words.{Row, Rule, Text}
use Rattle.clap.specs.Lexer.{long_of, short_of}
use Rattle.clap.specs.Walk.{Held, Walk, idle, option, has_row, settled_rows, used, walked}
use Rattle.clap.specs.Faults.{settle_fault, turn_fault, walk_fault}
use Rattle.clap.specs.Kinds.{Kinds, or_else}
use Rattle.coco_words.specs.Options.{Gives}
use Rattle.coco_words.proofs.ClapOptions.{apart-passes, apart-turn, apart-walked, at, dash, has_row-rows, joined-passes, joined-turn, joined-walked, long-no_dash, long-spelled, named, new-seam, or_else-nil, row, rows, rows-push, rule, settled-is, settling, settling-is, settling-none, shape, spelled, stray-turn, use_fault-new, use_fault-one, used-new, waiting-long, waiting-passes, waiting-walked}

-- ---- names

backward : (x y : Text) → bytes_eq y x ≡ true → x ≡ y
backward x y h = sym ((bytes_eq-Decides y x).0 h)

backward_equiv : IsEquivalence (λ (x y : Text). bytes_eq y x)
backward_equiv = decided (λ x y. bytes_eq y x) (λ x y. (backward x y, λ e. (bytes_eq-Decides y x).1 (sym e)))

pub Contains-named : (ns : List Text) (n : Text) → named ns n ≡ true → Contains ns n
Contains-named ns n h = Contains-from_any {eq = λ x y. bytes_eq y x} backward n ns h

pub named-Contains : (ns : List Text) (n : Text) → Contains ns n → named ns n ≡ true
named-Contains ns n h = list_any-from_Contains backward_equiv n ns h

neither : (a b : Bool) → a || b ≡ false → (a ≡ false) × (b ≡ false)
neither true b h = absurd (true≢false h)
neither false b h = (refl, h)

push-once : (before : List (Text × Text)) (o : Text × Text) → IsDistinct bytes_eq (keys_of before) → has_row o.0 (rows before) ≡ false
    → IsDistinct bytes_eq (keys_of (before ++ o ∷ []))
push-once before o once new =
    subst (IsDistinct bytes_eq) (sym (map-append (λ (e : Text × Text). e.0) before (o ∷ [])))
    (IsDistinct-push nat_list_eq_equiv (keys_of before) o.0 once (sym (has_row-rows o.0 before) ∙ new))

module _ (name : Text) (ns : List Text) where
  abbrev all : List Rule
  all = map rule ns

  -- what is held at the end of the words
  abbrev pub ended : Walk → List Text → Held
  ended w words = (fold (walked all []) w words).held

  abbrev pub closing : Held → Kinds
  closing h = settle_fault all false h

  abbrev pub found : Held → List Row
  found h = settled_rows all h.pending h.rows

  step : (w : Walk) (word : Text) (rest : List Text) → walk_fault (shape name ns) [] w (word ∷ rest) ≡ []
      → (turn_fault (shape name ns) [] w word ≡ []) × (walk_fault (shape name ns) [] (walked all [] w word) rest ≡ [])
  unfolding walk_fault
  step w word rest h = or_else-nil _ _ h

  step_back : (w : Walk) (word : Text) (rest : List Text) → turn_fault (shape name ns) [] w word ≡ [] → walk_fault (shape name ns) [] (walked all [] w word) rest ≡ []
      → walk_fault (shape name ns) [] w (word ∷ rest) ≡ []
  unfolding walk_fault
  step_back w word rest t r = λ i. or_else (t i) (r i)

  -- ---- what is read

  pub record Reads (words : List Text) (before : List (Text × Text)) (end : Held) : Type 0 where
    pub options : List (Text × Text)
    pub given : Gives ns words options
    pub final : found end ≡ rows (before ++ options)
    pub once : IsDistinct bytes_eq (keys_of (before ++ options))

  abbrev ReadsFrom : List Text → Type 0
  ReadsFrom words = (w : Walk) (rs : List Row) (p : Option (Text × List Text)) (before : List (Text × Text)) → w ≡ at rs p idle
      → (settling name ns rs p ≡ [] → (settled_rows all p rs ≡ rows before) × IsDistinct bytes_eq (keys_of before))
      → walk_fault (shape name ns) [] w words ≡ [] → closing (ended w words) ≡ [] → Reads words before (ended w words)

  abbrev ReadsValue : List Text → Type 0
  ReadsValue words = (w : Walk) (rs : List Row) (m : Text) (before : List (Text × Text)) → w ≡ at rs (Some (m, [])) (option m)
      → named ns m ≡ true → rs ≡ rows before → IsDistinct bytes_eq (keys_of before)
      → walk_fault (shape name ns) [] w words ≡ [] → closing (ended w words) ≡ []
      → (v : Text) × (others : List Text) × (words ≡ v ∷ others) × Reads others (before ++ (m, v) ∷ []) (ended w words)

  more : (before : List (Text × Text)) (o : Text × Text) (words rest : List Text) (end : Held) (r : Reads rest (before ++ o ∷ []) end)
      → Gives ns words (o ∷ r.options) → Reads words before end
  more before o words rest end r given = record {
    options = o ∷ r.options;
    given = given;
    final = r.final ∙ ap rows (append_assoc before (o ∷ []) r.options);
    once = subst (λ (l : List (Text × Text)). IsDistinct bytes_eq (keys_of l)) (append_assoc before (o ∷ []) r.options) r.once;
  }

  first : (word : Text) (rest : List Text) → bytes_eq word dash ≡ false → ReadsFrom rest → ReadsValue rest → ReadsFrom (word ∷ rest)
  first word rest undashed from value w rs p before is settled faults close = by (long_of word) refl
    where
      turn : turn_fault (shape name ns) [] (at rs p idle) word ≡ []
      turn = sym (ap (λ st. turn_fault (shape name ns) [] st word) is) ∙ (step w word rest faults).0

      by : (l : Option (Text × Option Text)) → long_of word ≡ l → Reads (word ∷ rest) before (ended w (word ∷ rest))
      by None e = absurd (stray-turn name ns rs p word undashed e turn)
      by (Some (n, Some v)) e =
          let t = joined-turn name ns rs p word undashed n v e turn in
          let x = settled t.1 in
          let next = (λ i. walked all [] (is i) word) ∙ joined-walked name ns rs p word undashed n v e t.0 in
          let now : used (rule n) (v ∷ []) (settled_rows all p rs) ≡ rows (before ++ (n, v) ∷ []) =
          used-new n v (settled_rows all p rs) t.2 ∙ ap (λ l. l ++ row (n, v) ∷ []) x.0 ∙ sym (rows-push before (n, v)) in
          let new : has_row n (rows before) ≡ false = sym (ap (has_row n) x.0) ∙ t.2 in
          let r = from (walked all [] w word) (used (rule n) (v ∷ []) (settled_rows all p rs)) None (before ++ (n, v) ∷ []) next
          (λ _. (now, push-once before (n, v) x.1 new)) (step w word rest faults).1 close in
          more before (n, v) (word ∷ rest) rest (ended w (word ∷ rest)) r
          (Contains-named ns n t.0, (rest, inr (ap (λ l. l ∷ rest) (long-spelled word n (Some v) e)), r.given))
      by (Some (n, None)) e =
          let t = apart-turn name ns rs p word undashed n e turn in
          let x = settled t.1 in
          let next = (λ i. walked all [] (is i) word) ∙ apart-walked name ns rs p word undashed n e t.0 in
          let r = value (walked all [] w word) (settled_rows all p rs) n before next t.0 x.0 x.1 (step w word rest faults).1 close in
          more before (n, r.0) (word ∷ rest) r.1 (ended w (word ∷ rest)) r.3
          (Contains-named ns n t.0, (r.1, inl (λ i. long-spelled word n None e i ∷ r.2 i), r.3.given))

  second : (word : Text) (rest : List Text) → bytes_eq word dash ≡ false → ReadsFrom rest → ReadsValue (word ∷ rest)
  second word rest undashed from w rs m before is known now once faults close = by (long_of word) refl
    where
      turn : turn_fault (shape name ns) [] (at rs (Some (m, [])) (option m)) word ≡ []
      turn = sym (ap (λ st. turn_fault (shape name ns) [] st word) is) ∙ (step w word rest faults).0

      by : (l : Option (Text × Option Text)) → long_of word ≡ l
          → (v : Text) × (others : List Text) × (word ∷ rest ≡ v ∷ others) × Reads others (before ++ (m, v) ∷ []) (ended w (word ∷ rest))
      by (Some (n, v)) e = absurd (waiting-long name ns rs m known word undashed n v e turn)
      by None e =
          let next = (λ i. walked all [] (is i) word) ∙ waiting-walked name ns rs m known word undashed e in (
            word,
            rest,
            refl,
            from (walked all [] w word) rs (Some (m, word ∷ [])) (before ++ (m, word) ∷ []) next
                (λ none.
                let new = use_fault-one m word rs (sym (settling-is name ns rs m (word ∷ []) known) ∙ none) in (
                  settled-is name ns rs m (word ∷ []) known ∙ used-new m word rs new ∙ ap (λ l. l ++ row (m, word) ∷ []) now ∙ sym (rows-push before (m, word)),
                  push-once before (m, word) once (sym (ap (has_row m) now) ∙ new),
                ))
                (step w word rest faults).1 close,
          )

  both : (words : List Text) → list_any (λ word. bytes_eq word dash) words ≡ false → ReadsFrom words × ReadsValue words
  both [] undashed = (
    λ w rs p before is settled faults close.
        let x = settled (sym (λ i. closing (is i).held) ∙ close) in
        record {
          options = [];
          given = refl;
          final = (λ i. found (is i).held) ∙ x.0 ∙ ap rows (sym (append-nil before));
          once = subst (λ (l : List (Text × Text)). IsDistinct bytes_eq (keys_of l)) (sym (append-nil before)) x.1;
        },
    λ w rs m before is known now once faults close. absurd (settling-none name ns rs m known (sym (λ i. closing (is i).held) ∙ close)),
  )
  both (word ∷ rest) undashed =
      let n = neither (bytes_eq word dash) (list_any (λ word. bytes_eq word dash) rest) undashed in
      let r = both rest n.1 in
      (first word rest n.0 r.0 r.1, second word rest n.0 r.0)

  pub reads : (words : List Text) → list_any (λ word. bytes_eq word dash) words ≡ false → walk_fault (shape name ns) [] (at [] None idle) words ≡ []
      → closing (ended (at [] None idle) words) ≡ [] → Reads words [] (ended (at [] None idle) words)
  unfolding IsDistinct
  reads words undashed faults close = (both words undashed).0 (at [] None idle) [] None [] refl (λ _. (refl, tt)) faults close

  -- ---- what is taken

  -- a text that is no option and not `--`
  pub record IsPlain (text : Text) : Type 0 where
    pub not_long : long_of text ≡ None
    pub not_short : short_of text ≡ None
    pub not_dash : bytes_eq text dash ≡ false

  abbrev pub HavePlainValues : List (Text × Text) → Type 0
  HavePlainValues [] = Unit {0}
  HavePlainValues (o ∷ os) = IsPlain o.1 × HavePlainValues os

  -- `clap` reads the words of the options as what they are
  abbrev pub IsReadable : Type 0
  IsReadable = (n : Text) → Contains ns n → (v : Option Text) → long_of (spelled n v) ≡ Some (n, v)

  abbrev Taken : List Text → Walk → List (Text × Text) → Type 0
  Taken words w options =
      (walk_fault (shape name ns) [] w words ≡ []) × (closing (ended w words) ≡ []) × (found (ended w words) ≡ rows options)

  module _ (readable : IsReadable) where
    abbrev TakenFrom : List (Text × Text) → List Text → Type 0
    TakenFrom options words = (w : Walk) (rs : List Row) (p : Option (Text × List Text)) (before : List (Text × Text)) → w ≡ at rs p idle
        → settling name ns rs p ≡ [] → settled_rows all p rs ≡ rows before → IsDistinct bytes_eq (keys_of (before ++ options))
        → Taken words w (before ++ options)

    take_joined : (n v : Text) (rest : List Text) (os : List (Text × Text)) → Contains ns n → TakenFrom os rest → TakenFrom ((n, v) ∷ os) (spelled n (Some v) ∷ rest)
    take_joined n v rest os known from w rs p before is settles now once =
        let word = spelled n (Some v) in
        let long = readable n known (Some v) in
        let undashed = long-no_dash word (n, Some v) long in
        let name_is = named-Contains ns n known in
        let new : has_row n (rows before) ≡ false = has_row-rows n before ∙ new-seam before (n, v) os once in
        let now_new : has_row n (settled_rows all p rs) ≡ false = ap (has_row n) now ∙ new in
        let turn = ap (λ st. turn_fault (shape name ns) [] st word) is ∙ joined-passes name ns rs p word undashed n v long name_is settles now_new in
        let next = (λ i. walked all [] (is i) word) ∙ joined-walked name ns rs p word undashed n v long name_is in
        let now_is : used (rule n) (v ∷ []) (settled_rows all p rs) ≡ rows (before ++ (n, v) ∷ []) =
        used-new n v (settled_rows all p rs) now_new ∙ ap (λ l. l ++ row (n, v) ∷ []) now ∙ sym (rows-push before (n, v)) in
        let same : (before ++ (n, v) ∷ []) ++ os ≡ before ++ (n, v) ∷ os = append_assoc before ((n, v) ∷ []) os in
        let r = from (walked all [] w word) (used (rule n) (v ∷ []) (settled_rows all p rs)) None (before ++ (n, v) ∷ []) next refl now_is
        (subst (λ (l : List (Text × Text)). IsDistinct bytes_eq (keys_of l)) (sym same) once) in
        (step_back w word rest turn r.0, r.1, r.2 ∙ ap rows same)

    take_apart : (n v : Text) (rest : List Text) (os : List (Text × Text)) → Contains ns n → IsPlain v → TakenFrom os rest
        → TakenFrom ((n, v) ∷ os) (spelled n None ∷ v ∷ rest)
    take_apart n v rest os known plain from w rs p before is settles now once =
        let word = spelled n None in
        let long = readable n known None in
        let undashed = long-no_dash word (n, None) long in
        let name_is = named-Contains ns n known in
        let turn = ap (λ st. turn_fault (shape name ns) [] st word) is ∙ apart-passes name ns rs p word undashed n long name_is settles in
        let next = (λ i. walked all [] (is i) word) ∙ apart-walked name ns rs p word undashed n long name_is in
        let between = settled_rows all p rs in
        let turn_value = ap (λ st. turn_fault (shape name ns) [] st v) next ∙ waiting-passes name ns between n name_is v plain.not_dash plain.not_long plain.not_short in
        let next_value = (λ i. walked all [] (next i) v) ∙ waiting-walked name ns between n name_is v plain.not_dash plain.not_long in
        let new : has_row n between ≡ false = ap (has_row n) now ∙ has_row-rows n before ∙ new-seam before (n, v) os once in
        let now_is : settled_rows all (Some (n, v ∷ [])) between ≡ rows (before ++ (n, v) ∷ []) =
        settled-is name ns between n (v ∷ []) name_is ∙ used-new n v between new ∙ ap (λ l. l ++ row (n, v) ∷ []) now ∙ sym (rows-push before (n, v)) in
        let same : (before ++ (n, v) ∷ []) ++ os ≡ before ++ (n, v) ∷ os = append_assoc before ((n, v) ∷ []) os in
        let r = from (walked all [] (walked all [] w word) v) between (Some (n, v ∷ [])) (before ++ (n, v) ∷ []) next_value
        (settling-is name ns between n (v ∷ []) name_is ∙ use_fault-new n v between new) now_is
        (subst (λ (l : List (Text × Text)). IsDistinct bytes_eq (keys_of l)) (sym same) once) in
        (step_back w word (v ∷ rest) turn (step_back (walked all [] w word) v rest turn_value r.0), r.1, r.2 ∙ ap rows same)

    take_none : TakenFrom [] []
    unfolding walk_fault
    take_none w rs p before is settles now once =
        (refl, (λ i. closing (is i).held) ∙ settles, (λ i. found (is i).held) ∙ now ∙ ap rows (sym (append-nil before)))

    taken_from : (options : List (Text × Text)) (words : List Text) → Gives ns words options → HavePlainValues options → TakenFrom options words
    taken_from [] words given plain = subst (TakenFrom []) (sym given) take_none
    taken_from (o ∷ os) words given plain =
        let rest = taken_from os given.1.0 given.1.2 plain.1 in
        elim given.1.1 [
          | inl e ↦ subst (TakenFrom (o ∷ os)) (sym e) (take_apart o.0 o.1 given.1.0 os given.0 plain.0 rest)
          | inr e ↦ subst (TakenFrom (o ∷ os)) (sym e) (take_joined o.0 o.1 given.1.0 os given.0 rest)
        ]

    pub taken : (options : List (Text × Text)) (words : List Text) → Gives ns words options → HavePlainValues options → IsDistinct bytes_eq (keys_of options)
        → Taken words (at [] None idle) options
    taken options words given plain once = taken_from options words given plain (at [] None idle) [] None [] refl refl refl once

    -- no word that gives an option is `--`, and no value is
    pub undashed-Gives : (options : List (Text × Text)) (words : List Text) → Gives ns words options → HavePlainValues options
        → list_any (λ word. bytes_eq word dash) words ≡ false
    undashed-Gives [] words given plain = ap (list_any (λ (word : Text). bytes_eq word dash)) given
    undashed-Gives (o ∷ os) words given plain =
        let rest = undashed-Gives os given.1.0 given.1.2 plain.1 in
        elim given.1.1 [
          | inl e ↦ ap (list_any (λ (word : Text). bytes_eq word dash)) e
              ∙ (λ i. long-no_dash (spelled o.0 None) (o.0, None) (readable o.0 given.0 None) i || (plain.0.not_dash i || rest i))
          | inr e ↦ ap (list_any (λ (word : Text). bytes_eq word dash)) e
              ∙ (λ i. long-no_dash (spelled o.0 (Some o.1)) (o.0, Some o.1) (readable o.0 given.0 (Some o.1)) i || rest i)
        ]
