-- What `clap` makes of the words, for a command whose arguments are options with one value each.
use Rattle.std.proofs.lemmas.List.{append-nil, map-append}
use Rattle.std.specs.Cmp.{unsigned_Decides}
use Rattle.std.specs.Cmp.Lexicographic.{nat_list_eq_equiv}
use Rattle.coco_words.specs.Options.{value_of}
use Rattle.std.proofs.Common.{◌≡◌, ℕ, Bool, true, false, cond, ◌&&◌, ◌||◌, ◌+◌, suc, ◌==◌, not, take, drop, List, [], ◌∷◌, ◌++◌, length, map, fold, find, Option, Some, None, if◌then◌else◌, codes, slice_get, refl, sym, ap, ◌∙◌, true≢false, append_assoc, arith}
use Rattle.std.specs.Prelude.{encode_utf8, option_and_then, nat_lt}
use Rattle.std.specs.List.{list_any, before_first, after_first, position_or_len, AllByRecursion, IsDistinct}
use Rattle.std.specs.Map.{keys_of}
use Rattle.std.specs.Option.{option_map_or}
use Rattle.std.specs.Str.{bytes_eq, chars}
use Rattle.std.proofs.lemmas.Slice.Eq.{bytes_eq-Decides}
use Rattle.clap.specs.Words.{Row, Rule, Shape, Text, new_rule}
use Rattle.clap.specs.Lexer.{long_of, long_of_rest, short_of, strip_byte}
use Rattle.clap.specs.Simple.{filled, new_shape}
use Rattle.clap.specs.Walk.{Held, Walk, Waiting, Step, idle, option, trailing, Outcome, next, done, after_flag, after_step, bundle_step, long_met, long_or_other, more_values, plain_word, short_or_plain, short_met, bundle_met, option_word, used_by_id, value, plain, walked, with_values, used, at_row, has_row, settled_rows, arg_by_long, arg_by_id, arg_by_short, arg_by_index, with_default, first_of}
use Rattle.clap.specs.declared.error.kind.ErrorKind.{ErrorKind}
use Rattle.clap.specs.declared.error.kind.ErrorKind.TheVariants as kind
use Rattle.clap.specs.Faults.{bundle_fault, given_default_fault, flag_word_fault, positional_fault, stray_fault, long_fault, step_fault, turn_fault, settle_fault, use_fault, defaults_fault, check_fault}
use Rattle.clap.specs.Kinds.{Kinds, check_kinds, or_else}
use Rattle.clap.specs.Takes.{is_given}
use Rattle.clap.specs.declared.builder.value_parser.Reading.TheVariants as Reading
use Rattle.clap.specs.declared.parser.matches.ValueSource.TheVariants.{CommandLine}

-- the argument of an option, as a built command has it
abbrev pub rule : Text → Rule
rule n = filled (record (new_rule n) { long = Some n })

abbrev pub shape : Text → List Text → Shape
shape name ns = record (new_shape name) {
  rules = map rule ns;
  no_binary_name = true;
  disable_help_flag = true;
  disable_help_subcommand = true;
  is_built = true;
}

-- what is found of an option
abbrev pub row : Text × Text → Row
row o = record {
  id = o.0;
  values = o.1 ∷ [];
  count = None;
  source = Some CommandLine;
  reading = Reading.AsWritten;
}

abbrev pub rows : List (Text × Text) → List Row
rows = map row

-- one of the names
abbrev pub named : List Text → Text → Bool
named ns name = list_any (λ n. bytes_eq n name) ns

-- ---- look-ups among the arguments

by_name : (ns : List Text) (name : Text) (b : Bool) → bytes_eq name name ≡ b → b ≡ true
by_name ns name true e = refl
by_name ns name false e = sym e ∙ (bytes_eq-Decides name name).1 refl

same : (n name : Text) → bytes_eq n name ≡ true → n ≡ name
same n name = (bytes_eq-Decides n name).0

pub long-is : (ns : List Text) (name : Text) → arg_by_long (map rule ns) name ≡ cond (named ns name) (Some (rule name)) None
long-is [] name = refl
long-is (n ∷ ns) name = by (bytes_eq n name) refl (long-is ns name)
  where
    by : (b : Bool) → bytes_eq n name ≡ b → arg_by_long (map rule ns) name ≡ cond (named ns name) (Some (rule name)) None
        → cond (b || false) (Some (rule n)) (arg_by_long (map rule ns) name) ≡ cond (b || named ns name) (Some (rule name)) None
    by true e rest = ap (λ k. Some (rule k)) (same n name e)
    by false e rest = rest

pub id-is : (ns : List Text) (name : Text) → arg_by_id (map rule ns) name ≡ cond (named ns name) (Some (rule name)) None
id-is [] name = refl
id-is (n ∷ ns) name = by (bytes_eq n name) refl (id-is ns name)
  where
    by : (b : Bool) → bytes_eq n name ≡ b → arg_by_id (map rule ns) name ≡ cond (named ns name) (Some (rule name)) None
        → cond b (Some (rule n)) (arg_by_id (map rule ns) name) ≡ cond (b || named ns name) (Some (rule name)) None
    by true e rest = ap (λ k. Some (rule k)) (same n name e)
    by false e rest = rest

pub short-none : (ns : List Text) (x : ℕ) → arg_by_short (map rule ns) x ≡ None
short-none [] x = refl
short-none (n ∷ ns) x = short-none ns x

pub index-none : (ns : List Text) (i : ℕ) → arg_by_index (map rule ns) i ≡ None
index-none [] i = refl
index-none (n ∷ ns) i = index-none ns i

-- ---- rows

pub at_row-absent : (id : Text) (change : Row → List Row) (missing rs : List Row) → has_row id rs ≡ false → at_row id change missing rs ≡ rs ++ missing
at_row-absent id change missing [] h = refl
at_row-absent id change missing (r ∷ rs) h = by (bytes_eq r.id id) h (at_row-absent id change missing rs)
  where
    by : (b : Bool) → b || has_row id rs ≡ false → (has_row id rs ≡ false → at_row id change missing rs ≡ rs ++ missing)
        → cond b (change r ++ rs) (r ∷ at_row id change missing rs) ≡ r ∷ (rs ++ missing)
    by true e rest = absurd (true≢false e)
    by false e rest = ap (λ l. r ∷ l) (rest e)

-- a first use of an option
pub used-new : (n v : Text) (rs : List Row) → has_row n rs ≡ false → used (rule n) (v ∷ []) rs ≡ rs ++ row (n, v) ∷ []
used-new n v rs h = ap (with_values n Reading.AsWritten CommandLine (v ∷ [])) (at_row-absent n (λ _. []) [] rs h ∙ append-nil rs) ∙ at_row-absent n (more_values CommandLine (v ∷ [])) (row (n, v) ∷ []) rs h

pub use_fault-one : (n v : Text) (rs : List Row) → use_fault false (rule n) (v ∷ []) rs ≡ [] → has_row n rs ≡ false
use_fault-one n v rs h = by (has_row n rs) h
  where
    by : (b : Bool) → or_else (if b && not false then kind.ArgumentConflict ∷ [] else []) [] ≡ [] → b ≡ false
    by true e = cc
    by false e = refl

pub use_fault-none : (n : Text) (rs : List Row) → use_fault false (rule n) [] rs ≡ [] → ⊥
use_fault-none n rs h = let e : kind.InvalidValue ∷ [] ≡ [] = h in cc

pub use_fault-new : (n v : Text) (rs : List Row) → has_row n rs ≡ false → use_fault false (rule n) (v ∷ []) rs ≡ []
use_fault-new n v rs h = ap (λ b. or_else (if b && not false then kind.ArgumentConflict ∷ [] else []) []) h

-- no fault in a sequence is none in either
pub or_else-nil : (a b : Kinds) → or_else a b ≡ [] → (a ≡ []) × (b ≡ [])
or_else-nil [] b h = (refl, h)
or_else-nil (k ∷ ks) b h = cc

one_kind : (k : ErrorKind) (ks : Kinds) → k ∷ ks ≡ [] → ⊥
one_kind k ks h = cc

-- ---- the walk

abbrev pub dash : Text
dash = 45 ∷ 45 ∷ []

abbrev pub held : List Row → Option (Text × List Text) → Held
held rs p = record { rows = rs; pending = p; skip = 0 }

abbrev pub at : List Row → Option (Text × List Text) → Waiting → Walk
at rs p w = record { held = held rs p; waiting = w; position = 1; is_trailing = false; stopped = None }

module _ (name : Text) (ns : List Text) where
  abbrev pub rules_in : List Rule
  rules_in = map rule ns

  abbrev pub settling : List Row → Option (Text × List Text) → Kinds
  settling rs p = settle_fault rules_in false (held rs p)

  -- what the walk makes of a word, where it is no `--`
  abbrev met : Waiting → Held → Text → Bool → Option (Text × Option Text) → Held × Step
  met w h word b l = if b then (h, trailing 1) else long_or_other rules_in w word l h

  abbrev faults_of : Waiting → Held → Text → Bool → Option (Text × Option Text) → Kinds
  faults_of w h word b l =
      or_else (if b then [] else flag_word_fault rules_in false l word h) (step_fault (shape name ns) 1 (met w h word b l).0 (met w h word b l).1)

  abbrev after : List Row → Option (Text × List Text) → Waiting → Text → Bool → Option (Text × Option Text) → Walk
  after rs p w word b l = after_step rules_in word (at rs p w) (met w (held rs p) word b l).0 (met w (held rs p) word b l).1

  module _ (rs : List Row) (p : Option (Text × List Text)) (word : Text) (undashed : bytes_eq word dash ≡ false) where
    module _ (n : Text) (v : Option Text) (is_long : long_of word ≡ Some (n, v)) where
      abbrev long_faults : Waiting → Option Rule → Kinds
      long_faults w f = let h = held rs p in
          or_else (long_fault rules_in false f v h)
          (step_fault (shape name ns) 1 (after_flag rules_in w word (long_met rules_in f v h).0 (long_met rules_in f v h).1).0
          (after_flag rules_in w word (long_met rules_in f v h).0 (long_met rules_in f v h).1).1)

      abbrev long_after : Waiting → Option Rule → Walk
      long_after w f = let h = held rs p in
          after_step rules_in word (at rs p w) (after_flag rules_in w word (long_met rules_in f v h).0 (long_met rules_in f v h).1).0
          (after_flag rules_in w word (long_met rules_in f v h).0 (long_met rules_in f v h).1).1

      pub long-turn_idle : turn_fault (shape name ns) [] (at rs p idle) word ≡ long_faults idle (cond (named ns n) (Some (rule n)) None)
      long-turn_idle = (λ i. faults_of idle (held rs p) word (undashed i) (is_long i)) ∙ (λ i. long_faults idle (long-is ns n i))

      pub long-turn_option : (m : Text) → turn_fault (shape name ns) [] (at rs p (option m)) word ≡ long_faults (option m) (cond (named ns n) (Some (rule n)) None)
      long-turn_option m = (λ i. faults_of (option m) (held rs p) word (undashed i) (is_long i)) ∙ (λ i. long_faults (option m) (long-is ns n i))

      pub long-walked : walked rules_in [] (at rs p idle) word ≡ long_after idle (cond (named ns n) (Some (rule n)) None)
      unfolding walked
      long-walked = (λ i. after rs p idle word (undashed i) (is_long i)) ∙ (λ i. long_after idle (long-is ns n i))

    -- a word with an option's name and value
    pub joined-turn : (n v : Text) → long_of word ≡ Some (n, Some v) → turn_fault (shape name ns) [] (at rs p idle) word ≡ []
        → (named ns n ≡ true) × (settling rs p ≡ []) × (has_row n (settled_rows rules_in p rs) ≡ false)
    joined-turn n v is_long none = by (named ns n) refl (sym (long-turn_idle n (Some v) is_long) ∙ none)
      where
        by : (b : Bool) → named ns n ≡ b → long_faults n (Some v) is_long idle (cond b (Some (rule n)) None) ≡ []
            → (named ns n ≡ true) × (settling rs p ≡ []) × (has_row n (settled_rows rules_in p rs) ≡ false)
        by false e h = cc
        by true e h =
            let one = or_else-nil _ _ h in
            let two = or_else-nil _ _ one.0 in
            (e, two.0, use_fault-one n v (settled_rows rules_in p rs) two.1)

    pub joined-walked : (n v : Text) → long_of word ≡ Some (n, Some v) → named ns n ≡ true
        → walked rules_in [] (at rs p idle) word ≡ at (used (rule n) (v ∷ []) (settled_rows rules_in p rs)) None idle
    joined-walked n v is_long e = long-walked n (Some v) is_long ∙ ap (λ b. long_after n (Some v) is_long idle (cond b (Some (rule n)) None)) e

    pub joined-passes : (n v : Text) → long_of word ≡ Some (n, Some v) → named ns n ≡ true → settling rs p ≡ []
        → has_row n (settled_rows rules_in p rs) ≡ false → turn_fault (shape name ns) [] (at rs p idle) word ≡ []
    joined-passes n v is_long e settles new =
        long-turn_idle n (Some v) is_long ∙ ap (λ b. long_faults n (Some v) is_long idle (cond b (Some (rule n)) None)) e
        ∙ (λ i. or_else (or_else (settles i) (use_fault-new n v (settled_rows rules_in p rs) new i)) [])

    -- a word with an option's name alone
    pub apart-turn : (n : Text) → long_of word ≡ Some (n, None) → turn_fault (shape name ns) [] (at rs p idle) word ≡ []
        → (named ns n ≡ true) × (settling rs p ≡ [])
    apart-turn n is_long none = by (named ns n) refl (sym (long-turn_idle n None is_long) ∙ none)
      where
        by : (b : Bool) → named ns n ≡ b → long_faults n None is_long idle (cond b (Some (rule n)) None) ≡ [] → (named ns n ≡ true) × (settling rs p ≡ [])
        by false e h = cc
        by true e h = (e, (or_else-nil _ _ h).0)

    pub apart-walked : (n : Text) → long_of word ≡ Some (n, None) → named ns n ≡ true
        → walked rules_in [] (at rs p idle) word ≡ at (settled_rows rules_in p rs) (Some (n, [])) (option n)
    apart-walked n is_long e = long-walked n None is_long ∙ ap (λ b. long_after n None is_long idle (cond b (Some (rule n)) None)) e

    pub apart-passes : (n : Text) → long_of word ≡ Some (n, None) → named ns n ≡ true → settling rs p ≡ []
        → turn_fault (shape name ns) [] (at rs p idle) word ≡ []
    apart-passes n is_long e settles =
        long-turn_idle n None is_long ∙ ap (λ b. long_faults n None is_long idle (cond b (Some (rule n)) None)) e ∙ (λ i. or_else (settles i) [])

    -- ---- a word that is no option

    module _ (w : Waiting) where
      abbrev by_outcome : Held × Outcome → Held × Step
      by_outcome x = after_flag rules_in w word x.0 x.1

      flags-plain : (flags : Text) → by_outcome (bundle_met rules_in (length flags) flags 0 plain (held rs p)) ≡ plain_word rules_in w word (held rs p)
      unfolding bundle_met
      flags-plain [] = refl
      flags-plain (x ∷ xs) = by (slice_get (chars (x ∷ xs)) 0)
        where
          by : (o : Option ℕ) → by_outcome (bundle_step rules_in o (x ∷ xs) 0 plain (held rs p) (bundle_met rules_in (length xs))) ≡ plain_word rules_in w word (held rs p)
          by None = refl
          by (Some y) = λ i. by_outcome (short_met rules_in (short-none ns y i) (drop (length (encode_utf8 y)) (x ∷ xs)) (held rs p)
              (bundle_met rules_in (length xs) (drop (length (encode_utf8 y)) (x ∷ xs)) 0 done))

      short-plain : (o : Option Text) → short_or_plain rules_in w word o (held rs p) ≡ plain_word rules_in w word (held rs p)
      short-plain None = refl
      short-plain (Some flags) = flags-plain flags

    pub stray-turn : long_of word ≡ None → turn_fault (shape name ns) [] (at rs p idle) word ≡ [] → ⊥
    stray-turn is_plain none =
        let all : faults_of idle (held rs p) word false None ≡ [] = sym (λ i. faults_of idle (held rs p) word (undashed i) (is_plain i)) ∙ none in
        let met = short_or_plain rules_in idle word (short_of word) (held rs p) in
        let last : step_fault (shape name ns) 1 met.0 met.1 ≡ [] = (or_else-nil _ _ all).1 in
        let plainly : step_fault (shape name ns) 1 (held rs p) value ≡ [] = sym (λ i. step_fault (shape name ns) 1 (short-plain idle (short_of word) i).0 (short-plain idle (short_of word) i).1) ∙ last in
        let stray : kind.UnknownArgument ∷ [] ≡ [] =
        sym (λ i. option_map_or (λ a. positional_fault rules_in false a (held rs p)) (index-none ns 1 i) (stray_fault (shape name ns))) ∙ plainly in
        one_kind kind.UnknownArgument [] stray

  -- ---- an option that has values pending

  module _ (rs : List Row) (m : Text) (vs : List Text) (e : named ns m ≡ true) where
    pub settling-is : settling rs (Some (m, vs)) ≡ use_fault false (rule m) vs rs
    settling-is = (λ i. option_map_or (λ a. use_fault false a vs rs) (id-is ns m i) []) ∙ ap (λ b. option_map_or (λ a. use_fault false a vs rs) (cond b (Some (rule m)) None) []) e

    pub settled-is : settled_rows rules_in (Some (m, vs)) rs ≡ used (rule m) vs rs
    settled-is = (λ i. used_by_id (id-is ns m i) vs rs) ∙ ap (λ b. used_by_id (cond b (Some (rule m)) None) vs rs) e

  module _ (rs : List Row) (m : Text) (e : named ns m ≡ true) where
    pub settling-none : settling rs (Some (m, [])) ≡ [] → ⊥
    settling-none h = use_fault-none m rs (sym (settling-is rs m [] e) ∙ h)

    module _ (word : Text) (undashed : bytes_eq word dash ≡ false) where
      -- an option where a value is wanted
      pub waiting-long : (n : Text) (v : Option Text) → long_of word ≡ Some (n, v) → turn_fault (shape name ns) [] (at rs (Some (m, [])) (option m)) word ≡ [] → ⊥
      waiting-long n v is_long none = by (named ns n) v is_long (sym (long-turn_option rs (Some (m, [])) word undashed n v is_long m) ∙ none)
        where
          by : (b : Bool) (v : Option Text) (l : long_of word ≡ Some (n, v)) → long_faults rs (Some (m, [])) word undashed n v l (option m) (cond b (Some (rule n)) None) ≡ [] → ⊥
          by false v l h = cc
          by true (Some v) l h = settling-none (or_else-nil _ _ (or_else-nil _ _ h).0).0
          by true None l h = settling-none (or_else-nil _ _ h).0

      -- a value
      pub waiting-walked : long_of word ≡ None → walked rules_in [] (at rs (Some (m, [])) (option m)) word ≡ at rs (Some (m, word ∷ [])) idle
      unfolding walked
      waiting-walked is_plain =
          let h = held rs (Some (m, [])) in
          (λ i. after rs (Some (m, [])) (option m) word (undashed i) (is_plain i))
          ∙ (λ i. let met = short-plain rs (Some (m, [])) word undashed (option m) (short_of word) i in after_step rules_in word (at rs (Some (m, [])) (option m)) met.0 met.1)
          ∙ (λ i. let met = option_word (id-is ns m i) m word h in after_step rules_in word (at rs (Some (m, [])) (option m)) met.0 (next met.1))
          ∙ (λ i. let met = option_word (cond (e i) (Some (rule m)) None) m word h in after_step rules_in word (at rs (Some (m, [])) (option m)) met.0 (next met.1))
          ∙ ap (λ b. at rs (Some (m, word ∷ [])) (if nat_lt (if b then 1 else 0) 1 then option m else idle)) ((bytes_eq-Decides m m).1 refl)

      pub waiting-passes : long_of word ≡ None → short_of word ≡ None → turn_fault (shape name ns) [] (at rs (Some (m, [])) (option m)) word ≡ []
      waiting-passes is_plain no_short =
          let h = held rs (Some (m, [])) in
          (λ i. faults_of (option m) h word (undashed i) (is_plain i))
          ∙ (λ i. let met = short_or_plain rules_in (option m) word (no_short i) h in
          or_else (option_map_or (λ flags. bundle_fault rules_in false flags h) (no_short i) []) (step_fault (shape name ns) 1 met.0 met.1))

-- ---- rows of options

pub rows-push : (given : List (Text × Text)) (o : Text × Text) → rows (given ++ o ∷ []) ≡ rows given ++ row o ∷ []
rows-push given o = map-append row given (o ∷ [])

flip : (x y : Text) → bytes_eq x y ≡ bytes_eq y x
flip = nat_list_eq_equiv.symm

pub has_row-rows : (n : Text) (given : List (Text × Text)) → has_row n (rows given) ≡ list_any (bytes_eq n) (keys_of given)
has_row-rows n [] = refl
has_row-rows n (o ∷ os) = λ i. flip o.0 n i || has_row-rows n os i

pub first_of-rows : (n : Text) (given : List (Text × Text)) → first_of n (rows given) ≡ value_of n given
first_of-rows n [] = refl
first_of-rows n (o ∷ os) = by (bytes_eq n o.0) (flip o.0 n) (first_of-rows n os)
  where
    by : (b : Bool) → bytes_eq o.0 n ≡ b → first_of n (rows os) ≡ value_of n os
        → first_of n (rows (o ∷ os)) ≡ cond b (Some o.1) (value_of n os)
    by true e rest = ap (λ b. option_and_then (λ (r : Row). slice_get r.values 0) (cond b (Some (row o)) (find (λ r. bytes_eq r.id n) (rows os)))) e
    by false e rest = ap (λ b. option_and_then (λ (r : Row). slice_get r.values 0) (cond b (Some (row o)) (find (λ r. bytes_eq r.id n) (rows os)))) e ∙ rest

at_seam : (P : Text → Type 0) (given : List (Text × Text)) (o : Text × Text) (os : List (Text × Text)) → AllByRecursion P (keys_of (given ++ o ∷ os)) → P o.0
at_seam P [] o os h = h.0
at_seam P (g ∷ given) o os h = at_seam P given o os h.1

-- a name that is new at its place is none of those before
pub new-seam : (given : List (Text × Text)) (o : Text × Text) (os : List (Text × Text)) → IsDistinct bytes_eq (keys_of (given ++ o ∷ os))
    → list_any (bytes_eq o.0) (keys_of given) ≡ false
unfolding IsDistinct
new-seam [] o os h = refl
new-seam (g ∷ given) o os h = λ i. (flip o.0 g.0 ∙ at_seam (λ y. bytes_eq g.0 y ≡ false) given o os h.0) i || new-seam given o os h.1 i

-- ---- after the walk

pub finished-is : (rs : List Row) (ns : List Text) → fold with_default rs (map rule ns) ≡ rs
finished-is rs [] = refl
finished-is rs (n ∷ ns) = ap (λ l. fold with_default l (map rule ns)) (by (has_row n rs)) ∙ finished-is rs ns
  where
    by : (b : Bool) → (if b then rs else rs) ≡ rs
    by true = refl
    by false = refl

pub defaults-nil : (rs : List Row) (ns : List Text) → defaults_fault rs (map rule ns) ≡ []
unfolding defaults_fault
defaults-nil rs [] = refl
defaults-nil rs (n ∷ ns) = (λ i. or_else (by (has_row n rs) i) (defaults-nil (with_default rs (rule n)) ns i))
  where
    by : (b : Bool) → (if b || true then [] else given_default_fault (rule n) []) ≡ []
    by true = refl
    by false = refl

none-required : (rs : List Row) (ns : List Text) → list_any (λ a. a.required && not (is_given a.id rs)) (map rule ns) ≡ false
none-required rs [] = refl
none-required rs (n ∷ ns) = none-required rs ns

pub check-nil : (name : Text) (ns : List Text) (rs : List Row) → check_fault (shape name ns) rs false ≡ []
check-nil name ns rs = ap (λ b. check_kinds false false b) (none-required rs ns)

-- ---- what a word looks like

abbrev is_equals : ℕ → Bool
is_equals x = x == 61

split-some : (xs : Text) → list_any is_equals xs ≡ true → xs ≡ before_first is_equals xs ++ 61 ∷ after_first is_equals xs
split-some [] h = absurd (true≢false (sym h))
split-some (x ∷ xs) h = by (x == 61) refl h (split-some xs)
  where
    k : ℕ
    k = position_or_len is_equals xs

    by : (b : Bool) → (x == 61) ≡ b → b || list_any is_equals xs ≡ true → (list_any is_equals xs ≡ true → xs ≡ take k xs ++ 61 ∷ drop (k + 1) xs)
        → x ∷ xs ≡ take (cond (not b) (1 + k) 0) (x ∷ xs) ++ 61 ∷ drop (cond (not b) (1 + k) 0 + 1) (x ∷ xs)
    by true e h rest = ap (λ y. y ∷ xs) ((unsigned_Decides x 61).0 e)
    by false e h rest =
        let one : 1 + k ≡ suc k = omega arith in
        let two : (1 + k) + 1 ≡ suc (k + 1) = omega arith in
        ap (λ ys. x ∷ ys) (rest h) ∙ sym (λ i. take (one i) (x ∷ xs) ++ 61 ∷ drop (two i) (x ∷ xs))

split-none : (xs : Text) → list_any is_equals xs ≡ false → before_first is_equals xs ≡ xs
split-none [] h = refl
split-none (x ∷ xs) h = by (x == 61) h (split-none xs)
  where
    k : ℕ
    k = position_or_len is_equals xs

    by : (b : Bool) → b || list_any is_equals xs ≡ false → (list_any is_equals xs ≡ false → take k xs ≡ xs)
        → take (cond (not b) (1 + k) 0) (x ∷ xs) ≡ x ∷ xs
    by true h rest = absurd (true≢false h)
    by false h rest =
        let one : 1 + k ≡ suc k = omega arith in
        ap (λ i. take i (x ∷ xs)) one ∙ ap (λ ys. x ∷ ys) (rest h)

-- the text of a word with this name and this value
abbrev pub spelled : Text → Option Text → Text
spelled n None = codes "--" ++ n
spelled n (Some v) = codes "--" ++ n ++ codes "=" ++ v

abbrev name_part : Option (Text × Option Text) → Text
name_part None = []
name_part (Some x) = x.0

abbrev value_part : Option (Text × Option Text) → Option Text
value_part None = None
value_part (Some x) = x.1

rest-spelled : (t n : Text) (v : Option Text) → long_of_rest t ≡ Some (n, v) → 45 ∷ 45 ∷ t ≡ spelled n v
rest-spelled [] n v h = cc
rest-spelled (x ∷ xs) n v h = by (list_any is_equals (x ∷ xs)) refl v h
  where
    by : (b : Bool) → list_any is_equals (x ∷ xs) ≡ b → (v : Option Text)
        → ◌≡◌ {A = Option (Text × Option Text)} (Some (before_first is_equals (x ∷ xs), if b then Some (after_first is_equals (x ∷ xs)) else None)) (Some (n, v))
        → 45 ∷ 45 ∷ x ∷ xs ≡ spelled n v
    by true e None h = let value_is : Some (after_first is_equals (x ∷ xs)) ≡ None = ap value_part h in cc
    by true e (Some v) h =
        let name_is : before_first is_equals (x ∷ xs) ≡ n = ap name_part h in
        let value_was : Some (after_first is_equals (x ∷ xs)) ≡ Some v = ap value_part h in
        let value_is : after_first is_equals (x ∷ xs) ≡ v = cc in
        ap (λ ys. 45 ∷ 45 ∷ ys) (split-some (x ∷ xs) e ∙ (λ i. name_is i ++ 61 ∷ value_is i) ∙ sym (append_assoc n (61 ∷ []) v))
    by false e None h =
        ap (λ ys. 45 ∷ 45 ∷ ys) (sym (split-none (x ∷ xs) e) ∙ ap name_part h)
    by false e (Some v) h = let value_is : None ≡ Some v = ap value_part h in cc

pub long-spelled : (word n : Text) (v : Option Text) → long_of word ≡ Some (n, v) → word ≡ spelled n v
long-spelled [] n v h = cc
long-spelled (a ∷ []) n v h = by (a == 45) h
  where
    by : (p : Bool) → option_and_then long_of_rest (option_and_then (strip_byte 45) (if p then Some [] else None)) ≡ Some (n, v) → a ∷ [] ≡ spelled n v
    by true h = cc
    by false h = cc
long-spelled (a ∷ b ∷ t) n v h = by (a == 45) refl h
  where
    second : a ≡ 45 → (q : Bool) → (b == 45) ≡ q → option_and_then long_of_rest (if q then Some t else None) ≡ Some (n, v) → a ∷ b ∷ t ≡ spelled n v
    second e false f h = cc
    second e true f h = (λ i. e i ∷ (unsigned_Decides b 45).0 f i ∷ t) ∙ rest-spelled t n v h

    by : (p : Bool) → (a == 45) ≡ p → option_and_then long_of_rest (option_and_then (strip_byte 45) (if p then Some (b ∷ t) else None)) ≡ Some (n, v) → a ∷ b ∷ t ≡ spelled n v
    by false e h = cc
    by true e h = second ((unsigned_Decides a 45).0 e) (b == 45) refl h

pub long-no_dash : (word : Text) (x : Text × Option Text) → long_of word ≡ Some x → bytes_eq word dash ≡ false
long-no_dash word x h = by (bytes_eq word dash) refl
  where
    by : (b : Bool) → bytes_eq word dash ≡ b → b ≡ false
    by true e = let none : long_of word ≡ None = ap long_of ((bytes_eq-Decides word dash).0 e) in cc
    by false e = refl
