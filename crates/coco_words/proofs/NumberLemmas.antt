-- Numbers of options: there is one list of them, and the values that write them are plain texts.
use Rattle.std.proofs.Common.{◌≡◌, ◌==◌, ◌<◌, ℕ, zero, suc, Bool, true, false, cond, ◌&&◌, ◌||◌, List, [], ◌∷◌, ◌++◌, length, Option, Some, None, Contains, refl, sym, ap, subst, ◌∙◌, true≢false, append_assoc, arith}
use Rattle.std.specs.Char.{is_ascii_digit}
use Rattle.std.specs.Cmp.{unsigned_Decides}
use Rattle.std.specs.List.{list_all, list_any, slice_index_or, AllByRecursion, IsDistinct}
use Rattle.std.specs.Prelude.{if◌then◌else◌, option_and_then}
use Rattle.std.proofs.lemmas.Slice.Eq.{bytes_eq-Decides}
use Rattle.std.specs.Map.{keys_of}
use Rattle.std.specs.Str.{bytes_eq}
use Rattle.clap.specs.Lexer.{long_of_rest, short_of_rest, strip_byte}
use Rattle.clap.specs.Words.{Text}
use Rattle.coco_words.specs.Options.{AreNumbersOf, Gives, GivesNumbers, IsNumberOf, Left, Missing, NumberOption, Taken, WritesNumber, names_in, value_of}
use Rattle.coco_words.proofs.ClapOptions.{new-seam}
use Rattle.coco_words.proofs.ClapReads.{HavePlainValues, IsPlain}

-- what holds of each item holds of one that is contained
pub contained : (P : Text → Type 0) (ns : List Text) → AllByRecursion P ns → (n : Text) → Contains ns n → P n
contained P ns all n h = by ns all h.0 h.1 h.2
  where
    by : (ns : List Text) → AllByRecursion P ns → (k : ℕ) → k < length ns → slice_index_or ns k n ≡ n → P n
    by [] all k lt e = absurd (omega arith)
    by (x ∷ xs) all zero lt e = subst P e all.0
    by (x ∷ xs) all (suc k) lt e = by xs all.1 k (omega arith) e

-- ---- one list of numbers

only_number : (o : NumberOption) (value : Option Text) (m n : Option ℕ) → IsNumberOf o value m → IsNumberOf o value n → m ≡ n
only_number o None None None p q = refl
only_number o None None (Some n) p q = let same : Left ≡ Taken n = sym p ∙ q in cc
only_number o None (Some m) None p q = let same : Taken m ≡ Left = sym p ∙ q in cc
only_number o None (Some m) (Some n) p q = let same : Taken m ≡ Taken n = sym p ∙ q in cc
only_number o (Some text) None n p q = absurd p
only_number o (Some text) (Some m) None p q = absurd q
only_number o (Some text) (Some m) (Some n) p q = ap Some (sym p.value ∙ q.value)

pub only_numbers : (values : Text → Option Text) (os : List NumberOption) (ms ns : List (Option ℕ)) → AreNumbersOf values os ms → AreNumbersOf values os ns → ms ≡ ns
only_numbers values [] [] [] p q = refl
only_numbers values [] [] (n ∷ ns) p q = absurd q
only_numbers values [] (m ∷ ms) ns p q = absurd p
only_numbers values (o ∷ os) [] ns p q = absurd p
only_numbers values (o ∷ os) (m ∷ ms) [] p q = absurd q
only_numbers values (o ∷ os) (m ∷ ms) (n ∷ ns) p q = λ i. only_number o (values o.name) m n p.0 q.0 i ∷ only_numbers values os ms ns p.1 q.1 i

-- ---- no number

-- what is no number of an option that may be left out is none of one that has a default or has to be given
pub no_number : (name : Text) (missing : Missing) (least most : ℕ) (value : Option Text)
    → ((n : Option ℕ) → IsNumberOf (record { name = name; missing = Left; least = least; most = most }) value n → ⊥)
    → (n : Option ℕ) → IsNumberOf (record { name = name; missing = missing; least = least; most = most }) value n → ⊥
no_number name missing least most None none n is = none None refl
no_number name missing least most (Some text) none None is = is
no_number name missing least most (Some text) none (Some number) is = none (Some number) is

-- where one of the options has no number, there are none of all
pub no_numbers : (values : Text → Option Text) (before : List NumberOption) (o : NumberOption) (behind : List NumberOption) (numbers : List (Option ℕ))
    → ((n : Option ℕ) → IsNumberOf o (values o.name) n → ⊥) → AreNumbersOf values (before ++ o ∷ behind) numbers → ⊥
no_numbers values [] o behind [] none are = are
no_numbers values [] o behind (n ∷ ns) none are = none n are.0
no_numbers values (b ∷ before) o behind [] none are = are
no_numbers values (b ∷ before) o behind (n ∷ ns) none are = no_numbers values before o behind ns none are.1

-- and where some of the options have none, there are none of all
pub none_behind : (values : Text → Option Text) (before behind : List NumberOption) (numbers : List (Option ℕ))
    → ((ns : List (Option ℕ)) → AreNumbersOf values behind ns → ⊥) → AreNumbersOf values (before ++ behind) numbers → ⊥
none_behind values [] behind numbers none are = none numbers are
none_behind values (b ∷ before) behind [] none are = are
none_behind values (b ∷ before) behind (n ∷ ns) none are = none_behind values before behind ns none are.1

-- ---- values that are numbers are plain

pub record IsWritten (text : Text) : Type 0 where
  pub least : ℕ
  pub most : ℕ
  pub number : ℕ
  pub writes : WritesNumber least most text number

written : (o : NumberOption) (n : Option ℕ) (v : Text) → IsNumberOf o (Some v) n → IsWritten v
written o None v is = absurd is
written o (Some n) v is = record { least = o.least; most = o.most; number = n; writes = is }

all_written : (values : Text → Option Text) (os : List NumberOption) (ns : List (Option ℕ)) → AreNumbersOf values os ns
    → AllByRecursion (λ (n : Text). (v : Text) → values n ≡ Some v → IsWritten v) (names_in os)
all_written values [] ns are = tt
all_written values (o ∷ os) [] are = absurd are
all_written values (o ∷ os) (n ∷ ns) are = (
  λ v e. written o n v (subst (λ (x : Option Text). IsNumberOf o x n) e are.0),
  all_written values os ns are.1,
)

module _ (own : Text) (names : List Text) where
  plain-number : (text : Text) → IsWritten text → IsPlain own names text
  plain-number [] is = let some = is.writes.some in absurd (omega arith)
  plain-number (c ∷ cs) is = by (c == 45) refl
    where
      by : (b : Bool) → (c == 45) ≡ b → IsPlain own names (c ∷ cs)
      by true e =
          let digits : is_ascii_digit c && list_all is_ascii_digit cs ≡ true = is.writes.digits in
          let same : is_ascii_digit c ≡ false = ap is_ascii_digit ((unsigned_Decides c 45).0 e) in
          absurd (true≢false (sym digits ∙ ap (λ b. b && list_all is_ascii_digit cs) same))
      by false e = record {
        not_long = (λ i. option_and_then long_of_rest (option_and_then (strip_byte 45) (if e i then Some cs else None)));
        not_short = (λ i. option_and_then short_of_rest (if e i then Some cs else None));
        not_dash = (λ i. e i && bytes_eq cs (45 ∷ []));
      }

  value-seam : (n v : Text) (before : List (Text × Text)) (os : List (Text × Text)) → list_any (bytes_eq n) (keys_of before) ≡ false → value_of n (before ++ (n, v) ∷ os) ≡ Some v
  value-seam n v [] os h = ap (λ b. cond b (Some v) (value_of n os)) ((bytes_eq-Decides n n).1 refl)
  value-seam n v (o ∷ before) os h = by (bytes_eq n o.0) h (value-seam n v before os)
    where
      by : (b : Bool) → b || list_any (bytes_eq n) (keys_of before) ≡ false → (list_any (bytes_eq n) (keys_of before) ≡ false → value_of n (before ++ (n, v) ∷ os) ≡ Some v)
          → cond b (Some o.1) (value_of n (before ++ (n, v) ∷ os)) ≡ Some v
      by true h rest = absurd (true≢false h)
      by false h rest = rest h

  each_plain : (before options : List (Text × Text)) (words : List Text) → Gives names words options → IsDistinct bytes_eq (keys_of (before ++ options))
      → ((n v : Text) → Contains names n → value_of n (before ++ options) ≡ Some v → IsPlain own names v) → HavePlainValues own names options
  each_plain before [] words given once plain = tt
  each_plain before (o ∷ os) words given once plain =
      let here = plain o.0 o.1 given.0 (value-seam o.0 o.1 before os (new-seam before o os once)) in
      let same : (before ++ o ∷ []) ++ os ≡ before ++ o ∷ os = append_assoc before (o ∷ []) os in (
        here,
        each_plain (before ++ o ∷ []) os given.1.0 given.1.2
            (subst (λ (l : List (Text × Text)). IsDistinct bytes_eq (keys_of l)) (sym same) once)
            (subst (λ (l : List (Text × Text)). (n v : Text) → Contains names n → value_of n l ≡ Some v → IsPlain own names v) (sym same) plain),
      )

-- options with numbers have plain values
pub plain-options : (own : Text) (os : List NumberOption) (words : List Text) (numbers : List (Option ℕ)) → (gives : GivesNumbers os words numbers) → HavePlainValues own (names_in os) gives.0
plain-options own os words numbers gives =
    each_plain own (names_in os) [] gives.0 words gives.1.given gives.1.once
    (λ n v known e. plain-number own (names_in os) v
    (contained (λ (n : Text). (v : Text) → value_of n gives.0 ≡ Some v → IsWritten v) (names_in os) (all_written (λ n. value_of n gives.0) os numbers gives.2) n known v e))
