-- The steps of reading a line, and the errors that they come to.
use Rattle.std.proofs.Common.{◌≡◌, ℕ, List, [], ◌∷◌, ◌++◌, Bool, true, false, ◌&&◌, if◌then◌else◌, length, Option, Some, None, refl, sym, ap, ◌∙◌, String, Global, nat_eq, arith}
use Rattle.std.proofs.lemmas.Bool.Decides.{nat_tests}
use Rattle.std.specs.Prelude.{string_bytes, option_map, option_and_then, codes}
use Rattle.std.specs.Map.{keys_of}
use Rattle.std.specs.List.{list_all}
use Rattle.std.specs.Str.{IsUtf8, is_utf8}
use Rattle.std.proofs.lemmas.Str.{IsUtf8-from_is_utf8, is_utf8-from_IsUtf8}
use Rattle.serde_json.proofs.Views.{items_len-items_view}
use Rattle.serde_json.specs.Data.{Data, Items, Members}
use Rattle.serde_json.specs.Find.{get, as_array, as_number, as_object, as_str, as_u64}
use Rattle.serde_json.specs.Read.{read}
use Rattle.serde_json.specs.View.{items_view, members_view}
use Rattle.serde_json.specs.declared.value.Value.{Value as Json}
use Rattle.coco_types.specs.declared.value.Value.{Value}
use Rattle.coco_types.specs.declared.call.Request.{Request}
use Rattle.coco_ast.specs.Tree.{Procedure, Procedures}
use Rattle.coco_lines.specs.Reading.{Asked, json_of, is_member, only_members, snapshot_of, asked_of, find_named, args_of, fitting_args, request_of, request_in, is_forbidden, first_that_fits, asking_tests, reading_tests, request_on, asking_error, reading_error}
use Rattle.coco_lines.specs.declared.error.LineError.{LineError}
use Rattle.coco_lines.specs.declared.error.LineError.TheVariants as error
use Rattle.coco_lines.proofs.FitLemmas.{found_in}

-- ---- a line's text

pub only_members-members_view : (es : List (String Global × Json)) → list_all (λ key. is_member (string_bytes key)) (keys_of es) ≡ only_members (members_view es)
only_members-members_view [] = refl
only_members-members_view (e ∷ es) = ap (λ b. is_member (string_bytes e.0) && b) (only_members-members_view es)

pub json_of-utf8 : (line : List ℕ) → IsUtf8 line → json_of line ≡ read line
json_of-utf8 line is = rw (is_utf8-from_IsUtf8 line is)

none_of : (line : List ℕ) (b : Bool) → is_utf8 line ≡ b → (IsUtf8 line → read line ≡ None) → json_of line ≡ None
none_of line true is none = rw is (none (IsUtf8-from_is_utf8 line is))
none_of line false is none = rw is

pub json_of-none : (line : List ℕ) → (IsUtf8 line → read line ≡ None) → json_of line ≡ None
json_of-none line none = none_of line (is_utf8 line) refl none

-- what a text reads as, where it is that of the line
pub json_of-text : (line text : List ℕ) → text ≡ line → IsUtf8 line → json_of line ≡ read text
json_of-text line text same is = json_of-utf8 line is ∙ ap read (sym same)

-- ---- arguments

pub fitting_args-fewer : (params : ℕ) (items : List Json) → (length items ≡ params → ⊥) → fitting_args params (items_view items) ≡ None
fitting_args-fewer params items other =
    let differs : nat_eq (length items) params ≡ false = grind (arith, nat_tests) in
    rw (items_len-items_view items, differs)

pub fitting_args-as_many : (params : ℕ) (items : List Json) → length items ≡ params → fitting_args params (items_view items) ≡ args_of (items_view items)
fitting_args-as_many params items same =
    let equal : nat_eq (length items) params ≡ true = grind (arith, nat_tests) in
    rw (items_len-items_view items, equal)

-- ---- members

pub asked_of-others : (value : Data) (ms : Members) → Some ms ≡ as_object value → false ≡ only_members ms → None ≡ asked_of value
asked_of-others value ms is others = rw (← is, ← others)

pub asked_of-all : (value : Data) (ms : Members) (args : Items) (call : List ℕ) (id : ℕ) (snapshot : Bool) → Some ms ≡ as_object value → true ≡ only_members ms
    → option_and_then as_array (get (codes "args") value) ≡ Some args → option_and_then as_str (get (codes "call") value) ≡ Some call
    → option_and_then as_u64 (option_and_then as_number (get (codes "id") value)) ≡ Some id → snapshot_of (get (codes "snapshot") value) ≡ Some snapshot
    → Some (record { args = args; call = call; id = id; snapshot = snapshot }) ≡ asked_of value
asked_of-all value ms args call id snapshot is all args_is call_is id_is snapshot_is = rw (← is, ← all, args_is, call_is, id_is, snapshot_is)

-- ---- the request of a value, or the first error

module _ (procs : Procedures) (value : Data) where
  pub no_shape : None ≡ asked_of value → first_that_fits (asking_tests procs (Some value)) ≡ Some error.Shape
  no_shape none = rw (← none)

  pub no_name : (asked : Asked) → Some asked ≡ asked_of value → find_named procs asked.call ≡ None → first_that_fits (asking_tests procs (Some value)) ≡ Some error.Name
  no_name asked is none = rw (← is, none)

  pub no_args : (asked : Asked) (found : ℕ × Procedure) → Some asked ≡ asked_of value → find_named procs asked.call ≡ Some found → fitting_args (length found.1.params) asked.args ≡ None
      → first_that_fits (asking_tests procs (Some value)) ≡ Some error.Args
  no_args asked found is named none = rw (← is, named, none)

  pub asks_for : (asked : Asked) (found : ℕ × Procedure) (args : List (Option Value)) → Some asked ≡ asked_of value → find_named procs asked.call ≡ Some found
      → fitting_args (length found.1.params) asked.args ≡ Some args
      → request_in procs (Some value) ≡ Some (record { id = asked.id; call = record { proc_no = found.0; args = args; snapshot = asked.snapshot } })
  asks_for asked found args is named fits = rw (← is, named, fits)

-- what was found by number and parameters
pub known : (n params : ℕ) (o : Option (ℕ × Procedure)) → Some n ≡ option_map (λ f. f.0) o → Some params ≡ option_map (λ f. length f.1.params) o
    → (f : ℕ × Procedure) × (o ≡ Some f) × (f.0 ≡ n) × (length f.1.params ≡ params)
known n params None a b = let e : Some n ≡ None = a in absurd (cc)
known n params (Some f) a b = let e : Some n ≡ Some f.0 = a in let g : Some params ≡ Some (length f.1.params) = b in (f, refl, cc, cc)

pub unknown : (o : Option (ℕ × Procedure)) → None ≡ option_map (λ f. f.0) o → o ≡ None
unknown None e = refl
unknown (Some f) e = let g : ◌≡◌ {A = Option ℕ} None (Some f.0) = e in absurd (cc)

-- ---- the tests on a line

first_more : {A : Type 0} (b : Bool) (x a : A) (o p : Option A) → (o ≡ Some a → p ≡ Some a) → (if b then Some x else o) ≡ Some a → (if b then Some x else p) ≡ Some a
first_more true x a o p rest e = e
first_more false x a o p rest e = rest e

pub first_of_both : {A : Type 0} (xs ys : List (Bool × A)) (a : A) → first_that_fits xs ≡ Some a → first_that_fits (xs ++ ys) ≡ Some a
first_of_both {A} [] ys a h = let e : ◌≡◌ {A = Option A} None (Some a) = h in absurd (cc)
first_of_both (x ∷ xs) ys a h = first_more x.0 x.1 a (first_that_fits xs) (first_that_fits (xs ++ ys)) (first_of_both xs ys a) h

first_none : {A : Type 0} (b : Bool) (x : A) (o p q : Option A) → (o ≡ None → p ≡ q) → (if b then Some x else o) ≡ None → (if b then Some x else p) ≡ q
first_none {A} true x o p q rest e = let f : ◌≡◌ {A = Option A} (Some x) None = e in absurd (cc)
first_none false x o p q rest e = rest e

pub first_of_second : {A : Type 0} (xs ys : List (Bool × A)) → first_that_fits xs ≡ None → first_that_fits (xs ++ ys) ≡ first_that_fits ys
first_of_second [] ys h = refl
first_of_second (x ∷ xs) ys h = first_none x.0 x.1 (first_that_fits xs) (first_that_fits (xs ++ ys)) (first_that_fits ys) (first_of_second xs ys) h

asks_soundly : (procs : Procedures) (value : Option Data) (r : Request) → request_in procs value ≡ Some r → first_that_fits (asking_tests procs value) ≡ None
asks_soundly procs None r h = let e : ◌≡◌ {A = Option Request} None (Some r) = h in absurd (cc)
asks_soundly procs (Some d) r h =
    let asked = found_in (request_of procs) (asked_of d) r h in
    let found = found_in _ (find_named procs asked.0.call) r asked.2 in
    rw (asked.1, found.1, found.2)

abbrev last_test : Procedures → Option Request → List (Bool × LineError)
last_test procs o = (is_forbidden procs o, error.Snapshot) ∷ []

reads_by : (procs : Procedures) (value : Option Data) (r : Request) → request_in procs value ≡ Some r → first_that_fits (reading_tests procs value) ≡ first_that_fits (last_test procs (Some r))
reads_by procs value r h =
    first_of_second (asking_tests procs value) (last_test procs (request_in procs value)) (asks_soundly procs value r h) ∙ ap (λ o. first_that_fits (last_test procs o)) h

module _ (procs : Procedures) (line : List ℕ) where
  pub asking_is : (value : Option Data) → json_of line ≡ value → asking_error procs line ≡ first_that_fits (asking_tests procs value)
  unfolding asking_error
  asking_is value same = ap (λ v. first_that_fits (asking_tests procs v)) same

  pub request_is : (value : Option Data) → json_of line ≡ value → request_on procs line ≡ request_in procs value
  unfolding request_on
  request_is value same = ap (request_in procs) same

  pub asking_first : (e : LineError) → asking_error procs line ≡ Some e → reading_error procs line ≡ Some e
  unfolding asking_error reading_error
  asking_first e h = first_of_both (asking_tests procs (json_of line)) (last_test procs (request_in procs (json_of line))) e h

  pub reading_none : (r : Request) → request_on procs line ≡ Some r → is_forbidden procs (Some r) ≡ false → reading_error procs line ≡ None
  unfolding request_on reading_error
  reading_none r h may = reads_by procs (json_of line) r h ∙ rw may

  pub reading_forbidden : (r : Request) → request_on procs line ≡ Some r → is_forbidden procs (Some r) ≡ true → reading_error procs line ≡ Some error.Snapshot
  unfolding request_on reading_error
  reading_forbidden r h not = reads_by procs (json_of line) r h ∙ rw not
