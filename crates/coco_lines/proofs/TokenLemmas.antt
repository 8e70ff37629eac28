-- The values that the tokens of a plain line are, and the loops over members and items, a turn at a time.
use Rattle.std.proofs.Common.{◌≡◌, ℕ, ℤ, ◌-◌, ◌<◌, ◌≤◌, Bool, List, [], ◌∷◌, ◌++◌, length, Option, Some, None, refl, sym, ap, ◌∙◌, arith}
use Rattle.std.specs.Option.{option_map, option_and_then}
use Rattle.std.proofs.lemmas.Bool.{le-leb}
use Rattle.std.proofs.lemmas.List.{append_assoc, append-nil}
use Rattle.json.specs.Token.{Token}
use Rattle.json.specs.Lex.{tokens}
use Rattle.json.specs.Json as json
use Rattle.json.specs.Json.{parse_map, after_end_array, read_key, items, members, value, if_last}
use Rattle.json.proofs.Grammar.{left, value_is, value-begin_array, value-begin_object, read_key-shorter, skip_value-shorter, items_end, items_more, members_end, members_more}
use Rattle.serde_json.specs.Data.{Data, Num, null, number, string, boolean, array, object, Items, item, Members, no_members, put}
use Rattle.serde_json.specs.Find.{as_i64}
use Rattle.serde_json.specs.Read.{of_json, of_items, of_members, converted, number_of, read}
use Rattle.coco_types.specs.Limits.{most_text_bytes}
use Rattle.coco_types.specs.declared.value.Value.{Value}
use Rattle.coco_types.specs.declared.value.Value.TheVariants.{Int, Text}
use Rattle.coco_lines.specs.Reading.{arg_of, args_of}
use Rattle.coco_lines.proofs.FitLemmas.{found_in}

-- ---- what was read, under a conversion

abbrev pick : {A : Type 0} → A → Option A → A
pick a None = a
pick a (Some b) = b

found : {A B : Type 0} (a : A) (r s : List Token) (x : Option B) (b : B) → option_map {U = B × List Token} (λ y. (y, r)) x ≡ Some (b, s) → (r ≡ s) × (x ≡ Some b)
found a r s None b is = absurd (cc)
found a r s (Some y) b is = let same = ap (pick (y, r)) is in (ap (λ p. p.1) same, ap (λ p. Some p.0) same)

pub converted_some : {A B : Type 0} (f : A → Option B) (o : Option (A × List Token)) (b : B) (r : List Token) → converted f o ≡ Some (b, r) → (a : A) × (o ≡ Some (a, r)) × (f a ≡ Some b)
converted_some f None b r is = absurd (cc)
converted_some f (Some p) b r is = let both = found p.0 p.1 r (f p.0) b is in (p.0, ap (λ s. Some (p.0, s)) both.0, both.1)

behind : {A B : Type 0} (f : A → B) (r : List Token) (o : Option A) → option_map (λ b. (b, r)) (option_map f o) ≡ parse_map f (option_map (λ a. (a, r)) o)
behind f r None = refl
behind f r (Some a) = refl

-- ---- one value

pub text_read : (depth : ℕ) (ts r : List Token) (s : List ℕ) → ts ≡ Token.string s ∷ r → converted of_json (value depth ts) ≡ Some (string s, r)
text_read depth ts r s is = ap (converted of_json) (ap (value depth) is ∙ value_is depth (Token.string s ∷ r))

pub number_read : (depth : ℕ) (ts r : List Token) (s : List ℕ) (n : Num) → ts ≡ Token.number s ∷ r → number_of s ≡ Some n → converted of_json (value depth ts) ≡ Some (number n, r)
number_read depth ts r s n is means = ap (converted of_json) (ap (value depth) is ∙ value_is depth (Token.number s ∷ r)) ∙ ap (λ o. option_map (λ d. (d, r)) (option_map number o)) means

pub boolean_read : (depth : ℕ) (ts r : List Token) (b : Bool) → ts ≡ Token.boolean b ∷ r → converted of_json (value depth ts) ≡ Some (boolean b, r)
boolean_read depth ts r b is = ap (converted of_json) (ap (value depth) is ∙ value_is depth (Token.boolean b ∷ r))

pub null_read : (depth : ℕ) (ts r : List Token) → ts ≡ Token.null ∷ r → converted of_json (value depth ts) ≡ Some (null, r)
null_read depth ts r is = ap (converted of_json) (ap (value depth) is ∙ value_is depth (Token.null ∷ r))

arrays : (o : Option (json.Items × List Token)) → converted of_json (parse_map json.array o) ≡ parse_map array (converted of_items o)
arrays None = refl
arrays (Some p) = behind array p.1 (of_items p.0)

objects : (o : Option (json.Members × List Token)) → converted of_json (parse_map json.object o) ≡ parse_map object (converted (λ ms. of_members ms no_members) o)
objects None = refl
objects (Some p) = behind object p.1 (of_members p.0 no_members)

pub array_read : (ts s r : List Token) (ds : Items) → ts ≡ Token.begin_array ∷ s → converted of_items (items (value 125) (length s) s) ≡ Some (ds, r) → converted of_json (value 126 ts) ≡ Some (array ds, r)
array_read ts s r ds is means = ap (converted of_json) (ap (value 126) is ∙ value-begin_array 126 s (omega arith)) ∙ arrays (items (value 125) (length s) s) ∙ ap (parse_map array) means

pub object_read : (ts s r : List Token) (ms : Members) → ts ≡ Token.begin_object ∷ s → converted (λ all. of_members all no_members) (members (value 126) (length s) s) ≡ Some (ms, r)
    → converted of_json (value 127 ts) ≡ Some (object ms, r)
object_read ts s r ms is means = ap (converted of_json) (ap (value 127) is ∙ value-begin_object 127 s (omega arith)) ∙ objects (members (value 126) (length s) s) ∙ ap (parse_map object) means

pub value_shorter : (depth : ℕ) (ts r : List Token) (d : Data) → converted of_json (value depth ts) ≡ Some (d, r) → length r < length ts
value_shorter depth ts r d is = let j = converted_some of_json (value depth ts) d r is in skip_value-shorter depth ts r (ap left j.1)

-- ---- the whole text

abbrev whole : Option (json.Json × List Token) → Option Data
whole o = option_and_then of_json (option_and_then (λ p. if_last p.0 p.1) o)

pub whole_text : (text : List ℕ) (d : Data) → converted of_json (value 127 (tokens text)) ≡ Some (d, []) → read text ≡ Some d
whole_text text d is = let j = converted_some of_json (value 127 (tokens text)) d [] is in ap whole j.1 ∙ j.2

-- ---- members

with_member : (k : List ℕ) (j : json.Json) (d : Data) (old : Members) → of_json j ≡ Some d → (o : Option (json.Members × List Token))
    → converted (λ ms. of_members ms old) (parse_map (json.member k j) o) ≡ converted (λ ms. of_members ms (put k d old)) o
with_member k j d old is None = refl
with_member k j d old is (Some p) = rw is

pub member_turn : (old : Members) (n : ℕ) (k : List ℕ) (ts s r : List Token) (d : Data) → 0 < n → read_key ts ≡ Some (Some k, s) → converted of_json (value 126 s) ≡ Some (d, r)
    → converted (λ ms. of_members ms old) (members (value 126) n ts) ≡ converted (λ ms. of_members ms (put k d old)) (members (value 126) (n - 1) r)
member_turn old n k ts s r d some named is =
    let j = converted_some of_json (value 126 s) d r is in
    ap (converted (λ ms. of_members ms old)) (members_more (value 126) n k ts s r j.0 some named j.1) ∙ with_member k j.0 d old j.2 _

pub members_over : (old : Members) (n : ℕ) (ts r : List Token) → length ts ≤ n → read_key ts ≡ Some (None, r) → converted (λ ms. of_members ms old) (members (value 126) n ts) ≡ Some (old, r)
members_over old n ts r enough is = ap (converted (λ ms. of_members ms old)) (members_end (value 126) n ts r enough is)

pub member_shorter : (k : List ℕ) (ts s r : List Token) (d : Data) → read_key ts ≡ Some (Some k, s) → converted of_json (value 126 s) ≡ Some (d, r) → length r < length ts
member_shorter k ts s r d named is = omega (arith, read_key-shorter ts (Some k) s named, value_shorter 126 s r d is)

-- ---- items, and the arguments that they are

with_item : (j : json.Json) (d : Data) → of_json j ≡ Some d → (o : Option (json.Items × List Token)) → converted of_items (parse_map (json.item j) o) ≡ parse_map (item d) (converted of_items o)
with_item j d is None = refl
with_item j d is (Some p) = rw is (behind (item d) p.1 (of_items p.0))

with_arg : (d : Data) (arg : Option Value) → arg_of d ≡ Some arg → (o : Option (Items × List Token)) → converted args_of (parse_map (item d) o) ≡ parse_map (λ args. arg ∷ args) (converted args_of o)
with_arg d arg is None = refl
with_arg d arg is (Some p) = rw is (behind (λ args. arg ∷ args) p.1 (args_of p.0))

one_more : (args : List (Option Value)) (arg : Option Value) (o : Option (List (Option Value) × List Token))
    → parse_map (λ more. args ++ more) (parse_map (λ more. arg ∷ more) o) ≡ parse_map (λ more. (args ++ arg ∷ []) ++ more) o
one_more args arg None = refl
one_more args arg (Some p) = ap (λ all. Some (all, p.1)) (sym (append_assoc args (arg ∷ []) p.0))

pub none_before : (o : Option (List (Option Value) × List Token)) → o ≡ parse_map (λ more. [] ++ more) o
none_before None = refl
none_before (Some p) = refl

-- the arguments that n turns of the loop over items find
abbrev pub args_read : ℕ → List Token → Option (List (Option Value) × List Token)
args_read n ts = converted args_of (converted of_items (items (value 125) n ts))

pub arg_turn : (args : List (Option Value)) (arg : Option Value) (n : ℕ) (ts r : List Token) → 0 < n → after_end_array ts ≡ None → converted arg_of (converted of_json (value 125 ts)) ≡ Some (arg, r)
    → parse_map (λ more. args ++ more) (args_read n ts) ≡ parse_map (λ more. (args ++ arg ∷ []) ++ more) (args_read (n - 1) r)
arg_turn args arg n ts r some going is =
    let d = converted_some arg_of (converted of_json (value 125 ts)) arg r is in
    let j = converted_some of_json (value 125 ts) d.0 r d.1 in
    let turn = ap (converted of_items) (items_more (value 125) n ts r j.0 some going j.1) ∙ with_item j.0 d.0 j.2 _ in
    ap (λ o. parse_map (λ more. args ++ more) (converted args_of o)) turn ∙ ap (parse_map (λ more. args ++ more)) (with_arg d.0 arg d.2 _) ∙ one_more args arg _

pub args_over : (args : List (Option Value)) (n : ℕ) (ts r : List Token) → length ts ≤ n → after_end_array ts ≡ Some r → parse_map (λ more. args ++ more) (args_read n ts) ≡ Some (args, r)
args_over args n ts r enough is =
    ap (λ o. parse_map (λ more. args ++ more) (converted args_of (converted of_items o))) (items_end (value 125) n ts r enough is) ∙ ap (λ all. Some (all, r)) (append-nil args)

pub arg_shorter : (arg : Option Value) (ts r : List Token) → converted arg_of (converted of_json (value 125 ts)) ≡ Some (arg, r) → length r < length ts
arg_shorter arg ts r is = let d = converted_some arg_of (converted of_json (value 125 ts)) arg r is in value_shorter 125 ts r d.0 d.1

-- ---- one argument

pub null_arg : (ts r : List Token) → ts ≡ Token.null ∷ r → converted arg_of (converted of_json (value 125 ts)) ≡ Some (None, r)
null_arg ts r is = ap (converted arg_of) (null_read 125 ts r is)

pub int_arg : (ts r : List Token) (s : List ℕ) (i : ℤ) → ts ≡ Token.number s ∷ r → option_and_then as_i64 (number_of s) ≡ Some i → converted arg_of (converted of_json (value 125 ts)) ≡ Some (Some (Int i), r)
int_arg ts r s i is means =
    let n = found_in as_i64 (number_of s) i means in
    ap (converted arg_of) (number_read 125 ts r s n.0 is n.1) ∙ ap (λ o. option_map (λ arg. (arg, r)) (option_map (λ j. Some (Int j)) o)) n.2

pub text_arg : (ts r : List Token) (s : List ℕ) → ts ≡ Token.string s ∷ r → length s ≤ most_text_bytes → converted arg_of (converted of_json (value 125 ts)) ≡ Some (Some (Text s), r)
text_arg ts r s is short = ap (converted arg_of) (text_read 125 ts r s is) ∙ rw (le-leb _ _ short)
