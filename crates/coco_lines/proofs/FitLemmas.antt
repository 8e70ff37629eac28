-- The procedure that a name finds, and what a line asks of it: the call fits, but for the test of snapshot calls.
use Rattle.std.proofs.Common.{◌≡◌, ℕ, zero, suc, ◌+◌, ◌==◌, ◌&&◌, Bool, true, false, if◌then◌else◌, List, [], ◌∷◌, length, Option, None, Some, refl, sym, ap, subst, ◌∙◌, arith, add-one}
use Rattle.std.specs.Prelude.{IfSome}
use Rattle.std.specs.Option.{option_map, option_and_then}
use Rattle.std.specs.Str.{bytes_eq}
use Rattle.std.proofs.lemmas.Bool.{eqb-true, eq-eqb}
use Rattle.std.proofs.lemmas.Slice.Eq.{bytes_eq-Decides}
use Rattle.serde_json.specs.Data.{Data, Items, no_items, item}
use Rattle.serde_json.specs.Events.{items_len}
use Rattle.coco_types.specs.declared.value.Value.{Value}
use Rattle.coco_types.specs.declared.call.Request.{Request}
use Rattle.coco_ast.specs.Fitting.{Fits, is_taken}
use Rattle.coco_ast.specs.Meaning.{procedure_at}
use Rattle.coco_ast.specs.Numbering.{IsNamed}
use Rattle.coco_ast.specs.Tree.{Procedure, Procedures}
use Rattle.coco_lines.specs.Reading.{Asked, asked_in, find_from, find_named, arg_of, args_of, fitting_args, request_of, request_in, request_on, json_of, has_writes, is_forbidden}

-- ---- what is there, and what follows

pub found_in : {A B : Type 0} (f : A → Option B) (o : Option A) (b : B) → option_and_then f o ≡ Some b → (a : A) × (o ≡ Some a) × (f a ≡ Some b)
found_in {A} {B} f None b is = let e : ◌≡◌ {A = Option B} None (Some b) = is in absurd (cc)
found_in f (Some a) b is = (a, refl, is)

mapped_in : {A B : Type 0} (f : A → B) (o : Option A) (b : B) → option_map f o ≡ Some b → (a : A) × (o ≡ Some a) × (f a ≡ b)
mapped_in {A} {B} f None b is = let e : ◌≡◌ {A = Option B} None (Some b) = is in absurd (cc)
mapped_in {A} {B} f (Some a) b is = let e : ◌≡◌ {A = Option B} (Some (f a)) (Some b) = is in (a, refl, cc)

-- ---- the procedure of a name

-- the place of what was found, from the number k on
abbrev IsPlace : ℕ → List Procedure → List ℕ → ℕ × Procedure → Type 0
IsPlace k ps name f = (m : ℕ) × (f.0 ≡ k + m) × (procedure_at ps m ≡ Some f.1) × (f.1.name ≡ name)

placed : (k : ℕ) (p : Procedure) (ps : List Procedure) (name : List ℕ) (f : ℕ × Procedure) → (find_from (k + 1) ps name ≡ Some f → IsPlace (k + 1) ps name f)
    → (b : Bool) → bytes_eq p.name name ≡ b → (if b then Some (k, p) else find_from (k + 1) ps name) ≡ Some f → IsPlace k (p ∷ ps) name f
placed k p ps name f rest true same here =
    let e : ◌≡◌ {A = Option (ℕ × Procedure)} (Some (k, p)) (Some f) = here in
    let is : ◌≡◌ {A = ℕ × Procedure} (k, p) f = cc in
    let at : k ≡ f.0 = ap (λ (g : ℕ × Procedure). g.0) is in
    (0, omega arith, ap (λ (g : ℕ × Procedure). Some g.1) is, sym (ap (λ (g : ℕ × Procedure). g.1.name) is) ∙ (bytes_eq-Decides p.name name).0 same)
placed k p ps name f rest false other later =
    let there = rest later in
    (suc there.0, omega (arith, there.1), there.2, there.3)

found_at : (k : ℕ) (ps : List Procedure) (name : List ℕ) (f : ℕ × Procedure) → find_from k ps name ≡ Some f → IsPlace k ps name f
found_at k [] name f h = let e : ◌≡◌ {A = Option (ℕ × Procedure)} None (Some f) = h in absurd (cc)
found_at k (p ∷ ps) name f h = placed k p ps name f (found_at (k + 1) ps name f) (bytes_eq p.name name) refl h

missed : {A : Type 0} (b : Bool) (x : A) (o : Option A) → (if b then Some x else o) ≡ None → (b ≡ false) × (o ≡ None)
missed {A} true x o none = let e : ◌≡◌ {A = Option A} (Some x) None = none in absurd (cc)
missed false x o none = (refl, none)

not_missed : (k : ℕ) (ps : List Procedure) (name : List ℕ) (m : ℕ) (p : Procedure) → procedure_at ps m ≡ Some p → p.name ≡ name → find_from k ps name ≡ None → ⊥
not_missed k [] name m p there named none = let e : ◌≡◌ {A = Option Procedure} None (Some p) = there in cc
not_missed k (q ∷ ps) name zero p there named none =
    let e : ◌≡◌ {A = Option Procedure} (Some q) (Some p) = there in
    let is : q ≡ p = cc in
    let same : bytes_eq q.name name ≡ true = (bytes_eq-Decides q.name name).1 (ap (λ (r : Procedure). r.name) is ∙ named) in
    let other = (missed (bytes_eq q.name name) (k, q) (find_from (k + 1) ps name) none).0 in
    let no : true ≡ false = sym same ∙ other in
    cc
not_missed k (q ∷ ps) name (suc m) p there named none = not_missed (k + 1) ps name m p there named (missed (bytes_eq q.name name) (k, q) (find_from (k + 1) ps name) none).1

pub procedure_named : (procs : Procedures) (name : List ℕ) (f : ℕ × Procedure) → find_named procs name ≡ Some f → (procedure_at procs.procs f.0 ≡ Some f.1) × (f.1.name ≡ name)
procedure_named procs name f h =
    let there = found_at 0 procs.procs name f h in
    let same : there.0 ≡ f.0 = omega (arith, there.1) in
    (ap (procedure_at procs.procs) (sym same) ∙ there.2, there.3)

named_by : (procs : Procedures) (name : List ℕ) (r : Option ℕ) → IfSome r (λ n. IsNamed procs n name) → ((n : ℕ) → IsNamed procs n name → r ≡ Some n)
    → (o : Option (ℕ × Procedure)) → find_named procs name ≡ o → r ≡ option_map (λ f. f.0) o
named_by procs name r is only (Some f) h = let there = procedure_named procs name f h in only f.0 (f.1, there.0, there.1)
named_by procs name None is only None h = refl
named_by procs name (Some n) is only None h = absurd (not_missed 0 procs.procs name n is.0 is.1 is.2 h)

-- the number that a tree answers for a name is the one that is found
pub number_is : (procs : Procedures) (name : List ℕ) (r : Option ℕ) → IfSome r (λ n. IsNamed procs n name) → ((n : ℕ) → IsNamed procs n name → r ≡ Some n)
    → r ≡ option_map (λ f. f.0) (find_named procs name)
number_is procs name r is only = named_by procs name r is only (find_named procs name) refl

params_by : (procs : Procedures) (name : List ℕ) (n : ℕ) (o : Option (ℕ × Procedure)) → find_named procs name ≡ o → Some n ≡ option_map (λ f. f.0) o
    → option_map (λ p. length p.params) (procedure_at procs.procs n) ≡ option_map (λ f. length f.1.params) o
params_by procs name n None h e = let no : Some n ≡ None = e in absurd (cc)
params_by procs name n (Some f) h e =
    let some : Some n ≡ Some f.0 = e in
    let same : n ≡ f.0 = cc in
    ap (λ k. option_map (λ (p : Procedure). length p.params) (procedure_at procs.procs k)) same ∙ ap (option_map (λ (p : Procedure). length p.params)) (procedure_named procs name f h).0

-- and so are its parameters
pub params_are : (procs : Procedures) (name : List ℕ) (n : ℕ) → Some n ≡ option_map (λ f. f.0) (find_named procs name)
    → option_map (λ p. length p.params) (procedure_at procs.procs n) ≡ option_map (λ f. length f.1.params) (find_named procs name)
params_are procs name n e = params_by procs name n (find_named procs name) refl e

-- ---- as many arguments as values

some_args : (arg : Option (Option Value)) (more : Option (List (Option Value))) (n : ℕ) (args : List (Option Value)) → ((rest : List (Option Value)) → more ≡ Some rest → length rest ≡ n)
    → option_and_then (λ (a : Option Value). option_map (λ (rest : List (Option Value)). a ∷ rest) more) arg ≡ Some args → length args ≡ n + 1
some_args None more n args rest h = let e : ◌≡◌ {A = Option (List (Option Value))} None (Some args) = h in cc
some_args (Some a) None n args rest h = let e : ◌≡◌ {A = Option (List (Option Value))} None (Some args) = h in cc
some_args (Some a) (Some more) n args rest h =
    let e : ◌≡◌ {A = Option (List (Option Value))} (Some (a ∷ more)) (Some args) = h in
    let same : a ∷ more ≡ args = cc in
    omega (arith, ap (length {A = Option Value}) same, rest more refl)

pub args_length : (items : Items) (args : List (Option Value)) → args_of items ≡ Some args → length args ≡ items_len items
args_length no_items args h = let e : ◌≡◌ {A = Option (List (Option Value))} (Some []) (Some args) = h in let same : [] ≡ args = cc in ap (length {A = Option Value}) (sym same)
args_length (item value others) args h = some_args (arg_of value) (args_of others) (items_len others) args (args_length others) h ∙ add-one (items_len others)

if_ok : (b : Bool) (o : Option (List (Option Value))) (args : List (Option Value)) → (if b then o else None) ≡ Some args → (b ≡ true) × (o ≡ Some args)
if_ok true o args h = (refl, h)
if_ok false o args h = let e : ◌≡◌ {A = Option (List (Option Value))} None (Some args) = h in cc

fitting_length : (params : ℕ) (items : Items) (args : List (Option Value)) → fitting_args params items ≡ Some args → length args ≡ params
fitting_length params items args h =
    let both = if_ok (items_len items == params) (args_of items) args h in
    args_length items args both.1 ∙ eqb-true (items_len items) params both.0

-- ---- a call that fits

taken : (p : Procedure) (o : Option Procedure) (n : ℕ) (args : List (Option Value)) (snapshot : Bool) → o ≡ Some p → length args ≡ length p.params → snapshot && has_writes o ≡ false
    → is_taken o (record { proc_no = n; args = args; snapshot = snapshot }) ≡ true
taken p o n args snapshot there many may =
    let counted : (length args == length p.params) ≡ true = eq-eqb (length args) (length p.params) many in
    let reads : snapshot && has_writes (Some p) ≡ false = subst (λ (q : Option Procedure). snapshot && has_writes q ≡ false) there may in
    subst (λ (q : Option Procedure). is_taken q (record { proc_no = n; args = args; snapshot = snapshot }) ≡ true) (sym there) (rw (counted, reads))

asked_fits : (procs : Procedures) (asked : Asked) (r : Request) → request_of procs asked ≡ Some r → r.call.snapshot && has_writes (procedure_at procs.procs r.call.proc_no) ≡ false
    → Fits procs r.call
asked_fits procs asked r h may =
    let found = found_in _ (find_named procs asked.call) r h in
    let made = mapped_in _ (fitting_args (length found.0.1.params) asked.args) r found.2 in
    let there = (procedure_named procs asked.call found.0 found.1).0 in
    let many = fitting_length (length found.0.1.params) asked.args made.0 made.1 in
    subst (λ (q : Request). q.call.snapshot && has_writes (procedure_at procs.procs q.call.proc_no) ≡ false → Fits procs q.call) made.2
    (λ reads. taken found.0.1 (procedure_at procs.procs found.0.0) found.0.0 made.0 asked.snapshot there many reads) may

-- what a JSON value asks for fits, where it isn't forbidden
pub request_fits : (procs : Procedures) (value : Option Data) (r : Request) → request_in procs value ≡ Some r → r.call.snapshot && has_writes (procedure_at procs.procs r.call.proc_no) ≡ false → Fits procs r.call
request_fits procs value r h may = let asked = found_in (request_of procs) (asked_in value) r h in asked_fits procs asked.0 r asked.2 may

pub line_fits : (procs : Procedures) (line : List ℕ) (r : Request) → request_on procs line ≡ Some r → is_forbidden procs (Some r) ≡ false → Fits procs r.call
unfolding request_on
line_fits procs line r h may = request_fits procs (json_of line) r h may
