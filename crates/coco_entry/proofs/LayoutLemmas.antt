-- The entry of a layout reads back.
use Rattle.std.proofs.Common.{◌≡◌, ℕ, zero, suc, ◌+◌, ◌^◌, ◌<◌, ◌≤◌, Bool, true, false, not, leb, ◌&&◌, List, [], ◌∷◌, ◌++◌, length, Option, Some, None, Ok, refl, sym, ap, subst, arith}
use Rattle.std.specs.List.{flat_map}
use Rattle.std.proofs.lemmas.Bool.{leb-true, le-leb, and_from}
use Rattle.std.proofs.lemmas.List.Concat.{flat_map-cons}
use Rattle.coco_bytes.specs.declared.fault.FieldFault.{FieldFault}
use Rattle.coco_bytes.specs.Fields.{Stands, AreBytes, u8_bytes, u16_bytes, u32_bytes, u64_bytes}
use Rattle.coco_bytes.specs.Reads.{◌>>=◌, Agree, u8_at, u16_at, u32_at, u64_at}
use Rattle.coco_bytes.proofs.FieldLemmas.{bind_then, ok_then, Stands-nil, Stands-then, Stands-first, Stands-second}
use Rattle.coco_bytes.proofs.NumberLemmas.{u8_agrees, u16_agrees, u32_agrees, u64_agrees}
use Rattle.coco_entry.specs.declared.layout.Layout.{Layout}
use Rattle.coco_entry.specs.declared.layout.LayoutEntry.{LayoutEntry}
use Rattle.coco_entry.specs.declared.layout.Sizes.{Sizes}
use Rattle.coco_entry.specs.Grammar.{Reader, then_by, ◌▸◌, bytes32, bytes32_at}
use Rattle.coco_entry.specs.Layouts.{is_named, IsNew, AreNew, file_at, files_at, named_by, sizes_bytes, fields_bytes, HasFields, sizes_at, fields_of, layout_fields_at, version_of, keep_number, keep_of, later_bytes, HasLater, later_at, IsLayout, version_at, layout_at}
use Rattle.coco_entry.proofs.GrammarLemmas.{both_true, agree_so, then_agrees, pair_agrees, made_agrees, tested_agrees, bytes32_agrees}

-- ---- files

not_true : (b : Bool) → not b ≡ true → b ≡ false
not_true true e = absurd cc
not_true false e = refl

file_agrees : (named : List ℕ) → Agree (file_at named) u32_bytes (IsNew named)
unfolding file_at
file_agrees named =
    tested_agrees (λ file. not (is_named named file)) (λ file. is_named named file ≡ false) u32_at u32_bytes (λ n. n < 2 ^ 32) u32_agrees
    (λ file e. not_true (is_named named file) e) (λ file e. ap not e)

files_found : (named : List ℕ) (n : ℕ) (from : List ℕ) (at : ℕ) (p : List ℕ × ℕ) → AreBytes from → files_at named n from at ≡ Ok p → ((length p.0 ≡ n) × AreNew named p.0) × Stands from at (flat_map u32_bytes p.0) p.1
unfolding files_at
files_found named zero from at p fits e =
    ok_then FieldFault (λ (q : List ℕ × ℕ). ((length q.0 ≡ 0) × AreNew named q.0) × Stands from at (flat_map u32_bytes q.0) q.1) ([], at) p e ((refl, tt), Stands-nil from at)
files_found named (suc n) from at p fits e =
    bind_then (file_at named from at) (λ (file : ℕ × ℕ). files_at (named ++ file.0 ∷ []) n from file.1 >>= λ (files : List ℕ × ℕ). Ok (file.0 ∷ files.0, files.1)) p e (λ file one next.
    bind_then (files_at (named ++ file.0 ∷ []) n from file.1) (λ (files : List ℕ × ℕ). Ok (file.0 ∷ files.0, files.1)) p next (λ files more ok.
    let a = (file_agrees named).found from at file.0 file.1 fits one in
    let b = files_found (named ++ file.0 ∷ []) n from file.1 files fits more in
    ok_then FieldFault (λ (q : List ℕ × ℕ). ((length q.0 ≡ suc n) × AreNew named q.0) × Stands from at (flat_map u32_bytes q.0) q.1) (file.0 ∷ files.0, files.1) p ok
    ((ap suc b.0.0, (a.0, b.0.1)), rw flat_map-cons (Stands-then from at (u32_bytes file.0) file.1 (flat_map u32_bytes files.0) files.1 a.1 b.1))))

files_again : (named : List ℕ) (from : List ℕ) (at : ℕ) (xs : List ℕ) (end : ℕ) → AreNew named xs → Stands from at (flat_map u32_bytes xs) end → files_at named (length xs) from at ≡ Ok (xs, end)
unfolding files_at
files_again named from at [] end fits p = let here : at ≡ end = omega (arith, p.ends) in rw here refl
files_again named from at (x ∷ xs) end fits p =
    let q : Stands from at (u32_bytes x ++ flat_map u32_bytes xs) end = rw flat_map-cons at p in
    let one = (file_agrees named).again from at x (at + length (u32_bytes x)) fits.0 (Stands-first from at (u32_bytes x) (flat_map u32_bytes xs) end q) in
    let more = files_again (named ++ x ∷ []) from (at + length (u32_bytes x)) xs end fits.1 (Stands-second from at (u32_bytes x) (flat_map u32_bytes xs) end q) in
    rw (one, more) refl

files_agree : (named : List ℕ) (n : ℕ) → Agree (files_at named n) (flat_map u32_bytes) (λ xs. (length xs ≡ n) × AreNew named xs)
files_agree named n = record {
  found = λ from at x end fits e. files_found named n from at (x, end) fits e;
  again = λ from at x end fits p. subst (λ (k : ℕ). files_at named k from at ≡ Ok (x, end)) fits.0 (files_again named from at x end fits.1 p);
}

-- ---- the fields of every version

AreSizes : Sizes → Type 0
AreSizes s = (s.nodes < 2 ^ 8) × ((s.partitions < 2 ^ 8) × ((s.copies < 2 ^ 8) × IsNew (0 ∷ []) s.chief_file))

abbrev bytes_of_sizes : Sizes → List ℕ
bytes_of_sizes s = sizes_bytes s.nodes s.partitions s.copies s.chief_file

sizes_agree : Agree sizes_at bytes_of_sizes AreSizes
unfolding sizes_at AreSizes
sizes_agree =
    let parts : Sizes → ℕ × (ℕ × (ℕ × ℕ)) = λ s. (s.nodes, (s.partitions, (s.copies, s.chief_file))) in
    let make : ℕ × (ℕ × (ℕ × ℕ)) → Sizes = λ s. record { nodes = s.0; partitions = s.1.0; copies = s.1.1.0; chief_file = s.1.1.1 } in
    made_agrees make parts (u8_at ▸ u8_at ▸ u8_at ▸ file_at (0 ∷ [])) (λ s. sizes_bytes s.0 s.1.0 s.1.1.0 s.1.1.1) (λ s. (s.0 < 2 ^ 8) × ((s.1.0 < 2 ^ 8) × ((s.1.1.0 < 2 ^ 8) × IsNew (0 ∷ []) s.1.1.1)))
    (pair_agrees u8_agrees (pair_agrees u8_agrees (pair_agrees u8_agrees (file_agrees (0 ∷ [])))))
    (λ s _. refl) (λ s _. refl)

abbrev Rest : Type 0
Rest = List ℕ × (ℕ × List ℕ)

IsRest : Sizes → Rest → Type 0
IsRest s r = ((length r.0 ≡ s.nodes) × AreNew (0 ∷ s.chief_file ∷ []) r.0) × ((r.1.0 < 2 ^ 64) × (length r.1.1 < 2 ^ 32))

abbrev rest_bytes : Rest → List ℕ
rest_bytes r = flat_map u32_bytes r.0 ++ (u64_bytes r.1.0 ++ bytes32 r.1.1)

abbrev rest_at : Sizes → Reader Rest
rest_at s = files_at (0 ∷ s.chief_file ∷ []) s.nodes ▸ u64_at ▸ bytes32_at

rest_agrees : (s : Sizes) → Agree (rest_at s) rest_bytes (IsRest s)
unfolding IsRest
rest_agrees s = pair_agrees (files_agree (0 ∷ s.chief_file ∷ []) s.nodes) (pair_agrees u64_agrees bytes32_agrees)

fields_agree : Agree layout_fields_at fields_bytes HasFields
unfolding layout_fields_at AreSizes IsRest
fields_agree =
    let parts : Layout → Sizes × Rest = λ l. (record { nodes = l.nodes; partitions = l.partitions; copies = l.copies; chief_file = l.chief_file }, (l.node_files, (l.base_epoch, l.text))) in
    agree_so (made_agrees fields_of parts (then_by sizes_at rest_at) (λ p. bytes_of_sizes p.0 ++ rest_bytes p.1) (λ p. AreSizes p.0 × IsRest p.0 p.1)
    (then_agrees sizes_at rest_at bytes_of_sizes (λ _. rest_bytes) AreSizes IsRest sizes_agree (λ s _. rest_agrees s))
    (λ l _. refl) (λ p _. refl))
    (λ _. refl)
    (λ l f. record { nodes = f.0.0; partitions = f.0.1.0; copies = f.0.1.1.0; chief = f.0.1.1.1; count = f.1.0.0; files = f.1.0.1; base_epoch = f.1.1.0; text = f.1.1.1 })
    (λ l f. ((f.nodes, (f.partitions, (f.copies, f.chief))), ((f.count, f.files), (f.base_epoch, f.text))))

-- ---- keep number and base file

keep_back : (n : ℕ) → keep_number (keep_of n) ≡ n
keep_back zero = refl
keep_back (suc n) = refl

abbrev Later : Type 0
Later = Option ℕ × Option ℕ

IsLater : List ℕ → ℕ → Later → Type 0
IsLater named version l = (version ≡ version_of l.0 l.1) × HasLater named l.0 l.1

later_found : (named : List ℕ) (version : ℕ) (from : List ℕ) (at : ℕ) (p : Later × ℕ) → AreBytes from → version ≤ 3 → later_at named version from at ≡ Ok p → IsLater named version p.0 × Stands from at (later_bytes p.0.0 p.0.1) p.1
unfolding later_at IsLater
later_found named zero from at p fits most e = absurd cc
later_found named (suc zero) from at p fits most e =
    ok_then FieldFault (λ (q : Later × ℕ). ((1 ≡ version_of q.0.0 q.0.1) × HasLater named q.0.0 q.0.1) × Stands from at (later_bytes q.0.0 q.0.1) q.1) ((None, None), at) p e ((refl, tt), Stands-nil from at)
later_found named (suc (suc zero)) from at p fits most e =
    bind_then (u16_at from at) (λ (keep : ℕ × ℕ). Ok ((Some keep.0, None), keep.1)) p e (λ keep read ok.
    let a = u16_agrees.found from at keep.0 keep.1 fits read in
    ok_then FieldFault (λ (q : Later × ℕ). ((2 ≡ version_of q.0.0 q.0.1) × HasLater named q.0.0 q.0.1) × Stands from at (later_bytes q.0.0 q.0.1) q.1) ((Some keep.0, None), keep.1) p ok ((refl, a.0), a.1))
later_found named (suc (suc (suc zero))) from at p fits most e =
    bind_then ((u16_at ▸ file_at named) from at) (λ (l : (ℕ × ℕ) × ℕ). Ok ((keep_of l.0.0, Some l.0.1), l.1)) p e (λ l read ok.
    let a = (pair_agrees u16_agrees (file_agrees named)).found from at l.0 l.1 fits read in
    let back = keep_back l.0.0 in
    ok_then FieldFault (λ (q : Later × ℕ). ((3 ≡ version_of q.0.0 q.0.1) × HasLater named q.0.0 q.0.1) × Stands from at (later_bytes q.0.0 q.0.1) q.1) ((keep_of l.0.0, Some l.0.1), l.1) p ok
    ((refl, (omega (arith, back, a.0.0), ap keep_of back, a.0.1)), subst (λ (k : ℕ). Stands from at (u16_bytes k ++ u32_bytes l.0.1) l.1) (sym back) a.1))
later_found named (suc (suc (suc (suc version)))) from at p fits most e = absurd (omega (arith, most))

later_again : (named : List ℕ) (version : ℕ) (from : List ℕ) (at : ℕ) (keep base : Option ℕ) (end : ℕ) → version ≡ version_of keep base → HasLater named keep base → Stands from at (later_bytes keep base) end → later_at named version from at ≡ Ok ((keep, base), end)
unfolding later_at
later_again named version from at None None end is fits p = let here : at ≡ end = omega (arith, p.ends) in rw (is, here) refl
later_again named version from at (Some keep) None end is fits p = rw (is, u16_agrees.again from at keep end fits p) refl
later_again named version from at None (Some file) end is fits p =
    let both = (pair_agrees u16_agrees (file_agrees named)).again from at (0, file) end (fits.0, fits.2) p in
    rw (is, both) refl
later_again named version from at (Some keep) (Some file) end is fits p =
    let both = (pair_agrees u16_agrees (file_agrees named)).again from at (keep, file) end (fits.0, fits.2) p in
    rw (is, both, fits.1) refl

later_agrees : (named : List ℕ) (version : ℕ) → version ≤ 3 → Agree (later_at named version) (λ l. later_bytes l.0 l.1) (IsLater named version)
unfolding IsLater
later_agrees named version most = record {
  found = λ from at l end fits e. later_found named version from at (l, end) fits most e;
  again = λ from at l end fits p. later_again named version from at l.0 l.1 end fits.0 fits.1 p;
}

-- ---- the entry

abbrev IsVersion : ℕ → Type 0
IsVersion version = (version < 2 ^ 8) × ((1 ≤ version) × (version ≤ 3))

version_agrees : Agree version_at u8_bytes IsVersion
unfolding version_at
version_agrees =
    tested_agrees (λ v. leb 1 v && leb v 3) (λ v. (1 ≤ v) × (v ≤ 3)) u8_at u8_bytes (λ n. n < 2 ^ 8) u8_agrees
    (λ v e. let p = both_true (leb 1 v) (leb v 3) e in (leb-true 1 v p.0, leb-true v 3 p.1))
    (λ v f. and_from (leb 1 v) (leb v 3) (le-leb 1 v f.0) (le-leb v 3 f.1))

version_fits : (keep base : Option ℕ) → IsVersion (version_of keep base)
version_fits keep (Some file) = (omega arith, (omega arith, omega arith))
version_fits (Some keep) None = (omega arith, (omega arith, omega arith))
version_fits None None = (omega arith, (omega arith, omega arith))

abbrev Parts : Type 0
Parts = ℕ × (Layout × Later)

parts_of : LayoutEntry → Parts
parts_of e = (version_of e.keep e.base_file, (e.layout, (e.keep, e.base_file)))

entry_of : Parts → LayoutEntry
entry_of p = record { layout = p.1.0; keep = p.1.1.0; base_file = p.1.1.1 }

AreParts : Parts → Type 0
AreParts p = IsVersion p.0 × (HasFields p.1.0 × IsLater (named_by p.1.0) p.0 p.1.1)

parts_back : (p : Parts) → AreParts p → parts_of (entry_of p) ≡ p
unfolding parts_of entry_of AreParts IsLater
parts_back p fits = ap (λ (v : ℕ). (v, p.1)) (sym fits.1.1.0)

pub layout_agrees : Agree layout_at (λ e. u8_bytes (version_of e.keep e.base_file) ++ (fields_bytes e.layout ++ later_bytes e.keep e.base_file)) IsLayout
unfolding layout_at parts_of entry_of AreParts IsLater
layout_agrees =
    let inner : ℕ → Reader (Layout × Later) = λ v. then_by layout_fields_at (λ l. later_at (named_by l) v) in
    agree_so (made_agrees entry_of parts_of (then_by version_at inner) (λ p. u8_bytes p.0 ++ (fields_bytes p.1.0 ++ later_bytes p.1.1.0 p.1.1.1)) AreParts
    (then_agrees version_at inner u8_bytes (λ _ q. fields_bytes q.0 ++ later_bytes q.1.0 q.1.1) IsVersion (λ v q. HasFields q.0 × IsLater (named_by q.0) v q.1) version_agrees
    (λ v is. then_agrees layout_fields_at (λ l. later_at (named_by l) v) fields_bytes (λ _ l. later_bytes l.0 l.1) HasFields (λ l q. IsLater (named_by l) v q) fields_agree (λ l _. later_agrees (named_by l) v is.1.1)))
    (λ e _. refl) parts_back)
    (λ _. refl) (λ e f. record { fields = f.1.0; later = f.1.1.1 }) (λ e f. (version_fits e.keep e.base_file, (f.fields, (refl, f.later))))
