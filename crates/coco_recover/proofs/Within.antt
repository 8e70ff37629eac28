-- Where bytes aren't an entry, the place that is told is one of theirs, or their end.
use Rattle.std.proofs.Common.{◌≡◌, ℕ, zero, suc, ◌+◌, ◌-◌, ◌≤◌, ◌^◌, Bool, true, false, cond, ltb, eqb, List, [], ◌∷◌, length, drop, ◌++◌, get_or, Option, Some, None, Result, Ok, Err, refl, sym, subst, ap, ◌∙◌, arith}
use Rattle.std.specs.Prelude.{slice_range}
use Rattle.std.specs.Int.{Width, w16, w32, w64, byte_len, from_be_bytes, cast_signed}
use Rattle.std.specs.Option.{option_map}
use Rattle.std.specs.Str.{is_utf8}
use Rattle.std.proofs.lemmas.Bool.{ltb-true, ltb-false}
use Rattle.coco_types.specs.Limits.{most_text_bytes}
use Rattle.coco_types.specs.RowKey.{RowKey}
use Rattle.coco_types.specs.declared.call.Cause.TheVariants.{User}
use Rattle.coco_types.specs.declared.call.Reply.TheVariants as reply
use Rattle.coco_types.specs.declared.value.Value.{Value}
use Rattle.coco_types.specs.declared.value.Value.TheVariants.{Int, Text}
use Rattle.coco_bytes.specs.declared.fault.FieldFault.{FieldFault}
use Rattle.coco_bytes.specs.declared.fault.FieldFault.TheVariants.{Short, Bad}
use Rattle.coco_bytes.specs.Lists.{items_at, last_item}
use Rattle.coco_bytes.specs.Reads.{◌>>=◌, Read, bytes16_at, fault_place, flag_at, i64_at, number_at, text16_at, u16_at, u32_at, u64_at, u8_at}
use Rattle.coco_bytes.specs.Values.{key_at, text_at, value_at, value_of_kind}
use Rattle.coco_entry.specs.Bases.{base_done_at, base_dones_at, base_dones_in, base_row_at, base_rows_at, base_rows_in, floor_at, floor_number_at, head_at, head_in, items_count_at, present, present_at, stamp_of, stamp_rises, stamped, stamped_at}
use Rattle.coco_entry.specs.Calls.{args_at, args_count_at, call_at, cause_at, cause_of_kind, done_at, reply_at, reply_of_kind, timed_at}
use Rattle.coco_entry.specs.Commits.{commit_at, commit_in}
use Rattle.coco_entry.specs.Grammar.{IsFaultAt, Reader, bytes32_at, listed, made, tag_at, tagged, tested, then_by, whole, ◌▸◌}
use Rattle.coco_entry.specs.Layouts.{file_at, files_at, later_at, layout_at, layout_fields_at, layout_in, named_by, sizes_at, version_at}
use Rattle.coco_entry.specs.Rows.{key_rises, prepared_at, prepared_in, rising_key_at, row_at}
use Rattle.coco_store.specs.Entries.{BaseEntry, Dones, Head, Values}
use Rattle.coco_store.specs.Refusals.{at_tag, base_behind, base_in, mapped, may_stand}

-- ---- a field

-- it ends within the bytes, or fails there
abbrev pub EndsWithin : {A : Type 0} → List ℕ → Read A → Type 0
EndsWithin from (Ok x) = x.1 ≤ length from
EndsWithin from (Err fault) = fault_place fault ≤ length from

-- so does each that begins within them
pub record Stays {A : Type 0} (read : Reader A) : Type 0 where
  pub within : (from : List ℕ) (at : ℕ) → at ≤ length from → EndsWithin from (read from at)

bind_within : {A B : Type 0} (from : List ℕ) (r : Read A) (f : A × ℕ → Read B) → EndsWithin from r → ((a : A × ℕ) → a.1 ≤ length from → EndsWithin from (f a)) → EndsWithin from (r >>= f)
bind_within from (Ok x) f here next = next x here
bind_within from (Err fault) f here next = here

if_within : {A : Type 0} (from : List ℕ) (b : Bool) (x y : Read A) → (b ≡ true → EndsWithin from x) → (b ≡ false → EndsWithin from y) → EndsWithin from (cond b x y)
if_within from true x y passed failed = passed refl
if_within from false x y passed failed = failed refl

-- ---- what is made of fields

then_within : {A B : Type 0} {first : Reader A} {second : A → Reader B} → Stays first → ((a : A) → Stays (second a)) → Stays (then_by first second)
then_within {A} {B} {first} {second} one two = record {
  within = λ from at h. bind_within from (first from at) (λ (a : A × ℕ). second a.0 from a.1 >>= λ (b : B × ℕ). Ok ((a.0, b.0), b.1)) (one.within from at h)
      (λ a ha. bind_within from (second a.0 from a.1) (λ (b : B × ℕ). Ok ((a.0, b.0), b.1)) ((two a.0).within from a.1 ha) (λ b hb. hb));
}

pair_within : {A B : Type 0} {first : Reader A} {second : Reader B} → Stays first → Stays second → Stays (first ▸ second)
pair_within one two = then_within one (λ _. two)

made_within : {A B : Type 0} (make : A → B) {read : Reader A} → Stays read → Stays (made make read)
made_within {A} {B} make {read} stays = record {
  within = λ from at h. bind_within from (read from at) (λ (a : A × ℕ). Ok (make a.0, a.1)) (stays.within from at h) (λ a ha. ha);
}

tested_within : {A : Type 0} (passes : A → Bool) {read : Reader A} → Stays read → Stays (tested passes read)
tested_within {A} passes {read} stays = record {
  within = λ from at h. bind_within from (read from at) (λ (a : A × ℕ). cond (passes a.0) (Ok a) (Err (Bad at))) (stays.within from at h)
      (λ a ha. if_within from (passes a.0) (Ok a) (Err (Bad at)) (λ _. ha) (λ _. h));
}

items_within : {A : Type 0} {item : Option A → Reader A} → ((before : Option A) → Stays (item before)) → (before : Option A) (n : ℕ) → Stays (items_at item before n)
unfolding items_at
items_within stays before zero = record { within = λ from at h. h }
items_within {A} {item} stays before (suc n) = record {
  within = λ from at h. bind_within from (item before from at) (λ (first : A × ℕ). items_at item (Some first.0) n from first.1 >>= λ (others : List A × ℕ). Ok (first.0 ∷ others.0, others.1)) ((stays before).within from at h)
      (λ first hf. bind_within from (items_at item (Some first.0) n from first.1) (λ (others : List A × ℕ). Ok (first.0 ∷ others.0, others.1)) ((items_within stays (Some first.0) n).within from first.1 hf) (λ others ho. ho));
}

listed_within : {A : Type 0} {count : Reader ℕ} {item : Option A → Reader A} → Stays count → ((before : Option A) → Stays (item before)) → Stays (listed count item)
listed_within {A} {count} {item} counts stays = record {
  within = λ from at h. bind_within from (count from at) (λ (n : ℕ × ℕ). items_at item None n.0 from n.1) (counts.within from at h) (λ n hn. (items_within stays None n.0).within from n.1 hn);
}

-- ---- numbers and bytes

u8_within : Stays u8_at
unfolding u8_at
u8_within = record {
  within = λ from at h. if_within from (ltb at (length from)) (Ok (get_or from at 0, at + 1)) (Err (Short at)) (λ less. let l = ltb-true at (length from) less in omega (arith, l)) (λ _. h);
}

flag_within : Stays flag_at
unfolding flag_at
flag_within = record {
  within = λ from at h. bind_within from (u8_at from at) (λ (flag : ℕ × ℕ). cond (ltb flag.0 2) (Ok (eqb flag.0 1, flag.1)) (Err (Bad at))) (u8_within.within from at h)
      (λ flag hf. if_within from (ltb flag.0 2) (Ok (eqb flag.0 1, flag.1)) (Err (Bad at)) (λ _. hf) (λ _. h));
}

number_within : (w : Width) → Stays (number_at w)
unfolding number_at
number_within w = record {
  within = λ from at h. if_within from (ltb (length from) (at + byte_len w)) (Err (Short at)) (Ok (from_be_bytes w (drop at from), at + byte_len w)) (λ _. h) (λ fits. ltb-false (length from) (at + byte_len w) fits);
}

u16_within : Stays u16_at
u16_within = record { within = (number_within w16).within }

u32_within : Stays u32_at
u32_within = record { within = (number_within w32).within }

u64_within : Stays u64_at
u64_within = record { within = (number_within w64).within }

i64_within : Stays i64_at
unfolding i64_at
i64_within = record {
  within = λ from at h. bind_within from (u64_at from at) (λ (n : ℕ × ℕ). Ok (cast_signed w64 n.0, n.1)) (u64_within.within from at h) (λ n hn. hn);
}

bytes16_within : (most : ℕ) → Stays (bytes16_at most)
unfolding bytes16_at
bytes16_within most = record {
  within = λ from at h. bind_within from (u16_at from at) (λ (n : ℕ × ℕ). cond (ltb most n.0) (Err (Bad at)) (cond (ltb (length from - n.1) n.0) (Err (Short at)) (Ok (n.1, n.1 + n.0)))) (u16_within.within from at h)
      (λ n hn. if_within from (ltb most n.0) (Err (Bad at)) (cond (ltb (length from - n.1) n.0) (Err (Short at)) (Ok (n.1, n.1 + n.0))) (λ _. h)
      (λ _. if_within from (ltb (length from - n.1) n.0) (Err (Short at)) (Ok (n.1, n.1 + n.0)) (λ _. h) (λ fits. let f = ltb-false (length from - n.1) n.0 fits in omega (arith, f))));
}

text16_within : (most : ℕ) → Stays (text16_at most)
unfolding text16_at
text16_within most = record {
  within = λ from at h. bind_within from (bytes16_at most from at) (λ (r : ℕ × ℕ). Ok (slice_range from r.0 r.1, r.1)) ((bytes16_within most).within from at h) (λ r hr. hr);
}

bytes32_within : Stays bytes32_at
unfolding bytes32_at
bytes32_within = record {
  within = λ from at h. bind_within from (u32_at from at) (λ (n : ℕ × ℕ). cond (ltb (length from - n.1) n.0) (Err (Short at)) (Ok (slice_range from n.1 (n.1 + n.0), n.1 + n.0))) (u32_within.within from at h)
      (λ n hn. if_within from (ltb (length from - n.1) n.0) (Err (Short at)) (Ok (slice_range from n.1 (n.1 + n.0), n.1 + n.0)) (λ _. h) (λ fits. let f = ltb-false (length from - n.1) n.0 fits in omega (arith, f)));
}

-- ---- keys and values

key_within : Stays key_at
unfolding key_at
key_within = record {
  within = λ from at h. bind_within from (u16_at from at) (λ (table : ℕ × ℕ). u64_at from table.1 >>= λ (row : ℕ × ℕ). cond (ltb row.0 (2 ^ 63)) (Ok (record { table = table.0; row = row.0 }, row.1)) (Err (Bad table.1))) (u16_within.within from at h)
      (λ table ht. bind_within from (u64_at from table.1) (λ (row : ℕ × ℕ). cond (ltb row.0 (2 ^ 63)) (Ok (record { table = table.0; row = row.0 }, row.1)) (Err (Bad table.1))) (u64_within.within from table.1 ht)
      (λ row hr. if_within from (ltb row.0 (2 ^ 63)) (Ok (record { table = table.0; row = row.0 }, row.1)) (Err (Bad table.1)) (λ _. hr) (λ _. ht)));
}

text_within : Stays text_at
unfolding text_at
text_within = record {
  within = λ from at h. bind_within from (text16_at most_text_bytes from at) (λ (text : List ℕ × ℕ). cond (is_utf8 text.0) (Ok text) (Err (Bad at))) ((text16_within most_text_bytes).within from at h)
      (λ text ht. if_within from (is_utf8 text.0) (Ok text) (Err (Bad at)) (λ _. ht) (λ _. h));
}

value_kind_within : (kind : ℕ) (from : List ℕ) (at next : ℕ) → at ≤ length from → next ≤ length from → EndsWithin from (value_of_kind kind from at next)
unfolding value_of_kind
value_kind_within zero from at next h hn = hn
value_kind_within (suc zero) from at next h hn = bind_within from (i64_at from next) (λ n. Ok (Some (Int n.0), n.1)) (i64_within.within from next hn) (λ n w. w)
value_kind_within (suc (suc zero)) from at next h hn = bind_within from (text_at from next) (λ text. Ok (Some (Text text.0), text.1)) (text_within.within from next hn) (λ text w. w)
value_kind_within (suc (suc (suc kind))) from at next h hn = h

value_within : Stays value_at
unfolding value_at
value_within = record {
  within = λ from at h. bind_within from (u8_at from at) (λ (kind : ℕ × ℕ). value_of_kind kind.0 from at kind.1) (u8_within.within from at h) (λ kind hk. value_kind_within kind.0 from at kind.1 h hk);
}

-- ---- layouts

file_within : (named : List ℕ) → Stays (file_at named)
unfolding file_at
file_within named = tested_within _ u32_within

files_within : (n : ℕ) (named : List ℕ) → Stays (files_at named n)
unfolding files_at
files_within zero named = record { within = λ from at h. h }
files_within (suc n) named = record {
  within = λ from at h. bind_within from (file_at named from at) (λ (file : ℕ × ℕ). files_at (named ++ file.0 ∷ []) n from file.1 >>= λ (files : List ℕ × ℕ). Ok (file.0 ∷ files.0, files.1)) ((file_within named).within from at h)
      (λ file hf. bind_within from (files_at (named ++ file.0 ∷ []) n from file.1) (λ (files : List ℕ × ℕ). Ok (file.0 ∷ files.0, files.1)) ((files_within n (named ++ file.0 ∷ [])).within from file.1 hf) (λ files w. w));
}

sizes_within : Stays sizes_at
unfolding sizes_at
sizes_within = made_within _ (pair_within u8_within (pair_within u8_within (pair_within u8_within (file_within (0 ∷ [])))))

fields_within : Stays layout_fields_at
unfolding layout_fields_at
fields_within = made_within _ (then_within sizes_within (λ s. pair_within (files_within s.nodes (0 ∷ s.chief_file ∷ [])) (pair_within u64_within bytes32_within)))

later_within : (named : List ℕ) (version : ℕ) → Stays (later_at named version)
unfolding later_at
later_within named zero = record { within = λ from at h. h }
later_within named (suc zero) = record { within = λ from at h. h }
later_within named (suc (suc zero)) = record { within = (made_within (λ (keep : ℕ). (Some keep, None)) u16_within).within }
later_within named (suc (suc (suc version))) = record { within = (made_within _ (pair_within u16_within (file_within named))).within }

version_within : Stays version_at
unfolding version_at
version_within = tested_within _ u8_within

layout_within : Stays layout_at
unfolding layout_at
layout_within = made_within _ (then_within version_within (λ version. then_within fields_within (λ layout. later_within (named_by layout) version)))

-- ---- calls and Dones

args_within : Stays args_at
unfolding args_at args_count_at
args_within = listed_within (tested_within _ u8_within) (λ _. value_within)

call_within : Stays call_at
unfolding call_at
call_within = made_within _ (pair_within u16_within (pair_within flag_within args_within))

cause_kind_within : (kind at : ℕ) (from : List ℕ) (next : ℕ) → at ≤ length from → next ≤ length from → EndsWithin from (cause_of_kind kind at from next)
unfolding cause_of_kind
cause_kind_within zero at from next h hn = h
cause_kind_within (suc zero) at from next h hn = (made_within User u16_within).within from next hn
cause_kind_within (suc (suc zero)) at from next h hn = hn
cause_kind_within (suc (suc (suc zero))) at from next h hn = hn
cause_kind_within (suc (suc (suc (suc zero)))) at from next h hn = hn
cause_kind_within (suc (suc (suc (suc (suc zero))))) at from next h hn = hn
cause_kind_within (suc (suc (suc (suc (suc (suc kind)))))) at from next h hn = h

cause_within : Stays cause_at
unfolding cause_at
cause_within = record {
  within = λ from at h. bind_within from (u8_at from at) (λ (kind : ℕ × ℕ). cause_of_kind kind.0 at from kind.1) (u8_within.within from at h) (λ kind hk. cause_kind_within kind.0 at from kind.1 h hk);
}

reply_kind_within : (kind at : ℕ) (from : List ℕ) (next : ℕ) → at ≤ length from → next ≤ length from → EndsWithin from (reply_of_kind kind at from next)
unfolding reply_of_kind
reply_kind_within zero at from next h hn = (made_within reply.Ok value_within).within from next hn
reply_kind_within (suc zero) at from next h hn = (made_within reply.Refused cause_within).within from next hn
reply_kind_within (suc (suc kind)) at from next h hn = h

reply_within : Stays reply_at
unfolding reply_at
reply_within = record {
  within = λ from at h. bind_within from (u8_at from at) (λ (kind : ℕ × ℕ). reply_of_kind kind.0 at from kind.1) (u8_within.within from at h) (λ kind hk. reply_kind_within kind.0 at from kind.1 h hk);
}

timed_within : Stays timed_at
unfolding timed_at
timed_within = made_within _ (pair_within u64_within (pair_within call_within u64_within))

done_within : (epoch : ℕ) → Stays (done_at epoch)
unfolding done_at
done_within epoch = made_within _ (pair_within timed_within reply_within)

-- ---- commits and rows

commit_within : Stays commit_at
unfolding commit_at
commit_within = made_within _ (then_within u64_within (λ epoch. listed_within u32_within (λ _. done_within epoch)))

rising_key_within : (before : Option RowKey) → Stays (rising_key_at before)
unfolding rising_key_at
rising_key_within before = tested_within (key_rises before) key_within

row_within : (before : Option RowKey) → Stays (row_at before)
unfolding row_at
row_within before = made_within _ (pair_within (rising_key_within before) (pair_within u64_within value_within))

prepared_within : Stays prepared_at
unfolding prepared_at
prepared_within = made_within _ (pair_within u64_within (listed_within u32_within (λ before. row_within (option_map (λ r. r.key) before))))

-- ---- bases

floor_within : Stays floor_at
unfolding floor_at floor_number_at
floor_within = made_within _ (then_within flag_within (λ is. tested_within _ u64_within))

head_within : Stays head_at
unfolding head_at
head_within = made_within _ (pair_within u64_within (pair_within floor_within (pair_within u64_within u64_within)))

count_within : Stays items_count_at
unfolding items_count_at
count_within = tested_within _ u32_within

base_done_within : (before : Option _) → Stays (base_done_at before)
unfolding base_done_at stamped_at
base_done_within before = made_within _ (pair_within (tested_within (λ s. stamp_rises before (stamped s)) (pair_within u64_within timed_within)) reply_within)

base_dones_within : Stays base_dones_at
unfolding base_dones_at
base_dones_within = listed_within count_within (λ before. base_done_within (option_map stamp_of before))

present_of : (from : List ℕ) (at : ℕ) (value : Option Value × ℕ) → at ≤ length from → value.1 ≤ length from → EndsWithin from (present at value)
unfolding present
present_of from at (None, end) h he = h
present_of from at (Some value, end) h he = he

present_within : Stays present_at
unfolding present_at
present_within = record {
  within = λ from at h. bind_within from (value_at from at) (present at) (value_within.within from at h) (λ value hv. present_of from at value h hv);
}

base_row_within : (before : Option RowKey) → Stays (base_row_at before)
unfolding base_row_at
base_row_within before = pair_within (rising_key_within before) present_within

base_rows_within : Stays base_rows_at
unfolding base_rows_at
base_rows_within = listed_within count_within (λ before. base_row_within (option_map (λ r. r.0) before))

-- ---- bodies

-- where the reading fails, it fails within the bytes
abbrev FailsWithin : {A : Type 0} → List ℕ → Result A FieldFault → Type 0
FailsWithin from (Ok x) = Unit {0}
FailsWithin from (Err fault) = fault_place fault ≤ length from

bind_fails : {A B : Type 0} (from : List ℕ) (r : Read A) (f : A × ℕ → Result B FieldFault) → EndsWithin from r → ((a : A × ℕ) → a.1 ≤ length from → FailsWithin from (f a)) → FailsWithin from (r >>= f)
bind_fails from (Ok x) f here next = next x here
bind_fails from (Err fault) f here next = here

whole_fails : {A : Type 0} (from : List ℕ) (read : A × ℕ) → read.1 ≤ length from → FailsWithin from (whole from read)
unfolding whole
whole_fails {A} from read h = either (eqb (length from) read.1)
  where
    either : (b : Bool) → FailsWithin {A = A} from (cond b (Ok read.0) (Err (Bad read.1)))
    either true = tt
    either false = h

tag_within : (tag : ℕ) → Stays (tag_at tag)
unfolding tag_at
tag_within tag = tested_within _ u8_within

tagged_fails : {A : Type 0} (tag : ℕ) {fields : Reader A} → Stays fields → (body : List ℕ) → FailsWithin body (tagged tag fields body)
unfolding tagged
tagged_fails {A} tag {fields} stays body =
    bind_fails body (tag_at tag body 0) (λ (t : ℕ × ℕ). fields body t.1 >>= λ (entry : A × ℕ). whole body entry) ((tag_within tag).within body 0 (omega arith))
    (λ t ht. bind_fails body (fields body t.1) (λ (entry : A × ℕ). whole body entry) (stays.within body t.1 ht) (λ entry he. whole_fails body entry he))

mapped_fails : {A B : Type 0} (f : A → B) (body : List ℕ) (r : Result A FieldFault) → FailsWithin body r → FailsWithin body (mapped f r)
mapped_fails f body (Ok x) h = tt
mapped_fails f body (Err fault) h = h

fault_within : {A : Type 0} (body : List ℕ) (at : ℕ) (r : Result A FieldFault) → FailsWithin body r → IsFaultAt at r → at ≤ length body
fault_within {A} body at r fails fault =
    let there : fault_place fault.0 ≤ length body = subst (FailsWithin {A = A} body) fault.1 fails in
    subst (λ (n : ℕ). n ≤ length body) (sym fault.2) there

pub layout_fault : (body : List ℕ) (at : ℕ) → IsFaultAt at (layout_in body) → at ≤ length body
layout_fault body at fault = fault_within body at (layout_in body) (tagged_fails 1 layout_within body) fault

pub commit_fault : (body : List ℕ) (at : ℕ) → IsFaultAt at (commit_in body) → at ≤ length body
commit_fault body at fault = fault_within body at (commit_in body) (tagged_fails 2 commit_within body) fault

pub prepared_fault : (body : List ℕ) (at : ℕ) → IsFaultAt at (prepared_in body) → at ≤ length body
prepared_fault body at fault = fault_within body at (prepared_in body) (tagged_fails 3 prepared_within body) fault

base_fails : (body : List ℕ) → FailsWithin body (base_in body)
base_fails body = either (eqb (get_or body 0 0) 5) (eqb (get_or body 0 0) 6)
  where
    either : (is_dones is_rows : Bool) → FailsWithin body (cond is_dones (mapped Dones (base_dones_in body)) (cond is_rows (mapped Values (base_rows_in body)) (mapped Head (head_in body))))
    either true is_rows = mapped_fails Dones body (base_dones_in body) (tagged_fails 5 base_dones_within body)
    either false true = mapped_fails Values body (base_rows_in body) (tagged_fails 6 base_rows_within body)
    either false false = mapped_fails Head body (head_in body) (tagged_fails 4 head_within body)

at_tag_fails : (body : List ℕ) (r : Result BaseEntry FieldFault) (may : Bool) → FailsWithin body r → FailsWithin body (at_tag r may)
at_tag_fails body (Ok e) may h = tt
at_tag_fails body (Err fault) true h = h
at_tag_fails body (Err fault) false h = omega arith

pub base_fault : (before : List BaseEntry) (body : List ℕ) (at : ℕ) → IsFaultAt at (base_behind before body) → at ≤ length body
base_fault before body at fault =
    fault_within body at (base_behind before body) (at_tag_fails body (base_in body) (may_stand (last_item before) (get_or body 0 0)) (base_fails body)) fault

-- a body that is no entry is bad at its tag, where that may not stand there
pub tag_bad : (before : List BaseEntry) (body : List ℕ) (at : ℕ) → may_stand (last_item before) (get_or body 0 0) ≡ false → IsFaultAt at (base_in body) → IsFaultAt 0 (base_behind before body)
tag_bad before body at may fault = (Bad 0, ap (at_tag (base_in body)) may ∙ ap (λ (r : Result BaseEntry FieldFault). at_tag r false) fault.1, refl)
