-- What a member of a plain line adds to its parts, and what they ask for in the end.
use Rattle.std.proofs.Common.{◌≡◌, ℕ, ◌&&◌, Bool, true, false, true≢false, nat_eq, List, length, Option, Some, IfSome, Ordering, Less, Equal, Greater, nat_cmp, Bor, refl, sym, ap, subst, ◌∙◌, codes}
use Rattle.std.specs.Option.{option_map, option_and_then}
use Rattle.std.specs.Ordering.{match_ordering}
use Rattle.std.specs.Str.{bytes_eq}
use Rattle.std.specs.Cmp.Lexicographic.{slice_cmp}
use Rattle.std.proofs.lemmas.Bool.{eq-eqb}
use Rattle.std.proofs.lemmas.Slice.Eq.{bytes_eq-Decides}
use Rattle.serde_json.specs.Data.{Data, unsigned, number, string, boolean, array, object, Items, Members, no_members, member, put}
use Rattle.serde_json.specs.Events.{items_len}
use Rattle.serde_json.specs.Find.{get_member, as_array, as_number, as_str, as_u64}
use Rattle.serde_json.proofs.Views.{get_member-put, get_member-put_other}
use Rattle.coco_types.specs.declared.value.Value.{Value}
use Rattle.coco_ast.specs.Tree.{Procedures}
use Rattle.coco_lines.specs.Reading.{is_member, only_members, snapshot_of, args_of, fitting_args, find_named, request_in}
use Rattle.coco_lines.specs.Plain.{args_in, u64_in, Holds}
use Rattle.coco_lines.specs.declared.plain.Parts.{Parts}
use Rattle.coco_lines.proofs.ReadingLemmas.{asked_of-all, asks_for, known}
use Rattle.coco_lines.proofs.FitLemmas.{args_length, found_in}

-- ---- a member of a request, put into the object

joined : (a b : Bool) → a ≡ true → b ≡ true → a && b ≡ true
joined true b is also = also
joined false b is also = absurd (true≢false (sym is))

halves : (a b : Bool) → a && b ≡ true → (a ≡ true) × (b ≡ true)
halves true b is = (refl, is)
halves false b is = absurd (true≢false (sym is))

only-put_at : (o : Ordering) (k l : List ℕ) (d e : Data) (ms : Members) → is_member k ≡ true → only_members (member l e ms) ≡ true → only_members (put k d ms) ≡ true
    → only_members (match_ordering o (member k d (member l e ms)) (member l d ms) (member l e (put k d ms))) ≡ true
only-put_at Less k l d e ms is only later = joined (is_member k) (only_members (member l e ms)) is only
only-put_at Equal k l d e ms is only later = only
only-put_at Greater k l d e ms is only later = joined (is_member l) (only_members (put k d ms)) (halves (is_member l) (only_members ms) only).0 later

only-put : (k : List ℕ) (d : Data) (ms : Members) → is_member k ≡ true → only_members ms ≡ true → only_members (put k d ms) ≡ true
only-put k d no_members is only = joined (is_member k) true is refl
only-put k d (member l e ms) is only = only-put_at (slice_cmp nat_cmp k l) k l d e ms is only (only-put k d ms is (halves (is_member l) (only_members ms) only).1)

apart : (q k : List ℕ) → bytes_eq q k ≡ false → q ≡ k → ⊥
apart q k differ same = true≢false (sym ((bytes_eq-Decides q k).1 same) ∙ differ)

kept : (q k : List ℕ) (d : Data) (ms : Members) → bytes_eq q k ≡ false → get_member q (put k d ms) ≡ get_member q ms
kept q k d ms differ = get_member-put_other q k d ms (apart q k differ)

-- ---- each part beside its member

module _ (p : Parts) (ms : Members) (h : Holds p ms) where
  pub with_args : (args : List (Option Value)) (count : ℕ) (items : Items) → args_of items ≡ Some args → length args ≡ count
      → Holds (record { args = Some args; count = count; call = p.call; id = p.id; snapshot = p.snapshot }) (put (codes "args") (array items) ms)
  with_args args count items is many = record {
    only = only-put (codes "args") (array items) ms refl h.only;
    args = ap (option_and_then args_in) (get_member-put (codes "args") (array items) ms) ∙ is;
    count = many;
    call = rw (kept (codes "call") (codes "args") (array items) ms refl) h.call;
    id = rw (kept (codes "id") (codes "args") (array items) ms refl) h.id;
    snapshot = rw (kept (codes "snapshot") (codes "args") (array items) ms refl) h.snapshot;
  }

  pub with_call : (call : Bor (List ℕ)) → Holds (record { args = p.args; count = p.count; call = Some call; id = p.id; snapshot = p.snapshot }) (put (codes "call") (string call.now) ms)
  with_call call = record {
    only = only-put (codes "call") (string call.now) ms refl h.only;
    args = rw (kept (codes "args") (codes "call") (string call.now) ms refl) h.args;
    count = h.count;
    call = ap (option_and_then as_str) (get_member-put (codes "call") (string call.now) ms);
    id = rw (kept (codes "id") (codes "call") (string call.now) ms refl) h.id;
    snapshot = rw (kept (codes "snapshot") (codes "call") (string call.now) ms refl) h.snapshot;
  }

  pub with_id : (id : ℕ) → Holds (record { args = p.args; count = p.count; call = p.call; id = Some id; snapshot = p.snapshot }) (put (codes "id") (number (unsigned id)) ms)
  with_id id = record {
    only = only-put (codes "id") (number (unsigned id)) ms refl h.only;
    args = rw (kept (codes "args") (codes "id") (number (unsigned id)) ms refl) h.args;
    count = h.count;
    call = rw (kept (codes "call") (codes "id") (number (unsigned id)) ms refl) h.call;
    id = ap (option_and_then u64_in) (get_member-put (codes "id") (number (unsigned id)) ms);
    snapshot = rw (kept (codes "snapshot") (codes "id") (number (unsigned id)) ms refl) h.snapshot;
  }

  pub with_snapshot : (b : Bool) → Holds (record { args = p.args; count = p.count; call = p.call; id = p.id; snapshot = b }) (put (codes "snapshot") (boolean b) ms)
  with_snapshot b = record {
    only = only-put (codes "snapshot") (boolean b) ms refl h.only;
    args = rw (kept (codes "args") (codes "snapshot") (boolean b) ms refl) h.args;
    count = h.count;
    call = rw (kept (codes "call") (codes "snapshot") (boolean b) ms refl) h.call;
    id = rw (kept (codes "id") (codes "snapshot") (boolean b) ms refl) h.id;
    snapshot = ap snapshot_of (get_member-put (codes "snapshot") (boolean b) ms);
  }

-- ---- the request of all parts

fitting : (params : ℕ) (items : Items) (args : List (Option Value)) → items_len items ≡ params → args_of items ≡ Some args → fitting_args params items ≡ Some args
fitting params items args many is =
    let counted : nat_eq (items_len items) params ≡ true = eq-eqb _ _ many in
    rw (counted, is)

part : {X : Type 0} (o : Option X) (x : X) (P : X → Type 0) → o ≡ Some x → IfSome o P → P x
part o x P is holds = let all : IfSome (Some x) P = subst (λ q. IfSome q P) is holds in all

module _ (p : Parts) (ms : Members) (args : List (Option Value)) (call : Bor (List ℕ)) (id : ℕ) (h : Holds p ms) (has_args : p.args ≡ Some args) (has_call : p.call ≡ Some call) (has_id : p.id ≡ Some id) where
  pub asks : (procs : Procedures) (proc_no params : ℕ) → Some proc_no ≡ option_map (λ f. f.0) (find_named procs call.now) → Some params ≡ option_map (λ f. length f.1.params) (find_named procs call.now)
      → p.count ≡ params → request_in procs (Some (object ms)) ≡ Some (record { id = id; call = record { proc_no = proc_no; args = args; snapshot = p.snapshot } })
  asks procs proc_no params numbered taking many =
      let arguments = found_in args_in (get_member (codes "args") ms) args (part p.args args _ has_args h.args) in
      let listed = found_in args_of (as_array arguments.0) args arguments.2 in
      let call_is = part p.call call (λ c. option_and_then as_str (get_member (codes "call") ms) ≡ Some c.now) has_call h.call in
      let id_is = found_in u64_in (get_member (codes "id") ms) id (part p.id id _ has_id h.id) in
      let f = known proc_no params (find_named procs call.now) numbered taking in
      let asked = asked_of-all (object ms) ms listed.0 call.now id p.snapshot refl (sym h.only)
      (ap (option_and_then as_array) arguments.1 ∙ listed.1) call_is (ap (λ o. option_and_then as_u64 (option_and_then as_number o)) id_is.1 ∙ id_is.2) h.snapshot in
      let counted : items_len listed.0 ≡ length f.0.1.params = sym (args_length listed.0 args listed.2) ∙ part p.args args _ has_args h.count ∙ many ∙ sym f.3 in
      asks_for procs (object ms) (record { args = listed.0; call = call.now; id = id; snapshot = p.snapshot }) f.0 args asked f.1 (fitting (length f.0.1.params) listed.0 args counted listed.2)
      ∙ ap (λ n. Some (record { id = id; call = record { proc_no = n; args = args; snapshot = p.snapshot } })) f.2
