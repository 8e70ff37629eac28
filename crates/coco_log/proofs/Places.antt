-- Where an entry of a log stands, and that reading there gives its body.
use Rattle.std.proofs.Common.{◌≡◌, inl, inr, ℕ, suc, ◌+◌, ◌-◌, ◌<◌, ◌≤◌, List, [], ◌∷◌, ◌++◌, length, get_or, take, drop, refl, sym, ◌∙◌, ap, subst, arith, append_assoc, length-append, take-append-drop, length-drop, min, Option, Some, IfSome}
use Rattle.std.proofs.lemmas.Bool.{cases_lt}
use Rattle.std.proofs.lemmas.List.{take_at, take_all, drop_at, drop_more, drop-drop, take_more, get_or_at, get_or_append_left}
use Rattle.std.proofs.lemmas.List.Concat.{flat_map-append}
use Rattle.std.specs.List.{flat_map}
use Rattle.coco_bytes.specs.Fields.{u32_bytes}
use Rattle.coco_host.specs.Files.{Files}
use Rattle.coco_log.specs.Grammar.{header, entry, IsLog}
use Rattle.coco_log.specs.LogState.{LogState, Holds, HasEntry, gates, places_from}
use Rattle.coco_log.proofs.Walks.{place_of}

-- there are as many places as entries
pub as_many : (at : ℕ) (bodies : List (List ℕ)) → length (places_from at bodies) ≡ length bodies
as_many at [] = refl
as_many at (b ∷ bodies) = ap suc (as_many (at + length (entry b)) bodies)

far_next : (bodies : List (List ℕ)) (n : ℕ) → n < length bodies → length (flat_map entry (take (n + 1) bodies)) ≡ length (flat_map entry (take n bodies)) + (5 + length (get_or bodies n []))
far_next bodies n lt =
    let more : take (n + 1) bodies ≡ take n bodies ++ get_or bodies n [] ∷ [] = take_more bodies n [] lt in
    ap (λ (l : List (List ℕ)). length (flat_map entry l)) more
    ∙ ap length (flat_map-append entry (take n bodies) (get_or bodies n [] ∷ []))
    ∙ omega (arith, length-append (flat_map entry (take n bodies)) (entry (get_or bodies n []) ++ []), length-append (entry (get_or bodies n [])) [], length-append (u32_bytes (length (get_or bodies n []))) (get_or bodies n []))

regroup : (h f e g z : List ℕ) → (h ++ (f ++ (e ++ g))) ++ z ≡ (h ++ f) ++ (e ++ (g ++ z))
regroup h f e g z = simp append_assoc

-- an entry stands behind those before it
entry_there : (kind n : ℕ) (bodies : List (List ℕ)) (file : List ℕ) → IsLog kind bodies file → n < length bodies
    → (more : List ℕ) × (drop (8 + length (flat_map entry (take n bodies))) file ≡ entry (get_or bodies n []) ++ more)
entry_there kind n bodies file log lt =
    let split : flat_map entry bodies ≡ flat_map entry (take n bodies) ++ (entry (get_or bodies n []) ++ flat_map entry (drop (n + 1) bodies)) =
    ap (λ (l : List (List ℕ)). flat_map entry l) (sym (take-append-drop n bodies)) ∙ flat_map-append entry (take n bodies) (drop n bodies)
    ∙ ap (λ (l : List (List ℕ)). flat_map entry (take n bodies) ++ flat_map entry l) (drop_more bodies n [] lt) in
    let more = flat_map entry (drop (n + 1) bodies) ++ log.gate ∷ log.behind in
    let whole : file ≡ (header kind ++ flat_map entry (take n bodies)) ++ (entry (get_or bodies n []) ++ (flat_map entry (drop (n + 1) bodies) ++ log.gate ∷ log.behind)) =
    log.is ∙ ap (λ (l : List ℕ). (header kind ++ l) ++ log.gate ∷ log.behind) split
    ∙ regroup (header kind) (flat_map entry (take n bodies)) (entry (get_or bodies n [])) (flat_map entry (drop (n + 1) bodies)) (log.gate ∷ log.behind) in (
      more,
      ap (λ (l : List ℕ). drop (8 + length (flat_map entry (take n bodies))) l) whole
          ∙ drop_at (header kind ++ flat_map entry (take n bodies)) (entry (get_or bodies n []) ++ more) (8 + length (flat_map entry (take n bodies))) (length-append (header kind) (flat_map entry (take n bodies))),
    )

-- the place of a gate, and that of the next one
gate_is : (log : LogState) (bodies : List (List ℕ)) (file : List ℕ) (n : ℕ) → Holds log bodies file → n < length log.places → get_or log.places n 0 ≡ 8 + length (flat_map entry (take n bodies))
gate_is log bodies file n holds lt =
    ap (λ (l : List ℕ). get_or l n 0) holds.places ∙ place_of 8 bodies n (omega (arith, lt, ap length holds.places, as_many 8 bodies))

next_is : (log : LogState) (bodies : List (List ℕ)) (file : List ℕ) (n : ℕ) → Holds log bodies file → n + 1 < length log.places → get_or log.places (n + 1) 0 ≡ 8 + length (flat_map entry (take n bodies)) + (5 + length (get_or bodies n []))
next_is log bodies file n holds lt =
    gate_is log bodies file (n + 1) holds lt ∙ omega (arith, far_next bodies n (omega (arith, lt, ap length holds.places, as_many 8 bodies)))

end_is : (log : LogState) (bodies : List (List ℕ)) (file : List ℕ) (n : ℕ) → Holds log bodies file → n < length log.places → length log.places ≤ n + 1 → log.end ≡ 8 + length (flat_map entry (take n bodies)) + (5 + length (get_or bodies n []))
end_is log bodies file n holds lt last =
    let all : take (n + 1) bodies ≡ bodies = take_all (n + 1) bodies (omega (arith, last, ap length holds.places, as_many 8 bodies)) in
    omega (arith, holds.end, length-append (header log.kind) (flat_map entry bodies), ap (λ (l : List (List ℕ)). length (flat_map entry l)) all, far_next bodies n (omega (arith, lt, ap length holds.places, as_many 8 bodies)))

-- what the log knows of a gate and of the next one, as the list of its gates says it
pub gate_known : (log : LogState) (n : ℕ) → n < length log.places → get_or (gates log) n 0 ≡ get_or log.places n 0
gate_known log n lt = get_or_append_left log.places (log.end ∷ []) 0 n lt

pub end_known : (log : LogState) (n : ℕ) → length log.places ≡ n → get_or (gates log) n 0 ≡ log.end
end_known log n is = get_or_at log.places log.end [] 0 n is

-- each entry of a log stands in its file
pub holds_entry : (log : LogState) (bodies : List (List ℕ)) (file : List ℕ) (n : ℕ) → Holds log bodies file → n < length log.places → HasEntry log n (get_or bodies n []) file
holds_entry log bodies file n holds lt =
    let there = entry_there log.kind n bodies file holds.is_log (omega (arith, lt, ap length holds.places, as_many 8 bodies)) in
    let gate = gate_known log n lt ∙ gate_is log bodies file n holds lt in
    let long : length (entry (get_or bodies n [])) ≡ 5 + length (get_or bodies n []) = length-append (1 ∷ u32_bytes (length (get_or bodies n []))) (get_or bodies n []) in
    record {
      rest = there.0;
      is = ap (λ (p : ℕ). drop p file) gate ∙ there.1;
      next = elim (cases_lt (n + 1) (length log.places)) [
        | inl less ↦ omega (arith, gate_known log (n + 1) less, next_is log bodies file n holds less, gate, long)
        | inr last ↦ omega (arith, end_known log (n + 1) (omega (arith, last, lt)), end_is log bodies file n holds lt last, gate, long)
      ];
    }

-- reading an entry where it stands, behind its length, gives its body
pub record IsRead (k len at : ℕ) (body file : List ℕ) : Type 0 where
  pub whole : len ≡ length body
  pub all : k ≡ len
  pub is : take len (drop at file) ≡ body

pub entry_read : (log : LogState) (n gate next len k : ℕ) (body file : List ℕ) → HasEntry log n body file → get_or (gates log) n 0 ≡ gate → get_or (gates log) (n + 1) 0 ≡ next → len ≡ next - gate - 5
    → k ≡ min len (length file - (next - len)) → IsRead k len (next - len) body file
entry_read log n gate next len k body file has here there is count =
    let long : length (entry body) ≡ 5 + length body = length-append (1 ∷ u32_bytes (length body)) body in
    let whole : len ≡ length body = omega (arith, is, has.next, here, there, long) in
    let behind : next - len ≡ gate + 5 = omega (arith, whole, has.next, here, there, long) in
    let stands : drop (next - len) file ≡ body ++ has.rest =
    ap (λ (p : ℕ). drop p file) behind ∙ sym (drop-drop 5 gate file) ∙ ap (λ (p : ℕ). drop 5 (drop p file)) (sym here) ∙ ap (λ (l : List ℕ). drop 5 l) has.is
    ∙ ap (λ (l : List ℕ). drop 4 l) (append_assoc (u32_bytes (length body)) body has.rest) in
    record {
      whole = whole;
      all = omega (arith, count, whole, ap length stands, length-drop (next - len) file, length-append body has.rest);
      is = ap (λ (l : List ℕ). take len l) stands ∙ take_at body has.rest len (sym whole);
    }

-- what holds of files that are told
pub of_told : (reads : Option Files) (files : Files) (P : Files → Type 0) → reads ≡ Some files → IfSome reads P → P files
of_told reads files P told h = subst (λ (o : Option Files). IfSome o P) told h
