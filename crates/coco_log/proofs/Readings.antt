-- What a call for the next entry of a log's file gives.
use Rattle.std.proofs.Common.{◌≡◌, ℕ, ◌+◌, ◌-◌, ◌≤◌, List, [], ◌∷◌, ◌++◌, length, take, drop, refl, sym, ◌∙◌, ap, subst, arith, append_assoc, length-append, take-take}
use Rattle.std.proofs.lemmas.List.{take_at, drop_at, drop-take, drop-drop}
use Rattle.coco_bytes.specs.Fields.{u32_bytes}
use Rattle.coco_log.specs.Grammar.{entry}
use Rattle.coco_log.specs.Gates.{IsPart, IsShut, IsEntry}
use Rattle.coco_log.specs.LogState.{Holds}
use Rattle.coco_log.specs.Reading.{Reading, IsReading, IsWalked, log_of}
use Rattle.coco_log.proofs.Walks.{walked_more, log_here}

-- the body of an entry that is wholly in what was read
pub body_shown : (from count skip at far : ℕ) (bytes file : List ℕ) → IsPart from count bytes file → from + skip ≡ at → skip + far ≤ count → (one : IsEntry (drop at file) far) → take (far - 5) (drop (skip + 5) bytes) ≡ one.body
body_shown from count skip at far bytes file part here room one =
    let long : far ≡ 5 + length one.body = omega (arith, one.long, length-append (u32_bytes (length one.body)) one.body) in
    let split : skip + 5 + (far - 5) ≡ skip + far = omega (arith, long) in
    let more : skip + far + (count - (skip + far)) ≡ count = omega (arith, room) in
    let shown : take (skip + far) bytes ≡ take (skip + far) (drop from file) =
    sym (take-take (skip + far) count bytes room) ∙ ap (λ (l : List ℕ). take (skip + far) l) part ∙ take-take (skip + far) count (drop from file) room in
    sym (drop-take (skip + 5) (far - 5) bytes)
    ∙ ap (λ (n : ℕ). drop (skip + 5) (take n bytes)) split
    ∙ ap (λ (l : List ℕ). drop (skip + 5) l) shown
    ∙ ap (λ (n : ℕ). drop (skip + 5) (take n (drop from file))) (sym split)
    ∙ drop-take (skip + 5) (far - 5) (drop from file)
    ∙ ap (λ (l : List ℕ). take (far - 5) l) (drop-drop (skip + 5) from file)
    ∙ ap (λ (n : ℕ). take (far - 5) (drop n file)) (omega (arith, here))
    ∙ ap (λ (l : List ℕ). take (far - 5) l) (sym (drop-drop 5 at file) ∙ ap (λ (l : List ℕ). drop 5 l) one.is)
    ∙ ap (λ (n : ℕ). take n (drop 5 (entry one.body ++ one.gate ∷ one.rest))) (omega (arith, long))
    ∙ ap (λ (l : List ℕ). take (length one.body) l) (ap (λ (l : List ℕ). drop 4 l) (append_assoc (u32_bytes (length one.body)) one.body (one.gate ∷ one.rest)) ∙ drop_at (u32_bytes (length one.body)) (one.body ++ one.gate ∷ one.rest) 4 refl)
    ∙ take_at one.body (one.gate ∷ one.rest) (length one.body) refl

-- one entry more was read
pub next_read : (kind : ℕ) (file places later : List ℕ) (at next far : ℕ) (bodies : List (List ℕ)) (body : List ℕ) → IsWalked kind file places at bodies → (one : IsEntry (drop at file) far)
    → later ≡ places ++ at ∷ [] → next ≡ at + far → body ≡ one.body → IsWalked kind file later next (bodies ++ body ∷ [])
next_read kind file places later at next far bodies body walked one more on is =
    subst (λ (l : List ℕ). IsWalked kind file l next (bodies ++ body ∷ [])) (sym more)
    (subst (λ (n : ℕ). IsWalked kind file (places ++ at ∷ []) n (bodies ++ body ∷ [])) (sym on)
    (subst (λ (b : List ℕ). IsWalked kind file (places ++ at ∷ []) (at + far) (bodies ++ b ∷ [])) (sym is) (walked_more kind file places at far bodies walked one)))

-- all entries were
pub holds_here : (r : Reading) (bodies : List (List ℕ)) (file : List ℕ) → IsReading r bodies file → IsShut (drop r.at file) → Holds (log_of r) bodies file
holds_here r bodies file reading last = record {
  is_log = log_here r.kind file r.places r.at bodies reading.walked last;
  places = reading.walked.gates;
  end = reading.walked.here;
}
