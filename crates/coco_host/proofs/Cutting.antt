-- What becomes of the record where a file is made never to have been longer.
use Rattle.std.proofs.Common.{◌≡◌, ◌≢◌, ◌⊎◌, inl, inr, ℕ, suc, ◌+◌, ◌-◌, ◌<◌, ◌≤◌, min, true, false, List, [], ◌∷◌, ◌++◌, length, map, take, drop, if◌then◌else◌, ◌==◌, refl, sym, ◌∙◌, ap, subst, arith, length-take}
use Rattle.std.proofs.Math.Seq.{take-append-add}
use Rattle.std.proofs.lemmas.Bool.{cases_eq, cases_lt}
use Rattle.std.proofs.lemmas.Bool.Decides.{nat_tests}
use Rattle.std.proofs.lemmas.List.{append-nil, take_all, take-take, take-append-le, drop-take, drop_all, length-take-le, nil_from_length}
use Rattle.coco_host.specs.Files.{put}
use Rattle.coco_host.specs.Record.{Write, Event, Stored, content, after, after_all, stored, said_of}
use Rattle.coco_host.specs.Record.Event.{Wrote, Synced, Said}
use Rattle.coco_host.specs.Recorded.{BeginsWithin, IsPlaced, cut_write, cut_event}

-- a write within the new end, and its bytes up to there
cut_inside : (len at : ℕ) (bytes f : List ℕ) → at ≤ length f → at ≤ len → put at (take (len - at) bytes) (take len f) ≡ take len (put at bytes f)
cut_inside len at bytes f within inside =
    ap (λ (l : List ℕ). l ++ (take (len - at) bytes ++ drop (at + length (take (len - at) bytes)) (take len f))) (take-take at len f inside)
    ∙ ap (λ (l : List ℕ). take at f ++ l) (rest (cases_lt (len - at) (length bytes)))
    ∙ sym (take-append-add (take at f) (bytes ++ behind) (len - at))
    ∙ ap (λ (n : ℕ). take n (take at f ++ (bytes ++ behind))) (omega (arith, length-take-le at f within, inside))
  where
    behind : List ℕ
    behind = drop (at + length bytes) f

    rest : ((len - at) < length bytes) ⊎ (length bytes ≤ (len - at)) → take (len - at) bytes ++ drop (at + length (take (len - at) bytes)) (take len f) ≡ take (len - at) (bytes ++ behind)
    rest (inl short) =
        ap (λ (l : List ℕ). take (len - at) bytes ++ l) (drop_all (at + length (take (len - at) bytes)) (take len f) (omega (arith, length-take len f, length-take-le (len - at) bytes (omega (arith, short)))))
        ∙ append-nil (take (len - at) bytes) ∙ sym (take-append-le (len - at) bytes behind (omega (arith, short)))
    rest (inr whole) =
        let all : take (len - at) bytes ≡ bytes = take_all (len - at) bytes whole in
        let size : len ≡ (at + length bytes) + (len - at - length bytes) = omega (arith, whole, inside) in
        ap (λ (l : List ℕ). l ++ drop (at + length l) (take len f)) all
        ∙ ap (λ (n : ℕ). bytes ++ drop (at + length bytes) (take n f)) size
        ∙ ap (λ (l : List ℕ). bytes ++ l) (drop-take (at + length bytes) (len - at - length bytes) f)
        ∙ sym (take-append-add bytes behind (len - at - length bytes))
        ∙ ap (λ (n : ℕ). take n (bytes ++ behind)) (omega (arith, whole))

-- a write behind the new end
cut_outside : (len at : ℕ) (bytes f : List ℕ) → at ≤ length f → len ≤ at → put len [] (take len f) ≡ take len (put at bytes f)
cut_outside len at bytes f within outside =
    ap (λ (l : List ℕ). take len (take len f) ++ l) (drop_all (len + 0) (take len f) (omega (arith, length-take len f)))
    ∙ append-nil (take len (take len f)) ∙ take-take len len f (omega arith)
    ∙ sym (take-append-le len (take at f) (bytes ++ drop (at + length bytes) f) (omega (arith, outside, length-take-le at f within)) ∙ take-take len at f outside)

put_cut : (len at : ℕ) (bytes f : List ℕ) → at ≤ length f → put (min at len) (take (len - at) bytes) (take len f) ≡ take len (put at bytes f)
put_cut len at bytes f within = elim (cases_lt len at) [
  | inl outside ↦
      let place : min at len ≡ len = omega (arith, outside) in
      let none : len - at ≡ 0 = omega (arith, outside) in
      ap (λ (n : ℕ). put n (take (len - at) bytes) (take len f)) place ∙ ap (λ (n : ℕ). put len (take n bytes) (take len f)) none
      ∙ cut_outside len at bytes f within (omega (arith, outside))
  | inr inside ↦
      let place : min at len ≡ at = omega (arith, inside) in
      ap (λ (n : ℕ). put n (take (len - at) bytes) (take len f)) place ∙ cut_inside len at bytes f within inside
]

-- the write as it is on the file that is cut, and on any other
cut_here : (file len : ℕ) (w : Write) → file ≡ w.file → cut_write file len w ≡ record w { at = min w.at len; bytes = take (len - w.at) w.bytes }
cut_here file len w is =
    let yes : (file == w.file) ≡ true = grind (arith, nat_tests) in
    ap (λ b. record w { at = (if b then min w.at len else w.at); bytes = (if b then take (len - w.at) w.bytes else w.bytes) }) yes

cut_elsewhere : (file len : ℕ) (w : Write) → file ≢ w.file → cut_write file len w ≡ w
cut_elsewhere file len w far =
    let off : (file == w.file) ≡ false = grind (arith, nat_tests) in
    ap (λ b. record w { at = (if b then min w.at len else w.at); bytes = (if b then take (len - w.at) w.bytes else w.bytes) }) off

-- what is kept of a file that is cut
record IsCut (len : ℕ) (s t : Stored) : Type 0 where
  pub bytes : content t ≡ take len (content s)
  pub writes : length t.unsynced ≡ length s.unsynced

module _ (file len : ℕ) where
  cut_after : (s t : Stored) (e : Event) → BeginsWithin file (content s) e → IsCut len s t → IsCut len (after file s e) (after file t (cut_event file len e))
  cut_after s t (Wrote w) within cut = elim (cases_eq file w.file) [
    | inl is ↦
        let yes : (file == w.file) ≡ true = grind (arith, nat_tests) in
        subst (λ b. IsCut len (if b then record s { unsynced = w ∷ s.unsynced } else s) (if b then record t { unsynced = cut_write file len w ∷ t.unsynced } else t)) (sym yes) (record {
          bytes =
              ap (λ (v : Write). put v.at v.bytes (content t)) (cut_here file len w is)
              ∙ ap (λ (l : List ℕ). put (min w.at len) (take (len - w.at) w.bytes) l) cut.bytes
              ∙ put_cut len w.at w.bytes (content s) (within is);
          writes = ap suc cut.writes;
        })
    | inr far ↦
        let off : (file == w.file) ≡ false = grind (arith, nat_tests) in
        subst (λ b. IsCut len (if b then record s { unsynced = w ∷ s.unsynced } else s) (if b then record t { unsynced = cut_write file len w ∷ t.unsynced } else t)) (sym off) cut
  ]
  cut_after s t (Synced f) within cut = elim (file == f) as (λ b. IsCut len (if b then record { synced = content s; unsynced = [] } else s) (if b then record { synced = content t; unsynced = [] } else t)) [
    | true ↦ record { bytes = cut.bytes; writes = refl }
    | false ↦ cut
  ]
  cut_after s t (Said bytes) within cut = cut

  cut_all : (s t : Stored) (es : List Event) → IsPlaced file s es → IsCut len s t → IsCut len (after_all file s es) (after_all file t (map (cut_event file len) es))
  cut_all s t [] placed cut = cut
  cut_all s t (e ∷ es) placed cut = cut_all (after file s e) (after file t (cut_event file len e)) es placed.1 (cut_after s t e placed.0 cut)

  begins_cut : (s t : Stored) (e : Event) → BeginsWithin file (content s) e → IsCut len s t → BeginsWithin file (content t) (cut_event file len e)
  begins_cut s t (Wrote w) within cut =
      λ is.
      let at : (cut_write file len w).at ≡ min w.at len = ap (λ (v : Write). v.at) (cut_here file len w is) in
      omega (arith, at, within is, ap length cut.bytes, length-take len (content s))
  begins_cut s t (Synced f) within cut = tt
  begins_cut s t (Said bytes) within cut = tt

  placed_cut : (s t : Stored) (es : List Event) → IsPlaced file s es → IsCut len s t → IsPlaced file t (map (cut_event file len) es)
  placed_cut s t [] placed cut = tt
  placed_cut s t (e ∷ es) placed cut = (begins_cut s t e placed.0 cut, placed_cut (after file s e) (after file t (cut_event file len e)) es placed.1 (cut_after s t e placed.0 cut))

  -- another file
  cut_other : (n : ℕ) → n ≢ file → (s : Stored) (e : Event) → after n s (cut_event file len e) ≡ after n s e
  cut_other n far s (Wrote w) = elim (cases_eq file w.file) [
    | inl is ↦
        let off : (n == w.file) ≡ false = elim (cases_eq n w.file) [ inl same ↦ absurd (far (same ∙ sym is)) | inr not ↦ grind (arith, nat_tests) ] in
        ap (λ b. if b then record s { unsynced = cut_write file len w ∷ s.unsynced } else s) off ∙ sym (ap (λ b. if b then record s { unsynced = w ∷ s.unsynced } else s) off)
    | inr not ↦ ap (λ (v : Write). after n s (Wrote v)) (cut_elsewhere file len w not)
  ]
  cut_other n far s (Synced f) = refl
  cut_other n far s (Said bytes) = refl

  cut_others : (n : ℕ) → n ≢ file → (s : Stored) (es : List Event) → after_all n s (map (cut_event file len) es) ≡ after_all n s es
  cut_others n far s [] = refl
  cut_others n far s (e ∷ es) = ap (λ (t : Stored). after_all n t (map (cut_event file len) es)) (cut_other n far s e) ∙ cut_others n far (after n s e) es

  begins_other : (n : ℕ) → n ≢ file → (bytes : List ℕ) (e : Event) → BeginsWithin n bytes e → BeginsWithin n bytes (cut_event file len e)
  begins_other n far bytes (Wrote w) within = λ is. subst (λ (v : Write). v.at ≤ length bytes) (sym (cut_elsewhere file len w (λ same. far (is ∙ sym same)))) (within is)
  begins_other n far bytes (Synced f) within = tt
  begins_other n far bytes (Said words) within = tt

  placed_other : (n : ℕ) → n ≢ file → (s : Stored) (es : List Event) → IsPlaced n s es → IsPlaced n s (map (cut_event file len) es)
  placed_other n far s [] placed = tt
  placed_other n far s (e ∷ es) placed = (
    begins_other n far (content s) e placed.0,
    placed_other n far (after n s (cut_event file len e)) es (subst (λ (t : Stored). IsPlaced n t es) (sym (cut_other n far s e)) placed.1),
  )

  -- what is said
  said_cut : (es : List Event) → said_of (map (cut_event file len) es) ≡ said_of es
  said_cut [] = refl
  said_cut (Wrote w ∷ es) = said_cut es
  said_cut (Synced f ∷ es) = said_cut es
  said_cut (Said bytes ∷ es) = ap (λ (l : List ℕ). bytes ++ l) (said_cut es)

-- the whole record: what becomes of the file, and of another one
abbrev pub nothing : Stored
nothing = record { synced = []; unsynced = [] }

nothing_cut : (len : ℕ) → IsCut len nothing nothing
nothing_cut len = record { bytes = sym (take_all len [] (omega arith)); writes = refl }

module _ (file len : ℕ) (es : List Event) where
  pub cut_content : IsPlaced file nothing es → content (stored (map (cut_event file len) es) file) ≡ take len (content (stored es file))
  cut_content placed = (cut_all file len nothing nothing es placed (nothing_cut len)).bytes

  pub cut_clean : IsPlaced file nothing es → (stored es file).unsynced ≡ [] → (stored (map (cut_event file len) es) file).unsynced ≡ []
  cut_clean placed none = nil_from_length (stored (map (cut_event file len) es) file).unsynced (omega (arith, (cut_all file len nothing nothing es placed (nothing_cut len)).writes, ap length none))

  pub cut_stored : (n : ℕ) → n ≢ file → stored (map (cut_event file len) es) n ≡ stored es n
  cut_stored n far = cut_others file len n far nothing es

  pub cut_said : said_of (map (cut_event file len) es) ≡ said_of es
  cut_said = said_cut file len es

  pub cut_placed : ((n : ℕ) → IsPlaced n nothing es) → (n : ℕ) → IsPlaced n nothing (map (cut_event file len) es)
  cut_placed placed n = elim (cases_eq n file) [
    | inl is ↦ subst (λ (m : ℕ). IsPlaced m nothing (map (cut_event file len) es)) (sym is) (placed_cut file len nothing nothing es (placed file) (nothing_cut len))
    | inr far ↦ placed_other file len n far nothing es (placed n)
  ]
