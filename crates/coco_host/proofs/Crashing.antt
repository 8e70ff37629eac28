-- How the image that a crash leaves of a file comes about, event by event.
use Rattle.std.proofs.Common.{◌≡◌, ◌≢◌, ◌⊎◌, inl, inr, ⊎_elim, ℕ, zero, suc, ◌+◌, ◌<◌, ◌≤◌, true, false, List, [], ◌∷◌, ◌++◌, length, get_or, map, take, drop, if◌then◌else◌, ◌==◌, refl, sym, ◌∙◌, ap, subst, arith, length-append, length-drop, take-append-drop}
use Rattle.std.proofs.lemmas.Bool.{cases_eq, cases_lt}
use Rattle.std.proofs.lemmas.Bool.Decides.{nat_tests}
use Rattle.std.proofs.lemmas.List.{take_more, take_all, take-append-le, length-take-le, get_or_append_left, get_or_default, get_or_push, get_or-drop, get_or-map}
use Rattle.coco_host.specs.Files.{put, Torn}
use Rattle.coco_host.specs.Record.{Write, Event, Stored, content, TornBy, IsImage, after, after_all, stored, files_of, MayLeave, said_of}
use Rattle.coco_host.specs.Record.Event.{Wrote, Synced, Said}
use Rattle.coco_host.specs.Recorded.{event_of, bytes_in, BeginsWithin, IsPlaced}
use Rattle.coco_host.specs.Crash.{read_after, is_sync, IsLastSync, IsTornBy, IsTornFrom}
use Rattle.coco_host.specs.declared.recorded.Happening.{Happening}
use Rattle.coco_host.specs.declared.held.MemoryFile.{MemoryFile}
use Rattle.coco_host.proofs.Events.{after_all-push, stored-push, content_wrote, content_synced, settled}
use Rattle.coco_host.proofs.Cutting.{nothing}
use Rattle.coco_host.proofs.Tearing.{put_torn}

-- the event of what stands at a place
pub event_read : (xs : List Happening) (k : ℕ) (x : Happening) → k < length xs → x ≡ get_or xs k x → event_of x ≡ get_or (map event_of xs) k (event_of x)
event_read xs k x within is = ap event_of is ∙ sym (get_or-map event_of xs k x (event_of x) within)

-- what a file reads as, event by event
content_after : (n : ℕ) (e : Event) (s : Stored) → content (after n s e) ≡ read_after n e (content s)
content_after n (Wrote w) s = content_wrote n w s
content_after n (Synced file) s = content_synced n file s
content_after n (Said words) s = refl

placed_from : (n : ℕ) (s : Stored) (es : List Event) (k : ℕ) (d : Event) → k < length es → IsPlaced n s es → BeginsWithin n (content (after_all n s (take k es))) (get_or es k d)
placed_from n s [] k d within placed = absurd (omega (arith, within))
placed_from n s (e ∷ es) zero d within placed = placed.0
placed_from n s (e ∷ es) (suc k) d within placed = placed_from n (after n s e) es k d (omega (arith, within)) placed.1

pub placed_front : (n : ℕ) (s : Stored) (es : List Event) (k : ℕ) → IsPlaced n s es → IsPlaced n s (take k es)
placed_front n s [] zero placed = tt
placed_front n s [] (suc k) placed = tt
placed_front n s (e ∷ es) zero placed = tt
placed_front n s (e ∷ es) (suc k) placed = (placed.0, placed_front n (after n s e) es k placed.1)

after_all-append : (n : ℕ) (s : Stored) (es more : List Event) → after_all n s (es ++ more) ≡ after_all n (after_all n s es) more
after_all-append n s [] more = refl
after_all-append n s (e ∷ es) more = after_all-append n (after n s e) es more

-- a crash cuts an event short
tears_by : (n : ℕ) (s : Stored) (e : Event) (mid new : List ℕ) → is_sync n e ≡ false → TornBy s.synced s.unsynced mid → IsTornBy n e mid new → (let t = after n s e in TornBy t.synced t.unsynced new)
tears_by n s (Wrote w) mid new not torn by = elim (cases_eq n w.file) [
  | inl here ↦
      let yes : (n == w.file) ≡ true = grind (arith, nat_tests) in
      subst (λ b. (let t = if b then record s { unsynced = w ∷ s.unsynced } else s in TornBy t.synced t.unsynced new)) (sym yes) (mid, torn, by.0 here)
  | inr far ↦
      let off : (n == w.file) ≡ false = grind (arith, nat_tests) in
      subst (λ b. (let t = if b then record s { unsynced = w ∷ s.unsynced } else s in TornBy t.synced t.unsynced new)) (sym off) (subst (TornBy s.synced s.unsynced) (sym (by.1 far)) torn)
]
tears_by n s (Synced f) mid new not torn by =
    subst (λ b. (let t = if b then record { synced = content s; unsynced = [] } else s in TornBy t.synced t.unsynced new)) (sym not) (subst (TornBy s.synced s.unsynced) (sym by) torn)
tears_by n s (Said words) mid new not torn by = subst (TornBy s.synced s.unsynced) (sym by) torn

module _ (n : ℕ) (es : List Event) (k : ℕ) (e : Event) (within : k < length es) (is : e ≡ get_or es k e) where
  one_more : take (k + 1) es ≡ take k es ++ e ∷ []
  one_more = take_more es k e within ∙ ap (λ (x : Event). take k es ++ x ∷ []) (sym is)

  -- the next event begins within what was read so far
  pub begins_next : (bytes : List ℕ) → IsPlaced n nothing es → bytes ≡ content (stored (take k es) n) → BeginsWithin n bytes e
  begins_next bytes placed so_far =
      subst (λ (l : List ℕ). BeginsWithin n l e) (sym so_far) (subst (BeginsWithin n (content (stored (take k es) n))) (sym is) (placed_from n nothing es k e within placed))

  pub reads_next : (bytes new : List ℕ) → bytes ≡ content (stored (take k es) n) → new ≡ read_after n e bytes → new ≡ content (stored (take (k + 1) es) n)
  reads_next bytes new so_far written =
      written ∙ ap (read_after n e) so_far ∙ sym (content_after n e (stored (take k es) n)) ∙ ap content (sym (stored-push (take k es) e n))
      ∙ ap (λ (l : List Event). content (stored l n)) (sym one_more)

  -- the last sync so far
  pub sync_next : is_sync n e ≡ true → IsLastSync n (take (k + 1) es) (k + 1)
  sync_next syncs = subst (λ (l : List Event). IsLastSync n l (k + 1)) (sym one_more) (record {
    within = omega (arith, size);
    clean = ap (λ (l : List Event). (stored l n).unsynced) (take_all (k + 1) (take k es ++ e ∷ []) (omega (arith, size)))
        ∙ ap (λ (s : Stored). s.unsynced) (stored-push (take k es) e n) ∙ cleans e syncs;
    none_since = λ j d from below. absurd (omega (arith, from, below, size));
  })
    where
      size : length (take k es ++ e ∷ []) ≡ k + 1
      size = omega (arith, length-append (take k es) (e ∷ []), length-take-le k es (omega (arith, within)))

      cleans : (x : Event) → is_sync n x ≡ true → (after n (stored (take k es) n) x).unsynced ≡ []
      cleans (Wrote w) is_so = absurd (cc)
      cleans (Synced f) is_so = ap (λ b. (if b then record { synced = content (stored (take k es) n); unsynced = [] } else stored (take k es) n).unsynced) is_so
      cleans (Said words) is_so = absurd (cc)

  pub no_sync_next : (last : ℕ) → is_sync n e ≡ false → IsLastSync n (take k es) last → IsLastSync n (take (k + 1) es) last
  no_sync_next last not was = subst (λ (l : List Event). IsLastSync n l last) (sym one_more) (record {
    within = omega (arith, was.within, length-append (take k es) (e ∷ []));
    clean = ap (λ (l : List Event). (stored l n).unsynced) (take-append-le last (take k es) (e ∷ []) was.within) ∙ was.clean;
    none_since = λ j d from below. elim (cases_lt j (length (take k es))) [
      | inl less ↦ ap (is_sync n) (get_or_append_left (take k es) (e ∷ []) d j less) ∙ was.none_since j d from less
      | inr more ↦ ap (is_sync n) (get_or_push (take k es) e d j (omega (arith, more, below, length-append (take k es) (e ∷ [])))) ∙ not
    ];
  })

  -- the next event is cut short
  pub tears_next : (old mid new : List ℕ) → is_sync n e ≡ false → IsTornFrom n old (take k es) mid → IsTornBy n e mid new → IsTornFrom n old (take (k + 1) es) new
  tears_next old mid new not torn by =
      let from : Stored = record { synced = old; unsynced = [] } in
      subst (λ (l : List Event). (let s = after_all n from l in TornBy s.synced s.unsynced new)) (sym one_more)
      (subst (λ (s : Stored). TornBy s.synced s.unsynced new) (sym (after_all-push n from (take k es) e)) (tears_by n (after_all n from (take k es)) e mid new not torn by))

-- a write that was put there in part
pub torn_here : (n : ℕ) (w : Write) (part old new : List ℕ) → n ≡ w.file → w.at ≤ length old → length part ≤ w.count → new ≡ put w.at part old → IsTornBy n (Wrote w) old new
torn_here n w part old new here within short is = (λ _. subst (Torn w.at w.count old) (sym is) (put_torn w.at w.count part old within short), λ far. absurd (far here))

-- a file as it reads at its last sync, and then torn, is what a crash may leave of it
pub image_from : (n : ℕ) (es : List Event) (last : ℕ) (old new : List ℕ) → IsLastSync n es last → old ≡ content (stored (take last es) n) → IsTornFrom n old (drop last es) new → IsImage (stored es n) new
image_from n es last old new sync reads torn =
    let synced : Stored = stored (take last es) n in
    let same : stored es n ≡ after_all n (record { synced = old; unsynced = [] }) (drop last es) =
    ap (λ (l : List Event). stored l n) (sym (take-append-drop last es)) ∙ after_all-append n nothing (take last es) (drop last es)
    ∙ ap (λ (s : Stored). after_all n s (drop last es)) (settled synced sync.clean)
    ∙ ap (λ (l : List ℕ). after_all n (record { synced = l; unsynced = [] }) (drop last es)) (sym reads) in
    subst (λ (s : Stored). IsImage s new) (sym same) (inr torn)

-- none of the events since is a sync
pub none_in_rest : (n : ℕ) (es : List Event) (last : ℕ) → IsLastSync n es last → (k : ℕ) (e : Event) → k < length (drop last es) → is_sync n (get_or (drop last es) k e) ≡ false
none_in_rest n es last sync k e below =
    ap (is_sync n) (get_or-drop last es k e) ∙ sync.none_since (last + k) e (omega arith) (omega (arith, below, length-drop last es))

-- the new record, once so many files are in it
pub record LeftSoFar (es : List Event) (files : List MemoryFile) (k : ℕ) (left : List Event) : Type 0 where
  pub image : (n : ℕ) → (content (stored left n) ≡ []) ⊎ IsImage (stored es n) (content (stored left n))
  pub clean : (n : ℕ) → (stored left n).unsynced ≡ []
  pub silent : said_of left ≡ []
  pub done : (j : ℕ) (d : MemoryFile) → j < k → IsImage (stored es (get_or files j d).number) (content (stored left (get_or files j d).number))

module _ (es : List Event) (files : List MemoryFile) (k : ℕ) (f : MemoryFile) (within : k < length files) (is : f ≡ get_or files k f) where
  -- a file that is there already
  pub left_there : (left : List Event) → LeftSoFar es files k left → (content (stored left f.number) ≡ [] → ⊥) → LeftSoFar es files (k + 1) left
  left_there left so_far there = record {
    image = so_far.image;
    clean = so_far.clean;
    silent = so_far.silent;
    done = λ j d less. elim (cases_lt j k) [
      | inl before ↦ so_far.done j d before
      | inr not ↦ subst (λ (g : MemoryFile). IsImage (stored es g.number) (content (stored left g.number))) (here j d less not) (⊎_elim (λ none. absurd (there none)) (λ image. image) (so_far.image f.number))
    ];
  }
    where
      here : (j : ℕ) (d : MemoryFile) → j < k + 1 → k ≤ j → f ≡ get_or files j d
      here j d less not = let at : j ≡ k = omega (arith, less, not) in is ∙ get_or_default files k f d within ∙ ap (λ (i : ℕ). get_or files i d) (sym at)

  -- a file that is put in
  pub left_filled : (left new : List Event) (bytes : List ℕ) → LeftSoFar es files k left → IsImage (stored es f.number) bytes
      → stored new f.number ≡ record { synced = bytes; unsynced = [] } → ((n : ℕ) → n ≢ f.number → stored new n ≡ stored left n) → said_of new ≡ said_of left → LeftSoFar es files (k + 1) new
  left_filled left new bytes so_far image filled elsewhere said = record {
    image = λ n. elim (cases_eq n f.number) [
      | inl here ↦ inr (subst (λ (m : ℕ). IsImage (stored es m) (content (stored new m))) (sym here) now)
      | inr far ↦ subst (λ (s : Stored). (content s ≡ []) ⊎ IsImage (stored es n) (content s)) (sym (elsewhere n far)) (so_far.image n)
    ];
    clean = λ n. elim (cases_eq n f.number) [
      | inl here ↦ ap (λ (m : ℕ). (stored new m).unsynced) here ∙ ap (λ (s : Stored). s.unsynced) filled
      | inr far ↦ ap (λ (s : Stored). s.unsynced) (elsewhere n far) ∙ so_far.clean n
    ];
    silent = said ∙ so_far.silent;
    done = λ j d less. elim (cases_eq (get_or files j d).number f.number) [
      | inl here ↦ subst (λ (m : ℕ). IsImage (stored es m) (content (stored new m))) (sym here) now
      | inr far ↦ subst (λ (s : Stored). IsImage (stored es (get_or files j d).number) (content s)) (sym (elsewhere (get_or files j d).number far)) (so_far.done j d (before j d less far))
    ];
  }
    where
      now : IsImage (stored es f.number) (content (stored new f.number))
      now = subst (λ (s : Stored). IsImage (stored es f.number) (content s)) (sym filled) image

      before : (j : ℕ) (d : MemoryFile) → j < k + 1 → ((get_or files j d).number ≡ f.number → ⊥) → j < k
      before j d less far = elim (cases_lt j k) [
        | inl below ↦ below
        | inr not ↦
            let at : j ≡ k = omega (arith, less, not) in
            absurd (far (ap (λ (g : MemoryFile). g.number) (ap (λ (i : ℕ). get_or files i d) at ∙ get_or_default files k d f within ∙ sym is)))
      ]

-- a file is among the files, or there is nothing of it
among : (n : ℕ) (files : List MemoryFile) (d : MemoryFile) → ((j : ℕ) × (j < length files) × ((get_or files j d).number ≡ n)) ⊎ (bytes_in n files ≡ [])
among n [] d = inr refl
among n (f ∷ fs) d = elim (cases_eq n f.number) [
  | inl here ↦ inl (0, omega arith, sym here)
  | inr far ↦
      let off : (n == f.number) ≡ false = grind (arith, nat_tests) in
      ⊎_elim (λ found. inl (suc found.0, omega (arith, found.1), found.2)) (λ none. inr (ap (λ b. if b then f.bytes.items else bytes_in n fs) off ∙ none)) (among n fs d)
]

-- once all are
pub all_left : (es : List Event) (files : List MemoryFile) (left : List Event) → LeftSoFar es files (length files) left → ((n : ℕ) → bytes_in n files ≡ content (stored es n)) → MayLeave es (files_of left)
all_left es [] left so_far kept n = ⊎_elim (λ none. inl (none ∙ kept n)) (λ image. image) (so_far.image n)
all_left es (f ∷ fs) left so_far kept n =
    ⊎_elim
    (λ found. subst (λ (m : ℕ). IsImage (stored es m) (content (stored left m))) found.2 (so_far.done found.0 f found.1))
    (λ none. ⊎_elim (λ empty. inl (empty ∙ sym none ∙ kept n)) (λ image. image) (so_far.image n))
    (among n (f ∷ fs) f)
