-- What one event more does to what was seen, to the files and to what a crash may leave.
use Rattle.std.proofs.Common.{◌≡◌, ◌≢◌, ◌⊎◌, inl, inr, ⊎_elim, ℕ, ◌+◌, ◌≤◌, true, false, List, [], ◌∷◌, ◌++◌, length, Option, Some, if◌then◌else◌, ◌==◌, refl, sym, ◌∙◌, ap, subst, arith, append_assoc, length-append, take_all}
use Rattle.std.proofs.Math.Seq.{drop-nil}
use Rattle.std.proofs.lemmas.Bool.{cases_eq, cases_lt}
use Rattle.std.proofs.lemmas.Bool.Decides.{nat_tests}
use Rattle.std.proofs.lemmas.List.{append-nil, take-append-le}
use Rattle.coco_host.specs.Files.{Files, put, put_into, Torn, TornIn, Become, Follows, NoMore, IsDurable}
use Rattle.coco_host.specs.Moments.{Observation, IsNew, Elapses}
use Rattle.coco_host.specs.Record.{Write, Event, Stored, with_writes, content, TornBy, IsImage, after, after_all, stored, files_of, MayLeave, said_of, IsSeenAfter, SeenSince, known}
use Rattle.coco_host.specs.Record.Event.{Wrote, Synced, Said}
use Rattle.coco_host.proofs.Tearing.{put_torn}

pub after_all-push : (n : ℕ) (s : Stored) (es : List Event) (e : Event) → after_all n s (es ++ e ∷ []) ≡ after n (after_all n s es) e
after_all-push n s [] e = refl
after_all-push n s (x ∷ es) e = after_all-push n (after n s x) es e

pub stored-push : (es : List Event) (e : Event) (n : ℕ) → stored (es ++ e ∷ []) n ≡ after n (stored es n) e
stored-push es e n = after_all-push n (record { synced = []; unsynced = [] }) es e

pub said_of-push : (es : List Event) (e : Event) → said_of (es ++ e ∷ []) ≡ said_of es ++ said_of (e ∷ [])
said_of-push [] e = refl
said_of-push (Wrote w ∷ es) e = said_of-push es e
said_of-push (Synced f ∷ es) e = said_of-push es e
said_of-push (Said bytes ∷ es) e = ap (λ (xs : List ℕ). bytes ++ xs) (said_of-push es e) ∙ sym (append_assoc bytes (said_of es) (said_of (e ∷ [])))

-- what is new where an event was added
abbrev pub NewIn : List Event → List Event → Observation → Type 0
NewIn old new = IsNew (MayLeave new) (Some (said_of old)) (Some (said_of new))

seen_last : (es : List Event) (e : Event) (seen : Observation) → IsSeenAfter (es ++ e ∷ []) seen → NewIn es (es ++ e ∷ []) seen
seen_last es e seen last = record {
  image = last.image;
  said = record {
    from = said_of es;
    was = refl;
    begun = (said_of (e ∷ []), last.said ∙ said_of-push es e);
    to = said_of (es ++ e ∷ []);
    is = refl;
    ended = ([], sym last.said ∙ sym (append-nil seen.said));
  };
}

pub elapses_push : (es : List Event) (e : Event) → Elapses (length es) (length (es ++ e ∷ [])) (SeenSince es) (SeenSince (es ++ e ∷ [])) (NewIn es (es ++ e ∷ []))
elapses_push es e = record {
  later = omega (arith, length-append es (e ∷ []));
  nothing_else = λ t seen le since. split t seen since;
  keeps = λ t seen le past. (past.0, past.1, omega (arith, past.2, length-append es (e ∷ [])), subst (λ (xs : List Event). IsSeenAfter xs seen) (sym (take-append-le past.0 es (e ∷ []) past.2)) past.3);
}
  where
    split : (t : ℕ) (seen : Observation) → SeenSince (es ++ e ∷ []) t seen → SeenSince es t seen ⊎ NewIn es (es ++ e ∷ []) seen
    split t seen since = elim (cases_lt (length es) since.0) [
      | inl more ↦ inr (seen_last es e seen (subst (λ (xs : List Event). IsSeenAfter xs seen) (take_all since.0 (es ++ e ∷ []) (omega (arith, more, length-append es (e ∷ [])))) since.3))
      | inr le ↦ inl (since.0, since.1, le, subst (λ (xs : List Event). IsSeenAfter xs seen) (take-append-le since.0 es (e ∷ []) le) since.3)
    ]

-- time after an event, and where none happened
pub elapses_to : (old new : List Event) (e : Event) → new ≡ old ++ e ∷ [] → Elapses (length old) (length new) (SeenSince old) (SeenSince new) (NewIn old new)
elapses_to old new e is = subst (λ (es : List Event). Elapses (length old) (length es) (SeenSince old) (SeenSince es) (NewIn old es)) (sym is) (elapses_push old e)

pub elapses_same : (old new : List Event) → new ≡ old → Elapses (length old) (length new) (SeenSince old) (SeenSince new) (NewIn old new)
elapses_same old new is = subst (λ (es : List Event). Elapses (length old) (length es) (SeenSince old) (SeenSince es) (NewIn old es)) (sym is) (record {
  later = omega arith;
  nothing_else = λ t seen le since. inl since;
  keeps = λ t seen le past. past;
})

-- a say leaves the files alone
pub files_said : (es : List Event) (bytes : List ℕ) → files_of (es ++ Said bytes ∷ []) ≡ files_of es
files_said es bytes = λ i n. content (stored-push es (Said bytes) n i)

pub no_more_said : (es : List Event) (bytes : List ℕ) → NoMore (MayLeave es) (MayLeave (es ++ Said bytes ∷ []))
no_more_said es bytes c left n = subst (λ (s : Stored). IsImage s (c n)) (stored-push es (Said bytes) n) (left n)

-- a sync leaves the files as they read, and less for a crash to leave
pub content_synced : (n file : ℕ) (s : Stored) → content (after n s (Synced file)) ≡ content s
content_synced n file s = elim (n == file) as (λ b. content (if b then record { synced = content s; unsynced = [] } else s) ≡ content s) [ true ↦ refl | false ↦ refl ]

whole : (s : Stored) (c : List ℕ) → s.unsynced ≡ [] → IsImage s c → c ≡ content s
whole s c none (inl is) = is
whole s c none (inr torn) = subst (λ (ws : List Write). TornBy s.synced ws c → c ≡ with_writes s.synced ws) (sym none) (λ t. t) torn

image_synced : (n file : ℕ) (s : Stored) (c : List ℕ) → IsImage (after n s (Synced file)) c → IsImage s c
image_synced n file s c = elim (n == file) as (λ b. IsImage (if b then record { synced = content s; unsynced = [] } else s) c → IsImage s c) [
  | true ↦ λ image. inl (whole (record { synced = content s; unsynced = [] }) c refl image)
  | false ↦ λ image. image
]

same_number : (n : ℕ) → (n == n) ≡ true
same_number n = grind (arith, nat_tests)

pub files_synced : (es : List Event) (file : ℕ) → files_of (es ++ Synced file ∷ []) ≡ files_of es
files_synced es file = λ i n. (ap content (stored-push es (Synced file) n) ∙ content_synced n file (stored es n)) i

pub no_more_synced : (es : List Event) (file : ℕ) → NoMore (MayLeave es) (MayLeave (es ++ Synced file ∷ []))
no_more_synced es file c left n = image_synced n file (stored es n) (c n) (subst (λ (s : Stored). IsImage s (c n)) (stored-push es (Synced file) n) (left n))

pub durable_synced : (es : List Event) (file : ℕ) (c : Files) → MayLeave (es ++ Synced file ∷ []) c → c file ≡ files_of es file
durable_synced es file c left =
    let s = stored es file in
    let is : after file s (Synced file) ≡ record { synced = content s; unsynced = [] } = ap (λ b. if b then record { synced = content s; unsynced = [] } else s) (same_number file) in
    whole (record { synced = content s; unsynced = [] }) (c file) refl (subst (λ (t : Stored). IsImage t (c file)) (stored-push es (Synced file) file ∙ is) (left file))

pub durable_clean : (es : List Event) (file : ℕ) → (stored es file).unsynced ≡ [] → (c : Files) → MayLeave es c → c file ≡ files_of es file
durable_clean es file clean c left = whole (stored es file) (c file) clean (left file)

-- a write
pub content_wrote : (n : ℕ) (w : Write) (s : Stored) → content (after n s (Wrote w)) ≡ (if n == w.file then put w.at w.bytes (content s) else content s)
content_wrote n w s = elim (n == w.file) as (λ b. content (if b then record s { unsynced = w ∷ s.unsynced } else s) ≡ (if b then put w.at w.bytes (content s) else content s)) [ true ↦ refl | false ↦ refl ]

pub files_wrote : (es : List Event) (w : Write) → files_of (es ++ Wrote w ∷ []) ≡ put_into w.file w.at w.bytes (files_of es)
files_wrote es w = λ i n. (ap content (stored-push es (Wrote w) n) ∙ content_wrote n w (stored es n)) i

-- the image before the last write
before_write : (w : Write) (s : Stored) (c : List ℕ) → w.at ≤ length (content s) → length w.bytes ≤ w.count → IsImage (record s { unsynced = w ∷ s.unsynced }) c → (d : List ℕ) × IsImage s d × Torn w.at w.count d c
before_write w s c at short (inl is) = (content s, inl refl, subst (λ (f : List ℕ). Torn w.at w.count (content s) f) (sym is) (put_torn w.at w.count w.bytes (content s) at short))
before_write w s c at short (inr torn) = (torn.0, inr torn.1, torn.2)

pub torn_wrote : (es : List Event) (w : Write) → w.at ≤ length (files_of es w.file) → length w.bytes ≤ w.count → TornIn w.file w.at w.count (files_of es) (files_of (es ++ Wrote w ∷ []))
torn_wrote es w at short = subst (λ (fs : Files). TornIn w.file w.at w.count (files_of es) fs) (sym (files_wrote es w)) (record {
  inside = subst (λ b. Torn w.at w.count (files_of es w.file) (if b then put w.at w.bytes (files_of es w.file) else files_of es w.file)) (sym (same_number w.file)) (put_torn w.at w.count w.bytes (files_of es w.file) at short);
  elsewhere = λ n other. let off : (n == w.file) ≡ false = grind (arith, nat_tests) in ap (λ b. if b then put w.at w.bytes (files_of es n) else files_of es n) off;
})

pub follows_wrote : (es : List Event) (w : Write) → w.at ≤ length (files_of es w.file) → length w.bytes ≤ w.count → Follows (TornIn w.file w.at w.count) (MayLeave es) (MayLeave (es ++ Wrote w ∷ []))
follows_wrote es w at short c left = (d, were, record { inside = inside; elsewhere = elsewhere })
  where
    here : after w.file (stored es w.file) (Wrote w) ≡ record (stored es w.file) { unsynced = w ∷ (stored es w.file).unsynced }
    here = ap (λ b. if b then record (stored es w.file) { unsynced = w ∷ (stored es w.file).unsynced } else stored es w.file) (same_number w.file)

    from : (d : List ℕ) × IsImage (stored es w.file) d × Torn w.at w.count d (c w.file)
    from = before_write w (stored es w.file) (c w.file) at short (subst (λ (s : Stored). IsImage s (c w.file)) (stored-push es (Wrote w) w.file ∙ here) (left w.file))

    d : Files
    d n = if n == w.file then from.0 else c n

    there : (n : ℕ) → (n == w.file) ≡ false → IsImage (stored es n) (c n)
    there n off = subst (λ (s : Stored). IsImage s (c n)) (stored-push es (Wrote w) n ∙ ap (λ b. if b then record (stored es n) { unsynced = w ∷ (stored es n).unsynced } else stored es n) off) (left n)

    were : MayLeave es d
    were n = elim (cases_eq n w.file) [
      | inl is ↦ let yes : (n == w.file) ≡ true = grind (arith, nat_tests) in subst (λ (m : ℕ). IsImage (stored es m) (if m == w.file then from.0 else c m)) (sym is) (subst (λ b. IsImage (stored es w.file) (if b then from.0 else c w.file)) (sym (same_number w.file)) from.1)
      | inr not ↦ let off : (n == w.file) ≡ false = grind (arith, nat_tests) in subst (λ b. IsImage (stored es n) (if b then from.0 else c n)) (sym off) (there n off)
    ]

    inside : Torn w.at w.count (d w.file) (c w.file)
    inside = subst (λ b. Torn w.at w.count (if b then from.0 else c w.file) (c w.file)) (sym (same_number w.file)) from.2

    elsewhere : (n : ℕ) → n ≢ w.file → c n ≡ d n
    elsewhere n other = let off : (n == w.file) ≡ false = grind (arith, nat_tests) in ap (λ b. if b then from.0 else c n) (sym off)

-- after a say
module _ (old new : List Event) (bytes : List ℕ) (is : new ≡ old ++ Said bytes ∷ []) where
  pub said_grown : said_of new ≡ said_of old ++ bytes
  said_grown = ap said_of is ∙ said_of-push old (Said bytes) ∙ ap (λ (l : List ℕ). said_of old ++ l) (append-nil bytes)

  pub said_files : files_of new ≡ files_of old
  said_files = ap files_of is ∙ files_said old bytes

  pub said_no_more : NoMore (MayLeave old) (MayLeave new)
  said_no_more = subst (λ (es : List Event). NoMore (MayLeave old) (MayLeave es)) (sym is) (no_more_said old bytes)

-- a file without unsynced writes
pub settled : (s : Stored) → s.unsynced ≡ [] → s ≡ record { synced = content s; unsynced = [] }
settled s none = subst (λ (ws : List Write). (let t : Stored = record { synced = s.synced; unsynced = ws } in t ≡ record { synced = with_writes s.synced ws; unsynced = [] })) (sym none) refl

-- after a sync
module _ (old new : List Event) (file : ℕ) (is : (new ≡ old ++ Synced file ∷ []) ⊎ ((new ≡ old) × ((stored old file).unsynced ≡ []))) where
  pub synced_files : files_of new ≡ files_of old
  synced_files = ⊎_elim (λ e. ap files_of e ∙ files_synced old file) (λ e. ap files_of e.0) is

  pub synced_said : said_of new ≡ said_of old
  synced_said = ⊎_elim (λ e. ap said_of e ∙ said_of-push old (Synced file) ∙ append-nil (said_of old)) (λ e. ap said_of e.0) is

  pub synced_no_more : NoMore (MayLeave old) (MayLeave new)
  synced_no_more = ⊎_elim
      (λ e. subst (λ (es : List Event). NoMore (MayLeave old) (MayLeave es)) (sym e) (no_more_synced old file))
      (λ e. subst (λ (es : List Event). NoMore (MayLeave old) (MayLeave es)) (sym e.0) (λ c left. left)) is

  pub synced_elapses : Elapses (length old) (length new) (SeenSince old) (SeenSince new) (NewIn old new)
  synced_elapses = ⊎_elim (λ e. elapses_to old new (Synced file) e) (λ e. elapses_same old new e.0) is

  pub synced_here : stored new file ≡ record { synced = content (stored old file); unsynced = [] }
  synced_here = ⊎_elim
      (λ e. ap (λ (es : List Event). stored es file) e ∙ stored-push old (Synced file) file ∙ ap (λ b. if b then record { synced = content (stored old file); unsynced = [] } else stored old file) (same_number file))
      (λ e. ap (λ (es : List Event). stored es file) e.0 ∙ settled (stored old file) e.1) is

  pub synced_elsewhere : (n : ℕ) → n ≢ file → stored new n ≡ stored old n
  synced_elsewhere n far =
      let off : (n == file) ≡ false = grind (arith, nat_tests) in
      ⊎_elim
      (λ e. ap (λ (es : List Event). stored es n) e ∙ stored-push old (Synced file) n ∙ ap (λ b. if b then record { synced = content (stored old n); unsynced = [] } else stored old n) off)
      (λ e. ap (λ (es : List Event). stored es n) e.0) is

  pub synced_durable : IsDurable file (Some (files_of old)) (MayLeave new)
  synced_durable files told c left =
      ⊎_elim
      (λ e. durable_synced old file c (subst (λ (es : List Event). MayLeave es c) e left))
      (λ e. durable_clean old file e.1 c (subst (λ (es : List Event). MayLeave es c) e.0 left)) is
      ∙ ap (λ (o : Option Files). known (files_of old) o file) told

-- after a write
module _ (old new : List Event) (w : Write) (at : w.at ≤ length (files_of old w.file)) (short : length w.bytes ≤ w.count) (is : new ≡ old ++ Wrote w ∷ []) where
  pub wrote_files : Become (λ o n. n ≡ put_into w.file w.at w.bytes o) (Some (files_of old)) (Some (files_of new))
  wrote_files = (files_of new, refl, ap files_of is ∙ files_wrote old w)

  pub wrote_said : said_of new ≡ said_of old
  wrote_said = ap said_of is ∙ said_of-push old (Wrote w) ∙ append-nil (said_of old)

  pub wrote_follows : Follows (TornIn w.file w.at w.count) (MayLeave old) (MayLeave new)
  wrote_follows = subst (λ (es : List Event). Follows (TornIn w.file w.at w.count) (MayLeave old) (MayLeave es)) (sym is) (follows_wrote old w at short)

  pub wrote_torn : TornIn w.file w.at w.count (files_of old) (files_of new)
  wrote_torn = subst (λ (es : List Event). TornIn w.file w.at w.count (files_of old) (files_of es)) (sym is) (torn_wrote old w at short)

-- after a write to an empty file, from its beginning on
module _ (old new : List Event) (w : Write) (is : new ≡ old ++ Wrote w ∷ []) where
  pub said_wrote : said_of new ≡ said_of old
  said_wrote = ap said_of is ∙ said_of-push old (Wrote w) ∙ append-nil (said_of old)

  pub wrote_elsewhere : (n : ℕ) → n ≢ w.file → stored new n ≡ stored old n
  wrote_elsewhere n far =
      let off : (n == w.file) ≡ false = grind (arith, nat_tests) in
      ap (λ (es : List Event). stored es n) is ∙ stored-push old (Wrote w) n ∙ ap (λ b. if b then record (stored old n) { unsynced = w ∷ (stored old n).unsynced } else stored old n) off

  pub filled_content : content (stored old w.file) ≡ [] → w.at ≡ 0 → content (stored new w.file) ≡ w.bytes
  filled_content empty start =
      ap (λ (es : List Event). content (stored es w.file)) is ∙ ap content (stored-push old (Wrote w) w.file) ∙ content_wrote w.file w (stored old w.file)
      ∙ ap (λ b. if b then put w.at w.bytes (content (stored old w.file)) else content (stored old w.file)) (same_number w.file)
      ∙ ap (λ (l : List ℕ). put w.at w.bytes l) empty ∙ ap (λ (n : ℕ). put n w.bytes []) start
      ∙ ap (λ (l : List ℕ). w.bytes ++ l) (drop-nil (0 + length w.bytes)) ∙ append-nil w.bytes

-- after a write that was cut short, of which nothing may be left
pub torn_self : (file at count : ℕ) (files : Files) → TornIn file at count files files
torn_self file at count files = record { inside = record { before = refl; after = refl; no_shorter = omega arith; no_longer = omega arith }; elsewhere = λ n other. refl }

pub follows_self : (file at count : ℕ) (old new : List Event) → new ≡ old → Follows (TornIn file at count) (MayLeave old) (MayLeave new)
follows_self file at count old new is c left = (c, subst (λ (es : List Event). MayLeave es c) is left, torn_self file at count c)

module _ (old new : List Event) (w : Write) (at : w.at ≤ length (files_of old w.file)) (short : length w.bytes ≤ w.count) (is : (new ≡ old ++ Wrote w ∷ []) ⊎ (new ≡ old)) where
  pub tore_files : Become (TornIn w.file w.at w.count) (Some (files_of old)) (Some (files_of new))
  tore_files = (files_of new, refl, ⊎_elim (λ e. wrote_torn old new w at short e) (λ e. subst (λ (es : List Event). TornIn w.file w.at w.count (files_of old) (files_of es)) (sym e) (torn_self w.file w.at w.count (files_of old))) is)

  pub tore_said : said_of new ≡ said_of old
  tore_said = ⊎_elim (λ e. wrote_said old new w at short e) (λ e. ap said_of e) is

  pub tore_follows : Follows (TornIn w.file w.at w.count) (MayLeave old) (MayLeave new)
  tore_follows = ⊎_elim (λ e. wrote_follows old new w at short e) (λ e. follows_self w.file w.at w.count old new e) is

  pub tore_elapses : Elapses (length old) (length new) (SeenSince old) (SeenSince new) (NewIn old new)
  tore_elapses = ⊎_elim (λ e. elapses_to old new (Wrote w) e) (λ e. elapses_same old new e) is

-- one event more than those that were
pub from_those : (old mid new : List Event) (e : Event) → new ≡ mid ++ e ∷ [] → mid ≡ old → new ≡ old ++ e ∷ []
from_those old mid new e is same = is ∙ ap (λ (es : List Event). es ++ e ∷ []) same
