-- How files and stream stay as the record says.
use Rattle.std.proofs.Common.{◌≡◌, ◌≢◌, ◌⊎◌, inl, inr, ℕ, ◌+◌, ◌<◌, ◌≤◌, Bool, true, false, List, [], ◌∷◌, ◌++◌, length, map, take, Vec, vec_len, vec_capacity, if◌then◌else◌, ◌==◌, refl, sym, ◌∙◌, ap, subst, arith, length-append}
use Rattle.std.specs.declared.alloc.Global.{Global}
use Rattle.std.proofs.lemmas.Bool.{cases_eq}
use Rattle.std.proofs.lemmas.Bool.Decides.{nat_tests}
use Rattle.std.proofs.lemmas.List.{append-nil, map-append}
use Rattle.coco_host.specs.Files.{put}
use Rattle.coco_host.specs.Record.{Write, Event, Stored, content, after, after_all, stored, said_of}
use Rattle.coco_host.specs.Record.Event.{Wrote, Synced, Said}
use Rattle.coco_host.specs.Recorded.{event_of, bytes_in, unsynced_in, unsynced_count, Same, Takes, Settles, Shortens, BeginsWithin, IsPlaced, cut_event, IsKept, IsRecorded}
use Rattle.coco_host.specs.declared.recorded.Happening.{Happening}
use Rattle.coco_host.specs.declared.held.MemoryFile.{MemoryFile}
use Rattle.coco_host.proofs.Events.{stored-push, said_of-push}
use Rattle.coco_host.proofs.Places.{count-le-length}
use Rattle.coco_host.proofs.Cutting.{nothing, cut_content, cut_clean, cut_stored, cut_said, cut_placed}

-- the events of what happened
abbrev pub events : Vec Happening Global → List Event
events happened = map event_of happened.items

-- one more of them
pub events-push : (xs : List Happening) (x : Happening) → map event_of (xs ++ x ∷ []) ≡ map event_of xs ++ event_of x ∷ []
events-push xs x = map-append event_of xs (x ∷ [])

-- one event more keeps writes within their files
placed_push : (n : ℕ) (s : Stored) (es : List Event) (e : Event) → IsPlaced n s es → BeginsWithin n (content (after_all n s es)) e → IsPlaced n s (es ++ e ∷ [])
placed_push n s [] e placed within = (within, tt)
placed_push n s (x ∷ es) e placed within = (placed.0, placed_push n (after n s x) es e placed.1 within)

-- room that grew, and files that are as before
pub recorded_same : (old new : Vec Happening Global) (files later : List MemoryFile) (replies : List ℕ) → IsRecorded old files replies → Same files later → new.items ≡ old.items → vec_capacity old ≤ vec_capacity new → IsRecorded new later replies
recorded_same old new files later replies was same items more = record {
  kept = λ n. subst (λ (xs : List Happening). IsKept n later (map event_of xs)) (sym items) (record {
    bytes = same.bytes_of n ∙ (was.kept n).bytes;
    clean = λ clean. (was.kept n).clean (sym (same.unsynced_of n) ∙ clean);
  });
  placed = λ n. subst (λ (xs : List Happening). IsPlaced n nothing (map event_of xs)) (sym items) (was.placed n);
  said = was.said ∙ ap (λ (xs : List Happening). said_of (map event_of xs)) (sym items);
  room = omega (arith, was.room, more, same.count, ap length items);
}

-- an event that is no file's leaves each as it was kept
said_kept : (n : ℕ) (files : List MemoryFile) (es : List Event) (bytes : List ℕ) → IsKept n files es → IsKept n files (es ++ Said bytes ∷ [])
said_kept n files es bytes kept = record {
  bytes = kept.bytes ∙ ap content (sym (stored-push es (Said bytes) n));
  clean = λ clean. ap (λ (s : Stored). s.unsynced) (stored-push es (Said bytes) n) ∙ kept.clean clean;
}

pub recorded_said : (old new : Vec Happening Global) (files : List MemoryFile) (replies bytes : List ℕ) → IsRecorded old files replies → events new ≡ events old ++ Said bytes ∷ [] → length new.items + unsynced_count files ≤ vec_capacity new → IsRecorded new files (replies ++ bytes)
recorded_said old new files replies bytes was is room = record {
  kept = λ n. subst (λ (es : List Event). IsKept n files es) (sym is) (said_kept n files (events old) bytes (was.kept n));
  placed = λ n. subst (IsPlaced n nothing) (sym is) (placed_push n nothing (events old) (Said bytes) (was.placed n) tt);
  said = ap (λ (l : List ℕ). l ++ bytes) was.said ∙ one_more ∙ ap said_of (sym is);
  room = room;
}
  where
    one_more : said_of (events old) ++ bytes ≡ said_of (events old ++ Said bytes ∷ [])
    one_more = sym (said_of-push (events old) (Said bytes) ∙ ap (λ (l : List ℕ). said_of (events old) ++ l) (append-nil bytes))

-- a write
pub recorded_wrote : (old new : Vec Happening Global) (files later : List MemoryFile) (replies : List ℕ) (w : Write) → w.at ≤ length (content (stored (events old) w.file)) → IsRecorded old files replies → Takes w.file (put w.at w.bytes (bytes_in w.file files)) files later → events new ≡ events old ++ Wrote w ∷ [] → length new.items + unsynced_count later ≤ vec_capacity new → IsRecorded new later replies
recorded_wrote old new files later replies w within was takes is room = record {
  kept = λ n. subst (λ (es : List Event). IsKept n later es) (sym is) (record {
    bytes = takes.bytes_of n ∙ written n (cases_eq n w.file) ∙ ap content (sym (stored-push (events old) (Wrote w) n));
    clean = λ clean. clean_after n (sym (takes.unsynced_of n) ∙ clean);
  });
  placed = λ n. subst (IsPlaced n nothing) (sym is) (placed_push n nothing (events old) (Wrote w) (was.placed n) (λ here. subst (λ (m : ℕ). w.at ≤ length (content (stored (events old) m))) (sym here) within));
  said = was.said ∙ said_same ∙ ap said_of (sym is);
  room = room;
}
  where
    said_same : said_of (events old) ≡ said_of (events old ++ Wrote w ∷ [])
    said_same = sym (said_of-push (events old) (Wrote w) ∙ append-nil (said_of (events old)))

    written : (n : ℕ) → (n ≡ w.file) ⊎ (n ≢ w.file) → (if n == w.file then put w.at w.bytes (bytes_in w.file files) else bytes_in n files) ≡ content (after n (stored (events old) n) (Wrote w))
    written n (inl here) =
        let yes : (n == w.file) ≡ true = grind (arith, nat_tests) in
        ap (λ b. if b then put w.at w.bytes (bytes_in w.file files) else bytes_in n files) yes
        ∙ ap (λ (m : ℕ). put w.at w.bytes (bytes_in m files)) (sym here)
        ∙ ap (λ (l : List ℕ). put w.at w.bytes l) (was.kept n).bytes
        ∙ ap (λ b. content (if b then record (stored (events old) n) { unsynced = w ∷ (stored (events old) n).unsynced } else stored (events old) n)) (sym yes)
    written n (inr far) =
        let off : (n == w.file) ≡ false = grind (arith, nat_tests) in
        ap (λ b. if b then put w.at w.bytes (bytes_in w.file files) else bytes_in n files) off
        ∙ (was.kept n).bytes
        ∙ ap (λ b. content (if b then record (stored (events old) n) { unsynced = w ∷ (stored (events old) n).unsynced } else stored (events old) n)) (sym off)

    clean_by : (n : ℕ) (b : Bool) → (if b then true else unsynced_in n files) ≡ false → (if b then record (stored (events old) n) { unsynced = w ∷ (stored (events old) n).unsynced } else stored (events old) n).unsynced ≡ []
    clean_by n true clean = cc
    clean_by n false clean = (was.kept n).clean clean

    clean_after : (n : ℕ) → (if n == w.file then true else unsynced_in n files) ≡ false → (stored (events old ++ Wrote w ∷ []) n).unsynced ≡ []
    clean_after n clean = ap (λ (s : Stored). s.unsynced) (stored-push (events old) (Wrote w) n) ∙ clean_by n (n == w.file) clean

-- a sync of a file that had writes to be synced
pub recorded_synced : (old new : Vec Happening Global) (files later : List MemoryFile) (replies : List ℕ) (file : ℕ) → IsRecorded old files replies → Settles file true files later → events new ≡ events old ++ Synced file ∷ [] → length new.items ≡ length old.items + 1 → vec_capacity old ≤ vec_capacity new → IsRecorded new later replies
recorded_synced old new files later replies file was settles is longer more = record {
  kept = λ n. subst (λ (es : List Event). IsKept n later es) (sym is) (record {
    bytes = settles.bytes_of n ∙ (was.kept n).bytes ∙ sym (ap content (stored-push (events old) (Synced file) n) ∙ content_by n (n == file));
    clean = λ clean. ap (λ (s : Stored). s.unsynced) (stored-push (events old) (Synced file) n) ∙ clean_by n (n == file) (sym (settles.unsynced_of n) ∙ clean);
  });
  placed = λ n. subst (IsPlaced n nothing) (sym is) (placed_push n nothing (events old) (Synced file) (was.placed n) tt);
  said = was.said ∙ sym (said_of-push (events old) (Synced file) ∙ append-nil (said_of (events old))) ∙ ap said_of (sym is);
  room = omega (arith, was.room, more, longer, settles.fewer);
}
  where
    content_by : (n : ℕ) (b : Bool) → content (if b then record { synced = content (stored (events old) n); unsynced = [] } else stored (events old) n) ≡ content (stored (events old) n)
    content_by n true = refl
    content_by n false = refl

    clean_by : (n : ℕ) (b : Bool) → (if b then false else unsynced_in n files) ≡ false → (if b then record { synced = content (stored (events old) n); unsynced = [] } else stored (events old) n).unsynced ≡ []
    clean_by n true clean = refl
    clean_by n false clean = (was.kept n).clean clean

-- what a push with room to spare does
pushed_items : (old reserved new : List Happening) (x : Happening) (done : Bool) → reserved ≡ old → new ≡ (if done then reserved ++ x ∷ [] else reserved) → done ≡ true → new ≡ old ++ x ∷ []
pushed_items old reserved new x done same is pushed =
    is ∙ ap (λ b. if b then reserved ++ x ∷ [] else reserved) pushed ∙ ap (λ (l : List Happening). l ++ x ∷ []) same

-- a say, with room for a sync of each file
pub keeps_said : (old reserved new : Vec Happening Global) (files : List MemoryFile) (replies later bytes : List ℕ) (x : Happening) (done : Bool) (spare : ℕ)
    → IsRecorded old files replies → reserved.items ≡ old.items → vec_len reserved + spare ≤ vec_capacity reserved → length files + 1 ≤ spare
    → new.items ≡ (if done then reserved.items ++ x ∷ [] else reserved.items) → vec_capacity reserved ≤ vec_capacity new → done ≡ true
    → event_of x ≡ Said bytes → later ≡ replies ++ bytes → IsRecorded new files later
keeps_said old reserved new files replies later bytes x done spare was same room enough is more pushed event says =
    subst (λ (l : List ℕ). IsRecorded new files l) (sym says) (recorded_said old new files replies bytes was
    (ap (λ (l : List Happening). map event_of l) items ∙ events-push old.items x ∙ ap (λ (e : Event). map event_of old.items ++ e ∷ []) event)
    (omega (arith, room, enough, more, reserved.ok.0, ap length same, ap length items, length-append old.items (x ∷ []), count-le-length files)))
  where
    items : new.items ≡ old.items ++ x ∷ []
    items = pushed_items old.items reserved.items new.items x done same is pushed

-- a write, likewise
pub keeps_wrote : (old reserved new : Vec Happening Global) (files there later : List MemoryFile) (replies : List ℕ) (w : Write) (x : Happening) (done : Bool) (spare : ℕ)
    → w.at ≤ length (content (stored (events old) w.file)) → IsRecorded old files replies → Same files there → reserved.items ≡ old.items → vec_capacity old ≤ vec_capacity reserved → vec_len reserved + spare ≤ vec_capacity reserved → length there + 1 ≤ spare
    → Takes w.file (put w.at w.bytes (bytes_in w.file there)) there later
    → new.items ≡ (if done then reserved.items ++ x ∷ [] else reserved.items) → vec_capacity reserved ≤ vec_capacity new → done ≡ true
    → event_of x ≡ Wrote w → IsRecorded new later replies
keeps_wrote old reserved new files there later replies w x done spare within was alike same grown room enough takes is more pushed event =
    recorded_wrote reserved new there later replies w (subst (λ (xs : List Happening). w.at ≤ length (content (stored (map event_of xs) w.file))) (sym same) within) (recorded_same old reserved files there replies was alike same grown) takes
    (ap (λ (l : List Happening). map event_of l) items ∙ events-push reserved.items x ∙ ap (λ (e : Event). map event_of reserved.items ++ e ∷ []) event)
    (omega (arith, room, enough, more, reserved.ok.0, ap length items, length-append reserved.items (x ∷ []), count-le-length later, takes.same_number))
  where
    items : new.items ≡ reserved.items ++ x ∷ []
    items = pushed_items reserved.items reserved.items new.items x done refl is pushed

-- a sync of a file that had writes to be synced
pub keeps_synced : (old new : Vec Happening Global) (files later : List MemoryFile) (replies : List ℕ) (file : ℕ) (x : Happening) (done : Bool)
    → IsRecorded old files replies → Settles file true files later → new.items ≡ (if done then old.items ++ x ∷ [] else old.items) → vec_capacity old ≤ vec_capacity new → done ≡ true
    → event_of x ≡ Synced file → IsRecorded new later replies
keeps_synced old new files later replies file x done was settles is more pushed event =
    recorded_synced old new files later replies file was settles
    (ap (λ (l : List Happening). map event_of l) items ∙ events-push old.items x ∙ ap (λ (e : Event). map event_of old.items ++ e ∷ []) event)
    (omega (arith, ap length items, length-append old.items (x ∷ []))) more
  where
    items : new.items ≡ old.items ++ x ∷ []
    items = pushed_items old.items old.items new.items x done refl is pushed

-- the record has room for the sync of a file that has writes to be synced
pub has_room : (old : Vec Happening Global) (files later : List MemoryFile) (replies : List ℕ) (file : ℕ) → IsRecorded old files replies → Settles file true files later → vec_len old < vec_capacity old
has_room old files later replies file was settles = omega (arith, was.room, settles.fewer, old.ok.0)

-- a file that was cut
pub recorded_cut : (old new : Vec Happening Global) (files later : List MemoryFile) (replies : List ℕ) (file len : ℕ) → IsRecorded old files replies
    → events new ≡ map (cut_event file len) (events old) → Shortens file len files later → length new.items ≡ length old.items → vec_capacity old ≤ vec_capacity new → IsRecorded new later replies
recorded_cut old new files later replies file len was is shortens same more = record {
  kept = λ n. subst (λ (es : List Event). IsKept n later es) (sym is) (record {
    bytes = shortens.bytes_of n ∙ held n (cases_eq n file);
    clean = λ clean. clean_by n (cases_eq n file) (sym (shortens.unsynced_of n) ∙ clean);
  });
  placed = λ n. subst (IsPlaced n nothing) (sym is) (cut_placed file len (events old) was.placed n);
  said = was.said ∙ sym (cut_said file len (events old)) ∙ ap said_of (sym is);
  room = omega (arith, was.room, same, more, shortens.count);
}
  where
    held : (n : ℕ) → (n ≡ file) ⊎ (n ≢ file) → (if n == file then take len (bytes_in file files) else bytes_in n files) ≡ content (stored (map (cut_event file len) (events old)) n)
    held n (inl here) =
        let yes : (n == file) ≡ true = grind (arith, nat_tests) in
        ap (λ b. if b then take len (bytes_in file files) else bytes_in n files) yes
        ∙ ap (λ (l : List ℕ). take len l) (was.kept file).bytes
        ∙ sym (cut_content file len (events old) (was.placed file))
        ∙ ap (λ (m : ℕ). content (stored (map (cut_event file len) (events old)) m)) (sym here)
    held n (inr far) =
        let off : (n == file) ≡ false = grind (arith, nat_tests) in
        ap (λ b. if b then take len (bytes_in file files) else bytes_in n files) off
        ∙ (was.kept n).bytes ∙ ap content (sym (cut_stored file len (events old) n far))

    clean_by : (n : ℕ) → (n ≡ file) ⊎ (n ≢ file) → unsynced_in n files ≡ false → (stored (map (cut_event file len) (events old)) n).unsynced ≡ []
    clean_by n (inl here) clean =
        subst (λ (m : ℕ). (stored (map (cut_event file len) (events old)) m).unsynced ≡ []) (sym here)
        (cut_clean file len (events old) (was.placed file) ((was.kept file).clean (subst (λ (m : ℕ). unsynced_in m files ≡ false) here clean)))
    clean_by n (inr far) clean = ap (λ (s : Stored). s.unsynced) (cut_stored file len (events old) n far) ∙ (was.kept n).clean clean
