-- What is seen while an entry is written, from call to call.
use Rattle.std.proofs.Common.{◌≡◌, ◌≢◌, ℕ, ◌+◌, ◌≤◌, true, false, List, [], ◌∷◌, ◌++◌, length, take, drop, Option, Some, None, IfSome, if◌then◌else◌, ◌==◌, refl, sym, ◌∙◌, ap, subst, arith, length-append, length-take-le, add-zero}
use Rattle.std.proofs.lemmas.Bool.Decides.{nat_tests}
use Rattle.std.proofs.lemmas.List.Elements.{All-nil}
use Rattle.std.specs.List.{flat_map}
use Rattle.coco_bytes.specs.Fields.{u32_bytes}
use Rattle.coco_host.specs.Files.{Files, put, put_into, TornIn, Become, Follows, IsDurable}
use Rattle.coco_host.specs.Moments.{Observation, IsNew, Elapses, SeesOnly}
use Rattle.coco_host.proofs.Sees.{started, goes_on, said_still}
use Rattle.coco_host.specs.declared.host.Host.{Ghosts as HostGhosts}
use Rattle.coco_log.specs.Grammar.{header, counted, entry, front, IsShort, IsPiece, IsLog}
use Rattle.coco_log.specs.LogState.{LogState, without_entries, with_entry, places_from, IsAtRest, IsReady, IsBeforeOrAfter, ChangesOne, IsWritten, IsAppended, IsMade}
use Rattle.coco_log.specs.Making.{TearsOne}
use Rattle.coco_log.proofs.Steps.{Image, image_first, image_behind, image_gate, opened_is, written_is, front-push}

-- one file of those that something was put into
pub put_here : (file at : ℕ) (bytes : List ℕ) (files : Files) → put_into file at bytes files file ≡ put at bytes (files file)
put_here file at bytes files = let same : (file == file) ≡ true = grind (arith, nat_tests) in ap (λ b. if b then put at bytes (files file) else files file) same

pub put_elsewhere : (file at : ℕ) (bytes : List ℕ) (files : Files) (n : ℕ) → n ≢ file → put_into file at bytes files n ≡ files n
put_elsewhere file at bytes files n other = let off : (n == file) ≡ false = grind (arith, nat_tests) in ap (λ b. if b then put at bytes (files n) else files n) off

-- files that were told are told still
pub told_on : (goes : Files → Files → Type 0) (before after : Option Files) (files : Files) → before ≡ Some files → Become goes before after → (later : Files) × (after ≡ Some later) × goes files later
told_on goes before after files told become = subst (λ (o : Option Files). Become goes o after) told become

-- files that a crash might have left, with some bytes of one torn
abbrev pub TornFrom : ℕ → ℕ → ℕ → (Files → Type 0) → Files → Type 0
TornFrom file at count old c = (d : Files) × old d × TornIn file at count d c

untorn : (file at count : ℕ) (c : Files) → TornIn file at count c c
untorn file at count c = record { inside = record { before = refl; after = refl; no_shorter = omega arith; no_longer = omega arith }; elsewhere = λ n other. refl }

module _ {H : Type 0} (frame : HostGhosts H)
    (only_now : (host : H) (seen : Observation) → frame.observed host (frame.moment host) seen → frame.may_leave host seen.image × (frame.said host ≡ Some seen.said))
    (file kind gate : ℕ) (bodies : List (List ℕ)) (body piece : List ℕ) (files : Files) (first : H) (ready : IsReady file kind gate bodies files (frame.may_leave first)) (is : IsPiece body piece) where
  abbrev pub Left : Files → Type 0
  Left = Image file kind gate bodies body piece files (frame.may_leave first) ready.log ready.at ready.durable is

  abbrev pub Seen : Observation → Type 0
  Seen = ChangesOne file (IsBeforeOrAfter kind bodies body) (frame.may_leave first) (frame.said first)

  seen_by : (seen : Observation) → Left seen.image → frame.said first ≡ Some seen.said → Seen seen
  seen_by seen image bytes = record { such = image.0; before = image.1.0; was_left = image.1.1; others = image.1.2; said = bytes }

  pub at_first : SeesOnly frame.moment frame.observed first first Seen
  at_first = started frame.moment frame.observed first Seen (λ seen since. let now = only_now first seen since in seen_by seen (image_first file kind gate bodies body piece files (frame.may_leave first) ready.log ready.at ready.durable is seen.image now.0) now.1)

  pub left_behind : (wrote : H) → Follows (TornIn file (gate + 1) (length piece)) (frame.may_leave first) (frame.may_leave wrote) → (c : Files) → frame.may_leave wrote c → Left c
  left_behind wrote follows = image_behind file kind gate bodies body piece files (frame.may_leave first) ready.log ready.at ready.durable is (frame.may_leave wrote) follows

  -- while the piece is written
  pub seen_behind : (seen : Observation) → TearsOne file (gate + 1) (length piece) (frame.may_leave first) (frame.said first) seen → Seen seen
  seen_behind seen tears = seen_by seen (image_behind file kind gate bodies body piece files (frame.may_leave first) ready.log ready.at ready.durable is
      (TornFrom file (gate + 1) (length piece) (frame.may_leave first)) (λ c torn. torn) seen.image (tears.before, tears.was_left, tears.torn)) tears.said

  -- while the gate is opened, over a piece that stands
  pub seen_gate : (synced : H) → Follows (TornIn file (gate + 1) (length piece)) (frame.may_leave first) (frame.may_leave synced)
      → ((c : Files) → frame.may_leave synced c → c file ≡ put (gate + 1) piece (files file)) → frame.said synced ≡ frame.said first
      → (seen : Observation) → TearsOne file gate 1 (frame.may_leave synced) (frame.said synced) seen → Seen seen
  seen_gate synced follows stands same seen tears = seen_by seen (image_gate file kind gate bodies body piece files (frame.may_leave first) ready.log ready.at ready.durable is
      (frame.may_leave synced) (TornFrom file gate 1 (frame.may_leave synced)) (left_behind synced follows) stands (λ c torn. torn) seen.image (tears.before, tears.was_left, tears.torn)) (sym same ∙ tears.said)

  -- the piece stands behind the gate in all that a crash leaves after the first sync
  pub staged : (reads : Option Files) (synced : H) → reads ≡ Some (put_into file (gate + 1) piece files) → IsDurable file reads (frame.may_leave synced) → (c : Files) → frame.may_leave synced c → c file ≡ put (gate + 1) piece (files file)
  staged reads synced are durable c left = durable (put_into file (gate + 1) piece files) are c left ∙ put_here file (gate + 1) piece files

  -- after the second sync
  pub stands : (reads : Option Files) (last : H) → reads ≡ Some (put_into file gate (1 ∷ []) (put_into file (gate + 1) piece files)) → IsDurable file reads (frame.may_leave last) → (now : Option Files) → now ≡ reads → IsWritten file kind gate bodies body files now (frame.may_leave last)
  stands reads last are durable now same = record {
    files = put_into file gate (1 ∷ []) (put_into file (gate + 1) piece files);
    are = same ∙ are;
    log = subst (IsLog kind (bodies ++ body ∷ [])) (sym (put_here file gate (1 ∷ []) (put_into file (gate + 1) piece files) ∙ ap (λ (l : List ℕ). put gate (1 ∷ []) l) (put_here file (gate + 1) piece files))) (opened_is file kind gate bodies body piece files (frame.may_leave first) ready.log ready.at ready.durable is);
    bytes = put_here file gate (1 ∷ []) (put_into file (gate + 1) piece files) ∙ ap (λ (l : List ℕ). put gate (1 ∷ []) l) (put_here file (gate + 1) piece files)
        ∙ written_is file kind gate bodies body piece files (frame.may_leave first) ready.log ready.at ready.durable is;
    durable = λ c left. durable (put_into file gate (1 ∷ []) (put_into file (gate + 1) piece files)) are c left;
    others = λ n other. put_elsewhere file gate (1 ∷ []) (put_into file (gate + 1) piece files) n other ∙ put_elsewhere file (gate + 1) piece files n other;
  }

-- what files that are told read as after a write
pub told_put : (file at : ℕ) (bytes : List ℕ) (before after : Option Files) (files : Files) → before ≡ Some files → Become (λ old new. new ≡ put_into file at bytes old) before after → after ≡ Some (put_into file at bytes files)
told_put file at bytes before after files told become =
    let later = told_on (λ old new. new ≡ put_into file at bytes old) before after files told become in
    later.1 ∙ ap Some later.2

-- a file that was long enough is so after a write behind
pub room_stays : (file at g : ℕ) (bytes : List ℕ) (before after : Option Files) → g ≤ at → IfSome before (λ fs. at ≤ length (fs file)) → Become (λ old new. new ≡ put_into file at bytes old) before after → IfSome after (λ fs. g ≤ length (fs file))
room_stays file at g bytes None after le room become = subst (λ (o : Option Files). IfSome o (λ fs. g ≤ length (fs file))) (sym become) tt
room_stays file at g bytes (Some fs) after le room become =
    subst (λ (o : Option Files). IfSome o (λ xs. g ≤ length (xs file))) (sym become.1)
    (subst (λ (xs : Files). g ≤ length (xs file)) (sym become.2)
    (subst (λ (l : List ℕ). g ≤ length l) (sym (put_here file at bytes fs)) (omega (arith, le, length-append (take at (fs file)) (bytes ++ drop (at + length bytes) (fs file)), length-take-le at (fs file) room))))

-- the last gate of a log at rest is in its file
pub gate_within : (log : LogState) (bodies : List (List ℕ)) (files : Files) (may_leave : Files → Type 0) → IsAtRest log bodies files may_leave → log.end + 1 ≤ length (files log.file)
gate_within log bodies files may_leave rest =
    let log_is = rest.holds.is_log in
    omega (arith, rest.holds.end, ap length log_is.is, length-append (front log.kind bodies) (log_is.gate ∷ log_is.behind))

pub ready_of : (log : LogState) (bodies : List (List ℕ)) (files : Files) (may_leave : Files → Type 0) → IsAtRest log bodies files may_leave → IsReady log.file log.kind log.end bodies files may_leave
ready_of log bodies files may_leave rest = record { log = rest.holds.is_log; at = rest.holds.end; durable = rest.durable }

-- the place of one gate more, and where the last one stands then
places-push : (at : ℕ) (bodies : List (List ℕ)) (body : List ℕ) → places_from at (bodies ++ body ∷ []) ≡ places_from at bodies ++ (at + length (flat_map entry bodies)) ∷ []
places-push at [] body = ap (λ (n : ℕ). n ∷ []) (sym (add-zero at))
places-push at (b ∷ bodies) body =
    ap (λ (l : List ℕ). at ∷ l) (places-push (at + length (entry b)) bodies body ∙ ap (λ (n : ℕ). places_from (at + length (entry b)) bodies ++ n ∷ []) (omega (arith, length-append (entry b) (flat_map entry bodies))))

pub places_more : (kind : ℕ) (bodies : List (List ℕ)) (body : List ℕ) → places_from 8 (bodies ++ body ∷ []) ≡ places_from 8 bodies ++ length (front kind bodies) ∷ []
places_more kind bodies body = places-push 8 bodies body ∙ ap (λ (n : ℕ). places_from 8 bodies ++ n ∷ []) (omega (arith, length-append (header kind) (flat_map entry bodies)))

pub end_more : (kind : ℕ) (bodies : List (List ℕ)) (body : List ℕ) → length (front kind (bodies ++ body ∷ [])) ≡ length (front kind bodies) + 5 + length body
end_more kind bodies body =
    let long : length (counted body) ≡ 4 + length body = length-append (u32_bytes (length body)) body in
    omega (arith, ap length (front-push kind bodies body), length-append (front kind bodies) (entry body), long)

-- the log after an append
pub appended : (old new : LogState) (bodies : List (List ℕ)) (body : List ℕ) (files : Files) (reads : Option Files) (before may_leave : Files → Type 0) → IsAtRest old bodies files before
    → new ≡ with_entry old body
    → IsWritten old.file old.kind old.end bodies body files reads may_leave → IsAppended old new bodies body files reads may_leave
appended old new bodies body files reads before may_leave rest is stands = subst (λ (log : LogState). IsAppended old log bodies body files reads may_leave) (sym is) (record {
  files = stands.files;
  are = stands.are;
  rest = record {
    holds = record {
      is_log = stands.log;
      places = ap (λ (l : List ℕ). l ++ old.end ∷ []) rest.holds.places ∙ ap (λ (n : ℕ). places_from 8 bodies ++ n ∷ []) rest.holds.end ∙ sym (places_more old.kind bodies body);
      end = omega (arith, rest.holds.end, end_more old.kind bodies body);
    };
    durable = stands.durable;
  };
  bytes = stands.bytes;
  others = stands.others;
})

-- a log that was made
pub made : (log : LogState) (file kind : ℕ) (files : Files) (reads wrote : Option Files) (may_leave : Files → Type 0)
    → log ≡ without_entries file kind → wrote ≡ Some (put_into file 0 (header kind ++ 0 ∷ []) files) → reads ≡ wrote → IsDurable file wrote may_leave → IsMade log file kind files reads may_leave
made log file kind files reads wrote may_leave is are same durable = subst (λ (l : LogState). IsMade l file kind files reads may_leave) (sym is) (record {
  files = put_into file 0 (header kind ++ 0 ∷ []) files;
  are = same ∙ are;
  rest = record {
    holds = record {
      is_log = record {
        gate = 0;
        behind = drop 9 (files file);
        short = All-nil IsShort;
        shut = omega arith;
        is = put_here file 0 (header kind ++ 0 ∷ []) files;
      };
      places = refl;
      end = refl;
    };
    durable = λ c left. durable (put_into file 0 (header kind ++ 0 ∷ []) files) are c left;
  };
  bytes = put_here file 0 (header kind ++ 0 ∷ []) files;
  others = λ n other. put_elsewhere file 0 (header kind ++ 0 ∷ []) files n other;
})

-- bytes are written into one file: they are torn, and the others are as they were
module _ {H : Type 0} (frame : HostGhosts H)
    (only_now : (host : H) (seen : Observation) → frame.observed host (frame.moment host) seen → frame.may_leave host seen.image × (frame.said host ≡ Some seen.said)) (file at count : ℕ) (first : H) where
  abbrev pub Tears : Observation → Type 0
  Tears = TearsOne file at count (frame.may_leave first) (frame.said first)

  tears_by : (seen : Observation) → TornFrom file at count (frame.may_leave first) seen.image → frame.said first ≡ Some seen.said → Tears seen
  tears_by seen torn bytes = record { before = torn.0; was_left = torn.1; torn = torn.2; said = bytes }

  pub tears_first : SeesOnly frame.moment frame.observed first first Tears
  tears_first = started frame.moment frame.observed first Tears (λ seen since. let now = only_now first seen since in tears_by seen (seen.image, now.0, untorn file at count seen.image) now.1)

  pub tears_on : (mid new : H) → SeesOnly frame.moment frame.observed first mid Tears → frame.said mid ≡ frame.said first → frame.said new ≡ frame.said mid → Elapses (frame.moment mid) (frame.moment new) (frame.observed mid) (frame.observed new) (IsNew (frame.may_leave new) (frame.said mid) (frame.said new))
      → Follows (TornIn file at count) (frame.may_leave first) (frame.may_leave new) → SeesOnly frame.moment frame.observed first new Tears
  tears_on mid new so_far same still time images =
      goes_on frame.moment frame.observed first mid new Tears (IsNew (frame.may_leave new) (frame.said mid) (frame.said new)) so_far time (λ seen is_new. tears_by seen (images seen.image is_new.image) (sym (still ∙ same) ∙ said_still (frame.said mid) (frame.said new) seen.said still is_new.said))
