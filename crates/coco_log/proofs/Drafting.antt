-- A log that is drafted, from call to call.
use Rattle.std.proofs.Common.{◌≡◌, true, ◌==◌, ℕ, ◌+◌, ◌≤◌, List, [], ◌∷◌, ◌++◌, length, take, drop, Option, Some, None, IfSome, refl, sym, ◌∙◌, ap, subst, arith, append_assoc, length-append, length-take-le}
use Rattle.std.specs.List.{list_any}
use Rattle.std.proofs.lemmas.Bool.Decides.{nat_tests}
use Rattle.std.proofs.lemmas.List.{append-nil, take_at}
use Rattle.std.proofs.lemmas.List.Elements.{All-nil, All-push}
use Rattle.coco_host.specs.Files.{Files, put, put_into, Become, Follows, IsDurable}
use Rattle.coco_host.specs.Moments.{Observation, IsNew, Elapses}
use Rattle.coco_host.proofs.Sees.{goes_on, said_still}
use Rattle.coco_host.specs.declared.host.Host.{Ghosts as HostGhosts}
use Rattle.coco_log.specs.Changes.{ChangesNamed, ChangesOnly}
use Rattle.coco_log.specs.Grammar.{entry, IsShort}
use Rattle.coco_log.specs.LogState.{SameBut}
use Rattle.coco_log.specs.Drafts.{begun, Drafted, Drafts, HasLog}
use Rattle.coco_log.proofs.Appends.{put_here}
use Rattle.coco_log.proofs.Changing.{become_wider, besides_one, changes_none}
use Rattle.coco_log.proofs.Steps.{front-push}

module _ {H : Type 0} (frame : HostGhosts H)
    (only_now : (host : H) (seen : Observation) → frame.observed host (frame.moment host) seen → frame.may_leave host seen.image × (frame.said host ≡ Some seen.said)) (file : ℕ) where
  -- a call on the file
  pub changed : (old new : H) → Become (SameBut file) (frame.reads old) (frame.reads new) → Follows (SameBut file) (frame.may_leave old) (frame.may_leave new) → frame.said new ≡ frame.said old
      → Elapses (frame.moment old) (frame.moment new) (frame.observed old) (frame.observed new) (IsNew (frame.may_leave new) (frame.said old) (frame.said new)) → ChangesOnly frame (file ∷ []) old new
  changed old new files crash still time =
      let here : list_any (λ n. n == file) (file ∷ []) ≡ true = grind (arith, nat_tests) in
      let besides = besides_one (file ∷ []) file here in
      let none = changes_none frame only_now (file ∷ []) old in
      record {
        moments = λ fs told. goes_on frame.moment frame.observed old old new (ChangesNamed (file ∷ []) (frame.may_leave old) (frame.said old)) (IsNew (frame.may_leave new) (frame.said old) (frame.said new)) (none.moments fs told) time (λ seen is_new.
            let from = crash seen.image is_new.image in
            record { before = from.0; was_left = from.1; others = besides from.0 seen.image from.2; said = sym still ∙ said_still (frame.said old) (frame.said new) seen.said still is_new.said });
        files = become_wider (SameBut file) (file ∷ []) (frame.reads old) (frame.reads new) besides files;
        crash = λ c left. let from = crash c left in (from.0, from.1, besides from.0 c from.2);
        quiet = still;
      }

-- ---- entries

-- one entry more that is to come
pub drafts_more : (old new : Drafted) (body : List ℕ) (bodies : List (List ℕ)) (reads : Option Files) → new ≡ record old { rest = old.rest ++ entry body } → IsShort body → Drafts old bodies reads → Drafts new (bodies ++ body ∷ []) reads
drafts_more old new body bodies None is short drafts = tt
drafts_more old new body bodies (Some files) is short drafts = subst (λ (d : Drafted). Drafts d (bodies ++ body ∷ []) (Some files)) (sym is) (record {
  short = All-push IsShort bodies body drafts.short short;
  there = drafts.there;
  is = sym (append_assoc (take old.written (files old.file)) old.rest (entry body)) ∙ ap (λ (l : List ℕ). l ++ entry body) drafts.is ∙ sym (front-push old.kind bodies body);
})

-- all that was to come was written
pub drafts_written : (old new : Drafted) (bodies : List (List ℕ)) (before after : Option Files) → new ≡ record old { written = old.written + length old.rest; rest = [] }
    → Become (λ a b. b ≡ put_into old.file old.written old.rest a) before after → Drafts old bodies before → Drafts new bodies after
drafts_written old new bodies None after is wrote drafts = subst (λ (o : Option Files). Drafts new bodies o) (sym wrote) tt
drafts_written old new bodies (Some files) after is wrote drafts =
    subst (λ (o : Option Files). Drafts new bodies o) (sym (wrote.1 ∙ ap Some wrote.2))
    (subst (λ (d : Drafted). Drafts d bodies (Some (put_into old.file old.written old.rest files))) (sym is)
    (let here = put_here old.file old.written old.rest files in
    let front_long : length (take old.written (files old.file)) ≡ old.written = length-take-le old.written (files old.file) drafts.there in
    let long : length (put old.written old.rest (files old.file)) ≡ old.written + (length old.rest + length (drop (old.written + length old.rest) (files old.file))) =
    omega (arith, front_long, length-append (take old.written (files old.file)) (old.rest ++ drop (old.written + length old.rest) (files old.file)), length-append old.rest (drop (old.written + length old.rest) (files old.file))) in
    record {
      short = drafts.short;
      there = omega (arith, ap length here, long);
      is = append-nil (take (old.written + length old.rest) (put_into old.file old.written old.rest files old.file))
          ∙ ap (λ (l : List ℕ). take (old.written + length old.rest) l) (here ∙ sym (append_assoc (take old.written (files old.file)) old.rest (drop (old.written + length old.rest) (files old.file))))
          ∙ take_at (take old.written (files old.file) ++ old.rest) (drop (old.written + length old.rest) (files old.file)) (old.written + length old.rest) (omega (arith, front_long, length-append (take old.written (files old.file)) old.rest))
          ∙ drafts.is;
    }))

-- the rest and a closed gate were written, and the file was synced
pub has_log : (old : Drafted) (bodies : List (List ℕ)) (before after now : Option Files) (may_leave : Files → Type 0) → Become (λ a b. b ≡ put_into old.file old.written (old.rest ++ 0 ∷ []) a) before after
    → now ≡ after → IsDurable old.file after may_leave → Drafts old bodies before → HasLog old.kind bodies old.file now may_leave
has_log old bodies None after now may_leave wrote same durable drafts = subst (λ (o : Option Files). HasLog old.kind bodies old.file o may_leave) (sym (same ∙ wrote)) tt
has_log old bodies (Some files) after now may_leave wrote same durable drafts =
    let last : Files = put_into old.file old.written (old.rest ++ 0 ∷ []) files in
    let told : after ≡ Some last = wrote.1 ∙ ap Some wrote.2 in
    let behind : List ℕ = drop (old.written + length (old.rest ++ 0 ∷ [])) (files old.file) in
    subst (λ (o : Option Files). HasLog old.kind bodies old.file o may_leave) (sym (same ∙ told)) (record {
      log = record {
        gate = 0;
        behind = behind;
        short = drafts.short;
        shut = omega arith;
        is = put_here old.file old.written (old.rest ++ 0 ∷ []) files
            ∙ ap (λ (l : List ℕ). take old.written (files old.file) ++ l) (append_assoc old.rest (0 ∷ []) behind)
            ∙ sym (append_assoc (take old.written (files old.file)) old.rest (0 ∷ behind))
            ∙ ap (λ (l : List ℕ). l ++ 0 ∷ behind) drafts.is;
      };
      durable = λ c left. durable last told c left;
    })

-- what was to come may be written
pub room_of : (draft : Drafted) (bodies : List (List ℕ)) (reads : Option Files) → Drafts draft bodies reads → IfSome reads (λ files. draft.written ≤ length (files draft.file))
room_of draft bodies None drafts = tt
room_of draft bodies (Some files) drafts = drafts.there

pub drafts_none : (file kind : ℕ) (reads : Option Files) → Drafts (begun file kind) [] reads
drafts_none file kind None = tt
drafts_none file kind (Some files) = record { short = All-nil IsShort; there = omega arith; is = refl }
