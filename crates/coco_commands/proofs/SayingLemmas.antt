-- A text that is said piece by piece.
use Rattle.std.proofs.Common.{◌≡◌, ℕ, ◌<◌, ◌≤◌, List, [], ◌++◌, length, take, drop, Option, Some, refl, sym, ap, subst, ◌∙◌, arith, append_assoc, append-nil, length-append}
use Rattle.std.proofs.Math.Seq.{take-append_seam}
use Rattle.std.proofs.lemmas.List.{take-append-drop}
use Rattle.std.specs.Io.KnownBytes.{append_known}
use Rattle.coco_asks.proofs.HostLemmas.{OnlySays, says_more, says_nothing}
use Rattle.coco_audit.specs.Dumping.{text_of}
use Rattle.coco_ending.specs.declared.ending.Ending.{Ending}
use Rattle.coco_ending.specs.declared.ending.Ending.TheVariants as ending
use Rattle.coco_host.specs.Files.{Files, NoMore}
use Rattle.coco_host.specs.Moments.{IsNew, Observation, SeesOnly}
use Rattle.coco_host.specs.declared.host.Host.{Ghosts as HostGhosts}
use Rattle.coco_io.specs.Counts.{Rose}
use Rattle.coco_serve.specs.Faults.{Counts}
use Rattle.coco_commands.specs.Telling.{Says, SaysText}

abbrev IsFront : List ℕ → Option (List ℕ) → Option (List ℕ) → Type 0
IsFront whole before now = (k : ℕ) × (k ≤ length whole) × (now ≡ append_known before (take k whole))

front_of : (whole front behind : List ℕ) (before now : Option (List ℕ)) → whole ≡ front ++ behind → now ≡ append_known before front → IsFront whole before now
front_of whole front behind before now is says = (
  length front,
  omega (arith, ap length is, length-append front behind),
  says ∙ ap (append_known before) (sym (ap (take (length front)) is ∙ take-append_seam front behind)),
)

-- a piece that isn't empty leaves fewer bytes
pub fewer : (whole piece others : List ℕ) → whole ≡ piece ++ others → 0 < length piece → length others < length whole
fewer whole piece others is some = omega (arith, ap length is, length-append piece others, some)

module _ {H : Type 0} (frame : HostGhosts H)
    (say_faults disk_faults : H → ℕ) (first : H) (whole : List ℕ) where
  abbrev counts : H → Counts
  counts host = record { say = say_faults host; disk = disk_faults host }

  abbrev OnlySaid : H → List ℕ → Type 0
  OnlySaid = OnlySays frame first

  -- a front of the text was said, and these lines are to come
  pub record IsSaying (lines : List (List ℕ)) (host : H) : Type 0 where
    pub front : List ℕ
    pub only : OnlySaid host front
    pub all : whole ≡ front ++ text_of lines
    pub says : say_faults host ≡ say_faults first
    pub disks : disk_faults host ≡ disk_faults first

  abbrev Ends : Ending → H → Type 0
  Ends how host = Says frame whole ending.Finished how (counts first) (counts host) first host

  ends_so : (how : Ending) (host : H) (front : List ℕ) → OnlySaid host front → disk_faults host ≡ disk_faults first
      → SaysText whole ending.Finished how (frame.said first) (frame.said host) (counts first) (counts host) → Ends how host
  ends_so how host front only disks says = record { says = says; same = only.same; crash = only.crash; sees = only.sees; disk = disks }

  pub saying_new : ((host : H) (seen : Observation) → frame.observed host (frame.moment host) seen → frame.may_leave host seen.image × (frame.said host ≡ Some seen.said)) → (lines : List (List ℕ))
      → whole ≡ text_of lines → IsSaying lines first
  saying_new only_now lines is = record {
    front = [];
    only = says_nothing frame only_now first;
    all = is;
    says = refl;
    disks = refl;
  }

  module _ (lines : List (List ℕ)) (host : H) (so_far : IsSaying lines host) where
    -- memory runs out between two pieces
    pub ends_between : Ends ending.NoMemory host
    ends_between = ends_so ending.NoMemory host so_far.front so_far.only so_far.disks (front_of whole so_far.front (text_of lines) (frame.said first) (frame.said host) so_far.all so_far.only.says)

    -- no line is left
    pub ends_whole : text_of lines ≡ [] → Ends ending.Finished host
    ends_whole none = ends_so ending.Finished host so_far.front so_far.only so_far.disks (same_counts, refl, so_far.only.says ∙ ap (append_known (frame.said first)) all)
      where
        all : so_far.front ≡ whole
        all = sym (so_far.all ∙ ap (λ (l : List ℕ). so_far.front ++ l) none ∙ append-nil so_far.front)

        same_counts : counts host ≡ counts first
        same_counts = ap (λ (n : ℕ). record { say = n; disk = disk_faults host }) so_far.says ∙ ap (λ (n : ℕ). record { say = say_faults first; disk = n }) so_far.disks

    module _ (piece : List ℕ) (others : List (List ℕ)) (given : text_of lines ≡ piece ++ text_of others) (new : H) (same : frame.reads new ≡ frame.reads host) (crash : NoMore (frame.may_leave host) (frame.may_leave new))
        (sees : SeesOnly frame.moment frame.observed host new (IsNew (frame.may_leave host) (frame.said host) (frame.said new))) (disk : disk_faults new ≡ disk_faults host) where
      more : (part : List ℕ) → frame.said new ≡ append_known (frame.said host) part → OnlySaid new (so_far.front ++ part)
      more part says = says_more frame first host new so_far.front part so_far.only says same crash sees

      -- this part of the piece, and what is behind it
      all_with : (part behind : List ℕ) → piece ++ text_of others ≡ part ++ behind → whole ≡ (so_far.front ++ part) ++ behind
      all_with part behind is = so_far.all ∙ ap (λ (l : List ℕ). so_far.front ++ l) (given ∙ is) ∙ sym (append_assoc so_far.front part behind)

      -- the piece is said
      pub says_piece : frame.said new ≡ append_known (frame.said host) piece → say_faults new ≡ say_faults host → IsSaying others new
      says_piece says faults = record {
        front = so_far.front ++ piece;
        only = more piece says;
        all = all_with piece (text_of others) refl;
        says = faults ∙ so_far.says;
        disks = disk ∙ so_far.disks;
      }

      -- its front is said
      front_said : (k : ℕ) → frame.said new ≡ append_known (frame.said host) (take k piece) → IsFront whole (frame.said first) (frame.said new)
      front_said k says =
          let cut : piece ++ text_of others ≡ take k piece ++ (drop k piece ++ text_of others) =
          ap (λ (l : List ℕ). l ++ text_of others) (sym (take-append-drop k piece)) ∙ append_assoc (take k piece) (drop k piece) (text_of others) in
          front_of whole (so_far.front ++ take k piece) (drop k piece ++ text_of others) (frame.said first) (frame.said new) (all_with (take k piece) (drop k piece ++ text_of others) cut) (more (take k piece) says).says

      pub ends_failed : (k : ℕ) → frame.said new ≡ append_known (frame.said host) (take k piece) → Rose (say_faults host) (say_faults new) → Ends ending.SayFault new
      ends_failed k says rose =
          ends_so ending.SayFault new (so_far.front ++ take k piece) (more (take k piece) says) (disk ∙ so_far.disks)
          (subst (λ (n : ℕ). Rose n (say_faults new)) so_far.says rose, front_said k says)

      pub ends_without : (k : ℕ) → frame.said new ≡ append_known (frame.said host) (take k piece) → Ends ending.NoMemory new
      ends_without k says = ends_so ending.NoMemory new (so_far.front ++ take k piece) (more (take k piece) says) (disk ∙ so_far.disks) (front_said k says)
