-- Requests that are worked off: one, and from one stretch to the next.
use Rattle.std.proofs.Common.{◌≡◌, ℕ, ◌<◌, ◌≤◌, Bool, true, false, cond, nat_lt, MatchBool, List, [], ◌∷◌, ◌++◌, map, length, Option, None, Some, refl, sym, ap, ◌∙◌, subst, append_assoc, slice_index_or}
use Rattle.std.specs.List.{AllByRecursion, flat_map, slice_get}
use Rattle.std.proofs.lemmas.Bool.{lt-ltb, le-ltb}
use Rattle.std.proofs.lemmas.List.Elements.{filter-append}
use Rattle.std.proofs.lemmas.Option.{same_Some, slice_get-get_or}
use Rattle.std.proofs.lemmas.List.{append-nil, map-append}
use Rattle.std.proofs.lemmas.List.Concat.{flat_map-append}
use Rattle.coco_types.specs.declared.call.Piece.{Piece}
use Rattle.coco_types.specs.declared.call.Request.{Request}
use Rattle.coco_types.specs.declared.call.Write.{Write}
use Rattle.coco_ast.proofs.Lists.{all_append}
use Rattle.coco_ast.specs.Tree.{Procedures}
use Rattle.coco_claim.specs.Seats.{Draws, Drawer, has_ended}
use Rattle.coco_claim.proofs.Drawing.{any_last}
use Rattle.coco_desks.specs.Gains.{AreSame, Gain}
use Rattle.coco_desks.proofs.GainLemmas.{gain_as, gain_none, gain_then}
use Rattle.coco_occ.specs.Trying.{Trying, Standing, Ready, Waits, Ended}
use Rattle.coco_occ.specs.declared.outcome.Outcome.{Outcome}
use Rattle.coco_occ.specs.declared.outcome.Ended.{Ended as Unmade}
use Rattle.coco_occ.specs.declared.outcome.Tailed.{Tailed}
use Rattle.coco_occ.specs.declared.outcome.Tried.{Tried}
use Rattle.coco_order.specs.Execution.{Tries, all_tries, all_at_shard, concat_tries}
use Rattle.coco_worker.specs.Copying.{asked, puts_at}
use Rattle.coco_worker.specs.Gains.{Make, ShardPass}
use Rattle.coco_pieces.specs.Pieces.{request_pieces}
use Rattle.coco_worker.specs.Trying.{Adds, HasEnded, IsAt, IsTriedAt, TriesOnly, TriesOut, ends_of}
use Rattle.coco_worker.specs.Working.{Job, IsWhole, IsTriedBy, Keeps, Worked, IsWorkedOff, Works, WorksDrawn, commit_at, copied, copies_at, pieces_at, pieces_of, places_among, places_of, scripts_of, tail_of, tailed}
use Rattle.coco_worker.specs.declared.slot.EpochConfig.{EpochConfig}
use Rattle.coco_worker.specs.declared.slot.Slot.{Slot}
use Rattle.coco_worker.proofs.CopyLemmas.{CopyPass}
use Rattle.coco_worker.proofs.TryLemmas.{adds_none, adds_then, adds_weaker}

-- the job of a worker, by what it was handed
abbrev pub the_job : Procedures → List Request → ℕ → ℕ → EpochConfig → (ℕ → ℕ → ℕ → ℕ → Bool) → Job
the_job procs requests partitions worker config carries = record { procs = procs; requests = requests; partitions = partitions; worker = worker; config = config; carries = carries }

-- ---- from one stretch to the next

tries_append : (rs ss : List Tries) → concat_tries (rs ++ ss) ≡ concat_tries rs ++ concat_tries ss
tries_append [] ss = refl
tries_append (r ∷ rs) ss = ap (λ (ts : List Tried). all_tries r ++ ts) (tries_append rs ss) ∙ sym (append_assoc (all_tries r) (concat_tries rs) (concat_tries ss))

scripts_append : (ws vs : List Worked) → scripts_of (ws ++ vs) ≡ scripts_of ws ++ scripts_of vs
scripts_append ws vs = ap concat_tries (map-append (λ (w : Worked). w.tries) ws vs) ∙ tries_append (map (λ (w : Worked). w.tries) ws) (map (λ (w : Worked). w.tries) vs)

pub works_none : (j : Job) (s : Slot) → Works j s s []
works_none j s = record {
  each = tt;
  adds = adds_none (IsTriedBy j) s;
  pieces = sym (append-nil s.pieces);
  tail = sym (append-nil s.tail);
  copies = gain_none asked s.copy_passes.items;
}

pub works_then : (j : Job) (a b c : Slot) (ws vs : List Worked) → AreSame a.passes.items b.passes.items → AreSame a.copy_passes.items b.copy_passes.items → Works j a b ws → Works j b c vs → Works j a c (ws ++ vs)
works_then j a b c ws vs same same_copies first next = record {
  each = all_append (IsWorkedOff j) ws vs first.each next.each;
  adds = subst (Adds (IsTriedBy j) a c) (sym (scripts_append ws vs)) (adds_then (IsTriedBy j) a b c (scripts_of ws) (scripts_of vs) same first.adds next.adds);
  pieces = next.pieces ∙ ap (λ (ps : List Piece). ps ++ flat_map (pieces_of j) vs) first.pieces ∙ append_assoc a.pieces (flat_map (pieces_of j) ws) (flat_map (pieces_of j) vs)
      ∙ ap (λ (ps : List Piece). a.pieces ++ ps) (sym (flat_map-append (pieces_of j) ws vs));
  tail = next.tail ∙ ap (λ (ts : List Tailed). ts ++ flat_map tail_of vs) first.tail ∙ append_assoc a.tail (flat_map tail_of ws) (flat_map tail_of vs)
      ∙ ap (λ (ts : List Tailed). a.tail ++ ts) (sym (flat_map-append tail_of ws vs));
  copies = gain_as asked a.copy_passes.items c.copy_passes.items (λ table. flat_map (copied j table) ws ++ flat_map (copied j table) vs) (λ table. flat_map (copied j table) (ws ++ vs))
      (gain_then asked a.copy_passes.items b.copy_passes.items c.copy_passes.items (λ table. flat_map (copied j table) ws) (λ table. flat_map (copied j table) vs) same_copies first.copies next.copies)
      (λ table _. sym (flat_map-append (copied j table) ws vs));
}

-- ---- one request

pub placed_at : (rs : List Request) (place : ℕ) (r : Request) → place < length rs → r ≡ slice_index_or rs place r → slice_get rs place ≡ Some r
placed_at rs place r lt is = slice_get-get_or rs place r lt ∙ ap (λ (q : Request). Some q) (sym is)

whole_at : (j : Job) (request : Request) (place : ℕ) (t : Tried) (writes : List Write) → slice_get j.requests place ≡ Some request → IsAt j.procs request j.worker place j.partitions t writes → IsWhole j t writes
whole_at j request place t writes placed is = record {
  request = request;
  placed = ap (slice_get j.requests) is.at ∙ placed;
  by_worker = is.by_worker;
  script = is.script;
}

-- the parts of a slot that a request adds to, behind its attempts
pub record Lands (j : Job) (request : Request) (place : ℕ) (a b c : Slot) (writes : List Write) (ends : List Unmade) (time : Option ℕ) : Type 0 where
  pub transcript : c.transcript ≡ b.transcript
  pub passes : c.passes.items ≡ b.passes.items
  pub pieces : c.pieces ≡ a.pieces ++ pieces_at j.partitions place writes time
  pub tail : c.tail ≡ a.tail ++ tailed request.id ends time
  pub copies : Gain asked a.copy_passes.items c.copy_passes.items (λ table. copies_at j table place writes time)

module _ (j : Job) (request : Request) (place : ℕ) (a b c : Slot) (ends : List Unmade) (room : Option Trying) (time : Option ℕ) (placed : slice_get j.requests place ≡ Some request) (worker : a.worker ≡ j.worker)
    (out : TriesOut j.procs request place j.partitions j.config.attempts a b ends room time) where
  -- the request with its scripts
  abbrev pub worked_by : Worked
  worked_by = record { request = request; tries = out.tries; writes = out.writes }

  tried_by : (t : Tried) → IsTriedAt j.procs request a.worker place j.partitions t → IsTriedBy j t
  tried_by t is = (is.0, whole_at j request place t is.0 placed (subst (λ (w : ℕ). IsAt j.procs request w place j.partitions t is.0) worker is.1))

  pub works_one : Lands j request place a b c out.writes ends time → Works j a c (worked_by ∷ [])
  works_one lands =
      let ts : List Tried = all_tries out.tries in
      let adds : Adds (IsTriedBy j) a b ts = adds_weaker (IsTriedAt j.procs request a.worker place j.partitions) (IsTriedBy j) a b ts tried_by out.adds in
      record {
        each = (
          record {
            placed = ap (slice_get j.requests) out.at ∙ placed;
            tries = out.are;
            last = whole_at j request place out.tries.last out.writes placed (subst (λ (w : ℕ). IsAt j.procs request w place j.partitions out.tries.last out.writes) worker out.last);
          },
          tt,
        );
        adds = subst (Adds (IsTriedBy j) a c) (sym (append-nil ts)) (record {
          transcript = lands.transcript ∙ adds.transcript;
          made = subst (λ (ps : List ShardPass). Make a.passes.items ps (λ shard. all_at_shard shard ts)) (sym lands.passes) adds.made;
          whole = adds.whole;
          numbered = adds.numbered;
        });
        pieces = lands.pieces ∙ ap (λ (ps : List Piece). a.pieces ++ ps) (sym (append-nil (pieces_at j.partitions place out.writes time)) ∙ same_pieces);
        tail = lands.tail ∙ ap (λ (ts : List Tailed). a.tail ++ ts) same_tail;
        copies = gain_as asked a.copy_passes.items c.copy_passes.items (λ table. copies_at j table place out.writes time) (λ table. flat_map (copied j table) (worked_by ∷ [])) lands.copies same_copies;
      }
    where
      same_pieces : pieces_at j.partitions place out.writes time ++ [] ≡ flat_map (pieces_of j) (worked_by ∷ [])
      same_pieces = ap (λ (n : ℕ). pieces_at j.partitions n out.writes time ++ []) (sym out.at) ∙ ap (λ (t : Option ℕ). pieces_at j.partitions out.tries.place out.writes t ++ []) out.time_is

      same_tail : tailed request.id ends time ≡ flat_map tail_of (worked_by ∷ [])
      same_tail = sym (append-nil (tailed request.id ends time)) ∙ ap (λ (es : List Unmade). tailed request.id es time ++ []) out.ends_are
          ∙ ap (λ (t : Option ℕ). tailed request.id (ends_of (all_tries out.tries)) t ++ []) out.time_is

      same_copies : (table : ℕ) → table < length a.copy_passes.items → copies_at j table place out.writes time ≡ flat_map (copied j table) (worked_by ∷ [])
      same_copies table lt = sym (append-nil (copies_at j table place out.writes time)) ∙ ap (λ (n : ℕ). copies_at j table n out.writes time ++ []) (sym out.at)
          ∙ ap (λ (t : Option ℕ). copies_at j table out.tries.place out.writes t ++ []) out.time_is

-- ---- the draws

-- what was worked off so far: the requests at the numbers that the seat drew
pub record WorksSoFar (j : Job) (before after : Slot) : Type 0 where
  pub worked : List Worked
  pub works : Works j before after worked
  pub drawn : after.seat ≡ record before.seat { drawn = before.seat.drawn ++ places_of worked }
  pub below : AllByRecursion (λ x. x < length j.requests) (places_of worked)

pub works_so_none : (j : Job) (s : Slot) → WorksSoFar j s s
works_so_none j s = record {
  worked = [];
  works = works_none j s;
  drawn = ap (λ (xs : List ℕ). record s.seat { drawn = xs }) (sym (append-nil s.seat.drawn));
  below = tt;
}

-- a draw changes nothing but the seat
works_reseated : (j : Job) (a b : Slot) (first last : Drawer) (ws : List Worked) → Works j a b ws → Works j (record a { seat = first }) (record b { seat = last }) ws
works_reseated j a b first last ws works = record {
  each = works.each;
  adds = record {
    transcript = works.adds.transcript;
    made = works.adds.made;
    whole = works.adds.whole;
    numbered = works.adds.numbered;
  };
  pieces = works.pieces;
  tail = works.tail;
  copies = works.copies;
}

pub works_redrawn : (j : Job) (a b : Slot) (seat : Drawer) (ws : List Worked) → Works j a b ws → Works j a (record b { seat = seat }) ws
works_redrawn j a b seat ws works = works_reseated j a b a.seat seat ws works

-- one request more, that the seat drew
pub works_so_more : (j : Job) (a b c : Slot) (seat : Drawer) (w : Worked) (place : ℕ) → AreSame a.passes.items b.passes.items → AreSame a.copy_passes.items b.copy_passes.items
    → WorksSoFar j a b → seat ≡ record b.seat { drawn = b.seat.drawn ++ place ∷ [] } → place < length j.requests → w.tries.place ≡ place → Works j (record b { seat = seat }) c (w ∷ []) → c.seat ≡ seat
    → WorksSoFar j a c
works_so_more j a b c seat w place same same_copies so draws below at works kept = record {
  worked = so.worked ++ w ∷ [];
  works = works_then j a b c so.worked (w ∷ []) same same_copies so.works (works_reseated j (record b { seat = seat }) c b.seat c.seat (w ∷ []) works);
  drawn = kept ∙ draws ∙ ap (λ (d : Drawer). record d { drawn = d.drawn ++ place ∷ [] }) so.drawn
      ∙ ap (λ (xs : List ℕ). record a.seat { drawn = xs }) (append_assoc a.seat.drawn (places_of so.worked) (place ∷ []) ∙ ap (λ (xs : List ℕ). a.seat.drawn ++ xs) places);
  below = subst (AllByRecursion (λ x. x < length j.requests)) places (all_append (λ x. x < length j.requests) (places_of so.worked) (place ∷ []) so.below (below, tt));
}
  where
    places : places_of so.worked ++ place ∷ [] ≡ places_of (so.worked ++ w ∷ [])
    places = ap (λ (n : ℕ). places_of so.worked ++ n ∷ []) (sym at) ∙ sym (map-append (λ (v : Worked). v.tries.place) so.worked (w ∷ []))

all_among : (n : ℕ) (xs : List ℕ) → AllByRecursion (λ x. x < n) xs → places_among n xs ≡ xs
all_among n [] all = refl
all_among n (x ∷ xs) all = ap (λ b. cond b (x ∷ places_among n xs) (places_among n xs)) (lt-ltb x n all.0) ∙ ap (λ (ys : List ℕ). x ∷ ys) (all_among n xs all.1)

among_more : (n : ℕ) (xs : List ℕ) (x : ℕ) → n ≤ x → places_among n (xs ++ x ∷ []) ≡ places_among n xs
among_more n xs x le = filter-append (λ y. nat_lt y n) xs (x ∷ []) ∙ ap (λ b. places_among n xs ++ cond b (x ∷ []) []) (le-ltb x n le) ∙ append-nil (places_among n xs)

-- the draw that ends it
pub works_drawn : (j : Job) (a b : Slot) (seat : Drawer) (so : WorksSoFar j a b) → b.seat.claims.n ≡ length j.requests → MatchBool (has_ended b.seat) (seat ≡ b.seat) (Draws b.seat seat) → has_ended seat ≡ true
    → WorksDrawn j a (record b { seat = seat }) so.worked
works_drawn j a b seat so count draws ended = by_end (has_ended b.seat) refl draws
  where
    n : ℕ
    n = length j.requests

    by_end : (e : Bool) → has_ended b.seat ≡ e → MatchBool e (seat ≡ b.seat) (Draws b.seat seat) → WorksDrawn j a (record b { seat = seat }) so.worked
    by_end true was same = record {
      numbers = places_of so.worked;
      draws = record { drawn = same ∙ so.drawn; ended = ended };
      places = sym (all_among n (places_of so.worked) so.below);
    }
    by_end false was more =
        let x : ℕ = more.0 in
        let late : b.seat.claims.n ≤ x = any_last b.seat.claims.n b.seat.drawn x was (sym (ap has_ended more.1) ∙ ended) in
        record {
          numbers = places_of so.worked ++ x ∷ [];
          draws = record {
            drawn = more.1 ∙ ap (λ (d : Drawer). record d { drawn = d.drawn ++ x ∷ [] }) so.drawn ∙ ap (λ (xs : List ℕ). record a.seat { drawn = xs }) (append_assoc a.seat.drawn (places_of so.worked) (x ∷ []));
            ended = ended;
          };
          places = sym (among_more n (places_of so.worked) x (subst (λ (k : ℕ). k ≤ x) count late) ∙ all_among n (places_of so.worked) so.below);
        }

-- ---- what becomes of a request behind its attempts

-- its commit has its pieces, and is brought to the copies
pub lands_commit : (j : Job) (request : Request) (place time : ℕ) (a b c : Slot) (writes : List Write) (ends : List Unmade) → TriesOnly a b → c ≡ record b { copy_passes = c.copy_passes; pieces = c.pieces }
    → Keeps j.carries (record (commit_at j place time) { worker = b.worker }) b c writes → b.worker ≡ j.worker → Lands j request place a b c writes ends (Some time)
lands_commit j request place time a b c writes ends tries others keeps worker = record {
  transcript = ap (λ (s : Slot). s.transcript) others;
  passes = ap (λ (s : Slot). s.passes.items) others;
  pieces = keeps.pieces ∙ ap (λ (s : Slot). s.pieces ++ request_pieces j.partitions place time writes) tries;
  tail = ap (λ (s : Slot). s.tail) (others ∙ ap (λ (s : Slot). record s { copy_passes = c.copy_passes; pieces = c.pieces }) tries) ∙ sym (append-nil a.tail);
  copies = subst (λ (w : ℕ). Gain asked a.copy_passes.items c.copy_passes.items (λ table. puts_at j.carries (record (commit_at j place time) { worker = w }) table writes)) worker
      (subst (λ (ps : List CopyPass). Gain asked ps c.copy_passes.items (λ table. puts_at j.carries (record (commit_at j place time) { worker = b.worker }) table writes)) (ap (λ (s : Slot). s.copy_passes.items) tries) keeps.copied);
}

pub tail_more : (b : Slot) (tail : List Tailed) (request : Request) (ends : List Unmade) → tail ≡ b.tail ++ record { id = request.id; ends = ends } ∷ [] → record b { tail = tail } ≡ record b { tail = b.tail ++ record { id = request.id; ends = ends } ∷ [] }
tail_more b tail request ends is = ap (λ (ts : List Tailed). record b { tail = ts }) is

-- it has no commit, and is in the tail
pub lands_tail : (j : Job) (request : Request) (place : ℕ) (a b c : Slot) (writes : List Write) (ends : List Unmade) → TriesOnly a b → c ≡ record b { tail = b.tail ++ record { id = request.id; ends = ends } ∷ [] }
    → Lands j request place a b c writes ends None
lands_tail j request place a b c writes ends tries others = record {
  transcript = ap (λ (s : Slot). s.transcript) others;
  passes = ap (λ (s : Slot). s.passes.items) others;
  pieces = ap (λ (s : Slot). s.pieces) others ∙ ap (λ (s : Slot). s.pieces) tries ∙ sym (append-nil a.pieces);
  tail = ap (λ (s : Slot). s.tail) others ∙ ap (λ (s : Slot). s.tail ++ record { id = request.id; ends = ends } ∷ []) tries;
  copies = subst (λ (ps : List CopyPass). Gain asked a.copy_passes.items ps (λ _. [])) (sym (ap (λ (s : Slot). s.copy_passes.items) (others ∙ ap (λ (s : Slot). record s { tail = b.tail ++ record { id = request.id; ends = ends } ∷ [] }) tries))) (gain_none asked a.copy_passes.items);
}

-- the request at a place is worked off
abbrev pub WorkedAt : Job → ℕ → Slot → Slot → Type 0
WorkedAt j place a d = (w : Worked) × (w.tries.place ≡ place) × Works j a d (w ∷ [])

-- the writes of an attempt in the room that has ended
pub same_writes : (room : Option Trying) (t : Trying) (outcome other : Outcome) (writes found : List Write) → room ≡ Some t → t.standing ≡ Ended other found → HasEnded outcome writes room → found ≡ writes
same_writes None t outcome other writes found at is ended = absurd ended
same_writes (Some a) t outcome other writes found at is ended = ap written (sym is ∙ ap (λ (u : Trying). u.standing) (sym (same_Some a t at)) ∙ ended)
  where
    written : Standing → List Write
    written Ready = []
    written (Waits shard ask) = []
    written (Ended o ws) = ws
