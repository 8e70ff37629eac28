-- Requests that a reader reads for: one, and from one stretch to the next.
use Rattle.std.proofs.Common.{◌≡◌, ℕ, ◌+◌, ◌<◌, ◌≤◌, Bool, true, false, cond, eqb, MatchBool, List, [], ◌∷◌, ◌++◌, map, length, Some, refl, sym, ap, ◌∙◌, subst, arith, append_assoc}
use Rattle.std.specs.List.{flat_map, slice_get}
use Rattle.std.proofs.lemmas.Bool.{ne_eqb}
use Rattle.std.proofs.lemmas.List.{append-nil, map-append}
use Rattle.std.proofs.lemmas.List.Concat.{flat_map-append}
use Rattle.coco_types.specs.declared.call.Call.{Call}
use Rattle.coco_types.specs.declared.call.Reply.{Reply}
use Rattle.coco_types.specs.declared.call.Request.{Request}
use Rattle.coco_types.specs.declared.call.Write.{Write}
use Rattle.coco_ast.proofs.Lists.{all_append}
use Rattle.coco_ast.specs.Tree.{Procedures}
use Rattle.coco_claim.specs.Numbers.{times}
use Rattle.coco_claim.specs.Seats.{Drawer, Draws, Round, has_ended}
use Rattle.coco_claim.proofs.Counts.{times-append, times-push}
use Rattle.coco_claim.proofs.Drawing.{any_last}
use Rattle.coco_desks.specs.Gains.{AreSame}
use Rattle.coco_eval.specs.Standing.{Ended, Evaluation, Ready}
use Rattle.coco_eval.specs.declared.machine.Given.{Given}
use Rattle.coco_gate.specs.declared.passes.Passage.{Passage}
use Rattle.coco_query.specs.Reading.{EndsOn, Reads}
use Rattle.coco_query.specs.Readers.{HasDrawn, HasRead, IsServed, Served, had_by, places_of, points_of, reading_of, replied}
use Rattle.coco_query.specs.declared.readers.Reader.{Reader}
use Rattle.coco_query.specs.declared.readers.Reading.{Reading}
use Rattle.coco_query.proofs.ReadingLemmas.{reads_none, reads_then}

-- ---- one request

abbrev pub served_by : ℕ → List Given → Reply → Served
served_by place had reply = record { reading = record { place = place; had = had }; reply = reply }

module _ (procs : Procedures) (requests : List Request) (count gate : ℕ) (a c : Reader) (place : ℕ) (request : Request) (had : List Given) (reply : Reply) (placed : slice_get requests place ≡ Some request) (ends : EndsOn procs request.call had reply) where
  abbrev one : Served
  one = served_by place had reply

  pub served_one : c.transcript.readings ≡ a.transcript.readings ++ reading_of one ∷ [] → c.replies ≡ a.replies ++ replied one ∷ [] → c.transcript.passed ≡ a.transcript.passed ++ points_of gate a.reader (reading_of one)
      → Reads count a.passes.items c.passes.items had → HasRead procs requests count gate a c (one ∷ [])
  served_one readings replies passed reads = record {
    each = (record { request = request; placed = placed; ends = ends }, tt);
    readings = readings;
    replies = replies;
    passed = passed;
    reads = subst (Reads count a.passes.items c.passes.items) (sym (append-nil had)) reads;
  }

-- a run that was ready, and what it ended with
pub ends_as : (e : Evaluation) (procs : Procedures) (call : Call) (had : List Given) (r s : Reply) → e ≡ record { procs = procs; call = call; given = []; standing = Ready } → EndsOn e.procs e.call had r → s ≡ r → EndsOn procs call had s
ends_as e procs call had r s is ends same = subst (λ (x : Evaluation). EndsOn x.procs x.call had s) is (subst (EndsOn e.procs e.call had) (sym same) ends)

pub same_reply : (e : Evaluation) (r s : Reply) (ws vs : List Write) → e.standing ≡ Ended r ws → e.standing ≡ Ended s vs → s ≡ r
same_reply e r s ws vs one two = let both : Ended s vs ≡ Ended r ws = sym two ∙ one in cc

-- the points of a reading, one passed before it and one behind it
pub both_points : (gate reader now : ℕ) (was mid kept last : List Passage) (r : Reading) → mid ≡ was ++ record { gate = gate; worker = reader; point = 1 } ∷ [] → kept ≡ mid → now ≡ reader → last ≡ kept ++ record { gate = gate; worker = now; point = 2 } ∷ []
    → last ≡ was ++ points_of gate reader r
both_points gate reader now was mid kept last r first same still second =
    second ∙ ap (λ (n : ℕ). kept ++ record { gate = gate; worker = n; point = 2 } ∷ []) still ∙ ap (λ (ps : List Passage). ps ++ record { gate = gate; worker = reader; point = 2 } ∷ []) (same ∙ first)
    ∙ append_assoc was (record { gate = gate; worker = reader; point = 1 } ∷ []) (record { gate = gate; worker = reader; point = 2 } ∷ [])

-- ---- from one stretch to the next

pub read_none : (procs : Procedures) (requests : List Request) (count gate : ℕ) (a : Reader) → HasRead procs requests count gate a a []
read_none procs requests count gate a = record {
  each = tt;
  readings = sym (append-nil a.transcript.readings);
  replies = sym (append-nil a.replies);
  passed = sym (append-nil a.transcript.passed);
  reads = reads_none count a.passes.items;
}

-- readings and replies of one stretch behind those of another
behind : {X Y : Type 0} (f : X → Y) (first mid last : List Y) (xs ys : List X) → mid ≡ first ++ map f xs → last ≡ mid ++ map f ys → last ≡ first ++ map f (xs ++ ys)
behind f first mid last xs ys was is = is ∙ ap (λ (zs : List _). zs ++ map f ys) was ∙ append_assoc first (map f xs) (map f ys) ∙ ap (λ (zs : List _). first ++ zs) (sym (map-append f xs ys))

pub read_then : (procs : Procedures) (requests : List Request) (count gate : ℕ) (a b c : Reader) (xs ys : List Served) → AreSame a.passes.items b.passes.items → b.reader ≡ a.reader → HasRead procs requests count gate a b xs → HasRead procs requests count gate b c ys
    → HasRead procs requests count gate a c (xs ++ ys)
read_then procs requests count gate a b c xs ys same reader first next = record {
  each = all_append (IsServed procs requests) xs ys first.each next.each;
  readings = behind reading_of a.transcript.readings b.transcript.readings c.transcript.readings xs ys first.readings next.readings;
  replies = behind replied a.replies b.replies c.replies xs ys first.replies next.replies;
  passed = next.passed ∙ ap (λ (ps : List Passage). ps ++ flat_map (points_of gate b.reader) (map reading_of ys)) first.passed
      ∙ append_assoc a.transcript.passed (flat_map (points_of gate a.reader) (map reading_of xs)) (flat_map (points_of gate b.reader) (map reading_of ys))
      ∙ ap (λ (n : ℕ). a.transcript.passed ++ (flat_map (points_of gate a.reader) (map reading_of xs) ++ flat_map (points_of gate n) (map reading_of ys))) reader
      ∙ ap (λ (ps : List Passage). a.transcript.passed ++ ps) (sym (flat_map-append (points_of gate a.reader) (map reading_of xs) (map reading_of ys)) ∙ ap (flat_map (points_of gate a.reader)) (sym (map-append reading_of xs ys)));
  reads = subst (Reads count a.passes.items c.passes.items) (sym (flat_map-append (λ (r : Reading). r.had) (map reading_of xs) (map reading_of ys)) ∙ ap had_by (sym (map-append reading_of xs ys)))
      (reads_then count a.passes.items b.passes.items c.passes.items (had_by (map reading_of xs)) (had_by (map reading_of ys)) same first.reads next.reads);
}

-- ---- the draws

-- the requests that were read for so far are those at the places that the seat drew
pub record HasServed (procs : Procedures) (requests : List Request) (count gate : ℕ) (before after : Reader) : Type 0 where
  pub served : List Served
  pub read : HasRead procs requests count gate before after served
  pub drawn : after.seat.drawn ≡ before.seat.drawn ++ places_of (map reading_of served)

pub so_far_none : (procs : Procedures) (requests : List Request) (count gate : ℕ) (a : Reader) → HasServed procs requests count gate a a
so_far_none procs requests count gate a = record { served = []; read = read_none procs requests count gate a; drawn = sym (append-nil a.seat.drawn) }

-- a draw changes nothing but the seat
abbrev pub reseated : Reader → Drawer → Reader
reseated b seat = record b { seat = seat }

redrawn : (procs : Procedures) (requests : List Request) (count gate : ℕ) (b c : Reader) (seat : Drawer) (xs : List Served) → HasRead procs requests count gate (reseated b seat) c xs → HasRead procs requests count gate b c xs
redrawn procs requests count gate b c seat xs read = record { each = read.each; readings = read.readings; replies = read.replies; passed = read.passed; reads = read.reads }

pub redrawn_last : (procs : Procedures) (requests : List Request) (count gate : ℕ) (a b : Reader) (seat : Drawer) (xs : List Served) → HasRead procs requests count gate a b xs → HasRead procs requests count gate a (reseated b seat) xs
redrawn_last procs requests count gate a b seat xs read = record { each = read.each; readings = read.readings; replies = read.replies; passed = read.passed; reads = read.reads }

pub so_far_more : (procs : Procedures) (requests : List Request) (count gate : ℕ) (a b c : Reader) (seat : Drawer) (one : Served) (place : ℕ) → AreSame a.passes.items b.passes.items → b.reader ≡ a.reader → HasServed procs requests count gate a b
    → seat.drawn ≡ b.seat.drawn ++ place ∷ [] → c.seat ≡ seat → one.reading.place ≡ place → HasRead procs requests count gate (reseated b seat) c (one ∷ []) → HasServed procs requests count gate a c
so_far_more procs requests count gate a b c seat one place same reader so draws kept at read = record {
  served = so.served ++ one ∷ [];
  read = read_then procs requests count gate a b c so.served (one ∷ []) same reader so.read (redrawn procs requests count gate b c seat (one ∷ []) read);
  drawn = ap (λ (d : Drawer). d.drawn) kept ∙ draws ∙ ap (λ (ns : List ℕ). ns ++ place ∷ []) so.drawn ∙ append_assoc a.seat.drawn (places_of (map reading_of so.served)) (place ∷ [])
      ∙ ap (λ (ns : List ℕ). a.seat.drawn ++ ns) (ap (λ (n : ℕ). places_of (map reading_of so.served) ++ n ∷ []) (sym at)
      ∙ sym (map-append (λ (r : Reading). r.place) (map reading_of so.served) (one.reading ∷ [])) ∙ ap places_of (sym (map-append reading_of so.served (one ∷ []))));
}

-- the draw that ends it gives no place
last_draw : (old new : Drawer) → MatchBool (has_ended old) (new ≡ old) (Draws old new) → has_ended new ≡ true → (place : ℕ) → place < old.claims.n → times place new.drawn ≡ times place old.drawn
last_draw old new draws ended place lt = by_end (has_ended old) refl draws
  where
    by_end : (b : Bool) → has_ended old ≡ b → MatchBool b (new ≡ old) (Draws old new) → times place new.drawn ≡ times place old.drawn
    by_end true was same = ap (λ (d : Drawer). times place d.drawn) same
    by_end false was more =
        let x : ℕ = more.0 in
        let late : old.claims.n ≤ x = any_last old.claims.n old.drawn x was (sym (ap has_ended more.1) ∙ ended) in
        let apart : eqb x place ≡ false = ne_eqb x place (λ same. omega (arith, same, late, lt)) in
        let push = times-push place old.drawn x in
        let none : cond (eqb x place) 1 0 ≡ 0 = ap (λ (b : Bool). (let n : ℕ = cond b 1 0 in n)) apart in
        ap (λ (d : Drawer). times place d.drawn) more.1 ∙ omega (arith, push, none)

pub drawn_so : (procs : Procedures) (requests : List Request) (count gate : ℕ) (a b : Reader) (seat : Drawer) (so : HasServed procs requests count gate a b) → b.seat.claims ≡ a.seat.claims → a.seat.claims.n ≡ length requests → seat.claims ≡ b.seat.claims
    → MatchBool (has_ended b.seat) (seat ≡ b.seat) (Draws b.seat seat) → has_ended seat ≡ true → HasDrawn (length requests) a.seat seat so.served
drawn_so procs requests count gate a b seat so claims numbers kept draws ended = record {
  claims = kept ∙ claims;
  ended = ended;
  places = λ place lt.
      last_draw b.seat seat draws ended place (subst (λ (n : ℕ). place < n) (sym (ap (λ (r : Round). r.n) claims ∙ numbers)) lt) ∙ ap (times place) so.drawn ∙ times-append place a.seat.drawn (places_of (map reading_of so.served));
}

-- the draws leave the claims
pub claims_kept : (old new : Drawer) → MatchBool (has_ended old) (new ≡ old) (Draws old new) → new.claims ≡ old.claims
claims_kept old new draws = by_end (has_ended old) draws
  where
    by_end : (b : Bool) → MatchBool b (new ≡ old) (Draws old new) → new.claims ≡ old.claims
    by_end true same = ap (λ (d : Drawer). d.claims) same
    by_end false more = ap (λ (d : Drawer). d.claims) more.1
