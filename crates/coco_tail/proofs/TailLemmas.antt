-- The tail of an epoch, request by request.
use Rattle.std.proofs.Common.{◌≡◌, ℕ, suc, ◌+◌, List, [], ◌∷◌, ◌++◌, length, refl, sym, ap, ◌∙◌, subst, arith, append_assoc}
use Rattle.std.proofs.lemmas.List.{append-nil}
use Rattle.coco_types.specs.declared.call.Done.{Done}
use Rattle.coco_types.specs.declared.call.Piece.{Piece}
use Rattle.coco_types.specs.declared.call.Request.{Request}
use Rattle.coco_ast.specs.Keyed.{Rows, put_over}
use Rattle.coco_ast.specs.Meaning.{run}
use Rattle.coco_ast.specs.Tree.{Procedures}
use Rattle.coco_ast.proofs.RunsPutWrites.{run_puts_writes}
use Rattle.coco_order.specs.Outcome.{tail_dones, tail_rows}
use Rattle.coco_shard.specs.RowState.{ShardState}
use Rattle.coco_tail.specs.Pieces.{pieces_of, place_of}
use Rattle.coco_pieces.specs.Pieces.{request_pieces}
use Rattle.coco_tail.specs.Running.{AreAtTheirPlaces, requests_of}
use Rattle.coco_tail.specs.Shards.{HaveNewest}
use Rattle.coco_tail.specs.declared.placed.PlacedRequest.{PlacedRequest}

pub no_more : (left : List PlacedRequest) → length left ≡ 0 → left ≡ []
no_more [] h = refl
no_more (p ∷ left) h = absurd (omega arith)

-- the pieces of the next request, and of those behind it
pieces_step : (ps : Procedures) (epoch count : ℕ) (all : List Request) (m : Rows) (time : ℕ) (r : Request) (rs : List Request)
    → pieces_of ps count all m (tail_dones ps epoch m time (r ∷ rs))
    ≡ request_pieces count (place_of all r.id) (suc time) (run ps r.call m).writes ++ pieces_of ps count all (put_over m (run ps r.call m).writes) (tail_dones ps epoch (put_over m (run ps r.call m).writes) (suc time) rs)
pieces_step ps epoch count all m time r rs =
    ap (λ (n : Rows). request_pieces count (place_of all r.id) (suc time) (run ps r.call m).writes ++ pieces_of ps count all n (tail_dones ps epoch (put_over m (run ps r.call m).writes) (suc time) rs)) (run_puts_writes ps r.call m)

-- from a map on, after some Dones and pieces
module _ (ps : Procedures) (epoch count : ℕ) (m : Rows) (after : ℕ) (all : List PlacedRequest) (first : List Done) (parts : List Piece) where
  -- the requests that are left come to what all of them do
  pub record TailLeft (time : ℕ) (left : List PlacedRequest) (ds : List Done) (qs : List Piece) (shards : List ShardState) : Type 0 where
    pub rows : Rows
    pub newest : HaveNewest rows shards
    pub dones : ds ++ tail_dones ps epoch rows time (requests_of left) ≡ first ++ tail_dones ps epoch m after (requests_of all)
    pub end : tail_rows ps rows (requests_of left) ≡ tail_rows ps m (requests_of all)
    pub pieces : (asked : List Request) → AreAtTheirPlaces asked all
        → AreAtTheirPlaces asked left × (qs ++ pieces_of ps count asked rows (tail_dones ps epoch rows time (requests_of left)) ≡ parts ++ pieces_of ps count asked m (tail_dones ps epoch m after (requests_of all)))

  pub tail_begins : (shards : List ShardState) → HaveNewest m shards → TailLeft after all first parts shards
  tail_begins shards newest = record { rows = m; newest = newest; dones = refl; end = refl; pieces = λ asked at. (at, refl) }

  abbrev pub done_at : Rows → ℕ → Request → Done
  done_at n time r = record { id = r.id; call = r.call; epoch = epoch; time = time; reply = (run ps r.call n).reply }

  abbrev pub pieces_at : Rows → ℕ → PlacedRequest → List Piece
  pieces_at n time p = request_pieces count p.place time (run ps p.request.call n).writes

  pub tail_more : (time : ℕ) (p : PlacedRequest) (rest : List PlacedRequest) (ds es : List Done) (qs rs : List Piece) (old new : List ShardState) → TailLeft time (p ∷ rest) ds qs old
      → ((n : Rows) → HaveNewest n old → es ≡ ds ++ done_at n (time + 1) p.request ∷ [])
      → ((n : Rows) → HaveNewest n old → rs ≡ qs ++ pieces_at n (time + 1) p)
      → ((n : Rows) → HaveNewest n old → HaveNewest (put_over n (run ps p.request.call n).writes) new)
      → TailLeft (time + 1) rest es rs new
  tail_more time p rest ds es qs rs old new t dones pieces newest = record {
    rows = next;
    newest = newest t.rows t.newest;
    dones =
        ap (λ (xs : List Done). xs ++ tail_dones ps epoch next (time + 1) (requests_of rest)) (dones t.rows t.newest)
        ∙ append_assoc ds (done_at t.rows (time + 1) p.request ∷ []) (tail_dones ps epoch next (time + 1) (requests_of rest))
        ∙ ap (λ (n : ℕ). ds ++ (done_at t.rows n p.request ∷ tail_dones ps epoch next n (requests_of rest))) one
        ∙ t.dones;
    end = t.end;
    pieces = λ asked at.
        let old_pieces = t.pieces asked at in (
          old_pieces.0.1,
          ap (λ (xs : List Piece). xs ++ pieces_of ps count asked next (tail_dones ps epoch next (time + 1) (requests_of rest))) (pieces t.rows t.newest)
              ∙ append_assoc qs (pieces_at t.rows (time + 1) p) (pieces_of ps count asked next (tail_dones ps epoch next (time + 1) (requests_of rest)))
              ∙ ap (λ (n : ℕ). qs ++ (pieces_at t.rows n p ++ pieces_of ps count asked next (tail_dones ps epoch next n (requests_of rest)))) one
              ∙ ap (λ (n : ℕ). qs ++ (request_pieces count n (suc time) (run ps p.request.call t.rows).writes ++ pieces_of ps count asked next (tail_dones ps epoch next (suc time) (requests_of rest)))) old_pieces.0.0
              ∙ ap (λ (xs : List Piece). qs ++ xs) (sym (pieces_step ps epoch count asked t.rows time p.request (requests_of rest)))
              ∙ old_pieces.1,
        );
  }
    where
      next : Rows
      next = put_over t.rows (run ps p.request.call t.rows).writes

      one : time + 1 ≡ suc time
      one = omega arith

  pub tail_dones_all : (time : ℕ) (ds : List Done) (qs : List Piece) (shards : List ShardState) → TailLeft time [] ds qs shards → ds ≡ first ++ tail_dones ps epoch m after (requests_of all)
  tail_dones_all time ds qs shards t = sym (append-nil ds) ∙ t.dones

  pub tail_pieces_all : (time : ℕ) (ds : List Done) (qs : List Piece) (shards : List ShardState) → TailLeft time [] ds qs shards → (asked : List Request) → AreAtTheirPlaces asked all
      → qs ≡ parts ++ pieces_of ps count asked m (tail_dones ps epoch m after (requests_of all))
  tail_pieces_all time ds qs shards t asked at = sym (append-nil qs) ∙ (t.pieces asked at).1

  pub tail_newest_all : (time : ℕ) (ds : List Done) (qs : List Piece) (shards : List ShardState) → TailLeft time [] ds qs shards → HaveNewest (tail_rows ps m (requests_of all)) shards
  tail_newest_all time ds qs shards t = subst (λ (n : Rows). HaveNewest n shards) t.end t.newest
