-- The pieces of an outcome may be shipped.
use Rattle.std.proofs.Common.{◌≡◌, inl, ℕ, ◌<◌, ◌%◌, nat_eq, List, ◌∷◌, map, refl, sym, ap, ◌∙◌, subst, arith, All}
use Rattle.std.specs.List.{Contains, IsDistinct}
use Rattle.std.proofs.lemmas.Bool.{eqb-true}
use Rattle.std.proofs.lemmas.List.Elements.{All-from_recursion}
use Rattle.coco_types.specs.declared.call.Done.{Done}
use Rattle.coco_types.specs.declared.call.Piece.{Piece}
use Rattle.coco_types.specs.declared.call.Request.{Request}
use Rattle.coco_types.specs.declared.call.Write.{Write}
use Rattle.coco_ast.specs.Growth.{IsEpochOf}
use Rattle.coco_ast.specs.History.{rows_after}
use Rattle.coco_ast.specs.Meaning.{run}
use Rattle.coco_tail.specs.Pieces.{pieces_of}
use Rattle.coco_order.specs.Execution.{Beginning, Execution, InEachExecution, IsExecution}
use Rattle.coco_order.specs.Laws.{ApartInTime, OnEachKeyOfEach, OutcomesAreEpochs, StepsAreMine, TailWritesAreRuns, WritesAreRuns}
use Rattle.coco_order.specs.OneKey.{Among, WriteTimesRise}
use Rattle.coco_order.specs.Outcome.{IsOutcome}
use Rattle.coco_pieces.specs.Pieces.{writes_on}
use Rattle.coco_ship.specs.Pieces.{AreShippable, IsOf}
use Rattle.coco_ship.specs.declared.ring.Ring.{Ring}
use Rattle.coco_early.proofs.Members.{from_contains, of_filter, right, to_contains}
use Rattle.coco_early.proofs.OneWrite.{Wrote, one_write}
use Rattle.coco_early.proofs.PieceLemmas.{IsOfDone, RiseInTime, its_request, of_done, one_id, one_standing, own_ids, pieces_rise, to_all}

-- Dones that are the outcome of an execution, with their pieces
pub record HasOutcome (b : Beginning) (epoch : ℕ) (x : Execution) (dones : List Done) (pieces : List Piece) : Type 0 where
  pub execution : IsExecution b x
  pub outcome : IsOutcome b epoch x dones
  pub distinct : IsDistinct nat_eq (map (λ (r : Request). r.id) b.requests)
  pub pieces_are : pieces ≡ pieces_of b.procs b.partitions b.requests b.opening dones

module _ (epochs : InEachExecution OutcomesAreEpochs) (b : Beginning) (epoch : ℕ) (x : Execution) (dones : List Done) (pieces : List Piece) (has : HasOutcome b epoch x dones pieces) where
  made : IsEpochOf b.requests (record { number = epoch; dones = dones })
  made = epochs b x has.execution epoch dones has.outcome has.distinct

  abbrev OfDone : Piece → Type 0
  OfDone = IsOfDone b.procs b.partitions b.requests b.opening dones

  pub its_done : (y : Piece) → Contains pieces y → OfDone y
  its_done y among = of_done b.procs b.partitions b.requests b.opening dones y (subst (λ (ys : List Piece). Among ys y) has.pieces_are (from_contains pieces y among))

  pub rise : RiseInTime pieces
  rise = subst RiseInTime (sym has.pieces_are) (pieces_rise b.procs b.partitions b.requests epoch b.opening dones made.numbered made.rising)

  -- a write of a piece is on its partition
  pub at_home : (y : Piece) → Contains pieces y → (w : Write) → Among y.writes w → w.key.row % b.partitions ≡ y.partition
  at_home y among w h =
      let o : OfDone y = its_done y among in
      let on = of_filter (λ (v : Write). nat_eq (v.key.row % b.partitions) y.partition) (run b.procs o.d.call (rows_after b.procs b.opening o.before)).writes w (subst (λ (ws : List Write). Among ws w) o.writes_are h) in
      eqb-true (w.key.row % b.partitions) y.partition on.1

  one_piece : (y z : Piece) → OfDone y → OfDone z → y.partition ≡ z.partition → y.place ≡ z.place → y ≡ z
  one_piece y z o q partition place =
      let in_y : Among dones o.d = subst (λ (ds : List Done). Among ds o.d) (sym o.split) (right o.before (o.d ∷ o.behind) o.d (inl refl)) in
      let in_z : Among dones q.d = subst (λ (ds : List Done). Among ds q.d) (sym q.split) (right q.before (q.d ∷ q.behind) q.d (inl refl)) in
      let ids : o.d.id ≡ q.d.id =
      one_id b.requests o.d.id q.d.id (its_request b.requests dones made.each o.d in_y) (its_request b.requests dones made.each q.d in_z) (sym o.place_is ∙ place ∙ q.place_is) in
      let one = one_standing dones o.before o.behind q.before q.behind o.d q.d (own_ids b.requests dones made.each has.distinct) o.split q.split ids in
      let times : y.time ≡ z.time = o.time_is ∙ ap (λ (d : Done). d.time) one.1 ∙ sym q.time_is in
      let there : writes_on b.partitions y.partition (run b.procs o.d.call (rows_after b.procs b.opening o.before)).writes ≡ writes_on b.partitions z.partition (run b.procs q.d.call (rows_after b.procs b.opening q.before)).writes =
      λ i. writes_on b.partitions (partition i) (run b.procs (one.1 i).call (rows_after b.procs b.opening (one.0 i))).writes in
      let writes : y.writes ≡ z.writes = o.writes_are ∙ there ∙ sym q.writes_are in
      λ i. record { place = place i; partition = partition i; time = times i; writes = writes i }

module _ (mine : InEachExecution StepsAreMine) (apart : OnEachKeyOfEach (λ opening k journal. ApartInTime k journal)) (times : OnEachKeyOfEach (λ opening k journal. WriteTimesRise k journal))
    (runs : InEachExecution WritesAreRuns) (tail_runs : InEachExecution TailWritesAreRuns) (epochs : InEachExecution OutcomesAreEpochs) where
  pub shippable : (b : Beginning) (epoch : ℕ) (x : Execution) (dones : List Done) (pieces : List Piece) → HasOutcome b epoch x dones pieces → (ring : Ring) → ring.partitions ≡ b.partitions → AreShippable ring pieces
  shippable b epoch x dones pieces has ring fits = record {
    partitions = partitions;
    one_piece = one;
    one_write = write;
  }
    where
      done : (y : Piece) → Contains pieces y → IsOfDone b.procs b.partitions b.requests b.opening dones y
      done = its_done epochs b epoch x dones pieces has

      one : (p : ℕ) (y z : Piece) → IsOf pieces p y → IsOf pieces p z → y.place ≡ z.place → y ≡ z
      one p y z in_y in_z place = one_piece epochs b epoch x dones pieces has y z (done y in_y.among) (done z in_z.among) (in_y.partition ∙ sym in_z.partition) place

      wrote : (y : Piece) → Contains pieces y → (w : Write) → Contains y.writes w → Wrote mine apart times runs tail_runs b x has.execution epoch dones has.outcome has.distinct y.time w
      wrote y among w h =
          let o = done y among in
          record {
            before = o.before;
            behind = o.behind;
            d = o.d;
            split = o.split;
            time_is = sym o.time_is;
            among = (of_filter (λ (v : Write). nat_eq (v.key.row % b.partitions) y.partition) (run b.procs o.d.call (rows_after b.procs b.opening o.before)).writes w (subst (λ (ws : List Write). Among ws w) o.writes_are (from_contains y.writes w h))).0;
          }

      write : (p : ℕ) (y z : Piece) → IsOf pieces p y → IsOf pieces p z → y.time ≡ z.time → (w v : Write) → Contains y.writes w → Contains z.writes v → w.key ≡ v.key → w ≡ v
      write p y z in_y in_z at w v in_w in_v key =
          one_write mine apart times runs tail_runs b x has.execution epoch dones has.outcome has.distinct z.time w v
          (subst (λ (n : ℕ). Wrote mine apart times runs tail_runs b x has.execution epoch dones has.outcome has.distinct n w) at (wrote y in_y.among w in_w)) (wrote z in_z.among v in_v) key

      partitions : All (λ (y : Piece). y.partition < ring.partitions) pieces
      partitions = All-from_recursion (λ (y : Piece). y.partition < ring.partitions) pieces (to_all (λ (y : Piece). y.partition < ring.partitions) pieces (λ y among. (let lt : y.partition < b.partitions = (done y (to_contains pieces y among)).within in omega (arith, lt, fits))))
