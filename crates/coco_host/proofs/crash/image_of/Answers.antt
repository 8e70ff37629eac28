use Rattle.std.proofs.Common.{◌≡◌, ℕ, ◌-◌, ◌<◌, List, length, map, get_or, take, drop, sym, ap, subst, ◌∙◌, arith}
use Rattle.std.proofs.lemmas.List.{take_rest, take-map, drop-map, length-map}
use Rattle.coco_host.specs.Record.{Event, content, stored}
use Rattle.coco_host.specs.Recorded.{event_of, IsPlaced}
use Rattle.coco_host.specs.Crash.{is_sync, IsTornFrom}
use Rattle.coco_host.specs.declared.recorded.Happening.{Happening}
use Rattle.coco_host.proofs.Crashing.{placed_front, none_in_rest, image_from}
use Rattle.coco_host.proofs.Cutting.{nothing}
use Rattle.coco_host.proofs.crash.image_of.Goals as goal

-- the events behind a place
rest_is : (xs : List Happening) (at : ℕ) → map event_of (take (length xs - at) (drop at xs)) ≡ drop at (map event_of xs)
rest_is xs at = ap (map event_of) (take_rest xs at) ∙ sym (drop-map event_of at xs)

pub reading-requires : goal.reading-requires
reading-requires c =
    let xs = c.args.happened.now in
    let at = c.last_sync-synced.result in
    subst (IsPlaced c.args.file nothing) (take-map event_of at xs) (placed_front c.args.file nothing (map event_of xs) at c.requires)

pub tear_all-requires : goal.tear_all-requires
tear_all-requires c =
    let xs = c.args.happened.now in
    let at = c.last_sync-synced.result in
    λ k e below.
    let behind : k < length (drop at (map event_of xs)) = omega (arith, below, ap length (rest_is xs at), length-map (take (length xs - at) (drop at xs)) event_of) in
    ap (λ (es : List Event). is_sync c.args.file (get_or es k e)) (rest_is xs at) ∙ none_in_rest c.args.file (map event_of xs) at c.last_sync-synced.ensures k e behind

pub returns : goal.returns
returns c =
    let xs = c.args.happened.now in
    let at = c.last_sync-synced.result in
    image_from c.args.file (map event_of xs) at c.in_ok-bytes.bytes.items c.tear_all.new.bytes.items c.last_sync-synced.ensures
    (c.in_ok-bytes.ensures ∙ ap (λ (es : List Event). content (stored es c.args.file)) (sym (take-map event_of at xs)))
    (subst (λ (es : List Event). IsTornFrom c.args.file c.in_ok-bytes.bytes.items es c.tear_all.new.bytes.items) (rest_is xs at) c.in_ok-tear_all.ensures)
