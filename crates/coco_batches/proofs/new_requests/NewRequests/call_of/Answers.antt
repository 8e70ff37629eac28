use Rattle.std.proofs.Common.{ap, ◌∙◌}
use Rattle.coco_types.specs.declared.call.Call.{Call}
use Rattle.coco_types.specs.declared.call.Request.{Request}
use Rattle.std.specs.Option.{option_map}
use Rattle.coco_batches.specs.Asking.{request_under}
use Rattle.coco_batches.proofs.NewRequestLemmas.{lookup-requests_of}
use Rattle.coco_batches.proofs.new_requests.NewRequests.call_of.Goals as goal

pub returns : goal.returns
returns c =
    c.get.ensures.value ∙ lookup-requests_of c.args.id c.self.inside.calls.entries
    ∙ ap (λ rs. option_map {T = Request} {U = Call} (λ r. r.call) (request_under c.args.id rs)) c.self.view_is
