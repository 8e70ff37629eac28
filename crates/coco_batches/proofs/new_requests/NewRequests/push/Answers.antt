use Rattle.std.proofs.Common.{nat_eq, [], ◌∷◌, ◌++◌, ap, ◌∙◌}
use Rattle.indexmap.proofs.CallerLemmas.{insert_entry-new}
use Rattle.coco_batches.specs.Asking.{request_under, requests_of}
use Rattle.coco_batches.proofs.NewRequestLemmas.{requests_of-append, absent_key}
use Rattle.coco_batches.proofs.new_requests.NewRequests.push.Goals as goal

pub returns-clause-ok : goal.returns-clause-ok
returns-clause-ok c =
    let absent = absent_key c.args.request.id c.self.inside.calls.entries (ap (request_under c.args.request.id) c.self.view_is ∙ c.requires) in
    ap requests_of (c.in_ok-insert.ensures.entries ∙ insert_entry-new nat_eq c.self.inside.calls c.args.request.id c.args.request.call absent)
    ∙ requests_of-append c.self.inside.calls.entries (c.args.request.id, c.args.request.call)
    ∙ ap (λ rs. rs ++ c.args.request ∷ []) c.self.view_is
