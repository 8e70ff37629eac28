-- A batch's new requests, as the pairs of a map and as a list of requests.
use Rattle.std.proofs.Common.{◌≡◌, ℕ, Bool, true, false, nat_eq, List, [], ◌∷◌, ◌++◌, Option, None, Some, cond, refl, ap, ◌∙◌}
use Rattle.std.specs.Option.{option_map}
use Rattle.std.specs.Map.{lookup}
use Rattle.coco_types.specs.declared.call.Call.{Call}
use Rattle.coco_types.specs.declared.call.Request.{Request}
use Rattle.coco_batches.specs.Asking.{request_under, requests_of}

abbrev call_in : Option Request → Option Call
call_in = option_map {T = Request} {U = Call} (λ r. r.call)

lookup_step : (b : Bool) (e : ℕ × Call) (found : Option Call) (under : Option Request) → found ≡ call_in under
    → cond b (Some e.1) found ≡ call_in (cond b (Some (record { id = e.0; call = e.1 })) under)
lookup_step true e found under h = refl
lookup_step false e found under h = h

-- the call that a map's pairs have under an id is that of the request with the id
pub lookup-requests_of : (id : ℕ) (es : List (ℕ × Call)) → lookup (nat_eq id) es ≡ call_in (request_under id (requests_of es))
lookup-requests_of id [] = refl
lookup-requests_of id (e ∷ es) = lookup_step (nat_eq id e.0) e _ _ (lookup-requests_of id es)

pub requests_of-append : (es : List (ℕ × Call)) (e : ℕ × Call) → requests_of (es ++ e ∷ []) ≡ requests_of es ++ record { id = e.0; call = e.1 } ∷ []
requests_of-append [] e = refl
requests_of-append (x ∷ es) e = ap (λ rs. record { id = x.0; call = x.1 } ∷ rs) (requests_of-append es e)

-- an id that no request has is no key
pub absent_key : (id : ℕ) (es : List (ℕ × Call)) → request_under id (requests_of es) ≡ None → lookup (nat_eq id) es ≡ None
absent_key id es h = lookup-requests_of id es ∙ ap call_in h
