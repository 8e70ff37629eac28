use Rattle.std.proofs.Common.{List, [], ◌∷◌, ◌++◌, map, sym, ap, subst, ◌∙◌}
use Rattle.std.proofs.lemmas.List.{map-append}
use Rattle.coco_entry.specs.declared.prepared.Prepared.{Prepared}
use Rattle.coco_recover.specs.Nodes.{HoldsNodes, nodes_of}
use Rattle.coco_recover.specs.declared.nodes.Loaded.{Loaded}
use Rattle.coco_recover.proofs.Loading.{node_begins}
use Rattle.coco_recover.proofs.without.passed.Goals as goal

pub returns-clause-nodes : goal.returns-clause-nodes
returns-clause-nodes c =
    ap (map (λ t. t.items)) (c.add.ensures ∙ ap (λ ts. c.args.loaded.nodes.items ++ ts) c.from_ref.ensures.value)
    ∙ map-append (λ t. t.items) c.args.loaded.nodes.items (c.new.result ∷ [])
    ∙ ap (λ (entries : List Prepared). nodes_of c.args.loaded ++ entries ∷ []) c.new.ensures

pub returns-clause-loaded : goal.returns-clause-loaded
returns-clause-loaded c b commits held =
    let old = c.args.loaded in
    let new : Loaded = record { tables = old.tables; next = old.next; nodes = c.add.new.self } in
    let begun = node_begins b commits (nodes_of old) old held in
    subst (λ (ns : List (List Prepared)). HoldsNodes b commits ns new) (sym (returns-clause-nodes c)) (record { tables = begun.tables; next = begun.next })
