use Rattle.std.proofs.Common.{[], ◌∷◌, map, sym, ap, ◌∙◌, subst}
use Rattle.std.proofs.lemmas.List.{map-append}
use Rattle.coco_ast.specs.Views.{procedure_of}
use Rattle.coco_parse.specs.Machine.{Items}
use Rattle.coco_parse.specs.Refusal.{IsTreeOf}
use Rattle.coco_parse.specs.Steps.{Stands, words, behind_item}
use Rattle.coco_parse.proofs.Steps.{exit_same, exit_refused, stands_start, stands_end}
use Rattle.coco_parse.proofs.state.Parser.file.Goals as goal

pub loop-word-init : goal.loop-word-init
loop-word-init c =
    let p = c.args.self.now in
    let start = stands_start p c.new-cursor.result c.new-cursor.ensures.at c.new-cursor.ensures.counter in
    let tabled = subst (λ ts. Stands p c.new-cursor.result (Items ts [])) (sym c.new-tables.ensures.items) start in
    subst (λ ps. Stands p c.new-cursor.result (Items c.new-tables.result.items (map procedure_of ps))) (sym c.new-procs.ensures.items) tabled

pub returns-in_err-item : goal.returns-in_err-item
returns-in_err-item c = exit_refused _ _ c.args.self.now _ c.from_residual.ensures.1 (c.in_err-item.ensures.reads c.loop-word.tables.items (map procedure_of c.loop-word.procs.items) c.loop-word.invariant)

pub returns-in_err-table-in-Table : goal.returns-in_err-table-in-Table
returns-in_err-table-in-Table c =
    let ts = c.loop-word.tables.items in
    let ps = map procedure_of c.loop-word.procs.items in
    let begun = subst (λ i. Stands c.args.self.now c.item.new.cursor (behind_item i ts ps)) c.in-Table.is (c.in_ok-item.ensures.reads ts ps c.loop-word.invariant) in
    exit_refused _ _ c.args.self.now _ c.from_residual-in_err-table-in-Table.ensures.1 (c.in_err-table-in-Table.ensures.reads ts ps begun)

pub loop-word-preserved-in-Continue-branch-3 : goal.loop-word-preserved-in-Continue-branch-3
loop-word-preserved-in-Continue-branch-3 c =
    let ts = c.loop-word.tables.items in
    let ps = map procedure_of c.loop-word.procs.items in
    let begun = subst (λ i. Stands c.args.self.now c.item.new.cursor (behind_item i ts ps)) c.in-Table.is (c.in_ok-item.ensures.reads ts ps c.loop-word.invariant) in
    subst (λ us. Stands c.args.self.now c.table.new.cursor (Items us ps)) (sym c.in_ok-push-in-Table.ensures.items) (c.in_ok-table-in-Table.ensures.reads ts ps begun)

pub returns-in_err-procedure-in-Proc : goal.returns-in_err-procedure-in-Proc
returns-in_err-procedure-in-Proc c =
    let ts = c.loop-word.tables.items in
    let ps = map procedure_of c.loop-word.procs.items in
    let begun = subst (λ i. Stands c.args.self.now c.item.new.cursor (behind_item i ts ps)) c.in-Proc.is (c.in_ok-item.ensures.reads ts ps c.loop-word.invariant) in
    exit_same _ _ _ _ c.from_residual-in_err-procedure-in-Proc.ensures.1 (c.in_err-procedure-in-Proc.ensures.reads ts ps begun)

pub loop-word-preserved : goal.loop-word-preserved
loop-word-preserved c =
    let ts = c.loop-word.tables.items in
    let ps = map procedure_of c.loop-word.procs.items in
    let begun = subst (λ i. Stands c.args.self.now c.item.new.cursor (behind_item i ts ps)) c.in-Proc.is (c.in_ok-item.ensures.reads ts ps c.loop-word.invariant) in
    let more = ap (map procedure_of) c.in_ok-push-in-Proc.ensures.items ∙ map-append procedure_of c.loop-word.procs.items (c.in_ok-procedure-in-Proc.procedure ∷ []) in
    subst (λ qs. Stands c.args.self.now c.procedure.new.cursor (Items ts qs)) (sym more) (c.in_ok-procedure-in-Proc.ensures.reads ts ps begun)

pub returns : goal.returns
returns c =
    let p = c.args.self.now in
    let ts = c.loop-word.tables.items in
    let ps = map procedure_of c.loop-word.procs.items in
    let tree = stands_end p c.loop-word.cursor ts ps c.loop-word.invariant (sym c.in_default.ensures.word) in
    let tabled = subst (λ us. IsTreeOf (words p) (record { tables = us; procs = ps })) (sym c.from_vec.ensures) tree in
    subst (λ qs. IsTreeOf (words p) (record { tables = c.from_vec.result; procs = map procedure_of qs })) (sym c.from_vec-2.ensures) tabled
