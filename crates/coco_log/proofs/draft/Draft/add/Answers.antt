use Rattle.std.proofs.Common.{◌≡◌, ℕ, List, Ok, Err, Result, ◌++◌, OnOk, [], ◌∷◌, ap, subst, sym}
use Rattle.coco_log.specs.Drafts.{Drafted, Drafts}
use Rattle.coco_log.specs.Grammar.{entry}
use Rattle.coco_log.proofs.Drafting.{drafts_more, drafts_written}
use Rattle.coco_log.proofs.draft.Draft.add.Goals as goal

pub returns-then-len-lt-PIECE-clause-drafts : goal.returns-then-len-lt-PIECE-clause-drafts
returns-then-len-lt-PIECE-clause-drafts g c bodies drafts =
    let x = c.self.inside in
    let R = g.H.Host.reads c.args.host.now in
    let old : Drafted = record { file = x.file; kind = x.kind; written = x.written; rest = x.rest.items } in
    let now : Drafted = record { file = x.file; kind = x.kind; written = x.written; rest = c.put_entry.new.out.items } in
    let is : now ≡ record old { rest = old.rest ++ entry c.args.body.now } = ap (λ (l : List ℕ). let d : Drafted = record { file = x.file; kind = x.kind; written = x.written; rest = l } in d) c.in_ok-put_entry.ensures in
    drafts_more old now c.args.body.now bodies R is c.requires.short (subst (λ (d : Drafted). Drafts d bodies R) (sym c.self.view_is) drafts)

both : {T E : Type 0} (r : Result T E) (P Q W : Type 0) → OnOk r P → OnOk r Q → (P → Q → W) → OnOk r W
both (Ok x) P Q W p q step = step p q
both (Err e) P Q W p q step = tt

pub returns-clause-drafts : goal.returns-clause-drafts
returns-clause-drafts g c =
    both c.write.result _ _ _ c.write.ensures.written c.write.ensures.on (λ wrote on bodies drafts.
    let x = c.self.inside in
    let R = g.H.Host.reads in
    let old : Drafted = record { file = x.file; kind = x.kind; written = x.written; rest = x.rest.items } in
    let mid : Drafted = record { file = x.file; kind = x.kind; written = x.written; rest = c.put_entry.new.out.items } in
    let is : mid ≡ record old { rest = old.rest ++ entry c.args.body.now } = ap (λ (l : List ℕ). let d : Drafted = record { file = x.file; kind = x.kind; written = x.written; rest = l } in d) c.in_ok-put_entry.ensures in
    let more = drafts_more old mid c.args.body.now bodies (R c.args.host.now) is c.requires.short (subst (λ (d : Drafted). Drafts d bodies (R c.args.host.now)) (sym c.self.view_is) drafts) in
    drafts_written mid c.write.new.self (bodies ++ c.args.body.now ∷ []) (R c.args.host.now) (R c.write.new.host) on wrote more)
