use Rattle.std.proofs.Common.{◌≡◌, inl, ℕ, [], length, Option, IfSome, Err, refl, sym, ap, subst, ◌∙◌}
use Rattle.std.proofs.lemmas.Result.{err_from_is_err_and}
use Rattle.coco_host.specs.Files.{Files}
use Rattle.coco_log.specs.Grammar.{IsNoHeader}
use Rattle.coco_log.specs.Reading.{Reading, IsReading}
use Rattle.coco_log.proofs.OnlyRead.{read_first, read_on, read_then}
use Rattle.coco_log.proofs.Walks.{walked_first, same_fault}
use Rattle.coco_log.proofs.entries.Entries.open.Goals as goal

pub returns-in_err-sync-clause-read : goal.returns-in_err-sync-clause-read
returns-in_err-sync-clause-read g c =
    let N = g.met.H.Host.only_now in
    read_on g.H.Host N _ _ _ (read_first g.H.Host N _) c.sync.ensures.same c.sync.ensures.said c.sync.ensures.crash c.sync.ensures.time c.sync.ensures.others

pub returns-in_err-window-clause-read : goal.returns-in_err-window-clause-read
returns-in_err-window-clause-read g c =
    let N = g.met.H.Host.only_now in
    read_on g.H.Host N _ _ _ (read_first g.H.Host N _) c.sync.ensures.same c.sync.ensures.said c.sync.ensures.crash c.sync.ensures.time c.sync.ensures.others

pub returns-in_err-read_header-clause-read : goal.returns-in_err-read_header-clause-read
returns-in_err-read_header-clause-read g c =
    let N = g.met.H.Host.only_now in
    let synced = read_on g.H.Host N _ _ _ (read_first g.H.Host N _) c.sync.ensures.same c.sync.ensures.said c.sync.ensures.crash c.sync.ensures.time c.sync.ensures.others in
    read_then g.H.Host N _ _ _ synced c.read_header.ensures.read

pub returns-in_err-read_header-clause-refused : goal.returns-in_err-read_header-clause-refused
returns-in_err-read_header-clause-refused g c at files e told =
    let p = err_from_is_err_and c.from_residual-in_err-read_header.result c.from_residual-in_err-read_header.ensures.1 in
    let fault = sym p.2 ∙ same_fault _ _ _ (sym p.1 ∙ e) in
    subst (λ (f : ℕ). IsNoHeader c.args.kind (files f) at) c.in_ok-window.ensures.file
    (c.in_err-read_header.ensures.refused at files (ap Err fault) (c.sync.ensures.same ∙ told) (c.in_ok-window.ensures.part (files c.in_ok-window.window.file)))

pub returns-in_err-end-clause-read : goal.returns-in_err-end-clause-read
returns-in_err-end-clause-read g c =
    let N = g.met.H.Host.only_now in
    let synced = read_on g.H.Host N _ _ _ (read_first g.H.Host N _) c.sync.ensures.same c.sync.ensures.said c.sync.ensures.crash c.sync.ensures.time c.sync.ensures.others in
    let begun = read_then g.H.Host N _ _ _ synced c.read_header.ensures.read in
    read_on g.H.Host N _ _ _ begun c.len.ensures.same c.len.ensures.said c.len.ensures.crash c.len.ensures.time c.len.ensures.others

pub returns-then-end-ge-FILES_END-clause-read : goal.returns-then-end-ge-FILES_END-clause-read
returns-then-end-ge-FILES_END-clause-read g c =
    let N = g.met.H.Host.only_now in
    let synced = read_on g.H.Host N _ _ _ (read_first g.H.Host N _) c.sync.ensures.same c.sync.ensures.said c.sync.ensures.crash c.sync.ensures.time c.sync.ensures.others in
    let begun = read_then g.H.Host N _ _ _ synced c.read_header.ensures.read in
    read_on g.H.Host N _ _ _ begun c.len.ensures.same c.len.ensures.said c.len.ensures.crash c.len.ensures.time c.len.ensures.others

pub returns-clause-read : goal.returns-clause-read
returns-clause-read g c =
    let N = g.met.H.Host.only_now in
    let synced = read_on g.H.Host N _ _ _ (read_first g.H.Host N _) c.sync.ensures.same c.sync.ensures.said c.sync.ensures.crash c.sync.ensures.time c.sync.ensures.others in
    let begun = read_then g.H.Host N _ _ _ synced c.read_header.ensures.read in
    read_on g.H.Host N _ _ _ begun c.len.ensures.same c.len.ensures.said c.len.ensures.crash c.len.ensures.time c.len.ensures.others

pub returns-clause-ok : goal.returns-clause-ok
returns-clause-ok g c files told =
    let f = c.in_ok-window.window.file in
    let last = c.read_header.new.window in
    let same : last.file ≡ f = c.in_ok-read_header.ensures.file in
    let named : f ≡ c.args.file = c.in_ok-window.ensures.file in
    let synced = c.sync.ensures.same ∙ told in
    let first = c.in_ok-window.ensures.part (files f) in
    let walked = walked_first c.args.kind (files f) (c.in_ok-read_header.ensures.ok files synced first) in
    let reading : Reading = record { file = last.file; kind = c.args.kind; places = c.new-2.result.items; at = 8; end = c.in_ok-end.end; from = last.from; count = last.count; bytes = last.bytes.items; body = [] } in
    let long : c.in_ok-end.end ≡ length (files c.args.file) = subst (λ (o : Option Files). IfSome o (λ fs. c.in_ok-end.end ≡ length (fs c.args.file))) (c.read_header.ensures.read.same ∙ synced) c.in_ok-end.ensures.length in
    let begun : IsReading reading [] (files f) = record {
      walked = record { short = walked.short; is = walked.is; here = walked.here; gates = c.new-2.ensures.items };
      end = long ∙ ap (λ (n : ℕ). length (files n)) (sym named);
      gate = inl refl;
      part = c.in_ok-read_header.ensures.part files synced first;
    } in
    record {
      reading = subst (λ (n : ℕ). IsReading reading [] (files n)) (sym same) begun;
      durable = λ d left. subst (λ (n : ℕ). d n ≡ files n) (sym (same ∙ named)) (c.in_ok-sync.ensures.durable files told d (c.read_header.ensures.read.crash d (c.len.ensures.crash d left)));
    }
