-- One layout more was read, and is the last one.
use Rattle.std.proofs.Common.{◌≡◌, ℕ, ◌+◌, ◌<◌, List, [], ◌∷◌, ◌++◌, length, map, Option, None, Some, ap, sym, subst, ◌∙◌, arith}
use Rattle.std.specs.List.{AllByRecursion}
use Rattle.std.proofs.lemmas.List.{map-append}
use Rattle.coco_types.specs.Limits.{files_end}
use Rattle.coco_ast.proofs.Lists.{all_append}
use Rattle.coco_ast.specs.Tree.{Procedures}
use Rattle.coco_entry.specs.Layouts.{IsLayout, layout_bytes}
use Rattle.coco_entry.specs.declared.layout.LayoutEntry.{LayoutEntry}
use Rattle.coco_log.proofs.Appends.{end_more}
use Rattle.coco_log.specs.Grammar.{front}
use Rattle.coco_store.specs.Contents.{IsGoodLayout}
use Rattle.coco_store.specs.Entries.{layouts_kind}
use Rattle.coco_store.specs.Rules.{IsWithinLimits}
use Rattle.coco_store.specs.Texts.{IsAcceptedText}
use Rattle.coco_recover.specs.Layouts.{EndWith, IsGoodLast, IsLaidOut, layouts_end}
use Rattle.coco_recover.specs.declared.layouts.LastLayout.{LastLayout}

good_of : (last : LastLayout) → IsGoodLast last → IsGoodLayout last.entry
good_of last good = record { limits = good.limits; tree = last.procs; accepted = good.tree }

all_good : (entries : List LayoutEntry) (last : Option LastLayout) → EndWith entries last → AllByRecursion IsGoodLayout entries
all_good entries None none = subst (AllByRecursion IsGoodLayout) (sym none) tt
all_good entries (Some last) end = subst (AllByRecursion IsGoodLayout) (sym end.are) (all_append IsGoodLayout end.earlier (last.entry ∷ []) end.each (good_of last end.good, tt))

pub laid_out : (taken now : List LayoutEntry) (last : Option LastLayout) (gate : ℕ) (e : LayoutEntry) (tree : Procedures) (body : List ℕ) → IsLaidOut taken last gate → now ≡ taken ++ e ∷ [] → body ≡ layout_bytes e
    → IsLayout e → IsWithinLimits e → IsAcceptedText e.layout.text tree → gate + 5 + length body < files_end → IsLaidOut now (Some (record { entry = e; procs = tree; place = gate + 5 })) (gate + 5 + length body)
laid_out taken now last gate e tree body was is bytes layout limits text early =
    let behind : layouts_end now ≡ layouts_end taken + 5 + length (layout_bytes e) =
    ap layouts_end is ∙ ap (λ (bs : List (List ℕ)). length (front layouts_kind bs)) (map-append layout_bytes taken (e ∷ [])) ∙ end_more layouts_kind (map layout_bytes taken) (layout_bytes e) in
    record {
      end = record {
        earlier = taken;
        are = is;
        each = all_good taken last was.end;
        good = record { is = layout; limits = limits; tree = text; early = omega arith };
        place = omega (arith, was.gate_is);
      };
      gate_is = omega (arith, behind, was.gate_is, ap (λ (b : List ℕ). length b) bytes);
      early = early;
    }
