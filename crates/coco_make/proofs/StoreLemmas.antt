-- Files with the logs of a new store are a good store.
use Rattle.std.proofs.Common.{◌≡◌, ℕ, zero, suc, ◌+◌, ◌*◌, ◌^◌, ◌<◌, ◌≤◌, ◌==◌, ◌||◌, Bool, false, List, [], ◌∷◌, ◌++◌, length, refl, sym, ap, subst, ◌∙◌, arith, length-append}
use Rattle.std.specs.List.{IsDistinct, flat_map, range_with_len}
use Rattle.std.proofs.lemmas.Bool.Decides.{nat_tests}
use Rattle.std.proofs.lemmas.List.Concat.{flat_map-cons}
use Rattle.std.proofs.lemmas.List.Folds.{list_any-append}
use Rattle.std.proofs.lemmas.List.FromFn.{length-range_with_len}
use Rattle.coco_ast.specs.Tree.{Procedures}
use Rattle.coco_bytes.specs.Fields.{u32_bytes, u64_bytes}
use Rattle.coco_entry.specs.declared.layout.Layout.{Layout}
use Rattle.coco_entry.specs.Layouts.{AreNew, fields_bytes, HasFields, sizes_bytes, is_named, IsLayout, layout_bytes}
use Rattle.coco_entry.specs.Grammar.{bytes32}
use Rattle.coco_log.specs.Grammar.{most_entry_bytes}
use Rattle.coco_store.specs.Contents.{IsGoodLayout, history_of}
use Rattle.coco_store.specs.Rules.{IsWithinLimits}
use Rattle.coco_store.specs.Texts.{IsAcceptedText}
use Rattle.coco_make.specs.NewStore.{IsNewLayout, NewLogsAreAStore, entry_of, new_contents, new_layout}

-- ---- the layout

-- files from a number on are new behind those below it
new_from : (named : List ℕ) (at n : ℕ) → at + n ≤ 2 ^ 32 → ((f : ℕ) → at ≤ f → is_named named f ≡ false) → AreNew named (range_with_len at n)
new_from named at zero fits above = tt
new_from named at (suc n) fits above =
    let here : is_named named at ≡ false = above at (omega arith) in (
      (omega (arith, fits), here),
      new_from (named ++ at ∷ []) (at + 1) n (omega (arith, fits)) (λ f le.
          let other : (at == f) ≡ false = grind (arith, nat_tests) in
          list_any-append (λ n. n == f) named (at ∷ []) ∙ ap (λ (b : Bool). b || ((at == f) || false)) (above f (omega (arith, le))) ∙ ap (λ (b : Bool). b || false) other),
    )

above_chief : (f : ℕ) → 2 ≤ f → is_named (0 ∷ 1 ∷ []) f ≡ false
above_chief f le =
    let own : (0 == f) ≡ false = grind (arith, nat_tests) in
    let chief : (1 == f) ≡ false = grind (arith, nat_tests) in
    ap (λ (b : Bool). b || ((1 == f) || false)) own ∙ ap (λ (b : Bool). b || false) chief

fields_of_new : (nodes partitions copies : ℕ) (text : List ℕ) → nodes < 2 ^ 8 → partitions < 2 ^ 8 → copies < 2 ^ 8 → length text < 2 ^ 32 → HasFields (new_layout nodes partitions copies text)
fields_of_new nodes partitions copies text few small less short = record {
  nodes = few;
  partitions = small;
  copies = less;
  chief = (omega arith, refl);
  count = length-range_with_len 2 nodes;
  files = new_from (0 ∷ 1 ∷ []) 2 nodes (omega (arith, few)) above_chief;
  base_epoch = omega arith;
  text = short;
}

pub has_fields : (layout : Layout) → IsNewLayout layout → IsWithinLimits (entry_of layout) → (tree : Procedures) → IsAcceptedText layout.text tree → HasFields layout
has_fields layout is limits tree text =
    subst HasFields (sym is)
    (fields_of_new layout.nodes layout.partitions layout.copies layout.text (omega (arith, limits.nodes.1)) (omega (arith, limits.partitions.1)) (omega (arith, limits.nodes.1, limits.copies)) (omega (arith, text.short)))

pub fields_of : (layout : Layout) → IsNewLayout layout → IsGoodLayout (entry_of layout) → HasFields layout
fields_of layout is good = has_fields layout is good.limits good.tree good.accepted

pub is_layout : (layout : Layout) → IsNewLayout layout → IsWithinLimits (entry_of layout) → (tree : Procedures) → IsAcceptedText layout.text tree → IsLayout (entry_of layout)
is_layout layout is limits tree text = record { fields = has_fields layout is limits tree text; later = tt }

numbers_long : (files : List ℕ) → length (flat_map u32_bytes files) ≡ 4 * length files
numbers_long [] = refl
numbers_long (f ∷ files) = ap length (flat_map-cons u32_bytes f files) ∙ omega (arith, length-append (u32_bytes f) (flat_map u32_bytes files), numbers_long files)

fields_long : (layout : Layout) → length (fields_bytes layout) ≡ 19 + 4 * length layout.node_files + length layout.text
fields_long layout =
    let text : List ℕ = bytes32 layout.text in
    let behind : List ℕ = flat_map u32_bytes layout.node_files ++ (u64_bytes layout.base_epoch ++ text) in
    omega (
      arith,
      length-append (sizes_bytes layout.nodes layout.partitions layout.copies layout.chief_file) behind,
      length-append (flat_map u32_bytes layout.node_files) (u64_bytes layout.base_epoch ++ text),
      length-append (u64_bytes layout.base_epoch) text,
      length-append (u32_bytes (length layout.text)) layout.text,
      numbers_long layout.node_files,
    )

pub layout_short : (layout : Layout) (body : List ℕ) → IsNewLayout layout → IsGoodLayout (entry_of layout) → body ≡ layout_bytes (entry_of layout) → length body ≤ most_entry_bytes
layout_short layout body is good is_body =
    let count : length layout.node_files ≡ layout.nodes = ap (λ (l : Layout). length l.node_files) is ∙ length-range_with_len 2 layout.nodes in
    omega (arith, ap length is_body, length-append (fields_bytes layout) [], fields_long layout, count, good.limits.nodes.1, good.accepted.short)

-- ---- the store

pub new_logs_are_a_store : NewLogsAreAStore
unfolding IsDistinct
new_logs_are_a_store layout tree files is limits text logs = (
  record {
    holds = record {
      history = record {
        layouts = record { are = record { log = logs.layouts; are = (is_layout layout is limits tree text, tt) }; each = tt; limits = limits; tree = text };
        base = refl;
        commits = record { are = record { log = logs.empty.commits; are = tt }; each = tt };
      };
      nodes = λ n less. record { are = record { log = logs.empty.prepared n less; are = tt }; each = tt; committed = tt };
    };
    ordered = record { epochs_rise = tt; numbered = tt; rising = tt; once = tt; above_floor = tt };
    serial = record { replies = tt; times = tt };
    rows = λ n p node partition held. refl;
  },
  ap (λ (l : Layout). history_of (new_contents l tree)) is,
)
