-- The texts of a batch's answers are the answers in the history that it made, also where its own epoch made the store forget a Done.
use Rattle.std.proofs.Common.{◌≡◌, ℕ, ◌+◌, ◌<◌, ◌≤◌, Bool, true, false, cond, nat_eq, nat_lt, List, [], ◌∷◌, ◌++◌, filter, map, Option, None, Some, refl, sym, ap, subst, ◌∙◌, arith, append-nil}
use Rattle.std.specs.Cmp.{nat_eq_equiv}
use Rattle.std.specs.List.{AllByRecursion, IsDistinct}
use Rattle.std.specs.Option.{option_or}
use Rattle.std.specs.Prelude.{⊤, MatchOption}
use Rattle.std.specs.Set.{distinct_count}
use Rattle.std.proofs.lemmas.Bool.Decides.{nat_tests}
use Rattle.std.proofs.lemmas.List.Elements.{filter-append}
use Rattle.coco_recover.proofs.Few.{filter_keeps}
use Rattle.coco_types.specs.declared.call.Done.{Done}
use Rattle.coco_types.specs.declared.call.Request.{Request}
use Rattle.coco_ast.specs.Growth.{GrowsBy}
use Rattle.coco_ast.specs.History.{Epoch, HaveTheirNumbers, History, IsOrdered, RisesAbove, all_dones, done_of, dones_in, epoch_dones, epochs_above, floor, followed_by, ids_of, is_held, kept, last_epoch, last_number, request_of}
use Rattle.coco_ast.specs.Tree.{Procedures}
use Rattle.coco_ast.proofs.GrowthLemmas.{done_of-append, dones_behind}
use Rattle.coco_ast.proofs.Growths.{kept_are_dones}
use Rattle.coco_ast.proofs.KeptLemmas.{follows, keeps_all}
use Rattle.coco_ast.proofs.Lists.{all_append, all_weaker}
use Rattle.coco_batches.specs.Answering.{answer_of, answers_from, held_text, held_texts, reply_to}
use Rattle.coco_lines.specs.Answers.{answer_by, answers_by, replied_id, text_of}
use Rattle.coco_lines.specs.Classes.{AreClasses, known_in, new_of}
use Rattle.coco_lines.specs.Lines.{Line}
use Rattle.coco_lines.specs.Replies.{HasNoLaterDone, HasReply, HaveReplies}
use Rattle.coco_lines.specs.declared.class.Class.{Class}
use Rattle.coco_lines.specs.declared.class.Class.TheVariants.{Refused, Same, New}
use Rattle.coco_lines.proofs.ReplyLemmas.{all_replies}
use Rattle.coco_store.specs.Contents.{Contents, HoldsBase, IsGoodStore, history_of}
use Rattle.coco_host.specs.Files.{Files}
use Rattle.coco_store.specs.Entries.{BaseEntry}
use Rattle.coco_store.specs.Rules.{EachBehind, IsKeep, IsKeptDone, IsNextBase, Setting, dones_of, kept_dones}

-- ---- lists of Dones

filter_all_of : (p : Done → Bool) (xs : List Done) → AllByRecursion (λ x. p x ≡ true) xs → filter p xs ≡ xs
filter_all_of p [] all = refl
filter_all_of p (x ∷ xs) all = ap (λ b. cond b (x ∷ filter p xs) (filter p xs)) all.0 ∙ ap (λ l. x ∷ l) (filter_all_of p xs all.1)

no_numbers : (n : ℕ) (ds : List Done) → AllByRecursion (λ (d : Done). d.epoch ≤ n) ds → filter (λ m. nat_lt n m) (map (λ (d : Done). d.epoch) ds) ≡ []
no_numbers n [] all = refl
no_numbers n (d ∷ ds) all =
    ap (λ b. cond b (d.epoch ∷ filter (λ m. nat_lt n m) (map (λ (d : Done). d.epoch) ds)) (filter (λ m. nat_lt n m) (map (λ (d : Done). d.epoch) ds))) (not_above d.epoch n all.0) ∙ no_numbers n ds all.1
  where
    not_above : (m n : ℕ) → m ≤ n → nat_lt n m ≡ false
    not_above m n le = grind (arith, nat_tests)

none_or : (b : Bool) (d : Done) (o : Option Done) → cond b (Some d) o ≡ None → (b ≡ false) × (o ≡ None)
none_or true d o none = let e : Some d ≡ None = none in cc
none_or false d o none = (refl, none)

none_passing : (p : Done → Bool) (id : ℕ) (ds : List Done) → done_of id ds ≡ None → done_of id (filter p ds) ≡ None
none_passing p id [] none = refl
none_passing p id (d ∷ ds) none =
    let split = none_or (nat_eq id d.id) d (done_of id ds) none in
    elim (p d) as (λ b. done_of id (cond b (d ∷ filter p ds) (filter p ds)) ≡ None) [
      | true ↦ ap (λ b. cond b (Some d) (done_of id (filter p ds))) split.0 ∙ none_passing p id ds split.1
      | false ↦ none_passing p id ds split.1
    ]

-- the Done of an id has the id
some_by : (id : ℕ) (x d : Done) (xs : List Done) (b : Bool) → nat_eq id x.id ≡ b → (done_of id xs ≡ Some d → nat_eq id d.id ≡ true) → cond b (Some x) (done_of id xs) ≡ Some d → nat_eq id d.id ≡ true
some_by id x d xs true e rest found = let same : x ≡ d = cc in subst (λ (y : Done). nat_eq id y.id ≡ true) same e
some_by id x d xs false e rest found = rest found

has_id : (id : ℕ) (ds : List Done) (d : Done) → done_of id ds ≡ Some d → nat_eq id d.id ≡ true
has_id id [] d found = let e : None ≡ Some d = found in cc
has_id id (x ∷ xs) d found = some_by id x d xs (nat_eq id x.id) refl (has_id id xs d) found

same_number : (m n : ℕ) → nat_eq m n ≡ true → m ≡ n
same_number m n h = grind (arith, nat_tests)

-- what holds of each Done's id holds of one that is found
of_found : (P : ℕ → Type 0) (id : ℕ) (ds : List Done) (d : Done) → AllByRecursion P (ids_of ds) → done_of id ds ≡ Some d → P id
of_found P id [] d all found = let e : None ≡ Some d = found in absurd (cc)
of_found P id (x ∷ xs) d all found = elim (nat_eq id x.id) as (λ b. nat_eq id x.id ≡ b → cond b (Some x) (done_of id xs) ≡ Some d → P id) [
  | true ↦ λ e f. subst P (sym (same_number id x.id e)) all.0
  | false ↦ λ e f. of_found P id xs d all.1 f
] refl found

-- where ids are distinct, a Done behind others is found among all
found_behind : (id : ℕ) (xs ys : List Done) (d : Done) → IsDistinct nat_eq (ids_of (xs ++ ys)) → done_of id ys ≡ Some d → done_of id (xs ++ ys) ≡ Some d
unfolding IsDistinct
found_behind id [] ys d once found = found
found_behind id (x ∷ xs) ys d once found =
    let rest = found_behind id xs ys d once.1 found in
    let apart : nat_eq x.id id ≡ false = of_found (λ n. nat_eq x.id n ≡ false) id (xs ++ ys) d once.0 rest in
    ap (λ b. cond b (Some x) (done_of id (xs ++ ys))) (nat_eq_equiv.symm id x.id ∙ apart) ∙ rest

-- ---- no Done is of a later epoch than the last
-- (the first four lemmas stand in coco_ast and coco_append too, where they are private)

last_least : (m : ℕ) (es : List Epoch) → RisesAbove m (map (λ (e : Epoch). e.number) es) → m ≤ last_number m es
last_least m [] rises = omega arith
last_least m (e ∷ es) rises = let h = last_least e.number es rises.1 in let l : m < e.number = rises.0 in omega (arith, h, l)

dones_low : (n m : ℕ) (es : List Epoch) → HaveTheirNumbers es → RisesAbove m (map (λ (e : Epoch). e.number) es) → last_number m es ≤ n → AllByRecursion (λ (d : Done). d.epoch ≤ n) (dones_in es)
dones_low n m [] numbers rises le = tt
dones_low n m (e ∷ es) numbers rises le =
    all_append (λ (d : Done). d.epoch ≤ n) e.dones (dones_in es)
    (all_weaker (λ (d : Done). d.epoch ≡ e.number) (λ (d : Done). d.epoch ≤ n) (λ d is. (let low = last_least e.number es rises.1 in omega (arith, is, low, le))) e.dones numbers.0)
    (dones_low n e.number es numbers.1 rises.1 le)

kept_of_one : (s : Setting) (before ds : List Done) → EachBehind (IsKeptDone s) before ds → AllByRecursion (λ (d : Done). d.epoch ≤ s.entry.layout.base_epoch) ds
kept_of_one s before [] each = tt
kept_of_one s before (d ∷ ds) each = (each.0.epoch.1, kept_of_one s (before ++ d ∷ []) ds each.1)

kept_of_all : (s : Setting) (before entries : List BaseEntry) → EachBehind (IsNextBase s) before entries → AllByRecursion (λ (d : Done). d.epoch ≤ s.entry.layout.base_epoch) (kept_dones entries)
kept_of_all s before [] each = tt
kept_of_all s before (e ∷ entries) each =
    all_append _ (dones_of e) (kept_dones entries) (kept_of_one s (kept_dones before) (dones_of e) each.0.dones) (kept_of_all s (before ++ e ∷ []) entries each.1)

kept_low : (files : Files) (s : Setting) (entries : List BaseEntry) (file : Option ℕ) → HoldsBase files s entries file → AllByRecursion (λ (d : Done). d.epoch ≤ s.entry.layout.base_epoch) (kept_dones entries)
kept_low files s entries None is = subst (λ es. AllByRecursion (λ (d : Done). d.epoch ≤ s.entry.layout.base_epoch) (kept_dones es)) (sym is) tt
kept_low files s entries (Some file) is = kept_of_all s [] entries is.1.each

pub no_later_done : (files : Files) (c : Contents) → IsGoodStore files c → HasNoLaterDone (history_of c)
no_later_done files c good =
    let h = history_of c in
    let least = last_least h.base.epoch h.epochs good.ordered.epochs_rise in
    all_append (λ (d : Done). d.epoch ≤ last_epoch h) h.base.kept (epoch_dones h)
    (all_weaker (λ (d : Done). d.epoch ≤ c.setting.entry.layout.base_epoch) (λ (d : Done). d.epoch ≤ last_epoch h) (λ d low. omega (arith, low, least)) h.base.kept (kept_low files c.setting c.base c.setting.entry.base_file good.holds.history.base))
    (dones_low (last_epoch h) h.base.epoch h.epochs good.ordered.numbered good.ordered.epochs_rise (omega arith))

abbrev pub KeepsSome : Option ℕ → Type 0
KeepsSome keep = (k : ℕ) → keep ≡ Some k → 0 < k

keeps_by : (keep : Option ℕ) → IsKeep keep → KeepsSome keep
keeps_by None is k some = let e : None ≡ Some k = some in absurd (cc)
keeps_by (Some n) is k some = (let one : 1 ≤ n = is.0 in let e : n ≡ k = cc in omega (arith, one, e))

pub keeps_some : (files : Files) (c : Contents) → IsGoodStore files c → KeepsSome (history_of c).keep
keeps_some files c good = keeps_by c.setting.entry.keep good.holds.history.layouts.limits.keep

-- ---- the Dones of the last epoch are kept

held_last : (keep : Option ℕ) (n : ℕ) (ds : List Done) → KeepsSome keep → AllByRecursion (λ (d : Done). d.epoch ≤ n) ds → (d : Done) → d.epoch ≡ n → is_held keep ds d ≡ true
held_last None n ds some low d is = refl
held_last (Some k) n ds some low d is =
    ap (λ m. nat_lt (epochs_above m ds) k) is ∙ ap (λ l. nat_lt (distinct_count nat_eq l) k) (no_numbers n ds low) ∙ above_none k (some k refl)
  where
    above_none : (k : ℕ) → 0 < k → nat_lt 0 k ≡ true
    above_none k less = grind (arith, nat_tests)

-- ---- the text of a reply

-- an id is kept, or it is one of the Dones of the epoch
known_or_new : (id : ℕ) (xs ys : List Done) (d : Done) (o : Option Done) → done_of id xs ≡ o → done_of id (xs ++ ys) ≡ Some d → option_or o (done_of id ys) ≡ Some d
known_or_new id xs ys d o is found = ap (λ x. option_or x (done_of id ys)) (sym is) ∙ sym (done_of-append id xs ys) ∙ found

-- the answer with this reply
abbrev pub IsReplied : List Done → List Done → List Done → List Done → Type 0
IsReplied before after dones known =
    (id : ℕ) (d : Done) → done_of id known ≡ Some d → held_text after (reply_to id (done_of id before)) ≡ text_of (done_of id dones)

-- a kept Done gives its text, before the batch
early_reply : (before after dones : List Done) (id : ℕ) (d : Done) → done_of id before ≡ Some d → done_of id dones ≡ Some d → held_text after (reply_to id (done_of id before)) ≡ text_of (done_of id dones)
early_reply before after dones id d kept_so found = ap (λ o. held_text after (reply_to id o)) kept_so ∙ ap text_of (sym found)

late_reply : (before after dones : List Done) (id : ℕ) (d : Done) → done_of id before ≡ None → done_of id after ≡ Some d → done_of id dones ≡ Some d → held_text after (reply_to id (done_of id before)) ≡ text_of (done_of id dones)
late_reply before after dones id d unkept kept_so found =
    ap (λ o. held_text after (reply_to id o)) unkept ∙ ap text_of (kept_so ∙ sym found)

-- where nothing is new
pub replied_still : (h : History) → IsOrdered h → IsReplied (kept h) (kept h) (all_dones h) (kept h)
replied_still h ordered id d found = early_reply (kept h) (kept h) (all_dones h) id d found (kept_are_dones h ordered id d found)

module _ (procs : Procedures) (h : History) (e : Epoch) (ordered : IsOrdered h) (ordered_then : IsOrdered (followed_by h e)) (low : HasNoLaterDone h) (later : last_epoch h < e.number)
    (numbered : AllByRecursion (λ (d : Done). d.epoch ≡ e.number) e.dones) (some : KeepsSome h.keep) where
  abbrev g : History
  g = followed_by h e

  abbrev candidates : List Done
  candidates = kept h ++ e.dones

  candidates_low : AllByRecursion (λ (d : Done). d.epoch ≤ e.number) candidates
  candidates_low = all_append (λ (d : Done). d.epoch ≤ e.number) (kept h) e.dones
      (filter_keeps (λ (d : Done). d.epoch ≤ e.number) (is_held h.keep (all_dones h)) (all_dones h)
      (all_weaker (λ (d : Done). d.epoch ≤ last_epoch h) (λ (d : Done). d.epoch ≤ e.number) (λ d le. omega (arith, le, later)) (all_dones h) low))
      (all_weaker (λ (d : Done). d.epoch ≡ e.number) (λ (d : Done). d.epoch ≤ e.number) (λ d is. omega (arith, is)) e.dones numbered)

  new_held : filter (is_held h.keep candidates) e.dones ≡ e.dones
  new_held = filter_all_of (is_held h.keep candidates) e.dones
      (all_weaker (λ (d : Done). d.epoch ≡ e.number) (λ (d : Done). is_held h.keep candidates d ≡ true) (λ d is. held_last h.keep e.number candidates some candidates_low d is) e.dones numbered)

  kept_then : kept g ≡ filter (is_held h.keep candidates) (kept h) ++ e.dones
  kept_then = (follows procs h e).held ∙ filter-append (is_held h.keep candidates) (kept h) e.dones ∙ ap (λ l. filter (is_held h.keep candidates) (kept h) ++ l) new_held

  found_then : (id : ℕ) (d : Done) → done_of id e.dones ≡ Some d → done_of id (all_dones g) ≡ Some d
  found_then id d found =
      ap (done_of id) (dones_behind h e) ∙ found_behind id (all_dones h) e.dones d (subst (λ l. IsDistinct nat_eq (ids_of l)) (dones_behind h e) ordered_then.once) found

  stays : (id : ℕ) (d : Done) → done_of id (all_dones h) ≡ Some d → done_of id (all_dones g) ≡ Some d
  stays id d found = ap (done_of id) (dones_behind h e) ∙ done_of-append id (all_dones h) e.dones ∙ ap (λ o. option_or o (done_of id e.dones)) found

  reply_by : (id : ℕ) (d : Done) (o : Option Done) → done_of id (kept h) ≡ o → option_or o (done_of id e.dones) ≡ Some d → held_text (kept g) (reply_to id (done_of id (kept h))) ≡ text_of (done_of id (all_dones g))
  reply_by id d (Some x) was found = early_reply (kept h) (kept g) (all_dones g) id x was (stays id x (kept_are_dones h ordered id x was))
  reply_by id d None was found = late_reply (kept h) (kept g) (all_dones g) id d was
      (ap (done_of id) kept_then ∙ done_of-append id (filter (is_held h.keep candidates) (kept h)) e.dones
      ∙ ap (λ o. option_or o (done_of id e.dones)) (none_passing (is_held h.keep candidates) id (kept h) was) ∙ found) (found_then id d found)

  pub replied : IsReplied (kept h) (kept g) (all_dones g) candidates
  replied id d found = reply_by id d (done_of id (kept h)) refl (known_or_new id (kept h) e.dones d (done_of id (kept h)) refl found)

-- ---- the lines of a batch

-- a history whose base keeps what this one keeps
abbrev as_base : History → History
as_base h = record { base = record { epoch = last_epoch h; rows = h.base.rows; kept = kept h; floor = floor h }; epochs = []; keep = None }

known_so : (h : History) → known_in (as_base h) ≡ known_in h
known_so h =
    let all = keeps_all (as_base h) refl in
    let requests : map request_of (kept (as_base h)) ≡ map request_of (kept h) = ap (map request_of) (all.held ∙ append-nil (kept h)) in
    let low : floor (as_base h) ≡ floor h = all.forgotten in
    λ i. record { requests = requests i; floor = low i }

-- each line that is replied to has the Done of its id among what was kept and what is new
pub record IsReplyOf (procs : Procedures) (h g : History) (lines : List Line) (cs : List Class) : Type 0 where
  pub among : List Done
  pub replied : IsReplied (kept h) (kept g) (all_dones g) among
  pub have : HaveReplies procs among lines cs

have_of : (procs : Procedures) (h g : History) (lines : List Line) (cs : List Class) → AreClasses procs (known_in h) lines cs → GrowsBy (as_base h) (new_of cs) g → HaveReplies procs (all_dones g) lines cs
have_of procs h g lines cs are grows =
    let all = all_replies procs (as_base h) (lines ∷ []) (cs ∷ []) g (g, record { are = subst (λ k. AreClasses procs k lines cs) (sym (known_so h)) are; grows = grows }, (refl, refl)) in
    subst (λ l. HaveReplies procs (all_dones g) l cs) (append-nil lines) (subst (λ c. HaveReplies procs (all_dones g) (lines ++ []) c) (append-nil cs) all)

reply_of : (procs : Procedures) (h g : History) (lines : List Line) (cs : List Class) (requests : List Request) → new_of cs ≡ requests → AreClasses procs (known_in h) lines cs → GrowsBy h requests g
    → IsOrdered h → IsOrdered g → HasNoLaterDone h → KeepsSome h.keep → IsReplyOf procs h g lines cs
reply_of procs h g lines cs [] are_new are same ordered ordered_then low some = record {
  among = kept h;
  replied = subst (λ x. IsReplied (kept h) (kept x) (all_dones x) (kept h)) (sym same) (replied_still h ordered);
  have = subst (λ ds. HaveReplies procs ds lines cs) (append-nil (kept h)) (have_of procs h (as_base h) lines cs are (subst (λ rs. GrowsBy (as_base h) rs (as_base h)) (sym are_new) refl));
}
reply_of procs h g lines cs (r ∷ rs) are_new are grows ordered ordered_then low some =
    let e = grows.0 in
    let whole = have_of procs h (followed_by (as_base h) e) lines cs are (subst (λ xs. GrowsBy (as_base h) xs (followed_by (as_base h) e)) (sym are_new) (e, grows.1, grows.2, refl)) in
    record {
      among = kept h ++ e.dones;
      replied = subst (λ x. IsReplied (kept h) (kept x) (all_dones x) (kept h ++ e.dones)) (sym grows.3)
          (replied procs h e ordered (subst IsOrdered grows.3 ordered_then) low grows.1 grows.2.numbered some);
      have = subst (λ ds. HaveReplies procs ds lines cs) (dones_behind (as_base h) e ∙ ap (λ l. l ++ e.dones) (append-nil (kept h))) whole;
    }

text_of_class : (procs : Procedures) (before after dones among : List Done) (n : ℕ) (line : Line) (c : Class) → IsReplied before after dones among → MatchOption (replied_id c) ⊤ (HasReply procs among line)
    → held_text after (answer_of before n c) ≡ answer_by dones n c
text_of_class procs before after dones among n line (Refused e) each r = refl
text_of_class procs before after dones among n line (Same id) each r = each id r.done r.found
text_of_class procs before after dones among n line (New q) each r = each q.id r.done r.found

texts_of_classes : (procs : Procedures) (before after dones among : List Done) (n : ℕ) (lines : List Line) (cs : List Class) → IsReplied before after dones among → HaveReplies procs among lines cs
    → held_texts after (answers_from before n cs) ≡ answers_by dones n cs
texts_of_classes procs before after dones among n [] cs each have = ap (λ l. held_texts after (answers_from before n l)) have ∙ sym (ap (answers_by dones n) have)
texts_of_classes procs before after dones among n (line ∷ lines) [] each have = absurd have
texts_of_classes procs before after dones among n (line ∷ lines) (c ∷ cs) each have =
    ap (λ t. t ++ held_texts after (answers_from before (n + 1) cs)) (text_of_class procs before after dones among n line c each have.0)
    ∙ ap (λ t. answer_by dones n c ++ t) (texts_of_classes procs before after dones among (n + 1) lines cs each have.1)

-- the texts of a batch are the answers of its lines in the history that it made
pub texts_are_answers : (procs : Procedures) (h g : History) (lines : List Line) (cs : List Class) (n : ℕ) → AreClasses procs (known_in h) lines cs → GrowsBy h (new_of cs) g
    → IsOrdered h → IsOrdered g → HasNoLaterDone h → KeepsSome h.keep → held_texts (kept g) (answers_from (kept h) n cs) ≡ answers_by (all_dones g) n cs
texts_are_answers procs h g lines cs n are grows ordered ordered_then low some =
    let r = reply_of procs h g lines cs (new_of cs) refl are grows ordered ordered_then low some in
    texts_of_classes procs (kept h) (kept g) (all_dones g) r.among n lines cs r.replied r.have
