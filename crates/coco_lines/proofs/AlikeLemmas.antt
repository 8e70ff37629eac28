-- Of two histories that keep the same Dones, lines have the same answers: a line's Done is kept, or is one of the epochs that follow both.
use Rattle.std.proofs.Common.{◌≡◌, refl, sym, ap, subst, ◌∙◌, ℕ, ◌<◌, Bool, true, false, cond, nat_eq, List, [], ◌∷◌, ◌++◌, map, Option, None, Some, append_assoc, append-nil, arith, ◌+◌}
use Rattle.std.specs.Prelude.{⊤, MatchOption}
use Rattle.std.specs.List.{AllByRecursion, IsDistinct}
use Rattle.std.specs.Option.{option_or}
use Rattle.std.proofs.lemmas.Bool.Decides.{nat_tests}
use Rattle.std.proofs.lemmas.List.{append_cancel_left}
use Rattle.coco_types.specs.declared.call.Done.{Done}
use Rattle.coco_types.specs.declared.call.Request.{Request}
use Rattle.coco_ast.specs.Growth.{GrowsBy}
use Rattle.coco_ast.specs.History.{AnswerAlike, Epoch, History, IsOrdered, RisesAbove, StayAlike, all_dones, done_of, dones_in, epoch_dones, floor, followed_by_all, ids_of, kept, last_number, request_of}
use Rattle.coco_ast.specs.Tree.{Procedures}
use Rattle.coco_ast.proofs.GrowthLemmas.{done_of-append}
use Rattle.coco_ast.proofs.Growths.{kept_are_dones}
use Rattle.coco_lines.specs.Alike.{AreSameToLines, NoLineTells}
use Rattle.coco_lines.specs.Answers.{answer_by, answers_by, replied_id, text_of}
use Rattle.coco_lines.specs.Batches.{Batch}
use Rattle.coco_lines.specs.Classes.{Known, AreClasses, known_in, new_of}
use Rattle.coco_lines.specs.Growing.{GrowsByBatch}
use Rattle.coco_lines.specs.Lines.{Line}
use Rattle.coco_lines.specs.Replies.{HasReply, HaveReplies}
use Rattle.coco_lines.specs.declared.class.Class.{Class}
use Rattle.coco_lines.specs.declared.class.Class.TheVariants.{Refused, Same, New}
use Rattle.coco_lines.proofs.ReplyLemmas.{adds, found_still, has, has_later, has_more, replies_of}

-- ---- what is found in one list is found in another

abbrev Finds : List Done → List Done → Type 0
Finds xs ys = (id : ℕ) (d : Done) → done_of id xs ≡ Some d → done_of id ys ≡ Some d

apart_by : (id x : ℕ) (e d : Done) (ds : List Done) (b : Bool) → nat_eq id e.id ≡ b → nat_eq x e.id ≡ false → (done_of id ds ≡ Some d → nat_eq id x ≡ false)
    → cond b (Some e) (done_of id ds) ≡ Some d → nat_eq id x ≡ false
apart_by id x e d ds true is apart rest found = grind (arith, nat_tests)
apart_by id x e d ds false is apart rest found = rest found

-- the id of a Done that is found isn't one that all of theirs differ from
found_apart : (id x : ℕ) (d : Done) (ds : List Done) → AllByRecursion (λ y. nat_eq x y ≡ false) (ids_of ds) → done_of id ds ≡ Some d → nat_eq id x ≡ false
found_apart id x d [] apart found = let e : ◌≡◌ {A = Option Done} None (Some d) = found in absurd (cc)
found_apart id x d (e ∷ ds) apart found = apart_by id x e d ds (nat_eq id e.id) refl apart.0 (found_apart id x d ds apart.1) found

-- behind others, where each id stands once
found_behind : (id : ℕ) (d : Done) (xs ys : List Done) → IsDistinct nat_eq (ids_of (xs ++ ys)) → done_of id ys ≡ Some d → done_of id (xs ++ ys) ≡ Some d
unfolding IsDistinct
found_behind id d [] ys once found = found
found_behind id d (x ∷ xs) ys once found =
    let rest = found_behind id d xs ys once.1 found in
    ap (λ b. cond b (Some x) (done_of id (xs ++ ys))) (found_apart id x.id d (xs ++ ys) once.0 rest) ∙ rest

found_either : (id : ℕ) (d : Done) (o : Option Done) (xs ys : List Done) → IsDistinct nat_eq (ids_of (xs ++ ys)) → (o ≡ Some d → done_of id xs ≡ Some d) → option_or o (done_of id ys) ≡ Some d
    → done_of id (xs ++ ys) ≡ Some d
found_either id d None xs ys once first found = found_behind id d xs ys once found
found_either id d (Some e) xs ys once first found = found_still id xs ys d (first found)

found_among : (ks xs ys : List Done) → IsDistinct nat_eq (ids_of (xs ++ ys)) → Finds ks xs → Finds (ks ++ ys) (xs ++ ys)
found_among ks xs ys once first id d found = found_either id d (done_of id ks) xs ys once (first id d) (sym (done_of-append id ks ys) ∙ found)

-- ---- answers

answer_found : (procs : Procedures) (xs ys : List Done) → Finds xs ys → (n : ℕ) (line : Line) (c : Class) → MatchOption (replied_id c) ⊤ (HasReply procs xs line) → answer_by ys n c ≡ answer_by xs n c
answer_found procs xs ys finds n line (Refused e) r = refl
answer_found procs xs ys finds n line (Same id) r = ap text_of (finds id r.done r.found ∙ sym r.found)
answer_found procs xs ys finds n line (New q) r = ap text_of (finds q.id r.done r.found ∙ sym r.found)

answers_found : (procs : Procedures) (xs ys : List Done) → Finds xs ys → (n : ℕ) (lines : List Line) (cs : List Class) → HaveReplies procs xs lines cs → answers_by ys n cs ≡ answers_by xs n cs
answers_found procs xs ys finds n [] cs r = ap (answers_by ys n) r ∙ sym (ap (answers_by xs n) r)
answers_found procs xs ys finds n (line ∷ lines) [] r = absurd r
answers_found procs xs ys finds n (line ∷ lines) (c ∷ cs) r =
    ap (λ t. t ++ answers_by ys (n + 1) cs) (answer_found procs xs ys finds n line c r.0) ∙ ap (λ t. answer_by xs n c ++ t) (answers_found procs xs ys finds (n + 1) lines cs r.1)

-- ---- epochs behind

dones_in-both : (es fs : List Epoch) → dones_in (es ++ fs) ≡ dones_in es ++ dones_in fs
dones_in-both [] fs = refl
dones_in-both (e ∷ es) fs = ap (λ l. e.dones ++ l) (dones_in-both es fs) ∙ sym (append_assoc e.dones (dones_in es) (dones_in fs))

all_behind : (h : History) (es : List Epoch) → all_dones (followed_by_all h es) ≡ all_dones h ++ dones_in es
all_behind h es = ap (λ l. h.base.kept ++ l) (dones_in-both h.epochs es) ∙ sym (append_assoc h.base.kept (epoch_dones h) (dones_in es))

rises_last : (m : ℕ) (xs : List Epoch) (e : Epoch) → RisesAbove m (map (λ x. x.number) (xs ++ e ∷ [])) → last_number m xs < e.number
rises_last m [] e rises = rises.0
rises_last m (x ∷ xs) e rises = rises_last x.number xs e rises.1

epochs_are : (g : History) (es fs : List Epoch) → followed_by_all g es ≡ followed_by_all g fs → es ≡ fs
epochs_are g es fs same = append_cancel_left g.epochs es fs (ap (λ (h : History). h.epochs) same)

-- the same epochs are those that another history grows by
grows_too : (g h : History) (rs : List Request) (es : List Epoch) → IsOrdered (followed_by_all h es) → GrowsBy g rs (followed_by_all g es) → GrowsBy h rs (followed_by_all h es)
grows_too g h [] es ordered grows =
    let none : es ≡ [] = append_cancel_left g.epochs es [] (ap (λ (x : History). x.epochs) grows ∙ sym (append-nil g.epochs)) in
    ap (followed_by_all h) none ∙ ap (λ l. record h { epochs = l }) (append-nil h.epochs)
grows_too g h (r ∷ rs) es ordered grows =
    let e = grows.0 in
    let one : es ≡ e ∷ [] = epochs_are g es (e ∷ []) grows.3 in
    let rises : RisesAbove h.base.epoch (map (λ (x : Epoch). x.number) (h.epochs ++ e ∷ [])) =
    subst (λ l. RisesAbove h.base.epoch (map (λ (x : Epoch). x.number) (h.epochs ++ l))) one ordered.epochs_rise in
    (e, rises_last h.base.epoch h.epochs e rises, grows.2, ap (followed_by_all h) one)

-- ---- histories

known_same : (g h : History) → kept g ≡ kept h → floor g ≡ floor h → known_in g ≡ known_in h
known_same g h ks fs =
    let known : List Done → Option ℕ → Known = λ l f. record { requests = map request_of l; floor = f } in
    ap (λ l. known l (floor g)) ks ∙ ap (known (kept h)) fs

-- a line's Done is kept before its batch, or comes with it
replies_among : (procs : Procedures) (g : History) (batch : Batch) (cs : List Class) (es : List Epoch) → GrowsByBatch procs g batch cs (followed_by_all g es) → HaveReplies procs (kept g ++ dones_in es) batch cs
replies_among procs g batch cs es grows =
    let a = adds g (new_of cs) (followed_by_all g es) grows.grows in
    let more : a.more ≡ dones_in es = append_cancel_left (all_dones g) a.more (dones_in es) (sym a.dones ∙ all_behind g es) in
    replies_of procs (known_in g) batch cs (kept g ++ dones_in es) grows.are (λ id e. has_more id (kept g) (dones_in es) e)
    (λ id e. has_later id (kept g) (dones_in es) (subst (λ l. has id (map request_of l) ≡ true) more (a.have id e)))

-- so its answer follows from these
answers_by_kept : (procs : Procedures) (g : History) → IsOrdered g → (batch : Batch) (cs : List Class) (es : List Epoch) → IsOrdered (followed_by_all g es)
    → GrowsByBatch procs g batch cs (followed_by_all g es) → (n : ℕ) → answers_by (all_dones (followed_by_all g es)) n cs ≡ answers_by (kept g ++ dones_in es) n cs
answers_by_kept procs g ordered batch cs es ordered_then grows n =
    let once = subst (λ l. IsDistinct nat_eq (ids_of l)) (all_behind g es) ordered_then.once in
    ap (λ l. answers_by l n cs) (all_behind g es)
    ∙ answers_found procs (kept g ++ dones_in es) (all_dones g ++ dones_in es) (found_among (kept g) (all_dones g) (dones_in es) once (kept_are_dones g ordered)) n batch cs (replies_among procs g batch cs es grows)

grows_also : (procs : Procedures) (g h : History) → known_in g ≡ known_in h → (batch : Batch) (cs : List Class) (es : List Epoch) → IsOrdered (followed_by_all h es)
    → GrowsByBatch procs g batch cs (followed_by_all g es) → GrowsByBatch procs h batch cs (followed_by_all h es)
grows_also procs g h known batch cs es ordered grows = record { are = subst (λ k. AreClasses procs k batch cs) known grows.are; grows = grows_too g h (new_of cs) es ordered grows.grows }

same_to_lines : (procs : Procedures) (g h : History) → IsOrdered g → IsOrdered h → AnswerAlike procs g h → AreSameToLines procs g h
same_to_lines procs g h one other alike =
    let known = known_same g h alike.kept alike.floor in
    record {
      classes = λ lines cs. (subst (λ k. AreClasses procs k lines cs) known, subst (λ k. AreClasses procs k lines cs) (sym known));
      grow = λ batch cs es first second. (grows_also procs g h known batch cs es second, grows_also procs h g (sym known) batch cs es first);
      answers = λ batch cs es n first second grows.
          answers_by_kept procs g one batch cs es first grows n ∙ ap (λ l. answers_by (l ++ dones_in es) n cs) alike.kept
          ∙ sym (answers_by_kept procs h other batch cs es second (grows_also procs g h known batch cs es second grows) n);
    }

pub alike_lines : (procs : Procedures) (g h : History) → StayAlike procs g h → NoLineTells procs g h
alike_lines procs g h stay es first second = same_to_lines procs (followed_by_all g es) (followed_by_all h es) first second (stay es first second)
