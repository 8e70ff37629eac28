-- The Dones that answers come from stand in the history, and stay.
use Rattle.std.proofs.Common.{◌≡◌, refl, sym, ap, subst, ◌∙◌, ℕ, ◌+◌, Bool, true, false, ◌||◌, ◌&&◌, cond, nat_eq, nat_le, List, [], ◌∷◌, ◌++◌, map, filter, Option, None, Some, append_assoc, append-nil, arith, inl, inr, ◌⊎◌}
use Rattle.std.specs.Prelude.{⊤, MatchOption, if◌then◌else◌}
use Rattle.std.specs.Cmp.{nat_eq_equiv}
use Rattle.std.specs.List.{AllByRecursion, IsDistinct, list_any}
use Rattle.std.specs.Option.{option_or}
use Rattle.std.proofs.lemmas.Bool.Decides.{nat_tests}
use Rattle.std.proofs.lemmas.List.{map-append}
use Rattle.std.proofs.lemmas.List.Folds.{list_any-append}
use Rattle.std.proofs.lemmas.List.Sorted.{list_any-IsPermutation}
use Rattle.coco_types.specs.declared.call.Done.{Done}
use Rattle.coco_types.specs.declared.call.Request.{Request}
use Rattle.coco_types.specs.contracts.call.CallPartialEq.TheImpl as call
use Rattle.coco_ast.specs.Growth.{GrowsBy, AreNew}
use Rattle.coco_ast.specs.History.{History, AreAbove, IsOrdered, all_dones, done_of, floor, is_held, is_up_to, kept, request_of}
use Rattle.coco_ast.specs.Tree.{Procedures}
use Rattle.coco_ast.proofs.GrowthLemmas.{dones_behind, done_of-append, growth_keeps}
use Rattle.coco_lines.specs.Answers.{answer_by, answers_by, replied_id, text_of}
use Rattle.coco_lines.specs.Batches.{Batch, joined}
use Rattle.coco_lines.specs.Classes.{Known, and_known, is_known, is_same, is_full, known_in, refusing, request_tests, class_tests, IsClass, new_in, new_of, AreClasses}
use Rattle.coco_lines.specs.Growing.{GrowsByBatch, GrowsByBatches}
use Rattle.coco_lines.specs.Lines.{Line}
use Rattle.coco_lines.specs.Reading.{json_of, first_that_fits, reading_tests, request_in, request_on}
use Rattle.coco_lines.specs.Replies.{HasReply, HaveReplies}
use Rattle.coco_lines.specs.declared.class.Class.{Class}
use Rattle.coco_lines.specs.declared.class.Class.TheVariants.{Refused, Same, New}
use Rattle.coco_lines.specs.declared.error.LineError.{LineError}
use Rattle.coco_lines.specs.declared.error.LineError.TheVariants as error
use Rattle.std.proofs.lemmas.Bool.{or_right, or_parts}

-- ---- what a class says of a request

-- no refusal
abbrev Replies : Class → Type 0
Replies (Refused e) = ⊥
Replies (Same id) = ⊤
Replies (New r) = ⊤

not_refused : (b : Bool) (e : LineError) (o : Option Class) (c : Class) → Replies c → (if b then Some (Refused e) else o) ≡ Some c → (b ≡ false) × (o ≡ Some c)
not_refused true e o (Refused f) some h = absurd some
not_refused true e o (Same id) some h = let d : ◌≡◌ {A = Option Class} (Some (Refused e)) (Some (Same id)) = h in cc
not_refused true e o (New r) some h = let d : ◌≡◌ {A = Option Class} (Some (Refused e)) (Some (New r)) = h in cc
not_refused false e o c some h = (refl, h)

past_refusals : (xs : List (Bool × LineError)) (ys : List (Bool × Class)) (c : Class) → Replies c → first_that_fits (map refusing xs ++ ys) ≡ Some c → first_that_fits ys ≡ Some c
past_refusals [] ys c some h = h
past_refusals (x ∷ xs) ys c some h = past_refusals xs ys c some (not_refused x.0 x.1 (first_that_fits (map refusing xs ++ ys)) c some h).1

-- a line that isn't refused was read
was_read : (procs : Procedures) (k : Known) (line : Line) (c : Class) → Replies c → IsClass procs k line c → first_that_fits (request_tests k (request_in procs (json_of line))) ≡ Some c
unfolding class_tests
was_read procs k line c some h = past_refusals (reading_tests procs (json_of line)) (request_tests k (request_in procs (json_of line))) c some (not_refused _ error.Long _ c some h).1

-- what a new request is to those that are known
pub record IsNewTo (k : Known) (r : Request) : Type 0 where
  pub unknown : is_known k r ≡ false
  pub above : is_up_to k.floor r.id ≡ false

new_by : (k : Known) (q r : Request) (a b c d : Bool) → is_known k q ≡ b → is_up_to k.floor q.id ≡ c
    → first_that_fits ((a, Same q.id) ∷ (b, Refused error.Reused) ∷ (c, Refused error.Old) ∷ (d, Refused error.Full) ∷ (true, New q) ∷ []) ≡ Some (New r) → (q ≡ r) × IsNewTo k q
new_by k q r true b c d known old h = let e : ◌≡◌ {A = Option Class} (Some (Same q.id)) (Some (New r)) = h in cc
new_by k q r false true c d known old h = let e : ◌≡◌ {A = Option Class} (Some (Refused error.Reused)) (Some (New r)) = h in cc
new_by k q r false false true d known old h = let e : ◌≡◌ {A = Option Class} (Some (Refused error.Old)) (Some (New r)) = h in cc
new_by k q r false false false true known old h = let e : ◌≡◌ {A = Option Class} (Some (Refused error.Full)) (Some (New r)) = h in cc
new_by k q r false false false false known old h = let e : ◌≡◌ {A = Option Class} (Some (New q)) (Some (New r)) = h in (cc, record { unknown = known; above = old })

same_by : (k : Known) (q : Request) (id : ℕ) (a b c d : Bool) → is_same k q ≡ a
    → first_that_fits ((a, Same q.id) ∷ (b, Refused error.Reused) ∷ (c, Refused error.Old) ∷ (d, Refused error.Full) ∷ (true, New q) ∷ []) ≡ Some (Same id) → (q.id ≡ id) × (is_same k q ≡ true)
same_by k q id true b c d same h = let e : ◌≡◌ {A = Option Class} (Some (Same q.id)) (Some (Same id)) = h in (cc, same)
same_by k q id false true c d same h = let e : ◌≡◌ {A = Option Class} (Some (Refused error.Reused)) (Some (Same id)) = h in cc
same_by k q id false false true d same h = let e : ◌≡◌ {A = Option Class} (Some (Refused error.Old)) (Some (Same id)) = h in cc
same_by k q id false false false true same h = let e : ◌≡◌ {A = Option Class} (Some (Refused error.Full)) (Some (Same id)) = h in cc
same_by k q id false false false false same h = let e : ◌≡◌ {A = Option Class} (Some (New q)) (Some (Same id)) = h in cc

new_read : (k : Known) (o : Option Request) (r : Request) → first_that_fits (request_tests k o) ≡ Some (New r) → (o ≡ Some r) × IsNewTo k r
new_read k None r h = let e : ◌≡◌ {A = Option Class} None (Some (New r)) = h in absurd (cc)
new_read k (Some q) r h =
    let is = new_by k q r (is_same k q) (is_known k q) (is_up_to k.floor q.id) (is_full k) refl refl h in
    (ap Some is.0, subst (IsNewTo k) is.0 is.1)

same_read : (k : Known) (o : Option Request) (id : ℕ) → first_that_fits (request_tests k o) ≡ Some (Same id) → (r : Request) × (o ≡ Some r) × (r.id ≡ id) × (is_same k r ≡ true)
same_read k None id h = let e : ◌≡◌ {A = Option Class} None (Some (Same id)) = h in absurd (cc)
same_read k (Some q) id h = let is = same_by k q id (is_same k q) (is_known k q) (is_up_to k.floor q.id) (is_full k) refl h in (q, refl, is.0, is.1)

read_is : (procs : Procedures) (line : Line) (r : Request) → request_in procs (json_of line) ≡ Some r → request_on procs line ≡ Some r
unfolding request_on
read_is procs line r h = h

-- ---- ids among requests

abbrev pub has : ℕ → List Request → Bool
has id rs = list_any (λ (q : Request). nat_eq id q.id) rs

has_left : (id : ℕ) (xs ys : List Request) → has id xs ≡ true → has id (xs ++ ys) ≡ true
has_left id xs ys h = list_any-append (λ (q : Request). nat_eq id q.id) xs ys ∙ ap (λ b. b || has id ys) h

or_true : (b : Bool) → (b || true) ≡ true
or_true true = refl
or_true false = refl

or_more : (a b c : Bool) → (b ≡ true → c ≡ true) → (a || b) ≡ true → (a || c) ≡ true
or_more true b c f e = refl
or_more false b c f e = f e

or_both : (a b c d : Bool) → (a ≡ true → c ≡ true) → (b ≡ true → d ≡ true) → (a || b) ≡ true → (c || d) ≡ true
or_both true b c d p q e = ap (λ x. x || d) (p refl)
or_both false b c d p q e = or_right c d (q e)

or_either : (b c : Bool) → (b || c) ≡ true → (b ≡ true) ⊎ (c ≡ true)
or_either true c e = inl refl
or_either false c e = inr e

and_first : (a b : Bool) → (a && b) ≡ true → a ≡ true
and_first true b e = refl
and_first false b e = e

any_weaker : (p q : Request → Bool) → ((x : Request) → p x ≡ true → q x ≡ true) → (xs : List Request) → list_any p xs ≡ true → list_any q xs ≡ true
any_weaker p q f [] e = e
any_weaker p q f (x ∷ xs) e = or_both (p x) (list_any p xs) (q x) (list_any q xs) (f x) (any_weaker p q f xs) e

has_right : (id : ℕ) (xs ys : List Request) → has id ys ≡ true → has id (xs ++ ys) ≡ true
has_right id xs ys h = list_any-append (λ (q : Request). nat_eq id q.id) xs ys ∙ or_right (has id xs) (has id ys) h

has_either : (id : ℕ) (xs ys : List Request) → has id (xs ++ ys) ≡ true → (has id xs ≡ true) ⊎ (has id ys ≡ true)
has_either id xs ys h = or_either (has id xs) (has id ys) (sym (list_any-append (λ (q : Request). nat_eq id q.id) xs ys) ∙ h)

same_has : (k : Known) (r : Request) → is_same k r ≡ true → has r.id k.requests ≡ true
same_has k r h =
    any_weaker (λ (q : Request). nat_eq r.id q.id && call.ghosts.eq q.call r.call) (λ (q : Request). nat_eq r.id q.id)
    (λ q e. and_first (nat_eq r.id q.id) (call.ghosts.eq q.call r.call) e) k.requests h

-- ---- ids among Dones

found_by : (id : ℕ) (d : Done) (ds : List Done) (b : Bool) → (has id (map request_of ds) ≡ true → (x : Done) × (done_of id ds ≡ Some x)) → (b || has id (map request_of ds)) ≡ true
    → (x : Done) × (cond b (Some d) (done_of id ds) ≡ Some x)
found_by id d ds true rest e = (d, refl)
found_by id d ds false rest e = rest e

done_by : (id : ℕ) (ds : List Done) → has id (map request_of ds) ≡ true → (d : Done) × (done_of id ds ≡ Some d)
done_by id [] h = let e : false ≡ true = h in absurd (cc)
done_by id (d ∷ ds) h = found_by id d ds (nat_eq id d.id) (done_by id ds) h

none_by : (id : ℕ) (ds : List Done) → has id (map request_of ds) ≡ false → done_of id ds ≡ None
none_by id [] h = refl
none_by id (d ∷ ds) h =
    let parts = or_parts (nat_eq id d.id) (has id (map request_of ds)) h in
    ap (λ b. cond b (Some d) (done_of id ds)) parts.0 ∙ none_by id ds parts.1

passed : (id : ℕ) (d : Done) (ds fs : List Done) (b : Bool) → (has id (map request_of fs) ≡ true → has id (map request_of ds) ≡ true)
    → has id (map request_of (cond b (d ∷ fs) fs)) ≡ true → has id (map request_of (d ∷ ds)) ≡ true
passed id d ds fs true rest e = or_more (nat_eq id d.id) (has id (map request_of fs)) (has id (map request_of ds)) rest e
passed id d ds fs false rest e = or_right (nat_eq id d.id) (has id (map request_of ds)) (rest e)

has_filter : (id : ℕ) (p : Done → Bool) (ds : List Done) → has id (map request_of (filter p ds)) ≡ true → has id (map request_of ds) ≡ true
has_filter id p [] h = h
has_filter id p (d ∷ ds) h = passed id d ds (filter p ds) (p d) (has_filter id p ds) h

pub has_more : (id : ℕ) (xs ys : List Done) → has id (map request_of xs) ≡ true → has id (map request_of (xs ++ ys)) ≡ true
has_more id xs ys h = ap (has id) (map-append request_of xs ys) ∙ has_left id (map request_of xs) (map request_of ys) h

pub has_later : (id : ℕ) (xs ys : List Done) → has id (map request_of ys) ≡ true → has id (map request_of (xs ++ ys)) ≡ true
has_later id xs ys h = ap (has id) (map-append request_of xs ys) ∙ has_right id (map request_of xs) (map request_of ys) h

-- ---- a batch

-- what a history has beside the one that it grew from
pub record Adds (h : History) (rs : List Request) (g : History) : Type 0 where
  pub more : List Done
  pub dones : all_dones g ≡ all_dones h ++ more
  pub have : (id : ℕ) → has id rs ≡ true → has id (map request_of more) ≡ true

pub adds : (h : History) (rs : List Request) (g : History) → GrowsBy h rs g → Adds h rs g
adds h [] g same = record { more = []; dones = ap all_dones same ∙ sym (append-nil (all_dones h)); have = λ id e. e }
adds h (r ∷ rs) g grows = record {
  more = grows.0.dones;
  dones = ap all_dones grows.3 ∙ dones_behind h grows.0;
  have = λ id e. sym (list_any-IsPermutation (λ (q : Request). nat_eq id q.id) (r ∷ rs) (map request_of grows.0.dones) grows.2.each) ∙ e;
}

reply_of : (procs : Procedures) (k : Known) (line : Line) (c : Class) (ds : List Done) → IsClass procs k line c → ((id : ℕ) → has id k.requests ≡ true → has id (map request_of ds) ≡ true)
    → ((id : ℕ) → has id (new_in c) ≡ true → has id (map request_of ds) ≡ true) → MatchOption (replied_id c) ⊤ (HasReply procs ds line)
reply_of procs k line (Refused e) ds is known new = tt
reply_of procs k line (Same id) ds is known new =
    let s = same_read k (request_in procs (json_of line)) id (was_read procs k line (Same id) tt is) in
    let d = done_by id ds (subst (λ n. has n (map request_of ds) ≡ true) s.2 (known s.0.id (same_has k s.0 s.3))) in
    record { request = s.0; reads = read_is procs line s.0 s.1; id_is = s.2; done = d.0; found = d.1 }
reply_of procs k line (New r) ds is known new =
    let n = new_read k (request_in procs (json_of line)) r (was_read procs k line (New r) tt is) in
    let d = done_by r.id ds (new r.id (ap (λ b. b || false) (nat_eq_equiv.refl r.id))) in
    record { request = r; reads = read_is procs line r n.0; id_is = refl; done = d.0; found = d.1 }

pub replies_of : (procs : Procedures) (k : Known) (lines : List Line) (cs : List Class) (ds : List Done) → AreClasses procs k lines cs → ((id : ℕ) → has id k.requests ≡ true → has id (map request_of ds) ≡ true)
    → ((id : ℕ) → has id (new_of cs) ≡ true → has id (map request_of ds) ≡ true) → HaveReplies procs ds lines cs
replies_of procs k [] cs ds are known new = are
replies_of procs k (line ∷ lines) [] ds are known new = absurd are
replies_of procs k (line ∷ lines) (c ∷ cs) ds are known new = (
  reply_of procs k line c ds are.0 known (λ id h. new id (has_left id (new_in c) (new_of cs) h)),
  replies_of procs (and_known k (new_in c)) lines cs ds are.1
      (λ id h. elim (has_either id k.requests (new_in c) h) [ inl old ↦ known id old | inr now ↦ new id (has_left id (new_in c) (new_of cs) now) ])
      (λ id h. new id (has_right id (new_in c) (new_of cs) h)),
)

batch_replies : (procs : Procedures) (h : History) (b : Batch) (cs : List Class) (g : History) → GrowsByBatch procs h b cs g → HaveReplies procs (all_dones g) b cs
batch_replies procs h b cs g grows =
    let a = adds h (new_of cs) g grows.grows in
    subst (λ ds. HaveReplies procs ds b cs) (sym a.dones)
    (replies_of procs (known_in h) b cs (all_dones h ++ a.more) grows.are
    (λ id e. has_more id (all_dones h) a.more (has_filter id (is_held h.keep (all_dones h)) (all_dones h) e)) (λ id e. has_later id (all_dones h) a.more (a.have id e)))

-- ---- Dones stay

pub found_still : (id : ℕ) (xs ys : List Done) (d : Done) → done_of id xs ≡ Some d → done_of id (xs ++ ys) ≡ Some d
found_still id xs ys d found = done_of-append id xs ys ∙ ap (λ o. option_or o (done_of id ys)) found

reply_stays : (procs : Procedures) (xs ys : List Done) (line : Line) (c : Class) → MatchOption (replied_id c) ⊤ (HasReply procs xs line) → MatchOption (replied_id c) ⊤ (HasReply procs (xs ++ ys) line)
reply_stays procs xs ys line (Refused e) r = tt
reply_stays procs xs ys line (Same id) r = record { request = r.request; reads = r.reads; id_is = r.id_is; done = r.done; found = found_still id xs ys r.done r.found }
reply_stays procs xs ys line (New q) r = record { request = r.request; reads = r.reads; id_is = r.id_is; done = r.done; found = found_still q.id xs ys r.done r.found }

replies_stay : (procs : Procedures) (xs ys : List Done) (lines : List Line) (cs : List Class) → HaveReplies procs xs lines cs → HaveReplies procs (xs ++ ys) lines cs
replies_stay procs xs ys [] cs r = r
replies_stay procs xs ys (line ∷ lines) [] r = absurd r
replies_stay procs xs ys (line ∷ lines) (c ∷ cs) r = (reply_stays procs xs ys line c r.0, replies_stay procs xs ys lines cs r.1)

answer_stays : (procs : Procedures) (xs ys : List Done) (n : ℕ) (line : Line) (c : Class) → MatchOption (replied_id c) ⊤ (HasReply procs xs line) → answer_by (xs ++ ys) n c ≡ answer_by xs n c
answer_stays procs xs ys n line (Refused e) r = refl
answer_stays procs xs ys n line (Same id) r = ap text_of (found_still id xs ys r.done r.found ∙ sym r.found)
answer_stays procs xs ys n line (New q) r = ap text_of (found_still q.id xs ys r.done r.found ∙ sym r.found)

answers_same : (procs : Procedures) (xs ys : List Done) (n : ℕ) (lines : List Line) (cs : List Class) → HaveReplies procs xs lines cs → answers_by (xs ++ ys) n cs ≡ answers_by xs n cs
answers_same procs xs ys n [] cs r = ap (answers_by (xs ++ ys) n) r ∙ sym (ap (answers_by xs n) r)
answers_same procs xs ys n (line ∷ lines) [] r = absurd r
answers_same procs xs ys n (line ∷ lines) (c ∷ cs) r =
    ap (λ t. t ++ answers_by (xs ++ ys) (n + 1) cs) (answer_stays procs xs ys n line c r.0) ∙ ap (λ t. answer_by xs n c ++ t) (answers_same procs xs ys (n + 1) lines cs r.1)

replies_append : (procs : Procedures) (ds : List Done) (xs ys : List Line) (cs fs : List Class) → HaveReplies procs ds xs cs → HaveReplies procs ds ys fs → HaveReplies procs ds (xs ++ ys) (cs ++ fs)
replies_append procs ds [] ys cs fs r s = subst (λ l. HaveReplies procs ds ys (l ++ fs)) (sym r) s
replies_append procs ds (x ∷ xs) ys [] fs r s = absurd r
replies_append procs ds (x ∷ xs) ys (c ∷ cs) fs r s = (r.0, replies_append procs ds xs ys cs fs r.1 s)

-- ---- batch after batch

pub all_added : (procs : Procedures) (h : History) (bs : List Batch) (cs : List (List Class)) (g : History) → GrowsByBatches procs h bs cs g → (more : List Done) × (all_dones g ≡ all_dones h ++ more)
all_added procs h [] cs g grows = ([], ap all_dones grows.1 ∙ sym (append-nil (all_dones h)))
all_added procs h (b ∷ bs) [] g grows = absurd grows
all_added procs h (b ∷ bs) (c ∷ cs) g grows =
    let a = adds h (new_of c) grows.0 grows.1.grows in
    let rest = all_added procs grows.0 bs cs g grows.2 in
    (a.more ++ rest.0, rest.1 ∙ ap (λ l. l ++ rest.0) a.dones ∙ append_assoc (all_dones h) a.more rest.0)

pub all_replies : (procs : Procedures) (h : History) (bs : List Batch) (cs : List (List Class)) (g : History) → GrowsByBatches procs h bs cs g → HaveReplies procs (all_dones g) (joined bs) (joined cs)
all_replies procs h [] cs g grows = ap joined grows.0
all_replies procs h (b ∷ bs) [] g grows = absurd grows
all_replies procs h (b ∷ bs) (c ∷ cs) g grows =
    let rest = all_added procs grows.0 bs cs g grows.2 in
    replies_append procs (all_dones g) b (joined bs) c (joined cs)
    (subst (λ ds. HaveReplies procs ds b c) (sym rest.1) (replies_stay procs (all_dones grows.0) rest.0 b c (batch_replies procs h b c grows.0 grows.1))) (all_replies procs grows.0 bs cs g grows.2)

pub answers_still : (procs : Procedures) (h : History) (bs more : List Batch) (cs ds : List (List Class)) (g k : History) (n : ℕ) → GrowsByBatches procs h bs cs g → GrowsByBatches procs g more ds k
    → answers_by (all_dones k) n (joined cs) ≡ answers_by (all_dones g) n (joined cs)
answers_still procs h bs more cs ds g k n grows further =
    let rest = all_added procs g more ds k further in
    ap (λ l. answers_by l n (joined cs)) rest.1 ∙ answers_same procs (all_dones g) rest.0 n (joined bs) (joined cs) (all_replies procs h bs cs g grows)

-- ---- new requests

still_unknown : (k : Known) (rs : List Request) (q : Request) → is_known (and_known k rs) q ≡ false → (is_known k q ≡ false) × (has q.id rs ≡ false)
still_unknown k rs q h = or_parts (is_known k q) (has q.id rs) (sym (list_any-append (λ (p : Request). nat_eq q.id p.id) k.requests rs) ∙ h)

all_earlier : (k : Known) (rs qs : List Request) → AllByRecursion (IsNewTo (and_known k rs)) qs → AllByRecursion (IsNewTo k) qs
all_earlier k rs [] all = tt
all_earlier k rs (q ∷ qs) all = (record { unknown = (still_unknown k rs q all.0.unknown).0; above = all.0.above }, all_earlier k rs qs all.1)

all_apart : (k : Known) (r : Request) (qs : List Request) → AllByRecursion (IsNewTo (and_known k (r ∷ []))) qs → AllByRecursion (λ id. nat_eq r.id id ≡ false) (map (λ q. q.id) qs)
all_apart k r [] all = tt
all_apart k r (q ∷ qs) all =
    (nat_eq_equiv.symm r.id q.id ∙ (or_parts (nat_eq q.id r.id) false (still_unknown k (r ∷ []) q all.0.unknown).1).0, all_apart k r qs all.1)

abbrev AreFresh : Known → List Request → Type 0
AreFresh k rs = AllByRecursion (IsNewTo k) rs × IsDistinct nat_eq (map (λ r. r.id) rs)

fresh_cons : (k : Known) (r : Request) (rs : List Request) → IsNewTo k r → AreFresh (and_known k (r ∷ [])) rs → AreFresh k (r ∷ rs)
unfolding IsDistinct
fresh_cons k r rs first rest = ((first, all_earlier k (r ∷ []) rs rest.0), (all_apart k r rs rest.0, rest.1))

fresh_of : (procs : Procedures) (k : Known) (lines : List Line) (cs : List Class) → AreClasses procs k lines cs → AreFresh k (new_of cs)
unfolding IsDistinct
fresh_of procs k [] cs are = subst (λ l. AreFresh k (new_of l)) (sym are) (tt, tt)
fresh_of procs k (line ∷ lines) [] are = absurd are
fresh_of procs k (line ∷ lines) (Refused e ∷ cs) are = let rest = fresh_of procs (and_known k []) lines cs are.1 in (all_earlier k [] (new_of cs) rest.0, rest.1)
fresh_of procs k (line ∷ lines) (Same id ∷ cs) are = let rest = fresh_of procs (and_known k []) lines cs are.1 in (all_earlier k [] (new_of cs) rest.0, rest.1)
fresh_of procs k (line ∷ lines) (New r ∷ cs) are =
    fresh_cons k r (new_of cs) (new_read k (request_in procs (json_of line)) r (was_read procs k line (New r) tt are.0)).1 (fresh_of procs (and_known k (r ∷ [])) lines cs are.1)

none_kept : (h : History) (rs : List Request) → AllByRecursion (IsNewTo (known_in h)) rs → AllByRecursion (λ r. done_of r.id (kept h) ≡ None) rs
none_kept h [] all = tt
none_kept h (r ∷ rs) all = (none_by r.id (kept h) all.0.unknown, none_kept h rs all.1)

all_above : (f : Option ℕ) (rs : List Request) → AllByRecursion (λ r. is_up_to f r.id ≡ false) rs → AreAbove f (map (λ r. r.id) rs)
all_above None rs all = tt
all_above (Some n) [] all = tt
all_above (Some n) (r ∷ rs) all = let test : nat_le r.id n ≡ false = all.0 in (grind (arith, nat_tests), all_above (Some n) rs all.1)

all_unold : (k : Known) (rs : List Request) → AllByRecursion (IsNewTo k) rs → AllByRecursion (λ r. is_up_to k.floor r.id ≡ false) rs
all_unold k [] all = tt
all_unold k (r ∷ rs) all = (all.0.above, all_unold k rs all.1)

-- lines of class new make requests that are new
pub are_new : (procs : Procedures) (h : History) (lines : List Line) (cs : List Class) → AreClasses procs (known_in h) lines cs → AreNew h (new_of cs)
are_new procs h lines cs are =
    let fresh = fresh_of procs (known_in h) lines cs are in
    record { distinct = fresh.1; unkept = none_kept h (new_of cs) fresh.0; above = all_above (floor h) (new_of cs) (all_unold (known_in h) (new_of cs) fresh.0) }

pub all_ordered : (procs : Procedures) (h : History) (bs : List Batch) (cs : List (List Class)) (g : History) → IsOrdered h → GrowsByBatches procs h bs cs g → IsOrdered g
all_ordered procs h [] cs g ordered grows = subst IsOrdered (sym grows.1) ordered
all_ordered procs h (b ∷ bs) [] g ordered grows = absurd grows
all_ordered procs h (b ∷ bs) (c ∷ cs) g ordered grows =
    all_ordered procs grows.0 bs cs g ((growth_keeps h (new_of c) grows.0 grows.1.grows).ordered ordered (are_new procs h b c grows.1.are)) grows.2
