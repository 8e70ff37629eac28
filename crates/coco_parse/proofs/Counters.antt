-- What one more word does to what is counted.
use Rattle.std.proofs.Common.{◌≡◌, ℕ, suc, ◌+◌, ◌<◌, ◌≤◌, Bool, true, false, not, ◌&&◌, ◌||◌, cond, ⊎_elim, List, [], ◌∷◌, ◌++◌, length, sym, refl, ap, ◌∙◌, arith}
use Rattle.std.specs.List.{list_any}
use Rattle.std.proofs.lemmas.Bool.{cases_Bool}
use Rattle.coco_parse.specs.Counting.{is_wide, in_header, CountsProcedure, CountsExpression}
use Rattle.coco_parse.specs.Limits.{is_proc, is_name, opens, closes, closes_list, is_operator, begins_expression, since, count, header_names}
use Rattle.coco_parse.specs.declared.counter.ExpressionCounter.{ExpressionCounter}
use Rattle.coco_parse.specs.declared.counter.ProcedureCounter.{ProcedureCounter}
use Rattle.coco_parse.specs.declared.word.Word.{Word}
use Rattle.coco_parse.specs.declared.word.Word.TheVariants.{Proc, Not, Name, Two, OpenParen, CloseParen, OpenBrace, CloseBrace}

or_false : (b : Bool) → (b || false) ≡ b
or_false true = refl
or_false false = refl

not_false : (b : Bool) → not b ≡ false → b ≡ true
not_false true h = refl
not_false false h = absurd (cc h)

both_true : (a b : Bool) → (a && not b) ≡ true → (a ≡ true) × (b ≡ false)
both_true true false h = (refl, refl)
both_true true true h = absurd (cc h)
both_true false b h = absurd (cc h)

any_push : (is : Word → Bool) (ws : List Word) (w : Word) → list_any is (ws ++ w ∷ []) ≡ (list_any is ws || is w)
any_push is [] w = elim (is w) as (λ b. (b || false) ≡ b) [ true ↦ refl | false ↦ refl ]
any_push is (v ∷ ws) w = rw (any_push is ws w) (elim (is v) as (λ b. (b || (list_any is ws || is w)) ≡ ((b || list_any is ws) || is w)) [ true ↦ refl | false ↦ refl ])

any_push_begins : (is : Word → Bool) (ws : List Word) (w : Word) → is w ≡ true → list_any is (ws ++ w ∷ []) ≡ true
any_push_begins is ws w h = rw (any_push is ws w, h) (elim (list_any is ws) as (λ b. (b || true) ≡ true) [ true ↦ refl | false ↦ refl ])

any_push_other : (is : Word → Bool) (ws : List Word) (w : Word) → is w ≡ false → list_any is (ws ++ w ∷ []) ≡ list_any is ws
any_push_other is ws w h = rw (any_push is ws w, h) (elim (list_any is ws) as (λ b. (b || false) ≡ b) [ true ↦ refl | false ↦ refl ])

-- since at a word, as its tests come out
since_later : (is : Word → Bool) (v : Word) (ws : List Word) → list_any is ws ≡ true → since is (v ∷ ws) ≡ since is ws
since_later is v ws t = ap (λ b. cond b (since is ws) (cond (is v) ws [])) t

since_other : (is : Word → Bool) (v : Word) (ws : List Word) → list_any is ws ≡ false → since is (v ∷ ws) ≡ cond (is v) ws []
since_other is v ws f = ap (λ b. cond b (since is ws) (cond (is v) ws [])) f

since_begins : (is : Word → Bool) (ws : List Word) (w : Word) → is w ≡ true → since is (ws ++ w ∷ []) ≡ []
since_begins is [] w h = rw h refl
since_begins is (v ∷ ws) w h = since_later is v (ws ++ w ∷ []) (any_push_begins is ws w h) ∙ since_begins is ws w h

since_none : (is : Word → Bool) (ws : List Word) → list_any is ws ≡ false → since is ws ≡ []
since_none is [] h = refl
since_none is (v ∷ ws) h =
    ⊎_elim
    (λ t. let e : true ≡ false = rw t at h in absurd (cc e))
    (λ f. let e : list_any is ws ≡ false = rw f at h in since_other is v ws e ∙ ap (λ b. cond b ws []) f)
    (cases_Bool (is v))

since_more : (is : Word → Bool) (ws : List Word) (w : Word) → is w ≡ false → list_any is ws ≡ true → since is (ws ++ w ∷ []) ≡ since is ws ++ w ∷ []
since_more is [] w h a = absurd (cc a)
since_more is (v ∷ ws) w h a =
    ⊎_elim
    (λ t. since_later is v (ws ++ w ∷ []) (any_push_other is ws w h ∙ t) ∙ since_more is ws w h t ∙ ap (λ l. l ++ w ∷ []) (sym (since_later is v ws t)))
    (λ f.
    let g : is v ≡ true = sym (or_false (is v)) ∙ ap (λ b. is v || b) (sym f) ∙ a in
    since_other is v (ws ++ w ∷ []) (any_push_other is ws w h ∙ f) ∙ ap (λ b. cond b (ws ++ w ∷ []) []) g ∙ ap (λ l. l ++ w ∷ []) (sym (since_other is v ws f ∙ ap (λ b. cond b ws []) g)))
    (cases_Bool (list_any is ws))

count_more : (what : Word → Bool) (ws : List Word) (w : Word) → what w ≡ true → count what (ws ++ w ∷ []) ≡ count what ws + 1
count_more what [] w h = rw h refl
count_more what (v ∷ ws) w h =
    let e = count_more what ws w h in
    ⊎_elim
    (λ t. rw (t) (omega (arith, e)))
    (λ f. rw (f) e)
    (cases_Bool (what v))

count_same : (what : Word → Bool) (ws : List Word) (w : Word) → what w ≡ false → count what (ws ++ w ∷ []) ≡ count what ws
count_same what [] w h = rw h refl
count_same what (v ∷ ws) w h =
    let e = count_same what ws w h in
    ⊎_elim
    (λ t. rw (t) (ap suc e))
    (λ f. rw (f) e)
    (cases_Bool (what v))

count_within : (what : Word → Bool) (ws : List Word) → count what ws ≤ length ws
count_within what [] = omega arith
count_within what (v ∷ ws) =
    let e = count_within what ws in
    ⊎_elim (λ t. rw t (omega (arith, e))) (λ f. rw f (omega (arith, e))) (cases_Bool (what v))

since_within : (is : Word → Bool) (ws : List Word) → length (since is ws) ≤ length ws
since_within is [] = omega arith
since_within is (v ∷ ws) =
    let e = since_within is ws in
    ⊎_elim
    (λ t. omega (arith, e, ap length (since_later is v ws t)))
    (λ f. ⊎_elim
    (λ y. omega (arith, ap length (since_other is v ws f ∙ ap (λ b. cond b ws []) y)))
    (λ n. omega (arith, ap length (since_other is v ws f ∙ ap (λ b. cond b ws []) n)))
    (cases_Bool (is v)))
    (cases_Bool (list_any is ws))

-- ---- what stands behind the last word of another kind

pub behind_within : (is what : Word → Bool) (ws : List Word) → count what (since is ws) ≤ length ws
behind_within is what ws = omega (arith, count_within what (since is ws), since_within is ws)

behind_none : (is what : Word → Bool) (ws : List Word) → list_any is ws ≡ false → count what (since is ws) ≡ 0
behind_none is what ws a = ap (count what) (since_none is ws a)

still_none : (is : Word → Bool) (ws : List Word) (w : Word) → is w ≡ false → list_any is ws ≡ false → list_any is (ws ++ w ∷ []) ≡ false
still_none is ws w i a = any_push_other is ws w i ∙ a

behind_begun : (is what : Word → Bool) (ws : List Word) (w : Word) → is w ≡ true → count what (since is (ws ++ w ∷ [])) ≡ 0
behind_begun is what ws w i = ap (count what) (since_begins is ws w i)

behind_same : (is what : Word → Bool) (ws : List Word) (w : Word) → is w ≡ false → what w ≡ false → count what (since is (ws ++ w ∷ [])) ≡ count what (since is ws)
behind_same is what ws w i n =
    ⊎_elim
    (λ a. ap (count what) (since_more is ws w i a) ∙ count_same what (since is ws) w n)
    (λ a. behind_none is what (ws ++ w ∷ []) (still_none is ws w i a) ∙ sym (behind_none is what ws a))
    (cases_Bool (list_any is ws))

behind_more : (is what : Word → Bool) (ws : List Word) (w : Word) → is w ≡ false → what w ≡ true → list_any is ws ≡ true → count what (since is (ws ++ w ∷ [])) ≡ count what (since is ws) + 1
behind_more is what ws w i n a = ap (count what) (since_more is ws w i a) ∙ count_more what (since is ws) w n

any_behind_none : (is what : Word → Bool) (ws : List Word) → list_any is ws ≡ false → list_any what (since is ws) ≡ false
any_behind_none is what ws a = ap (list_any what) (since_none is ws a)

any_behind_same : (is what : Word → Bool) (ws : List Word) (w : Word) → is w ≡ false → what w ≡ false → list_any what (since is (ws ++ w ∷ [])) ≡ list_any what (since is ws)
any_behind_same is what ws w i n =
    ⊎_elim
    (λ a. ap (list_any what) (since_more is ws w i a) ∙ any_push_other what (since is ws) w n)
    (λ a. any_behind_none is what (ws ++ w ∷ []) (still_none is ws w i a) ∙ sym (any_behind_none is what ws a))
    (cases_Bool (list_any is ws))

any_behind_more : (is what : Word → Bool) (ws : List Word) (w : Word) → is w ≡ false → what w ≡ true → list_any is ws ≡ true → list_any what (since is (ws ++ w ∷ [])) ≡ true
any_behind_more is what ws w i n a = ap (list_any what) (since_more is ws w i a) ∙ any_push_begins what (since is ws) w n

-- ---- what a word of one class isn't

pub record OpensOnly (w : Word) : Type 0 where
  pub proc : is_proc w ≡ false
  pub closes : closes w ≡ false
  pub list : closes_list w ≡ false
  pub name : is_name w ≡ false
  pub operator : is_operator w ≡ false
  pub wide : is_wide w ≡ false

pub opens_only : (w : Word) → opens w ≡ true → OpensOnly w
opens_only OpenParen h = record { proc = refl; closes = refl; list = refl; name = refl; operator = refl; wide = refl }
opens_only OpenBrace h = record { proc = refl; closes = refl; list = refl; name = refl; operator = refl; wide = refl }
opens_only _ h = absurd (cc h)

pub record NamesOnly (w : Word) : Type 0 where
  pub proc : is_proc w ≡ false
  pub opens : opens w ≡ false
  pub closes : closes w ≡ false
  pub list : closes_list w ≡ false
  pub operator : is_operator w ≡ false
  pub wide : is_wide w ≡ false

pub name_only : (w : Word) → is_name w ≡ true → NamesOnly w
name_only (Name x) h = record { proc = refl; opens = refl; closes = refl; list = refl; operator = refl; wide = refl }
name_only _ h = absurd (cc h)

pub record OperatesOnly (w : Word) : Type 0 where
  pub begins : begins_expression w ≡ false
  pub opens : opens w ≡ false
  pub name : is_name w ≡ false
  pub wide : is_wide w ≡ false

pub operator_only : (w : Word) → is_operator w ≡ true → OperatesOnly w
operator_only Not h = record { begins = refl; opens = refl; name = refl; wide = refl }
operator_only (Two op) h = record { begins = refl; opens = refl; name = refl; wide = refl }
operator_only _ h = absurd (cc h)

-- ---- the counter of a procedure

in_header_none : (ws : List Word) → list_any is_proc ws ≡ false → in_header ws ≡ false
in_header_none ws a = ap (λ b. b && not (list_any closes_list (since is_proc ws))) a

in_header_same : (ws : List Word) (w : Word) → is_proc w ≡ false → closes_list w ≡ false → in_header (ws ++ w ∷ []) ≡ in_header ws
in_header_same ws w p l = λ i. any_push_other is_proc ws w p i && not (any_behind_same is_proc closes_list ws w p l i)

header_names_none : (ws : List Word) → list_any is_proc ws ≡ false → header_names ws ≡ 0
header_names_none ws a =
    ap (λ b. cond b 0 (count is_name (since is_proc ws))) (any_behind_none is_proc closes_list ws a) ∙ behind_none is_proc is_name ws a

header_names_same : (ws : List Word) (w : Word) → is_proc w ≡ false → closes_list w ≡ false → is_name w ≡ false → header_names (ws ++ w ∷ []) ≡ header_names ws
header_names_same ws w p l n = λ i. cond (any_behind_same is_proc closes_list ws w p l i) 0 (behind_same is_proc is_name ws w p n i)

-- where the list has been closed, or no procedure has begun
header_names_ended : (ws : List Word) → in_header ws ≡ false → header_names ws ≡ 0
header_names_ended ws e =
    ⊎_elim
    (λ a. let closed = not_false _ (sym (ap (λ b. b && not (list_any closes_list (since is_proc ws))) a) ∙ e) in ap (λ b. cond b 0 (count is_name (since is_proc ws))) closed)
    (λ a. header_names_none ws a)
    (cases_Bool (list_any is_proc ws))

-- where it hasn't
header_open : (ws : List Word) → in_header ws ≡ true → (list_any is_proc ws ≡ true) × (header_names ws ≡ count is_name (since is_proc ws))
header_open ws e =
    let parts = both_true _ _ e in
    (parts.0, ap (λ b. cond b 0 (count is_name (since is_proc ws))) parts.1)

-- a word that the counter of a procedure doesn't count
pub record IsBesideProcedure (w : Word) : Type 0 where
  pub proc : is_proc w ≡ false
  pub opens : opens w ≡ false
  pub closes : closes w ≡ false
  pub list : closes_list w ≡ false
  pub name : is_name w ≡ false

pub procedure_beside : (c : ProcedureCounter) (ws : List Word) (w : Word) → IsBesideProcedure w → CountsProcedure c ws → CountsProcedure c (ws ++ w ∷ [])
procedure_beside c ws w b h = record {
  begun = h.begun ∙ sym (any_push_other is_proc ws w b.proc);
  in_header = h.in_header ∙ sym (in_header_same ws w b.proc b.list);
  opened = h.opened ∙ sym (behind_same is_proc opens ws w b.proc b.opens);
  closed = h.closed ∙ sym (behind_same is_proc closes ws w b.proc b.closes);
  names = h.names ∙ sym (header_names_same ws w b.proc b.list b.name);
}

-- before the first procedure
pub procedure_before : (c : ProcedureCounter) (ws : List Word) (w : Word) → is_proc w ≡ false → c.begun ≡ false → CountsProcedure c ws → CountsProcedure c (ws ++ w ∷ [])
procedure_before c ws w p b h =
    let none : list_any is_proc ws ≡ false = sym h.begun ∙ b in
    let still = still_none is_proc ws w p none in
    record {
      begun = b ∙ sym still;
      in_header = h.in_header ∙ in_header_none ws none ∙ sym (in_header_none (ws ++ w ∷ []) still);
      opened = h.opened ∙ behind_none is_proc opens ws none ∙ sym (behind_none is_proc opens (ws ++ w ∷ []) still);
      closed = h.closed ∙ behind_none is_proc closes ws none ∙ sym (behind_none is_proc closes (ws ++ w ∷ []) still);
      names = h.names ∙ header_names_none ws none ∙ sym (header_names_none (ws ++ w ∷ []) still);
    }

pub procedure_begun : (ws : List Word) → CountsProcedure (record { begun = true; in_header = true; opened = 0; closed = 0; names = 0 }) (ws ++ Proc ∷ [])
procedure_begun ws =
    let since_proc = since_begins is_proc ws Proc refl in
    record {
      begun = sym (any_push_begins is_proc ws Proc refl);
      in_header = sym (λ i. any_push_begins is_proc ws Proc refl i && not (list_any closes_list (since_proc i)));
      opened = sym (behind_begun is_proc opens ws Proc refl);
      closed = sym (behind_begun is_proc closes ws Proc refl);
      names = sym (λ i. cond (list_any closes_list (since_proc i)) 0 (count is_name (since_proc i)));
    }

pub begun_where_opened : (c : ProcedureCounter) (ws : List Word) → 0 < c.opened → CountsProcedure c ws → c.begun ≡ true
begun_where_opened c ws l h =
    ⊎_elim (λ t. t) (λ f. absurd (omega (arith, h.opened, behind_none is_proc opens ws (sym h.begun ∙ f)))) (cases_Bool c.begun)

pub procedure_opened : (c : ProcedureCounter) (n : ℕ) (ws : List Word) (w : Word) → opens w ≡ true → c.begun ≡ true → n ≡ c.opened + 1 → CountsProcedure c ws
    → CountsProcedure (record { begun = c.begun; in_header = c.in_header; opened = n; closed = c.closed; names = c.names }) (ws ++ w ∷ [])
procedure_opened c n ws w o b e h =
    let only = opens_only w o in
    record {
      begun = h.begun ∙ sym (any_push_other is_proc ws w only.proc);
      in_header = h.in_header ∙ sym (in_header_same ws w only.proc only.list);
      opened = e ∙ ap (λ k. k + 1) h.opened ∙ sym (behind_more is_proc opens ws w only.proc o (sym h.begun ∙ b));
      closed = h.closed ∙ sym (behind_same is_proc closes ws w only.proc only.closes);
      names = h.names ∙ sym (header_names_same ws w only.proc only.list only.name);
    }

pub opened_before : (c : ProcedureCounter) (ws : List Word) (w : Word) → opens w ≡ true → c.begun ≡ false → CountsProcedure c ws → CountsProcedure c (ws ++ w ∷ [])
opened_before c ws w o b h = procedure_before c ws w (opens_only w o).proc b h

pub procedure_closed : (c : ProcedureCounter) (n : ℕ) (ws : List Word) → c.begun ≡ true → n ≡ c.closed + 1 → CountsProcedure c ws
    → CountsProcedure (record { begun = c.begun; in_header = c.in_header; opened = c.opened; closed = n; names = c.names }) (ws ++ CloseBrace ∷ [])
procedure_closed c n ws b e h = record {
  begun = h.begun ∙ sym (any_push_other is_proc ws CloseBrace refl);
  in_header = h.in_header ∙ sym (in_header_same ws CloseBrace refl refl);
  opened = h.opened ∙ sym (behind_same is_proc opens ws CloseBrace refl refl);
  closed = e ∙ ap (λ k. k + 1) h.closed ∙ sym (behind_more is_proc closes ws CloseBrace refl refl (sym h.begun ∙ b));
  names = h.names ∙ sym (header_names_same ws CloseBrace refl refl refl);
}

header_ended : (ws : List Word) → list_any is_proc ws ≡ true → in_header (ws ++ CloseParen ∷ []) ≡ false
header_ended ws a = λ i. (any_push_other is_proc ws CloseParen refl ∙ a) i && not (any_behind_more is_proc closes_list ws CloseParen refl refl a i)

pub list_closed : (c : ProcedureCounter) (n : ℕ) (ws : List Word) → c.begun ≡ true → n ≡ c.closed + 1 → CountsProcedure c ws
    → CountsProcedure (record { begun = c.begun; in_header = false; opened = c.opened; closed = n; names = 0 }) (ws ++ CloseParen ∷ [])
list_closed c n ws b e h =
    let some : list_any is_proc ws ≡ true = sym h.begun ∙ b in
    let ended = header_ended ws some in
    record {
      begun = h.begun ∙ sym (any_push_other is_proc ws CloseParen refl);
      in_header = sym ended;
      opened = h.opened ∙ sym (behind_same is_proc opens ws CloseParen refl refl);
      closed = e ∙ ap (λ k. k + 1) h.closed ∙ sym (behind_more is_proc closes ws CloseParen refl refl some);
      names = sym (header_names_ended (ws ++ CloseParen ∷ []) ended);
    }

pub list_closed_before : (c : ProcedureCounter) (ws : List Word) → c.begun ≡ false → CountsProcedure c ws
    → CountsProcedure (record { begun = c.begun; in_header = false; opened = c.opened; closed = c.closed; names = 0 }) (ws ++ CloseParen ∷ [])
list_closed_before c ws b h =
    let on = procedure_before c ws CloseParen refl b h in
    let none : list_any is_proc (ws ++ CloseParen ∷ []) ≡ false = sym on.begun ∙ b in
    record {
      begun = on.begun;
      in_header = sym (in_header_none (ws ++ CloseParen ∷ []) none);
      opened = on.opened;
      closed = on.closed;
      names = sym (header_names_none (ws ++ CloseParen ∷ []) none);
    }

named_more : (ws : List Word) (w : Word) → is_name w ≡ true → in_header ws ≡ true → header_names (ws ++ w ∷ []) ≡ header_names ws + 1
named_more ws w n e =
    let only = name_only w n in
    let before = header_open ws e in
    let still = header_open (ws ++ w ∷ []) (in_header_same ws w only.proc only.list ∙ e) in
    still.1 ∙ behind_more is_proc is_name ws w only.proc n before.0 ∙ ap (λ k. k + 1) (sym before.1)

named_beside : (ws : List Word) (w : Word) → is_name w ≡ true → in_header ws ≡ false → header_names (ws ++ w ∷ []) ≡ 0
named_beside ws w n e = let only = name_only w n in header_names_ended (ws ++ w ∷ []) (in_header_same ws w only.proc only.list ∙ e)

with_names : (c : ProcedureCounter) (k : ℕ) (ws : List Word) (w : Word) → is_name w ≡ true → k ≡ header_names (ws ++ w ∷ []) → CountsProcedure c ws
    → CountsProcedure (record { begun = c.begun; in_header = c.in_header; opened = c.opened; closed = c.closed; names = k }) (ws ++ w ∷ [])
with_names c k ws w n e h =
    let only = name_only w n in
    record {
      begun = h.begun ∙ sym (any_push_other is_proc ws w only.proc);
      in_header = h.in_header ∙ sym (in_header_same ws w only.proc only.list);
      opened = h.opened ∙ sym (behind_same is_proc opens ws w only.proc only.opens);
      closed = h.closed ∙ sym (behind_same is_proc closes ws w only.proc only.closes);
      names = e;
    }

pub procedure_named : (c : ProcedureCounter) (ws : List Word) (w : Word) → is_name w ≡ true → c.in_header ≡ true → CountsProcedure c ws
    → CountsProcedure (record { begun = c.begun; in_header = c.in_header; opened = c.opened; closed = c.closed; names = c.names + 1 }) (ws ++ w ∷ [])
procedure_named c ws w n i h = with_names c (c.names + 1) ws w n (ap (λ k. k + 1) h.names ∙ sym (named_more ws w n (sym h.in_header ∙ i))) h

pub named_after : (c : ProcedureCounter) (ws : List Word) (w : Word) → is_name w ≡ true → c.in_header ≡ false → CountsProcedure c ws → CountsProcedure c (ws ++ w ∷ [])
named_after c ws w n i h =
    let ended : in_header ws ≡ false = sym h.in_header ∙ i in
    with_names c c.names ws w n (h.names ∙ header_names_ended ws ended ∙ sym (named_beside ws w n ended)) h

pub none_named : (c : ProcedureCounter) (ws : List Word) → c.in_header ≡ false → CountsProcedure c ws → c.names ≡ 0
none_named c ws i h = h.names ∙ header_names_ended ws (sym h.in_header ∙ i)

-- ---- the counter of an expression

pub expression_beside : (c : ExpressionCounter) (ws : List Word) (w : Word) → begins_expression w ≡ false → is_operator w ≡ false → CountsExpression c ws → CountsExpression c (ws ++ w ∷ [])
expression_beside c ws w b o h = record {
  begun = h.begun ∙ sym (any_push_other begins_expression ws w b);
  operators = h.operators ∙ sym (behind_same begins_expression is_operator ws w b o);
}

pub expression_begun : (ws : List Word) (w : Word) → begins_expression w ≡ true → CountsExpression (record { begun = true; operators = 0 }) (ws ++ w ∷ [])
expression_begun ws w b = record {
  begun = sym (any_push_begins begins_expression ws w b);
  operators = sym (behind_begun begins_expression is_operator ws w b);
}

-- before the first expression
pub none_operated : (c : ExpressionCounter) (ws : List Word) → c.begun ≡ false → CountsExpression c ws → c.operators ≡ 0
none_operated c ws b h = h.operators ∙ behind_none begins_expression is_operator ws (sym h.begun ∙ b)

pub expression_before : (c : ExpressionCounter) (ws : List Word) (w : Word) → is_operator w ≡ true → c.begun ≡ false → CountsExpression c ws → CountsExpression c (ws ++ w ∷ [])
expression_before c ws w o b h =
    let still = still_none begins_expression ws w (operator_only w o).begins (sym h.begun ∙ b) in
    record {
      begun = b ∙ sym still;
      operators = none_operated c ws b h ∙ sym (behind_none begins_expression is_operator (ws ++ w ∷ []) still);
    }

pub expression_more : (c : ExpressionCounter) (ws : List Word) (w : Word) → is_operator w ≡ true → c.begun ≡ true → CountsExpression c ws
    → CountsExpression (record { begun = c.begun; operators = c.operators + 1 }) (ws ++ w ∷ [])
expression_more c ws w o b h =
    let begins = (operator_only w o).begins in
    record {
      begun = h.begun ∙ sym (any_push_other begins_expression ws w begins);
      operators = ap (λ k. k + 1) h.operators ∙ sym (behind_more begins_expression is_operator ws w begins o (sym h.begun ∙ b));
    }
