-- Which limit the last word passes, by what is counted.
use Rattle.std.proofs.Common.{◌≡◌, ℕ, ◌-◌, ◌<◌, ◌≤◌, Bool, true, false, ltb-true, lt-ltb, le-ltb, inl, inr, ⊎_elim, List, [], ◌∷◌, ◌++◌, Option, None, Some, sym, refl, ap, ◌∙◌, arith, append_assoc}
use Rattle.std.proofs.lemmas.Bool.{false≢true}
use Rattle.std.proofs.lemmas.List.{same_from_push}
use Rattle.coco_parse.specs.Counting.{is_refuse, is_wide, ends_in, CountsProcedure, CountsExpression, Counts, Counted}
use Rattle.coco_parse.specs.Limits.{is_proc, is_name, opens, closes, closes_list, is_operator, begins_expression, EndsIn, Passes}
use Rattle.coco_parse.specs.declared.counter.Counter.{Counter}
use Rattle.coco_parse.specs.declared.counter.ExpressionCounter.{ExpressionCounter}
use Rattle.coco_parse.specs.declared.counter.ProcedureCounter.{ProcedureCounter}
use Rattle.coco_parse.specs.declared.error.ParseKind.{ParseKind}
use Rattle.coco_parse.specs.declared.error.ParseKind.TheVariants.{Unexpected, TooDeep, TooMany, Range}
use Rattle.coco_parse.specs.declared.word.Word.{Word}
use Rattle.coco_parse.specs.declared.word.Word.TheVariants.{Refuse, Number}
use Rattle.coco_parse.proofs.Counters.{opens_only, name_only, operator_only, IsBesideProcedure, procedure_beside, expression_beside}

-- ---- the last word

ends_in_push : (is : Word → Bool) (ws : List Word) (w : Word) → ends_in is (ws ++ w ∷ []) ≡ is w
ends_in_push is [] w = refl
ends_in_push is (v ∷ []) w = refl
ends_in_push is (v ∷ u ∷ ws) w = ends_in_push is (u ∷ ws) w

refuse_only : (w : Word) → is_refuse w ≡ true → w ≡ Refuse
refuse_only Refuse h = refl
refuse_only _ h = absurd (cc h)

ends_in_refuse : (ws : List Word) → ends_in is_refuse ws ≡ true → (front : List Word) × (ws ≡ front ++ Refuse ∷ [])
ends_in_refuse [] h = absurd (cc h)
ends_in_refuse (w ∷ []) h = ([], ap (λ v. v ∷ []) (refuse_only w h))
ends_in_refuse (w ∷ v ∷ ws) h = let r = ends_in_refuse (v ∷ ws) h in (w ∷ r.0, ap (λ l. w ∷ l) r.1)

-- a number behind `refuse`
range_of : (front ws : List Word) (n : ℕ) (w : Word) → ws ++ w ∷ [] ≡ front ++ Refuse ∷ Number n ∷ [] → (ws ≡ front ++ Refuse ∷ []) × (w ≡ Number n)
range_of front ws n w e = same_from_push ws (front ++ Refuse ∷ []) w (Number n) (e ∙ sym (append_assoc front (Refuse ∷ []) (Number n ∷ [])))

range_made : (front ws : List Word) (n : ℕ) (w : Word) → ws ≡ front ++ Refuse ∷ [] → w ≡ Number n → ws ++ w ∷ [] ≡ front ++ Refuse ∷ Number n ∷ []
range_made front ws n w e f = (λ i. e i ++ f i ∷ []) ∙ append_assoc front (Refuse ∷ []) (Number n ∷ [])

-- ---- the limits of one word

wide_number : (w : Word) → is_wide w ≡ true → (n : ℕ) × (w ≡ Number n) × (65535 < n)
wide_number (Number n) h = (n, refl, ltb-true 65535 n h)
wide_number _ h = absurd (cc h)

pub wide_from : (w : Word) (n : ℕ) → w ≡ Number n → 65535 < n → is_wide w ≡ true
wide_from w n e l = ap is_wide e ∙ lt-ltb 65535 n l

pub narrow_from : (w : Word) (n : ℕ) → w ≡ Number n → n ≤ 65535 → is_wide w ≡ false
narrow_from w n e l = ap is_wide e ∙ le-ltb 65535 n l

refuse_ended : (front : List Word) → ends_in is_refuse (front ++ Refuse ∷ []) ≡ true
refuse_ended front = ends_in_push is_refuse front Refuse

ends_with : (is : Word → Bool) (ws : List Word) (w : Word) → EndsIn is (ws ++ w ∷ []) → is w ≡ true
ends_with is ws w e = ap is (same_from_push ws e.0 w e.1 e.2).1 ∙ e.3

not_deep : (ws : List Word) (w : Word) → opens w ≡ false → Passes TooDeep (ws ++ w ∷ []) → ⊥
not_deep ws w o p = false≢true (sym o ∙ ends_with opens ws w p.0)

not_many : (ws : List Word) (w : Word) → is_operator w ≡ false → is_name w ≡ false → Passes TooMany (ws ++ w ∷ []) → ⊥
not_many ws w o n p =
    ⊎_elim
    (λ l. false≢true (sym o ∙ ends_with is_operator ws w l.0))
    (λ r. false≢true (sym n ∙ ends_with is_name ws w r.0))
    p

not_wide : (ws : List Word) (w : Word) → is_wide w ≡ false → Passes Range (ws ++ w ∷ []) → ⊥
not_wide ws w n p = false≢true (sym n ∙ wide_from w p.1 (range_of p.0 ws p.1 w p.2).1 p.3)

none_passed : (ws : List Word) → ¬ (Passes TooDeep ws) → ¬ (Passes TooMany ws) → ¬ (Passes Range ws) → (k : ParseKind) → ¬ (Passes k ws)
none_passed ws deep many range Unexpected p = p
none_passed ws deep many range TooDeep p = deep p
none_passed ws deep many range TooMany p = many p
none_passed ws deep many range Range p = range p

pub free_word : (ws : List Word) (w : Word) → opens w ≡ false → is_operator w ≡ false → is_name w ≡ false → is_wide w ≡ false → (k : ParseKind) → ¬ (Passes k (ws ++ w ∷ []))
free_word ws w o p n wide = none_passed (ws ++ w ∷ []) (not_deep ws w o) (not_many ws w p n) (not_wide ws w wide)

pub range_passed : (c : Counter) (ws : List Word) (w : Word) → Counts c ws → c.refuses ≡ true → is_wide w ≡ true → Passes Range (ws ++ w ∷ [])
range_passed c ws w h r wide =
    let n = wide_number w wide in
    let front = ends_in_refuse ws (sym h.refuses ∙ r) in
    (front.0, n.0, range_made front.0 ws n.0 w front.1 n.1, n.2)

range_kept : (c : Counter) (ws : List Word) (w : Word) → Counts c ws → (c.refuses ≡ true → is_wide w ≡ false) → Passes Range (ws ++ w ∷ []) → ⊥
range_kept c ws w h narrow p =
    let split = range_of p.0 ws p.1 w p.2 in
    let refuses : c.refuses ≡ true = h.refuses ∙ ap (ends_in is_refuse) split.0 ∙ refuse_ended p.0 in
    false≢true (sym (narrow refuses) ∙ wide_from w p.1 split.1 p.3)

-- ---- what a counter says of the last word that it has counted

pub opened_passed : (c : ProcedureCounter) (ws : List Word) (w : Word) → opens w ≡ true → 32 < c.opened - c.closed → CountsProcedure c (ws ++ w ∷ []) → Passes TooDeep (ws ++ w ∷ [])
opened_passed c ws w o l h = ((ws, w, refl, o), omega (arith, h.opened, h.closed))

pub opened_kept : (c : ProcedureCounter) (ws : List Word) (w : Word) → opens w ≡ true → c.opened - c.closed ≤ 32 → CountsProcedure c (ws ++ w ∷ []) → (k : ParseKind) → ¬ (Passes k (ws ++ w ∷ []))
opened_kept c ws w o l h =
    let only = opens_only w o in
    none_passed (ws ++ w ∷ []) (λ p. omega (arith, h.opened, h.closed, p.1)) (not_many ws w only.operator only.name) (not_wide ws w only.wide)

pub named_passed : (c : ProcedureCounter) (ws : List Word) (w : Word) → is_name w ≡ true → 17 < c.names → CountsProcedure c (ws ++ w ∷ []) → Passes TooMany (ws ++ w ∷ [])
named_passed c ws w n l h = inr ((ws, w, refl, n), omega (arith, h.names))

pub named_kept : (c : ProcedureCounter) (ws : List Word) (w : Word) → is_name w ≡ true → c.names ≤ 17 → CountsProcedure c (ws ++ w ∷ []) → (k : ParseKind) → ¬ (Passes k (ws ++ w ∷ []))
named_kept c ws w n l h =
    let only = name_only w n in
    none_passed (ws ++ w ∷ [])
    (not_deep ws w only.opens)
    (λ p. ⊎_elim (λ o. false≢true (sym only.operator ∙ ends_with is_operator ws w o.0)) (λ m. omega (arith, h.names, m.1)) p)
    (not_wide ws w only.wide)

pub operated_passed : (c : ExpressionCounter) (ws : List Word) (w : Word) → is_operator w ≡ true → 64 < c.operators → CountsExpression c (ws ++ w ∷ []) → Passes TooMany (ws ++ w ∷ [])
operated_passed c ws w o l h = inl ((ws, w, refl, o), omega (arith, h.operators))

pub operated_kept : (c : ExpressionCounter) (ws : List Word) (w : Word) → is_operator w ≡ true → c.operators ≤ 64 → CountsExpression c (ws ++ w ∷ []) → (k : ParseKind) → ¬ (Passes k (ws ++ w ∷ []))
operated_kept c ws w o l h =
    let only = operator_only w o in
    none_passed (ws ++ w ∷ [])
    (not_deep ws w only.opens)
    (λ p. ⊎_elim (λ m. omega (arith, h.operators, m.1)) (λ n. false≢true (sym only.name ∙ ends_with is_name ws w n.0)) p)
    (not_wide ws w only.wide)

-- ---- the counter of both

pub counted_procedure : (o : Option ParseKind) (c : Counter) (n : ProcedureCounter) (ws : List Word) (w : Word) → begins_expression w ≡ false → is_operator w ≡ false → is_refuse w ≡ false → Counts c ws
    → Counted o (CountsProcedure n) (ws ++ w ∷ []) → Counted o (Counts (record { procedure = n; expression = c.expression; refuses = false })) (ws ++ w ∷ [])
counted_procedure None c n ws w b o r h p =
    (record { procedure = p.0; expression = expression_beside c.expression ws w b o h.expression; refuses = sym (ends_in_push is_refuse ws w ∙ r) }, p.1)
counted_procedure (Some k) c n ws w b o r h p = p

pub counted_expression : (o : Option ParseKind) (c : Counter) (n : ExpressionCounter) (ws : List Word) (w : Word) → IsBesideProcedure w → is_refuse w ≡ false → Counts c ws
    → Counted o (CountsExpression n) (ws ++ w ∷ []) → Counted o (Counts (record { procedure = c.procedure; expression = n; refuses = false })) (ws ++ w ∷ [])
counted_expression None c n ws w b r h p =
    (record { procedure = procedure_beside c.procedure ws w b h.procedure; expression = p.0; refuses = sym (ends_in_push is_refuse ws w ∙ r) }, p.1)
counted_expression (Some k) c n ws w b r h p = p

counted_neither : (c : Counter) (r : Bool) (ws : List Word) (w : Word) → IsBesideProcedure w → begins_expression w ≡ false → is_operator w ≡ false → is_refuse w ≡ r → Counts c ws
    → Counts (record { procedure = c.procedure; expression = c.expression; refuses = r }) (ws ++ w ∷ [])
counted_neither c r ws w p b o e h = record {
  procedure = procedure_beside c.procedure ws w p h.procedure;
  expression = expression_beside c.expression ws w b o h.expression;
  refuses = sym (ends_in_push is_refuse ws w ∙ e);
}

pub number_counted : (c : Counter) (ws : List Word) (w : Word) (n : ℕ) → w ≡ Number n → (c.refuses ≡ true → is_wide w ≡ false) → Counts c ws
    → Counted None (Counts (record { procedure = c.procedure; expression = c.expression; refuses = false })) (ws ++ w ∷ [])
number_counted c ws w n e narrow h =
    let beside : IsBesideProcedure w = record { proc = ap is_proc e; opens = ap opens e; closes = ap closes e; list = ap closes_list e; name = ap is_name e } in (
      counted_neither c false ws w beside (ap begins_expression e) (ap is_operator e) (ap is_refuse e) h,
      none_passed (ws ++ w ∷ []) (not_deep ws w beside.opens) (not_many ws w (ap is_operator e) beside.name) (range_kept c ws w h narrow),
    )

pub plain_counted : (c : Counter) (r : Bool) (ws : List Word) (w : Word) → IsBesideProcedure w → begins_expression w ≡ false → is_operator w ≡ false → is_wide w ≡ false → is_refuse w ≡ r → Counts c ws
    → Counted None (Counts (record { procedure = c.procedure; expression = c.expression; refuses = r })) (ws ++ w ∷ [])
plain_counted c r ws w p b o wide e h = (counted_neither c r ws w p b o e h, free_word ws w p.opens o p.name wide)
