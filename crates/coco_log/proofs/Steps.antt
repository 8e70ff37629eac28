-- What a crash leaves in each of the two steps of an append.
use Rattle.std.proofs.Common.{◌≡◌, ◌≢◌, inl, inr, ℕ, ◌+◌, ◌≤◌, List, [], ◌∷◌, ◌++◌, length, get_or, take, drop, refl, sym, ◌∙◌, ap, subst, arith, append_assoc, length-append, take-append-drop}
use Rattle.std.proofs.lemmas.Bool.{cases_eq}
use Rattle.std.proofs.lemmas.List.{append-nil, take_at, drop_at, drop_more}
use Rattle.std.proofs.lemmas.List.Elements.{All-push}
use Rattle.std.proofs.lemmas.List.Concat.{flat_map-append}
use Rattle.std.specs.List.{All, flat_map}
use Rattle.coco_host.specs.Files.{Files, put, Torn, TornIn, Follows}
use Rattle.coco_log.specs.Grammar.{header, counted, entry, front, IsShort, IsPiece, IsLog}
use Rattle.coco_log.specs.LogState.{IsBeforeOrAfter}

pub front-push : (kind : ℕ) (bodies : List (List ℕ)) (body : List ℕ) → front kind (bodies ++ body ∷ []) ≡ front kind bodies ++ entry body
front-push kind bodies body =
    ap (λ (l : List ℕ). header kind ++ l) (flat_map-append entry bodies (body ∷ []) ∙ ap (λ (l : List ℕ). flat_map entry bodies ++ l) (append-nil (entry body)))
    ∙ sym (append_assoc (header kind) (flat_map entry bodies) (entry body))

-- the front of a file, up to its last gate and with it
module _ (f : List ℕ) (gate : ℕ) (at : gate ≡ length f) where
  pub take_gate : (g : ℕ) (r : List ℕ) → take (gate + 1) (f ++ g ∷ r) ≡ f ++ g ∷ []
  take_gate g r = ap (λ (l : List ℕ). take (gate + 1) l) (sym (append_assoc f (g ∷ []) r)) ∙ take_at (f ++ g ∷ []) r (gate + 1) (omega (arith, at, length-append f (g ∷ [])))

  pub drop_gate : (g : ℕ) (r : List ℕ) → drop (gate + 1) (f ++ g ∷ r) ≡ r
  drop_gate g r = ap (λ (l : List ℕ). drop (gate + 1) l) (sym (append_assoc f (g ∷ []) r)) ∙ drop_at (f ++ g ∷ []) r (gate + 1) (omega (arith, at, length-append f (g ∷ [])))

  pub take_front : (r : List ℕ) → take gate (f ++ r) ≡ f
  take_front r = take_at f r gate (sym at)

  -- the closed gate stands in each outcome of the first write
  pub torn_behind : (count g : ℕ) (r c : List ℕ) → Torn (gate + 1) count (f ++ g ∷ r) c → c ≡ f ++ g ∷ drop (gate + 1) c
  torn_behind count g r c torn =
      sym (take-append-drop (gate + 1) c) ∙ ap (λ (l : List ℕ). l ++ drop (gate + 1) c) (torn.before ∙ take_gate g r) ∙ append_assoc f (g ∷ []) (drop (gate + 1) c)

  -- once it is done, the piece stands behind the gate
  pub put_behind : (piece : List ℕ) (g : ℕ) (r : List ℕ) → put (gate + 1) piece (f ++ g ∷ r) ≡ f ++ g ∷ (piece ++ drop (gate + 1 + length piece) (f ++ g ∷ r))
  put_behind piece g r = ap (λ (l : List ℕ). l ++ (piece ++ drop (gate + 1 + length piece) (f ++ g ∷ r))) (take_gate g r) ∙ append_assoc f (g ∷ []) (piece ++ drop (gate + 1 + length piece) (f ++ g ∷ r))

  -- only the gate may be another one in an outcome of the second write
  pub torn_gate : (g : ℕ) (r c : List ℕ) → Torn gate 1 (f ++ g ∷ r) c → c ≡ f ++ get_or c gate 0 ∷ r
  torn_gate g r c torn =
      let long : gate + 1 ≤ length c = omega (arith, torn.no_shorter, length-append f (g ∷ r), at) in
      sym (take-append-drop gate c)
      ∙ ap (λ (l : List ℕ). l ++ drop gate c) (torn.before ∙ take_front (g ∷ r))
      ∙ ap (λ (l : List ℕ). f ++ l) (drop_more c gate 0 (omega (arith, long)) ∙ ap (λ (l : List ℕ). get_or c gate 0 ∷ l) (torn.after ∙ drop_gate g r))

  pub put_gate : (g : ℕ) (r : List ℕ) → put gate (1 ∷ []) (f ++ g ∷ r) ≡ f ++ 1 ∷ r
  put_gate g r = ap (λ (l : List ℕ). l ++ (1 ∷ drop (gate + 1) (f ++ g ∷ r))) (take_front (g ∷ r)) ∙ ap (λ (l : List ℕ). f ++ 1 ∷ l) (drop_gate g r)

module _ (kind : ℕ) (bodies : List (List ℕ)) (body : List ℕ) (short : All IsShort bodies) (fits : IsShort body) where
  -- behind an open gate the piece is an entry and a closed gate
  pub opened : (rest : List ℕ) → IsLog kind (bodies ++ body ∷ []) (front kind bodies ++ 1 ∷ (counted body ++ 0 ∷ [] ++ rest))
  opened rest = record {
    gate = 0;
    behind = rest;
    short = All-push IsShort bodies body short fits;
    shut = omega arith;
    is = ap (λ (l : List ℕ). front kind bodies ++ 1 ∷ l) (append_assoc (counted body) (0 ∷ []) rest)
        ∙ sym (append_assoc (front kind bodies) (entry body) (0 ∷ rest))
        ∙ ap (λ (l : List ℕ). l ++ 0 ∷ rest) (sym (front-push kind bodies body));
  }

  -- whatever the gate is, the entry is there or it isn't
  pub with_gate : (g : ℕ) (rest : List ℕ) → IsBeforeOrAfter kind bodies body (front kind bodies ++ g ∷ (counted body ++ 0 ∷ [] ++ rest))
  with_gate g rest = elim (cases_eq g 1) [
    | inl is ↦ inr (subst (λ (x : ℕ). IsLog kind (bodies ++ body ∷ []) (front kind bodies ++ x ∷ (counted body ++ 0 ∷ [] ++ rest))) (sym is) (opened rest))
    | inr not ↦ inl (record { gate = g; behind = counted body ++ 0 ∷ [] ++ rest; short = short; shut = not; is = refl })
  ]

-- an append to one of the files, which is a log of these entries in all that a crash leaves
module _ (file kind gate : ℕ) (bodies : List (List ℕ)) (body piece : List ℕ) (files : Files) (old : Files → Type 0)
    (log : IsLog kind bodies (files file)) (at : gate ≡ length (front kind bodies)) (durable : (c : Files) → old c → c file ≡ files file) (is : IsPiece body piece) where
  -- what is left of the files is a log of these entries, maybe with the new one, and the other files are as before
  abbrev pub Image : Files → Type 0
  Image c = IsBeforeOrAfter kind bodies body (c file) × ((d : Files) × old d × ((n : ℕ) → n ≢ file → c n ≡ d n))

  pub image_first : (c : Files) → old c → Image c
  image_first c left = (inl (subst (IsLog kind bodies) (sym (durable c left)) log), (c, left, λ n other. refl))

  pub image_behind : (new : Files → Type 0) → Follows (TornIn file (gate + 1) (length piece)) old new → (c : Files) → new c → Image c
  image_behind new follows c left =
      let from = follows c left in
      let torn = subst (λ (b : List ℕ). Torn (gate + 1) (length piece) b (c file)) (durable from.0 from.1 ∙ log.is) from.2.inside in
      (inl (record { gate = log.gate; behind = drop (gate + 1) (c file); short = log.short; shut = log.shut; is = torn_behind (front kind bodies) gate at (length piece) log.gate log.behind (c file) torn }), (from.0, from.1, from.2.elsewhere))

  abbrev rest : List ℕ
  rest = drop (gate + 1 + length piece) (front kind bodies ++ log.gate ∷ log.behind)

  -- the file with the piece behind its gate
  pub staged_is : put (gate + 1) piece (files file) ≡ front kind bodies ++ log.gate ∷ (counted body ++ 0 ∷ [] ++ rest)
  staged_is =
      ap (λ (l : List ℕ). put (gate + 1) piece l) log.is ∙ put_behind (front kind bodies) gate at piece log.gate log.behind
      ∙ ap (λ (l : List ℕ). front kind bodies ++ log.gate ∷ (l ++ rest)) is.is

  pub image_gate : (mid new : Files → Type 0) → ((d : Files) → mid d → Image d) → ((d : Files) → mid d → d file ≡ put (gate + 1) piece (files file)) → Follows (TornIn file gate 1) mid new → (c : Files) → new c → Image c
  image_gate mid new images stands follows c left =
      let from = follows c left in
      let was = (images from.0 from.1).1 in
      let torn = subst (λ (b : List ℕ). Torn gate 1 b (c file)) (stands from.0 from.1 ∙ staged_is) from.2.inside in
      let whole = torn_gate (front kind bodies) gate at log.gate (counted body ++ 0 ∷ [] ++ rest) (c file) torn in
      (subst (IsBeforeOrAfter kind bodies body) (sym whole) (with_gate kind bodies body log.short is.short (get_or (c file) gate 0) rest), (was.0, was.1, λ n other. from.2.elsewhere n other ∙ was.2 n other))

  -- the file with its gate opened
  pub opened_is : IsLog kind (bodies ++ body ∷ []) (put gate (1 ∷ []) (put (gate + 1) piece (files file)))
  opened_is = subst (IsLog kind (bodies ++ body ∷ [])) (sym (ap (λ (l : List ℕ). put gate (1 ∷ []) l) staged_is ∙ put_gate (front kind bodies) gate at log.gate (counted body ++ 0 ∷ [] ++ rest))) (opened kind bodies body log.short is.short rest)

  -- the piece and the gate as one write
  pub written_is : put gate (1 ∷ []) (put (gate + 1) piece (files file)) ≡ put gate (entry body ++ 0 ∷ []) (files file)
  written_is =
      let opened_gate = ap (λ (l : List ℕ). put gate (1 ∷ []) l) staged_is ∙ put_gate (front kind bodies) gate at log.gate (counted body ++ 0 ∷ [] ++ rest) in
      let far : gate + length (entry body ++ 0 ∷ []) ≡ gate + 1 + length piece = omega (arith, ap length is.is) in
      let at_once : put gate (entry body ++ 0 ∷ []) (files file) ≡ front kind bodies ++ 1 ∷ (counted body ++ 0 ∷ [] ++ rest) =
      ap (λ (l : List ℕ). put gate (entry body ++ 0 ∷ []) l) log.is
      ∙ ap (λ (l : List ℕ). l ++ ((entry body ++ 0 ∷ []) ++ drop (gate + length (entry body ++ 0 ∷ [])) (front kind bodies ++ log.gate ∷ log.behind))) (take_front (front kind bodies) gate at (log.gate ∷ log.behind))
      ∙ ap (λ (n : ℕ). front kind bodies ++ ((entry body ++ 0 ∷ []) ++ drop n (front kind bodies ++ log.gate ∷ log.behind))) far in
      opened_gate ∙ sym at_once
