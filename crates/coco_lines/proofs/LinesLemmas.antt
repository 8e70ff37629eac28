-- The lines of a text, by those that stand first in it.
use Rattle.std.proofs.Common.{◌≡◌, ℕ, ◌<◌, List, [], ◌∷◌, ◌++◌, length, Bool, false, true, refl, sym, ap, ◌∙◌, arith, append_assoc, append-nil}
use Rattle.std.proofs.lemmas.Bool.Decides.{nat_tests}
use Rattle.std.proofs.lemmas.List.Splits.{slice_split_none, slice_split_at, length-slice_split}
use Rattle.std.specs.Prelude.{◌==◌, nat_eq}
use Rattle.std.specs.List.{slice_split}
use Rattle.std.specs.List.{AllByRecursion}
use Rattle.coco_lines.specs.Lines.{Line, without_empty_last, without_last, lines_of, ended_lines_of}
use Rattle.coco_lines.specs.Reads.{HasNoFeed, fed, IsFirstLine, Fed, Last, AreFirstLines, AllFed, LastEnded}

pub lines_of-nil : lines_of [] ≡ []
unfolding lines_of
lines_of-nil = refl

without_more : (x : List ℕ) (parts : List (List ℕ)) → 0 < length parts → without_empty_last (x ∷ parts) ≡ x ∷ without_empty_last parts
without_more x [] some = absurd (omega arith)
without_more x (y ∷ parts) some = refl

-- a line before a line feed
pub lines_of-feed : (line more : List ℕ) → HasNoFeed line → lines_of (line ++ 10 ∷ more) ≡ line ∷ lines_of more
unfolding lines_of
lines_of-feed line more none =
    let feed = λ (b : ℕ). b == 10 in
    let some : 0 < length (slice_split feed more) = omega (arith, length-slice_split feed more) in
    ap without_empty_last (slice_split_at feed line 10 more none refl) ∙ without_more line (slice_split feed more) some

-- the last line, without a line feed
pub lines_of-last : (line : List ℕ) → HasNoFeed line → 0 < length line → lines_of line ≡ line ∷ []
unfolding lines_of
lines_of-last line none some =
    let test : nat_eq (length line) 0 ≡ false = grind (arith, nat_tests) in
    ap without_empty_last (slice_split_none (λ b. b == 10) line none) ∙ rw test

-- ---- lines behind one another

pub lines_of-fed : (ls : List Line) (behind : List ℕ) → AllByRecursion HasNoFeed ls → lines_of (fed ls ++ behind) ≡ ls ++ lines_of behind
lines_of-fed [] behind none = refl
lines_of-fed (l ∷ ls) behind none =
    ap lines_of (append_assoc l (10 ∷ fed ls) behind) ∙ lines_of-feed l (fed ls ++ behind) none.0 ∙ ap (λ xs. l ∷ xs) (lines_of-fed ls behind none.1)

pub lines_of-first : (ls : List Line) (text behind : List ℕ) (ended : Bool) → AreFirstLines ls text behind ended → lines_of text ≡ ls ++ lines_of behind
lines_of-first ls text behind ended (AllFed none is) = ap lines_of is ∙ lines_of-fed ls behind none
lines_of-first ls text behind ended (LastEnded front last none feedless some are is nothing met) =
    ap lines_of is ∙ lines_of-fed front last none ∙ ap (λ xs. front ++ xs) (lines_of-last last feedless some) ∙ sym are ∙ sym (append-nil ls) ∙ ap (λ xs. ls ++ xs) (sym (ap lines_of nothing ∙ lines_of-nil))

without_last-more : (x : Line) (parts : List Line) → 0 < length parts → without_last (x ∷ parts) ≡ x ∷ without_last parts
without_last-more x [] some = absurd (omega arith)
without_last-more x (y ∷ parts) some = refl

ended-feed : (line more : List ℕ) → HasNoFeed line → ended_lines_of (line ++ 10 ∷ more) ≡ line ∷ ended_lines_of more
unfolding ended_lines_of
ended-feed line more none =
    let feed = λ (b : ℕ). b == 10 in
    let some : 0 < length (slice_split feed more) = omega (arith, length-slice_split feed more) in
    ap without_last (slice_split_at feed line 10 more none refl) ∙ without_last-more line (slice_split feed more) some

ended-none : (rest : List ℕ) → HasNoFeed rest → ended_lines_of rest ≡ []
unfolding ended_lines_of
ended-none rest none = ap without_last (slice_split_none (λ b. b == 10) rest none)

-- the lines that end in a byte 10, where none is behind them
pub ended-fed : (ls : List Line) (rest : List ℕ) → AllByRecursion HasNoFeed ls → HasNoFeed rest → ended_lines_of (fed ls ++ rest) ≡ ls
ended-fed [] rest none feedless = ended-none rest feedless
ended-fed (l ∷ ls) rest none feedless =
    ap ended_lines_of (append_assoc l (10 ∷ fed ls) rest) ∙ ended-feed l (fed ls ++ rest) none.0 ∙ ap (λ xs. l ∷ xs) (ended-fed ls rest none.1 feedless)

pub ended-first : (ls : List Line) (text behind : List ℕ) (ended : Bool) → AreFirstLines ls text behind ended → ended ≡ false → HasNoFeed behind → ended_lines_of text ≡ ls
ended-first ls text behind ended (AllFed none is) unmet feedless = ap ended_lines_of is ∙ ended-fed ls behind none feedless
ended-first ls text behind ended (LastEnded front last none without some are is nothing met) unmet feedless = let e : true ≡ false = sym met ∙ unmet in absurd (cc)

-- ---- first lines, and those behind them

fed-append : (xs ys : List Line) → fed (xs ++ ys) ≡ fed xs ++ fed ys
fed-append [] ys = refl
fed-append (x ∷ xs) ys = ap (λ t. x ++ 10 ∷ t) (fed-append xs ys) ∙ sym (append_assoc x (10 ∷ fed xs) (fed ys))

all_both : (xs ys : List Line) → AllByRecursion HasNoFeed xs → AllByRecursion HasNoFeed ys → AllByRecursion HasNoFeed (xs ++ ys)
all_both [] ys here there = there
all_both (x ∷ xs) ys here there = (here.0, all_both xs ys here.1 there)

behind_fed : (xs ys : List Line) (text pending more behind : List ℕ) → text ≡ fed xs ++ pending → pending ++ more ≡ fed ys ++ behind → text ++ more ≡ fed (xs ++ ys) ++ behind
behind_fed xs ys text pending more behind first then =
    ap (λ t. t ++ more) first ∙ append_assoc (fed xs) pending more ∙ ap (λ t. fed xs ++ t) then ∙ sym (append_assoc (fed xs) (fed ys) behind) ∙ ap (λ t. t ++ behind) (sym (fed-append xs ys))

nothing_first : (ys : List Line) (behind : List ℕ) → [] ≡ fed ys ++ behind → (ys ≡ []) × (behind ≡ [])
nothing_first [] behind e = (refl, sym e)
nothing_first ([] ∷ ys) behind e = let f : [] ≡ 10 ∷ (fed ys ++ behind) = e in cc
nothing_first ((b ∷ l) ∷ ys) behind e = let f : [] ≡ b ∷ ((l ++ 10 ∷ fed ys) ++ behind) = e in cc

no_front : (front : List Line) (last : Line) → [] ≡ fed front ++ last → 0 < length last → ⊥
no_front front last e some = let none = nothing_first front last e in omega (arith, ap (length {A = ℕ}) none.1)

-- where no byte came, there is no line more
none_more : (xs ys : List Line) (text text' behind : List ℕ) (ended : Bool) → AreFirstLines ys text' behind ended → text' ≡ [] → (front : List Line) (last : Line) → AllByRecursion HasNoFeed front → HasNoFeed last
    → 0 < length last → xs ≡ front ++ last ∷ [] → text ≡ fed front ++ last → ended ≡ true → AreFirstLines (xs ++ ys) text behind ended
none_more xs ys text text' behind ended (AllFed none is) empty front last all feedless some are texts met =
    let nothing = nothing_first ys behind (sym empty ∙ is) in
    LastEnded front last all feedless some (ap (λ l. xs ++ l) nothing.0 ∙ append-nil xs ∙ are) texts nothing.1 met
none_more xs ys text text' behind ended (LastEnded front' last' none' no' some' are' is' nothing' met') empty front last all feedless some are texts met = absurd (no_front front' last' (sym empty ∙ is') some')

-- the first lines of a text, and those behind them when more bytes came
pub first_both : (xs ys : List Line) (text pending more behind : List ℕ) (before after : Bool) → AreFirstLines xs text pending before → AreFirstLines ys (pending ++ more) behind after
    → (before ≡ true → (more ≡ []) × (after ≡ true)) → AreFirstLines (xs ++ ys) (text ++ more) behind after
first_both xs ys text pending more behind before after (AllFed none is) (AllFed none' is') still = AllFed (all_both xs ys none none') (behind_fed xs ys text pending more behind is is')
first_both xs ys text pending more behind before after (AllFed none is) (LastEnded front last all feedless some are is' nothing met) still =
    LastEnded (xs ++ front) last (all_both xs front none all) feedless some (ap (λ l. xs ++ l) are ∙ sym (append_assoc xs front (last ∷ [])))
    (behind_fed xs front text pending more last is is') nothing met
first_both xs ys text pending more behind before after (LastEnded front last all feedless some are is nothing met) then still =
    let none = still met in
    let empty : pending ++ more ≡ [] = ap (λ p. p ++ more) nothing ∙ none.0 in
    let same : text ++ more ≡ fed front ++ last = ap (λ m. text ++ m) none.0 ∙ append-nil text ∙ is in
    none_more xs ys (text ++ more) (pending ++ more) behind after then empty front last all feedless some are same none.1

-- a line as a list of one
pub one_first : (l : Line) (text behind : List ℕ) (ended : Bool) → IsFirstLine l text behind ended → AreFirstLines (l ∷ []) text behind ended
one_first l text behind ended (Fed none is) = AllFed (none, tt) (is ∙ sym (append_assoc l (10 ∷ []) behind))
one_first l text behind ended (Last none some is nothing met) = LastEnded [] l tt none some refl is nothing met

pub none_first : (text behind : List ℕ) (ended : Bool) → text ≡ behind → AreFirstLines [] text behind ended
none_first text behind ended is = AllFed tt is
