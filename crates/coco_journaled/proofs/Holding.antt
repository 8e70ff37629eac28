-- What a note holds, from taking the machine to letting it go.
use Rattle.std.proofs.Common.{◌≡◌, ℕ, ◌<◌, ◌-◌, ◌^◌, List, [], ◌∷◌, ◌++◌, length, Bool, true, Option, Some, refl, sym, ap, ◌∙◌, subst, vec_len, vec_capacity, append-nil, length-append, arith}
use Rattle.std.proofs.lemmas.Option.{same_Some}
use mathlib.Core.List.{IsPrefix}
use Rattle.coco_seen.specs.Notes.{Known, ComesFrom}
use Rattle.coco_journaled.specs.declared.entry.Entry.{Entry}
use Rattle.coco_journaled.specs.declared.guarded.Guarded.{Guarded}
use Rattle.coco_journaled.specs.Holding.{HasAnswered, HasRoom, HasStepped, HasTaken, Holds, IsHeld, SeesMore, entries_in}
use Rattle.coco_journaled.specs.Packing.{unpacked}
use Rattle.coco_journaled.specs.Passes.{IsPassOf, Looks, entry, passing}
use Rattle.coco_journaled.specs.Replay.{Replays}
use Rattle.coco_journaled.proofs.Stepping.{replays_more}

module _ {M P B X Y Z : Type 0} where
  pub has_room : (g : Guarded M P B X Y Z) → vec_len g.journal < vec_capacity g.journal → HasRoom (Some g)
  has_room g room = (g, refl, room)

  pub room_at : (held : Option (Guarded M P B X Y Z)) (g : Guarded M P B X Y Z) → HasRoom held → held ≡ Some g → vec_len g.journal < vec_capacity g.journal
  room_at held g room is = subst (λ (h : Guarded M P B X Y Z). vec_len h.journal < vec_capacity h.journal) (same_Some room.0 g (sym room.1 ∙ is)) room.2

module _ {M Q A P B X Y Z : Type 0} (ask_of : P → Q) (answer_of : B → A) (answer_to : M → Q → A) (state_after : M → Q → M) where
  pub taken_at : (old new : Known (Entry Q A) M) (held : Option (Guarded M P B X Y Z)) (g : Guarded M P B X Y Z) → Holds ask_of answer_of answer_to state_after old new held → held ≡ Some g → HasTaken ask_of answer_of answer_to state_after old new g
  taken_at old new held g h is = subst (HasTaken ask_of answer_of answer_to state_after old new) (same_Some h.0 g (sym h.1 ∙ is)) h.2

  pub holds_it : (old new : Known (Entry Q A) M) (g : Guarded M P B X Y Z) → HasTaken ask_of answer_of answer_to state_after old new g → Holds ask_of answer_of answer_to state_after old new (Some g)
  holds_it old new g t = (g, refl, t)

  -- the journal has got room
  pub with_room : (old new : Known (Entry Q A) M) (g now : Guarded M P B X Y Z) → HasTaken ask_of answer_of answer_to state_after old new g → now.machine ≡ g.machine → now.journal.items ≡ g.journal.items → HasTaken ask_of answer_of answer_to state_after old new now
  with_room old new g now t machine journal =
      let entries : entries_in ask_of answer_of g ≡ entries_in ask_of answer_of now = ap (unpacked ask_of answer_of) (sym journal) in
      let same : g.machine ≡ now.machine = sym machine in
      let having : List (Entry Q A) → Known (Entry Q A) M = λ l. record old { list = l; holds = true } in record {
        note = t.note ∙ ap having entries;
        seen = subst (IsPrefix old.list) entries t.seen;
        root = t.root;
        rooted = t.rooted;
        run = subst (λ (p : List (Entry Q A) × M). Replays answer_to state_after t.root p.0 p.1) (λ i. (entries i, same i)) t.run;
      }

  pub held_now : (old new : Known (Entry Q A) M) (g : Guarded M P B X Y Z) → HasTaken ask_of answer_of answer_to state_after old new g → IsHeld ask_of answer_of answer_to state_after new (Some g)
  held_now old new g t = (ap (λ (k : Known (Entry Q A) M). k.holds) t.note, sym (ap (λ (k : Known (Entry Q A) M). k.list) t.note), (t.root, ap (λ (k : Known (Entry Q A) M). k.root) t.note ∙ t.rooted, t.run))

  pub held_same : (note : Known (Entry Q A) M) (g now : Guarded M P B X Y Z) → IsHeld ask_of answer_of answer_to state_after note (Some g) → now ≡ g → IsHeld ask_of answer_of answer_to state_after note (Some now)
  held_same note g now h same = subst (λ (k : Guarded M P B X Y Z). IsHeld ask_of answer_of answer_to state_after note (Some k)) (sym same) h

  -- a note that took the machine and let it go
  pub sees : (old new gone : Known (Entry Q A) M) (g : Guarded M P B X Y Z) → HasTaken ask_of answer_of answer_to state_after old new g → gone ≡ record new { holds = gone.holds } → SeesMore old gone
  sees old new gone g t lets =
      let go : Known (Entry Q A) M → Known (Entry Q A) M = λ k. record k { holds = gone.holds } in
      let from : List (Entry Q A) → Known (Entry Q A) M = λ l. record old { list = l; holds = gone.holds } in
      (t.seen.0, lets ∙ (ap go t.note ∙ ap from (sym t.seen.1)))

  -- a note that held the machine
  pub had : (note : Known (Entry Q A) M) (held : Option (Guarded M P B X Y Z)) (g : Guarded M P B X Y Z) → IsHeld ask_of answer_of answer_to state_after note held → held ≡ Some g → Holds ask_of answer_of answer_to state_after note note held
  had note held g h is =
      let of_g : IsHeld ask_of answer_of answer_to state_after note (Some g) = subst (IsHeld ask_of answer_of answer_to state_after note) is h in
      let list : note.list ≡ entries_in ask_of answer_of g = sym of_g.1 in
      let holds : note.holds ≡ true = of_g.0 in
      let having : List (Entry Q A) × Bool → Known (Entry Q A) M = λ p. record note { list = p.0; holds = p.1 } in (
        g,
        is,
        record {
          note = ap having (λ i. (list i, holds i));
          seen = ([], append-nil note.list ∙ list);
          root = of_g.2.0;
          rooted = of_g.2.1;
          run = of_g.2.2;
        },
      )

  pub took : (old new : Known (Entry Q A) M) (g : Guarded M P B X Y Z) → new ≡ record old { list = entries_in ask_of answer_of g; holds = true } → IsPrefix old.list (entries_in ask_of answer_of g)
      → ComesFrom (λ root (h : Guarded M P B X Y Z). Replays answer_to state_after root (entries_in ask_of answer_of h) h.machine) old.root g → Holds ask_of answer_of answer_to state_after old new (Some g)
  took old new g note seen from = (g, refl, record { note = note; seen = seen; root = from.0; rooted = from.1; run = from.2 })

  pub stepped : (old note : Known (Entry Q A) M) (g now : Guarded M P B X Y Z) (number : ℕ) (ask : Q) (answer : A) → HasTaken ask_of answer_of answer_to state_after old note g → HasAnswered ask_of answer_of answer_to state_after number ask answer g now
      → HasStepped ask_of answer_of answer_to state_after (entry number ask answer) note (Some now)
  stepped old note g now number ask answer t a =
      let list : entries_in ask_of answer_of g ≡ note.list = sym (ap (λ (k : Known (Entry Q A) M). k.list) t.note) in record {
        guarded = now;
        is = refl;
        holds = ap (λ (k : Known (Entry Q A) M). k.holds) t.note;
        entries = a.entries ∙ ap (λ (l : List (Entry Q A)). l ++ entry number ask answer ∷ []) list;
        root = t.root;
        rooted = ap (λ (k : Known (Entry Q A) M). k.root) t.note ∙ t.rooted;
        run = subst (λ (l : List (Entry Q A)). Replays answer_to state_after t.root l now.machine) (sym a.entries)
            (replays_more answer_to state_after t.root (entries_in ask_of answer_of g) g.machine now.machine number ask answer t.run a.answer_is a.machine_is);
        few = subst (λ (l : List (Entry Q A)). length l < 2 ^ 63 - 1) list a.few;
      }

  pub entered : (e : Entry Q A) (note now : Known (Entry Q A) M) (held : Option (Guarded M P B X Y Z)) (calls : List (ℕ × Entry Q A)) → HasStepped ask_of answer_of answer_to state_after e note held → now ≡ record note { list = note.list ++ e ∷ []; calls = calls }
      → IsHeld ask_of answer_of answer_to state_after now held
  entered e note now held calls s goes =
      subst (IsHeld ask_of answer_of answer_to state_after now) (sym s.is)
      (ap (λ (k : Known (Entry Q A) M). k.holds) goes ∙ s.holds, s.entries ∙ sym (ap (λ (k : Known (Entry Q A) M). k.list) goes), (s.root, ap (λ (k : Known (Entry Q A) M). k.root) goes ∙ s.rooted, s.run))

module _ {M Q A : Type 0} where
  -- a pass whose note has seen entries more
  pub pass_sees : (number : ℕ) (old now : Known (Entry Q A) M) (own kept : List ℕ) → IsPassOf number old own → SeesMore old now → kept ≡ own → IsPassOf number now kept
  pass_sees number old now own kept is sees same =
      let back : record old { list = old.list ++ sees.0; holds = now.holds } ≡ now = sym sees.1 in
      let there : own ≡ kept = sym same in
      subst (λ (p : Known (Entry Q A) M × List ℕ). IsPassOf number p.0 p.1) (λ i. (back i, there i)) record {
        number_is = is.number_is;
        calls_are = is.calls_are;
        places_are = is.places_are;
        before = λ k d below. omega (arith, is.before k d below, length-append old.list sees.0);
        rises = is.rises;
      }

  pub pass_looks : (number : ℕ) (old now : Known (Entry Q A) M) → SeesMore old now → Looks (passing number old) (passing number now)
  pass_looks number old now sees = (sees.0, ap (passing number) sees.1)
