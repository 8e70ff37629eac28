-- Letters of a commit are none of the ship phase, and each letter is of one epoch.
use Rattle.std.proofs.Common.{◌≡◌, inl, inr, ℕ, ◌<◌, ◌≤◌, true, false, List, [], ◌∷◌, refl, sym, ap, subst, ◌∙◌, arith}
use Rattle.std.specs.List.{Contains}
use Rattle.std.proofs.lemmas.List.Elements.{Contains-append_cases}
use Rattle.coco_letters.specs.Saying.{is_of_commit, posted}
use Rattle.coco_letters.specs.Telling.{Adds, IsOfChief, IsOfFinish, IsOfNode, IsOfSettling}
use Rattle.coco_msg.specs.Bytes.{bytes_of}
use Rattle.coco_msg.specs.declared.message.Message.{Message}
use Rattle.coco_msg.specs.declared.message.Message.TheVariants.{Ship, Total, Missing, All, Prepare, Vote, Commit, Finished, Abort, Query, Tell}
use Rattle.coco_net.specs.declared.letter.Posted.{Posted}
use Rattle.coco_node.specs.declared.machine.TheConstants.{COORDINATOR}
use Rattle.coco_ship.specs.Letters.{IsOther}
use Rattle.coco_members.specs.AtRest.{LettersBelow, ShipsBelow}

-- ---- tags

abbrev first : List ℕ → ℕ
first [] = 0
first (x ∷ xs) = x

not_true : {X : Type 0} → false ≡ true → X
not_true h = absurd cc

-- the tags of a commit's messages are above those of the ship phase
late : (m : Message) → is_of_commit m ≡ true → 4 < first (bytes_of m)
late (Ship e p place time writes) is = not_true is
late (Total e p places) is = not_true is
late (Missing e p places) is = not_true is
late (All e p) is = not_true is
late (Prepare e) is = omega arith
late (Vote e vote) is = omega arith
late (Commit e) is = omega arith
late (Finished e) is = omega arith
late (Abort e) is = omega arith
late (Query e) is = omega arith
late (Tell e committed) is = omega arith

early : (m : Message) (tag : ℕ) (rest : List ℕ) → is_of_commit m ≡ true → tag ≤ 4 → bytes_of m ≡ tag ∷ rest → ⊥
early m tag rest is low same = let above : 4 < first (bytes_of m) = late m is in let here : first (bytes_of m) ≡ tag = ap first same in omega (arith, above, here, low)

-- a message with the bytes of a commit's is none of the ship phase
pub other : (epoch : ℕ) (a m : Message) → is_of_commit a ≡ true → bytes_of a ≡ bytes_of m → IsOther epoch m
other epoch a (Ship e p place time writes) is same = absurd (early a 1 _ is (omega arith) same)
other epoch a (Total e p places) is same = absurd (early a 2 _ is (omega arith) same)
other epoch a (Missing e p places) is same = absurd (early a 3 _ is (omega arith) same)
other epoch a (All e p) is same = absurd (early a 4 _ is (omega arith) same)
other epoch a (Prepare e) is same = tt
other epoch a (Vote e vote) is same = tt
other epoch a (Commit e) is same = tt
other epoch a (Finished e) is same = tt
other epoch a (Abort e) is same = tt
other epoch a (Query e) is same = tt
other epoch a (Tell e committed) is same = tt

-- ---- letters of a commit

-- a letter that is a message of a commit
abbrev pub IsCommitLetter : Posted → Type 0
IsCommitLetter p = (a : Message) × (is_of_commit a ≡ true) × (p.letter.bytes ≡ bytes_of a)

bytes_at : (p : Posted) (from to : ℕ) (a : Message) → p ≡ posted from to a → p.letter.bytes ≡ bytes_of a
bytes_at p from to a is = ap (λ (q : Posted). q.letter.bytes) is

pub chief_letter : (p : Posted) → IsOfChief p → IsCommitLetter p
chief_letter p is = (is.message, is.say.commit, bytes_at p COORDINATOR p.to is.message is.is)

node_letter : (a : Message) → is_of_commit a ≡ true → (p : Posted) → IsOfNode a p → IsCommitLetter p
node_letter a commit p is = (a, commit, bytes_at p is.node COORDINATOR a is.is)

pub finish_letter : (epoch : ℕ) (p : Posted) → IsOfFinish epoch p → IsCommitLetter p
finish_letter epoch p (inl is) = chief_letter p is
finish_letter epoch p (inr is) = node_letter (Finished epoch) refl p is

pub settling_letter : (epoch : ℕ) (p : Posted) → IsOfSettling epoch p → IsCommitLetter p
settling_letter epoch p (inl is) = finish_letter epoch p is
settling_letter epoch p (inr is) = node_letter (Query epoch) refl p is

-- where only letters of a commit are sent, the ship phase of an epoch from this one on isn't begun
module _ (Such : Posted → Type 0) (commit : (p : Posted) → Such p → IsCommitLetter p) where
  pub ships_below_with : (next : ℕ) (sent sent_new : List Posted) → Adds Such sent sent_new → ShipsBelow next sent → ShipsBelow next sent_new
  ships_below_with next sent sent_new adds below e from s m there message bytes =
      elim (Contains-append_cases sent adds.posts s (subst (λ (l : List Posted). Contains l s) adds.sent_is there)) [
        | inl old ↦ below e from s m old message bytes
        | inr new ↦ (let is = commit s (adds.such s new) in other e is.0 m is.1 (sym is.2 ∙ bytes))
      ]

pub ships_below_chief : (next : ℕ) (sent sent_new : List Posted) → Adds IsOfChief sent sent_new → ShipsBelow next sent → ShipsBelow next sent_new
ships_below_chief = ships_below_with IsOfChief chief_letter

pub ships_below_finish : (epoch next : ℕ) (sent sent_new : List Posted) → Adds (IsOfFinish epoch) sent sent_new → ShipsBelow next sent → ShipsBelow next sent_new
ships_below_finish epoch = ships_below_with (IsOfFinish epoch) (finish_letter epoch)

pub ships_below_settling : (epoch next : ℕ) (sent sent_new : List Posted) → Adds (IsOfSettling epoch) sent sent_new → ShipsBelow next sent → ShipsBelow next sent_new
ships_below_settling epoch = ships_below_with (IsOfSettling epoch) (settling_letter epoch)

-- ---- later epochs

-- nothing was sent
pub none_below : (next : ℕ) → LettersBelow next []
none_below next = record {
  ships = λ e from s m there. absurd (none s there);
  votes = λ n e vote from fits there. none (posted n COORDINATOR (Vote e vote)) there;
  finished = λ n e from fits there. none (posted n COORDINATOR (Finished e)) there;
}
  where
    none : (s : Posted) → Contains [] s → ⊥
    none s there = let no : there.0 < 0 = there.1 in omega (arith, no)
