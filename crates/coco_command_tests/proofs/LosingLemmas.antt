-- A net that carries all letters but one gives what it may.
use Rattle.std.proofs.Common.{◌≡◌, ℕ, List, ◌++◌, sym, subst, inl, inr, ◌⊎◌}
use Rattle.std.specs.List.{All, Contains}
use Rattle.std.proofs.lemmas.List.Elements.{Contains-append_left, Contains-append_right, Contains-append_cases}
use Rattle.coco_net.specs.declared.letter.Letter.{Letter}
use Rattle.coco_net.specs.declared.letter.Posted.{Posted}
use Rattle.coco_net.specs.Giving.{GivesMore}

among_three : (before lost after : List Posted) (x : Posted) → Contains before x ⊎ Contains after x → Contains (before ++ lost ++ after) x
among_three before lost after x (inl among) = Contains-append_left (before ++ lost) after x (Contains-append_left before lost x among)
among_three before lost after x (inr among) = Contains-append_right (before ++ lost) after x among

-- what one net carries is among what another was sent, with some letters between
pub among_more : (sent before lost after : List Posted) → sent ≡ before ++ after → (x : Posted) → Contains sent x → Contains (before ++ lost ++ after) x
among_more sent before lost after are x among =
    among_three before lost after x (Contains-append_cases before after x (subst (λ (ps : List Posted). Contains ps x) are among))

-- a round of the one gives what a round of the other may
pub gives_for : (sent more fresh newest : List Posted) (f g h i : ℕ) (waiting : ℕ → List Letter) (old new : List Posted)
    → ((x : Posted) → Contains sent x → Contains more x) → (i ≡ h → (g ≡ f) × (newest ≡ fresh)) → GivesMore sent fresh f g waiting old new → GivesMore more newest h i waiting old new
gives_for sent more fresh newest f g h i waiting old new within same gives = (
  gives.0,
  gives.1,
  record {
    were_sent = λ k d there. within _ (gives.2.were_sent k d there);
    new_ones = λ stays. subst (All (Contains gives.0)) (sym (same stays).1) (gives.2.new_ones (same stays).0);
    wait = gives.2.wait;
  },
)
