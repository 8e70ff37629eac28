-- What a net keeps: the letters sent and given, with their receivers, and those that wait at each place.
use Rattle.std.specs.Prelude.{ℕ, zero, suc, ◌+◌, ◌<◌, ◌≤◌, ◌^◌, ◌==◌, All, List, [], ◌∷◌, ◌++◌, map, Option, None, length, drop, reverse, Bool, false, if◌then◌else◌}
use Rattle.std.specs.List.{cons_option, slice_get, slice_index_or}
use Rattle.std.specs.Coded.{Coded, code_by, coded×, coded_ℕ, coded_list, coded_option}
use Rattle.std.specs.Prelude.{refl}
use Rattle.coco_net.specs.declared.letter.Letter.{Letter}
use Rattle.coco_net.specs.declared.letter.Posted.{Posted}

-- the letters to a place, in order
abbrev pub letters_to : ℕ → List Posted → List Letter
letters_to place [] = []
letters_to place (p ∷ ps) = if p.to == place then p.letter ∷ letters_to place ps else letters_to place ps

-- the letters with these numbers among those sent, in the order of the numbers
abbrev pub picked : List Posted → List ℕ → List Posted
picked sent [] = []
picked sent (n ∷ ns) = cons_option (slice_get sent n) (picked sent ns)

-- a list as it is, or turned round
abbrev pub turned : {X : Type 0} → Bool → List X → List X
turned turns xs = if turns then reverse xs else xs

-- since: how many letters had been sent at the last round
pub record MailState : Type 0 where
  pub sent : List Posted
  pub given : List Posted
  pub since : ℕ
  pub waiting : List (List Letter)
  pub seed : Option ℕ
  pub faults : ℕ

abbrev pub waiting_at : MailState → ℕ → List Letter
waiting_at s place = slice_index_or s.waiting place []

-- the letters sent since the last round
abbrev pub fresh : MailState → List Posted
fresh s = drop s.since s.sent

-- nothing sent, nothing given
abbrev pub no_mail : MailState
no_mail = record { sent = []; given = []; since = 0; waiting = []; seed = None; faults = 0 }

abbrev pub letter_code : Coded Letter
letter_code = code_by (ℕ × List ℕ) (coded× coded_ℕ (coded_list coded_ℕ)) (λ l. (l.from, l.bytes)) (λ p. record { from = p.0; bytes = p.1 }) (λ _. refl)

abbrev pub posted_code : Coded Posted
posted_code = code_by (ℕ × Letter) (coded× coded_ℕ letter_code) (λ p. (p.to, p.letter)) (λ p. record { to = p.0; letter = p.1 }) (λ _. refl)

abbrev pub mail_code : Coded MailState
mail_code =
    code_by (List Posted × (List Posted × (ℕ × (List (List Letter) × (Option ℕ × ℕ)))))
    (coded× (coded_list posted_code) (coded× (coded_list posted_code) (coded× coded_ℕ (coded× (coded_list (coded_list letter_code)) (coded× (coded_option coded_ℕ) coded_ℕ)))))
    (λ s. (s.sent, (s.given, (s.since, (s.waiting, (s.seed, s.faults))))))
    (λ p. record { sent = p.0; given = p.1.0; since = p.1.1.0; waiting = p.1.1.1.0; seed = p.1.1.1.1.0; faults = p.1.1.1.1.1 })
    (λ _. refl)

-- the numbers below n
abbrev pub below : ℕ → List ℕ
below zero = []
below (suc n) = below n ++ n ∷ []

-- the letters at each of the nine places, turned round where the place's test says so
abbrev pub boxed : List Bool → List Posted → List (List Letter)
boxed turns these = map (λ place. turned (slice_index_or turns place false) (letters_to place these)) (below 9)

-- after a round that gives these letters
abbrev pub given_more : MailState → List Posted → List Bool → Bool → MailState
given_more s these turns loses = record s {
  given = s.given ++ these;
  since = length s.sent;
  waiting = boxed turns these;
  faults = (if loses then s.faults + 1 else s.faults);
}

-- no place has more letters than its count can say
abbrev pub IsFew : List (List Letter) → Type 0
IsFew ls = All (λ l. length l < 2 ^ 32) ls

-- The letters counted at the last round are among those sent.
pub record IsKept (sent : List Posted) (since : ℕ) (waiting : List (List Letter)) : Type 0 where
  pub passed : since ≤ length sent
  pub few : IsFew waiting
