-- Copies that haven't answered, as what is waited for.
use Rattle.std.proofs.Common.{ℕ, suc, List, refl, sym, subst}
use Rattle.std.specs.List.{Contains}
use Rattle.std.proofs.lemmas.List.Elements.{Contains-append_right}
use Rattle.coco_letters.specs.GivingUp.{Awaits}
use Rattle.coco_msg.specs.declared.message.Message.TheVariants.{All, Total}
use Rattle.coco_net.specs.declared.letter.Posted.{Posted}
use Rattle.coco_ship.specs.Exchanges.{AreExchanges, AreOwersAsked}
use Rattle.coco_ship.specs.Placing.{holder_of, primary_of}
use Rattle.coco_ship.specs.Shipping.{IsSilent}
use Rattle.coco_ship.specs.declared.ring.Ring.{Ring}

-- what was asked in the last of so many exchanges was sent in all
last_asked : (n : ℕ) (Asks : List Posted → Type 0) (sent : List Posted) (faults faults_new : ℕ) → AreExchanges (suc n) Asks sent faults faults_new → (last : List Posted) × Asks last × ((p : Posted) → Contains last p → Contains sent p)
last_asked n Asks sent faults faults_new ex = (ex.1, ex.4, λ p among. subst (λ (ps : List Posted). Contains ps p) (sym ex.3) (Contains-append_right ex.0 ex.1 p among))

-- the All of a copy that owes it is waited for
pub silent_awaits : (ring : Ring) (epoch : ℕ) (sent given : List Posted) (faults faults_new node : ℕ) → IsSilent ring epoch sent given faults faults_new node → Awaits sent given
silent_awaits ring epoch sent given faults faults_new node silent =
    let last = last_asked 15 (AreOwersAsked ring epoch given) sent faults faults_new silent.exchanges in
    let owes = silent.owes in
    let asked = last.1 owes.p owes.j owes.is_copy owes.lacks in
    record {
      asker = primary_of ring owes.p;
      asked = holder_of ring owes.p owes.j;
      question = Total epoch owes.p asked.0;
      answer = All epoch owes.p;
      waits = refl;
      is = asked.2;
      was_sent = last.2 _ asked.1;
      missing = owes.lacks;
    }
