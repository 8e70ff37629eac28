-- A node that is silent though it was reminded.
use Rattle.std.proofs.Common.{◌≡◌, ℕ, ◌<◌, ◌^◌, Bool, true, false, List, ◌++◌, length, drop, refl, sym, ap, subst, ◌∙◌, arith, append_assoc}
use Rattle.std.specs.Bool.{MatchBool}
use Rattle.std.specs.List.{Contains}
use Rattle.coco_ship.proofs.DeliverLemmas.{drop_all}
use Rattle.std.proofs.lemmas.List.Elements.{Contains-append_right}
use Rattle.coco_chief.specs.Chief.{Chief}
use Rattle.coco_finish.specs.Exchanges.{commit_of, HaveAllFinished, IsSilent}
use Rattle.coco_finish.specs.Finishing.{finished_of}
use Rattle.coco_letters.specs.GivingUp.{since, Awaits}
use Rattle.coco_letters.specs.Telling.{Adds, IsOfChief}
use Rattle.coco_msg.specs.declared.message.Message.TheVariants.{Commit, Finished}
use Rattle.coco_net.specs.declared.letter.Posted.{Posted}

module _ (e : ℕ) (chief : Chief) (sent between sent_new given given_mid given_new : List Posted) (f g h : ℕ) (adds : Adds IsOfChief sent between) (same : given_mid ≡ given) (still : g ≡ f) where
  silent_first : IsSilent e chief between given_mid sent_new given_new g h → IsSilent e chief sent given sent_new given_new f h
  silent_first so = record {
    silent = record {
      one = so.silent.one;
      asks = record {
        posts = adds.posts ++ so.silent.asks.posts;
        sent_is = so.silent.asks.sent_is ∙ ap (λ (ps : List Posted). ps ++ so.silent.asks.posts) adds.sent_is ∙ append_assoc sent adds.posts so.silent.asks.posts;
        asked = λ n lt down. Contains-append_right adds.posts so.silent.asks.posts (commit_of n e) (so.silent.asks.asked n lt down);
      };
      lost = (let lost = so.silent.lost in omega (arith, lost, still));
    };
    more = so.more;
    given_is = so.given_is ∙ ap (λ (ps : List Posted). ps ++ so.more) same;
    not_given = so.not_given;
  }

  -- since the coordinator's letters went out, and so since before them
  pub silent_since : (all : Bool) → MatchBool all (HaveAllFinished chief) (IsSilent e chief between given_mid sent_new given_new g h) → MatchBool all (HaveAllFinished chief) (IsSilent e chief sent given sent_new given_new f h)
  silent_since true so = so
  silent_since false so = silent_first so

since_is : (old new more : List Posted) → new ≡ old ++ more → since old new ≡ more
since_is old new more is = ap (λ (ps : List Posted). drop (length old) ps) is ∙ drop_all old more

not_false : {X : Type 0} → ◌≡◌ {A = Bool} true false → X
not_false is = absurd cc

-- its word is awaited
pub silent_awaits : (all : Bool) (e : ℕ) (chief : Chief) (sent given sent_new given_new : List Posted) (f h : ℕ) → e < 2 ^ 64 → MatchBool all (HaveAllFinished chief) (IsSilent e chief sent given sent_new given_new f h) → all ≡ false
    → Awaits (since sent sent_new) (since given given_new)
silent_awaits true e chief sent given sent_new given_new f h fits so is = not_false is
silent_awaits false e chief sent given sent_new given_new f h fits so is = record {
  asker = 8;
  asked = so.silent.one.node;
  question = Commit e;
  answer = Finished e;
  waits = refl;
  is = fits;
  was_sent = subst (λ (ps : List Posted). Contains ps (commit_of so.silent.one.node e)) (sym (since_is sent sent_new so.silent.asks.posts so.silent.asks.sent_is)) (so.silent.asks.asked so.silent.one.node so.silent.one.within so.silent.one.yet);
  missing = λ among. so.not_given (subst (λ (ps : List Posted). Contains ps (finished_of so.silent.one.node e)) (since_is given given_new so.more so.given_is) among);
}
