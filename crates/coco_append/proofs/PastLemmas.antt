-- What is gained by steps of which the first ones change only files that don't matter, and the last one is an append.
use Rattle.std.proofs.Common.{◌≡◌, inl, inr, ⊎_elim, ℕ, true, false, List, Option, Result, Err, sym, subst, ◌∙◌}
use Rattle.std.specs.Prelude.{OnOk}
use Rattle.coco_entry.specs.Layouts.{is_named}
use Rattle.coco_host.specs.Files.{Files}
use Rattle.coco_host.specs.Moments.{Observation, SeesOnly}
use Rattle.coco_host.specs.declared.host.Host.{Ghosts as HostGhosts}
use Rattle.coco_log.specs.Changes.{ChangesNamed, ChangesOnly, SameBesides}
use Rattle.coco_log.specs.Grammar.{IsLog}
use Rattle.coco_log.proofs.Appends.{told_on}
use Rattle.coco_log.proofs.OnlyRead.{sees_then, sees_weaker}
use Rattle.coco_store.specs.Contents.{Contents, IsGoodStore}
use Rattle.coco_store.specs.Entries.{files_of}
use Rattle.coco_store.specs.Laws.{KeepAllLogs}
use Rattle.coco_store.proofs.Keeping.{store_kept}
use Rattle.coco_append.specs.Gaining.{GainsAs, HasLogsOf, RestsAs, ShowsAs}
use Rattle.coco_append.proofs.GainLemmas.{on_ok}

-- files that differ in files alone which a layout doesn't name keep its logs
pub logs_besides : (named files : List ℕ) (old new : Files) → ((n : ℕ) → is_named files n ≡ true → is_named named n ≡ false) → SameBesides named old new
    → (n : ℕ) → is_named files n ≡ true → (kind : ℕ) (bodies : List (List ℕ)) → IsLog kind bodies (old n) → IsLog kind bodies (new n)
logs_besides named files old new free same n is kind bodies log = subst (λ (l : List ℕ). IsLog kind bodies l) (sym (same n (free n is))) log

-- so they stay a good store
pub store_besides : (named : List ℕ) (c : Contents) (old new : Files) → ((n : ℕ) → is_named (files_of c.setting.entry) n ≡ true → is_named named n ≡ false) → SameBesides named old new
    → IsGoodStore old c → IsGoodStore new c
store_besides named c old new free same good = store_kept old new c (logs_besides named (files_of c.setting.entry) old new free same) good

-- where a host rests on such files, and a change of those named leaves them such
module _ {H : Type 0} (frame : HostGhosts H)
    (named : List ℕ) (Such : Files → Type 0) (still : (old new : Files) → SameBesides named old new → Such old → Such new)
    (first mid : H) (rests : RestsAs Such (frame.reads first) (frame.may_leave first)) (changes : ChangesOnly frame named first mid) where
  -- it rests on such ones after a call that changed no others
  pub rests_past : RestsAs Such (frame.reads mid) (frame.may_leave mid)
  rests_past =
      let later = told_on (SameBesides named) (frame.reads first) (frame.reads mid) rests.files rests.are changes.files in
      record {
        files = later.0;
        are = later.1;
        good = still rests.files later.0 later.2 rests.good;
        left = λ image left. let from = changes.crash image left in still from.0 image from.2 (rests.left from.0 from.1);
      }

  -- and such ones are seen meanwhile
  pub sees_past : (Now : Files → Type 0) → SeesOnly frame.moment frame.observed first mid (ShowsAs Such Now (frame.said first))
  sees_past Now =
      sees_weaker frame.moment frame.observed first mid (ChangesNamed named (frame.may_leave first) (frame.said first)) (ShowsAs Such Now (frame.said first))
      (λ seen shows. record { store = inl (still shows.before seen.image shows.others (rests.left shows.before shows.was_left)); said = shows.said }) (changes.moments rests.files rests.are)

  -- the last step failed before it began
  pub nothing_gained_past : {T E : Type 0} (result : Result T E) (Now : Files → Type 0) (fault : E) → result ≡ Err fault → GainsAs frame result Such Now first mid
  nothing_gained_past result Now fault is = record {
    ok = subst (λ (r : Result _ _). OnOk r (RestsAs Now (frame.reads mid) (frame.may_leave mid))) (sym is) tt;
    moments = sees_past Now;
    left = λ bytes spoke image left. inl (rests_past.left image left);
  }

  -- the last step
  pub gained_past : {T E : Type 0} (result : Result T E) (Now : Files → Type 0) (new : H) → GainsAs frame result Such Now mid new
      → GainsAs frame result Such Now first new
  gained_past result Now new gains = record {
    ok = gains.ok;
    moments = sees_then frame.moment frame.observed first mid new (ShowsAs Such Now (frame.said first)) (ShowsAs Such Now (frame.said mid)) (sees_past Now) gains.moments
        (λ seen shows. record { store = shows.store; said = sym changes.quiet ∙ shows.said });
    left = λ bytes spoke image left. gains.left bytes (changes.quiet ∙ spoke) image left;
  }

-- what is gained, in fewer words
pub gains_weaker : {T E H : Type 0} (frame : HostGhosts H)
    (result : Result T E) (Was Now Such Then : Files → Type 0) (old new : H) → ((files : Files) → Was files → Such files) → ((files : Files) → Now files → Then files)
    → GainsAs frame result Was Now old new → GainsAs frame result Such Then old new
gains_weaker frame result Was Now Such Then old new such then gains = record {
  ok = on_ok result _ _ (λ rests. record { files = rests.files; are = rests.are; good = then rests.files rests.good; left = λ image left. then image (rests.left image left) }) gains.ok;
  moments = sees_weaker frame.moment frame.observed old new (ShowsAs Was Now (frame.said old)) (ShowsAs Such Then (frame.said old))
      (λ seen shows. record { store = ⊎_elim (λ was. inl (such seen.image was)) (λ now. inr (then seen.image now)) shows.store; said = shows.said }) gains.moments;
  left = λ bytes spoke image left. ⊎_elim (λ was. inl (such image was)) (λ now. inr (then image now)) (gains.left bytes spoke image left);
}

-- such files stay such ones as long as their logs do
pub such_of_logs : (Such left : Files → Type 0) → ((old new : Files) → KeepAllLogs old new → Such old → Such new) → ((image : Files) → left image → Such image) → (files : Files) → HasLogsOf left files → Such files
such_of_logs Such left still are files has = still has.0 files has.2 (are has.0 has.1)
