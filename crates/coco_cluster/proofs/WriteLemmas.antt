-- Which files are written, from call to call.
use Rattle.std.proofs.Common.{◌≡◌, ◌==◌, ◌||◌, ℕ, ◌<◌, ◌≤◌, length, ap, Bool, true, false, List, Option, Some, None, refl, sym, subst, ◌∙◌, arith}
use Rattle.std.specs.List.{list_any, slice_get}
use Rattle.std.proofs.lemmas.List.Folds.{list_any_at}
use Rattle.std.proofs.lemmas.Option.{slice_get_within}
use Rattle.std.proofs.lemmas.Bool.Decides.{nat_tests}
use Rattle.std.proofs.lemmas.Bool.{or_left, or_right}
use Rattle.coco_host.specs.Files.{Files, Become, Follows, NoMore}
use Rattle.coco_log.specs.Changes.{SameBesides}
use Rattle.coco_log.specs.LogState.{SameBut}
use Rattle.coco_log.proofs.Changing.{become_wider, besides_one}
use Rattle.coco_letters.specs.declared.voter.Voter.{Voter}
use Rattle.coco_store.specs.Contents.{Contents, chief_of, file_of}
use Rattle.coco_store.specs.Rules.{Setting}
use Rattle.coco_vote.specs.Taking.{HaveLogs, SameElsewhere}
use Rattle.coco_cluster.specs.Writing.{WritesLogs, written_files}

become_then : (named : List ℕ) (a b c : Option Files) → Become (SameBesides named) a b → Become (SameBesides named) b c → Become (SameBesides named) a c
become_then named None b c one two = subst (λ (o : Option Files). Become (SameBesides named) o c) one two
become_then named (Some files) b c one two =
    let later : Become (SameBesides named) (Some one.0) c = subst (λ (o : Option Files). Become (SameBesides named) o c) one.1 two in
    (later.0, later.1, λ n out. later.2 n out ∙ one.2 n out)

become_same : (named : List ℕ) (a b : Option Files) → b ≡ a → Become (SameBesides named) a b
become_same named None b same = same
become_same named (Some files) b same = (files, same, λ n out. refl)

is_itself : (n : ℕ) → (n == n) ≡ true
is_itself n = grind (arith, nat_tests)

module _ (s : Setting) where
  abbrev named : List ℕ
  named = written_files s

  chief_named : (file : ℕ) → file ≡ chief_of s → list_any (λ n. n == file) named ≡ true
  chief_named file is = subst (λ (f : ℕ). list_any (λ n. n == f) named ≡ true) (sym is) (or_left (chief_of s == chief_of s) _ (is_itself (chief_of s)))

  node_named : (n : ℕ) → n < length s.entry.layout.node_files → list_any (λ f. f == file_of s n) named ≡ true
  node_named n less = or_right (chief_of s == file_of s n) _ (list_any_at (λ f. f == file_of s n) s.entry.layout.node_files n 0 less (is_itself (file_of s n)))

  -- a call that writes one of them
  writes_one : (file : ℕ) (was reads : Option Files) (might leaves : Files → Type 0) → list_any (λ n. n == file) named ≡ true → Become (SameBut file) was reads → Follows (SameBut file) might leaves → WritesLogs s was reads might leaves
  writes_one file was reads might leaves is files crash = record {
    files = become_wider (SameBut file) named was reads (besides_one named file is) files;
    crash = λ c left. let from = crash c left in (from.0, from.1, besides_one named file is from.0 c from.2);
  }

  pub writes_chief : (file : ℕ) (was reads : Option Files) (might leaves : Files → Type 0) → file ≡ chief_of s → Become (SameBut file) was reads → Follows (SameBut file) might leaves → WritesLogs s was reads might leaves
  writes_chief file was reads might leaves is files crash = writes_one file was reads might leaves (chief_named file is) files crash

  -- one that writes into logs of the nodes alone
  elsewhere : (c : Contents) (voters : List Voter) → c.setting ≡ s → HaveLogs c voters → length voters ≤ length s.entry.layout.node_files → (old new : Files) → SameElsewhere voters old new → SameBesides named old new
  elsewhere c voters of logs few old new same n out = same n (λ k voter there is. clash k voter there is)
    where
      clash : (k : ℕ) (voter : Voter) → slice_get voters k ≡ Some voter → n ≡ voter.log.file → ⊥
      clash k voter there is =
          let within = slice_get_within voters k voter there in
          let at : n ≡ file_of s k = is ∙ (logs k voter there).file ∙ ap (λ (t : Setting). file_of t k) of in
          let named_it : list_any (λ f. f == n) named ≡ true = subst (λ (f : ℕ). list_any (λ g. g == f) named ≡ true) (sym at) (node_named k (omega (arith, within, few))) in
          let never_so : true ≡ false = sym named_it ∙ out in
          absurd (cc)

  pub writes_nodes : (c : Contents) (voters : List Voter) → c.setting ≡ s → HaveLogs c voters → length voters ≤ length s.entry.layout.node_files → (was reads : Option Files) (might leaves : Files → Type 0)
      → Become (SameElsewhere voters) was reads → Follows (SameElsewhere voters) might leaves → WritesLogs s was reads might leaves
  writes_nodes c voters of logs few was reads might leaves files crash = record {
    files = become_wider (SameElsewhere voters) named was reads (elsewhere c voters of logs few) files;
    crash = λ image left. let from = crash image left in (from.0, from.1, elsewhere c voters of logs few from.0 image from.2);
  }

  -- one behind another
  pub writes_then : (a b c : Option Files) (left_a left_b left_c : Files → Type 0) → WritesLogs s a b left_a left_b → WritesLogs s b c left_b left_c → WritesLogs s a c left_a left_c
  writes_then a b c left_a left_b left_c one two = record {
    files = become_then named a b c one.files two.files;
    crash = λ image left.
        let later = two.crash image left in
        let from = one.crash later.0 later.1 in
        (from.0, from.1, λ n out. later.2 n out ∙ from.2 n out);
  }

  -- one that writes none
  pub writes_none : (was reads : Option Files) (might leaves : Files → Type 0) → reads ≡ was → NoMore might leaves → WritesLogs s was reads might leaves
  writes_none was reads might leaves same crash = record {
    files = become_same named was reads same;
    crash = λ image left. (image, crash image left, λ n out. refl);
  }
