-- Entries of files, and the world that begins from them.
use Rattle.std.proofs.Common.{◌≡◌, inl, inr, ℕ, ◌<◌, max, true, false, eqb, nat_eq, List, [], ◌∷◌, refl, sym, ap, subst, arith}
use Rattle.std.specs.List.{AllByRecursion}
use Rattle.std.specs.Option.{unwrap_or}
use Rattle.std.specs.Set.{is_member}
use Rattle.std.proofs.lemmas.Bool.{eqb-true}
use Rattle.coco_node.specs.declared.machine.Decision.TheVariants.{Unknown}
use Rattle.coco_node.specs.Node.{Node, greatest}
use Rattle.coco_chief.specs.Chief.{has}
use Rattle.coco_world.specs.Laws.{EntriesBegin, GreatestDecides}
use Rattle.coco_world.proofs.Tools.{has-cases, has-more, has-new, not_both, or_cases}

has_so : (xs : List ℕ) (e : ℕ) → is_member nat_eq xs e ≡ true → has xs e ≡ true
has_so [] e there = there
has_so (x ∷ xs) e there = elim (or_cases (eqb e x) (is_member nat_eq xs e) there) [
  | inl t ↦ subst (λ (k : ℕ). has (x ∷ xs) k ≡ true) (sym (eqb-true e x t)) (has-new xs x)
  | inr t ↦ has-more xs x e (has_so xs e t)
]

has_all : (P : ℕ → Type 0) (xs : List ℕ) (e : ℕ) → AllByRecursion P xs → has xs e ≡ true → P e
has_all P [] e all there = absurd (not_both false there refl)
has_all P (x ∷ xs) e all there = elim (has-cases xs x e there) [ inl same ↦ subst P same all.0 | inr more ↦ has_all P xs e all.1 more ]

pub entries_begin : EntriesBegin
entries_begin count next prepared commits readied below committed = (
  λ e n there less. has_so (prepared n) e (has_all (λ x. is_member nat_eq (prepared n) x ≡ true) commits e (readied n less) there),
  record {
    begun = λ e none. absurd (not_both false none refl);
    prepared = λ n e less there. has_all (λ x. x < next) (prepared n) e (below n less) there;
    committed = λ e there. has_all (λ x. x < next) commits e committed there;
  },
)

pub greatest_decides : GreatestDecides
greatest_decides number epochs lost =
    let same : max (greatest epochs) 0 ≡ greatest epochs = omega arith in
    ap (λ (durable : ℕ). record { number = number; durable = durable; decision = Unknown; forcing = 0; lost = unwrap_or lost 0 }) same
