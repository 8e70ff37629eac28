-- Two requests more by three words more.
use Rattle.std.proofs.Common.{◌≡◌, ℕ, suc, ◌+◌, ◌*◌, ◌/◌, ◌%◌, ◌==◌, ◌≤◌, ℤ, pos, neg_ℤ, List, [], ◌∷◌, ◌++◌, map, take, refl, sym, ap, ◌∙◌, arith, to_z, of_z, w64}
use Rattle.std.specs.List.{range_with_len}
use Rattle.std.specs.Prelude.{if◌then◌else◌}
use Rattle.std.proofs.lemmas.Int.{ints}
use Rattle.std.proofs.lemmas.List.FromFn.{map-range_with_len_more, take-map-range_with_len}
use Rattle.rand_pcg.specs.Lcg.{Lcg}
use Rattle.rand_pcg.specs.Pcg.{pcg32}
use Rattle.coco_types.specs.declared.call.Request.{Request}
use Rattle.coco_gen.specs.Workload.{generator_of, request_at, request_of, word_at, words_from, workload_of}

-- ---- words

pub next_words : (g : Lcg) (n m : ℕ) → n + 1 ≡ m → (pcg32 (words_from n g)).1 ≡ words_from m g
unfolding words_from
next_words g n m e = let one : suc n ≡ m = omega (arith, e) in ap (λ k. words_from k g) one

pub word-at : (seed n : ℕ) → (pcg32 (words_from n (generator_of seed))).0 ≡ word_at seed n
unfolding word_at
word-at seed n = refl

pub no_words : (g : Lcg) → g ≡ words_from 0 g
unfolding words_from
no_words g = refl

-- ---- amounts, as they are passed

pub added : (k : ℕ) (z : ℤ) → k ≤ 1000 → z ≡ pos k → to_z w64 (of_z w64 z) ≡ pos k
added k z few is = omega (arith, ints, few, is)

pub taken : (k : ℕ) (z : ℤ) → k ≤ 1000 → z ≡ neg_ℤ (pos k) → to_z w64 (of_z w64 z) ≡ neg_ℤ (pos k)
taken k z few is = omega (arith, ints, few, is)

-- ---- pairs

half-even : (p : ℕ) → 2 * p / 2 ≡ p
half-even p = omega arith

half-odd : (p : ℕ) → (2 * p + 1) / 2 ≡ p
half-odd p = omega arith

rest-even : (p : ℕ) → 2 * p % 2 ≡ 0
rest-even p = omega arith

rest-odd : (p : ℕ) → (2 * p + 1) % 2 ≡ 1
rest-odd p = omega arith

module _ (seed : ℕ) where
  -- a request by its place, the number of its pair, and which of the two it is
  abbrev pub request_in : ℕ → ℕ → ℕ → Request
  request_in place pair rest =
      let id = seed * 1048576 + place + 1 in
      let amount = pos (word_at seed (3 * pair + 1) % 1000 + 1) in
      if rest == 0 then request_of id (word_at seed (3 * pair) % 1000) amount else request_of id (word_at seed (3 * pair + 2) % 1000) (neg_ℤ amount)

  first : (p : ℕ) → request_in (2 * p) p 0 ≡ request_at seed (2 * p)
  first p = λ i. request_in (2 * p) (sym (half-even p) i) (sym (rest-even p) i)

  second : (p : ℕ) → request_in (2 * p + 1) p 1 ≡ request_at seed (2 * p + 1)
  second p = λ i. request_in (2 * p + 1) (sym (half-odd p) i) (sym (rest-odd p) i)

  pub is_first : (p id row : ℕ) (amount : ℤ) (r : Request) → r ≡ request_of id row amount → id ≡ seed * 1048576 + 2 * p + 1 → row ≡ word_at seed (3 * p) % 1000
      → amount ≡ pos (word_at seed (3 * p + 1) % 1000 + 1) → r ≡ request_in (2 * p) p 0
  is_first p id row amount r is ids rows amounts = is ∙ (λ i. request_of (ids i) (rows i) (amounts i))

  pub is_second : (p id row : ℕ) (amount : ℤ) (r : Request) → r ≡ request_of (id + 1) row amount → id ≡ seed * 1048576 + 2 * p + 1 → row ≡ word_at seed (3 * p + 2) % 1000
      → amount ≡ neg_ℤ (pos (word_at seed (3 * p + 1) % 1000 + 1)) → r ≡ request_in (2 * p + 1) p 1
  is_second p id row amount r is ids rows amounts =
      let next : id + 1 ≡ seed * 1048576 + (2 * p + 1) + 1 = omega (arith, ids) in
      is ∙ (λ i. request_of (next i) (rows i) (amounts i))

  pub two_more : (p : ℕ) (xs : List Request) (one two : Request) → xs ≡ map (request_at seed) (range_with_len 0 (2 * p)) → one ≡ request_in (2 * p) p 0 → two ≡ request_in (2 * p + 1) p 1
      → (xs ++ one ∷ []) ++ two ∷ [] ≡ map (request_at seed) (range_with_len 0 (2 * (p + 1)))
  two_more p xs one two are one_is two_is =
      let f = request_at seed in
      let same : 2 * p + 1 + 1 ≡ 2 * (p + 1) = omega arith in
      let start : 0 + 2 * p ≡ 2 * p = omega arith in
      let next : 0 + (2 * p + 1) ≡ 2 * p + 1 = omega arith in
      (λ i. (are i ++ (one_is ∙ first p) i ∷ []) ++ (two_is ∙ second p) i ∷ [])
      ∙ ap (λ l. l ++ f (2 * p + 1) ∷ []) (sym (map-range_with_len_more f 0 (2 * p) (2 * p) start))
      ∙ sym (map-range_with_len_more f 0 (2 * p + 1) (2 * p + 1) next)
      ∙ ap (λ n. map f (range_with_len 0 n)) same

  pub first_calls : (calls pairs : ℕ) (xs : List Request) → pairs ≡ (calls + 1) / 2 → xs ≡ map (request_at seed) (range_with_len 0 (2 * pairs)) → take calls xs ≡ workload_of calls seed
  first_calls calls pairs xs half are = ap (take calls) are ∙ take-map-range_with_len (request_at seed) 0 (2 * pairs) calls (omega (arith, half))
