-- Words of a pair. Those from word i on, some and then others, are the others behind the first ones. Of an accepted pair of degree m ≤ 32 the words
-- of the full period are distinct: the states are, and the first m digits of X/p tell the residues X apart. Assumes nothing.
use Rattle.std.specs.Prelude.{◌≡◌, true, length}
use Rattle.std.proofs.Math.Path.{refl, ap}
use Rattle.std.proofs.Common.{◌∙◌, zero-add, add-zero}
use mathlib.Core.List.{List, ◌∷◌, ◌++◌, map, Memᴰ, Nodup}
use Prim.Native.Nat.{ℕ, zero, suc, ◌+◌, ◌^◌, ◌≤◌, ◌<◌}
use Rattle.std.proofs.Math.Nat.{suc-add}
use native.Mathlib.Omega.{arith}
use Rattle.definitions.specs.Number.{numbers}
use Rattle.definitions.specs.Polynomial.{degree}
use Rattle.definitions.specs.Generator.{period, accepted}
use Rattle.definitions.specs.Points.{state, word_digits, word, words}
use Rattle.number_laws.specs.Lists.{numbers_out, numbers_once, map_once}
use Rattle.polynomial_laws.specs.Degree.{HasDegree, positive, degree_unique}
use Rattle.polynomial_laws.specs.Leading.{leading_apart}
use Rattle.order_laws.specs.Accepted.{full_period}

module _ (p q : ℕ) where
  pub length_words : (i n : ℕ) → length (words p q i n) ≡ n
  unfolding words
  length_words i zero = refl
  length_words i (suc n) = ap suc (length_words (suc i) n)

  pub words_append : (i n k : ℕ) → words p q i (n + k) ≡ words p q i n ++ words p q (i + n) k
  unfolding words
  words_append i zero k = rw (zero-add, add-zero)
  words_append i (suc n) k =
      let next : suc i + n ≡ i + suc n = omega arith in
      rw suc-add (ap (λ (l : List ℕ). word p q i ∷ l) (words_append (suc i) n k ∙ rw next))

  words_map : (i n : ℕ) → words p q i n ≡ map (word p q) (numbers i n)
  unfolding words numbers
  words_map i zero = refl
  words_map i (suc n) = ap (λ (l : List ℕ). word p q i ∷ l) (words_map (suc i) n)

module _ (m p q : ℕ) (low : 1 ≤ m) (high : m ≤ word_digits) (d : HasDegree p m) (nonzero : 0 < q) (residue : q < 2 ^ m) (a : accepted m p q ≡ true) where
  pub words_apart : (i j : ℕ) → i < period m → j < period m → word p q i ≡ word p q j → i ≡ j
  unfolding word
  words_apart i j h k same =
      let enough : degree p ≤ word_digits = omega (arith, degree_unique p m d) in
      (full_period m p q low d nonzero residue a).apart i j h k (leading_apart p (positive d) word_digits enough (state p q i) (state p q j) same)

  -- No word of the period comes twice.
  pub words_once : Nodup (words p q 0 (period m))
  words_once = rw words_map (map_once (word p q) (numbers 0 (period m)) (λ i j u v. words_apart i j (below i u) (below j v)) (numbers_once 0 (period m)))
    where
      below : (i : ℕ) → Memᴰ i (numbers 0 (period m)) → i < period m
      below i u = omega (arith, (numbers_out 0 (period m) i u).1)
