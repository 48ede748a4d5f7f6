-- A word by long division: after d digits the word holds them, and the rest is what is left to divide.
-- Assumes nothing.
use mathlib.Core.Path.{◌≡◌, sym, ap, ◌∙◌}
use Prim.Native.Nat.{ℕ, suc, ◌+◌, ◌*◌, ◌/◌, ◌^◌, ◌≤◌, ◌<◌}
use native.Mathlib.Numerals.{add-one}
use native.Mathlib.Omega.{arith}
use lib.Pow.{pow_mono}
use Rattle.definitions.specs.Polynomial.{degree, rem}
use Rattle.definitions.specs.Points.{leading, word_digits}
use Rattle.polynomial_laws.specs.Degree.{HasDegree, degree_unique, positive}
use Rattle.polynomial_laws.specs.Division.{rem_lt}
use Rattle.polynomial_laws.specs.Leading.{leading_none, leading_more, leading_lt, rest_none, rest_more}

-- Long division of y by p after d digits of the word.
pub record Divided (p y d word rest : ℕ) : Type 0 where
  pub place : d ≤ word_digits
  pub found : word ≡ leading p d y
  pub left : rest ≡ rem (y * 2 ^ d) p

module _ (m p : ℕ) (h : HasDegree p m) (y : ℕ) (residue : y < 2 ^ m) where
  same : degree p ≡ m
  same = degree_unique p m h

  small : y < 2 ^ degree p
  small = rw same residue

  pub divided_start : Divided p y 0 0 y
  divided_start = record {
    place = omega arith;
    found = sym (leading_none p (positive h) y small);
    left = sym (rest_none p (positive h) y small);
  }

  module _ {d word rest : ℕ} (at : Divided p y d word rest) where
    pub rest_lt : rest < 2 ^ m
    rest_lt = rw (at.left, ← same) (rem_lt p (positive h) (y * 2 ^ d))

    next_word : word * 2 + rest * 2 / 2 ^ m ≡ leading p (suc d) y
    next_word =
        let digit : rest * 2 / 2 ^ m ≡ 2 * rem (y * 2 ^ d) p / 2 ^ degree p = rw (same, at.left) (ap (λ (a : ℕ). a / 2 ^ m) (omega arith)) in
        omega (arith, digit, at.found, leading_more p d y)

    pub next_fits : d < word_digits → word * 2 + rest * 2 / 2 ^ m < 2 ^ word_digits
    next_fits l = omega (arith, next_word, leading_lt p (positive h) y small (suc d), pow_mono {i = suc d} {j = word_digits} l)

    pub divided_more : {next : ℕ} → d < word_digits → next ≡ rem (2 * rest) p → Divided p y (d + 1) (word * 2 + rest * 2 / 2 ^ m) next
    divided_more l e = rw add-one (record {
      place = l;
      found = next_word;
      left = e ∙ ap (λ (r : ℕ). rem (2 * r) p) at.left ∙ sym (rest_more p (positive h) d y);
    })

    pub divided_end : word_digits ≤ d → word ≡ leading p word_digits y
    divided_end l =
        let done : d ≡ word_digits = omega (arith, at.place) in
        rw done at at.found
