-- A table of an additive function f: the entry at base + j is the value at j times a unit. It doubles: the value at n + i is the sum of those at n, a
-- power of two, and at i below it, whose digits do not meet. And the value at a number is the sum of those at its lower and at its upper digits.
-- Assumes nothing.
use Rattle.std.specs.Prelude.{◌≡◌, List, ℕ, zero, suc, ◌+◌, ◌-◌, ◌*◌, ◌/◌, ◌%◌, ◌^◌, ◌≤◌, ◌<◌, get_or}
use Rattle.std.proofs.Common.{sym, ap, ap₂, ◌∙◌, add-zero, add_assoc, mul_assoc, one-mul, zero-mul, mul-le-mul_right, div-add-mod', mod-lt, arith, pow_pos}
use Rattle.std.proofs.Math.Decide.{dec_le}
use Rattle.std.specs.Int.Bits.{xor_shifted}
use Rattle.definitions.specs.Polynomial.{◌⊕◌}
use Rattle.polynomial_laws.specs.Sum.{⊕_def, ⊕_comm}
use Rattle.polynomial_laws.specs.Additive.{Additive, additive_zero}
use Rattle.polynomial_laws.specs.Leading.{shift-⊕}
use Rattle.additive_tables.specs.Spreading.{Spread}

-- The n entries from base on are right, as far as they stand for residues, which are the numbers below lead.
pub record Tabled (f : ℕ → ℕ) (lead unit base n : ℕ) (l : List ℕ) : Type 0 where
  pub right : (j : ℕ) → j < n → j * unit < lead → get_or l (base + j) 0 ≡ f (j * unit)

-- ---- digits that do not meet
-- The upper digits and the lower ones, of which there are k.
apart : (k a b : ℕ) → b < 2 ^ k → b ⊕ a * 2 ^ k ≡ a * 2 ^ k + b
apart k a b small = ⊕_comm b (a * 2 ^ k) ∙ ⊕_def (a * 2 ^ k) b ∙ xor_shifted a k b small

power_apart : (k u i : ℕ) → i < 2 ^ k → i * 2 ^ u ⊕ 2 ^ k * 2 ^ u ≡ (2 ^ k + i) * 2 ^ u
power_apart k u i less = sym (shift-⊕ u i (2 ^ k)) ∙ ap (λ (x : ℕ). x * 2 ^ u) (rw one-mul at (apart k 1 i less))

digits_apart : (k u a : ℕ) → a % 2 ^ k * 2 ^ u ⊕ a / 2 ^ k * (2 ^ k * 2 ^ u) ≡ a * 2 ^ u
digits_apart k u a =
    ap (λ (x : ℕ). a % 2 ^ k * 2 ^ u ⊕ x) (sym (mul_assoc (a / 2 ^ k) (2 ^ k) (2 ^ u)))
    ∙ sym (shift-⊕ u (a % 2 ^ k) (a / 2 ^ k * 2 ^ k))
    ∙ ap (λ (x : ℕ). x * 2 ^ u) (apart k (a / 2 ^ k) (a % 2 ^ k) (mod-lt a (pow_pos k)) ∙ div-add-mod' a (2 ^ k))

-- ---- tables
module _ {f : ℕ → ℕ} {lead unit base : ℕ} where
  pub tabled_beyond : {n : ℕ} {l : List ℕ} (k : ℕ) → lead ≤ n * unit → Tabled f lead unit base n l → Tabled f lead unit base k l
  tabled_beyond {n} {l} k e t = record { right = λ j h b. go j b (dec_le n j) }
    where
      go : (j : ℕ) → j * unit < lead → Dec (n ≤ j) → get_or l (base + j) 0 ≡ f (j * unit)
      go j b (yes more) = absurd (omega (arith, mul-le-mul_right unit more))
      go j b (no less) = t.right j (omega arith) b

  -- entries that stay
  pub tabled_kept : {n : ℕ} {l l' : List ℕ} → ((j : ℕ) → j < base + n → get_or l' j 0 ≡ get_or l j 0) → Tabled f lead unit base n l
      → Tabled f lead unit base n l'
  tabled_kept same t = record { right = λ j h b. same (base + j) (omega arith) ∙ t.right j h b }

module _ (f : ℕ → ℕ) (additive : Additive f) where
  -- The value at the upper and at the lower digits.
  pub split : (k u a : ℕ) → f (a * 2 ^ u) ≡ f (a % 2 ^ k * 2 ^ u) ⊕ f (a / 2 ^ k * (2 ^ k * 2 ^ u))
  split k u a = ap f (sym (digits_apart k u a)) ∙ additive (a % 2 ^ k * 2 ^ u) (a / 2 ^ k * (2 ^ k * 2 ^ u))

  module _ (lead : ℕ) where
    -- 0 at 0, as additive functions are
    pub tabled_start : (unit base : ℕ) {l : List ℕ} → get_or l base 0 ≡ 0 → Tabled f lead unit base 1 l
    tabled_start unit base {l} empty = record { right = right }
      where
        right : (j : ℕ) → j < 1 → j * unit < lead → get_or l (base + j) 0 ≡ f (j * unit)
        right zero h b = rw (add-zero, zero-mul) (empty ∙ sym (additive_zero f additive))
        right (suc j) h b = absurd (omega arith)

    pub tabled_double : (k u : ℕ) {base n unit value : ℕ} → n ≡ 2 ^ k → unit ≡ 2 ^ u → value ≡ f (n * unit) → {l l' : List ℕ}
        → Tabled f lead unit base n l → Spread base n value l l' → Tabled f lead unit base (n * 2) l'
    tabled_double k u {base} {n} {unit} {value} en eu ev {l} {l'} t s = record { right = λ j h b. go j h b (dec_le n j) }
      where
        behind : (i j : ℕ) → i < n → j ≡ n + i → j * unit < lead → get_or l' (base + j) 0 ≡ f (j * unit)
        behind i j less whole b =
            let small : i * unit < lead = omega (arith, mul-le-mul_right {m = i} {n = j} unit (omega arith)) in
            let sum : i * unit ⊕ n * unit ≡ (n + i) * unit = rw (en, eu) (power_apart k u i (rw en at less)) in
            rw whole
            (ap (λ (x : ℕ). get_or l' x 0) (sym (add_assoc base n i))
            ∙ s.back i less
            ∙ sym (⊕_def (get_or l (base + i) 0) value)
            ∙ ap₂ ◌⊕◌ (t.right i less small) ev
            ∙ sym (additive (i * unit) (n * unit))
            ∙ ap f sum)

        go : (j : ℕ) → j < n * 2 → j * unit < lead → Dec (n ≤ j) → get_or l' (base + j) 0 ≡ f (j * unit)
        go j h b (no less) = s.front (base + j) (omega arith) ∙ t.right j (omega arith) b
        go j h b (yes more) = behind (j - n) j (omega arith) (omega arith) b
