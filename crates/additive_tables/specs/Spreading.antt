-- Entries of a list copied behind themselves with a value added, one after the other. Assumes nothing.
use Rattle.std.specs.Prelude.{◌≡◌, refl, List, ℕ, ◌+◌, ◌≤◌, ◌<◌, length, get_or, set}
use Rattle.std.proofs.Common.{ap, ◌∙◌, arith, length-set, get_or-set_same, get_or-set_other}
use Rattle.std.proofs.Math.Decide.{dec_le}
use Rattle.std.specs.Int.Bits.{bit_xor}

-- The first i of the n entries from base on stand, with the value added, behind those n; all else is as it was.
pub record Spreading (base n value i : ℕ) (l l' : List ℕ) : Type 0 where
  pub kept : length l' ≡ length l
  pub front : (j : ℕ) → j < base + n → get_or l' j 0 ≡ get_or l j 0
  pub back : (j : ℕ) → j < i → get_or l' (base + n + j) 0 ≡ bit_xor (get_or l (base + j) 0) value
  pub beyond : (j : ℕ) → base + n + n ≤ j → get_or l' j 0 ≡ get_or l j 0

-- All n of them.
abbrev pub Spread : ℕ → ℕ → ℕ → List ℕ → List ℕ → Type 0
Spread base n value = Spreading base n value n

module _ (base n value : ℕ) (l : List ℕ) where
  pub spread_start : Spreading base n value 0 l l
  spread_start = record { kept = refl; front = λ j h. refl; back = λ j h. absurd (omega arith); beyond = λ j h. refl }

  pub spread_more : base + n + n ≤ length l → (i : ℕ) (l' : List ℕ) → Spreading base n value i l l' → i < n
      → Spreading base n value (i + 1) l (set l' (base + n + i) (bit_xor (get_or l' (base + i) 0) value))
  spread_more room i l' s h = record {
    kept = length-set l' (base + n + i) _ ∙ s.kept;
    front = λ j k. get_or-set_other l' (base + n + i) j _ 0 (λ e. omega arith) ∙ s.front j k;
    back = λ j k. go j k (dec_le i j);
    beyond = λ j k. get_or-set_other l' (base + n + i) j _ 0 (λ e. omega arith) ∙ s.beyond j k;
  }
    where
      go : (j : ℕ) → j < i + 1 → Dec (i ≤ j)
          → get_or (set l' (base + n + i) (bit_xor (get_or l' (base + i) 0) value)) (base + n + j) 0 ≡ bit_xor (get_or l (base + j) 0) value
      go j k (yes e) =
          let same : j ≡ i = omega arith in
          rw same
          (get_or-set_same l' (base + n + i) _ 0 (omega (arith, s.kept)) ∙ ap (λ (x : ℕ). bit_xor x value) (s.front (base + i) (omega arith)))
      go j k (no e) = get_or-set_other l' (base + n + i) (base + n + j) _ 0 (λ f. omega arith) ∙ s.back j (omega arith)
