-- Two tables of an additive function of a state: its value is the sum of two entries, one for each half of the state's digits. Assumes nothing.
use Rattle.std.specs.Prelude.{◌≡◌, List, ℕ, suc, ◌*◌, ◌/◌, ◌%◌, ◌^◌, ◌<◌, get_or}
use Rattle.std.proofs.Common.{sym, ap, ap₂, ◌∙◌, zero-add, mul-one, arith}
use Rattle.std.specs.Int.Bits.{bit_xor}
use Rattle.definitions.specs.Polynomial.{◌⊕◌}
use Rattle.definitions.specs.Generator.{largest_degree}
use Rattle.polynomial_laws.specs.Sum.{⊕_def}
use Rattle.polynomial_laws.specs.Additive.{Additive}
use Rattle.additive_tables.specs.Tables.{Tabled, split}

-- Half of the digits that a state has at most,
abbrev pub half_digits : ℕ
half_digits = suc largest_degree / 2

-- and as many entries as they have values.
abbrev pub size : ℕ
size = 2 ^ half_digits

-- The value at a state.
pub looked_up : (f : ℕ → ℕ) → Additive f → (lead : ℕ) {low high : List ℕ} → Tabled f lead 1 0 size low → Tabled f lead size 0 size high
    → (y : ℕ) → y < lead → y < size * size → bit_xor (get_or low (y % size) 0) (get_or high (y / size) 0) ≡ f y
looked_up f additive lead {low} {high} tl th y h k =
    let lower : get_or low (y % size) 0 ≡ f (y % size * 1) = rw zero-add at (tl.right (y % size) (omega arith) (omega arith)) in
    let upper : get_or high (y / size) 0 ≡ f (y / size * size) = rw zero-add at (th.right (y / size) (omega arith) (omega arith)) in
    sym (⊕_def (get_or low (y % size) 0) (get_or high (y / size) 0))
    ∙ ap₂ ◌⊕◌ lower upper
    ∙ sym (split f additive half_digits 0 y)
    ∙ ap f (mul-one y)
