-- A linear map: a table from which an additive function of residues is looked up, block by block of their digits. Assumes nothing.
use Rattle.std.specs.Prelude.{◌≡◌, List, ℕ, ◌+◌, ◌*◌, ◌/◌, ◌%◌, ◌^◌, ◌≤◌, ◌<◌}
use Rattle.std.proofs.Common.{sym, ◌∙◌, mul-one}
use Rattle.std.proofs.Math.Path.{ap}
use Rattle.std.proofs.Math.Nat.{zero-add}
use native.Mathlib.Omega.{arith}
use Rattle.std.proofs.Math.ListN.{get_or}
use Rattle.definitions.specs.Polynomial.{◌⊕◌}
use Rattle.definitions.specs.Generator.{largest_degree}
use Rattle.polynomial_laws.specs.Sum.{⊕_assoc}
use Rattle.polynomial_laws.specs.Additive.{Additive}
use Rattle.additive_tables.specs.Tables.{Tabled, split}

-- As many digits that four blocks are enough,
abbrev pub block_digits : ℕ
block_digits = (largest_degree + 3) / 4

-- and one entry for each of their values.
abbrev pub block : ℕ
block = 2 ^ block_digits

abbrev pub entries : ℕ
entries = 4 * block

-- What the table says of a: the sum of one entry for each block of its digits.
unfoldable pub image_of : List ℕ → ℕ → ℕ
image_of t a =
    get_or t (a % block) 0
    ⊕ get_or t (block + a / block % block) 0
    ⊕ get_or t (2 * block + a / block / block % block) 0
    ⊕ get_or t (3 * block + a / block / block / block % block) 0

-- The table is that of f, for the residues, which are the numbers below lead.
abbrev pub Maps : (ℕ → ℕ) → ℕ → List ℕ → Type 0
Maps f lead t = (a : ℕ) → a < lead → image_of t a ≡ f a

-- Block i of the table is right.
abbrev pub BlockOf : (ℕ → ℕ) → ℕ → List ℕ → ℕ → Type 0
BlockOf f lead t i = Tabled f lead (2 ^ (block_digits * i)) (i * block) block t

-- Where every block is right, so is the sum.
module _ {f : ℕ → ℕ} (additive : Additive f) {lead : ℕ} (most : lead ≤ 2 ^ largest_degree) {t : List ℕ} where
  pub blocks_map : ((i : ℕ) → i < 4 → BlockOf f lead t i) → Maps f lead t
  unfolding image_of
  blocks_map right a small =
      let b = a / block in
      let c = b / block in
      let d = c / block in
      let lowest : get_or t (a % block) 0 ≡ f (a % block * 1) = rw zero-add at ((right 0 (omega arith)).right (a % block) (omega arith) (omega arith)) in
      let second : get_or t (block + b % block) 0 ≡ f (b % block * block) = (right 1 (omega arith)).right (b % block) (omega arith) (omega arith) in
      let third : get_or t (2 * block + c % block) 0 ≡ f (c % block * (block * block)) =
      (right 2 (omega arith)).right (c % block) (omega arith) (omega arith) in
      let highest : get_or t (3 * block + d % block) 0 ≡ f (d * (block * block * block)) =
      let all : d % block ≡ d = omega arith in
      (right 3 (omega arith)).right (d % block) (omega arith) (omega arith) ∙ ap (λ (x : ℕ). f (x * (block * block * block))) all in
      let whole : f a ≡ f (a % block * 1) ⊕ (f (b % block * block) ⊕ (f (c % block * (block * block)) ⊕ f (d * (block * block * block)))) =
      ap f (sym (mul-one a))
      ∙ split f additive block_digits 0 a
      ∙ ap (λ (x : ℕ). f (a % block * 1) ⊕ x) (
      split f additive block_digits block_digits b
      ∙ ap (λ (x : ℕ). f (b % block * block) ⊕ x) (split f additive block_digits (2 * block_digits) c)
      ) in
      rw (lowest, second, third, highest, ⊕_assoc, ⊕_assoc) (sym whole)
