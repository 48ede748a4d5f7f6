-- The table of a linear map filled block by block, and a block by doubling, from the image of 1 on: the image of the double is x times that of a number
-- for times c, and x^2 times that for squares. Assumes nothing.
use Rattle.std.specs.Prelude.{◌≡◌, refl, List, ℕ, zero, suc, ◌+◌, ◌*◌, ◌^◌, ◌≤◌, ◌<◌, length, get_or, replicate}
use Rattle.std.proofs.Common.{sym, ◌∙◌, one-mul, mul_comm, mul_assoc, pow-suc, arith, pow-add, pow_mono, pow_pos}
use Rattle.std.proofs.Math.Path.{ap}
use Rattle.std.proofs.Math.Decide.{dec_le}
use Rattle.definitions.specs.Polynomial.{prod, rem}
use Rattle.definitions.specs.Generator.{largest_degree}
use Rattle.number_laws.specs.Truth.{le_unless}
use Rattle.polynomial_laws.specs.Additive.{Additive}
use Rattle.polynomial_laws.specs.Product.{one_prod, prod_one, double_prod, prod_double}
use Rattle.polynomial_laws.specs.Division.{rem_double}
use Rattle.polynomial_laws.specs.Power.{rem_one}
use Rattle.polynomial_laws.specs.Leading.{residue_additive, square_additive}
use Rattle.polynomial.specs.Modulus.{Modulus, modulus_positive, modulus_one, residue_small}
use Rattle.additive_tables.specs.Spreading.{Spread}
use Rattle.additive_tables.specs.Tables.{Tabled, tabled_start, tabled_double, tabled_kept, tabled_beyond}
use Rattle.linear_maps.specs.Maps.{block_digits, block, entries, BlockOf, Maps, blocks_map}

-- f is additive, and a call, by what it ensures, gives the value of f at the double of a number, from its value at the number.
pub record Doubling (post : ℕ → ℕ → Type 0) (f : ℕ → ℕ) (lead : ℕ) : Type 0 where
  pub additive : Additive f
  pub doubles : (a v w : ℕ) → v < lead → post v w → v ≡ f a → w ≡ f (2 * a)

module _ {p lead : ℕ} (h : Modulus p lead) where
  pub times_additive : (c : ℕ) → Additive (λ a. rem (prod c a) p)
  times_additive c = residue_additive p (modulus_positive h) c

  pub squares_additive : Additive (λ a. rem (prod a a) p)
  squares_additive = square_additive p (modulus_positive h)

  -- the value at the double of a number is x times that at the number for times c, and for squares x times that once more
  pub times_double : (c a v w : ℕ) → w ≡ rem (2 * v) p → v ≡ rem (prod c a) p → w ≡ rem (prod c (2 * a)) p
  times_double c a v w next is = next ∙ rw (is, prod_double) (sym (rem_double p (modulus_positive h) (prod c a)))

  pub squares_double : (a v w : ℕ) → w ≡ rem (2 * rem (2 * v) p) p → v ≡ rem (prod a a) p → w ≡ rem (prod (2 * a) (2 * a)) p
  squares_double a v w next is =
      let pos = modulus_positive h in
      next ∙ rw (is, double_prod, prod_double, rem_double p pos (2 * prod a a), rem_double p pos (prod a a)) refl

  -- the image of 1
  pub first_square : (1 ≡ rem (prod 1 1) p) × (1 < lead)
  first_square = (sym (rw one_prod (rem_one p h.large)), modulus_one h)

  pub first_times : (c : ℕ) → c < lead → (c ≡ rem (prod c 1) p) × (c < lead)
  first_times c small = (sym (rw prod_one (residue_small h c small)), small)

-- The first n entries of the block at base, n a power of two: they are right for each function and unit that the first image is right for, and the next
-- image is that of n units. All else is as it was.
pub record Block (post : ℕ → ℕ → Type 0) (lead base first n : ℕ) (t t' : List ℕ) (image : ℕ) : Type 0 where
  pub exponent : ℕ
  pub is : n ≡ 2 ^ exponent
  pub most : exponent ≤ block_digits
  pub kept : length t' ≡ length t
  pub below : (j : ℕ) → j < base → get_or t' j 0 ≡ get_or t j 0
  pub beyond : (j : ℕ) → base + n ≤ j → get_or t' j 0 ≡ get_or t j 0
  pub residue : image < lead
  pub next : (f : ℕ → ℕ) → Doubling post f lead → (unit : ℕ) → first ≡ f unit → image ≡ f (n * unit)
  pub right : (f : ℕ → ℕ) → Doubling post f lead → (u : ℕ) → first ≡ f (2 ^ u) → Tabled f lead (2 ^ u) base n t'

module _ {post : ℕ → ℕ → Type 0} {lead base first : ℕ} {t : List ℕ} where
  pub block_start : first < lead → get_or t base 0 ≡ 0 → Block post lead base first 1 t t first
  block_start small empty = record {
    exponent = 0;
    is = refl;
    most = omega arith;
    kept = refl;
    below = λ j k. refl;
    beyond = λ j k. refl;
    residue = small;
    next = λ f h unit e. rw one-mul e;
    right = λ f h u e. tabled_start f h.additive lead (2 ^ u) base empty;
  }

  module _ {n v : ℕ} {t' : List ℕ} (at : Block post lead base first n t t' v) where
    -- a block that is not full has room for as many entries again
    less : n < block → suc at.exponent ≤ block_digits
    less l = le_unless (λ k. omega (arith, at.is, pow_mono {i = block_digits} {j = at.exponent} (omega arith)))

    pub block_room : n < block → n + n ≤ block
    block_room l = omega (arith, at.is, pow-suc 2 at.exponent, pow_mono {j = block_digits} (less l))

    pub block_positive : 0 < n
    block_positive = rw at.is (pow_pos at.exponent)

    pub block_more : n < block → {t'' : List ℕ} {w : ℕ} → Spread base n v t' t'' → post v w → w < lead
        → Block post lead base first (n * 2) t t'' w
    block_more l {w = w} s call small = record {
      exponent = suc at.exponent;
      is = omega (arith, at.is, pow-suc 2 at.exponent);
      most = less l;
      kept = s.kept ∙ at.kept;
      below = λ j k. s.front j (omega arith) ∙ at.below j k;
      beyond = λ j k. s.beyond j (omega arith) ∙ at.beyond j (omega arith);
      residue = small;
      next = λ f h unit e.
          let twice : n * 2 * unit ≡ 2 * (n * unit) = rw (mul_comm n 2) (mul_assoc 2 n unit) in
          rw twice (h.doubles (n * unit) v w at.residue call (at.next f h unit e));
      right = λ f h u e. tabled_double f h.additive lead at.exponent u at.is refl (at.next f h (2 ^ u) e) (at.right f h u e) s;
    }

    pub block_done : block ≤ n → Block post lead base first block t t' v
    block_done l =
        let full : n ≡ block = omega (arith, at.is, pow_mono {j = block_digits} at.most) in
        rw full at at

-- The blocks before base are right, and from there on stands nothing; the image is that of the unit, which the next block's lowest digit stands for.
pub record Filled (post : ℕ → ℕ → Type 0) (lead first base unit : ℕ) (t : List ℕ) (image : ℕ) : Type 0 where
  pub blocks : ℕ
  pub place : base ≡ blocks * block
  pub is : unit ≡ 2 ^ (block_digits * blocks)
  pub sized : length t ≡ entries
  pub residue : image < lead
  pub next : (f : ℕ → ℕ) → Doubling post f lead → first ≡ f 1 → image ≡ f unit
  pub right : (f : ℕ → ℕ) → Doubling post f lead → first ≡ f 1 → (i : ℕ) → i < blocks → BlockOf f lead t i
  pub empty : (j : ℕ) → base ≤ j → get_or t j 0 ≡ 0

zeros : (n j : ℕ) → get_or {A = ℕ} (replicate n 0) j 0 ≡ 0
zeros zero j = refl
zeros (suc n) zero = refl
zeros (suc n) (suc j) = zeros n j

module _ {post : ℕ → ℕ → Type 0} {lead first : ℕ} where
  pub filled_start : first < lead → Filled post lead first 0 1 (replicate entries 0) first
  filled_start small = record {
    blocks = 0;
    place = refl;
    is = refl;
    sized = refl;
    residue = small;
    next = λ f h is. is;
    right = λ f h is i k. absurd (omega arith);
    empty = λ j k. zeros entries j;
  }

  module _ {t : List ℕ} {base unit v : ℕ} (at : Filled post lead first base unit t v) (most : lead ≤ 2 ^ largest_degree) where
    -- a residue has no digits behind the last block
    left : unit < lead → at.blocks < 4
    left l = le_unless (λ k. omega (arith, at.is, pow_mono {i = block_digits * 4} {j = block_digits * at.blocks} (omega arith)))

    pub filled_room : unit < lead → base + block ≤ entries
    filled_room l = omega (arith, at.place, left l)

    pub filled_more : unit < lead → {t' : List ℕ} {w : ℕ} → Block post lead base v block t t' w
        → Filled post lead first (base + block) (unit * block) t' w
    filled_more l {t'} {w} b =
        let k = at.blocks in
        record {
          blocks = suc k;
          place = omega (arith, at.place);
          is = ap (λ (x : ℕ). x * block) at.is ∙ sym (pow-add 2 (block_digits * k) block_digits) ∙ ap (λ (x : ℕ). 2 ^ x) (omega arith);
          sized = b.kept ∙ at.sized;
          residue = b.residue;
          next = λ f h is. rw (mul_comm unit block) (b.next f h unit (at.next f h is));
          right = λ f h is i j. go f h is i j (dec_le k i);
          empty = λ j i. b.beyond j i ∙ at.empty j (omega arith);
        }
      where
        go : (f : ℕ → ℕ) → Doubling post f lead → first ≡ f 1 → (i : ℕ) → i < suc at.blocks → Dec (at.blocks ≤ i) → BlockOf f lead t' i
        go f h is i j (yes last) =
            let e : i ≡ at.blocks = omega arith in
            rw (e, ← at.place) (b.right f h (block_digits * at.blocks) (at.next f h is ∙ ap f at.is))
        go f h is i j (no before) = tabled_kept (λ n s. b.below n (omega (arith, at.place))) (at.right f h is i (omega arith))

    pub filled_done : lead ≤ unit → (f : ℕ → ℕ) → Doubling post f lead → first ≡ f 1 → Maps f lead t
    filled_done l f h is = blocks_map h.additive most (λ i j. go i (dec_le at.blocks i))
      where
        go : (i : ℕ) → Dec (at.blocks ≤ i) → BlockOf f lead t i
        go i (no before) = at.right f h is i (omega arith)
        go i (yes behind) =
            let larger = pow_mono {i = block_digits * at.blocks} {j = block_digits * i} (omega arith) in
            tabled_beyond block (omega (arith, at.is, larger))
            (tabled_start f h.additive lead (2 ^ (block_digits * i)) (i * block) (at.empty (i * block) (omega (arith, at.place))))
