-- Both tables of a pair, of the next state and of the word, filled by doubling, and looked up. Assumes nothing.
use Rattle.std.specs.Prelude.{◌≡◌, refl, List, ℕ, suc, ◌+◌, ◌*◌, ◌/◌, ◌%◌, ◌^◌, ◌≤◌, ◌<◌, length, get_or, set}
use Rattle.std.proofs.Common.{subst, ◌∙◌, pow-suc, mul-le-mul_right, arith, length-set, get_or-set_same, pow_mono, pow_pos}
use Rattle.std.specs.Int.Bits.{bit_xor}
use Rattle.definitions.specs.Polynomial.{prod, rem}
use Rattle.definitions.specs.Points.{leading, word_digits}
use Rattle.number_laws.specs.Truth.{le_unless}
use Rattle.polynomial_laws.specs.Additive.{Additive}
use Rattle.polynomial_laws.specs.Degree.{HasDegree, positive, degree_unique}
use Rattle.polynomial_laws.specs.Division.{rem_lt}
use Rattle.polynomial_laws.specs.Leading.{residue_additive, leading_additive}
use Rattle.additive_tables.specs.Spreading.{Spread}
use Rattle.additive_tables.specs.Tables.{Tabled, tabled_start, tabled_beyond, tabled_double}
use Rattle.word_tables.specs.Tables.{half_digits, size, looked_up}

-- The state after y.
abbrev pub next_state : ℕ → ℕ → ℕ → ℕ
next_state p q y = rem (prod q y) p

-- The unit of a table: 1 for a state's lower digits, as many as a table has entries for its upper ones.
pub record Unit (unit : ℕ) : Type 0 where
  pub exponent : ℕ
  pub is : unit ≡ 2 ^ exponent
  pub fits : unit ≤ size

pub lower_unit : Unit 1
lower_unit = record { exponent = 0; is = refl; fits = omega arith }

pub upper_unit : Unit size
upper_unit = record { exponent = half_digits; is = refl; fits = omega arith }

-- A place of a table times the unit has no more digits than a state.
pub unit_small : {n unit : ℕ} → n < size → Unit unit → n * unit < size * size
unit_small {n} {unit} h u = omega (arith, u.fits, mul-le-mul_right {m = suc n} {n = size} unit h)

-- The first n entries of both tables.
pub record Filled (m p q unit n : ℕ) (next word : List ℕ) : Type 0 where
  pub next_sized : length next ≡ size
  pub word_sized : length word ≡ size
  pub next_right : Tabled (next_state p q) (2 ^ m) unit 0 n next
  pub word_right : Tabled (leading p word_digits) (2 ^ m) unit 0 n word

-- ... where n is a power of two.
pub record Filling (m p q unit n : ℕ) (next word : List ℕ) : Type 0 where
  pub exponent : ℕ
  pub is : n ≡ 2 ^ exponent
  pub most : exponent ≤ half_digits
  pub filled : Filled m p q unit n next word

module _ {m p q unit n : ℕ} {next word : List ℕ} (at : Filling m p q unit n next word) where
  filling_low : n ≤ size
  filling_low = omega (arith, at.is, pow_mono {j = half_digits} at.most)

  pub filling_positive : 0 < n
  filling_positive = rw at.is (pow_pos at.exponent)

  -- A table that is not full has room for as many entries again.
  filling_less : n < size → suc at.exponent ≤ half_digits
  filling_less l = le_unless (λ k. omega (arith, at.is, pow_mono {i = half_digits} {j = at.exponent} (omega arith)))

  pub filling_room : n < size → n + n ≤ size
  filling_room l = omega (arith, at.is, pow-suc 2 at.exponent, pow_mono {j = half_digits} (filling_less l))

  pub filling_beyond : 2 ^ m ≤ n * unit → Filled m p q unit size next word
  filling_beyond l =
      let f = at.filled in
      record {
        next_sized = f.next_sized;
        word_sized = f.word_sized;
        next_right = tabled_beyond size l f.next_right;
        word_right = tabled_beyond size l f.word_right;
      }

  pub filling_done : size ≤ n → Filled m p q unit size next word
  filling_done l =
      let e : n ≡ size = omega (arith, filling_low) in
      rw e at at.filled

module _ {m p : ℕ} (d : HasDegree p m) (q : ℕ) where
  next_additive : Additive (next_state p q)
  next_additive = residue_additive p (positive d) q

  word_additive : Additive (leading p word_digits)
  word_additive = leading_additive p (positive d) word_digits

  pub filling_start : (unit : ℕ) (next word : List ℕ) → length next ≡ size → length word ≡ size → Filling m p q unit 1 (set next 0 0) (set word 0 0)
  filling_start unit next word ln lw = record {
    exponent = 0;
    is = refl;
    most = omega arith;
    filled = record {
      next_sized = length-set next 0 0 ∙ ln;
      word_sized = length-set word 0 0 ∙ lw;
      next_right = tabled_start (next_state p q) next_additive (2 ^ m) unit 0 (get_or-set_same next 0 0 0 (omega arith));
      word_right = tabled_start (leading p word_digits) word_additive (2 ^ m) unit 0 (get_or-set_same word 0 0 0 (omega arith));
    };
  }

  module _ {unit n : ℕ} (u : Unit unit) {next word : List ℕ} (at : Filling m p q unit n next word) where
    pub filling_more : n < size → {a b : ℕ} {next' word' : List ℕ} → a ≡ next_state p q (n * unit) → b ≡ leading p word_digits (n * unit)
        → Spread 0 n a next next' → Spread 0 n b word word' → Filling m p q unit (n * 2) next' word'
    filling_more l ea eb sa sb =
        let k = at.exponent in
        let f = at.filled in
        record {
          exponent = suc k;
          is = omega (arith, at.is, pow-suc 2 k);
          most = filling_less at l;
          filled = record {
            next_sized = sa.kept ∙ f.next_sized;
            word_sized = sb.kept ∙ f.word_sized;
            next_right = tabled_double (next_state p q) next_additive (2 ^ m) k u.exponent at.is u.is ea f.next_right sa;
            word_right = tabled_double (leading p word_digits) word_additive (2 ^ m) k u.exponent at.is u.is eb f.word_right sb;
          };
        }

  -- Both halves of a state looked up.
  module _ {next_low word_low next-high word-high : List ℕ} (low : Filled m p q 1 size next_low word_low)
      (high : Filled m p q size size next-high word-high) (y : ℕ) (h : y < 2 ^ m) (k : y < size * size) where
    pub next_looked_up : bit_xor (get_or next_low (y % size) 0) (get_or next-high (y / size) 0) ≡ next_state p q y
    next_looked_up = looked_up (next_state p q) next_additive (2 ^ m) low.next_right high.next_right y h k

    pub next_small : bit_xor (get_or next_low (y % size) 0) (get_or next-high (y / size) 0) < 2 ^ m
    next_small = rw next_looked_up (subst (λ (k : ℕ). next_state p q y < 2 ^ k) (degree_unique p m d) (rem_lt p (positive d) (prod q y)))

    pub word_looked_up : bit_xor (get_or word_low (y % size) 0) (get_or word-high (y / size) 0) ≡ leading p word_digits y
    word_looked_up = looked_up (leading p word_digits) word_additive (2 ^ m) low.word_right high.word_right y h k
