-- Points: the recurrence, its words, and the point set in dimension s. Assumes nothing.
use Rattle.std.specs.Prelude.{◌∷◌, ◌*◌, ◌^◌}
use Rattle.definitions.specs.Base.{List, [], ℕ, zero, suc}
use Rattle.definitions.specs.Polynomial.{prod, power, quot, rem}

-- The first d digits of y/p in powers of x^(-1), as a number with the first digit highest.
unfoldable pub leading : ℕ → ℕ → ℕ → ℕ
leading p d y = quot (y * 2 ^ d) p

-- X_0 = 1 and X_i = q X_(i-1) mod p.
unfoldable pub state : ℕ → ℕ → ℕ → ℕ
state p q zero = 1
state p q (suc i) = rem (prod q (state p q i)) p

abbrev pub word_digits : ℕ
word_digits = 32

-- Word i: the first 32 digits of X_i/p.
unfoldable pub word : ℕ → ℕ → ℕ → ℕ
word p q i = leading p word_digits (state p q i)

-- The n words from word i on.
unfoldable pub words : ℕ → ℕ → ℕ → ℕ → List ℕ
words p q i zero = []
words p q i (suc n) = word p q i ∷ words p q (suc i) n

-- Point set: coordinate j of the point h, a polynomial of degree below m, is h q^j mod p, over p.
unfoldable pub coordinate : ℕ → ℕ → ℕ → ℕ → ℕ
coordinate p q j h = rem (prod h (power q j)) p
