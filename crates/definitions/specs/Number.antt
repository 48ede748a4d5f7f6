-- Numbers and lists, as far as the definitions need them: the first and the largest number that pass a test, counting, sums, greatest common divisors.
-- Assumes nothing.
use Rattle.std.specs.Prelude.{◌&&◌, ◌∷◌, ◌++◌, ◌+◌, ◌%◌}
use Rattle.definitions.specs.Base.{Bool, true, false, List, [], ℕ, zero, suc, length, take, drop}

-- The first number from a on that passes the test, of n tried; the number behind these where none does.
unfoldable pub first : ℕ → ℕ → (ℕ → Bool) → ℕ
first zero a test = a
first (suc n) a test = elim (test a) [ true ↦ a | false ↦ first n (suc a) test ]

-- The largest number from 1 to n that passes the test; 0 where none does.
unfoldable pub largest : ℕ → (ℕ → Bool) → ℕ
largest zero test = 0
largest (suc n) test = elim (test (suc n)) [ true ↦ suc n | false ↦ largest n test ]

-- The test holds of every number below n.
unfoldable pub every : ℕ → (ℕ → Bool) → Bool
every zero test = true
every (suc n) test = test n && every n test

abbrev pub bit : Bool → ℕ
bit true = 1
bit false = 0

-- How many numbers below n pass the test.
unfoldable pub count : ℕ → (ℕ → Bool) → ℕ
count zero test = 0
count (suc n) test = bit (test n) + count n test

-- f 1 + .. + f n.
unfoldable pub sum : ℕ → (ℕ → ℕ) → ℕ
sum zero f = 0
sum (suc n) f = f (suc n) + sum n f

-- The n numbers from a on.
unfoldable pub numbers : ℕ → ℕ → List ℕ
numbers a zero = []
numbers a (suc n) = a ∷ numbers (suc a) n

-- x before l, where b holds.
abbrev pub put_if : {X : Type 0} → Bool → X → List X → List X
put_if true x l = x ∷ l
put_if false x l = l

-- The elements of a list that pass the test.
unfoldable pub keep : {X : Type 0} → (X → Bool) → List X → List X
keep test [] = []
keep test (x ∷ l) = put_if (test x) x (keep test l)

-- Every element of a list passes the test.
unfoldable pub all : {X : Type 0} → (X → Bool) → List X → Bool
all test [] = true
all test (x ∷ l) = test x && all test l

-- Lists joined.
abbrev pub join : {X : Type 0} → List (List X) → List X
join [] = []
join (l ∷ ls) = l ++ join ls

-- The numbers v written over s from a place on; what stands before them and behind them stays.
unfoldable pub over : ℕ → List ℕ → List ℕ → List ℕ
over at v s = take at s ++ v ++ drop (at + length v) s

-- The greatest common divisor by Euclid's algorithm, in at most n steps; the remainders fall, so b + 1 steps are enough.
unfoldable pub gcd_within : ℕ → ℕ → ℕ → ℕ
gcd_within zero a b = a
gcd_within (suc n) a zero = a
gcd_within (suc n) a (suc b) = gcd_within n (suc b) (a % suc b)

unfoldable pub gcd : ℕ → ℕ → ℕ
gcd a b = gcd_within (suc b) a b
