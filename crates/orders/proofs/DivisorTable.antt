-- The table of prime divisors of 2^m - 1 with as many places for each degree: its entries are right by one test over all places.
-- Assumes nothing.
use mathlib.Core.Path.{◌≡◌, refl}
use mathlib.Core.Bool.{Bool, true}
use mathlib.Core.List.{List, [], ◌++◌, map}
use Prim.Native.Nat.{ℕ, ◌+◌, ◌-◌, ◌*◌, ◌/◌, ◌%◌, ◌<◌}
use native.Mathlib.Omega.{arith}
use lib.Dec.{eqb}
use lib.ListN.{get_or, take, replicate}
use borrow.Author.Tests.{eqb-true}
use Rattle.definitions.specs.Number.{every}
use Rattle.definitions.specs.Generator.{least_degree}
use Rattle.number_laws.specs.Bounds.{LawfulDegree}
use Rattle.number_laws.specs.Every.{every_out}
use Rattle.order_laws.specs.Table.{divisor_table, divisors_of, places, degrees}

unfoldable pub padded_table : List (List ℕ)
unfolding divisor_table
padded_table = map (λ (l : List ℕ). take places (l ++ replicate places 0)) divisor_table

-- Of each degree in turn, its divisors and then zeros.
unfoldable right_at : ℕ → Bool
unfolding divisors_of padded_table
right_at k = eqb (get_or (get_or padded_table (k / places) []) (k % places) 0) (get_or (divisors_of (k / places + least_degree)) (k % places) 0)

table_computed : every (degrees * places) right_at ≡ true
unfolding every right_at
table_computed = refl

pub table_at : (m i : ℕ) → LawfulDegree m → i < places → get_or (get_or padded_table (m - least_degree) []) i 0 ≡ get_or (divisors_of m) i 0
unfolding right_at
table_at m i lawful h =
    let k = (m - least_degree) * places + i in
    let row : k / places ≡ m - least_degree = omega (arith, lawful.low) in
    let degree : m - least_degree + least_degree ≡ m = omega (arith, lawful.low) in
    let place : k % places ≡ i = omega arith in
    rw (row, degree, place) at
    (eqb-true _ _ (every_out (degrees * places) right_at table_computed k (omega (arith, lawful.low, lawful.high))))
