-- `counter::coordinate_digits` meets its contract: the word's first m digits, of h times q^j modulo p. Assumes nothing.
use native.Mathlib.Omega.{arith}
use Rattle.polynomial_laws.specs.Degree.{positive}
use Rattle.counting_laws.specs.Building.{digits_is}
use Rattle.counter.proofs.coordinate_digits.Goals as goal

pub returns : goal.returns
returns c =
    let pre = c.requires in
    let p_is = c.modulo-residues.ensures.0 in
    digits_is _ (positive pre.well_formed.degree_p) _ _ (omega (arith, pre.counted_degree.high)) _ _ _ _ _
    (rw p_is at c.power.ensures.0) (rw p_is at c.product-y.ensures.0) c.word_of.ensures
