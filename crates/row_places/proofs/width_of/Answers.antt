-- `row_places::width_of` counts one number behind t(T) where the list has Δ. Assumes nothing.
use native.Mathlib.Omega.{arith}
use Rattle.number_laws.specs.Count.{bit_most, bool_byte_lem}
use Rattle.row_places.proofs.width_of.Goals as goal

pub overflow_add-result : goal.overflow_add-result
overflow_add-result c =
    let l = c.args.list in omega (arith, c.values_end.ensures, bool_byte_lem l.gaps, bit_most l.gaps)

pub returns : goal.returns
returns c = omega (arith, c.values_end.ensures, bool_byte_lem c.args.list.gaps)
