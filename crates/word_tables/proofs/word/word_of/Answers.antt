-- `word_tables::word::word_of` meets its contract. Assumes nothing.
use native.Mathlib.Omega.{arith}
use Rattle.number_laws.specs.Bounds.{lead_high}
use Rattle.word_tables.proofs.WordLaws.{divided_start, divided_more, divided_end, next_fits, rest_lt}
use Rattle.word_tables.proofs.word.word_of.Goals as goal

pub loop-init : goal.loop-init
loop-init c = divided_start _ _ c.requires.has_degree _ c.requires.y_bound

pub overflow_mul-word : goal.overflow_mul-word
overflow_mul-word c = omega (arith, next_fits _ _ c.requires.has_degree _ c.requires.y_bound c.loop.invariant (omega (arith, c.loop-test.true)))

pub overflow_mul-word-in-loop : goal.overflow_mul-word-in-loop
overflow_mul-word-in-loop c = omega (arith, lead_high c.requires.lawful_degree, rest_lt _ _ c.requires.has_degree _ c.requires.y_bound c.loop.invariant)

pub overflow_add-word : goal.overflow_add-word
overflow_add-word c = record { fits = next_fits _ _ c.requires.has_degree _ c.requires.y_bound c.loop.invariant (omega (arith, c.loop-test.true)) }

pub times_x-rest-requires : goal.times_x-rest-requires
times_x-rest-requires c =
    let pre = c.requires in
    rw c.modulo-residues.ensures.1 (rest_lt _ _ pre.has_degree _ pre.y_bound c.loop.invariant)

pub loop-preserved : goal.loop-preserved
loop-preserved c =
    let pre = c.requires in
    divided_more _ _ pre.has_degree _ pre.y_bound c.loop.invariant (omega (arith, c.loop-test.true)) (rw c.modulo-residues.ensures.0 at c.times_x-rest.ensures.0)

pub returns : goal.returns
returns c =
    let pre = c.requires in
    divided_end _ _ pre.has_degree _ pre.y_bound c.loop.invariant c.loop-test.false
