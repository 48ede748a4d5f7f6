-- `verdicts::is_well_formed` meets its contract: each test that fails contradicts one part of the definition, and the last decides. Assumes nothing.
use mathlib.Core.Path.{sym}
use native.Mathlib.Omega.{arith}
use Rattle.verdicts.proofs.Degrees.{zero_p, wrong_degree, zero_q, smaller_degree}
use Rattle.verdicts.proofs.is_well_formed.Goals as goal

pub returns-then-p-eq0 : goal.returns-then-p-eq0
returns-then-p-eq0 c = sym (zero_p _ _ _ (omega arith))

pub returns-then-degree_of-m : goal.returns-then-degree_of-m
returns-then-degree_of-m c = sym (wrong_degree _ _ _ (λ e. omega arith))

pub returns-then-q-eq0 : goal.returns-then-q-eq0
returns-then-q-eq0 c = sym (zero_q _ _ _ (omega arith))

pub returns : goal.returns
returns c =
    let args = c.args in
    rw c.degree_of-2.ensures.0 (smaller_degree args.m args.p args.q (omega arith) (omega arith) (omega arith))
