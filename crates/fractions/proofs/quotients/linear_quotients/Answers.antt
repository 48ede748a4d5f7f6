-- `fractions::quotients::linear_quotients` meets its contract. Assumes nothing.
use Rattle.fractions.proofs.FractionLaws.{run_start, run_end, run_refused, run_by_x, run_by_other}
use Rattle.fractions.proofs.quotients.linear_quotients.Goals as goal

pub loop-b-init : goal.loop-b-init
loop-b-init c = run_start c.requires.modulus c.ranges.p.fits c.requires.q_lt_lead

pub returns-then-b-lead_of_a-eq0 : goal.returns-then-b-lead_of_a-eq0
returns-then-b-lead_of_a-eq0 c = run_refused c.loop-b.invariant c.loop-b-test.true c.if-b-lead_of_a-eq0.true

pub loop-b-preserved-then-less-lead_of_a-eq0 : goal.loop-b-preserved-then-less-lead_of_a-eq0
loop-b-preserved-then-less-lead_of_a-eq0 c = run_by_x c.loop-b.invariant c.loop-b-test.true c.if-b-lead_of_a-eq0.false c.if-less-lead_of_a-eq0.true

pub loop-b-preserved : goal.loop-b-preserved
loop-b-preserved c = run_by_other c.loop-b.invariant c.loop-b-test.true c.if-b-lead_of_a-eq0.false c.if-less-lead_of_a-eq0.false

pub returns : goal.returns
returns c = run_end c.loop-b.invariant c.loop-b-test.false
