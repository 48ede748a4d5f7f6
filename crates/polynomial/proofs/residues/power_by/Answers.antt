-- `polynomial::residues::power_by` meets its contract. Assumes nothing.
use native.Mathlib.Omega.{arith}
use Rattle.definitions.specs.Polynomial.{prod}
use Rattle.polynomial.specs.Powers.{given, power_start, power_even, power_odd, power_end}
use Rattle.polynomial.proofs.residues.power_by.Goals as goal

pub loop-i-init : goal.loop-i-init
loop-i-init g c = record { calls = c.requires; reached = λ p lead q h s t. power_start h q c.args.e c.ranges.e.fits }

pub loop-i-preserved-then-e-i-eq1 : goal.loop-i-preserved-then-e-i-eq1
loop-i-preserved-then-e-i-eq1 g c =
    let calls = c.loop-i.invariant.calls in
    let squared = calls.one.stays _ _ calls.at c.square-power.type_inv c.square-power.ensures in
    record {
      calls = record {
        bound = calls.bound;
        at = calls.other.stays _ _ squared c.times_q-power.type_inv c.times_q-power.ensures;
        one = calls.one;
        other = calls.other;
      };
      reached = λ p lead q h s t.
          let before = c.loop-i.invariant.reached p lead q h s t in
          let square = given h (λ y. prod y y) s before.residue c.square-power.ensures in
          power_odd h before c.loop-i-test.true square c.if-e-i-eq1.true (given h (λ y. prod y q) t square.1 c.times_q-power.ensures);
    }

pub loop-i-preserved : goal.loop-i-preserved
loop-i-preserved g c =
    let calls = c.loop-i.invariant.calls in
    record {
      calls = record {
        bound = calls.bound;
        at = calls.one.stays _ _ calls.at c.square-power.type_inv c.square-power.ensures;
        one = calls.one;
        other = calls.other;
      };
      reached = λ p lead q h s t.
          let before = c.loop-i.invariant.reached p lead q h s t in
          power_even h before c.loop-i-test.true (given h (λ y. prod y y) s before.residue c.square-power.ensures) c.if-e-i-eq1.false;
    }

pub returns : goal.returns
returns g c p lead q h s t = power_end h (c.loop-i.invariant.reached p lead q h s t) (omega arith)
