-- `full_orders::powers::pow_q` meets its contract. Assumes nothing.
use Rattle.std.proofs.Common.{rules}
use native.Mathlib.Omega.{arith}
use Prim.Native.Nat.{◌^◌}
use Rattle.full_orders.proofs.PowerLaws.{squared, multiplied}
use Rattle.full_orders.proofs.powers.pow_q.Goals as goal

pub power_by-requires : goal.power_by-requires
power_by-requires c = record {
  bound = 2 ^ 32;
  at = omega arith;
  one = record { callable = λ y word. search rules; stays = λ y r word fits call. fits };
  other = record { callable = λ y word. search rules; stays = λ y r word fits call. fits };
}

pub returns : goal.returns
returns c = record {
  is = λ p lead q h squares products.
      c.power_by.ensures p lead q h (λ y r residue call. (squared h _ residue (search rules) squares).0)
      (λ y r residue call. (multiplied h _ residue (search rules) q products).0);
}
