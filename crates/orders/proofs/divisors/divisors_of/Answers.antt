-- `orders::divisors::divisors_of` meets its contract. Assumes nothing.
use Rattle.orders.proofs.DivisorTable.{padded_table, table_at}
use Rattle.orders.proofs.divisors.divisors_of.Goals as goal

pub returns : goal.returns
unfolding padded_table
returns c i h = table_at c.args.m i c.requires h
