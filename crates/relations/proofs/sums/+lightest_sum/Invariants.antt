use Rattle.relations.proofs.sums.+lightest_sum.Given as goal

abbrev pub decreases-lightest_sum : goal.decreases-lightest_sum
decreases-lightest_sum l = l.mask
