-- The measure: a coordinate is left before its next range begins. Before each turn the search has gone on to `at`.
use Rattle.std.proofs.Common.{◌+◌, ◌-◌, ◌*◌}
use Rattle.least_weight.specs.Places.{Reached}
use Rattle.least_weight.proofs.ranges.Search.+search_below_search_ranges.Given as goal

abbrev pub decreases-search_below : goal.decreases-search_below
decreases-search_below l = 2 * l.at.coordinate

abbrev pub decreases-search_ranges : goal.decreases-search_ranges
decreases-search_ranges l = 2 * l.at.coordinate + 1

abbrev pub invariant-search_ranges-rows : goal.invariant-search_ranges-rows
invariant-search_ranges-rows l = Reached l.self.table.now l.self.degree l.self.bound l.initial.at l.initial.basis l.at l.basis

abbrev pub decreases-search_ranges-rows : goal.decreases-search_ranges-rows
decreases-search_ranges-rows l = 64 - l.at.digits
