-- The invariant: the first s numbers of the row are written, the last t-value is t(s - 1), and the table has s - 1 coordinates.
use Rattle.std.proofs.Common.{◌≡◌, List, ℕ, ◌-◌, ◌^◌, ◌≤◌, length, take}
use Rattle.definitions.specs.declared.Selection.{Selection}
use Rattle.definitions.specs.Net.{t_value}
use Rattle.definitions.specs.Ranking.{longest_row, ranks_from}
use Rattle.digit_rows.specs.Table.{Tabled}
use Rattle.ranking_laws.specs.Steps.{begun}
use Rattle.row_places.specs.Places.{values_end}
use Rattle.search.proofs.rank.weigh.Given as goal

-- The first s numbers of the row are written, and value is t(s - 1).
pub record Written (l : Selection) (p q : ℕ) (row : List ℕ) (value s : ℕ) : Type 0 where
  pub from : ranks_from ≤ s
  pub to : s ≤ values_end l
  pub sized : length row ≡ longest_row
  pub is : take s row ≡ take s (begun l p q)
  pub last : value ≡ t_value l.degree p q (s - 1)

-- The table has s - 1 coordinates.
abbrev pub HasCoordinates : Selection → ℕ → ℕ → List ℕ → ℕ → Type 0
HasCoordinates l p q table s = Tabled p q (2 ^ l.degree) l.degree (s - 1) table

abbrev pub invariant-loop-s : goal.invariant-loop-s
invariant-loop-s l = Written l.f.list l.p l.q l.row l.value l.s × HasCoordinates l.f.list l.p l.q l.table l.s
