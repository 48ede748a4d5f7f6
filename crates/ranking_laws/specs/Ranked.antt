-- The ranked list of a selection: it ascends strictly by key, each row has the width of T, and a row is in it exactly where its pair is
-- well-formed and accepted at the floor, once; on the tree its rows are met. Each law is the rule's. Assumes nothing.
use Rattle.std.specs.Prelude.{◌≡◌, true, ℕ, ◌^◌, ◌≤◌, length}
use Rattle.std.proofs.Math.Path.{refl, sym}
use Rattle.std.proofs.Common.{◌∙◌}
use mathlib.Core.List.{List, Memᴰ, Nodup}
use Rattle.definitions.specs.declared.Selection.{Selection}
use Rattle.definitions.specs.Generator.{Pair, accepted_at, well_formed, tree}
use Rattle.definitions.specs.Pages.{start, sort}
use Rattle.definitions.specs.Ranking.{least_top, row_width, row, row_key, listed_pairs, ranked}
use Rattle.page_laws.specs.Ascending.{Ascends}
use Rattle.page_laws.specs.Rows.{Wide}
use Rattle.ranking_laws.specs.Rule.{met_by, ranked_by, ListedRow, ranked_by_ascends, ranked_by_once, ranked_by_wide, ranked_by_in, ranked_by_out}
use Rattle.ranking_laws.specs.Rule.{ranked_by_few, tree_ranked_by}
use Rattle.ranking_laws.specs.Met.{rule_of, width_is, met}

-- A row of the ranked list, with its pair: well-formed, accepted at the floor, and the row is its.
abbrev pub RankedRow : Selection → List ℕ → Type 0
RankedRow l r = ListedRow (rule_of l) r

module _ (l : Selection) where
  pub ranked_is : ranked l ≡ ranked_by (rule_of l)
  unfolding ranked listed_pairs ranked_by met_by
  ranked_is = refl

  pub ranked_ascends : Ascends row_key start (ranked l)
  ranked_ascends = rw ranked_is (ranked_by_ascends (rule_of l))

  pub ranked_once : Nodup (ranked l)
  ranked_once = rw ranked_is (ranked_by_once (rule_of l))

  pub ranked_wide : least_top ≤ l.top → Wide (row_width l) (ranked l)
  ranked_wide h r i = ranked_by_wide (rule_of l) r (rw ranked_is at i) ∙ width_is l h

  pub ranked_in : (s : Pair) → well_formed l.degree s.p s.q ≡ true → accepted_at l.degree l.floor s.p s.q ≡ true
      → Memᴰ (row l s.p s.q) (ranked l)
  ranked_in s w t = rw ranked_is (ranked_by_in (rule_of l) s w t)

  pub ranked_out : (r : List ℕ) → Memᴰ r (ranked l) → RankedRow l r
  ranked_out r i = ranked_by_out (rule_of l) r (rw ranked_is at i)

  -- There are no more rows than pairs in the tree.
  pub ranked_few : 1 ≤ l.degree → length (ranked l) ≤ 2 ^ l.degree
  ranked_few h = rw ranked_is (ranked_by_few (rule_of l) h)

  -- The rows met on the tree, sorted, are the ranked list.
  pub tree_ranked : 1 ≤ l.degree → sort row_key (met l (tree l.degree)) ≡ ranked l
  unfolding met
  tree_ranked h = tree_ranked_by (rule_of l) h ∙ sym ranked_is
