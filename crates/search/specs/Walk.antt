-- What the walk needs at a pair: it has gone down from the root to here, and whatever stands so many levels below is in the tree.
-- Assumes nothing.
use mathlib.Core.List.{Memᴰ}
use Rattle.std.specs.Prelude.{ℕ, ◌-◌, ◌^◌, ◌≤◌}
use Rattle.definitions.specs.Generator.{Pair, pairs_below, tree}
use Rattle.fraction_laws.specs.WellFormed.{Proper}
use Rattle.page_laws.specs.Search.{Search}
use Rattle.search.specs.Frame.{Searching}
use Rattle.search.specs.declared.frame.Frame.{Frame}

pub record Ready (left p q : ℕ) (f : Frame) (s : Search) : Type 0 where
  pub searching : Searching f (2 ^ left) s
  pub levels : left ≤ f.list.degree
  pub proper : Proper (f.list.degree - left) (record { p = p; q = q })
  pub inside : (t : Pair) → Memᴰ t (pairs_below left (record { p = p; q = q })) → Memᴰ t (tree f.list.degree)
