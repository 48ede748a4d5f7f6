-- What a slice that was filled with rows from a cut on holds. Assumes nothing.
use Rattle.std.specs.Prelude.{◌≡◌, List, ℕ, ◌/◌, length}
use Rattle.definitions.specs.Number.{join, over}
use Rattle.definitions.specs.Pages.{Cut, page, more}
use Rattle.definitions.specs.Ranking.{row_width, row_key, ranked}
use Rattle.definitions.specs.declared.Selection.{Selection}
use Rattle.definitions.specs.declared.Page.{Page}

-- The rows above a cut, as many as fit the slice.
abbrev pub fitting : Selection → Cut → List ℕ → List (List ℕ)
fitting l at s = page row_key at (length s / row_width l) (ranked l)

-- They were written over the front of s, which is t now; r says how many there are, and whether a further one exists.
pub record Filled (l : Selection) (at : Cut) (s : List ℕ) (r : Page) (t : List ℕ) : Type 0 where
  pub count : r.rows ≡ length (fitting l at s)
  pub further : r.further ≡ more row_key at (length s / row_width l) (ranked l)
  pub written : t ≡ over 0 (join (fitting l at s)) s
