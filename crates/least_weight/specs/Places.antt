-- What the functions of the search are asked and what they answer, at a place of it. m is the degree, f the bound.
-- Assumes nothing.
use Rattle.std.specs.Prelude.{◌≡◌, List, ℕ}
use Rattle.least_weight.specs.declared.ranges.Place.{Place}
use Rattle.least_weight.specs.Search.{Path, Room, Leaving, Searched, Below}

abbrev pub PathAt : List ℕ → ℕ → Place → List ℕ → Type 0
PathAt table m at b = Path table m at.coordinate at.digits at.taken at.starts b at.mask

abbrev pub RoomAt : ℕ → ℕ → Place → Type 0
RoomAt m f at = Room m f at.coordinate at.taken at.digits at.from at.to at.counted at.least

abbrev pub LeavingAt : ℕ → ℕ → Place → Type 0
LeavingAt m f at = Leaving m f at.coordinate at.taken at.digits at.from at.counted at.least

abbrev pub SearchedAt : List ℕ → ℕ → ℕ → Place → List ℕ → List ℕ → ℕ → Type 0
SearchedAt table m f at before after r =
    Searched table m f at.coordinate at.taken at.digits at.from at.counted at.least at.starts at.mask before after r

abbrev pub BelowAt : List ℕ → ℕ → ℕ → Place → List ℕ → List ℕ → ℕ → Type 0
BelowAt table m f at before after r = Below table m f at.coordinate at.taken at.digits at.from at.counted at.least at.starts at.mask before after r

-- The search has gone on from `at` to `next`, a place of the same coordinate: what it has from there it has from `at`.
pub record Reached (table : List ℕ) (m f : ℕ) (at : Place) (before : List ℕ) (next : Place) (now : List ℕ) : Type 0 where
  pub coordinate : next.coordinate ≡ at.coordinate
  pub path : PathAt table m next now
  pub room : RoomAt m f next
  pub on : (end : List ℕ) (r : ℕ) → SearchedAt table m f next now end r → SearchedAt table m f at before end r
