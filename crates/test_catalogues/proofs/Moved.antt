-- A reader that hands out a row and is moved on has less behind its place: the row, which lies whole within the body. Assumes nothing.
use Rattle.std.proofs.Common.{◌≡◌, refl, sym, ap, ◌∙◌, arith, ◌-◌, ◌<◌, ℕ, Bool, true, false, Some, None, length}
use Rattle.definitions.specs.Catalogue.{at_row, next_row, next_place}
use Rattle.definitions.specs.declared.Reader.{Reader}
use Rattle.catalogue_laws.specs.Sizes.{row_size_least}
use Rattle.catalogue_laws.specs.Reading.{at_row_out, next_end, next_place_row}
use Rattle.definitions.specs.declared.Row.{Row}

abbrev pub behind : Reader → ℕ
behind r = length r.body.now - r.place

pub moved_on : (r r' : Reader) {row : Row} → next_row r.degree r.top r.gaps r.body.now r.place ≡ Some row
    → r'.body ≡ r.body → r'.place ≡ next_place r.degree r.top r.gaps r.body.now r.place → behind r' < behind r
moved_on r r' {row} found body place = go (at_row r.degree r.top r.gaps r.body.now r.place) refl
  where
    go : (b : Bool) → at_row r.degree r.top r.gaps r.body.now r.place ≡ b → behind r' < behind r
    go false e = let none : None ≡ Some row = sym (next_end _ _ _ _ _ e) ∙ found in cc
    go true e =
        let whole = (at_row_out r.degree r.top r.gaps r.body.now r.place e).whole in
        let same = ap (λ b. length b.now) body in
        omega (arith, whole, same, place, next_place_row _ _ _ _ _ e, row_size_least r.degree r.top r.gaps)
