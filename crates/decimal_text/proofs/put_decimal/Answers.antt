-- `decimal_text::put_decimal` puts the digits of n at the place where they fit. Assumes nothing.
use Rattle.definitions.specs.Listing.{decimal}
use Rattle.slice_laws.proofs.Placing.{fits_room, fits_put, fits_not}
use Rattle.decimal_text.proofs.put_decimal.Goals as goal

pub write_decimal-requires : goal.write_decimal-requires
write_decimal-requires c =
    let a = c.args in
    fits_room a.at (decimal a.n) a.out.now c.digits.ensures c.fits.ensures c.if-fits.true

pub returns-then-fits : goal.returns-then-fits
returns-then-fits c =
    let a = c.args in
    let all = fits_put a.at (decimal a.n) a.out.now c.digits.ensures c.fits.ensures c.if-fits.true
    c.write_decimal.ensures.value c.write_decimal.ensures.out_after in record { value = all.0; out_after = all.1 }

pub returns-else-fits : goal.returns-else-fits
returns-else-fits c =
    let a = c.args in
    let all = fits_not a.at (decimal a.n) a.out.now c.digits.ensures c.fits.ensures c.if-fits.false in record { value = all.0; out_after = all.1 }
