-- `interface::fenyurka_row` meets its contract: the struct is that of the next row and the place behind it. Assumes nothing.
use Rattle.interface.proofs.fenyurka_row.Goals as goal

pub returns : goal.returns
returns c = rw (c.row.ensures, c.row_at-row.ensures, c.place_behind-next.ensures)
