-- The room at hand: the numbers of more rows than any list has, and the bytes of their text. Assumes nothing.
use Rattle.std.specs.Prelude.{ℕ, ◌*◌}
use Rattle.definitions.specs.Ranking.{longest_row}
use Rattle.paged_rows.specs.Room.{step_room}

abbrev rows_at_hand : ℕ
rows_at_hand = 3072

abbrev pub numbers_at_hand : ℕ
numbers_at_hand = rows_at_hand * longest_row

abbrev pub bytes_at_hand : ℕ
bytes_at_hand = rows_at_hand * step_room
