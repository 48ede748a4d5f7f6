-- `interface::fenyurka_points` meets its contract: the struct is that of the call's own answer, and the slice is the call's own. Assumes nothing.
use Rattle.interface.proofs.fenyurka_points.Goals as goal

pub returns : goal.returns
returns c =
    let answer = c.points.ensures in
    record { value = rw (c.from.ensures, answer.answer); words_after = answer.slice }
