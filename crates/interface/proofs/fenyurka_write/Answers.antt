-- `interface::fenyurka_write` meets its contract: the struct is that of the call's own answer, and the buffer is the call's own. Assumes nothing.
use Rattle.interface.proofs.fenyurka_write.Goals as goal

pub returns : goal.returns
returns c =
    let answer = c.write.ensures in
    record { value = rw (c.from.ensures, answer.value); file_after = answer.file_after }
