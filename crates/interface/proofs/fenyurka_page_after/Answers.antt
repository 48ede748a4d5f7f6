-- `interface::fenyurka_page_after` meets its contract: the struct is that of the page's own answer, and the slice is the page's own. Assumes nothing.
use Rattle.interface.proofs.fenyurka_page_after.Goals as goal

pub returns : goal.returns
returns c =
    let answer = c.page.ensures in
    let request = c.page_request.ensures in
    record { value = rw (c.from.ensures, answer.answer, request); rows_after = rw request at answer.slice }
