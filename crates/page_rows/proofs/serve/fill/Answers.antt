-- `serve::fill` searches from the start, or from the key of the position's pair. Assumes nothing.
use Rattle.std.proofs.Common.{arith}
use Rattle.search.specs.Frame.{width_most}
use Rattle.page_rows.proofs.SearchLaws as laws
use borrow.Author.Rules.{rules}
use Rattle.page_rows.proofs.serve.fill.Goals as goal

pub write_key-requires : goal.write_key-requires
write_key-requires c =
    let accepted = laws.listed_pair c.args.list c.requires.1 c.in-After.is in
    record { lawful_list = search rules; well_formed = search rules; q_value = search rules; row_len = search rules }

pub search_all-requires-in-After : goal.search_all-requires-in-After
search_all-requires-in-After c =
    let short = width_most c.requires.0 in
    (c.requires.0, omega (arith, c.write_key.ensures.sized), c.requires.2)

pub returns-in-Start : goal.returns-in-Start
returns-in-Start c = laws.filled_start c.args.list c.in-Start.is c.search_all.ensures

pub returns-in-After : goal.returns-in-After
returns-in-After c = laws.filled_after c.args.list _ _ c.in-After.is c.write_key.ensures.is c.search_all-in-After.ensures
