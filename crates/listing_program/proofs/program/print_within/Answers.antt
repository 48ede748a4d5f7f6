-- What `listing_program::program::print_within` prints is lawful, and its text is the listing. Assumes nothing.
use Rattle.std.proofs.Common.{subst, sym, ap, ◌∙◌, List, ℕ, OnOk}
use Rattle.std.specs.Io.KnownBytes.{Appends}
use Rattle.definitions.specs.Listing.{read_line}
use Rattle.listing_start.specs.Left.{Underway, text_left}
use Rattle.listing_start.specs.Decision.{start_underway, start_text}
use Rattle.listing_program.proofs.program.print_within.Goals as goal

pub print_parts-requires-clause-underway : goal.print_parts-requires-clause-underway
print_parts-requires-clause-underway g c = subst Underway (sym c.start-first.ensures) (start_underway (read_line c.args.input.now))

pub returns : goal.returns
returns g c =
    subst (λ (bytes : List ℕ). OnOk c.print_parts.result (Appends (g.W.Write.contents c.args.output.now) (g.W.Write.contents c.print_parts.new.output) bytes))
    (ap text_left c.start-first.ensures ∙ start_text c.args.input.now) c.print_parts.ensures
