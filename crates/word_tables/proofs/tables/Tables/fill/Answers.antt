-- `word_tables::tables::Tables::fill` meets its contract. A unit multiple that is no residue ends it: none of the entries behind is asked for. Assumes
-- nothing.
use Rattle.std.proofs.Common.{rules}
use Rattle.word_tables.specs.Filling.{filling_start, filling_more}
use Rattle.word_tables.proofs.tables.Tables.fill.Goals as goal

pub loop-n-init : goal.loop-n-init
loop-n-init c =
    let now = c.args.self.now in
    filling_start c.requires.well_formed.degree_p _ _ now.next now.word (search rules) (search rules)

pub loop-n-preserved : goal.loop-n-preserved
loop-n-preserved c =
    let pre = c.requires in
    filling_more pre.well_formed.degree_p _ pre.unit c.loop-n.invariant c.loop-n-test.true
    (rw c.modulo-residues.ensures.0 at c.product.ensures.0) c.word_of.ensures c.spread.ensures c.spread-in-loop-n.ensures
