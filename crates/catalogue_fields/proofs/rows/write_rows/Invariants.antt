-- The invariant: the rows that are left, over what stands now, are all rows over what stood at entry.
use Rattle.catalogue_fields.proofs.RowLaws as laws
use Rattle.catalogue_fields.proofs.rows.write_rows.Given as goal

abbrev pub invariant-loop-k : goal.invariant-loop-k
invariant-loop-k l = laws.RowsLeft l.list.degree l.list.top l.list.gaps l.at l.count l.rows l.initial.file l.file l.k
