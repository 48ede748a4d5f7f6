-- The invariant: what is put and the text of the rows that are left are the whole text.
use Rattle.paged_rows.proofs.PutRows.{PutTo}
use Rattle.paged_rows.proofs.putting.put_rows.Given as goal

abbrev pub invariant-loop-i : goal.invariant-loop-i
invariant-loop-i l = PutTo l.width l.count l.size l.done l.further l.rows l.initial.text l.text l.at l.i
