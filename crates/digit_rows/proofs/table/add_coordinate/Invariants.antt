use Prim.Native.Nat.{◌+◌, ◌-◌}
use borrow.Rule.Slice.PartMut.{put_mid}
use Rattle.digit_rows.proofs.TableLaws.{Adding}
use Rattle.digit_rows.proofs.table.add_coordinate.Given as goal

abbrev pub invariant-loop-place : goal.invariant-loop-place
invariant-loop-place l =
    Adding l.residues.p l.q l.residues.lead l.degree l.coordinate l.place-index l.row (put_mid l.start (l.start + l.degree - l.start) l.fn.table l.place-items)
