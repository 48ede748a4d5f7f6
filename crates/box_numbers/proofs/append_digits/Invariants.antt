-- Invariant: the numbers of the points passed have d digits more.
use Rattle.counting_laws.specs.Points.{Appended}
use Rattle.box_numbers.proofs.append_digits.Given as goal

abbrev pub invariant-loop-h : goal.invariant-loop-h
invariant-loop-h l = Appended l.m l.points l.j l.d l.boxes l.h l.longer
