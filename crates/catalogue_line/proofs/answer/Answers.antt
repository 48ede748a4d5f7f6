-- `catalogue_line::answer` reads the numbers of the line; without any it refuses, and with some it writes. Assumes nothing.
use mathlib.Core.Path.{refl, sym}
use mathlib.Core.List.{List}
use Prim.Native.Nat.{ℕ}
use lib.ListN.{replicate}
use lib.Seq.{length-take-le}
use Rattle.catalogue_line.specs.Read.{most_numbers, read_within, read_first, read_some, outputs_unread}
use Rattle.catalogue_line.proofs.answer.Goals as goal

abbrev zeros : List ℕ
zeros = replicate most_numbers 0

pub returns-then-n-eq0 : goal.returns-then-n-eq0
returns-then-n-eq0 c =
    let a = c.args in
    let all = outputs_unread a.input.now zeros refl c.read_numbers-n.ensures.value c.read_numbers-n.ensures.out_after c.if-n-eq0.true
    a.file.now a.text.now c.refuse.ensures.value c.refuse.ensures.text_after in record { file_value = all.0; text_value = all.1.0; file_after = all.1.1.0; text_after = all.1.1.1 }

-- The numbers that are read are the first of the array.
pub slice_bounds-numbers-end : goal.slice_bounds-numbers-end
slice_bounds-numbers-end c = read_within c.args.input.now zeros refl c.read_numbers-n.ensures.value c.read_numbers-n.ensures.out_after

pub slice_bounds-write-end : goal.slice_bounds-write-end
slice_bounds-write-end c = sym (length-take-le _ _ (read_within c.args.input.now zeros refl c.read_numbers-n.ensures.value c.read_numbers-n.ensures.out_after))

pub write-requires : goal.write-requires
write-requires c = record { numbers_nonzero = read_some c.args.input.now zeros refl c.read_numbers-n.ensures.value c.read_numbers-n.ensures.out_after c.if-n-eq0.false; longest_file_in_bounds = c.requires.longest_file_in_bounds; refused_room_in_bounds = c.requires.refused_room_in_bounds }

pub returns : goal.returns
returns c =
    let same = read_first c.args.input.now zeros refl c.read_numbers-n.ensures.value c.read_numbers-n.ensures.out_after in
    let done = c.write.ensures in
    record {
      file_value = rw same at done.file_value;
      text_value = rw same at done.text_value;
      file_after = rw same at done.file_after;
      text_after = rw same at done.text_after;
    }
