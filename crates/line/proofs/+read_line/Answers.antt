-- `line::read_line` meets its contract: each way through it is one word, and the numbers behind it. Assumes nothing.
use Rattle.std.proofs.Common.{◌<◌, ◌∙◌, sym, length, length-take-le, arith, rules}
use Rattle.definitions.specs.Listing.{words_of}
use Rattle.line.specs.Part.{up_to_short}
use Rattle.line.specs.Numbers.{numbers_zero, numbers_few}
use Rattle.line.proofs.ReadLaws.{none_read, one_read, count_length, others_none, others_read, word_none, word_last, word_more}
use Rattle.line.proofs.+read_line.Goals as goal
use Rattle.line.proofs.+read_line.Goals.{then-end-line+in_ok-others, else-end-line}

pub returns-then-is_empty : goal.returns-then-is_empty
returns-then-is_empty t c =
    let all = none_read c.args.out.now (numbers_zero (words_of c.args.line.now) (search rules)) in record { value = all.0; out_after = all.1 }

pub slice_bounds-read_word-end : goal.slice_bounds-read_word-end
slice_bounds-read_word-end t c = sym (length-take-le c.find-end.result c.args.line.now (omega (arith, up_to_short 32 c.args.line.now, c.find-end.ensures)))

pub returns-in_err-n : goal.returns-in_err-n
returns-in_err-n t c =
    let a = c.args in
    let some : 0 < length a.out.now = search rules in
    let all = none_read a.out.now (word_none a.line.now a.out.now c.find-end.ensures some c.read_word.ensures c.in_err-n.was) in
    record { value = c.from_residual.ensures ∙ all.0; out_after = all.1 }

pub returns-in_err-others : goal.returns-in_err-others
returns-in_err-others t c =
    let a = c.args in
    let some : 0 < length a.out.now = search rules in
    let more = word_more a.line.now a.out.now c.find-end.ensures some c.read_word.ensures c.in_ok-n.was c.if-end-line.true in
    let all = others_none a.out.now c.in_ok-n.n _ some more (sym c.in_err-others.was ∙ c.read_line.ensures.value, c.read_line.ensures.out_after) in
    record { value = c.from_residual-in_err-others.ensures ∙ all.0; out_after = all.1 }

pub overflow_add-result : goal.overflow_add-result
overflow_add-result t c = elim c.if-end-line.branch [ then-end-line+in_ok-others w ↦ omega (arith, count_length _ (sym w.in_ok-others.was ∙ w.read_line.ensures.value), w.others-is, numbers_few) | else-end-line w ↦ omega (arith, w.others-is) ]

pub returns : goal.returns
returns t c =
    let a = c.args in
    let some : 0 < length a.out.now = search rules in
    elim c.if-end-line.branch [
      | then-end-line+in_ok-others w ↦
          let more = word_more a.line.now a.out.now c.find-end.ensures some c.read_word.ensures c.in_ok-n.was w.if-end-line.true in
          let all = others_read a.out.now c.in_ok-n.n _ some more (sym w.in_ok-others.was ∙ w.read_line.ensures.value, w.read_line.ensures.out_after) in
          record { value = rw w.others-is all.0; out_after = rw w.out-is all.1 }
      | else-end-line w ↦
          let all = one_read a.out.now some (word_last a.line.now a.out.now c.find-end.ensures some c.read_word.ensures c.in_ok-n.was w.if-end-line.false) in
          record { value = rw w.others-is all.0; out_after = rw w.out-is all.1 }
    ]
