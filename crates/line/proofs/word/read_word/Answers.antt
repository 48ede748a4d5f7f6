-- `line::word::read_word` reads a word as a number. Assumes nothing.
use Rattle.std.proofs.Common.{◌≡◌, ◌∙◌, sym, ◌≤◌, ◌-◌, get_or, add-one, arith, rules, ℕ, true}
use Rattle.std.proofs.lemmas.List.{drop_all}
use Rattle.std.proofs.lemmas.Bool.Decides.{nat_tests}
use Rattle.definitions.specs.Listing.{digit_zero, is_digit}
use Rattle.line.specs.Word.{digits_all, word_empty, word_long, word_digits_lem, digit_other, digit_more, one_digit_more, fewer_digits}
use Rattle.line.proofs.word.read_word.Goals as goal
use Rattle.line.proofs.word.read_word.Goals.{then-is_empty-via-then-is_empty, then-is_empty-via-else-is_empty+then-word-gt-MOST_DIGITS}

nine : (b : ℕ) → is_digit b ≡ true → b ≤ 57
nine b e = grind (arith, nat_tests)

pub returns-then-is_empty : goal.returns-then-is_empty
returns-then-is_empty c =
    let w = c.args.word.now in
    elim c.then-is_empty.branch [ then-is_empty-via-then-is_empty r ↦ word_empty w (search rules) | then-is_empty-via-else-is_empty+then-word-gt-MOST_DIGITS r ↦ word_long w r.if-word-gt-MOST_DIGITS.true ]

pub loop-b-init : goal.loop-b-init
loop-b-init c = record { few = omega arith; same = word_digits_lem c.args.word.now (search rules) c.if-word-gt-MOST_DIGITS.false }

pub returns-then-not-is_ascii_digit : goal.returns-then-not-is_ascii_digit
returns-then-not-is_ascii_digit c =
    let here = c.loop-b in
    sym (digit_other c.args.word.now here.b-index here.value c.loop-b-test.true (sym c.if-not-is_ascii_digit.ensures.value)) ∙ here.invariant.same

pub overflow_mul-value : goal.overflow_mul-value
overflow_mul-value c =
    let here = c.loop-b in
    omega (arith, fewer_digits here.value here.b-index here.invariant.few (omega arith))

pub overflow_add-value : goal.overflow_add-value
overflow_add-value c =
    let here = c.loop-b in
    omega (arith, fewer_digits here.value here.b-index here.invariant.few (omega arith))

pub loop-b-preserved : goal.loop-b-preserved
loop-b-preserved c =
    let here = c.loop-b in
    let w = c.args.word.now in
    let digit : c.from.result ≡ get_or w here.b-index 0 - digit_zero = search rules in
    record {
      few = rw (digit, add-one here.b-index) (one_digit_more here.value (get_or w here.b-index 0 - digit_zero) here.b-index here.invariant.few (let k = nine (get_or w here.b-index 0) (sym c.if-not-is_ascii_digit.ensures.value) in omega arith));
      same = rw digit (digit_more w here.b-index here.value c.loop-b-test.true (sym c.if-not-is_ascii_digit.ensures.value)) ∙ here.invariant.same;
    }

pub returns : goal.returns
returns c = let here = c.loop-b in sym (digits_all here.value) ∙ rw (drop_all here.b-index c.args.word.now c.loop-b-test.false) at here.invariant.same
