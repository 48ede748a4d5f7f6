-- `line::read_numbers` reads the line that the input begins with. Assumes nothing.
use Rattle.std.proofs.Common.{◌≡◌, sym, ap, ◌∙◌, Option, ℕ, List, length, take, length-take-le, arith}
use Rattle.std.specs.Option.{unwrap_or}
use Rattle.definitions.specs.Number.{over}
use Rattle.definitions.specs.Listing.{newline, words_of, numbers_within}
use Rattle.line.specs.Part.{up_to_short, line_part}
use Rattle.line.specs.Numbers.{numbers_of, numbers_within_lem}
use Rattle.line.proofs.ReadLaws.{count_or_none}
use Rattle.line.proofs.read_numbers.Goals as goal

-- What was read is the line's.
line : (k : ℕ) (input : List ℕ) {end : ℕ} → end ≡ length (Rattle.line.specs.Part.up_to newline input) → numbers_of k (words_of (take end input)) ≡ numbers_within k input
line k input e = rw (e, line_part input) (numbers_within_lem k input)

pub slice_bounds-read_line-end : goal.slice_bounds-read_line-end
slice_bounds-read_line-end c = sym (length-take-le c.find-end.result c.args.input.now (omega (arith, up_to_short newline c.args.input.now, c.find-end.ensures)))

pub returns : goal.returns
returns c =
    let a = c.args in
    let same = line (length a.out.now) a.input.now c.find-end.ensures in
    record {
      value = c.unwrap_or.ensures ∙ ap (λ (o : Option ℕ). unwrap_or o 0) c.read_line.ensures.value ∙ count_or_none _ ∙ ap length same;
      out_after = c.read_line.ensures.out_after ∙ ap (λ (l : List ℕ). over 0 l a.out.now) same;
    }
