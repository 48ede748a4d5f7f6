-- No file that entries ask for is longer than `longest_file`, so a buffer of so many bytes holds each. A body of degree m has at most
-- 3·2^(m-2) rows (`Few`), and degrees ascend: the bodies behind a degree `last` and 3·2^(last-1) rows are together no more than the 3·2^(m-1) of
-- the largest degree m, as 2^(last-1) + 2^(m-2) ≤ 2^(m-1) for last < m. Assumes nothing.
use Rattle.std.specs.Prelude.{◌≡◌, List, ℕ, suc, ◌+◌, ◌-◌, ◌*◌, ◌^◌, ◌≤◌, ◌<◌, length}
use Rattle.std.proofs.Common.{ap, mul-le-mul_left, arith, pow_mono}
use Rattle.definitions.specs.declared.Selection.{Selection}
use Rattle.definitions.specs.Generator.{largest_degree}
use Rattle.definitions.specs.Ranking.{ranked}
use Rattle.definitions.specs.Catalogue.{row_size, first_entry}
use Rattle.definitions.specs.Writing.{ranked_file}
use Rattle.number_laws.specs.Bounds.{LawfulDegree, LawfulTop}
use Rattle.catalogue_laws.specs.Sizes.{longest_entry, longest_row_size, entry_size_most, row_size_most}
use Rattle.writing_laws.specs.Few.{ranked_most}
use Rattle.writing_laws.specs.RankedFile.{LawfulEntries, ends, next, list_size, file_size, file_length}

-- Thirty-two bytes for each number below 2^m, m being the largest degree.
abbrev pub longest_file : ℕ
longest_file = 32 * 2 ^ largest_degree

-- The bytes of three rows.
abbrev three_rows : ℕ
three_rows = 3 * longest_row_size

list_size_most : (l : Selection) → LawfulDegree l.degree → LawfulTop l.top → list_size l ≤ longest_entry + three_rows * 2 ^ (l.degree - 2)
unfolding list_size
list_size_most l d t =
    let row : length (ranked l) * row_size l.degree l.top l.gaps ≤ length (ranked l) * longest_row_size =
    mul-le-mul_left (length (ranked l)) (row_size_most l.degree l.top l.gaps t.high) in
    omega (arith, ranked_most l d.low, entry_size_most l.degree)

-- The halves of 2^(m-1), the first no less than what lies below `last`.
halves : (last m : ℕ) → 1 ≤ last → last < m → 2 ^ (last - 1) + 2 ^ (m - 2) ≤ 2 ^ (m - 1)
halves last m h k =
    let e : m - 1 ≡ suc (m - 2) = omega arith in
    omega (arith, ap (λ (n : ℕ). 2 ^ n) e, pow_mono {i = last - 1} {j = m - 2} (omega arith))

-- For entries behind the degree `last`, with an entry for each degree up to `last`.
sizes_most : {last : ℕ} {ls : List Selection} → LawfulEntries last ls → 1 ≤ last → last ≤ largest_degree
    → file_size ls + longest_entry * last + three_rows * 2 ^ (last - 1) ≤ first_entry + longest_entry * largest_degree + three_rows * 2 ^ (largest_degree - 1)
unfolding file_size
sizes_most {last} ends h k = omega (arith, pow_mono {i = last - 1} {j = largest_degree - 1} (omega arith))
sizes_most {last} (next {l = l} a d t f) h k =
    omega (arith, list_size_most l d t, halves last l.degree h a, sizes_most f (omega (arith, d.low)) d.high)

-- A lawful degree is above 1.
from_one : {ls : List Selection} → LawfulEntries 0 ls → LawfulEntries 1 ls
from_one ends = ends
from_one (next a d t f) = next d.low d t f

pub file_longest : (ls : List Selection) → LawfulEntries 0 ls → length (ranked_file ls) ≤ longest_file
file_longest ls h = omega (arith, file_length ls h, sizes_most (from_one h) (omega arith) (omega arith))
