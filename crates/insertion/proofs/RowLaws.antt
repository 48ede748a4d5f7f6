-- A row is put in by two copies: the numbers behind its slot moved up within the slice, and the row written over its place. Assumes nothing.
use Rattle.std.proofs.Common.{◌≡◌, ℕ, suc, ◌+◌, ◌-◌, ◌*◌, ◌≤◌, ◌<◌, List, length, take, drop, sym, ◌∙◌, arith, append_assoc, mul-le-mul_right}
use Rattle.std.proofs.Math.Seq.{slice, length-slice}
use Rattle.std.proofs.lemmas.Slice.{between_is, put_mid-paste}
use Rattle.std.proofs.lemmas.List.Edits.{paste_all}
use Rattle.std.specs.List.{copy_within}
use borrow.Rule.Slice.PartMut.{put_mid}
use Rattle.definitions.specs.Number.{over}
use Rattle.slice_laws.specs.Over.{over_def, over_before}
use Rattle.page_laws.specs.Rows.{shifted, spliced}

-- The numbers before one of n rows, and that row.
pub row_in : (w p n : ℕ) → p < n → p * w + w ≤ n * w
row_in w p n h = omega (arith, mul-le-mul_right {m = suc p} {n = n} w h)

-- Numbers moved up within the slice.
moved : (from to w : ℕ) (s : List ℕ) → from ≤ to → to + w ≤ length s → copy_within s from to (from + w) ≡ shifted from to w s
moved from to w s h room =
    rw (over_def (from + w) (slice from to s) s, length-slice from to s (omega arith), ← between_is s from to)

-- Numbers written over a part of the slice.
put_over : (at k : ℕ) (v s : List ℕ) → k ≡ length v → put_mid at k s v ≡ over at v s
put_over at k v s e =
    put_mid-paste at k s v v (length v) (λ i. v) (sym e) (λ i. length v)
    ∙ paste_all s at v (length v) (λ i. length v)
    ∙ sym (append_assoc (take at s) v (drop (at + length v) s))
    ∙ sym (over_def at v s)

pub row_put : (from to : ℕ) (row s : List ℕ) {mid new : List ℕ} → from ≤ to → to + length row ≤ length s → mid ≡ copy_within s from to (from + length row)
    → new ≡ row → put_mid from (from + length row - from) mid new ≡ spliced from to row s
row_put from to row s h room e f =
    rw (e, f, moved from to (length row) s h room)
    (put_over from (from + length row - from) row (shifted from to (length row) s) (omega arith)
    ∙ over_before from row (slice from to s) s (omega arith))
