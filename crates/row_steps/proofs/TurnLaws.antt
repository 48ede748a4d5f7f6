-- One turn of the loop that writes steps: the next row stands as it was, so its pair has a step, and writing it makes one row more whole.
-- Assumes nothing.
use mathlib.Core.Path.{◌≡◌, sym, ap, ap₂, ◌∙◌}
use mathlib.Core.Bool.{true}
use mathlib.Core.List.{List, []}
use Prim.Native.Nat.{ℕ, suc, ◌+◌, ◌*◌, ◌≤◌, ◌<◌}
use native.Mathlib.Nat.{mul-le-mul_right, suc-mul, add-zero}
use native.Mathlib.Numerals.{add-one}
use native.Mathlib.Omega.{arith}
use lib.ListN.{length, take, drop, get_or, set}
use lib.Seq.{get_or-drop, get_or-take}
use Rattle.definitions.specs.Generator.{primitive, step}
use Rattle.fraction_laws.specs.WellFormed.{WellFormed}
use Rattle.page_laws.specs.Members.{get_d_member}
use Rattle.page_laws.specs.Rows.{rows_of, row_at_lem, length_rows}
use Rattle.ranking_laws.specs.Steps.{HasStep, HaveSteps}
use Rattle.row_steps.specs.Written.{written, behind_stays, more_written}

module _ (m w n i : ℕ) (s out : List ℕ) (wide : 2 < w) (room : n * w ≤ length s) (inside : i < n) (at : out ≡ written m w i s) where
  -- The row is in the slice.
  row_room_lem : suc i * w ≤ length s
  row_room_lem = omega (arith, mul-le-mul_right {m = suc i} {n = n} w inside)

  stays : (j : ℕ) → get_or out (i * w + j) 0 ≡ get_or (drop (i * w) s) j 0
  stays j =
      ap (λ (l : List ℕ). get_or l (i * w + j) 0) at
      ∙ sym (get_or-drop (i * w) (written m w i s) j 0)
      ∙ ap (λ (l : List ℕ). get_or l j 0) (behind_stays m w i s (omega (arith, row_room_lem, suc-mul i w)))

  first_stays : get_or out (i * w) 0 ≡ get_or (drop (i * w) s) 0 0
  first_stays = ap (λ (k : ℕ). get_or out k 0) (sym (add-zero (i * w))) ∙ stays 0

  row_has_step : HaveSteps m (rows_of w n s) → HasStep m (take w (drop (i * w) s))
  row_has_step h = rw (row_at_lem w n i s inside) at (h _ (get_d_member [] (rows_of w n s) i (omega (arith, length_rows w n s))))

  pub pair_has_step : HaveSteps m (rows_of w n s)
      → WellFormed m (get_or out (i * w) 0) (get_or out (i * w + 1) 0) × (primitive m (get_or out (i * w) 0) ≡ true)
  pair_has_step h =
      let r = row_has_step h in
      let p = get_or-take w (drop (i * w) s) 0 0 (omega arith) in
      let q = get_or-take w (drop (i * w) s) 1 0 (omega arith) in
      rw (first_stays, stays 1, ← p, ← q) (r.is_well_formed, r.primitive_p)

  pub one_more : {v : ℕ} → v ≡ step m (get_or out (i * w) 0) (get_or out (i * w + 1) 0) → set out (i * w + 2) v ≡ written m w (i + 1) s
  one_more {v} e =
      ap (λ (l : List ℕ). set l (i * w + 2) v) at
      ∙ more_written m w i s wide row_room_lem (e ∙ ap₂ (step m) first_stays (stays 1))
      ∙ ap (λ (k : ℕ). written m w k s) (sym (add-one i))
