-- Counters, one for each box, that go up by one for each point: each holds how many of the points so far lie in its box.
-- Assumes nothing.
use Rattle.std.specs.Prelude.{◌≡◌, List, ℕ, ◌+◌, ◌≤◌, ◌<◌, length, get_or, set, replicate}
use Rattle.std.proofs.Common.{sym, ap, ◌∙◌, arith, eq-eqb, ne_eqb}
use Rattle.std.proofs.Math.Numerals.{add-one}
use Rattle.std.proofs.Math.Dec.{eqb}
use Rattle.std.proofs.Math.ListN.{length-replicate, get_or-replicate, length-set}
use Rattle.definitions.specs.Number.{every, count, bit}
use Rattle.number_laws.specs.Lists.{set_each}
use Rattle.number_laws.specs.Every.{every_ext}
use Rattle.number_laws.specs.Count.{count_most}

-- The counters after n points, where the point h lies in the box numbered box h.
pub record Tallied (box : ℕ → ℕ) (size n : ℕ) (counts : List ℕ) : Type 0 where
  pub kept : length counts ≡ size
  pub each : (b : ℕ) → b < size → get_or counts b 0 ≡ count n (λ h. eqb (box h) b)

module _ (box : ℕ → ℕ) (size : ℕ) where
  pub tally_start : Tallied box size 0 (replicate size 0)
  unfolding count
  tally_start = record { kept = length-replicate size 0; each = λ b l. get_or-replicate size b 0 0 l }

  module _ {n : ℕ} {counts : List ℕ} (h : Tallied box size n counts) where
    -- no counter is above the number of points
    pub tally_most : (b : ℕ) → b < size → get_or counts b 0 ≤ n
    tally_most b l = rw (h.each b l) (count_most n _)

    pub tally_more : (b : ℕ) → b ≡ box n → b < size → Tallied box size (n + 1) (set counts b (get_or counts b 0 + 1))
    unfolding count
    tally_more b e l = record {
      kept = length-set counts b _ ∙ h.kept;
      each = λ c k. set_each (λ c x. x ≡ count (n + 1) (λ h. eqb (box h) c)) counts b (get_or counts b 0 + 1) (rw h.kept l) own c (λ other. else c k other);
    }
      where
        one : (c : ℕ) → count (n + 1) (λ h. eqb (box h) c) ≡ bit (eqb (box n) c) + count n (λ h. eqb (box h) c)
        one c = rw add-one

        own : get_or counts b 0 + 1 ≡ count (n + 1) (λ h. eqb (box h) b)
        own = rw (one b, eq-eqb (box n) b (sym e)) (omega (arith, h.each b l))

        else : (c : ℕ) → c < size → (c ≡ b → ⊥) → get_or counts c 0 ≡ count (n + 1) (λ h. eqb (box h) c)
        else c k other = rw (one c, ne_eqb (box n) c (λ back. other (sym (e ∙ back)))) (omega (arith, h.each c k))

    -- asked of the counters, and of the boxes
    pub tally_every : (boxes wanted : ℕ) → boxes ≤ size
        → every boxes (λ b. eqb (get_or counts b 0) wanted) ≡ every boxes (λ b. eqb (count n (λ h. eqb (box h) b)) wanted)
    tally_every boxes wanted fits = every_ext boxes _ _ (λ b l. ap (λ (k : ℕ). eqb k wanted) (h.each b (omega arith)))
