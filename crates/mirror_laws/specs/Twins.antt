-- Rows come in twos: the row of a pair's mirror has the same p and the same t-values, and is in the ranked list with it where the floor is 0 or 1, as
-- these floors leave nothing out. So the ranked list of every selection at floor 0 or 1 has an even length, and so has any list whose rule admits the
-- mirror of each pair that it admits. Assumes nothing.
use Rattle.std.specs.Prelude.{◌≡◌, true, length}
use Rattle.std.proofs.Common.{sym, ◌∙◌, arith}
use Rattle.std.proofs.Math.Path.{ap, fun_ext}
use mathlib.Core.List.{List, [], ◌∷◌, ◌++◌, map, Memᴰ}
use Prim.Native.Nat.{ℕ, suc, ◌-◌, ◌%◌, ◌≤◌}
use Rattle.std.proofs.Math.ListN.{length-map}
use Rattle.definitions.specs.declared.Selection.{Selection}
use Rattle.definitions.specs.Number.{keep, numbers, put_if}
use Rattle.definitions.specs.Generator.{least_degree, period, well_formed, step, accepted, Pair}
use Rattle.definitions.specs.Net.{t_value}
use Rattle.definitions.specs.Gaps.{sum_of_gaps}
use Rattle.definitions.specs.Ranking.{least_top, t_values, ranks, row, row_key, all_pairs, ranked}
use Rattle.number_laws.specs.Lists.{keep_in, keep_out, keep_once}
use Rattle.polynomial_laws.specs.Power.{rem_one}
use Rattle.fraction_laws.specs.WellFormed.{well_formed_is}
use Rattle.order_laws.specs.Cycle.{degree_big}
use Rattle.order_laws.specs.Floor.{accepted_at_accepted, small_floor_accepted}
use Rattle.page_laws.specs.Insertion.{sort_length}
use Rattle.ranking_laws.specs.Pairs.{all_pairs_in, all_pairs_out, all_pairs_once}
use Rattle.ranking_laws.specs.Rule.{Rule, met_by, ranked_by}
use Rattle.ranking_laws.specs.Met.{rule_of, row_def}
use Rattle.ranking_laws.specs.Ranked.{ranked_is, ranked_in}
use Rattle.mirror_laws.specs.Mirror.{inverse, mirror, mirror_inverse, mirror_well_formed, mirror_step, mirror_accepted, mirror_other, mirror_back}
use Rattle.mirror_laws.specs.Turned.{inverse_t_value}
use Rattle.mirror_laws.specs.Involution.{PairedOff, paired_even}

-- ---- t-values and rows

module _ (m p q : ℕ) (low : least_degree ≤ m) (w : well_formed m p q ≡ true) (t : accepted m p q ≡ true) where
  pub mirror_t_value : (s : ℕ) → t_value m p (inverse m p q) s ≡ t_value m p q s
  mirror_t_value s =
      let d = ((well_formed_is m p q).0 w).degree_p in
      sym (inverse_t_value m p q (inverse m p q) d (mirror_inverse m p q low w t ∙ sym (rem_one p (degree_big m p (omega arith) d))) s)

  pub mirror_t_values : (top : ℕ) → t_values m top p (inverse m p q) ≡ t_values m top p q
  unfolding t_values
  mirror_t_values top = ap (λ (f : ℕ → ℕ). map f (numbers least_top (suc top - least_top))) (fun_ext mirror_t_value)

module _ (l : Selection) (p q : ℕ) (low : least_degree ≤ l.degree) (w : well_formed l.degree p q ≡ true) (t : accepted l.degree p q ≡ true) where
  pub mirror_row : row l p (inverse l.degree p q)
      ≡ p ∷ inverse l.degree p q ∷ (period l.degree - step l.degree p q)
      ∷ t_values l.degree l.top p q ++ put_if l.gaps (sum_of_gaps l.degree p (inverse l.degree p q)) []
  unfolding ranks
  mirror_row = rw (row_def l p (inverse l.degree p q), mirror_step l.degree p q low w t, mirror_t_values l.degree p q low w t l.top)

  pub mirror_ranked : l.floor ≤ 1 → Memᴰ (row l p (inverse l.degree p q)) (ranked l)
  mirror_ranked small =
      ranked_in l (mirror l.degree (record { p = p; q = q })) (mirror_well_formed l.degree p q low w t)
      (small_floor_accepted l.degree l.floor p (inverse l.degree p q) small ∙ mirror_accepted l.degree p q low w t)

-- ---- even lengths

module _ (k : Rule) (low : least_degree ≤ k.degree)
    (closed : (s : Pair) → well_formed k.degree s.p s.q ≡ true → k.admits s ≡ true → k.admits (mirror k.degree s) ≡ true) where
  abbrev pairs : List Pair
  pairs = keep k.admits (all_pairs k.degree)

  paired : PairedOff (mirror k.degree) pairs
  paired = record {
    into = λ s i. let h = kept s i in
        keep_in k.admits (all_pairs_in k.degree (mirror k.degree s) (mirror_well_formed k.degree s.p s.q low h.0 (taken s h.1)))
        (closed s h.0 h.1);
    back = λ s i. let h = kept s i in λ j. record { p = s.p; q = mirror_back k.degree s.p s.q low h.0 (taken s h.1) j };
    other = λ s i e. let h = kept s i in mirror_other k.degree s.p s.q low h.0 (taken s h.1) (ap (λ (t : Pair). t.q) e);
  }
    where
      kept : (s : Pair) → Memᴰ s pairs → (well_formed k.degree s.p s.q ≡ true) × (k.admits s ≡ true)
      kept s i = let h = keep_out k.admits (all_pairs k.degree) i in (all_pairs_out k.degree s h.0, h.1)

      taken : (s : Pair) → k.admits s ≡ true → accepted k.degree s.p s.q ≡ true
      taken = k.only_accepted

  pub ranked_by_even : length (ranked_by k) % 2 ≡ 0
  unfolding ranked_by met_by
  ranked_by_even =
      rw (sort_length row_key (map k.row pairs), length-map pairs k.row)
      (paired_even (mirror k.degree) pairs (keep_once k.admits (all_pairs k.degree) (all_pairs_once k.degree)) paired)

-- THE RANKED LIST OF EVERY SELECTION AT FLOOR 0 OR 1, OF A LAWFUL DEGREE, HAS AN EVEN LENGTH.
pub ranked_even : (l : Selection) → least_degree ≤ l.degree → l.floor ≤ 1 → length (ranked l) % 2 ≡ 0
ranked_even l low small =
    let m = l.degree in
    rw (ranked_is l) (ranked_by_even (rule_of l) low
    (λ s w t. small_floor_accepted m l.floor s.p (inverse m s.p s.q) small
    ∙ mirror_accepted m s.p s.q low w (accepted_at_accepted m l.floor s.p s.q t)))
