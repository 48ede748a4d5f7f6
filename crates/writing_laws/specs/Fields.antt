-- Every number of a ranked row fits its field in a catalogue: p without its leading term, q and σ are below 2^m, each t-value is at most m, Δ is below
-- 256, and the row is T + 1 numbers, or T + 2 with Δ. p and q by the pair's form, σ because it is coprime to 2^m - 1, t by its definition, Δ because it
-- is at most the sum of m/s. Assumes nothing.
use Rattle.std.proofs.Common.{subst, arith}
use Rattle.std.specs.Prelude.{[], ℕ, get_or}
use Rattle.std.proofs.Math.Nat.{pow-suc}
use Rattle.definitions.specs.declared.Selection.{Selection}
use Rattle.definitions.specs.Generator.{step}
use Rattle.definitions.specs.Ranking.{row, ranked}
use Rattle.number_laws.specs.Bounds.{LawfulDegree, LawfulTop}
use Rattle.fraction_laws.specs.WellFormed.{WellFormed, well_formed_is}
use Rattle.order_laws.specs.Accepted.{Accepted, coprime_step_lem}
use Rattle.order_laws.specs.Floor.{accepted_at_is}
use Rattle.net_laws.specs.TValue.{t_value_most}
use Rattle.page_laws.specs.Members.{get_d_member}
use Rattle.gap_laws.specs.Resolution.{gaps_fit_byte}
use Rattle.ranking_laws.specs.Met.{row_length, value_behind, delta_behind}
use Rattle.ranking_laws.specs.Ranked.{ranked_out}
use Rattle.catalogue_laws.specs.Written.{LawfulRow, LawfulRows}

module _ (l : Selection) (degree : LawfulDegree l.degree) (top : LawfulTop l.top) where
  row_lawful : (p q : ℕ) → WellFormed l.degree p q → Accepted l.degree p q → LawfulRow l.degree l.top l.gaps (row l p q)
  unfolding row
  row_lawful p q w a =
      let least_step = coprime_step_lem l.degree p q degree.low a.coprime in
      record {
        width = row_length l p q top.low;
        p_least = w.degree_p.least;
        p_most = omega (arith, w.degree_p.most, pow-suc 2 l.degree);
        q_most = w.smaller;
        step_most = omega (arith, least_step.below);
        t_most = λ s least most.
            omega (arith, value_behind l p q p q (step l.degree p q) s least most, t_value_most l.degree p w.degree_p q s);
        delta_most = λ e.
            omega (arith, delta_behind l p q p q (step l.degree p q) top.low e, gaps_fit_byte l.degree p q (omega (arith, degree.high)));
      }

  pub ranked_lawful : LawfulRows l.degree l.top l.gaps (ranked l)
  ranked_lawful k h =
      let r = ranked_out l (get_or (ranked l) k []) (get_d_member [] (ranked l) k h) in
      let m = l.degree in
      let p = r.pair.p in
      let q = r.pair.q in
      subst (LawfulRow m l.top l.gaps) r.is
      (row_lawful p q ((well_formed_is m p q).0 r.is_well_formed) ((accepted_at_is m l.floor p q).0 r.passes).judged)
