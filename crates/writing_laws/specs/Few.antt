-- A ranked list of degree m has at most 3·2^(m-2) rows, so its row count fits its bytes. Two levels below a pair (p, q) of the tree stand four
-- pairs, and the constant terms of their first polynomials are those of p, p + q, p and q. One of these is 0, and an even polynomial is never
-- primitive; the tree has 2^(m-2) such fours. Shown for every rule of a list. Assumes nothing.
use Rattle.std.specs.Prelude.{◌≡◌, refl, List, [], ◌∷◌, ◌++◌, ℕ, zero, suc, ◌+◌, ◌-◌, ◌*◌, ◌%◌, ◌^◌, ◌≤◌, ◌<◌, length}
use Rattle.std.proofs.Math.Path.{ap}
use Rattle.std.proofs.Common.{◌∙◌, subst, one-mul, length-append, pow_pos}
use Rattle.std.proofs.Math.Bool.{false}
use native.Mathlib.Omega.{arith}
use Rattle.std.proofs.Math.Decide.{ℕ_discrete}
use Rattle.std.specs.Int.Bits.{xor_add_and}
use Rattle.definitions.specs.declared.Selection.{Selection}
use Rattle.definitions.specs.Polynomial.{◌⊕◌, prod}
use Rattle.definitions.specs.Generator.{Pair, child, pairs_below}
use Rattle.definitions.specs.Ranking.{ranked}
use Rattle.definitions.specs.Catalogue.{count_size}
use Rattle.number_laws.specs.Truth.{truth_false, not_both}
use Rattle.number_laws.specs.Bounds.{LawfulDegree}
use Rattle.polynomial_laws.specs.Sum.{⊕_def}
use Rattle.polynomial_laws.specs.Degree.{HasDegree}
use Rattle.polynomial_laws.specs.Product.{prod_half, one_prod, two_prod}
use Rattle.fraction_laws.specs.WellFormed.{Proper, proper_positive}
use Rattle.fraction_laws.specs.Quotients.{two_linear, three_linear}
use Rattle.fraction_laws.specs.Level.{root, root_proper, child_proper}
use Rattle.fraction_laws.specs.Tree.{tree_def, pairs_below_suc}
use Rattle.order_laws.specs.Accepted.{accepted_is}
use Rattle.order_laws.specs.Parity.{even_not_primitive}
use Rattle.page_laws.specs.Insertion.{sort_length}
use Rattle.catalogue_laws.specs.Sizes.{count_fits}
use Rattle.ranking_laws.specs.Rule.{Rule, met_by, met_by_append, met_by_less, met_by_length, ranked_by, tree_ranked_by}
use Rattle.ranking_laws.specs.Met.{rule_of}
use Rattle.ranking_laws.specs.Ranked.{ranked_is}

-- ---- constant terms

lowest_sum : (a b : ℕ) → (a ⊕ b) % 2 ≡ (a + b) % 2
lowest_sum a b = omega (arith, ⊕_def a b, xor_add_and a b)

module _ (s : Pair) where
  -- By the quotient x the constant term of p becomes that of q,
  below_x : (child 2 s).p % 2 ≡ s.q % 2
  unfolding child
  below_x = lowest_sum (prod 2 s.p) s.q ∙ rw two_prod (omega arith)

  -- and by x + 1 that of p + q.
  below_other : (child 3 s).p % 2 ≡ (s.p + s.q) % 2
  unfolding child
  below_other =
      let three : prod 3 s.p ≡ 2 * s.p ⊕ s.p = prod_half 3 s.p ∙ rw (one_prod, one-mul) in
      let low : prod 3 s.p % 2 ≡ s.p % 2 = ap (λ (n : ℕ). n % 2) three ∙ lowest_sum (2 * s.p) s.p ∙ omega arith in
      lowest_sum (prod 3 s.p) s.q ∙ omega arith

child_q : (a : ℕ) (s : Pair) → (child a s).q ≡ s.p
unfolding child
child_q a s = refl

-- The pair two levels below s by the quotients a and b.
abbrev leaf : Pair → ℕ → ℕ → Pair
leaf s a b = child b (child a s)

-- The terms of three of the four; that of leaf s 3 2 is p's again.
module _ (s : Pair) where
  leaf_p : (leaf s 2 2).p % 2 ≡ s.p % 2
  leaf_p = below_x (child 2 s) ∙ rw child_q

  leaf_sum : (leaf s 2 3).p % 2 ≡ (s.p + s.q) % 2
  leaf_sum = below_other (child 2 s) ∙ omega (arith, below_x s, child_q 2 s)

  leaf_q : (leaf s 3 3).p % 2 ≡ s.q % 2
  leaf_q = below_other (child 3 s) ∙ omega (arith, below_other s, child_q 3 s)

-- ---- the fours

module _ (k : Rule) (low : 1 ≤ k.degree) where
  even_left_out : (n : ℕ) (s : Pair) → Proper n s → s.p % 2 ≡ 0 → k.admits s ≡ false
  even_left_out n s h even =
      truth_false (k.admits s)
      (λ t. not_both ((accepted_is k.degree s.p s.q).0 (k.only_accepted s t)).primitive_p
      (even_not_primitive k.degree s.p low (proper_positive h) even))

  one_less : (a b : List Pair) (s : Pair) → k.admits s ≡ false → length (met_by k (a ++ s ∷ b)) ≤ length a + length b
  one_less a b s f = rw (met_by_append k a (s ∷ b), met_by_less k s b f, length-append) (omega (arith, met_by_length k a, met_by_length k b))

  four_met : (n : ℕ) (s : Pair) → Proper n s → length (met_by k (pairs_below 2 s)) ≤ 3
  unfolding pairs_below
  four_met n s h = go (ℕ_discrete (s.p % 2) 0) (ℕ_discrete (s.q % 2) 0)
    where
      out : (a b : ℕ) → HasDegree a 1 → HasDegree b 1 → (leaf s a b).p % 2 ≡ 0 → k.admits (leaf s a b) ≡ false
      out a b ha hb = even_left_out (suc (suc n)) (leaf s a b) (child_proper (suc n) b (child a s) hb (child_proper n a s ha h))

      go : Dec (s.p % 2 ≡ 0) → Dec (s.q % 2 ≡ 0) → length (met_by k (leaf s 2 2 ∷ leaf s 2 3 ∷ leaf s 3 2 ∷ leaf s 3 3 ∷ [])) ≤ 3
      go (yes e) f = one_less [] (leaf s 2 3 ∷ leaf s 3 2 ∷ leaf s 3 3 ∷ []) (leaf s 2 2) (out 2 2 two_linear two_linear (leaf_p s ∙ e))
      go (no e) (yes f) = one_less (leaf s 2 2 ∷ leaf s 2 3 ∷ leaf s 3 2 ∷ []) [] (leaf s 3 3) (out 3 3 three_linear three_linear (leaf_q s ∙ f))
      go (no e) (no f) =
          let even : (leaf s 2 3).p % 2 ≡ 0 = leaf_sum s ∙ omega arith in
          one_less (leaf s 2 2 ∷ []) (leaf s 3 2 ∷ leaf s 3 3 ∷ []) (leaf s 2 3) (out 2 3 two_linear three_linear even)

  -- Of the 4·2^j pairs j + 2 levels below a pair.
  below_met : (j n : ℕ) (s : Pair) → Proper n s → length (met_by k (pairs_below (suc (suc j)) s)) ≤ 3 * 2 ^ j
  below_met zero n s h = four_met n s h
  below_met (suc j) n s h =
      let two = below_met j (suc n) (child 2 s) (child_proper n 2 s two_linear h) in
      let three = below_met j (suc n) (child 3 s) (child_proper n 3 s three_linear h) in
      rw (pairs_below_suc (suc (suc j)) s, met_by_append, length-append) (omega arith)

-- ---- the ranked list

module _ (k : Rule) (h : 2 ≤ k.degree) where
  two_above : suc (suc (k.degree - 2)) ≡ k.degree
  two_above = omega arith

  pub ranked_by_most : length (ranked_by k) ≤ 3 * 2 ^ (k.degree - 2)
  ranked_by_most =
      rw (← tree_ranked_by k (omega arith), sort_length, tree_def)
      (subst (λ (m : ℕ). length (met_by k (pairs_below m root)) ≤ 3 * 2 ^ (k.degree - 2)) two_above
      (below_met k (omega arith) (k.degree - 2) 0 root root_proper))

  -- Three quarters of 2^m are less than 2^m.
  pub ranked_by_below : length (ranked_by k) < 2 ^ k.degree
  ranked_by_below =
      let all : 4 * 2 ^ (k.degree - 2) ≡ 2 ^ k.degree = subst (λ (m : ℕ). 4 * 2 ^ (k.degree - 2) ≡ 2 ^ m) two_above (omega arith) in
      omega (arith, ranked_by_most, pow_pos (k.degree - 2))

module _ (l : Selection) where
  pub ranked_most : 2 ≤ l.degree → length (ranked l) ≤ 3 * 2 ^ (l.degree - 2)
  ranked_most h = rw ranked_is (ranked_by_most (rule_of l) h)

  pub ranked_below : 2 ≤ l.degree → length (ranked l) < 2 ^ l.degree
  ranked_below h = rw ranked_is (ranked_by_below (rule_of l) h)

pub ranked_count_fits : (l : Selection) → LawfulDegree l.degree → length (ranked l) < 256 ^ count_size l.degree
ranked_count_fits l h = omega (arith, ranked_below l h.low, count_fits l.degree h)
