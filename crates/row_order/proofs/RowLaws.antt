-- `<` of slices is the order of keys; `<` of a row's t-values and its pair, one behind the other, is that of rows, and so with p and q apart. Assumes
-- nothing.
use Rattle.std.proofs.Common.{◌≡◌, refl, sym, ap, ap₂, ◌∙◌, ℕ, ◌-◌, Bool, Option, None, Some, List, [], ◌∷◌, ◌++◌, length, take, drop, get_or, arith, length-drop}
use Rattle.std.proofs.Math.Seq.{take_all}
use Rattle.std.specs.declared.cmp.Ordering.{Ordering}
use Rattle.std.specs.declared.cmp.Ordering.TheVariants.{Less, Equal, Greater}
use Rattle.std.specs.Ordering.{nat_cmp, is_lt, is_some_and, partial_ordering_then}
use Rattle.std.specs.Cmp.Lexicographic.{slice_partial_cmp}
use Rattle.std.proofs.lemmas.Cmp.{same_from_slice_cmp_tested}
use Rattle.std.proofs.lemmas.Bool.Decides.{nat_tests}
use Rattle.definitions.specs.Pages.{before}
use Rattle.definitions.specs.Ranking.{ranks_from, row_key}

abbrev numbers_cmp : List ℕ → List ℕ → Option Ordering
numbers_cmp = slice_partial_cmp (λ x y. Some (nat_cmp x y))

lt_before : (a b : List ℕ) (r : Bool) → r ≡ is_some_and is_lt (numbers_cmp a b) → r ≡ before a b
unfolding before
lt_before = same_from_slice_cmp_tested nat_cmp is_lt before refl (λ _ _. refl) (λ _ _. refl) (λ x y xs ys o h. grind (arith, nat_tests))

-- One comparison behind another.
then_then : (o p q : Option Ordering)
    → partial_ordering_then (partial_ordering_then o p) q ≡ partial_ordering_then o (partial_ordering_then p q)
then_then None p q = refl
then_then (Some Less) p q = refl
then_then (Some Equal) p q = refl
then_then (Some Greater) p q = refl

then_equal : (o : Ordering) → partial_ordering_then (Some o) (Some Equal) ≡ Some o
then_equal Less = refl
then_equal Equal = refl
then_equal Greater = refl

then_append : (a b x y : List ℕ) → length a ≡ length b → partial_ordering_then (numbers_cmp a b) (numbers_cmp x y) ≡ numbers_cmp (a ++ x) (b ++ y)
then_append [] [] x y e = refl
then_append [] (n ∷ b) x y e = absurd (omega arith)
then_append (m ∷ a) [] x y e = absurd (omega arith)
then_append (m ∷ a) (n ∷ b) x y e =
    then_then (Some (nat_cmp m n)) (numbers_cmp a b) (numbers_cmp x y)
    ∙ ap (partial_ordering_then (Some (nat_cmp m n))) (then_append a b x y (omega arith))

-- p of one row against p of another, and q against q.
abbrev p_cmp : List ℕ → List ℕ → Option Ordering
p_cmp a b = Some (nat_cmp (get_or a 0 0) (get_or b 0 0))

abbrev q_cmp : List ℕ → List ℕ → Option Ordering
q_cmp a b = Some (nat_cmp (get_or a 1 0) (get_or b 1 0))

pairs_are : (a b : List ℕ) → length a ≡ length b → partial_ordering_then (p_cmp a b) (q_cmp a b) ≡ numbers_cmp (take 2 a) (take 2 b)
pairs_are [] [] e = refl
pairs_are (p ∷ []) (u ∷ []) e = refl
pairs_are (p ∷ q ∷ a) (u ∷ v ∷ b) e = sym (ap (partial_ordering_then (Some (nat_cmp p u))) (then_equal (nat_cmp q v)))
pairs_are [] (u ∷ b) e = absurd (omega arith)
pairs_are (p ∷ []) [] e = absurd (omega arith)
pairs_are (p ∷ []) (u ∷ v ∷ b) e = absurd (omega arith)
pairs_are (p ∷ q ∷ a) [] e = absurd (omega arith)
pairs_are (p ∷ q ∷ a) (u ∷ []) e = absurd (omega arith)

-- The numbers of a row from t(3) on, as a slice.
abbrev ranks : List ℕ → List ℕ
ranks r = take (length r - 3) (drop 3 r)

ranks_are : (r : List ℕ) → ranks r ≡ drop ranks_from r
ranks_are r = take_all (length r - 3) (drop 3 r) (omega (arith, length-drop 3 r))

module _ (a b : List ℕ) {r : Bool} where
  pub ranks_lt : r ≡ is_some_and is_lt (numbers_cmp (ranks a) (ranks b)) → r ≡ before (drop ranks_from a) (drop ranks_from b)
  ranks_lt h = lt_before (ranks a) (ranks b) r h ∙ ap₂ before (ranks_are a) (ranks_are b)

  pub rows_lt : length a ≡ length b → r ≡ is_some_and is_lt (partial_ordering_then (numbers_cmp (ranks a) (ranks b)) (numbers_cmp (take 2 a) (take 2 b)))
      → r ≡ before (row_key a) (row_key b)
  unfolding row_key
  rows_lt e h =
      let long : length (ranks a) ≡ length (ranks b) = rw (ranks_are a, ranks_are b, length-drop ranks_from a, length-drop ranks_from b, e) in
      lt_before (ranks a ++ take 2 a) (ranks b ++ take 2 b) r (h ∙ ap (is_some_and is_lt) (then_append (ranks a) (ranks b) (take 2 a) (take 2 b) long))
      ∙ ap₂ (λ (x y : List ℕ). before (x ++ take 2 a) (y ++ take 2 b)) (ranks_are a) (ranks_are b)

  -- The same of the tuple that the code compares.
  pub tuples_lt : length a ≡ length b
      → r ≡ is_some_and is_lt (partial_ordering_then (partial_ordering_then (numbers_cmp (ranks a) (ranks b)) (p_cmp a b)) (q_cmp a b))
      → r ≡ before (row_key a) (row_key b)
  tuples_lt e h =
      let pair = ap (partial_ordering_then (numbers_cmp (ranks a) (ranks b))) (pairs_are a b e) in
      rows_lt e (h ∙ ap (is_some_and is_lt) (then_then (numbers_cmp (ranks a) (ranks b)) (p_cmp a b) (q_cmp a b) ∙ pair))
