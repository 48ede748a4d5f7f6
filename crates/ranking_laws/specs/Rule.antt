-- A ranked list by its rule: a degree, which pairs the list has, and rows that begin p, q, σ and rank by as many numbers each. Whatever the test
-- and the rows are, a row's key ends in its pair, so rows of different pairs have different keys: sorted they ascend strictly, each pair once.
-- The tree has each well-formed pair with linear quotients once, so on it the same rows are met as among all pairs. Assumes nothing.
use Rattle.std.specs.Prelude.{◌≡◌, Bool, true, false, ℕ, ◌+◌, ◌^◌, ◌≤◌, length, drop}
use Rattle.std.proofs.Math.Path.{refl}
use Rattle.std.proofs.Common.{sym, ap, ◌∙◌, drop_at}
use mathlib.Core.List.Memᴰ
use mathlib.Core.List.{List, [], ◌∷◌, ◌++◌, map, Memᴰ, Nodup, map-map}
use native.Mathlib.Omega.{arith}
use Rattle.definitions.specs.Number.{keep}
use Rattle.definitions.specs.Generator.{Pair, well_formed, accepted, step, tree}
use Rattle.definitions.specs.Pages.{start, sort}
use Rattle.definitions.specs.Ranking.{ranks_from, row_key, all_pairs}
use Rattle.number_laws.specs.Truth.{by_test}
use Rattle.number_laws.specs.Lists.{keep_in, keep_out, keep_once, map_once}
use Rattle.fraction_laws.specs.Tree.{tree_sound, tree_complete, tree_once, tree_count}
use Rattle.order_laws.specs.Accepted.{accepted_is}
use Rattle.page_laws.specs.Members.{Within}
use Rattle.page_laws.specs.Ascending.{Ascends, ascends_once}
use Rattle.page_laws.specs.Insertion.{sort_in, sort_out, sort_length, sort_ascends, sort_same}
use Rattle.page_laws.specs.Rows.{Wide}
use Rattle.ranking_laws.specs.Pairs.{all_pairs_in, all_pairs_out, all_pairs_once}

pub record Rule : Type 0 where
  pub degree : ℕ
  -- Which pairs the list has; accepted ones only.
  pub admits : Pair → Bool
  pub only_accepted : (s : Pair) → admits s ≡ true → accepted degree s.p s.q ≡ true
  -- A pair's row, and the numbers in it that rank: so many.
  pub row : Pair → List ℕ
  pub ranks : Pair → List ℕ
  pub begins : (s : Pair) → row s ≡ s.p ∷ s.q ∷ step degree s.p s.q ∷ ranks s
  pub many : ℕ
  pub sized : (s : Pair) → length (ranks s) ≡ many

abbrev pub width_by : Rule → ℕ
width_by k = ranks_from + k.many

-- The rows of those pairs of l that the list has, in their order.
unfoldable pub met_by : Rule → List Pair → List (List ℕ)
met_by k l = map k.row (keep k.admits l)

unfoldable pub ranked_by : Rule → List (List ℕ)
ranked_by k = sort row_key (met_by k (all_pairs k.degree))

-- A row that was met, with its pair.
pub record MetRow (k : Rule) (l : List Pair) (r : List ℕ) : Type 0 where
  pub pair : Pair
  pub listed : Memᴰ pair l
  pub passes : k.admits pair ≡ true
  pub is : k.row pair ≡ r

-- A row of the ranked list, with its pair.
pub record ListedRow (k : Rule) (r : List ℕ) : Type 0 where
  pub pair : Pair
  pub is_well_formed : well_formed k.degree pair.p pair.q ≡ true
  pub passes : k.admits pair ≡ true
  pub is : k.row pair ≡ r

module _ (k : Rule) where
  -- ---- lists of pairs taken apart

  pub met_by_none : met_by k [] ≡ []
  unfolding met_by keep
  met_by_none = refl

  pub met_by_more : (s : Pair) (l : List Pair) → k.admits s ≡ true → met_by k (s ∷ l) ≡ k.row s ∷ met_by k l
  unfolding met_by keep
  met_by_more s l t = rw t

  pub met_by_less : (s : Pair) (l : List Pair) → k.admits s ≡ false → met_by k (s ∷ l) ≡ met_by k l
  unfolding met_by keep
  met_by_less s l t = rw t

  pub met_by_append : (a b : List Pair) → met_by k (a ++ b) ≡ met_by k a ++ met_by k b
  unfolding met_by keep
  met_by_append [] b = refl
  met_by_append (s ∷ a) b = by_test (k.admits s) (λ t. rw (t, met_by_append a b)) (λ f. rw f (met_by_append a b))

  pub met_by_length : (l : List Pair) → length (met_by k l) ≤ length l
  unfolding met_by keep
  met_by_length [] = omega arith
  met_by_length (s ∷ l) = by_test (k.admits s) (λ t. rw t (omega (arith, met_by_length l))) (λ f. rw f (omega (arith, met_by_length l)))

  -- ---- members and widths

  pub met_by_in : (l : List Pair) (s : Pair) → Memᴰ s l → k.admits s ≡ true → Memᴰ (k.row s) (met_by k l)
  unfolding met_by
  met_by_in l s i t = Memᴰ.map k.row (keep_in k.admits i t)

  pub met_by_out : (l : List Pair) (r : List ℕ) → Memᴰ r (met_by k l) → MetRow k l r
  unfolding met_by
  met_by_out l r i =
      let made = Memᴰ.of_map k.row (keep k.admits l) i in
      let kept = keep_out k.admits l made.1 in
      record { pair = made.0; listed = kept.0; passes = kept.1; is = made.2 }

  pub row_width_lem : (s : Pair) → length (k.row s) ≡ width_by k
  row_width_lem s = rw (k.begins s) (omega (arith, k.sized s))

  pub met_by_wide : (l : List Pair) → Wide (width_by k) (met_by k l)
  met_by_wide l r i = let a = met_by_out l r i in rw (← a.is) (row_width_lem a.pair)

  -- ---- keys tell pairs apart

  pub key_by : (s : Pair) → row_key (k.row s) ≡ k.ranks s ++ (s.p ∷ s.q ∷ [])
  unfolding row_key
  key_by s = rw (k.begins s)

  pub key_apart : (s t : Pair) → row_key (k.row s) ≡ row_key (k.row t) → s ≡ t
  key_apart s t e =
      let ends : s.p ∷ s.q ∷ [] ≡ t.p ∷ t.q ∷ [] =
      sym (drop_at (k.ranks s) (s.p ∷ s.q ∷ []) k.many (k.sized s))
      ∙ ap (drop k.many) (sym (key_by s) ∙ e ∙ key_by t)
      ∙ drop_at (k.ranks t) (t.p ∷ t.q ∷ []) k.many (k.sized t) in
      let first : s.p ≡ t.p = cc in
      let second : s.q ≡ t.q = cc in
      λ i. record { p = first i; q = second i }

  met_by_once : (l : List Pair) → Nodup l → Nodup (map row_key (met_by k l))
  unfolding met_by
  met_by_once l n =
      rw (map-map row_key k.row (keep k.admits l))
      (map_once (λ (s : Pair). row_key (k.row s)) (keep k.admits l) (λ s t u v e. key_apart s t e) (keep_once k.admits l n))

  -- ---- the ranked list

  abbrev all : List (List ℕ)
  all = met_by k (all_pairs k.degree)

  pub ranked_by_ascends : Ascends row_key start (ranked_by k)
  unfolding ranked_by
  ranked_by_ascends = sort_ascends row_key all (met_by_once (all_pairs k.degree) (all_pairs_once k.degree))

  pub ranked_by_once : Nodup (ranked_by k)
  ranked_by_once = ascends_once row_key start (ranked_by k) ranked_by_ascends

  pub ranked_by_wide : Wide (width_by k) (ranked_by k)
  unfolding ranked_by
  ranked_by_wide r i = met_by_wide (all_pairs k.degree) r (sort_out row_key all r i)

  pub ranked_by_in : (s : Pair) → well_formed k.degree s.p s.q ≡ true → k.admits s ≡ true → Memᴰ (k.row s) (ranked_by k)
  unfolding ranked_by
  ranked_by_in s w t = sort_in row_key all (k.row s) (met_by_in (all_pairs k.degree) s (all_pairs_in k.degree s w) t)

  pub ranked_by_out : (r : List ℕ) → Memᴰ r (ranked_by k) → ListedRow k r
  unfolding ranked_by
  ranked_by_out r i =
      let a = met_by_out (all_pairs k.degree) r (sort_out row_key all r i) in
      record { pair = a.pair; is_well_formed = all_pairs_out k.degree a.pair a.listed; passes = a.passes; is = a.is }

  -- ---- the tree has them all

  -- Where those pairs of one list that are in the ranked list are in another, so are the rows met.
  met_by_within : (l j : List Pair) → ((s : Pair) → Memᴰ s l → k.admits s ≡ true → Memᴰ s j) → Within (met_by k l) (met_by k j)
  met_by_within l j f r i =
      let a = met_by_out l r i in
      Memᴰ.cast (sym a.is) (met_by_in j a.pair (f a.pair a.listed a.passes) a.passes)

  -- The rows met on the tree, sorted, are the ranked list.
  pub tree_ranked_by : 1 ≤ k.degree → sort row_key (met_by k (tree k.degree)) ≡ ranked_by k
  unfolding ranked_by
  tree_ranked_by h =
      let m = k.degree in
      sort_same row_key (met_by k (tree m)) all (met_by_once (tree m) (tree_once m)) (met_by_once (all_pairs m) (all_pairs_once m))
      (met_by_within (tree m) (all_pairs m) (λ s i t. all_pairs_in m s (tree_sound m s h i).is_well_formed))
      (met_by_within (all_pairs m) (tree m)
      (λ s i t. tree_complete m s (record { is_well_formed = all_pairs_out m s i; quotients = ((accepted_is m s.p s.q).0 (k.only_accepted s t)).linear })))

  -- There are no more rows than pairs in the tree.
  pub ranked_by_few : 1 ≤ k.degree → length (ranked_by k) ≤ 2 ^ k.degree
  ranked_by_few h =
      let m = k.degree in
      rw (← tree_ranked_by h, sort_length) (omega (arith, met_by_length (tree m), tree_count m))
