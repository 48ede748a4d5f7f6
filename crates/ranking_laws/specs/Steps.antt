-- Rows whose steps are not written yet: 0 stands in their place. A key has no step in it, so such rows are sorted and cut into pages as the whole
-- rows are, and steps written into them make the rows whole. Assumes nothing.
use Rattle.std.specs.Prelude.{◌≡◌, true, false, ℕ, ◌≤◌, get_or, set}
use Rattle.std.proofs.Math.Path.{refl, ap}
use Rattle.std.proofs.Common.{sym, ap₂, ◌∙◌, arith, length-set, drop-set-lt}
use mathlib.Core.List.Memᴰ
use mathlib.Core.List.{List, [], ◌∷◌, ◌++◌, map, map-append, Memᴰ}
use Rattle.std.proofs.Math.ListN.{length, length-map}
use Rattle.std.proofs.lemmas.List.{take-set-le}
use Rattle.definitions.specs.declared.Selection.{Selection}
use Rattle.definitions.specs.Generator.{Pair, primitive, accepted_at, step, tree}
use Rattle.definitions.specs.Pages.{sort}
use Rattle.definitions.specs.Ranking.{least_top, row_width, ranks, row, row_key, ranked}
use Rattle.fraction_laws.specs.WellFormed.{WellFormed, well_formed_is}
use Rattle.order_laws.specs.Accepted.{accepted_is}
use Rattle.order_laws.specs.Floor.{accepted_at_accepted}
use Rattle.page_laws.specs.Alike.{sort_alike}
use Rattle.page_laws.specs.Rows.{Wide}
use Rattle.ranking_laws.specs.Met.{met, met_none, met_more, met_less, met_append, met_length, met_wide}
use Rattle.ranking_laws.specs.Ranked.{RankedRow, ranked_out, tree_ranked}

-- ---- any row

-- The row with 0 for its step.
unfoldable pub unstepped : List ℕ → List ℕ
unstepped r = set r 2 0

-- The row with the step of the pair that it begins with.
unfoldable pub stepped : ℕ → List ℕ → List ℕ
stepped m r = set r 2 (step m (get_or r 0 0) (get_or r 1 0))

-- The pair that a row begins with has a step: it is well-formed, and p is primitive.
pub record HasStep (m : ℕ) (r : List ℕ) : Type 0 where
  pub is_well_formed : WellFormed m (get_or r 0 0) (get_or r 1 0)
  pub primitive_p : primitive m (get_or r 0 0) ≡ true

abbrev pub HaveSteps : ℕ → List (List ℕ) → Type 0
HaveSteps m rows = (r : List ℕ) → Memᴰ r rows → HasStep m r

pub key_unstepped : (r : List ℕ) → row_key (unstepped r) ≡ row_key r
unfolding row_key unstepped
key_unstepped r = ap₂ ◌++◌ (drop-set-lt 3 r 2 0 (omega arith)) (take-set-le 2 r 2 0 (omega arith))

pub length_unstepped : (r : List ℕ) → length (unstepped r) ≡ length r
unfolding unstepped
length_unstepped r = length-set r 2 0

pub length_stepped : (m : ℕ) (r : List ℕ) → length (stepped m r) ≡ length r
unfolding stepped
length_stepped m r = length-set r 2 _

-- ---- the rows of a list

-- The row of a pair, its step not written yet.
unfoldable pub begun : Selection → ℕ → ℕ → List ℕ
begun l p q = p ∷ q ∷ 0 ∷ ranks l p q

module _ (l : Selection) (p q : ℕ) where
  begun_is : unstepped (row l p q) ≡ begun l p q
  unfolding unstepped row begun
  begun_is = refl

  whole_again : stepped l.degree (unstepped (row l p q)) ≡ row l p q
  unfolding unstepped stepped row
  whole_again = refl

  pub key_begun : row_key (begun l p q) ≡ row_key (row l p q)
  key_begun = ap row_key (sym begun_is) ∙ key_unstepped (row l p q)

-- The rows of the list's pairs among those given, in their order, without their steps.
unfoldable pub met_begun : Selection → List Pair → List (List ℕ)
met_begun l pairs = map unstepped (met l pairs)

module _ (l : Selection) where
  pub met_begun_none : met_begun l [] ≡ []
  unfolding met_begun
  met_begun_none = ap (map unstepped) (met_none l)

  pub met_begun_more : (s : Pair) (pairs : List Pair) → accepted_at l.degree l.floor s.p s.q ≡ true
      → met_begun l (s ∷ pairs) ≡ begun l s.p s.q ∷ met_begun l pairs
  unfolding met_begun
  met_begun_more s pairs t = ap (map unstepped) (met_more l s pairs t) ∙ ap (λ (r : List ℕ). r ∷ map unstepped (met l pairs)) (begun_is l s.p s.q)

  pub met_begun_less : (s : Pair) (pairs : List Pair) → accepted_at l.degree l.floor s.p s.q ≡ false
      → met_begun l (s ∷ pairs) ≡ met_begun l pairs
  unfolding met_begun
  met_begun_less s pairs t = ap (map unstepped) (met_less l s pairs t)

  pub met_begun_append : (a b : List Pair) → met_begun l (a ++ b) ≡ met_begun l a ++ met_begun l b
  unfolding met_begun
  met_begun_append a b = ap (map unstepped) (met_append l a b) ∙ map-append unstepped (met l a) (met l b)

  pub met_begun_length : (pairs : List Pair) → length (met_begun l pairs) ≤ length pairs
  unfolding met_begun
  met_begun_length pairs = omega (arith, length-map (met l pairs) unstepped, met_length l pairs)

  pub met_begun_wide : least_top ≤ l.top → (pairs : List Pair) → Wide (row_width l) (met_begun l pairs)
  unfolding met_begun
  met_begun_wide h pairs r i =
      let made = Memᴰ.of_map unstepped (met l pairs) i in
      ap length (sym made.2) ∙ length_unstepped made.0 ∙ met_wide l h pairs made.0 made.1

  -- Met on the tree and sorted, they are the ranked list's rows without their steps.
  pub tree_begun : 1 ≤ l.degree → sort row_key (met_begun l (tree l.degree)) ≡ map unstepped (ranked l)
  unfolding met_begun
  tree_begun h = sort_alike row_key unstepped key_unstepped (met l (tree l.degree)) ∙ ap (map unstepped) (tree_ranked l h)

  -- ---- steps written

  made_whole : (r : List ℕ) → RankedRow l r → stepped l.degree (unstepped r) ≡ r
  made_whole r k = rw (← k.is) (whole_again l k.pair.p k.pair.q)

  -- Steps written into rows of the list that were without them.
  pub all_whole : (rows : List (List ℕ)) → ((r : List ℕ) → Memᴰ r rows → Memᴰ r (ranked l))
      → map (stepped l.degree) (map unstepped rows) ≡ rows
  all_whole [] h = refl
  all_whole (r ∷ rows) h =
      ap₂ ◌∷◌ (made_whole r (ranked_out l r (h r (Memᴰ.head refl)))) (all_whole rows (λ x i. h x (Memᴰ.tail i)))

  row_has_step : (p q : ℕ) → WellFormed l.degree p q → primitive l.degree p ≡ true → HasStep l.degree (unstepped (row l p q))
  unfolding unstepped row
  row_has_step p q w t = record { is_well_formed = w; primitive_p = t }

  -- Each of them has a step.
  pub rows_have_steps : (rows : List (List ℕ)) → ((r : List ℕ) → Memᴰ r rows → Memᴰ r (ranked l))
      → HaveSteps l.degree (map unstepped rows)
  rows_have_steps rows h x i =
      let m = l.degree in
      let made = Memᴰ.of_map unstepped rows i in
      let k = ranked_out l made.0 (h made.0 made.1) in
      let s = k.pair in
      let accepted = (accepted_is m s.p s.q).0 (accepted_at_accepted m l.floor s.p s.q k.passes) in
      rw (← made.2, ← k.is) (row_has_step s.p s.q ((well_formed_is m s.p s.q).0 k.is_well_formed) accepted.primitive_p)
