-- Lists at floors: the list of a floor is what that of floor 0 leaves where the rows with a smaller step are taken out, in the same order; and the floors
-- 0 and 1 have one list. By members, since both ascend. Assumes nothing.
use Rattle.std.specs.Prelude.{◌≡◌, Bool, List, map, ℕ, ◌≤◌, leb}
use Rattle.std.proofs.Math.Path.{refl, ap, fun_ext}
use Rattle.std.proofs.Common.{sym, ◌∙◌, arith}
use mathlib.Core.List.Memᴰ
use Rattle.definitions.specs.declared.Selection.{Selection}
use Rattle.definitions.specs.Number.{keep}
use Rattle.definitions.specs.Generator.{Pair, accepted, reaches_floor}
use Rattle.definitions.specs.Pages.{start, sort}
use Rattle.definitions.specs.Ranking.{ranks, row, row_key, all_pairs, listed_pairs, ranked}
use Rattle.definitions.specs.Writing.{step_of}
use Rattle.number_laws.specs.Lists.{keep_in, keep_out}
use Rattle.order_laws.specs.Floor.{accepted_at_both, accepted_at_accepted, small_floor_accepted}
use Rattle.page_laws.specs.Members.{Within}
use Rattle.page_laws.specs.Ascending.{keep_ascends, same_members}
use Rattle.ranking_laws.specs.Ranked.{ranked_ascends, ranked_in, ranked_out}

-- The list of the same degree, top dimension and kind at another floor.
abbrev pub at_floor : ℕ → Selection → Selection
at_floor floor l = record { degree = l.degree; top = l.top; floor = floor; gaps = l.gaps }

-- A row whose step is at least a floor.
abbrev pub long_step : ℕ → List ℕ → Bool
long_step floor r = leb floor (step_of r)

module _ (l : Selection) where
  -- A row has the floor nowhere in it.
  row_at_lem : (floor p q : ℕ) → row (at_floor floor l) p q ≡ row l p q
  unfolding row ranks
  row_at_lem floor p q = refl

  -- Its step is the pair's.
  row_step : (p q : ℕ) → long_step l.floor (row l p q) ≡ reaches_floor l.degree l.floor p q
  unfolding row reaches_floor
  row_step p q = refl

  abbrev whole : List (List ℕ)
  whole = ranked (at_floor 0 l)

  abbrev longer : List (List ℕ)
  longer = keep (long_step l.floor) whole

  in_longer : Within (ranked l) longer
  in_longer r i =
      let a = ranked_out l r i in
      let p = a.pair.p in
      let q = a.pair.q in
      let both = (accepted_at_both l.degree l.floor p q).0 a.passes in
      let all = ranked_in (at_floor 0 l) a.pair a.is_well_formed (small_floor_accepted l.degree 0 p q (omega arith) ∙ both.0) in
      Memᴰ.cast (sym a.is) (keep_in (long_step l.floor) (Memᴰ.cast (sym (row_at_lem 0 p q)) all) (row_step p q ∙ both.1))

  of_longer : Within longer (ranked l)
  of_longer r i =
      let kept = keep_out (long_step l.floor) whole i in
      let a = ranked_out (at_floor 0 l) r kept.0 in
      let p = a.pair.p in
      let q = a.pair.q in
      let is : row l p q ≡ r = sym (row_at_lem 0 p q) ∙ a.is in
      let reaches = sym (row_step p q) ∙ ap (long_step l.floor) is ∙ kept.1 in
      Memᴰ.cast (sym is) (ranked_in l a.pair a.is_well_formed
      ((accepted_at_both l.degree l.floor p q).1 (accepted_at_accepted l.degree 0 p q a.passes, reaches)))

  -- THE LIST OF A FLOOR IS A SUBLIST OF THE LIST OF FLOOR 0: ITS ROWS WITH A STEP OF AT LEAST THE FLOOR.
  pub floor_sublist : ranked l ≡ keep (long_step l.floor) (ranked (at_floor 0 l))
  floor_sublist =
      same_members row_key start start (ranked l) longer (ranked_ascends l)
      (keep_ascends row_key (long_step l.floor) start whole (ranked_ascends (at_floor 0 l)))
      in_longer of_longer

  -- FLOOR 0 IS THE MEANING OF DOCUMENT 01, AND SO IS FLOOR 1: the list has every accepted pair.
  pub small_floor_list : (floor : ℕ) → floor ≤ 1
      → ranked (at_floor floor l)
      ≡ sort row_key (map (λ (s : Pair). row l s.p s.q) (keep (λ (s : Pair). accepted l.degree s.p s.q) (all_pairs l.degree)))
  unfolding ranked listed_pairs row ranks
  small_floor_list floor h =
      ap (λ (test : Pair → Bool). sort row_key (map (λ (s : Pair). row l s.p s.q) (keep test (all_pairs l.degree))))
      (fun_ext (λ (s : Pair). small_floor_accepted l.degree floor s.p s.q h))
