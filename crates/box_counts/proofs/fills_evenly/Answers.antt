-- `box_counts::fills_evenly` meets its contract: the counters, asked one by one, are the boxes. Assumes nothing.
use mathlib.Core.Path.{◌≡◌, refl, ◌∙◌}
use mathlib.Core.Bool.{Bool, and_comm}
use mathlib.Core.List.{List}
use Prim.Native.Nat.{ℕ, zero, suc, ◌≤◌, ◌-◌, ◌*◌, ◌%◌, ◌^◌}
use native.Mathlib.Numerals.{add-one}
use native.Mathlib.Omega.{arith}
use lib.Dec.{eqb}
use lib.ListN.{length, take, get_or}
use Rattle.std.proofs.Common.{rules, tests}
use Rattle.std.specs.List.{list_all}
use Rattle.std.proofs.lemmas.Iterator.{YieldsList-from_slice}
use Rattle.std.proofs.lemmas.Iterator.Search.{all_from_yields_List}
use Rattle.std.proofs.lemmas.List.Folds.{list_all_more}
use Rattle.definitions.specs.Number.{every}
use Rattle.number_laws.specs.Bounds.{one_shl}
use Rattle.counting_laws.specs.Numbering.{few_boxes, fills_is}
use Rattle.box_counts.proofs.fills_evenly.Goals as goal

-- the first n of a list asked, and its places below n
each_of_first : (test : ℕ → Bool) (xs : List ℕ) (n : ℕ) → n ≤ length xs → list_all test (take n xs) ≡ every n (λ b. test (get_or xs b 0))
unfolding every
each_of_first test xs zero l = refl
each_of_first test xs (suc n) l =
    rw add-one at (list_all_more test xs n 0 l) ∙ rw (each_of_first test xs n (omega arith)) (and_comm (every n (λ b. test (get_or xs b 0))) (test (get_or xs n 0)))

pub returns : goal.returns
returns c =
    let a = c.args in
    let boxes : 1 * 2 ^ (a.m - a.t) % 2 ^ 32 ≡ 2 ^ (a.m - a.t) = one_shl (a.m - a.t) (omega (arith, c.requires.shaped.degree.high)) in
    let wanted : 1 * 2 ^ a.t % 2 ^ 32 ≡ 2 ^ a.t = one_shl a.t (omega (arith, c.requires.shaped.degree.high, c.requires.t_le_m)) in
    let asked =
    all_from_yields_List (λ n. eqb n (1 * 2 ^ a.t % 2 ^ 32)) _ _ c.all.result c.all.ensures.ran
    (YieldsList-from_slice (take (1 * 2 ^ (a.m - a.t) % 2 ^ 32) c.count_in_boxes-counts.result) cc)
    (λ x b q k. search (rules, tests)) in
    asked
    ∙ each_of_first _ c.count_in_boxes-counts.result _
    (omega (arith, boxes, few_boxes a.m a.t c.requires.shaped.degree.high, c.count_in_boxes-counts.ensures.kept))
    ∙ fills_is a.m a.s a.t a.points.now a.shape.now _ c.requires.shaped c.requires.t_le_m.1 c.count_in_boxes-counts.ensures _ _ boxes wanted
