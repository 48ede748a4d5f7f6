-- What the walk does at a leaf and at a node: a leaf's rows are those of its pair; a node's rows are those of its two children, one after the
-- other; and what a walk needs at a node its children have. Assumes nothing.
use mathlib.Core.Path.{◌≡◌, refl, sym, ap, ap₂, ◌∙◌}
use mathlib.Core.Bool.{true}
use mathlib.Core.List.Memᴰ
use mathlib.Core.List.{List, [], ◌∷◌, ◌++◌, Memᴰ}
use Prim.Native.Nat.{ℕ, suc, ◌+◌, ◌-◌, ◌^◌, ◌≤◌, ◌<◌}
use native.Mathlib.Nat.{pow-suc}
use native.Mathlib.Omega.{arith}
use lib.Pow.{pow_mono}
use lib.ListN.{length}
use Rattle.definitions.specs.Generator.{largest_degree, Pair, child, pairs_below, tree, linear_quotients}
use Rattle.definitions.specs.Ranking.{row_key}
use Rattle.polynomial_laws.specs.Degree.{HasDegree}
use Rattle.fraction_laws.specs.WellFormed.{WellFormed, Proper, well_formed_is}
use Rattle.fraction_laws.specs.Quotients.{two_linear, three_linear}
use Rattle.fraction_laws.specs.Level.{child_def, child_proper}
use Rattle.fraction_laws.specs.Tree.{pairs_below_zero, pairs_below_suc, pairs_below_count, tree_sound}
use Rattle.page_laws.specs.Search.{Search, offer_append, offer_good}
use Rattle.ranking_laws.specs.Steps.{met_begun, met_begun_append, met_begun_length, met_begun_wide}
use Rattle.search.specs.Frame.{width_of, cut_from, offers, Searching}
use Rattle.search.specs.Walk.{Ready}
use Rattle.search.specs.declared.frame.Frame.{Frame}

abbrev pair : ℕ → ℕ → Pair
pair p q = record { p = p; q = q }

-- A search goes on in good order, and has counted at most the rows that were offered.
pub searching_on : {f : Frame} {s t : Search} (l : List Pair) (room : ℕ) → Searching f (length l + room) s
    → t ≡ offers f (met_begun f.list l) s → Searching f room t
searching_on {f} {s} {t} l room r e =
    let wide = met_begun_wide f.list r.framed.lawful.top.low l in
    let o = offer_good row_key (width_of f) f.capacity (cut_from f) (met_begun f.list l) s wide r.good in
    record {
      framed = r.framed;
      good = rw e o.0;
      few = omega (arith, r.few, o.1, ap (λ (x : Search). x.count) e, met_begun_length f.list l);
    }

module _ {left p q : ℕ} {f : Frame} {s : Search} (r : Ready left p q f s) where
  -- ---- at a leaf

  module _ (z : left ≡ 0) where
    some_degree : 1 ≤ f.list.degree
    some_degree = omega (arith, r.searching.framed.lawful.degree.low)

    leaf_inside : Memᴰ (pair p q) (tree f.list.degree)
    leaf_inside = r.inside (pair p q) (rw (z, pairs_below_zero) (Memᴰ.head refl))

    pub leaf_well_formed : WellFormed f.list.degree p q
    leaf_well_formed =
        (well_formed_is f.list.degree p q).0 (tree_sound f.list.degree (pair p q) some_degree leaf_inside).is_well_formed

    pub leaf_linear : linear_quotients p q ≡ true
    leaf_linear = (tree_sound f.list.degree (pair p q) some_degree leaf_inside).quotients

    pub leaf_searching : Searching f 1 s
    leaf_searching = record { framed = r.searching.framed; good = r.searching.good; few = rw z at r.searching.few }

    pub leaf_done : {o : Search} → o ≡ offers f (met_begun f.list (pair p q ∷ [])) s
        → o ≡ offers f (met_begun f.list (pairs_below left (pair p q))) s
    leaf_done e = rw (z, pairs_below_zero) e

  -- ---- at a node

  module _ (n : left ≡ 0 → ⊥) where
    one_more : left ≡ suc (left - 1)
    one_more = omega (arith, n)

    level : suc (f.list.degree - left) ≡ f.list.degree - (left - 1)
    level = omega (arith, r.levels, n)

    halves : 2 ^ left ≡ 2 ^ (left - 1) + 2 ^ (left - 1)
    halves = ap (λ (k : ℕ). 2 ^ k) one_more ∙ omega (arith, pow-suc 2 (left - 1))

    -- The pairs below the two children.
    abbrev left_pairs : List Pair
    left_pairs = pairs_below (left - 1) (child 2 (pair p q))

    abbrev right_pairs : List Pair
    right_pairs = pairs_below (left - 1) (child 3 (pair p q))

    below : pairs_below left (pair p q) ≡ left_pairs ++ right_pairs
    below = ap (λ (k : ℕ). pairs_below k (pair p q)) one_more ∙ pairs_below_suc (left - 1) (pair p q)

    pub node_fits : p < 2 ^ 31
    node_fits =
        let small : f.list.degree - left ≤ largest_degree = omega (arith, r.searching.framed.lawful.degree.high) in
        omega (arith, r.proper.degree_p.most, pow_mono small)

    -- The child by a is the pair that the code makes.
    made : (a : ℕ) {c : ℕ} → c ≡ (child a (pair p q)).p → child a (pair p q) ≡ pair c p
    made a e = child_def a (pair p q) ∙ ap (λ (x : ℕ). pair x p) (sym (e ∙ ap (λ (t : Pair). t.p) (child_def a (pair p q))))

    child_made : (a : ℕ) {c : ℕ} → HasDegree a 1 → c ≡ (child a (pair p q)).p → Proper (f.list.degree - (left - 1)) (pair c p)
    child_made a d e = rw (← level, ← made a e) (child_proper (f.list.degree - left) a (pair p q) d r.proper)

    pub left_ready : {c : ℕ} → c ≡ (child 2 (pair p q)).p → Ready (left - 1) c p f s
    left_ready e = record {
      searching = record { framed = r.searching.framed; good = r.searching.good; few = omega (arith, r.searching.few, halves) };
      levels = omega (arith, r.levels);
      proper = child_made 2 two_linear e;
      inside = λ t i. r.inside t (rw below (Memᴰ.append_left {s = left_pairs} right_pairs (rw (made 2 e) i)));
    }

    pub right_ready : {c d : ℕ} {o : Search} → c ≡ (child 2 (pair p q)).p → d ≡ (child 3 (pair p q)).p
        → o ≡ offers f (met_begun f.list (pairs_below (left - 1) (pair c p))) s → Ready (left - 1) d p f o
    right_ready {c} {d} e g u = record {
      searching = searching_on (pairs_below (left - 1) (pair c p)) (2 ^ (left - 1)) (record {
        framed = r.searching.framed;
        good = r.searching.good;
        few = omega (arith, r.searching.few, halves, pairs_below_count (left - 1) (pair c p));
      }) u;
      levels = omega (arith, r.levels);
      proper = child_made 3 three_linear g;
      inside = λ t i. r.inside t (rw below (Memᴰ.append_right left_pairs (rw (made 3 g) i)));
    }

    pub node_done : {c d : ℕ} {a o : Search} → c ≡ (child 2 (pair p q)).p → d ≡ (child 3 (pair p q)).p
        → a ≡ offers f (met_begun f.list (pairs_below (left - 1) (pair c p))) s
        → o ≡ offers f (met_begun f.list (pairs_below (left - 1) (pair d p))) a
        → o ≡ offers f (met_begun f.list (pairs_below left (pair p q))) s
    node_done {c} {d} e g u v =
        let first : List Pair = pairs_below (left - 1) (pair c p) in
        let second : List Pair = pairs_below (left - 1) (pair d p) in
        v
        ∙ ap (offers f (met_begun f.list second)) u
        ∙ sym (ap (λ (l : List Pair). offers f (met_begun f.list l) s)
        (below ∙ ap₂ (λ (x y : Pair). pairs_below (left - 1) x ++ pairs_below (left - 1) y) (made 2 e) (made 3 g))
        ∙ ap (λ (rows : List (List ℕ)). offers f rows s) (met_begun_append f.list first second)
        ∙ offer_append row_key (width_of f) f.capacity (cut_from f) (met_begun f.list first) (met_begun f.list second) s)
