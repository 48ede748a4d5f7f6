-- Rows from the walk: from the root of the tree nothing is found yet; when all is walked the ranked list's rows above the cut stand in the slice,
-- without their steps, and are counted; above the start are all. With their steps written the rows are whole. The row at the position ranks by its
-- key alone, which has no step. Assumes nothing.
use mathlib.Core.Path.{◌≡◌, sym, ap, ap₂, ◌∙◌}
use Rattle.std.specs.Prelude.{Option, None}
use Rattle.std.specs.Borrow.{Bor}
use mathlib.Core.Bool.{true}
use mathlib.Core.List.Memᴰ
use mathlib.Core.List.{List, map, Memᴰ}
use Prim.Native.Nat.{ℕ, ◌-◌, ◌*◌, ◌/◌, ◌≤◌}
use native.Mathlib.Nat.{div-mul-le_self, le-div_iff_mul-le, mul-le-mul_right}
use native.Mathlib.Omega.{arith}
use lib.Dec.{ltb}
use lib.Pow.{pow_mono}
use lib.ListN.{length, length-take, length-map}
use Rattle.definitions.specs.Generator.{Pair, accepted, pairs_below, tree}
use Rattle.definitions.specs.Number.{join, over}
use Rattle.definitions.specs.Pages.{Cut, start, after, rest, page, more}
use Rattle.definitions.specs.Ranking.{row_width, row_key, ranked, cut_of}
use Rattle.definitions.specs.declared.Selection.{Selection}
use Rattle.definitions.specs.declared.Position.{Position}
use Rattle.definitions.specs.declared.Position.TheVariants.{Start, After}
use Rattle.fraction_laws.specs.Level.{root_proper}
use Rattle.fraction_laws.specs.Tree.{tree_def}
use Rattle.fraction_laws.specs.WellFormed.{WellFormed, well_formed_is}
use Rattle.order_laws.specs.Floor.{accepted_at_accepted}
use Rattle.page_laws.specs.Ascending.{rest_all}
use Rattle.page_laws.specs.Alike.{rest_alike, page_alike}
use Rattle.page_laws.specs.Members.{page_out}
use Rattle.page_laws.specs.Rows.{rows_of, Wide, length_join, rows_back}
use Rattle.page_laws.specs.Search.{Search, offer_all, found, search_page, start_good, wide_page}
use Rattle.ranking_laws.specs.Met.{rule_of}
use Rattle.ranking_laws.specs.Ranked.{ranked_ascends, ranked_wide}
use Rattle.ranking_laws.specs.Steps.{unstepped, stepped, HaveSteps, begun, key_unstepped, length_unstepped, key_begun, met_begun, met_begun_wide, tree_begun}
use Rattle.ranking_laws.specs.Steps.{all_whole, rows_have_steps}
use Rattle.ranking_laws.specs.Reading.{ListedPosition, at_start, after_listed}
use Rattle.search.specs.Frame.{LawfulList, Lent, cut_after, state_of, offers}
use Rattle.search.specs.Walk.{Ready}
use Rattle.search.specs.declared.frame.Frame.{Frame}
use Rattle.search.specs.declared.frame.Tally.{Tally}
use Rattle.row_steps.specs.Written.{written}
use Rattle.slice_laws.specs.Over.{length_over, over_again}
use Rattle.page_rows.specs.Serve.{Filled}
use Rattle.definitions.specs.declared.Page.{Page}

-- ---- the walk from the root

abbrev root : Pair
root = record { p = 1; q = 0 }

module _ (l : Selection) (last : Option (Bor (List ℕ))) (s : List ℕ) (cap : ℕ) (lawful : LawfulList l) where
  abbrev cut : Cut
  cut = cut_after (row_width l) last

  abbrev frame : Frame
  frame = record { list = l; capacity = cap; last = last }

  -- Nothing is kept or counted yet.
  abbrev none : Search
  none = record { out = s; n = 0; count = 0 }

  pub ready : Lent l last → 1 ≤ cap → cap * row_width l ≤ length s → Ready l.degree 1 0 frame none
  ready lent some room = record {
    searching = record {
      framed = record { lawful = lawful; some = some; lent = lent };
      good = start_good row_key (row_width l) cap cut s room;
      few = omega (arith, pow_mono lawful.degree.high);
    };
    levels = omega arith;
    proper = let z : l.degree - l.degree ≡ 0 = omega arith in rw z root_proper;
    inside = λ t i. rw tree_def i;
  }

  -- All is walked: the rows found are those of the page, without their steps.
  abbrev rows : List (List ℕ)
  rows = page row_key cut cap (ranked l)

  rows_listed : (r : List ℕ) → Memᴰ r rows → Memᴰ r (ranked l)
  rows_listed r i = (page_out row_key cut cap (ranked l) i).0

  rows_wide : Wide (row_width l) rows
  rows_wide = wide_page row_key (row_width l) cut cap (ranked l) (ranked_wide l lawful.top.low)

  abbrev bare : List (List ℕ)
  bare = map unstepped rows

  bare_wide : Wide (row_width l) bare
  bare_wide x i =
      let made = Memᴰ.of_map unstepped rows i in
      ap length (sym made.2) ∙ length_unstepped made.0 ∙ rows_wide made.0 made.1

  -- Written they take as much room with their steps as without.
  same_room : length (join bare) ≡ length (join rows)
  same_room =
      length_join (row_width l) bare bare_wide
      ∙ ap (λ (n : ℕ). n * row_width l) (length-map rows unstepped)
      ∙ sym (length_join (row_width l) rows rows_wide)

  module _ {t : Tally} {o : List ℕ} (e : state_of o t ≡ offers frame (met_begun l (pairs_below l.degree root)) none) where
    walked : state_of o t ≡ found row_key (row_width l) cap cut s (map unstepped (ranked l))
    walked =
        e
        ∙ ap (λ (pairs : List Pair). offer_all row_key (row_width l) cap cut (met_begun l pairs) none) (sym (tree_def l.degree))
        ∙ search_page row_key (row_width l) cap cut s (met_begun l (tree l.degree)) (met_begun_wide l lawful.top.low (tree l.degree))
        ∙ ap (found row_key (row_width l) cap cut s) (tree_begun l (omega (arith, lawful.degree.low)))

    page_bare : page row_key cut cap (map unstepped (ranked l)) ≡ bare
    page_bare = page_alike row_key unstepped key_unstepped cut cap (ranked l)

    kept_is : t.kept ≡ length bare
    unfolding found
    kept_is = ap (λ (x : Search). x.n) walked ∙ ap length page_bare

    out_is : o ≡ over 0 (join bare) s
    unfolding found
    out_is = ap (λ (x : Search). x.out) walked ∙ ap (λ (p : List (List ℕ)). over 0 (join p) s) page_bare

    count_is : t.count ≡ length (rest row_key cut (ranked l))
    unfolding found
    count_is =
        ap (λ (x : Search). x.count) walked
        ∙ ap length (rest_alike row_key unstepped key_unstepped cut (ranked l))
        ∙ length-map (rest row_key cut (ranked l)) unstepped

    -- The rows kept are read back, and each has a step.
    kept_rows : rows_of (row_width l) t.kept o ≡ bare
    kept_rows = rw (kept_is, out_is) (rows_back (row_width l) bare s bare_wide)

    pub kept_have_steps : HaveSteps l.degree (rows_of (row_width l) t.kept o)
    kept_have_steps = rw kept_rows (rows_have_steps l rows rows_listed)

    pub kept_fit : cap * row_width l ≤ length s → t.kept * row_width l ≤ length o
    unfolding page
    kept_fit room =
        let few : length rows ≤ cap = omega (arith, length-take cap (rest row_key cut (ranked l))) in
        let size : length (join bare) ≡ t.kept * row_width l = rw kept_is (length_join (row_width l) bare bare_wide) in
        let most = mul-le-mul_right {m = t.kept} {n = cap} (row_width l) (omega (arith, kept_is, length-map rows unstepped)) in
        rw out_is (omega (arith, length_over 0 (join bare) s (omega arith)))

    -- The steps are written.
    pub searched : cap ≡ length s / row_width l → {z : List ℕ} → z ≡ written l.degree (row_width l) t.kept o
        → Filled l cut s (record { rows = t.kept; further = ltb cap t.count }) z
    unfolding more written
    searched full {z} made =
        let whole : z ≡ over 0 (join rows) s =
        made
        ∙ ap (λ (p : List (List ℕ)). over 0 (join (map (stepped l.degree) p)) o) kept_rows
        ∙ ap₂ (λ (p : List (List ℕ)) (x : List ℕ). over 0 (join p) x) (all_whole l rows rows_listed) out_is
        ∙ over_again (join bare) (join rows) s (omega (arith, same_room)) in
        record {
          count = kept_is ∙ length-map rows unstepped ∙ rw full;
          further = ap (ltb cap) count_is ∙ rw full;
          written = whole ∙ rw full;
        }

    -- From the start every row is counted, whatever the room.
    pub counted : last ≡ None → t.count ≡ length (ranked l)
    counted whole = count_is ∙ rw whole (ap length (rest_all row_key start (ranked l) (ranked_ascends l)))

-- As many rows as fit have room; where one fits they are at least one.
module _ (l : Selection) (s : List ℕ) {cap : ℕ} (full : cap ≡ length s / row_width l) where
  pub fitting_room : cap * row_width l ≤ length s
  fitting_room = rw full (div-mul-le_self (length s) (row_width l))

  pub fitting_some : row_width l ≤ length s → 1 ≤ cap
  fitting_some room = rw full ((le-div_iff_mul-le {k = row_width l} {x = 1} {y = length s} (omega arith)).1 (omega arith))

-- ---- the row at the position

module _ (l : Selection) {at : Position} {s t : List ℕ} {r : Page} where
  pub filled_start : at ≡ Start → Filled l start s r t → Filled l (cut_of l at) s r t
  unfolding cut_of
  filled_start e f = rw e f

  module _ (p q : ℕ) (e : at ≡ After p q) where
    pub filled_after : {last : List ℕ} → last ≡ begun l p q → Filled l (after (row_key last)) s r t → Filled l (cut_of l at) s r t
    unfolding cut_of
    filled_after k f = rw (e, ← key_begun l p q) (rw k at f)

-- A pair of the list is well-formed and accepted.
pub listed_pair : (l : Selection) {at : Position} {p q : ℕ} → ListedPosition (rule_of l) at → at ≡ After p q
    → WellFormed l.degree p q × (accepted l.degree p q ≡ true)
listed_pair l at_start e = let z : ◌≡◌ {A = ℕ} 0 1 = cc in absurd (omega arith)
listed_pair l {p = p} {q = q} (after_listed {p = a} {q = b} w t) e =
    let first : a ≡ p = cc in
    let second : b ≡ q = cc in
    ((well_formed_is l.degree p q).0 (rw (first, second) at w), accepted_at_accepted l.degree l.floor p q (rw (first, second) at t))
