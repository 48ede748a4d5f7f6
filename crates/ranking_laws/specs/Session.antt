-- The pages of a selected list are those of its rule: at a position that a walk has come to, with a slice that holds a row, no situation applies;
-- the rows that are read out of the slice are the rule's page; and so the walk goes on, or has the ranked list. Assumes nothing.
use Rattle.std.specs.Prelude.{◌≡◌, refl, true, false, List, [], ◌∷◌, ◌++◌, ℕ, ◌≤◌, length, Ok, Err}
use Rattle.std.proofs.Common.{sym, ap, ◌∙◌, le-div_iff_mul-le, arith, le-ltb}
use Rattle.std.proofs.Math.Bool.{not}
use Rattle.definitions.specs.Number.{join}
use Rattle.definitions.specs.Generator.{lawful_degree, lawful_floor}
use Rattle.definitions.specs.Ranking.{lawful_top, row_width, ranked, cut_of}
use Rattle.definitions.specs.Calls.{page_request, paging, position_situations, pair_situations, capacity, page_rows, further_row, page_answer, page_slice}
use Rattle.definitions.specs.declared.Selection.{Selection}
use Rattle.definitions.specs.declared.Position.{Position}
use Rattle.definitions.specs.declared.Position.TheVariants.{Start, After}
use Rattle.definitions.specs.declared.PageRequest.{PageRequest}
use Rattle.answer_laws.specs.Unless.{NoneApplies, passes, at_end, none_append, unless_given}
use Rattle.answer_laws.specs.Lent.{page_given}
use Rattle.number_laws.specs.Bounds.{lawful_top_is}
use Rattle.order_laws.specs.Floor.{accepted_at_is, reaches_floor_is}
use Rattle.page_laws.specs.Rows.{rows_of, rows_back}
use Rattle.ranking_laws.specs.Met.{rule_of, width_is}
use Rattle.ranking_laws.specs.Ranked.{ranked_is}
use Rattle.ranking_laws.specs.Reading.{cut_by, ListedPosition, at_start, after_listed, after_last, page_by, more_by, page_wide}
use Rattle.ranking_laws.specs.Reading.{ComeTo, come_to_page, come_to_last}

-- The rows that are read out of the slice after a page was given.
abbrev pub received_rows : Selection → Position → List ℕ → List (List ℕ)
received_rows l at s = rows_of (row_width l) (length (page_rows (page_request l at) s)) (page_slice (page_request l at) s)

pub cut_is : (l : Selection) (at : Position) → cut_of l at ≡ cut_by (rule_of l) at
unfolding cut_of cut_by
cut_is l Start = refl
cut_is l (After p q) = refl

module _ (l : Selection) (at : Position) (s : List ℕ) where
  abbrev request : PageRequest
  request = page_request l at

  rows_are : page_rows request s ≡ page_by (rule_of l) at (capacity request s)
  unfolding page_rows
  rows_are = rw (cut_is l at, ranked_is l)

  further_is : further_row request s ≡ more_by (rule_of l) at (capacity request s)
  unfolding further_row
  further_is = rw (cut_is l at, ranked_is l)

module _ (l : Selection) (degree_is_lawful : lawful_degree l.degree ≡ true) (top_is_lawful : lawful_top l.top ≡ true)
    (floor_is_lawful : lawful_floor l.floor ≡ true) where
  position_passes : {at : Position} → ListedPosition (rule_of l) at → NoneApplies (position_situations l.degree l.floor at)
  unfolding position_situations pair_situations
  position_passes at_start = at_end
  position_passes (after_listed {p = p} {q = q} w t) =
      let a = (accepted_at_is l.degree l.floor p q).0 t in
      let j = a.judged in
      passes (ap not w) (passes (ap not j.primitive_p) (passes (ap not j.linear) (passes (ap not j.coprime)
      (passes (ap not ((reaches_floor_is l.degree l.floor p q).1 a.reaches)) at_end))))

  not_refused : {at : Position} → ListedPosition (rule_of l) at → (s : List ℕ) → row_width l ≤ length s
      → page_answer (page_request l at) s ≡ Ok (record { rows = length (page_rows (page_request l at) s); further = further_row (page_request l at) s })
  unfolding page_answer paging
  not_refused h s room =
      unless_given Err _
      (passes (ap not degree_is_lawful) (passes (ap not top_is_lawful) (passes (ap not floor_is_lawful)
      (none_append (position_passes h) (passes (le-ltb (length s) (row_width l) room) at_end)))))

  -- ---- a walk through the list that has come to a position, and a slice that holds a row

  module _ {at : Position} {ps : List (List (List ℕ))} (r : ComeTo (rule_of l) at ps) (s : List ℕ) (room : row_width l ≤ length s) where
    abbrev asked : PageRequest
    asked = page_request l at

    -- The page is given, and
    pub page_answered : page_answer (page_request l at) s ≡ Ok (record { rows = length (page_rows (page_request l at) s); further = further_row (page_request l at) s })
    page_answered = not_refused r.listed s room

    received : received_rows l at s ≡ page_by (rule_of l) at (capacity asked s)
    received =
        let wide = rw (width_is l ((lawful_top_is l.top).0 top_is_lawful).low) at (page_wide (rule_of l) at (capacity asked s)) in
        rw (page_given asked s page_answered).3 (rows_back (row_width l) (page_rows asked s) s (rw (rows_are l at s) wide) ∙ rows_are l at s)

    full : 1 ≤ capacity asked s
    full = (le-div_iff_mul-le {k = row_width l} {x = 1} {y = length s} (omega arith)).1 (omega (arith, room))

    -- the walk goes on,
    pub page_goes_on : further_row (page_request l at) s ≡ true → ComeTo (rule_of l) (after_last (received_rows l at s)) (ps ++ received_rows l at s ∷ [])
    page_goes_on t = rw received (come_to_page (rule_of l) r (capacity asked s) full (sym (further_is l at s) ∙ t))

    -- or it has the ranked list.
    pub page_ends : further_row (page_request l at) s ≡ false → join (ps ++ received_rows l at s ∷ []) ≡ ranked l
    page_ends f = rw (received, ranked_is) (come_to_last (rule_of l) r (capacity asked s) (sym (further_is l at s) ∙ f))
