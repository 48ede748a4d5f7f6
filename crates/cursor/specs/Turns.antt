-- Reading a list to its end, `loop { portion = next(c, ..); if !portion.more { return } c = portion.next }`: what was handed out and what is left
-- are together the ranked list, at the start and after each turn; each turn leaves less; and at the end all was handed out. Assumes nothing.
use Rattle.std.specs.Prelude.{◌≡◌, refl, Bool, true, false, cond, List, [], ◌∷◌, ◌++◌, ℕ, suc, ◌*◌, ◌/◌, ◌<◌, ◌≤◌, length, take}
use Rattle.std.proofs.Common.{sym, ap, ap₂, ◌∙◌, append_assoc, append-nil, le-div_iff_mul-le, div-mul-le_self, mul-le-mul_right, arith, length-drop, take-append-drop, length-take-le, ltb-true, ltb-false}
use Rattle.definitions.specs.Number.{join}
use Rattle.definitions.specs.Pages.{start, rest}
use Rattle.definitions.specs.Ranking.{row_width, row_key, ranked, cut_of}
use Rattle.definitions.specs.declared.Selection.{Selection}
use Rattle.number_laws.specs.Truth.{by_test}
use Rattle.number_laws.specs.Lists.{keep_out}
use Rattle.page_laws.specs.Members.{take_within}
use Rattle.page_laws.specs.Ascending.{rest_all}
use Rattle.slice_laws.specs.Over.{length_over}
use Rattle.page_laws.specs.Rows.{rows_of, Wide, length_join, rows_back}
use Rattle.ranking_laws.specs.Ranked.{ranked_ascends, ranked_wide}
use Rattle.ranking_laws.specs.Reading.{at_start}
use Rattle.search.specs.Frame.{LawfulList}
use Rattle.cursor.specs.Left.{left, start_of, OnList, Handed}
use Rattle.cursor.specs.declared.reading.Cursor.{Cursor}
use Rattle.cursor.specs.declared.reading.Portion.{Portion}

-- Between turns: the rows `done` were handed out, and with those that are left they are the ranked list.
pub record Reads (l : Selection) (done : List (List ℕ)) (c : Cursor) : Type 0 where
  pub on_list : OnList c
  pub list : c.list ≡ l
  pub whole : done ++ left c ≡ ranked l

pub left_start : (l : Selection) → left (start_of l) ≡ ranked l
unfolding left cut_of
left_start l = rest_all row_key start (ranked l) (ranked_ascends l)

pub start_reads : (l : Selection) → LawfulList l → Reads l [] (start_of l)
start_reads l lawful = record { on_list = record { lawful = lawful; listed = at_start }; list = refl; whole = left_start l }

-- The rows of a portion.
abbrev pub portion : Cursor → Portion → List (List ℕ)
portion c r = take r.rows (left c)

pub left_wide : (c : Cursor) → OnList c → Wide (row_width c.list) (left c)
unfolding left rest
left_wide c on r i = ranked_wide c.list on.lawful.top.low r (keep_out _ (ranked c.list) i).0

-- The measure of such a loop: 0 at the end, and else one more than the rows that are left.
abbrev pub to_go : Bool → Cursor → ℕ
to_go more c = cond more (suc (length (left c))) 0

module _ {c : Cursor} {s t : List ℕ} {r : Portion} (h : Handed c s r t) where
  pub next_reads : {l : Selection} {done : List (List ℕ)} → Reads l done c → Reads l (done ++ portion c r) r.next
  next_reads {done = done} reads = record {
    on_list = h.on_list;
    list = h.list ∙ reads.list;
    whole =
        append_assoc done (portion c r) (left r.next)
        ∙ ap (λ (rows : List (List ℕ)). done ++ (portion c r ++ rows)) h.behind
        ∙ ap (λ (rows : List (List ℕ)). done ++ rows) (take-append-drop r.rows (left c))
        ∙ reads.whole;
  }

  pub none_left : r.more ≡ false → left r.next ≡ []
  none_left e = empty (left r.next) (ltb-false 0 (length (left r.next)) (sym h.more ∙ e))
    where
      empty : (l : List (List ℕ)) → length l ≤ 0 → l ≡ []
      empty [] z = refl
      empty (x ∷ l) z = absurd (omega arith)

  pub portion_length : length (portion c r) ≡ r.rows
  portion_length = length-take-le r.rows (left c) (omega (arith, h.count))

  pub portion_wide : OnList c → Wide (row_width c.list) (portion c r)
  portion_wide on x i = left_wide c on x (take_within r.rows (left c) x i)

  -- The rows are read back from the slice.
  pub portion_back : OnList c → rows_of (row_width c.list) r.rows t ≡ portion c r
  portion_back on =
      ap₂ (rows_of (row_width c.list)) (sym portion_length) h.written ∙ rows_back (row_width c.list) (portion c r) s (portion_wide on)

  -- The portion's rows fit the slice, which stays as long as it was.
  pub rows_fit : r.rows * row_width c.list ≤ length s
  rows_fit =
      let most = mul-le-mul_right {m = r.rows} {n = length s / row_width c.list} (row_width c.list) (omega (arith, h.count)) in
      omega (arith, div-mul-le_self (length s) (row_width c.list))

  pub slice_kept : OnList c → length t ≡ length s
  slice_kept on =
      let rows = portion c r in
      let size : length (join rows) ≡ r.rows * row_width c.list =
      length_join (row_width c.list) rows (portion_wide on) ∙ ap (λ (n : ℕ). n * row_width c.list) portion_length in
      ap length h.written ∙ length_over 0 (join rows) s (omega (arith, rows_fit))

  pub turn_falls : row_width c.list ≤ length s → to_go r.more r.next < to_go true c
  turn_falls room =
      let some : 1 ≤ length s / row_width c.list = (le-div_iff_mul-le {k = row_width c.list} {x = 1} {y = length s} (omega arith)).1 (omega arith) in
      let fewer = ap length h.behind ∙ length-drop r.rows (left c) in
      by_test r.more
      (λ e. let any = ltb-true 0 (length (left r.next)) (sym h.more ∙ e) in rw e (omega (arith, h.count)))
      (λ e. rw e (omega arith))

-- Nothing is left: all was handed out.
pub reads_end : {l : Selection} {done : List (List ℕ)} {c : Cursor} → Reads l done c → left c ≡ [] → done ≡ ranked l
reads_end {done = done} reads e = sym (append-nil done) ∙ rw (← e) reads.whole
