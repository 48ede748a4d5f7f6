-- A body written portion by portion: the rows that were handed out stand as bytes at the body's place, and with those that are left they are the
-- ranked list. A portion's bytes go behind those written; where no row is left, the body is written. Assumes nothing.
use mathlib.Core.Path.{◌≡◌, refl, sym, ap, ap₂, ◌∙◌, subst}
use mathlib.Core.Bool.{Bool, true, false, true≢false}
use mathlib.Core.List.{List, [], ◌++◌, map, map-append}
use Prim.Native.Nat.{ℕ, ◌+◌, ◌*◌, ◌^◌, ◌<◌, ◌≤◌}
use native.Mathlib.Nat.{add-mul, mul-le-mul_right}
use native.Mathlib.Omega.{arith}
use lib.ListN.{length, length-append, get_or-append}
use lib.Seq.{get_or-append-add}
use Rattle.definitions.specs.declared.Selection.{Selection}
use Rattle.definitions.specs.Number.{join, over}
use Rattle.definitions.specs.Ranking.{row_width, ranked}
use Rattle.definitions.specs.Catalogue.{row_size}
use Rattle.definitions.specs.Writing.{row_bytes, body_bytes, ranked_list}
use Rattle.slice_laws.specs.Over.{over_nothing, length_over, over_append}
use Rattle.page_laws.specs.Rows.{rows_of, join_append}
use Rattle.catalogue_laws.specs.Sizes.{count_most}
use Rattle.catalogue_laws.specs.Written.{LawfulRow, LawfulRows, rows_length}
use Rattle.writing_laws.specs.Few.{ranked_count_fits}
use Rattle.writing_laws.specs.Fields.{ranked_lawful}
use Rattle.search.specs.Frame.{LawfulList}
use Rattle.cursor.specs.Left.{left, start_of, Handed}
use Rattle.cursor.specs.Turns.{Reads, start_reads, next_reads, none_left, portion, portion_length, portion_back, reads_end}
use Rattle.cursor.specs.declared.reading.Cursor.{Cursor}
use Rattle.cursor.specs.declared.reading.Portion.{Portion}

-- ---- lawful rows

module _ (m top : ℕ) (gaps : Bool) (a b : List (List ℕ)) (h : LawfulRows m top gaps (a ++ b)) where
  lawful_first : LawfulRows m top gaps a
  lawful_first k l = subst (LawfulRow m top gaps) (get_or-append a b [] k l) (h k (omega (arith, length-append a b)))

  lawful_rest : LawfulRows m top gaps b
  lawful_rest k l = subst (LawfulRow m top gaps) (get_or-append-add a b k []) (h (length a + k) (omega (arith, length-append a b)))

-- ---- the turns

abbrev pub size_of : Selection → ℕ
size_of l = row_size l.degree l.top l.gaps

-- The bytes of rows of a list.
abbrev bytes : Selection → List (List ℕ) → List ℕ
bytes l rows = join (map (row_bytes l.degree) rows)

bytes_append : (l : Selection) (a b : List (List ℕ)) → bytes l (a ++ b) ≡ bytes l a ++ bytes l b
bytes_append l a b = ap join (map-append (row_bytes l.degree) a b) ∙ join_append (map (row_bytes l.degree) a) (map (row_bytes l.degree) b)

-- Between turns: so many rows were written at the place, the cursor stands behind them; the buffer, s at first, is t now.
pub record Underway (l : Selection) (s : List ℕ) (at : ℕ) (more : Bool) (done : ℕ) (c : Cursor) (t : List ℕ) : Type 0 where
  pub rows : List (List ℕ)
  pub reads : Reads l rows c
  pub count : length rows ≡ done
  pub file : t ≡ over at (bytes l rows) s
  pub ends : more ≡ false → left c ≡ []

pub underway_start : (l : Selection) (s : List ℕ) (at : ℕ) → LawfulList l → Underway l s at true 0 (start_of l) s
underway_start l s at lawful = record {
  rows = [];
  reads = start_reads l lawful;
  count = refl;
  file = sym (over_nothing at s);
  ends = λ e. absurd (true≢false e);
}

module _ (l : Selection) (lawful : LawfulList l) (s : List ℕ) (at : ℕ) (room : at + length (ranked l) * size_of l ≤ length s) where
  bytes_length : (rows : List (List ℕ)) → LawfulRows l.degree l.top l.gaps rows → length (bytes l rows) ≡ length rows * size_of l
  bytes_length rows h = rows_length l.degree l.top l.gaps lawful.top.low rows h

  module _ {more : Bool} {done : ℕ} {c : Cursor} {t : List ℕ} (u : Underway l s at more done c t) where
    -- Nothing is left: the body is written.
    pub all_counted : more ≡ false → done ≡ length (ranked l)
    all_counted e = sym u.count ∙ ap length (reads_end u.reads (u.ends e))

    pub all_written : more ≡ false → t ≡ over at (body_bytes (ranked_list l)) s
    unfolding body_bytes ranked_list
    all_written e = u.file ∙ ap (λ (rows : List (List ℕ)). over at (bytes l rows) s) (reads_end u.reads (u.ends e))

    all_lawful : LawfulRows l.degree l.top l.gaps (u.rows ++ left c)
    all_lawful = subst (LawfulRows l.degree l.top l.gaps) (sym u.reads.whole) (ranked_lawful l lawful.degree lawful.top)

    long : at + length (bytes l u.rows) ≤ length s
    long =
        let size = bytes_length u.rows (lawful_first l.degree l.top l.gaps u.rows (left c) all_lawful) in
        let whole = ap length u.reads.whole in
        let most = mul-le-mul_right {m = length u.rows} {n = length (ranked l)} (size_of l) (omega (arith, length-append u.rows (left c))) in
        omega arith

    pub length_kept : length t ≡ length s
    length_kept = ap length u.file ∙ length_over at (bytes l u.rows) s long

    -- A portion is handed out, the slice of rows being x at first and y now.
    module _ {x y : List ℕ} {r : Portion} (h : Handed c x r y) where
      abbrev handed : List (List ℕ)
      handed = rows_of (row_width l) r.rows y

      handed_is : handed ≡ portion c r
      handed_is = ap (λ (k : Selection). rows_of (row_width k) r.rows y) (sym u.reads.list) ∙ portion_back h u.reads.on_list

      next_whole : (u.rows ++ portion c r) ++ left r.next ≡ ranked l
      next_whole = (next_reads h u.reads).whole

      both_lawful : LawfulRows l.degree l.top l.gaps (u.rows ++ portion c r)
      both_lawful =
          lawful_first l.degree l.top l.gaps (u.rows ++ portion c r) (left r.next)
          (subst (LawfulRows l.degree l.top l.gaps) (sym next_whole) (ranked_lawful l lawful.degree lawful.top))

      pub handed_lawful : LawfulRows l.degree l.top l.gaps handed
      handed_lawful = rw handed_is (lawful_rest l.degree l.top l.gaps u.rows (portion c r) both_lawful)

      counted : length (u.rows ++ portion c r) ≡ done + r.rows
      counted = length-append u.rows (portion c r) ∙ ap₂ ◌+◌ u.count (portion_length h)

      few : done + r.rows ≤ length (ranked l)
      few = omega (arith, ap length next_whole, length-append (u.rows ++ portion c r) (left r.next), counted)

      pub count_fits : done + r.rows < 2 ^ 32
      count_fits = omega (arith, few, ranked_count_fits l lawful.degree, count_most l.degree)

      written_length : length (bytes l u.rows) ≡ done * size_of l
      written_length =
          bytes_length u.rows (lawful_first l.degree l.top l.gaps u.rows (left c) all_lawful) ∙ ap (λ (n : ℕ). n * size_of l) u.count

      pub both_fit : at + done * size_of l + r.rows * size_of l ≤ length s
      both_fit =
          let most = mul-le-mul_right {m = done + r.rows} {n = length (ranked l)} (size_of l) few in
          let sum = add-mul done r.rows (size_of l) in
          omega arith

      -- The portion's bytes fit behind those written.
      pub portion_fits : at + done * size_of l + r.rows * size_of l ≤ length t
      portion_fits = omega (arith, both_fit, length_kept)

      pub underway_next : {t' : List ℕ} → t' ≡ over (at + done * size_of l) (bytes l handed) t → Underway l s at r.more (done + r.rows) r.next t'
      underway_next e = record {
        rows = u.rows ++ portion c r;
        reads = next_reads h u.reads;
        count = counted;
        file =
            e
            ∙ ap₂ (λ (n : ℕ) (rows : List (List ℕ)). over (at + n) (bytes l rows) t) (sym written_length) handed_is
            ∙ ap (over (at + length (bytes l u.rows)) (bytes l (portion c r))) u.file
            ∙ over_append at (bytes l u.rows) (bytes l (portion c r)) s long
            ∙ ap (λ (v : List ℕ). over at v s) (sym (bytes_append l u.rows (portion c r)));
        ends = none_left h;
      }
