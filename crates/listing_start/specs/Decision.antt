-- What is printed upon a line: its text is the listing's. By the tests that the code makes, in the order of the refusals of a page that holds as
-- many rows as were asked for: each situation of a page from the start applies exactly where its test says so.
-- Assumes nothing.
use Rattle.std.specs.Prelude.{◌≡◌, refl, Bool, true, false, List, ℕ, ◌*◌, ◌≤◌, ◌<◌, eqb, ltb, length, replicate, Option, Some, None}
use Rattle.std.proofs.Common.{ap, ◌∙◌, mul-le-mul_right, zero-mul, arith, le-ltb, lt-ltb, ltb-true, ltb-false, eqb-true}
use Rattle.std.proofs.Math.Bool.{not}
use Rattle.std.proofs.lemmas.List.{length-replicate}
use Rattle.std.proofs.lemmas.Bool.{eqb-false}
use Rattle.definitions.specs.Answers.{Situation, unless, refusal_number}
use Rattle.definitions.specs.Calls.{page_request, paging, position_situations}
use Rattle.definitions.specs.Generator.{lawful_degree, lawful_floor}
use Rattle.definitions.specs.Listing.{answer_text, largest_size, read_line, unreadable, listing}
use Rattle.definitions.specs.Ranking.{lawful_top, row_width}
use Rattle.definitions.specs.declared.Asked.{Asked}
use Rattle.definitions.specs.declared.Position.TheVariants.{Start}
use Rattle.definitions.specs.declared.Refusal.{Refusal}
use Rattle.definitions.specs.declared.Refusal.TheVariants.{WrongDegree, WrongDimension, WrongFloor, ShortSlice}
use Rattle.definitions.specs.declared.Selection.{Selection}
use Rattle.number_laws.specs.Truth.{by_test}
use Rattle.number_laws.specs.Bounds.{lawful_degree_is, lawful_top_is}
use Rattle.answer_laws.specs.Unless.{Decides, here, later, passes, at_end, unless_refused, unless_given, unless_map}
use Rattle.listing_start.specs.Left.{text_left, Underway}
use Rattle.listing_start.specs.declared.Printing.{Printing}
use Rattle.listing_start.specs.declared.Printing.TheVariants.{Refused, Whole}

-- The list that is asked for; the listing has no Δ.
abbrev pub asked_list : ℕ → ℕ → ℕ → Selection
asked_list m top floor = record { degree = m; top = top; floor = floor; gaps = false }

-- The line that asks for it.
abbrev pub asked_line : ℕ → ℕ → ℕ → ℕ → Option Asked
asked_line m top size floor = Some (record { degree = m; top = top; size = size; floor = floor })

-- What is printed: an unreadable line or a page size above 1000 first, then the refusals of a page that holds `size` rows, then the list.
unfoldable pub printing_of : Option Asked → Printing
printing_of None = Refused unreadable
printing_of (Some a) =
    let l : Selection = asked_list a.degree a.top a.floor in
    elim (ltb largest_size a.size) [
      | true ↦ Refused unreadable
      | false ↦ unless (paging (page_request l Start) (replicate (a.size * row_width l) 0)) (λ (n : Refusal). Refused (refusal_number n)) (Whole l a.size)
    ]

-- ITS TEXT IS THE LISTING'S.
pub printing_text : (line : Option Asked) → text_left (printing_of line) ≡ answer_text line
unfolding printing_of answer_text
printing_text None = refl
printing_text (Some a) = go (ltb largest_size a.size) refl
  where
    go : (b : Bool) → ltb largest_size a.size ≡ b → text_left (printing_of (Some a)) ≡ answer_text (Some a)
    go true e = rw (e, printing_of, answer_text)
    go false e =
        let l = asked_list a.degree a.top a.floor in
        rw (e, printing_of, answer_text)
        (unless_map text_left (paging (page_request l Start) (replicate (a.size * row_width l) 0)) (λ (n : Refusal). Refused (refusal_number n)) (Whole l a.size))

pub start_text : (s : List ℕ) → text_left (printing_of (read_line s)) ≡ listing s
unfolding listing
start_text s = printing_text (read_line s)

-- ---- by the tests

-- A page of `size` rows of some width holds a row exactly where the size is not 0.
room_for_none : (w : ℕ) → 1 ≤ w → ltb (length {A = ℕ} (replicate (0 * w) 0)) w ≡ true
room_for_none w some = lt-ltb _ w (rw (length-replicate {A = ℕ} (0 * w) 0, zero-mul w) (omega arith))

room_for_one : (w size : ℕ) → 1 ≤ size → ltb (length {A = ℕ} (replicate (size * w) 0)) w ≡ false
room_for_one w size h =
    let many : 1 * w ≤ size * w = mul-le-mul_right w h in
    le-ltb _ w (rw (length-replicate {A = ℕ} (size * w) 0) (omega arith))

pub printing_unreadable : printing_of None ≡ Refused unreadable
unfolding printing_of
printing_unreadable = refl

module _ (m top size floor : ℕ) where
  pub size_refused : largest_size < size → printing_of (asked_line m top size floor) ≡ Refused unreadable
  unfolding printing_of
  size_refused h = rw (lt-ltb largest_size size h, printing_of)

  -- The situations of the page that is asked for, and the line of a refusal.
  abbrev situations : List Situation
  situations = paging (page_request (asked_list m top floor) Start) (replicate (size * row_width (asked_list m top floor)) 0)

  abbrev refuse : Refusal → Printing
  refuse n = Refused (refusal_number n)

  module _ (h : size ≤ largest_size) where
    by_situations : printing_of (asked_line m top size floor) ≡ unless situations refuse (Whole (asked_list m top floor) size)
    unfolding printing_of
    by_situations = rw (le-ltb largest_size size h, printing_of)

    refused : {n : Refusal} → Decides n situations → printing_of (asked_line m top size floor) ≡ refuse n
    refused d = by_situations ∙ unless_refused refuse (Whole (asked_list m top floor) size) d

    pub degree_refused : lawful_degree m ≡ false → printing_of (asked_line m top size floor) ≡ Refused (refusal_number WrongDegree)
    unfolding paging
    degree_refused d = refused (here (ap not d))

    module _ (d : lawful_degree m ≡ true) where
      pub top_refused : lawful_top top ≡ false → printing_of (asked_line m top size floor) ≡ Refused (refusal_number WrongDimension)
      unfolding paging
      top_refused t = refused (later (ap not d) (here (ap not t)))

      module _ (t : lawful_top top ≡ true) where
        pub floor_refused : lawful_floor floor ≡ false → printing_of (asked_line m top size floor) ≡ Refused (refusal_number WrongFloor)
        unfolding paging
        floor_refused f = refused (later (ap not d) (later (ap not t) (here (ap not f))))

        module _ (f : lawful_floor floor ≡ true) where
          pub none_refused : size ≡ 0 → printing_of (asked_line m top size floor) ≡ Refused (refusal_number ShortSlice)
          unfolding paging position_situations
          none_refused z =
              let short = room_for_none (row_width (asked_list m top floor)) (omega arith) in
              refused (later (ap not d) (later (ap not t) (later (ap not f) (here (rw z short)))))

          pub all_listed : 1 ≤ size → printing_of (asked_line m top size floor) ≡ Whole (asked_list m top floor) size
          unfolding paging position_situations
          all_listed some =
              by_situations
              ∙ unless_given refuse (Whole (asked_list m top floor) size)
              (passes (ap not d) (passes (ap not t) (passes (ap not f) (passes (room_for_one (row_width (asked_list m top floor)) size some) at_end))))

-- What is printed upon a line is lawful.
pub start_underway : (line : Option Asked) → Underway (printing_of line)
start_underway None = rw printing_unreadable (omega arith)
start_underway (Some a) =
    let m = a.degree in
    let top = a.top in
    let size = a.size in
    let floor = a.floor in
    by_test (ltb largest_size size) (λ e. rw (size_refused m top size floor (ltb-true largest_size size e)) (omega arith))
    (λ e. let h = ltb-false largest_size size e in
    by_test (lawful_degree m)
    (λ d. by_test (lawful_top top)
    (λ t. by_test (lawful_floor floor)
    (λ f. by_test (eqb size 0) (λ z. rw (none_refused m top size floor h d t f (eqb-true size 0 z)) (omega arith))
    (λ z. let some : 1 ≤ size = (let n = eqb-false size 0 z in omega arith) in
    rw (all_listed m top size floor h d t f some) (record { degree = (lawful_degree_is m).0 d; top = (lawful_top_is top).0 t }, some)))
    (λ f. rw (floor_refused m top size floor h d t f) (omega arith)))
    (λ t. rw (top_refused m top size floor h d t) (omega arith)))
    (λ d. rw (degree_refused m top size floor h d) (omega arith)))
