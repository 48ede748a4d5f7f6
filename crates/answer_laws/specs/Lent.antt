-- The calls that write into a lent slice, pages, points and catalogues: what they answer and leave is one statement, `Answered`, over their
-- situations; and what a page, words or a file that is given, or a refusal, say of both. From the laws of answer and slice together.
-- Assumes nothing.
use Rattle.std.specs.Prelude.{◌≡◌, Bool, List, ℕ, length, Result, Ok, Err}
use Rattle.std.proofs.Math.Path.{refl}
use Rattle.std.proofs.Common.{ap, arith}
use Rattle.definitions.specs.Number.{join, over}
use Rattle.definitions.specs.Points.{words}
use Rattle.definitions.specs.Calls.{paging, page_rows, further_row, page_answer, page_slice, pointing, word_count, points_answer, points_slice}
use Rattle.definitions.specs.Writing.{entries_of, ranked_file, writing, file_answer, file_buffer}
use Rattle.definitions.specs.declared.Refusal.{Refusal}
use Rattle.definitions.specs.declared.PageRequest.{PageRequest}
use Rattle.definitions.specs.declared.Page.{Page}
use Rattle.answer_laws.specs.Given.{same_value}
use Rattle.answer_laws.specs.Unless.{NoneApplies}
use Rattle.answer_laws.specs.Together.{Answered, refused_keeps, given_writes}

-- ---- a page

module _ (r : PageRequest) (s : List ℕ) where
  abbrev pub AnsweredPage : Result Page Refusal → List ℕ → Type 0
  AnsweredPage = Answered (paging r s) Err (Ok (record { rows = length (page_rows r s); further = further_row r s })) s (over 0 (join (page_rows r s)) s)

  pub page_answered : AnsweredPage (page_answer r s) (page_slice r s)
  unfolding page_answer page_slice
  page_answered = record { answer = refl; slice = refl }

  pub answers_page : {a : Result Page Refusal} {t : List ℕ} → AnsweredPage a t → (a ≡ page_answer r s) × (t ≡ page_slice r s)
  unfolding page_answer page_slice
  answers_page x = (x.answer, x.slice)

  -- A refused page leaves the slice as it was.
  pub page_keeps : {n : Refusal} → page_answer r s ≡ Err n → page_slice r s ≡ s
  page_keeps = refused_keeps page_answered (λ e. let z : ◌≡◌ {A = ℕ} 0 1 = cc in omega arith)

  -- A page that is given: no situation applies, its numbers are those of the rows, and the rows stand over the front of the slice.
  pub page_given : {n : ℕ} {further : Bool} → page_answer r s ≡ Ok (record { rows = n; further = further })
      → NoneApplies (paging r s) × (length (page_rows r s) ≡ n) × (further_row r s ≡ further) × (page_slice r s ≡ over 0 (join (page_rows r s)) s)
  page_given e =
      let g = given_writes page_answered (λ k d. let z : ◌≡◌ {A = ℕ} 0 1 = cc in omega arith) e in
      let f = same_value g.1 in
      (g.0, ap (λ (x : Page). x.rows) f, ap (λ (x : Page). x.further) f, g.2)

-- ---- points

module _ (m floor p q first : ℕ) (s : List ℕ) where
  abbrev pub AnsweredPoints : Result ℕ Refusal → List ℕ → Type 0
  AnsweredPoints = Answered (pointing m floor p q first) Err (Ok (word_count m first s)) s (over 0 (words p q first (word_count m first s)) s)

  pub points_answered : AnsweredPoints (points_answer m floor p q first s) (points_slice m floor p q first s)
  unfolding points_answer points_slice
  points_answered = record { answer = refl; slice = refl }

  pub answers_points : {a : Result ℕ Refusal} {t : List ℕ} → AnsweredPoints a t → (a ≡ points_answer m floor p q first s) × (t ≡ points_slice m floor p q first s)
  unfolding points_answer points_slice
  answers_points x = (x.answer, x.slice)

  -- A refused call for points leaves the slice as it was.
  pub points_keep : {n : Refusal} → points_answer m floor p q first s ≡ Err n → points_slice m floor p q first s ≡ s
  points_keep = refused_keeps points_answered (λ e. let z : ◌≡◌ {A = ℕ} 0 1 = cc in omega arith)

  -- Words that are given: no situation applies, and they stand over the front of the slice.
  pub points_given : {n : ℕ} → points_answer m floor p q first s ≡ Ok n
      → NoneApplies (pointing m floor p q first) × (word_count m first s ≡ n)
      × (points_slice m floor p q first s ≡ over 0 (words p q first (word_count m first s)) s)
  points_given e =
      let g = given_writes points_answered (λ k d. let z : ◌≡◌ {A = ℕ} 0 1 = cc in omega arith) e in
      let f = g.1 in
      (g.0, (cc), g.2)

-- ---- a catalogue

module _ (floor : ℕ) (entries s : List ℕ) where
  abbrev file : List ℕ
  file = ranked_file (entries_of floor entries)

  abbrev pub AnsweredFile : Result ℕ Refusal → List ℕ → Type 0
  AnsweredFile = Answered (writing floor entries s) Err (Ok (length file)) s (over 0 file s)

  pub file_answered : AnsweredFile (file_answer floor entries s) (file_buffer floor entries s)
  unfolding file_answer file_buffer
  file_answered = record { answer = refl; slice = refl }

  pub answers_file : {a : Result ℕ Refusal} {t : List ℕ} → AnsweredFile a t → (a ≡ file_answer floor entries s) × (t ≡ file_buffer floor entries s)
  unfolding file_answer file_buffer
  answers_file x = (x.answer, x.slice)

  -- A refused call leaves the buffer as it was.
  pub file_keeps : {n : Refusal} → file_answer floor entries s ≡ Err n → file_buffer floor entries s ≡ s
  file_keeps = refused_keeps file_answered (λ e. let z : ◌≡◌ {A = ℕ} 0 1 = cc in omega arith)

  -- A file that is given: no situation applies, its length is that of the file, and the file stands over the front of the buffer.
  pub file_given : {n : ℕ} → file_answer floor entries s ≡ Ok n
      → NoneApplies (writing floor entries s) × (length file ≡ n) × (file_buffer floor entries s ≡ over 0 file s)
  file_given e =
      let g = given_writes file_answered (λ k d. let z : ◌≡◌ {A = ℕ} 0 1 = cc in omega arith) e in
      let f = g.1 in
      (g.0, (cc), g.2)
