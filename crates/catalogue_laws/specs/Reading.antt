-- Reading a body: when a place is the start of a whole row, as a walk tests it, and what that says.
-- Each test of `at_row` by its definition; the first that fails decides. Assumes nothing.
use Rattle.std.specs.Prelude.{◌≡◌, Bool, true, false, List, ℕ, ◌+◌, ◌-◌, ◌*◌, ◌%◌, ◌^◌, ◌<◌, ◌≤◌, leb, length, Some, None}
use Rattle.std.proofs.Common.{sym, ◌∙◌, arith}
use Rattle.std.proofs.Math.Bool.{and-eq-true_iff}
use Rattle.std.proofs.Math.Decide.{dec_le}
use borrow.Author.Tests.{leb-true, eqb-true, lt-leb, le-leb, eq-eqb, ne_eqb}
use Rattle.definitions.specs.Generator.{lawful_degree}
use Rattle.definitions.specs.Ranking.{least_top, lawful_top}
use Rattle.definitions.specs.Catalogue.{number_at, number_size, numbers_size, values_size, row_size, at_row, row_at, next_row, next_place, byte_at, t_at, delta_at}
use Rattle.number_laws.specs.Bounds.{LawfulDegree, LawfulTop, lawful_degree_is, lawful_top_is}

-- What is left behind a place holds w bytes.
leb_sub : (w n place : ℕ) → place ≤ n → leb w (n - place) ≡ leb (place + w) n
leb_sub w n place l = go (dec_le w (n - place))
  where
    go : Dec (w ≤ n - place) → leb w (n - place) ≡ leb (place + w) n
    go (yes h) = le-leb w (n - place) h ∙ sym (le-leb (place + w) n (omega arith))
    go (no h) = lt-leb w (n - place) (omega arith) ∙ sym (lt-leb (place + w) n (omega arith))

module _ (m top : ℕ) (gaps : Bool) (body : List ℕ) (place : ℕ) where
  pub at_row_degree : lawful_degree m ≡ false → at_row m top gaps body place ≡ false
  unfolding at_row
  at_row_degree d = rw d

  module _ (d : lawful_degree m ≡ true) where
    pub at_row_top : lawful_top top ≡ false → at_row m top gaps body place ≡ false
    unfolding at_row
    at_row_top t = rw (d, t)

    module _ (t : lawful_top top ≡ true) where
      pub at_row_start : (place % row_size m top gaps ≡ 0 → ⊥) → at_row m top gaps body place ≡ false
      unfolding at_row
      at_row_start n = rw (d, t, ne_eqb (place % row_size m top gaps) 0 n)

      module _ (n : place % row_size m top gaps ≡ 0) where
        pub at_row_behind : length body < place → at_row m top gaps body place ≡ false
        unfolding at_row
        at_row_behind l = rw (d, t, eq-eqb (place % row_size m top gaps) 0 n, lt-leb (place + row_size m top gaps) (length body) (omega arith))

        pub at_row_whole : place ≤ length body → at_row m top gaps body place ≡ leb (row_size m top gaps) (length body - place)
        unfolding at_row
        at_row_whole l = rw (d, t, eq-eqb (place % row_size m top gaps) 0 n) (sym (leb_sub (row_size m top gaps) (length body) place l))

  -- What the start of a whole row says.
  pub record AtRow : Type 0 where
    pub degree_is_lawful : LawfulDegree m
    pub top_is_lawful : LawfulTop top
    pub start : place % row_size m top gaps ≡ 0
    pub whole : place + row_size m top gaps ≤ length body

  pub at_row_out : at_row m top gaps body place ≡ true → AtRow
  unfolding at_row
  at_row_out r =
      let a = (and-eq-true_iff _ _).0 r in
      let b = (and-eq-true_iff _ _).0 a.1 in
      let c = (and-eq-true_iff _ _).0 b.1 in
      record {
        degree_is_lawful = (lawful_degree_is m).0 a.0;
        top_is_lawful = (lawful_top_is top).0 b.0;
        start = eqb-true _ _ c.0;
        whole = leb-true _ _ c.1;
      }

  pub next_end : at_row m top gaps body place ≡ false → next_row m top gaps body place ≡ None
  unfolding next_row
  next_end e = rw e

  pub next_found : at_row m top gaps body place ≡ true → next_row m top gaps body place ≡ Some (row_at m top gaps body place)
  unfolding next_row
  next_found e = rw e

  pub next_place_end : at_row m top gaps body place ≡ false → next_place m top gaps body place ≡ place
  unfolding next_place
  next_place_end e = rw e

  pub next_place_row : at_row m top gaps body place ≡ true → next_place m top gaps body place ≡ place + row_size m top gaps
  unfolding next_place
  next_place_row e = rw e

module _ (m top : ℕ) (body : List ℕ) (place s : ℕ) where
  pub t_above : top < s → t_at m top body place s ≡ 0
  t_above l = rw (lt-leb s top l)

  pub t_within : s ≤ top → t_at m top body place s ≡ byte_at body (place + numbers_size m + (s - least_top))
  t_within l = rw (le-leb s top l)

module _ (m top : ℕ) (gaps : Bool) (body : List ℕ) (place : ℕ) where
  pub delta_none : gaps ≡ false → delta_at m top gaps body place ≡ 0
  delta_none e = rw e

  pub delta_last : gaps ≡ true → delta_at m top gaps body place ≡ byte_at body (place + numbers_size m + values_size top)
  delta_last e = rw e

-- A row whose fields were read at a place, a number's width being w, is the row there.
pub row_at_is : (m top : ℕ) (gaps : Bool) (body : List ℕ) (place w p q step t₃ t₄ t₅ t₆ t₇ t₈ delta : ℕ) → w ≡ number_size m
    → p ≡ 2 ^ m + number_at w body place → q ≡ number_at w body (place + w) → step ≡ number_at w body (place + 2 * w)
    → t₃ ≡ t_at m top body place 3 → t₄ ≡ t_at m top body place 4 → t₅ ≡ t_at m top body place 5
    → t₆ ≡ t_at m top body place 6 → t₇ ≡ t_at m top body place 7 → t₈ ≡ t_at m top body place 8 → delta ≡ delta_at m top gaps body place
    → row_at m top gaps body place ≡ record { p = p; q = q; step = step; t3 = t₃; t4 = t₄; t5 = t₅; t6 = t₆; t7 = t₇; t8 = t₈; delta = delta }
unfolding row_at
row_at_is m top gaps body place w p q step t₃ t₄ t₅ t₆ t₇ t₈ delta width e₁ e₂ e₃ e₄ e₅ e₆ e₇ e₈ e₉ e₁₀ =
    rw (e₁, e₂, e₃, e₄, e₅, e₆, e₇, e₈, e₉, e₁₀, width)
