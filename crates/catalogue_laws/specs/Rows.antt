-- A row as its numbers, and as a `Row` of ten: p, q, σ, t(3) .. t(8), with 0 above the top dimension, and Δ, 0 where the row has none. Each way gives
-- the other back. Assumes nothing.
use Rattle.std.specs.Prelude.{◌≡◌, refl, Bool, true, false, cond, List, [], ◌∷◌, ◌++◌, ℕ, zero, suc, ◌+◌, ◌≤◌, length, take, drop, get_or}
use Rattle.std.proofs.Common.{sym, ap, ◌∙◌, append-nil, arith, length-take, take-append-drop, drop_of_length-le, take_all, drop-cons}
use Rattle.definitions.specs.Number.{bit, put_if}
use Rattle.definitions.specs.Answers.{row_numbers}
use Rattle.definitions.specs.Ranking.{largest_top}
use Rattle.definitions.specs.declared.Row.{Row}
use Rattle.definitions.specs.Writing.{p_of, q_of, step_of}

-- The numbers of a row: T + 1, and Δ behind them where it has it.
abbrev pub numbers_up_to : ℕ → Bool → Row → List ℕ
numbers_up_to top gaps r = take (suc top) (row_numbers r) ++ put_if gaps r.delta []

-- The numbers of a row, in a row's fields.
abbrev pub row_of : ℕ → Bool → List ℕ → Row
row_of top gaps r =
    let v : List ℕ = take (suc top) r in
    record {
      p = p_of v;
      q = q_of v;
      step = step_of v;
      t3 = get_or v 3 0;
      t4 = get_or v 4 0;
      t5 = get_or v 5 0;
      t6 = get_or v 6 0;
      t7 = get_or v 7 0;
      t8 = get_or v 8 0;
      delta = cond gaps (get_or r (suc top) 0) 0;
    }

-- All ten numbers are those of a row of T = 8 with Δ.
pub row_of_numbers : (r : Row) → row_of largest_top true (row_numbers r) ≡ r
row_of_numbers r = refl

-- The first n elements of a list, by their numbers.
firsts : (n : ℕ) → (ℕ → ℕ) → List ℕ
firsts zero f = []
firsts (suc n) f = f 0 ∷ firsts n (λ (k : ℕ). f (suc k))

firsts_all : (l : List ℕ) (n : ℕ) (behind : List ℕ) → length l ≤ n → take (length l) (firsts n (λ (k : ℕ). get_or l k 0) ++ behind) ≡ l
unfolding firsts
firsts_all [] n behind h = refl
firsts_all (x ∷ l) zero behind h = absurd (omega arith)
firsts_all (x ∷ l) (suc n) behind h = ap (◌∷◌ x) (firsts_all l n behind (omega arith))

-- The element behind n of them is the last one.
last_behind : (l : List ℕ) (n : ℕ) → length l ≡ suc n → take n l ++ (get_or l n 0 ∷ []) ≡ l
last_behind l n e =
    let none : drop (suc n) l ≡ [] = drop_of_length-le l {i = suc n} (omega arith) in
    let last : drop n l ≡ get_or l n 0 ∷ [] = drop-cons l n 0 (omega arith) ∙ ap (◌∷◌ (get_or l n 0)) none in
    ap (λ (x : List ℕ). take n l ++ x) (sym last) ∙ take-append-drop n l

-- A row of T + 1 numbers, or of T + 2 with Δ, given back by the `Row` that it makes.
pub numbers_of_row : (top : ℕ) (gaps : Bool) (l : List ℕ) → length l ≡ suc top + bit gaps → top ≤ largest_top → numbers_up_to top gaps (row_of top gaps l) ≡ l
unfolding firsts
numbers_of_row top gaps l e h =
    ap (λ (x : List ℕ). x ++ put_if gaps (cond gaps (get_or l (suc top) 0) 0) []) firsts_are ∙ whole gaps e
  where
    v : List ℕ
    v = take (suc top) l

    long : length v ≡ suc top
    long = length-take (suc top) l ∙ omega arith

    firsts_are : take (suc top) (row_numbers (row_of top gaps l)) ≡ v
    firsts_are =
        ap (λ (n : ℕ). take n (row_numbers (row_of top gaps l))) (sym long)
        ∙ firsts_all v (suc largest_top) (cond gaps (get_or l (suc top) 0) 0 ∷ []) (omega (arith, long))

    whole : (b : Bool) → length l ≡ suc top + bit b → v ++ put_if b (cond b (get_or l (suc top) 0) 0) [] ≡ l
    whole true f = last_behind l (suc top) (omega arith)
    whole false f = append-nil v ∙ take_all (suc top) l (omega arith)
