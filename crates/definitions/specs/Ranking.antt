-- The ranked list: each pair accepted at its floor, among all pairs there are, in the one order. Assumes nothing.
use Rattle.std.specs.Prelude.{◌&&◌, ◌∷◌, ◌++◌, ◌+◌, ◌-◌, ◌^◌}
use Rattle.definitions.specs.Base.{Bool, List, [], map, ℕ, suc, leb, take, drop, Selection, Position, Start, After}
use Rattle.definitions.specs.Number.{bit, numbers, put_if, keep, join}
use Rattle.definitions.specs.Generator.{Pair, period, step, accepted_at}
use Rattle.definitions.specs.Net.{t_value}
use Rattle.definitions.specs.Gaps.{sum_of_gaps}
use Rattle.definitions.specs.Pages.{Cut, start, after, sort}

-- The top dimension T is 3 to 8; a single t-value has dimension 1 to 8.
abbrev pub least_top : ℕ
least_top = 3

abbrev pub largest_top : ℕ
largest_top = 8

abbrev pub lawful_top : ℕ → Bool
lawful_top t = leb least_top t && leb t largest_top

abbrev pub lawful_dimension : ℕ → Bool
lawful_dimension s = leb 1 s && leb s largest_top

-- A row is T + 1 numbers, and T + 2 with Δ.
abbrev pub row_width : Selection → ℕ
row_width l = suc l.top + bit l.gaps

-- The longest row, of the largest top dimension and with Δ.
abbrev pub longest_row : ℕ
longest_row = suc (suc largest_top)

-- t(3) .. t(T).
unfoldable pub t_values : ℕ → ℕ → ℕ → ℕ → List ℕ
t_values m top p q = map (t_value m p q) (numbers least_top (suc top - least_top))

-- The numbers that rank a pair: t(3) .. t(T), then Δ where the list has it.
unfoldable pub ranks : Selection → ℕ → ℕ → List ℕ
ranks l p q = t_values l.degree l.top p q ++ put_if l.gaps (sum_of_gaps l.degree p q) []

-- A row: p, q, σ, t(3) .. t(T), and Δ as its last number where the list has it.
unfoldable pub row : Selection → ℕ → ℕ → List ℕ
row l p q = p ∷ q ∷ step l.degree p q ∷ ranks l p q

-- In a row p, q and σ stand before the numbers that rank it.
abbrev pub ranks_from : ℕ
ranks_from = 3

-- Rank: ascending by t(3) up to t(T), then by Δ where the row has it, then by p, then by q. The key of a row is these numbers in this order.
unfoldable pub row_key : List ℕ → List ℕ
row_key r = drop ranks_from r ++ take 2 r

-- All well-formed pairs of degree m.
unfoldable pub all_pairs : ℕ → List Pair
all_pairs m = join (map (λ (p : ℕ). map (λ (q : ℕ). record { p = p; q = q }) (numbers 1 (period m))) (numbers (2 ^ m) (2 ^ m)))

-- The pairs that a list has. The degree is named first, so that it is computed once and not for each pair.
unfoldable pub listed_pairs : Selection → List Pair
listed_pairs l = let m : ℕ = l.degree in keep (λ (s : Pair). accepted_at m l.floor s.p s.q) (all_pairs m)

unfoldable pub ranked : Selection → List (List ℕ)
ranked l = sort row_key (map (λ (s : Pair). row l s.p s.q) (listed_pairs l))

-- A position as a cut of the ranked list: after a pair means after its key.
unfoldable pub cut_of : Selection → Position → Cut
cut_of l Start = start
cut_of l (After p q) = after (row_key (row l p q))
