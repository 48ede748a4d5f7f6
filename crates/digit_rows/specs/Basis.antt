-- The vectors that reduce, in an array, the oldest first: those of the digit rows taken so far, the newest in front; and what a vector more
-- leaves of them. Assumes nothing.
use Rattle.std.specs.Prelude.{◌≡◌, refl, List, [], ◌∷◌, ℕ, zero, suc, ◌+◌, ◌≤◌, ◌<◌, get_or, set, length, take}
use Rattle.std.proofs.Common.{ap₂, add-one, arith, get_or-set_same, get_or-set_other}
use Rattle.std.proofs.lemmas.List.{get_or-take, length-take-le}

-- The room for vectors: as many as a word has digits, and so more than a residue has.
abbrev pub basis_room : ℕ
basis_room = 32

-- The first n elements, the last of them in front.
unfoldable pub newest : List ℕ → ℕ → List ℕ
newest xs zero = []
newest xs (suc n) = get_or xs n 0 ∷ newest xs n

newest_ext : (a b : List ℕ) (n : ℕ) → ((i : ℕ) → i < n → get_or a i 0 ≡ get_or b i 0) → newest a n ≡ newest b n
unfolding newest
newest_ext a b zero same = refl
newest_ext a b (suc n) same = ap₂ ◌∷◌ (same n (omega arith)) (newest_ext a b n (λ i l. same i (omega arith)))

-- Those of the slice of the first n.
pub newest_front : (xs : List ℕ) (n : ℕ) → n ≤ length xs → newest (take n xs) (length (take n xs)) ≡ newest xs n
newest_front xs n fits = rw (length-take-le n xs fits) (newest_ext (take n xs) xs n (λ i l. get_or-take n xs i 0 l))

newest_kept : (xs : List ℕ) (n v : ℕ) → newest (set xs n v) n ≡ newest xs n
newest_kept xs n v = newest_ext (set xs n v) xs n (λ i l. get_or-set_other xs n i v 0 (λ e. omega arith))

pub newest_set : (xs : List ℕ) (n v : ℕ) → n < length xs → newest (set xs n v) (n + 1) ≡ v ∷ newest xs n
unfolding newest
newest_set xs n v fits = rw (add-one n) (ap₂ ◌∷◌ (get_or-set_same xs n v 0 fits) (newest_kept xs n v))
