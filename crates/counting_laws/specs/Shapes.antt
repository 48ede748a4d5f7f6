-- Digits shared coordinate by coordinate: with the digits of the first j given, those left are shared among the coordinates left, in every way. One
-- coordinate takes d of them, for every d; the last one takes all.
-- Assumes nothing.
use Rattle.std.specs.Prelude.{◌≡◌, refl, Bool, true, List, [], ◌∷◌, ◌++◌, length, take, set}
use Rattle.std.proofs.Common.{sym, ap₂, ◌∙◌, append_assoc, append-nil, add-one, take-suc-set}
use Rattle.std.proofs.Math.Path.{ap, fun_ext}
use Rattle.std.proofs.Math.Bool.{◌&&◌, and-true}
use Prim.Native.Nat.{ℕ, zero, suc, ◌+◌, ◌-◌, ◌<◌}
use Rattle.std.proofs.Math.Nat.{sub-zero, sub_self}
use native.Mathlib.Omega.{arith}
use Rattle.definitions.specs.Number.{every}
use Rattle.definitions.specs.Net.{every_share}
use Rattle.number_laws.specs.Every.{every_in, every_ext}
use Rattle.net_laws.specs.Net.{total}

-- The test holds of every shape of s coordinates that begins as this one does, up to coordinate j, and shares `left` digits among the rest.
unfoldable pub every_shape : ℕ → (List ℕ → Bool) → List ℕ → ℕ → ℕ → Bool
every_shape s test shape j left = every_share (s - j) left (λ ds. test (take j shape ++ ds))

-- ---- tests that agree on the shares that are asked about
pub every_share_ext : (s k : ℕ) (test other : List ℕ → Bool) → ((ds : List ℕ) → length ds ≡ s → total ds ≡ k → test ds ≡ other ds)
    → every_share s k test ≡ every_share s k other
unfolding every_share total
every_share_ext zero zero test other same = same [] refl refl
every_share_ext zero (suc k) test other same = refl
every_share_ext (suc s) k test other same =
    every_ext (suc k) _ _
    (λ d l. every_share_ext s (k - d) (λ ds. test (d ∷ ds)) (λ ds. other (d ∷ ds)) (λ ds len sum. same (d ∷ ds) (ap suc len) (omega arith)))

-- ---- the digits of a shape, one coordinate more
total_behind : (ds : List ℕ) (d : ℕ) → total (ds ++ d ∷ []) ≡ total ds + d
unfolding total
total_behind [] d = omega arith
total_behind (c ∷ ds) d = omega (arith, total_behind ds d)

pub total_set : (shape : List ℕ) (j d : ℕ) → j < length shape → total (take (j + 1) (set shape j d)) ≡ total (take j shape) + d
total_set shape j d l = rw (add-one, take-suc-set shape j d l, total_behind)

-- ---- the recursion
module _ (s : ℕ) (test : List ℕ → Bool) where
  pub shape_start : (shape : List ℕ) (k : ℕ) → every_shape s test shape 0 k ≡ every_share s k test
  unfolding every_shape
  shape_start shape k = rw sub-zero

  -- all is shared
  shape_whole : (shape : List ℕ) → every_shape s test shape s 0 ≡ test (take s shape)
  unfolding every_shape every_share
  shape_whole shape = rw (sub_self, append-nil)

  -- digits are left and no coordinate is
  shape_none : (shape : List ℕ) (left : ℕ) → 0 < left → every_shape s test shape s left ≡ true
  unfolding every_shape every_share
  shape_none shape zero l = absurd (omega arith)
  shape_none shape (suc left) l = rw sub_self

  module _ (shape : List ℕ) (j left : ℕ) (fits : j < length shape) where
    abbrev given : ℕ → Bool
    given d = every_shape s test (set shape j d) (j + 1) (left - d)

    -- d digits for coordinate j, for every d up to all that are left
    pub shape_more : j < s → every_shape s test shape j left ≡ every (left + 1) given
    unfolding every_shape every_share
    shape_more l =
        ap (λ (n : ℕ). every_share n left (λ ds. test (take j shape ++ ds))) e
        ∙ rw (add-one left) (every_ext (suc left) _ _ (λ d k. ap (every_share (s - (j + 1)) (left - d)) (fun_ext (λ ds. ap test (sym (behind d ds))))))
      where
        e : s - j ≡ suc (s - (j + 1))
        e = omega arith

        behind : (d : ℕ) (ds : List ℕ) → take (j + 1) (set shape j d) ++ ds ≡ take j shape ++ d ∷ ds
        behind d ds = rw (add-one, take-suc-set shape j d fits, append_assoc)

    -- the last coordinate takes all: with fewer no shape is whole
    pub shape_last : j + 1 ≡ s → every_shape s test shape j left ≡ test (take s (set shape j left))
    unfolding every
    shape_last last = shape_more (omega arith) ∙ rw (add-one left) (ap₂ ◌&&◌ all fewer ∙ and-true _)
      where
        all : given left ≡ test (take s (set shape j left))
        all = rw (last, sub_self left) (shape_whole (set shape j left))

        fewer : every left given ≡ true
        fewer = every_in left given (λ d l. rw last (shape_none (set shape j d) (left - d) (omega arith)))
