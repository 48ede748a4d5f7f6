-- Lists ranked by a key, and their pages; nothing here speaks of generators. Assumes nothing.
use Rattle.std.specs.Prelude.{◌&&◌, ◌||◌, ◌∷◌}
use Rattle.definitions.specs.Base.{Bool, true, false, cond, List, [], ℕ, eqb, ltb, length, take}
use Rattle.definitions.specs.Number.{keep}

-- Key a stands before key b: at the first place where they differ a has the smaller number, or a ends there.
unfoldable pub before : List ℕ → List ℕ → Bool
before [] [] = false
before [] (y ∷ b) = true
before (x ∷ a) [] = false
before (x ∷ a) (y ∷ b) = ltb x y || (eqb x y && before a b)

-- A cut of the order, behind which a page begins: at the start, or after a key.
pub data Cut : Type 0 where
  start : Cut
  after : List ℕ → Cut

-- A key stands above a cut.
unfoldable pub above : Cut → List ℕ → Bool
above start k = true
above (after j) k = before j k

module _ {X : Type 0} (key : X → List ℕ) where
  -- r put in before the first element that it stands before.
  unfoldable pub insert : X → List X → List X
  insert r [] = r ∷ []
  insert r (x ∷ l) = cond (before (key r) (key x)) (r ∷ x ∷ l) (x ∷ insert r l)

  -- The elements of rs put into acc, one after the other.
  unfoldable pub insert_all : List X → List X → List X
  insert_all acc [] = acc
  insert_all acc (r ∷ rs) = insert_all (insert r acc) rs

  -- A list in ascending order of its keys.
  unfoldable pub sort : List X → List X
  sort rs = insert_all [] rs

  -- The elements of l above a cut.
  unfoldable pub rest : Cut → List X → List X
  rest at l = keep (λ (x : X). above at (key x)) l

  -- A page of at most k elements.
  unfoldable pub page : Cut → ℕ → List X → List X
  page at k l = take k (rest at l)

  -- Whether an element above the cut is left over behind the page.
  unfoldable pub more : Cut → ℕ → List X → Bool
  more at k l = ltb k (length (rest at l))
