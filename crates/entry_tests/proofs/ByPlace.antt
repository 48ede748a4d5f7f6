-- What is said of a list of entries, place by place: each passes a test, and each degree is above the one before it. Assumes nothing.
use Rattle.std.proofs.Common.{◌≡◌, Bool, ◌&&◌, List, [], ◌∷◌, suc, ◌-◌, ltb, length, get_or, refl, ap, ◌∙◌, arith}
use Rattle.definitions.specs.declared.Selection.{Selection}
use Rattle.definitions.specs.Number.{all, every}
use Rattle.definitions.specs.Writing.{ascending}
use Rattle.number_laws.specs.Ranges.{every_first}
use Rattle.writing_laws.specs.RankedFile.{no_entry}

pub all_pass : (test : Selection → Bool) (l : List Selection) → every (length l) (λ k. test (get_or l k no_entry)) ≡ all test l
unfolding all every
all_pass test [] = refl
all_pass test (x ∷ l) = every_first (length l) (λ k. test (get_or (x ∷ l) k no_entry)) ∙ ap (λ (b : Bool). test x && b) (all_pass test l)

pub all_ascend : (l : List Selection)
    → every (length l - 1) (λ k. ltb (get_or l k no_entry).degree (get_or l (suc k) no_entry).degree) ≡ ascending l
unfolding ascending every
all_ascend [] = refl
all_ascend (x ∷ []) = refl
all_ascend (x ∷ y ∷ l) =
    let n = length l in
    let one_less : suc (suc n) - 1 ≡ suc n = omega arith in
    let also : suc n - 1 ≡ n = omega arith in
    let rest = rw also at (all_ascend (y ∷ l)) in
    let front = every_first n (λ k. ltb (get_or (x ∷ y ∷ l) k no_entry).degree (get_or (x ∷ y ∷ l) (suc k) no_entry).degree) in
    rw one_less (front ∙ ap (λ (b : Bool). ltb x.degree y.degree && b) rest)
