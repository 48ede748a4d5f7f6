-- Orders of refusals. Of situations with distinct numbers, n is given exactly when situation n applies and none listed before it does, and the value
-- exactly when none applies. By which situation decides; two refusals are told apart by their numbers alone. Where the numbers ascend, the number
-- given is the lowest that applies. Assumes nothing.
use Rattle.std.specs.Prelude.{◌≡◌, refl, ◌↔◌, ◌⊎◌, Bool, true, false, cond, not, ◌&&◌, ◌||◌, ℕ, ◌<◌, eqb, ltb}
use Rattle.std.proofs.Common.{sym, ◌∙◌, subst, inl, inr, arith, ltb-true, eqb-true, eq-eqb, ne_eqb}
use Rattle.std.proofs.Math.Bool.{and-eq-true_iff}
use Rattle.std.proofs.lemmas.Bool.{false≢true, not-true}
use mathlib.Core.List.{List, [], ◌∷◌, map, Memᴰ}
use Rattle.std.proofs.Math.Decide.{ℕ_discrete}
use Rattle.definitions.specs.Answers.{refusal_number, Situation, unless}
use Rattle.definitions.specs.declared.Refusal.{Refusal}
use Rattle.number_laws.specs.Truth.{truth_false, not_both, by_test}
use Rattle.answer_laws.specs.Unless.{Decides, here, later, NoneApplies, Outcome, is_refused, is_given, outcome, unless_refused, unless_given}
use Rattle.answer_laws.specs.Unless.{told_refused}

-- The number of a situation, and of each of a list.
abbrev pub situation_number : Situation → ℕ
situation_number s = refusal_number s.refusal

abbrev pub numbers_of : List Situation → List ℕ
numbers_of l = map situation_number l

-- Situation n of the list applies.
unfoldable pub applies : List Situation → ℕ → Bool
applies [] n = false
applies (s ∷ l) n = cond (eqb (situation_number s) n) s.applies (applies l n)

-- The numbers that are listed before n.
abbrev pub listed_before : ℕ → List ℕ → List ℕ
listed_before n [] = []
listed_before n (k ∷ l) = cond (eqb k n) [] (k ∷ listed_before n l)

-- No number is listed twice.
abbrev pub listed : ℕ → List ℕ → Bool
listed n [] = false
listed n (k ∷ l) = eqb k n || listed n l

abbrev pub distinct : List ℕ → Bool
distinct [] = true
distinct (n ∷ l) = not (listed n l) && distinct l

-- Distinct numbers, and none of them 0, which stands for no refusal.
abbrev pub told_apart : List Situation → Bool
told_apart l = distinct (0 ∷ numbers_of l)

-- The number that is given: that of the refusal, or 0.
unfoldable pub given : List Situation → ℕ
unfolding unless
given l = unless l refusal_number 0

-- Situation n applies and none listed before it does.
pub record FirstToApply (l : List Situation) (n : ℕ) : Type 0 where
  pub holds : applies l n ≡ true
  pub none_before : (k : ℕ) → Memᴰ k (listed_before n (numbers_of l)) → applies l k ≡ false

-- ---- what is listed

listed_in : {n : ℕ} {l : List ℕ} → Memᴰ n l → listed n l ≡ true
listed_in {n} (mathlib.Core.List.Memᴰ.head {x = k} e) = rw (eq-eqb k n (sym e))
listed_in {n} (mathlib.Core.List.Memᴰ.tail {x = k} {xs = l} i) = by_test (eqb k n) (λ t. rw t) (λ f. rw f (listed_in i))

distinct_head : (n : ℕ) (l : List ℕ) → distinct (n ∷ l) ≡ true → (Memᴰ n l → ⊥) × (distinct l ≡ true)
distinct_head n l e =
    let p = (and-eq-true_iff (not (listed n l)) (distinct l)).0 e in
    (λ i. not_both (listed_in i) (not-true (listed n l) p.0), p.1)

-- Only a listed number applies.
applies_listed : (l : List Situation) (n : ℕ) → applies l n ≡ true → Memᴰ n (numbers_of l)
unfolding applies
applies_listed [] n e = absurd (false≢true e)
applies_listed (s ∷ l) n e =
    by_test (eqb (situation_number s) n) (λ t. mathlib.Core.List.Memᴰ.head (sym (eqb-true (situation_number s) n t))) (λ f. mathlib.Core.List.Memᴰ.tail (applies_listed l n (rw f at e)))

applies_unlisted : (l : List Situation) (n : ℕ) → (Memᴰ n (numbers_of l) → ⊥) → applies l n ≡ false
applies_unlisted l n h = truth_false (applies l n) (λ t. h (applies_listed l n t))

decides_listed : {r : Refusal} {l : List Situation} → Decides r l → Memᴰ (refusal_number r) (numbers_of l)
decides_listed (here e) = mathlib.Core.List.Memᴰ.head refl
decides_listed (later e d) = mathlib.Core.List.Memᴰ.tail (decides_listed d)

-- ---- one situation more, whose number is not listed behind it

module _ (s : Situation) (l : List Situation) where
  applies_self : applies (s ∷ l) (situation_number s) ≡ s.applies
  unfolding applies
  applies_self = rw (eq-eqb (situation_number s) (situation_number s) refl)

  applies_other : (n : ℕ) → (situation_number s ≡ n → ⊥) → applies (s ∷ l) n ≡ applies l n
  unfolding applies
  applies_other n d = rw (ne_eqb (situation_number s) n d)

  before_self : listed_before (situation_number s) (numbers_of (s ∷ l)) ≡ []
  before_self = rw (eq-eqb (situation_number s) (situation_number s) refl)

  before_other : (n : ℕ) → (situation_number s ≡ n → ⊥) → listed_before n (numbers_of (s ∷ l)) ≡ situation_number s ∷ listed_before n (numbers_of l)
  before_other n d = rw (ne_eqb (situation_number s) n d)

  -- One that applies is the first.
  first_here : s.applies ≡ true → FirstToApply (s ∷ l) (situation_number s)
  first_here e = record {
    holds = applies_self ∙ e;
    none_before = λ k i. absurd (mathlib.Core.List.Memᴰ.not-nil (rw before_self at i));
  }

  first_is_here : s.applies ≡ true → (n : ℕ) → FirstToApply (s ∷ l) n → situation_number s ≡ n
  first_is_here e n w = go (ℕ_discrete (situation_number s) n)
    where
      go : Dec (situation_number s ≡ n) → situation_number s ≡ n
      go (yes d) = d
      go (no d) = not_both (applies_self ∙ e) (w.none_before (situation_number s) (rw (before_other n d) (mathlib.Core.List.Memᴰ.head refl)))

  module _ (once : Memᴰ (situation_number s) (numbers_of l) → ⊥) (e : s.applies ≡ false) where
    -- One that does not apply changes nothing.
    applies_skip : (n : ℕ) → applies (s ∷ l) n ≡ applies l n
    applies_skip n = go (ℕ_discrete (situation_number s) n)
      where
        go : Dec (situation_number s ≡ n) → applies (s ∷ l) n ≡ applies l n
        go (yes d) = rw (← d) (applies_self ∙ e ∙ sym (applies_unlisted l (situation_number s) once))
        go (no d) = applies_other n d

    other : (n : ℕ) → applies l n ≡ true → situation_number s ≡ n → ⊥
    other n h d = once (rw (← d) at (applies_listed l n h))

    first_later : (n : ℕ) → FirstToApply l n → FirstToApply (s ∷ l) n
    first_later n w = record {
      holds = applies_skip n ∙ w.holds;
      none_before = λ k i. go k (mathlib.Core.List.Memᴰ.cases_cons (rw (before_other n (other n w.holds)) at i));
    }
      where
        go : (k : ℕ) → (k ≡ situation_number s) ⊎ Memᴰ k (listed_before n (numbers_of l)) → applies (s ∷ l) k ≡ false
        go k (inl d) = rw d (applies_self ∙ e)
        go k (inr i) = applies_skip k ∙ w.none_before k i

    first_skip : (n : ℕ) → FirstToApply (s ∷ l) n → FirstToApply l n
    first_skip n w =
        let h : applies l n ≡ true = sym (applies_skip n) ∙ w.holds in
        record {
          holds = h;
          none_before = λ k i. sym (applies_skip k) ∙ w.none_before k (rw (before_other n (other n h)) (mathlib.Core.List.Memᴰ.tail i));
        }

-- ---- the situation that decides is the first to apply

decides_first : {r : Refusal} {l : List Situation} → Decides r l → distinct (numbers_of l) ≡ true → FirstToApply l (refusal_number r)
decides_first (here {s = s} {l = l} e) a = first_here s l e
decides_first (later {s = s} {l = l} {r = r} e d) a =
    let p = distinct_head (situation_number s) (numbers_of l) a in
    first_later s l p.0 e (refusal_number r) (decides_first d p.1)

-- The refusal that decides has the number n.
abbrev pub Decided : List Situation → ℕ → Type 0
Decided l n = (r : Refusal) × Decides r l × (refusal_number r ≡ n)

first_decides : (l : List Situation) (n : ℕ) → FirstToApply l n → distinct (numbers_of l) ≡ true → Decided l n
unfolding applies
first_decides [] n w a = absurd (false≢true w.holds)
first_decides (s ∷ l) n w a =
    let p = distinct_head (situation_number s) (numbers_of l) a in
    by_test s.applies
    (λ e. (s.refusal, here e, first_is_here s l e n w))
    (λ e. let x = first_decides l n (first_skip s l p.0 e n w) p.1 in (x.0, later e x.1, x.2))

module _ (l : List Situation) (apart : told_apart l ≡ true) where
  no_zero : Memᴰ 0 (numbers_of l) → ⊥
  no_zero = (distinct_head 0 (numbers_of l) apart).0

  once : distinct (numbers_of l) ≡ true
  once = (distinct_head 0 (numbers_of l) apart).1

  pub first_decided : (n : ℕ) → FirstToApply l n ↔ Decided l n
  first_decided n = (
    λ (w : FirstToApply l n). first_decides l n w once,
    λ (d : Decided l n). subst (FirstToApply l) d.2 (decides_first d.1 once),
  )

  -- THE ORDER: n is given exactly when situation n applies and none listed before it does.
  pub given_exactly : (n : ℕ) → 0 < n → (given l ≡ n) ↔ FirstToApply l n
  unfolding given
  given_exactly n h = (to, from)
    where
      to : given l ≡ n → FirstToApply l n
      to e =
          let t = told_refused l e (λ z. omega arith) in
          rw t.2 at (decides_first t.1 once)

      from : FirstToApply l n → given l ≡ n
      from w = let x = first_decides l n w once in unless_refused refusal_number 0 x.1 ∙ x.2

  -- THE VALUE: no refusal is given exactly when no situation applies.
  pub given_none : (given l ≡ 0) ↔ NoneApplies l
  unfolding given
  given_none = (λ e. to e (outcome l), unless_given refusal_number 0)
    where
      to : given l ≡ 0 → Outcome l → NoneApplies l
      to e (is_refused d) = absurd (no_zero (rw (sym (unless_refused refusal_number 0 d) ∙ e) at (decides_listed d)))
      to e (is_given a) = a

  -- Only listed numbers are given.
  pub given_listed : 0 < given l → Memᴰ (given l) (numbers_of l)
  given_listed h = applies_listed l (given l) ((given_exactly (given l) h).0 refl).holds

-- ---- numbers that ascend: what is listed before n is what is lower

-- The numbers ascend, from above k.
abbrev pub ascend : ℕ → List ℕ → Bool
ascend k [] = true
ascend k (n ∷ l) = ltb k n && ascend n l

-- Situation n applies and none with a lower number does.
pub record Lowest (l : List Situation) (n : ℕ) : Type 0 where
  pub holds : applies l n ≡ true
  pub none_lower : (k : ℕ) → k < n → applies l k ≡ false

ascend_head : (k n : ℕ) (l : List ℕ) → ascend k (n ∷ l) ≡ true → (k < n) × (ascend n l ≡ true)
ascend_head k n l e =
    let p = (and-eq-true_iff (ltb k n) (ascend n l)).0 e in
    (ltb-true k n p.0, p.1)

ascend_above : (k n : ℕ) (l : List ℕ) → ascend k l ≡ true → Memᴰ n l → k < n
ascend_above k n [] e i = elim i [ ]
ascend_above k n (x ∷ l) e (mathlib.Core.List.Memᴰ.head d) = let a = ascend_head k x l e in omega arith
ascend_above k n (x ∷ l) e (mathlib.Core.List.Memᴰ.tail i) = let a = ascend_head k x l e in omega (arith, ascend_above x n l a.1 i)

unlisted : (n : ℕ) (l : List ℕ) → (Memᴰ n l → ⊥) → listed n l ≡ false
unlisted n [] h = refl
unlisted n (k ∷ l) h = rw (ne_eqb k n (λ e. h (mathlib.Core.List.Memᴰ.head (sym e)))) (unlisted n l (λ i. h (mathlib.Core.List.Memᴰ.tail i)))

pub ascend_distinct : (k : ℕ) (l : List ℕ) → ascend k l ≡ true → distinct (k ∷ l) ≡ true
ascend_distinct k [] e = refl
ascend_distinct k (n ∷ l) e =
    let never : Memᴰ k (n ∷ l) → ⊥ = λ i. omega (arith, ascend_above k k (n ∷ l) e i) in
    rw (unlisted k (n ∷ l) never) (ascend_distinct n l (ascend_head k n l e).1)

before_lower : (j n k : ℕ) (l : List ℕ) → ascend j l ≡ true → Memᴰ n l → Memᴰ k (listed_before n l) → k < n
before_lower j n k [] e u i = elim u [ ]
before_lower j n k (x ∷ l) e (mathlib.Core.List.Memᴰ.head d) i = absurd (mathlib.Core.List.Memᴰ.not-nil (rw (eq-eqb x n (sym d)) at i))
before_lower j n k (x ∷ l) e (mathlib.Core.List.Memᴰ.tail u) i =
    let a = (ascend_head j x l e).1 in
    let above : x < n = ascend_above x n l a u in
    go (mathlib.Core.List.Memᴰ.cases_cons (rw (ne_eqb x n (λ d. omega arith)) at i)) above (before_lower x n k l a u)
  where
    go : (k ≡ x) ⊎ Memᴰ k (listed_before n l) → x < n → (Memᴰ k (listed_before n l) → k < n) → k < n
    go (inl d) h ih = omega arith
    go (inr i) h ih = ih i

lower_before : (j n k : ℕ) (l : List ℕ) → ascend j l ≡ true → Memᴰ n l → Memᴰ k l → k < n → Memᴰ k (listed_before n l)
lower_before j n k [] e u i h = elim u [ ]
lower_before j n k (x ∷ l) e (mathlib.Core.List.Memᴰ.head d) (mathlib.Core.List.Memᴰ.head b) h = absurd (omega arith)
lower_before j n k (x ∷ l) e (mathlib.Core.List.Memᴰ.head d) (mathlib.Core.List.Memᴰ.tail i) h = absurd (omega (arith, ascend_above x k l (ascend_head j x l e).1 i))
lower_before j n k (x ∷ l) e (mathlib.Core.List.Memᴰ.tail u) (mathlib.Core.List.Memᴰ.head b) h = rw (ne_eqb x n (λ d. omega arith)) (mathlib.Core.List.Memᴰ.head b)
lower_before j n k (x ∷ l) e (mathlib.Core.List.Memᴰ.tail u) (mathlib.Core.List.Memᴰ.tail i) h =
    let a = (ascend_head j x l e).1 in
    let above : x < k = ascend_above x k l a i in
    rw (ne_eqb x n (λ d. omega arith)) (mathlib.Core.List.Memᴰ.tail (lower_before x n k l a u i h))

-- THE LOWEST: where the numbers ascend, the first to apply is the one with the lowest number.
pub first_is_lowest : (l : List Situation) → ascend 0 (numbers_of l) ≡ true → (n : ℕ) → FirstToApply l n ↔ Lowest l n
first_is_lowest l a n = (to, from)
  where
    to : FirstToApply l n → Lowest l n
    to w =
        let u = applies_listed l n w.holds in
        record {
          holds = w.holds;
          none_lower = λ k h.
              truth_false (applies l k) (λ t. not_both t (w.none_before k (lower_before 0 n k (numbers_of l) a u (applies_listed l k t) h)));
        }

    from : Lowest l n → FirstToApply l n
    from w = record {
      holds = w.holds;
      none_before = λ k i. w.none_lower k (before_lower 0 n k (numbers_of l) a (applies_listed l n w.holds) i);
    }
