-- Chains: empty ones, one place more, and looking a residue up. A place that is pushed becomes the first of its chain, and leads to the one that was.
-- A look-up leaves out only places whose low digits are others than those of the residue, and places that do not hold it. Assumes nothing.
use mathlib.Core.Path.{◌≡◌, refl, sym, ap, ◌∙◌}
use mathlib.Core.Bool.{true, false≢true}
use mathlib.Core.List.{List}
use Prim.Native.Nat.{ℕ, zero, suc, ◌+◌, ◌-◌, ◌*◌, ◌^◌, ◌≤◌, ◌<◌}
use native.Mathlib.Nat.{one-mul, mul_assoc, pow-succ'}
use native.Mathlib.Numerals.{add-one}
use native.Mathlib.Omega.{arith}
use lib.Bits.{bit_and, and_le_r}
use lib.Dec.{eqb}
use lib.ListN.{length, get_or, set, replicate, length-replicate, get_or-replicate, length-set}
use lib.Seq.{get_or-set_same, get_or-set_other}
use borrow.Author.Tests.{eqb-true, eq-eqb, ne_eqb}
use Rattle.definitions.specs.Number.{largest}
use Rattle.definitions.specs.Polynomial.{rem}
use Rattle.number_laws.specs.Largest.{largest_stop, largest_on, largest_to, largest_passes, largest_ext, largest_wider}
use Rattle.number_laws.specs.Lists.{set_each}
use Rattle.polynomial_laws.specs.Division.{rem_double}
use Rattle.polynomial.specs.Modulus.{Modulus, modulus_positive, residue_small}
use Rattle.order_laws.specs.Giant.{baby_step}
use Rattle.baby_steps.specs.Chains.{baby_steps, holds, holds_low, Chained}

pub holds_out : (value : List ℕ) (w j : ℕ) → holds value w (suc j) ≡ true → get_or value j 0 ≡ w
unfolding holds
holds_out value w j t = eqb-true _ w t

-- ---- filling

pub chained_none : (mask : ℕ) → Chained mask 0 (replicate baby_steps 0) (replicate baby_steps 0) (replicate baby_steps 0)
unfolding largest
chained_none mask = record {
  first_room = length-replicate {A = ℕ} baby_steps 0;
  next_room = length-replicate {A = ℕ} baby_steps 0;
  value_room = length-replicate {A = ℕ} baby_steps 0;
  begins = λ k l. get_or-replicate baby_steps k 0 0 l;
  leads = λ j l. absurd (omega arith);
}

module _ {mask n : ℕ} {first next value : List ℕ} (h : Chained mask n first next value) (small : mask < baby_steps) (room : n < baby_steps) (v : ℕ) where
  stored : get_or (set value n v) n 0 ≡ v
  stored = get_or-set_same value n v 0 (omega (arith, h.value_room))

  kept : (i : ℕ) → i < n → get_or (set value n v) i 0 ≡ get_or value i 0
  kept i l = get_or-set_other value n i v 0 (λ e. omega arith)

  -- places up to n are as they were
  same : (a k : ℕ) → a ≤ n → largest a (holds_low mask value k) ≡ largest a (holds_low mask (set value n v) k)
  same a k l = largest_ext (holds_low mask value k) (holds_low mask (set value n v) k) a (λ i low high. at i low (omega arith))
    where
      at : (i : ℕ) → 1 ≤ i → i ≤ n → holds_low mask value k i ≡ holds_low mask (set value n v) k i
      at zero low high = absurd (omega arith)
      at (suc i) low high = unfold holds_low in ap (λ (x : ℕ). eqb (bit_and x mask) k) (sym (kept i (omega arith)))

  pub chained_more : Chained mask (suc n) (set first (bit_and v mask) (suc n)) (set next n (get_or first (bit_and v mask) 0)) (set value n v)
  chained_more = record {
    first_room = length-set first _ _ ∙ h.first_room;
    next_room = length-set next _ _ ∙ h.next_room;
    value_room = length-set value _ _ ∙ h.value_room;
    begins = λ k l. set_each (λ k x. x ≡ largest (suc n) (holds_low mask (set value n v) k)) first (bit_and v mask) (suc n)
        (omega (arith, h.first_room, below)) newest k (older k l);
    leads = λ j l. set_each (λ j x. x ≡ largest j (holds_low mask (set value n v) (bit_and (get_or (set value n v) j 0) mask))) next n _
        (omega (arith, h.next_room)) (rw stored (h.begins (bit_and v mask) below ∙ same n (bit_and v mask) (omega arith))) j (follows j l);
  }
    where
      below : bit_and v mask < baby_steps
      below = omega (arith, and_le_r v mask)

      follows : (j : ℕ) → j < suc n → (j ≡ n → ⊥) → get_or next j 0 ≡ largest j (holds_low mask (set value n v) (bit_and (get_or (set value n v) j 0) mask))
      follows j l other =
          rw (kept j (omega (arith, other))) (h.leads j (omega (arith, other)) ∙ same j (bit_and (get_or value j 0) mask) (omega arith))

      newest : suc n ≡ largest (suc n) (holds_low mask (set value n v) (bit_and v mask))
      newest =
          sym (largest_stop (holds_low mask (set value n v) (bit_and v mask)) n
          (unfold holds_low in eq-eqb _ (bit_and v mask) (ap (λ (x : ℕ). bit_and x mask) stored)))

      older : (k : ℕ) → k < baby_steps → (k ≡ bit_and v mask → ⊥) → get_or first k 0 ≡ largest (suc n) (holds_low mask (set value n v) k)
      older k l other =
          h.begins k l ∙ same n k (omega arith)
          ∙ sym (largest_on (holds_low mask (set value n v) k) n
          (unfold holds_low in ne_eqb _ k (λ e. other (sym e ∙ ap (λ (x : ℕ). bit_and x mask) stored))))

-- The first n baby steps are held, and the residue is the next one.
pub record Filling (p q lead n residue : ℕ) (value : List ℕ) : Type 0 where
  pub each : (j : ℕ) → j < n → get_or value j 0 ≡ baby_step p q j
  pub is : residue ≡ baby_step p q n
  pub reduced : residue < lead

module _ {p lead : ℕ} (modulus : Modulus p lead) {q : ℕ} {value : List ℕ} where
  pub filling_start : q < lead → Filling p q lead 0 q value
  filling_start residue = record {
    each = λ j l. absurd (omega arith);
    is = sym (rw one-mul (residue_small modulus q residue));
    reduced = residue;
  }

  pub filling_more : {n residue following : ℕ} → Filling p q lead n residue value → n < length value → (following ≡ rem (2 * residue) p) × (following < lead)
      → Filling p q lead (n + 1) following (set value n residue)
  filling_more {n} {residue} f room double =
      rw add-one (record {
        each = λ j k. set_each (λ j x. x ≡ baby_step p q j) value n residue room f.is j (λ other. f.each j (omega (arith, other)));
        is = double.0 ∙ rw (f.is, ← rem_double p (modulus_positive modulus) (2 ^ n * q), pow-succ' 2 n, mul_assoc);
        reduced = double.1;
      })

-- ---- looking a residue up

-- The last place that holds w is at the place given or before it, and that one has the low digits of w.
pub record Seeking (mask n w : ℕ) (value : List ℕ) (place : ℕ) : Type 0 where
  pub within : place ≤ n
  pub alike : 1 ≤ place → bit_and (get_or value (place - 1) 0) mask ≡ bit_and w mask
  pub left : largest place (holds value w) ≡ largest n (holds value w)

module _ {mask n w : ℕ} {first next value : List ℕ} (h : Chained mask n first next value) where
  -- the last of the places up to a with the low digits of w
  seeking_last : (a : ℕ) {k place : ℕ} → a ≤ n → largest a (holds value w) ≡ largest n (holds value w) → k ≡ bit_and w mask
      → place ≡ largest a (holds_low mask value k) → Seeking mask n w value place
  unfolding holds holds_low
  seeking_last a {k} l left key e =
      rw e (record {
        within = omega (arith, largest_to (holds_low mask value k) a);
        alike = λ some. low_out (largest a (holds_low mask value k)) (largest_passes (holds_low mask value k) a some) ∙ key;
        left = largest_wider (holds_low mask value k) (holds value w) wider a ∙ left;
      })
    where
      low_out : (place : ℕ) → holds_low mask value k place ≡ true → bit_and (get_or value (place - 1) 0) mask ≡ k
      low_out zero t = absurd (false≢true t)
      low_out (suc j) t =
          let e : suc j - 1 ≡ j = omega arith in
          rw e (eqb-true _ k t)

      wider : (i : ℕ) → holds value w i ≡ true → holds_low mask value k i ≡ true
      wider zero t = t
      wider (suc j) t = eq-eqb _ k (ap (λ (x : ℕ). bit_and x mask) (holds_out value w j t) ∙ sym key)

  pub seeking_start : mask < baby_steps → Seeking mask n w value (get_or first (bit_and w mask) 0)
  seeking_start small = seeking_last n (omega arith) refl refl (h.begins (bit_and w mask) (omega (arith, and_le_r w mask)))

  -- the residue of the place at hand stands at place - 1
  module _ {place : ℕ} (s : Seeking mask n w value place) (some : 1 ≤ place) where
    whole : suc (place - 1) ≡ place
    whole = omega arith

    leads_to : get_or next (place - 1) 0 ≡ largest (place - 1) (holds_low mask value (bit_and (get_or value (place - 1) 0) mask))
    leads_to = h.leads (place - 1) (omega (arith, s.within))

    pub seeking_found : get_or value (place - 1) 0 ≡ w → place ≡ largest n (holds value w)
    unfolding holds
    seeking_found e = sym (rw whole at (largest_stop (holds value w) (place - 1) (eq-eqb _ w e))) ∙ s.left

    pub seeking_less : get_or next (place - 1) 0 < place
    seeking_less = omega (arith, leads_to, largest_to (holds_low mask value (bit_and (get_or value (place - 1) 0) mask)) (place - 1))

    pub seeking_next : (get_or value (place - 1) 0 ≡ w → ⊥) → Seeking mask n w value (get_or next (place - 1) 0)
    unfolding holds
    seeking_next other =
        seeking_last (place - 1) (omega (arith, s.within))
        (sym (rw whole at (largest_on (holds value w) (place - 1) (ne_eqb _ w other))) ∙ s.left)
        (s.alike some) leads_to

  pub seeking_none : Seeking mask n w value 0 → 0 ≡ largest n (holds value w)
  unfolding largest
  seeking_none s = s.left
