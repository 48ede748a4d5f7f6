-- Best approximation by Euclid's algorithm. How small can b q + a p be for a short b that is not 0? With b < 2^d and the sum below 2^c, d + c falls
-- short of p's degree and 2 by K at most, or by the common factor's degree and 1 where that is more; and some b and a reach this. With p = A q + r
-- the sum is a r + (b + a A) q, and where it is smaller than p the leading terms of b q and a p cancel, so b's degree is a's and A's together.
-- Assumes nothing.
use Rattle.std.specs.Prelude.{◌≡◌, ℕ, zero, suc, ◌+◌, ◌^◌, ◌≤◌, ◌<◌, max}
use Rattle.std.proofs.Common.{ap, ◌∙◌, subst, pow-suc, arith, pow_mono, pow_pos}
use Rattle.std.proofs.Math.Decide.{dec_le}
use Rattle.definitions.specs.Polynomial.{◌⊕◌, degree, prod, quot, rem}
use Rattle.polynomial_laws.specs.Sum.{⊕_zero, ⊕_sums}
use Rattle.polynomial_laws.specs.Degree.{HasDegree, degree_is, degree_unique, degree_most, positive, add_degree}
use Rattle.polynomial_laws.specs.Product.{zero_prod, one_prod, prod-⊕, ⊕-prod, prod_assoc, product_degree}
use Rattle.polynomial_laws.specs.Division.{division}
use Rattle.definitions.specs.Generator.{quotient_degree, common_degree}
use Rattle.fraction_laws.specs.Expansion.{euclid_ind}
use Rattle.fraction_laws.specs.Degrees.{quotient_degree_zero, quotient_degree_more, common_degree_zero, common_degree_more}
use Rattle.quotient_laws.specs.Degrees.{Falling, falling_next, falling_degree, quotient_difference}

-- ---- definitions

-- K, or one more than the common factor's degree, whichever is larger.
unfoldable pub loss : ℕ → ℕ → ℕ
loss p q = max (quotient_degree p q) (suc (common_degree p q))

-- b is not 0 and has d digits at most, and b q + a p has c at most.
pub record Near (p q d c : ℕ) : Type 0 where
  pub b : ℕ
  pub a : ℕ
  pub nonzero : 0 < b
  pub short : b < 2 ^ d
  pub small : prod b q ⊕ prod a p < 2 ^ c

-- ---- one quotient at a time

loss_zero : (p : ℕ) → loss p 0 ≡ suc (degree p)
unfolding loss
loss_zero p = omega (arith, quotient_degree_zero p, common_degree_zero p)

loss_more : (p q : ℕ) → 0 < q → loss p q ≡ max (degree (quot p q)) (loss q (rem p q))
unfolding loss
loss_more p q pos = omega (arith, quotient_degree_more p q pos, common_degree_more p q pos)

pub loss_some : (p q : ℕ) → 1 ≤ loss p q
unfolding loss
loss_some p q = omega arith

pub near_some : {p q d c : ℕ} → Near p q d c → 1 ≤ d
near_some {d = d} n = omega (arith, degree_most n.b d n.nonzero n.short)

-- with p = A q + r, b q + a p = a r + (b + a A) q
turned : (A p q r b a : ℕ) → prod A q ⊕ r ≡ p → prod b q ⊕ prod a p ≡ prod a r ⊕ prod (b ⊕ prod a A) q
turned A p q r b a whole = rw (← whole, prod-⊕, ⊕-prod, prod_assoc) (simp ⊕_sums)

-- where the sum is smaller than p the leading terms cancel
cancelled : (p q a b c : ℕ) → 0 < p → 0 < a → c ≤ degree p → prod b q ⊕ prod a p < 2 ^ c → HasDegree (prod b q) (degree a + degree p)
cancelled p q a b c some nonzero low small =
    let n = degree a + degree p in
    let whole : prod a p ⊕ (prod b q ⊕ prod a p) ≡ prod b q = simp ⊕_sums in
    let below : 2 ^ c ≤ 2 ^ n = pow_mono (omega arith) in
    subst (λ x. HasDegree x n) whole (add_degree (product_degree (degree a) (degree_is a nonzero) (degree_is p some)) (omega arith))

-- so b has as many digits more than a as p has more than q
longer : (b q n : ℕ) → 0 < q → HasDegree (prod b q) n → (0 < b) × (degree b + degree q ≡ n)
longer zero q n pos h = absurd (omega (arith, positive h, zero_prod q))
longer (suc b) q n pos h =
    let k = product_degree (degree (suc b)) (degree_is (suc b) (omega arith)) (degree_is q pos) in
    (omega arith, cc (degree_unique _ _ k, degree_unique _ _ h))

-- ---- no b falls short by more

abbrev Holds : ℕ → ℕ → Type 0
Holds p q = Falling p q → (d c : ℕ) → Near p q d c → degree p + 2 ≤ d + c + loss p q

holds_zero : (p : ℕ) → Holds p 0
holds_zero p f d c n = omega (arith, loss_zero p, near_some n)

holds_more : (p q : ℕ) → 0 < q → Holds q (rem p q) → Holds p q
holds_more p q pos h f d c n = go n.a n.small
  where
    A : ℕ
    A = quot p q

    b : ℕ
    b = n.b

    digits : degree b < d
    digits = degree_most n.b d n.nonzero n.short

    beyond : (a : ℕ) → 0 < a → prod b q ⊕ prod a p < 2 ^ c → Dec (c ≤ degree p) → degree p + 2 ≤ d + c + loss p q
    beyond a nonzero small (no l) = omega (arith, digits)
    beyond a nonzero small (yes l) =
        let e = (longer b q _ pos (cancelled p q a b c f.some nonzero l small)).1 in
        let next : Near q (rem p q) (suc (degree a)) c =
        record {
          b = a;
          a = b ⊕ prod a A;
          nonzero = nonzero;
          short = omega (arith, (degree_is a nonzero).most, pow-suc 2 (degree a));
          small = rw (turned A p q (rem p q) b a (division q pos p)) at small;
        } in
        omega (arith, h (falling_next p q pos) (suc (degree a)) c next, digits, quotient_difference f pos, loss_more p q pos)

    go : (a : ℕ) → prod b q ⊕ prod a p < 2 ^ c → degree p + 2 ≤ d + c + loss p q
    go zero small =
        let k = product_degree (degree b) (degree_is b n.nonzero) (degree_is q pos) in
        let low : prod b q < 2 ^ c = rw (zero_prod, ⊕_zero) at small in
        let l = degree_most (prod b q) c (positive k) low in
        omega (arith, degree_unique _ _ k, digits, quotient_difference f pos, loss_more p q pos)
    go (suc a) small = beyond (suc a) (omega arith) small (dec_le c (degree p))

-- THE BOUND.
pub near_bound : (p q : ℕ) → Falling p q → (d c : ℕ) → Near p q d c → degree p + 2 ≤ d + c + loss p q
near_bound = euclid_ind Holds holds_zero holds_more

-- ---- some b falls short by as much

pub record Nearest (p q : ℕ) : Type 0 where
  pub d : ℕ
  pub c : ℕ
  pub near : Near p q d c
  pub weight : d + c + loss p q ≡ degree p + 2

-- b = 1 and a = 0
first_near : (p q c : ℕ) → q < 2 ^ c → Near p q 1 c
first_near p q c l = record { b = 1; a = 0; nonzero = omega arith; short = omega arith; small = rw (one_prod, zero_prod, ⊕_zero) l }

nearest_zero : (p : ℕ) → Falling p 0 → Nearest p 0
nearest_zero p f = record { d = 1; c = 0; near = first_near p 0 0 (pow_pos 0); weight = omega (arith, loss_zero p) }

nearest_more : (p q : ℕ) → 0 < q → (Falling q (rem p q) → Nearest q (rem p q)) → Falling p q → Nearest p q
nearest_more p q pos h f = go (dec_le (loss q (rem p q)) (degree (quot p q))) (h (falling_next p q pos))
  where
    A : ℕ
    A = quot p q

    go : Dec (loss q (rem p q) ≤ degree (quot p q)) → Nearest q (rem p q) → Nearest p q
    go (yes l) t = record {
      d = 1;
      c = suc (degree q);
      near = first_near p q (suc (degree q)) (omega (arith, (degree_is q pos).most, pow-suc 2 (degree q)));
      weight = omega (arith, loss_more p q pos, quotient_difference f pos);
    }
    go (no l) t =
        let n = t.near in
        let a = n.b in
        let b = n.a ⊕ prod a A in
        let same : b ⊕ prod a A ≡ n.a = simp ⊕_sums in
        let value : prod b q ⊕ prod a p ≡ prod a (rem p q) ⊕ prod n.a q =
        turned A p q (rem p q) b a (division q pos p) ∙ ap (λ z. prod a (rem p q) ⊕ prod z q) same in
        let small : prod b q ⊕ prod a p < 2 ^ t.c = rw value n.small in
        let low : t.c ≤ degree p = omega (arith, t.weight, near_some n, loss_some q (rem p q), falling_degree f pos) in
        let k = longer b q _ pos (cancelled p q a b t.c f.some n.nonzero low small) in
        let digits : suc (degree b) ≤ t.d + degree A =
        omega (arith, k.1, quotient_difference f pos, degree_most a t.d n.nonzero n.short) in
        record {
          d = t.d + degree A;
          c = t.c;
          near = record {
            b = b;
            a = a;
            nonzero = k.0;
            short = omega (arith, (degree_is b k.0).most, pow-suc 2 (degree b), pow_mono digits);
            small = small;
          };
          weight = omega (arith, t.weight, loss_more p q pos, quotient_difference f pos);
        }

-- IT IS REACHED.
pub nearest : (p q : ℕ) → Falling p q → Nearest p q
nearest = euclid_ind (λ p q. Falling p q → Nearest p q) nearest_zero nearest_more
