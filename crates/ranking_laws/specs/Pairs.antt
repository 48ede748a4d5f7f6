-- All pairs: a pair is listed exactly where it is well-formed, and once. Numbers from 2^m on are the p, numbers from 1 on the q of each p.
-- Assumes nothing.
use Rattle.std.specs.Prelude.{◌≡◌, true, ℕ, ◌^◌}
use Rattle.std.proofs.Common.{sym, ap, ◌∙◌, arith, pow_pos}
use mathlib.Core.List.Memᴰ
use mathlib.Core.List.{List, map, Memᴰ, Nodup}
use Rattle.definitions.specs.Number.{numbers}
use Rattle.definitions.specs.Generator.{Pair, period, well_formed}
use Rattle.definitions.specs.Ranking.{all_pairs}
use Rattle.number_laws.specs.Lists.{numbers_in, numbers_out, numbers_once, map_once, join_map_in, join_map_out, join_map_once}
use Rattle.fraction_laws.specs.WellFormed.{well_formed_is}

abbrev pairs_of : ℕ → ℕ → List Pair
pairs_of m p = map (λ (q : ℕ). record { p = p; q = q }) (numbers 1 (period m))

of_same : (m p : ℕ) (s : Pair) → Memᴰ s (pairs_of m p) → s.p ≡ p
of_same m p s i = let r = Memᴰ.of_map (λ (q : ℕ). record { p = p; q = q }) (numbers 1 (period m)) i in ap (λ (t : Pair). t.p) (sym r.2)

pub all_pairs_in : (m : ℕ) (s : Pair) → well_formed m s.p s.q ≡ true → Memᴰ s (all_pairs m)
unfolding all_pairs
all_pairs_in m s t =
    let w = (well_formed_is m s.p s.q).0 t in
    join_map_in (pairs_of m) (numbers (2 ^ m) (2 ^ m)) (numbers_in (2 ^ m) (2 ^ m) s.p w.degree_p.least (omega (arith, w.degree_p.most)))
    (Memᴰ.map (λ (q : ℕ). record { p = s.p; q = q }) (numbers_in 1 (period m) s.q w.nonzero (omega (arith, w.smaller, pow_pos m))))

pub all_pairs_out : (m : ℕ) (s : Pair) → Memᴰ s (all_pairs m) → well_formed m s.p s.q ≡ true
unfolding all_pairs
all_pairs_out m s i =
    let r = join_map_out (pairs_of m) (numbers (2 ^ m) (2 ^ m)) i in
    let k = Memᴰ.of_map (λ (q : ℕ). record { p = r.0; q = q }) (numbers 1 (period m)) r.2 in
    let a = numbers_out (2 ^ m) (2 ^ m) r.0 r.1 in
    let b = numbers_out 1 (period m) k.0 k.1 in
    ap (λ (t : Pair). well_formed m t.p t.q) (sym k.2)
    ∙ (well_formed_is m r.0 k.0).1
    (record {
      degree_p = record { least = a.0; most = omega (arith, a.1) };
      nonzero = b.0;
      smaller = omega (arith, b.1, pow_pos m);
    })

pub all_pairs_once : (m : ℕ) → Nodup (all_pairs m)
unfolding all_pairs
all_pairs_once m =
    join_map_once (pairs_of m) (numbers (2 ^ m) (2 ^ m)) (numbers_once (2 ^ m) (2 ^ m))
    (λ p i. map_once (λ (q : ℕ). record { p = p; q = q }) (numbers 1 (period m)) (λ x y u v e. ap (λ (t : Pair). t.q) e) (numbers_once 1 (period m)))
    (λ p p' s u v. sym (of_same m p s u) ∙ of_same m p' s v)
