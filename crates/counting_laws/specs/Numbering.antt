-- The numbers of the points' boxes, one coordinate more at a time, and no digit is lost.
-- Assumes nothing.
use Rattle.std.specs.Prelude.{◌≡◌, refl, List, ◌∷◌, ℕ, suc, ◌+◌, ◌-◌, ◌*◌, ◌/◌, ◌%◌, ◌^◌, ◌≤◌, ◌<◌, eqb, length, get_or, take, drop, set, replicate}
use Rattle.std.proofs.Common.{ap, ◌∙◌, zero-add, mod-eq_of_lt, add-one, arith, drop_of_length-le, length-set, drop-cons, get_or-take, length-take-le, pow_pos, pow_mono, pow-add, shr_lt}
use Rattle.std.proofs.Math.Arith.{digits_lt}
use Rattle.std.proofs.lemmas.List.{length-replicate, get_or-replicate}
use Rattle.definitions.specs.Number.{every}
use Rattle.number_laws.specs.Lists.{set_each}
use Rattle.net_laws.specs.Net.{total}
use Rattle.counting_laws.specs.Boxes.{box_of, box_of_lt, evenly_filled}
use Rattle.counting_laws.specs.Tally.{Tallied, tally_every}
use Rattle.counting_laws.specs.Points.{Shaped, Appendable, Appended, Boxed, digits_at, box_at, fills_evenly}

-- Up to coordinate j the number is b, of n digits; what the coordinates left write behind it makes the box's number.
pub record Boxing (digits : ℕ → ℕ → ℕ → ℕ) (ds : List ℕ) (h j b : ℕ) : Type 0 where
  pub n : ℕ
  pub small : b < 2 ^ n
  pub room : n + total (drop j ds) ≡ total ds
  pub whole : box_of digits j (drop j ds) h b ≡ box_of digits 0 ds h 0

-- So it is of every point.
pub record Numbered (m s : ℕ) (w shape : List ℕ) (j : ℕ) (boxes : List ℕ) : Type 0 where
  pub each : (h : ℕ) → h < 2 ^ m → Boxing (digits_at m w) (take s shape) h j (get_or boxes h 0)

-- One coordinate more: d digits.
record Turn (digits : ℕ → ℕ → ℕ → ℕ) (ds : List ℕ) (m h j b d : ℕ) : Type 0 where
  pub most : d ≤ m
  pub fits : b * 2 ^ d + digits j d h < 2 ^ 8
  pub next : Boxing digits ds h (j + 1) (b * 2 ^ d + digits j d h)

boxing_start : (digits : ℕ → ℕ → ℕ → ℕ) (ds : List ℕ) (h : ℕ) → Boxing digits ds h 0 0
boxing_start digits ds h = record { n = 0; small = omega arith; room = zero-add (total ds); whole = refl }

boxing_done : (digits : ℕ → ℕ → ℕ → ℕ) (ds : List ℕ) (h j b : ℕ) → Boxing digits ds h j b → length ds ≤ j → b ≡ box_of digits 0 ds h 0
unfolding box_of
boxing_done digits ds h j b k all = rw (drop_of_length-le ds all) at k.whole

boxing_more : (digits : ℕ → ℕ → ℕ → ℕ) (ds : List ℕ) (m h j b d : ℕ) → m ≤ 8 → total ds ≤ m → (d ≤ m → digits j d h < 2 ^ d) → drop j ds ≡ d ∷ drop (suc j) ds
    → Boxing digits ds h j b → Turn digits ds m h j b d
unfolding box_of total
boxing_more digits ds m h j b d high fits small e k =
    let sum : k.n + (d + total (drop (suc j) ds)) ≡ total ds = rw e at k.room in
    let most : d ≤ m = omega arith in
    let next : b * 2 ^ d + digits j d h < 2 ^ (k.n + d) = rw (pow-add 2 k.n d) (digits_lt k.small (small most)) in
    let below : 2 ^ (k.n + d) ≤ 2 ^ 8 = pow_mono {i = k.n + d} {j = 8} (omega arith) in
    record {
      most = most;
      fits = omega arith;
      next = rw (add-one j) (record {
        n = k.n + d;
        small = next;
        room = omega arith;
        whole = rw e at k.whole;
      });
    }

module _ (m s : ℕ) (w shape : List ℕ) (given : Shaped m s w shape) where
  digits_at_lt : (h j d : ℕ) → d ≤ m → digits_at m w j d h < 2 ^ d
  digits_at_lt h j d l =
      let e : d + (m - d) ≡ m = omega arith in
      shr_lt d (m - d) (rw e (given.small (j * 2 ^ m + h)))

  shape_length : length (take s shape) ≡ s
  shape_length = length-take-le s shape (omega (arith, given.most, given.sized))

  box_turn : (h j b : ℕ) → j < s → Boxing (digits_at m w) (take s shape) h j b → Turn (digits_at m w) (take s shape) m h j b (get_or shape j 0)
  box_turn h j b l =
      boxing_more (digits_at m w) (take s shape) m h j b (get_or shape j 0) given.degree.high given.room (digits_at_lt h j (get_or shape j 0))
      (drop-cons (take s shape) j 0 (rw shape_length l) ∙ ap (λ (d : ℕ). d ∷ drop (suc j) (take s shape)) (get_or-take s shape j 0 l))

  pub numbered_start : Numbered m s w shape 0 (replicate 256 0)
  numbered_start = record {
    each = λ h l. rw (get_or-replicate {A = ℕ} 256 h 0 0 (omega (arith, pow_mono {j = 8} given.degree.high))) (boxing_start (digits_at m w) (take s shape) h);
  }

  module _ {j : ℕ} {boxes : List ℕ} (numbered : Numbered m s w shape j boxes) where
    module _ (l : j < s) where
      pub numbered_room : Appendable m w j (get_or shape j 0) boxes
      numbered_room = record {
        degree = given.degree;
        place = omega (arith, given.most);
        most = (box_turn 0 j (get_or boxes 0 0) l (numbered.each 0 (pow_pos m))).most;
        room = λ h k. omega (arith, (box_turn h j (get_or boxes h 0) l (numbered.each h k)).fits);
      }

      pub numbered_more : {longer : List ℕ} → Appended m w j (get_or shape j 0) boxes (2 ^ m) longer → Numbered m s w shape (j + 1) longer
      numbered_more appended = record { each = λ h k. rw (appended.each h k) (box_turn h j (get_or boxes h 0) l (numbered.each h k)).next }

    pub numbered_done : s ≤ j → Boxed m w (take s shape) boxes
    numbered_done all h k = boxing_done (digits_at m w) (take s shape) h j (get_or boxes h 0) (numbered.each h k) (rw shape_length all)

  -- each number has a counter
  pub box_counted : (h : ℕ) → box_at m w (take s shape) h < 256
  box_counted h =
      let few : 2 ^ (0 + total (take s shape)) ≤ 2 ^ 8 = pow_mono {i = 0 + total (take s shape)} {j = 8} (omega (arith, given.room, given.degree.high)) in
      omega (arith, box_of_lt (digits_at m w) h (take s shape) 0 0 0 (λ i d l. digits_at_lt h i d (omega (arith, given.room))) (omega arith))

-- ---- d digits more for one point after the other

-- The code's shift loses nothing, and the array has the digits.
pub appended_value : (m : ℕ) (w : List ℕ) (j d b h all : ℕ) → all ≡ 2 ^ m → b * 2 ^ d + digits_at m w j d h < 2 ^ 32
    → b * 2 ^ d % 2 ^ 32 + get_or w (j * all + h) 0 / 2 ^ (m - d) ≡ b * 2 ^ d + digits_at m w j d h
appended_value m w j d b h all e room =
    let exact : b * 2 ^ d % 2 ^ 32 ≡ b * 2 ^ d = mod-eq_of_lt (omega arith) in
    rw (e, exact)

module _ (m : ℕ) (w : List ℕ) (j d : ℕ) (boxes : List ℕ) where
  pub appended_start : Appended m w j d boxes 0 (replicate 256 0)
  appended_start = record { kept = length-replicate {A = ℕ} 256 0; each = λ h l. absurd (omega arith) }

  module _ {n : ℕ} {longer : List ℕ} (done : Appended m w j d boxes n longer) (l : n < 256) {v : ℕ}
      (e : v ≡ get_or boxes n 0 * 2 ^ d + digits_at m w j d n) where
    pub appended_more : Appended m w j d boxes (n + 1) (set longer n v)
    appended_more = record {
      kept = length-set longer n v ∙ done.kept;
      each = λ h k.
          set_each (λ h x. x ≡ get_or boxes h 0 * 2 ^ d + digits_at m w j d h) longer n v (rw done.kept l) e h (λ other. done.each h (omega arith));
    }

-- ---- the counters asked, for a shape of m - t digits
pub few_boxes : (m t : ℕ) → m ≤ 8 → 2 ^ (m - t) ≤ 256
few_boxes m t high = pow_mono {i = m - t} {j = 8} (omega arith)

pub fills_is : (m s t : ℕ) (w shape counts : List ℕ) → Shaped m s w shape → total (take s shape) ≡ m - t
    → Tallied (box_at m w (take s shape)) 256 (2 ^ m) counts → (boxes wanted : ℕ) → boxes ≡ 2 ^ (m - t) → wanted ≡ 2 ^ t
    → every boxes (λ b. eqb (get_or counts b 0) wanted) ≡ fills_evenly m w t (take s shape)
unfolding fills_evenly evenly_filled
fills_is m s t w shape counts given sum tallied boxes wanted eb es =
    rw (eb, es, sum) (tally_every _ 256 tallied (2 ^ (m - t)) (2 ^ t) (few_boxes m t given.degree.high))
