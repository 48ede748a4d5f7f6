-- A part stands at a place of a file: the file is some bytes, as many as the place says, then the part, then others.
-- A part that stands brings its own parts along, and numbers, rows and bodies that were written are read back where they stand.
-- Assumes nothing.
use Rattle.std.specs.Prelude.{◌≡◌, refl, List, [], ◌∷◌, ◌++◌, ℕ, zero, suc, ◌+◌, ◌*◌, ◌/◌, ◌%◌, ◌^◌, ◌<◌, length, get_or, take, drop}
use Rattle.std.proofs.Common.{sym, ap, ◌∙◌, append_assoc, append-nil, pow-suc, div-lt_iff_lt-mul, div-add-mod', arith, length-append, get_or-append-add, take_at, drop_at}
use Rattle.std.proofs.Math.ListN.{get_or-append}
use Rattle.definitions.specs.Catalogue.{byte_at, number_at}
use Rattle.definitions.specs.Writing.{bytes_of}

-- ---- parts

pub record Stands (s : List ℕ) (place : ℕ) (part : List ℕ) : Type 0 where
  pub before : List ℕ
  pub behind : List ℕ
  pub file_is : s ≡ before ++ (part ++ behind)
  pub place_is : length before ≡ place

pub stands_first : (s : List ℕ) (place : ℕ) (a b : List ℕ) → Stands s place (a ++ b) → Stands s place a
stands_first s place a b h = record {
  before = h.before;
  behind = b ++ h.behind;
  file_is = h.file_is ∙ ap (λ (l : List ℕ). h.before ++ l) (append_assoc a b h.behind);
  place_is = h.place_is;
}

pub stands_rest : (s : List ℕ) (place : ℕ) (a b : List ℕ) → Stands s place (a ++ b) → Stands s (place + length a) b
stands_rest s place a b h = record {
  before = h.before ++ a;
  behind = h.behind;
  file_is = h.file_is ∙ simp append_assoc;
  place_is = length-append h.before a ∙ ap (λ (n : ℕ). n + length a) h.place_is;
}

pub stands_byte : (s : List ℕ) (place : ℕ) (part : List ℕ) (k : ℕ) → Stands s place part → k < length part → byte_at s (place + k) ≡ get_or part k 0
stands_byte s place part k h l =
    rw (h.file_is, ← h.place_is) (get_or-append-add h.before (part ++ h.behind) k 0 ∙ get_or-append part h.behind 0 k l)

pub stands_whole : (s : List ℕ) → Stands s 0 s
stands_whole s = record { before = []; behind = []; file_is = sym (append-nil s); place_is = refl }

-- The part, cut out.
pub stands_part : (s : List ℕ) (place : ℕ) (part : List ℕ) → Stands s place part → take (length part) (drop place s) ≡ part
stands_part s place part h =
    rw (h.file_is, drop_at h.before (part ++ h.behind) place h.place_is) (take_at part h.behind (length part) refl)

-- ---- numbers

pub bytes_length : (w n : ℕ) → length (bytes_of w n) ≡ w
unfolding bytes_of
bytes_length zero n = refl
bytes_length (suc w) n = length-append (bytes_of w (n / 256)) (n % 256 ∷ []) ∙ omega (arith, bytes_length w (n / 256))

pub stands_number : (w n : ℕ) (s : List ℕ) (place : ℕ) → n < 256 ^ w → Stands s place (bytes_of w n) → number_at w s place ≡ n
unfolding number_at bytes_of
stands_number zero n s place h p = omega arith
stands_number (suc w) n s place h p =
    go (stands_number w (n / 256) s place small (stands_first s place (bytes_of w (n / 256)) (n % 256 ∷ []) p))
  where
    small : n / 256 < 256 ^ w
    small = (div-lt_iff_lt-mul {k = 256} (omega arith)).1 (rw (← pow-suc 256 w) h)

    last : byte_at s (place + w) ≡ n % 256
    last =
        let q : Stands s (place + length (bytes_of w (n / 256))) (n % 256 ∷ []) = stands_rest s place (bytes_of w (n / 256)) (n % 256 ∷ []) p in
        let f : place + w ≡ place + length (bytes_of w (n / 256)) + 0 = omega (arith, bytes_length w (n / 256)) in
        ap (byte_at s) f ∙ stands_byte s _ (n % 256 ∷ []) 0 q (omega arith)

    go : number_at w s place ≡ n / 256 → number_at w s place * 256 + byte_at s (place + w) ≡ n
    go ih = rw (ih, last) (div-add-mod' n 256)

pub number_bytes_lem : (w n : ℕ) → n < 256 ^ w → number_at w (bytes_of w n) 0 ≡ n
number_bytes_lem w n h = stands_number w n (bytes_of w n) 0 h (stands_whole (bytes_of w n))
