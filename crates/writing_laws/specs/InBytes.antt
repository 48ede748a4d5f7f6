-- Every number of a catalogue that is made of lawful lists is a byte: the count of entries, degrees, T with the kind, t-values and Δ because they are
-- small, all others because they are cut into bytes. Assumes nothing.
use Rattle.std.specs.Prelude.{◌≡◌, ◌⊎◌, Bool, ℕ, zero, suc, ◌+◌, ◌-◌, ◌/◌, ◌^◌, ◌<◌, length, get_or, drop}
use Rattle.std.proofs.Common.{sym, ◌∙◌, subst, inl, inr, arith, length-drop, get_or-drop}
use mathlib.Core.List.Memᴰ
use mathlib.Core.List.{List, [], ◌∷◌, ◌++◌, Memᴰ}
use Rattle.definitions.specs.Ranking.{ranks_from}
use Rattle.definitions.specs.Catalogue.{number_size, count_size, offset_size, first_entry}
use Rattle.number_laws.specs.Bounds.{LawfulDegree}
use Rattle.number_laws.specs.Lists.{join_map_out}
use Rattle.page_laws.specs.Members.{each_more}
use Rattle.definitions.specs.Writing.{bytes_of, Listed, p_of, q_of, step_of, row_bytes, body_bytes, entry_bytes, contents_bytes, behind_lists, catalogue_bytes}
use Rattle.catalogue_laws.specs.Kinds.{marked_small}
use Rattle.catalogue_laws.specs.Written.{LawfulRow, ranks_small}
use Rattle.catalogue_laws.specs.Files.{LawfulListed, LawfulLists, none, more, lists_few}
use Rattle.writing_laws.specs.Held.{indexed, lawful_member}

-- Each number of a list is a byte.
abbrev pub InBytes : List ℕ → Type 0
InBytes l = (b : ℕ) → Memᴰ b l → b < 256

empty_bytes : InBytes []
empty_bytes b i = absurd (Memᴰ.not-nil i)

more_bytes : {x : ℕ} {l : List ℕ} → x < 256 → InBytes l → InBytes (x ∷ l)
more_bytes h f = each_more (λ (b : ℕ). b < 256) h f

append_bytes : {l j : List ℕ} → InBytes l → InBytes j → InBytes (l ++ j)
append_bytes {l} {j} f g b i = go (Memᴰ.append_cases l i)
  where
    go : Memᴰ b l ⊎ Memᴰ b j → b < 256
    go (inl k) = f b k
    go (inr k) = g b k

-- A number that is cut into bytes.
cut_bytes : (w n : ℕ) → InBytes (bytes_of w n)
unfolding bytes_of
cut_bytes zero n = empty_bytes
cut_bytes (suc w) n = append_bytes (cut_bytes w (n / 256)) (more_bytes (omega arith) empty_bytes)

row_bytes_lem : (m top : ℕ) (gaps : Bool) (r : List ℕ) → LawfulDegree m → LawfulRow m top gaps r → InBytes (row_bytes m r)
unfolding row_bytes
row_bytes_lem m top gaps r d h =
    append_bytes (append_bytes (append_bytes (cut_bytes (number_size m) (p_of r - 2 ^ m)) (cut_bytes (number_size m) (q_of r)))
    (cut_bytes (number_size m) (step_of r))) values
  where
    values : InBytes (drop ranks_from r)
    values b i =
        let a = indexed 0 (drop ranks_from r) i in
        let e : get_or r (ranks_from + a.index) 0 ≡ b = sym (get_or-drop ranks_from r a.index 0) ∙ a.is in
        let small = ranks_small m top gaps r d h (ranks_from + a.index) (omega arith) (omega (arith, a.below, length-drop ranks_from r)) in
        omega arith

body_bytes_lem : (l : Listed) → LawfulListed l → InBytes (body_bytes l)
unfolding body_bytes
body_bytes_lem l h b i =
    let of = join_map_out (row_bytes l.degree) l.rows i in
    let a = indexed [] l.rows of.1 in
    row_bytes_lem l.degree l.top l.gaps of.0 h.degree_is_lawful
    (subst (LawfulRow l.degree l.top l.gaps) a.is (h.each a.index a.below)) b of.2

contents_bytes_lem : {last : ℕ} {ls : List Listed} → LawfulLists last ls → (at : ℕ) → InBytes (contents_bytes ls at)
unfolding contents_bytes entry_bytes
contents_bytes_lem none at = empty_bytes
contents_bytes_lem (more {l = l} a h f) at =
    append_bytes
    (more_bytes (omega (arith, h.degree_is_lawful.high)) (more_bytes (marked_small l.top l.gaps h.top_is_lawful)
    (append_bytes (cut_bytes (count_size l.degree) (length l.rows)) (cut_bytes offset_size at))))
    (contents_bytes_lem f (at + length (body_bytes l)))

pub catalogue_bytes_lem : (ls : List Listed) → LawfulLists 0 ls → InBytes (catalogue_bytes ls)
unfolding catalogue_bytes
catalogue_bytes_lem ls h =
    more_bytes (omega (arith, lists_few h)) (append_bytes (contents_bytes_lem h (behind_lists ls first_entry))
    (λ b i. let of = join_map_out body_bytes ls i in body_bytes_lem of.0 (lawful_member h of.1) b of.2))
