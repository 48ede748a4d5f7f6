-- No choice is left: for each public call, two results, and what two runs leave in the lent slices, that its contract allows are equal.
-- Each statement is over the contract itself: `Post`, made by the toolchain from the source's `ensures` clauses, is what they claim of the lifetimes,
-- the arguments, the result and the arguments at exit. Every clause is an equation with one definition, and what equals one thing is equal.
-- Assumes nothing.
use Rattle.std.specs.Prelude.{◌≡◌}
use Rattle.std.proofs.Common.{sym, ap₂, ◌∙◌}
use base.Logic.{ent}
use contract.Monad.{conj, conj_l, conj_r, fact, fact_i, fact_use}
use borrow.Fn.World.{World, Pr}
use Rattle.generator.proofs.judge.Reads as judge
use Rattle.quotient_test.proofs.test_quotients.Reads as test-quotients
use Rattle.net.proofs.t_value.Reads as t-value
use Rattle.counter.proofs.count_t_value.Reads as count-t-value
use Rattle.gaps.proofs.sum_of_gaps.Reads as sum-of-gaps
use Rattle.ranking.proofs.page.Reads as page
use Rattle.points.proofs.points.Reads as points
use Rattle.catalogue.proofs.«open».Reads as opened
use Rattle.catalogue.proofs.lookup.Reads as lookup
use Rattle.catalogue.proofs.body.Reads as body
use Rattle.catalogue_rows.proofs.row_at.Reads as row_at
use Rattle.catalogue_rows.proofs.place_behind.Reads as place-behind
use Rattle.catalogue_writer.proofs.write.Reads as write
use Rattle.line.proofs.read_numbers.Reads as read-numbers
use Rattle.listing.proofs.read_line.Reads as read-line
use Rattle.listing.proofs.put_decimal.Reads as put-decimal
use Rattle.listing.proofs.put_header.Reads as put-header
use Rattle.listing.proofs.put_row.Reads as put-row
use Rattle.listing.proofs.put_page.Reads as put-page
use Rattle.listing.proofs.put_total.Reads as put-total
use Rattle.listing.proofs.put_refused.Reads as Put-refused
use Rattle.recount_line.proofs.put_recount.Reads as put-recount
use Rattle.catalogue_line.proofs.answer.Reads as answer
use Rattle.listing_start.proofs.start.Reads as start
use Rattle.listing_parts.proofs.parts.next.Reads as next-part
use Rattle.catalogue_reader.specs.contracts.reader as reader
use Rattle.catalogue_reader.specs.contracts.next as next
use Rattle.catalogue_reader.specs.contracts.advance as advance
use Rattle.interface.proofs.fenyurka_judge.Reads as c-judge
use Rattle.interface.proofs.fenyurka_quotients.Reads as c-quotients
use Rattle.interface.proofs.fenyurka_t_value.Reads as c-t-value
use Rattle.interface.proofs.fenyurka_count_t_value.Reads as c-count-t-value
use Rattle.interface.proofs.fenyurka_sum_of_gaps.Reads as c-sum-of-gaps
use Rattle.interface.proofs.fenyurka_first_page.Reads as c-first-page
use Rattle.interface.proofs.fenyurka_page_after.Reads as c-page-after
use Rattle.interface.proofs.fenyurka_points.Reads as c-points
use Rattle.interface.proofs.fenyurka_open.Reads as c-open
use Rattle.interface.proofs.fenyurka_lookup.Reads as c-lookup
use Rattle.interface.proofs.fenyurka_row.Reads as c-row
use Rattle.interface.proofs.fenyurka_write.Reads as c-write
use Rattle.demands.specs.Arguments.{second, third, fourth, sixth}

-- ---- what is shown

-- Of two runs with the same arguments, whatever results and exits a contract allows, the same is seen.
abbrev pub Determined : {L : Type 0} {A R E S : L → Type 0} → ((κs : L) → A κs → R κs → E κs → Type 0) → ((κs : L) → R κs → E κs → S κs) → Type 0
Determined {L} {A} {R} {E} allows seen =
    (κs : L) (a : A κs) (r r' : R κs) (e e' : E κs) → allows κs a r e → allows κs a r' e' → seen κs r e ≡ seen κs r' e'

-- The result r and what the slice s holds, seen together.
infixr 20 ◌and◌
abbrev pub ◌and◌ : {A B : Type 0} → A → B → A × B
r and s = (r, s)

same : {A : Type 0} {x y z : A} → x ≡ z → y ≡ z → x ≡ y
same x y = x ∙ sym y

both : {A B : Type 0} {r r' x : A} {s s' y : B} → (r ≡ x) × (s ≡ y) → (r' ≡ x) × (s' ≡ y) → (r and s) ≡ (r' and s')
both x y = ap₂ ◌and◌ (same x.0 y.0) (same x.1 y.1)

-- ---- calls with a result alone

pub judge_unique : Determined judge.Post (λ κs r e. r)
judge_unique κs a r r' e e' = same

pub test_quotients_unique : Determined test-quotients.Post (λ κs r e. r)
test_quotients_unique κs a r r' e e' = same

pub t_value_unique : Determined t-value.Post (λ κs r e. r)
t_value_unique κs a r r' e e' = same

pub count_t_value_unique : Determined count-t-value.Post (λ κs r e. r)
count_t_value_unique κs a r r' e e' = same

pub sum_of_gaps_unique : Determined sum-of-gaps.Post (λ κs r e. r)
sum_of_gaps_unique κs a r r' e e' = same

pub open_unique : Determined opened.Post (λ κs r e. r)
open_unique κs a r r' e e' = same

pub lookup_unique : Determined lookup.Post (λ κs r e. r)
lookup_unique κs a r r' e e' = same

-- Determined in its bytes, and not as a pointer: any part with these bytes answers.
pub body_unique : Determined body.Post (λ κs r e. r.now)
body_unique κs a r r' e e' = same

pub row_at_unique : Determined row_at.Post (λ κs r e. r)
row_at_unique κs a r r' e e' = same

pub place_behind_unique : Determined place-behind.Post (λ κs r e. r)
place_behind_unique κs a r r' e e' = same

pub read_line_unique : Determined read-line.Post (λ κs r e. r)
read_line_unique κs a r r' e e' = same

pub start_unique : Determined start.Post (λ κs r e. r)
start_unique κs a r r' e e' = same

-- ---- calls with a lent slice

pub page_unique : Determined page.Post (λ κs r e. r and (second e).now)
page_unique κs a r r' e e' = both

pub points_unique : Determined points.Post (λ κs r e. r and (sixth e).now)
points_unique κs a r r' e e' = both

pub write_unique : Determined write.Post (λ κs r e. r and (third e).now)
write_unique κs a r r' e e' = both

pub read_numbers_unique : Determined read-numbers.Post (λ κs r e. r and (second e).now)
read_numbers_unique κs a r r' e e' = both

pub put_decimal_unique : Determined put-decimal.Post (λ κs r e. r and e.0.now)
put_decimal_unique κs a r r' e e' = both

pub put_header_unique : Determined put-header.Post (λ κs r e. r and e.0.now)
put_header_unique κs a r r' e e' = both

pub put_row_unique : Determined put-row.Post (λ κs r e. r and e.0.now)
put_row_unique κs a r r' e e' = both

pub put_page_unique : Determined put-page.Post (λ κs r e. r and e.0.now)
put_page_unique κs a r r' e e' = both

pub put_total_unique : Determined put-total.Post (λ κs r e. r and e.0.now)
put_total_unique κs a r r' e e' = both

pub put_refused_unique : Determined Put-refused.Post (λ κs r e. r and e.0.now)
put_refused_unique κs a r r' e e' = both

pub put_recount_unique : Determined put-recount.Post (λ κs r e. r and e.0.now)
put_recount_unique κs a r r' e e' = both

-- The next part of the listing's text: two slices, of numbers and of bytes.
pub next_part_unique : Determined next-part.Post (λ κs r e. r and (second e).now and (third e).now)
next_part_unique κs a r r' e e' x y = ap₂ ◌and◌ (same x.0 y.0) (both x.1 y.1)

-- What the program that writes a catalogue answers: the bytes for both streams, and how many there are.
pub answer_unique : Determined answer.Post (λ κs r e. r.file and r.text and (second e).now and (third e).now)
answer_unique κs a r r' e e' x y = ap₂ ◌and◌ (same x.0 y.0) (ap₂ ◌and◌ (same x.1.0 y.1.0) (both x.1.1 y.1.1))

-- ---- the reader: the toolchain gives no `Post` for a struct that holds a slice, so the clauses themselves stand here, in any model of the logic

module _ (w : World) where
  -- The same of claims in a model.
  abbrev pub DeterminedIn : {L : Type 0} {A R E S : L → Type 0} → ((κs : L) → A κs → R κs → E κs → Pr w) → ((κs : L) → R κs → E κs → S κs) → Type 1
  DeterminedIn {L} {A} {R} {E} claims seen =
      (κs : L) (a : A κs) (r r' : R κs) (e e' : E κs)
      → ent w.𝓤 (conj w.𝓤 (claims κs a r e) (claims κs a r' e')) (fact w.𝓤 (seen κs r e ≡ seen κs r' e'))

  facts_both : {φ ψ χ : Type 0} → (φ → ψ → χ) → ent w.𝓤 (conj w.𝓤 (fact w.𝓤 φ) (fact w.𝓤 ψ)) (fact w.𝓤 χ)
  facts_both {φ} {ψ} {χ} f =
      fact_use w.𝓤 φ (conj_l w.𝓤 (fact w.𝓤 φ) (fact w.𝓤 ψ))
      (λ x. fact_use w.𝓤 ψ (conj_r w.𝓤 (fact w.𝓤 φ) (fact w.𝓤 ψ)) (λ y. fact_i w.𝓤 χ _ (f x y)))

  all_six : {A B C D E F : Type 0} {a a' x : A} {b b' y : B} {c c' z : C} {d d' u : D} {e e' v : E} {f f' t : F}
      → (a ≡ x) × (b ≡ y) × (c ≡ z) × (d ≡ u) × (e ≡ v) × (f ≡ t) → (a' ≡ x) × (b' ≡ y) × (c' ≡ z) × (d' ≡ u) × (e' ≡ v) × (f' ≡ t)
      → (a and b and c and d and e and f) ≡ (a' and b' and c' and d' and e' and f')
  all_six x y =
      ap₂ ◌and◌ (same x.0 y.0)
      (ap₂ ◌and◌ (same x.1 y.1)
      (ap₂ ◌and◌ (same x.2 y.2) (ap₂ ◌and◌ (same x.3 y.3) (ap₂ ◌and◌ (same x.4 y.4) (same x.5 y.5)))))

  pub reader_unique : DeterminedIn (λ κs a r e. (reader.clauses w.𝓛 w.𝓜.mem w.𝓡.run κs a).ensures tt r e)
      (λ κs r e. r.refusal and r.body.now and r.degree and r.top and r.gaps and r.place)
  reader_unique κs a r r' e e' = facts_both all_six

  pub next_unique : DeterminedIn (λ κs a r e. (next.clauses w.𝓛 w.𝓜.mem w.𝓡.run κs a).ensures tt r e) (λ κs r e. r)
  next_unique κs a r r' e e' = facts_both same

  pub advance_unique : DeterminedIn (λ κs a r e. (advance.clauses w.𝓛 w.𝓜.mem w.𝓡.run κs a).ensures tt r e)
      (λ κs r e. r.refusal and r.body and r.degree and r.top and r.gaps and r.place)
  advance_unique κs a r r' e e' = facts_both all_six

-- ---- from C: the struct returned, and each slice

pub c_judge_unique : Determined c-judge.Post (λ κs r e. r)
c_judge_unique κs a r r' e e' = same

pub c_quotients_unique : Determined c-quotients.Post (λ κs r e. r)
c_quotients_unique κs a r r' e e' = same

pub c_t_value_unique : Determined c-t-value.Post (λ κs r e. r)
c_t_value_unique κs a r r' e e' = same

pub c_count_t_value_unique : Determined c-count-t-value.Post (λ κs r e. r)
c_count_t_value_unique κs a r r' e e' = same

pub c_sum_of_gaps_unique : Determined c-sum-of-gaps.Post (λ κs r e. r)
c_sum_of_gaps_unique κs a r r' e e' = same

pub c_first_page_unique : Determined c-first-page.Post (λ κs r e. r and (second e).now)
c_first_page_unique κs a r r' e e' = both

pub c_page_after_unique : Determined c-page-after.Post (λ κs r e. r and (fourth e).now)
c_page_after_unique κs a r r' e e' = both

pub c_points_unique : Determined c-points.Post (λ κs r e. r and (sixth e).now)
c_points_unique κs a r r' e e' = both

pub c_open_unique : Determined c-open.Post (λ κs r e. r)
c_open_unique κs a r r' e e' = same

pub c_lookup_unique : Determined c-lookup.Post (λ κs r e. r)
c_lookup_unique κs a r r' e e' = same

pub c_row_unique : Determined c-row.Post (λ κs r e. r)
c_row_unique κs a r r' e e' = same

pub c_write_unique : Determined c-write.Post (λ κs r e. r and (third e).now)
c_write_unique κs a r r' e e' = both
