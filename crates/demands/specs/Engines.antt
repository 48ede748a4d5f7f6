-- Both engines. For a degree that is counted the plain counter gives the quick engine's answer, whatever the pair and the dimension; for every
-- well-formed pair and dimension 1 to 8 both give the t-value. What the counter gives is the smallest t for which, however m - t digits are shared,
-- each box has exactly 2^t points. So it is of the calls and of the C functions, by their contracts, and `recount` prints it. Assumes nothing.
use Rattle.std.proofs.Math.Path.{◌≡◌}
use Rattle.std.specs.Prelude.{refl, ℕ, ◌≤◌, length, take, drop, Result, Ok}
use Rattle.std.proofs.Common.{sym, ap, ◌∙◌, arith, take_at}
use Rattle.definitions.specs.Answers.{uniformity_values}
use Rattle.definitions.specs.Net.{t_value}
use Rattle.definitions.specs.Calls.{uniformity, counting, counted}
use Rattle.definitions.specs.Recount.{recount}
use Rattle.definitions.specs.declared.Refusal.{Refusal}
use Rattle.number_laws.specs.Bounds.{CountedDegree, LawfulDimension, counted_degree_is, lawful_degree_is, counted_lawful, lawful_dimension_is}
use Rattle.slice_laws.specs.Over.{over_front}
use Rattle.slice_laws.proofs.Placing.{put_front}
use Rattle.answer_laws.specs.Unless.{told_given}
use Rattle.answer_laws.specs.Measured.{measured, given_counted, counted_uniformity}
use Rattle.fraction_laws.specs.WellFormed.{WellFormed, well_formed_is}
use Rattle.net_laws.specs.Smallest.{SmallestNet}
use Rattle.figure_results.specs.Results.{t_value_result}
use Rattle.recount_line.specs.Printed.{recount_room, recount_room_lem}
use Rattle.net.proofs.t_value.Reads as t-value
use Rattle.counter.proofs.count_t_value.Reads as count-t-value
use Rattle.recount_line.proofs.put_recount.Reads as put-recount
use Rattle.interface.proofs.fenyurka_t_value.Reads as c-t-value
use Rattle.interface.proofs.fenyurka_count_t_value.Reads as c-count-t-value
use Rattle.demands.specs.Demand2.{uniformity_smallest}

-- ---- over the definitions

module _ (m p q s : ℕ) where
  pub engines_agree : CountedDegree m → counted m p q s ≡ uniformity m p q s
  engines_agree degree = counted_uniformity m p q s ((counted_degree_is m).1 degree)

  -- Each gives the t-value of a well-formed pair in a dimension of 1 to 8.
  module _ (degree : CountedDegree m) (dimension : LawfulDimension s) (pair : WellFormed m p q) where
    pub quick_value : uniformity m p q s ≡ Ok (t_value m p q s)
    quick_value =
        measured m p q s ((lawful_degree_is m).1 (counted_lawful degree)) ((lawful_dimension_is s).1 dimension) ((well_formed_is m p q).1 pair)

    pub counted_value : counted m p q s ≡ Ok (t_value m p q s)
    counted_value = engines_agree degree ∙ quick_value

  pub counted_smallest : (t : ℕ) → counted m p q s ≡ Ok t → SmallestNet m p q s t
  unfolding counted
  counted_smallest t e =
      let given = (told_given (counting m p q s) e (λ r d. let z : ◌≡◌ {A = ℕ} 0 1 = cc in omega arith)).0 in
      uniformity_smallest m p q s t (sym (counted_uniformity m p q s (given_counted m p q s given)) ∙ e)

-- ---- of the calls

module _ (κs κs' : _) (m p q s : ℕ) (r r' : _) (e e' : _)
    (quick : t-value.Post κs (m, (p, (q, (s, tt)))) r e) (count : count-t-value.Post κs' (m, (p, (q, (s, tt)))) r' e') (degree : CountedDegree m) where
  -- THE COUNTER GIVES THE QUICK ENGINE'S ANSWER,
  pub count_is_quick : r' ≡ r
  count_is_quick = count ∙ engines_agree m p q s degree ∙ sym quick

  -- and of a well-formed pair, in a dimension of 1 to 8, both give the t-value.
  module _ (dimension : LawfulDimension s) (pair : WellFormed m p q) where
    pub both_t_value : (r ≡ Ok (t_value m p q s)) × (r' ≡ Ok (t_value m p q s))
    both_t_value = (quick ∙ quick_value m p q s degree dimension pair, count ∙ counted_value m p q s degree dimension pair)

-- ---- of the C functions

module _ (κs κs' : _) (m p q s : ℕ) (r r' : _) (e e' : _)
    (quick : c-t-value.Post κs (m, (p, (q, (s, tt)))) r e) (count : c-count-t-value.Post κs' (m, (p, (q, (s, tt)))) r' e') (degree : CountedDegree m) where
  pub c_count_is_quick : r' ≡ r
  c_count_is_quick = count ∙ ap (λ (u : Result ℕ Refusal). t_value_result (uniformity_values u)) (engines_agree m p q s degree) ∙ sym quick

-- ---- what is printed

-- The bytes that are put at the front of a buffer with room for any text are the text of the line.
module _ (κs : _) (out input : _) (r : _) (e : _) (h : put-recount.Post κs (out, (0, (input, tt))) r e) (room : recount_room ≤ length out.now) where
  pub recount_printed : take r e.0.now ≡ recount input.now
  recount_printed =
      let text = recount input.now in
      let put = put_front text out.now (omega (arith, recount_room_lem input.now)) h.0 h.1 in
      rw (put.0, put.1, over_front text out.now) (take_at text (drop (length text) out.now) (length text) refl)
