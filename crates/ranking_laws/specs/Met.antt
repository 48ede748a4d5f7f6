-- The rows met on a walk: those of the pairs that the selected list has. The list's rule is that its pairs are those accepted at its floor, and that
-- the t-values, and Δ where the list has it, follow p, q, σ in a row; each law is the rule's. Assumes nothing.
use Rattle.std.specs.Prelude.{◌≡◌, refl, Bool, true, false, List, [], ◌∷◌, ◌++◌, map, length, get_or}
use Rattle.std.proofs.Common.{sym, ap₂, ◌∙◌, arith, length-append}
use Rattle.std.proofs.Math.Path.{ap}
use Prim.Native.Nat.{ℕ, zero, suc, ◌+◌, ◌-◌, ◌≤◌, ◌<◌}
use Rattle.std.proofs.lemmas.List.{length-map}
use Rattle.std.proofs.Math.ListN.{get_or-append}
use Rattle.std.proofs.Math.Seq.{get_or-append_seam}
use Rattle.definitions.specs.declared.Selection.{Selection}
use Rattle.definitions.specs.Number.{bit, numbers, put_if}
use Rattle.definitions.specs.Generator.{Pair, accepted_at, step}
use Rattle.definitions.specs.Net.{t_value}
use Rattle.definitions.specs.Gaps.{sum_of_gaps}
use Rattle.definitions.specs.Ranking.{least_top, row_width, t_values, ranks, row, row_key}
use Rattle.number_laws.specs.Lists.{numbers_length}
use Rattle.order_laws.specs.Floor.{accepted_at_accepted}
use Rattle.page_laws.specs.Rows.{Wide}
use Rattle.ranking_laws.specs.Rule.{Rule, width_by, met_by, met_by_none, met_by_more, met_by_less, met_by_append, met_by_length, met_by_wide, row_width_lem}

pub row_def : (l : Selection) (p q : ℕ) → row l p q ≡ p ∷ q ∷ step l.degree p q ∷ ranks l p q
unfolding row
row_def l p q = refl

pub row_key_lem : (l : Selection) (p q : ℕ) → row_key (row l p q) ≡ ranks l p q ++ (p ∷ q ∷ [])
unfolding row_key row
row_key_lem l p q = refl

pub t_values_length : (m top p q : ℕ) → length (t_values m top p q) ≡ suc top - least_top
unfolding t_values
t_values_length m top p q = length-map (numbers least_top (suc top - least_top)) (t_value m p q) ∙ numbers_length least_top (suc top - least_top)

put_length : (b : Bool) (n : ℕ) → length (put_if b n []) ≡ bit b
put_length true n = refl
put_length false n = refl

-- How many numbers rank a pair of a list.
abbrev pub rank_count : Selection → ℕ
rank_count l = suc l.top - least_top + bit l.gaps

pub ranks_length : (l : Selection) (p q : ℕ) → length (ranks l p q) ≡ rank_count l
unfolding ranks
ranks_length l p q = length-append (t_values l.degree l.top p q) _ ∙ ap₂ ◌+◌ (t_values_length l.degree l.top p q) (put_length l.gaps _)

-- The first of them are the t-values, and Δ stands behind these.
ranks_value : (l : Selection) (p q k : ℕ) → k < suc l.top - least_top → get_or (ranks l p q) k 0 ≡ get_or (t_values l.degree l.top p q) k 0
unfolding ranks
ranks_value l p q k h = get_or-append (t_values l.degree l.top p q) _ 0 k (omega (arith, t_values_length l.degree l.top p q))

ranks_delta : (l : Selection) (p q : ℕ) → l.gaps ≡ true → get_or (ranks l p q) (suc l.top - least_top) 0 ≡ sum_of_gaps l.degree p q
unfolding ranks
ranks_delta l p q e =
    let values = t_values l.degree l.top p q in
    let δ = sum_of_gaps l.degree p q in
    ap₂ (λ (b : Bool) (n : ℕ). get_or (values ++ put_if b δ []) n 0) e (sym (t_values_length l.degree l.top p q)) ∙ get_or-append_seam values δ [] 0

map_numbers : (g : ℕ → ℕ) (a n i : ℕ) → i < n → get_or (map g (numbers a n)) i 0 ≡ g (i + a)
unfolding numbers
map_numbers g a zero i l = absurd (omega arith)
map_numbers g a (suc n) zero l = ap g (omega arith)
map_numbers g a (suc n) (suc i) l = map_numbers g (suc a) n i (omega arith) ∙ ap g (omega arith)

-- In a row t(s) is number s, and Δ the number behind t(T): for any rows that have the ranks behind three numbers.
module _ (l : Selection) (p q a b c : ℕ) where
  pub value_behind : (s : ℕ) → least_top ≤ s → s ≤ l.top → get_or (a ∷ b ∷ c ∷ ranks l p q) s 0 ≡ t_value l.degree p q s
  unfolding t_values
  value_behind zero h k = absurd (omega arith)
  value_behind (suc zero) h k = absurd (omega arith)
  value_behind (suc (suc zero)) h k = absurd (omega arith)
  value_behind (suc (suc (suc i))) h k =
      ranks_value l p q i (omega arith)
      ∙ map_numbers (t_value l.degree p q) least_top (suc l.top - least_top) i (omega arith)
      ∙ ap (t_value l.degree p q) (omega arith)

  pub delta_behind : least_top ≤ l.top → l.gaps ≡ true → get_or (a ∷ b ∷ c ∷ ranks l p q) (suc l.top) 0 ≡ sum_of_gaps l.degree p q
  delta_behind h e =
      let end : suc l.top ≡ suc (suc (suc (suc l.top - least_top))) = omega arith in
      ap (λ (n : ℕ). get_or (a ∷ b ∷ c ∷ ranks l p q) n 0) end ∙ ranks_delta l p q e

-- The rule of a selected list.
abbrev pub rule_of : Selection → Rule
rule_of l = record {
  degree = l.degree;
  admits = λ (s : Pair). accepted_at l.degree l.floor s.p s.q;
  only_accepted = λ s t. accepted_at_accepted l.degree l.floor s.p s.q t;
  row = λ (s : Pair). row l s.p s.q;
  ranks = λ (s : Pair). ranks l s.p s.q;
  begins = λ s. row_def l s.p s.q;
  many = rank_count l;
  sized = λ s. ranks_length l s.p s.q;
}

pub width_is : (l : Selection) → least_top ≤ l.top → width_by (rule_of l) ≡ row_width l
width_is l h = omega arith

pub row_length : (l : Selection) (p q : ℕ) → least_top ≤ l.top → length (row l p q) ≡ row_width l
row_length l p q h = row_width_lem (rule_of l) (record { p = p; q = q }) ∙ width_is l h

-- The rows of the pairs accepted at the floor among those given, in their order.
unfoldable pub met : Selection → List Pair → List (List ℕ)
met l pairs = met_by (rule_of l) pairs

module _ (l : Selection) where
  pub met_none : met l [] ≡ []
  unfolding met
  met_none = met_by_none (rule_of l)

  pub met_more : (s : Pair) (pairs : List Pair) → accepted_at l.degree l.floor s.p s.q ≡ true → met l (s ∷ pairs) ≡ row l s.p s.q ∷ met l pairs
  unfolding met
  met_more s pairs t = met_by_more (rule_of l) s pairs t

  pub met_less : (s : Pair) (pairs : List Pair) → accepted_at l.degree l.floor s.p s.q ≡ false → met l (s ∷ pairs) ≡ met l pairs
  unfolding met
  met_less s pairs t = met_by_less (rule_of l) s pairs t

  pub met_append : (a b : List Pair) → met l (a ++ b) ≡ met l a ++ met l b
  unfolding met
  met_append a b = met_by_append (rule_of l) a b

  pub met_length : (pairs : List Pair) → length (met l pairs) ≤ length pairs
  unfolding met
  met_length pairs = met_by_length (rule_of l) pairs

  pub met_wide : least_top ≤ l.top → (pairs : List Pair) → Wide (row_width l) (met l pairs)
  unfolding met
  met_wide h pairs r i = met_by_wide (rule_of l) pairs r i ∙ width_is l h
