-- What becomes of a row that is offered: one that is not above the cut is passed over, one whose slot is behind the room is only counted; and of a
-- pair that is met. Assumes nothing.
use mathlib.Core.Path.{◌≡◌, refl, sym, ap, ◌∙◌, subst}
use Rattle.std.specs.Prelude.{Some, None}
use Rattle.std.specs.Borrow.{Bor}
use mathlib.Core.Bool.{Bool, true, false, ◌&&◌, and-eq-true_iff}
use mathlib.Core.List.{List, [], ◌∷◌}
use Prim.Native.Nat.{ℕ, ◌+◌}
use native.Mathlib.Omega.{arith}
use lib.ListN.{take}
use Rattle.definitions.specs.Generator.{Pair, primitive, linear_quotients, coprime_step, accepted, reaches_floor, accepted_at}
use Rattle.definitions.specs.Pages.{after, above}
use Rattle.definitions.specs.Ranking.{row_key}
use Rattle.number_laws.specs.Truth.{truth_false, not_both}
use Rattle.order_laws.specs.Accepted.{accepted_is}
use Rattle.order_laws.specs.Floor.{accepted_at_both, accepted_at_accepted}
use Rattle.page_laws.specs.Ascending.{above_start}
use Rattle.page_laws.specs.Slot.{slot}
use Rattle.page_laws.specs.Rows.{rows_of, Kept, inserted, inserted_none}
use Rattle.page_laws.specs.Search.{Search, counted, offered_kept, offered_left, offer_one, offer_none}
use Rattle.ranking_laws.specs.Steps.{met_begun, met_begun_none, met_begun_more, met_begun_less}
use Rattle.search.specs.Frame.{width_of, cut_from, offers, offer, Searching, Keeping}
use Rattle.search.specs.Standing.{Valued, row_in, Weighed}
use Rattle.search.specs.declared.frame.Frame.{Frame}
use Rattle.search.specs.declared.rank.Standing.{Standing}
use Rattle.search.specs.declared.rank.Standing.TheVariants.{Low, High, Open}

abbrev pair : ℕ → ℕ → Pair
pair p q = record { p = p; q = q }

-- ---- above the cut

module _ (f : Frame) (k : List ℕ) where
  pub above_open : f.last ≡ None → true ≡ above (cut_from f) k
  above_open e = rw e (sym (above_start k))

  pub above_last : {r : Bool} {j : Bor (List ℕ)} {w : ℕ} → f.last ≡ Some j → w ≡ width_of f
      → r ≡ above (after (row_key (take w j.now))) k → r ≡ above (cut_from f) k
  above_last e n t = rw (e, ← n) t

-- ---- a row offered

module _ (f : Frame) (s : Search) (r : List ℕ) where
  pub offer_passed : above (cut_from f) (row_key r) ≡ false → s ≡ offer f r s
  offer_passed t = sym (offered_left row_key (width_of f) f.capacity (cut_from f) r s t)

  pub offer_counted : {k : Kept} → above (cut_from f) (row_key r) ≡ true
      → k ≡ inserted row_key (width_of f) f.capacity r (record { out = s.out; n = s.n })
      → counted (s.count + 1) k ≡ offer f r s
  offer_counted t e = ap (counted (s.count + 1)) e ∙ sym (offered_kept row_key (width_of f) f.capacity (cut_from f) r s t)

module _ (f : Frame) (s : Search) (p q : ℕ) where
  module _ (w : List ℕ) {x : Standing} (known : Weighed f s p q w x) where
    weighed_as : {y : Standing} → x ≡ y → Weighed f s p q w y
    weighed_as e = subst (Weighed f s p q w) e known

    pub low_offered : x ≡ Low → s ≡ offer f (row_in f p q) s
    unfolding Weighed
    low_offered e = offer_passed f s (row_in f p q) (weighed_as e)

    pub high_offered : x ≡ High → counted (s.count + 1) (record { out = s.out; n = s.n }) ≡ offer f (row_in f p q) s
    unfolding Weighed
    high_offered e =
        let h = weighed_as e in
        let at = slot row_key (row_in f p q) (rows_of (width_of f) s.n s.out) in
        offer_counted f s (row_in f p q) h.0
        (inserted_none row_key (width_of f) f.capacity (row_in f p q) s.out s.n at refl h.1 (omega (arith, h.1, h.2)))

    pub open_valued : x ≡ Open → Valued f.list p q w
    unfolding Weighed
    open_valued e = weighed_as e

pub keeping : {f : Frame} {room : ℕ} {s : Search} → Searching f room s → Keeping f s.n s.out
keeping r = record { lawful = r.framed.lawful; few = r.good.few; room = r.good.room; order = r.good.order }

-- ---- a pair met

module _ (f : Frame) (s : Search) (p q : ℕ) where
  abbrev m : ℕ
  m = f.list.degree

  abbrev floor : ℕ
  floor = f.list.floor

  met_nothing : accepted_at m floor p q ≡ false → s ≡ offers f (met_begun f.list (pair p q ∷ [])) s
  met_nothing t =
      sym (ap (λ (rows : List (List ℕ)). offers f rows s) (met_begun_less f.list (pair p q) [] t ∙ met_begun_none f.list)
      ∙ offer_none row_key (width_of f) f.capacity (cut_from f) s)

  not_accepted : accepted m p q ≡ false → s ≡ offers f (met_begun f.list (pair p q ∷ [])) s
  not_accepted e = met_nothing (truth_false (accepted_at m floor p q) (λ t. not_both (accepted_at_accepted m floor p q t) e))

  pub pair_without_orders : (primitive m p && coprime_step m p q) ≡ false → s ≡ offers f (met_begun f.list (pair p q ∷ [])) s
  pair_without_orders e =
      not_accepted (truth_false (accepted m p q) (λ t.
      let k = (accepted_is m p q).0 t in
      not_both ((and-eq-true_iff (primitive m p) (coprime_step m p q)).1 (k.primitive_p, k.coprime)) e))

  pub pair_below_floor : reaches_floor m floor p q ≡ false → s ≡ offers f (met_begun f.list (pair p q ∷ [])) s
  pair_below_floor e = met_nothing (truth_false (accepted_at m floor p q) (λ t. not_both ((accepted_at_both m floor p q).0 t).1 e))

  pub pair_accepted : (primitive m p && coprime_step m p q) ≡ true → linear_quotients p q ≡ true → accepted m p q ≡ true
  pair_accepted orders linear =
      let both = (and-eq-true_iff (primitive m p) (coprime_step m p q)).0 orders in
      (accepted_is m p q).1 (record { primitive_p = both.0; linear = linear; coprime = both.1 })

  pub pair_offered : {o : Search} → accepted m p q ≡ true → reaches_floor m floor p q ≡ true → o ≡ offer f (row_in f p q) s
      → o ≡ offers f (met_begun f.list (pair p q ∷ [])) s
  pair_offered t r e =
      e
      ∙ sym (ap (λ (rows : List (List ℕ)). offers f rows s)
      (met_begun_more f.list (pair p q) [] ((accepted_at_both m floor p q).1 (t, r))
      ∙ ap (λ (rows : List (List ℕ)). row_in f p q ∷ rows) (met_begun_none f.list))
      ∙ offer_one row_key (width_of f) f.capacity (cut_from f) (row_in f p q) s)
