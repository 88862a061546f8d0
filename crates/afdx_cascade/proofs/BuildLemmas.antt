-- The table of the ends of all cables.
use Rattle.std.proofs.Common.{◌≡◌, ℕ, ◌+◌, ◌*◌, ◌/◌, ◌%◌, ◌≤◌, List, length, Option, Some, None, slice_get}
use Rattle.std.proofs.Common.{refl, sym, ap, ◌∙◌, arith, inl, inr, option_and_then}
use Rattle.std.proofs.lemmas.Bool.{cases_lt}
use Rattle.std.proofs.lemmas.Nat.{div-mul-add, mod-mul-add}
use Rattle.std.proofs.lemmas.Option.{slice_get_past}
use Rattle.afdx_frame.proofs.ListLemmas.{slice_get-within}
use Rattle.afdx_config.specs.Switches as switches
use Rattle.afdx_config.specs.Switches.{NamedRows, neighbour_at_port, far_end}
use Rattle.afdx_config.specs.declared.switches.FarEnd.{FarEnd}
use Rattle.afdx_switch.proofs.NewLemmas.{Gathered}
use Rattle.afdx_cascade.specs.Plans.{plan_of}
use Rattle.afdx_cascade.specs.Turning.{AreEnds, end_of, entry_in}

module _ (ss : List NamedRows) (ends : List (Option FarEnd))
    (all : Gathered (λ i e. e ≡ far_end ss (i / 25) (i % 25)) (25 * length ss) ends)
    (k port : ℕ) (low : port ≤ 24) where
  -- at a place within, and past the last one
  at-place : (e : Option FarEnd) → slice_get ends (k * 25 + port) ≡ Some e → far_end ss k port ≡ e
  at-place e at =
      sym (all.each (k * 25 + port) e at
      ∙ ap (λ j. far_end ss j ((k * 25 + port) % 25)) (div-mul-add k 25 port (omega (arith, low)))
      ∙ ap (far_end ss k) (mod-mul-add k 25 port (omega (arith, low))))

  past-all : slice_get ends (k * 25 + port) ≡ None → far_end ss k port ≡ None
  unfolding far_end
  past-all none = elim (cases_lt (k * 25 + port) (length ends)) [
    | inl within ↦ absurd (let found = slice_get-within ends (k * 25 + port) within in cc (found.1, none))
    | inr past ↦
        let counted = all.counted in
        ap (option_and_then (λ (s : NamedRows). option_and_then (switches.end_at ss s.name)
        (neighbour_at_port s.rows port)))
        (slice_get_past ss k (omega (arith, past, counted, low)))
  ]

  entry : (o : Option (Option FarEnd)) → slice_get ends (k * 25 + port) ≡ o → far_end ss k port ≡ entry_in o
  entry None at = past-all at
  entry (Some e) at = at-place e at

pub ends-are : (ss : List NamedRows) (ends : List (Option FarEnd))
    → Gathered (λ i e. e ≡ far_end ss (i / 25) (i % 25)) (25 * length ss) ends
    → AreEnds (plan_of ss) ends
ends-are ss ends all k port low =
    ap end_of (entry ss ends all k port low (slice_get ends (k * 25 + port)) refl)
