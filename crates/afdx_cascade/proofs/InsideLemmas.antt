-- Each event is at one of the switches, and each turn at one of its ports.
use Rattle.std.proofs.Common.{◌≡◌, ℕ, ◌<◌, ◌≤◌, ◌==◌, Bool, true, false, List, [], ◌∷◌, length, refl, arith, inl, inr}
use Rattle.std.proofs.Common.{subst, sym, ◌∙◌}
use Rattle.std.specs.Prelude.{if◌then◌else◌}
use Rattle.std.specs.List.{AllByRecursion}
use Rattle.std.proofs.lemmas.Bool.{cases_lt}
use Rattle.afdx_port.proofs.TurnLemmas.{eqb-same}
use Rattle.afdx_config.specs.Rows.{Rows}
use Rattle.afdx_network.specs.Events.{Event, Came, Left}
use Rattle.afdx_network.specs.Network.{EachFollows}
use Rattle.afdx_network.specs.declared.network.Network.{Network}
use Rattle.afdx_cascade.specs.Found.{AllStand}
use Rattle.afdx_cascade.specs.SwitchEvents.{Plan, SwitchEvent, HasPort, IsInPlan, at_switch}
use Rattle.afdx_cascade.proofs.MoreLemmas.{there-or-past}

-- without the latest event at a switch
follows-before : (t : Rows) (b : Bool) (e : Event) (es : List Event)
    → EachFollows t (if b then e ∷ es else es) → EachFollows t es
follows-before t true e es all = all.1
follows-before t false e es all = all

none-before : (b : Bool) (e : Event) (es : List Event) → (if b then e ∷ es else es) ≡ [] → es ≡ []
none-before true e es none = absurd (cc none)
none-before false e es none = none

has-port : (t : Rows) (e : Event) (es : List Event) → EachFollows t (e ∷ es) → HasPort e
has-port t (Came a) es all = tt
has-port t (Left d) es all = (all.0.0, all.0.1)

-- the events at each switch follow from one another, and none is at another switch
pub follow-inside : (c : Plan) (so_far : List SwitchEvent)
    → ((k : ℕ) → k < c.count → EachFollows (c.tables k) (at_switch k so_far))
    → ((k : ℕ) → c.count ≤ k → at_switch k so_far ≡ [])
    → AllByRecursion (IsInPlan c) so_far
follow-inside c [] follows others = tt
follow-inside c (h ∷ before) follows others = (
  elim (cases_lt h.switch c.count) [
    | inl within ↦ (
      within,
      has-port (c.tables h.switch) h.event (at_switch h.switch before)
          (subst (EachFollows (c.tables h.switch)) here (follows h.switch within)),
    )
    | inr past ↦ absurd (cc (sym here ∙ others h.switch past))
  ],
  follow-inside c before
      (λ k within. follows-before (c.tables k) (h.switch == k) h.event (at_switch k before)
      (follows k within))
      (λ k past. none-before (h.switch == k) h.event (at_switch k before) (others k past)),
)
  where
    here : at_switch h.switch (h ∷ before) ≡ h.event ∷ at_switch h.switch before
    here = rw (eqb-same h.switch h.switch refl) refl

module _ (c : Plan) (networks : List Network) (so_far : List SwitchEvent)
    (all : AllStand c networks so_far) (size : length networks ≡ c.count) where
  pub each-follows : (k : ℕ) → k < c.count → EachFollows (c.tables k) (at_switch k so_far)
  each-follows k within = elim (there-or-past networks k) [
    | inl found ↦ (all.each k found.0 found.1).follows
    | inr past ↦ absurd (omega (arith, within, past, size))
  ]

  pub all-inside : AllByRecursion (IsInPlan c) so_far
  all-inside = follow-inside c so_far each-follows
      (λ k past. all.others k (omega (arith, past, size)))
