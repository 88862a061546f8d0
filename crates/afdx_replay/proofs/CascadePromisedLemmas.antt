-- What is promised of each switch of several that are admitted.
use Rattle.std.proofs.Common.{◌≡◌, ℕ, zero, suc, ◌<◌, ◌≤◌, List, [], ◌∷◌, length, refl, sym, subst, arith}
use Rattle.std.proofs.Common.{Bool, true, false, All, Some, slice_get}
use Rattle.std.specs.Prelude.{nat_lt, IsTrue, if◌then◌else◌}
use Rattle.std.specs.List.{AllByRecursion}
use Rattle.std.proofs.lemmas.Bool.{ltb-false, ltb-true}
use Rattle.afdx_admit.specs.Cascade.{IsCascadeAdmitted}
use Rattle.afdx_law_bounds.specs.Outputs.{AreTimed}
use Rattle.afdx_cascade.specs.Cascade.{StandsFor}
use Rattle.afdx_cascade.specs.Plans.{plan_of, tables_of}
use Rattle.afdx_cascade.specs.SwitchEvents.{SwitchEvent, at_switch, came_to}
use Rattle.afdx_cascade.specs.declared.cascade.Cascade.{Cascade}
use Rattle.afdx_config.proofs.AmongOthersLemmas.{admitted-serving}
use Rattle.afdx_config.specs.Switches.{NamedRows}
use Rattle.afdx_network.specs.Events.{Event, Came, Left, Admission, arrivals_in}
use Rattle.afdx_network.specs.Order.{AreInOrder, is_below, key}
use Rattle.afdx_switch.specs.Admitted.{IsAdmittedRun}
use Rattle.afdx_network.specs.Order.{events_of}
use Rattle.afdx_config.specs.Admission.{IsServing}
use Rattle.afdx_frame.proofs.ListLemmas.{slice_get-within}
use Rattle.afdx_replay.specs.replaying.Promises.{TellsPromises}
use Rattle.afdx_replay.specs.replaying.Text.{replay_text}
use Rattle.afdx_replay.proofs.PromisedLemmas.{replay-promised}

pub below-time : (m n : ℕ) (ms ns : List ℕ) → is_below (m ∷ ms) (n ∷ ns) ≡ true → m ≤ n
below-time m n ms ns h = by (nat_lt m n) refl (nat_lt n m) refl h
  where
    by : (a : Bool) → nat_lt m n ≡ a → (b : Bool) → nat_lt n m ≡ b
        → (if a then true else if b then false else is_below ms ns) ≡ true → m ≤ n
    by true is b be h = let lt = ltb-true m n is in omega (arith, lt)
    by false is true be h = absurd (cc h)
    by false is false be h = ltb-false n m be

-- arrivals before one are no later
came-before : (c : Admission) (before : List Event)
    → AllByRecursion (λ d. IsTrue (is_below (key d) (key (Came c)))) before
    → All (λ y. y.time ≤ c.arrival.time) (arrivals_in before)
came-before c [] h k d lt = absurd (omega (arith, lt))
came-before c (Left e ∷ before) h k d lt = came-before c before h.1 k d lt
came-before c (Came e ∷ before) h zero d lt =
    below-time e.arrival.time c.arrival.time (1 ∷ e.place ∷ []) (1 ∷ c.place ∷ []) (true-is h.0)
  where
    true-is : {b : Bool} → IsTrue b → b ≡ true
    true-is h = h
came-before c (Came e ∷ before) h (suc k) d lt = came-before c before h.1 k d (omega (arith, lt))

came-timed : (events : List Event) → AreInOrder events → AreTimed (arrivals_in events)
came-timed [] h = tt
came-timed (Came c ∷ before) h = (came-before c before h.0, came-timed before h.1)
came-timed (Left d ∷ before) h = came-timed before h.1

-- ---- at each switch

tables-there : (s : List NamedRows) (k : ℕ) (row : NamedRows) → slice_get s k ≡ Some row → row.rows ≡ tables_of s k
unfolding tables_of
tables-there s k row is = rw is refl

module _ (s : List NamedRows) (w : Cascade) (events : List SwitchEvent) (stands : StandsFor (plan_of s) w events)
    (k : ℕ) (within : k < length s) where
  pub admitted-run : IsCascadeAdmitted s → IsAdmittedRun (tables_of s k) (came_to k events)
  admitted-run admitted =
      let row = slice_get-within s k within in
      let count = stands.count in
      let network = slice_get-within w.networks.items k (omega (arith, within, count)) in
      record {
        lawful = stands.keeps.plan.lawful k;
        admitted = subst IsServing (tables-there s k row.0 row.1)
            (admitted-serving row.0.rows (admitted.each k row.0 row.1));
        timed = came-timed (at_switch k events) (stands.keeps.stands.all.each k network.0 network.1).in_order;
      }

  pub promised-at : (text : List ℕ)
      → text ≡ replay_text (tables_of s k) (events_of (tables_of s k) (came_to k events)) → IsCascadeAdmitted s
      → TellsPromises (tables_of s k) (came_to k events) text
  promised-at text is admitted = subst (TellsPromises (tables_of s k) (came_to k events)) (sym is)
      (replay-promised (tables_of s k) (came_to k events) (admitted-run admitted))
