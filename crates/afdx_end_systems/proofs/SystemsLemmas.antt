-- The systems at the ports of the switch.
use Rattle.std.proofs.Common.{◌≡◌, ℕ, zero, suc, ◌+◌, ◌<◌, ◌≤◌, ◌==◌, ◌++◌, true, false, cond, List, []}
use Rattle.std.proofs.Common.{◌∷◌}
use Rattle.std.proofs.Common.{length, Option, Some, None, Vec, Global}
use Rattle.std.proofs.Common.{vec_len, get_or, refl, sym, ap, ◌∙◌, subst, arith, ◌⊎◌, inl, inr}
use Rattle.std.specs.Prelude.{slice_get, slice_set, nat_lt, option_and_then, option_map}
use Rattle.std.specs.Option.{option_map_or}
use Rattle.std.specs.List.{position_from, AllByRecursion}
use Rattle.std.proofs.lemmas.Bool.{cases_eq, ne_eqb}
use Rattle.std.proofs.lemmas.List.{length_push}
use Rattle.std.proofs.lemmas.Bool.Decides.{nat_tests}
use Rattle.std.proofs.lemmas.Option.{slice_get_past, slice_get_cases, slice_get_within, slice_get_read}
use Rattle.std.proofs.lemmas.Iterator.Adapters.{position_from-zero}
use Rattle.afdx_config.specs.Rows.{Rows, SystemRow}
use Rattle.afdx_config.specs.Reading.{listener_at, system_at_port}
use Rattle.afdx_config.specs.Lawful.{IsLawfulSwitch, IsSystem}
use Rattle.afdx_receive.specs.Arrivals.{Arrived}
use Rattle.afdx_end_systems.specs.declared.end_system.EndSystem.{EndSystem}
use Rattle.afdx_end_systems.specs.declared.systems.Systems.{Systems}
use Rattle.afdx_end_systems.specs.Handovers.{HandedOver, arrival_of, came_to}
use Rattle.afdx_receive.specs.Answers.{answer_of}
use Rattle.afdx_receive.specs.declared.reception.Reception.{Reception}
use Rattle.afdx_end_systems.specs.Receptions.{answered, answered_at, name_at, name_of}
use Rattle.afdx_end_systems.specs.StandsFor.{IsAfter, IsAt, StandsFor}
use Rattle.afdx_end_systems.specs.StandsFor.{system_in}
use Rattle.afdx_end_systems.proofs.PassLemmas.{slice_get-set_here, slice_get-set_there}

-- ---- new systems

-- the systems at the first ports, as many as this, at which nothing arrived
pub record HasBuilt (rows : Rows) (count : ℕ) (systems : List (Option EndSystem)) : Type 0 where
  pub long : length systems ≡ count
  pub lawful : 0 < count → IsLawfulSwitch rows
  pub each : (port : ℕ) (at : Option EndSystem) → slice_get systems port ≡ Some at
      → IsAt rows [] (listener_at rows port) at

some_same : {X : Type 0} {x y : X} → Some x ≡ Some y → x ≡ y
some_same e = cc

none_some : {X : Type 0} {x : X} → None ≡ Some x → ⊥
none_some e = cc

-- what holds of each of a list, and of one behind it, holds of each
with_one : {X : Type 0} (P : ℕ → X → Type 0) (xs : List X) (x : X) → ((i : ℕ) (y : X) → slice_get xs i ≡ Some y → P i y)
    → P (length xs) x → (i : ℕ) (y : X) → slice_get (xs ++ x ∷ []) i ≡ Some y → P i y
with_one P [] x each last zero y e = subst (P 0) (some_same e) last
with_one P [] x each last (suc i) y e = absurd (none_some e)
with_one P (z ∷ zs) x each last zero y e = each zero y e
with_one P (z ∷ zs) x each last (suc i) y e = with_one (λ n. P (suc n)) zs x (λ n w h. each (suc n) w h) last i y e

pub built_more : (rows : Rows) (count : ℕ) (systems : List (Option EndSystem)) (at : Option EndSystem)
    → HasBuilt rows count systems → IsLawfulSwitch rows → IsAt rows [] (listener_at rows count) at
    → HasBuilt rows (count + 1) (systems ++ at ∷ [])
built_more rows count systems at has lawful is = record {
  long = omega (arith, length_push systems at, has.long);
  lawful = λ _. lawful;
  each = with_one (λ port e. IsAt rows [] (listener_at rows port) e) systems at has.each
      (subst (λ n. IsAt rows [] (listener_at rows n) at) (sym has.long) is);
}

none_from : (n port : ℕ) (systems : List SystemRow) (profile : ℕ)
    → AllByRecursion (IsSystem profile) systems → 24 < port
    → position_from (λ (s : SystemRow). s.port == port) n systems ≡ None
none_from n port [] profile lawful beyond = refl
none_from n port (s ∷ systems) profile lawful beyond =
    let other : (s.port == port) ≡ false = ne_eqb s.port port (λ e. omega (arith, e, lawful.0.port.1, beyond)) in
    ap (λ b. cond b (Some n) (position_from (λ (r : SystemRow). r.port == port) (n + 1) systems))
    other ∙ none_from (n + 1) port systems profile lawful.1 beyond

-- no system hears at a port beyond the last
none_beyond : (rows : Rows) (port : ℕ) → IsLawfulSwitch rows → 24 < port → listener_at rows port ≡ None
unfolding listener_at system_at_port
none_beyond rows port lawful beyond =
    ap (λ o. option_and_then (λ i. cond (nat_lt i rows.own) (Some i) None) o)
    (position_from-zero (λ (s : SystemRow). s.port == port) rows.systems
    ∙ none_from 0 port rows.systems rows.profile lawful.systems.each beyond)

pub built : (rows : Rows) (at_ports : Vec (Option EndSystem) Global) (count : ℕ) → 24 < count
    → HasBuilt rows count at_ports.items →
    StandsFor rows (record { at_ports = at_ports }) []
unfolding came_to
built rows at_ports count all has = record { each = λ port. at port (slice_get_cases at_ports.items port).1 }
  where
    at : (port : ℕ) → ((e : Option EndSystem) × (port < length at_ports.items)
        × (slice_get at_ports.items port ≡ Some e) × (get_or at_ports.items port e ≡ e))
        ⊎ ((length at_ports.items ≤ port) × (slice_get at_ports.items port ≡ None)) →
        IsAt rows [] (listener_at rows port)
        (option_and_then (λ (e : Option EndSystem). e) (slice_get at_ports.items port))
    at port (inl found) = rw found.2 (has.each port found.0 found.2)
    at port (inr past) = rw (
      past.1,
      none_beyond rows port (has.lawful (omega arith))
          (omega (arith, past.0, has.long, all)),
    ) tt

-- ---- a frame at a port

-- a system takes in what arrives, if one is there
pub goes_on : (rows : Rows) (past : List Arrived) (x : Arrived) (place : Option ℕ)
    (old : Option EndSystem) (e new : EndSystem) → old ≡ Some e →
    ((system : ℕ) → IsAfter rows system e past → IsAfter rows system new (x ∷ past))
    → IsAt rows past place old → IsAt rows (x ∷ past) place (Some new)
goes_on rows past x None old e new is takes at = absurd (subst (λ o. IsAt rows past None o) is at)
goes_on rows past x (Some system) old e new is takes at =
    takes system (subst (λ o. IsAt rows past (Some system) o) is at)

pub same : (a b : ℕ) → a ≡ b → (a == b) ≡ true
same a b e = grind (arith, nat_tests)

pub came_here : (d : HandedOver) (before : List HandedOver) (port : ℕ) → port ≡ d.port
    → came_to port (d ∷ before) ≡ arrival_of d ∷ came_to port before
unfolding came_to
came_here d before port e = rw (same d.port port (sym e)) refl

pub came_there : (d : HandedOver) (before : List HandedOver) (port : ℕ) → (port ≡ d.port → ⊥)
    → came_to port (d ∷ before) ≡ came_to port before
unfolding came_to
came_there d before port other = rw (ne_eqb d.port port (λ e. other (sym e))) refl

-- nothing is at a port where no system is
none_is_at : (rows : Rows) (past : List Arrived) (place : Option ℕ) → IsAt rows past place None → place ≡ None
none_is_at rows past None at = refl
none_is_at rows past (Some system) at = absurd at

none_stays : (rows : Rows) (past after : List Arrived) (place : Option ℕ)
    → IsAt rows past place None → IsAt rows after place None
none_stays rows past after None at = tt
none_stays rows past after (Some system) at = absurd at

-- the system at a port that they have
pub at_port : (rows : Rows) (systems : Systems) (before : List HandedOver) (port place : ℕ)
    (at : Option EndSystem) → StandsFor rows systems before → place ≡ port →
    place < vec_len systems.at_ports → at ≡ get_or systems.at_ports.items place at
    → IsAt rows (came_to port before) (listener_at rows port) at
at_port rows systems before port place at stands same within is =
    subst (λ (o : Option EndSystem). IsAt rows (came_to port before) (listener_at rows port) o)
    (ap (λ (n : ℕ). system_in systems n) (sym same) ∙ ap (option_and_then (λ (e : Option EndSystem). e))
    (slice_get_read systems.at_ports.items (vec_len systems.at_ports) place at
    systems.at_ports.ok.0 within is)) (stands.each port)

-- and none at a port that they don't have
pub none_at_port : (rows : Rows) (systems : Systems) (before : List HandedOver) (port place : ℕ)
    → StandsFor rows systems before → place ≡ port → vec_len systems.at_ports ≤ place
    → listener_at rows port ≡ None
none_at_port rows systems before port place stands same beyond =
    none_is_at rows (came_to port before) (listener_at rows port)
    (subst (λ (o : Option EndSystem). IsAt rows (came_to port before) (listener_at rows port) o)
    (ap (option_and_then (λ (e : Option EndSystem). e))
    (slice_get_past systems.at_ports.items port (omega (arith, systems.at_ports.ok.0, same, beyond))))
    (stands.each port))

-- the systems before a frame comes to a port that they have
pub record AreBefore (rows : Rows) (systems : Systems) (before : List HandedOver) (d : HandedOver)
    (place : ℕ) (at : Option EndSystem) : Type 0 where
  pub stands : StandsFor rows systems before
  pub port : place ≡ d.port
  pub here : slice_get systems.at_ports.items place ≡ Some at

pub before_at : (rows : Rows) (systems : Systems) (before : List HandedOver) (d : HandedOver)
    (place : ℕ) (at : Option EndSystem) → StandsFor rows systems before → place ≡ d.port →
    place < vec_len systems.at_ports → at ≡ get_or systems.at_ports.items place at
    → AreBefore rows systems before d place at
before_at rows systems before d place at stands port within is =
    record {
      stands = stands;
      port = port;
      here = slice_get_read systems.at_ports.items (vec_len systems.at_ports) place at
          systems.at_ports.ok.0 within is;
    }

module _ (rows : Rows) (systems : Systems) (before : List HandedOver) (d : HandedOver) (place : ℕ)
    (at : Option EndSystem) (are : AreBefore rows systems before d place at) where
  -- the system is there
  pub is_at : IsAt rows (came_to d.port before) (listener_at rows d.port) at
  is_at =
      subst (λ (o : Option EndSystem). IsAt rows (came_to d.port before) (listener_at rows d.port) o)
      (ap (λ (n : ℕ). system_in systems n) (sym are.port) ∙ ap (option_and_then (λ (e : Option EndSystem). e)) are.here)
      (are.stands.each d.port)

  module _ (new : Systems) (now : Option EndSystem)
      (set : new.at_ports.items ≡ slice_set systems.at_ports.items place now) where
    in_place : system_in new d.port ≡ now
    in_place = ap (λ (n : ℕ). system_in new n) (sym are.port)
        ∙ ap (λ (es : List (Option EndSystem)). option_and_then (λ (e : Option EndSystem). e)
        (slice_get es place)) set ∙ ap (option_and_then (λ (e : Option EndSystem). e))
        (slice_get-set_here systems.at_ports.items place now
        (slice_get_within systems.at_ports.items place at are.here))

    elsewhere : (port : ℕ) → (port ≡ d.port → ⊥) → system_in new port ≡ system_in systems port
    elsewhere port other = ap (λ (es : List (Option EndSystem)).
        option_and_then (λ (e : Option EndSystem). e) (slice_get es port)) set
        ∙ ap (option_and_then (λ (e : Option EndSystem). e))
        (slice_get-set_there systems.at_ports.items place port now (λ e. other (e ∙ are.port)))

  -- they go on after it
  pub stand_after : (new : Systems) (now : Option EndSystem)
      → new.at_ports.items ≡ slice_set systems.at_ports.items place now →
      IsAt rows (arrival_of d ∷ came_to d.port before) (listener_at rows d.port) now
      → StandsFor rows new (d ∷ before)
  stand_after new now set is = record { each = λ port. one port (cases_eq port d.port) }
    where
      one : (port : ℕ) → (port ≡ d.port) ⊎ (port ≡ d.port → ⊥)
          → IsAt rows (came_to port (d ∷ before)) (listener_at rows port) (system_in new port)
      one port (inl e) = rw (e, in_place new now set, came_here d before d.port refl) is
      one port (inr other) = rw (elsewhere new now set port other, came_there d before port other)
          (are.stands.each port)

-- a frame at a port beyond those that are kept
module _ (rows : Rows) (systems : Systems) (before : List HandedOver) (d : HandedOver) (place : ℕ)
    (stands : StandsFor rows systems before) (port : place ≡ d.port)
    (beyond : vec_len systems.at_ports ≤ place) where
  none_in : system_in systems d.port ≡ None
  none_in = ap (option_and_then (λ (e : Option EndSystem). e))
      (slice_get_past systems.at_ports.items d.port (omega (arith, systems.at_ports.ok.0, port, beyond)))

  no_system : IsAt rows (came_to d.port before) (listener_at rows d.port) None
  no_system = subst (λ (o : Option EndSystem). IsAt rows (came_to d.port before)
      (listener_at rows d.port) o) none_in (stands.each d.port)

  pub none_answered : answered rows before d ≡ None
  unfolding answered
  none_answered = ap (answered_at rows (came_to d.port before) d)
      (none_is_at rows (came_to d.port before) (listener_at rows d.port) no_system)

  pub stand_still : StandsFor rows systems (d ∷ before)
  stand_still = record { each = λ q. one q (cases_eq q d.port) }
    where
      one : (q : ℕ) → (q ≡ d.port) ⊎ (q ≡ d.port → ⊥)
          → IsAt rows (came_to q (d ∷ before)) (listener_at rows q) (system_in systems q)
      one q (inl e) = rw (e, none_in)
          (none_stays rows (came_to d.port before) (came_to d.port (d ∷ before))
          (listener_at rows d.port) no_system)
      one q (inr other) = rw (came_there d before q other) (stands.each q)

-- the answer and the name, as the definitions have them
pub answered_is : (rows : Rows) (before : List HandedOver) (d : HandedOver)
    (told : Option Reception) →
    option_map answer_of told ≡ answered_at rows (came_to d.port before) d (listener_at rows d.port)
    → option_map answer_of told ≡ answered rows before d
unfolding answered
answered_is rows before d told h = h

pub name_is : (rows : Rows) (port : ℕ) (name : List ℕ)
    → name ≡ option_map_or (name_of rows) (listener_at rows port) [] → name ≡ name_at rows port
unfolding name_at
name_is rows port name e = e
