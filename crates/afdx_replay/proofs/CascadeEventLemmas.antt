-- What a replay of several switches tells of one event more.
use Rattle.std.proofs.Common.{◌≡◌, ℕ, ◌+◌, ◌<◌, ◌==◌, List, [], ◌∷◌, ◌++◌, length, refl, ap, sym, ◌∙◌}
use Rattle.std.proofs.Common.{subst, Option, Some, None, Bool, true, false, arith, append-nil, inl, inr}
use Rattle.std.proofs.Common.{option_map, option_and_then, slice_get, set, get_or, nat_le, nat_lt, Result, Ok, Err}
use Rattle.std.specs.Option.{option_map_or}
use Rattle.std.specs.Prelude.{if◌then◌else◌, OnOk, OnErr, codes}
use Rattle.std.specs.Io.KnownBytes.{Appends}
use Rattle.std.proofs.lemmas.Bool.{cases_eq, ne_eqb, leb-true, le-ltb}
use Rattle.std.proofs.lemmas.Option.{slice_get-get_or}
use Rattle.afdx_config.specs.Rows.{Rows, SystemRow}
use Rattle.afdx_config.specs.Reading.{listener_at, system_at_port}
use Rattle.afdx_config.specs.Switches.{NamedRows, far_end, if_neighbour, neighbour_at_port}
use Rattle.afdx_config.specs.Switches as switches
use Rattle.afdx_config.specs.declared.switches.FarEnd.{FarEnd}
use Rattle.afdx_cascade.specs.Plans.{first_tables, plan_of, tables_of}
use Rattle.afdx_cascade.specs.Runs.{event_at}
use Rattle.afdx_cascade.specs.SwitchEvents.{End, SwitchEvent, at_switch}
use Rattle.afdx_cascade.specs.Turning.{IsCarried, end_of}
use Rattle.afdx_cascade.specs.declared.told.SitedPort.{SitedPort}
use Rattle.afdx_cascade.proofs.MoreLemmas.{at-same, at-other}
use Rattle.afdx_end_systems.specs.Handovers.{HandedOver, came_to}
use Rattle.afdx_end_systems.specs.StandsFor.{IsAt, system_in}
use Rattle.afdx_end_systems.specs.declared.end_system.EndSystem.{EndSystem}
use Rattle.afdx_receive.specs.Arrivals.{Arrived}
use Rattle.afdx_end_systems.specs.StandsFor as systems
use Rattle.afdx_end_systems.specs.declared.systems.Systems.{Systems}
use Rattle.afdx_end_systems.specs.Receptions.{is_delivered, is_delivered_at, line_at, reception_line}
use Rattle.afdx_frame.specs.declared.link.Side.{Side}
use Rattle.afdx_input_lines.specs.Calls.{AppendsFront}
use Rattle.afdx_network.specs.Events.{Event, Left, Departure}
use Rattle.afdx_switch.proofs.ListLemmas.{set-cases}
use Rattle.afdx_command_tables.specs.declared.summary.Summary.{Summary}
use Rattle.afdx_text.specs.OutLines.{departure_line, place_text, side_text}
use Rattle.afdx_replay.specs.cascading.Text.{event_lines}
use Rattle.afdx_input_runs.specs.ListText.{switch_name}
use Rattle.afdx_replay.specs.cascading.Told.{AreSteady, SystemsAre, TellsOne}
use Rattle.afdx_replay.specs.replaying.Replayed.{HasRoom, Known, TellsDeparture}
use Rattle.afdx_replay.specs.replaying.Text.{frames_left, handed_over, heard, lines_at}
use Rattle.afdx_replay.specs.replaying.Text.{with_departure}

some-same : {X : Type 0} {x y : X} → Some x ≡ Some y → x ≡ y
some-same e = cc

none-some : {X : Type 0} {x : X} → None ≡ Some x → ⊥
none-some e = cc

-- ---- look-ups

pub name-is : (s : List NamedRows) (k : ℕ) (name : List ℕ)
    → option_map (λ x. x.name) (slice_get s k) ≡ Some name → name ≡ switch_name s k
unfolding switch_name
name-is s k name e = by (slice_get s k) e
  where
    by : (o : Option NamedRows) → option_map (λ x. x.name) o ≡ Some name
        → name ≡ option_map_or (λ x. x.name) o []
    by None e = absurd (none-some e)
    by (Some x) e = sym (some-same e)

pub tables-are : (s : List NamedRows) (k : ℕ) (t : Rows)
    → option_map (λ x. x.rows) (slice_get s k) ≡ Some t → tables_of s k ≡ t
unfolding tables_of
tables-are s k t e = by (slice_get s k) e
  where
    by : (o : Option NamedRows) → option_map (λ x. x.rows) o ≡ Some t
        → option_map_or (λ x. x.rows) o (first_tables s) ≡ t
    by None e = absurd (none-some e)
    by (Some x) e = some-same e

-- ---- the systems

-- a frame that came to a port at which no system hears changes none
systems-more : (t : Rows) (x : Systems) (h : HandedOver) (past : List HandedOver) → listener_at t h.port ≡ None
    → systems.StandsFor t x past → systems.StandsFor t x (h ∷ past)
unfolding came_to
systems-more t x h past none st = record {
  each = λ port. elim (cases_eq h.port port) [
    | inl same ↦
        let here : listener_at t port ≡ None = subst (λ p. listener_at t p ≡ None) same none in
        let was = subst (λ l. IsAt t (came_to port past) l (system_in x port)) here (st.each port) in
        subst (λ l. IsAt t (came_to port (h ∷ past)) l (system_in x port)) (sym here)
        (nobody t (came_to port past) (came_to port (h ∷ past)) (system_in x port) was)
    | inr apart ↦ subst (λ ys. IsAt t ys (listener_at t port) (system_in x port))
        (sym (rw (ne_eqb h.port port apart) refl)) (st.each port)
  ];
}
  where
    nobody : (t : Rows) (xs ys : List Arrived) (at : Option EndSystem) → IsAt t xs None at → IsAt t ys None at
    nobody t xs ys None h = tt
    nobody t xs ys (Some e) h = absurd h

module _ (s : List NamedRows) (all : List Systems) (k : ℕ) (before : List SwitchEvent)
    (are : SystemsAre s all before) where
  -- a switch's systems got what left it, or nothing did
  pub systems-left : (e : Event) (new : Systems) → k < length all
      → systems.StandsFor (tables_of s k) new (frames_left (e ∷ at_switch k before))
      → SystemsAre s (set all k new) (event_at k e ∷ before)
  systems-left e new within st j x at = elim (set-cases all k new j x within at) [
    | inl here ↦
        subst (λ z. systems.StandsFor (tables_of s z) x (frames_left (at_switch z (event_at k e ∷ before))))
        (sym here.0)
        (subst (λ y. systems.StandsFor (tables_of s k) y (frames_left (at_switch k (event_at k e ∷ before))))
        (sym here.1)
        (subst (λ es. systems.StandsFor (tables_of s k) new (frames_left es)) (sym (at-same k e before)) st))
    | inr there ↦ subst (λ es. systems.StandsFor (tables_of s j) x (frames_left es))
        (sym (at-other j k e before (λ same. there.0 (sym same)))) (are j x there.1)
  ]

  -- nothing left
  pub systems-kept : (e : Event) → ((es : List Event) → frames_left (e ∷ es) ≡ frames_left es)
      → SystemsAre s all (event_at k e ∷ before)
  systems-kept e none j x at = elim (cases_eq k j) [
    | inl same ↦ subst (λ fs. systems.StandsFor (tables_of s j) x fs)
        (sym (subst (λ z. frames_left (at_switch z (event_at k e ∷ before)) ≡ frames_left (at_switch z before)) same
        (ap frames_left (at-same k e before) ∙ none (at_switch k before)))) (are j x at)
    | inr apart ↦ subst (λ es. systems.StandsFor (tables_of s j) x (frames_left es))
        (sym (at-other j k e before apart)) (are j x at)
  ]

  -- a frame left to a port at which no system hears
  pub systems-unheard : (d : Departure) → listener_at (tables_of s k) d.port ≡ None
      → SystemsAre s all (event_at k (Left d) ∷ before)
  systems-unheard d none j x at = elim (cases_eq k j) [
    | inl same ↦ subst (λ z. systems.StandsFor (tables_of s z) x
        (frames_left (at_switch z (event_at k (Left d) ∷ before))))
        same (subst (λ es. systems.StandsFor (tables_of s k) x (frames_left es)) (sym (at-same k (Left d) before))
        (unheard (tables_of s k) x d (at_switch k before) none
        (subst (λ z. systems.StandsFor (tables_of s z) x (frames_left (at_switch z before))) (sym same) (are j x at))))
    | inr apart ↦ subst (λ es. systems.StandsFor (tables_of s j) x (frames_left es))
        (sym (at-other j k (Left d) before apart)) (are j x at)
  ]
    where
      unheard : (t : Rows) (x : Systems) (d : Departure) (es : List Event) → listener_at t d.port ≡ None
          → systems.StandsFor t x (frames_left es) → systems.StandsFor t x (frames_left (Left d ∷ es))
      unheard t x d es none st = by d.turn.too_old
        where
          by : (old : Bool) → systems.StandsFor t x
              (if old then frames_left es else handed_over d ∷ frames_left es)
          by true = st
          by false = systems-more t x (handed_over d) (frames_left es) none st

-- ---- what is answered

pub on-ok : {V E : Type 0} (r : Result V E) {P : Type 0} → P → OnOk r P
on-ok (Ok v) p = p
on-ok (Err e) p = tt

pub ok-more : {V E : Type 0} (r : Result V E) {P Q : Type 0} → (P → Q) → OnOk r P → OnOk r Q
ok-more (Ok v) f p = f p
ok-more (Err e) f p = tt

ok-three : {V E : Type 0} (r : Result V E) {P Q R S : Type 0} → (P → Q → R → S) → OnOk r P → OnOk r Q → OnOk r R
    → OnOk r S
ok-three (Ok v) f p q r = f p q r
ok-three (Err e) f p q r = tt

pub err-more : {V E : Type 0} (r : Result V E) {P Q : Type 0} → (P → Q) → OnErr r P → OnErr r Q
err-more (Ok v) f p = tt
err-more (Err e) f p = f p

-- ---- a place

-- the side, and behind a space the name
pub place-whole : (side : Side) (letter name bytes : List ℕ) (empty : Bool) → letter ≡ side_text side → bytes ≡ name
    → empty ≡ (length name == 0) → empty ≡ false → letter ++ codes " " ++ bytes ≡ place_text side name
place-whole side letter [] bytes empty l b is named = absurd (cc (is, named))
place-whole side letter (c ∷ name) bytes empty l b is named =
    ap (λ (x : List ℕ). x ++ codes " " ++ bytes) l ∙ ap (λ (x : List ℕ). side_text side ++ codes " " ++ x) b

-- ---- a port where a cable is

-- at a place of a neighbour no system hears
nobody-hears : (own i : ℕ) → (place : ℕ) → (if nat_le own i then Some i else None) ≡ Some place
    → (if nat_lt i own then Some i else None) ≡ None
nobody-hears own i place h = by (nat_le own i) refl h
  where
    by : (b : Bool) → nat_le own i ≡ b → (if b then Some i else None) ≡ Some place
        → (if nat_lt i own then Some i else None) ≡ None
    by true is h = ap (λ (b : Bool). if b then Some i else None) (le-ltb i own (leb-true own i is))
    by false is h = absurd (none-some h)

unheard-there : {X : Type 0} (rows : List X) (own : ℕ) (found : Option ℕ) (e : X)
    → option_and_then (slice_get rows) (option_and_then (λ i. if nat_le own i then Some i else None) found) ≡ Some e
    → option_and_then (λ i. if nat_lt i own then Some i else None) found ≡ None
unheard-there rows own None e h = refl
unheard-there rows own (Some i) e h = by (if nat_le own i then Some i else None) refl h
  where
    by : (o : Option ℕ) → (if nat_le own i then Some i else None) ≡ o → option_and_then (slice_get rows) o ≡ Some e
        → (if nat_lt i own then Some i else None) ≡ None
    by None is h = absurd (none-some h)
    by (Some place) is h = nobody-hears own i place is

unheard-rows : (t : Rows) (port : ℕ) (f : FarEnd) (name : List ℕ) (s : List NamedRows)
    → option_and_then (switches.end_at s name) (neighbour_at_port t port) ≡ Some f → listener_at t port ≡ None
unfolding listener_at
unheard-rows t port f name s h = by (neighbour_at_port t port) refl h
  where
    by : (o : Option SystemRow) → neighbour_at_port t port ≡ o → option_and_then (switches.end_at s name) o ≡ Some f
        → option_and_then (λ i. if nat_lt i t.own then Some i else None) (system_at_port t.systems port) ≡ None
    by None is h = absurd (none-some h)
    by (Some e) is h = unheard-there t.systems t.own (system_at_port t.systems port) e is

some-end : (o : Option FarEnd) (to : End) → end_of o ≡ Some to → (f : FarEnd) × (o ≡ Some f)
some-end None to h = absurd (none-some h)
some-end (Some f) to h = (f, refl)

-- no system hears where a cable is
pub cable-unheard : (s : List NamedRows) (k port : ℕ) (to : End) → end_of (far_end s k port) ≡ Some to
    → listener_at (tables_of s k) port ≡ None
unfolding far_end tables_of
cable-unheard s k port to h = by (slice_get s k) (some-end _ to h).0 (some-end _ to h).1
  where
    by : (o : Option NamedRows) (f : FarEnd)
        → option_and_then (λ x. option_and_then (switches.end_at s x.name) (neighbour_at_port x.rows port)) o ≡ Some f
        → listener_at (option_map_or (λ x. x.rows) o (first_tables s)) port ≡ None
    by None f h = absurd (none-some h)
    by (Some x) f h = unheard-rows x.rows port f x.name s h

-- what such a frame gives
unheard-line : (t : Rows) (before : List HandedOver) (h : HandedOver) → listener_at t h.port ≡ None
    → reception_line t before h ≡ []
unfolding reception_line
unheard-line t before h none = ap (λ (o : Option ℕ). line_at t (came_to h.port before) h o) none

unheard-delivers : (t : Rows) (before : List HandedOver) (h : HandedOver) → listener_at t h.port ≡ None
    → is_delivered t before h ≡ false
unfolding is_delivered
unheard-delivers t before h none = ap (λ (o : Option ℕ). is_delivered_at t (came_to h.port before) h o) none

-- ---- turns

-- counts stay steady with a departure
pub steady-departed : {V E : Type 0} (r : Result V E) (old counts : Summary) → AreSteady old
    → ((n held : ℕ) → HasRoom old (held + 1) n → OnOk r (HasRoom counts held n))
    → OnOk r (counts.accepted ≡ old.accepted) → OnOk r (counts.lost ≡ old.lost) → OnOk r (AreSteady counts)
steady-departed r old counts h room accepted lost =
    let losses = h.losses in
    let n = old.accepted + old.dropped + old.lost + old.departed + old.too_old + 1 in
    ok-three r (λ (p : HasRoom counts 0 n) (a : counts.accepted ≡ old.accepted) (l : counts.lost ≡ old.lost). record {
      losses = omega (arith, losses, a, l);
      messages = p.messages;
    }) (room n 0 (record {
      verdicts = omega arith;
      losses = omega arith;
      turns = omega arith;
      messages = h.messages;
    })) accepted lost

module _ (s : List NamedRows) (all : List Systems) (k : ℕ) (before : List SwitchEvent) (name : List ℕ)
    (named : name ≡ switch_name s k) where
  -- the systems of a switch
  pub systems-at : (x : Systems) → SystemsAre s all before → k < length all → x ≡ get_or all k x
      → systems.StandsFor (tables_of s k) x (frames_left (at_switch k before))
  systems-at x are within is =
      are k x (subst (λ y. slice_get all k ≡ Some y) (sym is) (slice_get-get_or all k x within))

  -- a turn is told that ended
  pub told-departure : (new : Systems) (old counts : Summary) (a b : Known) (d : Departure) → SystemsAre s all before
      → k < length all → TellsDeparture name (tables_of s k) new old counts (at_switch k before) d a b
      → TellsOne s (set all k new) old counts a b before (event_at k (Left d))
  told-departure new old counts a b d are within h = record {
    systems_are = systems-left s all k before are (Left d) new within h.systems_are;
    counted = h.counted;
    written = subst (λ n. Appends a b (lines_at n (tables_of s k) (at_switch k before) (Left d))) named h.written;
  }

  pub begun-departure : (a b : Known) (d : Departure)
      → AppendsFront a b (lines_at name (tables_of s k) (at_switch k before) (Left d))
      → AppendsFront a b (event_lines s before (event_at k (Left d)))
  begun-departure a b d h =
      subst (λ n. AppendsFront a b (lines_at n (tables_of s k) (at_switch k before) (Left d))) named h

  module _ (at : SitedPort) (time tag : ℕ) (d : Departure) (here : at.switch.0 ≡ k)
      (is : IsCarried (plan_of s) at time tag d) where
    unheard : listener_at (tables_of s k) d.port ≡ None
    unheard = subst (λ j. listener_at (tables_of s j) d.port ≡ None) here
        (cable-unheard s at.switch.0 d.port is.cable.0 is.cable.1)

    carried-line : departure_line false tag time (place_text at.side name) at.port
        ≡ departure_line d.turn.too_old d.turn.entry.item.tag d.turn.end (place_text d.side (switch_name s k)) d.port
    carried-line =
        ap (λ n. departure_line false n time (place_text at.side name) at.port) is.tag_is
        ∙ ap (λ n. departure_line false d.turn.entry.item.tag n (place_text at.side name) at.port) is.time_is
        ∙ ap (λ z. departure_line false d.turn.entry.item.tag d.turn.end (place_text z name) at.port) is.side
        ∙ ap (λ n. departure_line false d.turn.entry.item.tag d.turn.end (place_text d.side n) at.port) named
        ∙ ap (λ n. departure_line false d.turn.entry.item.tag d.turn.end (place_text d.side (switch_name s k)) n)
        is.port
        ∙ ap (λ b. departure_line b d.turn.entry.item.tag d.turn.end (place_text d.side (switch_name s k)) d.port)
        (sym is.left)

    nothing-heard : heard d.turn.too_old (tables_of s k) (frames_left (at_switch k before)) (handed_over d) ≡ []
    nothing-heard =
        ap (λ b. heard b (tables_of s k) (frames_left (at_switch k before)) (handed_over d)) is.left
        ∙ unheard-line (tables_of s k) (frames_left (at_switch k before)) (handed_over d) unheard

    carried-lines : departure_line false tag time (place_text at.side name) at.port
        ≡ event_lines s before (event_at k (Left d))
    carried-lines = carried-line ∙ sym (append-nil _) ∙ ap (λ (l : List ℕ). departure_line d.turn.too_old
        d.turn.entry.item.tag d.turn.end (place_text d.side (switch_name s k)) d.port ++ l) (sym nothing-heard)

    -- a slot is told, whose frame a cable carries
    pub told-carried : (old counts : Summary) (a b : Known) → SystemsAre s all before
        → counts ≡ with_departure old false false
        → Appends a b (departure_line false tag time (place_text at.side name) at.port)
        → TellsOne s all old counts a b before (event_at k (Left d))
    told-carried old counts a b are more written = record {
      systems_are = systems-unheard s all k before are d unheard;
      counted = more
          ∙ ap (λ m. with_departure old false m) (sym (unheard-delivers (tables_of s k)
          (frames_left (at_switch k before)) (handed_over d) unheard))
          ∙ ap (λ o. with_departure old o (is_delivered (tables_of s k) (frames_left (at_switch k before))
          (handed_over d))) (sym is.left);
      written = subst (λ (l : List ℕ). Appends a b l) carried-lines written;
    }

    pub begun-carried : (a b : Known)
        → AppendsFront a b (departure_line false tag time (place_text at.side name) at.port)
        → AppendsFront a b (event_lines s before (event_at k (Left d)))
    begun-carried a b h = subst (λ (l : List ℕ). AppendsFront a b l) carried-lines h
