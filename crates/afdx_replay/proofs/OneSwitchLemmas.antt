-- What a replay of several switches is where each side has one.
use Rattle.std.proofs.Common.{◌≡◌, ℕ, zero, suc, ◌+◌, ◌-◌, ◌<◌, ◌≤◌, ◌==◌, ◌&&◌, Bool, true, false, not, nat_le}
use Rattle.std.proofs.Common.{List, [], ◌∷◌, ◌++◌, length, map, reverse, slice_get, Option, Some, None}
use Rattle.std.proofs.Common.{if◌then◌else◌, refl, sym, ap, ◌∙◌, subst, arith, inl, inr, option_map, option_and_then}
use Rattle.std.proofs.Common.{append-nil, is_some, is_none, Result, Ok, Err}
use Rattle.std.specs.Prelude.{slice_index_or}
use Rattle.std.specs.List.{AllByRecursion}
use Rattle.std.specs.Str.{bytes_eq}
use Rattle.std.proofs.lemmas.List.{reverse-reverse}
use Rattle.std.proofs.lemmas.List.Quantifiers.{position-Some}
use Rattle.std.proofs.lemmas.Option.{same_Some, slice_get_within}
use Rattle.afdx_frame.specs.Lines.{first_false, each_from}
use Rattle.afdx_frame.specs.declared.link.Side.{Side}
use Rattle.afdx_frame.proofs.FirstFalseLemmas.{append_holds, cons_holds, each_holds, none_of, true-le}
use Rattle.std.proofs.lemmas.List.FromFn.{length-map-range_with_len}
use Rattle.afdx_input_lines.specs.FrameLines.{kind_of, side_of}
use Rattle.afdx_input_lines.specs.Forms.{from_six, six_of}
use Rattle.afdx_input_lines.specs.SitedLines.{NamedCables, SitedFields, SitedFrame, place_named, sited_fields}
use Rattle.afdx_input_lines.specs.SitedLines.{sited_fields_from, sited_fields_with, sited_form, sited_line_says}
use Rattle.afdx_input_lines.specs.Splitting.{between_spaces, number_of}
use Rattle.afdx_input_lines.specs.declared.fault.LineFault.{LineFault}
use Rattle.afdx_input_lines.specs.declared.frame_line.FrameKind.{FrameKind}
use Rattle.afdx_input_lines.proofs.FormLemmas.{says-from}
use Rattle.afdx_input_sources.specs.Lists.{items_of, item_after, latest_in, with_item}
use Rattle.afdx_law_promises.proofs.ListLemmas.{reverse-cons}
use Rattle.std.specs.Str.Lines.{strip_carriage_return}
use Rattle.afdx_cascade.specs.Parts.{frames_of}
use Rattle.afdx_cascade.specs.Plans.{plan_of, tables_of}
use Rattle.afdx_cascade.specs.Runs.{Line, IsDue, IsNextEvent, Runs}
use Rattle.afdx_cascade.specs.SwitchEvents.{Plan, End, SwitchEvent, at_switch, came_to, listed, with_listed}
use Rattle.afdx_cascade.specs.Turning.{end_of}
use Rattle.afdx_cascade.proofs.NumberLemmas.{nothing-next}
use Rattle.afdx_cascade.proofs.PartLemmas.{are-taken}
use Rattle.afdx_config.specs.declared.switches.FarEnd.{FarEnd}
use Rattle.afdx_config.specs.Rows.{SystemRow}
use Rattle.afdx_config.specs.Switches as switches
use Rattle.afdx_config.specs.Switches.{NamedRows, AreSwitches, far_end, if_neighbour, is_this, listed_at, name_lines}
use Rattle.afdx_config.specs.Switches.{lines_of_neighbour, neighbour_at_port, neighbour_lines, neighbours_lines}
use Rattle.afdx_config.specs.Switches.{over_all, starts_lines, switch_named, systems_lines}
use Rattle.afdx_config.specs.Reading.{system_at_port}
use Rattle.afdx_config.proofs.OverLemmas.{neighbours-at, neighbour-at}
use Rattle.afdx_network.specs.Events.{Event, Came, Left, arrivals_in}
use Rattle.afdx_network.specs.Network.{IsNextOn}
use Rattle.afdx_network.specs.Order.{events_of}
use Rattle.afdx_port.specs.Schedule.{Turn}
use Rattle.afdx_port.proofs.TurnLemmas.{eqb-same, eqb-other}
use Rattle.afdx_switch.specs.HeldFrames.{HeldFrame}
use Rattle.afdx_replay.specs.cascading.OneSwitch.{CascadeOfOneIsItsSwitch, ListsAreAtSwitches}
use Rattle.afdx_replay.specs.cascading.OneSwitch.{AreAtSwitches, named_text}
use Rattle.afdx_replay.specs.cascading.Ran.{lists}
use Rattle.afdx_replay.specs.cascading.Sited.{site_of, sites_of}
use Rattle.afdx_replay.specs.cascading.Text.{cascade_text, cascade_counts}
use Rattle.afdx_input_runs.specs.ListText.{switch_name}
use Rattle.afdx_replay.specs.replaying.Text.{lines_at, replay_text, replay_counts, with_event}

-- ---- a cable leads to another switch

and-then : {A B : Type 0} (f : A → Option B) (o : Option A) (y : B) → option_and_then f o ≡ Some y
    → (x : A) × (o ≡ Some x) × (f x ≡ Some y)
and-then f None y h = absurd (cc h)
and-then f (Some x) y h = (x, refl, h)

-- a neighbour stands behind the systems
beside : (own i m : ℕ) → (if nat_le own i then Some i else None) ≡ Some m → own ≤ m
beside own i m = by (nat_le own i) refl
  where
    by : (b : Bool) → nat_le own i ≡ b → (if b then Some i else None) ≡ Some m → own ≤ m
    by true le h = let same : i ≡ m = cc h in subst (λ n. own ≤ n) same (true-le own i le)
    by false le h = absurd (cc h)

both : (a b : Bool) → (a && b) ≡ true → b ≡ true
both true b h = h
both false b h = absurd (cc h)

module _ (ss : List NamedRows) where
  named-within : (name : List ℕ) (s : NamedRows) (j : ℕ) → switch_named ss name ≡ Some j → j < length ss
  unfolding switch_named
  named-within name s j found = (position-Some (λ (r : NamedRows). bytes_eq name r.name) ss j s found).0

  module _ (are : AreSwitches ss) where
    -- a neighbour isn't the switch itself
    other : (k i : ℕ) (s : NamedRows) (e : SystemRow) → slice_get ss k ≡ Some s → s.rows.own ≤ i
        → slice_get s.rows.systems i ≡ Some e
        → not (is_this (switch_named ss e.name) k) ≡ true
    unfolding over_all
    other k i s e at low row =
        let within = slice_get_within ss k s at in
        let last = slice_get_within s.rows.systems i e row in
        let past_names = (append_holds (each_from (name_lines ss) 0 (length ss))
        (each_from (systems_lines ss) 0 (length ss)
        ++ (each_from (neighbours_lines ss) 0 (length ss)
        ++ each_from (starts_lines ss) 0 (length ss))) are.over).1 in
        let past_systems = (append_holds (each_from (systems_lines ss) 0 (length ss))
        (each_from (neighbours_lines ss) 0 (length ss)
        ++ each_from (starts_lines ss) 0 (length ss)) past_names).1 in
        let all = (append_holds (each_from (neighbours_lines ss) 0 (length ss))
        (each_from (starts_lines ss) 0 (length ss)) past_systems).0 in
        let own : first_false (each_from (neighbour_lines ss k) s.rows.own (length s.rows.systems - s.rows.own))
        ≡ None =
        subst (λ ls. first_false ls ≡ None) (neighbours-at ss k s at)
        (each_holds (neighbours_lines ss) 0 (length ss) all k (omega arith) (omega (arith, within))) in
        let line : first_false (lines_of_neighbour ss s.name k (i - s.rows.own + 1) e) ≡ None =
        subst (λ ls. first_false ls ≡ None) (neighbour-at ss k s at i e row)
        (each_holds (neighbour_lines ss k) s.rows.own (length s.rows.systems - s.rows.own) own i low
        (omega (arith, low, last))) in
        both (is_some (switch_named ss e.name)) (not (is_this (switch_named ss e.name) k))
        (cons_holds _ _ line).one

    -- so where there is one switch, no cable is
    no-end : length ss ≡ 1 → (k port : ℕ) (f : FarEnd) → far_end ss k port ≡ Some f → ⊥
    unfolding far_end
    no-end one k port f h =
        let here = and-then (λ (s : NamedRows). option_and_then (switches.end_at ss s.name)
        (neighbour_at_port s.rows port))
        (slice_get ss k) f h in
        let row = and-then (switches.end_at ss here.0.name) (neighbour_at_port here.0.rows port) f here.2 in
        let far = and-then (λ j. option_map (far_at j) (listed_at ss here.0.name j))
        (switch_named ss row.0.name) f row.2 in
        let place = and-then (slice_get here.0.rows.systems)
        (option_and_then (if_neighbour here.0.rows) (system_at_port here.0.rows.systems port)) row.0 row.1 in
        let found = and-then (if_neighbour here.0.rows) (system_at_port here.0.rows.systems port) place.0 place.1 in
        let low = beside here.0.rows.own found.0 place.0 found.2 in
        let within = slice_get_within ss k here.0 here.1 in
        let there = named-within row.0.name here.0 far.0 far.1 in
        itself (switch_named ss row.0.name) k far.0 far.1 (omega (arith, one, within, there))
        (other k place.0 here.0 row.0 here.1 low place.2)
      where
        far_at : ℕ → SystemRow → FarEnd
        far_at j back = record { switch = record { 0 = j }; port = back.port }

        itself : (o : Option ℕ) (k j : ℕ) → o ≡ Some j → j ≡ k → not (is_this o k) ≡ true → ⊥
        itself None k j is same h = cc is
        itself (Some i) k j is same h =
            let here : i ≡ j = cc is in
            cc (sym (ap not (eqb-same i k (here ∙ same))) ∙ h)

    no-cable : length ss ≡ 1 → (k port : ℕ) → (plan_of ss).far_end k port ≡ None
    no-cable one k port = none_of (end_of (far_end ss k port)) (by (far_end ss k port) refl)
      where
        by : (o : Option FarEnd) → far_end ss k port ≡ o → (e : End) → end_of o ≡ Some e → ⊥
        by None is e h = cc h
        by (Some f) is e h = no-end one k port f is

-- ---- all events are at the switch

abbrev AreHere : List SwitchEvent → Type 0
AreHere events = AllByRecursion (λ h. h.switch ≡ 0) events

abbrev ComeHere : List Line → Type 0
ComeHere lines = AllByRecursion (λ line. line.switch ≡ 0) lines

come-here : (ss : List NamedRows) (lines : List Line) → length ss ≡ 1 → AreAtSwitches ss lines → ComeHere lines
come-here ss [] one at = tt
come-here ss (line ∷ lines) one at = (
  (let within = at.0 in omega (arith, one, within)),
  come-here ss lines one at.1,
)

none-elsewhere : (events : List SwitchEvent) → AreHere events → (k : ℕ) → at_switch (suc k) events ≡ []
none-elsewhere [] all k = refl
none-elsewhere (h ∷ before) all k =
    let other : (h.switch ≡ suc k) → ⊥ = λ same. let is = all.0 in omega (arith, same, is) in
    ap (λ b. if b then h.event ∷ at_switch (suc k) before else at_switch (suc k) before)
    (eqb-other h.switch (suc k) other)
    ∙ none-elsewhere before all.1 k

all-here : (events : List SwitchEvent) → AreHere events → at_switch 0 events ≡ map (λ h. h.event) events
all-here [] all = refl
all-here (h ∷ before) all =
    ap (λ b. if b then h.event ∷ at_switch 0 before else at_switch 0 before) (eqb-same h.switch 0 all.0)
    ∙ ap (λ es. h.event ∷ es) (all-here before all.1)

module _ (c : Plan) (none : (k port : ℕ) → c.far_end k port ≡ None) where
  turn-here : (before : List SwitchEvent) → AreHere before → (k : ℕ) (side : Side) (port : ℕ) (s : Turn HeldFrame)
      → IsNextOn (c.tables k) (at_switch k before) side port s → k ≡ 0
  turn-here before all zero side port s next = refl
  turn-here before all (suc k) side port s next = absurd (nothing-next (c.tables (suc k)) (at_switch (suc k) before)
      side port s (none-elsewhere before all k) next)

  due-here : (before : List SwitchEvent) (place : List ℕ) (h : SwitchEvent) → AreHere before
      → IsDue c before place h → h.switch ≡ 0
  due-here before place h all (inl turn) =
      ap (λ (g : SwitchEvent). g.switch) turn.is
      ∙ turn-here before all turn.k turn.side turn.port turn.turn turn.next
  due-here before place h all (inr frame) =
      let joined = frame.joined in absurd (cc (sym (none frame.k frame.port) ∙ joined))

  runs-here : (lines rest : List Line) (events : List SwitchEvent) → ComeHere lines → Runs c lines events rest
      → AreHere events × ComeHere rest
  runs-here lines rest [] at runs = (tt, subst ComeHere (sym runs) at)
  runs-here lines rest (h ∷ before) at runs = by runs.2 (runs-here lines runs.0 before at runs.1)
    where
      by : IsNextEvent c before runs.0 h rest → AreHere before × ComeHere runs.0
          → AreHere (h ∷ before) × ComeHere rest
      by (inl due) some = (
        (due-here before due.0.place h some.0 due.0.due, some.0),
        subst ComeHere (sym due.1) some.1,
      )
      by (inr next) some =
          let left : ComeHere (next.line ∷ rest) = subst ComeHere next.are some.1 in
          ((ap (λ (g : SwitchEvent). g.switch) next.is ∙ left.0, some.0), left.1)

  -- each arrival is one of the list
  all-listed : (events : List SwitchEvent) → arrivals_in (map (λ h. h.event) events) ≡ listed c events
  all-listed [] = refl
  all-listed (h ∷ before) = by h.event (all-listed before)
    where
      by : (e : Event) → arrivals_in (map (λ h. h.event) before) ≡ listed c before
          → arrivals_in (e ∷ map (λ h. h.event) before) ≡ with_listed c h.switch e (listed c before)
      by (Came a) is = ap (λ xs. a.arrival ∷ xs) is
          ∙ sym (ap (λ o. if is_none o then a.arrival ∷ listed c before else listed c before)
          (none h.switch a.arrival.port))
      by (Left d) is = is

  came-listed : (lines : List Line) (events : List SwitchEvent) → AreHere events → Runs c lines events []
      → came_to 0 events ≡ frames_of (reverse lines)
  came-listed lines events all runs =
      let some = are-taken c lines [] events runs in
      let back : reverse lines ≡ some.taken =
      ap reverse (some.are ∙ append-nil (reverse some.taken)) ∙ reverse-reverse some.taken in
      ap arrivals_in (all-here events all) ∙ all-listed events ∙ some.listed_is ∙ ap frames_of (sym back)

-- ---- its text

module _ (ss : List NamedRows) where
  named-here : (events : List SwitchEvent) → AreHere events
      → cascade_text ss events ≡ named_text (switch_name ss 0) (tables_of ss 0) (at_switch 0 events)
  unfolding cascade_text named_text
  named-here [] all = refl
  named-here (h ∷ before) all = by h.switch all.0 (named-here before all.1)
    where
      by : (k : ℕ) → k ≡ 0
          → cascade_text ss before ≡ named_text (switch_name ss 0) (tables_of ss 0) (at_switch 0 before)
          → cascade_text ss before ++ lines_at (switch_name ss k) (tables_of ss k) (at_switch k before) h.event
          ≡ named_text (switch_name ss 0) (tables_of ss 0)
          (if k == 0 then h.event ∷ at_switch 0 before else at_switch 0 before)
      by zero here is =
          ap (λ x. x ++ lines_at (switch_name ss 0) (tables_of ss 0) (at_switch 0 before) h.event) is
      by (suc k) here is = absurd (cc here)

  counted-here : (events : List SwitchEvent) → AreHere events
      → cascade_counts ss events ≡ replay_counts (tables_of ss 0) (at_switch 0 events)
  unfolding cascade_counts replay_counts
  counted-here [] all = refl
  counted-here (h ∷ before) all = by h.switch all.0 (counted-here before all.1)
    where
      by : (k : ℕ) → k ≡ 0 → cascade_counts ss before ≡ replay_counts (tables_of ss 0) (at_switch 0 before)
          → with_event (tables_of ss k) (at_switch k before) h.event (cascade_counts ss before)
          ≡ replay_counts (tables_of ss 0)
          (if k == 0 then h.event ∷ at_switch 0 before else at_switch 0 before)
      by zero here is = ap (with_event (tables_of ss 0) (at_switch 0 before) h.event) is
      by (suc k) here is = absurd (cc here)

-- ---- lines of a list are at its switches

six-parts : {F : Type 0} (P : F → Type 0) (read : List ℕ → List ℕ → List ℕ → List ℕ → List ℕ → List ℕ → Option F)
    → ((a b c d e digits : List ℕ) (fields : F) → read a b c d e digits ≡ Some fields → P fields)
    → (parts : List (List ℕ)) (fields : F) → six_of read parts ≡ Some fields → P fields
six-parts P read each [] fields h = absurd (cc h)
six-parts P read each (a ∷ []) fields h = absurd (cc h)
six-parts P read each (a ∷ b ∷ []) fields h = absurd (cc h)
six-parts P read each (a ∷ b ∷ c ∷ []) fields h = absurd (cc h)
six-parts P read each (a ∷ b ∷ c ∷ d ∷ []) fields h = absurd (cc h)
six-parts P read each (a ∷ b ∷ c ∷ d ∷ e ∷ []) fields h = absurd (cc h)
six-parts P read each (a ∷ b ∷ c ∷ d ∷ e ∷ digits ∷ []) fields h = each a b c d e digits fields h
six-parts P read each (a ∷ b ∷ c ∷ d ∷ e ∷ digits ∷ more ∷ parts) fields h = absurd (cc h)

place-of : (a : Option FrameKind) (b : Option ℕ) (c : Option Side) (d e : Option ℕ) (digits : List ℕ)
    (fields : SitedFields) → from_six sited_fields_with a b c d e digits ≡ Some fields → d ≡ Some fields.switch
place-of None b c d e digits fields h = absurd (cc h)
place-of (Some a) None c d e digits fields h = absurd (cc h)
place-of (Some a) (Some b) None d e digits fields h = absurd (cc h)
place-of (Some a) (Some b) (Some c) None e digits fields h = absurd (cc h)
place-of (Some a) (Some b) (Some c) (Some d) None digits fields h = absurd (cc h)
place-of (Some a) (Some b) (Some c) (Some d) (Some e) [] fields h = absurd (cc h)
place-of (Some a) (Some b) (Some c) (Some d) (Some e) (digit ∷ digits) fields h =
    ap (λ (f : SitedFields). Some f.switch)
    (same_Some (sited_fields_with a b c d e (digit ∷ digits)) fields h)

module _ (sites : List NamedCables) where
  place-within : (name : List ℕ) (k : ℕ) (s : NamedCables) → place_named sites name ≡ Some k → k < length sites
  unfolding place_named
  place-within name k s found = (position-Some (λ (r : NamedCables). bytes_eq name r.name) sites k s found).0

  fields-within : (text : List ℕ) (fields : SitedFields) → sited_fields sites text ≡ Some fields
      → fields.switch < length sites
  unfolding sited_fields
  fields-within text = six-parts (λ (f : SitedFields). f.switch < length sites) (sited_fields_from sites)
      (λ a b c d e digits fields h. place-within d fields.switch (record { name = []; cables = [] })
      (place-of (kind_of a) (number_of b) (side_of c) (place_named sites d) (number_of e) digits fields h))
      (between_spaces text)

  said-within : (latest : ℕ) (line : List ℕ) (f : SitedFrame) → sited_line_says sites latest line ≡ Ok (Some f)
      → f.switch < length sites
  unfolding sited_line_says
  said-within latest line f h =
      let s = says-from (sited_form sites) latest line f h in
      subst (λ (g : SitedFrame). g.switch < length sites) s.is
      (fields-within (strip_carriage_return line) s.fields s.are)

-- what holds of all holds of them in reverse
all-append : {X : Type 0} (P : X → Type 0) (xs ys : List X) → AllByRecursion P xs → AllByRecursion P ys
    → AllByRecursion P (xs ++ ys)
all-append P [] ys all rest = rest
all-append P (x ∷ xs) ys all rest = (all.0, all-append P xs ys all.1 rest)

all-reverse : {X : Type 0} (P : X → Type 0) (xs : List X) → AllByRecursion P xs → AllByRecursion P (reverse xs)
all-reverse P [] all = tt
all-reverse P (x ∷ xs) all =
    subst (λ ys. AllByRecursion P ys) (sym (reverse-cons x xs))
    (all-append P (reverse xs) (x ∷ []) (all-reverse P xs all.1) (all.0, tt))

module _ (ss : List NamedRows) where
  sites-count : length (sites_of ss) ≡ length ss
  unfolding sites_of
  sites-count = length-map-range_with_len (site_of ss) 0 (length ss)

  items-within : (list : List (List ℕ)) (n : ℕ) → AreAtSwitches ss (items_of (lists ss) list n)
  unfolding items_of
  items-within list zero = tt
  items-within list (suc n) =
      by (items_of (lists ss) list n) (slice_index_or list n []) (items-within list n)
    where
      with_said : (past : List Line) (r : Result (Option SitedFrame) LineFault) → AreAtSwitches ss past
          → ((f : SitedFrame) → r ≡ Ok (Some f) → f.switch < length (sites_of ss))
          → AreAtSwitches ss (with_item (lists ss) (suc n) r past)
      with_said past (Ok (Some f)) at within =
          ((let low = within f refl in omega (arith, low, sites-count)), at)
      with_said past (Ok None) at within = at
      with_said past (Err fault) at within = at

      by : (past : List Line) (line : List ℕ) → AreAtSwitches ss past
          → AreAtSwitches ss (with_item (lists ss) (suc n) (item_after (lists ss) past line) past)
      by past line at = with_said past (item_after (lists ss) past line) at
          (said-within (sites_of ss) (latest_in (lists ss) past) line)

pub lists-at-switches : ListsAreAtSwitches
lists-at-switches ss list n =
    all-reverse (λ (line : Line). line.switch < length ss) (items_of (lists ss) list n) (items-within ss list n)

-- ---- the law

pub one-switch : CascadeOfOneIsItsSwitch
one-switch ss lines events are one at all parts =
    let none = no-cable ss are one in
    let here = (runs-here (plan_of ss) none lines [] events (come-here ss lines one at) all.runs).0 in
    let came = came-listed (plan_of ss) none lines events here all.runs in
    let first : 0 < length ss = omega (arith, one) in
    let own : at_switch 0 events ≡ events_of (tables_of ss 0) (frames_of (reverse lines)) =
    parts.own 0 first ∙ ap (events_of (tables_of ss 0)) came in
    record {
      here = all-here events here;
      came = came;
      own = sym (all-here events here) ∙ own;
      named = named-here ss events here ∙ ap (named_text (switch_name ss 0) (tables_of ss 0)) own;
      alone = parts.alone 0 first
          ∙ ap (λ xs. replay_text (tables_of ss 0) (events_of (tables_of ss 0) xs)) came;
      counted = counted-here ss events here ∙ ap (replay_counts (tables_of ss 0)) own;
    }
