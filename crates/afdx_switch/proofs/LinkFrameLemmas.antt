-- The frames of one link at one output port.
use Rattle.std.proofs.Common.{◌≡◌, ℕ, ◌≤◌, ◌&&◌, Bool, true, false, not, List, [], ◌∷◌, ◌++◌, refl, sym, ap, ◌∙◌, subst}
use Rattle.std.specs.Prelude.{Option, Some, None, IfSome, is_none, filter, map, slice_get, if◌then◌else◌}
use Rattle.std.specs.Option.{option_map_or}
use Rattle.std.proofs.lemmas.List.{map_push, map-append, append-nil}
use Rattle.std.proofs.lemmas.List.Elements.{filter-append}
use Rattle.afdx_frame.specs.declared.link.Side.{Side}
use Rattle.afdx_frame.proofs.SideLemmas.{is_side-same}
use Rattle.afdx_config.specs.Lawful.{IsLawfulSwitch}
use Rattle.afdx_config.specs.Rows.{Rows}
use Rattle.afdx_police.specs.Arrival.{Arrival, is_side, names}
use Rattle.afdx_police.specs.declared.shape.Reason.{Reason}
use Rattle.afdx_port.specs.Classes.{entries_in, without_turn}
use Rattle.afdx_port.specs.Schedule.{Entry}
use Rattle.afdx_port.proofs.ClassLemmas.{all_go_in_order}
use Rattle.afdx_law_bounds.specs.Outputs.{Row, entry_of, offers_at}
use Rattle.afdx_law_bounds.proofs.VerdictLemmas.{one-name}
use Rattle.afdx_switch.specs.HeldFrames.{HeldFrame}
use Rattle.afdx_switch.specs.Laws.{EntriesStep, is_of}
use Rattle.afdx_switch.specs.LinkFrames.{goes_on, enters, entered, frames_of, AreFirstEntered, OthersGetNone}
use Rattle.afdx_switch.specs.Switching.{SwitchHistory, StandsFor, IsDone, Gives, taken_at, with_take}
use Rattle.afdx_switch.specs.declared.switch.Departure.{Departure}
use Rattle.afdx_switch.specs.declared.switch_state.SwitchState.{SwitchState}
use Rattle.afdx_switch.specs.Tables.{rows_of, row_named, carried, byte_ns_at, entries_at}
use Rattle.afdx_switch.specs.Verdicts.{reason_on, reason_of, is_lost_at}
use Rattle.afdx_switch.proofs.ArrivalLemmas.{same-side as to-itself, unknown-fault}
use Rattle.afdx_switch.proofs.ListLemmas.{find-found}
use Rattle.afdx_switch.proofs.LawLemmas.{entries-grow, one-class, links-in-order}

-- the frames of a link among some entries
abbrev items : ℕ → List (Entry HeldFrame) → List HeldFrame
items vl es = map (λ e. e.item) (filter (is_of vl) es)

one-more : (t : Rows) (vl : ℕ) (r : Row) (x : Arrival) (es : List (Entry HeldFrame)) →
    items vl (es ++ entry_of (carried t) r x ∷ [])
    ≡ (if names vl x.bytes then items vl es ++ carried t x ∷ [] else items vl es)
unfolding carried
one-more t vl r x es =
    ap (map (λ (e : Entry HeldFrame). e.item))
    (filter-append (is_of vl) es (entry_of (carried t) r x ∷ [])) ∙ by (names vl x.bytes)
  where
    by : (b : Bool) → map (λ (e : Entry HeldFrame). e.item)
        (filter (is_of vl) es ++ (if b then entry_of (carried t) r x ∷ [] else []))
        ≡ (if b then items vl es ++ carried t x ∷ [] else items vl es)
    by true = map_push (λ (e : Entry HeldFrame). e.item) (filter (is_of vl) es) (entry_of (carried t) r x)
    by false = ap (map (λ (e : Entry HeldFrame). e.item)) (append-nil (filter (is_of vl) es))

-- the frames with one more arrival, where it enters or doesn't
abbrev more : Bool → Bool → HeldFrame → List HeldFrame → List HeldFrame
more named enter c before = if named && enter then before ++ c ∷ [] else before

stays : (named : Bool) (c : HeldFrame) (before : List HeldFrame) → more named false c before ≡ before
stays true c before = refl
stays false c before = refl

module _ (t : Rows) (port vl : ℕ) (x : Arrival) (past : List Arrival) where
  -- what one more arrival adds on a side
  abbrev Step : Side → Type 0
  Step side = items vl (entries_at t side port (x ∷ past))
      ≡ more (names vl x.bytes) (enters t side port past x) (carried t x)
      (items vl (entries_at t side port past))

  kept : (side : Side) → entries_at t side port (x ∷ past) ≡ entries_at t side port past
      → enters t side port past x ≡ false → Step side
  kept side same out =
      ap (items vl) same
      ∙ sym (ap (λ b. more (names vl x.bytes) b (carried t x)
      (items vl (entries_at t side port past))) out
      ∙ stays (names vl x.bytes) (carried t x) (items vl (entries_at t side port past)))

  enters-is : (side : Side) (a b c d : Bool) → is_side side x.side ≡ a
      → is_none (reason_of t past x) ≡ b → goes_on t port x.bytes ≡ c → is_lost_at t past x port ≡ d →
      enters t side port past x ≡ (a && (b && (c && not d)))
  enters-is side a b c d is_a is_b is_c is_d = rw (is_a, is_b, is_c, is_d) refl

  elsewhere : (side : Side) → is_side side x.side ≡ false → enters t side port past x ≡ false
  elsewhere side other = rw other refl

  not-unknown : reason_of t past x ≡ None → row_named t x.bytes ≡ None → ⊥
  unfolding reason_of
  not-unknown accepted unnamed =
      let fault = unknown-fault x.port x.bytes in
      let same = ap (reason_on past x) unnamed in
      absurd cc

  -- on the side that it came to
  module _ (s : EntriesStep t x.side port x past) where
    here : is_side x.side x.side ≡ true
    here = to-itself x.side

    of-row : (r : Row) (goes lost : Bool) → reason_of t past x ≡ None → row_named t x.bytes ≡ Some r
        → r.goes_to port ≡ goes → is_lost_at t past x port ≡ lost → Step x.side
    of-row r false lost accepted named goes is_lost =
        kept x.side (s.elsewhere r accepted named goes)
        (enters-is x.side true true false lost here (ap is_none accepted)
        (ap (λ o. option_map_or (λ (r : Row). r.goes_to port) o false) named ∙ goes) is_lost)
    of-row r true true accepted named goes is_lost =
        kept x.side (s.lost is_lost)
        (enters-is x.side true true true true here (ap is_none accepted)
        (ap (λ o. option_map_or (λ (r : Row). r.goes_to port) o false) named ∙ goes) is_lost)
    of-row r true false accepted named goes is_lost =
        ap (items vl) (s.entered r accepted named goes is_lost)
        ∙ one-more t vl r x (entries_at t x.side port past)
        ∙ own (names vl x.bytes)
        ∙ sym (ap (λ b. more (names vl x.bytes) b (carried t x) (items vl (entries_at t x.side port past)))
        (enters-is x.side true true true false here (ap is_none accepted)
        (ap (λ o. option_map_or (λ (r : Row). r.goes_to port) o false) named ∙ goes) is_lost))
      where
        own : (b : Bool) → (if b then items vl (entries_at t x.side port past) ++ carried t x
            ∷ [] else items vl (entries_at t x.side port past))
            ≡ more b true (carried t x) (items vl (entries_at t x.side port past))
        own true = refl
        own false = refl

    of-named : (o : Option Row) → reason_of t past x ≡ None → row_named t x.bytes ≡ o → Step x.side
    of-named None accepted named = absurd (not-unknown accepted named)
    of-named (Some r) accepted named = of-row r (r.goes_to port) (is_lost_at t past x port) accepted named refl refl

    of-reason : (o : Option Reason) → reason_of t past x ≡ o → Step x.side
    of-reason (Some reason) dropped =
        kept x.side (s.dropped reason dropped)
        (enters-is x.side true false (goes_on t port x.bytes) (is_lost_at t past x port) here
        (ap is_none dropped) refl refl)
    of-reason None accepted = of-named (row_named t x.bytes) accepted refl

  step : (side : Side) → IsLawfulSwitch t → Step side
  step side lawful = by (is_side side x.side) refl
    where
      by : (b : Bool) → is_side side x.side ≡ b → Step side
      by false other = kept side ((entries-grow t side port x past lawful).other_side other) (elsewhere side other)
      by true same = subst Step (sym (is_side-same side x.side same))
          (of-reason (entries-grow t x.side port x past lawful) (reason_of t past x) refl)

-- the entries of a link are its frames that entered
entered-is : (t : Rows) (side : Side) (port vl : ℕ)
    (arrivals : List Arrival) → IsLawfulSwitch t
    → items vl (entries_at t side port arrivals) ≡ entered t side port vl arrivals
unfolding entered offers_at
entered-is t side port vl [] lawful = refl
entered-is t side port vl (x ∷ past) lawful =
    step t port vl x past side lawful
    ∙ ap (more (names vl x.bytes) (enters t side port past x) (carried t x)) (entered-is t side port vl past lawful)

pub frames-own : (t : Rows) (side : Side) (w : SwitchState) (h : SwitchHistory)
    (port vl : ℕ) → IsLawfulSwitch t → StandsFor t side w h → 1 ≤ port → port ≤ 24
    → (waiting : List HeldFrame)
    × (entered t side port vl h.arrivals ≡ frames_of vl (taken_at port h.taken) ++ waiting)
frames-own t side w h port vl lawful st low high =
    let entries = entries_at t side port h.arrivals in
    let turns = taken_at port h.taken in (
      items vl (without_turn turns 0 entries),
      sym (entered-is t side port vl h.arrivals lawful)
          ∙ ap (map (λ (e : Entry HeldFrame). e.item)) (links-in-order t side w h port vl lawful st low high)
          ∙ map-append (λ (e : Entry HeldFrame). e.item) (filter (is_of vl) (entries_in turns))
          (filter (is_of vl) (without_turn turns 0 entries)),
    )

-- so do those that a port gave with the turn that is given now
pub given-own : (r : Option Departure) (t : Rows) (side : Side) (h : SwitchHistory) (until vl : ℕ)
    (w : SwitchState) → IsLawfulSwitch t
    → IfSome r (λ d. (g : Gives t side h until d w) → AreFirstEntered t side vl h g.gone)
given-own None t side h until vl w lawful = tt
given-own (Some d) t side h until vl w lawful =
    λ g. frames-own t side w (with_take h g.gone until) g.gone.port vl lawful g.stands
    g.next.port_first g.next.port_last

pub all-own : (t : Rows) (side : Side) (h : SwitchHistory) (port vl : ℕ)
    → IsLawfulSwitch t → IsDone t side h port
    → entered t side port vl h.arrivals ≡ frames_of vl (taken_at port h.taken)
all-own t side h port vl lawful done =
    sym (entered-is t side port vl h.arrivals lawful)
    ∙ ap (map (λ (e : Entry HeldFrame). e.item))
    (all_go_in_order (byte_ns_at t port) (is_of vl) (entries_at t side port h.arrivals)
    (taken_at port h.taken) (one-class t side port vl h.arrivals lawful) done)

-- the row that a frame names
named-row : (t : Rows) (bytes : List ℕ) (r : Row) → row_named t bytes ≡ Some r → (place : ℕ)
    × (slice_get (rows_of t) place ≡ Some r) × (names r.rule.vl bytes ≡ true)
unfolding row_named
named-row t bytes r named = find-found (λ (r : Row). names r.rule.vl bytes) (rows_of t) r named

stopped : (a b d : Bool) → (a && (b && (false && d))) ≡ false
stopped true true d = refl
stopped true false d = refl
stopped false b d = refl

pub others-none : OthersGetNone
unfolding entered
others-none t side port vl [] other = refl
others-none t side port vl (x ∷ past) other =
    ap (λ b. if b then entered t side port vl past ++ carried t x
    ∷ [] else entered t side port vl past) (by (names vl x.bytes) refl)
    ∙ others-none t side port vl past other
  where
    goes : names vl x.bytes ≡ true → (o : Option Row) → row_named t x.bytes ≡ o → goes_on t port x.bytes ≡ false
    goes is None named = ap (λ o. option_map_or (λ (r : Row). r.goes_to port) o false) named
    goes is (Some r) named =
        let at = named-row t x.bytes r named in
        ap (λ o. option_map_or (λ (r : Row). r.goes_to port) o false) named
        ∙ other at.0 r at.1 (one-name r.rule.vl vl x.bytes at.2 is)

    by : (b : Bool) → names vl x.bytes ≡ b → (b && enters t side port past x) ≡ false
    by false is = refl
    by true is =
        enters-is t port vl x past side (is_side side x.side) (is_none (reason_of t past x)) false
        (is_lost_at t past x port) refl refl (goes is (row_named t x.bytes) refl) refl
        ∙ stopped (is_side side x.side) (is_none (reason_of t past x)) (not (is_lost_at t past x port))
