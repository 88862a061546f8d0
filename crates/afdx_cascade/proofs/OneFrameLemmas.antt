-- One frame at a switch, whose link goes to port 2 alone: its one entry, and its one turn.
use Rattle.std.proofs.Common.{◌≡◌, ℕ, zero, suc, ◌+◌, ◌*◌, true, false, List, [], ◌∷◌, ◌++◌, length}
use Rattle.std.proofs.Common.{refl, sym, ap, ◌∙◌, subst, arith, inl, inr}
use Rattle.std.specs.Prelude.{Option, Some, None, max, slice_get}
use Rattle.std.proofs.lemmas.Bool.{cases_eq}
use Rattle.afdx_frame.specs.Regulation.{wire_of}
use Rattle.afdx_frame.specs.declared.link.Side.{Side}
use Rattle.afdx_config.specs.Rows.{Rows}
use Rattle.afdx_police.specs.Arrival.{Arrival}
use Rattle.afdx_port.specs.Schedule.{Entry, Turn, IsNext, AreTurns, has_turn, is_past}
use Rattle.afdx_port.specs.ScheduleOf.{schedule_of, turn_at}
use Rattle.afdx_port.proofs.TurnLemmas.{same_next, nat_lt-false}
use Rattle.afdx_law_bounds.specs.Outputs.{Row, entry_of}
use Rattle.afdx_switch.specs.Admitted.{IsAdmittedRun}
use Rattle.afdx_switch.specs.HeldFrames.{HeldFrame}
use Rattle.afdx_switch.specs.Tables.{row_named, carried, byte_ns_at, entries_at}
use Rattle.afdx_switch.specs.Verdicts.{reason_of}
use Rattle.afdx_switch.proofs.AdmittedLemmas.{accepted-kept}
use Rattle.afdx_switch.proofs.LawLemmas.{entries-grow}
use Rattle.afdx_network.specs.Events.{turns_at}
use Rattle.afdx_network.proofs.EventLemmas.{sides}
use Rattle.afdx_law_promises.proofs.PortLemmas.{its-turns}
use Rattle.afdx_cascade.proofs.AcceptedLemmas.{no-entries}

-- a frame that has its turn as soon as it comes isn't too old
young-at : (o : Option ℕ) (time : ℕ) → is_past o time (max time 0) ≡ false
young-at None time = refl
young-at (Some wait) time = nat_lt-false (time + wait) (max time 0) (omega arith)

abbrev pub turn_of : Rows → Row → Arrival → Turn HeldFrame
turn_of t r x = turn_at (byte_ns_at t 2) 0 (entry_of (carried t) r x) (max x.time 0)

pub record PassesOne (t : Rows) (r : Row) (x : Arrival) : Type 0 where
  pub run : IsAdmittedRun t (x ∷ [])
  pub named : row_named t x.bytes ≡ Some r
  pub accepted : reason_of t [] x ≡ None
  pub goes : r.goes_to 2 ≡ true
  pub only : (port : ℕ) → (port ≡ 2 → ⊥) → r.goes_to port ≡ false

module _ (t : Rows) (r : Row) (x : Arrival) (p : PassesOne t r x) where
  abbrev the_entry : Entry HeldFrame
  the_entry = entry_of (carried t) r x

  abbrev the_turn : Turn HeldFrame
  the_turn = turn_of t r x

  own-entries : entries_at t x.side 2 (x ∷ []) ≡ the_entry ∷ []
  own-entries =
      (entries-grow t x.side 2 x [] p.run.lawful).entered r p.accepted p.named p.goes
      (accepted-kept t [] x 2 p.run) ∙ ap (λ es. es ++ the_entry ∷ []) (no-entries t x.side 2)

  other-entries : (side : Side) (port : ℕ) → (side ≡ x.side → port ≡ 2 → ⊥)
      → entries_at t side port (x ∷ []) ≡ []
  other-entries side port apart = elim (sides side x.side) [
    | inr off ↦
        (entries-grow t side port x [] p.run.lawful).other_side off.0 ∙ no-entries t side port
    | inl same ↦ subst (λ s. entries_at t s port (x ∷ []) ≡ []) (sym same)
        ((entries-grow t x.side port x [] p.run.lawful).elsewhere r p.accepted p.named
        (p.only port (apart same)) ∙ no-entries t x.side port)
  ]

  all-turns : turns_at t x.side 2 (x ∷ []) ≡ the_turn ∷ []
  unfolding turns_at
  all-turns = ap (schedule_of (byte_ns_at t 2)) own-entries

  pub are-turns : AreTurns (byte_ns_at t 2) (entries_at t x.side 2 (x ∷ [])) (the_turn ∷ [])
  are-turns = subst (AreTurns (byte_ns_at t 2) (entries_at t x.side 2 (x ∷ []))) all-turns
      (its-turns t x.side 2 (x ∷ []) p.run.timed).each_next

  pub slot-young : the_turn.too_old ≡ false
  slot-young = young-at r.longest_wait x.time

  pub slot-ends : the_turn.end ≡ x.time + wire_of (length x.bytes) * byte_ns_at t 2
  slot-ends = rw slot-young (omega arith)

  none-there : (side : Side) (port : ℕ) (earlier : List (Turn HeldFrame)) (s : Turn HeldFrame)
      → (side ≡ x.side → port ≡ 2 → ⊥)
      → IsNext (byte_ns_at t port) (entries_at t side port (x ∷ [])) earlier s → ⊥
  none-there side port earlier s apart next =
      let stands = next.own.stands in
      let none = other-entries side port apart in
      by (entries_at t side port (x ∷ [])) none stands
    where
      by : (es : List (Entry HeldFrame)) → es ≡ [] → slice_get es s.place ≡ Some s.entry → ⊥
      by [] is at = absurd (cc at)
      by (e ∷ es) is at = cc is

  -- before its turn this is the next one, and there is no other
  pub next-one : (side : Side) (port : ℕ) (s : Turn HeldFrame)
      → IsNext (byte_ns_at t port) (entries_at t side port (x ∷ [])) [] s
      → (side ≡ x.side) × (port ≡ 2) × (s ≡ the_turn)
  next-one side port s next = elim (cases_eq port 2) [
    | inr apart ↦ absurd (none-there side port [] s (λ same here. apart here) next)
    | inl here ↦ elim (sides side x.side) [
      | inr off ↦ absurd (none-there side port [] s (λ same at. off.1 same) next)
      | inl same ↦ (
        same,
        here,
        same_next (byte_ns_at t 2) (entries_at t x.side 2 (x ∷ [])) [] s the_turn
            (subst (λ n. IsNext (byte_ns_at t n) (entries_at t x.side n (x ∷ [])) [] s) here
            (subst (λ z. IsNext (byte_ns_at t port) (entries_at t z port (x ∷ [])) [] s) same next))
            are-turns.0,
      )
    ]
  ]

  -- after it there is none
  pub no-more : (side : Side) (port : ℕ) (earlier : List (Turn HeldFrame)) (s : Turn HeldFrame)
      → (side ≡ x.side → port ≡ 2 → earlier ≡ the_turn ∷ [])
      → IsNext (byte_ns_at t port) (entries_at t side port (x ∷ [])) earlier s → ⊥
  no-more side port earlier s over next = elim (cases_eq port 2) [
    | inr apart ↦ none-there side port earlier s (λ same here. apart here) next
    | inl here ↦ elim (sides side x.side) [
      | inr off ↦ none-there side port earlier s (λ same at. off.1 same) next
      | inl same ↦ had (over same here)
          (subst (λ n. IsNext (byte_ns_at t n) (entries_at t x.side n (x ∷ [])) earlier s) here
          (subst (λ z. IsNext (byte_ns_at t port)
          (entries_at t z port (x ∷ [])) earlier s) same next))
    ]
  ]
    where
      first : (es : List (Entry HeldFrame)) (place : ℕ) (e : Entry HeldFrame) → es ≡ the_entry ∷ []
          → slice_get es place ≡ Some e → place ≡ 0
      first [] place e is at = absurd (cc is)
      first (d ∷ []) zero e is at = refl
      first (d ∷ []) (suc i) e is at = absurd (cc at)
      first (d ∷ (f ∷ fs)) place e is at = absurd (cc is)

      had : earlier ≡ the_turn ∷ []
          → IsNext (byte_ns_at t 2) (entries_at t x.side 2 (x ∷ [])) earlier s → ⊥
      had is one =
          let place = first (entries_at t x.side 2
          (x ∷ [])) s.place s.entry own-entries one.own.stands in
          let without : has_turn (the_turn ∷ []) s.place ≡ false =
          subst (λ ts. has_turn ts s.place ≡ false) is one.own.without in
          let same : has_turn (the_turn ∷ []) s.place ≡ true = rw place refl in
          cc
