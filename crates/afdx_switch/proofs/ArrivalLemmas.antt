-- What one more arrival is, and what it adds to the entries of the output ports.
use Rattle.std.proofs.Common.{◌≡◌, ℕ, ◌≤◌, ◌&&◌, Bool, true, false, List, [], ◌∷◌, length}
use Rattle.std.proofs.Common.{refl, sym, ap, ◌∙◌, arith, inl, inr}
use Rattle.std.specs.Prelude.{Option, Some, None, IfSome, is_none}
use Rattle.std.specs.Prelude.{find, min, max, option_map, if◌then◌else◌}
use Rattle.std.proofs.lemmas.Bool.{and_parts}
use Rattle.afdx_frame.specs.declared.link.Priority.{Priority}
use Rattle.afdx_frame.specs.declared.link.Side.{Side}
use Rattle.afdx_frame.specs.declared.link.Side.TheVariants.{A, B}
use Rattle.afdx_config.specs.Rows.{Rows}
use Rattle.afdx_police.specs.Arrival.{Arrival, is_side, names, own}
use Rattle.afdx_police.specs.Shape.{fault_of, frame_faults}
use Rattle.afdx_police.proofs.FirstOfLemmas.{first_of-some}
use Rattle.afdx_police.specs.Verdicts.{reason_after, verdict_in}
use Rattle.afdx_police.specs.declared.shape.Reason.{Reason}
use Rattle.afdx_police.specs.declared.shape.Reason.TheVariants.{UnknownLink}
use Rattle.afdx_law_bounds.specs.Offered.{is_lost, with_offer, entries_of}
use Rattle.afdx_law_bounds.specs.Outputs.{Row, Output, accepts, sends, entry_of, with_sent, offers_at}
use Rattle.afdx_law_bounds.proofs.VerdictLemmas.{looks}
use Rattle.afdx_switch.specs.HeldFrames.{held_frame}
use Rattle.afdx_switch.specs.Tables.{rows_of, output_at, byte_ns_at, row_named, wait_of, carried, entries_at}
use Rattle.afdx_switch.specs.Verdicts.{fault_on, shape_fault, reason_on, reason_of, is_share_lost, is_lost_at}
use Rattle.afdx_switch.specs.Lines.{IsNamed, IsNamedAt}
use Rattle.afdx_switch.specs.Shares.{share_of, share_entry, with_share, loses_share}
use Rattle.afdx_switch.proofs.ListLemmas.{find-none, find-one, bool_cases}

pub same-side : (s : Side) → is_side s s ≡ true
same-side A = refl
same-side B = refl

-- a link's own arrivals
pub own-other : (vl : ℕ) (side : Side) (x : Arrival) (past : List Arrival)
    → names vl x.bytes ≡ false → own vl side (x ∷ past) ≡ own vl side past
own-other vl side x past other =
    elim (bool_cases (is_side side x.side))
    [ inl here ↦ rw (here, other) refl | inr there ↦ rw there refl ]

pub own-named : (vl : ℕ) (x : Arrival) (past : List Arrival) → names vl x.bytes ≡ true
    → own vl x.side (x ∷ past) ≡ x ∷ own vl x.side past
own-named vl x past named = rw (same-side x.side, named) refl

pub own-apart : (vl : ℕ) (side : Side) (x : Arrival) (past : List Arrival)
    → is_side side x.side ≡ false → own vl side (x ∷ past) ≡ own vl side past
own-apart vl side x past other = rw other refl

-- without a rule there is a fault
pub unknown-fault : (port : ℕ) (bytes : List ℕ) → (r : Reason) × (fault_of None port bytes ≡ Some r)
unfolding fault_of
unknown-fault port bytes = first_of-some (frame_faults bytes) UnknownLink []

limit-is : (w : Option ℕ) → IfSome w (λ n. n ≤ 100000000) → option_map (λ n. min 100000000 n) w ≡ w
limit-is None small = refl
limit-is (Some n) small = ap Some (omega (arith, small))

pub not-accepted : (o : Option Reason) (r : Reason) (b : Bool) → o ≡ Some r → (is_none o && b) ≡ false
not-accepted o r b is = rw is refl

module _ (t : Rows) (x : Arrival) (past : List Arrival) where
  pub sends-named : (o : Output) (r : Row) → sends o past x r ≡ true → names r.rule.vl x.bytes ≡ true
  sends-named o r sent = (looks r past x
      (and_parts (accepts past x r) (is_side o.side x.side && r.goes_to o.number) sent).0).named

  pub no-row-named : IsNamed (rows_of t) x.bytes None → row_named t x.bytes ≡ None
  unfolding row_named
  no-row-named none = find-none (λ (r : Row). names r.rule.vl x.bytes) (rows_of t) none

  pub row-named : (place : ℕ) (n : IsNamedAt (rows_of t) x.bytes place) → row_named t x.bytes ≡ Some n.row
  unfolding row_named
  row-named place n = find-one (λ (r : Row). names r.rule.vl x.bytes) (rows_of t) place n.row
      n.stands n.only ∙ ap (λ b. if b then Some n.row else None) n.named

  pub reason-named : (place : ℕ) (n : IsNamedAt (rows_of t) x.bytes place)
      → reason_of t past x ≡ reason_after n.row.rule (own n.row.rule.vl x.side past) x
  unfolding reason_of
  reason-named place n = ap (reason_on past x) (row-named place n)

  pub shape-named : (place : ℕ) (n : IsNamedAt (rows_of t) x.bytes place)
      → shape_fault t x ≡ fault_of (Some n.row.rule) x.port x.bytes
  unfolding shape_fault
  shape-named place n = ap (fault_on x) (row-named place n)

  sent-none : (o : Output) → IsNamed (rows_of t) x.bytes None → find (sends o past x) (rows_of t) ≡ None
  sent-none o none = find-none (sends o past x) (rows_of t) (λ j r at. elim (bool_cases (sends o past x r)) [
    | inl sent ↦ absurd (let named = sends-named o r sent in let other = none j r at in cc)
    | inr kept ↦ kept
  ])

  sent-named : (o : Output) (place : ℕ) (n : IsNamedAt (rows_of t) x.bytes place)
      → find (sends o past x) (rows_of t) ≡ (if sends o past x n.row then Some n.row else None)
  sent-named o place n = find-one (sends o past x) (rows_of t) place n.row n.stands
      (λ j r at sent. n.only j r at (sends-named o r sent))

  -- an arrival that is dropped is sent nowhere
  pub dropped-sent : (place : Option ℕ) (o : Output) (r : Reason)
      → IsNamed (rows_of t) x.bytes place → reason_of t past x ≡ Some r
      → find (sends o past x) (rows_of t) ≡ None
  dropped-sent None o r none dropped = sent-none o none
  dropped-sent (Some place) o r n dropped =
      sent-named o place n
      ∙ ap (λ b. if b then Some n.row else None)
      (not-accepted (verdict_in n.row.rule past x) r
      (is_side o.side x.side && n.row.goes_to o.number) (sym (reason-named place n) ∙ dropped))

  -- one that is accepted is sent to the ports of its link
  pub accepted-sent : (port place : ℕ) (n : IsNamedAt (rows_of t) x.bytes place) → reason_of t past x ≡ None →
      find (sends (output_at t x.side port) past x) (rows_of t) ≡ (if n.row.goes_to port then Some n.row else None)
  accepted-sent port place n accepted =
      let reason : verdict_in n.row.rule past x ≡ None = sym (reason-named place n) ∙ accepted in
      sent-named (output_at t x.side port) place n
      ∙ ap (λ b. if b then Some n.row else None) (rw (reason, same-side x.side) refl)

  -- the entries
  pub entries-with : (port : ℕ) (row : Option Row) → find (sends (output_at t x.side port) past x) (rows_of t) ≡ row →
      entries_at t x.side port (x ∷ past)
      ≡ entries_of (byte_ns_at t port) t.buffer
      (with_sent (carried t) x row (offers_at (carried t) (rows_of t) (output_at t x.side port) past))
  unfolding offers_at
  entries-with port row sent =
      ap (λ f. entries_of (byte_ns_at t port) t.buffer
      (with_sent (carried t) x f (offers_at (carried t) (rows_of t) (output_at t x.side port) past))) sent

  pub entries-kept : (port : ℕ) → find (sends (output_at t x.side port) past x) (rows_of t) ≡ None
      → entries_at t x.side port (x ∷ past) ≡ entries_at t x.side port past
  entries-kept port sent = entries-with port None sent

  -- a share as the entry that it becomes
  module _ (place : ℕ) (n : IsNamedAt (rows_of t) x.bytes place) (priority : Priority) (longest_wait : Option ℕ)
      (accepted : reason_of t past x ≡ None) (shortest : 64 ≤ length x.bytes) (longest : length x.bytes ≤ 1518)
      (small : IfSome longest_wait (λ wait. wait ≤ 100000000))
      (same_priority : priority ≡ n.row.priority)
      (same_wait : longest_wait ≡ n.row.longest_wait) where
    is-carried : held_frame x.tag longest_wait x.bytes ≡ carried t x
    unfolding carried
    is-carried = ap (λ w. held_frame x.tag w x.bytes) (same_wait ∙ sym (ap wait_of (row-named place n)))

    entry-is : share_entry x.time priority (held_frame x.tag longest_wait x.bytes) ≡ entry_of (carried t) n.row x
    entry-is =
        let length-is : max 64 (min 1518 (length x.bytes)) ≡ length x.bytes = omega (arith, shortest, longest) in
        let limit : option_map (λ n. min 100000000 n) longest_wait ≡ n.row.longest_wait =
        limit-is longest_wait small ∙ same_wait in
        rw (length-is, limit, same_priority, is-carried) refl

    shared : (port buffer : ℕ) (goes : Bool) → n.row.goes_to port ≡ goes → (goes ≡ true → buffer ≡ t.buffer) →
        with_share x.time priority (byte_ns_at t port) buffer (entries_at t x.side port past)
        (share_of (held_frame x.tag longest_wait x.bytes) goes)
        ≡ entries_at t x.side port (x ∷ past)
    shared port buffer true goes own =
        ap (λ b. with_offer (byte_ns_at t port) b (entries_at t x.side port past)
        (share_entry x.time priority (held_frame x.tag longest_wait x.bytes))) (own refl)
        ∙ ap (λ e. with_offer (byte_ns_at t port) t.buffer (entries_at t x.side port past) e) entry-is
        ∙ sym (entries-with port (Some n.row)
        (accepted-sent port place n accepted ∙ ap (λ b. if b then Some n.row else None) goes))
    shared port buffer false stays own =
        sym (entries-kept port (accepted-sent port place n accepted ∙ ap (λ b. if b then Some n.row else None) stays))

    -- with a buffer that is the tables' where the link goes
    pub with-share-is : (port buffer : ℕ) → (n.row.goes_to port ≡ true → buffer ≡ t.buffer) →
        with_share x.time priority (byte_ns_at t port) buffer (entries_at t x.side port past)
        (share_of (held_frame x.tag longest_wait x.bytes) (n.row.goes_to port))
        ≡ entries_at t x.side port (x ∷ past)
    with-share-is port buffer own = shared port buffer (n.row.goes_to port) refl own

    lost : (port buffer : ℕ) (goes : Bool) → n.row.goes_to port ≡ goes → (goes ≡ true → buffer ≡ t.buffer) →
        loses_share x.time priority (byte_ns_at t port) buffer (entries_at t x.side port past)
        (share_of (held_frame x.tag longest_wait x.bytes) goes) ≡ is_lost_at t past x port
    unfolding is_lost_at
    lost port buffer true goes own =
        ap (λ b. is_lost (byte_ns_at t port) b (entries_at t x.side port past)
        (share_entry x.time priority (held_frame x.tag longest_wait x.bytes))) (own refl)
        ∙ ap (λ e. is_lost (byte_ns_at t port) t.buffer (entries_at t x.side port past) e) entry-is
        ∙ sym (ap (is_share_lost t past x port)
        (accepted-sent port place n accepted ∙ ap (λ b. if b then Some n.row else None) goes))
    lost port buffer false stays own =
        sym (ap (is_share_lost t past x port)
        (accepted-sent port place n accepted ∙ ap (λ b. if b then Some n.row else None) stays))

    pub loses-share-is : (port buffer : ℕ) → (n.row.goes_to port ≡ true → buffer ≡ t.buffer) →
        loses_share x.time priority (byte_ns_at t port) buffer (entries_at t x.side port past)
        (share_of (held_frame x.tag longest_wait x.bytes) (n.row.goes_to port))
        ≡ is_lost_at t past x port
    loses-share-is port buffer own = lost port buffer (n.row.goes_to port) refl own
