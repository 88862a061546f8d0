-- A switch through an arrival.
use Rattle.std.proofs.Common.{◌≡◌, ◌≢◌, ℕ, zero, suc, ◌<◌, ◌≤◌, ◌+◌, true, false, List, [], ◌∷◌}
use Rattle.std.proofs.Common.{length, set, refl, sym, ap, ◌∙◌, arith, subst, inl, inr}
use Rattle.std.specs.Prelude.{Option, Some, None, IfSome, All, slice_get, sum_by, vec_len, find, ◌⊎◌}
use Rattle.std.proofs.lemmas.List.Sums.{sum_by-cons}
use Rattle.std.proofs.lemmas.Bool.{cases_eq}
use Rattle.std.proofs.lemmas.Option.{slice_get_within, slice_get-get_or}
use Rattle.afdx_frame.specs.declared.link.Priority.{Priority}
use Rattle.afdx_frame.proofs.ListLemmas.{slice_get-within, slice_get-set_here, slice_get-set_there}
use Rattle.afdx_config.specs.Rows.{Rows}
use Rattle.afdx_police.specs.Arrival.{Arrival, names, own}
use Rattle.afdx_police.specs.LinkAccounts.{StandsForOwn}
use Rattle.afdx_police.specs.declared.account.LinkAccount.{LinkAccount}
use Rattle.afdx_port.specs.Held as held
use Rattle.afdx_port.specs.History as queue
use Rattle.afdx_port.specs.declared.port_state.PortState.{PortState}
use Rattle.afdx_law_bounds.specs.Outputs.{Row, sends}
use Rattle.afdx_switch.specs.HeldFrames.{HeldFrame, held_frame, facts}
use Rattle.afdx_switch.specs.Ports.{holds}
use Rattle.afdx_switch.specs.Tables.{rows_of, output_at, byte_ns_at, buffer_at}
use Rattle.afdx_switch.specs.Verdicts.{reason_of, is_lost_at}
use Rattle.afdx_switch.specs.Switching.{SwitchHistory, StandsFor, calls_at, taken_at, with_arrival}
use Rattle.afdx_switch.specs.Lines.{IsLine, IsNamedAt, is_among}
use Rattle.afdx_switch.specs.Sound.{IsPortSound}
use Rattle.afdx_switch.specs.Shares.{IsOffered, calls_after, share_of}
use Rattle.afdx_switch.specs.declared.line.Line.{Line}
use Rattle.afdx_switch.specs.declared.ports.PortSet.{PortSet}
use Rattle.afdx_switch.specs.declared.switch_state.SwitchState.{SwitchState}
use Rattle.afdx_switch.proofs.ArrivalLemmas.{own-other, own-named, entries-kept, with-share-is}
use Rattle.afdx_switch.proofs.ArrivalLemmas.{loses-share-is}
use Rattle.afdx_switch.proofs.PlaceLemmas.{buffer-is}
use Rattle.afdx_switch.proofs.ListLemmas.{all-at, bool_cases}

-- what holds at each place holds of all
pub all-from : {X : Type 0} (P : X → Type 0) (xs : List X)
    → ((i : ℕ) (x : X) → slice_get xs i ≡ Some x → P x) → All P xs
all-from P xs each k d below = each k _ (slice_get-get_or xs k d below)

-- each line is the one that its own arrivals leave, with one more
abbrev pub LinesAfter : Rows → Arrival → SwitchHistory → List Line → Type 0
LinesAfter t x h lines = (i : ℕ) (r : Row) (line : Line) → slice_get (rows_of t) i ≡ Some r
    → slice_get lines i ≡ Some line → IsLine x.side (x ∷ h.arrivals) r line

module _ (t : Rows) (x : Arrival) (w : SwitchState) (h : SwitchHistory) (st : StandsFor t x.side w h) where
  pub line-other : (r : Row) (line : Line) → IsLine x.side h.arrivals r line → names r.rule.vl x.bytes
      ≡ false → IsLine x.side (x ∷ h.arrivals) r line
  line-other r line is other = record {
    account = subst (λ xs. StandsForOwn r.rule line.account xs)
        (sym (own-other r.rule.vl x.side x h.arrivals other)) is.account;
    priority = is.priority;
    longest_wait = is.longest_wait;
    goes = is.goes;
  }

  pub line-named : (r : Row) (line : Line) (account : LinkAccount) → IsLine x.side h.arrivals r line
      → names r.rule.vl x.bytes ≡ true
      → StandsForOwn r.rule account (x ∷ own r.rule.vl x.side h.arrivals) →
      IsLine x.side (x ∷ h.arrivals) r
      (record {
        account = account;
        priority = line.priority;
        longest_wait = line.longest_wait;
        goes = line.goes;
      })
  line-named r line account is named stands = record {
    account = subst (λ xs. StandsForOwn r.rule account xs) (sym (own-named r.rule.vl x h.arrivals named)) stands;
    priority = is.priority;
    longest_wait = is.longest_wait;
    goes = is.goes;
  }

  module _ (place : ℕ) (n : IsNamedAt (rows_of t) x.bytes place) (line : Line)
      (at : slice_get w.lines.items place ≡ Some line) where
    abbrev pub own_past : List Arrival
    own_past = own n.row.rule.vl x.side h.arrivals

    pub line-is : IsLine x.side h.arrivals n.row line
    line-is = st.lines place n.row line n.stands at

    pub lines-with : (account : LinkAccount) → StandsForOwn n.row.rule account (x ∷ own_past) →
        LinesAfter t x h (set w.lines.items place
        (record {
          account = account;
          priority = line.priority;
          longest_wait = line.longest_wait;
          goes = line.goes;
        }))
    lines-with account stands i r l at_r at_l = each (cases_eq i place)
      where
        new : Line
        new = record { account = account; priority = line.priority; longest_wait = line.longest_wait; goes = line.goes }

        other-fails : i ≢ place → names r.rule.vl x.bytes ≡ false
        other-fails other = elim (bool_cases (names r.rule.vl x.bytes))
            [ inl named ↦ absurd (other (n.only i r at_r named)) | inr fails ↦ fails ]

        each : (i ≡ place) ⊎ (i ≢ place) → IsLine x.side (x ∷ h.arrivals) r l
        each (inl same) =
            let here : slice_get (set w.lines.items place new) place ≡ Some new =
            slice_get-set_here w.lines.items place new
            (slice_get_within w.lines.items place line at) in
            let there : slice_get (set w.lines.items place new) place ≡ Some l =
            subst (λ k. slice_get (set w.lines.items place new) k ≡ Some l) same at_l in
            let row_at : slice_get (rows_of t) place ≡ Some r =
            subst (λ k. slice_get (rows_of t) k ≡ Some r) same at_r in
            let row_stands = n.stands in
            let same_line : new ≡ l = cc in
            let same_row : n.row ≡ r = cc in
            subst (λ k. IsLine x.side (x ∷ h.arrivals) k l) same_row
            (subst (λ k. IsLine x.side (x ∷ h.arrivals) n.row k) same_line
            (line-named n.row line account line-is n.named stands))
        each (inr other) =
            line-other r l (st.lines i r l at_r
            (sym (slice_get-set_there w.lines.items place i new other) ∙ at_l)) (other-fails other)

  -- a switch that dropped the arrival
  pub stands-dropped : (new : SwitchState)
      → ((port : ℕ) → find (sends (output_at t x.side port) h.arrivals x) (rows_of t) ≡ None)
      → LinesAfter t x h new.lines.items →
      new.clock ≡ x.time → vec_len new.lines ≡ vec_len w.lines → new.places ≡ w.places
      → new.ports ≡ w.ports → StandsFor t x.side new (with_arrival h x)
  stands-dropped new sent lines clock count places ports = record {
    time = clock;
    line_count = count ∙ st.line_count;
    lines = lines;
    places = λ vl k at. st.places vl k (sym (ap (λ ps. slice_get ps.items vl) places) ∙ at);
    port_count = ap (λ ps. length ps.items) ports ∙ st.port_count;
    ports = λ i p at.
        subst (λ es. queue.StandsFor facts p
        (record {
          byte_ns = byte_ns_at t (i + 1);
          buffer = buffer_at t (i + 1);
          entries = es;
          taken = taken_at (i + 1) h.taken;
          time = p.clock;
        }))
        (sym (entries-kept t x h.arrivals (i + 1) (sent (i + 1))))
        (st.ports i p (sym (ap (λ ps. slice_get ps.items i) ports) ∙ at));
  }

  -- a switch that offered shares of the arrival to its ports
  module _ (place : ℕ) (n : IsNamedAt (rows_of t) x.bytes place) (line : Line)
      (at : slice_get w.lines.items place ≡ Some line)
      (accepted : reason_of t h.arrivals x ≡ None) (shortest : 64 ≤ length x.bytes)
      (longest : length x.bytes ≤ 1518) (small : IfSome line.longest_wait (λ wait. wait ≤ 100000000))
      (ports : List (PortState HeldFrame)) (lost : PortSet) (old_count : length w.ports.items ≡ 24)
      (new_count : length ports ≡ 24)
      (offered : (i : ℕ) (o p : PortState HeldFrame) → slice_get w.ports.items i ≡ Some o → slice_get ports i ≡ Some p →
      IsOffered x.time line.priority
      (share_of (held_frame x.tag line.longest_wait x.bytes) (is_among i line.goes.items)) o p
      (holds lost (i + 1))) where
    line-of : IsLine x.side h.arrivals n.row line
    line-of = st.lines place n.row line n.stands at

    offered-at : (i : ℕ) (o p : PortState HeldFrame) → i < 24 → slice_get w.ports.items i ≡ Some o
        → slice_get ports i ≡ Some p →
        IsOffered x.time line.priority
        (share_of (held_frame x.tag line.longest_wait x.bytes) (n.row.goes_to (i + 1))) o p
        (holds lost (i + 1))
    offered-at i o p below at_o at_p =
        subst (λ b. IsOffered x.time line.priority
        (share_of (held_frame x.tag line.longest_wait x.bytes) b) o p (holds lost (i + 1)))
        (line-of.goes i below) (offered i o p at_o at_p)

    port-after : (i : ℕ) (p : PortState HeldFrame) → slice_get ports i ≡ Some p
        → queue.StandsFor facts p (calls_at t x.side (i + 1) (with_arrival h x) p.clock)
    port-after i p at_p =
        let below : i < 24 = omega (arith, slice_get_within ports i p at_p, new_count) in
        let old = slice_get-within w.ports.items i (omega (arith, below, old_count)) in
        let one = offered-at i old.0 p below old.1 at_p in
        subst (λ es. queue.StandsFor facts p
        (record {
          byte_ns = byte_ns_at t (i + 1);
          buffer = buffer_at t (i + 1);
          entries = es;
          taken = taken_at (i + 1) h.taken;
          time = p.clock;
        }))
        (with-share-is t x h.arrivals place n line.priority line.longest_wait accepted shortest
        longest small line-of.priority line-of.longest_wait (i + 1) (buffer_at t (i + 1))
        (buffer-is t place n.row (i + 1) n.stands))
        (one.stands (calls_at t x.side (i + 1) h old.0.clock) (st.ports i old.0 old.1))

    pub lost-is : (port : ℕ) → 1 ≤ port → port ≤ 24 → holds lost port ≡ is_lost_at t h.arrivals x port
    lost-is zero low high = absurd (omega (arith, low))
    lost-is (suc i) low high =
        let below : i < 24 = omega (arith, high) in
        let old = slice_get-within w.ports.items i (omega (arith, below, old_count)) in
        let new = slice_get-within ports i (omega (arith, below, new_count)) in
        let one = offered-at i old.0 new.0 below old.1 new.1 in
        let same : i + 1 ≡ suc i = omega arith in
        subst (λ k. holds lost k ≡ is_lost_at t h.arrivals x k) same
        (one.lost (calls_at t x.side (i + 1) h old.0.clock) (st.ports i old.0 old.1)
        ∙ loses-share-is t x h.arrivals place n line.priority line.longest_wait accepted shortest
        longest small line-of.priority line-of.longest_wait (i + 1) (buffer_at t (i + 1))
        (buffer-is t place n.row (i + 1) n.stands))

    pub stands-accepted : (new : SwitchState) → LinesAfter t x h new.lines.items → new.clock ≡ x.time
        → vec_len new.lines ≡ vec_len w.lines → new.places ≡ w.places → new.ports.items ≡ ports →
        StandsFor t x.side new (with_arrival h x)
    stands-accepted new lines clock count places is_ports = record {
      time = clock;
      line_count = count ∙ st.line_count;
      lines = lines;
      places = λ vl k at_k. st.places vl k (sym (ap (λ ps. slice_get ps.items vl) places) ∙ at_k);
      port_count = ap length is_ports ∙ new_count;
      ports = λ i p at_p. port-after i p (sym (ap (λ ps. slice_get ps i) is_ports) ∙ at_p);
    }

sum-grows : {X : Type 0} (f : X → ℕ) (xs ys : List X) → length xs ≡ length ys
    → ((i : ℕ) (x y : X) → slice_get xs i ≡ Some x → slice_get ys i ≡ Some y → f y ≤ f x + 1)
    → sum_by f ys ≤ sum_by f xs + length xs
sum-grows f [] [] same each = omega arith
sum-grows f [] (y ∷ ys) same each = absurd (omega (arith, same))
sum-grows f (x ∷ xs) [] same each = absurd (omega (arith, same))
sum-grows f (x ∷ xs) (y ∷ ys) same each =
    let first = each 0 x y refl refl in
    let rest = sum-grows f xs ys (omega (arith, same)) (λ i a b p q. each (suc i) a b p q) in
    omega (arith, first, rest, sum_by-cons f x xs, sum_by-cons f y ys)

-- ports through the offers of shares are sound and quiet, and hold at most one frame more each
module _ (time clock : ℕ) (priority : Priority) (old ports : List (PortState HeldFrame))
    (share : ℕ → Option HeldFrame) (lost : PortSet) (old_count : length old ≡ 24)
    (new_count : length ports ≡ 24)
    (offered : (i : ℕ) (o p : PortState HeldFrame) → slice_get old i ≡ Some o
    → slice_get ports i ≡ Some p → IsOffered time priority (share i) o p (holds lost (i + 1))) where
  old-at : (i : ℕ) (p : PortState HeldFrame) → slice_get ports i ≡ Some p → (o : PortState HeldFrame)
      × (slice_get old i ≡ Some o)
  old-at i p at_p = slice_get-within old i (omega (arith, slice_get_within ports i p at_p, new_count, old_count))

  pub ports-sound : All (IsPortSound clock) old → All (IsPortSound time) ports
  ports-sound all = all-from (IsPortSound time) ports (λ i p at_p.
      let o = old-at i p at_p in
      let one = offered i o.0 p o.1 at_p in
      let sound = all-at (IsPortSound clock) old i o.0 all o.1 in
      record {
        in_time = one.clock;
        calls = calls_after time priority (share i) sound.calls p.clock;
        stands = one.stands sound.calls sound.stands;
      })

  pub ports-quiet : All (λ p. held.IsQuiet facts p time) ports
  ports-quiet = all-from (λ p. held.IsQuiet facts p time) ports
      (λ i p at_p. let o = old-at i p at_p in (offered i o.0 p o.1 at_p).quiet)

  pub ports-held : sum_by (λ p. held.frames_held p) ports ≤ sum_by (λ p. held.frames_held p) old + 24
  ports-held =
      let more = sum-grows (λ p. held.frames_held p) old ports (omega (arith, old_count, new_count))
      (λ i o p at_o at_p. (offered i o p at_o at_p).more) in
      omega (arith, more, old_count)
