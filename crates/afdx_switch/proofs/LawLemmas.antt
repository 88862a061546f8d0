-- The laws of a switch.
use Rattle.std.proofs.Common.{◌≡◌, ℕ, zero, suc, ◌≤◌, ◌+◌, ◌&&◌, Bool, true, false, List, [], ◌∷◌}
use Rattle.std.proofs.Common.{◌++◌, refl, sym, ap, ◌∙◌, arith, subst, inl, inr}
use Rattle.std.specs.Prelude.{Option, Some, None, IfSome, filter, find, slice_get, if◌then◌else◌}
use Rattle.afdx_frame.specs.Layout.{link_named_by}
use Rattle.afdx_frame.specs.declared.link.Priority.TheVariants.{Low}
use Rattle.afdx_frame.specs.declared.link.Side.{Side}
use Rattle.afdx_frame.specs.declared.link.VlId.{VlId}
use Rattle.afdx_frame.proofs.ListLemmas.{slice_get-within}
use Rattle.afdx_config.specs.Lawful.{IsLawfulSwitch}
use Rattle.afdx_config.specs.Reading.{link_of}
use Rattle.afdx_config.specs.Rows.{Rows}
use Rattle.afdx_police.specs.Arrival.{Arrival, is_side, names, own}
use Rattle.afdx_police.specs.LinkAccounts.{StandsForOwn}
use Rattle.afdx_police.specs.Verdicts.{reason_after}
use Rattle.afdx_port.specs.Classes.{AreOfOneClass, GoInOrder}
use Rattle.afdx_port.specs.History as queue
use Rattle.afdx_port.specs.Schedule.{Entry, AreTurns}
use Rattle.afdx_port.proofs.ClassLemmas.{go_in_order}
use Rattle.afdx_port.proofs.HistoryLemmas.{taken_turns}
use Rattle.afdx_law_bounds.specs.Offered.{is_lost, entries_of}
use Rattle.afdx_law_bounds.specs.Outputs.{Row, accepts, sends, entry_of, with_sent, offers_at}
use Rattle.afdx_law_bounds.proofs.VerdictLemmas.{one-name}
use Rattle.afdx_switch.specs.HeldFrames.{HeldFrame, facts}
use Rattle.afdx_switch.specs.Laws.{VerdictsAreOwn, EntriesStep, is_of, TakenAreTurns}
use Rattle.afdx_switch.specs.Laws.{OtherSideIsApart, LostPortsAreListed}
use Rattle.afdx_switch.specs.Tables.{rows_of, output_at, byte_ns_at, buffer_at, row_named, carried, entries_at}
use Rattle.afdx_switch.specs.Verdicts.{reason_on, reason_of, is_share_lost, is_lost_at, numbers, lost_ports}
use Rattle.afdx_switch.specs.Ports.{holds}
use Rattle.std.specs.List.{AllByRecursion}
use Rattle.afdx_switch.specs.Lines.{IsPlaceOf, IsNamed}
use Rattle.afdx_switch.specs.Switching.{SwitchHistory, StandsFor, calls_at, taken_at}
use Rattle.afdx_switch.specs.declared.switch_state.SwitchState.{SwitchState}
use Rattle.afdx_switch.proofs.ListLemmas.{find-none, find-found}
use Rattle.afdx_switch.proofs.NamedLemmas.{unnamed, no-row, row-at}
use Rattle.afdx_switch.proofs.ArrivalLemmas.{sends-named, row-named, dropped-sent, accepted-sent}
use Rattle.afdx_switch.proofs.ArrivalLemmas.{entries-with, entries-kept, own-apart}
use Rattle.afdx_switch.proofs.NewLemmas.{place-of, pushed}

pub verdicts-own : VerdictsAreOwn
unfolding reason_of
verdicts-own t past other x same = on (row_named t x.bytes) same
  where
    on : (o : Option Row) → IfSome o (λ r. own r.rule.vl x.side past ≡ own r.rule.vl x.side other)
        → reason_on past x o ≡ reason_on other x o
    on None equal = refl
    on (Some r) equal = ap (λ xs. reason_after r.rule xs x) equal

-- where the row stands that the bytes name, in lawful tables
pub named-place : (t : Rows) (bytes : List ℕ) → IsLawfulSwitch t
    → (place : Option ℕ) × IsNamed (rows_of t) bytes place
named-place t bytes lawful = by (link_named_by bytes) refl
  where
    here : (v : VlId) (place : Option ℕ) → link_named_by bytes ≡ Some v
        → IsPlaceOf (rows_of t) v.0 place → (k : Option ℕ) × IsNamed (rows_of t) bytes k
    here v None some is = (None, no-row (rows_of t) bytes v some is)
    here v (Some place) some is = (Some place, row-at (rows_of t) bytes v place some is)

    by : (o : Option VlId) → link_named_by bytes ≡ o → (place : Option ℕ) × IsNamed (rows_of t) bytes place
    by None none = (None, unnamed (rows_of t) bytes none)
    by (Some v) some = here v (link_of t.links v.0) some (place-of t lawful v.0 (link_of t.links v.0) refl)

unsent : (a b c : Bool) → b ≡ false → (a && (b && c)) ≡ false
unsent true b c e = rw e refl
unsent false b c e = refl

-- the entries with one more arrival, on any side
side-with : (t : Rows) (side : Side) (port : ℕ) (x : Arrival) (past : List Arrival)
    (row : Option Row) → find (sends (output_at t side port) past x) (rows_of t) ≡ row →
    entries_at t side port (x ∷ past)
    ≡ entries_of (byte_ns_at t port) t.buffer
    (with_sent (carried t) x row (offers_at (carried t) (rows_of t) (output_at t side port) past))
unfolding offers_at
side-with t side port x past row sent =
    ap (λ f. entries_of (byte_ns_at t port) t.buffer
    (with_sent (carried t) x f (offers_at (carried t) (rows_of t) (output_at t side port) past))) sent

other-kept : (t : Rows) (side : Side) (port : ℕ) (x : Arrival) (past : List Arrival)
    → is_side side x.side ≡ false → entries_at t side port (x ∷ past) ≡ entries_at t side port past
other-kept t side port x past other =
    side-with t side port x past None
    (find-none (sends (output_at t side port) past x) (rows_of t)
    (λ j r at. unsent (accepts past x r) (is_side side x.side) (r.goes_to port) other))

nothing-named : (t : Rows) (bytes : List ℕ) → IsNamed (rows_of t) bytes None → row_named t bytes ≡ None
unfolding row_named
nothing-named t bytes none = find-none (λ (s : Row). names s.rule.vl bytes) (rows_of t) none

module _ (t : Rows) (port : ℕ) (x : Arrival) (past : List Arrival)
    (lawful : IsLawfulSwitch t) where
  sent-to : (r : Row) → reason_of t past x ≡ None → row_named t x.bytes ≡ Some r
      → find (sends (output_at t x.side port) past x) (rows_of t)
      ≡ (if r.goes_to port then Some r else None)
  sent-to r accepted named = by (named-place t x.bytes lawful)
    where
      by : (place : Option ℕ) × IsNamed (rows_of t) x.bytes place
          → find (sends (output_at t x.side port) past x) (rows_of t)
          ≡ (if r.goes_to port then Some r else None)
      by (None, none) = absurd (let nothing = nothing-named t x.bytes none in cc)
      by (Some place, n) =
          let row = row-named t x past place n in
          let same : n.row ≡ r = cc in
          subst (λ (s : Row). find (sends (output_at t x.side port) past x) (rows_of t)
          ≡ (if s.goes_to port then Some s else None)) same
          (accepted-sent t x past port place n accepted)

  lost-kept : is_lost_at t past x port ≡ true → entries_at t x.side port (x ∷ past) ≡ entries_at t x.side port past
  unfolding is_lost_at
  lost-kept lost = by (find (sends (output_at t x.side port) past x) (rows_of t)) refl lost
    where
      by : (o : Option Row) → find (sends (output_at t x.side port) past x) (rows_of t) ≡ o
          → is_share_lost t past x port o ≡ true → entries_at t x.side port (x ∷ past)
          ≡ entries_at t x.side port past
      by None sent is = entries-kept t x past port sent
      by (Some r) sent is = entries-with t x past port (Some r) sent
          ∙ ap (λ b. if b then entries_at t x.side port past else entries_at t x.side port past
          ++ entry_of (carried t) r x ∷ []) is

  entered-more : (r : Row) → find (sends (output_at t x.side port) past x) (rows_of t) ≡ Some r
      → is_lost_at t past x port ≡ false →
      entries_at t x.side port (x ∷ past) ≡ entries_at t x.side port past ++ entry_of (carried t) r x ∷ []
  unfolding is_lost_at
  entered-more r sent kept =
      let is : is_share_lost t past x port (Some r) ≡ false = sym (ap (is_share_lost t past x port) sent) ∙ kept in
      entries-with t x past port (Some r) sent
      ∙ ap (λ b. if b then entries_at t x.side port past else entries_at t x.side port past
      ++ entry_of (carried t) r x ∷ []) is

pub entries-grow : (t : Rows) (side : Side) (port : ℕ) (x : Arrival)
    (past : List Arrival) → IsLawfulSwitch t → EntriesStep t side port x past
entries-grow t side port x past lawful = record {
  other_side = other-kept t side port x past;
  dropped = λ reason is. (let at = named-place t x.bytes lawful in
      entries-kept t x past port (dropped-sent t x past at.0 (output_at t x.side port) reason at.1 is));
  elsewhere = λ r accepted named stays. entries-kept t x past port
      (sent-to t port x past lawful r accepted named ∙ ap (λ b. if b then Some r else None) stays);
  lost = lost-kept t port x past lawful;
  entered = λ r accepted named goes kept. entered-more t port x past lawful r
      (sent-to t port x past lawful r accepted named ∙ ap (λ b. if b then Some r else None) goes) kept;
}

-- the arrival and the row that an entry is of
pub record From (t : Rows) (e : Entry HeldFrame) : Type 0 where
  pub x : Arrival
  pub row : Row
  pub place : ℕ
  pub stands : slice_get (rows_of t) place ≡ Some row
  pub named : names row.rule.vl x.bytes ≡ true
  pub is : e ≡ entry_of (carried t) row x

pub entry-from : (t : Rows) (side : Side) (port : ℕ) (arrivals : List Arrival) (i : ℕ)
    (e : Entry HeldFrame) → slice_get (entries_at t side port arrivals) i ≡ Some e → From t e
unfolding offers_at
entry-from t side port [] i e at = absurd cc
entry-from t side port (x ∷ past) i e at =
    by (find (sends (output_at t side port) past x) (rows_of t)) refl (entry-from t side port past i e)
  where
    last : (r : Row) → find (sends (output_at t side port) past x) (rows_of t) ≡ Some r
        → entry_of (carried t) r x ≡ e → From t e
    last r sent same =
        let found = find-found (sends (output_at t side port) past x) (rows_of t) r sent in
        record {
          x = x;
          row = r;
          place = found.0;
          stands = found.1;
          named = sends-named t x past (output_at t side port) r found.2;
          is = sym same;
        }

    more : (r : Row) (b : Bool) → find (sends (output_at t side port) past x) (rows_of t) ≡ Some r
        → (slice_get (entries_at t side port past) i ≡ Some e → From t e) →
        slice_get (if b then entries_at t side port past else entries_at t side port past
        ++ entry_of (carried t) r x ∷ []) i ≡ Some e → From t e
    more r true sent earlier is = earlier is
    more r false sent earlier is =
        elim (pushed (entries_at t side port past) (entry_of (carried t) r x) i e is)
        [ inl before ↦ earlier before | inr here ↦ last r sent here.1 ]

    by : (o : Option Row) → find (sends (output_at t side port) past x) (rows_of t) ≡ o
        → (slice_get (entries_at t side port past) i ≡ Some e → From t e) → From t e
    by None sent earlier = earlier (sym (ap (λ es. slice_get es i) (side-with t side port x past None sent)) ∙ at)
    by (Some r) sent earlier =
        more r (is_lost (byte_ns_at t port) t.buffer (entries_at t side port past)
        (entry_of (carried t) r x)) sent earlier
        (sym (ap (λ es. slice_get es i) (side-with t side port x past (Some r) sent)) ∙ at)

pub one-class : (t : Rows) (side : Side) (port vl : ℕ) (arrivals : List Arrival)
    → IsLawfulSwitch t
    → AreOfOneClass (is_of vl) (entries_at t side port arrivals)
unfolding carried
one-class t side port vl arrivals lawful = by (link_of t.links vl) (place-of t lawful vl (link_of t.links vl) refl)
  where
    named-vl : (i : ℕ) (e : Entry HeldFrame) (from : From t e) → is_of vl e ≡ true → from.row.rule.vl ≡ vl
    named-vl i e from test =
        one-name from.row.rule.vl vl from.x.bytes from.named
        (sym (ap (λ (d : Entry HeldFrame). is_of vl d) from.is) ∙ test)

    by : (place : Option ℕ) → IsPlaceOf (rows_of t) vl place
        → AreOfOneClass (is_of vl) (entries_at t side port arrivals)
    by None none = (
      Low,
      λ i e at test.
          absurd (let from = entry-from t side port arrivals i e at in
          none from.place from.row from.stands (named-vl i e from test)),
    )
    by (Some place) is = (
      is.row.priority,
      λ i e at test.
          let from = entry-from t side port arrivals i e at in
          let same_place : from.place ≡ place = is.only from.place from.row from.stands (named-vl i e from test) in
          let row_stands = is.stands in
          let from_stands : slice_get (rows_of t) place ≡ Some from.row =
          subst (λ k. slice_get (rows_of t) k ≡ Some from.row) same_place from.stands in
          let same : from.row ≡ is.row = cc in
          ap (λ (d : Entry HeldFrame). d.priority) from.is ∙ ap (λ (r : Row). r.priority) same,
    )

pub taken-turns : TakenAreTurns
taken-turns t side w h zero st low high = absurd (omega (arith, low))
taken-turns t side w h (suc i) st low high =
    let p = slice_get-within w.ports.items i (omega (arith, st.port_count, high)) in
    subst (λ n. AreTurns (byte_ns_at t n) (entries_at t side n h.arrivals) (taken_at n h.taken)) (omega arith)
    (taken_turns facts p.0 (calls_at t side (i + 1) h p.0.clock) (st.ports i p.0 p.1))

pub links-in-order : (t : Rows) (side : Side) (w : SwitchState) (h : SwitchHistory)
    (port vl : ℕ) → IsLawfulSwitch t → StandsFor t side w h → 1 ≤ port → port ≤ 24
    → GoInOrder (is_of vl) (entries_at t side port h.arrivals) (taken_at port h.taken)
links-in-order t side w h port vl lawful st low high =
    go_in_order (byte_ns_at t port) (is_of vl) (entries_at t side port h.arrivals)
    (taken_at port h.taken) (one-class t side port vl h.arrivals lawful)
    (taken-turns t side w h port st low high)

pub other-side-apart : OtherSideIsApart
other-side-apart t side w h x st other = record {
  time = st.time;
  line_count = st.line_count;
  lines = λ i r line at_r at_line. (let is = st.lines i r line at_r at_line in record {
    account = subst (λ xs. StandsForOwn r.rule line.account xs)
        (sym (own-apart r.rule.vl side x h.arrivals other)) is.account;
    priority = is.priority;
    longest_wait = is.longest_wait;
    goes = is.goes;
  });
  places = st.places;
  port_count = st.port_count;
  ports = λ i p at.
      subst (λ es. queue.StandsFor facts p
      (record {
        byte_ns = byte_ns_at t (i + 1);
        buffer = buffer_at t (i + 1);
        entries = es;
        taken = taken_at (i + 1) h.taken;
        time = p.clock;
      }))
      (sym (other-kept t side (i + 1) x h.arrivals other)) (st.ports i p at);
}

in-range : AllByRecursion (λ port. (1 ≤ port) × (port ≤ 24)) numbers
in-range = (
  (omega arith, omega arith),
  (
    (omega arith, omega arith),
    (
      (omega arith, omega arith),
      (
        (omega arith, omega arith),
        (
          (omega arith, omega arith),
          (
            (omega arith, omega arith),
            (
              (omega arith, omega arith),
              (
                (omega arith, omega arith),
                (
                  (omega arith, omega arith),
                  (
                    (omega arith, omega arith),
                    (
                      (omega arith, omega arith),
                      (
                        (omega arith, omega arith),
                        (
                          (omega arith, omega arith),
                          (
                            (omega arith, omega arith),
                            (
                              (omega arith, omega arith),
                              (
                                (omega arith, omega arith),
                                (
                                  (omega arith, omega arith),
                                  (
                                    (omega arith, omega arith),
                                    (
                                      (omega arith, omega arith),
                                      (
                                        (omega arith, omega arith),
                                        (
                                          (omega arith, omega arith),
                                          (
                                            (omega arith, omega arith),
                                            (
                                              (omega arith, omega arith),
                                              ((omega arith, omega arith), tt),
                                            ),
                                          ),
                                        ),
                                      ),
                                    ),
                                  ),
                                ),
                              ),
                            ),
                          ),
                        ),
                      ),
                    ),
                  ),
                ),
              ),
            ),
          ),
        ),
      ),
    ),
  ),
)

filter-same : (f g : ℕ → Bool) (xs : List ℕ) → AllByRecursion (λ port. (1 ≤ port) × (port ≤ 24)) xs
    → ((port : ℕ) → 1 ≤ port → port ≤ 24 → f port ≡ g port) → filter f xs ≡ filter g xs
filter-same f g [] all same = refl
filter-same f g (port ∷ xs) all same =
    let rest = filter-same f g xs all.1 same in
    rw (same port all.0.0 all.0.1) (ap (λ ys. if g port then port ∷ ys else ys) rest)

pub lost-listed : LostPortsAreListed
unfolding lost_ports
lost-listed t past x lost is = filter-same (holds lost) (is_lost_at t past x) numbers in-range is.1
