-- What cables bring in an admitted cascade is of links that go there, and is accepted.
use Rattle.std.proofs.Common.{◌≡◌, ℕ, suc, ◌≤◌, ◌==◌, Bool, true, false, ◌&&◌, ◌||◌, not, List, [], ◌∷◌, ◌++◌}
use Rattle.std.proofs.Common.{map, refl, sym, ap, ◌∙◌, subst, arith, Some, None, slice_get, nat_eq, nat_le}
use Rattle.std.proofs.Common.{option_and_then}
use Rattle.std.specs.Prelude.{if◌then◌else◌, Contains}
use Rattle.std.specs.List.{list_any}
use Rattle.std.specs.Option.{option_map_or}
use Rattle.std.proofs.lemmas.Bool.{eqb-true, eq-eqb, leb-true}
use Rattle.std.proofs.lemmas.List.Elements.{filter-append}
use Rattle.std.proofs.lemmas.Option.{same_Some}
use Rattle.afdx_frame.specs.declared.link.Side.{Side}
use Rattle.afdx_switch.proofs.ArrivalLemmas.{same-side}
use Rattle.afdx_config.specs.declared.switches.FarEnd.{FarEnd}
use Rattle.afdx_config.specs.Reading.{system_at_port, system_named}
use Rattle.afdx_config.specs.Rows.{LinkRow, Rows, is_to}
use Rattle.afdx_config.specs.Switches.{NamedRows, far_end, if_neighbour, neighbour_named}
use Rattle.afdx_admit.specs.Cascade.{row_at, row_of, comes_from, is_neighbour, reads_at}
use Rattle.afdx_police.specs.Arrival.{Arrival, is_side, names}
use Rattle.afdx_port.specs.Schedule.{Entry, Turn, AreTurns}
use Rattle.afdx_switch.specs.Admitted.{slots}
use Rattle.afdx_switch.specs.HeldFrames.{HeldFrame}
use Rattle.afdx_switch.specs.Tables.{rule_of, goes_to, byte_ns_at, entries_at}
use Rattle.afdx_switch.proofs.AdmittedLemmas.{turn-in-time}
use Rattle.afdx_law_promises.specs.Sent.{arrivals_at}
use Rattle.afdx_cascade.specs.Admitted.{IsRow, IsAdmittedCascade, CablesAreRead, hop_at}
use Rattle.afdx_cascade.specs.Cables.{brought, brought_by}
use Rattle.afdx_cascade.specs.Plans.{plan_of, tables_of}
use Rattle.afdx_cascade.specs.SwitchEvents.{End, SwitchEvent, came_to, end_at, in_clock, turns_of}
use Rattle.afdx_cascade.proofs.AgainLemmas.{clock-cut, first-turns}
use Rattle.afdx_cascade.proofs.CableLemmas.{again}
use Rattle.afdx_cascade.proofs.FedLemmas.{before-row, mapped-or, row-here, row-of, tables-at}
use Rattle.afdx_cascade.proofs.PlanLemmas.{IsCable, cable, ends-there, switches-plan}
use Rattle.afdx_cascade.proofs.WayHopLemmas.{hop-goes-on, hop-is, keeps-now, rule-port, run-at}
use Rattle.afdx_cascade.proofs.OnceLemmas.{turns-there}
use Rattle.afdx_cascade.proofs.WholeLemmas.{entry-goes}

-- ---- the turn that a frame left by

record IsBroughtBy (side : Side) (port byte_ns : ℕ) (entries : List (Entry HeldFrame)) (x : Arrival) : Type 0 where
  s : Turn HeldFrame
  earlier : List (Turn HeldFrame)
  are : AreTurns byte_ns entries (s ∷ earlier)
  is : brought side port s ≡ x

brought-is : (side : Side) (port byte_ns : ℕ) (entries : List (Entry HeldFrame)) (turns : List (Turn HeldFrame))
    → AreTurns byte_ns entries turns → (before : List Arrival) (x : Arrival) (after : List Arrival)
    → brought_by side port turns ≡ before ++ x ∷ after → IsBroughtBy side port byte_ns entries x
brought-is side port byte_ns entries [] are [] x after h = absurd (cc h)
brought-is side port byte_ns entries [] are (y ∷ before) x after h = absurd (cc h)
brought-is side port byte_ns entries (s ∷ earlier) are before x after h =
    by s.too_old before h (λ ys e. brought-is side port byte_ns entries earlier are.1 ys x after e)
  where
    by : (b : Bool) (ys : List Arrival)
        → map (brought side port) (if not b then s ∷ slots earlier else slots earlier) ≡ ys ++ x ∷ after
        → ((zs : List Arrival) → brought_by side port earlier ≡ zs ++ x ∷ after
        → IsBroughtBy side port byte_ns entries x)
        → IsBroughtBy side port byte_ns entries x
    by true ys e later = later ys e
    by false [] e later = record { s = s; earlier = earlier; are = are; is = cc e }
    by false (y ∷ ys) e later = later ys (cc e)

append-more : (xs ys zs : List Arrival) → xs ++ (ys ++ zs) ≡ (xs ++ ys) ++ zs
append-more [] ys zs = refl
append-more (x ∷ xs) ys zs = ap (λ ws. x ∷ ws) (append-more xs ys zs)

-- one of the arrivals at its port
at-its-port : (later past : List Arrival) (x : Arrival)
    → arrivals_at x.side x.port (later ++ x ∷ past)
    ≡ arrivals_at x.side x.port later ++ x ∷ arrivals_at x.side x.port past
at-its-port later past x =
    filter-append (λ y. is_side x.side y.side && (x.port == y.port)) later (x ∷ past)
    ∙ ap (λ b. arrivals_at x.side x.port later ++ (if b then x ∷ arrivals_at x.side x.port past
    else arrivals_at x.side x.port past)) here
  where
    here : (is_side x.side x.side && (x.port == x.port)) ≡ true
    here = ap (λ b. b && (x.port == x.port)) (same-side x.side) ∙ eq-eqb x.port x.port refl

-- ---- the neighbour that reads a link

contains-of : (to : List ℕ) (place : ℕ) → list_any (λ p. nat_eq p place) to ≡ true → Contains to place
contains-of [] place h = absurd (cc h)
contains-of (p ∷ to) place h = by (nat_eq p place) refl h (contains-of to place)
  where
    by : (b : Bool) → nat_eq p place ≡ b → b || list_any (λ q. nat_eq q place) to ≡ true
        → (list_any (λ q. nat_eq q place) to ≡ true → Contains to place) → Contains (p ∷ to) place
    by true is some later = (0, omega arith, eqb-true p place is)
    by false is some later = let rest = later some in (suc rest.0, (let lt = rest.1 in omega (arith, lt)), rest.2)

goes-to : (t : Rows) (l : LinkRow) (port place : ℕ) → system_at_port t.systems port ≡ Some place
    → goes_to t l port ≡ true → is_to place l ≡ true
unfolding goes_to
goes-to t l port place at goes = sym (ap (λ o. option_map_or (λ system. is_to system l) o false) at) ∙ goes

named-place : (t : Rows) (name : List ℕ) (i : ℕ) → system_named t.systems name ≡ Some i → if_neighbour t i ≡ Some i
    → neighbour_named t name ≡ Some i
unfolding neighbour_named
named-place t name i found beside = ap (option_and_then (if_neighbour t)) found ∙ beside

beside-own : (t : Rows) (i : ℕ) → if_neighbour t i ≡ Some i → t.own ≤ i
beside-own t i h = by (nat_le t.own i) refl h
  where
    by : (b : Bool) → nat_le t.own i ≡ b → (if b then Some i else None) ≡ Some i → t.own ≤ i
    by true is some = leb-true t.own i is
    by false is some = absurd (cc some)

module _ (ss : List NamedRows) (so_far : List SwitchEvent) (all : IsAdmittedCascade ss so_far) where
  -- the row that comes from the cable at a port, of a link that goes to its other end
  record IsReader (k port vl : ℕ) : Type 0 where
    link : LinkRow
    row : IsRow ss (row_at k link)
    there : NamedRows
    there_is : slice_get ss k ≡ Some there
    vl_is : link.vl ≡ vl
    past : there.rows.own ≤ link.from
    port_is : (rule_of (tables_of ss k) link).port ≡ port

  reader-named : (k port vl : ℕ) (bytes : List ℕ) (reader : IsReader k port vl) → names vl bytes ≡ true
      → names reader.link.vl bytes ≡ true
  reader-named k port vl bytes reader h = ap (λ n. names n bytes) reader.vl_is ∙ h

  -- a link that goes to the port of a cable is read at the cable's other end
  reader-at : (j from k port : ℕ) (f : FarEnd) → (c : IsCable ss j from f) → f.switch.0 ≡ k → f.port ≡ port
      → (place : ℕ) (l : LinkRow) → slice_get (tables_of ss j).links place ≡ Some l
      → goes_to (tables_of ss j) l from ≡ true → IsReader k port l.vl
  reader-at j from k port f c switch port_is place l stands goes =
      let here = c.here.rows in
      let there = c.there.rows in
      let same = tables-at ss j c.here c.here_is in
      let to = goes-to here l from c.listed.i c.listed.is (sym (ap (λ t. goes_to t l from) same) ∙ goes) in
      let read = all.admitted.readers j c.here c.here_is place l
      (sym (ap (λ (t : Rows). slice_get t.links place) same) ∙ stands) c.listed.i
      (contains-of l.to c.listed.i to) (beside-own here c.listed.i c.listed.beside) in
      let at : reads_at ss c.here.name l.vl c.one ≡ true =
      sym (ap (λ o. option_map_or (reads_at ss c.here.name l.vl) o false) c.listed.stands) ∙ read in
      let found : comes_from there c.here.name l.vl ≡ true =
      sym (ap (λ o. option_map_or (λ (s : NamedRows). comes_from s.rows c.here.name l.vl)
      (option_and_then (slice_get ss) o) false) c.named
      ∙ ap (λ o. option_map_or (λ (s : NamedRows). comes_from s.rows c.here.name l.vl) o false) c.there_is) ∙ at in
      let row = mapped-or (λ (r : LinkRow). is_neighbour there c.here.name r.from) (row_of there l.vl) found in
      let of_link = row-of there l.vl row.0 row.1 in
      let back = mapped-or (λ i. nat_eq i row.0.from) (neighbour_named there c.here.name) row.2 in
      let back_is : back.0 ≡ c.lists.i = same_Some back.0 c.lists.i
      (sym back.1 ∙ named-place there c.here.name c.lists.i c.lists.is c.lists.beside) in
      let from_is : c.lists.i ≡ row.0.from = sym back_is ∙ eqb-true back.0 row.0.from back.2 in
      let k_is : c.j ≡ k = ap (λ (g : FarEnd). g.switch.0) c.is ∙ switch in
      let there_is : slice_get ss k ≡ Some c.there = ap (slice_get ss) (sym k_is) ∙ c.there_is in
      record {
        link = row.0;
        row = record {
          place = of_link.place;
          stands = ap (option_and_then (λ (s : NamedRows). slice_get s.rows.links of_link.place)) there_is
              ∙ of_link.stands;
        };
        there = c.there;
        there_is = there_is;
        vl_is = of_link.vl_is;
        past = subst (λ i. there.own ≤ i) from_is (beside-own there c.lists.i c.lists.beside);
        port_is = ap (λ t. (rule_of t row.0).port) (tables-at ss k c.there there_is)
            ∙ rule-port there row.0 c.back (ap (slice_get there.systems) (sym from_is) ∙ c.lists.stands)
            ∙ ap (λ (g : FarEnd). g.port) c.is ∙ port_is;
      }

  -- the turn by which a frame left that a cable brought
  left-by : (k : ℕ) (later past : List Arrival) (x : Arrival) (other : End)
      → came_to k so_far ≡ later ++ x ∷ past → (plan_of ss).far_end k x.port ≡ Some other
      → IsBroughtBy x.side x.port (byte_ns_at (tables_of ss other.switch) other.port)
      (entries_at (tables_of ss other.switch) x.side other.port (came_to other.switch so_far)) x
  left-by k later past x other came joined =
      let j = other.switch in
      let byte_ns = byte_ns_at (tables_of ss j) other.port in
      let entries = entries_at (tables_of ss j) x.side other.port (came_to j so_far) in
      let turns = turns_of j x.side other.port so_far in
      let ends = (switches-plan ss all.are).0.ports k x.port other joined in
      let are = turns-there (plan_of ss) so_far j other.port x.side all.rules ends.0 ends.1 in
      let clock = clock-cut byte_ns entries turns are in
      let carries = (keeps-now (plan_of ss) so_far all.rules).cables k x.port x.side other joined in
      brought-is x.side x.port byte_ns entries (in_clock turns)
      (first-turns byte_ns entries clock.0 (in_clock turns) (subst (AreTurns byte_ns entries) clock.1 are))
      (carries.waiting ++ arrivals_at x.side x.port later) x (arrivals_at x.side x.port past)
      (carries.brings ∙ ap (λ xs. carries.waiting ++ arrivals_at x.side x.port xs) came
      ∙ ap (λ xs. carries.waiting ++ xs) (at-its-port later past x)
      ∙ append-more carries.waiting (arrivals_at x.side x.port later) (x ∷ arrivals_at x.side x.port past))

  record IsReadAt (k : ℕ) (x : Arrival) : Type 0 where
    reader_vl : ℕ
    reader : IsReader k x.port reader_vl
    named : names reader.link.vl x.bytes ≡ true

  read-at : (k : ℕ) (later past : List Arrival) (x : Arrival) (other : End)
      → came_to k so_far ≡ later ++ x ∷ past → (plan_of ss).far_end k x.port ≡ Some other → IsReadAt k x
  read-at k later past x other came joined =
      let j = other.switch in
      let ends = (switches-plan ss all.are).0.ports k x.port other joined in
      let far = ends-there (far_end ss j other.port) (end_at k x.port) ends.2 in
      let c = cable ss j other.port far.0 far.1 in
      let run = run-at ss so_far j c.here all c.here_is in
      let left = left-by k later past x other came joined in
      let it = turn-in-time (tables_of ss j) (came_to j so_far) x.side other.port left.s left.earlier run left.are in
      let goes = entry-goes (tables_of ss j) (came_to j so_far) x.side other.port it.place left.s.place it.link
      left.s.entry run it.stands left.are.0.own.stands it.named in
      let reader = reader-at j other.port k x.port far.0 c (ap (λ (e : End). e.switch) far.2)
      (ap (λ (e : End). e.port) far.2) it.place it.link it.stands goes in
      record {
        reader_vl = it.link.vl;
        reader = reader;
        named = reader-named k x.port it.link.vl x.bytes reader
            (ap (λ (y : Arrival). names it.link.vl y.bytes) (sym left.is) ∙ it.named);
      }

pub cables-read : CablesAreRead
cables-read ss so_far k later past x other all came joined =
    let it = read-at ss so_far all k later past x other came joined in
    let r = row_at k it.reader.link in
    let hop = all.admitted.hops k it.reader.there it.reader.there_is it.reader.row.place it.reader.link
    (row-here ss r it.reader.there it.reader.row it.reader.there_is) it.reader.past in
    let b = hop.before in (
      record { link = it.reader.link; row = it.reader.row; named = it.named; port = it.reader.port_is },
      (again x.side (hop_at ss so_far b) (hop_at ss so_far r) (hop-is ss so_far b all (before-row ss r b hop.stands))
          (hop-is ss so_far r all it.reader.row)
          (hop-goes-on ss so_far x.side r b all it.reader.row hop.stands)).none_dropped later past x came refl
          it.reader.port_is it.named,
    )
