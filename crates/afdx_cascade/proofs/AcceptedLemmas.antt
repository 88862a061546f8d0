-- What a switch accepts of the frames that pass a test, and what its ports hold of it.
use Rattle.std.proofs.Common.{nat_lt, ◌≡◌, ℕ, ◌≤◌, ◌==◌, ◌&&◌, Bool, true, false, not, List, [], ◌∷◌, ◌++◌}
use Rattle.std.proofs.Common.{refl, sym, ap, ◌∙◌, subst, arith, inl, inr}
use Rattle.std.specs.Prelude.{if◌then◌else◌, is_none, Option, Some, None, find}
use Rattle.std.specs.Option.{option_map_or, option_or}
use Rattle.std.specs.List.{AllByRecursion}
use Rattle.std.proofs.lemmas.Bool.{cases_Bool, and_parts, eqb-true, eq-eqb}
use Rattle.afdx_frame.specs.Layout.{link_named_by}
use Rattle.afdx_frame.specs.declared.link.Side.{Side}
use Rattle.afdx_frame.specs.declared.link.VlId.{VlId}
use Rattle.afdx_config.specs.Lawful.{IsLawfulSwitch}
use Rattle.afdx_config.specs.Rows.{Rows}
use Rattle.afdx_police.specs.Arrival.{Arrival, is_side, names}
use Rattle.afdx_police.specs.Shape.{fault_of}
use Rattle.afdx_police.specs.Verdicts.{reason_after, verdict_in}
use Rattle.afdx_police.specs.declared.shape.Reason.{Reason}
use Rattle.afdx_police.proofs.ShapeLemmas.{faultless-is-sound}
use Rattle.afdx_port.specs.Schedule.{Entry, Turn, AreTurns}
use Rattle.afdx_law_bounds.specs.Outputs.{Row, entry_of, offers_at}
use Rattle.afdx_switch.specs.Admitted.{slots}
use Rattle.afdx_switch.specs.HeldFrames.{HeldFrame}
use Rattle.afdx_switch.specs.Switching.{taken_at}
use Rattle.afdx_switch.specs.Tables.{rows_of, row_named, carried, entries_at}
use Rattle.afdx_switch.specs.Verdicts.{reason_on, reason_of, is_lost_at}
use Rattle.afdx_switch.proofs.ArrivalLemmas.{same-side, unknown-fault}
use Rattle.afdx_switch.proofs.LawLemmas.{entries-grow}
use Rattle.afdx_network.proofs.EventLemmas.{sides}
use Rattle.afdx_law_promises.specs.Sent.{arrivals_at}
use Rattle.afdx_cascade.specs.Cables.{brought, brought_by}
use Rattle.afdx_cascade.specs.SwitchEvents.{FrameTest}
use Rattle.afdx_cascade.specs.SwitchEvents.{accepted_by, count_if, in_clock, passes}
use Rattle.afdx_cascade.proofs.CountLemmas.{one_if, count-more, count-append, count-filter, count-map, count-implied, turns-and-rest}

-- ---- what a switch accepts

none-first : (o r : Option Reason) → option_or o r ≡ None → o ≡ None
none-first None r h = refl
none-first (Some x) r h = absurd (cc h)

-- the row by which an arrival was accepted, at whose port it came
pub record IsTakenIn (t : Rows) (x : Arrival) : Type 0 where
  pub row : Row
  pub named : row_named t x.bytes ≡ Some row
  pub port : row.rule.port ≡ x.port
  pub names_it : names row.rule.vl x.bytes ≡ true

reason-by : (t : Rows) (past : List Arrival) (x : Arrival)
    → reason_of t past x ≡ reason_on past x (row_named t x.bytes)
unfolding reason_of
reason-by t past x = refl

fault-none : (r : Row) (past : List Arrival) (x : Arrival) → verdict_in r.rule past x ≡ None
    → fault_of (Some r.rule) x.port x.bytes ≡ None
unfolding reason_after
fault-none r past x h = none-first (fault_of (Some r.rule) x.port x.bytes) _ h

pub taken-in : (t : Rows) (past : List Arrival) (x : Arrival) → reason_of t past x ≡ None
    → IsTakenIn t x
taken-in t past x accepted = by (row_named t x.bytes) refl (sym (reason-by t past x) ∙ accepted)
  where
    by : (o : Option Row) → row_named t x.bytes ≡ o → reason_on past x o ≡ None → IsTakenIn t x
    by None named is = absurd (let fault = unknown-fault x.port x.bytes in let some = fault.1 in cc)
    by (Some r) named is =
        let sound = (faultless-is-sound r.rule x.port x.bytes).0 (fault-none r past x is) in
        record { row = r; named = named; port = sound.at_port; names_it = sound.named }

-- frames that name one link name the same links
alike-in : (o p : Option VlId) (v w : ℕ) → option_map_or (λ vl. vl.0 == v) o false ≡ true
    → option_map_or (λ vl. vl.0 == v) p false ≡ true →
    option_map_or (λ vl. vl.0 == w) o false ≡ option_map_or (λ vl. vl.0 == w) p false
alike-in None p v w h k = absurd (cc h)
alike-in (Some a) None v w h k = absurd (cc k)
alike-in (Some a) (Some b) v w h k =
    ap (λ (n : ℕ). n == w) (eqb-true a.0 v h ∙ sym (eqb-true b.0 v k))

pub alike : (v w : ℕ) (b d : List ℕ) → names v b ≡ true → names v d ≡ true → names w b ≡ names w d
unfolding names
alike v w b d h k = alike-in (link_named_by b) (link_named_by d) v w h k

find-alike : {R : Type 0} (p q : R → Bool) (rs : List R) → ((r : R) → p r ≡ q r)
    → find p rs ≡ find q rs
find-alike p q [] same = refl
find-alike p q (r ∷ rs) same =
    rw (same r) (ap (λ o. if q r then Some r else o) (find-alike p q rs same))

row-alike : (t : Rows) (v : ℕ) (b d : List ℕ) → names v b ≡ true → names v d ≡ true
    → row_named t b ≡ row_named t d
unfolding row_named
row-alike t v b d h k =
    find-alike (λ (r : Row). names r.rule.vl b) (λ (r : Row). names r.rule.vl d) (rows_of t)
    (λ r. alike v r.rule.vl b d h k)

-- so what is accepted of a link comes at one port
one-port : (t : Rows) (v : ℕ) (x y : Arrival) → IsTakenIn t x → IsTakenIn t y
    → names v x.bytes ≡ true → names v y.bytes ≡ true → x.port ≡ y.port
one-port t v x y at-x at-y h k =
    let named-x = at-x.named in
    let named-y = at-y.named in
    let same = row-alike t v x.bytes y.bytes h k in
    let rows : at-x.row ≡ at-y.row = cc in
    sym at-x.port ∙ ap (λ (r : Row). r.rule.port) rows ∙ at-y.port

-- a test of frames that implies the name of a link
abbrev pub IsOfLink : ℕ → FrameTest → Type 0
IsOfLink v test = (tag : ℕ) (bytes : List ℕ) → test tag bytes ≡ true → names v bytes ≡ true

pub meant-parts : (side : Side) (test : FrameTest) (x : Arrival) → passes side test x ≡ true
    → (is_side side x.side ≡ true) × (test x.tag x.bytes ≡ true)
meant-parts side test x h = and_parts (is_side side x.side) (test x.tag x.bytes) h

module _ (t : Rows) (side : Side) (v : ℕ) (test : FrameTest) (of-link : IsOfLink v test) where
  abbrev pub meant : Arrival → Bool
  meant = passes side test

  pub all-at-port : (x : Arrival) (past : List Arrival) → IsTakenIn t x → names v x.bytes ≡ true
      → AllByRecursion (λ y. meant y ≡ true → x.port ≡ y.port) (accepted_by t past)
  all-at-port x [] at-x named = tt
  all-at-port x (y ∷ past) at-x named = by (reason_of t past y) refl (all-at-port x past at-x named)
    where
      by : (o : Option Reason) → reason_of t past y ≡ o
          → AllByRecursion (λ z. meant z ≡ true → x.port ≡ z.port) (accepted_by t past)
          → AllByRecursion (λ z. meant z ≡ true → x.port ≡ z.port)
          (if is_none o then y ∷ accepted_by t past else accepted_by t past)
      by (Some r) is rest = rest
      by None is rest = (
        λ h. one-port t v x y at-x (taken-in t past y is) named
            (of-link y.tag y.bytes (meant-parts side test y h).1),
        rest,
      )

  abbrev AreAt : ℕ → List Arrival → Type 0
  AreAt port ys = AllByRecursion (λ y. meant y ≡ true → port ≡ y.port) ys

  pub at-port-count : (port : ℕ) (past : List Arrival) → AreAt port (accepted_by t past)
      → count_if meant (accepted_by t past) ≤ count_if meant (arrivals_at side port past)
  at-port-count port [] all = omega arith
  at-port-count port (y ∷ past) all =
      by (is_none (reason_of t past y)) (is_side side y.side && (port == y.port)) refl all
      (at-port-count port past)
    where
      must : meant y ≡ true → port ≡ y.port → (is_side side y.side && (port == y.port)) ≡ true
      must h is = rw ((meant-parts side test y h).0, eq-eqb port y.port is) refl

      by : (b f : Bool) → (is_side side y.side && (port == y.port)) ≡ f
          → AreAt port (if b then y ∷ accepted_by t past else accepted_by t past)
          → (AreAt port (accepted_by t past)
          → count_if meant (accepted_by t past) ≤ count_if meant (arrivals_at side port past)) →
          count_if meant (if b then y ∷ accepted_by t past else accepted_by t past)
          ≤ count_if meant (if f then y ∷ arrivals_at side port past
          else arrivals_at side port past)
      by false false is part rest = rest part
      by false true is part rest =
          let less = rest part in
          let more = count-more meant y (arrivals_at side port past) in omega (arith, less, more)
      by true true is part rest =
          let less = rest part.1 in
          let left = count-more meant y (accepted_by t past) in
          let right = count-more meant y (arrivals_at side port past) in
          omega (arith, less, left, right)
      by true false is part rest = elim (cases_Bool (meant y)) [
        | inl h ↦ absurd (let yes_there = must h (part.0 h) in cc)
        | inr h ↦ rw h (rest part.1)
      ]

-- ---- what its ports hold

abbrev pub entry_meant : FrameTest → Entry HeldFrame → Bool
entry_meant test e = test e.item.tag e.item.bytes

entry-is : (t : Rows) (test : FrameTest) (r : Row) (x : Arrival)
    → entry_meant test (entry_of (carried t) r x) ≡ test x.tag x.bytes
unfolding carried
entry-is t test r x = refl

abbrev Few : FrameTest → Arrival → List Arrival → List (Entry HeldFrame) → Type 0
Few test x accepted es = count_if (entry_meant test) es
    ≤ count_if (passes x.side test) (x ∷ accepted)

pub no-taken : (port : ℕ) → taken_at port [] ≡ []
unfolding taken_at
no-taken port = refl

pub no-entries : (t : Rows) (side : Side) (port : ℕ) → entries_at t side port [] ≡ []
unfolding offers_at
no-entries t side port = refl

pub entries-few : (t : Rows) (side : Side) (port : ℕ) (test : FrameTest) (arrivals : List Arrival)
    → IsLawfulSwitch t
    → count_if (entry_meant test) (entries_at t side port arrivals)
    ≤ count_if (passes side test) (accepted_by t arrivals)
entries-few t side port test [] lawful =
    subst (λ es. count_if (entry_meant test) es ≤ 0) (sym (no-entries t side port)) (omega arith)
entries-few t side port test (x ∷ past) lawful =
    elim (sides side x.side) [
      | inr apart ↦ off (is_none (reason_of t past x)) apart.0
          (entries-few t side port test past lawful)
      | inl same ↦ subst (λ s. count_if (entry_meant test) (entries_at t s port (x ∷ past))
          ≤ count_if (passes s test) (accepted_by t (x ∷ past))) (sym same)
          (here (reason_of t past x) refl (entries-few t x.side port test past lawful))
    ]
  where
    off : (b : Bool) → is_side side x.side ≡ false
        → count_if (entry_meant test) (entries_at t side port past)
        ≤ count_if (passes side test) (accepted_by t past)
        → count_if (entry_meant test) (entries_at t side port (x ∷ past))
        ≤ count_if (passes side test) (if b then x ∷ accepted_by t past else accepted_by t past)
    off false apart rest =
        rw ((entries-grow t side port x past lawful).other_side apart) rest
    off true apart rest =
        let more = count-more (passes side test) x (accepted_by t past) in
        rw ((entries-grow t side port x past lawful).other_side apart) (omega (arith, rest, more))

    same-few : entries_at t x.side port (x ∷ past) ≡ entries_at t x.side port past
        → count_if (entry_meant test) (entries_at t x.side port past)
        ≤ count_if (passes x.side test) (accepted_by t past)
        → Few test x (accepted_by t past) (entries_at t x.side port (x ∷ past))
    same-few is rest =
        let more = count-more (passes x.side test) x (accepted_by t past) in
        subst (Few test x (accepted_by t past)) (sym is) (omega (arith, rest, more))

    goes-in : (r : Row) → entries_at t x.side port (x ∷ past)
        ≡ entries_at t x.side port past ++ entry_of (carried t) r x ∷ []
        → count_if (entry_meant test) (entries_at t x.side port past)
        ≤ count_if (passes x.side test) (accepted_by t past)
        → Few test x (accepted_by t past) (entries_at t x.side port (x ∷ past))
    goes-in r is rest =
        let parts = count-append (entry_meant test) (entries_at t x.side port past)
        (entry_of (carried t) r x ∷ []) in
        let one = count-more (entry_meant test) (entry_of (carried t) r x) [] in
        let more = count-more (passes x.side test) x (accepted_by t past) in
        let same : one_if (entry_meant test (entry_of (carried t) r x))
        ≡ one_if (passes x.side test x) =
        rw (same-side x.side) (ap one_if (entry-is t test r x)) in
        subst (Few test x (accepted_by t past)) (sym is)
        (omega (arith, rest, parts, one, more, same))

    here : (o : Option Reason) → reason_of t past x ≡ o
        → count_if (entry_meant test) (entries_at t x.side port past)
        ≤ count_if (passes x.side test) (accepted_by t past)
        → count_if (entry_meant test) (entries_at t x.side port (x ∷ past))
        ≤ count_if (passes x.side test) (if is_none o then x ∷ accepted_by t past
        else accepted_by t past)
    here (Some reason) is rest =
        rw ((entries-grow t x.side port x past lawful).dropped reason is) rest
    here None is rest =
        let step = entries-grow t x.side port x past lawful in
        let in-row = taken-in t past x is in
        elim (cases_Bool (is_lost_at t past x port)) [
          | inl lost ↦ same-few (step.lost lost) rest
          | inr kept ↦ elim (cases_Bool (in-row.row.goes_to port)) [
            | inl goes ↦ goes-in in-row.row (step.entered in-row.row is in-row.named goes kept) rest
            | inr stays ↦ same-few (step.elsewhere in-row.row is in-row.named stays) rest
          ]
        ]

-- of what left a port at most as many pass a test as of what entered it
pub left-few : (byte_ns : ℕ) (entries : List (Entry HeldFrame)) (turns : List (Turn HeldFrame))
    (side : Side) (port : ℕ)
    (test : FrameTest) → AreTurns byte_ns entries turns →
    count_if (passes side test) (brought_by side port (in_clock turns))
    ≤ count_if (entry_meant test) entries
left-few byte_ns entries turns side port test are =
    let as-turns = count-map (passes side test) (brought side port) (slots (in_clock turns)) in
    let fewer = count-filter (λ s. passes side test (brought side port s)) (λ s. not s.too_old)
    (in_clock turns) in
    let cut = count-filter (λ s. passes side test (brought side port s))
    (λ s. not (nat_lt 1000032768000000 s.end)) turns in
    let same = count-implied (λ s. passes side test (brought side port s))
    (λ s. entry_meant test s.entry) turns
    (all turns) in
    let all-entries = turns-and-rest (entry_meant test) byte_ns entries turns are in
    omega (arith, as-turns, fewer, cut, same, all-entries)
  where
    all : (ss : List (Turn HeldFrame))
        → AllByRecursion (λ s. passes side test (brought side port s) ≡ true
        → entry_meant test s.entry ≡ true) ss
    all [] = tt
    all (s ∷ ss) = (λ h. (meant-parts side test (brought side port s) h).1, all ss)
