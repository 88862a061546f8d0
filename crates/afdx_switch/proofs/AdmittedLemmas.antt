-- What admitted tables promise of a switch.
use Rattle.std.proofs.Common.{◌≡◌, ℕ, zero, suc, ◌+◌, ◌*◌, ◌≤◌, ◌==◌, ◌&&◌, Bool, true, false, List}
use Rattle.std.proofs.Common.{[], ◌∷◌, ◌++◌, map, refl, sym, ap, ◌∙◌, subst, arith, inl, inr}
use Rattle.std.proofs.Common.{get_or}
use Rattle.std.specs.Prelude.{Result, Ok, Err, IfOk, IfSome, IfNone, Option, Some, None, filter, find, option_map}
use Rattle.std.specs.Prelude.{slice_get, slice_index_or, reverse, if◌then◌else◌, ◌⊎◌}
use Rattle.std.specs.Option.{option_map_or}
use Rattle.std.proofs.lemmas.Bool.{eqb-true, and_parts}
use Rattle.std.proofs.lemmas.List.{map-append, reverse-append}
use Rattle.std.proofs.lemmas.List.Elements.{filter-append}
use Rattle.std.proofs.lemmas.List.Quantifiers.{position-Some}
use Rattle.std.proofs.lemmas.Option.{slice_get-get_or, slice_get-map}
use Rattle.afdx_frame.specs.Layout.{link_named_by}
use Rattle.afdx_frame.specs.declared.link.Side.{Side}
use Rattle.afdx_frame.specs.declared.link.VlId.{VlId}
use Rattle.afdx_frame.proofs.SideLemmas.{is_side-same}
use Rattle.afdx_config.specs.Lawful.{IsLawfulSwitch, AreDistinct}
use Rattle.afdx_config.specs.Reading.{system_at_port}
use Rattle.afdx_config.specs.Rows.{SystemRow, LinkRow, Rows, is_to}
use Rattle.afdx_police.specs.Account.{overdrawn}
use Rattle.afdx_police.specs.Arrival.{Arrival, is_side, names, own}
use Rattle.afdx_police.specs.Laws.{EachAccountMoves}
use Rattle.afdx_police.specs.Shape.{fault_of}
use Rattle.afdx_police.specs.Verdicts.{accepted_arrivals, reason_after}
use Rattle.afdx_police.specs.declared.shape.Reason.{Reason}
use Rattle.afdx_police.proofs.AccountLemmas.{fits-room, missing-accept, missing-later}
use Rattle.afdx_police.proofs.VerdictLemmas.{accepted_own-offers}
use Rattle.afdx_port.specs.Due.{IsAfter}
use Rattle.afdx_port.specs.History.{due_at}
use Rattle.afdx_port.specs.Schedule.{Entry, Turn, IsNext, AreTurns}
use Rattle.afdx_port.proofs.TurnLemmas.{eqb-same}
use Rattle.afdx_law_bounds.specs.Offered.{is_lost}
use Rattle.afdx_law_bounds.specs.Outputs.{Row, sends, accepts, entry_of, offers_at, link_in, charge_in}
use Rattle.afdx_law_bounds.specs.TableLaws.{IsOutputOf}
use Rattle.afdx_law_bounds.proofs.BoundLemmas.{turn_at}
use Rattle.afdx_law_bounds.proofs.CarryLemmas.{bytes-carry}
use Rattle.afdx_law_bounds.proofs.ListLemmas.{all_get}
use Rattle.afdx_law_bounds.proofs.OutputLemmas.{arrival-kept}
use Rattle.afdx_law_bounds.proofs.TableLemmas.{output-served, rows-are}
use Rattle.afdx_law_bounds.proofs.TableLawLemmas.{contains-row, has-slot, slot-has-come}
use Rattle.afdx_law_bounds.proofs.VerdictLemmas.{one-name}
use Rattle.afdx_switch.specs.Admitted.{IsAdmittedRun, Passing, passing, passing_in}
use Rattle.afdx_switch.specs.Admitted.{accepted_on, accepted_frames}
use Rattle.afdx_switch.specs.Admitted.{frames_among, AcceptedIsKept, LosesNothing, AcceptedEnter}
use Rattle.afdx_switch.specs.Admitted.{AreInTime, TurnsAreInTime, HaveLeft, AllHaveLeft, IsInTime}
use Rattle.afdx_switch.specs.HeldFrames.{HeldFrame}
use Rattle.afdx_switch.specs.Laws.{is_of, EntriesStep}
use Rattle.afdx_switch.specs.Ports.{holds}
use Rattle.afdx_switch.specs.Switching.{PortTurn, SwitchHistory, StandsFor, IsNextAt, Gives, with_take, taken_at}
use Rattle.afdx_switch.specs.declared.switch.Departure.{Departure}
use Rattle.afdx_switch.specs.declared.switch_state.SwitchState.{SwitchState}
use Rattle.afdx_switch.specs.Tables.{rule_of, goes_to, row_of, rows_of, byte_ns_at, output_at}
use Rattle.afdx_switch.specs.Tables.{row_named, carried, entries_at}
use Rattle.afdx_switch.specs.Verdicts.{reason_on, reason_of, is_share_lost, is_lost_at, IsVerdict}
use Rattle.afdx_switch.specs.declared.verdict.Verdict.{Verdict}
use Rattle.afdx_switch.specs.declared.verdict.Verdict.TheVariants.{Dropped, Accepted}
use Rattle.afdx_switch.proofs.ArrivalLemmas.{unknown-fault, own-named, own-other, own-apart}
use Rattle.afdx_switch.proofs.LawLemmas.{entries-grow, entry-from, taken-turns}
use Rattle.afdx_switch.proofs.ListLemmas.{bool_cases, find-found, find-one}
use Rattle.afdx_switch.proofs.NewLemmas.{row-is}

-- ---- where a link goes

pub system-at : (t : Rows) (port system : ℕ) → system_at_port t.systems port ≡ Some system
    → (s : SystemRow) × (slice_get t.systems system ≡ Some s) × (s.port ≡ port)
unfolding system_at_port
system-at t port system found =
    let none : SystemRow = record { name = []; port = 0; id = 0; partition = 0; rate = 0 } in
    let passes = position-Some (λ (s : SystemRow). s.port == port) t.systems system none found in (
      get_or t.systems system none,
      slice_get-get_or t.systems system none passes.0,
      eqb-true (get_or t.systems system none).port port passes.1,
    )

goes-is : (t : Rows) (l : LinkRow) (port : ℕ)
    → goes_to t l port ≡ option_map_or (λ system. is_to system l) (system_at_port t.systems port) false
unfolding goes_to
goes-is t l port = refl

-- the system at a port that a link goes to
pub record IsAt (t : Rows) (l : LinkRow) (port : ℕ) : Type 0 where
  pub system : ℕ
  pub s : SystemRow
  pub stands : slice_get t.systems system ≡ Some s
  pub here : s.port ≡ port
  pub goes : is_to system l ≡ true

pub goes-at : (t : Rows) (l : LinkRow) (port : ℕ) → goes_to t l port ≡ true → IsAt t l port
goes-at t l port goes = by (system_at_port t.systems port) refl (sym (goes-is t l port) ∙ goes)
  where
    by : (o : Option ℕ) → system_at_port t.systems port ≡ o
        → option_map_or (λ system. is_to system l) o false ≡ true → IsAt t l port
    by None none h = absurd (cc h)
    by (Some system) found h = let at = system-at t port system found in
        record { system = system; s = at.0; stands = at.1; here = at.2; goes = h }

-- ---- what the laws of admitted ports take

moves : EachAccountMoves
unfolding overdrawn
moves link is-bag = record {
  start = λ time. refl;
  gap = missing-later link;
  accept = missing-accept link;
  room = fits-room link is-bag;
}

bytes_of : HeldFrame → List ℕ
bytes_of c = c.bytes

keeps : (t : Rows) (x : Arrival) → bytes_of (carried t x) ≡ x.bytes
unfolding carried bytes_of
keeps t x = refl

output-of : (t : Rows) (system : ℕ) (s : SystemRow) (arrivals : List Arrival)
    → IsAdmittedRun t arrivals → slice_get t.systems system ≡ Some s
    → IsOutputOf (carried t) bytes_of t system s arrivals
output-of t system s arrivals run stands =
    record {
      lawful = run.lawful;
      admitted = run.admitted;
      stands = stands;
      keeps_bytes = keeps t;
      timed = run.timed;
    }

-- ---- nothing is lost

-- at the port of a system
kept-there : (t : Rows) (past : List Arrival) (x : Arrival) (system place : ℕ) (s : SystemRow)
    (l : LinkRow) → IsAdmittedRun t (x ∷ past) → slice_get t.systems system ≡ Some s
    → slice_get t.links place ≡ Some l →
    sends (output_at t x.side s.port) past x (row_of t l) ≡ true →
    is_lost (byte_ns_at t s.port) t.buffer (entries_at t x.side s.port past)
    (entry_of (carried t) (row_of t l) x) ≡ false
kept-there t past x system place s l run stands at sent =
    arrival-kept moves accepted_own-offers (carried t) (link_in bytes_of) (charge_in bytes_of (rows_of t)) (rows_of t)
    (output_at t x.side s.port) past x (row_of t l)
    (output-served t x.side system s run.lawful run.admitted stands).served
    (bytes-carry (carried t) bytes_of (rows_of t) (rows-are t run.lawful) (keeps t)) run.timed
    (contains-row t place l at) sent

kept-link : (t : Rows) (past : List Arrival) (x : Arrival) (port place : ℕ) (l : LinkRow)
    → IsAdmittedRun t (x ∷ past) → slice_get t.links place ≡ Some l →
    sends (output_at t x.side port) past x (row_of t l) ≡ true
    → is_lost (byte_ns_at t port) t.buffer (entries_at t x.side port past)
    (entry_of (carried t) (row_of t l) x) ≡ false
kept-link t past x port place l run at sent =
    let parts = and_parts (accepts past x (row_of t l)) (is_side x.side x.side && goes_to t l port) sent in
    let goes = (and_parts (is_side x.side x.side) (goes_to t l port) parts.1).1 in
    let to = goes-at t l port goes in
    subst (λ n. sends (output_at t x.side n) past x (row_of t l) ≡ true
    → is_lost (byte_ns_at t n) t.buffer (entries_at t x.side n past)
    (entry_of (carried t) (row_of t l) x) ≡ false) to.here
    (kept-there t past x to.system place to.s l run to.stands at) sent

kept-row : (t : Rows) (past : List Arrival) (x : Arrival) (port : ℕ) (r : Row)
    → IsAdmittedRun t (x ∷ past) → find (sends (output_at t x.side port) past x) (rows_of t) ≡ Some r →
    is_lost (byte_ns_at t port) t.buffer (entries_at t x.side port past) (entry_of (carried t) r x) ≡ false
kept-row t past x port r run sent =
    let found = find-found (sends (output_at t x.side port) past x) (rows_of t) r sent in
    let l = row-is t run.lawful found.0 r found.1 in
    subst (λ q. sends (output_at t x.side port) past x q ≡ true
    → is_lost (byte_ns_at t port) t.buffer (entries_at t x.side port past)
    (entry_of (carried t) q x) ≡ false) l.2
    (kept-link t past x port found.0 l.0 run l.1) found.2

kept-share : (t : Rows) (past : List Arrival) (x : Arrival) (port : ℕ) → IsAdmittedRun t (x ∷ past)
    → (o : Option Row) → find (sends (output_at t x.side port) past x) (rows_of t) ≡ o
    → is_share_lost t past x port o ≡ false
kept-share t past x port run None none = refl
kept-share t past x port run (Some r) sent = kept-row t past x port r run sent

pub accepted-kept : AcceptedIsKept
unfolding is_lost_at
accepted-kept t past x port run =
    kept-share t past x port run (find (sends (output_at t x.side port) past x) (rows_of t)) refl

pub loses-nothing : (t : Rows) (past : List Arrival) (x : Arrival) → IsAdmittedRun t (x ∷ past)
    → (v : Verdict) → IsVerdict t past x v → LosesNothing v
unfolding holds
loses-nothing t past x run (Dropped reason) is = tt
loses-nothing t past x run (Accepted lost) is = λ port. elim (bool_cases (holds lost port)) [
  | inr kept ↦ kept
  | inl held ↦ (let within = lost.in_range port held in is.1 port within.0 within.1 ∙ accepted-kept t past x port run)
]

-- ---- the link that bytes name

vl-is : (t : Rows) (l : LinkRow) → (row_of t l).rule.vl ≡ l.vl
unfolding rule_of
vl-is t l = refl

row-at : (t : Rows) (place : ℕ) (l : LinkRow) → slice_get t.links place ≡ Some l
    → slice_get (rows_of t) place ≡ Some (row_of t l)
unfolding rows_of
row-at t place l at = slice_get-map (row_of t) t.links place ∙ ap (option_map (row_of t)) at

only-place : (t : Rows) (place j : ℕ) (l : LinkRow) (r : Row)
    (bytes : List ℕ) → IsLawfulSwitch t
    → slice_get t.links place ≡ Some l → names l.vl bytes ≡ true →
    slice_get (rows_of t) j ≡ Some r → names r.rule.vl bytes ≡ true → j ≡ place
unfolding AreDistinct
only-place t place j l r bytes lawful at named at_r named_r =
    let k = row-is t lawful j r at_r in
    let same : r.rule.vl ≡ l.vl = one-name r.rule.vl l.vl bytes named_r named in
    let own_vl : k.0.vl ≡ r.rule.vl = sym (vl-is t k.0) ∙ ap (λ (q : Row). q.rule.vl) k.2 in
    lawful.links.identifiers j place k.0 l k.1 at (own_vl ∙ same)

pub named-row : (t : Rows) (place : ℕ) (l : LinkRow) (bytes : List ℕ)
    → IsLawfulSwitch t
    → slice_get t.links place ≡ Some l → names l.vl bytes ≡ true → row_named t bytes ≡ Some (row_of t l)
unfolding row_named
named-row t place l bytes lawful at named =
    let named_row : names (row_of t l).rule.vl bytes ≡ true = ap (λ vl. names vl bytes) (vl-is t l) ∙ named in
    find-one (λ (r : Row). names r.rule.vl bytes) (rows_of t) place (row_of t l)
    (row-at t place l at) (λ j r at_r named_r. only-place t place j l r bytes lawful at named
    at_r named_r)
    ∙ ap (λ b. if b then Some (row_of t l) else None) named_row

-- its verdicts come from its own arrivals
pub link-reason : (t : Rows) (past : List Arrival) (x : Arrival) (place : ℕ) (l : LinkRow)
    → IsLawfulSwitch t → slice_get t.links place ≡ Some l → names l.vl x.bytes ≡ true →
    reason_of t past x ≡ reason_after (rule_of t l) (own l.vl x.side past) x
unfolding reason_of
link-reason t past x place l lawful at named =
    ap (reason_on past x) (named-row t place l x.bytes lawful at named)
    ∙ ap (λ vl. reason_after (rule_of t l) (own vl x.side past) x) (vl-is t l)

-- ---- what one more arrival adds to the accepted ones

accepted-more : (t : Rows) (l : LinkRow) (x : Arrival) (past : List Arrival)
    → names l.vl x.bytes ≡ true → reason_after (rule_of t l) (own l.vl x.side past) x ≡ None →
    accepted_on t l x.side (x ∷ past) ≡ x ∷ accepted_on t l x.side past
unfolding accepted_arrivals
accepted-more t l x past named none =
    ap (λ xs. accepted_arrivals (rule_of t l) xs) (own-named l.vl x past named) ∙ rw none refl

accepted-same : (t : Rows) (l : LinkRow) (x : Arrival) (past : List Arrival) (reason : Reason)
    → names l.vl x.bytes ≡ true → reason_after (rule_of t l) (own l.vl x.side past) x ≡ Some reason →
    accepted_on t l x.side (x ∷ past) ≡ accepted_on t l x.side past
unfolding accepted_arrivals
accepted-same t l x past reason named some =
    ap (λ xs. accepted_arrivals (rule_of t l) xs) (own-named l.vl x past named) ∙ rw some refl

accepted-stays : (t : Rows) (l : LinkRow) (x : Arrival) (past : List Arrival)
    → names l.vl x.bytes ≡ false → accepted_on t l x.side (x ∷ past) ≡ accepted_on t l x.side past
accepted-stays t l x past other = ap (λ xs. accepted_arrivals (rule_of t l) xs) (own-other l.vl x.side x past other)

-- ---- what enters a port

-- the frames of a link at a port, if it goes there
abbrev Entered : Rows → LinkRow → Side → ℕ → List Arrival → List Passing
Entered t l side port arrivals = if goes_to t l port then accepted_frames t l side arrivals else []

entered-as : (t : Rows) (l : LinkRow) (side : Side) (port : ℕ) (xs ys : List Arrival)
    → accepted_on t l side xs ≡ accepted_on t l side ys → Entered t l side port xs
    ≡ Entered t l side port ys
entered-as t l side port xs ys same = ap (λ zs. if goes_to t l port then map passing (reverse zs) else []) same

is-own : (t : Rows) (vl : ℕ) (r : Row) (x : Arrival) → is_of vl (entry_of (carried t) r x) ≡ names vl x.bytes
unfolding carried
is-own t vl r x = refl

passes-as : (t : Rows) (r : Row) (x : Arrival) → passing_in (entry_of (carried t) r x) ≡ passing x
unfolding carried
passes-as t r x = refl

frames-push : (t : Rows) (vl : ℕ) (es : List (Entry HeldFrame)) (r : Row) (x : Arrival)
    → names vl x.bytes ≡ true → frames_among vl (es ++ entry_of (carried t) r x ∷ [])
    ≡ frames_among vl es ++ passing x ∷ []
frames-push t vl es r x named =
    let here : is_of vl (entry_of (carried t) r x) ≡ true = is-own t vl r x ∙ named in
    let last : filter (is_of vl) (entry_of (carried t) r x ∷ []) ≡ entry_of (carried t) r x ∷ [] =
    ap (λ b. if b then entry_of (carried t) r x ∷ [] else []) here in
    ap (map passing_in) (filter-append (is_of vl) es (entry_of (carried t) r x ∷ [])
    ∙ ap (λ zs. filter (is_of vl) es ++ zs) last)
    ∙ map-append passing_in (filter (is_of vl) es) (entry_of (carried t) r x ∷ [])
    ∙ ap (λ p. frames_among vl es ++ p ∷ []) (passes-as t r x)

frames-pass : (t : Rows) (vl : ℕ) (es : List (Entry HeldFrame)) (r : Row) (x : Arrival)
    → names vl x.bytes ≡ false → frames_among vl (es ++ entry_of (carried t) r x ∷ [])
    ≡ frames_among vl es
frames-pass t vl es r x other =
    let there : is_of vl (entry_of (carried t) r x) ≡ false = is-own t vl r x ∙ other in
    let last : filter (is_of vl) (entry_of (carried t) r x ∷ []) ≡ [] =
    ap (λ b. if b then entry_of (carried t) r x ∷ [] else []) there in
    ap (map passing_in) (filter-append (is_of vl) es (entry_of (carried t) r x ∷ [])
    ∙ ap (λ zs. filter (is_of vl) es ++ zs) last ∙ append-none (filter (is_of vl) es))
  where
    append-none : (zs : List (Entry HeldFrame)) → zs ++ [] ≡ zs
    append-none [] = refl
    append-none (z ∷ zs) = ap (λ ws. z ∷ ws) (append-none zs)

-- one more arrival on the port's side
module _ (t : Rows) (past : List Arrival) (x : Arrival) (port place : ℕ) (l : LinkRow)
    (run : IsAdmittedRun t (x ∷ past)) (at : slice_get t.links place ≡ Some l)
    (before : frames_among l.vl (entries_at t x.side port past) ≡ Entered t l x.side port past) where
  step : EntriesStep t x.side port x past
  step = entries-grow t x.side port x past run.lawful

  kept : is_lost_at t past x port ≡ false
  kept = accepted-kept t past x port run

  dropped-here : (reason : Reason) → reason_of t past x ≡ Some reason
      → frames_among l.vl (entries_at t x.side port (x ∷ past)) ≡ Entered t l x.side port (x ∷ past)
  dropped-here reason some =
      ap (frames_among l.vl) (step.dropped reason some) ∙ before
      ∙ sym (entered-as t l x.side port (x ∷ past) past (elim (bool_cases (names l.vl x.bytes)) [
        | inl named ↦ accepted-same t l x past reason named
            (sym (link-reason t past x place l run.lawful at named) ∙ some)
        | inr other ↦ accepted-stays t l x past other
      ]))

  own-accepted : reason_of t past x ≡ None → names l.vl x.bytes ≡ true
      → frames_among l.vl (entries_at t x.side port (x ∷ past)) ≡ Entered t l x.side port (x ∷ past)
  own-accepted none named = by (goes_to t l port) refl before
    where
      row : row_named t x.bytes ≡ Some (row_of t l)
      row = named-row t place l x.bytes run.lawful at named

      by : (b : Bool) → goes_to t l port ≡ b → frames_among l.vl (entries_at t x.side port past)
          ≡ (if b then accepted_frames t l x.side past else []) →
          frames_among l.vl (entries_at t x.side port (x ∷ past))
          ≡ (if goes_to t l port then accepted_frames t l x.side (x ∷ past) else [])
      by true goes so_far =
          let more = accepted-more t l x past named (sym (link-reason t past x place l run.lawful at named) ∙ none) in
          let last : accepted_frames t l x.side (x ∷ past) ≡ accepted_frames t l x.side past ++ passing x ∷ [] =
          ap (λ zs. map passing (reverse zs)) more
          ∙ ap (map passing) (reverse-append (x ∷ []) (accepted_on t l x.side past))
          ∙ map-append passing (reverse (accepted_on t l x.side past)) (x ∷ []) in
          ap (frames_among l.vl) (step.entered (row_of t l) none row goes kept)
          ∙ frames-push t l.vl (entries_at t x.side port past) (row_of t l) x named
          ∙ ap (λ fs. fs ++ passing x ∷ []) so_far ∙ sym last
          ∙ sym (ap (λ b. if b then accepted_frames t l x.side (x ∷ past) else []) goes)
      by false stays so_far =
          ap (frames_among l.vl) (step.elsewhere (row_of t l) none row stays) ∙ so_far
          ∙ sym (ap (λ b. if b then accepted_frames t l x.side (x ∷ past) else []) stays)

  other-accepted : reason_of t past x ≡ None → names l.vl x.bytes ≡ false → (o : Option Row)
      → row_named t x.bytes ≡ o → frames_among l.vl (entries_at t x.side port (x ∷ past))
      ≡ frames_among l.vl (entries_at t x.side port past)
  unfolding reason_of
  other-accepted none other None unknown =
      absurd (let fault = unknown-fault x.port x.bytes in let same : fault_of None x.port x.bytes
      ≡ None = sym (ap (reason_on past x) unknown) ∙ none in cc)
  other-accepted none other (Some r) row = elim (bool_cases (r.goes_to port)) [
    | inl goes ↦ ap (frames_among l.vl) (step.entered r none row goes kept)
        ∙ frames-pass t l.vl (entries_at t x.side port past) r x other
    | inr stays ↦ ap (frames_among l.vl) (step.elsewhere r none row stays)
  ]

  enter-here : frames_among l.vl (entries_at t x.side port (x ∷ past)) ≡ Entered t l x.side port (x ∷ past)
  enter-here = by (reason_of t past x) refl
    where
      by : (o : Option Reason) → reason_of t past x ≡ o
          → frames_among l.vl (entries_at t x.side port (x ∷ past)) ≡ Entered t l x.side port (x ∷ past)
      by (Some reason) some = dropped-here reason some
      by None none = elim (bool_cases (names l.vl x.bytes)) [
        | inl named ↦ own-accepted none named
        | inr other ↦ other-accepted none other (row_named t x.bytes) refl ∙ before
            ∙ sym (entered-as t l x.side port (x ∷ past) past (accepted-stays t l x past other))
      ]

enter-nothing : (b : Bool) (none : List Passing) → (if b then none else none) ≡ none
enter-nothing true none = refl
enter-nothing false none = refl

earlier : (t : Rows) (x : Arrival) (past : List Arrival) → IsAdmittedRun t (x ∷ past) → IsAdmittedRun t past
earlier t x past run = record { lawful = run.lawful; admitted = run.admitted; timed = run.timed.1 }

pub accepted-enter : AcceptedEnter
unfolding offers_at accepted_arrivals
accepted-enter t [] side port place l run at = sym (enter-nothing (goes_to t l port) [])
accepted-enter t (x ∷ past) side port place l run at =
    by (bool_cases (is_side side x.side))
    (accepted-enter t past side port place l (earlier t x past run) at)
  where
    by : (is_side side x.side ≡ true) ⊎ (is_side side x.side ≡ false)
        → frames_among l.vl (entries_at t side port past) ≡ Entered t l side port past →
        frames_among l.vl (entries_at t side port (x ∷ past)) ≡ Entered t l side port (x ∷ past)
    by (inl here) before =
        subst (λ s. frames_among l.vl (entries_at t s port past) ≡ Entered t l s port past
        → frames_among l.vl (entries_at t s port (x ∷ past)) ≡ Entered t l s port (x ∷ past))
        (sym (is_side-same side x.side here))
        (enter-here t past x port place l run at) before
    by (inr other) before =
        ap (frames_among l.vl) ((entries-grow t side port x past run.lawful).other_side other) ∙ before
        ∙ sym (entered-as t l side port (x ∷ past) past
        (ap (λ xs. accepted_arrivals (rule_of t l) xs) (own-apart l.vl side x past other)))

-- ---- turns are in time

link-of : (vl : ℕ) (o : Option VlId) (none : ℕ) → option_map_or (λ named. named.0 == vl) o false
    ≡ true → option_map_or (λ named. named.0) o none ≡ vl
link-of vl None none h = absurd (cc h)
link-of vl (Some v) none h = eqb-true v.0 vl h

named-in : (vl : ℕ) (e : Entry HeldFrame) → is_of vl e ≡ true → link_in bytes_of e.item ≡ vl
unfolding names bytes_of
named-in vl e named = link-of vl (link_named_by e.item.bytes) 65536 named

-- an entry of a link at a port that it doesn't go to
none-among : (vl : ℕ) (es : List (Entry HeldFrame)) (i : ℕ) (e : Entry HeldFrame)
    → frames_among vl es ≡ [] → slice_get es i ≡ Some e → is_of vl e ≡ true → ⊥
none-among vl [] i e none at named = cc at
none-among vl (d ∷ ds) i e none at named =
    by (bool_cases (is_of vl d)) i at (λ rest j at_j. none-among vl ds j e rest at_j named)
  where
    by : (is_of vl d ≡ true) ⊎ (is_of vl d ≡ false) → (j : ℕ) → slice_get (d ∷ ds) j ≡ Some e
        → (frames_among vl ds ≡ [] → (k : ℕ) → slice_get ds k ≡ Some e → ⊥) → ⊥
    by (inl own) j at_j later = let k = rw own at none in cc k
    by (inr other) zero at_j later = let same : d ≡ e = cc at_j in let named_d : is_of vl d ≡ true =
        ap (is_of vl) same ∙ named in cc
    by (inr other) (suc j) at_j later = later (rw other at none) j at_j

not-there : (t : Rows) (arrivals : List Arrival) (side : Side) (port place : ℕ) (l : LinkRow)
    → IsAdmittedRun t arrivals → slice_get t.links place ≡ Some l → goes_to t l port ≡ false →
    frames_among l.vl (entries_at t side port arrivals) ≡ []
not-there t arrivals side port place l run at stays =
    accepted-enter t arrivals side port place l run at
    ∙ ap (λ b. if b then accepted_frames t l side arrivals else []) stays

module _ (t : Rows) (arrivals : List Arrival) (side : Side) (place : ℕ) (l : LinkRow)
    (turns : List (Turn HeldFrame)) (run : IsAdmittedRun t arrivals)
    (at : slice_get t.links place ≡ Some l) where
  in-time-there : (system : ℕ) (s : SystemRow) → slice_get t.systems system ≡ Some s
      → is_to system l ≡ true → AreTurns (byte_ns_at t s.port) (entries_at t side s.port arrivals)
      turns → AreInTime l turns
  in-time-there system s stands goes are =
      let each = has-slot moves accepted_own-offers (carried t) bytes_of t side system s arrivals turns place l
      (output-of t system s arrivals run stands) at goes are in
      (λ k d lt named. each k d lt (named-in l.vl (slice_index_or turns k d).entry named))

  in-time-at : (port : ℕ) → AreTurns (byte_ns_at t port) (entries_at t side port arrivals) turns → AreInTime l turns
  in-time-at port are = elim (bool_cases (goes_to t l port)) [
    | inl goes ↦ (let to = goes-at t l port goes in
        in-time-there to.system to.s to.stands to.goes
        (subst (λ n. AreTurns (byte_ns_at t n) (entries_at t side n arrivals) turns)
        (sym to.here) are))
    | inr stays ↦ all_get (λ s. is_of l.vl s.entry ≡ true → (s.too_old ≡ false)
        × (s.end ≤ s.entry.time + 1000 * l.latency_us)) turns (λ i s at_s named.
        let own = turn_at (byte_ns_at t port) (entries_at t side port arrivals) turns i s are at_s in
        absurd (none-among l.vl (entries_at t side port arrivals) s.place s.entry
        (not-there t arrivals side port place l run at stays) own.next.own.stands named))
  ]

  left-there : (system until : ℕ) (s : SystemRow) → slice_get t.systems system ≡ Some s
      → is_to system l ≡ true → AreTurns (byte_ns_at t s.port) (entries_at t side s.port arrivals) turns →
      ((z : Turn HeldFrame) → IsNext (byte_ns_at t s.port) (entries_at t side s.port arrivals) turns z
      → IsAfter until (due_at z)) → HaveLeft l until (entries_at t side s.port arrivals) turns
  left-there system until s stands goes are next i e at_e named over =
      slot-has-come moves accepted_own-offers (carried t) bytes_of t side system s arrivals turns place l until i e
      (output-of t system s arrivals run stands) at goes are next at_e (named-in l.vl e named) over

  left-at : (port until : ℕ) → AreTurns (byte_ns_at t port) (entries_at t side port arrivals) turns →
      ((z : Turn HeldFrame) → IsNext (byte_ns_at t port) (entries_at t side port arrivals) turns z
      → IsAfter until (due_at z)) → HaveLeft l until (entries_at t side port arrivals) turns
  left-at port until are next = elim (bool_cases (goes_to t l port)) [
    | inl goes ↦ (let to = goes-at t l port goes in
        subst (λ n. AreTurns (byte_ns_at t n) (entries_at t side n arrivals) turns →
        ((z : Turn HeldFrame) → IsNext (byte_ns_at t n) (entries_at t side n arrivals) turns z
        → IsAfter until (due_at z)) → HaveLeft l until (entries_at t side n arrivals) turns) to.here
        (left-there to.system until to.s to.stands to.goes) are next)
    | inr stays ↦ (λ i e at_e named over.
        absurd (none-among l.vl (entries_at t side port arrivals) i e
        (not-there t arrivals side port place l run at stays) at_e named))
  ]

pub turns-in-time : TurnsAreInTime
turns-in-time t arrivals side port place l turns run at are = in-time-at t arrivals side place l turns run at port are

pub all-left : AllHaveLeft
all-left t arrivals side port place l turns until run at are next =
    left-at t arrivals side place l turns run at port until are next

-- ---- what a switch answers

pub verdict-kept : {E : Type 0} (r : Result Verdict E) (t : Rows) (past : List Arrival)
    (x : Arrival) → IsAdmittedRun t (x ∷ past) → IfOk r (IsVerdict t past x) → IfOk r LosesNothing
verdict-kept (Ok v) t past x run is = loses-nothing t past x run v is
verdict-kept (Err e) t past x run is = tt

same-bytes : (t : Rows) (vl : ℕ) (e : Entry HeldFrame) (r : Row) (x : Arrival)
    → e ≡ entry_of (carried t) r x → names vl x.bytes ≡ true → is_of vl e ≡ true
same-bytes t vl e r x is named = ap (is_of vl) is ∙ is-own t vl r x ∙ named

-- a turn of a port is in time
pub turn-in-time : (t : Rows) (arrivals : List Arrival) (side : Side) (port : ℕ) (s : Turn HeldFrame)
    (earlier : List (Turn HeldFrame)) → IsAdmittedRun t arrivals →
    AreTurns (byte_ns_at t port) (entries_at t side port arrivals) (s ∷ earlier) → IsInTime t s
turn-in-time t arrivals side port s earlier run are =
    let from = entry-from t side port arrivals s.place s.entry are.0.own.stands in
    let l = row-is t run.lawful from.place from.row from.stands in
    let vl : from.row.rule.vl ≡ l.0.vl = sym (ap (λ (r : Row). r.rule.vl) l.2) ∙ vl-is t l.0 in
    let named : is_of l.0.vl s.entry ≡ true =
    same-bytes t l.0.vl s.entry from.row from.x from.is
    (sym (ap (λ n. names n from.x.bytes) vl) ∙ from.named) in
    let soon = turns-in-time t arrivals side port from.place l.0 (s ∷ earlier) run l.1 are 0 s (omega arith) named in
    record { place = from.place; link = l.0; stands = l.1; named = named; not_old = soon.0; within = soon.1 }

taken-first : (gone : PortTurn) (earlier : List PortTurn) → taken_at gone.port (gone ∷ earlier)
    ≡ gone.turn ∷ taken_at gone.port earlier
unfolding taken_at
taken-first gone earlier =
    ap (λ b. if b then gone.turn ∷ taken_at gone.port earlier else taken_at gone.port earlier)
    (eqb-same gone.port gone.port refl)

given-in-time : (t : Rows) (side : Side) (h : SwitchHistory) (until : ℕ) (d : Departure) (new : SwitchState)
    → IsAdmittedRun t h.arrivals → (g : Gives t side h until d new) → IsInTime t g.gone.turn
given-in-time t side h until d new run g =
    turn-in-time t h.arrivals side g.gone.port g.gone.turn (taken_at g.gone.port h.taken) run
    (subst (λ ts. AreTurns (byte_ns_at t g.gone.port) (entries_at t side g.gone.port h.arrivals) ts)
    (taken-first g.gone h.taken)
    (taken-turns t side new (with_take h g.gone until) g.gone.port g.stands g.next.port_first g.next.port_last))

pub each-in-time : (o : Option Departure) (t : Rows) (side : Side) (h : SwitchHistory) (until : ℕ)
    (new : SwitchState) → IsAdmittedRun t h.arrivals
    → IfSome o (λ d. (g : Gives t side h until d new) → IsInTime t g.gone.turn)
each-in-time None t side h until new run = tt
each-in-time (Some d) t side h until new run = given-in-time t side h until d new run

pub none-left : (o : Option Departure) (t : Rows) (side : Side) (w : SwitchState) (h : SwitchHistory)
    (port place : ℕ) (l : LinkRow) (until : ℕ) → StandsFor t side w h → IsAdmittedRun t h.arrivals
    → 1 ≤ port → port ≤ 24 →
    slice_get t.links place ≡ Some l
    → ((s : Turn HeldFrame) → IsNextAt t side h port s → IfNone o (IsAfter until (due_at s)))
    → IfNone o (HaveLeft l until (entries_at t side port h.arrivals) (taken_at port h.taken))
none-left None t side w h port place l until st run low high at next =
    all-left t h.arrivals side port place l (taken_at port h.taken) until run at
    (taken-turns t side w h port st low high) next
none-left (Some d) t side w h port place l until st run low high at next = tt
