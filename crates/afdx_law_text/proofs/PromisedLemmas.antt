-- What a replay tells leaves as it is promised; and so does what is a stream's of it.
use Rattle.std.proofs.Common.{◌≡◌, ℕ, ◌+◌, ◌*◌, ◌≤◌, ◌==◌, ◌&&◌, Bool, true, false, List, [], ◌∷◌, length, map, filter, refl, sym, ap, ◌∙◌, subst, arith, inl, inr}
use Rattle.std.specs.Prelude.{Some, slice_get, if◌then◌else◌}
use Rattle.std.specs.List.{AllByRecursion}
use Rattle.std.proofs.lemmas.Bool.{and_parts, eqb-true}
use Rattle.afdx_frame.specs.Regulation.{wire_of}
use Rattle.afdx_frame.specs.declared.link.Side.{Side}
use Rattle.afdx_frame.proofs.ListLemmas.{AllByRecursion-slice_get}
use Rattle.afdx_config.specs.Lawful.{IsLawfulSwitch, AreDistinct, IsSystem}
use Rattle.afdx_config.specs.Rows.{LinkRow, Rows}
use Rattle.afdx_police.specs.Arrival.{Arrival, is_side, names, own}
use Rattle.afdx_police.specs.Rule.{Rule}
use Rattle.afdx_police.specs.Verdicts.{accepted_arrivals}
use Rattle.afdx_law_bounds.proofs.VerdictLemmas.{one-name}
use Rattle.afdx_switch.specs.Admitted.{Passing, passing, accepted_on}
use Rattle.afdx_switch.specs.Tables.{rule_of, goes_to, byte_ns_at}
use Rattle.afdx_switch.proofs.AdmittedLemmas.{goes-at}
use Rattle.afdx_law_promises.specs.Lines.{Line, Judged, Leaving, IsIn, judged_in, verdicts_on, accepted_in, left_in, is_leaving}
use Rattle.afdx_law_promises.specs.Promises.{AreVerdicts, KeepsPromises, LeavesInTime}
use Rattle.afdx_law_promises.proofs.LineLemmas.{map-filter, verdicts-arrivals}
use Rattle.afdx_law_promises.proofs.RuleLemmas.{own_verdicts, own-verdicts, one-verdicts, verdicts_of}
use Rattle.afdx_conform.specs.Headline.{AreTheirFrames}
use Rattle.afdx_conform.specs.Streams.{Gone, Terms}
use Rattle.afdx_law_text.specs.Leaving.{LeavesAsPromised, LeaveAsPromised}

-- ---- lines that keep the promises

all-from-in : {X : Type 0} (P : X → Type 0) (xs : List X) → ((x : X) → IsIn x xs → P x) → AllByRecursion P xs
all-from-in P [] each = tt
all-from-in P (x ∷ xs) each = (each x (inl refl), all-from-in P xs (λ y h. each y (inr h)))

-- the verdicts on a link's own arrivals accept what the switch does
accepted-told : (t : Rows) (arrivals : List Arrival) (lines : List Line) (side : Side) (place : ℕ) (l : LinkRow)
    → IsLawfulSwitch t → slice_get t.links place ≡ Some l → AreVerdicts t arrivals lines
    → accepted_in (verdicts_on l.vl side lines) ≡ accepted_on t l side arrivals
accepted-told t arrivals lines side place l lawful at are =
    let test : Arrival → Bool = λ x. is_side side x.side && names l.vl x.bytes in
    let computed = own-verdicts t l side place lawful at arrivals in
    let same : verdicts_on l.vl side lines ≡ own_verdicts l.vl side (verdicts_of t arrivals) =
    one-verdicts (rule_of t l) (verdicts_on l.vl side lines) (own_verdicts l.vl side (verdicts_of t arrivals))
    (map-filter (λ (v : Judged). v.arrival) test (judged_in lines)
    ∙ ap (filter test) (are.each ∙ sym (verdicts-arrivals t arrivals))
    ∙ sym (map-filter (λ (v : Judged). v.arrival) test (verdicts_of t arrivals)))
    (are.own side place l at) computed.rule in
    ap (λ (vs : List Judged). accepted_in vs) same ∙ computed.accepted

leaves-promised : (t : Rows) (lines : List Line) (d : Leaving) → LeavesInTime t lines d → LeavesAsPromised t d
leaves-promised t lines d h =
    let is = sym h.frame in
    record {
      place = h.place;
      link = h.link;
      stands = h.stands;
      named = subst (λ (p : Passing). names h.link.vl p.bytes ≡ true) is h.named;
      goes = h.goes;
      within = subst (λ (p : Passing). d.time ≤ p.time + 1000 * h.link.latency_us) is h.within;
      no_sooner = subst
          (λ (p : Passing). p.time + wire_of (length p.bytes) * byte_ns_at t d.port ≤ d.time) is h.no_sooner;
    }

pub kept-leave : (t : Rows) (arrivals : List Arrival) (lines : List Line) → IsLawfulSwitch t
    → KeepsPromises t arrivals lines → LeaveAsPromised t arrivals (left_in lines)
kept-leave t arrivals lines lawful keeps = record {
  each = all-from-in (LeavesAsPromised t) (left_in lines) (λ d h. leaves-promised t lines d (keeps.latency d h));
  frames = λ side port place l low high at. keeps.frames side port place l low high at
      ∙ ap (λ (xs : List Arrival). if goes_to t l port then map passing xs else [])
      (accepted-told t arrivals lines side place l lawful at keeps.verdicts);
}

-- ---- a stream's

pub one-link : (t : Rows) → IsLawfulSwitch t → (i j : ℕ) (k l : LinkRow) → slice_get t.links i ≡ Some k
    → slice_get t.links j ≡ Some l → (bytes : List ℕ) → names k.vl bytes ≡ true → names l.vl bytes ≡ true → k ≡ l
unfolding AreDistinct
one-link t lawful i j k l at there bytes p q =
    let places : i ≡ j = lawful.links.identifiers i j k l at there (one-name k.vl l.vl bytes p q) in
    let here : slice_get t.links j ≡ Some k = subst (λ (n : ℕ). slice_get t.links n ≡ Some k) places at in
    cc (here, there)

-- a port that a link goes to is one of the switch
pub record IsPortHere (port : ℕ) : Type 0 where
  pub low : 1 ≤ port
  pub high : port ≤ 24

pub port-here : (t : Rows) (l : LinkRow) (port : ℕ) → IsLawfulSwitch t → goes_to t l port ≡ true → IsPortHere port
port-here t l port lawful goes =
    let at = goes-at t l port goes in
    let range =
    (AllByRecursion-slice_get (IsSystem t.profile) t.systems at.system at.s lawful.systems.each at.stands).port in
    let here = at.here in
    record { low = omega (arith, range.0, here); high = omega (arith, range.1, here) }

-- it left in the stream's time
record IsInTime (z : Terms) (d : Leaving) : Type 0 where
  pub no_sooner : d.frame.time + (length d.frame.bytes + 8) * z.byte_ns ≤ d.time
  pub in_time : d.time ≤ d.frame.time + (z.latency_ns + z.by.inner)

-- these are the frames that left, by time and bytes
unfoldable pub AreGone : List Leaving → List Gone → Type 0
AreGone [] [] = Unit {0}
AreGone [] (y ∷ ys) = ⊥
AreGone (d ∷ ds) [] = ⊥
AreGone (d ∷ ds) (y ∷ ys) = (y.time ≡ d.time) × (y.bytes ≡ d.frame.bytes) × AreGone ds ys

shorter : (n byte : ℕ) → (n + 8) * byte ≤ (n + 20) * byte
shorter n byte = grind arith

their-frames : (z : Terms) (xs : List Arrival) (ds : List Leaving) (ys : List Gone)
    → map (λ d. d.frame) ds ≡ map passing xs → AllByRecursion (IsInTime z) ds → AreGone ds ys → AreTheirFrames z xs ys
unfolding AreTheirFrames AreGone
their-frames z [] [] [] e all are = tt
their-frames z [] [] (y ∷ ys) e all are = absurd are
their-frames z [] (d ∷ ds) ys e all are = absurd (cc e)
their-frames z (x ∷ xs) [] ys e all are = absurd (cc e)
their-frames z (x ∷ xs) (d ∷ ds) [] e all are = absurd are
their-frames z (x ∷ xs) (d ∷ ds) (y ∷ ys) e all are =
    let frame : d.frame ≡ passing x = cc e in
    let rest : map (λ (d : Leaving). d.frame) ds ≡ map passing xs = cc e in
    let time : d.frame.time ≡ x.time = ap (λ (p : Passing). p.time) frame in
    let bytes : d.frame.bytes ≡ x.bytes = ap (λ (p : Passing). p.bytes) frame in
    let gone : y.time ≡ d.time = are.0 in
    let soon : x.time + (length x.bytes + 8) * z.byte_ns ≤ d.time =
    subst (λ (p : Passing). p.time + (length p.bytes + 8) * z.byte_ns ≤ d.time) frame all.0.no_sooner in
    let late = all.0.in_time in (
      record {
        bytes = sym bytes ∙ sym are.1;
        no_sooner = omega (arith, soon, gone);
        in_time = omega (arith, late, gone, time);
      },
      their-frames z xs ds ys rest all.1 are.2,
    )

module _ (t : Rows) (lawful : IsLawfulSwitch t) (side : Side) (port place : ℕ) (l : LinkRow)
    (at : slice_get t.links place ≡ Some l) (goes : goes_to t l port ≡ true) (z : Terms)
    (rule : z.rule ≡ rule_of t l) (latency : z.latency_ns ≡ 1000 * l.latency_us)
    (byte : z.byte_ns ≡ byte_ns_at t port) where
  one-in-time : (d : Leaving) → is_leaving l.vl side port d ≡ true → LeavesAsPromised t d → IsInTime z d
  one-in-time d own h =
      let parts = and_parts (is_side side d.side && (d.port == port)) (names l.vl d.frame.bytes) own in
      let here : d.port ≡ port = eqb-true d.port port (and_parts (is_side side d.side) (d.port == port) parts.0).1 in
      let link : h.link ≡ l = one-link t lawful h.place place h.link l h.stands at d.frame.bytes h.named parts.1 in
      let slow : h.link.latency_us ≡ l.latency_us = ap (λ (k : LinkRow). k.latency_us) link in
      let bytes : byte_ns_at t d.port ≡ z.byte_ns = ap (byte_ns_at t) here ∙ sym byte in
      let soon : d.frame.time + wire_of (length d.frame.bytes) * z.byte_ns ≤ d.time =
      subst (λ (n : ℕ). d.frame.time + wire_of (length d.frame.bytes) * n ≤ d.time) bytes h.no_sooner in
      let less = shorter (length d.frame.bytes) z.byte_ns in
      let within = h.within in
      record {
        no_sooner = omega (arith, soon, less);
        in_time = omega (arith, within, slow, latency);
      }

  all-in-time : (ds : List Leaving) → AllByRecursion (LeavesAsPromised t) ds
      → AllByRecursion (IsInTime z) (filter (is_leaving l.vl side port) ds)
  all-in-time [] all = tt
  all-in-time (d ∷ ds) all = by (is_leaving l.vl side port d) refl (all-in-time ds all.1)
    where
      by : (b : Bool) → is_leaving l.vl side port d ≡ b
          → AllByRecursion (IsInTime z) (filter (is_leaving l.vl side port) ds)
          → AllByRecursion (IsInTime z)
          (if b then d ∷ filter (is_leaving l.vl side port) ds else filter (is_leaving l.vl side port) ds)
      by true e rest = (one-in-time d e all.0, rest)
      by false e rest = rest

  -- what left of a link at a port are the frames that the rule accepts, in time
  pub stream-frames : (arrivals : List Arrival) (left : List Leaving) (ys : List Gone) → LeaveAsPromised t arrivals left
      → AreGone (filter (is_leaving l.vl side port) left) ys
      → AreTheirFrames z (accepted_arrivals z.rule (own l.vl side arrivals)) ys
  stream-frames arrivals left ys promised gone =
      let here = port-here t l port lawful goes in
      their-frames z (accepted_arrivals z.rule (own l.vl side arrivals)) (filter (is_leaving l.vl side port) left) ys
      (promised.frames side port place l here.low here.high at
      ∙ ap (λ b. if b then map passing (accepted_on t l side arrivals) else []) goes
      ∙ ap (λ (r : Rule). map passing (accepted_arrivals r (own l.vl side arrivals))) (sym rule))
      (all-in-time left promised.each) gone
