-- What the window rule accepts is what was sent, and what left is what it accepts.
use Rattle.std.proofs.Common.{◌≡◌, ℕ, ◌+◌, ◌-◌, ◌≤◌, Bool, true, false, List, [], ◌∷◌, ◌++◌, length, map, reverse, refl}
use Rattle.std.proofs.Common.{sym, ap, ◌∙◌, subst, arith}
use Rattle.std.specs.Prelude.{IsTrue, ◌==◌, nat_le, is_none, if◌then◌else◌, Option, Some, None, filter}
use Rattle.std.specs.List.{AllByRecursion}
use Rattle.std.specs.Option.{option_or}
use Rattle.std.proofs.lemmas.Bool.{cond-true, cond-false, eq-eqb}
use Rattle.std.proofs.lemmas.List.{reverse-reverse}
use Rattle.afdx_frame.specs.Regulation.{is_bag}
use Rattle.afdx_frame.specs.Sides.{is_side}
use Rattle.afdx_frame.specs.declared.link.Side.{Side}
use Rattle.afdx_police.specs.Arrival.{Arrival}
use Rattle.afdx_police.specs.Rule.{Rule}
use Rattle.afdx_police.specs.Shape.{fault_of}
use Rattle.afdx_police.specs.Verdicts.{accepted_arrivals, accepted_own, charged_by, drop_reason, reason_after}
use Rattle.afdx_police.specs.Window.{Charged}
use Rattle.afdx_police.specs.declared.shape.Reason.{Reason}
use Rattle.afdx_police.proofs.ShapeLemmas.{faultless-is-sound}
use Rattle.afdx_conform.specs.Events.{GoUp, arrival_times, judged_whole}
use Rattle.afdx_conform.specs.Explanations.{ArePairs, accepted_in}
use Rattle.afdx_conform.specs.Findings.{Judged}
use Rattle.afdx_conform.specs.Headline.{AreTheirFrames, GoByTime, IsExact, sound_of}
use Rattle.afdx_conform.specs.Histories.{counts_of, counts_with, judged_of, least_waiting, uncut}
use Rattle.afdx_conform.specs.Leeway.{Leeway, reach}
use Rattle.afdx_conform.specs.Open.{AreLeastOpen}
use Rattle.afdx_conform.specs.Streams.{Gone, Terms}
use Rattle.afdx_conform.proofs.EveryLemmas.{every-append, every-reverse, reverse-first}
use Rattle.afdx_conform.proofs.HeadlineLemmas.{exact_shows_all}
use Rattle.afdx_conform.proofs.OpenLemmas.{open_least}
use Rattle.afdx_conform.proofs.SureLemmas.{exact_sure}
use Rattle.afdx_lawful.specs.Accepted.{arrival_of, arrivals_of}
use Rattle.afdx_lawful.specs.Sources.{Came, Source, on_side}
use Rattle.afdx_lawful.proofs.AcceptedLemmas.{lawful_accepted}
use Rattle.afdx_law_recorded.specs.OneSide.{AreItsArrivals, AreOfOneLink, IsShown, SentIsWhatLeft, by_itself}

-- ---- what came at a wrong port is neither accepted nor charged

wrong-port : (rule : Rule) (port : ℕ) (bytes : List ℕ) → (rule.port == port) ≡ false →
    is_none (fault_of (Some rule) port bytes) ≡ false
wrong-port rule port bytes wrong = by (fault_of (Some rule) port bytes) refl
  where
    by : (o : Option Reason) → fault_of (Some rule) port bytes ≡ o → is_none o ≡ false
    by None h =
        let right : (rule.port == port) ≡ true =
        eq-eqb rule.port port ((faultless-is-sound rule port bytes).0 h).at_port in
        absurd (cc (wrong, right))
    by (Some reason) h = refl

refused-too : (o more : Option Reason) → is_none o ≡ false → is_none (option_or o more) ≡ false
refused-too None more h = absurd (cc h)
refused-too (Some reason) more h = refl

record AreSame (rule : Rule) (own at_port : List Arrival) : Type 0 where
  charged : accepted_own rule own ≡ accepted_own rule at_port
  accepted : accepted_arrivals rule own ≡ accepted_arrivals rule at_port

module _ (rule : Rule) where
  abbrev those_at_port : List Arrival → List Arrival
  those_at_port own = filter (λ (x : Arrival). rule.port == x.port) own

  passed-over : (x : Arrival) (past : List Arrival) → (rule.port == x.port) ≡ false →
      AreSame rule past (those_at_port past) → AreSame rule (x ∷ past) (those_at_port past)
  unfolding accepted_own accepted_arrivals reason_after
  passed-over x past wrong same =
      let refused : is_none (drop_reason rule (accepted_own rule past) x) ≡ false =
      refused-too (fault_of (Some rule) x.port x.bytes) _ (wrong-port rule x.port x.bytes wrong) in
      record {
        charged = cond-false (is_none (drop_reason rule (accepted_own rule past) x))
            (charged_by rule x ∷ accepted_own rule past) (accepted_own rule past) refused ∙ same.charged;
        accepted = cond-false (is_none (drop_reason rule (accepted_own rule past) x))
            (x ∷ accepted_arrivals rule past) (accepted_arrivals rule past) refused ∙ same.accepted;
      }

  taken-over : (x : Arrival) (past : List Arrival) → AreSame rule past (those_at_port past) →
      AreSame rule (x ∷ past) (x ∷ those_at_port past)
  unfolding accepted_own accepted_arrivals reason_after
  taken-over x past same = record {
    charged =
        ap (λ (l : List Charged). if is_none (drop_reason rule l x) then charged_by rule x ∷ l else l) same.charged;
    accepted =
        ap (λ (l : List Charged). if is_none (drop_reason rule l x) then x ∷ accepted_arrivals rule past
        else accepted_arrivals rule past) same.charged
        ∙ ap (λ (l : List Arrival). if is_none (drop_reason rule (accepted_own rule (those_at_port past)) x) then x ∷ l
        else l) same.accepted;
  }

  only-at-port : (own : List Arrival) → AreSame rule own (those_at_port own)
  only-at-port [] = record { charged = refl; accepted = refl }
  only-at-port (x ∷ past) = by (rule.port == x.port) refl (only-at-port past)
    where
      by : (b : Bool) → (rule.port == x.port) ≡ b → AreSame rule past (those_at_port past) →
          AreSame rule (x ∷ past) (if b then x ∷ those_at_port past else those_at_port past)
      by true right same = taken-over x past same
      by false wrong same = passed-over x past wrong same

-- ---- by time, from the other end

up-last : (ts : List ℕ) (t : ℕ) → GoUp ts → AllByRecursion (λ u. u ≤ t) ts → GoUp (ts ++ (t ∷ []))
unfolding GoUp
up-last [] t h k = (tt, tt)
up-last (u ∷ ts) t h k = (every-append (λ v. u ≤ v) ts (t ∷ []) h.0 (k.0, tt), up-last ts t h.1 k.1)

times-last : (xs : List Arrival) (x : Arrival) → arrival_times (xs ++ x ∷ []) ≡ arrival_times xs ++ (x.time ∷ [])
times-last [] x = refl
times-last (y ∷ xs) x = ap (λ l. y.time ∷ l) (times-last xs x)

every-time : (t : ℕ) (xs : List Arrival) → AllByRecursion (λ w. w.time ≤ t) xs →
    AllByRecursion (λ u. u ≤ t) (arrival_times xs)
every-time t [] h = tt
every-time t (x ∷ xs) h = (h.0, every-time t xs h.1)

pub goes-up : (own : List Arrival) → GoByTime own → GoUp (arrival_times (reverse own))
unfolding GoByTime GoUp
goes-up [] h = tt
goes-up (x ∷ past) h =
    subst (λ (l : List Arrival). GoUp (arrival_times l)) (sym (reverse-first x past))
    (subst (λ (l : List ℕ). GoUp l) (sym (times-last (reverse past) x))
    (up-last (arrival_times (reverse past)) x.time (goes-up past h.1)
    (every-time x.time (reverse past) (every-reverse (λ w. w.time ≤ x.time) past h.0))))

-- ---- a stream of which nothing is found, and of which nothing is open

few : {X : Type 0} (test : X → Bool) (xs : List X) → length (filter test xs) ≤ length xs
few test [] = omega arith
few test (x ∷ xs) = by (test x) (few test xs)
  where
    by : (b : Bool) → length (filter test xs) ≤ length xs → length (if b then x ∷ filter test xs else filter test xs)
        ≤ length (x ∷ xs)
    by true le = omega (arith, le)
    by false le = omega (arith, le)

all-pass : {X : Type 0} (test : X → Bool) (xs : List X) → length xs ≤ length (filter test xs) → filter test xs ≡ xs
all-pass test [] h = refl
all-pass test (x ∷ xs) h = by (test x) h (λ k. all-pass test xs k)
  where
    by : (b : Bool) → length (x ∷ xs) ≤ length (if b then x ∷ filter test xs else filter test xs)
        → (length xs ≤ length (filter test xs) → filter test xs ≡ xs)
        → (if b then x ∷ filter test xs else filter test xs) ≡ x ∷ xs
    by true k more = ap (λ l. x ∷ l) (more (omega (arith, k)))
    by false k more = absurd (let le = few test xs in omega (arith, k, le))

no-list : {X : Type 0} (xs : List X) → length xs ≡ 0 → xs ≡ []
no-list [] h = refl
no-list (x ∷ xs) h = absurd (omega (arith, h))

open-parts : (z : Terms) (xs : List Arrival) (ys : List Gone) → (judged_of z xs ys).is_unsure ≡ false
    → (counts_of z xs ys).waiting ≡ 0
    → (length ys - length (uncut z ys) ≡ 0) × (least_waiting (judged_of z xs ys).states ≡ 0)
open-parts z xs ys sure h =
    let all : length ys - length (uncut z ys) + least_waiting (judged_of z xs ys).states ≡ 0 =
    subst
    (λ (b : Bool). (if b then counts_with 0 0 0 else counts_with (length (uncut z ys) - (judged_of z xs ys).frames)
    (length ys - length (uncut z ys) + least_waiting (judged_of z xs ys).states)
    (judged_of z xs ys).uncertain).waiting ≡ 0)
    sure h in
    (omega (arith, all), omega (arith, all))

module _ (z : Terms) (own : List Arrival) (left : List Gone) (exact : IsExact z) (times : GoByTime own)
    (is : IsShown z own left) where
  abbrev ys : List Gone
  ys = reverse left

  sure : (judged_of z (reverse own) ys).is_unsure ≡ false
  sure = (exact_sure z (uncut z ys) [] _ exact.account).sure

  parts : (length ys - length (uncut z ys) ≡ 0) × (least_waiting (judged_of z (reverse own) ys).states ≡ 0)
  parts = open-parts z (reverse own) ys sure is.closed

  all : uncut z ys ≡ ys
  all = let none = parts.0 in all-pass (λ y. nat_le (y.time + reach z.by) z.until) ys (omega (arith, none))

  judged : judged_of z (reverse own) ys ≡ judged_whole z (reverse own) ys
  judged = ap (judged_whole z (reverse own)) all

  least : AreLeastOpen z (sound_of z.rule own) left 0
  least =
      subst (λ (l : List Arrival). AreLeastOpen z (sound_of z.rule l) left 0) (reverse-reverse own)
      (subst (λ (l : List Gone). AreLeastOpen z (sound_of z.rule (reverse (reverse own))) l 0) (reverse-reverse left)
      (subst (λ (n : ℕ). AreLeastOpen z (sound_of z.rule (reverse (reverse own))) (reverse ys) n)
      (ap (λ (j : Judged). least_waiting j.states) (sym judged) ∙ parts.1)
      (open_least z (reverse own) ys (goes-up own times)
      (ap (λ (j : Judged). j.is_unsure) (sym judged) ∙ sure)
      (ap (λ (j : Judged). j.findings) (sym judged) ∙ is.nothing))))

-- the frames are those of all arrivals that the window rule accepts
pub whole_is_the_rule : (z : Terms) (own : List Arrival) (left : List Gone) → IsExact z →
    IsTrue (is_bag z.rule.bag_ms) → GoByTime own → IsShown z own left →
    AreTheirFrames z (accepted_arrivals z.rule own) left
whole_is_the_rule z own left exact bag times is =
    let e = (least z own left exact times is).some in
    let waits : e.waiting ≡ [] = no-list e.waiting (least z own left exact times is).are_so_many in
    let accepted : accepted_in e.answers ≡ e.took = e.accepted ∙ ap (λ (l : List Arrival). l ++ e.took) waits in
    exact_shows_all z own left e.answers exact bag times e.are_answered e.are_allowed
    (subst (λ (l : List Arrival). ArePairs z l left) (sym accepted) e.are_pairs)

-- ---- what was sent

-- those of a side, of these, are these
own-again : (side : Side) (xs : List Came) → on_side side (on_side side xs) ≡ on_side side xs
own-again side [] = refl
own-again side (x ∷ xs) = by (is_side side x.side) refl (own-again side xs)
  where
    by : (b : Bool) → is_side side x.side ≡ b → on_side side (on_side side xs) ≡ on_side side xs →
        on_side side (if b then x ∷ on_side side xs else on_side side xs)
        ≡ (if b then x ∷ on_side side xs else on_side side xs)
    by true e again =
        cond-true (is_side side x.side) (x ∷ on_side side (on_side side xs)) (on_side side (on_side side xs)) e
        ∙ ap (λ (l : List Came). x ∷ l) again
    by false e again = again

-- where all that was sent is accepted it is what left
pub accepted_left : (s : Source) (z : Terms) (side : Side) (xs : List Came) (own : List Arrival) (left : List Gone) →
    AreOfOneLink s z → accepted_arrivals s.rule (arrivals_of s side xs) ≡ arrivals_of s side xs →
    AreItsArrivals s side xs own → IsShown z own left → AreTheirFrames z (arrivals_of s side xs) left
accepted_left s z side xs own left link all are is =
    let sent : accepted_arrivals s.rule own ≡ arrivals_of s side xs =
    (only-at-port s.rule own).accepted ∙ ap (accepted_arrivals s.rule) are.at_port ∙ all in
    let same : accepted_arrivals z.rule own ≡ arrivals_of s side xs =
    ap (λ (r : Rule). accepted_arrivals r own) link.rule ∙ sent in
    subst (λ (l : List Arrival). AreTheirFrames z l left) same
    (whole_is_the_rule z own left link.exact link.bag are.by_time is)

pub sent_left : SentIsWhatLeft
sent_left s z side xs own left link quiet are is =
    let exact = link.exact.account in
    let slack : s.by.slack ≡ 0 = ap (λ (b : Leeway). b.slack) (sym link.options) ∙ exact.slack in
    let drift : s.by.drift ≡ 0 = ap (λ (b : Leeway). b.drift) (sym link.options) ∙ exact.drift in
    let lawful = lawful_accepted (by_itself s) (on_side side xs) side slack drift quiet.by_time quiet.named
    quiet.nothing in
    let all : accepted_arrivals s.rule (arrivals_of s side xs) ≡ arrivals_of s side xs =
    subst (λ (l : List Came). accepted_arrivals s.rule (map (arrival_of s) l) ≡ map (arrival_of s) l)
    (own-again side xs) lawful in
    accepted_left s z side xs own left link all are is
