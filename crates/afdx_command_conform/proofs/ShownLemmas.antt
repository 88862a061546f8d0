-- Where a run conforms and nothing is open.
use Rattle.std.proofs.Common.{◌≡◌, ℕ, ◌+◌, ◌-◌, ◌≤◌, Bool, true, false, List, [], ◌∷◌, ◌++◌, length, reverse, refl, sym, ap, ◌∙◌, subst, arith}
use Rattle.std.proofs.lemmas.List.{length-reverse, reverse-reverse}
use Rattle.std.specs.Prelude.{nat_le, if◌then◌else◌}
use Rattle.std.specs.List.{filter}
use Rattle.afdx_police.specs.Arrival.{Arrival}
use Rattle.afdx_conform.proofs.HeadlineLemmas.{exact_shows_all}
use Rattle.afdx_conform.proofs.HidingLemmas.{what_passed}
use Rattle.afdx_conform.proofs.OpenLemmas.{open_least}
use Rattle.afdx_conform.specs.Events.{GoUp, arrival_times}
use Rattle.afdx_conform.specs.Explanations.{ArePairs, accepted_in}
use Rattle.afdx_conform.specs.Findings.{Judged}
use Rattle.afdx_conform.specs.Headline.{GoByTime, sound_of}
use Rattle.afdx_conform.specs.Hiding.{KeepAll}
use Rattle.afdx_conform.specs.Histories.{counts_of, counts_with, judged_of, least_waiting, uncut}
use Rattle.afdx_conform.specs.Leeway.{reach}
use Rattle.afdx_conform.specs.Open.{AreLeastOpen}
use Rattle.afdx_conform.specs.Streams.{Gone, Terms}
use Rattle.afdx_command_conform.specs.Counting.{Counted, counted_at, totals_of}
use Rattle.afdx_command_conform.specs.Frames.{arrivals_of, frames_of, terms_at}
use Rattle.afdx_command_conform.specs.VerdictLaws.{ConformsShowsAll, ExactShowsTheRule, IsShown, end_of}
use Rattle.afdx_command_conform.proofs.ByTimeLemmas.{arrivals-by-time, arrivals-go, sound-by-time}
use Rattle.afdx_command_conform.proofs.FoundLemmas.{all-quiet, quiet-streams}
use Rattle.afdx_command_conform.proofs.PartLemmas.{at-judged, is-part, judged-parts}
use Rattle.afdx_command_conform.proofs.RunLawLemmas.{Whole, bag-of, whole-is}
use Rattle.afdx_command_conform.proofs.VerdictLemmas.{conform-then, conforms-parts, found-zero, uncut-length}

-- ---- what passes a test is no more

few : {X : Type 0} (test : X → Bool) (xs : List X) → length (filter test xs) ≤ length xs
few test [] = omega arith
few test (x ∷ xs) = by (test x) (few test xs)
  where
    by : (b : Bool) → length (filter test xs) ≤ length xs → length (if b then x ∷ filter test xs else filter test xs)
        ≤ length (x ∷ xs)
    by true le = omega (arith, le)
    by false le = omega (arith, le)

all-pass : {X : Type 0} (test : X → Bool) (xs : List X) → length xs ≤ length (filter test xs) → filter test xs ≡ xs
all-pass test [] h = refl
all-pass test (x ∷ xs) h = by (test x) h (λ k. all-pass test xs k)
  where
    by : (b : Bool) → length (x ∷ xs) ≤ length (if b then x ∷ filter test xs else filter test xs)
        → (length xs ≤ length (filter test xs) → filter test xs ≡ xs)
        → (if b then x ∷ filter test xs else filter test xs) ≡ x ∷ xs
    by true k more = ap (λ l. x ∷ l) (more (omega (arith, k)))
    by false k more = absurd (let le = few test xs in omega (arith, k, le))

-- ---- one stream

no-list : {X : Type 0} (xs : List X) → length xs ≡ 0 → xs ≡ []
no-list [] h = refl
no-list (x ∷ xs) h = absurd (omega (arith, h))

-- nothing of it is cut off, and nothing waits
open-parts : (z : Terms) (xs : List Arrival) (ys : List Gone) → (judged_of z xs ys).is_unsure ≡ false
    → (counts_of z xs ys).waiting ≡ 0
    → (length ys - length (uncut z ys) ≡ 0) × (least_waiting (judged_of z xs ys).states ≡ 0)
open-parts z xs ys sure h =
    let all : length ys - length (uncut z ys) + least_waiting (judged_of z xs ys).states ≡ 0 =
    subst
    (λ (b : Bool). (if b then counts_with 0 0 0 else counts_with (length (uncut z ys) - (judged_of z xs ys).frames)
    (length ys - length (uncut z ys) + least_waiting (judged_of z xs ys).states)
    (judged_of z xs ys).uncertain).waiting ≡ 0)
    sure h in
    (omega (arith, all), omega (arith, all))

module _ (z : Terms) (own : List Arrival) (left : List Gone) (order : GoUp (arrival_times (reverse own)))
    (times : GoByTime (sound_of z.rule own)) (sure : (judged_of z (reverse own) (reverse left)).is_unsure ≡ false)
    (none : (judged_of z (reverse own) (reverse left)).findings ≡ []) where
  least : AreLeastOpen z (sound_of z.rule own) (uncut z left) (least_waiting (Whole z own left).states)
  least =
      subst (λ (l : List Arrival). AreLeastOpen z (sound_of z.rule l) (uncut z left)
      (least_waiting (Whole z own left).states))
      (reverse-reverse own)
      (subst (λ (l : List Gone). AreLeastOpen z (sound_of z.rule (reverse (reverse own))) l
      (least_waiting (Whole z own left).states))
      (reverse-reverse (uncut z left))
      (open_least z (reverse own) (reverse (uncut z left)) order
      (ap (λ (j : Judged). j.is_unsure) (sym (whole-is z own left)) ∙ sure)
      (ap (λ (j : Judged). j.findings) (sym (whole-is z own left)) ∙ none)))

  shown : (counts_of z (reverse own) (reverse left)).waiting ≡ 0 → IsShown z (sound_of z.rule own) left
  shown h =
      let parts = open-parts z (reverse own) (reverse left) sure h in
      let count = uncut-length z left in
      let turned = length-reverse left in
      let off = parts.0 in
      let all : uncut z left ≡ left =
      all-pass (λ y. nat_le (y.time + reach z.by) z.until) left (omega (arith, count, turned, off)) in
      let e = least.some in
      let waits : e.waiting ≡ [] = no-list e.waiting
      (least.are_so_many ∙ ap (λ (j : Judged). least_waiting j.states) (sym (whole-is z own left)) ∙ parts.1) in
      let accepted : accepted_in e.answers ≡ e.took = e.accepted ∙ ap (λ (l : List Arrival). l ++ e.took) waits in
      record {
        answers = e.answers;
        are_answered = e.are_answered;
        are_allowed = e.are_allowed;
        are_pairs = subst (λ (l : List Arrival). ArePairs z l left) (sym accepted)
            (subst (λ (l : List Gone). ArePairs z e.took l) all e.are_pairs);
        windows = subst (λ (l : List Arrival). KeepAll z l) (sym e.accepted)
            (what_passed z (sound_of z.rule own) (uncut z left) times e);
      }

-- ---- all of them

pub shows_all : ConformsShowsAll
shows_all k frames lines run conforms closed side place port l is =
    let parts = conforms-parts (totals_of k frames lines) conforms in
    let sure = (conform-then k frames lines run conforms).1 in
    let quiet = quiet-streams k.0 k.1 (end_of k frames) frames run.lawful lines run.are_lines
    (all-quiet lines (found-zero k frames lines run parts.none)) in
    let p = judged-parts k.0 k.1 (end_of k frames) frames side place port l is in
    let own = arrivals_of k.0 k.1 l.vl side frames in
    let left = frames_of k.0 k.1 l.vl side port frames in
    let less = (is-part k.0 k.1 (end_of k frames) frames side place p.system l p.at p.goes).open_less in
    let here : (counted_at k.0 k.1 (end_of k frames) frames side l port).waiting ≡ 0 =
    subst (λ (q : ℕ). (counted_at k.0 k.1 (end_of k frames) frames side l q).waiting ≡ 0) p.port_is
    (omega (arith, less, closed)) in
    shown (terms_at k.0 k.1 (end_of k frames) l port) own left
    (arrivals-go k.0 k.1 frames run.by_time l.vl side)
    (sound-by-time (k.1.sight.rule l) own (arrivals-by-time k.0 k.1 frames run.by_time l.vl side))
    (sure side place port l is) (quiet.1 side place port l is)
    (ap (λ (n : Counted). n.waiting) (sym (at-judged k.0 k.1 (end_of k frames) frames side l port p.judged)) ∙ here)

-- ---- with exact stamps and clocks

pub shows_the_rule : ExactShowsTheRule
shows_the_rule k frames lines exact bags run conforms closed =
    let all = shows_all k frames lines run conforms closed in
    record {
      none_strange = (conform-then k frames lines run conforms).2.none_strange;
      streams = λ side place port l is.
          let s = all side place port l is in
          exact_shows_all (terms_at k.0 k.1 (end_of k frames) l port) (arrivals_of k.0 k.1 l.vl side frames)
          (frames_of k.0 k.1 l.vl side port frames) s.answers
          (record {
            account = record { slack = exact.slack; drift = exact.drift; asked = exact.asked; start = exact.start };
            between = exact.between;
          })
          (bag-of k.0 k.1 side place port l bags is) (arrivals-by-time k.0 k.1 frames run.by_time l.vl side)
          s.are_answered s.are_allowed s.are_pairs;
    }
