-- A run that finds nothing of a switch.
use Rattle.std.proofs.Common.{◌≡◌, ℕ, zero, suc, ◌+◌, Bool, true, false, true≢false, ◌&&◌, ◌||◌, List, [], ◌∷◌, length, refl, sym, ap, ◌∙◌, subst, arith}
use Rattle.std.proofs.lemmas.Bool.{eqb-true, ltb-false}
use Rattle.std.specs.List.{list_any}
use Rattle.std.specs.Prelude.{filter, if◌then◌else◌, nat_eq, nat_le, nat_lt, not, slice_get, Some}
use Rattle.afdx_config.specs.Rows.{LinkRow, Rows}
use Rattle.afdx_conform.specs.LimitRanges.{most_bytes}
use Rattle.afdx_frame.specs.declared.link.Side.{Side}
use Rattle.afdx_frame.specs.declared.link.Side.TheVariants.{A, B}
use Rattle.afdx_input_runs.specs.Joining.{Frame}
use Rattle.afdx_law_bounds.specs.Tables.{port_of}
use Rattle.afdx_text.specs.declared.conform_line.Answer.TheVariants.{Conforms, Deviates, Undecided}
use Rattle.afdx_text.specs.declared.conform_line.Conclusion.{Conclusion}
use Rattle.afdx_command_conform.specs.Choices.{Choices, counted, counts, is_in_time, is_missed, is_passed}
use Rattle.afdx_command_conform.specs.Counting.{Counted, counted_at, totals_of}
use Rattle.afdx_command_conform.specs.QuietRuns.{LastLineIsQuiet, NoneLeftOutCounts, NoneUnseenIsJudged, NothingFoundIsQuiet}
use Rattle.afdx_command_conform.specs.Sight.{Sight}
use Rattle.afdx_command_conform.specs.Tapped.{is_judged, unseen_among, unseen_to}
use Rattle.afdx_command_conform.specs.Totals.{answer_of, is_unexercised}
use Rattle.afdx_command_conform.specs.VerdictLaws.{end_of}
use Rattle.afdx_command_conform.specs.declared.totals.Totals.{Totals}
use Rattle.afdx_command_conform.proofs.FoundLemmas.{all-quiet, quiet-streams}
use Rattle.afdx_command_conform.proofs.OutletLemmas.{goes-port, port-is}
use Rattle.afdx_command_conform.proofs.PartLemmas.{at-judged, is-part, judged-parts}
use Rattle.afdx_command_conform.proofs.TappedLemmas.{to-judged}

-- ---- each stream

pub nothing_found : NothingFoundIsQuiet
nothing_found k frames lines lawful are none closed side place port l is =
    let quiet = quiet-streams k.0 k.1 (end_of k frames) frames lawful lines are (all-quiet lines none) in
    let p = judged-parts k.0 k.1 (end_of k frames) frames side place port l is in
    let less = (is-part k.0 k.1 (end_of k frames) frames side place p.system l p.at p.goes).open_less in
    let here : (counted_at k.0 k.1 (end_of k frames) frames side l port).waiting ≡ 0 =
    subst (λ (q : ℕ). (counted_at k.0 k.1 (end_of k frames) frames side l q).waiting ≡ 0) p.port_is
    (omega (arith, less, closed)) in
    record {
      nothing = quiet.1 side place port l is;
      closed = ap (λ (n : Counted). n.waiting)
          (sym (at-judged k.0 k.1 (end_of k frames) frames side l port p.judged))
          ∙ here;
    }

none-counted : (n : Totals) → ((findings : ℕ) → answer_of n ≡ Deviates findings → ⊥) → n.findings ≡ 0
none-counted n never = by (nat_lt 0 n.findings) refl (never n.findings)
  where
    by : (b : Bool) → nat_lt 0 n.findings ≡ b
        → ((if b then Deviates n.findings
        else if n.is_unsure || nat_eq n.explained 0 || is_unexercised n then Undecided else Conforms)
        ≡ Deviates n.findings → ⊥)
        → n.findings ≡ 0
    by true e none = absurd (none refl)
    by false e none = let le = ltb-false 0 n.findings e in omega (arith, le)

pub last_line : LastLineIsQuiet
last_line k frames lines last lawful all never closed =
    let n = totals_of k frames all.dues in
    let none : n.findings ≡ 0 =
    none-counted n (λ findings e. never findings (ap (λ (c : Conclusion). c.answer) all.last_is ∙ e)) in
    nothing_found k frames all.dues lawful all.are_lines (omega (arith, none))
    (sym (ap (λ (c : Conclusion). c.waiting) all.last_is) ∙ closed)

-- ---- all are judged

module _ (t : Rows) (sight : Sight) (side : Side) where
  to-all : (l : LinkRow) (system : ℕ) (to : List ℕ) → unseen_to t sight side l to ≡ 0
      → list_any (λ place. nat_eq place system) to ≡ true → is_judged t sight side l (port_of t system) ≡ true
  unfolding unseen_to
  to-all l system [] none goes = absurd (true≢false (sym goes))
  to-all l system (x ∷ to) none goes =
      by (is_judged t sight side l (port_of t x)) (nat_eq x system) refl refl none goes (to-all l system to)
    where
      by : (b e : Bool) → is_judged t sight side l (port_of t x) ≡ b → nat_eq x system ≡ e
          → (if b then 0 else 1) + unseen_to t sight side l to ≡ 0
          → (e || list_any (λ place. nat_eq place system) to) ≡ true
          → (unseen_to t sight side l to ≡ 0 → list_any (λ place. nat_eq place system) to ≡ true
          → is_judged t sight side l (port_of t system) ≡ true)
          → is_judged t sight side l (port_of t system) ≡ true
      by false e is same none goes more = absurd (omega (arith, none))
      by true true is same none goes more =
          ap (λ (n : ℕ). is_judged t sight side l (port_of t n)) (sym (eqb-true x system same)) ∙ is
      by true false is same none goes more = more (omega (arith, none)) goes

  among-all : (links : List LinkRow) (place : ℕ) (l : LinkRow) → unseen_among t sight side links ≡ 0
      → slice_get links place ≡ Some l → unseen_to t sight side l l.to ≡ 0
  unfolding unseen_among
  among-all [] place l none at = absurd (cc)
  among-all (k ∷ links) zero l none at =
      let same : k ≡ l = cc in
      let here : unseen_to t sight side k k.to ≡ 0 = omega (arith, none) in
      subst (λ (m : LinkRow). unseen_to t sight side m m.to ≡ 0) same here
  among-all (k ∷ links) (suc place) l none at = among-all links place l (omega (arith, none)) at

pub none_unseen : NoneUnseenIsJudged
none_unseen t sight side place system l s lawful none at there goes =
    to-judged t sight side place s.port l (goes-port t place l system s lawful at there goes)
    (subst (λ (p : ℕ). is_judged t sight side l p ≡ true) (port-is t system s there)
    (to-all t sight side l system l.to (among-all t sight side t.links place l (by side) at) goes))
  where
    by : (x : Side) → unseen_among t sight x t.links ≡ 0
    by A = omega (arith, none)
    by B = omega (arith, none)

-- ---- none is left out

none-missed : (t : Rows) (c : Choices) (frames : List Frame) → length (filter (is_missed t c) frames) ≡ 0
    → counted t c frames
    ≡ filter (λ x. is_in_time c x && nat_le (length x.arrival.bytes) most_bytes) frames
unfolding counts is_missed
none-missed t c [] h = refl
none-missed t c (x ∷ frames) h =
    by (is_in_time c x) (is_passed t c x) (nat_le (length x.arrival.bytes) most_bytes) h (none-missed t c frames)
  where
    rest : List Frame
    rest = filter (λ y. is_in_time c y && nat_le (length y.arrival.bytes) most_bytes) frames

    by : (a b s : Bool) → length (if a && b then x ∷ filter (is_missed t c) frames else filter (is_missed t c) frames)
        ≡ 0
        → (length (filter (is_missed t c) frames) ≡ 0 → counted t c frames ≡ rest)
        → (if a && not b && s then x ∷ counted t c frames else counted t c frames)
        ≡ (if a && s then x ∷ rest else rest)
    by true true s k more = absurd (omega (arith, k))
    by true false true k more = ap (λ (l : List Frame). x ∷ l) (more k)
    by true false false k more = more k
    by false b s k more = more k

pub none_left_out : NoneLeftOutCounts
none_left_out t c frames h = none-missed t c frames h
