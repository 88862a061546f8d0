-- What is needed at one output port, and at one more.
use Rattle.std.proofs.Common.{◌≡◌, ℕ, ◌+◌, ◌<◌, ◌≤◌, max, List, [], ◌∷◌, Option, Some, slice_get, refl, sym, ap}
use Rattle.std.proofs.Common.{◌∙◌, ◌||◌, not, nat_lt, add-one, arith, min, subst, Bool, true, false}
use Rattle.std.specs.List.{AllByRecursion}
use Rattle.std.specs.Option.{option_map_or}
use Rattle.std.proofs.lemmas.Option.{same_Some}
use Rattle.afdx_frame.specs.declared.link.Priority.{Priority}
use Rattle.afdx_frame.specs.declared.link.Priority.TheVariants.{High, Low}
use Rattle.afdx_config.specs.declared.rows.Times.{Times}
use Rattle.afdx_config.specs.Rows.{SystemRow, LinkRow, Rows}
use Rattle.afdx_config.specs.Reading.{greatest_delay}
use Rattle.afdx_config.proofs.LawfulLinkLemmas.{with-others}
use Rattle.afdx_config.specs.Lawful.{IsWithin, IsLinkAmong, jitter_from_system, jitter_from_any}
use Rattle.afdx_config.specs.Changed.{with_times}
use Rattle.afdx_admit.specs.Lines.{loaded_output_to, buffer_need_of, jitter_at}
use Rattle.afdx_solve.specs.declared.options.SolveOptions.{SolveOptions}
use Rattle.afdx_solve.specs.declared.delays.Delays.{Delays}
use Rattle.afdx_solve.specs.Solved.{class_bound, in_us, delay_to, latency_over, need_to, greatest_need}
use Rattle.afdx_solve.specs.Solved.{chosen, with_delays_for, least_jitter, with_jitter_for, keeps_jitter, with_jitter}
use Rattle.afdx_solve.specs.Delays.{AreDelays, of_class}

pub delay-stands : (t : Rows) (class : Priority) (place : ℕ) (s : SystemRow) → slice_get t.systems place ≡ Some s
    → delay_to t class place ≡ in_us (class_bound class (loaded_output_to t place s))
unfolding delay_to
delay-stands t class place s at =
    ap (λ (o : Option SystemRow). option_map_or (λ r. in_us (class_bound class (loaded_output_to t place r))) o 0) at

pub need-stands : (t : Rows) (place : ℕ) (s : SystemRow) → slice_get t.systems place ≡ Some s
    → need_to t place ≡ buffer_need_of (loaded_output_to t place s)
need-stands t place s at =
    ap (λ (o : Option SystemRow). option_map_or (λ r. buffer_need_of (loaded_output_to t place r)) o 0) at

pub greatest_need-more : (t : Rows) (place : ℕ)
    → greatest_need t (place + 1) ≡ max (greatest_need t place) (need_to t place)
unfolding greatest_need
greatest_need-more t place = rw add-one refl

-- places that are all within agree where the delays do
pub latency_over-same : (f g : ℕ → ℕ) (count : ℕ)
    → ((place : ℕ) → place < count → f place ≡ g place) → (places : List ℕ)
    → AllByRecursion (λ p. p < count) places → latency_over f places ≡ latency_over g places
unfolding latency_over
latency_over-same f g count same [] h = refl
latency_over-same f g count same (p ∷ ps) h =
    ap (λ n. max n (latency_over f ps)) (same p h.0) ∙ ap (max (g p)) (latency_over-same f g count same ps h.1)

pub all_within : (few many : ℕ) → few ≤ many → (places : List ℕ) → AllByRecursion (λ p. p < few) places
    → AllByRecursion (λ p. p < many) places
all_within few many le [] h = tt
all_within few many le (p ∷ ps) h = (omega (arith, le, h.0), all_within few many le ps h.1)

-- ---- what a link takes, it may have

pub chosen-within : (keep raise_only : Bool) (low high as_is least : ℕ) → IsWithin low high as_is
    → IsWithin low high least
    → IsWithin low high (chosen keep raise_only as_is least)
chosen-within true raise_only low high as_is least a b = a
chosen-within false true low high as_is least a b = (omega (arith, a.0), omega (arith, a.1, b.1))
chosen-within false false low high as_is least a b = b

pub latency_over-some : (f : ℕ → ℕ) (places : List ℕ) → 1 ≤ latency_over f places
unfolding latency_over
latency_over-some f [] = omega arith
latency_over-some f (p ∷ ps) = omega (arith, latency_over-some f ps)

module _ (own systems : ℕ) (link : LinkRow) (h : IsLinkAmong own systems link) where
  delays-lawful : (o : SolveOptions) (needed : ℕ) → 1 ≤ needed
      → IsLinkAmong own systems (with_delays_for o needed link)
  delays-lawful o needed some =
      let latency = chosen-within o.kept.latency o.raise_only 1 greatest_delay link.latency_us
      (min greatest_delay needed) h.link.latency_us (omega (arith, some), omega arith) in
      let new = with_delays_for o needed link in
      record {
        link = with-others jitter_from_any jitter_from_any systems link h.link link.policing link.jitter_us
            new.latency_us new.skew_us h.link.jitter_us.1 latency
            (chosen-within o.kept.skew o.raise_only 1 greatest_delay link.skew_us _ h.link.skew_us
            (omega (arith, latency.0), omega arith));
        sent = h.sent;
      }

  jitter-lawful : (keep raise_only : Bool) (needed : ℕ)
      → IsLinkAmong own systems (with_jitter_for keep raise_only needed link)
  jitter-lawful keep raise_only needed = record {
    link =
        let new = with_jitter_for keep raise_only needed link in
        let jitter = chosen-within keep raise_only 0 (jitter_from_any link.bag_ms) link.jitter_us
        (least_jitter needed link) h.link.jitter_us (omega arith, omega arith) in
        with-others jitter_from_any jitter_from_any systems link h.link link.policing new.jitter_us
        link.latency_us link.skew_us jitter.1 h.link.latency_us h.link.skew_us;
    sent = λ from. (chosen-within keep raise_only 0 (jitter_from_system link.bag_ms) link.jitter_us
        (least_jitter needed link) (omega arith, h.sent from) (omega arith, omega arith)).1;
  }

  times-are : (l new : LinkRow) (times : Times) → Some link ≡ Some l → with_times times link ≡ new
      → IsLinkAmong own systems new → IsLinkAmong own systems (with_times times l)
  times-are l new times same e may =
      subst (λ r. IsLinkAmong own systems (with_times times r)) (same_Some link l same)
      (subst (IsLinkAmong own systems) (sym e) may)

  pub times-lawful : (o : SolveOptions) (times : Times) (needed : ℕ) (l : LinkRow) → Some link ≡ Some l
      → with_times times link ≡ with_delays_for o needed link → 1 ≤ needed
      → IsLinkAmong own systems (with_times times l)
  times-lawful o times needed l same e some =
      times-are l (with_delays_for o needed link) times same e (delays-lawful o needed some)

  pub jitters-lawful : (keep raise_only : Bool) (times : Times) (needed : ℕ) (l : LinkRow) → Some link ≡ Some l
      → with_times times link ≡ with_jitter_for keep raise_only needed link
      → IsLinkAmong own systems (with_times times l)
  jitters-lawful keep raise_only times needed l same e =
      times-are l (with_jitter_for keep raise_only needed link) times same e (jitter-lawful keep raise_only needed)

-- while links are changed, which come from neighbours stays
pub jitter-stands : (o : SolveOptions) (t now : Rows) (l : LinkRow) (times : Times) (needed : ℕ) → now.own ≡ t.own
    → needed ≡ jitter_at t l.from
    → with_times times l ≡ with_jitter_for (keeps_jitter o now l) o.raise_only needed l
    → with_times times l ≡ with_jitter o t l
jitter-stands o t now l times needed own is taken =
    taken
    ∙ ap (λ own. with_jitter_for (o.kept.jitter || not (nat_lt l.from own)) o.raise_only needed l) own
    ∙ ap (λ n. with_jitter_for (keeps_jitter o t l) o.raise_only n l) is

pub delays-of_class : (t : Rows) (d : Delays) → AreDelays t High d.high → AreDelays t Low d.low → (class : Priority)
    → AreDelays t class (of_class class d)
delays-of_class t d high low High = high
delays-of_class t d high low Low = low
