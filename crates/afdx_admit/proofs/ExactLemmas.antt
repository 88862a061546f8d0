-- No line is false exactly where the tables are admitted.
use Rattle.std.proofs.Common.{◌≡◌, inl, inr, ℕ, ◌-◌, ◌*◌, ◌<◌, ◌≤◌, Bool, true}
use Rattle.std.proofs.Common.{false, ◌||◌, nat_le, List, [], ◌∷◌, ◌++◌, length, map, cond, Option}
use Rattle.std.proofs.Common.{Some, None, slice_get, refl, sym, ap, subst, ◌∙◌, arith}
use Rattle.std.specs.List.{AllByRecursion}
use Rattle.std.specs.Option.{option_map_or}
use Rattle.std.proofs.lemmas.List.Elements.{All-from_recursion, recursion_from_All}
use Rattle.std.proofs.lemmas.Option.{slice_get_within}
use Rattle.std.proofs.lemmas.Bool.{cases_lt}
use Rattle.afdx_frame.specs.declared.link.Priority.{Priority}
use Rattle.afdx_frame.specs.declared.link.Priority.TheVariants.{High, Low}
use Rattle.afdx_frame.specs.Regulation.{byte_units}
use Rattle.afdx_config.specs.Rows.{SystemRow, LinkRow, Rows}
use Rattle.afdx_config.specs.Lawful.{IsLawfulSwitch, IsSystem, IsLinkUpTo, jitter_from_any}
use Rattle.afdx_config.specs.Reading.{system_at_port}
use Rattle.afdx_frame.specs.Flows.{Flow, is_class, of_class, burst, load, high_wait, low_wait}
use Rattle.afdx_frame.specs.Flows.{high_load, IsPortAdmitted}
use Rattle.afdx_frame.proofs.ListLemmas.{AllByRecursion-slice_get, slice_get-within}
use Rattle.afdx_config.specs.Admission.{greatest_jitter}
use Rattle.afdx_config.specs.Admission.{IsAdmitted, byte_ns, links_from, flows_to, sender_jitter}
use Rattle.afdx_config.proofs.LookUpLemmas.{each_row-found}
use Rattle.afdx_admit.specs.declared.fault.AdmitFault.{AdmitFault}
use Rattle.afdx_admit.specs.declared.fault.AdmitFault.TheVariants.{Overload, Buffer, HighLatency}
use Rattle.afdx_admit.specs.declared.fault.AdmitFault.TheVariants.{LowLatency, SenderJitter}
use Rattle.afdx_admit.specs.declared.fault.AdmitFault.TheVariants.{LinkJitter, Skew}
use Rattle.afdx_admit.specs.Lines.{Line, line, first_false, each_from, lines, LoadedOutput}
use Rattle.afdx_admit.specs.Lines.{loaded_output_to, output_lines, port_lines}
use Rattle.afdx_admit.specs.Lines.{sender_lines, link_lines}
use Rattle.afdx_admit.specs.Lines.{lines_of_link, allows_jitter, jitter_at, high_line, low_line, high_bound_of, buffer_need_of, told_low_bound_of}
use Rattle.afdx_frame.proofs.FirstFalseLemmas.{first_false-nil, le-true, le-false, true-le}
use Rattle.afdx_frame.proofs.FirstFalseLemmas.{cons_holds, holds_cons, append_holds, holds_append, each_holds, holds_each}
use Rattle.afdx_admit.specs.Late.{class_line}
use Rattle.afdx_admit.proofs.PortLemmas.{loaded_output_at-some, loaded_output_at-none, found_within}

-- ---- the flows of a class

class_is : (class p : Priority) → p ≡ class → is_class class p ≡ true
class_is High High e = refl
class_is High Low e = absurd cc
class_is Low High e = absurd cc
class_is Low Low e = refl

is_one : (class p : Priority) → is_class class p ≡ true → p ≡ class
is_one High High e = refl
is_one High Low e = absurd cc
is_one Low High e = absurd cc
is_one Low Low e = refl

module _ (class : Priority) (wait left : ℕ) (fault : ℕ → AdmitFault) where
  abbrev IsSoon : Flow → Type 0
  IsSoon f = f.priority ≡ class → wait ≤ f.latency * left

  abbrev late_lines_of : List Flow → List Line
  late_lines_of fs = map (class_line wait left fault) fs

  soon_cons : (f : Flow) (fs : List Flow)
      → (first_false (late_lines_of (of_class class fs)) ≡ None → AllByRecursion IsSoon fs) → (b : Bool) →
      is_class class f.priority ≡ b →
      first_false (late_lines_of (cond b (f ∷ of_class class fs) (of_class class fs))) ≡ None
      → IsSoon f × AllByRecursion IsSoon fs
  soon_cons f fs later true e h =
      let both = cons_holds (class_line wait left fault f) (late_lines_of (of_class class fs)) h in
      (λ _. true-le wait (f.latency * left) both.one, later both.rest)
  soon_cons f fs later false e h = (λ is. absurd (cc (e, class_is class f.priority is)), later h)

  soon : (fs : List Flow) → first_false (late_lines_of (of_class class fs)) ≡ None → AllByRecursion IsSoon fs
  soon [] h = tt
  soon (f ∷ fs) h = soon_cons f fs (soon fs) (is_class class f.priority) refl h

  lines_cons : (f : Flow) (fs : List Flow) → IsSoon f
      → first_false (late_lines_of (of_class class fs)) ≡ None → (b : Bool)
      → is_class class f.priority ≡ b →
      first_false (late_lines_of (cond b (f ∷ of_class class fs) (of_class class fs))) ≡ None
  lines_cons f fs here later true e =
      holds_cons (class_line wait left fault f) (late_lines_of (of_class class fs))
      (le-true wait (f.latency * left) (here (is_one class f.priority e))) later
  lines_cons f fs here later false e = later

  soon_lines : (fs : List Flow) → AllByRecursion IsSoon fs → first_false (late_lines_of (of_class class fs)) ≡ None
  soon_lines [] h = first_false-nil
  soon_lines (f ∷ fs) h = lines_cons f fs h.0 (soon_lines fs h.1) (is_class class f.priority) refl

-- ---- an output port

abbrev high_fault : ℕ → LoadedOutput → ℕ → AdmitFault
high_fault port o v = HighLatency port (record { 0 = v }) (high_bound_of o)

abbrev low_fault : ℕ → LoadedOutput → ℕ → AdmitFault
low_fault port o v = LowLatency port (record { 0 = v }) (told_low_bound_of o)

output_admitted : (buffer port : ℕ) (o : LoadedOutput) → first_false (output_lines buffer port o)
    ≡ None → IsPortAdmitted o.byte_ns buffer o.flows
unfolding output_lines
output_admitted buffer port o h =
    let left = byte_units - high_load o.byte_ns o.flows in
    let highs = map (high_line port o) (of_class High o.flows) in
    let lows = map (low_line port o) (of_class Low o.flows) in
    let buffer_line = line (nat_le (burst o.flows) (buffer * byte_units)) (Buffer port (buffer_need_of o)) in
    let first = cons_holds (line (nat_le (load o.byte_ns o.flows) byte_units) (Overload port))
    (buffer_line ∷ (highs ++ lows)) h in
    let second = cons_holds buffer_line (highs ++ lows) first.rest in
    let classes = append_holds highs lows second.rest in
    record {
      no_overload = true-le (load o.byte_ns o.flows) byte_units first.one;
      fits_buffer = true-le (burst o.flows) (buffer * byte_units) second.one;
      high_in_time = All-from_recursion
          (IsSoon High (high_wait o.byte_ns o.flows) byte_units (high_fault port o)) o.flows
          (soon High (high_wait o.byte_ns o.flows) byte_units (high_fault port o) o.flows classes.0);
      low_in_time = All-from_recursion (IsSoon Low (low_wait o.byte_ns o.flows) left (low_fault port o)) o.flows
          (soon Low (low_wait o.byte_ns o.flows) left (low_fault port o) o.flows classes.1);
    }

admitted_output : (buffer port : ℕ) (o : LoadedOutput) → IsPortAdmitted o.byte_ns buffer o.flows
    → first_false (output_lines buffer port o) ≡ None
unfolding output_lines
admitted_output buffer port o h =
    let left = byte_units - high_load o.byte_ns o.flows in
    let highs = map (high_line port o) (of_class High o.flows) in
    let lows = map (low_line port o) (of_class Low o.flows) in
    let buffer_line = line (nat_le (burst o.flows) (buffer * byte_units)) (Buffer port (buffer_need_of o)) in
    holds_cons (line (nat_le (load o.byte_ns o.flows) byte_units) (Overload port)) (buffer_line ∷ (highs ++ lows))
    (le-true (load o.byte_ns o.flows) byte_units h.no_overload)
    (holds_cons buffer_line (highs ++ lows) (le-true (burst o.flows) (buffer * byte_units) h.fits_buffer)
    (holds_append highs lows
    (soon_lines High (high_wait o.byte_ns o.flows) byte_units (high_fault port o) o.flows
    (recursion_from_All (IsSoon High (high_wait o.byte_ns o.flows) byte_units (high_fault port o))
    o.flows h.high_in_time))
    (soon_lines Low (low_wait o.byte_ns o.flows) left (low_fault port o) o.flows
    (recursion_from_All (IsSoon Low (low_wait o.byte_ns o.flows) left (low_fault port o)) o.flows h.low_in_time))))

-- ---- all lines

allows : (t : Rows) (l : LinkRow) → allows_jitter t (jitter_at t l.from) l ≡ true → l.from < t.own
    → jitter_at t l.from ≤ 1000 * l.jitter_us
allows t l h below = true-le (jitter_at t l.from) (1000 * l.jitter_us)
    (sym (ap (λ b. b || nat_le (jitter_at t l.from) (1000 * l.jitter_us)) (le-false t.own l.from below)) ∙ h)

allowed : (t : Rows) (l : LinkRow) → (l.from < t.own → jitter_at t l.from ≤ 1000 * l.jitter_us)
    → allows_jitter t (jitter_at t l.from) l ≡ true
allowed t l h = elim (cases_lt l.from t.own) [
  | inl below ↦ ap (λ b. b || nat_le (jitter_at t l.from) (1000 * l.jitter_us)) (le-false t.own l.from below)
      ∙ le-true (jitter_at t l.from) (1000 * l.jitter_us) (h below)
  | inr past ↦ ap (λ b. b || nat_le (jitter_at t l.from) (1000 * l.jitter_us)) (le-true t.own l.from past)
]

module _ (t : Rows) (lawful : IsLawfulSwitch t) where
  jitter_is : (place : ℕ) (s : SystemRow) → slice_get t.systems place ≡ Some s
      → jitter_at t place ≡ sender_jitter (byte_ns s) (links_from t.links place)
  unfolding jitter_at
  jitter_is place s at = ap
      (λ o. option_map_or (λ (r : SystemRow). sender_jitter (byte_ns r) (links_from t.links place))
      o 0) at

  port_admitted : (i : ℕ) (s : SystemRow) → slice_get t.systems i ≡ Some s → first_false (port_lines t s.port) ≡ None →
      IsPortAdmitted (byte_ns s) t.buffer (flows_to t.links i)
  unfolding port_lines
  port_admitted i s at h =
      let found = (each_row-found t lawful).by_port i s at in
      let is = loaded_output_at-some t s.port i s found at in
      output_admitted t.buffer s.port (loaded_output_to t i s)
      (sym (ap (λ o. first_false (option_map_or (output_lines t.buffer s.port) o [])) is) ∙ h)

  admitted_port : IsAdmitted t → (port : ℕ) → (o : Option ℕ) → system_at_port t.systems port ≡ o
      → first_false (port_lines t port) ≡ None
  unfolding port_lines
  admitted_port admitted port None e =
      ap (λ o. first_false (option_map_or (output_lines t.buffer port) o []))
      (loaded_output_at-none t port e) ∙ first_false-nil
  admitted_port admitted port (Some place) e =
      let s = slice_get-within t.systems place (found_within t port place e) in
      ap (λ o. first_false (option_map_or (output_lines t.buffer port) o []))
      (loaded_output_at-some t port place s.0 e s.1)
      ∙ admitted_output t.buffer port
      (loaded_output_to t place s.0) (admitted.ports place s.0 s.1)

  link_holds : (i : ℕ) (l : LinkRow) → slice_get t.links i ≡ Some l → first_false (link_lines t i) ≡ None →
      (l.from < t.own → jitter_at t l.from ≤ 1000 * l.jitter_us) × (l.latency_us ≤ l.skew_us)
  unfolding link_lines
  link_holds i l at h =
      let skew_line = line (nat_le l.latency_us l.skew_us) (Skew (record { 0 = l.vl })) in
      let first = cons_holds (line (allows_jitter t (jitter_at t l.from) l)
      (LinkJitter (record { 0 = l.vl }) (jitter_at t l.from))) (skew_line ∷ [])
      (sym (ap (λ o. first_false (option_map_or (lines_of_link t) o [])) at) ∙ h) in
      let second = cons_holds skew_line [] first.rest in
      (allows t l first.one, true-le l.latency_us l.skew_us second.one)

  holds_link : (i : ℕ) (l : LinkRow) → slice_get t.links i ≡ Some l
      → (l.from < t.own → jitter_at t l.from ≤ 1000 * l.jitter_us) → l.latency_us ≤ l.skew_us →
      first_false (link_lines t i) ≡ None
  unfolding link_lines
  holds_link i l at jitter skew =
      let skew_line = line (nat_le l.latency_us l.skew_us) (Skew (record { 0 = l.vl })) in
      ap (λ o. first_false (option_map_or (lines_of_link t) o [])) at
      ∙ holds_cons (line (allows_jitter t (jitter_at t l.from) l)
      (LinkJitter (record { 0 = l.vl }) (jitter_at t l.from))) (skew_line ∷ [])
      (allowed t l jitter)
      (holds_cons skew_line [] (le-true l.latency_us l.skew_us skew) first_false-nil)

  sender_holds : (i : ℕ) → first_false (sender_lines t i) ≡ None → jitter_at t i ≤ greatest_jitter
  unfolding sender_lines
  sender_holds i h = true-le (jitter_at t i) greatest_jitter (cons_holds
      (line (nat_le (jitter_at t i) greatest_jitter) (SenderJitter (record { 0 = i }) (jitter_at t i))) [] h).one

  holds_sender : (i : ℕ) → jitter_at t i ≤ greatest_jitter → first_false (sender_lines t i) ≡ None
  unfolding sender_lines
  holds_sender i h = holds_cons
      (line (nat_le (jitter_at t i) greatest_jitter) (SenderJitter (record { 0 = i }) (jitter_at t i))) []
      (le-true (jitter_at t i) greatest_jitter h) first_false-nil

  pub admitted_from : first_false (lines t) ≡ None → IsAdmitted t
  unfolding lines
  admitted_from h =
      let front = append_holds (each_from (port_lines t) 1 24)
      (each_from (sender_lines t) 0 t.own ++ each_from (link_lines t) 0 (length t.links)) h in
      let back = append_holds (each_from (sender_lines t) 0 t.own)
      (each_from (link_lines t) 0 (length t.links)) front.1 in
      record {
        ports = λ i s at.
            let row = AllByRecursion-slice_get (IsSystem t.profile) t.systems i s lawful.systems.each at in
            port_admitted i s at (each_holds (port_lines t) 1 24 front.0 s.port row.port.0 (omega (arith, row.port.1)));
        senders = λ i s at within.
            subst (λ n. n ≤ greatest_jitter) (jitter_is i s at) (sender_holds i
            (each_holds (sender_lines t) 0 t.own back.0 i (omega arith) (omega (arith, within))));
        jitters = λ i l s at from below.
            let within = slice_get_within t.links i l at in
            subst (λ n. n ≤ 1000 * l.jitter_us) (jitter_is l.from s from)
            ((link_holds i l at (each_holds (link_lines t) 0 (length t.links) back.1 i (omega arith)
            (omega (arith, within)))).0 below);
        skews = λ i l at.
            let within = slice_get_within t.links i l at in
            (link_holds i l at (each_holds (link_lines t) 0 (length t.links) back.1 i (omega arith)
            (omega (arith, within)))).1;
      }

  pub from_admitted : IsAdmitted t → first_false (lines t) ≡ None
  unfolding lines
  from_admitted admitted =
      holds_append (each_from (port_lines t) 1 24)
      (each_from (sender_lines t) 0 t.own ++ each_from (link_lines t) 0 (length t.links))
      (holds_each (port_lines t) 1 24 (λ k low high. admitted_port admitted k (system_at_port t.systems k) refl))
      (holds_append (each_from (sender_lines t) 0 t.own) (each_from (link_lines t) 0 (length t.links))
      (holds_each (sender_lines t) 0 t.own (λ k low high.
      let below : k < t.own = omega (arith, high) in
      let s = slice_get-within t.systems k (omega (arith, below, lawful.own)) in
      holds_sender k (subst (λ n. n ≤ greatest_jitter) (sym (jitter_is k s.0 s.1)) (admitted.senders k s.0 s.1 below))))
      (holds_each (link_lines t) 0 (length t.links) (λ k low high.
      let l = slice_get-within t.links k (omega (arith, high)) in
      let row = AllByRecursion-slice_get (IsLinkUpTo jitter_from_any (length t.systems)) t.links k l.0
      lawful.links.each l.1 in
      let s = slice_get-within t.systems l.0.from row.from in
      holds_link k l.0 l.1 (λ below. subst (λ n. n ≤ 1000 * l.0.jitter_us) (sym (jitter_is l.0.from s.0 s.1))
      (admitted.jitters k l.0 s.0 l.1 s.1 below))
      (admitted.skews k l.0 l.1))))
