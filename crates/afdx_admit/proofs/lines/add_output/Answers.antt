use Rattle.std.proofs.Common.{rules, ◌≡◌, ◌++◌, ◌∷◌, ◌-◌, ◌*◌, [], ℕ, map, sym, ap, subst, ◌∙◌, nat_le, List}
use Rattle.afdx_frame.specs.declared.link.Priority.TheVariants.{High, Low}
use Rattle.afdx_frame.specs.Regulation.{byte_units}
use Rattle.afdx_frame.specs.Flows.{of_class, burst, load, high_wait, low_wait, high_load}
use Rattle.afdx_config.specs.Rows.{Rows, SystemRow}
use Rattle.afdx_admit.specs.declared.sums.Sums.{Sums}
use Rattle.afdx_admit.specs.declared.fault.AdmitFault.TheVariants.{Overload, Buffer}
use Rattle.afdx_admit.specs.Late.{class_line, late_fault}
use Rattle.afdx_admit.specs.Sums.{IsSums}
use Rattle.afdx_admit.specs.Lines.{Line, line, LoadedOutput, false_lines, loaded_output_to, output_lines}
use Rattle.afdx_admit.specs.Lines.{high_line, low_line, buffer_need_of, high_bound_of, told_low_bound_of}
use Rattle.afdx_admit.specs.Walk.{Walks}
use Rattle.afdx_frame.proofs.FalseLinesLemmas.{added, none_added}
use Rattle.afdx_admit.proofs.PortLemmas.{port_lines-some, found_within}
use Rattle.afdx_admit.proofs.RateLemmas.{carries, high-lines, low-lines}
use Rattle.afdx_admit.proofs.WalkLemmas.{Stopped, walks_on, walks_stop}
use Rattle.afdx_admit.proofs.lines.add_output.Goals as goal

-- the lines of the port, and that they are those that are asked
module _ (t : Rows) (port place : ℕ) (s : SystemRow) where
  abbrev o : LoadedOutput
  o = loaded_output_to t place s

  abbrev load_line : Line
  load_line = line (nat_le (load o.byte_ns o.flows) byte_units) (Overload port)

  abbrev buffer_line : Line
  buffer_line = line (nat_le (burst o.flows) (t.buffer * byte_units)) (Buffer port (buffer_need_of o))

  abbrev highs : List Line
  highs = map (high_line port o) (of_class High o.flows)

  abbrev lows : List Line
  lows = map (low_line port o) (of_class Low o.flows)

  module _ (r : Sums) (are : IsSums o r) where
    load_is : line (nat_le r.rate r.line) (Overload port) ∷ [] ≡ load_line ∷ []
    load_is = ap (λ b. line b (Overload port) ∷ []) (carries o r are)

    buffer_is : (bytes need : ℕ) → bytes ≡ t.buffer → need ≡ buffer_need_of o →
        line (nat_le r.burst (bytes * byte_units)) (Buffer port need) ∷ [] ≡ buffer_line ∷ []
    buffer_is bytes need e f =
        ap (λ n. line (nat_le n (bytes * byte_units)) (Buffer port need) ∷ []) are.burst
        ∙ ap (λ n. line (nat_le (burst o.flows) (n * byte_units)) (Buffer port need) ∷ []) e
        ∙ ap (λ n. line (nat_le (burst o.flows) (t.buffer * byte_units)) (Buffer port n) ∷ []) f

    highs_are : (wait bound : ℕ) → wait * o.byte_ns ≡ high_wait o.byte_ns o.flows → bound ≡ high_bound_of o →
        map (class_line wait r.line (late_fault High port bound)) (of_class High o.flows) ≡ highs
    highs_are wait bound e f =
        high-lines o r are wait e (late_fault High port bound)
        ∙ ap (λ b. map (class_line (high_wait o.byte_ns o.flows) byte_units (late_fault High port b))
        (of_class High o.flows)) f

    lows_are : (wait left bound : ℕ) → wait * o.byte_ns ≡ low_wait o.byte_ns o.flows → left ≡ r.line - r.high_rate →
        bound ≡ told_low_bound_of o →
        map (class_line wait left (late_fault Low port bound)) (of_class Low o.flows) ≡ lows
    lows_are wait left bound e d f =
        ap (λ n. map (class_line wait n (late_fault Low port bound)) (of_class Low o.flows)) d
        ∙ low-lines o r are wait e (late_fault Low port bound)
        ∙ ap (λ b. map (class_line (low_wait o.byte_ns o.flows) (byte_units - high_load o.byte_ns o.flows)
        (late_fault Low port b)) (of_class Low o.flows)) f

pub sums_to-sums-requires : goal.sums_to-sums-requires
sums_to-sums-requires g c = found_within c.args.tables.now c.args.port c.args.system.0 c.requires

pub returns-in_err-add_if_false : goal.returns-in_err-add_if_false
unfolding output_lines
returns-in_err-add_if_false g c =
    let t = c.args.tables.now in
    let port = c.args.port in
    let place = c.args.system.0 in
    let s = c.sums_to-sums.ensures.sums in
    let old = g.C.Found.items c.args.found.now in
    let stop = c.in_err-add_if_false.field-0.0 in
    subst (λ ls. Walks g.C.Found.Stops old (g.C.Found.items c.add_if_false.new.found) ls c.from_residual.result)
    (sym (port_lines-some t port place s.row c.requires s.stands))
    (walks_stop g.C.Found.Stops old old _ [] (load_line t port place s.row ∷ [])
    (buffer_line t port place s.row ∷ (highs t port place s.row ++ lows t port place s.row)) stop _ (search rules)
    (none_added old)
    (subst (λ ls. Stopped g.C.Found.Stops old ls stop) (load_is t port place s.row c.sums_to-sums.result s.sums)
    c.in_err-add_if_false.ensures))

pub returns-in_err-add_if_false-2 : goal.returns-in_err-add_if_false-2
unfolding output_lines
returns-in_err-add_if_false-2 g c =
    let t = c.args.tables.now in
    let port = c.args.port in
    let place = c.args.system.0 in
    let s = c.sums_to-sums.ensures.sums in
    let r = c.sums_to-sums.result in
    let old = g.C.Found.items c.args.found.now in
    let one = g.C.Found.items c.add_if_false.new.found in
    let stop = c.in_err-add_if_false-2.field-0.0 in
    subst (λ ls. Walks g.C.Found.Stops old (g.C.Found.items c.add_if_false-2.new.found) ls
    c.from_residual-in_err-add_if_false-2.result)
    (sym (port_lines-some t port place s.row c.requires s.stands))
    (walks_stop g.C.Found.Stops old one _ (load_line t port place s.row ∷ []) (buffer_line t port place s.row ∷ [])
    (highs t port place s.row ++ lows t port place s.row) stop _ (search rules)
    (c.in_ok-add_if_false.ensures ∙ ap (λ ls. old ++ false_lines ls) (load_is t port place s.row r s.sums))
    (subst (λ ls. Stopped g.C.Found.Stops one ls stop)
    (buffer_is t port place s.row r s.sums c.buffer.result c.buffer_need.result c.buffer.ensures.buffer
    (c.buffer_need.ensures (o t port place s.row) s.sums))
    c.in_err-add_if_false-2.ensures))

pub returns-in_err-add_late : goal.returns-in_err-add_late
unfolding output_lines
returns-in_err-add_late g c =
    let t = c.args.tables.now in
    let port = c.args.port in
    let place = c.args.system.0 in
    let s = c.sums_to-sums.ensures.sums in
    let r = c.sums_to-sums.result in
    let out = o t port place s.row in
    let old = g.C.Found.items c.args.found.now in
    let one = g.C.Found.items c.add_if_false.new.found in
    let two = g.C.Found.items c.add_if_false-2.new.found in
    let stop = c.in_err-add_late.field-0.0 in
    subst (λ ls. Walks g.C.Found.Stops old (g.C.Found.items c.add_late.new.found) ls
    c.from_residual-in_err-add_late.result)
    (sym (port_lines-some t port place s.row c.requires s.stands))
    (walks_stop g.C.Found.Stops old two _ (load_line t port place s.row ∷ buffer_line t port place s.row ∷ [])
    (highs t port place s.row) (lows t port place s.row) stop _ (search rules)
    (added old one two (load_line t port place s.row ∷ []) (buffer_line t port place s.row ∷ [])
    (c.in_ok-add_if_false.ensures ∙ ap (λ ls. old ++ false_lines ls) (load_is t port place s.row r s.sums))
    (c.in_ok-add_if_false-2.ensures ∙ ap (λ ls. one ++ false_lines ls)
    (buffer_is t port place s.row r s.sums c.buffer.result c.buffer_need.result c.buffer.ensures.buffer
    (c.buffer_need.ensures out s.sums))))
    (subst (λ ls. Stopped g.C.Found.Stops two ls stop)
    (highs_are t port place s.row r s.sums c.high_wait.result c.high_bound.result (c.high_wait.ensures out s.sums)
    (c.high_bound.ensures out s.sums))
    c.in_err-add_late.ensures))

pub returns : goal.returns
unfolding output_lines
returns g c =
    let t = c.args.tables.now in
    let port = c.args.port in
    let place = c.args.system.0 in
    let s = c.sums_to-sums.ensures.sums in
    let r = c.sums_to-sums.result in
    let out = o t port place s.row in
    let old = g.C.Found.items c.args.found.now in
    let one = g.C.Found.items c.add_if_false.new.found in
    let two = g.C.Found.items c.add_if_false-2.new.found in
    let three = g.C.Found.items c.add_late.new.found in
    let new = g.C.Found.items c.add_late-2.new.found in
    subst (λ ls. Walks g.C.Found.Stops old new ls c.add_late-2.result)
    (sym (port_lines-some t port place s.row c.requires s.stands))
    (walks_on g.C.Found.Stops old three new
    (load_line t port place s.row ∷ buffer_line t port place s.row ∷ highs t port place s.row)
    (lows t port place s.row) c.add_late-2.result
    (added old two three (load_line t port place s.row ∷ buffer_line t port place s.row ∷ []) (highs t port place s.row)
    (added old one two (load_line t port place s.row ∷ []) (buffer_line t port place s.row ∷ [])
    (c.in_ok-add_if_false.ensures ∙ ap (λ ls. old ++ false_lines ls) (load_is t port place s.row r s.sums))
    (c.in_ok-add_if_false-2.ensures ∙ ap (λ ls. one ++ false_lines ls)
    (buffer_is t port place s.row r s.sums c.buffer.result c.buffer_need.result c.buffer.ensures.buffer
    (c.buffer_need.ensures out s.sums))))
    (c.in_ok-add_late.ensures ∙ ap (λ ls. two ++ false_lines ls)
    (highs_are t port place s.row r s.sums c.high_wait.result c.high_bound.result (c.high_wait.ensures out s.sums)
    (c.high_bound.ensures out s.sums))))
    (subst (λ ls. Walks g.C.Found.Stops three new ls c.add_late-2.result)
    (lows_are t port place s.row r s.sums c.low_wait.result c.saturating_sub.result c.told_low_bound.result
    (c.low_wait.ensures out s.sums) c.saturating_sub.ensures (c.told_low_bound.ensures out s.sums))
    c.add_late-2.ensures))
