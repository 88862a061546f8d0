-- What is told of an output port by the sums of its links, whose rates are per nanosecond.
use Rattle.std.proofs.Common.{◌≡◌, ℕ, ◌-◌, ◌*◌, nat_le, nat_lt, map, Some, None}
use Rattle.std.proofs.Common.{if◌then◌else◌, sym, ap, ◌∙◌}
use Rattle.std.specs.Int.{div_ceil}
use Rattle.afdx_frame.specs.declared.link.Priority.TheVariants.{High, Low}
use Rattle.afdx_frame.specs.Regulation.{byte_units}
use Rattle.afdx_frame.specs.Flows.{of_class, load, high_wait, low_wait, high_load}
use Rattle.afdx_admit.specs.declared.fault.AdmitFault.{AdmitFault}
use Rattle.afdx_admit.specs.declared.sums.Sums.{Sums}
use Rattle.afdx_admit.specs.Lines.{LoadedOutput, high_bound_of, low_bound_of}
use Rattle.afdx_admit.specs.Late.{class_line}
use Rattle.afdx_admit.specs.Sums.{IsSums}
use Rattle.afdx_admit.proofs.ScaledLemmas.{scaled-le, scaled-lt, scaled-sub, scaled-ceil, scaled-lines}

module _ (o : LoadedOutput) (r : Sums) (s : IsSums o r) where
  pub carries : nat_le r.rate r.line ≡ nat_le (load o.byte_ns o.flows) byte_units
  carries = sym (scaled-le o.byte_ns s.some r.rate r.line) ∙ ap (λ n. nat_le n (r.line * o.byte_ns)) s.rate
      ∙ ap (λ n. nat_le (load o.byte_ns o.flows) n) s.line

  -- what the high ones leave
  left-is : (r.line - r.high_rate) * o.byte_ns ≡ byte_units - high_load o.byte_ns o.flows
  left-is = scaled-sub o.byte_ns s.some r.line r.high_rate ∙ ap (λ n. n - r.high_rate * o.byte_ns) s.line
      ∙ ap (λ n. byte_units - n) s.high_rate

  module _ (wait : ℕ) (is : wait * o.byte_ns ≡ high_wait o.byte_ns o.flows) where
    pub high-lines : (fault : ℕ → AdmitFault)
        → map (class_line wait r.line fault) (of_class High o.flows)
        ≡ map (class_line (high_wait o.byte_ns o.flows) byte_units fault) (of_class High o.flows)
    high-lines fault =
        sym (scaled-lines o.byte_ns s.some wait r.line fault (of_class High o.flows))
        ∙ ap (λ w. map (class_line w (r.line * o.byte_ns) fault) (of_class High o.flows)) is
        ∙ ap (λ n. map (class_line (high_wait o.byte_ns o.flows) n fault) (of_class High o.flows)) s.line

    pub high-bound : div_ceil wait r.line ≡ high_bound_of o
    unfolding high_bound_of
    high-bound =
        sym (scaled-ceil o.byte_ns s.some wait r.line)
        ∙ ap (λ w. div_ceil w (r.line * o.byte_ns)) is
        ∙ ap (λ n. div_ceil (high_wait o.byte_ns o.flows) n) s.line

  module _ (wait : ℕ) (is : wait * o.byte_ns ≡ low_wait o.byte_ns o.flows) where
    pub low-lines : (fault : ℕ → AdmitFault)
        → map (class_line wait (r.line - r.high_rate) fault) (of_class Low o.flows)
        ≡ map (class_line (low_wait o.byte_ns o.flows) (byte_units - high_load o.byte_ns o.flows) fault)
        (of_class Low o.flows)
    low-lines fault =
        sym (scaled-lines o.byte_ns s.some wait (r.line - r.high_rate) fault (of_class Low o.flows))
        ∙ ap (λ w. map (class_line w ((r.line - r.high_rate) * o.byte_ns) fault) (of_class Low o.flows)) is
        ∙ ap (λ n. map (class_line (low_wait o.byte_ns o.flows) n fault) (of_class Low o.flows)) left-is

    pub low-bound : (if nat_lt r.high_rate r.line then Some (div_ceil wait (r.line - r.high_rate)) else None)
        ≡ low_bound_of o
    unfolding low_bound_of
    low-bound =
        ap (λ b. if b then Some (div_ceil wait (r.line - r.high_rate)) else None)
        (sym (scaled-lt o.byte_ns s.some r.high_rate r.line) ∙ ap (λ n. nat_lt n (r.line * o.byte_ns)) s.high_rate
        ∙ ap (λ n. nat_lt (high_load o.byte_ns o.flows) n) s.line)
        ∙ ap (λ n. if nat_lt (high_load o.byte_ns o.flows) byte_units then Some n else None)
        (sym (scaled-ceil o.byte_ns s.some wait (r.line - r.high_rate))
        ∙ ap (λ w. div_ceil w ((r.line - r.high_rate) * o.byte_ns)) is
        ∙ ap (λ n. div_ceil (low_wait o.byte_ns o.flows) n) left-is)
