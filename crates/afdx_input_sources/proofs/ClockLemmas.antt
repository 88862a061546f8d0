-- The clock of a source of lines: one number more.
use Rattle.std.proofs.Common.{◌≡◌, ◌≤◌, ◌<◌, ◌∷◌, length, true, false, ap, sym, ◌∙◌}
use Rattle.afdx_input_lines.specs.declared.fault.RunFault.{RunFault}
use Rattle.afdx_input_sources.specs.Engine.{Item, item_of}
use Rattle.afdx_input_sources.specs.Items.{most_frames}
use Rattle.afdx_input_sources.specs.declared.clock.Clock.{Clock}
use Rattle.afdx_input_sources.specs.declared.number.Number.{Number}
use Rattle.afdx_input_sources.specs.declared.number_line.NumberLine.{NumberLine}
use Rattle.afdx_input_sources.specs.NumberLines.{Lines, LineFollows}
use Rattle.afdx_input_sources.specs.Sequences.{Numbers, latest_of}
use Rattle.afdx_input_sources.specs.TimedSource.{AreTimed, IsTooLate}
use Rattle.afdx_input_sources.specs.Timing.{is_late, line_by, origin_in, origin_with}
use Rattle.afdx_input_sources.proofs.TimingLemmas.{timed-more, timed-late, line-follows}

module _ (late : Item Number → RunFault) (old new : Clock) (numbers : Numbers) (x : Item Number) (lines : Lines)
    (h : AreTimed late old numbers lines) (said : new.said ≡ old.said) where
  -- its line is given
  pub clock-more : (line : NumberLine) → new.zero ≡ origin_with x.head old.zero → is_late old.zero x.head ≡ false
      → line ≡ line_by old.zero x.head
      → AreTimed late new (x ∷ numbers) (item_of x.number line x.bytes ∷ lines)
  unfolding origin_in
  clock-more line zero early is = record {
    timed_as = rw (said, is, h.zero)
        (timed-more late old.said numbers x lines h.timed_as (rw h.zero at early));
    zero = zero ∙ ap (origin_with x.head) h.zero
        ∙ ap (λ s. origin_with x.head (origin_in s numbers)) (sym said);
  }

  -- and comes behind those before it
  pub clock-follows : (line : NumberLine) → is_late old.zero x.head ≡ false → line ≡ line_by old.zero x.head
      → latest_of numbers ≤ latest_of (x ∷ numbers) → length numbers < most_frames
      → LineFollows lines (item_of x.number line x.bytes)
  clock-follows line early is order few =
      rw (is, h.zero) (line-follows late old.said numbers x lines h.timed_as order (rw h.zero at early) few)

  -- or it is too late
  pub clock-late : is_late old.zero x.head ≡ true → IsTooLate late new (x ∷ numbers) lines (late x)
  clock-late is = record {
    timed_as = rw said (timed-late late old.said numbers x lines h.timed_as (rw h.zero at is));
  }
