use Rattle.std.proofs.Common.{◌+◌, length, [], map, get_or, sym, ◌∙◌}
use Rattle.std.proofs.lemmas.List.Elements.{All-push, All-nil}
use Rattle.afdx_conform.specs.Explanations.{levels_then}
use Rattle.afdx_conform.specs.HeldStates.{IsWithin}
use Rattle.afdx_conform.specs.Limits.{gone_of}
use Rattle.afdx_conform.specs.Marks.{arrival_of}
use Rattle.afdx_conform.specs.States.{states_at}
use Rattle.afdx_conform.specs.declared.states.StreamState.{StreamState}
use Rattle.afdx_conform.proofs.AloneLemmas.{some-on, alone, led-alone}
use Rattle.afdx_conform.proofs.leading.led_alone.Goals as goal

abbrev no-held : StreamState
no-held = record { passed = 0; levels = record { lo = 0; hi = 0 }; waiting = 0 }

pub returns-in-len1-clause-defined : goal.returns-in-len1-clause-defined
returns-in-len1-clause-defined c z last b j t =
    some-on c.led_one.result (λ h e. sym (led-alone (map gone_of c.args.frames.now)
    (λ s. states_at z (arrival_of c.args.coming.now.arrived.now)
    (levels_then z s.levels last (arrival_of c.args.coming.now.arrived.now)) s)
    c.args.held.now (get_or c.args.held.now 0 no-held) (alone c.args.held.now no-held c.in-len1.len_at_least
    c.in-len1.len_below) ∙ e))
    (c.led_one.ensures.defined z last b j t)

pub returns-in-len1-clause-within : goal.returns-in-len1-clause-within
returns-in-len1-clause-within c link by count r all =
    some-on c.led_one.result
    (λ h w. All-push (λ (k : StreamState). IsWithin c.args.bounds.now.rates (length c.args.frames.now) (count + 1) k)
    [] h (All-nil (λ (k : StreamState). IsWithin c.args.bounds.now.rates (length c.args.frames.now) (count + 1) k)) w)
    (c.led_one.ensures.within link by count r (all 0 no-held c.in-len1.len_at_least))
