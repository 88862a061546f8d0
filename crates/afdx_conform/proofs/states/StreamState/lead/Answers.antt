use Rattle.std.proofs.Common.{◌+◌, List, ◌++◌, map, drop, sym, ap, ◌∙◌}
use Rattle.std.proofs.lemmas.List.{map-append}
use Rattle.std.specs.Option.{option_to_list}
use Rattle.afdx_conform.specs.HeldStates.{state_of, states_if_refused, IsWithin}
use Rattle.afdx_conform.specs.States.{State, states_at}
use Rattle.afdx_conform.specs.declared.states.StreamState.{StreamState}
use Rattle.afdx_conform.proofs.KeepLemmas.{all-option}
use Rattle.std.proofs.lemmas.List.Elements.{All-append}
use Rattle.afdx_conform.proofs.states.StreamState.lead.Goals as goal

pub returns-clause-defined : goal.returns-clause-defined
unfolding states_at
returns-clause-defined c z x ys r e h =
    ap (λ (l : List State). l ++ states_if_refused z x c.args.levels c.args.self.waiting (drop c.args.self.passed ys))
    (c.if_accepted.ensures.defined z x ys r e h)
    ∙ ap (λ (l : List State). map (state_of ys) (option_to_list c.if_accepted.result) ++ l)
    (c.if_refused.ensures.defined z x ys r e)
    ∙ sym (map-append (state_of ys) (option_to_list c.if_accepted.result) (option_to_list c.if_refused.result))

pub returns-clause-within : goal.returns-clause-within
returns-clause-within c frames count p w near left =
    All-append (λ (h : StreamState). IsWithin c.args.rates.now frames (count + 1) h)
    (option_to_list c.if_accepted.result)
    (option_to_list c.if_refused.result)
    (all-option (λ (h : StreamState). IsWithin c.args.rates.now frames (count + 1) h) c.if_accepted.result
    (c.if_accepted.ensures.within frames count p w near left))
    (all-option (λ (h : StreamState). IsWithin c.args.rates.now frames (count + 1) h) c.if_refused.result
    (c.if_refused.ensures.within frames count p w near))
