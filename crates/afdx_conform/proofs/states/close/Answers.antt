use Rattle.std.proofs.Common.{rules, map}
use Rattle.std.proofs.lemmas.Fn.{filter_same}
use Rattle.std.proofs.lemmas.List.Elements.{All-same, All-filter}
use Rattle.std.specs.Prelude.{nat_le}
use Rattle.afdx_conform.specs.HeldStates.{state_of, IsWithin}
use Rattle.afdx_conform.specs.declared.states.StreamState.{StreamState}
use Rattle.afdx_conform.proofs.KeepLemmas.{closed-left, kept-closed}
use Rattle.afdx_conform.proofs.states.close.Goals as goal

pub returns-clause-left : goal.returns-clause-left
returns-clause-left c ys time closed =
    closed-left ys time c.args.passed c.args.held.now.items _ closed
    (filter_same _ (λ (h : StreamState). nat_le c.args.passed h.passed) _ (λ x b f' k. search rules) _ _
    c.retain.ensures.filtered)

pub returns-clause-kept : goal.returns-clause-kept
returns-clause-kept c z ys before time closed h =
    kept-closed z ys before time (map (state_of ys) c.args.held.now.items) _
    (closed-left ys time c.args.passed c.args.held.now.items _ closed
    (filter_same _ (λ (h : StreamState). nat_le c.args.passed h.passed) _ (λ x b f' k. search rules) _ _
    c.retain.ensures.filtered)) h

pub returns-clause-within : goal.returns-clause-within
returns-clause-within c rates frames count all =
    All-same (λ (h : StreamState). IsWithin rates frames count h) _ _
    (filter_same _ (λ (h : StreamState). nat_le c.args.passed h.passed) _ (λ x b f' k. search rules) _ _
    c.retain.ensures.filtered)
    (All-filter (λ (h : StreamState). nat_le c.args.passed h.passed)
    (λ (h : StreamState). IsWithin rates frames count h)
    c.args.held.now.items all)
