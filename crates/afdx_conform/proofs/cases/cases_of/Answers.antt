use Rattle.std.proofs.Common.{ℕ, length, ◌++◌, List, [], ◌∷◌, map, drop, get_or, refl, sym, ap, ◌∙◌, subst, arith}
use Rattle.std.proofs.lemmas.List.{map-append, take_more, take_all}
use Rattle.std.proofs.lemmas.List.Elements.{All-nil, All-push}
use Rattle.std.specs.Prelude.{All}
use Rattle.afdx_conform.specs.HeldStates.{IsNext, IsCaseWithin}
use Rattle.afdx_conform.specs.Limits.{gone_of}
use Rattle.afdx_conform.specs.Marks.{arrival_of}
use Rattle.afdx_conform.specs.declared.states.Case.{Case}
use Rattle.afdx_conform.specs.declared.states.StreamState.{StreamState}
use Rattle.afdx_conform.proofs.cases.cases_of.Goals as goal

abbrev no-held : StreamState
no-held = record { passed = 0; levels = record { lo = 0; hi = 0 }; waiting = 0 }

pub loop-state-init : goal.loop-state-init
loop-state-init c = (
  ap (λ (l : List Case). map (λ (d : Case). d.held) l) c.new-out.ensures.items,
  λ z a opens. subst
      (λ (l : List Case). All (λ d. IsNext z (arrival_of c.args.coming.now.arrived.now)
      (drop d.held.passed (map gone_of c.args.frames.now)) d.next) l)
      (sym c.new-out.ensures.items) (λ i d lt. absurd (omega (arith, lt))),
  λ rates count all. subst (λ (l : List Case). All (λ d. IsCaseWithin rates (length c.args.frames.now) count d) l)
      (sym c.new-out.ensures.items) (All-nil (λ (d : Case). IsCaseWithin rates (length c.args.frames.now) count d)),
)

pub loop-state-preserved : goal.loop-state-preserved
loop-state-preserved c =
    let i : ℕ = c.loop-state.state-index in
    let held : StreamState = get_or c.args.held.now c.loop-state.state-index no-held in
    let case : Case = record { held = held; next = c.next-next.result } in (
      ap (λ (l : List Case). map (λ (d : Case). d.held) l) c.in_ok-push.ensures.items
          ∙ map-append (λ (d : Case). d.held) c.loop-state.out.items (case ∷ [])
          ∙ ap (λ (l : List StreamState). l ++ (held ∷ [])) c.loop-state.invariant.0
          ∙ sym (take_more c.args.held.now c.loop-state.state-index no-held c.loop-state-test.true),
      λ z a opens. subst
          (λ (l : List Case). All (λ d. IsNext z (arrival_of c.args.coming.now.arrived.now)
          (drop d.held.passed (map gone_of c.args.frames.now)) d.next) l)
          (sym c.in_ok-push.ensures.items)
          (All-push (λ (d : Case). IsNext z (arrival_of c.args.coming.now.arrived.now)
          (drop d.held.passed (map gone_of c.args.frames.now)) d.next)
          c.loop-state.out.items case
          (c.loop-state.invariant.1 z a opens)
          (c.next-next.ensures.defined z (arrival_of c.args.coming.now.arrived.now) a refl refl opens)),
      λ rates count all. subst (λ (l : List Case). All (λ d. IsCaseWithin rates (length c.args.frames.now) count d) l)
          (sym c.in_ok-push.ensures.items)
          (All-push (λ (d : Case). IsCaseWithin rates (length c.args.frames.now) count d) c.loop-state.out.items case
          (c.loop-state.invariant.2 rates count all)
          (record {
            held = all c.loop-state.state-index no-held c.loop-state-test.true;
            left =
                c.next-next.ensures.left;
          })),
    )

pub returns-clause-held : goal.returns-clause-held
returns-clause-held c =
    c.loop-state.invariant.0
    ∙ take_all c.loop-state.state-index c.args.held.now (let h = c.loop-state-test.false in omega (arith, h))

pub returns-clause-next : goal.returns-clause-next
returns-clause-next c z a opens = c.loop-state.invariant.1 z a opens

pub returns-clause-within : goal.returns-clause-within
returns-clause-within c rates count all = c.loop-state.invariant.2 rates count all
