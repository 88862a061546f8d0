use Rattle.std.proofs.Common.{◌++◌, ◌∷◌, [], List, get_or, length, ap, ◌∙◌, arith}
use Rattle.std.proofs.lemmas.List.{length_push}
use Rattle.afdx_conform.specs.Naming.{no_gaps}
use Rattle.afdx_conform.specs.declared.gaps.Gaps.{Gaps}
use Rattle.afdx_conform.proofs.GapLemmas.{same-pushed}
use Rattle.afdx_conform.proofs.gaps.unknown_all.Goals as goal

pub loop-place-init : goal.loop-place-init
loop-place-init c = (
  ap (λ (l : List Gaps). length l) c.in_ok-all.ensures.items,
  λ i. ap (λ (l : List Gaps). get_or l i no_gaps) c.in_ok-all.ensures.items,
)

pub loop-place-preserved : goal.loop-place-preserved
loop-place-preserved c =
    let inv = c.loop-place.invariant in
    let items = c.in_ok-push.ensures.items ∙ ap (λ (g : Gaps). c.loop-place.all.items ++ (g ∷ []))
    c.unknown_gaps.ensures in (
      ap (λ (l : List Gaps). length l) items
          ∙ (let more = length_push c.loop-place.all.items no_gaps in let size = inv.0 in omega (arith, more, size)),
      λ i. ap (λ (l : List Gaps). get_or l i no_gaps) items ∙ same-pushed c.loop-place.all.items i ∙ inv.1 i,
    )
