use Rattle.std.proofs.Common.{◌≡◌, List, ℕ, ◌++◌, ◌∙◌, ap, subst}
use Rattle.std.specs.Prelude.{codes}
use Rattle.afdx_input_lines.specs.FaultTexts.{fault_text}
use Rattle.afdx_text.specs.Telling.{Tells}
use Rattle.afdx_text.proofs.telling.tell_fault.Goals as goal

pub returns : goal.returns
returns g c =
    let text : List ℕ = fault_text c.args.fault.now in
    let line : c.as_bytes.result.now ≡ text ++ codes "\n" =
    c.as_bytes.ensures.value ∙ c.as_str.ensures.value ∙ c.push_str.ensures.bytes
    ∙ ap (λ (l : List ℕ). l ++ codes "\n") (c.put_fault.ensures.text
    ∙ ap (λ (l : List ℕ). l ++ text) c.new-line.ensures) in
    subst (Tells g.W.Write.contents c.args.device.now c.tell.new.device) line c.tell.ensures
