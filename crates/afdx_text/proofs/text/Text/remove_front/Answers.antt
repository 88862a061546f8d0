use Rattle.std.proofs.Common.{ℕ, List, ◌≡◌, ◌+◌, ◌-◌, ◌≤◌, length, take, drop, ap, sym, ◌∙◌, arith, rules, length-drop, length-take}
use lib.Seq.{paste}
use Rattle.std.proofs.lemmas.List.{with_items_is, places, drop-take}
use Rattle.std.proofs.lemmas.List.Edits.{take-paste}
use Rattle.afdx_text.specs.Texts.{text_bytes}
use Rattle.afdx_text.proofs.text.Text.remove_front.Goals as goal

pub copy_within-requires-clause-start_le_end : goal.copy_within-requires-clause-start_le_end
unfolding text_bytes
copy_within-requires-clause-start_le_end c =
    let text = c.args.self.now in
    omega (arith, length-take text.end text.room.items, c.requires)

pub overflow_sub-self : goal.overflow_sub-self
unfolding text_bytes
overflow_sub-self c =
    let text = c.args.self.now in
    omega (arith, length-take text.end text.room.items, c.requires)

pub returns : goal.returns
unfolding text_bytes
returns c =
    let text = c.args.self.now in
    let all : List ℕ = c.as_mut_slice.result.now in
    let count : ℕ = c.args.count in
    let left : ℕ = text.end - count in
    let within : count ≤ text.end = omega (arith, length-take text.end text.room.items, c.requires) in
    let same : left ≡ 0 + left = omega arith in
    let back : count + left ≡ text.end = omega (arith, within) in
    let long : text.end ≤ length all = omega (
      arith,
      text.within,
      text.room.ok.0,
      ap length
          c.as_mut_slice.ensures.value,
    ) in
    let rest : left ≤ length (drop count all) = omega (arith, long, length-drop count all) in
    ap (take left) (with_items_is text.room c.copy_within.new.self (search (rules, places))
    ∙ c.copy_within.ensures.after)
    ∙ ap (λ (k : ℕ). take k (paste all 0 (drop count all) left)) same
    ∙ take-paste all 0 (drop count all) left (omega arith) rest
    ∙ sym (drop-take count left all) ∙ ap (λ (k : ℕ). drop count (take k all)) back
    ∙ ap (λ (xs : List ℕ). drop count (take text.end xs)) c.as_mut_slice.ensures.value
