use Rattle.std.proofs.Common.{◌≡◌, ◌++◌, List, ℕ, take, ap, sym, ◌∙◌}
use Rattle.std.specs.List.{slice_range}
use Rattle.afdx_text.proofs.WholeLineLemmas.{handed_front, two_parts}
use Rattle.afdx_text.proofs.whole_lines.WholeLines.hand_over.Goals as goal

pub returns-then-taken-before-clause-kept : goal.returns-then-taken-before-clause-kept
returns-then-taken-before-clause-kept g c =
    let held : List ℕ = c.args.self.now.held.items in
    let n : ℕ = c.offer_whole-taken.result in
    let rest : List ℕ = slice_range held n c.args.before in
    let left : c.append.new.held.items ≡ rest =
    c.append.ensures
    ∙ ap (λ (l : List ℕ). l ++ slice_range c.as_slice-then-taken-before.result.now n c.args.before) c.new-rest.ensures
    ∙ ap (λ (l : List ℕ). slice_range l n c.args.before) c.as_slice-then-taken-before.ensures.value in
    handed_front _ _ (take n c.as_slice.result.now) c.append.new.held.items (take c.args.before held)
    c.offer_whole-taken.ensures.taken
    (two_parts held n c.args.before c.if-taken-before.true
    ∙ ap (λ (l : List ℕ). take n l ++ rest) (sym c.as_slice.ensures.value)
    ∙ ap (λ (l : List ℕ). take n c.as_slice.result.now ++ l) (sym left))
