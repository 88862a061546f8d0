use Rattle.std.proofs.Common.{◌≡◌, ℕ, List, Bool, true, false, refl, sym, ◌∙◌}
use Rattle.std.proofs.lemmas.Slice.Eq.{bytes_eq-Decides}
use Rattle.std.specs.Prelude.{string_bytes}
use Rattle.std.specs.Str.{bytes_eq}
use Rattle.afdx_input_lines.proofs.sited_line.ListedSwitch.has_name.Goals as goal

-- of texts that aren't the same
apart : (xs ys : List ℕ) → (xs ≡ ys → ⊥) → false ≡ bytes_eq xs ys
apart xs ys other = by (bytes_eq xs ys) refl
  where
    by : (b : Bool) → bytes_eq xs ys ≡ b → false ≡ b
    by true same = absurd (other ((bytes_eq-Decides xs ys).0 same))
    by false same = refl

pub returns-then-not-may_be_same : goal.returns-then-not-may_be_same
returns-then-not-may_be_same c =
    rw (← c.self.view_is) (apart c.args.name.now (string_bytes c.self.inside.name) (λ same.
    let may = c.may_be_same.ensures (same ∙ sym c.as_bytes-own.ensures.value) in
    let no = c.if-not-may_be_same.true in cc (may, no)))
