use Rattle.std.proofs.Common.{◌≡◌, ◌∙◌, ◌-◌, ℕ, length, take, arith, ap, sym}
use Rattle.afdx_frame.specs.Sealing.{is_sealed}
use Rattle.afdx_frame.specs.declared.seals.Seal.TheVariants.{Right}
use Rattle.afdx_frame.specs.Seals.{whole}
use Rattle.afdx_frame.proofs.SealsLemmas.{is_whole, known-right, known-missing, whole-missing}
use Rattle.afdx_frame.proofs.seals.unseal.Goals as goal

pub returns-then-is_sealed-clause-whole : goal.returns-then-is_sealed-clause-whole
returns-then-is_sealed-clause-whole c =
    let items = c.args.bytes.now.items in
    let count : c.len.result - 4 ≡ length items - 4 = omega (arith, c.len.ensures, c.args.bytes.now.ok.0) in
    ap (whole Right) c.truncate.ensures.items
    ∙ ap (λ (n : ℕ). whole Right (take n items)) count
    ∙ is_whole c.args.bytes.now.items
    (ap is_sealed (sym c.as_slice.ensures.value) ∙ sym c.is_sealed.ensures.computed ∙ c.if-is_sealed.true)

pub returns-then-is_sealed-clause-known : goal.returns-then-is_sealed-clause-known
returns-then-is_sealed-clause-known c = known-right c.truncate.new.self.items

pub returns-else-is_sealed-clause-whole : goal.returns-else-is_sealed-clause-whole
returns-else-is_sealed-clause-whole c = whole-missing c.args.bytes.now.items

pub returns-else-is_sealed-clause-known : goal.returns-else-is_sealed-clause-known
returns-else-is_sealed-clause-known c =
    known-missing c.args.bytes.now.items
    (ap is_sealed (sym c.as_slice.ensures.value) ∙ sym c.is_sealed.ensures.computed ∙ c.if-is_sealed.false)
