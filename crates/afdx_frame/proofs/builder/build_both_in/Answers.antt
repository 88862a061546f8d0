use Rattle.std.proofs.Common.{◌≡◌, ◌∙◌, ◌-◌, ◌+◌, ◌*◌, ◌++◌, List, ℕ, length, refl, ap, ap₂, arith}
use Rattle.std.specs.Prelude.{slice_set}
use Rattle.std.specs.Int.{w32, to_le_bytes}
use Rattle.afdx_frame.specs.declared.link.Side.TheVariants.{A, B}
use Rattle.afdx_frame.specs.Register.{shift}
use Rattle.afdx_frame.specs.Sealing.{sealed, sequence_of}
use Rattle.afdx_frame.proofs.BuiltLemmas.{from_computed, message_is_bytes}
use Rattle.afdx_frame.proofs.NetworkLemmas.{other_frame}
use Rattle.afdx_frame.proofs.builder.build_both_in.Goals as goal

pub returns : goal.returns
returns c =
    let check : c.fcs-check.result ≡ sequence_of c.in_ok-a.a.items = c.fcs-check.ensures.computed
    ∙ ap sequence_of c.as_slice.ensures.value in
    let a = from_computed c.args.address.now c.args.sequence A c.args.payload.now c.extend_from_slice-2.new.self.items
    c.in_ok-a.ensures.fits (λ i. omega (arith, c.type_inv.payload i)) (omega arith)
    (c.in_ok-extend_from_slice-2.ensures.items
    ∙ ap (λ (l : List ℕ). c.in_ok-a.a.items ++ l)
    (c.to_le_bytes.ensures ∙ ap (to_le_bytes w32) check) ∙ ap sealed c.in_ok-a.ensures.message) in
    let b = from_computed c.args.address.now c.args.sequence B c.args.payload.now c.extend_from_slice-3.new.self.items
    c.in_ok-a.ensures.fits (λ i. omega (arith, c.type_inv.payload i)) (omega arith)
    (other_frame c.args.address.now c.args.sequence c.args.payload.now c.in_ok-a.a.items
    c.extend_from_slice.new.self.items c.extend_from_slice-3.new.self.items c.fcs-check.result
    c.difference.result
    (392 + 8 * (length c.in_ok-a.a.items - 60))
    (message_is_bytes c.args.address.now c.args.sequence A c.args.payload.now c.in_ok-a.a.items
    c.in_ok-a.ensures.fits (λ i. omega (arith, c.type_inv.payload i)) (omega arith)
    c.in_ok-a.ensures.message)
    c.in_ok-a.ensures.message
    (c.in_ok-extend_from_slice.ensures.items
    ∙ ap₂ (λ (x y : List ℕ). x ++ y)
    (c.in_ok-reserve_exact.ensures.items ∙ c.clear.ensures.items) c.as_slice-2.ensures.value)
    check (c.difference.ensures
    ∙ ap (λ (n : ℕ). shift (392 + 8 * (n - 60)) 0x60)
    (omega (arith, c.len.ensures, c.in_ok-a.a.ok))) refl
    (omega (arith, c.in_ok-a.ensures.long, c.in_ok-a.a.ok))
    (c.in_ok-extend_from_slice-3.ensures.items
    ∙ ap₂ (λ (n : ℕ) (l : List ℕ). slice_set c.extend_from_slice.new.self.items 11 n ++ l)
    c.network.ensures c.to_le_bytes-2.ensures)) in
    record {
      built = (a.built, b.built);
      read = (a.read, b.read);
      long = (
        omega (arith, c.extend_from_slice-2.new.self.ok, a.long),
        omega (arith, c.extend_from_slice-3.new.self.ok, b.long),
      );
      computed = (a.computed, b.computed);
    }
