use Rattle.std.proofs.Common.{◌≡◌, ◌≤◌, ◌*◌, ◌/◌, ◌∙◌, ap, sym, arith, subst, ℕ, List}
use Rattle.std.proofs.Common.{drop, [], length, get_or}
use Rattle.std.specs.Prelude.{bit_xor}
use Rattle.std.proofs.lemmas.List.{drop_all, length-take, length-drop}
use Rattle.afdx_frame.specs.Register.{number, shift}
use Rattle.afdx_frame.specs.Sealing.{AreBytes}
use Rattle.afdx_frame.proofs.LeftLemmas.{left, left-is, left-none, left-byte}
use Rattle.afdx_frame.proofs.LeftLemmas.{left-block, AreBytes-drop, get_or-first_chunks}
use Rattle.afdx_frame.proofs.register.after_bytes.Goals as goal

pub loop-block-preserved : goal.loop-block-preserved
loop-block-preserved c = record {
  fits = omega arith;
  same =
      left-block c.args.bytes.now c.loop-block.block-index c.loop-block.register
      c.block_step-register.result (λ i. omega (arith, c.type_inv.bytes i))
      (omega (arith, c.as_chunks.ensures.front_len))
      (c.block_step-register.ensures ∙ ap (λ (l : List ℕ). shift 64 (bit_xor c.loop-block.register (number l)))
      (c.as_slice.ensures ∙ ap (λ (bs : List (List ℕ)). get_or bs c.loop-block.block-index []) c.as_chunks.ensures.front
      ∙ get_or-first_chunks 8 (length c.args.bytes.now / 8) c.args.bytes.now
      c.loop-block.block-index (omega (arith, c.as_chunks.ensures.front_len))))
      ∙ c.loop-block.invariant.same;
}

pub block_step-register-requires : goal.block_step-register-requires
block_step-register-requires c =
    ap length (c.as_slice.ensures
    ∙ ap (λ (bs : List (List ℕ)). get_or bs c.loop-block.block-index []) c.as_chunks.ensures.front
    ∙ get_or-first_chunks 8 (length c.args.bytes.now / 8) c.args.bytes.now c.loop-block.block-index
    (omega (arith, c.as_chunks.ensures.front_len)))
    ∙ omega (
      arith,
      c.as_chunks.ensures.front_len,
      length-take 8 (drop (c.loop-block.block-index * 8) c.args.bytes.now),
      length-drop (c.loop-block.block-index * 8) c.args.bytes.now,
    )

pub loop-byte-preserved : goal.loop-byte-preserved
loop-byte-preserved c = record {
  fits = omega arith;
  same =
      left-byte c.as_chunks.result.1.now c.loop-byte.byte-index c.loop-byte.register
      c.byte_step-register.result (subst AreBytes (sym c.as_chunks.ensures.back)
      (AreBytes-drop (length c.args.bytes.now / 8 * 8) c.args.bytes.now
      (λ i. omega (arith, c.type_inv.bytes i)))) (omega arith) c.byte_step-register.ensures
      ∙ c.loop-byte.invariant.same;
}

left_in_register : (bytes rest : List ℕ) (i register first : ℕ) → length rest ≤ i
    → left (drop i rest) register ≡ left bytes first
    → register ≡ shift (8 * length bytes) (bit_xor first (number bytes))
left_in_register bytes rest i register first h same =
    sym (ap (λ (l : List ℕ). left l register) (drop_all i rest h) ∙ left-none register) ∙ same ∙ left-is bytes first

pub returns : goal.returns
returns c =
    left_in_register c.args.bytes.now c.as_chunks.result.1.now c.loop-byte.byte-index
    c.loop-byte.register c.args.register (omega arith) c.loop-byte.invariant.same
