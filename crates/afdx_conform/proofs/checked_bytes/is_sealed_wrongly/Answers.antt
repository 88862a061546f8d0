use Rattle.std.proofs.Common.{◌≡◌, ◌∙◌, ◌-◌, ap, sym, ℕ}
use Rattle.std.specs.Int.{w32, to_le_bytes}
use Rattle.std.specs.Bool.{Decides}
use Rattle.std.proofs.lemmas.Bool.Decides.{Decides-eqb}
use Rattle.std.proofs.lemmas.Slice.Eq.{slice_eq-Decides}
use Rattle.afdx_frame.specs.Sealing.{sequence_of}
use Rattle.afdx_conform.proofs.CheckedLemmas.{joined, shorter}
use Rattle.afdx_conform.proofs.checked_bytes.is_sealed_wrongly.Goals as goal

pub returns-then-bytes-message : goal.returns-then-bytes-message
returns-then-bytes-message c =
    sym (shorter c.args.bytes.now c.args.message.now (to_le_bytes w32 (0xffff_ffff - sequence_of c.args.message.now))
    c.if-bytes-message.true)

pub returns-then-eq : goal.returns-then-eq
returns-then-eq c =
    let message = c.args.message.now in
    let front : Decides c.eq.result (c.split_at.result.0.now ≡ message) =
    slice_eq-Decides Decides-eqb _ _ _ c.eq.ensures in
    let last : Decides c.eq-then-eq.result (c.split_at.result.1.now ≡ c.as_slice.result.now) =
    slice_eq-Decides Decides-eqb _ _ _ c.eq-then-eq.ensures in
    let tail : c.as_slice.result.now ≡ to_le_bytes w32 (0xffff_ffff - sequence_of message) =
    c.as_slice.ensures ∙ c.to_le_bytes.ensures ∙ ap (λ (n : ℕ). to_le_bytes w32 (0xffff_ffff - n))
    c.fcs.ensures.computed in
    joined c.args.bytes.now message (to_le_bytes w32 (0xffff_ffff - sequence_of message)) c.eq-then-eq.result (
      λ yes. (sym c.split_at.ensures.front ∙ front.0 c.if-eq.true, sym c.split_at.ensures.back ∙ last.0 yes ∙ tail),
      λ parts. last.1 (c.split_at.ensures.back ∙ parts.1 ∙ sym tail),
    )

pub returns-else-eq : goal.returns-else-eq
returns-else-eq c =
    let message = c.args.message.now in
    let front : Decides c.eq.result (c.split_at.result.0.now ≡ message) =
    slice_eq-Decides Decides-eqb _ _ _ c.eq.ensures in
    joined c.args.bytes.now message (to_le_bytes w32 (0xffff_ffff - sequence_of message)) c.eq.result (
      λ yes. let no = c.if-eq.false in absurd cc,
      λ parts. front.1 (c.split_at.ensures.front ∙ parts.0),
    )
