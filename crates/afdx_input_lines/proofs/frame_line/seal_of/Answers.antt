use Rattle.std.proofs.Common.{◌∙◌, ap, sym}
use Rattle.afdx_frame.specs.Seals.{whole}
use Rattle.afdx_frame.proofs.SealsLemmas.{known-right, known-wrong}
use Rattle.afdx_input_lines.specs.declared.frame_line.FrameKind.{FrameKind}
use Rattle.afdx_input_lines.specs.FrameLines.{frame_bytes}
use Rattle.afdx_input_lines.proofs.frame_line.seal_of.Goals as goal

pub returns-in-Good : goal.returns-in-Good
unfolding frame_bytes whole
returns-in-Good c = record {
  bytes = sym (ap (λ (k : FrameKind). frame_bytes k c.args.frame.now.items) c.in-Good.is);
  known = known-right c.args.frame.now.items;
}

pub returns-in-Bad : goal.returns-in-Bad
unfolding frame_bytes whole
returns-in-Bad c = record {
  bytes = sym (ap (λ (k : FrameKind). frame_bytes k c.args.frame.now.items) c.in-Bad.is);
  known = known-wrong c.args.frame.now.items;
}

pub returns-in-Raw-clause-bytes : goal.returns-in-Raw-clause-bytes
unfolding frame_bytes
returns-in-Raw-clause-bytes c =
    c.unseal.ensures.whole ∙ sym (ap (λ (k : FrameKind). frame_bytes k c.args.frame.now.items) c.in-Raw.is)
