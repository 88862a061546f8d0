use Rattle.std.proofs.Common.{ℕ, arith, length, ap, refl, ◌≤◌}
use Rattle.afdx_text.specs.Texts.{text_bytes}
use Rattle.afdx_text.specs.OutLines.{line_text}
use Rattle.afdx_text.proofs.TextLemmas.{put_whole}
use Rattle.afdx_text.proofs.text.Text.add.Goals as goal

pub returns : goal.returns
unfolding text_bytes
returns c =
    let text = c.args.self.now in
    let put = c.put_at-self.ensures in
    let end : ℕ = c.put_at-self.result in
    let within : end ≤ text.room.len = omega (arith, put.within, c.requires) in
    let size : end ≤ length c.put_at-self.new.room =
    omega (
      arith,
      within,
      c.put_at-self.auto.room,
      text.room.ok.0,
      ap length c.as_mut_slice.ensures.value,
    ) in
    put_whole _ text.room.items c.put_at-self.new.room _ (line_text c.args.line.now) end
    text.end text.room.len within size
    (rw c.as_mut_slice.ensures.value at put.text) refl
