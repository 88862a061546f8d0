use Rattle.std.proofs.Common.{ℕ, List, arith, length, take, ap, sym, ◌≡◌, ◌*◌, ◌+◌, ◌++◌, ◌∙◌}
use Rattle.hex.specs.Hex.{encode_lower, lower_digits}
use Rattle.hex.proofs.HexLemmas.{length-encode_with}
use Rattle.afdx_text.proofs.TextLemmas.{put_front, take_whole}
use Rattle.afdx_text.proofs.piece.put_digits.Goals as goal

pub returns-clause-text : goal.returns-clause-text
returns-clause-text c =
    let bytes : List ℕ = c.args.bytes.now in
    let piece : List ℕ = encode_lower bytes in
    let at : ℕ = c.args.at in
    let room : List ℕ = c.args.room.now in
    let size : length piece ≡ 2 * length bytes = length-encode_with lower_digits bytes in
    ap (take (at + 2 * length bytes)) c.encode_at.ensures
    ∙ put_front room piece _ at (2 * length bytes) (omega arith) (omega (arith, size))
    ∙ ap (λ (ys : List ℕ). take at room ++ ys) (ap (λ (k : ℕ). take k piece) (sym size) ∙ take_whole piece)
