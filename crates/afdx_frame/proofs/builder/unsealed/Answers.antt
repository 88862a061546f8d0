use Rattle.std.proofs.Common.{◌≡◌, ◌∙◌, ◌+◌, ◌-◌, ℕ, List, [], ◌∷◌, ◌++◌, length, replicate, ap, ap₂, arith}
use Rattle.std.specs.Prelude.{vec_len}
use Rattle.std.specs.Int.{w16, to_be_bytes}
use Rattle.afdx_frame.specs.Datagrams.{ip_header, udp_header, words, ones_sum}
use Rattle.afdx_frame.specs.Grammar.{source_of, built_headers, checksum_of, built_length, built_body, Buildable}
use Rattle.afdx_frame.specs.Layout.{unsealed}
use Rattle.afdx_frame.proofs.FrameLemmas.{appended}
use Rattle.afdx_frame.proofs.builder.unsealed.Goals as goal

pub returns : goal.returns
returns c =
    let sum : c.checksum-sum.result ≡ checksum_of c.args.address.now (length c.args.payload.now) =
    c.checksum-sum.ensures ∙ ap (λ (x : List ℕ). 0xffff - ones_sum (words x))
    (c.as_slice.ensures ∙ c.ip_header.ensures.bytes) in
    let size : c.max-length.result ≡ built_length c.args.address.now (length c.args.payload.now) =
    omega (arith, c.max-length.ensures, c.max.ensures, c.from.ensures) in
    let mac : c.as_slice-2.result.now ≡ 3 ∷ 0 ∷ 0 ∷ 0 ∷ to_be_bytes w16 c.args.address.now.vl.0
    ++ source_of c.args.address.now c.args.side ++ to_be_bytes w16 0x0800 =
    c.as_slice-2.ensures ∙ c.mac_header.ensures.bytes in
    let ip : c.as_slice-3.result.now
    ≡ ip_header (built_headers c.args.address.now (length c.args.payload.now)
    (checksum_of c.args.address.now (length c.args.payload.now))) =
    c.as_slice-3.ensures ∙ c.ip_header-2.ensures.bytes
    ∙ ap (λ (s : ℕ). ip_header (built_headers c.args.address.now (length c.args.payload.now) s))
    sum in
    let udp : c.as_slice-4.result.now
    ≡ udp_header (built_headers c.args.address.now (length c.args.payload.now)
    (checksum_of c.args.address.now (length c.args.payload.now))) =
    c.as_slice-4.ensures ∙ c.udp_header.ensures.bytes (checksum_of c.args.address.now (length c.args.payload.now)) in
    let pad : ℕ = built_length c.args.address.now (length c.args.payload.now) - (length c.args.payload.now + 47) in
    let message : c.push.new.self.items
    ≡ unsealed c.args.address.now.vl.0 (source_of c.args.address.now c.args.side) 0x0800
    (built_body c.args.address.now c.args.payload.now) c.args.sequence =
    appended c.as_slice-2.result.now c.as_slice-3.result.now c.as_slice-4.result.now c.args.payload.now
    c.reserve_exact.new.self.items c.extend_from_slice.new.self.items
    c.extend_from_slice-2.new.self.items c.extend_from_slice-3.new.self.items
    c.extend_from_slice-4.new.self.items c.resize.new.self.items c.push.new.self.items
    (c.max-length.result - 5) (vec_len c.extend_from_slice-4.new.self) pad c.args.sequence
    (c.in_ok-reserve_exact.ensures.items ∙ c.clear.ensures.items)
    c.in_ok-extend_from_slice.ensures.items
    c.in_ok-extend_from_slice-2.ensures.items
    c.in_ok-extend_from_slice-3.ensures.items
    c.in_ok-extend_from_slice-4.ensures.items
    c.in_ok-resize.ensures.items
    (omega (arith, size, ap length mac, ap length ip, ap length udp))
    (omega (
      arith,
      size,
      ap length mac,
      ap length ip,
      ap length udp,
      c.clear.ensures.len,
      c.in_ok-reserve_exact.ensures.len,
      c.in_ok-extend_from_slice.ensures.len,
      c.in_ok-extend_from_slice-2.ensures.len,
      c.in_ok-extend_from_slice-3.ensures.len,
      c.in_ok-extend_from_slice-4.ensures.len,
    ))
    c.in_ok-push.ensures.items
    ∙ ap₂ (λ (m b : List ℕ). m ++ b ++ c.args.sequence ∷ []) mac
    (ap (λ (h : List ℕ). h ++ c.args.payload.now ++ replicate pad 0) (ap₂ (λ (x y : List ℕ). x ++ y) ip udp)) in
    let ok : Buildable c.args.address.now c.args.payload.now = record {
      least = c.requires.least.0;
      most = c.requires.least.1;
      some = c.requires.payload.0;
      fits = c.requires.payload.1;
      vl = c.mac_header.ensures.fits.0;
      from_port = c.udp_header.ensures.fits.0;
      to_port = c.udp_header.ensures.fits.1;
      system_id = c.mac_header.ensures.fits.1;
      partition = c.ip_header.ensures.fits;
    } in
    record {
      message = message;
      long = omega (arith, size, c.in_ok-push.ensures.len, c.in_ok-resize.ensures.len);
      fits = ok;
    }
