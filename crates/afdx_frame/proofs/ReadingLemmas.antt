-- What a receiver reads, from the frame and from what its body carries.
use Rattle.std.proofs.Common.{◌≡◌, ℕ, List, refl, sym, ap, subst, ◌∙◌}
use Rattle.std.specs.Prelude.{Result, Ok, Err, IfOk, IfErr, MatchResult}
use Rattle.afdx_frame.specs.declared.fault.MacFault.{MacFault}
use Rattle.afdx_frame.specs.declared.fault.IpFault.{IpFault}
use Rattle.afdx_frame.specs.Layout.{IsFrame, FrameFault}
use Rattle.afdx_frame.specs.declared.datagram.Datagram.{Datagram}
use Rattle.afdx_frame.specs.Datagrams.{Carries, BodyFault, DatagramFault}
use Rattle.afdx_frame.specs.Grammar.{Read}
use Rattle.afdx_frame.specs.Parts.{FrameParts, IsFrameOf}
use Rattle.afdx_frame.specs.Carried.{Carried, carried_in, carried_in_body, carried_by, FrameCarries}
use Rattle.afdx_frame.specs.Reading.{Reads, NoneRead, ReadingIsComputed}
use Rattle.afdx_frame.proofs.PartsLemmas.{frame_is_computed, same_parts, at_places}
use Rattle.afdx_frame.proofs.SoundLemmas.{frames_are_sound, datagrams_are_sound}
use Rattle.afdx_frame.proofs.CarriedLemmas.{IsCarried, in_body, carried_by-ipv4, datagram_is_computed}

pub reads : (bytes : List ℕ) (p : FrameParts) (c : Carried) → IsFrameOf bytes p → p.kind ≡ 0x0800
    → IsCarried p.body c → Reads bytes p c
reads bytes p c f k m = record {
  body = p.body;
  frame = subst (λ (kind : ℕ). IsFrame bytes p.link.0 kind p.body p.number) k f;
  datagram = m;
}

pub unframed : (bytes : List ℕ) (e : MacFault) → FrameFault bytes e → NoneRead bytes
unframed bytes e w vl from_port to_port number payload r = frames_are_sound bytes r.body vl 0x0800 number e r.frame w

the_parts : (bytes : List ℕ) (vl from_port to_port number : ℕ) (payload : List ℕ)
    → Read bytes vl from_port to_port payload number → FrameParts
the_parts bytes vl from_port to_port number payload r =
    record { link = record { 0 = vl }; kind = 0x0800; body = r.body; number = number }

pub none_read : (bytes : List ℕ) (p : FrameParts) (e : IpFault) → IsFrameOf bytes p
    → DatagramFault p.kind p.body e → NoneRead bytes
unfolding the_parts
none_read bytes p e f w vl from_port to_port number payload r =
    let q : FrameParts = the_parts bytes vl from_port to_port number payload r in
    let same : q ≡ p = same_parts bytes q p (at_places bytes q r.frame) (at_places bytes p f) in
    datagrams_are_sound p.kind p.body payload from_port to_port e
    (ap (λ (x : FrameParts). x.kind) (sym same))
    (subst (λ (b : List ℕ). Carries b from_port to_port payload)
    (ap (λ (x : FrameParts). x.body) same) r.datagram) w

pub reading_is_computed : ReadingIsComputed
unfolding the_parts
reading_is_computed = record {
  computed = λ bytes p c h e d.
      let f : IsFrameOf bytes p = (frame_is_computed.frame bytes p h).0 e in
      let m : FrameCarries p c = (datagram_is_computed.carried bytes p c h f).0 d in reads bytes p c f m.0 m.1;
  only_one = λ bytes vl from_port to_port number payload h r.
      let q : FrameParts = the_parts bytes vl from_port to_port number payload r in (
        q,
        (frame_is_computed.frame bytes q h).1 r.frame,
        refl,
        refl,
        (datagram_is_computed.carried bytes q
            (record { from_port = from_port; to_port = to_port; payload = payload }) h r.frame).1
            (refl, r.datagram),
      );
}

-- ---- what a view of a datagram shows

abbrev pub IsExact : List ℕ → Result Datagram IpFault → Type 0
IsExact body r = MatchResult r (λ d. Carries body d.from_port d.to_port d.payload.now) (BodyFault body)

abbrev pub IsComputed : List ℕ → Result Datagram IpFault → Type 0
IsComputed body r = MatchResult r (λ d. carried_in_body body ≡ Ok (carried_in d)) (λ e. carried_in_body body ≡ Err e)

pub shown-ok : (p : FrameParts) (r : Result Datagram IpFault) → p.kind ≡ 0x0800 → IsExact p.body r
    → IfOk r (λ d. FrameCarries p (carried_in d))
shown-ok p (Ok d) k m = (k, m)
shown-ok p (Err e) k m = tt

pub shown-err : (p : FrameParts) (r : Result Datagram IpFault) → p.kind ≡ 0x0800 → IsExact p.body r
    → IfErr r (DatagramFault p.kind p.body)
shown-err p (Ok d) k m = tt
shown-err p (Err e) k m = in_body p e k m

pub shown-read : (p : FrameParts) (r : Result Datagram IpFault) → p.kind ≡ 0x0800 → IsExact p.body r
    → (bytes : List ℕ) → IsFrameOf bytes p
    → MatchResult r (λ d. Reads bytes p (carried_in d)) (λ _. NoneRead bytes)
shown-read p (Ok d) k m bytes f = reads bytes p (carried_in d) f k m
shown-read p (Err e) k m bytes f = none_read bytes p e f (in_body p e k m)

pub shown-computed : (p : FrameParts) (r : Result Datagram IpFault) → p.kind ≡ 0x0800
    → IsComputed p.body r → (bytes : List ℕ) → IsFrameOf bytes p
    → MatchResult r (λ d. carried_by bytes ≡ Ok (carried_in d)) (λ e. carried_by bytes ≡ Err e)
shown-computed p (Ok d) k m bytes f = carried_by-ipv4 bytes p f k ∙ m
shown-computed p (Err e) k m bytes f = carried_by-ipv4 bytes p f k ∙ m
