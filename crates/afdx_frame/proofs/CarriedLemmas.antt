-- What is computed of a frame's datagram is what its body carries, or its first fault.
use Rattle.std.proofs.Common.{◌≡◌, ◌≢◌, ◌⊎◌, ℕ, ◌+◌, ◌-◌, ◌%◌, ◌^◌, ◌≤◌, inl, inr, Bool, true}
use Rattle.std.proofs.Common.{false, List, ◌++◌, length, take, drop, get_or, refl, sym, ap, ap₂}
use Rattle.std.proofs.Common.{subst, ◌∙◌, arith}
use Rattle.std.specs.Prelude.{◌==◌, ◌&&◌, not, nat_le, if◌then◌else◌, Result, Ok, Err, MatchResult}
use Rattle.std.specs.Bool.{Decides}
use Rattle.std.proofs.lemmas.Bool.{le-leb, leb-true}
use Rattle.std.proofs.lemmas.Bool.Decides.{Decides-eqb, Decides-and, Decides-not, Decides-like, eqb_tells}
use Rattle.std.proofs.lemmas.List.{take_at, drop_at, length-append}
use Rattle.afdx_frame.specs.declared.fault.IpFault.{IpFault}
use Rattle.afdx_frame.specs.declared.fault.IpFault.TheVariants.{NotIpv4, BadIpHeader, Fragment, NotUdp, BadUdpLength}
use Rattle.afdx_frame.specs.Datagrams.{Headers, ip_header, udp_header, Begins, Carries, HeaderFault}
use Rattle.afdx_frame.specs.Datagrams.{BodyFault, DatagramFault, words, ones_sum}
use Rattle.afdx_frame.specs.Parts.{FrameParts, word_at, IsFrameOf}
use Rattle.afdx_frame.specs.Carried.{Carried, total_length, is_right_header, is_whole, is_udp}
use Rattle.afdx_frame.specs.Carried.{is_right_udp_length, carried_in_body, carried_by, FrameCarries}
use Rattle.afdx_frame.specs.Carried.{DatagramIsComputed}
use Rattle.afdx_frame.specs.Sealing.{AreBytes}
use Rattle.afdx_frame.proofs.DatagramLemmas.{RightAt, right_at, at_right, fault, carries}
use Rattle.afdx_frame.proofs.SoundLemmas.{SameFields, same_headers, same_right, length-ip_header, datagrams_are_sound}
use Rattle.afdx_frame.proofs.PartsLemmas.{at_places, AreBytes-body}

-- ---- the tests, one after another

abbrev pub IsCarried : List ℕ → Carried → Type 0
IsCarried body c = Carries body c.from_port c.to_port c.payload

Decides-le : (a b : ℕ) → Decides (nat_le a b) (a ≤ b)
Decides-le a b = (leb-true a b, le-leb a b)

header-Decides : (body : List ℕ) → Decides (is_right_header body) (RightAt body (total_length body))
header-Decides body =
    Decides-like (is_right_header body) (λ h. (h.0.0.0, h.0.0.1, h.0.1, h.1)) (λ r. (((r.0, r.1), r.2), r.3))
    (Decides-and (get_or body 0 0 == 0x45 && nat_le 28 (total_length body)
    && nat_le (total_length body) (length body)) (ones_sum (words (take 20 body)) == 0xffff)
    (Decides-and (get_or body 0 0 == 0x45 && nat_le 28 (total_length body)) (nat_le (total_length body) (length body))
    (Decides-and (get_or body 0 0 == 0x45) (nat_le 28 (total_length body))
    (Decides-eqb (get_or body 0 0) 0x45) (Decides-le 28 (total_length body)))
    (Decides-le (total_length body) (length body)))
    (Decides-eqb (ones_sum (words (take 20 body))) 0xffff))

-- the UDP length fits the total length, and is not that of a header alone
abbrev FitsTotal : List ℕ → Type 0
FitsTotal body = (word_at body 24 + 20 ≡ total_length body) × (word_at body 24 ≡ 8 → ⊥)

udp_length-Decides : (body : List ℕ) → Decides (is_right_udp_length body) (FitsTotal body)
udp_length-Decides body =
    Decides-and (word_at body 24 + 20 == total_length body) (not (word_at body 24 == 8))
    (Decides-eqb (word_at body 24 + 20) (total_length body))
    (Decides-not (word_at body 24 == 8) (Decides-eqb (word_at body 24) 8))

-- where the UDP length is wrong, one of its two conditions is
pub wrong_length : (n t : ℕ) → (((n + 20 ≡ t) × (n ≡ 8 → ⊥)) → ⊥) → (n + 20 ≢ t) ⊎ (n ≡ 8)
wrong_length n t h = elim (eqb_tells (n + 20) t) [
  | inr ne ↦ inl ne.1
  | inl eq ↦ elim (eqb_tells n 8) [ inl e ↦ inr e.1 | inr ne ↦ absurd (h (eq.1, ne.1)) ]
]

pub refuted : {P : Type 0} (t : Bool) → t ≡ false → Decides t P → P → ⊥
refuted t e d p = let yes : t ≡ true = d.1 p in absurd cc

steps : (body : List ℕ) (header whole udp fits : Bool) → AreBytes body → 28 ≤ length body
    → Decides header (RightAt body (total_length body)) → Decides whole (word_at body 6 % 2 ^ 14 ≡ 0)
    → Decides udp (get_or body 9 0 ≡ 17) → Decides fits (FitsTotal body)
    → MatchResult (if not header then Err BadIpHeader
    else (if not whole then Err Fragment
    else (if not udp then Err NotUdp
    else (if not fits then Err BadUdpLength
    else Ok (record {
      from_port = word_at body 20;
      to_port = word_at body 22;
      payload = take (total_length body - 28) (drop 28 body);
    }))))) (IsCarried body) (BodyFault body)
steps body false whole udp fits h l dh dw du df =
    fault body BadIpHeader h l (λ r. refuted false refl dh (at_right body (total_length body) h l refl r))
steps body true false udp fits h l dh dw du df =
    fault body Fragment h l (
      right_at body (total_length body) h l refl (dh.0 refl),
      refuted false refl dw,
    )
steps body true true false fits h l dh dw du df =
    fault body NotUdp h l (
      right_at body (total_length body) h l refl (dh.0 refl),
      dw.0 refl,
      refuted false refl du,
    )
steps body true true true false h l dh dw du df =
    fault body BadUdpLength h l (
      right_at body (total_length body) h l refl (dh.0 refl),
      dw.0 refl,
      du.0 refl,
      wrong_length (word_at body 24) (total_length body) (refuted false refl df),
    )
steps body true true true true h l dh dw du df =
    carries body (total_length body) (word_at body 20) (word_at body 22) h l refl (dh.0 refl)
    (dw.0 refl) (du.0 refl) (df.0 refl).0 (df.0 refl).1 refl refl

pub body_exact : (body : List ℕ) → AreBytes body → 28 ≤ length body
    → MatchResult (carried_in_body body) (IsCarried body) (BodyFault body)
unfolding carried_in_body
body_exact body h l =
    steps body (is_right_header body) (is_whole body) (is_udp body) (is_right_udp_length body) h l
    (header-Decides body) (Decides-eqb (word_at body 6 % 2 ^ 14) 0)
    (Decides-eqb (get_or body 9 0) 17) (udp_length-Decides body)

-- ---- a body carries one datagram, or has one first fault

after_headers : (body rest : List ℕ) (h : Headers) → Begins body h rest → drop 28 body ≡ rest
after_headers body rest h b =
    ap (drop 28) b.parts ∙ drop_at (ip_header h ++ udp_header h) rest 28
    (omega (arith, length-append (ip_header h) (udp_header h), length-ip_header body rest h b, udp))
  where
    udp : length (udp_header h) ≡ 8
    udp = simp length-append (omega (arith, b.udp_checksum))

carried : ℕ → ℕ → List ℕ → Carried
carried from_port to_port payload = record { from_port = from_port; to_port = to_port; payload = payload }

one_payload : (body p q r s : List ℕ) → drop 28 body ≡ p ++ r → drop 28 body ≡ q ++ s → length p ≡ length q → p ≡ q
one_payload body p q r s e f same = sym (ap (take (length q)) e ∙ take_at p r (length q) same)
    ∙ ap (take (length q)) f ∙ take_at q s (length q) refl

pub one_carried : (body : List ℕ) (c d : Carried) → IsCarried body c → IsCarried body d → c ≡ d
unfolding carried
one_carried body c d m n =
    let same = same_headers body (c.payload ++ m.padding) (d.payload ++ n.padding) m.headers
    n.headers m.parts n.parts in
    ap₂ (λ (f t : ℕ). carried f t c.payload) (sym m.from_is ∙ same.from_port ∙ n.from_is)
    (sym m.to_is ∙ same.to_port ∙ n.to_is)
    ∙ ap (carried d.from_port d.to_port)
    (one_payload body c.payload d.payload m.padding n.padding
    (after_headers body (c.payload ++ m.padding) m.headers m.parts)
    (after_headers body (d.payload ++ n.padding) n.headers n.parts)
    (omega (arith, m.total, n.total, same.total)))

same_fault : (h k : Headers) (room : ℕ) (e : IpFault) → SameFields h k → SameFields k h
    → HeaderFault h room e → HeaderFault k room e
same_fault h k room NotIpv4 s t w = w
same_fault h k room BadIpHeader s t w = λ r. w (same_right k h room t r)
same_fault h k room Fragment s t w = (same_right h k room s w.0, λ e. w.1 (ap (λ (n : ℕ). n % 2 ^ 14) s.fragment ∙ e))
same_fault h k room NotUdp s t w =
    (same_right h k room s w.0, ap (λ (n : ℕ). n % 2 ^ 14) t.fragment ∙ w.1, λ e. w.2 (s.protocol ∙ e))
same_fault h k room BadUdpLength s t w = (
  same_right h k room s w.0,
  ap (λ (n : ℕ). n % 2 ^ 14) t.fragment ∙ w.1,
  t.protocol
      ∙ w.2,
  elim w.3 [
    | inl ne ↦ inl (λ e. ne (omega (arith, s.udp_length, s.total, e)))
    | inr eq ↦ inr (t.udp_length ∙ eq)
  ],
)

-- the length fits, or it doesn't
one_fault : (h : Headers) (room : ℕ) (e f : IpFault) → HeaderFault h room e → HeaderFault h room f → e ≡ f
one_fault h room NotIpv4 f w v = absurd w
one_fault h room BadIpHeader NotIpv4 w v = absurd v
one_fault h room BadIpHeader BadIpHeader w v = refl
one_fault h room BadIpHeader Fragment w v = absurd (w v.0)
one_fault h room BadIpHeader NotUdp w v = absurd (w v.0)
one_fault h room BadIpHeader BadUdpLength w v = absurd (w v.0)
one_fault h room Fragment NotIpv4 w v = absurd v
one_fault h room Fragment BadIpHeader w v = absurd (v w.0)
one_fault h room Fragment Fragment w v = refl
one_fault h room Fragment NotUdp w v = absurd (w.1 v.1)
one_fault h room Fragment BadUdpLength w v = absurd (w.1 v.1)
one_fault h room NotUdp NotIpv4 w v = absurd v
one_fault h room NotUdp BadIpHeader w v = absurd (v w.0)
one_fault h room NotUdp Fragment w v = absurd (v.1 w.1)
one_fault h room NotUdp NotUdp w v = refl
one_fault h room NotUdp BadUdpLength w v = absurd (w.2 v.2)
one_fault h room BadUdpLength NotIpv4 w v = absurd v
one_fault h room BadUdpLength BadIpHeader w v = absurd (v w.0)
one_fault h room BadUdpLength Fragment w v = absurd (v.1 w.1)
one_fault h room BadUdpLength NotUdp w v = absurd (v.2 w.2)
one_fault h room BadUdpLength BadUdpLength w v = refl

pub one_body_fault : (body : List ℕ) (e f : IpFault) → BodyFault body e → BodyFault body f → e ≡ f
one_body_fault body e f w v =
    one_fault v.headers (length body) e f
    (same_fault w.headers v.headers (length body) e
    (same_headers body w.rest v.rest w.headers v.headers w.parts v.parts)
    (same_headers body v.rest w.rest v.headers w.headers v.parts w.parts) w.wrong)
    v.wrong

not_both : (body : List ℕ) (c : Carried) (e : IpFault) → IsCarried body c → BodyFault body e → ⊥
not_both body c NotIpv4 m w = w.wrong
not_both body c BadIpHeader m w = datagrams_are_sound 0x0800 body c.payload c.from_port c.to_port
    BadIpHeader refl m (refl, w)
not_both body c Fragment m w = datagrams_are_sound 0x0800 body c.payload c.from_port c.to_port Fragment refl m (refl, w)
not_both body c NotUdp m w = datagrams_are_sound 0x0800 body c.payload c.from_port c.to_port NotUdp refl m (refl, w)
not_both body c BadUdpLength m w = datagrams_are_sound 0x0800 body c.payload c.from_port c.to_port
    BadUdpLength refl m (refl, w)

the_carried : (body : List ℕ) (c : Carried) (r : Result Carried IpFault)
    → MatchResult r (IsCarried body) (BodyFault body) → IsCarried body c → r ≡ Ok c
the_carried body c (Ok d) m is = ap Ok (one_carried body d c m is)
the_carried body c (Err e) m is = absurd (not_both body c e is m)

the_fault : (body : List ℕ) (e : IpFault) (r : Result Carried IpFault)
    → MatchResult r (IsCarried body) (BodyFault body) → BodyFault body e → r ≡ Err e
the_fault body e (Ok d) m w = absurd (not_both body d e m w)
the_fault body e (Err f) m w = ap Err (one_body_fault body f e m w)

pub computed_carried : (body : List ℕ) (c : Carried) → AreBytes body → 28 ≤ length body
    → IsCarried body c → carried_in_body body ≡ Ok c
computed_carried body c h l is = the_carried body c (carried_in_body body) (body_exact body h l) is

pub computed_fault : (body : List ℕ) (e : IpFault) → AreBytes body → 28 ≤ length body
    → BodyFault body e → carried_in_body body ≡ Err e
computed_fault body e h l w = the_fault body e (carried_in_body body) (body_exact body h l) w

-- ---- in a frame

carried_with : ℕ → List ℕ → Result Carried IpFault
carried_with kind body = if kind == 0x0800 then carried_in_body body else Err NotIpv4

by_parts : (bytes : List ℕ) (p : FrameParts) → IsFrameOf bytes p → carried_by bytes ≡ carried_with p.kind p.body
unfolding carried_by carried_with
by_parts bytes p f = ap₂ carried_with (sym (at_places bytes p f).kind) (sym (at_places bytes p f).body)

pub carried_by-ipv4 : (bytes : List ℕ) (p : FrameParts) → IsFrameOf bytes p → p.kind ≡ 0x0800
    → carried_by bytes ≡ carried_in_body p.body
unfolding carried_with
carried_by-ipv4 bytes p f e = by_parts bytes p f ∙ ap (λ (kind : ℕ). carried_with kind p.body) e

pub carried_by-other : (bytes : List ℕ) (p : FrameParts) → IsFrameOf bytes p → p.kind ≢ 0x0800
    → carried_by bytes ≡ Err NotIpv4
unfolding carried_with
carried_by-other bytes p f ne = by_parts bytes p f
    ∙ elim (eqb_tells p.kind 0x0800) [
      | inl eq ↦ absurd (ne eq.1)
      | inr other ↦ ap
          (λ (t : Bool). if t then carried_in_body p.body else Err NotIpv4) other.0
    ]

room : (bytes : List ℕ) (p : FrameParts) → IsFrameOf bytes p → 28 ≤ length p.body
room bytes p f = omega (arith, (at_places bytes p f).long, f.least)

pub in_body : (p : FrameParts) (e : IpFault) → p.kind ≡ 0x0800 → BodyFault p.body e → DatagramFault p.kind p.body e
in_body p NotIpv4 k w = absurd w.wrong
in_body p BadIpHeader k w = (k, w)
in_body p Fragment k w = (k, w)
in_body p NotUdp k w = (k, w)
in_body p BadUdpLength k w = (k, w)

with_kind : (p : FrameParts) (r : Result Carried IpFault) → p.kind ≡ 0x0800
    → MatchResult r (IsCarried p.body) (BodyFault p.body)
    → MatchResult r (FrameCarries p) (DatagramFault p.kind p.body)
with_kind p (Ok c) k m = (k, m)
with_kind p (Err e) k m = in_body p e k m

pub datagram_exact : (bytes : List ℕ) (p : FrameParts) → AreBytes bytes → IsFrameOf bytes p
    → MatchResult (carried_by bytes) (FrameCarries p) (DatagramFault p.kind p.body)
datagram_exact bytes p h f = elim (eqb_tells p.kind 0x0800) [
  | inl eq ↦ subst (λ (r : Result Carried IpFault). MatchResult r (FrameCarries p)
      (DatagramFault p.kind p.body)) (sym (carried_by-ipv4 bytes p f eq.1))
      (with_kind p (carried_in_body p.body) eq.1 (body_exact p.body (AreBytes-body bytes p h f) (room bytes p f)))
  | inr other ↦ subst (λ (r : Result Carried IpFault). MatchResult r (FrameCarries p)
      (DatagramFault p.kind p.body)) (sym (carried_by-other bytes p f other.1)) other.1
]

pub in_frame-carried : (bytes : List ℕ) (p : FrameParts) (c : Carried) → AreBytes bytes
    → IsFrameOf bytes p → FrameCarries p c → carried_by bytes ≡ Ok c
in_frame-carried bytes p c h f m = carried_by-ipv4 bytes p f m.0
    ∙ computed_carried p.body c (AreBytes-body bytes p h f) (room bytes p f) m.1

in_frame-body : (bytes : List ℕ) (p : FrameParts) (e : IpFault) → AreBytes bytes → IsFrameOf bytes p
    → p.kind ≡ 0x0800 → BodyFault p.body e → carried_by bytes ≡ Err e
in_frame-body bytes p e h f k w = carried_by-ipv4 bytes p f k
    ∙ computed_fault p.body e (AreBytes-body bytes p h f) (room bytes p f) w

pub in_frame-fault : (bytes : List ℕ) (p : FrameParts) (e : IpFault) → AreBytes bytes
    → IsFrameOf bytes p → DatagramFault p.kind p.body e → carried_by bytes ≡ Err e
in_frame-fault bytes p NotIpv4 h f w = carried_by-other bytes p f w
in_frame-fault bytes p BadIpHeader h f w = in_frame-body bytes p BadIpHeader h f w.0 w.1
in_frame-fault bytes p Fragment h f w = in_frame-body bytes p Fragment h f w.0 w.1
in_frame-fault bytes p NotUdp h f w = in_frame-body bytes p NotUdp h f w.0 w.1
in_frame-fault bytes p BadUdpLength h f w = in_frame-body bytes p BadUdpLength h f w.0 w.1

pub datagram_is_computed : DatagramIsComputed
datagram_is_computed = record {
  carried = λ bytes p c h f. (
    λ is. subst (λ (r : Result Carried IpFault). MatchResult r (FrameCarries p)
        (DatagramFault p.kind p.body)) is (datagram_exact bytes p h f),
    λ m. in_frame-carried bytes p c h f m,
  );
  fault = λ bytes p e h f. (
    λ is. subst (λ (r : Result Carried IpFault). MatchResult r (FrameCarries p)
        (DatagramFault p.kind p.body)) is (datagram_exact bytes p h f),
    λ w. in_frame-fault bytes p e h f w,
  );
}
