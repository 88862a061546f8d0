-- The window rule accepts the frames of a source of which nothing is found.
use Rattle.std.proofs.Common.{◌≡◌, ℕ, ◌+◌, ◌*◌, ◌-◌, ◌≤◌, Bool, true, false, List, [], ◌∷◌, refl, sym, ap}
use Rattle.std.proofs.Common.{ap₂, subst, ◌∙◌, arith, length}
use Rattle.std.specs.Prelude.{if◌then◌else◌, is_none, not, nat_lt, Option, Some, None, Result, Ok, Err, map}
use Rattle.std.specs.Option.{option_or}
use Rattle.std.specs.Str.{bytes_eq}
use Rattle.std.proofs.lemmas.Bool.{cond-true, leb-true, ltb-false}
use Rattle.afdx_frame.specs.Carried.{carried_by}
use Rattle.afdx_frame.specs.Layout.{link_named_by}
use Rattle.afdx_frame.specs.Lengths.{least_frame, greatest_frame}
use Rattle.afdx_frame.specs.Parts.{FrameParts, frame_of, frame_with}
use Rattle.afdx_frame.specs.Regulation.{Regulation, bag, jitter, wire_of}
use Rattle.afdx_frame.specs.Sealing.{is_sealed}
use Rattle.afdx_frame.specs.Sides.{is_side}
use Rattle.afdx_frame.specs.declared.fault.MacFault.{MacFault}
use Rattle.afdx_frame.specs.declared.fault.MacFault.TheVariants.{TooShort, TooLong, BadFcs}
use Rattle.afdx_frame.specs.declared.link.Policing.{Policing}
use Rattle.afdx_frame.specs.declared.link.Policing.TheVariants.{Byte, Frame}
use Rattle.afdx_frame.specs.declared.link.Side.{Side}
use Rattle.afdx_frame.proofs.SideLemmas.{is_side-same}
use Rattle.afdx_police.specs.Arrival.{Arrival, names}
use Rattle.afdx_police.specs.Charge.{charge_by}
use Rattle.afdx_police.specs.Rule.{regulation_of}
use Rattle.afdx_police.specs.Shape.{IsSound, fault_of, first_of}
use Rattle.afdx_police.specs.declared.shape.Reason.{Reason}
use Rattle.afdx_police.specs.declared.shape.Reason.TheVariants.{OverRate}
use Rattle.afdx_police.specs.Spaced.{IsGapsBehind, IsSpaced}
use Rattle.afdx_police.specs.Spacing.{AllKeepGaps, AreUpTo, HaveRoom, KeepsGaps}
use Rattle.afdx_police.specs.Verdicts.{accepted_arrivals, accepted_own, charged_by, drop_reason, reason_after}
use Rattle.afdx_police.specs.Window.{Charged, accepted_of, fits}
use Rattle.afdx_police.proofs.ShapeLemmas.{faultless-is-sound}
use Rattle.afdx_police.proofs.SpacedLemmas.{spaced_accepted}
use Rattle.afdx_police.proofs.SpacingLemmas.{room_is_gaps}
use Rattle.afdx_lawful.specs.Accepted.{AreNamed, ComeUpTo, LawfulIsAccepted, arrival_of}
use Rattle.afdx_lawful.specs.Alone.{has_room, times_with_room}
use Rattle.afdx_lawful.specs.Flaws.{address_in, address_of, flaw_carrying, flaw_in, flaw_of, whole_of}
use Rattle.afdx_lawful.specs.Sources.{Came, Source, cost, fast, on_side, room}
use Rattle.afdx_lawful.specs.declared.finding.Flaw.{Flaw}
use Rattle.afdx_lawful.specs.declared.finding.Flaw.TheVariants.{NotItsAddress}
use Rattle.afdx_lawful.proofs.CleanLemmas.{AreClean, IsClean, all_clean, whole_same}

-- ---- the frames of a side

times : List Came → List ℕ
times ys = map (λ x. x.time) ys

record IsRoomy (s : Source) (ys : List Came) : Type 0 where
  same : times_with_room s ys ≡ times ys
  roomy : HaveRoom (cost s) (fast s) (room s) (times ys)

none_roomy : (s : Source) → IsRoomy s []
unfolding times times_with_room
none_roomy s = record { same = refl; roomy = tt }

one_roomier : (s : Source) (ys : List Came) (x : Came) → has_room s (times_with_room s ys) x.time ≡ true →
    IsRoomy s ys → IsRoomy s (x ∷ ys)
unfolding times times_with_room
one_roomier s ys x fits past = record {
  same = cond-true (has_room s (times_with_room s ys) x.time) (x.time ∷ times_with_room s ys) (times_with_room s ys)
      fits
      ∙ ap (λ l. x.time ∷ l) past.same;
  roomy = (
    leb-true _ _ (subst (λ (l : List ℕ). has_room s l x.time ≡ true) past.same fits),
    past.roomy,
  );
}

up_later : (a b : ℕ) (l : List ℕ) → a ≤ b → AreUpTo a l → AreUpTo b l
up_later a b [] low h = tt
up_later a b (x ∷ l) low h = (omega (arith, low, h.0), h.1)

-- one more frame, on this side or on the other
module _ (s : Source) (x : Came) (ys : List Came) where
  side_roomy : (b : Bool) → (b ≡ true → has_room s (times_with_room s ys) x.time ≡ true) → IsRoomy s ys →
      IsRoomy s (if b then x ∷ ys else ys)
  side_roomy true h past = one_roomier s ys x (h refl) past
  side_roomy false h past = past

  side_up : (b : Bool) (time : ℕ) → x.time ≤ time → AreUpTo x.time (times ys) →
      AreUpTo time (times (if b then x ∷ ys else ys))
  unfolding times
  side_up true time low up = (low, up)
  side_up false time low up = up_later x.time time (times ys) low up

roomy_on : (s : Source) (side : Side) (xs : List Came) → AreClean s xs → IsRoomy s (on_side side xs)
unfolding AreClean
roomy_on s side [] h = none_roomy s
roomy_on s side (x ∷ past) h =
    side_roomy s x (on_side side past) (is_side side x.side) has (roomy_on s side past h.1)
  where
    has : is_side side x.side ≡ true → has_room s (times_with_room s (on_side side past)) x.time ≡ true
    has e =
        let same : on_side x.side (whole_of past) ≡ on_side side past =
        ap₂ (λ (t : Side) (l : List Came). on_side t l) (sym (is_side-same side x.side e)) (whole_same s past h.1) in
        subst (λ (l : List Came). has_room s (times_with_room s l) x.time ≡ true) same h.0.roomy

up_on : (s : Source) (side : Side) (time : ℕ) (xs : List Came) → ComeUpTo time xs →
    AreUpTo time (times (on_side side xs))
unfolding times
up_on s side time [] h = tt
up_on s side time (x ∷ past) h =
    side_up s x (on_side side past) (is_side side x.side) time h.0 (up_on s side x.time past h.1)

pub come_on : (s : Source) (side : Side) (time : ℕ) (xs : List Came) → ComeUpTo time xs →
    ComeUpTo time (on_side side xs)
unfolding times
come_on s side time xs up = up_on s side time xs up

-- ---- gaps

-- over numbers: exact stamps and clocks
exactly : (b j n t f d k : ℕ) → d ≡ 0 → k ≡ 0 → f ≤ t →
    1000000 * b * (n + 1) ≤ 1000000 * j + (1000000 + d) * (k + k) + (1000000 + d) * (t - f) →
    b * (n + 1) + f ≤ t + j
exactly b j n t f d k hd hk low h =
    let slip : (1000000 + d) * (k + k) ≡ 0 = ap₂ (λ (d k : ℕ). (1000000 + d) * (k + k)) hd hk in
    let fall : (1000000 + d) * (t - f) ≡ 1000000 * (t - f) = ap (λ (d : ℕ). (1000000 + d) * (t - f)) hd in
    omega (arith, slip, fall, low, h)

charged_of : Source → Came → Charged
charged_of s x = charged_by s.rule (arrival_of s x)

module _ (s : Source) (slack : s.by.slack ≡ 0) (drift : s.by.drift ≡ 0) where
  gaps_behind : (n : ℕ) (x : Came) (ys : List Came) → AreUpTo x.time (times ys) →
      KeepsGaps (cost s) (fast s) (room s) n x.time (times ys) →
      IsGapsBehind (regulation_of s.rule) n (charged_of s x) (map (charged_of s) ys)
  unfolding times charged_of
  gaps_behind n x [] up h = tt
  gaps_behind n x (y ∷ ys) up h = (
    exactly (bag (regulation_of s.rule)) (jitter (regulation_of s.rule)) n x.time y.time s.by.drift s.by.slack
        drift slack up.0 h.0,
    gaps_behind (n + 1) x ys (up_later y.time x.time (times ys) up.0 up.1) h.1,
  )

  AreSmall : List Came → Type 0
  AreSmall [] = Unit {0}
  AreSmall (x ∷ ys) = ((charged_of s x).charge ≤ wire_of s.rule.lmax) × AreSmall ys

  all_spaced : (ys : List Came) (time : ℕ) → AreUpTo time (times ys) →
      AllKeepGaps (cost s) (fast s) (room s) (times ys) → AreSmall ys →
      IsSpaced (regulation_of s.rule) (map (charged_of s) ys)
  unfolding times AreSmall
  all_spaced [] time up h small = tt
  all_spaced (x ∷ ys) time up h small =
      (small.0, gaps_behind 0 x ys up.1 h.0, all_spaced ys x.time up.1 h.1 small.1)

-- ---- shape

pub record IsRightLong (bytes : List ℕ) : Type 0 where
  pub shortest : nat_lt (length bytes) least_frame ≡ false
  pub longest : nat_lt greatest_frame (length bytes) ≡ false
  pub sealed : is_sealed bytes ≡ true

pub right_long : (bytes : List ℕ) (p : FrameParts) → frame_of bytes ≡ Ok p → IsRightLong bytes
unfolding frame_of
right_long bytes p h = by (nat_lt (length bytes) least_frame) (nat_lt greatest_frame (length bytes))
    (is_sealed bytes) refl refl refl h
  where
    by : (a b c : Bool) → nat_lt (length bytes) least_frame ≡ a → nat_lt greatest_frame (length bytes) ≡ b →
        is_sealed bytes ≡ c →
        (if a then Err TooShort else (if b then Err TooLong else (if not c then Err BadFcs
        else frame_with bytes (link_named_by bytes)))) ≡ Ok p →
        IsRightLong bytes
    by true b c x y z h = absurd (cc h)
    by false true c x y z h = absurd (cc h)
    by false false false x y z h = absurd (cc h)
    by false false true x y z h = record { shortest = x; longest = y; sealed = z }

record IsRightShaped (s : Source) (x : Came) : Type 0 where
  right : IsRightLong x.bytes
  within : nat_lt s.rule.lmax (length x.bytes) ≡ false
  least : nat_lt (length x.bytes) s.rule.lmin ≡ false

module _ (s : Source) (x : Came) where
  none_first : (a b : Bool) (f g : Flaw) (more : List (Bool × Flaw)) (o : Option Flaw) →
      option_or (first_of ((a, f) ∷ (b, g) ∷ more)) o ≡ None → (a ≡ false) × (b ≡ false)
  none_first true b f g more o h = absurd (cc h)
  none_first false true f g more o h = absurd (cc h)
  none_first false false f g more o h = (refl, refl)

  right_shaped : (r : Result FrameParts MacFault) → frame_of x.bytes ≡ r → flaw_in s x r ≡ None → IsRightShaped s x
  right_shaped (Ok p) is h =
      let both = none_first (nat_lt s.rule.lmax (length x.bytes)) (nat_lt (length x.bytes) s.rule.lmin) _ _
      ((not (bytes_eq (address_in x.bytes) (address_of s.system x.side)), NotItsAddress) ∷ [])
      (flaw_carrying (carried_by x.bytes)) h in
      record { right = right_long x.bytes p is; within = both.0; least = both.1 }
  right_shaped (Err fault) is h = absurd (cc h)

  clean_sound : (past : List Came) → IsClean s past x → names s.rule.vl x.bytes ≡ true →
      IsSound s.rule s.rule.port x.bytes
  unfolding flaw_of
  clean_sound past h named =
      let r = right_shaped (frame_of x.bytes) refl h.flawless in
      record {
        shortest = ltb-false _ _ r.right.shortest;
        longest = ltb-false _ _ r.right.longest;
        sealed = r.right.sealed;
        named = named;
        at_port = refl;
        within = ltb-false _ _ r.within;
        least = λ byte. ltb-false _ _ r.least;
      }

charge_small : (p : Policing) (smax wire : ℕ) → wire ≤ smax → charge_by p smax wire ≤ smax
charge_small Byte smax wire h = h
charge_small Frame smax wire h = omega arith

AreSoundOf : Source → List Came → Type 0
AreSoundOf s [] = Unit {0}
AreSoundOf s (x ∷ ys) = IsSound s.rule s.rule.port x.bytes × AreSoundOf s ys

side_sound : (s : Source) (x : Came) (ys : List Came) (b : Bool) → IsSound s.rule s.rule.port x.bytes →
    AreSoundOf s ys → AreSoundOf s (if b then x ∷ ys else ys)
unfolding AreSoundOf
side_sound s x ys true h more = (h, more)
side_sound s x ys false h more = more

sound_on : (s : Source) (side : Side) (xs : List Came) → AreClean s xs → AreNamed s xs → AreSoundOf s (on_side side xs)
unfolding AreSoundOf AreClean
sound_on s side [] h named = tt
sound_on s side (x ∷ past) h named =
    side_sound s x (on_side side past) (is_side side x.side) (clean_sound s x past h.0 named.0)
    (sound_on s side past h.1 named.1)

all_small : (s : Source) (slack : s.by.slack ≡ 0) (drift : s.by.drift ≡ 0) (ys : List Came) → AreSoundOf s ys →
    AreSmall s slack drift ys
unfolding AreSoundOf AreSmall charged_of
all_small s slack drift [] h = tt
all_small s slack drift (x ∷ ys) h = (
  charge_small s.rule.policing (wire_of s.rule.lmax) (wire_of (length x.bytes)) (omega (arith, h.0.within)),
  all_small s slack drift ys h.1,
)

-- ---- what is accepted

longer : {X : Type 0} (x : X) (xs : List X) → xs ≡ x ∷ xs → ⊥
longer x xs h = let same : length xs ≡ length (x ∷ xs) = ap length h in absurd (omega (arith, same))

fits_by : (b : Bool) (c : Charged) (cs : List Charged) → (if b then c ∷ cs else cs) ≡ c ∷ cs → b ≡ true
fits_by true c cs h = refl
fits_by false c cs h = absurd (longer c cs h)

next_fits : (link : Regulation) (c : Charged) (cs : List Charged) → IsSpaced link (c ∷ cs) → fits link cs c ≡ true
unfolding accepted_of
next_fits link c cs h =
    let before : accepted_of link cs ≡ cs = spaced_accepted link cs h.2 in
    let all : accepted_of link (c ∷ cs) ≡ c ∷ cs = spaced_accepted link (c ∷ cs) h in
    fits_by (fits link cs c) c cs
    (subst (λ (l : List Charged). (if fits link l c then c ∷ l else l) ≡ c ∷ cs) before all)

record AreAccepted (s : Source) (ys : List Came) : Type 0 where
  own : accepted_own s.rule (map (arrival_of s) ys) ≡ map (charged_of s) ys
  all : accepted_arrivals s.rule (map (arrival_of s) ys) ≡ map (arrival_of s) ys

-- over the answers: nothing is wrong in its shape, and it fits
no_reason : (o : Option Reason) (b : Bool) → o ≡ None → b ≡ true →
    is_none (option_or o (if b then None else Some OverRate)) ≡ true
no_reason None true h e = refl
no_reason None false h e = absurd (cc e)
no_reason (Some reason) b h e = absurd (cc h)

each_accepted : (s : Source) (ys : List Came) → AreSoundOf s ys →
    IsSpaced (regulation_of s.rule) (map (charged_of s) ys) → AreAccepted s ys
unfolding AreSoundOf accepted_own accepted_arrivals reason_after charged_of
each_accepted s [] sound spaced = record { own = refl; all = refl }
each_accepted s (x ∷ ys) sound spaced =
    let past = each_accepted s ys sound.1 spaced.2 in
    let own : accepted_own s.rule (map (arrival_of s) ys) ≡ map (charged_of s) ys = past.own in
    let none : fault_of (Some s.rule) s.rule.port x.bytes ≡ None =
    (faultless-is-sound s.rule s.rule.port x.bytes).1 sound.0 in
    let fit : fits (regulation_of s.rule) (map (charged_of s) ys) (charged_of s x) ≡ true =
    next_fits (regulation_of s.rule) (charged_of s x) (map (charged_of s) ys) spaced in
    let may : is_none (drop_reason s.rule (map (charged_of s) ys) (arrival_of s x)) ≡ true =
    no_reason (fault_of (Some s.rule) s.rule.port x.bytes)
    (fits (regulation_of s.rule) (map (charged_of s) ys) (charged_of s x)) none fit in
    let free : is_none (drop_reason s.rule (accepted_own s.rule (map (arrival_of s) ys)) (arrival_of s x)) ≡ true =
    subst (λ (l : List Charged). is_none (drop_reason s.rule l (arrival_of s x)) ≡ true) (sym own) may in
    record {
      own = cond-true _ (charged_of s x ∷ accepted_own s.rule (map (arrival_of s) ys)) _ free
          ∙ ap (λ (l : List Charged). charged_of s x ∷ l) own;
      all = cond-true _ (arrival_of s x ∷ accepted_arrivals s.rule (map (arrival_of s) ys)) _ free
          ∙ ap (λ (l : List Arrival). arrival_of s x ∷ l) past.all;
    }

pub lawful_accepted : LawfulIsAccepted
unfolding times
lawful_accepted s xs side slack drift up named none =
    let clean : AreClean s xs = all_clean s xs none in
    let ys : List Came = on_side side xs in
    let sound : AreSoundOf s ys = sound_on s side xs clean named in
    let on : AreUpTo s.until (times ys) = up_on s side s.until xs up in
    let gaps : AllKeepGaps (cost s) (fast s) (room s) (times ys) =
    (room_is_gaps (cost s) (fast s) (room s) s.until (times ys) on).0 (roomy_on s side xs clean).roomy in
    (each_accepted s ys sound
    (all_spaced s slack drift ys s.until on gaps (all_small s slack drift ys sound))).all
