-- A link's lawful stream at its sender's port is accepted, whatever else comes.
use Rattle.std.proofs.Common.{◌≡◌, ℕ, suc, ◌+◌, ◌<◌, ◌≤◌, ◌-◌, ◌==◌, ◌^◌, Bool, true, false, List}
use Rattle.std.proofs.Common.{[], ◌∷◌, length, map, refl, sym, ap, ◌∙◌, subst, arith}
use Rattle.std.specs.Prelude.{Result, IfOk, Some, option_map, slice_get, if◌then◌else◌}
use Rattle.std.specs.List.{AllByRecursion}
use Rattle.std.proofs.Math.ListN.{get_or}
use Rattle.std.proofs.lemmas.Bool.{eqb-true}
use Rattle.std.proofs.lemmas.Option.{slice_get_within, slice_get-get_or, get_or_from_slice_get}
use Rattle.afdx_frame.specs.declared.link.Side.{Side}
use Rattle.afdx_frame.specs.declared.link.Side.TheVariants.{A, B}
use Rattle.afdx_frame.specs.Grammar.{Built, built_frame}
use Rattle.afdx_frame.specs.Parts.{frame_of}
use Rattle.afdx_frame.specs.Reading.{IsTheFrame, BuiltIsComputed}
use Rattle.afdx_frame.specs.Regulation.{Regulation, bag}
use Rattle.afdx_config.specs.Lawful.{IsWithin, IsLawfulSwitch}
use Rattle.afdx_config.specs.LawfulStream.{Sending, IsSent, IsLawfulStream, copy_on}
use Rattle.afdx_config.specs.Numbers.{after_steps}
use Rattle.afdx_config.specs.Rows.{SystemRow, LinkRow, Rows}
use Rattle.afdx_config.specs.SentList.{Message, Sent, address_of}
use Rattle.afdx_config.specs.Flows.{regulation_of_link}
use Rattle.afdx_police.specs.Arrival.{Arrival, own}
use Rattle.afdx_police.specs.Rule.{Rule, regulation_of}
use Rattle.afdx_police.specs.Shape.{IsSound}
use Rattle.afdx_police.specs.Stream.{IsRegular}
use Rattle.afdx_police.specs.Verdicts.{charged_by}
use Rattle.afdx_police.proofs.FrameLemmas.{IsFrameOn, frame_sound}
use Rattle.afdx_police.proofs.ShapeLemmas.{sound-charged}
use Rattle.afdx_config.proofs.NumberLemmas.{steps_low}
use Rattle.afdx_switch.specs.Regular.{at_port, AreSound, IsAccepted}
use Rattle.afdx_switch.proofs.RegularLemmas.{AreAccepted, accepted-at, regular-reason, verdict-accepted}
use Rattle.afdx_switch.specs.Tables.{rule_of}
use Rattle.afdx_switch.specs.Streams.{AreFirstOf, StreamIsRegular, StreamIsAccepted, IsNextOfStream}
use Rattle.afdx_switch.specs.Verdicts.{IsVerdict}
use Rattle.afdx_switch.specs.declared.verdict.Verdict.{Verdict}

-- ---- frames of a stream

-- what the bytes of a sending are: a frame of the link, of a length that it may have
pub record IsSendable (l : LinkRow) (bytes : List ℕ) : Type 0 where
  pub frame : IsFrameOn l.vl bytes
  pub long : IsWithin l.lmin l.lmax (length bytes)

built-on : (s : SystemRow) (l : LinkRow) (x : Sent) (y : Sending) (side : Side) → IsSent s l x y
    → Built (address_of s l x.message) x.number side x.message.payload (copy_on side y)
    × IsWithin l.lmin l.lmax (length (copy_on side y))
built-on s l x y A sent = (sent.a, sent.a_length)
built-on s l x y B sent = (sent.b, sent.b_length)

pub sending-is : BuiltIsComputed
    → (s : SystemRow) (l : LinkRow) (messages : List Message) (stream : List Sending)
    → IsLawfulStream s l messages stream →
    (side : Side) (k : ℕ) (y : Sending) → slice_get stream k ≡ Some y → IsSendable l (copy_on side y)
sending-is computed s l messages stream lawful side k y at =
    let within : k < length stream = slice_get_within stream k y at in
    let none : Message = record { udp = 0; payload = [] } in
    let m : Message = get_or messages k none in
    let at_m : slice_get messages k ≡ Some m =
    slice_get-get_or messages k none (omega (arith, within, lawful.message_count)) in
    let number : ℕ = after_steps k 0 in
    let low : number < 2 ^ 8 = omega (arith, steps_low k 0 (omega arith)) in
    let sent : IsSent s l (record { message = m; number = number }) y =
    lawful.sent k (record { message = m; number = number }) y
    (ap (option_map (λ (o : Message). record { message = o; number = number })) at_m) at in
    let the : IsTheFrame (address_of s l m) number side m.payload
    (built_frame (address_of s l m) number side m.payload) =
    computed (address_of s l m) number side m.payload (lawful.sendable k m at_m).buildable
    (lawful.sendable k m at_m).bytes low in
    let built = built-on s l (record { message = m; number = number }) y side sent in
    let bytes : copy_on side y ≡ built_frame (address_of s l m) number side m.payload =
    the.only_one (copy_on side y) built.0 in
    record { frame = record { parts = _; is_frame = ap frame_of bytes ∙ the.parts; named = refl }; long = built.1 }

-- ---- the frames of a lawful stream are sound and keep the gap

at-ports : (rule : Rule) (xs : List Arrival) → AllByRecursion (λ x. rule.port ≡ x.port) (at_port rule xs)
at-ports rule [] = tt
at-ports rule (x ∷ past) = by (rule.port == x.port) refl (at-ports rule past)
  where
    by : (b : Bool) → (rule.port == x.port) ≡ b
        → AllByRecursion (λ y. rule.port ≡ y.port) (at_port rule past)
        → AllByRecursion (λ y. rule.port ≡ y.port)
        (if b then x ∷ at_port rule past else at_port rule past)
    by true own_port rest = (eqb-true rule.port x.port own_port, rest)
    by false other rest = rest

pub sendable-sound : (t : Rows) (l : LinkRow) (port : ℕ) (bytes : List ℕ) → IsSendable l bytes
    → (rule_of t l).port ≡ port → IsSound (rule_of t l) port bytes
unfolding rule_of
sendable-sound t l port bytes is here = frame_sound (rule_of t l) port bytes is.frame here is.long.0 is.long.1

regulated-as : (t : Rows) (l : LinkRow) → regulation_of (rule_of t l) ≡ regulation_of_link l
unfolding rule_of
regulated-as t l = refl

module _ (t : Rows) (s : SystemRow) (l : LinkRow) (messages : List Message) (stream : List Sending)
    (lawful : IsLawfulStream s l messages stream) (computed : BuiltIsComputed)
    (side : Side) where
  sendings-sound : (xs : List Arrival) → AreFirstOf side stream xs
      → AllByRecursion (λ x. (rule_of t l).port ≡ x.port) xs → AreSound (rule_of t l) xs
  sendings-sound [] are here = tt
  sendings-sound (x ∷ past) are here =
      let is = sending-is computed s l messages stream lawful side (length past)
      are.0.sending are.0.at_place in (
        sendable-sound t l x.port x.bytes (subst (IsSendable l) (sym are.0.bytes) is) here.0,
        sendings-sound past are.1 here.1,
      )

  -- the moments of those before are a gap before the next one
  abbrev GapBefore : List Arrival → ℕ → Type 0
  GapBefore xs next = (k r : ℕ) → suc k ≡ length xs → slice_get lawful.moments k ≡ Some r
      → r + bag (regulation_of_link l) ≤ next

  sendings-regular : (xs : List Arrival) (next : ℕ) → AreFirstOf side stream xs
      → AreSound (rule_of t l) xs → GapBefore xs next
      → IsRegular (regulation_of_link l) (map (charged_by (rule_of t l)) xs) next
  sendings-regular [] next are sound gap = tt
  sendings-regular (x ∷ past) next are sound gap =
      let within : length past < length stream = slice_get_within stream (length past) are.0.sending are.0.at_place in
      let r : ℕ = get_or lawful.moments (length past) 0 in
      let at_r : slice_get lawful.moments (length past) ≡ Some r =
      slice_get-get_or lawful.moments (length past) 0 (omega (arith, within, lawful.moment_count)) in
      let shaped = lawful.shaped (length past) r are.0.sending at_r are.0.at_place in
      let small = (sound-charged (rule_of t l) x sound.0).at_most in
      let smax : (regulation_of (rule_of t l)).smax ≡ (regulation_of_link l).smax =
      ap (λ (g : Regulation). g.smax) (regulated-as t l) in (
        r,
        gap (length past) r refl at_r,
        omega (arith, shaped.0, are.0.time),
        omega (arith, shaped.1, are.0.time),
        omega (arith, small, smax),
        sendings-regular past r are.1 sound.1
            (λ k q count at_q. lawful.apart k q r at_q
            (ap (slice_get lawful.moments) (more k (length past) count) ∙ at_r)),
      )
    where
      more : (k n : ℕ) → suc k ≡ n → k + 1 ≡ n
      more k n e = omega (arith, e)

  -- so are those at the link's port, whatever else comes
  pub stream-at : (xs : List Arrival) → AreFirstOf side stream (at_port (rule_of t l) xs)
      → AreSound (rule_of t l) (at_port (rule_of t l) xs)
  stream-at xs are = sendings-sound (at_port (rule_of t l) xs) are (at-ports (rule_of t l) xs)

  pub stream-regular : (xs : List Arrival) → AreFirstOf side stream xs → AreSound (rule_of t l) xs
      → (next : ℕ) × IsRegular (regulation_of (rule_of t l)) (map (charged_by (rule_of t l)) xs) next
  stream-regular xs are sound = (
    get_or lawful.moments (length xs - 1) 0 + bag (regulation_of_link l),
    subst (λ g. IsRegular g (map (charged_by (rule_of t l)) xs)
        (get_or lawful.moments (length xs - 1) 0 + bag (regulation_of_link l))) (sym (regulated-as t l))
        (sendings-regular xs (get_or lawful.moments (length xs - 1) 0 + bag (regulation_of_link l))
        are sound (λ k r count at_r.
        let same : get_or lawful.moments (length xs - 1) 0 ≡ r =
        get_or_from_slice_get lawful.moments (length xs - 1) r 0
        (ap (slice_get lawful.moments) (before k (length xs) count) ∙ at_r) in
        omega (arith, same))),
  )
    where
      before : (k n : ℕ) → suc k ≡ n → n - 1 ≡ k
      before k n e = omega (arith, e)

  pub accepted-stream : (xs : List Arrival) → AreFirstOf side stream (at_port (rule_of t l) xs)
      → AreAccepted (rule_of t l) xs
  accepted-stream xs are =
      let sound = stream-at xs are in
      let regular = stream-regular (at_port (rule_of t l) xs) are sound in
      accepted-at (rule_of t l) xs regular.0 sound regular.1

-- ---- the law

pub stream-is-regular : BuiltIsComputed → StreamIsRegular
stream-is-regular computed t arrivals side l messages stream is sendings =
    let sound = stream-at t is.sender l messages stream is.lawful computed side
    (own l.vl side arrivals) sendings in
    let regular = stream-regular t is.sender l messages stream is.lawful computed side
    (at_port (rule_of t l) (own l.vl side arrivals)) sendings sound in
    record { sound = sound; next = regular.0; regular = regular.1 }

pub stream-accepted : BuiltIsComputed → StreamIsAccepted
stream-accepted computed t past x place l messages stream lawful at is named port sendings =
    regular-reason t past x place l lawful at named port
    (stream-is-regular computed t (x ∷ past) x.side l messages stream is sendings)

-- so is the next arrival of a stream
pub next-accepted : {E : Type 0} → BuiltIsComputed → (r : Result Verdict E) (t : Rows)
    (past : List Arrival) (x : Arrival) (place : ℕ) (l : LinkRow) → IsLawfulSwitch t → slice_get t.links place ≡ Some l
    → IsNextOfStream t l past x → IfOk r (IsVerdict t past x) → IfOk r IsAccepted
next-accepted computed r t past x place l lawful at is =
    verdict-accepted r t past x
    (stream-accepted computed t past x place l is.messages is.stream lawful at is.is is.named is.here is.first)
