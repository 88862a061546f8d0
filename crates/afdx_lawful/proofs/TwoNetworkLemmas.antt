-- A stream that is built and given to both networks at one time is lawful on both.
use Rattle.std.proofs.Common.{◌≡◌, ℕ, zero, suc, ◌+◌, ◌*◌, ◌<◌, ◌≤◌, List, ◌++◌, Option, Some, None, refl, sym, ap, ◌∙◌}
use Rattle.std.proofs.Common.{arith, drop, length, map, subst, take}
use Rattle.std.specs.Prelude.{◌^◌, slice_get, option_map}
use Rattle.std.proofs.lemmas.Option.{slice_get-map, slice_get_within}
use Rattle.std.proofs.lemmas.List.{length-map}
use Rattle.afdx_frame.specs.Grammar.{Built, Read, built_body, built_frame, source_of}
use Rattle.afdx_frame.specs.Layout.{unsealed}
use Rattle.afdx_frame.specs.Regulation.{bag, jitter}
use Rattle.afdx_frame.specs.Sealing.{AreBytes}
use Rattle.afdx_frame.specs.declared.builder.Address.{Address}
use Rattle.afdx_frame.specs.declared.link.Side.{Side}
use Rattle.afdx_frame.specs.declared.link.Side.TheVariants.{A, B}
use Rattle.afdx_frame.proofs.BuiltLemmas.{built_is_computed}
use Rattle.afdx_frame.proofs.FrameLemmas.{built_is_read}
use Rattle.afdx_frame.proofs.ListLemmas.{slice_get-within}
use Rattle.afdx_config.specs.Flows.{regulation_of_link}
use Rattle.afdx_config.specs.LawfulStream.{IsLawfulStream, IsSent, Sending}
use Rattle.afdx_config.specs.Numbers.{after_steps}
use Rattle.afdx_config.specs.Rows.{LinkRow, SystemRow}
use Rattle.afdx_config.specs.SentList as sent
use Rattle.afdx_config.proofs.NumberLemmas.{steps_low}
use Rattle.afdx_lawful.specs.Flaws as flaws
use Rattle.afdx_lawful.specs.TwoNetworks.{AreCopies, BuiltIsLawfulTwice, IsReadAs, SentTwice, at_once}
use Rattle.afdx_lawful.specs.TwoNetworks.{frame_on, time_on}
use Rattle.afdx_lawful.proofs.CopyLemmas.{common_sealed}

same_some : {X : Type 0} {x y : X} → Some x ≡ Some y → x ≡ y
same_some h = cc

-- ---- both frames of a message

address_built : (a : Address) (number : ℕ) (side : Side) (p : List ℕ) →
    flaws.address_in (built_frame a number side p) ≡ flaws.address_of a.system_id side
address_built a number side p = refl

module _ (s : SystemRow) (l : LinkRow) (messages : List sent.Message) (stream : List Sending)
    (lawful : IsLawfulStream s l messages stream) (k : ℕ) (x : sent.Sent) (y : Sending)
    (sent-is : sent.sent_at messages k ≡ Some x) (at : slice_get stream k ≡ Some y) where
  abbrev address : Address
  address = sent.address_of s l x.message

  is_sent : IsSent s l x y
  is_sent = lawful.sent k x y sent-is at

  numbered : (o : Option sent.Message) →
      option_map (λ (m : sent.Message). record { message = m; number = after_steps k 0 }) o ≡ Some x →
      (o ≡ Some x.message) × (x.number ≡ after_steps k 0)
  numbered None h = absurd (cc h)
  numbered (Some m) h =
      let e : record { message = m; number = after_steps k 0 } ≡ x = same_some h in
      (ap (λ (z : sent.Sent). Some z.message) e, sym (ap (λ (z : sent.Sent). z.number) e))

  there : (slice_get messages k ≡ Some x.message) × (x.number ≡ after_steps k 0)
  there = numbered (slice_get messages k) sent-is

  can : sent.CanBeSent s l x.message
  can = lawful.sendable k x.message there.0

  low : x.number < 2 ^ 8
  low = omega (arith, steps_low k 0 (omega arith), there.1)

  built-on : (side : Side) → Built address x.number side x.message.payload (frame_on side (at_once y))
  built-on A = is_sent.a
  built-on B = is_sent.b

  is_built : (side : Side) → frame_on side (at_once y) ≡ built_frame address x.number side x.message.payload
  is_built side =
      (built_is_computed address x.number side x.message.payload can.buildable can.bytes low).only_one
      (frame_on side (at_once y)) (built-on side)

  length-on : (side : Side) → IsSent s l x y → (l.lmin ≤ length (frame_on side (at_once y)))
      × (length (frame_on side (at_once y)) ≤ l.lmax)
  length-on A is = is.a_length
  length-on B is = is.b_length

  read-on : (side : Side) → IsReadAs s l side x (frame_on side (at_once y))
  read-on side =
      let the = built_is_computed address x.number side x.message.payload can.buildable can.bytes low in
      record {
        from_port = x.message.udp;
        bytes = subst AreBytes (sym (is_built side)) the.bytes;
        reads = subst
            (λ (b : List ℕ). Read b l.vl x.message.udp x.message.udp x.message.payload x.number)
            (sym (is_built side))
            (built_is_read address x.number side x.message.payload _ can.buildable the.built);
        address = ap flaws.address_in (is_built side) ∙ address_built address x.number side x.message.payload;
        fits = length-on side is_sent;
      }

  abbrev message_on : Side → List ℕ
  message_on side =
      unsealed l.vl (source_of address side) 0x0800 (built_body address x.message.payload) x.number

  common-on : (side : Side) → 12 ≤ length (message_on side) →
      flaws.common (frame_on side (at_once y)) ≡ take 11 (message_on side) ++ drop 12 (message_on side)
  common-on side long = ap flaws.common (is_built side) ∙ common_sealed (message_on side) long

  pub copies-at : AreCopies 0 (at_once y)
  copies-at = record {
    same = common-on A (omega arith) ∙ sym (common-on B (omega arith));
    a_soon = omega arith;
    b_soon = omega arith;
  }

-- ---- the gaps, by the moments of release

module _ (s : SystemRow) (l : LinkRow) (messages : List sent.Message) (stream : List Sending)
    (lawful : IsLawfulStream s l messages stream) where
  abbrev gap : ℕ
  gap = bag (regulation_of_link l)

  abbrev shift : ℕ
  shift = jitter (regulation_of_link l)

  released : (k : ℕ) (y : Sending) → slice_get stream k ≡ Some y → (r : ℕ) × (slice_get lawful.moments k ≡ Some r)
  released k y at =
      slice_get-within lawful.moments k (omega (arith, lawful.moment_count, slice_get_within stream k y at))

  behind : (j d r z : ℕ) → slice_get lawful.moments j ≡ Some r → slice_get lawful.moments (j + d) ≡ Some z →
      r + gap * d ≤ z
  behind j zero r z at later =
      let here : j + 0 ≡ j = omega arith in
      let same : r ≡ z = same_some (sym at ∙ ap (slice_get lawful.moments) (sym here) ∙ later) in
      omega (arith, same)
  behind j (suc d) r z at later =
      let next : j + suc d ≡ (j + d) + 1 = omega arith in
      let within : j + suc d < length lawful.moments = slice_get_within lawful.moments (j + suc d) z later in
      let w = slice_get-within lawful.moments (j + d) (omega (arith, within)) in
      let before : r + gap * d ≤ w.0 = behind j d r w.0 at w.1 in
      let last : w.0 + gap ≤ z =
      lawful.apart (j + d) w.0 z w.1 (ap (slice_get lawful.moments) (sym next) ∙ later) in
      omega (arith, before, last)

  spaced : (j d : ℕ) (y z : Sending) → slice_get stream j ≡ Some y → slice_get stream (j + d) ≡ Some z →
      y.time + gap * d ≤ z.time + shift
  spaced j d y z at later =
      let first = released j y at in
      let second = released (j + d) z later in
      let apart : first.0 + gap * d ≤ second.0 = behind j d first.0 second.0 first.1 second.1 in
      let soon = lawful.shaped j first.0 y first.1 at in
      let late = lawful.shaped (j + d) second.0 z second.1 later in
      omega (arith, apart, soon.1, late.0)

-- ---- both

-- what stands at a place of a list that was made of another
module _ {X Y : Type 0} (f : X → Y) (xs : List X) where
  made : (k : ℕ) (y : Y) → slice_get (map f xs) k ≡ Some y → (x : X) × (slice_get xs k ≡ Some x) × (y ≡ f x)
  made k y at = of (slice_get xs k) refl (sym (slice_get-map f xs k) ∙ at)
    where
      of : (o : Option X) → slice_get xs k ≡ o → option_map f o ≡ Some y →
          (x : X) × (slice_get xs k ≡ Some x) × (y ≡ f x)
      of None e h = absurd (cc h)
      of (Some x) e h = (x, e, sym (same_some h))

pub built_lawful_twice : BuiltIsLawfulTwice
built_lawful_twice s l messages stream lawful = record {
  count = lawful.message_count ∙ sym (length-map stream at_once);
  spaced = λ side j d y z at later.
      let x = made at_once stream j y at in
      let w = made at_once stream (j + d) z later in
      on-side side y z x.0 w.0 j d x.2 w.2 (spaced s l messages stream lawful j d x.0 w.0 x.1 w.1);
  read = λ side k x y sent-is at.
      let o = made at_once stream k y at in
      subst (λ (z : SentTwice). IsReadAs s l side x (frame_on side z)) (sym o.2)
      (read-on s l messages stream lawful k x o.0 sent-is o.1 side);
  copies = λ k y at.
      let o = made at_once stream k y at in
      let x = sent-there k o.0 o.1 in
      subst (AreCopies 0) (sym o.2) (copies-at s l messages stream lawful k x.0 o.0 x.1 o.1);
}
  where
    sent-there : (k : ℕ) (y : Sending) → slice_get stream k ≡ Some y →
        (x : sent.Sent) × (sent.sent_at messages k ≡ Some x)
    sent-there k y at =
        let m = slice_get-within messages k
        (omega (arith, lawful.message_count, slice_get_within stream k y at)) in (
          record { message = m.0; number = after_steps k 0 },
          ap (option_map (λ (o : sent.Message). record { message = o; number = after_steps k 0 })) m.1,
        )

    on-side : (side : Side) (y z : SentTwice) (x w : Sending) (j d : ℕ) → y ≡ at_once x → z ≡ at_once w →
        x.time + bag (regulation_of_link l) * d ≤ w.time + jitter (regulation_of_link l) →
        time_on side y + bag (regulation_of_link l) * d ≤ time_on side z + jitter (regulation_of_link l)
    on-side A y z x w j d e f h =
        omega (arith, h, ap (λ (o : SentTwice). o.on_a) e, ap (λ (o : SentTwice). o.on_a) f)
    on-side B y z x w j d e f h =
        omega (arith, h, ap (λ (o : SentTwice). o.on_b) e, ap (λ (o : SentTwice). o.on_b) f)
