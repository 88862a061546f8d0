-- A lawful stream on two networks is a right sender's, whose clock shows the time and the jitter.
use Rattle.std.proofs.Common.{◌≡◌, ◌⊎◌, inl, inr, ℕ, zero, suc, ◌+◌, ◌*◌, ◌-◌, ◌<◌, ◌≤◌, Bool, true, false, List, [], ◌∷◌}
use Rattle.std.proofs.Common.{refl, sym, ap, ap₂, ◌∙◌, subst, arith, length, map, Option, Some, None}
use Rattle.std.specs.Prelude.{if◌then◌else◌, get_or, max, nat_eq, option_map, slice_get}
use Rattle.std.proofs.Math.Nat.{le-max_left, le-max_right, mul-le-mul_right}
use Rattle.std.proofs.lemmas.Bool.{cases_lt, cond-true, cond-false, eq-eqb, eqb-true, ne_eqb}
use Rattle.std.proofs.lemmas.Option.{slice_get-get_or}
use Rattle.afdx_frame.specs.Grammar.{Read}
use Rattle.afdx_frame.specs.Regulation.{bag, jitter}
use Rattle.afdx_frame.specs.Sealing.{AreBytes}
use Rattle.afdx_frame.specs.declared.link.Side.{Side}
use Rattle.afdx_frame.specs.declared.link.Side.TheVariants.{A, B}
use Rattle.afdx_frame.proofs.ListLemmas.{slice_get-within}
use Rattle.afdx_config.specs.Flows.{regulation_of_link}
use Rattle.afdx_config.specs.Numbers.{after_steps}
use Rattle.afdx_config.specs.Rows.{LinkRow, SystemRow}
use Rattle.afdx_config.specs.SentList as sent
use Rattle.afdx_conform.specs.Levels.{parts}
use Rattle.afdx_conform.specs.Right.{GoesOn}
use Rattle.afdx_police.specs.Rule.{regulation_of}
use Rattle.afdx_lawful.specs.Flaws.{address_in, address_of, common}
use Rattle.afdx_lawful.specs.Recorded.{AreSeenFrom, BuiltIsNeverAccused, IsRecordedOn, IsSeenAs, IsSourceOf}
use Rattle.afdx_lawful.specs.Recorded.{LawfulIsNeverAccused}
use Rattle.afdx_lawful.specs.Right.{Follows, IsLawfulFrame, IsSent, Sent}
use Rattle.afdx_lawful.specs.RightTwice.{AreSentTwice, IsBefore, IsInRange, IsRightTwice, came_from}
use Rattle.afdx_lawful.specs.Sources.{Came, Source, apart_by, came_with, on_side}
use Rattle.afdx_lawful.specs.TwoNetworks.{IsLawfulTwice, SentTwice, at_once, frame_on, time_on}
use Rattle.afdx_lawful.proofs.DistanceLemmas.{same_long}
use Rattle.afdx_lawful.proofs.RightEndLemmas.{right_never_accused}
use Rattle.afdx_lawful.proofs.TwoNetworkLemmas.{built_lawful_twice}

same_some : {X : Type 0} {x y : X} → Some x ≡ Some y → x ≡ y
same_some h = cc

-- ---- what came at a place, recorded or not

unfoldable came_at : ℕ → List Came → ℕ → Option Came
came_at first [] k = None
came_at first (x ∷ past) k = if nat_eq k (first + length past) then Some x else came_at first past k

-- or a frame as it would have been recorded
abbrev or_made : Side → SentTwice → Option Came → Came
or_made side y None = came_with 0 (time_on side y) side (frame_on side y)
or_made side y (Some x) = x

module _ (side : Side) (stream : List SentTwice) (first : ℕ) where
  seen-as : (ys : List Came) → AreSeenFrom side stream first ys → (k : ℕ) (y : SentTwice) →
      slice_get stream k ≡ Some y → IsSeenAs side y (or_made side y (came_at first ys k))
  unfolding came_at
  seen-as [] h k y at = record { on = refl; time = refl; bytes = refl }
  seen-as (x ∷ past) h k y at = by (nat_eq k (first + length past)) refl (seen-as past h.1 k y at)
    where
      by : (b : Bool) → nat_eq k (first + length past) ≡ b → IsSeenAs side y (or_made side y (came_at first past k)) →
          IsSeenAs side y (or_made side y (if b then Some x else came_at first past k))
      by true e more =
          let same : h.0.sent ≡ y =
          same_some (sym h.0.there ∙ ap (slice_get stream) (sym (eqb-true k (first + length past) e)) ∙ at) in
          subst (λ (z : SentTwice). IsSeenAs side z x) same h.0.seen
      by false e more = more

  came-less : (ys : List Came) (k : ℕ) (x : Came) → came_at first ys k ≡ Some x → k < first + length ys
  unfolding came_at
  came-less [] k x h = absurd (cc h)
  came-less (y ∷ past) k x h = by (nat_eq k (first + length past)) refl h (λ e. came-less past k x e)
    where
      by : (b : Bool) → nat_eq k (first + length past) ≡ b →
          (if b then Some y else came_at first past k) ≡ Some x →
          (came_at first past k ≡ Some x → k < first + length past) → k < first + length (y ∷ past)
      by true e h more = let same = eqb-true k (first + length past) e in omega (arith, same)
      by false e h more = let less = more h in omega (arith, less)

  -- all that was recorded are the frames of these places
  are-came : (f : ℕ → Sent) (ys : List Came) →
      ((k : ℕ) (x : Came) → came_at first ys k ≡ Some x → (f k).came ≡ x) → ys ≡ came_from f first (length ys)
  unfolding came_at
  are-came f [] h = refl
  are-came f (x ∷ past) h =
      ap₂ (λ (y : Came) (l : List Came). y ∷ l)
      (sym (h (first + length past) x
      (cond-true (nat_eq (first + length past) (first + length past)) (Some x)
      (came_at first past (first + length past)) (eq-eqb (first + length past) (first + length past) refl))))
      (are-came f past (λ k z e. h k z
      (cond-false (nat_eq k (first + length past)) (Some x) (came_at first past k)
      (ne_eqb k (first + length past) (λ same. let less = came-less past k z e in omega (arith, less, same)))
      ∙ e)))

-- ---- moments of release, if time began a jitter earlier

unfoldable release : ℕ → (ℕ → ℕ) → ℕ → ℕ
release gap time zero = time zero
release gap time (suc k) = max (release gap time k + gap) (time (suc k))

module _ (gap shift count : ℕ) (time : ℕ → ℕ)
    (spaced : (k d : ℕ) → k + d < count → time k + gap * d ≤ time (k + d) + shift) where
  released-late : (k : ℕ) → time k ≤ release gap time k
  unfolding release
  released-late zero = omega arith
  released-late (suc k) = le-max_right (release gap time k + gap) (time (suc k))

  released-by : (k d : ℕ) → k + d < count → release gap time k + gap * d ≤ time (k + d) + shift
  unfolding release
  released-by zero d less = spaced 0 d less
  released-by (suc k) d less =
      let next : k + (d + 1) ≡ suc k + d = omega arith in
      let before : release gap time k + gap * (d + 1) ≤ time (suc k + d) + shift =
      subst (λ (m : ℕ). release gap time k + gap * (d + 1) ≤ time m + shift) next
      (released-by k (d + 1) (omega (arith, less))) in
      let own = spaced (suc k) d less in
      by (cases_lt (release gap time k + gap) (time (suc k))) before own
    where
      by : (release gap time k + gap < time (suc k)) ⊎ (time (suc k) ≤ release gap time k + gap) →
          release gap time k + gap * (d + 1) ≤ time (suc k + d) + shift →
          time (suc k) + gap * d ≤ time (suc k + d) + shift →
          max (release gap time k + gap) (time (suc k)) + gap * d ≤ time (suc k + d) + shift
      by (inl less) before own = omega (arith, less, own)
      by (inr more) before own = omega (arith, more, before)

  released-soon : (k : ℕ) → k < count → release gap time k ≤ time k + shift
  released-soon k less =
      let here : k + 0 ≡ k = omega arith in
      let by = released-by k 0 (omega (arith, less)) in
      subst (λ (m : ℕ). release gap time k ≤ time m + shift) here (omega (arith, by))

  released-apart : (k : ℕ) → release gap time k + gap ≤ release gap time (k + 1)
  unfolding release
  released-apart k =
      let next : suc k ≡ k + 1 = omega arith in
      subst (λ (m : ℕ). release gap time k + gap ≤ release gap time m) next
      (le-max_left (release gap time k + gap) (time (suc k)))

-- ---- the sender

module _ (source : Source) (s : SystemRow) (l : LinkRow) (apart : ℕ → ℕ) (messages : List sent.Message)
    (stream : List SentTwice) (xs : List Came) (range : IsInRange source) (of : IsSourceOf s l source)
    (within : (bytes : ℕ) → apart bytes ≤ apart_by source source.given bytes)
    (lawful : IsLawfulTwice s l apart messages stream)
    (recorded : (side : Side) → IsRecordedOn source stream xs side) where
  abbrev gap : ℕ
  gap = bag (regulation_of source.rule)

  abbrev shift : ℕ
  shift = jitter (regulation_of source.rule)

  none : SentTwice
  none = record { on_a = 0; on_b = 0; a = []; b = [] }

  abbrev at : ℕ → SentTwice
  at k = get_or stream k none

  there : (k : ℕ) → k < length stream → slice_get stream k ≡ Some (at k)
  there k less = slice_get-get_or stream k none less

  abbrev time : Side → ℕ → ℕ
  time side k = time_on side (at k)

  abbrev came : Side → ℕ → Came
  came side k = or_made side (at k) (came_at (recorded side).first (on_side side xs) k)

  abbrev sent_on : Side → ℕ → Sent
  sent_on side k = record {
    came = came side k;
    moment = time side k;
    clock = time side k + shift;
    release = release gap (time side) k;
  }

  seen : (side : Side) (k : ℕ) → k < length stream → IsSeenAs side (at k) (came side k)
  seen side k less =
      seen-as side stream (recorded side).first (on_side side xs) (recorded side).seen k (at k) (there k less)

  spaced : (side : Side) (k d : ℕ) → k + d < length stream → time side k + gap * d ≤ time side (k + d) + shift
  spaced side k d less =
      let h = lawful.spaced side k d (at k) (at (k + d)) (there k (omega (arith, less))) (there (k + d) less) in
      let gaps : gap * d ≡ bag (regulation_of_link l) * d = ap (λ (n : ℕ). 1000000 * n * d) of.bag in
      let shifts : shift ≡ jitter (regulation_of_link l) = ap (λ (n : ℕ). 1000 * n) of.jitter in
      omega (arith, h, gaps, shifts)

  -- ---- each frame

  numbered : (k : ℕ) (m : sent.Message) → slice_get messages k ≡ Some m →
      sent.sent_at messages k ≡ Some (record { message = m; number = after_steps k 0 })
  numbered k m h = ap (option_map (λ (o : sent.Message). record { message = o; number = after_steps k 0 })) h

  message-at : (k : ℕ) → k < length stream → (m : sent.Message) × (slice_get messages k ≡ Some m)
  message-at k less = slice_get-within messages k (omega (arith, less, lawful.count))

  frame-at : (side : Side) (k : ℕ) → k < length stream → IsLawfulFrame source (came side k) (after_steps k 0)
  frame-at side k less =
      let m = message-at k less in
      let r = lawful.read side k (record { message = m.0; number = after_steps k 0 }) (at k) (numbered k m.0 m.1)
      (there k less) in
      let x = seen side k less in
      let long : length (came side k).bytes ≡ length (frame_on side (at k)) = ap length x.bytes in
      record {
        from_port = r.from_port;
        to_port = m.0.udp;
        payload = m.0.payload;
        bytes = subst AreBytes (sym x.bytes) r.bytes;
        reads = subst
            (λ (b : List ℕ). Read b source.rule.vl r.from_port m.0.udp m.0.payload (after_steps k 0)) (sym x.bytes)
            (subst
            (λ (v : ℕ). Read (frame_on side (at k)) v r.from_port m.0.udp m.0.payload (after_steps k 0))
            (sym of.link) r.reads);
        address = ap address_in x.bytes ∙ r.address
            ∙ ap₂ (λ (i : ℕ) (t : Side). address_of i t) (sym of.system) (sym x.on);
        least = (let e = of.least in omega (arith, e, long, r.fits.0));
        most = (let e = of.most in omega (arith, e, long, r.fits.1));
      }

  is-sent : (side : Side) (k : ℕ) → k < length stream → IsSent source k (sent_on side k)
  is-sent side k less =
      let x = seen side k less in
      let late = released-late gap shift (length stream) (time side) (spaced side) k in
      record {
        frame = frame-at side k less;
        released = released-soon gap shift (length stream) (time side) (spaced side) k less;
        soon = omega (arith, late);
        stamped = record { late = omega (arith, x.time); early = omega (arith, x.time) };
      }

  -- ---- a clock that shows the time, and the jitter, goes on as it may

  goes-on : (t u : ℕ) → t ≤ u → GoesOn source.by t (t + shift) u (u + shift)
  goes-on t u le =
      let same : (u + shift) - (t + shift) ≡ u - t = omega arith in
      let clock : parts * ((u + shift) - (t + shift)) ≡ parts * (u - t) = ap (λ n. parts * n) same in
      let slow : (parts - source.by.drift) * (u - t) ≤ parts * (u - t) = mul-le-mul_right (u - t) (omega arith) in
      let quick : parts * (u - t) ≤ (parts + source.by.drift) * (u - t) = mul-le-mul_right (u - t) (omega arith) in
      record {
        moments = le;
        clocks = omega (arith, le);
        slowest = omega (arith, slow, clock);
        fastest = omega (arith, quick, clock);
      }

  follows : (side : Side) (k : ℕ) → k + 1 < length stream → Follows source (sent_on side k) (sent_on side (k + 1))
  follows side k less =
      let gaps = spaced side k 1 less in
      let jitters = range.rule.jitter in
      record {
        goes_on = goes-on (time side k) (time side (k + 1)) (omega (arith, gaps, jitters));
        gap = released-apart gap shift (length stream) (time side) (spaced side) k;
      }

  -- ---- copies

  long-at : (side : Side) (k : ℕ) → k < length stream → 64 ≤ length (frame_on side (at k))
  long-at side k less =
      let m = message-at k less in
      let r = lawful.read side k (record { message = m.0; number = after_steps k 0 }) (at k) (numbered k m.0 m.1)
      (there k less) in
      let e = of.least in
      omega (arith, range.rule.shortest, e, r.fits.0)

  copied : (k : ℕ) → k < length stream → AreSentTwice source (sent_on A k) (sent_on B k)
  copied k less =
      let c = lawful.copies k (at k) (there k less) in
      let x = seen A k less in
      let y = seen B k less in
      let most = within (length (at k).a) in
      let long-a : length (came A k).bytes ≡ length (at k).a = ap length x.bytes in
      let long-b : length (came B k).bytes ≡ length (at k).a =
      ap length y.bytes ∙ same_long (at k).b (at k).a (long-at B k less) (long-at A k less) (sym c.same) in
      let by-a = ap (apart_by source source.given) long-a in
      let by-b = ap (apart_by source source.given) long-b in
      record {
        same = ap common x.bytes ∙ c.same ∙ sym (ap common y.bytes);
        x_soon = omega (arith, c.a_soon, most, by-a);
        y_soon = omega (arith, c.b_soon, most, by-b);
        goes_on = either (cases_lt (at k).on_b (at k).on_a);
      }
    where
      either : ((at k).on_b < (at k).on_a) ⊎ ((at k).on_a ≤ (at k).on_b) →
          GoesOn source.by (at k).on_a ((at k).on_a + shift) (at k).on_b ((at k).on_b + shift)
          ⊎ GoesOn source.by (at k).on_b ((at k).on_b + shift) (at k).on_a ((at k).on_a + shift)
      either (inl less) = inr (goes-on (at k).on_b (at k).on_a (omega (arith, less)))
      either (inr more) = inl (goes-on (at k).on_a (at k).on_b more)

  -- ---- which were recorded

  shown : (side : Side) → on_side side xs
      ≡ came_from (sent_on side) (recorded side).first (length (on_side side xs))
  shown side =
      are-came side stream (recorded side).first (sent_on side) (on_side side xs)
      (λ k x e. ap (or_made side (at k)) e)

  before : (side : Side) (k : ℕ) → k < (recorded side).first → IsBefore source.by.start (came side k).time
  before side k early =
      let most = (recorded side).within in
      let less : k < length stream = omega (arith, early, most) in
      subst (λ (n : ℕ). IsBefore source.by.start n) (sym (seen side k less).time)
      ((recorded side).before k (at k) early (there k less))

  behind : (side : Side) (k : ℕ) → (recorded side).first + length (on_side side xs) ≤ k → k < length stream →
      source.until < (came side k).time
  behind side k late less =
      let late-time = (recorded side).behind k (at k) late (there k less) in
      omega (arith, late-time, (seen side k less).time)

  pub right-twice : IsRightTwice source xs
  right-twice = record {
    count = length stream;
    sent = sent_on;
    on = λ side k less. (seen side k less).on;
    lawful = is-sent;
    follow = follows;
    copies = copied;
    first = λ side. (recorded side).first;
    seen = λ side. length (on_side side xs);
    within = λ side. (recorded side).within;
    recorded = shown;
    before = before;
    behind = behind;
  }

pub lawful_never_accused : LawfulIsNeverAccused
lawful_never_accused source s l apart messages stream xs range of within lawful up recorded =
    right_never_accused source xs range up
    (right-twice source s l apart messages stream xs range of within lawful recorded)

pub built_never_accused : BuiltIsNeverAccused
built_never_accused source s l messages stream xs range of lawful up recorded =
    lawful_never_accused source s l (λ bytes. 0) messages (map at_once stream) xs range of (λ bytes. omega arith)
    (built_lawful_twice s l messages stream lawful) up recorded
