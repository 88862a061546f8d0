-- Each receiver is told each message once and in order.
use Rattle.std.proofs.Common.{◌≡◌, ℕ, zero, suc, ◌+◌, ◌*◌, ◌/◌, ◌-◌, ◌<◌, ◌≤◌, ◌⊎◌, inl, inr, Bool, true, false, List, [], ◌∷◌}
use Rattle.std.proofs.Common.{length, map, max, refl, sym, ap, ap₂, ◌∙◌, subst, arith}
use Rattle.std.specs.Prelude.{IsTrue, filter, nat_le, Some}
use Rattle.std.proofs.Math.Nat.{mul-div_cancel_left, mul-le-mul}
use Rattle.std.proofs.lemmas.Bool.{cases_lt, cond-false, cond-true, leb-false, leb-true}
use Rattle.std.proofs.lemmas.List.{length-map, take_all}
use Rattle.afdx_frame.specs.Carried.{carried_by}
use Rattle.afdx_frame.specs.Parts.{number_of_frame}
use Rattle.afdx_frame.specs.Regulation.{bag, is_bag}
use Rattle.afdx_frame.specs.Sides.{is_side}
use Rattle.afdx_frame.specs.declared.link.Side.{Side}
use Rattle.afdx_frame.specs.declared.link.Side.TheVariants.{A, B}
use Rattle.afdx_config.specs.Numbers.{after_steps}
use Rattle.afdx_config.specs.SentList.{Message}
use Rattle.afdx_police.specs.Rule.{regulation_of}
use Rattle.afdx_conform.specs.Headline.{AreTheirFrames, IsItsFrame}
use Rattle.afdx_conform.specs.Leeway.{Leeway}
use Rattle.afdx_conform.specs.Streams.{Gone, Terms}
use Rattle.afdx_receive.specs.Integrity.{Incoming}
use Rattle.afdx_receive.specs.TwoStreams.{count_of}
use Rattle.afdx_lawful.specs.Accepted.{arrival_of, arrivals_of}
use Rattle.afdx_lawful.specs.Alone.{number_in}
use Rattle.afdx_lawful.specs.Partners.{other}
use Rattle.afdx_lawful.specs.Sources.{Came, Source, Way, apart, apart_by, on_side, slip}
use Rattle.afdx_lawful.proofs.AcceptedLemmas.{lawful_accepted}
use Rattle.afdx_lawful.proofs.CleanLemmas.{AreClean, all_clean}
use Rattle.afdx_law_recorded.specs.Pairs.{AreAwaited, AreInPairs, AreNumberedByPlace, ArePair, IsQuietSource}
use Rattle.afdx_law_recorded.specs.Receivers.{IsWayTo, RecordedIsToldOnce, heard_as, messages_of, messages_sent}
use Rattle.afdx_law_recorded.proofs.HeardLemmas.{AreFirstSent, AreNearEnough, IsSentAt, told_once}
use Rattle.afdx_law_recorded.proofs.LongLemmas.{apart-up, long-one}
use Rattle.afdx_law_recorded.proofs.MessageLemmas.{IsGood, IsMessageAt, carry-one, good-at, good-on, message-at}
use Rattle.afdx_lawful.proofs.DistanceLemmas.{same_long}
use Rattle.afdx_law_recorded.proofs.MessageLemmas.{same-carried}
use Rattle.afdx_law_recorded.proofs.OneSideLemmas.{accepted_left}
use Rattle.afdx_law_recorded.proofs.PairLemmas.{quiet_in_pairs, quiet_numbered}
use Rattle.afdx_law_recorded.proofs.PlaceLemmas.{further-pairs, newest-stands, older-stands, one-stands}
use Rattle.afdx_law_recorded.proofs.PlaceLemmas.{some-stands, spaced_on, stands-within, stands_at}

-- ---- over numbers

some-bag : (ms : ℕ) → IsTrue (is_bag ms) → 1 ≤ ms
some-bag zero h = absurd (cc h)
some-bag (suc n) h = omega arith

apart-exact : (a d : ℕ) → d ≡ 0 → 1000000 * a / (1000000 - d) ≡ a
apart-exact a d h = ap (λ (n : ℕ). 1000000 * a / (1000000 - n)) h ∙ mul-div_cancel_left a (omega arith)

near-by : (y z a k skew latency least : ℕ) → y ≤ z + a + (k + k) → k ≡ 0 → a ≤ skew - (latency - least) →
    latency ≤ skew → y + latency ≤ z + least + skew
near-by y z a k skew latency least soon none left small = omega (arith, soon, none, left, small)

-- ---- what left, by the places of what was sent

module _ (s : Source) (z : Terms) where
  least : Came → ℕ
  least y = (length y.bytes + 8) * z.byte_ns

  as-many : (ys : List Came) (left : List Gone) → AreTheirFrames z (map (arrival_of s) ys) left →
      length left ≡ length ys
  unfolding AreTheirFrames
  as-many [] [] h = refl
  as-many [] (g ∷ left) h = absurd h
  as-many (y ∷ ys) [] h = absurd h
  as-many (y ∷ ys) (g ∷ left) h = ap suc (as-many ys left h.1)

  module _ (sent : Side → List Came) (side : Side) (vl gap skew : ℕ) (messages : List Message)
      (given : (k : ℕ) (y : Came) → stands_at (sent side) k ≡ Some y → IsMessageAt messages k y.bytes) where
    abbrev latest : ℕ
    latest = z.latency_ns + z.by.inner

    abbrev FirstSent : List Incoming → Type 0
    FirstSent frames = AreFirstSent sent least gap latest skew messages frames

    sent-at : (y : Came) (ys : List Came) (g : Gone) → (stands_at (sent side) (length ys) ≡ Some y) →
        number_in y ≡ after_steps (length ys) 0 → IsItsFrame z (arrival_of s y) g →
        IsSentAt sent least gap latest skew messages (length ys) (heard_as vl side g)
    unfolding least number_in
    sent-at y ys g here numbered its =
        let m = given (length ys) y here in record {
          sending = y;
          at_place = here;
          number = ap number_of_frame (sym its.bytes) ∙ numbered;
          carries = record {
            message = m.message;
            at_place = m.at_place;
            from_port = m.from_port;
            carried = ap carried_by (sym its.bytes) ∙ m.carried;
          };
          no_sooner = its.no_sooner;
          in_time = its.in_time;
        }

    first-sent : (ys : List Came) (left : List Gone) → AreTheirFrames z (map (arrival_of s) ys) left →
        AreNumberedByPlace ys → ((k : ℕ) → k < length ys → stands_at (sent side) k ≡ stands_at ys k) →
        FirstSent (map (heard_as vl side) left)
    unfolding AreTheirFrames
    first-sent [] [] h numbered same = tt
    first-sent [] (g ∷ left) h numbered same = absurd h
    first-sent (y ∷ ys) [] h numbered same = absurd h
    first-sent (y ∷ ys) (g ∷ left) h numbered same =
        let many : length (map (heard_as vl side) left) ≡ length ys =
        length-map left (heard_as vl side) ∙ as-many ys left h.1 in
        let here : stands_at (sent side) (length ys) ≡ Some y = same (length ys) (omega arith) ∙ newest-stands y ys in (
          subst (λ (n : ℕ). IsSentAt sent least gap latest skew messages n (heard_as vl side g)) (sym many)
              (sent-at y ys g here numbered.0 h.0),
          first-sent ys left h.1 numbered.1
              (λ k less. same k (omega (arith, less)) ∙ older-stands y ys k less),
        )

-- ---- the frames of one place on both sides

record IsNearCopy (s : Source) (x y : Came) : Type 0 where
  length : length x.bytes ≡ length y.bytes
  carried : carried_by x.bytes ≡ carried_by y.bytes
  soon : x.time ≤ y.time + apart s x + slip s

near-copy : (s : Source) (x y : Came) → IsGood x → IsGood y → ArePair s x y → IsNearCopy s x y
near-copy s x y gx gy pair = record {
  length = same_long x.bytes y.bytes gx.least gy.least pair.same;
  carried = same-carried x.bytes y.bytes gx.least gy.least pair.same;
  soon = pair.x_soon;
}

pair-turned : (s : Source) (x y : Came) → ArePair s x y → ArePair s y x
pair-turned s x y h = record { same = sym h.same; x_soon = h.y_soon; y_soon = h.x_soon }

both-pair : (s : Source) (xs : List Came) → AreInPairs s xs → (k : ℕ) (x y : Came) →
    stands_at (on_side A xs) k ≡ Some x → stands_at (on_side B xs) k ≡ Some y → ArePair s x y
both-pair s xs in_pairs k x y here there = by in_pairs.further (λ a b h e. further-pairs s xs in_pairs k a b h e)
  where
    by : (further : Side) → ((a b : Came) → stands_at (on_side further xs) k ≡ Some a →
        stands_at (on_side (other further) xs) k ≡ Some b → ArePair s a b) → ArePair s x y
    by A pairs = pairs x y here there
    by B pairs = pair-turned s y x (pairs y x there here)

module _ (s : Source) (xs : List Came) (in_pairs : AreInPairs s xs) (clean : AreClean s xs) where
  good-one : (side : Side) (k : ℕ) (y : Came) → stands_at (on_side side xs) k ≡ Some y → IsGood y
  good-one side k y h = good-at (on_side side xs) k y (good-on s side xs clean) h

  copies : (a b : Side) (k : ℕ) (x y : Came) → stands_at (on_side a xs) k ≡ Some x →
      stands_at (on_side b xs) k ≡ Some y → IsNearCopy s x y
  copies A A k x y h e = same-one x y (one-stands (on_side A xs) k x y h e)
    where
      same-one : (x y : Came) → x ≡ y → IsNearCopy s x y
      same-one x y same = record {
        length = ap (λ (w : Came). length w.bytes) same;
        carried = ap (λ (w : Came). carried_by w.bytes) same;
        soon = let times : x.time ≡ y.time = ap (λ (w : Came). w.time) same in omega (arith, times);
      }
  copies B B k x y h e = same-one x y (one-stands (on_side B xs) k x y h e)
    where
      same-one : (x y : Came) → x ≡ y → IsNearCopy s x y
      same-one x y same = record {
        length = ap (λ (w : Came). length w.bytes) same;
        carried = ap (λ (w : Came). carried_by w.bytes) same;
        soon = let times : x.time ≡ y.time = ap (λ (w : Came). w.time) same in omega (arith, times);
      }
  copies A B k x y h e =
      near-copy s x y (good-one A k x h) (good-one B k y e) (both-pair s xs in_pairs k x y h e)
  copies B A k x y h e =
      near-copy s x y (good-one B k x h) (good-one A k y e)
      (pair-turned s y x (both-pair s xs in_pairs k y x e h))

  -- each frame carries the message of its place on the side that has more
  given-by : (more : Side) → ((side : Side) → length (on_side side xs) ≤ length (on_side more xs)) → (side : Side)
      (k : ℕ) (y : Came) → stands_at (on_side side xs) k ≡ Some y →
      IsMessageAt (messages_of (on_side more xs)) k y.bytes
  given-by more most side k y h =
      let within = stands-within (on_side side xs) k y h in
      let fewer = most side in
      let first = some-stands (on_side more xs) k (omega (arith, within, fewer)) in
      let m = message-at (on_side more xs) k first.it (good-on s more xs clean) first.there in
      record {
        message = m.message;
        at_place = m.at_place;
        from_port = m.from_port;
        carried = (copies side more k y first.it h first.there).carried ∙ m.carried;
      }

-- ---- the side that has more

record HasMore (s : Source) (xs : List Came) : Type 0 where
  more : Side
  most : (side : Side) → length (on_side side xs) ≤ length (on_side more xs)
  messages : messages_sent xs ≡ messages_of (on_side more xs)

has-more : (s : Source) (xs : List Came) → HasMore s xs
has-more s xs = by (nat_le (length (on_side B xs)) (length (on_side A xs))) refl
  where
    most-a : length (on_side B xs) ≤ length (on_side A xs) → (side : Side) →
        length (on_side side xs) ≤ length (on_side A xs)
    most-a le A = omega arith
    most-a le B = le

    most-b : length (on_side A xs) ≤ length (on_side B xs) → (side : Side) →
        length (on_side side xs) ≤ length (on_side B xs)
    most-b le A = le
    most-b le B = omega arith

    by : (b : Bool) → nat_le (length (on_side B xs)) (length (on_side A xs)) ≡ b → HasMore s xs
    by true e = record {
      more = A;
      most = most-a (leb-true (length (on_side B xs)) (length (on_side A xs)) e);
      messages = cond-true (nat_le (length (on_side B xs)) (length (on_side A xs))) (messages_of (on_side A xs))
          (messages_of (on_side B xs)) e;
    }
    by false e = record {
      more = B;
      most = most-b (let less = leb-false (length (on_side B xs)) (length (on_side A xs)) e in omega (arith, less));
      messages = cond-false (nat_le (length (on_side B xs)) (length (on_side A xs))) (messages_of (on_side A xs))
          (messages_of (on_side B xs)) e;
    }

-- ---- together

module _ (s : Source) (z : Terms) (way : Way) (xs : List Came) (to : IsWayTo s z way) (quiet : IsQuietSource s xs) where
  slack : s.by.slack ≡ 0
  slack = ap (λ (b : Leeway). b.slack) (sym to.link.options) ∙ to.link.exact.account.slack

  drift : s.by.drift ≡ 0
  drift = ap (λ (b : Leeway). b.drift) (sym to.link.options) ∙ to.link.exact.account.drift

  clean : AreClean s xs
  clean = all_clean s xs quiet.coming

  awaited : AreAwaited s
  awaited bytes =
      let longest = to.longest in
      elim (cases_lt bytes s.rule.lmin) [
        | inl short ↦ (let near = to.near s.rule.lmin (omega arith) in
            let less = apart-up s s.given bytes s.rule.lmin (omega (arith, short)) in
            omega (arith, less, near, longest))
        | inr long ↦ (let near = to.near bytes long in omega (arith, near, longest))
      ]

  in-pairs : AreInPairs s xs
  in-pairs = quiet_in_pairs s xs awaited quiet

  near-enough : (messages : List Message) → AreNearEnough (λ (side : Side). on_side side xs) (least s z)
      (bag (regulation_of s.rule)) (z.latency_ns + z.by.inner) way.skew messages
  unfolding least
  near-enough messages = record {
    wide = let some = some-bag s.rule.bag_ms to.rule.bag in omega (arith, some);
    fast = let longest = to.longest in omega (arith, longest);
    spaced = λ side k y w here there.
        let apart = spaced_on s slack drift side xs clean quiet.by_time k 127 y w here there in
        let small = to.rule.jitter in
        omega (arith, apart, small);
    near = λ a b k y w here there.
        let copy = copies s xs in-pairs clean a b k y w here there in
        let exact : apart s y ≡ apart_by s s.given (length y.bytes) =
        apart-exact (apart_by s s.given (length y.bytes)) s.by.drift drift in
        let left = to.near (length y.bytes) (long-one s xs clean a k y here) in
        let longer : (length y.bytes + 8) * way.byte_ns ≡ (length w.bytes + 8) * z.byte_ns =
        ap₂ (λ (n b : ℕ). (n + 8) * b) copy.length (sym to.line) in
        let soon = copy.soon in
        let within : apart s y ≤ way.skew - (way.latency - (length w.bytes + 8) * z.byte_ns) =
        subst (λ (n : ℕ). apart s y ≤ way.skew - (way.latency - n)) longer (omega (arith, exact, left)) in
        let close = near-by y.time w.time (apart s y) s.by.slack way.skew way.latency
        ((length w.bytes + 8) * z.byte_ns) soon slack within to.skew in
        let latency = to.latency in
        let inner = to.inner in
        omega (arith, close, latency, inner);
    quick = λ side k y here.
        let long = (good-one s xs in-pairs clean side k y here).most in
        let slow_line = to.slowest in
        let line = to.line in
        let whole : (length y.bytes + 8) * z.byte_ns ≤ 1526 * 800 =
        mul-le-mul {n₁ = length y.bytes + 8} {m₁ = z.byte_ns} {n₂ = 1526} {m₂ = 800}
        (omega (arith, long)) (omega (arith, line, slow_line)) in
        let some = some-bag s.rule.bag_ms to.rule.bag in
        omega (arith, whole, some);
  }

pub recorded_told_once : RecordedIsToldOnce
recorded_told_once s z way xs own left heard is_open to quiet arrivals shown are =
    let gap : ℕ = bag (regulation_of s.rule) in
    let clean-xs = all_clean s xs quiet.coming in
    let h = has-more s xs in
    let messages : List Message = messages_of (on_side h.more xs) in
    let theirs : (side : Side) → AreTheirFrames z (arrivals_of s side xs) (left side) = λ side.
    accepted_left s z side xs (own side) (left side) to.link
    (lawful_accepted s xs side (slack s z way xs to quiet) (drift s z way xs to quiet) quiet.by_time quiet.named
    quiet.coming)
    (arrivals side) (shown side) in
    let firsts : (side : Side) → AreFirstSent (λ (t : Side). on_side t xs) (least s z)
    gap (z.latency_ns + z.by.inner) way.skew messages (filter (λ (f : Incoming). is_side f.side side) heard) = λ side.
    subst (λ (l : List Incoming). AreFirstSent (λ (t : Side). on_side t xs) (least s z)
    gap (z.latency_ns + z.by.inner) way.skew messages l) (sym (are.sides side))
    (first-sent s z (λ (t : Side). on_side t xs) side s.rule.vl gap way.skew messages
    (given-by s xs (in-pairs s z way xs to quiet) clean-xs h.more h.most side)
    (on_side side xs) (left side) (theirs side) (quiet_numbered s xs side quiet) (λ k less. refl)) in
    let counts : (side : Side) → count_of side heard ≡ length (on_side side xs) = λ side.
    ap length (are.sides side) ∙ length-map (left side) (heard_as s.rule.vl side)
    ∙ as-many s z (on_side side xs) (left side) (theirs side) in
    let count-a = counts A in
    let count-b = counts B in
    let most-a = h.most A in
    let most-b = h.most B in
    let all : length messages ≡ length (on_side h.more xs) =
    carry-one (on_side h.more xs) (good-on s h.more xs clean-xs) in
    let told = told_once (λ (t : Side). on_side t xs) (least s z) gap
    (z.latency_ns + z.by.inner) way.skew messages (near-enough s z way xs to quiet messages) is_open heard firsts
    are.by_time in
    told
    ∙ ap (filter (λ (m : Message). is_open m.udp))
    (take_all (max (count_of A heard) (count_of B heard)) messages
    (enough (count_of A heard) (count_of B heard) (length messages) (length (on_side h.more xs))
    (length (on_side A xs)) (length (on_side B xs)) count-a count-b all (at-side h.more)))
    ∙ ap (filter (λ (m : Message). is_open m.udp)) (sym h.messages)
  where
    at-side : (side : Side) → (length (on_side side xs) ≡ length (on_side A xs))
        ⊎ (length (on_side side xs) ≡ length (on_side B xs))
    at-side A = inl refl
    at-side B = inr refl

    enough : (a b n m p q : ℕ) → a ≡ p → b ≡ q → n ≡ m → (m ≡ p) ⊎ (m ≡ q) → n ≤ max a b
    enough a b n m p q ea eb en (inl h) = omega (arith, ea, eb, en, h)
    enough a b n m p q ea eb en (inr h) = omega (arith, ea, eb, en, h)
