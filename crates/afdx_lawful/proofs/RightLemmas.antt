-- Nothing is found of a right sender by its own side alone.
use Rattle.std.proofs.Common.{◌≡◌, ℕ, ◌+◌, ◌*◌, ◌-◌, ◌≤◌, true, List, [], ◌∷◌, refl, sym, ap}
use Rattle.std.proofs.Common.{subst, ◌∙◌, arith, length, Option, Some, None}
use Rattle.std.specs.Prelude.{suc, map, nat_eq}
use Rattle.std.proofs.lemmas.Bool.{cond-true, eq-eqb, le-leb, le-ltb}
use Rattle.std.proofs.lemmas.Slice.Eq.{bytes_eq-Decides}
use Rattle.std.proofs.Math.Nat.{mul-le-mul_left}
use Rattle.afdx_config.specs.Numbers.{after_steps, next_number}
use Rattle.afdx_frame.specs.Parts.{FrameParts}
use Rattle.afdx_frame.specs.Regulation.{bag, jitter}
use Rattle.afdx_frame.proofs.PartsLemmas.{frame_is_computed}
use Rattle.afdx_frame.proofs.ReadingLemmas.{reading_is_computed}
use Rattle.afdx_police.specs.Rule.{regulation_of}
use Rattle.afdx_police.specs.Spacing.{AreSentRight, AreUpTo, Clocked, HaveRoom, IsSentBehind}
use Rattle.afdx_police.proofs.SpacingLemmas.{right_has_room}
use Rattle.afdx_lawful.specs.Accepted.{ComeUpTo}
use Rattle.afdx_lawful.specs.Alone.{first_number, has_room, number_after, number_in, other_number}
use Rattle.afdx_lawful.specs.Alone.{times_with_room}
use Rattle.afdx_lawful.specs.Flaws.{address_in, address_of, flaw_carrying, flaw_of, is_frame, is_whole}
use Rattle.afdx_lawful.specs.Right.{AreSent, AreSilent, Follows, FollowsAll, IsLawfulFrame, IsSent, RightIsSilent}
use Rattle.afdx_lawful.specs.Right.{Sent, came_of}
use Rattle.afdx_lawful.specs.Sources.{Came, Source, cost, fast, room, slip}
use Rattle.afdx_lawful.proofs.FlawLemmas.{as_carried, whole_flaw}
use Rattle.afdx_lawful.proofs.TrackLemmas.{told_found}

-- ---- a frame by itself

pub record IsSeenSo (s : Source) (x : Came) (number : ℕ) : Type 0 where
  pub whole : is_whole x ≡ true
  pub flawless : flaw_of s x ≡ None
  pub numbered : number_in x ≡ number

pub seen_so : (s : Source) (x : Came) (n : ℕ) → IsLawfulFrame s x n → IsSeenSo s x n
unfolding is_whole number_in
seen_so s x n h =
    let r = reading_is_computed.only_one x.bytes s.rule.vl h.from_port h.to_port n h.payload h.bytes h.reads in
    let p : FrameParts = r.0 in
    let at = frame_is_computed.at_places x.bytes p ((frame_is_computed.frame x.bytes p h.bytes).0 r.1) in
    record {
      whole = ap is_frame r.1;
      flawless = sym (whole_flaw s x p r.1)
          ∙ sym (as_carried s x p (le-ltb _ _ (omega (arith, h.most))) (le-ltb _ _ (omega (arith, h.least)))
          ((bytes_eq-Decides (address_in x.bytes) (address_of s.system x.side)).1 h.address))
          ∙ ap flaw_carrying r.4;
      numbered = sym at.number ∙ r.3;
    }

-- ---- its number

is_next : (s : Source) (x : Came) (n : ℕ) → number_in x ≡ n → other_number s x (Some n) ≡ []
is_next s x n h = cond-true (nat_eq (number_in x) n) [] _ (eq-eqb _ _ h)

first_next : (s : Source) (x : Came) (first : ℕ) (start : Option ℕ) → (start ≡ None → first ≡ 0) →
    number_in x ≡ after_steps (first + 0) 0 → other_number s x (first_number s start) ≡ []
unfolding after_steps
first_next s x first None begun h =
    let none : first + 0 ≡ 0 = omega (arith, begun refl) in
    is_next s x 0 (h ∙ ap (λ n. after_steps n 0) none)
first_next s x first (Some start) begun h = refl

one_step : (n m : ℕ) → n ≡ suc m → after_steps n 0 ≡ next_number (after_steps m 0)
unfolding after_steps
one_step n m h = ap (λ k. after_steps k 0) h

right_number : (s : Source) (first : ℕ) (x : Sent) (before : List Sent) → (s.by.start ≡ None → first ≡ 0) →
    IsSent s (first + length before) x → AreSent s first before →
    other_number s x.came (number_after s (came_of before)) ≡ []
unfolding AreSent
right_number s first x [] begun h more =
    first_next s x.came first s.by.start begun (seen_so s x.came (after_steps (first + 0) 0) h.frame).numbered
right_number s first x (w ∷ before) begun h more =
    let here = (seen_so s x.came (after_steps (first + length (w ∷ before)) 0) h.frame).numbered in
    let there = (seen_so s w.came (after_steps (first + length before) 0) more.0.frame).numbered in
    is_next s x.came (next_number (number_in w.came))
    (here ∙ one_step (first + length (w ∷ before)) (first + length before) (omega arith)
    ∙ ap next_number (sym there))

-- ---- its room

-- from one frame to a later one
pub record IsBehind (s : Source) (n : ℕ) (v x : Sent) : Type 0 where
  pub release : bag (regulation_of s.rule) * n + v.release ≤ x.release
  pub moments : v.moment ≤ x.moment
  pub clocks : v.clock ≤ x.clock
  pub fastest : 1000000 * (x.clock - v.clock) ≤ fast s * (x.moment - v.moment)

parted : (k a b c : ℕ) → c ≤ b → b ≤ a → k * (a - b) + k * (b - c) ≡ k * (a - c)
parted k a b c low high =
    let sum : (a - b) + (b - c) ≡ a - c = omega (arith, low, high) in
    let whole : k * ((a - b) + (b - c)) ≡ k * (a - c) = ap (λ n. k * n) sum in
    omega (arith, whole)

pub one_behind : (s : Source) (w x : Sent) → Follows s w x → IsBehind s 1 w x
one_behind s w x h = record {
  release = omega (arith, h.gap);
  moments = h.goes_on.moments;
  clocks = h.goes_on.clocks;
  fastest = h.goes_on.fastest;
}

pub more_behind : (s : Source) (n : ℕ) (v w x : Sent) → Follows s v w → IsBehind s n w x → IsBehind s (n + 1) v x
more_behind s n v w x h b =
    let clocks : 1000000 * (x.clock - w.clock) + 1000000 * (w.clock - v.clock) ≡ 1000000 * (x.clock - v.clock) =
    parted 1000000 x.clock w.clock v.clock h.goes_on.clocks b.clocks in
    let moments : fast s * (x.moment - w.moment) + fast s * (w.moment - v.moment) ≡ fast s * (x.moment - v.moment) =
    parted (fast s) x.moment w.moment v.moment h.goes_on.moments b.moments in
    record {
      release = omega (arith, h.gap, b.release);
      moments = omega (arith, h.goes_on.moments, b.moments);
      clocks = omega (arith, h.goes_on.clocks, b.clocks);
      fastest = omega (arith, clocks, moments, h.goes_on.fastest, b.fastest);
    }

clocked : Sent → Clocked
clocked x = record { stamp = x.came.time; clock = x.clock }

stamps : (xm fm xs fs s : ℕ) → xm ≤ xs + s → fs ≤ fm + s → xm - fm ≤ (xs - fs) + (s + s)
stamps xm fm xs fs s h k = omega (arith, h, k)

AreBehind : Source → ℕ → Sent → List Sent → Type 0
AreBehind s n x [] = Unit {0}
AreBehind s n x (w ∷ before) = IsBehind s (n + 1) w x

on_behind : (s : Source) (n : ℕ) (w x : Sent) (before : List Sent) → FollowsAll s before w → IsBehind s (n + 1) w x →
    AreBehind s (n + 1) x before
unfolding AreBehind
on_behind s n w x [] follows b = tt
on_behind s n w x (v ∷ before) follows b = more_behind s (n + 1) v w x follows b

sent_behind : (s : Source) (first n m : ℕ) (x : Sent) (before : List Sent) → IsSent s m x → AreBehind s n x before →
    AreSent s first before →
    IsSentBehind 1000000 (bag (regulation_of s.rule)) (jitter (regulation_of s.rule)) (fast s) (slip s) n (clocked x)
    (map clocked before)
unfolding AreBehind AreSent clocked
sent_behind s first n m x [] is behind sent = tt
sent_behind s first n m x (w ∷ before) is behind sent =
    let near : x.moment - w.moment ≤ (x.came.time - w.came.time) + slip s =
    stamps x.moment w.moment x.came.time w.came.time s.by.slack is.stamped.early sent.0.stamped.late in
    let whole : fast s * (x.moment - w.moment) ≤ fast s * ((x.came.time - w.came.time) + slip s) =
    mul-le-mul_left (fast s) near in (
      omega (arith, behind.release, is.released, sent.0.soon),
      omega (arith, behind.fastest, whole),
      sent_behind s first (n + 1) m x before is (on_behind s n w x before sent.1 behind) sent.2,
    )

first_behind : (s : Source) (x : Sent) (before : List Sent) → FollowsAll s before x → AreBehind s 0 x before
unfolding AreBehind
first_behind s x [] follows = tt
first_behind s x (w ∷ before) follows = one_behind s w x follows

sent_right : (s : Source) (first : ℕ) (sent : List Sent) → AreSent s first sent →
    AreSentRight 1000000 (bag (regulation_of s.rule)) (jitter (regulation_of s.rule)) (fast s) (slip s)
    (map clocked sent)
unfolding AreSent
sent_right s first [] h = tt
sent_right s first (x ∷ before) h = (
  sent_behind s first 0 (first + length before) x before h.0 (first_behind s x before h.1) h.2,
  sent_right s first before h.2,
)

times_of : List Came → List ℕ
times_of ys = map (λ x. x.time) ys

same_stamps : (sent : List Sent) → map (λ x. x.stamp) (map clocked sent) ≡ times_of (came_of sent)
unfolding clocked times_of
same_stamps [] = refl
same_stamps (x ∷ sent) = ap (λ (l : List ℕ). x.came.time ∷ l) (same_stamps sent)

right_room : (s : Source) (first time : ℕ) (sent : List Sent) → ComeUpTo time (came_of sent) → AreSent s first sent →
    HaveRoom (cost s) (fast s) (room s) (times_of (came_of sent))
unfolding times_of
right_room s first time sent up h =
    subst (λ (l : List ℕ). HaveRoom (cost s) (fast s) (room s) l) (same_stamps sent)
    (right_has_room 1000000 (bag (regulation_of s.rule)) (jitter (regulation_of s.rule)) (fast s) (slip s) time
    (map clocked sent) (subst (λ (l : List ℕ). AreUpTo time l) (sym (same_stamps sent)) up)
    (sent_right s first sent h))

fits_then : (s : Source) (x : Came) (ys : List Came) → times_with_room s ys ≡ times_of ys →
    HaveRoom (cost s) (fast s) (room s) (times_of (x ∷ ys)) → has_room s (times_with_room s ys) x.time ≡ true
unfolding times_of
fits_then s x ys same h = subst (λ (l : List ℕ). has_room s l x.time ≡ true) (sym same) (le-leb _ _ h.0)

all_charged : (s : Source) (ys : List Came) → HaveRoom (cost s) (fast s) (room s) (times_of ys) →
    times_with_room s ys ≡ times_of ys
unfolding times_of times_with_room
all_charged s [] h = refl
all_charged s (x ∷ ys) h =
    let same : times_with_room s ys ≡ times_of ys = all_charged s ys h.1 in
    cond-true (has_room s (times_with_room s ys) x.time) (x.time ∷ times_with_room s ys) (times_with_room s ys)
    (fits_then s x ys same h)
    ∙ ap (λ (l : List ℕ). x.time ∷ l) same

-- ---- all of it

silent_from : (s : Source) (first : ℕ) (sent : List Sent) → (s.by.start ≡ None → first ≡ 0) → AreSent s first sent →
    HaveRoom (cost s) (fast s) (room s) (times_of (came_of sent)) → AreSilent s (came_of sent)
unfolding AreSent AreSilent times_of
silent_from s first [] begun h roomy = tt
silent_from s first (x ∷ before) begun h roomy =
    let ys : List Came = came_of before in
    let seen = seen_so s x.came (after_steps (first + length before) 0) h.0.frame in
    let fits : has_room s (times_with_room s ys) x.came.time ≡ true =
    fits_then s x.came ys (all_charged s ys roomy.1) roomy in (
      seen.whole,
      sym (told_found s ys x.came None [] [] (sym seen.flawless) (sym (right_number s first x before begun h.0 h.2))
          (sym (cond-true (has_room s (times_with_room s ys) x.came.time) [] _ fits))),
      silent_from s first before begun h.2 roomy.1,
    )

pub right_silent : RightIsSilent
right_silent s first time sent begun up h = silent_from s first sent begun h (right_room s first time sent up h)
