-- A sender's own port is admitted with its links.
use Rattle.std.proofs.Common.{◌≡◌, ℕ, ◌+◌, ◌*◌, ◌≤◌, ◌/◌, List, [], ◌∷◌, ◌++◌, false, refl, sym, ap}
use Rattle.std.proofs.Common.{arith, ◌∙◌, suc, zero}
use Rattle.std.specs.Prelude.{All, IsTrue}
use Rattle.std.proofs.Math.Nat.{mul-le-mul_left, mul-le-mul_right}
use Rattle.std.proofs.lemmas.List.Sums.{sum_by-cons}
use Rattle.std.proofs.lemmas.List.Elements.{All-contains}
use Rattle.afdx_frame.specs.declared.link.Priority.{Priority}
use Rattle.afdx_frame.specs.declared.link.Priority.TheVariants.{High, Low}
use Rattle.afdx_frame.specs.Regulation.{byte_units, fill_rate, cap}
use Rattle.afdx_frame.specs.Flows.{Flow, is_class, of_class, burst, load}
use Rattle.afdx_police.specs.Laws.{EachAccountMoves}
use Rattle.afdx_police.specs.Rule.{is_bag}
use Rattle.afdx_police.specs.Stream.{RegularIsAccepted}
use Rattle.afdx_police.proofs.AccountLemmas.{is_bag-divides}
use Rattle.afdx_law_bounds.specs.Sender.{SenderIsAdmitted, SenderIsRegulated, SenderIsNeverFull, SenderIsInTime}
use Rattle.afdx_law_bounds.specs.Policed.{charged_to, IsCharged}
use Rattle.afdx_law_bounds.specs.Sender.{one_of_each, IsSent}
use Rattle.afdx_law_bounds.proofs.ListLemmas.{get_all, all_get}
use Rattle.afdx_law_bounds.proofs.BoundLemmas.{turn_at}
use Rattle.afdx_law_bounds.proofs.SumLemmas.{sum-classes}
use Rattle.afdx_law_bounds.proofs.AdmittedLemmas.{none-lost, turn-in-time}

part-le : (ms m : ℕ) → ms * m ≡ 128 → m ≤ 128
part-le zero m h = absurd (omega (arith, h))
part-le (suc ms) m h = let split : suc ms * m ≡ m + ms * m = grind arith in omega (arith, h, split)

-- with no jitter a full account is one frame of the greatest size
cap-one : (ms m smax j : ℕ) → ms * m ≡ 128 → j ≡ 0 → smax * m * (1000000 * ms + 1000 * j) ≡ byte_units * smax
cap-one ms m smax j h none =
    let all : smax * m * (1000000 * ms + 1000 * 0) ≡ smax * 1000000 * (ms * m) = grind arith in
    rw none (all ∙ rw h (omega arith))

load-le : (byte_ns : ℕ) (flows : List Flow) → All (λ f. IsTrue (is_bag f.link.bag_ms)) flows →
    load byte_ns flows ≤ 128 * one_of_each byte_ns flows
load-le byte_ns [] gaps = omega arith
load-le byte_ns (f ∷ fs) gaps =
    let rest = load-le byte_ns fs (λ k d lt. gaps (suc k) d (omega (arith, lt))) in
    let part : 128 / f.link.bag_ms ≤ 128 =
    part-le f.link.bag_ms (128 / f.link.bag_ms)
    (is_bag-divides f.link.bag_ms (gaps 0 f (omega arith))) in
    let scaled : (f.link.smax * byte_ns) * (128 / f.link.bag_ms) ≤ (f.link.smax * byte_ns) * 128 =
    mul-le-mul_left (f.link.smax * byte_ns) part in
    let first : fill_rate f.link * byte_ns ≡ (f.link.smax * byte_ns) * (128 / f.link.bag_ms) = grind arith in
    rw (
      sum_by-cons (λ f. fill_rate f.link * byte_ns) f fs,
      sum_by-cons (λ f. f.link.smax * byte_ns) f fs,
    ) (omega (arith, rest, first, scaled))

burst-ns : (byte_ns : ℕ) (flows : List Flow) → All (λ f. IsTrue (is_bag f.link.bag_ms)) flows →
    All (λ f. f.link.jitter_us ≡ 0) flows → burst flows * byte_ns ≡ byte_units * one_of_each byte_ns flows
burst-ns byte_ns [] gaps none = omega arith
burst-ns byte_ns (f ∷ fs) gaps none =
    let rest = burst-ns byte_ns fs (λ k d lt. gaps (suc k) d (omega (arith, lt)))
    (λ k d lt. none (suc k) d (omega (arith, lt))) in
    let first : cap f.link ≡ byte_units * f.link.smax
    = cap-one f.link.bag_ms (128 / f.link.bag_ms) f.link.smax f.link.jitter_us
    (is_bag-divides f.link.bag_ms (gaps 0 f (omega arith)))
    (none 0 f (omega arith)) in
    let scaled : cap f.link * byte_ns ≡ byte_units * f.link.smax * byte_ns = ap (λ n. n * byte_ns) first in
    rw (sum_by-cons (λ f. cap f.link) f fs, sum_by-cons (λ f. f.link.smax * byte_ns) f fs) (omega (arith, rest, scaled))

not-class : (a b c : Priority) → is_class a b ≡ false → c ≡ b → is_class a c ≡ false
not-class a b c other same = rw same other

-- where all flows are of one class there are none of the other
none-of : (a b : Priority) (flows : List Flow) → is_class a b ≡ false → All (λ f. f.priority ≡ b) flows →
    of_class a flows ≡ []
none-of a b [] other each = refl
none-of a b (f ∷ fs) other each =
    rw (not-class a b f.priority other (each 0 f (omega arith)))
    (none-of a b fs other (λ k d lt. each (suc k) d (omega (arith, lt))))

pub sender-admitted : SenderIsAdmitted
sender-admitted byte_ns class flows is =
    let within = is.jitter in
    let loads = load-le byte_ns flows is.flows_are.gaps in
    let bursts = burst-ns byte_ns flows is.flows_are.gaps (λ k d lt. (is.each k d lt).regular) in
    let slow : burst flows * 8 ≤ burst flows * byte_ns = mul-le-mul_left (burst flows) is.line in
    let split = sum-classes (λ f. cap f.link) flows in
    let part : burst (of_class High flows) * byte_ns ≤ burst flows * byte_ns =
    mul-le-mul_right byte_ns (omega (arith, split)) in
    record {
      no_overload = omega (arith, loads, within);
      fits_buffer = omega (arith, bursts, slow, within);
      high_in_time = λ k d lt high. (let own = (is.each k d lt).waits in
          let none = none-of Low High flows refl
          (λ i f below. (is.each i f below).own_class ∙ sym (is.each k d lt).own_class ∙ high) in
          rw (none, own) (omega (arith, part, bursts)));
      low_in_time = λ k d lt low. (let own = (is.each k d lt).waits in
          let none = none-of High Low flows refl
          (λ i f below. (is.each i f below).own_class ∙ sym (is.each k d lt).own_class ∙ low) in
          rw (none, own) (omega (arith, bursts)));
    }

module _ {X : Type 0} where
  pub sender-regulated : RegularIsAccepted → SenderIsRegulated X
  sender-regulated accepted byte_ns class flows vl_of charge_of entries is order charged released = record {
    line = let some = is.line in omega (arith, some);
    flows_are = is.flows_are;
    admitted = sender-admitted byte_ns class flows is;
    in_order = order;
    policed = record {
      charged = charged;
      accepted = λ f k. (let own = released f k in (
        charged_to vl_of charge_of f.vl entries,
        sym (accepted f.link (charged_to vl_of charge_of f.vl entries) own.0 own.1),
      ));
    };
  }

  pub sender-never-full : EachAccountMoves → RegularIsAccepted → SenderIsNeverFull X
  sender-never-full moves accepted byte_ns class flows vl_of charge_of entries turns new is order charged released =
      none-lost moves byte_ns 65536 flows vl_of charge_of entries turns new
      (sender-regulated accepted byte_ns class flows vl_of charge_of (entries ++ new ∷ []) is order charged released)

  pub sender-in-time : EachAccountMoves → RegularIsAccepted → SenderIsInTime X
  sender-in-time moves accepted byte_ns class flows vl_of charge_of entries turns is order charged released are =
      all_get (λ s. s.end ≤ s.entry.time + one_of_each byte_ns flows) turns (λ i s g.
      let own = turn_at byte_ns entries turns i s are g in
      let c = get_all (λ e. IsCharged vl_of charge_of flows e) entries s.place s.entry charged own.next.own.stands in
      let sent = All-contains (λ f. IsSent byte_ns class flows f) flows c.flow is.each c.stands in
      let waits : c.flow.latency ≡ one_of_each byte_ns flows = sent.waits in
      let soon = turn-in-time moves byte_ns 65536 flows vl_of charge_of entries turns c.flow i s
      (sender-regulated accepted byte_ns class flows vl_of charge_of entries is order charged
      released) are c.stands g (sym c.named) in
      omega (arith, waits, soon))
