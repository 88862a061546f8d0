-- The examples' numbers.
use Rattle.std.proofs.Common.{◌≡◌, ℕ, ◌+◌, ◌*◌, ◌-◌, ◌≤◌, ◌<◌, List, [], ◌∷◌, length, refl, sym, ap}
use Rattle.std.proofs.Common.{◌∙◌, arith, suc, zero}
use Rattle.std.specs.Prelude.{All, Contains, IsTrue, slice_index_or}
use Rattle.afdx_frame.specs.declared.link.Priority.TheVariants.{High, Low}
use Rattle.afdx_frame.specs.Regulation.{byte_units}
use Rattle.afdx_frame.specs.Flows.{Flow, high_wait, low_wait, high_load}
use Rattle.afdx_police.specs.Rule.{is_bag}
use Rattle.afdx_law_bounds.specs.Sender.{IsSent}
use Rattle.afdx_law_bounds.specs.Examples.{first, second, pair, PairIsAdmitted, row, rows, PairIsServed, long, ThreeAreSent}
use Rattle.afdx_law_bounds.specs.Outputs.{Row}

all-two : {Y : Type 0} (P : Y → Type 0) (a b : Y) → P a → P b → All P (a ∷ b ∷ [])
all-two P a b p q zero d lt = p
all-two P a b p q (suc zero) d lt = q
all-two P a b p q (suc (suc k)) d lt = absurd (omega (arith, lt))

all-three : {Y : Type 0} (P : Y → Type 0) (a b c : Y) → P a → P b → P c → All P (a ∷ b ∷ c ∷ [])
all-three P a b c p q r zero d lt = p
all-three P a b c p q r (suc zero) d lt = q
all-three P a b c p q r (suc (suc zero)) d lt = r
all-three P a b c p q r (suc (suc (suc k))) d lt = absurd (omega (arith, lt))

-- the identifiers rise from `low` on
Rising : ℕ → List Flow → Type 0
Rising low [] = Unit {0}
Rising low (f ∷ fs) = (low ≤ f.vl) × Rising (f.vl + 1) fs

rising-least : (low : ℕ) (flows : List Flow) (i : ℕ) (f : Flow) → Rising low flows → i < length flows →
    slice_index_or flows i f ≡ f → low ≤ f.vl
unfolding Rising
rising-least low [] i f h lt at = absurd (omega (arith, lt))
rising-least low (d ∷ ds) zero f h lt at = let same : d.vl ≡ f.vl = ap (λ z. z.vl) at in let least =
    h.0 in omega (arith, same, least)
rising-least low (d ∷ ds) (suc i) f h lt at =
    let least = h.0 in let rest = rising-least (d.vl + 1) ds i f h.1 (omega (arith, lt)) at in
    omega (arith, least, rest)

rising-distinct : (low : ℕ) (flows : List Flow) → Rising low flows → (i j : ℕ) (f g : Flow) → i < length flows →
    j < length flows → slice_index_or flows i f ≡ f → slice_index_or flows j g ≡ g → f.vl ≡ g.vl → f ≡ g
unfolding Rising
rising-distinct low [] h i j f g lt below at there same = absurd (omega (arith, lt))
rising-distinct low (d ∷ ds) h zero zero f g lt below at there same = sym at ∙ there
rising-distinct low (d ∷ ds) h zero (suc j) f g lt below at there same =
    absurd (let own : d.vl ≡ f.vl = ap (λ z. z.vl) at in let later =
    rising-least (d.vl + 1) ds j g h.1 (omega (arith, below)) there in
    omega (arith, own, later, same))
rising-distinct low (d ∷ ds) h (suc i) zero f g lt below at there same =
    absurd (let own : d.vl ≡ g.vl = ap (λ z. z.vl) there in let later =
    rising-least (d.vl + 1) ds i f h.1 (omega (arith, lt)) at in
    omega (arith, own, later, same))
rising-distinct low (d ∷ ds) h (suc i) (suc j) f g lt below at there same =
    rising-distinct (d.vl + 1) ds h.1 i j f g (omega (arith, lt)) (omega (arith, below)) at there same

distinct : (flows : List Flow) → Rising 0 flows → (f g : Flow) → Contains flows f → Contains flows g → f.vl ≡ g.vl →
    f ≡ g
distinct flows h f g k l same = rising-distinct 0 flows h k.0 l.0 f g k.1 l.1 k.2 l.2 same

abbrev HighLine : Flow → Type 0
HighLine f = f.priority ≡ High → high_wait 80 (pair 17000 21000) ≤ f.latency * byte_units

abbrev LowLine : Flow → Type 0
LowLine f = f.priority ≡ Low → low_wait 80 (pair 17000 21000)
    ≤ f.latency * (byte_units - high_load 80 (pair 17000 21000))

pub pair-admitted : PairIsAdmitted
unfolding Rising
pair-admitted = record {
  flows_are = record {
    gaps = all-two (λ f. IsTrue (is_bag f.link.bag_ms)) (first 17000) (second 21000) refl refl;
    distinct = distinct (pair 17000 21000) (omega arith, (omega arith, tt));
  };
  admitted = record {
    no_overload = omega arith;
    fits_buffer = omega arith;
    high_in_time = all-two HighLine (first 17000) (second 21000) (λ high. omega arith) (λ high. absurd (cc high));
    low_in_time = all-two LowLine (first 17000) (second 21000) (λ low. absurd (cc low)) (λ low. omega arith);
  };
  one_byte_short = λ h. (let line = h.fits_buffer in omega (arith, line));
  high_too_late = λ h. (let line = h.high_in_time 0 (first 0) (omega arith) refl in omega (arith, line));
  low_too_late = λ h. (let line = h.low_in_time 1 (first 0) (omega arith) refl in omega (arith, line));
}

abbrev three : List Flow
three = long 1 369120 ∷ long 2 369120 ∷ long 3 369120 ∷ []

pub three-sent : ThreeAreSent
unfolding Rising
three-sent = record {
  three = record {
    line = omega arith;
    flows_are = record {
      gaps = all-three (λ f. IsTrue (is_bag f.link.bag_ms)) (long 1 369120) (long 2 369120)
          (long 3 369120) refl refl refl;
      distinct = distinct three (omega arith, (omega arith, (omega arith, tt)));
    };
    jitter = omega arith;
    each = all-three (λ f. IsSent 80 High three f) (long 1 369120) (long 2 369120) (long 3 369120)
        (record { own_class = refl; regular = refl; waits = refl })
        (record { own_class = refl; regular = refl; waits = refl })
        (record { own_class = refl; regular = refl; waits = refl });
  };
  four = λ h. (let line = h.jitter in omega (arith, line));
}

two-rows : (r s : Row) (i j : ℕ) → i < 2 → j < 2 → slice_index_or rows i r ≡ r → slice_index_or rows j s ≡ s →
    r.rule.vl ≡ s.rule.vl → r ≡ s
two-rows r s zero zero lt below at there same = sym at ∙ there
two-rows r s (suc zero) (suc zero) lt below at there same = sym at ∙ there
two-rows r s zero (suc zero) lt below at there same =
    absurd (let a : 1 ≡ r.rule.vl = ap (λ z. z.rule.vl) at in let b : 2 ≡ s.rule.vl =
    ap (λ z. z.rule.vl) there in omega (arith, a, b, same))
two-rows r s (suc zero) zero lt below at there same =
    absurd (let a : 2 ≡ r.rule.vl = ap (λ z. z.rule.vl) at in let b : 1 ≡ s.rule.vl =
    ap (λ z. z.rule.vl) there in omega (arith, a, b, same))
two-rows r s (suc (suc i)) j lt below at there same = absurd (omega (arith, lt))
two-rows r s i (suc (suc j)) lt below at there same = absurd (omega (arith, below))

pub pair-served : PairIsServed
pair-served side = record {
  line = omega arith;
  rows_are = record {
    gaps = all-two (λ r. IsTrue (is_bag r.rule.bag_ms)) (row 1 High 17000) (row 2 Low 21000) refl refl;
    distinct = λ r s k l same. two-rows r s k.0 l.0 k.1 l.1 k.2 l.2 same;
  };
  admitted = pair-admitted.admitted;
}
