-- Counterexamples to the promises, for weaker admissions.
use Rattle.std.proofs.Common.{◌≡◌, ℕ, ◌+◌, ◌*◌, ◌-◌, ◌≤◌, ◌<◌, false, List, [], ◌∷◌, None, refl}
use Rattle.std.proofs.Common.{sym, subst, arith, ◌∙◌, suc, zero}
use Rattle.std.specs.Prelude.{All, IsTrue, slice_index_or}
use Rattle.afdx_frame.specs.declared.link.Priority.{Priority}
use Rattle.afdx_frame.specs.declared.link.Priority.TheVariants.{High, Low}
use Rattle.afdx_frame.specs.Regulation.{byte_units}
use Rattle.afdx_frame.specs.Flows.{Flow, high_wait, low_wait, high_load}
use Rattle.afdx_police.specs.Rule.{is_bag}
use Rattle.afdx_police.specs.Window.{Charged, keeps_windows, accepted_of}
use Rattle.afdx_port.specs.Schedule.{Entry}
use Rattle.afdx_port.specs.ScheduleOf.{AreInOrder}
use Rattle.afdx_law_bounds.specs.Curve.{wire}
use Rattle.afdx_law_bounds.specs.Policed.{AreFlows, charged_to, IsCharged, ArePoliced}
use Rattle.afdx_law_bounds.specs.Needed.{InTimeWhere, NoneIsLostWhere, NoneIsLostUnpoliced}
use Rattle.afdx_law_bounds.specs.Needed.{AdmitsOverload, AdmitsSmallBuffer, AdmitsLate}
use Rattle.afdx_law_bounds.specs.Needed.{EachLineIsNeeded}
use Rattle.afdx_law_bounds.proofs.NextLemmas.{order-push}

-- a link that is alone at its port, with a gap of 1 ms
abbrev alone : Priority → ℕ → ℕ → ℕ → Flow
alone class jitter_us smax latency =
    record {
      vl = 1;
      link = record { bag_ms = 1; jitter_us = jitter_us; smax = smax };
      priority = class;
      latency = latency;
    }

abbrev frame : Priority → ℕ → ℕ → Entry ℕ
frame class time bytes = record { time = time; priority = class; bytes = bytes; longest_wait = None; item = 1 }

all-one : {Y : Type 0} (P : Y → Type 0) (x : Y) → P x → All P (x ∷ [])
all-one P x p zero d lt = p
all-one P x p (suc k) d lt = absurd (omega (arith, lt))

all-two : {Y : Type 0} (P : Y → Type 0) (x y : Y) → P x → P y → All P (x ∷ y ∷ [])
all-two P x y p q zero d lt = p
all-two P x y p q (suc zero) d lt = q
all-two P x y p q (suc (suc k)) d lt = absurd (omega (arith, lt))

abbrev HighLine : ℕ → List Flow → Flow → Type 0
HighLine byte_ns flows f = f.priority ≡ High → high_wait byte_ns flows ≤ f.latency * byte_units

abbrev LowLine : ℕ → List Flow → Flow → Type 0
LowLine byte_ns flows f = f.priority ≡ Low → low_wait byte_ns flows ≤ f.latency * (byte_units - high_load byte_ns flows)

one-at : (f g : Flow) (i : ℕ) → i < 1 → slice_index_or (f ∷ []) i g ≡ g → f ≡ g
one-at f g zero lt at = at
one-at f g (suc i) lt at = absurd (omega (arith, lt))

alone-is : (f : Flow) → IsTrue (is_bag f.link.bag_ms) → AreFlows (f ∷ [])
alone-is f gap = record {
  gaps = all-one (λ d. IsTrue (is_bag d.link.bag_ms)) f gap;
  distinct = λ g h k l same. sym (one-at f g k.0 k.1 k.2) ∙ one-at f h l.0 l.1 l.2;
}

none-in-order : AreInOrder {X = ℕ} []
none-in-order i j d e le g k = absurd (cc g)

order-two : (d e : Entry ℕ) → d.time ≤ e.time → AreInOrder (d ∷ e ∷ [])
order-two d e le = order-push (d ∷ []) e
    (order-push [] d none-in-order (λ k x lt. absurd (omega (arith, lt))))
    (all-one (λ z. z.time ≤ e.time) d le)

-- what is accepted of the frames of the one link are all of them
alone-policed : (f : Flow) (entries : List (Entry ℕ)) → All (λ e. IsCharged (λ vl. vl) wire (f ∷ []) e) entries →
    charged_to (λ vl. vl) wire f.vl entries
    ≡ accepted_of f.link (charged_to (λ vl. vl) wire f.vl entries)
    → ArePoliced (λ vl. vl) wire (f ∷ []) entries
alone-policed f entries each all = record {
  charged = each;
  accepted = λ g k. (let same = one-at f g k.0 k.1 k.2 in
      let P : Flow → Type 0 = λ d. (came : List Charged)
      × (charged_to (λ vl. vl) wire d.vl entries ≡ accepted_of d.link came) in
      subst P same (charged_to (λ vl. vl) wire f.vl entries, all));
}

is-charged : (class : Priority) (jitter_us smax latency time bytes : ℕ) → bytes + 20 ≤ smax →
    IsCharged (λ vl. vl) wire (alone class jitter_us smax latency ∷ []) (frame class time bytes)
is-charged class jitter_us smax latency time bytes small =
    record {
      flow = alone class jitter_us smax latency;
      stands = (0, omega arith, refl);
      named = refl;
      class = refl;
      at_least = omega arith;
      at_most = small;
    }

-- at 10 Mbit/s a frame of 1518 bytes a millisecond is more than the line carries: the second one is late
abbrev fast : Flow
fast = alone High 0 1538 1230400

load-needed : InTimeWhere AdmitsOverload → ⊥
unfolding accepted_of keeps_windows
load-needed h =
    let late = h 800 1538 (fast ∷ []) (frame High 0 1518 ∷ frame High 1000000 1518 ∷ []) fast
    (omega arith) (alone-is fast refl)
    (record {
      fits_buffer = omega arith;
      high_in_time = all-one (HighLine 800 (fast ∷ [])) fast (λ is. omega arith);
      low_in_time = all-one (LowLine 800 (fast ∷ [])) fast (λ is. absurd (cc is));
    })
    (order-two (frame High 0 1518) (frame High 1000000 1518) (omega arith))
    (alone-policed fast (frame High 0 1518 ∷ frame High 1000000 1518 ∷ [])
    (all-two (λ e. IsCharged (λ vl. vl) wire (fast ∷ []) e) (frame High 0 1518)
    (frame High 1000000 1518) (is-charged High 0 1538 1230400 0 1518 (omega arith))
    (is-charged High 0 1538 1230400 1000000 1518 (omega arith))) refl)
    (0, omega arith, refl) 0
    (record { place = 0; entry = frame High 0 0; moment = 0; end = 0; too_old = false })
    (omega arith) refl in
    omega (arith, late)

-- two frames of 64 bytes may come at once where the jitter is a gap: 127 bytes don't hold both
abbrev jittery : Flow
jittery = alone High 1000 84 100000

buffer-needed : NoneIsLostWhere AdmitsSmallBuffer → ⊥
unfolding accepted_of keeps_windows
buffer-needed h =
    let kept = h 80 127 (jittery ∷ []) (frame High 0 64 ∷ []) (frame High 0 64) (omega arith) (alone-is jittery refl)
    (record {
      larger = 168;
      admitted = record {
        no_overload = omega arith;
        fits_buffer = omega arith;
        high_in_time = all-one
            (HighLine 80 (jittery ∷ [])) jittery (λ is. omega arith);
        low_in_time = all-one (LowLine 80 (jittery ∷ [])) jittery (λ is. absurd (cc is));
      };
    })
    (order-two (frame High 0 64) (frame High 0 64) (omega arith))
    (alone-policed jittery (frame High 0 64 ∷ frame High 0 64 ∷ [])
    (all-two (λ e. IsCharged (λ vl. vl) wire (jittery ∷ []) e) (frame High 0 64) (frame High 0 64)
    (is-charged High 1000 84 100000 0 64 (omega arith))
    (is-charged High 1000 84 100000 0 64 (omega arith))) refl) in
    cc kept

-- a frame of 64 bytes takes 6720 ns at 100 Mbit/s, even where it waits for nothing
abbrev hasty : Priority → Flow
hasty class = alone class 0 84 6719

high-needed : InTimeWhere
    (λ byte_ns buffer flows. AdmitsLate byte_ns buffer flows × All (λ f. f.priority ≡ High) flows) → ⊥
unfolding accepted_of keeps_windows
high-needed h =
    let late = h 80 84 (hasty High ∷ []) (frame High 0 64 ∷ []) (hasty High) (omega arith)
    (alone-is (hasty High) refl) (
      record {
        no_overload = omega arith;
        fits_buffer = omega arith;
        high_in_time = all-one (HighLine 80 (alone High 0 84 6720 ∷ [])) (alone High 0 84 6720) (λ is. omega arith);
        low_in_time = all-one (LowLine 80 (alone High 0 84 6720 ∷ [])) (alone High 0 84 6720) (λ is. absurd (cc is));
      },
      all-one (λ f. f.priority ≡ High) (hasty High) refl,
    )
    (order-push [] (frame High 0 64) none-in-order (λ k x lt. absurd (omega (arith, lt))))
    (alone-policed (hasty High) (frame High 0 64 ∷ [])
    (all-one (λ e. IsCharged (λ vl. vl) wire (hasty High ∷ []) e) (frame High 0 64)
    (is-charged High 0 84 6719 0 64 (omega arith))) refl)
    (0, omega arith, refl) 0
    (record { place = 0; entry = frame High 0 0; moment = 0; end = 0; too_old = false })
    (omega arith) refl in
    omega (arith, late)

low-needed : InTimeWhere
    (λ byte_ns buffer flows. AdmitsLate byte_ns buffer flows × All (λ f. f.priority ≡ Low) flows) → ⊥
unfolding accepted_of keeps_windows
low-needed h =
    let late = h 80 84 (hasty Low ∷ []) (frame Low 0 64 ∷ []) (hasty Low) (omega arith) (alone-is (hasty Low) refl) (
      record {
        no_overload = omega arith;
        fits_buffer = omega arith;
        high_in_time = all-one (HighLine 80 (alone Low 0 84 6720 ∷ [])) (alone Low 0 84 6720) (λ is. absurd (cc is));
        low_in_time = all-one (LowLine 80 (alone Low 0 84 6720 ∷ [])) (alone Low 0 84 6720) (λ is. omega arith);
      },
      all-one (λ f. f.priority ≡ Low) (hasty Low) refl,
    )
    (order-push [] (frame Low 0 64) none-in-order (λ k x lt. absurd (omega (arith, lt))))
    (alone-policed (hasty Low) (frame Low 0 64 ∷ [])
    (all-one (λ e. IsCharged (λ vl. vl) wire (hasty Low ∷ []) e) (frame Low 0 64)
    (is-charged Low 0 84 6719 0 64 (omega arith))) refl)
    (0, omega arith, refl) 0
    (record { place = 0; entry = frame Low 0 0; moment = 0; end = 0; too_old = false })
    (omega arith) refl in
    omega (arith, late)

-- two frames of 64 bytes at once, where the jitter allows one: 84 bytes don't hold both
abbrev steady : Flow
steady = alone High 0 84 6720

policing-needed : NoneIsLostUnpoliced → ⊥
policing-needed h =
    let kept = h 80 84 (steady ∷ []) (frame High 0 64 ∷ []) (frame High 0 64) (omega arith) (alone-is steady refl)
    (record {
      no_overload = omega arith;
      fits_buffer = omega arith;
      high_in_time = all-one (HighLine 80 (steady ∷ [])) steady (λ is. omega arith);
      low_in_time = all-one (LowLine 80 (steady ∷ [])) steady (λ is. absurd (cc is));
    })
    (order-two (frame High 0 64) (frame High 0 64) (omega arith))
    (all-two (λ e. IsCharged (λ vl. vl) wire (steady ∷ []) e) (frame High 0 64) (frame High 0 64)
    (is-charged High 0 84 6720 0 64 (omega arith))
    (is-charged High 0 84 6720 0 64 (omega arith))) in
    cc kept

pub each-needed : EachLineIsNeeded
each-needed = record {
  load = load-needed;
  buffer = buffer-needed;
  high_latency = high-needed;
  low_latency = low-needed;
  policing = policing-needed;
}
