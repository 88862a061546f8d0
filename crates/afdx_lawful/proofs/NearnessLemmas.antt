-- The example of copies that are sent apart meets what is asked, and computes.
use Rattle.std.proofs.Common.{◌≡◌, ℕ, zero, suc, ◌+◌, ◌*◌, ◌≤◌, List, [], ◌∷◌, Some, None, refl, sym, ap, ◌∙◌}
use Rattle.std.proofs.Common.{arith}
use Rattle.std.specs.Prelude.{Ok, filter, slice_get}
use Rattle.afdx_frame.specs.Sides.{is_side}
use Rattle.afdx_frame.specs.Carried.{carried_by, carried_in_body}
use Rattle.afdx_frame.specs.Datagrams.{words, ones_sum}
use Rattle.afdx_frame.specs.Parts.{frame_of}
use Rattle.afdx_frame.specs.Register.{shift, number}
use Rattle.afdx_frame.specs.Sealing.{is_sealed, sequence_of}
use Rattle.afdx_frame.specs.declared.link.Side.{Side}
use Rattle.afdx_frame.specs.declared.link.Side.TheVariants.{A, B}
use Rattle.afdx_config.specs.Numbers.{after_steps}
use Rattle.afdx_receive.specs.CopiesApart.{SentApart, AreFirstFrames, AreNear, AreQuick, AreSpaced, sent_on}
use Rattle.afdx_receive.specs.Delivery.{CarriesSent}
use Rattle.afdx_config.specs.SentList.{Message}
use Rattle.afdx_receive.specs.Integrity.{Incoming}
use Rattle.afdx_receive.specs.Delivery.{delivered}
use Rattle.afdx_receive.specs.Steps.{is_within_steps}
use Rattle.afdx_lawful.specs.Nearness.{NearnessIsNeeded, both_came, came_at, first_came, hello, sent_at, stream}
use Rattle.afdx_lawful.specs.Worked.{a0, a1, b0, b1}

same_some : {X : Type 0} {x y : X} → Some x ≡ Some y → x ≡ y
same_some h = cc

no_some : {X : Type 0} {x : X} → None ≡ Some x → ⊥
no_some h = cc

-- the times at a place of the stream
record IsAt (later k : ℕ) (y : SentApart) : Type 0 where
  on_a : y.on_a ≡ 1000000 * k
  on_b : y.on_b ≡ 1000000 * k + later
  least : y.least ≡ 5760

at : (later k : ℕ) (y : SentApart) → slice_get (stream later) k ≡ Some y → IsAt later k y
at later zero y h =
    let e : sent_at 0 later ≡ y = same_some h in
    record {
      on_a = sym (ap (λ (z : SentApart). z.on_a) e);
      on_b = sym (ap (λ (z : SentApart). z.on_b) e);
      least = sym (ap (λ (z : SentApart). z.least) e);
    }
at later (suc zero) y h =
    let e : sent_at 1000000 later ≡ y = same_some h in
    record {
      on_a = sym (ap (λ (z : SentApart). z.on_a) e);
      on_b = sym (ap (λ (z : SentApart). z.on_b) e);
      least = sym (ap (λ (z : SentApart). z.least) e);
    }
at later (suc (suc k)) y h = absurd (no_some h)

spaced : (later : ℕ) → AreSpaced 1000000 500000 (stream later)
spaced later = record { spaced = by }
  where
    by : (side : Side) (j d : ℕ) (y z : SentApart) → slice_get (stream later) j ≡ Some y →
        slice_get (stream later) (j + d) ≡ Some z →
        sent_on side y + 1000000 * d ≤ sent_on side z + 500000
    by A j d y z here there =
        omega (arith, (at later j y here).on_a, (at later (j + d) z there).on_a)
    by B j d y z here there =
        omega (arith, (at later j y here).on_b, (at later (j + d) z there).on_b)

quick : (later : ℕ) → AreQuick 24000000 (stream later)
quick later k y h = omega (arith, (at later k y h).least)

near : AreNear 17000 1000000 (stream 988760)
near k y h =
    let is = at 988760 k y h in
    record { b_soon = omega (arith, is.on_a, is.on_b, is.least); a_soon = omega (arith, is.on_a, is.on_b, is.least) }

-- a frame that carries the message
carries : (messages : List Message) (place : ℕ) (frame : Incoming) → slice_get messages place ≡ Some hello →
    carried_by frame.bytes ≡ Ok (record { from_port = 1000; to_port = 1000; payload = hello.payload }) →
    CarriesSent messages place frame
carries messages place frame at is = record { message = hello; at_place = at; from_port = 1000; carried = is }

first-sides : (side : Side) → AreFirstFrames 17000 (hello ∷ []) (sent_at 0 988761 ∷ [])
    (filter (λ f. is_side f.side side) (first_came 988761))
unfolding carried_by carried_in_body words ones_sum frame_of shift number is_sealed sequence_of after_steps
first-sides A = (
  record {
    sending = sent_at 0 988761;
    at_place = refl;
    number = refl;
    carries = carries (hello ∷ []) 0 (came_at 5760 A 0 a0) refl refl;
    no_sooner = omega arith;
    in_time = omega arith;
  },
  tt,
)
first-sides B = (
  record {
    sending = sent_at 0 988761;
    at_place = refl;
    number = refl;
    carries = carries (hello ∷ []) 0 (came_at (988761 + 17000) B 0 b0) refl refl;
    no_sooner = omega arith;
    in_time = omega arith;
  },
  tt,
)

both-sides : (side : Side) → AreFirstFrames 17000 (hello ∷ hello ∷ []) (stream 988760)
    (filter (λ f. is_side f.side side) (both_came 988760))
unfolding carried_by carried_in_body words ones_sum frame_of shift number is_sealed sequence_of after_steps
both-sides A = (
  record {
    sending = sent_at 1000000 988760;
    at_place = refl;
    number = refl;
    carries = carries (hello ∷ hello ∷ []) 1 (came_at 1005760 A 1 a1) refl refl;
    no_sooner = omega arith;
    in_time = omega arith;
  },
  (
    record {
      sending = sent_at 0 988760;
      at_place = refl;
      number = refl;
      carries = carries (hello ∷ hello ∷ []) 0 (came_at 5760 A 0 a0) refl refl;
      no_sooner = omega arith;
      in_time = omega arith;
    },
    tt,
  ),
)
both-sides B = (
  record {
    sending = sent_at 1000000 988760;
    at_place = refl;
    number = refl;
    carries = carries (hello ∷ hello ∷ []) 1 (came_at (1000000 + 988760 + 17000) B 1 b1) refl refl;
    no_sooner = omega arith;
    in_time = omega arith;
  },
  (
    record {
      sending = sent_at 0 988760;
      at_place = refl;
      number = refl;
      carries = carries (hello ∷ hello ∷ []) 0 (came_at (988760 + 17000) B 0 b0) refl refl;
      no_sooner = omega arith;
      in_time = omega arith;
    },
    tt,
  ),
)

-- one frame alone is spaced, and quick
alone-at : (later k : ℕ) (y : SentApart) → slice_get (sent_at 0 later ∷ []) k ≡ Some y →
    (k ≡ 0) × (y ≡ sent_at 0 later)
alone-at later zero y h = (refl, sym (same_some h))
alone-at later (suc k) y h = absurd (no_some h)

alone-spaced : (later : ℕ) → AreSpaced 1000000 500000 (sent_at 0 later ∷ [])
alone-spaced later = record {
  spaced = λ side j d y z here there.
      let first = alone-at later j y here in
      let second = alone-at later (j + d) z there in
      let same : y ≡ z = first.1 ∙ sym second.1 in
      omega (arith, ap (sent_on side) same, first.0, second.0);
}

alone-quick : (later : ℕ) → AreQuick 24000000 (sent_at 0 later ∷ [])
alone-quick later k y h = omega (arith, ap (λ (z : SentApart). z.least) (alone-at later k y h).1)

pub nearness_needed : NearnessIsNeeded
unfolding carried_by carried_in_body words ones_sum frame_of shift number is_sealed sequence_of after_steps
    is_within_steps delivered
nearness_needed = record {
  met = record {
    spaced = spaced 988760;
    quick = quick 988760;
    sides = both-sides;
    by_time = (omega arith, (omega arith, (omega arith, (tt, tt))));
  };
  near = near;
  once = refl;
  further = record {
    spaced = alone-spaced 988761;
    quick = alone-quick 988761;
    sides = first-sides;
    by_time = (omega arith, (tt, tt));
  };
  twice = refl;
}
