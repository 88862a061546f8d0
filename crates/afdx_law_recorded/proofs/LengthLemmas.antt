-- The example of copies of two lengths computes.
use Rattle.std.proofs.Common.{◌≡◌, ℕ, zero, suc, ◌+◌, ◌*◌, ◌-◌, ◌<◌, ◌≤◌, [], ◌∷◌, refl, sym, ap, ◌∙◌, subst, arith}
use Rattle.std.proofs.Common.{None, length, replicate}
use Rattle.afdx_frame.specs.Carried.{carried_by, carried_in_body}
use Rattle.afdx_frame.specs.Datagrams.{words, ones_sum}
use Rattle.afdx_frame.specs.Grammar.{Buildable}
use Rattle.afdx_frame.specs.Parts.{frame_of}
use Rattle.afdx_frame.specs.Register.{shift, number}
use Rattle.afdx_frame.specs.Sealing.{AreBytes, is_sealed, sequence_of}
use Rattle.afdx_frame.specs.declared.link.Side.{Side}
use Rattle.afdx_frame.specs.declared.link.Side.TheVariants.{A, B}
use Rattle.afdx_frame.proofs.BuiltLemmas.{built_is_computed}
use Rattle.afdx_frame.proofs.ListLemmas.{slice_get-within}
use Rattle.afdx_config.specs.Numbers.{after_steps}
use Rattle.afdx_police.specs.Arrival.{names}
use Rattle.afdx_receive.specs.Steps.{is_within_steps}
use Rattle.afdx_lawful.specs.Alone.{found_alone, number_in, times_with_room}
use Rattle.afdx_lawful.specs.Flaws.{flaw_of, is_copy, is_whole}
use Rattle.afdx_lawful.specs.Judged.{found_coming, found_of, found_single}
use Rattle.afdx_lawful.specs.Partners.{is_cut, may_pair, waiting, without_first}
use Rattle.afdx_lawful.specs.Recorded.{IsSeenAt}
use Rattle.afdx_lawful.specs.RecordedExample.{sender}
use Rattle.afdx_lawful.specs.RightTwice.{IsInRange}
use Rattle.afdx_lawful.specs.Sources.{Came, apart_by, least_left}
use Rattle.afdx_lawful.specs.Worked.{a1, on_a}
use Rattle.afdx_lawful.proofs.RightExampleLemmas.{a1-built, address, are-bytes, can}
use Rattle.afdx_law_recorded.specs.Exactly.{IsOfLawful, IsSeenExactly}
use Rattle.afdx_law_recorded.specs.Lengths.{LengthsMatter, both_ahead, wide_address, wide_frame, wide_link, wide_source}

left-least : (n : ℕ) → 2400000 - (2400000 - (n + 8) * 19200) ≤ 100000000
left-least n = omega arith

in-range : IsInRange wide_source
unfolding least_left
in-range = record {
  rule = record {
    port_first = omega arith;
    port_last = omega arith;
    bag = refl;
    shortest = omega arith;
    ordered = omega arith;
    longest = omega arith;
    jitter = omega arith;
  };
  leeway = record {
    slack = omega arith;
    between = omega arith;
    drift = omega arith;
    inner = omega arith;
    asked = omega arith;
    start = λ x e. absurd (cc e);
  };
  apart = left-least;
}

-- ---- the frames

sevens : (n : ℕ) → AreBytes (replicate n 7)
sevens zero i = omega arith
sevens (suc n) zero = omega arith
sevens (suc n) (suc i) = sevens n i

can-wide : Buildable wide_address (replicate 70 7)
can-wide = record {
  least = omega arith;
  most = omega arith;
  some = omega arith;
  fits = omega arith;
  vl = omega arith;
  from_port = omega arith;
  to_port = omega arith;
  system_id = omega arith;
  partition = omega arith;
}

wide-bytes : AreBytes wide_frame
wide-bytes = (built_is_computed wide_address 0 A (replicate 70 7) can-wide (sevens 70) (omega arith)).bytes

next-bytes : AreBytes a1
next-bytes =
    subst AreBytes (sym a1-built)
    (built_is_computed address 1 A (104 ∷ 101 ∷ 108 ∷ 108 ∷ 111 ∷ []) can are-bytes (omega arith)).bytes

seen : IsSeenExactly wide_source both_ahead
unfolding names
seen = record {
  paired = refl;
  start = refl;
  slack = refl;
  drift = refl;
  bytes = (next-bytes, (wide-bytes, tt));
  named = (refl, (refl, tt));
  by_time = (omega arith, (omega arith, tt));
}

none-coming : found_coming wide_source both_ahead ≡ []
unfolding carried_by carried_in_body words ones_sum frame_of shift number is_sealed sequence_of after_steps
    is_within_steps number_in times_with_room found_alone flaw_of is_whole is_copy found_of found_coming
    without_first may_pair waiting is_cut least_left
none-coming = refl

none-single : (side : Side) → found_single wide_source side both_ahead ≡ []
unfolding carried_by carried_in_body words ones_sum frame_of shift number is_sealed sequence_of after_steps
    is_within_steps number_in times_with_room found_alone flaw_of is_whole is_copy
    without_first may_pair waiting is_cut least_left
none-single A = refl
none-single B = refl

-- ---- no stream shows them

left-short : apart_by wide_source None 64 ≡ 1382400
unfolding least_left
left-short = refl

-- nothing was sent before
from-first : (first : ℕ) → ((k : ℕ) → k < first → ⊥) → first ≡ 0
from-first zero h = refl
from-first (suc n) h = absurd (h 0 (omega arith))

-- over numbers: the one copy can't be sent a gap behind the other, and soon enough
no-room : (t first second : ℕ) → 2382399 < first → first + 1000000 ≤ second → second ≤ t + 1382400 → t ≡ 1000000 → ⊥
no-room t first second late gap soon is = omega (arith, late, gap, soon, is)

module _ (h : IsOfLawful wide_source sender wide_link both_ahead) where
  none-before : (side : Side) → (h.recorded side).first ≡ 0
  none-before side = from-first (h.recorded side).first (λ k less. by k less)
    where
      -- a message that was sent before stands in the stream
      by : (k : ℕ) → k < (h.recorded side).first → ⊥
      by k less =
          let most = (h.recorded side).within in
          let z = slice_get-within h.stream k (omega (arith, less, most)) in
          (h.recorded side).before k z.0 less z.1

  -- the frames that were recorded on A are the first two of the stream
  at-a : (k : ℕ) → (x : Came) → IsSeenAt A h.stream ((h.recorded A).first + k) x → IsSeenAt A h.stream k x
  at-a k x seen =
      let none = none-before A in
      let same : (h.recorded A).first + k ≡ k = omega (arith, none) in
      subst (λ (n : ℕ). IsSeenAt A h.stream n x) same seen

  first-seen : IsSeenAt A h.stream 0 (on_a 1 0 wide_frame)
  first-seen = at-a 0 (on_a 1 0 wide_frame) (h.recorded A).seen.1.0

  second-seen : IsSeenAt A h.stream 1 (on_a 2 1000000 a1)
  second-seen = at-a 1 (on_a 2 1000000 a1) (h.recorded A).seen.0

  pub none-shows : ⊥
  none-shows =
      let none = none-before B in
      let first = first-seen in
      let second = second-seen in
      let late = (h.recorded B).behind 0 first.sent (omega (arith, none)) first.there in
      let gap = h.lawful.spaced B 0 1 first.sent second.sent first.there second.there in
      let copies = h.lawful.copies 1 second.sent second.there in
      let bytes : length second.sent.a ≡ 64 = ap length (sym second.seen.bytes) in
      let most : apart_by wide_source None (length second.sent.a) ≡ 1382400 =
      ap (apart_by wide_source None) bytes ∙ left-short in
      no-room second.sent.on_a first.sent.on_b second.sent.on_b late (omega (arith, gap))
      (omega (arith, copies.b_soon, most)) (sym second.seen.time)

pub lengths_matter : LengthsMatter
lengths_matter = record {
  range = in-range;
  of = record { link = refl; bag = refl; jitter = refl; least = refl; most = refl; system = refl };
  seen = seen;
  found = record { coming = none-coming; single = none-single };
  none = none-shows;
}
