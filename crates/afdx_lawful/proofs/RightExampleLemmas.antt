-- The example of a right sender meets what is asked, and computes.
use Rattle.std.proofs.Common.{◌≡◌, inl, ℕ, zero, suc, ◌+◌, ◌*◌, ◌-◌, ◌<◌, ◌≤◌, [], ◌∷◌, refl, sym, subst, arith}
use Rattle.std.specs.Prelude.{List}
use Rattle.afdx_frame.specs.Carried.{carried_by, carried_in_body}
use Rattle.afdx_frame.specs.Datagrams.{words, ones_sum}
use Rattle.afdx_frame.specs.Grammar.{Buildable, built_frame}
use Rattle.afdx_frame.specs.Parts.{frame_of}
use Rattle.afdx_frame.specs.Register.{shift, number}
use Rattle.afdx_frame.specs.Sealing.{AreBytes, is_sealed, sequence_of}
use Rattle.afdx_frame.specs.declared.builder.Address.{Address}
use Rattle.afdx_frame.specs.declared.link.Side.{Side}
use Rattle.afdx_frame.specs.declared.link.Side.TheVariants.{A, B}
use Rattle.afdx_config.specs.Numbers.{after_steps}
use Rattle.afdx_receive.specs.Steps.{is_within_steps}
use Rattle.afdx_lawful.specs.Alone.{found_alone, number_in, times_with_room}
use Rattle.afdx_lawful.specs.Flaws.{flaw_of, is_copy, is_whole}
use Rattle.afdx_lawful.specs.Judged.{found_coming, found_of, judged_source, quiet}
use Rattle.afdx_lawful.specs.Partners.{is_cut, may_pair, waiting, without_first}
use Rattle.afdx_lawful.specs.Right.{Follows, IsLawfulFrame, IsSent}
use Rattle.afdx_lawful.specs.RightExample.{RightIsMet, right_source, seen_of_it, sent_twice}
use Rattle.afdx_lawful.specs.RightTwice.{AreSentTwice, IsInRange, IsRightTwice, came_from}
use Rattle.afdx_lawful.specs.Sources.{came_with, least_left, on_side}
use Rattle.afdx_lawful.specs.Worked.{a0, a1, b0, b1}
use Rattle.afdx_lawful.proofs.BuiltLemmas.{built_lawful}

-- ---- the frames

abbrev pub address : Address
address = record {
  vl = record { 0 = 1 };
  system_id = 1;
  partition = 1;
  from_udp = 1000;
  to_udp = 1000;
  least = 64;
}

pub are-bytes : AreBytes (104 ∷ 101 ∷ 108 ∷ 108 ∷ 111 ∷ [])
are-bytes zero = omega arith
are-bytes (suc zero) = omega arith
are-bytes (suc (suc zero)) = omega arith
are-bytes (suc (suc (suc zero))) = omega arith
are-bytes (suc (suc (suc (suc zero)))) = omega arith
are-bytes (suc (suc (suc (suc (suc i))))) = omega arith

pub can : Buildable address (104 ∷ 101 ∷ 108 ∷ 108 ∷ 111 ∷ [])
can = record {
  least = omega arith;
  most = omega arith;
  some = omega arith;
  fits = omega arith;
  vl = omega arith;
  from_port = omega arith;
  to_port = omega arith;
  system_id = omega arith;
  partition = omega arith;
}

lawful : (line time n : ℕ) (side : Side) (bytes : List ℕ) → n < 256 →
    bytes ≡ built_frame address n side (104 ∷ 101 ∷ 108 ∷ 108 ∷ 111 ∷ []) →
    IsLawfulFrame right_source (came_with line time side bytes) n
lawful line time n side bytes small is =
    subst (λ (b : List ℕ). IsLawfulFrame right_source (came_with line time side b) n) (sym is)
    (built_lawful right_source address line time n side (104 ∷ 101 ∷ 108 ∷ 108 ∷ 111 ∷ []) can are-bytes
    (omega (arith, small)) refl refl (omega arith) (omega arith))

pub a0-built : a0 ≡ built_frame address 0 A (104 ∷ 101 ∷ 108 ∷ 108 ∷ 111 ∷ [])
unfolding words ones_sum shift number sequence_of
a0-built = refl

pub a1-built : a1 ≡ built_frame address 1 A (104 ∷ 101 ∷ 108 ∷ 108 ∷ 111 ∷ [])
unfolding words ones_sum shift number sequence_of
a1-built = refl

pub b0-built : b0 ≡ built_frame address 0 B (104 ∷ 101 ∷ 108 ∷ 108 ∷ 111 ∷ [])
unfolding words ones_sum shift number sequence_of
b0-built = refl

pub b1-built : b1 ≡ built_frame address 1 B (104 ∷ 101 ∷ 108 ∷ 108 ∷ 111 ∷ [])
unfolding words ones_sum shift number sequence_of
b1-built = refl

-- ---- how they were sent

sent-at : (side : Side) (k : ℕ) → k < 2 → IsSent right_source k (sent_twice side k)
unfolding after_steps
sent-at A zero less = record {
  frame = lawful 1 1 0 A a0 (omega arith) a0-built;
  released = omega arith;
  soon = omega arith;
  stamped = record { late = omega arith; early = omega arith };
}
sent-at A (suc zero) less = record {
  frame = lawful 3 999999 1 A a1 (omega arith) a1-built;
  released = omega arith;
  soon = omega arith;
  stamped = record { late = omega arith; early = omega arith };
}
sent-at B zero less = record {
  frame = lawful 2 988701 0 B b0 (omega arith) b0-built;
  released = omega arith;
  soon = omega arith;
  stamped = record { late = omega arith; early = omega arith };
}
sent-at B (suc zero) less = record {
  frame = lawful 4 1988000 1 B b1 (omega arith) b1-built;
  released = omega arith;
  soon = omega arith;
  stamped = record { late = omega arith; early = omega arith };
}
sent-at side (suc (suc k)) less = absurd (omega (arith, less))

on-at : (side : Side) (k : ℕ) → k < 2 → (sent_twice side k).came.side ≡ side
on-at A zero less = refl
on-at A (suc k) less = refl
on-at B zero less = refl
on-at B (suc k) less = refl

follow : (side : Side) (k : ℕ) → k + 1 < 2 → Follows right_source (sent_twice side k) (sent_twice side (k + 1))
follow A zero less = record {
  goes_on = record {
    moments = omega arith;
    clocks = omega arith;
    slowest = omega arith;
    fastest = omega arith;
  };
  gap = omega arith;
}
follow B zero less = record {
  goes_on = record {
    moments = omega arith;
    clocks = omega arith;
    slowest = omega arith;
    fastest = omega arith;
  };
  gap = omega arith;
}
follow side (suc k) less = absurd (omega (arith, less))

copies : (k : ℕ) → k < 2 → AreSentTwice right_source (sent_twice A k) (sent_twice B k)
unfolding least_left
copies zero less = record {
  same = refl;
  x_soon = omega arith;
  y_soon = omega arith;
  goes_on = inl (record {
    moments = omega arith;
    clocks = omega arith;
    slowest = omega arith;
    fastest = omega arith;
  });
}
copies (suc zero) less = record {
  same = refl;
  x_soon = omega arith;
  y_soon = omega arith;
  goes_on = inl (record {
    moments = omega arith;
    clocks = omega arith;
    slowest = omega arith;
    fastest = omega arith;
  });
}
copies (suc (suc k)) less = absurd (omega (arith, less))

-- ---- which were recorded

seen : Side → ℕ
seen A = 2
seen B = 1

within : (side : Side) → 0 + seen side ≤ 2
unfolding seen
within A = omega arith
within B = omega arith

recorded : (side : Side) → on_side side seen_of_it ≡ came_from (sent_twice side) 0 (seen side)
unfolding seen
recorded A = refl
recorded B = refl

behind : (side : Side) (k : ℕ) → 0 + seen side ≤ k → k < 2 → 1200000 < (sent_twice side k).came.time
unfolding seen
behind A k least less = absurd (omega (arith, least, less))
behind B zero least less = absurd (omega (arith, least))
behind B (suc k) least less = omega arith

pub left-least : (n : ℕ) → 1000000 - (17000 - (n + 8) * 80) ≤ 100000000
left-least n = omega arith

in-range : IsInRange right_source
unfolding least_left
in-range = record {
  rule = record {
    port_first = omega arith;
    port_last = omega arith;
    bag = refl;
    shortest = omega arith;
    ordered = omega arith;
    longest = omega arith;
    jitter = omega arith;
  };
  leeway = record {
    slack = omega arith;
    between = omega arith;
    drift = omega arith;
    inner = omega arith;
    asked = omega arith;
    start = λ x e. absurd (cc e);
  };
  apart = left-least;
}

right : IsRightTwice right_source seen_of_it
right = record {
  count = 2;
  sent = sent_twice;
  on = on-at;
  lawful = sent-at;
  follow = follow;
  copies = copies;
  first = λ side. 0;
  seen = seen;
  within = within;
  recorded = recorded;
  before = λ side k less. absurd (omega (arith, less));
  behind = behind;
}

judged : judged_source right_source seen_of_it
    ≡ record { coming = []; on_a = []; on_b = []; sent = 3; cut = 1 }
unfolding carried_by carried_in_body words ones_sum frame_of shift number is_sealed sequence_of after_steps
    is_within_steps number_in times_with_room found_alone flaw_of is_whole is_copy found_of found_coming quiet
    judged_source without_first may_pair waiting is_cut least_left
judged = refl

pub right_met : RightIsMet
right_met = record {
  range = in-range;
  by_time = (omega arith, (omega arith, (omega arith, tt)));
  right = right;
  judged = judged;
}
