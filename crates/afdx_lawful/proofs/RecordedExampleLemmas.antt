-- The example of a lawful stream as it was recorded meets what is asked, and computes.
use Rattle.std.proofs.Common.{◌≡◌, ℕ, zero, suc, ◌+◌, ◌*◌, ◌<◌, ◌≤◌, List, [], ◌∷◌, refl, sym, ap, ◌∙◌, subst, arith, length}
use Rattle.std.proofs.Common.{Some, None}
use Rattle.std.specs.Prelude.{◌^◌, slice_get}
use Rattle.std.proofs.lemmas.Option.{slice_get_within}
use Rattle.afdx_frame.specs.Carried.{carried_by, carried_in_body}
use Rattle.afdx_frame.specs.Datagrams.{words, ones_sum}
use Rattle.afdx_frame.specs.Grammar.{Read, built_frame}
use Rattle.afdx_frame.specs.Parts.{frame_of}
use Rattle.afdx_frame.specs.Register.{shift, number}
use Rattle.afdx_frame.specs.Sealing.{AreBytes, is_sealed, sequence_of}
use Rattle.afdx_frame.specs.declared.link.Side.{Side}
use Rattle.afdx_frame.specs.declared.link.Side.TheVariants.{A, B}
use Rattle.afdx_frame.proofs.BuiltLemmas.{built_is_computed}
use Rattle.afdx_frame.proofs.FrameLemmas.{built_is_read}
use Rattle.afdx_config.specs.Numbers.{after_steps}
use Rattle.afdx_config.specs.SentList as sent
use Rattle.afdx_receive.specs.Steps.{is_within_steps}
use Rattle.afdx_lawful.specs.Alone.{found_alone, number_in, times_with_room}
use Rattle.afdx_lawful.specs.Flaws.{address_in, flaw_of, is_copy, is_whole}
use Rattle.afdx_lawful.specs.Judged.{found_coming, found_of, judged_source, quiet}
use Rattle.afdx_lawful.specs.Nearness.{hello}
use Rattle.afdx_lawful.specs.Partners.{is_cut, may_pair, waiting, without_first}
use Rattle.afdx_lawful.specs.Recorded.{IsRecordedOn}
use Rattle.afdx_lawful.specs.RecordedExample.{LawfulIsMet, exact_source, link, seen_of_stream, sender, stream}
use Rattle.afdx_lawful.specs.RightTwice.{IsInRange}
use Rattle.afdx_lawful.specs.Sources.{apart_by, least_left}
use Rattle.afdx_lawful.specs.TwoNetworks.{AreCopies, IsReadAs, SentTwice, frame_on, time_on}
use Rattle.afdx_lawful.specs.Worked.{a0, a1, b0, b1}
use Rattle.afdx_lawful.proofs.RightExampleLemmas.{a0-built, a1-built, address, are-bytes, b0-built, b1-built, can, left-least}

same_some : {X : Type 0} {x y : X} → Some x ≡ Some y → x ≡ y
same_some h = cc

abbrev sent_as : ℕ → sent.Sent
sent_as n = record { message = hello; number = n }

abbrev first : SentTwice
first = record { on_a = 0; on_b = 988760; a = a0; b = b0 }

abbrev second : SentTwice
second = record { on_a = 1000000; on_b = 1988760; a = a1; b = b1 }

-- ---- times

spaced : (side : Side) (j d : ℕ) (y z : SentTwice) → slice_get stream j ≡ Some y → slice_get stream (j + d) ≡ Some z →
    time_on side y + 1000000 * d ≤ time_on side z + 500000
spaced side zero zero y z at later =
    let same = ap (time_on side) (same_some (sym at ∙ later)) in omega (arith, same)
spaced A zero (suc zero) y z at later =
    let here : 0 ≡ y.on_a = ap (λ (t : SentTwice). t.on_a) (same_some at) in
    let there : 1000000 ≡ z.on_a = ap (λ (t : SentTwice). t.on_a) (same_some later) in
    omega (arith, here, there)
spaced B zero (suc zero) y z at later =
    let here : 988760 ≡ y.on_b = ap (λ (t : SentTwice). t.on_b) (same_some at) in
    let there : 1988760 ≡ z.on_b = ap (λ (t : SentTwice). t.on_b) (same_some later) in
    omega (arith, here, there)
spaced side zero (suc (suc d)) y z at later =
    absurd (let less = slice_get_within stream (0 + suc (suc d)) z later in omega (arith, less))
spaced side (suc zero) zero y z at later =
    let same = ap (time_on side) (same_some (sym at ∙ later)) in omega (arith, same)
spaced side (suc zero) (suc d) y z at later =
    absurd (let less = slice_get_within stream (1 + suc d) z later in omega (arith, less))
spaced side (suc (suc j)) d y z at later =
    absurd (let less = slice_get_within stream (suc (suc j)) y at in omega (arith, less))

-- ---- what frames carry

read-as : (side : Side) (n : ℕ) (frame : List ℕ) → n < 2 ^ 8 → frame ≡ built_frame address n side hello.payload →
    length frame ≡ 64 → IsReadAs sender link side (sent_as n) frame
read-as side n frame small is long =
    let the = built_is_computed address n side hello.payload can are-bytes small in
    record {
      from_port = 1000;
      bytes = subst AreBytes (sym is) the.bytes;
      reads = subst (λ (b : List ℕ). Read b 1 1000 1000 hello.payload n) (sym is)
          (built_is_read address n side hello.payload _ can the.built);
      address = ap address_in is;
      fits = (omega (arith, long), omega (arith, long));
    }

read-first : (side : Side) → IsReadAs sender link side (sent_as 0) (frame_on side first)
read-first A = read-as A 0 a0 (omega arith) a0-built refl
read-first B = read-as B 0 b0 (omega arith) b0-built refl

read-second : (side : Side) → IsReadAs sender link side (sent_as 1) (frame_on side second)
read-second A = read-as A 1 a1 (omega arith) a1-built refl
read-second B = read-as B 1 b1 (omega arith) b1-built refl

reads : (side : Side) (k : ℕ) (x : sent.Sent) (y : SentTwice) → sent.sent_at (hello ∷ hello ∷ []) k ≡ Some x →
    slice_get stream k ≡ Some y → IsReadAs sender link side x (frame_on side y)
unfolding after_steps
reads side zero x y is at =
    let here : sent_as 0 ≡ x = same_some is in
    let there : first ≡ y = same_some at in
    subst (λ (z : SentTwice). IsReadAs sender link side x (frame_on side z)) there
    (subst (λ (o : sent.Sent). IsReadAs sender link side o (frame_on side first)) here (read-first side))
reads side (suc zero) x y is at =
    let here : sent_as 1 ≡ x = same_some is in
    let there : second ≡ y = same_some at in
    subst (λ (z : SentTwice). IsReadAs sender link side x (frame_on side z)) there
    (subst (λ (o : sent.Sent). IsReadAs sender link side o (frame_on side second)) here (read-second side))
reads side (suc (suc k)) x y is at = absurd (cc at)

-- ---- copies

first-copies : AreCopies (apart_by exact_source None (length a0)) first
unfolding least_left
first-copies = record { same = refl; a_soon = omega arith; b_soon = omega arith }

second-copies : AreCopies (apart_by exact_source None (length a1)) second
unfolding least_left
second-copies = record { same = refl; a_soon = omega arith; b_soon = omega arith }

copies : (k : ℕ) (y : SentTwice) → slice_get stream k ≡ Some y →
    AreCopies (apart_by exact_source None (length y.a)) y
copies zero y at =
    subst (λ (z : SentTwice). AreCopies (apart_by exact_source None (length z.a)) z) (same_some at) first-copies
copies (suc zero) y at =
    subst (λ (z : SentTwice). AreCopies (apart_by exact_source None (length z.a)) z) (same_some at) second-copies
copies (suc (suc k)) y at = absurd (cc at)

-- ---- which were recorded

behind-b : (k : ℕ) (y : SentTwice) → 1 ≤ k → slice_get stream k ≡ Some y → 1200000 < y.on_b
behind-b zero y late at = absurd (omega (arith, late))
behind-b (suc zero) y late at =
    let there : 1988760 ≡ y.on_b = ap (λ (t : SentTwice). t.on_b) (same_some at) in omega (arith, there)
behind-b (suc (suc k)) y late at = absurd (cc at)

behind-a : (k : ℕ) (y : SentTwice) → 2 ≤ k → slice_get stream k ≡ Some y → 1200000 < y.on_a
behind-a zero y late at = absurd (omega (arith, late))
behind-a (suc zero) y late at = absurd (omega (arith, late))
behind-a (suc (suc k)) y late at = absurd (cc at)

recorded : (side : Side) → IsRecordedOn exact_source stream seen_of_stream side
recorded A = record {
  first = 0;
  within = omega arith;
  seen = (
    record { sent = second; there = refl; seen = record { on = refl; time = refl; bytes = refl } },
    (record { sent = first; there = refl; seen = record { on = refl; time = refl; bytes = refl } }, tt),
  );
  before = λ k y less at. absurd (omega (arith, less));
  behind = λ k y late at. behind-a k y (omega (arith, late)) at;
}
recorded B = record {
  first = 0;
  within = omega arith;
  seen =
      (record { sent = first; there = refl; seen = record { on = refl; time = refl; bytes = refl } }, tt);
  before = λ k y less at. absurd (omega (arith, less));
  behind = λ k y late at. behind-b k y (omega (arith, late)) at;
}

in-range : IsInRange exact_source
unfolding least_left
in-range = record {
  rule = record {
    port_first = omega arith;
    port_last = omega arith;
    bag = refl;
    shortest = omega arith;
    ordered = omega arith;
    longest = omega arith;
    jitter = omega arith;
  };
  leeway = record {
    slack = omega arith;
    between = omega arith;
    drift = omega arith;
    inner = omega arith;
    asked = omega arith;
    start = λ x e. absurd (cc e);
  };
  apart = left-least;
}

judged : judged_source exact_source seen_of_stream
    ≡ record { coming = []; on_a = []; on_b = []; sent = 3; cut = 1 }
unfolding carried_by carried_in_body words ones_sum frame_of shift number is_sealed sequence_of after_steps
    is_within_steps number_in times_with_room found_alone flaw_of is_whole is_copy found_of found_coming quiet
    judged_source without_first may_pair waiting is_cut least_left
judged = refl

pub lawful_met : LawfulIsMet
lawful_met = record {
  range = in-range;
  of = record { link = refl; bag = refl; jitter = refl; least = refl; most = refl; system = refl };
  lawful = record { count = refl; spaced = spaced; read = reads; copies = copies };
  by_time = (omega arith, (omega arith, (omega arith, tt)));
  recorded = recorded;
  judged = judged;
}
