-- A link's frames along its way.
use Rattle.std.proofs.Common.{◌≡◌, ℕ, ◌+◌, Bool, true, false, List, [], ◌∷◌, map, refl, sym, ap, ◌∙◌, subst, arith}
use Rattle.std.specs.Prelude.{is_none, if◌then◌else◌}
use Rattle.afdx_frame.specs.declared.link.Side.{Side}
use Rattle.afdx_police.specs.Arrival.{Arrival, own}
use Rattle.afdx_police.specs.Rule.{Rule}
use Rattle.afdx_police.specs.Verdicts.{accepted_arrivals, charged_by, drop_reason, accepted_own, reason_after}
use Rattle.afdx_switch.specs.Hops.{IsCopy, AreCopies, AreFirstCopies}
use Rattle.afdx_switch.proofs.HopLemmas.{first-from}
use Rattle.afdx_cascade.specs.Cables.{Hop, IsHop, GoesOn, rule_at, accepted_at, latency_at, all_turns, brought_by, named}
use Rattle.afdx_cascade.specs.Ways.{IsWay, first_of, latency_of, untagged, bytes_of}
use Rattle.afdx_cascade.specs.Ways.{FirstAreAccepted, FirstLeave, AllAreAccepted, AllLeave, FramesAreAlone}
use Rattle.afdx_cascade.proofs.CableLemmas.{first-leave, all-leave, again, brought-there}

-- ---- copies of copies

copy-on : (d e : ℕ) (x y z : Arrival) → IsCopy d x y → IsCopy e y z → IsCopy (d + e) x z
copy-on d e x y z one two = record {
  tag = two.tag ∙ one.tag;
  bytes = two.bytes ∙ one.bytes;
  after = (let a = one.after in let b = two.after in omega (arith, a, b));
  within = (let a = one.within in let b = two.within in omega (arith, a, b));
}

copies-on : (d e : ℕ) (xs ys zs : List Arrival) → AreCopies d xs ys → AreCopies e ys zs → AreCopies (d + e) xs zs
copies-on d e [] [] [] one two = tt
copies-on d e [] [] (z ∷ zs) one two = absurd two
copies-on d e [] (y ∷ ys) zs one two = absurd one
copies-on d e (x ∷ xs) [] zs one two = absurd one
copies-on d e (x ∷ xs) (y ∷ ys) [] one two = absurd two
copies-on d e (x ∷ xs) (y ∷ ys) (z ∷ zs) one two =
    (copy-on d e x y z one.0 two.0, copies-on d e xs ys zs one.1 two.1)

first-on : (d e : ℕ) (xs ys zs : List Arrival) → AreFirstCopies d xs ys → AreFirstCopies e ys zs
    → AreFirstCopies (d + e) xs zs
first-on d e xs ys zs one two =
    let part = first-from d xs two.waiting two.gone (subst (AreFirstCopies d xs) two.all one) in
    record {
      waiting = part.waiting;
      gone = part.gone;
      all = part.all;
      copies = copies-on d e part.gone two.gone zs part.copies two.copies;
    }

same-copies : (xs : List Arrival) → AreCopies 0 xs xs
same-copies [] = tt
same-copies (x ∷ xs) = (
  record { tag = refl; bytes = refl; after = omega arith; within = omega arith },
  same-copies xs,
)

-- ---- ways

way-hop : (side : Side) (k : Hop) (before : List Hop) → IsWay side k before → IsHop k
way-hop side k [] way = way
way-hop side k (j ∷ before) way = way.0

pub first-accepted : FirstAreAccepted
first-accepted side k [] way =
    record { waiting = []; gone = accepted_at k side; all = refl; copies = same-copies (accepted_at k side) }
first-accepted side k (j ∷ before) way =
    first-on (latency_of before) (latency_at j) (accepted_at (first_of j before) side) (accepted_at j side)
    (accepted_at k side) (first-accepted side j before way.2)
    (again side j k (way-hop side j before way.2) way.0 way.1).copies

pub way-leave : FirstLeave
way-leave side k before port to turns way gives =
    first-on (latency_of before) (latency_at k) (accepted_at (first_of k before) side) (accepted_at k side)
    (named k.link.vl (brought_by side to turns)) (first-accepted side k before way)
    (first-leave k side port to turns (way-hop side k before way) gives)

-- all that the switch before accepted
all-again : (side : Side) (j k : Hop) → IsHop j → IsHop k → (on : GoesOn side j k)
    → on.turns ≡ all_turns j side on.port → AreCopies (latency_at j) (accepted_at j side) (accepted_at k side)
all-again side j k is_j is_k on whole =
    subst (AreCopies (latency_at j) (accepted_at j side))
    (ap (λ ts. named j.link.vl (brought_by side (rule_at k).port ts)) (sym whole)
    ∙ brought-there side j k on ∙ sym (again side j k is_j is_k on).accepted)
    (all-leave j side on.port (rule_at k).port is_j on.gives.goes)

pub all-accepted : AllAreAccepted
all-accepted side k [] way whole = same-copies (accepted_at k side)
all-accepted side k (j ∷ before) way whole =
    copies-on (latency_of before) (latency_at j) (accepted_at (first_of j before) side) (accepted_at j side)
    (accepted_at k side) (all-accepted side j before way.2 whole.1)
    (all-again side j k (way-hop side j before way.2) way.0 way.1 whole.0)

pub way-leave-all : AllLeave
way-leave-all side k before port to way whole goes =
    copies-on (latency_of before) (latency_at k) (accepted_at (first_of k before) side) (accepted_at k side)
    (named k.link.vl (brought_by side to (all_turns k side port))) (all-accepted side k before way whole)
    (all-leave k side port to (way-hop side k before way) goes)

-- ---- alone

pub same-bytes : (d : ℕ) (xs ys : List Arrival) → AreCopies d xs ys → bytes_of xs ≡ bytes_of ys
same-bytes d [] [] are = refl
same-bytes d [] (y ∷ ys) are = absurd are
same-bytes d (x ∷ xs) [] are = absurd are
same-bytes d (x ∷ xs) (y ∷ ys) are =
    ap (λ b. b ∷ bytes_of xs) (sym are.0.bytes) ∙ ap (λ bs. y.bytes ∷ bs) (same-bytes d xs ys are.1)

-- no verdict depends on a tag
pub own-untagged : (rule : Rule) (xs : List Arrival) → accepted_own rule (map untagged xs) ≡ accepted_own rule xs
unfolding accepted_own
own-untagged rule [] = refl
own-untagged rule (x ∷ past) =
    ap (λ zs. if is_none (drop_reason rule zs x) then charged_by rule x ∷ zs else zs) (own-untagged rule past)

accepted-untagged : (rule : Rule) (xs : List Arrival)
    → accepted_arrivals rule (map untagged xs) ≡ map untagged (accepted_arrivals rule xs)
unfolding accepted_arrivals reason_after
accepted-untagged rule [] = refl
accepted-untagged rule (x ∷ past) =
    ap (λ zs. if is_none (drop_reason rule zs x) then untagged x ∷ accepted_arrivals rule (map untagged past)
    else accepted_arrivals rule (map untagged past)) (own-untagged rule past)
    ∙ ap (λ zs. if is_none (drop_reason rule (accepted_own rule past) x) then untagged x ∷ zs else zs)
    (accepted-untagged rule past)
    ∙ by (is_none (drop_reason rule (accepted_own rule past) x))
  where
    by : (b : Bool)
        → (if b then untagged x ∷ map untagged (accepted_arrivals rule past)
        else map untagged (accepted_arrivals rule past))
        ≡ map untagged (if b then x ∷ accepted_arrivals rule past else accepted_arrivals rule past)
    by true = refl
    by false = refl

bytes-untagged : (xs : List Arrival) → bytes_of (map untagged xs) ≡ bytes_of xs
bytes-untagged [] = refl
bytes-untagged (x ∷ xs) = ap (λ bs. x.bytes ∷ bs) (bytes-untagged xs)

pub untagged-bytes : (rule : Rule) (xs : List Arrival)
    → bytes_of (accepted_arrivals rule (map untagged xs)) ≡ bytes_of (accepted_arrivals rule xs)
untagged-bytes rule xs =
    ap bytes_of (accepted-untagged rule xs) ∙ bytes-untagged (accepted_arrivals rule xs)

-- arrivals that are equal but for their tags are accepted alike
same-accepted : (rule : Rule) (xs ys : List Arrival) → map untagged xs ≡ map untagged ys
    → bytes_of (accepted_arrivals rule xs) ≡ bytes_of (accepted_arrivals rule ys)
same-accepted rule xs ys same =
    sym (untagged-bytes rule xs) ∙ ap (λ zs. bytes_of (accepted_arrivals rule zs)) same ∙ untagged-bytes rule ys

begin-alike : (side : Side) (j i : Hop) → rule_at j ≡ rule_at i
    → map untagged (own j.link.vl side j.arrivals) ≡ map untagged (own i.link.vl side i.arrivals)
    → bytes_of (accepted_at j side) ≡ bytes_of (accepted_at i side)
begin-alike side j i rule arrivals =
    ap (λ r. bytes_of (accepted_arrivals r (own j.link.vl side j.arrivals))) rule
    ∙ same-accepted (rule_at i) (own j.link.vl side j.arrivals) (own i.link.vl side i.arrivals) arrivals

pub frames-alone : FramesAreAlone
frames-alone side k m before others way whole also too rule arrivals =
    let alike = begin-alike side (first_of k before) (first_of m others) rule arrivals in
    record {
      accepted = sym (same-bytes (latency_of before) (accepted_at (first_of k before) side) (accepted_at k side)
          (all-accepted side k before way whole)) ∙ alike
          ∙ same-bytes (latency_of others) (accepted_at (first_of m others) side) (accepted_at m side)
          (all-accepted side m others also too);
      leave = λ port other to goes also_goes.
          sym (same-bytes (latency_of (k ∷ before)) (accepted_at (first_of k before) side)
          (named k.link.vl (brought_by side to (all_turns k side port)))
          (way-leave-all side k before port to way whole goes)) ∙ alike
          ∙ same-bytes (latency_of (m ∷ others)) (accepted_at (first_of m others) side)
          (named m.link.vl (brought_by side to (all_turns m side other)))
          (way-leave-all side m others other to also too also_goes);
    }
