-- The sums of a port with one flow more.
use Rattle.std.proofs.Common.{◌≡◌, ℕ, ◌+◌, ◌*◌, ◌≤◌, Bool, true, false, max, List, [], ◌∷◌, ◌++◌}
use Rattle.std.proofs.Common.{if◌then◌else◌, refl, sym, ap, ◌∙◌, arith, add-zero}
use Rattle.std.specs.List.{sum_by}
use Rattle.std.proofs.lemmas.List.{append-nil}
use Rattle.std.proofs.lemmas.List.Sums.{sum_by_push}
use Rattle.std.proofs.Math.Nat.{add-mul}
use Rattle.afdx_frame.specs.declared.link.Priority.{Priority}
use Rattle.afdx_frame.specs.declared.link.Priority.TheVariants.{High, Low}
use Rattle.afdx_frame.specs.Regulation.{cap, fill_rate}
use Rattle.afdx_frame.specs.Flows.{Flow, is_class, of_class, burst, load, longest}
use Rattle.afdx_admit.specs.declared.sums.Sums.{Sums}
use Rattle.afdx_admit.specs.Lines.{LoadedOutput}
use Rattle.afdx_admit.specs.Sums.{IsSums, IsSmall, Adds}

of_class-cons : (class : Priority) (g : Flow) (fs : List Flow) (new : List Flow) (all : List Flow)
    → all ≡ of_class class fs ++ new → (b : Bool) →
    (if b then g ∷ all else all) ≡ (if b then g ∷ of_class class fs else of_class class fs) ++ new
of_class-cons class g fs new all h true = ap (λ t. g ∷ t) h
of_class-cons class g fs new all h false = h

of_class-push : (class : Priority) (fs : List Flow) (f : Flow) →
    of_class class (fs ++ f ∷ []) ≡ of_class class fs ++ (if is_class class f.priority then f ∷ [] else [])
of_class-push class [] f = refl
of_class-push class (g ∷ fs) f =
    of_class-cons class g fs (if is_class class f.priority then f ∷ [] else [])
    (of_class class (fs ++ f ∷ [])) (of_class-push class fs f)
    (is_class class g.priority)

sum_by-push_if : (weight : Flow → ℕ) (b : Bool) (fs : List Flow) (f : Flow) →
    sum_by weight (fs ++ (if b then f ∷ [] else [])) ≡ sum_by weight fs + (if b then weight f else 0)
sum_by-push_if weight true fs f = sum_by_push weight fs f
sum_by-push_if weight false fs f = ap (sum_by weight) (append-nil fs) ∙ sym (add-zero (sum_by weight fs))

class_sum-push : (weight : Flow → ℕ) (class : Priority) (fs : List Flow) (f : Flow) →
    sum_by weight (of_class class (fs ++ f ∷ []))
    ≡ sum_by weight (of_class class fs) + (if is_class class f.priority then weight f else 0)
class_sum-push weight class fs f = ap (sum_by weight) (of_class-push class fs f)
    ∙ sum_by-push_if weight (is_class class f.priority) (of_class class fs) f

longest-push : (fs : List Flow) (f : Flow) → longest (fs ++ f ∷ []) ≡ max (longest fs) f.link.smax
longest-push [] f = omega arith
longest-push (g ∷ fs) f = let h = longest-push fs f in omega arith

longest-push_if : (b : Bool) (fs : List Flow) (f : Flow)
    → longest (fs ++ (if b then f ∷ [] else []))
    ≡ (if b then max (longest fs) f.link.smax else longest fs)
longest-push_if true fs f = longest-push fs f
longest-push_if false fs f = ap longest (append-nil fs)

class_longest-push : (class : Priority) (fs : List Flow) (f : Flow) →
    longest (of_class class (fs ++ f ∷ []))
    ≡ (if is_class class f.priority then max (longest (of_class class fs)) f.link.smax else
    longest (of_class class fs))
class_longest-push class fs f = ap longest (of_class-push class fs f)
    ∙ longest-push_if (is_class class f.priority) (of_class class fs) f

-- a port with one flow more
abbrev pub with_flow : LoadedOutput → Flow → LoadedOutput
with_flow o f = record { byte_ns = o.byte_ns; flows = o.flows ++ f ∷ [] }

times_if : (b : Bool) (n k : ℕ) → (if b then n else 0) * k ≡ (if b then n * k else 0)
times_if true n k = refl
times_if false n k = omega arith

pub sums_push : (o : LoadedOutput) (f : Flow) (old new : Sums) → IsSums o old → Adds f old new
    → IsSums (with_flow o f) new
sums_push o f old new s a = record {
  some = s.some;
  line = ap (λ n. n * o.byte_ns) a.line ∙ s.line;
  burst = a.burst ∙ ap (λ n. n + cap f.link) s.burst ∙ sym (sum_by_push (λ g. cap g.link) o.flows f);
  rate = ap (λ n. n * o.byte_ns) a.rate ∙ add-mul old.rate (fill_rate f.link) o.byte_ns
      ∙ ap (λ n. n + fill_rate f.link * o.byte_ns) s.rate
      ∙ sym (sum_by_push (λ g. fill_rate g.link * o.byte_ns) o.flows f);
  high_burst = a.high_burst ∙ ap (λ n. n + (if is_class High f.priority then cap f.link else 0)) s.high_burst ∙ sym
      (class_sum-push (λ g. cap g.link) High o.flows f);
  high_rate = ap (λ n. n * o.byte_ns) a.high_rate
      ∙ add-mul old.high_rate (if is_class High f.priority then fill_rate f.link else 0) o.byte_ns
      ∙ ap (λ n. n + (if is_class High f.priority then fill_rate f.link else 0) * o.byte_ns) s.high_rate
      ∙ ap (λ n. load o.byte_ns (of_class High o.flows) + n)
      (times_if (is_class High f.priority) (fill_rate f.link) o.byte_ns)
      ∙ sym (class_sum-push (λ g. fill_rate g.link * o.byte_ns) High o.flows f);
  longest_low = a.longest_low
      ∙ ap (λ n. if is_class Low f.priority then max n f.link.smax else n) s.longest_low
      ∙ sym (class_longest-push Low o.flows f);
}

at_most_if : (b : Bool) (n : ℕ) → (if b then n else 0) ≤ n
at_most_if true n = omega arith
at_most_if false n = omega arith

longest_if : (b : Bool) (m n k : ℕ) → m ≤ k → n ≤ k → (if b then max m n else m) ≤ k
longest_if true m n k h g = omega arith
longest_if false m n k h g = h

pub small_push : (count : ℕ) (f : Flow) (old new : Sums) → IsSmall count old → Adds f old new
    → cap f.link ≤ 20080128000000 →
    fill_rate f.link ≤ 196864 → f.link.smax ≤ 1538 → IsSmall (count + 1) new
small_push count f old new s a burst rate smax =
    let c = cap f.link in
    let d = fill_rate f.link in
    record {
      some = omega (arith, s.some, a.line);
      line = omega (arith, s.line, a.line);
      burst = omega (arith, s.burst, a.burst, burst);
      rate = omega (arith, s.rate, a.rate, rate);
      high_burst = let few = at_most_if (is_class High f.priority) (cap f.link) in
          omega (arith, s.high_burst, a.high_burst, a.burst, few);
      high_rate = let few = at_most_if (is_class High f.priority) (fill_rate f.link)
          in omega (arith, s.high_rate, a.high_rate, a.rate, few);
      longest_low = let few = longest_if (is_class Low f.priority) old.longest_low f.link.smax 1538
          s.longest_low smax in omega (arith, a.longest_low, few);
    }
