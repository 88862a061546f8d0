-- Which moment comes first.
use Rattle.std.proofs.Common.{◌≡◌, ◌≤◌, ◌∙◌, ◌∷◌, ℕ, List, inr, sym, subst, arith, Option, Some, None, false, IfNone, IfSome}
use Rattle.std.proofs.lemmas.Bool.{le-ltb, ltb-false}
use Rattle.std.proofs.lemmas.Bool.Decides.{nat_tests}
use Rattle.std.proofs.lemmas.List.Elements.{All-from_recursion, All-weaker}
use Rattle.std.proofs.lemmas.List.Sorted.{Contains-permutation}
use Rattle.std.proofs.lemmas.Option.{same_Some}
use Rattle.std.specs.BinaryHeap.{IsHeap, IsUpperBound, PopsGreatest}
use Rattle.std.specs.List.{Contains}
use Rattle.std.specs.List.Sorted.{IsPermutation}
use Rattle.std.specs.Ordering.{is_lt, nat_cmp}
use Rattle.afdx_law_bounds.proofs.ListLemmas.{contains_head, contains_tail}
use Rattle.afdx_senders.specs.Awaited.{AwaitsToo, IsNoneBefore, awaited, by_moment}
use Rattle.afdx_senders.specs.Order.{is_moment_before}
use Rattle.afdx_senders.specs.declared.agenda.DueSource.{DueSource}

no_sooner : (m n : ℕ) → is_lt (nat_cmp n m) ≡ false → m ≤ n
no_sooner m n h = grind (arith, nat_tests)

-- what is no sooner than a moment that isn't before a time isn't before it
not_sooner : (before : Option ℕ) (m n : ℕ) → m ≤ n → is_moment_before before m ≡ false
    → is_moment_before before n ≡ false
not_sooner None m n less h = h
not_sooner (Some time) m n less h = le-ltb n time (omega (arith, less, ltb-false m time h))

pub none_sooner : (before : Option ℕ) (x : DueSource) (xs : List DueSource) → IsUpperBound by_moment x xs →
    is_moment_before before x.moment ≡ false → IsNoneBefore before xs
none_sooner before x xs top h =
    All-weaker (λ y. is_lt (nat_cmp y.moment x.moment) ≡ false) (λ y. is_moment_before before y.moment ≡ false)
    (λ y k. not_sooner before x.moment y.moment (no_sooner x.moment y.moment k) h) xs
    (All-from_recursion (λ y. is_lt (nat_cmp y.moment x.moment) ≡ false) xs top)

-- one is put
pub awaits_pushed : (place m : ℕ) (before after : Option ℕ) (old new : List DueSource) → after ≡ Some m →
    IsPermutation (awaited m place ∷ old) new → AwaitsToo place before after old new
awaits_pushed place m before after old new is moved =
    let x : DueSource = awaited m place in record {
      kept = λ e there. Contains-permutation (x ∷ old) new e moved (contains_tail x old e there);
      due = λ n due.
          let same = same_Some m n (sym is ∙ due) in
          inr (subst (λ (k : ℕ). Contains new (awaited k place)) same
          (Contains-permutation (x ∷ old) new x moved (contains_head x old)));
    }

-- one is taken, or nothing changes
pub heap_popped : (L : Type 0) (xs ys : List DueSource) (taken : Option DueSource) → IsHeap by_moment xs
    → IfSome taken (λ x. PopsGreatest by_moment xs x ys) → IfNone taken ((ys ≡ xs) × L) → IsHeap by_moment ys
heap_popped L xs ys None known heap same = subst (λ (zs : List DueSource). IsHeap by_moment zs) (sym same.0) known
heap_popped L xs ys (Some x) known heap same = (heap known).0
