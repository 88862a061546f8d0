-- How many accepted arrivals wait in what explains a stream.
use Rattle.std.proofs.Common.{◌≡◌, ℕ, ◌≤◌, Bool, true, false, ◌⊎◌, inl, inr, List, [], ◌∷◌, min, reverse, refl, sym, ap, ◌∙◌, subst, arith}
use Rattle.std.proofs.lemmas.Bool.{leb-true, leb-false}
use Rattle.std.specs.Prelude.{nat_le}
use Rattle.std.specs.List.{AllByRecursion}
use Rattle.afdx_police.specs.Arrival.{Arrival}
use Rattle.afdx_conform.specs.Events.{GoUp, arrival_times, events_of, judged_whole}
use Rattle.afdx_conform.specs.Findings.{Judged, sound_events}
use Rattle.afdx_conform.specs.Histories.{least_from, least_waiting}
use Rattle.afdx_conform.specs.Laws.{IsSomeState}
use Rattle.afdx_conform.specs.Open.{AreLeastOpen, OpenIsLeast}
use Rattle.afdx_conform.specs.States.{Event, State, arrivals_came, states_after}
use Rattle.afdx_conform.specs.Streams.{Gone, Terms}
use Rattle.afdx_conform.proofs.AmongLemmas.{Among}
use Rattle.afdx_conform.proofs.EventLemmas.{in-order}
use Rattle.afdx_conform.proofs.FindingLemmas.{IsEither, IsGood, found-none, judged-is}
use Rattle.afdx_conform.proofs.ReachedLemmas.{reached}
use Rattle.afdx_conform.proofs.StateLemmas.{explained-state, explains-so, standing}
use Rattle.afdx_conform.proofs.WholeLemmas.{none-whole, sound-order, sound-whole}

-- ---- the least of some states

min-cases : (a b : ℕ) → (min a b ≡ a) ⊎ (min a b ≡ b)
min-cases a b = by (nat_le a b) refl
  where
    by : (v : Bool) → nat_le a b ≡ v → (min a b ≡ a) ⊎ (min a b ≡ b)
    by true e = inl (let le = leb-true a b e in omega (arith, le))
    by false e = inr (let lt = leb-false a b e in omega (arith, lt))

record IsLeast (first : ℕ) (states : List State) (n : ℕ) : Type 0 where
  pub is : (n ≡ first) ⊎ ((s : State) × Among s states × (s.waiting ≡ n))

least-is : (first : ℕ) (states : List State) → IsLeast first states (least_from first states)
unfolding least_from
least-is first [] = record { is = inl refl }
least-is first (s ∷ more) = by (least-is (min first s.waiting) more).is (min-cases first s.waiting)
  where
    by : (least_from (min first s.waiting) more ≡ min first s.waiting)
        ⊎ ((t : State) × Among t more × (t.waiting ≡ least_from (min first s.waiting) more))
        → (min first s.waiting ≡ first) ⊎ (min first s.waiting ≡ s.waiting)
        → IsLeast first (s ∷ more) (least_from (min first s.waiting) more)
    by (inl e) (inl f) = record { is = inl (e ∙ f) }
    by (inl e) (inr f) = record { is = inr (s, inl refl, sym (e ∙ f)) }
    by (inr t) m = record { is = inr (t.0, inr t.1, t.2) }

low-first : (first : ℕ) (states : List State) → least_from first states ≤ first
unfolding least_from
low-first first [] = omega arith
low-first first (s ∷ more) = let le = low-first (min first s.waiting) more in omega (arith, le)

low-each : (first : ℕ) (states : List State) (s : State) → Among s states → least_from first states ≤ s.waiting
unfolding least_from
low-each first [] s m = absurd m
low-each first (x ∷ more) s (inl e) =
    let le = low-first (min first x.waiting) more in
    let is = ap (λ (t : State). t.waiting) e in omega (arith, le, is)
low-each first (x ∷ more) s (inr m) = low-each (min first x.waiting) more s m

least-one : (states : List State) → IsSomeState states → (s : State) × Among s states
    × (s.waiting ≡ least_waiting states)
least-one [] h = absurd h
least-one (s ∷ more) h = by (least-is s.waiting more).is
  where
    by : (least_from s.waiting more ≡ s.waiting)
        ⊎ ((t : State) × Among t more × (t.waiting ≡ least_from s.waiting more))
        → (t : State) × Among t (s ∷ more) × (t.waiting ≡ least_from s.waiting more)
    by (inl e) = (s, inl refl, sym e)
    by (inr t) = (t.0, inr t.1, t.2)

least-each : (states : List State) (s : State) → Among s states → least_waiting states ≤ s.waiting
least-each [] s m = absurd m
least-each (x ∷ more) s (inl e) =
    let le = low-first x.waiting more in let is = ap (λ (t : State). t.waiting) e in omega (arith, le, is)
least-each (x ∷ more) s (inr m) = low-each x.waiting more s m

each-of : (P : State → Type 0) (s : State) (states : List State) → Among s states → AllByRecursion P states → P s
each-of P s [] m h = absurd m
each-of P s (x ∷ more) (inl e) h = subst P e h.0
each-of P s (x ∷ more) (inr m) h = each-of P s more m h.1

-- ---- of a stream

module _ (z : Terms) (xs : List Arrival) (ys : List Gone) (order : GoUp (arrival_times xs))
    (sure : (judged_whole z xs ys).is_unsure ≡ false) (none : (judged_whole z xs ys).findings ≡ []) where
  abbrev J : Judged
  J = judged_whole z xs ys

  abbrev Events : List Event
  Events = sound_events z (reverse (events_of z xs ys))

  good : IsGood (states_after z ys Events) J
  good = by (judged-is z ys [] (reverse (events_of z xs ys)) sure)
    where
      by : IsEither (states_after z ys Events) J → IsGood (states_after z ys Events) J
      by (inl g) = g
      by (inr b) = absurd (found-none J.findings b.found none)

  least-open : AreLeastOpen z (arrivals_came Events) (reverse ys) (least_waiting J.states)
  least-open =
      let one = least-one J.states good.some in
      let rest = each-of (λ s. s.rest ≡ []) one.0 J.states one.1 (none-whole z xs ys sure) in
      let e = explains-so z ys Events one.0 (reached z ys Events one.0 (good.enough.among one.0 one.1)) rest in
      record {
        some = e.0;
        are_so_many = e.1 ∙ one.2;
        none_has_fewer = λ other.
            let o = good.enough.outdone (standing z other.answers other.waiting [])
            (explained-state z ys Events (sound-order z (reverse (events_of z xs ys)) (in-order z xs ys order)) other)
            in
            let le = least-each J.states o.by o.among in
            let less = o.outdoes.waiting in
            omega (arith, le, less);
      }

pub open_least : OpenIsLeast
open_least z xs ys order sure none =
    subst (λ (l : List Arrival). AreLeastOpen z l (reverse ys) (least_waiting (judged_whole z xs ys).states))
    (sound-whole z xs ys) (least-open z xs ys order sure none)
