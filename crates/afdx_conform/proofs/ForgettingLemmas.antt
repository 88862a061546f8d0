-- Arrivals that fit no frame that is left may be forgotten.
use Rattle.std.proofs.Common.{◌≡◌, ℕ, ◌+◌, Bool, true, false, ◌&&◌, Option, List, [], ◌∷◌, ◌++◌, length, refl, ap, ◌∙◌, arith}
use Rattle.std.proofs.lemmas.List.{append_assoc}
use Rattle.std.specs.Prelude.{if◌then◌else◌, not, nat_lt, Some, None}
use Rattle.std.specs.List.{AllByRecursion, list_any}
use Rattle.afdx_police.specs.Arrival.{Arrival}
use Rattle.afdx_police.specs.Shape.{fault_of}
use Rattle.afdx_police.specs.declared.shape.Reason.{Reason}
use Rattle.afdx_conform.specs.Explanations.{levels_then}
use Rattle.afdx_conform.specs.Findings.{Finding, Judged, Marked, judged_with, marked, found_at, finding_or, damaged_or, damage, passed_or, named_or, is_of_right, first_named, once_named, strangeness, lead, with_rest, has_some, front_rest, unexplained, skipped, closed_by, closed_to, with_states, with_mark, most_states, aged, asked, deviation_of, deviates_by, deviates, answered_by, few_of, came_by, came_to, rate_mark, is_uncertain, one_if, thinned_onto}
use Rattle.afdx_conform.specs.Forgetting.{FitNone, with_gone, ForgettingChangesNothing}
use Rattle.afdx_conform.specs.Leeway.{reach}
use Rattle.afdx_conform.specs.States.{State, led_by, kept, are_behind, states_at}
use Rattle.afdx_conform.specs.Streams.{Gone, Terms, fits}
use Rattle.afdx_conform.specs.declared.finding.Deviation.{Deviation}
use Rattle.afdx_conform.specs.declared.finding.Deviation.TheVariants as deviation
use Rattle.afdx_conform.specs.declared.finding.Finding.TheVariants.{Strange}
use Rattle.afdx_conform.specs.declared.strangeness.Strangeness.TheVariants.{OutOfTurn, NoArrival}

module _ (z : Terms) where
  abbrev NoneFits : Gone → List Marked → Type 0
  NoneFits y gone = AllByRecursion (λ m. fits z m.arrival y ≡ false) gone

  same-named : (y : Gone) (gone l : List Marked) → NoneFits y gone → first_named z y (gone ++ l) ≡ first_named z y l
  unfolding first_named
  same-named y [] l h = refl
  same-named y (m ∷ gone) l h =
      ap (λ (b : Bool). passed_or (if b && not m.is_named then m.mark else None) m.arrival.tag
      (first_named z y (gone ++ l))) h.0
      ∙ same-named y gone l h.1

  same-once : (y : Gone) (gone l : List Marked) → NoneFits y gone
      → once_named z y (gone ++ l) ≡ gone ++ once_named z y l
  unfolding once_named
  same-once y [] l h = refl
  same-once y (m ∷ gone) l h =
      ap (λ (b : Bool). named_or (if b && not m.is_named then m.mark else None) m (gone ++ l)
      (once_named z y (gone ++ l))) h.0
      ∙ ap (λ (k : List Marked). m ∷ k) (same-once y gone l h.1)

  same-right : (y : Gone) (gone l : List Marked) → NoneFits y gone
      → list_any (λ m. is_of_right z y m) (gone ++ l) ≡ list_any (λ m. is_of_right z y m) l
  same-right y [] l h = refl
  same-right y (m ∷ gone) l h = rw (h.0) (same-right y gone l h.1)

  same-strange : (y : Gone) (gone l : List Marked) → NoneFits y gone → strangeness z (gone ++ l) y ≡ strangeness z l y
  unfolding strangeness
  same-strange y gone l h =
      ap (λ (b : Bool). damaged_or (damage y.bytes) (if b then OutOfTurn else NoArrival)) (same-right y gone l h)

  module _ (gone : List Marked) (u : ℕ) where
    abbrev G : Judged → Judged
    G j = with_gone gone u j

    same-unexplained : (time : ℕ) (y : Gone) (j : Judged) → NoneFits y gone
        → unexplained z time y (G j) ≡ G (unexplained z time y j)
    unfolding unexplained
    same-unexplained time y j h =
        ap (λ (l : List Marked). judged_with j.states l
        (found_at time (finding_or (first_named z y (gone ++ j.arrivals))
        (Strange y.number (strangeness z (gone ++ j.arrivals) y)))
        ∷ j.findings) (j.frames + 1) (u + j.uncertain) j.is_unsure) (same-once y gone j.arrivals h)
        ∙ ap (λ (o : Option Finding). judged_with j.states (gone ++ once_named z y j.arrivals)
        (found_at time (finding_or o (Strange y.number (strangeness z (gone ++ j.arrivals) y))) ∷ j.findings)
        (j.frames + 1) (u + j.uncertain) j.is_unsure) (same-named y gone j.arrivals h)
        ∙ ap (λ s. judged_with j.states (gone ++ once_named z y j.arrivals)
        (found_at time (finding_or (first_named z y j.arrivals) (Strange y.number s)) ∷ j.findings)
        (j.frames + 1) (u + j.uncertain) j.is_unsure) (same-strange y gone j.arrivals h)

    same-skipped : (time : ℕ) (front : List State) (rest : List Gone) (j : Judged) → FitNone z rest gone
        → skipped z time front rest (G j) ≡ G (skipped z time front rest j)
    unfolding skipped
    same-skipped time front [] j h = refl
    same-skipped time front (y ∷ rest) j h =
        ap (λ (k : Judged). if are_behind time rest then with_states (with_rest rest front) k
        else skipped z time front rest k)
        (same-unexplained (time + reach z.by) y j h.0)
        ∙ by (are_behind time rest) (same-skipped time front rest (unexplained z (time + reach z.by) y j) h.1)
      where
        next : Judged
        next = unexplained z (time + reach z.by) y j

        by : (b : Bool) → skipped z time front rest (G next) ≡ G (skipped z time front rest next)
            → (if b then with_states (with_rest rest front) (G next) else skipped z time front rest (G next))
            ≡ G (if b then with_states (with_rest rest front) next else skipped z time front rest next)
        by true e = refl
        by false e = e

    closing : (time : ℕ) (j : Judged) → FitNone z (front_rest j.states) gone
        → closed_to z time (G j) ≡ G (closed_to z time j)
    unfolding closed_to
    closing time j h = by j.is_unsure (kept (λ s. are_behind time s.rest) j.states)
      where
        by : (b : Bool) (l : List State)
            → (if b then G j else closed_by z time l (G j)) ≡ G (if b then j else closed_by z time l j)
        by true l = refl
        by false [] = same-skipped time (lead j.states) (front_rest j.states) j h
        by false (s ∷ l) = refl

    module _ (behind : List Arrival) (x : Arrival) where
      same-deviates : (l : List State) (rest : List Gone) (j : Judged) → FitNone z rest gone
          → deviates z behind x l rest (G j) ≡ G (deviates z behind x l rest j)
      unfolding deviates
      same-deviates l [] j h = refl
      same-deviates l (y ∷ rest) j h =
          ap (λ (k : Judged). deviates_by z (deviation_of z behind x y) x l y rest (G j)
          (deviates z behind x (with_rest rest (lead l)) rest k)) (same-unexplained x.time y j h.0)
          ∙ ap (λ (k : Judged). deviates_by z (deviation_of z behind x y) x l y rest (G j) k)
          (same-deviates (with_rest rest (lead l)) rest (unexplained z x.time y j) h.1)
          ∙ by (deviation_of z behind x y)
          (deviates z behind x (with_rest rest (lead l)) rest (unexplained z x.time y j))
        where
          asks : (b : Bool) (next : Judged)
              → (if b then with_states (asked z x rest l) (G (unexplained z x.time y j)) else G next)
              ≡ G (if b then with_states (asked z x rest l) (unexplained z x.time y j) else next)
          asks true next = refl
          asks false next = refl

          by : (d : Deviation) (next : Judged)
              → deviates_by z d x l y rest (G j) (G next) ≡ G (deviates_by z d x l y rest j next)
          by deviation.Stopped next = refl
          by (deviation.Took finding) next = refl
          by deviation.Other next =
              ap (λ (k : Judged). if has_some (asked z x rest l) then with_states (asked z x rest l) k else G next)
              (same-unexplained x.time y j h.0)
              ∙ asks (has_some (asked z x rest l)) next

      same-few : (n : ℕ) (k : Judged) → few_of z n (G k) ≡ G (few_of z n k)
      same-few n k =
          let sum : u + k.uncertain + n ≡ u + (k.uncertain + n) = omega arith in
          ap (λ (m : ℕ). judged_with (thinned_onto [] k.states) (gone ++ k.arrivals) k.findings k.frames m
          (nat_lt most_states (length (thinned_onto [] k.states)))) sum

      same-mark : (mark : Option Reason) (k : Judged) → with_mark x mark (G k) ≡ G (with_mark x mark k)
      same-mark mark k =
          ap (λ (l : List Marked). judged_with k.states l k.findings k.frames (u + k.uncertain) k.is_unsure)
          (append_assoc gone k.arrivals (marked x mark false ∷ []))

      came : (last : ℕ) (j : Judged) → FitNone z (front_rest j.states) gone
          → came_to z behind last x (G j) ≡ G (came_to z behind last x j)
      unfolding came_to
      came last j h = by j.is_unsure (fault_of (Some z.rule) x.port x.bytes)
        where
          answered : (l : List State) → answered_by z behind last x l (G j) ≡ G (answered_by z behind last x l j)
          answered [] = same-deviates (aged z last x j.states) (front_rest j.states) j h
          answered (s ∷ l) = refl

          led : List State
          led = led_by (λ s. states_at z x (levels_then z s.levels last x) s) j.states

          by : (b : Bool) (fault : Option Reason) → (if b then G j else came_by z behind last x fault (G j))
              ≡ G (if b then j else came_by z behind last x fault j)
          by true fault = refl
          by false None =
              ap (λ (k : Judged). with_mark x (rate_mark z last x j.states)
              (few_of z (one_if z (is_uncertain z last x j.states)) k))
              (answered led)
              ∙ ap (λ (k : Judged). with_mark x (rate_mark z last x j.states) k)
              (same-few (one_if z (is_uncertain z last x j.states)) (answered_by z behind last x led j))
              ∙ same-mark (rate_mark z last x j.states) (few_of z (one_if z (is_uncertain z last x j.states))
              (answered_by z behind last x led j))
          by false (Some reason) = same-mark (Some reason) j

pub forgetting_nothing : ForgettingChangesNothing
forgetting_nothing = record {
  came = λ z gone u j behind last x h. came z gone u behind x last j h;
  closing = λ z gone u j time h. closing z gone u time j h;
}
