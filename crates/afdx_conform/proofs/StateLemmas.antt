-- From explanations to states, and both ways.
use Rattle.std.proofs.Common.{◌≡◌, ℕ, ◌+◌, ◌<◌, ◌≤◌, Bool, true, false, ◌&&◌, List, [], ◌∷◌, ◌++◌, ◌⊎◌, inl, inr, length, reverse, refl, sym, ap, ◌∙◌, subst, arith}
use Rattle.std.proofs.lemmas.List.{reverse-reverse, append-nil}
use Rattle.std.proofs.lemmas.Bool.{ltb-true, lt-ltb, leb-true, and_from, and_parts}
use Rattle.std.specs.Prelude.{IsTrue, if◌then◌else◌, nat_lt}
use Rattle.std.specs.List.{AllByRecursion}
use Rattle.std.specs.Str.{bytes_eq}
use Rattle.afdx_police.specs.Arrival.{Arrival}
use Rattle.afdx_conform.specs.Leeway.{reach}
use Rattle.afdx_conform.specs.Levels.{Levels, first_levels, may_pass, has_to_pass, charged, refused}
use Rattle.afdx_conform.specs.Streams.{Gone, Terms, fits, is_open, is_no_sooner, is_in_time, wire_time}
use Rattle.afdx_conform.specs.Explanations.{Answered, answered, accepted_in, arrivals_in, last_time, link, charge, levels_then, levels_after, AreAllowed, ArePairs, Explains}
use Rattle.afdx_conform.specs.Laws.{IsSomeState, StatesAreExplanations}
use Rattle.afdx_conform.specs.States.{Event, Came, Closing, State, state_with, arrivals_came, are_behind, first_states, accepted_states, states_at, states_after, IsBehindClosings, AreInOrder}
use Rattle.afdx_conform.proofs.AmongLemmas.{Among, among-some, some-among, among-left, among-right, led-among, kept-among, kept-from}
use Rattle.afdx_conform.proofs.ReachedLemmas.{Reached, first-among, reached, turn-cons}

-- ---- from what explains a stream to a state

-- the frames that are left are behind each closing
abbrev AreBehindAll : List Gone → List Event → Type 0
AreBehindAll rest [] = Unit {0}
AreBehindAll rest (Came x ∷ before) = AreBehindAll rest before
AreBehindAll rest (Closing time ∷ before) = (are_behind time rest ≡ true) × AreBehindAll rest before

behind-none : (events : List Event) → AreBehindAll [] events
unfolding are_behind
behind-none [] = tt
behind-none (Came x ∷ before) = behind-none before
behind-none (Closing time ∷ before) = (refl, behind-none before)

-- what fits is no earlier than the arrival, but for the stamps
fits-after : (z : Terms) (x : Arrival) (y : Gone) → IsTrue (fits z x y) → x.time ≤ y.time + reach z.by
unfolding fits
fits-after z x y h =
    let both = and_parts (bytes_eq x.bytes y.bytes && is_no_sooner z x y) (is_in_time z x y) h in
    let two = and_parts (bytes_eq x.bytes y.bytes) (is_no_sooner z x y) both.0 in
    let stored = leb-true (x.time + wire_time z x.bytes) (y.time + reach z.by) two.1 in omega (arith, stored)

behind-next : (z : Terms) (x : Arrival) (y : Gone) (rest : List Gone) (events : List Event)
    → IsTrue (fits z x y) → IsBehindClosings z x events → AreBehindAll rest events → AreBehindAll (y ∷ rest) events
unfolding are_behind IsBehindClosings
behind-next z x y rest [] fit order all = tt
behind-next z x y rest (Came w ∷ before) fit order all = behind-next z x y rest before fit order all
behind-next z x y rest (Closing time ∷ before) fit order all =
    let after = fits-after z x y fit in
    let earlier = order.0 in
    let later : time < y.time = omega (arith, after, earlier) in (
      and_from _ _ (lt-ltb _ _ later) all.0,
      behind-next z x y rest before fit order.1 all.1,
    )

-- an explanation of the arrivals so far, and where it stands
record Explained (z : Terms) (ys : List Gone) (events : List Event) (answers : List Answered)
    (waiting took : List Arrival) (passed rest : List Gone) : Type 0 where
  pub are_answered : arrivals_in answers ≡ arrivals_came events
  pub are_allowed : AreAllowed z answers
  pub accepted : accepted_in answers ≡ waiting ++ took
  pub are_open : AllByRecursion (λ x. IsTrue (is_open z x)) waiting
  pub are_pairs : ArePairs z took passed
  pub all : reverse passed ++ rest ≡ ys
  pub last : (waiting ≡ []) ⊎ (rest ≡ [])
  pub behind : AreBehindAll rest events

-- the state where it stands
abbrev pub standing : Terms → List Answered → List Arrival → List Gone → State
standing z answers waiting rest = state_with rest (levels_after z answers) (length waiting)

none-first : (waiting took : List Arrival) → [] ≡ waiting ++ took → (waiting ≡ []) × (took ≡ [])
none-first [] [] e = (refl, refl)
none-first [] (x ∷ took) e = absurd (cc)
none-first (x ∷ waiting) took e = absurd (cc)

among-first : (z : Terms) (ys : List Gone) (answers : List Answered) (waiting took : List Arrival)
    (passed rest : List Gone)
    → Explained z ys [] answers waiting took passed rest
    → Among (standing z answers waiting rest) (first_states z (first_levels (link z) z.by z.by.start) ys)
unfolding levels_after accepted_in arrivals_in ArePairs
among-first z ys [] waiting took passed rest e =
    let none = none-first waiting took e.accepted in
    let begun : ArePairs z [] passed = subst (λ (l : List Arrival). ArePairs z l passed) none.1 e.are_pairs in
    let first = first-among z (first_levels (link z) z.by z.by.start) passed rest begun in
    let here = subst (λ (l : List Gone). Among (state_with rest (first_levels (link z) z.by z.by.start) 0)
    (first_states z (first_levels (link z) z.by z.by.start) l)) e.all first in
    subst (λ (n : ℕ). Among (state_with rest (first_levels (link z) z.by z.by.start) n)
    (first_states z (first_levels (link z) z.by z.by.start) ys)) (sym (ap (λ (l : List Arrival). length l) none.0)) here
among-first z ys (a ∷ answers) waiting took passed rest e = let none = e.are_answered in absurd (cc)

module _ (z : Terms) (x : Arrival) (levels old : Levels) (n : ℕ) where
  if-true : {X : Type 0} (b : Bool) (u v : X) → b ≡ true → (if b then u else v) ≡ u
  if-true true u v e = refl
  if-true false u v e = absurd (cc)

  if-false : {X : Type 0} (b : Bool) (u v : X) → b ≡ false → (if b then u else v) ≡ v
  if-false true u v e = absurd (cc)
  if-false false u v e = refl

  pub refused-state : (rest : List Gone) → has_to_pass (link z) z.by (charge z x) levels ≡ false
      → Among (state_with rest (refused (link z) z.by (charge z x) levels) n)
      (states_at z x levels (state_with rest old n))
  unfolding states_at
  refused-state rest e =
      among-right _ (if may_pass (link z) z.by (charge z x) levels
      then accepted_states z x (charged (link z) z.by (charge z x) levels) n rest else []) _
      (subst (λ (l : List State). Among (state_with rest (refused (link z) z.by (charge z x) levels) n) l)
      (sym (if-false (has_to_pass (link z) z.by (charge z x) levels) []
      (state_with rest (refused (link z) z.by (charge z x) levels) n ∷ []) e)) (inl refl))

  pub accepted-state : (rest : List Gone) (t : State) → IsTrue (may_pass (link z) z.by (charge z x) levels)
      → Among t (accepted_states z x (charged (link z) z.by (charge z x) levels) n rest)
      → Among t (states_at z x levels (state_with rest old n))
  unfolding states_at
  accepted-state rest t may h =
      among-left t _ _ (subst (λ (l : List State). Among t l)
      (sym (if-true (may_pass (link z) z.by (charge z x) levels)
      (accepted_states z x (charged (link z) z.by (charge z x) levels) n rest) [] may)) h)

  pub took-state : (y : Gone) (rest : List Gone) → IsTrue (may_pass (link z) z.by (charge z x) levels)
      → IsTrue (fits z x y)
      → Among (state_with rest (charged (link z) z.by (charge z x) levels) n)
      (states_at z x levels (state_with (y ∷ rest) old n))
  took-state y rest may fit = accepted-state (y ∷ rest) _ may
      (subst (λ (l : List State). Among (state_with rest (charged (link z) z.by (charge z x) levels) n) l)
      (sym (if-true (fits z x y) (state_with rest (charged (link z) z.by (charge z x) levels) n ∷ []) [] fit))
      (inl refl))

  pub waits-state : IsTrue (may_pass (link z) z.by (charge z x) levels) → IsTrue (is_open z x)
      → Among (state_with [] (charged (link z) z.by (charge z x) levels) (n + 1))
      (states_at z x levels (state_with [] old n))
  waits-state may opens = accepted-state [] _ may
      (subst (λ (l : List State). Among (state_with [] (charged (link z) z.by (charge z x) levels) (n + 1)) l)
      (sym (if-true (is_open z x) (state_with [] (charged (link z) z.by (charge z x) levels) (n + 1) ∷ []) [] opens))
      (inl refl))

-- one more arrival, whose answer is known, and where it stood before
module _ (z : Terms) (ys : List Gone) (x : Arrival) (before : List Event) (more : List Answered)
    (same : arrivals_in more ≡ arrivals_came before) where
  abbrev levels_of : List Arrival → Levels
  levels_of came = levels_then z (levels_after z more) (last_time z.by came) x

  came-refused : (waiting : List Arrival) (rest : List Gone) → Among (standing z more waiting rest)
      (states_after z ys before)
      → has_to_pass (link z) z.by (charge z x) (levels_of (arrivals_in more)) ≡ false
      → Among (standing z (answered x false ∷ more) waiting rest) (states_after z ys (Came x ∷ before))
  unfolding states_after levels_after arrivals_in
  came-refused waiting rest h e =
      subst (λ (came : List Arrival). Among (state_with rest (refused (link z) z.by (charge z x) (levels_of came))
      (length waiting))
      (states_after z ys (Came x ∷ before))) (sym same)
      (led-among _ (states_after z ys before) (standing z more waiting rest) _ h
      (refused-state z x (levels_of (arrivals_came before)) (levels_after z more) (length waiting) rest
      (subst (λ (came : List Arrival). has_to_pass (link z) z.by (charge z x) (levels_of came) ≡ false) same e)))

  came-took : (waiting : List Arrival) (y : Gone) (rest : List Gone)
      → Among (standing z more waiting (y ∷ rest)) (states_after z ys before)
      → IsTrue (may_pass (link z) z.by (charge z x) (levels_of (arrivals_in more))) → IsTrue (fits z x y)
      → Among (standing z (answered x true ∷ more) waiting rest) (states_after z ys (Came x ∷ before))
  unfolding states_after levels_after arrivals_in
  came-took waiting y rest h e fit =
      subst (λ (came : List Arrival). Among (state_with rest (charged (link z) z.by (charge z x) (levels_of came))
      (length waiting))
      (states_after z ys (Came x ∷ before))) (sym same)
      (led-among _ (states_after z ys before) (standing z more waiting (y ∷ rest)) _ h
      (took-state z x (levels_of (arrivals_came before)) (levels_after z more) (length waiting) y rest
      (subst (λ (came : List Arrival). IsTrue (may_pass (link z) z.by (charge z x) (levels_of came))) same e) fit))

  came-waits : (w : Arrival) (waiting : List Arrival) → Among (standing z more waiting []) (states_after z ys before)
      → IsTrue (may_pass (link z) z.by (charge z x) (levels_of (arrivals_in more))) → IsTrue (is_open z x)
      → Among (standing z (answered x true ∷ more) (w ∷ waiting) []) (states_after z ys (Came x ∷ before))
  unfolding states_after levels_after arrivals_in
  came-waits w waiting h e opens =
      let one : length waiting + 1 ≡ length (w ∷ waiting) = omega arith in
      subst (λ (n : ℕ). Among (state_with [] (charged (link z) z.by (charge z x) (levels_of (arrivals_in more))) n)
      (states_after z ys (Came x ∷ before))) one
      (subst (λ (came : List Arrival). Among (state_with [] (charged (link z) z.by (charge z x) (levels_of came))
      (length waiting + 1))
      (states_after z ys (Came x ∷ before))) (sym same)
      (led-among _ (states_after z ys before) (standing z more waiting []) _ h
      (waits-state z x (levels_of (arrivals_came before)) (levels_after z more) (length waiting)
      (subst (λ (came : List Arrival). IsTrue (may_pass (link z) z.by (charge z x) (levels_of came))) same e) opens)))

module _ (z : Terms) (ys : List Gone) where
  -- the newest answer is on the arrival that came last
  came-of : (x : Arrival) (before : List Event) (b : Bool) (more : List Answered)
      (waiting took : List Arrival) (passed rest : List Gone) → IsBehindClosings z x before
      → Explained z ys (Came x ∷ before) (answered x b ∷ more) waiting took passed rest
      → ((w t : List Arrival) (p r : List Gone) → Explained z ys before more w t p r
      → Among (standing z more w r) (states_after z ys before))
      → Among (standing z (answered x b ∷ more) waiting rest) (states_after z ys (Came x ∷ before))
  unfolding arrivals_in accepted_in AreAllowed ArePairs
  came-of x before false more waiting took passed rest order e so_far =
      let same : arrivals_in more ≡ arrivals_came before = let all = e.are_answered in cc in
      came-refused z ys x before more same waiting rest
      (so_far waiting took passed rest (record {
        are_answered = same;
        are_allowed = e.are_allowed.1;
        accepted = e.accepted;
        are_open = e.are_open;
        are_pairs = e.are_pairs;
        all = e.all;
        last = e.last;
        behind = e.behind;
      })) e.are_allowed.0
  came-of x before true more (w ∷ waiting) took passed rest order e so_far = by e.last
    where
      same : arrivals_in more ≡ arrivals_came before
      same = let all = e.are_answered in cc

      head : x ≡ w
      head = let all = e.accepted in cc

      tail : accepted_in more ≡ waiting ++ took
      tail = let all = e.accepted in cc

      by : ((w ∷ waiting) ≡ []) ⊎ (rest ≡ [])
          → Among (standing z (answered x true ∷ more) (w ∷ waiting) rest) (states_after z ys (Came x ∷ before))
      by (inl none) = absurd (cc)
      by (inr none) =
          subst (λ (l : List Gone).
          Among (standing z (answered x true ∷ more) (w ∷ waiting) l) (states_after z ys (Came x ∷ before)))
          (sym none)
          (came-waits z ys x before more same w waiting
          (so_far waiting took passed [] (record {
            are_answered = same;
            are_allowed = e.are_allowed.1;
            accepted = tail;
            are_open = e.are_open.1;
            are_pairs = e.are_pairs;
            all = subst (λ (l : List Gone). reverse passed ++ l ≡ ys) none e.all;
            last = inr refl;
            behind = behind-none before;
          })) e.are_allowed.0 (subst (λ (v : Arrival). IsTrue (is_open z v)) (sym head) e.are_open.0))
  came-of x before true more [] (w ∷ took) (y ∷ passed) rest order e so_far =
      let same : arrivals_in more ≡ arrivals_came before = let all = e.are_answered in cc in
      let head : x ≡ w = let all = e.accepted in cc in
      let tail : accepted_in more ≡ took = let all = e.accepted in cc in
      let fit : IsTrue (fits z x y) = subst (λ (v : Arrival). IsTrue (fits z v y)) (sym head) e.are_pairs.0 in
      came-took z ys x before more same [] y rest
      (so_far [] took passed (y ∷ rest) (record {
        are_answered = same;
        are_allowed = e.are_allowed.1;
        accepted = tail;
        are_open = tt;
        are_pairs = e.are_pairs.1;
        all = sym (turn-cons y passed rest) ∙ e.all;
        last = inl refl;
        behind = behind-next z x y rest before fit order e.behind;
      })) e.are_allowed.0 fit
  came-of x before true more [] (w ∷ took) [] rest order e so_far = absurd e.are_pairs
  came-of x before true more [] [] passed rest order e so_far = let all = e.accepted in absurd (cc)

  -- whatever explains the events so far is a state
  among-of : (events : List Event) → AreInOrder z events → (answers : List Answered)
      (waiting took : List Arrival) (passed rest : List Gone)
      → Explained z ys events answers waiting took passed rest
      → Among (standing z answers waiting rest) (states_after z ys events)
  unfolding states_after AreInOrder arrivals_in
  among-of [] order answers waiting took passed rest e = among-first z ys answers waiting took passed rest e
  among-of (Closing time ∷ before) order answers waiting took passed rest e =
      kept-among (λ s. are_behind time s.rest) (states_after z ys before) (standing z answers waiting rest)
      (among-of before order answers waiting took passed rest (record {
        are_answered = e.are_answered;
        are_allowed = e.are_allowed;
        accepted = e.accepted;
        are_open = e.are_open;
        are_pairs = e.are_pairs;
        all = e.all;
        last = e.last;
        behind = e.behind.1;
      })) e.behind.0
  among-of (Came x ∷ before) order [] waiting took passed rest e = let none = e.are_answered in absurd (cc)
  among-of (Came x ∷ before) order (a ∷ more) waiting took passed rest e =
      let head : a.arrival ≡ x = let all = e.are_answered in cc in
      let is : a ≡ answered x a.accepted = ap (λ (v : Arrival). answered v a.accepted) head in
      subst (λ (b : Answered). Among (standing z (b ∷ more) waiting rest) (states_after z ys (Came x ∷ before)))
      (sym is)
      (came-of x before a.accepted more waiting took passed rest order.0
      (subst (λ (b : Answered). Explained z ys (Came x ∷ before) (b ∷ more) waiting took passed rest) is e)
      (λ w t p r so. among-of before order.1 more w t p r so))

-- ---- once all frames are closed

behind-end : (end : ℕ) (before rest : List Gone) → AllByRecursion (λ (y : Gone). y.time ≤ end) (before ++ rest)
    → are_behind end rest ≡ true → rest ≡ []
unfolding are_behind
behind-end end [] [] all h = refl
behind-end end [] (y ∷ rest) all h =
    let late = ltb-true end y.time (and_parts (nat_lt end y.time) (are_behind end rest) h).0 in
    let early = all.0 in absurd (omega (arith, late, early))
behind-end end (x ∷ before) rest all h = behind-end end before rest all.1 h

-- where no frame is left, what leads to a state explains all frames, with as many arrivals that wait
pub explains-so : (z : Terms) (ys : List Gone) (events : List Event) (s : State) → Reached z ys events s → s.rest ≡ []
    → (e : Explains z (arrivals_came events) (reverse ys)) × (length e.waiting ≡ s.waiting)
explains-so z ys events s r none =
    let turned : reverse r.passed ≡ ys = sym (append-nil (reverse r.passed))
    ∙ ap (λ (l : List Gone). reverse r.passed ++ l) (sym none) ∙ r.all in
    let passed : r.passed ≡ reverse ys = sym (reverse-reverse r.passed) ∙ ap (λ (l : List Gone). reverse l) turned in (
      record {
        answers = r.answers;
        are_answered = r.are_answered;
        are_allowed = r.are_allowed;
        waiting = r.waiting;
        took = r.took;
        accepted = r.accepted;
        are_open = r.are_open;
        are_pairs = subst (λ (l : List Gone). ArePairs z r.took l) passed r.are_pairs;
      },
      sym r.count,
    )

-- and what explains them is a state
pub explained-state : (z : Terms) (ys : List Gone) (events : List Event) → AreInOrder z events
    → (e : Explains z (arrivals_came events) (reverse ys)) → Among (standing z e.answers e.waiting [])
    (states_after z ys events)
explained-state z ys events order e =
    among-of z ys events order e.answers e.waiting e.took (reverse ys) [] (record {
      are_answered = e.are_answered;
      are_allowed = e.are_allowed;
      accepted = e.accepted;
      are_open = e.are_open;
      are_pairs = e.are_pairs;
      all = append-nil (reverse (reverse ys)) ∙ reverse-reverse ys;
      last = inr refl;
      behind = behind-none events;
    })

pub states_explain : StatesAreExplanations
unfolding states_after are_behind
states_explain z ys events end order all = (there, back)
  where
    explains-by : (s : State) → Among s (states_after z ys (Closing end ∷ events))
        → Explains z (arrivals_came events) (reverse ys)
    explains-by s h =
        let kept = kept-from (λ s. are_behind end s.rest) (states_after z ys events) s h in
        let r = reached z ys events s kept.0 in
        (explains-so z ys events s r (behind-end end (reverse r.passed) s.rest
        (subst (λ (l : List Gone). AllByRecursion (λ (y : Gone). y.time ≤ end) l) (sym r.all) all) kept.1)).0

    there : IsSomeState (states_after z ys (Closing end ∷ events)) → Explains z (arrivals_came events) (reverse ys)
    there h = let s = some-among (states_after z ys (Closing end ∷ events)) h in explains-by s.0 s.1

    back : Explains z (arrivals_came events) (reverse ys) → IsSomeState (states_after z ys (Closing end ∷ events))
    back e =
        among-some (standing z e.answers e.waiting []) (states_after z ys (Closing end ∷ events))
        (kept-among (λ s. are_behind end s.rest) (states_after z ys events) (standing z e.answers e.waiting [])
        (explained-state z ys events order e) refl)
