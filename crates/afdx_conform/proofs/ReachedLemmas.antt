-- From states to explanations.
use Rattle.std.proofs.Common.{◌≡◌, ◌+◌, Bool, true, false, List, [], ◌∷◌, ◌++◌, ◌⊎◌, inl, inr, length, reverse, refl, sym, ap, ◌∙◌, subst, arith}
use Rattle.std.proofs.lemmas.List.{reverse-append, append_assoc}
use Rattle.std.specs.Prelude.{IsTrue, if◌then◌else◌}
use Rattle.std.specs.List.{AllByRecursion}
use Rattle.afdx_police.specs.Arrival.{Arrival}
use Rattle.afdx_conform.specs.Levels.{Levels, first_levels, may_pass, has_to_pass, charged, refused}
use Rattle.afdx_conform.specs.Streams.{Gone, Terms, fits, is_open, is_begun}
use Rattle.afdx_conform.specs.Explanations.{Answered, answered, accepted_in, arrivals_in, last_time, link, charge, levels_then, levels_after, AreAllowed, ArePairs}
use Rattle.afdx_conform.specs.States.{Event, Came, Closing, State, state_with, arrivals_came, are_behind, first_states, accepted_states, states_at, states_after}
use Rattle.afdx_conform.proofs.AmongLemmas.{Among, among-cases, led-from, kept-from}

-- the next frame passes
pub turn-cons : (y : Gone) (passed rest : List Gone) → reverse (y ∷ passed) ++ rest ≡ reverse passed ++ (y ∷ rest)
turn-cons y passed rest =
    ap (λ (l : List Gone). l ++ rest) (reverse-append (y ∷ []) passed)
    ∙ append_assoc (reverse passed) (y ∷ []) rest

-- what begins with frames that may be of arrivals before the start
abbrev AreBegun : Terms → List Gone → Type 0
AreBegun z frames = AllByRecursion (λ y. IsTrue (is_begun z y)) frames

begun-on : (z : Terms) (xs : List Gone) (y : Gone) → AreBegun z xs → IsTrue (is_begun z y) → AreBegun z (xs ++ (y ∷ []))
begun-on z [] y all h = (h, tt)
begun-on z (x ∷ xs) y all h = (all.0, begun-on z xs y all.1 h)

-- ---- the states at first

-- what is known of one of them
record IsFirst (z : Terms) (levels : Levels) (ys : List Gone) (s : State) : Type 0 where
  pub begun : List Gone
  pub are_begun : AreBegun z begun
  pub all : reverse begun ++ s.rest ≡ ys
  pub levels_are : s.levels ≡ levels
  pub none_waits : s.waiting ≡ 0

first-from : (z : Terms) (levels : Levels) (ys : List Gone) (s : State)
    → Among s (first_states z levels ys) → IsFirst z levels ys s
unfolding first_states
first-from z levels [] s (inl e) = record {
  begun = [];
  are_begun = tt;
  all = ap (λ (r : State). r.rest) (sym e);
  levels_are = ap (λ (r : State). r.levels) (sym e);
  none_waits = ap (λ (r : State). r.waiting) (sym e);
}
first-from z levels [] s (inr h) = absurd h
first-from z levels (y ∷ rest) s (inl e) = record {
  begun = [];
  are_begun = tt;
  all = ap (λ (r : State). r.rest) (sym e);
  levels_are = ap (λ (r : State). r.levels) (sym e);
  none_waits = ap (λ (r : State). r.waiting) (sym e);
}
first-from z levels (y ∷ rest) s (inr h) = by (is_begun z y) refl h (λ k. first-from z levels rest s k)
  where
    by : (b : Bool) → is_begun z y ≡ b → Among s (if b then first_states z levels rest else [])
        → (Among s (first_states z levels rest) → IsFirst z levels rest s)
        → IsFirst z levels (y ∷ rest) s
    by true e k more = let r = more k in record {
      begun = r.begun ++ (y ∷ []);
      are_begun = begun-on z r.begun y r.are_begun e;
      all = ap (λ (l : List Gone). l ++ s.rest) (reverse-append r.begun (y ∷ []))
          ∙ ap (λ (l : List Gone). y ∷ l) r.all;
      levels_are = r.levels_are;
      none_waits = r.none_waits;
    }
    by false e k more = absurd k

first-next : (z : Terms) (levels : Levels) (ys : List Gone) (y : Gone) (rest : List Gone)
    → IsTrue (is_begun z y) → Among (state_with (y ∷ rest) levels 0) (first_states z levels ys)
    → Among (state_with rest levels 0) (first_states z levels ys)
unfolding first_states
first-next z levels [] y rest begun (inl e) =
    let none : [] ≡ (y ∷ rest) = ap (λ (r : State). r.rest) e in absurd (cc)
first-next z levels [] y rest begun (inr h) = absurd h
first-next z levels (w ∷ ws) y rest begun (inl e) =
    inr (by (is_begun z w) (subst (λ v. is_begun z v ≡ true) head begun))
  where
    head : y ≡ w
    head = let here : (w ∷ ws) ≡ (y ∷ rest) = ap (λ (r : State). r.rest) e in cc

    tail : ws ≡ rest
    tail = let here : (w ∷ ws) ≡ (y ∷ rest) = ap (λ (r : State). r.rest) e in cc

    at_once : (l : List Gone) → Among (state_with l levels 0) (first_states z levels l)
    at_once [] = inl refl
    at_once (v ∷ l) = inl refl

    by : (b : Bool) → b ≡ true → Among (state_with rest levels 0) (if b then first_states z levels ws else [])
    by true e = subst (λ (l : List Gone). Among (state_with rest levels 0) (first_states z levels l)) (sym tail)
        (at_once rest)
    by false e = absurd (cc)
first-next z levels (w ∷ ws) y rest begun (inr h) =
    inr (by (is_begun z w) h (λ k. first-next z levels ws y rest begun k))
  where
    by : (b : Bool) → Among (state_with (y ∷ rest) levels 0) (if b then first_states z levels ws else [])
        → (Among (state_with (y ∷ rest) levels 0) (first_states z levels ws)
        → Among (state_with rest levels 0) (first_states z levels ws))
        → Among (state_with rest levels 0) (if b then first_states z levels ws else [])
    by true k more = more k
    by false k more = absurd k

first-here : (z : Terms) (levels : Levels) (rest : List Gone)
    → Among (state_with rest levels 0) (first_states z levels rest)
unfolding first_states
first-here z levels [] = inl refl
first-here z levels (y ∷ rest) = inl refl

pub first-among : (z : Terms) (levels : Levels) (begun rest : List Gone) → AreBegun z begun
    → Among (state_with rest levels 0) (first_states z levels (reverse begun ++ rest))
first-among z levels [] rest all = first-here z levels rest
first-among z levels (y ∷ begun) rest all =
    subst (λ (l : List Gone). Among (state_with rest levels 0) (first_states z levels l)) (sym (turn-cons y begun rest))
    (first-next z levels (reverse begun ++ (y ∷ rest)) y rest all.0 (first-among z levels begun (y ∷ rest) all.1))

-- ---- from a state to what explains it

-- answers on the arrivals so far that lead to a state
pub record Reached (z : Terms) (ys : List Gone) (events : List Event) (s : State) : Type 0 where
  pub answers : List Answered
  pub are_answered : arrivals_in answers ≡ arrivals_came events
  pub are_allowed : AreAllowed z answers
  pub levels_are : s.levels ≡ levels_after z answers
  pub waiting : List Arrival
  pub took : List Arrival
  pub count : s.waiting ≡ length waiting
  pub accepted : accepted_in answers ≡ waiting ++ took
  pub are_open : AllByRecursion (λ x. IsTrue (is_open z x)) waiting
  pub passed : List Gone
  pub are_pairs : ArePairs z took passed
  pub all : reverse passed ++ s.rest ≡ ys
  pub last : (waiting ≡ []) ⊎ (s.rest ≡ [])

reached-first : (z : Terms) (ys : List Gone) (s : State)
    → Among s (first_states z (first_levels (link z) z.by z.by.start) ys)
    → Reached z ys [] s
unfolding levels_after accepted_in arrivals_in AreAllowed ArePairs
reached-first z ys s h =
    let first = first-from z (first_levels (link z) z.by z.by.start) ys s h in record {
      answers = [];
      are_answered = refl;
      are_allowed = tt;
      levels_are = first.levels_are;
      waiting = [];
      took = [];
      count = first.none_waits;
      accepted = refl;
      are_open = tt;
      passed = first.begun;
      are_pairs = first.are_begun;
      all = first.all;
      last = inl refl;
    }

module _ (z : Terms) (ys : List Gone) (x : Arrival) (before : List Event) where
  -- the levels when the arrival comes to a state
  abbrev then_levels : State → Levels
  then_levels p = levels_then z p.levels (last_time z.by (arrivals_came before)) x

  same-levels : (p : State) (r : Reached z ys before p) → then_levels p
      ≡ levels_then z (levels_after z r.answers) (last_time z.by (arrivals_in r.answers)) x
  same-levels p r =
      ap (λ (l : Levels). levels_then z l (last_time z.by (arrivals_came before)) x) r.levels_are
      ∙ ap (λ (l : List Arrival). levels_then z (levels_after z r.answers) (last_time z.by l) x) (sym r.are_answered)

  -- the arrival was refused
  reached-refused : (p : State) → Reached z ys before p
      → has_to_pass (link z) z.by (charge z x) (then_levels p) ≡ false
      → Reached z ys (Came x ∷ before) (state_with p.rest (refused (link z) z.by (charge z x) (then_levels p))
      p.waiting)
  unfolding levels_after accepted_in arrivals_in AreAllowed
  reached-refused p r must = record {
    answers = answered x false ∷ r.answers;
    are_answered = ap (λ (l : List Arrival). x ∷ l) r.are_answered;
    are_allowed = (
      subst (λ (l : Levels). has_to_pass (link z) z.by (charge z x) l ≡ false) (same-levels p r) must,
      r.are_allowed,
    );
    levels_are = ap (λ (l : Levels). refused (link z) z.by (charge z x) l) (same-levels p r);
    waiting = r.waiting;
    took = r.took;
    count = r.count;
    accepted = r.accepted;
    are_open = r.are_open;
    passed = r.passed;
    are_pairs = r.are_pairs;
    all = r.all;
    last = r.last;
  }

  -- it was accepted, and the next frame is its
  reached-took : (p : State) (y : Gone) (rest : List Gone) → p.rest ≡ (y ∷ rest) → Reached z ys before p
      → IsTrue (may_pass (link z) z.by (charge z x) (then_levels p)) → IsTrue (fits z x y)
      → Reached z ys (Came x ∷ before) (state_with rest (charged (link z) z.by (charge z x) (then_levels p)) p.waiting)
  unfolding levels_after accepted_in arrivals_in AreAllowed ArePairs
  reached-took p y rest e r may fit = none_waits r.last
    where
      none_waits : (r.waiting ≡ []) ⊎ (p.rest ≡ [])
          → Reached z ys (Came x ∷ before) (state_with rest (charged (link z) z.by (charge z x) (then_levels p))
          p.waiting)
      none_waits (inr over) = let none : (y ∷ rest) ≡ [] = sym e ∙ over in absurd (cc)
      none_waits (inl none) = record {
        answers = answered x true ∷ r.answers;
        are_answered = ap (λ (l : List Arrival). x ∷ l) r.are_answered;
        are_allowed = (
          subst (λ (l : Levels). IsTrue (may_pass (link z) z.by (charge z x) l)) (same-levels p r) may,
          r.are_allowed,
        );
        levels_are = ap (λ (l : Levels). charged (link z) z.by (charge z x) l) (same-levels p r);
        waiting = [];
        took = x ∷ r.took;
        count = r.count ∙ ap (λ (l : List Arrival). length l) none;
        accepted = ap (λ (l : List Arrival). x ∷ l) (r.accepted ∙ ap (λ (l : List Arrival). l ++ r.took) none);
        are_open = tt;
        passed = y ∷ r.passed;
        are_pairs = (fit, r.are_pairs);
        all = turn-cons y r.passed rest ∙ ap (λ (l : List Gone). reverse r.passed ++ l) (sym e) ∙ r.all;
        last = inl refl;
      }

  -- it was accepted, and waits
  reached-waits : (p : State) → p.rest ≡ [] → Reached z ys before p
      → IsTrue (may_pass (link z) z.by (charge z x) (then_levels p)) → IsTrue (is_open z x)
      → Reached z ys (Came x ∷ before) (state_with [] (charged (link z) z.by (charge z x) (then_levels p))
      (p.waiting + 1))
  unfolding levels_after accepted_in arrivals_in AreAllowed
  reached-waits p e r may opens = record {
    answers = answered x true ∷ r.answers;
    are_answered = ap (λ (l : List Arrival). x ∷ l) r.are_answered;
    are_allowed = (
      subst (λ (l : Levels). IsTrue (may_pass (link z) z.by (charge z x) l)) (same-levels p r) may,
      r.are_allowed,
    );
    levels_are = ap (λ (l : Levels). charged (link z) z.by (charge z x) l) (same-levels p r);
    waiting = x ∷ r.waiting;
    took = r.took;
    count = (let n = r.count in omega (arith, n));
    accepted = ap (λ (l : List Arrival). x ∷ l) r.accepted;
    are_open = (opens, r.are_open);
    passed = r.passed;
    are_pairs = r.are_pairs;
    all = ap (λ (l : List Gone). reverse r.passed ++ l) (sym e) ∙ r.all;
    last = inr refl;
  }

  -- whatever it was
  reached-came : (p s : State) → Reached z ys before p → Among s (states_at z x (then_levels p) p)
      → Reached z ys (Came x ∷ before) s
  unfolding states_at
  reached-came p s r h = by (among-cases s _ _ h)
    where
      accepted-by : (b : Bool) → may_pass (link z) z.by (charge z x) (then_levels p) ≡ b
          → Among s (if b then accepted_states z x (charged (link z) z.by (charge z x) (then_levels p)) p.waiting
          p.rest else [])
          → Reached z ys (Came x ∷ before) s
      accepted-by false e k = absurd k
      accepted-by true e k = with_rest p.rest refl k
        where
          took-by : (y : Gone) (rest : List Gone) → p.rest ≡ (y ∷ rest) → (b : Bool) → fits z x y ≡ b
              → Among s (if b then state_with rest (charged (link z) z.by (charge z x) (then_levels p)) p.waiting ∷ []
              else [])
              → Reached z ys (Came x ∷ before) s
          took-by y rest is false f k = absurd k
          took-by y rest is true f (inl same) =
              subst (λ (s : State). Reached z ys (Came x ∷ before) s) same (reached-took p y rest is r e f)
          took-by y rest is true f (inr k) = absurd k

          waits-by : p.rest ≡ [] → (b : Bool) → is_open z x ≡ b
              → Among s (if b then state_with [] (charged (link z) z.by (charge z x) (then_levels p)) (p.waiting + 1)
              ∷ [] else [])
              → Reached z ys (Came x ∷ before) s
          waits-by is false f k = absurd k
          waits-by is true f (inl same) = subst (λ (s : State). Reached z ys (Came x ∷ before) s) same
              (reached-waits p is r e f)
          waits-by is true f (inr k) = absurd k

          with_rest : (rest : List Gone) → p.rest ≡ rest
              → Among s (accepted_states z x (charged (link z) z.by (charge z x) (then_levels p)) p.waiting rest)
              → Reached z ys (Came x ∷ before) s
          with_rest [] is k = waits-by is (is_open z x) refl k
          with_rest (y ∷ rest) is k = took-by y rest is (fits z x y) refl k

      refused-by : (b : Bool) → has_to_pass (link z) z.by (charge z x) (then_levels p) ≡ b
          → Among s (if b then [] else state_with p.rest (refused (link z) z.by (charge z x) (then_levels p))
          p.waiting ∷ [])
          → Reached z ys (Came x ∷ before) s
      refused-by true e k = absurd k
      refused-by false e (inl same) = subst (λ (s : State). Reached z ys (Came x ∷ before) s) same
          (reached-refused p r e)
      refused-by false e (inr k) = absurd k

      by : Among s (if may_pass (link z) z.by (charge z x) (then_levels p)
          then accepted_states z x (charged (link z) z.by (charge z x) (then_levels p)) p.waiting p.rest else [])
          ⊎ Among s (if has_to_pass (link z) z.by (charge z x) (then_levels p) then []
          else state_with p.rest (refused (link z) z.by (charge z x) (then_levels p)) p.waiting ∷ [])
          → Reached z ys (Came x ∷ before) s
      by (inl k) = accepted-by _ refl k
      by (inr k) = refused-by _ refl k

-- each state has answers that lead to it
pub reached : (z : Terms) (ys : List Gone) (events : List Event) (s : State) → Among s (states_after z ys events)
    → Reached z ys events s
unfolding states_after
reached z ys [] s h = reached-first z ys s h
reached z ys (Came x ∷ before) s h =
    let from = led-from (λ p. states_at z x (levels_then z p.levels (last_time z.by (arrivals_came before)) x) p)
    (states_after z ys before) s h in
    reached-came z ys x before from.of s (reached z ys before from.of from.among) from.to
reached z ys (Closing time ∷ before) s h =
    let r = reached z ys before s (kept-from (λ s. are_behind time s.rest) (states_after z ys before) s h).0 in record {
      answers = r.answers;
      are_answered = r.are_answered;
      are_allowed = r.are_allowed;
      levels_are = r.levels_are;
      waiting = r.waiting;
      took = r.took;
      count = r.count;
      accepted = r.accepted;
      are_open = r.are_open;
      passed = r.passed;
      are_pairs = r.are_pairs;
      all = r.all;
      last = r.last;
    }
