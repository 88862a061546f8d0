-- What is kept of the states is enough.
use Rattle.std.proofs.Common.{◌≡◌, ℕ, ◌+◌, ◌-◌, ◌≤◌, Bool, true, false, ◌⊎◌, inl, inr, List, [], ◌∷◌, refl, sym, ap, ◌∙◌, subst, arith}
use Rattle.std.proofs.lemmas.Bool.{leb-true, le-leb, leb-false, lt-leb}
use Rattle.std.specs.Prelude.{if◌then◌else◌}
use Rattle.afdx_frame.specs.Regulation.{Regulation}
use Rattle.afdx_police.specs.Arrival.{Arrival}
use Rattle.afdx_conform.specs.Leeway.{Leeway}
use Rattle.afdx_conform.specs.Levels.{Levels, may_pass, has_to_pass, charged, refused, later}
use Rattle.afdx_conform.specs.Streams.{Gone, Terms, fits, is_open}
use Rattle.afdx_conform.specs.Explanations.{link, charge, last_time, levels_then}
use Rattle.afdx_conform.specs.States.{Came, Closing, State, state_with, arrivals_came, led_by, kept, are_behind, accepted_states, states_at, states_after}
use Rattle.afdx_conform.specs.Thinned.{Outdoes, IsOutdone, AreEnough, AreKept, KeptAreEnough}
use Rattle.afdx_conform.proofs.AmongLemmas.{Among, among-cases, led-among, led-from, kept-among, kept-from}
use Rattle.afdx_conform.proofs.StateLemmas.{refused-state, took-state, waits-state}

-- levels that allow all that others do
record Wider (a b : Levels) : Type 0 where
  pub lo : a.lo ≤ b.lo
  pub hi : b.hi ≤ a.hi

module _ (l : Regulation) (by : Leeway) (c : ℕ) (a b : Levels) (w : Wider a b) where
  wider-may : may_pass l by c b ≡ true → may_pass l by c a ≡ true
  wider-may h = let room = leb-true _ _ h in let lo = w.lo in le-leb _ _ (omega (arith, room, lo))

  wider-must : has_to_pass l by c b ≡ false → has_to_pass l by c a ≡ false
  wider-must h = let none = leb-false _ _ h in let hi = w.hi in lt-leb _ _ (omega (arith, none, hi))

  wider-charged : Wider (charged l by c a) (charged l by c b)
  wider-charged = let lo = w.lo in let hi = w.hi in record { lo = omega (arith, lo); hi = omega (arith, hi) }

  wider-refused : Wider (refused l by c a) (refused l by c b)
  wider-refused = let lo = w.lo in let hi = w.hi in record { lo = omega (arith, lo); hi = hi }

wider-later : (l : Regulation) (by : Leeway) (ns : ℕ) (a b : Levels) → Wider a b
    → Wider (later l by ns a) (later l by ns b)
wider-later l by ns a b w = let lo = w.lo in let hi = w.hi in record { lo = omega (arith, lo); hi = omega (arith, hi) }

wider-of : (a b : State) → Outdoes a b → Wider a.levels b.levels
wider-of a b o = record { lo = o.lo; hi = o.hi }

outdoes-with : (rest : List Gone) (u v : Levels) (n m : ℕ) → Wider u v → n ≤ m
    → Outdoes (state_with rest u n) (state_with rest v m)
outdoes-with rest u v n m w h = record { rest = refl; lo = w.lo; hi = w.hi; waiting = h }

pub outdoes-itself : (s : State) → Outdoes s s
outdoes-itself s = record { rest = refl; lo = omega arith; hi = omega arith; waiting = omega arith }

pub outdoes-on : (a b c : State) → Outdoes a b → Outdoes b c → Outdoes a c
outdoes-on a b c p q =
    let l1 = p.lo in let l2 = q.lo in let h1 = p.hi in let h2 = q.hi in let w1 = p.waiting in let w2 = q.waiting in
    record {
      rest = p.rest ∙ q.rest;
      lo = omega (arith, l1, l2);
      hi = omega (arith, h1, h2);
      waiting =
          omega (arith, w1, w2);
    }

-- one that outdoes another leads to what outdoes all that the other leads to
module _ (z : Terms) (x : Arrival) (a b s : State) (u v : Levels) (o : Outdoes a b) (w : Wider u v) where
  abbrev Found : Type 0
  Found = IsOutdone s (states_at z x u a)

  out-took : (y : Gone) (rest : List Gone) → b.rest ≡ (y ∷ rest) → may_pass (link z) z.by (charge z x) v ≡ true
      → fits z x y ≡ true
      → state_with rest (charged (link z) z.by (charge z x) v) b.waiting ≡ s → Found
  out-took y rest e may fit is = record {
    by = state_with rest (charged (link z) z.by (charge z x) u) a.waiting;
    among = subst (λ (r : List Gone). Among (state_with rest (charged (link z) z.by (charge z x) u) a.waiting)
        (states_at z x u (state_with r a.levels a.waiting))) (sym (o.rest ∙ e))
        (took-state z x u a.levels a.waiting y rest (wider-may (link z) z.by (charge z x) u v w may) fit);
    outdoes = subst (λ (t : State). Outdoes (state_with rest (charged (link z) z.by (charge z x) u) a.waiting) t) is
        (outdoes-with rest _ _ _ _ (wider-charged (link z) z.by (charge z x) u v w) o.waiting);
  }

  out-waits : b.rest ≡ [] → may_pass (link z) z.by (charge z x) v ≡ true → is_open z x ≡ true
      → state_with [] (charged (link z) z.by (charge z x) v) (b.waiting + 1) ≡ s → Found
  out-waits e may opens is = record {
    by = state_with [] (charged (link z) z.by (charge z x) u) (a.waiting + 1);
    among = subst (λ (r : List Gone). Among (state_with [] (charged (link z) z.by (charge z x) u) (a.waiting + 1))
        (states_at z x u (state_with r a.levels a.waiting))) (sym (o.rest ∙ e))
        (waits-state z x u a.levels a.waiting (wider-may (link z) z.by (charge z x) u v w may) opens);
    outdoes = subst (λ (t : State). Outdoes (state_with [] (charged (link z) z.by (charge z x) u) (a.waiting + 1)) t) is
        (outdoes-with [] _ _ _ _ (wider-charged (link z) z.by (charge z x) u v w) (let n = o.waiting in
        omega (arith, n)));
  }

  out-refused : has_to_pass (link z) z.by (charge z x) v ≡ false
      → state_with b.rest (refused (link z) z.by (charge z x) v) b.waiting ≡ s → Found
  out-refused must is = record {
    by = state_with a.rest (refused (link z) z.by (charge z x) u) a.waiting;
    among = refused-state z x u a.levels a.waiting a.rest (wider-must (link z) z.by (charge z x) u v w must);
    outdoes = subst (λ (t : State). Outdoes (state_with a.rest (refused (link z) z.by (charge z x) u) a.waiting) t) is
        (subst (λ (r : List Gone). Outdoes (state_with a.rest (refused (link z) z.by (charge z x) u) a.waiting)
        (state_with r (refused (link z) z.by (charge z x) v) b.waiting)) o.rest
        (outdoes-with a.rest _ _ _ _ (wider-refused (link z) z.by (charge z x) u v w) o.waiting));
  }

  out-accepted : (rest : List Gone) → b.rest ≡ rest → may_pass (link z) z.by (charge z x) v ≡ true
      → Among s (accepted_states z x (charged (link z) z.by (charge z x) v) b.waiting rest) → Found
  out-accepted [] e may h = by (is_open z x) refl h
    where
      by : (c : Bool) → is_open z x ≡ c
          → Among s (if c then state_with [] (charged (link z) z.by (charge z x) v) (b.waiting + 1) ∷ [] else [])
          → Found
      by false k m = absurd m
      by true k (inl is) = out-waits e may k is
      by true k (inr m) = absurd m
  out-accepted (y ∷ rest) e may h = by (fits z x y) refl h
    where
      by : (c : Bool) → fits z x y ≡ c
          → Among s (if c then state_with rest (charged (link z) z.by (charge z x) v) b.waiting ∷ [] else []) → Found
      by false k m = absurd m
      by true k (inl is) = out-took y rest e may k is
      by true k (inr m) = absurd m

  step-out : Among s (states_at z x v b) → Found
  unfolding states_at
  step-out h = cases (among-cases s _ _ h)
    where
      may-by : (c : Bool) → may_pass (link z) z.by (charge z x) v ≡ c
          → Among s (if c then accepted_states z x (charged (link z) z.by (charge z x) v) b.waiting b.rest else [])
          → Found
      may-by false k m = absurd m
      may-by true k m = out-accepted b.rest refl k m

      must-by : (c : Bool) → has_to_pass (link z) z.by (charge z x) v ≡ c
          → Among s (if c then [] else state_with b.rest (refused (link z) z.by (charge z x) v) b.waiting ∷ []) → Found
      must-by true k m = absurd m
      must-by false k (inl is) = out-refused k is
      must-by false k (inr m) = absurd m

      cases : Among s (if may_pass (link z) z.by (charge z x) v
          then accepted_states z x (charged (link z) z.by (charge z x) v) b.waiting b.rest else [])
          ⊎ Among s (if has_to_pass (link z) z.by (charge z x) v then []
          else state_with b.rest (refused (link z) z.by (charge z x) v) b.waiting ∷ [])
          → Found
      cases (inl m) = may-by _ refl m
      cases (inr m) = must-by _ refl m

-- enough of enough are enough
pub enough-on : (all some few : List State) → AreEnough all some → AreEnough some few → AreEnough all few
enough-on all some few p q = record {
  among = λ s h. p.among s (q.among s h);
  outdone = λ s h.
      let one = p.outdone s h in
      let two = q.outdone one.by one.among in
      record { by = two.by; among = two.among; outdoes = outdoes-on two.by one.by s two.outdoes one.outdoes };
}

-- where each that outdoes another leads to what outdoes what that leads to
enough-led : (lead : State → List State) → ((a b s : State) → Outdoes a b → Among s (lead b) → IsOutdone s (lead a))
    → (all few : List State) → AreEnough all few → AreEnough (led_by lead all) (led_by lead few)
enough-led lead step all few p = record {
  among = λ s h.
      let from = led-from lead few s h in
      led-among lead all from.of s (p.among from.of from.among) from.to;
  outdone = λ s h.
      let from = led-from lead all s h in
      let out = p.outdone from.of from.among in
      let on = step out.by from.of s out.outdoes from.to in
      record { by = on.by; among = led-among lead few out.by on.by out.among on.among; outdoes = on.outdoes };
}

enough-kept : (test : State → Bool) → ((a b : State) → Outdoes a b → test a ≡ test b)
    → (all few : List State) → AreEnough all few → AreEnough (kept test all) (kept test few)
enough-kept test same all few p = record {
  among = λ s h. let k = kept-from test few s h in kept-among test all s (p.among s k.0) k.1;
  outdone = λ s h.
      let k = kept-from test all s h in
      let out = p.outdone s k.0 in
      record {
        by = out.by;
        among = kept-among test few out.by out.among (same out.by s out.outdoes ∙ k.1);
        outdoes = out.outdoes;
      };
}

pub kept_enough : KeptAreEnough
unfolding states_after AreKept
kept_enough z ys [] few h = h
kept_enough z ys (Came x ∷ before) few h =
    let so_far = kept_enough z ys before h.0 h.1 in
    enough-on _ _ few
    (enough-led (λ s. states_at z x (levels_then z s.levels (last_time z.by (arrivals_came before)) x) s)
    (λ a b s o k. step-out z x a b s
    (levels_then z a.levels (last_time z.by (arrivals_came before)) x)
    (levels_then z b.levels (last_time z.by (arrivals_came before)) x) o
    (wider-later (link z) z.by (x.time - last_time z.by (arrivals_came before)) a.levels b.levels (wider-of a b o)) k)
    (states_after z ys before) h.0 so_far) h.2
kept_enough z ys (Closing time ∷ before) few h =
    let so_far = kept_enough z ys before h.0 h.1 in
    enough-on _ _ few
    (enough-kept (λ s. are_behind time s.rest) (λ a b o. ap (λ (r : List Gone). are_behind time r) o.rest)
    (states_after z ys before) h.0 so_far) h.2

-- one step of events
pub enough-came : (z : Terms) (x : Arrival) (last : ℕ) (all few : List State) → AreEnough all few
    → AreEnough (led_by (λ s. states_at z x (levels_then z s.levels last x) s) all)
    (led_by (λ s. states_at z x (levels_then z s.levels last x) s) few)
enough-came z x last all few h =
    enough-led (λ s. states_at z x (levels_then z s.levels last x) s)
    (λ a b s o k. step-out z x a b s (levels_then z a.levels last x) (levels_then z b.levels last x) o
    (wider-later (link z) z.by (x.time - last) a.levels b.levels (wider-of a b o)) k) all few h

pub enough-closing : (time : ℕ) (all few : List State) → AreEnough all few
    → AreEnough (kept (λ s. are_behind time s.rest) all) (kept (λ s. are_behind time s.rest) few)
enough-closing time all few h =
    enough-kept (λ s. are_behind time s.rest) (λ a b o. ap (λ (r : List Gone). are_behind time r) o.rest) all few h
