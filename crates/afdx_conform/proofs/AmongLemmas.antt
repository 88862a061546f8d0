-- A state among others.
use Rattle.std.proofs.Common.{◌≡◌, Bool, true, false, List, [], ◌∷◌, ◌++◌, ◌⊎◌, inl, inr, refl, sym, subst}
use Rattle.std.specs.Prelude.{if◌then◌else◌}
use Rattle.afdx_conform.specs.Laws.{IsSomeState}
use Rattle.afdx_conform.specs.States.{State, led_by, kept}
pub use Rattle.afdx_conform.specs.Thinned.{IsAmong as Among}

pub among-some : (s : State) (xs : List State) → Among s xs → IsSomeState xs
among-some s [] h = absurd h
among-some s (x ∷ more) h = tt

pub some-among : (xs : List State) → IsSomeState xs → (s : State) × Among s xs
some-among [] h = absurd h
some-among (x ∷ more) h = (x, inl refl)

pub among-left : (s : State) (xs ys : List State) → Among s xs → Among s (xs ++ ys)
among-left s [] ys h = absurd h
among-left s (x ∷ xs) ys (inl e) = inl e
among-left s (x ∷ xs) ys (inr h) = inr (among-left s xs ys h)

pub among-right : (s : State) (xs ys : List State) → Among s ys → Among s (xs ++ ys)
among-right s [] ys h = h
among-right s (x ∷ xs) ys h = inr (among-right s xs ys h)

pub among-cases : (s : State) (xs ys : List State) → Among s (xs ++ ys) → Among s xs ⊎ Among s ys
among-cases s [] ys h = inr h
among-cases s (x ∷ xs) ys (inl e) = inl (inl e)
among-cases s (x ∷ xs) ys (inr h) = more (among-cases s xs ys h)
  where
    more : Among s xs ⊎ Among s ys → Among s (x ∷ xs) ⊎ Among s ys
    more (inl a) = inl (inr a)
    more (inr b) = inr b

pub led-among : (lead : State → List State) (xs : List State) (s t : State) → Among s xs
    → Among t (lead s) → Among t (led_by lead xs)
unfolding led_by
led-among lead [] s t h k = absurd h
led-among lead (x ∷ xs) s t (inl e) k =
    among-left t (lead x) (led_by lead xs) (subst (λ r. Among t (lead r)) (sym e) k)
led-among lead (x ∷ xs) s t (inr h) k =
    among-right t (lead x) (led_by lead xs) (led-among lead xs s t h k)

-- where one leads to t
pub record LeadsTo (lead : State → List State) (xs : List State) (t : State) : Type 0 where
  pub of : State
  pub among : Among of xs
  pub to : Among t (lead of)

pub led-from : (lead : State → List State) (xs : List State) (t : State) → Among t (led_by lead xs)
    → LeadsTo lead xs t
unfolding led_by
led-from lead [] t h = absurd h
led-from lead (x ∷ xs) t h = by (among-cases t (lead x) (led_by lead xs) h) (λ k. led-from lead xs t k)
  where
    by : Among t (lead x) ⊎ Among t (led_by lead xs) → (Among t (led_by lead xs) → LeadsTo lead xs t)
        → LeadsTo lead (x ∷ xs) t
    by (inl k) rest = record { of = x; among = inl refl; to = k }
    by (inr k) rest = let r = rest k in record { of = r.of; among = inr r.among; to = r.to }

pub kept-among : (test : State → Bool) (xs : List State) (s : State) → Among s xs → test s ≡ true
    → Among s (kept test xs)
unfolding kept
kept-among test [] s h e = absurd h
kept-among test (x ∷ xs) s (inl is) e = by (test x) refl
  where
    by : (b : Bool) → test x ≡ b → Among s (if b then x ∷ kept test xs else kept test xs)
    by true k = inl is
    by false k = let passes : test x ≡ true = subst (λ r. test r ≡ true) (sym is) e in absurd (cc)
kept-among test (x ∷ xs) s (inr h) e = by (test x) (kept-among test xs s h e)
  where
    by : (b : Bool) → Among s (kept test xs) → Among s (if b then x ∷ kept test xs else kept test xs)
    by true k = inr k
    by false k = k

pub kept-from : (test : State → Bool) (xs : List State) (s : State) → Among s (kept test xs)
    → Among s xs × (test s ≡ true)
unfolding kept
kept-from test [] s h = absurd h
kept-from test (x ∷ xs) s h = by (test x) refl h (λ k. kept-from test xs s k)
  where
    by : (b : Bool) → test x ≡ b → Among s (if b then x ∷ kept test xs else kept test xs)
        → (Among s (kept test xs) → Among s xs × (test s ≡ true)) → Among s (x ∷ xs) × (test s ≡ true)
    by true k (inl is) rest = (inl is, subst (λ r. test r ≡ true) is k)
    by true k (inr m) rest = let r = rest m in (inr r.0, r.1)
    by false k m rest = let r = rest m in (inr r.0, r.1)
