-- The order of events.
use Rattle.std.proofs.Common.{◌≡◌, ℕ, ◌<◌, ◌≤◌, List, [], ◌∷◌, ◌++◌, refl, ap, sym, ◌∙◌, subst}
use Rattle.std.proofs.Common.{Bool, true, false, IsTrue, nat_lt, arith, ◌⊎◌, inl, inr}
use Rattle.std.proofs.Common.{if◌then◌else◌}
use Rattle.std.proofs.lemmas.Grind.{common_steps}
use Rattle.std.specs.List.{AllByRecursion}
use Rattle.afdx_network.specs.Events.{Event}
use Rattle.afdx_network.specs.Order.{key, is_below, is_before, IsAmong, AreThose}

nat_lt_self : (n : ℕ) → nat_lt n n ≡ false
nat_lt_self n = grind (arith, common_steps)

pub below_self : (ns : List ℕ) → is_below ns ns ≡ false
below_self [] = refl
below_self (n ∷ ns) = rw (nat_lt_self n) (below_self ns)

pub below_back : (ms ns : List ℕ) → is_below ms ns ≡ true → is_below ns ms ≡ false
below_back [] [] h = refl
below_back [] (n ∷ ns) h = refl
below_back (m ∷ ms) [] h = absurd (grind (arith, common_steps, h))
below_back (m ∷ ms) (n ∷ ns) h = by_first (below_back ms ns) (nat_lt m n) (nat_lt n m) refl refl h
  where
    by_first : (is_below ms ns ≡ true → is_below ns ms ≡ false) → (a b : Bool) → nat_lt m n ≡ a
        → nat_lt n m ≡ b → (if a then true else if b then false else is_below ms ns) ≡ true
        → (if b then true else if a then false else is_below ns ms) ≡ false
    by_first later true true p q r = absurd (grind (arith, common_steps, p, q))
    by_first later true false p q r = refl
    by_first later false true p q r = absurd (grind (arith, common_steps, r))
    by_first later false false p q r = later r

pub below_trans : (ls ms ns : List ℕ) → is_below ls ms ≡ true → is_below ms ns ≡ true → is_below ls ns ≡ true
below_trans [] [] ns h k = absurd (grind (arith, common_steps, h))
below_trans [] (m ∷ ms) [] h k = absurd (grind (arith, common_steps, k))
below_trans [] (m ∷ ms) (n ∷ ns) h k = refl
below_trans (l ∷ ls) [] ns h k = absurd (grind (arith, common_steps, h))
below_trans (l ∷ ls) (m ∷ ms) [] h k = absurd (grind (arith, common_steps, k))
below_trans (l ∷ ls) (m ∷ ms) (n ∷ ns) h k =
    by_first (below_trans ls ms ns) (nat_lt l m) (nat_lt m l) (nat_lt m n) (nat_lt n m) (nat_lt l n)
    (nat_lt n l) refl refl refl refl refl refl h k
  where
    by_first : (is_below ls ms ≡ true → is_below ms ns ≡ true → is_below ls ns ≡ true)
        → (a b c d e f : Bool) → nat_lt l m ≡ a → nat_lt m l ≡ b → nat_lt m n ≡ c → nat_lt n m ≡ d
        → nat_lt l n ≡ e → nat_lt n l ≡ f →
        (if a then true else if b then false else is_below ls ms) ≡ true
        → (if c then true else if d then false else is_below ms ns) ≡ true
        → (if e then true else if f then false else is_below ls ns) ≡ true
    by_first later a b c d true f p q r s t u h k = refl
    by_first later true b true d false f p q r s t u h k = absurd (grind (arith, common_steps, p, r, t))
    by_first later true b false true false f p q r s t u h k = absurd (grind (arith, common_steps, k))
    by_first later true b false false false f p q r s t u h k = absurd (grind (arith, common_steps, p, r, s, t))
    by_first later false true c d false f p q r s t u h k = absurd (grind (arith, common_steps, h))
    by_first later false false true d false f p q r s t u h k = absurd (grind (arith, common_steps, p, q, r, t))
    by_first later false false false true false f p q r s t u h k = absurd (grind (arith, common_steps, k))
    by_first later false false false false false true p q r s t u h k =
        absurd (grind (arith, common_steps, p, q, r, s, u))
    by_first later false false false false false false p q r s t u h k = later h k

pub before_trans : (c d e : Event) → is_before c d ≡ true → is_before d e ≡ true → is_before c e ≡ true
before_trans c d e h k = below_trans (key c) (key d) (key e) h k

pub below_first : (m n : ℕ) (ms ns : List ℕ) → m < n → is_below (m ∷ ms) (n ∷ ns) ≡ true
below_first m n ms ns lt = let e : nat_lt m n ≡ true = grind (arith, common_steps) in rw e refl

pub below_next : (m n : ℕ) (ms ns : List ℕ) → m ≤ n → is_below ms ns ≡ true → is_below (m ∷ ms) (n ∷ ns) ≡ true
below_next m n ms ns le h =
    let back : nat_lt n m ≡ false = grind (arith, common_steps) in
    rw (back, h) (by (nat_lt m n))
  where
    by : (b : Bool) → (if b then true else true) ≡ true
    by true = refl
    by false = refl

-- of two different keys one is below the other
pub below_total : (ms ns : List ℕ) → is_below ms ns ≡ false → is_below ns ms ≡ false → ms ≡ ns
below_total [] [] h k = refl
below_total [] (n ∷ ns) h k = absurd (grind (arith, common_steps, h))
below_total (m ∷ ms) [] h k = absurd (grind (arith, common_steps, k))
below_total (m ∷ ms) (n ∷ ns) h k = by_first (below_total ms ns) (nat_lt m n) (nat_lt n m) refl refl h k
  where
    by_first : (is_below ms ns ≡ false → is_below ns ms ≡ false → ms ≡ ns) → (a b : Bool)
        → nat_lt m n ≡ a → nat_lt n m ≡ b →
        (if a then true else if b then false else is_below ms ns) ≡ false
        → (if b then true else if a then false else is_below ns ms) ≡ false → m ∷ ms ≡ n ∷ ns
    by_first later true b p q h k = absurd (grind (arith, common_steps, h))
    by_first later false true p q h k = absurd (grind (arith, common_steps, k))
    by_first later false false p q h k = let same : m ≡ n = grind (arith, common_steps, p, q) in
        ap (λ x. x ∷ ms) same ∙ ap (λ xs. n ∷ xs) (later h k)

pub all_among : (p : Event → Type 0) (e : Event) (ds : List Event) → AllByRecursion p ds → IsAmong e ds → p e
all_among p e [] all among = elim among [ ]
all_among p e (d ∷ ds) all (inl same) = subst p (sym same) all.0
all_among p e (d ∷ ds) all (inr later) = all_among p e ds all.1 later

-- what holds of each of some events holds of all
pub all_from : (p : Event → Type 0) (ds : List Event) → ((e : Event) → IsAmong e ds → p e) → AllByRecursion p ds
all_from p [] each = tt
all_from p (d ∷ ds) each = (each d (inl refl), all_from p ds (λ e among. each e (inr among)))

pub among_left : (e : Event) (xs ys : List Event) → IsAmong e xs → IsAmong e (xs ++ ys)
among_left e [] ys h = elim h [ ]
among_left e (x ∷ xs) ys (inl same) = inl same
among_left e (x ∷ xs) ys (inr later) = inr (among_left e xs ys later)

pub among_right : (e : Event) (xs ys : List Event) → IsAmong e ys → IsAmong e (xs ++ ys)
among_right e [] ys h = h
among_right e (x ∷ xs) ys h = inr (among_right e xs ys h)

pub among_either : (e : Event) (xs ys : List Event) → IsAmong e (xs ++ ys) → IsAmong e xs ⊎ IsAmong e ys
among_either e [] ys h = inr h
among_either e (x ∷ xs) ys (inl same) = inl (inl same)
among_either e (x ∷ xs) ys (inr later) = elim (among_either e xs ys later) [ inl a ↦ inl (inr a) | inr b ↦ inr b ]

-- the latest event of one list is that of another with the same events
same_latest : (is_meant : Event → Type 0) (d e : Event) (ds es : List Event)
    → AreThose is_meant (d ∷ ds) → AreThose is_meant (e ∷ es) → d ≡ e
same_latest is_meant d e ds es a b = by_places (b.all d (a.own d (inl refl))) (a.all e (b.own e (inl refl)))
  where
    by_places : IsAmong d (e ∷ es) → IsAmong e (d ∷ ds) → d ≡ e
    by_places (inl same) q = same
    by_places (inr earlier) (inl same) = sym same
    by_places (inr earlier) (inr later) = absurd (
        let below : is_below (key d) (key e) ≡ true =
        all_among (λ x. IsTrue (is_before x e)) d es b.in_order.0 earlier in
        let above : is_below (key e) (key d) ≡ true = all_among (λ x. IsTrue (is_before x d)) e ds a.in_order.0 later in
        grind (arith, common_steps, above, below_back (key d) (key e) below))

-- an event stands once in a list in order
pub not_again : (e : Event) (ds : List Event) → AllByRecursion (λ d. IsTrue (is_before d e)) ds → IsAmong e ds → ⊥
not_again e ds all among =
    let below : is_below (key e) (key e) ≡ true = all_among (λ d. IsTrue (is_before d e)) e ds all among in
    grind (arith, common_steps, below, below_self (key e))

-- without its latest event
without_latest : (is_meant : Event → Type 0) (e : Event) (es : List Event)
    → AreThose is_meant (e ∷ es) → AreThose (λ d. is_meant d × (d ≡ e → ⊥)) es
without_latest is_meant e es a = record {
  in_order = a.in_order.1;
  own = λ d among. (a.own d (inr among), λ same. not_again e es a.in_order.0 (subst (λ x. IsAmong x es) same among));
  all = λ d meant. elim (a.all d meant.0) [ inl same ↦ absurd (meant.1 same) | inr among ↦ among ];
}

pub same_events : (is_meant : Event → Type 0) (a b : List Event) → AreThose is_meant a → AreThose is_meant b → a ≡ b
same_events is_meant [] [] a b = refl
same_events is_meant [] (e ∷ es) a b = elim (a.all e (b.own e (inl refl))) [ ]
same_events is_meant (d ∷ ds) [] a b = elim (b.all d (a.own d (inl refl))) [ ]
same_events is_meant (d ∷ ds) (e ∷ es) a b =
    let same = same_latest is_meant d e ds es a b in
    let there = subst (λ x. AreThose is_meant (x ∷ es)) (sym same) b in
    let rest = same_events (λ x. is_meant x × (x ≡ d → ⊥)) ds es (without_latest is_meant d ds a)
    (without_latest is_meant d es there) in
    ap (λ xs. d ∷ xs) rest ∙ ap (λ x. x ∷ es) same
