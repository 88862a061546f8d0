-- Which streams are judged.
use Rattle.std.proofs.Common.{◌≡◌, ℕ, ◌+◌, ◌<◌, arith, inl, inr, ◌⊎◌, Bool, true, false, ◌||◌, List, [], ◌∷◌, ◌++◌, get_or, length, map, refl, take, sym, ap, ◌∙◌, subst, true≢false}
use Rattle.std.proofs.lemmas.Bool.{eqb-true}
use Rattle.std.proofs.lemmas.List.{append-nil, take_more}
use Rattle.std.proofs.lemmas.List.Elements.{filter-append}
use Rattle.std.proofs.lemmas.Option.{get_or_from_slice_get, slice_get_within}
use Rattle.std.specs.Prelude.{Option, Some, None, cond, filter, slice_get, nat_eq, option_and_then, if◌then◌else◌}
use Rattle.std.specs.List.{list_any}
use Rattle.afdx_law_bounds.specs.Tables.{port_of}
use Rattle.afdx_config.specs.Rows.{LinkRow, Rows}
use Rattle.afdx_frame.specs.declared.link.Side.{Side}
use Rattle.afdx_command_conform.specs.Sight.{Sight}
use Rattle.afdx_command_conform.specs.Tapped.{is_judged, judged_to, link_to, unseen_among, unseen_to}

module _ (t : Rows) (sight : Sight) (side : Side) (place port : ℕ) (l : LinkRow) where
  pub to-judged : link_to t place port ≡ Some l → is_judged t sight side l port ≡ true
      → judged_to t sight side place port ≡ Some l
  unfolding judged_to
  to-judged to judged =
      ap (λ o. option_and_then (λ k. if is_judged t sight side k port then Some k else None) o) to
      ∙ ap (λ b. if b then Some l else None) judged

  pub not-judged : link_to t place port ≡ Some l → is_judged t sight side l port ≡ false
      → judged_to t sight side place port ≡ None
  unfolding judged_to
  not-judged to judged =
      ap (λ o. option_and_then (λ k. if is_judged t sight side k port then Some k else None) o) to
      ∙ ap (λ b. if b then Some l else None) judged

  -- a stream that is judged goes there
  pub judged-is : judged_to t sight side place port ≡ Some l
      → (link_to t place port ≡ Some l) × (is_judged t sight side l port ≡ true)
  unfolding judged_to
  judged-is is = by (link_to t place port) refl is
    where
      judged-by : (k : LinkRow) (b : Bool) → is_judged t sight side k port ≡ b → link_to t place port ≡ Some k
          → (if b then Some k else None) ≡ Some l
          → (link_to t place port ≡ Some l) × (is_judged t sight side l port ≡ true)
      judged-by k true e to h = let same : k ≡ l = cc in
          (to ∙ ap (λ x. Some x) same, ap (λ x. is_judged t sight side x port) (sym same) ∙ e)
      judged-by k false e to h = absurd (cc)

      by : (o : Option LinkRow) → link_to t place port ≡ o
          → option_and_then (λ k. if is_judged t sight side k port then Some k else None) o ≡ Some l
          → (link_to t place port ≡ Some l) × (is_judged t sight side l port ≡ true)
      by None none h = absurd (cc)
      by (Some k) to h = judged-by k (is_judged t sight side k port) refl to h

  -- that of a link that goes there is, or not
  pub judged-cases : link_to t place port ≡ Some l
      → ((judged_to t sight side place port ≡ Some l) × (is_judged t sight side l port ≡ true))
      ⊎ ((judged_to t sight side place port ≡ None) × (is_judged t sight side l port ≡ false))
  judged-cases to = by (is_judged t sight side l port) refl
    where
      by : (b : Bool) → is_judged t sight side l port ≡ b
          → ((judged_to t sight side place port ≡ Some l) × (is_judged t sight side l port ≡ true))
          ⊎ ((judged_to t sight side place port ≡ None) × (is_judged t sight side l port ≡ false))
      by true e = inl (to-judged to e, e)
      by false e = inr (not-judged to e, e)

pub no-stream : (t : Rows) (sight : Sight) (side : Side) (place port : ℕ) → link_to t place port ≡ None
    → judged_to t sight side place port ≡ None
unfolding judged_to
no-stream t sight side place port to =
    ap (λ o. option_and_then (λ k. if is_judged t sight side k port then Some k else None) o) to

-- ---- the ports that are recorded, of those of some systems

abbrev pub seen_ports : Rows → Sight → Side → List ℕ → List ℕ
seen_ports t sight side to = filter (sight.is_seen side) (map (port_of t) to)

-- one among those that pass a test passes it
pub any-kept : (f : ℕ → Bool) (p : ℕ) (xs : List ℕ) → list_any (λ q. nat_eq q p) (filter f xs) ≡ true → f p ≡ true
any-kept f p [] h = absurd (true≢false (sym h))
any-kept f p (x ∷ xs) h = by (f x) refl h (λ h'. any-kept f p xs h')
  where
    here : (b : Bool) → nat_eq x p ≡ b → (b || list_any (λ q. nat_eq q p) (filter f xs)) ≡ true → f x ≡ true
        → (list_any (λ q. nat_eq q p) (filter f xs) ≡ true → f p ≡ true) → f p ≡ true
    here true e h' fx more = subst (λ n. f n ≡ true) (eqb-true x p e) fx
    here false e h' fx more = more h'

    by : (b : Bool) → f x ≡ b → list_any (λ q. nat_eq q p) (cond b (x ∷ filter f xs) (filter f xs)) ≡ true
        → (list_any (λ q. nat_eq q p) (filter f xs) ≡ true → f p ≡ true) → f p ≡ true
    by true fx h' more = here (nat_eq x p) refl h' fx more
    by false fx h' more = more h'

-- one that passes it is among them
pub any-passes : (f : ℕ → Bool) (p : ℕ) (xs : List ℕ) → f p ≡ true → list_any (λ q. nat_eq q p) xs ≡ true
    → list_any (λ q. nat_eq q p) (filter f xs) ≡ true
any-passes f p [] fp h = absurd (true≢false (sym h))
any-passes f p (x ∷ xs) fp h = by (f x) refl (nat_eq x p) refl h (λ h'. any-passes f p xs fp h')
  where
    by : (b : Bool) → f x ≡ b → (e : Bool) → nat_eq x p ≡ e → (e || list_any (λ q. nat_eq q p) xs) ≡ true
        → (list_any (λ q. nat_eq q p) xs ≡ true → list_any (λ q. nat_eq q p) (filter f xs) ≡ true)
        → list_any (λ q. nat_eq q p) (cond b (x ∷ filter f xs) (filter f xs)) ≡ true
    by true fx true e h' more = ap (λ v. v || list_any (λ q. nat_eq q p) (filter f xs)) e
    by true fx false e h' more = ap (λ v. v || list_any (λ q. nat_eq q p) (filter f xs)) e ∙ more h'
    by false fx true e h' more = absurd (true≢false (sym fp ∙ sym (ap f (eqb-true x p e)) ∙ fx))
    by false fx false e h' more = more h'

-- none is among fewer
pub any-fewer : (f : ℕ → Bool) (p : ℕ) (xs : List ℕ) → list_any (λ q. nat_eq q p) xs ≡ false
    → list_any (λ q. nat_eq q p) (filter f xs) ≡ false
any-fewer f p [] h = refl
any-fewer f p (x ∷ xs) h = by (f x) (nat_eq x p) refl h (λ h'. any-fewer f p xs h')
  where
    by : (b e : Bool) → nat_eq x p ≡ e → (e || list_any (λ q. nat_eq q p) xs) ≡ false
        → (list_any (λ q. nat_eq q p) xs ≡ false → list_any (λ q. nat_eq q p) (filter f xs) ≡ false)
        → list_any (λ q. nat_eq q p) (cond b (x ∷ filter f xs) (filter f xs)) ≡ false
    by b true e h' more = absurd (true≢false h')
    by true false e h' more = ap (λ v. v || list_any (λ q. nat_eq q p) (filter f xs)) e ∙ more h'
    by false false e h' more = more h'

-- one more that passes, or doesn't
pub filter-push : (f : ℕ → Bool) (xs : List ℕ) (x : ℕ) → f x ≡ false → filter f (xs ++ x ∷ []) ≡ filter f xs
filter-push f xs x e = filter-append f xs (x ∷ []) ∙ ap (λ b. filter f xs ++ cond b (x ∷ []) []) e
    ∙ append-nil (filter f xs)

pub filter-pushed : (f : ℕ → Bool) (xs : List ℕ) (x : ℕ) → f x ≡ true → filter f (xs ++ x ∷ []) ≡ filter f xs ++ x ∷ []
filter-pushed f xs x e = filter-append f xs (x ∷ []) ∙ ap (λ b. filter f xs ++ cond b (x ∷ []) []) e

-- ---- how many streams aren't judged

module _ (t : Rows) (sight : Sight) (side : Side) where
  pub unseen-append : (l : LinkRow) (xs : List ℕ) (system : ℕ) → unseen_to t sight side l (xs ++ system ∷ [])
      ≡ unseen_to t sight side l xs + (if is_judged t sight side l (port_of t system) then 0 else 1)
  unfolding unseen_to
  unseen-append l [] system = omega arith
  unseen-append l (x ∷ xs) system = let h = unseen-append l xs system in omega (arith, h)

  pub unseen-none : (l : LinkRow) → unseen_to t sight side l [] ≡ 0
  unfolding unseen_to
  unseen-none l = refl

  pub among-none : unseen_among t sight side [] ≡ 0
  unfolding unseen_among
  among-none = refl

  pub among-append : (xs : List LinkRow) (l : LinkRow) → unseen_among t sight side (xs ++ l ∷ [])
      ≡ unseen_among t sight side xs + unseen_to t sight side l l.to
  unfolding unseen_among
  among-append [] l = omega arith
  among-append (x ∷ xs) l = let h = among-append xs l in omega (arith, h)

  -- one more system
  pub unseen-next : (l : LinkRow) (rank system : ℕ) → system ≡ get_or l.to rank system → rank < length l.to
      → unseen_to t sight side l (take (rank + 1) l.to)
      ≡ unseen_to t sight side l (take rank l.to) + (if is_judged t sight side l (port_of t system) then 0 else 1)
  unseen-next l rank system is lt =
      ap (λ xs. unseen_to t sight side l xs) (take_more l.to rank system lt ∙ ap (λ n. take rank l.to ++ n ∷ [])
      (sym is))
      ∙ unseen-append l (take rank l.to) system

  -- one more link
  pub among-next : (links : List LinkRow) (place : ℕ) (l : LinkRow) → slice_get links place ≡ Some l
      → unseen_among t sight side (take (place + 1) links)
      ≡ unseen_among t sight side (take place links) + unseen_to t sight side l l.to
  among-next links place l at =
      ap (λ xs. unseen_among t sight side xs) (take_more links place l (slice_get_within links place l at)
      ∙ ap (λ x. take place links ++ x ∷ []) (get_or_from_slice_get links place l l at))
      ∙ among-append (take place links) l
