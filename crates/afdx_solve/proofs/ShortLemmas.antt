-- Where no link is short, each leaves what is asked for; and the first that is, of one place more.
use Rattle.std.proofs.Common.{◌≡◌, inl, inr, ℕ, zero, suc, ◌+◌, ◌<◌, ◌≤◌, nat_lt, List, length, Option, Some, None}
use Rattle.std.proofs.Common.{slice_get, option_map, option_and_then, if◌then◌else◌, refl, sym, ap, ◌∙◌, subst, arith}
use Rattle.std.proofs.Common.{add-one}
use Rattle.std.specs.Prelude.{IfSome}
use Rattle.std.specs.Option.{option_or}
use Rattle.std.proofs.lemmas.Bool.{cases_lt, lt-ltb}
use Rattle.std.proofs.lemmas.Option.{same_Some, slice_get_within}
use Rattle.afdx_config.specs.Reading.{link_of}
use Rattle.afdx_config.specs.Rows.{LinkRow, Rows}
use Rattle.afdx_config.specs.Switches.{NamedRows}
use Rattle.afdx_config.specs.AtSwitch.{tables_at}
use Rattle.afdx_admit.specs.Apart.{link_apart, row_apart_at, lesser, apart_at, apart_over}
use Rattle.afdx_admit.specs.Cascade.{row_of}
use Rattle.afdx_solve.specs.declared.short.Short.{Short}
use Rattle.afdx_solve.specs.declared.short.ShortAt.{ShortAt}
use Rattle.afdx_solve.specs.Short.{if_less, short_if, first_of, short_link, first_short, short_row, short_place}
use Rattle.afdx_solve.specs.Short.{at_switch, short_switch, first_short_at, NoneIsShort, NoneIsShortAt}

module _ {X : Type 0} (short : ℕ → Option X) where
  pub first-nowhere : None ≡ first_of short 0
  unfolding first_of
  first-nowhere = refl

  first-more : (count : ℕ) → first_of short (count + 1) ≡ option_or (first_of short count) (short count)
  unfolding first_of
  first-more count = rw add-one refl

  pub first-next : (count : ℕ) (before here after : Option X) → before ≡ first_of short count → here ≡ short count
      → after ≡ option_or before here → after ≡ first_of short (count + 1)
  first-next count before here after e f g =
      g ∙ ap (λ o. option_or o here) e ∙ ap (option_or (first_of short count)) f ∙ sym (first-more count)

  none-both : (a b : Option X) → option_or a b ≡ None → (a ≡ None) × (b ≡ None)
  none-both None b h = (refl, h)
  none-both (Some x) b h = absurd (cc h)

  pub none-of : (count : ℕ) → first_of short count ≡ None → (i : ℕ) → i < count → short i ≡ None
  unfolding first_of
  none-of zero none i less = absurd (omega (arith, less))
  none-of (suc count) none i less =
      let both = none-both (first_of short count) (short count) none in
      elim (cases_lt i count) [
        | inl before ↦ none-of count both.0 i before
        | inr past ↦ let same : count ≡ i = omega (arith, past, less) in subst (λ n. short n ≡ None) same both.1
      ]

enough : (apart vl ns : ℕ) → if_less apart vl ns ≡ None → apart ≤ ns
enough apart vl ns none = elim (cases_lt ns apart) [
  | inl less ↦
      let short : if_less apart vl ns ≡ Some (record { vl = record { 0 = vl }; ns = ns }) =
      ap (λ b. if b then Some (let s : Short = record { vl = record { 0 = vl }; ns = ns } in s) else None)
      (lt-ltb ns apart less) in
      absurd (cc (none, short))
  | inr past ↦ past
]

pub none-short : NoneIsShort
unfolding short_link
none-short apart t none i l ns at left =
    let here = none-of (short_link apart t) (length t.links) none i (slice_get_within t.links i l at) in
    let step : short_link apart t i ≡ if_less apart l.vl ns =
    ap (option_and_then (λ (r : LinkRow). short_if apart r.vl (link_apart t r))) at
    ∙ ap (option_and_then (if_less apart l.vl)) left in
    enough apart l.vl ns (sym step ∙ here)

-- ---- several switches

and-then : {A B : Type 0} (f : A → Option B) (o : Option A) (y : B) → option_and_then f o ≡ Some y
    → (x : A) × (o ≡ Some x) × (f x ≡ Some y)
and-then f None y h = absurd (cc h)
and-then f (Some x) y h = (x, refl, h)

map-none : {A B : Type 0} (f : A → B) (o : Option A) → option_map f o ≡ None → o ≡ None
map-none f None h = refl
map-none f (Some x) h = absurd (cc h)

AtLeast : ℕ → Option ℕ → Type 0
AtLeast apart None = Unit {0}
AtLeast apart (Some ns) = apart ≤ ns

lesser-least : (apart : ℕ) (a b : Option ℕ) → AtLeast apart a → AtLeast apart b → AtLeast apart (lesser a b)
unfolding AtLeast
lesser-least apart None b p q = q
lesser-least apart (Some x) None p q = p
lesser-least apart (Some x) (Some y) p q = omega (arith, p, q)

module _ (apart : ℕ) (ss : List NamedRows) (none : first_short_at apart ss ≡ None) (vl : ℕ) where
  row-leaves : (k i ns : ℕ) (s : NamedRows) (l : LinkRow) → slice_get ss k ≡ Some s → slice_get s.rows.links i ≡ Some l
      → row_apart_at ss k s.rows l ≡ Some ns → apart ≤ ns
  unfolding short_switch short_place
  row-leaves k i ns s l at there left =
      let t : Rows = s.rows in
      let switch = none-of (short_switch apart ss) (length ss) none k (slice_get_within ss k s at) in
      let step : short_switch apart ss k
      ≡ option_map (at_switch k) (first_of (short_place apart ss k t) (length t.links)) =
      ap (λ o. option_and_then (λ (r : Rows). option_map (at_switch k)
      (first_of (short_place apart ss k r) (length r.links))) (option_map (λ (n : NamedRows). n.rows) o)) at in
      let rows = map-none (at_switch k) (first_of (short_place apart ss k t) (length t.links)) (sym step ∙ switch) in
      let place = none-of (short_place apart ss k t) (length t.links) rows i (slice_get_within t.links i l there) in
      let is : short_place apart ss k t i ≡ if_less apart l.vl ns =
      ap (option_and_then (short_row apart ss k t)) there ∙ ap (option_and_then (if_less apart l.vl)) left in
      enough apart l.vl ns (sym is ∙ place)

  at-leaves : (k ns : ℕ) → apart_at ss vl k ≡ Some ns → apart ≤ ns
  unfolding apart_at
  at-leaves k ns h =
      let s = and-then (λ (s : NamedRows). option_and_then (row_apart_at ss k s.rows) (row_of s.rows vl))
      (slice_get ss k) ns h in
      let l = and-then (row_apart_at ss k s.0.rows) (row_of s.0.rows vl) ns s.2 in
      let i = and-then (slice_get s.0.rows.links) (link_of s.0.rows.links vl) l.0 l.1 in
      row-leaves k i.0 ns s.0 l.0 s.1 i.2 l.2

  at-least : (k : ℕ) → AtLeast apart (apart_at ss vl k)
  unfolding AtLeast
  at-least k = by (apart_at ss vl k) refl
    where
      by : (o : Option ℕ) → apart_at ss vl k ≡ o → AtLeast apart o
      by None h = tt
      by (Some ns) h = at-leaves k ns h

  over-least : (count : ℕ) → AtLeast apart (apart_over ss vl count)
  unfolding apart_over AtLeast
  over-least zero = tt
  over-least (suc count) =
      lesser-least apart (apart_over ss vl count) (apart_at ss vl count) (over-least count) (at-least count)

  each-leaves : (ns : ℕ) → apart_over ss vl (length ss) ≡ Some ns → apart ≤ ns
  unfolding AtLeast
  each-leaves ns left = subst (AtLeast apart) left (over-least (length ss))

-- ---- a switch where a row is short is known

module _ (apart : ℕ) (ss : List NamedRows) where
  abbrev pub IsKnown : ShortAt → Type 0
  IsKnown found = found.switch.0 < length ss

  known-switch : (k : ℕ) → IfSome (short_switch apart ss k) IsKnown
  unfolding short_switch
  known-switch k = by (slice_get ss k) refl
    where
      here : (short : Option Short) → k < length ss → IfSome (option_map (at_switch k) short) IsKnown
      here None less = tt
      here (Some short) less = less

      by : (o : Option NamedRows) → slice_get ss k ≡ o
          → IfSome (option_and_then (λ (t : Rows). option_map (at_switch k)
          (first_of (short_place apart ss k t) (length t.links))) (option_map (λ (s : NamedRows). s.rows) o)) IsKnown
      by None at = tt
      by (Some s) at =
          here (first_of (short_place apart ss k s.rows) (length s.rows.links)) (slice_get_within ss k s at)

  pub known-first : (count : ℕ) → IfSome (first_of (short_switch apart ss) count) IsKnown
  unfolding first_of
  known-first zero = tt
  known-first (suc count) =
      either (first_of (short_switch apart ss) count) (short_switch apart ss count) (known-first count)
      (known-switch count)
    where
      either : (a b : Option ShortAt) → IfSome a IsKnown → IfSome b IsKnown → IfSome (option_or a b) IsKnown
      either None b p q = q
      either (Some x) b p q = p

pub none-short-at : NoneIsShortAt
none-short-at apart ss none vl ns left = each-leaves apart ss none vl ns left
