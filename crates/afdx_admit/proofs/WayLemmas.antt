-- If some number of rows is enough for a way, so is the number of switches.
use Rattle.std.proofs.Common.{◌≡◌, inl, inr, ℕ, zero, suc, ◌+◌, ◌<◌, ◌≤◌, Bool, true, false, ◌||◌, nat_eq, List, []}
use Rattle.std.proofs.Common.{◌∷◌, length, Option, Some, None, is_some, slice_get, if◌then◌else◌, refl, sym, ap, subst}
use Rattle.std.proofs.Common.{◌∙◌, arith, option_map, option_and_then}
use Rattle.std.specs.List.{list_any, AllByRecursion, IsDistinct}
use Rattle.std.proofs.lemmas.Bool.{eqb-true, cases_Bool}
use Rattle.std.proofs.lemmas.List.Quantifiers.{position-Some}
use Rattle.std.proofs.lemmas.Map.Steps.{length-le_from_distinct_below}
use Rattle.std.proofs.lemmas.Option.{same_Some, slice_get_within, slice_get-get_or}
use Rattle.afdx_config.specs.Lawful.{IsLawfulSwitch}
use Rattle.afdx_config.specs.Reading.{link_of}
use Rattle.afdx_config.specs.Rows.{LinkRow, Rows}
use Rattle.afdx_config.specs.Switches.{NamedRows, AreSwitches, switch_named}
use Rattle.afdx_config.proofs.LookUpLemmas.{each_row-found}
use Rattle.afdx_frame.proofs.ListLemmas.{AllByRecursion-slice_get}
use Rattle.afdx_admit.specs.Cascade.{RowAt, row_at, row_of, row_towards, row_from, row_before, is_sent_here}
use Rattle.afdx_admit.specs.Cascade.{neighbour_of, goes_towards, latency_within, way_latency}
use Rattle.afdx_admit.specs.AtSwitch.{link_at}

-- ---- look-ups that found something

and-then : {A B : Type 0} (f : A → Option B) (o : Option A) (y : B) → option_and_then f o ≡ Some y
    → (x : A) × (o ≡ Some x) × (f x ≡ Some y)
and-then f None y h = absurd (cc h)
and-then f (Some x) y h = (x, refl, h)

mapped : {A B : Type 0} (f : A → B) (o : Option A) (y : B) → option_map f o ≡ Some y → (x : A) × (o ≡ Some x)
    × (f x ≡ y)
mapped f None y h = absurd (cc h)
mapped f (Some x) y h = (x, refl, same_Some (f x) y h)

if-some : {A : Type 0} (b : Bool) (x y : A) → (if b then Some x else None) ≡ Some y → x ≡ y
if-some true x y h = same_Some x y h
if-some false x y h = absurd (cc h)

-- a row that a look-up finds has the identifier
vl-of : (links : List LinkRow) (vl i : ℕ) (l : LinkRow) → link_of links vl ≡ Some i → slice_get links i ≡ Some l
    → l.vl ≡ vl
unfolding link_of
vl-of links vl i l found at =
    let is = position-Some (λ (r : LinkRow). nat_eq vl r.vl) links i l found in
    let same = same_Some _ l (sym (slice_get-get_or links i l is.0) ∙ at) in
    sym (eqb-true vl l.vl (sym (ap (λ (r : LinkRow). nat_eq vl r.vl) same) ∙ is.1))

row-vl : (t : Rows) (vl : ℕ) (l : LinkRow) → row_of t vl ≡ Some l → l.vl ≡ vl
row-vl t vl l h = let place = and-then (slice_get t.links) (link_of t.links vl) l h in
    vl-of t.links vl place.0 l place.1 place.2

towards-row : (t : Rows) (name : List ℕ) (vl : ℕ) (l : LinkRow) → row_towards t name vl ≡ Some l → row_of t vl ≡ Some l
towards-row t name vl l h =
    let row = and-then (λ (r : LinkRow). if goes_towards t name r then Some r else None) (row_of t vl) l h in
    row.1 ∙ ap Some (if-some (goes_towards t name row.0) row.0 l row.2)

module _ (ss : List NamedRows) where
  -- the one row of a link at a switch
  abbrev the_row : (vl k : ℕ) → Option LinkRow
  the_row vl k = option_and_then (λ s. row_of s.rows vl) (slice_get ss k)

  the_row-at : (vl k : ℕ) (s : NamedRows) (l : LinkRow) → slice_get ss k ≡ Some s → row_of s.rows vl ≡ Some l
      → the_row vl k ≡ Some l
  the_row-at vl k s l at row = ap (option_and_then (λ (r : NamedRows). row_of r.rows vl)) at ∙ row

  record IsOf (vl : ℕ) (r : RowAt) : Type 0 where
    named : r.row.vl ≡ vl
    stands : the_row vl r.switch ≡ Some r.row

  within : (vl : ℕ) (r : RowAt) → IsOf vl r → r.switch < length ss
  within vl r h = let s = and-then (λ (s : NamedRows). row_of s.rows vl) (slice_get ss r.switch) r.row h.stands in
      slice_get_within ss r.switch s.0 s.1

  one-row : (vl : ℕ) (a b : RowAt) → IsOf vl a → IsOf vl b → a.switch ≡ b.switch → a ≡ b
  one-row vl a b ha hb same =
      let row : a.row ≡ b.row = same_Some a.row b.row (sym ha.stands ∙ ap (the_row vl) same ∙ hb.stands) in
      ap (λ k. row_at k a.row) same ∙ ap (λ l. row_at b.switch l) row

  -- a row of a switch, and the row before one
  row-stands : AreSwitches ss → (k i : ℕ) (l : LinkRow) → link_at ss k i ≡ Some l → IsOf l.vl (row_at k l)
  row-stands are k i l at =
      let s = and-then (λ (s : NamedRows). slice_get s.rows.links i) (slice_get ss k) l at in
      let lawful = AllByRecursion-slice_get (λ (r : NamedRows). IsLawfulSwitch r.rows) ss k s.0 are.each s.1 in
      record {
        named = refl;
        stands = the_row-at l.vl k s.0 l s.1
            (ap (option_and_then (slice_get s.0.rows.links)) ((each_row-found s.0.rows lawful).by_vl i l s.2) ∙ s.2);
      }

  before-stands : (r b : RowAt) → row_before ss r ≡ Some b → IsOf r.row.vl b
  unfolding row_before
  before-stands r b h =
      let vl = r.row.vl in
      let here = and-then (λ (s : NamedRows). option_and_then (row_from ss s.name vl) (neighbour_of s.rows r.row.from))
      (slice_get ss r.switch) b h in
      let from = and-then (row_from ss here.0.name vl) (neighbour_of here.0.rows r.row.from) b here.2 in
      let far =
      and-then (λ j. option_and_then (λ (s : NamedRows). option_map (row_at j) (row_towards s.rows here.0.name vl))
      (slice_get ss j)) (switch_named ss from.0.name) b from.2 in
      let there = and-then (λ (s : NamedRows). option_map (row_at far.0) (row_towards s.rows here.0.name vl))
      (slice_get ss far.0) b far.2 in
      let towards = mapped (row_at far.0) (row_towards there.0.rows here.0.name vl) b there.2 in
      let row = towards-row there.0.rows here.0.name vl towards.0 towards.1 in
      subst (IsOf vl) towards.2
      (let it : IsOf vl (row_at far.0 towards.0) = record {
        named = row-vl there.0.rows vl towards.0 row;
        stands = the_row-at vl far.0 there.0 towards.0 there.1 row;
      } in it)

  -- ---- enough rows

  abbrev enough : ℕ → RowAt → Bool
  enough n r = is_some (latency_within n ss r)

  abbrev next : ℕ → RowAt → Bool → Option RowAt → Bool
  next n r sent before = is_some (if sent then Some r.row.latency_us else
      option_and_then (λ b. option_map (λ sum. sum + r.row.latency_us) (latency_within n ss b)) before)

  summed : (o : Option ℕ) (n : ℕ) → is_some (option_map (λ sum. sum + n) o) ≡ is_some o
  summed None n = refl
  summed (Some x) n = refl

  enough-sent : (n : ℕ) (r : RowAt) → is_sent_here ss r ≡ true → enough (suc n) r ≡ true
  enough-sent n r sent = ap (λ b. next n r b (row_before ss r)) sent

  enough-none : (n : ℕ) (r : RowAt) → is_sent_here ss r ≡ false → row_before ss r ≡ None → enough (suc n) r ≡ false
  enough-none n r sent none = ap (λ b. next n r b (row_before ss r)) sent ∙ ap (λ o. next n r false o) none

  enough-next : (n : ℕ) (r b : RowAt) → is_sent_here ss r ≡ false → row_before ss r ≡ Some b
      → enough (suc n) r ≡ enough n b
  enough-next n r b sent before =
      ap (λ x. next n r x (row_before ss r)) sent ∙ ap (λ o. next n r false o) before
      ∙ summed (latency_within n ss b) r.row.latency_us

  -- with one row more
  enough-more : (n : ℕ) (r : RowAt) → enough n r ≡ true → enough (suc n) r ≡ true
  enough-more zero r h = absurd (cc h)
  enough-more (suc n) r h = by (is_sent_here ss r) refl (row_before ss r) refl (λ b. enough-more n b)
    where
      by : (sent : Bool) → is_sent_here ss r ≡ sent → (before : Option RowAt) → row_before ss r ≡ before
          → ((b : RowAt) → enough n b ≡ true → enough (suc n) b ≡ true) → enough (suc (suc n)) r ≡ true
      by true e before f later = enough-sent (suc n) r e
      by false e None f later = absurd (cc (h, enough-none n r e f))
      by false e (Some b) f later = enough-next (suc n) r b e f ∙ later b (sym (enough-next n r b e f) ∙ h)

  not-enough : (n : ℕ) (r : RowAt) → enough (suc n) r ≡ false → enough n r ≡ false
  not-enough n r h = elim (cases_Bool (enough n r)) [
    | inl is ↦ absurd (cc (h, enough-more n r is))
    | inr not_so ↦ not_so
  ]

  -- ---- the switches that were passed

  apart : (k : ℕ) (ks : List ℕ) → list_any (nat_eq k) ks ≡ false → AllByRecursion (λ j. nat_eq k j ≡ false) ks
  apart k [] h = tt
  apart k (j ∷ js) h = by (nat_eq k j) (list_any (nat_eq k) js) refl refl h (apart k js)
    where
      by : (a b : Bool) → nat_eq k j ≡ a → list_any (nat_eq k) js ≡ b → a || b ≡ false
          → (list_any (nat_eq k) js ≡ false → AllByRecursion (λ j. nat_eq k j ≡ false) js)
          → (nat_eq k j ≡ false) × AllByRecursion (λ j. nat_eq k j ≡ false) js
      by true b d e none later = absurd (cc none)
      by false b d e none later = (d, later (e ∙ none))

  -- one of them is the first or is among the rest
  member : (k j : ℕ) (js : List ℕ) (P : Type 0) → nat_eq k j || list_any (nat_eq k) js ≡ true
      → (k ≡ j → P) → (list_any (nat_eq k) js ≡ true → P) → P
  member k j js P h first rest = by (nat_eq k j) refl h
    where
      by : (b : Bool) → nat_eq k j ≡ b → b || list_any (nat_eq k) js ≡ true → P
      by true e g = first (eqb-true k j e)
      by false e g = rest g

  -- from none of the switches that were passed so many rows are enough
  module _ (vl : ℕ) where
    record ArePassed (n : ℕ) (seen : List ℕ) : Type 0 where
      distinct : IsDistinct nat_eq seen
      below : (k : ℕ) → list_any (nat_eq k) seen ≡ true → k < length ss
      stuck : (b : RowAt) → IsOf vl b → list_any (nat_eq b.switch) seen ≡ true → enough n b ≡ false

    fewer : (n : ℕ) (seen : List ℕ) → ArePassed (suc n) seen → ArePassed n seen
    fewer n seen h = record {
      distinct = h.distinct;
      below = h.below;
      stuck = λ b of passed. not-enough n b (h.stuck b of passed);
    }

    not-passed : (n : ℕ) (seen : List ℕ) (r : RowAt) → ArePassed n seen → IsOf vl r → enough n r ≡ true
        → list_any (nat_eq r.switch) seen ≡ false
    not-passed n seen r h of is = elim (cases_Bool (list_any (nat_eq r.switch) seen)) [
      | inl passed ↦ absurd (cc (is, h.stuck r of passed))
      | inr new ↦ new
    ]

    pass : (n : ℕ) (seen : List ℕ) (r : RowAt) → ArePassed (suc n) seen → IsOf vl r → enough (suc n) r ≡ true
        → enough n r ≡ false → ArePassed n (r.switch ∷ seen)
    unfolding IsDistinct
    pass n seen r h of is fails = record {
      distinct = (apart r.switch seen (not-passed (suc n) seen r h of is), h.distinct);
      below = λ k passed. member k r.switch seen (k < length ss) passed
          (λ same. subst (λ j. j < length ss) (sym same) (within vl r of)) (h.below k);
      stuck = λ b ofb passed. member b.switch r.switch seen (enough n b ≡ false) passed
          (λ same. ap (enough n) (one-row vl b r ofb of same) ∙ fails)
          (λ before. not-enough n b (h.stuck b ofb before));
    }

    few : (n : ℕ) (seen : List ℕ) → ArePassed n seen → length seen ≤ length ss
    few n seen h = length-le_from_distinct_below seen (length ss) h.distinct h.below

    -- what is said of fewer rows, from the next
    abbrev IsWhole : ℕ → Type 0
    IsWhole n = (r : RowAt) (seen : List ℕ) → IsOf vl r → ArePassed n seen → enough n r ≡ true
        → (left : ℕ) → length seen + left ≡ length ss → enough left r ≡ true

    onward : (n left : ℕ) (r : RowAt) (seen : List ℕ) → IsOf vl r → ArePassed n seen → enough (suc n) r ≡ true
        → length seen + left ≡ length ss → IsWhole n → (sent : Bool) → is_sent_here ss r ≡ sent
        → (before : Option RowAt) → row_before ss r ≡ before → enough (suc left) r ≡ true
    onward n left r seen of passed is sum later true e before f = enough-sent left r e
    onward n left r seen of passed is sum later false e None f = absurd (cc (is, enough-none n r e f))
    onward n left r seen of passed is sum later false e (Some b) f =
        let next_of : IsOf vl b = subst (λ v. IsOf v b) of.named (before-stands r b f) in
        enough-next left r b e f ∙ later b seen next_of passed (sym (enough-next n r b e f) ∙ is) left sum

    whole : (n : ℕ) → IsWhole n
    whole zero = λ r seen of passed is left sum. absurd (cc is)
    whole (suc n) = λ r seen of passed is left sum. by r seen of passed is left sum (whole n) (enough n r) refl
      where
        by : (r : RowAt) (seen : List ℕ) → IsOf vl r → ArePassed (suc n) seen → enough (suc n) r ≡ true
            → (left : ℕ) → length seen + left ≡ length ss → IsWhole n → (b : Bool) → enough n r ≡ b
            → enough left r ≡ true
        by r seen of passed is left sum later true e = later r seen of (fewer n seen passed) e left sum
        by r seen of passed is zero sum later false e =
            let all = pass n seen r passed of is e in
            absurd (omega (arith, sum, few n (r.switch ∷ seen) all))
        by r seen of passed is (suc left) sum later false e =
            onward n left r (r.switch ∷ seen) of (pass n seen r passed of is e) is (omega (arith, sum)) later
            (is_sent_here ss r) refl (row_before ss r) refl

pub ways-whole : (ss : List NamedRows) → AreSwitches ss → (k i : ℕ) (l : LinkRow) → link_at ss k i ≡ Some l
    → (n : ℕ) → is_some (latency_within n ss (row_at k l)) ≡ true → is_some (way_latency ss (row_at k l)) ≡ true
unfolding way_latency IsDistinct
ways-whole ss are k i l at n h =
    whole ss l.vl n (row_at k l) [] (row-stands ss are k i l at)
    (record { distinct = tt; below = λ k passed. absurd (cc passed); stuck = λ b of passed. absurd (cc passed) })
    h (length ss) (omega arith)
