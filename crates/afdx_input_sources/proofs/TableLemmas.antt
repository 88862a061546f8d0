-- Tables of which some places hold something, and what systems have.
use Rattle.std.specs.Option.{option_or}
use Rattle.std.proofs.Common.{◌≡◌, ◌<◌, ◌==◌, ℕ, zero, suc, List, [], ◌∷◌, length, drop, refl, sym, ◌∙◌, ap}
use Rattle.std.proofs.Common.{Option, Some, None, option_and_then, slice_get, slice_set, true, false, arith, if◌then◌else◌}
use Rattle.std.proofs.Common.{Bool, Vec, Global, ◌≢◌, get_or}
use Rattle.std.proofs.Math.ListN.{replicate}
use Rattle.std.proofs.lemmas.List.{get_or-set_other}
use Rattle.std.proofs.lemmas.Grind.{get_or-set_at, common_steps}
use Rattle.std.proofs.Common.{take, option_map, map, ◌+◌}
use Rattle.std.proofs.Common.{◌++◌, ◌≤◌, inl, inr}
use Rattle.std.proofs.lemmas.Bool.{cases_lt}
use Rattle.std.proofs.lemmas.List.{length-append}
use Rattle.std.proofs.lemmas.Option.{slice_get-map, slice_get_past, slice_get_within}
use Rattle.afdx_config.specs.Rows.{Rows, SystemRow}
use Rattle.afdx_config.specs.Switches.{NamedRows}
use Rattle.afdx_input_sources.specs.Claims.{byte_ns_at, time_in, entry_among, entry_from, of_system, own_systems}
use Rattle.afdx_input_sources.specs.Claims.{HaveTimes}
use Rattle.afdx_input_sources.specs.Places.{entry_at}
use Rattle.afdx_input_sources.specs.declared.places.TapPort.{TapPort}
use Rattle.afdx_input_sources.specs.Tables.{known}

-- nothing stands in a table of nothing
pub known-replicate : {X : Type 0} (n k : ℕ) (item : Option X) (items : List (Option X)) → item ≡ None
    → items ≡ replicate n item → known (slice_get items k) ≡ None
known-replicate n k item items is e = rw e (nothing n k item is)
  where
    nothing : {X : Type 0} (n k : ℕ) (item : Option X) → item ≡ None → known (slice_get (replicate n item) k) ≡ None
    nothing zero k item is = refl
    nothing (suc n) zero item is = is
    nothing (suc n) (suc k) item is = nothing n k item is

-- a clone of nothing is nothing
pub only-none : {X : Type 0} (is_clone : Option X → Type 0) → ((x : X) → is_clone (Some x) → ⊥) → (y : Option X)
    → is_clone y → y ≡ None
only-none is_clone some None e = refl
only-none is_clone some (Some x) e = absurd (some x e)

known-get : {X : Type 0} (xs : List (Option X)) (k : ℕ) → known (slice_get xs k) ≡ get_or xs k None
known-get [] k = refl
known-get (x ∷ xs) zero = refl
known-get (x ∷ xs) (suc k) = known-get xs k

set-by : {X : Type 0} (xs : List (Option X)) (i j : ℕ) (x : X) (b : Bool) → (i == j) ≡ b → i < length xs
    → get_or (slice_set xs i (Some x)) j None ≡ (if b then Some x else get_or xs j None)
set-by xs i j x true e lt =
    let same : j ≡ i = grind (arith, common_steps, e) in get_or-set_at xs i j (Some x) None same lt
set-by xs i j x false e lt =
    let other : j ≢ i = grind (arith, common_steps, e) in get_or-set_other xs i j (Some x) None other

-- what was put stands at its place, and else what stood there
pub known-set : {X : Type 0} (xs : List (Option X)) (i j : ℕ) (x : X) → i < length xs
    → known (slice_get (slice_set xs i (Some x)) j) ≡ (if i == j then Some x else known (slice_get xs j))
known-set xs i j x lt =
    known-get (slice_set xs i (Some x)) j ∙ set-by xs i j x (i == j) refl lt
    ∙ ap (λ y. if i == j then Some x else y) (sym (known-get xs j))

-- the same, asked the other way round
place-by : {X : Type 0} (xs : List (Option X)) (i j : ℕ) (x : X) (b : Bool) → (j == i) ≡ b → i < length xs
    → get_or (slice_set xs i (Some x)) j None ≡ (if b then Some x else get_or xs j None)
place-by xs i j x true e lt =
    let same : j ≡ i = grind (arith, common_steps, e) in get_or-set_at xs i j (Some x) None same lt
place-by xs i j x false e lt =
    let other : j ≢ i = grind (arith, common_steps, e) in get_or-set_other xs i j (Some x) None other

pub place-set : {X : Type 0} (xs : List (Option X)) (i j : ℕ) (x : X) → i < length xs
    → known (slice_get (slice_set xs i (Some x)) j) ≡ (if j == i then Some x else known (slice_get xs j))
place-set xs i j x lt =
    known-get (slice_set xs i (Some x)) j ∙ place-by xs i j x (j == i) refl lt
    ∙ ap (λ y. if j == i then Some x else y) (sym (known-get xs j))

-- the first of some stand where they stood, and none behind them
pub get-take : {X : Type 0} (xs : List X) (n k : ℕ) (x : X) → k < n → slice_get xs k ≡ Some x
    → slice_get (take n xs) k ≡ Some x
get-take [] n k x lt e = absurd (cc)
get-take (y ∷ xs) zero k x lt e = absurd (omega (arith, lt))
get-take (y ∷ xs) (suc n) zero x lt e = e
get-take (y ∷ xs) (suc n) (suc k) x lt e = get-take xs n k x (omega (arith, lt)) e

-- from one place on
pub drop-at : {X : Type 0} (xs : List X) (k : ℕ) (x : X) → slice_get xs k ≡ Some x → drop k xs ≡ x ∷ drop (suc k) xs
drop-at [] k x e = absurd (cc)
drop-at (y ∷ xs) zero x e = let same : y ≡ x = cc in ap (λ z. z ∷ xs) same
drop-at (y ∷ xs) (suc k) x e = drop-at xs k x e

-- one system more has a time
module _ (key value : SystemRow → ℕ) where
  pub value-put : (systems : List SystemRow) (place next at x : ℕ) (s : SystemRow) (table : List (Option ℕ))
      → next ≡ suc place → at ≡ key s → x ≡ value s → slice_get systems place ≡ Some s → at < length table
      → ((n : ℕ) → known (slice_get table n) ≡ of_system key value (drop next systems) n)
      → (n : ℕ) → known (slice_get (slice_set table at (Some x)) n) ≡ of_system key value (drop place systems) n
  value-put systems place next at x s table is here same row within before n =
      known-set table at n x within
      ∙ rw (here, same) (ap (λ (p : Option ℕ). if key s == n then Some (value s) else p) (rw is at (before n)))
      ∙ sym (ap (λ (all : List SystemRow). of_system key value all n) (drop-at systems place s row))

-- one system more stands somewhere
among-if : (at port : ℕ) (b : Bool) (rest : Option ℕ) (other : Option TapPort)
    → option_or (option_map (entry_at at) (if b then Some port else rest)) other
    ≡ (if b then Some (entry_at at port) else option_or (option_map (entry_at at) rest) other)
among-if at port true rest other = refl
among-if at port false rest other = refl

pub entry-put : (switch : ℕ) (systems : List SystemRow) (place next at : ℕ) (x : TapPort) (s : SystemRow)
    (table : List (Option TapPort)) (other : ℕ → Option TapPort)
    → next ≡ suc place → at ≡ s.id → x ≡ entry_at switch s.port → slice_get systems place ≡ Some s
    → at < length table
    → ((n : ℕ) → known (slice_get table n) ≡ entry_among switch (drop next systems) n (other n))
    → (n : ℕ) → known (slice_get (slice_set table at (Some x)) n)
    ≡ entry_among switch (drop place systems) n (other n)
entry-put switch systems place next at x s table other is here same row within before n =
    known-set table at n x within
    ∙ rw (here, same) (ap (λ (p : Option TapPort). if s.id == n then Some (entry_at switch s.port) else p)
    (rw is at (before n)))
    ∙ sym (among-if switch s.port (s.id == n)
    (of_system (λ s. s.id) (λ s. s.port) (drop (suc place) systems) n) (other n))
    ∙ sym (ap (λ (all : List SystemRow). entry_among switch all n (other n)) (drop-at systems place s row))

-- where the systems of a switch and of those behind it stand
pub entry-switch : (switches : List NamedRows) (place next : ℕ) (t : Rows) (number : ℕ)
    → option_map (λ s. s.rows) (slice_get switches place) ≡ Some t → next ≡ place + 1
    → entry_among place (own_systems t) number
    (entry_from next (map (λ s. s.rows) (drop next switches)) number)
    ≡ entry_from place (map (λ s. s.rows) (drop place switches)) number
unfolding entry_from
entry-switch switches place next t number e more = by (slice_get switches place) refl
  where
    by : (s : Option NamedRows) → slice_get switches place ≡ s
        → entry_among place (own_systems t) number
        (entry_from next (map (λ s. s.rows) (drop next switches)) number)
        ≡ entry_from place (map (λ s. s.rows) (drop place switches)) number
    by None is = absurd (cc (e, is))
    by (Some s) is =
        let same : s.rows ≡ t = cc (e, is) in
        let one : suc place ≡ place + 1 = omega arith in
        let all : drop place switches ≡ s ∷ drop (place + 1) switches =
        drop-at switches place s is ∙ ap (λ (k : ℕ). s ∷ drop k switches) one in
        rw (all, same) (ap (λ (k : ℕ). entry_among place (own_systems t) number
        (entry_from k (map (λ s. s.rows) (drop k switches)) number)) more)

-- where none stands behind them
pub entry-alone : (t : Rows) (number : ℕ) → entry_among 0 (own_systems t) number None ≡ entry_from 0 (t ∷ []) number
unfolding entry_from
entry-alone t number = refl

pub no-entry : (at number : ℕ) → entry_from at [] number ≡ None
unfolding entry_from
no-entry at number = refl

-- ---- the times of each switch

-- those of the first switches
abbrev pub HaveFirst : List (Vec (Option ℕ) Global) → List NamedRows → Type 0
HaveFirst tables switches = (k : ℕ) (s : NamedRows) (port : ℕ) → slice_get switches k ≡ Some s → k < length tables
    → time_in tables k port ≡ byte_ns_at (own_systems s.rows) port

get-before : {X : Type 0} (xs : List X) (y : X) (k : ℕ) → k < length xs → slice_get (xs ++ y ∷ []) k ≡ slice_get xs k
get-before [] y k lt = absurd (omega (arith, lt))
get-before (x ∷ xs) y zero lt = refl
get-before (x ∷ xs) y (suc k) lt = get-before xs y k (omega (arith, lt))

get-last : {X : Type 0} (xs : List X) (y : X) (k : ℕ) → k ≡ length xs → slice_get (xs ++ y ∷ []) k ≡ Some y
get-last [] y k e = rw e refl
get-last (x ∷ xs) y zero e = absurd (omega (arith, e))
get-last (x ∷ xs) y (suc k) e = get-last xs y k (omega (arith, e))

none-past : {X : Type 0} (xs : List X) (k : ℕ) → slice_get xs k ≡ None → length xs ≤ k
none-past [] k e = omega arith
none-past (x ∷ xs) zero e = absurd (cc)
none-past (x ∷ xs) (suc k) e = let le = none-past xs k e in omega (arith, le)

abbrev time-at : ℕ → Option (Vec (Option ℕ) Global) → Option ℕ
time-at port table = option_and_then (λ times. known (slice_get times.items port)) table

-- one switch more
pub have-more : (tables : List (Vec (Option ℕ) Global)) (table : Vec (Option ℕ) Global)
    (switches : List NamedRows) (place : ℕ) (t : Rows) → place ≡ length tables
    → option_map (λ s. s.rows) (slice_get switches place) ≡ Some t
    → ((port : ℕ) → known (slice_get table.items port) ≡ byte_ns_at (own_systems t) port)
    → HaveFirst tables switches → HaveFirst (tables ++ table ∷ []) switches
have-more tables table switches place t here row h first k s port is lt = elim (cases_lt k (length tables)) [
  | inl before ↦
      ap (λ (o : Option (Vec (Option ℕ) Global)). time-at port o) (get-before tables table k before)
      ∙ first k s port is before
  | inr behind ↦
      let long : length (tables ++ table ∷ []) ≡ length tables + 1 = length-append tables (table ∷ []) in
      let last : k ≡ length tables = omega (arith, behind, lt, long) in
      let same : s.rows ≡ t = cc (ap (λ (i : ℕ). slice_get switches i) (last ∙ sym here), is, row) in
      ap (λ (o : Option (Vec (Option ℕ) Global)). time-at port o) (get-last tables table k last)
      ∙ h port ∙ ap (λ (r : Rows). byte_ns_at (own_systems r) port) (sym same)
]

-- all of them
pub have-all : (tables : List (Vec (Option ℕ) Global)) (switches : List NamedRows)
    → length tables ≡ length switches → HaveFirst tables switches → HaveTimes tables (map (λ s. s.rows) switches)
have-all tables switches long first k port =
    by (slice_get switches k) refl
    ∙ sym (ap (λ (o : Option Rows). option_and_then (λ t. byte_ns_at (own_systems t) port) o)
    (slice_get-map (λ (s : NamedRows). s.rows) switches k))
  where
    by : (s : Option NamedRows) → slice_get switches k ≡ s → time_in tables k port
        ≡ option_and_then (λ t. byte_ns_at (own_systems t) port) (option_map (λ s. s.rows) (slice_get switches k))
    by (Some s) is =
        let lt = slice_get_within switches k s is in
        rw is (first k s port is (omega (arith, lt, long)))
    by None is =
        let le = none-past switches k is in
        rw is (ap (time-at port) (slice_get_past tables k (omega (arith, le, long))))

-- of one switch
pub have-one : (table : Vec (Option ℕ) Global) (t : Rows)
    → ((port : ℕ) → known (slice_get table.items port) ≡ byte_ns_at (own_systems t) port)
    → HaveTimes (table ∷ []) (t ∷ [])
have-one table t h zero port = h port
have-one table t h (suc k) port = refl

-- ---- what the program holds
