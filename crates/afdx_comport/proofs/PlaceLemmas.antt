use Rattle.std.proofs.Common.{◌≡◌, ℕ, suc, ◌+◌, ◌<◌, Bool, true, false, cond, inl, inr, ◌||◌, ◌&&◌}
use Rattle.std.proofs.Common.{Option, Some, None, List, [], ◌∷◌, ◌++◌, take, length}
use Rattle.std.proofs.Common.{map, nat_eq, refl, sym, subst, ◌∙◌, ap, arith, append-nil}
use Rattle.std.specs.Prelude.{slice_get, slice_set, position, filter, is_some, IfSome, nat_lt, ◌⊎◌}
use Rattle.std.specs.List.{list_any, position_from, position_or_len}
use Rattle.std.specs.Option.{option_or}
use Rattle.std.proofs.lemmas.Bool.{eqb-true, eq-eqb, cases_eq, cond-false, and_parts, and_from, or_parts}
use Rattle.std.proofs.lemmas.Bool.{ltb-true, false_from_ne_true}
use Rattle.std.proofs.lemmas.Iterator.Adapters.{position_from-zero}
use Rattle.std.proofs.lemmas.List.{map-append}
use Rattle.std.proofs.lemmas.List.Elements.{filter-append}
use Rattle.std.proofs.lemmas.List.Folds.{position_or_len-set}
use Rattle.std.proofs.Math.ListN.{get_or, length-set}
use Rattle.std.proofs.lemmas.Option.{get_or_from_slice_get, slice_get_within, slice_get_read}
use Rattle.std.specs.HashMap as hash
use Rattle.std.specs.HashMap.{HashMap}
use Rattle.afdx_frame.specs.declared.link.VlId.{VlId}
use Rattle.afdx_frame.proofs.ListLemmas.{take-one_more, list_any-take, slice_get-push_cases, slice_get-one}
use Rattle.afdx_frame.proofs.ListLemmas.{slice_get-set_here, slice_get-set_there}
use Rattle.afdx_config.specs.Rows.{PortRow}
use Rattle.afdx_config.specs.declared.rows.Kind.TheVariants.{Sampling}
use Rattle.afdx_config.specs.Reading.{has_port}
use Rattle.afdx_config.specs.Lawful.{AreDistinct, triple}
use Rattle.afdx_comport.specs.Ports.{port_at_first, ports_at_first, is_for, is_same_key, PlacesAreOf, AreFound}
use Rattle.afdx_comport.specs.declared.com_ports.ComPort.{ComPort}
use Rattle.afdx_comport.specs.declared.held.PortMemory.{PortMemory}

-- ---- places

place_push : (p : ComPort → Bool) (n : ℕ) (xs : List ComPort) (x : ComPort) →
    position_from p n (xs ++ x ∷ []) ≡ option_or (position_from p n xs) (cond (p x) (Some (length xs + n)) None)
place_push p n [] x = ap (λ (k : ℕ). cond (p x) (Some k) None) (zero_plus n)
  where
    zero_plus : (n : ℕ) → n ≡ 0 + n
    zero_plus n = omega arith
place_push p n (y ∷ ys) x =
    at (p y) (place_push p (n + 1) ys x
    ∙ ap (λ (k : ℕ). option_or (position_from p (n + 1) ys) (cond (p x) (Some k) None))
    (moved (length ys) n))
  where
    moved : (m n : ℕ) → m + (n + 1) ≡ suc m + n
    moved m n = omega arith

    at : (b : Bool) → position_from p (n + 1) (ys ++ x ∷ [])
        ≡ option_or (position_from p (n + 1) ys) (cond (p x) (Some (length (y ∷ ys) + n)) None) →
        cond b (Some n) (position_from p (n + 1) (ys ++ x ∷ []))
        ≡ option_or (cond b (Some n) (position_from p (n + 1) ys)) (cond (p x) (Some (length (y ∷ ys) + n)) None)
    at true e = refl
    at false e = e

position_push : (p : ComPort → Bool) (xs : List ComPort) (x : ComPort) →
    position p (xs ++ x ∷ []) ≡ option_or (position p xs) (cond (p x) (Some (length xs)) None)
position_push p xs x =
    position_from-zero p (xs ++ x ∷ []) ∙ place_push p 0 xs x
    ∙ ap (λ (k : ℕ). option_or (position_from p 0 xs) (cond (p x) (Some k) None))
    (plus_zero (length xs))
    ∙ ap (λ (o : Option ℕ). option_or o (cond (p x) (Some (length xs)) None)) (sym (position_from-zero p xs))
  where
    plus_zero : (n : ℕ) → n + 0 ≡ n
    plus_zero n = omega arith

place_none : (p : ComPort → Bool) (n : ℕ) (xs : List ComPort) → list_any p xs ≡ false → position_from p n xs ≡ None
place_none p n [] h = refl
place_none p n (x ∷ xs) h =
    let both : (p x ≡ false) × (list_any p xs ≡ false) = or_parts (p x) (list_any p xs) h in
    cond-false (p x) (Some n) (position_from p (n + 1) xs) both.0 ∙ place_none p (n + 1) xs both.1

position_none : (p : ComPort → Bool) (xs : List ComPort) → list_any p xs ≡ false → position p xs ≡ None
position_none p xs h = position_from-zero p xs ∙ place_none p 0 xs h

-- a place that is found is one of the list
pub known_at : (p : ComPort → Bool) (xs : List ComPort) (o : Option ℕ) → o ≡ position p xs
    → IfSome o (λ i. i < length xs)
known_at p xs o e = subst (λ (o : Option ℕ). IfSome o (λ i. i < length xs)) (sym e)
    (at (nat_lt (position_or_len p xs) (length xs)) refl)
  where
    at : (b : Bool) → nat_lt (position_or_len p xs) (length xs) ≡ b
        → IfSome (cond b (Some (position_or_len p xs)) None) (λ i. i < length xs)
    at true e = ltb-true (position_or_len p xs) (length xs) e
    at false e = tt

-- ---- the rows so far

-- whether a port is that of the same system, link and UDP port
abbrev is_same_port : PortRow → PortRow → Bool
is_same_port port other = nat_eq other.system port.system && nat_eq other.link port.link && nat_eq other.udp port.udp

same_triple : (a b : PortRow) → is_same_port a b ≡ true → triple b ≡ triple a
same_triple a b h =
    let outer : ((nat_eq b.system a.system && nat_eq b.link a.link) ≡ true)
    × (nat_eq b.udp a.udp ≡ true) = and_parts (nat_eq b.system a.system && nat_eq b.link a.link)
    (nat_eq b.udp a.udp) h in
    let inner : (nat_eq b.system a.system ≡ true) × (nat_eq b.link a.link ≡ true) =
    and_parts (nat_eq b.system a.system) (nat_eq b.link a.link) outer.0 in
    rw (eqb-true b.system a.system inner.0, eqb-true b.link a.link inner.1, eqb-true b.udp a.udp outer.1) refl

-- the rows are distinct: none before one has its system, link and UDP port
none_before : (rows : List PortRow) (i : ℕ) (row : PortRow) → AreDistinct triple rows → slice_get rows i ≡ Some row →
    list_any (is_same_port row) (take i rows) ≡ false
unfolding AreDistinct
none_before rows i row distinct here = false_from_ne_true (list_any (is_same_port row) (take i rows)) (λ h.
    let found = list_any-take (is_same_port row) rows i h in
    let same : found.0 ≡ i = distinct found.0 i found.1 row found.3 here (same_triple row found.1 found.4) in
    omega (arith, found.2, same))

any_listed : (row : PortRow) (rows : List PortRow)
    → list_any (is_for row.link row.udp) (ports_at_first row.system rows)
    ≡ list_any (is_same_port row) rows
any_listed row [] = refl
any_listed row (x ∷ xs) = at (nat_eq x.system row.system) (any_listed row xs)
  where
    at : (b : Bool) → list_any (is_for row.link row.udp) (ports_at_first row.system xs)
        ≡ list_any (is_same_port row) xs →
        list_any (is_for row.link row.udp) (map port_at_first
        (cond b (x ∷ filter (λ (r : PortRow). nat_eq r.system row.system) xs)
        (filter (λ (r : PortRow). nat_eq r.system row.system) xs)))
        ≡ ((b && nat_eq x.link row.link && nat_eq x.udp row.udp) || list_any (is_same_port row) xs)
    at true e = ap (λ c. (nat_eq x.link row.link && nat_eq x.udp row.udp) || c) e
    at false e = e

listed_one : (system : ℕ) (rows : List PortRow) (i : ℕ) (row : PortRow) → slice_get rows i ≡ Some row →
    ports_at_first system (take (i + 1) rows) ≡ ports_at_first system (take i rows) ++ ports_at_first system (row ∷ [])
listed_one system rows i row here =
    ap (ports_at_first system) (take-one_more rows i row here)
    ∙ ap (map port_at_first) (filter-append (λ (r : PortRow). nat_eq r.system system) (take i rows) (row ∷ []))
    ∙ map-append port_at_first (filter (λ (r : PortRow). nat_eq r.system system) (take i rows))
    (filter (λ (r : PortRow). nat_eq r.system system) (row ∷ []))

pub listed_passed : (system : ℕ) (rows : List PortRow) (i : ℕ) (row : PortRow)
    → slice_get rows i ≡ Some row → nat_eq row.system system ≡ false →
    ports_at_first system (take (i + 1) rows) ≡ ports_at_first system (take i rows)
listed_passed system rows i row here other = listed_one system rows i row here
    ∙ rw other (append-nil (ports_at_first system (take i rows)))

pub listed_added : (system : ℕ) (rows : List PortRow) (i : ℕ) (row : PortRow)
    → slice_get rows i ≡ Some row → nat_eq row.system system ≡ true →
    ports_at_first system (take (i + 1) rows) ≡ ports_at_first system (take i rows) ++ port_at_first row ∷ []
listed_added system rows i row here own = listed_one system rows i row here ∙ rw own refl

-- the system has no port yet with the next row's link and UDP port
absent_before : (system : ℕ) (rows : List PortRow) (i : ℕ) (row : PortRow) →
    AreDistinct triple rows → slice_get rows i ≡ Some row → nat_eq row.system system ≡ true →
    position (is_for row.link row.udp) (ports_at_first system (take i rows)) ≡ None
absent_before system rows i row apart here own =
    position_none (is_for row.link row.udp) (ports_at_first system (take i rows))
    (rw (← eqb-true row.system system own) (any_listed row (take i rows) ∙ none_before rows i row apart here))

-- each port so far is found where it is, and the next one behind them
pub found_added : (system : ℕ) (rows : List PortRow) (i : ℕ) (row : PortRow) →
    AreDistinct triple rows → slice_get rows i ≡ Some row → nat_eq row.system system ≡ true →
    AreFound (ports_at_first system (take i rows)) →
    AreFound (ports_at_first system (take i rows) ++ port_at_first row ∷ [])
found_added system rows i row apart here own before place port e =
    at (slice_get-push_cases (ports_at_first system (take i rows)) (port_at_first row) place port e)
  where
    listed : List ComPort
    listed = ports_at_first system (take i rows)

    own_key : is_for row.link row.udp (port_at_first row) ≡ true
    own_key = and_from (nat_eq row.link row.link) (nat_eq row.udp row.udp)
        (eq-eqb row.link row.link refl) (eq-eqb row.udp row.udp refl)

    last : position (is_for row.link row.udp) (listed ++ port_at_first row ∷ []) ≡ Some (length listed)
    last =
        position_push (is_for row.link row.udp) listed (port_at_first row)
        ∙ ap (λ (o : Option ℕ). option_or o
        (cond (is_for row.link row.udp (port_at_first row)) (Some (length listed)) None))
        (absent_before system rows i row apart here own)
        ∙ ap (λ b. cond b (Some (length listed)) None) own_key

    at : (slice_get listed place ≡ Some port) ⊎ ((place ≡ length listed) × (port ≡ port_at_first row)) →
        position (is_for port.link.0 port.udp) (listed ++ port_at_first row ∷ []) ≡ Some place
    at (inl old) =
        position_push (is_for port.link.0 port.udp) listed (port_at_first row)
        ∙ ap (λ (o : Option ℕ). option_or o
        (cond (is_for port.link.0 port.udp (port_at_first row)) (Some (length listed)) None))
        (before place port old)
    at (inr new) =
        ap (λ (p : ComPort). position (is_for p.link.0 p.udp) (listed ++ port_at_first row ∷ [])) new.1
        ∙ last ∙ ap Some (sym new.0)

pub places_added : {S : Type 0} (system : ℕ) (rows : List PortRow) (i : ℕ) (row : PortRow)
    (places after : HashMap (VlId × ℕ) ℕ S) →
    AreDistinct triple rows → slice_get rows i ≡ Some row → nat_eq row.system system ≡ true →
    PlacesAreOf places (ports_at_first system (take i rows)) →
    ((q : VlId × ℕ) → hash.get is_same_key after q ≡ cond (is_same_key (record { 0 = row.link }, row.udp) q) (Some
    (length (ports_at_first system (take i rows)))) (hash.get is_same_key places q)) →
    PlacesAreOf after (ports_at_first system (take i rows) ++ port_at_first row ∷ [])
places_added system rows i row places after apart here own before updates q =
    at (is_same_key (record { 0 = row.link }, row.udp) q) refl
  where
    listed : List ComPort
    listed = ports_at_first system (take i rows)

    step : position (is_for q.0.0 q.1) (listed ++ port_at_first row ∷ [])
        ≡ option_or (position (is_for q.0.0 q.1) listed)
        (cond (is_for q.0.0 q.1 (port_at_first row)) (Some (length listed)) None)
    step = position_push (is_for q.0.0 q.1) listed (port_at_first row)

    or_none : (o : Option ℕ) → option_or o None ≡ o
    or_none None = refl
    or_none (Some x) = refl

    absent : row.link ≡ q.0.0 → row.udp ≡ q.1 → position (is_for q.0.0 q.1) listed ≡ None
    absent link udp = rw (← link, ← udp) (absent_before system rows i row apart here own)

    at : (b : Bool) → is_same_key (record { 0 = row.link }, row.udp) q ≡ b →
        hash.get is_same_key after q ≡ position (is_for q.0.0 q.1) (listed ++ port_at_first row ∷ [])
    at true e =
        let both : (nat_eq row.link q.0.0 ≡ true) × (nat_eq row.udp q.1 ≡ true) =
        and_parts (nat_eq row.link q.0.0) (nat_eq row.udp q.1) e in
        updates q ∙ ap (λ b. cond b (Some (length listed)) (hash.get is_same_key places q)) e
        ∙ sym (step ∙ ap (λ b. option_or (position (is_for q.0.0 q.1) listed) (cond b (Some (length listed)) None)) e
        ∙ ap (λ (o : Option ℕ). option_or o (Some (length listed)))
        (absent (eqb-true row.link q.0.0 both.0) (eqb-true row.udp q.1 both.1)))
    at false e =
        updates q ∙ ap (λ b. cond b (Some (length listed)) (hash.get is_same_key places q)) e ∙ before q
        ∙ sym (step ∙ ap (λ b. option_or (position (is_for q.0.0 q.1) listed)
        (cond b (Some (length listed)) None)) e ∙ or_none
        (position (is_for q.0.0 q.1) listed))

-- ---- laws

some_any : (p : ComPort → Bool) (n : ℕ) (ports : List ComPort) → is_some (position_from p n ports) ≡ list_any p ports
some_any p n [] = refl
some_any p n (x ∷ xs) = at (p x) (some_any p (n + 1) xs)
  where
    at : (b : Bool) → is_some (position_from p (n + 1) xs) ≡ list_any p xs
        → is_some (cond b (Some n) (position_from p (n + 1) xs)) ≡ (b || list_any p xs)
    at true e = refl
    at false e = e

any_configured : (rows : List PortRow) (system link udp : ℕ)
    → list_any (is_for link udp) (ports_at_first system rows) ≡ has_port rows system link udp
unfolding has_port
any_configured rows system link udp =
    any_listed (record { system = system; link = link; udp = udp; kind = Sampling; depth = 1 }) rows

pub found_configured : (rows : List PortRow) (system link udp : ℕ) →
    is_some (position (is_for link udp) (ports_at_first system rows)) ≡ has_port rows system link udp
found_configured rows system link udp =
    ap is_some (position_from-zero (is_for link udp) (ports_at_first system rows)) ∙ some_any (is_for link udp) 0
    (ports_at_first system rows) ∙ any_configured rows system link udp

pub stays : (ports : List ComPort) (place link udp : ℕ) (port : ComPort) (held : PortMemory)
    → slice_get ports place ≡ Some port →
    position (is_for link udp) (slice_set ports place (record port { held = held })) ≡ position (is_for link udp) ports
stays ports place link udp port held here =
    let same : is_for link udp port ≡ is_for link udp (get_or ports place port) = ap (is_for link udp) (sym
    (get_or_from_slice_get ports place port port here)) in
    rw (
      position_or_len-set (is_for link udp) ports place (record port { held = held }) port same,
      length-set ports place (record port { held = held }),
    ) refl

-- a port that holds something else is found where it was, and so is each other

pub places_stay : {S : Type 0} (places : HashMap (VlId × ℕ) ℕ S) (ports : List ComPort) (place : ℕ)
    (port : ComPort) (held : PortMemory) → slice_get ports place ≡ Some port → PlacesAreOf places ports →
    PlacesAreOf places (slice_set ports place (record port { held = held }))
places_stay places ports place port held here of key =
    of key ∙ sym (stays ports place key.0.0 key.1 port held here)

pub found_stay : (ports : List ComPort) (place : ℕ) (port : ComPort) (held : PortMemory) →
    slice_get ports place ≡ Some port → AreFound ports →
    AreFound (slice_set ports place (record port { held = held }))
found_stay ports place port held here found q p e = at (cases_eq q place)
  where
    changed : ComPort
    changed = record port { held = held }

    at : (q ≡ place) ⊎ (q ≡ place → ⊥) →
        position (is_for p.link.0 p.udp) (slice_set ports place changed) ≡ Some q
    at (inl same) =
        let one : p ≡ changed = slice_get-one (slice_set ports place changed) place p changed
        (ap (slice_get (slice_set ports place changed)) (sym same) ∙ e)
        (slice_get-set_here ports place changed (slice_get_within ports place port here)) in
        ap (λ (x : ComPort). position (is_for x.link.0 x.udp) (slice_set ports place changed)) one
        ∙ stays ports place port.link.0 port.udp port held here ∙ found place port here ∙ ap Some (sym same)
    at (inr other) =
        stays ports place p.link.0 p.udp port held here
        ∙ found q p (sym (slice_get-set_there ports place q changed other) ∙ e)

pub both_stay : {S : Type 0} (places : HashMap (VlId × ℕ) ℕ S) (ports : List ComPort) (place : ℕ)
    (port : ComPort) (held : PortMemory) → place < length ports → port ≡ get_or ports place port →
    PlacesAreOf places ports × AreFound ports →
    PlacesAreOf places (slice_set ports place (record port { held = held }))
    × AreFound (slice_set ports place (record port { held = held }))
both_stay places ports place port held within read both =
    let here : slice_get ports place ≡ Some port = slice_get_read ports (length ports) place port refl within read in
    (places_stay places ports place port held here both.0, found_stay ports place port held here both.1)
