use Rattle.std.proofs.Common.{◌≡◌, ℕ, zero, suc, ◌+◌, Bool, true, false, cond, ◌||◌}
use Rattle.std.proofs.Common.{◌&&◌, Option, Some, None, List, [], ◌∷◌, take, eqb}
use Rattle.std.proofs.Common.{nat_eq, refl, sym, ◌∙◌, ap, arith}
use Rattle.std.specs.Prelude.{find, slice_get, option_map}
use Rattle.std.specs.List.{list_any}
use Rattle.std.specs.Option.{option_or}
use Rattle.std.proofs.lemmas.Bool.{eqb-true, eq-eqb, cond-true, cond-false, and_parts, and_from}
use Rattle.std.proofs.lemmas.Bool.{and_left, and_right, or_parts, false_from_ne_true}
use Rattle.std.proofs.lemmas.List.Folds.{find-append, list_any-append}
use Rattle.std.specs.HashSet as bag
use Rattle.std.specs.HashSet.{HashSet}
use Rattle.afdx_frame.proofs.ListLemmas.{take-one_more, list_any-take}
use Rattle.afdx_config.specs.Rows.{LinkRow, PortRow, is_to}
use Rattle.afdx_config.specs.Reading.{has_port}
use Rattle.afdx_config.specs.Lawful.{AreDistinct}
use Rattle.afdx_receive.specs.StandsFor.{is_same_endpoint, memory_at_first}
use Rattle.afdx_receive.specs.Kept.{Kept, memory_at}
use Rattle.afdx_receive.specs.declared.receiver.Endpoint.{Endpoint}

none_found : {X : Type 0} (p : X → Bool) (xs : List X) → list_any p xs ≡ false → find p xs ≡ None
none_found p [] h = refl
none_found p (x ∷ xs) h =
    let both : (p x ≡ false) × (list_any p xs ≡ false) = or_parts (p x) (list_any p xs) h in
    cond-false (p x) (Some x) (find p xs) both.0 ∙ none_found p xs both.1

-- whether a link has the identifier and goes to the system
abbrev pub is_for : ℕ → ℕ → LinkRow → Bool
is_for system vl link = nat_eq link.vl vl && is_to system link

-- the links are distinct: none before one has its identifier
none_before : (system vl : ℕ) (links : List LinkRow) (i : ℕ) (link : LinkRow)
    → AreDistinct (λ (l : LinkRow). l.vl) links → slice_get links i ≡ Some link →
    link.vl ≡ vl → find (is_for system vl) (take i links) ≡ None
unfolding AreDistinct
none_before system vl links i link distinct here named =
    none_found (is_for system vl) (take i links) (false_from_ne_true (list_any (is_for system vl) (take i links)) (λ h.
    let found = list_any-take (is_for system vl) links i h in
    let both : (nat_eq found.1.vl vl ≡ true) × (is_to system found.1 ≡ true) =
    and_parts (nat_eq found.1.vl vl) (is_to system found.1) found.4 in
    let same : found.0 ≡ i = distinct found.0 i found.1 link found.3 here (eqb-true found.1.vl vl both.0 ∙ sym named) in
    omega (arith, found.2, same)))

-- the first that passes a test, where some does
first_found : {X : Type 0} (p : X → Bool) (xs : List X) (i : ℕ) (x : X) → slice_get xs i ≡ Some x → p x ≡ true →
    (j : ℕ) × (y : X) × (slice_get xs j ≡ Some y) × (p y ≡ true) × (find p xs ≡ Some y)
first_found p [] i x here holds = absurd (cc)
first_found p (y ∷ ys) zero x here holds = let same : y ≡ x = (cc) in
    (0, y, refl, ap p same ∙ holds, cond-true (p y) (Some y) (find p ys) (ap p same ∙ holds))
first_found {X = X} p (y ∷ ys) (suc i) x here holds = by (p y) refl (first_found p ys i x here holds)
  where
    by : (b : Bool) → p y ≡ b → (j : ℕ) × (z : X) × (slice_get ys j ≡ Some z) × (p z ≡ true) × (find p ys ≡ Some z) →
        (j : ℕ) × (z : X) × (slice_get (y ∷ ys) j ≡ Some z) × (p z ≡ true) × (find p (y ∷ ys) ≡ Some z)
    by true e later = (0, y, refl, e, cond-true (p y) (Some y) (find p ys) e)
    by false e later = (suc later.0, later.1, later.2, later.3, cond-false (p y) (Some y) (find p ys) e ∙ later.4)

-- a link that goes to the system is found under its identifier
pub received : (system : ℕ) (links : List LinkRow) (i : ℕ) (link : LinkRow)
    → AreDistinct (λ (l : LinkRow). l.vl) links → slice_get links i ≡ Some link →
    is_to system link ≡ true → find (is_for system link.vl) links ≡ Some link
unfolding AreDistinct
received system links i link distinct here goes =
    let found = first_found (is_for system link.vl) links i link here
    (and_from (nat_eq link.vl link.vl) (is_to system link) (eq-eqb link.vl link.vl refl) goes) in
    let both : (nat_eq found.1.vl link.vl ≡ true) × (is_to system found.1 ≡ true) =
    and_parts (nat_eq found.1.vl link.vl) (is_to system found.1) found.3 in
    let same : found.0 ≡ i = distinct found.0 i found.1 link found.2 here (eqb-true found.1.vl link.vl both.0) in
    let one : Some found.1 ≡ Some link = sym found.2 ∙ ap (slice_get links) same ∙ here in
    found.4 ∙ one

-- the memories of the links so far
abbrev pub LinksSoFar : ℕ → List LinkRow → ℕ → Kept → Type 0
LinksSoFar system links i held = (vl : ℕ)
    → memory_at held vl ≡ option_map memory_at_first (find (is_for system vl) (take i links))

find_one : (p : LinkRow → Bool) (links : List LinkRow) (i : ℕ) (link : LinkRow) → slice_get links i ≡ Some link →
    find p (take (i + 1) links) ≡ option_or (find p (take i links)) (cond (p link) (Some link) None)
find_one p links i link here = ap (find p) (take-one_more links i link here) ∙ find-append p (take i links) (link ∷ [])

or_none : {X : Type 0} (o : Option X) → option_or o None ≡ o
or_none None = refl
or_none (Some x) = refl

-- the next link has no memory yet
pub none_so_far : (system : ℕ) (links : List LinkRow) (i : ℕ) (link : LinkRow) (held : Kept) →
    LinksSoFar system links i held → AreDistinct (λ (l : LinkRow). l.vl) links → slice_get links i ≡ Some link →
    memory_at held link.vl ≡ None
none_so_far system links i link held so_far distinct here =
    so_far link.vl ∙ ap (option_map memory_at_first) (none_before system link.vl links i link distinct here refl)

pub link_passed : (system : ℕ) (links : List LinkRow) (i : ℕ) (link : LinkRow) (held : Kept) →
    LinksSoFar system links i held → slice_get links i ≡ Some link → is_to system link ≡ false
    → LinksSoFar system links (i + 1) held
link_passed system links i link held so_far here other vl =
    so_far vl
    ∙ ap (option_map memory_at_first)
    (sym (find_one (is_for system vl) links i link here
    ∙ ap (λ b. option_or (find (is_for system vl) (take i links)) (cond b (Some link) None))
    (and_right (nat_eq link.vl vl) (is_to system link) other)
    ∙ or_none (find (is_for system vl) (take i links))))

pub link_added : (system : ℕ) (links : List LinkRow) (i : ℕ) (link : LinkRow) (key : ℕ) (held after : Kept) →
    LinksSoFar system links i held → AreDistinct (λ (l : LinkRow). l.vl) links
    → slice_get links i ≡ Some link → key ≡ link.vl → is_to system link ≡ true →
    ((q : ℕ) → memory_at after q ≡ cond (nat_eq key q) (Some (memory_at_first link)) (memory_at held q)) →
    LinksSoFar system links (i + 1) after
link_added system links i link key held after so_far distinct here named goes updates vl = at (eqb key vl) refl
  where
    step : find (is_for system vl) (take (i + 1) links)
        ≡ option_or (find (is_for system vl) (take i links)) (cond (is_for system vl link)
        (Some link) None)
    step = find_one (is_for system vl) links i link here

    at : (b : Bool) → eqb key vl ≡ b
        → memory_at after vl ≡ option_map memory_at_first (find (is_for system vl) (take (i + 1) links))
    at true e =
        let same : link.vl ≡ vl = sym named ∙ eqb-true key vl e in
        let goes_there : is_for system vl link ≡ true = rw (eq-eqb link.vl vl same) goes in
        updates vl ∙ ap (λ b. cond b (Some (memory_at_first link)) (memory_at held vl)) e
        ∙ ap (option_map memory_at_first)
        (sym (step ∙ ap (λ b. option_or (find (is_for system vl) (take i links))
        (cond b (Some link) None)) goes_there
        ∙ ap (λ o. option_or o (Some link)) (none_before system vl links i link distinct here same)))
    at false e =
        let apart : is_for system vl link ≡ false =
        and_left (nat_eq link.vl vl) (is_to system link) (ap (λ n. eqb n vl) (sym named) ∙ e) in
        updates vl ∙ ap (λ b. cond b (Some (memory_at_first link)) (memory_at held vl)) e ∙ so_far vl
        ∙ ap (option_map memory_at_first) (sym
        (step ∙ ap (λ b. option_or (find (is_for system vl) (take i links)) (cond b (Some link) None)) apart ∙ or_none
        (find (is_for system vl) (take i links))))

-- whether a port is the system's, for a link and a UDP port
abbrev pub is_at : ℕ → Endpoint → PortRow → Bool
is_at system to port = nat_eq port.system system && nat_eq port.link to.link.0 && nat_eq port.udp to.udp

abbrev pub PortsSoFar : {S : Type 0} → ℕ → List PortRow → ℕ → HashSet Endpoint S → Type 0
PortsSoFar system ports i held = (to : Endpoint) → bag.contains is_same_endpoint held to
    ≡ has_port (take i ports) system to.link.0 to.udp

configured : (ports : List PortRow) (system : ℕ) (to : Endpoint)
    → has_port ports system to.link.0 to.udp ≡ list_any (is_at system to) ports
unfolding has_port
configured ports system to = refl

any_one : (p : PortRow → Bool) (ports : List PortRow) (i : ℕ) (port : PortRow) → slice_get ports i ≡ Some port →
    list_any p (take (i + 1) ports) ≡ (list_any p (take i ports) || (p port || false))
any_one p ports i port here = ap (list_any p) (take-one_more ports i port here)
    ∙ list_any-append p (take i ports) (port ∷ [])

or_no : (a : Bool) → (a || (false || false)) ≡ a
or_no true = refl
or_no false = refl

or_yes : (a : Bool) → (a || (true || false)) ≡ true
or_yes true = refl
or_yes false = refl

pub port_passed : {S : Type 0} (system : ℕ) (ports : List PortRow) (i : ℕ) (port : PortRow)
    (held : HashSet Endpoint S) →
    PortsSoFar system ports i held → slice_get ports i ≡ Some port → eqb port.system system ≡ false
    → PortsSoFar system ports (i + 1) held
port_passed system ports i port held so_far here other to =
    let apart : is_at system to port ≡ false = rw other refl in
    so_far to ∙ configured (take i ports) system to
    ∙ sym (configured (take (i + 1) ports) system to ∙ any_one (is_at system to) ports i port here ∙ ap
    (λ b. list_any (is_at system to) (take i ports) || (b || false)) apart
    ∙ or_no (list_any (is_at system to) (take i ports)))

pub port_added : {S : Type 0} (system : ℕ) (ports : List PortRow) (i : ℕ) (port : PortRow)
    (key : Endpoint) (held after : HashSet Endpoint S) →
    PortsSoFar system ports i held → slice_get ports i ≡ Some port → eqb port.system system ≡ true
    → key.link.0 ≡ port.link → key.udp ≡ port.udp →
    ((q : Endpoint) → bag.contains is_same_endpoint after q
    ≡ cond (is_same_endpoint key q) true (bag.contains is_same_endpoint held q)) →
    PortsSoFar system ports (i + 1) after
port_added system ports i port key held after so_far here own link udp updates to = at (is_at system to port) refl
  where
    same : is_same_endpoint key to ≡ is_at system to port
    same = rw (own, link, udp) refl

    step : has_port (take (i + 1) ports) system to.link.0 to.udp
        ≡ (list_any (is_at system to) (take i ports) || (is_at system to port || false))
    step = configured (take (i + 1) ports) system to ∙ any_one (is_at system to) ports i port here

    at : (b : Bool) → is_at system to port ≡ b → bag.contains is_same_endpoint after to
        ≡ has_port (take (i + 1) ports) system to.link.0 to.udp
    at true e = updates to ∙ ap (λ b. cond b true (bag.contains is_same_endpoint held to)) (same ∙ e) ∙ sym
        (step ∙ ap (λ b. list_any (is_at system to) (take i ports) || (b || false)) e
        ∙ or_yes (list_any (is_at system to) (take i ports)))
    at false e = updates to ∙ ap (λ b. cond b true (bag.contains is_same_endpoint held to))
        (same ∙ e) ∙ so_far to ∙ configured (take i ports) system to ∙ sym
        (step ∙ ap (λ b. list_any (is_at system to) (take i ports) || (b || false)) e
        ∙ or_no (list_any (is_at system to) (take i ports)))
