-- Lawful rows stay lawful when a new one is added.
use Rattle.std.proofs.lemmas.Bool.{eq-eqb}
use Rattle.std.proofs.Common.{◌≡◌, ℕ, ◌<◌, Bool, true, false, ◌&&◌, ◌==◌, List, [], ◌∷◌, ◌++◌}
use Rattle.std.proofs.Common.{length, None, Some, inl, inr, ◌≤◌, nat_eq, refl, sym, ap, subst, arith}
use Rattle.std.proofs.Common.{length-append, slice_get, Option, ◌+◌, ◌-◌, drop}
use Rattle.std.specs.List.{AllByRecursion}
use Rattle.std.proofs.lemmas.List.{take-append-le, drop-append-le}
use Rattle.indexmap.proofs.IndexTableLemmas.Probe.{pigeonhole}
use Rattle.std.specs.Str.{bytes_eq}
use Rattle.std.proofs.lemmas.Slice.Eq.{bytes_eq-Decides}
use Rattle.afdx_frame.proofs.ListLemmas.{AllByRecursion-push, slice_get-push_cases, slice_get-within}
use Rattle.afdx_frame.proofs.ListLemmas.{AllByRecursion-slice_get}
use Rattle.afdx_config.specs.Rows.{SystemRow, LinkRow, PortRow}
use Rattle.afdx_config.specs.Reading.{system_named, system_at_port, has_id, link_of, has_port, most_neighbours}
use Rattle.afdx_config.specs.New.{IsNewSystem}
use Rattle.afdx_config.specs.Lawful.{IsSystem, AreSystems, AreEnds, AreDistinct, HasNoNumber, IsLinkUpTo, AreLinksUpTo, HaveSystemJitter}
use Rattle.afdx_config.specs.Lawful.{IsPort, ArePorts, AreOfSystems, triple, jitter_from_system}
use Rattle.afdx_config.proofs.DistinctLemmas.{distinct-nil, distinct-push, none_found}

bytes_eq-same : (xs ys : List ℕ) → xs ≡ ys → bytes_eq ys xs ≡ true
bytes_eq-same xs ys h = (bytes_eq-Decides ys xs).1 (sym h)

pub no_systems : (profile : ℕ) → AreSystems profile []
no_systems profile = record {
  count = omega arith;
  each = tt;
  names = distinct-nil (λ s. s.name);
  ports = distinct-nil (λ s. s.port);
  ids = distinct-nil (λ s. s.id);
}

names_push : (rows : List SystemRow) (new : SystemRow) → AreDistinct (λ s. s.name) rows
    → system_named rows new.name ≡ None → AreDistinct (λ s. s.name) (rows ++ new ∷ [])
unfolding system_named
names_push rows new old fresh = distinct-push (λ s. s.name) (λ s. bytes_eq new.name s.name) rows new old
    (none_found (λ s. bytes_eq new.name s.name) rows fresh) (λ a e. bytes_eq-same a.name new.name e)

at_ports_push : (rows : List SystemRow) (new : SystemRow) → AreDistinct (λ s. s.port) rows
    → system_at_port rows new.port ≡ None → AreDistinct (λ s. s.port) (rows ++ new ∷ [])
unfolding system_at_port
at_ports_push rows new old fresh = distinct-push (λ s. s.port) (λ s. s.port == new.port) rows new old
    (none_found (λ s. s.port == new.port) rows fresh) (λ a e. eq-eqb a.port new.port e)

pub systems_push : (profile : ℕ) (rows : List SystemRow) (new : SystemRow) → AreSystems profile rows
    → length rows < 24 → IsSystem profile new → IsNewSystem rows new
    → AreSystems profile (rows ++ new ∷ [])
unfolding has_id
systems_push profile rows new old room lawful fresh = record {
  count = omega (arith, length-append rows (new ∷ []));
  each = AllByRecursion-push (IsSystem profile) rows new old.each lawful;
  names = names_push rows new old.names fresh.name;
  ports = at_ports_push rows new old.ports fresh.port;
  ids = distinct-push (λ s. s.id) (λ s. s.id == new.id) rows new old.ids fresh.id (λ a e. eq-eqb a.id new.id e);
}

-- the port of what stands at a place, counted from 0
abbrev port_from_0 : Option SystemRow → ℕ
port_from_0 (Some s) = s.port - 1
port_from_0 None = 0

-- where each has a port of its own there are at most as many as ports
at_most_ports : (profile : ℕ) (rows : List SystemRow) → AllByRecursion (IsSystem profile) rows
    → AreDistinct (λ s. s.port) rows → length rows ≤ 24
unfolding AreDistinct
at_most_ports profile rows each apart = pigeonhole (length rows) 24 (λ i. port_from_0 (slice_get rows i)) into one
  where
    into : (i : ℕ) → i < length rows → port_from_0 (slice_get rows i) < 24
    into i within =
        let (s, at) = slice_get-within rows i within in
        let is = (AllByRecursion-slice_get (IsSystem profile) rows i s each at).port in
        let here : port_from_0 (slice_get rows i) ≡ s.port - 1 = ap port_from_0 at in
        omega (arith, here, is)

    one : (i j : ℕ) → i < length rows → j < length rows
        → port_from_0 (slice_get rows i) ≡ port_from_0 (slice_get rows j) → i ≡ j
    one i j i_within j_within same =
        let (a, at) = slice_get-within rows i i_within in
        let (b, at') = slice_get-within rows j j_within in
        let is = (AllByRecursion-slice_get (IsSystem profile) rows i a each at).port in
        let is' = (AllByRecursion-slice_get (IsSystem profile) rows j b each at').port in
        let here : port_from_0 (slice_get rows i) ≡ a.port - 1 = ap port_from_0 at in
        let there : port_from_0 (slice_get rows j) ≡ b.port - 1 = ap port_from_0 at' in
        apart i j a b at at' (omega (arith, same, here, there, is, is'))

-- a neighbour behind the ends before it
module _ (profile own : ℕ) (rows : List SystemRow) (new : SystemRow) (old : AreEnds profile own rows)
    (behind : own ≤ length rows) (lawful : IsSystem profile new) (name : system_named rows new.name ≡ None)
    (port : system_at_port rows new.port ≡ None) where
  grown-count : length (rows ++ new ∷ []) ≤ 24
  grown-count = at_most_ports profile (rows ++ new ∷ [])
      (AllByRecursion-push (IsSystem profile) rows new old.each lawful) (at_ports_push rows new old.ports port)

  pub ends_push : length rows < own + most_neighbours → HasNoNumber new → AreEnds profile own (rows ++ new ∷ [])
  ends_push room none = record {
    count = grown-count;
    each = AllByRecursion-push (IsSystem profile) rows new old.each lawful;
    names = names_push rows new old.names name;
    ports = at_ports_push rows new old.ports port;
    ids = rw (take-append-le own rows (new ∷ []) behind) old.ids;
    few = omega (arith, room, length-append rows (new ∷ []));
    neighbours = rw (drop-append-le own rows (new ∷ []) behind)
        (AllByRecursion-push HasNoNumber (drop own rows) new old.neighbours none);
  }

  -- so there is room for it
  pub ends_room : length rows < 24
  ends_room = omega (arith, grown-count, length-append rows (new ∷ []))

pub no_links : (greatest : ℕ → ℕ) (ends : ℕ) → AreLinksUpTo greatest ends []
no_links greatest ends = record { count = omega arith; each = tt; identifiers = distinct-nil (λ l. l.vl) }

pub links_push : (greatest : ℕ → ℕ) (ends : ℕ) (rows : List LinkRow) (new : LinkRow) → AreLinksUpTo greatest ends rows
    → length rows < 4096 → IsLinkUpTo greatest ends new → link_of rows new.vl ≡ None
    → AreLinksUpTo greatest ends (rows ++ new ∷ [])
unfolding link_of
links_push greatest ends rows new old room lawful fresh = record {
  count = omega (arith, length-append rows (new ∷ []));
  each = AllByRecursion-push (IsLinkUpTo greatest ends) rows new old.each lawful;
  identifiers = distinct-push (λ l. l.vl) (λ l. nat_eq new.vl l.vl) rows new old.identifiers
      (none_found (λ l. nat_eq new.vl l.vl) rows fresh) (λ a e. eq-eqb new.vl a.vl (sym e));
}

-- what holds of each row, and of the new one
each_push : {R : Type 0} (P : R → Type 0) (rows : List R) (new : R)
    → ((i : ℕ) (r : R) → slice_get rows i ≡ Some r → P r) → P new
    → (i : ℕ) (r : R) → slice_get (rows ++ new ∷ []) i ≡ Some r → P r
each_push P rows new old is i r at = elim (slice_get-push_cases rows new i r at) [
  | inl before ↦ old i r before
  | inr last ↦ subst P (sym last.1) is
]

pub sent_push : (own : ℕ) (rows : List LinkRow) (new : LinkRow) → HaveSystemJitter own rows
    → (new.from < own → new.jitter_us ≤ jitter_from_system new.bag_ms) → HaveSystemJitter own (rows ++ new ∷ [])
sent_push own rows new old is =
    each_push (λ l. l.from < own → l.jitter_us ≤ jitter_from_system l.bag_ms) rows new old is

pub no_ports : (systems : ℕ) (links : List LinkRow) → ArePorts systems links []
no_ports systems links = record { count = omega arith; each = tt; triples = distinct-nil triple }

all_three : (a b c : Bool) → a ≡ true → b ≡ true → c ≡ true → ((a && b) && c) ≡ true
all_three true true true x y z = refl
all_three false b c x y z = absurd cc
all_three true false c x y z = absurd cc
all_three true true false x y z = absurd cc

pub ports_push : (systems : ℕ) (links : List LinkRow) (rows : List PortRow) (new : PortRow)
    → ArePorts systems links rows → length rows < 4096 → IsPort systems links new
    → has_port rows new.system new.link new.udp ≡ false → ArePorts systems links (rows ++ new ∷ [])
unfolding has_port
ports_push systems links rows new old room lawful fresh = record {
  count = omega (arith, length-append rows (new ∷ []));
  each = AllByRecursion-push (IsPort systems links) rows new old.each lawful;
  triples = distinct-push triple
      (λ p. (nat_eq p.system new.system && nat_eq p.link new.link) && nat_eq p.udp new.udp) rows new
      old.triples fresh
      (λ a e. all_three (nat_eq a.system new.system) (nat_eq a.link new.link) (nat_eq a.udp new.udp)
      (eq-eqb _ _ (ap (λ t. t.0) e)) (eq-eqb _ _ (ap (λ t. t.1) e))
      (eq-eqb _ _ (ap (λ t. t.2) e)));
}

pub own_push : (own : ℕ) (rows : List PortRow) (new : PortRow) → AreOfSystems own rows → new.system < own
    → AreOfSystems own (rows ++ new ∷ [])
own_push own rows new old is = each_push (λ p. p.system < own) rows new old is
