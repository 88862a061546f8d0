-- The tree of a lawful row reads as the row, after rows that differ from it.
use Rattle.std.proofs.Common.{◌≡◌, ℕ, ◌+◌, ◌==◌, Bool, true, false, List, [], ◌∷◌, codes, length, map, Some, None, Ok, refl, arith, if◌then◌else◌}
use Rattle.std.proofs.Common.{◌<◌, ◌-◌, nat_eq, cond, subst, sym, ap, ◌∙◌, inl, inr}
use Rattle.std.proofs.lemmas.Bool.{eqb-true, cases_lt, lt-ltb, le-ltb}
use Rattle.std.proofs.lemmas.List.{length-map}
use Rattle.std.specs.List.{AllByRecursion, find}
use Rattle.std.specs.Option.{option_map_or}
use Rattle.toml.specs.Data.{Members}
use Rattle.toml.specs.Tables.{close}
use Rattle.afdx_frame.specs.Regulation.{gaps}
use Rattle.afdx_frame.specs.declared.link.Priority.{Priority}
use Rattle.afdx_frame.specs.declared.link.Priority.TheVariants.{High, Low}
use Rattle.afdx_frame.specs.declared.link.Policing.{Policing}
use Rattle.afdx_frame.specs.declared.link.Policing.TheVariants.{Byte, Frame}
use Rattle.afdx_frame.proofs.ListLemmas.{AllByRecursion-one_of}
use Rattle.afdx_config.specs.declared.rows.Kind.{Kind}
use Rattle.afdx_config.specs.declared.rows.Kind.TheVariants.{Sampling, Queuing}
use Rattle.afdx_config.specs.Choices.{choice, all_kept}
use Rattle.afdx_config.specs.Keys as keys
use Rattle.afdx_config.specs.Keys.{system_keys, neighbour_keys, link_keys, port_keys, whole, one_of, text, word, meaning, at_least, at_most}
use Rattle.afdx_config.specs.Keys.{only, are_among, only_system_keys, only_neighbour_keys, only_link_keys, only_port_keys}
use Rattle.afdx_config.specs.Lawful.{IsSystem, HasNoNumber, IsLinkUpTo, IsLinkAmong, IsPort, IsWithin, IsOneOf, jitter_from_any}
use Rattle.afdx_config.specs.Reading.{all_of, named, destinations, link_of, link_at, goes_to, has_port, socket_at, port_at}
use Rattle.afdx_config.specs.Reading.{system_at, new_name, rates, system_named, system_at_port, has_id}
use Rattle.afdx_config.specs.Reading.{traffic_at, treatment_at, deepest, greatest_jitter}
use Rattle.afdx_config.specs.Rows.{SystemRow, LinkRow, PortRow, is_to}
use Rattle.afdx_config.specs.Switches.{neighbour_at}
use Rattle.afdx_solve.specs.ConfigText.{class_word, policing_word, kind_word, name_at}
use Rattle.afdx_solve.proofs.KeyLemmas.{whole-reads, one_of-reads, text-reads, word-reads, texts-read}
use Rattle.afdx_solve.proofs.TreeLemmas.{system_nodes, neighbour_nodes, link_nodes, port_nodes}

-- ---- systems

abbrev pub system_tree : SystemRow → Members
system_tree s = close (system_nodes s)

pub rate-within : (profile n : ℕ) → IsOneOf (rates profile) n → IsWithin 10 1000 n
rate-within profile n one = by (profile == 2) one
  where
    by : (two : Bool) → IsOneOf (if two then 10 ∷ 100 ∷ 1000 ∷ [] else 10 ∷ 100 ∷ []) n → IsWithin 10 1000 n
    by true one = AllByRecursion-one_of (IsWithin 10 1000) n (10 ∷ 100 ∷ 1000 ∷ [])
        ((omega arith, omega arith), ((omega arith, omega arith), ((omega arith, omega arith), tt))) one
    by false one = AllByRecursion-one_of (IsWithin 10 1000) n (10 ∷ 100 ∷ [])
        ((omega arith, omega arith), ((omega arith, omega arith), tt)) one

-- no row before has its name, its port or its id
pub record IsNewSystem (before : List SystemRow) (s : SystemRow) : Type 0 where
  pub name : system_named before s.name ≡ None
  pub port : system_at_port before s.port ≡ None
  pub id : has_id before s.id ≡ false

module _ (profile : ℕ) (before : List SystemRow) (s : SystemRow) (is : IsSystem profile s) where
  name-read : text (keys.system_at (length before + 1) 1) (system_tree s) ≡ Ok s.name
  unfolding system_nodes system_keys
  name-read = text-reads (keys.system_at (length before + 1) 1) (system_tree s) s.name refl

  port-read : whole (keys.system_at (length before + 1) 2) (system_tree s) ≡ Ok s.port
  unfolding system_nodes system_keys
  port-read = whole-reads (keys.system_at (length before + 1) 2) (system_tree s) s.port refl is.port

  id-read : whole (keys.system_at (length before + 1) 3) (system_tree s) ≡ Ok s.id
  unfolding system_nodes system_keys
  id-read = whole-reads (keys.system_at (length before + 1) 3) (system_tree s) s.id refl is.id

  partition-read : whole (keys.system_at (length before + 1) 4) (system_tree s) ≡ Ok s.partition
  unfolding system_nodes system_keys
  partition-read = whole-reads (keys.system_at (length before + 1) 4) (system_tree s) s.partition refl is.partition

  rate-read : one_of (keys.system_at (length before + 1) 5) (rates profile) (system_tree s) ≡ Ok s.rate
  unfolding system_nodes system_keys
  rate-read = one_of-reads (keys.system_at (length before + 1) 5) (system_tree s) (rates profile) s.rate
      (whole-reads (keys.system_at (length before + 1) 5) (system_tree s) s.rate refl
      (rate-within profile s.rate is.rate)) is.rate

  only-read : only_system_keys (length before + 1) (system_tree s) ≡ Ok tt
  unfolding system_nodes system_keys only_system_keys only are_among
  only-read = refl

  name-new : system_named before s.name ≡ None
      → new_name (keys.system_at (length before + 1) 1) before (system_tree s) ≡ Ok s.name
  unfolding new_name
  name-new new = rw (name-read, is.name, new)

  pub system-reads : IsNewSystem before s → system_at profile before (system_tree s) ≡ Ok s
  unfolding system_at
  system-reads new =
      rw (name-new new.name, port-read, new.port, id-read, new.id, partition-read, rate-read, only-read)

-- ---- neighbours

abbrev pub neighbour_tree : SystemRow → Members
neighbour_tree e = close (neighbour_nodes e)

no-number : (e : SystemRow) → HasNoNumber e → record e { id = 0; partition = 0 } ≡ e
no-number e none =
    ap (λ partition. record e { id = 0; partition = partition }) (sym none.1)
    ∙ ap (λ id. record e { id = id }) (sym none.0)

-- of the ends before, the first `own` are systems
module _ (profile own : ℕ) (before : List SystemRow) (e : SystemRow) (is : IsSystem profile e) where
  abbrev place : ℕ
  place = length before - own + 1

  neighbour-name : text (keys.neighbour_at place 1) (neighbour_tree e) ≡ Ok e.name
  unfolding neighbour_nodes neighbour_keys
  neighbour-name = text-reads (keys.neighbour_at place 1) (neighbour_tree e) e.name refl

  neighbour-port : whole (keys.neighbour_at place 2) (neighbour_tree e) ≡ Ok e.port
  unfolding neighbour_nodes neighbour_keys
  neighbour-port = whole-reads (keys.neighbour_at place 2) (neighbour_tree e) e.port refl is.port

  neighbour-rate : one_of (keys.neighbour_at place 3) (rates profile) (neighbour_tree e) ≡ Ok e.rate
  unfolding neighbour_nodes neighbour_keys
  neighbour-rate = one_of-reads (keys.neighbour_at place 3) (neighbour_tree e) (rates profile) e.rate
      (whole-reads (keys.neighbour_at place 3) (neighbour_tree e) e.rate refl (rate-within profile e.rate is.rate))
      is.rate

  only-neighbour : only_neighbour_keys place (neighbour_tree e) ≡ Ok tt
  unfolding neighbour_nodes neighbour_keys only_neighbour_keys only are_among
  only-neighbour = refl

  new-neighbour : system_named before e.name ≡ None
      → new_name (keys.neighbour_at place 1) before (neighbour_tree e) ≡ Ok e.name
  unfolding new_name
  new-neighbour new = rw (neighbour-name, is.name, new)

  pub neighbour-reads : system_named before e.name ≡ None → system_at_port before e.port ≡ None → HasNoNumber e
      → neighbour_at profile own before (neighbour_tree e) ≡ Ok e
  unfolding neighbour_at
  neighbour-reads name port none =
      rw (new-neighbour name, neighbour-port, port, neighbour-rate, only-neighbour) (ap Ok (no-number e none))

-- ---- links

abbrev pub link_tree : List SystemRow → LinkRow → Members
link_tree systems l = close (link_nodes systems l)

-- each name stands for the system that has it
abbrev pub AreNamed : List SystemRow → Type 0
AreNamed systems = (i : ℕ) → i < length systems → system_named systems (name_at systems i) ≡ Some i

places-named : (systems : List SystemRow) → AreNamed systems → (to : List ℕ)
    → AllByRecursion (λ i. i < length systems) to
    → all_of (system_named systems) (map (name_at systems) to) ≡ Some to
places-named systems named_back [] within = refl
places-named systems named_back (i ∷ to) within =
    rw (named_back i within.0, places-named systems named_back to within.1)

pub bag-within : (n : ℕ) → IsOneOf gaps n → IsWithin 1 128 n
bag-within n one = AllByRecursion-one_of (IsWithin 1 128) n gaps (
  (omega arith, omega arith),
  (
    (omega arith, omega arith),
    (
      (omega arith, omega arith),
      (
        (omega arith, omega arith),
        (
          (omega arith, omega arith),
          (
            (omega arith, omega arith),
            ((omega arith, omega arith), ((omega arith, omega arith), tt)),
          ),
        ),
      ),
    ),
  ),
) one

-- the words of the format
abbrev class_words : List (List ℕ × Priority)
class_words = (codes "high", High) ∷ (codes "low", Low) ∷ []

abbrev policing_words : List (List ℕ × Policing)
policing_words = (codes "byte", Byte) ∷ (codes "frame", Frame) ∷ []

abbrev kind_words : List (List ℕ × Kind)
kind_words = (codes "sampling", Sampling) ∷ (codes "queuing", Queuing) ∷ []

class-means : (p : Priority) → meaning class_words (class_word p) ≡ Some p
class-means High = refl
class-means Low = refl

policing-means : (p : Policing) → meaning policing_words (policing_word p) ≡ Some p
policing-means Byte = refl
policing-means Frame = refl

kind-means : (k : Kind) → meaning kind_words (kind_word k) ≡ Some k
kind-means Sampling = refl
kind-means Queuing = refl

pub choice-kept : (at : keys.Spot) (t : Members) → choice true at t ≡ whole at t
unfolding choice
choice-kept at t = refl

-- a link may have its jitter, which is less where it comes from a system
jitter-least : (own ends : ℕ) (l : LinkRow) → IsLinkAmong own ends l
    → IsWithin 0 (greatest_jitter own l.from l.bag_ms) l.jitter_us
unfolding greatest_jitter
jitter-least own ends l is = elim (cases_lt l.from own) [
  | inl below ↦ rw (lt-ltb l.from own below) (omega arith, is.sent below)
  | inr past ↦ rw (le-ltb l.from own past) is.link.jitter_us
]

-- of the ends the first `own` are systems
module _ (own : ℕ) (systems : List SystemRow) (i : ℕ) (l : LinkRow) (among : IsLinkAmong own (length systems) l) where
  abbrev is : IsLinkUpTo jitter_from_any (length systems) l
  is = among.link

  vl-read : whole (keys.link_at i 1) (link_tree systems l) ≡ Ok l.vl
  unfolding link_nodes link_keys
  vl-read = whole-reads (keys.link_at i 1) (link_tree systems l) l.vl refl is.vl

  from-read : AreNamed systems → named (keys.link_at i 2) systems (link_tree systems l) ≡ Ok l.from
  unfolding link_nodes link_keys named
  from-read named_back =
      rw (text-reads (keys.link_at i 2) (link_tree systems l) (name_at systems l.from) refl, named_back l.from is.from)

  to-read : AreNamed systems → destinations (keys.link_at i 3) systems l.from (link_tree systems l) ≡ Ok l.to
  unfolding link_nodes link_keys destinations
  to-read named_back =
      rw (
        texts-read (keys.link_at i 3) (link_tree systems l) (map (name_at systems) l.to) refl
            (rw (length-map l.to (name_at systems)) is.to_count),
        places-named systems named_back l.to is.to,
        is.apart,
      )

  traffic-read : traffic_at all_kept (greatest_jitter own l.from) i (link_tree systems l)
      ≡ Ok (record { bag_ms = l.bag_ms; lmin = l.lmin; lmax = l.lmax; jitter_us = l.jitter_us })
  unfolding link_nodes link_keys traffic_at
  traffic-read =
      let t = link_tree systems l in
      let greatest = greatest_jitter own l.from l.bag_ms in
      let bag = whole-reads (keys.link_at i 4) t l.bag_ms refl (bag-within l.bag_ms is.bag_ms) in
      rw (
        one_of-reads (keys.link_at i 4) t gaps l.bag_ms bag is.bag_ms,
        whole-reads (keys.link_at i 5) t l.lmin refl is.lmin,
        whole-reads (at_least l.lmin (keys.link_at i 6)) t l.lmax refl is.lmax,
        choice-kept (at_most greatest (keys.link_at i 7)) t,
        whole-reads (at_most greatest (keys.link_at i 7)) t l.jitter_us refl
            (jitter-least own (length systems) l among),
      )

  treatment-read : treatment_at all_kept i (link_tree systems l)
      ≡ Ok (record {
        priority = l.priority;
        policing = l.policing;
        latency_us = l.latency_us;
        skew_us = l.skew_us;
        subs = l.subs;
      })
  unfolding link_nodes link_keys treatment_at
  treatment-read =
      let t = link_tree systems l in
      rw (
        word-reads (keys.link_at i 8) t class_words (class_word l.priority) l.priority refl (class-means l.priority),
        word-reads (keys.link_at i 9) t policing_words (policing_word l.policing) l.policing refl
            (policing-means l.policing),
        choice-kept (keys.link_at i 10) t,
        whole-reads (keys.link_at i 10) t l.latency_us refl is.latency_us,
        choice-kept (keys.link_at i 11) t,
        whole-reads (keys.link_at i 11) t l.skew_us refl is.skew_us,
        whole-reads (keys.link_at i 12) t l.subs refl is.subs,
      )

  only-link : only_link_keys i (link_tree systems l) ≡ Ok tt
  unfolding link_nodes link_keys only_link_keys only are_among
  only-link = refl

pub link-reads : (own : ℕ) (systems : List SystemRow) (before : List LinkRow) (l : LinkRow)
    → IsLinkAmong own (length systems) l → AreNamed systems
    → link_of before l.vl ≡ None → link_at all_kept own systems before (link_tree systems l) ≡ Ok l
unfolding link_at
link-reads own systems before l is named_back new =
    let i = length before + 1 in
    rw (
      vl-read own systems i l is,
      new,
      from-read own systems i l is named_back,
      to-read own systems i l is named_back,
      traffic-read own systems i l is,
      treatment-read own systems i l is,
      only-link own systems i l is,
    )

-- ---- communication ports

abbrev pub port_tree : List SystemRow → PortRow → Members
port_tree systems p = close (port_nodes systems p)

-- a link that goes somewhere has an identifier
pub identifier-within : (n : ℕ) (links : List LinkRow) (vl system : ℕ)
    → AllByRecursion (IsLinkUpTo jitter_from_any n) links
    → goes_to links vl system ≡ true → IsWithin 0 65535 vl
unfolding goes_to
identifier-within n [] vl system are there = absurd cc
identifier-within n (l ∷ links) vl system are there = by (nat_eq vl l.vl) refl
    (identifier-within n links vl system are.1) there
  where
    by : (b : Bool) → nat_eq vl l.vl ≡ b
        → (option_map_or (is_to system) (find (λ m. nat_eq vl m.vl) links) false ≡ true → IsWithin 0 65535 vl)
        → option_map_or (is_to system) (cond b (Some l) (find (λ m. nat_eq vl m.vl) links))
        false ≡ true → IsWithin 0 65535 vl
    by true same later there = subst (IsWithin 0 65535) (sym (eqb-true vl l.vl same)) are.0.vl
    by false other later there = later there

-- the ends have names, and those that have ports are the systems
module _ (ends systems : List SystemRow) (links : List LinkRow) (i : ℕ) (p : PortRow)
    (is : IsPort (length ends) links p) where
  at-system : system_named systems (name_at ends p.system) ≡ Some p.system
      → named (keys.port_at i 1) systems (port_tree ends p) ≡ Ok p.system
  unfolding port_nodes port_keys named
  at-system named_back = rw (text-reads (keys.port_at i 1) (port_tree ends p) (name_at ends p.system) refl, named_back)

  at-link : AllByRecursion (IsLinkUpTo jitter_from_any (length ends)) links
      → whole (keys.port_at i 2) (port_tree ends p) ≡ Ok p.link
  unfolding port_nodes port_keys
  at-link are = whole-reads (keys.port_at i 2) (port_tree ends p) p.link refl
      (identifier-within (length ends) links p.link p.system are is.link)

  at-udp : whole (keys.port_at i 3) (port_tree ends p) ≡ Ok p.udp
  unfolding port_nodes port_keys
  at-udp = whole-reads (keys.port_at i 3) (port_tree ends p) p.udp refl is.udp

  at-kind : word (keys.port_at i 4) kind_words (port_tree ends p) ≡ Ok p.kind
  unfolding port_nodes port_keys
  at-kind = word-reads (keys.port_at i 4) (port_tree ends p) kind_words
      (kind_word p.kind) p.kind refl (kind-means p.kind)

  at-depth : whole (at_most (deepest p.kind) (keys.port_at i 5)) (port_tree ends p) ≡ Ok p.depth
  unfolding port_nodes port_keys
  at-depth = whole-reads (at_most (deepest p.kind) (keys.port_at i 5)) (port_tree ends p) p.depth refl is.depth

  only-port : only_port_keys i (port_tree ends p) ≡ Ok tt
  unfolding port_nodes port_keys only_port_keys only are_among
  only-port = refl

  socket-reads : (before : List PortRow) → AllByRecursion (IsLinkUpTo jitter_from_any (length ends)) links
      → system_named systems (name_at ends p.system) ≡ Some p.system
      → has_port before p.system p.link p.udp ≡ false
      → socket_at (keys.port_at i) systems links before (port_tree ends p)
      ≡ Ok (record { system = record { 0 = p.system }; link = record { 0 = p.link }; udp = p.udp })
  unfolding socket_at
  socket-reads before are named_back new = rw (at-system named_back, at-link are, is.link, at-udp, new)

pub port-reads : (ends systems : List SystemRow) (links : List LinkRow) (before : List PortRow) (p : PortRow)
    → IsPort (length ends) links p → AllByRecursion (IsLinkUpTo jitter_from_any (length ends)) links
    → system_named systems (name_at ends p.system) ≡ Some p.system
    → has_port before p.system p.link p.udp ≡ false → port_at systems links before (port_tree ends p) ≡ Ok p
unfolding port_at
port-reads ends systems links before p is are named_back new =
    let i = length before + 1 in
    rw (
      socket-reads ends systems links i p is before are named_back new,
      at-kind ends systems links i p is,
      at-depth ends systems links i p is,
      only-port ends systems links i p is,
    )
