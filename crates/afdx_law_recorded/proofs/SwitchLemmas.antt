-- The frames of a link's source are those of its own arrivals that came at its system's port.
use Rattle.std.proofs.Common.{◌≡◌, ℕ, zero, suc, ◌<◌, ◌≤◌, Bool, true, false, List, [], ◌∷◌, length}
use Rattle.std.proofs.Common.{map, refl, sym, ap, ap₂, ◌∙◌, subst, arith}
use Rattle.std.specs.Prelude.{◌&&◌, ◌==◌, filter, if◌then◌else◌, is_some, nat_eq, nat_lt, slice_get, Option, Some, None}
use Rattle.std.specs.Prelude.{option_and_then}
use Rattle.std.specs.List.{AllByRecursion}
use Rattle.std.specs.Option.{option_map_or}
use Rattle.std.proofs.lemmas.Bool.{and_parts, cond-false, cond-true, eq-eqb, eqb-true, lt-ltb}
use Rattle.std.proofs.lemmas.List.Quantifiers.{position-Some}
use Rattle.std.proofs.lemmas.Option.{same_Some, slice_get-get_or}
use Rattle.afdx_frame.proofs.ListLemmas.{AllByRecursion-slice_get}
use Rattle.afdx_frame.specs.Layout.{link_named_by}
use Rattle.afdx_frame.specs.Sides.{is_side}
use Rattle.afdx_frame.specs.declared.link.Side.{Side}
use Rattle.afdx_frame.specs.declared.link.VlId.{VlId}
use Rattle.afdx_config.specs.Lawful.{IsLawfulSwitch, IsLinkUpTo, jitter_from_any}
use Rattle.afdx_config.specs.Reading.{link_of, listener_at, system_at_port}
use Rattle.afdx_config.specs.Rows.{LinkRow, Rows, SystemRow}
use Rattle.afdx_config.proofs.LookUpLemmas.{each_row-found}
use Rattle.afdx_police.specs.Arrival.{Arrival, arrival_with, names}
use Rattle.afdx_police.specs.Spacing.{AreUpTo}
use Rattle.afdx_law_bounds.specs.Tables.{port_of}
use Rattle.afdx_conform.specs.Headline.{GoByTime}
use Rattle.afdx_lawful.specs.Accepted.{AreNamed, ComeUpTo, arrival_of, arrivals_of}
use Rattle.afdx_lawful.specs.Sources.{Came, Source, on_side}
use Rattle.afdx_senders.specs.Setups.{came_from, is_of}
use Rattle.afdx_senders.specs.Sites.{Among, Recorded, has_link, is_sent_at, is_site, named_as, sent_as, sent_by, sent_in, source_of}
use Rattle.afdx_senders.specs.declared.sites.SourceOf.{SourceOf}
use Rattle.afdx_senders.specs.declared.sites.SourceOf.TheVariants.{Elsewhere, Nobody, Unknown}
use Rattle.afdx_senders.specs.declared.sites.SourceOf.TheVariants.{Source as OfSource}
use Rattle.afdx_senders.proofs.SiteLemmas.{sent_at}
use Rattle.afdx_senders.proofs.TermLemmas.{port_is}

-- ---- which row a look-up finds

found-vl : (links : List LinkRow) (vl i : ℕ) (l : LinkRow) → link_of links vl ≡ Some i → slice_get links i ≡ Some l →
    l.vl ≡ vl
unfolding link_of
found-vl links vl i l found at =
    let is = position-Some (λ (r : LinkRow). nat_eq vl r.vl) links i l found in
    let same = same_Some _ l (sym (slice_get-get_or links i l is.0) ∙ at) in
    sym (eqb-true vl l.vl (sym (ap (λ (r : LinkRow). nat_eq vl r.vl) same) ∙ is.1))

row-there : {X : Type 0} (xs : List X) (i : ℕ) → i < length xs → (x : X) × (slice_get xs i ≡ Some x)
row-there [] i less = absurd (omega (arith, less))
row-there (x ∷ xs) zero less = (x, refl)
row-there (x ∷ xs) (suc i) less = row-there xs i (omega (arith, less))

module _ (t : Rows) (lawful : IsLawfulSwitch t) (place : ℕ) (l : LinkRow) (at : slice_get t.links place ≡ Some l)
    (sends : l.from < t.own) (among : Among) (recorded : Recorded)
    (seen : (side : Side) → recorded side (port_of t l.from) ≡ true)
  where
    pub link-row : IsLinkUpTo jitter_from_any (length t.systems) l
    link-row = AllByRecursion-slice_get (IsLinkUpTo jitter_from_any (length t.systems)) t.links place l
        lawful.links.each at

    -- its system
    pub record HasSender : Type 0 where
      pub row : SystemRow
      pub there : slice_get t.systems l.from ≡ Some row

    pub sender : HasSender
    sender = let r = row-there t.systems l.from link-row.from in record { row = r.0; there = r.1 }

    hears : is_some (listener_at t (port_of t l.from)) ≡ true
    unfolding listener_at
    hears =
        let s = sender in
        let found : system_at_port t.systems (port_of t l.from) ≡ Some l.from =
        ap (system_at_port t.systems) (port_is t l.from s.row s.there)
        ∙ (each_row-found t lawful).by_port l.from s.row s.there in
        ap (λ (o : Option ℕ). is_some (option_and_then (λ i. if nat_lt i t.own then Some i else None) o)) found
        ∙ ap (λ (b : Bool). is_some (if b then Some l.from else None)) (lt-ltb l.from t.own sends)

    -- ---- whose a frame is

    site : (side : Side) (port : ℕ) → (port_of t l.from == port) ≡ true → is_site t recorded side port ≡ true
    unfolding is_site
    site side port here =
        let same : port_of t l.from ≡ port = eqb-true (port_of t l.from) port here in
        subst (λ (p : ℕ). (recorded side p && is_some (listener_at t p)) ≡ true) same
        (ap (λ (b : Bool). b && is_some (listener_at t (port_of t l.from))) (seen side) ∙ hears)

    sent-here : (port : ℕ) → is_sent_at t l port ≡ (port_of t l.from == port)
    unfolding is_sent_at
    sent-here port = ap (λ (b : Bool). b && nat_eq (port_of t l.from) port) (lt-ltb l.from t.own sends)

    abbrev is_its : SourceOf → Bool
    is_its whose = is_of place whose

    -- of a frame that names the link
    named-own : (side : Side) (port : ℕ) (vl : VlId) → vl.0 ≡ l.vl → (site_is here : Bool) →
        is_site t recorded side port ≡ site_is → (port_of t l.from == port) ≡ here →
        is_its (if site_is then sent_by t among port vl else Nobody) ≡ here
    named-own side port vl named true here known is =
        let found : link_of t.links vl.0 ≡ Some place =
        ap (link_of t.links) named ∙ (each_row-found t lawful).by_vl place l at in
        ap is_its (sent_at t among port vl place l here found at (sent-here port ∙ is)) ∙ by here
      where
        by : (b : Bool) → is_its (if b then OfSource place else Elsewhere) ≡ b
        by true = eq-eqb place place refl
        by false = refl
    named-own side port vl named false true known is = absurd (let there = site side port is in cc (known, there))
    named-own side port vl named false false known is = refl

    -- of one that names another
    other-row : (port k : ℕ) (vl : VlId) (o : Option LinkRow) → slice_get t.links k ≡ o →
        link_of t.links vl.0 ≡ Some k →
        (vl.0 == l.vl) ≡ false → is_its (sent_as t port k o) ≡ false
    other-row port k vl None there found other = refl
    other-row port k vl (Some r) there found other = by (is_sent_at t r port)
      where
        not-its : (b : Bool) → nat_eq k place ≡ b → b ≡ false
        not-its false e = refl
        not-its true e =
            let same : k ≡ place = eqb-true k place e in
            let row : r ≡ l = same_Some r l (sym there ∙ ap (slice_get t.links) same ∙ at) in
            let named : vl.0 ≡ l.vl = sym (found-vl t.links vl.0 k r found there) ∙ ap (λ (w : LinkRow). w.vl) row in
            let yes : (vl.0 == l.vl) ≡ true = eq-eqb vl.0 l.vl named in
            absurd (cc (other, yes))

        by : (b : Bool) → is_its (if b then OfSource k else Elsewhere) ≡ false
        by true = not-its (nat_eq k place) refl
        by false = refl

    other-found : (port : ℕ) (vl : VlId) (o : Option ℕ) → link_of t.links vl.0 ≡ o → (vl.0 == l.vl) ≡ false →
        is_its (sent_in t among port vl o) ≡ false
    other-found port vl None found other = by (has_link among vl.0)
      where
        by : (b : Bool) → is_its (if b then Elsewhere else Unknown) ≡ false
        by true = refl
        by false = refl
    other-found port vl (Some k) found other = other-row port k vl (slice_get t.links k) refl found other

    named-other : (side : Side) (port : ℕ) (vl : VlId) (site_is : Bool) → (vl.0 == l.vl) ≡ false →
        is_its (if site_is then sent_by t among port vl else Nobody) ≡ false
    unfolding sent_by
    named-other side port vl true other = other-found port vl (link_of t.links vl.0) refl other
    named-other side port vl false other = refl

    by-name : (x : Arrival) (o : Option VlId) →
        is_its (named_as t among recorded x o)
        ≡ (option_map_or (λ n. n.0 == l.vl) o false && (port_of t l.from == x.port))
    by-name x None = refl
    by-name x (Some vl) = by (vl.0 == l.vl) refl
      where
        by : (b : Bool) → (vl.0 == l.vl) ≡ b →
            is_its (if is_site t recorded x.side x.port then sent_by t among x.port vl else Nobody)
            ≡ (b && (port_of t l.from == x.port))
        by true e = named-own x.side x.port vl (eqb-true vl.0 l.vl e) (is_site t recorded x.side x.port)
            (port_of t l.from == x.port) refl refl
        by false e = named-other x.side x.port vl (is_site t recorded x.side x.port) e

    abbrev is_sent : Arrival → Bool
    is_sent x = names l.vl x.bytes && (port_of t l.from == x.port)

    pub whose-same : (x : Arrival) → is_of place (source_of t among recorded x) ≡ is_sent x
    unfolding source_of names
    whose-same x = by-name x (link_named_by x.bytes)

-- ---- of all frames that came

pub filter-same : {X : Type 0} (p q : X → Bool) (xs : List X) → ((x : X) → p x ≡ q x) → filter p xs ≡ filter q xs
filter-same p q [] h = refl
filter-same p q (x ∷ xs) h =
    ap₂ (λ (b : Bool) (l : List _). if b then x ∷ l else l) (h x) (filter-same p q xs h)

module _ (vl port : ℕ) where
  abbrev pub is_own : Arrival → Bool
  is_own x = names vl x.bytes && (port == x.port)

  abbrev pub sent_among : List Arrival → List Came
  sent_among xs = map came_from (filter is_own xs)

  pub all-named : (s : Source) → s.rule.vl ≡ vl → (xs : List Arrival) → AreNamed s (sent_among xs)
  all-named s same [] = tt
  all-named s same (x ∷ xs) = by (is_own x) refl (all-named s same xs)
    where
      by : (b : Bool) → is_own x ≡ b → AreNamed s (sent_among xs) →
          AreNamed s (map came_from (if b then x ∷ filter is_own xs else filter is_own xs))
      by true e more = (
        ap (λ (n : ℕ). names n x.bytes) same ∙ (and_parts (names vl x.bytes) (port == x.port) e).0,
        more,
      )
      by false e more = more

  later-up : (a b : ℕ) (l : List ℕ) → a ≤ b → AreUpTo a l → AreUpTo b l
  later-up a b [] low h = tt
  later-up a b (x ∷ l) low h = (omega (arith, low, h.0), h.1)

  pub sent-up : (time : ℕ) (xs : List Arrival) → AreUpTo time (map (λ x. x.time) xs) → ComeUpTo time (sent_among xs)
  sent-up time [] h = tt
  sent-up time (x ∷ xs) h = by (is_own x) (sent-up x.time xs h.1)
    where
      by : (b : Bool) → ComeUpTo x.time (sent_among xs) →
          ComeUpTo time (map came_from (if b then x ∷ filter is_own xs else filter is_own xs))
      by true more = (h.0, more)
      by false more = later-up x.time time (map (λ y. y.time) (sent_among xs)) h.0 more

  all-by : (time : ℕ) (test : Arrival → Bool) (xs : List Arrival) → AreUpTo time (map (λ x. x.time) xs) →
      AllByRecursion (λ w. w.time ≤ time) (filter test xs)
  all-by time test [] h = tt
  all-by time test (x ∷ xs) h =
      by (test x) (all-by time test xs (later-up x.time time (map (λ y. y.time) xs) h.0 h.1))
    where
      by : (b : Bool) → AllByRecursion (λ w. w.time ≤ time) (filter test xs) →
          AllByRecursion (λ w. w.time ≤ time) (if b then x ∷ filter test xs else filter test xs)
      by true more = (h.0, more)
      by false more = more

  pub goes-by-time : (time : ℕ) (test : Arrival → Bool) (xs : List Arrival) → AreUpTo time (map (λ x. x.time) xs) →
      GoByTime (filter test xs)
  unfolding GoByTime
  goes-by-time time test [] h = tt
  goes-by-time time test (x ∷ xs) h = by (test x) (goes-by-time x.time test xs h.1)
    where
      by : (b : Bool) → GoByTime (filter test xs) → GoByTime (if b then x ∷ filter test xs else filter test xs)
      by true more = (all-by x.time test xs h.1, more)
      by false more = more

  abbrev of_side : Side → Arrival → Bool
  of_side side x = is_side side x.side && names vl x.bytes

  -- those at the port are the frames that were sent
  pub at-port : (s : Source) → s.rule.port ≡ port → (side : Side) (xs : List Arrival) →
      filter (λ x. port == x.port) (filter (of_side side) xs) ≡ arrivals_of s side (sent_among xs)
  at-port s same side [] = refl
  at-port s same side (x ∷ xs) =
      by (is_side side x.side) (names vl x.bytes) (port == x.port) refl refl refl (at-port s same side xs)
    where
      its : (port == x.port) ≡ true → arrival_of s (came_from x) ≡ x
      its e = ap (λ (p : ℕ). arrival_with x.tag x.time x.side p x.bytes) (same ∙ eqb-true port x.port e)

      by : (a b c : Bool) → is_side side x.side ≡ a → names vl x.bytes ≡ b → (port == x.port) ≡ c →
          filter (λ x. port == x.port) (filter (of_side side) xs) ≡ arrivals_of s side (sent_among xs) →
          filter (λ x. port == x.port) (if a && b then x ∷ filter (of_side side) xs else filter (of_side side) xs)
          ≡ map (arrival_of s) (on_side side
          (map came_from (if b && c then x ∷ filter is_own xs else filter is_own xs)))
      by true true true ea eb ec more =
          cond-true (port == x.port) (x ∷ filter (λ y. port == y.port) (filter (of_side side) xs))
          (filter (λ y. port == y.port) (filter (of_side side) xs)) ec
          ∙ ap₂ (λ (y : Arrival) (l : List Arrival). y ∷ l) (sym (its ec)) more
          ∙ sym (ap (map (arrival_of s)) (cond-true (is_side side x.side) (came_from x ∷ on_side side (sent_among xs))
          (on_side side (sent_among xs)) ea))
      by true true false ea eb ec more =
          cond-false (port == x.port) (x ∷ filter (λ y. port == y.port) (filter (of_side side) xs))
          (filter (λ y. port == y.port) (filter (of_side side) xs)) ec
          ∙ more
      by true false c ea eb ec more = more
      by false true true ea eb ec more =
          more
          ∙ sym (ap (map (arrival_of s)) (cond-false (is_side side x.side) (came_from x ∷ on_side side (sent_among xs))
          (on_side side (sent_among xs)) ea))
      by false true false ea eb ec more = more
      by false false c ea eb ec more = more
