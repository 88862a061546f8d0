-- The tree of lawful tables reads as the tables.
use Rattle.std.proofs.Common.{◌≡◌, ℕ, suc, ◌+◌, ◌<◌, Bool, true, false, not, cond, ◌||◌, List, [], ◌∷◌, ◌++◌}
use Rattle.std.proofs.Common.{length, map, take, drop, slice_get, position, Some, None, Result, Ok, refl, sym, ap, ◌∙◌, subst}
use Rattle.std.proofs.Common.{option_and_then}
use Rattle.std.proofs.Common.{arith, append_assoc, append-nil, nat_eq, ◌&&◌, ◌==◌}
use Rattle.std.specs.List.{list_any, position_or_len, AllByRecursion}
use Rattle.std.specs.Str.{bytes_eq}
use Rattle.std.proofs.lemmas.Bool.{or_parts, and_parts, eqb-true, lt-ltb, le-ltb}
use Rattle.std.proofs.lemmas.List.{length-take-le, take-append-drop}
use Rattle.std.proofs.lemmas.Slice.Eq.{bytes_eq-Decides}
use Rattle.afdx_frame.proofs.ListLemmas.{AllByRecursion-slice_get, slice_get-within}
use Rattle.toml.specs.Data.{Members}
use Rattle.afdx_config.specs.declared.fault.ConfigFault.{ConfigFault}
use Rattle.afdx_config.specs.Choices.{all_kept}
use Rattle.afdx_config.specs.Lawful.{IsLawfulSwitch, AreDistinct, IsSystem, HasNoNumber, IsLinkUpTo, IsLinkAmong, IsPort}
use Rattle.afdx_config.specs.Lawful.{triple, jitter_from_any}
use Rattle.afdx_config.specs.Reading.{each, system_at, link_at, port_at, system_named, system_at_port, has_id, link_of, has_port}
use Rattle.afdx_config.specs.Rows.{SystemRow, LinkRow, PortRow, Rows}
use Rattle.afdx_config.specs.Switches.{neighbour_at}
use Rattle.afdx_config.proofs.LookUpLemmas.{each_row-found}
use Rattle.afdx_config.proofs.TakenLemmas.{below as below_or_none, named_take}
use Rattle.afdx_solve.proofs.FrontLemmas.{front}
use Rattle.afdx_solve.specs.ConfigText.{name_at}
use Rattle.afdx_solve.proofs.ReadRowLemmas.{IsNewSystem, AreNamed, system_tree, neighbour_tree, link_tree, port_tree}
use Rattle.afdx_solve.proofs.ReadRowLemmas.{system-reads, neighbour-reads, link-reads, port-reads}

-- ---- a row differs from those before it

at-end : {R : Type 0} (before after : List R) (r : R) → slice_get (before ++ r ∷ after) (length before) ≡ Some r
at-end [] after r = refl
at-end (x ∷ before) after r = at-end before after r

distinct-tail : {R A : Type 0} (f : R → A) (x : R) (xs : List R) → AreDistinct f (x ∷ xs) → AreDistinct f xs
unfolding AreDistinct
distinct-tail f x xs distinct = λ i j a b at at' same. omega (arith, distinct (suc i) (suc j) a b at at' same)

-- a test that only its like pass is passed by none before
fresh : {R A : Type 0} (f : R → A) (p : R → Bool) (before after : List R) (r : R) → AreDistinct f (before ++ r ∷ after)
    → ((x : R) → p x ≡ true → f x ≡ f r) → list_any p before ≡ false
unfolding AreDistinct
fresh f p [] after r distinct only = refl
fresh f p (x ∷ before) after r distinct only =
    by (p x) refl (fresh f p before after r (distinct-tail f x (before ++ r ∷ after) distinct) only)
  where
    by : (b : Bool) → p x ≡ b → list_any p before ≡ false → b || list_any p before ≡ false
    by true here later = absurd (omega (
      arith,
      distinct 0 (suc (length before)) x r refl
          (at-end before after r) (only x here),
    ))
    by false here later = later

none-length : {R : Type 0} (p : R → Bool) (rows : List R) → list_any p rows ≡ false
    → position_or_len p rows ≡ length rows
none-length p [] none = refl
none-length p (r ∷ rows) none =
    let (here, later) = or_parts (p r) (list_any p rows) none in
    omega (arith, ap (λ b. cond (not b) (1 + position_or_len p rows) 0) here, none-length p rows later)

not_found : {R : Type 0} (p : R → Bool) (rows : List R) → list_any p rows ≡ false → position p rows ≡ None
not_found p rows none = rw (none-length p rows none, le-ltb (length rows) (length rows) (omega arith))

-- ---- the rows of each part

-- each row that stands behind some reads back after those before it, if all have what it takes
each-reads : {R : Type 0} (P : R → Type 0) (row_at : List R → Members → Result R ConfigFault) (tree : R → Members)
    (all : List R)
    → ((before after : List R) (r : R) → all ≡ before ++ r ∷ after → P r → row_at before (tree r) ≡ Ok r)
    → (before rest : List R) → all ≡ before ++ rest → AllByRecursion P rest
    → each row_at before (map tree rest) ≡ Ok all
each-reads P row_at tree all reads before [] e are = ap Ok (sym (e ∙ append-nil before))
each-reads P row_at tree all reads before (r ∷ rest) e are =
    rw (reads before rest r e are.0)
    (each-reads P row_at tree all reads (before ++ r ∷ []) rest (e ∙ sym (append_assoc before (r ∷ []) rest)) are.1)

row-of : {R : Type 0} (P : R → Type 0) (all before after : List R) (r : R) → AllByRecursion P all
    → all ≡ before ++ r ∷ after → P r
row-of P all before after r are e = AllByRecursion-slice_get P all (length before) r are (rw e (at-end before after r))

-- a row among the first is one among all
in-all : {R : Type 0} (n : ℕ) (all before after : List R) (r : R) → take n all ≡ before ++ r ∷ after
    → all ≡ before ++ r ∷ (after ++ drop n all)
in-all n all before after r e =
    sym (take-append-drop n all) ∙ ap (λ rows. rows ++ drop n all) e ∙ append_assoc before (r ∷ after) (drop n all)

module _ (t : Rows) (lawful : IsLawfulSwitch t) where
  abbrev pub own_rows : List SystemRow
  own_rows = take t.own t.systems

  abbrev pub neighbour_rows : List SystemRow
  neighbour_rows = drop t.own t.systems

  pub own-count : length own_rows ≡ t.own
  own-count = length-take-le t.own t.systems lawful.own

  pub ends-named : AreNamed t.systems
  unfolding name_at
  ends-named i within =
      let (s, at) = slice_get-within t.systems i within in
      rw at ((each_row-found t lawful).by_name i s at)

  -- a system's name stands for it among the systems alone
  own-named : (i : ℕ) → i < t.own → system_named own_rows (name_at t.systems i) ≡ Some i
  own-named i below =
      named_take t.own t.systems (name_at t.systems i)
      ∙ ap (option_and_then (below_or_none t.own)) (ends-named i (omega (arith, below, lawful.own)))
      ∙ rw (lt-ltb i t.own below) refl

  -- no end before has its name or its port
  new-name : (before after : List SystemRow) (s : SystemRow) → t.systems ≡ before ++ s ∷ after
      → system_named before s.name ≡ None
  unfolding system_named
  new-name before after s e = not_found (λ r. bytes_eq s.name r.name) before
      (fresh (λ r. r.name) (λ r. bytes_eq s.name r.name) before after s
      (subst (AreDistinct (λ r. r.name)) e lawful.systems.names) (λ r h. sym ((bytes_eq-Decides s.name r.name).0 h)))

  new-port : (before after : List SystemRow) (s : SystemRow) → t.systems ≡ before ++ s ∷ after
      → system_at_port before s.port ≡ None
  unfolding system_at_port
  new-port before after s e = not_found (λ r. r.port == s.port) before
      (fresh (λ r. r.port) (λ r. r.port == s.port) before after s
      (subst (AreDistinct (λ r. r.port)) e lawful.systems.ports) (λ r h. eqb-true r.port s.port h))

  system-new : (before after : List SystemRow) (s : SystemRow) → own_rows ≡ before ++ s ∷ after → IsNewSystem before s
  unfolding has_id
  system-new before after s e =
      let among = in-all t.own t.systems before after s e in
      record {
        name = new-name before (after ++ neighbour_rows) s among;
        port = new-port before (after ++ neighbour_rows) s among;
        id = fresh (λ r. r.id) (λ r. r.id == s.id) before after s
            (subst (AreDistinct (λ r. r.id)) e lawful.systems.ids) (λ r h. eqb-true r.id s.id h);
      }

  pub systems-read : each (system_at t.profile) [] (map system_tree own_rows) ≡ Ok own_rows
  systems-read = each-reads (IsSystem t.profile) (system_at t.profile) system_tree own_rows
      (λ before after s e is. system-reads t.profile before s is (system-new before after s e)) [] own_rows refl
      (front (IsSystem t.profile) t.own t.systems lawful.systems.each)

  pub neighbours-read : (own : ℕ)
      → each (neighbour_at t.profile own) own_rows (map neighbour_tree neighbour_rows) ≡ Ok t.systems
  neighbours-read own = each-reads HasNoNumber (neighbour_at t.profile own) neighbour_tree t.systems
      (λ before after e is none. neighbour-reads t.profile own before e
      (row-of (IsSystem t.profile) t.systems before after e lawful.systems.each is)
      (new-name before after e is) (new-port before after e is) none)
      own_rows neighbour_rows (sym (take-append-drop t.own t.systems)) lawful.systems.neighbours

  link-new : (before after : List LinkRow) (l : LinkRow) → t.links ≡ before ++ l ∷ after → link_of before l.vl ≡ None
  unfolding link_of
  link-new before after l e =
      not_found (λ r. nat_eq l.vl r.vl) before (fresh (λ r. r.vl) (λ r. nat_eq l.vl r.vl) before after l
      (subst (AreDistinct (λ r. r.vl)) e lawful.links.identifiers) (λ r h. sym (eqb-true l.vl r.vl h)))

  -- each may have its jitter
  link-among : (own : ℕ) → own ≡ t.own → (before after : List LinkRow) (l : LinkRow) → t.links ≡ before ++ l ∷ after
      → IsLinkUpTo jitter_from_any (length t.systems) l → IsLinkAmong own (length t.systems) l
  link-among own same before after l e is = record {
    link = is;
    sent = λ from. lawful.sent (length before) l (rw e (at-end before after l)) (rw (← same) from);
  }

  pub links-read : (own : ℕ) → own ≡ t.own
      → each (link_at all_kept own t.systems) [] (map (link_tree t.systems) t.links) ≡ Ok t.links
  links-read own same = each-reads (IsLinkUpTo jitter_from_any (length t.systems))
      (link_at all_kept own t.systems) (link_tree t.systems) t.links
      (λ before after l e is. link-reads own t.systems before l (link-among own same before after l e is) ends-named
      (link-new before after l e))
      [] t.links refl lawful.links.each

  same-triple : (p r : PortRow) → ((nat_eq r.system p.system && nat_eq r.link p.link) && nat_eq
      r.udp p.udp) ≡ true → triple r ≡ triple p
  same-triple p r h =
      let (first_two, udp) = and_parts (nat_eq r.system p.system && nat_eq r.link p.link) (nat_eq r.udp p.udp) h in
      let (system, link) = and_parts (nat_eq r.system p.system) (nat_eq r.link p.link) first_two in
      rw (eqb-true r.system p.system system, eqb-true r.link p.link link, eqb-true r.udp p.udp udp)

  port-new : (before after : List PortRow) (p : PortRow) → t.ports ≡ before ++ p ∷ after
      → has_port before p.system p.link p.udp ≡ false
  unfolding has_port
  port-new before after p e =
      fresh triple (λ r. (nat_eq r.system p.system && nat_eq r.link p.link) && nat_eq r.udp p.udp) before after p
      (subst (AreDistinct triple) e lawful.ports.triples) (same-triple p)

  pub ports-read : each (port_at own_rows t.links) [] (map (port_tree t.systems) t.ports) ≡ Ok t.ports
  ports-read = each-reads (IsPort (length t.systems) t.links) (port_at own_rows t.links) (port_tree t.systems) t.ports
      (λ before after p e is. port-reads t.systems own_rows t.links before p is lawful.links.each
      (own-named p.system (lawful.heard (length before) p (rw e (at-end before after p))))
      (port-new before after p e)) [] t.ports refl lawful.ports.each
