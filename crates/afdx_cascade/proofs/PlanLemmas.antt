-- The switches of a configuration are a plan.
use Rattle.std.proofs.Common.{◌≡◌, ℕ, ◌<◌, ◌≤◌, ◌==◌, Bool, true, false, List, [], ◌∷◌, ◌++◌, length, refl}
use Rattle.std.proofs.Common.{sym, ap, ◌∙◌, subst, arith, Option, Some, None, slice_get, position, nat_le, if◌then◌else◌}
use Rattle.std.proofs.Common.{option_map, option_and_then}
use Rattle.std.specs.Option.{option_map_or}
use Rattle.std.specs.Str.{bytes_eq}
use Rattle.std.proofs.lemmas.Bool.{eqb-true}
use Rattle.std.proofs.lemmas.List.Quantifiers.{position-Some}
use Rattle.std.proofs.lemmas.Option.{same_Some, slice_get_within, slice_get-get_or}
use Rattle.std.proofs.lemmas.Slice.Eq.{bytes_eq-Decides}
use Rattle.afdx_frame.specs.Lines.{first_false, each_from}
use Rattle.afdx_frame.proofs.FirstFalseLemmas.{append_holds, cons_holds, each_holds}
use Rattle.afdx_frame.proofs.ListLemmas.{AllByRecursion-slice_get}
use Rattle.afdx_config.specs.declared.fault.Part.TheVariants as part
use Rattle.afdx_config.specs.declared.fault.ConfigFault.TheVariants.{Twice}
use Rattle.afdx_config.specs.declared.switches.FarEnd.{FarEnd}
use Rattle.afdx_config.specs.Keys.{place}
use Rattle.afdx_config.specs.Lawful.{IsLawfulSwitch, IsSystem}
use Rattle.afdx_config.specs.Reading.{system_named, system_at_port}
use Rattle.afdx_config.specs.Rows.{SystemRow, Rows}
use Rattle.afdx_config.specs.Switches as switches
use Rattle.afdx_config.specs.Switches.{NamedRows, AreSwitches, switch_named, is_this, if_neighbour}
use Rattle.afdx_config.specs.Switches.{neighbour_named, neighbour_row, neighbour_at_port, listed_at}
use Rattle.afdx_config.specs.Switches.{far_end, name_lines, systems_lines, neighbours_lines}
use Rattle.afdx_config.specs.Switches.{starts_lines, over_all, over_all_line}
use Rattle.afdx_config.proofs.LookUpLemmas.{each_row-found}
use Rattle.afdx_cascade.specs.SwitchEvents.{End, end_at}
use Rattle.afdx_cascade.specs.Turning.{end_of}
use Rattle.afdx_cascade.specs.Plans.{SwitchesAreAPlan, tables_of, first_tables}

-- ---- look-ups that found something

pub and-then : {A B : Type 0} (f : A → Option B) (o : Option A) (y : B) → option_and_then f o ≡ Some y
    → (x : A) × (o ≡ Some x) × (f x ≡ Some y)
and-then f None y h = absurd (cc h)
and-then f (Some x) y h = (x, refl, h)

pub mapped : {A B : Type 0} (f : A → B) (o : Option A) (y : B) → option_map f o ≡ Some y
    → (x : A) × (o ≡ Some x) × (f x ≡ y)
mapped f None y h = absurd (cc h)
mapped f (Some x) y h = (x, refl, same_Some (f x) y h)

-- what stands at a place that a search found passes
pub passes-there : {R : Type 0} (p : R → Bool) (rows : List R) (i : ℕ) (a : R) → position p rows ≡ Some i
    → slice_get rows i ≡ Some a → p a ≡ true
passes-there p rows i a found at =
    let is = position-Some p rows i a found in
    let same = same_Some _ a (sym (slice_get-get_or rows i a is.0) ∙ at) in
    sym (ap p same) ∙ is.1

-- ---- the neighbours of a switch

-- a neighbour, and the place that a look-up gives for it
pub record IsFoundAt (t : Rows) (found : Option ℕ) (e : SystemRow) : Type 0 where
  pub i : ℕ
  pub is : found ≡ Some i
  pub beside : if_neighbour t i ≡ Some i
  pub stands : slice_get t.systems i ≡ Some e

pub same-place : (b : Bool) (i m : ℕ) → (if b then Some i else None) ≡ Some m → i ≡ m
same-place true i m h = same_Some i m h
same-place false i m h = absurd (cc h)

module _ (t : Rows) where
  found-at : (found : Option ℕ) (e : SystemRow)
      → option_and_then (slice_get t.systems) (option_and_then (if_neighbour t) found) ≡ Some e
      → IsFoundAt t found e
  found-at found e h =
      let there = and-then (slice_get t.systems) (option_and_then (if_neighbour t) found) e h in
      let it = and-then (if_neighbour t) found there.0 there.1 in
      let same : it.0 ≡ there.0 = same-place (nat_le t.own it.0) it.0 there.0 it.2 in
      record {
        i = it.0;
        is = it.1;
        beside = it.2 ∙ ap Some (sym same);
        stands = ap (slice_get t.systems) same ∙ there.2;
      }

  pub at-found : (found : Option ℕ) (e : SystemRow) → IsFoundAt t found e
      → option_and_then (slice_get t.systems) (option_and_then (if_neighbour t) found) ≡ Some e
  at-found found e h =
      ap (λ o. option_and_then (slice_get t.systems) (option_and_then (if_neighbour t) o)) h.is
      ∙ ap (option_and_then (slice_get t.systems)) h.beside ∙ h.stands

  by-name : (name : List ℕ) (e : SystemRow) → neighbour_row t name ≡ Some e
      → IsFoundAt t (system_named t.systems name) e
  unfolding neighbour_named
  by-name name e h = found-at (system_named t.systems name) e h

  pub name-by : (name : List ℕ) (e : SystemRow) → IsFoundAt t (system_named t.systems name) e
      → neighbour_row t name ≡ Some e
  unfolding neighbour_named
  name-by name e h = at-found (system_named t.systems name) e h

  name-is : (name : List ℕ) (e : SystemRow) → IsFoundAt t (system_named t.systems name) e → name ≡ e.name
  unfolding system_named
  name-is name e h =
      (bytes_eq-Decides name e.name).0
      (passes-there (λ (r : SystemRow). bytes_eq name r.name) t.systems h.i e h.is h.stands)

  port-is : (port : ℕ) (e : SystemRow) → IsFoundAt t (system_at_port t.systems port) e → e.port ≡ port
  unfolding system_at_port
  port-is port e h =
      eqb-true e.port port
      (passes-there (λ (r : SystemRow). r.port == port) t.systems h.i e h.is h.stands)

-- ---- the cables

abbrev pub far_at : ℕ → ℕ → FarEnd
far_at j port = record { switch = record { 0 = j }; port = port }

abbrev pub leads : ℕ → SystemRow → FarEnd
leads j e = far_at j e.port

-- a cable, from the port at which this switch lists the other one
pub record IsCable (ss : List NamedRows) (k port : ℕ) (f : FarEnd) : Type 0 where
  pub here : NamedRows
  pub here_is : slice_get ss k ≡ Some here
  pub one : SystemRow
  pub listed : IsFoundAt here.rows (system_at_port here.rows.systems port) one
  pub j : ℕ
  pub named : switch_named ss one.name ≡ Some j
  pub there : NamedRows
  pub there_is : slice_get ss j ≡ Some there
  pub back : SystemRow
  pub lists : IsFoundAt there.rows (system_named there.rows.systems here.name) back
  pub is : leads j back ≡ f

module _ (ss : List NamedRows) where
  pub cable : (k port : ℕ) (f : FarEnd) → far_end ss k port ≡ Some f → IsCable ss k port f
  unfolding far_end
  cable k port f h =
      let here = and-then (λ (s : NamedRows). option_and_then (switches.end_at ss s.name)
      (neighbour_at_port s.rows port))
      (slice_get ss k) f h in
      let one = and-then (switches.end_at ss here.0.name) (neighbour_at_port here.0.rows port) f here.2 in
      let far = and-then (λ j. option_map (leads j) (listed_at ss here.0.name j))
      (switch_named ss one.0.name) f one.2 in
      let back = mapped (leads far.0) (listed_at ss here.0.name far.0) f far.2 in
      let there = and-then (λ (s : NamedRows). neighbour_row s.rows here.0.name) (slice_get ss far.0) back.0 back.1 in
      record {
        here = here.0;
        here_is = here.1;
        one = one.0;
        listed = found-at here.0.rows (system_at_port here.0.rows.systems port) one.0 one.1;
        j = far.0;
        named = far.1;
        there = there.0;
        there_is = there.1;
        back = back.0;
        lists = by-name there.0.rows here.0.name back.0 there.2;
        is = back.2;
      }

  switch-name : (name : List ℕ) (j : ℕ) (s : NamedRows) → switch_named ss name ≡ Some j → slice_get ss j ≡ Some s
      → name ≡ s.name
  unfolding switch_named
  switch-name name j s found at =
      (bytes_eq-Decides name s.name).0
      (passes-there (λ (r : NamedRows). bytes_eq name r.name) ss j s found at)

  pub cable-is : (k port : ℕ) (s t : NamedRows) (e back : SystemRow) (j : ℕ) → slice_get ss k ≡ Some s
      → neighbour_at_port s.rows port ≡ Some e → switch_named ss e.name ≡ Some j → slice_get ss j ≡ Some t
      → neighbour_row t.rows s.name ≡ Some back → far_end ss k port ≡ Some (leads j back)
  unfolding far_end
  cable-is k port s t e back j at one named there lists =
      ap (option_and_then (λ (r : NamedRows). option_and_then (switches.end_at ss r.name)
      (neighbour_at_port r.rows port))) at
      ∙ ap (option_and_then (switches.end_at ss s.name)) one
      ∙ ap (option_and_then (λ i. option_map (leads i) (listed_at ss s.name i))) named
      ∙ ap (λ o. option_map (leads j) (option_and_then (λ (r : NamedRows). neighbour_row r.rows s.name) o)) there
      ∙ ap (option_map (leads j)) lists

module _ (ss : List NamedRows) (are : AreSwitches ss) where
  pub lawful-at : (k : ℕ) (s : NamedRows) → slice_get ss k ≡ Some s → IsLawfulSwitch s.rows
  lawful-at k s at = AllByRecursion-slice_get (λ (r : NamedRows). IsLawfulSwitch r.rows) ss k s are.each at

  -- a switch's name is its own
  names-hold : (k : ℕ) → k < length ss → first_false (name_lines ss k) ≡ None
  unfolding over_all
  names-hold k within =
      each_holds (name_lines ss) 0 (length ss)
      (append_holds (each_from (name_lines ss) 0 (length ss))
      (each_from (systems_lines ss) 0 (length ss)
      ++ (each_from (neighbours_lines ss) 0 (length ss)
      ++ each_from (starts_lines ss) 0 (length ss))) are.over).0 k (omega arith) (omega (arith, within))

  pub own-place : (k : ℕ) (s : NamedRows) → slice_get ss k ≡ Some s → switch_named ss s.name ≡ Some k
  unfolding name_lines
  own-place k s at =
      let holds = sym (ap (λ o. first_false (option_map_or (λ (r : NamedRows).
      over_all_line (is_this (switch_named ss r.name) k) k (Twice (place part.Top 0 6)) ∷ []) o [])) at)
      ∙ names-hold k (slice_get_within ss k s at) in
      this-one (switch_named ss s.name) k
      (cons_holds (over_all_line (is_this (switch_named ss s.name) k) k (Twice (place part.Top 0 6))) [] holds).one
    where
      this-one : (o : Option ℕ) (k : ℕ) → is_this o k ≡ true → o ≡ Some k
      this-one None k h = absurd (cc h)
      this-one (Some i) k h = ap Some (eqb-true i k h)

  -- a cable leads back
  leads-back : (k port : ℕ) (f : FarEnd) → IsCable ss k port f
      → far_end ss f.switch.0 f.port ≡ Some (far_at k port)
  leads-back k port f c =
      let there = each_row-found c.there.rows (lawful-at c.j c.there c.there_is) in
      let here = each_row-found c.here.rows (lawful-at k c.here c.here_is) in
      let name : c.one.name ≡ c.there.name = switch-name ss c.one.name c.j c.there c.named c.there_is in
      let at_back = at-found c.there.rows (system_at_port c.there.rows.systems c.back.port) c.back (record {
        i = c.lists.i;
        is = there.by_port c.lists.i c.back c.lists.stands;
        beside = c.lists.beside;
        stands = c.lists.stands;
      }) in
      let home : switch_named ss c.back.name ≡ Some k =
      subst (λ n. switch_named ss n ≡ Some k) (name-is c.there.rows c.here.name c.back c.lists)
      (own-place k c.here c.here_is) in
      let lists = name-by c.here.rows c.there.name c.one (record {
        i = c.listed.i;
        is = subst (λ n. system_named c.here.rows.systems n ≡ Some c.listed.i) name
            (here.by_name c.listed.i c.one c.listed.stands);
        beside = c.listed.beside;
        stands = c.listed.stands;
      }) in
      let port_is = port-is c.here.rows port c.one c.listed in
      subst (λ (g : FarEnd). far_end ss g.switch.0 g.port ≡ Some (far_at k port))
      c.is
      (cable-is ss c.j c.back.port c.there c.here c.back c.one k c.there_is at_back home c.here_is lists
      ∙ ap (λ n. Some (far_at k n)) port_is)

  port-within : (k port : ℕ) (f : FarEnd) → IsCable ss k port f → (1 ≤ f.port) × (f.port ≤ 24)
  port-within k port f c =
      subst (λ (g : FarEnd). (1 ≤ g.port) × (g.port ≤ 24)) c.is
      (let lawful = lawful-at c.j c.there c.there_is in
      (AllByRecursion-slice_get (IsSystem c.there.rows.profile) c.there.rows.systems c.lists.i c.back
      lawful.systems.each c.lists.stands).port)

  switch-within : (k port : ℕ) (f : FarEnd) → IsCable ss k port f → f.switch.0 < length ss
  switch-within k port f c =
      subst (λ (g : FarEnd). g.switch.0 < length ss) c.is (slice_get_within ss c.j c.there c.there_is)

-- ---- the plan

pub ends-there : (o : Option FarEnd) (e : End) → end_of o ≡ Some e
    → (f : FarEnd) × (o ≡ Some f) × (end_at f.switch.0 f.port ≡ e)
ends-there None e h = absurd (cc h)
ends-there (Some f) e h = (f, refl, same_Some (end_at f.switch.0 f.port) e h)

pub tables-are : (ss : List NamedRows) (k : ℕ) (t : Rows)
    → option_map (λ s. s.rows) (slice_get ss k) ≡ Some t → tables_of ss k ≡ t
unfolding tables_of
tables-are ss k t h =
    let s = mapped (λ (s : NamedRows). s.rows) (slice_get ss k) t h in
    ap (λ o. option_map_or (λ (r : NamedRows). r.rows) o (first_tables ss)) s.1 ∙ s.2

first-lawful : (ss : List NamedRows) → AreSwitches ss → IsLawfulSwitch (first_tables ss)
first-lawful [] are = absurd (let few = are.count.0 in omega (arith, few))
first-lawful (s ∷ ss) are = are.each.0

each-lawful : (ss : List NamedRows) → AreSwitches ss → (k : ℕ) → IsLawfulSwitch (tables_of ss k)
unfolding tables_of
each-lawful ss are k = by (slice_get ss k) refl
  where
    by : (o : Option NamedRows) → slice_get ss k ≡ o
        → IsLawfulSwitch (option_map_or (λ (r : NamedRows). r.rows) o (first_tables ss))
    by None at = first-lawful ss are
    by (Some s) at = lawful-at ss are k s at

pub switches-plan : SwitchesAreAPlan
switches-plan ss are = (
  record {
    lawful = each-lawful ss are;
    ports = λ k port e h.
        let f = ends-there (far_end ss k port) e h in
        let it = cable ss k port f.0 f.1 in
        let within = port-within ss are k port f.0 it in
        subst (λ (z : End). (1 ≤ z.port) × (z.port ≤ 24)
        × (end_of (far_end ss z.switch z.port) ≡ Some (end_at k port))) f.2
        (within.0, within.1, ap end_of (leads-back ss are k port f.0 it));
  },
  record {
    from = λ k port e h.
        let f = ends-there (far_end ss k port) e h in
        let it = cable ss k port f.0 f.1 in
        slice_get_within ss k it.here it.here_is;
    to = λ k port e h.
        let f = ends-there (far_end ss k port) e h in
        subst (λ (z : End). z.switch < length ss) f.2 (switch-within ss are k port f.0 (cable ss k port f.0 f.1));
  },
)
