-- What comes in as options and frames' bytes say, once the options' places are those of the switches
-- of a configuration, comes in at one of these, at a port where no cable is.
use Rattle.std.specs.Option.{option_or}
use Rattle.std.proofs.Common.{◌≡◌, ℕ, zero, suc, ◌+◌, ◌<◌, ◌==◌, Bool, true, false, not, List, [], ◌∷◌, length, take}
use Rattle.std.proofs.Common.{map, refl, sym, ◌∙◌, ap, subst, arith, inl, inr, nat_lt, if◌then◌else◌}
use Rattle.std.proofs.Common.{Option, Some, None, is_some, option_map, option_and_then, slice_get}
use Rattle.std.specs.Str.{bytes_eq}
use Rattle.std.proofs.lemmas.Bool.{lt-leb, ltb-true}
use Rattle.std.proofs.lemmas.List.Quantifiers.{position-Some}
use Rattle.std.proofs.lemmas.Option.{same_Some, slice_get_within}
use Rattle.afdx_frame.proofs.ListLemmas.{AllByRecursion-slice_get}
use Rattle.afdx_frame.specs.declared.link.Side.{Side}
use Rattle.afdx_config.proofs.LookUpLemmas.{each_row-found}
use Rattle.afdx_config.specs.Lawful.{IsLawfulSwitch}
use Rattle.afdx_config.specs.Rows.{Rows, SystemRow}
use Rattle.afdx_config.specs.Switches as switches
use Rattle.afdx_config.specs.Switches.{NamedRows, AreSwitches, far_end, if_neighbour, neighbour_at_port, switch_named}
use Rattle.afdx_config.specs.declared.describing.Described.TheVariants.{Several}
use Rattle.afdx_config.specs.declared.switches.FarEnd.{FarEnd}
use Rattle.afdx_input_lines.specs.declared.frame_line.Heading.{Heading}
use Rattle.afdx_input_sources.specs.Engine.{Item}
use Rattle.afdx_input_sources.specs.Becoming.{entry_of, only_if, options_of}
use Rattle.afdx_input_sources.specs.Claims.{entry_from, own_systems, port_of_system, ports_of_several}
use Rattle.afdx_input_sources.specs.Claims.{sender_of}
use Rattle.afdx_input_sources.specs.Entering.{IsEntered, IsEnteredInPair, entry_in}
use Rattle.afdx_input_sources.specs.PairOptions.{options_of_a, options_of_b}
use Rattle.afdx_input_sources.specs.Places.{allows, entry_at, names_of, place_of}
use Rattle.afdx_input_sources.specs.Placing.{ArePlaced, IsAtOpenPort, OptionsArePlaced, PairIsPlaced, at_known, at_switch}
use Rattle.afdx_input_sources.specs.Placing.{is_free, place_in, switch_by}
use Rattle.afdx_input_sources.specs.declared.becoming.RecordingOptions.{RecordingOptions}
use Rattle.afdx_input_sources.specs.declared.pair_options.PairOptions.{PairOptions}
use Rattle.afdx_input_sources.specs.declared.places.TapPort.{TapPort}
use Rattle.afdx_input_sources.specs.declared.places.Interfaces.{Interfaces}
use Rattle.afdx_input_sources.specs.declared.places.TapPoint.{TapPoint}
use Rattle.afdx_input_sources.specs.declared.places.TapPoint.TheVariants as place

-- ---- look-ups that found something

and-then : {A B : Type 0} (f : A → Option B) (o : Option A) (y : B) → option_and_then f o ≡ Some y
    → (x : A) × (o ≡ Some x) × (f x ≡ Some y)
and-then f None y h = absurd (cc h)
and-then f (Some x) y h = (x, refl, h)

get-taken : {X : Type 0} (xs : List X) (n i : ℕ) (x : X) → slice_get (take n xs) i ≡ Some x
    → (i < n) × (slice_get xs i ≡ Some x)
get-taken xs zero i x e = absurd (cc e)
get-taken [] (suc n) i x e = absurd (cc e)
get-taken (y ∷ xs) (suc n) zero x e = (omega arith, e)
get-taken (y ∷ xs) (suc n) (suc i) x e =
    let later = get-taken xs n i x e in (let below = later.0 in omega (arith, below), later.1)

-- a system whose port this is
record HasPort (systems : List SystemRow) (port : ℕ) : Type 0 where
  i : ℕ
  r : SystemRow
  stands : slice_get systems i ≡ Some r
  is : r.port ≡ port

port-after : (s : SystemRow) (systems : List SystemRow) (port : ℕ) → HasPort systems port → HasPort (s ∷ systems) port
port-after s systems port h = record { i = suc h.i; r = h.r; stands = h.stands; is = h.is }

has-port : (systems : List SystemRow) (number port : ℕ) → port_of_system systems number ≡ Some port
    → HasPort systems port
has-port [] number port e = absurd (cc e)
has-port (s ∷ systems) number port e = by (s.id == number) e (λ h. has-port systems number port h)
  where
    by : (b : Bool) → (if b then Some s.port else port_of_system systems number) ≡ Some port
        → (port_of_system systems number ≡ Some port → HasPort systems port) → HasPort (s ∷ systems) port
    by true e later = record { i = 0; r = s; stands = refl; is = same_Some s.port port e }
    by false e later = port-after s systems port (later e)

-- ---- where bytes say that a frame came in

-- a system of the switch at a place, of those from a number on
record IsOwn (at : ℕ) (ss : List NamedRows) (e : TapPort) : Type 0 where
  k : ℕ
  s : NamedRows
  here : slice_get ss k ≡ Some s
  switch : e.switch ≡ at + k
  i : ℕ
  r : SystemRow
  stands : slice_get s.rows.systems i ≡ Some r
  own : i < s.rows.own
  port : r.port ≡ e.port

own-here : (at : ℕ) (s : NamedRows) (ss : List NamedRows) (port : ℕ) (e : TapPort)
    → HasPort (own_systems s.rows) port → entry_at at port ≡ e → IsOwn at (s ∷ ss) e
own-here at s ss port e h is =
    let row = get-taken s.rows.systems s.rows.own h.i h.r h.stands in record {
      k = 0;
      s = s;
      here = refl;
      switch = sym (ap (λ (e : TapPort). e.switch) is) ∙ omega arith;
      i = h.i;
      r = h.r;
      stands = row.1;
      own = row.0;
      port = h.is ∙ ap (λ (e : TapPort). e.port) is;
    }

own-later : (at : ℕ) (s : NamedRows) (ss : List NamedRows) (e : TapPort) → IsOwn (at + 1) ss e → IsOwn at (s ∷ ss) e
own-later at s ss e h =
    let place = h.switch in record {
      k = suc h.k;
      s = h.s;
      here = h.here;
      switch = omega (arith, place);
      i = h.i;
      r = h.r;
      stands = h.stands;
      own = h.own;
      port = h.port;
    }

own-of : (at : ℕ) (ss : List NamedRows) (number : ℕ) (e : TapPort)
    → entry_from at (map (λ s. s.rows) ss) number ≡ Some e → IsOwn at ss e
unfolding entry_from
own-of at [] number e h = absurd (cc h)
own-of at (s ∷ ss) number e h =
    by (port_of_system (own_systems s.rows) number) refl h (λ later. own-of (at + 1) ss number e later)
  where
    by : (o : Option ℕ) → port_of_system (own_systems s.rows) number ≡ o
        → option_or (option_map (entry_at at) o) (entry_from (at + 1) (map (λ s. s.rows) ss) number) ≡ Some e
        → (entry_from (at + 1) (map (λ s. s.rows) ss) number ≡ Some e → IsOwn (at + 1) ss e) → IsOwn at (s ∷ ss) e
    by None is h later = own-later at s ss e (later h)
    by (Some port) is h later =
        own-here at s ss port e (has-port (own_systems s.rows) number port is) (same_Some (entry_at at port) e h)

only-if-is : (holds : TapPort → Bool) (o : Option TapPort) (e : TapPort) → only_if holds o ≡ Some e → o ≡
    Some e
only-if-is holds None e h = absurd (cc h)
only-if-is holds (Some x) e h = by (holds x) h
  where
    by : (b : Bool) → (if b then Some x else None) ≡ Some e → Some x ≡ Some e
    by true h = h
    by false h = absurd (cc h)

-- ---- at a switch, where no cable is

record IsAlone (ss : List NamedRows) (e : TapPort) : Type 0 where
  within : e.switch < length ss
  free : far_end ss e.switch e.port ≡ None

no-neighbour : (t : Rows) (i : ℕ) (r : SystemRow) → IsLawfulSwitch t → slice_get t.systems i ≡ Some r → i < t.own
    → neighbour_at_port t r.port ≡ None
no-neighbour t i r lawful at own =
    ap (λ o. option_and_then (slice_get t.systems) (option_and_then (if_neighbour t) o))
    ((each_row-found t lawful).by_port i r at)
    ∙ ap (λ b. option_and_then (slice_get t.systems) (if b then Some i else None)) (lt-leb t.own i own)

place-within : (ss : List NamedRows) (name : List ℕ) (k : ℕ) → switch_named ss name ≡ Some k → k < length ss
unfolding switch_named
place-within [] name k h = absurd (cc h)
place-within (s ∷ ss) name k h =
    (position-Some (λ (s : NamedRows). bytes_eq name s.name) (s ∷ ss) k s h).0

module _ (ss : List NamedRows) where
  no-cable : (k : ℕ) (s : NamedRows) (port : ℕ) → slice_get ss k ≡ Some s → neighbour_at_port s.rows port ≡ None
      → far_end ss k port ≡ None
  unfolding far_end
  no-cable k s port at none =
      ap (option_and_then (λ (s : NamedRows).
      option_and_then (switches.end_at ss s.name) (neighbour_at_port s.rows port))) at
      ∙ ap (option_and_then (switches.end_at ss s.name)) none

  alone-own : AreSwitches ss → (e : TapPort) → IsOwn 0 ss e → IsAlone ss e
  alone-own are e h =
      let same : e.switch ≡ h.k = (let place = h.switch in omega (arith, place)) in
      let lawful = AllByRecursion-slice_get (λ (s : NamedRows). IsLawfulSwitch s.rows) ss h.k h.s are.each h.here in
      let none = no-cable h.k h.s h.r.port h.here (no-neighbour h.s.rows h.i h.r lawful h.stands h.own) in
      record {
        within = subst (λ k. k < length ss) (sym same) (slice_get_within ss h.k h.s h.here);
        free = ap (λ k. far_end ss k e.port) same
            ∙ subst (λ port. far_end ss h.k port ≡ None) h.port none;
      }

  -- ---- where options say it

  no-end : (o : Option FarEnd) → not (is_some o) ≡ true → o ≡ None
  no-end None e = refl
  no-end (Some f) e = absurd (cc e)

  -- a place of the switches: at one of them, and at no cable
  abbrev IsOneThere : TapPoint → Type 0
  IsOneThere (place.AtPort side port) = ⊥
  IsOneThere (place.Left side port) = ⊥
  IsOneThere (place.AtSwitch side k port) = (k < length ss) × (is_free ss k port ≡ true)
  IsOneThere _ = Unit {0}

  at-one : (side : Side) (port : Option ℕ) (k : ℕ) (q : TapPoint) → k < length ss → at_switch ss side port k ≡ Some q
      → IsOneThere q
  at-one side port k q within h = by (is_free ss k port) refl h
    where
      by : (b : Bool) → is_free ss k port ≡ b → (if b then Some (place.AtSwitch side k port) else None) ≡ Some q
          → IsOneThere q
      by true is h = subst IsOneThere (same_Some (place.AtSwitch side k port) q h) (within, is)
      by false is h = absurd (cc h)

  known-one : (side : Side) (port : Option ℕ) (k : ℕ) (q : TapPoint) → at_known ss side port k ≡ Some q → IsOneThere q
  known-one side port k q h = by (nat_lt k (length ss)) refl h
    where
      by : (b : Bool) → nat_lt k (length ss) ≡ b → (if b then at_switch ss side port k else None) ≡ Some q
          → IsOneThere q
      by true is h = at-one side port k q (ltb-true k (length ss) is) h
      by false is h = absurd (cc h)

  named-within : (names : List (List ℕ)) (number k : ℕ) → switch_by ss names number ≡ Some k → k < length ss
  named-within names number k h =
      let name = and-then (switch_named ss) (slice_get names number) k h in place-within ss name.0 k name.2

  module _ (names : List (List ℕ)) where
    one-there : (p q : TapPoint) → place_in (Several ss) names p ≡ Some q → IsOneThere q
    one-there place.LeftOut q h = subst IsOneThere (same_Some place.LeftOut q h) tt
    one-there (place.OnSide side) q h = subst IsOneThere (same_Some (place.OnSide side) q h) tt
    one-there (place.AtPort side port) q h = absurd (cc h)
    one-there (place.Left side port) q h = absurd (cc h)
    one-there (place.AtNamed side name port) q h =
        let found = and-then (at_switch ss side port) (switch_by ss names name) q h in
        at-one side port found.0 q (named-within names name found.0 found.1) found.2
    one-there (place.AtSwitch side k port) q h = known-one side port k q h

    placed-there : (old : Option TapPoint) (q : TapPoint)
        → option_map (place_in (Several ss) names) old ≡ option_map Some (Some q) → IsOneThere q
    placed-there None q h = absurd (cc h)
    placed-there (Some p) q h =
        one-there p q (same_Some (place_in (Several ss) names p) (Some q) h)

-- ---- both

module _ (ss : List NamedRows) (are : AreSwitches ss) where
  claimed : (q : Option TapPoint) (bytes : List ℕ) (e : TapPort)
      → only_if (allows q) ((ports_of_several ss).entry bytes) ≡ Some e → IsAlone ss e
  claimed q bytes e h =
      let found = and-then (entry_from 0 (map (λ s. s.rows) ss)) (sender_of bytes) e
      (only-if-is (allows q) ((ports_of_several ss).entry bytes) e h) in
      alone-own ss are e (own-of 0 ss found.0 e found.2)

  said : (side : Side) (k port : ℕ) (e : TapPort) → IsOneThere ss (place.AtSwitch side k (Some port))
      → entry_at k port ≡ e → IsAlone ss e
  said side k port e there is =
      subst (IsAlone ss) is (record { within = there.0; free = no-end ss (far_end ss k port) there.1 })

  of-place : (q : Option TapPoint) → ((p : TapPoint) → q ≡ Some p → IsOneThere ss p) → (bytes : List ℕ) (e : TapPort)
      → entry_of q (ports_of_several ss) bytes ≡ Some e → IsAlone ss e
  of-place None there bytes e h = claimed None bytes e h
  of-place (Some place.LeftOut) there bytes e h = claimed (Some place.LeftOut) bytes e h
  of-place (Some (place.OnSide side)) there bytes e h = claimed (Some (place.OnSide side)) bytes e h
  of-place (Some (place.AtPort side port)) there bytes e h = absurd (there (place.AtPort side port) refl)
  of-place (Some (place.Left side port)) there bytes e h = absurd (there (place.Left side port) refl)
  of-place (Some (place.AtNamed side name port)) there bytes e h =
      claimed (Some (place.AtNamed side name port)) bytes e h
  of-place (Some (place.AtSwitch side k None)) there bytes e h =
      claimed (Some (place.AtSwitch side k None)) bytes e h
  of-place (Some (place.AtSwitch side k (Some port))) there bytes e h =
      said side k port e (there (place.AtSwitch side k (Some port)) refl) (same_Some (entry_at k port) e h)

  of-interface : (old new : Interfaces) → ArePlaced (Several ss) old new → (i : ℕ) (bytes : List ℕ) (e : TapPort)
      → entry_of (place_of new i) (ports_of_several ss) bytes ≡ Some e → IsAlone ss e
  of-interface old new placed i bytes e h =
      of-place (place_of new i)
      (λ p is. placed-there ss (names_of old) (place_of old i) p (placed i ∙ ap (option_map Some) is)) bytes e h

  at-open : (x : Item Heading) → IsAlone ss (entry_in x) → IsAtOpenPort ss x
  at-open x h = record { within = h.within; free = h.free }

-- ---- of one recording, and of two

pub entered-at : (ss : List NamedRows) → AreSwitches ss → (old new : RecordingOptions)
    → OptionsArePlaced (Several ss) old new → (x : Item Heading)
    → IsEntered (options_of new) (ports_of_several ss) x → IsAtOpenPort ss x
entered-at ss are old new placed x h =
    at-open ss are x
    (of-interface ss are old.interfaces new.interfaces placed.placed h.interface h.bytes (entry_in x) h.says)

pub entered-in-pair : (ss : List NamedRows) → AreSwitches ss → (old new : PairOptions)
    → PairIsPlaced (Several ss) old new → (x : Item Heading)
    → IsEnteredInPair (options_of_a new) (options_of_b new) (ports_of_several ss) x → IsAtOpenPort ss x
entered-in-pair ss are old new placed x h = elim h [
  | inl a ↦
      at-open ss are x
      (of-interface ss are old.interfaces.a new.interfaces.a placed.placed_a a.interface a.bytes (entry_in x) a.says)
  | inr b ↦
      at-open ss are x
      (of-interface ss are old.interfaces.b new.interfaces.b placed.placed_b b.interface b.bytes (entry_in x) b.says)
]
