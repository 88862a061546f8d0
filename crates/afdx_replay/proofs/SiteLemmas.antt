-- The switches of several, as the lines of a list name them.
use Rattle.std.proofs.Common.{◌≡◌, ℕ, suc, ◌+◌, ◌<◌, ◌≤◌, Bool, true, false, ◌&&◌, List, [], ◌∷◌, length}
use Rattle.std.proofs.Common.{refl, sym, ap, ◌∙◌, arith, Some, None, get_or, slice_get, nat_le, nat_lt, not, if◌then◌else◌}
use Rattle.std.specs.Prelude.{is_some, position}
use Rattle.std.specs.Char.{is_ascii_alphanumeric}
use Rattle.std.specs.List.{list_all, position_or_len, AllByRecursion}
use Rattle.std.specs.Option.{option_map_or}
use Rattle.std.specs.Str.{bytes_eq}
use Rattle.std.proofs.lemmas.Bool.{and_parts}
use Rattle.std.proofs.lemmas.Bool.Decides.{nat_tests}
use Rattle.std.proofs.lemmas.List.FromFn.{get_or-map-range_with_len, length-map-range_with_len}
use Rattle.std.proofs.lemmas.Option.{same_Some, slice_get_within, slice_get-get_or}
use Rattle.afdx_frame.specs.Ports.{last_port}
use Rattle.afdx_frame.proofs.ListLemmas.{AllByRecursion-slice_get, slice_get-within}
use Rattle.afdx_config.specs.Reading.{is_name}
use Rattle.afdx_config.specs.Switches.{AreSwitches, NamedRows, far_end, switch_named}
use Rattle.afdx_cascade.proofs.PlanLemmas.{own-place}
use Rattle.afdx_input_lines.specs.SitedLines.{NamedCables, is_cable_at, place_named}
use Rattle.afdx_replay.specs.cascading.Sited.{has_cable, site_of, sites_of}
use Rattle.afdx_input_runs.specs.ListText.{switch_name}

-- two lists of which the same places pass have the same first place that does
same-first : {X Y : Type 0} (p : X → Bool) (q : Y → Bool) (xs : List X) (ys : List Y) → length xs ≡ length ys
    → ((i : ℕ) (x : X) (y : Y) → slice_get xs i ≡ Some x → slice_get ys i ≡ Some y → p x ≡ q y)
    → position_or_len p xs ≡ position_or_len q ys
same-first p q [] [] long same = refl
same-first p q [] (y ∷ ys) long same = absurd (omega (arith, long))
same-first p q (x ∷ xs) [] long same = absurd (omega (arith, long))
same-first p q (x ∷ xs) (y ∷ ys) long same =
    ap (λ b. if not b then 1 + position_or_len p xs else 0) (same 0 x y refl refl)
    ∙ ap (λ n. if not (q y) then 1 + n else 0)
    (same-first p q xs ys (omega (arith, long)) (λ i a b at there. same (suc i) a b at there))

same-position : {X Y : Type 0} (p : X → Bool) (q : Y → Bool) (xs : List X) (ys : List Y) → length xs ≡ length ys
    → ((i : ℕ) (x : X) (y : Y) → slice_get xs i ≡ Some x → slice_get ys i ≡ Some y → p x ≡ q y)
    → position p xs ≡ position q ys
same-position p q xs ys long same =
    ap (λ n. if nat_lt n (length xs) then Some n else None) (same-first p q xs ys long same)
    ∙ ap (λ m. if nat_lt (position_or_len q ys) m then Some (position_or_len q ys) else None) long

-- bytes from `0` on
abbrev pub AreFrom : ℕ → List ℕ → Type 0
AreFrom least cs = AllByRecursion (λ c. least ≤ c) cs

-- letters and digits
letter-least : (c : ℕ) → is_ascii_alphanumeric c ≡ true → 48 ≤ c
letter-least c h = grind (arith, nat_tests, h)

letters-least : (cs : List ℕ) → list_all is_ascii_alphanumeric cs ≡ true → AreFrom 48 cs
letters-least [] h = tt
letters-least (c ∷ cs) h =
    let parts = and_parts (is_ascii_alphanumeric c) (list_all is_ascii_alphanumeric cs) h in
    (letter-least c parts.0, letters-least cs parts.1)

-- a name has a first letter
pub record IsWord (name : List ℕ) : Type 0 where
  pub first : ℕ
  pub rest : List ℕ
  pub is : name ≡ first ∷ rest
  pub least : AreFrom 48 (first ∷ rest)

word-of : (name : List ℕ) → is_name name ≡ true → IsWord name
unfolding is_name
word-of [] h = absurd (cc h)
word-of (c ∷ name) h =
    let parts = and_parts (nat_le 1 (length (c ∷ name)) && nat_le (length (c ∷ name)) 16)
    (list_all is_ascii_alphanumeric (c ∷ name)) h in
    record { first = c; rest = name; is = refl; least = letters-least (c ∷ name) parts.1 }

-- ---- the switches

module _ (ss : List NamedRows) where
  pub sites-count : length (sites_of ss) ≡ length ss
  unfolding sites_of
  sites-count = length-map-range_with_len (site_of ss) 0 (length ss)

  pub site-at : (k : ℕ) → k < length ss → slice_get (sites_of ss) k ≡ Some (site_of ss k)
  unfolding sites_of
  site-at k within =
      let d = site_of ss 0 in
      slice_get-get_or (sites_of ss) k d (omega (arith, within, sites-count))
      ∙ ap Some (get_or-map-range_with_len (site_of ss) 0 (length ss) k k d within (omega arith))

  pub cable-is : (k port : ℕ) → k < length ss → port ≤ last_port
      → is_cable_at (sites_of ss) k port ≡ has_cable ss k port
  unfolding is_cable_at
  cable-is k port within low =
      ap (λ o. option_map_or (λ (s : NamedCables). get_or s.cables port false) o false) (site-at k within)
      ∙ get_or-map-range_with_len (has_cable ss k) 0 (last_port + 1) port port false (omega (arith, low))
      (omega arith)

module _ (ss : List NamedRows) (are : AreSwitches ss) (k : ℕ) (within : k < length ss) where
  s : (z : NamedRows) × (slice_get ss k ≡ Some z)
  s = slice_get-within ss k within

  name-at : (i : ℕ) (z : NamedRows) → slice_get ss i ≡ Some z → switch_name ss i ≡ z.name
  unfolding switch_name
  name-at i z at = ap (λ o. option_map_or (λ (r : NamedRows). r.name) o []) at

  pub word : IsWord (switch_name ss k)
  word =
      let named = AllByRecursion-slice_get (λ (z : NamedRows). is_name z.name ≡ true) ss k s.0 are.names s.1 in
      word-of (switch_name ss k) (ap is_name (name-at k s.0 s.1) ∙ named)

  -- the lines name it by its place
  pub found : place_named (sites_of ss) (switch_name ss k) ≡ Some k
  unfolding place_named switch_named
  found =
      same-position (λ (z : NamedCables). bytes_eq (switch_name ss k) z.name)
      (λ (z : NamedRows). bytes_eq (switch_name ss k) z.name)
      (sites_of ss) ss (sites-count ss) (λ i x y at there.
      let site = same_Some x (site_of ss i) (sym at ∙ site-at ss i (slice_get_within ss i y there)) in
      ap (λ (z : NamedCables). bytes_eq (switch_name ss k) z.name) site
      ∙ ap (bytes_eq (switch_name ss k)) (name-at i y there))
      ∙ ap (λ name. position (λ (z : NamedRows). bytes_eq name z.name) ss) (name-at k s.0 s.1)
      ∙ own-place ss are k s.0 s.1

  -- no cable is at a port that has none
  pub free-at : (port : ℕ) → port ≤ 24 → far_end ss k port ≡ None → is_cable_at (sites_of ss) k port ≡ false
  free-at port low none = cable-is ss k port within low ∙ ap is_some none
