-- Keys, and where what is kept of them stands.
use Rattle.std.proofs.Common.{◌≡◌, ℕ, ◌+◌, ◌*◌, ◌<◌, ◌≤◌, ◌⊎◌, inl, inr, Bool, true, false, ◌&&◌, List, [], length, get_or, set, refl, sym, ap, ◌∙◌, subst, arith, true≢false}
use Rattle.std.specs.Prelude.{Option, Some, None, nat_eq, is_some, slice_get, option_and_then, if◌then◌else◌}
use Rattle.std.specs.Option.{option_map_or}
use Rattle.std.proofs.lemmas.Bool.{and_parts, eqb-true, eq-eqb, ltb-true}
use Rattle.std.proofs.lemmas.List.{get_or-set_same, get_or-set_other, get_or_past}
use Rattle.std.proofs.lemmas.List.Quantifiers.{position-Some}
use Rattle.std.proofs.lemmas.Option.{slice_get-get_or, slice_get_within}
use Rattle.afdx_law_bounds.specs.Tables.{goes_to}
use Rattle.afdx_config.specs.Lawful.{IsLawfulSwitch, IsSystem}
use Rattle.afdx_config.specs.Reading.{system_at_port}
use Rattle.afdx_config.specs.Rows.{LinkRow, Rows, SystemRow, is_to}
use Rattle.afdx_frame.proofs.ListLemmas.{AllByRecursion-slice_get}
use Rattle.afdx_frame.specs.Ports.{last_port}
use Rattle.afdx_frame.specs.declared.link.Side.{Side}
use Rattle.afdx_frame.specs.declared.link.Side.TheVariants.{A, B}
use Rattle.afdx_frame.specs.Sides.{is_side}
use Rattle.afdx_command_conform.specs.Tapped.{link_to}
use Rattle.afdx_command_conform.specs.Keeping.{IsOfLink, IsStreamOf, is_known, is_known_by, slot_at}
use Rattle.afdx_command_conform.specs.Keys.{is_key, is_link, key_place, key_with, place_of, side_rank}
use Rattle.afdx_command_conform.specs.Waiting.{slot_due}
use Rattle.afdx_command_conform.specs.declared.key.Key.{Key}
use Rattle.afdx_command_conform.specs.declared.slot.Slot.{Slot}
use Rattle.afdx_command_conform.specs.declared.slot.Slot.TheVariants.{Nothing}

-- ---- one key or two

pub same-side : (a b : Side) → is_side a b ≡ true → a ≡ b
same-side A A e = refl
same-side A B e = absurd (true≢false (sym e))
same-side B A e = absurd (true≢false (sym e))
same-side B B e = refl

self-side : (a : Side) → is_side a a ≡ true
self-side A = refl
self-side B = refl

same-link : (a b : Option ℕ) → is_link a b ≡ true → a ≡ b
same-link None None e = refl
same-link None (Some b) e = absurd (true≢false (sym e))
same-link (Some a) None e = absurd (true≢false (sym e))
same-link (Some a) (Some b) e = ap (λ n. Some n) (eqb-true a b e)

self-link : (a : Option ℕ) → is_link a a ≡ true
self-link None = refl
self-link (Some a) = eq-eqb a a refl

pub key-same : (a b : Key) → is_key a b ≡ true → a ≡ b
unfolding is_key
key-same a b e =
    let first = and_parts (is_side a.side b.side && nat_eq a.port b.port) (is_link a.link b.link) e in
    let second = and_parts (is_side a.side b.side) (nat_eq a.port b.port) first.0 in
    ap (λ s. key_with s a.port a.link) (same-side a.side b.side second.0)
    ∙ ap (λ p. key_with b.side p a.link) (eqb-true a.port b.port second.1)
    ∙ ap (λ l. key_with b.side b.port l) (same-link a.link b.link first.1)

pub key-self : (a : Key) → is_key a a ≡ true
unfolding is_key
key-self a =
    ap (λ b. b && nat_eq a.port a.port && is_link a.link a.link) (self-side a.side)
    ∙ ap (λ b. b && is_link a.link a.link) (eq-eqb a.port a.port refl) ∙ self-link a.link

pub key-cases : (a b : Key) → (is_key a b ≡ true) ⊎ (is_key a b ≡ false)
key-cases a b = by (is_key a b) refl
  where
    by : (v : Bool) → is_key a b ≡ v → (is_key a b ≡ true) ⊎ (is_key a b ≡ false)
    by true e = inl e
    by false e = inr e

pub key-turned : (a b : Key) → is_key a b ≡ false → is_key b a ≡ false
key-turned a b e = elim (key-cases b a) [
  | inl same ↦ absurd (true≢false (sym (key-self a) ∙ ap (λ x. is_key a x) (sym (key-same b a same)) ∙ e))
  | inr other ↦ other
]

-- ---- ports of tables

abbrev pub no-system : SystemRow
no-system = record { name = []; port = 0; id = 0; partition = 0; rate = 0 }

pub system-at : (t : Rows) (port system : ℕ) → system_at_port t.systems port ≡ Some system
    → (s : SystemRow) × (slice_get t.systems system ≡ Some s) × (s.port ≡ port)
unfolding system_at_port
system-at t port system found =
    let passes = position-Some (λ (s : SystemRow). nat_eq s.port port) t.systems system no-system found in (
      get_or t.systems system no-system,
      slice_get-get_or t.systems system no-system passes.0,
      eqb-true (get_or t.systems system no-system).port port passes.1,
    )

port-small : (t : Rows) (l : LinkRow) (port : ℕ) → IsLawfulSwitch t → goes_to t l port ≡ true → port ≤ last_port
unfolding goes_to
port-small t l port lawful goes = by (system_at_port t.systems port) refl goes
  where
    by : (o : Option ℕ) → system_at_port t.systems port ≡ o → option_map_or (λ system. is_to system l) o false ≡ true
        → port ≤ last_port
    by None none h = absurd (true≢false (sym h))
    by (Some system) found h =
        let at = system-at t port system found in
        let lawful-row = AllByRecursion-slice_get (IsSystem t.profile) t.systems system at.0 lawful.systems.each at.1 in
        subst (λ n. n ≤ last_port) at.2 lawful-row.port.1

-- the link at a place that goes to a port
pub record IsLinkTo (t : Rows) (place port : ℕ) (l : LinkRow) : Type 0 where
  pub at : slice_get t.links place ≡ Some l
  pub goes : goes_to t l port ≡ true

pub link-to : (t : Rows) (place port : ℕ) (l : LinkRow) → link_to t place port ≡ Some l → IsLinkTo t place port l
unfolding link_to
link-to t place port l is = by (slice_get t.links place) refl is
  where
    goes-by : (k : LinkRow) (b : Bool) → goes_to t k port ≡ b → slice_get t.links place ≡ Some k
        → (if b then Some k else None) ≡ Some l → IsLinkTo t place port l
    goes-by k true e at h = let same : k ≡ l = cc in
        record { at = at ∙ ap (λ x. Some x) same; goes = ap (λ x. goes_to t x port) (sym same) ∙ e }
    goes-by k false e at h = absurd (cc)

    by : (o : Option LinkRow) → slice_get t.links place ≡ o
        → option_and_then (λ k. if goes_to t k port then Some k else None) o ≡ Some l → IsLinkTo t place port l
    by None none h = absurd (cc)
    by (Some k) at h = goes-by k (goes_to t k port) refl at h

pub to-link : (t : Rows) (place port : ℕ) (l : LinkRow) → slice_get t.links place ≡ Some l → goes_to t l port ≡ true
    → link_to t place port ≡ Some l
unfolding link_to
to-link t place port l at goes =
    ap (λ o. option_and_then (λ k. if goes_to t k port then Some k else None) o) at
    ∙ ap (λ b. if b then Some l else None) goes

-- ---- places

pub side-of-rank : (a b : Side) → side_rank a ≡ side_rank b → is_side a b ≡ true
side-of-rank A A e = refl
side-of-rank A B e = absurd (cc)
side-of-rank B A e = absurd (cc)
side-of-rank B B e = refl

pub side-small : (side : Side) → side_rank side ≤ 1
side-small A = omega arith
side-small B = omega arith

pub known-link : (t : Rows) (place port : ℕ) → is_some (link_to t place port) ≡ true
    → (l : LinkRow) × (link_to t place port ≡ Some l)
known-link t place port e = by (link_to t place port) refl e
  where
    by : (o : Option LinkRow) → link_to t place port ≡ o → is_some o ≡ true
        → (l : LinkRow) × (link_to t place port ≡ Some l)
    by None is h = absurd (true≢false (sym h))
    by (Some l) is h = (l, is)

pub link-place : (t : Rows) (place port : ℕ) → IsLawfulSwitch t → is_some (link_to t place port) ≡ true
    → (place < length t.links) × (port ≤ last_port)
link-place t place port lawful e =
    let found = known-link t place port e in
    let is = link-to t place port found.0 found.1 in
    (slice_get_within t.links place found.0 is.at, port-small t found.0 port lawful is.goes)

pub known-within : (t : Rows) (k : Key) → IsLawfulSwitch t → is_known t k ≡ true
    → key_place k < 512 + 64 * length t.links
unfolding is_known
known-within t k lawful known = by k.link refl known
  where
    by : (o : Option ℕ) → k.link ≡ o → is_known_by t k o ≡ true → place_of (side_rank k.side) k.port o
        < 512 + 64 * length t.links
    by None is e = let p = ltb-true k.port 256 e in let s = side-small k.side in omega (arith, p, s)
    by (Some place) is e = let p = link-place t place k.port lawful e in let s = side-small k.side in
        omega (arith, p.0, p.1, s)

apart-by : (t : Rows) (a b : Key) → IsLawfulSwitch t → (p q : Option ℕ) → is_known_by t a p ≡ true
    → is_known_by t b q ≡ true
    → place_of (side_rank b.side) b.port q ≡ place_of (side_rank a.side) a.port p
    → (side_rank a.side ≡ side_rank b.side) × (a.port ≡ b.port) × (is_link p q ≡ true)
apart-by t a b lawful None None ka kb e =
    let x = ltb-true a.port 256 ka in
    let y = ltb-true b.port 256 kb in
    let s = side-small a.side in
    let r = side-small b.side in
    (omega (arith, x, y, s, r, e), omega (arith, x, y, s, r, e), refl)
apart-by t a b lawful None (Some q) ka kb e =
    let x = ltb-true a.port 256 ka in
    let s = side-small a.side in absurd (omega (arith, x, s, e))
apart-by t a b lawful (Some p) None ka kb e =
    let y = ltb-true b.port 256 kb in
    let r = side-small b.side in absurd (omega (arith, y, r, e))
apart-by t a b lawful (Some p) (Some q) ka kb e =
    let x = (link-place t p a.port lawful ka).1 in
    let y = (link-place t q b.port lawful kb).1 in
    let s = side-small a.side in
    let r = side-small b.side in
    let same : p ≡ q = omega (arith, x, y, s, r, e) in
    (omega (arith, x, y, s, r, e), omega (arith, x, y, s, r, e), eq-eqb p q same)

-- two keys of the tables stand apart
pub place-apart : (t : Rows) (a b : Key) → IsLawfulSwitch t → is_known t a ≡ true → is_known t b ≡ true
    → is_key a b ≡ false → key_place b ≡ key_place a → ⊥
unfolding is_known is_key
place-apart t a b lawful ka kb other e =
    let same = apart-by t a b lawful a.link b.link ka kb e in
    true≢false (sym (ap (λ v. v && nat_eq a.port b.port && is_link a.link b.link) (side-of-rank a.side b.side same.0)
    ∙ ap (λ v. v && is_link a.link b.link) (eq-eqb a.port b.port same.1) ∙ same.2) ∙ other)

-- what is so of each key still is where another stands at one
pub at-set : (t : Rows) (key : Key) (slots : List Slot) (slot : Slot) (P Q : Key → Slot → Type 0) → IsLawfulSwitch t
    → is_known t key ≡ true
    → key_place key < length slots
    → Q key slot
    → ((k : Key) (s : Slot) → is_key key k ≡ false → is_known t k ≡ true → P k s → Q k s)
    → ((k : Key) → is_known t k ≡ true → P k (slot_at slots k))
    → (k : Key) → is_known t k ≡ true → Q k (slot_at (set slots (key_place key) slot) k)
at-set t key slots slot P Q lawful known within new others all k kk = elim (key-cases key k) [
  | inl same ↦
      (let is = key-same key k same in
      subst (λ x. Q x (slot_at (set slots (key_place key) slot) x)) is
      (subst (λ s. Q key s) (sym (get_or-set_same slots (key_place key) slot Nothing within)) new))
  | inr other ↦
      subst (λ s. Q k s)
      (sym (get_or-set_other slots (key_place key) (key_place k) slot Nothing
      (place-apart t key k lawful known kk other)))
      (others k (slot_at slots k) other kk (all k kk))
]

pub known-stream : (t : Rows) (k : Key) (l : LinkRow) → IsStreamOf t k l → is_known t k ≡ true
unfolding is_known
known-stream t k l is = by k.link is
  where
    by : (o : Option ℕ) → IsOfLink t k l o → is_known_by t k o ≡ true
    by (Some place) h = ap (λ v. is_some v) h
    by None h = absurd h

pub beyond-due : (slots : List Slot) (k : Key) → length slots ≤ key_place k → slot_due (slot_at slots k) ≡ None
unfolding slot_due
beyond-due slots k past = ap slot_due (get_or_past slots (key_place k) Nothing past)

pub not-beyond : (slots : List Slot) (k : Key) (m : ℕ) → length slots ≤ key_place k → slot_due (slot_at slots k)
    ≡ Some m → ⊥
not-beyond slots k m past is = let no = sym (beyond-due slots k past) ∙ is in cc
