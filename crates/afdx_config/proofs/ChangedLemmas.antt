-- Tables stay lawful when a link gets times that it may have.
use Rattle.std.proofs.Common.{◌≡◌, ℕ, zero, suc, Bool, true, false, cond, List, [], ◌∷◌, length, find}
use Rattle.std.proofs.Common.{Some, slice_get, nat_eq, refl, sym, ap, ◌∙◌, subst, ◌<◌, ◌≤◌}
use Rattle.std.specs.List.{AllByRecursion}
use Rattle.std.specs.Option.{option_map_or}
use Rattle.std.specs.Map.{values_of}
use Rattle.std.proofs.lemmas.Option.{same_Some}
use Rattle.indexmap.specs.IndexMap.{set_value_at}
use Rattle.afdx_frame.specs.declared.link.VlId.{VlId}
use Rattle.afdx_config.specs.declared.rows.Times.{Times}
use Rattle.afdx_config.specs.declared.rows.Link.{Link}
use Rattle.afdx_config.specs.Rows.{LinkRow, PortRow, Rows, is_to, link_row}
use Rattle.afdx_config.specs.Kept.{link_rows, IsUnderItsIdentifier}
use Rattle.afdx_config.specs.Reading.{goes_to}
use Rattle.afdx_config.specs.Lawful.{IsLinkAmong, IsLinkUpTo, AreLinksUpTo, IsPort, AreDistinct}
use Rattle.afdx_config.specs.Lawful.{IsLawfulSwitch, jitter_from_system, jitter_from_any}
use Rattle.afdx_config.specs.Changed.{with_times, changed_at, with_link_at}

-- a row of the changed ones, as it was
stood : (i : ℕ) (times : Times) (ls : List LinkRow) (j : ℕ) (b : LinkRow) → slice_get (changed_at i times ls) j ≡ Some b
    → (a : LinkRow) × (slice_get ls j ≡ Some a) × (a.vl ≡ b.vl)
unfolding changed_at
stood i times [] j b at = absurd (cc at)
stood zero times (l ∷ ls) zero b at = (l, refl, ap (λ r. r.vl) (same_Some (with_times times l) b at))
stood zero times (l ∷ ls) (suc j) b at = (b, at, refl)
stood (suc i) times (l ∷ ls) zero b at = (b, at, refl)
stood (suc i) times (l ∷ ls) (suc j) b at = stood i times ls j b at

length-changed_at : (i : ℕ) (times : Times) (ls : List LinkRow) → length (changed_at i times ls) ≡ length ls
unfolding changed_at
length-changed_at i times [] = refl
length-changed_at zero times (l ∷ ls) = refl
length-changed_at (suc i) times (l ∷ ls) = ap suc (length-changed_at i times ls)

all_changed : (P : LinkRow → Type 0) (i : ℕ) (times : Times) (ls : List LinkRow) → AllByRecursion P ls
    → ((l : LinkRow) → slice_get ls i ≡ Some l → P (with_times times l)) → AllByRecursion P (changed_at i times ls)
unfolding changed_at
all_changed P i times [] h new = tt
all_changed P zero times (l ∷ ls) h new = (new l refl, h.1)
all_changed P (suc i) times (l ∷ ls) h new = (h.0, all_changed P i times ls h.1 new)

links-changed : (greatest : ℕ → ℕ) (systems i : ℕ) (times : Times) (ls : List LinkRow)
    → AreLinksUpTo greatest systems ls
    → ((l : LinkRow) → slice_get ls i ≡ Some l → IsLinkUpTo greatest systems (with_times times l))
    → AreLinksUpTo greatest systems (changed_at i times ls)
unfolding AreDistinct
links-changed greatest systems i times ls old new = record {
  count = rw (length-changed_at i times ls) old.count;
  each = all_changed (IsLinkUpTo greatest systems) i times ls old.each new;
  identifiers = λ j k a b at at' same.
      let x = stood i times ls j a at in
      let y = stood i times ls k b at' in
      old.identifiers j k x.0 y.0 x.1 y.1 (x.2 ∙ same ∙ sym y.2);
}

-- what holds of each row that was, and of the changed one
each-changed : (P : LinkRow → Type 0) (i : ℕ) (times : Times) (ls : List LinkRow)
    → ((j : ℕ) (l : LinkRow) → slice_get ls j ≡ Some l → P l)
    → ((l : LinkRow) → slice_get ls i ≡ Some l → P (with_times times l))
    → (j : ℕ) (l : LinkRow) → slice_get (changed_at i times ls) j ≡ Some l → P l
unfolding changed_at
each-changed P i times [] old new j l at = absurd (cc at)
each-changed P zero times (x ∷ ls) old new zero l at = subst P (same_Some (with_times times x) l at) (new x refl)
each-changed P zero times (x ∷ ls) old new (suc j) l at = old (suc j) l at
each-changed P (suc i) times (x ∷ ls) old new zero l at = old zero l at
each-changed P (suc i) times (x ∷ ls) old new (suc j) l at =
    each-changed P i times ls (λ k m is. old (suc k) m is) new j l at

-- where a link goes stays
module _ (vl system : ℕ) where
  abbrev found : List LinkRow → Bool
  found ls = option_map_or (is_to system) (find (λ l. nat_eq vl l.vl) ls) false

  found-changed : (i : ℕ) (times : Times) (ls : List LinkRow) → found (changed_at i times ls) ≡ found ls
  unfolding changed_at
  found-changed i times [] = refl
  found-changed zero times (l ∷ ls) = by (nat_eq vl l.vl)
    where
      by : (b : Bool) → option_map_or (is_to system)
          (cond b (Some (with_times times l)) (find (λ l. nat_eq vl l.vl) ls)) false
          ≡ option_map_or (is_to system) (cond b (Some l) (find (λ l. nat_eq vl l.vl) ls)) false
      by true = refl
      by false = refl
  found-changed (suc i) times (l ∷ ls) = by (nat_eq vl l.vl) (found-changed i times ls)
    where
      by : (b : Bool) → found (changed_at i times ls) ≡ found ls →
          option_map_or (is_to system) (cond b (Some l) (find (λ l. nat_eq vl l.vl) (changed_at i times ls))) false
          ≡ option_map_or (is_to system) (cond b (Some l) (find (λ l. nat_eq vl l.vl) ls)) false
      by true h = refl
      by false h = h

goes_to-changed : (i : ℕ) (times : Times) (ls : List LinkRow) (vl system : ℕ)
    → goes_to (changed_at i times ls) vl system ≡ goes_to ls vl system
unfolding goes_to
goes_to-changed i times ls vl system = found-changed vl system i times ls

port-changed : (systems i : ℕ) (times : Times) (ls : List LinkRow) (p : PortRow) → IsPort systems ls p
    → IsPort systems (changed_at i times ls) p
port-changed systems i times ls p h = record {
  system = h.system;
  link = goes_to-changed i times ls p.link p.system ∙ h.link;
  udp = h.udp;
  depth = h.depth;
}

each_port-changed : (systems i : ℕ) (times : Times) (ls : List LinkRow) (ps : List PortRow)
    → AllByRecursion (IsPort systems ls) ps → AllByRecursion (IsPort systems (changed_at i times ls)) ps
each_port-changed systems i times ls [] h = tt
each_port-changed systems i times ls (p ∷ ps) h =
    (port-changed systems i times ls p h.0, each_port-changed systems i times ls ps h.1)

pub lawful-changed : (t : Rows) (i : ℕ) (times : Times) → IsLawfulSwitch t
    → ((l : LinkRow) → slice_get t.links i ≡ Some l → IsLinkAmong t.own (length t.systems) (with_times times l))
    → IsLawfulSwitch (with_link_at i times t)
lawful-changed t i times old new = record {
  profile = old.profile;
  buffer = old.buffer;
  own = old.own;
  systems = old.systems;
  links = links-changed jitter_from_any (length t.systems) i times t.links old.links
      (λ l at. (new l at).link);
  sent = each-changed (λ l. l.from < t.own → l.jitter_us ≤ jitter_from_system l.bag_ms) i times t.links old.sent
      (λ l at from. (new l at).sent from);
  ports = record {
    count = old.ports.count;
    each = each_port-changed (length t.systems) i times t.links t.ports old.ports.each;
    triples = old.ports.triples;
  };
  heard = old.heard;
}

-- as the rows of a map
abbrev pub changed_link : Times → Link → Link
changed_link times l = record l {
  jitter_us = times.jitter_us;
  latency_us = times.latency_us;
  skew_us = times.skew_us;
}

pub rows-set : (times : Times) (es : List (VlId × Link)) (i : ℕ) (l : Link) → slice_get (values_of es) i ≡ Some l
    → link_rows (set_value_at es i (changed_link times l)) ≡ changed_at i times (link_rows es)
unfolding changed_at
rows-set times [] i l at = refl
rows-set times (e ∷ es) zero l at =
    ap (λ x. link_row (changed_link times x) ∷ link_rows es) (sym (same_Some e.1 l at))
rows-set times (e ∷ es) (suc i) l at = ap (λ rs. link_row e.1 ∷ rs) (rows-set times es i l at)

pub keys-set : (times : Times) (es : List (VlId × Link)) (i : ℕ) (l : Link) → slice_get (values_of es) i ≡ Some l
    → AllByRecursion IsUnderItsIdentifier es
    → AllByRecursion IsUnderItsIdentifier (set_value_at es i (changed_link times l))
keys-set times [] i l at h = tt
keys-set times (e ∷ es) zero l at h = (h.0 ∙ ap (λ x. x.vl.0) (same_Some e.1 l at), h.1)
keys-set times (e ∷ es) (suc i) l at h = (h.0, keys-set times es i l at h.1)
