-- Switches stay lawful when one gets another buffer, or a link of one times that it may have.
use Rattle.std.proofs.Common.{◌≡◌, ℕ, zero, suc, List, [], ◌∷◌, length, map, Option, Some, None, slice_get, refl, sym, ap, ◌∙◌, true}
use Rattle.std.proofs.Common.{subst, set, option_map, option_and_then, IsSome}
use Rattle.std.specs.List.{AllByRecursion}
use Rattle.std.proofs.lemmas.Option.{same_Some}
use Rattle.afdx_frame.specs.Lines.{first_false}
use Rattle.afdx_config.specs.declared.rows.Times.{Times}
use Rattle.afdx_config.specs.Rows.{LinkRow, Rows}
use Rattle.afdx_config.specs.Reading.{is_name}
use Rattle.afdx_config.specs.Changed.{with_times, changed_at, with_link_at, with_buffer}
use Rattle.afdx_config.specs.Lawful.{IsLawfulSwitch, IsWithin, IsLinkAmong}
use Rattle.afdx_frame.specs.Lengths.{least_frame, greatest_buffer}
use Rattle.afdx_frame.proofs.ListLemmas.{AllByRecursion-slice_get}
use Rattle.afdx_config.specs.AtSwitch.{tables_at, link_at}
use Rattle.afdx_config.proofs.ChangedLemmas.{lawful-changed}
use Rattle.afdx_config.specs.Switches.{NamedRows, named_rows, AreSwitches}
use Rattle.afdx_config.specs.ChangedSwitches.{changed_switch, bare_link, bare, bare_switch, AreAlike}
use Rattle.afdx_config.proofs.BareLemmas.{over_all-alike}

-- the change is one of the list at its place
pub changed-set : (change : Rows → Rows) (ss : List NamedRows) (k : ℕ) (s : NamedRows) → slice_get ss k ≡ Some s
    → set ss k (named_rows s.name (change s.rows)) ≡ changed_switch k change ss
unfolding changed_switch
changed-set change [] k s at = absurd (cc at)
changed-set change (x ∷ ss) zero s at =
    ap (λ (r : NamedRows). named_rows r.name (change r.rows) ∷ ss) (sym (same_Some x s at))
changed-set change (x ∷ ss) (suc k) s at = ap (λ rest. x ∷ rest) (changed-set change ss k s at)

-- the same rows without the four keys
bare-changed_at : (i : ℕ) (times : Times) (ls : List LinkRow) → map bare_link (changed_at i times ls) ≡ map bare_link ls
unfolding changed_at
bare-changed_at i times [] = refl
bare-changed_at zero times (l ∷ ls) = refl
bare-changed_at (suc i) times (l ∷ ls) = ap (λ rest. bare_link l ∷ rest) (bare-changed_at i times ls)

pub bare-times : (i : ℕ) (times : Times) (t : Rows) → bare (with_link_at i times t) ≡ bare t
bare-times i times t = ap (λ ls. record t { buffer = 0; links = ls }) (bare-changed_at i times t.links)

pub alike-changed : (change : Rows → Rows) → ((t : Rows) → bare (change t) ≡ bare t) → (ss : List NamedRows) (k : ℕ)
    → AreAlike (changed_switch k change ss) ss
unfolding changed_switch
alike-changed change same [] k = refl
alike-changed change same (s ∷ ss) zero = ap (λ r. named_rows s.name r ∷ map bare_switch ss) (same s.rows)
alike-changed change same (s ∷ ss) (suc k) = ap (λ rest. bare_switch s ∷ rest) (alike-changed change same ss k)

length-changed : (change : Rows → Rows) (ss : List NamedRows) (k : ℕ) → length (changed_switch k change ss) ≡ length ss
unfolding changed_switch
length-changed change [] k = refl
length-changed change (s ∷ ss) zero = refl
length-changed change (s ∷ ss) (suc k) = ap suc (length-changed change ss k)

names-changed : (change : Rows → Rows) (ss : List NamedRows) (k : ℕ)
    → AllByRecursion (λ s. is_name s.name ≡ true) ss
    → AllByRecursion (λ s. is_name s.name ≡ true) (changed_switch k change ss)
unfolding changed_switch
names-changed change [] k h = tt
names-changed change (s ∷ ss) zero h = h
names-changed change (s ∷ ss) (suc k) h = (h.0, names-changed change ss k h.1)

each-changed : (change : Rows → Rows) (ss : List NamedRows) (k : ℕ) → AllByRecursion (λ s. IsLawfulSwitch s.rows) ss
    → ((s : NamedRows) → slice_get ss k ≡ Some s → IsLawfulSwitch (change s.rows))
    → AllByRecursion (λ s. IsLawfulSwitch s.rows) (changed_switch k change ss)
unfolding changed_switch
each-changed change [] k h new = tt
each-changed change (s ∷ ss) zero h new = (new s refl, h.1)
each-changed change (s ∷ ss) (suc k) h new = (h.0, each-changed change ss k h.1 new)

pub switches-changed : (change : Rows → Rows) → ((t : Rows) → bare (change t) ≡ bare t) → (ss : List NamedRows) (k : ℕ)
    → AreSwitches ss → ((s : NamedRows) → slice_get ss k ≡ Some s → IsLawfulSwitch (change s.rows))
    → AreSwitches (changed_switch k change ss)
switches-changed change same ss k h new = record {
  count = subst (λ n. IsWithin 1 24 n) (sym (length-changed change ss k)) h.count;
  names = names-changed change ss k h.names;
  each = each-changed change ss k h.each new;
  over = ap first_false (over_all-alike (changed_switch k change ss) ss (alike-changed change same ss k)) ∙ h.over;
}

module _ (ss : List NamedRows) (h : AreSwitches ss) (k : ℕ) where
  lawful-at : (s : NamedRows) → slice_get ss k ≡ Some s → IsLawfulSwitch s.rows
  lawful-at s at = AllByRecursion-slice_get (λ (r : NamedRows). IsLawfulSwitch r.rows) ss k s h.each at

  pub switches-buffer : (buffer : ℕ) → IsWithin least_frame greatest_buffer buffer
      → AreSwitches (changed_switch k (with_buffer buffer) ss)
  switches-buffer buffer within = switches-changed (with_buffer buffer) (λ t. refl) ss k h
      (λ s at. let old = lawful-at s at in record {
        profile = old.profile;
        buffer = within;
        own = old.own;
        systems = old.systems;
        links = old.links;
        sent = old.sent;
        ports = old.ports;
        heard = old.heard;
      })

  pub switches-times : (i : ℕ) (times : Times)
      → ((t : Rows) (l : LinkRow) → tables_at ss k ≡ Some t → slice_get t.links i ≡ Some l
      → IsLinkAmong t.own (length t.systems) (with_times times l))
      → AreSwitches (changed_switch k (with_link_at i times) ss)
  switches-times i times may = switches-changed (with_link_at i times) (bare-times i times) ss k h
      (λ s at. lawful-changed s.rows i times (lawful-at s at)
      (λ l row. may s.rows l (ap (option_map (λ (r : NamedRows). r.rows)) at) row))

-- where there is a row, there are its switch and its place
pub record RowStands (ss : List NamedRows) (k i : ℕ) : Type 0 where
  pub switch : NamedRows
  pub row : LinkRow
  pub at : slice_get ss k ≡ Some switch
  pub link : slice_get switch.rows.links i ≡ Some row

pub row-stands : (ss : List NamedRows) (k i : ℕ) → IsSome (link_at ss k i) → RowStands ss k i
row-stands ss k i = by (slice_get ss k) refl
  where
    of : (s : NamedRows) → slice_get ss k ≡ Some s → (o : Option LinkRow) → slice_get s.rows.links i ≡ o → IsSome o
        → RowStands ss k i
    of s at None e h = absurd (cc h)
    of s at (Some l) e h = record { switch = s; row = l; at = at; link = e }

    by : (o : Option NamedRows) → slice_get ss k ≡ o → IsSome (option_and_then (λ s. slice_get s.rows.links i) o)
        → RowStands ss k i
    by None at h = absurd (cc h)
    by (Some s) at h = of s at (slice_get s.rows.links i) refl h
