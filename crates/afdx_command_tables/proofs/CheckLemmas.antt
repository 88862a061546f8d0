-- The lines of one port more.
use Rattle.std.proofs.Common.{◌≡◌, ℕ, ◌+◌, ◌≤◌, List, [], ◌∷◌, ◌++◌, length, Bool, true, false, is_some, refl, sym}
use Rattle.std.proofs.Common.{ap, ◌∙◌, append_assoc, add-one, Option, Some, None, slice_get, take}
use Rattle.std.specs.Prelude.{if◌then◌else◌}
use Rattle.std.specs.List.{flat_map}
use Rattle.std.specs.Option.{option_map_or}
use Rattle.std.proofs.lemmas.List.{append-nil, flat_map_more, take_all, take_more}
use Rattle.std.proofs.lemmas.Option.{get_or_from_slice_get, slice_get_within}
use Rattle.afdx_config.specs.Rows.{LinkRow, Rows, is_to}
use Rattle.afdx_config.specs.Admission.{links_to}
use Rattle.afdx_config.specs.Reading.{system_at_port}
use Rattle.afdx_admit.proofs.TakenLemmas.{with_row, without_row}
use Rattle.afdx_admit.proofs.PortLemmas.{not-some}
use Rattle.afdx_command_tables.specs.CheckText.{port_line, used_port_lines, line_if_used, link_line}
use Rattle.afdx_command_tables.specs.CheckText.{margin_lines, margin_lines_if, apart_of, apart_lines}

pub port_lines-none : (margins : Bool) (t : Rows) (text : List ℕ) → text ≡ text ++ used_port_lines margins t 0
unfolding used_port_lines
port_lines-none margins t text = sym (append-nil text)

abbrev pub lines_of : Bool → Rows → ℕ → List ℕ
lines_of margins t port = line_if_used t port ++ margin_lines_if margins t port

port_lines-more : (margins : Bool) (t : Rows) (count : ℕ)
    → used_port_lines margins t (count + 1) ≡ used_port_lines margins t count ++ lines_of margins t (count + 1)
unfolding used_port_lines
port_lines-more margins t count = rw add-one refl

-- the lines of one port more were added, if it has any
pub port_lines-next : (margins : Bool) (t : Rows) (count : ℕ) (old before after : List ℕ)
    → before ≡ old ++ used_port_lines margins t count →
    after ≡ before ++ lines_of margins t (count + 1) → after ≡ old ++ used_port_lines margins t (count + 1)
port_lines-next margins t count old before after e f =
    f ∙ ap (λ (text : List ℕ). text ++ lines_of margins t (count + 1)) e
    ∙ append_assoc old (used_port_lines margins t count) (lines_of margins t (count + 1))
    ∙ ap (λ (text : List ℕ). old ++ text) (sym (port_lines-more margins t count))

-- ---- one port

margins-unused : (margins : Bool) (t : Rows) (port : ℕ) → system_at_port t.systems port ≡ None
    → [] ≡ margin_lines_if margins t port
unfolding margin_lines
margins-unused true t port none =
    sym (ap (λ (o : Option ℕ). option_map_or (λ place. flat_map (link_line t port) (links_to t.links place)) o []) none)
margins-unused false t port none = refl

pub unused : (margins : Bool) (t : Rows) (port : ℕ) (text : List ℕ)
    → false ≡ is_some (system_at_port t.systems port) → text ≡ text ++ lines_of margins t port
unused margins t port text none =
    sym (append-nil text)
    ∙ ap (λ (more : List ℕ). text ++ more)
    (margins-unused margins t port (not-some (system_at_port t.systems port) none)
    ∙ ap (λ (b : Bool). (if b then port_line t port else []) ++ margin_lines_if margins t port) none)

pub used : (margins : Bool) (t : Rows) (port : ℕ) → true ≡ is_some (system_at_port t.systems port)
    → port_line t port ++ margin_lines_if margins t port ≡ lines_of margins t port
used margins t port some =
    ap (λ (b : Bool). (if b then port_line t port else []) ++ margin_lines_if margins t port) some

-- ---- the margins there

pub margins-at : (t : Rows) (port place : ℕ) → Some place ≡ system_at_port t.systems port
    → flat_map (link_line t port) (links_to t.links place) ≡ margin_lines t port
unfolding margin_lines
margins-at t port place at =
    ap (λ (o : Option ℕ). option_map_or (λ p. flat_map (link_line t port) (links_to t.links p)) o []) at

pub margins-nowhere : (t : Rows) (port : ℕ) (text : List ℕ) → None ≡ system_at_port t.systems port
    → text ≡ text ++ margin_lines t port
unfolding margin_lines
margins-nowhere t port text at = sym (append-nil text)
    ∙ ap (λ (o : Option ℕ). text ++ option_map_or (λ p. flat_map (link_line t port) (links_to t.links p)) o []) at

module _ (t : Rows) (port place i : ℕ) (l : LinkRow) (at : slice_get t.links i ≡ Some l) (old before : List ℕ)
    (so_far : before ≡ old ++ flat_map (link_line t port) (links_to (take i t.links) place)) where
  abbrev lines_to : List LinkRow → List ℕ
  lines_to ls = flat_map (link_line t port) ls

  pub link_line-next : (after : List ℕ) → is_to place l ≡ true → after ≡ before ++ link_line t port l
      → after ≡ old ++ lines_to (links_to (take (i + 1) t.links) place)
  link_line-next after goes e =
      e ∙ ap (λ (text : List ℕ). text ++ link_line t port l) so_far
      ∙ flat_map_more (link_line t port) old (links_to (take i t.links) place) l
      ∙ ap (λ ls. old ++ lines_to ls) (sym (with_row (is_to place) t.links i l at goes))

  pub no_line-next : is_to place l ≡ false → before ≡ old ++ lines_to (links_to (take (i + 1) t.links) place)
  no_line-next stays =
      so_far ∙ ap (λ ls. old ++ lines_to ls) (sym (without_row (is_to place) t.links i l at stays))

-- ---- what links leave the copies of their frames

pub no_apart : (t : Rows) (text : List ℕ) → text ≡ text ++ flat_map (apart_of t) (take 0 t.links)
no_apart t text = sym (append-nil text)

pub apart-next : (t : Rows) (i : ℕ) (l : LinkRow) → slice_get t.links i ≡ Some l → (old before after : List ℕ)
    → before ≡ old ++ flat_map (apart_of t) (take i t.links) → after ≡ before ++ apart_of t l
    → after ≡ old ++ flat_map (apart_of t) (take (i + 1) t.links)
apart-next t i l at old before after e f =
    let more : take (i + 1) t.links ≡ take i t.links ++ l ∷ [] =
    take_more t.links i l (slice_get_within t.links i l at)
    ∙ ap (λ (r : LinkRow). take i t.links ++ r ∷ []) (get_or_from_slice_get t.links i l l at) in
    f ∙ ap (λ (text : List ℕ). text ++ apart_of t l) e ∙ flat_map_more (apart_of t) old (take i t.links) l
    ∙ ap (λ ls. old ++ flat_map (apart_of t) ls) (sym more)

pub aparts-done : (t : Rows) (i : ℕ) → length t.links ≤ i → (old after : List ℕ)
    → after ≡ old ++ flat_map (apart_of t) (take i t.links) → after ≡ old ++ apart_lines t
aparts-done t i past old after e = e ∙ ap (λ ls. old ++ flat_map (apart_of t) ls) (take_all i t.links past)
