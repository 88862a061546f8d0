-- The texts of the first places, as many as were added.
use Rattle.std.proofs.Common.{◌≡◌, ℕ, ◌+◌, List, [], ◌++◌, refl, sym, ap, ◌∙◌, append_assoc, add-one}
use Rattle.std.proofs.Common.{Option, Some, None, option_map}
use Rattle.std.specs.Option.{option_map_or}
use Rattle.std.proofs.lemmas.List.{append-nil}
use Rattle.std.proofs.lemmas.Option.{same_Some}
use Rattle.afdx_config.specs.Rows.{Rows}
use Rattle.afdx_config.specs.Switches.{NamedRows}
use Rattle.afdx_command_tables.specs.CascadeText.{texts_below}

pub below-none : (text : ℕ → List ℕ) (old : List ℕ) → old ≡ old ++ texts_below text 0
unfolding texts_below
below-none text old = sym (append-nil old)

below-more : (text : ℕ → List ℕ) (count : ℕ) → texts_below text (count + 1) ≡ texts_below text count ++ text count
unfolding texts_below
below-more text count = rw add-one refl

pub below-next : (text : ℕ → List ℕ) (count : ℕ) (old before after : List ℕ)
    → before ≡ old ++ texts_below text count → after ≡ before ++ text count →
    after ≡ old ++ texts_below text (count + 1)
below-next text count old before after e f =
    f ∙ ap (λ (more : List ℕ). more ++ text count) e
    ∙ append_assoc old (texts_below text count) (text count)
    ∙ ap (λ (more : List ℕ). old ++ more) (sym (below-more text count))

-- ---- what is said of the tables of a switch

pub of_tables : (text : Rows → List ℕ) (o : Option NamedRows) (t : Rows) → option_map (λ s. s.rows) o ≡ Some t
    → option_map_or (λ s. text s.rows) o [] ≡ text t
of_tables text None t at = absurd (cc at)
of_tables text (Some s) t at = ap text (same_Some s.rows t at)
