-- Items that are read one after the other, as a loop does.
use Rattle.std.proofs.Common.{◌≡◌, ℕ, Bool, List, [], ◌∷◌, ◌++◌, Option}
use Rattle.std.proofs.Common.{refl, ap, ◌&&◌, ◌||◌}
use Rattle.std.proofs.Common.{string_bytes, String, Global, nat_eq}
use Rattle.std.specs.Option.{option_map}
use Rattle.std.specs.List.{list_all, list_any}
use Rattle.std.specs.Map.{keys_of}
use Rattle.std.specs.Str.{bytes_eq}
use Rattle.toml.specs.View.{members_view}
use Rattle.toml.specs.declared.value.Value.{Value}
use Rattle.afdx_frame.proofs.ListLemmas.{AllByRecursion-push}
use Rattle.afdx_config.specs.declared.rows.SystemId.{SystemId}
use Rattle.afdx_config.specs.declared.rows.ComRow.{ComRow}
use Rattle.afdx_config.specs.Rows.{system_places, PortRow, port_row, port_rows}
use Rattle.std.specs.List.{AllByRecursion}
use Rattle.afdx_config.specs.Keys.{Key, are_among, key_rows}

-- under a name that code can cite
pub all_push : {X : Type 0} (P : X → Type 0) (xs : List X) (x : X) → AllByRecursion P xs → P x
    → AllByRecursion P (xs ++ x ∷ [])
all_push P xs x all one = AllByRecursion-push P xs x all one

-- what was read before, and what is still read
abbrev pub with_front : {A : Type 0} → List A → Option (List A) → Option (List A)
with_front front rest = option_map (λ xs. front ++ xs) rest

pub are_among-keys : (known : List Key) (es : List (String Global × Value))
    → are_among (key_rows known) (members_view es)
    ≡ list_all (λ k. list_any (λ s. bytes_eq s.0.now (string_bytes k)) known) (keys_of es)
unfolding are_among
are_among-keys known [] = refl
are_among-keys known (e ∷ es) = (λ j. among known (string_bytes e.0) j && are_among-keys known es j)
  where
    among : (ss : List Key) (k : List ℕ) → list_any (λ key. bytes_eq key.name k) (key_rows ss)
        ≡ list_any (λ s. bytes_eq s.0.now k) ss
    among [] k = refl
    among (s ∷ ss) k = ap (λ b. bytes_eq s.0.now k || b) (among ss k)

pub any_places : (ids : List SystemId) (n : ℕ) → list_any (λ j. nat_eq j n) (system_places ids)
    ≡ list_any (λ i. nat_eq i.0 n) ids
any_places [] n = refl
any_places (i ∷ ids) n = ap (λ b. nat_eq i.0 n || b) (any_places ids n)

pub any_ports : (q : PortRow → Bool) (cs : List ComRow) → list_any q (port_rows cs) ≡ list_any (λ c. q (port_row c)) cs
any_ports q [] = refl
any_ports q (c ∷ cs) = ap (λ b. q (port_row c) || b) (any_ports q cs)

pub port_rows-push : (cs : List ComRow) (c : ComRow) → port_rows (cs ++ c ∷ []) ≡ port_rows cs ++ port_row c ∷ []
port_rows-push [] c = refl
port_rows-push (d ∷ cs) c = ap (λ rs. port_row d ∷ rs) (port_rows-push cs c)
