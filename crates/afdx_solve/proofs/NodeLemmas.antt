-- What stands at the other keys of a table stays when a key is added, and so do the keys that are
-- known.
use Rattle.std.proofs.Common.{◌≡◌, ℕ, Ordering, Less, Equal, Greater, nat_cmp, is_eq, true, false, List, Option, Some, None}
use Rattle.std.proofs.Common.{option_map, refl, sym, ap, ◌∙◌, inl, inr, ◌⊎◌}
use Rattle.std.proofs.lemmas.Bool.{and_parts}
use Rattle.std.proofs.lemmas.Map.Text.{is_eq-slice_cmp}
use Rattle.std.proofs.lemmas.Slice.Eq.{bytes_eq-Decides}
use Rattle.std.specs.Cmp.Lexicographic.{slice_cmp}
use Rattle.std.specs.List.{list_any}
use Rattle.std.specs.Str.{bytes_eq}
use Rattle.toml.specs.Data.{get_member, same_key}
use Rattle.toml.specs.Tables.{Node, Nodes, no_nodes, node, close, close_node, get_node, insert}
use Rattle.toml.proofs.NodeLaws.{get_node-insert}
use Rattle.afdx_config.specs.Keys.{KeyRow, are_among}
use Rattle.afdx_solve.proofs.RunLemmas.{with_node}

cases_ordering : (o : Ordering) → (o ≡ Less) ⊎ ((o ≡ Equal) ⊎ (o ≡ Greater))
cases_ordering Less = inl refl
cases_ordering Equal = inr (inl refl)
cases_ordering Greater = inr (inr refl)

-- keys that tie are one
tied-same : (k l : List ℕ) → slice_cmp nat_cmp k l ≡ Equal → k ≡ l
tied-same k l tie = (bytes_eq-Decides k l).0 (sym (is_eq-slice_cmp k l) ∙ ap is_eq tie)

get_node-other : (k j : List ℕ) (x : Node) (ns : Nodes) → same_key k j ≡ false
    → get_node k (insert j x ns) ≡ get_node k ns
get_node-other k j x no_nodes other = rw other
get_node-other k j x (node l y ns) other =
    elim (cases_ordering (slice_cmp nat_cmp j l)) [
      | inl less ↦ rw (less, other)
      | inr rest ↦ elim rest [
        | inl tie ↦
            let there : same_key k l ≡ false = rw (← tied-same j l tie) other in
            rw (tie, there)
        | inr more ↦ rw (more, get_node-other k j x ns other)
      ]
    ]

-- an array at another key, if there is one
pub with_node-other : (k j : List ℕ) (o : Option Node) (ns : Nodes) → same_key k j ≡ false
    → get_node k (with_node j o ns) ≡ get_node k ns
with_node-other k j None ns other = refl
with_node-other k j (Some x) ns other = get_node-other k j x ns other

-- what stands at a key of the values
pub get_member-close : (k : List ℕ) (ns : Nodes) → get_member k (close ns) ≡ option_map close_node (get_node k ns)
get_member-close k no_nodes = refl
get_member-close k (node l x ns) = elim (cases_ordering (slice_cmp nat_cmp k l)) [
  | inl less ↦ rw less (get_member-close k ns)
  | inr rest ↦ elim rest [
    | inl tie ↦ rw tie refl
    | inr more ↦ rw more (get_member-close k ns)
  ]
]

among-insert : (known : List KeyRow) (j : List ℕ) (x : Node) (ns : Nodes)
    → list_any (λ key. bytes_eq key.name j) known ≡ true → are_among known (close ns) ≡ true
    → are_among known (close (insert j x ns)) ≡ true
unfolding are_among
among-insert known j x no_nodes is all = rw is
among-insert known j x (node l y ns) is all =
    elim (cases_ordering (slice_cmp nat_cmp j l)) [
      | inl less ↦ rw (less, is) all
      | inr rest ↦ elim rest [
        | inl tie ↦ rw tie all
        | inr more ↦
            let (here, later) = and_parts (list_any (λ key. bytes_eq key.name l) known)
            (are_among known (close ns)) all in
            rw (more, here) (among-insert known j x ns is later)
      ]
    ]

pub among-with : (known : List KeyRow) (j : List ℕ) (o : Option Node) (ns : Nodes)
    → list_any (λ key. bytes_eq key.name j) known ≡ true → are_among known (close ns) ≡ true
    → are_among known (close (with_node j o ns)) ≡ true
among-with known j None ns is all = all
among-with known j (Some x) ns is all = among-insert known j x ns is all

-- at its own key
pub get_node-with : (k : List ℕ) (o : Option Node) (ns : Nodes) → get_node k ns ≡ None
    → get_node k (with_node k o ns) ≡ o
get_node-with k None ns none = none
get_node-with k (Some x) ns none = get_node-insert k x ns
