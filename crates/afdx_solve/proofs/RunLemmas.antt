-- What the lines of some tables, under one header, do to the nodes of a TOML document.
use Rattle.std.proofs.Common.{◌≡◌, ℕ, List, [], ◌∷◌, ◌++◌, map, Option, Some, None, option_map, option_and_then, refl, ap, ◌∙◌}
use Rattle.std.specs.List.{flat_map}
use Rattle.toml.specs.Data.{Data, array, table, Items, no_items, item, push_item}
use Rattle.toml.specs.Tables.{Node, Nodes, no_nodes, open_array, close, close_node, Edit, Definition, Document, Expression, key_value}
use Rattle.toml.specs.Tables.{std_table, array_table, get_node, insert, replace, put, define, along_header, at_key}
use Rattle.std.proofs.Common.{Ok}
use Rattle.toml.specs.Data.{as_table}
use Rattle.afdx_config.specs.declared.fault.Place.{Place}
use Rattle.afdx_config.specs.Keys.{all_as, tables_or_none}
use Rattle.toml.proofs.NodeLaws.{keep, seq, get_node-insert, replace-insert, along_found}
use Rattle.toml.proofs.ReadLines.{run}
use Rattle.toml.proofs.Fill.{run-append}
use Rattle.toml.proofs.ReadValues.{item_join, item_join-push}

-- the members of a table in the order of its lines
abbrev pub Fields : Type 0
Fields = List (List ℕ × Data)

abbrev pub field_lines : Fields → List Expression
field_lines fields = map (λ f. (([], f.0), key_value f.1)) fields

-- the edit that puts them into a table
unfoldable pub put_all : Fields → Edit
put_all [] = keep
put_all (f ∷ fs) = seq (put ([], f.0) f.1) (put_all fs)

-- the lines of a table of an array, which is in the table at a path
abbrev pub table_lines : (path : List (List ℕ)) → List ℕ → Fields → List Expression
table_lines path k fields = ((path, k), array_table) ∷ field_lines fields

-- the lines of some rows
abbrev pub rows_lines : {R : Type 0} → (path : List (List ℕ)) → List ℕ → (R → Fields) → List R → List Expression
rows_lines path k fields rs = flat_map (λ r. table_lines path k (fields r)) rs

fields-step : (fs : Fields) (o : Option Nodes)
    → ((r : Nodes) → run (r, []) (field_lines fs) ≡ option_map (λ x. (x, [])) (put_all fs r))
    → option_and_then (λ next. run next (field_lines fs)) (option_map (λ r. (r, [])) o)
    ≡ option_map (λ x. (x, [])) (option_and_then (put_all fs) o)
fields-step fs None ih = refl
fields-step fs (Some r) ih = ih r

-- what the members' lines do
pub run-fields : (fs : Fields) (root : Nodes)
    → run (root, []) (field_lines fs) ≡ option_map (λ r. (r, [])) (put_all fs root)
unfolding define along_header put_all
run-fields [] root = refl
run-fields (f ∷ fs) root = fields-step fs (put ([], f.0) f.1 root) (λ r. run-fields fs r)

-- ---- the lines of a document, in a table of an array

-- a key by its path, and a line below another key
abbrev Name : Type 0
Name = List (List ℕ) × List ℕ

abbrev under_as : List ℕ → Name → Definition → Expression
under_as k key (key_value d) = (key, key_value d)
under_as k key std_table = ((k ∷ key.0, key.1), std_table)
under_as k key array_table = ((k ∷ key.0, key.1), array_table)

abbrev pub under : List ℕ → List Expression → List Expression
under k es = map (λ e. under_as k e.0 e.1) es

pub under-append : (k : List ℕ) (es fs : List Expression) → under k (es ++ fs) ≡ under k es ++ under k fs
under-append k [] fs = refl
under-append k (e ∷ es) fs = rw (under-append k es fs)

pub under-fields : (k : List ℕ) (fs : Fields) → under k (field_lines fs) ≡ field_lines fs
under-fields k [] = refl
under-fields k (f ∷ fs) = rw (under-fields k fs)

pub under-rows : {R : Type 0} (k j : List ℕ) (path : List (List ℕ)) (fields : R → Fields) (rs : List R)
    → under k (rows_lines path j fields rs) ≡ rows_lines (k ∷ path) j fields rs
under-rows k j path fields [] = refl
under-rows k j path fields (r ∷ rs) =
    rw (
      under-append k (table_lines path j (fields r)) (rows_lines path j fields rs),
      under-fields k (fields r),
      under-rows k j path fields rs,
    )

-- a document in the newest table of an array
abbrev inside : List ℕ → Items → Nodes → Document → Document
inside k done root doc = (insert k (open_array done doc.0) root, k ∷ doc.1)

module _ (k : List ℕ) (done : Items) (root : Nodes) where
  -- an edit there
  along-inside : (p : List (List ℕ)) (e : Edit) (ns : Nodes)
      → along_header (k ∷ p) e (insert k (open_array done ns) root)
      ≡ option_map (λ new. insert k (open_array done new) root) (along_header p e ns)
  along-inside p e ns =
      let x = open_array done ns in
      along_found k p e (insert k x root) x (get_node-insert k x root) ∙ by (along_header p e ns)
    where
      by : (o : Option Nodes)
          → option_map (λ new. replace k new (insert k (open_array done ns) root)) (option_map (open_array done) o)
          ≡ option_map (λ new. insert k (open_array done new) root) o
      by None = refl
      by (Some y) = ap Some (replace-insert k (open_array done ns) (open_array done y) root)

  mapped : (q : List (List ℕ)) (o : Option Nodes)
      → option_map (λ r. (r, k ∷ q)) (option_map (λ new. insert k (open_array done new) root) o)
      ≡ option_map (inside k done root) (option_map (λ r. (r, q)) o)
  mapped q None = refl
  mapped q (Some r) = refl

  define-inside : (doc : Document) (key : Name) (what : Definition)
      → define (inside k done root doc) (under_as k key what) ≡ option_map (inside k done root) (define doc (key, what))
  unfolding define
  define-inside doc key (key_value d) = rw (along-inside doc.1 (put key d) doc.0) (mapped doc.1 _)
  define-inside doc key std_table =
      rw (along-inside key.0 (at_key key.1 std_table) doc.0) (mapped (key.0 ++ key.1 ∷ []) _)
  define-inside doc key array_table =
      rw (along-inside key.0 (at_key key.1 array_table) doc.0) (mapped (key.0 ++ key.1 ∷ []) _)

  run-inside : (es : List Expression) (doc : Document)
      → run (inside k done root doc) (under k es) ≡ option_map (inside k done root) (run doc es)
  run-inside [] doc = refl
  run-inside (e ∷ es) doc = rw (define-inside doc e.0 e.1) (by (define doc e) (λ next. run-inside es next))
    where
      by : (o : Option Document)
          → ((next : Document)
          → run (inside k done root next) (under k es) ≡ option_map (inside k done root) (run next es))
          → option_and_then (λ next. run next (under k es)) (option_map (inside k done root) o)
          ≡ option_map (inside k done root) (option_and_then (λ next. run next es) o)
      by None later = refl
      by (Some next) later = later next

-- the lines of a document, as those of a table of an array
abbrev pub element_lines : List ℕ → List Expression → List Expression
element_lines k es = (([], k), array_table) ∷ under k es

-- the first table of an array
first-table : (k : List ℕ) (es : List Expression) (made : Document) (root : Nodes) (p : List (List ℕ))
    → get_node k root ≡ None → run (no_nodes, []) es ≡ Some made
    → run (root, p) (element_lines k es) ≡ Some (inside k no_items root made)
unfolding define along_header at_key
first-table k es made root p none ran =
    rw none (run-inside k no_items root es (no_nodes, []) ∙ ap (option_map (inside k no_items root)) ran)

-- one table more
next-table : (k : List ℕ) (es : List Expression) (made : Document) (done : Items) (last root : Nodes)
    (p : List (List ℕ)) → run (no_nodes, []) es ≡ Some made
    → run (insert k (open_array done last) root, p) (element_lines k es)
    ≡ Some (inside k (push_item done (table (close last))) root made)
unfolding define along_header at_key
next-table k es made done last root p ran =
    let x = open_array done last in
    let more = push_item done (table (close last)) in
    rw (get_node-insert k x root, replace-insert k x (open_array more no_nodes) root)
    (run-inside k more root es (no_nodes, []) ∙ ap (option_map (inside k more root)) ran)

-- with an array, if there is one
abbrev pub with_node : List ℕ → Option Node → Nodes → Nodes
with_node k None root = root
with_node k (Some x) root = insert k x root

module _ {R : Type 0} (nodes : R → Nodes) where
  -- the array of the rows after some tables
  abbrev pub array_after : Items → Nodes → List R → Node
  array_after done last [] = open_array done last
  array_after done last (r ∷ rs) = array_after (push_item done (table (close last))) (nodes r) rs

  -- the array that the rows make, if there are any
  abbrev pub rows_node : List R → Option Node
  rows_node [] = None
  rows_node (r ∷ rs) = Some (array_after no_items (nodes r) rs)

  -- the rows' tables as items
  abbrev pub rows_items : List R → Items
  rows_items [] = no_items
  rows_items (r ∷ rs) = item (table (close (nodes r))) (rows_items rs)

  close-after : (done : Items) (last : Nodes) (rs : List R)
      → close_node (array_after done last rs) ≡ array (item_join done (item (table (close last)) (rows_items rs)))
  close-after done last [] = ap array (pushed done (table (close last)))
    where
      pushed : (done : Items) (d : Data) → push_item done d ≡ item_join done (item d no_items)
      pushed no_items d = refl
      pushed (item e done) d = ap (item e) (pushed done d)
  close-after done last (r ∷ rs) =
      close-after (push_item done (table (close last))) (nodes r) rs
      ∙ ap array (item_join-push done (table (close last)) (item (table (close (nodes r))) (rows_items rs)))

  pub close-rows : (r : R) (rs : List R) → close_node (array_after no_items (nodes r) rs) ≡ array (rows_items (r ∷ rs))
  close-rows r rs = close-after no_items (nodes r) rs

  -- an array of the rows' tables, which is absent where there are none, reads as them
  pub rows-read : (at : Place) (rs : List R) → tables_or_none at
      (option_map close_node (rows_node rs)) ≡ Ok (map (λ r. close (nodes r)) rs)
  rows-read at [] = refl
  rows-read at (r ∷ rs) = rw (close-rows r rs, all-tables rs)
    where
      all-tables : (rs : List R) → all_as as_table (rows_items rs) ≡ Some (map (λ r. close (nodes r)) rs)
      all-tables [] = refl
      all-tables (r ∷ rs) = rw (all-tables rs)

-- rows whose lines make a document of their own
module _ {R : Type 0} (k : List ℕ) (lines : R → List Expression) (nodes : R → Nodes)
    (made : (r : R) → (q : List (List ℕ)) × (run (no_nodes, []) (lines r) ≡ Some (nodes r, q))) where
  abbrev pub all_elements : List R → List Expression
  all_elements rs = flat_map (λ r. element_lines k (lines r)) rs

  more-rows : (rs : List R) (done : Items) (last root : Nodes) (p : List (List ℕ))
      → (q : List (List ℕ)) × (run (insert k (open_array done last) root, p) (all_elements rs)
      ≡ Some (insert k (array_after nodes done last rs) root, q))
  more-rows [] done last root p = (p, refl)
  more-rows (r ∷ rs) done last root p =
      let (at, ran) = made r in
      let next = next-table k (lines r) (nodes r, at) done last root p ran in
      let (q, rest) = more-rows rs (push_item done (table (close last))) (nodes r) root (k ∷ at) in (
        q,
        run-append _ (element_lines k (lines r)) (all_elements rs)
            ∙ ap (option_and_then (λ d. run d (all_elements rs))) next ∙ rest,
      )

  -- what the lines of all rows do
  pub elements-run : (rs : List R) (root : Nodes) (p : List (List ℕ)) → get_node k root ≡ None
      → (q : List (List ℕ)) × (run (root, p) (all_elements rs) ≡ Some (with_node k (rows_node nodes rs) root, q))
  elements-run [] root p none = (p, refl)
  elements-run (r ∷ rs) root p none =
      let (at, ran) = made r in
      let start = first-table k (lines r) (nodes r, at) root p none ran in
      let (q, rest) = more-rows rs no_items (nodes r) root (k ∷ at) in (
        q,
        run-append _ (element_lines k (lines r)) (all_elements rs)
            ∙ ap (option_and_then (λ d. run d (all_elements rs))) start ∙ rest,
      )

-- rows that have members alone
module _ {R : Type 0} (k : List ℕ) (fields : R → Fields) (nodes : R → Nodes)
    (made : (r : R) → put_all (fields r) no_nodes ≡ Some (nodes r)) where
  fields-made : (r : R) → run (no_nodes, []) (field_lines (fields r)) ≡ Some (nodes r, [])
  fields-made r = run-fields (fields r) no_nodes ∙ ap (option_map (λ x. (x, []))) (made r)

  as-elements : (rs : List R) → rows_lines [] k fields rs ≡ flat_map (λ r. element_lines k (field_lines (fields r))) rs
  as-elements [] = refl
  as-elements (r ∷ rs) = rw (under-fields k (fields r), as-elements rs)

  pub rows-run : (rs : List R) (root : Nodes) (p : List (List ℕ)) → get_node k root ≡ None
      → (q : List (List ℕ))
      × (run (root, p) (rows_lines [] k fields rs) ≡ Some (with_node k (rows_node nodes rs) root, q))
  rows-run rs root p none =
      rw (as-elements rs)
      (elements-run k (λ r. field_lines (fields r)) nodes (λ r. ([], fields-made r)) rs root p none)
