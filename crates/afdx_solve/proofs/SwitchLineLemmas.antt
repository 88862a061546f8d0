-- The text of several switches is made of the lines of their tree.
use Rattle.std.proofs.Common.{◌≡◌, ℕ, true, false, List, [], ◌∷◌, ◌++◌, codes, take, drop, refl, arith, append_assoc, subst}
use Rattle.std.specs.List.{flat_map, AllByRecursion}
use Rattle.std.proofs.lemmas.Bool.{and_parts}
use Rattle.toml.specs.Tables.{Expression, array_table}
use Rattle.toml.specs.Text.{IsLineText}
use Rattle.toml_writer.specs.Text.{key_text, path_text}
use Rattle.afdx_config.specs.Lawful.{IsLawfulSwitch, IsSystem}
use Rattle.afdx_config.specs.Reading.{is_name}
use Rattle.afdx_config.specs.Switches.{NamedRows}
use Rattle.afdx_solve.specs.ConfigText.{text_line, top_text, system_text, link_text, port_text}
use Rattle.afdx_solve.specs.CascadeText.{above, neighbour_text, parts_text, switch_text, cascade_text}
use Rattle.afdx_solve.proofs.LineLemmas.{AreLines, AreAllLines, all-from, and, one, numbered, worded, all-lines}
use Rattle.afdx_solve.proofs.LineLemmas.{parts-lines, neighbour-lines, no-lines}
use Rattle.afdx_solve.proofs.FrontLemmas.{front, back}
use Rattle.afdx_solve.proofs.NameLemmas.{IsWord}
use Rattle.afdx_solve.proofs.ReadTopLemmas.{among}
use Rattle.afdx_solve.proofs.RunLemmas.{field_lines, rows_lines, element_lines, under, under-append, under-fields, under-rows}
use Rattle.afdx_solve.proofs.TreeLemmas.{switch_fields, parts_lines, neighbour_fields, system_fields, link_fields, port_fields}

abbrev pub switch_key : List ℕ
switch_key = codes "switch"

-- the lines of a switch, by itself and in the file
abbrev pub switch_lines : NamedRows → List Expression
switch_lines s = field_lines (switch_fields s) ++ parts_lines [] (among s.rows)

abbrev lines_there : NamedRows → List Expression
lines_there s = field_lines (switch_fields s) ++ parts_lines (switch_key ∷ []) (among s.rows)

under-switch : (s : NamedRows) → under switch_key (switch_lines s) ≡ lines_there s
under-switch s =
    let t = among s.rows in
    rw (
      under-append switch_key (field_lines (switch_fields s)) (parts_lines [] t),
      under-fields switch_key (switch_fields s),
      under-append switch_key (rows_lines [] (codes "system") system_fields t.systems) _,
      under-rows switch_key (codes "system") [] system_fields t.systems,
      under-append switch_key (rows_lines [] (codes "neighbour") neighbour_fields t.neighbours) _,
      under-rows switch_key (codes "neighbour") [] neighbour_fields t.neighbours,
      under-append switch_key (rows_lines [] (codes "link") (link_fields t.ends) t.links) _,
      under-rows switch_key (codes "link") [] (link_fields t.ends) t.links,
      under-rows switch_key (codes "port") [] (port_fields t.ends) t.ports,
    )

-- what a switch of a file has
pub record IsSwitch (s : NamedRows) : Type 0 where
  pub name : is_name s.name ≡ true
  pub lawful : IsLawfulSwitch s.rows

-- what stands before the names of its tables
path-above : path_text (switch_key ∷ []) ≡ above
unfolding key_text
path-above = refl

four : (a b c d : List ℕ) → a ++ (b ++ (c ++ d)) ≡ ((a ++ b) ++ c) ++ d
four a b c d = simp append_assoc refl

name-word : (name : List ℕ) → is_name name ≡ true → IsWord name
unfolding is_name
name-word name is = (and_parts _ _ is).1

module _ (s : NamedRows) (is : IsSwitch s) where
  keys-lines : AreLines (field_lines (switch_fields s)) (text_line (codes "name") s.name ++ top_text s.rows)
  unfolding switch_fields key_text
  keys-lines =
      and (worded (codes "name") s.name refl (name-word s.name is.name))
      (and (numbered (codes "profile") s.rows.profile refl (omega (arith, is.lawful.profile.1)))
      (numbered (codes "buffer") s.rows.buffer refl (omega (arith, is.lawful.buffer.1))))

  neighbours-lines : AreLines
      (rows_lines (switch_key ∷ []) (codes "neighbour") neighbour_fields (drop s.rows.own s.rows.systems))
      (flat_map neighbour_text (drop s.rows.own s.rows.systems))
  unfolding neighbour_text key_text
  neighbours-lines = all-lines (switch_key ∷ []) (codes "neighbour") neighbour_fields neighbour_text
      (drop s.rows.own s.rows.systems) (IsSystem s.rows.profile)
      (back (IsSystem s.rows.profile) s.rows.own s.rows.systems is.lawful.systems.each)
      (neighbour-lines (switch_key ∷ []) (omega arith) s.rows.profile)

  tables-lines : AreLines (parts_lines (switch_key ∷ []) (among s.rows)) (parts_text s.rows)
  unfolding parts_text
  tables-lines =
      let t = s.rows in
      subst (AreLines (parts_lines (switch_key ∷ []) (among s.rows)))
      (four (flat_map (system_text above) (take t.own t.systems)) (flat_map neighbour_text (drop t.own t.systems))
      (flat_map (link_text above t.systems) t.links) (flat_map (port_text above t.systems) t.ports))
      (rw path-above at (parts-lines (switch_key ∷ []) (omega arith) s.rows.profile (among s.rows)
      (flat_map neighbour_text (drop s.rows.own s.rows.systems)) is.lawful.systems.each
      (front (IsSystem s.rows.profile) s.rows.own s.rows.systems is.lawful.systems.each)
      is.lawful.links.each is.lawful.ports.each neighbours-lines))

  -- its lines below its header
  body-lines : AreLines (under switch_key (switch_lines s))
      ((text_line (codes "name") s.name ++ top_text s.rows) ++ parts_text s.rows)
  body-lines = rw (under-switch s) (and keys-lines tables-lines)

  first-header : IsLineText false false ([], switch_key) array_table (codes "[[switch]]\n")
  unfolding key_text
  first-header = refl

  next-header : IsLineText false true ([], switch_key) array_table (codes "\n[[switch]]\n")
  unfolding key_text
  next-header = refl

  same-text : switch_text s
      ≡ codes "[[switch]]\n" ++ ((text_line (codes "name") s.name ++ top_text s.rows) ++ parts_text s.rows)
  unfolding switch_text
  same-text = rw (append_assoc (text_line (codes "name") s.name) (top_text s.rows) (parts_text s.rows)) refl

  next-lines : AreLines (element_lines switch_key (switch_lines s)) (codes "\n" ++ switch_text s)
  next-lines = rw same-text
      (and (one (([], switch_key), array_table) (codes "\n[[switch]]\n") next-header (omega arith)) body-lines)

pub switches-lines : (s : NamedRows) (more : List NamedRows) → AllByRecursion IsSwitch (s ∷ more)
    → AreAllLines (flat_map (λ s. element_lines switch_key (switch_lines s)) (s ∷ more)) (cascade_text (s ∷ more))
unfolding cascade_text
switches-lines s more are =
    let others = others-lines more are.1 in
    let all = all-from (([], switch_key), array_table) _ (codes "[[switch]]\n") _ (first-header s are.0) (omega arith)
    (and (body-lines s are.0) others) in
    rw (same-text s are.0) all
  where
    others-lines : (more : List NamedRows) → AllByRecursion IsSwitch more
        → AreLines (flat_map (λ s. element_lines switch_key (switch_lines s)) more)
        (flat_map (λ s. codes "\n" ++ switch_text s) more)
    others-lines [] are = no-lines
    others-lines (r ∷ rest) are = and (next-lines r are.0) (others-lines rest are.1)
