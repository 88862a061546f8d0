-- The text of lawful tables spells them.
use Rattle.std.proofs.Common.{◌≡◌, ℕ, suc, false, List, [], ◌++◌, length, Some, refl, ◌∙◌, arith}
use Rattle.std.proofs.Common.{subst, sym}
use Rattle.std.specs.Prelude.{IsUtf8, String, string_bytes}
use Rattle.std.specs.declared.alloc.Global.{Global}
use Rattle.std.proofs.lemmas.Str.{IsUtf8-string_bytes}
use Rattle.toml.specs.Tables.{Expression, Nodes, no_nodes, close}
use Rattle.toml.specs.Parse.{parse_document, skip_bom}
use Rattle.toml.proofs.ReadLines.{run, read_lines}
use Rattle.toml.proofs.Turns.{document_some}
use Rattle.afdx_config.specs.Lawful.{IsLawful}
use Rattle.afdx_config.specs.Reading.{Spells}
use Rattle.afdx_config.specs.Rows.{Rows}
use Rattle.afdx_solve.specs.ConfigText.{config_text, number_line}
use Rattle.afdx_solve.proofs.LineLemmas.{AreAllLines, config-lines}
use Rattle.afdx_solve.proofs.ReadTopLemmas.{alone, tables_root, tree-reads}
use Rattle.afdx_solve.proofs.RunLemmas.{field_lines}
use Rattle.afdx_solve.proofs.TreeLemmas.{top_fields, top_nodes, top-made, parts_lines, parts-run, no-parts-top}

-- a text that has just some lines parses as what they make
pub lines-parse : (es : List Expression) (text : List ℕ) (root : Nodes) → skip_bom text ≡ text → AreAllLines es text
    → (q : List (List ℕ)) × (run (no_nodes, []) es ≡ Some (root, q)) → parse_document text ≡ Some (close root)
lines-parse es text root no_bom all (q, ran) =
    let read = read_lines false false es text text (no_nodes, []) (suc (length text)) all.lines all.printed
    refl (omega arith) in
    document_some text (root, q) (rw no_bom (read ∙ ran))

no-bom : (t : Rows) → skip_bom (config_text t) ≡ config_text t
unfolding skip_bom number_line
no-bom t = refl

text-spells : (t : Rows) → IsLawful t → IsUtf8 (config_text t) → Spells (config_text t) t
text-spells t lawful utf8 =
    let parses = lines-parse (field_lines (top_fields t) ++ parts_lines [] (alone t)) (config_text t) (tables_root t)
    (no-bom t) (config-lines t lawful)
    (parts-run (alone t) (top_nodes t) (no-parts-top t) (top_fields t) (top-made t)) in
    (utf8, (close (tables_root t), parses, tree-reads t lawful))

-- and so does a string of these bytes
pub string-spells : (text : String Global) (t : Rows) → IsLawful t
    → string_bytes text ≡ config_text t → Spells (string_bytes text) t
string-spells text t lawful is =
    subst (λ bytes. Spells bytes t) (sym is) (text-spells t lawful (subst IsUtf8 is (IsUtf8-string_bytes text)))
