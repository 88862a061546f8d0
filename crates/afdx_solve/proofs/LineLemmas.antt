-- The text of lawful tables is made of the lines of their tree.
use Rattle.std.proofs.Common.{◌≡◌, ℕ, ◌<◌, ◌≤◌, Bool, true, false, List, [], ◌∷◌, ◌++◌, codes, length, map}
use Rattle.std.proofs.Common.{refl, sym, arith, append_assoc, append-nil}
use Rattle.std.specs.Fmt.{decimal}
use Rattle.std.specs.List.{flat_map, AllByRecursion}
use Rattle.std.proofs.lemmas.Bool.{and_parts}
use Rattle.toml.specs.Data.{Data, string, array, items_depth, items_have_valid_dates}
use Rattle.toml.specs.Tables.{Expression, key_value, array_table}
use Rattle.toml.specs.Text.{IsItemsText, IsLineText, IsLinesText, before_item, breaks_lines}
use Rattle.toml.proofs.Lines.{IsLinesText-append}
use Rattle.toml.proofs.ReadLines.{AllPrinted, IsPrinted}
use Rattle.toml_writer.specs.Text.{key_text, path_text}
use Rattle.afdx_frame.specs.declared.link.Priority.{Priority}
use Rattle.afdx_frame.specs.declared.link.Priority.TheVariants.{High, Low}
use Rattle.afdx_frame.specs.declared.link.Policing.{Policing}
use Rattle.afdx_frame.specs.declared.link.Policing.TheVariants.{Byte, Frame}
use Rattle.afdx_frame.proofs.ListLemmas.{AllByRecursion-slice_get, slice_get-within}
use Rattle.afdx_config.specs.declared.rows.Kind.{Kind}
use Rattle.afdx_config.specs.declared.rows.Kind.TheVariants.{Sampling, Queuing}
use Rattle.afdx_config.specs.Lawful.{IsLawful, IsLawfulSwitch, IsSystem, IsLinkUpTo, IsPort, IsWithin, jitter_from_any}
use Rattle.afdx_config.proofs.AmongOthersLemmas.{among_others}
use Rattle.afdx_config.specs.Reading.{is_name, deepest}
use Rattle.afdx_config.specs.Rows.{SystemRow, LinkRow, PortRow, Rows}
use Rattle.afdx_solve.specs.ConfigText.{in_quotes, listed, number_line, text_line, texts_line, header, class_word, policing_word, kind_word, name_at}
use Rattle.afdx_solve.specs.ConfigText.{system_text, way_text, traffic_text, treatment_text, link_text, port_text, config_text}
use Rattle.afdx_solve.proofs.NameLemmas.{IsWord, word-text}
use Rattle.afdx_solve.proofs.ReadRowLemmas.{rate-within, bag-within, identifier-within}
use Rattle.afdx_solve.proofs.RunLemmas.{Fields, field_lines, table_lines, rows_lines}
use Rattle.afdx_solve.proofs.TreeLemmas.{number, texts, way_fields, traffic_fields, treatment_fields, top_fields}
use Rattle.afdx_solve.proofs.TreeLemmas.{system_fields, neighbour_fields, link_fields, port_fields, Parts, parts_lines}
use Rattle.afdx_solve.proofs.ReadTopLemmas.{alone}

-- ---- lines of each kind

-- a key of letters, digits and _, which is written as it is
abbrev pub IsBare : List ℕ → Type 0
IsBare k = key_text k ≡ k

-- greater than each number of a configuration
abbrev pub IsSmall : ℕ → Type 0
IsSmall n = n ≤ 4194304

abbrev pub IsLine : List ℕ → Data → List ℕ → Type 0
IsLine k d text = IsLineText false true ([], k) (key_value d) text

line-number : (k : List ℕ) (n : ℕ) → IsBare k → IsSmall n → IsLine k (number n) (number_line k n)
unfolding number_line
line-number k n bare small = (decimal n, rw bare (simp append_assoc refl), (refl, record { sfits = omega arith }))

line-text : (k s : List ℕ) → IsBare k → IsWord s → IsLine k (string s) (text_line k s)
unfolding text_line
line-text k s bare word = (in_quotes s, rw bare (simp append_assoc refl), sym (word-text s word))

abbrev pub AreWords : List (List ℕ) → Type 0
AreWords ss = AllByRecursion IsWord ss

items-text : (is_first : Bool) (s : List ℕ) (more : List (List ℕ)) → AreWords (s ∷ more)
    → IsItemsText false false is_first (texts (s ∷ more))
    (before_item false is_first ++ (listed (s ∷ more) ++ codes "]"))
items-text is_first s [] words = (in_quotes s, codes "]", refl, sym (word-text s words.0), refl)
items-text is_first s (u ∷ more) words = (
  in_quotes s,
  codes ", " ++ (listed (u ∷ more) ++ codes "]"),
  simp append_assoc refl,
  sym (word-text s words.0),
  items-text false u more words.1,
)

unbroken : (ss : List (List ℕ)) → breaks_lines false (texts ss) ≡ false
unbroken [] = refl
unbroken (s ∷ []) = refl
unbroken (s ∷ u ∷ more) = refl

array-text : (ss : List (List ℕ)) → AreWords ss → IsItemsText false false true (texts ss) (listed ss ++ codes "]")
array-text [] words = refl
array-text (s ∷ more) words = items-text true s more words

line-texts : (k : List ℕ) (ss : List (List ℕ)) → IsBare k → AreWords ss → IsLine k (array (texts ss)) (texts_line k ss)
unfolding texts_line
line-texts k ss bare words =
    let rest = listed ss ++ codes "]" in (
      codes "[" ++ rest,
      rw bare (simp append_assoc refl),
      (rest, refl, rw (unbroken ss) (array-text ss words)),
    )

line-header : (path : List (List ℕ)) (k : List ℕ) → IsBare k
    → IsLineText false true (path, k) array_table (header (path_text path) k)
unfolding header
line-header path k bare = rw bare (simp append_assoc refl)

-- ---- rows

texts-flat : (ss : List (List ℕ)) → items_depth (texts ss) ≡ 0
texts-flat [] = refl
texts-flat (s ∷ ss) = rw (texts-flat ss)

texts-dateless : (ss : List (List ℕ)) → items_have_valid_dates (texts ss) ≡ true
texts-dateless [] = refl
texts-dateless (s ∷ ss) = texts-dateless ss

-- the text has just these lines, after others, and each is one that the reader's lemmas are about
pub record AreLines (es : List Expression) (text : List ℕ) : Type 0 where
  pub lines : IsLinesText false true es text
  pub printed : AllPrinted es

pub no-lines : AreLines [] []
no-lines = record { lines = refl; printed = tt }

pub one : (e : Expression) (text : List ℕ) → IsLineText false true e.0 e.1 text → IsPrinted e.0 e.1
    → AreLines (e ∷ []) text
one e text line printed = record { lines = (text, [], sym (append-nil text), line, refl); printed = (printed, tt) }

both-printed : (es fs : List Expression) → AllPrinted es → AllPrinted fs → AllPrinted (es ++ fs)
both-printed [] fs a b = b
both-printed (e ∷ es) fs a b = (a.0, both-printed es fs a.1 b)

-- lines, and more of them
pub and : {es fs : List Expression} {text more : List ℕ} → AreLines es text → AreLines fs more
    → AreLines (es ++ fs) (text ++ more)
and {es} {fs} {text} {more} first_lines others = record {
  lines = IsLinesText-append false true es fs text more first_lines.lines others.lines;
  printed = both-printed es fs first_lines.printed others.printed;
}

headed : (path : List (List ℕ)) (k : List ℕ) → IsBare k → length path < 80
    → AreLines (((path, k), array_table) ∷ []) (header (path_text path) k)
headed path k bare shallow = one ((path, k), array_table) (header (path_text path) k) (line-header path k bare) shallow

pub numbered : (k : List ℕ) (n : ℕ) → IsBare k → IsSmall n
    → AreLines (field_lines ((k, number n) ∷ [])) (number_line k n)
numbered k n bare small =
    one (([], k), key_value (number n)) (number_line k n) (line-number k n bare small) (refl, omega arith, refl)

pub worded : (k s : List ℕ) → IsBare k → IsWord s → AreLines (field_lines ((k, string s) ∷ [])) (text_line k s)
worded k s bare word =
    one (([], k), key_value (string s)) (text_line k s) (line-text k s bare word) (refl, omega arith, refl)

several : (k : List ℕ) (ss : List (List ℕ)) → IsBare k → AreWords ss
    → AreLines (field_lines ((k, array (texts ss)) ∷ [])) (texts_line k ss)
several k ss bare words =
    one (([], k), key_value (array (texts ss))) (texts_line k ss) (line-texts k ss bare words)
    (refl, omega (arith, texts-flat ss), texts-dateless ss)

name-word : (profile : ℕ) (s : SystemRow) → IsSystem profile s → IsWord s.name
unfolding is_name
name-word profile s is = (and_parts _ _ is.name).1

-- a system, a link and a port entry stand in the table at a path
pub system-lines : (path : List (List ℕ)) → length path < 80 → (profile : ℕ) (s : SystemRow) → IsSystem profile s
    → AreLines (table_lines path (codes "system") (system_fields s)) (system_text (path_text path) s)
unfolding system_text system_fields key_text
system-lines path shallow profile s is =
    let rate = rate-within profile s.rate is.rate in
    and (and (and (and (and
    (headed path (codes "system") refl shallow)
    (worded (codes "name") s.name refl (name-word profile s is)))
    (numbered (codes "port") s.port refl (omega (arith, is.port.1))))
    (numbered (codes "id") s.id refl (omega (arith, is.id.1))))
    (numbered (codes "partition") s.partition refl (omega (arith, is.partition.1))))
    (numbered (codes "rate") s.rate refl (omega (arith, rate.1)))

pub neighbour-lines : (path : List (List ℕ)) → length path < 80 → (profile : ℕ) (e : SystemRow) → IsSystem profile e
    → AreLines (table_lines path (codes "neighbour") (neighbour_fields e))
    (header (path_text path) (codes "neighbour") ++ text_line (codes "name") e.name
    ++ number_line (codes "port") e.port ++ number_line (codes "rate") e.rate)
unfolding neighbour_fields key_text
neighbour-lines path shallow profile e is =
    let rate = rate-within profile e.rate is.rate in
    and (and (and
    (headed path (codes "neighbour") refl shallow)
    (worded (codes "name") e.name refl (name-word profile e is)))
    (numbered (codes "port") e.port refl (omega (arith, is.port.1))))
    (numbered (codes "rate") e.rate refl (omega (arith, rate.1)))

-- the names at places are words
abbrev pub AreNamesWords : List SystemRow → Type 0
AreNamesWords systems = (i : ℕ) → i < length systems → IsWord (name_at systems i)

pub names-words : (profile : ℕ) (systems : List SystemRow)
    → AllByRecursion (IsSystem profile) systems → AreNamesWords systems
unfolding name_at
names-words profile systems are i within =
    let (s, at) = slice_get-within systems i within in
    rw at (name-word profile s (AllByRecursion-slice_get (IsSystem profile) systems i s are at))

places-words : (systems : List SystemRow) → AreNamesWords systems → (to : List ℕ)
    → AllByRecursion (λ i. i < length systems) to
    → AreWords (map (name_at systems) to)
places-words systems words [] within = tt
places-words systems words (i ∷ to) within = (words i within.0, places-words systems words to within.1)

class-word : (p : Priority) → IsWord (class_word p)
class-word High = refl
class-word Low = refl

policing-word : (p : Policing) → IsWord (policing_word p)
policing-word Byte = refl
policing-word Frame = refl

kind-word : (k : Kind) → IsWord (kind_word k)
kind-word Sampling = refl
kind-word Queuing = refl

module _ (systems : List SystemRow) (words : AreNamesWords systems) (l : LinkRow)
    (is : IsLinkUpTo jitter_from_any (length systems) l) where
  way-lines : AreLines (field_lines (way_fields systems l)) (way_text systems l)
  unfolding key_text
  way-lines =
      and (and
      (numbered (codes "vl") l.vl refl (omega (arith, is.vl.1)))
      (worded (codes "from") (name_at systems l.from) refl (words l.from is.from)))
      (several (codes "to") (map (name_at systems) l.to) refl (places-words systems words l.to is.to))

  traffic-lines : AreLines (field_lines (traffic_fields l)) (traffic_text l)
  unfolding key_text
  traffic-lines =
      let bag = bag-within l.bag_ms is.bag_ms in
      let most = is.jitter_us.1 in
      and (and (and
      (numbered (codes "bag_ms") l.bag_ms refl (omega (arith, bag.1)))
      (numbered (codes "lmin") l.lmin refl (omega (arith, is.lmin.1))))
      (numbered (codes "lmax") l.lmax refl (omega (arith, is.lmax.1))))
      (numbered (codes "jitter_us") l.jitter_us refl (omega (arith, bag.1, most)))

  treatment-lines : AreLines (field_lines (treatment_fields l)) (treatment_text l)
  unfolding key_text
  treatment-lines =
      and (and (and (and
      (worded (codes "priority") (class_word l.priority) refl (class-word l.priority))
      (worded (codes "policing") (policing_word l.policing) refl (policing-word l.policing)))
      (numbered (codes "latency_us") l.latency_us refl (omega (arith, is.latency_us.1))))
      (numbered (codes "skew_us") l.skew_us refl (omega (arith, is.skew_us.1))))
      (numbered (codes "subs") l.subs refl (omega (arith, is.subs.1)))

  pub link-lines : (path : List (List ℕ)) → length path < 80
      → AreLines (table_lines path (codes "link") (link_fields systems l)) (link_text (path_text path) systems l)
  unfolding link_text link_fields key_text
  link-lines path shallow =
      and (and (and (headed path (codes "link") refl shallow) way-lines) traffic-lines) treatment-lines

pub port-lines : (path : List (List ℕ)) → length path < 80 → (systems : List SystemRow) (links : List LinkRow)
    (p : PortRow) → AreNamesWords systems
    → AllByRecursion (IsLinkUpTo jitter_from_any (length systems)) links → IsPort (length systems) links p
    → AreLines (table_lines path (codes "port") (port_fields systems p)) (port_text (path_text path) systems p)
unfolding port_text port_fields key_text
port-lines path shallow systems links p words are is =
    let link = identifier-within (length systems) links p.link p.system are is.link in
    and (and (and (and (and
    (headed path (codes "port") refl shallow)
    (worded (codes "system") (name_at systems p.system) refl (words p.system is.system)))
    (numbered (codes "link") p.link refl (omega (arith, link.1))))
    (numbered (codes "udp") p.udp refl (omega (arith, is.udp.1))))
    (worded (codes "kind") (kind_word p.kind) refl (kind-word p.kind)))
    (numbered (codes "depth") p.depth refl (depth-small p.kind p.depth is.depth))
  where
    depth-small : (k : Kind) (n : ℕ) → IsWithin 1 (deepest k) n → IsSmall n
    depth-small Sampling n within = omega (arith, within.1)
    depth-small Queuing n within = omega (arith, within.1)

-- the lines of some rows
pub all-lines : {R : Type 0} (path : List (List ℕ)) (k : List ℕ) (fields : R → Fields) (text : R → List ℕ)
    (rows : List R) (P : R → Type 0)
    → AllByRecursion P rows → ((r : R) → P r → AreLines (table_lines path k (fields r)) (text r))
    → AreLines (rows_lines path k fields rows) (flat_map text rows)
all-lines path k fields text [] P are lines_of = no-lines
all-lines path k fields text (r ∷ rows) P are lines_of =
    and (lines_of r are.0) (all-lines path k fields text rows P are.1 lines_of)

-- the tables of a switch, of which the neighbours are written in this text
pub parts-lines : (path : List (List ℕ)) → length path < 80 → (profile : ℕ) (t : Parts) (neighbours : List ℕ)
    → AllByRecursion (IsSystem profile) t.ends → AllByRecursion (IsSystem profile) t.systems
    → AllByRecursion (IsLinkUpTo jitter_from_any (length t.ends)) t.links
    → AllByRecursion (IsPort (length t.ends) t.links) t.ports
    → AreLines (rows_lines path (codes "neighbour") neighbour_fields t.neighbours) neighbours
    → AreLines (parts_lines path t)
    (flat_map (system_text (path_text path)) t.systems ++ (neighbours
    ++ (flat_map (link_text (path_text path) t.ends) t.links ++ flat_map (port_text (path_text path) t.ends) t.ports)))
parts-lines path shallow profile t neighbours ends systems links ports written =
    let words = names-words profile t.ends ends in
    and (all-lines path (codes "system") system_fields (system_text (path_text path)) t.systems
    (IsSystem profile) systems (system-lines path shallow profile))
    (and written
    (and (all-lines path (codes "link") (link_fields t.ends) (link_text (path_text path) t.ends) t.links
    (IsLinkUpTo jitter_from_any (length t.ends)) links (λ l is. link-lines t.ends words l is path shallow))
    (all-lines path (codes "port") (port_fields t.ends) (port_text (path_text path) t.ends) t.ports
    (IsPort (length t.ends) t.links) ports (λ p is. port-lines path shallow t.ends t.links p words links is))))

-- the text has just these lines, from its start
pub record AreAllLines (es : List Expression) (text : List ℕ) : Type 0 where
  pub lines : IsLinesText false false es text
  pub printed : AllPrinted es

-- a first line, and others
pub all-from : (e : Expression) (es : List Expression) (this text : List ℕ)
    → IsLineText false false e.0 e.1 this → IsPrinted e.0 e.1 → AreLines es text → AreAllLines (e ∷ es) (this ++ text)
all-from e es this text line printed more =
    record { lines = (this, text, refl, line, more.lines); printed = (printed, more.printed) }

pub config-lines : (t : Rows) → IsLawful t
    → AreAllLines (field_lines (top_fields t) ++ parts_lines [] (alone t)) (config_text t)
unfolding top_fields key_text
config-lines t lawful =
    let is : IsLawfulSwitch t = among_others t lawful in
    let profile = line-number (codes "profile") t.profile refl (omega (arith, lawful.profile.1)) in
    let buffer = numbered (codes "buffer") t.buffer refl (omega (arith, lawful.buffer.1)) in
    let parts = parts-lines [] (omega arith) t.profile (alone t) [] is.systems.each is.systems.each is.links.each
    is.ports.each no-lines in
    let rest = and buffer parts in
    record {
      lines = (number_line (codes "profile") t.profile, _, simp append_assoc refl, profile, rest.lines);
      printed = ((refl, omega arith, refl), rest.printed);
    }
