-- The line of a frame that is sent to one of several switches, read as a line of a list that names them.
use Rattle.std.proofs.Common.{◌≡◌, ℕ, ◌-◌, ◌^◌, ◌<◌, ◌≤◌, ◌==◌, Bool, false, List, [], ◌∷◌, ◌++◌, length}
use Rattle.std.proofs.Common.{Option, Some, None, Ok, refl, ap, ◌∙◌, arith, if◌then◌else◌}
use Rattle.std.proofs.lemmas.List.Splits.{slice_split_at, slice_split_none}
use Rattle.std.specs.Fmt.{decimal}
use Rattle.std.specs.List.{slice_index}
use Rattle.std.specs.Str.Lines.{strip_carriage_return}
use Rattle.hex.specs.Hex.{encode_lower, lower_digits}
use Rattle.hex.proofs.HexLemmas.{length-encode_with}
use Rattle.afdx_frame.specs.Times.{latest_listed}
use Rattle.afdx_frame.specs.declared.link.Side.{Side}
use Rattle.afdx_frame.specs.declared.link.Side.TheVariants.{A, B}
use Rattle.afdx_input_lines.specs.Splitting.{between_spaces, number_of}
use Rattle.afdx_input_lines.specs.Fields.{bytes_of_digits, fault_or}
use Rattle.afdx_input_lines.specs.Forms.{from_six, six_of, said_with}
use Rattle.afdx_input_lines.specs.FrameLines.{kind_of, side_of, frame_bytes}
use Rattle.afdx_input_lines.specs.SitedLines.{NamedCables, SitedFields, SitedFrame, cable_fault, is_cable_at, place_named}
use Rattle.afdx_input_lines.specs.SitedLines.{sited_fault, sited_fields, sited_fields_from, sited_fields_with, sited_form}
use Rattle.afdx_input_lines.specs.SitedLines.{sited_line_says}
use Rattle.afdx_input_lines.specs.declared.fault.LineFault.{LineFault}
use Rattle.afdx_input_lines.specs.declared.fault.LineFault.TheVariants.{BadPort}
use Rattle.afdx_input_lines.proofs.FormLemmas.{says_item}
use Rattle.afdx_port.proofs.TurnLemmas.{eqb-other}
use Rattle.afdx_text.specs.OutLines.{place_text, side_text}
use Rattle.afdx_law_text.proofs.SentLineLemmas.{AreOfFrame, AtLeast, bytes-back, decimal-least, digits-are, index-least}
use Rattle.afdx_law_text.proofs.SentLineLemmas.{line-least, line_of, lower-least, no-fault, none-below, number-decimal}
use Rattle.afdx_law_text.proofs.SentLineLemmas.{side-least}
use Rattle.afdx_law_text.proofs.SendLineLemmas.{place-least}

-- the frame that such a line says
abbrev pub frame_at : ℕ → ℕ → Side → ℕ → List ℕ → SitedFrame
frame_at k time side port bytes =
    record { switch = k; frame = record { time = time; side = side; port = port; bytes = bytes } }

-- what its fields are once the numbers are read: those of raw bytes
record Reads (k : ℕ) (side : Side) (time port : ℕ) (digits bytes : List ℕ) (sites : List NamedCables) : Type 0 where
  fields : SitedFields
  are : from_six sited_fields_with (kind_of (82 ∷ [])) (Some time) (side_of (side_text side)) (Some k)
      (Some port) digits ≡ Some fields
  switch_is : fields.switch ≡ k
  time_is : fields.frame.time ≡ time
  port_is : fields.frame.port ≡ port
  digits_are : fields.frame.digits ≡ digits
  frame : said_with (sited_form sites) fields (Some bytes) ≡ Ok (Some (frame_at k time side port bytes))

reads : (k : ℕ) (side : Side) (time port : ℕ) (digits bytes : List ℕ) (sites : List NamedCables) → 0 < length digits
    → Reads k side time port digits bytes sites
unfolding frame_bytes
reads k A time port [] bytes sites some = absurd (omega (arith, some))
reads k B time port [] bytes sites some = absurd (omega (arith, some))
reads k A time port (d ∷ digits) bytes sites some = record {
  fields = _;
  are = refl;
  switch_is = refl;
  time_is = refl;
  port_is = refl;
  digits_are = refl;
  frame = refl;
}
reads k B time port (d ∷ digits) bytes sites some = record {
  fields = _;
  are = refl;
  switch_is = refl;
  time_is = refl;
  port_is = refl;
  digits_are = refl;
  frame = refl;
}

place-parts : (side : Side) (c : ℕ) (name rest : List ℕ)
    → place_text side (c ∷ name) ++ rest ≡ side_text side ++ 32 ∷ ((c ∷ name) ++ rest)
place-parts A c name rest = refl
place-parts B c name rest = refl

module _ (sites : List NamedCables) (k c : ℕ) (name : List ℕ) (found : place_named sites (c ∷ name) ≡ Some k)
    (letters : AtLeast 48 (c ∷ name)) (side : Side) (port time : ℕ) (bytes : List ℕ) (one : 1 ≤ port) (most : port ≤ 24)
    (early : time ≤ latest_listed) (frame : AreOfFrame bytes) (free : is_cable_at sites k port ≡ false) where
  abbrev digits : List ℕ
  digits = encode_lower bytes

  abbrev line : List ℕ
  line = line_of (place_text side (c ∷ name)) port time digits

  time_fits : time < 2 ^ 64
  time_fits = omega (arith, early)

  port_fits : port < 2 ^ 64
  port_fits = omega (arith, most)

  place_least : AtLeast 32 (place_text side (c ∷ name))
  place_least = place-least side (c ∷ name) (lower-least 32 48 (c ∷ name) (omega arith) letters)

  no-return : line ≡ strip_carriage_return line
  no-return = rw (eqb-other (slice_index line (length line - 1)) 13
      (λ e. (let k = index-least 32 (length line - 1) line (omega arith)
      (line-least (place_text side (c ∷ name)) port time bytes place_least most early frame) in
      absurd (omega (arith, e, k))))) refl

  parts : between_spaces line
      ≡ (82 ∷ []) ∷ decimal time ∷ side_text side ∷ (c ∷ name) ∷ decimal port ∷ digits ∷ []
  parts =
      let p : ℕ → Bool = λ byte. byte == 32 in
      let rest_port = decimal port ++ 32 ∷ digits in
      let rest_name = (c ∷ name) ++ 32 ∷ rest_port in
      let rest_side = side_text side ++ 32 ∷ rest_name in
      let rest_time = decimal time ++ 32 ∷ rest_side in
      let last = slice_split_none p digits (none-below 48 32 digits (omega arith) (digits-are bytes frame)) in
      let at_port = slice_split_at p (decimal port) 32 digits
      (none-below 48 32 (decimal port) (omega arith) (decimal-least port port_fits)) refl
      ∙ ap (λ (z : List (List ℕ)). decimal port ∷ z) last in
      let at_name = slice_split_at p (c ∷ name) 32 rest_port
      (none-below 48 32 (c ∷ name) (omega arith) letters) refl
      ∙ ap (λ (z : List (List ℕ)). (c ∷ name) ∷ z) at_port in
      let at_side = slice_split_at p (side_text side) 32 rest_name
      (none-below 48 32 (side_text side) (omega arith) (side-least side)) refl
      ∙ ap (λ (z : List (List ℕ)). side_text side ∷ z) at_name in
      let at_time = slice_split_at p (decimal time) 32 rest_side
      (none-below 48 32 (decimal time) (omega arith) (decimal-least time time_fits)) refl
      ∙ ap (λ (z : List (List ℕ)). decimal time ∷ z) at_side in
      ap (λ (z : List ℕ). between_spaces (82 ∷ 32 ∷ (decimal time ++ 32 ∷ z)))
      (place-parts side c name (32 ∷ rest_port))
      ∙ slice_split_at p (82 ∷ []) 32 rest_time
      (none-below 48 32 (82 ∷ []) (omega arith) (omega arith, tt)) refl
      ∙ ap (λ (z : List (List ℕ)). (82 ∷ []) ∷ z) at_time

  some_digits : 0 < length digits
  some_digits = let n = length-encode_with lower_digits bytes in let k = frame.least in omega (arith, n, k)

  r : Reads k side time port digits bytes sites
  r = reads k side time port digits bytes sites some_digits

  fields-are : sited_fields sites line ≡ Some r.fields
  unfolding sited_fields
  fields-are =
      ap (six_of (sited_fields_from sites)) parts
      ∙ ap (λ t. from_six sited_fields_with (kind_of (82 ∷ [])) t (side_of (side_text side))
      (place_named sites (c ∷ name)) (number_of (decimal port)) digits) (number-decimal time time_fits)
      ∙ ap (λ q. from_six sited_fields_with (kind_of (82 ∷ [])) (Some time) (side_of (side_text side)) q
      (number_of (decimal port)) digits) found
      ∙ ap (λ n. from_six sited_fields_with (kind_of (82 ∷ [])) (Some time) (side_of (side_text side)) (Some k) n
      digits)
      (number-decimal port port_fits) ∙ r.are

  no_fault : sited_fault sites r.fields.switch r.fields.frame.time r.fields.frame.port 0 ≡ None
  no_fault =
      ap (λ n. sited_fault sites n r.fields.frame.time r.fields.frame.port 0) r.switch_is
      ∙ ap (λ n. sited_fault sites k n r.fields.frame.port 0) r.time_is
      ∙ ap (λ n. sited_fault sites k time n 0) r.port_is
      ∙ ap (λ (o : Option LineFault). fault_or o (cable_fault sites k port)) (no-fault time port 0 one most early
      (omega arith))
      ∙ ap (λ b. if b then Some BadPort else None) free

  pub sited-says : sited_line_says sites 0 line ≡ Ok (Some (frame_at k time side port bytes))
  unfolding sited_line_says
  sited-says =
      says_item (sited_form sites) 0 line line no-return refl r.fields fields-are no_fault
      ∙ ap (said_with (sited_form sites) r.fields)
      (ap bytes_of_digits r.digits_are ∙ bytes-back bytes frame.are_bytes frame.least) ∙ r.frame
