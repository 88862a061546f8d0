-- What a line says, whatever list it stands in: it has five or six fields, and the last is bytes.
use Rattle.std.specs.Prelude.{ℕ, List, [], ◌∷◌, Option, Some, None, Result, Ok, Err, if◌then◌else◌}
use Rattle.std.specs.Str.Lines.{strip_carriage_return}
use Rattle.afdx_input_lines.specs.Fields.{bytes_of_digits, holds_space, is_skipped}
use Rattle.afdx_input_lines.specs.declared.fault.LineFault.{LineFault}
use Rattle.afdx_input_lines.specs.declared.fault.LineFault.TheVariants.{BadLine, BadHex}

-- what is made of five fields, where each could be read and the last one has a byte
abbrev pub from_five : {A B C D F : Type 0} → (A → B → C → D → List ℕ → F) →
    Option A → Option B → Option C → Option D → List ℕ → Option F
from_five make (Some a) (Some b) (Some c) (Some d) (digit ∷ digits) =
    Some (make a b c d (digit ∷ digits))
from_five make _ _ _ _ _ = None

-- and what is made of six
abbrev pub from_six : {A B C D E F : Type 0} → (A → B → C → D → E → List ℕ → F) →
    Option A → Option B → Option C → Option D → Option E → List ℕ → Option F
from_six make (Some a) (Some b) (Some c) (Some d) (Some e) (digit ∷ digits) =
    Some (make a b c d e (digit ∷ digits))
from_six make _ _ _ _ _ _ = None

-- what is read of these parts, if there are five
abbrev pub five_of : {F : Type 0} → (List ℕ → List ℕ → List ℕ → List ℕ → List ℕ → Option F) →
    List (List ℕ) → Option F
five_of read (a ∷ b ∷ c ∷ d ∷ digits ∷ []) = read a b c d digits
five_of read _ = None

-- and if there are six
abbrev pub six_of : {F : Type 0} →
    (List ℕ → List ℕ → List ℕ → List ℕ → List ℕ → List ℕ → Option F) →
    List (List ℕ) → Option F
six_of read (a ∷ b ∷ c ∷ d ∷ e ∷ digits ∷ []) = read a b c d e digits
six_of read _ = None

-- the form of a list's lines: the fields of a text, the digits among them, the first false check of
-- the other fields after a line of the latest time, and what is said with the bytes of the digits
pub record Form (F Y : Type 0) : Type 0 where
  pub fields : List ℕ → Option F
  pub digits : F → List ℕ
  pub fault : ℕ → F → Option LineFault
  pub item : F → List ℕ → Y

module _ {F Y : Type 0} (form : Form F Y) where
  -- fields of a text that has no more of them: the last one holds no space
  abbrev pub if_no_more : Option F → Option F
  if_no_more None = None
  if_no_more (Some fields) = if holds_space (form.digits fields) then None else Some fields

  -- what fields say whose digits write these bytes, if any
  abbrev pub said_with : F → Option (List ℕ) → Result (Option Y) LineFault
  said_with fields (Some bytes) = Ok (Some (form.item fields bytes))
  said_with fields None = Err BadHex

  -- what fields say of which the others than the digits have this fault
  abbrev pub fields_say_with : F → Option LineFault → Result (Option Y) LineFault
  fields_say_with fields (Some fault) = Err fault
  fields_say_with fields None = said_with fields (bytes_of_digits (form.digits fields))

  -- what fields say after a line of the latest time
  abbrev pub fields_say : ℕ → Option F → Result (Option Y) LineFault
  fields_say latest None = Err BadLine
  fields_say latest (Some fields) = fields_say_with fields (form.fault latest fields)

  -- what a line says that comes after one of the latest time: an item, or nothing, or why it can't
  -- be read
  abbrev pub said_by : ℕ → List ℕ → Result (Option Y) LineFault
  said_by latest line =
      let text = strip_carriage_return line in
      if is_skipped text then Ok None else fields_say latest (form.fields text)
