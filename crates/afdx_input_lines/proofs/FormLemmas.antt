-- What a line says, whatever list it stands in. The last of its fields isn't searched for a space.
use Rattle.std.proofs.Common.{◌≡◌, ℕ, List, [], ◌∷◌, Bool, cond, true, false, refl, ap}
use Rattle.std.proofs.Common.{sym, ◌∙◌, Option, Some, None, Ok, Err}
use Rattle.std.specs.Option.{option_map}
use Rattle.std.specs.Str.Lines.{strip_carriage_return}
use Rattle.afdx_input_lines.specs.declared.fault.LineFault.{LineFault}
use Rattle.afdx_input_lines.specs.declared.fault.LineFault.TheVariants.{BadLine}
use Rattle.afdx_input_lines.specs.declared.fault.LineError.{LineError}
use Rattle.afdx_input_lines.specs.declared.fault.LineError.TheVariants.{Fault, Memory}
use Rattle.afdx_input_lines.specs.Faults.{IsErrorOf, IsBytesError, NeedsRoom}
use Rattle.afdx_input_lines.specs.Splitting.{between_spaces}
use Rattle.afdx_input_lines.specs.Fields.{holds_space, is_skipped, bytes_of_digits}
use Rattle.afdx_input_lines.specs.Forms.{Form, from_five, five_of, from_six, six_of, if_no_more}
use Rattle.afdx_input_lines.specs.Forms.{said_with, fields_say_with}
use Rattle.afdx_input_lines.specs.Forms.{fields_say, said_by}
use Rattle.afdx_input_lines.proofs.SpaceLemmas.{one_part, more_parts, none_either, first_of, none_of}

-- ---- five fields

module _ {A B C D F Y : Type 0} (form : Form F Y) (make : A → B → C → D → List ℕ → F)
    (are_digits : (a : A) (b : B) (c : C) (d : D) (digits : List ℕ) → form.digits (make a b c d digits) ≡ digits) where
  if_five-from : (a : Option A) (b : Option B) (c : Option C) (d : Option D) (digits : List ℕ) →
      if_no_more form (from_five make a b c d digits)
      ≡ cond (holds_space digits) None (from_five make a b c d digits)
  if_five-from None b c d digits = none_either (holds_space digits)
  if_five-from (Some a) None c d digits = none_either (holds_space digits)
  if_five-from (Some a) (Some b) None d digits = none_either (holds_space digits)
  if_five-from (Some a) (Some b) (Some c) None digits = none_either (holds_space digits)
  if_five-from (Some a) (Some b) (Some c) (Some d) [] = none_either (holds_space [])
  if_five-from (Some a) (Some b) (Some c) (Some d) (digit ∷ digits) = rw (are_digits a b c d (digit ∷ digits)) refl

  -- the fields before the fourth space, and what stands behind it
  pub five_fields : (read : List ℕ → List ℕ → List ℕ → List ℕ → List ℕ → Option F) (cut : F → F)
      (p q r s digits : List ℕ) (a : Option A) (b : Option B) (c : Option C) (d : Option D) →
      from_five make a b c d digits ≡ option_map cut (read p q r s digits) →
      if_no_more form (from_five make a b c d digits)
      ≡ option_map cut (five_of read (p ∷ q ∷ r ∷ s ∷ between_spaces digits))
  five_fields read cut p q r s digits a b c d same = if_five-from a b c d digits ∙ by (holds_space digits) refl
    where
      by : (x : Bool) → holds_space digits ≡ x → cond x None (from_five make a b c d digits)
          ≡ option_map cut (five_of read (p ∷ q ∷ r ∷ s ∷ between_spaces digits))
      by true e = rw (more_parts digits e).3 refl
      by false e = rw (one_part digits e) same

-- ---- six fields

module _ {A B C D E F Y : Type 0} (form : Form F Y) (make : A → B → C → D → E → List ℕ → F)
    (are_digits : (a : A) (b : B) (c : C) (d : D) (e : E) (digits : List ℕ)
    → form.digits (make a b c d e digits) ≡ digits) where
  if_six-from : (a : Option A) (b : Option B) (c : Option C) (d : Option D) (e : Option E) (digits : List ℕ) →
      if_no_more form (from_six make a b c d e digits)
      ≡ cond (holds_space digits) None (from_six make a b c d e digits)
  if_six-from None b c d e digits = none_either (holds_space digits)
  if_six-from (Some a) None c d e digits = none_either (holds_space digits)
  if_six-from (Some a) (Some b) None d e digits = none_either (holds_space digits)
  if_six-from (Some a) (Some b) (Some c) None e digits = none_either (holds_space digits)
  if_six-from (Some a) (Some b) (Some c) (Some d) None digits = none_either (holds_space digits)
  if_six-from (Some a) (Some b) (Some c) (Some d) (Some e) [] = none_either (holds_space [])
  if_six-from (Some a) (Some b) (Some c) (Some d) (Some e) (digit ∷ digits) =
      rw (are_digits a b c d e (digit ∷ digits)) refl

  -- the fields before the fifth space, and what stands behind it
  pub six_fields : (read : List ℕ → List ℕ → List ℕ → List ℕ → List ℕ → List ℕ → Option F) (cut : F → F)
      (p q r s t digits : List ℕ) (a : Option A) (b : Option B) (c : Option C) (d : Option D) (e : Option E) →
      from_six make a b c d e digits ≡ option_map cut (read p q r s t digits) →
      if_no_more form (from_six make a b c d e digits)
      ≡ option_map cut (six_of read (p ∷ q ∷ r ∷ s ∷ t ∷ between_spaces digits))
  six_fields read cut p q r s t digits a b c d e same = if_six-from a b c d e digits ∙ by (holds_space digits) refl
    where
      by : (x : Bool) → holds_space digits ≡ x → cond x None (from_six make a b c d e digits)
          ≡ option_map cut (six_of read (p ∷ q ∷ r ∷ s ∷ t ∷ between_spaces digits))
      by true h = rw (more_parts digits h).3 refl
      by false h = rw (one_part digits h) same

-- ---- what they say

-- Numbers are read as far as a machine holds them: of the fields that are cut so the same check is
-- false, and where none is, they are whole.
pub record IsCut {F Y : Type 0} (form : Form F Y) (cut : F → F) (latest : ℕ) : Type 0 where
  pub same_fault : (fields : F) → form.fault latest (cut fields) ≡ form.fault latest fields
  pub whole : (fields : F) → form.fault latest fields ≡ None → cut fields ≡ fields

module _ {F Y : Type 0} (form : Form F Y) (latest : ℕ) (line text : List ℕ)
    (is_text : text ≡ strip_carriage_return line) where
  pub says_nothing : is_skipped text ≡ true → said_by form latest line ≡ Ok None
  says_nothing h = rw (← is_text, h) refl

  module _ (some : is_skipped text ≡ false) where
    says_fields : (o : Option F) → form.fields text ≡ o → said_by form latest line ≡ fields_say form latest o
    says_fields o e = rw (← is_text, some) (ap (fields_say form latest) e)

    pub says_item : (fields : F) → form.fields text ≡ Some fields → form.fault latest fields ≡ None
        → said_by form latest line ≡ said_with form fields (bytes_of_digits (form.digits fields))
    says_item fields is sound = says_fields (Some fields) is ∙ ap (fields_say_with form fields) sound

    -- of fields that are cut
    module _ (cut : F → F) where
      none_from : (o : Option F) → None ≡ option_map cut o → o ≡ None
      none_from None h = refl
      none_from (Some fields) h = cc

      pub says_bad_line : None ≡ option_map cut (form.fields text) → said_by form latest line ≡ Err BadLine
      says_bad_line none = says_fields None (none_from (form.fields text) none)

      module _ (is_cut : IsCut form cut latest) (fields : F) where
        fault_from : (o : Option F) (fault : LineFault) → Some fields ≡ option_map cut o
            → Some fault ≡ form.fault latest fields → fields_say form latest o ≡ Err fault
        fault_from None fault same h = cc
        fault_from (Some whole) fault same h =
            let is : fields ≡ cut whole = cc in
            let found : Some fault ≡ form.fault latest whole =
            h ∙ ap (form.fault latest) is ∙ is_cut.same_fault whole in
            ap (fields_say_with form whole) (sym found)

        whole_from : (o : Option F) → Some fields ≡ option_map cut o → form.fault latest fields ≡ None → o ≡ Some fields
        whole_from None same sound = cc
        whole_from (Some whole) same sound =
            let is : fields ≡ cut whole = cc in
            let none = sym (ap (form.fault latest) is ∙ is_cut.same_fault whole) ∙ sound in
            ap Some (sym (is ∙ is_cut.whole whole none))

        -- an error of the fields, or a space behind the fourth one
        first_error : (error : LineError) → if_no_more form (Some fields) ≡ option_map cut (form.fields text)
            → (Some fields ≡ option_map cut (form.fields text) → IsErrorOf (said_by form latest line) error) →
            IsErrorOf (said_by form latest line) (cond (holds_space (form.digits fields)) (Fault BadLine) error)
        first_error error five is = by (holds_space (form.digits fields)) refl
          where
            by : (b : Bool) → holds_space (form.digits fields) ≡ b
                → IsErrorOf (said_by form latest line) (cond b (Fault BadLine) error)
            by true e = says_bad_line (none_of _ fields _ e five)
            by false e = is (first_of _ fields _ e five)

        pub says_first_fault : (fault : LineFault) → if_no_more form (Some fields) ≡ option_map cut (form.fields text)
            → Some fault ≡ form.fault latest fields →
            IsErrorOf (said_by form latest line) (cond (holds_space (form.digits fields)) (Fault BadLine) (Fault fault))
        says_first_fault fault five found = first_error (Fault fault) five
            (λ same. says_fields (form.fields text) refl ∙ fault_from (form.fields text) fault same found)

        pub says_whole : Some fields ≡ option_map cut (form.fields text) → form.fault latest fields ≡ None
            → said_by form latest line ≡ said_with form fields (bytes_of_digits (form.digits fields))
        says_whole same sound = says_item fields (whole_from (form.fields text) same sound) sound

        -- fields of which no check is false need room
        pub says_memory : Some fields ≡ option_map cut (form.fields text) → form.fault latest fields ≡ None
            → NeedsRoom (said_by form latest line)
        says_memory same sound = rw (says_whole same sound) (needs (bytes_of_digits (form.digits fields)))
          where
            needs : (o : Option (List ℕ)) → NeedsRoom (said_with form fields o)
            needs (Some bytes) = tt
            needs None = refl

        -- what stands behind the fourth space isn't digits, or finds no room
        pub says_bytes_error : (error : LineError) → if_no_more form (Some fields) ≡ option_map cut (form.fields text)
            → form.fault latest fields ≡ None → IsBytesError (bytes_of_digits (form.digits fields)) error →
            IsErrorOf (said_by form latest line) (cond (holds_space (form.digits fields)) (Fault BadLine) error)
        says_bytes_error error five sound is = first_error error five (by error is)
          where
            by : (error : LineError) → IsBytesError (bytes_of_digits (form.digits fields)) error →
                Some fields ≡ option_map cut (form.fields text) → IsErrorOf (said_by form latest line) error
            by (Fault fault) is same =
                says_whole same sound ∙ ap (said_with form fields) is.0 ∙ ap Err (sym is.1)
            by Memory is same = says_memory same sound

-- ---- what was said

-- an item is that of a line's fields, of which no check is false
pub record Says {F Y : Type 0} (form : Form F Y) (latest : ℕ) (line : List ℕ) (y : Y) : Type 0 where
  pub fields : F
  pub are : form.fields (strip_carriage_return line) ≡ Some fields
  pub sound : form.fault latest fields ≡ None
  pub bytes : List ℕ
  pub of_digits : bytes_of_digits (form.digits fields) ≡ Some bytes
  pub is : form.item fields bytes ≡ y

module _ {F Y : Type 0} (form : Form F Y) where
  pub says-from : (latest : ℕ) (line : List ℕ) (y : Y) → said_by form latest line ≡ Ok (Some y)
      → Says form latest line y
  says-from latest line y h = by (is_skipped (strip_carriage_return line)) h
    where
      with_bytes : (fields : F) → form.fields (strip_carriage_return line) ≡ Some fields
          → form.fault latest fields ≡ None → (o : Option (List ℕ)) → bytes_of_digits (form.digits fields) ≡ o
          → said_with form fields o ≡ Ok (Some y) → Says form latest line y
      with_bytes fields are sound None e k = absurd (cc k)
      with_bytes fields are sound (Some bytes) e k = record {
        fields = fields;
        are = are;
        sound = sound;
        bytes = bytes;
        of_digits = e;
        is = cc k;
      }

      with_fault : (fields : F) → form.fields (strip_carriage_return line) ≡ Some fields → (o : Option LineFault)
          → form.fault latest fields ≡ o → fields_say_with form fields o ≡ Ok (Some y) → Says form latest line y
      with_fault fields are (Some fault) e k = absurd (cc k)
      with_fault fields are None e k = with_bytes fields are e (bytes_of_digits (form.digits fields)) refl k

      with_fields : (o : Option F) → form.fields (strip_carriage_return line) ≡ o
          → fields_say form latest o ≡ Ok (Some y) → Says form latest line y
      with_fields None e k = absurd (cc k)
      with_fields (Some fields) e k = with_fault fields e (form.fault latest fields) refl k

      by : (b : Bool) → cond b (Ok None) (fields_say form latest (form.fields (strip_carriage_return line)))
          ≡ Ok (Some y) → Says form latest line y
      by true k = absurd (cc k)
      by false k = with_fields (form.fields (strip_carriage_return line)) refl k

  -- what a line says after others it says alone
  pub says-alone : ((latest : ℕ) (fields : F) → form.fault latest fields ≡ None → form.fault 0 fields ≡ None)
      → (latest : ℕ) (line : List ℕ) (o : Option Y) → said_by form latest line ≡ Ok o → said_by form 0 line ≡ Ok o
  says-alone alone latest line o h = by (is_skipped (strip_carriage_return line)) h
    where
      with_fault : (fields : F) (fault : Option LineFault) → form.fault latest fields ≡ fault
          → fields_say_with form fields fault ≡ Ok o → fields_say form 0 (Some fields) ≡ Ok o
      with_fault fields (Some fault) e k = absurd (cc k)
      with_fault fields None e k = ap (fields_say_with form fields) (alone latest fields e) ∙ k

      with_fields : (found : Option F) → fields_say form latest found ≡ Ok o → fields_say form 0 found ≡ Ok o
      with_fields None k = k
      with_fields (Some fields) k = with_fault fields (form.fault latest fields) refl k

      by : (b : Bool) → cond b (Ok None) (fields_say form latest (form.fields (strip_carriage_return line))) ≡ Ok o
          → cond b (Ok None) (fields_say form 0 (form.fields (strip_carriage_return line))) ≡ Ok o
      by true k = k
      by false k = with_fields (form.fields (strip_carriage_return line)) k
