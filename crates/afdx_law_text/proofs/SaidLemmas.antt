-- What a line of a submission list can say, and what its line number can be.
use Rattle.std.proofs.Common.{◌≡◌, ℕ, zero, suc, ◌<◌, ◌≤◌, Bool, true, false, if◌then◌else◌, List}
use Rattle.std.proofs.Common.{[], ◌∷◌, Option, Some, None, refl, ap, subst, ◌∙◌, arith, nat_lt}
use Rattle.std.proofs.Common.{nat_le, slice_index_or}
use Rattle.std.specs.Prelude.{Result, Ok, Err}
use Rattle.std.specs.List.{AllByRecursion}
use Rattle.std.specs.Str.{bytes_eq}
use Rattle.std.specs.Str.Lines.{strip_carriage_return}
use Rattle.std.proofs.lemmas.Bool.Decides.{nat_tests}
use Rattle.hex.specs.Hex.{decode_of}
use Rattle.hex.specs.declared.error.FromHexError.{FromHexError}
use Rattle.hex.proofs.HexLemmas.{decode_of-ok}
use Rattle.afdx_frame.specs.Sealing.{AreBytes}
use Rattle.afdx_input_lines.specs.Splitting.{number_of, between_spaces}
use Rattle.afdx_input_lines.specs.Fields.{bytes_of_digits, ok_of}
use Rattle.afdx_input_lines.specs.Forms.{from_five, five_of}
use Rattle.afdx_input_lines.specs.SubmissionLines.{Submission, SubmissionFields, at_most, submission_fields}
use Rattle.afdx_input_lines.specs.SubmissionLines.{submission_fields_with, submission_fields_from}
use Rattle.afdx_input_lines.specs.SubmissionLines.{submission_form, submission_said}
use Rattle.afdx_input_lines.proofs.FormLemmas.{says-from}
use Rattle.afdx_input_lines.specs.declared.fault.LineFault.{LineFault}
use Rattle.afdx_input_lines.specs.Lines.{most_lines}
use Rattle.afdx_input_sources.specs.Lists.{with_item, item_said, items_of, fault_in, HaveNoFault}
use Rattle.afdx_input_sources.specs.Listed.{Handed, submissions}

-- ---- bytes and UDP ports

digits-bytes : (digits bytes : List ℕ) → bytes_of_digits digits ≡ Some bytes → AreBytes bytes
unfolding bytes_of_digits
digits-bytes digits bytes h = by (bytes_eq digits (45 ∷ [])) h
  where
    of_digits : (r : Result (List ℕ) FromHexError) → decode_of digits ≡ r → ok_of r ≡ Some bytes → AreBytes bytes
    of_digits (Ok b) e k = (let same : b ≡ bytes = cc k in (decode_of-ok digits bytes (e ∙ ap (λ z. Ok z) same)).3)
    of_digits (Err f) e k = absurd (cc k)

    by : (b : Bool) → (if b then Some [] else ok_of (decode_of digits)) ≡ Some bytes → AreBytes bytes
    by true k = (let none : [] ≡ bytes = cc k in subst (λ (z : List ℕ). AreBytes z) none (λ i. omega arith))
    by false k = of_digits (decode_of digits) refl k

within : (limit n : ℕ) (o : Option ℕ) → at_most limit o ≡ Some n → n ≤ limit
within limit n None h = absurd (cc h)
within limit n (Some m) h = by (nat_lt limit m) refl h
  where
    by : (b : Bool) → nat_lt limit m ≡ b → (if b then None else Some m) ≡ Some n → n ≤ limit
    by true e k = absurd (cc k)
    by false e k = (let same : m ≡ n = cc k in let le : m ≤ limit = grind (arith, nat_tests, e) in
        omega (arith, same, le))

udp-of : (time vl sub udp : Option ℕ) (digits : List ℕ) (fields : SubmissionFields)
    → from_five submission_fields_with time vl sub udp digits ≡ Some fields → udp ≡ Some fields.udp
udp-of (Some time) (Some vl) (Some sub) (Some udp) (digit ∷ digits) fields h =
    (let same : record { time = time; vl = vl; sub = sub; udp = udp; digits = digit ∷ digits }
    ≡ fields = cc h in ap (λ (f : SubmissionFields). Some f.udp) same)
udp-of (Some time) (Some vl) (Some sub) (Some udp) [] fields h = absurd (cc h)
udp-of (Some time) (Some vl) (Some sub) None digits fields h = absurd (cc h)
udp-of (Some time) (Some vl) None udp digits fields h = absurd (cc h)
udp-of (Some time) None sub udp digits fields h = absurd (cc h)
udp-of None vl sub udp digits fields h = absurd (cc h)

udp-of-parts : (parts : List (List ℕ)) (fields : SubmissionFields)
    → five_of submission_fields_from parts ≡ Some fields → fields.udp ≤ 65535
udp-of-parts [] fields h = absurd (cc h)
udp-of-parts (time ∷ []) fields h = absurd (cc h)
udp-of-parts (time ∷ vl ∷ []) fields h = absurd (cc h)
udp-of-parts (time ∷ vl ∷ sub ∷ []) fields h = absurd (cc h)
udp-of-parts (time ∷ vl ∷ sub ∷ udp ∷ []) fields h = absurd (cc h)
udp-of-parts (time ∷ vl ∷ sub ∷ udp ∷ digits ∷ []) fields h =
    within 65535 fields.udp (number_of udp)
    (udp-of (number_of time) (at_most 65535 (number_of vl)) (at_most 255 (number_of sub))
    (at_most 65535 (number_of udp)) digits fields h)
udp-of-parts (time ∷ vl ∷ sub ∷ udp ∷ digits ∷ more ∷ rest) fields h = absurd (cc h)

udp-of-fields : (text : List ℕ) (fields : SubmissionFields) → submission_fields text ≡ Some fields → fields.udp ≤ 65535
unfolding submission_fields
udp-of-fields text fields h = udp-of-parts (between_spaces text) fields h

-- what a list of submissions hands over on one of its first n lines
pub record IsSaid (n : ℕ) (x : Handed) : Type 0 where
  pub line : x.line ≤ n
  pub bytes : AreBytes x.submission.payload
  pub udp : x.submission.udp ≤ 65535

record IsInRange (x : Submission) : Type 0 where
  bytes : AreBytes x.payload
  udp : x.udp ≤ 65535

said-in-range : (latest : ℕ) (line : List ℕ) (x : Submission) → submission_said latest line ≡ Ok (Some x) → IsInRange x
unfolding submission_said
said-in-range latest line x h =
    let s = says-from submission_form latest line x h in
    subst (λ (z : Submission). IsInRange z) s.is (record {
      bytes = digits-bytes s.fields.digits s.bytes s.of_digits;
      udp = udp-of-fields (strip_carriage_return line) s.fields s.are;
    })

-- ---- the items of a list

said-upto : (most : ℕ) (list : List (List ℕ)) (n : ℕ) → n ≤ most
    → AllByRecursion (IsSaid most) (items_of submissions list n)
unfolding items_of
said-upto most list zero le = tt
said-upto most list (suc n) le = by (item_said submissions list n) refl (said-upto most list n (omega (arith, le)))
  where
    by : (r : Result (Option Submission) LineFault) → item_said submissions list n ≡ r
        → AllByRecursion (IsSaid most) (items_of submissions list n) →
        AllByRecursion (IsSaid most) (with_item submissions (suc n) r (items_of submissions list n))
    by (Ok (Some x)) e rest =
        (let range = said-in-range _ (slice_index_or list n []) x e in
        (record { line = le; bytes = range.bytes; udp = range.udp }, rest))
    by (Ok None) e rest = rest
    by (Err fault) e rest = rest

-- a list without fault has at most a million lines
few-lines : (list : List (List ℕ)) (n : ℕ) → HaveNoFault submissions list n → n ≤ most_lines
few-lines list zero sound = omega arith
few-lines list (suc n) sound = by (nat_le most_lines n) refl (sound n (omega arith))
  where
    by : (b : Bool) → nat_le most_lines n ≡ b → fault_in submissions list n ≡ None → suc n ≤ most_lines
    by false e h = (let lt : n < most_lines = grind (arith, nat_tests, e) in omega (arith, lt))
    by true e h = absurd (let f = rw e at h in cc f)

pub all-said : (list : List (List ℕ)) (n : ℕ) → HaveNoFault submissions list n
    → AllByRecursion (IsSaid most_lines) (items_of submissions list n)
all-said list n sound = said-upto most_lines list n (few-lines list n sound)
